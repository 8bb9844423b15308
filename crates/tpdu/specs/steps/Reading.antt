-- Reading from left to right, with the first fault that is met.
use Rattle.std.specs.Prelude.{◌≡◌, ◌==◌, ◌&&◌, ◌||◌, not, ℕ, ◌+◌, ◌/◌, Bool, nat_lt, nat_le, List, [], length, take, drop, slice_index, Option, Some, None, is_some, Result, Ok, Err, ⊤, if◌then◌else◌}
use Rattle.osi_base.specs.Fletcher.{is_sealed}
use Rattle.pdu_parts.specs.FirstFault.{first_failing}
use Rattle.pdu_parts.specs.Parameter.{Parameter, front_parameter, parameters_in, left_in}
use Rattle.pdu_parts.proofs.Readings.{◌>>=◌, unless}
use Rattle.tpdu.specs.declared.fault.TpduCause.{TpduCause}
use Rattle.tpdu.specs.declared.fault.TpduCause.TheVariants.{Short, Length, Code, Fixed, Class, Param, Checksum, Body}
use Rattle.tpdu.specs.declared.fault.TpduFault.{TpduFault}
use Rattle.tpdu.specs.declared.kind.Kind.{Kind}
use Rattle.tpdu.specs.declared.sections.HeadRef.{HeadRef}
use Rattle.tpdu.specs.declared.sections.SectionsRef.{SectionsRef}
use Rattle.tpdu.specs.declared.tpdu.Format.{Format}
use Rattle.tpdu.specs.declared.tpdu.TpduRef.{TpduRef}
use Rattle.tpdu.specs.Kinds.{kind_of, fixed_count, is_request, is_connect, takes_rest, data_suits}
use Rattle.tpdu.specs.Parameters.{trouble, sum_place}
use Rattle.tpdu.specs.Values.{TpduAndSum, Parts, value_of, fields, tpdu_of, sum_of}
use Rattle.tpdu.specs.Faults.{indicator, header, behind, whole, body_of, format_at, fault_at, parameter_steps}

-- one parameter, with the octets after it
abbrev pub judged : ℕ → Parameter × List ℕ → Option TpduCause → Result (Parameter × List ℕ) TpduFault
judged place found None = Ok found
judged place found (Some cause) = Err (fault_at cause place)

abbrev pub parameter_by : Kind → ℕ → Option (Parameter × List ℕ) → Result (Parameter × List ℕ) TpduFault
parameter_by kind place None = Err (fault_at Param place)
parameter_by kind place (Some found) = judged place found (trouble kind found.0)

unfoldable pub parameter_at : Kind → ℕ → List ℕ → Result (Parameter × List ℕ) TpduFault
parameter_at kind place octets = parameter_by kind place (front_parameter octets)

-- all parameters of a header: the place of the last checksum
unfoldable pub checked : Kind → ℕ → List ℕ → Result (Option ℕ) TpduFault
checked kind place octets =
    unless (first_failing (parameter_steps kind place (parameters_in octets) (left_in octets))) (sum_place place (parameters_in octets))

-- the front of a TPDU: its kind, the header behind the code, all of its octets, its data, what follows it
pub record Head : Type 0 where
  pub kind : Kind
  pub code : ℕ
  pub fields : List ℕ
  pub all : List ℕ
  pub body : List ℕ
  pub rest : List ℕ

abbrev pub head_view : HeadRef → Head
head_view head = record {
  kind = head.kind;
  code = head.code;
  fields = head.fields.now;
  all = head.all.now;
  body = head.body.now;
  rest = head.rest.now;
}

-- the front of a TPDU of that kind
abbrev pub head_for : Kind → List ℕ → Head
head_for kind octets = record {
  kind = kind;
  code = slice_index octets 1;
  fields = drop 2 (header octets);
  all = whole kind octets;
  body = body_of kind octets;
  rest = if takes_rest kind then [] else behind octets;
}

abbrev pub head_by : List ℕ → Option Kind → Result Head TpduFault
head_by octets None = Err (fault_at Code 2)
head_by octets (Some kind) = Ok (head_for kind octets)

unfoldable pub head_at : List ℕ → Result Head TpduFault
head_at octets =
    if nat_lt (length octets) 2 then Err (fault_at Short 0)
    else if (indicator octets == 0) || nat_lt 254 (indicator octets) || nat_le (length octets) (indicator octets) then Err (fault_at Length 1)
    else head_by octets (kind_of (slice_index octets 1))

-- the format, and the octets of the fixed part and of the parameters
pub record Sections : Type 0 where
  pub format : Format
  pub fixed : List ℕ
  pub parameters : List ℕ

abbrev pub sections_view : SectionsRef → Sections
sections_view sections = record { format = sections.format; fixed = sections.fixed.now; parameters = sections.parameters.now }

abbrev pub sections_by : Kind → List ℕ → Format → ℕ → Result Sections TpduFault
sections_by kind fields format count =
    if nat_lt (length fields) count then Err (fault_at Fixed 1)
    else if is_connect kind && not (slice_index fields 4 / 16 == 4) then Err (fault_at Class 7)
    else Ok (record { format = format; fixed = take count fields; parameters = drop count fields })

unfoldable pub sections_at : List ℕ → Kind → List ℕ → Result Sections TpduFault
sections_at extended kind fields =
    sections_by kind fields (format_at extended kind fields) (fixed_count kind (format_at extended kind fields))

-- the checksum, whose value may stand at this place, and then the data
abbrev pub data_at : Kind → ℕ → List ℕ → Result ⊤ TpduFault
data_at kind place body = if data_suits kind (length body) then Ok tt else Err (fault_at Body place)

unfoldable pub close_at : Kind → Option ℕ → List ℕ → ℕ → List ℕ → Result ⊤ TpduFault
close_at kind (Some sum) all place body = if is_sealed all then data_at kind place body else Err (fault_at Checksum sum)
close_at kind None all place body = if is_request kind then Err (fault_at Checksum 0) else data_at kind place body

-- the TPDU at the front, and the rest
abbrev pub Found : Type 0
Found = TpduAndSum × List ℕ

abbrev pub parts_of : Head → Sections → Parts
parts_of head sections = record {
  kind = head.kind;
  format = sections.format;
  code = head.code;
  fixed = sections.fixed;
  parameters = parameters_in sections.parameters;
  body = head.body;
}

unfoldable pub read_at : List ℕ → List ℕ → Result Found TpduFault
read_at extended octets = do
  head ← head_at octets
  sections ← sections_at extended head.kind head.fields
  sum ← checked head.kind (3 + length sections.fixed) sections.parameters
  done ← close_at head.kind sum head.all (indicator octets + 2) head.body
  Ok ((value_of (parts_of head sections), is_some sum), head.rest)

-- the TPDU is what a header of that kind stands for, with its code, its sections and the data
abbrev pub IsOf : Kind → ℕ → SectionsRef → List ℕ → Bool → TpduRef → Type 0
IsOf kind code sections body sum tpdu =
    (tpdu_of tpdu ≡ fields kind sections.format code sections.fixed.now (parameters_in sections.parameters.now) body) × (sum_of tpdu ≡ sum)
