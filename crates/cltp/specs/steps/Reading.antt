-- Reading from left to right, with the first fault that is met.
use Rattle.std.specs.Prelude.{◌==◌, ◌||◌, not, ℕ, ◌+◌, nat_lt, nat_le, List, length, drop, slice_index, Option, Some, None, option_map, Result, Ok, Err, ⊤, if◌then◌else◌}
use Rattle.std.specs.Option.{option_or}
use Rattle.osi_base.specs.Fletcher.{is_sealed}
use Rattle.pdu_parts.specs.FirstFault.{first_failing}
use Rattle.pdu_parts.specs.Parameter.{Parameter, front_parameter, parameters_in, left_in}
use Rattle.pdu_parts.proofs.Readings.{◌>>=◌, unless}
use Rattle.script_journal.specs.declared.cause.UdCause.{UdCause}
use Rattle.script_journal.specs.declared.cause.UdCause.TheVariants.{Short, Length, Code, Param, Missing, Checksum}
use Rattle.cltp.specs.declared.fault.UdFault.{UdFault}
use Rattle.cltp.specs.declared.parameter.ValuesRef.{ValuesRef}
use Rattle.cltp.specs.declared.reading.HeadRef.{HeadRef}
use Rattle.cltp.specs.declared.reading.SelectorsRef.{SelectorsRef}
use Rattle.tpdu.specs.Faults.{indicator, header, behind}
use Rattle.tpdu.specs.Parameters.{last_value, sum_place}
use Rattle.cltp.specs.Parameters.{trouble}
use Rattle.cltp.specs.Faults.{fault_at, parameter_steps}
use Rattle.cltp.specs.Ud.{Ud}

-- one parameter, with the octets after it
abbrev pub judged : ℕ → Parameter × List ℕ → Option UdCause → Result (Parameter × List ℕ) UdFault
judged place found None = Ok found
judged place found (Some cause) = Err (fault_at cause place)

abbrev pub parameter_by : ℕ → Option (Parameter × List ℕ) → Result (Parameter × List ℕ) UdFault
parameter_by place None = Err (fault_at Param place)
parameter_by place (Some found) = judged place found (trouble found.0)

unfoldable pub parameter_at : ℕ → List ℕ → Result (Parameter × List ℕ) UdFault
parameter_at place octets = parameter_by place (front_parameter octets)

-- the values that count, and the place of that of the checksum
pub record Values : Type 0 where
  pub source : Option (List ℕ)
  pub destination : Option (List ℕ)
  pub sum : Option ℕ

abbrev pub values_view : ValuesRef → Values
values_view values = record {
  source = option_map (λ value. value.now) values.source;
  destination = option_map (λ value. value.now) values.destination;
  sum = values.sum;
}

abbrev pub values_of : ℕ → List Parameter → Values
values_of place ps = record { source = last_value 0xC1 ps; destination = last_value 0xC2 ps; sum = sum_place place ps }

-- the later of two values, part by part
abbrev pub or_before : Values → Values → Values
or_before later before = record {
  source = option_or later.source before.source;
  destination = option_or later.destination before.destination;
  sum = option_or later.sum before.sum;
}

-- those of one parameter, which begins at the place
abbrev pub value_at : ℕ → Parameter → Values
value_at place p = record {
  source = if p.code == 0xC1 then Some p.value else None;
  destination = if p.code == 0xC2 then Some p.value else None;
  sum = if p.code == 0xC3 then Some (place + 2) else None;
}

abbrev pub with_parameter : ℕ → Parameter → Values → Values
with_parameter place p before = or_before (value_at place p) before

-- all parameters of a header, which begin at the place
unfoldable pub checked : ℕ → List ℕ → Result Values UdFault
checked place octets =
    unless (first_failing (parameter_steps place (parameters_in octets) (left_in octets))) (values_of place (parameters_in octets))

-- the header behind the code, and what is behind the header
pub record Head : Type 0 where
  pub parameters : List ℕ
  pub body : List ℕ

abbrev pub head_view : HeadRef → Head
head_view head = record { parameters = head.parameters.now; body = head.body.now }

abbrev pub head_of : List ℕ → Head
head_of octets = record { parameters = drop 2 (header octets); body = behind octets }

unfoldable pub head_at : List ℕ → Result Head UdFault
head_at octets =
    if nat_lt (length octets) 2 then Err (fault_at Short 0)
    else if (indicator octets == 0) || nat_lt 254 (indicator octets) || nat_le (length octets) (indicator octets) then Err (fault_at Length 1)
    else if not (slice_index octets 1 == 0x40) then Err (fault_at Code 2)
    else Ok (head_of octets)

-- both selectors
pub record Selectors : Type 0 where
  pub from : List ℕ
  pub to : List ℕ

abbrev pub selectors_view : SelectorsRef → Selectors
selectors_view selectors = record { from = selectors.from.now; to = selectors.to.now }

abbrev pub both : Option (List ℕ) → Option (List ℕ) → Result Selectors UdFault
both None to = Err (fault_at Missing 0)
both (Some from) None = Err (fault_at Missing 0)
both (Some from) (Some to) = Ok (record { from = from; to = to })

abbrev pub selectors_at : Values → Result Selectors UdFault
selectors_at values = both values.source values.destination

-- the checksum, whose value may stand at this place
unfoldable pub close_at : Option ℕ → List ℕ → Result ⊤ UdFault
close_at (Some place) octets = if is_sealed octets then Ok tt else Err (fault_at Checksum place)
close_at None octets = Ok tt

unfoldable pub read_at : List ℕ → Result Ud UdFault
read_at octets = do
  head ← head_at octets
  values ← checked 3 head.parameters
  selectors ← selectors_at values
  done ← close_at values.sum octets
  Ok (record { from = selectors.from; to = selectors.to; octets = head.body })
