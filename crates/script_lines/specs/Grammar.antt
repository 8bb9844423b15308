-- The lines of the script: what each says, and the first fault of each that is refused.
use Rattle.std.specs.Prelude.{◌≡◌, ◌==◌, ℕ, ◌+◌, Bool, true, false, not, ◌&&◌, ◌||◌, nat_lt, if◌then◌else◌, List, [], ◌∷◌, ◌++◌, length}
use Rattle.std.specs.Prelude.{position, Option, Some, None, slice_get, Result, Ok, Err}
use Rattle.std.specs.List.{list_any}
use Rattle.nsap.specs.declared.port.Port.{Port}
use Rattle.script_lines.specs.declared.cause.LineCause.{LineCause}
use Rattle.script_lines.specs.declared.cause.LineCause.TheVariants as causes
use Rattle.script_lines.specs.declared.cause.LineFault.{LineFault}
use Rattle.script_lines.specs.declared.words.Effect.{Effect}
use Rattle.script_lines.specs.declared.words.Effect.TheVariants as effects
use Rattle.script_lines.specs.declared.words.Word.{Word}
use Rattle.script_lines.specs.declared.words.Word.TheVariants as words
use Rattle.script_lines.specs.declared.words.FieldKind.{FieldKind}
use Rattle.script_lines.specs.declared.cause.LineRefusal.{LineRefusal}
use Rattle.script_lines.specs.declared.cause.LineRefusal.TheVariants as refusals
use Rattle.script_lines.specs.declared.line.Line.{Line}
use Rattle.script_lines.specs.declared.line.Line.TheVariants as lines
use Rattle.script_lines.specs.declared.field_values.FieldValues.{FieldValues}
use Rattle.script_lines.specs.declared.settings.Key.TheVariants as keys
use Rattle.script_lines.specs.Settings.{setting_or, with_setting}
use Rattle.script_lines.specs.Field.{fields_of, is_printable}
use Rattle.script_lines.specs.Known.{Declared, KnownSystem, with, no_parts, given_title, given_station, given_prefix, is_end, ports_of, routes_of, changed, is_untouched}
use Rattle.script_lines.specs.Table.{row_of, word_of}
use Rattle.script_lines.specs.Reading.{field_read}

abbrev pub fault : LineCause → ℕ → LineFault
fault cause column = record { cause = cause; column = column }

-- the column of the next field, after a field at a column
abbrev pub next_column : ℕ → List ℕ → ℕ
next_column column field = column + length field + 1

-- too few fields, one past the line, or the first extra one
abbrev pub count_fault : ℕ → ℕ → List FieldKind → List (List ℕ) → Option LineFault
count_fault past column [] [] = None
count_fault past column [] (field ∷ fields) = Some (fault causes.Fields column)
count_fault past column (form ∷ forms) [] = Some (fault causes.Fields past)
count_fault past column (form ∷ forms) (field ∷ fields) = count_fault past (next_column column field) forms fields

abbrev pub at_column : ℕ → Result FieldValues LineCause → (FieldValues → Result FieldValues LineFault) → Result FieldValues LineFault
at_column column (Ok parts) next = next parts
at_column column (Err cause) next = Err (fault cause column)

-- the fields one after another, and the first that is refused with its column
abbrev pub fields_read : Declared → FieldValues → ℕ → List FieldKind → List (List ℕ) → Result FieldValues LineFault
fields_read names parts column [] fields = Ok parts
fields_read names parts column (form ∷ forms) [] = Ok parts
fields_read names parts column (form ∷ forms) (field ∷ fields) =
    at_column column (field_read names parts form field) (λ more. fields_read names more (next_column column field) forms fields)

-- as many as there may be
abbrev pub many_from : ℕ → ℕ → Option LineCause
many_from limit count = if nat_lt count limit then None else Some causes.Many

-- the lifetime is below the bound of a LAN
abbrev pub life_cause : Declared → Option LineCause
life_cause names = if list_any (λ lan. nat_lt (setting_or names.settings keys.Life) lan.bound) names.lans then Some causes.Life else None

-- a limit that the line would pass
abbrev pub limit_cause : Declared → Effect → FieldValues → Option LineCause
limit_cause names effects.Nothing parts = None
limit_cause names effects.Version parts = None
limit_cause names effects.Setting parts = None
limit_cause names effects.Lan parts = many_from 16 (length names.lans)
limit_cause names effects.EndSystem parts = many_from 16 (length names.systems)
limit_cause names effects.IntermediateSystem parts = many_from 16 (length names.systems)
limit_cause names effects.Port parts = many_from (if is_end names parts.system then 1 else 8) (length (ports_of (slice_get names.systems parts.system)))
limit_cause names effects.Route parts = many_from 256 (length (routes_of (slice_get names.systems parts.system)))
limit_cause names effects.Path parts = many_from 16 (length names.paths)
limit_cause names effects.Selector parts = None
limit_cause names effects.Start parts = life_cause names

-- the number that a declaration gives: systems and LANs from 0, source routes from 1
abbrev pub next_number : Declared → Effect → ℕ
next_number names effects.Lan = length names.lans
next_number names effects.EndSystem = length names.systems
next_number names effects.IntermediateSystem = length names.systems
next_number names effects.Path = length names.paths + 1
next_number names effect = 0

-- the line that the fields make
abbrev pub line_for : ℕ → Word → FieldValues → Line
line_for number words.Version parts = lines.Version parts.number
line_for number words.Set parts = lines.Set parts.key parts.number
line_for number words.Lan parts = lines.Lan number parts.number parts.amount
line_for number words.Es parts = lines.Es number (given_title parts)
line_for number words.Is parts = lines.Is number (given_title parts)
line_for number words.Port parts = lines.Port parts.system parts.lan (given_station parts)
line_for number words.Route parts = lines.Route parts.system (given_prefix parts) parts.other parts.lan
line_for number words.Path parts = lines.Path number parts.kind parts.hops
line_for number words.Tsap parts = lines.Tsap parts.system parts.selector
line_for number words.Relay parts = lines.Relay parts.system parts.selector parts.other parts.called
line_for number words.Start parts = lines.Start
line_for number words.Connect parts = lines.Connect parts.system parts.selector parts.other parts.called parts.options parts.octets
line_for number words.Accept parts = lines.Accept parts.number parts.options parts.octets
line_for number words.Refuse parts = lines.Refuse parts.number parts.octets
line_for number words.Disconnect parts = lines.Disconnect parts.number parts.octets
line_for number words.Data parts = lines.Data parts.number parts.octets
line_for number words.Expedite parts = lines.Expedite parts.number parts.octets
line_for number words.Window parts = lines.Window parts.number parts.credit
line_for number words.Unit parts = lines.Unit parts.system parts.other parts.wish parts.octets
line_for number words.Tick parts = lines.Tick
line_for number words.Settle parts = lines.Settle
line_for number words.Deliver parts = lines.Deliver parts.number parts.system
line_for number words.Inject parts = lines.Inject parts.lan parts.system parts.octets
line_for number words.Restart parts = lines.Restart parts.system
line_for number words.Send parts = lines.Send parts.system parts.selector parts.other parts.called parts.octets

abbrev pub new_system : Bool → FieldValues → KnownSystem
new_system is_end parts = record { name = parts.name; is_end = is_end; title = given_title parts; ports = []; routes = []; selectors = [] }

abbrev pub new_port : FieldValues → Port
new_port parts = record { lan = parts.lan; snpa = given_station parts }

-- what is declared after a line
abbrev pub declared_by : Declared → Effect → FieldValues → Declared
declared_by names effects.Version parts = record names { second = parts.number == 2; versioned = true }
declared_by names effects.Setting parts = record names { settings = with_setting names.settings parts.key parts.number }
declared_by names effects.Lan parts = record names { lans = names.lans ++ record { name = parts.name; bound = parts.number } ∷ [] }
declared_by names effects.EndSystem parts = record names { systems = names.systems ++ new_system true parts ∷ [] }
declared_by names effects.IntermediateSystem parts = record names { systems = names.systems ++ new_system false parts ∷ [] }
declared_by names effects.Port parts =
    record names { systems = changed names.systems parts.system (λ system. record system { ports = system.ports ++ new_port parts ∷ [] }) }
declared_by names effects.Route parts =
    record names { systems = changed names.systems parts.system (λ system. record system { routes = system.routes ++ given_prefix parts ∷ [] }) }
declared_by names effects.Path parts = record names { paths = names.paths ++ parts.name ∷ [] }
declared_by names effects.Selector parts =
    record names { systems = changed names.systems parts.system (λ system. record system { selectors = with system.selectors parts.selector }) }
declared_by names effects.Start parts = record names { started = true }
declared_by names effects.Nothing parts = names

-- a line and what is declared after it
pub record Reading : Type 0 where
  pub line : Line
  pub names : Declared

abbrev pub with_limit : Declared → Word → FieldValues → Option LineCause → Result Reading LineFault
with_limit names word parts (Some cause) = Err (fault cause 1)
with_limit names word parts None =
    Ok (record { line = line_for (next_number names (row_of word).effect) word parts; names = declared_by names (row_of word).effect parts })

abbrev pub whole_read : Declared → Word → Result FieldValues LineFault → Result Reading LineFault
whole_read names word (Err found) = Err found
whole_read names word (Ok parts) = with_limit names word parts (limit_cause names (row_of word).effect parts)

abbrev pub counted_read : Declared → Word → ℕ → List (List ℕ) → Option LineFault → Result Reading LineFault
counted_read names word column fields (Some found) = Err found
counted_read names word column fields None = whole_read names word (fields_read names no_parts column (row_of word).fields fields)

-- a line that has to come first behind one that did something, a line of the set-up behind `start`, or another before it
abbrev pub stands_wrong : Declared → Bool → Bool → Bool
stands_wrong names of_set_up is_first = (is_first && not (is_untouched names)) || (if of_set_up then names.started else not names.started)

abbrev pub is_out_of_order : Declared → Word → Bool
is_out_of_order names word = stands_wrong names (row_of word).of_set_up (row_of word).is_first

-- a line of version 2 in a script of version 1
abbrev pub is_of_later_version : Declared → Word → Bool
is_of_later_version names word = (row_of word).is_later && not names.second

-- the line of a word, of so many columns, with the fields after the word
abbrev pub worded_read : Declared → ℕ → ℕ → List (List ℕ) → Option Word → Result Reading LineFault
worded_read names past column fields None = Err (fault causes.Word 1)
worded_read names past column fields (Some word) =
    if is_of_later_version names word then Err (fault causes.Word 1)
    else if is_out_of_order names word then Err (fault causes.Order 1)
    else counted_read names word column fields (count_fault past column (row_of word).fields fields)

abbrev pub split_read : Declared → ℕ → List (List ℕ) → Result Reading LineFault
split_read names past [] = Err (fault causes.Word 1)
split_read names past (word ∷ fields) = worded_read names past (next_column 1 word) fields (word_of names.dialect word)

-- an empty line, or one that begins with `#`
abbrev pub is_idle : List ℕ → Bool
is_idle [] = true
is_idle (octet ∷ octets) = octet == 35

-- a line of printable characters
unfoldable pub text_read : Declared → List ℕ → Result Reading LineFault
text_read names text = if is_idle text then Ok (record { line = lines.Nothing; names = names }) else split_read names (length text + 1) (fields_of text)

abbrev pub printable_read : Declared → List ℕ → Option ℕ → Result Reading LineFault
printable_read names octets (Some place) = Err (fault causes.Ascii (place + 1))
printable_read names octets None = text_read names octets

-- what a line says after the lines that declared these names, or its first fault
unfoldable pub line_read : Declared → List ℕ → Result Reading LineFault
line_read names octets =
    if nat_lt 40000 (length octets) then Err (fault causes.Long 40001)
    else printable_read names octets (position (λ octet. not (is_printable octet)) octets)

-- the answer is that reading, and a line that is refused declares nothing
abbrev pub Reads : Result Reading LineFault → Declared → Result Line LineRefusal → Declared → Type 0
Reads read old (Ok line) new = read ≡ Ok (record { line = line; names = new })
Reads read old (Err (refusals.Fault found)) new = (read ≡ Err found) × (new ≡ old)
Reads read old (Err refusals.NoMemory) new = new ≡ old
