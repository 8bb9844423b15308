-- What a reading gives, or why it gives nothing.
use Rattle.std.specs.Prelude.{◌≡◌, Result, Ok, Err}
use Rattle.script_lines.specs.declared.cause.LineCause.{LineCause}
use Rattle.script_lines.specs.declared.cause.LineFault.{LineFault}
use Rattle.script_lines.specs.declared.cause.FieldRefusal.{FieldRefusal}
use Rattle.script_lines.specs.declared.cause.FieldRefusal.TheVariants as fields
use Rattle.script_lines.specs.declared.cause.LineRefusal.{LineRefusal}
use Rattle.script_lines.specs.declared.cause.LineRefusal.TheVariants as lines

-- after the answer of a field stands what the definition reads, or the cause is its cause
abbrev pub Gives : {A U : Type 0} → Result A LineCause → Result U FieldRefusal → A → Type 0
Gives read (Ok done) now = read ≡ Ok now
Gives read (Err (fields.Cause cause)) now = read ≡ Err cause
Gives read (Err fields.NoMemory) now = Unit {0}

-- the same of a line, with the column of its fault
abbrev pub GivesAt : {A U : Type 0} → Result A LineFault → Result U LineRefusal → A → Type 0
GivesAt read (Ok done) now = read ≡ Ok now
GivesAt read (Err (lines.Fault fault)) now = read ≡ Err fault
GivesAt read (Err lines.NoMemory) now = Unit {0}

-- what is read, put into its place
abbrev pub into : {A B E : Type 0} → Result A E → (A → B) → Result B E
into (Ok value) place = Ok (place value)
into (Err cause) place = Err cause

-- the one reading, then the other
abbrev pub then_read : {A B E : Type 0} → Result A E → (A → Result B E) → Result B E
then_read (Ok value) next = next value
then_read (Err cause) next = Err cause

-- what is found, or why nothing is; want of memory tells nothing
abbrev pub Found : {A : Type 0} → Result A LineCause → Result A FieldRefusal → Type 0
Found read (Ok value) = read ≡ Ok value
Found read (Err (fields.Cause cause)) = read ≡ Err cause
Found read (Err fields.NoMemory) = Unit {0}
