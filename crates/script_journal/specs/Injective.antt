-- What is asked of names and events for that their text tells them.
use Rattle.std.specs.Prelude.{◌≡◌, ℕ, ◌<◌, ◌^◌, ◌*◌, Bool, true, false, if◌then◌else◌, List, [], ◌∷◌, length, nat_lt}
use Rattle.hex.specs.Hex.{IsBytes}
use Rattle.script_lines.specs.Tags.{Tags}
use Rattle.script_journal.specs.Told.{cells_of}
use Rattle.script_journal.specs.Cells.{Cell, Word, Number, Preferred, System, Lan, Digits, Octets}
use Rattle.script_journal.specs.declared.event.Event.{Event}

-- each octet is above the blank
abbrev pub plain : List ℕ → Bool
plain [] = true
plain (c ∷ cs) = if nat_lt 32 c then plain cs else false

-- what is asked of a cell: a number of 64 bits, a size of whole units of 128 octets, a declared name, octets, and at least one where no `-` stands for none
abbrev pub IsTold : Tags → Cell → Type 0
IsTold tags (Word text) = plain text ≡ true
IsTold tags (Number number) = number < 2 ^ 64
IsTold tags (Preferred size) = (n : ℕ) × (size ≡ 128 * n) × (n < 2 ^ 64)
IsTold tags (System system) = system < length tags.systems
IsTold tags (Lan lan) = lan < length tags.lans
IsTold tags (Digits octets) = IsBytes octets × (0 < length octets)
IsTold tags (Octets octets) = IsBytes octets

abbrev pub AreTold : Tags → List Cell → Type 0
AreTold tags [] = Unit {0}
AreTold tags (cell ∷ cells) = IsTold tags cell × AreTold tags cells

-- the events of a journal whose names are declared
abbrev pub EachTold : Tags → List Event → Type 0
EachTold tags [] = Unit {0}
EachTold tags (event ∷ events) = AreTold tags (cells_of event) × EachTold tags events
