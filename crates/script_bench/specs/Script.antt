-- Where each line of a script may stand.
use Rattle.std.specs.Prelude.{◌≡◌, Bool, true, false}
use Rattle.script_lines.specs.declared.line.Line.{Line}
use Rattle.script_lines.specs.declared.line.Line.TheVariants as lines

-- `start` ends the set-up
abbrev pub is_start : Line → Bool
is_start lines.Start = true
is_start line = false

-- a set-up line stands before `start`, an event line after it
abbrev pub IsPlaced : Bool → Line → Type 0
IsPlaced started lines.Nothing = Unit {0}
IsPlaced started (lines.Lan name bound room) = started ≡ false
IsPlaced started (lines.Es name title) = started ≡ false
IsPlaced started (lines.Port system lan snpa) = started ≡ false
IsPlaced started (lines.Route system prefix next lan) = started ≡ false
IsPlaced started lines.Start = started ≡ false
IsPlaced started (lines.Version version) = started ≡ false
IsPlaced started (lines.Set key value) = started ≡ false
IsPlaced started (lines.Is name title) = started ≡ false
IsPlaced started (lines.Path name kind systems) = started ≡ false
IsPlaced started (lines.Tsap system selector) = started ≡ false
IsPlaced started (lines.Relay system selector to called) = started ≡ false
IsPlaced started line = started ≡ true

-- whether the set-up has ended after a line
abbrev pub started_after : Bool → Line → Bool
started_after started lines.Start = true
started_after started line = started
