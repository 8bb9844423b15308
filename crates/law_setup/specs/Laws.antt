-- What a line that was read keeps, in each state of the names: the laws of this crate.
use Rattle.std.specs.Prelude.{◌≡◌, ℕ, ◌<◌, true, false, List, length, Ok}
use Rattle.std.specs.List.{AllByRecursion}
use Rattle.script_lines.specs.declared.line.Line.{Line}
use Rattle.script_lines.specs.Grammar.{line_read}
use Rattle.script_lines.specs.Known.{Declared}
use Rattle.script_lines.specs.Script.{Says}
use Rattle.script_setup.specs.Fitting.{IsWell}
use Rattle.script_setup.specs.SetUp.{SetUp}
use Rattle.law_tp4_lawful.specs.Limits.{IsProperLine}
use Rattle.law_setup.specs.Agreeing.{AreOne}
use Rattle.law_setup.specs.Lines.{Kept, LineInOctets, RunsAt}

-- until the start, where names and set-up are one and the set-up is well
abbrev pub LinesFit : Type 0
LinesFit = (names : Declared) (setup : SetUp) (octets : List ℕ) (line : Line) (new : Declared) → AreOne names setup → IsWell setup → names.started ≡ false
    → line_read names octets ≡ Ok (record { line = line; names = new }) → Kept setup line new

-- from the start on, below the last value of the clock
abbrev pub LinesRun : Type 0
LinesRun = (names : Declared) (clock : ℕ) (octets : List ℕ) (line : Line) (new : Declared) → names.started ≡ true → clock < 4000000000
    → line_read names octets ≡ Ok (record { line = line; names = new }) → RunsAt (length names.systems) clock line

abbrev pub LinesAreInOctets : Type 0
LinesAreInOctets = (names : Declared) (octets : List ℕ) (line : Line) (new : Declared) → line_read names octets ≡ Ok (record { line = line; names = new }) → LineInOctets line

abbrev pub LinesAreProper : Type 0
LinesAreProper = (names : Declared) (texts : List (List ℕ)) (script : List Line) (last : Declared) → names.started ≡ true → Says names texts script last → AllByRecursion IsProperLine script
