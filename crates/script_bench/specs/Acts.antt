-- What a script sets up and runs, as values: the command that reads it, how it begins, what a line does to it, and what it has in common with the
-- names declared.
use Rattle.std.specs.Prelude.{◌≡◌, ℕ, ◌+◌, ◌<◌, false, List, [], ◌∷◌, ◌++◌, Option, Ok}
use Rattle.line_loop.specs.Lines.{most_lines}
use Rattle.script_journal.specs.declared.event.Event.{Event}
use Rattle.script_lines.specs.declared.words.Dialect.{Dialect}
use Rattle.script_lines.specs.declared.line.Line.{Line}
use Rattle.script_lines.specs.Grammar.{line_read}
use Rattle.script_lines.specs.Known.{Declared, nothing_declared}
use Rattle.script_bench.specs.Script.{IsPlaced, is_start}

-- what is set up and run, in its states
pub record Acts (W : Type 0) : Type 1 where
  -- the command that reads the script
  pub dialect : Dialect
  -- nothing was said yet
  pub first : W
  -- in a state a line has these events and leads to a state
  pub step : W → Line → List Event → W → Type 0
  -- how many arrivals equalled no unit afloat, where something was injected
  pub strays : W → Option ℕ

-- the lines have these events, one after another
abbrev pub RunsScript : {W : Type 0} → Acts W → W → List Line → List Event → W → Type 0
RunsScript acts first [] journal last = (journal ≡ []) × (last ≡ first)
RunsScript {W} acts first (line ∷ lines) journal last =
    (mid : W) × (made rest : List Event) × acts.step first line made mid × (journal ≡ made ++ rest) × RunsScript acts mid lines rest last

-- what carries a run from line to line
pub record Keeping (W : Type 0) : Type 1 where
  -- a state has the line
  pub runs : W → Line → Type 0
  -- what names and state have in common after so many lines
  pub agrees : Declared → W → ℕ → Type 0

-- a line has a step
pub record HasStep {W : Type 0} (acts : Acts W) (old : W) (line : Line) : Type 0 where
  pub made : List Event
  pub new : W
  pub steps : acts.step old line made new

-- a line has one step; until the start nothing happens; names and state go on agreeing; and where they do, a line that is read is had, and has a
-- step
pub record StageLaws {W : Type 0} (acts : Acts W) (keeping : Keeping W) : Type 0 where
  pub one_step : (line : Line) (old : W) (made other : List Event) (new last : W) → acts.step old line made new → acts.step old line other last → (made ≡ other) × (new ≡ last)
  pub quiet : (line : Line) (old : W) (made : List Event) (new : W) → IsPlaced false line → is_start line ≡ false → acts.step old line made new → made ≡ []
  pub begins : keeping.agrees (nothing_declared acts.dialect) acts.first 0
  pub read_runs : (names declared : Declared) (old : W) (count : ℕ) (octets : List ℕ) (line : Line) → keeping.agrees names old count → count < most_lines
      → line_read names octets ≡ Ok (record { line = line; names = declared }) → keeping.runs old line
  pub read_agrees : (names declared : Declared) (old : W) (count : ℕ) (octets : List ℕ) (line : Line) (made : List Event) (new : W) → keeping.agrees names old count → count < most_lines
      → line_read names octets ≡ Ok (record { line = line; names = declared }) → acts.step old line made new → keeping.agrees declared new (count + 1)
  pub some_step : (names declared : Declared) (old : W) (count : ℕ) (octets : List ℕ) (line : Line) → keeping.agrees names old count → count < most_lines
      → line_read names octets ≡ Ok (record { line = line; names = declared }) → HasStep acts old line
