-- The refused line of an input beside the first fault of a script.
use Rattle.std.specs.Prelude.{◌≡◌, ◌≢◌, ℕ, List, [], ◌∷◌, ◌++◌, length}
use Rattle.line_loop.specs.Course.{IsRefusedAt, IsRefusedAtEnd}
use Rattle.line_loop.specs.Lines.{open_line}
use Rattle.script_journal.specs.declared.event.Event.{Event}
use Rattle.script_lines.specs.declared.cause.LineCause.TheVariants as causes
use Rattle.script_lines.specs.declared.cause.LineFault.{LineFault}
use Rattle.script_lines.specs.Grammar.{fault}
use Rattle.script_lines.specs.Script.{LineFaultAt}
use Rattle.script_bench.specs.Acts.{Acts}
use Rattle.script_bench.specs.Bench.{Bench, bench_meaning, first_bench}
use Rattle.script_bench.specs.Claims.{texts_in}
use Rattle.law_refusals.specs.NextLine.{IsNextLine}

module _ {W : Type 0} (acts : Acts W) where
  -- a line that is refused at its line feed is the first refused line of the lines of the octets, with its fault
  abbrev pub RefusesFirstFault : Type 0
  RefusesFirstFault = (read : List ℕ) (line : ℕ) (said : LineFault) (journal : List Event) (last : Bench W)
      → (here : IsRefusedAt (bench_meaning acts) (first_bench acts) read line said journal last) → here.octet ≡ 10
      → LineFaultAt acts.dialect (texts_in read) line said

  -- a line that is refused at another octet has as many octets before it as a line may have, and is refused as too long
  abbrev pub RefusesLongLine : Type 0
  RefusesLongLine = (read : List ℕ) (line : ℕ) (said : LineFault) (journal : List Event) (last : Bench W)
      → (here : IsRefusedAt (bench_meaning acts) (first_bench acts) read line said journal last) → here.octet ≢ 10
      → (length (open_line here.front) ≡ 40000) × (said ≡ fault causes.Long 40001) × IsNextLine acts (texts_in here.front) line

  -- a last line without a line feed that is refused is the first refused line, with its fault
  abbrev pub RefusesLastFault : Type 0
  RefusesLastFault = (read : List ℕ) (line : ℕ) (said : LineFault) (journal : List Event) (last : Bench W)
      → IsRefusedAtEnd (bench_meaning acts) (first_bench acts) read line said journal last
      → LineFaultAt acts.dialect (texts_in read ++ open_line read ∷ []) line said
