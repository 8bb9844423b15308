-- The lines before a refused one ran, so they are what the script says before it; and the names that they leave are those by which it is read.
use Rattle.std.proofs.Common.{◌≡◌, ℕ, ◌+◌, List, [], ◌∷◌, ◌++◌, length, map, inl, inr, refl, sym, ◌∙◌, ap}
use Rattle.std.specs.Prelude.{Err}
use Rattle.std.proofs.lemmas.List.{length-map, map-append}
use Rattle.line_loop.specs.Course.{IsRead}
use Rattle.line_loop.specs.Lines.{open_line, whole_lines, without_return}
use Rattle.line_loop.proofs.Lines.{whole_feed}
use Rattle.script_journal.specs.declared.event.Event.{Event}
use Rattle.script_lines.specs.declared.cause.LineFault.{LineFault}
use Rattle.script_lines.specs.Grammar.{line_read}
use Rattle.script_lines.specs.Script.{LineFaultAt}
use Rattle.script_bench.specs.Acts.{Acts}
use Rattle.script_bench.specs.Bench.{Bench, bench_meaning, first_bench}
use Rattle.script_bench.specs.Claims.{lines_run, texts_in}
use Rattle.script_bench.proofs.Runs.{ran}
use Rattle.law_refusals.specs.Laws.{RefusesFirstFault, RefusesLastFault, RefusesLongLine}

texts_feed : (front more : List ℕ) → texts_in (front ++ 10 ∷ more) ≡ texts_in front ++ without_return (open_line front) ∷ texts_in more
texts_feed front more = ap (λ (lines : List (List ℕ)). map without_return lines) (whole_feed front more) ∙ map-append without_return (whole_lines front) (open_line front ∷ whole_lines more)

module _ {W : Type 0} (acts : Acts W) where
  numbered : (front : List ℕ) (line : ℕ) → line ≡ length (whole_lines front) + 1 → line ≡ length (texts_in front) + 1
  numbered front line number = number ∙ ap (λ (n : ℕ). n + 1) (sym (length-map (whole_lines front) without_return))

  -- behind lines that ran, a line that has no reading by their names is the first refused one
  first_fault : (front : List ℕ) (journal : List Event) (last : Bench W) (refused : List ℕ) (after script : List (List ℕ)) (line : ℕ) (said : LineFault)
      → IsRead (bench_meaning acts) (first_bench acts) front journal last → line_read last.names refused ≡ Err said → line ≡ length (whole_lines front) + 1
      → script ≡ texts_in front ++ refused ∷ after → LineFaultAt acts.dialect script line said
  first_fault front journal last refused after script line said so_far fault number is = record {
    before = texts_in front;
    refused = refused;
    after = after;
    lines = lines_run acts (first_bench acts) (texts_in front) journal last so_far.runs;
    names = last.names;
    is = is;
    said = (ran acts (first_bench acts) (texts_in front) journal last so_far.runs).says;
    found_is = fault;
    number_is = numbered front line number;
  }

  pub refuses_first : RefusesFirstFault acts
  refuses_first read line said journal last here feed = elim here.refused [
    | inl at_feed ↦ first_fault here.front journal last (without_return (open_line here.front)) (texts_in here.more) (texts_in read) line said here.so_far at_feed.1 here.number
        (ap texts_in (here.place ∙ ap (λ (octet : ℕ). here.front ++ octet ∷ here.more) feed) ∙ texts_feed here.front here.more)
    | inr long ↦ absurd (long.0 feed)
  ]

  pub refuses_long : RefusesLongLine acts
  refuses_long read line said journal last here other = elim here.refused [
    | inl at_feed ↦ absurd (other at_feed.0)
    | inr long ↦ (
      long.1,
      long.2,
      record {
        lines = lines_run acts (first_bench acts) (texts_in here.front) journal last here.so_far.runs;
        names = last.names;
        said = (ran acts (first_bench acts) (texts_in here.front) journal last here.so_far.runs).says;
        number_is = numbered here.front line here.number;
      },
    )
  ]

  pub refuses_last : RefusesLastFault acts
  refuses_last read line said journal last here =
      first_fault read journal last (open_line read) [] (texts_in read ++ open_line read ∷ []) line said here.so_far here.refused here.number refl
