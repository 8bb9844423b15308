-- Once a network runs it goes on to, and no name is declared.
use Rattle.std.proofs.Common.{◌≡◌, ◌⊎◌, Bool, true, false, inl, inr, refl, sym, ◌∙◌, ap}
use Rattle.std.proofs.lemmas.Bool.{false≢true}
use Rattle.script_lines.specs.declared.line.Line.{Line}
use Rattle.script_lines.specs.Known.{Declared}
use Rattle.script_bench.specs.Script.{is_start, started_after}
use Rattle.script_bench.specs.steps.Moves.{start_only, starts_not}

pub still_started : (started : Bool) (line : Line) → started ≡ true → started_after started line ≡ true
still_started started line is = by (is_start line) refl
  where
    by : (b : Bool) → is_start line ≡ b → started_after started line ≡ true
    by true start = ap (λ (l : Line). started_after started l) (start_only line start)
    by false other = starts_not started line other ∙ is

-- no name is declared once the network runs
pub names_kept : (names new : Declared) → names.started ≡ true → (names.started ≡ false) ⊎ (new ≡ names) → new ≡ names
names_kept names new begun (inl not_yet) = absurd (false≢true (sym not_yet ∙ begun))
names_kept names new begun (inr same) = same
