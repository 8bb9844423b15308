-- A generated script asks for one status and one text, and that comes, or a failure in its place.
use Rattle.std.proofs.Common.{◌≡◌, ◌⊎◌, ℕ, List, [], ◌∷◌, ◌++◌, Option, inl, inr, refl, sym, ◌∙◌, ap, subst}
use Rattle.octet_loop.specs.ByStatus.{IsFailure}
use Rattle.osi_base.specs.Ends.{HasRisen, Put}
use Rattle.osi_base.specs.declared.status.Status.{Status}
use Rattle.osi_base.specs.declared.status.Status.TheVariants.{Done, RefusedLine, RefusedWords, ReadFault, WriteFault, NoMemory, RefusedCapture, TooMuch}
use Rattle.script_journal.specs.declared.event.Event.{Event}
use Rattle.script_storm.specs.Counted.{counts_of}
use Rattle.script_storm.specs.declared.request.Storm.{Storm}
use Rattle.script_storm.specs.Summary.{summary_line}
use Rattle.law_run.specs.Bench.{Bench, first_bench}
use Rattle.osi_storm.specs.Laws.{AsksOneSummary}
use Rattle.osi_storm.specs.Storm.{AsksSummary, StormFills, StormRuns, SummaryOutcome, storm_lines}
use Rattle.script_bench.specs.Text.{done_line}
use Rattle.law_run.proofs.WorldLaws.{bench_laws}

-- ---- one course

one_run : (lines : List (List Event → List ℕ)) (first : Bench) (before journal other : List Event) (last next : Bench) → StormRuns first before lines journal last → StormRuns first before lines other next
    → (journal ≡ other) × (last ≡ next)
one_run [] first before journal other last next a b = (a.0 ∙ sym b.0, a.1 ∙ sym b.1)
one_run (line ∷ lines) first before journal other last next a b =
    let one = bench_laws.one_step first (line before) a.0 b.0 a.1 b.1 a.2 b.2 in
    let rest : StormRuns b.1 (before ++ b.0) lines journal last =
    subst (λ (made : List Event). StormRuns b.1 (before ++ made) lines journal last) one.0 (subst (λ (bench : Bench). StormRuns bench (before ++ a.0) lines journal last) one.1 a.3) in
    one_run lines b.1 (before ++ b.0) journal other last next rest b.3

not_filled : (lines : List (List Event → List ℕ)) (first : Bench) (before journal : List Event) (last : Bench) → StormRuns first before lines journal last → StormFills first before lines → ⊥
not_filled [] first before journal last a b = b
not_filled (line ∷ lines) first before journal last a (inl fills) = bench_laws.step_or_filling first (line before) a.0 fills.0 a.1 fills.1 a.2 fills.2
not_filled (line ∷ lines) first before journal last a (inr b) =
    let one = bench_laws.one_step first (line before) a.0 b.0 a.1 b.1 a.2 b.2 in
    let rest : StormRuns b.1 (before ++ b.0) lines journal last =
    subst (λ (made : List Event). StormRuns b.1 (before ++ made) lines journal last) one.0 (subst (λ (bench : Bench). StormRuns bench (before ++ a.0) lines journal last) one.1 a.3) in
    not_filled lines b.1 (before ++ b.0) journal last rest b.3

-- ---- one summary

summary_of : (storm : Storm) (text : List ℕ) (journal : List Event) (last : Bench) (other : List ℕ) (asked : Status) → StormRuns first_bench [] (storm_lines storm) journal last
    → text ≡ summary_line storm (counts_of journal) ++ done_line → AsksSummary storm other asked → (asked ≡ Done) × (text ≡ other)
summary_of storm text journal last other Done runs is h =
    let one = one_run (storm_lines storm) first_bench [] journal h.0 last h.1 runs h.2 in
    (refl, is ∙ ap (λ (j : List Event). summary_line storm (counts_of j) ++ done_line) one.0 ∙ sym h.3)
summary_of storm text journal last other TooMuch runs is h = absurd (not_filled (storm_lines storm) first_bench [] journal last runs h.0)
summary_of storm text journal last other RefusedLine runs is h = absurd h
summary_of storm text journal last other ReadFault runs is h = absurd h
summary_of storm text journal last other WriteFault runs is h = absurd h
summary_of storm text journal last other NoMemory runs is h = absurd h
summary_of storm text journal last other RefusedWords runs is h = absurd h
summary_of storm text journal last other RefusedCapture runs is h = absurd h

too_much_of : (storm : Storm) (text other : List ℕ) (asked : Status) → AsksSummary storm text TooMuch → AsksSummary storm other asked → (asked ≡ TooMuch) × (text ≡ other)
too_much_of storm text other TooMuch a h = (refl, a.1 ∙ sym h.1)
too_much_of storm text other Done a h = absurd (not_filled (storm_lines storm) first_bench [] h.0 h.1 h.2 a.0)
too_much_of storm text other RefusedLine a h = absurd h
too_much_of storm text other ReadFault a h = absurd h
too_much_of storm text other WriteFault a h = absurd h
too_much_of storm text other NoMemory a h = absurd h
too_much_of storm text other RefusedWords a h = absurd h
too_much_of storm text other RefusedCapture a h = absurd h

pub one_summary : AsksOneSummary
one_summary storm text other Done next h k = let one = summary_of storm text h.0 h.1 other next h.2 h.3 k in (sym one.0, one.1)
one_summary storm text other TooMuch next h k = let one = too_much_of storm text other next h k in (sym one.0, one.1)
one_summary storm text other RefusedLine next h k = absurd h
one_summary storm text other ReadFault next h k = absurd h
one_summary storm text other WriteFault next h k = absurd h
one_summary storm text other NoMemory next h k = absurd h
one_summary storm text other RefusedWords next h k = absurd h
one_summary storm text other RefusedCapture next h k = absurd h

-- ---- what comes

module _ {K : Type 0} (held : K → Option (List ℕ)) (old new : K) (storm : Storm) where
  abbrev Comes : List ℕ → Status → Status → Type 0
  Comes text asked status = ((status ≡ asked) × Put (held old) text (held new)) ⊎ IsFailure status

  exact_of : (written text : List ℕ) (asked status : Status) → Put (held old) written (held new) → SummaryOutcome storm written status → AsksSummary storm text asked → Comes text asked status
  exact_of written text asked Done put h k =
      let one = summary_of storm written h.0 h.1 text asked h.2 h.3 k in
      inl (sym one.0, subst (λ (t : List ℕ). Put (held old) t (held new)) one.1 put)
  exact_of written text asked TooMuch put h k =
      let one = too_much_of storm written text asked h k in
      inl (sym one.0, subst (λ (t : List ℕ). Put (held old) t (held new)) one.1 put)
  exact_of written text asked WriteFault put h k = inr (inr (inl refl))
  exact_of written text asked NoMemory put h k = inr (inr (inr refl))
  exact_of written text asked RefusedLine put h k = absurd h
  exact_of written text asked ReadFault put h k = absurd h
  exact_of written text asked RefusedWords put h k = absurd h
  exact_of written text asked RefusedCapture put h k = absurd h

  abbrev Written : Status → Type 0
  Written status = (written : List ℕ) × Put (held old) written (held new) × SummaryOutcome storm written status

  pub summary_exact : (status : Status) → Written status → (text : List ℕ) (asked : Status) → AsksSummary storm text asked → Comes text asked status
  summary_exact status w text asked k = exact_of w.0 text asked status w.1 w.2 k

  complete_of : (written : List ℕ) (status : Status) (writes writes_now : ℕ) → Put (held old) written (held new) → SummaryOutcome storm written status
      → (status ≡ WriteFault → HasRisen writes writes_now) → ¬ HasRisen writes writes_now → ((text : List ℕ) × AsksSummary storm text status × Put (held old) text (held new)) ⊎ (status ≡ NoMemory)
  complete_of written Done writes writes_now put h risen not = inl (written, h, put)
  complete_of written TooMuch writes writes_now put h risen not = inl (written, h, put)
  complete_of written WriteFault writes writes_now put h risen not = absurd (not (risen refl))
  complete_of written NoMemory writes writes_now put h risen not = inr refl
  complete_of written RefusedLine writes writes_now put h risen not = absurd h
  complete_of written ReadFault writes writes_now put h risen not = absurd h
  complete_of written RefusedWords writes writes_now put h risen not = absurd h
  complete_of written RefusedCapture writes writes_now put h risen not = absurd h

  pub summary_complete : (status : Status) (writes writes_now : ℕ) → Written status → (status ≡ WriteFault → HasRisen writes writes_now) → ¬ HasRisen writes writes_now
      → ((text : List ℕ) × AsksSummary storm text status × Put (held old) text (held new)) ⊎ (status ≡ NoMemory)
  summary_complete status writes writes_now w risen not = complete_of w.0 status writes writes_now w.1 w.2 risen not
