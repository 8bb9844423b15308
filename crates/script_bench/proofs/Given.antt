-- What a run of the bench comes to is what its octets ask for, or a failure in its place; and its transcript tells a script and the run of the
-- stage for it.
use Rattle.std.proofs.Common.{◌≡◌, ◌⊎◌, ℕ, ◌+◌, ◌≤◌, List, [], ◌∷◌, ◌++◌, length, inl, inr, sym, ◌∙◌, ap, subst, Option, Some}
use Rattle.std.proofs.lemmas.List.{append-nil}
use Rattle.osi_base.specs.declared.status.Status.{Status}
use Rattle.osi_base.specs.declared.status.Status.TheVariants.{Done, RefusedLine, RefusedWords, ReadFault, WriteFault, NoMemory, RefusedCapture, TooMuch}
use Rattle.osi_base.specs.Ends.{HasRisen, Took, Put, IsAtEnd}
use Rattle.line_loop.specs.Course.{Runs, IsOver, IsTooMuch, IsTooMuchAtEnd, IsRefusedAt, IsRefusedAtEnd}
use Rattle.line_loop.specs.Outcome.{IsAccepted, Asks, AsksFor, Outcome}
use Rattle.octet_loop.specs.ByStatus.{IsFailure}
use Rattle.line_loop.specs.Limits.{most_octets, most_read}
use Rattle.line_loop.specs.Lines.{open_line, last_line, without_return}
use Rattle.line_loop.proofs.Driving.{cut_of, Ran as RanOver}
use Rattle.line_loop.proofs.Exclusion.{ran_exact, ran_accepted, complete}
use Rattle.script_journal.specs.declared.event.Event.{Event}
use Rattle.script_lines.specs.declared.cause.LineFault.{LineFault}
use Rattle.script_bench.specs.Acts.{Acts, Keeping, StageLaws}
use Rattle.script_bench.specs.Bench.{Bench, FillsJournal, bench_meaning, first_bench}
use Rattle.script_bench.specs.Claims.{AllLines, IsRun, ToLimit, ToLimitAtEnd, WholeLines, texts_in}
use Rattle.script_bench.specs.Told.{AskedRun, OutcomeRun, OverRun, RanScript, RefusedRun, TooMuchRun}
use Rattle.script_bench.specs.steps.BenchLaws.{bench_laws}

-- what the program does for a run that ended with this status, or where memory ran out in its place
abbrev pub Gives : Status → Status → Type 0
Gives status answer = (answer ≡ status) ⊎ (answer ≡ NoMemory)

-- ---- the lines of a transcript

module _ {W : Type 0} (acts : Acts W) (Ran Filled : List (List ℕ) → List Event → Bench W → Type 0)
    (ran : (texts : List (List ℕ)) (journal : List Event) (last : Bench W) → Runs (bench_meaning acts) (first_bench acts) texts journal last → Ran texts journal last)
    (filled : (texts : List (List ℕ)) (before : List Event) (state : Bench W) (text : List ℕ) (part journal : List Event) (last : Bench W) → Runs (bench_meaning acts) (first_bench acts) texts before state
    → FillsJournal acts state text part last → journal ≡ before ++ part → Filled (texts ++ text ∷ []) journal last) where
  refused_run : {end : Type 0} (read : List ℕ) (line : ℕ) (said : LineFault) (journal : List Event) (last : Bench W)
      → (asked : IsRefusedAt (bench_meaning acts) (first_bench acts) read line said journal last ⊎ (end × IsRefusedAtEnd (bench_meaning acts) (first_bench acts) read line said journal last))
      → RefusedRun acts Ran Filled read line said journal last asked
  refused_run read line said journal last (inl here) = ran (texts_in here.front) journal last here.so_far.runs
  refused_run read line said journal last (inr at_end) = ran (texts_in read) journal last at_end.1.so_far.runs

  limit_run : (texts : List (List ℕ)) (before : List Event) (state : Bench W) (made : List Event) (journal : List Event) (last : Bench W) → Runs (bench_meaning acts) (first_bench acts) texts before state
      → made ≡ [] → last ≡ state → journal ≡ before ++ made → Ran texts journal last
  limit_run texts before state made journal last runs none same is =
      let all : before ≡ journal = sym (is ∙ ap (λ (m : List Event). before ++ m) none ∙ append-nil before) in
      ran texts journal last (subst (λ (j : List Event). Runs (bench_meaning acts) (first_bench acts) texts j last) all (subst (λ (bench : Bench W). Runs (bench_meaning acts) (first_bench acts) texts before bench) (sym same) runs))

  over_run : (front : List ℕ) (octet : ℕ) (before part : List Event) (state last : Bench W) (journal : List Event) → Runs (bench_meaning acts) (first_bench acts) (texts_in front) before state
      → journal ≡ before ++ part → (over : IsOver (bench_meaning acts) state front octet part last) → OverRun acts Ran Filled front octet part state last journal over
  over_run front octet before part state last journal runs is (inl limit) = limit_run (texts_in front) before state part journal last runs limit.1 limit.2 is
  over_run front octet before part state last journal runs is (inr fills) = filled (texts_in front) before state (without_return (open_line front)) part journal last runs fills.2 is

  too_much_run : {end : Type 0} (read : List ℕ) (journal : List Event) (last : Bench W)
      → (asked : IsTooMuch (bench_meaning acts) (first_bench acts) read journal last ⊎ (end × IsTooMuchAtEnd (bench_meaning acts) (first_bench acts) read journal last))
      → TooMuchRun acts Ran Filled read journal last asked
  too_much_run read journal last (inl here) = over_run here.front here.octet here.before here.events here.state last journal here.so_far.runs here.journal_is here.over
  too_much_run read journal last (inr at_end) =
      filled (texts_in read) at_end.1.before at_end.1.state (open_line read) at_end.1.events journal last at_end.1.so_far.runs at_end.1.fills at_end.1.journal_is

  pub ran_script : (octets : List ℕ) (journal : List Event) (last : Bench W) (run : IsRun acts octets journal last) → RanScript acts Ran Filled octets journal last run
  ran_script octets journal last (WholeLines read) = ran (texts_in octets) journal last read.runs
  ran_script octets journal last (AllLines whole) = ran (texts_in octets ++ last_line (open_line octets)) journal last whole.runs
  ran_script octets journal last (ToLimit here) = over_run here.front here.octet here.before here.events here.state last journal here.so_far.runs here.journal_is here.over
  ran_script octets journal last (ToLimitAtEnd at_end) = filled (texts_in octets) at_end.before at_end.state (open_line octets) at_end.events journal last at_end.so_far.runs at_end.fills at_end.journal_is

  asked_run : (end : Type 0) (read text : List ℕ) (status : Status) (asked : Asks (bench_meaning acts) end (first_bench acts) read text status) → AskedRun acts Ran Filled end read text status asked
  asked_run end read text Done asked = ran (texts_in read ++ last_line (open_line read)) asked.journal asked.last asked.whole.runs
  asked_run end read text RefusedLine asked = refused_run read asked.line asked.said asked.journal asked.last asked.refused
  asked_run end read text TooMuch asked = too_much_run read asked.journal asked.last asked.passed
  asked_run end read text ReadFault asked = ran (texts_in read) asked.journal asked.last asked.so_far.runs
  asked_run end read text WriteFault asked = asked
  asked_run end read text NoMemory asked = asked
  asked_run end read text RefusedWords asked = asked
  asked_run end read text RefusedCapture asked = asked

  pub outcome_run : (end : Type 0) (read written : List ℕ) (status : Status) (told : Outcome (bench_meaning acts) end (first_bench acts) read written status)
      → OutcomeRun acts Ran Filled end read written status told
  outcome_run end read written Done told = asked_run end read written Done told
  outcome_run end read written RefusedLine told = asked_run end read written RefusedLine told
  outcome_run end read written TooMuch told = asked_run end read written TooMuch told
  outcome_run end read written ReadFault told = asked_run end read written ReadFault told
  outcome_run end read written WriteFault told = asked_run ((told.front ≡ read) × end) told.front told.text told.status told.asked
  outcome_run end read written NoMemory told = asked_run ((told.front ≡ read) × end) told.front told.text told.status told.asked
  outcome_run end read written RefusedWords told = told
  outcome_run end read written RefusedCapture told = told

-- ---- what comes of a run

module _ {W S K : Type 0} (acts : Acts W) (keeping : Keeping W) (laws : StageLaws acts keeping) (left : S → Option (List ℕ)) (held : K → Option (List ℕ))
    (source : S) (sink : K) (first : Bench W) (now_source : S) (now_sink : K) (status : Status) (fresh : first ≡ first_bench acts)
    (ran : RanOver (bench_meaning acts) left held source sink first now_source now_sink status) where
  given : (end : Type 0) (read written : List ℕ) (answer : Status) → Gives status answer → Outcome (bench_meaning acts) end (first_bench acts) read written status
      → Outcome (bench_meaning acts) end (first_bench acts) read written answer
  given end read written answer (inl same) told = subst (λ (s : Status). Outcome (bench_meaning acts) end (first_bench acts) read written s) (sym same) told
  given end read written answer (inr memory) told =
      subst (λ (s : Status). Outcome (bench_meaning acts) end (first_bench acts) read written s) (sym memory) (cut_of (bench_meaning acts) end (first_bench acts) read written status told)

  from_first : RanOver (bench_meaning acts) left held source sink (first_bench acts) now_source now_sink status
  from_first = subst (λ (bench : Bench W). RanOver (bench_meaning acts) left held source sink bench now_source now_sink status) fresh ran

  -- octets were read, and what they ask for was written
  pub gives_outcome : (answer : Status) → Gives status answer
      → (read : List ℕ) × (written : List ℕ) × Took (left source) read (left now_source) × Put (held sink) written (held now_sink)
      × Outcome (bench_meaning acts) (IsAtEnd (left now_source)) (first_bench acts) read written answer × (length read ≤ most_octets + most_read)
  gives_outcome answer gives = let h = from_first in (h.0, h.1, h.2, h.3, given (IsAtEnd (left now_source)) h.0 h.1 answer gives h.4, h.5)

  pub gives_exact : (all text : List ℕ) (asked : Status) → left source ≡ Some all → AsksFor (bench_meaning acts) (first_bench acts) all text asked → (answer : Status) → Gives status answer
      → ((answer ≡ asked) × Put (held sink) text (held now_sink)) ⊎ IsFailure answer
  gives_exact all text asked tells asks answer (inl same) =
      subst (λ (s : Status). ((s ≡ asked) × Put (held sink) text (held now_sink)) ⊎ IsFailure s) (sym same)
      (ran_exact (bench_meaning acts) (bench_laws acts keeping laws) left held source sink (first_bench acts) now_source now_sink status from_first all text asked tells asks)
  gives_exact all text asked tells asks answer (inr memory) = inr (inr (inr memory))

  pub gives_complete : (all : List ℕ) → left source ≡ Some all → IsAccepted (bench_meaning acts) (first_bench acts) all → (reads reads_now writes writes_now : ℕ)
      → (status ≡ ReadFault → HasRisen reads reads_now) → (status ≡ WriteFault → HasRisen writes writes_now)
      → ¬ HasRisen reads reads_now → ¬ HasRisen writes writes_now → (answer : Status) → Gives status answer
      → ((answer ≡ Done) × (text : List ℕ) × AsksFor (bench_meaning acts) (first_bench acts) all text Done × Put (held sink) text (held now_sink)) ⊎ (answer ≡ NoMemory)
  gives_complete all tells accepted reads reads_now writes writes_now read write no_read no_write answer (inl same) =
      subst (λ (s : Status). ((s ≡ Done) × (text : List ℕ) × AsksFor (bench_meaning acts) (first_bench acts) all text Done × Put (held sink) text (held now_sink)) ⊎ (s ≡ NoMemory)) (sym same)
      (complete status reads reads_now writes writes_now
      (ran_accepted (bench_meaning acts) (bench_laws acts keeping laws) left held source sink (first_bench acts) now_source now_sink status from_first all tells accepted) read write no_read no_write)
  gives_complete all tells accepted reads reads_now writes writes_now read write no_read no_write answer (inr memory) = inr memory
