-- What ran on the bench is the run of the network for the lines of the script, and so the raw units that it shows are lawful.
use Rattle.std.proofs.Common.{◌≡◌, ℕ, ◌+◌, ◌≤◌, List, [], ◌∷◌, ◌++◌, length, drop, sym, ◌∙◌, ap, subst, Option, append_assoc}
use Rattle.std.proofs.lemmas.List.{take-append-drop}
use Rattle.osi_base.specs.declared.status.Status.{Status}
use Rattle.osi_base.specs.Ends.{Took, Put, IsAtEnd}
use Rattle.line_loop.specs.Course.{Runs}
use Rattle.line_loop.specs.Limits.{most_octets, most_read}
use Rattle.line_loop.specs.Outcome.{Outcome}
use Rattle.script_journal.specs.declared.event.Event.{Event}
use Rattle.script_journal.specs.declared.event.Event.TheVariants as events
use Rattle.script_journal.specs.RawLawful.{RawLawful}
use Rattle.script_bench.proofs.Given.{outcome_run, ran_script}
use Rattle.script_bench.proofs.Runs.{filled_run as filled_of, script_run as run_of}
use Rattle.law_run.specs.Bench.{Bench, FillsJournal, first_bench, bench_meaning, most_events}
use Rattle.law_run.specs.World.{life_of, titles_of, world_acts}
use Rattle.law_run.specs.Transcript.{IsFilledRun, IsScriptRun, IsTranscript, KeptThroughOutages, RecoversWhereKept, ServesWhereCalm, ShowsSentUnits, ShowsSilence, ShowsWhatWasSubmitted}
use Rattle.law_run.proofs.Lawful.{raw_lawful}

pub script_run : (texts : List (List ℕ)) (journal : List Event) (last : Bench) → Runs bench_meaning first_bench texts journal last → IsScriptRun texts journal last
script_run texts journal last runs =
    let r = run_of world_acts texts journal last runs in
    record { script = r.script; lines = r.lines; run = r.run; sent = raw_lawful r.script journal last.world r.run }

-- a front of what is lawful is lawful
front_lawful : (life : ℕ) (titles : List (List ℕ)) (front back : List Event) → RawLawful life titles (front ++ back) → RawLawful life titles front
front_lawful life titles front back raw = λ before after system from octets is.
    raw before (after ++ back) system from octets (ap (λ (journal : List Event). journal ++ back) is ∙ append_assoc before (events.Unit system from octets ∷ after) back)

pub filled_run : (texts : List (List ℕ)) (before : List Event) (state : Bench) (text : List ℕ) (part journal : List Event) (last : Bench) → Runs bench_meaning first_bench texts before state
    → FillsJournal state text part last → journal ≡ before ++ part → IsFilledRun (texts ++ text ∷ []) journal last
filled_run texts before state text part journal last runs h is =
    let r = filled_of world_acts texts before state text part journal last runs h is in
    let parts : r.whole ≡ journal ++ drop most_events r.whole =
    sym (take-append-drop most_events r.whole) ∙ ap (λ (j : List Event). j ++ drop most_events r.whole) (sym r.journal_is) in
    let sent = raw_lawful r.run.script r.whole last.world r.run.run in
    record {
      whole = r.whole;
      run = record { script = r.run.script; lines = r.run.lines; run = r.run.run; sent = sent };
      over = r.over;
      journal_is = r.journal_is;
      sent = λ none. front_lawful (life_of last.world) (titles_of last.world) journal (drop most_events r.whole)
          (subst (λ (j : List Event). RawLawful (life_of last.world) (titles_of last.world) j) parts (sent none));
    }

pub shows_sent : (read : List ℕ) → ShowsSentUnits read
shows_sent read = λ front journal last begins run. ran_script world_acts IsScriptRun IsFilledRun script_run filled_run front journal last run

module _ {S K : Type 0} (left : S → Option (List ℕ)) (held : K → Option (List ℕ)) (source : S) (sink : K) (now_source : S) (now_sink : K) (answer : Status)
    (lawful : (octets : List ℕ) → ShowsWhatWasSubmitted octets) (silent : (octets : List ℕ) → ShowsSilence octets) (calm : (octets : List ℕ) → ServesWhereCalm octets)
    (recovers : (octets : List ℕ) → RecoversWhereKept octets) (outages : (octets : List ℕ) → KeptThroughOutages octets) where
  pub transcript : ((read : List ℕ) × (written : List ℕ) × Took (left source) read (left now_source) × Put (held sink) written (held now_sink)
      × Outcome bench_meaning (IsAtEnd (left now_source)) first_bench read written answer × (length read ≤ most_octets + most_read))
      → (read : List ℕ) × (written : List ℕ) × Took (left source) read (left now_source) × Put (held sink) written (held now_sink) × IsTranscript (IsAtEnd (left now_source)) read written answer
  transcript h = (
    h.0,
    h.1,
    h.2,
    h.3,
    record {
      outcome = h.4;
      run = outcome_run world_acts IsScriptRun IsFilledRun script_run filled_run (IsAtEnd (left now_source)) h.0 h.1 answer h.4;
      sent = shows_sent h.0;
      lawful = lawful h.0;
      silent = silent h.0;
      calm = calm h.0;
      recovers = recovers h.0;
      outages = outages h.0;
      within = h.5;
    },
  )
