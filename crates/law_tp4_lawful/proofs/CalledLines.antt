-- A line of a script is a call of its network, or nothing. So what holds after any calls holds after any lines.
use Rattle.std.proofs.Common.{◌≡◌, ℕ, ◌≤◌, true, List, [], ◌∷◌, ◌++◌, length, refl, sym, ◌∙◌, ap, subst, append-nil, append_assoc}
use Rattle.std.specs.List.{AllByRecursion}
use Rattle.osi_base.specs.Link.{Link}
use Rattle.osi_base.specs.Calls.{Call}
use Rattle.osi_base.proofs.Members.{all_both}
use Rattle.script_journal.specs.declared.event.Event.{Event}
use Rattle.script_lines.specs.declared.line.Line.{Line}
use Rattle.script_lines.specs.declared.line.Line.TheVariants as lines
use Rattle.tp4_number.specs.Number.{wire}
use Rattle.tpdu.specs.declared.service.Options.{Options}
use Rattle.tp4_conn.specs.End.{IsSized, IsTimed}
use Rattle.tp4_conn.specs.declared.call.UserCall.TheVariants as asks
use Rattle.tp4_conn.specs.declared.timers.Timers.{Timers}
use Rattle.tp4_world.specs.Called.{Did, DidAll, KeepsLimits, WorldCall}
use Rattle.tp4_world.specs.Called as requests
use Rattle.tp4_world.specs.First.{IsFirst}
use Rattle.tp4_world.specs.Run.{RunsLine, RunsLines, Starts}
use Rattle.tp4_world.specs.World.{World}
use Rattle.tp4_world.specs.declared.place.Placed.{Placed}
use Rattle.law_tp4_lawful.specs.Called.{AreCalls, AreHonestCalls, OnCalls}
use Rattle.law_tp4_lawful.specs.First.{AreDistinct, IsUntouched}
use Rattle.law_tp4_lawful.specs.Laws.{CallsAreLawful, CallsAreSilent, ReceivesWhatWasSubmitted, StaysSilent}
use Rattle.law_tp4_lawful.specs.Limits.{IsProperLine}
use Rattle.law_tp4_lawful.specs.References.{OnRuns}

module _ {C : Type 0} (link : C → Link (List ℕ)) (steps : C → Call (List ℕ) → C → Type 0) where
  module _ (wrap : ℕ → ℕ → ℕ) where
    -- these calls have the same events, and keep their limits where the lines do
    pub record HaveCalls (old : World C) (made : List Event) (new : World C) (Proper : Type 0) : Type 0 where
      pub calls : List WorldCall
      pub did : DidAll link steps wrap old calls made new
      pub limits : Proper → AllByRecursion KeepsLimits calls

    one_call : (call : WorldCall) (old new : World C) (made : List Event) (Proper : Type 0) → Did link steps wrap old call made new → (Proper → KeepsLimits call) → HaveCalls old made new Proper
    one_call call old new made Proper did limits = record {
      calls = call ∷ [];
      did = (new, made, [], did, sym (append-nil made), (refl, refl));
      limits = λ proper. (limits proper, tt);
    }

    pub both_did : (first second : List WorldCall) (old mid new : World C) (here rest : List Event) → DidAll link steps wrap old first here mid → DidAll link steps wrap mid second rest new
        → DidAll link steps wrap old (first ++ second) (here ++ rest) new
    both_did [] second old mid new here rest a b =
        subst (λ (w : World C). DidAll link steps wrap w second (here ++ rest) new) a.1 (subst (λ (es : List Event). DidAll link steps wrap mid second (es ++ rest) new) (sym a.0) b)
    both_did (call ∷ first) second old mid new here rest a b = (
      a.0,
      a.1,
      a.2 ++ rest,
      a.3,
      ap (λ (es : List Event). es ++ rest) a.4 ∙ append_assoc a.1 a.2 rest,
      both_did first second a.0 mid new a.2 rest a.5 b,
    )

    pub line_called : (titles : List (List ℕ)) (line : Line) (old new : World C) (made : List Event) → RunsLine link steps wrap titles old line made new → HaveCalls old made new (IsProperLine line)
    line_called titles lines.Nothing old new made s = record { calls = []; did = s; limits = λ proper. tt }
    line_called titles (lines.Connect system selector to called options octets) old new made s =
        one_call (requests.Connect system s.1) old new made _ s.4.4
        (λ proper. (
          subst (λ (o : Options). IsSized o) (sym s.3) proper.0,
          subst (λ (o : List ℕ). length o ≤ 32) (sym s.4.0) proper.1,
          subst (λ (o : List ℕ). length o ≤ 32) (sym s.4.2) proper.2,
        ))
    line_called titles (lines.Accept end options octets) old new made s = one_call (requests.Ask end (asks.Accept options octets)) old new made _ s (λ proper. proper)
    line_called titles (lines.Refuse end octets) old new made s = one_call (requests.Ask end (asks.Refuse octets)) old new made _ s (λ proper. tt)
    line_called titles (lines.Disconnect end octets) old new made s = one_call (requests.Ask end (asks.Disconnect octets)) old new made _ s (λ proper. tt)
    line_called titles (lines.Data end octets) old new made s = one_call (requests.Ask end (asks.Normal octets)) old new made _ s (λ proper. tt)
    line_called titles (lines.Expedite end octets) old new made s = one_call (requests.Ask end (asks.Urgent octets)) old new made _ s (λ proper. tt)
    line_called titles (lines.Window end credit) old new made s = one_call (requests.Ask end (asks.Window credit)) old new made _ s (λ proper. proper)
    line_called titles (lines.Unit system to wish octets) old new made s = one_call (requests.Raw system s.0 s.1 wish octets) old new made _ s.4 (λ proper. tt)
    line_called titles lines.Tick old new made s = one_call requests.Pass old new made _ s (λ proper. tt)
    line_called titles (lines.Deliver number system) old new made s = one_call (requests.Deliver number system s.0) old new made _ s.1 (λ proper. tt)
    line_called titles lines.Settle old new made s = one_call requests.Settle old new made _ s (λ proper. tt)
    line_called titles (lines.Inject lan system octets) old new made s = one_call (requests.Inject lan system octets s.0) old new made _ s.1 (λ proper. tt)
    line_called titles (lines.Restart system) old new made s = one_call (requests.Restart system) old new made _ s (λ proper. tt)
    line_called titles other old new made s = absurd s

    pub lines_called : (titles : List (List ℕ)) (script : List Line) (first last : World C) (journal : List Event) → RunsLines link steps wrap titles first script journal last
        → HaveCalls first journal last (AllByRecursion IsProperLine script)
    lines_called titles [] first last journal s = record { calls = []; did = s; limits = λ proper. tt }
    lines_called titles (line ∷ script) first last journal s =
        let here = line_called titles line first s.0 s.1 s.3 in
        let rest = lines_called titles script s.0 last s.2 s.5 in
        record {
          calls = here.calls ++ rest.calls;
          did = subst (λ (es : List Event). DidAll link steps wrap first (here.calls ++ rest.calls) es last) (sym s.4) (both_did here.calls rest.calls first s.0 last s.1 s.2 here.did rest.did);
          limits = λ proper. all_both KeepsLimits here.calls rest.calls (here.limits proper.0) (rest.limits proper.1);
        }

    run_calls : (titles : List (List ℕ)) (timers : Timers) (made : C) (placed : List Placed) (begun journal : List Event) (script : List Line) (first last : World C)
        → IsFirst timers.life titles (link made) placed → AllByRecursion (IsUntouched timers) placed → Starts link steps made placed begun first
        → RunsLines link steps wrap titles first script journal last → AreCalls link steps wrap titles timers (begun ++ journal) last
    run_calls titles timers made placed begun journal script first last is untouched start run =
        let c = lines_called titles script first last journal run in
        record {
          made = made;
          placed = placed;
          begun = begun;
          first = first;
          calls = c.calls;
          later = journal;
          is_first = is;
          untouched = untouched;
          starts = start;
          did = c.did;
          journal_is = refl;
        }

    honest_calls : (titles : List (List ℕ)) (timers : Timers) (made : C) (placed : List Placed) (begun journal : List Event) (script : List Line) (first last : World C)
        → IsTimed timers → AreDistinct titles → IsFirst timers.life titles (link made) placed → AllByRecursion (IsUntouched timers) placed → Starts link steps made placed begun first
        → (link last.carrier).honest ≡ true → AllByRecursion IsProperLine script → RunsLines link steps wrap titles first script journal last
        → AreHonestCalls link steps wrap titles timers (begun ++ journal) last
    unfolding run_calls
    honest_calls titles timers made placed begun journal script first last timed distinct is untouched start honest proper run = record {
      run = run_calls titles timers made placed begun journal script first last is untouched start run;
      timed = timed;
      distinct = distinct;
      limits = (lines_called titles script first last journal run).limits proper;
      honest = honest;
    }

    pub on_runs : (Holds : List Event → World C → Type 0) → OnCalls link steps wrap Holds → OnRuns link steps wrap Holds
    on_runs Holds holds titles timers made placed begun journal script first last timed inactive distinct is untouched start honest proper run =
        holds titles timers (begun ++ journal) last (honest_calls titles timers made placed begun journal script first last timed distinct is untouched start honest proper run)

  pub lines_lawful : CallsAreLawful link steps → ReceivesWhatWasSubmitted link steps
  lines_lawful lawful titles timers made placed begun journal script first last timed inactive distinct is untouched start honest proper run =
      lawful titles timers (begun ++ journal) last (honest_calls wire titles timers made placed begun journal script first last timed distinct is untouched start honest proper run)

  pub lines_silent : CallsAreSilent link steps → StaysSilent link steps
  lines_silent silent titles timers made placed begun journal script first last is untouched start run =
      silent titles timers (begun ++ journal) last (run_calls wire titles timers made placed begun journal script first last is untouched start run)
