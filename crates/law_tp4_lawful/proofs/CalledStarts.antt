-- A network after any calls is explained by a history, over whole numbers; and what so holds of it holds over the numbers of the wire.
use Rattle.std.proofs.Common.{◌≡◌, ℕ, List, [], sym, ◌∙◌, ap, subst}
use Rattle.std.specs.List.{AllByRecursion}
use Rattle.osi_base.specs.Link.{Link}
use Rattle.osi_base.specs.Calls.{Call, Keeps}
use Rattle.script_journal.specs.Lawful.{AllQueues}
use Rattle.script_journal.specs.Silence.{KeepsSilence}
use Rattle.script_journal.specs.declared.event.Event.{Event}
use Rattle.tp4_conn.specs.End.{frozen_for}
use Rattle.tp4_conn.specs.declared.timers.Timers.{Timers}
use Rattle.law_tp4_history.specs.Ends.{IsFit, Times}
use Rattle.law_tp4_history.specs.Journals.{Written}
use Rattle.law_tp4_history.specs.Tracks.{IsNothing, Whole}
use Rattle.law_tp4_history.specs.Moves.{times_of}
use Rattle.tp4_world.specs.Laws.{WholeCalls}
use Rattle.tp4_world.specs.First.{HasNoEnd}
use Rattle.tp4_world.specs.Wire.{world_on_wire}
use Rattle.tp4_world.specs.World.{World}
use Rattle.tp4_world.specs.declared.place.Placed.{Placed}
use Rattle.law_tp4_lawful.proofs.Known.{IsOffered, Known}
use Rattle.law_tp4_lawful.proofs.Worlds.{Explains, Followed, Rests}
use Rattle.law_tp4_proper.specs.Rest.{AreInTime, AreProper}
use Rattle.law_tp4_lawful.proofs.Acts.{acts}
use Rattle.law_tp4_lawful.proofs.ActsLines.{Flowing}
use Rattle.law_tp4_lawful.proofs.FramesNotes.{after_aside}
use Rattle.law_tp4_lawful.proofs.Makes.{after_connect}
use Rattle.law_tp4_lawful.proofs.Meets.{after_meet}
use Rattle.law_tp4_lawful.proofs.MeetsOthers.{KnowsTaken}
use Rattle.law_tp4_lawful.proofs.WorldOutcomes.{one_unit, outcomes}
use Rattle.law_tp4_lawful.proofs.WorldQuiet.{after_clock}
use Rattle.law_tp4_lawful.proofs.WorldStarts.{front_silent, no_ends, started}
use Rattle.law_tp4_lawful.proofs.WorldSteps.{after_call, after_tick}
use Rattle.law_tp4_lawful.proofs.WorldCalls.{calls_hold}
use Rattle.tp4_number.specs.Number.{whole, wire}
use Rattle.law_tp4_lawful.specs.Called.{AreHonestCalls, OfWhole, OnCalls}
use Rattle.law_tp4_lawful.specs.Laws.{CallsAreLawful, CallsAreSilent}
use Rattle.law_tp4_lawful.proofs.WorldRestarts.{after_restart}
use Rattle.law_tp4_lawful.proofs.WorldKnown.{plain_kept}

-- the history follows each step of an entity
pub followed_by : Flowing → KnowsTaken → (titles : List (List ℕ)) (timers : Timers) → Followed titles timers
followed_by flowing knows titles timers = record {
  connects = after_connect titles timers;
  calls = after_call titles timers (acts flowing titles timers);
  meets = after_meet titles timers (acts flowing titles timers) knows;
  ticks = after_tick titles timers (acts flowing titles timers);
  aside = after_aside titles timers;
  clock = after_clock flowing.later titles timers;
  restarts = after_restart titles timers;
}

module _ {C : Type 0} (link : C → Link (List ℕ)) (steps : C → Call (List ℕ) → C → Type 0) (law : (old : C) (call : Call (List ℕ)) (new : C) → steps old call new → Keeps (link old) call (link new))
    (flowing : Flowing) (knows : KnowsTaken) (begins : (times : Times) (titles : List (List ℕ)) (w : Whole) → IsNothing w → Written times titles w []) where
  record IsExplained (titles : List (List ℕ)) (timers : Timers) (journal : List Event) (last : World C) : Type 0 where
    w : Whole
    explains : Explains link titles timers w journal last

  explained : (titles : List (List ℕ)) (timers : Timers) (journal : List Event) (last : World C) → AreHonestCalls link steps whole titles timers journal last → IsExplained titles timers journal last
  explained titles timers journal last a =
      let r = a.run in
      let rests : Rests link AreProper titles timers r.begun r.first =
      started titles timers a.timed a.timed.inactive_least a.distinct r.placed r.is_first.entities r.untouched begins link steps law (followed_by flowing knows titles timers) AreProper AreInTime outcomes r.made r.begun
      r.first r.is_first r.starts in
      let all = calls_hold titles timers (Known titles timers) IsOffered (plain_kept titles timers) a.timed link steps law (followed_by flowing knows titles timers) one_unit AreProper AreInTime outcomes r.calls r.first last r.begun r.later a.honest a.limits rests r.did in
      record { w = all.w; explains = subst (λ (xs : List Event). Explains link titles timers all.w xs last) (sym r.journal_is) all.explains }

  -- what holds wherever a history explains the network holds after any calls, over whole numbers
  pub on_whole : (Holds : List Event → World C → Type 0) → ((titles : List (List ℕ)) (timers : Timers) (w : Whole) (journal : List Event) (world : World C) → Explains link titles timers w journal world → Holds journal world)
      → OnCalls link steps whole Holds
  on_whole Holds holds titles timers journal last a = let e = explained titles timers journal last a in holds titles timers e.w journal last e.explains

  -- ---- over the numbers of the wire

  module _ (whole_calls : WholeCalls link steps) where
    -- the calls over whole numbers
    record IsRaised (titles : List (List ℕ)) (timers : Timers) (journal : List Event) (last : World C) : Type 0 where
      true_last : World C
      is : last ≡ world_on_wire true_last
      calls : AreHonestCalls link steps whole titles timers journal true_last

    raised : (titles : List (List ℕ)) (timers : Timers) (journal : List Event) (last : World C) → AreHonestCalls link steps wire titles timers journal last → IsRaised titles timers journal last
    raised titles timers journal last a =
        let r = a.run in
        let none : AllByRecursion (λ (x : Placed). HasNoEnd x.entity) r.first.entities =
        subst (λ (x : World C). AllByRecursion (λ (y : Placed). HasNoEnd y.entity) x.entities) (sym r.starts.becomes) (no_ends titles r.placed r.is_first.entities) in
        let above = whole_calls r.first r.calls r.later last none r.did in
        record {
          true_last = above.0;
          is = above.2;
          calls = record {
            run = record {
              made = r.made;
              placed = r.placed;
              begun = r.begun;
              first = r.first;
              calls = r.calls;
              later = r.later;
              is_first = r.is_first;
              untouched = r.untouched;
              starts = r.starts;
              did = above.1;
              journal_is = r.journal_is;
            };
            timed = a.timed;
            distinct = a.distinct;
            limits = a.limits;
            honest = sym (ap (λ (x : World C). (link x.carrier).honest) above.2) ∙ a.honest;
          };
        }

    pub on_wire : (Holds : List Event → World C → Type 0) → OnCalls link steps whole (λ journal world. Holds journal (world_on_wire world)) → OnCalls link steps wire Holds
    on_wire Holds holds titles timers journal last a =
        let up = raised titles timers journal last a in
        subst (Holds journal) (sym up.is) (holds titles timers journal up.true_last up.calls)

    pub of_whole : (Holds : List Event → World C → Type 0) → OnCalls link steps whole Holds → OnCalls link steps wire (OfWhole Holds)
    of_whole Holds holds titles timers journal last a =
        let up = raised titles timers journal last a in
        (up.true_last, up.is, holds titles timers journal up.true_last up.calls)

    -- what is shown was submitted
    pub calls_lawful : ((t : Timers) → IsFit (times_of t))
        → ((times : Times) (titles : List (List ℕ)) (w : Whole) (journal : List Event) → IsFit times → Written times titles w journal → AllQueues titles journal)
        → CallsAreSilent link steps → CallsAreLawful link steps
    calls_lawful fit lawful silent titles timers journal last a front back at =
        let up = raised titles timers journal last a in
        let e = explained titles timers journal up.true_last up.calls in
        let queues : AllQueues titles journal = lawful (times_of timers) titles e.w journal (fit timers) e.explains.known.written in
        let silence : KeepsSilence (frozen_for timers) journal = silent titles timers journal last a.run in
        record { queues = queues front back at; silence = front_silent (frozen_for timers) front back (subst (KeepsSilence (frozen_for timers)) at silence) }
