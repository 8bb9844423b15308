-- Of a run that recovers: its recovering settle leaves nothing to deliver, and the lines since are settled and lose nothing. And of an indication, after any calls, and so after such a run.
use Rattle.std.proofs.Common.{◌≡◌, ℕ, ◌+◌, ◌<◌, ◌≤◌, nat_le, false, List, [], None, sym, subst, ◌++◌, arith}
use Rattle.std.proofs.lemmas.Bool.{leb-false}
use Rattle.osi_base.specs.Calls.{Call, Keeps}
use Rattle.osi_base.specs.Link.{Link}
use Rattle.osi_base.specs.declared.unit.Unit.{Unit as CarriedUnit}
use Rattle.net_world.specs.Prompt.{IsPrompt}
use Rattle.script_journal.specs.declared.event.Event.{Event}
use Rattle.tp4_number.specs.Number.{whole}
use Rattle.tp4_conn.specs.End.{End}
use Rattle.tp4_conn.specs.Table.{due}
use Rattle.tp4_conn.specs.declared.states.StateData.{StateData}
use Rattle.tp4_conn.specs.declared.states.StateData.TheVariants.{UserWait}
use Rattle.tp4_conn.specs.declared.timers.Timers.{Timers}
use Rattle.tp4_entity.specs.Step.{first_due, is_due_by}
use Rattle.law_tp4_history.specs.Ends.{Times}
use Rattle.law_tp4_history.specs.Journals.{Written}
use Rattle.law_tp4_history.specs.Tracks.{IsNothing, Whole}
use Rattle.law_tp4_history.specs.Moves.{IsAsked, IsSeenIn}
use Rattle.law_tp4_proper.specs.Rest.{AreProper}
use Rattle.tp4_world.specs.World.{World}
use Rattle.law_tp4_associations.proofs.Dues.{none_due}
use Rattle.law_tp4_lawful.specs.Called.{AreHonestCalls}
use Rattle.law_tp4_lawful.proofs.ActsLines.{Flowing}
use Rattle.law_tp4_lawful.proofs.MeetsOthers.{KnowsTaken}
use Rattle.law_tp4_lawful.proofs.ReferencesHalves.{known_at}
use Rattle.law_tp4_lawful.proofs.Worlds.{Rests}
use Rattle.law_recovery_run.specs.Ordered.{IsReady, ReachedFrom}
use Rattle.law_recovery_run.proofs.Aiming.{Going}
use Rattle.law_recovery_run.proofs.Rivals.{sound}
use Rattle.law_recovery_run.specs.Following.{Stands}
use Rattle.law_recovery_run.specs.Laws.{EndsHaveNumbers, RunsAreCalls, RunsAreReady, RunsGoOn}
use Rattle.law_recovery_world.specs.Laws.{CallsKeepSteady}
use Rattle.law_recovery.specs.Along.{FollowsAlong}
use Rattle.law_recovery.specs.Laws.{AlongRunsFollow, CallsEndIndications, RunsEndIndications}
use Rattle.law_recovery.proofs.Ending.{calls_rest, over_accepted, over_closing, over_opened}

pub along_follows : {C : Type 0} (link : C → Link (List ℕ)) (steps : C → Call (List ℕ) → C → Type 0) → RunsAreCalls link steps whole → RunsAreReady link steps → RunsGoOn link steps → AlongRunsFollow link steps
along_follows {C} link steps calls ready goes titles begins along timers begun early late script first at_t0 last begins_is started run =
    along timers (begun ++ early) late at_t0 last run.recovers.after (calls titles timers begun early late first at_t0 last script started run).0
    (subst (λ (state : C). IsReady link steps titles state at_t0) begins_is (ready titles timers begun early late first at_t0 last script started run)) (goes titles early late first at_t0 last script run)

pub runs_end : {C : Type 0} (link : C → Link (List ℕ)) (steps : C → Call (List ℕ) → C → Type 0) → CallsEndIndications link steps → RunsAreCalls link steps whole → RunsEndIndications link steps whole
runs_end link steps ends calls titles timers begun early late script first at_t0 last started run =
    ends titles timers ((begun ++ early) ++ late) last (calls titles timers begun early late first at_t0 last script started run).1

-- lines, over each carrier that serves again once nothing is lost, whatever relation tells what waits in it
module _ {C : Type 0} (link : C → Link (List ℕ)) (steps : C → Call (List ℕ) → C → Type 0) (law : (old : C) (call : Call (List ℕ)) (new : C) → steps old call new → Keeps (link old) call (link new))
    (flowing : Flowing) (knows : KnowsTaken) (begun : (times : Times) (titles : List (List ℕ)) (w : Whole) → IsNothing w → Written times titles w []) (going : Going)
    (numbers : EndsHaveNumbers link steps) (steady : CallsKeepSteady link steps) where
  pub follows_over : (titles : List (List ℕ)) (first : C) (Waits : C → List (CarriedUnit (List ℕ)) → Type 0) → IsPrompt link steps titles (ReachedFrom link steps titles first) Waits
      → FollowsAlong link steps titles first
  follows_over titles first Waits prompt timers early late old last script calls ready run x y e partners at half left =
      let stands = (numbers titles timers early old calls x e).1 at in
      record {
        opened = over_opened link steps law titles first Waits prompt going flowing knows begun titles timers early late old last script calls ready run x y e partners stands half left;
        accepted = λ gone listens.
            over_accepted link steps law titles first Waits prompt going flowing knows begun titles timers early late old last script calls ready run x y e partners stands half left listens
            (steady titles timers early old calls) gone;
        closing = λ listens.
            over_closing link steps law titles first Waits prompt going flowing knows begun titles timers early late old last script calls ready run x y e partners stands half left listens
            (steady titles timers early old calls);
      }

module _ {C : Type 0} (link : C → Link (List ℕ)) (steps : C → Call (List ℕ) → C → Type 0) (law : (old : C) (call : Call (List ℕ)) (new : C) → steps old call new → Keeps (link old) call (link new))
    (flowing : Flowing) (knows : KnowsTaken) (begins : (times : Times) (titles : List (List ℕ)) (w : Whole) → IsNothing w → Written times titles w [])
    (titles : List (List ℕ)) (timers : Timers) (journal : List Event) (last : World C) (calls : AreHonestCalls link steps whole titles timers journal last) where
  rests : Rests link AreProper titles timers journal last
  rests = calls_rest link steps law flowing knows begins titles timers journal last calls

  pub indicated_late : (x since : ℕ) (e : End) → Stands last x e → e.stage ≡ UserWait since → (since ≤ (link last.carrier).clock) × ((link last.carrier).clock < since + timers.inactive)
  indicated_late x since e s is =
      let known = known_at link titles timers rests.w journal last rests.explains x s.system s.entity s.reference e s.is_end in
      let own = (sound link titles timers rests.w journal last rests.explains).own known.0.k known.0.at.low in
      let seen : IsAsked (rests.w.base.end known.0.k).birth (rests.w.base.end known.0.k).latest e.base since =
      subst (IsSeenIn (rests.w.base.end known.0.k).birth (rests.w.base.end known.0.k).took (rests.w.base.end known.0.k).latest e.base) is known.0.sees.state in
      let none = none_due (link last.carrier).clock s.entity s.reference e
      (subst (λ (n : ℕ). first_due n s.entity ≡ None) (sym rests.explains.carries.clock) (rests.rest s.system s.entity s.is_end.there).1) s.is_end.stands in
      let t_is : e.base.timers ≡ timers = (rests.explains.known.holds s.system s.entity s.is_end.there).theirs s.reference e s.is_end.stands in
      let not_due : nat_le (since + timers.inactive) (link last.carrier).clock ≡ false =
      subst (λ (t : Timers). nat_le (since + t.inactive) (link last.carrier).clock ≡ false) t_is (subst (λ (z : StateData). is_due_by (link last.carrier).clock (due e.base z) ≡ false) is none) in
      let early = leb-false (since + timers.inactive) (link last.carrier).clock not_due in
      let clock = rests.explains.carries.clock in
      let made = seen.made in
      (omega (arith, made, clock, own.made_low, own.took_low), omega (arith, early))
