-- A settle, delivery after delivery, and what becomes of an end that asked.
use Rattle.std.proofs.Common.{◌≡◌, inl, inr, ℕ, ◌+◌, false, List, [], ◌++◌, Some, sym, ◌∙◌, ap, subst, append_assoc}
use Rattle.std.specs.List.{AllByRecursion}
use Rattle.osi_base.specs.Calls.{Call, Keeps}
use Rattle.osi_base.specs.Link.{IsLeastFresh, Link}
use Rattle.osi_base.specs.declared.unit.Picked.TheVariants.{Taken as WasPicked}
use Rattle.osi_base.specs.declared.unit.Unit.{Unit as CarriedUnit}
use Rattle.script_journal.specs.declared.event.Event.{Event}
use Rattle.script_lines.specs.declared.line.Line.TheVariants as lines
use Rattle.net_world.specs.Fifo.{IsFifo}
use Rattle.tp4_number.specs.Number.{whole}
use Rattle.tp4_conn.specs.End.{IsTimed}
use Rattle.tp4_conn.specs.declared.end_record.EndRecord.{EndRecord}
use Rattle.tp4_conn.specs.declared.states.InCrWait.{InCrWait}
use Rattle.tp4_conn.specs.declared.timers.Timers.{Timers}
use Rattle.tp4_entity.specs.Silence.{is_silent}
use Rattle.law_tp4_pair.specs.Claim.{IsUndropped}
use Rattle.law_tp4_proper.specs.Rest.{AreProper}
use Rattle.tp4_world.specs.Called as requests
use Rattle.tp4_world.specs.Run.{Delivers, NoneLeft, OneMore, Settles, TooMany}
use Rattle.tp4_world.specs.World.{World, entity_at}
use Rattle.tp4_world.specs.declared.place.Placed.{Placed}
use Rattle.tp4_world.proofs.Lined.{line_alike}
use Rattle.law_tp4_lawful.proofs.Worlds.{Followed, Rests}
use Rattle.law_tp4_associations.proofs.EndedWorlds as ended
use Rattle.law_tp4_associations.proofs.EndedWorlds.{IsFitWorld}
use Rattle.law_calm_run.proofs.Hall.{Hall, Post, after}
use Rattle.law_calm_run.proofs.Posting.{AreUnitsOf}
use Rattle.law_calm_run.proofs.Queueing.{all_parts}
use Rattle.law_recovery_run.proofs.Aiming.{Going}
use Rattle.law_recovery_run.proofs.Coming.{StandsSo}
use Rattle.law_recovery.proofs.Lasting.{did_rests}
use Rattle.law_recovery_run.specs.Requesting.{AreListening}
use Rattle.law_recovery.proofs.Hearing.{delivered}
use Rattle.law_recovery.proofs.Meeting.{met_on}
use Rattle.law_recovery.proofs.State.{IsOn}
use Rattle.law_recovery.proofs.TickRows.{same_on}

-- at the same tick
pub listens_same : {C : Type 0} (link : C → Link (List ℕ)) (old new : World C) → new.entities ≡ old.entities → (link new.carrier).clock ≡ (link old.carrier).clock → (to : List ℕ)
    → AreListening (link old.carrier).clock old to → AreListening (link new.carrier).clock new to
listens_same link old new entities clock to was place z there own =
    subst (λ (n : ℕ). is_silent n z ≡ false) (sym clock) (was place z (ap (λ (ps : List Placed). entity_at ps place) (sym entities) ∙ there) own)

module _ {C : Type 0} (link : C → Link (List ℕ)) (steps : C → Call (List ℕ) → C → Type 0)
    (law : (old : C) (call : Call (List ℕ)) (new : C) → steps old call new → Keeps (link old) call (link new))
    (titles : List (List ℕ)) (Waits : C → List (CarriedUnit (List ℕ)) → Type 0) (fifo : IsFifo link steps titles Waits) (names : List (List ℕ)) (timers : Timers) (going : Going)
    (follow : (titles : List (List ℕ)) (timers : Timers) → Followed titles timers) (timed : IsTimed timers) (x system : ℕ) (from : List ℕ) (N : Type 0) (F : Type 0) (y limit : ℕ) (first : EndRecord) (asked : InCrWait) where
  abbrev On : List Event → World C → List Post → Type 0
  On late world posts = IsOn link x system from N F y limit first asked late world posts

  abbrev So : World C → Hall → List (CarriedUnit (List ℕ)) → Type 0
  So world hall queue = StandsSo link steps law titles Waits fifo world hall queue

  abbrev Resting : List Event → World C → Type 0
  Resting journal world = Rests link AreProper names timers journal world

  -- one delivery
  record Handed (late : List Event) (mid : World C) : Type 0 where
    hall : Hall
    queue : List (CarriedUnit (List ℕ))
    stands : So mid hall queue
    on : On late mid hall.posts

  handed : (old mid : World C) (journal late here : List Event) (hall : Hall) (queue : List (CarriedUnit (List ℕ))) (pair : ℕ × ℕ) → So old hall queue → Resting journal old → IsFitWorld link old
      → IsLeastFresh (link old.carrier) (Some pair) → AllByRecursion IsUndropped here → On late old hall.posts → Delivers link steps whole old pair.0 pair.1 WasPicked here mid → Handed (late ++ here) mid
  handed old mid journal late here hall queue pair s r fit fresh all on d = elim (delivered link steps law titles Waits fifo old mid hall queue here pair s fresh all d) [
    | inl still ↦ record {
      hall = hall;
      queue = still.queue;
      stands = still.stands;
      on = same_on link old mid still.entities still.ends (listens_same link old mid still.entities still.clock) x system from N F y limit first asked late here hall.posts on;
    }
    | inr come ↦ record {
      hall = after (record hall { posts = come.come.rest }) come.come.a.system come.come.a.acted;
      queue = come.come.queue;
      stands = come.come.stands;
      on = met_on link names timers r.w journal old r.explains fit going mid come.come.post come.come.rest here come.come.a come.front come.aside come.made_is x system from N F y limit first asked late
          (subst (On late old) come.come.posts_are on);
    }
  ]

  pub settles_on : (count : ℕ) (old : World C) (made : List Event) (new : World C) → Settles link steps whole count old made new → (journal late : List Event) (hall : Hall) (queue : List (CarriedUnit (List ℕ)))
      → So old hall queue → Resting journal old → IsFitWorld link old → AllByRecursion IsUndropped made → On late old hall.posts → On (late ++ made) new []
  settles_on count old made new (NoneLeft n o m l fresh made_is same) journal late hall queue s r fit all on =
      let none : queue ≡ [] = fifo.none old.carrier queue s.shows.waits fresh in
      let posts : hall.posts ≡ [] = subst (λ (q : List (CarriedUnit (List ℕ))). AreUnitsOf titles q hall.posts) none s.shows.units in
      let entities : new.entities ≡ old.entities = ap (λ (v : World C). v.entities) same in
      same_on link old new entities (ap (λ (v : World C). v.ends) same) (listens_same link old new entities (ap (λ (v : World C). (link v.carrier).clock) same)) x system from N F y limit first asked late made []
      (subst (On late old) posts on)
  settles_on count old made new (TooMany n o m l pair fresh most made_is same) journal late hall queue s r fit all on = absurd (subst (λ (es : List Event). AllByRecursion IsUndropped es) made_is all).0
  settles_on count old made new (OneMore n o m l pair mid here rest fresh low delivers settles made_is) journal late hall queue s r fit all on =
      let parts = all_parts IsUndropped here rest (subst (λ (es : List Event). AllByRecursion IsUndropped es) made_is all) in
      let one : Handed (late ++ here) mid = handed old mid journal late here hall queue pair s r fit fresh parts.0 on delivers in
      let honest = line_alike link steps law whole titles (lines.Deliver pair.0 pair.1) old mid here tt (WasPicked, delivers) ∙ r.explains.carries.honest in
      let rests : Resting (journal ++ here) mid =
      did_rests link steps law titles Waits fifo names timers going follow timed (requests.Deliver pair.0 pair.1 WasPicked) old mid journal here tt honest r delivers in
      let fits : IsFitWorld link mid = (ended.delivered link steps law whole old mid here pair.0 pair.1 WasPicked fit delivers).fit in
      subst (λ (es : List Event). On es new []) (append_assoc late here rest ∙ ap (λ (es : List Event). late ++ es) (sym made_is))
      (settles_on (count + 1) mid rest new settles (journal ++ here) (late ++ here) one.hall one.queue one.stands rests fits parts.1 one.on)
