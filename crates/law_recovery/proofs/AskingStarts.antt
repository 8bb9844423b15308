-- From a state in which nothing is left to deliver: lines that are settled and lose nothing, and what becomes of an end that asked. Where its tries are T1 old it has sent its CR again, since no
-- end is due; so its called end is there, or it was answered.
use Rattle.std.proofs.Common.{◌++◌, ◌+◌, ◌∙◌, ◌∷◌, ◌≡◌, ◌≤◌, ◌⊎◌, List, Some, [], ℕ, ap, false, inl, inr, refl, subst, sym, true, append-nil}
use Rattle.std.proofs.lemmas.Bool.{le-leb}
use Rattle.std.proofs.lemmas.Option.{same_Some}
use Rattle.osi_base.specs.Calls.{Call, Keeps}
use Rattle.osi_base.specs.Link.{Link}
use Rattle.osi_base.specs.declared.unit.Unit.{Unit as CarriedUnit}
use Rattle.script_journal.specs.declared.event.Event.{Event}
use Rattle.script_lines.specs.declared.line.Line.{Line}
use Rattle.net_world.specs.Fifo.{IsFifo}
use Rattle.net_world.specs.Prompt.{IsPrompt}
use Rattle.tp4_conn.specs.End.{End, IsTimed}
use Rattle.tp4_conn.specs.Matching.{is_called_by}
use Rattle.tp4_conn.specs.Table.{due}
use Rattle.tp4_conn.specs.declared.end_record.EndRecord.{EndRecord}
use Rattle.tp4_conn.specs.declared.states.InAkWait.{InAkWait}
use Rattle.tp4_conn.specs.declared.states.InCrWait.{InCrWait}
use Rattle.tp4_conn.specs.declared.states.StateData.TheVariants.{AkWait}
use Rattle.tp4_conn.specs.declared.timers.Timers.{Timers}
use Rattle.tp4_entity.specs.Entity.{Entity, end_at}
use Rattle.tp4_entity.specs.Step.{is_due, is_due_by}
use Rattle.law_tp4_associations.proofs.Dues.{none_due}
use Rattle.tp4_world.specs.World.{World, entity_at}
use Rattle.law_tp4_lawful.proofs.Worlds.{Followed}
use Rattle.law_recovery_run.specs.Ordered.{InOrder, IsReady, ReachedFrom, RunsInOrder}
use Rattle.law_recovery_run.proofs.Aiming.{Going}
use Rattle.law_recovery_run.proofs.Ordered.{is_fifo, keeps_order}
use Rattle.law_recovery_run.specs.Following.{Stands}
use Rattle.law_recovery_run.proofs.Settling.{IsExplained, timed as timed_by}
use Rattle.law_recovery_run.specs.Requesting.{AreListening, AreUnanswered, cr_from, in_cr_wait}
use Rattle.law_recovery_run.proofs.RequestComes.{Asking, IsPending, Refusing, Waiting, none_there}
use Rattle.law_recovery_run.proofs.RequestSettles.{here, is_indicated, own_is}
use Rattle.law_recovery_run.specs.Asked.{IsExhausted, IsTold, IsUnregistered}
use Rattle.law_recovery.specs.AskingAlong.{HasIndicated}
use Rattle.law_recovery.proofs.HalvesLines.{kept}
use Rattle.law_recovery.proofs.State.{Accepted, Asked, Early, IsOn, Over, Replied, Told}
use Rattle.law_recovery.proofs.Deeds.{HasReached}
use Rattle.law_recovery.proofs.Starting.{runs_reach}

none_split : {A : Type 0} (front : List A) (one : A) (back : List A) → [] ≡ front ++ (one ∷ back) → ⊥
none_split {A} [] one back is = cc is
none_split {A} (other ∷ front) one back is = cc is

module _ {C : Type 0} (link : C → Link (List ℕ)) (steps : C → Call (List ℕ) → C → Type 0)
    (law : (old : C) (call : Call (List ℕ)) (new : C) → steps old call new → Keeps (link old) call (link new))
    (titles : List (List ℕ)) (begins : C) (Waits : C → List (CarriedUnit (List ℕ)) → Type 0) (prompt : IsPrompt link steps titles (ReachedFrom link steps titles begins) Waits) (going : Going)
    (follow : (titles : List (List ℕ)) (timers : Timers) → Followed titles timers) where
  abbrev fifo : IsFifo link (InOrder link steps) titles Waits
  fifo = is_fifo link steps titles (ReachedFrom link steps titles begins) Waits prompt

  module _ (early late : List Event) (old last : World C) (script : List Line) (x : ℕ) (b : EndRecord) (r : InCrWait) (ex : IsExplained link early old) (ready : IsReady link steps titles begins old)
      (c : Stands old x (in_cr_wait b r)) (run : RunsInOrder link steps titles old script late last) where
    abbrev from : List ℕ
    from = c.entity.own

    abbrev N : Type 0
    N = IsUnregistered old b.to b.called

    abbrev On : (F : Type 0) (y limit : ℕ) → List Event → World C → Type 0
    On F y limit done world = IsOn link x c.system from N F y limit b r done world []

    reached : (F : Type 0) (y limit : ℕ) → On F y limit [] old → HasReached link ex.titles ex.timers early (IsOn link x c.system from N F y limit b r) late last
    reached F y limit begun = runs_reach link steps law titles begins Waits prompt going follow ex.titles ex.timers timed ex.w early early [] late old last script ex.explains ex.fit ready run (sym (append-nil early)) _ _
        (kept link (InOrder link steps) (keeps_order link steps law) titles Waits fifo ex.titles ex.timers going follow timed early x c.system from N F y limit b r) begun
      where
        -- the timers of an end are those of the network
        timed : IsTimed ex.timers
        timed = timed_by link (InOrder link steps) (keeps_order link steps law) titles Waits fifo going follow early old ex x (in_cr_wait b r) c

    -- where nothing waits no end is due
    not_due : (F : Type 0) (y limit : ℕ) (begun : On F y limit [] old) (system own : ℕ) (entity : Entity) (e : End) → entity_at last.entities system ≡ Some entity → end_at entity own ≡ Some e
        → is_due (link last.carrier).clock (Some e) ≡ false
    not_due F y limit begun system own entity e there at_it = none_due (link last.carrier).clock entity own e ((reached F y limit begun).waiting system entity there) at_it

    due_or : (tick : ℕ) (e : End) → is_due (link last.carrier).clock (Some e) ≡ false → due e.base e.stage ≡ Some tick → tick ≤ (link last.carrier).clock → ⊥
    due_or tick e none is low =
        let at_it : is_due (link last.carrier).clock (Some e) ≡ true = ap (is_due_by (link last.carrier).clock) is ∙ le-leb tick (link last.carrier).clock low in
        absurd (cc (at_it, none))

    -- none that it called was answered
    pub asks_along : AreUnanswered old b.to c.entity.own c.reference → AreListening (link old.carrier).clock old b.to → r.tries.last + b.timers.t1 ≤ (link last.carrier).clock
        → HasIndicated (early ++ late) last x ⊎ IsTold (IsUnregistered old b.to b.called) late x
    asks_along unanswered listens past = by l.holds
      where
        begun : On ⊥ 0 0 [] old
        begun = Early (λ never. never) (record {
          here = here link early old ex x b r c N;
          unanswered = subst (AreUnanswered old b.to from) (own_is link early old ex x b r c) unanswered;
          listens = listens;
          selects = λ place entity there own none. record { system = place; entity = entity; there = there; own_is = own; none = none };
          apart = tt;
        })

        l : HasReached link ex.titles ex.timers early (IsOn link x c.system from N ⊥ 0 0 b r) late last
        l = reached ⊥ 0 0 begun

        after : IsExplained link (early ++ late) last
        after = record { titles = ex.titles; timers = ex.timers; w = l.w; explains = l.explains; fit = l.fit }

        by : On ⊥ 0 0 late last → HasIndicated (early ++ late) last x ⊎ IsTold N late x
        by (Early never k) = absurd (due_or (r.tries.last + b.timers.t1) (in_cr_wait b r) (not_due ⊥ 0 0 begun c.system b.own k.here.entity (in_cr_wait b r) k.here.there k.here.stands) refl past)
        by (Asked never base tried k p) = there p
          where
            there : IsPending c.system x from N base tried last [] → HasIndicated (early ++ late) last x ⊎ IsTold N late x
            there (Asking waits) = absurd (none_there (cr_from c.system base tried) waits)
            there (Refusing d) = absurd (none_there _ d.waits)
            there (Waiting d) = inl (base, tried, is_indicated link (early ++ late) last after c.system x from N base tried k.here k.unanswered d)
        by (Accepted on base tried k) = absurd on
        by (Replied base tried k) = absurd (none_split k.front k.answer k.back k.posts_are)
        by (Told t) = inr t
        by (Over on t) = absurd on

    -- the user of the end that it called accepted
    pub accepts_along : (y : ℕ) (f : End) (v : InAkWait) (d : Stands old y f) → f.stage ≡ AkWait v → d.entity.own ≡ b.to → is_called_by f.base c.entity.own c.reference ≡ true
        → v.tries.last + f.base.timers.t1 ≤ (link last.carrier).clock → IsTold (IsUnregistered old b.to b.called) late x ⊎ IsExhausted late y
    accepts_along y f v d stage address called past = by l.holds
      where
        limit : ℕ
        limit = (link last.carrier).clock

        -- it stands there, so the entity is not silent
        listens : AreListening (link old.carrier).clock old b.to
        listens place entity there own =
            let at_it : place ≡ d.system = ex.explains.known.apart place d.system entity d.entity there d.is_end.there (own ∙ sym address) in
            let entity_is : entity ≡ d.entity = same_Some entity d.entity (sym there ∙ ap (entity_at old.entities) at_it ∙ d.is_end.there) in
            (ex.fit place entity there).audible d.reference f (ap (λ (e : Entity). end_at e d.reference) entity_is ∙ d.is_end.stands)

        begun : On (Prim.Unit {0}) y limit [] old
        begun = Accepted tt b r (record {
          here = here link early old ex x b r c N;
          listens = listens;
          selects = λ place entity there own none. record { system = place; entity = entity; there = there; own_is = own; none = none };
          apart = tt;
          at_system = d.system;
          own = d.reference;
          entity = d.entity;
          there = d.is_end.there;
          own_is = address;
          end = f;
          w = v;
          stands = d.is_end.stands;
          stage = stage;
          called = subst (λ (n : ℕ). is_called_by f.base from n ≡ true) (own_is link early old ex x b r c) called;
          number = d.is_end.number;
          past = past;
          quiet = tt;
        })

        l : HasReached link ex.titles ex.timers early (IsOn link x c.system from N (Prim.Unit {0}) y limit b r) late last
        l = reached (Prim.Unit {0}) y limit begun

        by : On (Prim.Unit {0}) y limit late last → IsTold N late x ⊎ IsExhausted late y
        by (Early never k) = absurd (never tt)
        by (Asked never base tried k p) = absurd (never tt)
        by (Accepted on base tried k) =
            absurd (due_or (k.w.tries.last + k.end.base.timers.t1) k.end (not_due (Prim.Unit {0}) y limit begun k.at_system k.own k.entity k.end k.there k.stands) (ap (due k.end.base) k.stage) k.past)
        by (Replied base tried k) = absurd (none_split k.front k.answer k.back k.posts_are)
        by (Told t) = inl t
        by (Over on t) = inr t
