-- An end that stood half-open beside a partner that had left, after lines that are settled and lose nothing: where it is Opened still, its time of inactivity has not passed.
use Rattle.std.proofs.Common.{◌≡◌, ◌⊎◌, inl, inr, ℕ, ◌+◌, ◌*◌, ◌<◌, ◌≤◌, min, nat_le, true, false, List, [], ◌++◌, Option, Some, None, refl, sym, ◌∙◌, ap, subst, arith}
use Rattle.std.proofs.lemmas.Bool.{leb-false}
use Rattle.std.proofs.lemmas.Option.{same_Some}
use Rattle.osi_base.specs.Calls.{Call, Keeps as CarrierKeeps}
use Rattle.osi_base.specs.Link.{Link}
use Rattle.osi_base.specs.declared.unit.Unit.{Unit as CarriedUnit}
use Rattle.script_journal.specs.Partner.{ArePartners}
use Rattle.script_journal.specs.declared.event.Event.{Event}
use Rattle.script_lines.specs.declared.line.Line.{Line}
use Rattle.net_world.specs.Fifo.{IsFifo}
use Rattle.net_world.specs.Prompt.{IsPrompt}
use Rattle.tpdu.specs.declared.service.Options.{Options}
use Rattle.tp4_number.specs.Number.{whole}
use Rattle.tp4_sending.specs.SendingHalf.{due_of}
use Rattle.tp4_sending.specs.Pieces.{sooner}
use Rattle.tp4_conn.specs.End.{End}
use Rattle.tp4_conn.specs.Table.{due}
use Rattle.tp4_conn.specs.declared.end_record.EndRecord.{EndRecord}
use Rattle.tp4_conn.specs.declared.states.InAkWait.{InAkWait}
use Rattle.tp4_conn.specs.declared.states.StateData.{StateData}
use Rattle.tp4_conn.specs.declared.states.StateData.TheVariants as stages
use Rattle.tp4_conn.specs.declared.timers.Timers.{Timers}
use Rattle.tp4_entity.specs.Association.{is_frozen}
use Rattle.tp4_entity.specs.Entity.{Entity, end_at}
use Rattle.tp4_entity.specs.Step.{is_due, is_due_by}
use Rattle.law_tp4_history.specs.Ends.{Times}
use Rattle.law_tp4_history.specs.Journals.{Written}
use Rattle.law_tp4_history.specs.Tracks.{IsNothing, Whole}
use Rattle.law_tp4_proper.specs.Rest.{AreInTime, AreProper}
use Rattle.law_tp4_pair.specs.Standing.{HasLeft}
use Rattle.tp4_world.specs.World.{World}
use Rattle.law_tp4_associations.proofs.Dues.{none_due}
use Rattle.law_tp4_lawful.specs.Called.{AreHonestCalls}
use Rattle.law_tp4_lawful.proofs.ActsLines.{Flowing}
use Rattle.law_tp4_lawful.proofs.CalledStarts.{followed_by}
use Rattle.law_tp4_lawful.proofs.Known.{IsOffered, Known}
use Rattle.law_tp4_lawful.proofs.MeetsOthers.{KnowsTaken}
use Rattle.law_tp4_lawful.proofs.WorldCalls.{calls_hold}
use Rattle.law_tp4_lawful.proofs.WorldKnown.{plain_kept}
use Rattle.law_tp4_lawful.proofs.WorldOutcomes.{one_unit, outcomes}
use Rattle.law_tp4_lawful.proofs.WorldStarts.{started}
use Rattle.law_tp4_lawful.proofs.Worlds.{Rests}
use Rattle.law_calm_run.specs.Service.{end_at_number}
use Rattle.law_calm_run.proofs.Hall.{Post}
use Rattle.law_recovery_run.specs.Ordered.{InOrder, IsReady, ReachedFrom, RunsInOrder}
use Rattle.law_recovery_run.proofs.Aiming.{Going}
use Rattle.law_recovery_run.proofs.Ordered.{is_fifo, keeps_order}
use Rattle.law_recovery_run.specs.Recovered.{IsOver}
use Rattle.law_recovery_run.specs.Following.{Stands}
use Rattle.law_recovery_run.proofs.Fitting.{calls_fit}
use Rattle.law_recovery_run.specs.Over.{HasLeftEnd}
use Rattle.law_recovery.proofs.Numbers.{left_by_number}
use Rattle.law_recovery_world.specs.Steady.{EndsAreSteady, StageMade}
use Rattle.law_recovery_run.specs.Requesting.{AreListening}
use Rattle.law_recovery_run.proofs.RequestComes.{none_there}
use Rattle.law_recovery_run.specs.Halves.{IsFrozenOrGone, KnowsPartner, IsNotAccepted}
use Rattle.law_recovery_run.proofs.Numbers.{has_number}
use Rattle.law_recovery.proofs.Accepted.{Answers, Confirms, IsAnswerable, IsAwaited, IsClosedBy, IsTriedBy, Keeps, kept as kept_answerable, not_closed}
use Rattle.law_recovery.proofs.Beside.{Holds, kept}
use Rattle.law_recovery.proofs.HalvesDeeds.{IsKept}
use Rattle.law_recovery.proofs.Parting.{IsNotClosing}
use Rattle.law_recovery.proofs.Partner.{IsHalf, IsStill, Parties, partner_number}
use Rattle.law_recovery.proofs.Past.{HasParted, parted_by}
use Rattle.law_recovery.proofs.HalvesStarting.{half_here, parties}
use Rattle.law_recovery.proofs.Deeds.{HasReached}
use Rattle.law_recovery.proofs.Starting.{runs_reach}
use Rattle.law_recovery.proofs.HalvesWalking.{kept_along}

-- ---- what is due

not_yet : (now tick : ℕ) (other : Option ℕ) → is_due_by now (sooner (Some tick) other) ≡ false → now < tick
not_yet now tick None not_due = leb-false tick now not_due
not_yet now tick (Some more) not_due = let early = leb-false (min tick more) now not_due in omega (arith, early)

sooner_first : (now tick : ℕ) (one other : Option ℕ) → is_due_by now (sooner (sooner (Some tick) one) other) ≡ false → now < tick
sooner_first now tick None other not_due = not_yet now tick other not_due
sooner_first now tick (Some more) None not_due = let early = leb-false (min tick more) now not_due in omega (arith, early)
sooner_first now tick (Some more) (Some last) not_due = let early = leb-false (min (min tick more) last) now not_due in omega (arith, early)

-- ---- an end in AkWait

frozen_out : (stage : StateData) → is_frozen stage ≡ true → IsNotClosing stage
frozen_out (stages.Frozen when) is = tt
frozen_out other is = absurd (cc is)

tried_by_now : (bound now : ℕ) (p : Parties) (b : EndRecord) (agreed : Option Options) (stage : StateData) → now ≤ bound → KnowsPartner stage → StageMade now b stage → IsTriedBy bound now p [] agreed stage
tried_by_now bound now p b agreed (stages.AkWait v) low half made = inl (let last = made.0 in omega (arith, low, last))
tried_by_now bound now p b agreed (stages.Opened o) low half made = tt
tried_by_now bound now p b agreed (stages.UserWait since) low half made = tt
tried_by_now bound now p b agreed stage low half made = absurd half

-- an end that is Closing sent its DR by now
closed_by_now : (bound now : ℕ) (p : Parties) (agreed : Option Options) (b : EndRecord) (stage : StateData) → now + b.timers.t1 ≤ bound → HasParted now stage → IsClosedBy bound now p agreed [] b stage
closed_by_now bound now p agreed b (stages.Closing c) low parted = inl (omega (arith, low, parted), omega (arith, low))
closed_by_now bound now p agreed b stage low parted = tt

none_awaited : (bound now : ℕ) (p : Parties) (agreed : Option Options) (v : InAkWait) → (v.tries.last ≤ bound) ⊎ ((v.tries.last ≤ now) × IsAwaited p agreed []) → v.tries.last ≤ bound
none_awaited bound now p agreed v (inl early) = early
none_awaited bound now p agreed v (inr awaited) = by awaited.1
  where
    by : IsAwaited p agreed [] → v.tries.last ≤ bound
    by (Confirms post among own) = absurd (none_there post among)
    by (Answers answered) = absurd (none_there answered.post answered.among)

-- ---- a network after calls

-- a history explains it, with its timers, and no end is due
module _ {C : Type 0} (link : C → Link (List ℕ)) (steps : C → Call (List ℕ) → C → Type 0) (law : (old : C) (call : Call (List ℕ)) (new : C) → steps old call new → CarrierKeeps (link old) call (link new))
    (flowing : Flowing) (knows : KnowsTaken) (begins : (times : Times) (titles : List (List ℕ)) (w : Whole) → IsNothing w → Written times titles w []) where
  pub calls_rest : (titles : List (List ℕ)) (timers : Timers) (journal : List Event) (last : World C) → AreHonestCalls link steps whole titles timers journal last → Rests link AreProper titles timers journal last
  calls_rest titles timers journal last a =
      let r = a.run in
      let rests : Rests link AreProper titles timers r.begun r.first =
      started titles timers a.timed a.timed.inactive_least a.distinct r.placed r.is_first.entities r.untouched begins link steps law (followed_by flowing knows titles timers) AreProper AreInTime outcomes r.made r.begun
      r.first r.is_first r.starts in
      let all = calls_hold titles timers (Known titles timers) IsOffered (plain_kept titles timers) a.timed link steps law (followed_by flowing knows titles timers) one_unit AreProper AreInTime outcomes r.calls r.first last r.begun r.later a.honest a.limits rests r.did in
      subst (λ (xs : List Event). Rests link AreProper titles timers xs last) (sym r.journal_is) all

-- ---- the lines

module _ {C : Type 0} (link : C → Link (List ℕ)) (steps : C → Call (List ℕ) → C → Type 0)
    (law : (old : C) (call : Call (List ℕ)) (new : C) → steps old call new → CarrierKeeps (link old) call (link new))
    (titles : List (List ℕ)) (first : C) (Waits : C → List (CarriedUnit (List ℕ)) → Type 0) (prompt : IsPrompt link steps titles (ReachedFrom link steps titles first) Waits) (going : Going)
    (flowing : Flowing) (knows : KnowsTaken) (begins : (times : Times) (titles : List (List ℕ)) (w : Whole) → IsNothing w → Written times titles w [])
    (names : List (List ℕ)) (timers : Timers) (early late : List Event) (old last : World C) (script : List Line)
    (calls : AreHonestCalls link steps whole names timers early old) (ready : IsReady link steps titles first old) (run : RunsInOrder link steps titles old script late last) where
  abbrev ordered : C → Call (List ℕ) → C → Type 0
  ordered = InOrder link steps

  abbrev orders : (old : C) (call : Call (List ℕ)) (new : C) → ordered old call new → CarrierKeeps (link old) call (link new)
  orders = keeps_order link steps law

  abbrev fifo : IsFifo link ordered titles Waits
  fifo = is_fifo link steps titles (ReachedFrom link steps titles first) Waits prompt

  rests : Rests link AreProper names timers early old
  rests = calls_rest link steps law flowing knows begins names timers early old calls

  abbrev t0 : ℕ
  t0 = (link old.carrier).clock

  -- what is kept holds after them
  pub reaches : (P : List Event → World C → List Post → Type 0) → IsKept link names timers P → P early old [] → HasReached link names timers [] P (early ++ late) last
  reaches P is_kept holds =
      runs_reach link steps law titles first Waits prompt going (followed_by flowing knows) names timers calls.timed rests.w early [] early late old last script rests.explains
      (calls_fit link steps law names timers early old calls) ready run refl P _ (kept_along link ordered orders titles Waits fifo names timers going (followed_by flowing knows) calls.timed P is_kept) holds

  module _ (x y : ℕ) (e : End) (partners : ArePartners early x y) (s : Stands old x e) (half : KnowsPartner e.stage) (left : HasLeftEnd old y) where
    abbrev p : Parties
    p = parties link names timers rests.w early old rests.explains x y e partners s half left

    reached : HasReached link names timers [] (Holds t0 p) (early ++ late) last
    reached = reaches (Holds t0 p) (kept link names timers going t0 p) (inr (half_here link names timers rests.w early old rests.explains x y e partners s half left))

    module _ (h : IsHalf t0 p (early ++ late) last []) where
      -- it is that of its number
      it_is : end_at_number last x ≡ Some h.end
      it_is = has_number link names timers reached.w (early ++ late) last reached.explains x h.end
          (record { system = p.system; reference = p.reference; entity = h.entity; is_end = record { there = h.placed; stands = h.stands; number = h.number } })

      timers_are : h.end.base.timers ≡ timers
      timers_are = (reached.explains.known.holds p.system h.entity h.placed).theirs p.reference h.end h.stands

      not_due : is_due (link last.carrier).clock (Some h.end) ≡ false
      not_due = none_due (link last.carrier).clock h.entity p.reference h.end (reached.waiting p.system h.entity h.placed) h.stands

      over_half : t0 + timers.inactive ≤ (link last.carrier).clock → IsOver last x
      over_half late e o at is =
          let stage : h.end.stage ≡ stages.Opened o = ap (λ (z : End). z.stage) (same_Some h.end e (sym it_is ∙ at)) ∙ is in
          let took : o.took ≤ t0 = subst (IsStill t0) stage h.still in
          let early = sooner_first (link last.carrier).clock (o.took + timers.inactive) (Some (o.acked + timers.window)) (due_of o.halves.sending)
          (subst (λ (t : Timers). is_due_by (link last.carrier).clock (sooner (sooner (Some (o.took + t.inactive)) (Some (o.acked + t.window))) (due_of o.halves.sending)) ≡ false) timers_are
          (subst (λ (z : _). is_due_by (link last.carrier).clock (due h.end.base z) ≡ false) stage not_due)) in
          omega (arith, early, took, late)

    pub over_opened : t0 + timers.inactive ≤ (link last.carrier).clock → IsOver last x
    over_opened late e o at is = elim reached.holds [
      | inl gone ↦ subst HasLeft is (left_by_number last x gone e at)
      | inr h ↦ over_half h late e o at is
    ]

    -- ---- in AkWait

    module _ (listens : AreListening (link old.carrier).clock old e.base.to) (steady : EndsAreSteady link timers old) where
      abbrev here_now : IsHalf (link old.carrier).clock (parties link names timers rests.w early old rests.explains x y e partners s half left) early old []
      here_now = half_here link names timers rests.w early old rests.explains x y e partners s half left

      end_here : here_now.end ≡ e
      end_here =
          let owner : here_now.entity ≡ s.entity = same_Some here_now.entity s.entity (sym here_now.placed ∙ s.is_end.there) in
          same_Some here_now.end e (sym here_now.stands ∙ ap (λ (z : Entity). end_at z s.reference) owner ∙ s.is_end.stands)

      -- where what stands at the place of the partner is so
      module _ (bound : ℕ) (low : (link old.carrier).clock ≤ bound)
          (out : (v : End) → end_at here_now.far left.reference ≡ Some v → IsClosedBy bound (link old.carrier).clock p here_now.end.base.agreed [] v.base v.stage) where
        begins_so : IsAnswerable link t0 bound p early old []
        begins_so = record {
          half = here_now;
          awake = listens left.system here_now.far here_now.far_placed here_now.far_own;
          out = λ accepted. out;
          tried = subst (λ (z : End). IsTriedBy bound t0 p [] z.base.agreed z.stage) (sym end_here)
              (tried_by_now bound t0 p e.base e.base.agreed e.stage low half (steady s.system s.entity s.is_end.there s.reference e s.is_end.stands).made);
        }

        answered : HasReached link names timers [] (Keeps link t0 bound p) (early ++ late) last
        answered = reaches (Keeps link t0 bound p) (kept_answerable link names timers going t0 bound p) (inr begins_so)

        over_answerable : bound + timers.t1 ≤ (link last.carrier).clock → IsAnswerable link t0 bound p (early ++ late) last [] → IsNotAccepted last x
        over_answerable passed k d v at is =
            let h = k.half in
            let it : end_at_number last x ≡ Some h.end = has_number link names timers answered.w (early ++ late) last answered.explains x h.end
            (record { system = p.system; reference = p.reference; entity = h.entity; is_end = record { there = h.placed; stands = h.stands; number = h.number } }) in
            let stage : h.end.stage ≡ stages.AkWait v = ap (λ (z : End). z.stage) (same_Some h.end d (sym it ∙ at)) ∙ is in
            let due_none = none_due (link last.carrier).clock h.entity p.reference h.end (answered.waiting p.system h.entity h.placed) h.stands in
            let t_is : h.end.base.timers ≡ timers = (answered.explains.known.holds p.system h.entity h.placed).theirs p.reference h.end h.stands in
            let early_still = leb-false (v.tries.last + timers.t1) (link last.carrier).clock
            (subst (λ (t : Timers). nat_le (v.tries.last + t.t1) (link last.carrier).clock ≡ false) t_is (subst (λ (z : StateData). is_due_by (link last.carrier).clock (due h.end.base z) ≡ false) stage due_none)) in
            let tried : v.tries.last ≤ bound =
            none_awaited bound (link last.carrier).clock p h.end.base.agreed v (subst (IsTriedBy bound (link last.carrier).clock p [] h.end.base.agreed) stage k.tried) in
            omega (arith, early_still, tried, passed)

        over_bound : bound + timers.t1 ≤ (link last.carrier).clock → IsNotAccepted last x
        over_bound passed d v at is = elim answered.holds [
          | inl gone ↦ subst HasLeft is (left_by_number last x gone d at)
          | inr k ↦ over_answerable passed k d v at is
        ]

      -- the partner was frozen or gone
      pub over_accepted : IsFrozenOrGone old y → t0 + timers.t1 ≤ (link last.carrier).clock → IsNotAccepted last x
      over_accepted far_gone = over_bound t0 (omega arith) (λ v at_place. not_closed t0 t0 p here_now.end.base.agreed [] v.base v.stage (frozen_out v.stage (far_gone v (its_end v at_place))))
        where
          its_end : (v : End) → end_at here_now.far left.reference ≡ Some v → end_at_number old y ≡ Some v
          its_end v at_place = has_number link names timers rests.w early old rests.explains y v (record {
            system = left.system;
            reference = left.reference;
            entity = here_now.far;
            is_end = record { there = here_now.far_placed; stands = at_place; number = partner_number link names timers rests.w early old rests.explains t0 p [] here_now v at_place };
          })

      -- however the partner had left
      pub over_closing : t0 + 2 * timers.t1 ≤ (link last.carrier).clock → IsNotAccepted last x
      over_closing passed = over_bound (t0 + timers.t1) (omega arith)
          (λ v at_place.
          let t_is : v.base.timers ≡ timers = (rests.explains.known.holds left.system here_now.far here_now.far_placed).theirs left.reference v at_place in
          closed_by_now (t0 + timers.t1) t0 p here_now.end.base.agreed v.base v.stage (subst (λ (t : Timers). t0 + t.t1 ≤ t0 + timers.t1) (sym t_is) (omega arith))
          (parted_by link steps law names timers early old calls left.system left.reference here_now.far v here_now.far_placed at_place)) (omega (arith, passed))
