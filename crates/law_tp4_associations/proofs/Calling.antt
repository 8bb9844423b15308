-- A call that is not refused, where nothing waits: by the phase of its association there is one row, and the association goes on.
use Rattle.std.proofs.Common.{◌≡◌, ℕ, ◌≤◌, true, List, [], ◌∷◌, Some, None, refl, sym, ◌∙◌, ap, subst, inl, inr}
use Rattle.tpdu.specs.declared.service.Options.{Options}
use Rattle.tp4_flow.specs.declared.step.Sent.{Sent}
use Rattle.tp4_number.specs.Number.{whole}
use Rattle.tp4_conn.specs.declared.end_record.EndRecord.{EndRecord}
use Rattle.tp4_conn.specs.declared.call.UserCall.{UserCall}
use Rattle.tp4_conn.specs.declared.call.UserCall.TheVariants.{Accept, Refuse, Normal, Urgent, Window, Disconnect}
use Rattle.tp4_conn.specs.declared.states.InWaitBeforeClose.{InWaitBeforeClose}
use Rattle.tp4_conn.specs.declared.states.InCrWait.{InCrWait}
use Rattle.tp4_conn.specs.declared.states.StateData.{StateData}
use Rattle.tp4_conn.specs.declared.states.StateData.TheVariants.{CrWait, WaitBeforeClose, UserWait, AkWait, Opened, Closing, Frozen}
use Rattle.tp4_conn.specs.declared.timers.Timers.{Timers}
use Rattle.tp4_conn.specs.Agreeing.{agreed_by, is_confirmed}
use Rattle.tp4_conn.specs.Calls.{IsCall, call_refusal}
use Rattle.tp4_conn.specs.End.{End, IsProposal, IsSized, IsTimed, Moved, agreed_sum, end_of, frozen}
use Rattle.tp4_conn.specs.Table.{Called, at, on_call, stepped}
use Rattle.tp4_conn.specs.UserWait.{accepted, refusing, user_wait_accept, user_wait_refuse}
use Rattle.law_tp4_pair.specs.Pair.{Accepts, Asks_called, Pair, next}
use Rattle.law_tp4_pair.specs.Standing.{HasLeft, Stands}
use Rattle.tp4_conn.specs.declared.proposed.Proposed.{Proposed}
use Rattle.tp4_conn.proofs.Agreed.{agreed_within}
use Rattle.tp4_conn.proofs.Sizes.{proposal_by}
use Rattle.law_tp4_pair.proofs.Resting.{accepts_stands}
use Rattle.law_tp4_associations.specs.Association.{Association}
use Rattle.law_tp4_associations.specs.Phase.{AreAll, AreParting, Answered, Asking, Asks, IsAsking, IsConfirming, IsFrozen, IsInUse, IsIndicated, IsPaired, IsRefusal, Late, Leaving, Over, Paired, Phase, Refused, Rejected, Waiting, WillFreeze}
use Rattle.law_tp4_associations.specs.Standing.{IsAssociation}
use Rattle.law_tp4_associations.proofs.Handing.{both_frozen, called_moved, caller_moved, paired_held}
use Rattle.law_tp4_associations.proofs.Holding.{held_on, held_so}
use Rattle.law_tp4_associations.proofs.Pairing.{GoesOn, Pairs, Parts, called_asks, calling_asks, paired_no_asking}
use Rattle.law_tp4_associations.proofs.Phases.{frozen_called, late_held}
use Rattle.law_tp4_associations.proofs.Places.{same_some}
use Rattle.law_tp4_associations.proofs.Waiting.{may_accept}
use Rattle.law_tp4_associations.proofs.Clocked.{not_agreed}

-- a frozen end refuses each call
frozen_refuses : {A : Type 0} (b : EndRecord) (stage : StateData) (call : UserCall) → IsFrozen stage → call_refusal b stage call ≡ None → A
frozen_refuses b (Frozen when) call f e = absurd (cc e)
frozen_refuses b other call f e = absurd f

-- where nothing waits between two ends of which one has left, both are frozen
pub idle_frozen : (z w : End) (here there : List ℕ) → AreParting z w here there [] [] → IsFrozen z.stage × IsFrozen w.stage
idle_frozen z w here there p = by z.stage w.stage p.one.freezes p.next.freezes
  where
    by : (mine theirs : StateData) → WillFreeze z.base.own w.base.own mine theirs [] [] → WillFreeze w.base.own z.base.own theirs mine [] [] → IsFrozen mine × IsFrozen theirs
    by (Frozen t) (Frozen u) f g = (tt, tt)
    by (Frozen t) (Opened o) f g = absurd g
    by (Frozen t) (AkWait a) f (inl g) = absurd g
    by (Frozen t) (AkWait a) f (inr (inl g)) = absurd g
    by (Frozen t) (AkWait a) f (inr (inr g)) = absurd g
    by (Frozen t) (Closing c) f (inl g) = absurd g
    by (Frozen t) (Closing c) f (inr (inl g)) = absurd g
    by (Frozen t) (Closing c) f (inr (inr g)) = absurd g
    by (Frozen t) (CrWait r) f g = absurd g
    by (Frozen t) (WaitBeforeClose r) f g = absurd g
    by (Frozen t) (UserWait s) f g = absurd g
    by (Opened o) (Closing c) f g = absurd f
    by (Opened o) (Frozen t) f g = absurd f
    by (AkWait a) (Closing c) f g = absurd f
    by (AkWait a) (Frozen t) (inl f) g = absurd f
    by (AkWait a) (Frozen t) (inr (inl f)) g = absurd f
    by (AkWait a) (Frozen t) (inr (inr f)) g = absurd f
    by (Closing c) (Closing d) f g = absurd f
    by (Closing c) (Frozen t) (inl f) g = absurd f
    by (Closing c) (Frozen t) (inr (inl f)) g = absurd f
    by (Closing c) (Frozen t) (inr (inr f)) g = absurd f
    by (Closing c) (Opened o) f g = absurd g
    by (Closing c) (AkWait a) f g = absurd g
    by mine theirs f g = absurd f

-- an end without an answer to its CR: its user can only disconnect
record StillAsks (b : EndRecord) (m : Moved) : Type 0 where
  base : m.base ≡ b
  stage : IsAsking m.stage
  tpdus : m.tpdus ≡ []

asking_call : (b : EndRecord) (stage : StateData) (call : UserCall) → IsAsking stage → call_refusal b stage call ≡ None → (c : EndRecord) → StillAsks c (on_call c stage call)
asking_call b (CrWait r) (Disconnect octets) asking allowed c = record { base = refl; stage = tt; tpdus = refl }
asking_call b (CrWait r) (Accept asked octets) asking allowed c = absurd (cc allowed)
asking_call b (CrWait r) (Refuse octets) asking allowed c = absurd (cc allowed)
asking_call b (CrWait r) (Normal unit) asking allowed c = absurd (cc allowed)
asking_call b (CrWait r) (Urgent unit) asking allowed c = absurd (cc allowed)
asking_call b (CrWait r) (Window credit) asking allowed c = absurd (cc allowed)
asking_call b (WaitBeforeClose w) call asking allowed c = absurd (cc allowed)
asking_call b other call asking allowed c = absurd asking

module _ (timers : Timers) (own : ℕ → List ℕ) (now : ℕ) (a : Association) (call : UserCall) (i : IsAssociation timers own now a [] []) where
  abbrev here : List ℕ
  here = own a.from.system

  abbrev there : List ℕ
  there = own a.to

  -- ---- of the calling end

  module _ (x : End) (is : a.calling ≡ Some x) (allowed : call_refusal x.base x.stage call ≡ None) where
    abbrev m : Moved
    m = stepped whole now x (Called call)

    abbrev After : Type 0
    After = Phase timers here there now (record a { calling = Some (end_of m) }) m.tpdus []

    allowed_of : (z : End) → a.calling ≡ Some z → call_refusal z.base z.stage call ≡ None
    allowed_of z at = subst (λ (w : End). call_refusal w.base w.stage call ≡ None) (same_some x z (sym is ∙ at)) allowed

    phase_of : (z : End) → a.calling ≡ Some z → (P : Moved → Type 0) → P (stepped whole now z (Called call)) → P m
    phase_of z at P p = subst (λ (w : End). P (stepped whole now w (Called call))) (same_some z x (sym at ∙ is)) p

    waiting_on : (y : End) (since : ℕ) → a.called ≡ Some y → Asks x → IsIndicated timers now x y since → After
    waiting_on y since called asks indicated =
        let s = asking_call x.base x.stage call asks.stage allowed (at now x.base) in
        subst (λ (l : List Sent). Phase timers here there now (record a { calling = Some (end_of m) }) l []) (sym s.tpdus)
        (Waiting (end_of m) y since refl called (record { stage = s.stage; unagreed = ap (λ (d : EndRecord). d.agreed) s.base ∙ asks.unagreed })
        (record {
          stage = indicated.stage;
          past = indicated.past;
          in_time = indicated.in_time;
          proposed = indicated.proposed ∙ sym (ap (λ (d : EndRecord). d.proposed) s.base);
          credit = indicated.credit ∙ sym (ap (λ (d : EndRecord). d.timers.credit) s.base);
          unagreed = indicated.unagreed;
        }) tt refl)

    paired_on : (p : Pair) → a.calling ≡ Some p.calling → a.called ≡ Some p.called → IsPaired now p [] [] → After
    paired_on p calling called paired =
        let at_clock : IsPaired p.clock p [] [] = record { clock = refl; forth_is = paired.forth_is; back_is = paired.back_is; stands = paired.stands; within = paired.within; stays = paired.stays } in
        let g = calling_asks p here there (i.caller p.calling calling).to (i.called p.called called).to at_clock call (allowed_of p.calling calling) in
        let h = subst (λ (n : ℕ). GoesOn n (end_of (stepped whole n p.calling (Called call))) p.called here there (stepped whole n p.calling (Called call)).tpdus []) paired.clock g in
        phase_of p.calling calling (λ (n : Moved). Phase timers here there now (record a { calling = Some (end_of n) }) n.tpdus []) (by h)
      where
        by : GoesOn now (end_of (stepped whole now p.calling (Called call))) p.called here there (stepped whole now p.calling (Called call)).tpdus []
            → Phase timers here there now (record a { calling = Some (end_of (stepped whole now p.calling (Called call))) }) (stepped whole now p.calling (Called call)).tpdus []
        by (Pairs q one other on) = Paired q (ap Some (sym one)) (called ∙ ap Some (sym other)) on
        by (Parts parting) = Leaving _ p.called refl called parting (held_on now p.calling (Called call) (paired_held now p.calling (λ l. paired.stays (inl l)))) (paired_held now p.called (λ l. paired.stays (inr l)))

    calling_phase : After
    calling_phase = by i.phase
      where
        by : Phase timers here there now a [] [] → After
        by (Asking z r calling called asks stage forth_is back_is) = absurd (cc forth_is)
        by (Rejected z refusal calling called asks forth_is back_is to r) = absurd (cc back_is)
        by (Waiting z y since calling called asks indicated requests back_is) =
            let z_is = same_some z x (sym calling ∙ is) in
            waiting_on y since called (subst Asks z_is asks) (subst (λ (w : End). IsIndicated timers now w y since) z_is indicated)
        by (Late z y when since calling called stage unagreed indicated before forth_is back_is) = frozen_refuses z.base z.stage call (subst IsFrozen (sym stage) tt) (allowed_of z calling)
        by (Refused z y first others calling called asks frozen_y held unagreed requests back_is refusals) = absurd (cc back_is)
        by (Answered z y w calling called asks stage confirming forth_is) = absurd (cc (confirming.back_is))
        by (Paired p calling called paired) = paired_on p calling called paired
        by (Leaving z y calling called parting held_x held_y) = frozen_refuses z.base z.stage call (idle_frozen z y here there parting).0 (allowed_of z calling)
        by (Over calling called forth_is back_is) = frozen_refuses x.base x.stage call (frozen_called a.calling x is calling) allowed

    pub calling_goes : IsAssociation timers own now (record a { calling = Some (end_of m) }) m.tpdus []
    calling_goes = caller_moved timers own now a i.caller i.called i.some x (Called call) m.tpdus [] is calling_phase

  -- ---- of the called end

  module _ (y : End) (is : a.called ≡ Some y) (allowed : call_refusal y.base y.stage call ≡ None) (proper : IsCall call) (timed : IsTimed timers) where
    abbrev n : Moved
    n = stepped whole now y (Called call)

    abbrev Then : Type 0
    Then = Phase timers here there now (record a { called = Some (end_of n) }) [] n.tpdus

    allowed_at : (z : End) → a.called ≡ Some z → call_refusal z.base z.stage call ≡ None
    allowed_at z at = subst (λ (w : End). call_refusal w.base w.stage call ≡ None) (same_some y z (sym is ∙ at)) allowed

    row_of : (z : End) → a.called ≡ Some z → (P : Moved → Type 0) → P (stepped whole now z (Called call)) → P n
    row_of z at P p = subst (λ (w : End). P (stepped whole now w (Called call))) (same_some z y (sym at ∙ is)) p

    -- the row of an end whose user answers
    data Answer : Type 0 where
      Accepts_it : (asked : Options) (octets : List ℕ) → call ≡ Accept asked octets → IsSized asked
          → n ≡ accepted (record (at now y.base) { agreed = Some (agreed_by y.base.proposed asked) }) (agreed_by y.base.proposed asked) octets → Answer
      Refuses_it : (octets : List ℕ) → n ≡ frozen (at now y.base) [] (refusing (at now y.base) octets ∷ []) → Answer

    accept_row : (since : ℕ) (asked : Options) (octets : List ℕ) → y.stage ≡ UserWait since → call ≡ Accept asked octets
        → n ≡ accepted (record (at now y.base) { agreed = Some (agreed_by y.base.proposed asked) }) (agreed_by y.base.proposed asked) octets
    unfolding user_wait_accept
    accept_row since asked octets stage call_is =
        ap (λ (s : StateData). on_call (at now y.base) s call) stage ∙ ap (λ (u : UserCall). on_call (at now y.base) (UserWait since) u) call_is

    refuse_row : (since : ℕ) (octets : List ℕ) → y.stage ≡ UserWait since → call ≡ Refuse octets → n ≡ frozen (at now y.base) [] (refusing (at now y.base) octets ∷ [])
    unfolding user_wait_refuse
    refuse_row since octets stage call_is =
        ap (λ (s : StateData). on_call (at now y.base) s call) stage ∙ ap (λ (u : UserCall). on_call (at now y.base) (UserWait since) u) call_is

    answers : (since : ℕ) → y.stage ≡ UserWait since → Answer
    answers since stage = by call refl (subst (λ (s : StateData). call_refusal y.base s call ≡ None) stage allowed) proper
      where
        by : (c : UserCall) → call ≡ c → call_refusal y.base (UserWait since) c ≡ None → IsCall c → Answer
        by (Accept asked octets) same ok fit = Accepts_it asked octets same fit (accept_row since asked octets stage same)
        by (Refuse octets) same ok fit = Refuses_it octets (refuse_row since octets stage same)
        by other same ok fit = absurd (cc ok)

    -- the user accepts
    pair_begun : (x : End) (r : InCrWait) (since : ℕ) (asked : Options) (octets : List ℕ) → a.calling ≡ Some x → x.stage ≡ CrWait r → y.stage ≡ UserWait since → y.base.proposed ≡ x.base.proposed → IsSized asked
        → call ≡ Accept asked octets
        → n ≡ accepted (record (at now y.base) { agreed = Some (agreed_by y.base.proposed asked) }) (agreed_by y.base.proposed asked) octets → Then
    pair_begun x r since asked octets calling waits stage proposed size call_is row =
        let first : Pair = record { clock = now; calling = x; called = y; forth = []; back = []; calling_gave = []; called_gave = []; calling_showed = []; called_showed = []; calling_told = []; called_told = [] } in
        let accepts : Accepts first asked = may_accept timers own now a [] [] x y since calling is stage i r asked waits timed size in
        let q : Pair = next first (Asks_called call) in
        Paired q calling refl (record {
          clock = refl;
          forth_is = refl;
          back_is = refl;
          stands = subst (λ (u : UserCall). Stands (next first (Asks_called u))) (sym call_is) (accepts_stands first asked octets accepts);
          within = λ s options was agreed. fits options (sym agreed ∙ ap (λ (m : Moved). m.base.agreed) row);
          stays = λ any. elim any [ inl left ↦ subst HasLeft waits left | inr left ↦ subst (λ (m : Moved). HasLeft m.stage) row left ];
        })
      where
        fits : (options : Options) → Some options ≡ Some (agreed_by y.base.proposed asked) → is_confirmed x.base.proposed options ≡ true
        fits options same =
            let o : options ≡ agreed_by y.base.proposed asked = same_some options (agreed_by y.base.proposed asked) same in
            ap (is_confirmed x.base.proposed) o ∙ ap (λ (d : Proposed). is_confirmed x.base.proposed (agreed_by d asked)) proposed
            ∙ agreed_within x.base.proposed asked (subst (λ (d : Proposed). IsProposal d) (sym (i.caller x calling).proposed) (proposal_by x.base.proposed.options (i.caller x calling).size)) size

    answered_late : (x : End) (w : InWaitBeforeClose) (asked : Options) (octets : List ℕ) → a.calling ≡ Some x → Asks x → x.stage ≡ WaitBeforeClose w
        → n ≡ accepted (record (at now y.base) { agreed = Some (agreed_by y.base.proposed asked) }) (agreed_by y.base.proposed asked) octets → Then
    answered_late x w asked octets calling asks stage row =
        Answered x (end_of n) w calling refl asks stage
        (subst (λ (m : Moved). IsConfirming (end_of m) m.tpdus) (sym row) (record { answering = _; stage = refl; options = agreed_by y.base.proposed asked; agreed = refl; octets = octets; back_is = refl })) refl

    asking_answered : (x : End) (stage : StateData) (since : ℕ) (asked : Options) (octets : List ℕ) → a.calling ≡ Some x → Asks x → x.stage ≡ stage → IsAsking stage → y.stage ≡ UserWait since → y.base.proposed ≡ x.base.proposed
        → IsSized asked → call ≡ Accept asked octets → n ≡ accepted (record (at now y.base) { agreed = Some (agreed_by y.base.proposed asked) }) (agreed_by y.base.proposed asked) octets → Then
    asking_answered x (CrWait r) since asked octets calling asks at asking stage proposed size call_is row = pair_begun x r since asked octets calling at stage proposed size call_is row
    asking_answered x (WaitBeforeClose w) since asked octets calling asks at asking stage proposed size call_is row = answered_late x w asked octets calling asks at row
    asking_answered x other since asked octets calling asks at asking stage proposed size call_is row = absurd asking

    refused_now : (x : End) (since : ℕ) (octets : List ℕ) → a.calling ≡ Some x → Asks x → y.stage ≡ UserWait since → y.base.agreed ≡ None → n ≡ frozen (at now y.base) [] (refusing (at now y.base) octets ∷ []) → Then
    refused_now x since octets calling asks stage unagreed row =
        let d = i.called y is in
        let named : y.base.partner ≡ x.base.own = d.partner ∙ sym (i.caller x calling).own_is in
        Refused x (end_of n) (refusing (at now y.base) octets) [] calling refl asks (subst (λ (m : Moved). IsFrozen m.stage) (sym row) tt) (held_on now y (Called call) (held_so now y (UserWait since) stage refl))
        (ap (λ (m : Moved). m.base.agreed) row ∙ unagreed) tt (ap (λ (m : Moved). m.tpdus) row)
        (subst (λ (m : Moved). AreAll (IsRefusal x.base.own) here m.tpdus) (sym row) (d.to, (named, refl), tt))

    waiting_answered : (x : End) (since : ℕ) → a.calling ≡ Some x → Asks x → IsIndicated timers now x y since → Then
    waiting_answered x since calling asks indicated = by (answers since indicated.stage)
      where
        by : Answer → Then
        by (Accepts_it asked octets call_is size row) = asking_answered x x.stage since asked octets calling asks refl asks.stage indicated.stage indicated.proposed size call_is row
        by (Refuses_it octets row) = refused_now x since octets calling asks indicated.stage indicated.unagreed row

    -- the calling end is frozen
    late_answered : (x : End) (when since : ℕ) → a.calling ≡ Some x → x.stage ≡ Frozen when → x.base.agreed ≡ None → IsIndicated timers now x y since → since ≤ when → Then
    late_answered x when since calling stage unagreed indicated before = by (answers since indicated.stage)
      where
        named : y.base.partner ≡ x.base.own
        named = (i.called y is).partner ∙ sym (i.caller x calling).own_is

        held_x : IsInUse now x
        held_x = late_held timers now x when since stage (i.caller x calling).timers_are before indicated.in_time

        held_y : IsInUse now (end_of n)
        held_y = held_on now y (Called call) (held_so now y (UserWait since) indicated.stage refl)

        frozen_x : record { base = x.base; stage = Frozen when } ≡ x
        frozen_x = λ j. record x { stage = sym stage j }

        confirmed : (b : EndRecord) (o : Options) (octets : List ℕ) → b.agreed ≡ Some o → b.to ≡ here → b.partner ≡ x.base.own
            → AreParting (record { base = x.base; stage = Frozen when }) (end_of (accepted b o octets)) here there (accepted b o octets).tpdus []
        confirmed b o octets agreed to partner = record {
          one = record {
            into_are = (record { kind = (partner, refl, tt); to = to; summed = λ e. absurd (not_agreed x.base.agreed unagreed e); formatted = λ e. absurd (cc e) }, tt);
            knows = record { partner = inl tt; to = (i.caller x calling).to; sum = λ e. ap agreed_sum unagreed; writes = tt };
            freezes = tt;
          };
          next = record {
            into_are = tt;
            knows = record { partner = inr partner; to = to; sum = λ e. absurd (not_agreed x.base.agreed unagreed e); writes = tt };
            freezes = inr (inr (inl tt));
          };
        }

        by : Answer → Then
        by (Accepts_it asked octets call_is size row) =
            Leaving x (end_of n) calling refl
            (subst (λ (m : Moved). AreParting x (end_of m) here there m.tpdus []) (sym row)
            (subst (λ (z : End). AreParting z (end_of (accepted (record (at now y.base) { agreed = Some (agreed_by y.base.proposed asked) }) (agreed_by y.base.proposed asked) octets)) here there
            (accepted (record (at now y.base) { agreed = Some (agreed_by y.base.proposed asked) }) (agreed_by y.base.proposed asked) octets).tpdus []) frozen_x
            (confirmed (record (at now y.base) { agreed = Some (agreed_by y.base.proposed asked) }) (agreed_by y.base.proposed asked) octets refl (i.called y is).to named))) held_x held_y
        by (Refuses_it octets row) =
            Leaving x (end_of n) calling refl
            (subst (λ (m : Moved). AreParting x (end_of m) here there m.tpdus []) (sym row)
            (subst (λ (z : End). AreParting z (record { base = at now y.base; stage = Frozen now }) here there (refusing (at now y.base) octets ∷ []) []) frozen_x
            (both_frozen here there x.base when (record { base = at now y.base; stage = Frozen now }) (refusing (at now y.base) octets ∷ []) [] (i.caller x calling).to (i.called y is).to unagreed indicated.unagreed tt
            (record { kind = (named, inr refl); to = (i.called y is).to; summed = λ e. absurd (not_agreed x.base.agreed unagreed e); formatted = λ e. absurd (cc e) }, tt) tt))) held_x held_y

    paired_at : (p : Pair) → a.calling ≡ Some p.calling → a.called ≡ Some p.called → IsPaired now p [] [] → Then
    paired_at p calling called paired =
        let at_clock : IsPaired p.clock p [] [] = record { clock = refl; forth_is = paired.forth_is; back_is = paired.back_is; stands = paired.stands; within = paired.within; stays = paired.stays } in
        let g = called_asks p here there (i.caller p.calling calling).to (i.called p.called called).to at_clock call (allowed_at p.called called) in
        let h = subst (λ (t : ℕ). GoesOn t p.calling (end_of (stepped whole t p.called (Called call))) here there [] (stepped whole t p.called (Called call)).tpdus) paired.clock g in
        row_of p.called called (λ (m : Moved). Phase timers here there now (record a { called = Some (end_of m) }) [] m.tpdus) (by h)
      where
        by : GoesOn now p.calling (end_of (stepped whole now p.called (Called call))) here there [] (stepped whole now p.called (Called call)).tpdus
            → Phase timers here there now (record a { called = Some (end_of (stepped whole now p.called (Called call))) }) [] (stepped whole now p.called (Called call)).tpdus
        by (Pairs q one other on) = Paired q (calling ∙ ap Some (sym one)) (ap Some (sym other)) on
        by (Parts parting) = Leaving p.calling _ calling refl parting (paired_held now p.calling (λ l. paired.stays (inl l))) (held_on now p.called (Called call) (paired_held now p.called (λ l. paired.stays (inr l))))

    called_phase : (IsAsking y.stage → ⊥) × Then
    called_phase = by i.phase
      where
        not_asking : (since : ℕ) → y.stage ≡ UserWait since → IsAsking y.stage → ⊥
        not_asking since stage asking = subst IsAsking stage asking

        by : Phase timers here there now a [] [] → (IsAsking y.stage → ⊥) × Then
        by (Asking z r calling called asks stage forth_is back_is) = absurd (cc forth_is)
        by (Rejected z refusal calling called asks forth_is back_is to r) = absurd (cc back_is)
        by (Waiting z w since calling called asks indicated requests back_is) =
            let f = subst (λ (v : End). IsIndicated timers now z v since) (same_some w y (sym called ∙ is)) indicated in
            (not_asking since f.stage, waiting_answered z since calling asks f)
        by (Late z w when since calling called stage unagreed indicated before forth_is back_is) =
            let f = subst (λ (v : End). IsIndicated timers now z v since) (same_some w y (sym called ∙ is)) indicated in
            (not_asking since f.stage, late_answered z when since calling stage unagreed f before)
        by (Refused z w first others calling called asks frozen_w held unagreed requests back_is refusals) = absurd (cc back_is)
        by (Answered z w v calling called asks stage confirming forth_is) = absurd (cc (confirming.back_is))
        by (Paired p calling called paired) =
            (subst (λ (v : End). IsAsking v.stage → ⊥) (same_some p.called y (sym called ∙ is)) (paired_no_asking p paired.stands paired.stays), paired_at p calling called paired)
        by (Leaving z w calling called parting held_x held_w) = frozen_refuses w.base w.stage call (idle_frozen z w here there parting).1 (allowed_at w called)
        by (Over calling called forth_is back_is) = frozen_refuses y.base y.stage call (frozen_called a.called y is called) allowed

    pub called_goes : IsAssociation timers own now (record a { called = Some (end_of n) }) [] n.tpdus
    called_goes = called_moved timers own now a i.caller i.called i.some y (Called call) [] n.tpdus is called_phase.0 called_phase.1
