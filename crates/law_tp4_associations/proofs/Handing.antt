-- The first TPDU that waits is handed over: by the phase of its association there is one outcome, or the entity answers; and the association goes on.
use Rattle.std.proofs.Common.{◌≡◌, ℕ, ◌+◌, ◌<◌, ◌≤◌, Bool, true, false, not, ◌&&◌, ◌==◌, ◌/◌, ◌%◌, if◌then◌else◌, List, [], ◌∷◌, ◌++◌, Option, Some, None, refl, sym, ◌∙◌, ap, subst, inl, inr, append-nil, arith}
use Rattle.std.specs.List.{list_any}
use Rattle.std.proofs.lemmas.Bool.{eq-eqb}
use Rattle.tpdu.specs.Kinds.{has_number}
use Rattle.tpdu.specs.Writing.{kind_for}
use Rattle.tpdu.specs.declared.tpdu.Tpdu.{Tpdu}
use Rattle.tpdu.specs.declared.tpdu.Tpdu.TheVariants.{Cr, Dr, Dc}
use Rattle.tpdu.specs.declared.service.Options.{Options}
use Rattle.tp4_conn.specs.declared.proposed.Proposed.{Proposed}
use Rattle.tp4_flow.specs.declared.step.Sent.{Sent}
use Rattle.tp4_number.specs.Number.{whole}
use Rattle.tp4_conn.specs.declared.end_record.EndRecord.{EndRecord}
use Rattle.tp4_conn.specs.declared.call.ConnectCall.{ConnectCall}
use Rattle.tp4_conn.specs.declared.states.InAkWait.{InAkWait}
use Rattle.tp4_conn.specs.declared.states.InWaitBeforeClose.{InWaitBeforeClose}
use Rattle.tp4_conn.specs.declared.states.InCrWait.{InCrWait}
use Rattle.tp4_conn.specs.declared.states.StateData.{StateData}
use Rattle.tp4_conn.specs.declared.states.StateData.TheVariants.{CrWait, WaitBeforeClose, UserWait, AkWait, Frozen}
use Rattle.tp4_conn.specs.declared.timers.Timers.{Timers}
use Rattle.tp4_conn.specs.Agreeing.{confirm, extra_of, proposed_by, request}
use Rattle.tp4_conn.specs.End.{End, IsSame, IsSized, Moved, agreed_sum, closing, confirms, end_of, send}
use Rattle.tp4_conn.specs.CrWait.{cr_wait_tpdu}
use Rattle.tp4_conn.specs.WaitBeforeClose.{wait_before_close_tpdu}
use Rattle.tp4_conn.specs.Matching.{fits, wants_sum}
use Rattle.tp4_conn.specs.Making.{called_end, indicated, on_cr}
use Rattle.tp4_conn.specs.Table.{Event, Took, at, on_tpdu, stepped, takes, untaken}
use Rattle.tp4_entity.specs.Association.{calls, is_called, met, refusal, requested}
use Rattle.tp4_entity.specs.Entity.{Acted, Entity, end_at, moved}
use Rattle.tp4_entity.specs.References.{least_free}
use Rattle.law_tp4_pair.specs.Pair.{Pair}
use Rattle.law_tp4_pair.specs.Standing.{HasLeft}
use Rattle.law_tp4_pair.proofs.Confirming.{indicates}
use Rattle.law_tp4_pair.proofs.Opening.{confirm_sum}
use Rattle.law_tp4_pair.proofs.Meeting.{back_met, forth_met}
use Rattle.law_tp4_associations.specs.Association.{Association, party, with_party}
use Rattle.law_tp4_associations.specs.Handing.{IsBetweenOpen, TellsOfNoEnd}
use Rattle.law_tp4_associations.specs.Phase.{AllCome, AreAll, AreParting, Asking, Asks, Answered, IsAsking, IsConfirming, IsFrozen, IsInUse, IsIndicated, IsOver, IsPaired, IsRefusal, IsRequest, Late, MayCome, Leaving, Over, Paired, Phase, Refused, Rejected, Waiting, WillFreeze, Writes}
use Rattle.law_tp4_associations.specs.Standing.{IsAssociation, IsCalled, IsCaller}
use Rattle.law_tp4_associations.proofs.Freezing.{release_comes}
use Rattle.law_tp4_associations.proofs.Holding.{held_on, held_so}
use Rattle.law_tp4_associations.proofs.Keeping.{row_keeps, row_partner}
use Rattle.law_tp4_associations.proofs.Pairing.{GoesOn, Pairs, Parts, back_goes, forth_goes, paired_no_asking}
use Rattle.law_tp4_associations.proofs.Parting.{parting_has_left, parts_no_asking}
use Rattle.law_tp4_associations.proofs.Meeting.{Answered_so, Answers, Asked, IsHeard, Makes, Takes_it, Unmatched, IsFor, copy_ignored, copy_refused, first_asked, heard, taken_by}
use Rattle.law_tp4_associations.proofs.Clocked.{not_agreed}

same_some : {A : Type 0} (x y : A) → Some x ≡ Some y → x ≡ y
same_some x y e = cc

not_none : {A B : Type 0} (x : A) (o : Option A) → o ≡ Some x → o ≡ None → B
not_none x o e f = absurd (cc (e, f))

-- what is done of a TPDU from that side, and what the association is then
pub data Deals (own : ℕ → List ℕ) (now : ℕ) (e : Entity) (by : Bool) (sent : Sent) (acted : Acted) (a b : Association) : Type 0 where
  Takes_one : (end : End) → party a (not by) ≡ Some end → acted ≡ moved e end.base.own (stepped whole now end (Took sent.tpdu sent.sum))
      → b ≡ with_party a (not by) (Some (end_of (stepped whole now end (Took sent.tpdu sent.sum)))) → Deals own now e by sent acted a b
  Leaves_it : acted.entity ≡ e → TellsOfNoEnd acted.events → b ≡ a → (IsBetweenOpen a → ⊥) → Deals own now e by sent acted a b
  Begins_one : (reference : ℕ) (base : EndRecord) (octets : List ℕ) → by ≡ true → a.called ≡ None → least_free now e ≡ Some reference → base.own ≡ reference → base.to ≡ own a.from.system
      → base.partner ≡ a.from.reference → acted ≡ moved e reference (indicated base octets) → b ≡ record a { called = Some (end_of (indicated base octets)) } → Deals own now e by sent acted a b

-- the ends keep what they keep
caller_on : (timers : Timers) (reference : ℕ) (address : List ℕ) (x : End) (m : Moved) → IsCaller timers reference address x → IsSame x.base m.base → IsCaller timers reference address (end_of m)
caller_on timers reference address x m c s = record {
  own_is = s.own ∙ c.own_is;
  to = s.to ∙ c.to;
  is_called = s.is_called ∙ c.is_called;
  timers_are = s.timers ∙ c.timers_are;
  size = subst (λ (p : Proposed). IsSized p.options) (sym s.proposed) c.size;
  proposed = subst (λ (p : Proposed). p ≡ proposed_by p.options) (sym s.proposed) c.proposed;
}

called_on : (timers : Timers) (reference : ℕ) (address : List ℕ) (y : End) (m : Moved) → IsCalled timers reference address y → IsSame y.base m.base → m.base.partner ≡ y.base.partner → IsCalled timers reference address (end_of m)
called_on timers reference address y m c s partner = record { partner = partner ∙ c.partner; to = s.to ∙ c.to; is_called = s.is_called ∙ c.is_called; timers_are = s.timers ∙ c.timers_are }

-- where an end has left, or the called one's user has not answered, the two are not open to each other
no_called : (a : Association) → a.called ≡ None → IsBetweenOpen a → ⊥
no_called a none o = not_none o.y a.called o.called none

unanswered : (a : Association) (y : End) (since : ℕ) → a.called ≡ Some y → y.stage ≡ UserWait since → IsBetweenOpen a → ⊥
unanswered a y since is stage o = o.answered since (ap (λ (z : End). z.stage) (same_some o.y y (sym o.called ∙ is)) ∙ stage)

calling_left : (a : Association) (x : End) → a.calling ≡ Some x → HasLeft x.stage → IsBetweenOpen a → ⊥
calling_left a x is left o = o.stays (inl (subst (λ (z : End). HasLeft z.stage) (same_some x o.x (sym is ∙ o.calling)) left))

called_left : (a : Association) (y : End) → a.called ≡ Some y → HasLeft y.stage → IsBetweenOpen a → ⊥
called_left a y is left o = o.stays (inr (subst (λ (z : End). HasLeft z.stage) (same_some y o.y (sym is ∙ o.called)) left))

frozen_left : (stage : StateData) → IsFrozen stage → HasLeft stage
frozen_left (Frozen when) f = tt
frozen_left other f = absurd f

parting_left : (a : Association) (x y : End) (here there : List ℕ) (back forth : List Sent) → a.calling ≡ Some x → a.called ≡ Some y → AreParting x y here there back forth → IsBetweenOpen a → ⊥
parting_left a x y here there back forth calling called p o = elim (parting_has_left x y here there back forth p) [ inl left ↦ calling_left a x calling left o | inr left ↦ called_left a y called left o ]

-- the end is frozen, and sends nothing
record IsEnded (b : EndRecord) (m : Moved) : Type 0 where
  base : m.base ≡ b
  stage : m.stage ≡ Frozen b.clock
  tpdus : m.tpdus ≡ []

no_answer : (b : EndRecord) (source : ℕ) → source ≡ 0 → confirms b source ≡ []
no_answer b source is = ap (λ (z : Bool). if z then [] else send b (Dc source b.own) ∷ []) (eq-eqb source 0 is)

-- an end that has not left is held, and so is one that had no answer to its CR after a row
pub paired_held : (now : ℕ) (x : End) → (HasLeft x.stage → ⊥) → IsInUse now x
paired_held now x stay = by x.stage refl stay
  where
    by : (stage : StateData) → x.stage ≡ stage → (HasLeft stage → ⊥) → IsInUse now x
    by (Frozen when) is s = absurd (s tt)
    by stage is s = held_so now x stage is refl

pub asking_held : (now : ℕ) (x : End) → IsAsking x.stage → IsInUse now x
asking_held now x asking = by x.stage refl asking
  where
    by : (stage : StateData) → x.stage ≡ stage → IsAsking stage → IsInUse now x
    by (CrWait r) is a = held_so now x (CrWait r) is refl
    by (WaitBeforeClose w) is a = held_so now x (WaitBeforeClose w) is refl
    by stage is a = absurd a

-- two frozen ends that never agreed
pub both_frozen : (mine theirs : List ℕ) (b : EndRecord) (when : ℕ) (y : End) (into out : List Sent) → b.to ≡ theirs → y.base.to ≡ mine → b.agreed ≡ None → y.base.agreed ≡ None → IsFrozen y.stage
    → AllCome (record { base = b; stage = Frozen when }) y.base.own mine into → AllCome y b.own theirs out → AreParting (record { base = b; stage = Frozen when }) y mine theirs into out
both_frozen mine theirs b when y into out to to_back unagreed none frozen come back = record {
  one = record { into_are = come; knows = record { partner = inl tt; to = to; sum = λ is. absurd (not_agreed y.base.agreed none is); writes = tt }; freezes = tt };
  next = record {
    into_are = back;
    knows = record { partner = inl frozen; to = to_back; sum = λ is. absurd (not_agreed b.agreed unagreed is); writes = writes y.stage frozen };
    freezes = freezes y.stage frozen;
  };
}
  where
    writes : (stage : StateData) → IsFrozen stage → Writes stage (record { base = b; stage = Frozen when }) mine
    writes (Frozen t) f = tt
    writes other f = absurd f

    freezes : (stage : StateData) → IsFrozen stage → WillFreeze y.base.own b.own stage (Frozen when) out into
    freezes (Frozen t) f = tt
    freezes other f = absurd f

-- an end of an association is another one now
module _ (timers : Timers) (own : ℕ → List ℕ) (now : ℕ) (a : Association) (c : (x : End) → a.calling ≡ Some x → IsCaller timers a.from.reference (own a.to) x)
    (d : (y : End) → a.called ≡ Some y → IsCalled timers a.from.reference (own a.from.system) y) (low : 0 < a.from.reference) where
  pub new_caller : (x : Option End) (forth back : List Sent) → ((z : End) → x ≡ Some z → IsCaller timers a.from.reference (own a.to) z)
      → Phase timers (own a.from.system) (own a.to) now (record a { calling = x }) forth back → IsAssociation timers own now (record a { calling = x }) forth back
  new_caller x forth back keeps phase = record { phase = phase; caller = keeps; called = d; some = low }

  pub new_called : (y : Option End) (forth back : List Sent) → ((z : End) → y ≡ Some z → IsCalled timers a.from.reference (own a.from.system) z)
      → Phase timers (own a.from.system) (own a.to) now (record a { called = y }) forth back → IsAssociation timers own now (record a { called = y }) forth back
  new_called y forth back keeps phase = record { phase = phase; caller = c; called = keeps; some = low }

  pub caller_moved : (x : End) (event : Event) (forth back : List Sent) → a.calling ≡ Some x
      → Phase timers (own a.from.system) (own a.to) now (record a { calling = Some (end_of (stepped whole now x event)) }) forth back
      → IsAssociation timers own now (record a { calling = Some (end_of (stepped whole now x event)) }) forth back
  caller_moved x event forth back is phase =
      new_caller (Some (end_of (stepped whole now x event))) forth back
      (λ z e. subst (IsCaller timers a.from.reference (own a.to)) (same_some _ _ e) (caller_on timers a.from.reference (own a.to) x (stepped whole now x event) (c x is) (row_keeps now x event))) phase

  pub called_moved : (y : End) (event : Event) (forth back : List Sent) → a.called ≡ Some y → (IsAsking y.stage → ⊥)
      → Phase timers (own a.from.system) (own a.to) now (record a { called = Some (end_of (stepped whole now y event)) }) forth back
      → IsAssociation timers own now (record a { called = Some (end_of (stepped whole now y event)) }) forth back
  called_moved y event forth back is never phase =
      new_called (Some (end_of (stepped whole now y event))) forth back
      (λ z e. subst (IsCalled timers a.from.reference (own a.from.system)) (same_some _ _ e)
      (called_on timers a.from.reference (own a.from.system) y (stepped whole now y event) (d y is) (row_keeps now y event) (row_partner now y event never))) phase

-- ---- what waits for the called end

-- the association after the first that waited for the called end
pub record DealtForth (timers : Timers) (own : ℕ → List ℕ) (now : ℕ) (e : Entity) (sent : Sent) (rest back : List Sent) (a : Association) (acted : Acted) : Type 0 where
  pub b : Association
  pub deal : Deals own now e true sent acted a b
  pub goes : IsAssociation timers own now b rest (back ++ acted.tpdus)

swap : (x y : End) (here there : List ℕ) (into out : List Sent) → AreParting x y here there into out → AreParting y x there here out into
swap x y here there into out p = record { one = p.next; next = p.one }

first_is : (x y : Sent) (l m : List Sent) → x ∷ l ≡ y ∷ m → x ≡ y
first_is x y l m e = cc

rest_is : (x y : Sent) (l m : List Sent) → x ∷ l ≡ y ∷ m → l ≡ m
rest_is x y l m e = cc

none_first : {A : Type 0} (x : Sent) (l : List Sent) → x ∷ l ≡ [] → A
none_first x l e = absurd (cc e)

module _ (timers : Timers) (own : ℕ → List ℕ) (now : ℕ) (a : Association) (e : Entity) (sent : Sent) (rest back : List Sent) (i : IsAssociation timers own now a (sent ∷ rest) back)
    (stands : (y : End) → a.called ≡ Some y → (0 < y.base.own) × (end_at e y.base.own ≡ Some y)) (timers_are : e.timers ≡ timers) (some : 1 ≤ timers.inactive)
    (none : a.called ≡ None → list_any (is_called false (own a.from.system) a.from.reference) e.ends ≡ false) where
  abbrev here : List ℕ
  here = own a.from.system

  abbrev there : List ℕ
  there = own a.to

  abbrev Dealt : Acted → Type 0
  Dealt acted = DealtForth timers own now e sent rest back a acted

  -- the association stays
  stays : (acted : Acted) → acted.entity ≡ e → TellsOfNoEnd acted.events → (IsBetweenOpen a → ⊥) → Phase timers here there now a rest (back ++ acted.tpdus) → Dealt acted
  stays acted same told shut phase = record { b = a; deal = Leaves_it same told refl shut; goes = record { phase = phase; caller = i.caller; called = i.called; some = i.some } }

  -- the called end takes it
  taken : (y : End) → a.called ≡ Some y → (IsAsking y.stage → ⊥) → (acted : Acted) → acted ≡ moved e y.base.own (stepped whole now y (Took sent.tpdu sent.sum))
      → Phase timers here there now (record a { called = Some (end_of (stepped whole now y (Took sent.tpdu sent.sum))) }) rest (back ++ (stepped whole now y (Took sent.tpdu sent.sum)).tpdus) → Dealt acted
  taken y is never acted acted_is phase = record {
    b = record a { called = Some (end_of (stepped whole now y (Took sent.tpdu sent.sum))) };
    deal = Takes_one y is acted_is refl;
    goes = subst (λ (l : List Sent). IsAssociation timers own now (record a { called = Some (end_of (stepped whole now y (Took sent.tpdu sent.sum))) }) rest (back ++ l)) (sym (ap (λ (x : Acted). x.tpdus) acted_is))
        (called_moved timers own now a i.caller i.called i.some y (Took sent.tpdu sent.sum) rest _ is never phase);
  }

  -- the CR
  abbrev call_of_request : (x : End) (r : InCrWait) → ConnectCall
  call_of_request x r = record {
    own = x.base.own;
    request = record { from_selector = x.base.calling; to = x.base.to; to_selector = x.base.called; options = x.base.proposed.options; octets = r.octets };
    rules = x.base.timers;
  }

  asked : (x : End) (r : InCrWait) → a.calling ≡ Some x → a.called ≡ None → Asks x → x.stage ≡ CrWait r → rest ≡ [] → back ≡ []
      → (acted : Acted) → Asked now e here x.base.own x.base.called (request x.base r.octets).tpdu acted → Dealt acted
  asked x r calling called asks stage rest_none back_none acted (Answers reason is) =
      stays acted (ap (λ (y : Acted). y.entity) is) (inl (ap (λ (y : Acted). y.events) is)) (no_called a called)
      (Rejected x (refusal here x.base.own reason) calling called asks rest_none (ap (λ (l : List Sent). l ++ acted.tpdus) back_none ∙ ap (λ (y : Acted). y.tpdus) is) refl (refl, refl))
  asked x r calling called asks stage rest_none back_none acted (Makes reference free is) =
      let c = i.caller x calling in
      let base : EndRecord = called_end now reference here e.timers x.base.timers.credit x.base.own x.base.calling x.base.called x.base.proposed in
      let m : Moved = indicated base r.octets in
      let is_indicated : on_cr now reference here e.timers (request x.base r.octets).tpdu ≡ Some m =
      subst (λ (p : Proposed). on_cr now reference here e.timers (request (record x.base { proposed = p }) r.octets).tpdu
      ≡ Some (indicated (called_end now reference here e.timers x.base.timers.credit x.base.own x.base.calling x.base.called p) r.octets)) (sym c.proposed)
      (indicates now now reference here e.timers (call_of_request x r) c.size) in
      let acted_is : acted ≡ moved e reference m = is ∙ ap (λ (o : Option Moved). calls e reference o) is_indicated in
      let late : now < now + timers.inactive = omega (arith, some) in
      record {
        b = record a { called = Some (end_of m) };
        deal = Begins_one reference base r.octets refl called free refl refl c.own_is acted_is refl;
        goes = new_called timers own now a i.caller i.called i.some (Some (end_of m)) rest (back ++ acted.tpdus)
            (λ z e. subst (IsCalled timers a.from.reference here) (same_some _ _ e) (record { partner = c.own_is; to = refl; is_called = refl; timers_are = timers_are }))
            (Waiting x (end_of m) now calling refl asks
            (record { stage = refl; past = omega arith; in_time = late; proposed = refl; credit = refl; unagreed = refl })
            (subst (AreAll (IsRequest x.base.own) there) (sym rest_none) tt)
            (ap (λ (l : List Sent). l ++ acted.tpdus) back_none ∙ ap (λ (y : Acted). y.tpdus) acted_is));
      }

  -- a copy of it
  copy : (n : ℕ) (tpdu : Tpdu) (P : Acted → Type 0) → IsRequest n tpdu → ((called : List ℕ) → P (requested now e here n called tpdu)) → P (met whole now e here (tpdu, sent.sum))
  copy n (Cr credit source width calling called size preferred extra version classes ack_time text) P is more =
      subst (λ (s : ℕ). P (requested now e here s called (Cr credit source width calling called size preferred extra version classes ack_time text))) (sym is) (more called)
  copy n other P is more = absurd is

  forth_waiting : (x y : End) (since : ℕ) → a.calling ≡ Some x → a.called ≡ Some y → Asks x → IsIndicated timers now x y since → AreAll (IsRequest x.base.own) there (sent ∷ rest) → back ≡ []
      → Dealt (met whole now e here (sent.tpdu, sent.sum))
  forth_waiting x y since calling called asks indicated requests none_back =
      let c = i.called y called in
      let partner : y.base.partner ≡ x.base.own = c.partner ∙ sym (i.caller x calling).own_is in
      copy x.base.own sent.tpdu Dealt requests.1
      (λ selector. let is = copy_ignored now e here x.base.own selector sent.tpdu y since (stands y called).1 c.to partner c.is_called indicated.stage in
      stays _ (ap (λ (y : Acted). y.entity) is) (inl (ap (λ (y : Acted). y.events) is)) (unanswered a y since called indicated.stage)
      (Waiting x y since calling called asks indicated requests.2 (ap (λ (l : List Sent). l ++ (requested now e here x.base.own selector sent.tpdu).tpdus) none_back ∙ ap (λ (y : Acted). y.tpdus) is)))

  forth_refused : (x y : End) (first : Sent) (others : List Sent) → a.calling ≡ Some x → a.called ≡ Some y → Asks x → IsFrozen y.stage → IsInUse now y → y.base.agreed ≡ None → AreAll (IsRequest x.base.own) there (sent ∷ rest)
      → back ≡ first ∷ others → AreAll (IsRefusal x.base.own) here back → Dealt (met whole now e here (sent.tpdu, sent.sum))
  forth_refused x y first others calling called asks frozen held unagreed requests back_is refusals =
      let c = i.called y called in
      let partner : y.base.partner ≡ x.base.own = c.partner ∙ sym (i.caller x calling).own_is in
      copy x.base.own sent.tpdu Dealt requests.1
      (λ selector. let r = copy_refused now e here x.base.own selector sent.tpdu y (stands y called).1 c.to partner c.is_called frozen in
      let l : List Sent = if r.0 then refusal here x.base.own 131 ∷ [] else [] in
      stays _ (ap (λ (y : Acted). y.entity) r.1) (inl (ap (λ (y : Acted). y.events) r.1)) (called_left a y called (frozen_left y.stage frozen))
      (Refused x y first (others ++ (requested now e here x.base.own selector sent.tpdu).tpdus) calling called asks frozen held unagreed requests.2
      (ap (λ (l : List Sent). l ++ (requested now e here x.base.own selector sent.tpdu).tpdus) back_is)
      (subst (λ (l : List Sent). AreAll (IsRefusal x.base.own) here (back ++ l)) (sym (ap (λ (y : Acted). y.tpdus) r.1)) (more x.base.own back r.0 refusals))))
    where
      more : (n : ℕ) (l : List Sent) (answered : Bool) → AreAll (IsRefusal n) here l → AreAll (IsRefusal n) here (l ++ (if answered then refusal here n 131 ∷ [] else []))
      more n [] true all = (refl, (refl, refl), tt)
      more n [] false all = tt
      more n (one ∷ l) answered all = (all.0, all.1, more n l answered all.2)

  forth_leaving : (x y : End) → a.calling ≡ Some x → a.called ≡ Some y → AreParting x y here there back (sent ∷ rest) → IsInUse now x → IsInUse now y → (acted : Acted) → IsHeard now e y x there here sent rest back acted → Dealt acted
  forth_leaving x y calling called p held_x held_y acted (Takes_it is after) =
      taken y called (parts_no_asking y x there here (sent ∷ rest) back p.next) acted is
      (Leaving x _ calling refl (swap _ x there here rest _ (subst (λ (l : List Sent). AreParting (end_of (stepped whole now y (Took sent.tpdu sent.sum))) x there here rest (back ++ l)) (ap (λ (z : Acted). z.tpdus) is) after)) held_x (held_on now y (Took sent.tpdu sent.sum) held_y))
  forth_leaving x y calling called p held_x held_y acted (Unmatched is after) =
      stays acted (ap (λ (y : Acted). y.entity) is) (inr (_, ap (λ (y : Acted). y.events) is)) (parting_left a x y here there back (sent ∷ rest) calling called p) (Leaving x y calling called (swap y x there here rest _ after) held_x held_y)
  forth_leaving x y calling called p held_x held_y acted (Answered_so same told after) =
      stays acted same (inl told) (parting_left a x y here there back (sent ∷ rest) calling called p) (Leaving x y calling called (swap y x there here rest _ after) held_x held_y)

  forth_paired : (p : Pair) → a.calling ≡ Some p.calling → a.called ≡ Some p.called → IsPaired now p (sent ∷ rest) back → Dealt (met whole now e here (sent.tpdu, sent.sum))
  forth_paired p calling called paired =
      let c = i.called p.called called in
      let met_is = forth_met p sent rest paired.stays paired.stands paired.forth_is in
      let acted_is : met whole p.clock e here (sent.tpdu, sent.sum) ≡ moved e p.called.base.own (stepped whole p.clock p.called (Took sent.tpdu sent.sum)) =
      ap (λ (from : List ℕ). met whole p.clock e from (sent.tpdu, sent.sum)) (sym c.to) ∙ met_is.meets e (stands p.called called).1 in
      let row = forth_goes p here there (i.caller p.calling calling).to c.to sent rest back (record { clock = refl; forth_is = paired.forth_is; back_is = paired.back_is; stands = paired.stands; within = paired.within; stays = paired.stays }) in
      by (subst (λ (n : ℕ). met whole n e here (sent.tpdu, sent.sum) ≡ moved e p.called.base.own (stepped whole n p.called (Took sent.tpdu sent.sum))) paired.clock acted_is)
      (subst (λ (n : ℕ). GoesOn n p.calling (end_of (stepped whole n p.called (Took sent.tpdu sent.sum))) here there rest (back ++ (stepped whole n p.called (Took sent.tpdu sent.sum)).tpdus)) paired.clock row)
    where
      by : met whole now e here (sent.tpdu, sent.sum) ≡ moved e p.called.base.own (stepped whole now p.called (Took sent.tpdu sent.sum))
          → GoesOn now p.calling (end_of (stepped whole now p.called (Took sent.tpdu sent.sum))) here there rest (back ++ (stepped whole now p.called (Took sent.tpdu sent.sum)).tpdus)
          → Dealt (met whole now e here (sent.tpdu, sent.sum))
      by acted_is (Pairs q mine theirs on) = taken p.called called (paired_no_asking p paired.stands paired.stays) _ acted_is (Paired q (calling ∙ ap Some (sym mine)) (ap Some (sym theirs)) on)
      by acted_is (Parts parting) = taken p.called called (paired_no_asking p paired.stands paired.stays) _ acted_is (Leaving p.calling _ calling refl parting (paired_held now p.calling (λ l. paired.stays (inl l))) (held_on now p.called (Took sent.tpdu sent.sum) (paired_held now p.called (λ l. paired.stays (inr l)))))

  pub dealt_forth : Dealt (met whole now e here (sent.tpdu, sent.sum))
  dealt_forth = by i.phase
    where
      by : Phase timers here there now a (sent ∷ rest) back → Dealt (met whole now e here (sent.tpdu, sent.sum))
      by (Asking x r calling called asks stage forth_is back_is) =
          let c = i.caller x calling in
          let same : request x.base r.octets ≡ sent = sym (first_is sent (request x.base r.octets) rest [] forth_is) in
          subst (λ (s : Sent). Dealt (met whole now e here (s.tpdu, sent.sum))) same
          (asked x r calling called asks stage (rest_is sent (request x.base r.octets) rest [] forth_is) back_is _
          (first_asked now e here x.base.own x.base.called (request x.base r.octets).tpdu (subst (λ (n : ℕ). list_any (is_called false here n) e.ends ≡ false) (sym c.own_is) (none called))))
      by (Rejected x refusal_sent calling called asks forth_is back_is to is) = none_first sent rest forth_is
      by (Waiting x y since calling called asks indicated requests back_is) = forth_waiting x y since calling called asks indicated requests back_is
      by (Late x y when since calling called stage unagreed indicated before forth_is back_is) = none_first sent rest forth_is
      by (Refused x y first others calling called asks frozen held unagreed requests back_is refusals) = forth_refused x y first others calling called asks frozen held unagreed requests back_is refusals
      by (Answered x y w calling called asks stage confirming forth_is) = none_first sent rest forth_is
      by (Paired p calling called paired) = forth_paired p calling called paired
      by (Leaving x y calling called parting held_x held_y) =
          let c = i.caller x calling in
          forth_leaving x y calling called parting held_x held_y _
          (heard now e y x there here sent rest back (subst (λ (n : ℕ). 0 < n) (sym c.own_is) i.some) (stands y called).0 (stands y called).1 (swap x y here there back (sent ∷ rest) parting))
      by (Over calling called forth_is back_is) = none_first sent rest forth_is

-- ---- what waits for the calling end

-- the association after the first that waited for the calling end
pub record DealtBack (timers : Timers) (own : ℕ → List ℕ) (now : ℕ) (e : Entity) (sent : Sent) (forth rest : List Sent) (a : Association) (acted : Acted) : Type 0 where
  pub b : Association
  pub deal : Deals own now e false sent acted a b
  pub goes : IsAssociation timers own now b (forth ++ acted.tpdus) rest

module _ (timers : Timers) (own : ℕ → List ℕ) (now : ℕ) (a : Association) (e : Entity) (sent : Sent) (forth rest : List Sent) (i : IsAssociation timers own now a forth (sent ∷ rest))
    (stands : (x : End) → a.calling ≡ Some x → end_at e x.base.own ≡ Some x) (low : (y : End) → a.called ≡ Some y → 0 < y.base.own) where
  abbrev mine : List ℕ
  mine = own a.from.system

  abbrev theirs : List ℕ
  theirs = own a.to

  abbrev Back : Acted → Type 0
  Back acted = DealtBack timers own now e sent forth rest a acted

  back_stays : (acted : Acted) → acted.entity ≡ e → TellsOfNoEnd acted.events → (IsBetweenOpen a → ⊥) → Phase timers mine theirs now a (forth ++ acted.tpdus) rest → Back acted
  back_stays acted same told shut phase = record { b = a; deal = Leaves_it same told refl shut; goes = record { phase = phase; caller = i.caller; called = i.called; some = i.some } }

  back_taken : (x : End) → a.calling ≡ Some x → (acted : Acted) → acted ≡ moved e x.base.own (stepped whole now x (Took sent.tpdu sent.sum))
      → Phase timers mine theirs now (record a { calling = Some (end_of (stepped whole now x (Took sent.tpdu sent.sum))) }) (forth ++ (stepped whole now x (Took sent.tpdu sent.sum)).tpdus) rest → Back acted
  back_taken x is acted acted_is phase = record {
    b = record a { calling = Some (end_of (stepped whole now x (Took sent.tpdu sent.sum))) };
    deal = Takes_one x is acted_is refl;
    goes = subst (λ (l : List Sent). IsAssociation timers own now (record a { calling = Some (end_of (stepped whole now x (Took sent.tpdu sent.sum))) }) (forth ++ l) rest) (sym (ap (λ (y : Acted). y.tpdus) acted_is))
        (caller_moved timers own now a i.caller i.called i.some x (Took sent.tpdu sent.sum) _ rest is phase);
  }

  -- a refusal freezes the calling end, which sends nothing
  refused_row : (b : EndRecord) (stage : StateData) (tpdu : Tpdu) → IsAsking stage → IsRefusal b.own tpdu → (wants_sum b stage tpdu ≡ false) × (fits b stage tpdu ≡ true) × IsEnded (at now b) (on_tpdu whole (at now b) stage tpdu)
  unfolding cr_wait_tpdu wait_before_close_tpdu
  refused_row b (CrWait r) (Dr destination source reason info text) asking is = (refl, refl, record { base = refl; stage = refl; tpdus = no_answer (at now b) source is.1 })
  refused_row b (WaitBeforeClose w) (Dr destination source reason info text) asking is = (refl, refl, record { base = refl; stage = refl; tpdus = no_answer (at now b) source is.1 })
  refused_row b (CrWait r) other asking is = absurd is
  refused_row b (WaitBeforeClose w) other asking is = absurd is
  refused_row b stage other asking is = absurd asking

  refused_end : (x : End) → IsAsking x.stage → IsRefusal x.base.own sent.tpdu → (fits x.base x.stage sent.tpdu ≡ true) × IsEnded (at now x.base) (stepped whole now x (Took sent.tpdu sent.sum))
  refused_end x asking is =
      let r = refused_row x.base x.stage sent.tpdu asking is in
      (r.1, subst (λ (b : Bool). IsEnded (at now x.base) (if b && not sent.sum then untaken x.base x.stage else on_tpdu whole (at now x.base) x.stage sent.tpdu)) (sym r.0) r.2)

  refusal_for : (own_reference : ℕ) (tpdu : Tpdu) → IsRefusal own_reference tpdu → IsFor own_reference tpdu
  refusal_for n (Dr destination source reason info text) is = is.0
  refusal_for n other is = absurd is

  refusal_taken : (x : End) → a.calling ≡ Some x → IsAsking x.stage → IsRefusal x.base.own sent.tpdu → met whole now e theirs (sent.tpdu, sent.sum) ≡ moved e x.base.own (stepped whole now x (Took sent.tpdu sent.sum))
  refusal_taken x calling asking is = taken_by now e theirs sent.sum x sent.tpdu (stands x calling) (refusal_for x.base.own sent.tpdu is) (i.caller x calling).to (refused_end x asking is).0

  -- the end that it leads to
  frozen_end : (x : End) (m : Moved) → IsEnded (at now x.base) m → end_of m ≡ record { base = at now x.base; stage = Frozen now }
  frozen_end x m d = λ i. record { base = d.base i; stage = d.stage i }

  back_rejected : (x : End) → a.calling ≡ Some x → a.called ≡ None → Asks x → forth ≡ [] → rest ≡ [] → IsRefusal x.base.own sent.tpdu → Back (met whole now e theirs (sent.tpdu, sent.sum))
  back_rejected x calling called asks forth_none rest_none is =
      let d = (refused_end x asks.stage is).1 in
      back_taken x calling _ (refusal_taken x calling asks.stage is)
      (Over (subst (λ (z : End). IsOver (Some z)) (sym (frozen_end x (stepped whole now x (Took sent.tpdu sent.sum)) d)) tt) (subst IsOver (sym called) tt)
      (ap (λ (l : List Sent). l ++ (stepped whole now x (Took sent.tpdu sent.sum)).tpdus) forth_none ∙ d.tpdus) rest_none)

  -- what is left of the refusals and of the copies of the CR comes to frozen ends
  refusals_come : (b : EndRecord) (when other : ℕ) (l : List Sent) → b.agreed ≡ None → AreAll (IsRefusal b.own) mine l → AllCome (record { base = b; stage = Frozen when }) other mine l
  refusals_come b when other [] unagreed all = tt
  refusals_come b when other (one ∷ l) unagreed all = (
    record {
      kind = kind one.tpdu all.1;
      to = all.0;
      summed = λ is. absurd (not_agreed b.agreed unagreed is);
      formatted = λ is. absurd (unnumbered one.tpdu all.1 is);
    },
    refusals_come b when other l unagreed all.2,
  )
    where
      kind : (tpdu : Tpdu) → IsRefusal b.own tpdu → MayCome (record { base = b; stage = Frozen when }) other tpdu
      kind (Dr destination source reason info text) is = (is.0, inr is.1)
      kind tpdu is = absurd is

      unnumbered : (tpdu : Tpdu) → IsRefusal b.own tpdu → has_number (kind_for tpdu) ≡ true → ⊥
      unnumbered (Dr destination source reason info text) is e = cc e
      unnumbered tpdu is e = is

  requests_come : (y : End) (other : ℕ) (l : List Sent) → y.base.agreed ≡ None → IsFrozen y.stage → y.base.partner ≡ other → y.base.is_called ≡ true → AreAll (IsRequest other) theirs l → AllCome y other theirs l
  requests_come y other [] unagreed frozen partner called all = tt
  requests_come y other (one ∷ l) unagreed frozen partner called all = (
    record {
      kind = kind one.tpdu all.1;
      to = all.0;
      summed = λ is. absurd (not_agreed y.base.agreed unagreed is);
      formatted = λ is. absurd (unnumbered one.tpdu all.1 is);
    },
    requests_come y other l unagreed frozen partner called all.2,
  )
    where
      kind : (tpdu : Tpdu) → IsRequest other tpdu → MayCome y other tpdu
      kind (Cr credit source width calling called_one size preferred extra version classes ack_time text) is = (is, partner, called, frozen)
      kind tpdu is = absurd is

      unnumbered : (tpdu : Tpdu) → IsRequest other tpdu → has_number (kind_for tpdu) ≡ true → ⊥
      unnumbered (Cr credit source width calling called_one size preferred extra version classes ack_time text) is e = cc e
      unnumbered tpdu is e = is

  back_refused : (x y : End) → a.calling ≡ Some x → a.called ≡ Some y → Asks x → IsFrozen y.stage → IsInUse now y → y.base.agreed ≡ None → AreAll (IsRequest x.base.own) theirs forth
      → AreAll (IsRefusal x.base.own) mine (sent ∷ rest) → Back (met whole now e theirs (sent.tpdu, sent.sum))
  back_refused x y calling called asks frozen held unagreed requests refusals =
      let c = i.caller x calling in
      let d = i.called y called in
      let r = (refused_end x asks.stage refusals.1).1 in
      let m : Moved = stepped whole now x (Took sent.tpdu sent.sum) in
      back_taken x calling _ (refusal_taken x calling asks.stage refusals.1)
      (Leaving (end_of m) y refl called
      (subst (λ (z : End). AreParting z y mine theirs rest (forth ++ m.tpdus)) (sym (frozen_end x m r))
      (subst (λ (l : List Sent). AreParting (record { base = at now x.base; stage = Frozen now }) y mine theirs rest (forth ++ l)) (sym r.tpdus)
      (subst (AreParting (record { base = at now x.base; stage = Frozen now }) y mine theirs rest) (sym (append-nil forth))
      (both_frozen mine theirs (at now x.base) now y rest forth c.to d.to asks.unagreed unagreed frozen (refusals_come (at now x.base) now y.base.own rest asks.unagreed refusals.2)
      (requests_come y x.base.own forth unagreed frozen (d.partner ∙ sym c.own_is) d.is_called requests)))))
      (held_on now x (Took sent.tpdu sent.sum) (asking_held now x asks.stage)) held)

  -- the CC comes to an end whose user has disconnected: DR 128, and Closing
  parting_row : (b c : EndRecord) (w : InWaitBeforeClose) (options : Options) (octets : List ℕ) → c.agreed ≡ Some options
      → takes whole now b (WaitBeforeClose w) (confirm c options octets).tpdu (confirm c options octets).sum ≡ closing (record b { partner = c.own; clock = now }) [] 128 w.octets now
  unfolding wait_before_close_tpdu
  parting_row b c w options octets agreed =
      let sum : agreed_sum c.agreed ≡ options.sum = ap agreed_sum agreed in
      let taken : (wants_sum b (WaitBeforeClose w) (confirm c options octets).tpdu && not (agreed_sum c.agreed)) ≡ false =
      ap (λ (s : Bool). (extra_of options / 2 % 2 == 0) && not s) sum ∙ confirm_sum options in
      ap (λ (wants : Bool). if wants then untaken b (WaitBeforeClose w) else on_tpdu whole (at now b) (WaitBeforeClose w) (confirm c options octets).tpdu) taken

  parts_at_once : (b : EndRecord) (y : End) (answering : InAkWait) (w : InWaitBeforeClose) → b.agreed ≡ None → b.to ≡ theirs → y.base.to ≡ mine → y.base.partner ≡ b.own → y.stage ≡ AkWait answering
      → let m = closing (record b { partner = y.base.own; clock = now }) [] 128 w.octets now in AreParting (end_of m) y mine theirs [] m.tpdus
  parts_at_once b y answering w unagreed to to_back partner stage =
      let m : Moved = closing (record b { partner = y.base.own; clock = now }) [] 128 w.octets now in
      record {
        one = record {
          into_are = tt;
          knows = record { partner = inr refl; to = to; sum = λ is. ap agreed_sum unagreed; writes = tt };
          freezes = subst (λ (s : StateData). WillFreeze b.own y.base.own m.stage s [] m.tpdus) (sym stage) tt;
        };
        next = record {
          into_are = (release_comes (end_of m) y theirs 128 w.octets refl to (λ is. ap agreed_sum unagreed), tt);
          knows = record { partner = inr partner; to = to_back; sum = λ is. absurd (not_agreed b.agreed unagreed is); writes = subst (λ (s : StateData). Writes s (end_of m) mine) (sym stage) tt };
          freezes = subst (λ (s : StateData). WillFreeze y.base.own b.own s m.stage m.tpdus []) (sym stage) (inl refl);
        };
      }

  back_answered : (x y : End) (w : InWaitBeforeClose) → a.calling ≡ Some x → a.called ≡ Some y → Asks x → x.stage ≡ WaitBeforeClose w → IsConfirming y (sent ∷ rest) → forth ≡ [] → Back (met whole now e theirs (sent.tpdu, sent.sum))
  back_answered x y w calling called asks stage confirming forth_none =
      let c = i.caller x calling in
      let d = i.called y called in
      let m : Moved = closing (record x.base { partner = y.base.own; clock = now }) [] 128 w.octets now in
      let is : confirm y.base confirming.options confirming.octets ≡ sent = sym (first_is sent (confirm y.base confirming.options confirming.octets) rest [] confirming.back_is) in
      let row : stepped whole now x (Took sent.tpdu sent.sum) ≡ closing (record x.base { partner = y.base.own; clock = now }) [] 128 w.octets now =
      ap (λ (s : Sent). takes whole now x.base x.stage s.tpdu s.sum) (sym is)
      ∙ ap (λ (s : StateData). takes whole now x.base s (confirm y.base confirming.options confirming.octets).tpdu (confirm y.base confirming.options confirming.octets).sum) stage
      ∙ parting_row x.base y.base w confirming.options confirming.octets confirming.agreed in
      let fit : fits x.base x.stage sent.tpdu ≡ true = ap (λ (s : Sent). fits x.base x.stage s.tpdu) (sym is) ∙ ap (λ (s : StateData). fits x.base s (confirm y.base confirming.options confirming.octets).tpdu) stage in
      let named : IsFor x.base.own sent.tpdu = subst (λ (s : Sent). IsFor x.base.own s.tpdu) is (d.partner ∙ sym c.own_is) in
      back_taken x calling _ (taken_by now e theirs sent.sum x sent.tpdu (stands x calling) named c.to fit)
      (Leaving (end_of (stepped whole now x (Took sent.tpdu sent.sum))) y refl called
      (subst (λ (m : Moved). AreParting (end_of m) y mine theirs rest (forth ++ m.tpdus)) (sym row)
      (subst (λ (l : List Sent). AreParting (end_of m) y mine theirs l (forth ++ m.tpdus)) (sym (rest_is sent (confirm y.base confirming.options confirming.octets) rest [] confirming.back_is))
      (subst (λ (l : List Sent). AreParting (end_of m) y mine theirs [] (l ++ m.tpdus)) (sym forth_none)
      (parts_at_once x.base y confirming.answering w asks.unagreed c.to d.to (d.partner ∙ sym c.own_is) confirming.stage))))
      (held_on now x (Took sent.tpdu sent.sum) (asking_held now x asks.stage)) (held_so now y (AkWait confirming.answering) confirming.stage refl))

  back_paired : (p : Pair) → a.calling ≡ Some p.calling → a.called ≡ Some p.called → IsPaired now p forth (sent ∷ rest) → Back (met whole now e theirs (sent.tpdu, sent.sum))
  back_paired p calling called paired =
      let c = i.caller p.calling calling in
      let met_is = back_met p sent rest paired.stays paired.stands paired.back_is in
      let acted_is : met whole p.clock e theirs (sent.tpdu, sent.sum) ≡ moved e p.calling.base.own (stepped whole p.clock p.calling (Took sent.tpdu sent.sum)) =
      ap (λ (from : List ℕ). met whole p.clock e from (sent.tpdu, sent.sum)) (sym c.to) ∙ met_is.meets e (stands p.calling calling) in
      let row = back_goes p mine theirs c.to (i.called p.called called).to sent forth rest (record { clock = refl; forth_is = paired.forth_is; back_is = paired.back_is; stands = paired.stands; within = paired.within; stays = paired.stays }) in
      by (subst (λ (n : ℕ). met whole n e theirs (sent.tpdu, sent.sum) ≡ moved e p.calling.base.own (stepped whole n p.calling (Took sent.tpdu sent.sum))) paired.clock acted_is)
      (subst (λ (n : ℕ). GoesOn n (end_of (stepped whole n p.calling (Took sent.tpdu sent.sum))) p.called mine theirs (forth ++ (stepped whole n p.calling (Took sent.tpdu sent.sum)).tpdus) rest) paired.clock row)
    where
      by : met whole now e theirs (sent.tpdu, sent.sum) ≡ moved e p.calling.base.own (stepped whole now p.calling (Took sent.tpdu sent.sum))
          → GoesOn now (end_of (stepped whole now p.calling (Took sent.tpdu sent.sum))) p.called mine theirs (forth ++ (stepped whole now p.calling (Took sent.tpdu sent.sum)).tpdus) rest
          → Back (met whole now e theirs (sent.tpdu, sent.sum))
      by acted_is (Pairs q one other on) = back_taken p.calling calling _ acted_is (Paired q (ap Some (sym one)) (called ∙ ap Some (sym other)) on)
      by acted_is (Parts parting) = back_taken p.calling calling _ acted_is (Leaving _ p.called refl called parting (held_on now p.calling (Took sent.tpdu sent.sum) (paired_held now p.calling (λ l. paired.stays (inl l)))) (paired_held now p.called (λ l. paired.stays (inr l))))

  back_leaving : (x y : End) → a.calling ≡ Some x → a.called ≡ Some y → AreParting x y mine theirs (sent ∷ rest) forth → IsInUse now x → IsInUse now y → (acted : Acted) → IsHeard now e x y mine theirs sent rest forth acted → Back acted
  back_leaving x y calling called p held_x held_y acted (Takes_it is after) =
      back_taken x calling acted is
      (Leaving _ y refl called (subst (λ (l : List Sent). AreParting (end_of (stepped whole now x (Took sent.tpdu sent.sum))) y mine theirs rest (forth ++ l)) (ap (λ (z : Acted). z.tpdus) is) after) (held_on now x (Took sent.tpdu sent.sum) held_x) held_y)
  back_leaving x y calling called p held_x held_y acted (Unmatched is after) =
      back_stays acted (ap (λ (y : Acted). y.entity) is) (inr (_, ap (λ (y : Acted). y.events) is)) (parting_left a x y mine theirs (sent ∷ rest) forth calling called p) (Leaving x y calling called after held_x held_y)
  back_leaving x y calling called p held_x held_y acted (Answered_so same told after) =
      back_stays acted same (inl told) (parting_left a x y mine theirs (sent ∷ rest) forth calling called p) (Leaving x y calling called after held_x held_y)

  pub dealt_back : Back (met whole now e theirs (sent.tpdu, sent.sum))
  dealt_back = by i.phase
    where
      by : Phase timers mine theirs now a forth (sent ∷ rest) → Back (met whole now e theirs (sent.tpdu, sent.sum))
      by (Asking x r calling called asks stage forth_is back_is) = none_first sent rest back_is
      by (Rejected x refusal_sent calling called asks forth_is back_is to is) =
          back_rejected x calling called asks forth_is (rest_is sent refusal_sent rest [] back_is) (subst (λ (s : Sent). IsRefusal x.base.own s.tpdu) (sym (first_is sent refusal_sent rest [] back_is)) is)
      by (Waiting x y since calling called asks indicated requests back_is) = none_first sent rest back_is
      by (Late x y when since calling called stage unagreed indicated before forth_is back_is) = none_first sent rest back_is
      by (Refused x y first others calling called asks frozen held unagreed requests back_is refusals) = back_refused x y calling called asks frozen held unagreed requests refusals
      by (Answered x y w calling called asks stage confirming forth_is) = back_answered x y w calling called asks stage confirming forth_is
      by (Paired p calling called paired) = back_paired p calling called paired
      by (Leaving x y calling called parting held_x held_y) =
          let c = i.caller x calling in
          back_leaving x y calling called parting held_x held_y _ (heard now e x y mine theirs sent rest forth (low y called) (subst (λ (n : ℕ). 0 < n) (sym c.own_is) i.some) (stands x calling) parting)
      by (Over calling called forth_is back_is) = none_first sent rest back_is
