-- Where nothing waits, what is next waits for credit or for the number rule; and how a pair comes to stand.
use Rattle.std.proofs.Common.{◌≡◌, ℕ, suc, ◌+◌, ◌-◌, append-nil, ◌<◌, ◌≤◌, ◌&&◌, ◌||◌, ◌==◌, not, nat_lt, Bool, true, false, List, [], ◌∷◌, ◌++◌, length, Option, Some, None, refl, sym, ◌∙◌, ap, subst, arith, inl, inr, ◌⊎◌}
use Rattle.std.specs.Prelude.{is_some}
use Rattle.std.specs.List.{sum_by}
use Rattle.std.proofs.lemmas.List.Sums.{sum_by-append, sum_by-cons}
use Rattle.std.proofs.lemmas.Bool.{ltb-false, eqb-true}
use Rattle.tp4_flow.specs.ReceivingHalf.{Half}
use Rattle.tpdu.specs.declared.service.Options.{Options}
use Rattle.tp4_sending.specs.SendingHalf.{FlowSender}
use Rattle.tp4_sending.specs.Pieces.{count_in, end_of, once}
use Rattle.tp4_sending.specs.Settled.{IsSettled, waits_normal}
use Rattle.tp4_sending.specs.declared.tries.Tries.{Tries}
use Rattle.tp4_conn.specs.declared.call.UserCall.TheVariants.{Accept}
use Rattle.tp4_conn.specs.declared.states.InOpened.{InOpened}
use Rattle.tp4_conn.specs.declared.states.InCrWait.{InCrWait}
use Rattle.tp4_conn.specs.declared.states.StateData.{StateData}
use Rattle.tp4_conn.specs.declared.states.StateData.TheVariants.{CrWait, UserWait, AkWait, Opened}
use Rattle.tp4_conn.specs.declared.end_record.EndRecord.{EndRecord}
use Rattle.tp4_conn.specs.Agreeing.{agreed_by, confirm, halves_of}
use Rattle.tp4_conn.proofs.Sizes.{agreed_sized}
use Rattle.tp4_conn.specs.End.{IsProposal, IsSized, Moved, end_of as end_of_row}
use Rattle.tp4_flow.specs.declared.step.Sent.{Sent}
use Rattle.law_tp4_history.specs.Lines.{given, shown_in}
use Rattle.tp4_conn.specs.Table.{Called, at, on_call}
use Rattle.tp4_conn.specs.UserWait.{user_wait_accept}
use Rattle.script_journal.specs.Lawful.{expediteds, normals}
use Rattle.law_tp4_history.specs.Complete.{Complete}
use Rattle.law_tp4_history.proofs.Complete.{one_more}
use Rattle.law_tp4_pair.specs.Carrying.{AreLeft, Carries}
use Rattle.law_tp4_pair.specs.Flowing.{IsCalm}
use Rattle.law_tp4_pair.specs.Pair.{Accepts, Account, Asks_called, IsIdle, IsNew, Pair, back_units, forth_units, next}
use Rattle.law_tp4_pair.specs.Claim.{HoldsDt, HoldsEd}
use Rattle.law_tp4_pair.specs.Rest.{HasTaken, By_ed, By_dt, By_credit, All, IsAtRest, IsShown, AreAtRest}
use Rattle.law_tp4_pair.specs.Standing.{HasLeft, AreBoth, Stands, Left, Confirming, First, Both, party}
use Rattle.law_tp4_pair.proofs.Granting.{at_rest}

some_units : (n : ℕ) → (suc n == 0) ≡ false
some_units n = by (suc n == 0) refl
  where
    by : (b : Bool) → (suc n == 0) ≡ b → (suc n == 0) ≡ false
    by true e = absurd (omega (arith, eqb-true (suc n) 0 e))
    by false e = e

-- with no ED outstanding each expedited unit was sent, or the next one is held back
pub expedited_left : (s : FlowSender) (units : List (List ℕ)) → (not (is_some s.urgent.out || length units == 0) ≡ true → HoldsEd s) → s.urgent.out ≡ None → (units ≡ []) ⊎ HoldsEd s
expedited_left s [] h e = inl refl
expedited_left s (unit ∷ units) h e = inr (h (ap (λ (o : Option Tries). not (is_some o || length (unit ∷ units) == 0)) e ∙ ap not (some_units (length units))))

pub normal_left : (s : FlowSender) (h : Half) → s.is_open ≡ true → IsSettled s → s.urgent.units ≡ [] → s.numbers.base + s.numbers.credit ≡ h.receiver.expected + h.receiver.inbox.credit → s.numbers.next ≡ h.receiver.expected
    → HasTaken s h
normal_left s h is_open settled none edge at = by (nat_lt s.numbers.next (s.numbers.base + s.numbers.credit)) (nat_lt s.numbers.next (end_of s.rules.piece s.queue)) refl refl
  where
    quiet : (u v : Bool) → nat_lt s.numbers.next (s.numbers.base + s.numbers.credit) ≡ u → nat_lt s.numbers.next (end_of s.rules.piece s.queue) ≡ v → waits_normal s ≡ not (not (u && v))
    quiet u v e f = (λ i. not (not (length (none i) == 0) || not (e i && f i)))

    by : (u v : Bool) → nat_lt s.numbers.next (s.numbers.base + s.numbers.credit) ≡ u → nat_lt s.numbers.next (end_of s.rules.piece s.queue) ≡ v → HasTaken s h
    by true true e f = let waits = quiet true true e f in By_dt (record { is_open = is_open; waits = waits; held = settled.normal waits })
    by false v e f = By_credit (omega (arith, ltb-false _ _ e, edge, at))
    by true false e f = All (omega (arith, ltb-false _ _ f, at))

-- at rest by its numbers, where all that may go went
pub level_rests : (s : FlowSender) (h : Half) → s.is_open ≡ true → IsSettled s → s.numbers.base ≡ h.receiver.expected → s.numbers.next ≡ h.receiver.expected → s.numbers.credit ≡ h.receiver.inbox.credit
    → s.urgent.out ≡ None → s.urgent.next ≡ h.receiver.urgent → IsAtRest s h
level_rests s h is_open settled base next credit out urgent =
    let expedited = expedited_left s s.urgent.units (λ waits. record { is_open = is_open; waits = waits; held = settled.urgent waits }) out in
    record {
      base = base;
      next = next;
      credit = credit;
      out = out;
      urgent = urgent;
      expedited = expedited;
      normal = elim expedited [
        | inl none ↦ normal_left s h is_open settled none (omega (arith, base, credit)) next
        | inr held ↦ By_ed held
      ];
    }

pub rests : (s : FlowSender) (h : Half) → IsCalm s h [] [] [] [] → IsAtRest s h
rests s h c = let r = at_rest s h c in level_rests s h c.flows.ordered.is_open c.settled r.base r.next r.credit r.out (sym r.urgent)

-- ---- units

-- where all pieces were joined all units are shown
all_shown : (size : ℕ) → 0 < size → (units : List (List ℕ)) (n : ℕ) (shown : List (List ℕ)) (begun : List ℕ) → Complete size units n shown begun → sum_by (count_in size) units ≤ n → shown ≡ units
all_shown size some [] n [] begun c low = refl
all_shown size some [] n (s ∷ shown) begun c low = absurd c
all_shown size some (unit ∷ units) n [] begun c low = absurd (omega (arith, one_more size (length unit) some n c.0, low, sum_by-cons (count_in size) unit units))
all_shown size some (unit ∷ units) n (s ∷ shown) begun c low =
    let rest : shown ≡ units = all_shown size some units (n - count_in size unit) shown begun c.2 (omega (arith, low, c.1, sum_by-cons (count_in size) unit units)) in
    λ i. c.0 i ∷ rest i

none_left : (out : Option Tries) (units left : List (List ℕ)) → out ≡ None → AreLeft out [] units left → left ≡ units
none_left None units left e a = a
none_left (Some tries) units left e a = absurd (cc e)

pub shows : (s : FlowSender) (h : Half) (u : Account) → IsAtRest s h → Carries s h [] [] u.gave u.showed → IsShown s h u
shows s h u r c = record { expedited = expedited r.expedited; normal = normal r.normal }
  where
    expedited : (s.urgent.units ≡ []) ⊎ HoldsEd s → (expediteds u.showed ≡ expediteds u.gave) ⊎ HoldsEd s
    expedited (inl none) = inl (sym (c.expedited ∙ ap (λ (l : List (List ℕ)). expediteds u.showed ++ l) (none_left s.urgent.out s.urgent.units c.left r.out c.left_are ∙ none) ∙ append-nil (expediteds u.showed)))
    expedited (inr held) = inr held

    normal : HasTaken s h → (normals u.showed ≡ normals u.gave) ⊎ (HoldsEd s ⊎ (HoldsDt s ⊎ (h.receiver.inbox.credit ≡ 0)))
    normal (By_ed held) = inr (inl held)
    normal (By_dt held) = inr (inr (inl held))
    normal (By_credit none) = inr (inr (inr none))
    normal (All low) = inl (all_shown s.rules.piece c.some (normals u.gave) h.receiver.expected (normals u.showed) h.receiver.inbox.held.begun c.complete
        (omega (arith, low, c.first, ap (sum_by (count_in s.rules.piece)) c.normal, sum_by-append (count_in s.rules.piece) c.acknowledged s.queue.units)))

-- both ends of a pair
both_rest : (p : Pair) (o q : InOpened) → IsIdle p → AreBoth (party p.calling.base) (party p.called.base) o.halves q.halves p.forth p.back (forth_units p) (back_units p) → AreAtRest p o q
both_rest p o q idle both =
    let none : AreBoth (party p.calling.base) (party p.called.base) o.halves q.halves [] [] (forth_units p) (back_units p) =
    subst (λ (l : List Sent). AreBoth (party p.calling.base) (party p.called.base) o.halves q.halves l [] (forth_units p) (back_units p)) idle.forth
    (subst (λ (l : List Sent). AreBoth (party p.calling.base) (party p.called.base) o.halves q.halves p.forth l (forth_units p) (back_units p)) idle.back both) in
    let there = rests o.halves.sending q.halves.receiving none.there in
    let here = rests q.halves.sending o.halves.receiving none.here in
    record {
      there = there;
      here = here;
      shown_there = shows o.halves.sending q.halves.receiving (forth_units p) there none.carried_there;
      shown_here = shows q.halves.sending o.halves.receiving (back_units p) here none.carried_here;
    }

same_open : (o q : InOpened) → Opened o ≡ Opened q → o ≡ q
same_open o q e = cc

not_left : (o : InOpened) (stage : StateData) → stage ≡ Opened o → HasLeft stage → ⊥
not_left o stage e left = subst HasLeft e left

not_requesting : (o : InOpened) (r : InCrWait) → CrWait r ≡ Opened o → ⊥
not_requesting o r e = cc e

not_answering : (o : InOpened) (w : _) → AkWait w ≡ Opened o → ⊥
not_answering o w e = cc e

pub pair_rests : (p : Pair) (o q : InOpened) → Stands p → IsIdle p → p.calling.stage ≡ Opened o → p.called.stage ≡ Opened q
    → AreAtRest p o q
pair_rests p o q (Left left) idle mine theirs = elim left [ inl here ↦ absurd (not_left o p.calling.stage mine here) | inr there ↦ absurd (not_left q p.called.stage theirs there) ]
pair_rests p o q (Confirming r w is was new c) idle mine theirs = absurd (not_requesting o r (sym is ∙ mine))
pair_rests p o q (First n w is was f) idle mine theirs = absurd (not_answering q w (sym was ∙ theirs))
pair_rests p o q (Both n m is was both) idle mine theirs =
    subst (λ (x : InOpened). AreAtRest p x q) (same_open n o (sym is ∙ mine)) (subst (λ (y : InOpened). AreAtRest p n y) (same_open m q (sym was ∙ theirs)) (both_rest p n m idle both))

-- the called end accepts
accepts : (p : Pair) (r : InCrWait) (since : ℕ) (asked : Options) (octets : List ℕ) → IsIdle p → p.calling.stage ≡ CrWait r → p.called.stage ≡ UserWait since
    → p.called.base.credit ≡ p.calling.base.timers.credit → p.calling.base.timers.credit ≤ 15 → p.called.base.timers.credit ≤ 15
    → IsProposal p.called.base.proposed → IsSized asked → p.called.base.partner ≡ p.calling.base.own → IsNew p → Stands (next p (Asks_called (Accept asked octets)))
unfolding user_wait_accept
accepts p r since asked octets idle mine theirs known low low_there size size_asked named new =
    let options : Options = agreed_by p.called.base.proposed asked in
    let b : EndRecord = record p.called.base { agreed = Some options; clock = p.clock } in
    subst (λ (m : Moved). Stands (answered m)) (sym (ap (λ (stage : StateData). on_call (at p.clock p.called.base) stage (Accept asked octets)) theirs))
    (Confirming r (record { octets = octets; first = p.clock; tries = once p.clock; halves = halves_of b options }) mine refl (record { calling_gave = new.calling_gave; called_gave = append-nil p.called_gave ∙ new.called_gave; calling_showed = new.calling_showed; called_showed = append-nil p.called_showed ∙ new.called_showed }) (record {
      options = options;
      agreed = refl;
      halves = refl;
      named = named;
      known = known;
      low = low;
      low_there = low_there;
      size = agreed_sized p.called.base.proposed asked size size_asked;
      octets = octets;
      forth_is = idle.forth;
      back_is = ap (λ (l : List Sent). l ++ confirm b options octets ∷ []) idle.back;
    }))
  where
    answered : Moved → Pair
    answered m = record p {
      called = end_of_row m;
      back = p.back ++ m.tpdus;
      called_gave = p.called_gave ++ given (Called (Accept asked octets));
      called_showed = p.called_showed ++ shown_in m.events;
      called_told = p.called_told ++ m.events;
    }

pub accepts_stands : (p : Pair) (asked : Options) (octets : List ℕ) → Accepts p asked → Stands (next p (Asks_called (Accept asked octets)))
accepts_stands p asked octets a = accepts p a.request a.since asked octets a.idle a.calling a.called a.known a.low a.low_there a.size a.size_asked a.named a.new
