-- What a sending half knows of its receiver changes by an AK alone, and no number goes beyond the window.
use Rattle.std.proofs.Common.{◌≡◌, ◌⊎◌, inl, inr, ℕ, zero, suc, ◌+◌, ◌-◌, ◌≤◌, nat_le, nat_lt, max, min, true, List, [], ◌∷◌, ◌++◌, drop, None, refl, sym, ◌∙◌, ap, subst, arith, true≢false}
use Rattle.std.specs.Prelude.{not}
use Rattle.std.proofs.lemmas.Bool.{and_parts, ltb-true, not-false}
use Rattle.std.proofs.lemmas.Bool.Decides.{nat_tests}
use Rattle.tp4_flow.specs.declared.rules.Life.{Life}
use Rattle.tp4_flow.specs.declared.rules.Life.TheVariants.{Goes, Exhausted}
use Rattle.tp4_number.specs.Number.{near}
use Rattle.tp4_number.specs.Sender.{Sender, is_newer, told}
use Rattle.tp4_number.proofs.Past.{if_kept}
use Rattle.tp4_sending.specs.SendingHalf.{FlowSender, Sendings, block_in, rule_allows, is_noted, one_urgent, sent_normal, has_next, normals, is_urgent, normals_where, new_sends, submitted, urged, acknowledged, is_taken, acknowledged_to, is_outstanding, urgent_done, opened, resends, resends_urgent_as, life_of, ticked_as, ticked}
use Rattle.tp4_sending.specs.Pieces.{end_of}
use Rattle.law_recovery_pair.specs.Viewing.{IsWithin, KeepsView, TakesView}
use Rattle.law_recovery_pair.proofs.RidingSends.{IsAlike, again_alike, urgent_alike}

same : (s : FlowSender) → IsWithin s → KeepsView s s
same s e = record { rules = refl; base = refl; credit = refl; subsequence = refl; edge = e }

-- the same numbers
alike_keep : (s t : FlowSender) → IsWithin s → IsAlike s t → KeepsView s t
alike_keep s t e a = record {
  rules = a.rules;
  base = ap (λ (n : Sender). n.base) a.numbers;
  credit = ap (λ (n : Sender). n.credit) a.numbers;
  subsequence = ap (λ (n : Sender). n.subsequence) a.numbers;
  edge = subst (λ (n : Sender). n.next ≤ n.base + n.credit) (sym a.numbers) e;
}

then_keep : (s t v : FlowSender) → KeepsView s t → KeepsView t v → KeepsView s v
then_keep s t v a b = record { rules = b.rules ∙ a.rules; base = b.base ∙ a.base; credit = b.credit ∙ a.credit; subsequence = b.subsequence ∙ a.subsequence; edge = b.edge }

normals_keep : (fuel : ℕ) (s : FlowSender) → IsWithin s → KeepsView s (normals fuel s).sender
normals_keep zero s e = same s e
normals_keep (suc fuel) s e =
    let P = λ (y : Sendings). KeepsView s y.sender in
    if_kept P (not (has_next s)) _ _ (λ _. same s e)
    (λ more.
    let both = and_parts (nat_lt s.numbers.next (s.numbers.base + s.numbers.credit)) (nat_lt s.numbers.next (end_of s.rules.piece s.queue)) (not-false (has_next s) more) in
    if_kept P (rule_allows s s.numbers.blocks s.numbers.next) _ _
    (λ _.
    let r = normals_keep fuel (sent_normal s) (omega (arith, ltb-true _ _ both.0)) in
    record { rules = r.rules; base = r.base; credit = r.credit; subsequence = r.subsequence; edge = r.edge })
    (λ _. if_kept P (is_noted s.noted s.numbers.next) _ _ (λ _. same s e) (λ _. record { rules = refl; base = refl; credit = refl; subsequence = refl; edge = e })))

where_keep : (s : FlowSender) → IsWithin s → KeepsView s (normals_where s).sender
where_keep s e = if_kept (λ (y : Sendings). KeepsView s y.sender) (is_urgent s) _ _ (λ _. same s e) (λ _. normals_keep (end_of s.rules.piece s.queue - s.numbers.next) s e)

pub new_keep : (s : FlowSender) → IsWithin s → KeepsView s (new_sends s).sender
new_keep s e = if_kept (λ (y : Sendings). KeepsView s y.sender) s.is_open _ _
    (λ _.
    let t : FlowSender = (one_urgent s).sender in
    let a = alike_keep s t e (urgent_alike s) in
    then_keep s t (normals_where t).sender a (where_keep t a.edge))
    (λ _. same s e)

pub submit_keep : (s : FlowSender) (unit : List ℕ) → IsWithin s → KeepsView s (submitted s unit).sender
submit_keep s unit e = let r = new_keep (record s { queue = record s.queue { units = s.queue.units ++ unit ∷ [] } }) e in record { rules = r.rules; base = r.base; credit = r.credit; subsequence = r.subsequence; edge = r.edge }

pub urge_keep : (s : FlowSender) (unit : List ℕ) → IsWithin s → KeepsView s (urged s unit).sender
urge_keep s unit e = let r = new_keep (record s { urgent = record s.urgent { units = s.urgent.units ++ unit ∷ [] } }) e in record { rules = r.rules; base = r.base; credit = r.credit; subsequence = r.subsequence; edge = r.edge }

pub done_keep : (s : FlowSender) (w : ℕ) → IsWithin s → KeepsView s (urgent_done s w).sender
done_keep s w e = if_kept (λ (y : Sendings). KeepsView s y.sender) (is_outstanding s w) _ _
    (λ _. let r = new_keep (record s { urgent = record s.urgent { units = drop 1 s.urgent.units; out = None } }) e in record { rules = r.rules; base = r.base; credit = r.credit; subsequence = r.subsequence; edge = r.edge })
    (λ _. same s e)

pub open_keep : (s : FlowSender) → IsWithin s → KeepsView s (opened s).sender
open_keep s e = let r = new_keep (record s { is_open = true }) e in record { rules = r.rules; base = r.base; credit = r.credit; subsequence = r.subsequence; edge = r.edge }

pub tick_keep : (s : FlowSender) → IsWithin s → KeepsView s (ticked s).sender
tick_keep s e = by (life_of s)
  where
    t : FlowSender
    t = (resends s).sender

    v : FlowSender
    v = (resends_urgent_as t.urgent.out t).sender

    by : (life : Life) → KeepsView s (ticked_as life s).sender
    by Exhausted = same s e
    by Goes =
        let a : KeepsView s t = record { rules = refl; base = refl; credit = refl; subsequence = refl; edge = e } in
        let b : KeepsView t v = alike_keep t v a.edge (again_alike t t.urgent.out) in
        then_keep s v (new_sends v).sender (then_keep s t v a b) (new_keep v b.edge)

le_of : (a b : ℕ) → nat_le a b ≡ true → a ≤ b
le_of a b e = grind (arith, nat_tests)

-- an AK that is taken
pub told_is : (s : FlowSender) (n credit subsequence : ℕ) → is_taken s n credit subsequence ≡ true
    → told s.numbers n credit subsequence ≡ record s.numbers { base = n; credit = credit; subsequence = subsequence; next = max n (min s.numbers.next (n + credit)) }
told_is s n credit subsequence e =
    let both = and_parts (nat_le n s.numbers.blocks.high) (is_newer s.numbers n credit subsequence) e in
    let P = λ (t : Sender). t ≡ record s.numbers { base = n; credit = credit; subsequence = subsequence; next = max n (min s.numbers.next (n + credit)) } in
    if_kept P (nat_lt s.numbers.blocks.high n) _ _ (λ high. absurd (not_both high both.0))
    (λ _. if_kept P (is_newer s.numbers n credit subsequence) _ _ (λ _. refl) (λ no. absurd (true≢false (sym both.1 ∙ no))))
  where
    not_both : nat_lt s.numbers.blocks.high n ≡ true → nat_le n s.numbers.blocks.high ≡ true → ⊥
    not_both p q = grind (arith, nat_tests)

pub ak_keep : (s : FlowSender) (w credit subsequence : ℕ) → IsWithin s
    → TakesView s (near (block_in s) s.numbers.base w) credit subsequence (acknowledged s w credit subsequence).sender ⊎ KeepsView s (acknowledged s w credit subsequence).sender
ak_keep s w credit subsequence e =
    let n = near (block_in s) s.numbers.base w in
    if_kept (λ (y : Sendings). TakesView s n credit subsequence y.sender ⊎ KeepsView s y.sender) (is_taken s n credit subsequence) _ _
    (λ taken.
    let is = told_is s n credit subsequence taken in
    let t : FlowSender = acknowledged_to s n credit subsequence in
    let r = new_keep t (subst (λ (m : Sender). m.next ≤ m.base + m.credit) (sym is) (omega arith)) in
    inl (record {
      low = within taken;
      base = r.base ∙ ap (λ (m : Sender). m.base) is;
      credit_is = r.credit ∙ ap (λ (m : Sender). m.credit) is;
      subsequence_is = r.subsequence ∙ ap (λ (m : Sender). m.subsequence) is;
      edge = r.edge;
    }))
    (λ _. inr (same s e))
  where
    within : is_taken s (near (block_in s) s.numbers.base w) credit subsequence ≡ true → near (block_in s) s.numbers.base w ≤ s.numbers.blocks.high
    within taken = le_of _ _ (and_parts (nat_le (near (block_in s) s.numbers.base w) s.numbers.blocks.high) (is_newer s.numbers (near (block_in s) s.numbers.base w) credit subsequence) taken).0

pub calls_keep : (s : FlowSender) (unit : List ℕ) (w : ℕ) → IsWithin s
    → KeepsView s (submitted s unit).sender × KeepsView s (urged s unit).sender × KeepsView s (urgent_done s w).sender × KeepsView s (opened s).sender × KeepsView s (ticked s).sender
calls_keep s unit w e = (submit_keep s unit e, urge_keep s unit e, done_keep s w e, open_keep s e, tick_keep s e)
