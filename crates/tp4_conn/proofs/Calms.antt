-- A half of which nothing that was sent is due by a tick that is not after now is not due by it after its new sends either: they are due
-- after now, and what is next was tried against the number rule.
use Rattle.std.proofs.Common.{◌≡◌, ℕ, zero, suc, ◌+◌, ◌-◌, ◌<◌, ◌≤◌, Bool, true, false, if◌then◌else◌, List, [], ◌∷◌, ◌++◌, take, drop, Option, Some, None, refl, sym, subst, inl, inr}
use Rattle.tp4_number.specs.Number.{near}
use Rattle.tp4_sending.specs.declared.tries.Tries.{Tries}
use Rattle.tp4_sending.specs.SendingHalf.{FlowSender, acknowledged, acknowledged_to, block_in, due_of, is_outstanding, is_taken, new_sends, nothing, opened, submitted, urgent_done, urgent_last, urged}
use Rattle.tp4_sending.specs.Pieces.{least_due}
use Rattle.tp4_sending.specs.Settled.{IsDue}
use Rattle.tp4_sending.proofs.Dues.{due_is, either_due, first_due, second_due, urgent_part}
use Rattle.tp4_sending.proofs.Laters.{Rests, new_rests, not_due}

-- no DT and no ED that was sent is due by that tick
pub record IsCalm (b : ℕ) (s : FlowSender) : Type 0 where
  pub is_open : s.is_open ≡ true
  pub some : 0 < s.rules.t1
  pub bound : b ≤ s.clock
  pub window : IsDue (least_due s.rules.t1 s.window) b → ⊥
  pub last : IsDue (urgent_last s s.urgent.out) b → ⊥

-- so it is where the half is not due
pub calm : (b : ℕ) (s : FlowSender) → s.is_open ≡ true → 0 < s.rules.t1 → b ≤ s.clock → (IsDue (due_of s) b → ⊥) → IsCalm b s
calm b s o some bound h =
    record {
      is_open = o;
      some = some;
      bound = bound;
      window = λ k. h (subst (λ (d : Option ℕ). IsDue d b) (sym (due_is s o)) (first_due (least_due s.rules.t1 s.window) (urgent_part s) b k));
      last = λ k. h (subst (λ (d : Option ℕ). IsDue d b) (sym (due_is s o)) (second_due (least_due s.rules.t1 s.window) (urgent_part s) b (first_due (urgent_last s s.urgent.out) _ b k)));
    }

new_late : (b : ℕ) (s : FlowSender) → IsCalm b s → IsDue (due_of (new_sends s).sender) b → ⊥
new_late b s c = not_due b s.clock (new_sends s).sender (new_rests b s c.is_open c.some c.bound c.window c.last)

-- ---- each call

pub submitted_late : (b : ℕ) (s : FlowSender) (unit : List ℕ) → IsCalm b s → IsDue (due_of (submitted s unit).sender) b → ⊥
submitted_late b s unit c = new_late b (record s { queue = record s.queue { units = s.queue.units ++ unit ∷ [] } })
    (record { is_open = c.is_open; some = c.some; bound = c.bound; window = c.window; last = c.last })

pub urged_late : (b : ℕ) (s : FlowSender) (unit : List ℕ) → IsCalm b s → IsDue (due_of (urged s unit).sender) b → ⊥
urged_late b s unit c = new_late b (record s { urgent = record s.urgent { units = s.urgent.units ++ unit ∷ [] } })
    (record { is_open = c.is_open; some = c.some; bound = c.bound; window = c.window; last = c.last })

-- what is left of a window
dropped : (t1 now n : ℕ) (window : List Tries) → (IsDue (least_due t1 window) now → ⊥) → IsDue (least_due t1 (drop n window)) now → ⊥
dropped t1 now zero window h = h
dropped t1 now (suc n) [] h = h
dropped t1 now (suc n) (x ∷ window) h = dropped t1 now n window (λ k. h (second_due (Some (x.last + t1)) (least_due t1 window) now k))

taken : (t1 now n : ℕ) (window : List Tries) → (IsDue (least_due t1 window) now → ⊥) → IsDue (least_due t1 (take n window)) now → ⊥
taken t1 now zero window h = λ k. k
taken t1 now (suc n) [] h = λ k. k
taken t1 now (suc n) (x ∷ window) h = λ k. elim (either_due (Some (x.last + t1)) (least_due t1 (take n window)) now k) [
  | inl first ↦ h (first_due (Some (x.last + t1)) (least_due t1 window) now first)
  | inr rest ↦ taken t1 now n window (λ r. h (second_due (Some (x.last + t1)) (least_due t1 window) now r)) rest
]

pub acknowledged_late : (b : ℕ) (s : FlowSender) (w credit subsequence : ℕ) → IsCalm b s → (IsDue (due_of s) b → ⊥) → IsDue (due_of (acknowledged s w credit subsequence).sender) b → ⊥
acknowledged_late b s w credit subsequence c h = by (is_taken s (near (block_in s) s.numbers.base w) credit subsequence)
  where
    n : ℕ
    n = near (block_in s) s.numbers.base w

    by : (takes : Bool) → IsDue (due_of (if takes then new_sends (acknowledged_to s n credit subsequence) else nothing s).sender) b → ⊥
    by true = new_late b (acknowledged_to s n credit subsequence) (record {
      is_open = c.is_open;
      some = c.some;
      bound = c.bound;
      window = taken s.rules.t1 b _ (drop (n - s.numbers.base) s.window) (dropped s.rules.t1 b (n - s.numbers.base) s.window c.window);
      last = c.last;
    })
    by false = h

pub done_late : (b : ℕ) (s : FlowSender) (w : ℕ) → IsCalm b s → (IsDue (due_of s) b → ⊥) → IsDue (due_of (urgent_done s w).sender) b → ⊥
done_late b s w c h = by (is_outstanding s w)
  where
    by : (takes : Bool) → IsDue (due_of (if takes then new_sends (record s { urgent = record s.urgent { units = drop 1 s.urgent.units; out = None } }) else nothing s).sender) b → ⊥
    by true = new_late b (record s { urgent = record s.urgent { units = drop 1 s.urgent.units; out = None } })
        (record { is_open = c.is_open; some = c.some; bound = c.bound; window = c.window; last = λ k. k })
    by false = h

-- a half that sent nothing yet is opened
pub opened_rests : (b : ℕ) (s : FlowSender) → 0 < s.rules.t1 → b ≤ s.clock → s.window ≡ [] → s.urgent.out ≡ None → Rests b s.clock (opened s).sender
opened_rests b s some bound window out = new_rests b (record s { is_open = true }) refl some bound
    (λ k. subst (λ (l : List Tries). IsDue (least_due s.rules.t1 l) b) window k)
    (λ k. subst (λ (o : Option Tries). IsDue (urgent_last s o) b) out k)

pub opened_late : (b : ℕ) (s : FlowSender) → 0 < s.rules.t1 → b ≤ s.clock → s.window ≡ [] → s.urgent.out ≡ None → IsDue (due_of (opened s).sender) b → ⊥
opened_late b s some bound window out = not_due b s.clock (opened s).sender (opened_rests b s some bound window out)
