-- An end that is not due has tried, spoken and heard in time.
use Rattle.std.proofs.Common.{◌≡◌, inl, inr, ◌<◌, ◌≤◌, ℕ, ◌+◌, Bool, true, if◌then◌else◌, List, [], ◌∷◌, length, Option, Some, None, subst, arith, Contains}
use Rattle.std.proofs.lemmas.Bool.{cases_lt}
use Rattle.tp4_sending.specs.SendingHalf.{FlowSender, due_of, normal_opens, urgent_last, urgent_opens}
use Rattle.tp4_sending.specs.Pieces.{least_due, sooner}
use Rattle.tp4_sending.specs.declared.tries.Tries.{Tries}
use Rattle.tp4_conn.specs.declared.end_record.EndRecord.{EndRecord}
use Rattle.tp4_conn.specs.declared.states.InOpened.{InOpened}
use Rattle.tp4_conn.specs.declared.states.StateData.TheVariants.{Opened}
use Rattle.tp4_conn.specs.Living.{IsInTime}
use Rattle.tp4_conn.specs.Table.{due}
use Rattle.law_recovery_ends.specs.Due.{AreTried, AreYoung, IsUndue}

pub parts_in_time : (a b : Option ℕ) (t : ℕ) → IsInTime (sooner a b) t → IsInTime a t × IsInTime b t
parts_in_time None b t h = (tt, h)
parts_in_time (Some x) None t h = (h, tt)
parts_in_time (Some x) (Some y) t h = (omega (arith, h), omega (arith, h))

young : (t1 now : ℕ) (window : List Tries) → IsInTime (least_due t1 window) (now + 1) → AreYoung t1 now window
young t1 now [] h = tt
young t1 now (tries ∷ window) h = let p = parts_in_time (Some (tries.last + t1)) (least_due t1 window) (now + 1) h in (omega (arith, p.0), young t1 now window p.1)

pub undue : (now : ℕ) (b : EndRecord) (o : InOpened) → o.halves.sending.is_open ≡ true → IsInTime (due b (Opened o)) (now + 1) → IsUndue now b o
undue now b o is_open h = record { young = young s.rules.t1 now s.window all.0; spoke = omega (arith, both.1); heard = omega (arith, both.0) }
  where
    s : FlowSender
    s = o.halves.sending

    first : IsInTime (sooner (Some (o.took + b.timers.inactive)) (Some (o.acked + b.timers.window))) (now + 1) × IsInTime (due_of s) (now + 1)
    first = parts_in_time (sooner (Some (o.took + b.timers.inactive)) (Some (o.acked + b.timers.window))) (due_of s) (now + 1) h

    both : IsInTime (Some (o.took + b.timers.inactive)) (now + 1) × IsInTime (Some (o.acked + b.timers.window)) (now + 1)
    both = parts_in_time (Some (o.took + b.timers.inactive)) (Some (o.acked + b.timers.window)) (now + 1) first.0

    rest : Option ℕ
    rest = sooner (urgent_last s s.urgent.out) (sooner (urgent_opens s) (normal_opens s))

    all : IsInTime (least_due s.rules.t1 s.window) (now + 1) × IsInTime rest (now + 1)
    all = parts_in_time (least_due s.rules.t1 s.window) rest (now + 1) (subst (λ (c : Bool). IsInTime (if c then sooner (least_due s.rules.t1 s.window) rest else None) (now + 1)) is_open first.1)

pub numbers_sent : (u t1 now n : ℕ) (window : List Tries) (sends : List (ℕ × ℕ)) → AreTried u n window sends → AreYoung t1 now window → u + t1 ≤ now + 1
    → (m : ℕ) → n ≤ m → m < n + length window → (tick : ℕ) × Contains sends (m, tick) × (now < tick + t1)
numbers_sent u t1 now n [] sends tried young late m low high = absurd (omega (arith, low, high))
numbers_sent u t1 now n (tries ∷ window) sends tried young late m low high = elim (cases_lt n m) [
  | inl past ↦ numbers_sent u t1 now (n + 1) window sends tried.1 young.1 late m (omega (arith, past)) (omega (arith, high))
  | inr here ↦ elim tried.0 [
    | inl old ↦ absurd (omega (arith, old, young.0, late))
    | inr there ↦
        (let is : n ≡ m = omega (arith, here, low) in
        (tries.last, subst (λ (k : ℕ). Contains sends (k, tries.last)) is there, young.0))
  ]
]
