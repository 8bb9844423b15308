use Rattle.std.proofs.Common.{◌≡◌, ◌<◌, ◌+◌, ◌-◌, ℕ, false, List, [], ◌∷◌, Option, None, Some, sym, subst, ◌∙◌, arith}
use Rattle.std.specs.List.{list_any}
use Rattle.tp4_conn.specs.End.{End}
use Rattle.tp4_conn.specs.Living.{IsInTime}
use Rattle.tp4_entity.specs.Dues.{AreFrom, AreLater, due_at}
use Rattle.tp4_entity.specs.Step.{is_due}
use Rattle.tp4_entity.proofs.Dues.{before_at, later_next}
use Rattle.test_transport.proofs.entities.in_time.Goals as goal
use Rattle.test_transport.proofs.entities.in_time.Goals.{else-clock-gt0-via-then-clock-gt0+else-due_by, else-clock-gt0-via-else-clock-gt0}

-- none is due at the tick before
not_due : (now : ℕ) (ends : List (Option End)) → list_any (is_due now) ends ≡ false → AreLater now ends
not_due now [] h = tt
not_due now (end ∷ ends) h =
    let here : is_due now end ≡ false = grind (arith, h) in
    let rest : list_any (is_due now) ends ≡ false = grind (arith, h) in
    (before_at now end here, not_due now ends rest)

in_time : (due : Option ℕ) → IsInTime due 0
in_time None = tt
in_time (Some tick) = omega arith

-- nothing is due before the first tick
at_first : (now : ℕ) (ends : List (Option End)) → now ≡ 0 → AreFrom now ends
at_first now ends is = subst (λ (n : ℕ). AreFrom n ends) (sym is) (all ends)
  where
    all : (xs : List (Option End)) → AreFrom 0 xs
    all [] = tt
    all (x ∷ xs) = (in_time (due_at x), all xs)

at_next : (now : ℕ) (ends : List (Option End)) → 0 < now → list_any (is_due (now - 1)) ends ≡ false → AreFrom now ends
at_next now ends above h =
    let next : now - 1 + 1 ≡ now = omega (arith, above) in
    subst (λ (n : ℕ). AreFrom n ends) next (later_next (now - 1) ends (not_due (now - 1) ends h))

pub returns : goal.returns
returns g c = elim c.else-clock-gt0.branch [
  | else-clock-gt0-via-then-clock-gt0+else-due_by w ↦ at_next c.args.clock c.args.entity.now.ends w.if-clock-gt0.true (sym w.due_by.ensures ∙ w.if-due_by.false)
  | else-clock-gt0-via-else-clock-gt0 w ↦ at_first c.args.clock c.args.entity.now.ends (omega (arith, w.if-clock-gt0.false))
]
