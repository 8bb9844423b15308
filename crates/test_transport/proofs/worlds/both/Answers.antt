use Rattle.std.proofs.Common.{◌≡◌, ◌==◌, ℕ, true, [], ◌∷◌, ap, refl}
use Rattle.tp4_world.proofs.Later.{each_later}
use Rattle.test_transport.proofs.worlds.both.Goals as goal

pub returns-clause-later : goal.returns-clause-later
returns-clause-later c =
    rw c.in_ok-systems.ensures.items
    (each_later 0 (c.in_ok-first.first ∷ c.in_ok-second.second ∷ []) (c.in_ok-first.ensures.later, (c.in_ok-second.ensures.later, tt)))

pub returns-clause-listed : goal.returns-clause-listed
returns-clause-listed c =
    let here : (c.in_ok-first.first.system == 1) ≡ true = ap (λ (n : ℕ). n == 1) c.in_ok-first.ensures.system in
    rw c.in_ok-systems.ensures.items (rw here refl)
