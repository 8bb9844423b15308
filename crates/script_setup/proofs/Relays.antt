-- The systems of a relay are there.
use Rattle.std.proofs.Common.{◌≡◌, ℕ, zero, suc, ◌<◌, true, List, [], ◌∷◌, length, arith}
use Rattle.std.specs.List.{AllByRecursion}
use Rattle.script_setup.specs.Fitting.{IsRelay}
use Rattle.script_setup.specs.SetUp.{System, end_at}
use Rattle.script_setup.specs.declared.relay.RelayLine.{RelayLine}

pub end_low : (systems : List System) (n : ℕ) → end_at systems n ≡ true → n < length systems
end_low [] n is = absurd (cc is)
end_low (system ∷ systems) zero is = omega arith
end_low (system ∷ systems) (suc n) is = let low = end_low systems n is in omega (arith, low)

pub relays_low : (systems : List System) (relays : List RelayLine) → AllByRecursion (IsRelay systems) relays → AllByRecursion (λ (relay : RelayLine). (relay.system < length systems) × (relay.to < length systems)) relays
relays_low systems [] all = tt
relays_low systems (relay ∷ relays) all = ((end_low systems relay.system (all.0).own, end_low systems relay.to (all.0).other), relays_low systems relays all.1)
