-- An entry that equals a unit is of that unit.
use Rattle.std.proofs.Common.{◌≡◌, ℕ, List, true, sym}
use Rattle.std.specs.Prelude.{◌&&◌, nat_eq}
use Rattle.std.specs.Cmp.Lexicographic.{pointwise, same_text}
use Rattle.std.proofs.lemmas.Bool.{and_from, and_parts}
use Rattle.std.proofs.lemmas.Cmp.{nat_list_eq_equiv}
use Rattle.osi_base.specs.declared.unit.Unit.{Unit as CarriedUnit}
use Rattle.osi_base.specs.Floated.{is_unit_of}

pub is_unit : (unit : CarriedUnit (List ℕ)) (entry : ℕ × CarriedUnit (List ℕ)) → is_unit_of (pointwise nat_eq) unit entry ≡ true → entry.1 ≡ unit
is_unit unit entry h =
    let all = and_parts (pointwise nat_eq entry.1.from unit.from && pointwise nat_eq entry.1.to unit.to) (pointwise nat_eq entry.1.octets unit.octets) h in
    let ends = and_parts (pointwise nat_eq entry.1.from unit.from) (pointwise nat_eq entry.1.to unit.to) all.0 in
    let from : entry.1.from ≡ unit.from = same_text entry.1.from unit.from (sym ends.0) in
    let to : entry.1.to ≡ unit.to = same_text entry.1.to unit.to (sym ends.1) in
    let octets : entry.1.octets ≡ unit.octets = same_text entry.1.octets unit.octets (sym all.1) in
    λ i. record { from = from i; to = to i; octets = octets i }

pub own_unit : (unit : CarriedUnit (List ℕ)) (tick : ℕ) → is_unit_of (pointwise nat_eq) unit (tick, unit) ≡ true
own_unit unit tick = and_from _ _ (and_from _ _ (nat_list_eq_equiv.refl unit.from) (nat_list_eq_equiv.refl unit.to)) (nat_list_eq_equiv.refl unit.octets)
