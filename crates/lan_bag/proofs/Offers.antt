-- What an offer that is taken has found.
use Rattle.std.proofs.Common.{◌≡◌, ℕ, zero, suc, ◌<◌, ◌≤◌, List, [], ◌∷◌, length, arith, Option, slice_get, All}
use Rattle.std.proofs.lemmas.Bool.Decides.{nat_tests}
use Rattle.std.proofs.lemmas.List.Elements.{All-head, All-tail}
use Rattle.osi_base.specs.declared.unit.Unit.{Unit as CarriedUnit}
use Rattle.osi_base.specs.declared.unit.Offered.TheVariants.{Taken as WasTaken}
use Rattle.nsap.specs.declared.port.Port.{Port}
use Rattle.lan_step.specs.declared.row.Lan.{Lan}
use Rattle.lan_step.specs.declared.row.PortRow.{PortRow}
use Rattle.lan_step.specs.Rows.{bound_on, room_in, room_on, IsLan}
use Rattle.lan_step.specs.Frames.{Frame}
use Rattle.lan_step.specs.Offers.{offered}

rooms_fit : (lans : List Lan) (lan : ℕ) → All IsLan lans → room_in (slice_get lans lan) ≤ 1497
rooms_fit [] lan h = omega arith
rooms_fit (l ∷ lans) zero h = (All-head IsLan l lans h).3
rooms_fit (l ∷ lans) (suc lan) h = rooms_fit lans lan (All-tail IsLan l lans h)

-- a bound is one of the wheel's
pub bounds_fit : (lans : List Lan) (lan : ℕ) → All IsLan lans → bound_on lans lan < 17
bounds_fit [] lan h = omega arith
bounds_fit (l ∷ lans) zero h = omega (arith, (All-head IsLan l lans h).1)
bounds_fit (l ∷ lans) (suc lan) h = bounds_fit lans lan (All-tail IsLan l lans h)

taken_room : (lans : List Lan) (rows : List PortRow) (frames : List (Option Frame)) (unit : CarriedUnit Port) → WasTaken ≡ offered lans rows frames unit → length unit.octets ≤ room_on lans unit.to.lan
taken_room lans rows frames unit h = grind (arith, nat_tests)

pub taken_fits : (lans : List Lan) (rows : List PortRow) (frames : List (Option Frame)) (unit : CarriedUnit Port) → WasTaken ≡ offered lans rows frames unit → All IsLan lans → length unit.octets ≤ 1497
taken_fits lans rows frames unit h fit = omega (arith, taken_room lans rows frames unit h, rooms_fit lans unit.to.lan fit)
