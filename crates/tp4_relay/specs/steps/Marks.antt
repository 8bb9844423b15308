-- A unit by its mark.
use Rattle.std.specs.Prelude.{ℕ, List}
use Rattle.tp4_relay.specs.declared.unit.Mark.{Mark}
use Rattle.tp4_relay.specs.declared.unit.Mark.TheVariants as marks
use Rattle.tp4_relay.specs.declared.unit.MarkedUnit.{MarkedUnit}
use Rattle.tp4_relay.specs.declared.unit.MarkedUnit.TheVariants.{Normal, Expedited}

abbrev pub unit_of : Mark → List ℕ → MarkedUnit
unit_of marks.Normal octets = Normal octets
unit_of marks.Expedited octets = Expedited octets
