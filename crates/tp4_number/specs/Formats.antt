-- The numbers in a block and the most credit, by format.
use Rattle.std.specs.Prelude.{ℕ}
use Rattle.tpdu.specs.declared.tpdu.Format.{Format}
use Rattle.tpdu.specs.declared.tpdu.Format.TheVariants.{Normal, Extended}

-- a quarter of the wire's numbers: 7 bits in normal formats, 31 in extended ones
abbrev pub block_of : Format → ℕ
block_of Normal = 32
block_of Extended = 536870912

-- the most credit that a receiving half gives
abbrev pub most_of : Format → ℕ
most_of Normal = 15
most_of Extended = 255
