-- The credits of an AK and of an end are within what the formats grant.
use Rattle.std.proofs.Common.{◌≤◌, ℕ, arith}
use Rattle.tpdu.specs.declared.tpdu.Format.{Format}
use Rattle.tpdu.specs.declared.tpdu.Format.TheVariants.{Normal, Extended}
use Rattle.tpdu.specs.Writing.{IsCredit}
use Rattle.tp4_sending.specs.Kept.{most_granted}

pub granted_low : (format : Format) (credit : ℕ) → credit ≤ 15 → credit ≤ most_granted format
granted_low Normal credit h = h
granted_low Extended credit h = omega arith

pub granted_any : (format : Format) (credit : ℕ) → IsCredit format credit → credit ≤ 65535 → credit ≤ most_granted format
granted_any Normal credit h low = omega arith
granted_any Extended credit h low = low
