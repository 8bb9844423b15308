use Rattle.std.proofs.Common.{◌≡◌, ◌++◌, List, ℕ, length}
use Rattle.script_lines.specs.Gives.{into}
use Rattle.script_lines.specs.Reading.{each_intermediate}
use Rattle.script_lines.proofs.names.Names.each_intermediate.Given as goal

-- the numbers so far, and then those of the names that are left
abbrev pub invariant-loop-name : goal.invariant-loop-name
invariant-loop-name l = each_intermediate l.self l.fn.names ≡ into (each_intermediate l.self l.names) (λ (more : List ℕ). l.hops.items ++ more)

abbrev pub decreases-loop-name : goal.decreases-loop-name
decreases-loop-name l = length l.names
