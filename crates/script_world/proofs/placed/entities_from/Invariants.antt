use Rattle.std.proofs.Common.{◌≡◌, ◌++◌, drop}
use Rattle.law_setup.specs.Entities.{entities_from}
use Rattle.script_world.proofs.placed.entities_from.Given as goal

-- the entities so far and those of the systems that are left are all
abbrev pub invariant-loop-number : goal.invariant-loop-number
invariant-loop-number l = l.placed.items ++ entities_from l.fn.life l.fn.limits l.number (drop l.number l.fn.systems) ≡ entities_from l.fn.life l.fn.limits 0 l.fn.systems
