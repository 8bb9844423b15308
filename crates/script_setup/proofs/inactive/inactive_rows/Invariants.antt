use Rattle.std.proofs.Common.{◌≡◌, ◌++◌, drop}
use Rattle.script_setup.specs.Inactive.{inactive_from}
use Rattle.script_setup.proofs.inactive.inactive_rows.Given as goal

-- the rows so far and those of the systems that are left are all
abbrev pub invariant-loop-number : goal.invariant-loop-number
invariant-loop-number l = l.rows.items ++ inactive_from l.fn.lans.lans l.fn.ports l.number (drop l.number l.fn.systems) ≡ inactive_from l.fn.lans.lans l.fn.ports 0 l.fn.systems
