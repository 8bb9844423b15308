use Rattle.std.proofs.Common.{◌≡◌, ◌++◌, List, length}
use Rattle.script_setup.specs.SetUp.{System, nodes_from}
use Rattle.script_setup.proofs.setup.nodes.Given as goal

-- the systems before those that are left are made
abbrev pub invariant-loop-system : goal.invariant-loop-system
invariant-loop-system l = record {
  front : List System;
  all : l.fn.systems.items ≡ front ++ l.left.items;
  count : length front ≡ length l.nodes.items;
  made : l.nodes.items ++ nodes_from l.shared (length l.nodes.items) l.left.items ≡ nodes_from l.shared 0 l.fn.systems.items;
}

abbrev pub decreases-loop-system : goal.decreases-loop-system
decreases-loop-system l = length l.left.items
