use Rattle.std.proofs.Common.{◌≡◌, length}
use Rattle.lan_bag.specs.steps.Setting.{AreOfLans}
use Rattle.lan_bag.proofs.setup.lists_of.Given as goal

abbrev pub invariant-loop-lan : goal.invariant-loop-lan
invariant-loop-lan l = record {
  count : length l.lists.items ≡ l.lan;
  listed : AreOfLans l.lists.items l.rows;
}
