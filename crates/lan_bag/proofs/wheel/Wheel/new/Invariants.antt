use Rattle.std.proofs.Common.{◌≡◌, length, map, replicate, []}
use Rattle.lan_bag.proofs.wheel.Wheel.new.Given as goal

abbrev pub invariant-loop : goal.invariant-loop
invariant-loop l = record {
  capacity : l.lists.capacity ≡ 17;
  count : length l.lists.items ≡ l.counter;
  empty : map (λ list. list.items) l.lists.items ≡ replicate l.counter [];
}
