use Rattle.std.proofs.Common.{◌≡◌, length, replicate, None}
use Rattle.tp4_flow.proofs.reassembling.Window.new.Given as goal

abbrev pub invariant-loop : goal.invariant-loop
invariant-loop l = record {
  capacity : l.places.capacity ≡ l.room;
  empty : l.places.items ≡ replicate l.counter None;
  count : length l.places.items ≡ l.counter;
}
