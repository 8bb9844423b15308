use Rattle.std.proofs.Common.{◌≡◌, drop}
use Rattle.tp4_relay.specs.Kept.{kept_after}
use Rattle.tp4_relay.specs.steps.Tables.{AreNotable, IsTied, kept_of}
use Rattle.tp4_relay.proofs.table.note_from.Given as goal

abbrev pub invariant-loop-at : goal.invariant-loop-at
invariant-loop-at l = record {
  tied : IsTied l.table;
  notable : AreNotable (kept_of l.table) (drop l.at l.events);
  noted : kept_after (kept_of l.table) (drop l.at l.events) ≡ kept_after (kept_of l.initial.table) (drop l.from l.events);
}
