use Rattle.std.proofs.Common.{◌≡◌, ◌++◌, take}
use Rattle.std.specs.List.{AllByRecursion}
use Rattle.pdu_parts.specs.Field.{IsAddress}
use Rattle.clnp_options.specs.Titles.{entries}
use Rattle.clnp_system.proofs.sending.push_titles.Given as goal

abbrev pub invariant-loop-title : goal.invariant-loop-title
invariant-loop-title l = record {
  value : l.value.items ≡ l.fn.value.items ++ entries (take l.title-index l.titles);
  each : AllByRecursion IsAddress (take l.title-index l.titles);
}
