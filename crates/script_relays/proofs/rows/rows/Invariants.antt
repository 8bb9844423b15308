use Rattle.std.proofs.Common.{◌≡◌, map, take}
use Rattle.law_relay.specs.Rows.{row_of}
use Rattle.script_relays.proofs.rows.rows.Given as goal

abbrev pub invariant-loop-line : goal.invariant-loop-line
invariant-loop-line l = l.rows.items ≡ map (row_of l.fn.titles) (take l.line-index l.fn.lines)
