use Rattle.std.proofs.Common.{◌≡◌, take}
use Rattle.std.specs.List.{list_all}
use Rattle.script_lines.specs.Field.{is_printable}
use Rattle.script_lines.proofs.printable.are_printable.Given as goal

-- the octets so far are looked at
abbrev pub invariant-loop-octet : goal.invariant-loop-octet
invariant-loop-octet l = l.all ≡ list_all is_printable (take l.octet-index l.octets)
