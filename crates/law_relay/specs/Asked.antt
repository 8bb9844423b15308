-- Which lines are of a relay: users have no say at its ends.
use Rattle.std.specs.Prelude.{◌==◌, Bool, false}
use Rattle.std.specs.List.{list_any}
use Rattle.script_lines.specs.declared.line.Line.{Line}
use Rattle.script_lines.specs.declared.line.Line.TheVariants as lines
use Rattle.tp4_relay.specs.Kept.{Kept, owns}

-- a user's line about an end of a relay, or a request at a system with a relay
abbrev pub is_relayed : Kept → Line → Bool
is_relayed kept (lines.Connect system selector to called options octets) = list_any (λ row. row.system == system) kept.rows
is_relayed kept (lines.Accept end options octets) = owns kept end
is_relayed kept (lines.Refuse end octets) = owns kept end
is_relayed kept (lines.Disconnect end octets) = owns kept end
is_relayed kept (lines.Data end octets) = owns kept end
is_relayed kept (lines.Expedite end octets) = owns kept end
is_relayed kept (lines.Window end credit) = owns kept end
is_relayed kept line = false
