-- What is claimed of each network of two end systems on one LAN (X.213, queue model of the network connectionless-mode service).
use Rattle.std.specs.Prelude.{ℕ, List}
use Rattle.nsap.specs.declared.port.Port.{Port}
use Rattle.lan_step.specs.declared.row.PortRow.{PortRow}
use Rattle.clnp_system.specs.Setting.{Setting}
use Rattle.law_clnp_net.specs.Calm.{IsCalmNet, titles_of}
use Rattle.law_clnp_net.specs.Reached.{Reached}
use Rattle.law_run.specs.World.{Net}

-- what is claimed from a start on is so of each such network
abbrev pub OnNets : (List (List ℕ) → Net → Type 0) → Type 0
OnNets Holds = (rows : List PortRow) (first second : Setting) (here there : Port) (begins : Net) → IsCalmNet rows first second here there → Reached rows first second begins → Holds (titles_of first second) begins
