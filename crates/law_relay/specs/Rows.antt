-- The rows of the relays of a set-up.
use Rattle.std.specs.Prelude.{ℕ, List, [], map, get_or}
use Rattle.script_setup.specs.SetUp.{SetUp, titles_of}
use Rattle.script_setup.specs.declared.relay.RelayLine.{RelayLine}
use Rattle.tp4_relay.specs.declared.row.RelayRow.{RelayRow}
use Rattle.tp4_world.specs.Run.{transport_address}

-- from the one system to the transport address of the other, by the titles of the systems
abbrev pub row_of : List (List ℕ) → RelayLine → RelayRow
row_of titles line = record {
  system = line.system;
  selector = line.selector;
  to = transport_address (get_or titles line.to []);
  to_selector = line.called;
}

-- in the order of their lines
abbrev pub rows_of : SetUp → List RelayRow
rows_of setup = map (row_of (titles_of setup)) setup.relays
