-- Which systems a frame goes to (IEEE 802.3; ISO 9542, multicast addresses).
use Rattle.std.specs.Prelude.{ℕ, Bool, ◌&&◌, ◌||◌, ◌==◌, if◌then◌else◌, List, [], ◌∷◌}
use Rattle.std.specs.List.{list_any}
use Rattle.nsap.specs.declared.port.Port.{Port}
use Rattle.lan_step.specs.declared.row.PortRow.{PortRow}
use Rattle.lan_step.specs.Rows.{same_snpa}

-- the group of all end systems, and that of all intermediate systems
abbrev pub group_of_kind : Bool → List ℕ
group_of_kind end = if end then 9 ∷ 0 ∷ 43 ∷ 0 ∷ 0 ∷ 4 ∷ [] else 9 ∷ 0 ∷ 43 ∷ 0 ∷ 0 ∷ 5 ∷ []

-- the SNPA is that of the row, or that of the group of its kind of system
abbrev pub is_named_by : PortRow → List ℕ → Bool
is_named_by row snpa = same_snpa row.port.snpa snpa || same_snpa (group_of_kind row.end) snpa

-- the port of the row is one of that destination
abbrev pub is_one_of : Port → PortRow → Bool
is_one_of to row = row.port.lan == to.lan && is_named_by row to.snpa

-- a frame to that port goes to that system
abbrev pub goes_to : List PortRow → Port → ℕ → Bool
goes_to rows to system = list_any (λ row. row.system == system && is_one_of to row) rows
