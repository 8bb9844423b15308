-- The LANs and the ports, as they are kept.
use Rattle.std.specs.Prelude.{◌≡◌, ℕ, ◌<◌, ◌==◌, Bool, true, false, List, [], length, get_or}
use Rattle.std.specs.List.{filter, list_any}
use Rattle.lan_step.specs.declared.row.Lan.{Lan}
use Rattle.lan_step.specs.declared.row.PortRow.{PortRow}
use Rattle.lan_step.specs.Receivers.{is_named_by, group_of_kind}

-- the LANs and the ports
pub record Setting : Type 0 where
  pub lans : List Lan
  pub rows : List PortRow

-- the ports on a LAN
abbrev pub rows_on : List PortRow → ℕ → List PortRow
rows_on rows lan = filter (λ row. row.port.lan == lan) rows

-- each list has the ports on the LAN of its place
abbrev pub AreOfLans : List (List PortRow) → List PortRow → Type 0
AreOfLans lists rows = (lan : ℕ) → lan < length lists → get_or lists lan [] ≡ rows_on rows lan

-- the answers are whether the group of end systems names some of the ports, and whether that of intermediate systems does
pub record IsListed (rows : List PortRow) (has_end has_intermediate : Bool) : Type 0 where
  pub ends : has_end ≡ list_any (λ row. is_named_by row (group_of_kind true)) rows
  pub intermediates : has_intermediate ≡ list_any (λ row. is_named_by row (group_of_kind false)) rows
