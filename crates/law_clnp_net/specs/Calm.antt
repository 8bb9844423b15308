-- Two end systems on one LAN, each of which has the other's port as the next one for all addresses of the other (X.233, route PDU function).
use Rattle.std.specs.Prelude.{◌≡◌, ◌⊎◌, ℕ, ◌≤◌, true, false, List, [], ◌∷◌, ◌++◌, Some}
use Rattle.nsap.specs.Address.{is_same_system, system_part}
use Rattle.nsap.specs.declared.port.Hop.{Hop}
use Rattle.nsap.specs.declared.port.Port.{Port}
use Rattle.lan_step.specs.Rows.{same_snpa}
use Rattle.lan_step.specs.declared.row.PortRow.{PortRow}
use Rattle.clnp_route.specs.Routes.{next_hop}
use Rattle.clnp_system.specs.Setting.{Setting, bound_of, is_group}

-- the system of that number is an end system with that port alone
pub record IsEndAt (setting : Setting) (system : ℕ) (port : Port) : Type 0 where
  pub system_is : setting.system ≡ system
  pub end : setting.end ≡ true
  pub ports : setting.ports ≡ port ∷ []
  pub single : is_group port.snpa ≡ false

-- by its rows a system sends to all addresses of the other by that port, where what it sends lives as long as a frame may float
pub record LeadsTo (setting other : Setting) (to : Port) : Type 0 where
  pub routed : (selector : ℕ) → (hop : Hop) × (next_hop setting.rows (system_part other.title ++ selector ∷ []) ≡ Some hop) × (hop.port ≡ to)
  pub lives : bound_of other to.lan ≤ setting.life

-- the port of an end system, as the LANs have it
abbrev pub end_row : ℕ → Port → PortRow
end_row system port = record { system = system; end = true; port = port }

-- the two, in one order or the other
abbrev pub AreBoth : {A : Type 0} → A → A → List A → Type 0
AreBoth first second list = (list ≡ first ∷ second ∷ []) ⊎ (list ≡ second ∷ first ∷ [])

-- the systems 0 and 1, of different titles, have these ports on one LAN, no other port is there, and each leads to the other
pub record IsCalmNet (rows : List PortRow) (first second : Setting) (here there : Port) : Type 0 where
  pub first_at : IsEndAt first 0 here
  pub second_at : IsEndAt second 1 there
  pub apart : is_same_system first.title second.title ≡ false
  pub lan : here.lan ≡ there.lan
  pub snpas : same_snpa here.snpa there.snpa ≡ false
  pub ports : AreBoth (end_row 0 here) (end_row 1 there) rows
  pub leads : LeadsTo first second there
  pub back : LeadsTo second first here

-- the titles of the two systems, by their numbers
abbrev pub titles_of : Setting → Setting → List (List ℕ)
titles_of first second = first.title ∷ second.title ∷ []
