-- Calm scripts: two end systems on one LAN, and after each line that does anything all frames are delivered before the next one (X.233, route
-- PDU function; X.214, queue model). Over the lines of a script alone.
use Rattle.std.specs.Prelude.{◌≡◌, ℕ, ◌≤◌, true, List, [], ◌∷◌, ◌++◌, length, Contains}
use Rattle.nsap.specs.Address.{covers, system_part}
use Rattle.script_lines.specs.declared.line.Line.{Line}
use Rattle.script_lines.specs.declared.line.Line.TheVariants as lines

-- the titles of the end systems, in the order of their lines
abbrev pub end_systems : List Line → List (List ℕ)
end_systems [] = []
end_systems (lines.Es name title ∷ others) = title ∷ end_systems others
end_systems (line ∷ others) = end_systems others

-- the titles of the intermediate systems
abbrev pub intermediate_systems : List Line → List (List ℕ)
intermediate_systems [] = []
intermediate_systems (lines.Is name title ∷ others) = title ∷ intermediate_systems others
intermediate_systems (line ∷ others) = intermediate_systems others

-- how many LANs there are
abbrev pub lans : List Line → List ℕ
lans [] = []
lans (lines.Lan name bound room ∷ others) = name ∷ lans others
lans (line ∷ others) = lans others

-- the system has a port on the LAN
abbrev pub HasPort : List Line → ℕ → ℕ → Type 0
HasPort script system lan = (snpa : List ℕ) × Contains script (lines.Port system lan snpa)

-- the longest prefix among the routes of a system that covers the address leads to that system
pub record IsRouted (script : List Line) (system lan other : ℕ) (address : List ℕ) : Type 0 where
  pub prefix : List ℕ
  pub stands : Contains script (lines.Route system prefix other lan)
  pub covering : covers prefix address ≡ true
  pub longest : (longer : List ℕ) (next by : ℕ) → Contains script (lines.Route system longer next by) → covers longer address ≡ true → length longer ≤ length prefix

-- two end systems, numbered 0 and 1, and no intermediate system; one LAN, on which both have a port; and each has the other's port as the
-- next one for all addresses of the other
pub record IsOneLan (script : List Line) : Type 0 where
  pub first : List ℕ
  pub second : List ℕ
  pub ends : end_systems script ≡ first ∷ second ∷ []
  pub none : intermediate_systems script ≡ []
  pub lan : ℕ
  pub lans_are : lans script ≡ lan ∷ []
  pub first_port : HasPort script 0 lan
  pub second_port : HasPort script 1 lan
  pub there : (selector : ℕ) → IsRouted script 0 lan 1 (system_part second ++ selector ∷ [])
  pub back : (selector : ℕ) → IsRouted script 1 lan 0 (system_part first ++ selector ∷ [])

-- the next line that does anything is a `settle`
abbrev pub Settles : List Line → Type 0
Settles [] = ⊥
Settles (lines.Nothing ∷ script) = Settles script
Settles (lines.Settle ∷ script) = Prim.Unit {0}
Settles (line ∷ script) = ⊥

-- after the start nothing is delivered or injected by a line of its own, no system begins again, and each other line is settled
abbrev pub IsSettledScript : List Line → Type 0
IsSettledScript [] = Prim.Unit {0}
IsSettledScript (lines.Nothing ∷ script) = IsSettledScript script
IsSettledScript (lines.Settle ∷ script) = IsSettledScript script
IsSettledScript (lines.Deliver frame system ∷ script) = ⊥
IsSettledScript (lines.Inject lan system octets ∷ script) = ⊥
IsSettledScript (lines.Restart system ∷ script) = ⊥
IsSettledScript (line ∷ script) = Settles script × IsSettledScript script

pub record IsCalmScript (script : List Line) : Type 0 where
  pub before : List Line
  pub after : List Line
  pub script_is : script ≡ before ++ lines.Start ∷ after
  pub one_lan : IsOneLan before
  pub settled : IsSettledScript after
