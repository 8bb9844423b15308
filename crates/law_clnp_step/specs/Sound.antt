-- What holds of the network between two calls: each PDU on its way carries a unit that was taken, within its lifetime, and
-- units of one system that are afloat have different identifiers (X.233, PDU lifetime control, data unit identifier).
use Rattle.std.specs.Prelude.{◌≡◌, ◌≢◌, ◌⊎◌, ℕ, ◌+◌, ◌<◌, ◌≤◌, true, false, nat_lt, if◌then◌else◌, List, [], ◌∷◌, length, map, Option, Some, None}
use Rattle.std.specs.List.{Contains, AllByRecursion}
use Rattle.nsap.specs.Address.{is_same_system}
use Rattle.nsap.specs.declared.port.Port.{Port}
use Rattle.osi_base.specs.declared.unit.Unit.{Unit as CarriedUnit}
use Rattle.osi_base.specs.Link.{Link}
use Rattle.clnp_header.specs.declared.pdu.Pdu.{Pdu}
use Rattle.clnp_header.specs.declared.pdu.SegmentPart.{SegmentPart}
use Rattle.clnp_header.specs.Writing.{header_length}
use Rattle.clnp_segment.specs.Joining.{IsOf}
use Rattle.clnp_segment.specs.Store.{Partial}
use Rattle.clnp_system.specs.Deriving.{Carries, IsRun}
use Rattle.clnp_system.specs.Identifiers.{begins_half}
use Rattle.clnp_system.specs.Node.{Node, Frame}
use Rattle.clnp_system.specs.Setting.{Setting, bound_of, is_own_system, port_on}
use Rattle.law_clnp_step.specs.Network.{Network}

-- it is one of the list
abbrev pub IsAmong : {A : Type 0} → A → List A → Type 0
IsAmong one [] = ⊥
IsAmong one (other ∷ others) = (one ≡ other) ⊎ IsAmong one others

-- ---- the systems

-- no two systems have one number, or titles of one system
abbrev pub AreApart : Setting → Setting → Type 0
AreApart one other = (one.system ≢ other.system) × (is_same_system one.title other.title ≡ false)

abbrev pub AreDistinct : List Setting → Type 0
AreDistinct [] = Unit {0}
AreDistinct (one ∷ others) = AllByRecursion (AreApart one) others × AreDistinct others

-- a frame on the LAN of a port comes at most as late as the system takes off its lifetime
abbrev pub IsBounded : (Port → ℕ) → Setting → Type 0
IsBounded bound setting = (own : Port) (to : Port) → port_on setting to.lan ≡ Some own → bound to ≤ bound_of setting to.lan

-- the systems of a network: different ones, with its lifetime, over a carrier of these bounds
pub record IsPeopled (bound : Port → ℕ) (life : ℕ) (settings : List Setting) : Type 0 where
  pub distinct : AreDistinct settings
  pub lives : AllByRecursion (λ setting. setting.life ≡ life) settings
  pub bounds : AllByRecursion (IsBounded bound) settings

-- the clock of a system is not ahead, and what it holds is not past its time
pub record IsTimely {N : Type 0} (clock : ℕ) (node : Node N) : Type 0 where
  pub clock_is : node.clock ≤ clock
  pub held : AllByRecursion (λ unit. clock ≤ unit.deadline) node.store.held

-- a system that was made and did nothing yet: its clock is 0, the identifiers begin at 0, and it holds nothing
pub record IsNew {N : Type 0} (node : Node N) : Type 0 where
  pub clock : node.clock ≡ 0
  pub next_id : node.next_id ≡ 0
  pub held : node.store.held ≡ []

-- ---- what is afloat

-- a unit that was taken: when, the identifier that was given to it where it may be cut, and the length of its header
pub record Origin : Type 0 where
  pub tick : ℕ
  pub unit : CarriedUnit (List ℕ)
  pub id : Option ℕ
  pub header : ℕ

abbrev pub entry_of : Origin → ℕ × CarriedUnit (List ℕ)
entry_of origin = (origin.tick, origin.unit)

-- the data of a PDU: the unit, or a run of it
abbrev pub IsPart : Option SegmentPart → Pdu → Origin → Type 0
IsPart None pdu origin = (origin.id ≡ None) × (pdu.body ≡ origin.unit.octets)
IsPart (Some part) pdu origin =
    (origin.id ≡ Some part.id) × (part.total ≡ origin.header + length origin.unit.octets) × (header_length pdu ≡ origin.header)
    × IsRun origin.unit.octets pdu.body part.offset

-- a PDU sent at that tick carries a unit, whose age so far and its lifetime are within the initial lifetime
pub record IsCarrying (origins : List Origin) (life tick : ℕ) (pdu : Pdu) : Type 0 where
  pub origin : Origin
  pub there : IsAmong origin origins
  pub source : pdu.source ≡ origin.unit.from
  pub destination : pdu.destination ≡ origin.unit.to
  pub age : tick + pdu.lifetime ≤ origin.tick + life
  pub part : IsPart pdu.segment pdu origin

-- a DT PDU in a frame sent at that tick does, where its lifetime has not passed
abbrev pub IsCarried : List Origin → ℕ → ℕ → ℕ × Frame → Type 0
IsCarried origins life clock entry = Carries entry.1 (λ pdu. clock ≤ entry.0 + pdu.lifetime → IsCarrying origins life entry.0 pdu)

-- two units of one system have different identifiers
abbrev pub HaveDifferentIds : Origin → Origin → Type 0
HaveDifferentIds one other = is_same_system one.unit.from other.unit.from ≡ true → (id : ℕ) → one.id ≡ Some id → other.id ≢ Some id

abbrev pub AreTellable : List Origin → Type 0
AreTellable [] = Unit {0}
AreTellable (origin ∷ others) = AllByRecursion (HaveDifferentIds origin) others × AreTellable others

-- ---- what a system knows of what is afloat

-- the last tick at which an identifier of that one's half was given
abbrev pub half_given : {N : Type 0} → Node N → ℕ → Option ℕ
half_given node id = if nat_lt id 32768 then node.low else node.high

-- an identifier given at that tick: its half was given at that tick or later, and it lies before the next one where its half goes on
pub record IsNumbered {N : Type 0} (node : Node N) (tick id : ℕ) : Type 0 where
  pub fits : id < 65536
  pub since : ℕ
  pub given : half_given node id ≡ Some since
  pub sooner : tick ≤ since
  pub below : begins_half node.next_id ≡ false → nat_lt id 32768 ≡ nat_lt node.next_id 32768 → id < node.next_id

abbrev pub IsNumberedBy : {N : Type 0} → Node N → Origin → Type 0
IsNumberedBy node origin = is_own_system node.setup origin.unit.from ≡ true → (id : ℕ) → origin.id ≡ Some id → IsNumbered node origin.tick id

-- what is held of a unit is of a unit afloat, and is given up when its lifetime has passed at the latest
pub record IsHeldFor (origins : List Origin) (life : ℕ) (held : Partial) : Type 0 where
  pub origin : Origin
  pub there : IsAmong origin origins
  pub source : held.source ≡ origin.unit.from
  pub destination : held.destination ≡ origin.unit.to
  pub id : origin.id ≡ Some held.id
  pub is_of : IsOf origin.unit.octets origin.header held.held
  pub deadline : held.deadline ≤ origin.tick + life

pub record Knows {N : Type 0} (origins : List Origin) (life : ℕ) (node : Node N) : Type 0 where
  pub next_fits : node.next_id < 65536
  pub numbered : AllByRecursion (IsNumberedBy node) origins
  pub held : AllByRecursion (IsHeldFor origins life) node.store.held

-- ---- the whole

abbrev pub settings_of : {N : Type 0} → List (Node N) → List Setting
settings_of nodes = map (λ node. node.setup) nodes

-- also after octets were injected; at most 40,000 units are afloat
pub record IsSteady {C N : Type 0} (link : C → Link Port) (net : Network C N) : Type 0 where
  pub quiet : (link net.link).waiting ≡ []
  pub low : (link net.link).clock ≤ 4000000000
  pub limit : net.floating.limit ≡ 40000
  pub peopled : IsPeopled (link net.link).bound net.life (settings_of net.nodes)
  pub timely : AllByRecursion (IsTimely (link net.link).clock) net.nodes
  pub past : AllByRecursion (λ entry. entry.0 ≤ (link net.link).clock) net.floating.entries
  pub young : AllByRecursion (λ entry. (link net.link).clock ≤ entry.0 + net.life) net.floating.entries
  pub none : (link net.link).honest ≡ true → net.strays ≡ 0

-- as long as nothing was injected
pub record IsTraced {C N : Type 0} (link : C → Link Port) (net : Network C N) (origins : List Origin) : Type 0 where
  pub entries : net.floating.entries ≡ map entry_of origins
  pub carried : (entry : ℕ × Frame) → Contains (link net.link).floating entry → IsCarried origins net.life (link net.link).clock entry
  pub tellable : AreTellable origins
  pub known : AllByRecursion (Knows origins net.life) net.nodes

pub record IsSound {C N : Type 0} (link : C → Link Port) (net : Network C N) : Type 0 where
  pub steady : IsSteady link net
  pub traced : (link net.link).honest ≡ true → (origins : List Origin) × IsTraced link net origins
