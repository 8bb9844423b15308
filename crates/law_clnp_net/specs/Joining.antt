-- A unit that is cut by the one system and joined by the other, beside what that one holds of others (X.233, segmentation, reassembly).
use Rattle.std.specs.Prelude.{◌≡◌, ℕ, false, List, [], ◌∷◌}
use Rattle.std.specs.List.{list_any}
use Rattle.osi_base.specs.declared.unit.Unit.{Unit as CarriedUnit}
use Rattle.osi_base.specs.declared.unit.Up.TheVariants.{Unit as Came}
use Rattle.clnp_segment.specs.Store.{Holding, Key, Partial, has_key}
use Rattle.clnp_system.specs.Node.{Frame, Node, Reaction}
use Rattle.clnp_system.specs.Receiving.{Receives}
use Rattle.clnp_system.specs.Setting.{Setting}
use Rattle.clnp_system.specs.Tables.{Tables}
use Rattle.net_world.specs.Prompt.{NoneRefused}

-- the key by which the segments of a unit are joined
abbrev pub unit_key : CarriedUnit (List ℕ) → ℕ → Key
unit_key unit id = record { source = unit.from; destination = unit.to; id = id }

-- nothing that is held has that key
abbrev pub HasNone : Key → List Partial → Type 0
HasNone key held = list_any (has_key key) held ≡ false

-- a store of at most 32 units and 262,144 octets
pub record HasMost (store : Holding) : Type 0 where
  pub units : store.units ≡ 32
  pub octets : store.octets ≡ 262144

-- nothing comes of a frame but what is then held, the others among it, and the next frames bring the unit
pub record OnlyHolds {N : Type 0} (others : List Partial) (old : Node N) (now : ℕ) (reaction : Reaction) (new : Node N) (Next : List Partial → Type 0) : Type 0 where
  pub store : Holding
  pub fewer : (key : Key) → HasNone key store.held → HasNone key others
  pub quiet : reaction ≡ record { ups = []; frames = [] }
  pub after : new ≡ record old { clock = now; store = store }
  pub next : Next store.held

-- so it is while no segment is refused for want of room; and where nothing else is held none is
pub record HoldsUnlessFull {N : Type 0} (others : List Partial) (old : Node N) (now : ℕ) (reaction : Reaction) (new : Node N) (Next : List Partial → Type 0) : Type 0 where
  pub holds : NoneRefused reaction.ups → OnlyHolds others old now reaction new Next
  pub room : others ≡ [] → HasMost old.store → NoneRefused reaction.ups

-- the unit comes up, and the others alone are held
pub record IsWhole {N : Type 0} (unit : CarriedUnit (List ℕ)) (others : List Partial) (old : Node N) (now : ℕ) (reaction : Reaction) (new : Node N) : Type 0 where
  pub store : Holding
  pub comes : reaction ≡ record { ups = Came (record { system = old.setup.system; unit = unit }) ∷ []; frames = [] }
  pub after : new ≡ record old { clock = now; store = store }
  pub others_are : store.held ≡ others

-- what comes of a frame: the unit with the last one; before that nothing, unless the segment is refused, and the next ones bring it
abbrev pub BringsBy : {N : Type 0} → (List Partial → Type 0) → CarriedUnit (List ℕ) → List Partial → List Frame → Node N → ℕ → Reaction → Node N → Type 0
BringsBy Next unit others [] old now reaction new = IsWhole unit others old now reaction new
BringsBy Next unit others (frame ∷ frames) old now reaction new = HoldsUnlessFull others old now reaction new Next

-- handed one after another to a system with that setting that holds so, these frames bring the unit, and leave it holding the others
abbrev pub Bring : {N : Type 0} → Tables N → Setting → CarriedUnit (List ℕ) → List Partial → List Frame → List Partial → Type 0
Bring tables setting unit others [] held = ⊥
Bring {N} tables setting unit others (frame ∷ frames) held =
    (old : Node N) (now : ℕ) (reaction : Reaction) (new : Node N) → old.setup ≡ setting → old.store.held ≡ held → Receives tables old now frame reaction new
    → BringsBy (Bring tables setting unit others frames) unit others frames old now reaction new
