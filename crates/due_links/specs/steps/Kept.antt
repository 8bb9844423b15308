-- What holds of the nodes, the places of the ids and the heads of the buckets between calls.
use Rattle.std.specs.Prelude.{◌≡◌, ◌<◌, ◌≤◌, ℕ, ◌+◌, List, length, map, count_by, is_none, Option, Some, None, slice_index_or}
use Rattle.slab.specs.Slab.{Slab, get, slab_len}
use Rattle.due_links.specs.declared.bucket.Node.{Node}
use Rattle.due_links.specs.Ticks.{IsLeast, tick_at}
use Rattle.due_links.specs.steps.Links.{IsLinked}

abbrev pub tick_of : Option Node → Option ℕ
tick_of None = None
tick_of (Some n) = Some n.at

-- the tick of the id whose node stands there
abbrev pub tick_there : (ℕ → Option Node) → Option ℕ → Option ℕ
tick_there at None = None
tick_there at (Some key) = tick_of (at key)

-- the ticks of the ids
abbrev pub ticks_of : (ℕ → Option Node) → List (Option ℕ) → List (Option ℕ)
ticks_of at places = map (tick_there at) places

-- the node of an id
pub record IsNodeOf (at : ℕ → Option Node) (id key : ℕ) : Type 0 where
  pub node : Node
  pub stands : at key ≡ Some node
  pub id_is : node.id ≡ id

-- the nodes are those of the ids that have a place
pub record IsPlaced (at : ℕ → Option Node) (places : List (Option ℕ)) : Type 0 where
  pub node_of : (id key : ℕ) → slice_index_or places id None ≡ Some key → IsNodeOf at id key
  pub place_of : (key : ℕ) (n : Node) → at key ≡ Some n → slice_index_or places n.id None ≡ Some key

-- the links agree, the nodes are exactly those of the ids that are due, and there is room for each of the others
pub record IsKept (nodes : Slab Node) (places heads : List (Option ℕ)) : Type 0 where
  pub few : length places < 4294967296
  pub links : IsLinked (get nodes) heads
  pub placed : IsPlaced (get nodes) places
  pub room : slab_len nodes + count_by is_none places ≤ nodes.capacity

-- no id has a tick before that one
abbrev pub AreFrom : ℕ → List (Option ℕ) → Type 0
AreFrom from ticks = (id at : ℕ) → tick_at ticks id ≡ Some at → from ≤ at

-- the first node is that of the first id
abbrev pub IsFirstNode : List (Option ℕ) → Option Node → Type 0
IsFirstNode ticks None = (id : ℕ) → tick_at ticks id ≡ None
IsFirstNode ticks (Some n) = (n.id < length ticks) × IsLeast ticks n.id n.at

-- the first node is due at that tick, or every tick is later
abbrev pub IsFirstAt : List (Option ℕ) → ℕ → Option Node → Type 0
IsFirstAt ticks at None = AreFrom (at + 1) ticks
IsFirstAt ticks at (Some n) = IsFirstNode ticks (Some n) × (n.at ≡ at)

-- the first node is due by that tick, or every tick is later
abbrev pub IsFirstBy : List (Option ℕ) → ℕ → Option Node → Type 0
IsFirstBy ticks now None = AreFrom (now + 1) ticks
IsFirstBy ticks now (Some n) = IsFirstNode ticks (Some n) × (n.at ≤ now)
