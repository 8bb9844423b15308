-- When a unit becomes whole (X.233, reassembly): exactly where each of its positions has come.
use Rattle.std.specs.Prelude.{◌≡◌, ◌⊎◌, ◌↔◌, ◌-◌, ◌+◌, ◌≤◌, ◌<◌, ℕ, List, [], ◌∷◌, length, if◌then◌else◌}
use Rattle.std.specs.List.{AllByRecursion}
use Rattle.clnp_segment.specs.Joining.{Has, Holds, Segment}
use Rattle.clnp_segment.specs.Store.{Holding, Key, Partial, is_key, key_of}
use Rattle.clnp_segment.specs.Units.{Came, HoldsOnly}
use Rattle.clnp_segment.specs.declared.store.Joined.{Joined}
use Rattle.clnp_segment.specs.declared.store.Joined.TheVariants as joined

-- ---- what has come

-- one of these segments brings that octet at that position
abbrev pub Bring : List Segment → ℕ → ℕ → Type 0
Bring [] position octet = ⊥
Bring (segment ∷ segments) position octet = Has segment position octet ⊎ Bring segments position octet

-- each position of the unit has come with one of these segments
abbrev pub BringAll : List ℕ → List Segment → Type 0
BringAll unit segments = (position : ℕ) → position < length unit → (octet : ℕ) × Bring segments position octet

-- of that key, that octet is held at that position
abbrev pub HoldsAt : Key → List Partial → ℕ → ℕ → Type 0
HoldsAt key [] position octet = ⊥
HoldsAt key (partial ∷ rest) position octet =
    ((key_of partial ≡ key) × Holds partial.held position octet) ⊎ HoldsAt key rest position octet

-- what is held of that key is of that unit, and is what these segments brought
pub record HoldsWhatCame (key : Key) (unit : List ℕ) (header : ℕ) (so_far : List Segment) (store : Holding) : Type 0 where
  pub only : HoldsOnly key unit header store
  pub pairs : (position octet : ℕ) → HoldsAt key store.held position octet ↔ Bring so_far position octet

-- ---- what each segment comes to

-- the segments of that key among those that came, in their order
abbrev pub of_key : Key → List Came → List Came
of_key key [] = []
of_key key (came ∷ rest) = if is_key key came.coming.key then came ∷ of_key key rest else of_key key rest

-- the answer to a segment of the unit, where these came since it was last whole, this one among them
abbrev pub AnswersBy : List ℕ → List Segment → Joined → Type 0
AnswersBy unit segments joined.Interference = ⊥
AnswersBy unit segments (joined.Whole octets) = (octets ≡ unit) × BringAll unit segments
AnswersBy unit segments joined.Full = BringAll unit segments → ⊥
AnswersBy unit segments joined.Held = BringAll unit segments → ⊥

-- what came since the unit was last whole, after a segment and its answer: one for which there is no room brings nothing
abbrev pub so_far_after : List Segment → Segment → Joined → List Segment
so_far_after so_far segment joined.Interference = []
so_far_after so_far segment (joined.Whole octets) = []
so_far_after so_far segment joined.Full = so_far
so_far_after so_far segment joined.Held = segment ∷ so_far

abbrev pub so_far_in : List Segment → List Came → List Segment
so_far_in so_far [] = so_far
so_far_in so_far (came ∷ rest) = so_far_in (so_far_after so_far came.coming.segment came.answer) rest

-- each answer in turn
abbrev pub AnswersInTurn : List ℕ → List Segment → List Came → Type 0
AnswersInTurn unit so_far [] = Unit {0}
AnswersInTurn unit so_far (came ∷ rest) =
    AnswersBy unit (came.coming.segment ∷ so_far) came.answer
    × AnswersInTurn unit (so_far_after so_far came.coming.segment came.answer) rest

-- ---- room

-- a key, and the most octets of its units
pub record Share : Type 0 where
  pub key : Key
  pub octets : ℕ

-- there are so many octets for the units of that key
abbrev pub HasShare : List Share → Key → ℕ → Type 0
HasShare [] key octets = ⊥
HasShare (share ∷ shares) key octets = ((share.key ≡ key) × (octets ≤ share.octets)) ⊎ HasShare shares key octets

abbrev pub octets_of : List Share → ℕ
octets_of [] = 0
octets_of (share ∷ shares) = share.octets + octets_of shares

-- the store has room for the whole units, one at a time of each key, of all that is held and of all that comes
pub record HasRoomFor (store : Holding) (list : List Came) : Type 0 where
  pub shares : List Share
  pub units : length shares ≤ store.units
  pub octets : octets_of shares ≤ store.octets
  pub held : AllByRecursion (λ partial. HasShare shares (key_of partial) (length partial.held.slots)) store.held
  pub coming : AllByRecursion (λ came. HasShare shares came.coming.key (came.coming.segment.total - came.coming.segment.header)) list
