-- What holds of cutting and joining (X.233, segmentation, reassembly).
use Rattle.std.specs.Prelude.{◌≡◌, ℕ, ◌≤◌, Bool, List, [], Option, Some, ◌≢◌, take}
use Rattle.std.specs.List.{AllByRecursion, concat}
use Rattle.clnp_header.specs.declared.pdu.Pdu.{Pdu}
use Rattle.clnp_header.specs.declared.pdu.SegmentPart.{SegmentPart}
use Rattle.clnp_header.specs.Writing.{IsWritable, header_length}
use Rattle.clnp_segment.specs.Cutting.{Pieces, Cuts, MayGo}
use Rattle.clnp_segment.specs.Joining.{IsOf, IsSegmentOf, Segment, Held, Clash, Together, IsUnit}
use Rattle.clnp_segment.specs.Store.{Coming, Holding, Key, Takes, key_of, AreApart, coming_of, MayCome, Expires}
use Rattle.clnp_segment.specs.declared.store.Joined.{Joined}
use Rattle.clnp_segment.specs.declared.store.Joined.TheVariants as joined
use Rattle.clnp_segment.specs.Units.{Came, TakesAll, HoldsOnly, IsOnly, AnswersOnly, segment_in, IsOfUnit}
use Rattle.clnp_segment.specs.Whole.{HoldsWhatCame, of_key, so_far_in, AnswersInTurn, HasRoomFor}
use Rattle.pdu_parts.specs.Front.{BeginsWith}
use Rattle.clnp_header.specs.declared.pdu.PduRef.{PduRef}
use Rattle.clnp_header.specs.Grammar.{IsPdu}
use Rattle.clnp_header.specs.Values.{value_of}
use Rattle.clnp_segment.specs.Delivery.{IsInitial, AreAllOf, IsReadAs, HasCome, IsPieceOf, key_in, ComesWhole}
use Rattle.clnp_segment.specs.declared.store.Expired.{Expired}

-- ---- cutting

-- a PDU is cut for a room in one way
abbrev pub OneCutting : Type 0
OneCutting = (pdu : Pdu) (room : ℕ) (part : Option SegmentPart) (pdus others : List Pdu) → Cuts pdu room part (Some pdus)
    → Cuts pdu room part (Some others) → pdus ≡ others

-- the runs are the data, one after another
abbrev pub PiecesJoin : Type 0
PiecesJoin = (room header : ℕ) (octets : List ℕ) (pieces : List (List ℕ)) → Pieces room header octets pieces → concat pieces ≡ octets

-- the pieces of a PDU that the grammar allows, with a header of 254 octets at most, are alike and fit the room
abbrev pub CutsWritable : Type 0
CutsWritable = (pdu : Pdu) (room : ℕ) (pdus : List Pdu) → 264 ≤ room → IsWritable pdu → header_length pdu ≤ 254
    → Cuts pdu room pdu.segment (Some pdus) → AllByRecursion (MayGo room) pdus

-- what a segment of a unit is cut into are segments of the unit, so however often it is cut
abbrev pub CutsAlike : Type 0
CutsAlike = (pdu : Pdu) (part : SegmentPart) (room : ℕ) (pdus : List Pdu) (unit : List ℕ) (header : ℕ) → pdu.segment ≡ Some part
    → IsSegmentOf unit header (segment_in pdu part)
    → Cuts pdu room (Some part) (Some pdus) → AllByRecursion (IsOfUnit unit header) pdus

-- ---- joining

-- segments of one unit never clash, stay of that unit, and come to it where they fill it
pub record JoinsUnits : Type 0 where
  pub no_clash : (unit : List ℕ) (header : ℕ) (held : Held) (segment : Segment) → IsOf unit header held → IsSegmentOf unit header segment
      → Clash held segment → ⊥
  pub kept : (unit : List ℕ) (header : ℕ) (old : Held) (segment : Segment) (new : Held) → IsOf unit header old → IsSegmentOf unit header segment
      → Together old segment new
      → IsOf unit header new
  pub whole : (unit octets : List ℕ) (header : ℕ) (held : Held) → IsOf unit header held → IsUnit held octets → octets ≡ unit

-- segments of a unit, in any order and with any repeats, among segments of any other keys: none clashes, and nothing is whole but the unit
abbrev pub JoinsAll : Type 0
JoinsAll = (key : Key) (unit : List ℕ) (header : ℕ) (store after : Holding) (list : List Came) → HoldsOnly key unit header store
    → AllByRecursion (IsOnly key unit header) list
    → TakesAll store list after → AllByRecursion (λ came. came.coming.key ≡ key → AnswersOnly unit came.answer) list × HoldsOnly key unit header after

-- segments of a unit, in any order and with any repeats, among segments of any other keys: the answer to each is Whole with
-- the unit exactly where with it each position has come since the unit was last whole, and else it is Held or Full
abbrev pub WholeInTurn : Type 0
WholeInTurn = (key : Key) (unit : List ℕ) (header : ℕ) (so_far : List Segment) (store after : Holding) (list : List Came) → AreApart store.held
    → HoldsWhatCame key unit header so_far store → AllByRecursion (IsOnly key unit header) list → TakesAll store list after
    → AnswersInTurn unit so_far (of_key key list) × HoldsWhatCame key unit header (so_far_in so_far (of_key key list)) after

-- where there is room, nothing is Full
abbrev pub NoneIsFull : Type 0
NoneIsFull = (store after : Holding) (list : List Came) → AreApart store.held → HasRoomFor store list → TakesAll store list after
    → AllByRecursion (λ came. came.answer ≡ joined.Full → ⊥) list

-- pieces of an initial PDU, in any order and with any repeats, among segments of any other keys: once all pieces of it have
-- come, its data were whole with one of them, and all before it were held; and each answer is as `AnswersInTurn` says
abbrev pub JoinsWhatWasCut : Type 0
JoinsWhatWasCut = (pdu : Pdu) (part : SegmentPart) (pdus : List Pdu) (store after : Holding) (list : List Came) → IsInitial pdu part → AreAllOf pdu pdus
    → AreApart store.held → AllByRecursion (λ partial. key_of partial ≢ key_in pdu part) store.held → HasRoomFor store list
    → AllByRecursion (IsPieceOf (key_in pdu part) pdu) list → AllByRecursion (HasCome list) pdus → TakesAll store list after
    → ComesWhole (key_in pdu part) pdu.body list × AnswersInTurn pdu.body [] (of_key (key_in pdu part) list)

-- ---- one answer

-- the answer and what is then held follow from what was held, the tick and the segment
abbrev pub OneAnswer : Type 0
OneAnswer = (store : Holding) (now : ℕ) (coming : Coming) (answer other : Joined) (after more : Holding) → Takes store now coming answer after
    → Takes store now coming other more
    → (answer ≡ other) × (after ≡ more)

-- what expires and what is then held follow from what was held and the tick
abbrev pub OneExpiry : Type 0
OneExpiry = (store : Holding) (now : ℕ) (expired other : Option Expired) (after more : Holding) → Expires store now expired after → Expires store now other more
    → (expired ≡ other) × (after ≡ more)

-- ---- a PDU that was read

-- a PDU that was read, with the header that is lent, ends within the initial PDU where it has a segmentation part
abbrev pub ReadMayCome : Type 0
ReadMayCome = (octets rest : List ℕ) (pdu : PduRef) (part : SegmentPart) → BeginsWith IsPdu octets (value_of pdu) rest
    → pdu.header.now ≡ take (header_length (value_of pdu)) octets
    → pdu.segment ≡ Some part → MayCome pdu

-- what is read, with the header that is lent, and handed on is the PDU that it is the value of
abbrev pub ReadIsHandedOn : Type 0
ReadIsHandedOn = (octets rest : List ℕ) (read : PduRef) (part : SegmentPart) (left : ℕ) (reportable : Bool) → BeginsWith IsPdu octets (value_of read) rest
    → read.header.now ≡ take (header_length (value_of read)) octets → read.segment ≡ Some part
    → IsReadAs (value_of read) (coming_of read part left reportable)
