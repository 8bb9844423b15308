-- What the parts of a pump leave.
use Rattle.std.specs.Prelude.{◌≡◌, ℕ, ◌<◌, ◌≤◌, ◌||◌, Bool, List, [], ◌∷◌, ◌++◌, length, get_or, drop, slice_get, Option, Some, None}
use Rattle.std.specs.List.{AllByRecursion}
use Rattle.script_journal.specs.declared.event.Event.{Event}
use Rattle.script_journal.specs.declared.event.Event.TheVariants as events
use Rattle.tp4_conn.specs.declared.call.ConnectRequest.{ConnectRequest}
use Rattle.tp4_conn.specs.declared.call.UserCall.{UserCall}
use Rattle.tp4_conn.specs.End.{IsSized}
use Rattle.tp4_conn.specs.Calls.{IsCall}
use Rattle.tp4_relay.specs.declared.pair.Heading.{Heading}
use Rattle.tp4_relay.specs.declared.pair.Heading.TheVariants.{On, Back}
use Rattle.tp4_relay.specs.declared.pair.Pair.{Pair}
use Rattle.tp4_relay.specs.declared.pair.Phase.TheVariants.{Open}
use Rattle.tp4_relay.specs.declared.reaction.Reaction.{Reaction}
use Rattle.tp4_relay.specs.declared.reaction.Reaction.TheVariants.{Nothing, Begin, Ask}
use Rattle.tp4_relay.specs.declared.row.RelayRow.{RelayRow}
use Rattle.tp4_relay.specs.declared.unit.MarkedUnit.{MarkedUnit}
use Rattle.tp4_relay.specs.Allowed.{AreAllowed, AreLine}
use Rattle.tp4_relay.specs.Kept.{Kept, kept_after}
use Rattle.tp4_relay.specs.Pump.{Balances, Does, Parts, Reacts, ServesAt, ServesEach, ServesPair, Submits, far_end, unit_call, way_of}
use Rattle.tp4_relay.specs.Service.{IsAside}
use Rattle.tp4_relay.specs.steps.Making.{AreMadeBy}
use Rattle.tp4_relay.specs.steps.Tables.{IsTidy}

-- the event changes nothing of what is kept
abbrev pub IsIdle : Event → Type 0
IsIdle (events.Connect asked) = Unit {0}
IsIdle (events.No cause) = Unit {0}
IsIdle event = IsAside event

-- a call that may be made
abbrev pub CanDo : (ℕ → Type 0) → Reaction → Type 0
CanDo has Nothing = Unit {0}
CanDo has (Begin inbound system request) = has system × IsSized request.options
CanDo has (Ask end call) = IsCall call

-- the call by which the first of these units is submitted
abbrev pub first_call : List MarkedUnit → Option UserCall
first_call [] = None
first_call (unit ∷ units) = Some (unit_call unit)

-- the pair, with these units left to go this way
abbrev pub with_left : Heading → List MarkedUnit → Pair → Pair
with_left On left pair = record pair { on = record { waiting = left; lowered = pair.on.lowered } }
with_left Back left pair = record pair { back = record { waiting = left; lowered = pair.back.lowered } }

-- how many units are left to go this way
abbrev pub left_count : Heading → Option Pair → ℕ
left_count heading None = 0
left_count heading (Some pair) = length (way_of heading pair).waiting

-- the pair at the place is open
abbrev pub IsOpenAt : List Pair → ℕ → Type 0
IsOpenAt pairs place = (pair : Pair) × (slice_get pairs place ≡ Some pair) × (pair.phase ≡ Open)

-- what a call told, and what is kept then
pub record Asked {S : Type 0} (calls : S → ℕ → UserCall → Bool → List Event → S → Type 0) (old : S) (kept : Kept) (end : ℕ) (call : UserCall) (done : Bool) (made : List Event) (new : S) (last : Kept) : Type 0 where
  pub called : calls old end call done made new
  pub last_is : last ≡ kept_after kept made
  pub allowed : AreAllowed kept made

module _ {S : Type 0} (connects : S → ℕ → ConnectRequest → Bool → List Event → S → Type 0) (calls : S → ℕ → UserCall → Bool → List Event → S → Type 0) where
  -- what was done about an event
  pub record Did (has : S → ℕ → Type 0) (ends : S → ℕ) (old : S) (kept : Kept) (to_do : Reaction) (done : Bool) (made : List Event) (new : S) (last : Kept) : Type 0 where
    pub does : Does connects calls old to_do done made new
    pub last_is : last ≡ kept_after kept made
    pub made_are : AreMadeBy (ends old) kept made
    pub named : last.named ≤ ends new
    pub more_ends : ends old ≤ ends new
    pub same_has : (other : ℕ) → has old other → has new other

  -- both ends of the pair at a place were disconnected
  pub record Parted (old : S) (kept : Kept) (place : ℕ) (done : Bool) (made : List Event) (new : S) (last : Kept) : Type 0 where
    pub parts : (pair : Pair) → slice_get kept.pairs place ≡ Some pair → Parts connects calls old pair done made new
    pub last_is : last ≡ kept_after kept made
    pub allowed : AreAllowed kept made

  -- one way of the pair at a place was balanced
  pub record Balanced (old : S) (kept : Kept) (place : ℕ) (heading : Heading) (done : Bool) (made : List Event) (new : S) (last : Kept) : Type 0 where
    pub balances : (pair : Pair) → slice_get kept.pairs place ≡ Some pair → Balances connects calls old kept.rules heading pair (way_of heading pair).waiting done made new
    pub last_is : last ≡ kept_after kept made
    pub allowed : AreAllowed kept made

  -- one way of the pair at a place was served, or both
  pub record ServedWay (old : S) (kept : Kept) (place : ℕ) (heading : Heading) (done : Bool) (made : List Event) (new : S) (last : Kept) : Type 0 where
    pub serves : ServesAt connects calls old kept place heading done made new
    pub last_is : last ≡ kept_after kept made
    pub allowed : AreAllowed kept made

  pub record ServedPair (old : S) (kept : Kept) (place : ℕ) (done : Bool) (made : List Event) (new : S) (last : Kept) : Type 0 where
    pub serves : ServesPair connects calls old kept place done made new
    pub last_is : last ≡ kept_after kept made
    pub allowed : AreAllowed kept made

  -- what waited for one way of the pair at a place was submitted, but for what is left
  pub record Submitted (old : S) (kept : Kept) (place : ℕ) (heading : Heading) (done : Bool) (made : List Event) (new : S) (last : Kept) : Type 0 where
    pub pair : Pair
    pub left : List MarkedUnit
    pub is : slice_get kept.pairs place ≡ Some pair
    pub submits : Submits connects calls old (far_end heading pair) (way_of heading pair).waiting done made new left
    pub then_is : slice_get last.pairs place ≡ Some (with_left heading left pair)
    pub last_is : last ≡ kept_after kept made
    pub allowed : AreAllowed kept made

  -- so far
  pub record Submitting (first : S) (kept : Kept) (place : ℕ) (heading : Heading) (before : List Event) (now : S) (current : Kept) (seen : List Event) (done : Bool) : Type 0 where
    pub pair : Pair
    pub left : List MarkedUnit
    pub taken : List Event
    pub is : slice_get kept.pairs place ≡ Some pair
    pub is_open : pair.phase ≡ Open
    pub told : seen ≡ before ++ taken
    pub goes_on : (others : Bool) (more : List Event) (new : S) (end_left : List MarkedUnit) → Submits connects calls now (far_end heading pair) left others more new end_left
        → Submits connects calls first (far_end heading pair) (way_of heading pair).waiting (done || others) (taken ++ more) new end_left
    pub now_is : slice_get current.pairs place ≡ Some (with_left heading left pair)
    pub current_is : current ≡ kept_after kept taken
    pub allowed : AreAllowed kept taken

  -- pairs at these places were served so far
  pub record ServingEach (first : S) (kept : Kept) (places : List ℕ) (before : List Event) (at : ℕ) (now : S) (current : Kept) (seen : List Event) (done : Bool) : Type 0 where
    pub taken : List Event
    pub told : seen ≡ before ++ taken
    pub goes_on : (others : Bool) (more : List Event) (new : S) (last : Kept) → ServesEach connects calls now current (drop at places) others more new last
        → ServesEach connects calls first kept places (done || others) (taken ++ more) new last
    pub current_is : current ≡ kept_after kept taken
    pub allowed : AreAllowed kept taken
    pub bounds : (k : ℕ) → k < length places → get_or places k 0 < length current.pairs

  -- of the events of a line so far
  pub record Reacting (has : S → ℕ → Type 0) (ends : S → ℕ) (first : S) (kept : Kept) (line : List Event) (at : ℕ) (now : S) (current : Kept) (seen : List Event) (done : Bool) : Type 0 where
    pub made : List Event
    pub read : Kept  -- what is kept of the events of the line alone
    pub told : seen ≡ line ++ made
    pub current_is : current ≡ kept_after read made
    pub reaches : kept_after read (drop at line) ≡ kept_after kept line
    pub tidy : IsTidy read
    pub made_are : AreMadeBy (ends first) read made
    pub left : AreLine (ends first) read (drop at line)
    pub goes_on : (others : Bool) (more : List Event) (new : S) (last : Kept) → Reacts connects calls now current (drop at line) others more new last
        → Reacts connects calls first kept line (done || others) (made ++ more) new last
    pub has_rows : AllByRecursion (λ (row : RelayRow). has now row.system) current.rows
    pub named : current.named ≤ ends now
    pub more_ends : ends first ≤ ends now

  pub record Reacted (old : S) (kept : Kept) (line : List Event) (done : Bool) (made : List Event) (new : S) (last : Kept) : Type 0 where
    pub reacts : Reacts connects calls old kept line done made new last
    pub last_is : last ≡ kept_after kept (line ++ made)
    pub allowed : AreAllowed kept (line ++ made)

  pub record ServedEach (old : S) (kept : Kept) (places : List ℕ) (done : Bool) (made : List Event) (new : S) (last : Kept) : Type 0 where
    pub serves : ServesEach connects calls old kept places done made new last
    pub last_is : last ≡ kept_after kept made
    pub allowed : AreAllowed kept made
