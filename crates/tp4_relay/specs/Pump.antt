-- What one pump of a relay does: about each event of the line in order, and then for each open pair in the order in which they were joined, from the
-- inbound end to the outbound end and back (X.214, service primitives).
use Rattle.std.specs.Prelude.{◌≡◌, ◌⊎◌, ℕ, ◌||◌, Bool, true, false, nat_lt, List, [], ◌∷◌, ◌++◌, length, slice_get, Option, Some, None}
use Rattle.script_journal.specs.declared.event.Event.{Event}
use Rattle.script_journal.specs.declared.event.Event.TheVariants as events
use Rattle.script_journal.specs.declared.event.Request.{Request}
use Rattle.tp4_conn.specs.declared.call.ConnectRequest.{ConnectRequest}
use Rattle.tp4_conn.specs.declared.call.UserCall.{UserCall}
use Rattle.tp4_conn.specs.declared.call.UserCall.TheVariants as asks
use Rattle.tp4_conn.specs.declared.timers.Timers.{Timers}
use Rattle.tp4_relay.specs.declared.pair.Heading.{Heading}
use Rattle.tp4_relay.specs.declared.pair.Heading.TheVariants.{On, Back}
use Rattle.tp4_relay.specs.declared.pair.Pair.{Pair}
use Rattle.tp4_relay.specs.declared.pair.Way.{Way}
use Rattle.tp4_relay.specs.declared.reaction.Reaction.{Reaction}
use Rattle.tp4_relay.specs.declared.reaction.Reaction.TheVariants.{Nothing, Begin, Ask}
use Rattle.tp4_relay.specs.declared.unit.MarkedUnit.{MarkedUnit}
use Rattle.tp4_relay.specs.declared.unit.MarkedUnit.TheVariants.{Normal, Expedited}
use Rattle.tp4_relay.specs.Kept.{Kept, kept_after, noted}
use Rattle.tp4_relay.specs.Pairs.{is_open, open_places}
use Rattle.tp4_relay.specs.Reaction.{reaction}

-- the call by which a unit is submitted
abbrev pub unit_call : MarkedUnit → UserCall
unit_call (Normal octets) = asks.Normal octets
unit_call (Expedited octets) = asks.Urgent octets

-- of the pair: what goes this way, where it was shown, and where it is submitted
abbrev pub way_of : Heading → Pair → Way
way_of On pair = pair.on
way_of Back pair = pair.back

abbrev pub near_end : Heading → Pair → ℕ
near_end On pair = pair.inbound
near_end Back pair = pair.outbound

abbrev pub far_end : Heading → Pair → ℕ
far_end On pair = pair.outbound
far_end Back pair = pair.inbound

-- the credit that is to be set now: 0 where units wait and it is not lowered, the first credit where none wait and it is
abbrev pub credit_now : ℕ → Bool → List MarkedUnit → Option ℕ
credit_now first true [] = Some first
credit_now first false [] = None
credit_now first true (unit ∷ units) = None
credit_now first false (unit ∷ units) = Some 0

module _ {S : Type 0} (connects : S → ℕ → ConnectRequest → Bool → List Event → S → Type 0) (calls : S → ℕ → UserCall → Bool → List Event → S → Type 0) where
  -- ---- an event of the line

  -- a request that is done joins the two ends; where it is not, the inbound end is refused
  abbrev pub BeginsBy : S → ℕ → ℕ → ConnectRequest → Bool → Bool → List Event → S → Type 0
  BeginsBy old inbound system request true done made new =
      (told : List Event) × (asked : Request) × (rest : List Event) × connects old system request true told new × (told ≡ events.Connect asked ∷ rest)
      × (made ≡ told ++ events.Joined inbound asked.end ∷ []) × (done ≡ true)
  BeginsBy old inbound system request false done made new =
      (mid : S) × (told : List Event) × (later : List Event) × connects old system request false told mid × calls mid inbound (asks.Refuse []) done later new × (made ≡ told ++ later)

  abbrev pub Does : S → Reaction → Bool → List Event → S → Type 0
  Does old Nothing done made new = (done ≡ false) × (made ≡ []) × (new ≡ old)
  Does old (Begin inbound system request) done made new = (taken : Bool) × BeginsBy old inbound system request taken done made new
  Does old (Ask end call) done made new = calls old end call done made new

  -- each event in order; whether a call was done, what is told, and what is kept then
  abbrev pub Reacts : S → Kept → List Event → Bool → List Event → S → Kept → Type 0
  Reacts old kept [] done made new last = (done ≡ false) × (made ≡ []) × (new ≡ old) × (last ≡ kept)
  Reacts old kept (event ∷ line) done made new last =
      (mid : S) × (one : Bool) × (others : Bool) × (here : List Event) × (rest : List Event)
      × Does old (reaction kept event) one here mid × Reacts mid (kept_after (noted kept event) here) line others rest new last
      × (done ≡ (one || others)) × (made ≡ here ++ rest)

  -- ---- an open pair

  -- units that wait are submitted in order, until none is left or one is refused; those that are left
  abbrev pub Submits : S → ℕ → List MarkedUnit → Bool → List Event → S → List MarkedUnit → Type 0
  Submits old end [] done made new left = (done ≡ false) × (made ≡ []) × (new ≡ old) × (left ≡ [])
  Submits old end (unit ∷ units) done made new left =
      (calls old end (unit_call unit) false made new × (done ≡ false) × (left ≡ unit ∷ units))
      ⊎ ((mid : S) × (others : Bool) × (here : List Event) × (rest : List Event)
      × calls old end (unit_call unit) true here mid × Submits mid end units others rest new left × (done ≡ true) × (made ≡ here ++ rest))

  -- both ends are disconnected, the inbound one first
  abbrev pub Parts : S → Pair → Bool → List Event → S → Type 0
  Parts old pair done made new =
      (mid : S) × (one : Bool) × (other : Bool) × (here : List Event) × (rest : List Event)
      × calls old pair.inbound (asks.Disconnect []) one here mid × calls mid pair.outbound (asks.Disconnect []) other rest new × (done ≡ (one || other)) × (made ≡ here ++ rest)

  abbrev pub SetsCredit : S → ℕ → Option ℕ → Bool → List Event → S → Type 0
  SetsCredit old end None done made new = (done ≡ false) × (made ≡ []) × (new ≡ old)
  SetsCredit old end (Some credit) done made new = calls old end (asks.Window credit) done made new

  -- where more than 300 are left the pair parts, else the credit of the end is set at which they were shown
  abbrev pub BalancesBy : Bool → S → Timers → Heading → Pair → List MarkedUnit → Bool → List Event → S → Type 0
  BalancesBy true old rules heading pair left done made new = Parts old pair done made new
  BalancesBy false old rules heading pair left done made new = SetsCredit old (near_end heading pair) (credit_now rules.credit (way_of heading pair).lowered left) done made new

  abbrev pub Balances : S → Timers → Heading → Pair → List MarkedUnit → Bool → List Event → S → Type 0
  Balances old rules heading pair left done made new = BalancesBy (nat_lt 300 (length left)) old rules heading pair left done made new

  -- one way of a pair
  pub record ServesWay (old : S) (rules : Timers) (heading : Heading) (pair : Pair) (done : Bool) (made : List Event) (new : S) : Type 0 where
    pub mid : S
    pub one : Bool
    pub other : Bool
    pub here : List Event
    pub rest : List Event
    pub left : List MarkedUnit
    pub submits : Submits old (far_end heading pair) (way_of heading pair).waiting one here mid left
    pub balances : Balances mid rules heading pair left other rest new
    pub done_is : done ≡ (one || other)
    pub made_is : made ≡ here ++ rest

  -- one way of the pair at a place, where it is open
  abbrev pub ServesOpen : Bool → S → Timers → Heading → Pair → Bool → List Event → S → Type 0
  ServesOpen true old rules heading pair done made new = ServesWay old rules heading pair done made new
  ServesOpen false old rules heading pair done made new = (done ≡ false) × (made ≡ []) × (new ≡ old)

  abbrev pub ServesIf : S → Timers → Heading → Option Pair → Bool → List Event → S → Type 0
  ServesIf old rules heading None done made new = (done ≡ false) × (made ≡ []) × (new ≡ old)
  ServesIf old rules heading (Some pair) done made new = ServesOpen (is_open pair.phase) old rules heading pair done made new

  abbrev pub ServesAt : S → Kept → ℕ → Heading → Bool → List Event → S → Type 0
  ServesAt old kept place heading done made new = ServesIf old kept.rules heading (slice_get kept.pairs place) done made new

  -- both ways of the pair at a place, from the inbound end first; a pair that parted is not open any more
  pub record ServesPair (old : S) (kept : Kept) (place : ℕ) (done : Bool) (made : List Event) (new : S) : Type 0 where
    pub mid : S
    pub one : Bool
    pub other : Bool
    pub here : List Event
    pub rest : List Event
    pub on : ServesAt old kept place On one here mid
    pub back : ServesAt mid (kept_after kept here) place Back other rest new
    pub done_is : done ≡ (one || other)
    pub made_is : made ≡ here ++ rest

  abbrev pub ServesEach : S → Kept → List ℕ → Bool → List Event → S → Kept → Type 0
  ServesEach old kept [] done made new last = (done ≡ false) × (made ≡ []) × (new ≡ old) × (last ≡ kept)
  ServesEach old kept (place ∷ places) done made new last =
      (mid : S) × (one : Bool) × (others : Bool) × (here : List Event) × (rest : List Event)
      × ServesPair old kept place one here mid × ServesEach mid (kept_after kept here) places others rest new last
      × (done ≡ (one || others)) × (made ≡ here ++ rest)

  -- ---- the whole

  -- about the events of a line, and then for the pairs that are open
  pub record PumpStep (old : S) (kept : Kept) (line : List Event) (done : Bool) (made : List Event) (new : S) (last : Kept) : Type 0 where
    pub mid : S
    pub middle : Kept
    pub one : Bool
    pub other : Bool
    pub here : List Event
    pub rest : List Event
    pub reacts : Reacts old kept line one here mid middle
    pub serves : ServesEach mid middle (open_places middle.pairs) other rest new last
    pub done_is : done ≡ (one || other)
    pub made_is : made ≡ here ++ rest
