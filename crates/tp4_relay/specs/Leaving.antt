-- What a pump leaves that was not broken off: at an open pair nothing waits, unless its own call for the next unit was refused. So what was submitted at
-- the one end is all that the other end showed.
use Rattle.std.specs.Prelude.{◌≡◌, ◌⊎◌, ℕ, Bool, true, false, List, [], ◌∷◌, Option, Some, None, slice_get}
use Rattle.std.proofs.Common.{inl, inr}
use Rattle.script_journal.specs.Lawful.{shown, submitted}
use Rattle.script_journal.specs.declared.event.Event.{Event}
use Rattle.tp4_conn.specs.declared.call.ConnectRequest.{ConnectRequest}
use Rattle.tp4_conn.specs.declared.call.UserCall.{UserCall}
use Rattle.tp4_conn.specs.declared.timers.Timers.{Timers}
use Rattle.tp4_relay.specs.declared.pair.Heading.{Heading}
use Rattle.tp4_relay.specs.declared.pair.Heading.TheVariants.{On, Back}
use Rattle.tp4_relay.specs.declared.pair.Pair.{Pair}
use Rattle.tp4_relay.specs.declared.pair.Phase.TheVariants.{Open}
use Rattle.tp4_relay.specs.declared.unit.MarkedUnit.{MarkedUnit}
use Rattle.tp4_relay.specs.Kept.{Kept, kept_after}
use Rattle.tp4_relay.specs.Pairs.{is_open, open_places}
use Rattle.tp4_relay.specs.Pump.{PumpStep, ServesEach, ServesIf, ServesOpen, ServesPair, Submits, far_end, way_of}

module _ {S : Type 0} (connects : S → ℕ → ConnectRequest → Bool → List Event → S → Type 0) (calls : S → ℕ → UserCall → Bool → List Event → S → Type 0) where
  -- ---- refused calls of a pump for the next unit

  -- of units that are submitted one after another at an end, the call there for the first of these, which wait then, was refused
  abbrev pub SubmitRefuses : (old : S) (end : ℕ) (units : List MarkedUnit) (done : Bool) (made : List Event) (new : S) (left : List MarkedUnit) → Submits connects calls old end units done made new left → ℕ → List MarkedUnit → Type 0
  SubmitRefuses old end [] done made new left submits at waiting = ⊥
  SubmitRefuses old end (unit ∷ units) done made new left (inl refused) at waiting = (at ≡ end) × (waiting ≡ unit ∷ units)
  SubmitRefuses old end (unit ∷ units) done made new left (inr taken) at waiting = SubmitRefuses taken.0 end units taken.1 taken.3 new left taken.5 at waiting

  -- of those that wait to go this way of a pair, where it is open
  abbrev pub OpenRefuses : (opens : Bool) (old : S) (rules : Timers) (heading : Heading) (pair : Pair) (done : Bool) (made : List Event) (new : S) → ServesOpen connects calls opens old rules heading pair done made new
      → ℕ → List MarkedUnit → Type 0
  OpenRefuses true old rules heading pair done made new serves at waiting =
      SubmitRefuses old (far_end heading pair) (way_of heading pair).waiting serves.one serves.here serves.mid serves.left serves.submits at waiting
  OpenRefuses false old rules heading pair done made new serves at waiting = ⊥

  abbrev pub IfRefuses : (found : Option Pair) (old : S) (rules : Timers) (heading : Heading) (done : Bool) (made : List Event) (new : S) → ServesIf connects calls old rules heading found done made new → ℕ → List MarkedUnit → Type 0
  IfRefuses None old rules heading done made new serves at waiting = ⊥
  IfRefuses (Some pair) old rules heading done made new serves at waiting = OpenRefuses (is_open pair.phase) old rules heading pair done made new serves at waiting

  -- this way of the pair at a place
  abbrev pub PairRefuses : (old : S) (kept : Kept) (place : ℕ) (done : Bool) (made : List Event) (new : S) → ServesPair connects calls old kept place done made new → Heading → ℕ → List MarkedUnit → Type 0
  PairRefuses old kept place done made new serves On at waiting = IfRefuses (slice_get kept.pairs place) old kept.rules On serves.one serves.here serves.mid serves.on at waiting
  PairRefuses old kept place done made new serves Back at waiting =
      IfRefuses (slice_get (kept_after kept serves.here).pairs place) serves.mid (kept_after kept serves.here).rules Back serves.other serves.rest new serves.back at waiting

  -- of pairs that are served one after another, this way of the one at that place
  abbrev pub EachRefuses : (places : List ℕ) (old : S) (kept : Kept) (done : Bool) (made : List Event) (new : S) (last : Kept) → ServesEach connects calls old kept places done made new last → ℕ → Heading → ℕ → List MarkedUnit → Type 0
  EachRefuses [] old kept done made new last serves place heading at waiting = ⊥
  EachRefuses (first ∷ places) old kept done made new last serves place heading at waiting =
      ((first ≡ place) × PairRefuses old kept first serves.1 serves.3 serves.0 serves.5 heading at waiting)
      ⊎ EachRefuses places serves.0 (kept_after kept serves.3) serves.2 serves.4 new last serves.6 place heading at waiting

  -- ---- what a pump leaves

  module _ (old : S) (kept : Kept) (line : List Event) (done : Bool) (made : List Event) (new : S) (last : Kept) (step : PumpStep connects calls old kept line done made new last) where
    -- as this pump came to the pair at the place and submitted its units this way, its call at that end for the first of these, which wait then, was refused
    abbrev pub RefusesNext : ℕ → Heading → ℕ → List MarkedUnit → Type 0
    RefusesNext place heading at waiting = EachRefuses (open_places (step.middle).pairs) step.mid step.middle step.other step.rest new last step.serves place heading at waiting

    -- nothing waits this way, unless the call for the next unit was refused
    abbrev pub LeavesNone : ℕ → Heading → ℕ → List MarkedUnit → Type 0
    LeavesNone place heading at waiting = (waiting ≡ []) ⊎ RefusesNext place heading at waiting

    -- so it is both ways of each pair that is open then
    abbrev pub IsServed : ℕ → Pair → Type 0
    IsServed place pair = pair.phase ≡ Open → LeavesNone place On pair.outbound pair.on.waiting × LeavesNone place Back pair.inbound pair.back.waiting

    abbrev pub AreServed : Type 0
    AreServed = (place : ℕ) (pair : Pair) → slice_get last.pairs place ≡ Some pair → IsServed place pair

    -- all that the one end of an open pair showed was submitted at the other, unless the call for the next unit was refused
    abbrev pub GivesAll : List Event → ℕ → Pair → Type 0
    GivesAll journal place pair = pair.phase ≡ Open
        → ((submitted pair.outbound journal ≡ shown pair.inbound journal) ⊎ RefusesNext place On pair.outbound pair.on.waiting)
        × ((submitted pair.inbound journal ≡ shown pair.outbound journal) ⊎ RefusesNext place Back pair.inbound pair.back.waiting)

    abbrev pub AreGiven : List Event → Type 0
    AreGiven journal = (place : ℕ) (pair : Pair) → slice_get last.pairs place ≡ Some pair → GivesAll journal place pair

  -- a pump, and what it leaves
  pub record ServesAll (old : S) (kept : Kept) (line : List Event) (done : Bool) (made : List Event) (new : S) (last : Kept) : Type 0 where
    pub step : PumpStep connects calls old kept line done made new last
    pub served : AreServed old kept line done made new last step
