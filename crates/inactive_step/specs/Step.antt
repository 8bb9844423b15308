-- The calls of the network: the call of the carrier below that each makes, and what it brings up (X.233, Inactive Network Layer Protocol
-- subset).
use Rattle.std.specs.Prelude.{◌≡◌, ℕ, ◌+◌, ◌<◌, ◌≤◌, min, Bool, true, false, ◌&&◌, nat_eq, if◌then◌else◌, List, [], ◌∷◌, ◌++◌, length, Option, Some, None}
use Rattle.std.specs.List.{filter, list_any}
use Rattle.std.specs.Cmp.Lexicographic.{pointwise}
use Rattle.nsap.specs.declared.port.Port.{Port}
use Rattle.osi_base.specs.declared.unit.Unit.{Unit as CarriedUnit}
use Rattle.osi_base.specs.declared.unit.Up.{Up}
use Rattle.osi_base.specs.declared.unit.Up.TheVariants.{Unit as Came, Note as Noted}
use Rattle.osi_base.specs.declared.unit.Wish.{Wish}
use Rattle.osi_base.specs.declared.unit.Offered.{Offered}
use Rattle.osi_base.specs.declared.unit.Offered.TheVariants.{Taken as WasTaken, Dropped}
use Rattle.osi_base.specs.declared.unit.DropCause.TheVariants as causes
use Rattle.osi_base.specs.Floated.{is_unit_of, is_young}
use Rattle.osi_base.specs.Link.{Link}
use Rattle.osi_base.specs.Calls.{Call, Offer, Choose, Inject, NextUp, Tick, after_first}
use Rattle.osi_base.specs.Gathering.{Gathers}
use Rattle.inactive_step.specs.declared.row.InactiveRow.{InactiveRow}
use Rattle.inactive_step.specs.declared.row.Way.{Way}
use Rattle.inactive_step.specs.Frames.{frame_on, read_ups}
use Rattle.inactive_step.specs.Way.{way_from}
use Rattle.inactive_step.specs.Network.{Inactive}
use Rattle.inactive_step.specs.Rows.{bound_in, longest, row_at}
use Rattle.inactive_step.specs.Sound.{IsSound}

-- an entry of that unit that may still arrive
abbrev pub is_live_of : ℕ → ℕ → CarriedUnit (List ℕ) → ℕ × CarriedUnit (List ℕ) → Bool
is_live_of now bound unit entry = is_unit_of (pointwise nat_eq) unit entry && is_young now bound entry

-- the unit is afloat
abbrev pub is_afloat : List InactiveRow → ℕ → List (ℕ × CarriedUnit (List ℕ)) → CarriedUnit (List ℕ) → Bool
is_afloat rows now entries unit = list_any (is_live_of now (bound_in (row_at rows unit.to)) unit) entries

-- how many arrivals equal no unit afloat
abbrev pub strays_in : List InactiveRow → ℕ → List (ℕ × CarriedUnit (List ℕ)) → List (Up (List ℕ)) → ℕ
strays_in rows now entries [] = 0
strays_in rows now entries (Noted note ∷ ups) = strays_in rows now entries ups
strays_in rows now entries (Came arrival ∷ ups) =
    if is_afloat rows now entries arrival.unit then strays_in rows now entries ups else strays_in rows now entries ups + 1

-- strays are counted once octets were injected, up to 4,294,967,295
abbrev pub counted : Bool → ℕ → ℕ → ℕ
counted true strays more = strays
counted false strays more = min (strays + more) 4294967295

-- a frame is offered as it is
abbrev pub plain_wish : Wish
plain_wish = record { cut = false; report = false; trace = false; path = 0 }

-- a unit floats once it is taken
abbrev pub floated : List (ℕ × CarriedUnit (List ℕ)) → ℕ → CarriedUnit (List ℕ) → Offered → List (ℕ × CarriedUnit (List ℕ))
floated entries now unit WasTaken = entries ++ (now, unit) ∷ []
floated entries now unit (Dropped cause) = entries

module _ {C : Type 0} (link : C → Link Port) (steps : C → Call Port → C → Type 0) where
  -- a call of the carrier below, and all that it brings up
  pub record Brings (old : C) (call : Call Port) (ups : List (Up Port)) (below : C) : Type 0 where
    pub called : C
    pub calls : steps old call called
    pub gathers : Gathers link steps called ups below

  -- a unit is offered, the first that applies: there is no way for it; it is above the room less one octet; else its frame is offered, with
  -- what that is answered
  pub data InactiveOffers (old : Inactive C) (unit : CarriedUnit (List ℕ)) (answer : Offered) (new : Inactive C) : Type 0 where
    NoWay : way_from old.rows unit.from unit.to ≡ None → answer ≡ Dropped causes.NoRoute → new ≡ old → InactiveOffers old unit answer new
    Long : (way : Way) → way_from old.rows unit.from unit.to ≡ Some way → way.goal.room < length unit.octets + 1 → answer ≡ Dropped causes.TooLong → new ≡ old
        → InactiveOffers old unit answer new
    Sent : (way : Way) (ups : List (Up Port)) (below : C) → way_from old.rows unit.from unit.to ≡ Some way → length unit.octets + 1 ≤ way.goal.room
        → Brings old.link (Offer (frame_on way unit.octets) plain_wish answer) ups below
        → new ≡ record old { link = below; floating = floated old.floating (link old.link).clock unit answer; waiting = old.waiting ++ read_ups old.rows ups }
        → InactiveOffers old unit answer new

  -- what a call of the carrier below brings up is read, and waits
  pub record InactiveArrives (old : Inactive C) (call : Call Port) (new : Inactive C) : Type 0 where
    pub ups : List (Up Port)
    pub below : C
    pub brings : Brings old.link call ups below
    pub becomes : new ≡ record old {
      link = below;
      waiting = old.waiting ++ read_ups old.rows ups;
      strays = counted (link below).honest old.strays (strays_in old.rows (link old.link).clock old.floating (read_ups old.rows ups));
    }

  -- one tick: the carrier below; units older than the greatest bound are given up
  pub record InactiveTicks (old new : Inactive C) : Type 0 where
    pub ups : List (Up Port)
    pub below : C
    pub brings : Brings old.link Tick ups below
    pub becomes : new ≡ record old {
      link = below;
      floating = filter (is_young ((link old.link).clock + 1) (longest old.rows)) old.floating;
      waiting = old.waiting ++ read_ups old.rows ups;
    }

  -- the first of what waits is handed up, and None exactly where nothing waits
  pub record InactiveTakesUp (old : Inactive C) (answer : Option (Up (List ℕ))) (new : Inactive C) : Type 0 where
    pub waiting : old.waiting ≡ after_first answer new.waiting
    pub none : answer ≡ None → old.waiting ≡ []
    pub becomes : new ≡ record old { waiting = new.waiting }

  -- what each call does
  abbrev pub InactiveDoes : Inactive C → Call (List ℕ) → Inactive C → Type 0
  InactiveDoes old (Offer unit wish answer) new = InactiveOffers old unit answer new
  InactiveDoes old (Choose pick system answer) new = InactiveArrives old (Choose pick system answer) new
  InactiveDoes old (Inject lan system octets answer) new = InactiveArrives old (Inject lan system octets answer) new
  InactiveDoes old (NextUp answer) new = InactiveTakesUp old answer new
  InactiveDoes old Tick new = InactiveTicks old new

  -- what held before the call; taking up needs nothing
  abbrev pub Was : Inactive C → Call (List ℕ) → Type 0
  Was old (Offer unit wish answer) = IsSound link old
  Was old (Choose pick system answer) = IsSound link old
  Was old (Inject lan system octets answer) = IsSound link old
  Was old (NextUp answer) = Unit {0}
  Was old Tick = IsSound link old × ((link old.link).clock < 4000000000)

  -- one step of the network
  abbrev pub InactiveStep : Inactive C → Call (List ℕ) → Inactive C → Type 0
  InactiveStep old call new = Was old call × InactiveDoes old call new
