-- The calls of the network: the calls of the carrier below that each goes through, in order, and the steps of its systems between.
use Rattle.std.specs.Prelude.{◌≡◌, ℕ, ◌+◌, ◌<◌, ◌≤◌, min, Bool, true, false, ◌&&◌, nat_eq, if◌then◌else◌, List, [], ◌∷◌, ◌++◌, length, Option, None, Ok, Err}
use Rattle.std.specs.List.{filter, list_any}
use Rattle.std.specs.Cmp.Lexicographic.{pointwise}
use Rattle.nsap.specs.declared.port.Port.{Port}
use Rattle.osi_base.specs.declared.unit.Unit.{Unit as CarriedUnit}
use Rattle.osi_base.specs.declared.unit.Up.{Up}
use Rattle.osi_base.specs.declared.unit.Up.TheVariants.{Unit as Came, Note as Noted}
use Rattle.osi_base.specs.declared.unit.Wish.{Wish}
use Rattle.osi_base.specs.declared.unit.Offered.{Offered}
use Rattle.osi_base.specs.declared.unit.Offered.TheVariants.{Taken as WasTaken, Dropped}
use Rattle.osi_base.specs.declared.unit.DropCause.{DropCause}
use Rattle.osi_base.specs.declared.unit.DropCause.TheVariants as causes
use Rattle.osi_base.specs.Floated.{is_unit_of, is_young}
use Rattle.osi_base.specs.Link.{Link}
use Rattle.osi_base.specs.Calls.{Call, Offer, Choose, Inject, NextUp, Tick, after_first}
use Rattle.osi_base.specs.Gathering.{Gathers}
use Rattle.clnp_system.specs.Node.{Node, Frame}
use Rattle.clnp_system.specs.Setting.{is_own_system}
use Rattle.clnp_system.specs.Sending.{Sends}
use Rattle.clnp_system.specs.Tables.{Tables}
use Rattle.law_clnp_step.specs.Handling.{Changes, Handles, OffersFrames, TicksAll, notes_of}
use Rattle.law_clnp_step.specs.Network.{Network}
use Rattle.law_clnp_step.specs.Sound.{IsSound}

-- the node is the end system that has the address
abbrev pub is_source : {N : Type 0} → List ℕ → Node N → Bool
is_source from node = node.setup.end && is_own_system node.setup from

-- how many arrivals equal no unit of the list
abbrev pub strays_in : List (ℕ × CarriedUnit (List ℕ)) → List (Up (List ℕ)) → ℕ
strays_in entries [] = 0
strays_in entries (Noted note ∷ ups) = strays_in entries ups
strays_in entries (Came arrival ∷ ups) =
    if list_any (is_unit_of (pointwise nat_eq) arrival.unit) entries then strays_in entries ups else strays_in entries ups + 1

-- strays are counted once octets were injected, up to 4,294,967,295
abbrev pub counted : Bool → ℕ → ℕ → ℕ
counted true strays more = strays
counted false strays more = min (strays + more) 4294967295

module _ {C N : Type 0} (link : C → Link Port) (steps : C → Call Port → C → Type 0) (tables : Tables N) where
  -- a unit is offered, the first that applies: the network is full; no end system has the source; what that system says; else it is taken, and floats
  pub data NetOffers (old : Network C N) (unit : CarriedUnit (List ℕ)) (wish : Wish) (answer : Offered) (new : Network C N) : Type 0 where
    IsFull : old.floating.limit ≤ length old.floating.entries → answer ≡ Dropped causes.Full → new ≡ old → NetOffers old unit wish answer new
    IsNobodys : length old.floating.entries < old.floating.limit → list_any (is_source unit.from) old.nodes ≡ false → answer ≡ Dropped causes.NoRoute → new ≡ old
        → NetOffers old unit wish answer new
    IsDropped : (node after : Node N) (nodes : List (Node N)) (cause : DropCause) → length old.floating.entries < old.floating.limit
        → Changes (is_source unit.from) old.nodes node after nodes → Sends tables node (link old.link).clock unit wish (Err cause) after
        → answer ≡ Dropped cause → new ≡ record old { nodes = nodes } → NetOffers old unit wish answer new
    IsTaken : (node after : Node N) (nodes : List (Node N)) (frames : List Frame) (below : C) (told : List (Up (List ℕ)))
        → length old.floating.entries < old.floating.limit
        → Changes (is_source unit.from) old.nodes node after nodes → Sends tables node (link old.link).clock unit wish (Ok frames) after
        → OffersFrames link steps old.link node.setup.system frames below told → answer ≡ WasTaken
        → new ≡ record old {
          link = below;
          nodes = nodes;
          floating = record old.floating { entries = old.floating.entries ++ ((link old.link).clock, unit) ∷ [] };
          waiting = old.waiting ++ told;
        }
        → NetOffers old unit wish answer new

  -- what a call of the carrier below brings up is handled, and waits
  pub record Arrives (old : Network C N) (call : Call Port) (new : Network C N) : Type 0 where
    pub called : C
    pub ups : List (Up Port)
    pub risen : C
    pub below : C
    pub nodes : List (Node N)
    pub told : List (Up (List ℕ))
    pub calls : steps old.link call called
    pub gathers : Gathers link steps called ups risen
    pub handles : Handles link steps tables (link old.link).clock risen old.nodes ups below nodes told
    pub becomes : new ≡ record old {
      link = below;
      nodes = nodes;
      waiting = old.waiting ++ told;
      strays = counted (link below).honest old.strays (strays_in old.floating.entries told);
    }

  -- one tick: the carrier below, then each system in order; units older than the lifetime are given up
  pub record NetTicks (old new : Network C N) : Type 0 where
    pub ticked : C
    pub ups : List (Up Port)
    pub risen : C
    pub below : C
    pub nodes : List (Node N)
    pub told : List (Up (List ℕ))
    pub ticks : steps old.link Tick ticked
    pub gathers : Gathers link steps ticked ups risen
    pub all : TicksAll link steps tables ((link old.link).clock + 1) risen old.nodes below nodes told
    pub becomes : new ≡ record old {
      link = below;
      nodes = nodes;
      floating = record old.floating { entries = filter (is_young ((link old.link).clock + 1) old.life) old.floating.entries };
      waiting = old.waiting ++ (notes_of ups ++ told);
    }

  -- the first of what waits is handed up, and None exactly where nothing waits
  pub record NetTakesUp (old : Network C N) (answer : Option (Up (List ℕ))) (new : Network C N) : Type 0 where
    pub waiting : old.waiting ≡ after_first answer new.waiting
    pub none : answer ≡ None → old.waiting ≡ []
    pub becomes : new ≡ record old { waiting = new.waiting }

  -- what each call does
  abbrev pub NetDoes : Network C N → Call (List ℕ) → Network C N → Type 0
  NetDoes old (Offer unit wish answer) new = NetOffers old unit wish answer new
  NetDoes old (Choose pick system answer) new = Arrives old (Choose pick system answer) new
  NetDoes old (Inject lan system octets answer) new = Arrives old (Inject lan system octets answer) new
  NetDoes old (NextUp answer) new = NetTakesUp old answer new
  NetDoes old Tick new = NetTicks old new

  -- what held before the call; taking up needs nothing
  abbrev pub Was : Network C N → Call (List ℕ) → Type 0
  Was old (Offer unit wish answer) = IsSound link old
  Was old (Choose pick system answer) = IsSound link old
  Was old (Inject lan system octets answer) = IsSound link old
  Was old (NextUp answer) = Unit {0}
  Was old Tick = IsSound link old × ((link old.link).clock < 4000000000)

  -- one step of the network
  abbrev pub NetStep : Network C N → Call (List ℕ) → Network C N → Type 0
  NetStep old call new = Was old call × NetDoes old call new

  -- the network as it is made: at tick 0 each system ticks once, in order, and sends its first hellos
  pub record Begins (first : C) (nodes : List (Node N)) (life : ℕ) (new : Network C N) : Type 0 where
    pub below : C
    pub after : List (Node N)
    pub told : List (Up (List ℕ))
    pub all : TicksAll link steps tables 0 first nodes below after told
    pub becomes : new ≡ record { link = below; nodes = after; floating = record { limit = 40000; entries = [] }; waiting = told; strays = 0; life = life }
