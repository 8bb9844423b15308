-- A network from a tick on at which nothing waits and since when nothing is lost, over a carrier that serves again once nothing is lost (`IsPrompt` of net_world): which calls of
-- the carrier it makes, and what it has to be where it begins (X.213, queue model of the network connectionless-mode service).
use Rattle.std.specs.Prelude.{◌≡◌, ℕ, List, [], ◌∷◌, Option, Some, None}
use Rattle.std.specs.List.{AllByRecursion}
use Rattle.osi_base.specs.Calls.{Call, NextUp, Tick}
use Rattle.osi_base.specs.Link.{Link, IsLeastFresh}
use Rattle.osi_base.specs.declared.note.Note.TheVariants.{Discard}
use Rattle.osi_base.specs.declared.unit.Unit.{Unit as CarriedUnit}
use Rattle.osi_base.specs.declared.unit.Up.TheVariants.{Note as Noted}
use Rattle.net_world.specs.Prompt.{IsPrompt, IsRefusal, IsUsual}
use Rattle.net_world.specs.Run.{Passes}
use Rattle.osi_base.specs.declared.unit.Up.{Up}
use Rattle.script_journal.specs.declared.event.Event.{Event}
use Rattle.script_lines.specs.declared.line.Line.{Line}
use Rattle.law_tp4_pair.specs.CalmScript.{IsSettledScript}
use Rattle.tp4_number.specs.Number.{whole}
use Rattle.tp4_world.specs.Run.{RunsLines}
use Rattle.tp4_world.specs.World.{World}
use Rattle.law_tp4_lawful.specs.Limits.{IsProperLine}
use Rattle.law_calm_run.specs.Run.{HaveEntities, IsUnrouted}
use Rattle.law_calm_run.specs.Service.{WaitsBy}
use Rattle.law_calm_run.proofs.Hall.{AreWaiting, Goes, Hall}
use Rattle.law_calm_run.proofs.Posting.{AreKept, IsHall}
use Rattle.law_recovery_run.specs.Losses.{IsKept}

-- ---- the carrier

-- no segment is refused for want of room, and no tick comes while a pair is fresh
abbrev pub MayCome : Link (List ℕ) → Call (List ℕ) → Type 0
MayCome old (NextUp (Some (Noted (Discard system reason place)))) = IsRefusal reason place → ⊥
MayCome old Tick = IsLeastFresh old None
MayCome old call = Prim.Unit {0}

-- such calls of a carrier
abbrev pub InOrder : {C : Type 0} → (C → Link (List ℕ)) → (C → Call (List ℕ) → C → Type 0) → C → Call (List ℕ) → C → Type 0
InOrder link steps old call new = steps old call new × MayCome (link old) call

-- calls without an injection lead from one state of the carrier to the other
abbrev pub LeadsOn : {C : Type 0} → (C → Link (List ℕ)) → (C → Call (List ℕ) → C → Type 0) → List (List ℕ) → C → List (Call (List ℕ)) → C → Type 0
LeadsOn {C} link steps titles old [] new = new ≡ old
LeadsOn {C} link steps titles old (call ∷ calls) new = IsUsual titles call × ((mid : C) × (ups : List (Up (List ℕ))) × Passes link steps old call ups mid × LeadsOn link steps titles mid calls new)

-- such calls lead to it
abbrev pub ReachedFrom : {C : Type 0} → (C → Link (List ℕ)) → (C → Call (List ℕ) → C → Type 0) → List (List ℕ) → C → C → Type 0
ReachedFrom {C} link steps titles first state = (calls : List (Call (List ℕ))) × LeadsOn link steps titles first calls state

-- over each carrier that serves again once nothing is lost, from that state of it on
abbrev pub OnPrompt : {C : Type 0} → (C → Link (List ℕ)) → (C → Call (List ℕ) → C → Type 0) → (List (List ℕ) → C → (C → List (CarriedUnit (List ℕ)) → Type 0) → Type 0) → Type 0
OnPrompt {C} link steps Holds = (titles : List (List ℕ)) (first : C) (queue_of : C → Option (List (CarriedUnit (List ℕ)))) → IsPrompt link steps titles (ReachedFrom link steps titles first) (WaitsBy queue_of)
    → Holds titles first (WaitsBy queue_of)

-- ---- the network

-- A network in which nothing is left to deliver, whatever was lost before: calls without an injection led to its carrier; each system has an entity, at its address; its ends are proper and have
-- partners at such addresses; and no end is due
pub record IsReady {C : Type 0} (link : C → Link (List ℕ)) (steps : C → Call (List ℕ) → C → Type 0) (titles : List (List ℕ)) (first : C) (world : World C) : Type 0 where
  pub reached : ReachedFrom link steps titles first world.carrier
  pub none_left : IsLeastFresh (link world.carrier) None
  pub kept : AreKept titles world.entities
  pub have : HaveEntities titles world.entities
  pub rest : AreWaiting (link world.carrier).clock world.entities

-- from there on the lines are settled, none asks for a path, and nothing is lost as they run, over whole numbers
pub record RunsInOrder {C : Type 0} (link : C → Link (List ℕ)) (steps : C → Call (List ℕ) → C → Type 0) (titles : List (List ℕ)) (old : World C) (script : List Line) (late : List Event)
    (last : World C) : Type 0 where
  pub settled : IsSettledScript script
  pub proper : AllByRecursion IsProperLine script
  pub unrouted : AllByRecursion IsUnrouted script
  pub kept : AllByRecursion IsKept late
  pub runs : RunsLines link steps whole titles old script late last

-- the network without its carrier, where nothing waits
abbrev pub hall_of : {C : Type 0} → (C → Link (List ℕ)) → World C → Hall
hall_of link world = record { clock = (link world.carrier).clock; entities = world.entities; ends = world.ends; posts = [] }

-- the network without its carrier goes on from there, with these events, and nothing waits in the end
pub record HasGone {C : Type 0} (link : C → Link (List ℕ)) (titles : List (List ℕ)) (Waits : C → List (CarriedUnit (List ℕ)) → Type 0) (old : World C) (late : List Event) (last : World C) : Type 0 where
  pub hall : Hall
  pub goes : Goes titles (hall_of link old) late hall
  pub shows : IsHall link titles Waits last hall []
  pub none : hall.posts ≡ []
  pub kept : AreKept titles hall.entities
  pub have : HaveEntities titles hall.entities
  pub rest : AreWaiting hall.clock hall.entities
  pub none_left : IsLeastFresh (link last.carrier) None
