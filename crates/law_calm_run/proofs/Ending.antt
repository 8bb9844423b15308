-- After the lines of a calm run nothing waits, and the story of the associations stands beside the network: so there are pairs. No end is due.
use Rattle.std.proofs.Common.{◌≡◌, ℕ, List, [], ◌++◌, sym, subst}
use Rattle.osi_base.specs.Calls.{Call, Keeps}
use Rattle.osi_base.specs.Link.{Link}
use Rattle.osi_base.specs.declared.unit.Unit.{Unit as CarriedUnit}
use Rattle.script_journal.specs.declared.event.Event.{Event}
use Rattle.script_lines.specs.declared.line.Line.{Line}
use Rattle.net_world.specs.Fifo.{IsFifo}
use Rattle.tp4_number.specs.Number.{whole}
use Rattle.tp4_conn.specs.declared.timers.Timers.{Timers}
use Rattle.law_tp4_proper.proofs.Ends.{waits}
use Rattle.law_tp4_pair.specs.Pairs.{AreLater}
use Rattle.tp4_world.specs.World.{World}
use Rattle.tp4_world.specs.declared.place.Placed.{Placed}
use Rattle.law_calm_run.specs.Run.{IsCalmRun, IsStart}
use Rattle.law_calm_run.specs.Service.{end_at_number}
use Rattle.law_calm_run.proofs.Hall.{AreWaiting, Hall}
use Rattle.law_calm_run.proofs.Posting.{AreUnitsOf}
use Rattle.law_calm_run.proofs.Going.{HasSettled}
use Rattle.law_calm_run.proofs.Starting.{first_hall, run_settles}
use Rattle.law_calm_run.specs.Pairs.{HavePairs}
use Rattle.law_calm_run.proofs.Story.{Story, address_of}
use Rattle.law_calm_run.proofs.Keeping.{has_story}
use Rattle.law_calm_run.proofs.Placing.{where_it_stands}
use Rattle.law_calm_run.proofs.Partnering.{story_has_pairs}

pub all_have_pairs : {C : Type 0} (link : C → Link (List ℕ)) (steps : C → Call (List ℕ) → C → Type 0) (law : (old : C) (call : Call (List ℕ)) (new : C) → steps old call new → Keeps (link old) call (link new))
    (titles : List (List ℕ)) (Waits : C → List (CarriedUnit (List ℕ)) → Type 0) → IsFifo link steps titles Waits → HavePairs link steps whole titles Waits
all_have_pairs link steps law titles Waits fifo timers first last script begun journal start aside run =
    let hall : Hall = first_hall titles timers Waits first start link steps law fifo in
    let done : HasSettled link steps law titles Waits fifo hall journal last = run_settles titles timers Waits first start link steps law fifo script journal last run in
    let story : Story timers (address_of titles) done.went.next (begun ++ journal) = has_story titles timers Waits first start (link first.carrier).clock begun journal done.went.next aside done.went.goes in
    let idle : done.went.next.posts ≡ [] = subst (λ (q : List (CarriedUnit (List ℕ))). AreUnitsOf titles q done.went.next.posts) done.none done.went.shows.units in
    story_has_pairs timers (address_of titles) done.went.next (begun ++ journal) last story idle done.went.shows.entities done.went.shows.ends

-- where no end of an entity is due none is due by its number
later_where : {C : Type 0} (now : ℕ) (world : World C) (entities : List Placed) → AreWaiting now entities → world.entities ≡ entities → AreLater now (end_at_number world)
later_where {C} now world entities rest same number x is =
    let w = where_it_stands world number x is in
    (waits now w.stands.0 (subst (AreWaiting now) (sym same) rest w.place.system w.stands.0 w.stands.1)).1 w.place.reference x w.stands.2

pub none_due : {C : Type 0} (link : C → Link (List ℕ)) (steps : C → Call (List ℕ) → C → Type 0) (law : (old : C) (call : Call (List ℕ)) (new : C) → steps old call new → Keeps (link old) call (link new))
    (titles : List (List ℕ)) (Waits : C → List (CarriedUnit (List ℕ)) → Type 0) → IsFifo link steps titles Waits → (timers : Timers) (first last : World C) (script : List Line) (journal : List Event)
    → IsStart titles timers Waits first → IsCalmRun link steps whole titles first script journal last → AreLater (link last.carrier).clock (end_at_number last)
none_due {C} link steps law titles Waits fifo timers first last script journal start run =
    let hall : Hall = first_hall titles timers Waits first start link steps law fifo in
    let done : HasSettled link steps law titles Waits fifo hall journal last = run_settles titles timers Waits first start link steps law fifo script journal last run in
    subst (λ (now : ℕ). AreLater now (end_at_number last)) (sym done.went.shows.clock)
    (later_where done.went.next.clock last done.went.next.entities done.went.rest done.went.shows.entities)
