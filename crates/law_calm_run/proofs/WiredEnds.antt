-- What each two partner ends show is the same over the numbers of the wire: an end has the same state there, the same sending half and the same credit. So is
-- the confirm of an accept.
use Rattle.std.proofs.Common.{◌≡◌, ℕ, ◌==◌, Bool, true, false, if◌then◌else◌, List, ◌∷◌, ◌++◌, map, Option, Some, None, refl, sym, ◌∙◌, ap, subst}
use Rattle.std.specs.Prelude.{option_and_then, option_map}
use Rattle.osi_base.specs.Calls.{Call}
use Rattle.osi_base.specs.Link.{Link}
use Rattle.osi_base.specs.declared.unit.Unit.{Unit as CarriedUnit}
use Rattle.script_journal.specs.declared.event.Event.{Event}
use Rattle.script_journal.specs.declared.event.Event.TheVariants as events
use Rattle.script_lines.specs.declared.line.Line.TheVariants as lines
use Rattle.tp4_number.specs.Number.{whole, wire}
use Rattle.tp4_conn.specs.declared.states.InOpened.{InOpened}
use Rattle.tp4_conn.specs.declared.states.InCrWait.{InCrWait}
use Rattle.tp4_conn.specs.declared.states.StateData.{StateData}
use Rattle.tp4_conn.specs.declared.states.StateData.TheVariants.{CrWait, Opened}
use Rattle.tp4_conn.specs.End.{End}
use Rattle.tp4_conn.specs.Wire.{end_on_wire, halves_on_wire, stage_on_wire}
use Rattle.tp4_entity.specs.Entity.{Entity, end_at, there}
use Rattle.tp4_entity.specs.Wire.{entity_on_wire}
use Rattle.law_tp4_pair.specs.Claim.{AllShown, HasShown}
use Rattle.tp4_world.specs.Laws.{WholeLine, WholeRun}
use Rattle.tp4_world.specs.Wire.{placed_on_wire, world_on_wire}
use Rattle.tp4_world.specs.Run.{RunsLine}
use Rattle.tp4_world.specs.World.{World, end_numbered, entity_at, latest}
use Rattle.tp4_world.specs.declared.place.EndAt.{EndAt}
use Rattle.tp4_world.proofs.OnWire.{found_on}
use Rattle.law_calm_run.specs.Service.{end_at_number, end_placed}
use Rattle.law_calm_run.specs.steps.Confirms.{AcceptsAreConfirmed}
use Rattle.law_calm_run.specs.Pairs.{ShowAll}
use Rattle.law_calm_run.proofs.Continuing.{none_some, some_same}
use Rattle.tpdu.specs.declared.service.EndTold.TheVariants as tells
use Rattle.law_tp4_lawful.proofs.ReferencesRuns.{end_on}
use Rattle.law_tp4_lawful.proofs.WorldStarts.{no_ends}

-- ---- ends by their numbers

in_entity : (reference : ℕ) (e : Option Entity) → option_and_then (λ x. end_at x reference) (option_map entity_on_wire e) ≡ option_map end_on_wire (option_and_then (λ x. end_at x reference) e)
in_entity reference None = refl
in_entity reference (Some e) = end_on e reference

pub placed_on : {C : Type 0} (world : World C) (number : ℕ) (place : Option EndAt) → end_placed (world_on_wire world) number place ≡ option_map end_on_wire (end_placed world number place)
placed_on world number None = refl
placed_on {C} world number (Some place) = by_latest (latest world.ends place.system place.reference == number)
  where
    by_latest : (same : Bool) → (if same then option_and_then (λ e. end_at e place.reference) (entity_at (map placed_on_wire world.entities) place.system) else None)
        ≡ option_map end_on_wire (if same then option_and_then (λ e. end_at e place.reference) (entity_at world.entities place.system) else None)
    by_latest true = ap (option_and_then (λ (e : Entity). end_at e place.reference)) (found_on world.entities place.system) ∙ in_entity place.reference (entity_at world.entities place.system)
    by_latest false = refl

-- the end of that number over whole numbers
pub record IsUpper {C : Type 0} (world : World C) (number : ℕ) (lower : End) : Type 0 where
  pub end : End
  pub stands : end_at_number world number ≡ Some end
  pub is : lower ≡ end_on_wire end

pub upper_end : {C : Type 0} (world : World C) (number : ℕ) (lower : End) → end_at_number (world_on_wire world) number ≡ Some lower → IsUpper world number lower
upper_end {C} world number lower is = by (end_at_number world number) refl (sym (placed_on world number (end_numbered world.ends number)) ∙ is)
  where
    by : (end : Option End) → end_at_number world number ≡ end → option_map end_on_wire end ≡ Some lower → IsUpper world number lower
    by None at same = absurd (none_some lower same)
    by (Some end) at same = record { end = end; stands = at; is = sym (some_same (end_on_wire end) lower same) }

-- ---- states

-- it is Opened over whole numbers too, with the same halves but for the numbers that are expected
pub record IsOpenUpper (stage : StateData) (lower : InOpened) : Type 0 where
  pub opened : InOpened
  pub stage_is : stage ≡ Opened opened
  pub is : lower ≡ record opened { halves = halves_on_wire opened.halves }

open_same : (one other : InOpened) → Opened one ≡ Opened other → one ≡ other
open_same one other is = cc is

pub upper_open : (stage : StateData) (lower : InOpened) → stage_on_wire stage ≡ Opened lower → IsOpenUpper stage lower
upper_open (Opened o) lower is = record { opened = o; stage_is = refl; is = sym (open_same (record o { halves = halves_on_wire o.halves }) lower is) }
upper_open other lower is = absurd cc

pub upper_waiting : (stage : StateData) (r : InCrWait) → stage_on_wire stage ≡ CrWait r → stage ≡ CrWait r
upper_waiting (CrWait w) r is = is
upper_waiting other r is = absurd cc

-- ---- what is shown

all_shown_on_wire : {C : Type 0} (now : ℕ) (journal : List Event) (world : World C) → AllShown now journal (end_at_number world) → AllShown now journal (end_at_number (world_on_wire world))
all_shown_on_wire {C} now journal world shown calling called x y o q are x_at y_at x_open y_open =
    let one = upper_end world calling x x_at in
    let other = upper_end world called y y_at in
    let first = upper_open one.end.stage o (sym (ap (λ (e : End). e.stage) one.is) ∙ x_open) in
    let second = upper_open other.end.stage q (sym (ap (λ (e : End). e.stage) other.is) ∙ y_open) in
    let both = shown calling called one.end other.end first.opened second.opened are one.stands other.stands first.stage_is second.stage_is in
    let P : InOpened → InOpened → Type 0 = λ a b. HasShown now journal calling called a.halves.sending b.halves.receiving × HasShown now journal called calling b.halves.sending a.halves.receiving in
    let on_wire : InOpened → InOpened = λ a. record a { halves = halves_on_wire a.halves } in
    subst (λ (a : InOpened). P a q) (sym first.is)
    (subst (λ (b : InOpened). P (on_wire first.opened) b) (sym second.is)
    (record { expedited = both.0.expedited; normal = both.0.normal }, record { expedited = both.1.expedited; normal = both.1.normal }))

pub shown_on_wire : {C : Type 0} (link : C → Link (List ℕ)) (steps : C → Call (List ℕ) → C → Type 0) (titles : List (List ℕ)) (Waits : C → List (CarriedUnit (List ℕ)) → Type 0)
    → WholeRun link steps → ShowAll link steps whole titles Waits → ShowAll link steps wire titles Waits
shown_on_wire {C} link steps titles Waits whole_run shown timers first last script begun journal start aside run =
    let above = whole_run titles first script journal last (no_ends titles first.entities start.entities) run.runs in
    subst (λ (world : World C). AllShown (link world.carrier).clock (begun ++ journal) (end_at_number world)) (sym above.2)
    (all_shown_on_wire (link above.0.carrier).clock (begun ++ journal) above.0
    (shown timers first above.0 script begun journal start aside
    (record { settled = run.settled; proper = run.proper; unrouted = run.unrouted; undropped = run.undropped; runs = above.1 })))

-- ---- an accept and its confirm

pub confirmed_on_wire : {C : Type 0} (link : C → Link (List ℕ)) (steps : C → Call (List ℕ) → C → Type 0) (titles : List (List ℕ)) (Waits : C → List (CarriedUnit (List ℕ)) → Type 0)
    → WholeRun link steps → WholeLine link steps → AcceptsAreConfirmed link steps whole titles Waits → AcceptsAreConfirmed link steps wire titles Waits
confirmed_on_wire {C} link steps titles Waits whole_run whole_line confirmed timers first before last script begun journal settled calling called options agreed octets start aside run are c =
    let line = lines.Accept called options octets in
    let made = events.End called (tells.Accept agreed octets) ∷ c.later in
    let above = whole_run titles first script journal before (no_ends titles first.entities start.entities) run.runs in
    let accepts = whole_line titles above.0 line made c.between (subst (λ (x : World C). RunsLine link steps wire titles x line made c.between) above.2 c.accepts) in
    let settles = whole_line titles accepts.0 lines.Settle settled last (subst (λ (x : World C). RunsLine link steps wire titles x lines.Settle settled last) accepts.2 c.settles) in
    let there = upper_end above.0 calling c.unanswered.end (subst (λ (x : World C). end_at_number x calling ≡ Some c.unanswered.end) above.2 c.unanswered.stands) in
    confirmed timers first above.0 settles.0 script begun journal settled calling called options agreed octets start aside
    (record { settled = run.settled; proper = run.proper; unrouted = run.unrouted; undropped = run.undropped; runs = above.1 }) are
    (record {
      unanswered = record {
        end = there.end;
        stands = there.stands;
        request = c.unanswered.request;
        waits = upper_waiting there.end.stage c.unanswered.request (sym (ap (λ (e : End). e.stage) there.is) ∙ c.unanswered.waits);
      };
      later = c.later;
      between = accepts.0;
      proper = c.proper;
      accepts = accepts.1;
      settles = settles.1;
      undropped = c.undropped;
    })
