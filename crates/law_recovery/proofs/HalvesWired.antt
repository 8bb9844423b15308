-- What ends beside a partner that has left come to over whole numbers they come to over those of the wire: an end has the same state there, but for the numbers that it expects.
use Rattle.std.proofs.Common.{◌≡◌, ℕ, Bool, List, ◌++◌, Some, None, refl, sym, ◌∙◌, ap, subst}
use Rattle.std.specs.Prelude.{if◌then◌else◌, option_and_then, option_map}
use Rattle.std.specs.List.{AllByRecursion}
use Rattle.std.proofs.lemmas.Bool.{eq-eqb}
use Rattle.osi_base.specs.Calls.{Call}
use Rattle.osi_base.specs.Link.{Link}
use Rattle.script_journal.specs.declared.event.Event.{Event}
use Rattle.tp4_number.specs.Number.{whole, wire}
use Rattle.tp4_conn.specs.End.{End}
use Rattle.tp4_conn.specs.Wire.{end_on_wire, stage_on_wire}
use Rattle.tp4_conn.specs.declared.states.InAkWait.{InAkWait}
use Rattle.tp4_conn.specs.declared.states.StateData.{StateData}
use Rattle.tp4_conn.specs.declared.states.StateData.TheVariants as stages
use Rattle.tp4_conn.specs.declared.timers.Timers.{Timers}
use Rattle.tp4_entity.specs.Entity.{Entity, end_at}
use Rattle.tp4_entity.specs.Wire.{entity_on_wire}
use Rattle.tp4_entity.proofs.Wires.{frozen_on}
use Rattle.law_tp4_pair.specs.Standing.{HasLeft}
use Rattle.tp4_world.specs.First.{HasNoEnd}
use Rattle.tp4_world.specs.Laws.{WholeLine, WholeRun}
use Rattle.tp4_world.specs.Wire.{world_on_wire}
use Rattle.tp4_world.specs.World.{World, end_numbered, entity_at, latest}
use Rattle.tp4_world.specs.declared.place.Placed.{Placed}
use Rattle.tp4_world.proofs.OnWire.{found_on}
use Rattle.law_tp4_lawful.proofs.WorldStarts.{no_ends}
use Rattle.law_calm_run.specs.Service.{end_at_number, end_placed}
use Rattle.law_calm_run.proofs.WiredEnds.{placed_on, upper_end, upper_open}
use Rattle.law_recovery_run.specs.Requesting.{AreListening}
use Rattle.law_recovery_run.specs.Ready.{HasStarted}
use Rattle.law_recovery_run.specs.Over.{HasLeftEnd}
use Rattle.law_recovery_run.specs.Recovered.{IsOver}
use Rattle.law_recovery.proofs.Wired.{run_above}
use Rattle.law_recovery_run.specs.Halves.{HalvesFollow, HasFollowed, IndicationsEnd, IsFrozenOrGone, IsNotAccepted, KnowsPartner}
use Rattle.law_recovery.specs.Laws.{FollowsOnWire, RunsEndIndications}
use Rattle.law_recovery.proofs.Numbers.{left_by_number}

-- ---- states

knows_above : (stage : StateData) → KnowsPartner (stage_on_wire stage) → KnowsPartner stage
knows_above (stages.UserWait since) knows = tt
knows_above (stages.AkWait w) knows = tt
knows_above (stages.Opened o) knows = tt
knows_above stage knows = knows

left_above : (stage : StateData) → HasLeft (stage_on_wire stage) → HasLeft stage
left_above (stages.WaitBeforeClose w) left = tt
left_above (stages.Closing c) left = tt
left_above (stages.Frozen when) left = tt
left_above stage left = left

accepted_above : (stage : StateData) (lower : InAkWait) → stage_on_wire stage ≡ stages.AkWait lower → (v : InAkWait) × (stage ≡ stages.AkWait v)
accepted_above (stages.AkWait v) lower is = (v, refl)
accepted_above stage lower is = absurd (cc is)

-- ---- ends by their numbers

lower_end : {C : Type 0} (world : World C) (number : ℕ) (end : End) → end_at_number world number ≡ Some end → end_at_number (world_on_wire world) number ≡ Some (end_on_wire end)
lower_end world number end is = placed_on world number (end_numbered world.ends number) ∙ ap (option_map end_on_wire) is

left_end_above : {C : Type 0} (world : World C) (y : ℕ) → HasLeftEnd (world_on_wire world) y → HasLeftEnd world y
left_end_above {C} world y h = record {
  system = h.system;
  reference = h.reference;
  at = record {
    made = h.at.made;
    left = λ entity v there stands number. left_above v.stage (left_by_number (world_on_wire world) y h (end_on_wire v) (lower_end world y v (by entity v there stands number)));
  };
}
  where
    by : (entity : Entity) (v : End) → entity_at world.entities h.system ≡ Some entity → end_at entity h.reference ≡ Some v → latest world.ends h.system h.reference ≡ y → end_at_number world y ≡ Some v
    by entity v there stands number =
        ap (end_placed world y) h.at.made
        ∙ ap (λ (b : Bool). if b then option_and_then (λ (z : Entity). end_at z h.reference) (entity_at world.entities h.system) else None) (eq-eqb (latest world.ends h.system h.reference) y number)
        ∙ ap (option_and_then (λ (z : Entity). end_at z h.reference)) there ∙ stands

over_on_wire : {C : Type 0} (last : World C) (number : ℕ) → IsOver last number → IsOver (world_on_wire last) number
over_on_wire last number over e o stands opened =
    let upper = upper_end last number e stands in
    let there = upper_open upper.end.stage o (sym (ap (λ (x : End). x.stage) upper.is) ∙ opened) in
    over upper.end there.opened upper.stands there.stage_is

not_accepted_on_wire : {C : Type 0} (last : World C) (number : ℕ) → IsNotAccepted last number → IsNotAccepted (world_on_wire last) number
not_accepted_on_wire last number none e w stands accepted =
    let upper = upper_end last number e stands in
    let there = accepted_above upper.end.stage w (sym (ap (λ (x : End). x.stage) upper.is) ∙ accepted) in
    none upper.end there.0 upper.stands there.1

gone_above : {C : Type 0} (world : World C) (y : ℕ) → IsFrozenOrGone (world_on_wire world) y → IsFrozenOrGone world y
gone_above world y gone e stands = sym (frozen_on e.stage) ∙ gone (end_on_wire e) (lower_end world y e stands)

listens_above : {C : Type 0} (now : ℕ) (world : World C) (to : List ℕ) → AreListening now (world_on_wire world) to → AreListening now world to
listens_above now world to listens system entity there own = listens system (entity_on_wire entity) (found_on world.entities system ∙ ap (option_map entity_on_wire) there) own

-- ---- the claim

pub follow_on_wire : {C : Type 0} (t : Timers) (t0 now : ℕ) (early : List Event) (at_t0 last : World C) → HalvesFollow t t0 now early at_t0 last → HalvesFollow t t0 now early (world_on_wire at_t0) (world_on_wire last)
follow_on_wire {C} t t0 now early at_t0 last follow x y e partners at knows left =
    let upper = upper_end at_t0 x e at in
    let stage : e.stage ≡ stage_on_wire upper.end.stage = ap (λ (z : End). z.stage) upper.is in
    let to : e.base.to ≡ upper.end.base.to = ap (λ (z : End). z.base.to) upper.is in
    let has : HasFollowed t t0 now at_t0 last x y upper.end.base.to = follow x y upper.end partners upper.stands (knows_above upper.end.stage (subst KnowsPartner stage knows)) (left_end_above at_t0 y left) in
    record {
      opened = λ past. over_on_wire last x (has.opened past);
      accepted = λ gone listens past.
          not_accepted_on_wire last x (has.accepted (gone_above at_t0 y gone) (listens_above t0 at_t0 upper.end.base.to (subst (λ (l : List ℕ). AreListening t0 (world_on_wire at_t0) l) to listens)) past);
      closing = λ listens past.
          not_accepted_on_wire last x (has.closing (listens_above t0 at_t0 upper.end.base.to (subst (λ (l : List ℕ). AreListening t0 (world_on_wire at_t0) l) to listens)) past);
    }

-- an indication that no user has answered is the same there
asked_above : (stage : StateData) (since : ℕ) → stage_on_wire stage ≡ stages.UserWait since → stage ≡ stages.UserWait since
asked_above (stages.UserWait when) since is = is
asked_above stage since is = absurd (cc is)

pub indications_on_wire : {C : Type 0} (t : Timers) (now : ℕ) (last : World C) → IndicationsEnd t now last → IndicationsEnd t now (world_on_wire last)
indications_on_wire t now last ends x since e at is =
    let upper = upper_end last x e at in
    ends x since upper.end upper.stands (asked_above upper.end.stage since (sym (ap (λ (z : End). z.stage) upper.is) ∙ is))

-- ---- runs

module _ {C : Type 0} (link : C → Link (List ℕ)) (steps : C → Call (List ℕ) → C → Type 0) (whole_run : WholeRun link steps) (whole_line : WholeLine link steps) where
  none : (titles : List (List ℕ)) (timers : Timers) (begun : List Event) (first : World C) → HasStarted link steps titles timers begun first
      → AllByRecursion (λ (one : Placed). HasNoEnd one.entity) first.entities
  none titles timers begun first started =
      subst (λ (w : World C). AllByRecursion (λ (one : Placed). HasNoEnd one.entity) w.entities) (sym started.starts.becomes) (no_ends titles started.placed started.is_first.entities)

  pub follows_on_wire : FollowsOnWire link steps
  follows_on_wire titles begins follow timers begun early late script first at_t0 last begins_is started run =
      let above = run_above link steps whole_run whole_line titles first at_t0 last script early late (none titles timers begun first started) run in
      subst (λ (w : World C). HalvesFollow timers (link w.carrier).clock (link last.carrier).clock (begun ++ early) w last) (sym above.mid_is)
      (subst (λ (w : World C). HalvesFollow timers (link above.mid.carrier).clock (link w.carrier).clock (begun ++ early) (world_on_wire above.mid) w) (sym above.end_is)
      (follow_on_wire timers (link above.mid.carrier).clock (link above.end.carrier).clock (begun ++ early) above.mid above.end
      (follow timers begun early late script first above.mid above.end begins_is started above.run)))

  pub ends_on_wire : RunsEndIndications link steps whole → RunsEndIndications link steps wire
  ends_on_wire ends titles timers begun early late script first at_t0 last started run =
      let above = run_above link steps whole_run whole_line titles first at_t0 last script early late (none titles timers begun first started) run in
      subst (λ (w : World C). IndicationsEnd timers (link w.carrier).clock w) (sym above.end_is)
      (indications_on_wire timers (link above.end.carrier).clock above.end (ends titles timers begun early late script first above.mid above.end started above.run))
