-- What comes to an entity and is not for an end from its partner: all that this leaves of the end, at whatever system the entity is.
use Rattle.std.proofs.Common.{◌≡◌, ℕ, Bool, List, [], Some, sym, ◌∙◌, ap, subst}
use Rattle.std.specs.List.{AllByRecursion}
use Rattle.std.proofs.lemmas.Option.{same_Some}
use Rattle.osi_base.specs.Link.{Link}
use Rattle.script_journal.specs.Lawful.{shown}
use Rattle.script_journal.specs.declared.event.Event.{Event as JournalEvent}
use Rattle.tpdu.specs.Values.{destination_of, format_for}
use Rattle.tpdu.specs.Writing.{IsAllowed}
use Rattle.tpdu.specs.declared.tpdu.Tpdu.{Tpdu as WireTpdu}
use Rattle.tp4_number.specs.Number.{whole}
use Rattle.tp4_flow.specs.declared.step.EndEvent.{EndEvent}
use Rattle.tp4_flow.specs.declared.step.Sent.{Sent}
use Rattle.tp4_conn.specs.Table.{Took}
use Rattle.tp4_conn.specs.declared.timers.Timers.{Timers}
use Rattle.tp4_entity.specs.Association.{met}
use Rattle.tp4_entity.specs.Entity.{Acted, Entity, at, end_at}
use Rattle.tp4_entity.specs.Unit.{extended_of}
use Rattle.law_tp4_history.specs.Tracks.{Whole}
use Rattle.law_tp4_history.specs.Moves.{HasSource, IsSourced}
use Rattle.law_tp4_history.specs.Seen.{seen}
use Rattle.tp4_world.specs.Telling.{ends_after, events_after}
use Rattle.tp4_world.specs.World.{World, entity_at, latest}
use Rattle.tp4_world.specs.declared.place.EndAt.{EndAt}
use Rattle.law_tp4_lawful.proofs.Worlds.{Explains}
use Rattle.law_recovery_run.specs.Aside.{AreFacing, IsBeside, IsSentTo, LeavesAside, Names}
use Rattle.law_recovery_run.proofs.Aiming.{Going}
use Rattle.law_recovery_run.proofs.Aside.{stays_aside}
use Rattle.law_recovery_run.proofs.Beside.{IsUntold, untold}

-- all that it leaves of the end
pub record Leaves {C : Type 0} (last : World C) (x y : ℕ) (f : AreFacing last x y) (system : ℕ) (entity : Entity) (acted : Acted) : Type 0 where
  pub same : system ≡ f.own.system → end_at acted.entity f.own.reference ≡ Some f.own.end
  pub none : system ≡ f.own.system → AllByRecursion (λ (sent : Sent). IsSentTo f.theirs.entity.own f.theirs.reference sent → ⊥) acted.tpdus
  pub number : latest (ends_after last.ends system acted.events) f.own.system f.own.reference ≡ x
  pub showed : shown x (events_after last.ends system entity.own acted.events) ≡ []
  pub named : system ≡ f.own.system → AllByRecursion (λ (sent : Sent). Names f.own.reference sent.tpdu → ⊥) acted.tpdus
  pub sourced : AllByRecursion (λ (sent : Sent). HasSource (seen 0 sent.tpdu)) acted.tpdus

module _ {C : Type 0} (link : C → Link (List ℕ)) (titles : List (List ℕ)) (timers : Timers) (w : Whole) (journal : List JournalEvent) (last : World C) (explains : Explains link titles timers w journal last)
    (going : Going) (x y : ℕ) (f : AreFacing last x y) (system : ℕ) (entity : Entity) (there : entity_at last.entities system ≡ Some entity) where
  abbrev now : ℕ
  now = (link last.carrier).clock

  owner : system ≡ f.own.system → f.own.entity ≡ entity
  owner here = same_Some f.own.entity entity (sym f.own.is_end.there ∙ ap (entity_at last.entities) (sym here) ∙ there)

  -- a TPDU as it is read
  pub met_leaves : (from : List ℕ) (t : WireTpdu) (sum : Bool) → (system ≡ f.own.system → from ≡ f.theirs.entity.own → destination_of t ≡ Some f.own.reference → ⊥)
      → (system ≡ f.own.system → from ≡ f.theirs.entity.own → Names f.theirs.reference t → ⊥) → IsAllowed (format_for (extended_of entity) (destination_of t)) t → IsSourced 0 (Took t sum)
      → Leaves last x y f system entity (met whole now (at now entity) from (t, sum))
  met_leaves from t sum other unnamed allowed sourced = record {
    same = λ here. let a = aside here in a.same ∙ ap (λ (z : Entity). end_at z f.own.reference) (sym (owner here)) ∙ f.own.is_end.stands;
    none = λ here. (aside here).none;
    number = u.number;
    showed = u.showed;
    named = u.named;
    sourced = u.sourced;
  }
    where
      u : IsUntold link titles timers w journal last explains going x y f system entity there (met whole now (at now entity) from (t, sum))
      u = untold link titles timers w journal last explains going x y f system entity there from t sum other allowed sourced

      aside : system ≡ f.own.system → LeavesAside entity f.own.reference f.theirs.entity.own f.theirs.reference (met whole now (at now entity) from (t, sum))
      aside here =
          let own : f.own.entity ≡ entity = owner here in
          let beside : IsBeside last x y f from t sum = record {
            other = other here;
            unnamed = unnamed here;
            allowed = subst (λ (z : Entity). IsAllowed (format_for (extended_of z) (destination_of t)) t) (sym own) allowed;
            sourced = sourced;
          } in
          subst (λ (z : Entity). LeavesAside z f.own.reference f.theirs.entity.own f.theirs.reference (met whole now (at now z) from (t, sum))) own
          (stays_aside link titles timers w journal last explains going x y f from t sum beside)

  -- no TPDU
  pub nothing_leaves : (events : List EndEvent) → ends_after last.ends system events ≡ last.ends → shown x (events_after last.ends system entity.own events) ≡ []
      → Leaves last x y f system entity (record { entity = at now entity; events = events; tpdus = [] })
  nothing_leaves events ends_are none = record {
    same = λ here. ap (λ (z : Entity). end_at z f.own.reference) (sym (owner here)) ∙ f.own.is_end.stands;
    none = λ here. tt;
    number = ap (λ (es : List EndAt). latest es f.own.system f.own.reference) ends_are ∙ f.own.is_end.number;
    showed = none;
    named = λ here. tt;
    sourced = tt;
  }
