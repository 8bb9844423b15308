-- An entity whose clock moves on is explained as before, and its ends are steady.
use Rattle.std.proofs.Common.{◌≡◌, ℕ, List, Some, sym, ap, ◌∙◌, subst, inl, inr}
use Rattle.tp4_conn.specs.declared.timers.Timers.{Timers}
use Rattle.tp4_entity.specs.Entity.{Entity, at}
use Rattle.script_journal.specs.declared.event.Event.{Event}
use Rattle.law_tp4_history.specs.Tracks.{Whole}
use Rattle.tp4_world.specs.World.{entity_at, with_entity}
use Rattle.tp4_world.specs.declared.place.EndAt.{EndAt}
use Rattle.tp4_world.specs.declared.place.Placed.{Placed}
use Rattle.tp4_world.proofs.Having.{with_any}
use Rattle.law_tp4_lawful.proofs.Along.{Grows, IsKept}
use Rattle.law_tp4_lawful.proofs.WorldKnown.{known_at as plain_at, plain_grows}
use Rattle.law_recovery_world.proofs.Known.{HasSeeingEnds, IsOffered, Known}
use Rattle.law_recovery_world.specs.Steady.{AreSteady, HasSteadyEnds}

-- all are steady, where they were and that entity is
pub steady_with : (credit now : ℕ) (entities : List Placed) (system : ℕ) (new : Entity) → AreSteady credit now entities → HasSteadyEnds credit now new
    → AreSteady credit now (with_entity entities system new)
steady_with credit now entities system new all here other x is =
    elim (with_any entities system other new x is) [
      | inl same ↦ subst (HasSteadyEnds credit now) (sym same.1) here
      | inr there ↦ all other x there
    ]

pub known_at : (titles : List (List ℕ)) (timers : Timers) (w : Whole) (journal : List Event) (entities : List Placed) (ends : List EndAt) (known : Known titles timers w journal entities ends)
    (system : ℕ) (entity : Entity) → entity_at entities system ≡ Some entity → Known titles timers w journal (with_entity entities system (at w.base.clock entity)) ends
known_at titles timers w journal entities ends known system entity is = record {
  plain = plain_at titles timers w journal entities ends known.plain system entity is;
  steady = steady_with timers.credit w.base.clock entities system (at w.base.clock entity) known.steady (known.steady system entity is);
  seeing = λ other x there_is. elim (with_any entities system other (at w.base.clock entity) x there_is) [
    | inl same ↦ subst (λ (e : Entity). HasSeeingEnds timers.credit w journal ends other e) (sym same.1) (known.seeing other entity (ap (entity_at entities) same.0 ∙ is))
    | inr there ↦ known.seeing other x there
  ];
  short = known.short;
}

pub late_grows : (timers : Timers) → Grows (IsOffered timers)
late_grows timers old new tick own sent keeps o = record { plain = plain_grows old new tick own sent keeps o.plain; gives = o.gives }

-- so it is what is kept along the calls
pub late_kept : (titles : List (List ℕ)) (timers : Timers) → IsKept titles timers (Known titles timers) (IsOffered timers)
late_kept titles timers = record {
  known = λ w journal entities ends known. known.plain;
  clock = λ w journal entities ends known system entity is. known_at titles timers w journal entities ends known system entity is;
  offered = λ h tick own sent o. o.plain;
  grows = late_grows timers;
}
