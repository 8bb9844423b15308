-- The reference that is given to a new end is the least free one of its entity: no end that has to keep its reference stands there.
use Rattle.std.proofs.Common.{◌≡◌, ℕ, ◌-◌, Bool, true, false, if◌then◌else◌, List, slice_get, Some, None, sym, ◌∙◌, ap}
use Rattle.tp4_conn.specs.End.{End}
use Rattle.tp4_conn.specs.declared.timers.Timers.{Timers}
use Rattle.tp4_entity.specs.Entity.{Entity, end_at, there}
use Rattle.tp4_entity.specs.References.{is_free_place, least_free}
use Rattle.tp4_world.specs.World.{entity_at}
use Rattle.tp4_world.specs.declared.place.Placed.{Placed}
use Rattle.law_tp4_associations.specs.Association.{Association, Posted}
use Rattle.law_tp4_associations.specs.Standing.{Standing, StandsAt}
use Rattle.law_tp4_associations.proofs.Spots.{least_is}
use Rattle.law_calm_run.proofs.Continuing.{some_same}
use Rattle.law_calm_run.proofs.Making.{IsFree}

module _ (now : ℕ) (entities : List Placed) (system : ℕ) (e : Entity) (there_is : entity_at entities system ≡ Some e) (reference : ℕ) (free : least_free now e ≡ Some reference) where
  -- an end that stands there is one whose place is free
  pub free_place : (end : End) → StandsAt entities system reference end → is_free_place now (Some end) ≡ true
  free_place end stands =
      let e_is : stands.0 ≡ e = some_same stands.0 e (sym stands.1 ∙ there_is) in
      let end_is : end_at e reference ≡ Some end = ap (λ (x : Entity). end_at x reference) (sym e_is) ∙ stands.2 in
      let least = least_is now e reference free in
      let found : end_at e reference ≡ least.old =
      ap (λ (zeroth : Bool). if zeroth then None else there (slice_get e.ends (reference - 1))) least.some ∙ ap there least.at in
      ap (is_free_place now) (sym end_is ∙ found) ∙ least.free

  pub is_freed : (timers : Timers) (own : ℕ → List ℕ) (all : List Association) (queue : List Posted) → Standing timers own now entities all queue → IsFree now all system reference
  is_freed timers own all queue s k a y at y_is to_is own_is held =
      never (sym (free_place y (s.stand k false system reference y (record { a = a; is = at; end_is = y_is; system_is = to_is; reference_is = own_is }))) ∙ held)
    where
      never : true ≡ false → ⊥
      never is = cc is
