-- The end of a number stands at the place where it was made, as long as no later end was made there; where the numbers of ends are those of associations, it
-- is an end of the association that has its number.
use Rattle.std.proofs.Common.{◌≡◌, ◌<◌, ℕ, ◌==◌, Bool, true, false, if◌then◌else◌, List, length, Option, Some, None, refl, ◌∙◌, ap, subst, arith}
use Rattle.std.specs.Prelude.{option_and_then}
use Rattle.std.proofs.lemmas.Option.{slice_get_within}
use Rattle.tp4_conn.specs.End.{End}
use Rattle.tp4_conn.specs.declared.timers.Timers.{Timers}
use Rattle.tp4_entity.specs.Entity.{Entity, end_at}
use Rattle.tp4_world.specs.World.{World, end_numbered, entity_at, latest}
use Rattle.tp4_world.specs.declared.place.EndAt.{EndAt}
use Rattle.tp4_world.specs.declared.place.Placed.{Placed}
use Rattle.law_tp4_associations.specs.Association.{Association, Posted}
use Rattle.law_tp4_associations.specs.Standing.{IsParty, Standing, StandsAt}
use Rattle.law_calm_run.specs.Service.{end_at_number, end_placed}
use Rattle.law_calm_run.proofs.Story.{AreNumbered, Numbers}
use Rattle.law_calm_run.proofs.Continuing.{none_some}

-- the end of that number stands here
pub record IsWhere (placed : List Placed) (ends : List EndAt) (number : ℕ) (end : End) : Type 0 where
  pub place : EndAt
  pub stands : StandsAt placed place.system place.reference end
  pub number_is : latest ends place.system place.reference ≡ number

pub where_it_stands : {C : Type 0} (world : World C) (number : ℕ) (end : End) → end_at_number world number ≡ Some end → IsWhere world.entities world.ends number end
where_it_stands {C} world number end is = by_place (end_numbered world.ends number) is
  where
    by_entity : (place : EndAt) (o : Option Entity) → entity_at world.entities place.system ≡ o → option_and_then (λ (e : Entity). end_at e place.reference) o ≡ Some end
        → StandsAt world.entities place.system place.reference end
    by_entity place None there at = absurd (none_some end at)
    by_entity place (Some e) there at = (e, there, at)

    by_latest : (place : EndAt) (same : Bool) → (latest world.ends place.system place.reference == number) ≡ same
        → (if same then option_and_then (λ (e : Entity). end_at e place.reference) (entity_at world.entities place.system) else None) ≡ Some end → IsWhere world.entities world.ends number end
    by_latest place true same at = record { place = place; stands = by_entity place (entity_at world.entities place.system) refl at; number_is = grind arith }
    by_latest place false same at = absurd (none_some end at)

    by_place : (o : Option EndAt) → end_placed world number o ≡ Some end → IsWhere world.entities world.ends number end
    by_place None at = absurd (none_some end at)
    by_place (Some place) at = by_latest place (latest world.ends place.system place.reference == number) refl at

-- it is the party of its association
pub party_of : (timers : Timers) (own : ℕ → List ℕ) (now : ℕ) (placed : List Placed) (ends : List EndAt) (all : List Association) (queue : List Posted) (number : Numbers) → Standing timers own now placed all queue
    → AreNumbered ends all number → (k : ℕ) (by : Bool) (n : ℕ) (end : End) → k < length all → number k by ≡ Some n → (w : IsWhere placed ends n end) → IsParty all k by w.place.system w.place.reference end
party_of timers own now placed ends all queue number standing numbered k by n end low n_is w =
    let p = standing.known w.place.system w.place.reference end w.stands in
    let party_is : IsParty all p.0 p.1 w.place.system w.place.reference end = p.2 in
    let n_there : number p.0 p.1 ≡ Some n =
    numbered.party_is p.0 party_is.a p.1 end party_is.is party_is.end_is
    ∙ ap (λ (i : ℕ). Some (latest ends i end.base.own)) party_is.system_is
    ∙ ap (λ (i : ℕ). Some (latest ends w.place.system i)) party_is.reference_is
    ∙ ap (λ (i : ℕ). Some i) w.number_is in
    let both = numbered.one p.0 k p.1 by n (slice_get_within all p.0 party_is.a party_is.is) low n_there n_is in
    subst (λ (side : Bool). IsParty all k side w.place.system w.place.reference end) both.1
    (subst (λ (j : ℕ). IsParty all j p.1 w.place.system w.place.reference end) both.0 party_is)
