-- A history explains an entity whose clock moves on as it did before; so it is what is kept along the calls.
use Rattle.std.proofs.Common.{◌≡◌, ℕ, ◌==◌, Bool, true, false, List, Some, None, refl, sym, ◌∙◌, ap, subst, inl, inr, arith}
use Rattle.std.proofs.lemmas.Bool.{eqb-true}
use Rattle.nsap.specs.Address.{is_same_system}
use Rattle.script_journal.specs.declared.event.Event.{Event}
use Rattle.tp4_conn.specs.declared.timers.Timers.{Timers}
use Rattle.tp4_entity.specs.Entity.{Entity, at}
use Rattle.tp4_entity.specs.Step.{first_due}
use Rattle.law_tp4_history.specs.Tracks.{Whole}
use Rattle.tp4_world.specs.World.{entity_at, with_entity}
use Rattle.tp4_world.specs.declared.place.EndAt.{EndAt}
use Rattle.tp4_world.specs.declared.place.Placed.{Placed}
use Rattle.law_tp4_lawful.proofs.Known.{AreBegan, Holds, IsListed, IsOffered, Known}
use Rattle.law_tp4_lawful.proofs.Along.{AreAtRest, Grows, IsKept}
use Rattle.law_tp4_lawful.proofs.WorldPlaces.{some_same}
use Rattle.tp4_world.proofs.Having.{with_any, with_first, with_other}
use Rattle.law_tp4_lawful.proofs.Restarts.{same_began}

-- all are at rest, where they were and that entity is
pub rest_with : (Sound : Entity → Type 0) (now : ℕ) (entities : List Placed) (system : ℕ) (new : Entity) → AreAtRest Sound now entities → Sound new × (first_due now new ≡ None)
    → AreAtRest Sound now (with_entity entities system new)
rest_with Sound now entities system new rest here other x is =
    elim (with_any entities system other new x is) [
      | inl same ↦ subst (λ (e : Entity). Sound e × (first_due now e ≡ None)) (sym same.1) here
      | inr there ↦ rest other x there
    ]

module _ (titles : List (List ℕ)) (timers : Timers) (w : Whole) (journal : List Event) (entities : List Placed) (ends : List EndAt) (known : Known titles timers w journal entities ends) where
  module _ (system : ℕ) (old new : Entity) (is : entity_at entities system ≡ Some old) (same : new.own ≡ old.own) (began : new.restarted ≡ old.restarted) where
    -- what stood there before
    before : (other : ℕ) (x : Entity) → entity_at (with_entity entities system new) other ≡ Some x → (y : Entity) × (entity_at entities other ≡ Some y) × (x.own ≡ y.own)
    before other x at =
        elim (with_any entities system other new x at) [
          | inl here ↦ (old, ap (entity_at entities) here.0 ∙ is, ap (λ (e : Entity). e.own) here.1 ∙ same)
          | inr there ↦ (x, there, refl)
        ]

    listed_on : (k : ℕ) (end : EndAt) → IsListed w.base entities k end → IsListed w.base (with_entity entities system new) k end
    listed_on k end l = by_system (end.system == system) refl
      where
        by_system : (here : Bool) → (end.system == system) ≡ here → IsListed w.base (with_entity entities system new) k end
        by_system true here =
            let at : end.system ≡ system = eqb-true end.system system here in
            let one : l.entity ≡ old = some_same l.entity old (sym l.entity_is ∙ ap (entity_at entities) at ∙ is) in
            record {
              entity = new;
              entity_is = ap (entity_at (with_entity entities system new)) at ∙ with_first entities system new old is;
              address = l.address ∙ ap (λ (e : Entity). e.own) one ∙ sym same;
              reference = l.reference;
            }
        by_system false here = record { entity = l.entity; entity_is = with_other entities system end.system new here ∙ l.entity_is; address = l.address; reference = l.reference }

    pub known_with : Holds timers w new → Known titles timers w journal (with_entity entities system new) ends
    known_with holds = record {
      written = known.written;
      restarts = λ other x at.
          elim (with_any entities system other new x at) [
            | inl here ↦ subst (AreBegan w.base.clock w.base.restarts) (sym here.1) (same_began w.base.clock w.base.restarts old new same began (known.restarts system old is))
            | inr there ↦ known.restarts other x there
          ];
      count = known.count;
      listed = λ k end at. listed_on k end (known.listed k end at);
      holds = λ other x at.
          elim (with_any entities system other new x at) [
            | inl here ↦ subst (Holds timers w) (sym here.1) holds
            | inr there ↦ known.holds other x there
          ];
      apart = λ one other x y at_one at_other own.
          let first = before one x at_one in
          let second = before other y at_other in
          known.apart one other first.0 second.0 first.1 second.1 (sym first.2 ∙ own ∙ second.2);
      begun = known.begun;
      titled = λ other x at.
          let there = before other x at in
          let title = known.titled other there.0 there.1 in
          (title.0, title.1, subst (λ (own : List ℕ). is_same_system title.0 own ≡ true) (sym there.2) title.2);
    }

  -- the clock of an entity moves on
  pub known_at : (system : ℕ) (entity : Entity) → entity_at entities system ≡ Some entity → Known titles timers w journal (with_entity entities system (at w.base.clock entity)) ends
  known_at system entity is =
      let holds = known.holds system entity is in
      known_with system entity (at w.base.clock entity) is refl refl (record { timers_are = holds.timers_are; clock = omega arith; there = holds.there; theirs = holds.theirs })

-- what was offered stays so, where no offer is taken away
pub plain_grows : Grows IsOffered
plain_grows old new tick own sent keeps o = record {
  offer = o.offer;
  n = o.n;
  offered = keeps o.offer o.offered;
  tick_is = o.tick_is;
  from_is = o.from_is;
  to_is = o.to_is;
  seen_as = o.seen_as;
  numbered = o.numbered;
  format = o.format;
  sendable = o.sendable;
}

-- a history that explains the ends, and no more
pub plain_kept : (titles : List (List ℕ)) (timers : Timers) → IsKept titles timers (Known titles timers) IsOffered
plain_kept titles timers = record {
  known = λ w journal entities ends known. known;
  clock = λ w journal entities ends known system entity is. known_at titles timers w journal entities ends known system entity is;
  offered = λ h tick own sent o. o;
  grows = plain_grows;
}
