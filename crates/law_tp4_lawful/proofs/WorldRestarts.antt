-- An entity begins again: in the history its ends are lost, and no other. What the others know of their partners stays.
use Rattle.std.proofs.Common.{◌≡◌, ◌≢◌, ◌⊎◌, inl, inr, ℕ, true, false, List, [], ◌∷◌, ◌++◌, Option, Some, None, refl, sym, ap, subst, ◌∙◌, arith}
use Rattle.std.specs.Prelude.{nat_eq}
use Rattle.std.specs.Cmp.Lexicographic.{pointwise, same_text}
use Rattle.std.proofs.lemmas.Bool.{cases_eq}
use Rattle.osi_base.specs.Link.{Link}
use Rattle.osi_base.specs.Calls.{Call, Keeps}
use Rattle.script_journal.specs.declared.event.Event.{Event}
use Rattle.script_journal.specs.declared.event.Event.TheVariants as events
use Rattle.tp4_conn.specs.declared.timers.Timers.{Timers}
use Rattle.tp4_conn.specs.End.{End}
use Rattle.tp4_entity.specs.Entity.{Entity, end_at}
use Rattle.tp4_entity.specs.Step.{first_due, restarted}
use Rattle.tp4_entity.proofs.Restarts.{none_stands}
use Rattle.law_tp4_history.specs.Ends.{Birth, End as Seen}
use Rattle.law_tp4_history.specs.History.{IsFree, Restart}
use Rattle.law_tp4_history.specs.Journals.{Written}
use Rattle.law_tp4_history.specs.Tracks.{Whole, Nothing, Moment, onward}
use Rattle.law_tp4_history.proofs.Written.{written_more}
use Rattle.law_tp4_history.specs.Moves.{times_of}
use Rattle.tp4_world.specs.Run.{Restarts}
use Rattle.tp4_world.specs.World.{World, entity_at, with_entity}
use Rattle.tp4_world.specs.declared.place.EndAt.{EndAt}
use Rattle.tp4_world.specs.declared.place.Placed.{Placed}
use Rattle.tp4_world.proofs.Entities.{with_found}
use Rattle.nsap.specs.Address.{is_same_system}
use Rattle.tp4_number.proofs.Past.{if_kept}
use Rattle.law_tp4_lawful.proofs.Known.{AreBegan, Holds, IsListed, IsThere, Known}
use Rattle.law_tp4_lawful.proofs.Along as along
use Rattle.law_tp4_lawful.proofs.Along.{AreAtRest, IsKept, Knowing, Offering}
use Rattle.law_tp4_lawful.proofs.Worlds.{AfterRestart}
use Rattle.law_tp4_lawful.proofs.Frames.{entity_other}
use Rattle.law_tp4_lawful.proofs.MakesFree.{caller_before, kept_known, partner_before, terms_before, same_address}
use Rattle.law_tp4_lawful.proofs.Restarts.{again_began, other_began}
use Rattle.law_tp4_lawful.proofs.WorldActs.{Went}
use Rattle.law_tp4_lawful.proofs.WorldAsides.{are_aside}
use Rattle.law_tp4_lawful.proofs.WorldFloats.{carries_on}
use Rattle.law_tp4_lawful.proofs.WorldKnown.{rest_with}
use Rattle.law_tp4_lawful.proofs.WorldPlaces.{none_some, some_same}

module _ (titles : List (List ℕ)) (timers : Timers) (w : Whole) (journal : List Event) (entities : List Placed) (ends : List EndAt) (known : Known titles timers w journal entities ends)
    (system : ℕ) (entity : Entity) (at : entity_at entities system ≡ Some entity) where
  abbrev next : Entity
  next = restarted w.base.clock entity

  abbrev moment : Moment
  moment = record { step = Restart entity.own; doing = Nothing }

  abbrev after : Whole
  after = onward (times_of timers) w moment

  abbrev made : List Event
  made = events.Restart system ∷ []

  written : Written (times_of timers) titles after (journal ++ made)
  written = written_more (times_of timers) titles w journal moment made known.written
      (record { may = tt; lines = record {}; makes = are_aside made (record { submits = λ end. refl; shows = λ end. refl; makes = refl }, tt) })

  -- ---- an end of the history

  born : (k : ℕ) → (after.base.end k).birth ≡ (w.base.end k).birth
  born k = if_kept (λ (to : Seen). to.birth ≡ (w.base.end k).birth) (pointwise nat_eq (w.base.end k).birth.address entity.own) _ _ (λ _. refl) (λ _. refl)

  agreed_on : (k : ℕ) → (after.base.end k).agreed ≡ (w.base.end k).agreed
  agreed_on k = if_kept (λ (to : Seen). to.agreed ≡ (w.base.end k).agreed) (pointwise nat_eq (w.base.end k).birth.address entity.own) _ _ (λ _. refl) (λ _. refl)

  -- one of the entity is out
  gone : (k : ℕ) → (w.base.end k).birth.address ≡ entity.own → (after.base.end k).is_out ≡ true
  gone k is =
      if_kept (λ (to : Seen). to.is_out ≡ true) (pointwise nat_eq (w.base.end k).birth.address entity.own) _ _ (λ _. refl)
      (λ no. absurd (let yes : pointwise nat_eq (w.base.end k).birth.address entity.own ≡ true = ap (λ (xs : List ℕ). pointwise nat_eq xs entity.own) is ∙ same_address entity.own in
      let clash : false ≡ true = sym no ∙ yes in cc clash))

  -- another one is as it was
  stays : (k : ℕ) → ((w.base.end k).birth.address ≡ entity.own → ⊥) → after.base.end k ≡ w.base.end k
  stays k apart =
      if_kept (λ (to : Seen). to ≡ w.base.end k) (pointwise nat_eq (w.base.end k).birth.address entity.own) _ _
      (λ yes. absurd (apart (same_text (w.base.end k).birth.address entity.own (sym yes)))) (λ _. refl)

  -- what is not out now is as it was
  held_before : (k : ℕ) → (after.base.end k).is_out ≡ false → w.base.end k ≡ after.base.end k
  held_before k held =
      if_kept (λ (to : Seen). to.is_out ≡ false → w.base.end k ≡ to) (pointwise nat_eq (w.base.end k).birth.address entity.own) _ _
      (λ _ out. absurd (let clash : true ≡ false = out in cc clash)) (λ _ _. refl) held

  out_before : (k : ℕ) → (w.base.end k).is_out ≡ true → (after.base.end k).is_out ≡ true
  out_before k out = if_kept (λ (to : Seen). to.is_out ≡ true) (pointwise nat_eq (w.base.end k).birth.address entity.own) _ _ (λ _. refl) (λ _. out)

  -- ---- places

  no_more : (r : ℕ) → IsFree after.base entity.own r
  no_more r k low there by = gone k (sym (ap (λ (x : Birth). x.address) (born k)) ∙ there)

  freely : (address : List ℕ) (r : ℕ) → IsFree w.base address r → IsFree after.base address r
  freely address r free k low there by =
      out_before k (free k low (sym (ap (λ (x : Birth). x.address) (born k)) ∙ there) (sym (ap (λ (x : Birth). x.reference) (born k)) ∙ by))

  there_after : (address : List ℕ) → (address ≡ entity.own → ⊥) → (r : ℕ) (place : Option End) → IsThere w address r place → IsThere after address r place
  there_after address apart r None free = freely address r free
  there_after address apart r (Some e) is =
      kept_known w after address r e is refl (stays is.k (λ same. apart (sym is.at.address ∙ same))) is.at.low (λ j low _ _ held. (low, held_before j held))
      (λ z terms p t. is.stands z terms (partner_before w.base after.base born is.k z p) (terms_before w.base after.base born agreed_on is.k z terms t))

  own_holds : Holds timers after next
  own_holds = record {
    timers_are = (known.holds system entity at).timers_are;
    clock = omega arith;
    there = λ r. subst (IsThere after entity.own r) (sym (none_stands w.base.clock r entity)) (no_more r);
    theirs = λ r e is. absurd (none_some e (sym (none_stands w.base.clock r entity) ∙ is));
  }

  -- ---- the entities

  -- it is the one that began again, or it was there
  was : (other : ℕ) (x : Entity) → entity_at (with_entity entities system next) other ≡ Some x
      → ((other ≡ system) × (next ≡ x)) ⊎ ((other ≢ system) × (entity_at entities other ≡ Some x))
  was other x is = elim (cases_eq other system) [
    | inl same ↦ inl (same, some_same next x (sym (with_found entities system entity next at) ∙ ap (entity_at (with_entity entities system next)) (sym same) ∙ is))
    | inr apart ↦ inr (apart, sym (entity_other entities system other next apart) ∙ is)
  ]

  apart_own : (other : ℕ) (x : Entity) → other ≢ system → entity_at entities other ≡ Some x → x.own ≡ entity.own → ⊥
  apart_own other x apart is same = apart (known.apart other system x entity is at same)

  holds_after : (other : ℕ) (x : Entity) → entity_at (with_entity entities system next) other ≡ Some x → Holds timers after x
  holds_after other x is = elim (was other x is) [
    | inl here ↦ subst (Holds timers after) here.1 own_holds
    | inr there ↦
        (let h = known.holds other x there.1 in
        record { timers_are = h.timers_are; clock = h.clock; there = λ r. there_after x.own (apart_own other x there.0 there.1) r (end_at x r) (h.there r); theirs = h.theirs })
  ]

  began_after : (other : ℕ) (x : Entity) → entity_at (with_entity entities system next) other ≡ Some x → AreBegan after.base.clock after.base.restarts x
  began_after other x is = elim (was other x is) [
    | inl here ↦ subst (AreBegan after.base.clock after.base.restarts) here.1 (again_began w.base.clock w.base.restarts entity (known.restarts system entity at))
    | inr there ↦ other_began w.base.clock w.base.restarts x entity.own (λ same. apart_own other x there.0 there.1 (sym same)) (known.restarts other x there.1)
  ]

  listed_after : (k : ℕ) (end : EndAt) → IsListed w.base entities k end → IsListed after.base (with_entity entities system next) k end
  listed_after k end l = elim (cases_eq end.system system) [
    | inl same ↦
        (let one : l.entity ≡ entity = some_same l.entity entity (sym l.entity_is ∙ ap (entity_at entities) same ∙ at) in
        record {
          entity = next;
          entity_is = ap (entity_at (with_entity entities system next)) same ∙ with_found entities system entity next at;
          address = ap (λ (x : Birth). x.address) (born k) ∙ l.address ∙ ap (λ (x : Entity). x.own) one;
          reference = ap (λ (x : Birth). x.reference) (born k) ∙ l.reference;
        })
    | inr apart ↦ record {
      entity = l.entity;
      entity_is = entity_other entities system end.system next apart ∙ l.entity_is;
      address = ap (λ (x : Birth). x.address) (born k) ∙ l.address;
      reference = ap (λ (x : Birth). x.reference) (born k) ∙ l.reference;
    }
  ]

  -- the entity that stood there, at the same address
  before : (other : ℕ) (x : Entity) → entity_at (with_entity entities system next) other ≡ Some x → (old : Entity) × (entity_at entities other ≡ Some old) × (old.own ≡ x.own)
  before other x is = elim (was other x is) [
    | inl here ↦ (entity, ap (entity_at entities) here.0 ∙ at, ap (λ (y : Entity). y.own) here.1)
    | inr there ↦ (x, there.1, refl)
  ]

  begins_again : Known titles timers after (journal ++ made) (with_entity entities system next) ends
  begins_again = record {
    written = written;
    restarts = began_after;
    count = known.count;
    listed = λ k end is. listed_after k end (known.listed k end is);
    holds = holds_after;
    apart = λ one other x y has have same.
        (let first = before one x has in
        let second = before other y have in
        known.apart one other first.0 second.0 first.1 second.1 (first.2 ∙ same ∙ sym second.2));
    titled = λ other x is.
        (let old = before other x is in
        let t = known.titled other old.0 old.1 in
        (t.0, t.1, subst (λ (own : List ℕ). is_same_system t.0 own ≡ true) old.2 t.2));
    begun = λ a b terms p is. (let was = known.begun a b terms (caller_before w.base after.base born a b p) (sym (agreed_on b) ∙ is) in record { own = was.own; theirs = was.theirs });
  }

pub after_restart : (titles : List (List ℕ)) (timers : Timers) → AfterRestart titles timers
after_restart titles timers w journal entities ends system entity known at = begins_again titles timers w journal entities ends known system entity at

-- ---- the network

module _ (titles : List (List ℕ)) (timers : Timers) (Knows : Knowing) (Offered : Offering) (kept : IsKept titles timers Knows Offered) {C : Type 0} (link : C → Link (List ℕ)) (steps : C → Call (List ℕ) → C → Type 0)
    (law : (old : C) (call : Call (List ℕ)) (new : C) → steps old call new → Keeps (link old) call (link new)) (aside : along.AfterAside timers Knows Offered) (restarts : along.AfterRestart timers Knows Offered) where
  pub restart_goes : (w : Whole) (old new : World C) (journal made : List Event) (system : ℕ) → along.Explains timers Knows Offered link w journal old → Restarts link steps old system made new
      → Went titles timers Knows Offered kept link steps law aside w (journal ++ made) new
  restart_goes w old new journal made system e step =
      let next : Whole = onward (times_of timers) w (record { step = Restart step.0.own; doing = Nothing }) in
      let on : World C = record old { entities = with_entity old.entities system (restarted w.base.clock step.0) } in
      let is : new ≡ on = step.3 ∙ ap (λ (n : ℕ). record old { entities = with_entity old.entities system (restarted n step.0) }) e.carries.clock in
      subst (λ (x : World C). Went titles timers Knows Offered kept link steps law aside w (journal ++ made) x) (sym is)
      (subst (λ (xs : List Event). Went titles timers Knows Offered kept link steps law aside w (journal ++ xs) on) (sym step.2)
      (record {
        next = next;
        goes_on = record { clock = refl; offers = λ offer there. there };
        explains = record {
          known = restarts w journal old.entities old.ends system step.0 e.known step.1;
          carries = carries_on Offered kept.grows timers.life w.base next.base (link old.carrier) (record { clock = refl; offers = λ offer there. there }) e.carries;
        };
      }))

-- and all are at rest
pub restart_rests : {C : Type 0} (link : C → Link (List ℕ)) (steps : C → Call (List ℕ) → C → Type 0) (Sound : Entity → Type 0) (now : ℕ) (old new : World C) (told : List Event) (system : ℕ)
    → (link old.carrier).clock ≡ now → AreAtRest Sound now old.entities → ((e : Entity) → Sound e → Sound (restarted now e) × (first_due now (restarted now e) ≡ None)) → Restarts link steps old system told new
    → AreAtRest Sound now new.entities
restart_rests {C} link steps Sound now old new told system clock rested rests step =
    let is : new ≡ record old { entities = with_entity old.entities system (restarted now step.0) } =
    step.3 ∙ ap (λ (n : ℕ). record old { entities = with_entity old.entities system (restarted n step.0) }) clock in
    subst (λ (x : World C). AreAtRest Sound now x.entities) (sym is)
    (rest_with Sound now old.entities system (restarted now step.0) rested (rests step.0 (rested system step.0 step.1).0))
