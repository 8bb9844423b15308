-- A reference that is free at an entity is free in a history: a frozen end whose time is over is released there first. All other places stay as
-- they are known.
use Rattle.std.proofs.Common.{◌≡◌, ◌≢◌, ◌⊎◌, inl, inr, ℕ, ◌+◌, ◌<◌, ◌&&◌, Bool, true, false, List, [], ◌∷◌, length, slice_get, Option, Some, None, refl, sym, ap, subst, ◌∙◌, arith, append-nil}
use Rattle.std.specs.Prelude.{nat_eq}
use Rattle.std.specs.Cmp.Lexicographic.{pointwise}
use Rattle.std.proofs.lemmas.Bool.{cases_eq, eq-eqb}
use Rattle.script_journal.specs.declared.event.Event.{Event}
use Rattle.tp4_conn.specs.declared.states.StateData.TheVariants.{Frozen as FrozenAt}
use Rattle.tp4_conn.specs.declared.timers.Timers.{Timers}
use Rattle.tp4_conn.specs.End.{End, frozen_for}
use Rattle.tp4_entity.specs.Entity.{Entity, end_at}
use Rattle.tp4_entity.specs.Standing.{Empty, IsFreeAt, Over}
use Rattle.law_tp4_history.specs.Ends.{frozen, Terms, Birth, End as Seen}
use Rattle.law_tp4_history.specs.History.{History, IsCaller, IsFree, IsPartner, Release}
use Rattle.law_tp4_history.specs.Journals.{IsAside, Written}
use Rattle.law_tp4_history.specs.Tracks.{Whole, Nothing, Moment, onward}
use Rattle.law_tp4_history.proofs.Sound.{at_end}
use Rattle.law_tp4_history.proofs.Written.{written_more}
use Rattle.law_tp4_history.specs.Lines.{Stands}
use Rattle.law_tp4_history.specs.Moves.{Sees, stop_of, times_of}
use Rattle.law_tp4_history.proofs.Beginnings.{frozen_is}
use Rattle.tp4_world.specs.World.{entity_at}
use Rattle.tp4_world.specs.declared.place.EndAt.{EndAt}
use Rattle.tp4_world.specs.declared.place.Placed.{Placed}
use Rattle.law_tp4_lawful.proofs.Known.{AreTerms, HaveBegun, IsKnown, IsListed, IsThere, Known}

-- an end is known as before, in another history
pub kept_known : (w new : Whole) (own : List ℕ) (r : ℕ) (e : End) (is : IsKnown w own r e) → new.base.clock ≡ w.base.clock → new.base.end is.k ≡ w.base.end is.k → is.k < new.base.count
    → ((j : ℕ) → j < new.base.count → (new.base.end j).birth.address ≡ own → (new.base.end j).birth.reference ≡ r → (new.base.end j).is_out ≡ false
    → (j < w.base.count) × (w.base.end j ≡ new.base.end j))
    → ((z : ℕ) (terms : Terms) → IsPartner new.base is.k z → AreTerms new.base is.k z terms → Stands terms e.base e.stage (new.track is.k) (new.track z))
    → IsKnown new own r e
kept_known w new own r e is clock same low only stands = record {
  k = is.k;
  at = record {
    low = low;
    address = ap (λ (x : Seen). x.birth.address) same ∙ is.at.address;
    reference_is = ap (λ (x : Seen). x.birth.reference) same ∙ is.at.reference_is;
    held = ap (λ (x : Seen). x.is_out) same ∙ is.at.held;
    only = λ j jlow there by held.
        (let o = only j jlow there by held in
        is.at.only j o.0 (ap (λ (x : Seen). x.birth.address) o.1 ∙ there) (ap (λ (x : Seen). x.birth.reference) o.1 ∙ by) (ap (λ (x : Seen). x.is_out) o.1 ∙ held));
  };
  sees = subst (λ (x : Seen). Sees (times_of e.base.timers) new.base.clock x e) (sym same) (subst (λ (n : ℕ). Sees (times_of e.base.timers) n (w.base.end is.k) e) (sym clock) is.sees);
  proper = is.proper;
  stands = stands;
}

pub no_events : IsAside []
no_events = record { units = λ end. (refl, refl); ends = λ k d low. absurd (omega (arith, low)) }

pub same_address : (xs : List ℕ) → pointwise nat_eq xs xs ≡ true
same_address [] = refl
same_address (x ∷ xs) = ap (λ (b : Bool). b && pointwise nat_eq xs xs) (eq-eqb x x refl) ∙ same_address xs

pub cases_out : (b : Bool) → (b ≡ true) ⊎ (b ≡ false)
cases_out true = inl refl
cases_out false = inr refl

-- partners, and what they agreed on, in a history with as many ends, which are born as before
module _ (h n : History) (born : (k : ℕ) → (n.end k).birth ≡ (h.end k).birth) where
  pub caller_before : (a b : ℕ) → IsCaller (record n { count = h.count }) a b → IsCaller h a b
  caller_before a b p = record {
    a_low = p.a_low;
    b_low = p.b_low;
    called = sym (ap (λ (x : Birth). x.is_called) (born b)) ∙ p.called;
    is = sym (ap (λ (x : Birth). x.caller) (born b)) ∙ p.is;
  }

  pub partner_before : (a b : ℕ) → IsPartner (record n { count = h.count }) a b → IsPartner h a b
  partner_before a b (inl p) = inl (caller_before a b p)
  partner_before a b (inr p) = inr (caller_before b a p)

  pub terms_before : ((k : ℕ) → (n.end k).agreed ≡ (h.end k).agreed) → (a b : ℕ) (terms : Terms) → AreTerms n a b terms → AreTerms h a b terms
  terms_before agreed_on a b terms t = record {
    own = λ called agreed is. t.own (ap (λ (x : Birth). x.is_called) (born a) ∙ called) agreed (agreed_on a ∙ is);
    theirs = λ called agreed is. t.theirs (ap (λ (x : Birth). x.is_called) (born b) ∙ called) agreed (agreed_on b ∙ is);
  }

-- what is known of a network, but for one reference of one system, where no end of the history stands
pub record Freed (titles : List (List ℕ)) (timers : Timers) (w : Whole) (journal : List Event) (entities : List Placed) (ends : List EndAt) (system reference : ℕ) (own : List ℕ) : Type 0 where
  pub new : Whole
  pub clock : new.base.clock ≡ w.base.clock
  pub offers : new.base.offers ≡ w.base.offers
  pub written : Written (times_of timers) titles new journal
  pub restarts : new.base.restarts ≡ w.base.restarts
  pub count : length ends ≡ new.base.count
  pub listed : (k : ℕ) (end : EndAt) → slice_get ends k ≡ Some end → IsListed new.base entities k end
  pub begun : (a b : ℕ) (terms : Terms) → IsCaller new.base a b → (new.base.end b).agreed ≡ Some terms → HaveBegun new a b terms
  pub there : (one r : ℕ) (entity : Entity) → entity_at entities one ≡ Some entity → (one ≡ system → r ≡ reference → ⊥) → IsThere new entity.own r (end_at entity r)
  pub free : IsFree new.base own reference

module _ (titles : List (List ℕ)) (timers : Timers) (w : Whole) (journal : List Event) (entities : List Placed) (ends : List EndAt) (known : Known titles timers w journal entities ends)
    (system reference : ℕ) (entity : Entity) (at : entity_at entities system ≡ Some entity) where
  as_it_is : end_at entity reference ≡ None → Freed titles timers w journal entities ends system reference entity.own
  as_it_is is = record {
    new = w;
    clock = refl;
    offers = refl;
    written = known.written;
    restarts = refl;
    count = known.count;
    listed = known.listed;
    begun = known.begun;
    there = λ one r other has apart. (known.holds one other has).there r;
    free = subst (IsThere w entity.own reference) is ((known.holds system entity at).there reference);
  }

  module _ (e : End) (when : ℕ) (own : IsKnown w entity.own reference e) (timed : e.base.timers ≡ timers) (stage : e.stage ≡ FrozenAt when) (past : when + frozen_for e.base.timers < w.base.clock) where
    abbrev moment : Moment
    moment = record { step = Release own.k; doing = Nothing }

    abbrev after : Whole
    after = onward (times_of timers) w moment

    stopped : (w.base.end own.k).stop ≡ Some when
    stopped = own.sees.stop ∙ ap stop_of stage

    time : frozen (times_of timers) ≡ frozen_for e.base.timers
    time = frozen_is timers ∙ ap frozen_for (sym timed)

    written_after : Written (times_of timers) titles after journal
    written_after =
        subst (Written (times_of timers) titles after) (append-nil journal)
        (written_more (times_of timers) titles w journal moment [] known.written
        (record { may = (own.at.low, (when, stopped, omega (arith, past, time))); lines = record {}; makes = no_events }))

    here : after.base.end own.k ≡ record (w.base.end own.k) { is_out = true }
    here =
        at_end (λ (j : ℕ) (to : Seen). j ≡ own.k → to ≡ record (w.base.end own.k) { is_out = true }) w.base.end own.k (record (w.base.end own.k) { is_out = true }) own.k
        (λ _. refl) (λ different. absurd (different refl)) refl

    other_end : (j : ℕ) → j ≢ own.k → after.base.end j ≡ w.base.end j
    other_end j apart =
        at_end (λ (i : ℕ) (to : Seen). (i ≢ own.k) → to ≡ w.base.end i) w.base.end own.k (record (w.base.end own.k) { is_out = true }) j
        (λ different. absurd (different refl)) (λ _ _. refl) apart

    born : (j : ℕ) → (after.base.end j).birth ≡ (w.base.end j).birth
    born j = at_end (λ (i : ℕ) (to : Seen). to.birth ≡ (w.base.end i).birth) w.base.end own.k (record (w.base.end own.k) { is_out = true }) j refl (λ _. refl)

    agreed_on : (j : ℕ) → (after.base.end j).agreed ≡ (w.base.end j).agreed
    agreed_on j = at_end (λ (i : ℕ) (to : Seen). to.agreed ≡ (w.base.end i).agreed) w.base.end own.k (record (w.base.end own.k) { is_out = true }) j refl (λ _. refl)

    -- what is not out now was not before
    held_before : (j : ℕ) → (after.base.end j).is_out ≡ false → w.base.end j ≡ after.base.end j
    held_before j held = elim (cases_eq j own.k) [
      | inl same ↦ absurd (cc (held, ap (λ (i : ℕ). (after.base.end i).is_out) same, ap (λ (x : Seen). x.is_out) here))
      | inr different ↦ sym (other_end j different)
    ]

    freely : (j : ℕ) (address : List ℕ) (r : ℕ) → IsFree w.base address r → IsFree after.base address r
    freely _ address r free j low there by =
        at_end (λ (i : ℕ) (to : Seen). to.birth.address ≡ address → to.birth.reference ≡ r → i < w.base.count → to.is_out ≡ true) w.base.end own.k (record (w.base.end own.k) { is_out = true }) j
        (λ _ _ _. refl) (λ _ was be ilow. free j ilow was be) there by low

    no_more : IsFree after.base entity.own reference
    no_more j low there by =
        at_end (λ (i : ℕ) (to : Seen). to.birth.address ≡ entity.own → to.birth.reference ≡ reference → i < w.base.count → to.is_out ≡ true) w.base.end own.k (record (w.base.end own.k) { is_out = true }) j
        (λ _ _ _. refl)
        (λ different was be ilow. elim (cases_out (w.base.end j).is_out) [ inl out ↦ out | inr held ↦ absurd (different (own.at.only j ilow was be held)) ])
        there by low

    there_after : (address : List ℕ) (r : ℕ) (place : Option End) → (address ≡ entity.own → r ≡ reference → ⊥) → IsThere w address r place → IsThere after address r place
    there_after address r None apart free = freely 0 address r free
    there_after address r (Some end) apart is =
        let different : is.k ≢ own.k = λ same. apart
        (sym is.at.address ∙ ap (λ (i : ℕ). (w.base.end i).birth.address) same ∙ own.at.address)
        (sym is.at.reference_is ∙ ap (λ (i : ℕ). (w.base.end i).birth.reference) same ∙ own.at.reference_is) in
        kept_known w after address r end is refl (other_end is.k different) is.at.low (λ j low _ _ held. (low, held_before j held))
        (λ z terms p t. is.stands z terms (partner_before w.base after.base born is.k z p) (terms_before w.base after.base born agreed_on is.k z terms t))

    released : Freed titles timers w journal entities ends system reference entity.own
    released = record {
      new = after;
      clock = refl;
      offers = refl;
      written = written_after;
      restarts = refl;
      count = known.count;
      listed = λ k end is.
          (let l = known.listed k end is in
          record {
            entity = l.entity;
            entity_is = l.entity_is;
            address = ap (λ (x : Birth). x.address) (born k) ∙ l.address;
            reference = ap (λ (x : Birth). x.reference) (born k) ∙ l.reference;
          });
      begun = λ a b terms p is. (let was = known.begun a b terms (caller_before w.base after.base born a b p) (sym (agreed_on b) ∙ is) in record { own = was.own; theirs = was.theirs });
      there = λ one r other has apart.
          there_after other.own r (end_at other r) (λ same by. apart (known.apart one system other entity has at same) by) ((known.holds one other has).there r);
      free = no_more;
    }

  by_place : (place : Option End) → end_at entity reference ≡ place → IsFreeAt w.base.clock place → Freed titles timers w journal entities ends system reference entity.own
  by_place place there (Empty is) = as_it_is (there ∙ is)
  by_place place there (Over e when is stage past) =
      let found : end_at entity reference ≡ Some e = there ∙ is in
      let holds = known.holds system entity at in
      released e when (subst (IsThere w entity.own reference) found (holds.there reference)) (holds.theirs reference e found) stage past

  -- where a reference is free at the entity
  pub freed : IsFreeAt w.base.clock (end_at entity reference) → Freed titles timers w journal entities ends system reference entity.own
  freed free = by_place (end_at entity reference) refl free
