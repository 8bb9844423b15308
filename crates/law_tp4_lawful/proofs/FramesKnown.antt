-- What a step of a history leaves of what stands beside it: where no end is made each end keeps its birth, what it agreed on, and its place.
use Rattle.std.proofs.Common.{◌≡◌, inl, inr, ℕ, zero, suc, ◌+◌, ◌<◌, ◌≤◌, Bool, true, false, if◌then◌else◌, List, [], ◌∷◌, ◌++◌, length, slice_get, get_or, Option, Some, None, refl, sym, ◌∙◌, ap, subst, arith}
use Rattle.std.proofs.lemmas.Bool.{and_parts, cases_eq, eq-eqb, eqb-true, and_from, false_from_ne_true}
use Rattle.std.proofs.lemmas.Option.{slice_get-get_or, slice_get_within}
use Rattle.nsap.specs.Address.{is_same_system}
use Rattle.script_journal.specs.declared.event.Event.{Event}
use Rattle.tp4_conn.specs.End.{End as ConnEnd}
use Rattle.tp4_conn.specs.declared.timers.Timers.{Timers}
use Rattle.tp4_entity.specs.Entity.{Entity, end_at, with_end}
use Rattle.law_tp4_history.specs.Ends.{Birth, End, Terms}
use Rattle.law_tp4_history.specs.History.{History, IsCaller, IsFree, IsPartner, next}
use Rattle.law_tp4_history.specs.Journals.{Written}
use Rattle.law_tp4_history.specs.Tracks.{Whole}
use Rattle.law_tp4_history.proofs.Agreed.{Stay}
use Rattle.law_tp4_history.proofs.Later.{IsLater}
use Rattle.law_tp4_history.proofs.Written.{Kept, written_kept}
use Rattle.law_tp4_history.specs.Lines.{Stands}
use Rattle.law_tp4_history.specs.Moves.{Sees, times_of}
use Rattle.law_tp4_history.proofs.Beginnings.{fit_times}
use Rattle.tp4_world.specs.World.{entity_at, is_at, latest, latest_from, with_entity}
use Rattle.tp4_world.specs.declared.place.EndAt.{EndAt}
use Rattle.tp4_world.specs.declared.place.Placed.{Placed}
use Rattle.tp4_world.proofs.Entities.{with_found}
use Rattle.law_tp4_lawful.proofs.Acting.{IsLike}
use Rattle.law_tp4_lawful.proofs.Known.{AreTerms, HaveBegun, Holds, IsEndAt, IsKnown, IsThere, Known, AreBegan}
use Rattle.law_tp4_lawful.proofs.Frames.{AreOwners, entity_other, place_other, place_there}
use Rattle.law_tp4_lawful.proofs.Restarts.{later_began, same_began}

-- what a step leaves of a history
pub record Frames (old new : History) : Type 0 where
  pub later : IsLater old new
  pub count : new.count ≡ old.count
  pub stay : Stay old new
  pub restarts : new.restarts ≡ old.restarts

module _ (old new : History) (f : Frames old new) where
  pub low_back : (k : ℕ) → k < new.count → k < old.count
  low_back k low = omega (arith, low, f.count)

  pub address_on : (k : ℕ) → k < old.count → (new.end k).birth.address ≡ (old.end k).birth.address
  address_on k low = ap (λ (b : Birth). b.address) (f.later.end k low).birth

  pub reference_on : (k : ℕ) → k < old.count → (new.end k).birth.reference ≡ (old.end k).birth.reference
  reference_on k low = ap (λ (b : Birth). b.reference) (f.later.end k low).birth

  held_back : (k : ℕ) → k < old.count → (new.end k).is_out ≡ false → (old.end k).is_out ≡ false
  held_back k low held = false_from_ne_true _ (λ out. cc (held, (f.later.end k low).out out))

  pub at_on : (own : List ℕ) (reference k : ℕ) → (new.end k).is_out ≡ false → IsEndAt old own reference k → IsEndAt new own reference k
  at_on own reference k held at = record {
    low = omega (arith, at.low, f.count);
    address = address_on k at.low ∙ at.address;
    reference_is = reference_on k at.low ∙ at.reference_is;
    held = held;
    only = λ j low address ref stands. (let was = low_back j low in at.only j was (sym (address_on j was) ∙ address) (sym (reference_on j was) ∙ ref) (held_back j was stands));
  }

  pub free_on : (own : List ℕ) (reference : ℕ) → IsFree old own reference → IsFree new own reference
  free_on own reference free k low address ref = let was = low_back k low in (f.later.end k was).out (free k was (sym (address_on k was) ∙ address) (sym (reference_on k was) ∙ ref))

  pub calls_back : (a b : ℕ) → IsCaller new a b → IsCaller old a b
  calls_back a b p = record {
    a_low = low_back a p.a_low;
    b_low = low_back b p.b_low;
    called = sym (ap (λ (x : Birth). x.is_called) (f.later.end b (low_back b p.b_low)).birth) ∙ p.called;
    is = sym (ap (λ (x : Birth). x.caller) (f.later.end b (low_back b p.b_low)).birth) ∙ p.is;
  }

  pub partner_back : (x z : ℕ) → IsPartner new x z → IsPartner old x z
  partner_back x z (inl p) = inl (calls_back x z p)
  partner_back x z (inr p) = inr (calls_back z x p)

  pub terms_back : (k z : ℕ) (terms : Terms) → k < old.count → z < old.count → AreTerms new k z terms → AreTerms old k z terms
  terms_back k z terms klow zlow are = record {
    own = λ called agreed is. are.own (ap (λ (x : Birth). x.is_called) (f.later.end k klow).birth ∙ called) agreed (f.stay k agreed klow is);
    theirs = λ called agreed is. are.theirs (ap (λ (x : Birth). x.is_called) (f.later.end z zlow).birth ∙ called) agreed (f.stay z agreed zlow is);
  }

-- both ends of a pair are made
pub pair_low : (h : History) (x z : ℕ) → IsPartner h x z → (x < h.count) × (z < h.count)
pair_low h x z (inl p) = (p.a_low, p.b_low)
pair_low h x z (inr p) = (p.b_low, p.a_low)

-- an end whose end in the history stays
pub known_stays : (w new : Whole) (f : Frames w.base new.base) (own : List ℕ) (reference : ℕ) (e : ConnEnd) (known : IsKnown w own reference e) → new.base.clock ≡ w.base.clock → new.base.end known.k ≡ w.base.end known.k
    → ((z : ℕ) (terms : Terms) → IsPartner new.base known.k z → AreTerms new.base known.k z terms → Stands terms e.base e.stage (new.track known.k) (new.track z)) → IsKnown new own reference e
known_stays w new f own reference e known clock same stands = record {
  k = known.k;
  at = at_on w.base new.base f own reference known.k (ap (λ (x : End). x.is_out) same ∙ known.at.held) known.at;
  sees = subst (λ (n : ℕ). Sees (times_of e.base.timers) n (new.base.end known.k) e) (sym clock) (subst (λ (x : End). Sees (times_of e.base.timers) w.base.clock x e) (sym same) known.sees);
  proper = known.proper;
  stands = stands;
}

-- ---- the latest end at a reference

none_later : (next found : ℕ) (ends : List EndAt) (system reference : ℕ) → ((j : ℕ) (end : EndAt) → slice_get ends j ≡ Some end → is_at system reference end ≡ false) → latest_from next found ends system reference ≡ found
none_later next found [] system reference none = refl
none_later next found (end ∷ ends) system reference none =
    none_later (next + 1) (if is_at system reference end then next else found) ends system reference (λ j. none (suc j)) ∙ ap (λ (b : Bool). if b then next else found) (none 0 end refl)

last_there : (next found : ℕ) (ends : List EndAt) (system reference k : ℕ) (end : EndAt) → slice_get ends k ≡ Some end → is_at system reference end ≡ true
    → ((j : ℕ) (other : EndAt) → k < j → slice_get ends j ≡ Some other → is_at system reference other ≡ false) → latest_from next found ends system reference ≡ next + k
last_there next found [] system reference k end is at last = absurd cc
last_there next found (one ∷ ends) system reference zero end is at last =
    let same : one ≡ end = cc is in
    none_later (next + 1) (if is_at system reference one then next else found) ends system reference (λ j other there. last (suc j) other (omega arith) there)
    ∙ ap (λ (b : Bool). if b then next else found) (ap (is_at system reference) same ∙ at)
    ∙ omega arith
last_there next found (one ∷ ends) system reference (suc k) end is at last =
    last_there (next + 1) (if is_at system reference one then next else found) ends system reference k end is at (λ j other up there. last (suc j) other (omega (arith, up)) there) ∙ omega arith

same_entity : (one other : Entity) → Some one ≡ Some other → one ≡ other
same_entity one other e = cc e

-- ---- what is known

module _ (titles : List (List ℕ)) (timers : Timers) (w : Whole) (journal : List Event) (entities : List Placed) (ends : List EndAt) (known : Known titles timers w journal entities ends) where
  pub keeps : Kept (times_of timers) titles w journal
  keeps = written_kept (times_of timers) titles w journal (fit_times timers) known.written

  -- the number of the end that stands at a reference
  pub number_at : (system : ℕ) (entity : Entity) (reference k : ℕ) → entity_at entities system ≡ Some entity → IsEndAt w.base entity.own reference k → latest ends system reference ≡ k + 1
  number_at system entity reference k is at =
      let low : k < length ends = omega (arith, at.low, known.count) in
      let end : EndAt = get_or ends k (record { system = 0; reference = 0 }) in
      let there : slice_get ends k ≡ Some end = slice_get-get_or ends k (record { system = 0; reference = 0 }) low in
      let l = known.listed k end there in
      let systems : end.system ≡ system = known.apart end.system system l.entity entity l.entity_is is (sym l.address ∙ at.address) in
      let references : end.reference ≡ reference = sym l.reference ∙ at.reference_is in
      last_there 1 0 ends system reference k end there (and_from _ _ (eq-eqb end.system system systems) (eq-eqb end.reference reference references)) last ∙ omega arith
    where
      last : (j : ℕ) (other : EndAt) → k < j → slice_get ends j ≡ Some other → is_at system reference other ≡ false
      last j other up there = false_from_ne_true _ (λ at_it.
          let both = and_parts _ _ at_it in
          let l = known.listed j other there in
          let low : j < w.base.count = omega (arith, slice_get_within ends j other there, known.count) in
          let owner : l.entity ≡ entity = same_entity l.entity entity (sym l.entity_is ∙ ap (entity_at entities) (eqb-true other.system system both.0) ∙ is) in
          let address : (w.base.end k).birth.address ≡ (w.base.end j).birth.address = at.address ∙ sym (ap (λ (e : Entity). e.own) owner) ∙ sym l.address in
          let ref : (w.base.end k).birth.reference ≡ (w.base.end j).birth.reference = at.reference_is ∙ sym (eqb-true other.reference reference both.1) ∙ sym l.reference in
          let b = keeps.sound.booked k j up low address ref in
          cc (b.3, at.held))

  -- the same history explains other entities
  pub known_with : (others : List Placed) → AreOwners entities others → ((system : ℕ) (entity : Entity) → entity_at others system ≡ Some entity → Holds timers w entity)
      → Known titles timers w journal others ends
  known_with others owners holds = record {
    written = known.written;
    restarts = λ system entity is. (let a = owners.back system entity is in same_began w.base.clock w.base.restarts a.owner.entity entity (sym a.owner.own_is) a.began (known.restarts system a.owner.entity a.owner.is));
    count = known.count;
    listed = λ k end is. (let l = known.listed k end is in let o = owners.on end.system l.entity l.entity_is in record { entity = o.entity; entity_is = o.is; address = l.address ∙ sym o.own_is; reference = l.reference });
    holds = holds;
    apart = λ one other entity next is too same.
        (let a = owners.back one entity is in let b = owners.back other next too in known.apart one other a.owner.entity b.owner.entity a.owner.is b.owner.is (a.owner.own_is ∙ same ∙ sym b.owner.own_is));
    titled = λ system entity is. (let a = owners.back system entity is in let t = known.titled system a.owner.entity a.owner.is in (t.0, t.1, ap (is_same_system t.0) (sym a.owner.own_is) ∙ t.2));
    begun = known.begun;
  }

  -- a step in which no end is made
  pub known_on : (new : Whole) (made : List Event) → Written (times_of timers) titles new (journal ++ made) → (f : Frames w.base new.base) (others : List Placed) → AreOwners entities others
      → ((system : ℕ) (entity : Entity) → entity_at others system ≡ Some entity → Holds timers new entity)
      → ((a b : ℕ) (terms : Terms) → IsCaller new.base a b → (new.base.end b).agreed ≡ Some terms → HaveBegun new a b terms)
      → Known titles timers new (journal ++ made) others ends
  known_on new made written f others owners holds begun = record {
    written = written;
    restarts = λ system entity is.
        (let a = owners.back system entity is in
        let was = same_began w.base.clock w.base.restarts a.owner.entity entity (sym a.owner.own_is) a.began (known.restarts system a.owner.entity a.owner.is) in
        later_began w.base.clock new.base.clock new.base.restarts entity f.later.clock (subst (λ (rs : List (List ℕ × ℕ)). AreBegan w.base.clock rs entity) (sym f.restarts) was));
    count = known.count ∙ sym f.count;
    listed = λ k end is.
        (let l = known.listed k end is in
        let low : k < w.base.count = omega (arith, slice_get_within ends k end is, known.count) in
        let o = owners.on end.system l.entity l.entity_is in
        record { entity = o.entity; entity_is = o.is; address = address_on w.base new.base f k low ∙ l.address ∙ sym o.own_is; reference = reference_on w.base new.base f k low ∙ l.reference });
    holds = holds;
    apart = λ one other entity next_ is too same.
        (let a = owners.back one entity is in let b = owners.back other next_ too in known.apart one other a.owner.entity b.owner.entity a.owner.is b.owner.is (a.owner.own_is ∙ same ∙ sym b.owner.own_is));
    titled = λ system entity is. (let a = owners.back system entity is in let t = known.titled system a.owner.entity a.owner.is in (t.0, t.1, ap (is_same_system t.0) (sym a.owner.own_is) ∙ t.2));
    begun = begun;
  }

  -- one place of one entity is another now
  module _ (new : Whole) (f : Frames w.base new.base) (clock : new.base.clock ≡ w.base.clock) (system : ℕ) (entity other : Entity) (is : entity_at entities system ≡ Some entity)
      (like : IsLike w.base.clock entity other) (reference : ℕ) (e : ConnEnd) (there : end_at entity reference ≡ Some e) (place : Option ConnEnd)
      (others : (own : List ℕ) (r : ℕ) (one : ConnEnd) → IsKnown w own r one → one.base.timers ≡ timers → (own ≡ entity.own → r ≡ reference → ⊥) → IsKnown new own r one)
      (here : IsThere new entity.own reference place) (timed : (one : ConnEnd) → place ≡ Some one → one.base.timers ≡ timers) where
    there_on : (own : List ℕ) (r : ℕ) (at : Option ConnEnd) → ((one : ConnEnd) → at ≡ Some one → one.base.timers ≡ timers) → (own ≡ entity.own → r ≡ reference → ⊥) → IsThere w own r at → IsThere new own r at
    there_on own r None times_ apart is_ = free_on w.base new.base f own r is_
    there_on own r (Some one) times_ apart is_ = others own r one is_ (times_ one refl) apart

    old : Holds timers w entity
    old = known.holds system entity is

    here_on : (r : ℕ) → IsThere new entity.own r (end_at (with_end other reference place) r)
    here_on r = elim (cases_eq r reference) [
      | inl same ↦ subst (λ (k : ℕ). IsThere new entity.own k (end_at (with_end other reference place) k)) (sym same)
          (subst (IsThere new entity.own reference) (sym (place_there w.base.clock entity other like reference e there place)) here)
      | inr apart ↦ subst (IsThere new entity.own r) (sym (place_other w.base.clock entity other like reference e there place r apart))
          (there_on entity.own r (end_at entity r) (old.theirs r) (λ _ same. apart same) (old.there r))
    ]

    here_timed : (r : ℕ) (one : ConnEnd) → end_at (with_end other reference place) r ≡ Some one → one.base.timers ≡ timers
    here_timed r one at = elim (cases_eq r reference) [
      | inl same ↦ timed one (sym (place_there w.base.clock entity other like reference e there place) ∙ ap (end_at (with_end other reference place)) (sym same) ∙ at)
      | inr apart ↦ old.theirs r one (sym (place_other w.base.clock entity other like reference e there place r apart) ∙ at)
    ]

    acting_holds : Holds timers new (with_end other reference place)
    acting_holds = record {
      timers_are = like.timers ∙ old.timers_are;
      clock = omega (arith, like.clock, clock);
      there = λ r. subst (λ (own : List ℕ). IsThere new own r (end_at (with_end other reference place) r)) (sym like.own) (here_on r);
      theirs = here_timed;
    }

    pub holds_on : (sys : ℕ) (one : Entity) → entity_at (with_entity entities system (with_end other reference place)) sys ≡ Some one → Holds timers new one
    holds_on sys one at = elim (cases_eq sys system) [
      | inl same ↦ subst (Holds timers new)
          (same_entity (with_end other reference place) one (sym (with_found entities system entity (with_end other reference place) is) ∙ ap (entity_at (with_entity entities system (with_end other reference place))) (sym same) ∙ at))
          acting_holds
      | inr apart ↦
          (let was = sym (entity_other entities system sys (with_end other reference place) apart) ∙ at in
          let o = known.holds sys one was in
          record {
            timers_are = o.timers_are;
            clock = omega (arith, o.clock, clock);
            there = λ r. there_on one.own r (end_at one r) (o.theirs r) (λ same _. apart (known.apart sys system one entity was is same)) (o.there r);
            theirs = o.theirs;
          })
    ]

  -- each end of each entity is known
  module _ (new : Whole) (f : Frames w.base new.base) (clock : w.base.clock ≤ new.base.clock)
      (others : (system : ℕ) (entity : Entity) (r : ℕ) (one : ConnEnd) → entity_at entities system ≡ Some entity → end_at entity r ≡ Some one → IsKnown w entity.own r one → IsKnown new entity.own r one) where
    there_by : (system : ℕ) (entity : Entity) (r : ℕ) (place : Option ConnEnd) → entity_at entities system ≡ Some entity → end_at entity r ≡ place → IsThere w entity.own r place → IsThere new entity.own r place
    there_by system entity r None is at free = free_on w.base new.base f entity.own r free
    there_by system entity r (Some one) is at known_one = others system entity r one is at known_one

    pub holds_all : (system : ℕ) (entity : Entity) → entity_at entities system ≡ Some entity → Holds timers new entity
    holds_all system entity is = let o = known.holds system entity is in record {
      timers_are = o.timers_are;
      clock = omega (arith, o.clock, clock);
      there = λ r. there_by system entity r (end_at entity r) is refl (o.there r);
      theirs = o.theirs;
    }
