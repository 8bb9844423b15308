-- A new end takes a free reference of an entity: it is the last of the history and of the ends that were made, and all else is known as before.
use Rattle.std.proofs.Common.{◌≡◌, ◌≢◌, ◌==◌, inl, inr, ℕ, ◌+◌, ◌-◌, ◌<◌, ◌≤◌, true, false, cond, List, [], ◌∷◌, ◌++◌, length, slice_get, Option, Some, None, refl, sym, ap, subst, ◌∙◌, arith}
use Rattle.std.proofs.lemmas.Bool.{cases_eq, false_from_ne_true}
use Rattle.std.proofs.lemmas.Option.{none-some, same_Some, slice_get_within}
use Rattle.nsap.specs.Address.{is_same_system}
use Rattle.script_journal.specs.declared.event.Event.{Event}
use Rattle.std.specs.Prelude.{option_map}
use Rattle.tpdu.specs.declared.service.Options.{Options}
use Rattle.tp4_conn.specs.declared.states.StateData.{StateData}
use Rattle.tp4_conn.specs.declared.states.StateData.TheVariants.{CrWait, UserWait, AkWait, Opened}
use Rattle.tp4_conn.specs.declared.timers.Timers.{Timers}
use Rattle.tp4_conn.specs.End.{End, Moved, end_of}
use Rattle.tp4_conn.specs.Proper.{IsProper}
use Rattle.tp4_entity.specs.Entity.{Entity, end_at, there, with_end}
use Rattle.law_tp4_history.specs.Ends.{Offer, Terms, Birth, End as Seen}
use Rattle.law_tp4_history.specs.History.{History, IsCaller, IsNew, IsPartner, Event as Kept}
use Rattle.law_tp4_history.specs.Journals.{Written}
use Rattle.law_tp4_history.specs.Tracks.{Track, Whole}
use Rattle.law_tp4_history.proofs.Agreed.{Agreed}
use Rattle.law_tp4_history.proofs.Begun.{with_new, new_later, here as here_is, there as there_is, calls_none}
use Rattle.law_tp4_history.proofs.Later.{caller_back, caller_on}
use Rattle.law_tp4_history.proofs.Sound.{Sound}
use Rattle.law_tp4_history.proofs.Tracked.{Tracked, HasAgreed}
use Rattle.law_tp4_history.proofs.Written.{written_kept}
use Rattle.law_tp4_history.specs.Lines.{Stands}
use Rattle.law_tp4_history.specs.Moves.{IsSeenIn, Sees, times_of}
use Rattle.law_tp4_history.specs.Seen.{terms_of}
use Rattle.law_tp4_history.proofs.Beginnings.{fit_times}
use Rattle.tp4_world.specs.World.{entity_at, with_entity}
use Rattle.tp4_world.specs.declared.place.EndAt.{EndAt}
use Rattle.tp4_world.specs.declared.place.Placed.{Placed}
use Rattle.tp4_world.proofs.Entities.{with_found}
use Rattle.law_tp4_lawful.proofs.Acting.{IsLike}
use Rattle.law_tp4_lawful.proofs.Known.{AreTerms, HaveBegun, Holds, IsKnown, IsListed, IsThere, Known, AreBegan}
use Rattle.law_tp4_lawful.proofs.MakesFree.{Freed, kept_known}
use Rattle.law_tp4_lawful.proofs.Frames.{entity_other}
use Rattle.law_tp4_lawful.proofs.MakesPlaces.{at_other, at_same, get_last, made_last}
use Rattle.law_tp4_lawful.proofs.Restarts.{same_began}

-- the ends of an entity are those of one that is like it
pub like_at : (now r : ℕ) (entity other : Entity) → IsLike now entity other → end_at other r ≡ end_at entity r
like_at now r entity other like = ap (λ (places : List (Option End)). cond (r == 0) None (there (slice_get places (r - 1)))) like.ends

-- a calling end that has not agreed, and whose line has not begun
pub waits_still : (terms : Terms) (birth : Birth) (took latest : ℕ) (e : End) (own theirs : Track) → IsSeenIn birth took latest e.base e.stage → e.base.is_called ≡ false → e.base.agreed ≡ None → own.is_begun ≡ false
    → Stands terms e.base e.stage own theirs
waits_still terms birth took latest e own theirs seen calls none idle = by e.stage seen
  where
    by : (stage : StateData) → IsSeenIn birth took latest e.base stage → Stands terms e.base stage own theirs
    by (CrWait w) s = λ begun. absurd (cc (begun, idle))
    by (UserWait since) s = absurd (cc (s.called, calls))
    by (AkWait w) s = absurd (cc (s.called, calls))
    by (Opened o) s = absurd (cc (s.halves.agreed, none))
    by other s = tt

none_agreed : (agreed : Option Options) → None ≡ option_map terms_of agreed → agreed ≡ None
none_agreed None h = refl
none_agreed (Some options) h = absurd (none-some _ h)

module _ (titles : List (List ℕ)) (timers : Timers) (w : Whole) (journal : List Event) (entities : List Placed) (ends : List EndAt) (known : Known titles timers w journal entities ends)
    (system reference : ℕ) (entity b : Entity) (at : entity_at entities system ≡ Some entity) (f : Freed titles timers w journal entities ends system reference entity.own)
    (like : IsLike w.base.clock entity b) (least : 1 ≤ reference) (most : reference ≤ length entity.ends)
    (m : Moved) (proper : IsProper m.base m.stage) (timed : m.base.timers ≡ timers)
    (e : Seen) (n : IsNew (times_of timers) f.new.base e) (address : e.birth.address ≡ entity.own) (ref : e.birth.reference ≡ reference)
    (sees : Sees (times_of timers) f.new.base.clock e (end_of m)) (offers : List Offer) (kept : List Kept) (made : List Event)
    (written : Written (times_of timers) titles (record { base = with_new f.new.base e offers kept; track = f.new.track }) (journal ++ made))
    (stands : (z : ℕ) (terms : Terms) → IsPartner (with_new f.new.base e offers kept) f.new.base.count z
    → Stands terms m.base m.stage (f.new.track f.new.base.count) (f.new.track z)) where
  abbrev h : History
  h = f.new.base

  abbrev new : Whole
  new = record { base = with_new f.new.base e offers kept; track = f.new.track }

  abbrev after : Entity
  after = with_end b reference (Some (end_of m))

  s : Sound (times_of timers) h
  s = (written_kept (times_of timers) titles f.new journal (fit_times timers) f.written).sound

  agreed : Agreed h
  agreed = (written_kept (times_of timers) titles f.new journal (fit_times timers) f.written).agreed

  tracked : Tracked (times_of timers) f.new
  tracked = (written_kept (times_of timers) titles f.new journal (fit_times timers) f.written).tracked

  new_s : Sound (times_of timers) new.base
  new_s = (written_kept (times_of timers) titles new (journal ++ made) (fit_times timers) written).sound

  here : new.base.end h.count ≡ e
  here = here_is (times_of timers) h s e n offers kept

  other_end : (k : ℕ) → k ≢ h.count → new.base.end k ≡ h.end k
  other_end k apart = there_is (times_of timers) h s e n offers kept k apart

  low_of : (k : ℕ) → k < h.count + 1 → k ≢ h.count → k < h.count
  low_of k low apart = omega (arith, low, apart)

  old_caller : (x z : ℕ) → z ≢ h.count → IsCaller new.base x z → IsCaller h x z
  old_caller x z apart p =
      let x_old : x ≢ h.count = λ same. calls_none (times_of timers) h s e n offers kept z (subst (λ (i : ℕ). IsCaller new.base i z) same p) apart in
      caller_back (times_of timers) h new.base (new_later (times_of timers) h s e n offers kept) x z (low_of x p.a_low x_old) (low_of z p.b_low apart) p

  -- whom an old end calls
  only_called : (x z : ℕ) → IsCaller new.base x h.count → IsCaller h x z → ⊥
  only_called x z p q =
      let same : h.count ≡ z = new_s.one x h.count z p (caller_on (times_of timers) h new.base (new_later (times_of timers) h s e n offers kept) x z q) in
      omega (arith, q.b_low, same)

  old_partner : (x z : ℕ) → x ≢ h.count → z ≢ h.count → IsPartner new.base x z → IsPartner h x z
  old_partner x z x_old z_old (inl p) = inl (old_caller x z z_old p)
  old_partner x z x_old z_old (inr p) = inr (old_caller z x x_old p)

  old_terms : (x z : ℕ) (terms : Terms) → x ≢ h.count → z ≢ h.count → AreTerms new.base x z terms → AreTerms h x z terms
  old_terms x z terms x_old z_old t = record {
    own = λ called a is. t.own (ap (λ (y : Seen). y.birth.is_called) (other_end x x_old) ∙ called) a (ap (λ (y : Seen). y.agreed) (other_end x x_old) ∙ is);
    theirs = λ called a is. t.theirs (ap (λ (y : Seen). y.birth.is_called) (other_end z z_old) ∙ called) a (ap (λ (y : Seen). y.agreed) (other_end z z_old) ∙ is);
  }

  -- an old end that the new one is called by
  module _ (address_ : List ℕ) (r : ℕ) (end : End) (is : IsKnown f.new address_ r end) (old : is.k ≢ h.count) where
    module _ (p : IsCaller new.base is.k h.count) where
      calls : (h.end is.k).birth.is_called ≡ false
      calls = sym (ap (λ (y : Seen). y.birth.is_called) (other_end is.k old)) ∙ (new_s.pairs is.k h.count p).calls

      agreed_none : (a : Option Terms) → (h.end is.k).agreed ≡ a → (h.end is.k).agreed ≡ None
      agreed_none None a = a
      agreed_none (Some terms) a = let q = agreed.has is.k terms is.at.low calls a in absurd (only_called is.k q.0 p q.1)

      not_begun : HasAgreed h is.k → ⊥
      not_begun q = elim q.is [
        | inl same ↦ cc (calls, ap (λ (i : ℕ). (h.end i).birth.is_called) same, q.called)
        | inr c ↦ only_called is.k q.b p c
      ]

      caller_stands : (terms : Terms) → Stands terms end.base end.stage (f.new.track is.k) (f.new.track h.count)
      caller_stands terms =
          waits_still terms (h.end is.k).birth (h.end is.k).took (h.end is.k).latest end (f.new.track is.k) (f.new.track h.count) is.sees.state (sym is.sees.is_called ∙ calls)
          (none_agreed end.base.agreed (sym (agreed_none (h.end is.k).agreed refl) ∙ is.sees.agreed)) (false_from_ne_true _ (λ begun. not_begun (tracked.pair is.k begun)))

    old_stands : (z : ℕ) (terms : Terms) → IsPartner new.base is.k z → AreTerms new.base is.k z terms → Stands terms end.base end.stage (f.new.track is.k) (f.new.track z)
    old_stands z terms p t = elim (cases_eq z h.count) [
      | inl same ↦ by_new same p
      | inr different ↦ is.stands z terms (old_partner is.k z old different p) (old_terms is.k z terms old different t)
    ]
      where
        by_new : z ≡ h.count → IsPartner new.base is.k z → Stands terms end.base end.stage (f.new.track is.k) (f.new.track z)
        by_new same (inl q) =
            subst (λ (i : ℕ). Stands terms end.base end.stage (f.new.track is.k) (f.new.track i)) (sym same) (caller_stands (subst (λ (i : ℕ). IsCaller new.base is.k i) same q) terms)
        by_new same (inr q) =
            let c = old_caller z is.k old q in absurd (omega (arith, c.a_low, same))

    old_known : (address_ ≡ entity.own → r ≡ reference → ⊥) → IsKnown new address_ r end
    old_known apart =
        kept_known f.new new address_ r end is refl (other_end is.k old) (omega (arith, is.at.low))
        (λ j low there by held. elim (cases_eq j h.count) [
          | inl same ↦ absurd (apart
              (sym there ∙ ap (λ (i : ℕ). (new.base.end i).birth.address) same ∙ ap (λ (y : Seen). y.birth.address) here ∙ address)
              (sym by ∙ ap (λ (i : ℕ). (new.base.end i).birth.reference) same ∙ ap (λ (y : Seen). y.birth.reference) here ∙ ref))
          | inr different ↦ (low_of j low different, sym (other_end j different))
        ])
        old_stands

  there_after : (own : List ℕ) (r : ℕ) (place : Option End) → (own ≡ entity.own → r ≡ reference → ⊥) → IsThere f.new own r place → IsThere new own r place
  there_after own r None apart free = λ j low there by. elim (cases_eq j h.count) [
    | inl same ↦ absurd (apart
        (sym there ∙ ap (λ (i : ℕ). (new.base.end i).birth.address) same ∙ ap (λ (y : Seen). y.birth.address) here ∙ address)
        (sym by ∙ ap (λ (i : ℕ). (new.base.end i).birth.reference) same ∙ ap (λ (y : Seen). y.birth.reference) here ∙ ref))
    | inr different ↦
        (let was = other_end j different in
        ap (λ (y : Seen). y.is_out) was ∙ free j (low_of j low different) (sym (ap (λ (y : Seen). y.birth.address) was) ∙ there) (sym (ap (λ (y : Seen). y.birth.reference) was) ∙ by))
  ]
  there_after own r (Some end) apart is = old_known own r end is (λ same. omega (arith, is.at.low, same)) apart

  new_known : IsKnown new entity.own reference (end_of m)
  new_known = record {
    k = h.count;
    at = record {
      low = omega arith;
      address = ap (λ (y : Seen). y.birth.address) here ∙ address;
      reference_is = ap (λ (y : Seen). y.birth.reference) here ∙ ref;
      held = ap (λ (y : Seen). y.is_out) here ∙ n.is_held;
      only = λ j low there by held. elim (cases_eq j h.count) [
        | inl same ↦ same
        | inr different ↦
            (let was = other_end j different in
            let out = f.free j (low_of j low different) (sym (ap (λ (y : Seen). y.birth.address) was) ∙ there) (sym (ap (λ (y : Seen). y.birth.reference) was) ∙ by) in
            absurd (cc (out, held)))
      ];
    };
    sees = subst (λ (t : Timers). Sees (times_of t) h.clock (new.base.end h.count) (end_of m)) (sym timed) (subst (λ (y : Seen). Sees (times_of timers) h.clock y (end_of m)) (sym here) sees);
    proper = proper;
    stands = λ z terms p _. stands z terms p;
  }

  holds_after : Holds timers new after
  holds_after = record {
    timers_are = like.timers ∙ (known.holds system entity at).timers_are;
    clock = omega (arith, like.clock, f.clock);
    there = λ r. elim (cases_eq r reference) [
      | inl same ↦
          subst (λ (own : List ℕ). IsThere new own r (end_at after r)) (sym like.own)
          (subst (λ (i : ℕ). IsThere new entity.own i (end_at after i)) (sym same) (subst (IsThere new entity.own reference) (sym after_here) new_known))
      | inr different ↦
          subst (λ (own : List ℕ). IsThere new own r (end_at after r)) (sym like.own)
          (subst (IsThere new entity.own r) (sym (after_there r different)) (there_after entity.own r (end_at entity r) (λ _ same. different same) (f.there system r entity at (λ _ same. different same))))
    ];
    theirs = λ r x is. elim (cases_eq r reference) [
      | inl same ↦ (let it : end_of m ≡ x = same_Some _ _ (sym after_here ∙ ap (end_at after) (sym same) ∙ is) in ap (λ (y : End). y.base.timers) (sym it) ∙ timed)
      | inr different ↦ (known.holds system entity at).theirs r x (sym (after_there r different) ∙ is)
    ];
  }
    where
      after_here : end_at after reference ≡ Some (end_of m)
      after_here = at_same b reference (Some (end_of m)) least (omega (arith, most, ap length like.ends))

      after_there : (r : ℕ) → r ≢ reference → end_at after r ≡ end_at entity r
      after_there r different = at_other b reference r (Some (end_of m)) least different ∙ like_at w.base.clock r entity b like

  -- whether an entity changes
  was_at : (one : ℕ) (x : Entity) → entity_at (with_entity entities system after) one ≡ Some x → (old : Entity) × (entity_at entities one ≡ Some old) × (old.own ≡ x.own) × (x.restarted ≡ old.restarted)
  was_at one x has = elim (cases_eq one system) [
    | inl same ↦
        (let it : after ≡ x = same_Some _ _ (sym (with_found entities system entity after at) ∙ ap (entity_at (with_entity entities system after)) (sym same) ∙ has) in
        (entity, ap (entity_at entities) same ∙ at, sym like.own ∙ ap (λ (y : Entity). y.own) it, ap (λ (y : Entity). y.restarted) (sym it) ∙ like.restarted))
    | inr different ↦ (x, sym (entity_other entities system one after different) ∙ has, refl, refl)
  ]

  is_at : (one : ℕ) (old : Entity) → entity_at entities one ≡ Some old → (x : Entity) × (entity_at (with_entity entities system after) one ≡ Some x) × (old.own ≡ x.own)
  is_at one old has = elim (cases_eq one system) [
    | inl same ↦
        (let it : entity ≡ old = same_Some _ _ (sym at ∙ ap (entity_at entities) (sym same) ∙ has) in
        (after, ap (entity_at (with_entity entities system after)) same ∙ with_found entities system entity after at, sym (ap (λ (y : Entity). y.own) it) ∙ sym like.own))
    | inr different ↦ (old, entity_other entities system one after different ∙ has, refl)
  ]

  holds_one : (one : ℕ) (x : Entity) → entity_at (with_entity entities system after) one ≡ Some x → Holds timers new x
  holds_one one x has = elim (cases_eq one system) [
    | inl same ↦
        (let it : after ≡ x = same_Some _ _ (sym (with_found entities system entity after at) ∙ ap (entity_at (with_entity entities system after)) (sym same) ∙ has) in
        subst (Holds timers new) it holds_after)
    | inr different ↦
        (let old : entity_at entities one ≡ Some x = sym (entity_other entities system one after different) ∙ has in
        let holds = known.holds one x old in
        record {
          timers_are = holds.timers_are;
          clock = omega (arith, holds.clock, f.clock);
          there = λ r. there_after x.own r (end_at x r) (λ same _. different (known.apart one system x entity old at same)) (f.there one r x old (λ same _. different same));
          theirs = holds.theirs;
        })
  ]

  begun_after : (x z : ℕ) (terms : Terms) → IsCaller new.base x z → (new.base.end z).agreed ≡ Some terms → HaveBegun new x z terms
  begun_after x z terms p is = elim (cases_eq z h.count) [
    | inl same ↦ absurd (cc (is, ap (λ (i : ℕ). (new.base.end i).agreed) same, ap (λ (y : Seen). y.agreed) here, n.agreed))
    | inr different ↦
        (let was = f.begun x z terms (old_caller x z different p) (sym (ap (λ (y : Seen). y.agreed) (other_end z different)) ∙ is) in record { own = was.own; theirs = was.theirs })
  ]

  listed_after : (k : ℕ) (end : EndAt) → slice_get (ends ++ record { system = system; reference = reference } ∷ []) k ≡ Some end → IsListed new.base (with_entity entities system after) k end
  listed_after k end is = elim (get_last ends (record { system = system; reference = reference }) end k is) [
    | inl old ↦
        (let l = f.listed k end old in
        let low = slice_get_within ends k end old in
        let count = f.count in
        let was = other_end k (λ same. omega (arith, low, same, count)) in
        let x = is_at end.system l.entity l.entity_is in
        record {
          entity = x.0;
          entity_is = x.1;
          address = ap (λ (y : Seen). y.birth.address) was ∙ l.address ∙ x.2;
          reference = ap (λ (y : Seen). y.birth.reference) was ∙ l.reference;
        })
    | inr last ↦
        (let place : k ≡ h.count = last.0 ∙ f.count in
        subst (IsListed new.base (with_entity entities system after) k) last.1 (record {
          entity = after;
          entity_is = with_found entities system entity after at;
          address = ap (λ (i : ℕ). (new.base.end i).birth.address) place ∙ ap (λ (y : Seen). y.birth.address) here ∙ address ∙ sym like.own;
          reference = ap (λ (i : ℕ). (new.base.end i).birth.reference) place ∙ ap (λ (y : Seen). y.birth.reference) here ∙ ref;
        }))
  ]

  pub made_known : Known titles timers new (journal ++ made) (with_entity entities system after) (ends ++ record { system = system; reference = reference } ∷ [])
  made_known = record {
    written = written;
    restarts = λ one x has.
        (let first = was_at one x has in
        same_began new.base.clock new.base.restarts first.0 x (sym first.2) first.3
        (subst (λ (rs : List (List ℕ × ℕ)). AreBegan new.base.clock rs first.0) (sym f.restarts)
        (subst (λ (n : ℕ). AreBegan n w.base.restarts first.0) (sym f.clock) (known.restarts one first.0 first.1))));
    count = made_last ends (record { system = system; reference = reference }) ∙ ap (λ (k : ℕ). k + 1) f.count;
    listed = listed_after;
    holds = holds_one;
    apart = λ one other x y has have same.
        (let first = was_at one x has in
        let second = was_at other y have in
        known.apart one other first.0 second.0 first.1 second.1 (first.2 ∙ same ∙ sym second.2));
    titled = λ one x has.
        (let first = was_at one x has in
        let t = known.titled one first.0 first.1 in
        (t.0, t.1, subst (λ (own : List ℕ). is_same_system t.0 own ≡ true) first.2 t.2));
    begun = begun_after;
  }
