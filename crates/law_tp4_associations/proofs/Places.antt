-- Ends and their places: each end that stands is of one association. An end at a place is another one now, or none, or a new one: the others stay.
use Rattle.std.proofs.Common.{◌≡◌, ◌⊎◌, ℕ, zero, suc, ◌==◌, Bool, true, false, not, if◌then◌else◌, List, [], ◌∷◌, length, map, slice_get, slice_set, Option, Some, None, refl, sym, ◌∙◌, ap, inl, inr}
use Rattle.std.proofs.lemmas.Bool.{eqb-true, eqb-false}
use Rattle.tp4_conn.specs.End.{End}
use Rattle.law_tp4_associations.specs.Association.{Association, cleared, party, system_of, with_party, without}
use Rattle.law_tp4_associations.specs.Standing.{IsParty}

-- ---- lists

pub get_same : {A : Type 0} (l : List A) (k : ℕ) (old new : A) → slice_get l k ≡ Some old → slice_get (slice_set l k new) k ≡ Some new
get_same [] k old new is = absurd (cc is)
get_same (x ∷ l) zero old new is = refl
get_same (x ∷ l) (suc k) old new is = get_same l k old new is

pub get_other : {A : Type 0} (l : List A) (k j : ℕ) (new : A) → (j ≡ k → ⊥) → slice_get (slice_set l k new) j ≡ slice_get l j
get_other [] k j new apart = refl
get_other (x ∷ l) zero zero new apart = absurd (apart refl)
get_other (x ∷ l) zero (suc j) new apart = refl
get_other (x ∷ l) (suc k) zero new apart = refl
get_other (x ∷ l) (suc k) (suc j) new apart = get_other l k j new (λ e. apart (ap suc e))

pub set_count : {A : Type 0} (l : List A) (k : ℕ) (new : A) → length (slice_set l k new) ≡ length l
set_count [] k new = refl
set_count (x ∷ l) zero new = refl
set_count (x ∷ l) (suc k) new = ap suc (set_count l k new)

pub get_map : {A B : Type 0} (f : A → B) (l : List A) (k : ℕ) (x : A) → slice_get l k ≡ Some x → slice_get (map f l) k ≡ Some (f x)
get_map f [] k x is = absurd (cc is)
get_map f (y ∷ l) zero x is = let same : y ≡ x = cc in ap (λ (z : _). Some (f z)) same
get_map f (y ∷ l) (suc k) x is = get_map f l k x is

pub record Mapped {A B : Type 0} (f : A → B) (l : List A) (k : ℕ) (y : B) : Type 0 where
  pub from : A
  pub is : slice_get l k ≡ Some from
  pub to : f from ≡ y

pub map_got : {A B : Type 0} (f : A → B) (l : List A) (k : ℕ) (y : B) → slice_get (map f l) k ≡ Some y → Mapped f l k y
map_got f [] k y is = absurd (cc is)
map_got f (x ∷ l) zero y is = record { from = x; is = refl; to = cc }
map_got f (x ∷ l) (suc k) y is = let m = map_got f l k y is in record { from = m.from; is = m.is; to = m.to }

pub map_count : {A B : Type 0} (f : A → B) (l : List A) → length (map f l) ≡ length l
map_count f [] = refl
map_count f (x ∷ l) = ap suc (map_count f l)

pub same_some : {A : Type 0} (x y : A) → Some x ≡ Some y → x ≡ y
same_some x y e = cc

pub none_not : {A B : Type 0} (x : A) → None ≡ Some x → B
none_not x e = absurd (cc e)

-- ---- places

-- the end at each place
pub record Placing (spot : ℕ → ℕ → Option End) (all : List Association) : Type 0 where
  pub stand : (k : ℕ) (by : Bool) (system reference : ℕ) (end : End) → IsParty all k by system reference end → spot system reference ≡ Some end
  pub known : (system reference : ℕ) (end : End) → spot system reference ≡ Some end → (k : ℕ) × (by : Bool) × IsParty all k by system reference end
  pub apart : (k j : ℕ) (by other : Bool) (system reference : ℕ) (x y : End) → IsParty all k by system reference x → IsParty all j other system reference y → (k ≡ j) × (by ≡ other)

-- at one place there is another end now, or none
pub record IsPut (old new : ℕ → ℕ → Option End) (system reference : ℕ) (next : Option End) : Type 0 where
  pub here : new system reference ≡ next
  pub other : (s r : ℕ) → ((s ≡ system) × (r ≡ reference) → ⊥) → new s r ≡ old s r

-- a place is that one, or not
pub data IsThat (s r system reference : ℕ) : Type 0 where
  That : s ≡ system → r ≡ reference → IsThat s r system reference
  Another : ((s ≡ system) × (r ≡ reference) → ⊥) → IsThat s r system reference

same_or_not : (n m : ℕ) → (n ≡ m) ⊎ (n ≡ m → ⊥)
same_or_not n m = by (n == m) refl
  where
    by : (b : Bool) → (n == m) ≡ b → (n ≡ m) ⊎ (n ≡ m → ⊥)
    by true e = inl (eqb-true n m e)
    by false e = inr (eqb-false n m e)

pub that_or_not : (s r system reference : ℕ) → IsThat s r system reference
that_or_not s r system reference = by (same_or_not s system) (same_or_not r reference)
  where
    by : (s ≡ system) ⊎ (s ≡ system → ⊥) → (r ≡ reference) ⊎ (r ≡ reference → ⊥) → IsThat s r system reference
    by (inl e) (inl f) = That e f
    by (inl e) (inr f) = Another (λ both. f both.1)
    by (inr e) any = Another (λ both. e both.0)

pub data IsRole (k j : ℕ) (by other : Bool) : Type 0 where
  Same_role : k ≡ j → by ≡ other → IsRole k j by other
  Other_end : k ≡ j → other ≡ not by → IsRole k j by other
  Other_one : (j ≡ k → ⊥) → IsRole k j by other

pub role : (k j : ℕ) (by other : Bool) → IsRole k j by other
role k j by other = at (same_or_not j k) by other
  where
    at : (j ≡ k) ⊎ (j ≡ k → ⊥) → (by other : Bool) → IsRole k j by other
    at (inr f) by other = Other_one f
    at (inl e) true true = Same_role (sym e) refl
    at (inl e) true false = Other_end (sym e) refl
    at (inl e) false true = Other_end (sym e) refl
    at (inl e) false false = Same_role (sym e) refl

other_side : (b : Bool) → b ≡ not b → ⊥
other_side true e = cc e
other_side false e = cc e

pub with_same : (a : Association) (by : Bool) (end : Option End) → party (with_party a by end) by ≡ end
with_same a true end = refl
with_same a false end = refl

pub with_other : (a : Association) (by : Bool) (end : Option End) → party (with_party a by end) (not by) ≡ party a (not by)
with_other a true end = refl
with_other a false end = refl

pub with_system : (a : Association) (by other : Bool) (end : Option End) → system_of (with_party a by end) other ≡ system_of a other
with_system a true true end = refl
with_system a true false end = refl
with_system a false true end = refl
with_system a false false end = refl

-- an end of one association is another one now, or gone, or new; no other end was at its place
module _ (old new : ℕ → ℕ → Option End) (all : List Association) (k : ℕ) (by : Bool) (a : Association) (reference : ℕ) (next : Option End) (p : Placing old all) (is : slice_get all k ≡ Some a)
    (put : IsPut old new (system_of a by) reference next) (mine : (w : End) → party a by ≡ Some w → w.base.own ≡ reference) (own_is : (w : End) → next ≡ Some w → w.base.own ≡ reference)
    (only : (j : ℕ) (other : Bool) (w : End) → IsParty all j other (system_of a by) reference w → (j ≡ k) × (other ≡ by)) where
  abbrev after : List Association
  after = slice_set all k (with_party a by next)

  data OldOrNew (j : ℕ) (other : Bool) (s r : ℕ) (w : End) : Type 0 where
    IsNew : j ≡ k → other ≡ by → s ≡ system_of a by → r ≡ reference → next ≡ Some w → OldOrNew j other s r w
    IsOld : IsParty all j other s r w → ((j ≡ k) × (other ≡ by) → ⊥) → OldOrNew j other s r w

  to_old : (j : ℕ) (other : Bool) (s r : ℕ) (w : End) → IsParty after j other s r w → OldOrNew j other s r w
  to_old j other s r w q = at (role k j by other)
    where
      at : IsRole k j by other → OldOrNew j other s r w
      at (Same_role e f) =
          let b_is : q.a ≡ with_party a by next = same_some _ _ (sym q.is ∙ ap (slice_get after) (sym e) ∙ get_same all k a (with_party a by next) is) in
          let w_is : next ≡ Some w = sym (with_same a by next) ∙ ap (λ (b : Association). party b by) (sym b_is) ∙ ap (party q.a) f ∙ q.end_is in
          IsNew (sym e) (sym f) (sym q.system_is ∙ ap (λ (b : Association). system_of b other) b_is ∙ with_system a by other next ∙ ap (system_of a) (sym f)) (sym q.reference_is ∙ own_is w w_is) w_is
      at (Other_end e f) =
          let b_is : q.a ≡ with_party a by next = same_some _ _ (sym q.is ∙ ap (slice_get after) (sym e) ∙ get_same all k a (with_party a by next) is) in
          IsOld (record {
            a = a;
            is = ap (slice_get all) (sym e) ∙ is;
            end_is = ap (party a) f ∙ sym (with_other a by next) ∙ ap (λ (b : Association). party b (not by)) (sym b_is) ∙ ap (party q.a) (sym f) ∙ q.end_is;
            system_is = sym (with_system a by other next) ∙ ap (λ (b : Association). system_of b other) (sym b_is) ∙ q.system_is;
            reference_is = q.reference_is;
          }) (λ both. other_side by (sym both.1 ∙ f))
      at (Other_one f) = IsOld (record { a = q.a; is = sym (get_other all k j (with_party a by next) f) ∙ q.is; end_is = q.end_is; system_is = q.system_is; reference_is = q.reference_is }) (λ both. f both.0)

  to_new : (j : ℕ) (other : Bool) (s r : ℕ) (w : End) → IsParty all j other s r w → ((j ≡ k) × (other ≡ by) → ⊥) → IsParty after j other s r w
  to_new j other s r w q apart = at (role k j by other)
    where
      at : IsRole k j by other → IsParty after j other s r w
      at (Same_role e f) = absurd (apart (sym e, sym f))
      at (Other_end e f) =
          let a_is : q.a ≡ a = same_some _ _ (sym q.is ∙ ap (slice_get all) (sym e) ∙ is) in
          record {
            a = with_party a by next;
            is = ap (slice_get after) (sym e) ∙ get_same all k a (with_party a by next) is;
            end_is = ap (party (with_party a by next)) f ∙ with_other a by next ∙ ap (party a) (sym f) ∙ ap (λ (b : Association). party b other) (sym a_is) ∙ q.end_is;
            system_is = with_system a by other next ∙ ap (λ (b : Association). system_of b other) (sym a_is) ∙ q.system_is;
            reference_is = q.reference_is;
          }
      at (Other_one f) = record { a = q.a; is = get_other all k j (with_party a by next) f ∙ q.is; end_is = q.end_is; system_is = q.system_is; reference_is = q.reference_is }

  -- an end that is not of that role is at another place
  elsewhere : (j : ℕ) (other : Bool) (s r : ℕ) (w : End) → IsParty all j other s r w → ((j ≡ k) × (other ≡ by) → ⊥) → (s ≡ system_of a by) × (r ≡ reference) → ⊥
  elsewhere j other s r w q apart same =
      apart (only j other w (record { a = q.a; is = q.is; end_is = q.end_is; system_is = q.system_is ∙ same.0; reference_is = q.reference_is ∙ same.1 }))

  is_party : (w : End) → next ≡ Some w → IsParty after k by (system_of a by) reference w
  is_party w e = record { a = with_party a by next; is = get_same all k a (with_party a by next) is; end_is = with_same a by next ∙ e; system_is = with_system a by by next; reference_is = own_is w e }

  pub put_placing : Placing new after
  put_placing = record {
    stand = λ j other s r w q. stands j other s r w (to_old j other s r w q);
    known = known_at;
    apart = λ i j one other s r x y u v. parted i j one other s r x y (to_old i one s r x u) (to_old j other s r y v);
  }
    where
      stands : (j : ℕ) (other : Bool) (s r : ℕ) (w : End) → OldOrNew j other s r w → new s r ≡ Some w
      stands j other s r w (IsNew e f g h n) = ap (λ (x : ℕ). new x r) g ∙ ap (new (system_of a by)) h ∙ put.here ∙ n
      stands j other s r w (IsOld q apart) = put.other s r (elsewhere j other s r w q apart) ∙ p.stand j other s r w q

      known_at : (s r : ℕ) (w : End) → new s r ≡ Some w → (j : ℕ) × (other : Bool) × IsParty after j other s r w
      known_at s r w at = by_place (that_or_not s r (system_of a by) reference)
        where
          by_place : IsThat s r (system_of a by) reference → (j : ℕ) × (other : Bool) × IsParty after j other s r w
          by_place (That e f) =
              let n : next ≡ Some w = sym put.here ∙ ap (λ (x : ℕ). new x reference) (sym e) ∙ ap (new s) (sym f) ∙ at in
              let q = is_party w n in
              (k, by, record { a = q.a; is = q.is; end_is = q.end_is; system_is = q.system_is ∙ sym e; reference_is = q.reference_is ∙ sym f })
          by_place (Another f) =
              let q = p.known s r w (sym (put.other s r f) ∙ at) in
              (q.0, q.1, to_new q.0 q.1 s r w q.2 (λ both. f (there q.0 q.1 q.2 both)))
            where
              there : (j : ℕ) (other : Bool) → (q : IsParty all j other s r w) → (j ≡ k) × (other ≡ by) → (s ≡ system_of a by) × (r ≡ reference)
              there j other q both =
                  let a_is : q.a ≡ a = same_some _ _ (sym q.is ∙ ap (slice_get all) both.0 ∙ is) in (
                    sym q.system_is ∙ ap (λ (b : Association). system_of b other) a_is ∙ ap (system_of a) both.1,
                    sym q.reference_is ∙ mine w (ap (party a) (sym both.1) ∙ ap (λ (b : Association). party b other) (sym a_is) ∙ q.end_is),
                  )

      parted : (i j : ℕ) (one other : Bool) (s r : ℕ) (x y : End) → OldOrNew i one s r x → OldOrNew j other s r y → (i ≡ j) × (one ≡ other)
      parted i j one other s r x y (IsNew e f g h n) (IsNew c d u v m) = (e ∙ sym c, f ∙ sym d)
      parted i j one other s r x y (IsNew e f g h n) (IsOld q apart) = absurd (elsewhere j other s r y q apart (g, h))
      parted i j one other s r x y (IsOld q apart) (IsNew c d u v m) = absurd (elsewhere i one s r x q apart (u, v))
      parted i j one other s r x y (IsOld q apart) (IsOld t away) = p.apart i j one other s r x y q t

-- ---- a place is cleared

without_got : (reference : ℕ) (o : Option End) (w : End) → without reference o ≡ Some w → (o ≡ Some w) × (w.base.own ≡ reference → ⊥)
without_got reference None w e = none_not w e
without_got reference (Some end) w e = by (end.base.own == reference) refl e
  where
    by : (b : Bool) → (end.base.own == reference) ≡ b → (if b then None else Some end) ≡ Some w → (Some end ≡ Some w) × (w.base.own ≡ reference → ⊥)
    by true is f = none_not w f
    by false is f = (f, λ same. eqb-false end.base.own reference is (ap (λ (z : End). z.base.own) (same_some end w f) ∙ same))

without_keeps : (reference : ℕ) (o : Option End) (w : End) → o ≡ Some w → (w.base.own ≡ reference → ⊥) → without reference o ≡ Some w
without_keeps reference None w e f = none_not w e
without_keeps reference (Some end) w e f = by (end.base.own == reference) refl
  where
    by : (b : Bool) → (end.base.own == reference) ≡ b → (if b then None else Some end) ≡ Some w
    by true is = absurd (f (ap (λ (z : End). z.base.own) (sym (same_some end w e)) ∙ eqb-true end.base.own reference is))
    by false is = e

pub cleared_system : (system reference : ℕ) (a : Association) (by : Bool) → system_of (cleared system reference a) by ≡ system_of a by
cleared_system system reference a true = refl
cleared_system system reference a false = refl

cleared_party : (system reference : ℕ) (a : Association) (by : Bool) → party (cleared system reference a) by ≡ (if system_of a by == system then without reference (party a by) else party a by)
cleared_party system reference a true = refl
cleared_party system reference a false = refl

-- an end that is left was there, and at another place
pub cleared_got : (system reference : ℕ) (a : Association) (by : Bool) (w : End) → party (cleared system reference a) by ≡ Some w → (party a by ≡ Some w) × ((system_of a by ≡ system) × (w.base.own ≡ reference) → ⊥)
cleared_got system reference a by w e = at (system_of a by == system) refl (sym (cleared_party system reference a by) ∙ e)
  where
    at : (b : Bool) → (system_of a by == system) ≡ b → (if b then without reference (party a by) else party a by) ≡ Some w → (party a by ≡ Some w) × ((system_of a by ≡ system) × (w.base.own ≡ reference) → ⊥)
    at true is f = let g = without_got reference (party a by) w f in (g.0, λ both. g.1 both.1)
    at false is f = (f, λ both. eqb-false (system_of a by) system is both.0)

pub cleared_keeps : (system reference : ℕ) (a : Association) (by : Bool) (w : End) → party a by ≡ Some w → ((system_of a by ≡ system) × (w.base.own ≡ reference) → ⊥) → party (cleared system reference a) by ≡ Some w
cleared_keeps system reference a by w e f = cleared_party system reference a by ∙ at (system_of a by == system) refl
  where
    at : (b : Bool) → (system_of a by == system) ≡ b → (if b then without reference (party a by) else party a by) ≡ Some w
    at true is = without_keeps reference (party a by) w e (λ same. f (eqb-true (system_of a by) system is, same))
    at false is = e

module _ (old new : ℕ → ℕ → Option End) (all : List Association) (system reference : ℕ) (p : Placing old all) (put : IsPut old new system reference None) where
  back_to : (j : ℕ) (other : Bool) (s r : ℕ) (w : End) → IsParty (map (cleared system reference) all) j other s r w → IsParty all j other s r w × ((s ≡ system) × (r ≡ reference) → ⊥)
  back_to j other s r w q =
      let m = map_got (cleared system reference) all j q.a q.is in
      let g = cleared_got system reference m.from other w (ap (λ (b : Association). party b other) m.to ∙ q.end_is) in
      let at : system_of m.from other ≡ s = sym (cleared_system system reference m.from other) ∙ ap (λ (b : Association). system_of b other) m.to ∙ q.system_is in
      (record { a = m.from; is = m.is; end_is = g.0; system_is = at; reference_is = q.reference_is }, λ both. g.1 (at ∙ both.0, q.reference_is ∙ both.1))

  pub clear_placing : Placing new (map (cleared system reference) all)
  clear_placing = record {
    stand = λ j other s r w q. let b = back_to j other s r w q in put.other s r b.1 ∙ p.stand j other s r w b.0;
    known = known_at;
    apart = λ i j one other s r x y u v. p.apart i j one other s r x y (back_to i one s r x u).0 (back_to j other s r y v).0;
  }
    where
      known_at : (s r : ℕ) (w : End) → new s r ≡ Some w → (j : ℕ) × (other : Bool) × IsParty (map (cleared system reference) all) j other s r w
      known_at s r w at = by_place (that_or_not s r system reference)
        where
          by_place : IsThat s r system reference → (j : ℕ) × (other : Bool) × IsParty (map (cleared system reference) all) j other s r w
          by_place (That e f) = none_not w (sym put.here ∙ ap (λ (x : ℕ). new x reference) (sym e) ∙ ap (new s) (sym f) ∙ at)
          by_place (Another f) =
              let q = p.known s r w (sym (put.other s r f) ∙ at) in
              let m = q.2 in (
                q.0,
                q.1,
                record {
                  a = cleared system reference m.a;
                  is = get_map (cleared system reference) all q.0 m.a m.is;
                  end_is = cleared_keeps system reference m.a q.1 w m.end_is (λ both. f (sym m.system_is ∙ both.0, sym m.reference_is ∙ both.1));
                  system_is = cleared_system system reference m.a q.1 ∙ m.system_is;
                  reference_is = m.reference_is;
                },
              )
