-- The end at each place of the entities: what an entity that is another one now leaves of it.
use Rattle.std.proofs.Common.{◌≡◌, ◌⊎◌, ℕ, ◌-◌, ◌<◌, ◌==◌, Bool, true, false, ◌&&◌, if◌then◌else◌, List, [], ◌∷◌, ◌++◌, slice_get, slice_set, Option, Some, None, refl, sym, ◌∙◌, ap, inl, inr, arith}
use Rattle.std.specs.Prelude.{get_or, option_map}
use Rattle.std.specs.List.{find}
use Rattle.std.proofs.lemmas.Bool.{cases_eq, eq-eqb, eqb-true, eqb-false, ne_eqb}
use Rattle.tp4_flow.specs.declared.step.Sent.{Sent}
use Rattle.tp4_conn.specs.End.{End}
use Rattle.std.proofs.lemmas.Option.{slice_get-get_or}
use Rattle.tp4_number.proofs.Past.{if_kept}
use Rattle.tp4_entity.proofs.Standings.{free_least}
use Rattle.tp4_entity.specs.Entity.{Entity, end_at, there, with_end}
use Rattle.tp4_entity.specs.References.{is_free_place, least_free}
use Rattle.tp4_world.specs.World.{entity_at, is_of, with_entity}
use Rattle.tp4_world.specs.declared.place.Placed.{Placed}
use Rattle.tp4_world.proofs.Entities.{with_found}
use Rattle.law_tp4_associations.specs.Association.{Posted, is_same, post, waiting}
use Rattle.law_tp4_associations.specs.Standing.{StandsAt}
use Rattle.law_tp4_associations.proofs.Places.{IsPut, get_other, get_same}

-- ---- entities

abbrev found_in : Bool → Placed → List Placed → ℕ → Option Entity
found_in b one placed system = option_map (λ (x : Placed). x.entity) (if b then Some one else find (is_of system) placed)

pub entity_other : (placed : List Placed) (system other : ℕ) (new : Entity) → (other ≡ system → ⊥) → entity_at (with_entity placed system new) other ≡ entity_at placed other
entity_other [] system other new apart = refl
entity_other (one ∷ placed) system other new apart =
    if_kept (λ (all : List Placed). entity_at all other ≡ entity_at (one ∷ placed) other) (is_of system one) (record one { entity = new } ∷ placed) (one ∷ with_entity placed system new)
    (λ h. let unlike : is_of other one ≡ false = ne_eqb one.system other (λ same. apart (sym same ∙ eqb-true one.system system h)) in
    ap (λ (b : Bool). found_in b (record one { entity = new }) placed other) unlike ∙ sym (ap (λ (b : Bool). found_in b one placed other) unlike))
    (λ h. by (is_of other one) (entity_other placed system other new apart))
  where
    by : (b : Bool) → entity_at (with_entity placed system new) other ≡ entity_at placed other → found_in b one (with_entity placed system new) other ≡ found_in b one placed other
    by true rest = refl
    by false rest = rest

-- ---- the ends of an entity

pub end_is : (e : Entity) (reference : ℕ) → (reference == 0) ≡ false → end_at e reference ≡ there (slice_get e.ends (reference - 1))
end_is e reference some = ap (λ (b : Bool). if b then None else there (slice_get e.ends (reference - 1))) some

pub end_set : (e : Entity) (reference : ℕ) (old place : Option End) → (reference == 0) ≡ false → slice_get e.ends (reference - 1) ≡ Some old → end_at (with_end e reference place) reference ≡ place
end_set e reference old place some is = end_is (with_end e reference place) reference some ∙ ap there (get_same e.ends (reference - 1) old place is)

less : (n m : ℕ) → (n ≡ 0 → ⊥) → (m ≡ 0 → ⊥) → n - 1 ≡ m - 1 → n ≡ m
less n m a b e = omega (arith, a, b, e)

pub end_other : (e : Entity) (reference other : ℕ) (place : Option End) → (reference == 0) ≡ false → (other ≡ reference → ⊥) → end_at (with_end e reference place) other ≡ end_at e other
end_other e reference other place some apart = by (other == 0) refl
  where
    by : (b : Bool) → (other == 0) ≡ b → (if b then None else there (slice_get (slice_set e.ends (reference - 1) place) (other - 1))) ≡ (if b then None else there (slice_get e.ends (other - 1)))
    by true is = refl
    by false is = ap there (get_other e.ends (reference - 1) (other - 1) place (λ same. apart (less other reference (eqb-false other 0 is) (eqb-false reference 0 some) same)))

-- an end stands at a reference that is none
pub stands_some : (e : Entity) (reference : ℕ) (z : End) → end_at e reference ≡ Some z → (reference == 0) ≡ false
stands_some e reference z is = by (reference == 0) is
  where
    by : (b : Bool) → (if b then None else there (slice_get e.ends (reference - 1))) ≡ Some z → b ≡ false
    by true is = absurd (cc is)
    by false is = refl

pub stands_above : (e : Entity) (reference : ℕ) (z : End) → end_at e reference ≡ Some z → 0 < reference
stands_above e reference z is = let some : reference ≡ 0 → ⊥ = eqb-false reference 0 (stands_some e reference z is) in omega (arith, some)

-- ---- all of them

abbrev pub found : Option Entity → ℕ → Option End
found None reference = None
found (Some e) reference = end_at e reference

abbrev pub spot : List Placed → ℕ → ℕ → Option End
spot entities system reference = found (entity_at entities system) reference

pub to_spot : (entities : List Placed) (system reference : ℕ) (end : End) → StandsAt entities system reference end → spot entities system reference ≡ Some end
to_spot entities system reference end s = ap (λ (o : Option Entity). found o reference) s.1 ∙ s.2

pub from_spot : (entities : List Placed) (system reference : ℕ) (end : End) → spot entities system reference ≡ Some end → StandsAt entities system reference end
from_spot entities system reference end s = by (entity_at entities system) refl s
  where
    by : (o : Option Entity) → entity_at entities system ≡ o → found o reference ≡ Some end → StandsAt entities system reference end
    by None e is = absurd (cc is)
    by (Some x) e is = (x, e, is)

pub spot_at : (entities : List Placed) (system reference : ℕ) (e : Entity) → entity_at entities system ≡ Some e → spot entities system reference ≡ end_at e reference
spot_at entities system reference e is = ap (λ (o : Option Entity). found o reference) is

-- one place of one entity is another one now. The entity may have another clock
pub spot_put : (entities : List Placed) (system reference : ℕ) (e f : Entity) (old place : Option End) → entity_at entities system ≡ Some e → f.ends ≡ e.ends → (reference == 0) ≡ false
    → slice_get e.ends (reference - 1) ≡ Some old → IsPut (spot entities) (spot (with_entity entities system (with_end f reference place))) system reference place
spot_put entities system reference e f old place is ends some at = record {
  here = spot_at new system reference (with_end f reference place) (with_found entities system e (with_end f reference place) is)
      ∙ end_set f reference old place some (ap (λ (l : List (Option End)). slice_get l (reference - 1)) ends ∙ at);
  other = λ s r apart. by s r apart (cases_eq s system);
}
  where
    new : List Placed
    new = with_entity entities system (with_end f reference place)

    same_ends : (r : ℕ) → end_at f r ≡ end_at e r
    same_ends r = ap (λ (l : List (Option End)). if r == 0 then None else there (slice_get l (r - 1))) ends

    by : (s r : ℕ) → ((s ≡ system) × (r ≡ reference) → ⊥) → (s ≡ system) ⊎ (s ≡ system → ⊥) → spot (with_entity entities system (with_end f reference place)) s r ≡ spot entities s r
    by s r apart (inr unlike) = ap (λ (o : Option Entity). found o r) (entity_other entities system s (with_end f reference place) unlike)
    by s r apart (inl same) =
        ap (λ (n : ℕ). spot (with_entity entities system (with_end f reference place)) n r) same
        ∙ spot_at (with_entity entities system (with_end f reference place)) system r (with_end f reference place) (with_found entities system e (with_end f reference place) is)
        ∙ end_other f reference r place some (λ e. apart (same, e)) ∙ same_ends r ∙ sym (spot_at entities system r e is) ∙ ap (λ (n : ℕ). spot entities n r) (sym same)

-- the entity stays, but for its clock
pub spot_same : (entities : List Placed) (system : ℕ) (e f : Entity) → entity_at entities system ≡ Some e → f.ends ≡ e.ends → (s r : ℕ) → spot (with_entity entities system f) s r ≡ spot entities s r
spot_same entities system e f is ends s r = by (cases_eq s system)
  where
    by : (s ≡ system) ⊎ (s ≡ system → ⊥) → spot (with_entity entities system f) s r ≡ spot entities s r
    by (inr unlike) = ap (λ (o : Option Entity). found o r) (entity_other entities system s f unlike)
    by (inl same) =
        ap (λ (n : ℕ). spot (with_entity entities system f) n r) same
        ∙ spot_at (with_entity entities system f) system r f (with_found entities system e f is)
        ∙ ap (λ (l : List (Option End)). if r == 0 then None else there (slice_get l (r - 1))) ends ∙ sym (spot_at entities system r e is) ∙ ap (λ (n : ℕ). spot entities n r) (sym same)

-- ---- the least free reference

pub record IsLeast (now : ℕ) (e : Entity) (reference : ℕ) : Type 0 where
  pub old : Option End
  pub at : slice_get e.ends (reference - 1) ≡ Some old
  pub some : (reference == 0) ≡ false
  pub free : is_free_place now old ≡ true

pub least_is : (now : ℕ) (e : Entity) (reference : ℕ) → least_free now e ≡ Some reference → IsLeast now e reference
least_is now e reference is =
    let f = free_least now reference e is in
    let some : (reference == 0) ≡ false = let low = f.least in grind arith in
    let got : slice_get e.ends (reference - 1) ≡ Some (get_or e.ends (reference - 1) None) = slice_get-get_or e.ends (reference - 1) None (omega (arith, f.least, f.most)) in
    record { old = get_or e.ends (reference - 1) None; at = got; some = some; free = ap (is_free_place now) (sym (ap there got) ∙ sym (end_is e reference some)) ∙ f.free }

-- ---- what waits

waits_now : (n : ℕ) (b : Bool) → (n == n && is_same b b) ≡ true
waits_now n true = λ i. eq-eqb n n refl i && true
waits_now n false = λ i. eq-eqb n n refl i && true

pub waiting_first : (posted : Posted) (rest : List Posted) → waiting posted.of posted.by (posted ∷ rest) ≡ posted.sent ∷ waiting posted.of posted.by rest
waiting_first posted rest = ap (λ (b : Bool). if b then posted.sent ∷ waiting posted.of posted.by rest else waiting posted.of posted.by rest) (waits_now posted.of posted.by)

not_now : (n k : ℕ) (b by : Bool) → ((n ≡ k) × (b ≡ by) → ⊥) → (n == k && is_same b by) ≡ false
not_now n k b by apart = at (n == k) refl b by apart
  where
    at : (c : Bool) → (n == k) ≡ c → (b by : Bool) → ((n ≡ k) × (b ≡ by) → ⊥) → (c && is_same b by) ≡ false
    at false is b by apart = refl
    at true is true true apart = absurd (apart (eqb-true n k is, refl))
    at true is true false apart = refl
    at true is false true apart = refl
    at true is false false apart = absurd (apart (eqb-true n k is, refl))

pub waiting_behind : (posted : Posted) (rest : List Posted) (k : ℕ) (by : Bool) → ((posted.of ≡ k) × (posted.by ≡ by) → ⊥) → waiting k by (posted ∷ rest) ≡ waiting k by rest
waiting_behind posted rest k by apart = ap (λ (b : Bool). if b then posted.sent ∷ waiting k by rest else waiting k by rest) (not_now posted.of k posted.by by apart)

pub waiting_then : (k : ℕ) (by : Bool) (a b : List Posted) → waiting k by (a ++ b) ≡ waiting k by a ++ waiting k by b
waiting_then k by [] b = refl
waiting_then k by (posted ∷ a) b = at (posted.of == k && is_same posted.by by) (waiting_then k by a b)
  where
    at : (c : Bool) → waiting k by (a ++ b) ≡ waiting k by a ++ waiting k by b → (if c then posted.sent ∷ waiting k by (a ++ b) else waiting k by (a ++ b)) ≡ (if c then posted.sent ∷ waiting k by a else waiting k by a) ++ waiting k by b
    at true e = ap (λ (l : List Sent). posted.sent ∷ l) e
    at false e = e

pub waiting_post : (k : ℕ) (by : Bool) (l : List Sent) → waiting k by (post k by l) ≡ l
waiting_post k by [] = refl
waiting_post k by (sent ∷ l) = waiting_first (record { of = k; by = by; sent = sent }) (post k by l) ∙ ap (λ (m : List Sent). sent ∷ m) (waiting_post k by l)

pub waiting_apart : (k j : ℕ) (by other : Bool) (l : List Sent) → ((k ≡ j) × (by ≡ other) → ⊥) → waiting j other (post k by l) ≡ []
waiting_apart k j by other [] apart = refl
waiting_apart k j by other (sent ∷ l) apart = waiting_behind (record { of = k; by = by; sent = sent }) (post k by l) j other apart ∙ waiting_apart k j by other l apart
