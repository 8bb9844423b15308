-- A prefix covers what begins with it, and an address is its system's part and its selector.
-- Each is a fact on `take` and `==` of lists, since the definitions are made of these.
use Rattle.std.proofs.Common.{◌≡◌, ℕ, ◌+◌, ◌-◌, ◌<◌, true, List, [], ◌∷◌, ◌++◌, length, take, drop, refl, sym, ap, ◌∙◌, arith}
use Rattle.std.specs.Prelude.{◌↔◌, nat_eq}
use Rattle.std.specs.Bool.{Decides}
use Rattle.std.proofs.Math.Seq.{get_or-append_seam, take-append_seam, take-length}
use Rattle.std.proofs.lemmas.List.{length-append, take_more}
use Rattle.std.proofs.lemmas.Bool.Decides.{Decides-eqb}
use Rattle.std.proofs.lemmas.Slice.Eq.{slice_eq-Decides, starts_is}
use Rattle.nsap.specs.Address.{covers, is_same_system, selector_of, system_part}

-- the rest is what stands behind as many octets as the prefix has
pub covers-append : (prefix address : List ℕ) → (covers prefix address ≡ true) ↔ ((rest : List ℕ) × (address ≡ prefix ++ rest))
covers-append prefix address =
    let parts = starts_is Decides-eqb address prefix (covers prefix address) refl in
    (λ h. (drop (length prefix) address, parts.0 h), λ found. parts.1 found.0 found.1)

-- an address is its system's part and its selector
pub system_part-selector_of : (address : List ℕ) → 0 < length address → system_part address ++ selector_of address ∷ [] ≡ address
system_part-selector_of address some =
    let last : length address - 1 + 1 ≡ length address = omega arith in
    sym (take_more address (length address - 1) 0 (omega arith)) ∙ ap (λ (n : ℕ). take n address) last ∙ take-length address

-- what `with_selector` makes has the same system's part
pub system_part-append : (system : List ℕ) (selector : ℕ) → system_part (system ++ selector ∷ []) ≡ system
system_part-append system selector =
    let front : length (system ++ selector ∷ []) - 1 ≡ length system = omega (arith, length-append system (selector ∷ [])) in
    rw front (take-append_seam system (selector ∷ []))

-- and the new selector
pub selector_of-append : (system : List ℕ) (selector : ℕ) → selector_of (system ++ selector ∷ []) ≡ selector
selector_of-append system selector =
    let front : length (system ++ selector ∷ []) - 1 ≡ length system = omega (arith, length-append system (selector ∷ [])) in
    rw front (get_or-append_seam system selector [] 0)

-- the test is true exactly where the systems' parts are equal
pub is_same_system-Decides : (first second : List ℕ) → Decides (is_same_system first second) (system_part first ≡ system_part second)
is_same_system-Decides first second =
    slice_eq-Decides {E = nat_eq} Decides-eqb (system_part first) (system_part second) (is_same_system first second) refl
