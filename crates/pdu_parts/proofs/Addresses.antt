-- The address behind its length: what is found stands there, and what stands there is found.
use Rattle.std.proofs.Common.{◌≡◌, ℕ, ◌+◌, ◌≤◌, cond, Bool, true, false, List, [], ◌∷◌, ◌++◌, length, take, drop, Option, Some, None, refl, sym, ap, ◌∙◌, subst, arith}
use Rattle.std.specs.Prelude.{nat_le, nat_lt, ◌==◌, ◌||◌}
use Rattle.std.proofs.lemmas.Bool.{leb-true, le-leb}
use Rattle.std.proofs.lemmas.List.{take-append-drop, length-append, length-drop, length-take, take_at, drop_at}
use Rattle.std.proofs.lemmas.Option.{same_Some}
use Rattle.pdu_parts.specs.Field.{field, field_at, address_at, address_or_none, IsAddress}
use Rattle.pdu_parts.specs.Laws.{ReadsAddress}

-- what is found at the front stands there behind its length
pub record StandsBehind (octets part rest : List ℕ) : Type 0 where
  pub parts : octets ≡ field part ++ rest
  pub lengths : length octets ≡ 1 + length part + length rest

field_test : (fits : Bool) (len : ℕ) (octets part rest : List ℕ) → (fits ≡ true → len ≤ length octets)
    → ◌≡◌ {A = Option (List ℕ × List ℕ)} (cond fits (Some (take len octets, drop len octets)) None) (Some (part, rest)) → StandsBehind (len ∷ octets) part rest
field_test false len octets part rest within found = absurd cc
field_test true len octets part rest within found =
    let le : len ≤ length octets = within refl in
    let made : List ℕ × List ℕ = (take len octets, drop len octets) in
    let wanted : List ℕ × List ℕ = (part, rest) in
    let same : ◌≡◌ {A = List ℕ × List ℕ} made wanted = same_Some {A = List ℕ × List ℕ} made wanted found in
    let taken : length (take len octets) ≡ len = omega (arith, length-take len octets) in
    let here : StandsBehind (len ∷ octets) made.0 made.1 = record {
      parts = ap (λ (n : ℕ). n ∷ octets) (sym taken) ∙ ap (λ (xs : List ℕ). length (take len octets) ∷ xs) (sym (take-append-drop len octets));
      lengths = omega (arith, taken, length-drop len octets);
    } in
    subst (λ (x : List ℕ × List ℕ). StandsBehind (len ∷ octets) x.0 x.1) same here

pub field_stands : (octets part rest : List ℕ) → field_at octets ≡ Some (part, rest) → StandsBehind octets part rest
field_stands [] part rest found = absurd cc
field_stands (len ∷ octets) part rest found = field_test (nat_le len (length octets)) len octets part rest (leb-true len (length octets)) found

-- a part behind its length is found
pub field_again : (part rest : List ℕ) → field_at (field part ++ rest) ≡ Some (part, rest)
field_again part rest =
    let fits : nat_le (length part) (length (part ++ rest)) ≡ true = le-leb _ _ (omega (arith, length-append part rest)) in
    rw (fits, take_at part rest (length part) refl, drop_at part rest (length part) refl) refl

-- ---- addresses

found_test : (outside : Bool) (found wanted : List ℕ × List ℕ) → ((length found.0 == 0) || nat_lt 20 (length found.0)) ≡ outside
    → ◌≡◌ {A = Option (List ℕ × List ℕ)} (cond outside None (Some (found.0, found.1))) (Some wanted) → IsAddress wanted.0 × (found ≡ wanted)
found_test true found wanted is e = absurd cc
found_test false found wanted is e =
    let same : ◌≡◌ {A = List ℕ × List ℕ} found wanted = same_Some {A = List ℕ × List ℕ} found wanted e in
    let here : IsAddress found.0 = record { some = grind (arith, is); most = grind (arith, is) } in
    (subst (λ (x : List ℕ × List ℕ). IsAddress x.0) same here, same)

found_by : (octets : List ℕ) (found : Option (List ℕ × List ℕ)) (address rest : List ℕ) → field_at octets ≡ found
    → address_or_none found ≡ Some (address, rest) → IsAddress address × (octets ≡ field address ++ rest)
found_by octets None address rest is e = absurd cc
found_by octets (Some found) address rest is e =
    let wanted : List ℕ × List ℕ = (address, rest) in
    let test = found_test ((length found.0 == 0) || nat_lt 20 (length found.0)) found wanted refl e in
    let there : field_at octets ≡ Some (address, rest) = is ∙ ap (λ (x : List ℕ × List ℕ). let some : Option (List ℕ × List ℕ) = Some x in some) test.1 in
    (test.0, (field_stands octets address rest there).parts)

address_found : (octets address rest : List ℕ) → address_at octets ≡ Some (address, rest) → IsAddress address × (octets ≡ field address ++ rest)
unfolding address_at
address_found octets address rest e = found_by octets (field_at octets) address rest refl e

address_there : (address rest : List ℕ) → IsAddress address → address_at (field address ++ rest) ≡ Some (address, rest)
unfolding address_at
address_there address rest is =
    let inside : ((length address == 0) || nat_lt 20 (length address)) ≡ false = grind (arith, is.some, is.most) in
    rw (field_again address rest, inside) refl

pub reads_address : ReadsAddress
reads_address = record { found = address_found; there = address_there }
