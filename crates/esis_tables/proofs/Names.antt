-- Names among others: what one name more makes of the names that are not there.
use Rattle.std.proofs.Common.{◌≡◌, ℕ, zero, suc, ◌<◌, Bool, true, false, List, [], ◌∷◌, ◌++◌, length, get_or, refl, sym, ap, ◌∙◌, arith, append_assoc}
use Rattle.std.specs.Prelude.{◌||◌, nat_eq, if◌then◌else◌}
use Rattle.std.specs.List.{All}
use Rattle.std.specs.Cmp.Lexicographic.{pointwise, same_text, nat_list_eq_equiv}
use Rattle.std.proofs.lemmas.Bool.{or_parts, or_from, or_left, or_right}
use Rattle.std.proofs.lemmas.List.{append-nil}
use Rattle.std.proofs.lemmas.List.Elements.{All-nil, All-cons, All-weaker}
use Rattle.std.proofs.lemmas.List.Folds.{list_any-append}
use Rattle.esis_tables.specs.Told.{is_among}
use Rattle.esis_tables.specs.Rows.{AreDistinct, new_names}

abbrev Name : Type 0
Name = List ℕ

abbrev if_new : Bool → Name → List Name
if_new there name = if there then [] else name ∷ []

pub is_among-append : (xs ys : List Name) (name : Name) → is_among (xs ++ ys) name ≡ (is_among xs name || is_among ys name)
is_among-append xs ys name = list_any-append (λ x. pointwise nat_eq x name) xs ys

-- the new names of two lists, one after the other
pub new_names-append : (there xs ys : List Name) → new_names there (xs ++ ys) ≡ new_names there xs ++ new_names (there ++ new_names there xs) ys
new_names-append there [] ys = ap (λ (zs : List Name). new_names zs ys) (sym (append-nil there))
new_names-append there (x ∷ xs) ys = by (is_among there x) (new_names-append there xs ys) (new_names-append (there ++ x ∷ []) xs ys)
  where
    by : (known : Bool) → new_names there (xs ++ ys) ≡ new_names there xs ++ new_names (there ++ new_names there xs) ys
        → new_names (there ++ x ∷ []) (xs ++ ys) ≡ new_names (there ++ x ∷ []) xs ++ new_names ((there ++ x ∷ []) ++ new_names (there ++ x ∷ []) xs) ys
        → (if known then new_names there (xs ++ ys) else x ∷ new_names (there ++ x ∷ []) (xs ++ ys))
        ≡ (if known then new_names there xs else x ∷ new_names (there ++ x ∷ []) xs) ++ new_names
        (there ++ (if known then new_names there xs else x ∷ new_names (there ++ x ∷ []) xs)) ys
    by true here later = here
    by false here later =
        ap (λ (zs : List Name). x ∷ zs) later
        ∙ ap (λ (zs : List Name). x ∷ new_names (there ++ x ∷ []) xs ++ new_names zs ys) (append_assoc there (x ∷ []) (new_names (there ++ x ∷ []) xs))

-- one name more
pub new_names-push : (there xs : List Name) (name : Name)
    → new_names there (xs ++ name ∷ []) ≡ new_names there xs ++ if_new (is_among (there ++ new_names there xs) name) name
new_names-push there xs name = new_names-append there xs (name ∷ [])
    ∙ ap (λ (zs : List Name). new_names there xs ++ zs) (by (is_among (there ++ new_names there xs) name))
  where
    by : (known : Bool) → (if known then [] else name ∷ []) ≡ if_new known name
    by true = refl
    by false = refl

-- each new name is a name
pub new_are_names : (there names : List Name) → All (λ name. is_among names name ≡ true) (new_names there names)
new_are_names there [] = All-nil (λ name. is_among [] name ≡ true)
new_are_names there (x ∷ names) = by (is_among there x) (new_are_names there names) (new_are_names (there ++ x ∷ []) names)
  where
    more : (others : List Name) → All (λ name. is_among names name ≡ true) others → All (λ name. is_among (x ∷ names) name ≡ true) others
    more others = All-weaker (λ name. is_among names name ≡ true) (λ name. is_among (x ∷ names) name ≡ true)
        (λ name is. or_right (pointwise nat_eq x name) (is_among names name) is) others

    by : (known : Bool) → All (λ name. is_among names name ≡ true) (new_names there names)
        → All (λ name. is_among names name ≡ true) (new_names (there ++ x ∷ []) names)
        → All (λ name. is_among (x ∷ names) name ≡ true) (if known then new_names there names else x ∷ new_names (there ++ x ∷ []) names)
    by true here later = more (new_names there names) here
    by false here later = All-cons (λ name. is_among (x ∷ names) name ≡ true) x (new_names (there ++ x ∷ []) names)
        (or_left (pointwise nat_eq x x) (is_among names x) (nat_list_eq_equiv.refl x)) (more (new_names (there ++ x ∷ []) names) later)

-- a name is there or is a new one
pub named_somewhere : (there names : List Name) (name : Name) → is_among there name ≡ false → is_among (new_names there names) name ≡ false
    → is_among names name ≡ false
named_somewhere there [] name not_there not_new = refl
named_somewhere there (x ∷ names) name not_there not_new =
    by (is_among there x) refl not_new (named_somewhere there names name not_there) (named_somewhere (there ++ x ∷ []) names name)
  where
    other : (same : Bool) → is_among there x ≡ true → pointwise nat_eq x name ≡ same → same ≡ false
    other true known same = let clash : true ≡ false = sym known ∙ ap (is_among there) (same_text x name (sym same)) ∙ not_there in absurd cc
    other false known same = refl

    by : (known : Bool) → is_among there x ≡ known → is_among (if known then new_names there names else x ∷ new_names (there ++ x ∷ []) names) name ≡ false
        → (is_among (new_names there names) name ≡ false → is_among names name ≡ false)
        → (is_among (there ++ x ∷ []) name ≡ false → is_among (new_names (there ++ x ∷ []) names) name ≡ false → is_among names name ≡ false)
        → is_among (x ∷ names) name ≡ false
    by true known none here later = or_from (pointwise nat_eq x name) (is_among names name) (other (pointwise nat_eq x name) known refl) (here none)
    by false known none here later =
        let parts : (pointwise nat_eq x name ≡ false) × (is_among (new_names (there ++ x ∷ []) names) name ≡ false) =
        or_parts (pointwise nat_eq x name) (is_among (new_names (there ++ x ∷ []) names) name) none in
        let behind : is_among (there ++ x ∷ []) name ≡ false = is_among-append there (x ∷ []) name
        ∙ or_from (is_among there name) (is_among (x ∷ []) name) not_there (or_from (pointwise nat_eq x name) false parts.0 refl) in
        or_from (pointwise nat_eq x name) (is_among names name) parts.0 (later behind parts.1)

-- an address behind others among which it is not
pub distinct_push : (xs : List Name) (name : Name) → AreDistinct xs → is_among xs name ≡ false → AreDistinct (xs ++ name ∷ [])
distinct_push [] name distinct fresh = (refl, tt)
distinct_push (x ∷ xs) name distinct fresh =
    let parts : (pointwise nat_eq x name ≡ false) × (is_among xs name ≡ false) = or_parts (pointwise nat_eq x name) (is_among xs name) fresh in
    let other : pointwise nat_eq name x ≡ false = nat_list_eq_equiv.symm name x ∙ parts.0 in (
      is_among-append xs (name ∷ []) x ∙ or_from (is_among xs x) (is_among (name ∷ []) x) distinct.0 (or_from (pointwise nat_eq name x) false other refl),
      distinct_push xs name distinct.1 parts.1,
    )

-- a name at a place is among them
pub among_at : (xs : List Name) (place : ℕ) (d : Name) → place < length xs → is_among xs (get_or xs place d) ≡ true
among_at [] place d within = absurd (omega arith)
among_at (x ∷ xs) zero d within = or_left (pointwise nat_eq x x) (is_among xs x) (nat_list_eq_equiv.refl x)
among_at (x ∷ xs) (suc place) d within = or_right (pointwise nat_eq x (get_or xs place d)) (is_among xs (get_or xs place d)) (among_at xs place d (omega arith))

-- addresses that differ are at one place
pub one_place : (xs : List Name) (first second : ℕ) (d : Name) → AreDistinct xs → first < length xs → second < length xs
    → get_or xs first d ≡ get_or xs second d → first ≡ second
one_place [] first second d distinct low high same = absurd (omega arith)
one_place (x ∷ xs) zero zero d distinct low high same = refl
one_place (x ∷ xs) zero (suc second) d distinct low high same =
    let clash : true ≡ false = sym (among_at xs second d (omega arith)) ∙ ap (is_among xs) (sym same) ∙ distinct.0 in absurd cc
one_place (x ∷ xs) (suc first) zero d distinct low high same =
    let clash : true ≡ false = sym (among_at xs first d (omega arith)) ∙ ap (is_among xs) same ∙ distinct.0 in absurd cc
one_place (x ∷ xs) (suc first) (suc second) d distinct low high same = ap suc (one_place xs first second d distinct.1 (omega arith) (omega arith) same)
