-- A part that is read is spelled there, and what is spelled is read, whatever follows it.
use Rattle.std.proofs.Common.{◌≡◌, ℕ, zero, suc, ◌-◌, ◌<◌, ◌≤◌, get_or, cond, Bool, true, false, List, [], ◌∷◌, ◌++◌, length, take, drop, Option, Some, None, option_map, refl, sym, ap, subst, ◌∙◌, append_assoc, arith}
use Rattle.std.specs.Prelude.{◌==◌, IfSome}
use Rattle.std.specs.List.{flat_map, AllByRecursion}
use Rattle.std.proofs.lemmas.List.{length-append, take_at, take_all, append-nil}
use Rattle.pdu_parts.specs.Field.{IsAddress, address_at, field, field_at}
use Rattle.pdu_parts.proofs.Addresses.{field_again, field_stands, reads_address}
use Rattle.esis_pdu.specs.Addresses.{◌>>=◌, addresses_at, addresses_in, counted_at, in_front, snpa_at, title_at}
use Rattle.esis_pdu.specs.Hellos.{title_field}
use Rattle.esis_pdu.specs.steps.Reading.{after_addresses}

-- what is found by two steps, from what each finds
pub then_some : {A B : Type 0} (found : Option A) (next : A → Option B) (P : A → Type 0) (Q : B → Type 0) → IfSome found P → ((x : A) → P x → IfSome (next x) Q)
    → IfSome (found >>= next) Q
then_some (Some x) next P Q one more = more x one
then_some None next P Q one more = tt

pub each_some : {A : Type 0} (found : Option A) (P : A → Type 0) → ((x : A) → found ≡ Some x → P x) → IfSome found P
each_some (Some x) P each = each x refl
each_some None P each = tt

pub some_of : {A : Type 0} (found : Option A) (P : A → Type 0) (x : A) → IfSome found P → found ≡ Some x → P x
some_of found P x one e = subst (λ r. IfSome r P) e one

-- ---- the SNPA

abbrev pub IsSnpa : List ℕ → List ℕ × List ℕ → Type 0
IsSnpa octets x = (octets ≡ field x.0 ++ x.1) × (length x.0 ≡ 6)

six : (test : Bool) (octets : List ℕ) (x : List ℕ × List ℕ) → (test ≡ true → IsSnpa octets x) → IfSome (cond test (Some (x.0, x.1)) None) (IsSnpa octets)
six true octets x is = is refl
six false octets x is = tt

pub snpa_takes : (octets : List ℕ) → IfSome (snpa_at octets) (IsSnpa octets)
unfolding snpa_at
snpa_takes octets =
    then_some (field_at octets) (λ x. cond (length x.0 == 6) (Some (x.0, x.1)) None) (λ x. octets ≡ field x.0 ++ x.1) (IsSnpa octets)
    (each_some (field_at octets) _ (λ x e. (field_stands octets x.0 x.1 e).parts))
    (λ x spelled. six (length x.0 == 6) octets x (λ e. (spelled, grind arith)))

pub snpa_again : (x rest : List ℕ) → length x ≡ 6 → snpa_at (field x ++ rest) ≡ Some (x, rest)
unfolding snpa_at
snpa_again x rest six = rw (field_again x rest, six) refl

-- ---- addresses and the title

abbrev pub IsAddressAt : List ℕ → List ℕ × List ℕ → Type 0
IsAddressAt octets x = IsAddress x.0 × (octets ≡ field x.0 ++ x.1)

pub address_takes : (octets : List ℕ) → IfSome (address_at octets) (IsAddressAt octets)
address_takes octets = each_some (address_at octets) _ (λ x e. reads_address.found octets x.0 x.1 e)

abbrev pub IsTitleAt : List ℕ → Option (List ℕ) × List ℕ → Type 0
IsTitleAt octets x = (octets ≡ title_field x.0 ++ x.1) × IfSome x.0 IsAddress

title_test : (none : Bool) (len : ℕ) (rest : List ℕ) → (none ≡ true → len ≡ 0)
    → IfSome (cond none (Some (None, rest)) (address_at (len ∷ rest) >>= λ y. Some (Some y.0, y.1))) (IsTitleAt (len ∷ rest))
title_test true len rest absent = (ap (λ (n : ℕ). n ∷ rest) (absent refl), tt)
title_test false len rest absent =
    then_some (address_at (len ∷ rest)) (λ y. Some (Some y.0, y.1)) (IsAddressAt (len ∷ rest)) (IsTitleAt (len ∷ rest)) (address_takes (len ∷ rest))
    (λ y one. (one.1, one.0))

pub title_takes : (octets : List ℕ) → IfSome (title_at octets) (IsTitleAt octets)
unfolding title_at
title_takes [] = tt
title_takes (len ∷ rest) = title_test (len == 0) len rest (λ e. grind arith)

not_zero : (n : ℕ) → 0 < n → n == 0 ≡ false
not_zero n some = grind arith

pub title_again : (title : Option (List ℕ)) (rest : List ℕ) → IfSome title IsAddress → title_at (title_field title ++ rest) ≡ Some (title, rest)
unfolding title_at
title_again None rest fits = refl
title_again (Some title) rest fits =
    let some : length title == 0 ≡ false = not_zero (length title) fits.some in
    rw (some, reads_address.there title rest fits) refl

-- ---- addresses, one after another

-- so many addresses were read, and are spelled there
pub record AreRead (octets : List ℕ) (count : ℕ) (x : List (List ℕ) × List ℕ) : Type 0 where
  pub spelled : octets ≡ flat_map field x.0 ++ x.1
  pub number : length x.0 ≡ count
  pub each : AllByRecursion IsAddress x.0

pub addresses_take : (count : ℕ) (octets : List ℕ) → IfSome (addresses_at count octets) (AreRead octets count)
unfolding addresses_at
addresses_take zero octets = record { spelled = refl; number = refl; each = tt }
addresses_take (suc count) octets =
    then_some (address_at octets) (λ x. addresses_at count x.1 >>= λ y. Some (x.0 ∷ y.0, y.1)) (IsAddressAt octets) (AreRead octets (suc count)) (address_takes octets)
    (λ x one. then_some (addresses_at count x.1) (λ y. Some (x.0 ∷ y.0, y.1)) (AreRead x.1 count) (AreRead octets (suc count)) (addresses_take count x.1)
    (λ y more. record {
      spelled = one.1 ∙ ap (λ (xs : List ℕ). field x.0 ++ xs) more.spelled ∙ sym (append_assoc (field x.0) (flat_map field y.0) y.1);
      number = ap suc more.number;
      each = (one.0, more.each);
    }))

pub addresses_again : (addresses : List (List ℕ)) (rest : List ℕ) → AllByRecursion IsAddress addresses
    → addresses_at (length addresses) (flat_map field addresses ++ rest) ≡ Some (addresses, rest)
unfolding addresses_at
addresses_again [] rest fits = refl
addresses_again (address ∷ addresses) rest fits =
    let regrouped : flat_map field (address ∷ addresses) ++ rest ≡ field address ++ (flat_map field addresses ++ rest) = append_assoc (field address) (flat_map field addresses) rest in
    ap (addresses_at (suc (length addresses))) regrouped ∙ rw (reads_address.there address (flat_map field addresses ++ rest) fits.0, addresses_again addresses rest fits.1) refl

-- what is listed is what was read
pub listed_again : (addresses : List (List ℕ)) (rest : List ℕ) → AllByRecursion IsAddress addresses
    → addresses_in (length addresses) (flat_map field addresses ++ rest) ≡ addresses
unfolding addresses_in
listed_again [] rest fits = refl
listed_again (address ∷ addresses) rest fits =
    let regrouped : flat_map field (address ∷ addresses) ++ rest ≡ field address ++ (flat_map field addresses ++ rest) = append_assoc (field address) (flat_map field addresses) rest in
    let first : address_at (flat_map field (address ∷ addresses) ++ rest) ≡ Some (address, flat_map field addresses ++ rest) =
    ap address_at regrouped ∙ reads_address.there address (flat_map field addresses ++ rest) fits.0 in
    ap (λ (x : Option (List ℕ × List ℕ)). in_front x (addresses_in (length addresses))) first
    ∙ ap (λ (xs : List (List ℕ)). address ∷ xs) (listed_again addresses rest fits.1)

-- ---- a list that is lent

map_some : (r : Option (List (List ℕ) × List ℕ)) (after : List ℕ) → option_map (λ found. found.1) r ≡ Some after
    → (x : List (List ℕ) × List ℕ) × (r ≡ Some x) × (x.1 ≡ after)
map_some (Some x) after e = (x, refl, cc)
map_some None after e = absurd cc

pub after_fits : (count : ℕ) (octets after : List ℕ) → after_addresses count octets ≡ Some after → length after ≤ length octets
after_fits count octets after e =
    let b = map_some (addresses_at count octets) after e in
    let read = some_of (addresses_at count octets) (AreRead octets count) b.0 (addresses_take count octets) b.1 in
    omega (arith, length-append (flat_map field b.0.0) b.0.1, ap length read.spelled, ap length b.2)

-- the first octet and the others
pub front_is : (octets : List ℕ) → 1 ≤ length octets → octets ≡ get_or octets 0 0 ∷ take (length octets - 1) (drop 1 octets)
front_is [] some = absurd (omega arith)
front_is (octet ∷ octets) some =
    let all : length (octet ∷ octets) - 1 ≡ length octets = omega arith in
    ap (λ (xs : List ℕ). octet ∷ xs) (sym (rw all (take_all (length octets) octets (omega arith))))

-- the octets of the addresses that were read list them
listed_part : (count : ℕ) (octets : List ℕ) (addresses : List (List ℕ)) (after : List ℕ) → AreRead octets count (addresses, after)
    → addresses_in count (take (length octets - length after) octets) ≡ addresses
listed_part count octets addresses after read =
    let spelled : octets ≡ flat_map field addresses ++ after = read.spelled in
    let used : length octets - length after ≡ length (flat_map field addresses) = omega (arith, length-append (flat_map field addresses) after, ap length spelled) in
    let part : take (length octets - length after) octets ≡ flat_map field addresses =
    rw (used, spelled) (take_at (flat_map field addresses) after (length (flat_map field addresses)) refl) in
    let ended : take (length octets - length after) octets ≡ flat_map field addresses ++ [] = part ∙ sym (append-nil (flat_map field addresses)) in
    rw (ended, ← read.number) (listed_again addresses [] read.each)

abbrev listed_pair : ℕ → List ℕ → List ℕ → List (List ℕ) × List ℕ
listed_pair count octets after = (addresses_in count (take (length octets - length after) octets), after)

listed_passed : (count : ℕ) (octets after : List ℕ) → after_addresses count octets ≡ Some after → addresses_at count octets ≡ Some (listed_pair count octets after)
listed_passed count octets after e =
    let b = map_some (addresses_at count octets) after e in
    let list : addresses_in count (take (length octets - length b.0.1) octets) ≡ b.0.0 = listed_part count octets b.0.0 b.0.1 (some_of (addresses_at count octets) (AreRead octets count) b.0 (addresses_take count octets) b.1) in
    let here : addresses_at count octets ≡ Some (listed_pair count octets b.0.1) = b.1 ∙ ap (λ (xs : List (List ℕ)). Some (xs, b.0.1)) (sym list) in
    subst (λ (xs : List ℕ). addresses_at count octets ≡ Some (listed_pair count octets xs)) b.2 here

-- the octets that were passed list the addresses that were read
pub listed_found : (octets after : List ℕ) (count : ℕ) (lent : List ℕ) → 1 ≤ length octets
    → after_addresses (get_or octets 0 0) (take (length octets - 1) (drop 1 octets)) ≡ Some after
    → count ≡ get_or octets 0 0
    → lent ≡ take (length (take (length octets - 1) (drop 1 octets)) - length after) (take (length octets - 1) (drop 1 octets))
    → counted_at octets ≡ Some (addresses_in count lent, after)
unfolding counted_at
listed_found octets after count lent some e count_is lent_is =
    rw (count_is, lent_is) (ap counted_at (front_is octets some) ∙ listed_passed (get_or octets 0 0) (take (length octets - 1) (drop 1 octets)) after e)
