-- Entries one after another: the first of them, and then those of the octets after it.
use Rattle.std.proofs.Common.{◌≡◌, ℕ, zero, suc, ◌+◌, ◌-◌, ◌<◌, ◌≤◌, ◌&&◌, cond, Bool, true, false, List, [], ◌∷◌, ◌++◌, length, take, drop, Option, Some, None, refl, sym, ap, ◌∙◌, arith, All, inl, inr}
use Rattle.std.specs.Prelude.{nat_le, nat_lt, ◌==◌, ◌||◌, not}
use Rattle.std.proofs.lemmas.Bool.{leb-true, le-leb, lt-leb, and_parts, cases_lt}
use Rattle.std.proofs.lemmas.List.{length-append, take_at, length-take-le}
use Rattle.std.proofs.lemmas.List.Concat.{flat_map-append}
use Rattle.std.proofs.lemmas.List.Elements.{All-nil, All-cons, All-head, All-tail}
use Rattle.pdu_parts.specs.Field.{IsAddress, field, address_at, address_or_none}
use Rattle.pdu_parts.proofs.Addresses.{reads_address}
use Rattle.clnp_options.specs.Titles.{AreEntries, entries, are_entries_after, are_entries, are_entries_to}

le_suc : (a b : ℕ) → nat_le (suc a) (suc b) ≡ nat_le a b
le_suc a b =
    elim (cases_lt b a) [
      | inl lt ↦ lt-leb (suc a) (suc b) (omega arith) ∙ sym (lt-leb a b lt)
      | inr le ↦ le-leb (suc a) (suc b) (omega arith) ∙ sym (le-leb a b le)
    ]

-- skipping is dropping, and fails past the end
pub after_drop : (count : ℕ) (octets : List ℕ) → are_entries_after count octets ≡ (nat_le count (length octets) && are_entries (drop count octets))
unfolding are_entries_after
after_drop zero octets = rw (le-leb 0 (length octets) (omega arith)) refl
after_drop (suc count) [] = rw (lt-leb (suc count) 0 (omega arith)) refl
after_drop (suc count) (octet ∷ octets) = rw (le_suc count (length octets)) (after_drop count octets)

-- whether octets are entries that begin with what is found there
abbrev pub are_from : Option (List ℕ × List ℕ) → Bool
are_from None = false
are_from (Some found) = are_entries found.1

outside_test : (inside outside : Bool) (title rest : List ℕ) → outside ≡ not inside → (inside && are_entries rest) ≡ are_from (cond outside None (Some (title, rest)))
outside_test true true title rest same = absurd cc
outside_test true false title rest same = refl
outside_test false true title rest same = refl
outside_test false false title rest same = absurd cc

outside_is : (len : ℕ) → ((len == 0) || nat_lt 20 len) ≡ not (nat_lt 0 len && nat_le len 20)
outside_is len = grind arith

none_within : (inside : Bool) → (inside && false) ≡ false
none_within true = refl
none_within false = refl

from_test : (within : Bool) (len : ℕ) (title rest : List ℕ) → (within ≡ true → length title ≡ len)
    → ((nat_lt 0 len && nat_le len 20) && (within && are_entries rest)) ≡ are_from (address_or_none (cond within (Some (title, rest)) None))
from_test false len title rest taken = none_within (nat_lt 0 len && nat_le len 20)
from_test true len title rest taken =
    outside_test (nat_lt 0 len && nat_le len 20) ((length title == 0) || nat_lt 20 (length title)) title rest
    (ap (λ (n : ℕ). (n == 0) || nat_lt 20 n) (taken refl) ∙ outside_is len)

pub in_front : (len : ℕ) (octets : List ℕ) → are_entries (len ∷ octets) ≡ are_from (address_at (len ∷ octets))
unfolding are_entries_after address_at
in_front len octets =
    ap (λ (b : Bool). (nat_lt 0 len && nat_le len 20) && b) (after_drop len octets)
    ∙ from_test (nat_le len (length octets)) len (take len octets) (drop len octets) (λ fits. length-take-le len octets (leb-true len (length octets) fits))

pub whole_next : (rest title after : List ℕ) (whole : Bool) → Some (title, after) ≡ address_at rest → are_entries rest ≡ whole → are_entries after ≡ whole
unfolding address_at
whole_next [] title after whole found so_far = absurd cc
whole_next (len ∷ octets) title after whole found so_far = sym (in_front len octets ∙ ap are_from (sym found)) ∙ so_far

pub whole_not : (rest : List ℕ) (whole : Bool) → None ≡ address_at rest → 0 < length rest → are_entries rest ≡ whole → false ≡ whole
whole_not [] whole found some so_far = absurd (omega arith)
whole_not (len ∷ octets) whole found some so_far = sym (in_front len octets ∙ ap are_from (sym found)) ∙ so_far

pub whole_end : (rest : List ℕ) (whole : Bool) → length rest ≡ 0 → are_entries rest ≡ whole → true ≡ whole
unfolding are_entries_after
whole_end [] whole none so_far = so_far
whole_end (len ∷ octets) whole none so_far = absurd (omega arith)

-- ---- what are entries has titles, and entries of titles are entries

-- what stands at the front is an entry of that title
pub record TitleFronts (octets title after : List ℕ) : Type 0 where
  pub parts : octets ≡ field title ++ after
  pub is_title : IsAddress title
  pub shorter : length octets ≡ 1 + length title + length after

pub title_fronts : (octets title after : List ℕ) → Some (title, after) ≡ address_at octets → TitleFronts octets title after
title_fronts octets title after found =
    let there = reads_address.found octets title after (sym found) in
    record { parts = there.1; is_title = there.0; shorter = ap length there.1 ∙ omega (arith, length-append title after) }

pub title_again : (title after : List ℕ) → IsAddress title → address_at (field title ++ after) ≡ Some (title, after)
title_again title after is = reads_address.there title after is

pub are_one_more : (title after : List ℕ) → IsAddress title → are_entries (field title ++ after) ≡ are_entries after
are_one_more title after is = in_front (length title) (title ++ after) ∙ ap are_from (title_again title after is)

pub entries_again : (titles : List (List ℕ)) → All IsAddress titles → are_entries (entries titles) ≡ true
unfolding are_entries_after
entries_again [] each = refl
entries_again (title ∷ titles) each =
    are_one_more title (entries titles) (All-head IsAddress title titles each) ∙ entries_again titles (All-tail IsAddress title titles each)

titles_from : (octets : List ℕ) (found : Option (List ℕ × List ℕ)) → found ≡ address_at octets → are_from found ≡ true
    → ((after : List ℕ) → length after < length octets → are_entries after ≡ true → (titles : List (List ℕ)) × AreEntries after titles)
    → (titles : List (List ℕ)) × AreEntries octets titles
titles_from octets None same holds rest = absurd cc
titles_from octets (Some found) same holds rest =
    let front = title_fronts octets found.0 found.1 same in
    let others = rest found.1 (omega (arith, front.shorter)) holds in (
      found.0 ∷ others.0,
      record {
        parts = front.parts ∙ ap (λ (xs : List ℕ). field found.0 ++ xs) others.1.parts;
        each = All-cons IsAddress found.0 others.0 front.is_title others.1.each;
      },
    )

titles_within : (n : ℕ) (octets : List ℕ) → length octets ≤ n → are_entries octets ≡ true → (titles : List (List ℕ)) × AreEntries octets titles
titles_within n [] le holds = ([], record { parts = refl; each = All-nil IsAddress })
titles_within zero (len ∷ octets) le holds = absurd (omega arith)
titles_within (suc n) (len ∷ octets) le holds =
    titles_from (len ∷ octets) (address_at (len ∷ octets)) refl (sym (in_front len octets) ∙ holds) (λ after lt whole. titles_within n after (omega arith) whole)

pub titles_of : (octets : List ℕ) → are_entries octets ≡ true → (titles : List (List ℕ)) × AreEntries octets titles
titles_of octets holds = titles_within (length octets) octets (omega arith) holds

pub entries-append : (front back : List (List ℕ)) → entries (front ++ back) ≡ entries front ++ entries back
entries-append front back = flat_map-append field front back

pub some_entries : (titles : List (List ℕ)) → 0 < length (entries titles) → 0 < length titles
some_entries [] some = some
some_entries (title ∷ titles) some = omega arith

pub some_octets : (titles : List (List ℕ)) → 0 < length titles → 0 < length (entries titles)
some_octets [] some = some
some_octets (title ∷ titles) some = omega arith

-- ---- entries up to an offset

pub record FillsTo (offset : ℕ) (octets : List ℕ) (titles : List (List ℕ)) : Type 0 where
  pub offset_is : offset ≡ 3 + length (entries titles)
  pub within : offset ≤ length octets + 3
  pub front : take (offset - 3) octets ≡ entries titles
  pub each : All IsAddress titles

pub fills_to : (offset : ℕ) (octets : List ℕ) → are_entries_to offset octets ≡ true → (titles : List (List ℕ)) × FillsTo offset octets titles
fills_to offset octets holds =
    let both = and_parts (nat_le 3 offset && nat_le (offset - 3) (length octets)) (are_entries (take (offset - 3) octets)) holds in
    let two = and_parts (nat_le 3 offset) (nat_le (offset - 3) (length octets)) both.0 in
    let least : 3 ≤ offset = leb-true 3 offset two.0 in
    let within : offset - 3 ≤ length octets = leb-true (offset - 3) (length octets) two.1 in
    let titles = titles_of (take (offset - 3) octets) both.1 in
    let len : length (entries titles.0) ≡ offset - 3 = sym (ap length titles.1.parts) ∙ length-take-le (offset - 3) octets within in
    (titles.0, record { offset_is = omega (arith, len); within = omega arith; front = titles.1.parts; each = titles.1.each })

pub fills_again : (titles : List (List ℕ)) (after : List ℕ) → All IsAddress titles → are_entries_to (3 + length (entries titles)) (entries titles ++ after) ≡ true
fills_again titles after each =
    let least : nat_le 3 (3 + length (entries titles)) ≡ true = le-leb _ _ (omega arith) in
    let count : (3 + length (entries titles)) - 3 ≡ length (entries titles) = omega arith in
    let within : nat_le (length (entries titles)) (length (entries titles ++ after)) ≡ true = le-leb _ _ (omega (arith, length-append (entries titles) after)) in
    rw (count, least, within, take_at (entries titles) after (length (entries titles)) refl) (entries_again titles each)
