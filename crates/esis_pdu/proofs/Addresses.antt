-- Addresses one after another, as the loops over them go: the first of them, and then those of the octets
-- after it.
use Rattle.std.proofs.Common.{◌≡◌, ℕ, zero, suc, ◌-◌, ◌+◌, ◌<◌, ◌≤◌, List, [], ◌∷◌, length, Option, Some, None, option_map, slice_get, refl, sym, ap, arith}
use Rattle.pdu_parts.specs.Field.{address_at}
use Rattle.esis_pdu.specs.Addresses.{◌>>=◌, addresses_at, addresses_in, in_front}
use Rattle.esis_pdu.specs.steps.Reading.{after_addresses}

-- ---- the octets after them

pub after_none : (count : ℕ) (octets : List ℕ) → 0 < count → address_at octets ≡ None → after_addresses count octets ≡ None
unfolding addresses_at
after_none zero octets some none = absurd (omega arith)
after_none (suc count) octets some none = rw none refl

-- an address before them
abbrev put_first : List ℕ → List (List ℕ) × List ℕ → Option (List (List ℕ) × List ℕ)
put_first address x = Some (address ∷ x.0, x.1)

after_rest : (address : List ℕ) (read : Option (List (List ℕ) × List ℕ)) → option_map (λ found. found.1) (read >>= put_first address) ≡ option_map (λ found. found.1) read
after_rest address (Some x) = refl
after_rest address None = refl

pub after_some : (count : ℕ) (octets address after : List ℕ) → address_at octets ≡ Some (address, after)
    → after_addresses (suc count) octets ≡ after_addresses count after
unfolding addresses_at
after_some count octets address after found = rw found (after_rest address (addresses_at count after))

-- ---- the list of them

pub in_none : (count : ℕ) (octets : List ℕ) → address_at octets ≡ None → addresses_in count octets ≡ []
unfolding addresses_in
in_none zero octets none = refl
in_none (suc count) octets none = ap (λ (x : Option (List ℕ × List ℕ)). in_front x (addresses_in count)) none

pub in_some : (count : ℕ) (octets address after : List ℕ) → address_at octets ≡ Some (address, after)
    → addresses_in (suc count) octets ≡ address ∷ addresses_in count after
unfolding addresses_in
in_some count octets address after found = ap (λ (x : Option (List ℕ × List ℕ)). in_front x (addresses_in count)) found

past_front : (count i : ℕ) (read : Option (List ℕ × List ℕ)) → ((octets : List ℕ) → slice_get (addresses_in count octets) i ≡ None)
    → slice_get (in_front read (addresses_in count)) (suc i) ≡ None
past_front count i (Some x) past = past x.1
past_front count i None past = refl

-- past the count there is none
pub past_count : (count : ℕ) (octets : List ℕ) (i : ℕ) → count ≤ i → slice_get (addresses_in count octets) i ≡ None
unfolding addresses_in
past_count zero octets i past = refl
past_count (suc count) octets zero past = absurd (omega arith)
past_count (suc count) octets (suc i) past = past_front count i (address_at octets) (λ after. past_count count after i (omega arith))

-- there are no more than the count says
front_length : (count : ℕ) (read : Option (List ℕ × List ℕ)) → ((octets : List ℕ) → length (addresses_in count octets) ≤ count)
    → length (in_front read (addresses_in count)) ≤ suc count
front_length count (Some x) within = omega (arith, within x.1)
front_length count None within = omega arith

pub length_in : (count : ℕ) (octets : List ℕ) → length (addresses_in count octets) ≤ count
unfolding addresses_in
length_in zero octets = omega arith
length_in (suc count) octets = front_length count (address_at octets) (length_in count)

-- ---- the loop that drops them

-- one is dropped
pub after_goes_on : (count i : ℕ) (octets address after : List ℕ) → i < count → address_at octets ≡ Some (address, after)
    → after_addresses (count - (i + 1)) after ≡ after_addresses (count - i) octets
after_goes_on count i octets address after more found =
    let left : count - i ≡ suc (count - (i + 1)) = omega arith in
    rw left (sym (after_some (count - (i + 1)) octets address after found))

-- all are dropped
pub after_done : (count i : ℕ) (octets : List ℕ) → count ≤ i → after_addresses (count - i) octets ≡ Some octets
unfolding addresses_at
after_done count i octets past =
    let left : count - i ≡ 0 = omega arith in
    rw left refl

-- ---- the loop that goes to one of them

-- one is passed
pub nth_goes_on : (count index i : ℕ) (octets address after : List ℕ) → i < index → index < count → address_at octets ≡ Some (address, after)
    → slice_get (addresses_in (count - (i + 1)) after) (index - (i + 1)) ≡ slice_get (addresses_in (count - i) octets) (index - i)
nth_goes_on count index i octets address after before within found =
    let left : count - i ≡ suc (count - (i + 1)) = omega arith in
    let nearer : index - i ≡ suc (index - (i + 1)) = omega arith in
    rw (left, nearer, in_some (count - (i + 1)) octets address after found) refl

first_found : (read : Option (List ℕ × List ℕ)) (more : List ℕ → List (List ℕ)) → slice_get (in_front read more) 0 ≡ option_map (λ x. x.0) read
first_found (Some x) more = refl
first_found None more = refl

-- it is the next
pub nth_last : (count index i : ℕ) (octets : List ℕ) → index ≤ i → i ≤ index → index < count
    → slice_get (addresses_in (count - i) octets) (index - i) ≡ option_map (λ x. x.0) (address_at octets)
unfolding addresses_in
nth_last count index i octets past least within =
    let left : count - i ≡ suc (count - (i + 1)) = omega arith in
    let here : index - i ≡ 0 = omega arith in
    rw (left, here) (first_found (address_at octets) (addresses_in (count - (i + 1))))

-- none stands there
pub nth_none : (count index : ℕ) (octets : List ℕ) → address_at octets ≡ None → slice_get (addresses_in count octets) index ≡ None
nth_none count index octets none = rw (in_none count octets none) refl
