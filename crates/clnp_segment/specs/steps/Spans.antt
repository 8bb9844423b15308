-- Runs of octets, the places that they stand for, and a run that is joined with those that it meets.
use Rattle.std.specs.Prelude.{◌≡◌, ◌<◌, ◌≤◌, ℕ, zero, suc, ◌+◌, ◌-◌, nat_lt, min, if◌then◌else◌, List, [], ◌∷◌, ◌++◌, length, take, drop, Option, Some, None, slice_get, slice_index_or, slice_range}
use Rattle.std.specs.List.{AllByRecursion}
use Rattle.clnp_segment.specs.declared.runs.Run.{Run}

abbrev pub end_of : Run → ℕ
end_of x = x.start + length x.octets

-- the octet of a run at a position
abbrev pub octet_of : Run → ℕ → Option ℕ
octet_of x at = if nat_lt at x.start then None else slice_get x.octets (at - x.start)

-- the first that is there
abbrev pub or_else : Option ℕ → Option ℕ → Option ℕ
or_else None other = other
or_else (Some octet) other = Some octet

abbrev pub octet_in : List Run → ℕ → Option ℕ
octet_in [] at = None
octet_in (x ∷ xs) at = or_else (octet_of x at) (octet_in xs at)

-- the places from one on
abbrev pub slots_from : List Run → ℕ → ℕ → List (Option ℕ)
slots_from xs from zero = []
slots_from xs from (suc count) = octet_in xs from ∷ slots_from xs (from + 1) count

-- each run begins behind the one before it, and does not touch it; none is empty
abbrev pub Rise : ℕ → List Run → Type 0
Rise least [] = Unit {0}
Rise least (x ∷ xs) = (least ≤ x.start) × (0 < length x.octets) × Rise (end_of x + 1) xs

-- how many octets they have
abbrev pub size : List Run → ℕ
size [] = 0
size (x ∷ xs) = length x.octets + size xs

-- they rise, end within the places, and have so many octets
pub record AreRuns (runs : List Run) (total count : ℕ) : Type 0 where
  pub rise : Rise 0 runs
  pub within : AllByRecursion (λ x. end_of x ≤ total) runs
  pub counted : count ≡ size runs

-- the two as one, with the octets of the second where both have one
abbrev pub merged : Run → Run → Run
merged x r = record { start = min x.start r.start; octets = take (r.start - x.start) x.octets ++ (r.octets ++ drop (end_of r - x.start) x.octets) }

-- a run with those that it meets, one after another
abbrev pub gathered : List Run → Run → Run
gathered [] r = r
gathered (x ∷ xs) r = gathered xs (merged x r)

-- the front of the one, a run, and the back of the other
abbrev pub spanned : Run → Run → Run → Run
spanned x y r = record { start = min x.start r.start; octets = take (r.start - x.start) x.octets ++ (r.octets ++ drop (end_of r - y.start) y.octets) }

-- a run is joined with those that it meets
abbrev pub joined : List Run → Run → List Run
joined [] r = r ∷ []
joined (x ∷ xs) r =
    if nat_lt (end_of x) r.start then x ∷ joined xs r
    else if nat_lt (end_of r) x.start then r ∷ x ∷ xs
    else joined xs (merged x r)

-- the runs below that one end before the position, and the others end there or behind it
pub record IsFirst (runs : List Run) (at first : ℕ) : Type 0 where
  pub within : first ≤ length runs
  pub before : (k : ℕ) (d : Run) → k < first → end_of (slice_index_or runs k d) < at
  pub met : (k : ℕ) (d : Run) → first ≤ k → k < length runs → at ≤ end_of (slice_index_or runs k d)

-- the run has no octet of those between the two but at the front of the first and at the back of the last
abbrev pub IsSpanned : List Run → Run → ℕ → ℕ → Type 0
IsSpanned runs r first last =
    first < last → gathered (slice_range runs first last) r ≡ spanned (slice_index_or runs first r) (slice_index_or runs (last - 1) r) r

-- so far the run met those between the two: what it is with them begins and ends there, and they have so many octets
pub record IsMeeting (runs : List Run) (r : Run) (first last start end held : ℕ) : Type 0 where
  pub order : first ≤ last
  pub within : last ≤ length runs
  pub joined_is : joined (drop first runs) r ≡ joined (drop last runs) (gathered (slice_range runs first last) r)
  pub start_is : start ≡ (gathered (slice_range runs first last) r).start
  pub end_is : end ≡ end_of (gathered (slice_range runs first last) r)
  pub low : start ≤ r.start
  pub high : end_of r ≤ end
  pub held_is : held ≡ size (slice_range runs first last)
  pub reaches : first < last → (slice_index_or runs (last - 1) r).start ≤ end_of r
  pub spanned_is : IsSpanned runs r first last

-- the run meets exactly those between the two
pub record Meets (runs : List Run) (r : Run) (first last start end held : ℕ) : Type 0 where
  pub is_first : IsFirst runs r.start first
  pub meeting : IsMeeting runs r first last start end held
  pub after : (k : ℕ) (d : Run) → last ≤ k → k < length runs → end_of r < (slice_index_or runs k d).start
  pub joined_is : joined runs r ≡ take first runs ++ gathered (slice_range runs first last) r ∷ drop last runs

-- two runs have the same octet where both have one
abbrev pub Agree : Run → Run → Type 0
Agree r x = (at one other : ℕ) → octet_of x at ≡ Some one → octet_of r at ≡ Some other → one ≡ other
