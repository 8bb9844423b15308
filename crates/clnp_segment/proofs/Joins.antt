-- The places stand for the set of pairs: a clash is found where there is one, what is written are the pairs of both, and
-- the segments of one unit never clash and come to it.
use Rattle.std.proofs.Common.{◌≡◌, ◌⊎◌, ℕ, zero, suc, ◌+◌, ◌-◌, ◌<◌, ◌≤◌, List, [], ◌∷◌, length, map, slice_get, Option, Some, refl, sym, ◌∙◌, ap, subst, arith, true, false, inl, inr}
use Rattle.clnp_segment.specs.Joining.{Segment, Held, Clash, Together, IsUnit, IsOf, IsSegmentOf}
use Rattle.clnp_segment.specs.Laws.{JoinsUnits}
use Rattle.clnp_segment.specs.steps.Places.{is_clash, written, Compares, Judges, with_segment}
use Rattle.clnp_segment.specs.declared.held.Verdict.{Verdict}
use Rattle.clnp_segment.specs.declared.held.Verdict.TheVariants as verdict
use Rattle.clnp_segment.proofs.Slots.{all_counted, clash_found, clash_none, counted_all, written_above, written_below, written_in, written_length}

-- ---- the relation of the public call
pub get_within : {A : Type 0} (xs : List A) (i : ℕ) → i < length xs → (x : A) × (slice_get xs i ≡ Some x)
get_within [] i h = absurd (omega (arith, h))
get_within (x ∷ xs) zero h = (x, refl)
get_within (x ∷ xs) (suc i) h = get_within xs i (omega (arith, h))

pub get_map : (octets : List ℕ) (i : ℕ) (slot : Option ℕ) → slice_get (map Some octets) i ≡ Some slot → (octet : ℕ) × (slot ≡ Some octet) × (slice_get octets i ≡ Some octet)
get_map [] i slot h = absurd cc
get_map (octet ∷ octets) zero slot h = (octet, cc, refl)
get_map (octet ∷ octets) (suc i) slot h = get_map octets i slot h

cases_suc : (p at : ℕ) → (p < at) ⊎ (at ≤ p) → (suc p < suc at) ⊎ (suc at ≤ suc p)
cases_suc p at (inl h) = inl (omega (arith, h))
cases_suc p at (inr h) = inr (omega (arith, h))

cases : (p at : ℕ) → (p < at) ⊎ (at ≤ p)
cases zero zero = inr (omega arith)
cases zero (suc at) = inl (omega arith)
cases (suc p) zero = inr (omega arith)
cases (suc p) (suc at) = cases_suc p at (cases p at)

-- where a position lies against a run of octets
data Lies (at len p : ℕ) : Type 0 where
  Below : p < at → Lies at len p
  In : (place : ℕ) → p ≡ at + place → place < len → Lies at len p
  Above : at + len ≤ p → Lies at len p

lies : (at len p : ℕ) → Lies at len p
lies at len p = elim (cases p at) [
  | inl h ↦ Below h
  | inr h ↦ elim (cases p (at + len)) [ inl k ↦ In (p - at) (omega (arith, h)) (omega (arith, h, k)) | inr k ↦ Above k ]
]

-- no octet differs: the pairs afterwards are those of both
pub pairs_to : (slots : List (Option ℕ)) (at : ℕ) (octets : List ℕ) (p octet : ℕ) → at + length octets ≤ length slots
    → slice_get (written slots at octets) p ≡ Some (Some octet)
    → (slice_get slots p ≡ Some (Some octet)) ⊎ ((place : ℕ) × (p ≡ at + place) × (slice_get octets place ≡ Some octet))
pairs_to slots at octets p octet fits h = elim (lies at (length octets) p) [
  | Below low ↦ inl (sym (written_below slots at octets p low) ∙ h)
  | In place is inside ↦
      let got = get_within octets place inside in
      let there : slice_get (written slots at octets) (at + place) ≡ Some (Some got.0) = written_in slots at octets place got.0 fits got.1 in
      let also : slice_get (written slots at octets) (at + place) ≡ Some (Some octet) = subst (λ (k : ℕ). slice_get (written slots at octets) k ≡ Some (Some octet)) is h in
      let both : Some (Some got.0) ≡ Some (Some octet) = sym there ∙ also in
      let same : got.0 ≡ octet = cc in
      inr (place, is, got.1 ∙ ap (λ (o : ℕ). Some o) same)
  | Above high ↦ inl (sym (written_above slots at octets p high) ∙ h)
]

pub pairs_from_held : (slots : List (Option ℕ)) (at : ℕ) (octets : List ℕ) (p octet : ℕ) → at + length octets ≤ length slots → is_clash slots at octets ≡ false
    → slice_get slots p ≡ Some (Some octet) → slice_get (written slots at octets) p ≡ Some (Some octet)
pairs_from_held slots at octets p octet fits none h = elim (lies at (length octets) p) [
  | Below low ↦ written_below slots at octets p low ∙ h
  | In place is inside ↦
      let got = get_within octets place inside in
      let here : slice_get slots (at + place) ≡ Some (Some octet) = subst (λ (k : ℕ). slice_get slots k ≡ Some (Some octet)) is h in
      let same : octet ≡ got.0 = clash_none slots at octets place octet got.0 none here got.1 in
      let there : slice_get (written slots at octets) (at + place) ≡ Some (Some got.0) = written_in slots at octets place got.0 fits got.1 in
      subst (λ (k : ℕ). slice_get (written slots at octets) k ≡ Some (Some octet)) (sym is) (there ∙ ap (λ (o : ℕ). Some (Some o)) (sym same))
  | Above high ↦ written_above slots at octets p high ∙ h
]

pub together : (old : Held) (segment : Segment) (new : Held) → segment.offset + length segment.octets ≤ length old.slots
    → new ≡ record old { slots = written old.slots segment.offset segment.octets } → is_clash old.slots segment.offset segment.octets ≡ false → Together old segment new
together old segment new fits is none =
    let slots_is : new.slots ≡ written old.slots segment.offset segment.octets = ap (λ (h : Held). h.slots) is in
    record {
      header = ap (λ (h : Held). h.header) is;
      total = ap (λ (h : Held). h.total) is;
      positions = ap (λ (xs : List (Option ℕ)). length xs) slots_is ∙ written_length old.slots segment.offset segment.octets;
      pairs = λ position octet. (
        λ held. elim (pairs_to old.slots segment.offset segment.octets position octet fits (subst (λ (xs : List (Option ℕ)). slice_get xs position ≡ Some (Some octet)) slots_is held)) [
          | inl h ↦ inl h
          | inr h ↦ inr (record { place = h.0; at = h.1; is = h.2 })
        ],
        λ either. elim either [
          | inl h ↦ subst (λ (xs : List (Option ℕ)). slice_get xs position ≡ Some (Some octet)) (sym slots_is) (pairs_from_held old.slots segment.offset segment.octets position octet fits none h)
          | inr h ↦ subst (λ (xs : List (Option ℕ)). slice_get xs position ≡ Some (Some octet)) (sym slots_is)
              (subst (λ (k : ℕ). slice_get (written old.slots segment.offset segment.octets) k ≡ Some (Some octet)) (sym h.at) (written_in old.slots segment.offset segment.octets h.place octet fits h.is))
        ],
      );
    }

pub no_octet_clash : (held : Held) (segment : Segment) → held.header ≡ segment.header → held.total ≡ segment.total → is_clash held.slots segment.offset segment.octets ≡ false → Clash held segment → ⊥
no_octet_clash held segment header total none (Clash.Header h) = h header
no_octet_clash held segment header total none (Clash.Total h) = h total
no_octet_clash held segment header total none (Clash.Octet position first second a b differ) =
    differ (clash_none held.slots segment.offset segment.octets b.place first second none (subst (λ (k : ℕ). slice_get held.slots k ≡ Some (Some first)) b.at a) b.is)

pub octet_clash : (held : Held) (segment : Segment) → is_clash held.slots segment.offset segment.octets ≡ true → Clash held segment
octet_clash held segment h =
    let f = clash_found held.slots segment.offset segment.octets h in
    Clash.Octet (segment.offset + f.0) f.1 f.2 f.3 (record { place = f.0; at = refl; is = f.4 }) f.5

-- ---- segments of one unit
pub units_no_clash : (unit : List ℕ) (header : ℕ) (held : Held) (segment : Segment) → IsOf unit header held → IsSegmentOf unit header segment → Clash held segment → ⊥
units_no_clash unit header held segment h s (Clash.Header differ) = differ (h.header_is ∙ sym s.header_is)
units_no_clash unit header held segment h s (Clash.Total differ) = differ (h.total_is ∙ sym s.total_is)
units_no_clash unit header held segment h s (Clash.Octet position first second a b differ) =
    let both : Some first ≡ Some second = sym (h.octets position first a) ∙ s.octets position second b in
    differ cc

pub units_kept : (unit : List ℕ) (header : ℕ) (old : Held) (segment : Segment) (new : Held) → IsOf unit header old → IsSegmentOf unit header segment → Together old segment new → IsOf unit header new
units_kept unit header old segment new h s t = record {
  header_is = t.header ∙ h.header_is;
  total_is = t.total ∙ h.total_is;
  positions = t.positions ∙ h.positions;
  octets = λ position octet held. elim ((t.pairs position octet).0 held) [ inl a ↦ h.octets position octet a | inr b ↦ s.octets position octet b ];
}

same_octets : (octets unit : List ℕ) → length octets ≡ length unit → ((i octet : ℕ) → slice_get octets i ≡ Some octet → slice_get unit i ≡ Some octet) → octets ≡ unit
same_octets [] [] len h = refl
same_octets [] (x ∷ unit) len h = absurd (omega (arith, len))
same_octets (x ∷ octets) [] len h = absurd (omega (arith, len))
same_octets (x ∷ octets) (y ∷ unit) len h =
    let first : slice_get (y ∷ unit) 0 ≡ Some x = h 0 x refl in
    let same : x ≡ y = cc in
    ap (λ (o : ℕ). o ∷ octets) same ∙ ap (λ (xs : List ℕ). y ∷ xs) (same_octets octets unit (omega (arith, len)) (λ i octet is. h (suc i) octet is))

pub map_get : (octets : List ℕ) (i octet : ℕ) → slice_get octets i ≡ Some octet → slice_get (map Some octets) i ≡ Some (Some octet)
map_get [] i octet h = absurd cc
map_get (x ∷ octets) zero octet h = let e : x ≡ octet = cc in ap (λ (o : ℕ). Some (Some o)) e
map_get (x ∷ octets) (suc i) octet h = map_get octets i octet h

pub map_length : (octets : List ℕ) → length (map {B = Option ℕ} Some octets) ≡ length octets
map_length [] = refl
map_length (x ∷ octets) = ap (λ (n : ℕ). suc n) (map_length octets)

pub units_whole : (unit octets : List ℕ) (header : ℕ) (held : Held) → IsOf unit header held → IsUnit held octets → octets ≡ unit
units_whole unit octets header held h is =
    let len : length octets ≡ length unit = sym (map_length octets) ∙ ap (λ (xs : List (Option ℕ)). length xs) (sym is) ∙ h.positions in
    same_octets octets unit len (λ i octet there. h.octets i octet (subst (λ (xs : List (Option ℕ)). slice_get xs i ≡ Some (Some octet)) (sym is) (map_get octets i octet there)))

pub joins_units : JoinsUnits
joins_units = record { no_clash = units_no_clash; kept = units_kept; whole = units_whole }

-- what octets do to the places of a unit with the same lengths is what the segment does
pub judged : (held : Held) (segment : Segment) (answer : Verdict) → held.header ≡ segment.header → held.total ≡ segment.total
    → segment.offset + length segment.octets ≤ length held.slots → Compares held.slots segment.offset segment.octets answer → Judges held segment answer
judged held segment verdict.Clash header total fits h = octet_clash held segment h
judged held segment verdict.Whole header total fits h =
    (no_octet_clash held segment header total h.0, together held segment (with_segment held segment) fits refl h.0, all_counted (with_segment held segment).slots h.1)
judged held segment (verdict.Fresh fresh) header total fits h = (
  no_octet_clash held segment header total h.0,
  together held segment (with_segment held segment) fits refl h.0,
  λ all. h.1 (counted_all (with_segment held segment).slots all),
  h.2,
)
