-- Octets at their places: they can be put where no place has another octet, and all places have one or some place has none.
use Rattle.std.proofs.Common.{◌≡◌, ◌≢◌, ◌⊎◌, ℕ, zero, suc, ◌+◌, ◌<◌, ◌≤◌, List, [], ◌∷◌, length, map, slice_get, Option, Some, None, refl, sym, ◌∙◌, ap, arith, inl, inr}
use Rattle.std.specs.List.{AllByRecursion}
use Rattle.std.proofs.lemmas.Bool.{cases_eq}
use Rattle.law_carrier_answers.specs.Answers.{AreOctets}
use Rattle.law_clnp_net.specs.Standing.{FitsSlot}
use Rattle.clnp_segment.proofs.Lists.{same_some}

-- ---- octets at their places

-- the octets from that place on
unfoldable pub put : List (Option ℕ) → ℕ → List ℕ → List (Option ℕ)
put [] at octets = []
put (slot ∷ slots) zero [] = slot ∷ slots
put (slot ∷ slots) zero (octet ∷ octets) = Some octet ∷ put slots zero octets
put (slot ∷ slots) (suc at) octets = slot ∷ put slots at octets

pub length_put : (slots : List (Option ℕ)) (at : ℕ) (octets : List ℕ) → length (put slots at octets) ≡ length slots
unfolding put
length_put [] at octets = refl
length_put (slot ∷ slots) zero [] = refl
length_put (slot ∷ slots) zero (octet ∷ octets) = ap (λ (n : ℕ). suc n) (length_put slots zero octets)
length_put (slot ∷ slots) (suc at) octets = ap (λ (n : ℕ). suc n) (length_put slots at octets)

pub put_fits : (slots : List (Option ℕ)) (at : ℕ) (octets : List ℕ) → AllByRecursion FitsSlot slots → AreOctets octets → AllByRecursion FitsSlot (put slots at octets)
unfolding put
put_fits [] at octets h k = tt
put_fits (slot ∷ slots) zero [] h k = h
put_fits (slot ∷ slots) zero (octet ∷ octets) h k = (k.0, put_fits slots zero octets h.1 k.1)
put_fits (slot ∷ slots) (suc at) octets h k = (h.0, put_fits slots at octets h.1 k)

-- an octet of those from that place on
pub record HasAt (at : ℕ) (octets : List ℕ) (position octet : ℕ) : Type 0 where
  pub place : ℕ
  pub there : position ≡ at + place
  pub is : slice_get octets place ≡ Some octet

same_octet : (x y : ℕ) → Some (Some x) ≡ Some (Some y) → x ≡ y
same_octet x y e = cc e

no_octet : {A : Type 0} (place : ℕ) (x : A) → slice_get [] place ≡ Some x → ⊥
no_octet place x e = absurd cc

pub out_of : (slots : List (Option ℕ)) (at : ℕ) (octets : List ℕ) (position octet : ℕ) → slice_get (put slots at octets) position ≡ Some (Some octet)
    → (slice_get slots position ≡ Some (Some octet)) ⊎ HasAt at octets position octet
unfolding put
out_of [] at octets position octet e = inl e
out_of (slot ∷ slots) zero [] position octet e = inl e
out_of (slot ∷ slots) zero (first ∷ octets) zero octet e =
    inr (record { place = 0; there = refl; is = ap Some (same_octet first octet e) })
out_of (slot ∷ slots) zero (first ∷ octets) (suc position) octet e = further (out_of slots zero octets position octet e)
  where
    further : (slice_get slots position ≡ Some (Some octet)) ⊎ HasAt zero octets position octet
        → (slice_get (slot ∷ slots) (suc position) ≡ Some (Some octet)) ⊎ HasAt zero (first ∷ octets) (suc position) octet
    further (inl h) = inl h
    further (inr h) = inr (record { place = suc h.place; there = omega (arith, h.there); is = h.is })
out_of (slot ∷ slots) (suc at) octets zero octet e = inl e
out_of (slot ∷ slots) (suc at) octets (suc position) octet e = further (out_of slots at octets position octet e)
  where
    further : (slice_get slots position ≡ Some (Some octet)) ⊎ HasAt at octets position octet
        → (slice_get (slot ∷ slots) (suc position) ≡ Some (Some octet)) ⊎ HasAt (suc at) octets (suc position) octet
    further (inl h) = inl h
    further (inr h) = inr (record { place = h.place; there = omega (arith, h.there); is = h.is })

pub held_in : (slots : List (Option ℕ)) (at : ℕ) (octets : List ℕ) (position octet : ℕ) → ((first second : ℕ) → slice_get slots position ≡ Some (Some first) → HasAt at octets position second → first ≡ second)
    → slice_get slots position ≡ Some (Some octet) → slice_get (put slots at octets) position ≡ Some (Some octet)
unfolding put
held_in [] at octets position octet agrees e = e
held_in (slot ∷ slots) zero [] position octet agrees e = e
held_in (slot ∷ slots) zero (first ∷ octets) zero octet agrees e =
    ap (λ (o : ℕ). Some (Some o)) (sym (agrees octet first e (record { place = 0; there = refl; is = refl })))
held_in (slot ∷ slots) zero (first ∷ octets) (suc position) octet agrees e =
    held_in slots zero octets position octet (λ one other h k. agrees one other h (record { place = suc k.place; there = omega (arith, k.there); is = k.is })) e
held_in (slot ∷ slots) (suc at) octets zero octet agrees e = e
held_in (slot ∷ slots) (suc at) octets (suc position) octet agrees e =
    held_in slots at octets position octet (λ one other h k. agrees one other h (record { place = k.place; there = omega (arith, k.there); is = k.is })) e

pub put_in : (slots : List (Option ℕ)) (at : ℕ) (octets : List ℕ) (place position octet : ℕ) → at + length octets ≤ length slots → position ≡ at + place → slice_get octets place ≡ Some octet
    → slice_get (put slots at octets) position ≡ Some (Some octet)
unfolding put
put_in [] zero [] place position octet fits there e = absurd (no_octet place octet e)
put_in [] zero (first ∷ octets) place position octet fits there e = absurd (omega (arith, fits))
put_in [] (suc at) octets place position octet fits there e = absurd (omega (arith, fits))
put_in (slot ∷ slots) zero [] place position octet fits there e = absurd (no_octet place octet e)
put_in (slot ∷ slots) zero (first ∷ octets) zero zero octet fits there e = ap Some e
put_in (slot ∷ slots) zero (first ∷ octets) zero (suc position) octet fits there e = absurd (omega (arith, there))
put_in (slot ∷ slots) zero (first ∷ octets) (suc place) zero octet fits there e = absurd (omega (arith, there))
put_in (slot ∷ slots) zero (first ∷ octets) (suc place) (suc position) octet fits there e =
    put_in slots zero octets place position octet (omega (arith, fits)) (omega (arith, there)) e
put_in (slot ∷ slots) (suc at) octets place zero octet fits there e = absurd (omega (arith, there))
put_in (slot ∷ slots) (suc at) octets place (suc position) octet fits there e =
    put_in slots at octets place position octet (omega (arith, fits)) (omega (arith, there)) e

-- ---- a clash, or none: no position has two octets, or one has

pub record Conflict (slots : List (Option ℕ)) (at : ℕ) (octets : List ℕ) : Type 0 where
  pub position : ℕ
  pub first : ℕ
  pub second : ℕ
  pub held : slice_get slots position ≡ Some (Some first)
  pub has : HasAt at octets position second
  pub differ : first ≢ second

unfoldable pub Agreed : List (Option ℕ) → ℕ → List ℕ → Type 0
Agreed slots at octets = (position first second : ℕ) → slice_get slots position ≡ Some (Some first) → HasAt at octets position second → first ≡ second

later : (slot : Option ℕ) (slots : List (Option ℕ)) (at : ℕ) (octets : List ℕ) → Agreed slots at octets ⊎ Conflict slots at octets → Agreed (slot ∷ slots) (suc at) octets ⊎ Conflict (slot ∷ slots) (suc at) octets
unfolding Agreed
later slot slots at octets (inl agreed) = inl agrees
  where
    agrees : (position first second : ℕ) → slice_get (slot ∷ slots) position ≡ Some (Some first) → HasAt (suc at) octets position second → first ≡ second
    agrees zero first second h k = absurd (omega (arith, k.there))
    agrees (suc position) first second h k = agreed position first second h (record { place = k.place; there = omega (arith, k.there); is = k.is })
later slot slots at octets (inr c) = inr (record {
  position = suc c.position;
  first = c.first;
  second = c.second;
  held = c.held;
  has = record { place = c.has.place; there = omega (arith, c.has.there); is = c.has.is };
  differ = c.differ;
})

-- the slot has another octet, or none but that
fits_first : (slot : Option ℕ) (octet : ℕ) → ((held : ℕ) → slot ≡ Some held → held ≡ octet) ⊎ ((held : ℕ) × (slot ≡ Some held) × (held ≢ octet))
fits_first None octet = inl (λ held e. absurd cc)
fits_first (Some held) octet = elim (cases_eq held octet) [
  | inl same ↦ inl (λ other e. by other e same)
  | inr differ ↦ inr (held, refl, differ)
]
  where
    by : (other : ℕ) → Some held ≡ Some other → held ≡ octet → other ≡ octet
    by other e same = cc

some_some : (slot : Option ℕ) (held : ℕ) → Some slot ≡ Some (Some held) → slot ≡ Some held
some_some slot held e = cc e

next : (slot : Option ℕ) (slots : List (Option ℕ)) (first : ℕ) (octets : List ℕ) → ((held : ℕ) → slot ≡ Some held → held ≡ first) ⊎ ((held : ℕ) × (slot ≡ Some held) × (held ≢ first))
    → Agreed slots zero octets ⊎ Conflict slots zero octets → Agreed (slot ∷ slots) zero (first ∷ octets) ⊎ Conflict (slot ∷ slots) zero (first ∷ octets)
unfolding Agreed
next slot slots first octets (inr here) rest =
    inr (record { position = 0; first = here.0; second = first; held = ap Some here.1; has = record { place = 0; there = refl; is = refl }; differ = here.2 })
next slot slots first octets (inl here) (inr c) = inr (record {
  position = suc c.position;
  first = c.first;
  second = c.second;
  held = c.held;
  has = record { place = suc c.has.place; there = omega (arith, c.has.there); is = c.has.is };
  differ = c.differ;
})
next slot slots first octets (inl here) (inl agreed) = inl agrees
  where
    at_first : (place one other : ℕ) → slice_get (slot ∷ slots) zero ≡ Some (Some one) → zero ≡ zero + place → slice_get (first ∷ octets) place ≡ Some other → one ≡ other
    at_first zero one other h there is =
        let e : first ≡ other = same_some first other is in
        here one (some_some slot one h) ∙ e
    at_first (suc place) one other h there is = absurd (omega (arith, there))

    at_later : (position place one other : ℕ) → slice_get (slot ∷ slots) (suc position) ≡ Some (Some one) → suc position ≡ zero + place → slice_get (first ∷ octets) place ≡ Some other → one ≡ other
    at_later position zero one other h there is = absurd (omega (arith, there))
    at_later position (suc place) one other h there is = agreed position one other h (record { place = place; there = omega (arith, there); is = is })

    agrees : (position one other : ℕ) → slice_get (slot ∷ slots) position ≡ Some (Some one) → HasAt zero (first ∷ octets) position other → one ≡ other
    agrees zero one other h k = at_first k.place one other h k.there k.is
    agrees (suc position) one other h k = at_later position k.place one other h k.there k.is

pub agreed_or_not : (slots : List (Option ℕ)) (at : ℕ) (octets : List ℕ) → Agreed slots at octets ⊎ Conflict slots at octets
unfolding Agreed
agreed_or_not [] at octets = inl (λ position first second h k. absurd (no_octet position (Some first) h))
agreed_or_not (slot ∷ slots) zero [] = inl (λ position first second h k. absurd (no_octet k.place second k.is))
agreed_or_not (slot ∷ slots) zero (first ∷ octets) = next slot slots first octets (fits_first slot first) (agreed_or_not slots zero octets)
agreed_or_not (slot ∷ slots) (suc at) octets = later slot slots at octets (agreed_or_not slots at octets)

-- ---- all places are filled, or one is not

pub record Gap (slots : List (Option ℕ)) : Type 0 where
  pub position : ℕ
  pub within : position < length slots
  pub none : (octet : ℕ) → slice_get slots position ≡ Some (Some octet) → ⊥

pub record Whole (slots : List (Option ℕ)) : Type 0 where
  pub octets : List ℕ
  pub are : slots ≡ map Some octets

pub whole_or_gap : (slots : List (Option ℕ)) → Whole slots ⊎ Gap slots
whole_or_gap [] = inl (record { octets = []; are = refl })
whole_or_gap (slot ∷ slots) = by slot (whole_or_gap slots)
  where
    by : (slot : Option ℕ) → Whole slots ⊎ Gap slots → Whole (slot ∷ slots) ⊎ Gap (slot ∷ slots)
    by None rest = inr (record { position = 0; within = omega arith; none = λ octet e. absurd cc })
    by (Some octet) (inl w) = inl (record { octets = octet ∷ w.octets; are = ap (λ (ss : List (Option ℕ)). Some octet ∷ ss) w.are })
    by (Some octet) (inr g) = inr (record { position = suc g.position; within = omega (arith, g.within); none = g.none })

pub filled_at : (octets : List ℕ) (position : ℕ) → position < length (map Some octets) → (octet : ℕ) × (slice_get (map Some octets) position ≡ Some (Some octet))
filled_at [] position lt = absurd (omega (arith, lt))
filled_at (octet ∷ octets) zero lt = (octet, refl)
filled_at (octet ∷ octets) (suc position) lt = filled_at octets position (omega (arith, lt))

pub whole_fits : (octets : List ℕ) → AllByRecursion FitsSlot (map Some octets) → AreOctets octets
whole_fits [] h = tt
whole_fits (octet ∷ octets) h = (h.0, whole_fits octets h.1)
