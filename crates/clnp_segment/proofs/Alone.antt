-- A segment that is its whole unit comes to it at once: nothing that is held of another clashes with it, and it fills all places.
use Rattle.std.proofs.Common.{◌≡◌, ◌==◌, ℕ, ◌+◌, ◌-◌, true, List, [], length, map, slice_get, Option, Some, None, refl, sym, ◌∙◌, ap, subst, arith, inl, inr}
use Rattle.std.proofs.lemmas.List.{append-nil, length-replicate}
use Rattle.clnp_header.proofs.FlagBits.{and_true as both}
use Rattle.clnp_segment.specs.Joining.{Filled, Held, IsSegmentOf, Segment, Together, nothing_of}
use Rattle.clnp_segment.specs.Store.{Coming, Holding, TakesAt}
use Rattle.clnp_segment.specs.declared.store.Joined.TheVariants as joined
use Rattle.clnp_segment.specs.steps.Places.{is_alone}
use Rattle.clnp_segment.proofs.Joins.{get_map, get_within, map_get, map_length, units_no_clash}
use Rattle.clnp_segment.proofs.Units.{empty_place, nothing_is}

same : (x y : ℕ) → (x == y) ≡ true → x ≡ y
same x y h = grind (arith, h)

first_is : (segment : Segment) → is_alone segment ≡ true → segment.offset ≡ 0
first_is segment h = same segment.offset 0 (both (segment.offset == 0) (segment.header + length segment.octets == segment.total) h).0

whole_is : (segment : Segment) → is_alone segment ≡ true → segment.header + length segment.octets ≡ segment.total
whole_is segment h = same (segment.header + length segment.octets) segment.total (both (segment.offset == 0) (segment.header + length segment.octets == segment.total) h).1

-- what is held once it came
abbrev filled_by : Segment → Held
filled_by segment = record { header = segment.header; total = segment.total; slots = map Some segment.octets }

alone_is : (segment : Segment) → is_alone segment ≡ true → IsSegmentOf segment.octets segment.header segment
alone_is segment h = record {
  header_is = refl;
  total_is = sym (whole_is segment h);
  octets = λ position octet has.
      let place : position ≡ has.place = omega (arith, has.at, first_is segment h) in
      subst (λ (p : ℕ). slice_get segment.octets p ≡ Some octet) (sym place) has.is;
}

alone_together : (segment : Segment) → is_alone segment ≡ true → Together (nothing_of segment) segment (filled_by segment)
alone_together segment h = record {
  header = refl;
  total = refl;
  positions = omega (arith, whole_is segment h, map_length segment.octets, length-replicate {A = Option ℕ} (segment.total - segment.header) None);
  pairs = λ position octet. (
    λ held.
        let got = get_map segment.octets position (Some octet) held in
        let one : octet ≡ got.0 = cc got.1 in
        inr (record { place = position; at = omega (arith, first_is segment h); is = got.2 ∙ ap (λ (o : ℕ). Some o) (sym one) }),
    λ either. elim either [
      | inl none ↦ absurd (empty_place (segment.total - segment.header) position octet none)
      | inr has ↦ map_get segment.octets position octet ((alone_is segment h).octets position octet has)
    ],
  );
}

alone_filled : (segment : Segment) → Filled (filled_by segment)
alone_filled segment position lt =
    let got = get_within segment.octets position (omega (arith, lt, map_length segment.octets)) in
    (got.0, map_get segment.octets position got.0 got.1)

pub first_alone : (store : Holding) (coming : Coming) (octets : List ℕ) → is_alone coming.segment ≡ true → octets ≡ coming.segment.octets
    → TakesAt store store.clock coming store.held None [] (joined.Whole octets) store
first_alone store coming octets h is =
    let segment = coming.segment in
    let of = alone_is segment h in (
      filled_by segment,
      (units_no_clash segment.octets segment.header (nothing_of segment) segment (nothing_is segment.octets segment.header segment of) of, alone_together segment h),
      alone_filled segment,
      ap (λ (os : List ℕ). map Some os) (sym is),
      ap (λ us. record store { held = us }) (sym (append-nil store.held)),
    )
