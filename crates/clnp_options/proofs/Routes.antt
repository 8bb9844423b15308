-- The test of a source route and of a recording holds exactly where the value is one.
use Rattle.std.proofs.Common.{◌≡◌, ℕ, suc, ◌+◌, ◌-◌, ◌<◌, ◌&&◌, ◌||◌, eqb, Bool, true, false, List, [], ◌∷◌, ◌++◌, length, drop, refl, sym, ap, ◌∙◌, subst, arith, All, inl, inr}
use Rattle.std.specs.Prelude.{nat_le, nat_lt}
use Rattle.std.proofs.lemmas.Bool.{leb-true, le-leb, lt-ltb, ltb-true, and_parts, and_from, or_right, eqb-true, eqb-false, cases_Bool}
use Rattle.std.proofs.lemmas.List.{take-append-drop, length-append, drop_at, get_or_append_left}
use Rattle.std.proofs.lemmas.List.Elements.{All-append}
use Rattle.pdu_parts.specs.Field.{IsAddress}
use Rattle.clnp_options.specs.Titles.{entries, are_entries, are_entries_to}
use Rattle.clnp_options.specs.SourceRoute.{SourceRoute, IsSourceRoute, HasSourceRoute, is_source_route}
use Rattle.clnp_options.specs.Recording.{Recording, IsOpen, IsEnded, IsRecording, is_recording}
use Rattle.clnp_options.proofs.Entries.{entries_again, titles_of, entries-append, some_entries, some_octets, fills_to, fills_again}

-- the parts of lists of which something holds
pub All-left : {X : Type 0} (P : X → Type 0) (xs ys : List X) → All P (xs ++ ys) → All P xs
All-left P xs ys all k d lt = subst P (get_or_append_left xs ys d k lt) (all k d (omega (arith, length-append xs ys)))

pub All-right : {X : Type 0} (P : X → Type 0) (xs ys : List X) → All P (xs ++ ys) → All P ys
All-right P [] ys all = all
All-right P (x ∷ xs) ys all = All-right P xs ys (λ k d lt. all (suc k) d (omega arith))

pub route_found : (value : List ℕ) → is_source_route value ≡ true → HasSourceRoute value
route_found [] holds = absurd cc
route_found (kind ∷ []) holds = absurd cc
route_found (kind ∷ offset ∷ octets) holds =
    let p3 = and_parts (nat_le kind 1 && nat_lt (length octets) 253 && nat_lt 0 (length octets) && are_entries_to offset octets) (are_entries (drop (offset - 3) octets)) holds in
    let p2 = and_parts (nat_le kind 1 && nat_lt (length octets) 253 && nat_lt 0 (length octets)) (are_entries_to offset octets) p3.0 in
    let p1 = and_parts (nat_le kind 1 && nat_lt (length octets) 253) (nat_lt 0 (length octets)) p2.0 in
    let p0 = and_parts (nat_le kind 1) (nat_lt (length octets) 253) p1.0 in
    let passed = fills_to offset octets p2.1 in
    let ahead = titles_of (drop (offset - 3) octets) p3.1 in
    let filled : octets ≡ entries (passed.0 ++ ahead.0) =
    sym (take-append-drop (offset - 3) octets)
    ∙ ap (λ (xs : List ℕ). xs ++ drop (offset - 3) octets) passed.1.front
    ∙ ap (λ (xs : List ℕ). entries passed.0 ++ xs) ahead.1.parts
    ∙ sym (entries-append passed.0 ahead.0) in (
      record { kind = kind; passed = passed.0; ahead = ahead.0 },
      record {
        kind = leb-true kind 1 p0.0;
        some = some_entries (passed.0 ++ ahead.0) (omega (arith, ap length filled, ltb-true 0 (length octets) p1.1));
        titles = All-append IsAddress passed.0 ahead.0 passed.1.each ahead.1.each;
        parts = ap (λ (n : ℕ). kind ∷ n ∷ octets) passed.1.offset_is ∙ ap (λ (xs : List ℕ). kind ∷ (3 + length (entries passed.0)) ∷ xs) filled;
        short = omega (arith, ltb-true (length octets) 253 p0.1);
      },
    )

pub route_again : (value : List ℕ) (route : SourceRoute) → IsSourceRoute value route → is_source_route value ≡ true
route_again value route is =
    let passed = entries route.passed in
    let ahead = entries route.ahead in
    let octets = entries (route.passed ++ route.ahead) in
    let parted : octets ≡ passed ++ ahead = entries-append route.passed route.ahead in
    let count : (3 + length passed) - 3 ≡ length passed = omega arith in
    let len : length value ≡ 2 + length octets = ap length is.parts ∙ omega arith in
    let fills : are_entries_to (3 + length passed) octets ≡ true =
    ap (are_entries_to (3 + length passed)) parted ∙ fills_again route.passed ahead (All-left IsAddress route.passed route.ahead is.titles) in
    let rest : are_entries (drop ((3 + length passed) - 3) octets) ≡ true =
    ap are_entries (ap (λ (n : ℕ). drop n octets) count ∙ ap (drop (length passed)) parted ∙ drop_at passed ahead (length passed) refl)
    ∙ entries_again route.ahead (All-right IsAddress route.passed route.ahead is.titles) in
    ap is_source_route is.parts
    ∙ and_from _ _ (and_from _ _ (and_from _ _ (and_from _ _ (le-leb route.kind 1 is.kind) (lt-ltb (length octets) 253 (omega (arith, is.short, len)))) (lt-ltb 0 (length octets) (some_octets (route.passed ++ route.ahead) is.some))) fills) rest

or_true : (x y : Bool) → x ≡ false → (x || y) ≡ true → y ≡ true
or_true true y not_x holds = absurd cc
or_true false y not_x holds = holds

pub recording_found : (value : List ℕ) → is_recording value ≡ true → IsRecording value
recording_found [] holds = absurd cc
recording_found (kind ∷ []) holds = absurd cc
recording_found (kind ∷ offset ∷ octets) holds =
    let p1 = and_parts (nat_le kind 1 && nat_lt (length octets) 253) ((eqb offset 255) || are_entries_to offset octets) holds in
    let p0 = and_parts (nat_le kind 1) (nat_lt (length octets) 253) p1.0 in
    let short : length octets < 253 = ltb-true (length octets) 253 p0.1 in
    elim (cases_Bool (eqb offset 255)) as (λ _. IsRecording (kind ∷ offset ∷ octets)) [
      | inl ended ↦ inr (
        kind,
        octets,
        record {
          kind_is = leb-true kind 1 p0.0;
          parts = ap (λ (n : ℕ). kind ∷ n ∷ octets) (eqb-true offset 255 ended);
          short = omega arith;
        },
      )
      | inr going ↦
          let fills = or_true (eqb offset 255) (are_entries_to offset octets) going p1.1 in
          let recorded = fills_to offset octets fills in
          let space : List ℕ = drop (offset - 3) octets in
          let filled : octets ≡ entries recorded.0 ++ space =
          sym (take-append-drop (offset - 3) octets) ∙ ap (λ (xs : List ℕ). xs ++ space) recorded.1.front in
          let other = eqb-false offset 255 going in
          inl (
            record { kind = kind; recorded = recorded.0; space = space },
            record {
              kind = leb-true kind 1 p0.0;
              titles = recorded.1.each;
              parts = ap (λ (n : ℕ). kind ∷ n ∷ octets) recorded.1.offset_is ∙ ap (λ (xs : List ℕ). kind ∷ (3 + length (entries recorded.0)) ∷ xs) filled;
              goes_on = omega (arith, recorded.1.offset_is, recorded.1.within, other);
              short = omega arith;
            },
          )
    ]

pub open_again : (value : List ℕ) (recording : Recording) → IsOpen value recording → is_recording value ≡ true
open_again value recording is =
    let octets = entries recording.recorded ++ recording.space in
    let fills : are_entries_to (3 + length (entries recording.recorded)) octets ≡ true = fills_again recording.recorded recording.space is.titles in
    let len : length value ≡ 2 + length octets = ap length is.parts ∙ omega arith in
    ap is_recording is.parts
    ∙ and_from _ _ (and_from _ _ (le-leb recording.kind 1 is.kind) (lt-ltb (length octets) 253 (omega (arith, is.short, len)))) (or_right _ _ fills)

pub ended_again : (value : List ℕ) (kind : ℕ) (rest : List ℕ) → IsEnded value kind rest → is_recording value ≡ true
ended_again value kind rest is =
    ap is_recording is.parts
    ∙ and_from _ _ (and_from _ _ (le-leb kind 1 is.kind_is) (lt-ltb (length rest) 253 (omega (arith, is.short, ap length is.parts)))) refl

pub recording_again : (value : List ℕ) → IsRecording value → is_recording value ≡ true
recording_again value (inl open_) = open_again value open_.0 open_.1
recording_again value (inr ended) = ended_again value ended.0 ended.1 ended.2
