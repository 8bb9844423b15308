-- A PDU that goes onward keeps the length of its header: the offset of a route moves over its entries, and a recording writes into its space.
use Rattle.std.proofs.Common.{◌≡◌, ℕ, zero, suc, ◌+◌, Bool, true, false, if◌then◌else◌, List, [], ◌∷◌, ◌++◌, length, drop, take, slice_set, refl, sym, ◌∙◌, ap, arith, length-append, length-drop}
use Rattle.pdu_parts.specs.Field.{field}
use Rattle.pdu_parts.specs.Parameter.{spelled, spelled_one}
use Rattle.clnp_options.specs.Titles.{entries}
use Rattle.clnp_options.specs.SourceRoute.{SourceRoute, IsSourceRoute, moved}
use Rattle.clnp_options.specs.Recording.{recording_octets, with_title}
use Rattle.clnp_options.proofs.Entries.{entries-append}
use Rattle.clnp_options.proofs.Moves.{length_is}
use Rattle.clnp_header.specs.declared.pdu.OwnOpt.{OwnOpt}
use Rattle.clnp_header.specs.declared.pdu.Pdu.{Pdu}
use Rattle.clnp_header.specs.Grammar.{segment_part}
use Rattle.clnp_header.specs.Values.{parameter, parameters}
use Rattle.clnp_header.specs.Writing.{header_length}
use Rattle.clnp_system.specs.Setting.{Setting, is_own_title}
use Rattle.clnp_system.specs.Forwarding.{AreOptionsOnward, IsOnward, IsOptionOnward, Records, past_own, Routed, Recorded, Other, Written, Full, Ended}

set_length : (xs : List ℕ) (i x : ℕ) → length (slice_set xs i x) ≡ length xs
set_length [] i x = refl
set_length (y ∷ ys) zero x = refl
set_length (y ∷ ys) (suc i) x = ap (λ (n : ℕ). suc n) (set_length ys i x)

first_and_rest : (titles : List (List ℕ)) → length (entries (take 1 titles)) + length (entries (drop 1 titles)) ≡ length (entries titles)
first_and_rest [] = refl
first_and_rest (title ∷ titles) = omega (arith, length-append (field title) (entries titles), length-append (field title) [])

moved_length : (old new : List ℕ) (route : SourceRoute) → IsSourceRoute old route → IsSourceRoute new (moved route) → length new ≡ length old
moved_length old new route was is =
    let passed : length (entries (route.passed ++ take 1 route.ahead)) ≡ length (entries route.passed) + length (entries (take 1 route.ahead)) =
    ap length (entries-append route.passed (take 1 route.ahead)) ∙ length-append (entries route.passed) (entries (take 1 route.ahead)) in
    let ahead : length (entries (take 1 route.ahead)) + length (entries (drop 1 route.ahead)) ≡ length (entries route.ahead) = first_and_rest route.ahead in
    omega (arith, length_is old route was, length_is new (moved route) is, passed, ahead)

passed_length : (setting : Setting) (old new : List ℕ) (route : SourceRoute) (ahead : List (List ℕ)) → IsSourceRoute old route → IsSourceRoute new (past_own setting route ahead) → length new ≡ length old
passed_length setting old new route [] was is = length_is new route is ∙ sym (length_is old route was)
passed_length setting old new route (entry ∷ ahead) was is = by_test (is_own_title setting entry) is
  where
    by_test : (test : Bool) → IsSourceRoute new (if test then moved route else route) → length new ≡ length old
    by_test true is = moved_length old new route was is
    by_test false is = length_is new route is ∙ sym (length_is old route was)

pub recorded_length : (title old new : List ℕ) → Records title old new → length new ≡ length old
recorded_length title old new (Written recording was room is) =
    let titles : length (entries (recording.recorded ++ title ∷ [])) ≡ length (entries recording.recorded) + length (entries (title ∷ [])) =
    ap length (entries-append recording.recorded (title ∷ [])) ∙ length-append (entries recording.recorded) (entries (title ∷ [])) in
    let one : length (entries (title ∷ [])) ≡ 1 + length title = length-append (field title) [] ∙ omega arith in
    let after : length (recording_octets (with_title recording title)) ≡ 2 + (length (entries (recording.recorded ++ title ∷ [])) + length (drop (1 + length title) recording.space)) =
    omega (arith, length-append (entries (recording.recorded ++ title ∷ [])) (drop (1 + length title) recording.space)) in
    let before : length (recording_octets recording) ≡ 2 + (length (entries recording.recorded) + length recording.space) =
    omega (arith, length-append (entries recording.recorded) recording.space) in
    omega (arith, ap length is, ap length was.parts, titles, one, after, before, length-drop (1 + length title) recording.space, room)
recorded_length title old new (Full recording was room is) = ap length is ∙ set_length old 1 255
recorded_length title old new (Ended kind rest was is) = ap length is

option_length : (setting : Setting) (old new : OwnOpt) → IsOptionOnward setting old new → length new.value ≡ length old.value
option_length setting old new (Routed was is passes) = passed_length setting old.value new.value passes.route passes.route.ahead passes.is passes.passed
option_length setting old new (Recorded was is records) = recorded_length setting.title old.value new.value records
option_length setting old new (Other route recording is) = ap (λ (o : OwnOpt). length o.value) is

options_length : (setting : Setting) (old new : List OwnOpt) → AreOptionsOnward setting old new → length (spelled (parameters new)) ≡ length (spelled (parameters old))
options_length setting [] new h = ap (λ (os : List OwnOpt). length (spelled (parameters os))) h
options_length setting (option ∷ options) new h =
    ap (λ (os : List OwnOpt). length (spelled (parameters os))) h.4
    ∙ omega (
      arith,
      length-append (spelled_one (parameter h.0)) (spelled (parameters h.1)),
      length-append (spelled_one (parameter option)) (spelled (parameters options)),
      option_length setting option h.0 h.2,
      options_length setting options h.1 h.3,
    )

pub onward_length : (setting : Setting) (bound : ℕ) (old new : Pdu) → IsOnward setting bound old new → header_length new ≡ header_length old
onward_length setting bound old new h =
    omega (
      arith,
      ap (λ (p : Pdu). length p.destination) h.else_same,
      ap (λ (p : Pdu). length p.source) h.else_same,
      ap (λ (p : Pdu). length (segment_part p.segment)) h.else_same,
      options_length setting old.options new.options h.options,
    )
