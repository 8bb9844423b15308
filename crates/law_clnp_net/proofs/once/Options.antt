-- Options go onward in one way: the entries of a route are behind their lengths, so a value is one route, or one recording.
use Rattle.std.proofs.Common.{◌≡◌, ℕ, ◌+◌, ◌-◌, ◌<◌, ◌≤◌, List, [], ◌∷◌, ◌++◌, length, Option, Some, None, refl, sym, ◌∙◌, ap, subst, arith}
use Rattle.pdu_parts.specs.Field.{field}
use Rattle.clnp_options.specs.Options.{value_of}
use Rattle.clnp_options.specs.Recording.{IsEnded, IsOpen, Recording, recording_octets, with_title}
use Rattle.clnp_options.specs.SourceRoute.{IsSourceRoute, SourceRoute}
use Rattle.clnp_options.specs.Titles.{entries}
use Rattle.clnp_options.proofs.Entries.{entries-append}
use Rattle.clnp_header.specs.declared.pdu.OwnOpt.{OwnOpt}
use Rattle.clnp_header.specs.declared.pdu.Pdu.{Pdu}
use Rattle.clnp_header.specs.Values.{parameters}
use Rattle.clnp_system.specs.Forwarding.{AreOptionsOnward, Ended, Full, IsOnward, IsOptionOnward, Other, Passes, Recorded, Records, Routed, Written, past_own}
use Rattle.clnp_system.specs.Setting.{Setting}
use Rattle.clnp_system.specs.SourceRouting.{IsRoute, IsRouteOf}
use Rattle.clnp_segment.proofs.Lists.{same_fronts, same_head, same_tail}

-- ---- entries

pub one_field : (part other rest more : List ℕ) → field part ++ rest ≡ field other ++ more → (part ≡ other) × (rest ≡ more)
one_field part other rest more e =
    same_fronts part other rest more (same_head (length part) (length other) (part ++ rest) (other ++ more) e)
    (same_tail (length part) (length other) (part ++ rest) (other ++ more) e)

pub one_list : (titles others : List (List ℕ)) → entries titles ≡ entries others → titles ≡ others
one_list [] [] e = refl
one_list [] (other ∷ others) e = absurd cc
one_list (title ∷ titles) [] e = absurd cc
one_list (title ∷ titles) (other ∷ others) e =
    let first = one_field title other (entries titles) (entries others) e in
    let rest = one_list titles others first.1 in
    λ i. first.0 i ∷ rest i

-- entries, of which so many octets come first, and others after them
pub one_parting : (titles others rest more : List (List ℕ)) → length (entries titles) ≡ length (entries others) → entries (titles ++ rest) ≡ entries (others ++ more)
    → (titles ≡ others) × (rest ≡ more)
one_parting titles others rest more len e =
    let parted : entries titles ++ entries rest ≡ entries others ++ entries more = sym (entries-append titles rest) ∙ e ∙ entries-append others more in
    let both = same_fronts (entries titles) (entries others) (entries rest) (entries more) len parted in
    (one_list titles others both.0, one_list rest more both.1)

three_more : (a b : ℕ) → 3 + a ≡ 3 + b → a ≡ b
three_more a b e = omega (arith, e)

-- ---- a route

-- two octets in front
same_second : (a b c d : ℕ) (xs ys : List ℕ) → a ∷ b ∷ xs ≡ c ∷ d ∷ ys → (a ≡ c) × (b ≡ d) × (xs ≡ ys)
same_second a b c d xs ys e =
    let back = same_tail a c (b ∷ xs) (d ∷ ys) e in
    (same_head a c (b ∷ xs) (d ∷ ys) e, same_head b d xs ys back, same_tail b d xs ys back)

pub one_route : (value : List ℕ) (route other : SourceRoute) → IsSourceRoute value route → IsSourceRoute value other → route ≡ other
one_route value route other a b =
    let front = same_second route.kind (3 + length (entries route.passed)) other.kind (3 + length (entries other.passed)) (entries (route.passed ++ route.ahead)) (entries (other.passed ++ other.ahead)) (sym a.parts ∙ b.parts) in
    let kinds : route.kind ≡ other.kind = front.0 in
    let back = one_parting route.passed other.passed route.ahead other.ahead (three_more _ _ front.1) front.2 in
    λ i. record { kind = kinds i; passed = back.0 i; ahead = back.1 i }

pub one_value : (value other : List ℕ) (route : SourceRoute) → IsSourceRoute value route → IsSourceRoute other route → value ≡ other
one_value value other route a b = a.parts ∙ sym b.parts

one_route_in : (value : Option (List ℕ)) (route other : Option SourceRoute) → IsRoute value route → IsRoute value other → route ≡ other
one_route_in None None None a b = refl
one_route_in None None (Some other) a b = absurd b
one_route_in None (Some route) other a b = absurd a
one_route_in (Some value) None other a b = absurd a
one_route_in (Some value) (Some route) None a b = absurd b
one_route_in (Some value) (Some route) (Some other) a b = ap Some (one_route value route other a b)

pub one_route_of : (pdu : Pdu) (route other : Option SourceRoute) → IsRouteOf pdu route → IsRouteOf pdu other → route ≡ other
one_route_of pdu route other a b = one_route_in (value_of 0xc8 (parameters pdu.options)) route other a b

one_passing : (setting : Setting) (old new other : List ℕ) → Passes setting old new → Passes setting old other → new ≡ other
one_passing setting old new other a b =
    let same = one_route old a.route b.route a.is b.is in
    let passed : IsSourceRoute new (past_own setting b.route b.route.ahead) =
    subst (λ (route : SourceRoute). IsSourceRoute new (past_own setting route route.ahead)) same a.passed in
    one_value new other (past_own setting b.route b.route.ahead) passed b.passed

-- ---- a recording

one_open : (value : List ℕ) (recording other : Recording) → IsOpen value recording → IsOpen value other → recording ≡ other
one_open value recording other a b =
    let front = same_second recording.kind (3 + length (entries recording.recorded)) other.kind (3 + length (entries other.recorded)) (entries recording.recorded ++ recording.space) (entries other.recorded ++ other.space) (sym a.parts ∙ b.parts) in
    let kinds : recording.kind ≡ other.kind = front.0 in
    let back = same_fronts (entries recording.recorded) (entries other.recorded) recording.space other.space (three_more _ _ front.1) front.2 in
    let titles : recording.recorded ≡ other.recorded = one_list recording.recorded other.recorded back.0 in
    λ i. record { kind = kinds i; recorded = titles i; space = back.1 i }

open_or_ended : (value : List ℕ) (recording : Recording) (kind : ℕ) (rest : List ℕ) → IsOpen value recording → IsEnded value kind rest → ⊥
open_or_ended value recording kind rest a b =
    let front = same_second recording.kind (3 + length (entries recording.recorded)) kind 255 (entries recording.recorded ++ recording.space) rest (sym a.parts ∙ b.parts) in
    omega (arith, front.1, a.goes_on)

shorter_space : (title : List ℕ) (recording other : Recording) → recording ≡ other → 1 + length title ≤ length recording.space → length other.space < 1 + length title → ⊥
shorter_space title recording other e a b = omega (arith, ap (λ (r : Recording). length r.space) e, a, b)

one_recording : (title old new other : List ℕ) → Records title old new → Records title old other → new ≡ other
one_recording title old new other (Written recording is fits new_is) (Written second also within other_is) =
    new_is ∙ ap (λ (r : Recording). recording_octets (with_title r title)) (one_open old recording second is also) ∙ sym other_is
one_recording title old new other (Written recording is fits new_is) (Full second also over other_is) = absurd (shorter_space title recording second (one_open old recording second is also) fits over)
one_recording title old new other (Written recording is fits new_is) (Ended kind rest ended other_is) = absurd (open_or_ended old recording kind rest is ended)
one_recording title old new other (Full recording is over new_is) (Written second also fits other_is) = absurd (shorter_space title second recording (one_open old second recording also is) fits over)
one_recording title old new other (Full recording is over new_is) (Full second also more other_is) = new_is ∙ sym other_is
one_recording title old new other (Full recording is over new_is) (Ended kind rest ended other_is) = absurd (open_or_ended old recording kind rest is ended)
one_recording title old new other (Ended kind rest ended new_is) (Written second also fits other_is) = absurd (open_or_ended old second kind rest also ended)
one_recording title old new other (Ended kind rest ended new_is) (Full second also over other_is) = absurd (open_or_ended old second kind rest also ended)
one_recording title old new other (Ended kind rest ended new_is) (Ended second more also other_is) = new_is ∙ sym other_is

-- ---- options

one_of : (new other : OwnOpt) → new.code ≡ other.code → new.value ≡ other.value → new ≡ other
one_of new other a b = λ i. record { code = a i; value = b i }

two_codes : (code : ℕ) → code ≡ 0xc8 → code ≡ 0xcb → ⊥
two_codes code a b = omega (arith, a, b)

one_option : (setting : Setting) (old new other : OwnOpt) → IsOptionOnward setting old new → IsOptionOnward setting old other → new ≡ other
one_option setting old new other (Routed is code passes) (Routed also more passed) =
    one_of new other (code ∙ sym more) (one_passing setting old.value new.value other.value passes passed)
one_option setting old new other (Routed is code passes) (Recorded also more records) = absurd (two_codes old.code is also)
one_option setting old new other (Routed is code passes) (Other no_route no_recording same) = absurd (no_route is)
one_option setting old new other (Recorded is code records) (Routed also more passed) = absurd (two_codes old.code also is)
one_option setting old new other (Recorded is code records) (Recorded also more recorded) =
    one_of new other (code ∙ sym more) (one_recording setting.title old.value new.value other.value records recorded)
one_option setting old new other (Recorded is code records) (Other no_route no_recording same) = absurd (no_recording is)
one_option setting old new other (Other no_route no_recording same) (Routed also more passed) = absurd (no_route also)
one_option setting old new other (Other no_route no_recording same) (Recorded also more records) = absurd (no_recording also)
one_option setting old new other (Other no_route no_recording same) (Other none neither alike) = same ∙ sym alike

pub one_options : (setting : Setting) (old new other : List OwnOpt) → AreOptionsOnward setting old new → AreOptionsOnward setting old other → new ≡ other
one_options setting [] new other a b = a ∙ sym b
one_options setting (option ∷ options) new other a b =
    let first : a.0 ≡ b.0 = one_option setting option a.0 b.0 a.2 b.2 in
    let rest : a.1 ≡ b.1 = one_options setting options a.1 b.1 a.3 b.3 in
    let both : a.0 ∷ a.1 ≡ b.0 ∷ b.1 = λ i. first i ∷ rest i in
    a.4 ∙ both ∙ sym b.4

pub one_onward : (setting : Setting) (bound : ℕ) (old new other : Pdu) → IsOnward setting bound old new → IsOnward setting bound old other → new ≡ other
one_onward setting bound old new other a b =
    let options : new.options ≡ other.options = one_options setting old.options new.options other.options a.options b.options in
    a.else_same ∙ ap (λ (os : List OwnOpt). let pdu : Pdu = record old { lifetime = old.lifetime - bound; options = os } in pdu) options ∙ sym b.else_same
