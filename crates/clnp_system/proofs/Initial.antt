-- The initial PDU of a unit may be written: it has at most a source route of four titles and a recording, each of its form, and its segmentation part ends with the PDU.
use Rattle.std.proofs.Common.{◌≡◌, ◌==◌, ◌||◌, ℕ, zero, suc, ◌-◌, ◌*◌, ◌≤◌, Bool, true, false, if◌then◌else◌, All, List, [], ◌∷◌, ◌++◌, length, replicate, slice_get, Option, Some, None, IfSome, refl, sym, ◌∙◌, ap, subst, inl, arith, length-append}
use Rattle.std.specs.List.{AllByRecursion}
use Rattle.std.proofs.lemmas.List.Elements.{All-cons, All-nil}
use Rattle.osi_base.specs.declared.unit.Unit.{Unit as CarriedUnit}
use Rattle.osi_base.specs.declared.unit.Wish.{Wish}
use Rattle.pdu_parts.specs.Field.{IsAddress, field}
use Rattle.pdu_parts.specs.Parameter.{Parameter, spelled}
use Rattle.clnp_options.specs.Grammar.{AreAllowed, IsKnown, Record, Route}
use Rattle.clnp_options.specs.Options.{has}
use Rattle.clnp_options.specs.Titles.{entries}
use Rattle.clnp_options.specs.declared.reason.PduKind.TheVariants.{Dt}
use Rattle.clnp_header.specs.declared.pdu.Pdu.{Pdu}
use Rattle.clnp_header.specs.declared.pdu.SegmentPart.{SegmentPart}
use Rattle.clnp_header.specs.Grammar.{MayBeSegment, segment_part}
use Rattle.clnp_header.specs.Values.{parameters}
use Rattle.clnp_header.specs.Writing.{header_length, pdu_length}
use Rattle.clnp_system.specs.declared.setup.Path.{Path}
use Rattle.clnp_system.specs.Setting.{IsAddressed, IsPath, IsSetting, Setting, path_of}
use Rattle.clnp_system.specs.Sending.{first_length, first_pdu, first_segment, pdu_with, recording_options, route_options}
use Rattle.clnp_system.specs.Written.{MayBeWritten}

-- ---- lengths
entries_length : (titles : List (List ℕ)) → AllByRecursion IsAddress titles → length (entries titles) ≤ 21 * length titles
entries_length [] h = omega arith
entries_length (title ∷ titles) h = omega (arith, h.0.most, entries_length titles h.1, length-append (field title) (entries titles))

-- a source route of the set-up
pub record IsGood (path : Path) : Type 0 where
  pub addressed : IsAddressed path
  pub is_path : IsPath path

path_entries : (path : Path) → IsGood path → length (entries path.titles) ≤ 84
path_entries path h = omega (arith, entries_length path.titles h.addressed, h.is_path.1)

options_length : (path : Option Path) (trace : Bool) → IfSome path IsGood → length (spelled (parameters (route_options path ++ recording_options trace))) ≤ 153
options_length None false h = omega arith
options_length None true h = omega arith
options_length (Some path) false h = omega (arith, path_entries path h, length-append (entries path.titles) [])
options_length (Some path) true h =
    omega (arith, path_entries path h, length-append (entries path.titles) (0xcb ∷ 63 ∷ 0 ∷ 3 ∷ replicate 61 0 ++ []))

segment_length : (cut : Bool) (id total : ℕ) → length (segment_part (first_segment cut id total)) ≤ 6
segment_length false id total = omega arith
segment_length true id total = omega arith

pub same_length : (cut : Bool) (id total other more : ℕ) → length (segment_part (first_segment cut id total)) ≡ length (segment_part (first_segment cut other more))
same_length false id total other more = refl
same_length true id total other more = refl

pub first_short : (setting : Setting) (unit : CarriedUnit (List ℕ)) (wish : Wish) (id total : ℕ) → IfSome (path_of setting wish.path) IsGood → IsAddress unit.from → IsAddress unit.to
    → header_length (pdu_with setting unit wish id total) ≤ 254
first_short setting unit wish id total good from to =
    omega (arith, options_length (path_of setting wish.path) wish.trace good, segment_length wish.cut id total, from.most, to.most)

pub first_length_is : (setting : Setting) (unit : CarriedUnit (List ℕ)) (wish : Wish) (id total : ℕ) → pdu_length (pdu_with setting unit wish id total) ≡ first_length setting unit wish
first_length_is setting unit wish id total = omega (arith, same_length wish.cut id total 0 0)

-- ---- options
pub all_of : {X : Type 0} (P : X → Type 0) (xs : List X) → AllByRecursion P xs → All P xs
all_of P [] h = All-nil P
all_of P (x ∷ xs) h = All-cons P x xs h.0 (all_of P xs h.1)

abbrev route_of : Path → Parameter
route_of path = record { code = 0xc8; value = (if path.complete then 1 else 0) ∷ 3 ∷ entries path.titles }

abbrev recording : Parameter
recording = record { code = 0xcb; value = 0 ∷ 3 ∷ replicate 61 0 }

kind_most : (complete : Bool) → (if complete then 1 else 0) ≤ 1
kind_most true = omega arith
kind_most false = omega arith

route_known : (path : Path) → IsGood path → IsKnown Dt (route_of path)
route_known path h = Route refl (
  record { kind = if path.complete then 1 else 0; passed = []; ahead = path.titles },
  record {
    kind = kind_most path.complete;
    some = omega (arith, h.is_path.0);
    titles = all_of IsAddress path.titles h.addressed;
    parts = refl;
    short = omega (arith, path_entries path h);
  },
)

recording_known : IsKnown Dt recording
recording_known = Record refl (inl (
  record { kind = 0; recorded = []; space = replicate 61 0 },
  record { kind = omega arith; titles = All-nil IsAddress; parts = refl; goes_on = omega arith; short = omega arith },
))

none_allowed : AreAllowed Dt []
none_allowed = record { known = All-nil (IsKnown Dt); once = once; reason = λ er. absurd cc }
  where
    once : (before after : List Parameter) (option : Parameter) → [] ≡ before ++ option ∷ after → has option.code before ≡ true → option.code ≡ 0xcc
    once [] after option e there = absurd cc
    once (x ∷ before) after option e there = absurd cc

one_allowed : (x : Parameter) → IsKnown Dt x → AreAllowed Dt (x ∷ [])
one_allowed x known = record { known = All-cons (IsKnown Dt) x [] known (All-nil (IsKnown Dt)); once = once; reason = λ er. absurd cc }
  where
    once : (before after : List Parameter) (option : Parameter) → x ∷ [] ≡ before ++ option ∷ after → has option.code before ≡ true → option.code ≡ 0xcc
    once [] after option e there = absurd cc
    once (y ∷ []) after option e there = absurd cc
    once (y ∷ z ∷ before) after option e there = absurd cc

two_allowed : (x y : Parameter) → IsKnown Dt x → IsKnown Dt y → (x.code == y.code) ≡ false → AreAllowed Dt (x ∷ y ∷ [])
two_allowed x y known other apart = record {
  known = All-cons (IsKnown Dt) x (y ∷ []) known (All-cons (IsKnown Dt) y [] other (All-nil (IsKnown Dt)));
  once = once;
  reason = λ er. absurd cc;
}
  where
    same_has : (a b : Parameter) → a ≡ x → b ≡ y → has b.code (a ∷ []) ≡ false
    same_has a b e k = ap (λ (p : Parameter). has b.code (p ∷ [])) e ∙ ap (λ (p : Parameter). has p.code (x ∷ [])) k ∙ ap (λ (t : Bool). t || false) apart

    once : (before after : List Parameter) (option : Parameter) → x ∷ y ∷ [] ≡ before ++ option ∷ after → has option.code before ≡ true → option.code ≡ 0xcc
    once [] after option e there = absurd cc
    once (a ∷ []) after option e there =
        let first : a ≡ x = cc in
        let second : option ≡ y = cc in
        let none : has option.code (a ∷ []) ≡ false = same_has a option first second in
        absurd cc
    once (a ∷ b ∷ []) after option e there = absurd cc
    once (a ∷ b ∷ c ∷ before) after option e there = absurd cc

options_allowed : (path : Option Path) (trace : Bool) → IfSome path IsGood → AreAllowed Dt (parameters (route_options path ++ recording_options trace))
options_allowed None false h = none_allowed
options_allowed None true h = one_allowed recording recording_known
options_allowed (Some path) false h = one_allowed (route_of path) (route_known path h)
options_allowed (Some path) true h = two_allowed (route_of path) recording (route_known path h) recording_known refl

-- ---- the whole
segment_ends : (cut : Bool) (id total whole octets : ℕ) → whole ≡ total → MayBeSegment (first_segment cut id total) whole octets
segment_ends false id total whole octets e = tt
segment_ends true id total whole octets e = record { aligned = refl; some = λ more. absurd cc; eights = λ more. absurd cc; placed = omega (arith, e) }

pub first_written : (setting : Setting) (unit : CarriedUnit (List ℕ)) (wish : Wish) (id : ℕ) → IfSome (path_of setting wish.path) IsGood → IsAddress unit.from → IsAddress unit.to
    → length unit.octets ≤ 16384 → MayBeWritten (first_pdu setting unit wish id)
first_written setting unit wish id good from to few =
    let total = first_length setting unit wish in
    let short = first_short setting unit wish id total good from to in
    record {
      writable = record {
        kind = tt;
        segment = segment_ends wish.cut id total (pdu_length (first_pdu setting unit wish id)) (length unit.octets) (first_length_is setting unit wish id total);
        options = options_allowed (path_of setting wish.path) wish.trace good;
      };
      header = short;
      whole = omega (arith, short, few);
    }

-- a source route of a set-up has 1 to 4 titles
no_path : (i : ℕ) (path : Path) → slice_get [] i ≡ Some path → ⊥
no_path i path e = cc e

path_at : (paths : List Path) (i : ℕ) (path : Path) → AllByRecursion IsPath paths → slice_get paths i ≡ Some path → IsPath path
path_at [] i path h e = absurd (no_path i path e)
path_at (first ∷ paths) zero path h e = let same : first ≡ path = cc e in subst IsPath same h.0
path_at (first ∷ paths) (suc i) path h e = path_at paths i path h.1 e

path_if : (test : Bool) (found : Option Path) (path : Path) → (found ≡ Some path → IsPath path) → (if test then None else found) ≡ Some path → IsPath path
path_if true found path h e = absurd cc
path_if false found path h e = h e

good_of : (found : Option Path) → ((path : Path) → found ≡ Some path → IsPath path) → IfSome found IsAddressed → IfSome found IsGood
good_of None each h = tt
good_of (Some path) each h = record { addressed = h; is_path = each path refl }

pub path_good : (setting : Setting) (number : ℕ) → IsSetting setting → IfSome (path_of setting number) IsAddressed → IfSome (path_of setting number) IsGood
path_good setting number is h =
    good_of (path_of setting number) (λ path e. path_if (number == 0) (slice_get setting.paths (number - 1)) path (path_at setting.paths (number - 1) path is.paths) e) h

-- the initial PDU, once its length is in its segmentation part
pub record IsInitial (setting : Setting) (unit : CarriedUnit (List ℕ)) (wish : Wish) (id : ℕ) (pdu : Pdu) : Type 0 where
  pub value : pdu ≡ first_pdu setting unit wish id
  pub writable : MayBeWritten pdu

pub with_total : (setting : Setting) (unit : CarriedUnit (List ℕ)) (wish : Wish) (id : ℕ) (pdu : Pdu) (total : ℕ) (segment : Option SegmentPart)
    → IfSome (path_of setting wish.path) IsGood → IsAddress unit.from → IsAddress unit.to → length unit.octets ≤ 16384
    → pdu ≡ pdu_with setting unit wish id 0 → total ≡ pdu_length pdu → segment ≡ first_segment wish.cut id total
    → IsInitial setting unit wish id (record pdu { segment = segment })
with_total setting unit wish id pdu total segment good from to few is total_is segment_is =
    let whole : total ≡ first_length setting unit wish = total_is ∙ ap pdu_length is ∙ first_length_is setting unit wish id 0 in
    let value : record pdu { segment = segment } ≡ first_pdu setting unit wish id =
    ap (λ (p : Pdu). record p { segment = segment }) is
    ∙ ap (λ (s : Option SegmentPart). record (pdu_with setting unit wish id 0) { segment = s }) (segment_is ∙ ap (first_segment wish.cut id) whole) in
    record { value = value; writable = subst MayBeWritten (sym value) (first_written setting unit wish id good from to few) }
