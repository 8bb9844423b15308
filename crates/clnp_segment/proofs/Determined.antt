-- One answer: a key has one place, what is held with a segment is one, and the cases exclude each other. Of the units that
-- are past their deadline one alone comes before all those of later or equal deadlines.
use Rattle.std.proofs.Common.{◌≡◌, ℕ, suc, ◌+◌, ◌<◌, ◌≤◌, false, List, [], ◌∷◌, ◌++◌, length, map, slice_get, Option, Some, None, refl, sym, ◌∙◌, ap, subst, arith}
use Rattle.std.specs.List.{AllByRecursion, list_any}
use Rattle.osi_base.proofs.Members.{all_back}
use Rattle.clnp_segment.specs.Joining.{Filled, Held, Segment, Together}
use Rattle.clnp_segment.specs.Store.{At, Coming, Holding, Key, Partial, HasNoRoom, TakesAt, found_or_nothing, has_key, partial_with}
use Rattle.clnp_segment.specs.Laws.{OneAnswer, OneExpiry}
use Rattle.clnp_segment.specs.declared.store.Expired.{Expired}
use Rattle.clnp_segment.specs.declared.store.Joined.{Joined}
use Rattle.clnp_segment.specs.declared.store.Joined.TheVariants as joined
use Rattle.clnp_segment.proofs.Lists.{none_in, one_place, same_head, same_tail}

-- ---- a place
one_at : (key : Key) (held before : List Partial) (found : Option Partial) (rest others : List Partial) (other : Option Partial) (more : List Partial)
    → At key held before found rest → At key held others other more → (before ≡ others) × (found ≡ other) × (rest ≡ more)
one_at key held before found rest others other more (At.There unit is whole passed lacks) (At.There second also all too none) =
    let one = one_place (has_key key) before others unit second rest more (sym whole ∙ all) passed too lacks none in
    (one.0, is ∙ ap Some one.1 ∙ sym also, one.2)
one_at key held before found rest others other more (At.There unit is whole passed lacks) (At.New also all too none) =
    absurd (none_in (has_key key) before unit rest passed (subst (λ (us : List Partial). list_any (has_key key) us ≡ false) whole none))
one_at key held before found rest others other more (At.New also all too none) (At.There unit is whole passed lacks) =
    absurd (none_in (has_key key) others unit more passed (subst (λ (us : List Partial). list_any (has_key key) us ≡ false) whole none))
one_at key held before found rest others other more (At.New is whole passed lacks) (At.New also all too none) =
    (whole ∙ sym all, is ∙ sym also, passed ∙ sym too)

-- ---- what is held
abbrev Within : List (Option ℕ) → List (Option ℕ) → Type 0
Within first second = (position octet : ℕ) → slice_get first position ≡ Some (Some octet) → slice_get second position ≡ Some (Some octet)

one_slot : (x y : Option ℕ) → ((octet : ℕ) → x ≡ Some octet → y ≡ Some octet) → ((octet : ℕ) → y ≡ Some octet → x ≡ Some octet) → x ≡ y
one_slot None None there back = refl
one_slot None (Some octet) there back = back octet refl
one_slot (Some octet) y there back = sym (there octet refl)

some_same : (x y : Option ℕ) → Some x ≡ Some y → x ≡ y
some_same x y e = cc e

one_slots : (first second : List (Option ℕ)) → length first ≡ length second → Within first second → Within second first → first ≡ second
one_slots [] [] long there back = refl
one_slots [] (y ∷ second) long there back = absurd (omega (arith, long))
one_slots (x ∷ first) [] long there back = absurd (omega (arith, long))
one_slots (x ∷ first) (y ∷ second) long there back =
    ap (λ (s : Option ℕ). s ∷ first) (one_slot x y (λ octet e. some_same y (Some octet) (there 0 octet (ap Some e))) (λ octet e. some_same x (Some octet) (back 0 octet (ap Some e))))
    ∙ ap (λ (ss : List (Option ℕ)). y ∷ ss)
    (one_slots first second (omega (arith, long)) (λ position octet. there (suc position) octet) (λ position octet. back (suc position) octet))

one_together : (old : Held) (segment : Segment) (first second : Held) → Together old segment first → Together old segment second → first ≡ second
one_together old segment first second h k =
    let slots = one_slots first.slots second.slots (h.positions ∙ sym k.positions) (λ position octet e. (k.pairs position octet).1 ((h.pairs position octet).0 e))
    (λ position octet e. (h.pairs position octet).1 ((k.pairs position octet).0 e)) in
    ap (λ (n : ℕ). let x : Held = record { header = n; total = first.total; slots = first.slots } in x) (h.header ∙ sym k.header)
    ∙ ap (λ (n : ℕ). let x : Held = record { header = second.header; total = n; slots = first.slots } in x) (h.total ∙ sym k.total)
    ∙ ap (λ (ss : List (Option ℕ)). let x : Held = record { header = second.header; total = second.total; slots = ss } in x) slots

one_unit : (first second : List ℕ) → map Some first ≡ map Some second → first ≡ second
one_unit [] [] e = refl
one_unit [] (y ∷ second) e = absurd cc
one_unit (x ∷ first) [] e = absurd cc
one_unit (x ∷ first) (y ∷ second) e =
    ap (λ (n : ℕ). n ∷ first) (some_octet x y (same_head (Some x) (Some y) (map Some first) (map Some second) e))
    ∙ ap (λ (ns : List ℕ). y ∷ ns) (one_unit first second (same_tail (Some x) (Some y) (map Some first) (map Some second) e))
  where
    some_octet : (x y : ℕ) → Some x ≡ Some y → x ≡ y
    some_octet x y e = cc e

-- ---- the cases
module _ (store : Holding) (now : ℕ) (coming : Coming) (before : List Partial) (found : Option Partial) (rest : List Partial) where
  abbrev Old : Held
  Old = found_or_nothing found coming.segment

  same_new : (first second : Held) → Together Old coming.segment first → Together Old coming.segment second → first ≡ second
  same_new first second h k = one_together Old coming.segment first second h k

  one_case : (answer other : Joined) (after more : Holding) → TakesAt store now coming before found rest answer after → TakesAt store now coming before found rest other more
      → (answer ≡ other) × (after ≡ more)
  one_case joined.Interference joined.Interference after more h k = (refl, h.1 ∙ sym k.1)
  one_case joined.Interference (joined.Whole octets) after more h k = absurd (k.1.0 h.0)
  one_case joined.Interference joined.Full after more h k = absurd (k.1.0 h.0)
  one_case joined.Interference joined.Held after more h k = absurd (k.1.0 h.0)
  one_case (joined.Whole octets) joined.Interference after more h k = absurd (h.1.0 k.0)
  one_case (joined.Whole octets) (joined.Whole others) after more h k =
      let same : map Some octets ≡ map Some others = sym h.3 ∙ ap (λ (x : Held). x.slots) (same_new h.0 k.0 h.1.1 k.1.1) ∙ k.3 in
      (ap (λ (ns : List ℕ). joined.Whole ns) (one_unit octets others same), h.4 ∙ sym k.4)
  one_case (joined.Whole octets) joined.Full after more h k = absurd (k.2 (subst Filled (same_new h.0 k.0 h.1.1 k.1.1) h.2))
  one_case (joined.Whole octets) joined.Held after more h k = absurd (k.2 (subst Filled (same_new h.0 k.0 h.1.1 k.1.1) h.2))
  one_case joined.Full joined.Interference after more h k = absurd (h.1.0 k.0)
  one_case joined.Full (joined.Whole octets) after more h k = absurd (h.2 (subst Filled (same_new k.0 h.0 k.1.1 h.1.1) k.2))
  one_case joined.Full joined.Full after more h k = (refl, h.4 ∙ sym k.4)
  one_case joined.Full joined.Held after more h k = absurd (k.3 (subst (HasNoRoom store found Old) (same_new h.0 k.0 h.1.1 k.1.1) h.3))
  one_case joined.Held joined.Interference after more h k = absurd (h.1.0 k.0)
  one_case joined.Held (joined.Whole octets) after more h k = absurd (h.2 (subst Filled (same_new k.0 h.0 k.1.1 h.1.1) k.2))
  one_case joined.Held joined.Full after more h k = absurd (h.3 (subst (HasNoRoom store found Old) (same_new k.0 h.0 k.1.1 h.1.1) k.3))
  one_case joined.Held joined.Held after more h k = (
    refl,
    h.4 ∙ ap (λ (x : Held). record store { clock = now; held = before ++ partial_with found coming x (now + coming.left) ∷ rest }) (same_new h.0 k.0 h.1.1 k.1.1)
        ∙ sym k.4,
  )

pub one_answer : OneAnswer
one_answer store now coming answer other after more h k =
    let one = one_at coming.key store.held h.before h.found h.rest k.before k.found k.rest h.at k.at in
    one_case store now coming k.before k.found k.rest answer other after more
    (subst (λ (us : List Partial). TakesAt store now coming k.before k.found us answer after) one.2
    (subst (λ (u : Option Partial). TakesAt store now coming k.before u h.rest answer after) one.1
    (subst (λ (us : List Partial). TakesAt store now coming us h.found h.rest answer after) one.0 h.takes)))
    k.takes

-- ---- a unit that expires
one_due : (before others : List Partial) (unit other : Partial) (rest more : List Partial) → before ++ unit ∷ rest ≡ others ++ other ∷ more
    → AllByRecursion (λ (u : Partial). unit.deadline < u.deadline) before → AllByRecursion (λ (u : Partial). unit.deadline ≤ u.deadline) rest
    → AllByRecursion (λ (u : Partial). other.deadline < u.deadline) others → AllByRecursion (λ (u : Partial). other.deadline ≤ u.deadline) more
    → (before ≡ others) × (unit ≡ other) × (rest ≡ more)
one_due [] [] unit other rest more e sooner first also too = (refl, same_head unit other rest more e, same_tail unit other rest more e)
one_due [] (y ∷ others) unit other rest more e sooner first also too =
    let same = same_head unit y rest (others ++ other ∷ more) e in
    let back = subst (AllByRecursion (λ (u : Partial). unit.deadline ≤ u.deadline)) (same_tail unit y rest (others ++ other ∷ more) e) first in
    let low : unit.deadline ≤ other.deadline = (all_back (λ (u : Partial). unit.deadline ≤ u.deadline) others (other ∷ more) back).0 in
    absurd (omega (arith, low, also.0, ap (λ (u : Partial). u.deadline) same))
one_due (x ∷ before) [] unit other rest more e sooner first also too =
    let same = same_head x other (before ++ unit ∷ rest) more e in
    let back = subst (AllByRecursion (λ (u : Partial). other.deadline ≤ u.deadline)) (sym (same_tail x other (before ++ unit ∷ rest) more e)) too in
    let low : other.deadline ≤ unit.deadline = (all_back (λ (u : Partial). other.deadline ≤ u.deadline) before (unit ∷ rest) back).0 in
    absurd (omega (arith, low, sooner.0, ap (λ (u : Partial). u.deadline) same))
one_due (x ∷ before) (y ∷ others) unit other rest more e sooner first also too =
    let all = one_due before others unit other rest more (same_tail x y (before ++ unit ∷ rest) (others ++ other ∷ more) e) sooner.1 first also.1 too in (
      ap (λ (us : List Partial). x ∷ us) all.0 ∙ ap (λ (u : Partial). u ∷ others) (same_head x y (before ++ unit ∷ rest) (others ++ other ∷ more) e),
      all.1,
      all.2,
    )

not_past : (now : ℕ) (held before : List Partial) (unit : Partial) (rest : List Partial) → held ≡ before ++ unit ∷ rest → unit.deadline < now
    → AllByRecursion (λ (u : Partial). now ≤ u.deadline) held → ⊥
not_past now held before unit rest is past none =
    let low : now ≤ unit.deadline = (all_back (λ (u : Partial). now ≤ u.deadline) before (unit ∷ rest) (subst (AllByRecursion (λ (u : Partial). now ≤ u.deadline)) is none)).0 in
    omega (arith, low, past)

pub one_expiry : OneExpiry
one_expiry store now None None after more h k = (refl, h.1 ∙ sym k.1)
one_expiry store now None (Some other) after more h k = absurd (not_past now store.held k.before k.unit k.rest k.stands k.past h.0)
one_expiry store now (Some expired) None after more h k = absurd (not_past now store.held h.before h.unit h.rest h.stands h.past k.0)
one_expiry store now (Some expired) (Some other) after more h k =
    let one = one_due h.before k.before h.unit k.unit h.rest k.rest (sym h.stands ∙ k.stands) h.sooner h.first k.sooner k.first in
    let told : expired ≡ other = h.expired_is ∙ ap (λ (u : Partial). let x : Expired = record { source = u.source; reportable = u.reportable; header = u.first } in x) one.1
    ∙ sym k.expired_is in (
      ap (λ (x : Expired). Some x) told,
      h.after_is ∙ ap (λ (us : List Partial). record store { clock = now; held = us ++ h.rest }) one.0
          ∙ ap (λ (us : List Partial). record store { clock = now; held = k.before ++ us }) one.2
          ∙ sym k.after_is,
    )
