-- What a search among rows finds; and rows whose prefixes differ: two that cover an address with prefixes of one length are one row,
-- since both prefixes are the address's first octets.
use Rattle.std.proofs.Common.{◌≡◌, ℕ, ◌<◌, ◌≤◌, Bool, true, false, List, [], ◌∷◌, ◌++◌, length, take, Option, Some, None, refl, sym, ap, ◌∙◌, subst, arith, inl, inr, length-append}
use Rattle.std.specs.Prelude.{◌||◌, ◌&&◌, ◌⊎◌, not, nat_eq, nat_lt, cond, find, option_map}
use Rattle.std.specs.List.{All, Contains, list_any}
use Rattle.std.specs.Cmp.Lexicographic.{pointwise, same_text, nat_list_eq_equiv}
use Rattle.std.proofs.lemmas.Bool.{or_from, or_parts, and_parts, not-true, le-ltb, ltb-false}
use Rattle.std.proofs.lemmas.List.Elements.{All-nil, All-contains, All-weaker, Contains-append_left, Contains-append_right, Contains-append_cases, Contains-push, Contains-push_cases}
use Rattle.std.proofs.lemmas.List.Folds.{list_any-append, list_any_none}
use Rattle.osi_base.proofs.Firsts.{find_none, find_some, none_pass}
use Rattle.osi_base.proofs.Members.{one_member}
use Rattle.nsap.specs.Address.{covers}
use Rattle.nsap.specs.declared.port.Hop.{Hop}
use Rattle.clnp_route.specs.declared.table.RouteRow.{RouteRow}
use Rattle.clnp_route.specs.steps.Best.{IsBest}
use Rattle.clnp_route.proofs.Longest.{some_best}
use Rattle.clnp_route.specs.Routes.{AreDistinct, has_prefix, IsLongest, IsNext, IsTable, is_longest, next_hop, surpasses}

-- a row behind others whose prefix they do not have
pub distinct_push : (rows : List RouteRow) (row : RouteRow) → AreDistinct rows → has_prefix rows row.prefix ≡ false → AreDistinct (rows ++ row ∷ [])
distinct_push [] row distinct fresh = (refl, tt)
distinct_push (first ∷ rows) row distinct fresh =
    let parts : (pointwise nat_eq first.prefix row.prefix ≡ false) × (has_prefix rows row.prefix ≡ false) =
    or_parts (pointwise nat_eq first.prefix row.prefix) (has_prefix rows row.prefix) fresh in
    let other : pointwise nat_eq row.prefix first.prefix ≡ false = nat_list_eq_equiv.symm row.prefix first.prefix ∙ parts.0 in
    let split : has_prefix (rows ++ row ∷ []) first.prefix ≡ (has_prefix rows first.prefix || (pointwise nat_eq row.prefix first.prefix || false)) =
    list_any-append (λ x. pointwise nat_eq x.prefix first.prefix) rows (row ∷ []) in (
      split ∙ or_from (has_prefix rows first.prefix) (pointwise nat_eq row.prefix first.prefix || false) distinct.0
          (or_from (pointwise nat_eq row.prefix first.prefix) false other refl),
      distinct_push rows row distinct.1 parts.1,
    )

-- a prefix that no row has, and a row
no_row : (rows : List RouteRow) (prefix : List ℕ) (row : RouteRow) → has_prefix rows prefix ≡ false → Contains rows row → row.prefix ≡ prefix → ⊥
no_row rows prefix row fresh there same =
    let fails : pointwise nat_eq row.prefix prefix ≡ false =
    All-contains (λ x. pointwise nat_eq x.prefix prefix ≡ false) rows row (none_pass (λ x. pointwise nat_eq x.prefix prefix) rows fresh) there in
    let passes : pointwise nat_eq row.prefix prefix ≡ true = ap (λ (x : List ℕ). pointwise nat_eq x prefix) same ∙ nat_list_eq_equiv.refl prefix in
    let clash : true ≡ false = sym passes ∙ fails in cc

-- where prefixes differ, rows of one prefix are one row
same_row : (rows : List RouteRow) (first second : RouteRow) → AreDistinct rows → Contains rows first → Contains rows second → first.prefix ≡ second.prefix
    → first ≡ second
same_row =
    one_member (λ (row : RouteRow). row.prefix) AreDistinct (λ row rows distinct. distinct.1) (λ row rows other distinct there same. no_row rows row.prefix other distinct.0 there same)

-- a prefix that covers an address is its first octets
front : (prefix address : List ℕ) → covers prefix address ≡ true → prefix ≡ take (length prefix) address
front prefix address is = same_text prefix (take (length prefix) address) (sym is)

-- the row of the longest prefix is one
same_longest : (rows : List RouteRow) (address : List ℕ) (first second : RouteRow) → AreDistinct rows → IsLongest rows address first
    → IsLongest rows address second → first ≡ second
same_longest rows address first second distinct one two =
    let P : ℕ → RouteRow → Type 0 = λ count other. covers other.prefix address ≡ true → length other.prefix ≤ count in
    let below : length second.prefix ≤ length first.prefix = All-contains (P (length first.prefix)) rows second one.longest two.stands two.covering in
    let above : length first.prefix ≤ length second.prefix = All-contains (P (length second.prefix)) rows first two.longest one.stands one.covering in
    let long : length first.prefix ≡ length second.prefix = omega arith in
    let same : first.prefix ≡ second.prefix = front first.prefix address one.covering ∙ ap (λ (n : ℕ). take n address) long
    ∙ sym (front second.prefix address two.covering) in
    same_row rows first second distinct one.stands two.stands same

clash_none : (rows : List RouteRow) (address : List ℕ) (row : RouteRow) → All (λ x. covers x.prefix address ≡ false) rows → IsLongest rows address row → ⊥
clash_none rows address row none h =
    let clash : true ≡ false = sym h.covering ∙ All-contains (λ x. covers x.prefix address ≡ false) rows row none h.stands in cc

pub one_hop : (rows : List RouteRow) (address : List ℕ) (first second : Option Hop) → AreDistinct rows → IsNext rows address first → IsNext rows address second
    → first ≡ second
one_hop rows address None None distinct one two = refl
one_hop rows address None (Some hop) distinct one two = absurd (clash_none rows address two.0 one two.1)
one_hop rows address (Some hop) None distinct one two = absurd (clash_none rows address one.0 two one.1)
one_hop rows address (Some hop) (Some other) distinct one two =
    ap Some (one.2 ∙ ap (λ (x : RouteRow). x.hop) (same_longest rows address one.0 two.0 distinct one.1 two.1) ∙ sym two.2)

-- a row that does not surpass another has no longer prefix, where it covers the address
no_longer : (address : List ℕ) (row other : RouteRow) → surpasses address row other ≡ false → covers other.prefix address ≡ true
    → length other.prefix ≤ length row.prefix
no_longer address row other not is =
    let long : nat_lt (length row.prefix) (length other.prefix) ≡ false = sym (ap (λ (b : Bool). b && nat_lt (length row.prefix) (length other.prefix)) is)
    ∙ not in
    ltb-false (length row.prefix) (length other.prefix) long

surpasses_by : (address : List ℕ) (row other : RouteRow) (covered : Bool) → covers other.prefix address ≡ covered
    → (covered ≡ true → length other.prefix ≤ length row.prefix)
    → (covered && nat_lt (length row.prefix) (length other.prefix)) ≡ false
surpasses_by address row other true is shorter = le-ltb (length row.prefix) (length other.prefix) (shorter refl)
surpasses_by address row other false is shorter = refl

-- the test tells the row of the longest prefix
tested : (rows : List RouteRow) (address : List ℕ) (row : RouteRow) → Contains rows row → is_longest rows address row ≡ true → IsLongest rows address row
tested rows address row there passes =
    let parts : (covers row.prefix address ≡ true) × (not (list_any (surpasses address row) rows) ≡ true) =
    and_parts (covers row.prefix address) (not (list_any (surpasses address row) rows)) passes in
    let none : list_any (surpasses address row) rows ≡ false = not-true (list_any (surpasses address row) rows) parts.1 in
    record {
      stands = there;
      covering = parts.0;
      longest = All-weaker (λ other. surpasses address row other ≡ false)
          (λ other. covers other.prefix address ≡ true → length other.prefix ≤ length row.prefix)
          (λ other. no_longer address row other) rows (none_pass (surpasses address row) rows none);
    }

passes_test : (rows : List RouteRow) (address : List ℕ) (row : RouteRow) → IsLongest rows address row → is_longest rows address row ≡ true
passes_test rows address row h =
    let none : list_any (surpasses address row) rows ≡ false = list_any_none (surpasses address row) rows
    (All-weaker (λ other. covers other.prefix address ≡ true → length other.prefix ≤ length row.prefix) (λ other. surpasses address row other ≡ false)
    (λ other shorter. surpasses_by address row other (covers other.prefix address) refl shorter) rows h.longest) in
    ap (λ (b : Bool). b && not (list_any (surpasses address row) rows)) h.covering ∙ ap not none

found_none : (rows : List RouteRow) (address : List ℕ) (best : Option RouteRow) → IsBest rows address best
    → All (λ row. is_longest rows address row ≡ false) rows → All (λ row. covers row.prefix address ≡ false) rows
found_none rows address None h none = h
found_none rows address (Some row) h none =
    let clash : true ≡ false = sym (passes_test rows address row h) ∙ All-contains (λ x. is_longest rows address x ≡ false) rows row none h.stands in absurd cc

next_by : (rows : List RouteRow) (address : List ℕ) (found : Option RouteRow) → find (is_longest rows address) rows ≡ found
    → IsNext rows address (option_map (λ row. row.hop) found)
next_by rows address None is = found_none rows address (some_best address [] rows None (All-nil (λ row. covers row.prefix address ≡ false))).0
    (some_best address [] rows None (All-nil (λ row. covers row.prefix address ≡ false))).1 (none_pass (is_longest rows address) rows (find_none (is_longest rows address) rows is))
next_by rows address (Some row) is =
    let there : Contains rows row × (is_longest rows address row ≡ true) = find_some (is_longest rows address) rows row is in
    (row, tested rows address row there.0 there.1, refl)

pub next_found : (rows : List RouteRow) (address : List ℕ) → IsNext rows address (next_hop rows address)
next_found rows address = next_by rows address (find (is_longest rows address) rows) refl

-- the hop that was found in the rows that a table lends
pub same_next : (rows held lent : List RouteRow) (address : List ℕ) (hop : Option Hop) → held ≡ rows → lent ≡ held → IsTable held → IsNext lent address hop
    → hop ≡ next_hop rows address
same_next rows held lent address hop same also table h =
    let here : IsNext held address hop = subst (λ (xs : List RouteRow). IsNext xs address hop) also h in
    one_hop held address hop (next_hop held address) table.distinct here (next_found held address) ∙ ap (λ (xs : List RouteRow). next_hop xs address) same

-- a table with one row more, of which its rows tell that its prefix is not there and that there is room
pub table_push : (held rows : List RouteRow) (row : RouteRow) → held ≡ rows → IsTable held → has_prefix rows row.prefix ≡ false → length rows < 256
    → IsTable (held ++ row ∷ [])
table_push held rows row same table fresh room =
    let here : has_prefix held row.prefix ≡ false = ap (λ (xs : List RouteRow). has_prefix xs row.prefix) same ∙ fresh in
    let few : length held < 256 = subst (λ (xs : List RouteRow). length xs < 256) (sym same) room in
    record { distinct = distinct_push held row table.distinct here; few = simp length-append (omega arith) }
