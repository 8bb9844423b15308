-- The least title of the first rows, and of one row more: the lesser of the two. Two least titles are equal, so that they are one row's.
use Rattle.std.proofs.Common.{◌≡◌, ℕ, ◌+◌, ◌<◌, Bool, true, false, List, [], ◌∷◌, ◌++◌, length, take, get_or, Option, Some, None, refl, sym, ap, ◌∙◌, subst, arith, inl, inr}
use Rattle.std.specs.Prelude.{◌&&◌, find, nat_eq, not, option_map, if◌then◌else◌}
use Rattle.std.specs.List.{All, Contains, list_any}
use Rattle.std.specs.declared.cmp.Ordering.{Ordering}
use Rattle.std.specs.declared.cmp.Ordering.TheVariants.{Less, Equal, Greater}
use Rattle.std.specs.Ordering.{is_eq, is_gt, is_lt, nat_cmp, ordering_reverse}
use Rattle.std.specs.Cmp.Lexicographic.{pointwise, same_text, slice_cmp, nat_list_cmp_total, nat_list_eq_equiv, texts_ties}
use Rattle.std.proofs.Math.Seq.{take-length}
use Rattle.std.proofs.lemmas.Bool.{and_parts, not-true, or_parts}
use Rattle.std.proofs.lemmas.Cmp.{upto, tied_itself}
use Rattle.std.proofs.lemmas.List.{take_more}
use Rattle.std.proofs.lemmas.List.Elements.{All-contains, All-push, All-weaker, Contains-append_left, Contains-push}
use Rattle.std.proofs.lemmas.List.Folds.{list_any_none}
use Rattle.osi_base.proofs.Firsts.{find_none, find_some, none_pass}
use Rattle.osi_base.proofs.Members.{contains_cases, one_member}
use Rattle.nsap.specs.declared.port.Hop.{Hop}
use Rattle.esis_tables.specs.declared.holding_time.Row.{Row}
use Rattle.esis_tables.specs.Told.{is_among, is_upto}
use Rattle.esis_tables.specs.Rows.{AreDistinct, IsTable, addresses, is_least, is_router, precedes, router_in}
use Rattle.esis_tables.specs.steps.Least.{IsLeastOf, IsLeastRouter, IsRouterHop, is_before, is_lesser}

-- the order of titles
upto_itself : (title : List ℕ) → is_upto title title ≡ true
upto_itself title = ap (λ (o : Ordering). not (is_gt o)) (tied_itself nat_list_cmp_total title)

pub upto_upto : (first second third : List ℕ) → is_upto first second ≡ true → is_upto second third ≡ true → is_upto first third ≡ true
upto_upto first second third one two =
    ap not (upto nat_list_cmp_total first second third (not-true (is_gt (slice_cmp nat_cmp first second)) one)
    (not-true (is_gt (slice_cmp nat_cmp second third)) two))

lesser_upto : (o : Ordering) → is_lt o ≡ true → not (is_gt o) ≡ true
lesser_upto Less is = refl
lesser_upto Equal is = absurd cc
lesser_upto Greater is = absurd cc

not_lesser : (o : Ordering) → is_lt o ≡ false → not (is_gt (ordering_reverse o)) ≡ true
not_lesser Less is = absurd cc
not_lesser Equal is = refl
not_lesser Greater is = refl

-- what does not come before another is behind it or the same
behind_upto : (first second : List ℕ) → is_lt (slice_cmp nat_cmp first second) ≡ false → is_upto second first ≡ true
behind_upto first second is = ap (λ (o : Ordering). not (is_gt o)) (nat_list_cmp_total.antisymm second first) ∙ not_lesser (slice_cmp nat_cmp first second) is

module _ (now : ℕ) where
  abbrev IsNone : Row → Type 0
  IsNone row = is_router now row ≡ false

  abbrev Behind : List ℕ → Row → Type 0
  Behind title other = is_router now other ≡ true → is_upto title other.address ≡ true

  none_behind : (title : List ℕ) (other : Row) → IsNone other → Behind title other
  none_behind title other none is = let clash : true ≡ false = sym is ∙ none in absurd cc

  stays : (rows : List Row) (least row : Row) → IsLeastOf rows now least → Behind least.address row → IsLeastOf (rows ++ row ∷ []) now least
  stays rows least row h behind = record {
    stands = Contains-append_left rows (row ∷ []) least h.stands;
    router = h.router;
    least = All-push (Behind least.address) rows row h.least behind;
  }

  comes : (rows : List Row) (row : Row) → is_router now row ≡ true → All (Behind row.address) rows → IsLeastOf (rows ++ row ∷ []) now row
  comes rows row is behind = record {
    stands = Contains-push rows row;
    router = is;
    least = All-push (Behind row.address) rows row behind (λ also. upto_itself row.address);
  }

  pub one_more : (rows : List Row) (least : Option Row) (row : Row) (before router : Bool) → is_before row least ≡ before → is_router now row ≡ router
      → IsLeastRouter rows now least → IsLeastRouter (rows ++ row ∷ []) now (if before && router then Some row else least)
  one_more rows None row false router how is h = absurd cc
  one_more rows None row true false how is h = All-push IsNone rows row h is
  one_more rows None row true true how is h = comes rows row is (All-weaker IsNone (Behind row.address) (none_behind row.address) rows h)
  one_more rows (Some least) row false router how is h = stays rows least row h (λ also. behind_upto row.address least.address how)
  one_more rows (Some least) row true false how is h = stays rows least row h (none_behind least.address row is)
  one_more rows (Some least) row true true how is h =
      let lower : is_upto row.address least.address ≡ true = lesser_upto (slice_cmp nat_cmp row.address least.address) how in
      comes rows row is (All-weaker (Behind least.address) (Behind row.address)
      (λ other behind also. upto_upto row.address least.address other.address lower (behind also)) rows h.least)

  -- a loop's step
  pub least_at : (rows : List Row) (i : ℕ) (least next : Option Row) (row : Row) (lesser : Bool) → i < length rows → row ≡ get_or rows i row
      → lesser ≡ is_lesser row least now → next ≡ (if lesser then Some row else least) → IsLeastRouter (take i rows) now least
      → IsLeastRouter (take (i + 1) rows) now next
  least_at rows i least next row lesser within is how next_is h =
      let more : take (i + 1) rows ≡ take i rows ++ row ∷ [] = take_more rows i row within ∙ ap (λ (x : Row). take i rows ++ x ∷ []) (sym is) in
      let moved : next ≡ (if is_lesser row least now then Some row else least) = next_is ∙ ap (λ (b : Bool). if b then Some row else least) how in
      subst (λ (xs : List Row). IsLeastRouter xs now next) (sym more)
      (subst (λ (found : Option Row). IsLeastRouter (take i rows ++ row ∷ []) now found) (sym moved)
      (one_more (take i rows) least row (is_before row least) (is_router now row) refl refl h))

  -- once each row was seen
  pub least_whole : (rows : List Row) (i : ℕ) (least : Option Row) → i ≡ length rows → IsLeastRouter (take i rows) now least → IsLeastRouter rows now least
  least_whole rows i least whole h =
      subst (λ (xs : List Row). IsLeastRouter xs now least) (ap (λ (n : ℕ). take n rows) whole ∙ take-length rows) h

-- what is behind another is not before it
reversed : (o : Ordering) → not (is_gt (ordering_reverse o)) ≡ true → is_lt o ≡ false
reversed Less is = absurd cc
reversed Equal is = refl
reversed Greater is = refl

upto_not : (first second : List ℕ) → is_upto first second ≡ true → is_lt (slice_cmp nat_cmp second first) ≡ false
upto_not first second is = reversed (slice_cmp nat_cmp second first) (ap (λ (o : Ordering). not (is_gt o)) (sym (nat_list_cmp_total.antisymm first second))
    ∙ is)

tied : (o : Ordering) → not (is_gt o) ≡ true → not (is_gt (ordering_reverse o)) ≡ true → is_eq o ≡ true
tied Less one two = absurd cc
tied Equal one two = refl
tied Greater one two = absurd cc

-- titles that are each up to the other are one
pub one_title : (first second : List ℕ) → is_upto first second ≡ true → is_upto second first ≡ true → first ≡ second
one_title first second one two =
    let back : not (is_gt (ordering_reverse (slice_cmp nat_cmp first second))) ≡ true =
    ap (λ (o : Ordering). not (is_gt o)) (sym (nat_list_cmp_total.antisymm second first)) ∙ two in
    same_text first second (sym (texts_ties first second ∙ tied (slice_cmp nat_cmp first second) one back))

-- rows of one address are one row
no_row : (rows : List Row) (row : Row) (address : List ℕ) → is_among (addresses rows) address ≡ false → Contains rows row → row.address ≡ address → ⊥
no_row [] row address none there same = absurd (omega (arith, there.1))
no_row (first ∷ rows) row address none there same =
    let parts : (pointwise nat_eq first.address address ≡ false) × (is_among (addresses rows) address ≡ false) =
    or_parts (pointwise nat_eq first.address address) (is_among (addresses rows) address) none in
    elim (contains_cases first rows row there) [
      | inl is ↦ let clash : true ≡ false = sym (nat_list_eq_equiv.refl address)
          ∙ ap (λ (x : List ℕ). pointwise nat_eq x address) (sym (ap (λ (x : Row). x.address) is ∙ same)) ∙ parts.0 in cc
      | inr rest ↦ no_row rows row address parts.1 rest same
    ]

same_row : (rows : List Row) (first second : Row) → AreDistinct (addresses rows) → Contains rows first → Contains rows second → first.address ≡ second.address
    → first ≡ second
same_row =
    one_member (λ (row : Row). row.address) (λ (rows : List Row). AreDistinct (addresses rows)) (λ row rows distinct. distinct.1)
    (λ row rows other distinct there same. no_row rows other row.address distinct.0 there same)

module _ (now : ℕ) (rows : List Row) where
  abbrev After : Row → Row → Type 0
  After row other = is_router now other ≡ true → is_upto row.address other.address ≡ true

  passed : (row other : Row) → precedes now row other ≡ false → After row other
  passed row other not is = behind_upto other.address row.address (sym (ap (λ (b : Bool). b && is_lt (slice_cmp nat_cmp other.address row.address)) is) ∙ not)

  past : (row other : Row) (router : Bool) → is_router now other ≡ router → (router ≡ true → is_upto row.address other.address ≡ true)
      → (router && is_lt (slice_cmp nat_cmp other.address row.address)) ≡ false
  past row other true is after = upto_not row.address other.address (after refl)
  past row other false is after = refl

  -- the test tells the row of least title
  tested : (row : Row) → Contains rows row → is_least rows now row ≡ true → IsLeastOf rows now row
  tested row there passes =
      let parts : (is_router now row ≡ true) × (not (list_any (precedes now row) rows) ≡ true) =
      and_parts (is_router now row) (not (list_any (precedes now row) rows)) passes in
      record {
        stands = there;
        router = parts.0;
        least = All-weaker (λ other. precedes now row other ≡ false) (After row) (passed row) rows
            (none_pass (precedes now row) rows (not-true (list_any (precedes now row) rows) parts.1));
      }

  passes_test : (row : Row) → IsLeastOf rows now row → is_least rows now row ≡ true
  passes_test row h =
      let none : list_any (precedes now row) rows ≡ false = list_any_none (precedes now row) rows
      (All-weaker (After row) (λ other. precedes now row other ≡ false) (λ other after. past row other (is_router now other) refl after) rows h.least) in
      ap (λ (b : Bool). b && not (list_any (precedes now row) rows)) h.router ∙ ap not none

  found_least : (row : Row) → AreDistinct (addresses rows) → IsLeastOf rows now row → (found : Option Row) → find (is_least rows now) rows ≡ found
      → found ≡ Some row
  found_least row distinct h None is =
      let clash : true ≡ false = sym (passes_test row h) ∙ All-contains (λ x. is_least rows now x ≡ false) rows row
      (none_pass (is_least rows now) rows (find_none (is_least rows now) rows is)) h.stands in absurd cc
  found_least row distinct h (Some other) is =
      let there : Contains rows other × (is_least rows now other ≡ true) = find_some (is_least rows now) rows other is in
      let also : IsLeastOf rows now other = tested other there.0 there.1 in
      let below : is_upto row.address other.address ≡ true = All-contains (After row) rows other h.least there.0 also.router in
      let above : is_upto other.address row.address ≡ true = All-contains (After other) rows row also.least h.stands h.router in
      ap Some (same_row rows other row distinct there.0 h.stands (one_title other.address row.address above below))

  found_no : All (λ row. is_router now row ≡ false) rows → (found : Option Row) → find (is_least rows now) rows ≡ found → found ≡ None
  found_no none None is = refl
  found_no none (Some row) is =
      let there : Contains rows row × (is_least rows now row ≡ true) = find_some (is_least rows now) rows row is in
      let clash : true ≡ false = sym (tested row there.0 there.1).router ∙ All-contains (λ x. is_router now x ≡ false) rows row none there.0 in absurd cc

  pub same_router : (hop : Option Hop) → AreDistinct (addresses rows) → IsRouterHop rows now hop → hop ≡ router_in rows now
  same_router None distinct h = ap (option_map (λ row. row.heard.hop)) (sym (found_no h (find (is_least rows now) rows) refl))
  same_router (Some hop) distinct h = ap Some h.2 ∙ ap (option_map (λ row. row.heard.hop))
      (sym (found_least h.0 distinct h.1 (find (is_least rows now) rows) refl))

-- the hop that was found in the rows that a table lends
pub router_at : (now : ℕ) (rows held : List Row) (hop : Option Hop) → held ≡ rows → IsTable held → IsRouterHop held now hop → hop ≡ router_in rows now
router_at now rows held hop same table h = same_router now held hop table.distinct h ∙ ap (λ (xs : List Row). router_in xs now) same
