-- The best row of the first ones, and of one row more: the better of the two.
use Rattle.std.proofs.Common.{◌≡◌, ℕ, ◌+◌, ◌<◌, ◌≤◌, Bool, true, false, List, [], ◌∷◌, ◌++◌, length, take, get_or, Option, Some, None, refl, sym, ap, ◌∙◌, subst, arith, append_assoc}
use Rattle.std.proofs.lemmas.List.{append-nil, take_more}
use Rattle.std.specs.Prelude.{◌&&◌, if◌then◌else◌, option_map}
use Rattle.std.specs.List.{All}
use Rattle.std.proofs.lemmas.Bool.{ltb-true, ltb-false}
use Rattle.std.proofs.lemmas.List.Elements.{All-push, All-weaker, Contains-append_left, Contains-push}
use Rattle.nsap.specs.Address.{covers}
use Rattle.clnp_route.specs.declared.table.RouteRow.{RouteRow}
use Rattle.clnp_route.specs.Routes.{IsLongest, IsNext}
use Rattle.clnp_route.specs.steps.Best.{IsBest, is_better, is_longer}

module _ (address : List ℕ) where
  abbrev Uncovering : RouteRow → Type 0
  Uncovering other = covers other.prefix address ≡ false

  -- no longer than so many octets, where it covers the address
  abbrev NoLonger : ℕ → RouteRow → Type 0
  NoLonger count other = covers other.prefix address ≡ true → length other.prefix ≤ count

  uncovering_shorter : (count : ℕ) (other : RouteRow) → Uncovering other → NoLonger count other
  uncovering_shorter count other not is = let clash : true ≡ false = sym is ∙ not in absurd cc

  -- one more row that stays behind the best one
  behind : (rows : List RouteRow) (best row : RouteRow) → IsLongest rows address best → NoLonger (length best.prefix) row
      → IsLongest (rows ++ row ∷ []) address best
  behind rows best row h no_longer = record {
    stands = Contains-append_left rows (row ∷ []) best h.stands;
    covering = h.covering;
    longest = All-push (NoLonger (length best.prefix)) rows row h.longest no_longer;
  }

  -- one more row that is longer than all before it
  ahead : (rows : List RouteRow) (row : RouteRow) → covers row.prefix address ≡ true → All (NoLonger (length row.prefix)) rows
      → IsLongest (rows ++ row ∷ []) address row
  ahead rows row is shorter = record {
    stands = Contains-push rows row;
    covering = is;
    longest = All-push (NoLonger (length row.prefix)) rows row shorter (λ here. omega arith);
  }

  -- a row after others, by whether it is longer than the best of them and covers the address
  one_more : (rows : List RouteRow) (best : Option RouteRow) (row : RouteRow) (longer covered : Bool) → is_longer row best ≡ longer
      → covers row.prefix address ≡ covered
      → IsBest rows address best → IsBest (rows ++ row ∷ []) address (if longer && covered then Some row else best)
  one_more rows None row true true how is h = ahead rows row is
      (All-weaker Uncovering (NoLonger (length row.prefix)) (uncovering_shorter (length row.prefix)) rows h)
  one_more rows None row true false how is h = All-push Uncovering rows row h is
  one_more rows None row false covered how is h = absurd cc
  one_more rows (Some best) row false covered how is h = behind rows best row h (λ here. ltb-false (length best.prefix) (length row.prefix) how)
  one_more rows (Some best) row true false how is h = behind rows best row h (λ here. let clash : true ≡ false = sym here ∙ is in absurd cc)
  one_more rows (Some best) row true true how is h =
      let longer : length best.prefix < length row.prefix = ltb-true (length best.prefix) (length row.prefix) how in
      ahead rows row is (All-weaker (NoLonger (length best.prefix)) (NoLonger (length row.prefix))
      (λ other no_longer here. let short = no_longer here in omega arith) rows h.longest)

  pub best_more : (rows : List RouteRow) (best : Option RouteRow) (row : RouteRow) → IsBest rows address best
      → IsBest (rows ++ row ∷ []) address (if is_better row best address then Some row else best)
  best_more rows best row h = one_more rows best row (is_longer row best) (covers row.prefix address) refl refl h

  -- a loop's step: the row at that place is better, or the best one stays
  pub best_at : (rows : List RouteRow) (i : ℕ) (best next : Option RouteRow) (row : RouteRow) (better : Bool) → i < length rows → row ≡ get_or rows i row
      → better ≡ is_better row best address → next ≡ (if better then Some row else best) → IsBest (take i rows) address best
      → IsBest (take (i + 1) rows) address next
  best_at rows i best next row better within is how next_is h =
      let more : take (i + 1) rows ≡ take i rows ++ row ∷ [] = take_more rows i row within ∙ ap (λ (x : RouteRow). take i rows ++ x ∷ []) (sym is) in
      let moved : next ≡ (if is_better row best address then Some row else best) = next_is ∙ ap (λ (b : Bool). if b then Some row else best) how in
      subst (λ (xs : List RouteRow). IsBest xs address next) (sym more)
      (subst (λ (found : Option RouteRow). IsBest (take i rows ++ row ∷ []) address found) (sym moved) (best_more (take i rows) best row h))

  -- there is a best row, or none covers the address
  pub some_best : (done rows : List RouteRow) (best : Option RouteRow) → IsBest done address best
      → (found : Option RouteRow) × IsBest (done ++ rows) address found
  some_best done [] best h = (best, subst (λ (xs : List RouteRow). IsBest xs address best) (sym (append-nil done)) h)
  some_best done (row ∷ rows) best h =
      let next : Option RouteRow = if is_better row best address then Some row else best in
      let rest : (found : Option RouteRow) × IsBest ((done ++ row ∷ []) ++ rows) address found =
      some_best (done ++ row ∷ []) rows next (best_more done best row h) in
      (rest.0, subst (λ (xs : List RouteRow). IsBest xs address rest.0) (append_assoc done (row ∷ []) rows) rest.1)

  -- the hop of the best row is the next one
  pub next_of_best : (rows : List RouteRow) (best : Option RouteRow) → IsBest rows address best → IsNext rows address (option_map (λ row. row.hop) best)
  next_of_best rows None h = h
  next_of_best rows (Some row) h = (row, h, refl)
