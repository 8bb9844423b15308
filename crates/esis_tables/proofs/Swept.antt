-- Rows by the hellos alone. A hello gives rows to the addresses that it names, and these came at its tick; a tick leaves those
-- that are known, and no hello came at it yet. Lists of differing addresses with the same members have one length.
use Rattle.std.proofs.Common.{◌≡◌, ℕ, suc, ◌+◌, ◌<◌, ◌≤◌, Bool, true, false, List, [], ◌∷◌, ◌++◌, length, Option, Some, None, refl, sym, ap, ◌∙◌, subst, arith, append_assoc}
use Rattle.std.specs.Prelude.{◌==◌, ◌&&◌, ◌||◌, cond, if◌then◌else◌, nat_eq, nat_lt, option_map}
use Rattle.std.specs.List.{All, AllByRecursion, Contains, filter}
use Rattle.std.specs.Cmp.Lexicographic.{pointwise, same_text, nat_list_eq_equiv}
use Rattle.std.proofs.Math.Bool.{or-false}
use Rattle.std.proofs.lemmas.Bool.{or_left, or_right, or_parts}
use Rattle.std.proofs.lemmas.List.{append-nil, length-map}
use Rattle.std.proofs.lemmas.List.Elements.{All-contains, All-nil, All-weaker, Contains-append_left, Contains-append_right, Contains-push}
use Rattle.std.proofs.lemmas.List.Folds.{list_any_none}
use Rattle.osi_base.proofs.Searches.{same_bool}
use Rattle.esis_tables.specs.declared.holding_time.Heard.{Heard}
use Rattle.esis_tables.specs.declared.holding_time.Row.{Row}
use Rattle.esis_tables.specs.Told.{Told, is_among, is_known, known_hop, known_of, latest, or_this}
use Rattle.esis_tables.specs.Rows.{AreDistinct, Rows, addresses, find_row, has_row, heard_of, heard_table, is_router, is_row_known, new_names}
use Rattle.esis_tables.specs.Rows.{router_in, row_at, rows_with, swept_table}
use Rattle.esis_tables.specs.Stands.{IsRowOf}
use Rattle.esis_tables.specs.Laws.{CountIsTold, FindsWhatIsTold, StaysSwept, StaysTable}
use Rattle.esis_tables.specs.Swept.{IsSwept, has_standing, is_standing, names_in, standing}
use Rattle.esis_tables.specs.steps.Least.{IsLeastRouter, IsRouterHop, is_before}
use Rattle.esis_tables.proofs.Names.{distinct_push, is_among-append, named_somewhere, new_are_names}
use Rattle.esis_tables.proofs.Placing.{addresses-renewed, addresses-with, long-with, table_renewed}
use Rattle.esis_tables.proofs.Routers.{one_more, same_router}
use Rattle.esis_tables.proofs.Standing.{find_stands, found_row, hear_stands, kept_row, latest_named, router_stands, rows_of_names, tick_stands}
use Rattle.esis_tables.proofs.Sweeping.{table_filter}

abbrev Name : Type 0
Name = List ℕ

clash : {b : Bool} → b ≡ true → b ≡ false → ⊥
clash h k = absurd cc

-- ---- a hello more
came_now : (told : Told) → is_standing told.tick (Some told) ≡ true
came_now told = or_right (is_known told told.tick) (told.tick == told.tick) (grind arith)

-- names that are all among others, and one that is not
not_among : (names xs : List Name) (name : Name) → All (λ x. is_among names x ≡ true) xs → is_among names name ≡ false → is_among xs name ≡ false
not_among names xs name all none = list_any_none (λ x. pointwise nat_eq x name) xs
    (All-weaker (λ x. is_among names x ≡ true) (λ x. pointwise nat_eq x name ≡ false) (λ x there. by x there (pointwise nat_eq x name) refl) xs all)
  where
    by : (x : Name) → is_among names x ≡ true → (same : Bool) → pointwise nat_eq x name ≡ same → same ≡ false
    by x there true same = absurd (clash (ap (is_among names) (sym (same_text x name (sym same))) ∙ there) none)
    by x there false same = refl

-- the rows of other addresses are those that were there
rows_of_others : (table : Rows) (told : Told) (address : Name) → is_among told.names address ≡ false → has_row (heard_table table told).rows address ≡ has_row table.rows address
rows_of_others table told address none =
    let names = new_names (addresses table.rows) told.names in
    ap (λ (xs : List Name). is_among xs address) (addresses-renewed told (rows_with table.rows told) ∙ addresses-with table.rows told)
    ∙ is_among-append (addresses table.rows) names address
    ∙ ap (λ (b : Bool). has_row table.rows address || b) (not_among told.names names address (new_are_names (addresses table.rows) told.names) none)
    ∙ or-false (has_row table.rows address)

all_push : (P : Told → Type 0) (hellos : List Told) (told : Told) → AllByRecursion P hellos → P told → AllByRecursion P (hellos ++ told ∷ [])
all_push P [] told h k = (k, tt)
all_push P (x ∷ hellos) told h k = (h.0, all_push P hellos told h.1 k)

heard : (table : Rows) (hellos : List Told) (told : Told) → IsSwept table hellos told.tick → IsSwept (heard_table table told) (hellos ++ told ∷ []) told.tick
heard table hellos told h = record {
  so_far = all_push (λ other. other.tick ≤ told.tick) hellos told h.so_far (omega arith);
  stands = hear_stands table told hellos told.tick (omega arith) h.stands;
  exactly = λ address. by address (is_among told.names address) refl;
}
  where
    by : (address : Name) (named : Bool) → is_among told.names address ≡ named → has_row (heard_table table told).rows address ≡ has_standing (hellos ++ told ∷ []) told.tick address
    by address true is = rows_of_names table told address is ∙ sym (ap (is_standing told.tick) (latest_named hellos told address true is) ∙ came_now told)
    by address false is = rows_of_others table told address is ∙ h.exactly address ∙ sym (ap (is_standing told.tick) (latest_named hellos told address false is))

-- ---- a tick
-- the latest hello is one of them
latest_in : (P : Told → Type 0) (hellos : List Told) (address : Name) (told : Told) → latest hellos address ≡ Some told → AllByRecursion P hellos → P told
latest_in P [] address told is h = absurd cc
latest_in P (x ∷ hellos) address told is h = by (latest hellos address) refl is (λ (other : Told) e. latest_in P hellos address other e h.1)
  where
    one : (named : Bool) → (if named then Some x else None) ≡ Some told → P told
    one true e = let same : x ≡ told = cc in subst P same h.0
    one false e = absurd cc

    by : (found : Option Told) → latest hellos address ≡ found → or_this found x address ≡ Some told → ((other : Told) → latest hellos address ≡ Some other → P other) → P told
    by None found e later = one (is_among x.names address) e
    by (Some other) found e later = let same : other ≡ told = cc in subst P same (later other found)

-- a row that stays
among_filter : (p : Row → Bool) (rows : List Row) (address : Name) → is_among (addresses (filter p rows)) address ≡ true
    → (row : Row) × Contains rows row × (p row ≡ true) × (row.address ≡ address)
among_filter p [] address h = absurd cc
among_filter p (x ∷ rows) address h = by (p x) refl h (among_filter p rows address)
  where
    behind : (row : Row) × Contains rows row × (p row ≡ true) × (row.address ≡ address) → (row : Row) × Contains (x ∷ rows) row × (p row ≡ true) × (row.address ≡ address)
    behind k = (k.0, Contains-append_right (x ∷ []) rows k.0 k.1, k.2, k.3)

    here : (same : Bool) → pointwise nat_eq x.address address ≡ same → p x ≡ true → (same || is_among (addresses (filter p rows)) address) ≡ true
        → (is_among (addresses (filter p rows)) address ≡ true → (row : Row) × Contains rows row × (p row ≡ true) × (row.address ≡ address))
        → (row : Row) × Contains (x ∷ rows) row × (p row ≡ true) × (row.address ≡ address)
    here true same passes k rest = (x, Contains-append_left (x ∷ []) rows x (Contains-push [] x), passes, same_text x.address address (sym same))
    here false same passes k rest = behind (rest k)

    by : (passes : Bool) → p x ≡ passes → is_among (addresses (cond passes (x ∷ filter p rows) (filter p rows))) address ≡ true
        → (is_among (addresses (filter p rows)) address ≡ true → (row : Row) × Contains rows row × (p row ≡ true) × (row.address ≡ address))
        → (row : Row) × Contains (x ∷ rows) row × (p row ≡ true) × (row.address ≡ address)
    by true passes k rest = here (pointwise nat_eq x.address address) refl passes k rest
    by false passes k rest = behind (rest k)

row_known : (row : Row) (now : ℕ) (told : Told) → row.heard ≡ heard_of told → is_row_known now row ≡ is_known told now
row_known row now told is = ap (λ (x : Heard). nat_lt now (x.tick + x.ticks)) is

row_stands : (row : Row) (now : ℕ) (found : Option Told) → IsRowOf row found → is_row_known now row ≡ true → is_standing now found ≡ true
row_stands row now None h known = absurd h
row_stands row now (Some told) h known = or_left (is_known told now) (told.tick == now) (sym (row_known row now told h) ∙ known)

module _ (table : Rows) (hellos : List Told) (since now : ℕ) (later : since < now) (h : IsSwept table hellos since) where
  stays : (address : Name) → has_row (swept_table table now).rows address ≡ true → has_standing hellos now address ≡ true
  stays address there =
      let k = among_filter (is_row_known now) table.rows address there in
      let of : IsRowOf k.0 (latest hellos k.0.address) = All-contains (λ row. IsRowOf row (latest hellos row.address)) table.rows k.0 h.stands.rows k.1 in
      ap (has_standing hellos now) (sym k.3) ∙ row_stands k.0 now (latest hellos k.0.address) of k.2

  not_yet : (told : Told) → told.tick ≤ since → is_standing now (Some told) ≡ true → is_known told now ≡ true
  not_yet told before is =
      let past : (told.tick == now) ≡ false = grind (arith, before, later) in
      sym (or-false (is_known told now)) ∙ ap (λ (b : Bool). is_known told now || b) (sym past) ∙ is

  had_row : (address : Name) (told : Told) → latest hellos address ≡ Some told → is_known told now ≡ true → (found : Option Row) → row_at table.rows address ≡ found
      → has_row (swept_table table now).rows address ≡ true
  had_row address told is known None none =
      let hop : find_row table.rows now address ≡ known_hop hellos now address = find_stands table hellos since now address (omega (arith, later)) h.stands in
      let lost : known_hop hellos now address ≡ None = sym hop ∙ no_hop none in
      let made : known_hop hellos now address ≡ Some told.hop = ap (known_of now) is ∙ ap (λ (b : Bool). if b then Some told.hop else None) known in
      absurd (cc (sym lost ∙ made))
    where
      no_hop : row_at table.rows address ≡ None → find_row table.rows now address ≡ None
      no_hop e = rw e refl
  had_row address told is known (Some row) there =
      let k : Contains table.rows row × (row.address ≡ address) = found_row table.rows address row there in
      let of : IsRowOf row (latest hellos row.address) = All-contains (λ row. IsRowOf row (latest hellos row.address)) table.rows row h.stands.rows k.0 in
      let holds : IsRowOf row (Some told) = subst (IsRowOf row) (ap (latest hellos) k.1 ∙ is) of in
      ap (has_row (swept_table table now).rows) (sym k.1) ∙ kept_row (is_row_known now) row table.rows (row_known row now told holds ∙ known) k.0

  had : (address : Name) → has_standing hellos now address ≡ true → has_row (swept_table table now).rows address ≡ true
  had address standing = by (latest hellos address) refl standing
    where
      by : (found : Option Told) → latest hellos address ≡ found → is_standing now found ≡ true → has_row (swept_table table now).rows address ≡ true
      by None is k = absurd cc
      by (Some told) is k =
          let before : told.tick ≤ since = latest_in (λ other. other.tick ≤ since) hellos address told is h.so_far in
          had_row address told is (not_yet told before k) (row_at table.rows address) refl

  no_later : (told : List Told) → AllByRecursion (λ other. other.tick ≤ since) told → AllByRecursion (λ other. other.tick ≤ now) told
  no_later [] k = tt
  no_later (x ∷ told) k = (omega (arith, later, k.0), no_later told k.1)

  ticked : IsSwept (swept_table table now) hellos now
  ticked = record {
    so_far = no_later hellos h.so_far;
    stands = tick_stands table now hellos since (omega (arith, later)) h.stands;
    exactly = λ address. same_bool (has_row (swept_table table now).rows address) (has_standing hellos now address) (stays address) (had address);
  }

pub stays_swept : StaysSwept
stays_swept = record {
  none = λ now. record { so_far = tt; stands = record { rows = All-nil (λ row. IsRowOf row None); others = λ address none later low. refl }; exactly = λ address. refl };
  heard = heard;
  ticked = ticked;
}

-- ---- how many
-- the members without one
pub record Without (xs : List Name) (name : Name) : Type 0 where
  pub rest : List Name
  pub long : length xs ≡ suc (length rest)
  pub others : (other : Name) → pointwise nat_eq name other ≡ false → is_among xs other ≡ true → is_among rest other ≡ true

without : (xs : List Name) (name : Name) → is_among xs name ≡ true → Without xs name
without [] name h = absurd cc
without (x ∷ xs) name h = by (pointwise nat_eq x name) refl h (without xs name)
  where
    other_one : (same : Bool) (other : Name) → pointwise nat_eq x name ≡ true → pointwise nat_eq name other ≡ false → pointwise nat_eq x other ≡ same
        → (same || is_among xs other) ≡ true → is_among xs other ≡ true
    other_one true other is differ same k = absurd (clash (ap (λ (y : Name). pointwise nat_eq y other) (sym (same_text x name (sym is))) ∙ same) differ)
    other_one false other is differ same k = k

    later : (same : Bool) (w : Without xs name) (other : Name) → pointwise nat_eq name other ≡ false → pointwise nat_eq x other ≡ same
        → (same || is_among xs other) ≡ true → is_among (x ∷ w.rest) other ≡ true
    later true w other differ same k = or_left (pointwise nat_eq x other) (is_among w.rest other) same
    later false w other differ same k = or_right (pointwise nat_eq x other) (is_among w.rest other) (w.others other differ k)

    by : (same : Bool) → pointwise nat_eq x name ≡ same → (same || is_among xs name) ≡ true → (is_among xs name ≡ true → Without xs name) → Without (x ∷ xs) name
    by true same k rest =
        record { rest = xs; long = refl; others = λ other differ there. other_one (pointwise nat_eq x other) other same differ refl there }
    by false same k rest =
        let w = rest k in
        record { rest = x ∷ w.rest; long = ap suc w.long; others = λ other differ there. later (pointwise nat_eq x other) w other differ refl there }

no_more : (xs ys : List Name) → AreDistinct xs → ((name : Name) → is_among xs name ≡ true → is_among ys name ≡ true) → length xs ≤ length ys
no_more [] ys distinct all = omega arith
no_more (x ∷ xs) ys distinct all =
    let w = without ys x (all x (or_left (pointwise nat_eq x x) (is_among xs x) (nat_list_eq_equiv.refl x))) in
    let rest = no_more xs w.rest distinct.1 (λ name there. w.others name (differs name there (pointwise nat_eq x name) refl)
    (all name (or_right (pointwise nat_eq x name) (is_among xs name) there))) in
    omega (arith, rest, w.long)
  where
    differs : (name : Name) → is_among xs name ≡ true → (same : Bool) → pointwise nat_eq x name ≡ same → same ≡ false
    differs name there true same = absurd (clash (ap (is_among xs) (same_text x name (sym same)) ∙ there) distinct.0)
    differs name there false same = refl

same_length : (xs ys : List Name) → AreDistinct xs → AreDistinct ys → ((name : Name) → is_among xs name ≡ is_among ys name) → length xs ≡ length ys
same_length xs ys one two all =
    let up = no_more xs ys one (λ name there. sym (all name) ∙ there) in
    let down = no_more ys xs two (λ name there. all name ∙ there) in
    omega (arith, up, down)

-- the new names are told by what is among the others
same_new : (there others names : List Name) → ((name : Name) → is_among there name ≡ is_among others name) → new_names there names ≡ new_names others names
same_new there others [] all = refl
same_new there others (x ∷ names) all =
    ap (λ (b : Bool). if b then new_names there names else x ∷ new_names (there ++ x ∷ []) names) (all x)
    ∙ by (is_among others x) (same_new there others names all) (same_new (there ++ x ∷ []) (others ++ x ∷ []) names (λ name.
    is_among-append there (x ∷ []) name ∙ ap (λ (b : Bool). b || is_among (x ∷ []) name) (all name) ∙ sym (is_among-append others (x ∷ []) name)))
  where
    by : (known : Bool) → new_names there names ≡ new_names others names → new_names (there ++ x ∷ []) names ≡ new_names (others ++ x ∷ []) names
        → (if known then new_names there names else x ∷ new_names (there ++ x ∷ []) names) ≡ (if known then new_names others names else x ∷ new_names (others ++ x ∷ []) names)
    by true here later = here
    by false here later = ap (λ (xs : List Name). x ∷ xs) later

-- names that differ, and their new names
new_distinct : (there names : List Name) → AreDistinct there → AreDistinct (there ++ new_names there names)
new_distinct there [] distinct = subst AreDistinct (sym (append-nil there)) distinct
new_distinct there (x ∷ names) distinct = by (is_among there x) refl (new_distinct there names distinct) (new_distinct (there ++ x ∷ []) names)
  where
    by : (known : Bool) → is_among there x ≡ known → AreDistinct (there ++ new_names there names)
        → (AreDistinct (there ++ x ∷ []) → AreDistinct ((there ++ x ∷ []) ++ new_names (there ++ x ∷ []) names))
        → AreDistinct (there ++ (if known then new_names there names else x ∷ new_names (there ++ x ∷ []) names))
    by true is here later = here
    by false is here later = subst AreDistinct (append_assoc there (x ∷ []) (new_names (there ++ x ∷ []) names)) (later (distinct_push there x distinct is))

filter_among : (p : Name → Bool) (xs : List Name) (name : Name) → is_among (filter p xs) name ≡ true → (p name ≡ true) × (is_among xs name ≡ true)
filter_among p [] name h = absurd cc
filter_among p (x ∷ xs) name h = by (p x) refl h (filter_among p xs name)
  where
    here : (same : Bool) → pointwise nat_eq x name ≡ same → p x ≡ true → (same || is_among (filter p xs) name) ≡ true
        → (is_among (filter p xs) name ≡ true → (p name ≡ true) × (is_among xs name ≡ true)) → (p name ≡ true) × ((same || is_among xs name) ≡ true)
    here true same passes k rest = (ap p (sym (same_text x name (sym same))) ∙ passes, refl)
    here false same passes k rest = rest k

    by : (passes : Bool) → p x ≡ passes → is_among (cond passes (x ∷ filter p xs) (filter p xs)) name ≡ true
        → (is_among (filter p xs) name ≡ true → (p name ≡ true) × (is_among xs name ≡ true)) → (p name ≡ true) × (is_among (x ∷ xs) name ≡ true)
    by true passes k rest = here (pointwise nat_eq x name) refl passes k rest
    by false passes k rest = let r = rest k in (r.0, or_right (pointwise nat_eq x name) (is_among xs name) r.1)

among_kept : (p : Name → Bool) (xs : List Name) (name : Name) → p name ≡ true → is_among xs name ≡ true → is_among (filter p xs) name ≡ true
among_kept p [] name passes h = h
among_kept p (x ∷ xs) name passes h = by (p x) refl (pointwise nat_eq x name) refl h (among_kept p xs name passes)
  where
    by : (good : Bool) → p x ≡ good → (same : Bool) → pointwise nat_eq x name ≡ same → (same || is_among xs name) ≡ true
        → (is_among xs name ≡ true → is_among (filter p xs) name ≡ true) → is_among (cond good (x ∷ filter p xs) (filter p xs)) name ≡ true
    by true good true same k rest = or_left (pointwise nat_eq x name) (is_among (filter p xs) name) same
    by true good false same k rest = or_right (pointwise nat_eq x name) (is_among (filter p xs) name) (rest k)
    by false good true same k rest = absurd (clash (ap p (same_text x name (sym same)) ∙ passes) good)
    by false good false same k rest = rest k

filter_distinct : (p : Name → Bool) (xs : List Name) → AreDistinct xs → AreDistinct (filter p xs)
filter_distinct p [] h = tt
filter_distinct p (x ∷ xs) h = by (p x) (filter_distinct p xs h.1)
  where
    fresh : (there : Bool) → is_among (filter p xs) x ≡ there → there ≡ false
    fresh true is = absurd (clash (filter_among p xs x is).1 h.0)
    fresh false is = refl

    by : (passes : Bool) → AreDistinct (filter p xs) → AreDistinct (cond passes (x ∷ filter p xs) (filter p xs))
    by true rest = (fresh (is_among (filter p xs) x) refl, rest)
    by false rest = rest

-- an address with a latest hello is one of the names
named_there : (hellos : List Told) (address : Name) → is_among (names_in hellos) address ≡ false → latest hellos address ≡ None
named_there [] address none = refl
named_there (x ∷ hellos) address none =
    let parts : (is_among x.names address ≡ false) × (is_among (names_in hellos) address ≡ false) =
    or_parts (is_among x.names address) (is_among (names_in hellos) address) (sym (is_among-append x.names (names_in hellos) address) ∙ none) in
    ap (λ (found : Option Told). or_this found x address) (named_there hellos address parts.1) ∙ ap (λ (b : Bool). if b then Some x else None) parts.0

stands_once : (hellos : List Told) (now : ℕ) (address : Name) → is_among (standing hellos now) address ≡ has_standing hellos now address
stands_once hellos now address = same_bool (is_among (standing hellos now) address) (has_standing hellos now address)
    (λ there. (filter_among (has_standing hellos now) all address there).0)
    (λ is. among_kept (has_standing hellos now) all address is (new_there (is_among all address) refl is))
  where
    all : List Name
    all = new_names [] (names_in hellos)

    new_there : (there : Bool) → is_among (new_names [] (names_in hellos)) address ≡ there → has_standing hellos now address ≡ true → is_among (new_names [] (names_in hellos)) address ≡ true
    new_there true is k = is
    new_there false is k =
        let none : latest hellos address ≡ None = named_there hellos address (named_somewhere [] (names_in hellos) address refl is) in
        absurd (clash k (ap (is_standing now) none))

pub count_is_told : CountIsTold
count_is_told table hellos now told table_is h =
    let there : (name : Name) → is_among (addresses table.rows) name ≡ is_among (standing hellos now) name = λ name. h.exactly name ∙ sym (stands_once hellos now name) in
    let distinct : AreDistinct (standing hellos now) = filter_distinct (has_standing hellos now) (new_names [] (names_in hellos)) (new_distinct [] (names_in hellos) tt) in
    let rows : length (addresses table.rows) ≡ length (standing hellos now) = same_length (addresses table.rows) (standing hellos now) table_is.distinct distinct there in
    ap (λ (n : ℕ). n + length (new_names (addresses table.rows) told.names)) (sym (length-map table.rows (λ row. row.address)) ∙ rows)
    ∙ ap (λ (xs : List Name). length (standing hellos now) + length xs) (same_new (addresses table.rows) (standing hellos now) told.names there)

-- ---- what is found
least_of : (now : ℕ) (done rest : List Row) (least : Option Row) → IsLeastRouter done now least → (found : Option Row) × IsLeastRouter (done ++ rest) now found
least_of now done [] least h = (least, subst (λ (rows : List Row). IsLeastRouter rows now least) (sym (append-nil done)) h)
least_of now done (row ∷ rest) least h =
    let next = one_more now done least row (is_before row least) (is_router now row) refl refl h in
    let all = least_of now (done ++ row ∷ []) rest (if is_before row least && is_router now row then Some row else least) next in
    (all.0, subst (λ (rows : List Row). IsLeastRouter rows now all.0) (append_assoc done (row ∷ []) rest) all.1)

hop_of : (rows : List Row) (now : ℕ) (found : Option Row) → IsLeastRouter rows now found → IsRouterHop rows now (option_map (λ row. row.heard.hop) found)
hop_of rows now None h = h
hop_of rows now (Some row) h = (row, h, refl)

router_is : (rows : List Row) (now : ℕ) → AreDistinct (addresses rows) → IsRouterHop rows now (router_in rows now)
router_is rows now distinct =
    let least = least_of now [] rows None (All-nil (λ row. is_router now row ≡ false)) in
    let hop = option_map (λ (row : Row). row.heard.hop) least.0 in
    let is : IsRouterHop rows now hop = hop_of rows now least.0 least.1 in
    subst (IsRouterHop rows now) (same_router now rows hop distinct is) is

pub finds_what_is_told : FindsWhatIsTold
finds_what_is_told table hellos since now later is h =
    ((λ address. find_stands table hellos since now address later h), router_stands table hellos since now later h (router_in table.rows now) (router_is table.rows now is.distinct))

-- ---- tables
pub stays_table : StaysTable
stays_table = record {
  heard = λ table told is room. table_renewed told (rows_with table.rows told) (record {
    distinct = subst AreDistinct (sym (addresses-with table.rows told)) (new_distinct (addresses table.rows) told.names is.distinct);
    few = omega (arith, room, long-with table.rows told);
  });
  ticked = λ table now is. table_filter (is_row_known now) table.rows (filter (is_row_known now) table.rows) refl is;
}
