-- A table stands for the hellos heard. A hello more is the latest of the addresses that it names, and of no other; an address that
-- has no row after it had none before, and is not named.
use Rattle.std.proofs.Common.{◌≡◌, ℕ, ◌+◌, ◌≤◌, Bool, true, false, List, [], ◌∷◌, ◌++◌, Option, Some, None, refl, sym, ap, ◌∙◌, subst, arith, inl, inr}
use Rattle.std.specs.Prelude.{◌⊎◌, OnOk, Result, Ok, Err, cond, if◌then◌else◌, map, nat_eq, nat_lt}
use Rattle.std.specs.List.{Contains, filter, list_any}
use Rattle.std.specs.Cmp.Lexicographic.{pointwise, same_text, nat_list_eq_equiv}
use Rattle.std.proofs.lemmas.Bool.{and_from, and_parts, le-ltb, ltb-false, or_left, or_right, or_parts}
use Rattle.std.proofs.lemmas.List.Elements.{All-append, All-contains, All-filter, All-map, All-weaker}
use Rattle.osi_base.proofs.Firsts.{find_none, find_some}
use Rattle.osi_base.proofs.Members.{contains_cases}
use Rattle.nsap.specs.declared.port.Port.{Port}
use Rattle.nsap.specs.declared.port.Hop.{Hop}
use Rattle.esis_pdu.specs.declared.hello.Hello.{Hello}
use Rattle.esis_pdu.specs.declared.hello.Hello.TheVariants.{Esh, Ish, Rd}
use Rattle.esis_tables.specs.declared.address_table.HearRefusal.{HearRefusal}
use Rattle.esis_tables.specs.declared.holding_time.Row.{Row}
use Rattle.esis_tables.specs.Told.{IsKnownRouter, IsRouter, Told, is_among, is_upto, known_hop, known_of, latest, or_this, told_of}
use Rattle.esis_tables.specs.Rows.{Rows, addresses, find_row, has_row, heard_of, heard_table, hop_known, is_router, is_row_known}
use Rattle.esis_tables.specs.Rows.{is_title, new_names, renewed, row_at, row_of, rows_with, swept_table}
use Rattle.esis_tables.specs.Stands.{IsRowOf, Stands, StandsStill, StandsWith}
use Rattle.esis_tables.specs.steps.Least.{IsRouterHop}
use Rattle.esis_tables.proofs.Lists.{list_any-map}
use Rattle.esis_tables.proofs.Routers.{one_title}
use Rattle.esis_tables.proofs.Names.{is_among-append, named_somewhere, new_are_names}
use Rattle.esis_tables.proofs.Placing.{addresses-renewed, addresses-with}

-- the latest of the hellos and one more
latest-push : (hellos : List Told) (told : Told) (address : List ℕ)
    → latest (hellos ++ told ∷ []) address ≡ (if is_among told.names address then Some told else latest hellos address)
latest-push [] told address = refl
latest-push (first ∷ hellos) told address = ap (λ (found : Option Told). or_this found first address) (latest-push hellos told address)
    ∙ by (is_among told.names address)
  where
    by : (named : Bool) → or_this (if named then Some told else latest hellos address) first
        address ≡ (if named then Some told else or_this (latest hellos address) first address)
    by true = refl
    by false = refl

pub latest_named : (hellos : List Told) (told : Told) (address : List ℕ) (named : Bool) → is_among told.names address ≡ named
    → latest (hellos ++ told ∷ []) address ≡ (if named then Some told else latest hellos address)
latest_named hellos told address named is = latest-push hellos told address ∙ ap (λ (b : Bool). if b then Some told else latest hellos address) is

-- a row, once a hello more was heard
row_heard : (hellos : List Told) (told : Told) (row : Row) (named : Bool) → is_among told.names row.address ≡ named → IsRowOf row (latest hellos row.address)
    → IsRowOf (if named then record row { heard = heard_of told } else row)
    (latest (hellos ++ told ∷ []) (if named then record row { heard = heard_of told } else row).address)
row_heard hellos told row true is h = subst (IsRowOf (record row { heard = heard_of told })) (sym (latest_named hellos told row.address true is)) refl
row_heard hellos told row false is h = subst (IsRowOf row) (sym (latest_named hellos told row.address false is)) h

row_new : (hellos : List Told) (told : Told) (name : List ℕ) (named : Bool) → is_among told.names name ≡ named → named ≡ true
    → IsRowOf (if named then record (row_of told name) { heard = heard_of told } else row_of told name)
    (latest (hellos ++ told ∷ []) (if named then record (row_of told name) { heard = heard_of told } else row_of told name).address)
row_new hellos told name true is holds = subst (IsRowOf (row_of told name)) (sym (latest_named hellos told name true is)) refl
row_new hellos told name false is holds = absurd cc

pub hear_stands : (old : Rows) (told : Told) (hellos : List Told) (since : ℕ) → since ≤ told.tick → Stands old hellos since
    → Stands (heard_table old told) (hellos ++ told ∷ []) told.tick
hear_stands old told hellos since later h =
    let P : Row → Type 0 = λ row. IsRowOf row (latest (hellos ++ told ∷ []) row.address) in
    let Q : Row → Type 0 = λ row. IsRowOf (renewed told row) (latest (hellos ++ told ∷ []) (renewed told row).address) in
    let names : List (List ℕ) = new_names (addresses old.rows) told.names in
    record {
      rows = All-map P (renewed told) (rows_with old.rows told) (All-append Q old.rows (map (row_of told) names)
          (All-weaker (λ row. IsRowOf row (latest hellos row.address)) Q (λ row is. row_heard hellos told row (is_among told.names row.address) refl is)
          old.rows h.rows)
          (All-map Q (row_of told) names (All-weaker (λ name. is_among told.names name ≡ true) (λ name. Q (row_of told name))
          (λ name is. row_new hellos told name (is_among told.names name) refl is) names (new_are_names (addresses old.rows) told.names))));
      others = λ address none at low.
          let all : is_among (addresses old.rows ++ names) address ≡ false =
          ap (λ (xs : List (List ℕ)). is_among xs address) (sym (addresses-renewed told (rows_with old.rows told) ∙ addresses-with old.rows told)) ∙ none in
          let parts : (has_row old.rows address ≡ false) × (is_among names address ≡ false) =
          or_parts (has_row old.rows address) (is_among names address) (sym (is_among-append (addresses old.rows) names address) ∙ all) in
          let unnamed : is_among told.names address ≡ false = named_somewhere (addresses old.rows) told.names address parts.0 parts.1 in
          ap (known_of at) (latest_named hellos told address false unnamed) ∙ h.others address parts.0 at (omega arith);
    }

-- a row that holds what a hello told: its hop is known while the hello is
row_known : (row : Row) (now : ℕ) (found : Option Told) → IsRowOf row found → hop_known now (Some row) ≡ known_of now found
row_known row now None h = absurd h
row_known row now (Some told) h = λ i. if nat_lt now ((h i).tick + (h i).ticks) then Some (h i).hop else None

has_row-rows : (rows : List Row) (name : List ℕ) → has_row rows name ≡ list_any (λ row. pointwise nat_eq row.address name) rows
has_row-rows rows name = list_any-map (λ x. pointwise nat_eq x name) (λ row. row.address) rows

-- a row that is found is there, with that address
pub found_row : (rows : List Row) (address : List ℕ) (row : Row) → row_at rows address ≡ Some row → Contains rows row × (row.address ≡ address)
found_row rows address row is =
    let there : Contains rows row × (pointwise nat_eq row.address address ≡ true) = find_some (λ row. pointwise nat_eq row.address address) rows row is in
    (there.0, same_text row.address address (sym there.1))

pub find_stands : (table : Rows) (hellos : List Told) (since now : ℕ) (address : List ℕ) → since ≤ now → Stands table hellos since
    → find_row table.rows now address ≡ known_hop hellos now address
find_stands table hellos since now address later h = by (row_at table.rows address) refl
  where
    by : (found : Option Row) → row_at table.rows address ≡ found → hop_known now found ≡ known_hop hellos now address
    by None is = sym (h.others address (has_row-rows table.rows address ∙ find_none (λ row. pointwise nat_eq row.address address) table.rows is) now later)
    by (Some row) is =
        let there : Contains table.rows row × (row.address ≡ address) = found_row table.rows address row is in
        row_known row now (latest hellos row.address) (All-contains (λ row. IsRowOf row (latest hellos row.address)) table.rows row h.rows there.0)
        ∙ ap (known_hop hellos now) there.1

-- a row that passes a test is among those that do
kept_by : (p : Row → Bool) (row first : Row) (rows : List Row) (passes : Bool) → p first ≡ passes → p row ≡ true → (first ≡ row) ⊎ Contains rows row
    → (Contains rows row → is_among (addresses (filter p rows)) row.address ≡ true)
    → is_among (addresses (cond passes (first ∷ filter p rows) (filter p rows))) row.address ≡ true
kept_by p row first rows true is known (inl same) rest =
    or_left (pointwise nat_eq first.address row.address) (is_among (addresses (filter p rows)) row.address)
    (ap (λ (x : Row). pointwise nat_eq x.address row.address) same ∙ nat_list_eq_equiv.refl row.address)
kept_by p row first rows true is known (inr there) rest =
    or_right (pointwise nat_eq first.address row.address) (is_among (addresses (filter p rows)) row.address) (rest there)
kept_by p row first rows false is known (inl same) rest = let clash : true ≡ false = sym known ∙ ap p (sym same) ∙ is in absurd cc
kept_by p row first rows false is known (inr there) rest = rest there

pub kept_row : (p : Row → Bool) (row : Row) (rows : List Row) → p row ≡ true → Contains rows row → is_among (addresses (filter p rows)) row.address ≡ true
kept_row p row [] known there = absurd (omega (arith, there.1))
kept_row p row (first ∷ rows) known there = kept_by p row first rows (p first) refl known (contains_cases first rows row there) (kept_row p row rows known)

-- what is not known at a tick is not known later
past_row : (row : Row) (now later : ℕ) → now ≤ later → is_row_known now row ≡ false → hop_known later (Some row) ≡ None
past_row row now later after not =
    let over : row.heard.tick + row.heard.ticks ≤ now = ltb-false now (row.heard.tick + row.heard.ticks) not in
    let past : is_row_known later row ≡ false = le-ltb later (row.heard.tick + row.heard.ticks) (omega arith) in
    ap (λ (b : Bool). if b then Some row.heard.hop else None) past

pub tick_stands : (old : Rows) (now : ℕ) (hellos : List Told) (since : ℕ) → since ≤ now → Stands old hellos since → Stands (swept_table old now) hellos now
tick_stands old now hellos since later h = record {
  rows = All-filter (is_row_known now) (λ row. IsRowOf row (latest hellos row.address)) old.rows h.rows;
  others = λ address none at low. by address none at low (row_at old.rows address) refl;
}
  where
    gone : (row : Row) (known : Bool) → is_row_known now row ≡ known → Contains old.rows row → has_row (filter (is_row_known now) old.rows) row.address ≡ false
        → known ≡ false
    gone row true is there none = let clash : true ≡ false = sym (kept_row (is_row_known now) row old.rows is there) ∙ none in absurd cc
    gone row false is there none = refl

    by : (address : List ℕ) → has_row (filter (is_row_known now) old.rows) address ≡ false → (at : ℕ) → now ≤ at → (found : Option Row)
        → row_at old.rows address ≡ found → known_hop hellos at address ≡ None
    by address none at low None is = h.others address (has_row-rows old.rows address ∙ find_none (λ row. pointwise nat_eq row.address address) old.rows is) at
        (omega arith)
    by address none at low (Some row) is =
        let there : Contains old.rows row × (row.address ≡ address) = found_row old.rows address row is in
        let past : is_row_known now row ≡ false = gone row (is_row_known now row) refl there.0 (ap (has_row (filter (is_row_known now) old.rows)) there.1
        ∙ none) in
        ap (known_hop hellos at) (sym there.1) ∙ sym (row_known row at (latest hellos row.address)
        (All-contains (λ row. IsRowOf row (latest hellos row.address)) old.rows row h.rows there.0)) ∙ past_row row now at low past

-- the title of a router's row is its address
titled : (row : Row) (title : Option (List ℕ)) → is_title title row.address ≡ true → title ≡ Some row.address
titled row None is = absurd cc
titled row (Some title) is = ap Some (same_text title row.address (sym is))

titled_back : (row : Row) (title : Option (List ℕ)) → title ≡ Some row.address → is_title title row.address ≡ true
titled_back row title is = ap (λ (found : Option (List ℕ)). is_title found row.address) is ∙ nat_list_eq_equiv.refl row.address

module _ (table : Rows) (hellos : List Told) (since now : ℕ) (later : since ≤ now) (h : Stands table hellos since) where
  -- a router's row is that of a router that the hellos make known
  router_told : (row : Row) → Contains table.rows row → is_router now row ≡ true → IsKnownRouter hellos now row.address row.heard.hop
  router_told row there router =
      let parts : (is_row_known now row ≡ true) × (is_title row.heard.hop.title row.address ≡ true) =
      and_parts (is_row_known now row) (is_title row.heard.hop.title row.address) router in
      let known : hop_known now (Some row) ≡ Some row.heard.hop = ap (λ (b : Bool). if b then Some row.heard.hop else None) parts.0 in (
        sym (row_known row now (latest hellos row.address) (All-contains (λ row. IsRowOf row (latest hellos row.address)) table.rows row h.rows there))
            ∙ known,
        titled row row.heard.hop.title parts.1,
      )

  known_by : (row : Row) (hop : Hop) (known : Bool) → is_row_known now row ≡ known → (if known then Some row.heard.hop else None) ≡ Some hop
      → (is_row_known now row ≡ true) × (row.heard.hop ≡ hop)
  known_by row hop true is some = (is, cc)
  known_by row hop false is some = absurd cc

  -- a router that the hellos make known has a row
  router_row : (title : List ℕ) (hop : Hop) → IsKnownRouter hellos now title hop
      → (row : Row) × Contains table.rows row × (row.address ≡ title) × (is_router now row ≡ true)
  router_row title hop known = by (row_at table.rows title) refl (find_stands table hellos since now title later h ∙ known.0)
    where
      by : (found : Option Row) → row_at table.rows title ≡ found → hop_known now found ≡ Some hop
          → (row : Row) × Contains table.rows row × (row.address ≡ title) × (is_router now row ≡ true)
      by None is some = absurd cc
      by (Some row) is some =
          let there : Contains table.rows row × (row.address ≡ title) = found_row table.rows title row is in
          let parts : (is_row_known now row ≡ true) × (row.heard.hop ≡ hop) = known_by row hop (is_row_known now row) refl some in
          let named : row.heard.hop.title ≡ Some row.address = ap (λ (x : Hop). x.title) parts.1 ∙ known.1 ∙ ap Some (sym there.1) in (
            row,
            there.0,
            there.1,
            and_from (is_row_known now row) (is_title row.heard.hop.title row.address) parts.0
                (titled_back row row.heard.hop.title named),
          )

  pub router_stands : (result : Option Hop) → IsRouterHop table.rows now result → IsRouter hellos now result
  router_stands None none = λ title hop known.
      let found : (row : Row) × Contains table.rows row × (row.address ≡ title) × (is_router now row ≡ true) = router_row title hop known in
      let clash : true ≡ false = sym found.3 ∙ All-contains (λ row. is_router now row ≡ false) table.rows found.0 none found.1 in cc
  router_stands (Some hop) least =
      let row : Row = least.0 in
      let told : IsKnownRouter hellos now row.address row.heard.hop = router_told row least.1.stands least.1.router in (
        row.address,
        subst (IsKnownRouter hellos now row.address) (sym least.2) told,
        λ other another known.
            let found : (row : Row) × Contains table.rows row × (row.address ≡ other) × (is_router now row ≡ true) = router_row other another known in
            subst (λ (title : List ℕ). is_upto row.address title ≡ true) found.2
            (All-contains (λ x. is_router now x ≡ true → is_upto row.address x.address ≡ true) table.rows found.0 least.1.least found.1 found.3),
      )

-- the clauses of the calls, from what they make of the rows
pub found_stands : (table : Rows) (now : ℕ) (address : List ℕ) (result : Option Hop) → table.clock ≤ now → result ≡ find_row table.rows now address
    → (hellos : List Told) → Stands table hellos table.clock → result ≡ known_hop hellos now address
found_stands table now address result later is hellos h = is ∙ find_stands table hellos table.clock now address later h

pub tick_told : (now : ℕ) (from : Port) (hello : Hello) → (told_of now from hello).tick ≡ now
tick_told now from (Esh hold addresses) = refl
tick_told now from (Ish hold title) = refl
tick_told now from (Rd hold address snpa title) = refl

pub heard_stands : (old new : Rows) (now : ℕ) (from : Port) (hello : Hello) (result : Result (Unit {0}) HearRefusal) → old.clock ≤ now
    → OnOk result (new ≡ heard_table old (told_of now from hello))
    → OnOk result (StandsWith old (told_of now from hello) new)
heard_stands old new now from hello (Ok done) later is = λ hellos h.
    subst (λ (table : Rows). Stands table (hellos ++ told_of now from hello ∷ []) table.clock) (sym is)
    (hear_stands old (told_of now from hello) hellos old.clock (subst (λ (at : ℕ). old.clock ≤ at) (sym (tick_told now from hello)) later) h)
heard_stands old new now from hello (Err refusal) later is = tt

pub swept_stands : (old new : Rows) (now : ℕ) → old.clock ≤ now → new ≡ swept_table old now → StandsStill old new
swept_stands old new now later is = λ hellos h. subst (λ (table : Rows). Stands table hellos table.clock) (sym is) (tick_stands old now hellos old.clock later h)

-- an address that has no row once a hello was heard is not one that it names
unnamed : (table : Rows) (told : Told) (name : List ℕ) → has_row (heard_table table told).rows name ≡ false → is_among told.names name ≡ false
unnamed table told name none =
    let names : List (List ℕ) = new_names (addresses table.rows) told.names in
    let all : is_among (addresses table.rows ++ names) name ≡ false =
    ap (λ (xs : List (List ℕ)). is_among xs name) (sym (addresses-renewed told (rows_with table.rows told) ∙ addresses-with table.rows told)) ∙ none in
    let parts : (has_row table.rows name ≡ false) × (is_among names name ≡ false) =
    or_parts (has_row table.rows name) (is_among names name) (sym (is_among-append (addresses table.rows) names name) ∙ all) in
    named_somewhere (addresses table.rows) told.names name parts.0 parts.1

pub rows_of_names : (table : Rows) (told : Told) (name : List ℕ) → is_among told.names name ≡ true → has_row (heard_table table told).rows name ≡ true
rows_of_names table told name named = by (has_row (heard_table table told).rows name) refl
  where
    by : (there : Bool) → has_row (heard_table table told).rows name ≡ there → there ≡ true
    by true is = refl
    by false is = let clash : true ≡ false = sym named ∙ unnamed table told name is in absurd cc

-- two least titles are one, and the hellos make one hop known for it
pub same_routers : (hellos : List Told) (now : ℕ) (first second : Option Hop) → IsRouter hellos now first → IsRouter hellos now second → first ≡ second
same_routers hellos now None None one two = refl
same_routers hellos now None (Some hop) one two = absurd (one two.0 hop two.1)
same_routers hellos now (Some hop) None one two = absurd (two one.0 hop one.1)
same_routers hellos now (Some hop) (Some other) one two =
    let title : one.0 ≡ two.0 = one_title one.0 two.0 (one.2 two.0 other two.1) (two.2 one.0 hop one.1) in
    sym one.1.0 ∙ ap (known_hop hellos now) title ∙ two.1.0
