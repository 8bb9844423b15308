-- After a set-up line the names and the set-up know the same again, and a line that was read is one that the network has.
use Rattle.std.proofs.Common.{◌≡◌, ◌==◌, ◌⊎◌, ℕ, zero, suc, ◌<◌, ◌≤◌, Bool, true, false, List, [], ◌∷◌, ◌++◌, length, map, Option, Some, None, Ok, inl, inr, refl, sym, ◌∙◌, ap, subst, arith, length-append, ◌||◌}
use Rattle.std.specs.Prelude.{◌||◌, if◌then◌else◌, nat_eq, nat_lt, not, slice_get, slice_set, IsSome, option_map}
use Rattle.std.specs.List.{AllByRecursion, list_any}
use Rattle.std.specs.Cmp.Lexicographic.{pointwise, slice_cmp}
use Rattle.std.specs.Ordering.{is_eq, match_ordering, nat_cmp}
use Rattle.std.specs.declared.cmp.Ordering.{Ordering}
use Rattle.std.specs.declared.cmp.Ordering.TheVariants.{Less, Equal, Greater}
use Rattle.std.proofs.lemmas.Bool.{ltb-false}
use Rattle.std.proofs.lemmas.Bool.Decides.{nat_tests}
use Rattle.std.proofs.lemmas.Map.Text.{is_eq-slice_cmp}
use Rattle.std.proofs.Math.Seq.{map-set_same}
use Rattle.std.proofs.lemmas.List.{append-nil, map-append}
use Rattle.std.proofs.lemmas.Option.{get_or_from_slice_get}
use Rattle.nsap.specs.declared.port.Hop.{Hop}
use Rattle.nsap.specs.declared.port.Port.{Port}
use Rattle.lan_step.specs.declared.row.Lan.{Lan}
use Rattle.lan_step.specs.declared.row.PortRow.{PortRow}
use Rattle.clnp_route.specs.declared.table.RouteRow.{RouteRow}
use Rattle.script_lines.specs.declared.cause.LineCause.TheVariants as causes
use Rattle.script_lines.specs.declared.words.FieldKind.TheVariants as forms
use Rattle.script_lines.specs.declared.words.NameKind.TheVariants as named
use Rattle.script_lines.specs.declared.words.WordKind.TheVariants as plain
use Rattle.script_lines.specs.declared.words.Word.{Word}
use Rattle.script_lines.specs.declared.words.Word.TheVariants as words
use Rattle.script_lines.specs.declared.line.Line.{Line}
use Rattle.script_lines.specs.declared.line.Line.TheVariants as lines
use Rattle.script_lines.specs.declared.field_values.FieldValues.{FieldValues}
use Rattle.script_lines.specs.declared.settings.Key.{Key}
use Rattle.script_lines.specs.declared.settings.Key.TheVariants as keys
use Rattle.script_lines.specs.declared.system.LanRow.{LanRow}
use Rattle.script_lines.specs.Grammar.{Reading, life_cause, count_fault, fields_read, is_out_of_order, limit_cause, next_number, line_for, line_read, new_port, new_system, declared_by}
use Rattle.script_lines.specs.Known.{Declared, KnownSystem, no_parts, given_title, given_station, given_prefix, is_among, ports_of, selectors_of, with, with_changed, changed}
use Rattle.script_lines.specs.Names.{NamesDeclared}
use Rattle.script_lines.specs.Settings.{setting_or, with_setting}
use Rattle.script_lines.specs.Table.{row_of}
use Rattle.script_lines.proofs.LineNames.{line_named}
use Rattle.script_lines.proofs.Places.{both as both_true}
use Rattle.tp4_entity.specs.Association.{is_registered}
use Rattle.law_clnp_net.proofs.Addresses.{turned}
use Rattle.script_setup.specs.SetUp.{System, SetUp, end_at, hop_to, hop_title, port_on, routed, selected, selectors_at, selectors_of as registered_of, with_route, with_selector, with_time, set_up}
use Rattle.law_setup.specs.Agreeing.{AreOne, Shape, shape_of, known_shape}
use Rattle.script_bench.specs.steps.Came.{Came, Idle, Worded, came}
use Rattle.script_setup.specs.Fitting.{IsWell}
use Rattle.law_setup.specs.Lines.{Kept, RunsAt}
use Rattle.script_setup.proofs.Elements.{There, none_pass, there, set_keeps}
use Rattle.law_setup.proofs.Fields.{agreed_size, all_fine}
use Rattle.law_setup.proofs.Fitted.{as_many, path_fits, port_fits, relay_fits, route_fits, selector_fits, title_fits}
use Rattle.script_setup.proofs.Ports.{number_is, numbers_differ, own_is, own_none, own_port, ports_push}
use Rattle.law_setup.proofs.Relays.{relay_values, send_values}
use Rattle.law_setup.proofs.Values.{lan_values, path_values, port_values, route_values, selector_values, set_values, title_values}
use Rattle.script_setup.proofs.Wellness.{made_hop, with_one, with_row}

-- ---- one more of each

lan_one : (names : Declared) (setup : SetUp) (parts : FieldValues) (number room : ℕ) → AreOne names setup
    → AreOne (declared_by names (row_of words.Lan).effect parts) (set_up setup (lines.Lan number parts.number room))
lan_one names setup parts number room one = record {
  lans = let same = one.lans in omega (arith, length-append setup.lans (record { bound = parts.number; room = room } ∷ []), length-append names.lans (record { name = parts.name; bound = parts.number } ∷ []));
  bounds = map-append (λ (l : Lan). l.bound) setup.lans (record { bound = parts.number; room = room } ∷ []) ∙ ap (λ (bounds : List ℕ). bounds ++ parts.number ∷ []) one.bounds
      ∙ sym (map-append (λ (l : LanRow). l.bound) names.lans (record { name = parts.name; bound = parts.number } ∷ []));
  life = one.life;
  systems = one.systems;
  ports = one.ports;
  selectors = one.selectors;
}

no_port_more : (systems : List KnownSystem) (end : Bool) (parts : FieldValues) (n : ℕ) → ports_of (slice_get (systems ++ new_system end parts ∷ []) n) ≡ ports_of (slice_get systems n)
no_port_more [] end parts zero = refl
no_port_more [] end parts (suc n) = refl
no_port_more (system ∷ systems) end parts zero = refl
no_port_more (system ∷ systems) end parts (suc n) = no_port_more systems end parts n

no_selector_more : (systems : List KnownSystem) (end : Bool) (parts : FieldValues) (n : ℕ) → selectors_of (slice_get (systems ++ new_system end parts ∷ []) n) ≡ selectors_of (slice_get systems n)
no_selector_more [] end parts zero = refl
no_selector_more [] end parts (suc n) = refl
no_selector_more (system ∷ systems) end parts zero = refl
no_selector_more (system ∷ systems) end parts (suc n) = no_selector_more systems end parts n

none_registered : (systems : List System) (end : Bool) (title : List ℕ) (n : ℕ) → selectors_at (systems ++ record { end = end; title = title; rows = []; selectors = [] } ∷ []) n ≡ selectors_at systems n
none_registered [] end title zero = refl
none_registered [] end title (suc n) = refl
none_registered (system ∷ systems) end title zero = refl
none_registered (system ∷ systems) end title (suc n) = none_registered systems end title n

system_one : (names : Declared) (setup : SetUp) (end : Bool) (parts : FieldValues) → AreOne names setup
    → AreOne (record names { systems = names.systems ++ new_system end parts ∷ [] }) (record setup { systems = setup.systems ++ record { end = end; title = (given_title parts); rows = []; selectors = [] } ∷ [] })
system_one names setup end parts one = record {
  lans = one.lans;
  bounds = one.bounds;
  life = one.life;
  systems = map-append shape_of setup.systems (record { end = end; title = (given_title parts); rows = []; selectors = [] } ∷ [])
      ∙ ap (λ (shapes : List Shape). shapes ++ record { end = end; title = (given_title parts); routes = [] } ∷ []) one.systems
      ∙ sym (map-append known_shape names.systems (new_system end parts ∷ []));
  ports = λ n. one.ports n ∙ sym (no_port_more names.systems end parts n);
  selectors = λ n s. ap (λ (all : List (List ℕ)). is_registered all s) (none_registered setup.systems end (given_title parts) n) ∙ one.selectors n s
      ∙ sym (ap (λ (all : List (List ℕ)). is_among all s) (no_selector_more names.systems end parts n));
}

-- ---- a port

same_or_not : (m n : ℕ) → (m ≡ n) ⊎ (m ≡ n → ⊥)
same_or_not m n = by (m == n) refl
  where
    by : (b : Bool) → (m == n) ≡ b → (m ≡ n) ⊎ (m ≡ n → ⊥)
    by true is = inl (number_is m n is)
    by false is = inr (numbers_differ m n is)

get_same : {A : Type 0} (xs : List A) (i : ℕ) (x y : A) → slice_get xs i ≡ Some x → slice_get (slice_set xs i y) i ≡ Some y
get_same [] i x y is = absurd (cc)
get_same (z ∷ xs) zero x y is = refl
get_same (z ∷ xs) (suc i) x y is = get_same xs i x y is

get_other : {A : Type 0} (xs : List A) (i n : ℕ) (y : A) → (i ≡ n → ⊥) → slice_get (slice_set xs i y) n ≡ slice_get xs n
get_other [] i n y differ = refl
get_other (z ∷ xs) zero zero y differ = absurd (differ refl)
get_other (z ∷ xs) zero (suc n) y differ = refl
get_other (z ∷ xs) (suc i) zero y differ = refl
get_other (z ∷ xs) (suc i) (suc n) y differ = get_other xs i n y (λ same. differ (ap (λ (k : ℕ). suc k) same))

abbrev with_port : KnownSystem → Port → KnownSystem
with_port system port = record system { ports = system.ports ++ port ∷ [] }

module _ (systems : List KnownSystem) (row : PortRow) (system : KnownSystem) (is : slice_get systems row.system ≡ Some system) where
  port_more : (n : ℕ) → ports_of (slice_get (slice_set systems row.system (with_port system row.port)) n) ≡ ports_of (slice_get systems n) ++ own_port row n
  port_more n = elim (same_or_not row.system n) [
    | inl same ↦
        ap ports_of (subst (λ (k : ℕ). slice_get (slice_set systems row.system (with_port system row.port)) k ≡ Some (with_port system row.port)) same
        (get_same systems row.system system (with_port system row.port) is))
        ∙ sym (ap (λ (found : Option KnownSystem). ports_of found ++ own_port row n) (subst (λ (k : ℕ). slice_get systems k ≡ Some system) same is)
        ∙ ap (λ (ports : List Port). system.ports ++ ports) (own_is row n same))
    | inr differ ↦
        ap ports_of (get_other systems row.system n (with_port system row.port) differ)
        ∙ sym (ap (λ (ports : List Port). ports_of (slice_get systems n) ++ ports) (own_none row n differ) ∙ append-nil (ports_of (slice_get systems n)))
  ]

port_one : (names : Declared) (setup : SetUp) (parts : FieldValues) → AreOne names setup → parts.system < length names.systems
    → AreOne (declared_by names (row_of words.Port).effect parts) (set_up setup (lines.Port parts.system parts.lan (given_station parts)))
port_one names setup parts one known =
    let row : PortRow = record { system = parts.system; end = end_at setup.systems parts.system; port = new_port parts } in
    let at : There names.systems parts.system = there names.systems parts.system known in
    let change : KnownSystem → KnownSystem = λ (system : KnownSystem). record system { ports = system.ports ++ new_port parts ∷ [] } in
    let is : changed names.systems parts.system change ≡ slice_set names.systems parts.system (with_port at.elem row.port) = ap (with_changed names.systems parts.system change) at.is in
    record {
      lans = one.lans;
      bounds = one.bounds;
      life = one.life;
      systems = one.systems ∙ sym (ap (λ (s : List KnownSystem). map known_shape s) is
          ∙ map-set_same known_shape names.systems parts.system (with_port at.elem row.port) at.elem (ap known_shape (sym (get_or_from_slice_get names.systems parts.system at.elem at.elem at.is))));
      ports = λ n. ports_push setup.ports row n ∙ ap (λ (ports : List Port). ports ++ own_port row n) (one.ports n)
          ∙ sym (ap (λ (s : List KnownSystem). ports_of (slice_get s n)) is ∙ port_more names.systems row at.elem at.is n);
      selectors = λ n s. one.selectors n s ∙ sym (ap (λ (all : List (List ℕ)). is_among all s)
          (ap (λ (k : List KnownSystem). selectors_of (slice_get k n)) is ∙ set_keeps selectors_of names.systems parts.system at.elem (with_port at.elem row.port) at.is refl n));
    }

-- ---- a route

abbrev with_prefix : KnownSystem → List ℕ → KnownSystem
with_prefix system prefix = record system { routes = system.routes ++ prefix ∷ [] }

same_shape : (x : System) (y : KnownSystem) (row : RouteRow) → shape_of x ≡ known_shape y → shape_of (with_row x row) ≡ known_shape (with_prefix y row.prefix)
same_shape x y row same =
    ap (λ (routes : List (List ℕ)). record { end = x.end; title = x.title; routes = routes }) (map-append (λ (r : RouteRow). r.prefix) x.rows (row ∷ []))
    ∙ ap (λ (s : Shape). record s { routes = s.routes ++ row.prefix ∷ [] }) same

shapes_set : (xs : List System) (ys : List KnownSystem) (i : ℕ) (x : System) (y : KnownSystem) (row : RouteRow) → map shape_of xs ≡ map known_shape ys → slice_get xs i ≡ Some x → slice_get ys i ≡ Some y
    → map shape_of (slice_set xs i (with_row x row)) ≡ map known_shape (slice_set ys i (with_prefix y row.prefix))
shapes_set [] ys i x y row one is its = absurd (cc)
shapes_set (z ∷ xs) [] i x y row one is its = absurd (cc)
shapes_set (z ∷ xs) (w ∷ ys) zero x y row one is its =
    let first : shape_of z ≡ known_shape w = cc in
    let others : map shape_of xs ≡ map known_shape ys = cc in
    let left : z ≡ x = cc in
    let right : w ≡ y = cc in
    let same : shape_of x ≡ known_shape y = ap shape_of (sym left) ∙ first ∙ ap known_shape right in
    ap (λ (s : Shape). s ∷ map shape_of xs) (same_shape x y row same) ∙ ap (λ (shapes : List Shape). known_shape (with_prefix y row.prefix) ∷ shapes) others
shapes_set (z ∷ xs) (w ∷ ys) (suc i) x y row one is its =
    let first : shape_of z ≡ known_shape w = cc in
    let others : map shape_of xs ≡ map known_shape ys = cc in
    ap (λ (s : Shape). s ∷ map shape_of (slice_set xs i (with_row x row))) first
    ∙ ap (λ (shapes : List Shape). known_shape w ∷ shapes) (shapes_set xs ys i x y row others is its)

record HasHop (setup : SetUp) (next lan : ℕ) : Type 0 where
  hop : Hop
  is : hop_to setup next lan ≡ Some hop

has_hop : (setup : SetUp) (next lan : ℕ) → IsSome (port_on setup.ports next lan) → HasHop setup next lan
has_hop setup next lan some = by (port_on setup.ports next lan) refl some
  where
    by : (found : Option Port) → port_on setup.ports next lan ≡ found → IsSome found → HasHop setup next lan
    by None is some = absurd (cc)
    by (Some port) is some = record {
      hop = record { port = port; title = hop_title (slice_get setup.systems next) };
      is = ap (λ (found : Option Port). option_map (made_hop (hop_title (slice_get setup.systems next))) found) is;
    }

route_one : (names : Declared) (setup : SetUp) (parts : FieldValues) → AreOne names setup → parts.system < length names.systems → IsSome (port_on setup.ports parts.other parts.lan)
    → AreOne (declared_by names (row_of words.Route).effect parts) (set_up setup (lines.Route parts.system (given_prefix parts) parts.other parts.lan))
route_one names setup parts one known on =
    let hop : HasHop setup parts.other parts.lan = has_hop setup parts.other parts.lan on in
    let row : RouteRow = record { prefix = (given_prefix parts); hop = hop.hop } in
    let x : There setup.systems parts.system = there setup.systems parts.system (subst (λ (n : ℕ). parts.system < n) (sym (as_many names setup one)) known) in
    let y : There names.systems parts.system = there names.systems parts.system known in
    let change : KnownSystem → KnownSystem = λ (system : KnownSystem). record system { routes = system.routes ++ (given_prefix parts) ∷ [] } in
    let left : with_route setup.systems parts.system (given_prefix parts) (hop_to setup parts.other parts.lan) ≡ slice_set setup.systems parts.system (with_row x.elem row) =
    ap (with_route setup.systems parts.system (given_prefix parts)) hop.is ∙ ap (routed setup.systems parts.system (given_prefix parts) hop.hop) x.is in
    let right : changed names.systems parts.system change ≡ slice_set names.systems parts.system (with_prefix y.elem (given_prefix parts)) = ap (with_changed names.systems parts.system change) y.is in
    record {
      lans = one.lans;
      bounds = one.bounds;
      life = one.life;
      systems = ap (λ (s : List System). map shape_of s) left ∙ shapes_set setup.systems names.systems parts.system x.elem y.elem row one.systems x.is y.is
          ∙ sym (ap (λ (s : List KnownSystem). map known_shape s) right);
      ports = λ n. one.ports n ∙ sym (ap (λ (s : List KnownSystem). ports_of (slice_get s n)) right ∙ set_keeps ports_of names.systems parts.system y.elem (with_prefix y.elem (given_prefix parts)) y.is refl n);
      selectors = λ n s. ap (λ (all : List (List ℕ)). is_registered all s)
          (ap (λ (k : List System). selectors_at k n) left ∙ set_keeps registered_of setup.systems parts.system x.elem (with_row x.elem row) x.is refl n)
          ∙ one.selectors n s ∙ sym (ap (λ (all : List (List ℕ)). is_among all s)
          (ap (λ (k : List KnownSystem). selectors_of (slice_get k n)) right ∙ set_keeps selectors_of names.systems parts.system y.elem (with_prefix y.elem (given_prefix parts)) y.is refl n));
    }

-- ---- a selector

or_assoc : (a b c : Bool) → (a || (b || c)) ≡ ((a || b) || c)
or_assoc true b c = refl
or_assoc false b c = refl

or_turned : (a b : Bool) → (a || b) ≡ (b || a)
or_turned true true = refl
or_turned true false = refl
or_turned false true = refl
or_turned false false = refl

or_none : (a : Bool) → (a || false) ≡ a
or_none true = refl
or_none false = refl

-- one selector more is registered
registered_more : (selectors : List (List ℕ)) (selector other : List ℕ) → is_registered (selectors ++ selector ∷ []) other ≡ (is_registered selectors other || pointwise nat_eq selector other)
registered_more [] selector other = or_none (pointwise nat_eq selector other)
registered_more (first ∷ selectors) selector other =
    ap (λ (b : Bool). pointwise nat_eq first other || b) (registered_more selectors selector other) ∙ or_assoc (pointwise nat_eq first other) (is_registered selectors other) (pointwise nat_eq selector other)

or_again : (a b : Bool) → (a || b) ≡ ((a || b) || a)
or_again true b = refl
or_again false true = refl
or_again false false = refl

equal_octets : (a b : List ℕ) → pointwise nat_eq a b ≡ true → a ≡ b
equal_octets [] [] is = refl
equal_octets [] (y ∷ ys) is = absurd (cc)
equal_octets (x ∷ xs) [] is = absurd (cc)
equal_octets (x ∷ xs) (y ∷ ys) is =
    let parts = both_true (nat_eq x y) (pointwise nat_eq xs ys) is in
    let first : x ≡ y = grind (arith, nat_tests) in
    ap (λ (n : ℕ). n ∷ xs) first ∙ ap (λ (rest : List ℕ). y ∷ rest) (equal_octets xs ys parts.1)

-- and it is known, at its place in the order
known_more : (selectors : List (List ℕ)) (selector other : List ℕ) → is_among (with selectors selector) other ≡ (is_among selectors other || pointwise nat_eq selector other)
known_more [] selector other = or_none (pointwise nat_eq other selector) ∙ turned other selector
known_more (first ∷ selectors) selector other = by (slice_cmp nat_cmp selector first) refl (known_more selectors selector other)
  where
    by : (order : Ordering) → slice_cmp nat_cmp selector first ≡ order → is_among (with selectors selector) other ≡ (is_among selectors other || pointwise nat_eq selector other)
        → is_among (match_ordering order (selector ∷ first ∷ selectors) (first ∷ selectors) (first ∷ with selectors selector)) other
        ≡ ((pointwise nat_eq other first || is_among selectors other) || pointwise nat_eq selector other)
    by Less is rest =
        ap (λ (b : Bool). b || (pointwise nat_eq other first || is_among selectors other)) (turned other selector)
        ∙ or_turned (pointwise nat_eq selector other) (pointwise nat_eq other first || is_among selectors other)
    by Equal is rest =
        let here : selector ≡ first = equal_octets selector first (sym (is_eq-slice_cmp selector first) ∙ ap is_eq is) in
        let same : pointwise nat_eq other first ≡ pointwise nat_eq selector other = ap (λ (o : List ℕ). pointwise nat_eq other o) (sym here) ∙ turned other selector in
        or_again (pointwise nat_eq other first) (is_among selectors other) ∙ ap (λ (b : Bool). (pointwise nat_eq other first || is_among selectors other) || b) same
    by Greater is rest =
        ap (λ (b : Bool). pointwise nat_eq other first || b) rest ∙ or_assoc (pointwise nat_eq other first) (is_among selectors other) (pointwise nat_eq selector other)

abbrev with_known : KnownSystem → List ℕ → KnownSystem
with_known system selector = record system { selectors = with system.selectors selector }

selectors_set : (setup_selectors : List (List ℕ)) (known_selectors : List (List ℕ)) (selector other : List ℕ) → is_registered setup_selectors other ≡ is_among known_selectors other
    → is_registered (setup_selectors ++ selector ∷ []) other ≡ is_among (with known_selectors selector) other
selectors_set registered known selector other same =
    registered_more registered selector other ∙ ap (λ (b : Bool). b || pointwise nat_eq selector other) same ∙ sym (known_more known selector other)

-- both know the selectors of each system alike, after one more at one of them
module _ (xs : List System) (ys : List KnownSystem) (i : ℕ) (x : System) (y : KnownSystem) (selector : List ℕ) (x_is : slice_get xs i ≡ Some x) (y_is : slice_get ys i ≡ Some y)
    (alike : (n : ℕ) (other : List ℕ) → is_registered (selectors_at xs n) other ≡ is_among (selectors_of (slice_get ys n)) other) where
  own_alike : (other : List ℕ) → is_registered (selectors_at (slice_set xs i (with_one x selector)) i) other ≡ is_among (selectors_of (slice_get (slice_set ys i (with_known y selector)) i)) other
  own_alike other =
      let before : is_registered x.selectors other ≡ is_among y.selectors other =
      sym (ap (λ (found : Option System). is_registered (registered_of found) other) x_is) ∙ alike i other ∙ ap (λ (found : Option KnownSystem). is_among (selectors_of found) other) y_is in
      ap (λ (found : Option System). is_registered (registered_of found) other) (get_same xs i x (with_one x selector) x_is)
      ∙ selectors_set x.selectors y.selectors selector other before
      ∙ sym (ap (λ (found : Option KnownSystem). is_among (selectors_of found) other) (get_same ys i y (with_known y selector) y_is))

  still_alike : (n : ℕ) (other : List ℕ) → is_registered (selectors_at (slice_set xs i (with_one x selector)) n) other ≡ is_among (selectors_of (slice_get (slice_set ys i (with_known y selector)) n)) other
  still_alike n other = elim (same_or_not i n) [
    | inl here ↦ subst (λ (k : ℕ). is_registered (selectors_at (slice_set xs i (with_one x selector)) k) other ≡ is_among (selectors_of (slice_get (slice_set ys i (with_known y selector)) k)) other) here (own_alike other)
    | inr differ ↦
        ap (λ (found : Option System). is_registered (registered_of found) other) (get_other xs i n (with_one x selector) differ)
        ∙ alike n other
        ∙ sym (ap (λ (found : Option KnownSystem). is_among (selectors_of found) other) (get_other ys i n (with_known y selector) differ))
  ]

selector_one : (names : Declared) (setup : SetUp) (parts : FieldValues) → AreOne names setup → parts.system < length names.systems
    → AreOne (declared_by names (row_of words.Tsap).effect parts) (set_up setup (lines.Tsap parts.system parts.selector))
selector_one names setup parts one known =
    let x : There setup.systems parts.system = there setup.systems parts.system (subst (λ (n : ℕ). parts.system < n) (sym (as_many names setup one)) known) in
    let y : There names.systems parts.system = there names.systems parts.system known in
    let change : KnownSystem → KnownSystem = λ (system : KnownSystem). record system { selectors = with system.selectors parts.selector } in
    let left : with_selector setup.systems parts.system parts.selector ≡ slice_set setup.systems parts.system (with_one x.elem parts.selector) = ap (selected setup.systems parts.system parts.selector) x.is in
    let right : changed names.systems parts.system change ≡ slice_set names.systems parts.system (with_known y.elem parts.selector) = ap (with_changed names.systems parts.system change) y.is in
    record {
      lans = one.lans;
      bounds = one.bounds;
      life = one.life;
      systems = ap (λ (s : List System). map shape_of s) left
          ∙ map-set_same shape_of setup.systems parts.system (with_one x.elem parts.selector) x.elem (ap shape_of (sym (get_or_from_slice_get setup.systems parts.system x.elem x.elem x.is)))
          ∙ one.systems
          ∙ sym (ap (λ (s : List KnownSystem). map known_shape s) right
          ∙ map-set_same known_shape names.systems parts.system (with_known y.elem parts.selector) y.elem (ap known_shape (sym (get_or_from_slice_get names.systems parts.system y.elem y.elem y.is))));
      ports = λ n. one.ports n ∙ sym (ap (λ (s : List KnownSystem). ports_of (slice_get s n)) right ∙ set_keeps ports_of names.systems parts.system y.elem (with_known y.elem parts.selector) y.is refl n);
      selectors = λ n other. ap (λ (k : List System). is_registered (selectors_at k n) other) left
          ∙ still_alike setup.systems names.systems parts.system x.elem y.elem parts.selector x.is y.is one.selectors n other
          ∙ sym (ap (λ (k : List KnownSystem). is_among (selectors_of (slice_get k n)) other) right);
    }

-- ---- a relay

relay_one : (names : Declared) (setup : SetUp) (parts : FieldValues) → AreOne names setup → parts.system < length names.systems
    → AreOne (declared_by names (row_of words.Relay).effect parts) (set_up setup (lines.Relay parts.system parts.selector parts.other parts.called))
relay_one names setup parts one known =
    let more = selector_one names setup parts one known in
    record { lans = more.lans; bounds = more.bounds; life = more.life; systems = more.systems; ports = more.ports; selectors = more.selectors }

-- ---- a time

time_one : (names : Declared) (setup : SetUp) (key : Key) (value : ℕ) → AreOne names setup → AreOne (record names { settings = with_setting names.settings key value }) (with_time setup key value)
time_one names setup keys.Life value one = record { lans = one.lans; bounds = one.bounds; life = refl; systems = one.systems; ports = one.ports; selectors = one.selectors }
time_one names setup other value one = record { lans = one.lans; bounds = one.bounds; life = one.life; systems = one.systems; ports = one.ports; selectors = one.selectors }

-- ---- the start

-- where the start is not refused, no bound of a LAN is above the lifetime
within : (life : ℕ) (rows : List LanRow) (lans : List Lan) → map (λ (l : Lan). l.bound) lans ≡ map (λ (l : LanRow). l.bound) rows → AllByRecursion (λ (l : LanRow). nat_lt life l.bound ≡ false) rows
    → AllByRecursion (λ (l : Lan). l.bound ≤ life) lans
within life [] [] same all = tt
within life [] (lan ∷ lans) same all = absurd (cc)
within life (row ∷ rows) [] same all = absurd (cc)
within life (row ∷ rows) (lan ∷ lans) same all =
    let here : lan.bound ≡ row.bound = cc in
    let behind : map (λ (l : Lan). l.bound) lans ≡ map (λ (l : LanRow). l.bound) rows = cc in
    (subst (λ (bound : ℕ). bound ≤ life) (sym here) (ltb-false life row.bound all.0), within life rows lans behind all.1)

no_cause : (b : Bool) → (if b then Some causes.Life else None) ≡ None → b ≡ false
no_cause true is = absurd (cc)
no_cause false is = refl

start_fits : (names : Declared) (setup : SetUp) → AreOne names setup → life_cause names ≡ None → AllByRecursion (λ (l : Lan). l.bound ≤ setup.life) setup.lans
start_fits names setup one none =
    subst (λ (life : ℕ). AllByRecursion (λ (l : Lan). l.bound ≤ life) setup.lans) (sym one.life)
    (within (setting_or names.settings keys.Life) names.lans setup.lans one.bounds
    (none_pass (λ (l : LanRow). nat_lt (setting_or names.settings keys.Life) l.bound) names.lans
    (no_cause (list_any (λ (l : LanRow). nat_lt (setting_or names.settings keys.Life) l.bound) names.lans) none)))

-- ---- a line of the set-up

not_out : (started : Bool) → started ≡ false → not started ≡ false → ⊥
not_out true is out = absurd (cc)
not_out false is out = absurd (cc)

module _ (names : Declared) (setup : SetUp) (past column : ℕ) (fields : List (List ℕ)) (parts : FieldValues) (one : AreOne names setup) (w : IsWell setup) (begun : names.started ≡ false) where
  word_kept : (word : Word) → is_out_of_order names word ≡ false → count_fault past column (row_of word).fields fields ≡ None
      → fields_read names no_parts column (row_of word).fields fields ≡ Ok parts → limit_cause names (row_of word).effect parts ≡ None
      → NamesDeclared names (line_for (next_number names (row_of word).effect) word parts)
      → Kept setup (line_for (next_number names (row_of word).effect) word parts) (declared_by names (row_of word).effect parts)
  word_kept words.Set placed count filled limit known =
      let value = set_values names past column fields parts count filled in
      record { fits = (value.least_is, value.most_is); one = time_one names setup parts.key parts.number one }
  word_kept words.Lan placed count filled limit known =
      record { fits = lan_values names past column fields parts count filled; one = lan_one names setup parts (length names.lans) parts.amount one }
  word_kept words.Es placed count filled limit known =
      record { fits = title_fits names setup (given_title parts) one w (title_values names past column fields parts count filled) limit; one = system_one names setup true parts one }
  word_kept words.Is placed count filled limit known =
      record { fits = title_fits names setup (given_title parts) one w (title_values names past column fields parts count filled) limit; one = system_one names setup false parts one }
  word_kept words.Port placed count filled limit known =
      record { fits = port_fits names setup parts.system parts.lan (given_station parts) one (port_values names past column fields parts count filled) known.0 known.1 limit; one = port_one names setup parts one known.0 }
  word_kept words.Route placed count filled limit known =
      let fit = route_fits names setup parts.system (given_prefix parts) parts.other parts.lan one (route_values names past column fields parts count filled) known.0 known.1 limit in
      record { fits = fit; one = route_one names setup parts one known.0 fit.there }
  word_kept words.Path placed count filled limit known =
      record { fits = path_fits names setup parts.hops one (path_values names past column fields parts count filled) known.1; one = record { lans = one.lans; bounds = one.bounds; life = one.life; systems = one.systems; ports = one.ports; selectors = one.selectors } }
  word_kept words.Version placed count filled limit known = record { fits = tt; one = record { lans = one.lans; bounds = one.bounds; life = one.life; systems = one.systems; ports = one.ports; selectors = one.selectors } }
  word_kept words.Start placed count filled limit known = record { fits = start_fits names setup one limit; one = record { lans = one.lans; bounds = one.bounds; life = one.life; systems = one.systems; ports = one.ports; selectors = one.selectors } }
  word_kept words.Tsap placed count filled limit known = record {
    fits = selector_fits names setup parts.system parts.selector one known.0 (selector_values names past column fields parts count filled);
    one = selector_one names setup parts one known.0;
  }
  word_kept words.Relay placed count filled limit known = record {
    fits = relay_fits names setup (record { system = parts.system; selector = parts.selector; to = parts.other; called = parts.called }) one known.0 known.1 known.2
        (relay_values names past column fields parts count filled);
    one = relay_one names setup parts one known.0.0;
  }
  word_kept other placed count filled limit known = absurd (not_out names.started begun placed)

came_kept : (names : Declared) (setup : SetUp) (reading : Reading) → AreOne names setup → IsWell setup → names.started ≡ false → NamesDeclared names reading.line
    → Came names reading → Kept setup reading.line reading.names
came_kept names setup reading one w begun known (Idle is) =
    subst (λ (r : Reading). Kept setup r.line r.names) (sym is) (record { fits = tt; one = one })
came_kept names setup reading one w begun known (Worded word h) =
    subst (λ (r : Reading). Kept setup r.line r.names) (sym h.is)
    (word_kept names setup h.past h.column h.fields h.parts one w begun word h.placed h.counted h.filled h.limit
    (subst (λ (r : Reading). NamesDeclared names r.line) h.is known))

pub line_kept : (names : Declared) (setup : SetUp) (octets : List ℕ) (line : Line) (new : Declared) → AreOne names setup → IsWell setup → names.started ≡ false
    → line_read names octets ≡ Ok (record { line = line; names = new }) → Kept setup line new
line_kept names setup octets line new one w begun is =
    came_kept names setup (record { line = line; names = new }) one w begun (line_named names octets (record { line = line; names = new }) is)
    (came names octets (record { line = line; names = new }) is)

-- ---- a line of a running network

none_behind : (a b : Bool) → (a || b) ≡ false → b ≡ true → ⊥
none_behind true b is begun = absurd (cc)
none_behind false b is begun = cc

module _ (names : Declared) (clock : ℕ) (past column : ℕ) (fields : List (List ℕ)) (parts : FieldValues) (begun : names.started ≡ true) (low : clock < 4000000000) where
  word_runs : (word : Word) → is_out_of_order names word ≡ false → count_fault past column (row_of word).fields fields ≡ None → fields_read names no_parts column (row_of word).fields fields ≡ Ok parts
      → NamesDeclared names (line_for (next_number names (row_of word).effect) word parts)
      → RunsAt (length names.systems) clock (line_for (next_number names (row_of word).effect) word parts)
  word_runs words.Connect placed count filled known =
      (known.0.0, known.1.0, agreed_size names (forms.Named named.EndSystem ∷ forms.Selector ∷ forms.Named named.To ∷ forms.Called ∷ []) fields past column parts count filled)
  word_runs words.Accept placed count filled known = agreed_size names (forms.Plain (plain.Number 0 999999999) ∷ []) fields past column parts count filled
  word_runs words.Refuse placed count filled known = tt
  word_runs words.Disconnect placed count filled known = tt
  word_runs words.Data placed count filled known = tt
  word_runs words.Expedite placed count filled known = tt
  word_runs words.Window placed count filled known = (all_fine names (row_of words.Window).fields fields column parts filled).credit
  word_runs words.Unit placed count filled known = (known.0.0, known.1.0)
  word_runs words.Tick placed count filled known = low
  word_runs words.Settle placed count filled known = tt
  word_runs words.Deliver placed count filled known = tt
  word_runs words.Inject placed count filled known = tt
  word_runs words.Restart placed count filled known = known.0
  word_runs words.Send placed count filled known =
      let sent = send_values names past column fields parts count filled in
      (known.0.0, known.1.0, sent.selector_is, sent.called_is)
  word_runs words.Version placed count filled known = absurd (none_behind _ names.started placed begun)
  word_runs other placed count filled known = absurd (cc)

came_runs : (names : Declared) (clock : ℕ) (reading : Reading) → names.started ≡ true → clock < 4000000000 → NamesDeclared names reading.line → Came names reading
    → RunsAt (length names.systems) clock reading.line
came_runs names clock reading begun low known (Idle is) = subst (λ (r : Reading). RunsAt (length names.systems) clock r.line) (sym is) tt
came_runs names clock reading begun low known (Worded word h) =
    subst (λ (r : Reading). RunsAt (length names.systems) clock r.line) (sym h.is)
    (word_runs names clock h.past h.column h.fields h.parts begun low word h.placed h.counted h.filled (subst (λ (r : Reading). NamesDeclared names r.line) h.is known))

pub line_runs : (names : Declared) (clock : ℕ) (octets : List ℕ) (line : Line) (new : Declared) → names.started ≡ true → clock < 4000000000
    → line_read names octets ≡ Ok (record { line = line; names = new }) → RunsAt (length names.systems) clock line
line_runs names clock octets line new begun low is =
    came_runs names clock (record { line = line; names = new }) begun low (line_named names octets (record { line = line; names = new }) is)
    (came names octets (record { line = line; names = new }) is)
