-- A set-up line that was read fits what was said before: what its fields ask of the names holds of the set-up, which knows the same.
use Rattle.std.proofs.Common.{◌≡◌, ◌==◌, ℕ, zero, suc, ◌<◌, Bool, true, false, List, [], ◌∷◌, ◌++◌, length, map, Some, None, refl, sym, ◌∙◌, ap, subst, arith}
use Rattle.std.specs.Prelude.{◌||◌, find, if◌then◌else◌, nat_eq, slice_get, IsSome}
use Rattle.std.specs.List.{AllByRecursion, list_any}
use Rattle.std.specs.Cmp.Lexicographic.{pointwise}
use Rattle.std.proofs.lemmas.List.{length-map}
use Rattle.nsap.specs.Address.{is_same_system, system_part}
use Rattle.nsap.specs.declared.port.Port.{Port}
use Rattle.nsap.proofs.AddressLemmas.{system_part-selector_of, is_same_system-Decides}
use Rattle.lan_step.specs.Rows.{same_snpa}
use Rattle.clnp_route.specs.declared.table.RouteRow.{RouteRow}
use Rattle.clnp_route.specs.Routes.{has_prefix}
use Rattle.law_clnp_step.proofs.Joined.{same_numbers}
use Rattle.script_lines.specs.Grammar.{many_from}
use Rattle.script_lines.specs.Known.{Declared, KnownSystem, end_of as known_end, ports_of, routes_of, selectors_of, has_snpa, has_port, is_among, is_end}
use Rattle.script_lines.specs.Names.{AreIntermediateSystems, IsEndSystem}
use Rattle.law_clnp_net.proofs.Addresses.{turned}
use Rattle.script_setup.specs.declared.relay.RelayLine.{RelayLine}
use Rattle.script_setup.specs.SetUp.{System, SetUp, end_at, rows_at, port_on}
use Rattle.law_setup.specs.Agreeing.{AreOne, shape_of, known_shape, Shape}
use Rattle.script_setup.specs.Fitting.{IsWell, IsTitle, IsNewTitle, IsNewPort, IsNewRoute, IsNewPath, IsNewRelay, IsNewSelector, most_ports}
use Rattle.script_setup.proofs.Elements.{each, none_pass}
use Rattle.script_setup.proofs.Ports.{of_each, numbers_differ}
use Rattle.law_setup.proofs.Relays.{RelayRead}
use Rattle.law_setup.proofs.Values.{IsWithin, PortRead, RouteRead, TitleRead, many_left}

-- ---- what both know of the systems

pub as_many : (names : Declared) (setup : SetUp) → AreOne names setup → length setup.systems ≡ length names.systems
as_many names setup one =
    sym (length-map setup.systems shape_of) ∙ ap (λ (shapes : List Shape). length shapes) one.systems ∙ length-map names.systems known_shape

module _ (x : System) (y : KnownSystem) (xs : List System) (ys : List KnownSystem) (one : map shape_of (x ∷ xs) ≡ map known_shape (y ∷ ys)) where
  pub first_one : shape_of x ≡ known_shape y
  first_one = cc

  pub others_one : map shape_of xs ≡ map known_shape ys
  others_one = cc

pub ends_one : (xs : List System) (ys : List KnownSystem) (n : ℕ) → map shape_of xs ≡ map known_shape ys → end_at xs n ≡ known_end (slice_get ys n)
ends_one [] [] n one = refl
ends_one [] (y ∷ ys) n one = absurd (cc)
ends_one (x ∷ xs) [] n one = absurd (cc)
ends_one (x ∷ xs) (y ∷ ys) zero one = ap (λ (s : Shape). s.end) (first_one x y xs ys one)
ends_one (x ∷ xs) (y ∷ ys) (suc n) one = ends_one xs ys n (others_one x y xs ys one)

pub routes_one : (xs : List System) (ys : List KnownSystem) (n : ℕ) → map shape_of xs ≡ map known_shape ys → map (λ (row : RouteRow). row.prefix) (rows_at xs n) ≡ routes_of (slice_get ys n)
routes_one [] [] n one = refl
routes_one [] (y ∷ ys) n one = absurd (cc)
routes_one (x ∷ xs) [] n one = absurd (cc)
routes_one (x ∷ xs) (y ∷ ys) zero one = ap (λ (s : Shape). s.routes) (first_one x y xs ys one)
routes_one (x ∷ xs) (y ∷ ys) (suc n) one = routes_one xs ys n (others_one x y xs ys one)

-- ---- titles

-- titles that are not equal are of two systems, since both end in the selector 0
apart : (a b : List ℕ) → IsTitle a → IsTitle b → pointwise nat_eq a b ≡ false → is_same_system a b ≡ false
apart a b ta tb differ = by (is_same_system a b) refl
  where
    by : (test : Bool) → is_same_system a b ≡ test → is_same_system a b ≡ false
    by false is = is
    by true is =
        let parts : system_part a ≡ system_part b = (is_same_system-Decides a b).0 is in
        let some_a = ta.some in
        let some_b = tb.some in
        let whole_a : system_part a ++ 0 ∷ [] ≡ a = ap (λ (s : ℕ). system_part a ++ s ∷ []) (sym ta.entity) ∙ system_part-selector_of a (omega arith) in
        let whole_b : system_part b ++ 0 ∷ [] ≡ b = ap (λ (s : ℕ). system_part b ++ s ∷ []) (sym tb.entity) ∙ system_part-selector_of b (omega arith) in
        let same : a ≡ b = sym whole_a ∙ ap (λ (p : List ℕ). p ++ 0 ∷ []) parts ∙ whole_b in
        let equal : pointwise nat_eq a b ≡ true = ap (λ (t : List ℕ). pointwise nat_eq a t) (sym same) ∙ same_numbers a in
        absurd (cc)

titles_apart : (xs : List System) (ys : List KnownSystem) (title : List ℕ) → map shape_of xs ≡ map known_shape ys → AllByRecursion IsTitle (map (λ (s : System). s.title) xs) → IsTitle title
    → AllByRecursion (λ (y : KnownSystem). pointwise nat_eq y.title title ≡ false) ys → AllByRecursion (λ other. is_same_system other title ≡ false) (map (λ (s : System). s.title) xs)
titles_apart [] ys title one titles fits fresh = tt
titles_apart (x ∷ xs) [] title one titles fits fresh = absurd (cc)
titles_apart (x ∷ xs) (y ∷ ys) title one titles fits fresh =
    let same : x.title ≡ y.title = ap (λ (s : Shape). s.title) (first_one x y xs ys one) in (
      apart x.title title titles.0 fits (ap (λ (t : List ℕ). pointwise nat_eq t title) same ∙ fresh.0),
      titles_apart xs ys title (others_one x y xs ys one) titles.1 fits fresh.1,
    )

pub title_fits : (names : Declared) (setup : SetUp) (title : List ℕ) → AreOne names setup → IsWell setup → TitleRead names title → many_from 16 (length names.systems) ≡ None
    → IsNewTitle setup title
title_fits names setup title one w read limit = record {
  fits = read.fits;
  apart = titles_apart setup.systems names.systems title one.systems w.titles read.fits (none_pass (λ system. pointwise nat_eq system.title title) names.systems read.fresh);
  room = subst (λ (n : ℕ). n < 16) (sym (as_many names setup one)) (many_left 16 (length names.systems) limit);
}

-- ---- ports

stations_apart : (systems : List KnownSystem) (snpa : List ℕ) (n : ℕ) → AllByRecursion (λ system. has_snpa system snpa ≡ false) systems
    → AllByRecursion (λ port. same_snpa port.snpa snpa ≡ false) (ports_of (slice_get systems n))
stations_apart [] snpa n all = tt
stations_apart (system ∷ systems) snpa zero all = none_pass (λ port. pointwise nat_eq port.snpa snpa) system.ports all.0
stations_apart (system ∷ systems) snpa (suc n) all = stations_apart systems snpa n all.1

pub port_fits : (names : Declared) (setup : SetUp) (system lan : ℕ) (snpa : List ℕ) → AreOne names setup → PortRead names system lan snpa → system < length names.systems → lan < length names.lans
    → many_from (if is_end names system then 1 else 8) (length (ports_of (slice_get names.systems system))) ≡ None → IsNewPort setup system lan snpa
port_fits names setup system lan snpa one read known listed limit = record {
  known = subst (λ (n : ℕ). system < n) (sym (as_many names setup one)) known;
  listed = subst (λ (n : ℕ). lan < n) (sym one.lans) listed;
  single = read.single;
  apart = of_each (λ port. same_snpa port.snpa snpa ≡ false) setup.ports
      (λ n. subst (λ (ports : List Port). AllByRecursion (λ port. same_snpa port.snpa snpa ≡ false) ports) (sym (one.ports n))
      (stations_apart names.systems snpa n (none_pass (λ s. has_snpa s snpa) names.systems read.fresh)));
  fresh = subst (λ (ports : List Port). AllByRecursion (λ port. port.lan ≡ lan → ⊥) ports) (sym (one.ports system))
      (each (λ (port : Port). (port.lan == lan) ≡ false) (λ (port : Port). port.lan ≡ lan → ⊥) (ports_of (slice_get names.systems system)) (λ port other. numbers_differ port.lan lan other)
      (none_pass (λ port. port.lan == lan) (ports_of (slice_get names.systems system)) read.lan_fresh));
  room = subst (λ (ports : List Port). length ports < most_ports setup.systems system) (sym (one.ports system))
      (subst (λ (b : Bool). length (ports_of (slice_get names.systems system)) < (if b then 1 else 8)) (sym (ends_one setup.systems names.systems system one.systems))
      (many_left (if is_end names system then 1 else 8) (length (ports_of (slice_get names.systems system))) limit));
}

-- ---- routes

no_prefix : (rows : List RouteRow) (prefix : List ℕ) → is_among (map (λ (row : RouteRow). row.prefix) rows) prefix ≡ false → has_prefix rows prefix ≡ false
no_prefix rows prefix none = same rows ∙ none
  where
    same : (rows : List RouteRow) → has_prefix rows prefix ≡ is_among (map (λ (row : RouteRow). row.prefix) rows) prefix
    same [] = refl
    same (row ∷ rows) = rw (turned row.prefix prefix) (ap (λ (b : Bool). pointwise nat_eq prefix row.prefix || b) (same rows))

found : (ports : List Port) (lan : ℕ) → list_any (λ port. port.lan == lan) ports ≡ true → IsSome (find (λ port. port.lan == lan) ports)
found [] lan is = absurd (cc)
found (port ∷ ports) lan is = by (found ports lan) (port.lan == lan) is
  where
    by : (list_any (λ p. p.lan == lan) ports ≡ true → IsSome (find (λ p. p.lan == lan) ports)) → (b : Bool) → (b || list_any (λ p. p.lan == lan) ports) ≡ true → IsSome (if b then Some port else find (λ p. p.lan == lan) ports)
    by rest true is = refl
    by rest false is = rest is

pub on_lan : (names : Declared) (setup : SetUp) (system lan : ℕ) → AreOne names setup → has_port names system lan ≡ true → IsSome (port_on setup.ports system lan)
on_lan names setup system lan one is =
    subst (λ (ports : List Port). IsSome (find (λ port. port.lan == lan) ports)) (sym (one.ports system)) (found (ports_of (slice_get names.systems system)) lan is)

pub route_fits : (names : Declared) (setup : SetUp) (system : ℕ) (prefix : List ℕ) (next lan : ℕ) → AreOne names setup → RouteRead names system prefix next lan
    → system < length names.systems → next < length names.systems → many_from 256 (length (routes_of (slice_get names.systems system))) ≡ None → IsNewRoute setup system prefix next lan
route_fits names setup system prefix next lan one read known next_known limit =
    let routes = routes_one setup.systems names.systems system one.systems in
    record {
      known = subst (λ (n : ℕ). system < n) (sym (as_many names setup one)) known;
      next_known = subst (λ (n : ℕ). next < n) (sym (as_many names setup one)) next_known;
      fresh = no_prefix (rows_at setup.systems system) prefix (ap (λ (r : List (List ℕ)). is_among r prefix) routes ∙ read.fresh);
      room = subst (λ (n : ℕ). n < 256)
          (ap (λ (r : List (List ℕ)). length r) (sym routes) ∙ length-map (rows_at setup.systems system) (λ (row : RouteRow). row.prefix))
          (many_left 256 (length (routes_of (slice_get names.systems system))) limit);
      here = on_lan names setup system lan one read.here;
      there = on_lan names setup next lan one read.there;
    }

-- ---- source routes

all_known : (names : Declared) (count : ℕ) (hops : List ℕ) → count ≡ length names.systems → AreIntermediateSystems names hops → AllByRecursion (λ system. system < count) hops
all_known names count [] same are = tt
all_known names count (hop ∷ hops) same are = (subst (λ (n : ℕ). hop < n) (sym same) are.0.0, all_known names count hops same are.1)

pub path_fits : (names : Declared) (setup : SetUp) (hops : List ℕ) → AreOne names setup → IsWithin 1 4 (length hops) → AreIntermediateSystems names hops → IsNewPath setup hops
path_fits names setup hops one within are = record {
  some = within.least_is;
  few = within.most_is;
  known = all_known names (length setup.systems) hops (as_many names setup one) are;
}

-- ---- selectors

pub selector_fits : (names : Declared) (setup : SetUp) (system : ℕ) (selector : List ℕ) → AreOne names setup → system < length names.systems
    → is_among (selectors_of (slice_get names.systems system)) selector ≡ false → IsNewSelector setup system selector
selector_fits names setup system selector one known fresh = record {
  known = subst (λ (n : ℕ). system < n) (sym (as_many names setup one)) known;
  fresh = one.selectors system selector ∙ fresh;
}

-- ---- relays

pub relay_fits : (names : Declared) (setup : SetUp) (relay : RelayLine) → AreOne names setup → IsEndSystem names relay.system → IsEndSystem names relay.to → (relay.to ≡ relay.system → ⊥)
    → RelayRead names relay.system relay.selector relay.called → IsNewRelay setup relay
relay_fits names setup relay one own other apart read = record {
  fits = record {
    own = ends_one setup.systems names.systems relay.system one.systems ∙ own.1;
    other = ends_one setup.systems names.systems relay.to one.systems ∙ other.1;
    apart = apart;
    selector = read.selector_is;
    called = read.called_is;
  };
  fresh = selector_fits names setup relay.system relay.selector one own.0 read.fresh;
}
