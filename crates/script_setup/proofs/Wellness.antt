-- A set-up stays well with each line that fits it.
use Rattle.std.proofs.Common.{◌≡◌, ◌==◌, ◌⊎◌, ℕ, zero, suc, ◌+◌, ◌<◌, ◌≤◌, Bool, true, false, List, [], ◌∷◌, ◌++◌, length, map, Option, Some, None, inl, inr, refl, sym, ◌∙◌, ap, subst, arith, length-append, append_assoc}
use Rattle.std.specs.Prelude.{◌||◌, find, nat_eq, slice_get, slice_set, if◌then◌else◌, IsSome, option_map}
use Rattle.std.specs.List.{AllByRecursion}
use Rattle.std.specs.Cmp.Lexicographic.{pointwise}
use Rattle.std.proofs.Math.ListN.{length-set}
use Rattle.std.proofs.Math.Seq.{map-set_same}
use Rattle.std.proofs.lemmas.Bool.{cases_lt, false≢true}
use Rattle.std.proofs.lemmas.Cmp.{nat_list_eq_equiv}
use Rattle.std.proofs.lemmas.List.{append-nil, length-map, map-append}
use Rattle.std.proofs.lemmas.Option.{get_or_from_slice_get}
use Rattle.nsap.specs.Address.{is_same_system}
use Rattle.nsap.specs.declared.port.Hop.{Hop}
use Rattle.nsap.specs.declared.port.Port.{Port}
use Rattle.lan_step.specs.declared.row.Lan.{Lan}
use Rattle.lan_step.specs.declared.row.PortRow.{PortRow}
use Rattle.lan_step.specs.Rows.{AreApart, IsLan, same_snpa}
use Rattle.clnp_route.specs.declared.table.RouteRow.{RouteRow}
use Rattle.clnp_system.specs.Setting.{IsPath, is_group}
use Rattle.clnp_system.specs.declared.setup.Path.{Path}
use Rattle.script_lines.specs.declared.settings.Key.{Key}
use Rattle.script_lines.specs.declared.settings.Key.TheVariants as keys
use Rattle.script_lines.specs.Settings.{least_of, most_of}
use Rattle.script_lines.specs.declared.line.Line.{Line}
use Rattle.script_lines.specs.declared.line.Line.TheVariants as lines
use Rattle.tp4_entity.specs.Association.{is_registered}
use Rattle.script_setup.specs.declared.relay.RelayLine.{RelayLine}
use Rattle.script_setup.specs.declared.transport.Limits.{Limits}
use Rattle.script_setup.specs.SetUp.{System, SetUp, end_of, end_at, rows_of, rows_at, selectors_at, selectors_of, title_at, ports_at, port_on, hop_to, hop_title, titles_of, routed, selected, with_route, with_selector, with_time, nothing_said, is_complete, set_up}
use Rattle.script_setup.specs.Fitting.{Fits, IsWell, IsTitle, AreTitlesApart, AreTimes, AreLimits, AreSelectorsApart, AreRelaysApart, IsRelay, IsTaken, IsNewTitle, IsNewPort, IsNewRoute, IsNewPath, IsNewRelay, IsNewSelector, most_ports}
use Rattle.script_setup.proofs.Elements.{There, push, each, at, get_front, set_each, set_keeps, find_passes, find_front, there}
use Rattle.script_setup.proofs.Ports.{own_port, ports_push, own_is, none_at, of_one, rows_push, number_is}

pub nothing_well : IsWell nothing_said
nothing_well = record {
  lans = tt;
  listed = tt;
  apart = tt;
  single = tt;
  kinds = tt;
  few_ports = λ number. omega arith;
  few = omega arith;
  titles = tt;
  distinct = tt;
  hops = λ number. tt;
  times = record { least_life = omega arith; most_life = omega arith; most_hello = omega arith; least_hold = omega arith; most_hold = omega arith };
  paths = tt;
  limits = record {
    least_t1 = omega arith;
    most_t1 = omega arith;
    least_sendings = omega arith;
    most_sendings = omega arith;
    least_window = omega arith;
    most_window = omega arith;
    least_inactive = omega arith;
    most_inactive = omega arith;
    most_credit = omega arith;
    least_references = omega arith;
    most_references = omega arith;
  };
  selectors = tt;
  relays = tt;
  taken = tt;
  relays_apart = tt;
}

-- ---- what no system and no port comes by

-- a set-up with other LANs, times, source routes, limits and relays is well where these are
others_well : (setup : SetUp) (lans : List Lan) (life hello hold : ℕ) (paths : List Path) (limits : Limits) (relays : List RelayLine) → IsWell setup → AllByRecursion IsLan lans
    → AllByRecursion (λ (row : PortRow). row.port.lan < length lans) setup.ports → AreTimes life hello hold → AllByRecursion IsPath paths → AreLimits limits → AllByRecursion (IsRelay setup.systems) relays
    → AllByRecursion (IsTaken setup.systems) relays → AreRelaysApart relays → IsWell (record setup { lans = lans; life = life; hello = hello; hold = hold; paths = paths; limits = limits; relays = relays })
others_well setup lans life hello hold paths limits relays w are listed times routes bounds joins taken apart = record {
  lans = are;
  listed = listed;
  apart = w.apart;
  single = w.single;
  kinds = w.kinds;
  few_ports = w.few_ports;
  few = w.few;
  titles = w.titles;
  distinct = w.distinct;
  hops = w.hops;
  times = times;
  paths = routes;
  limits = bounds;
  selectors = w.selectors;
  relays = joins;
  taken = taken;
  relays_apart = apart;
}

-- ---- a LAN more

pub lan_well : (setup : SetUp) (lan : Lan) → IsWell setup → IsLan lan → IsWell (record setup { lans = setup.lans ++ lan ∷ [] })
lan_well setup lan w fits =
    others_well setup (setup.lans ++ lan ∷ []) setup.life setup.hello setup.hold setup.paths setup.limits setup.relays w (push IsLan setup.lans lan w.lans fits)
    (each (λ (row : PortRow). row.port.lan < length setup.lans) (λ (row : PortRow). row.port.lan < length (setup.lans ++ lan ∷ [])) setup.ports
    (λ row lt. omega (arith, length-append setup.lans (lan ∷ []))) w.listed) w.times w.paths w.limits w.relays w.taken w.relays_apart

-- ---- a system more

titles_push : (titles : List (List ℕ)) (title : List ℕ) → AreTitlesApart titles → AllByRecursion (λ other. is_same_system other title ≡ false) titles → AreTitlesApart (titles ++ title ∷ [])
titles_push [] title apart all = (tt, tt)
titles_push (first ∷ titles) title apart all = (push (λ other. is_same_system first other ≡ false) titles title apart.0 all.0, titles_push titles title apart.1 all.1)

pub rows_more : (systems : List System) (end : Bool) (title : List ℕ) (n : ℕ) → rows_at (systems ++ record { end = end; title = title; rows = []; selectors = [] } ∷ []) n ≡ rows_at systems n
rows_more [] end title zero = refl
rows_more [] end title (suc n) = refl
rows_more (first ∷ systems) end title zero = refl
rows_more (first ∷ systems) end title (suc n) = rows_more systems end title n

end_more : (systems : List System) (system : System) (n : ℕ) → n < length systems → end_at (systems ++ system ∷ []) n ≡ end_at systems n
end_more systems system n lt = ap end_of (get_front systems (system ∷ []) n lt)

few_more : (setup : SetUp) (system : System) (n : ℕ) → IsWell setup → (n < length setup.systems) ⊎ (length setup.systems ≤ n)
    → length (ports_at setup.ports n) ≤ most_ports (setup.systems ++ system ∷ []) n
few_more setup system n w (inl lt) =
    subst (λ (b : Bool). length (ports_at setup.ports n) ≤ (if b then 1 else 8)) (sym (end_more setup.systems system n lt)) (w.few_ports n)
few_more setup system n w (inr past) =
    let none = none_at setup.ports (length setup.systems) n
    (each (λ (row : PortRow). (row.system < length setup.systems) × (row.end ≡ end_at setup.systems row.system)) (λ (row : PortRow). row.system < length setup.systems) setup.ports (λ row k. k.0) w.kinds) past in
    subst (λ (ports : List Port). length ports ≤ most_ports (setup.systems ++ system ∷ []) n) (sym none) (omega arith)

-- a relay is such after ends stay ends
relay_kept : (systems new : List System) → ((n : ℕ) → end_at systems n ≡ true → end_at new n ≡ true) → (relay : RelayLine) → IsRelay systems relay → IsRelay new relay
relay_kept systems new ends relay is =
    record { own = ends relay.system is.own; other = ends relay.to is.other; apart = is.apart; selector = is.selector; called = is.called }

ends_on : (systems : List System) (system : System) (n : ℕ) → end_at systems n ≡ true → end_at (systems ++ system ∷ []) n ≡ true
ends_on [] system n is = absurd (cc)
ends_on (first ∷ systems) system zero is = is
ends_on (first ∷ systems) system (suc n) is = ends_on systems system n is

taken_on : (systems : List System) (system : System) (n : ℕ) (selector : List ℕ) → is_registered (selectors_at systems n) selector ≡ true
    → is_registered (selectors_at (systems ++ system ∷ []) n) selector ≡ true
taken_on [] system n selector is = absurd (cc)
taken_on (first ∷ systems) system zero selector is = is
taken_on (first ∷ systems) system (suc n) selector is = taken_on systems system n selector is

pub system_well : (setup : SetUp) (end : Bool) (title : List ℕ) → IsWell setup → IsNewTitle setup title
    → IsWell (record setup { systems = setup.systems ++ record { end = end; title = title; rows = []; selectors = [] } ∷ [] })
system_well setup end title w new =
    let added : System = record { end = end; title = title; rows = []; selectors = [] } in
    let titles : map (λ (s : System). s.title) (setup.systems ++ added ∷ []) ≡ titles_of setup ++ title ∷ [] = map-append (λ (s : System). s.title) setup.systems (added ∷ []) in
    record {
      lans = w.lans;
      listed = w.listed;
      apart = w.apart;
      single = w.single;
      kinds = each (λ (row : PortRow). (row.system < length setup.systems) × (row.end ≡ end_at setup.systems row.system))
          (λ (row : PortRow). (row.system < length (setup.systems ++ added ∷ [])) × (row.end ≡ end_at (setup.systems ++ added ∷ []) row.system)) setup.ports
          (λ row k. (let lt = k.0 in omega (arith, length-append setup.systems (added ∷ [])), k.1 ∙ sym (end_more setup.systems added row.system k.0))) w.kinds;
      few_ports = λ n. few_more setup added n w (cases_lt n (length setup.systems));
      few = let room = new.room in omega (arith, length-append setup.systems (added ∷ []));
      titles = subst (AllByRecursion IsTitle) (sym titles) (push IsTitle (titles_of setup) title w.titles new.fits);
      distinct = subst AreTitlesApart (sym titles) (titles_push (titles_of setup) title w.distinct new.apart);
      hops = λ n. subst (AllByRecursion (λ (row : RouteRow). IsSome (port_on setup.ports n row.hop.port.lan))) (sym (rows_more setup.systems end title n)) (w.hops n);
      times = w.times;
      paths = w.paths;
      limits = w.limits;
      selectors = push (λ (s : System). AreSelectorsApart [] s.selectors) setup.systems added w.selectors tt;
      relays = each (IsRelay setup.systems) (IsRelay (setup.systems ++ added ∷ [])) setup.relays (relay_kept setup.systems (setup.systems ++ added ∷ []) (ends_on setup.systems added)) w.relays;
      taken = each (IsTaken setup.systems) (IsTaken (setup.systems ++ added ∷ [])) setup.relays
          (λ relay is. taken_on setup.systems added relay.system relay.selector is) w.taken;
      relays_apart = w.relays_apart;
    }

-- ---- a port more

ports_apart : (systems : List System) (row : PortRow) (rows : List PortRow) → row.end ≡ end_at systems row.system
    → AllByRecursion (λ other. same_snpa other.port.snpa row.port.snpa ≡ false) rows
    → AllByRecursion (λ other. other.system ≡ row.system → other.port.lan ≡ row.port.lan → ⊥) rows
    → AllByRecursion (λ other. (other.system < length systems) × (other.end ≡ end_at systems other.system)) rows → AllByRecursion (λ other. AreApart other row) rows
ports_apart systems row [] kind snpas lans kinds = tt
ports_apart systems row (other ∷ rows) kind snpas lans kinds =
    ((snpas.0, λ same. (lans.0 same, kinds.0.1 ∙ ap (end_at systems) same ∙ sym kind)), ports_apart systems row rows kind snpas.1 lans.1 kinds.1)

few_with : (systems : List System) (rows : List PortRow) (row : PortRow) (n : ℕ) → length (ports_at rows n) ≤ most_ports systems n → length (ports_at rows row.system) < most_ports systems row.system
    → length (ports_at (rows ++ row ∷ []) n) ≤ most_ports systems n
few_with systems rows row n few room = by (row.system == n) refl
  where
    more : length (ports_at (rows ++ row ∷ []) n) ≡ length (ports_at rows n) + length (own_port row n)
    more = ap (λ (ports : List Port). length ports) (ports_push rows row n) ∙ length-append (ports_at rows n) (own_port row n)

    by : (b : Bool) → (row.system == n) ≡ b → length (ports_at (rows ++ row ∷ []) n) ≤ most_ports systems n
    by true is =
        let same = number_is row.system n is in
        let own : length (own_port row n) ≡ 1 = ap (λ (ports : List Port). length ports) (own_is row n same) in
        let here = subst (λ (m : ℕ). length (ports_at rows m) < most_ports systems m) same room in
        omega (arith, more, own, here)
    by false is =
        let own : length (own_port row n) ≡ 0 = ap (λ (ports : List Port). length ports) (ap (λ (b : Bool). if b then row.port ∷ [] else []) is) in
        omega (arith, more, own, few)

on_more : (rows : List PortRow) (row : PortRow) (n lan : ℕ) → IsSome (port_on rows n lan) → IsSome (port_on (rows ++ row ∷ []) n lan)
on_more rows row n lan some =
    subst (λ (ports : List Port). IsSome (find (λ port. port.lan == lan) ports)) (sym (ports_push rows row n)) (find_front (λ port. port.lan == lan) (ports_at rows n) (own_port row n) some)

pub port_well : (setup : SetUp) (row : PortRow) → IsWell setup → IsNewPort setup row.system row.port.lan row.port.snpa → row.end ≡ end_at setup.systems row.system
    → IsWell (record setup { ports = setup.ports ++ row ∷ [] })
port_well setup row w new kind = record {
  lans = w.lans;
  listed = push (λ (r : PortRow). r.port.lan < length setup.lans) setup.ports row w.listed new.listed;
  apart = rows_push setup.ports row w.apart
      (ports_apart setup.systems row setup.ports kind new.apart (of_one (λ port. port.lan ≡ row.port.lan → ⊥) setup.ports row.system new.fresh) w.kinds);
  single = push (λ (r : PortRow). is_group r.port.snpa ≡ false) setup.ports row w.single new.single;
  kinds = push (λ (r : PortRow). (r.system < length setup.systems) × (r.end ≡ end_at setup.systems r.system)) setup.ports row w.kinds (new.known, kind);
  few_ports = λ n. few_with setup.systems setup.ports row n (w.few_ports n) new.room;
  few = w.few;
  titles = w.titles;
  distinct = w.distinct;
  hops = λ n. each (λ (r : RouteRow). IsSome (port_on setup.ports n r.hop.port.lan)) (λ (r : RouteRow). IsSome (port_on (setup.ports ++ row ∷ []) n r.hop.port.lan)) (rows_at setup.systems n)
      (λ r some. on_more setup.ports row n r.hop.port.lan some) (w.hops n);
  times = w.times;
  paths = w.paths;
  limits = w.limits;
  selectors = w.selectors;
  relays = w.relays;
  taken = w.taken;
  relays_apart = w.relays_apart;
}

-- ---- a system that is changed, but for its kind and its title

pub set_rows : (Q : ℕ → RouteRow → Type 0) (systems : List System) (i : ℕ) (system new : System) → slice_get systems i ≡ Some system
    → ((n : ℕ) → AllByRecursion (Q n) (rows_at systems n)) → AllByRecursion (Q i) new.rows → (n : ℕ) → AllByRecursion (Q n) (rows_at (slice_set systems i new) n)
set_rows Q [] i system new is all here n = absurd (cc)
set_rows Q (first ∷ systems) zero system new is all here zero = here
set_rows Q (first ∷ systems) zero system new is all here (suc n) = all (suc n)
set_rows Q (first ∷ systems) (suc i) system new is all here zero = all 0
set_rows Q (first ∷ systems) (suc i) system new is all here (suc n) = set_rows (λ m. Q (suc m)) systems i system new is (λ m. all (suc m)) here n

pub set_titles : (systems : List System) (i : ℕ) (system new : System) → slice_get systems i ≡ Some system → new.title ≡ system.title
    → map (λ (s : System). s.title) (slice_set systems i new) ≡ map (λ (s : System). s.title) systems
set_titles systems i system new is same =
    map-set_same (λ (s : System). s.title) systems i new system (same ∙ ap (λ (s : System). s.title) (sym (get_or_from_slice_get systems i system system is)))

still_taken : (systems : List System) (i : ℕ) (system new : System) (n : ℕ) (selector : List ℕ) → slice_get systems i ≡ Some system
    → ((s : List ℕ) → is_registered system.selectors s ≡ true → is_registered new.selectors s ≡ true)
    → is_registered (selectors_at systems n) selector ≡ true → is_registered (selectors_at (slice_set systems i new) n) selector ≡ true
still_taken [] i system new n selector is stay at = absurd (cc)
still_taken (first ∷ systems) zero system new zero selector is stay at =
    let same : first ≡ system = cc in
    stay selector (subst (λ (s : System). is_registered s.selectors selector ≡ true) same at)
still_taken (first ∷ systems) zero system new (suc n) selector is stay at = at
still_taken (first ∷ systems) (suc i) system new zero selector is stay at = at
still_taken (first ∷ systems) (suc i) system new (suc n) selector is stay at = still_taken systems i system new n selector is stay at

pub system_changed : (setup : SetUp) (i : ℕ) (system new : System) → IsWell setup → slice_get setup.systems i ≡ Some system → new.end ≡ system.end → new.title ≡ system.title
    → AllByRecursion (λ (row : RouteRow). IsSome (port_on setup.ports i row.hop.port.lan)) new.rows → AreSelectorsApart [] new.selectors
    → ((selector : List ℕ) → is_registered system.selectors selector ≡ true → is_registered new.selectors selector ≡ true) → IsWell (record setup { systems = slice_set setup.systems i new })
system_changed setup i system new w is same_end same_title on apart stay =
    let systems = slice_set setup.systems i new in
    let ends : (n : ℕ) → end_at systems n ≡ end_at setup.systems n = λ n. set_keeps end_of setup.systems i system new is same_end n in
    let count : length systems ≡ length setup.systems = length-set setup.systems i new in
    let titles : map (λ (s : System). s.title) systems ≡ titles_of setup = set_titles setup.systems i system new is same_title in
    record {
      lans = w.lans;
      listed = w.listed;
      apart = w.apart;
      single = w.single;
      kinds = each (λ (r : PortRow). (r.system < length setup.systems) × (r.end ≡ end_at setup.systems r.system)) (λ (r : PortRow). (r.system < length systems) × (r.end ≡ end_at systems r.system)) setup.ports
          (λ r k. (subst (λ (n : ℕ). r.system < n) (sym count) k.0, k.1 ∙ sym (ends r.system))) w.kinds;
      few_ports = λ n. subst (λ (b : Bool). length (ports_at setup.ports n) ≤ (if b then 1 else 8)) (sym (ends n)) (w.few_ports n);
      few = subst (λ (n : ℕ). n ≤ 16) (sym count) w.few;
      titles = subst (AllByRecursion IsTitle) (sym titles) w.titles;
      distinct = subst AreTitlesApart (sym titles) w.distinct;
      hops = set_rows (λ (n : ℕ). λ (r : RouteRow). IsSome (port_on setup.ports n r.hop.port.lan)) setup.systems i system new is w.hops on;
      times = w.times;
      paths = w.paths;
      limits = w.limits;
      selectors = set_each (λ (s : System). AreSelectorsApart [] s.selectors) setup.systems i new w.selectors apart;
      relays = each (IsRelay setup.systems) (IsRelay systems) setup.relays (relay_kept setup.systems systems (λ n end. ends n ∙ end)) w.relays;
      taken = each (IsTaken setup.systems) (IsTaken systems) setup.relays
          (λ relay at. still_taken setup.systems i system new relay.system relay.selector is stay at) w.taken;
      relays_apart = w.relays_apart;
    }

-- ---- a route more

abbrev pub with_row : System → RouteRow → System
with_row system row = record system { rows = system.rows ++ row ∷ [] }

-- what holds of the rows of a system
pub rows_there : (Q : ℕ → RouteRow → Type 0) (systems : List System) (i : ℕ) (system : System) → slice_get systems i ≡ Some system → ((n : ℕ) → AllByRecursion (Q n) (rows_at systems n)) → AllByRecursion (Q i) system.rows
rows_there Q systems i system is all = subst (λ (found : Option System). AllByRecursion (Q i) (rows_of found)) is (all i)

pub row_well : (setup : SetUp) (i : ℕ) (system : System) (row : RouteRow) → IsWell setup → slice_get setup.systems i ≡ Some system → IsSome (port_on setup.ports i row.hop.port.lan)
    → IsWell (record setup { systems = slice_set setup.systems i (with_row system row) })
row_well setup i system row w is on =
    system_changed setup i system (with_row system row) w is refl refl
    (push (λ (r : RouteRow). IsSome (port_on setup.ports i r.hop.port.lan)) system.rows row
    (rows_there (λ (n : ℕ). λ (r : RouteRow). IsSome (port_on setup.ports n r.hop.port.lan)) setup.systems i system is w.hops) on)
    (at (λ (s : System). AreSelectorsApart [] s.selectors) setup.systems i system w.selectors is) (λ selector at. at)

-- ---- a selector more

abbrev pub with_one : System → List ℕ → System
with_one system selector = record system { selectors = system.selectors ++ selector ∷ [] }

registered_on : (selectors : List (List ℕ)) (selector other : List ℕ) → is_registered selectors other ≡ true → is_registered (selectors ++ selector ∷ []) other ≡ true
registered_on [] selector other is = absurd (cc)
registered_on (first ∷ selectors) selector other is = by (pointwise nat_eq first other) (registered_on selectors selector other) is
  where
    by : (b : Bool) → (is_registered selectors other ≡ true → is_registered (selectors ++ selector ∷ []) other ≡ true) → (b || is_registered selectors other) ≡ true
        → (b || is_registered (selectors ++ selector ∷ []) other) ≡ true
    by true rest at = refl
    by false rest at = rest at

registered_last : (selectors : List (List ℕ)) (selector : List ℕ) → is_registered (selectors ++ selector ∷ []) selector ≡ true
registered_last [] selector = ap (λ (b : Bool). b || false) (nat_list_eq_equiv.refl selector)
registered_last (first ∷ selectors) selector = by (pointwise nat_eq first selector) (registered_last selectors selector)
  where
    by : (b : Bool) → is_registered (selectors ++ selector ∷ []) selector ≡ true → (b || is_registered (selectors ++ selector ∷ []) selector) ≡ true
    by true rest = refl
    by false rest = rest

one_apart : (before selectors : List (List ℕ)) (selector : List ℕ) → AreSelectorsApart before selectors → is_registered (before ++ selectors) selector ≡ false
    → AreSelectorsApart before (selectors ++ selector ∷ [])
one_apart before [] selector apart fresh = (subst (λ (b : List (List ℕ)). is_registered b selector ≡ false) (append-nil before) fresh, tt)
one_apart before (first ∷ selectors) selector apart fresh =
    (apart.0, one_apart (before ++ first ∷ []) selectors selector apart.1 (subst (λ (b : List (List ℕ)). is_registered b selector ≡ false) (sym (append_assoc before (first ∷ []) selectors)) fresh))

pub one_well : (setup : SetUp) (i : ℕ) (system : System) (selector : List ℕ) → IsWell setup → slice_get setup.systems i ≡ Some system → IsNewSelector setup i selector
    → IsWell (record setup { systems = slice_set setup.systems i (with_one system selector) })
one_well setup i system selector w is new =
    system_changed setup i system (with_one system selector) w is refl refl
    (rows_there (λ (n : ℕ). λ (r : RouteRow). IsSome (port_on setup.ports n r.hop.port.lan)) setup.systems i system is w.hops)
    (one_apart [] system.selectors selector (at (λ (s : System). AreSelectorsApart [] s.selectors) setup.systems i system w.selectors is)
    (subst (λ (found : Option System). is_registered (selectors_of found) selector ≡ false) is new.fresh))
    (λ other at. registered_on system.selectors selector other at)

abbrev pub made_hop : Option (List ℕ) → Port → Hop
made_hop title port = record { port = port; title = title }

-- the hop of a route is on the LAN that the line names
pub hop_on : (setup : SetUp) (next lan : ℕ) (hop : Hop) → hop_to setup next lan ≡ Some hop → hop.port.lan ≡ lan
hop_on setup next lan hop is = by (port_on setup.ports next lan) refl is
  where
    by : (found : Option Port) → port_on setup.ports next lan ≡ found
        → option_map (made_hop (hop_title (slice_get setup.systems next))) found ≡ Some hop → hop.port.lan ≡ lan
    by None there is = absurd (cc)
    by (Some port) there is =
        let made : Hop = made_hop (hop_title (slice_get setup.systems next)) port in
        let same : made ≡ hop = cc in
        ap (λ (h : Hop). h.port.lan) (sym same) ∙ number_is port.lan lan (find_passes (λ p. p.lan == lan) (ports_at setup.ports next) port there)

-- ---- a source route more

pub path_well : (setup : SetUp) (complete : Bool) (systems : List ℕ) → IsWell setup → IsNewPath setup systems
    → IsWell (record setup { paths = setup.paths ++ record { complete = complete; titles = map (title_at setup.systems) systems } ∷ [] })
path_well setup complete systems w new =
    let count : length (map (title_at setup.systems) systems) ≡ length systems = length-map systems (title_at setup.systems) in
    let path : Path = record { complete = complete; titles = map (title_at setup.systems) systems } in
    others_well setup setup.lans setup.life setup.hello setup.hold (setup.paths ++ path ∷ []) setup.limits setup.relays w w.lans w.listed w.times
    (push IsPath setup.paths path w.paths (subst (λ (n : ℕ). 1 ≤ n) (sym count) new.some, subst (λ (n : ℕ). n ≤ 4) (sym count) new.few)) w.limits w.relays w.taken w.relays_apart

-- ---- a time

pub times_well : (setup : SetUp) (life hello hold : ℕ) → IsWell setup → AreTimes life hello hold → IsWell (record setup { life = life; hello = hello; hold = hold })
times_well setup life hello hold w times =
    others_well setup setup.lans life hello hold setup.paths setup.limits setup.relays w w.lans w.listed times w.paths w.limits w.relays w.taken w.relays_apart

pub limits_well : (setup : SetUp) (limits : Limits) → IsWell setup → AreLimits limits → IsWell (record setup { limits = limits })
limits_well setup limits w are = others_well setup setup.lans setup.life setup.hello setup.hold setup.paths limits setup.relays w w.lans w.listed w.times w.paths are w.relays w.taken w.relays_apart

module _ (l : Limits) (a : AreLimits l) (value : ℕ) where
  t1_set : 1 ≤ value → value ≤ 255 → AreLimits (record l { t1 = value })
  t1_set least most = record { least_t1 = least; most_t1 = most; least_sendings = a.least_sendings; most_sendings = a.most_sendings; least_window = a.least_window; most_window = a.most_window; least_inactive = a.least_inactive; most_inactive = a.most_inactive; most_credit = a.most_credit; least_references = a.least_references; most_references = a.most_references }

  sendings_set : 2 ≤ value → value ≤ 16 → AreLimits (record l { sendings = value })
  sendings_set least most = record { least_t1 = a.least_t1; most_t1 = a.most_t1; least_sendings = least; most_sendings = most; least_window = a.least_window; most_window = a.most_window; least_inactive = a.least_inactive; most_inactive = a.most_inactive; most_credit = a.most_credit; least_references = a.least_references; most_references = a.most_references }

  window_set : 1 ≤ value → value ≤ 255 → AreLimits (record l { window = value })
  window_set least most = record { least_t1 = a.least_t1; most_t1 = a.most_t1; least_sendings = a.least_sendings; most_sendings = a.most_sendings; least_window = least; most_window = most; least_inactive = a.least_inactive; most_inactive = a.most_inactive; most_credit = a.most_credit; least_references = a.least_references; most_references = a.most_references }

  inactive_set : 1 ≤ value → value ≤ 255 → AreLimits (record l { inactive = value })
  inactive_set least most = record { least_t1 = a.least_t1; most_t1 = a.most_t1; least_sendings = a.least_sendings; most_sendings = a.most_sendings; least_window = a.least_window; most_window = a.most_window; least_inactive = least; most_inactive = most; most_credit = a.most_credit; least_references = a.least_references; most_references = a.most_references }

  credit_set : value ≤ 15 → AreLimits (record l { credit = value })
  credit_set most = record { least_t1 = a.least_t1; most_t1 = a.most_t1; least_sendings = a.least_sendings; most_sendings = a.most_sendings; least_window = a.least_window; most_window = a.most_window; least_inactive = a.least_inactive; most_inactive = a.most_inactive; most_credit = most; least_references = a.least_references; most_references = a.most_references }

  references_set : 1 ≤ value → value ≤ 64 → AreLimits (record l { references = value })
  references_set least most = record { least_t1 = a.least_t1; most_t1 = a.most_t1; least_sendings = a.least_sendings; most_sendings = a.most_sendings; least_window = a.least_window; most_window = a.most_window; least_inactive = a.least_inactive; most_inactive = a.most_inactive; most_credit = a.most_credit; least_references = least; most_references = most }

pub time_well : (setup : SetUp) (key : Key) (value : ℕ) → IsWell setup → least_of key ≤ value → value ≤ most_of key → IsWell (with_time setup key value)
time_well setup keys.Life value w least most =
    let t = w.times in
    times_well setup value setup.hello setup.hold w (record { least_life = least; most_life = most; most_hello = t.most_hello; least_hold = t.least_hold; most_hold = t.most_hold })
time_well setup keys.Ct value w least most =
    let t = w.times in
    times_well setup setup.life value setup.hold w (record { least_life = t.least_life; most_life = t.most_life; most_hello = most; least_hold = t.least_hold; most_hold = t.most_hold })
time_well setup keys.Hold value w least most =
    let t = w.times in
    times_well setup setup.life setup.hello value w (record { least_life = t.least_life; most_life = t.most_life; most_hello = t.most_hello; least_hold = least; most_hold = most })
time_well setup keys.T1 value w least most = limits_well setup (record setup.limits { t1 = value }) w (t1_set setup.limits w.limits value least most)
time_well setup keys.W value w least most = limits_well setup (record setup.limits { window = value }) w (window_set setup.limits w.limits value least most)
time_well setup keys.I value w least most = limits_well setup (record setup.limits { inactive = value }) w (inactive_set setup.limits w.limits value least most)
time_well setup keys.N value w least most = limits_well setup (record setup.limits { sendings = value }) w (sendings_set setup.limits w.limits value least most)
time_well setup keys.Refs value w least most = limits_well setup (record setup.limits { references = value }) w (references_set setup.limits w.limits value least most)
time_well setup keys.Credit value w least most = limits_well setup (record setup.limits { credit = value }) w (credit_set setup.limits w.limits value most)

-- ---- each line

route_well : (setup : SetUp) (system : ℕ) (prefix : List ℕ) (next lan : ℕ) → IsWell setup → IsNewRoute setup system prefix next lan
    → IsWell (record setup { systems = with_route setup.systems system prefix (hop_to setup next lan) })
route_well setup system prefix next lan w new = by (hop_to setup next lan) refl
  where
    at_system : (hop : Hop) → hop.port.lan ≡ lan → (found : Option System) → slice_get setup.systems system ≡ found → IsWell (record setup { systems = routed setup.systems system prefix hop found })
    at_system hop on None is = w
    at_system hop on (Some there) is =
        row_well setup system there (record { prefix = prefix; hop = hop }) w is (subst (λ (l : ℕ). IsSome (port_on setup.ports system l)) (sym on) new.here)

    by : (found : Option Hop) → hop_to setup next lan ≡ found → IsWell (record setup { systems = with_route setup.systems system prefix found })
    by None is = w
    by (Some hop) is = at_system hop (hop_on setup next lan hop is) (slice_get setup.systems system) refl

selector_well : (setup : SetUp) (system : ℕ) (selector : List ℕ) → IsWell setup → IsNewSelector setup system selector → IsWell (record setup { systems = with_selector setup.systems system selector })
selector_well setup system selector w new = by (slice_get setup.systems system) refl
  where
    by : (found : Option System) → slice_get setup.systems system ≡ found → IsWell (record setup { systems = selected setup.systems system selector found })
    by None is = w
    by (Some there) is = one_well setup system there selector w is new

-- ---- a relay more

relays_push : (relays : List RelayLine) (relay : RelayLine) → AreRelaysApart relays → AllByRecursion (λ other. other.system ≡ relay.system → other.selector ≡ relay.selector → ⊥) relays
    → AreRelaysApart (relays ++ relay ∷ [])
relays_push [] relay apart all = (tt, tt)
relays_push (first ∷ relays) relay apart all =
    (push (λ (other : RelayLine). first.system ≡ other.system → first.selector ≡ other.selector → ⊥) relays relay apart.0 all.0, relays_push relays relay apart.1 all.1)

-- a relay that is taken is not at a selector that is not
pub fresh_apart : (systems : List System) (relay : RelayLine) (relays : List RelayLine) → AllByRecursion (IsTaken systems) relays → is_registered (selectors_at systems relay.system) relay.selector ≡ false
    → AllByRecursion (λ other. other.system ≡ relay.system → other.selector ≡ relay.selector → ⊥) relays
fresh_apart systems relay [] taken fresh = tt
fresh_apart systems relay (other ∷ relays) taken fresh = (
  λ system selector. false≢true
      (sym fresh ∙ sym (ap (λ (n : ℕ). is_registered (selectors_at systems n) relay.selector) system)
      ∙ sym (ap (λ (s : List ℕ). is_registered (selectors_at systems other.system) s) selector) ∙ taken.0),
  fresh_apart systems relay relays taken.1 fresh,
)

pub relay_well : (setup : SetUp) (relay : RelayLine) → IsWell setup → IsRelay setup.systems relay → IsTaken setup.systems relay
    → AllByRecursion (λ other. other.system ≡ relay.system → other.selector ≡ relay.selector → ⊥) setup.relays → IsWell (record setup { relays = setup.relays ++ relay ∷ [] })
relay_well setup relay w is taken apart =
    others_well setup setup.lans setup.life setup.hello setup.hold setup.paths setup.limits (setup.relays ++ relay ∷ []) w w.lans w.listed w.times w.paths w.limits
    (push (IsRelay setup.systems) setup.relays relay w.relays is) (push (IsTaken setup.systems) setup.relays relay w.taken taken) (relays_push setup.relays relay w.relays_apart apart)

-- a relay is such, and is taken, after its selector is
pub relay_there : (setup : SetUp) (relay : RelayLine) → IsNewRelay setup relay
    → IsRelay (with_selector setup.systems relay.system relay.selector) relay × IsTaken (with_selector setup.systems relay.system relay.selector) relay
relay_there setup relay new =
    let system : There setup.systems relay.system = there setup.systems relay.system new.fresh.known in
    let more : System = with_one system.elem relay.selector in
    let is : with_selector setup.systems relay.system relay.selector ≡ slice_set setup.systems relay.system more = ap (selected setup.systems relay.system relay.selector) system.is in (
      subst (λ (systems : List System). IsRelay systems relay) (sym is)
          (relay_kept setup.systems (slice_set setup.systems relay.system more) (λ n end. set_keeps end_of setup.systems relay.system system.elem more system.is refl n ∙ end) relay new.fits),
      subst (λ (systems : List System). IsTaken systems relay) (sym is) (taken_there setup.systems relay.system system.elem relay.selector system.is),
    )
  where
    taken_there : (systems : List System) (i : ℕ) (system : System) (selector : List ℕ) → slice_get systems i ≡ Some system
        → is_registered (selectors_at (slice_set systems i (with_one system selector)) i) selector ≡ true
    taken_there [] i system selector is = absurd (cc)
    taken_there (first ∷ systems) zero system selector is = registered_last system.selectors selector
    taken_there (first ∷ systems) (suc i) system selector is = taken_there systems i system selector is

new_relay_well : (setup : SetUp) (relay : RelayLine) → IsWell setup → IsNewRelay setup relay
    → IsWell (record setup { systems = with_selector setup.systems relay.system relay.selector; relays = setup.relays ++ relay ∷ [] })
new_relay_well setup relay w new =
    let there = relay_there setup relay new in
    relay_well (record setup { systems = with_selector setup.systems relay.system relay.selector }) relay (selector_well setup relay.system relay.selector w new.fresh) there.0 there.1
    (fresh_apart setup.systems relay setup.relays w.taken new.fresh.fresh)

pub well_after : (setup : SetUp) (line : Line) → IsWell setup → Fits setup line → IsWell (set_up setup line)
well_after setup lines.Nothing w f = w
well_after setup lines.Start w f = w
well_after setup (lines.Version version) w f = w
well_after setup (lines.Set key value) w f = time_well setup key value w f.0 f.1
well_after setup (lines.Lan name bound room) w f = lan_well setup (record { bound = bound; room = room }) w f
well_after setup (lines.Es name title) w f = system_well setup true title w f
well_after setup (lines.Is name title) w f = system_well setup false title w f
well_after setup (lines.Port system lan snpa) w f = port_well setup (record { system = system; end = end_at setup.systems system; port = record { lan = lan; snpa = snpa } }) w f refl
well_after setup (lines.Route system prefix next lan) w f = route_well setup system prefix next lan w f
well_after setup (lines.Path name kind systems) w f = path_well setup (is_complete kind) systems w f
well_after setup (lines.Tsap system selector) w f = selector_well setup system selector w f
well_after setup (lines.Relay system selector to called) w f = new_relay_well setup (record { system = system; selector = selector; to = to; called = called }) w f
well_after setup (lines.Connect system selector to called options octets) w f = absurd f
well_after setup (lines.Accept end options octets) w f = absurd f
well_after setup (lines.Refuse end octets) w f = absurd f
well_after setup (lines.Disconnect end octets) w f = absurd f
well_after setup (lines.Data end octets) w f = absurd f
well_after setup (lines.Expedite end octets) w f = absurd f
well_after setup (lines.Window end credit) w f = absurd f
well_after setup (lines.Unit system to wish octets) w f = absurd f
well_after setup lines.Tick w f = absurd f
well_after setup lines.Settle w f = absurd f
well_after setup (lines.Deliver number system) w f = absurd f
well_after setup (lines.Inject lan system octets) w f = absurd f
well_after setup (lines.Restart system) w f = absurd f
well_after setup (lines.Send system selector to called octets) w f = absurd f
