-- A set-up is well after each of its calls: with what was added, and as it was where memory ran out.
use Rattle.std.proofs.Common.{◌≡◌, ℕ, zero, suc, ◌+◌, ◌≤◌, Bool, true, false, List, [], ◌∷◌, ◌++◌, take, Option, Some, None, Result, Ok, Err, sym, ◌∙◌, ap, subst}
use Rattle.std.specs.Prelude.{if◌then◌else◌, map, option_map, slice_get, slice_set, IsSome, OnErr, OnOk}
use Rattle.std.specs.List.{AllByRecursion}
use Rattle.nsap.specs.declared.port.Hop.{Hop}
use Rattle.nsap.specs.declared.port.Port.{Port}
use Rattle.lan_step.specs.declared.row.Lan.{Lan}
use Rattle.lan_step.specs.declared.row.PortRow.{PortRow}
use Rattle.lan_step.specs.Rows.{IsLan}
use Rattle.script_lines.specs.declared.settings.Key.{Key}
use Rattle.script_lines.specs.declared.settings.Key.TheVariants as keys
use Rattle.script_lines.specs.Settings.{least_of, most_of}
use Rattle.script_setup.specs.declared.relay.RelayLine.{RelayLine}
use Rattle.script_setup.specs.SetUp.{System, SetUp, end_at, hop_to, port_on, ports_at, selected, title_at, with_selector, with_time}
use Rattle.script_setup.specs.Fitting.{IsNewPath, IsNewPort, IsNewRelay, IsNewRoute, IsNewSelector, IsNewTitle, IsRelay, IsTaken, IsWell}
use Rattle.script_setup.proofs.Ports.{own_port, ports_push}
use Rattle.script_setup.proofs.Wellness.{fresh_apart, hop_on, lan_well, one_well, path_well, port_well, relay_there, relay_well, row_well, system_well, time_well, with_one, with_row}

abbrev with : SetUp → List System → SetUp
with shared systems = record shared { systems = systems }

pub lan_added : {T E : Type 0} (result : Result T E) (shared new : SetUp) (systems : List System) (lan : Lan) → IsWell (with shared systems) → IsLan lan
    → OnOk result (new ≡ record shared { lans = shared.lans ++ lan ∷ [] }) → OnErr result (new ≡ shared) → IsWell (with new systems)
lan_added (Ok done) shared new systems lan w fits ok err = subst (λ (s : SetUp). IsWell (with s systems)) (sym ok) (lan_well (with shared systems) lan w fits)
lan_added (Err error) shared new systems lan w fits ok err = subst (λ (s : SetUp). IsWell (with s systems)) (sym err) w

pub port_added : {T E : Type 0} (result : Result T E) (shared new : SetUp) (systems : List System) (row : PortRow) → IsWell (with shared systems)
    → IsNewPort (with shared systems) row.system row.port.lan row.port.snpa → row.end ≡ end_at systems row.system
    → OnOk result (new ≡ record shared { ports = shared.ports ++ row ∷ [] }) → OnErr result (new ≡ shared) → IsWell (with new systems)
port_added (Ok done) shared new systems row w fits kind ok err = subst (λ (s : SetUp). IsWell (with s systems)) (sym ok) (port_well (with shared systems) row w fits kind)
port_added (Err error) shared new systems row w fits kind ok err = subst (λ (s : SetUp). IsWell (with s systems)) (sym err) w

pub path_added : {T E : Type 0} (result : Result T E) (shared new : SetUp) (systems : List System) (complete : Bool) (titles : List (List ℕ)) (hops : List ℕ) → IsWell (with shared systems)
    → IsNewPath (with shared systems) hops → titles ≡ map (title_at systems) hops
    → OnOk result (new ≡ record shared { paths = shared.paths ++ record { complete = complete; titles = titles } ∷ [] }) → OnErr result (new ≡ shared) → IsWell (with new systems)
path_added (Ok done) shared new systems complete titles hops w fits is ok err =
    let added : new ≡ record shared { paths = shared.paths ++ record { complete = complete; titles = map (title_at systems) hops } ∷ [] } =
    ok ∙ ap (λ (t : List (List ℕ)). record shared { paths = shared.paths ++ record { complete = complete; titles = t } ∷ [] }) is in
    subst (λ (s : SetUp). IsWell (with s systems)) (sym added) (path_well (with shared systems) complete hops w fits)
path_added (Err error) shared new systems complete titles hops w fits is ok err = subst (λ (s : SetUp). IsWell (with s systems)) (sym err) w

pub system_added : (pushed : Bool) (setup : SetUp) (new : List System) (added : System) (end : Bool) (title : List ℕ) → IsWell setup → IsNewTitle setup title
    → added ≡ record { end = end; title = title; rows = []; selectors = [] } → new ≡ (if pushed then setup.systems ++ added ∷ [] else setup.systems) → IsWell (record setup { systems = new })
system_added true setup new added end title w fits is ok =
    subst (λ (systems : List System). IsWell (record setup { systems = systems })) (sym (ok ∙ ap (λ (system : System). setup.systems ++ system ∷ []) is)) (system_well setup end title w fits)
system_added false setup new added end title w fits is ok = subst (λ (systems : List System). IsWell (record setup { systems = systems })) (sym ok) w

set_same : {A : Type 0} (xs : List A) (i : ℕ) (x : A) → slice_get xs i ≡ Some x → slice_set xs i x ≡ xs
set_same [] i x is = absurd (cc)
set_same {A} (y ∷ xs) zero x is = let same : x ≡ y = cc in ap (λ (z : A). z ∷ xs) same
set_same {A} (y ∷ xs) (suc i) x is = ap (λ (zs : List A). y ∷ zs) (set_same xs i x is)

pub route_added : {T E : Type 0} (result : Result T E) (setup : SetUp) (number : ℕ) (old new : System) (prefix : List ℕ) (hop : Hop) (next lan : ℕ) → IsWell setup → slice_get setup.systems number ≡ Some old
    → IsNewRoute setup number prefix next lan → hop_to setup next lan ≡ Some hop
    → OnOk result (new ≡ with_row old (record { prefix = prefix; hop = hop })) → OnErr result (new ≡ old) → IsWell (record setup { systems = slice_set setup.systems number new })
route_added (Ok done) setup number old new prefix hop next lan w is fits at ok err =
    let on : IsSome (port_on setup.ports number hop.port.lan) = subst (λ (l : ℕ). IsSome (port_on setup.ports number l)) (sym (hop_on setup next lan hop at)) fits.here in
    subst (λ (s : System). IsWell (record setup { systems = slice_set setup.systems number s })) (sym ok) (row_well setup number old (record { prefix = prefix; hop = hop }) w is on)
route_added (Err error) setup number old new prefix hop next lan w is fits at ok err =
    subst (λ (systems : List System). IsWell (record setup { systems = systems })) (sym (ap (λ (s : System). slice_set setup.systems number s) err ∙ set_same setup.systems number old is)) w

pub selector_added : {T E : Type 0} (result : Result T E) (setup : SetUp) (number : ℕ) (old new : System) (selector : List ℕ) → IsWell setup → slice_get setup.systems number ≡ Some old
    → IsNewSelector setup number selector → OnOk result (new ≡ with_one old selector) → OnErr result (new ≡ old) → IsWell (record setup { systems = slice_set setup.systems number new })
selector_added (Ok done) setup number old new selector w is fits ok err =
    subst (λ (s : System). IsWell (record setup { systems = slice_set setup.systems number s })) (sym ok) (one_well setup number old selector w is fits)
selector_added (Err error) setup number old new selector w is fits ok err =
    subst (λ (systems : List System). IsWell (record setup { systems = systems })) (sym (ap (λ (s : System). slice_set setup.systems number s) err ∙ set_same setup.systems number old is)) w

pub selector_set : {T E : Type 0} (result : Result T E) (setup made : SetUp) (number system : ℕ) (old new : System) (selector : List ℕ) → number ≡ system → slice_get setup.systems number ≡ Some old
    → setup ≡ made → OnOk result (new ≡ with_one old selector)
    → OnOk result (record setup { systems = slice_set setup.systems number new } ≡ record made { systems = with_selector made.systems system selector })
selector_set (Err error) setup made number system old new selector same is view ok = tt
selector_set (Ok done) setup made number system old new selector same is view ok =
    let here : slice_set setup.systems number new ≡ with_selector setup.systems number selector =
    ap (λ (s : System). slice_set setup.systems number s) ok ∙ sym (ap (selected setup.systems number selector) is) in
    ap (λ (s : List System). record setup { systems = s }) here
    ∙ ap (λ (n : ℕ). record setup { systems = with_selector setup.systems n selector }) same
    ∙ ap (λ (s : SetUp). record s { systems = with_selector s.systems system selector }) view

-- a relay is added once its selector is
pub relay_added : {T E : Type 0} (result : Result T E) (setup shared new : SetUp) (systems : List System) (relay : RelayLine) → IsWell setup → IsNewRelay setup relay → IsWell (with shared systems)
    → with shared systems ≡ record setup { systems = with_selector setup.systems relay.system relay.selector }
    → OnOk result (new ≡ record shared { relays = shared.relays ++ relay ∷ [] }) → OnErr result (new ≡ shared) → IsWell (with new systems)
relay_added (Ok done) setup shared new systems relay was fits w is ok err =
    let there = relay_there setup relay fits in
    let now : systems ≡ with_selector setup.systems relay.system relay.selector = ap (λ (s : SetUp). s.systems) is in
    let relays : shared.relays ≡ setup.relays = ap (λ (s : SetUp). s.relays) is in
    subst (λ (s : SetUp). IsWell (with s systems)) (sym ok)
    (relay_well (with shared systems) relay w (subst (λ (s : List System). IsRelay s relay) (sym now) there.0) (subst (λ (s : List System). IsTaken s relay) (sym now) there.1)
    (subst (AllByRecursion (λ other. other.system ≡ relay.system → other.selector ≡ relay.selector → ⊥)) (sym relays)
    (fresh_apart setup.systems relay setup.relays was.taken fits.fresh.fresh)))
relay_added (Err error) setup shared new systems relay was fits w is ok err = subst (λ (s : SetUp). IsWell (with s systems)) (sym err) w

-- ---- a time or a limit

pub time_set : (key : Key) (shared new : SetUp) (systems : List System) (value : ℕ) → new ≡ with_time shared key value → IsWell (with shared systems) → least_of key ≤ value → value ≤ most_of key
    → IsWell (with new systems)
time_set keys.Life shared new systems value is w least most = subst (λ (s : SetUp). IsWell (with s systems)) (sym is) (time_well (with shared systems) keys.Life value w least most)
time_set keys.T1 shared new systems value is w least most = subst (λ (s : SetUp). IsWell (with s systems)) (sym is) (time_well (with shared systems) keys.T1 value w least most)
time_set keys.W shared new systems value is w least most = subst (λ (s : SetUp). IsWell (with s systems)) (sym is) (time_well (with shared systems) keys.W value w least most)
time_set keys.I shared new systems value is w least most = subst (λ (s : SetUp). IsWell (with s systems)) (sym is) (time_well (with shared systems) keys.I value w least most)
time_set keys.N shared new systems value is w least most = subst (λ (s : SetUp). IsWell (with s systems)) (sym is) (time_well (with shared systems) keys.N value w least most)
time_set keys.Refs shared new systems value is w least most = subst (λ (s : SetUp). IsWell (with s systems)) (sym is) (time_well (with shared systems) keys.Refs value w least most)
time_set keys.Credit shared new systems value is w least most = subst (λ (s : SetUp). IsWell (with s systems)) (sym is) (time_well (with shared systems) keys.Credit value w least most)
time_set keys.Ct shared new systems value is w least most = subst (λ (s : SetUp). IsWell (with s systems)) (sym is) (time_well (with shared systems) keys.Ct value w least most)
time_set keys.Hold shared new systems value is w least most = subst (λ (s : SetUp). IsWell (with s systems)) (sym is) (time_well (with shared systems) keys.Hold value w least most)

-- ---- the ports of a system, one row after another

pub ports_next : (rows : List PortRow) (i : ℕ) (row : PortRow) (number : ℕ) (ports new : List Port) → take (i + 1) rows ≡ take i rows ++ row ∷ [] → ports ≡ ports_at (take i rows) number
    → new ≡ ports ++ own_port row number → new ≡ ports_at (take (i + 1) rows) number
ports_next rows i row number ports new more so_far is =
    is ∙ ap (λ (p : List Port). p ++ own_port row number) so_far ∙ sym (ports_push (take i rows) row number) ∙ ap (λ (r : List PortRow). ports_at r number) (sym more)

mapped : {A B : Type 0} (f : A → B) (o : Option A) → option_map f o ≡ None → IsSome o → ⊥
mapped f None none there = cc
mapped f (Some x) none there = cc

-- to a system with a port on the LAN there is a way over it
pub no_way : (setup : SetUp) (next lan : ℕ) → hop_to setup next lan ≡ None → IsSome (port_on setup.ports next lan) → ⊥
no_way setup next lan none there = mapped _ (port_on setup.ports next lan) none there
