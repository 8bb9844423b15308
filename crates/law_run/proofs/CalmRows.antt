-- The ports and the rows that the lines of a set-up name stand in it; each row is that of a line, and no two rows of a system have one prefix.
use Rattle.std.proofs.Common.{◌≡◌, ◌⊎◌, ◌==◌, ℕ, zero, suc, Bool, true, false, List, [], ◌∷◌, ◌++◌, Option, Some, None, inl, inr, refl, sym, ◌∙◌, ap, subst, arith}
use Rattle.std.specs.Prelude.{find, slice_get, slice_set, option_map, if◌then◌else◌, IsSome}
use Rattle.std.specs.List.{AllByRecursion, Contains}
use Rattle.std.proofs.lemmas.List.Elements.{Contains-append_left, Contains-push}
use Rattle.nsap.specs.declared.port.Hop.{Hop}
use Rattle.nsap.specs.declared.port.Port.{Port}
use Rattle.lan_step.specs.declared.row.PortRow.{PortRow}
use Rattle.clnp_route.specs.declared.table.RouteRow.{RouteRow}
use Rattle.clnp_route.specs.Routes.{AreDistinct, has_prefix}
use Rattle.clnp_route.proofs.Prefixes.{distinct_push}
use Rattle.script_lines.specs.declared.line.Line.{Line}
use Rattle.script_lines.specs.declared.line.Line.TheVariants as lines
use Rattle.script_setup.specs.SetUp.{System, SetUp, end_at, hop_to, hop_title, port_on, ports_at, routed, rows_at, rows_of, selected, set_up, with_route, with_selector}
use Rattle.script_setup.specs.Fitting.{Fits}
use Rattle.script_setup.proofs.Elements.{push, there}
use Rattle.script_setup.proofs.Ports.{own_is, own_port, ports_push}
use Rattle.script_setup.proofs.Wellness.{rows_more, set_rows}
use Rattle.law_run.proofs.CalmDrawn.{SetBy, first_or_behind, time_leaves}

-- ---- ports

port_stays : (rows : List PortRow) (row : PortRow) (system : ℕ) (port : Port) → Contains (ports_at rows system) port → Contains (ports_at (rows ++ row ∷ []) system) port
port_stays rows row system port stands =
    subst (λ (ports : List Port). Contains ports port) (sym (ports_push rows row system)) (Contains-append_left (ports_at rows system) (own_port row system) port stands)

port_new : (rows : List PortRow) (row : PortRow) → Contains (ports_at (rows ++ row ∷ []) row.system) row.port
port_new rows row =
    subst (λ (ports : List Port). Contains ports row.port) (sym (ports_push rows row row.system ∙ ap (λ (own : List Port). ports_at rows row.system ++ own) (own_is row row.system refl)))
    (Contains-push (ports_at rows row.system) row.port)

line_ports : (old : SetUp) (line : Line) (system : ℕ) (port : Port) → Fits old line → Contains (ports_at old.ports system) port → Contains (ports_at (set_up old line).ports system) port
line_ports old lines.Nothing system port fits stands = stands
line_ports old (lines.Version version) system port fits stands = stands
line_ports old (lines.Set key value) system port fits stands = subst (λ (rows : List PortRow). Contains (ports_at rows system) port) (sym (time_leaves old key value).ports) stands
line_ports old (lines.Lan name bound room) system port fits stands = stands
line_ports old (lines.Es name title) system port fits stands = stands
line_ports old (lines.Is name title) system port fits stands = stands
line_ports old (lines.Port at_system lan snpa) system port fits stands =
    port_stays old.ports (record { system = at_system; end = end_at old.systems at_system; port = record { lan = lan; snpa = snpa } }) system port stands
line_ports old (lines.Route at_system prefix next lan) system port fits stands = stands
line_ports old (lines.Path name kind systems) system port fits stands = stands
line_ports old (lines.Tsap at_system selector) system port fits stands = stands
line_ports old (lines.Relay at_system selector to called) system port fits stands = stands
line_ports old lines.Start system port fits stands = stands
line_ports old (lines.Connect at_system selector to called options octets) system port fits stands = absurd fits
line_ports old (lines.Accept end options octets) system port fits stands = absurd fits
line_ports old (lines.Refuse end octets) system port fits stands = absurd fits
line_ports old (lines.Disconnect end octets) system port fits stands = absurd fits
line_ports old (lines.Data end octets) system port fits stands = absurd fits
line_ports old (lines.Expedite end octets) system port fits stands = absurd fits
line_ports old (lines.Window end credit) system port fits stands = absurd fits
line_ports old (lines.Unit at_system to wish octets) system port fits stands = absurd fits
line_ports old lines.Tick system port fits stands = absurd fits
line_ports old lines.Settle system port fits stands = absurd fits
line_ports old (lines.Deliver frame at_system) system port fits stands = absurd fits
line_ports old (lines.Inject lan at_system octets) system port fits stands = absurd fits
line_ports old (lines.Restart at_system) system port fits stands = absurd fits
line_ports old (lines.Send at_system selector to called octets) system port fits stands = absurd fits

pub ports_stay : (old : SetUp) (script : List Line) (new : SetUp) (system : ℕ) (port : Port) → SetBy old script new → Contains (ports_at old.ports system) port → Contains (ports_at new.ports system) port
ports_stay old [] new system port same stands = subst (λ (s : SetUp). Contains (ports_at s.ports system) port) (sym same) stands
ports_stay old (line ∷ script) new system port h stands = ports_stay (set_up old line) script new system port h.1 (line_ports old line system port h.0 stands)

-- a port that a line names is there
pub ports_named : (old : SetUp) (script : List Line) (new : SetUp) (system lan : ℕ) (snpa : List ℕ) → SetBy old script new → Contains script (lines.Port system lan snpa)
    → Contains (ports_at new.ports system) (record { lan = lan; snpa = snpa })
ports_named old [] new system lan snpa h named = absurd (omega (arith, named.1))
ports_named old (line ∷ script) new system lan snpa h named = by (first_or_behind line (lines.Port system lan snpa) script named) (λ behind. ports_named (set_up old line) script new system lan snpa h.1 behind)
  where
    by : (line ≡ lines.Port system lan snpa) ⊎ Contains script (lines.Port system lan snpa) → (Contains script (lines.Port system lan snpa) → Contains (ports_at new.ports system) (record { lan = lan; snpa = snpa }))
        → Contains (ports_at new.ports system) (record { lan = lan; snpa = snpa })
    by (inl here) go =
        ports_stay (set_up old (lines.Port system lan snpa)) script new system (record { lan = lan; snpa = snpa }) (subst (λ (l : Line). SetBy (set_up old l) script new) here h.1)
        (port_new old.ports (record { system = system; end = end_at old.systems system; port = record { lan = lan; snpa = snpa } }))
    by (inr behind) go = go behind

-- ---- rows

-- a system that is changed has its new rows, and the others keep theirs
rows_set : (systems : List System) (i : ℕ) (system new : System) → slice_get systems i ≡ Some system → rows_at (slice_set systems i new) i ≡ new.rows
rows_set [] i system new is = absurd (cc)
rows_set (first ∷ systems) zero system new is = refl
rows_set (first ∷ systems) (suc i) system new is = rows_set systems i system new is

row_stays : (systems : List System) (i : ℕ) (system new : System) (row : RouteRow) → slice_get systems i ≡ Some system → (Contains system.rows row → Contains new.rows row)
    → (n : ℕ) → Contains (rows_at systems n) row → Contains (rows_at (slice_set systems i new) n) row
row_stays [] i system new row is more n stands = absurd (cc)
row_stays (first ∷ systems) zero system new row is more zero stands = let here : first ≡ system = cc in more (subst (λ (s : System). Contains s.rows row) here stands)
row_stays (first ∷ systems) zero system new row is more (suc n) stands = stands
row_stays (first ∷ systems) (suc i) system new row is more zero stands = stands
row_stays (first ∷ systems) (suc i) system new row is more (suc n) stands = row_stays systems i system new row is more n stands

whole_set : (P : List RouteRow → Type 0) (systems : List System) (i : ℕ) (system new : System) → slice_get systems i ≡ Some system → ((n : ℕ) → P (rows_at systems n)) → P new.rows
    → (n : ℕ) → P (rows_at (slice_set systems i new) n)
whole_set P [] i system new is all here n = absurd (cc)
whole_set P (first ∷ systems) zero system new is all here zero = here
whole_set P (first ∷ systems) zero system new is all here (suc n) = all (suc n)
whole_set P (first ∷ systems) (suc i) system new is all here zero = all 0
whole_set P (first ∷ systems) (suc i) system new is all here (suc n) = whole_set P systems i system new is (λ m. all (suc m)) here n

abbrev with_row : System → RouteRow → System
with_row system row = record system { rows = system.rows ++ row ∷ [] }

abbrev row_of : List ℕ → Hop → RouteRow
row_of prefix hop = record { prefix = prefix; hop = hop }

-- what a route line does, where its ports are there
record HasHop (old : SetUp) (next lan : ℕ) : Type 0 where
  hop : Hop
  is : hop_to old next lan ≡ Some hop
  port : Contains (ports_at old.ports next) hop.port

find_there : (p : Port → Bool) (ports : List Port) (port : Port) → find p ports ≡ Some port → Contains ports port
find_there p [] port is = absurd (cc)
find_there p (first ∷ ports) port is = by (find_there p ports port) (p first) is
  where
    by : (find p ports ≡ Some port → Contains ports port) → (b : Bool) → (if b then Some first else find p ports) ≡ Some port → Contains (first ∷ ports) port
    by rest true here = let same : first ≡ port = cc in (0, omega arith, same)
    by rest false here = let behind = rest here in (suc behind.0, (let lt = behind.1 in omega arith), behind.2)

has_hop : (old : SetUp) (next lan : ℕ) → IsSome (port_on old.ports next lan) → HasHop old next lan
has_hop old next lan some = by (port_on old.ports next lan) refl some
  where
    by : (found : Option Port) → port_on old.ports next lan ≡ found → IsSome found → HasHop old next lan
    by None is clash = absurd (cc)
    by (Some port) is there_is =
        let hop : Hop = record { port = port; title = hop_title (slice_get old.systems next) } in
        record {
          hop = hop;
          is = ap (λ (found : Option Port). option_map (λ (p : Port). record { port = p; title = hop_title (slice_get old.systems next) }) found) is;
          port = find_there (λ p. p.lan == lan) (ports_at old.ports next) port is;
        }

-- the systems after a route line
route_is : (systems : List System) (i : ℕ) (prefix : List ℕ) (hop : Hop) (found : Option Hop) (system : System) → found ≡ Some hop → slice_get systems i ≡ Some system
    → with_route systems i prefix found ≡ slice_set systems i (with_row system (row_of prefix hop))
route_is systems i prefix hop found system is there =
    ap (λ (f : Option Hop). with_route systems i prefix f) is ∙ ap (λ (f : Option System). routed systems i prefix hop f) there

-- the systems after a line of a selector have their rows
abbrev with_one : System → List ℕ → System
with_one system selector = record system { selectors = system.selectors ++ selector ∷ [] }

selector_is : (systems : List System) (i : ℕ) (selector : List ℕ) (system : System) → slice_get systems i ≡ Some system → with_selector systems i selector ≡ slice_set systems i (with_one system selector)
selector_is systems i selector system there = ap (λ (f : Option System). selected systems i selector f) there

-- what holds of the rows of each system goes on holding, where it does of a new row
record KeepsRows (Q : ℕ → RouteRow → Type 0) (old new : List System) : Type 0 where
  all : ((n : ℕ) → AllByRecursion (Q n) (rows_at old n)) → (n : ℕ) → AllByRecursion (Q n) (rows_at new n)

module _ (Q : ℕ → RouteRow → Type 0) where
  rows_there : (systems : List System) (i : ℕ) (system : System) → slice_get systems i ≡ Some system → ((n : ℕ) → AllByRecursion (Q n) (rows_at systems n)) → AllByRecursion (Q i) system.rows
  rows_there systems i system is all = subst (λ (found : Option System). AllByRecursion (Q i) (rows_of found)) is (all i)

  line_rows : (old : SetUp) (line : Line) → Fits old line → ((system next lan : ℕ) (prefix : List ℕ) (hop : Hop) → line ≡ lines.Route system prefix next lan → Q system (row_of prefix hop))
      → ((n : ℕ) → AllByRecursion (Q n) (rows_at old.systems n)) → (n : ℕ) → AllByRecursion (Q n) (rows_at (set_up old line).systems n)
  line_rows old lines.Nothing fits new all n = all n
  line_rows old (lines.Version version) fits new all n = all n
  line_rows old (lines.Set key value) fits new all n = subst (λ (systems : List System). AllByRecursion (Q n) (rows_at systems n)) (sym (time_leaves old key value).systems) (all n)
  line_rows old (lines.Lan name bound room) fits new all n = all n
  line_rows old (lines.Es name title) fits new all n = subst (AllByRecursion (Q n)) (sym (rows_more old.systems true title n)) (all n)
  line_rows old (lines.Is name title) fits new all n = subst (AllByRecursion (Q n)) (sym (rows_more old.systems false title n)) (all n)
  line_rows old (lines.Port system lan snpa) fits new all n = all n
  line_rows old (lines.Route system prefix next lan) fits new all n =
      let way = has_hop old next lan fits.there in
      let at = there old.systems system fits.known in
      let row : RouteRow = row_of prefix way.hop in
      subst (λ (systems : List System). AllByRecursion (Q n) (rows_at systems n)) (sym (route_is old.systems system prefix way.hop (hop_to old next lan) at.elem way.is at.is))
      (set_rows Q old.systems system at.elem (with_row at.elem row) at.is all (push (Q system) at.elem.rows row (rows_there old.systems system at.elem at.is all) (new system next lan prefix way.hop refl)) n)
  line_rows old (lines.Path name kind systems) fits new all n = all n
  line_rows old (lines.Tsap system selector) fits new all n =
      let at = there old.systems system fits.known in
      subst (λ (systems : List System). AllByRecursion (Q n) (rows_at systems n)) (sym (selector_is old.systems system selector at.elem at.is))
      (set_rows Q old.systems system at.elem (with_one at.elem selector) at.is all (rows_there old.systems system at.elem at.is all) n)
  line_rows old (lines.Relay system selector to called) fits new all n =
      let at = there old.systems system fits.fresh.known in
      subst (λ (systems : List System). AllByRecursion (Q n) (rows_at systems n)) (sym (selector_is old.systems system selector at.elem at.is))
      (set_rows Q old.systems system at.elem (with_one at.elem selector) at.is all (rows_there old.systems system at.elem at.is all) n)
  line_rows old lines.Start fits new all n = all n
  line_rows old (lines.Connect system selector to called options octets) fits new all n = absurd fits
  line_rows old (lines.Accept end options octets) fits new all n = absurd fits
  line_rows old (lines.Refuse end octets) fits new all n = absurd fits
  line_rows old (lines.Disconnect end octets) fits new all n = absurd fits
  line_rows old (lines.Data end octets) fits new all n = absurd fits
  line_rows old (lines.Expedite end octets) fits new all n = absurd fits
  line_rows old (lines.Window end credit) fits new all n = absurd fits
  line_rows old (lines.Unit system to wish octets) fits new all n = absurd fits
  line_rows old lines.Tick fits new all n = absurd fits
  line_rows old lines.Settle fits new all n = absurd fits
  line_rows old (lines.Deliver frame system) fits new all n = absurd fits
  line_rows old (lines.Inject lan system octets) fits new all n = absurd fits
  line_rows old (lines.Restart system) fits new all n = absurd fits
  line_rows old (lines.Send system selector to called octets) fits new all n = absurd fits

-- each row is that of a line
pub record IsDrawn (script : List Line) (system : ℕ) (row : RouteRow) : Type 0 where
  pub next : ℕ
  pub lan : ℕ
  pub line : Contains script (lines.Route system row.prefix next lan)

pub rows_drawn : (whole : List Line) (old : SetUp) (script : List Line) (new : SetUp) → ((line : Line) → Contains script line → Contains whole line) → SetBy old script new
    → ((n : ℕ) → AllByRecursion (IsDrawn whole n) (rows_at old.systems n)) → (n : ℕ) → AllByRecursion (IsDrawn whole n) (rows_at new.systems n)
rows_drawn whole old [] new among same all n = subst (λ (s : SetUp). AllByRecursion (IsDrawn whole n) (rows_at s.systems n)) (sym same) (all n)
rows_drawn whole old (line ∷ script) new among h all n =
    rows_drawn whole (set_up old line) script new (λ other stands. among other (suc stands.0, (let lt = stands.1 in omega arith), stands.2)) h.1
    (line_rows (IsDrawn whole) old line h.0
    (λ system next lan prefix hop is. record { next = next; lan = lan; line = subst (Contains whole) is (among line (0, omega arith, refl)) }) all) n

-- ---- rows stay

line_row_stays : (old : SetUp) (line : Line) (row : RouteRow) (n : ℕ) → Fits old line → Contains (rows_at old.systems n) row → Contains (rows_at (set_up old line).systems n) row
line_row_stays old lines.Nothing row n fits stands = stands
line_row_stays old (lines.Version version) row n fits stands = stands
line_row_stays old (lines.Set key value) row n fits stands = subst (λ (systems : List System). Contains (rows_at systems n) row) (sym (time_leaves old key value).systems) stands
line_row_stays old (lines.Lan name bound room) row n fits stands = stands
line_row_stays old (lines.Es name title) row n fits stands = subst (λ (rows : List RouteRow). Contains rows row) (sym (rows_more old.systems true title n)) stands
line_row_stays old (lines.Is name title) row n fits stands = subst (λ (rows : List RouteRow). Contains rows row) (sym (rows_more old.systems false title n)) stands
line_row_stays old (lines.Port system lan snpa) row n fits stands = stands
line_row_stays old (lines.Route system prefix next lan) row n fits stands =
    let way = has_hop old next lan fits.there in
    let at = there old.systems system fits.known in
    subst (λ (systems : List System). Contains (rows_at systems n) row) (sym (route_is old.systems system prefix way.hop (hop_to old next lan) at.elem way.is at.is))
    (row_stays old.systems system at.elem (with_row at.elem (row_of prefix way.hop)) row at.is (λ here. Contains-append_left at.elem.rows (row_of prefix way.hop ∷ []) row here) n stands)
line_row_stays old (lines.Path name kind systems) row n fits stands = stands
line_row_stays old (lines.Tsap system selector) row n fits stands =
    let at = there old.systems system fits.known in
    subst (λ (systems : List System). Contains (rows_at systems n) row) (sym (selector_is old.systems system selector at.elem at.is))
    (row_stays old.systems system at.elem (with_one at.elem selector) row at.is (λ here. here) n stands)
line_row_stays old (lines.Relay system selector to called) row n fits stands =
    let at = there old.systems system fits.fresh.known in
    subst (λ (systems : List System). Contains (rows_at systems n) row) (sym (selector_is old.systems system selector at.elem at.is))
    (row_stays old.systems system at.elem (with_one at.elem selector) row at.is (λ here. here) n stands)
line_row_stays old lines.Start row n fits stands = stands
line_row_stays old (lines.Connect system selector to called options octets) row n fits stands = absurd fits
line_row_stays old (lines.Accept end options octets) row n fits stands = absurd fits
line_row_stays old (lines.Refuse end octets) row n fits stands = absurd fits
line_row_stays old (lines.Disconnect end octets) row n fits stands = absurd fits
line_row_stays old (lines.Data end octets) row n fits stands = absurd fits
line_row_stays old (lines.Expedite end octets) row n fits stands = absurd fits
line_row_stays old (lines.Window end credit) row n fits stands = absurd fits
line_row_stays old (lines.Unit system to wish octets) row n fits stands = absurd fits
line_row_stays old lines.Tick row n fits stands = absurd fits
line_row_stays old lines.Settle row n fits stands = absurd fits
line_row_stays old (lines.Deliver frame system) row n fits stands = absurd fits
line_row_stays old (lines.Inject lan system octets) row n fits stands = absurd fits
line_row_stays old (lines.Restart system) row n fits stands = absurd fits
line_row_stays old (lines.Send system selector to called octets) row n fits stands = absurd fits

-- a row of that prefix stands there, by a port of the system that is next
pub record HasRow (setup : SetUp) (system : ℕ) (prefix : List ℕ) (next : ℕ) : Type 0 where
  pub hop : Hop
  pub stands : Contains (rows_at setup.systems system) (record { prefix = prefix; hop = hop })
  pub port : Contains (ports_at setup.ports next) hop.port

row_goes_on : (old : SetUp) (script : List Line) (new : SetUp) (system : ℕ) (prefix : List ℕ) (next : ℕ) → SetBy old script new → HasRow old system prefix next → HasRow new system prefix next
row_goes_on old [] new system prefix next same h = subst (λ (s : SetUp). HasRow s system prefix next) (sym same) h
row_goes_on old (line ∷ script) new system prefix next sets h =
    row_goes_on (set_up old line) script new system prefix next sets.1
    (record { hop = h.hop; stands = line_row_stays old line (row_of prefix h.hop) system sets.0 h.stands; port = line_ports old line next h.hop.port sets.0 h.port })

new_row : (old : SetUp) (system : ℕ) (prefix : List ℕ) (next lan : ℕ) → Fits old (lines.Route system prefix next lan) → HasRow (set_up old (lines.Route system prefix next lan)) system prefix next
new_row old system prefix next lan fits =
    let way = has_hop old next lan fits.there in
    let at = there old.systems system fits.known in
    let row : RouteRow = row_of prefix way.hop in
    record {
      hop = way.hop;
      stands = subst (λ (systems : List System). Contains (rows_at systems system) row) (sym (route_is old.systems system prefix way.hop (hop_to old next lan) at.elem way.is at.is))
          (subst (λ (rows : List RouteRow). Contains rows row) (sym (rows_set old.systems system at.elem (with_row at.elem row) at.is)) (Contains-push at.elem.rows row));
      port = way.port;
    }

-- the row of a line is there
pub rows_named : (old : SetUp) (script : List Line) (new : SetUp) (system next lan : ℕ) (prefix : List ℕ) → SetBy old script new → Contains script (lines.Route system prefix next lan)
    → HasRow new system prefix next
rows_named old [] new system next lan prefix h named = absurd (omega (arith, named.1))
rows_named old (line ∷ script) new system next lan prefix h named =
    by (first_or_behind line (lines.Route system prefix next lan) script named) (λ behind. rows_named (set_up old line) script new system next lan prefix h.1 behind)
  where
    by : (line ≡ lines.Route system prefix next lan) ⊎ Contains script (lines.Route system prefix next lan) → (Contains script (lines.Route system prefix next lan) → HasRow new system prefix next) → HasRow new system prefix next
    by (inl here) go =
        let sets = subst (λ (l : Line). Fits old l × SetBy (set_up old l) script new) here h in
        row_goes_on (set_up old (lines.Route system prefix next lan)) script new system prefix next sets.1 (new_row old system prefix next lan sets.0)
    by (inr behind) go = go behind

-- ---- no prefix stands twice

line_distinct : (old : SetUp) (line : Line) → Fits old line → ((n : ℕ) → AreDistinct (rows_at old.systems n)) → (n : ℕ) → AreDistinct (rows_at (set_up old line).systems n)
line_distinct old lines.Nothing fits all n = all n
line_distinct old (lines.Version version) fits all n = all n
line_distinct old (lines.Set key value) fits all n = subst (λ (systems : List System). AreDistinct (rows_at systems n)) (sym (time_leaves old key value).systems) (all n)
line_distinct old (lines.Lan name bound room) fits all n = all n
line_distinct old (lines.Es name title) fits all n = subst AreDistinct (sym (rows_more old.systems true title n)) (all n)
line_distinct old (lines.Is name title) fits all n = subst AreDistinct (sym (rows_more old.systems false title n)) (all n)
line_distinct old (lines.Port system lan snpa) fits all n = all n
line_distinct old (lines.Route system prefix next lan) fits all n =
    let way = has_hop old next lan fits.there in
    let at = there old.systems system fits.known in
    let row : RouteRow = row_of prefix way.hop in
    let rows : rows_at old.systems system ≡ at.elem.rows = ap rows_of at.is in
    subst (λ (systems : List System). AreDistinct (rows_at systems n)) (sym (route_is old.systems system prefix way.hop (hop_to old next lan) at.elem way.is at.is))
    (whole_set AreDistinct old.systems system at.elem (with_row at.elem row) at.is all
    (distinct_push at.elem.rows row (subst AreDistinct rows (all system)) (subst (λ (r : List RouteRow). has_prefix r prefix ≡ false) rows fits.fresh)) n)
line_distinct old (lines.Path name kind systems) fits all n = all n
line_distinct old (lines.Tsap system selector) fits all n =
    let at = there old.systems system fits.known in
    subst (λ (systems : List System). AreDistinct (rows_at systems n)) (sym (selector_is old.systems system selector at.elem at.is))
    (whole_set AreDistinct old.systems system at.elem (with_one at.elem selector) at.is all (subst AreDistinct (ap rows_of at.is) (all system)) n)
line_distinct old (lines.Relay system selector to called) fits all n =
    let at = there old.systems system fits.fresh.known in
    subst (λ (systems : List System). AreDistinct (rows_at systems n)) (sym (selector_is old.systems system selector at.elem at.is))
    (whole_set AreDistinct old.systems system at.elem (with_one at.elem selector) at.is all (subst AreDistinct (ap rows_of at.is) (all system)) n)
line_distinct old lines.Start fits all n = all n
line_distinct old (lines.Connect system selector to called options octets) fits all n = absurd fits
line_distinct old (lines.Accept end options octets) fits all n = absurd fits
line_distinct old (lines.Refuse end octets) fits all n = absurd fits
line_distinct old (lines.Disconnect end octets) fits all n = absurd fits
line_distinct old (lines.Data end octets) fits all n = absurd fits
line_distinct old (lines.Expedite end octets) fits all n = absurd fits
line_distinct old (lines.Window end credit) fits all n = absurd fits
line_distinct old (lines.Unit system to wish octets) fits all n = absurd fits
line_distinct old lines.Tick fits all n = absurd fits
line_distinct old lines.Settle fits all n = absurd fits
line_distinct old (lines.Deliver frame system) fits all n = absurd fits
line_distinct old (lines.Inject lan system octets) fits all n = absurd fits
line_distinct old (lines.Restart system) fits all n = absurd fits
line_distinct old (lines.Send system selector to called octets) fits all n = absurd fits

pub rows_distinct : (old : SetUp) (script : List Line) (new : SetUp) → SetBy old script new → ((n : ℕ) → AreDistinct (rows_at old.systems n)) → (n : ℕ) → AreDistinct (rows_at new.systems n)
rows_distinct old [] new same all n = subst (λ (s : SetUp). AreDistinct (rows_at s.systems n)) (sym same) (all n)
rows_distinct old (line ∷ script) new h all n = rows_distinct (set_up old line) script new h.1 (line_distinct old line h.0 all) n
