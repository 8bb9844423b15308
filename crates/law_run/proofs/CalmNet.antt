-- The set-up of a calm script makes a calm network: two end systems with a port each on one LAN, and the rows by which each leads to the other.
use Rattle.std.proofs.Common.{◌≡◌, ◌==◌, ℕ, zero, suc, ◌+◌, ◌<◌, ◌≤◌, Bool, true, false, List, [], ◌∷◌, ◌++◌, length, map, Some, inl, inr, refl, sym, ◌∙◌, ap, subst, arith}
use Rattle.std.specs.Prelude.{nat_eq, slice_get, if◌then◌else◌, unwrap_or}
use Rattle.std.proofs.lemmas.Cmp.{nat_list_eq_equiv}
use Rattle.std.specs.Cmp.Lexicographic.{pointwise}
use Rattle.std.specs.List.{AllByRecursion, Contains}
use Rattle.std.proofs.lemmas.List.Elements.{All-contains, All-from_recursion}
use Rattle.nsap.specs.Address.{covers, is_same_system, system_part}
use Rattle.nsap.specs.declared.port.Hop.{Hop}
use Rattle.nsap.specs.declared.port.Port.{Port}
use Rattle.lan_step.specs.declared.row.Lan.{Lan}
use Rattle.lan_step.specs.declared.row.PortRow.{PortRow}
use Rattle.lan_step.specs.Rows.{AreApart, AreAllApart, same_snpa}
use Rattle.clnp_route.specs.declared.table.RouteRow.{RouteRow}
use Rattle.clnp_route.specs.Routes.{AreDistinct, IsLongest, next_hop}
use Rattle.clnp_route.proofs.Prefixes.{next_found, one_hop}
use Rattle.esis_tables.specs.Rows.{no_rows}
use Rattle.clnp_system.specs.Node.{fresh_node}
use Rattle.clnp_system.specs.Setting.{Setting, is_group}
use Rattle.law_clnp_net.specs.Calm.{AreBoth, IsCalmNet, end_row}
use Rattle.script_lines.specs.declared.line.Line.{Line}
use Rattle.script_lines.specs.declared.line.Line.TheVariants as lines
use Rattle.law_tp4_pair.specs.CalmScript.{IsOneLan, IsRouted}
use Rattle.script_setup.specs.SetUp.{System, SetUp, end_at, nodes_from, nodes_of, nothing_said, ports_at, rows_at, setting_of, titles_of}
use Rattle.script_setup.specs.Fitting.{AreTitlesApart, IsWell}
use Rattle.script_setup.proofs.Elements.{each}
use Rattle.script_setup.proofs.Ports.{number_is}
use Rattle.law_run.proofs.CalmDrawn.{AreEndSystems, SetBy, are_ends}
use Rattle.law_run.proofs.CalmRows.{HasRow, IsDrawn, ports_named, rows_distinct, rows_drawn, rows_named}

-- ---- lists

record AreTwo (systems : List System) (first second : List ℕ) : Type 0 where
  one : System
  other : System
  is : systems ≡ one ∷ other ∷ []
  one_title : one.title ≡ first
  other_title : other.title ≡ second

two : (systems : List System) (first second : List ℕ) → map (λ (s : System). s.title) systems ≡ first ∷ second ∷ [] → AreTwo systems first second
two [] first second is = absurd (cc)
two (one ∷ []) first second is = absurd (cc)
two (one ∷ other ∷ []) first second is = record { one = one; other = other; is = refl; one_title = cc; other_title = cc }
two (one ∷ other ∷ third ∷ systems) first second is = absurd (cc)

only : {A : Type 0} (xs : List A) (x : A) → length xs ≤ 1 → Contains xs x → xs ≡ x ∷ []
only [] x few stands = absurd (omega (arith, stands.1))
only (y ∷ []) x few (zero, lt, is) = ap (λ z. z ∷ []) is
only (y ∷ []) x few (suc k, lt, is) = absurd (omega arith)
only (y ∷ z ∷ xs) x few stands = absurd (omega arith)

is_only : {A : Type 0} (x y : A) → Contains (x ∷ []) y → y ≡ x
is_only x y (zero, lt, is) = sym is
is_only x y (suc k, lt, is) = absurd (omega arith)

-- ---- the ports of two systems

-- a port row of an end system among two
record IsOfTwo (row : PortRow) : Type 0 where
  system : row.system < 2
  end : row.end ≡ true

row_is : (row : PortRow) (system : ℕ) (port : Port) → row.system ≡ system → row.end ≡ true → row.port ≡ port → row ≡ end_row system port
row_is row system port of kind at = λ i. record { system = of i; end = kind i; port = at i }

no_more : (a b : List Port) (x : Port) → a ≡ [] → a ≡ x ∷ b → ⊥
no_more a b x none some = let clash : [] ≡ x ∷ b = sym none ∙ some in cc

-- each row is a port of the one or of the other
counted : (rows : List PortRow) → AllByRecursion IsOfTwo rows → length rows ≡ length (ports_at rows 0) + length (ports_at rows 1)
counted [] all = refl
counted (row ∷ rows) all = by (row.system == 0) refl (row.system == 1) refl (counted rows all.1)
  where
    neither : (n : ℕ) → n < 2 → (n == 0) ≡ false → (n == 1) ≡ false → ⊥
    neither zero lt not_zero not_one = cc
    neither (suc zero) lt not_zero not_one = cc
    neither (suc (suc n)) lt not_zero not_one = omega arith

    by : (a : Bool) → (row.system == 0) ≡ a → (b : Bool) → (row.system == 1) ≡ b → length rows ≡ length (ports_at rows 0) + length (ports_at rows 1)
        → suc (length rows) ≡ length (if a then row.port ∷ ports_at rows 0 else ports_at rows 0) + length (if b then row.port ∷ ports_at rows 1 else ports_at rows 1)
    by true zeroth true first rest = let z = number_is row.system 0 zeroth in let o = number_is row.system 1 first in absurd (omega arith)
    by true zeroth false first rest = omega (arith, rest)
    by false zeroth true first rest = omega (arith, rest)
    by false zeroth false first rest = absurd (neither row.system all.0.system zeroth first)

both_rows : (rows : List PortRow) (here there : Port) → AllByRecursion IsOfTwo rows → ports_at rows 0 ≡ here ∷ [] → ports_at rows 1 ≡ there ∷ [] → AreBoth (end_row 0 here) (end_row 1 there) rows
both_rows [] here there all zeroth first = absurd (cc)
both_rows (row ∷ []) here there all zeroth first =
    let count = counted (row ∷ []) all in
    let a = ap (λ (ports : List Port). length ports) zeroth in let b = ap (λ (ports : List Port). length ports) first in
    absurd (omega (arith, count, a, b))
both_rows (row ∷ other ∷ third ∷ rows) here there all zeroth first =
    let count = counted (row ∷ other ∷ third ∷ rows) all in
    let a = ap (λ (ports : List Port). length ports) zeroth in let b = ap (λ (ports : List Port). length ports) first in
    absurd (omega (arith, count, a, b))
both_rows (row ∷ other ∷ []) here there all zeroth first = by (row.system == 0) refl (row.system == 1) refl (other.system == 0) refl (other.system == 1) refl zeroth first
  where
    at : (a b : Bool) → List Port
    at a b = if a then row.port ∷ (if b then other.port ∷ [] else []) else (if b then other.port ∷ [] else [])

    by : (a : Bool) → (row.system == 0) ≡ a → (b : Bool) → (row.system == 1) ≡ b → (c : Bool) → (other.system == 0) ≡ c → (d : Bool) → (other.system == 1) ≡ d
        → (if a then row.port ∷ (if c then other.port ∷ [] else []) else (if c then other.port ∷ [] else [])) ≡ here ∷ []
        → (if b then row.port ∷ (if d then other.port ∷ [] else []) else (if d then other.port ∷ [] else [])) ≡ there ∷ []
        → AreBoth (end_row 0 here) (end_row 1 there) (row ∷ other ∷ [])
    by true a b first c zeroth_other true d z o = by_order b first o
      where
        by_order : (b : Bool) → (row.system == 1) ≡ b → (if b then row.port ∷ (other.port ∷ []) else (other.port ∷ [])) ≡ there ∷ [] → AreBoth (end_row 0 here) (end_row 1 there) (row ∷ other ∷ [])
        by_order true also is = absurd (cc)
        by_order false also is =
            let at_here : row.port ≡ here = by_first c z in
            let at_there : other.port ≡ there = cc in
            inl (ap (λ (r : PortRow). r ∷ other ∷ []) (row_is row 0 here (number_is row.system 0 a) all.0.end at_here)
            ∙ ap (λ (r : PortRow). end_row 0 here ∷ r ∷ []) (row_is other 1 there (number_is other.system 1 d) all.1.0.end at_there))
          where
            by_first : (c : Bool) → (row.port ∷ (if c then other.port ∷ [] else [])) ≡ here ∷ [] → row.port ≡ here
            by_first true is_two = absurd (cc)
            by_first false is_one = cc
    by false a true b true c d first z o =
        let at_there : row.port ≡ there = by_first d o in
        let at_here : other.port ≡ here = cc in
        inr (ap (λ (r : PortRow). r ∷ other ∷ []) (row_is row 1 there (number_is row.system 1 b) all.0.end at_there)
        ∙ ap (λ (r : PortRow). end_row 1 there ∷ r ∷ []) (row_is other 0 here (number_is other.system 0 c) all.1.0.end at_here))
      where
        by_first : (d : Bool) → (row.port ∷ (if d then other.port ∷ [] else [])) ≡ there ∷ [] → row.port ≡ there
        by_first true is_two = absurd (cc)
        by_first false is_one = cc
    by true a true b c zeroth_other false d z o = absurd (let x = number_is row.system 0 a in let y = number_is row.system 1 b in omega arith)
    by true a false b c zeroth_other false d z o = absurd (cc)
    by false a b first false c d second z o = absurd (cc)
    by false a false b true c true d z o = absurd (let x = number_is other.system 0 c in let y = number_is other.system 1 d in omega arith)
    by false a false b true c false d z o = absurd (cc)

-- ---- the next port

bound_within : (lans : List Lan) (life lan : ℕ) → AllByRecursion (λ (l : Lan). l.bound ≤ life) lans → unwrap_or (slice_get (map (λ (l : Lan). l.bound) lans) lan) 0 ≤ life
bound_within [] life lan all = omega arith
bound_within (first ∷ lans) life zero all = all.0
bound_within (first ∷ lans) life (suc lan) all = bound_within lans life lan all.1

-- the longest of the lines that covers the address is that of the rows
leads : (script : List Line) (rows : List RouteRow) (system lan other : ℕ) (to : Port) (address : List ℕ) (routed : IsRouted script system lan other address) (hop : Hop)
    → AreDistinct rows → Contains rows (record { prefix = routed.prefix; hop = hop }) → AllByRecursion (IsDrawn script system) rows → hop.port ≡ to
    → (found : Hop) × (next_hop rows address ≡ Some found) × (found.port ≡ to)
leads script rows system lan other to address routed hop distinct stands drawn at =
    let row : RouteRow = record { prefix = routed.prefix; hop = hop } in
    let longest : IsLongest rows address row = record {
      stands = stands;
      covering = routed.covering;
      longest = All-from_recursion (λ (r : RouteRow). covers r.prefix address ≡ true → length r.prefix ≤ length routed.prefix) rows
          (each (IsDrawn script system) (λ (r : RouteRow). covers r.prefix address ≡ true → length r.prefix ≤ length routed.prefix) rows
          (λ r drawn_by covering. routed.longest r.prefix drawn_by.next drawn_by.lan drawn_by.line covering) drawn);
    } in
    (hop, one_hop rows address (next_hop rows address) (Some hop) distinct (next_found rows address) (row, longest, refl), at)

-- ---- the whole

-- what a set-up makes: these two systems, which are a calm network
pub record MakesCalm (setup : SetUp) : Type 0 where
  pub first : Setting
  pub second : Setting
  pub here : Port
  pub there : Port
  pub nodes : nodes_of setup ≡ fresh_node first no_rows ∷ fresh_node second no_rows ∷ []
  pub titles : titles_of setup ≡ first.title ∷ second.title ∷ []
  pub calm : IsCalmNet setup.ports first second here there
  pub ends : (n : ℕ) → n < 2 → end_at setup.systems n ≡ true

module _ (script : List Line) (setup : SetUp) (sets : SetBy nothing_said script setup) (w : IsWell setup) (lan : IsOneLan script) (lives : AllByRecursion (λ (l : Lan). l.bound ≤ setup.life) setup.lans) where
  ends_are : AreEndSystems nothing_said script setup
  ends_are = are_ends nothing_said script setup sets lan.none tt

  pair : AreTwo setup.systems lan.first lan.second
  pair = two setup.systems lan.first lan.second (ends_are.titles ∙ lan.ends)

  kinds : (pair.one.end ≡ true) × (pair.other.end ≡ true)
  kinds = let all = subst (AllByRecursion (λ (s : System). s.end ≡ true)) pair.is ends_are.ends in (all.0, all.1.0)

  end_is : (n : ℕ) → n < 2 → end_at setup.systems n ≡ true
  end_is n lt = ap (λ (systems : List System). end_at systems n) pair.is ∙ by n lt
    where
      by : (n : ℕ) → n < 2 → end_at (pair.one ∷ pair.other ∷ []) n ≡ true
      by zero less = kinds.0
      by (suc zero) less = kinds.1
      by (suc (suc k)) less = absurd (omega arith)

  port_of : (n : ℕ) → List ℕ → Port
  port_of n snpa = record { lan = lan.lan; snpa = snpa }

  one_port : (n : ℕ) (snpa : List ℕ) → n < 2 → Contains script (lines.Port n lan.lan snpa) → ports_at setup.ports n ≡ record { lan = lan.lan; snpa = snpa } ∷ []
  one_port n snpa lt named =
      only (ports_at setup.ports n) (record { lan = lan.lan; snpa = snpa }) (subst (λ (b : Bool). length (ports_at setup.ports n) ≤ (if b then 1 else 8)) (end_is n lt) (w.few_ports n))
      (ports_named nothing_said script setup n lan.lan snpa sets named)

  pub here_is : Port
  here_is = record { lan = lan.lan; snpa = lan.first_port.0 }

  pub there_is : Port
  there_is = record { lan = lan.lan; snpa = lan.second_port.0 }

  zeroth_ports : ports_at setup.ports 0 ≡ record { lan = lan.lan; snpa = lan.first_port.0 } ∷ []
  zeroth_ports = one_port 0 lan.first_port.0 (omega arith) lan.first_port.1

  first_ports : ports_at setup.ports 1 ≡ record { lan = lan.lan; snpa = lan.second_port.0 } ∷ []
  first_ports = one_port 1 lan.second_port.0 (omega arith) lan.second_port.1

  count : length setup.systems ≡ 2
  count = ap (λ (systems : List System). length systems) pair.is

  of_two : AllByRecursion IsOfTwo setup.ports
  of_two = each (λ (row : PortRow). (row.system < length setup.systems) × (row.end ≡ end_at setup.systems row.system)) IsOfTwo setup.ports
      (λ row k. let lt : row.system < 2 = subst (λ (n : ℕ). row.system < n) count k.0 in record { system = lt; end = k.1 ∙ end_is row.system lt }) w.kinds

  ports_both : AreBoth (end_row 0 (record { lan = lan.lan; snpa = lan.first_port.0 })) (end_row 1 (record { lan = lan.lan; snpa = lan.second_port.0 })) setup.ports
  ports_both = both_rows setup.ports (record { lan = lan.lan; snpa = lan.first_port.0 }) (record { lan = lan.lan; snpa = lan.second_port.0 }) of_two zeroth_ports first_ports

  -- the SNPAs differ, and are of no group
  record AreSnpas (first second : List ℕ) : Type 0 where
    apart : same_snpa first second ≡ false
    first_single : is_group first ≡ false
    second_single : is_group second ≡ false

  turned : (xs ys : List ℕ) → pointwise nat_eq xs ys ≡ false → pointwise nat_eq ys xs ≡ false
  turned xs ys apart = nat_list_eq_equiv.symm ys xs ∙ apart

  snpas : AreSnpas lan.first_port.0 lan.second_port.0
  snpas = by ports_both
    where
      zeroth : PortRow
      zeroth = end_row 0 (record { lan = lan.lan; snpa = lan.first_port.0 })

      first : PortRow
      first = end_row 1 (record { lan = lan.lan; snpa = lan.second_port.0 })

      by : AreBoth (end_row 0 (record { lan = lan.lan; snpa = lan.first_port.0 })) (end_row 1 (record { lan = lan.lan; snpa = lan.second_port.0 })) setup.ports → AreSnpas lan.first_port.0 lan.second_port.0
      by (inl is) =
          let singles = subst (AllByRecursion (λ (row : PortRow). is_group row.port.snpa ≡ false)) is w.single in
          let apart = subst AreAllApart is w.apart in
          record { apart = (All-contains (AreApart zeroth) (first ∷ []) first apart.0 (0, omega arith, refl)).0; first_single = singles.0; second_single = singles.1.0 }
      by (inr is) =
          let singles = subst (AllByRecursion (λ (row : PortRow). is_group row.port.snpa ≡ false)) is w.single in
          let apart = subst AreAllApart is w.apart in
          record {
            apart = turned lan.second_port.0 lan.first_port.0 (All-contains (AreApart first) (zeroth ∷ []) zeroth apart.0 (0, omega arith, refl)).0;
            first_single = singles.1.0;
            second_single = singles.0;
          }

  rows_zeroth : rows_at setup.systems 0 ≡ pair.one.rows
  rows_zeroth = ap (λ (systems : List System). rows_at systems 0) pair.is

  rows_first : rows_at setup.systems 1 ≡ pair.other.rows
  rows_first = ap (λ (systems : List System). rows_at systems 1) pair.is

  drawn : (n : ℕ) → AllByRecursion (IsDrawn script n) (rows_at setup.systems n)
  drawn = rows_drawn script nothing_said script setup (λ line stands. stands) sets (λ n. tt)

  distinct_rows : (n : ℕ) → AreDistinct (rows_at setup.systems n)
  distinct_rows = rows_distinct nothing_said script setup sets (λ n. tt)

  leads_there : (system other : ℕ) (rows : List RouteRow) (to : Port) (title : List ℕ) → rows_at setup.systems system ≡ rows → ports_at setup.ports other ≡ to ∷ []
      → ((selector : ℕ) → IsRouted script system lan.lan other (system_part title ++ selector ∷ []))
      → (selector : ℕ) → (found : Hop) × (next_hop rows (system_part title ++ selector ∷ []) ≡ Some found) × (found.port ≡ to)
  leads_there system other rows to title are ports routed selector =
      let way = routed selector in
      let row : HasRow setup system way.prefix other = rows_named nothing_said script setup system other lan.lan way.prefix sets way.stands in
      leads script rows system lan.lan other to (system_part title ++ selector ∷ []) way row.hop (subst AreDistinct are (distinct_rows system))
      (subst (λ (r : List RouteRow). Contains r (record { prefix = way.prefix; hop = row.hop })) are row.stands) (subst (AllByRecursion (IsDrawn script system)) are (drawn system))
      (is_only to row.hop.port (subst (λ (p : List Port). Contains p row.hop.port) ports row.port))

  titles_apart : is_same_system pair.one.title pair.other.title ≡ false
  titles_apart = (subst (λ (systems : List System). AreTitlesApart (map (λ (s : System). s.title) systems)) pair.is w.distinct).0.0

  pub makes_calm : MakesCalm setup
  makes_calm = record {
    first = setting_of setup 0 pair.one;
    second = setting_of setup 1 pair.other;
    here = record { lan = lan.lan; snpa = lan.first_port.0 };
    there = record { lan = lan.lan; snpa = lan.second_port.0 };
    nodes = ap (nodes_from setup 0) pair.is;
    titles = ap (λ (systems : List System). map (λ (s : System). s.title) systems) pair.is;
    ends = end_is;
    calm = record {
      first_at = record { system_is = refl; end = kinds.0; ports = zeroth_ports; single = snpas.first_single };
      second_at = record { system_is = refl; end = kinds.1; ports = first_ports; single = snpas.second_single };
      apart = titles_apart;
      lan = refl;
      snpas = snpas.apart;
      ports = ports_both;
      leads = record {
        routed = leads_there 0 1 pair.one.rows (record { lan = lan.lan; snpa = lan.second_port.0 }) pair.other.title rows_zeroth first_ports
            (λ selector. subst (λ (t : List ℕ). IsRouted script 0 lan.lan 1 (system_part t ++ selector ∷ [])) (sym pair.other_title) (lan.there selector));
        lives = bound_within setup.lans setup.life lan.lan lives;
      };
      back = record {
        routed = leads_there 1 0 pair.other.rows (record { lan = lan.lan; snpa = lan.first_port.0 }) pair.one.title rows_first zeroth_ports
            (λ selector. subst (λ (t : List ℕ). IsRouted script 1 lan.lan 0 (system_part t ++ selector ∷ [])) (sym pair.one_title) (lan.back selector));
        lives = bound_within setup.lans setup.life lan.lan lives;
      };
    };
  }
