-- The rows of the end systems are as the LANs have them: each system has its own number, title and port, and a frame for its port goes to it alone.
use Rattle.std.proofs.Common.{◌≡◌, ◌==◌, ◌&&◌, ◌||◌, ℕ, zero, suc, ◌+◌, ◌≤◌, Bool, true, false, nat_eq, List, [], ◌∷◌, ◌++◌, map, Option, Some, None, refl, sym, ◌∙◌, ap, subst, arith}
use Rattle.std.specs.Prelude.{◌%◌, if◌then◌else◌, option_map, slice_get}
use Rattle.std.specs.List.{AllByRecursion}
use Rattle.std.specs.Cmp.Lexicographic.{pointwise}
use Rattle.std.proofs.lemmas.Bool.{false≢true}
use Rattle.std.proofs.lemmas.Bool.Decides.{nat_tests}
use Rattle.std.proofs.lemmas.List.Elements.{recursion_from_All}
use Rattle.std.proofs.lemmas.Option.{slice_get-map}
use Rattle.osi_base.proofs.Members.{all_both}
use Rattle.nsap.specs.Address.{is_same_system, system_part}
use Rattle.nsap.specs.declared.port.Port.{Port}
use Rattle.inactive_step.specs.declared.row.InactiveRow.{InactiveRow}
use Rattle.inactive_step.specs.Rows.{AreAllApart as AreRowsApart, AreApart as AreTwoApart, AreServed, IsPromised}
use Rattle.inactive_step.proofs.Found.{equal_numbers, same_numbers}
use Rattle.lan_step.specs.declared.row.Lan.{Lan}
use Rattle.lan_step.specs.declared.row.PortRow.{PortRow}
use Rattle.lan_step.specs.Bag.{Bag, link_of, new_bag}
use Rattle.lan_step.specs.Rows.{AreAllApart, AreApart, IsLan, room_on, same_port, same_snpa, sender_of}
use Rattle.lan_step.specs.Receivers.{goes_to, group_of_kind, is_one_of}
use Rattle.lan_bag.proofs.LanLists.{second_shut}
use Rattle.clnp_system.specs.Setting.{is_group}
use Rattle.script_setup.specs.Fitting.{AreTitlesApart, IsWell}
use Rattle.script_setup.specs.Inactive.{inactive_at, inactive_from, inactive_rows, port_of, row_of}
use Rattle.script_setup.specs.SetUp.{System, SetUp}
use Rattle.script_setup.proofs.Elements.{at, each, find_all, find_passes}
use Rattle.script_setup.proofs.Ports.{number_is, same_number}

-- ---- a port of its own

both_are : (a b : Bool) → a ≡ true → b ≡ true → (a && b) ≡ true
both_are true true is other = refl
both_are true false is other = absurd (cc)
both_are false b is other = absurd (cc)

own_port : (port : Port) → same_port port port ≡ true
own_port port = both_are (port.lan == port.lan) (same_snpa port.snpa port.snpa) (same_number port.lan) (equal_numbers port.snpa)

-- the system that has the port is that system
pub sender_is : (ports : List PortRow) (number : ℕ) (row : PortRow) → AreAllApart ports → port_of ports number ≡ Some row → sender_of ports row.port ≡ Some row.system
sender_is [] number row apart is = absurd (cc)
sender_is (first ∷ ports) number row apart is = by (sender_is ports number row apart.1) (first.system == number) is
  where
    by : (port_of ports number ≡ Some row → sender_of ports row.port ≡ Some row.system) → (b : Bool) → (if b then Some first else port_of ports number) ≡ Some row
        → sender_of (first ∷ ports) row.port ≡ Some row.system
    by rest true found =
        let same : first ≡ row = cc in
        subst (λ (r : PortRow). sender_of (first ∷ ports) r.port ≡ Some r.system) same
        (ap (λ (b : Bool). if b then Some first.system else sender_of ports first.port) (own_port first.port))
    by rest false found =
        let other : AreApart first row = find_all (AreApart first) (λ (r : PortRow). r.system == number) ports row (recursion_from_All (AreApart first) ports apart.0) found in
        ap (λ (b : Bool). if b then Some first.system else sender_of ports row.port) (second_shut (first.port.lan == row.port.lan) (same_snpa first.port.snpa row.port.snpa) other.0)
        ∙ rest found

-- it is the port of a system of that number
number_of : (ports : List PortRow) (number : ℕ) (row : PortRow) → port_of ports number ≡ Some row → row.system ≡ number
number_of ports number row is = number_is row.system number (find_passes (λ (r : PortRow). r.system == number) ports row is)

-- ---- a frame for a port

-- an SNPA of one system is no group's
not_of_group : (end : Bool) (snpa : List ℕ) → is_group snpa ≡ false → same_snpa (group_of_kind end) snpa ≡ false
not_of_group true [] single = refl
not_of_group false [] single = refl
not_of_group end (octet ∷ snpa) single = by (nat_eq 9 octet) refl
  where
    odd : nat_eq 9 octet ≡ true → is_group (octet ∷ snpa) ≡ true
    odd is = let same : 9 ≡ octet = grind (arith, nat_tests) in subst (λ (o : ℕ). (o % 2 == 1) ≡ true) same refl

    kind : (k b : Bool) → nat_eq 9 octet ≡ b → b ≡ false → same_snpa (group_of_kind k) (octet ∷ snpa) ≡ false
    kind true b is none = let first : nat_eq 9 octet ≡ false = is ∙ none in rw first refl
    kind false b is none = let first : nat_eq 9 octet ≡ false = is ∙ none in rw first refl

    by : (b : Bool) → nat_eq 9 octet ≡ b → same_snpa (group_of_kind end) (octet ∷ snpa) ≡ false
    by true is = absurd (let group = odd is in cc)
    by false is = kind end false is refl

none_named : (a b c : Bool) → a ≡ false → b ≡ false → (c && (a || b)) ≡ false
none_named false false c is other = second_shut c false refl
none_named true b c is other = absurd (cc)
none_named false true c is other = absurd (cc)

-- a port with another SNPA is not one of a port that is of one system
not_one_of : (to : Port) (row : PortRow) → is_group to.snpa ≡ false → same_snpa row.port.snpa to.snpa ≡ false → is_one_of to row ≡ false
not_one_of to row single other =
    none_named (same_snpa row.port.snpa to.snpa) (same_snpa (group_of_kind row.end) to.snpa) (row.port.lan == to.lan) other (not_of_group row.end to.snpa single)

none_there : (a b : Bool) → a ≡ false → b ≡ false → (a || b) ≡ false
none_there false false is other = refl
none_there true b is other = absurd (cc)
none_there false true is other = absurd (cc)

none_other : (ports : List PortRow) (to : Port) (system : ℕ) → is_group to.snpa ≡ false → AllByRecursion (λ (row : PortRow). same_snpa row.port.snpa to.snpa ≡ false) ports → goes_to ports to system ≡ false
none_other [] to system single others = refl
none_other (row ∷ ports) to system single others =
    none_there (row.system == system && is_one_of to row) (goes_to ports to system)
    (second_shut (row.system == system) (is_one_of to row) (not_one_of to row single others.0)) (none_other ports to system single others.1)

-- it is one of itself
one_of_own : (row : PortRow) → is_one_of row.port row ≡ true
one_of_own row = by (row.port.lan == row.port.lan) (same_snpa row.port.snpa row.port.snpa) (same_snpa (group_of_kind row.end) row.port.snpa) (same_number row.port.lan) (equal_numbers row.port.snpa)
  where
    by : (a b c : Bool) → a ≡ true → b ≡ true → (a && (b || c)) ≡ true
    by true true c is other = refl
    by true false c is other = absurd (cc)
    by false b c is other = absurd (cc)

turned : (xs ys : List ℕ) → pointwise nat_eq xs ys ≡ false → pointwise nat_eq ys xs ≡ false
turned xs ys other = by (pointwise nat_eq ys xs) refl
  where
    by : (b : Bool) → pointwise nat_eq ys xs ≡ b → pointwise nat_eq ys xs ≡ false
    by true is =
        let same : ys ≡ xs = same_numbers ys xs is in
        absurd (false≢true (sym other ∙ ap (λ (zs : List ℕ). pointwise nat_eq xs zs) same ∙ equal_numbers xs))
    by false is = is

only_one : (a b c : Bool) → b ≡ true → c ≡ false → ((a && b) || c) ≡ a
only_one true true false is none = refl
only_one false true false is none = refl
only_one a true true is none = absurd (cc)
only_one a false c is none = absurd (cc)

pub goes_home : (ports : List PortRow) (number : ℕ) (row : PortRow) (system : ℕ) → AreAllApart ports → AllByRecursion (λ (r : PortRow). is_group r.port.snpa ≡ false) ports
    → port_of ports number ≡ Some row → goes_to ports row.port system ≡ (row.system == system)
goes_home [] number row system apart single is = absurd (cc)
goes_home (first ∷ ports) number row system apart single is = by (goes_home ports number row system apart.1 single.1) (first.system == number) is
  where
    apart_all : AllByRecursion (AreApart first) ports
    apart_all = recursion_from_All (AreApart first) ports apart.0

    by : (port_of ports number ≡ Some row → goes_to ports row.port system ≡ (row.system == system)) → (b : Bool) → (if b then Some first else port_of ports number) ≡ Some row
        → goes_to (first ∷ ports) row.port system ≡ (row.system == system)
    by rest true found =
        let same : first ≡ row = cc in
        subst (λ (r : PortRow). goes_to (first ∷ ports) r.port system ≡ (r.system == system)) same
        (only_one (first.system == system) (is_one_of first.port first) (goes_to ports first.port system) (one_of_own first)
        (none_other ports first.port system single.0
        (each (AreApart first) (λ (r : PortRow). same_snpa r.port.snpa first.port.snpa ≡ false) ports (λ r other. turned first.port.snpa r.port.snpa other.0) apart_all)))
    by rest false found =
        let other : AreApart first row = find_all (AreApart first) (λ (r : PortRow). r.system == number) ports row apart_all found in
        let alone : is_group row.port.snpa ≡ false = find_all (λ (r : PortRow). is_group r.port.snpa ≡ false) (λ (r : PortRow). r.system == number) ports row single.1 found in
        ap (λ (b : Bool). b || goes_to ports row.port system) (second_shut (first.system == system) (is_one_of row.port first) (not_one_of row.port first alone other.0)) ∙ rest found

-- ---- the rows of the systems

-- what holds of the row of each end system with a port
module _ (P : InactiveRow → Type 0) (lans : List Lan) (ports : List PortRow) where
  of_system : (number : ℕ) (system : System) (found : Option PortRow) → ((row : PortRow) → found ≡ Some row → P (row_of lans number system row))
      → AllByRecursion P (inactive_at lans number system found)
  of_system number system None holds = tt
  of_system number system (Some row) holds = by system.end
    where
      by : (b : Bool) → AllByRecursion P (if b then row_of lans number system row ∷ [] else [])
      by true = (holds row refl, tt)
      by false = tt

  pub of_rows : (number : ℕ) (systems : List System)
      → ((place : ℕ) (system : System) (row : PortRow) → slice_get systems place ≡ Some system → port_of ports (number + place) ≡ Some row → P (row_of lans (number + place) system row))
      → AllByRecursion P (inactive_from lans ports number systems)
  of_rows number [] holds = tt
  of_rows number (system ∷ systems) holds =
      let here : number + 0 ≡ number = omega arith in
      let next : (place : ℕ) → number + suc place ≡ (number + 1) + place = λ place. omega arith in
      all_both P (inactive_at lans number system (port_of ports number)) (inactive_from lans ports (number + 1) systems)
      (of_system number system (port_of ports number) (λ row is.
      subst (λ (n : ℕ). P (row_of lans n system row)) here (holds 0 system row refl (subst (λ (n : ℕ). port_of ports n ≡ Some row) (sym here) is))))
      (of_rows (number + 1) systems (λ place other row is found.
      subst (λ (n : ℕ). P (row_of lans n other row)) (next place) (holds (suc place) other row is (subst (λ (n : ℕ). port_of ports n ≡ Some row) (sym (next place)) found))))

-- ---- two of them

short : (ys : List ℕ) (x : ℕ) → pointwise nat_eq [] (ys ++ x ∷ []) ≡ false
short [] x = refl
short (y ∷ ys) x = refl

long : (ys : List ℕ) (x : ℕ) → pointwise nat_eq (ys ++ x ∷ []) [] ≡ false
long [] x = refl
long (y ∷ ys) x = refl

same_end : (xs ys : List ℕ) (x : ℕ) → pointwise nat_eq (xs ++ x ∷ []) (ys ++ x ∷ []) ≡ pointwise nat_eq xs ys
same_end [] [] x = both_are (nat_eq x x) true (grind (arith, nat_tests)) refl
same_end [] (y ∷ ys) x = second_shut (nat_eq x y) (pointwise nat_eq [] (ys ++ x ∷ [])) (short ys x)
same_end (y ∷ ys) [] x = second_shut (nat_eq y x) (pointwise nat_eq (ys ++ x ∷ []) []) (long ys x)
same_end (x ∷ xs) (y ∷ ys) z = ap (λ (b : Bool). nat_eq x y && b) (same_end xs ys z)

parts : (a b : Bool) → (a && b) ≡ true → (a ≡ true) × (b ≡ true)
parts true true is = (refl, refl)
parts true false is = absurd (cc)
parts false b is = absurd (cc)

module _ (ports : List PortRow) (apart : AreAllApart ports) where
  ports_differ : (m n : ℕ) (p q : PortRow) → (m ≡ n → ⊥) → port_of ports m ≡ Some p → port_of ports n ≡ Some q → same_port p.port q.port ≡ false
  ports_differ m n p q differ at there = by (same_port p.port q.port) refl
    where
      by : (b : Bool) → same_port p.port q.port ≡ b → same_port p.port q.port ≡ false
      by true is =
          let equal = parts (p.port.lan == q.port.lan) (same_snpa p.port.snpa q.port.snpa) is in
          let lan = number_is p.port.lan q.port.lan equal.0 in
          let snpa = same_numbers p.port.snpa q.port.snpa equal.1 in
          let one : p.port ≡ q.port = λ i. record { lan = lan i; snpa = snpa i } in
          let senders : Some p.system ≡ Some q.system = sym (sender_is ports m p apart at) ∙ ap (sender_of ports) one ∙ sender_is ports n q apart there in
          let systems : p.system ≡ q.system = cc in
          absurd (differ (sym (number_of ports m p at) ∙ systems ∙ number_of ports n q there))
      by false is = is

  two_apart : (lans : List Lan) (m n : ℕ) (one other : System) (p q : PortRow) → (m ≡ n → ⊥) → is_same_system one.title other.title ≡ false → port_of ports m ≡ Some p → port_of ports n ≡ Some q
      → AreTwoApart (row_of lans m one p) (row_of lans n other q)
  two_apart lans m n one other p q differ titles at there = record {
    systems = differ;
    addresses = same_end (system_part one.title) (system_part other.title) 1 ∙ titles;
    ports = ports_differ m n p q differ at there;
  }

  apart_from : (lans : List Lan) (number : ℕ) (systems : List System) → AreTitlesApart (map (λ (s : System). s.title) systems) → AreRowsApart (inactive_from lans ports number systems)
  apart_from lans number [] titles = tt
  apart_from lans number (system ∷ systems) titles = ahead (port_of ports number) refl (apart_from lans (number + 1) systems titles.1)
    where
      title_at : (place : ℕ) (other : System) → slice_get systems place ≡ Some other → is_same_system system.title other.title ≡ false
      title_at place other is =
          at (λ title. is_same_system system.title title ≡ false) (map (λ (s : System). s.title) systems) place other.title titles.0
          (slice_get-map (λ (s : System). s.title) systems place ∙ ap (λ (found : Option System). option_map (λ (s : System). s.title) found) is)

      ahead : (found : Option PortRow) → port_of ports number ≡ found → AreRowsApart (inactive_from lans ports (number + 1) systems)
          → AreRowsApart (inactive_at lans number system found ++ inactive_from lans ports (number + 1) systems)
      ahead None is rest = rest
      ahead (Some row) is rest = by system.end
        where
          by : (b : Bool) → AreRowsApart ((if b then row_of lans number system row ∷ [] else []) ++ inactive_from lans ports (number + 1) systems)
          by true = (
            of_rows (AreTwoApart (row_of lans number system row)) lans ports (number + 1) systems
                (λ place other its at found. two_apart lans number (number + 1 + place) system other row its (λ same. absurd (omega (arith, same))) (title_at place other at) is found),
            rest,
          )
          by false = rest

-- ---- as the LANs have them

room_least : (lans : List Lan) (i : ℕ) → AllByRecursion IsLan lans → 1 ≤ room_on lans i
room_least [] i all = omega arith
room_least (lan ∷ lans) zero all = let least = all.0.2 in omega arith
room_least (lan ∷ lans) (suc i) all = room_least lans i all.1

pub are_served : (setup : SetUp) → IsWell setup → AreServed (link_of (new_bag setup.lans setup.ports)) (inactive_rows setup)
are_served setup w = record {
  apart = apart_from setup.ports w.apart setup.lans 0 setup.systems w.distinct;
  promised = of_rows (IsPromised (link_of (new_bag setup.lans setup.ports))) setup.lans setup.ports 0 setup.systems
      (λ place system row is found. record {
        bound = refl;
        room = refl;
        some_room = room_least setup.lans row.port.lan w.lans;
        belongs = λ asked. goes_home setup.ports (0 + place) row asked w.apart w.single found ∙ ap (λ (n : ℕ). n == asked) (number_of setup.ports (0 + place) row found);
      });
}

-- each port is that of its system
pub are_ports : (setup : SetUp) → IsWell setup → AllByRecursion (λ (row : InactiveRow). sender_of setup.ports row.port ≡ Some row.system) (inactive_rows setup)
are_ports setup w =
    of_rows (λ (row : InactiveRow). sender_of setup.ports row.port ≡ Some row.system) setup.lans setup.ports 0 setup.systems
    (λ place system row is found. sender_is setup.ports (0 + place) row w.apart found ∙ ap (λ (n : ℕ). Some n) (number_of setup.ports (0 + place) row found))

-- ---- the network

-- the rows that were made are served by the LANs that were made
pub made_served : (setup : SetUp) (bag : Bag) (rows : List InactiveRow) → IsWell setup → bag ≡ new_bag setup.lans setup.ports → rows ≡ inactive_from bag.lans setup.ports 0 setup.systems
    → AreServed (link_of bag) rows
made_served setup bag rows w bag_is rows_are =
    let all : rows ≡ inactive_rows setup = rows_are ∙ ap (λ (b : Bag). inactive_from b.lans setup.ports 0 setup.systems) bag_is in
    subst (λ (b : Bag). AreServed (link_of b) rows) (sym bag_is)
    (subst (λ (r : List InactiveRow). AreServed (link_of (new_bag setup.lans setup.ports)) r) (sym all) (are_served setup w))
