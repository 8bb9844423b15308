-- The end systems of a script by the inactive subset as a network that a set-up makes: as it starts nothing is on its way, each of its systems has its
-- title, and a unit floats for the bound of its LAN, which the start of a script has found to be the lifetime at most; each call has one answer; and
-- all that may be asked from the start on is answered.
use Rattle.std.proofs.Common.{◌≡◌, ◌==◌, ℕ, ◌+◌, ◌≤◌, true, zero, suc, List, [], ◌∷◌, Option, Some, None, refl, sym, ◌∙◌, ap, subst, arith}
use Rattle.std.specs.Prelude.{nat_eq, slice_get, IsTrue}
use Rattle.std.specs.Cmp.Lexicographic.{pointwise}
use Rattle.std.specs.List.{AllByRecursion}
use Rattle.std.proofs.lemmas.List.Elements.{All-from_recursion}
use Rattle.nsap.specs.Address.{is_same_system, system_part}
use Rattle.nsap.proofs.AddressLemmas.{system_part-append}
use Rattle.osi_base.specs.Calls.{Call, Keeps}
use Rattle.osi_base.specs.Link.{IsNote}
use Rattle.lan_step.specs.Bag.{Bag, BagStep, link_of, new_bag}
use Rattle.lan_step.specs.Rows.{bound_on}
use Rattle.lan_step.proofs.Keeping.{bag_given, bag_keeps}
use Rattle.lan_step.specs.declared.row.Lan.{Lan}
use Rattle.lan_step.specs.declared.row.PortRow.{PortRow}
use Rattle.inactive_step.specs.declared.row.InactiveRow.{InactiveRow}
use Rattle.inactive_step.specs.Network.{Inactive, new_inactive}
use Rattle.inactive_step.specs.Rows.{bound_in, is_system_in, row_at}
use Rattle.inactive_step.proofs.Found.{equal_numbers, found_address}
use Rattle.inactive_step.proofs.Kept.{inactive_keeps}
use Rattle.law_inactive_answers.specs.Standing.{FitsRow, Stands}
use Rattle.law_inactive_answers.proofs.Always.{begins_serving, serves}
use Rattle.law_inactive_answers.proofs.Once.{one_net_answer}
use Rattle.law_clnp_net.specs.Standing.{IsNsap, IsSnpa, is_nsap}
use Rattle.net_world.specs.First.{IsFirst}
use Rattle.tp4_world.specs.Run.{transport_address}
use Rattle.tp4_world.specs.Total.{Serves, ServesOn}
use Rattle.tp4_world.proofs.Serving.{serves_within}
use Rattle.script_lines.specs.declared.words.Dialect.TheVariants as dialects
use Rattle.script_lines.specs.declared.line.Line.TheVariants as lines
use Rattle.script_setup.specs.Fitting.{Fits, IsTitle, IsWell}
use Rattle.script_setup.specs.Inactive.{inactive_rows}
use Rattle.script_setup.specs.SetUp.{SetUp, titles_of}
use Rattle.script_setup.proofs.Elements.{at, find_all}
use Rattle.script_setup.proofs.Ports.{number_is}
use Rattle.script_setup.proofs.Served.{are_served, of_rows}
use Rattle.law_setup.specs.Lines.{IsInOctets}
use Rattle.law_setup.proofs.InOctets.{address_octets}
use Rattle.law_setup.specs.InactiveNets.{InactiveDoes, MakesInactive, link_of_inactive}
use Rattle.law_setup.specs.Networks.{NetworkLaws, SendsNoDatagrams}
use Rattle.law_setup.proofs.Made.{comes}
use Rattle.law_setup.proofs.Peopled.{title_there}
use Rattle.law_setup.proofs.Sending.{no_datagrams}

-- each call of the network keeps the contract of a carrier
pub subset_law : (old : Inactive Bag) (call : Call (List ℕ)) (new : Inactive Bag) → InactiveDoes old call new → Keeps (link_of_inactive old) call (link_of_inactive new)
subset_law = inactive_keeps link_of BagStep bag_keeps bag_given

-- ---- the network as it starts

-- the title of a system is that of its row
record HasTitle (titles : List (List ℕ)) (row : InactiveRow) : Type 0 where
  title : List ℕ
  is : slice_get titles row.system ≡ Some title
  address : row.address ≡ transport_address title

titled : (setup : SetUp) → AllByRecursion (HasTitle (titles_of setup)) (inactive_rows setup)
titled setup =
    of_rows (HasTitle (titles_of setup)) setup.lans setup.ports 0 setup.systems
    (λ place system row is found. record {
      title = system.title;
      is = subst (λ (n : ℕ). slice_get (titles_of setup) n ≡ Some system.title) (omega arith) (title_there setup.systems place system is);
      address = refl;
    })

-- an address of a title is one of its system
own_system : (to title : List ℕ) → to ≡ transport_address title → is_same_system to title ≡ true
own_system to title is =
    ap (λ (address : List ℕ). is_same_system address title) is
    ∙ ap (λ (part : List ℕ). pointwise nat_eq part (system_part title)) (system_part-append (system_part title) 1)
    ∙ equal_numbers (system_part title)

at_home : (setup : SetUp) (to : List ℕ) (system : ℕ) (found : Option InactiveRow) → row_at (inactive_rows setup) to ≡ found → IsTrue (is_system_in found system)
    → (title : List ℕ) × (slice_get (titles_of setup) system ≡ Some title) × (is_same_system to title ≡ true)
at_home setup to system None there is = absurd (cc)
at_home setup to system (Some row) there is =
    let has = find_all (HasTitle (titles_of setup)) (λ (r : InactiveRow). pointwise nat_eq r.address to) (inactive_rows setup) row (titled setup) there in
    let number : row.system ≡ system = number_is row.system system is in (
      has.title,
      subst (λ (n : ℕ). slice_get (titles_of setup) n ≡ Some has.title) number has.is,
      own_system to has.title (sym (found_address (inactive_rows setup) to row there) ∙ has.address),
    )

-- the bound of a LAN, also where it is not listed
lan_within : (lans : List Lan) (life i : ℕ) → AllByRecursion (λ (lan : Lan). lan.bound ≤ life) lans → 1 ≤ life → bound_on lans i ≤ life
lan_within [] life i all least = least
lan_within (lan ∷ lans) life zero all least = all.0
lan_within (lan ∷ lans) life (suc i) all least = lan_within lans life i all.1 least

module _ (setup : SetUp) (well : IsWell setup) (within : Fits setup lines.Start) where
  rows_within : AllByRecursion (λ (row : InactiveRow). row.bound ≤ setup.life) (inactive_rows setup)
  rows_within =
      of_rows (λ (row : InactiveRow). row.bound ≤ setup.life) setup.lans setup.ports 0 setup.systems
      (λ place system row is found. lan_within setup.lans setup.life row.port.lan within well.times.least_life)

  bound_within : (to : List ℕ) (found : Option InactiveRow) → row_at (inactive_rows setup) to ≡ found → bound_in found ≤ setup.life
  bound_within to None there = well.times.least_life
  bound_within to (Some row) there = find_all (λ (r : InactiveRow). r.bound ≤ setup.life) (λ (r : InactiveRow). pointwise nat_eq r.address to) (inactive_rows setup) row rows_within there

  pub inactive_first : (net : Inactive Bag) → MakesInactive setup net → IsFirst setup.life (titles_of setup) (link_of_inactive net)
  inactive_first net made = subst (λ (n : Inactive Bag). IsFirst setup.life (titles_of setup) (link_of_inactive n)) (sym made) (record {
    clock = refl;
    none = refl;
    notes = All-from_recursion IsNote [] tt;
    honest = refl;
    bounds = λ to. bound_within to (row_at (inactive_rows setup) to) refl;
    home = record { home = λ to system is. at_home setup to system (row_at (inactive_rows setup) to) refl is };
  })

-- ---- what it answers

inactive_serves : Serves is_nsap link_of_inactive InactiveDoes Stands
inactive_serves = record {
  answers = serves.answers;
  in_octets = λ old stands. comes (link_of_inactive old).waiting (serves.in_octets old stands);
  least = serves.least;
}

pub all_fit : (setup : SetUp) → IsWell setup → IsInOctets setup → AllByRecursion FitsRow (inactive_rows setup)
all_fit setup w o =
    of_rows FitsRow setup.lans setup.ports 0 setup.systems
    (λ place system row is found.
    let named = title_there setup.systems place system is in
    let title = at IsTitle (titles_of setup) place system.title w.titles named in
    record {
      address = address_octets system.title 1 (omega arith) title.some (at IsNsap (titles_of setup) place system.title o.titles named);
      snpa = find_all (λ (r : PortRow). IsSnpa r.port.snpa) (λ (r : PortRow). r.system == (0 + place)) setup.ports row o.ports found;
    })

inactive_serving : (setup : SetUp) (net : Inactive Bag) → IsWell setup → IsInOctets setup → MakesInactive setup net → ServesOn is_nsap link_of_inactive InactiveDoes net
inactive_serving setup net w o made =
    serves_within is_nsap link_of_inactive InactiveDoes Stands inactive_serves net
    (subst Stands (sym made) (begins_serving setup.lans setup.ports (inactive_rows setup) (are_served setup w) (all_fit setup w o)))

-- ---- the laws

pub inactive_laws : NetworkLaws link_of_inactive InactiveDoes MakesInactive
inactive_laws = record {
  one_answer = one_net_answer;
  one_net = λ setup net other a b. a ∙ sym b;
  clock = λ setup net made. ap (λ (n : Inactive Bag). (link_of_inactive n).clock) made;
  first = λ setup net well within made. inactive_first setup well within net made;
  some_net = λ setup well octets. record { net = new_inactive (new_bag setup.lans setup.ports) (inactive_rows setup); made = refl };
  serves = inactive_serving;
}

-- `inactive` sends no datagrams
pub none_sent : SendsNoDatagrams dialects.Inactive
none_sent = no_datagrams dialects.Inactive (λ system selector to called octets has. has)
