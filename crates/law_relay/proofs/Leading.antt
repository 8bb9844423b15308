-- The rows of a set-up lead to systems that are there, and stand in octets.
use Rattle.std.proofs.Common.{◌≡◌, ℕ, zero, suc, ◌<◌, ◌≤◌, true, List, [], ◌∷◌, ◌++◌, map, length, get_or, Some, refl, sym, ◌∙◌, ap, subst, arith}
use Rattle.std.specs.Prelude.{slice_get}
use Rattle.std.specs.List.{AllByRecursion}
use Rattle.std.proofs.lemmas.List.{length-map}
use Rattle.nsap.specs.Address.{system_part}
use Rattle.law_carrier_answers.specs.Answers.{AreOctets}
use Rattle.law_clnp_net.specs.Standing.{IsNsap, is_nsap}
use Rattle.law_clnp_net.proofs.answered.Carrying.{nsap_passes}
use Rattle.law_setup.specs.Lines.{IsInOctets, RelayInOctets}
use Rattle.law_setup.proofs.InOctets.{address_octets}
use Rattle.script_setup.specs.Fitting.{IsRelay, IsTitle, IsWell}
use Rattle.script_setup.specs.SetUp.{SetUp, System, end_at, titles_of}
use Rattle.script_setup.specs.declared.relay.RelayLine.{RelayLine}
use Rattle.script_setup.proofs.Elements.{at, there}
use Rattle.script_setup.proofs.Relays.{end_low}
use Rattle.tp4_relay.specs.declared.row.RelayRow.{RelayRow}
use Rattle.tp4_world.specs.Run.{transport_address}
use Rattle.law_relay.specs.Rows.{row_of, rows_of}
use Rattle.law_relay.proofs.Answering.{RowInOctets, RowLeads}

get_is : (xs : List (List ℕ)) (n : ℕ) (x : List ℕ) → slice_get xs n ≡ Some x → get_or xs n [] ≡ x
get_is [] n x is = absurd (cc is)
get_is (y ∷ xs) zero x is = cc is
get_is (y ∷ xs) (suc n) x is = get_is xs n x is

title_low : (setup : SetUp) (n : ℕ) → end_at setup.systems n ≡ true → n < length (titles_of setup)
title_low setup n is = let low = end_low setup.systems n is in let same = length-map setup.systems (λ (s : System). s.title) in omega (arith, low, same)

row_leads : (setup : SetUp) (relay : RelayLine) → IsRelay setup.systems relay → RowLeads (titles_of setup) (row_of (titles_of setup) relay)
row_leads setup relay is =
    let found = there (titles_of setup) relay.to (title_low setup relay.to is.other) in
    record {
      to = relay.to;
      receiver = found.elem;
      receiver_is = found.is;
      to_is = ap transport_address (get_is (titles_of setup) relay.to found.elem found.is);
      selector_short = is.selector.most;
      called_short = is.called.most;
    }

leads_all : (setup : SetUp) (relays : List RelayLine) → AllByRecursion (IsRelay setup.systems) relays → AllByRecursion (RowLeads (titles_of setup)) (map (row_of (titles_of setup)) relays)
leads_all setup [] all = tt
leads_all setup (relay ∷ relays) all = (row_leads setup relay all.0, leads_all setup relays all.1)

pub rows_lead : (setup : SetUp) → IsWell setup → AllByRecursion (RowLeads (titles_of setup)) (rows_of setup)
rows_lead setup well = leads_all setup setup.relays well.relays

row_in : (setup : SetUp) (relay : RelayLine) → IsWell setup → IsInOctets setup → IsRelay setup.systems relay → RelayInOctets relay → RowInOctets (row_of (titles_of setup) relay)
row_in setup relay well octets is o =
    let found = there (titles_of setup) relay.to (title_low setup relay.to is.other) in
    let fits = at IsTitle (titles_of setup) relay.to found.elem well.titles found.is in
    let title = at IsNsap (titles_of setup) relay.to found.elem octets.titles found.is in
    record {
      address = ap (λ (t : List ℕ). is_nsap (transport_address t)) (get_is (titles_of setup) relay.to found.elem found.is)
          ∙ nsap_passes (system_part found.elem ++ 1 ∷ []) (address_octets found.elem 1 (omega arith) fits.some title);
      selector = o.selector;
      called = o.called;
    }

in_all : (setup : SetUp) (relays : List RelayLine) → IsWell setup → IsInOctets setup → AllByRecursion (IsRelay setup.systems) relays → AllByRecursion RelayInOctets relays
    → AllByRecursion RowInOctets (map (row_of (titles_of setup)) relays)
in_all setup [] well octets all o = tt
in_all setup (relay ∷ relays) well octets all o = (row_in setup relay well octets all.0 o.0, in_all setup relays well octets all.1 o.1)

pub rows_in : (setup : SetUp) → IsWell setup → IsInOctets setup → AllByRecursion RowInOctets (rows_of setup)
rows_in setup well octets = in_all setup setup.relays well octets well.relays octets.relays
