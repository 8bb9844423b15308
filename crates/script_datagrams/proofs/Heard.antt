-- A unit that may come up at an end system, for the selector of transport, is for the users of that system: its address is theirs. So it gives one
-- event.
use Rattle.std.proofs.Common.{◌≡◌, ℕ, ◌<◌, Bool, true, false, List, [], ◌∷◌, ◌++◌, length, Option, Some, nat_eq, refl, sym, ◌∙◌, ap, subst, arith}
use Rattle.std.specs.Prelude.{◌==◌, ◌&&◌}
use Rattle.std.specs.Cmp.Lexicographic.{pointwise}
use Rattle.std.proofs.lemmas.Bool.Decides.{Decides-eqb, nat_tests}
use Rattle.std.proofs.lemmas.Slice.Eq.{slice_eq-Decides}
use Rattle.nsap.specs.Address.{is_same_system, selector_of, system_part}
use Rattle.nsap.proofs.AddressLemmas.{is_same_system-Decides, system_part-selector_of}
use Rattle.osi_base.specs.declared.unit.Arrival.{Arrival}
use Rattle.osi_base.specs.Link.{Link}
use Rattle.osi_base.specs.Calls.{Call}
use Rattle.cltp.specs.Hearing.{HearsAt, HearsIf}
use Rattle.cltp.specs.Systems.{is_for, system_at}
use Rattle.cltp.specs.declared.system.ClSystem.{ClSystem}
use Rattle.cltp.proofs.Hearings.{one_hearing}
use Rattle.script_setup.specs.SetUp.{SetUp}
use Rattle.law_setup.specs.Networks.{NetworkLaws}
use Rattle.tp4_world.specs.Run.{transport_address}
use Rattle.script_datagrams.specs.Claims.{GivesOne}
use Rattle.script_datagrams.specs.Laws.{HearsEach}
use Rattle.law_datagram_run.specs.Users.{users_of}
use Rattle.law_datagram_run.proofs.Peopled.{has_users}

-- an address of the system of a title, with the selector of transport, is that of the title
some_left : (to : List ℕ) → selector_of to ≡ 1 → 0 < length to
some_left [] is = absurd (cc)
some_left (octet ∷ octets) is = omega arith

own_address : (to title : List ℕ) → selector_of to ≡ 1 → is_same_system to title ≡ true → to ≡ transport_address title
own_address to title one same =
    sym (system_part-selector_of to (some_left to one)) ∙ ap (λ (s : ℕ). system_part to ++ s ∷ []) one
    ∙ ap (λ (p : List ℕ). p ++ 1 ∷ []) ((is_same_system-Decides to title).0 same)

both : (a b : Bool) → a ≡ true → b ≡ true → (a && b) ≡ true
both true true first second = refl
both true false first second = second
both false b first second = first

for_own : (own : ClSystem) (to : List ℕ) → selector_of to ≡ 1 → own.own ≡ to → is_for own to ≡ true
for_own own to one same =
    both (selector_of to == 1) (pointwise nat_eq own.own to) (let here : (selector_of to == 1) ≡ true = grind (arith, nat_tests) in here)
    ((slice_eq-Decides {E = nat_eq} Decides-eqb own.own to (pointwise nat_eq own.own to) refl).1 same)

-- a unit for the users of a system gives one event
gives_one : (systems : List ClSystem) (arrival : Arrival (List ℕ)) (own : ClSystem) → system_at systems arrival.system ≡ Some own → is_for own arrival.unit.to ≡ true → GivesOne systems arrival
gives_one systems arrival own is fits =
    let some = one_hearing.some systems arrival in
    let here : HearsAt (Some own) arrival.unit some.0 = subst (λ (o : Option ClSystem). HearsAt o arrival.unit some.0) is some.1 in
    let told : HearsIf own arrival.unit true some.0 = subst (λ (b : Bool). HearsIf own arrival.unit b some.0) fits here in
    record {
      own = own;
      own_is = is;
      event = told.0;
      tells = told.1;
      only = λ made hears. one_hearing.one systems arrival made some.0 hears some.1 ∙ told.2;
    }

pub hears_each : {N : Type 0} (link : N → Link (List ℕ)) (steps : N → Call (List ℕ) → N → Type 0) (makes : SetUp → N → Type 0) → NetworkLaws link steps makes → HearsEach link makes
hears_each link steps makes laws setup net arrival well within made belongs end one =
    let home = (laws.first setup net well within made).home.home arrival.unit.to arrival.system belongs in
    let users = has_users setup arrival.system end in
    let found : Some users.title ≡ Some home.0 = sym users.title_is ∙ home.1 in
    let title : users.title ≡ home.0 = cc in
    let address : users.own.own ≡ arrival.unit.to = users.address_is ∙ ap transport_address title ∙ sym (own_address arrival.unit.to home.0 one home.2) in
    gives_one (users_of setup) arrival users.own users.own_is (for_own users.own arrival.unit.to one address)
