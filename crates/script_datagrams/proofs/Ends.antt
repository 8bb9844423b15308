-- In the network of systems and LANs a unit comes to end systems alone: those that are made of the set-up stay what they are as they send their first hellos.
use Rattle.std.proofs.Common.{◌≡◌, ◌==◌, ◌&&◌, ℕ, suc, ◌+◌, Bool, true, false, List, [], ◌∷◌, Some, refl, sym, ◌∙◌, ap, subst, arith}
use Rattle.std.specs.Prelude.{◌||◌, slice_get, IsTrue}
use Rattle.std.specs.List.{list_any}
use Rattle.nsap.specs.Address.{is_same_system}
use Rattle.lan_step.specs.Bag.{BagStep, link_of, new_bag}
use Rattle.lan_step.proofs.Keeping.{bag_keeps}
use Rattle.clnp_system.specs.Tables.{rows_tables}
use Rattle.law_clnp_step.specs.Network.{is_end_of}
use Rattle.law_clnp_step.proofs.Passed.{all_ticked}
use Rattle.law_clnp_step.proofs.Seen.{belongs_same}
use Rattle.script_setup.specs.SetUp.{System, SetUp, end_of, nodes_from, nodes_of}
use Rattle.script_setup.proofs.Ports.{number_is}
use Rattle.law_setup.specs.ClnpNets.{MakesNet, Net, link_of_net}
use Rattle.script_datagrams.specs.Each.{ComesToEnds}

record IsEndAt (k : ℕ) (systems : List System) (system : ℕ) : Type 0 where
  place : ℕ
  own : System
  number : system ≡ k + place
  is : slice_get systems place ≡ Some own
  end : own.end ≡ true

two : (a b c : Bool) → (a && b && c) ≡ true → (a ≡ true) × (b ≡ true)
two true true c is = (refl, refl)
two true false c is = absurd (cc)
two false b c is = absurd (cc)

is_end : (setup : SetUp) (k : ℕ) (rest : List System) (to : List ℕ) (system : ℕ) → list_any (is_end_of to system) (nodes_from setup k rest) ≡ true → IsEndAt k rest system
is_end setup k [] to system is = absurd (cc)
is_end setup k (first ∷ rest) to system is = by (is_end setup (k + 1) rest to system) (k == system && first.end && is_same_system to first.title) refl is
  where
    by : (list_any (is_end_of to system) (nodes_from setup (k + 1) rest) ≡ true → IsEndAt (k + 1) rest system) → (b : Bool) → (k == system && first.end && is_same_system to first.title) ≡ b → (b || list_any (is_end_of to system) (nodes_from setup (k + 1) rest)) ≡ true
        → IsEndAt k (first ∷ rest) system
    by others true here is =
        let parts = two (k == system) first.end (is_same_system to first.title) here in
        let same = number_is k system parts.0 in
        record { place = 0; own = first; number = omega arith; is = refl; end = parts.1 }
    by others false here is =
        let found = others is in
        let number = found.number in
        record { place = suc found.place; own = found.own; number = omega arith; is = found.is; end = found.end }

told_true : (b : Bool) → IsTrue b → b ≡ true
told_true b is = is

pub net_ends : ComesToEnds link_of_net MakesNet
net_ends setup net to system b is =
    let t = all_ticked link_of BagStep bag_keeps rows_tables 0 (new_bag setup.lans setup.ports) (nodes_of setup) b.below b.after b.told refl b.all in
    let here : IsTrue (list_any (is_end_of to system) b.after) = subst (λ (n : Net). IsTrue ((link_of_net n).belongs to system)) b.becomes is in
    let found = is_end setup 0 setup.systems to system (sym (belongs_same to system (nodes_of setup) b.after t.setups) ∙ told_true (list_any (is_end_of to system) b.after) here) in
    let number = found.number in
    let place : found.place ≡ system = omega arith in
    ap end_of (subst (λ (n : ℕ). slice_get setup.systems n ≡ Some found.own) place found.is) ∙ found.end
