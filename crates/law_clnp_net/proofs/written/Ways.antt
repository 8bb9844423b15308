-- Each hop that a system finds is on the LAN of a port, with an SNPA, and with an address where it has a title.
use Rattle.std.proofs.Common.{◌≡◌, ℕ, Bool, true, false, List, [], ◌∷◌, ◌++◌, Option, Some, None, refl, subst, arith}
use Rattle.std.specs.Prelude.{◌==◌, cond, find, IfSome, IsSome, if◌then◌else◌}
use Rattle.std.proofs.lemmas.Grind.{common_steps}
use Rattle.nsap.specs.declared.port.Port.{Port}
use Rattle.nsap.specs.declared.port.Hop.{Hop}
use Rattle.pdu_parts.specs.FirstFault.{or_else}
use Rattle.clnp_route.specs.Routes.{next_hop}
use Rattle.esis_tables.specs.Rows.{Rows, find_row, router_in}
use Rattle.clnp_system.specs.Hops.{found_hop, group_hop, hop_of, hop_to}
use Rattle.clnp_system.specs.Node.{Node}
use Rattle.clnp_system.specs.Setting.{all_ends}
use Rattle.clnp_system.specs.Tables.{rows_tables}
use Rattle.law_clnp_net.specs.Standing.{FitsNode, IsHop, IsSnpa}
use Rattle.clnp_system.proofs.Hops.{found_is, next_is, router_is}

if_some : {A : Type 0} (P : A → Type 0) (test : Bool) (one other : Option A) → IfSome one P → IfSome other P → IfSome (if test then one else other) P
if_some P true one other h k = h
if_some P false one other h k = k

else_some : {A : Type 0} (P : A → Type 0) (one other : Option A) → IfSome one P → IfSome other P → IfSome (or_else one other) P
else_some P None other h k = k
else_some P (Some x) other h k = h

-- ---- a port

same_number : (n : ℕ) → (n == n) ≡ true
same_number n = grind (arith, common_steps)

-- one that passes the test is found
pub there : {A : Type 0} (test : A → Bool) (front : List A) (x : A) (rest : List A) → test x ≡ true → IsSome (find test (front ++ x ∷ rest))
there {A} test [] x rest e = by (test x) e
  where
    by : (b : Bool) → b ≡ true → IsSome (cond b (Some x) (find test rest))
    by true h = refl
    by false h = absurd cc
there {A} test (y ∷ front) x rest e = by (test y) (there test front x rest e)
  where
    by : (b : Bool) → IsSome (find test (front ++ x ∷ rest)) → IsSome (cond b (Some y) (find test (front ++ x ∷ rest)))
    by true h = refl
    by false h = h

pub port_there : (front : List Port) (port : Port) (rest : List Port) → IsSome (find (λ (other : Port). other.lan == port.lan) (front ++ port ∷ rest))
port_there front port rest = there (λ (other : Port). other.lan == port.lan) front port rest (same_number port.lan)

pub ends_snpa : IsSnpa all_ends
ends_snpa = record { six = refl; octets = (omega arith, (omega arith, (omega arith, (omega arith, (omega arith, (omega arith, tt)))))) }

-- ---- the hops

module _ (node : Node Rows) (fits : FitsNode node) where
  abbrev Good : Option Hop → Type 0
  Good hop = IfSome hop (IsHop node.setup)

  group_good : (ports : List Port) → ports ≡ node.setup.ports → Good (group_hop ports)
  group_good [] e = tt
  group_good (port ∷ ports) e = record {
    near = subst (λ (ps : List Port). IsSome (find (λ (other : Port). other.lan == port.lan) ps)) e (port_there [] port ports);
    snpa = ends_snpa;
    title = tt;
  }

  found_good : (now : ℕ) (address : List ℕ) → Good (found_hop rows_tables node now address)
  found_good now address =
      let P : Hop → Type 0 = IsHop node.setup in
      let better = found_is P node.redirects.rows now address fits.redirects in
      let heard = found_is P node.neighbours.rows now address fits.neighbours in
      let row = next_is P node.setup.rows address fits.setup.rows in
      let router = router_is P node.neighbours.rows now fits.neighbours in
      if_some P node.setup.end _ _
      (else_some P (find_row node.redirects.rows now address) _ better
      (else_some P (find_row node.neighbours.rows now address) _ heard
      (else_some P (next_hop node.setup.rows address) (router_in node.neighbours.rows now) row router)))
      (else_some P (find_row node.neighbours.rows now address) (next_hop node.setup.rows address) heard row)

  pub to_good : (now : ℕ) (address : List ℕ) → Good (hop_to rows_tables node now address)
  to_good now address = if_some (IsHop node.setup) _ None (found_hop rows_tables node now address) tt (found_good now address)

  pub of_good : (now : ℕ) (address : List ℕ) → Good (hop_of rows_tables node now address)
  of_good now address =
      let P : Hop → Type 0 = IsHop node.setup in
      if_some P _ None (or_else (found_hop rows_tables node now address) (if node.setup.end then group_hop node.setup.ports else None)) tt
      (else_some P (found_hop rows_tables node now address) (if node.setup.end then group_hop node.setup.ports else None) (found_good now address)
      (if_some P node.setup.end (group_hop node.setup.ports) None (group_good node.setup.ports refl) tt))
