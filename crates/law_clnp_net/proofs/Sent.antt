-- A system that knows of no other sends by its rows: so a unit to users of the other system goes to that one's port.
use Rattle.std.proofs.Common.{◌≡◌, ◌⊎◌, ℕ, ◌≤◌, Bool, true, false, ◌||◌, ◌==◌, if◌then◌else◌, List, [], ◌∷◌, ◌++◌, length, Some, None, Ok, sym, ◌∙◌, ap, subst, inl, inr}
use Rattle.nsap.specs.Address.{is_same_system, selector_of, system_part}
use Rattle.nsap.specs.declared.port.Hop.{Hop}
use Rattle.nsap.specs.declared.port.Port.{Port}
use Rattle.osi_base.specs.declared.unit.Unit.{Unit as CarriedUnit}
use Rattle.osi_base.specs.declared.unit.Wish.{Wish}
use Rattle.pdu_parts.specs.FirstFault.{or_else}
use Rattle.clnp_route.specs.Routes.{next_hop}
use Rattle.esis_tables.specs.Rows.{Rows, find_row, router_in}
use Rattle.clnp_system.specs.Hops.{found_hop, group_hop, hop_of}
use Rattle.clnp_system.specs.Node.{Frame, Node}
use Rattle.clnp_system.specs.Sending.{Sends}
use Rattle.clnp_system.specs.Setting.{Setting, bound_of, is_own_system, port_on}
use Rattle.clnp_system.specs.Tables.{rows_tables}
use Rattle.law_clnp_net.specs.Calm.{IsEndAt, LeadsTo}
use Rattle.law_clnp_net.specs.Cutting.{Faces, SendsTo}
use Rattle.law_clnp_net.proofs.Nodes.{IsCalmNode}
use Rattle.law_clnp_net.proofs.Addresses.{made_of, own_title, selector_of_made}
use Rattle.law_clnp_net.proofs.Ports.{its_own}

-- the port of an end system with one port, on its LAN
pub port_is : (setting : Setting) (system : ℕ) (port : Port) → IsEndAt setting system port → port_on setting port.lan ≡ Some port
port_is setting system port at =
    ap (λ (ports : List Port). port_on (record setting { ports = ports }) port.lan) at.ports
    ∙ ap (λ (b : Bool). if b then Some port else None) (its_own port.lan)

module _ (setting other : Setting) (system : ℕ) (here there : Port) (at : IsEndAt setting system here) (leads : LeadsTo setting other there) (other_system : ℕ)
    (other_at : IsEndAt other other_system there) (apart : is_same_system other.title setting.title ≡ false) (node : Node Rows) (is : IsCalmNode setting node) where
  module _ (now : ℕ) (unit : CarriedUnit (List ℕ)) (selector : ℕ) (known : (selector ≡ 1) ⊎ (selector ≡ 2)) (to : unit.to ≡ system_part other.title ++ selector ∷ []) where
    abbrev pub hop : Hop
    hop = (leads.routed selector).0

    not_own : is_own_system node.setup unit.to ≡ false
    not_own = (λ i. is_same_system (to i) (is.setup i).title) ∙ (made_of other.title setting.title selector ∙ apart)

    next_is : next_hop node.setup.rows unit.to ≡ Some hop
    next_is = (λ i. next_hop (is.setup i).rows (to i)) ∙ (leads.routed selector).1

    ports_are : node.setup.ports ≡ here ∷ []
    ports_are = ap (λ (s : Setting). s.ports) is.setup ∙ at.ports

    end_is : node.setup.end ≡ true
    end_is = ap (λ (s : Setting). s.end) is.setup ∙ at.end

    finds_row : found_hop rows_tables node now unit.to ≡ Some hop
    finds_row =
        λ i.
        if end_is i
        then or_else (find_row (is.redirects i) now unit.to) (or_else (find_row (is.neighbours i) now unit.to) (or_else (next_is i) (router_in node.neighbours.rows now)))
        else or_else (find_row (is.neighbours i) now unit.to) (next_is i)

    pub finds : hop_of rows_tables node now unit.to ≡ Some hop
    finds =
        λ i.
        if length (ports_are i) == 0 || not_own i then None
        else or_else (finds_row i) (if node.setup.end then group_hop node.setup.ports else None)

    faces : Faces rows_tables node now other unit there
    faces = record {
      hop = hop;
      found = finds;
      port_is = (leads.routed selector).2;
      at = port_is other other_system there other_at;
      single = other_at.single;
      lives = subst (λ (s : Setting). bound_of other there.lan ≤ s.life) (sym is.setup) leads.lives;
      end = other_at.end;
      own = (λ i. is_same_system (to i) other.title) ∙ (made_of other.title other.title selector ∙ own_title other.title);
      selector = chosen known;
    }
      where
        last_is : selector_of unit.to ≡ selector
        last_is = ap selector_of to ∙ selector_of_made (system_part other.title) selector

        chosen : (selector ≡ 1) ⊎ (selector ≡ 2) → (selector_of unit.to ≡ 1) ⊎ (selector_of unit.to ≡ 2)
        chosen (inl one) = inl (last_is ∙ one)
        chosen (inr two) = inr (last_is ∙ two)

    -- what it sends there goes to the other's port
    pub sends_to : (wish : Wish) (frames : List Frame) (after : Node Rows) → wish.path ≡ 0 → Sends rows_tables node now unit wish (Ok frames) after
        → SendsTo rows_tables node now other unit there frames after
    sends_to wish frames after plain sends = record { faces = faces; wish = wish; plain = plain; sends = sends }
