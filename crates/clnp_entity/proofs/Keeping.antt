-- What is always so of a system stays so when its clock rises, when a table hears a hello from a port on one of its LANs, and when both
-- tables are swept.
use Rattle.std.proofs.Common.{◌≡◌, ℕ, ◌≤◌, refl, sym, ap, subst, arith}
use Rattle.std.specs.Prelude.{IsSome}
use Rattle.nsap.specs.declared.port.Port.{Port}
use Rattle.clnp_segment.specs.Store.{Holding}
use Rattle.esis_pdu.specs.declared.hello.Hello.{Hello}
use Rattle.esis_pdu.specs.declared.hello.Hello.TheVariants.{Esh, Ish, Rd}
use Rattle.esis_tables.specs.Told.{told_of}
use Rattle.esis_tables.specs.Rows.{Rows, heard_table, is_row_known, swept_table}
use Rattle.clnp_system.specs.Setting.{Setting, port_on}
use Rattle.clnp_system.specs.Node.{Node}
use Rattle.clnp_entity.specs.Kept.{AreNear, IsKept, IsNear}
use Rattle.clnp_system.proofs.Hops.{heard_are, swept_are}

-- a hello is heard when it came, and its hop is on the LAN of the port that sent it
told_tick : (now : ℕ) (from : Port) (hello : Hello) → (told_of now from hello).tick ≡ now
told_tick now from (Esh hold addresses) = refl
told_tick now from (Ish hold title) = refl
told_tick now from (Rd hold address snpa title) = refl

told_lan : (now : ℕ) (from : Port) (hello : Hello) → (told_of now from hello).hop.port.lan ≡ from.lan
told_lan now from (Esh hold addresses) = refl
told_lan now from (Ish hold title) = refl
told_lan now from (Rd hold address snpa title) = refl

told_near : (setting : Setting) (now : ℕ) (from : Port) (hello : Hello) → IsSome (port_on setting from.lan) → IsNear setting (told_of now from hello).hop
told_near setting now from hello port = subst (λ (lan : ℕ). IsSome (port_on setting lan)) (sym (told_lan now from hello)) port

heard_near : (setting : Setting) (now : ℕ) (from : Port) (hello : Hello) (old new : Rows) → AreNear setting old.rows → IsSome (port_on setting from.lan)
    → new ≡ heard_table old (told_of now from hello) → AreNear setting new.rows
heard_near setting now from hello old new all port is =
    subst (λ (table : Rows). AreNear setting table.rows) (sym is)
    (heard_are (IsNear setting) old (told_of now from hello) (told_near setting now from hello port) all)

heard_clock : (now : ℕ) (from : Port) (hello : Hello) (old new : Rows) → new ≡ heard_table old (told_of now from hello) → new.clock ≤ now
heard_clock now from hello old new is =
    let e : new.clock ≡ (told_of now from hello).tick = ap (λ (table : Rows). table.clock) is in omega (arith, e, told_tick now from hello)

later_of : (node old : Node Rows) (now : ℕ) → node ≡ old → old.clock ≤ now → node.clock ≤ now
later_of node old now same past = let e : node.clock ≡ old.clock = ap (λ (n : Node Rows). n.clock) same in omega (arith, e, past)

pub kept_neighbours : (node old : Node Rows) (now : ℕ) (from : Port) (hello : Hello) (table : Rows) → node ≡ old → IsKept node → old.clock ≤ now → IsSome (port_on node.setup from.lan)
    → table ≡ heard_table node.neighbours (told_of now from hello) → IsKept (record node { clock = now; neighbours = table })
kept_neighbours node old now from hello table same kept past port is = let later = later_of node old now same past in record {
  setting = kept.setting;
  store = omega (arith, kept.store, later);
  neighbours = heard_clock now from hello node.neighbours table is;
  redirects = omega (arith, kept.redirects, later);
  units = kept.units;
  octets = kept.octets;
  heard = heard_near node.setup now from hello node.neighbours table kept.heard port is;
  better = kept.better;
}

pub kept_redirects : (node old : Node Rows) (now : ℕ) (from : Port) (hello : Hello) (table : Rows) → node ≡ old → IsKept node → old.clock ≤ now → IsSome (port_on node.setup from.lan)
    → table ≡ heard_table node.redirects (told_of now from hello) → IsKept (record node { clock = now; redirects = table })
kept_redirects node old now from hello table same kept past port is = let later = later_of node old now same past in record {
  setting = kept.setting;
  store = omega (arith, kept.store, later);
  neighbours = omega (arith, kept.neighbours, later);
  redirects = heard_clock now from hello node.redirects table is;
  units = kept.units;
  octets = kept.octets;
  heard = kept.heard;
  better = heard_near node.setup now from hello node.redirects table kept.better port is;
}

swept_near : (setting : Setting) (now : ℕ) (old new : Rows) → AreNear setting old.rows → new ≡ swept_table old now → AreNear setting new.rows
swept_near setting now old new all is =
    subst (λ (table : Rows). AreNear setting table.rows) (sym is) (swept_are (IsNear setting) (is_row_known now) old.rows all)

pub kept_swept : (node : Node Rows) (now : ℕ) (store : Holding) (neighbours redirects : Rows) → IsKept node → store.clock ≤ now
    → store.units ≡ node.store.units → store.octets ≡ node.store.octets → neighbours ≡ swept_table node.neighbours now → redirects ≡ swept_table node.redirects now
    → IsKept (record node { clock = now; store = store; neighbours = neighbours; redirects = redirects })
kept_swept node now store neighbours redirects kept clock units octets one two = record {
  setting = kept.setting;
  store = clock;
  neighbours = let e : neighbours.clock ≡ now = ap (λ (table : Rows). table.clock) one in omega (arith, e);
  redirects = let e : redirects.clock ≡ now = ap (λ (table : Rows). table.clock) two in omega (arith, e);
  units = omega (arith, units, kept.units);
  octets = omega (arith, octets, kept.octets);
  heard = swept_near node.setup now node.neighbours neighbours kept.heard one;
  better = swept_near node.setup now node.redirects redirects kept.better two;
}
