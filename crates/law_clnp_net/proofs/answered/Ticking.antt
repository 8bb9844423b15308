-- A system answers each tick.
use Rattle.std.proofs.Common.{ℕ, List, [], ◌∷◌, ◌++◌, map, refl}
use Rattle.std.specs.List.{AllByRecursion}
use Rattle.clnp_segment.specs.declared.store.Expired.{Expired}
use Rattle.esis_tables.specs.Rows.{Rows, is_row_known, swept_table}
use Rattle.clnp_system.specs.Hellos.{is_due}
use Rattle.clnp_system.specs.Node.{Node, Reaction}
use Rattle.clnp_system.specs.Tables.{rows_tables}
use Rattle.clnp_system.specs.Ticking.{NodeTicks, expiry_note}
use Rattle.law_clnp_net.specs.Serving.{WaitsInOctets}
use Rattle.law_clnp_net.specs.Standing.{FitsNode, IsFrame, IsHop}
use Rattle.law_clnp_net.proofs.written.Discarding.{reported_all}
use Rattle.law_clnp_net.proofs.answered.Expiring.{given_up}
use Rattle.law_clnp_net.proofs.written.Greeting.{greeted_if}
use Rattle.clnp_system.proofs.Hops.{swept_are}
use Rattle.law_clnp_step.proofs.Lists.{all_both}

notes_fit : (system : ℕ) (list : List Expired) → WaitsInOctets (map (expiry_note system) list)
notes_fit system [] = tt
notes_fit system (expired ∷ list) = (tt, notes_fit system list)

pub record Ticked (node : Node Rows) (now : ℕ) : Type 0 where
  pub reaction : Reaction
  pub new : Node Rows
  pub ticks : NodeTicks rows_tables node now reaction new
  pub stands : FitsNode new
  pub fit : AllByRecursion IsFrame reaction.frames
  pub ups_fit : WaitsInOctets reaction.ups

pub ticked : (node : Node Rows) (now : ℕ) → FitsNode node → Ticked node now
ticked node now fits =
    let gone = given_up node.store now fits.held in
    let new : Node Rows = record node { clock = now; store = gone.after; neighbours = swept_table node.neighbours now; redirects = swept_table node.redirects now } in
    let stands : FitsNode new = record {
      setup = fits.setup;
      next_id = fits.next_id;
      held = gone.held;
      neighbours = swept_are (IsHop node.setup) (is_row_known now) node.neighbours.rows fits.neighbours;
      redirects = swept_are (IsHop node.setup) (is_row_known now) node.redirects.rows fits.redirects;
    } in
    let reports = reported_all new stands now gone.list gone.each in
    let hellos = greeted_if node.setup fits.setup (is_due node.setup now) in
    record {
      reaction = record { ups = map (expiry_note node.setup.system) gone.list; frames = reports.frames ++ hellos.frames };
      new = new;
      ticks = record {
        expired = gone.list;
        store = gone.after;
        expires = gone.expires;
        after = refl;
        told = refl;
        reports = reports.frames;
        hellos = hellos.frames;
        are_reports = reports.are;
        are_hellos = hellos.are;
        frames = refl;
      };
      stands = stands;
      fit = all_both IsFrame reports.frames hellos.frames reports.fit hellos.fit;
      ups_fit = notes_fit node.setup.system gone.list;
    }
