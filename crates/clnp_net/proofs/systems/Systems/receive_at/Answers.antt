use Rattle.std.proofs.Common.{ℕ, List, subst, ap}
use Rattle.std.specs.List.{slice_set}
use Rattle.esis_tables.specs.Rows.{Rows}
use Rattle.clnp_system.specs.Node.{Node, reaction_in}
use Rattle.clnp_net.proofs.Parts.{got_at}
use Rattle.clnp_system.specs.Receiving.{Receives}
use Rattle.clnp_system.specs.Tables.{rows_tables}
use Rattle.clnp_net.proofs.systems.Systems.receive_at.Goals as goal

pub returns : goal.returns
returns c = record {
  node = c.in-Some.system.now;
  after = c.on_frame.new.self;
  at = got_at c.self.inside.list.items c.args.self.now c.args.place c.in-Some.system.now c.self.view_is c.requires.within c.in-Some.ensures.value;
  receives = subst (λ (o : List ℕ). Receives rows_tables c.in-Some.system.now c.args.now (record { from = c.args.arrival.now.unit.from; to = c.args.arrival.now.unit.to; octets = o }) (reaction_in c.in_ok-received.received) c.on_frame.new.self)
      c.as_slice.ensures c.in_ok-received.ensures.receives;
  becomes = ap (λ (l : List (Node Rows)). slice_set l c.args.place c.on_frame.new.self) c.self.view_is;
}
