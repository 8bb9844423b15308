use Rattle.std.proofs.Common.{ap, List}
use Rattle.std.specs.List.{slice_set}
use Rattle.esis_tables.specs.Rows.{Rows}
use Rattle.clnp_system.specs.Node.{Node}
use Rattle.clnp_net.proofs.Parts.{end_of, got_at, own_of}
use Rattle.clnp_net.proofs.systems.Systems.send_at.Goals as goal

pub send-requires-clause-system : goal.send-requires-clause-system
send-requires-clause-system c = end_of c.args.unit.now.from c.in-Some.system.now (c.requires.source c.in-Some.system.now (got_at c.self.inside.list.items c.args.self.now c.args.place c.in-Some.system.now c.self.view_is c.requires.within c.in-Some.ensures.value))

pub send-requires-clause-source : goal.send-requires-clause-source
send-requires-clause-source c = own_of c.args.unit.now.from c.in-Some.system.now (c.requires.source c.in-Some.system.now (got_at c.self.inside.list.items c.args.self.now c.args.place c.in-Some.system.now c.self.view_is c.requires.within c.in-Some.ensures.value))

pub returns : goal.returns
returns c = record {
  node = c.in-Some.system.now;
  after = c.send.new.self;
  at = got_at c.self.inside.list.items c.args.self.now c.args.place c.in-Some.system.now c.self.view_is c.requires.within c.in-Some.ensures.value;
  sends = c.in_ok-sent.ensures.sends;
  system_is = c.system-number.ensures;
  becomes = ap (λ (l : List (Node Rows)). slice_set l c.args.place c.send.new.self) c.self.view_is;
}
