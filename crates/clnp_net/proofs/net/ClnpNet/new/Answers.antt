use Rattle.clnp_system.specs.Tables.{rows_tables}
use Rattle.law_clnp_step.proofs.Kept.{begins_soundly}
use Rattle.clnp_net.proofs.Parts.{begun, begun_all}
use Rattle.clnp_net.proofs.net.ClnpNet.new.Goals as goal

pub invariant_of-net : goal.invariant_of-net
invariant_of-net g c = λ _.
    begins_soundly g.C.Carrier.link g.C.Carrier.steps g.met.C.Carrier.keeps g.met.C.Carrier.given rows_tables c.args.link c.args.systems.items c.args.life _
    c.requires.clock c.requires.floating c.requires.waiting c.requires.peopled c.requires.made
    (begun g.C.Carrier.link g.C.Carrier.steps c.args.link c.args.systems.items c.args.life c.tick_all.new.link c.tick_all.new.systems c.new-2.result c.tick_all.new.waiting.items
    (begun_all g.C.Carrier.link g.C.Carrier.steps c.args.link _ _ c.tick_all.new.link c.tick_all.new.systems _ c.tick_all.new.waiting.items c.new.ensures c.new-3.ensures.items c.in_ok-tick_all.ensures)
    c.new-2.ensures.limit c.new-2.ensures.entries)
