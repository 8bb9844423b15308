use Rattle.std.proofs.Common.{length}
use Rattle.osi_base.specs.declared.unit.Offered.TheVariants.{Taken as WasTaken, Dropped}
use Rattle.clnp_system.specs.Tables.{rows_tables}
use Rattle.law_clnp_step.proofs.Offered.{offer_keeps}
use Rattle.clnp_net.proofs.Parts.{handed, network_of, not_full, offer_dropped, offer_taken, past_all}
use Rattle.clnp_net.proofs.net.ClnpNet.offer_unit.Goals as goal

pub add-requires-clause-order : goal.add-requires-clause-order
add-requires-clause-order g c =
    past_all c.self.inside.floating.entries _ c.now-now.result c.now-now.ensures (c.self.invariant c.in_ok-go_on.ensures).steady.past

pub invariant_of-self-in-Taken : goal.invariant_of-self-in-Taken
invariant_of-self-in-Taken g c = λ _.
    (offer_keeps g.C.Carrier.link g.C.Carrier.steps g.met.C.Carrier.keeps rows_tables
    (network_of c.self.inside.link c.self.inside.systems c.self.inside.floating c.self.inside.waiting.items c.self.inside.strays c.self.inside.life) c.args.unit c.args.wish WasTaken _
    (c.self.invariant c.in_ok-go_on.ensures)
    (offer_taken g.C.Carrier.link g.C.Carrier.steps
    (network_of c.self.inside.link c.self.inside.systems c.self.inside.floating c.self.inside.waiting.items c.self.inside.strays c.self.inside.life) c.args.unit c.args.wish c.now-now.result
    c.hand_out.new.link c.hand_out.new.systems c.add.new.self c.hand_out.new.waiting.items
    (not_full c.self.inside.floating.limit (length c.self.inside.floating.entries) c.is_full.result c.if-is_full.false c.is_full.ensures.full) c.now-now.ensures
    (handed g.C.Carrier.link g.C.Carrier.steps c.now-now.result c.args.unit c.args.wish _ _ _ c.in_ok-answer.answer WasTaken _ _ _ c.in-Taken.is c.in_ok-answer.ensures)
    c.in_ok-add-in-Taken.ensures.limit c.in_ok-add-in-Taken.ensures.ok)).1

pub invariant_of-self-in-Dropped-1 : goal.invariant_of-self-in-Dropped-1
invariant_of-self-in-Dropped-1 g c = λ _.
    (offer_keeps g.C.Carrier.link g.C.Carrier.steps g.met.C.Carrier.keeps rows_tables
    (network_of c.self.inside.link c.self.inside.systems c.self.inside.floating c.self.inside.waiting.items c.self.inside.strays c.self.inside.life) c.args.unit c.args.wish (Dropped c.in-Dropped.cause) _
    (c.self.invariant c.in_ok-go_on.ensures)
    (offer_dropped g.C.Carrier.link g.C.Carrier.steps
    (network_of c.self.inside.link c.self.inside.systems c.self.inside.floating c.self.inside.waiting.items c.self.inside.strays c.self.inside.life) c.args.unit c.args.wish c.now-now.result c.in-Dropped.cause
    c.hand_out.new.link c.hand_out.new.systems c.hand_out.new.waiting.items
    (not_full c.self.inside.floating.limit (length c.self.inside.floating.entries) c.is_full.result c.if-is_full.false c.is_full.ensures.full) c.now-now.ensures
    (handed g.C.Carrier.link g.C.Carrier.steps c.now-now.result c.args.unit c.args.wish _ _ _ c.in_ok-answer.answer (Dropped c.in-Dropped.cause) _ _ _ c.in-Dropped.is c.in_ok-answer.ensures))).1

pub returns-in_ok-add-in-Taken : goal.returns-in_ok-add-in-Taken
returns-in_ok-add-in-Taken g c = rw (← c.self.view_is) (
  c.self.invariant c.in_ok-go_on.ensures,
  offer_taken g.C.Carrier.link g.C.Carrier.steps
      (network_of c.self.inside.link c.self.inside.systems c.self.inside.floating c.self.inside.waiting.items c.self.inside.strays c.self.inside.life) c.args.unit c.args.wish c.now-now.result
      c.hand_out.new.link c.hand_out.new.systems c.add.new.self c.hand_out.new.waiting.items
      (not_full c.self.inside.floating.limit (length c.self.inside.floating.entries) c.is_full.result c.if-is_full.false c.is_full.ensures.full) c.now-now.ensures
      (handed g.C.Carrier.link g.C.Carrier.steps c.now-now.result c.args.unit c.args.wish _ _ _ c.in_ok-answer.answer WasTaken _ _ _ c.in-Taken.is c.in_ok-answer.ensures)
      c.in_ok-add-in-Taken.ensures.limit c.in_ok-add-in-Taken.ensures.ok,
)

pub returns-in-Dropped : goal.returns-in-Dropped
returns-in-Dropped g c = rw (← c.self.view_is) (
  c.self.invariant c.in_ok-go_on.ensures,
  offer_dropped g.C.Carrier.link g.C.Carrier.steps
      (network_of c.self.inside.link c.self.inside.systems c.self.inside.floating c.self.inside.waiting.items c.self.inside.strays c.self.inside.life) c.args.unit c.args.wish c.now-now.result c.in-Dropped.cause
      c.hand_out.new.link c.hand_out.new.systems c.hand_out.new.waiting.items
      (not_full c.self.inside.floating.limit (length c.self.inside.floating.entries) c.is_full.result c.if-is_full.false c.is_full.ensures.full) c.now-now.ensures
      (handed g.C.Carrier.link g.C.Carrier.steps c.now-now.result c.args.unit c.args.wish _ _ _ c.in_ok-answer.answer (Dropped c.in-Dropped.cause) _ _ _ c.in-Dropped.is c.in_ok-answer.ensures),
)
