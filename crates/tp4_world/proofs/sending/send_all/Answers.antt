use Rattle.std.proofs.Common.{◌≡◌, ◌<◌, ◌∙◌, [], drop, length, List, refl, arith, rules}
use Rattle.std.proofs.lemmas.Grind.{common_steps}
use Rattle.script_journal.specs.declared.event.Event.{Event}
use Rattle.tp4_flow.specs.declared.step.Sent.{Sent}
use Rattle.tp4_world.specs.Run.{SendsTpdus}
use Rattle.tp4_world.proofs.Acting.{sends_more}
use Rattle.tp4_world.proofs.Going.{going_first, going_over}
use Rattle.tp4_world.proofs.sending.send_all.Goals as goal

pub loop-sent-init : goal.loop-sent-init
loop-sent-init g c = (
  going_first (λ old (sents : List Sent) (made : List Event) new. SendsTpdus g.C.Carrier.link g.C.Carrier.steps old c.args.system c.args.own.now sents made new) c.args.carrier.now c.args.tpdus.now c.args.events.now.items,
  refl,
)

pub loop-sent-preserved : goal.loop-sent-preserved
loop-sent-preserved g c =
    let low : c.loop-sent.sent-index < length c.args.tpdus.now = search rules in (
      sends_more g.C.Carrier.link g.C.Carrier.steps c.args.carrier.now c.args.system c.args.own.now c.args.tpdus.now c.args.events.now.items c.loop-sent.carrier c.loop-sent.events.items c.loop-sent.sent-index
          c.sent-item.result c.send.new.carrier c.send.new.events.items c.loop-sent.invariant.0 low c.sent-item.is c.in_ok-send.ensures.sends,
      c.in_ok-send.ensures.clock ∙ c.loop-sent.invariant.1,
    )

pub returns : goal.returns
returns g c =
    let over : drop c.loop-sent.sent-index c.args.tpdus.now ≡ [] = grind (arith, common_steps) in record {
      sends = going_over (λ old (sents : List Sent) (made : List Event) new. SendsTpdus g.C.Carrier.link g.C.Carrier.steps old c.args.system c.args.own.now sents made new) c.args.carrier.now c.args.tpdus.now
          c.args.events.now.items c.loop-sent.carrier c.loop-sent.events.items (drop c.loop-sent.sent-index c.args.tpdus.now) c.loop-sent.invariant.0 over (refl, refl);
      clock = c.loop-sent.invariant.1;
    }
