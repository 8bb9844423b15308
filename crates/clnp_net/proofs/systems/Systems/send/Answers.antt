use Rattle.std.proofs.Common.{◌∙◌, sym, refl}
use Rattle.clnp_system.specs.Node.{sent_of}
use Rattle.clnp_net.proofs.Parts.{sent_at, sent_none, source_at, within_at}
use Rattle.law_clnp_step.specs.Step.{is_source}
use Rattle.clnp_net.proofs.systems.Systems.send.Goals as goal

pub returns-in_default : goal.returns-in_default
returns-in_default c = (sent_none c.args.unit.now.from c.args.self.now (sym c.place_from.ensures ∙ c.in_default.is), refl)

pub send_at-requires-clause-source : goal.send_at-requires-clause-source
send_at-requires-clause-source c = source_at c.args.unit.now.from c.in-Some.place c.args.self.now (sym c.place_from.ensures ∙ c.in-Some.is)

pub returns : goal.returns
returns c =
    sent_at c.args.now c.args.unit.now c.args.wish c.in-Some.place c.in_ok-sent.sent.0 c.args.self.now (sent_of c.in_ok-sent.sent.1) c.send_at.new.self (sym c.place_from.ensures ∙ c.in-Some.is) c.in_ok-sent.ensures

pub send_at-requires-clause-within : goal.send_at-requires-clause-within
send_at-requires-clause-within c = within_at (is_source c.args.unit.now.from) c.args.self.now c.in-Some.place (sym c.place_from.ensures ∙ c.in-Some.is)
