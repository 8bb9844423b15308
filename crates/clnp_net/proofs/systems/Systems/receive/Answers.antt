use Rattle.std.proofs.Common.{◌∙◌, sym, subst}
use Rattle.clnp_system.specs.Node.{Reaction, reaction_in}
use Rattle.law_clnp_step.specs.Handling.{IsReceived, is_system}
use Rattle.clnp_system.specs.Tables.{rows_tables}
use Rattle.clnp_net.proofs.Parts.{nothing_is, received_at, received_behind, received_none, within_at}
use Rattle.clnp_net.proofs.systems.Systems.receive.Goals as goal

pub returns-in_default-clause-received : goal.returns-in_default-clause-received
returns-in_default-clause-received c =
    subst (λ (r : Reaction). IsReceived rows_tables c.args.now c.args.self.now c.args.arrival.now r c.args.self.now)
    (nothing_is _ _ c.new.ensures.items c.new-in_default.ensures.items)
    (received_none c.args.now c.args.self.now c.args.arrival.now (sym c.place_of.ensures ∙ c.in_default.is))

pub returns-clause-received : goal.returns-clause-received
returns-clause-received c =
    received_at c.args.now c.in-Some.place c.args.self.now c.args.arrival.now (reaction_in c.in_ok-received.received) c.receive_at.new.self (sym c.place_of.ensures ∙ c.in-Some.is) c.in_ok-received.ensures

pub returns-clause-behind : goal.returns-clause-behind
returns-clause-behind c =
    received_behind c.args.now c.in-Some.place c.args.self.now c.args.arrival.now (reaction_in c.in_ok-received.received) c.receive_at.new.self c.requires.behind c.in_ok-received.ensures

pub receive_at-requires-clause-within : goal.receive_at-requires-clause-within
receive_at-requires-clause-within c = within_at (is_system c.args.arrival.now.system) c.args.self.now c.in-Some.place (sym c.place_of.ensures ∙ c.in-Some.is)
