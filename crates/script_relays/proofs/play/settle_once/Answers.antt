use Rattle.std.proofs.Common.{◌∙◌, ap}
use Rattle.tp4_number.specs.Number.{wire}
use Rattle.tp4_world.specs.Run.{Settles}
use Rattle.law_relay.specs.Relays.{is_stopped}
use Rattle.script_relays.proofs.Stopping.{more_so, none_more}
use Rattle.script_relays.proofs.Turning.{after_pump, settled_plays, settled_pump}
use Rattle.script_relays.proofs.play.settle_once.Goals as goal

pub pump-requires-clause-has : goal.pump-requires-clause-has
pump-requires-clause-has g c =
    (settled_pump g.N.Carrier.link g.N.Carrier.steps g.met.N.Carrier.keeps c.args.service.now c.settle.new.self c.args.relay.now c.settle.new.events.items c.requires.plays c.in_ok-settle.ensures).has

pub pump-requires-clause-named : goal.pump-requires-clause-named
pump-requires-clause-named g c =
    (settled_pump g.N.Carrier.link g.N.Carrier.steps g.met.N.Carrier.keeps c.args.service.now c.settle.new.self c.args.relay.now c.settle.new.events.items c.requires.plays c.in_ok-settle.ensures).named

pub pump-requires-clause-credit : goal.pump-requires-clause-credit
pump-requires-clause-credit g c = c.requires.plays.credit

pub pump-requires-clause-line : goal.pump-requires-clause-line
pump-requires-clause-line g c =
    (settled_pump g.N.Carrier.link g.N.Carrier.steps g.met.N.Carrier.keeps c.args.service.now c.settle.new.self c.args.relay.now c.settle.new.events.items c.requires.plays c.in_ok-settle.ensures).line

pub returns-then-pumped-clause-turn : goal.returns-then-pumped-clause-turn
returns-then-pumped-clause-turn g c = (
  c.in_ok-pumped.pumped,
  c.settle.new.events.items,
  after_pump g.N.Carrier.link g.N.Carrier.steps g.met.N.Carrier.keeps (Settles g.N.Carrier.link g.N.Carrier.steps wire 0) c.args.service.now c.settle.new.self c.pump.new.service c.args.relay.now c.pump.new.self
      c.settle.new.events.items c.pump.new.events.items c.in_ok-pumped.pumped c.in_ok-settle.ensures c.in_ok-pumped.ensures.step,
  more_so c.in_ok-pumped.pumped c.is_stopped-stopped.result c.settle.new.events.items c.if-pumped.true (c.is_stopped-stopped.ensures ∙ ap is_stopped c.deref.ensures.value),
)

pub returns-else-pumped-clause-turn : goal.returns-else-pumped-clause-turn
returns-else-pumped-clause-turn g c = (
  c.in_ok-pumped.pumped,
  c.settle.new.events.items,
  after_pump g.N.Carrier.link g.N.Carrier.steps g.met.N.Carrier.keeps (Settles g.N.Carrier.link g.N.Carrier.steps wire 0) c.args.service.now c.settle.new.self c.pump.new.service c.args.relay.now c.pump.new.self
      c.settle.new.events.items c.pump.new.events.items c.in_ok-pumped.pumped c.in_ok-settle.ensures c.in_ok-pumped.ensures.step,
  none_more c.in_ok-pumped.pumped c.settle.new.events.items c.if-pumped.false,
)

pub returns-then-pumped-clause-plays : goal.returns-then-pumped-clause-plays
returns-then-pumped-clause-plays g c =
    settled_plays g.N.Carrier.link g.N.Carrier.steps g.met.N.Carrier.keeps c.args.service.now c.pump.new.service c.args.relay.now c.pump.new.self c.settle.new.events.items c.pump.new.events.items c.in_ok-pumped.pumped c.requires.plays
    (after_pump g.N.Carrier.link g.N.Carrier.steps g.met.N.Carrier.keeps (Settles g.N.Carrier.link g.N.Carrier.steps wire 0) c.args.service.now c.settle.new.self c.pump.new.service c.args.relay.now c.pump.new.self
    c.settle.new.events.items c.pump.new.events.items c.in_ok-pumped.pumped c.in_ok-settle.ensures c.in_ok-pumped.ensures.step)

pub returns-else-pumped-clause-plays : goal.returns-else-pumped-clause-plays
returns-else-pumped-clause-plays g c =
    settled_plays g.N.Carrier.link g.N.Carrier.steps g.met.N.Carrier.keeps c.args.service.now c.pump.new.service c.args.relay.now c.pump.new.self c.settle.new.events.items c.pump.new.events.items c.in_ok-pumped.pumped c.requires.plays
    (after_pump g.N.Carrier.link g.N.Carrier.steps g.met.N.Carrier.keeps (Settles g.N.Carrier.link g.N.Carrier.steps wire 0) c.args.service.now c.settle.new.self c.pump.new.service c.args.relay.now c.pump.new.self
    c.settle.new.events.items c.pump.new.events.items c.in_ok-pumped.pumped c.in_ok-settle.ensures c.in_ok-pumped.ensures.step)
