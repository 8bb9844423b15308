use Rattle.script_relays.proofs.Turning.{answered_pump, asks_part, is_asking}
use Rattle.script_relays.proofs.play.run_line.Goals as goal

pub pump-requires : goal.pump-requires
pump-requires g c =
    let p =
    answered_pump g.N.Carrier.link g.N.Carrier.steps g.met.N.Carrier.keeps c.args.titles.now c.args.line c.args.service.now c.answer.new.service c.args.relay.now c.answer.new.events.items c.requires.listed c.requires.plays
    c.in_ok-answer-in_default.ensures in
    record { has = p.has; named = p.named; credit = p.credit; line = p.line }

pub returns-in_ok-_pumped-in_default : goal.returns-in_ok-_pumped-in_default
returns-in_ok-_pumped-in_default g c =
    asks_part g.N.Carrier.link g.N.Carrier.steps g.met.N.Carrier.keeps c.args.titles.now c.args.line c.args.service.now c.answer.new.service c.pump.new.service c.args.relay.now c.pump.new.self c.answer.new.events.items c.pump.new.events.items
    c.in_ok-_pumped-in_default._pumped (is_asking c.args.line c.in_default.not-Nothing c.in_default.not-Settle) c.in_ok-answer-in_default.ensures c.in_ok-_pumped-in_default.ensures.step
