use Rattle.std.proofs.Common.{◌≡◌, ◌∙◌, ◌+◌, ◌<◌, arith, false, true, List, subst, sym}
use Rattle.std.proofs.lemmas.Bool.Decides.{nat_tests}
use Rattle.script_journal.specs.declared.event.Event.{Event}
use Rattle.law_relay.specs.Relays.{Turns, is_more}
use Rattle.script_relays.proofs.Turning.{TurnsSo, last_turn, next_turn}
use Rattle.script_relays.proofs.play.settle.Goals as goal

pub returns-then-not-more : goal.returns-then-not-more
returns-then-not-more g c =
    let t = c.in_ok-more.ensures.turn in
    let test = c.loop-test.true in
    let low : c.loop.counter < 64 = grind (arith, nat_tests) in
    let stop : is_more t.0 t.1 ≡ false = sym t.3 ∙ c.if-not-more.true in
    subst (λ (es : List Event). Turns g.N.Carrier.link g.N.Carrier.steps 0 c.args.service.now c.args.relay.now es c.settle_once.new.service c.settle_once.new.relay) (sym c.in_ok-append.ensures.items)
    (last_turn g.N.Carrier.link g.N.Carrier.steps g.met.N.Carrier.keeps c.args.service.now c.loop.service c.settle_once.new.service c.args.relay.now c.loop.relay c.settle_once.new.relay c.loop.counter c.loop.events.items
    c.settle_once.new.events.items t.1 t.0 low c.loop.invariant t.2 stop)

pub loop-preserved : goal.loop-preserved
loop-preserved g c =
    let t = c.in_ok-more.ensures.turn in
    let test = c.loop-test.true in
    let low : c.loop.counter < 64 = grind (arith, nat_tests) in
    let more : is_more t.0 t.1 ≡ true = sym t.3 ∙ c.if-not-more.false in
    subst (λ (es : List Event). TurnsSo g.N.Carrier.link g.N.Carrier.steps g.met.N.Carrier.keeps c.args.service.now c.args.relay.now (c.loop.counter + 1) c.settle_once.new.service c.settle_once.new.relay es) (sym c.in_ok-append.ensures.items)
    (next_turn g.N.Carrier.link g.N.Carrier.steps g.met.N.Carrier.keeps c.args.service.now c.loop.service c.settle_once.new.service c.args.relay.now c.loop.relay c.settle_once.new.relay c.loop.counter c.loop.events.items
    c.settle_once.new.events.items t.1 t.0 low c.loop.invariant t.2 more c.in_ok-more.ensures.plays)
