use Rattle.std.proofs.Common.{rules, ◌∙◌, ◌≡◌, sym, true, false}
use Rattle.std.proofs.lemmas.Result.{on_ok_weaker}
use Rattle.tp4_sending.specs.SendingHalf.{has_next, rule_allows}
use Rattle.tp4_sending.proofs.Goings.{going_on, going_done, going_held, keeps_on}
use Rattle.tp4_sending.proofs.sending.Sending.send_pieces.Goals as goal

pub returns-then-not-may_send-clause-step : goal.returns-then-not-may_send-clause-step
returns-then-not-may_send-clause-step c =
    let more : has_next c.loop-self.self ≡ true = sym c.has_next.ensures ∙ c.loop-self-test.true in
    let rule : rule_allows c.loop-self.self c.loop-self.self.numbers.blocks c.loop-self.self.numbers.next ≡ false = search rules in
    on_ok_weaker c.hold_normal.result
    (going_held c.args.self.now c.args.out.now c.loop-self.self c.loop-self.out c.hold_normal.new.self c.hold_normal.new.out c.loop-self.invariant.going more rule)
    c.hold_normal.ensures.step

pub loop-self-preserved : goal.loop-self-preserved
loop-self-preserved c =
    let more : has_next c.loop-self.self ≡ true = sym c.has_next.ensures ∙ c.loop-self-test.true in
    let rule : rule_allows c.loop-self.self c.loop-self.self.numbers.blocks c.loop-self.self.numbers.next ≡ true = search rules in
    record {
      going = (going_on c.args.self.now c.args.out.now c.loop-self.self c.loop-self.out c.send_next.new.self c.send_next.new.out c.loop-self.invariant.going more rule c.in_ok-send_next.ensures.step).0;
      kept = keeps_on c.args.self.now c.loop-self.self c.send_next.new.self c.args.self.now.clock c.loop-self.invariant.kept c.in_ok-send_next.ensures.kept;
    }

pub loop-self-smaller : goal.loop-self-smaller
loop-self-smaller c =
    let more : has_next c.loop-self.self ≡ true = sym c.has_next.ensures ∙ c.loop-self-test.true in
    let rule : rule_allows c.loop-self.self c.loop-self.self.numbers.blocks c.loop-self.self.numbers.next ≡ true = search rules in
    (going_on c.args.self.now c.args.out.now c.loop-self.self c.loop-self.out c.send_next.new.self c.send_next.new.out c.loop-self.invariant.going more rule c.in_ok-send_next.ensures.step).1

pub returns-clause-step : goal.returns-clause-step
returns-clause-step c =
    going_done c.args.self.now c.args.out.now c.loop-self.self c.loop-self.out c.loop-self.invariant.going (sym c.has_next.ensures ∙ c.loop-self-test.false)
