use Rattle.std.proofs.Common.{◌≡◌, Bool, true, false, refl, sym, ◌∙◌, subst}
use Rattle.tp4_number.specs.Number.{near}
use Rattle.tp4_sending.specs.SendingHalf.{FlowSender, Sends, Keeps, at, block_in, is_taken, acknowledged_to, acknowledged}
use Rattle.tp4_sending.proofs.Goings.{keeps_on}
use Rattle.tp4_sending.proofs.Calls.{ak_done, ak_left, ak_newer, kept_at}
use Rattle.tp4_sending.proofs.sending.Sending.on_ak.Goals as goal

pub returns : goal.returns
returns c =
    let s : FlowSender = c.set_clock.new.self in
    let taken : true ≡ is_taken s c.near-n.result c.args.credit c.args.subsequence = sym c.if-not-is_newer.false ∙ c.is_newer.ensures in
    let done : Sends (acknowledged s c.args.wire c.args.credit c.args.subsequence) c.new_sends.new.self c.args.out.now c.new_sends.new.out =
    ak_done s c.args.wire c.near-n.result c.args.credit c.args.subsequence c.advance.new.self c.new_sends.new.self c.args.out.now c.new_sends.new.out
    c.near-n.ensures taken c.advance.ensures c.in_ok-new_sends.ensures.step in
    let first : Keeps s c.advance.new.self s.clock = subst (λ (f : FlowSender). Keeps s f s.clock) (sym c.advance.ensures) (record { rules = refl; is_open = refl; clock = refl }) in
    let both : Keeps s c.new_sends.new.self s.clock = keeps_on s c.advance.new.self c.new_sends.new.self s.clock first c.in_ok-new_sends.ensures.kept in
    record {
      newer = subst (λ (f : FlowSender). true ≡ is_taken f (near (block_in f) f.numbers.base c.args.wire) c.args.credit c.args.subsequence) c.set_clock.ensures
          (ak_newer s c.args.wire c.near-n.result c.args.credit c.args.subsequence true c.near-n.ensures taken);
      step = subst (λ (f : FlowSender). Sends (acknowledged f c.args.wire c.args.credit c.args.subsequence) c.know_due.new.self c.args.out.now c.new_sends.new.out) c.set_clock.ensures
          (subst (λ (f : FlowSender). Sends (acknowledged s c.args.wire c.args.credit c.args.subsequence) f c.args.out.now c.new_sends.new.out) (sym c.know_due.ensures) done);
      kept = kept_at c.args.self.now c.know_due.new.self c.args.now
          (subst (λ (f : FlowSender). Keeps f c.know_due.new.self f.clock) c.set_clock.ensures (subst (λ (f : FlowSender). Keeps s f s.clock) (sym c.know_due.ensures) both));
    }

pub returns-then-not-is_newer : goal.returns-then-not-is_newer
returns-then-not-is_newer c =
    let s : FlowSender = c.set_clock.new.self in
    let old : false ≡ is_taken s c.near-n.result c.args.credit c.args.subsequence = sym c.if-not-is_newer.true ∙ c.is_newer.ensures in
    record {
      newer = subst (λ (f : FlowSender). false ≡ is_taken f (near (block_in f) f.numbers.base c.args.wire) c.args.credit c.args.subsequence) c.set_clock.ensures
          (ak_newer s c.args.wire c.near-n.result c.args.credit c.args.subsequence false c.near-n.ensures old);
      step = subst (λ (f : FlowSender). Sends (acknowledged f c.args.wire c.args.credit c.args.subsequence) s c.args.out.now c.args.out.now) c.set_clock.ensures
          (ak_left s c.args.wire c.near-n.result c.args.credit c.args.subsequence c.args.out.now c.near-n.ensures old);
      kept = kept_at c.args.self.now s c.args.now (subst (λ (f : FlowSender). Keeps f s f.clock) c.set_clock.ensures (record { rules = refl; is_open = refl; clock = refl }));
    }
