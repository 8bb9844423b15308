use Rattle.std.proofs.Common.{◌≡◌, ◌≤◌, ◌+◌, ◌-◌, length, take, drop, min, max, sym, ◌∙◌, ap, subst, arith, true}
use Rattle.circular_buffer.specs.Buffer.{Buffer}
use Rattle.tp4_sending.specs.SendingHalf.{FlowSender, acknowledged_to, is_taken}
use Rattle.tp4_sending.specs.Kept.{IsSending, most_granted}
use Rattle.tp4_sending.specs.contracts.sending.Sending.{the_view}
use Rattle.tp4_sending.specs.declared.tries.Tries.{Tries}
use Rattle.tp4_sending.proofs.Advances.{advance_done, dropped}
use Rattle.tp4_sending.proofs.Totals.{freed_total}
use Rattle.tp4_sending.proofs.sending.Sending.advance.Goals as goal
use Rattle.tp4_sending.proofs.sending.Sending.advance.Goals.{After-free}

window_is : (c : After-free) → c.truncate_back.new.self.items ≡ take (c.max-next.result - c.args.n) (drop (c.args.n - c.self.inside.base) c.self.inside.window.items)
window_is c =
    let kept : c.saturating_sub-kept.result ≡ length c.self.inside.window.items - (c.args.n - c.self.inside.base) = omega (arith, c.self.invariant.0.window) in
    ap (λ (b : Buffer Tries). b.items) c.truncate_back.ensures
    ∙ ap (λ (b : Buffer Tries). take (c.max-next.result - c.args.n) b.items) c.truncate_front.ensures
    ∙ ap (take (c.max-next.result - c.args.n)) (dropped c.self.inside.window.items (c.args.n - c.self.inside.base) c.saturating_sub-kept.result kept)

abbrev whole : After-free → FlowSender
whole c = record (the_view c.self.inside) {
  numbers = record (the_view c.self.inside).numbers { base = c.args.n; credit = c.args.credit; subsequence = c.args.subsequence; next = c.max-next.result };
  window = c.truncate_back.new.self.items;
  queue = record { units = c.free.new.units.items; first = c.free.new.first };
}

done : (c : After-free) → (whole c ≡ acknowledged_to (the_view c.self.inside) c.args.n c.args.credit c.args.subsequence) × IsSending (whole c)
done c =
    let next : c.max-next.result ≡ max c.args.n (min c.self.inside.next (c.args.n + c.args.credit)) = omega arith in
    let taken : is_taken (the_view c.self.inside) c.args.n c.args.credit c.args.subsequence ≡ true =
    subst (λ (s : FlowSender). is_taken s c.args.n c.args.credit c.args.subsequence ≡ true) (sym c.self.view_is) c.requires.taken in
    advance_done (the_view c.self.inside) c.args.n c.args.credit c.args.subsequence c.max-next.result c.truncate_back.new.self.items
    (record { units = c.free.new.units.items; first = c.free.new.first }) next (window_is c) c.free.ensures.freed c.self.invariant.0 taken
    (subst (λ (s : FlowSender). c.args.credit ≤ most_granted s.rules.format) (sym c.self.view_is) c.requires.credit)

pub invariant_of-self : goal.invariant_of-self
invariant_of-self c = (
  (done c).1,
  freed_total c.self.inside.rules.piece c.args.n c.self.inside.end c.self.inside.waiting c.free.new.octets (record { units = c.self.inside.units.items; first = c.self.inside.first })
      (record { units = c.free.new.units.items; first = c.free.new.first }) c.self.invariant.1 c.free.ensures.freed c.free.ensures.octets,
  c.self.invariant.2,
  tt,
)

pub returns : goal.returns
returns c = (done c).0 ∙ ap (λ (s : FlowSender). acknowledged_to s c.args.n c.args.credit c.args.subsequence) c.self.view_is
