use Rattle.std.proofs.Common.{◌+◌, ◌<◌, ◌≤◌, length, sym, ◌∙◌, ap, subst, arith}
use Rattle.std.specs.Prelude.{slice_set}
use Rattle.circular_buffer.specs.Buffer.{Buffer}
use Rattle.tp4_number.specs.declared.blocks.Blocks.{Blocks}
use Rattle.tp4_sending.specs.SendingHalf.{FlowSender}
use Rattle.tp4_sending.specs.contracts.sending.Sending.{the_view}
use Rattle.tp4_sending.specs.declared.tries.Tries.{Tries}
use Rattle.tp4_sending.proofs.Counts.{retried_put}
use Rattle.tp4_sending.proofs.Theres.{marked_there}
use Rattle.tp4_sending.proofs.sending.Sending.retry.Goals as goal

pub invariant_of-self : goal.invariant_of-self
invariant_of-self c =
    let place : c.args.at < length c.self.inside.window.items = subst (λ (s : FlowSender). c.args.at < length s.window) (sym c.self.view_is) c.requires.within in
    let sent : c.self.inside.base + c.args.at < c.self.inside.end =
    omega (arith, place, c.self.invariant.0.window, c.self.invariant.0.normal.next_to, c.self.invariant.2.pieces) in (
      retried_put (the_view c.self.inside) c.args.at c.args.tries c.mark.new.self c.put.new.window.items c.mark.ensures
          (ap (λ (b : Buffer Tries). b.items) c.put.ensures ∙ ap (slice_set c.self.inside.window.items c.args.at) c.again.ensures)
          c.self.invariant.0 place c.requires.few,
      c.self.invariant.1,
      record {
        pieces = subst (λ (b : Blocks). b.high ≤ c.self.inside.end) (sym c.mark.ensures)
            (marked_there _ c.self.inside.blocks (c.self.inside.base + c.args.at) c.self.inside.clock c.self.inside.end c.self.invariant.2.pieces sent);
        unit = c.self.invariant.2.unit;
      },
      tt,
    )
