use Rattle.std.proofs.Common.{◌≡◌, ◌∙◌, ap, ◌<◌, ◌≤◌, List, [], ◌∷◌, ◌++◌, true, sym, subst, arith}
use Rattle.circular_buffer.specs.Buffer.{Buffer}
use Rattle.tp4_number.specs.declared.blocks.Blocks.{Blocks}
use Rattle.tp4_sending.specs.SendingHalf.{FlowSender, has_next, rule_allows}
use Rattle.tp4_sending.specs.Pieces.{once}
use Rattle.tp4_sending.specs.contracts.sending.Sending.{the_view}
use Rattle.tp4_sending.specs.declared.tries.Tries.{Tries}
use Rattle.tp4_sending.specs.steps.Known.{IsKnown}
use Rattle.tp4_sending.proofs.Counts.{sent_first_as}
use Rattle.tp4_sending.proofs.Goings.{has_more}
use Rattle.tp4_sending.proofs.Leasts.{known_push}
use Rattle.tp4_sending.proofs.Theres.{all_kept, marked_there}
use Rattle.tp4_sending.proofs.sending.Sending.send_next.Goals as goal

pub invariant_of-self-3 : goal.invariant_of-self-3
invariant_of-self-3 c =
    let s = the_view c.self.inside in
    let window : c.push_back.new.self.items ≡ c.self.inside.window.items ++ once c.self.inside.clock ∷ [] =
    ap (λ (b : Buffer Tries). b.items) c.push_back.ensures.items
    ∙ all_kept c.make_room.new.window.capacity c.make_room.new.window.items c.once.result c.in_ok-make_room.ensures.room
    ∙ ap (λ (w : List Tries). w ++ c.once.result ∷ []) c.make_room.ensures.items
    ∙ ap (λ (t : Tries). c.self.inside.window.items ++ t ∷ []) c.once.ensures in
    let more : has_next s ≡ true = subst (λ (f : FlowSender). has_next f ≡ true) (sym c.self.view_is) c.requires.more in
    let rule : rule_allows s s.numbers.blocks s.numbers.next ≡ true = subst (λ (f : FlowSender). rule_allows f f.numbers.blocks f.numbers.next ≡ true) (sym c.self.view_is) c.requires.rule in
    let below : c.self.inside.next < c.self.inside.end = omega (arith, has_more s more, c.self.invariant.1.end_is) in (
      sent_first_as s c.mark.new.self c.push_back.new.self.items c.mark.ensures window c.self.invariant.0 more rule,
      c.self.invariant.1,
      record {
        pieces = subst (λ (b : Blocks). b.high ≤ c.self.inside.end) (sym c.mark.ensures)
            (marked_there _ c.self.inside.blocks c.self.inside.next c.self.inside.clock c.self.inside.end c.self.invariant.2.pieces below);
        unit = c.self.invariant.2.unit;
      },
      subst (λ (w : List Tries). IsKnown c.self.inside.rules.t1 w c.with_sent-self-inside.result) (sym window)
          (subst (IsKnown c.self.inside.rules.t1 (c.self.inside.window.items ++ once c.self.inside.clock ∷ [])) (sym c.with_sent-self-inside.ensures)
          (known_push c.self.inside.rules.t1 c.self.inside.clock c.self.inside.window.items c.self.inside.due c.self.invariant.3)),
    )
