use Rattle.std.proofs.Common.{◌≡◌, ◌∙◌, ◌+◌, ◌*◌, ◌%◌, ◌==◌, ◌∷◌, ◌++◌, [], List, sym, ap, subst, arith, true, false, ℕ}
use Rattle.std.proofs.lemmas.Bool.Decides.{nat_tests}
use Rattle.tp4_number.specs.Number.{wire}
use Rattle.tp4_flow.specs.ReceivingHalf.{Half, block_in, ea}
use Rattle.tp4_flow.specs.Told.{Told}
use Rattle.tp4_flow.specs.declared.step.What.TheVariants as whats
use Rattle.tpdu.specs.declared.service.EndTold.TheVariants.{Urgent}
use Rattle.tp4_flow.proofs.Joinings.{append_none}
use Rattle.tp4_flow.proofs.Urgents.{TakesUrgent, urgent_next, urgent_other}
use Rattle.tp4_flow.proofs.receiving.Receiving.on_ed.Goals as goal
use Rattle.tp4_flow.proofs.receiving.Receiving.on_ed.Goals.{In_ok-answer_ed, In_ok-answer_ed-2, Else-wire-turn}

next : (c : In_ok-answer_ed) → TakesUrgent c.args.self.now c.args.wire c.args.octets.now true
    (record { rules = c.self.inside.rules; receiver = record { expected = c.self.inside.expected; urgent = (c.self.inside.urgent + 1) % (4 * c.block-turn.result); inbox = record { credit = c.self.inside.credit; subsequence = c.self.inside.subsequence; held = c.self.inside.window } } }) c.args.out.now c.answer_ed.new.out
next c =
    let viewed : Half = record { rules = c.self.inside.rules; receiver = record { expected = c.self.inside.expected; urgent = c.self.inside.urgent; inbox = record { credit = c.self.inside.credit; subsequence = c.self.inside.subsequence; held = c.self.inside.window } } } in
    let told : c.answer_ed.new.out ≡ record { events = c.args.out.now.events ++ record { reference = viewed.rules.own; what = whats.End (Urgent c.args.octets.now) } ∷ []; tpdus = c.args.out.now.tpdus ++ ea viewed c.args.wire ∷ [] } =
    c.in_ok-answer_ed.ensures.ok
    ∙ ap (λ (t : Told). record t { tpdus = t.tpdus ++ ea viewed c.args.wire ∷ [] }) c.in_ok-event.ensures.ok
    ∙ ap (λ (o : List ℕ). record { events = c.args.out.now.events ++ record { reference = viewed.rules.own; what = whats.End (Urgent o) } ∷ []; tpdus = c.args.out.now.tpdus ++ ea viewed c.args.wire ∷ [] }) c.in_ok-copy.ensures in
    let new : ℕ → Half = λ n. record viewed { receiver = record viewed.receiver { urgent = (viewed.receiver.urgent + 1) % (4 * n) } } in
    subst (λ (h : Half). TakesUrgent h c.args.wire c.args.octets.now true (new c.block-turn.result) c.args.out.now c.answer_ed.new.out) c.self.view_is
    (subst (λ (n : ℕ). TakesUrgent viewed c.args.wire c.args.octets.now true (new n) c.args.out.now c.answer_ed.new.out) (sym c.block-turn.ensures)
    (urgent_next viewed c.args.wire c.args.octets.now c.args.out.now c.answer_ed.new.out c.self.invariant.urgent_low c.if-wire-self.true told))

before : (c : In_ok-answer_ed-2) → TakesUrgent c.args.self.now c.args.wire c.args.octets.now false c.args.self.now c.args.out.now c.answer_ed-then-wire-turn.new.out
unfolding wire
before c =
    let viewed : Half = record { rules = c.self.inside.rules; receiver = record { expected = c.self.inside.expected; urgent = c.self.inside.urgent; inbox = record { credit = c.self.inside.credit; subsequence = c.self.inside.subsequence; held = c.self.inside.window } } } in
    let at : (c.args.wire + 1) % (4 * block_in viewed) ≡ viewed.receiver.urgent = ap (λ (n : ℕ). (c.args.wire + 1) % (4 * n)) (sym c.block-turn.ensures) ∙ c.if-wire-turn.true in
    let other : (c.args.wire == viewed.receiver.urgent) ≡ false = grind (arith, nat_tests, c.if-wire-self.false) in
    let is_before : (wire (block_in viewed) (c.args.wire + 1) == viewed.receiver.urgent) ≡ true = grind (arith, nat_tests, at) in
    subst (λ (h : Half). TakesUrgent h c.args.wire c.args.octets.now false h c.args.out.now c.answer_ed-then-wire-turn.new.out) c.self.view_is
    (urgent_other viewed c.args.wire c.args.octets.now true c.args.out.now c.answer_ed-then-wire-turn.new.out c.self.invariant.urgent_low other is_before
    (c.in_ok-answer_ed-2.ensures.ok ∙ ap (λ (h : Half). record c.args.out.now { tpdus = c.args.out.now.tpdus ++ ea h c.args.wire ∷ [] }) (sym c.self.view_is)))

neither : (c : Else-wire-turn) → TakesUrgent c.args.self.now c.args.wire c.args.octets.now false c.args.self.now c.args.out.now c.args.out.now
unfolding wire
neither c =
    let viewed : Half = record { rules = c.self.inside.rules; receiver = record { expected = c.self.inside.expected; urgent = c.self.inside.urgent; inbox = record { credit = c.self.inside.credit; subsequence = c.self.inside.subsequence; held = c.self.inside.window } } } in
    let at : ((c.args.wire + 1) % (4 * c.block-turn.result) == viewed.receiver.urgent) ≡ false = grind (arith, nat_tests, c.if-wire-turn.false) in
    let other : (c.args.wire == viewed.receiver.urgent) ≡ false = grind (arith, nat_tests, c.if-wire-self.false) in
    let is_before : (wire (block_in viewed) (c.args.wire + 1) == viewed.receiver.urgent) ≡ false = ap (λ (n : ℕ). (c.args.wire + 1) % (4 * n) == viewed.receiver.urgent) (sym c.block-turn.ensures) ∙ at in
    let same : c.args.out.now ≡ record c.args.out.now { tpdus = c.args.out.now.tpdus ++ [] } = ap (λ (l : List _). record c.args.out.now { tpdus = l }) (sym (append_none c.args.out.now.tpdus)) in
    subst (λ (h : Half). TakesUrgent h c.args.wire c.args.octets.now false h c.args.out.now c.args.out.now) c.self.view_is
    (urgent_other viewed c.args.wire c.args.octets.now false c.args.out.now c.args.out.now c.self.invariant.urgent_low other is_before same)

pub returns-then-wire-self-clause-next : goal.returns-then-wire-self-clause-next
returns-then-wire-self-clause-next c = (next c).answer

pub returns-then-wire-self-clause-step : goal.returns-then-wire-self-clause-step
returns-then-wire-self-clause-step c = (next c).step

pub returns-in_ok-answer_ed-2-clause-next : goal.returns-in_ok-answer_ed-2-clause-next
returns-in_ok-answer_ed-2-clause-next c = (before c).answer

pub returns-in_ok-answer_ed-2-clause-step : goal.returns-in_ok-answer_ed-2-clause-step
returns-in_ok-answer_ed-2-clause-step c = (before c).step

pub returns-else-wire-turn-clause-next : goal.returns-else-wire-turn-clause-next
returns-else-wire-turn-clause-next c = (neither c).answer

pub returns-else-wire-turn-clause-step : goal.returns-else-wire-turn-clause-step
returns-else-wire-turn-clause-step c = (neither c).step
