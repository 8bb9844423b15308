use Rattle.std.proofs.Common.{◌≡◌, ◌∙◌, ◌==◌, ◌<◌, ◌*◌, refl, sym, ap, subst, arith, false, ℕ, List, [], ◌++◌, ◌∷◌}
use Rattle.std.proofs.lemmas.Bool.Decides.{nat_tests}
use Rattle.tp4_number.specs.Number.{ahead}
use Rattle.tp4_number.specs.Window.{placed}
use Rattle.tp4_number.specs.Receiver.{judged}
use Rattle.tp4_number.specs.declared.got.Got.{Got}
use Rattle.tp4_number.specs.declared.got.Got.TheVariants.{Kept, TooLarge}
use Rattle.tp4_number.specs.declared.piece.Piece.{Piece}
use Rattle.tp4_flow.specs.ReceivingHalf.{Half, block_in, ak}
use Rattle.tp4_flow.specs.Told.{Told}
use Rattle.tp4_flow.specs.contracts.receiving.Receiving.{the_view}
use Rattle.tp4_flow.specs.steps.Shown.{Shows}
use Rattle.tp4_flow.proofs.Arrivals.{Comes, Takes, comes_other, kept_large, kept_shown, kept_ahead, with_held}
use Rattle.tp4_flow.proofs.receiving.Receiving.on_dt.Goals as goal
use Rattle.tp4_flow.proofs.receiving.Receiving.on_dt.Goals.{Then-branch, In_ok-acknowledge-in-Kept, In_ok-acknowledge-in_default, else-ahead-eq0-via-then-ahead-eq0+in_ok-show-in-Kept+else-branch, else-ahead-eq0-via-else-ahead-eq0}

-- a DT at that distance comes to a half that shows as this one
come : (viewed half : Half) (w d : ℕ) (got : Got) → viewed ≡ half → viewed.receiver.expected < 4 * block_in viewed → d ≡ ahead (block_in viewed) viewed.receiver.expected w
    → judged (block_in half) half.receiver.inbox d ≡ got → Comes half w d got
come viewed half w d got same low at is = record {
  low = subst (λ (h : Half). h.receiver.expected < 4 * block_in h) same low;
  at = at ∙ ap (λ (h : Half). ahead (block_in h) h.receiver.expected w) same;
  is = is;
}

large : (c : Then-branch) → Takes c.args.self.now c.args.wire (record { last = c.args.last; octets = c.args.octets.now }) TooLarge c.show.new.self c.args.out.now c.show.new.out
large c =
    let viewed = the_view c.self.inside in
    let piece : Piece = record { last = c.args.last; octets = c.args.octets.now } in
    let comes = come viewed c.args.self.now c.args.wire c.distance-ahead.result Kept c.self.view_is c.self.invariant.expected_low c.distance-ahead.ensures (sym c.judge.ensures ∙ c.in-Kept.is) in
    let zero : c.distance-ahead.result ≡ 0 = omega arith in
    let window : c.place.new.self ≡ placed c.self.inside.window c.distance-ahead.result piece = c.place.ensures ∙ ap (λ (o : List ℕ). placed c.self.inside.window c.distance-ahead.result (record { last = c.args.last; octets = o })) c.in_ok-octets-in-Kept.ensures in
    let put : with_held viewed c.place.new.self ≡ with_held c.args.self.now (placed c.args.self.now.receiver.inbox.held c.distance-ahead.result piece) =
    ap (with_held viewed) window ∙ ap (λ (h : Half). with_held h (placed h.receiver.inbox.held c.distance-ahead.result piece)) c.self.view_is in
    let shows : Shows (with_held c.args.self.now (placed c.args.self.now.receiver.inbox.held c.distance-ahead.result piece)) c.in_ok-show-in-Kept.field-0 c.args.out.now c.show.new.self c.show.new.out =
    subst (λ (h : Half). Shows h c.in_ok-show-in-Kept.field-0 c.args.out.now c.show.new.self c.show.new.out) put c.in_ok-show-in-Kept.ensures.ok in
    kept_large c.args.self.now c.args.wire c.distance-ahead.result piece c.in_ok-show-in-Kept.field-0 c.show.new.self c.args.out.now c.show.new.out comes zero c.if-branch.true shows

taken : (c : In_ok-acknowledge-in-Kept) → Takes c.args.self.now c.args.wire (record { last = c.args.last; octets = c.args.octets.now }) Kept c.else-ahead-eq0.self c.args.out.now c.acknowledge.new.out
taken c =
    let viewed = the_view c.self.inside in
    let piece : Piece = record { last = c.args.last; octets = c.args.octets.now } in
    let comes = come viewed c.args.self.now c.args.wire c.distance-ahead.result Kept c.self.view_is c.self.invariant.expected_low c.distance-ahead.ensures (sym c.judge.ensures ∙ c.in-Kept.is) in
    let window : c.place.new.self ≡ placed c.self.inside.window c.distance-ahead.result piece = c.place.ensures ∙ ap (λ (o : List ℕ). placed c.self.inside.window c.distance-ahead.result (record { last = c.args.last; octets = o })) c.in_ok-octets-in-Kept.ensures in
    let put : with_held viewed c.place.new.self ≡ with_held c.args.self.now (placed c.args.self.now.receiver.inbox.held c.distance-ahead.result piece) =
    ap (with_held viewed) window ∙ ap (λ (h : Half). with_held h (placed h.receiver.inbox.held c.distance-ahead.result piece)) c.self.view_is in
    elim c.else-ahead-eq0.branch [
      | else-ahead-eq0-via-then-ahead-eq0+in_ok-show-in-Kept+else-branch w ↦
          let zero : c.distance-ahead.result ≡ 0 = omega (arith, w.if-ahead-eq0.true) in
          let shows : Shows (with_held c.args.self.now (placed c.args.self.now.receiver.inbox.held c.distance-ahead.result piece)) w.in_ok-show-in-Kept.field-0 c.args.out.now c.else-ahead-eq0.self c.else-ahead-eq0.out =
          subst (λ (h : Half). Shows h w.in_ok-show-in-Kept.field-0 c.args.out.now c.else-ahead-eq0.self c.else-ahead-eq0.out) put
          (subst (λ (h : Half). Shows (with_held viewed c.place.new.self) w.in_ok-show-in-Kept.field-0 c.args.out.now h c.else-ahead-eq0.out) (sym w.self-is)
          (subst (λ (t : Told). Shows (with_held viewed c.place.new.self) w.in_ok-show-in-Kept.field-0 c.args.out.now w.show.new.self t) (sym w.out-is) w.in_ok-show-in-Kept.ensures.ok)) in
          kept_shown c.args.self.now c.args.wire c.distance-ahead.result piece w.in_ok-show-in-Kept.field-0 c.else-ahead-eq0.self c.args.out.now c.else-ahead-eq0.out c.acknowledge.new.out
          comes zero w.if-branch.false shows c.in_ok-acknowledge-in-Kept.ensures.ok
      | else-ahead-eq0-via-else-ahead-eq0 w ↦
          let other : (c.distance-ahead.result == 0) ≡ false = grind (arith, nat_tests, w.if-ahead-eq0.false) in
          let self_is : c.else-ahead-eq0.self ≡ with_held c.args.self.now (placed c.args.self.now.receiver.inbox.held c.distance-ahead.result piece) = w.self-is ∙ put in
          subst (λ (h : Half). Takes c.args.self.now c.args.wire piece Kept h c.args.out.now c.acknowledge.new.out) (sym self_is)
          (kept_ahead c.args.self.now c.args.wire c.distance-ahead.result piece c.args.out.now c.acknowledge.new.out comes other
          (c.in_ok-acknowledge-in-Kept.ensures.ok
          ∙ ap (λ (t : Told). record t { tpdus = t.tpdus ++ ak c.else-ahead-eq0.self ∷ [] }) w.out-is
          ∙ ap (λ (h : Half). record c.args.out.now { tpdus = c.args.out.now.tpdus ++ ak h ∷ [] }) self_is))
    ]

other : (c : In_ok-acknowledge-in_default) → Takes c.args.self.now c.args.wire (record { last = c.args.last; octets = c.args.octets.now }) c.judge.result c.args.self.now c.args.out.now c.acknowledge-in_default.new.out
other c =
    comes_other c.args.self.now c.args.wire c.distance-ahead.result (record { last = c.args.last; octets = c.args.octets.now }) c.judge.result c.args.out.now c.acknowledge-in_default.new.out
    (come (the_view c.self.inside) c.args.self.now c.args.wire c.distance-ahead.result c.judge.result c.self.view_is c.self.invariant.expected_low c.distance-ahead.ensures (sym c.judge.ensures))
    (λ e. c.in_default.not-Kept e) c.in_ok-acknowledge-in_default.ensures.ok

pub returns-then-branch-clause-got : goal.returns-then-branch-clause-got
returns-then-branch-clause-got c = (large c).answer

pub returns-then-branch-clause-step : goal.returns-then-branch-clause-step
returns-then-branch-clause-step c = (large c).step

pub returns-in_ok-acknowledge-in-Kept-clause-got : goal.returns-in_ok-acknowledge-in-Kept-clause-got
returns-in_ok-acknowledge-in-Kept-clause-got c = (taken c).answer

pub returns-in_ok-acknowledge-in-Kept-clause-step : goal.returns-in_ok-acknowledge-in-Kept-clause-step
returns-in_ok-acknowledge-in-Kept-clause-step c = (taken c).step

pub returns-in_ok-acknowledge-in_default : goal.returns-in_ok-acknowledge-in_default
returns-in_ok-acknowledge-in_default c = record { got = (other c).answer; step = (other c).step; rules = refl }
