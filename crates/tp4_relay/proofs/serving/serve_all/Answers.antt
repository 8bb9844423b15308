use Rattle.std.proofs.Common.{ℕ, ◌<◌, ◌≤◌, List, length, get_or, ◌∙◌, subst}
use Rattle.tp4_relay.specs.Allowed.{AreAllowed}
use Rattle.tp4_relay.specs.Pairs.{open_places}
use Rattle.tp4_relay.specs.Service.{Tells}
use Rattle.tp4_relay.specs.steps.Serving.{ServedPair}
use Rattle.tp4_relay.specs.steps.Tables.{kept_of}
use Rattle.tp4_relay.proofs.Placed.{on_err}
use Rattle.tp4_relay.proofs.Served.{done_before, done_now, each_broken, each_more, each_none, each_served, open_bound}
use Rattle.tp4_relay.proofs.Submitting.{credit_stays}
use Rattle.tp4_relay.proofs.serving.serve_all.Goals as goal
use Rattle.tp4_relay.proofs.serving.serve_all.Goals.{then-branch, else-branch}

pub loop-place-init : goal.loop-place-init
loop-place-init g c = record {
  tied = c.requires.tied;
  so_far = each_none _ _ _ _ _ g.met.S.Service.laws _ _ _ _ (open_bound c.args.table.now.pairs.items);
}

pub serve_pair-requires-clause-credit : goal.serve_pair-requires-clause-credit
serve_pair-requires-clause-credit g c =
    let e = c.loop-place.invariant.so_far in credit_stays (kept_of c.args.table.now) (kept_of c.loop-place.table) e.taken e.current_is c.requires.credit

pub returns-in_err-serve_pair-clause-broken : goal.returns-in_err-serve_pair-clause-broken
returns-in_err-serve_pair-clause-broken g c =
    on_err c.from_residual-in_err-serve_pair.result (Tells c.args.events.now.items c.serve_pair.new.events.items (AreAllowed (kept_of c.args.table.now)))
    (each_broken _ _ _ _ _ g.met.S.Service.laws (kept_of c.args.table.now) _ _ c.args.events.now.items _ _ _ _ _ _ c.loop-place.invariant.so_far c.in_err-serve_pair.ensures.broken)

pub loop-place-preserved : goal.loop-place-preserved
loop-place-preserved g c =
    let same = c.deref-place-items.ensures.value ∙ c.in_ok-places.ensures.items ∙ c.deref.ensures.value ∙ c.requires.tied.places in
    let low = subst (λ (xs : List ℕ). c.loop-place.place-index < length xs) same c.loop-place-test.true in
    let t = subst (λ (xs : List ℕ). Tells c.loop-place.events.items c.serve_pair.new.events.items (λ made. ServedPair g.S.Service.connects g.S.Service.calls c.loop-place.service (kept_of c.loop-place.table) (get_or xs c.loop-place.place-index 0) c.in_ok-serve_pair.field-0 made c.serve_pair.new.service (kept_of c.serve_pair.new.table))) same
    c.in_ok-serve_pair.ensures.told in
    elim c.if-branch.branch [
      | then-branch w ↦ record {
        tied = c.in_ok-serve_pair.ensures.tied;
        so_far = each_more _ _ _ _ _ g.met.S.Service.laws (kept_of c.args.table.now) (open_places c.args.table.now.pairs.items) c.args.service.now c.args.events.now.items c.loop-place.place-index c.loop-place.service c.serve_pair.new.service (kept_of c.loop-place.table) (kept_of c.serve_pair.new.table)
            c.loop-place.events.items c.serve_pair.new.events.items c.loop-place.done c.in_ok-serve_pair.field-0 c.if-branch.done low (w.done-is ∙ done_now c.loop-place.done c.in_ok-serve_pair.field-0 w.if-branch.true) c.loop-place.invariant.so_far t;
      }
      | else-branch w ↦ record {
        tied = c.in_ok-serve_pair.ensures.tied;
        so_far = each_more _ _ _ _ _ g.met.S.Service.laws (kept_of c.args.table.now) (open_places c.args.table.now.pairs.items) c.args.service.now c.args.events.now.items c.loop-place.place-index c.loop-place.service c.serve_pair.new.service (kept_of c.loop-place.table) (kept_of c.serve_pair.new.table)
            c.loop-place.events.items c.serve_pair.new.events.items c.loop-place.done c.in_ok-serve_pair.field-0 c.if-branch.done low (w.done-is ∙ done_before c.loop-place.done c.in_ok-serve_pair.field-0 w.if-branch.false) c.loop-place.invariant.so_far t;
      }
    ]

pub returns-clause-told : goal.returns-clause-told
returns-clause-told g c =
    let same = c.deref-place-items.ensures.value ∙ c.in_ok-places.ensures.items ∙ c.deref.ensures.value ∙ c.requires.tied.places in
    each_served _ _ _ _ _ g.met.S.Service.laws (kept_of c.args.table.now) (open_places c.args.table.now.pairs.items) _ _ c.loop-place.place-index _ _ _ _
    (subst (λ (xs : List ℕ). length xs ≤ c.loop-place.place-index) same c.loop-place-test.false) c.loop-place.invariant.so_far
