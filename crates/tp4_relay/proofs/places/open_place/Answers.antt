use Rattle.std.proofs.Common.{ℕ, List, ◌∙◌, ap, subst}
use Rattle.std.specs.List.{insert}
use Rattle.tp4_relay.specs.declared.pair.Pair.{Pair}
use Rattle.tp4_relay.specs.steps.Rising.{IsGap}
use Rattle.tp4_relay.proofs.OpenPlaces.{begun_opens, stays_open}
use Rattle.tp4_relay.proofs.places.open_place.Goals as goal

pub returns-in_ok-insert-in-Begun-clause-places : goal.returns-in_ok-insert-in-Begun-clause-places
returns-in_ok-insert-in-Begun-clause-places c =
    let gap = subst (λ (xs : List ℕ). IsGap c.gap_for-at.result c.args.place xs) (c.deref.ensures.value ∙ c.requires.places) c.gap_for-at.ensures in
    c.in_ok-insert-in-Begun.ensures.items
    ∙ ap (λ (xs : List ℕ). insert xs c.gap_for-at.result c.args.place) c.requires.places
    ∙ begun_opens c.args.pairs.now c.args.place c.requires.bound c.open.new.self c.index-pairs-place.result _ c.gap_for-at.result c.in-Begun.is (ap (λ (p : Pair). p.phase) c.open.ensures) gap

pub returns-in-Open-clause-places : goal.returns-in-Open-clause-places
returns-in-Open-clause-places c =
    c.requires.places
    ∙ stays_open c.args.pairs.now c.args.place c.requires.bound c.open-in-Open.new.self c.index-pairs-place-in-Open.result _ c.in-Open.is (ap (λ (p : Pair). p.phase) c.open-in-Open.ensures)
