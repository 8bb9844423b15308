use Rattle.std.proofs.Common.{◌<◌, ℕ, List, length, set, sym, ◌∙◌, ap, subst}
use Rattle.std.specs.List.{remove}
use Rattle.tp4_relay.specs.declared.pair.Pair.{Pair}
use Rattle.tp4_relay.specs.Pairs.{Closes, changed}
use Rattle.tp4_relay.specs.steps.Rising.{IsGap}
use Rattle.tp4_relay.proofs.OpenPlaces.{any_default, closes_within, open_closes, stays_closed}
use Rattle.tp4_relay.proofs.places.close_place.Goals as goal

pub remove-requires : goal.remove-requires
remove-requires c =
    let gap = subst (λ (xs : List ℕ). IsGap c.gap_for-at.result c.args.place xs) (c.deref.ensures.value ∙ c.requires.places) c.gap_for-at.ensures in
    let low = closes_within c.args.pairs.now c.args.place _ c.gap_for-at.result c.requires.bound c.in-Open.is gap in
    subst (λ (n : ℕ). c.gap_for-at.result < n) (sym (ap (λ (xs : List ℕ). length xs) (c.deref.ensures.value ∙ c.requires.places)) ∙ c.deref.ensures.len) low

pub returns-in-Open-clause-places : goal.returns-in-Open-clause-places
returns-in-Open-clause-places c =
    let gap = subst (λ (xs : List ℕ). IsGap c.gap_for-at.result c.args.place xs) (c.deref.ensures.value ∙ c.requires.places) c.gap_for-at.ensures in
    let left = open_closes c.args.pairs.now c.args.place c.requires.bound c.close.new.self c.index-pairs-place.result _ c.gap_for-at.result c.in-Open.is (ap (λ (p : Pair). p.phase) c.close.ensures) gap in
    c.remove.ensures.items ∙ ap (λ (xs : List ℕ). remove xs c.gap_for-at.result) c.requires.places ∙ left.left

pub returns-in-Begun : goal.returns-in-Begun
returns-in-Begun c = record {
  pairs = λ d.
      (let same = any_default c.args.pairs.now c.args.place c.index-pairs-place-in-Begun.result d c.requires.bound in
      ap (set c.args.pairs.now c.args.place) (c.close-in-Begun.ensures ∙ ap (λ (p : Pair). changed p Closes) same));
  places = c.requires.places
      ∙ stays_closed c.args.pairs.now c.args.place c.requires.bound c.close-in-Begun.new.self c.index-pairs-place-in-Begun.result _ c.in-Begun.is (ap (λ (p : Pair). p.phase) c.close-in-Begun.ensures);
}
