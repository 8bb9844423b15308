use Rattle.std.proofs.Common.{◌≡◌, ◌<◌, ◌∙◌, ℕ, List, Option, get_or, length, subst, sym, ap, arith, length-set, None}
use Rattle.due_links.specs.Entries.{TakesDue}
use Rattle.due_links.proofs.Listings.{entries, taken_none, taken_some, without_listed}
use Rattle.due_links.proofs.list.DueList.pop.Goals as goal

pub returns-in_err-id : goal.returns-in_err-id
returns-in_err-id c =
    subst (λ (found : Option ℕ). TakesDue c.args.self.now c.args.now found (entries c.self.inside.most c.pop.new.self c.self.inside.ids.items)) (sym c.from_residual.ensures)
    (taken_none c.args.self.now c.args.now c.self.inside.most c.self.inside.due c.pop.new.self c.self.inside.ids.items c.self.view_is c.in_err-id.ensures)

pub invariant_of-self-2 : goal.invariant_of-self-2
invariant_of-self-2 c =
    let ids = c.self.inside.ids.items in
    let same : c.deref.result.now ≡ ids = c.deref.ensures.value in
    let low : c.place_of-place.result < length ids = subst (λ (xs : List ℕ). c.place_of-place.result < length xs) same c.place_of-place.ensures.within in
    let is : c.in_ok-id.id ≡ get_or ids c.place_of-place.result 0 = sym c.place_of-place.ensures.is ∙ ap (λ (xs : List ℕ). get_or xs c.place_of-place.result 0) same in (
      without_listed c.self.inside.due c.pop.new.self ids c.remove.new.self.items c.self.inside.next c.place_of-place.result c.in_ok-id.id c.self.invariant.0 low is c.remove.ensures.items c.in_ok-id.ensures.0,
      ap length c.in_ok-id.ensures.0 ∙ (length-set c.self.inside.due c.in_ok-id.id None ∙ c.self.invariant.1),
      c.self.invariant.2,
      omega (arith, c.remove.ensures.capacity, c.self.invariant.3),
    )

pub returns : goal.returns
returns c =
    let ids = c.self.inside.ids.items in
    let same : c.deref.result.now ≡ ids = c.deref.ensures.value in
    let low : c.place_of-place.result < length ids = subst (λ (xs : List ℕ). c.place_of-place.result < length xs) same c.place_of-place.ensures.within in
    let is : c.in_ok-id.id ≡ get_or ids c.place_of-place.result 0 = sym c.place_of-place.ensures.is ∙ ap (λ (xs : List ℕ). get_or xs c.place_of-place.result 0) same in
    taken_some c.args.self.now c.args.now c.self.inside.most c.self.inside.next c.place_of-place.result c.in_ok-id.id c.self.inside.due c.pop.new.self ids c.remove.new.self.items
    c.self.view_is c.self.invariant.0 low is c.remove.ensures.items c.in_ok-id.ensures
