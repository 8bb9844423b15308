use Rattle.std.proofs.Common.{◌≡◌, ◌<◌, ◌∙◌, None, get_or, length, ap, arith, length-set}
use Rattle.std.proofs.lemmas.List.{get_or_read}
use Rattle.due_links.proofs.Listings.{shown_long, shown_without, without_listed}
use Rattle.due_links.proofs.list.DueList.remove.Goals as goal

pub invariant_of-self : goal.invariant_of-self
invariant_of-self c =
    let ids = c.self.inside.ids.items in
    let low : c.args.place < length ids = omega (arith, c.requires, shown_long c.args.self.now c.self.inside.most c.self.inside.due ids c.self.view_is) in
    let is : c.remove-id.result ≡ get_or ids c.args.place 0 = get_or_read ids c.args.place c.remove-id.result low c.remove-id.ensures.value 0 in (
      without_listed c.self.inside.due c.clear.new.self ids c.remove-id.new.self.items c.self.inside.next c.args.place c.remove-id.result c.self.invariant.0 low is c.remove-id.ensures.items c.clear.ensures,
      ap length c.clear.ensures ∙ (length-set c.self.inside.due c.remove-id.result None ∙ c.self.invariant.1),
      c.self.invariant.2,
      omega (arith, c.remove-id.ensures.capacity, c.self.invariant.3),
    )

pub returns : goal.returns
returns c =
    let ids = c.self.inside.ids.items in
    let low : c.args.place < length ids = omega (arith, c.requires, shown_long c.args.self.now c.self.inside.most c.self.inside.due ids c.self.view_is) in
    let is : c.remove-id.result ≡ get_or ids c.args.place 0 = get_or_read ids c.args.place c.remove-id.result low c.remove-id.ensures.value 0 in
    shown_without c.args.self.now c.self.inside.most c.self.inside.next c.args.place c.remove-id.result c.self.inside.due c.clear.new.self ids c.remove-id.new.self.items
    c.self.view_is c.self.invariant.0 low is c.remove-id.ensures.items c.clear.ensures
