use Rattle.std.proofs.Common.{◌≡◌, ◌<◌, get_or, length, arith}
use Rattle.std.proofs.lemmas.List.{get_or_read}
use Rattle.due_links.proofs.Listings.{shown_long, shown_set}
use Rattle.due_links.proofs.list.DueList.set.Goals as goal

pub returns : goal.returns
returns c =
    let ids = c.self.inside.ids.items in
    let low : c.args.place < length ids = omega (arith, c.requires, shown_long c.args.self.now c.self.inside.most c.self.inside.due ids c.self.view_is) in
    let is : c.index-id.result.now ≡ get_or ids c.args.place 0 = get_or_read ids c.args.place c.index-id.result.now low c.index-id.ensures 0 in
    shown_set c.args.self.now c.self.inside.most c.self.inside.next c.args.place c.index-id.result.now c.self.inside.due c.keep.new.due ids c.args.tick
    c.self.view_is c.self.invariant.0 low is c.keep.ensures
