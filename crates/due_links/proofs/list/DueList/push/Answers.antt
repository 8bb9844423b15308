use Rattle.due_links.proofs.Listings.{shown_pushed}
use Rattle.due_links.proofs.list.DueList.push.Goals as goal

pub returns : goal.returns
returns c =
    shown_pushed c.args.self.now c.self.inside.most c.next_id-id.result c.self.inside.due c.next_id-id.new.due c.keep.new.due c.self.inside.ids.items c.next_id-id.new.ids.items c.push.new.self.items
    c.args.tick c.self.view_is c.next_id-id.ensures.ticks c.next_id-id.ensures.listed c.next_id-id.ensures.below c.in-Ok.ensures.items c.keep.ensures
