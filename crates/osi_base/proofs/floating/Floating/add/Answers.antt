use Rattle.osi_base.proofs.Young.{floated_last}
use Rattle.osi_base.proofs.floating.Floating.add.Goals as goal

pub invariant_of-self-2 : goal.invariant_of-self-2
invariant_of-self-2 g c =
    let room = rw (← c.self.view_is) at c.requires.room in
    let order = rw (← c.self.view_is) at c.requires.order in
    rw c.in_ok-push_back.ensures.items (floated_last c.self.inside.limit c.self.inside.entries.items (c.args.now, c.args.unit) c.self.invariant room order)

pub returns-clause-stands : goal.returns-clause-stands
returns-clause-stands g c = invariant_of-self-2 g c
