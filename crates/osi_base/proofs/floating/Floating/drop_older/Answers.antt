use Rattle.osi_base.proofs.Young.{floated_young}
use Rattle.osi_base.proofs.floating.Floating.drop_older.Goals as goal

pub invariant_of-self : goal.invariant_of-self
invariant_of-self g c =
    floated_young c.self.inside.limit c.args.now c.args.age c.self.inside.entries.items c.drop_front.new.entries.items c.self.invariant c.drop_front.ensures.rest c.drop_front.ensures.ordered

pub returns-clause-stands : goal.returns-clause-stands
returns-clause-stands g c = invariant_of-self g c
