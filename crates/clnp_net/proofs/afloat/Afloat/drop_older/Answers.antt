use Rattle.std.proofs.Common.{◌∙◌, sym}
use Rattle.clnp_net.proofs.Indices.{young_all}
use Rattle.clnp_net.proofs.afloat.Afloat.drop_older.Goals as goal

pub returns-clause-entries : goal.returns-clause-entries
returns-clause-entries c =
    young_all c.args.now c.args.age c.loop-self.self.entries (sym c.loop-self-test.ensures.older) c.loop-self-test.ensures.stands.ordered ∙ c.loop-self.invariant.1
