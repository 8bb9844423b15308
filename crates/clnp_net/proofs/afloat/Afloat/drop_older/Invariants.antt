use Rattle.std.proofs.Common.{◌≡◌, length}
use Rattle.std.specs.Prelude.{filter}
use Rattle.osi_base.specs.Floated.{is_young}
use Rattle.clnp_net.proofs.afloat.Afloat.drop_older.Given as goal

abbrev pub invariant-loop-self : goal.invariant-loop-self
invariant-loop-self l =
    (l.self.limit ≡ l.initial.self.limit) × (filter (is_young l.now l.age) l.self.entries ≡ filter (is_young l.now l.age) l.initial.self.entries)

abbrev pub decreases-loop-self : goal.decreases-loop-self
decreases-loop-self l = length l.self.entries
