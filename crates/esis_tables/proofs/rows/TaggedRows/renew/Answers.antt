use Rattle.esis_tables.proofs.Tagging.{tags_renewed}
use Rattle.esis_tables.proofs.rows.TaggedRows.renew.Goals as goal

pub invariant_of-self : goal.invariant_of-self
invariant_of-self c = tags_renewed c.args.heard.now c.args.places.now c.self.inside.rows.items c.renew.new.rows.items c.self.inside.tags.items c.self.invariant c.renew.ensures
