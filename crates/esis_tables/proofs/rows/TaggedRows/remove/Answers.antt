use Rattle.esis_tables.proofs.Tagging.{tags_removed}
use Rattle.esis_tables.proofs.rows.TaggedRows.remove.Goals as goal

pub invariant_of-self : goal.invariant_of-self
invariant_of-self c = tags_removed c.self.inside.rows.items c.take_out.new.rows.items c.self.inside.tags.items c.remove.new.self.items c.args.place
    c.self.invariant c.take_out.ensures c.remove.ensures.items
