use Rattle.esis_tables.proofs.Tagging.{tags_truncated}
use Rattle.esis_tables.proofs.rows.TaggedRows.truncate.Goals as goal

pub invariant_of-self : goal.invariant_of-self
invariant_of-self c = tags_truncated c.self.inside.rows.items c.truncate.new.self.items c.self.inside.tags.items c.truncate-2.new.self.items c.args.len
    c.self.invariant c.truncate.ensures.items c.truncate-2.ensures.items
