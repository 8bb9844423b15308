use Rattle.std.proofs.Common.{◌-◌, drop, length, take}
use Rattle.esis_tables.proofs.Tagging.{all_behind, next_found, next_nowhere}
use Rattle.esis_tables.proofs.rows.next_tagged.Goals as goal

pub returns-in-Some : goal.returns-in-Some
returns-in-Some c = next_found c.args.tags.now (take (length c.args.tags.now - c.args.from) (drop c.args.from c.args.tags.now)) c.args.tag c.args.from
    c.in-Some.place c.requires (all_behind c.args.tags.now c.args.from) c.in-Some.ensures.0

pub returns-in-None : goal.returns-in-None
returns-in-None c = next_nowhere c.args.tags.now (take (length c.args.tags.now - c.args.from) (drop c.args.from c.args.tags.now)) c.args.tag c.args.from
    c.requires (all_behind c.args.tags.now c.args.from) c.in-None.ensures
