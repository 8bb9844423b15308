use Rattle.script_lines.specs.Tags.{tags_of}
use Rattle.script_journal.proofs.Tails.{written}
use Rattle.script_journal.proofs.line_fields.write.Goals as goal

pub returns : goal.returns
returns c =
    written (tags_of c.args.names.now) c.args.pieces.now c.in-Some.first.now c.in-Some.others.now c.args.out.now.items c.push_piece.new.out.items c.write_others.new.out.items c.write_others.result
    c.in-Some.ensures.cases.0 c.in_ok-push_piece.ensures c.write_others.ensures
