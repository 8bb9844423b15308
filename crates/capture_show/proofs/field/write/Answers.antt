use Rattle.capture_show.proofs.Tails.{written}
use Rattle.capture_show.proofs.field.write.Goals as goal

pub returns : goal.returns
returns c =
    written c.args.fields.now c.in-Some.first.now c.in-Some.others.now c.args.out.now.items c.push_field.new.out.items c.write_others.new.out.items c.write_others.result
    c.in-Some.ensures.cases.0 c.in_ok-push_field.ensures c.write_others.ensures
