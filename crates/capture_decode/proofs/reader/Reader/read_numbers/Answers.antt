use Rattle.std.proofs.Common.{refl}
use Rattle.capture_decode.proofs.Parts.{numbers_read, shown_empty, refused_length, refused_as, on_ok}
use Rattle.capture_decode.proofs.reader.Reader.read_numbers.Goals as goal

pub returns-in_default-clause-stopped : goal.returns-in_default-clause-stopped
returns-in_default-clause-stopped c status is =
    refused_as c.refuse.result status (λ appended. refused_length c.args.order c.args.part.now c.args.start c.args.self.now c.args.out.now.items c.refuse.new.out.items c.requires.next c.in_default.ensures.none appended) is c.refuse.ensures

pub returns-then-numbers-eq0-clause-ok : goal.returns-then-numbers-eq0-clause-ok
returns-then-numbers-eq0-clause-ok c =
    on_ok c.show.result (shown_empty c.args.order c.in-Some.numbers c.args.part.now c.args.self.now c.show.new.self c.args.out.now.items c.show.new.out.items c.requires.next c.in-Some.ensures.some c.if-numbers-eq0.true) c.show.ensures.ok

pub returns-clause-ok : goal.returns-clause-ok
returns-clause-ok c = numbers_read c.args.order c.in-Some.numbers c.args.part.now c.args.self.now _ c.args.out.now.items c.requires.next c.in-Some.ensures.some refl refl refl
