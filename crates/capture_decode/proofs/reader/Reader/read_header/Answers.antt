use Rattle.std.proofs.Common.{refl}
use Rattle.capture_decode.proofs.Parts.{header_read, refused_header, refused_as}
use Rattle.capture_decode.proofs.reader.Reader.read_header.Goals as goal

pub returns-in-Ok-clause-ok : goal.returns-in-Ok-clause-ok
returns-in-Ok-clause-ok c = header_read c.in-Ok.order c.args.part.now c.args.self.now _ c.args.out.now.items c.requires.next c.in-Ok.ensures.ok refl refl refl

pub returns-in-Err-clause-stopped : goal.returns-in-Err-clause-stopped
returns-in-Err-clause-stopped c status is =
    let fault = c.in-Err.ensures.refused c.in-Err.refusal refl in
    refused_as c.refuse.result status (λ appended start. refused_header c.args.part.now start c.in-Err.refusal.offset c.in-Err.refusal.cause c.args.self.now c.args.out.now.items c.refuse.new.out.items c.requires.next fault.0 fault.1 appended) is c.refuse.ensures
