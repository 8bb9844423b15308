use Rattle.std.proofs.Common.{refl, arith, ap, length}
use Rattle.std.proofs.lemmas.List.{length-append}
use Rattle.capture_decode.proofs.Parts.{refused_as, on_ok}
use Rattle.capture_decode.proofs.Taking.{within_start, within_part, within_end, within_fails}
use Rattle.capture_decode.proofs.decoder.Decoder.take_within.Goals as goal

pub loop-part-init : goal.loop-part-init
loop-part-init c = record {
  so_far = within_start c.args.octets.now c.args.self.now c.args.out.now.items;
  fits = c.requires.fits;
  octets = refl;
  room = c.requires.room;
}

pub returns-in-Err-clause-stopped : goal.returns-in-Err-clause-stopped
returns-in-Err-clause-stopped c status is =
    refused_as c.in-Err.status status
    (within_fails c.args.octets.now c.loop-part.rest.now c.in-Some.part.now c.in-Some.after.now c.args.self.now c.args.out.now.items c.loop-part.self c.loop-part.out.items c.end_part.new.out.items c.loop-part.invariant.so_far c.in-Some.ensures.some.0)
    is (c.in-Err.ensures.stopped c.in-Err.status refl)

pub loop-part-preserved : goal.loop-part-preserved
loop-part-preserved c = record {
  so_far = within_part c.args.octets.now c.loop-part.rest.now c.in-Some.part.now c.in-Some.after.now c.args.self.now c.args.out.now.items c.loop-part.self c.loop-part.out.items c.end_part.new.self c.end_part.new.out.items
      c.loop-part.invariant.so_far c.in-Some.ensures.some.0 c.in_default-end_part.ensures.ok;
  fits = c.in_default-end_part.ensures.fits;
  octets = omega (arith, c.in_default-end_part.ensures.octets, c.loop-part.invariant.octets, ap length c.in-Some.ensures.some.0, length-append c.in-Some.part.now c.in-Some.after.now);
  room = c.loop-part.invariant.room;
}

pub returns-clause-ok : goal.returns-clause-ok
returns-clause-ok c =
    on_ok c.hold.result (λ f. within_end c.args.octets.now c.loop-part.rest.now c.args.self.now c.args.out.now.items c.loop-part.self c.loop-part.out.items c.hold.new.self c.loop-part.out.items c.loop-part.invariant.so_far (f c.loop-part.out.items)) c.hold.ensures.ok
