use Rattle.std.proofs.Common.{◌≡◌, ◌+◌, ◌≤◌, length}
use Rattle.capture_decode.specs.steps.Reading.{Fits}
use Rattle.capture_decode.proofs.Taking.{Within}
use Rattle.capture_decode.proofs.decoder.Decoder.take_within.Given as goal

abbrev pub invariant-loop-part : goal.invariant-loop-part
invariant-loop-part l = record {
  so_far : Within l.fn.octets l.rest l.initial.self l.initial.out.items l.self l.out.items;
  fits : Fits l.self;
  octets : l.self.octets + length l.rest ≡ l.initial.self.octets + length l.fn.octets;
  room : l.initial.self.octets + length l.fn.octets ≤ 16777216;
}

abbrev pub decreases-loop-part : goal.decreases-loop-part
decreases-loop-part l = length l.rest
