use Rattle.std.proofs.Common.{◌*◌, ◌/◌, ◌%◌, length}
use Rattle.byteorder.specs.Endian.{big_bytes}
use Rattle.capture_write.proofs.Appended.{appended}
use Rattle.capture_write.proofs.writing.push_frame.Goals as goal

pub returns : goal.returns
returns c = appended c.args.out.now.items
    (big_bytes 4 (c.args.tick / 2)) (big_bytes 4 (c.args.tick % 2 * 500000)) (big_bytes 4 (length c.args.octets.now)) (big_bytes 4 (length c.args.octets.now)) c.args.octets.now
    c.push_number.new.out.items c.push_number-2.new.out.items c.push_number-3.new.out.items c.push_number-4.new.out.items c.extend_from_slice.new.self.items
    c.in_ok-push_number.ensures c.in_ok-push_number-2.ensures c.in_ok-push_number-3.ensures c.in_ok-push_number-4.ensures c.in_ok-extend_from_slice.ensures.items
