use Rattle.capture_decode.proofs.Parts.{frame_told, on_ok}
use Rattle.capture_decode.proofs.record_text.push_record.Goals as goal

pub returns : goal.returns
returns c =
    on_ok c.show_frame.result (frame_told c.args.number c.args.numbers.now c.args.octets.now c.args.ends.now c.args.out.now.items c.push_head.new.out.items c.show_frame.new.ends c.show_frame.new.out.items
    c.requires c.if-numbers.false c.in_ok-push_head.ensures) c.show_frame.ensures
