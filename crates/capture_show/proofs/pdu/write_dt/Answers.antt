use Rattle.std.proofs.Common.{◌∷◌, [], length, refl}
use Rattle.std.specs.Fmt.{decimal}
use Rattle.std.specs.Prelude.{codes}
use Rattle.clnp_options.specs.Options.{listed}
use Rattle.capture_show.specs.Pdus.{flags_text, segment_text}
use Rattle.capture_show.specs.Texts.{address_text, parameters_text}
use Rattle.capture_show.proofs.Frames.{appended, dt_text}
use Rattle.capture_show.proofs.Tails.{ended, before_options}
use Rattle.capture_show.proofs.pdu.write_dt.Goals as goal

pub returns : goal.returns
returns c =
    let pdu = c.args.pdu.now in
    let old = c.args.out.now.items in
    let to = address_text pdu.destination in
    let from = address_text pdu.source in
    let flags = flags_text pdu.segment pdu.report in
    let segment = segment_text pdu.segment in
    let front = before_options old c.push_ways.new.out.items c.push_flags.new.out.items c.push.new.out.items c.push_segment.new.out.items c.push-2.new.out.items
    (codes "dt") to from (decimal pdu.lifetime) flags segment
    c.in_ok-push_ways.ensures c.in_ok-push_flags.ensures c.in_ok-push.ensures c.in_ok-push_segment.ensures c.in_ok-push-2.ensures in
    appended c.push_end.result c.push_end.new.out.items _ _
    (ended (codes "dt" ∷ to ∷ from ∷ decimal pdu.lifetime ∷ flags ∷ segment ∷ []) (parameters_text (listed pdu.options)) (decimal (length pdu.body.now)) old
    c.push-2.new.out.items c.push_options.new.out.items c.push_end.new.out.items c.push_end.result front c.in_ok-push_options.ensures c.push_end.ensures)
    (dt_text pdu pdu.lifetime old refl)
