use Rattle.std.proofs.Common.{sym, ap, ◌∙◌, drop, take, rules}
use Rattle.lan_frame.proofs.Framing.{frame_taken}
use Rattle.lan_frame.proofs.reading.read_frame.Goals as goal

pub returns : goal.returns
returns c =
    frame_taken c.args.octets.now _ (record {
      from_on = c.read_snpa.new.cursor;
      length_on = c.read_snpa-2.new.cursor;
      llc_on = c.number.new.self;
      pdu_on = c.take.new.self;
      count = c.in_ok-length.field-0;
      from_is = c.in_ok-to.ensures.rest ∙ ap (drop 6) c.new-cursor.ensures;
      length_is = c.in_ok-from.ensures.rest;
      llc_is = c.in_ok-length.ensures.rest;
      pdu_is = c.in_ok-llc.ensures.rest;
      to = c.in_ok-to.ensures.ok ∙ ap (take 6) c.new-cursor.ensures;
      from = c.in_ok-from.ensures.ok;
      count_is = c.in_ok-length.ensures.ok;
      llc = sym c.in_ok-llc.ensures.ok ∙ search rules;
      least = search rules;
      most = search rules;
      enough = search rules;
      pdu = c.in_ok-pdu.ensures.ok;
    })
