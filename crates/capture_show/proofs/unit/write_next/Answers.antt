use Rattle.std.proofs.Common.{ap, sym, ◌∙◌}
use Rattle.pdu_parts.specs.Parameter.{parameters_in}
use Rattle.tpdu.specs.Values.{seen, tpdu_of}
use Rattle.capture_show.specs.Ends.{references_of}
use Rattle.capture_show.specs.Tpdus.{tpdu_line}
use Rattle.capture_show.proofs.Tpdus.{are_there}
use Rattle.capture_show.proofs.unit.write_next.Goals as goal

pub parameters_of-parameters-requires-clause-least : goal.parameters_of-parameters-requires-clause-least
parameters_of-parameters-requires-clause-least c =
    let extended = references_of c.args.pdu.now.destination c.args.ends.now in
    let begins = c.in-Ok.ensures.ok extended (sym c.format_of-format.ensures) in
    (are_there extended c.args.octets.now (seen c.in-Ok.tpdu) c.in-Ok.rest.now c.kind.result c.format_of-format.result begins c.kind.ensures (sym c.format_of-format.ensures)).least

pub parameters_of-parameters-requires-clause-most : goal.parameters_of-parameters-requires-clause-most
parameters_of-parameters-requires-clause-most c =
    let extended = references_of c.args.pdu.now.destination c.args.ends.now in
    let begins = c.in-Ok.ensures.ok extended (sym c.format_of-format.ensures) in
    (are_there extended c.args.octets.now (seen c.in-Ok.tpdu) c.in-Ok.rest.now c.kind.result c.format_of-format.result begins c.kind.ensures (sym c.format_of-format.ensures)).most

pub returns-in_ok-learn-in-Ok-clause-writes : goal.returns-in_ok-learn-in-Ok-clause-writes
returns-in_ok-learn-in-Ok-clause-writes c =
    let extended = references_of c.args.pdu.now.destination c.args.ends.now in
    let begins = c.in-Ok.ensures.ok extended (sym c.format_of-format.ensures) in
    let there = are_there extended c.args.octets.now (seen c.in-Ok.tpdu) c.in-Ok.rest.now c.kind.result c.format_of-format.result begins c.kind.ensures (sym c.format_of-format.ensures) in
    record {
      line = tpdu_line (tpdu_of c.in-Ok.tpdu) (parameters_in c.parameters_of-parameters.result.now);
      shows = record {
        tpdu = seen c.in-Ok.tpdu;
        begins = begins;
        line_is = ap (tpdu_line (tpdu_of c.in-Ok.tpdu)) (ap parameters_in c.parameters_of-parameters.ensures ∙ there.is);
        after_is = c.in_ok-learn-in-Ok.ensures;
      };
      appended = c.in_ok-write_tpdu-in-Ok.ensures;
    }
