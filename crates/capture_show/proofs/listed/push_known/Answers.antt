use Rattle.std.proofs.Common.{sym, ◌∙◌}
use Rattle.pdu_parts.specs.Lent.{parameter_of}
use Rattle.capture_show.proofs.Frames.{appended}
use Rattle.capture_show.proofs.Listing.{known_go_on, known_skip, known_end}
use Rattle.capture_show.proofs.listed.push_known.Goals as goal

pub loop-parameter-preserved-in_ok-push_parameter : goal.loop-parameter-preserved-in_ok-push_parameter
loop-parameter-preserved-in_ok-push_parameter c =
    let l = c.loop-parameter in
    known_go_on c.args.kind l.some l.left.now l.out.items c.push_comma.new.out.items c.push_parameter.new.out.items (parameter_of c.in-Some.parameter) c.in-Some.rest.now _
    c.in-Some.ensures l.invariant (sym c.knows.ensures ∙ c.if-knows.true) c.in_ok-push_comma.ensures c.in_ok-push_parameter.ensures

pub loop-parameter-preserved : goal.loop-parameter-preserved
loop-parameter-preserved c =
    let l = c.loop-parameter in
    known_skip c.args.kind l.some l.left.now l.out.items (parameter_of c.in-Some.parameter) c.in-Some.rest.now _ c.in-Some.ensures l.invariant (sym c.knows.ensures ∙ c.if-knows.false)

pub returns : goal.returns
returns c =
    let l = c.loop-parameter in
    appended c.push_none.result c.push_none.new.out.items _ _ c.push_none.ensures (known_end c.args.kind l.some l.left.now l.out.items _ c.in_default.ensures l.invariant)
