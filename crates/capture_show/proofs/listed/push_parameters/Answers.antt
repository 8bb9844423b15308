use Rattle.pdu_parts.specs.Lent.{parameter_of}
use Rattle.capture_show.proofs.Frames.{appended}
use Rattle.capture_show.proofs.Listing.{parameters_go_on, parameters_end}
use Rattle.capture_show.proofs.listed.push_parameters.Goals as goal

pub loop-parameter-preserved : goal.loop-parameter-preserved
loop-parameter-preserved c =
    let l = c.loop-parameter in
    parameters_go_on l.some l.left.now l.out.items c.push_comma.new.out.items c.push_parameter.new.out.items (parameter_of c.in-Some.parameter) c.in-Some.rest.now _
    c.in-Some.ensures l.invariant c.in_ok-push_comma.ensures c.in_ok-push_parameter.ensures

pub returns : goal.returns
returns c =
    let l = c.loop-parameter in
    appended c.push_none.result c.push_none.new.out.items _ _ c.push_none.ensures (parameters_end l.some l.left.now l.out.items _ c.in_default.ensures l.invariant)
