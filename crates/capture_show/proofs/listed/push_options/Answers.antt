use Rattle.std.proofs.Common.{List, ap, ◌++◌, ◌∙◌}
use Rattle.pdu_parts.specs.Lent.{parameter_of}
use Rattle.pdu_parts.specs.Parameter.{Parameter}
use Rattle.clnp_options.specs.Options.{left}
use Rattle.capture_show.specs.Texts.{parameters_text}
use Rattle.capture_show.proofs.Frames.{appended}
use Rattle.capture_show.proofs.Listing.{options_go_on, options_end}
use Rattle.capture_show.proofs.listed.push_options.Goals as goal

pub loop-option-init : goal.loop-option-init
loop-option-init c =
    ap (λ (ps : List Parameter). c.args.out.now.items ++ parameters_text ps) (ap left c.into_iter-option-iterator.ensures.into_iter_gives ∙ c.iter-option-items.ensures)

pub loop-option-preserved : goal.loop-option-preserved
loop-option-preserved c =
    let l = c.loop-option in
    options_go_on l.some (left l.option-iterator) l.out.items c.push_comma.new.out.items c.push_parameter.new.out.items (parameter_of c.in-Some.option) (left c.next.new.self) _
    c.in-Some.ensures.steps l.invariant c.in_ok-push_comma.ensures c.in_ok-push_parameter.ensures

pub returns : goal.returns
returns c =
    let l = c.loop-option in
    appended c.push_none.result c.push_none.new.out.items _ _ c.push_none.ensures (options_end l.some (left l.option-iterator) l.out.items _ c.in-None.ensures.steps.0 l.invariant)
