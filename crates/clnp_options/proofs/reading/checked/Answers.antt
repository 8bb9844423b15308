use Rattle.std.proofs.Common.{◌∙◌, sym, ap, Some}
use Rattle.pdu_parts.specs.Parameter.{parameters_in}
use Rattle.clnp_options.specs.steps.Walking.{missing_fault}
use Rattle.clnp_options.specs.Options.{listed}
use Rattle.clnp_options.proofs.Steps.{begins, went_on, went_wrong, at_end, missing_is, present_is}
use Rattle.clnp_options.proofs.reading.checked.Goals as goal

pub loop-at-init : goal.loop-at-init
loop-at-init c = begins c.args.kind c.args.first c.args.octets.now

pub loop-at-preserved : goal.loop-at-preserved
loop-at-preserved c = went_on c.args.kind c.args.first c.args.octets.now c.loop-at.at c.in-Ok.next c.loop-at.invariant c.in-Ok.ensures

pub returns-in-Err : goal.returns-in-Err
returns-in-Err c =
    went_wrong c.args.kind c.args.first c.args.octets.now c.loop-at.at c.in-Err.reason c.loop-at.invariant c.loop-at-test.true c.in-Err.ensures
    ∙ ap Some (sym c.fault_of.ensures)

pub returns-then-lacks_reason : goal.returns-then-lacks_reason
returns-then-lacks_reason c =
    at_end c.args.kind c.args.first c.args.octets.now c.loop-at.at c.loop-at.invariant c.loop-at-test.false
    ∙ ap (λ octets. missing_fault c.args.kind (parameters_in octets)) (sym c.of-options.ensures)
    ∙ missing_is c.args.kind (listed c.of-options.result) (sym c.if-lacks_reason.ensures)
    ∙ ap Some (sym c.fault_of-then-lacks_reason.ensures)

pub returns : goal.returns
returns c = (
  c.of-options.ensures,
  at_end c.args.kind c.args.first c.args.octets.now c.loop-at.at c.loop-at.invariant c.loop-at-test.false
      ∙ ap (λ octets. missing_fault c.args.kind (parameters_in octets)) (sym c.of-options.ensures)
      ∙ present_is c.args.kind (listed c.of-options.result) (sym c.if-lacks_reason.ensures),
)
