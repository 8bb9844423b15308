use Rattle.std.proofs.Common.{List, [], ◌∷◌, ◌++◌, sym, ◌∙◌, ap, append_assoc}
use Rattle.pdu_parts.specs.Lent.{parameter_of}
use Rattle.pdu_parts.specs.Parameter.{Parameter}
use Rattle.clnp_options.specs.Options.{left}
use Rattle.clnp_system.proofs.Passing.{onward_more}
use Rattle.clnp_system.proofs.setup.SystemSetup.onward_options.Goals as goal

pub loop-option-preserved : goal.loop-option-preserved
loop-option-preserved c =
    let before = c.loop-option.invariant in
    let one = parameter_of c.in-Some.option in (
      before.0 ++ one ∷ [],
      before.1 ∙ ap (λ (xs : List Parameter). before.0 ++ xs) c.in-Some.ensures.steps ∙ sym (append_assoc before.0 (one ∷ []) (left c.next.new.self)),
      onward_more c.args.self.now before.0 c.loop-option.onward.items c.push.new.self.items one c.in_ok-onward_option.field-0 before.2 c.in_ok-onward_option.ensures
          c.in_ok-push.ensures.items,
    )
