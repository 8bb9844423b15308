use Rattle.std.proofs.Common.{◌++◌}
use Rattle.std.specs.Prelude.{map}
use Rattle.clnp_options.specs.Options.{left, listed}
use Rattle.capture_show.specs.Texts.{parameter_text, parameters_text}
use Rattle.capture_show.proofs.Listing.{Stands}
use Rattle.capture_show.proofs.listed.push_options.Given as goal

abbrev pub invariant-loop-option : goal.invariant-loop-option
invariant-loop-option l =
    Stands l.some l.out.items (map parameter_text (left l.option-iterator)) (l.initial.out.items ++ parameters_text (listed l.options))
