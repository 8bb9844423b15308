use Rattle.std.proofs.Common.{◌++◌, length}
use Rattle.std.specs.Prelude.{map}
use Rattle.pdu_parts.specs.Parameter.{parameters_in}
use Rattle.capture_show.specs.Texts.{parameter_text, parameters_text}
use Rattle.capture_show.specs.Tpdus.{known}
use Rattle.capture_show.proofs.Listing.{Stands}
use Rattle.capture_show.proofs.listed.push_known.Given as goal

abbrev pub invariant-loop-parameter : goal.invariant-loop-parameter
invariant-loop-parameter l =
    Stands l.some l.out.items (map parameter_text (known l.kind (parameters_in l.left))) (l.initial.out.items ++ parameters_text (known l.kind (parameters_in l.octets)))

abbrev pub decreases-loop-parameter : goal.decreases-loop-parameter
decreases-loop-parameter l = length l.left
