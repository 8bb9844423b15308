use Rattle.std.proofs.Common.{◌≡◌, ◌++◌, List, map}
use Rattle.pdu_parts.specs.Parameter.{Parameter}
use Rattle.clnp_options.specs.Options.{left, listed}
use Rattle.clnp_header.specs.Values.{own}
use Rattle.clnp_system.specs.Forwarding.{AreOptionsOnward}
use Rattle.clnp_system.proofs.setup.SystemSetup.onward_options.Given as goal

abbrev pub invariant-loop-option : goal.invariant-loop-option
invariant-loop-option l =
    (done : List Parameter) × (listed l.options ≡ done ++ left l.option-iterator) × AreOptionsOnward l.self (map own done) l.onward.items
