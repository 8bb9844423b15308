use Rattle.std.proofs.Common.{◌≡◌, ◌++◌, drop}
use Rattle.std.specs.Fmt.{decimal}
use Rattle.std.specs.Prelude.{map}
use Rattle.capture_show.specs.steps.Written.{before}
use Rattle.capture_show.proofs.field.push_numbers.Given as goal

-- what stands, with what is left of the numbers, is the whole
abbrev pub invariant-loop-number : goal.invariant-loop-number
invariant-loop-number l =
    l.out.items ++ before (map decimal (drop l.number-index l.numbers)) ≡ l.initial.out.items ++ before (map decimal l.numbers)
