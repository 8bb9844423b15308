use Rattle.std.proofs.Common.{◌≡◌, ℕ, List, ◌+◌, Some, subst}
use Rattle.std.proofs.lemmas.List.{take_rest}
use Rattle.clnp_options.specs.Faults.{first_fault as first_options_fault}
use Rattle.clnp_options.specs.Grammar.{IsOptions}
use Rattle.clnp_options.specs.Options.{listed}
use Rattle.clnp_header.proofs.OptionsRead.{options_ok, options_err}
use Rattle.clnp_header.proofs.reading.options_of.Goals as goal

pub returns-in-Ok : goal.returns-in-Ok
returns-in-Ok c =
    let header = c.args.header.now in
    let tail = take_rest header c.args.at in
    options_ok header c.args.at c.args.flags (listed c.in-Ok.options)
    (subst (λ (xs : List ℕ). IsOptions c.args.flags.kind xs (listed c.in-Ok.options)) tail c.in-Ok.ensures.ok)

pub returns-in-Err : goal.returns-in-Err
returns-in-Err c =
    let header = c.args.header.now in
    let tail = take_rest header c.args.at in
    rw c.fault.ensures (options_err header c.args.at c.args.flags c.in-Err.fault
    (subst (λ (xs : List ℕ). first_options_fault c.args.flags.kind (c.args.at + 1) xs ≡ Some c.in-Err.fault) tail c.in-Err.ensures.fault))
