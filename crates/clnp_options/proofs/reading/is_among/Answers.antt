use Rattle.std.proofs.Common.{◌∙◌}
use Rattle.clnp_options.specs.Options.{listed}
use Rattle.clnp_options.proofs.Codes.{has_found}
use Rattle.clnp_options.proofs.reading.is_among.Goals as goal

pub returns : goal.returns
returns c = c.is_some.ensures ∙ has_found (λ value. value.now) c.get.result c.args.code (listed c.args.options.now) c.get.ensures
