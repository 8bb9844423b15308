use Rattle.std.proofs.Common.{sym}
use Rattle.clnp_options.specs.declared.reason.PduKind.TheVariants.{Dt}
use Rattle.clnp_options.specs.Options.{listed}
use Rattle.test_codecs.proofs.options.passed.Goals as goal

pub next_source_hop-requires : goal.next_source_hop-requires
next_source_hop-requires c = c.known_values.ensures.route Dt c.args.octets.now c.in-Some.value.now (listed c.in-Ok.options) c.in-Ok.ensures.ok (sym c.in-Some.ensures)
