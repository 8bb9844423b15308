use Rattle.std.proofs.Common.{subst, sym}
use Rattle.clnp_options.specs.declared.reason.PduKind.TheVariants.{Dt}
use Rattle.clnp_options.specs.Options.{listed}
use Rattle.clnp_options.specs.Recording.{IsRecording}
use Rattle.test_codecs.proofs.options.recorded.Goals as goal

pub record_here-requires : goal.record_here-requires
record_here-requires c = subst IsRecording (sym c.copy_from_slice.ensures.after)
    (c.known_values.ensures.recording Dt c.args.octets.now c.in-Some.value.now (listed c.in-Ok.options) c.in-Ok.ensures.ok (sym c.in-Some.ensures))
