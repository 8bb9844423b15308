use Rattle.std.proofs.Common.{ap, subst}
use Rattle.std.specs.Prelude.{is_some}
use Rattle.law_clnp_net.specs.Standing.{is_nsap}
use Rattle.script_lines.specs.declared.line.Line.{Line}
use Rattle.tp4_world.specs.Total.{CanRun}
use Rattle.script_world.proofs.transport.run_line.Goals as goal

pub connect-requires-clause-listed : goal.connect-requires-clause-listed
connect-requires-clause-listed g c =
    ap is_some (subst (λ (line : Line). CanRun is_nsap c.args.titles.now g.N.Carrier.link c.args.ends.now line) c.in-Connect.is c.requires.there).entity_is
