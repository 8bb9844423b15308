use Rattle.std.proofs.Common.{sym}
use Rattle.clnp_system.proofs.Aims.{aim_none, aim_some, route_there}
use Rattle.clnp_system.proofs.setup.SystemSetup.aim.Goals as goal

pub aim_by-requires : goal.aim_by-requires
aim_by-requires c = route_there c.args.pdu.now c.in-Some.value.now c.requires (sym c.in-Some.ensures)

pub returns-in-Some : goal.returns-in-Some
returns-in-Some c = aim_some c.args.self.now c.args.pdu.now c.in-Some.value.now c.aim_by.result (sym c.in-Some.ensures) c.aim_by.ensures

pub returns-in-None : goal.returns-in-None
returns-in-None c = aim_none c.args.self.now c.args.pdu.now (sym c.in-None.ensures)
