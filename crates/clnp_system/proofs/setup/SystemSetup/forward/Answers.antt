use Rattle.std.proofs.Common.{arith}
use Rattle.clnp_header.specs.Values.{value_of}
use Rattle.clnp_system.proofs.Lans.{lan_of}
use Rattle.clnp_system.proofs.Writable.{onward_written}
use Rattle.clnp_system.proofs.setup.SystemSetup.forward.Goals as goal

pub overflow_cast-bound : goal.overflow_cast-bound
overflow_cast-bound c = let lan = lan_of c.args.self.now c.args.at.lan c.requires.setting c.requires.port in omega (arith, c.bound.ensures)

pub cut_frames-requires-clause-written : goal.cut_frames-requires-clause-written
cut_frames-requires-clause-written c =
    onward_written c.args.self.now c.titled.ensures c.bound.result (value_of c.args.pdu.now) c.in_ok-onward.onward c.requires.read c.in_ok-onward.ensures
