use Rattle.std.proofs.Common.{[], ◌∷◌, refl, ◌≤◌, arith}
use Rattle.clnp_header.specs.Writing.{pdu_length, with_body}
use Rattle.clnp_system.specs.Setting.{room_of}
use Rattle.clnp_system.proofs.Writable.{fits_alone}
use Rattle.clnp_system.proofs.setup.SystemSetup.frames_with.Goals as goal

pub returns-then-length-room : goal.returns-then-length-room
returns-then-length-room c =
    let pdu = with_body c.args.pdu c.args.body.now in
    let fits : pdu_length pdu ≤ room_of c.args.self.now c.args.to.lan = omega (arith, c.requires.length, c.room.ensures) in (
      pdu ∷ [],
      fits_alone pdu (room_of c.args.self.now c.args.to.lan) c.args.pdu.segment refl fits,
      (c.in_ok-frame.frame, [], c.in_ok-frame.ensures, refl, refl),
    )
