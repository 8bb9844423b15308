use Rattle.std.proofs.Common.{ℕ, List, Some, All, [], ◌∷◌, refl, ◌≤◌, arith, sym, subst}
use Rattle.clnp_header.specs.declared.pdu.Pdu.{Pdu}
use Rattle.clnp_segment.specs.Cutting.{Cuts}
use Rattle.clnp_header.specs.Writing.{pdu_length, with_body}
use Rattle.clnp_system.specs.Setting.{room_of}
use Rattle.clnp_system.specs.Written.{AreFrames, MayBeWritten}
use Rattle.clnp_system.proofs.Lans.{lan_of}
use Rattle.clnp_system.proofs.Writable.{cut_may_be_written, fits_alone}
use Rattle.clnp_system.proofs.setup.SystemSetup.cut_frames.Goals as goal

pub pieces-requires-clause-least : goal.pieces-requires-clause-least
pieces-requires-clause-least c = let lan = lan_of c.args.self.now c.args.to.lan c.requires.setting c.requires.port in omega (arith, c.room-room.ensures)

pub frames-requires-clause-written : goal.frames-requires-clause-written
frames-requires-clause-written c =
    let lan = lan_of c.args.self.now c.args.to.lan c.requires.setting c.requires.port in
    let cuts : Cuts c.args.pdu c.room-room.result c.args.pdu.segment (Some c.in-Some.pdus.items) = rw c.in-Some.is at c.in_ok-pdus.ensures in
    subst (λ (ps : List Pdu). All MayBeWritten ps) (sym c.deref.ensures.value)
    (cut_may_be_written c.room-room.result c.args.pdu c.in-Some.pdus.items c.cut_written.ensures (omega (arith, c.room-room.ensures)) (omega (arith, c.room-room.ensures)) c.requires.written cuts)

pub returns-then-pdu_length-room : goal.returns-then-pdu_length-room
returns-then-pdu_length-room c =
    let fits : pdu_length c.args.pdu ≤ room_of c.args.self.now c.args.to.lan = omega (arith, c.pdu_length.ensures, c.room-room.ensures) in (
      c.args.pdu ∷ [],
      fits_alone c.args.pdu (room_of c.args.self.now c.args.to.lan) c.args.pdu.segment refl fits,
      subst (λ (b : List ℕ). AreFrames c.args.self.now c.args.to (with_body c.args.pdu b ∷ []) c.in_ok-whole.field-0.items) c.as_slice.ensures c.in_ok-whole.ensures,
    )
