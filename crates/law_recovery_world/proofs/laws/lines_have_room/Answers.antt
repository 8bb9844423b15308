use Rattle.law_recovery_world.proofs.Rooms.{lines_room}
use Rattle.law_recovery_world.proofs.laws.lines_have_room.Goals as goal

pub returns : goal.returns
returns c = lines_room
