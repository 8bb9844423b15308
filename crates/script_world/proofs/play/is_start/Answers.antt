use Rattle.std.proofs.Common.{◌≡◌, ◌≢◌, false, refl}
use Rattle.script_lines.specs.declared.line.Line.{Line}
use Rattle.script_lines.specs.declared.line.Line.TheVariants as lines
use Rattle.script_world.specs.Plays.{is_start}
use Rattle.script_world.proofs.play.is_start.Goals as goal

other : (line : Line) → line ≢ lines.Start → false ≡ is_start line
other lines.Start start = absurd (start refl)
other line start = refl

pub returns-in_default : goal.returns-in_default
returns-in_default c = other c.args.line.now c.in_default.not-Start
