use Rattle.std.specs.Prelude.{ℕ, List, codes}
use Rattle.osi_base.specs.declared.status.Status.TheVariants.{Done}
use Rattle.script_frames.specs.Frames.{AsksForCapture}
use Rattle.osi_commands.specs.declared.command.Command.TheVariants.{Frames}
use Rattle.law_commands.proofs.EachCommand.{status_first, word_is}
use Rattle.law_commands.proofs.laws.frames_does.Goals as goal

pub returns-clause-told : goal.returns-clause-told
returns-clause-told c call serves is = (serves Frames (word_is (codes "frames") call.words is)).told

pub returns-clause-exact : goal.returns-clause-exact
returns-clause-exact c call serves is = (serves Frames (word_is (codes "frames") call.words is)).exact

pub returns-clause-complete : goal.returns-clause-complete
returns-clause-complete c call serves is all tells accepted no_read no_write =
    status_first (λ (capture : List ℕ). AsksForCapture all capture Done) call.held call.held_now call.status
    ((serves Frames (word_is (codes "frames") call.words is)).complete all tells accepted no_read no_write)
