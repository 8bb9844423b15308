-- What the program does, by its words: what its writer took is what the octets that its reader gave ask for.
use Rattle.std.specs.Prelude.{◌≡◌, ℕ, List, Option}
use Rattle.osi_base.specs.declared.status.Status.{Status}
use Rattle.osi_base.specs.declared.status.Status.TheVariants.{ReadFault, RefusedWords}
use Rattle.osi_base.specs.Ends.{Put, Took}
use Rattle.line_loop.specs.Outcome.{AsksSoFar}
use Rattle.line_loop.specs.Writing.{IsWritten}
use Rattle.law_run.specs.Bench.{bench_meaning, first_bench}
use Rattle.osi_commands.specs.Commands.{Gives, IsCalled, Moves}
use Rattle.osi_commands.specs.Text.{usage_line}
use Rattle.osi_commands.specs.declared.command.Command.{Command}
use Rattle.osi_commands.specs.declared.command.Command.TheVariants.{Run}

-- what the words ask for is done with what the reader has left and the writer holds before the call, and has left and holds after it
pub record IsCall (words : List (List ℕ)) (left held rest grown : Option (List ℕ)) (status : Status) : Type 0 where
  pub told : (command : Command) → IsCalled words command → Moves command left rest held grown status
  pub exact : (command : Command) → IsCalled words command → Gives command left held grown status
  -- a read failed: the transcript of the lines that had come whole before it was written by then
  pub run_so_far : IsCalled words Run → status ≡ ReadFault
      → (read : List ℕ) × (written : List ℕ) × Took left read rest × Put held written grown × AsksSoFar bench_meaning first_bench read written
  -- other words: the usage line was written, or a front of it, and nothing was read
  pub other : ((command : Command) → IsCalled words command → ⊥)
      → (rest ≡ left) × IsWritten {K = Option (List ℕ)} (λ octets. octets) held usage_line RefusedWords grown status
