use Rattle.law_commands.proofs.EachCommand.{no_command}
use Rattle.law_commands.proofs.laws.other_words.Goals as goal

pub returns : goal.returns
returns c = no_command
