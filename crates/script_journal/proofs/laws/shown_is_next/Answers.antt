use Rattle.script_journal.proofs.Showing.{each_told}
use Rattle.script_journal.proofs.laws.shown_is_next.Goals as goal

pub returns : goal.returns
returns c = each_told
