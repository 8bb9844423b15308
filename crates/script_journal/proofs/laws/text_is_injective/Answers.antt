use Rattle.script_journal.proofs.OneText.{journal_same}
use Rattle.script_journal.proofs.laws.text_is_injective.Goals as goal

pub returns : goal.returns
returns c = journal_same
