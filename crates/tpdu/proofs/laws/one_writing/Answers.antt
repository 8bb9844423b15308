use Rattle.tpdu.specs.Writing.{is_summed}
use Rattle.tpdu.proofs.Spellings.{one_spelling}
use Rattle.tpdu.proofs.laws.one_writing.Goals as goal

pub returns : goal.returns
returns c = λ format sum tpdu. one_spelling format (is_summed sum tpdu) tpdu
