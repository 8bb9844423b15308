use Rattle.law_tp4_history.proofs.Lines.{lawful, lawful_front}
use Rattle.law_tp4_history.proofs.laws.units.Goals as goal

pub returns-clause-part : goal.returns-clause-part
returns-clause-part c = lawful_front

pub returns-clause-whole : goal.returns-clause-whole
returns-clause-whole c = λ rules size tick credit places room happenings l fit some credit_low room_low r. lawful rules fit size some tick credit places room credit_low room_low happenings l r
