use Rattle.std.proofs.Common.{[], sym, append-nil}
use Rattle.script_journal.proofs.Partners.{one_partner}
use Rattle.script_journal.proofs.laws.one_partner.Goals as goal

pub returns : goal.returns
returns c = λ frozen titles journal end one other lawful first second. one_partner titles journal (lawful journal [] (sym (append-nil journal))).queues end one other first second
