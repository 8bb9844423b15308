use Rattle.std.proofs.Common.{ap, sym, ◌∙◌}
use Rattle.std.proofs.lemmas.Result.{IfOk-weaker}
use Rattle.clnp_options.specs.Options.{listed, value_of}
use Rattle.clnp_header.proofs.Found.{parameters_again}
use Rattle.clnp_system.specs.Hearing.{only_note}
use Rattle.clnp_entity.proofs.Received.{reason_told}
use Rattle.clnp_entity.proofs.entity.NetEntity.show.Goals as goal

pub returns : goal.returns
returns c = IfOk-weaker c.tell.result _ _ (λ handled h. h ∙ ap only_note
    (reason_told c.system.result c.args.self.now.setup.system c.report_note.result _ _ c.system.ensures c.report_note.ensures
    (c.get-value.ensures ∙ sym (ap (value_of 193) (parameters_again (listed c.args.pdu.now.options)))))) c.tell.ensures
