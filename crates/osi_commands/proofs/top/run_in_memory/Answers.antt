use Rattle.std.proofs.Common.{rules, ◌≡◌, ◌∙◌}
use Rattle.osi_base.specs.declared.status.Status.TheVariants.{ReadFault, WriteFault}
use Rattle.osi_commands.proofs.InMemory.{exact_in_memory, told_in_memory}
use Rattle.osi_commands.proofs.top.run_in_memory.Goals as goal

pub returns-clause-exact : goal.returns-clause-exact
returns-clause-exact c command is text asked asks =
    let input_is : c.in_ok-source.source.left ≡ c.args.input.now = search rules in
    let no_read : c.osi-status.result ≡ ReadFault → ⊥ = search rules in
    let no_write : c.osi-status.result ≡ WriteFault → ⊥ = search rules in
    exact_in_memory command c.args.input.now c.in_ok-source.source.left c.osi-status.new.source.left c.new-sink.result c.osi-status.new.sink c.of-octets.result c.osi-status.result
    input_is c.new-sink.ensures (c.of-octets.ensures ∙ c.into_written.ensures) (c.osi-status.ensures.does command is).exact no_read no_write text asked asks

pub returns-clause-told : goal.returns-clause-told
returns-clause-told c command is =
    let input_is : c.in_ok-source.source.left ≡ c.args.input.now = search rules in
    told_in_memory command c.args.input.now c.in_ok-source.source.left c.osi-status.new.source.left c.new-sink.result c.osi-status.new.sink c.of-octets.result c.osi-status.result
    input_is c.new-sink.ensures (c.of-octets.ensures ∙ c.into_written.ensures) (c.osi-status.ensures.does command is).told
