use Rattle.std.proofs.Common.{◌≡◌, ◌+◌, ◌++◌, length, arith, length-append, ◌∙◌}
use Rattle.pdu_parts.specs.Field.{field}
use Rattle.esis_pdu.specs.Hellos.{title_field}
use Rattle.clnp_system.proofs.setup.SystemSetup.rd.Goals as goal

pub returns-clause-short : goal.returns-clause-short
returns-clause-short c =
    let address = c.args.destination in
    let snpa = c.args.hop.now.port.snpa in
    let title = c.args.hop.now.title in
    let first : length (field address ++ field snpa) ≡ (length address + 1) + (length snpa + 1) = length-append (field address) (field snpa) ∙ omega arith in
    omega (arith, length-append (field address ++ field snpa) (title_field title), first, c.octets.ensures.most, c.octets-2.ensures.six, c.title_octets.ensures.count, c.title_octets.ensures.most)
