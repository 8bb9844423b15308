use Rattle.std.proofs.Common.{◌∙◌, ap}
use Rattle.std.proofs.lemmas.List.{take_rest}
use Rattle.pdu_parts.specs.Field.{address_at}
use Rattle.clnp_header.proofs.Stages.{address_within}
use Rattle.clnp_header.proofs.reading.address_of.Goals as goal

pub returns-in-Some-clause-length : goal.returns-in-Some-clause-length
returns-in-Some-clause-length c =
    let header = c.args.header.now in
    address_within header c.in-Some.found.0 c.in-Some.found.1.now c.args.at (c.in-Some.ensures ∙ ap address_at (take_rest header c.args.at))
