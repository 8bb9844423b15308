use Rattle.std.proofs.Common.{arith}
use Rattle.tpdu.proofs.Formats.{connect_length}
use Rattle.tpdu.proofs.writing.connect_count.Goals as goal

pub returns : goal.returns
returns c = λ extra.
    let all = connect_length c.args.calling.now c.args.called.now c.args.size c.args.preferred extra in
    omega (arith, c.saturating_add-selectors.ensures, c.sized_count.ensures, all)
