use Rattle.std.proofs.Common.{◌∷◌, [], ◌++◌}
use Rattle.std.specs.Fmt.{decimal}
use Rattle.std.specs.Prelude.{codes}
use Rattle.pdu_parts.specs.Parameter.{parameters_in}
use Rattle.tpdu.specs.Values.{tpdu_of}
use Rattle.capture_show.specs.Texts.{line, parameters_text}
use Rattle.capture_show.specs.Tpdus.{fixed_texts, known}
use Rattle.capture_show.proofs.Frames.{appended}
use Rattle.capture_show.proofs.Tails.{ended}
use Rattle.capture_show.proofs.unit.write_tpdu.Goals as goal

pub returns : goal.returns
returns c =
    let tpdu = tpdu_of c.args.tpdu.now in
    let ps = parameters_in c.args.parameters.now in
    let old = c.args.out.now.items in
    appended c.push_end.result c.push_end.new.out.items _ _
    (ended (codes " tpdu" ∷ fixed_texts tpdu) (parameters_text (known c.kind.result ps)) (decimal c.count_of.result) old c.push_fixed.new.out.items c.push_known.new.out.items
    c.push_end.new.out.items c.push_end.result c.in_ok-push_fixed.ensures c.in_ok-push_known.ensures c.push_end.ensures)
    (λ i. old ++ line (codes " tpdu" ∷ (fixed_texts tpdu ++ parameters_text (known (c.kind.ensures i) ps) ∷ decimal (c.count_of.ensures i) ∷ [])))
