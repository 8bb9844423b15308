use Rattle.std.proofs.Common.{◌∷◌, []}
use Rattle.std.specs.Fmt.{decimal}
use Rattle.std.specs.Prelude.{codes}
use Rattle.hex.specs.Hex.{encode_lower}
use Rattle.script_lines.specs.Tags.{tags_of, name_at}
use Rattle.script_journal.specs.Cells.{octets_text}
use Rattle.script_journal.specs.steps.Written.{piece_text}
use Rattle.script_journal.proofs.Tails.{told_by}
use Rattle.script_journal.proofs.end_lines.write_incoming.Goals as goal

pub returns : goal.returns
returns c =
    let tags = tags_of c.args.names.now in
    told_by _ _ _ _ _
    (λ i. codes "incoming" ∷ piece_text tags (c.number.ensures i) ∷ name_at tags.systems c.args.heard.now.system ∷ decimal (c.from.ensures i)
    ∷ encode_lower (c.as_slice.ensures i) ∷ decimal (c.from-2.ensures i) ∷ octets_text (c.as_slice-2.ensures i)
    ∷ encode_lower (c.as_slice-3.ensures i) ∷ octets_text (c.as_slice-4.ensures i)
    ∷ c.format_piece.ensures tags i ∷ c.size_piece.ensures tags i ∷ c.choice.ensures tags i ∷ c.choice-2.ensures tags i
    ∷ octets_text (c.as_slice-5.ensures i) ∷ [])
    c.write.ensures
