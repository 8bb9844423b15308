use Rattle.std.proofs.Common.{◌∷◌, []}
use Rattle.script_lines.specs.Tags.{tags_of}
use Rattle.script_journal.specs.Cells.{octets_text}
use Rattle.script_journal.specs.steps.Written.{piece_text}
use Rattle.script_journal.proofs.Tails.{told_by}
use Rattle.script_journal.proofs.end_lines.write_agreed.Goals as goal

pub returns : goal.returns
returns c =
    let tags = tags_of c.args.names.now in
    told_by _ _ _ _ _
    (λ i. c.args.word.now ∷ piece_text tags (c.number.ensures i)
    ∷ c.format_piece.ensures tags i ∷ c.size_piece.ensures tags i ∷ c.choice.ensures tags i ∷ c.choice-2.ensures tags i
    ∷ octets_text (c.as_slice.ensures i) ∷ [])
    c.write.ensures
