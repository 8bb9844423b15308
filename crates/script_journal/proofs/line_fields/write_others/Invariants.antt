use Rattle.std.proofs.Common.{◌≡◌, ◌++◌, drop}
use Rattle.script_journal.specs.steps.Written.{pieces_text, tail}
use Rattle.script_lines.specs.Tags.{tags_of}
use Rattle.script_journal.proofs.line_fields.write_others.Given as goal

-- what stands, with what is left of the line, is the line
abbrev pub invariant-loop-piece : goal.invariant-loop-piece
invariant-loop-piece l =
    l.out.items ++ tail (pieces_text (tags_of l.names) (drop l.piece-index l.pieces)) ≡ l.initial.out.items ++ tail (pieces_text (tags_of l.names) l.pieces)
