-- The pieces of a line as the code lends them.
use Rattle.std.specs.Prelude.{◌≡◌, ℕ, List, [], ◌∷◌, ◌++◌, map, codes, Result, OnOk}
use Rattle.std.specs.Fmt.{decimal}
use Rattle.hex.specs.Hex.{encode_lower}
use Rattle.osi_base.specs.declared.refusal.NoMemory.{NoMemory}
use Rattle.script_lines.specs.Known.{Declared}
use Rattle.script_lines.specs.Tags.{Tags, name_at, tags_of}
use Rattle.script_journal.specs.declared.line_fields.LineField.{LineField}
use Rattle.script_journal.specs.declared.line_fields.LineField.TheVariants as pieces
use Rattle.script_journal.specs.Cells.{Cell, cell_text, line, octets_text}

abbrev pub piece_text : Tags → LineField → List ℕ
piece_text tags (pieces.Word text) = text.now
piece_text tags (pieces.Number number) = decimal number
piece_text tags (pieces.Preferred number) = codes "p" ++ decimal number
piece_text tags (pieces.System system) = name_at tags.systems system
piece_text tags (pieces.Lan lan) = name_at tags.lans lan
piece_text tags (pieces.Digits octets) = encode_lower octets.now
piece_text tags (pieces.Octets octets) = octets_text octets.now

abbrev pub pieces_text : Tags → List LineField → List (List ℕ)
pieces_text tags pieces = map (piece_text tags) pieces

-- the fields behind the first, each behind a blank, and a line feed
abbrev pub tail : List (List ℕ) → List ℕ
tail [] = 10 ∷ []
tail (field ∷ fields) = 32 ∷ (field ++ tail fields)

-- the line of the cells is appended
abbrev pub Appends : Declared → List Cell → List ℕ → List ℕ → Result Unit NoMemory → Type 0
Appends names cells old new result = OnOk result (new ≡ old ++ line (map (cell_text (tags_of names)) cells))

-- a text and behind it the line of the cells are appended
abbrev pub Heads : Declared → List ℕ → List Cell → List ℕ → List ℕ → Result Unit NoMemory → Type 0
Heads names head cells old new result = OnOk result (new ≡ old ++ (head ++ line (map (cell_text (tags_of names)) cells)))
