-- Cutting a PDU for a room (X.233, segmentation).
use Rattle.std.specs.Prelude.{◌≡◌, ℕ, ◌+◌, ◌<◌, ◌≤◌, ◌%◌, Bool, true, false, if◌then◌else◌, List, [], ◌∷◌, ◌++◌, length, Option, Some, None}
use Rattle.clnp_header.specs.declared.pdu.Pdu.{Pdu}
use Rattle.clnp_header.specs.declared.pdu.SegmentPart.{SegmentPart}
use Rattle.clnp_header.specs.Writing.{IsWritable, header_length, pdu_length}

-- the octets of a piece which is not the last: the most that fit and are a multiple of 8
pub record IsStep (room header count : ℕ) : Type 0 where
  pub fits : header + count ≤ room
  pub eights : count % 8 ≡ 0
  pub most : room < header + count + 8

-- the data is these runs, one after another; a run is the last exactly where all that remains fits
abbrev pub Pieces : ℕ → ℕ → List ℕ → List (List ℕ) → Type 0
Pieces room header octets [] = ⊥
Pieces room header octets (last ∷ []) = (header + length octets ≤ room) × (last ≡ octets)
Pieces room header octets (piece ∷ next ∷ pieces) =
    (room < header + length octets) × IsStep room header (length piece)
    × ((rest : List ℕ) × (octets ≡ piece ++ rest) × Pieces room header rest (next ∷ pieces))

-- the PDU of a run that begins at that position
abbrev pub piece_of : Pdu → SegmentPart → ℕ → Bool → List ℕ → Pdu
piece_of pdu part position last octets =
    record pdu { segment = Some (record part { offset = part.offset + position; more = if last then part.more else true }); body = octets }

-- the PDUs of the runs, of which the first begins at that position
abbrev pub piece_pdus : Pdu → SegmentPart → ℕ → List (List ℕ) → List Pdu
piece_pdus pdu part position [] = []
piece_pdus pdu part position (last ∷ []) = piece_of pdu part position true last ∷ []
piece_pdus pdu part position (octets ∷ next ∷ rest) =
    piece_of pdu part position false octets ∷ piece_pdus pdu part (position + length octets) (next ∷ rest)

-- what cutting answers for a PDU with that segmentation part; without one a PDU that fits is itself
abbrev pub Cuts : Pdu → ℕ → Option SegmentPart → Option (List Pdu) → Type 0
Cuts pdu room None (Some pdus) = (pdu_length pdu ≤ room) × (pdus ≡ pdu ∷ [])
Cuts pdu room None None = room < pdu_length pdu
Cuts pdu room (Some part) (Some pdus) =
    (pieces : List (List ℕ)) × Pieces room (header_length pdu) pdu.body pieces × (pdus ≡ piece_pdus pdu part 0 pieces)
Cuts pdu room (Some part) None = ⊥

-- ---- what may go

-- the grammar allows the PDU, its header has 254 octets at most, and it fits the room
pub record MayGo (room : ℕ) (pdu : Pdu) : Type 0 where
  pub writable : IsWritable pdu
  pub short : header_length pdu ≤ 254
  pub fits : pdu_length pdu ≤ room
