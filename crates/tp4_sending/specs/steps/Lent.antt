-- A piece that is lent, as the piece that it is.
use Rattle.std.specs.Prelude.{Option, Some, None}
use Rattle.tp4_number.specs.declared.piece.Piece.{Piece}
use Rattle.tp4_sending.specs.declared.cutting.PieceRef.{PieceRef}

abbrev pub piece_of : Option PieceRef → Option Piece
piece_of None = None
piece_of (Some piece) = Some (record { last = piece.last; octets = piece.octets.now })
