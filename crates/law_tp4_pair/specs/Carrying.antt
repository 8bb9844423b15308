-- What waits carries what was submitted: DTs the pieces of units, an ED its unit (X.224, class 4: segmentation and reassembling, expedited
-- data).
use Rattle.std.specs.Prelude.{◌≡◌, ℕ, ◌+◌, ◌<◌, List, [], ◌∷◌, ◌++◌, drop, Option, Some, None}
use Rattle.std.specs.List.{sum_by}
use Rattle.tpdu.specs.declared.tpdu.Tpdu.{Tpdu}
use Rattle.tpdu.specs.declared.tpdu.Tpdu.TheVariants.{Dt, Ed}
use Rattle.script_journal.specs.Lawful.{Marked, expediteds, normals}
use Rattle.tp4_number.specs.declared.piece.Piece.{Piece}
use Rattle.tp4_flow.specs.ReceivingHalf.{Half}
use Rattle.tp4_flow.specs.declared.step.Sent.{Sent}
use Rattle.tp4_sending.specs.SendingHalf.{FlowSender}
use Rattle.tp4_sending.specs.Pieces.{count_in, cut_at}
use Rattle.tp4_sending.specs.declared.tries.Tries.{Tries}
use Rattle.law_tp4_history.specs.Complete.{AllFull, Complete}

-- the pieces of DTs, the units of EDs
abbrev pub piece_in : Tpdu → List Piece
piece_in (Dt destination last number text) = record { last = last; octets = text } ∷ []
piece_in other = []

abbrev pub pieces_in : List Sent → List Piece
pieces_in [] = []
pieces_in (sent ∷ tpdus) = piece_in sent.tpdu ++ pieces_in tpdus

abbrev pub unit_in : Tpdu → List (List ℕ)
unit_in (Ed destination last number text) = text ∷ []
unit_in other = []

abbrev pub units_in : List Sent → List (List ℕ)
units_in [] = []
units_in (sent ∷ tpdus) = unit_in sent.tpdu ++ units_in tpdus

-- these are the pieces of units from the n-th on, in order
abbrev pub ArePieces : ℕ → List (List ℕ) → ℕ → List Piece → Type 0
ArePieces size units n [] = Unit {0}
ArePieces size units n (piece ∷ pieces) = (cut_at size units n ≡ Some piece) × ArePieces size units (n + 1) pieces

-- of the expedited units that a sender keeps these were not shown: all, but for the first where its ED is outstanding and does not wait
abbrev pub AreLeft : Option Tries → List (List ℕ) → List (List ℕ) → List (List ℕ) → Type 0
AreLeft None waiting units left = left ≡ units
AreLeft (Some tries) [] units left = left ≡ drop 1 units
AreLeft (Some tries) (unit ∷ waiting) units left = (left ≡ units) × (units ≡ unit ∷ drop 1 units)

-- one direction between two ends: what was submitted at the one and shown at the other, with the pieces and units that wait between them
pub record Carries (s : FlowSender) (h : Half) (pieces : List Piece) (units : List (List ℕ)) (gave showed : List Marked) : Type 0 where
  pub some : 0 < s.rules.piece
  pub full : AllFull (normals gave)
  pub acknowledged : List (List ℕ)
  pub normal : normals gave ≡ acknowledged ++ s.queue.units
  pub first : s.queue.first ≡ sum_by (count_in s.rules.piece) acknowledged
  pub pieces_are : ArePieces s.rules.piece (normals gave) h.receiver.expected pieces
  pub complete : Complete s.rules.piece (normals gave) h.receiver.expected (normals showed) h.receiver.inbox.held.begun
  pub left : List (List ℕ)
  pub expedited : expediteds gave ≡ expediteds showed ++ left
  pub left_are : AreLeft s.urgent.out units s.urgent.units left
