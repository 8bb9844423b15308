-- The octets of a frame that carries a network PDU (IEEE 802.3, MAC frame structure; ISO/IEC 8802-2, LLC PDU).
use Rattle.std.specs.Prelude.{◌≡◌, ℕ, ◌+◌, ◌-◌, ◌*◌, ◌/◌, ◌%◌, ◌≤◌, ◌==◌, Bool, not, ◌||◌, ◌&&◌, nat_lt, if◌then◌else◌, List, [], ◌∷◌, ◌++◌, length, take, drop, slice_index, Option, Some, None}
use Rattle.lan_frame.specs.declared.frame.FrameRef.{FrameRef}

-- the octets of a whole frame: destination, source, length, DSAP, SSAP and control, network PDU
abbrev pub whole_frame : List ℕ → List ℕ → List ℕ → List ℕ
whole_frame to from pdu =
    to ++ from ++ (length pdu + 3) / 256 ∷ (length pdu + 3) % 256 ∷ [] ++ 254 ∷ 254 ∷ 3 ∷ [] ++ pdu

-- what a frame tells: where it goes, whence it comes, and its network PDU
pub record Framed : Type 0 where
  pub to : List ℕ
  pub from : List ℕ
  pub pdu : List ℕ

-- the octets are a whole frame, and padding behind it; the network PDU has 1 to 1,497 octets
pub record IsFrame (octets : List ℕ) (frame : Framed) : Type 0 where
  pub to : length frame.to ≡ 6
  pub from : length frame.from ≡ 6
  pub least : 1 ≤ length frame.pdu
  pub most : length frame.pdu ≤ 1497
  pub padding : List ℕ
  pub is : octets ≡ whole_frame frame.to frame.from frame.pdu ++ padding

-- the length field
abbrev pub length_field : List ℕ → ℕ
length_field octets = slice_index octets 12 * 256 + slice_index octets 13

-- DSAP, SSAP and control are those of the network layer
abbrev pub has_llc : List ℕ → Bool
has_llc octets = slice_index octets 14 == 254 && slice_index octets 15 == 254 && slice_index octets 16 == 3

-- the octets are no frame with a network PDU: they end too early, or have another length field or LLC
abbrev pub is_alien : List ℕ → Bool
is_alien octets =
    nat_lt (length octets) 17 || nat_lt (length_field octets) 4 || nat_lt 1500 (length_field octets)
    || nat_lt (length octets) (14 + length_field octets) || not (has_llc octets)

-- the frame that the octets are; what is past the length field is padding
abbrev pub frame_in : List ℕ → Option Framed
frame_in octets =
    if is_alien octets then None
    else Some (record { to = take 6 octets; from = take 6 (drop 6 octets); pdu = take (length_field octets - 3) (drop 17 octets) })

-- what a frame tells, apart from the octets that it was read from
abbrev pub framed : FrameRef → Framed
framed frame = record { to = frame.to; from = frame.from; pdu = frame.pdu.now }
