-- The octets that a system writes, and the frames that they go in.
use Rattle.std.specs.Prelude.{◌≡◌, ◌≤◌, ℕ, List, [], ◌∷◌, take, Option, Some, None}
use Rattle.nsap.specs.declared.port.Port.{Port}
use Rattle.pdu_parts.specs.Front.{BeginsWith}
use Rattle.clnp_header.specs.declared.pdu.Pdu.{Pdu}
use Rattle.clnp_header.specs.declared.pdu.PduRef.{PduRef}
use Rattle.clnp_header.specs.Grammar.{IsPdu}
use Rattle.clnp_header.specs.Values.{value_of}
use Rattle.clnp_header.specs.Writing.{IsWritable, IsWritten, header_length, pdu_length}
use Rattle.clnp_segment.specs.Cutting.{Cuts}
use Rattle.esis_pdu.specs.declared.hello.Hello.{Hello}
use Rattle.esis_pdu.specs.Hellos.{IsEsis}
use Rattle.esis_pdu.specs.Hellos.{IsWritten as IsWrittenHello}
use Rattle.clnp_system.specs.Setting.{Setting, port_on, room_of}
use Rattle.clnp_system.specs.Node.{Frame}

-- a PDU stands at the front of the octets, and its header
abbrev pub HasPdu : List ℕ → Pdu → Type 0
HasPdu octets pdu = (rest : List ℕ) × BeginsWith IsPdu octets pdu rest

abbrev pub header_in : List ℕ → Pdu → List ℕ
header_in octets pdu = take (header_length pdu) octets

-- the PDU was read from the front of some octets
abbrev pub WasRead : PduRef → Type 0
WasRead pdu = (octets : List ℕ) × HasPdu octets (value_of pdu)

-- the grammar allows the PDU, and its header and whole length fit
pub record MayBeWritten (pdu : Pdu) : Type 0 where
  pub writable : IsWritable pdu
  pub header : header_length pdu ≤ 254
  pub whole : pdu_length pdu ≤ 65535

-- a frame from the own port on the LAN to that port
pub record GoesTo (setting : Setting) (to : Port) (frame : Frame) : Type 0 where
  pub from : port_on setting to.lan ≡ Some frame.from
  pub to_is : frame.to ≡ to

-- the one frame of a PDU: its octets are in the grammar, and those that are written
pub record IsPduFrame (setting : Setting) (to : Port) (pdu : Pdu) (frame : Frame) : Type 0 where
  pub goes : GoesTo setting to frame
  pub is_pdu : IsPdu frame.octets pdu
  pub written : IsWritten pdu frame.octets

-- a frame for each PDU, in order
abbrev pub AreFrames : Setting → Port → List Pdu → List Frame → Type 0
AreFrames setting to [] frames = frames ≡ []
AreFrames setting to (pdu ∷ pdus) frames =
    (frame : Frame) × (rest : List Frame) × IsPduFrame setting to pdu frame × AreFrames setting to pdus rest × (frames ≡ frame ∷ rest)

-- the frames of a PDU to that port, cut for the room of its LAN; none where it does not fit and may not be cut
abbrev pub CutFrames : Setting → Port → Pdu → Option (List Frame) → Type 0
CutFrames setting to pdu (Some frames) = (pdus : List Pdu) × Cuts pdu (room_of setting to.lan) pdu.segment (Some pdus) × AreFrames setting to pdus frames
CutFrames setting to pdu None = Cuts pdu (room_of setting to.lan) pdu.segment None

-- the one frame of a hello, alike
pub record IsHelloFrame (setting : Setting) (to : Port) (hello : Hello) (frame : Frame) : Type 0 where
  pub goes : GoesTo setting to frame
  pub is_hello : IsEsis frame.octets (record { hello = hello; options = [] })
  pub written : IsWrittenHello hello frame.octets
