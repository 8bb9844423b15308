-- The capture of frames (libpcap file format 2.4): microseconds, numbers highest octet first, link type Ethernet.
use Rattle.std.specs.Prelude.{◌≤◌, ◌<◌, ℕ, ◌/◌, ◌%◌, ◌*◌, List, [], ◌∷◌, ◌++◌, length}
use Rattle.byteorder.specs.Endian.{big_bytes}
use Rattle.capture_decode.specs.Capture.{Record}

-- a frame as it stood on its LAN, and the tick at which it was sent
pub record SentFrame : Type 0 where
  pub tick : ℕ
  pub octets : List ℕ

-- the magic number, version 2.4, zone and accuracy 0, at most 65,535 octets of a frame, link type 1
abbrev pub header_octets : List ℕ
header_octets =
    0xa1 ∷ 0xb2 ∷ 0xc3 ∷ 0xd4 ∷ 0x00 ∷ 0x02 ∷ 0x00 ∷ 0x04 ∷ 0x00 ∷ 0x00 ∷ 0x00 ∷ 0x00 ∷ 0x00 ∷ 0x00 ∷ 0x00 ∷ 0x00
    ∷ 0x00 ∷ 0x00 ∷ 0xff ∷ 0xff ∷ 0x00 ∷ 0x00 ∷ 0x00 ∷ 0x01 ∷ []

-- a tick is half a second: the seconds, the microseconds, how many octets were captured and how many there were, and the octets
abbrev pub record_octets : SentFrame → List ℕ
record_octets frame =
    big_bytes 4 (frame.tick / 2) ++ (big_bytes 4 (frame.tick % 2 * 500000)
    ++ (big_bytes 4 (length frame.octets) ++ (big_bytes 4 (length frame.octets) ++ frame.octets)))

abbrev pub records_octets : List SentFrame → List ℕ
records_octets [] = []
records_octets (frame ∷ frames) = record_octets frame ++ records_octets frames

-- the capture of all frames, in the order in which they were sent
abbrev pub capture_of : List SentFrame → List ℕ
capture_of frames = header_octets ++ records_octets frames

-- the record that a frame is in its capture
abbrev pub record_of : SentFrame → Record
record_of frame = record { seconds = frame.tick / 2; fraction = frame.tick % 2 * 500000; original = length frame.octets; octets = frame.octets }

-- no tick of a run is so late, and no frame so long
abbrev pub IsWritable : SentFrame → Type 0
IsWritable frame = (frame.tick < 4294967296) × (length frame.octets ≤ 65535)
