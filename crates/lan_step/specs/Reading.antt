-- Octets that are injected, read as a frame (IEEE 802.3; ISO/IEC 8802-2).
use Rattle.std.specs.Prelude.{ℕ, List, Option, Some, None}
use Rattle.osi_base.specs.declared.unit.Up.{Up}
use Rattle.osi_base.specs.declared.unit.Up.TheVariants.{Unit as Came, Note as Noted}
use Rattle.osi_base.specs.declared.note.Note.TheVariants.{Alien}
use Rattle.nsap.specs.declared.port.Port.{Port}
use Rattle.lan_frame.specs.Frame.{Framed, frame_in}

-- what a system gets of a frame: an arrival with the ports that the frame names, or the note that it is none
abbrev pub up_in : ℕ → ℕ → Option Framed → Up Port
up_in lan system None = Noted (Alien system)
up_in lan system (Some frame) =
    Came (record { system = system; unit = record { from = record { lan = lan; snpa = frame.from }; to = record { lan = lan; snpa = frame.to }; octets = frame.pdu } })

abbrev pub ups_of : ℕ → ℕ → List ℕ → Up Port
ups_of lan system octets = up_in lan system (frame_in octets)
