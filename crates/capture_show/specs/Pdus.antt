-- The lines of PDUs of the connectionless network protocol and of their faults (X.233, structure of PDUs; PDU header analysis).
use Rattle.std.specs.Prelude.{ℕ, ◌==◌, ◌&&◌, not, Bool, true, if◌then◌else◌, List, [], ◌∷◌, ◌++◌, length, Option, Some, None, codes}
use Rattle.std.specs.Fmt.{decimal}
use Rattle.hex.specs.Hex.{encode_lower}
use Rattle.nsap.specs.Address.{selector_of}
use Rattle.clnp_options.specs.declared.reason.Fault.{Fault}
use Rattle.clnp_options.specs.Options.{value_of}
use Rattle.clnp_options.specs.Reasons.{code_of}
use Rattle.clnp_header.specs.declared.pdu.Pdu.{Pdu}
use Rattle.clnp_header.specs.declared.pdu.SegmentPart.{SegmentPart}
use Rattle.clnp_header.specs.Values.{parameters, is_segment, is_followed}
use Rattle.capture_show.specs.Texts.{line, address_text, parameters_text}

-- a letter where its flag is set
abbrev pub letter : Bool → List ℕ → List ℕ
letter set text = if set then text else []

abbrev pub letters_text : List ℕ → List ℕ
letters_text [] = codes "-"
letters_text (first ∷ more) = first ∷ more

-- `s` where segmentation is permitted, `m` where more segments follow, `e` where an error report is wanted; `-` for none
abbrev pub flags_text : Option SegmentPart → Bool → List ℕ
flags_text segment report =
    letters_text (letter (is_segment segment) (codes "s") ++ letter (is_followed segment) (codes "m") ++ letter report (codes "e"))

-- identifier, offset and total length, `-` where there is no segmentation part
abbrev pub segment_text : Option SegmentPart → List ℕ
segment_text None = codes "-"
segment_text (Some part) = decimal part.id ++ 47 ∷ decimal part.offset ++ 47 ∷ decimal part.total

-- the reason and the place that the option of an error report has: it has two octets
abbrev pub discard_in : Option (List ℕ) → ℕ × ℕ
discard_in (Some (reason ∷ place ∷ [])) = (reason, place)
discard_in _ = (0, 0)

abbrev pub discard_of : Pdu → ℕ × ℕ
discard_of pdu = discard_in (value_of 0xC1 (parameters pdu.options))

abbrev pub dt_line : Pdu → List ℕ
dt_line pdu = line (codes "dt" ∷ address_text pdu.destination ∷ address_text pdu.source ∷ decimal pdu.lifetime
    ∷ flags_text pdu.segment pdu.report ∷ segment_text pdu.segment ∷ parameters_text (parameters pdu.options) ∷ decimal (length pdu.body) ∷ [])

abbrev pub er_line : Pdu → List ℕ
er_line pdu = line (codes "er" ∷ address_text pdu.destination ∷ address_text pdu.source ∷ decimal pdu.lifetime
    ∷ encode_lower ((discard_of pdu).0 ∷ []) ∷ decimal (discard_of pdu).1 ∷ decimal (length pdu.body) ∷ [])

abbrev pub bad_pdu_line : Fault → List ℕ
bad_pdu_line fault = line (codes "badclnp" ∷ encode_lower (code_of fault.reason ∷ []) ∷ decimal fault.place ∷ [])

-- the data is that of a whole initial PDU
abbrev pub is_whole : Option SegmentPart → Bool
is_whole None = true
is_whole (Some part) = (part.offset == 0) && not part.more

-- the data is a unit of transport
abbrev pub is_transport : Pdu → Bool
is_transport pdu = (selector_of pdu.destination == 1) && is_whole pdu.segment
