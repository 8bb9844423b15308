-- What is shown of a frame: its line, and a line for each TPDU that it carries.
use Rattle.std.specs.Prelude.{◌≡◌, ◌⊎◌, ℕ, ◌<◌, ◌==◌, ◌||◌, not, Bool, true, false, List, [], ◌∷◌, ◌++◌, length, slice_index, flat_map, option_map, Option, Some, None, codes}
use Rattle.lan_frame.specs.Frame.{frame_in}
use Rattle.pdu_parts.specs.Front.{BeginsWith}
use Rattle.pdu_parts.specs.Parameter.{Parameter, spelled}
use Rattle.clnp_options.specs.declared.reason.Fault.{Fault}
use Rattle.clnp_options.specs.declared.reason.PduKind.TheVariants.{Dt, Er}
use Rattle.clnp_header.specs.declared.pdu.Pdu.{Pdu}
use Rattle.clnp_header.specs.Faults.{IsPduFault}
use Rattle.clnp_header.specs.Grammar.{IsPdu}
use Rattle.esis_pdu.specs.declared.fault.EsisFault.{EsisFault}
use Rattle.esis_pdu.specs.Faults.{IsEsisFault}
use Rattle.esis_pdu.specs.Hellos.{Esis, IsEsis}
use Rattle.tpdu.specs.declared.fault.TpduFault.{TpduFault}
use Rattle.tpdu.specs.Faults.{IsTpduFault}
use Rattle.tpdu.specs.Grammar.{BeginsWithTpdu}
use Rattle.tpdu.specs.Values.{TpduAndSum}
use Rattle.capture_show.specs.declared.ends.End.{End}
use Rattle.capture_show.specs.Ends.{references_of, learned}
use Rattle.capture_show.specs.Hellos.{hello_line, bad_hello_line}
use Rattle.capture_show.specs.Pdus.{dt_line, er_line, bad_pdu_line, is_transport}
use Rattle.capture_show.specs.Texts.{line}
use Rattle.capture_show.specs.Tpdus.{tpdu_line, bad_tpdu_line}

-- ---- the TPDUs of a unit from one address to another

-- a TPDU stands at the front of the octets, the rest behind it, and this is its line. In extended formats exactly where its
-- destination was named so. The ends named after it
pub record ShowsTpdu (to from : List ℕ) (ends : List End) (octets line rest : List ℕ) (after : List End) : Type 0 where
  pub tpdu : TpduAndSum
  pub begins : BeginsWithTpdu (references_of to ends) octets tpdu rest
  pub line_is : line ≡ tpdu_line tpdu.0 begins.begins.stands.parts.parameters
  pub after_is : after ≡ learned to from tpdu.0 ends

-- some octets are left with no TPDU at their front, and this is the line of the fault
pub record ShowsFault (to : List ℕ) (ends : List End) (octets line : List ℕ) : Type 0 where
  pub some : 0 < length octets
  pub fault : TpduFault
  pub fails : IsTpduFault (references_of to ends) octets fault
  pub line_is : line ≡ bad_tpdu_line fault

-- the lines of a unit: one for each TPDU, up to the first fault
abbrev pub ShowsUnit : List ℕ → List ℕ → List End → List ℕ → List (List ℕ) → List End → Type 0
ShowsUnit to from ends octets [] after = (octets ≡ []) × (after ≡ ends)
ShowsUnit to from ends octets (line ∷ lines) after =
    (ShowsFault to ends octets line × (lines ≡ []) × (after ≡ ends))
    ⊎ ((rest : List ℕ) × (mid : List End) × ShowsTpdu to from ends octets line rest mid × ShowsUnit to from mid rest lines after)

-- the lines of the data of a DT PDU: those of its unit, where it is one of transport
abbrev pub ShowsData : Bool → Pdu → List End → List (List ℕ) → List End → Type 0
ShowsData true pdu ends lines after = ShowsUnit pdu.destination pdu.source ends pdu.body lines after
ShowsData false pdu ends lines after = (lines ≡ []) × (after ≡ ends)

-- ---- frames

-- the network PDU in a frame; none where the octets are no frame with one
abbrev pub pdu_in : List ℕ → Option (List ℕ)
pdu_in octets = option_map (λ frame. frame.pdu) (frame_in octets)

-- what is carried is this network PDU, which begins with this octet
pub record Carries (carried : Option (List ℕ)) (protocol : ℕ) (pdu : List ℕ) : Type 0 where
  pub is : carried ≡ Some pdu
  pub first : slice_index pdu 0 ≡ protocol

-- no network PDU, or one of another protocol than the connectionless network protocol and ES-IS
abbrev pub is_other : Option (List ℕ) → Bool
is_other None = true
is_other (Some pdu) = not ((slice_index pdu 0 == 0x81) || (slice_index pdu 0 == 0x82))

abbrev pub alien_line : List ℕ
alien_line = line (codes "alien" ∷ [])

-- the lines one after another
abbrev pub lines_text : List (List ℕ) → List ℕ
lines_text lines = flat_map (λ text. text) lines

-- what is shown of octets that begin as a PDU of the connectionless network protocol does: the line of their fault, of an ER PDU, or of
-- a DT PDU with those of its data
pub data ShowsPdu (octets : List ℕ) (ends : List End) (text : List ℕ) (after : List End) : Type 0 where
  BadPdu : (fault : Fault) → IsPduFault octets fault → text ≡ bad_pdu_line fault → after ≡ ends → ShowsPdu octets ends text after
  OfEr : (pdu : Pdu) (rest : List ℕ) → BeginsWith IsPdu octets pdu rest → pdu.kind ≡ Er → text ≡ er_line pdu → after ≡ ends
      → ShowsPdu octets ends text after
  OfDt : (pdu : Pdu) (rest : List ℕ) (lines : List (List ℕ)) → BeginsWith IsPdu octets pdu rest → pdu.kind ≡ Dt
      → ShowsData (is_transport pdu) pdu ends lines after → text ≡ dt_line pdu ++ lines_text lines → ShowsPdu octets ends text after

-- what is shown of octets that begin as a PDU of ES-IS does: the line of their fault or of the PDU
pub data ShowsHello (octets text : List ℕ) : Type 0 where
  BadHello : (fault : EsisFault) → IsEsisFault octets fault → text ≡ bad_hello_line fault → ShowsHello octets text
  OfHello : (pdu : Esis) (rest : List ℕ) (options : List Parameter) → BeginsWith IsEsis octets pdu rest → pdu.options ≡ spelled options
      → text ≡ hello_line pdu.hello options → ShowsHello octets text

-- what is shown of what a frame carries, where these ends were named before it, and the ends named after it
pub data ShowsCarried (carried : Option (List ℕ)) (ends : List End) (text : List ℕ) (after : List End) : Type 0 where
  Alien : is_other carried ≡ true → text ≡ alien_line → after ≡ ends → ShowsCarried carried ends text after
  Clnp : (pdu : List ℕ) → Carries carried 0x81 pdu → ShowsPdu pdu ends text after → ShowsCarried carried ends text after
  EsIs : (pdu : List ℕ) → Carries carried 0x82 pdu → ShowsHello pdu text → after ≡ ends → ShowsCarried carried ends text after

-- what is shown of the octets of a frame
abbrev pub ShowsFrame : List ℕ → List End → List ℕ → List End → Type 0
ShowsFrame octets ends text after = ShowsCarried (pdu_in octets) ends text after

-- this is shown, and is appended
pub record Appends (carried : Option (List ℕ)) (ends : List End) (old : List ℕ) (after : List End) (new : List ℕ) : Type 0 where
  pub text : List ℕ
  pub shows : ShowsCarried carried ends text after
  pub appended : new ≡ old ++ text
