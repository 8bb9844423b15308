-- A frame that came (X.233, PDU header analysis to reassembly; ISO 9542, PDU header analysis), in the order of its tests.
use Rattle.std.specs.Prelude.{◌≡◌, ◌≢◌, ℕ, ◌-◌, List, [], ◌∷◌, length, slice_index, Option, Some, None}
use Rattle.nsap.specs.declared.port.Port.{Port}
use Rattle.osi_base.specs.declared.unit.Up.{Up}
use Rattle.osi_base.specs.declared.unit.Up.TheVariants.{Unit as Came, Note as Noted}
use Rattle.osi_base.specs.declared.note.Note.TheVariants as notes
use Rattle.pdu_parts.specs.Front.{BeginsWith}
use Rattle.clnp_options.specs.Options.{value_of}
use Rattle.clnp_options.specs.SourceRoute.{SourceRoute}
use Rattle.clnp_options.specs.declared.reason.Fault.{Fault}
use Rattle.clnp_options.specs.declared.reason.Reason.TheVariants.{Congestion, ReassemblyInterference, SegmentationNeeded}
use Rattle.clnp_header.specs.declared.pdu.Pdu.{Pdu}
use Rattle.clnp_header.specs.declared.pdu.SegmentPart.{SegmentPart}
use Rattle.clnp_header.specs.Faults.{IsPduFault}
use Rattle.clnp_header.specs.Values.{parameters}
use Rattle.clnp_segment.specs.Store.{Coming, Holding, Takes as TakesSegment}
use Rattle.clnp_segment.specs.declared.store.Joined.{Joined}
use Rattle.clnp_segment.specs.declared.store.Joined.TheVariants as joined
use Rattle.esis_pdu.specs.declared.fault.EsisFault.{EsisFault}
use Rattle.esis_pdu.specs.Faults.{IsEsisFault}
use Rattle.esis_pdu.specs.Hellos.{Esis, IsEsis}
use Rattle.clnp_system.specs.declared.verdict.Verdict.{Verdict}
use Rattle.clnp_system.specs.declared.verdict.Verdict.TheVariants.{Discard, Tell, Take, Join, Onward}
use Rattle.clnp_system.specs.Setting.{bound_of, port_on}
use Rattle.clnp_system.specs.Tables.{Tables}
use Rattle.clnp_system.specs.Node.{Node, Frame, Reaction, at_tick}
use Rattle.clnp_system.specs.Written.{HasPdu, header_in}
use Rattle.clnp_system.specs.Verdicts.{verdict}
use Rattle.clnp_system.specs.SourceRouting.{IsRouteOf}
use Rattle.clnp_system.specs.Reporting.{Discards, discarded_octets, discarded_pdu, wants_report}
use Rattle.clnp_system.specs.Hellos.{AnswersGroup, sender}
use Rattle.clnp_system.specs.Forwarding.{GoesOnward}
use Rattle.clnp_system.specs.Hearing.{Hears, cause_of, only_note}

-- a unit comes up
abbrev pub came : {N : Type 0} → Node N → Pdu → List ℕ → List (Up (List ℕ))
came node pdu octets = Came (record { system = node.setup.system; unit = record { from = pdu.source; to = pdu.destination; octets = octets } }) ∷ []

-- the two octets of the reason that an ER PDU gives
abbrev pub told_reason : ℕ → Option (List ℕ) → Up (List ℕ)
told_reason system None = Noted (notes.Report system 0 0)
told_reason system (Some value) = Noted (notes.Report system (slice_index value 0) (slice_index value 1))

-- a segment as the store takes it; the lifetime that is left is what the bound of the LAN leaves
abbrev pub coming : Frame → ℕ → Pdu → SegmentPart → Coming
coming frame bound pdu part = record {
  key = record { source = pdu.source; destination = pdu.destination; id = part.id };
  segment = record { offset = part.offset; octets = pdu.body; header = length (header_in frame.octets pdu); total = part.total };
  left = pdu.lifetime - bound;
  reportable = wants_report frame pdu;
  header = header_in frame.octets pdu;
}

-- what comes of a segment, by the store's answer
abbrev pub JoinGives : {N : Type 0} → Tables N → Node N → ℕ → Frame → Pdu → Joined → Reaction → Type 0
JoinGives tables node now frame pdu joined.Interference reaction =
    Discards tables node now (discarded_pdu frame pdu ReassemblyInterference 0) reaction
JoinGives tables node now frame pdu joined.Full reaction = Discards tables node now (discarded_pdu frame pdu Congestion 0) reaction
JoinGives tables node now frame pdu (joined.Whole octets) reaction =
    (reaction.ups ≡ came node pdu octets) × AnswersGroup node.setup frame.from frame.to reaction.frames
JoinGives tables node now frame pdu joined.Held reaction =
    (reaction.ups ≡ []) × AnswersGroup node.setup frame.from frame.to reaction.frames

pub record Joins {N : Type 0} (tables : Tables N) (old : Node N) (now : ℕ) (frame : Frame) (pdu : Pdu) (reaction : Reaction) (new : Node N) : Type 0 where
  pub part : SegmentPart
  pub is : pdu.segment ≡ Some part
  pub answer : Joined
  pub store : Holding
  pub takes : TakesSegment old.store now (coming frame (bound_of old.setup frame.to.lan) pdu part) answer store
  pub gives : JoinGives tables old now frame pdu answer reaction
  pub after : new ≡ record old { clock = now; store = store }

-- a verdict is carried out
abbrev pub Does : {N : Type 0} → Tables N → Node N → ℕ → Frame → Pdu → Verdict → Reaction → Node N → Type 0
Does tables old now frame pdu (Discard reason place) reaction new =
    Discards tables old now (discarded_pdu frame pdu reason place) reaction × (new ≡ at_tick now old)
Does tables old now frame pdu Tell reaction new =
    (reaction ≡ only_note (told_reason old.setup.system (value_of 0xc1 (parameters pdu.options)))) × (new ≡ at_tick now old)
Does tables old now frame pdu Take reaction new =
    (reaction.ups ≡ came old pdu pdu.body) × AnswersGroup old.setup frame.from frame.to reaction.frames × (new ≡ at_tick now old)
Does tables old now frame pdu Join reaction new = Joins tables old now frame pdu reaction new
Does tables old now frame pdu (Onward hop) reaction new =
    GoesOnward tables old now frame pdu hop (discarded_pdu frame pdu SegmentationNeeded 0) reaction × (new ≡ at_tick now old)

-- a frame on a LAN without a port, one with octets that are neither 81 nor 82 in front, a PDU with a fault, a PDU, a hello with a fault, a hello
pub data Receives {N : Type 0} (tables : Tables N) (old : Node N) (now : ℕ) (frame : Frame) (reaction : Reaction) (new : Node N) : Type 0 where
  Elsewhere : port_on old.setup frame.to.lan ≡ None → reaction ≡ record { ups = []; frames = [] } → new ≡ at_tick now old
      → Receives tables old now frame reaction new
  Alien : (own : Port) → port_on old.setup frame.to.lan ≡ Some own → slice_index frame.octets 0 ≢ 0x81 → slice_index frame.octets 0 ≢ 0x82
      → reaction ≡ only_note (Noted (notes.Alien old.setup.system)) → new ≡ at_tick now old → Receives tables old now frame reaction new
  Faulty : (own : Port) (fault : Fault) → port_on old.setup frame.to.lan ≡ Some own → slice_index frame.octets 0 ≡ 0x81 → IsPduFault frame.octets fault
      → Discards tables old now (discarded_octets frame fault) reaction → new ≡ at_tick now old → Receives tables old now frame reaction new
  Reads : (own : Port) (pdu : Pdu) (route : Option SourceRoute) → port_on old.setup frame.to.lan ≡ Some own
      → HasPdu frame.octets pdu → IsRouteOf pdu route
      → Does tables old now frame pdu (verdict tables old now (bound_of old.setup frame.to.lan) pdu route) reaction new
      → Receives tables old now frame reaction new
  BadHello : (own : Port) (fault : EsisFault) → port_on old.setup frame.to.lan ≡ Some own → slice_index frame.octets 0 ≡ 0x82 → IsEsisFault frame.octets fault
      → reaction ≡ only_note (Noted (notes.BadHello old.setup.system (cause_of fault))) → new ≡ at_tick now old → Receives tables old now frame reaction new
  HearsHello : (own : Port) (heard : Esis) (rest : List ℕ) → port_on old.setup frame.to.lan ≡ Some own → BeginsWith IsEsis frame.octets heard rest
      → Hears tables old now (sender frame.from frame.to) heard.hello reaction new → Receives tables old now frame reaction new
