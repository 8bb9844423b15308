-- Discarding a PDU, and the error report (X.233, discard PDU, error reporting).
use Rattle.std.specs.Prelude.{◌≡◌, ℕ, ◌+◌, Bool, true, false, ◌&&◌, not, nat_lt, List, [], ◌∷◌, drop, take, slice_index, Option, Some, None}
use Rattle.nsap.specs.declared.port.Hop.{Hop}
use Rattle.osi_base.specs.declared.unit.Up.TheVariants.{Note as Noted}
use Rattle.osi_base.specs.declared.note.Note.TheVariants as notes
use Rattle.pdu_parts.specs.Field.{address_at}
use Rattle.clnp_options.specs.Reasons.{code_of}
use Rattle.clnp_options.specs.declared.reason.Fault.{Fault}
use Rattle.clnp_options.specs.declared.reason.PduKind.{PduKind}
use Rattle.clnp_options.specs.declared.reason.PduKind.TheVariants.{Dt, Er}
use Rattle.clnp_options.specs.declared.reason.Reason.{Reason}
use Rattle.clnp_header.specs.declared.pdu.Pdu.{Pdu}
use Rattle.clnp_header.specs.Writing.{pdu_length}
use Rattle.clnp_system.specs.declared.report.Reported.{Reported}
use Rattle.clnp_system.specs.Setting.{Setting, is_group, room_of}
use Rattle.clnp_system.specs.Tables.{Tables}
use Rattle.clnp_system.specs.Node.{Node, Frame, Reaction}
use Rattle.clnp_system.specs.Hops.{hop_of}
use Rattle.clnp_system.specs.Written.{AreFrames, header_in}

-- a PDU that is discarded: whether its source gets a report, its source, its header as received, the reason and the place
pub record Discarded : Type 0 where
  pub report : Bool
  pub source : List ℕ
  pub header : List ℕ
  pub reason : Reason
  pub place : ℕ

-- a report is wanted of a DT PDU that asks for one and did not come in a group frame
abbrev pub is_data : PduKind → Bool
is_data Dt = true
is_data Er = false

abbrev pub wants_report : Frame → Pdu → Bool
wants_report frame pdu = is_data pdu.kind && pdu.report && not (is_group frame.to.snpa)

abbrev pub discarded_pdu : Frame → Pdu → Reason → ℕ → Discarded
discarded_pdu frame pdu reason place =
    record { report = wants_report frame pdu; source = pdu.source; header = header_in frame.octets pdu; reason = reason; place = place }

-- the source address of a header, none where it does not fit
abbrev pub some_address : Option (List ℕ × List ℕ) → List ℕ
some_address None = []
some_address (Some found) = found.0

abbrev pub source_in : List ℕ → List ℕ
source_in header = some_address (address_at (drop (10 + slice_index header 9) header))

-- of octets with a fault: their header is as long as the second one says
abbrev pub faulty_header : List ℕ → List ℕ
faulty_header octets = take (slice_index octets 1) octets

abbrev pub discarded_octets : Frame → Fault → Discarded
discarded_octets frame fault = record {
  report = fault.reportable && not (is_group frame.to.snpa);
  source = source_in (faulty_header frame.octets);
  header = faulty_header frame.octets;
  reason = fault.reason;
  place = fault.place;
}

-- what is known of a discarded PDU whose source gets a report
abbrev pub discarded_of : Reported → Discarded
discarded_of pdu = record { report = true; source = pdu.source; header = pdu.header.now; reason = pdu.reason; place = pdu.place }

-- the report: an ER PDU from the own title, with the initial lifetime and the reason, whose data is the header
abbrev pub report_pdu : Setting → Discarded → Pdu
report_pdu setting discarded = record {
  kind = Er;
  destination = discarded.source;
  source = setting.title;
  lifetime = setting.life;
  checksum_used = true;
  report = false;
  segment = None;
  options = record { code = 0xc1; value = code_of discarded.reason ∷ discarded.place ∷ [] } ∷ [];
  body = discarded.header;
}

-- one frame, where it is within the room
abbrev pub FitsOne : Setting → Hop → Pdu → Bool → List Frame → Type 0
FitsOne setting hop pdu true frames = frames ≡ []
FitsOne setting hop pdu false frames = AreFrames setting hop.port (pdu ∷ []) frames

-- none without a hop, or where it passes the room
abbrev pub GoesBy : Setting → Option Hop → Pdu → List Frame → Type 0
GoesBy setting None pdu frames = frames ≡ []
GoesBy setting (Some hop) pdu frames = FitsOne setting hop pdu (nat_lt (room_of setting hop.port.lan) (pdu_length pdu)) frames

abbrev pub ReportsIf : {N : Type 0} → Bool → Tables N → Node N → ℕ → Discarded → List Frame → Type 0
ReportsIf false tables node now discarded frames = frames ≡ []
ReportsIf true tables node now discarded frames =
    GoesBy node.setup (hop_of tables node now discarded.source) (report_pdu node.setup discarded) frames

-- the frames of the report: none where none is wanted, it finds no hop, or it passes the room
abbrev pub Reports : {N : Type 0} → Tables N → Node N → ℕ → Discarded → List Frame → Type 0
Reports tables node now discarded frames = ReportsIf discarded.report tables node now discarded frames

-- the note, and the report
pub record Discards {N : Type 0} (tables : Tables N) (node : Node N) (now : ℕ) (discarded : Discarded) (reaction : Reaction) : Type 0 where
  pub told : reaction.ups ≡ Noted (notes.Discard node.setup.system (code_of discarded.reason) discarded.place) ∷ []
  pub reports : Reports tables node now discarded reaction.frames
