-- A frame that came to a port, and the PDU that is lent from its octets.
use Rattle.std.specs.Prelude.{◌≡◌, ℕ, List, Option, Some}
use Rattle.clnp_options.specs.SourceRoute.{SourceRoute}
use Rattle.clnp_header.specs.declared.pdu.Pdu.{Pdu}
use Rattle.clnp_header.specs.declared.pdu.PduRef.{PduRef}
use Rattle.clnp_header.specs.declared.pdu.SegmentPart.{SegmentPart}
use Rattle.clnp_header.specs.Values.{value_of}
use Rattle.clnp_segment.specs.Store.{Takes as TakesSegment}
use Rattle.clnp_segment.specs.declared.store.Joined.{Joined}
use Rattle.esis_tables.specs.Rows.{Rows}
use Rattle.clnp_system.specs.Node.{Frame, Node, Reaction}
use Rattle.clnp_system.specs.Receiving.{Does, coming}
use Rattle.clnp_system.specs.Setting.{bound_of}
use Rattle.clnp_system.specs.Tables.{rows_tables}
use Rattle.clnp_system.specs.Verdicts.{verdict}
use Rattle.clnp_system.specs.SourceRouting.{IsRouteOf}
use Rattle.clnp_system.specs.Written.{HasPdu, header_in}
use Rattle.clnp_entity.specs.declared.received_frame.ReceivedFrame.{ReceivedFrame}

-- the frame
abbrev pub frame_of : ReceivedFrame → Frame
frame_of came = record { from = came.from; to = came.at; octets = came.octets.now }

-- the PDU stands at the front of the octets, and its header is lent from there
pub record Lends (octets : List ℕ) (pdu : PduRef) : Type 0 where
  pub stands : HasPdu octets (value_of pdu)
  pub header : pdu.header.now ≡ header_in octets (value_of pdu)

-- whatever its source route, what is to be done with the PDU is done
abbrev pub CarriesOut : Node Rows → ReceivedFrame → Pdu → Reaction → Node Rows → Type 0
CarriesOut old came pdu reaction new = (route : Option SourceRoute) → IsRouteOf pdu route
    → Does rows_tables old came.tick (frame_of came) pdu (verdict rows_tables old came.tick (bound_of old.setup came.at.lan) pdu route) reaction new

-- the segment that the PDU is was taken into the store
pub record Puts (old : Node Rows) (came : ReceivedFrame) (pdu : Pdu) (answer : Joined) (new : Node Rows) : Type 0 where
  pub takes : (part : SegmentPart) → pdu.segment ≡ Some part
      → TakesSegment old.store came.tick (coming (frame_of came) (bound_of old.setup came.at.lan) pdu part) answer new.store
  pub after : new ≡ record old { clock = came.tick; store = new.store }
