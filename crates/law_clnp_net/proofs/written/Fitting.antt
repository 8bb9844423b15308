-- A PDU, and what is made of one, in octets.
use Rattle.std.specs.Prelude.{◌≡◌, ◌<◌, true, length, IfSome}
use Rattle.std.specs.List.{AllByRecursion}
use Rattle.law_carrier_answers.specs.Answers.{AreOctets}
use Rattle.clnp_header.specs.declared.pdu.OwnOpt.{OwnOpt}
use Rattle.clnp_header.specs.declared.pdu.Pdu.{Pdu}
use Rattle.clnp_header.specs.declared.pdu.SegmentPart.{SegmentPart}
use Rattle.clnp_segment.specs.declared.store.Expired.{Expired}
use Rattle.clnp_system.specs.Reporting.{Discarded}
use Rattle.law_clnp_net.specs.Standing.{IsNsap}

-- the segmentation part of a PDU fits two octets a number
pub record FitsPart (part : SegmentPart) : Type 0 where
  pub id : part.id < 65536
  pub offset : part.offset < 65536
  pub total : part.total < 65536

-- an option fits a code, a length and octets
pub record FitsOption (option : OwnOpt) : Type 0 where
  pub code : option.code < 256
  pub long : length option.value < 256
  pub value : AreOctets option.value

-- all fields of a PDU fit their octets
pub record FitsOctets (pdu : Pdu) : Type 0 where
  pub destination : IsNsap pdu.destination
  pub source : IsNsap pdu.source
  pub lifetime : pdu.lifetime < 256
  pub segment : IfSome pdu.segment FitsPart
  pub options : AllByRecursion FitsOption pdu.options
  pub body : AreOctets pdu.body

-- a unit that expired
pub record FitsExpired (expired : Expired) : Type 0 where
  pub source : IsNsap expired.source
  pub header : AreOctets expired.header

-- a PDU that is discarded: where a report goes out, its source is an address, and the place has an octet
pub record FitsDiscarded (discarded : Discarded) : Type 0 where
  pub source : discarded.report ≡ true → IsNsap discarded.source
  pub place : discarded.report ≡ true → discarded.place < 256
  pub header : AreOctets discarded.header
