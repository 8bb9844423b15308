-- The values of PDUs: options that are owned, and a PDU apart from the octets that it was read from.
use Rattle.std.specs.Prelude.{Bool, true, false, List, map, Option, Some, None}
use Rattle.pdu_parts.specs.Parameter.{Parameter}
use Rattle.clnp_options.specs.Options.{listed}
use Rattle.clnp_header.specs.declared.pdu.OwnOpt.{OwnOpt}
use Rattle.clnp_header.specs.declared.pdu.Pdu.{Pdu}
use Rattle.clnp_header.specs.declared.pdu.PduRef.{PduRef}
use Rattle.clnp_header.specs.declared.pdu.SegmentPart.{SegmentPart}

-- an option that is owned, as its code and its value, and back
abbrev pub parameter : OwnOpt → Parameter
parameter option = record { code = option.code; value = option.value }

abbrev pub own : Parameter → OwnOpt
own option = record { code = option.code; value = option.value }

abbrev pub parameters : List OwnOpt → List Parameter
parameters options = map parameter options

-- a PDU apart from the octets that it was read from
abbrev pub value_of : PduRef → Pdu
value_of pdu = record {
  kind = pdu.kind;
  destination = pdu.destination;
  source = pdu.source;
  lifetime = pdu.lifetime;
  checksum_used = pdu.checksum_used;
  report = pdu.report;
  segment = pdu.segment;
  options = map own (listed pdu.options);
  body = pdu.body.now;
}

-- whether there is a segmentation part, and whether more segments follow
abbrev pub is_segment : Option SegmentPart → Bool
is_segment None = false
is_segment (Some part) = true

abbrev pub is_followed : Option SegmentPart → Bool
is_followed None = false
is_followed (Some part) = part.more
