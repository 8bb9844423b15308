-- A PDU that is discarded, over the octets that came.
use Rattle.clnp_system.specs.Reporting.{Discarded}
use Rattle.clnp_entity.specs.declared.reporting.DiscardedPdu.{DiscardedPdu}

abbrev pub lost_pdu : DiscardedPdu → Discarded
lost_pdu lost = record { report = lost.wanted; source = lost.source; header = lost.header.now; reason = lost.reason; place = lost.place }
