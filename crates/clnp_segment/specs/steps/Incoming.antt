-- A segment that came, as the code hands it on.
use Rattle.clnp_segment.specs.Store.{Coming, coming_of}
use Rattle.clnp_segment.specs.declared.unit.Incoming.{Incoming}

abbrev pub incoming_of : Incoming → Coming
incoming_of incoming = coming_of incoming.pdu.now incoming.part incoming.left incoming.reportable
