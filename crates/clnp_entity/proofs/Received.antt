-- What comes of a frame, by its first octet and by what stands at its front.
use Rattle.std.proofs.Common.{◌≡◌, ◌≢◌, ℕ, List, [], map, Option, Some, None, refl, sym, ap, ◌∙◌, subst}
use Rattle.std.specs.Prelude.{IsSome, slice_index}
use Rattle.osi_base.specs.declared.unit.Up.{Up}
use Rattle.osi_base.specs.declared.unit.Up.TheVariants.{Note as Noted}
use Rattle.osi_base.specs.declared.note.Note.{Note}
use Rattle.osi_base.specs.declared.note.Note.TheVariants as notes
use Rattle.nsap.specs.declared.port.Port.{Port}
use Rattle.pdu_parts.specs.Front.{BeginsWith}
use Rattle.esis_pdu.specs.declared.fault.EsisFault.{EsisFault}
use Rattle.esis_pdu.specs.declared.hello.HelloRef.{HelloRef}
use Rattle.esis_pdu.specs.Faults.{IsEsisFault}
use Rattle.esis_pdu.specs.Hellos.{IsEsis}
use Rattle.esis_pdu.specs.Lent.{esis_of, value_of}
use Rattle.esis_tables.specs.Rows.{Rows}
use Rattle.nsap.specs.declared.port.Hop.{Hop}
use Rattle.clnp_options.specs.declared.reason.Fault.{Fault}
use Rattle.clnp_options.specs.Options.{listed, value_of as option_of}
use Rattle.clnp_options.specs.SourceRoute.{HasSourceRoute, SourceRoute}
use Rattle.clnp_header.specs.declared.pdu.Pdu.{Pdu}
use Rattle.clnp_header.specs.declared.pdu.PduRef.{PduRef}
use Rattle.clnp_header.specs.Faults.{IsPduFault}
use Rattle.clnp_header.specs.Values.{own, parameters}
use Rattle.clnp_header.specs.Values as pdus
use Rattle.clnp_header.proofs.Found.{parameters_again}
use Rattle.clnp_system.specs.Forwarding.{Forwards, GoesOnward, Sent}
use Rattle.clnp_system.specs.Hearing.{Hears, cause_of, only_note}
use Rattle.clnp_system.specs.Hellos.{sender}
use Rattle.clnp_system.specs.Node.{Frame, Node, Reaction, at_tick}
use Rattle.clnp_system.specs.Receiving.{Alien, BadHello, Faulty, HearsHello, Reads, Receives, told_reason}
use Rattle.clnp_system.specs.Reporting.{Discarded, Discards, discarded_octets}
use Rattle.clnp_system.specs.SourceRouting.{IsRoute, IsRouteOf}
use Rattle.clnp_system.specs.Written.{HasPdu, WasRead}
use Rattle.clnp_system.proofs.Aims.{route_there}
use Rattle.clnp_system.specs.Setting.{port_on}
use Rattle.clnp_system.specs.Tables.{rows_tables}
use Rattle.clnp_entity.specs.declared.received_frame.ReceivedFrame.{ReceivedFrame}
use Rattle.clnp_entity.specs.steps.Came.{CarriesOut, frame_of}
use Rattle.clnp_entity.proofs.Joining.{some_is}

-- a PDU goes onward in frames
pub goes_sent : (inside old : Node Rows) (came : ReceivedFrame) (pdu : Pdu) (hop : Hop) (discarded : Discarded) (ups : List (Up (List ℕ))) (frames : List Frame) → inside ≡ old
    → Forwards inside.setup came.from came.at pdu hop (Some frames) → ups ≡ []
    → GoesOnward rows_tables old came.tick (frame_of came) pdu hop discarded (record { ups = ups; frames = frames })
goes_sent inside old came pdu hop discarded ups frames same forwards none =
    Sent frames (subst (λ (node : Node Rows). Forwards node.setup came.from came.at pdu hop (Some frames)) same forwards)
    (λ i. record { ups = none i; frames = frames })

-- the reason that an ER PDU gives
pub reason_told : (system own : ℕ) (note : Note) (given found : Option (List ℕ)) → system ≡ own → Noted note ≡ told_reason system given → given ≡ found
    → Noted note ≡ told_reason own found
reason_told system own note given found same is e = is ∙ (λ i. told_reason (same i) (e i))

pub hears_hello : (old new : Node Rows) (came : ReceivedFrame) (from : Port) (hello : HelloRef) (reaction : Reaction) → IsSome (port_on old.setup came.at.lan)
    → ((rest : List ℕ) × BeginsWith IsEsis came.octets.now (esis_of hello) rest) → from ≡ sender came.from came.at
    → Hears rows_tables old came.tick from (value_of hello) reaction new → Receives rows_tables old came.tick (frame_of came) reaction new
hears_hello old new came from hello reaction port begins is hears =
    let own = some_is (port_on old.setup came.at.lan) port in
    HearsHello own.0 (esis_of hello) begins.0 own.1 begins.1 (subst (λ (p : Port). Hears rows_tables old came.tick p (value_of hello) reaction new) is hears)

pub bad_hello : (old new : Node Rows) (came : ReceivedFrame) (fault : EsisFault) (note : Note) (reaction : Reaction) → IsSome (port_on old.setup came.at.lan)
    → slice_index came.octets.now 0 ≡ 0x82 → IsEsisFault came.octets.now fault → note ≡ notes.BadHello old.setup.system (cause_of fault)
    → reaction ≡ only_note (Noted note) → new ≡ at_tick came.tick old → Receives rows_tables old came.tick (frame_of came) reaction new
bad_hello old new came fault note reaction port first is noted told after =
    let own = some_is (port_on old.setup came.at.lan) port in
    BadHello own.0 fault own.1 first is (told ∙ ap (λ (n : Note). only_note (Noted n)) noted) after

-- octets of another protocol
pub alien : (old new : Node Rows) (came : ReceivedFrame) (first system : ℕ) (reaction : Reaction) → IsSome (port_on old.setup came.at.lan) → first ≡ slice_index came.octets.now 0
    → first ≢ 0x81 → first ≢ 0x82 → system ≡ old.setup.system → reaction ≡ only_note (Noted (notes.Alien system)) → new ≡ at_tick came.tick old
    → Receives rows_tables old came.tick (frame_of came) reaction new
alien old new came first system reaction port is other another same told after =
    let own = some_is (port_on old.setup came.at.lan) port in
    Alien own.0 own.1 (λ e. other (is ∙ e)) (λ e. another (is ∙ e)) (told ∙ ap (λ (s : ℕ). only_note (Noted (notes.Alien s))) same) after

-- a PDU with a fault
pub faulty_pdu : (old new : Node Rows) (came : ReceivedFrame) (fault : Fault) (reaction : Reaction) → IsSome (port_on old.setup came.at.lan) → slice_index came.octets.now 0 ≡ 0x81
    → IsPduFault came.octets.now fault → Discards rows_tables old came.tick (discarded_octets (frame_of came) fault) reaction → new ≡ at_tick came.tick old
    → Receives rows_tables old came.tick (frame_of came) reaction new
faulty_pdu old new came fault reaction port first is discards after =
    let own = some_is (port_on old.setup came.at.lan) port in Faulty own.0 fault own.1 first is discards after

-- the route of a PDU that was read
route_or_none : (value : Option (List ℕ)) → ((octets : List ℕ) → value ≡ Some octets → HasSourceRoute octets) → (route : Option SourceRoute) × IsRoute value route
route_or_none None there = (None, tt)
route_or_none (Some octets) there = let found = there octets refl in (Some found.0, found.1)

route_of : (pdu : PduRef) → WasRead pdu → (route : Option SourceRoute) × IsRouteOf (pdus.value_of pdu) route
route_of pdu read = route_or_none (option_of 0xc8 (parameters (map own (listed pdu.options)))) (λ octets e. route_there pdu octets read
    (ap (option_of 0xc8) (sym (parameters_again (listed pdu.options))) ∙ e))

-- a PDU that was read
pub reads_pdu : (old new : Node Rows) (came : ReceivedFrame) (pdu : PduRef) (reaction : Reaction) → IsSome (port_on old.setup came.at.lan) → HasPdu came.octets.now (pdus.value_of pdu)
    → CarriesOut old came (pdus.value_of pdu) reaction new → Receives rows_tables old came.tick (frame_of came) reaction new
reads_pdu old new came pdu reaction port stands does =
    let own = some_is (port_on old.setup came.at.lan) port in
    let route = route_of pdu (came.octets.now, stands) in
    Reads own.0 (pdus.value_of pdu) route.0 own.1 stands route.1 (does route.0 route.1)
