-- What a system does with a PDU, apart from doing it: steps 1 to 5 (X.233, header format analysis, lifetime control, source routing, route PDU).
use Rattle.std.specs.Prelude.{ℕ, ◌==◌, Bool, false, ◌&&◌, ◌||◌, not, nat_eq, nat_lt, nat_le, if◌then◌else◌, List, Option, Some, None}
use Rattle.std.specs.Cmp.Lexicographic.{pointwise}
use Rattle.nsap.specs.Address.{selector_of}
use Rattle.nsap.specs.declared.port.Hop.{Hop}
use Rattle.clnp_options.specs.SourceRoute.{SourceRoute}
use Rattle.clnp_options.specs.declared.reason.PduKind.{PduKind}
use Rattle.clnp_options.specs.declared.reason.PduKind.TheVariants.{Dt, Er}
use Rattle.clnp_options.specs.declared.reason.Reason.TheVariants.{DestinationUnknown, DestinationUnreachable, LifetimeExpiredInTransit, PathNotAcceptable, SourceRoutingUnknownAddress}
use Rattle.clnp_header.specs.declared.pdu.Pdu.{Pdu}
use Rattle.clnp_header.specs.declared.pdu.SegmentPart.{SegmentPart}
use Rattle.clnp_system.specs.declared.source_routing.Aim.{Aim}
use Rattle.clnp_system.specs.declared.source_routing.Aim.TheVariants.{Free, Entry, Forbidden}
use Rattle.clnp_system.specs.declared.verdict.Verdict.{Verdict}
use Rattle.clnp_system.specs.declared.verdict.Verdict.TheVariants.{Discard, Tell, Take, Join, Onward}
use Rattle.clnp_system.specs.Setting.{Setting, is_own_system}
use Rattle.clnp_system.specs.Tables.{Tables}
use Rattle.clnp_system.specs.Node.{Node}
use Rattle.clnp_system.specs.Hops.{hop_of, hop_to}
use Rattle.clnp_system.specs.SourceRouting.{aim_of}

-- the hop has that title
abbrev pub is_titled : Option (List ℕ) → List ℕ → Bool
is_titled None title = false
is_titled (Some found) title = pointwise nat_eq found title

-- step 5: no hop for the destination; no hop for an entry, or in a complete route one of another title
abbrev pub to_destination : Option Hop → Verdict
to_destination None = Discard DestinationUnreachable 0
to_destination (Some hop) = Onward hop

abbrev pub to_entry : Bool → List ℕ → Option Hop → Verdict
to_entry complete title None = Discard SourceRoutingUnknownAddress 0
to_entry complete title (Some hop) = if complete && not (is_titled hop.title title) then Discard PathNotAcceptable 0 else Onward hop

abbrev pub by_aim : {N : Type 0} → Tables N → Node N → ℕ → List ℕ → Aim → Verdict
by_aim tables node now destination Free = to_destination (hop_of tables node now destination)
by_aim tables node now destination (Entry title complete) = to_entry complete title (hop_to tables node now title)
by_aim tables node now destination Forbidden = Discard PathNotAcceptable 0

-- step 1, for a destination in this system
abbrev pub whole_or_part : Option SegmentPart → Verdict
whole_or_part None = Take
whole_or_part (Some part) = Join

abbrev pub for_this : Setting → Pdu → PduKind → Verdict
for_this setting pdu Er = Tell
for_this setting pdu Dt =
    if not setting.end || not (selector_of pdu.destination == 1 || selector_of pdu.destination == 2) then Discard DestinationUnknown 0
    else whole_or_part pdu.segment

-- the first that applies; the bound is that of the LAN on which it came, and place 4 that of the lifetime
abbrev pub verdict : {N : Type 0} → Tables N → Node N → ℕ → ℕ → Pdu → Option SourceRoute → Verdict
verdict tables node now bound pdu route =
    if is_own_system node.setup pdu.destination
    then (if nat_lt pdu.lifetime bound then Discard LifetimeExpiredInTransit 4 else for_this node.setup pdu pdu.kind)
    else if node.setup.end then Discard DestinationUnreachable 0
    else if nat_le pdu.lifetime bound then Discard LifetimeExpiredInTransit 4
    else by_aim tables node now pdu.destination (aim_of node.setup route)
