-- What may be written can be: a PDU in its frame, and a hello in its frame, in octets.
use Rattle.std.proofs.Common.{ℕ, ◌<◌, ◌≤◌, Bool, true, false, List, [], ◌∷◌, ◌++◌, length, Option, Some, None, refl, arith}
use Rattle.std.specs.Prelude.{IfSome, IsSome}
use Rattle.std.specs.List.{AllByRecursion, flat_map}
use Rattle.nsap.specs.declared.port.Port.{Port}
use Rattle.pdu_parts.specs.Field.{IsAddress, field}
use Rattle.pdu_parts.specs.Number.{two_octets}
use Rattle.pdu_parts.specs.Parameter.{spelled}
use Rattle.law_carrier_answers.specs.Answers.{AreOctets}
use Rattle.clnp_options.specs.declared.reason.PduKind.{PduKind}
use Rattle.clnp_options.specs.declared.reason.PduKind.TheVariants.{Dt, Er}
use Rattle.clnp_header.specs.declared.pdu.OwnOpt.{OwnOpt}
use Rattle.clnp_header.specs.declared.pdu.Pdu.{Pdu}
use Rattle.clnp_header.specs.declared.pdu.SegmentPart.{SegmentPart}
use Rattle.clnp_header.specs.Flags.{written_flags}
use Rattle.clnp_header.specs.Grammar.{segment_part}
use Rattle.clnp_header.specs.Values.{parameters}
use Rattle.clnp_header.specs.Writing.{IsWritten, SealsIf, header_length, pdu_length, plain_header}
use Rattle.clnp_header.proofs.Written.{is_pdu}
use Rattle.esis_pdu.specs.declared.hello.Hello.{Hello}
use Rattle.esis_pdu.specs.declared.hello.Hello.TheVariants.{Esh, Ish, Rd}
use Rattle.esis_pdu.specs.Hellos.{IsAddressed, hold_of, parts, size_of, title_field, type_of}
use Rattle.esis_pdu.specs.steps.Writing.{draft_part}
use Rattle.esis_pdu.proofs.Drafts.{sealed_is_written, written_is_pdu}
use Rattle.esis_pdu.proofs.Lengths.{count_within}
use Rattle.clnp_system.specs.Node.{Frame}
use Rattle.clnp_system.specs.Setting.{Setting, port_on}
use Rattle.clnp_system.specs.Written.{IsHelloFrame, IsPduFrame, MayBeWritten}
use Rattle.law_clnp_net.specs.Standing.{IsNsap, IsSnpa}
use Rattle.law_clnp_net.proofs.written.Fitting.{FitsOctets, FitsOption, FitsPart}
use Rattle.law_clnp_net.proofs.written.Octets.{octets_both, octets_field, some_of, two_are_octets}
use Rattle.law_clnp_net.proofs.written.Seals.{seal, sealed_octets}

-- ---- the header of a PDU

sealed_if : (used : Bool) (plain : List ℕ) → 9 ≤ length plain → AreOctets plain → (header : List ℕ) × SealsIf used plain header × AreOctets header
sealed_if false plain long octets = (plain, refl, octets)
sealed_if true plain long octets = let s = seal plain 7 long in (s.0, s.1, sealed_octets plain 7 s.0 octets s.1)

flags_fit : (kind : PduKind) (segment : Option SegmentPart) (report : Bool) → written_flags kind segment report < 256
flags_fit Er segment report = omega arith
flags_fit Dt None true = omega arith
flags_fit Dt None false = omega arith
flags_fit Dt (Some part) report = by part.more report
  where
    by : (more report : Bool) → Rattle.clnp_header.specs.Flags.flags_octet true more report 0x1c < 256
    by true true = omega arith
    by true false = omega arith
    by false true = omega arith
    by false false = omega arith

segment_octets : (segment : Option SegmentPart) → IfSome segment FitsPart → AreOctets (segment_part segment)
segment_octets None h = tt
segment_octets (Some part) h =
    octets_both (two_octets part.id) (two_octets part.offset ++ two_octets part.total) (two_are_octets part.id h.id)
    (octets_both (two_octets part.offset) (two_octets part.total) (two_are_octets part.offset h.offset) (two_are_octets part.total h.total))

options_octets : (options : List OwnOpt) → AllByRecursion FitsOption options → AreOctets (spelled (parameters options))
options_octets [] h = tt
options_octets (option ∷ options) h = (h.0.code, (h.0.long, octets_both option.value (spelled (parameters options)) h.0.value (options_octets options h.1)))

address_octets : (address : List ℕ) → IsNsap address → AreOctets (field address)
address_octets address h = octets_field address (omega (arith, h.is.most)) h.octets

plain_octets : (pdu : Pdu) → FitsOctets pdu → header_length pdu ≤ 254 → pdu_length pdu ≤ 65535 → AreOctets (plain_header pdu)
plain_octets pdu h short whole =
    let two = two_are_octets (pdu_length pdu) (omega (arith, whole)) in
    let behind =
    octets_both (field pdu.destination) (field pdu.source ++ (segment_part pdu.segment ++ spelled (parameters pdu.options))) (address_octets pdu.destination h.destination)
    (octets_both (field pdu.source) (segment_part pdu.segment ++ spelled (parameters pdu.options)) (address_octets pdu.source h.source)
    (octets_both (segment_part pdu.segment) (spelled (parameters pdu.options)) (segment_octets pdu.segment h.segment) (options_octets pdu.options h.options))) in
    (omega arith, (omega (arith, short), (omega arith, (h.lifetime, (flags_fit pdu.kind pdu.segment pdu.report, (two.0, (two.1.0, (omega arith, (omega arith, behind)))))))))

pub pdu_frame : (setting : Setting) (to : Port) (pdu : Pdu) → IsSome (port_on setting to.lan) → MayBeWritten pdu → FitsOctets pdu
    → (frame : Frame) × IsPduFrame setting to pdu frame × AreOctets frame.octets
pdu_frame setting to pdu port may fits =
    let own = some_of (port_on setting to.lan) port in
    let plain = plain_header pdu in
    let s = sealed_if pdu.checksum_used plain (omega arith) (plain_octets pdu fits may.header may.whole) in
    let octets : List ℕ = s.0 ++ pdu.body in
    let written : IsWritten pdu octets = record { header = s.0; sealed = s.1; whole = refl } in
    let is = is_pdu pdu octets written (record { header_fits = may.header; pdu_fits = may.whole; destination = fits.destination.is; source = fits.source.is }) may.writable in
    (record { from = own.0; to = to; octets = octets }, record { goes = record { from = own.1; to_is = refl }; is_pdu = is; written = written }, octets_both s.0 pdu.body s.2 fits.body)

-- ---- a hello

titles_octets : (titles : List (List ℕ)) → AllByRecursion IsNsap titles → AreOctets (flat_map field titles)
titles_octets [] h = tt
titles_octets (title ∷ titles) h = octets_both (field title) (flat_map field titles) (address_octets title h.0) (titles_octets titles h.1)

title_octets : (title : Option (List ℕ)) → IfSome title IsNsap → AreOctets (title_field title)
title_octets None h = (omega arith, tt)
title_octets (Some title) h = address_octets title h

-- the parts of a hello, in octets
abbrev pub FitsHello : Hello → Type 0
FitsHello (Esh hold addresses) = AllByRecursion IsNsap addresses
FitsHello (Ish hold title) = IsNsap title
FitsHello (Rd hold address snpa title) = IsNsap address × IsSnpa snpa × IfSome title IsNsap

-- a hello that may be written
pub record MayBeHello (hello : Hello) : Type 0 where
  pub fits : FitsHello hello
  pub hold : hold_of hello < 65536
  pub size : size_of hello ≤ 254

all_addresses : (addresses : List (List ℕ)) → AllByRecursion IsNsap addresses → AllByRecursion IsAddress addresses
all_addresses [] h = tt
all_addresses (address ∷ addresses) h = (h.0.is, all_addresses addresses h.1)

title_address : (title : Option (List ℕ)) → IfSome title IsNsap → IfSome title IsAddress
title_address None h = tt
title_address (Some title) h = h.is

addressed : (hello : Hello) → FitsHello hello → IsAddressed hello
addressed (Esh hold addresses) h = all_addresses addresses h
addressed (Ish hold title) h = h.is
addressed (Rd hold address snpa title) h = (h.0.is, h.1.six, title_address title h.2)

parts_octets : (hello : Hello) → FitsHello hello → size_of hello ≤ 254 → AreOctets (parts hello)
parts_octets (Esh hold addresses) h size = (omega (arith, size, count_within addresses), titles_octets addresses h)
parts_octets (Ish hold title) h size = address_octets title h
parts_octets (Rd hold address snpa title) h size =
    octets_both (field address ++ field snpa) (title_field title) (octets_both (field address) (field snpa) (address_octets address h.0) (octets_field snpa (omega (arith, h.1.six)) h.1.octets))
    (title_octets title h.2)

type_fits : (hello : Hello) → type_of hello < 256
type_fits (Esh hold addresses) = omega arith
type_fits other = omega arith

pub hello_frame : (setting : Setting) (to : Port) (hello : Hello) → IsSome (port_on setting to.lan) → MayBeHello hello
    → (frame : Frame) × IsHelloFrame setting to hello frame × AreOctets frame.octets
hello_frame setting to hello port may =
    let own = some_of (port_on setting to.lan) port in
    let draft : List ℕ = draft_part (size_of hello) hello ++ parts hello in
    let two = two_are_octets (hold_of hello) may.hold in
    let fits : AreOctets draft =
    (omega arith, (omega (arith, may.size), (omega arith, (omega arith, (type_fits hello, (two.0, (two.1.0, (omega arith, (omega arith, parts_octets hello may.fits may.size))))))))) in
    let s = seal draft 7 (omega arith) in
    let written = sealed_is_written draft hello s.0 refl s.1 in (
      record { from = own.0; to = to; octets = s.0 },
      record { goes = record { from = own.1; to_is = refl }; is_hello = written_is_pdu hello s.0 (addressed hello may.fits) may.size written; written = written },
      sealed_octets draft 7 s.0 fits s.1,
    )
