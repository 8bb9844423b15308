-- What is read from octets fits octets.
use Rattle.std.proofs.Common.{◌≡◌, ℕ, ◌<◌, List, [], ◌∷◌, ◌++◌, length, Option, Some, None, refl, subst, arith}
use Rattle.std.specs.Prelude.{IfSome}
use Rattle.std.specs.List.{AllByRecursion, flat_map}
use Rattle.pdu_parts.specs.Field.{IsAddress, field}
use Rattle.pdu_parts.specs.Front.{BeginsWith}
use Rattle.pdu_parts.specs.Number.{two_octets}
use Rattle.pdu_parts.specs.Parameter.{spelled}
use Rattle.law_carrier_answers.specs.Answers.{AreOctets}
use Rattle.clnp_header.specs.declared.pdu.OwnOpt.{OwnOpt}
use Rattle.clnp_header.specs.declared.pdu.Pdu.{Pdu}
use Rattle.clnp_header.specs.declared.pdu.SegmentPart.{SegmentPart}
use Rattle.clnp_header.specs.Grammar.{IsPdu, fixed_part, segment_part, variable_part}
use Rattle.clnp_header.specs.Values.{parameters}
use Rattle.esis_pdu.specs.declared.hello.Hello.{Hello}
use Rattle.esis_pdu.specs.declared.hello.Hello.TheVariants.{Esh, Ish, Rd}
use Rattle.esis_pdu.specs.Hellos.{Esis, IsAddressed, IsEsis, hold_of, parts, title_field}
use Rattle.clnp_system.specs.Written.{HasPdu}
use Rattle.law_clnp_net.specs.Standing.{IsNsap}
use Rattle.law_clnp_net.proofs.written.Fitting.{FitsOctets, FitsOption, FitsPart}
use Rattle.law_clnp_net.proofs.written.Octets.{octets_back, octets_front, two_fit}
use Rattle.law_clnp_net.proofs.written.Writes.{FitsHello}

-- ---- a PDU

segment_fits : (segment : Option SegmentPart) → AreOctets (segment_part segment) → IfSome segment FitsPart
segment_fits None h = tt
segment_fits (Some part) h =
    let rest = octets_back (two_octets part.id) (two_octets part.offset ++ two_octets part.total) h in
    record {
      id = two_fit part.id (octets_front (two_octets part.id) (two_octets part.offset ++ two_octets part.total) h);
      offset = two_fit part.offset (octets_front (two_octets part.offset) (two_octets part.total) rest);
      total = two_fit part.total (octets_back (two_octets part.offset) (two_octets part.total) rest);
    }

options_fit : (options : List OwnOpt) → AreOctets (spelled (parameters options)) → AllByRecursion FitsOption options
options_fit [] h = tt
options_fit (option ∷ options) h = (
  record { code = h.0; long = h.1.0; value = octets_front option.value (spelled (parameters options)) h.1.1 },
  options_fit options (octets_back option.value (spelled (parameters options)) h.1.1),
)

behind_fits : (pdu : Pdu) (options : List ℕ) (lifetime : ℕ) → lifetime < 256 → IsAddress pdu.destination → IsAddress pdu.source → pdu.lifetime ≡ lifetime → options ≡ spelled (parameters pdu.options)
    → AreOctets (variable_part pdu options) → AreOctets pdu.body → FitsOctets pdu
behind_fits pdu options lifetime fits destination source same spelled_is h body =
    let from = field pdu.source ++ (segment_part pdu.segment ++ options) in
    let first = octets_front (field pdu.destination) from h in
    let rest = octets_back (field pdu.destination) from h in
    let second = octets_front (field pdu.source) (segment_part pdu.segment ++ options) rest in
    let last = octets_back (field pdu.source) (segment_part pdu.segment ++ options) rest in
    record {
      destination = record { is = destination; octets = first.1 };
      source = record { is = source; octets = second.1 };
      lifetime = omega (arith, fits, same);
      segment = segment_fits pdu.segment (octets_front (segment_part pdu.segment) options last);
      options = options_fit pdu.options (subst AreOctets spelled_is (octets_back (segment_part pdu.segment) options last));
      body = body;
    }

pub pdu_fits : (octets : List ℕ) (pdu : Pdu) → AreOctets octets → IsPdu octets pdu → FitsOctets pdu
pdu_fits octets pdu h is =
    let both : AreOctets (is.header ++ pdu.body) = subst AreOctets is.whole h in
    let header : AreOctets (fixed_part (length is.header) pdu.lifetime is.flags (length octets) is.first is.second ++ variable_part pdu is.options) =
    subst AreOctets is.parts (octets_front is.header pdu.body both) in
    behind_fits pdu is.options pdu.lifetime header.1.1.1.0 is.destination is.source refl is.options_part.parts
    (octets_back (fixed_part (length is.header) pdu.lifetime is.flags (length octets) is.first is.second) (variable_part pdu is.options) header)
    (octets_back is.header pdu.body both)

pub front_fits : (octets : List ℕ) (pdu : Pdu) → AreOctets octets → HasPdu octets pdu → FitsOctets pdu
front_fits octets pdu h has =
    let begins = has.1 in
    pdu_fits begins.front pdu (octets_front begins.front has.0 (subst AreOctets begins.whole h)) begins.stands

-- ---- a hello

titles_fit : (titles : List (List ℕ)) → AllByRecursion IsAddress titles → AreOctets (flat_map field titles) → AllByRecursion IsNsap titles
titles_fit [] is h = tt
titles_fit (title ∷ titles) is h =
    (record { is = is.0; octets = (octets_front (field title) (flat_map field titles) h).1 }, titles_fit titles is.1 (octets_back (field title) (flat_map field titles) h))

title_fits : (title : Option (List ℕ)) → IfSome title IsAddress → AreOctets (title_field title) → IfSome title IsNsap
title_fits None is h = tt
title_fits (Some title) is h = record { is = is; octets = h.1 }

parts_fit : (hello : Hello) → IsAddressed hello → AreOctets (parts hello) → FitsHello hello
parts_fit (Esh hold addresses) is h = titles_fit addresses is h.1
parts_fit (Ish hold title) is h = record { is = is; octets = h.1 }
parts_fit (Rd hold address snpa title) is h =
    let front = octets_front (field address ++ field snpa) (title_field title) h in (
      record { is = is.0; octets = (octets_front (field address) (field snpa) front).1 },
      record { six = is.1; octets = (octets_back (field address) (field snpa) front).1 },
      title_fits title is.2 (octets_back (field address ++ field snpa) (title_field title) h),
    )

pub hello_fits : (octets : List ℕ) (pdu : Esis) → AreOctets octets → IsEsis octets pdu → FitsHello pdu.hello
hello_fits octets pdu h is =
    let all : AreOctets (130 ∷ length octets ∷ 1 ∷ is.reserved ∷ is.kind ∷ two_octets (hold_of pdu.hello) ++ is.first ∷ is.second ∷ (parts pdu.hello ++ pdu.options)) = subst AreOctets is.written h in
    let behind = all.1.1.1.1.1.1.1.1.1 in
    parts_fit pdu.hello is.addressed (octets_front (parts pdu.hello) pdu.options behind)

pub front_hello_fits : (octets : List ℕ) (pdu : Esis) (rest : List ℕ) → AreOctets octets → BeginsWith IsEsis octets pdu rest → FitsHello pdu.hello
front_hello_fits octets pdu rest h begins =
    hello_fits begins.front pdu (octets_front begins.front rest (subst AreOctets begins.whole h)) begins.stands
