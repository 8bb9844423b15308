-- A segment for users of this end system goes to the store, and the store's answer is carried out: there is no other way to read its frame.
use Rattle.std.proofs.Common.{◌≡◌, ℕ, Bool, List, [], Option, Some, None, sym, ◌∙◌, subst, arith}
use Rattle.std.specs.Prelude.{slice_index}
use Rattle.nsap.specs.declared.port.Port.{Port}
use Rattle.clnp_options.specs.SourceRoute.{SourceRoute}
use Rattle.clnp_header.specs.declared.pdu.Pdu.{Pdu}
use Rattle.clnp_header.specs.declared.pdu.SegmentPart.{SegmentPart}
use Rattle.clnp_header.proofs.Answered.{apart, one_front}
use Rattle.clnp_segment.specs.Store.{Holding, Takes as TakesSegment}
use Rattle.clnp_segment.specs.declared.store.Joined.{Joined}
use Rattle.clnp_segment.proofs.Lists.{same_some}
use Rattle.clnp_system.specs.declared.verdict.Verdict.{Verdict}
use Rattle.clnp_system.specs.Hellos.{AnswersGroup, ToSenderIf, own_esh, sender}
use Rattle.clnp_system.specs.Node.{Frame, Node, Reaction}
use Rattle.clnp_system.specs.Receiving.{Alien, BadHello, Does, Elsewhere, Faulty, HearsHello, JoinGives, Joins, Reads, Receives, coming}
use Rattle.clnp_system.specs.Setting.{bound_of, port_on}
use Rattle.clnp_system.specs.Tables.{Tables}
use Rattle.clnp_system.specs.Verdicts.{verdict, whole_or_part}
use Rattle.clnp_system.specs.SourceRouting.{IsRoute, IsRouteOf}
use Rattle.clnp_system.specs.Written.{HasPdu}
use Rattle.law_clnp_net.proofs.once.Options.{one_route_of}
use Rattle.law_clnp_net.proofs.once.Receivings.{hello_first, pdu_first}
use Rattle.law_clnp_net.proofs.joining.Arrivals.{IsHere, has_pdu, verdict_is}

no_octet : (octet : ℕ) → octet ≡ 0x81 → octet ≡ 0x82 → ⊥
no_octet octet a b = omega (arith, a, b)

no_port : (port : Option Port) (own : Port) → port ≡ None → port ≡ Some own → ⊥
no_port port own a b = let e : None ≡ Some own = sym a ∙ b in cc

-- what the store answered, and that it was carried out
pub record JoinsHere {N : Type 0} (tables : Tables N) (old : Node N) (now : ℕ) (frame : Frame) (pdu : Pdu) (part : SegmentPart) (reaction : Reaction) (new : Node N) : Type 0 where
  pub answer : Joined
  pub store : Holding
  pub takes : TakesSegment old.store now (coming frame (bound_of old.setup frame.to.lan) pdu part) answer store
  pub gives : JoinGives tables old now frame pdu answer reaction
  pub after : new ≡ record old { clock = now; store = store }

module _ {N : Type 0} (tables : Tables N) (old : Node N) (now : ℕ) (frame : Frame) (pdu : Pdu) (part : SegmentPart) (here : IsHere old.setup frame pdu) (segment : pdu.segment ≡ Some part) where
  has : HasPdu frame.octets pdu
  has = has_pdu frame.octets pdu here.is_pdu

  -- nobody is answered by a hello
  pub not_answered : (frames : List Frame) → AnswersGroup old.setup frame.from frame.to frames → frames ≡ []
  not_answered frames answers = subst (λ (group : Bool). ToSenderIf group old.setup (sender frame.from frame.to) (own_esh old.setup) frames) here.single answers

  joined : (reaction : Reaction) (new : Node N) → Joins tables old now frame pdu reaction new → JoinsHere tables old now frame pdu part reaction new
  joined reaction new j =
      let same : j.part ≡ part = same_some j.part part (sym j.is ∙ segment) in record {
        answer = j.answer;
        store = j.store;
        takes = subst (λ (p : SegmentPart). TakesSegment old.store now (coming frame (bound_of old.setup frame.to.lan) pdu p) j.answer j.store) same j.takes;
        gives = j.gives;
        after = j.after;
      }

  read : (reaction : Reaction) (new : Node N) (route : Option SourceRoute) → IsRouteOf pdu route
      → Does tables old now frame pdu (verdict tables old now (bound_of old.setup frame.to.lan) pdu route) reaction new → JoinsHere tables old now frame pdu part reaction new
  read reaction new route is_route did =
      let none : IsRouteOf pdu None = subst (λ (value : Option (List ℕ)). IsRoute value None) (sym here.routeless) tt in
      let routes : route ≡ None = one_route_of pdu route None is_route none in
      let done = subst (λ (r : Option SourceRoute). Does tables old now frame pdu (verdict tables old now (bound_of old.setup frame.to.lan) pdu r) reaction new) routes did in
      let said : Does tables old now frame pdu (whole_or_part pdu.segment) reaction new =
      subst (λ (v : Verdict). Does tables old now frame pdu v reaction new) (verdict_is tables old now frame pdu here) done in
      joined reaction new (subst (λ (s : Option SegmentPart). Does tables old now frame pdu (whole_or_part s) reaction new) segment said)

  pub joins_here : (reaction : Reaction) (new : Node N) → Receives tables old now frame reaction new → JoinsHere tables old now frame pdu part reaction new
  joins_here reaction new (Elsewhere none is after) = absurd (no_port (port_on old.setup frame.to.lan) here.port none here.at)
  joins_here reaction new (Alien port at no_pdu no_hello is after) = absurd (no_pdu (pdu_first frame.octets pdu has))
  joins_here reaction new (Faulty port fault at octet fails discards after) = absurd (apart frame.octets has.0 pdu fault has.1 fails)
  joins_here reaction new (Reads port found route at stands is_route did) =
      let same : found ≡ pdu = (one_front frame.octets found pdu stands.0 has.0 stands.1 has.1).0 in
      read reaction new route (subst (λ (p : Pdu). IsRouteOf p route) same is_route)
      (subst (λ (p : Pdu). Does tables old now frame p (verdict tables old now (bound_of old.setup frame.to.lan) p route) reaction new) same did)
  joins_here reaction new (BadHello port fault at octet fails is after) = absurd (no_octet (slice_index frame.octets 0) (pdu_first frame.octets pdu has) octet)
  joins_here reaction new (HearsHello port heard rest at begins hears) =
      absurd (no_octet (slice_index frame.octets 0) (pdu_first frame.octets pdu has) (hello_first frame.octets heard rest begins))
