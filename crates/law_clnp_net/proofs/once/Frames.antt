-- What goes out in frames is written in one way.
use Rattle.std.proofs.Common.{◌≡◌, ℕ, Bool, true, false, List, [], ◌∷◌, Option, Some, None, sym, ◌∙◌, ap, subst, arith}
use Rattle.nsap.specs.declared.port.Port.{Port}
use Rattle.nsap.specs.declared.port.Hop.{Hop}
use Rattle.clnp_header.specs.declared.pdu.Pdu.{Pdu}
use Rattle.clnp_header.specs.declared.pdu.SegmentPart.{SegmentPart}
use Rattle.clnp_header.proofs.Spelled.{one_writing}
use Rattle.clnp_segment.specs.Cutting.{Cuts}
use Rattle.esis_pdu.specs.declared.hello.Hello.{Hello}
use Rattle.esis_pdu.specs.declared.hello.Hello.TheVariants.{Rd}
use Rattle.esis_pdu.proofs.Drafts.{one_writing as one_hello_writing}
use Rattle.clnp_system.specs.Hellos.{AnswersGroup, AreHellos, HellosIf, ToSenderIf, hearers, own_esh, own_hello, sender}
use Rattle.clnp_system.specs.Redirect.{RedirectsTo, is_detour}
use Rattle.clnp_system.specs.Node.{Frame}
use Rattle.clnp_system.specs.Setting.{Setting, is_group, room_of}
use Rattle.clnp_system.specs.Written.{AreFrames, CutFrames, GoesTo, IsHelloFrame, IsPduFrame}
use Rattle.clnp_segment.proofs.Cuttings.{one_cutting}
use Rattle.clnp_segment.proofs.Lists.{same_some}

one_frame : (setting : Setting) (to : Port) (frame other : Frame) → GoesTo setting to frame → GoesTo setting to other → frame.octets ≡ other.octets → frame ≡ other
one_frame setting to frame other a b octets =
    let froms : frame.from ≡ other.from = same_some frame.from other.from (sym a.from ∙ b.from) in
    let tos : frame.to ≡ other.to = a.to_is ∙ sym b.to_is in
    λ i. record { from = froms i; to = tos i; octets = octets i }

-- ---- PDUs

pub one_pdu_frame : (setting : Setting) (to : Port) (pdu : Pdu) (frame other : Frame) → IsPduFrame setting to pdu frame → IsPduFrame setting to pdu other → frame ≡ other
one_pdu_frame setting to pdu frame other a b = one_frame setting to frame other a.goes b.goes (one_writing pdu frame.octets other.octets a.written b.written)

pub one_frames : (setting : Setting) (to : Port) (pdus : List Pdu) (frames others : List Frame) → AreFrames setting to pdus frames → AreFrames setting to pdus others → frames ≡ others
one_frames setting to [] frames others a b = a ∙ sym b
one_frames setting to (pdu ∷ pdus) frames others a b =
    let first : a.0 ≡ b.0 = one_pdu_frame setting to pdu a.0 b.0 a.2 b.2 in
    let rest : a.1 ≡ b.1 = one_frames setting to pdus a.1 b.1 a.3 b.3 in
    let both : a.0 ∷ a.1 ≡ b.0 ∷ b.1 = λ i. first i ∷ rest i in
    a.4 ∙ both ∙ sym b.4

pub one_cut : (setting : Setting) (to : Port) (pdu : Pdu) (frames others : List Frame) → CutFrames setting to pdu (Some frames) → CutFrames setting to pdu (Some others) → frames ≡ others
one_cut setting to pdu frames others a b =
    let same = one_cutting pdu (room_of setting to.lan) pdu.segment a.0 b.0 a.1 b.1 in
    one_frames setting to b.0 frames others (subst (λ (pdus : List Pdu). AreFrames setting to pdus frames) same a.2) b.2

cut_or_none : (pdu : Pdu) (room : ℕ) (part : Option SegmentPart) (pdus : List Pdu) → Cuts pdu room part (Some pdus) → Cuts pdu room part None → ⊥
cut_or_none pdu room None pdus a b = omega (arith, a.0, b)
cut_or_none pdu room (Some part) pdus a b = b

pub cut_or_not : (setting : Setting) (to : Port) (pdu : Pdu) (frames : List Frame) → CutFrames setting to pdu (Some frames) → CutFrames setting to pdu None → ⊥
cut_or_not setting to pdu frames a b = cut_or_none pdu (room_of setting to.lan) pdu.segment a.0 a.1 b

-- ---- hellos

pub one_hello_frame : (setting : Setting) (to : Port) (hello : Hello) (frame other : Frame) → IsHelloFrame setting to hello frame → IsHelloFrame setting to hello other → frame ≡ other
one_hello_frame setting to hello frame other a b = one_frame setting to frame other a.goes b.goes (one_hello_writing hello frame.octets other.octets a.written b.written)

pub one_hellos : (setting : Setting) (ports : List Port) (frames others : List Frame) → AreHellos setting ports frames → AreHellos setting ports others → frames ≡ others
one_hellos setting [] frames others a b = a ∙ sym b
one_hellos setting (port ∷ ports) frames others a b =
    let first : a.0 ≡ b.0 = one_hello_frame setting (record { lan = port.lan; snpa = hearers setting.end }) (own_hello setting setting.end) a.0 b.0 a.2 b.2 in
    let rest : a.1 ≡ b.1 = one_hellos setting ports a.1 b.1 a.3 b.3 in
    let both : a.0 ∷ a.1 ≡ b.0 ∷ b.1 = λ i. first i ∷ rest i in
    a.4 ∙ both ∙ sym b.4

pub one_hellos_if : (due : Bool) (setting : Setting) (frames others : List Frame) → HellosIf due setting frames → HellosIf due setting others → frames ≡ others
one_hellos_if false setting frames others a b = a ∙ sym b
one_hellos_if true setting frames others a b = one_hellos setting setting.ports frames others a b

one_to_sender : (tells : Bool) (setting : Setting) (to : Port) (hello : Hello) (frames others : List Frame) → ToSenderIf tells setting to hello frames
    → ToSenderIf tells setting to hello others → frames ≡ others
one_to_sender false setting to hello frames others a b = a ∙ sym b
one_to_sender true setting to hello frames others a b =
    a.2 ∙ ap (λ (frame : Frame). frame ∷ []) (one_hello_frame setting to hello a.0 b.0 a.1 b.1) ∙ sym b.2

pub one_group_answer : (setting : Setting) (from at : Port) (frames others : List Frame) → AnswersGroup setting from at frames → AnswersGroup setting from at others → frames ≡ others
one_group_answer setting from at frames others a b = one_to_sender (is_group at.snpa) setting (sender from at) (own_esh setting) frames others a b

pub one_redirect : (setting : Setting) (from at : Port) (destination : List ℕ) (hop : Hop) (frames others : List Frame) → RedirectsTo setting from at destination hop frames
    → RedirectsTo setting from at destination hop others → frames ≡ others
one_redirect setting from at destination hop frames others a b = one_to_sender (is_detour from at hop) setting (sender from at) (Rd setting.hold destination hop.port.snpa hop.title) frames others a b
