-- A PDU for users of this end system, which comes in a frame to its own port with lifetime left and by no source route: the frame is read in one
-- way, so what is made of it here is what comes of it. A whole PDU comes up.
use Rattle.std.proofs.Common.{◌≡◌, ◌⊎◌, ◌==◌, ◌||◌, ℕ, ◌≤◌, Bool, true, false, if◌then◌else◌, List, [], length, Option, Some, None, refl, sym, ◌∙◌, ap, subst, inl, inr, arith, length-append}
use Rattle.std.specs.Prelude.{nat_le, nat_lt, not}
use Rattle.std.proofs.lemmas.List.{append-nil, length-take-le}
use Rattle.std.proofs.lemmas.Bool.Decides.{nat_tests}
use Rattle.nsap.specs.Address.{selector_of}
use Rattle.nsap.specs.declared.port.Port.{Port}
use Rattle.clnp_options.specs.Options.{value_of}
use Rattle.clnp_options.specs.declared.reason.PduKind.{PduKind}
use Rattle.clnp_options.specs.declared.reason.PduKind.TheVariants.{Dt, Er}
use Rattle.clnp_options.specs.declared.reason.Reason.TheVariants.{DestinationUnknown, DestinationUnreachable, LifetimeExpiredInTransit}
use Rattle.clnp_header.specs.declared.pdu.Pdu.{Pdu}
use Rattle.clnp_header.specs.declared.pdu.SegmentPart.{SegmentPart}
use Rattle.clnp_header.specs.Grammar.{IsPdu}
use Rattle.clnp_header.specs.Values.{parameters}
use Rattle.clnp_header.specs.Writing.{header_length, pdu_length}
use Rattle.clnp_header.proofs.Parts.{length-header}
use Rattle.clnp_system.specs.declared.verdict.Verdict.{Verdict}
use Rattle.clnp_system.specs.declared.verdict.Verdict.TheVariants.{Discard}
use Rattle.clnp_system.specs.Hellos.{AnswersGroup, ToSenderIf, own_esh, sender}
use Rattle.clnp_system.specs.Node.{Frame, Node, Reaction, at_tick}
use Rattle.clnp_system.specs.Receiving.{Does, Receives, Reads, came}
use Rattle.clnp_system.specs.Setting.{Setting, bound_of, is_group, is_own_system, port_on}
use Rattle.clnp_system.specs.Tables.{Tables}
use Rattle.clnp_system.specs.Verdicts.{by_aim, for_this, verdict, whole_or_part}
use Rattle.clnp_system.specs.SourceRouting.{IsRoute, aim_of}
use Rattle.clnp_system.specs.Written.{HasPdu, header_in}

-- ---- a PDU in a frame

-- the octets of a PDU are as many as it has
pub whole_length : (octets : List ℕ) (pdu : Pdu) → IsPdu octets pdu → length octets ≡ pdu_length pdu
whole_length octets pdu h = omega (arith, length-header octets pdu h, ap length h.whole, length-append h.header pdu.body)

-- its header stands in front of them
pub header_there : (octets : List ℕ) (pdu : Pdu) → IsPdu octets pdu → length (header_in octets pdu) ≡ header_length pdu
header_there octets pdu h = length-take-le (header_length pdu) octets (omega (arith, whole_length octets pdu h))

pub has_pdu : (octets : List ℕ) (pdu : Pdu) → IsPdu octets pdu → HasPdu octets pdu
has_pdu octets pdu h = ([], record { front = octets; whole = sym (append-nil octets); stands = h })

-- ---- the verdict

selected : (selector : ℕ) → (selector ≡ 1) ⊎ (selector ≡ 2) → (selector == 1 || selector == 2) ≡ true
selected selector (inl e) = ap (λ (n : ℕ). n == 1 || n == 2) e
selected selector (inr e) = ap (λ (n : ℕ). n == 1 || n == 2) e

not_low : (life bound : ℕ) → bound ≤ life → nat_lt life bound ≡ false
not_low life bound le = grind (arith, nat_tests)

this_if : (end known : Bool) (this : Verdict) → end ≡ true → known ≡ true → (if not end || not known then Discard DestinationUnknown 0 else this) ≡ this
this_if true true this e k = refl
this_if true false this e k = absurd cc
this_if false known this e k = absurd cc

own_if : (own low end : Bool) (this other : Verdict) → own ≡ true → low ≡ false → (if own then (if low then Discard LifetimeExpiredInTransit 4 else this) else if end then Discard DestinationUnreachable 0 else other) ≡ this
own_if true false end this other e k = refl
own_if true true end this other e k = absurd cc
own_if false low end this other e k = absurd cc

-- a DT PDU in a frame for users of this end system, with lifetime left
pub record IsHere (setting : Setting) (frame : Frame) (pdu : Pdu) : Type 0 where
  pub port : Port
  pub at : port_on setting frame.to.lan ≡ Some port
  pub single : is_group frame.to.snpa ≡ false
  pub end : setting.end ≡ true
  pub is_pdu : IsPdu frame.octets pdu
  pub kind : pdu.kind ≡ Dt
  pub own : is_own_system setting pdu.destination ≡ true
  pub selector : (selector_of pdu.destination ≡ 1) ⊎ (selector_of pdu.destination ≡ 2)
  pub lives : bound_of setting frame.to.lan ≤ pdu.lifetime
  pub routeless : value_of 0xc8 (parameters pdu.options) ≡ None

for_this_is : (setting : Setting) (pdu : Pdu) (kind : PduKind) → kind ≡ Dt → setting.end ≡ true → (selector_of pdu.destination ≡ 1) ⊎ (selector_of pdu.destination ≡ 2)
    → for_this setting pdu kind ≡ whole_or_part pdu.segment
for_this_is setting pdu Dt kind end selector = this_if setting.end _ (whole_or_part pdu.segment) end (selected (selector_of pdu.destination) selector)
for_this_is setting pdu Er kind end selector = absurd cc

-- nobody is answered
no_answer : (setting : Setting) (from at : Port) → is_group at.snpa ≡ false → AnswersGroup setting from at []
no_answer setting from at single = subst (λ (group : Bool). ToSenderIf group setting (sender from at) (own_esh setting) []) (sym single) refl

module _ {N : Type 0} (tables : Tables N) (old : Node N) (now : ℕ) (frame : Frame) (pdu : Pdu) (here : IsHere old.setup frame pdu) where
  pub verdict_is : verdict tables old now (bound_of old.setup frame.to.lan) pdu None ≡ whole_or_part pdu.segment
  verdict_is =
      let others : Verdict = if nat_le pdu.lifetime (bound_of old.setup frame.to.lan) then Discard LifetimeExpiredInTransit 4 else by_aim tables old now pdu.destination (aim_of old.setup None) in
      own_if _ _ old.setup.end (for_this old.setup pdu pdu.kind) others here.own (not_low pdu.lifetime (bound_of old.setup frame.to.lan) here.lives)
      ∙ for_this_is old.setup pdu pdu.kind here.kind here.end here.selector

  read : (reaction : Reaction) (new : Node N) → Does tables old now frame pdu (whole_or_part pdu.segment) reaction new → Receives tables old now frame reaction new
  read reaction new does =
      Reads here.port pdu None here.at (has_pdu frame.octets pdu here.is_pdu) (subst (λ (value : Option (List ℕ)). IsRoute value None) (sym here.routeless) tt)
      (subst (λ (said : Verdict). Does tables old now frame pdu said reaction new) (sym verdict_is) does)

  -- a PDU that is no segment comes up
  pub comes_alone : pdu.segment ≡ None → Receives tables old now frame (record { ups = came old pdu pdu.body; frames = [] }) (at_tick now old)
  comes_alone alone =
      let reaction : Reaction = record { ups = came old pdu pdu.body; frames = [] } in
      read reaction (at_tick now old)
      (subst (λ (part : Option SegmentPart). Does tables old now frame pdu (whole_or_part part) reaction (at_tick now old)) (sym alone)
      (refl, no_answer old.setup frame.from frame.to here.single, refl))
