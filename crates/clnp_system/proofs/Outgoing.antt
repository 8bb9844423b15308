-- What goes out derives from what came in: an error report is no DT PDU, a hello is no PDU, and a PDU that goes onward is cut into runs.
use Rattle.std.proofs.Common.{◌≡◌, ℕ, ◌+◌, ◌-◌, ◌<◌, Bool, true, false, if◌then◌else◌, List, [], ◌∷◌, ◌++◌, length, get_or, map, Option, Some, None, Result, Ok, Err, refl, sym, ◌∙◌, ap, subst, append_assoc, arith, length-append}
use Rattle.std.specs.List.{AllByRecursion}
use Rattle.std.proofs.lemmas.Bool.{leb-false}
use Rattle.std.proofs.lemmas.List.{append-nil}
use Rattle.nsap.specs.declared.port.Port.{Port}
use Rattle.nsap.specs.declared.port.Hop.{Hop}
use Rattle.osi_base.specs.declared.unit.Unit.{Unit as CarriedUnit}
use Rattle.osi_base.specs.declared.unit.Wish.{Wish}
use Rattle.osi_base.specs.Link.{IsNote}
use Rattle.pdu_parts.specs.Front.{BeginsWith}
use Rattle.pdu_parts.specs.Parameter.{spelled}
use Rattle.clnp_options.specs.SourceRoute.{SourceRoute}
use Rattle.clnp_options.specs.declared.reason.PduKind.{PduKind}
use Rattle.clnp_options.specs.declared.reason.PduKind.TheVariants.{Dt, Er}
use Rattle.clnp_options.specs.declared.reason.Reason.TheVariants.{Congestion, DestinationUnknown, DestinationUnreachable, LifetimeExpiredInTransit, ReassemblyInterference, SegmentationNeeded}
use Rattle.clnp_header.specs.declared.pdu.Pdu.{Pdu}
use Rattle.clnp_header.specs.declared.pdu.SegmentPart.{SegmentPart}
use Rattle.clnp_header.specs.Grammar.{IsPdu, segment_part}
use Rattle.clnp_header.specs.Values.{is_segment, parameters}
use Rattle.clnp_header.specs.Writing.{header_length}
use Rattle.clnp_header.proofs.Answered.{one_front}
use Rattle.esis_pdu.specs.declared.hello.Hello.{Hello}
use Rattle.clnp_system.specs.Setting.{Setting, bound_of, is_group, room_of}
use Rattle.esis_tables.specs.Told.{Told}
use Rattle.clnp_system.specs.Tables.{Tables}
use Rattle.clnp_system.specs.Node.{Node, Frame, Reaction}
use Rattle.clnp_segment.specs.Cutting.{Pieces, piece_of, piece_pdus, Cuts}
use Rattle.clnp_system.specs.Written.{AreFrames, HasPdu, IsHelloFrame}
use Rattle.clnp_system.specs.Hops.{hop_of}
use Rattle.clnp_segment.specs.declared.store.Expired.{Expired}
use Rattle.clnp_segment.specs.declared.store.Joined.{Joined}
use Rattle.clnp_segment.specs.declared.store.Joined.TheVariants as joined
use Rattle.osi_base.specs.declared.unit.Up.{Up}
use Rattle.osi_base.specs.declared.unit.DropCause.{DropCause}
use Rattle.osi_base.specs.declared.note.HelloKind.{HelloKind}
use Rattle.osi_base.proofs.Members.{all_both, all_weaker}
use Rattle.esis_pdu.specs.declared.hello.Hello.TheVariants.{Esh, Ish, Rd}
use Rattle.clnp_system.specs.Hearing.{HeardBy, HeedsIf, Hears, RedirectedBy, only_note}
use Rattle.clnp_system.specs.Sending.{IsDropped, IsSent, first_length, first_pdu, first_segment}
use Rattle.clnp_system.specs.declared.verdict.Verdict.{Verdict}
use Rattle.clnp_system.specs.declared.verdict.Verdict.TheVariants.{Discard, Tell, Take, Join, Onward}
use Rattle.clnp_system.specs.Verdicts.{verdict, for_this, whole_or_part}
use Rattle.clnp_system.specs.Reporting.{Discarded, FitsOne, GoesBy, ReportsIf, Reports, discarded_octets, discarded_pdu, report_pdu}
use Rattle.clnp_system.specs.Hellos.{AreHellos, HellosIf, ToSenderIf, AnswersGroup, hearers, is_due, own_esh, own_hello, sender}
use Rattle.clnp_system.specs.Redirect.{is_detour}
use Rattle.clnp_system.specs.Forwarding.{GoesOnward, IsOnward, Sent, TooLong}
use Rattle.clnp_system.specs.Receiving.{Elsewhere, Alien, Faulty, Reads, BadHello, HearsHello, Does, JoinGives}
use Rattle.clnp_system.specs.Ticking.{ReportsEach, discarded_unit, expiry_note}
use Rattle.clnp_system.proofs.Lengths.{onward_length}
use Rattle.clnp_system.specs.Deriving.{AllCarry, Carries, Derives, DerivesFrom, IsPartOf, IsRun, IsSentFrom, IsSentPart}
use Rattle.clnp_system.specs.Laws.{Derived, QuietTick, SentAll}
use Rattle.clnp_system.proofs.Initial.{same_length}

er_no_dt : Er ≡ Dt → ⊥
er_no_dt e = cc e

-- ---- frames

-- octets of a PDU begin with no other one
same_pdu : (octets : List ℕ) (pdu second : Pdu) → IsPdu octets pdu → HasPdu octets second → pdu ≡ second
same_pdu octets pdu second is has =
    let begins : BeginsWith IsPdu octets pdu [] = record { front = octets; whole = sym (append-nil octets); stands = is } in
    (one_front octets pdu second [] has.0 begins has.1).0

-- frames of these PDUs carry them alone
frames_carry : (P : Pdu → Type 0) (setting : Setting) (to : Port) (pdus : List Pdu) (frames : List Frame) → AreFrames setting to pdus frames
    → AllByRecursion (λ pdu. pdu.kind ≡ Dt → P pdu) pdus → AllCarry frames P
frames_carry P setting to [] frames h all = subst (λ (fs : List Frame). AllCarry fs P) (sym h) tt
frames_carry P setting to (pdu ∷ pdus) frames h all =
    subst (λ (fs : List Frame). AllCarry fs P) (sym h.4) (
      λ second has dt.
          let same : pdu ≡ second = same_pdu h.0.octets pdu second h.2.is_pdu has in
          subst P same (all.0 (ap (λ (p : Pdu). p.kind) same ∙ dt)),
      frames_carry P setting to pdus h.1 h.3 all.1,
    )

-- a hello is no PDU
hello_carries : (P : Pdu → Type 0) (setting : Setting) (to : Port) (hello : Hello) (frame : Frame) → IsHelloFrame setting to hello frame → Carries frame P
hello_carries P setting to hello frame h pdu has dt =
    let is : IsPdu has.1.front pdu = has.1.stands in
    let first : get_or (has.1.front ++ has.0) 0 0 ≡ 129 = ap (λ (xs : List ℕ). get_or (xs ++ has.0) 0 0) (is.whole ∙ ap (λ (xs : List ℕ). xs ++ pdu.body) is.parts) in
    let e : 130 ≡ 129 = ap (λ (xs : List ℕ). get_or xs 0 0) (sym h.is_hello.written ∙ has.1.whole) ∙ first in
    absurd (omega (arith, e))

module _ (P : Pdu → Type 0) where
  none_carry : (frames : List Frame) → frames ≡ [] → AllCarry frames P
  none_carry frames e = subst (λ (fs : List Frame). AllCarry fs P) (sym e) tt

  to_sender_carry : (test : Bool) (setting : Setting) (to : Port) (hello : Hello) (frames : List Frame) → ToSenderIf test setting to hello frames → AllCarry frames P
  to_sender_carry false setting to hello frames h = none_carry frames h
  to_sender_carry true setting to hello frames h =
      subst (λ (fs : List Frame). AllCarry fs P) (sym h.2) (hello_carries P setting to hello h.0 h.1, tt)

  -- ---- an error report is no DT PDU
  fits_carry : (setting : Setting) (hop : Hop) (pdu : Pdu) (above : Bool) (frames : List Frame) → pdu.kind ≡ Er → FitsOne setting hop pdu above frames → AllCarry frames P
  fits_carry setting hop pdu true frames er h = none_carry frames h
  fits_carry setting hop pdu false frames er h = frames_carry P setting hop.port (pdu ∷ []) frames h (λ dt. absurd (er_no_dt (sym er ∙ dt)), tt)

  goes_carry : (setting : Setting) (hop : Option Hop) (pdu : Pdu) (frames : List Frame) → pdu.kind ≡ Er → GoesBy setting hop pdu frames → AllCarry frames P
  goes_carry setting None pdu frames er h = none_carry frames h
  goes_carry setting (Some hop) pdu frames er h = fits_carry setting hop pdu _ frames er h

  module _ {N : Type 0} (tables : Tables N) (node : Node N) (now : ℕ) where
    reports_if : (report : Bool) (discarded : Discarded) (frames : List Frame) → ReportsIf report tables node now discarded frames → AllCarry frames P
    reports_if false discarded frames h = none_carry frames h
    reports_if true discarded frames h = goes_carry node.setup (hop_of tables node now discarded.source) (report_pdu node.setup discarded) frames refl h

    pub reports_carry : (discarded : Discarded) (frames : List Frame) → Reports tables node now discarded frames → AllCarry frames P
    reports_carry discarded frames h = reports_if discarded.report discarded frames h

    reports_each : (expired : List Expired) (frames : List Frame) → ReportsEach tables node now expired frames → AllCarry frames P
    reports_each [] frames h = none_carry frames h
    reports_each (one ∷ others) frames h =
        subst (λ (fs : List Frame). AllCarry fs P) (sym h.4)
        (all_both (λ frame. Carries frame P) h.0 h.1 (reports_carry (discarded_unit one) h.0 h.2) (reports_each others h.1 h.3))

  -- ---- hellos
  hellos_carry : (setting : Setting) (ports : List Port) (frames : List Frame) → AreHellos setting ports frames → AllCarry frames P
  hellos_carry setting [] frames h = none_carry frames h
  hellos_carry setting (port ∷ ports) frames h =
      subst (λ (fs : List Frame). AllCarry fs P) (sym h.4)
      (hello_carries P setting (record { lan = port.lan; snpa = hearers setting.end }) (own_hello setting setting.end) h.0 h.2, hellos_carry setting ports h.1 h.3)

  hellos_if : (due : Bool) (setting : Setting) (frames : List Frame) → HellosIf due setting frames → AllCarry frames P
  hellos_if false setting frames h = none_carry frames h
  hellos_if true setting frames h = hellos_carry setting setting.ports frames h

-- ---- a tick
notes_only : (system : ℕ) (expired : List Expired) → AllByRecursion IsNote (map (expiry_note system) expired)
notes_only system [] = tt
notes_only system (one ∷ others) = (tt, notes_only system others)

pub quiet_tick_is : {N : Type 0} → QuietTick N
quiet_tick_is tables old now reaction new h = (
  subst (λ (fs : List Frame). AllCarry fs (λ pdu. ⊥)) (sym h.frames)
      (all_both (λ frame. Carries frame (λ pdu. ⊥)) h.reports h.hellos
      (reports_each (λ pdu. ⊥) tables new now h.expired h.reports h.are_reports)
      (hellos_if (λ pdu. ⊥) (is_due old.setup now) old.setup h.hellos h.are_hellos)),
  subst (AllByRecursion IsNote) (sym h.told) (notes_only old.setup.system h.expired),
)

-- ---- runs
-- a piece of a PDU: all but the run, its position, and whether more follow
pub record IsPiece (pdu out : Pdu) : Type 0 where
  pub kind : out.kind ≡ pdu.kind
  pub source : out.source ≡ pdu.source
  pub destination : out.destination ≡ pdu.destination
  pub lifetime : out.lifetime ≡ pdu.lifetime
  pub header : header_length out ≡ header_length pdu
  pub part : IsPartOf pdu.segment out.segment pdu.body out.body

one_piece : (pdu : Pdu) (part : SegmentPart) (position : ℕ) (last : Bool) (before octets after : List ℕ) → pdu.segment ≡ Some part
    → pdu.body ≡ before ++ (octets ++ after) → length before ≡ position → IsPiece pdu (piece_of pdu part position last octets)
one_piece pdu part position last before octets after segment body place = record {
  kind = refl;
  source = refl;
  destination = refl;
  lifetime = refl;
  header = ap (λ (s : Option SegmentPart). 11 + length pdu.destination + length pdu.source + length (segment_part s) + length (spelled (parameters pdu.options))) (sym segment);
  part = subst (λ (s : Option SegmentPart). IsPartOf s (piece_of pdu part position last octets).segment pdu.body octets) (sym segment) (record {
    id = refl;
    total = refl;
    position = position;
    offset = refl;
    run = record { before = before; after = after; parts = body; place = place };
  });
}

pieces_are : (room header : ℕ) (pdu : Pdu) (part : SegmentPart) (position : ℕ) (before octets : List ℕ) (pieces : List (List ℕ)) → pdu.segment ≡ Some part
    → pdu.body ≡ before ++ octets → length before ≡ position → Pieces room header octets pieces → AllByRecursion (IsPiece pdu) (piece_pdus pdu part position pieces)
pieces_are room header pdu part position before octets [] segment body place h = absurd h
pieces_are room header pdu part position before octets (last ∷ []) segment body place h =
    (one_piece pdu part position true before last [] segment (body ∙ ap (λ (xs : List ℕ). before ++ xs) (sym h.1 ∙ sym (append-nil last))) place, tt)
pieces_are room header pdu part position before octets (piece ∷ next ∷ pieces) segment body place h =
    let parted : pdu.body ≡ before ++ (piece ++ h.2.0) = body ∙ ap (λ (xs : List ℕ). before ++ xs) h.2.1 in (
      one_piece pdu part position false before piece h.2.0 segment parted place,
      pieces_are room header pdu part (position + length piece) (before ++ piece) h.2.0 (next ∷ pieces) segment (parted ∙ sym (append_assoc before piece h.2.0))
          (length-append before piece ∙ ap (λ (n : ℕ). n + length piece) place) h.2.2,
    )

pub cuts_are : (pdu : Pdu) (room : ℕ) (segment : Option SegmentPart) (pdus : List Pdu) → pdu.segment ≡ segment → Cuts pdu room segment (Some pdus) → AllByRecursion (IsPiece pdu) pdus
cuts_are pdu room None pdus e h =
    subst (AllByRecursion (IsPiece pdu)) (sym h.1) (
      record {
        kind = refl;
        source = refl;
        destination = refl;
        lifetime = refl;
        header = refl;
        part = subst (λ (s : Option SegmentPart). IsPartOf s s pdu.body pdu.body) (sym e) refl;
      },
      tt,
    )
cuts_are pdu room (Some part) pdus e h =
    subst (AllByRecursion (IsPiece pdu)) (sym h.2) (pieces_are room (header_length pdu) pdu part 0 [] pdu.body h.0 e refl refl h.1)

-- ---- what goes onward
onward_derives : (setting : Setting) (bound : ℕ) (pdu onward out : Pdu) → bound < pdu.lifetime → IsOnward setting bound pdu onward → IsPiece onward out → out.kind ≡ Dt → Derives pdu bound out
onward_derives setting bound pdu onward out more h piece dt =
    let life : out.lifetime ≡ pdu.lifetime - bound = piece.lifetime ∙ ap (λ (p : Pdu). p.lifetime) h.else_same in
    record {
      kind = sym (piece.kind ∙ ap (λ (p : Pdu). p.kind) h.else_same) ∙ dt;
      source = piece.source ∙ ap (λ (p : Pdu). p.source) h.else_same;
      destination = piece.destination ∙ ap (λ (p : Pdu). p.destination) h.else_same;
      age = omega (arith, life, more);
      left = omega (arith, life, more);
      header = piece.header ∙ onward_length setting bound pdu onward h;
      part = subst (λ (p : Pdu). IsPartOf p.segment out.segment p.body out.body) h.else_same piece.part;
    }

-- the verdict is to go onward only where more lifetime is left than the bound
pub not_onward : (test : Bool) (segment : Option SegmentPart) (hop : Hop) → (if test then Discard DestinationUnknown 0 else whole_or_part segment) ≡ Onward hop → ⊥
not_onward true segment hop e = cc e
not_onward false None hop e = cc e
not_onward false (Some part) hop e = cc e

pub this_not_onward : (setting : Setting) (pdu : Pdu) (kind : PduKind) (hop : Hop) → for_this setting pdu kind ≡ Onward hop → ⊥
this_not_onward setting pdu Er hop e = cc e
this_not_onward setting pdu Dt hop e = not_onward _ pdu.segment hop e

onward_test : (own low end above : Bool) (this aimed : Verdict) (hop : Hop) → (this ≡ Onward hop → ⊥)
    → (if own then (if low then Discard LifetimeExpiredInTransit 4 else this) else if end then Discard DestinationUnreachable 0 else if above then Discard LifetimeExpiredInTransit 4 else aimed) ≡ Onward hop → above ≡ false
onward_test true true end above this aimed hop never e = absurd cc
onward_test true false end above this aimed hop never e = absurd (never e)
onward_test false low true above this aimed hop never e = absurd cc
onward_test false low false true this aimed hop never e = absurd cc
onward_test false low false false this aimed hop never e = refl

onward_lasts : {N : Type 0} (tables : Tables N) (node : Node N) (now bound : ℕ) (pdu : Pdu) (route : Option SourceRoute) (hop : Hop)
    → verdict tables node now bound pdu route ≡ Onward hop → bound < pdu.lifetime
onward_lasts tables node now bound pdu route hop e =
    leb-false pdu.lifetime bound (onward_test _ _ _ _ (for_this node.setup pdu pdu.kind) _ hop (this_not_onward node.setup pdu pdu.kind hop) e)

module _ {N : Type 0} (tables : Tables N) (node : Node N) (now : ℕ) (frame : Frame) (pdu : Pdu)
    (stands : HasPdu frame.octets pdu) where
  abbrev Out : Pdu → Type 0
  Out = DerivesFrom frame.octets (bound_of node.setup frame.to.lan)

  onward_carries : (hop : Hop) (discarded : Discarded) (reaction : Reaction) → bound_of node.setup frame.to.lan < pdu.lifetime
      → GoesOnward tables node now frame pdu hop discarded reaction → AllCarry reaction.frames Out
  onward_carries hop discarded reaction more (Sent frames h reaction_is) =
      subst (λ (r : Reaction). AllCarry r.frames Out) (sym reaction_is)
      (subst (λ (fs : List Frame). AllCarry fs Out) (sym h.6) (all_both (λ frame. Carries frame Out) h.1 h.2
      (frames_carry Out node.setup hop.port h.4.0 h.1 h.4.2
      (all_weaker (IsPiece h.0) (λ out. out.kind ≡ Dt → Out out) h.4.0
      (λ out piece dt. (pdu, stands, onward_derives node.setup (bound_of node.setup frame.to.lan) pdu h.0 out more h.3 piece dt))
      (cuts_are h.0 (room_of node.setup hop.port.lan) h.0.segment h.4.0 refl h.4.1)))
      (to_sender_carry Out (is_detour frame.from frame.to hop) node.setup (sender frame.from frame.to) _ h.2 h.5)))
  onward_carries hop discarded reaction more (TooLong h discards) = reports_carry Out tables node now discarded reaction.frames discards.reports

  answers_carry : (frames : List Frame) → AnswersGroup node.setup frame.from frame.to frames → AllCarry frames Out
  answers_carry frames h = to_sender_carry Out (is_group frame.to.snpa) node.setup (sender frame.from frame.to) (own_esh node.setup) frames h

  join_carries : (answer : Joined) (reaction : Reaction) → JoinGives tables node now frame pdu answer reaction → AllCarry reaction.frames Out
  join_carries joined.Interference reaction h = reports_carry Out tables node now (discarded_pdu frame pdu ReassemblyInterference 0) reaction.frames h.reports
  join_carries joined.Full reaction h = reports_carry Out tables node now (discarded_pdu frame pdu Congestion 0) reaction.frames h.reports
  join_carries (joined.Whole octets) reaction h = answers_carry reaction.frames h.1
  join_carries joined.Held reaction h = answers_carry reaction.frames h.1

  does_carry : (bound : ℕ) (route : Option SourceRoute) (v : Verdict) (reaction : Reaction) (new : Node N) → bound ≡ bound_of node.setup frame.to.lan
      → verdict tables node now bound pdu route ≡ v → Does tables node now frame pdu v reaction new → AllCarry reaction.frames Out
  does_carry bound route (Discard reason place) reaction new b e h = reports_carry Out tables node now (discarded_pdu frame pdu reason place) reaction.frames h.0.reports
  does_carry bound route Tell reaction new b e h = none_carry Out reaction.frames (ap (λ (r : Reaction). r.frames) h.0)
  does_carry bound route Take reaction new b e h = answers_carry reaction.frames h.1
  does_carry bound route Join reaction new b e h = join_carries h.answer reaction h.gives
  does_carry bound route (Onward hop) reaction new b e h =
      onward_carries hop (discarded_pdu frame pdu SegmentationNeeded 0) reaction
      (subst (λ (n : ℕ). n < pdu.lifetime) b (onward_lasts tables node now bound pdu route hop e)) h.0

-- ---- what is heard
module _ (P : Pdu → Type 0) where
  only : (up : Up (List ℕ)) (reaction : Reaction) → reaction ≡ only_note up → AllCarry reaction.frames P
  only up reaction e = none_carry P reaction.frames (ap (λ (r : Reaction). r.frames) e)

module _ {N : Type 0} (P : Pdu → Type 0) where
  heard_carries : (old : Node N) (now : ℕ) (kind : HelloKind) (snpa : List ℕ) (table : Option N) (reaction : Reaction) (new : Node N)
      → HeardBy old now kind snpa table reaction new → AllCarry reaction.frames P
  heard_carries old now kind snpa None reaction new h = only P _ reaction h.0
  heard_carries old now kind snpa (Some table) reaction new h = only P _ reaction h.0

  redirected_carries : (old : Node N) (now : ℕ) (address snpa : List ℕ) (table : Option N) (reaction : Reaction) (new : Node N)
      → RedirectedBy old now address snpa table reaction new → AllCarry reaction.frames P
  redirected_carries old now address snpa None reaction new h = only P _ reaction h.0
  redirected_carries old now address snpa (Some table) reaction new h = only P _ reaction h.0

  heeded_carries : (heeds : Bool) (tables : Tables N) (old : Node N) (now : ℕ) (from : Port) (heard : Told) (address snpa : List ℕ) (reaction : Reaction) (new : Node N)
      → HeedsIf heeds tables old now from heard address snpa reaction new → AllCarry reaction.frames P
  heeded_carries true tables old now from heard address snpa reaction new h = redirected_carries old now address snpa _ reaction new h
  heeded_carries false tables old now from heard address snpa reaction new h = only P _ reaction h.0

  hears_carries : (tables : Tables N) (old : Node N) (now : ℕ) (from : Port) (hello : Hello) (reaction : Reaction) (new : Node N)
      → Hears tables old now from hello reaction new → AllCarry reaction.frames P
  hears_carries tables old now from (Esh hold addresses) reaction new h = heard_carries old now _ _ _ reaction new h
  hears_carries tables old now from (Ish hold title) reaction new h = heard_carries old now _ _ _ reaction new h
  hears_carries tables old now from (Rd hold address snpa title) reaction new h = heeded_carries old.setup.end tables old now from _ address snpa reaction new h

pub derived_is : {N : Type 0} → Derived N
derived_is tables old now frame reaction new (Elsewhere port is after) = none_carry _ reaction.frames (ap (λ (r : Reaction). r.frames) is)
derived_is tables old now frame reaction new (Alien own port first second is after) = only _ _ reaction is
derived_is tables old now frame reaction new (Faulty own fault port first is discards after) = reports_carry _ tables old now (discarded_octets frame fault) reaction.frames discards.reports
derived_is tables old now frame reaction new (Reads own pdu route port stands is does) =
    does_carry tables old now frame pdu stands (bound_of old.setup frame.to.lan) route _ reaction new refl refl does
derived_is tables old now frame reaction new (BadHello own fault port first is e after) = only _ _ reaction e
derived_is tables old now frame reaction new (HearsHello own heard rest port begins hears) = hears_carries _ tables old now (sender frame.from frame.to) heard.hello reaction new hears

-- ---- what is sent
sent_part : (cut : Bool) (id total header : ℕ) (unit : CarriedUnit (List ℕ)) (pdu : Pdu) (segment : Option SegmentPart) → total ≡ header + length unit.octets → header_length pdu ≡ header
    → IsPartOf (first_segment cut id total) segment unit.octets pdu.body → (is_segment segment ≡ cut) × IsSentPart id header unit pdu segment
sent_part false id total header unit pdu None whole same h = (refl, h)
sent_part false id total header unit pdu (Some part) whole same h = absurd h
sent_part true id total header unit pdu None whole same h = absurd h
sent_part true id total header unit pdu (Some part) whole same h =
    (refl, (h.id, h.total ∙ whole, same, subst (λ (n : ℕ). IsRun unit.octets pdu.body n) (omega (arith, h.offset)) h.run))

sent_from : {N : Type 0} (node : Node N) (unit : CarriedUnit (List ℕ)) (wish : Wish) (out : Pdu) → IsPiece (first_pdu node.setup unit wish node.next_id) out → IsSentFrom node unit wish out
sent_from node unit wish out piece =
    let first = first_pdu node.setup unit wish node.next_id in
    let whole : first_length node.setup unit wish ≡ header_length first + length unit.octets =
    omega (arith, same_length wish.cut 0 0 node.next_id (first_length node.setup unit wish)) in
    let parted : (is_segment out.segment ≡ wish.cut) × IsSentPart node.next_id (header_length first) unit out out.segment =
    sent_part wish.cut node.next_id (first_length node.setup unit wish) (header_length first) unit out out.segment whole piece.header piece.part in
    record { source = piece.source; destination = piece.destination; lifetime = piece.lifetime; cut = parted.0; part = parted.1 }

abbrev went : List Frame → Result (List Frame) DropCause
went frames = Ok frames

frames_same : (one other : List Frame) → went one ≡ went other → one ≡ other
frames_same one other e = cc e

no_drop : (frames : List Frame) (cause : DropCause) → went frames ≡ Err cause → ⊥
no_drop frames cause e = cc e

pub sent_is : {N : Type 0} → SentAll N
sent_is tables old now unit wish frames new (IsDropped cause why is after) = absurd (no_drop frames cause is)
sent_is tables old now unit wish frames new (IsSent hop found why out is after) =
    let first = first_pdu old.setup unit wish old.next_id in
    subst (λ (fs : List Frame). AllCarry fs (IsSentFrom old unit wish)) (sym (frames_same frames found is))
    (frames_carry (IsSentFrom old unit wish) old.setup hop.port out.0 found out.2
    (all_weaker (IsPiece first) (λ pdu. pdu.kind ≡ Dt → IsSentFrom old unit wish pdu) out.0 (λ pdu piece dt. sent_from old unit wish pdu piece)
    (cuts_are first (room_of old.setup hop.port.lan) first.segment out.0 refl out.1)))
