-- Data can be cut for a room: as long as what remains does not fit, the most octets that do, in eights. So a PDU that may be written goes
-- out in frames, or does not fit and may not be cut.
use Rattle.std.proofs.Common.{◌≡◌, ◌⊎◌, ℕ, zero, suc, ◌+◌, ◌*◌, ◌-◌, ◌/◌, ◌<◌, ◌≤◌, Bool, true, false, List, [], ◌∷◌, ◌++◌, length, take, drop, Option, Some, None, refl, sym, subst, arith, inl, inr}
use Rattle.std.specs.Prelude.{IfSome, IsSome, ◌==◌}
use Rattle.std.specs.List.{AllByRecursion}
use Rattle.std.proofs.lemmas.Bool.{cases_lt}
use Rattle.std.proofs.lemmas.List.{length-drop, length-take-le, take-append-drop}
use Rattle.nsap.specs.declared.port.Port.{Port}
use Rattle.law_carrier_answers.specs.Answers.{AreOctets}
use Rattle.clnp_header.specs.declared.pdu.Pdu.{Pdu}
use Rattle.clnp_header.specs.declared.pdu.SegmentPart.{SegmentPart}
use Rattle.clnp_header.specs.Grammar.{IsPlaced}
use Rattle.clnp_header.specs.Writing.{header_length, pdu_length}
use Rattle.clnp_segment.specs.Cutting.{Cuts, MayGo, Pieces, piece_of, piece_pdus}
use Rattle.clnp_system.specs.Node.{Frame}
use Rattle.clnp_system.specs.Setting.{HasLan, Setting, port_on, room_of}
use Rattle.clnp_system.specs.Written.{AreFrames, CutFrames, IsHelloFrame, IsPduFrame, MayBeWritten}
use Rattle.clnp_system.proofs.Lans.{lan_of}
use Rattle.clnp_system.proofs.Hops.{found as found_all}
use Rattle.esis_pdu.specs.declared.hello.Hello.{Hello}
use Rattle.law_clnp_net.specs.Standing.{IsFrame, IsSetUp, IsSnpa}
use Rattle.law_clnp_net.proofs.written.Fitting.{FitsOctets, FitsPart}
use Rattle.clnp_segment.proofs.Cuttings.{cut_written}
use Rattle.law_clnp_net.proofs.written.Octets.{octets_back, octets_front}
use Rattle.law_clnp_net.proofs.written.Writes.{MayBeHello, hello_frame, pdu_frame}

-- ---- data

-- runs, of which there is a first
record IsCut (room header : ℕ) (octets : List ℕ) : Type 0 where
  first : List ℕ
  others : List (List ℕ)
  are : Pieces room header octets (first ∷ others)

some_pieces : (n room header : ℕ) (octets : List ℕ) → length octets ≤ n → header + 8 ≤ room → IsCut room header octets
some_pieces zero room header octets few wide = record { first = octets; others = []; are = (omega (arith, few, wide), refl) }
some_pieces (suc n) room header octets few wide = elim (cases_lt room (header + length octets)) [
  | inr fits ↦ record { first = octets; others = []; are = (fits, refl) }
  | inl long ↦
      let count : ℕ = 8 * ((room - header) / 8) in
      let within : count ≤ length octets = omega (arith, long) in
      let size : length (take count octets) ≡ count = length-take-le count octets within in
      let left : length (drop count octets) ≤ n = omega (arith, length-drop count octets, few, wide) in
      let rest = some_pieces n room header (drop count octets) left wide in
      record {
        first = take count octets;
        others = rest.first ∷ rest.others;
        are = (
          long,
          record { fits = omega (arith, size); eights = omega (arith, size); most = omega (arith, size, wide) },
          (drop count octets, sym (take-append-drop count octets), rest.are),
        );
      }
]

-- ---- the PDUs

placed_fits : (more : Bool) (offset size total : ℕ) → total < 65536 → IsPlaced more (offset + size) total → offset < 65536
placed_fits true offset size total fits h = omega (arith, fits, h)
placed_fits false offset size total fits h = omega (arith, fits, h)

one_fits : (pdu : Pdu) (part : SegmentPart) (position : ℕ) (last : Bool) (octets : List ℕ) (room : ℕ) → FitsOctets pdu → FitsPart part → AreOctets octets
    → MayGo room (piece_of pdu part position last octets) → FitsOctets (piece_of pdu part position last octets)
one_fits pdu part position last octets room h p fits go = record {
  destination = h.destination;
  source = h.source;
  lifetime = h.lifetime;
  segment = record { id = p.id; offset = placed_fits _ (part.offset + position) _ part.total p.total go.writable.segment.placed; total = p.total };
  options = h.options;
  body = fits;
}

all_fit : (pdu : Pdu) (part : SegmentPart) (position room header : ℕ) (octets : List ℕ) (pieces : List (List ℕ)) → FitsOctets pdu → FitsPart part → AreOctets octets
    → Pieces room header octets pieces → AllByRecursion (MayGo room) (piece_pdus pdu part position pieces) → AllByRecursion FitsOctets (piece_pdus pdu part position pieces)
all_fit pdu part position room header octets [] h p fits are go = absurd are
all_fit pdu part position room header octets (last ∷ []) h p fits are go =
    (one_fits pdu part position true last room h p (subst AreOctets (sym are.1) fits) go.0, tt)
all_fit pdu part position room header octets (piece ∷ next ∷ pieces) h p fits are go =
    let both : AreOctets (piece ++ are.2.0) = subst AreOctets are.2.1 fits in (
      one_fits pdu part position false piece room h p (octets_front piece are.2.0 both) go.0,
      all_fit pdu part (position + length piece) room header are.2.0 (next ∷ pieces) h p (octets_back piece are.2.0 both) are.2.2 go.1,
    )

-- ---- frames
some_is : {A : Type 0} (P : A → Type 0) (found : Option A) (x : A) → found ≡ Some x → IfSome found P → P x
some_is P None x e h = absurd cc
some_is P (Some y) x e h = let same : y ≡ x = cc in subst P same h

module _ (setting : Setting) (set : IsSetUp setting) where
  -- the own port on a LAN has an SNPA
  own_snpa : (lan : ℕ) (own : Port) → port_on setting lan ≡ Some own → IsSnpa own.snpa
  own_snpa lan own e =
      some_is (λ (port : Port). IsSnpa port.snpa) (port_on setting lan) own e (found_all (λ (port : Port). IsSnpa port.snpa) (λ (port : Port). port.lan == lan) setting.ports set.ports)

  -- what a frame is, and that it is in octets
  pub record Sent (IsThat : Frame → Type 0) : Type 0 where
    pub frame : Frame
    pub is : IsThat frame
    pub fits : IsFrame frame

  pub sent_pdu : (to : Port) (pdu : Pdu) → IsSome (port_on setting to.lan) → IsSnpa to.snpa → MayBeWritten pdu → FitsOctets pdu → Sent (IsPduFrame setting to pdu)
  sent_pdu to pdu port snpa may fits =
      let f = pdu_frame setting to pdu port may fits in
      record {
        frame = f.0;
        is = f.1;
        fits = record { from = own_snpa to.lan f.0.from f.1.goes.from; to = subst (λ (p : Port). IsSnpa p.snpa) (sym f.1.goes.to_is) snpa; octets = f.2 };
      }

  pub sent_hello : (to : Port) (hello : Hello) → IsSome (port_on setting to.lan) → IsSnpa to.snpa → MayBeHello hello → Sent (IsHelloFrame setting to hello)
  sent_hello to hello port snpa may =
      let f = hello_frame setting to hello port may in
      record {
        frame = f.0;
        is = f.1;
        fits = record { from = own_snpa to.lan f.0.from f.1.goes.from; to = subst (λ (p : Port). IsSnpa p.snpa) (sym f.1.goes.to_is) snpa; octets = f.2 };
      }

  -- frames of which that holds, in octets
  pub record SentAll (AreThese : List Frame → Type 0) : Type 0 where
    pub frames : List Frame
    pub are : AreThese frames
    pub fit : AllByRecursion IsFrame frames

  pub sent_pdus : (to : Port) (pdus : List Pdu) → IsSome (port_on setting to.lan) → IsSnpa to.snpa → AllByRecursion MayBeWritten pdus → AllByRecursion FitsOctets pdus
      → SentAll (AreFrames setting to pdus)
  sent_pdus to [] port snpa may fits = record { frames = []; are = refl; fit = tt }
  sent_pdus to (pdu ∷ pdus) port snpa may fits =
      let first = sent_pdu to pdu port snpa may.0 fits.0 in
      let rest = sent_pdus to pdus port snpa may.1 fits.1 in
      record { frames = first.frame ∷ rest.frames; are = (first.frame, rest.frames, first.is, rest.are, refl); fit = (first.fits, rest.fit) }

  may_all : (room : ℕ) (pdus : List Pdu) → room ≤ 1497 → AllByRecursion (MayGo room) pdus → AllByRecursion MayBeWritten pdus
  may_all room [] most h = tt
  may_all room (pdu ∷ pdus) most h =
      (record { writable = h.0.writable; header = h.0.short; whole = omega (arith, h.0.fits, most) }, may_all room pdus most h.1)

  -- a PDU is cut, or is too long and may not be
  cut_by : (to : Port) (pdu : Pdu) (segment : Option SegmentPart) → pdu.segment ≡ segment → HasLan setting to.lan → IsSome (port_on setting to.lan) → IsSnpa to.snpa → MayBeWritten pdu → FitsOctets pdu
      → IfSome segment FitsPart
      → SentAll (λ frames. (pdus : List Pdu) × Cuts pdu (room_of setting to.lan) segment (Some pdus) × AreFrames setting to pdus frames) ⊎ Cuts pdu (room_of setting to.lan) segment None
  cut_by to pdu None e lan port snpa may fits part = elim (cases_lt (room_of setting to.lan) (pdu_length pdu)) [
    | inl long ↦ inr long
    | inr short ↦
        let sent = sent_pdus to (pdu ∷ []) port snpa (may, tt) (fits, tt) in
        inl (record { frames = sent.frames; are = (pdu ∷ [], (short, refl), sent.are); fit = sent.fit })
  ]
  cut_by to pdu (Some part) e lan port snpa may fits part_fits =
      let room : ℕ = room_of setting to.lan in
      let header : ℕ = header_length pdu in
      let cut = some_pieces (length pdu.body) room header pdu.body (omega arith) (omega (arith, lan.least_room, may.header)) in
      let pieces : List (List ℕ) = cut.first ∷ cut.others in
      let pdus : List Pdu = piece_pdus pdu part 0 pieces in
      let cuts : Cuts pdu room (Some part) (Some pdus) = (pieces, cut.are, refl) in
      let go = cut_written pdu room (Some part) pdus e may.writable may.header lan.least_room cuts in
      let all = all_fit pdu part 0 room header pdu.body pieces fits part_fits fits.body cut.are go in
      let sent = sent_pdus to pdus port snpa (may_all room pdus lan.most_room go) all in
      inl (record { frames = sent.frames; are = (pdus, cuts, sent.are); fit = sent.fit })

  pub sent_cut : (to : Port) (pdu : Pdu) → IsSome (port_on setting to.lan) → IsSnpa to.snpa → MayBeWritten pdu → FitsOctets pdu
      → SentAll (λ frames. CutFrames setting to pdu (Some frames)) ⊎ CutFrames setting to pdu None
  sent_cut to pdu port snpa may fits = cut_by to pdu pdu.segment refl (lan_of setting to.lan set.may port) port snpa may fits fits.segment
