-- The frames of a unit at the other system, whatever else it holds: while no segment is refused for want of room, each run makes the front longer, and with the last one the unit
-- is whole, no octet of another unit in it, and the others are held as before. Where nothing else is held, none is refused.
use Rattle.std.proofs.Common.{◌≡◌, ℕ, ◌+◌, ◌<◌, ◌≤◌, Bool, true, false, if◌then◌else◌, List, [], ◌∷◌, ◌++◌, length, Option, Some, None, refl, sym, ◌∙◌, ap, subst, append_assoc, arith, length-append}
use Rattle.std.proofs.lemmas.List.{append-nil}
use Rattle.nsap.specs.declared.port.Port.{Port}
use Rattle.osi_base.specs.declared.unit.Unit.{Unit as CarriedUnit}
use Rattle.clnp_header.specs.declared.pdu.Pdu.{Pdu}
use Rattle.clnp_header.specs.declared.pdu.SegmentPart.{SegmentPart}
use Rattle.clnp_header.specs.Writing.{header_length, pdu_length}
use Rattle.clnp_segment.specs.Cutting.{Cuts, Pieces, piece_of, piece_pdus}
use Rattle.clnp_segment.specs.Store.{Coming, Holding, Key, Partial, Takes}
use Rattle.clnp_segment.specs.declared.store.Joined.{Joined}
use Rattle.clnp_segment.specs.declared.store.Joined.TheVariants as joined
use Rattle.clnp_segment.proofs.Determined.{one_answer}
use Rattle.clnp_system.specs.Node.{Frame, Node, Reaction}
use Rattle.clnp_system.specs.Receiving.{JoinGives, Receives, came, coming}
use Rattle.clnp_system.specs.Sending.{first_length, first_pdu, first_segment}
use Rattle.clnp_system.specs.Setting.{Setting, bound_of, room_of}
use Rattle.clnp_system.specs.Tables.{Tables}
use Rattle.clnp_system.specs.Written.{AreFrames, IsPduFrame}
use Rattle.clnp_system.proofs.Initial.{first_length_is}
use Rattle.law_clnp_net.proofs.once.Receivings.{one_receiving}
use Rattle.law_clnp_net.proofs.once.Reports.{one_reaction}
use Rattle.law_clnp_net.specs.Cutting.{SendsTo}
use Rattle.law_clnp_net.proofs.joining.Arrivals.{IsHere, comes_alone}
use Rattle.law_clnp_net.proofs.joining.Fronts.{next_run}
use Rattle.law_clnp_net.proofs.joining.Left as left
use Rattle.law_clnp_net.proofs.joining.Left.{FirstOf, IsInitial, IsReceiver, first_of, initial_part, read_there, unit_is}
use Rattle.law_clnp_net.proofs.joining.Sent.{initial, is_receiver, sent_there}
use Rattle.law_clnp_net.specs.Joining.{Bring, BringsBy, HasMost, HasNone, HoldsUnlessFull, IsWhole, OnlyHolds, unit_key}
use Rattle.net_world.specs.Prompt.{NoneRefused}
use Rattle.law_clnp_net.proofs.joining.Beside.{HoldsBeside, Kept, Refused, TakesMore, fewer_beside, room_alone, takes_last, takes_more}
use Rattle.law_clnp_net.proofs.joining.Here.{JoinsHere, joins_here, not_answered}

-- a refusal is told
pub told_full : {N : Type 0} (tables : Tables N) (node : Node N) (now : ℕ) (frame : Frame) (pdu : Pdu) (reaction : Reaction) → JoinGives tables node now frame pdu joined.Full reaction
    → NoneRefused reaction.ups → ⊥
told_full tables node now frame pdu reaction gives none = let told = subst NoneRefused gives.told none in told.0 (refl, refl)

module _ {N : Type 0} (tables : Tables N) (sender receiver : Setting) (unit : CarriedUnit (List ℕ)) (port : Port) (pdu : Pdu) (id total : ℕ)
    (is_receiver : IsReceiver receiver unit sender.life port) (initial : IsInitial pdu unit sender.life) (segment : pdu.segment ≡ Some (initial_part id total))
    (total_is : total ≡ pdu_length pdu) (short : length unit.octets ≤ 16384) (others : List Partial) where
  abbrev Head : ℕ
  Head = header_length pdu

  abbrev Own : Key
  Own = record { source = pdu.source; destination = pdu.destination; id = id }

  abbrev Run : List ℕ → Bool → List ℕ → Pdu
  Run front last octets = piece_of pdu (initial_part id total) (length front) last octets

  abbrev Part : List ℕ → Bool → SegmentPart
  Part front last = record { id = id; offset = 0 + length front; total = total; more = if last then false else true }

  run_is : (frame : Frame) (bound : ℕ) (front run rest : List ℕ) (last : Bool) → unit.octets ≡ front ++ (run ++ rest) → IsPduFrame sender port (Run front last run) frame
      → (coming frame bound (Run front last run) (Part front last)).segment ≡ next_run Head front run (length rest)
  run_is = left.run_is tables sender receiver unit port pdu id total is_receiver initial segment total_is short

  run_is_here : (frame : Frame) (front run : List ℕ) (last : Bool) → IsPduFrame sender port (Run front last run) frame → IsHere receiver frame (Run front last run)
  run_is_here frame front run last is_frame = read_there sender receiver unit sender.life port frame pdu (Run front last run) is_receiver initial is_frame refl refl refl refl

  module _ (none : HasNone Own others) where
    -- a run that others follow is held, as long as it is not refused
    run_held : (frame : Frame) (front run rest : List ℕ) (held : List Partial) (Next : List Partial → Type 0) → unit.octets ≡ front ++ (run ++ rest) → 0 < length rest
        → IsPduFrame sender port (Run front false run) frame → HoldsBeside Own Head front (length run + length rest) others held
        → ((after : List Partial) → HoldsBeside Own Head (front ++ run) (length rest) others after → Next after)
        → (old : Node N) (now : ℕ) (reaction : Reaction) (new : Node N) → old.setup ≡ receiver → old.store.held ≡ held → Receives tables old now frame reaction new
        → HoldsUnlessFull others old now reaction new Next
    run_held frame front run rest held Next octets more is_frame holds goes_on old now reaction new setup held_is receives = record {
      holds = λ unrefused. by unrefused takes;
      room = λ none_other most. unrefused_by none_other most takes;
    }
      where
        is : (coming frame (bound_of old.setup frame.to.lan) (Run front false run) (Part front false)).segment ≡ next_run Head front run (length rest)
        is = run_is frame (bound_of old.setup frame.to.lan) front run rest false octets is_frame

        holds_here : HoldsBeside Own Head front (length run + length rest) others old.store.held
        holds_here = subst (HoldsBeside Own Head front (length run + length rest) others) (sym held_is) holds

        come : Coming
        come = coming frame (bound_of old.setup frame.to.lan) (Run front false run) (Part front false)

        here_is : IsHere old.setup frame (Run front false run)
        here_is = subst (λ (s : Setting). IsHere s frame (Run front false run)) (sym setup) (run_is_here frame front run false is_frame)

        j : JoinsHere tables old now frame (Run front false run) (Part front false) reaction new
        j = joins_here tables old now frame (Run front false run) (Part front false) here_is refl reaction new receives

        takes : TakesMore old.store now come Head front run (length rest) others is none holds_here
        takes = takes_more old.store now come Head front run (length rest) others is none holds_here (is_frame.is_pdu.segment.some refl) more

        full : NoneRefused reaction.ups → Takes old.store now come joined.Full (record old.store { clock = now }) → ⊥
        full unrefused t =
            let one = one_answer old.store now come j.answer joined.Full j.store (record old.store { clock = now }) j.takes t in
            told_full tables old now frame (Run front false run) reaction (subst (λ (answer : Joined). JoinGives tables old now frame (Run front false run) answer reaction) one.0 j.gives) unrefused

        kept : (after : List Partial) → Takes old.store now come joined.Held (record old.store { clock = now; held = after }) → HoldsBeside Own Head (front ++ run) (length rest) others after
            → OnlyHolds others old now reaction new Next
        kept after t here =
            let one = one_answer old.store now come j.answer joined.Held j.store (record old.store { clock = now; held = after }) j.takes t in
            let gives : JoinGives tables old now frame (Run front false run) joined.Held reaction =
            subst (λ (answer : Joined). JoinGives tables old now frame (Run front false run) answer reaction) one.0 j.gives in
            record {
              store = j.store;
              fewer = subst (λ (s : Holding). (key : Key) → HasNone key s.held → HasNone key others) (sym one.1) (fewer_beside Own Head (front ++ run) (length rest) others after here);
              quiet =
                  one_reaction reaction (record { ups = []; frames = [] }) gives.0
                  (not_answered tables old now frame (Run front false run) (Part front false) here_is refl reaction.frames gives.1);
              after = j.after;
              next = subst (λ (s : Holding). Next s.held) (sym one.1) (goes_on after here);
            }

        by : NoneRefused reaction.ups → TakesMore old.store now come Head front run (length rest) others is none holds_here → OnlyHolds others old now reaction new Next
        by unrefused (Refused lacks t) = absurd (full unrefused t)
        by unrefused (Kept after t here) = kept after t here

        -- where nothing else is held, there is room
        unrefused_by : others ≡ [] → HasMost old.store → TakesMore old.store now come Head front run (length rest) others is none holds_here → NoneRefused reaction.ups
        unrefused_by none_other most (Refused lacks t) =
            let count : length unit.octets ≡ length front + (length run + length rest) =
            ap length octets ∙ length-append front (run ++ rest) ∙ ap (λ (n : ℕ). length front + n) (length-append run rest) in
            absurd (room_alone old.store now come Head front run (length rest) others is none holds_here none_other most (omega (arith, count, short)) lacks)
        unrefused_by none_other most (Kept after t here) = subst NoneRefused (sym (ap (λ (r : Reaction). r.ups) (kept after t here).quiet)) tt

    -- the last run makes the unit whole
    last_whole : (frame : Frame) (front run : List ℕ) (held : List Partial) → unit.octets ≡ front ++ run → IsPduFrame sender port (Run front true run) frame
        → HoldsBeside Own Head front (length run) others held
        → (old : Node N) (now : ℕ) (reaction : Reaction) (new : Node N) → old.setup ≡ receiver → old.store.held ≡ held → Receives tables old now frame reaction new
        → IsWhole unit others old now reaction new
    last_whole frame front run held octets is_frame holds old now reaction new setup held_is receives =
        let come : Coming = coming frame (bound_of old.setup frame.to.lan) (Run front true run) (Part front true) in
        let is = run_is frame (bound_of old.setup frame.to.lan) front run [] true (octets ∙ ap (λ (xs : List ℕ). front ++ xs) (sym (append-nil run))) is_frame in
        let none_more : length run ≡ length run + 0 = omega arith in
        let holds_here : HoldsBeside Own Head front (length run + 0) others old.store.held =
        subst (λ (n : ℕ). HoldsBeside Own Head front n others old.store.held) none_more (subst (HoldsBeside Own Head front (length run) others) (sym held_is) holds) in
        let after : Holding = record old.store { clock = now; held = others } in
        let here_is : IsHere old.setup frame (Run front true run) = subst (λ (s : Setting). IsHere s frame (Run front true run)) (sym setup) (run_is_here frame front run true is_frame) in
        let j = joins_here tables old now frame (Run front true run) (Part front true) here_is refl reaction new receives in
        let one = one_answer old.store now come j.answer (joined.Whole (front ++ run)) j.store after j.takes (takes_last old.store now come Head front run others is none holds_here) in
        let gives : JoinGives tables old now frame (Run front true run) (joined.Whole (front ++ run)) reaction =
        subst (λ (answer : Joined). JoinGives tables old now frame (Run front true run) answer reaction) one.0 j.gives in
        record {
          store = j.store;
          comes =
              unit_is old (Run front true run) (front ++ run) unit reaction initial.source initial.destination (sym octets)
              (one_reaction reaction (record { ups = came old (Run front true run) (front ++ run); frames = [] }) gives.0
              (not_answered tables old now frame (Run front true run) (Part front true) here_is refl reaction.frames gives.1));
          after = j.after;
          others_are = ap (λ (s : Holding). s.held) one.1;
        }

    pub runs_bring : (room : ℕ) (front rest : List ℕ) (pieces : List (List ℕ)) (frames : List Frame) (held : List Partial) → unit.octets ≡ front ++ rest → Pieces room Head rest pieces
        → AreFrames sender port (piece_pdus pdu (initial_part id total) (length front) pieces) frames → HoldsBeside Own Head front (length rest) others held
        → Bring tables receiver unit others frames held
    runs_bring room front rest [] frames held octets h are holds = absurd h
    runs_bring room front rest (last ∷ []) frames held octets h are holds =
        let one : frames ≡ are.0 ∷ [] = are.4 ∙ ap (λ (fs : List Frame). are.0 ∷ fs) are.3 in
        let all : unit.octets ≡ front ++ last = octets ∙ ap (λ (xs : List ℕ). front ++ xs) (sym h.1) in
        let holds_last : HoldsBeside Own Head front (length last) others held = subst (λ (xs : List ℕ). HoldsBeside Own Head front (length xs) others held) (sym h.1) holds in
        subst (λ (fs : List Frame). Bring tables receiver unit others fs held) (sym one) (last_whole are.0 front last held all are.2 holds_last)
    runs_bring room front rest (piece ∷ next ∷ pieces) frames held octets h are holds =
        let behind : List ℕ = h.2.0 in
        let parted : rest ≡ piece ++ behind = h.2.1 in
        let all : unit.octets ≡ front ++ (piece ++ behind) = octets ∙ ap (λ (xs : List ℕ). front ++ xs) parted in
        let count : length rest ≡ length piece + length behind = ap length parted ∙ length-append piece behind in
        let more : 0 < length behind = omega (arith, h.0, h.1.fits, count) in
        let holds_count : HoldsBeside Own Head front (length piece + length behind) others held = subst (λ (n : ℕ). HoldsBeside Own Head front n others held) count holds in
        let goes_on : (after : List Partial) → HoldsBeside Own Head (front ++ piece) (length behind) others after → Bring tables receiver unit others are.1 after =
        λ after here. runs_bring room (front ++ piece) behind (next ∷ pieces) are.1 after (all ∙ sym (append_assoc front piece behind)) h.2.2
        (subst (λ (n : ℕ). AreFrames sender port (piece_pdus pdu (initial_part id total) n (next ∷ pieces)) are.1) (sym (length-append front piece)) are.3) here in
        let follows : FirstOf are.1 = first_of sender port pdu (initial_part id total) (length front + length piece) next pieces are.1 are.3 in
        subst (λ (fs : List Frame). Bring tables receiver unit others fs held) (sym are.4)
        (λ old now reaction new setup held_is receives.
        held_before are.1 follows old now reaction new
        (run_held are.0 front piece behind held (Bring tables receiver unit others are.1) all more are.2 holds_count goes_on old now reaction new setup held_is receives))
      where
        held_before : (frames : List Frame) → FirstOf frames → (old : Node N) (now : ℕ) (reaction : Reaction) (new : Node N)
            → HoldsUnlessFull others old now reaction new (Bring tables receiver unit others frames)
            → BringsBy (Bring tables receiver unit others frames) unit others frames old now reaction new
        held_before [] follows old now reaction new h = let e = follows.are in absurd cc
        held_before (frame ∷ frames) follows old now reaction new h = h

-- ---- a unit in one PDU

one_frame_brings : {N : Type 0} (tables : Tables N) (sender receiver : Setting) (unit : CarriedUnit (List ℕ)) (port : Port) (pdu : Pdu) (room : ℕ) (pdus : List Pdu) (frames : List Frame) (others : List Partial)
    → IsReceiver receiver unit sender.life port → IsInitial pdu unit sender.life → pdu.segment ≡ None → Cuts pdu room None (Some pdus) → AreFrames sender port pdus frames
    → Bring tables receiver unit others frames others
one_frame_brings {N} tables sender receiver unit port pdu room pdus frames others is_receiver is segment cuts are =
    let h : AreFrames sender port (pdu ∷ []) frames = subst (λ (ps : List Pdu). AreFrames sender port ps frames) cuts.1 are in
    let one : frames ≡ h.0 ∷ [] = h.4 ∙ ap (λ (fs : List Frame). h.0 ∷ fs) h.3 in
    subst (λ (fs : List Frame). Bring tables receiver unit others fs others) (sym one) (λ old now reaction new setup held_is receives. comes h.0 h.2 old now reaction new setup held_is receives)
  where
    comes : (frame : Frame) → IsPduFrame sender port pdu frame → (old : Node N) (now : ℕ) (reaction : Reaction) (new : Node N) → old.setup ≡ receiver → old.store.held ≡ others
        → Receives tables old now frame reaction new → IsWhole unit others old now reaction new
    comes frame is_frame old now reaction new setup held_is receives =
        let here_is : IsHere old.setup frame pdu =
        subst (λ (s : Setting). IsHere s frame pdu) (sym setup) (read_there sender receiver unit sender.life port frame pdu pdu is_receiver is is_frame refl refl refl refl) in
        let made = comes_alone tables old now frame pdu here_is segment in
        let both = one_receiving tables old now frame reaction _ new _ receives made in
        record {
          store = old.store;
          comes = unit_is old pdu pdu.body unit reaction is.source is.destination is.body both.0;
          after = both.1;
          others_are = held_is;
        }

-- ---- the law

-- where nothing that is held has the key of the unit, its frames bring it
pub cut_brings : {N : Type 0} (tables : Tables N) (node : Node N) (now : ℕ) (other : Setting) (unit : CarriedUnit (List ℕ)) (port : Port) (frames : List Frame) (after : Node N) (others : List Partial)
    (s : SendsTo tables node now other unit port frames after) → (s.wish.cut ≡ true → HasNone (unit_key unit node.next_id) others) → Bring tables other unit others frames others
cut_brings tables node now other unit port frames after others s fresh = by s.wish.cut refl
  where
    there : Rattle.law_clnp_net.proofs.joining.Sent.IsSentThere node now unit s.wish port frames after
    there = sent_there tables node now other unit s.wish port frames after s.faces s.plain s.sends

    pdu : Pdu
    pdu = first_pdu node.setup unit s.wish node.next_id

    total : ℕ
    total = first_length node.setup unit s.wish

    hears : IsReceiver other unit node.setup.life port
    hears = is_receiver tables node now other unit port s.faces

    first : IsInitial pdu unit node.setup.life
    first = initial node.setup unit s.wish node.next_id s.plain

    by : (cut : Bool) → s.wish.cut ≡ cut → Bring tables other unit others frames others
    by false e =
        let segment : pdu.segment ≡ None = ap (λ (c : Bool). first_segment c node.next_id total) e in
        let cuts = subst (λ (part : Option SegmentPart). Cuts pdu (room_of node.setup port.lan) part (Some there.cut.0)) segment there.cut.1 in
        one_frame_brings tables node.setup other unit port pdu (room_of node.setup port.lan) there.cut.0 frames others hears first segment cuts there.cut.2
    by true e =
        let segment : pdu.segment ≡ Some (initial_part node.next_id total) = ap (λ (c : Bool). first_segment c node.next_id total) e in
        let cuts = subst (λ (part : Option SegmentPart). Cuts pdu (room_of node.setup port.lan) part (Some there.cut.0)) segment there.cut.1 in
        runs_bring tables node.setup other unit port pdu node.next_id total hears first segment (sym (first_length_is node.setup unit s.wish node.next_id total)) there.few_octets others (fresh e)
        (room_of node.setup port.lan) [] unit.octets cuts.0 frames others refl cuts.1 (subst (λ (pdus : List Pdu). AreFrames node.setup port pdus frames) cuts.2 there.cut.2) refl
