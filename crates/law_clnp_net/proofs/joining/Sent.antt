-- A unit that is sent to the other system: its hop is the other's port, so its frames go there, and each has a PDU of
-- the unit within the room of the LAN.
use Rattle.std.proofs.Common.{◌≡◌, ◌&&◌, ℕ, ◌+◌, ◌≤◌, Bool, true, false, if◌then◌else◌, List, [], ◌∷◌, ◌++◌, length, Option, Some, None, Result, Ok, Err, refl, sym, ◌∙◌, ap, subst, arith}
use Rattle.std.specs.Prelude.{nat_lt, not}
use Rattle.std.specs.List.{AllByRecursion}
use Rattle.std.proofs.lemmas.Bool.{ltb-false}
use Rattle.nsap.specs.declared.port.Hop.{Hop}
use Rattle.nsap.specs.declared.port.Port.{Port}
use Rattle.osi_base.specs.declared.unit.DropCause.{DropCause}
use Rattle.osi_base.specs.declared.unit.DropCause.TheVariants as causes
use Rattle.osi_base.specs.declared.unit.Unit.{Unit as CarriedUnit}
use Rattle.osi_base.specs.declared.unit.Wish.{Wish}
use Rattle.clnp_options.specs.Options.{value_of}
use Rattle.clnp_header.specs.declared.pdu.Pdu.{Pdu}
use Rattle.clnp_header.specs.declared.pdu.SegmentPart.{SegmentPart}
use Rattle.clnp_header.specs.Values.{parameters}
use Rattle.clnp_header.specs.Writing.{header_length, pdu_length}
use Rattle.clnp_header.specs.Grammar.{segment_part}
use Rattle.pdu_parts.specs.Parameter.{spelled}
use Rattle.clnp_segment.specs.Cutting.{Cuts, Pieces, piece_of, piece_pdus}
use Rattle.clnp_system.specs.Hops.{hop_of}
use Rattle.clnp_system.specs.Node.{Frame, Node, at_tick}
use Rattle.clnp_system.specs.Sending.{IsDropped, IsSent, Sends, by_hop, first_pdu, hop_by, numbered_if, recording_options, route_options, sending, way}
use Rattle.clnp_system.specs.Setting.{Setting, is_own_system, path_of, room_of}
use Rattle.clnp_system.specs.Tables.{Tables}
use Rattle.clnp_system.specs.Written.{AreFrames, CutFrames}
use Rattle.clnp_system.proofs.Outgoing.{IsPiece, cuts_are}
use Rattle.law_clnp_net.specs.Cutting.{Faces, IsFrameTo, KeepsAll}
use Rattle.law_clnp_net.specs.Laws.{CutGoes, CutKeeps}
use Rattle.law_clnp_net.proofs.joining.Arrivals.{has_pdu, whole_length}
use Rattle.law_clnp_net.proofs.joining.Left.{IsInitial, IsReceiver}

-- the first test failed
pub not_first : {A : Type 0} (test : Bool) (cause : DropCause) (rest : Result A DropCause) (x : A) → (if test then Err cause else rest) ≡ Ok x → (test ≡ false) × (rest ≡ Ok x)
not_first true cause rest x e = absurd cc
not_first false cause rest x e = (refl, e)

same_ok : {A : Type 0} (answer : Result A DropCause) (x y : A) → answer ≡ Ok x → answer ≡ Ok y → x ≡ y
same_ok answer x y e k = cc

pub same_some : {A : Type 0} (x y : A) → Some x ≡ Some y → x ≡ y
same_some x y e = cc

-- a way was found
found_way : {N : Type 0} (node : Node N) (now : ℕ) (unit : CarriedUnit (List ℕ)) (wish : Wish) (found : Option Hop) (hop : Hop) → by_hop node now unit wish found ≡ Ok hop → found ≡ Some hop
found_way node now unit wish None hop e = absurd cc
found_way node now unit wish (Some other) hop e =
    let long = not_first (not wish.cut && _) causes.TooLong _ hop e in
    let spent = not_first _ causes.IdsSpent (Ok other) hop long.1 in
    ap Some (same_ok (Ok other) other hop refl spent.1)

not_own : (own : Bool) (found : Option Hop) (hop : Hop) → (if own then None else found) ≡ Some hop → found ≡ Some hop
not_own true found hop e = absurd cc
not_own false found hop e = e

-- by no source route the hop is that of the address
by_address : {N : Type 0} (tables : Tables N) (node : Node N) (now : ℕ) (address : List ℕ) (path : ℕ) → path ≡ 0 → hop_by tables node now address (path_of node.setup path) ≡ hop_of tables node now address
by_address tables node now address path e = ap (λ (n : ℕ). hop_by tables node now address (path_of node.setup n)) e

module _ {N : Type 0} (tables : Tables N) (node : Node N) (now : ℕ) (unit : CarriedUnit (List ℕ)) (wish : Wish) (hop : Hop) (goes : sending tables node now unit wish ≡ Ok hop) where
  few_octets : length unit.octets ≤ 16384
  few_octets = ltb-false 16384 (length unit.octets) (not_first (nat_lt 16384 (length unit.octets)) causes.TooLong _ hop goes).0

  pub hop_found : wish.path ≡ 0 → hop_of tables node now unit.to ≡ Some hop
  hop_found plain =
      let by : by_hop node now unit wish (way tables node now unit.to wish.path) ≡ Ok hop = (not_first (nat_lt 16384 (length unit.octets)) causes.TooLong _ hop goes).1 in
      let found = found_way node now unit wish (way tables node now unit.to wish.path) hop by in
      sym (by_address tables node now unit.to wish.path plain) ∙ not_own (is_own_system node.setup unit.to) (hop_by tables node now unit.to (path_of node.setup wish.path)) hop found

-- ---- what is sent there

-- the unit has few octets, and its initial PDU was cut for the other's port
pub record IsSentThere {N : Type 0} (node : Node N) (now : ℕ) (unit : CarriedUnit (List ℕ)) (wish : Wish) (port : Port) (frames : List Frame) (after : Node N) : Type 0 where
  pub few_octets : length unit.octets ≤ 16384
  pub cut : CutFrames node.setup port (first_pdu node.setup unit wish node.next_id) (Some frames)
  pub after_is : after ≡ numbered_if wish.cut (at_tick now node) now

pub sent_there : {N : Type 0} (tables : Tables N) (node : Node N) (now : ℕ) (other : Setting) (unit : CarriedUnit (List ℕ)) (wish : Wish) (port : Port) (frames : List Frame) (after : Node N)
    → Faces tables node now other unit port → wish.path ≡ 0 → Sends tables node now unit wish (Ok frames) after → IsSentThere node now unit wish port frames after
sent_there tables node now other unit wish port frames after faces plain (IsDropped cause is sent_is new_is) = absurd (not_sent frames cause sent_is)
  where
    not_sent : (frames : List Frame) (cause : DropCause) → Ok frames ≡ Err cause → ⊥
    not_sent frames cause e = cc e
sent_there tables node now other unit wish port frames after faces plain (IsSent hop cut_frames is cut sent_is new_is) =
    let same : frames ≡ cut_frames = same_ok (Ok frames) frames cut_frames refl sent_is in
    let hop_is : hop ≡ faces.hop = same_some hop faces.hop (sym (hop_found tables node now unit wish hop is plain) ∙ faces.found) in
    let port_is : hop.port ≡ port = ap (λ (h : Hop). h.port) hop_is ∙ faces.port_is in
    let pdu = first_pdu node.setup unit wish node.next_id in
    record {
      few_octets = few_octets tables node now unit wish hop is;
      cut = subst (λ (to : Port). CutFrames node.setup to pdu (Some frames)) port_is (subst (λ (fs : List Frame). CutFrames node.setup hop.port pdu (Some fs)) (sym same) cut);
      after_is = new_is;
    }

-- ---- the initial PDU

recording_routeless : (trace : Bool) → value_of 0xc8 (parameters (recording_options trace)) ≡ None
recording_routeless true = refl
recording_routeless false = refl

routeless : (setting : Setting) (wish : Wish) → wish.path ≡ 0 → value_of 0xc8 (parameters (route_options (path_of setting wish.path) ++ recording_options wish.trace)) ≡ None
routeless setting wish e =
    ap (λ (path : ℕ). value_of 0xc8 (parameters (route_options (path_of setting path) ++ recording_options wish.trace))) e ∙ recording_routeless wish.trace

pub initial : (setting : Setting) (unit : CarriedUnit (List ℕ)) (wish : Wish) (id : ℕ) → wish.path ≡ 0 → IsInitial (first_pdu setting unit wish id) unit setting.life
initial setting unit wish id plain =
    record { kind = refl; source = refl; destination = refl; lifetime = refl; body = refl; routeless = routeless setting wish plain }

-- ---- the laws

pub is_receiver : {N : Type 0} (tables : Tables N) (node : Node N) (now : ℕ) (other : Setting) (unit : CarriedUnit (List ℕ)) (port : Port) → Faces tables node now other unit port
    → IsReceiver other unit node.setup.life port
is_receiver tables node now other unit port f = record { at = f.at; single = f.single; lives = f.lives; end = f.end; own = f.own; selector = f.selector }

-- each PDU fits the room
run_length : (pdu : Pdu) (part : SegmentPart) (position : ℕ) (last : Bool) (run : List ℕ) → pdu.segment ≡ Some part
    → pdu_length (piece_of pdu part position last run) ≡ header_length pdu + length run
run_length pdu part position last run segment =
    ap (λ (s : Option SegmentPart). 11 + length pdu.destination + length pdu.source + length (segment_part s) + length (spelled (parameters pdu.options)) + length run) (sym segment)

pieces_fit : (pdu : Pdu) (part : SegmentPart) (room position : ℕ) (octets : List ℕ) (pieces : List (List ℕ)) → pdu.segment ≡ Some part → Pieces room (header_length pdu) octets pieces
    → AllByRecursion (λ (piece : Pdu). pdu_length piece ≤ room) (piece_pdus pdu part position pieces)
pieces_fit pdu part room position octets [] segment h = absurd h
pieces_fit pdu part room position octets (last ∷ []) segment h =
    (omega (arith, run_length pdu part position true last segment, h.0, ap length h.1), tt)
pieces_fit pdu part room position octets (piece ∷ next ∷ pieces) segment h =
    (omega (arith, run_length pdu part position false piece segment, h.1.fits), pieces_fit pdu part room (position + length piece) h.2.0 (next ∷ pieces) segment h.2.2)

cuts_fit : (pdu : Pdu) (room : ℕ) (part : Option SegmentPart) (pdus : List Pdu) → pdu.segment ≡ part → Cuts pdu room part (Some pdus)
    → AllByRecursion (λ (piece : Pdu). pdu_length piece ≤ room) pdus
cuts_fit pdu room None pdus segment h = subst (AllByRecursion (λ (piece : Pdu). pdu_length piece ≤ room)) (sym h.1) (h.0, tt)
cuts_fit pdu room (Some part) pdus segment h =
    subst (AllByRecursion (λ (piece : Pdu). pdu_length piece ≤ room)) (sym h.2) (pieces_fit pdu part room 0 pdu.body h.0 segment h.1)

frames_go : (sender : Setting) (port : Port) (unit : CarriedUnit (List ℕ)) (pdu : Pdu) (pdus : List Pdu) (frames : List Frame) → IsInitial pdu unit sender.life → AllByRecursion (IsPiece pdu) pdus
    → AllByRecursion (λ (piece : Pdu). pdu_length piece ≤ room_of sender port.lan) pdus → AreFrames sender port pdus frames → AllByRecursion (IsFrameTo sender port unit) frames
frames_go sender port unit pdu [] frames is pieces fit are = subst (AllByRecursion (IsFrameTo sender port unit)) (sym are) tt
frames_go sender port unit pdu (piece ∷ pdus) frames is pieces fit are =
    let one : IsFrameTo sender port unit are.0 = record {
      from = are.2.goes.from;
      to = are.2.goes.to_is;
      room = omega (arith, whole_length are.0.octets piece are.2.is_pdu, fit.0);
      pdu = piece;
      stands = has_pdu are.0.octets piece are.2.is_pdu;
      kind = pieces.0.kind ∙ is.kind;
      source = pieces.0.source ∙ is.source;
      destination = pieces.0.destination ∙ is.destination;
      lifetime = pieces.0.lifetime ∙ is.lifetime;
    } in
    subst (AllByRecursion (IsFrameTo sender port unit)) (sym are.4) (one, frames_go sender port unit pdu pdus are.1 is pieces.1 fit.1 are.3)

pub cut_keeps : {N : Type 0} → CutKeeps N
cut_keeps tables node now other unit port frames after s =
    let there = sent_there tables node now other unit s.wish port frames after s.faces s.plain s.sends in
    subst (KeepsAll node now) (sym there.after_is) (kept s.wish.cut)
  where
    kept : (cut : Bool) → KeepsAll node now (numbered_if cut (at_tick now node) now)
    kept true = record { setup = refl; clock = refl; store = refl; neighbours = refl; redirects = refl }
    kept false = record { setup = refl; clock = refl; store = refl; neighbours = refl; redirects = refl }

pub cut_goes : {N : Type 0} → CutGoes N
cut_goes tables node now other unit port frames after s =
    let there = sent_there tables node now other unit s.wish port frames after s.faces s.plain s.sends in
    let pdu = first_pdu node.setup unit s.wish node.next_id in
    frames_go node.setup port unit pdu there.cut.0 frames (initial node.setup unit s.wish node.next_id s.plain)
    (cuts_are pdu (room_of node.setup port.lan) pdu.segment there.cut.0 refl there.cut.1)
    (cuts_fit pdu (room_of node.setup port.lan) pdu.segment there.cut.0 refl there.cut.1) there.cut.2
