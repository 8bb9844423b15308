-- The frames of a unit at the other system: what is held is always the front of the unit that the frames before brought, and the next frame is the
-- next run of the rest. So it is held while another follows it, and with the last one the unit is whole.
use Rattle.std.proofs.Common.{◌≡◌, ◌⊎◌, ℕ, ◌+◌, ◌≤◌, Bool, true, false, if◌then◌else◌, List, [], ◌∷◌, ◌++◌, length, Option, Some, None, refl, sym, ◌∙◌, ap, subst, arith, length-append}
use Rattle.nsap.specs.Address.{selector_of}
use Rattle.nsap.specs.declared.port.Port.{Port}
use Rattle.osi_base.specs.declared.unit.Unit.{Unit as CarriedUnit}
use Rattle.osi_base.specs.declared.unit.Up.TheVariants.{Unit as Came}
use Rattle.pdu_parts.specs.Parameter.{spelled}
use Rattle.clnp_options.specs.Options.{value_of}
use Rattle.clnp_options.specs.declared.reason.PduKind.TheVariants.{Dt}
use Rattle.clnp_header.specs.declared.pdu.Pdu.{Pdu}
use Rattle.clnp_header.specs.declared.pdu.SegmentPart.{SegmentPart}
use Rattle.clnp_header.specs.Grammar.{segment_part}
use Rattle.clnp_header.specs.Values.{parameters}
use Rattle.clnp_header.specs.Writing.{header_length, pdu_length}
use Rattle.clnp_segment.specs.Cutting.{piece_of, piece_pdus}
use Rattle.clnp_segment.specs.Store.{Key}
use Rattle.clnp_system.specs.Node.{Frame, Node, Reaction}
use Rattle.clnp_system.specs.Receiving.{came, coming}
use Rattle.clnp_system.specs.Setting.{Setting, bound_of, is_group, is_own_system, port_on}
use Rattle.clnp_system.specs.Tables.{Tables}
use Rattle.clnp_system.specs.Written.{AreFrames, IsPduFrame, header_in}
use Rattle.law_clnp_net.proofs.joining.Arrivals.{IsHere, header_there}
use Rattle.law_clnp_net.proofs.joining.Fronts.{next_run}

-- ---- what is left

-- the initial PDU of a unit: a DT PDU by no source route
pub record IsInitial (pdu : Pdu) (unit : CarriedUnit (List ℕ)) (life : ℕ) : Type 0 where
  pub kind : pdu.kind ≡ Dt
  pub source : pdu.source ≡ unit.from
  pub destination : pdu.destination ≡ unit.to
  pub lifetime : pdu.lifetime ≡ life
  pub body : pdu.body ≡ unit.octets
  pub routeless : value_of 0xc8 (parameters pdu.options) ≡ None

-- its segmentation part
abbrev pub initial_part : ℕ → ℕ → SegmentPart
initial_part id total = record { id = id; offset = 0; total = total; more = false }

-- the receiver is an end system that hears at that port for the users of the unit, within the lifetime
pub record IsReceiver (setting : Setting) (unit : CarriedUnit (List ℕ)) (life : ℕ) (port : Port) : Type 0 where
  pub at : port_on setting port.lan ≡ Some port
  pub single : is_group port.snpa ≡ false
  pub lives : bound_of setting port.lan ≤ life
  pub end : setting.end ≡ true
  pub own : is_own_system setting unit.to ≡ true
  pub selector : (selector_of unit.to ≡ 1) ⊎ (selector_of unit.to ≡ 2)

-- a frame of a PDU with what all PDUs of the unit have is for this system
pub read_there : (sender receiver : Setting) (unit : CarriedUnit (List ℕ)) (life : ℕ) (port : Port) (frame : Frame) (first pdu : Pdu) → IsReceiver receiver unit life port → IsInitial first unit life
    → IsPduFrame sender port pdu frame → pdu.kind ≡ first.kind → pdu.destination ≡ first.destination → pdu.lifetime ≡ first.lifetime → pdu.options ≡ first.options → IsHere receiver frame pdu
read_there sender receiver unit life port frame first pdu is_receiver initial is_frame kind destination lifetime options =
    let to : frame.to ≡ port = is_frame.goes.to_is in
    let for_unit : pdu.destination ≡ unit.to = destination ∙ initial.destination in
    record {
      port = port;
      at = ap (λ (p : Port). port_on receiver p.lan) to ∙ is_receiver.at;
      single = ap (λ (p : Port). is_group p.snpa) to ∙ is_receiver.single;
      end = is_receiver.end;
      is_pdu = is_frame.is_pdu;
      kind = kind ∙ initial.kind;
      own = ap (λ (address : List ℕ). is_own_system receiver address) for_unit ∙ is_receiver.own;
      selector = subst (λ (address : List ℕ). (selector_of address ≡ 1) ⊎ (selector_of address ≡ 2)) (sym for_unit) is_receiver.selector;
      lives = subst (λ (n : ℕ). bound_of receiver frame.to.lan ≤ n) (sym (lifetime ∙ initial.lifetime)) (subst (λ (p : Port). bound_of receiver p.lan ≤ life) (sym to) is_receiver.lives);
      routeless = ap (λ os. value_of 0xc8 (parameters os)) options ∙ initial.routeless;
    }

-- the frames begin with one
pub record FirstOf (frames : List Frame) : Type 0 where
  pub frame : Frame
  pub rest : List Frame
  pub are : frames ≡ frame ∷ rest

pub first_of : (setting : Setting) (to : Port) (pdu : Pdu) (part : SegmentPart) (position : ℕ) (piece : List ℕ) (pieces : List (List ℕ)) (frames : List Frame)
    → AreFrames setting to (piece_pdus pdu part position (piece ∷ pieces)) frames → FirstOf frames
first_of setting to pdu part position piece [] frames h = record { frame = h.0; rest = h.1; are = h.4 }
first_of setting to pdu part position piece (next ∷ pieces) frames h = record { frame = h.0; rest = h.1; are = h.4 }

-- what comes up is the unit
pub unit_is : {N : Type 0} (old : Node N) (pdu : Pdu) (octets : List ℕ) (unit : CarriedUnit (List ℕ)) (reaction : Reaction) → pdu.source ≡ unit.from → pdu.destination ≡ unit.to
    → octets ≡ unit.octets → reaction ≡ record { ups = came old pdu octets; frames = [] }
    → reaction ≡ record { ups = Came (record { system = old.setup.system; unit = unit }) ∷ []; frames = [] }
unit_is old pdu octets unit reaction source destination is e =
    e ∙ (λ i. record { ups = Came (record { system = old.setup.system; unit = record { from = source i; to = destination i; octets = is i } }) ∷ []; frames = [] })

-- the PDUs of a unit that is cut
module _ {N : Type 0} (tables : Tables N) (sender receiver : Setting) (unit : CarriedUnit (List ℕ)) (port : Port) (pdu : Pdu) (id total : ℕ)
    (is_receiver : IsReceiver receiver unit sender.life port) (initial : IsInitial pdu unit sender.life) (segment : pdu.segment ≡ Some (initial_part id total))
    (total_is : total ≡ pdu_length pdu) (short : length unit.octets ≤ 16384) where
  abbrev pub Head : ℕ
  Head = header_length pdu

  abbrev pub Own : Key
  Own = record { source = pdu.source; destination = pdu.destination; id = id }

  -- the PDU of a run behind the front, and its segmentation part
  abbrev pub Run : List ℕ → Bool → List ℕ → Pdu
  Run front last octets = piece_of pdu (initial_part id total) (length front) last octets

  abbrev pub Part : List ℕ → Bool → SegmentPart
  Part front last = record { id = id; offset = 0 + length front; total = total; more = if last then false else true }

  pub same_header : (front : List ℕ) (last : Bool) (octets : List ℕ) → header_length (Run front last octets) ≡ Head
  same_header front last octets =
      ap (λ (part : Option SegmentPart). 11 + length pdu.destination + length pdu.source + length (segment_part part) + length (spelled (parameters pdu.options))) (sym segment)

  -- what comes of such a PDU is the next run of the unit
  pub run_is : (frame : Frame) (bound : ℕ) (front run rest : List ℕ) (last : Bool) → unit.octets ≡ front ++ (run ++ rest) → IsPduFrame sender port (Run front last run) frame
      → (coming frame bound (Run front last run) (Part front last)).segment ≡ next_run Head front run (length rest)
  run_is frame bound front run rest last octets is_frame =
      let offset : 0 + length front ≡ length front = omega arith in
      let header : length (header_in frame.octets (Run front last run)) ≡ Head = header_there frame.octets (Run front last run) is_frame.is_pdu ∙ same_header front last run in
      let body : length pdu.body ≡ length front + (length run + length rest) =
      ap length (initial.body ∙ octets) ∙ length-append front (run ++ rest) ∙ ap (λ (n : ℕ). length front + n) (length-append run rest) in
      let whole : total ≡ Head + (length front + (length run + length rest)) = total_is ∙ ap (λ (n : ℕ). Head + n) body in
      λ i. record { offset = offset i; octets = run; header = header i; total = whole i }

  -- the PDU is for users of the receiver
  pub run_is_here : (frame : Frame) (front run : List ℕ) (last : Bool) → IsPduFrame sender port (Run front last run) frame → IsHere receiver frame (Run front last run)
  run_is_here frame front run last is_frame = read_there sender receiver unit sender.life port frame pdu (Run front last run) is_receiver initial is_frame refl refl refl refl
