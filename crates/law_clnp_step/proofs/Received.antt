-- One system takes what came: what it sends on carries the same units, what it hands up is a unit afloat, and what it holds is of
-- units afloat.
use Rattle.std.proofs.Common.{◌≡◌, ◌⊎◌, ℕ, zero, suc, ◌+◌, ◌-◌, ◌<◌, ◌≤◌, Bool, true, false, List, [], ◌∷◌, ◌++◌, length, map, slice_get, refl, sym, ◌∙◌, ap, subst, inl, inr, arith, Option, Some, None}
use Rattle.std.specs.List.{AllByRecursion}
use Rattle.nsap.specs.declared.port.Port.{Port}
use Rattle.osi_base.specs.declared.unit.Unit.{Unit as CarriedUnit}
use Rattle.osi_base.specs.declared.unit.Arrival.{Arrival}
use Rattle.osi_base.specs.declared.unit.Up.{Up}
use Rattle.osi_base.specs.declared.unit.Up.TheVariants.{Unit as Came, Note as Noted}
use Rattle.clnp_options.specs.declared.reason.PduKind.TheVariants.{Dt}
use Rattle.clnp_header.specs.declared.pdu.Pdu.{Pdu}
use Rattle.clnp_header.specs.declared.pdu.SegmentPart.{SegmentPart}
use Rattle.clnp_header.specs.Writing.{header_length}
use Rattle.clnp_segment.specs.Joining.{Has, IsSegmentOf}
use Rattle.clnp_segment.proofs.CutRuns.{get_left}
use Rattle.clnp_system.specs.Deriving.{Carries, ComesFrom, DerivesFrom, IsForEnd, IsRun, IsWholeOrJoined, KeepsRest, StoresOrStays, Stays, Takes}
use Rattle.clnp_system.specs.Deriving.{ComesIf as ComesFromIf}
use Rattle.clnp_system.specs.Node.{Node, Reaction, Frame, at_tick}
use Rattle.clnp_system.specs.Receiving.{Receives, Elsewhere, Alien, Faulty, Reads, BadHello, HearsHello, coming}
use Rattle.clnp_system.specs.Setting.{Setting, bound_of, is_own_system, port_on}
use Rattle.clnp_system.specs.Tables.{Tables}
use Rattle.clnp_system.specs.Written.{HasPdu, header_in}
use Rattle.clnp_system.proofs.Outgoing.{derived_is as derived}
use Rattle.clnp_system.proofs.Arriving.{comes_up_is as comes_up, stored_is as stored}
use Rattle.law_clnp_step.specs.Sound.{AreTellable, IsAmong, IsBounded, IsCarried, IsCarrying, IsHeldFor, IsNumbered, IsNumberedBy, IsPart, IsTimely, Knows, Origin, half_given}
use Rattle.law_clnp_step.proofs.Carrying.{onward}
use Rattle.law_clnp_step.proofs.Headers.{header_in_length}
use Rattle.law_clnp_step.proofs.Joined.{IsComing, takes_known, takes_timely, takes_unit}
use Rattle.law_clnp_step.proofs.Lists.{all_weaker, among_all}

-- ---- a run of a unit is a segment of it

get_behind : (xs ys : List ℕ) (at place : ℕ) → at ≡ length xs + place → slice_get (xs ++ ys) at ≡ slice_get ys place
get_behind [] ys at place e = let f : at ≡ place = omega (arith, e) in ap (slice_get ys) f
get_behind (x ∷ xs) ys zero place e = absurd (omega (arith, e))
get_behind (x ∷ xs) ys (suc at) place e = get_behind xs ys at place (omega (arith, e))

run_octets : (unit body : List ℕ) (offset position place octet : ℕ) → IsRun unit body offset → position ≡ offset + place → slice_get body place ≡ Some octet → slice_get unit position ≡ Some octet
run_octets unit body offset position place octet r at is =
    ap (λ (xs : List ℕ). slice_get xs position) r.parts ∙ get_behind r.before (body ++ r.after) position place (omega (arith, at, r.place)) ∙ get_left body r.after place octet is

-- ---- what stays

numbered_same : {N : Type 0} (old new : Node N) (tick id : ℕ) → new.next_id ≡ old.next_id → new.low ≡ old.low → new.high ≡ old.high → IsNumbered old tick id → IsNumbered new tick id
numbered_same old new tick id next low high h = record {
  fits = h.fits;
  since = h.since;
  given = ap (λ (x : Option ℕ). Rattle.std.specs.Prelude.cond (Rattle.std.specs.Prelude.nat_lt id 32768) x new.high) low
      ∙ ap (λ (x : Option ℕ). Rattle.std.specs.Prelude.cond (Rattle.std.specs.Prelude.nat_lt id 32768) old.low x) high ∙ h.given;
  sooner = h.sooner;
  below = λ goes_on half.
      subst (λ (n : ℕ). id < n) (sym next)
      (h.below (subst (λ (n : ℕ). Rattle.clnp_system.specs.Identifiers.begins_half n ≡ false) next goes_on)
      (subst (λ (n : ℕ). Rattle.std.specs.Prelude.nat_lt id 32768 ≡ Rattle.std.specs.Prelude.nat_lt n 32768) next half));
}

numbered_by_same : {N : Type 0} (old new : Node N) (origin : Origin) → new.setup ≡ old.setup → new.next_id ≡ old.next_id → new.low ≡ old.low → new.high ≡ old.high → IsNumberedBy old origin → IsNumberedBy new origin
numbered_by_same old new origin setup next low high h = λ own id is.
    numbered_same old new origin.tick id next low high (h (subst (λ (s : Setting). is_own_system s origin.unit.from ≡ true) setup own) id is)

pub all_numbered_same : {N : Type 0} (old new : Node N) (origins : List Origin) → new.setup ≡ old.setup → new.next_id ≡ old.next_id → new.low ≡ old.low → new.high ≡ old.high
    → AllByRecursion (IsNumberedBy old) origins → AllByRecursion (IsNumberedBy new) origins
all_numbered_same old new origins setup next low high h =
    all_weaker (IsNumberedBy old) (IsNumberedBy new) origins (λ origin k. numbered_by_same old new origin setup next low high k) h

-- ---- a frame that came

-- a unit that comes up: one afloat, at the end system of its destination
pub record IsShown (origins : List Origin) (life clock : ℕ) (settings : List Setting) (arrival : Arrival (List ℕ)) : Type 0 where
  pub origin : Origin
  pub there : IsAmong origin origins
  pub unit_is : arrival.unit ≡ origin.unit
  pub young : clock ≤ origin.tick + life
  pub setting : Setting
  pub stands : IsAmong setting settings
  pub system : setting.system ≡ arrival.system
  pub end : setting.end ≡ true
  pub own : is_own_system setting arrival.unit.to ≡ true

abbrev pub IsFine : List Origin → ℕ → ℕ → List Setting → Up (List ℕ) → Type 0
IsFine origins life clock settings (Noted note) = Prim.Unit {0}
IsFine origins life clock settings (Came arrival) = IsShown origins life clock settings arrival

-- a frame that is live came, and what it carries was drawn
pub record IsDrawn (bound : Port → ℕ) (origins : List Origin) (life clock : ℕ) (arrival : Arrival Port) : Type 0 where
  pub tick : ℕ
  pub live : clock ≤ tick + bound arrival.unit.to
  pub carried : IsCarried origins life clock (tick, arrival.unit)

-- the system has a port on its LAN, or nothing happens
at_port : {N : Type 0} (tables : Tables N) (old : Node N) (now : ℕ) (frame : Frame) (reaction : Reaction) (new : Node N) → Receives tables old now frame reaction new
    → ((own : Port) × (port_on old.setup frame.to.lan ≡ Some own)) ⊎ ((reaction ≡ record { ups = []; frames = [] }) × (new ≡ at_tick now old))
at_port tables old now frame reaction new (Elsewhere none nothing same) = inr (nothing, same)
at_port tables old now frame reaction new (Alien own at first second told same) = inl (own, at)
at_port tables old now frame reaction new (Faulty own fault at first is discards same) = inl (own, at)
at_port tables old now frame reaction new (Reads own pdu route at stands is does) = inl (own, at)
at_port tables old now frame reaction new (BadHello own fault at first is told same) = inl (own, at)
at_port tables old now frame reaction new (HearsHello own heard rest at stands hears) = inl (own, at)

same_unit : (one other : CarriedUnit (List ℕ)) → one.from ≡ other.from → one.to ≡ other.to → one.octets ≡ other.octets → one ≡ other
same_unit one other from to octets = λ i. record { from = from i; to = to i; octets = octets i }

-- ---- in any run: time

pub timely_at : {N : Type 0} (clock : ℕ) (old new : Node N) → IsTimely clock old → new ≡ at_tick clock old → IsTimely clock new
timely_at clock old new h same = subst (IsTimely clock) (sym same) (record { clock_is = omega arith; held = h.held })

pub received_timely : {N : Type 0} (tables : Tables N) (clock : ℕ) (node : Node N) (frame : Frame) (reaction : Reaction) (after : Node N) → IsTimely clock node
    → Receives tables node clock frame reaction after → IsTimely clock after × (after.setup ≡ node.setup)
received_timely tables clock node frame reaction after h r =
    let s = stored tables node clock frame reaction after r in
    (record { clock_is = omega (arith, s.1.clock); held = by_store s.0 }, s.1.setup)
  where
    by_store : StoresOrStays node clock frame after → AllByRecursion (λ unit. clock ≤ unit.deadline) after.store.held
    by_store (Stays same) = subst (λ store. AllByRecursion (λ unit. clock ≤ unit.deadline) store.held) (sym same) h.held
    by_store (Takes pdu part answer is_for segment takes) = takes_timely node.store clock (coming frame (bound_of node.setup frame.to.lan) pdu part) answer after.store h.held takes

-- ---- in an honest run

module _ {N : Type 0} (tables : Tables N) (bound : Port → ℕ) (origins : List Origin) (life clock : ℕ) (settings : List Setting) (tellable : AreTellable origins)
    (bounds : AllByRecursion (IsBounded bound) settings) (node : Node N) (arrival : Arrival Port) (reaction : Reaction) (after : Node N)
    (stands : IsAmong node.setup settings) (drawn : IsDrawn bound origins life clock arrival)
    (receives : Receives tables node clock arrival.unit reaction after) (own : Port) (at : port_on node.setup arrival.unit.to.lan ≡ Some own)
  where
    abbrev taken_off : ℕ
    taken_off = bound_of node.setup arrival.unit.to.lan

    late : clock ≤ drawn.tick + taken_off
    late = let b : bound arrival.unit.to ≤ taken_off = among_all (IsBounded bound) node.setup settings stands bounds own arrival.unit.to at in omega (arith, b, drawn.live)

    carries : (pdu : Pdu) → HasPdu arrival.unit.octets pdu → pdu.kind ≡ Dt → taken_off ≤ pdu.lifetime → IsCarrying origins life drawn.tick pdu
    carries pdu there kind left = drawn.carried pdu there kind (omega (arith, late, left))

    pub sends_on : AllByRecursion (λ frame. IsCarried origins life clock (clock, frame)) reaction.frames
    sends_on = all_weaker (λ frame. Carries frame (DerivesFrom arrival.unit.octets taken_off)) (λ frame. IsCarried origins life clock (clock, frame)) reaction.frames
        (λ frame derives out there kind lives.
        let d = derives out there kind in
        let left : taken_off ≤ d.0.lifetime = omega (arith, d.2.age) in
        onward origins life clock drawn.tick taken_off d.0 out (carries d.0 d.1 d.2.kind left) d.2 late)
        (derived tables node clock arrival.unit reaction after receives)

    abbrev is_coming : (pdu : Pdu) (part : SegmentPart) → HasPdu arrival.unit.octets pdu → pdu.segment ≡ Some part → taken_off ≤ pdu.lifetime → IsCarrying origins life drawn.tick pdu
        → IsComing origins life clock (coming arrival.unit taken_off pdu part)
    is_coming pdu part there segment left c =
        let p : IsPart (Some part) pdu c.origin = subst (λ (s : Option SegmentPart). IsPart s pdu c.origin) segment c.part in record {
          origin = c.origin;
          there = c.there;
          source = c.source;
          destination = c.destination;
          id = p.0;
          segment = record {
            header_is = header_in_length arrival.unit.octets pdu there ∙ p.2;
            total_is = p.1;
            octets = λ position octet has. run_octets c.origin.unit.octets pdu.body part.offset position has.place octet p.3 has.at has.is;
          };
          in_time = omega (arith, c.age, late, left);
        }

    pub shows : AllByRecursion (IsHeldFor origins life) node.store.held → AllByRecursion (IsFine origins life clock settings) reaction.ups
    shows held = all_weaker (ComesFromIf node clock arrival.unit after) (IsFine origins life clock settings) reaction.ups (λ up c. one up c) (comes_up tables node clock arrival.unit reaction after receives)
      where
        octets_of : (pdu : Pdu) (segment : Option SegmentPart) (octets : List ℕ) → pdu.segment ≡ segment → HasPdu arrival.unit.octets pdu → taken_off ≤ pdu.lifetime → (c : IsCarrying origins life drawn.tick pdu)
            → IsWholeOrJoined node clock arrival.unit pdu segment octets after → octets ≡ c.origin.unit.octets
        octets_of pdu None octets segment there left c w = let p : IsPart None pdu c.origin = subst (λ (s : Option SegmentPart). IsPart s pdu c.origin) segment c.part in w ∙ p.1
        octets_of pdu (Some part) octets segment there left c w =
            let k = is_coming pdu part there segment left c in takes_unit origins life node.store clock (coming arrival.unit taken_off pdu part) octets after.store tellable k held w

        one : (up : Up (List ℕ)) → ComesFromIf node clock arrival.unit after up → IsFine origins life clock settings up
        one (Noted note) c = tt
        one (Came shown) c =
            let pdu = c.pdu in
            let k = carries pdu c.is_for.stands c.is_for.kind c.is_for.left in record {
              origin = k.origin;
              there = k.there;
              unit_is =
                  same_unit shown.unit k.origin.unit (c.source ∙ k.source) (c.destination ∙ k.destination) (octets_of pdu pdu.segment shown.unit.octets refl c.is_for.stands c.is_for.left k c.unit);
              young = omega (arith, k.age, late, c.is_for.left);
              setting = node.setup;
              stands = stands;
              system = sym c.system;
              end = c.is_for.end;
              own = subst (λ (a : List ℕ). is_own_system node.setup a ≡ true) (sym c.destination) c.is_for.own;
            }

    pub knows : Knows origins life node → Knows origins life after
    knows h =
        let s = stored tables node clock arrival.unit reaction after receives in record {
          next_fits = subst (λ (n : ℕ). n < 65536) (sym s.1.next_id) h.next_fits;
          numbered = all_numbered_same node after origins s.1.setup s.1.next_id s.1.low s.1.high h.numbered;
          held = by_store s.0;
        }
      where
        by_store : StoresOrStays node clock arrival.unit after → AllByRecursion (IsHeldFor origins life) after.store.held
        by_store (Stays same) = subst (λ store. AllByRecursion (IsHeldFor origins life) store.held) (sym same) h.held
        by_store (Takes pdu part answer is_for segment takes) =
            let c = carries pdu is_for.stands is_for.kind is_for.left in
            takes_known origins life node.store clock (coming arrival.unit taken_off pdu part) answer after.store tellable (is_coming pdu part is_for.stands segment is_for.left c) h.held takes

pub knows_at : {N : Type 0} (origins : List Origin) (life now : ℕ) (old new : Node N) → Knows origins life old → new ≡ at_tick now old → Knows origins life new
knows_at origins life now old new h same = subst (Knows origins life) (sym same) (record {
  next_fits = h.next_fits;
  numbered = all_numbered_same old (at_tick now old) origins refl refl refl refl h.numbered;
  held = h.held;
})

-- one step of a system, whether it has a port there or not
pub received_kept : {N : Type 0} (tables : Tables N) (bound : Port → ℕ) (origins : List Origin) (life clock : ℕ) (settings : List Setting) → AreTellable origins
    → AllByRecursion (IsBounded bound) settings → (arrival : Arrival Port) → IsDrawn bound origins life clock arrival → (node : Node N) (reaction : Reaction) (after : Node N) → IsAmong node.setup settings
    → Knows origins life node → Receives tables node clock arrival.unit reaction after
    → Knows origins life after × (after.setup ≡ node.setup) × AllByRecursion (IsFine origins life clock settings) reaction.ups
    × AllByRecursion (λ frame. IsCarried origins life clock (clock, frame)) reaction.frames
received_kept tables bound origins life clock settings tellable bounds arrival drawn node reaction after stands known receives =
    elim (at_port tables node clock arrival.unit reaction after receives) [
      | inl o ↦ (
        knows tables bound origins life clock settings tellable bounds node arrival reaction after stands drawn receives o.0 o.1 known,
        (stored tables node clock arrival.unit reaction after receives).1.setup,
        shows tables bound origins life clock settings tellable bounds node arrival reaction after stands drawn receives o.0 o.1 known.held,
        sends_on tables bound origins life clock settings tellable bounds node arrival reaction after stands drawn receives o.0 o.1,
      )
      | inr n ↦ (
        knows_at origins life clock node after known n.1,
        ap (λ (m : Node _). m.setup) n.1,
        subst (λ (r : Reaction). AllByRecursion (IsFine origins life clock settings) r.ups) (sym n.0) tt,
        subst (λ (r : Reaction). AllByRecursion (λ frame. IsCarried origins life clock (clock, frame)) r.frames) (sym n.0) tt,
      )
    ]
