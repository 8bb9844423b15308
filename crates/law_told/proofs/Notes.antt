-- What the LANs and the network over them tell can be read back: a note names declared systems and LANs, and what it tells of a frame was read from octets.
-- What is so of the LANs stays so through each of their calls, and so what is handled and what ticks tells such notes alone.
use Rattle.std.proofs.Common.{◌≡◌, ◌≤◌, ◌<◌, ◌∙◌, ℕ, zero, suc, ◌+◌, Bool, true, false, ◌==◌, ◌&&◌, ◌||◌, List, [], ◌∷◌, ◌++◌, length, map, Option, Some, None, refl, sym, ap, subst, arith, if◌then◌else◌, length-append}
use Rattle.std.specs.Prelude.{not, is_some, slice_get}
use Rattle.std.specs.List.{AllByRecursion}
use Rattle.std.proofs.lemmas.Bool.{and_parts, eqb-true, ltb-false, leb-false}
use Rattle.std.proofs.lemmas.List.{length-map, length-set}
use Rattle.hex.specs.Hex.{IsBytes}
use Rattle.nsap.specs.declared.port.Port.{Port}
use Rattle.osi_base.specs.declared.unit.DropCause.{DropCause}
use Rattle.osi_base.specs.declared.unit.Injected.{Injected}
use Rattle.osi_base.specs.declared.unit.Injected.TheVariants.{Taken as WasInjected, NotThere as InjectedNowhere}
use Rattle.osi_base.specs.declared.unit.Offered.{Offered}
use Rattle.osi_base.specs.declared.unit.Offered.TheVariants.{Taken as WasTaken, Dropped}
use Rattle.osi_base.specs.declared.unit.Picked.{Picked}
use Rattle.osi_base.specs.declared.unit.Picked.TheVariants.{Taken as WasPicked, NoSuch, Late, NotThere}
use Rattle.osi_base.specs.declared.unit.Unit.{Unit as CarriedUnit}
use Rattle.osi_base.specs.declared.unit.Up.{Up}
use Rattle.osi_base.specs.declared.unit.Up.TheVariants.{Unit as Came}
use Rattle.osi_base.specs.Calls.{Call, Chain, Choose, Inject, NextUp, Offer, Tick, after_first}
use Rattle.osi_base.specs.Gathering.{Gathers, takings}
use Rattle.lan_frame.specs.Frame.{Framed, frame_in}
use Rattle.lan_step.specs.Bag.{Bag, BagStep, after_choose, after_inject, after_offer, after_pick, frame_note, link_of, picked_in}
use Rattle.lan_step.specs.Frames.{Frame as LanFrame, frame_of, is_given, kept_at, marked, marked_at, marked_frame, picked_late}
use Rattle.lan_step.specs.Offers.{offered}
use Rattle.lan_step.specs.Reading.{up_in, ups_of}
use Rattle.lan_step.specs.Rows.{is_on, room_on, same_port, same_snpa, sender_of}
use Rattle.lan_step.specs.declared.row.PortRow.{PortRow}
use Rattle.law_carrier_answers.specs.Answers.{AreOctets}
use Rattle.script_lines.specs.Tags.{Tags}
use Rattle.law_clnp_net.specs.Standing.{IsSnpa}
use Rattle.law_clnp_step.proofs.Lists.{all_both}
use Rattle.law_tp4_proper.proofs.Octets.{octet_at}
use Rattle.law_told.proofs.Carriers.{IsToldUp}

pub bytes_of : (octets : List ℕ) → AreOctets octets → IsBytes octets
bytes_of octets h = λ i. octet_at octets i h

pub snpa_told : (snpa : List ℕ) → IsSnpa snpa → IsBytes snpa × (0 < length snpa)
snpa_told snpa is = let six = is.six in (bytes_of snpa is.octets, omega (arith, six))

module _ (tags : Tags) where
  abbrev pub IsSystem : ℕ → Type 0
  IsSystem system = system < length tags.systems

  -- the ports of declared systems on declared LANs
  pub record IsDeclared (row : PortRow) : Type 0 where
    pub system : IsSystem row.system
    pub lan : row.port.lan < length tags.lans

  -- LANs between declared systems; they take no longer frames than 1,497 octets, and have room for so many
  pub record BagTold (bag : Bag) : Type 0 where
    pub rows : AllByRecursion IsDeclared bag.rows
    pub rooms : (lan : ℕ) → room_on bag.lans lan ≤ 1497
    pub few : length bag.frames ≤ 4294967295
    pub waiting : AllByRecursion (IsToldUp {A = Port} tags) bag.waiting

  -- ---- rows

  is_declared : (rows : List PortRow) (system lan : ℕ) → AllByRecursion IsDeclared rows → is_on rows system lan ≡ true → IsSystem system
  is_declared [] system lan h is = absurd cc
  is_declared (row ∷ rows) system lan h is = by (row.system == system && row.port.lan == lan) refl (λ there. is_declared rows system lan h.1 there)
    where
      by : (b : Bool) → (row.system == system && row.port.lan == lan) ≡ b → (is_on rows system lan ≡ true → IsSystem system) → IsSystem system
      by true here others = let same = eqb-true row.system system (and_parts (row.system == system) (row.port.lan == lan) here).0 in subst IsSystem same h.0.system
      by false other others = others (ap (λ (b : Bool). b || is_on rows system lan) (sym other) ∙ is)

  -- the sender of a frame, and its LAN
  record Sends (port : Port) (sender : ℕ) : Type 0 where
    system : IsSystem sender
    lan : port.lan < length tags.lans

  sends_by : (test : Bool) (row : PortRow) (port : Port) (system : ℕ) (rest : Option ℕ) → same_port row.port port ≡ test → IsDeclared row → (rest ≡ Some system → Sends port system)
      → (if test then Some row.system else rest) ≡ Some system → Sends port system
  sends_by true row port system rest is h others e =
      let same : row.system ≡ system = cc e in
      let lan = eqb-true row.port.lan port.lan (and_parts (row.port.lan == port.lan) (same_snpa row.port.snpa port.snpa) is).0 in
      record { system = subst IsSystem same h.system; lan = subst (λ (l : ℕ). l < length tags.lans) lan h.lan }
  sends_by false row port system rest is h others e = others e

  sends : (rows : List PortRow) (port : Port) (system : ℕ) → AllByRecursion IsDeclared rows → sender_of rows port ≡ Some system → Sends port system
  sends [] port system h e = absurd cc
  sends (row ∷ rows) port system h e = sends_by (same_port row.port port) row port system (sender_of rows port) refl h.0 (λ there. sends rows port system h.1 there) e

  -- ---- an offer

  -- what is so of an offer that is taken
  record IsTaken (bag : Bag) (unit : CarriedUnit Port) : Type 0 where
    lan : unit.from.lan ≡ unit.to.lan
    room : length unit.octets ≤ room_on bag.lans unit.to.lan
    few : length bag.frames < 4294967295

  or_false : (a b : Bool) → (a || b) ≡ false → (a ≡ false) × (b ≡ false)
  or_false true b h = absurd cc
  or_false false b h = (refl, h)

  not_true : (b : Bool) → not b ≡ false → b ≡ true
  not_true true h = refl
  not_true false h = absurd cc

  choice_of : {A : Type 0} (test : Bool) (one other wanted : A) → (one ≡ wanted → ⊥) → (if test then one else other) ≡ wanted → (test ≡ false) × (other ≡ wanted)
  choice_of true one other wanted never e = absurd (never e)
  choice_of false one other wanted never e = (refl, e)

  not_taken : (cause : DropCause) → Dropped cause ≡ WasTaken → ⊥
  not_taken cause e = cc e

  is_taken : (bag : Bag) (unit : CarriedUnit Port) → offered bag.lans bag.rows bag.frames unit ≡ WasTaken → IsTaken bag unit
  is_taken bag unit e =
      let a = choice_of _ _ _ WasTaken (not_taken _) e in
      let b = choice_of _ _ _ WasTaken (not_taken _) a.1 in
      let c = choice_of _ _ _ WasTaken (not_taken _) b.1 in
      let lans = or_false _ _ a.0 in
      let full = or_false _ _ c.0 in
      record {
        lan = eqb-true unit.from.lan unit.to.lan (not_true (unit.from.lan == unit.to.lan) lans.1);
        room = ltb-false (room_on bag.lans unit.to.lan) (length unit.octets) b.0;
        few = leb-false 4294967295 (length bag.frames) full.1;
      }

  note_told : (bag : Bag) (unit : CarriedUnit Port) (found : Option ℕ) → sender_of bag.rows unit.from ≡ found → BagTold bag → IsTaken bag unit → IsSnpa unit.to.snpa
      → AllByRecursion (IsToldUp {A = Port} tags) (frame_note (length bag.frames + 1) found unit)
  note_told bag unit None e t is snpa = tt
  note_told bag unit (Some system) e t is snpa =
      let s = sends bag.rows unit.from system t.rows e in
      let lan : unit.to.lan < length tags.lans = subst (λ (l : ℕ). l < length tags.lans) is.lan s.lan in
      let few = is.few in
      let room = is.room in
      let most = t.rooms unit.to.lan in
      ((refl, (omega (arith, few), (lan, (s.system, (snpa_told unit.to.snpa snpa, (omega (arith, room, most), tt)))))), tt)

  pub offer_told : (bag : Bag) (unit : CarriedUnit Port) (answer : Offered) → BagTold bag → answer ≡ offered bag.lans bag.rows bag.frames unit → (answer ≡ WasTaken → IsSnpa unit.to.snpa)
      → BagTold (after_offer bag unit answer)
  offer_told bag unit WasTaken t e snpa =
      let is = is_taken bag unit (sym e) in
      let few = is.few in
      let long = length-append bag.frames (Some (record { tick = bag.clock; unit = unit; taken = [] }) ∷ []) in
      record {
        rows = t.rows;
        rooms = t.rooms;
        few = omega (arith, few, long);
        waiting = all_both (IsToldUp {A = Port} tags) bag.waiting (frame_note (length bag.frames + 1) (sender_of bag.rows unit.from) unit) t.waiting
            (note_told bag unit (sender_of bag.rows unit.from) refl t is (snpa refl));
      }
  offer_told bag unit (Dropped cause) t e snpa = t

  -- ---- a choice

  marked_long : (frames : List (Option LanFrame)) (place system : ℕ) (found : Option LanFrame) → length (marked_frame frames place system found) ≡ length frames
  marked_long frames place system None = refl
  marked_long frames place system (Some frame) = length-set frames place (Some (marked frame system))

  at_long : (frames : List (Option LanFrame)) (pick system : ℕ) → length (marked_at frames pick system) ≡ length frames
  at_long frames zero system = refl
  at_long frames (suc place) system = marked_long frames place system _

  pick_told : (bag : Bag) (pick system : ℕ) (found : Option LanFrame) → BagTold bag → IsSystem system → BagTold (after_pick bag pick system found)
  pick_told bag pick system None t is = t
  pick_told bag pick system (Some frame) t is =
      let long = at_long bag.frames pick system in
      let few = t.few in
      record {
        rows = t.rows;
        rooms = t.rooms;
        few = omega (arith, long, few);
        waiting = all_both (IsToldUp {A = Port} tags) bag.waiting (Came (record { system = system; unit = frame.unit }) ∷ []) t.waiting (is, tt);
      }

  -- what can be taken was given a number, and is of a declared system
  pub record Pick (pick system : ℕ) : Type 0 where
    pub declared : IsSystem system
    pub few : pick ≤ 4294967295

  given_low : (frames : List (Option LanFrame)) (place : ℕ) → is_some (slice_get frames place) ≡ true → place < length frames
  given_low [] place h = absurd cc
  given_low (frame ∷ frames) zero h = omega arith
  given_low (frame ∷ frames) (suc place) h = let rest = given_low frames place h in omega (arith, rest)

  given_most : (frames : List (Option LanFrame)) (pick : ℕ) → is_given frames pick ≡ true → pick ≤ length frames
  given_most frames zero h = omega arith
  given_most frames (suc place) h = let low = given_low frames place h in omega (arith, low)

  late : Late ≡ WasPicked → ⊥
  late e = cc e

  elsewhere : NotThere ≡ WasPicked → ⊥
  elsewhere e = cc e

  unknown : NoSuch ≡ WasPicked → ⊥
  unknown e = cc e

  picked_on : (bag : Bag) (system : ℕ) (found : Option LanFrame) → BagTold bag → picked_late bag.clock bag.lans bag.rows system found ≡ WasPicked → IsSystem system
  picked_on bag system None t e = absurd (late e)
  picked_on bag system (Some frame) t e =
      let live = choice_of _ _ _ WasPicked late e in
      let there = choice_of _ _ _ WasPicked elsewhere live.1 in
      is_declared bag.rows system frame.unit.to.lan t.rows (not_true (is_on bag.rows system frame.unit.to.lan) there.0)

  pub pick_of : (bag : Bag) (pick system : ℕ) → BagTold bag → picked_in bag pick system ≡ WasPicked → Pick pick system
  pick_of bag pick system t e =
      let given = choice_of _ _ _ WasPicked unknown e in
      let low = given_most bag.frames pick (not_true (is_given bag.frames pick) given.0) in
      let few = t.few in
      record { declared = picked_on bag system (frame_of bag.frames pick) t given.1; few = omega (arith, low, few) }

  choose_told : (bag : Bag) (pick system : ℕ) (answer : Picked) → BagTold bag → answer ≡ picked_in bag pick system → BagTold (after_choose bag pick system answer)
  choose_told bag pick system WasPicked t e = pick_told bag pick system (frame_of bag.frames pick) t (pick_of bag pick system t (sym e)).declared
  choose_told bag pick system other t e = t

  -- ---- an injection

  up_told : (lan system : ℕ) (found : Option Framed) → IsSystem system → IsToldUp {A = Port} tags (up_in lan system found)
  up_told lan system None is = (refl, (is, tt))
  up_told lan system (Some frame) is = is

  injected : (test : Bool) → WasInjected ≡ (if test then WasInjected else InjectedNowhere) → test ≡ true
  injected true e = refl
  injected false e = absurd cc

  inject_told : (bag : Bag) (lan system : ℕ) (octets : List ℕ) (answer : Injected) → BagTold bag → answer ≡ (if is_on bag.rows system lan then WasInjected else InjectedNowhere)
      → BagTold (after_inject bag lan system octets answer)
  inject_told bag lan system octets WasInjected t e = record {
    rows = t.rows;
    rooms = t.rooms;
    few = t.few;
    waiting = all_both (IsToldUp {A = Port} tags) bag.waiting (ups_of lan system octets ∷ []) t.waiting
        (up_told lan system (frame_in octets) (is_declared bag.rows system lan t.rows (injected (is_on bag.rows system lan) e)), tt);
  }
  inject_told bag lan system octets InjectedNowhere t e = t

  -- ---- taking up, and a tick

  rest_told : (answer : Option (Up Port)) (waiting rest : List (Up Port)) → waiting ≡ after_first answer rest → AllByRecursion (IsToldUp {A = Port} tags) waiting → AllByRecursion (IsToldUp {A = Port} tags) rest
  rest_told None waiting rest e h = subst (AllByRecursion (IsToldUp {A = Port} tags)) e h
  rest_told (Some up) waiting rest e h = let all : AllByRecursion (IsToldUp {A = Port} tags) (up ∷ rest) = subst (AllByRecursion (IsToldUp {A = Port} tags)) e h in all.1

  taken_up : (old : Bag) (answer : Option (Up Port)) (waiting : List (Up Port)) → BagTold old → old.waiting ≡ after_first answer waiting → BagTold (record old { waiting = waiting })
  taken_up old answer waiting t e = record { rows = t.rows; rooms = t.rooms; few = t.few; waiting = rest_told answer old.waiting waiting e t.waiting }

  ticked : (old : Bag) → BagTold old → BagTold (record old { clock = old.clock + 1; frames = map (kept_at (old.clock + 1) old.lans) old.frames })
  ticked old t =
      let long = length-map old.frames (kept_at (old.clock + 1) old.lans) in
      let few = t.few in
      record { rows = t.rows; rooms = t.rooms; few = omega (arith, long, few); waiting = t.waiting }

  -- what is asked of an offer
  abbrev pub GoesTo : Call Port → Type 0
  GoesTo (Offer unit wish answer) = answer ≡ WasTaken → IsSnpa unit.to.snpa
  GoesTo other = Prim.Unit {0}

  pub bag_told : (old : Bag) (call : Call Port) (new : Bag) → BagTold old → GoesTo call → BagStep old call new → BagTold new
  bag_told old (Offer unit wish answer) new t snpa s = subst BagTold (sym s.1) (offer_told old unit answer t s.0 snpa)
  bag_told old (Choose pick system answer) new t snpa s = subst BagTold (sym s.1) (choose_told old pick system answer t s.0)
  bag_told old (Inject lan system octets answer) new t snpa s = subst BagTold (sym s.1) (inject_told old lan system octets answer t s.0)
  bag_told old (NextUp answer) new t snpa s = subst BagTold (sym s.2) (taken_up old answer new.waiting t s.0)
  bag_told old Tick new t snpa s = subst BagTold (sym s) (ticked old t)

  -- all that waits was taken up
  pub record UpTold (ups : List (Up Port)) (new : Bag) : Type 0 where
    pub told : BagTold new
    pub each : AllByRecursion (IsToldUp {A = Port} tags) ups

  ups_chain : (ups : List (Up Port)) (old new : Bag) → BagTold old → Chain BagStep old (takings ups ++ NextUp None ∷ []) new → BagTold new
  ups_chain [] old new t c = subst BagTold (sym c.2) (bag_told old (NextUp None) c.0 t tt c.1)
  ups_chain (up ∷ ups) old new t c = ups_chain ups c.0 new (bag_told old (NextUp (Some up)) c.0 t tt c.1) c.2

  pub gathered_told : (old : Bag) (ups : List (Up Port)) (new : Bag) → BagTold old → Gathers link_of BagStep old ups new → UpTold ups new
  gathered_told old ups new t g = record { told = ups_chain ups old new t g.chain; each = subst (AllByRecursion (IsToldUp {A = Port} tags)) g.waited t.waiting }

-- the frames stay while what waits is taken up
frames_stay : (ups : List (Up Port)) (old new : Bag) → Chain BagStep old (takings ups ++ NextUp None ∷ []) new → new.frames ≡ old.frames
frames_stay [] old new c = ap (λ (b : Bag). b.frames) (c.2 ∙ c.1.2)
frames_stay (up ∷ ups) old new c = frames_stay ups c.0 new c.2 ∙ ap (λ (b : Bag). b.frames) c.1.2

pub same_frames : (old : Bag) (ups : List (Up Port)) (new : Bag) → Gathers link_of BagStep old ups new → new.frames ≡ old.frames
same_frames old ups new g = frames_stay ups old new g.chain
