-- The LANs answer each call, and keep what they hold in octets.
use Rattle.std.proofs.Common.{◌≡◌, ℕ, zero, suc, ◌+◌, ◌-◌, ◌≤◌, Bool, true, false, List, [], ◌∷◌, length, map, take, drop, Option, Some, None, refl, sym, subst, arith}
use Rattle.std.specs.Prelude.{◌==◌, ◌&&◌, ◌||◌, if◌then◌else◌, not, nat_le, nat_lt, slice_get, slice_set}
use Rattle.std.specs.List.{AllByRecursion}
use Rattle.std.proofs.lemmas.Bool.{and_from, and_parts, eqb-true, le-leb, leb-true, lt-ltb, ltb-false, ltb-true, or_parts}
use Rattle.std.proofs.lemmas.List.{length-drop, length-take}
use Rattle.nsap.specs.declared.port.Port.{Port}
use Rattle.osi_base.specs.declared.unit.Injected.{Injected}
use Rattle.osi_base.specs.declared.unit.Injected.TheVariants.{Taken as WasInjected, NotThere as InjectedNowhere}
use Rattle.osi_base.specs.declared.unit.Offered.{Offered}
use Rattle.osi_base.specs.declared.unit.Offered.TheVariants.{Taken as WasTaken, Dropped}
use Rattle.osi_base.specs.declared.unit.Picked.{Picked}
use Rattle.osi_base.specs.declared.unit.Picked.TheVariants.{Taken as WasPicked}
use Rattle.osi_base.specs.declared.unit.Unit.{Unit as CarriedUnit}
use Rattle.osi_base.specs.declared.unit.Up.{Up}
use Rattle.osi_base.specs.declared.unit.Up.TheVariants.{Unit as Came}
use Rattle.osi_base.specs.declared.unit.Wish.{Wish}
use Rattle.osi_base.specs.Calls.{Call, Offer, Choose, Inject, NextUp, Tick, after_first}
use Rattle.osi_base.specs.Gathering.{Gathers}
use Rattle.law_carrier_answers.specs.Answers.{AlwaysAnswers, AreOctets, Asked, CanBeAsked, Offering, Choosing, Injecting, TakingUp, Ticking, IsAnswered, asked_of}
use Rattle.law_carrier_answers.proofs.Gatherings.{some_gathering}
use Rattle.lan_frame.specs.Frame.{has_llc, is_alien, length_field}
use Rattle.lan_step.specs.Bag.{Bag, BagStep, after_choose, after_inject, after_offer, after_pick, frame_note, link_of, picked_in}
use Rattle.lan_step.specs.Frames.{frame_of, is_live, kept, kept_at, marked, marked_at, marked_frame, Frame as LanFrame}
use Rattle.lan_step.specs.Offers.{offered}
use Rattle.lan_step.specs.Reading.{up_in, ups_of}
use Rattle.lan_step.specs.Rows.{is_on, sender_of}
use Rattle.lan_step.specs.declared.row.Lan.{Lan}
use Rattle.lan_step.proofs.Keeping.{bag_keeps}
use Rattle.law_clnp_net.specs.Standing.{FitsBag, FitsKept, FitsUp, IsFrame, IsNsap, IsSnpa, are_octets, is_nsap, is_port}
use Rattle.law_clnp_step.proofs.Lists.{all_both}
use Rattle.law_clnp_net.proofs.written.Octets.{octets_drop, octets_take}

-- ---- tests

pub octets_of : (octets : List ℕ) → are_octets octets ≡ true → AreOctets octets
octets_of [] e = tt
octets_of (octet ∷ octets) e = let both = and_parts (nat_lt octet 256) (are_octets octets) e in (ltb-true octet 256 both.0, octets_of octets both.1)

pub nsap_of : (address : List ℕ) → is_nsap address ≡ true → IsNsap address
nsap_of address e =
    let both = and_parts (nat_lt 0 (length address) && nat_le (length address) 20) (are_octets address) e in
    let ends = and_parts (nat_lt 0 (length address)) (nat_le (length address) 20) both.0 in
    record { is = record { some = ltb-true 0 (length address) ends.0; most = leb-true (length address) 20 ends.1 }; octets = octets_of address both.1 }

pub octets_pass : (octets : List ℕ) → AreOctets octets → are_octets octets ≡ true
octets_pass [] h = refl
octets_pass (octet ∷ octets) h = and_from (nat_lt octet 256) (are_octets octets) (lt-ltb octet 256 h.0) (octets_pass octets h.1)

pub nsap_passes : (address : List ℕ) → IsNsap address → is_nsap address ≡ true
nsap_passes address h =
    and_from (nat_lt 0 (length address) && nat_le (length address) 20) (are_octets address)
    (and_from (nat_lt 0 (length address)) (nat_le (length address) 20) (lt-ltb 0 (length address) h.is.some) (le-leb (length address) 20 h.is.most)) (octets_pass address h.octets)

snpa_of : (port : Port) → is_port port ≡ true → IsSnpa port.snpa
snpa_of port e =
    let both = and_parts (length port.snpa == 6) (are_octets port.snpa) e in
    record { six = eqb-true (length port.snpa) 6 both.0; octets = octets_of port.snpa both.1 }

-- ---- an offer

note_fits : (number : ℕ) (system : Option ℕ) (unit : CarriedUnit Port) → AllByRecursion FitsUp (frame_note number system unit)
note_fits number None unit = tt
note_fits number (Some system) unit = (tt, tt)

offer_fits : (old : Bag) (unit : CarriedUnit Port) (answer : Offered) → FitsBag old → IsFrame unit → FitsBag (after_offer old unit answer)
offer_fits old unit WasTaken h is = record {
  frames = all_both FitsKept old.frames (Some (record { tick = old.clock; unit = unit; taken = [] }) ∷ []) h.frames (is, tt);
  waiting = all_both FitsUp old.waiting (frame_note (length old.frames + 1) (sender_of old.rows unit.from) unit) h.waiting (note_fits (length old.frames + 1) (sender_of old.rows unit.from) unit);
}
offer_fits old unit (Dropped cause) h is = h

-- ---- a choice

kept_fits : (frames : List (Option LanFrame)) (place : ℕ) → AllByRecursion FitsKept frames → FitsKept (kept (slice_get frames place))
kept_fits [] place h = tt
kept_fits (slot ∷ frames) zero h = h.0
kept_fits (slot ∷ frames) (suc place) h = kept_fits frames place h.1

set_fits : (frames : List (Option LanFrame)) (place : ℕ) (slot : Option LanFrame) → AllByRecursion FitsKept frames → FitsKept slot → AllByRecursion FitsKept (slice_set frames place slot)
set_fits [] place slot h k = tt
set_fits (other ∷ frames) zero slot h k = (k, h.1)
set_fits (other ∷ frames) (suc place) slot h k = (h.0, set_fits frames place slot h.1 k)

marked_fits : (frames : List (Option LanFrame)) (place system : ℕ) (found : Option LanFrame) → AllByRecursion FitsKept frames → FitsKept found → AllByRecursion FitsKept (marked_frame frames place system found)
marked_fits frames place system None h k = h
marked_fits frames place system (Some frame) h k = set_fits frames place (Some (marked frame system)) h k

at_fits : (frames : List (Option LanFrame)) (pick system : ℕ) → AllByRecursion FitsKept frames → AllByRecursion FitsKept (marked_at frames pick system)
at_fits frames zero system h = h
at_fits frames (suc place) system h = marked_fits frames place system (kept (slice_get frames place)) h (kept_fits frames place h)

frame_fits : (frames : List (Option LanFrame)) (pick : ℕ) → AllByRecursion FitsKept frames → FitsKept (frame_of frames pick)
frame_fits frames zero h = tt
frame_fits frames (suc place) h = kept_fits frames place h

pick_fits : (old : Bag) (pick system : ℕ) (found : Option LanFrame) → FitsBag old → FitsKept found → FitsBag (after_pick old pick system found)
pick_fits old pick system None h k = h
pick_fits old pick system (Some frame) h k = record {
  frames = at_fits old.frames pick system h.frames;
  waiting = all_both FitsUp old.waiting (Came (record { system = system; unit = frame.unit }) ∷ []) h.waiting (k, tt);
}

choice_fits : (old : Bag) (pick system : ℕ) (answer : Picked) → FitsBag old → FitsBag (after_choose old pick system answer)
choice_fits old pick system WasPicked h = pick_fits old pick system (frame_of old.frames pick) h (frame_fits old.frames pick h.frames)
choice_fits old pick system other h = h

-- ---- an injection

framed_fits : (octets : List ℕ) (alien : Bool) (lan system : ℕ) → AreOctets octets → (alien ≡ false → 17 ≤ length octets)
    → FitsUp (up_in lan system (if alien then None else Some (record { to = take 6 octets; from = take 6 (drop 6 octets); pdu = take (length_field octets - 3) (drop 17 octets) })))
framed_fits octets true lan system h long = tt
framed_fits octets false lan system h long =
    let least = long refl in
    record {
      from = record { six = omega (arith, length-take 6 (drop 6 octets), length-drop 6 octets, least); octets = octets_take 6 (drop 6 octets) (octets_drop 6 octets h) };
      to = record { six = omega (arith, length-take 6 octets, least); octets = octets_take 6 octets h };
      octets = octets_take (length_field octets - 3) (drop 17 octets) (octets_drop 17 octets h);
    }

long_enough : (octets : List ℕ) → is_alien octets ≡ false → 17 ≤ length octets
long_enough octets e =
    let a = or_parts (nat_lt (length octets) 17 || nat_lt (length_field octets) 4 || nat_lt 1500 (length_field octets) || nat_lt (length octets) (14 + length_field octets)) (not (has_llc octets)) e in
    let b = or_parts (nat_lt (length octets) 17 || nat_lt (length_field octets) 4 || nat_lt 1500 (length_field octets)) (nat_lt (length octets) (14 + length_field octets)) a.0 in
    let c = or_parts (nat_lt (length octets) 17 || nat_lt (length_field octets) 4) (nat_lt 1500 (length_field octets)) b.0 in
    let d = or_parts (nat_lt (length octets) 17) (nat_lt (length_field octets) 4) c.0 in
    ltb-false (length octets) 17 d.0

up_fits : (lan system : ℕ) (octets : List ℕ) → AreOctets octets → FitsUp (ups_of lan system octets)
up_fits lan system octets h = framed_fits octets (is_alien octets) lan system h (long_enough octets)

injection_fits : (old : Bag) (lan system : ℕ) (octets : List ℕ) (answer : Injected) → FitsBag old → AreOctets octets → FitsBag (after_inject old lan system octets answer)
injection_fits old lan system octets InjectedNowhere h is = h
injection_fits old lan system octets WasInjected h is = record {
  frames = h.frames;
  waiting = all_both FitsUp old.waiting (ups_of lan system octets ∷ []) h.waiting (up_fits lan system octets is, tt);
}

-- ---- taking up, and a tick

rest_fits : (answer : Option (Up Port)) (waiting rest : List (Up Port)) → waiting ≡ after_first answer rest → AllByRecursion FitsUp waiting → AllByRecursion FitsUp rest
rest_fits None waiting rest e h = subst (AllByRecursion FitsUp) e h
rest_fits (Some up) waiting rest e h = let all : AllByRecursion FitsUp (up ∷ rest) = subst (AllByRecursion FitsUp) e h in all.1

slot_fits : (clock : ℕ) (lans : List Lan) (slot : Option LanFrame) → FitsKept slot → FitsKept (kept_at clock lans slot)
slot_fits clock lans None h = tt
slot_fits clock lans (Some frame) h = by (is_live clock lans frame)
  where
    by : (live : Bool) → FitsKept (if live then Some frame else None)
    by true = h
    by false = tt

slots_fit : (clock : ℕ) (lans : List Lan) (frames : List (Option LanFrame)) → AllByRecursion FitsKept frames → AllByRecursion FitsKept (map (kept_at clock lans) frames)
slots_fit clock lans [] h = tt
slots_fit clock lans (slot ∷ frames) h = (slot_fits clock lans slot h.0, slots_fit clock lans frames h.1)

-- ---- all calls

bag_stays : (old : Bag) (call : Call Port) (new : Bag) → FitsBag old → CanBeAsked is_port (link_of old) (asked_of call) → BagStep old call new → FitsBag new
bag_stays old (Offer unit wish answer) new h may s =
    subst FitsBag (sym s.1) (offer_fits old unit answer h (record { from = snpa_of unit.from may.from; to = snpa_of unit.to may.to; octets = may.octets }))
bag_stays old (Choose pick system answer) new h may s = subst FitsBag (sym s.1) (choice_fits old pick system answer h)
bag_stays old (Inject lan system octets answer) new h may s = subst FitsBag (sym s.1) (injection_fits old lan system octets answer h may)
bag_stays old (NextUp answer) new h may s =
    subst FitsBag (sym s.2) (record { frames = h.frames; waiting = rest_fits answer old.waiting new.waiting s.0 h.waiting })
bag_stays old Tick new h may s = subst FitsBag (sym s) (record { frames = slots_fit (old.clock + 1) old.lans old.frames h.frames; waiting = h.waiting })

taken_up : (old : Bag) (waiting : List (Up Port)) → old.waiting ≡ waiting → IsAnswered BagStep old TakingUp
taken_up old [] e = record { call = NextUp None; new = record old { waiting = [] }; is_asked = refl; steps_to = (e, (λ none. e), refl) }
taken_up old (up ∷ ups) e = record { call = NextUp (Some up); new = record old { waiting = ups }; is_asked = refl; steps_to = (e, (λ none. absurd (no_up up none)), refl) }
  where
    no_up : (up : Up Port) → Some up ≡ None → ⊥
    no_up up none = absurd cc

bag_answered : (old : Bag) (asked : Asked Port) → IsAnswered BagStep old asked
bag_answered old (Offering unit wish) =
    let answer : Offered = offered old.lans old.rows old.frames unit in
    record { call = Offer unit wish answer; new = after_offer old unit answer; is_asked = refl; steps_to = (refl, refl) }
bag_answered old (Choosing pick system) =
    let answer : Picked = picked_in old pick system in
    record { call = Choose pick system answer; new = after_choose old pick system answer; is_asked = refl; steps_to = (refl, refl) }
bag_answered old (Injecting lan system octets) =
    let answer : Injected = if is_on old.rows system lan then WasInjected else InjectedNowhere in
    record { call = Inject lan system octets answer; new = after_inject old lan system octets answer; is_asked = refl; steps_to = (refl, refl) }
bag_answered old TakingUp = taken_up old old.waiting refl
bag_answered old Ticking = record { call = Tick; new = record old { clock = old.clock + 1; frames = map (kept_at (old.clock + 1) old.lans) old.frames }; is_asked = refl; steps_to = refl }

pub bag_answers : AlwaysAnswers is_port link_of BagStep FitsBag
bag_answers = record { answered = λ old asked stands may. bag_answered old asked; stays = bag_stays }

-- ---- what comes up

pub record Gathered (old : Bag) : Type 0 where
  pub ups : List (Up Port)
  pub new : Bag
  pub gathers : Gathers link_of BagStep old ups new
  pub fits : FitsBag new
  pub each : AllByRecursion FitsUp ups

pub gathered : (old : Bag) → FitsBag old → Gathered old
gathered old h =
    let g = some_gathering link_of BagStep bag_keeps is_port FitsBag bag_answers old h in
    record { ups = g.0; new = g.1; gathers = g.2; fits = g.3; each = subst (AllByRecursion FitsUp) g.2.waited h.waiting }

pub record OffersOne (old : Bag) (frame : CarriedUnit Port) (wish : Wish) : Type 0 where
  pub answer : Offered
  pub new : Bag
  pub offers : BagStep old (Offer frame wish answer) new
  pub fits : FitsBag new

pub offers_one : (old : Bag) (frame : CarriedUnit Port) (wish : Wish) → FitsBag old → IsFrame frame → OffersOne old frame wish
offers_one old frame wish h is =
    let answer : Offered = offered old.lans old.rows old.frames frame in
    record { answer = answer; new = after_offer old frame answer; offers = (refl, refl); fits = offer_fits old frame answer h is }

pub chosen : (old : Bag) (pick system : ℕ) → FitsBag old → (answer : Picked) × (new : Bag) × BagStep old (Choose pick system answer) new × FitsBag new
chosen old pick system h =
    let answer : Picked = picked_in old pick system in
    (answer, after_choose old pick system answer, (refl, refl), choice_fits old pick system answer h)

pub injected : (old : Bag) (lan system : ℕ) (octets : List ℕ) → FitsBag old → AreOctets octets → (answer : Injected) × (new : Bag) × BagStep old (Inject lan system octets answer) new × FitsBag new
injected old lan system octets h is =
    let answer : Injected = if is_on old.rows system lan then WasInjected else InjectedNowhere in
    (answer, after_inject old lan system octets answer, (refl, refl), injection_fits old lan system octets answer h is)

pub passed : (old : Bag) → FitsBag old → (new : Bag) × BagStep old Tick new × FitsBag new
passed old h =
    (record old { clock = old.clock + 1; frames = map (kept_at (old.clock + 1) old.lans) old.frames }, refl, record { frames = slots_fit (old.clock + 1) old.lans old.frames h.frames; waiting = h.waiting })
