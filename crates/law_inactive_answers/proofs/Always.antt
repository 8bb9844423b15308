-- The network over the LANs always answers, and all that comes up in it is in octets: what the LANs bring up is, and an end system has an
-- address of 1 to 20 octets.
use Rattle.std.proofs.Common.{◌≡◌, ℕ, ◌+◌, ◌<◌, ◌≤◌, ◌==◌, Bool, true, false, cond, List, [], ◌∷◌, ◌++◌, length, Option, Some, None, refl, subst, arith, ltb-true, ltb-false}
use Rattle.std.specs.Prelude.{nat_lt}
use Rattle.std.specs.List.{AllByRecursion, filter}
use Rattle.nsap.specs.declared.port.Port.{Port}
use Rattle.osi_base.specs.declared.unit.DropCause.TheVariants as causes
use Rattle.osi_base.specs.declared.unit.Offered.TheVariants.{Dropped}
use Rattle.osi_base.specs.declared.unit.Unit.{Unit as CarriedUnit}
use Rattle.osi_base.specs.declared.unit.Up.{Up}
use Rattle.osi_base.specs.declared.unit.Up.TheVariants.{Unit as Came, Note as Noted}
use Rattle.osi_base.specs.declared.unit.Wish.{Wish}
use Rattle.osi_base.specs.Calls.{Call, Offer, Choose, Inject, NextUp, Tick}
use Rattle.osi_base.specs.Floated.{is_young}
use Rattle.law_carrier_answers.specs.Answers.{AreOctets, Asked, CanBeAsked, Choosing, Injecting, Offering, TakingUp, Ticking, asked_of}
use Rattle.lan_step.specs.Bag.{Bag, BagStep, link_of, new_bag}
use Rattle.lan_step.proofs.Keeping.{bag_keeps}
use Rattle.inactive_step.specs.declared.row.InactiveRow.{InactiveRow}
use Rattle.inactive_step.specs.declared.row.Way.{Way}
use Rattle.inactive_step.specs.Frames.{frame_on, read_up, read_ups, unit_between, unit_in}
use Rattle.inactive_step.specs.Way.{way_from}
use Rattle.inactive_step.specs.Network.{Inactive, inactive_link}
use Rattle.inactive_step.specs.Rows.{longest, row_on}
use Rattle.inactive_step.specs.Step.{InactiveArrives, InactiveStep, Long, NoWay, Sent, counted, floated, plain_wish, strays_in}
use Rattle.inactive_step.proofs.Found.{found_of}
use Rattle.inactive_step.proofs.Kept.{begins_soundly, stays_sound}
use Rattle.inactive_step.proofs.Seen.{ends_of}
use Rattle.law_clnp_net.specs.Serving.{ComesInOctets, WaitsInOctets}
use Rattle.law_clnp_net.specs.Standing.{FitsBag, FitsUp, IsFrame, is_nsap}
use Rattle.law_clnp_net.proofs.answered.Carrying.{chosen, gathered, injected, nsap_passes, offers_one, passed}
use Rattle.law_clnp_net.proofs.answered.Least.{least_pair}
use Rattle.law_clnp_net.proofs.answered.Moving.{waits_both}
use Rattle.law_inactive_answers.specs.Laws.{BeginsServing, InactiveServes}
use Rattle.law_inactive_answers.specs.Standing.{FitsRow, Stands}
use Rattle.law_inactive_answers.proofs.Once.{one_net_answer}

-- ---- what is read

between_fits : (rows : List InactiveRow) (system : ℕ) (source goal : Option InactiveRow) (octets : List ℕ) → ((row : InactiveRow) → source ≡ Some row → FitsRow row)
    → ((row : InactiveRow) → goal ≡ Some row → FitsRow row) → AreOctets octets → ComesInOctets is_nsap (unit_between system source goal octets)
between_fits rows system None goal octets h k o = tt
between_fits rows system (Some source) None octets h k o = tt
between_fits rows system (Some source) (Some goal) octets h k o = record {
  from = nsap_passes source.address (h source refl).address;
  to = nsap_passes goal.address (k goal refl).address;
  octets = o;
}

read_fits : (rows : List InactiveRow) (up : Up Port) → AllByRecursion FitsRow rows → FitsUp up → ComesInOctets is_nsap (read_up rows up)
read_fits rows (Noted note) h k = tt
read_fits rows (Came arrival) h k = by arrival.unit.octets k.octets
  where
    found : (port : Port) (row : InactiveRow) → row_on rows port ≡ Some row → FitsRow row
    found port row is = found_of FitsRow _ rows row h is

    by : (octets : List ℕ) → AreOctets octets → ComesInOctets is_nsap (unit_in rows arrival.system arrival.unit.from arrival.unit.to octets)
    by [] o = tt
    by (first ∷ octets) o = kind (first == 0)
      where
        kind : (b : Bool) → ComesInOctets is_nsap (cond b (unit_between arrival.system (row_on rows arrival.unit.from) (row_on rows arrival.unit.to) octets) (Noted (Rattle.osi_base.specs.declared.note.Note.TheVariants.Alien arrival.system)))
        kind false = tt
        kind true = between_fits rows arrival.system (row_on rows arrival.unit.from) (row_on rows arrival.unit.to) octets (found arrival.unit.from) (found arrival.unit.to) o.1

all_read : (rows : List InactiveRow) (ups : List (Up Port)) → AllByRecursion FitsRow rows → AllByRecursion FitsUp ups → WaitsInOctets (read_ups rows ups)
all_read rows [] h k = tt
all_read rows (up ∷ ups) h k = (read_fits rows up h k.0, all_read rows ups h k.1)

-- ---- an answer, and the network after it, in octets

record Answered (old : Inactive Bag) (asked : Asked (List ℕ)) : Type 0 where
  call : Call (List ℕ)
  new : Inactive Bag
  is_asked : asked_of call ≡ asked
  steps : InactiveStep link_of BagStep old call new
  stands : Stands new

sound_on : (old : Inactive Bag) (call : Call (List ℕ)) (new : Inactive Bag) → Stands old → InactiveStep link_of BagStep old call new → Rattle.inactive_step.specs.Sound.IsSound link_of new
sound_on old call new stands step = stays_sound link_of BagStep bag_keeps old call new stands.sound step

module _ (old : Inactive Bag) (stands : Stands old) where
  -- a unit on its way
  sent : (unit : CarriedUnit (List ℕ)) (wish : Wish) (way : Way) → AreOctets unit.octets → way_from old.rows unit.from unit.to ≡ Some way → length unit.octets + 1 ≤ way.goal.room
      → Answered old (Offering unit wish)
  sent unit wish way octets is short =
      let ends = ends_of old.rows unit.from unit.to way is in
      let source : FitsRow way.source = found_of FitsRow _ old.rows way.source stands.rows ends.source in
      let goal : FitsRow way.goal = found_of FitsRow _ old.rows way.goal stands.rows ends.goal in
      let frame : IsFrame (frame_on way unit.octets) = record { from = source.snpa; to = goal.snpa; octets = (omega arith, octets) } in
      let o = offers_one old.link (frame_on way unit.octets) plain_wish stands.link frame in
      let g = gathered o.new o.fits in
      let new : Inactive Bag = record old { link = g.new; floating = floated old.floating (link_of old.link).clock unit o.answer; waiting = old.waiting ++ read_ups old.rows g.ups } in
      let steps : InactiveStep link_of BagStep old (Offer unit wish o.answer) new =
      (stands.sound, Sent way g.ups g.new is short (record { called = o.new; calls = o.offers; gathers = g.gathers }) refl) in
      record {
        call = Offer unit wish o.answer;
        new = new;
        is_asked = refl;
        steps = steps;
        stands = record {
          sound = sound_on old (Offer unit wish o.answer) new stands steps;
          link = g.fits;
          rows = stands.rows;
          waiting = waits_both old.waiting (read_ups old.rows g.ups) stands.waiting (all_read old.rows g.ups stands.rows g.each);
        };
      }

  offered : (unit : CarriedUnit (List ℕ)) (wish : Wish) → AreOctets unit.octets → Answered old (Offering unit wish)
  offered unit wish octets = by (way_from old.rows unit.from unit.to) refl
    where
      fits : (way : Way) → way_from old.rows unit.from unit.to ≡ Some way → (b : Bool) → nat_lt way.goal.room (length unit.octets + 1) ≡ b → Answered old (Offering unit wish)
      fits way is true e = record {
        call = Offer unit wish (Dropped causes.TooLong);
        new = old;
        is_asked = refl;
        steps = (stands.sound, Long way is (ltb-true way.goal.room (length unit.octets + 1) e) refl refl);
        stands = stands;
      }
      fits way is false e = sent unit wish way octets is (ltb-false way.goal.room (length unit.octets + 1) e)

      by : (found : Option Way) → way_from old.rows unit.from unit.to ≡ found → Answered old (Offering unit wish)
      by None is = record {
        call = Offer unit wish (Dropped causes.NoRoute);
        new = old;
        is_asked = refl;
        steps = (stands.sound, NoWay is refl refl);
        stands = stands;
      }
      by (Some way) is = fits way is (nat_lt way.goal.room (length unit.octets + 1)) refl

  -- what a call brings up
  record Risen (call : Call Port) : Type 0 where
    new : Inactive Bag
    arrives : InactiveArrives link_of BagStep old call new
    link : FitsBag new.link
    rows : AllByRecursion FitsRow new.rows
    waiting : WaitsInOctets new.waiting

  risen : (call : Call Port) (called : Bag) → BagStep old.link call called → FitsBag called → Risen call
  risen call called s fits =
      let g = gathered called fits in
      record {
        new = record old {
          link = g.new;
          waiting = old.waiting ++ read_ups old.rows g.ups;
          strays = counted (link_of g.new).honest old.strays (strays_in old.rows (link_of old.link).clock old.floating (read_ups old.rows g.ups));
        };
        arrives = record { ups = g.ups; below = g.new; brings = record { called = called; calls = s; gathers = g.gathers }; becomes = refl };
        link = g.fits;
        rows = stands.rows;
        waiting = waits_both old.waiting (read_ups old.rows g.ups) stands.waiting (all_read old.rows g.ups stands.rows g.each);
      }

  picked : (pick system : ℕ) → Answered old (Choosing pick system)
  picked pick system =
      let c = chosen old.link pick system stands.link in
      let r = risen (Choose pick system c.0) c.1 c.2 c.3 in
      record {
        call = Choose pick system c.0;
        new = r.new;
        is_asked = refl;
        steps = (stands.sound, r.arrives);
        stands = record { sound = sound_on old (Choose pick system c.0) r.new stands (stands.sound, r.arrives); link = r.link; rows = r.rows; waiting = r.waiting };
      }

  received : (lan system : ℕ) (octets : List ℕ) → AreOctets octets → Answered old (Injecting lan system octets)
  received lan system octets may =
      let c = injected old.link lan system octets stands.link may in
      let r = risen (Inject lan system octets c.0) c.1 c.2 c.3 in
      record {
        call = Inject lan system octets c.0;
        new = r.new;
        is_asked = refl;
        steps = (stands.sound, r.arrives);
        stands = record { sound = sound_on old (Inject lan system octets c.0) r.new stands (stands.sound, r.arrives); link = r.link; rows = r.rows; waiting = r.waiting };
      }

  ticked : (link_of old.link).clock < 4000000000 → Answered old Ticking
  ticked low =
      let p = passed old.link stands.link in
      let g = gathered p.0 p.2 in
      let new : Inactive Bag = record old {
        link = g.new;
        floating = filter (is_young ((link_of old.link).clock + 1) (longest old.rows)) old.floating;
        waiting = old.waiting ++ read_ups old.rows g.ups;
      } in
      let steps : InactiveStep link_of BagStep old Tick new =
      ((stands.sound, low), record { ups = g.ups; below = g.new; brings = record { called = p.0; calls = p.1; gathers = g.gathers }; becomes = refl }) in
      record {
        call = Tick;
        new = new;
        is_asked = refl;
        steps = steps;
        stands = record {
          sound = sound_on old Tick new stands steps;
          link = g.fits;
          rows = stands.rows;
          waiting = waits_both old.waiting (read_ups old.rows g.ups) stands.waiting (all_read old.rows g.ups stands.rows g.each);
        };
      }

taken_up : (old : Inactive Bag) (waiting : List (Up (List ℕ))) → Stands old → old.waiting ≡ waiting → Answered old TakingUp
taken_up old [] stands e = record {
  call = NextUp None;
  new = old;
  is_asked = refl;
  steps = (tt, record { waiting = refl; none = λ none. e; becomes = refl });
  stands = stands;
}
taken_up old (up ∷ ups) stands e =
    let new : Inactive Bag = record old { waiting = ups } in
    let steps : InactiveStep link_of BagStep old (NextUp (Some up)) new = (tt, record { waiting = e; none = λ none. absurd cc; becomes = refl }) in
    record {
      call = NextUp (Some up);
      new = new;
      is_asked = refl;
      steps = steps;
      stands = record { sound = sound_on old (NextUp (Some up)) new stands steps; link = stands.link; rows = stands.rows; waiting = (subst WaitsInOctets e stands.waiting).1 };
    }

answered : (old : Inactive Bag) (asked : Asked (List ℕ)) → Stands old → CanBeAsked is_nsap (inactive_link link_of old) asked → Answered old asked
answered old (Offering unit wish) stands may = offered old stands unit wish may.octets
answered old (Choosing pick system) stands may = picked old stands pick system
answered old (Injecting lan system octets) stands may = received old stands lan system octets may
answered old TakingUp stands may = taken_up old old.waiting stands refl
answered old Ticking stands may = ticked old stands may

stays : (old : Inactive Bag) (call : Call (List ℕ)) (new : Inactive Bag) → Stands old → CanBeAsked is_nsap (inactive_link link_of old) (asked_of call)
    → InactiveStep link_of BagStep old call new → Stands new
stays old call new stands may step =
    let a = answered old (asked_of call) stands may in
    subst Stands (one_net_answer old a.call call a.new new a.is_asked a.steps step).1 a.stands

pub serves : InactiveServes
serves = record {
  answers = record {
    answered = λ old asked stands may.
        let a = answered old asked stands may in
        record { call = a.call; new = a.new; is_asked = a.is_asked; steps_to = a.steps };
    stays = stays;
  };
  in_octets = λ old stands. stands.waiting;
  least = λ old stands. least_pair old.link;
}

pub begins_serving : BeginsServing
begins_serving lans ports rows served fits = record {
  sound = begins_soundly link_of (new_bag lans ports) rows refl refl refl served;
  link = record { frames = tt; waiting = tt };
  rows = fits;
  waiting = tt;
}
