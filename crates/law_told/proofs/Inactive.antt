-- The network by the inactive subset is one that tells: what the LANs bring up names declared systems, and a frame that is no unit is told as alien.
use Rattle.std.proofs.Common.{◌≡◌, ◌<◌, ◌≤◌, ◌^◌, ℕ, ◌+◌, ◌==◌, Bool, true, false, cond, List, [], ◌∷◌, ◌++◌, length, Option, Some, None, refl, sym, subst, arith}
use Rattle.std.specs.Prelude.{IsTrue}
use Rattle.std.specs.List.{AllByRecursion}
use Rattle.nsap.specs.declared.port.Port.{Port}
use Rattle.osi_base.specs.declared.note.Note.TheVariants.{Alien}
use Rattle.osi_base.specs.declared.unit.Offered.{Offered}
use Rattle.osi_base.specs.declared.unit.Offered.TheVariants.{Taken as WasTaken}
use Rattle.osi_base.specs.declared.unit.Picked.{Picked}
use Rattle.osi_base.specs.declared.unit.Picked.TheVariants.{Taken as WasPicked}
use Rattle.osi_base.specs.declared.unit.Unit.{Unit as CarriedUnit}
use Rattle.osi_base.specs.declared.unit.Up.{Up}
use Rattle.osi_base.specs.declared.unit.Up.TheVariants.{Unit as Came, Note as Noted}
use Rattle.osi_base.specs.Calls.{Call, Choose, Inject, NextUp, Offer, Tick, after_first}
use Rattle.law_carrier_answers.specs.Answers.{CanBeAsked, asked_of}
use Rattle.lan_step.specs.Bag.{Bag, BagStep, link_of, new_bag, picked_in}
use Rattle.lan_step.specs.Frames.{is_taken as is_answer_taken}
use Rattle.inactive_step.specs.declared.row.InactiveRow.{InactiveRow}
use Rattle.inactive_step.specs.declared.row.Way.{Way}
use Rattle.inactive_step.specs.Frames.{frame_on, read_up, read_ups, unit_between, unit_in}
use Rattle.inactive_step.specs.Way.{way_from}
use Rattle.inactive_step.specs.Network.{Inactive}
use Rattle.inactive_step.specs.Rows.{row_on}
use Rattle.inactive_step.specs.Step.{Brings, InactiveArrives, InactiveOffers, InactiveTakesUp, InactiveTicks, Long, NoWay, Sent, plain_wish}
use Rattle.inactive_step.proofs.Found.{found_of}
use Rattle.inactive_step.proofs.Seen.{ends_of}
use Rattle.law_clnp_net.specs.Standing.{is_nsap}
use Rattle.law_clnp_step.proofs.Lists.{all_both}
use Rattle.law_inactive_answers.specs.Standing.{FitsRow, Stands}
use Rattle.law_inactive_answers.proofs.Always.{begins_serving, serves}
use Rattle.script_lines.specs.Tags.{Tags}
use Rattle.script_setup.specs.Fitting.{IsWell}
use Rattle.script_setup.specs.Inactive.{inactive_rows}
use Rattle.script_setup.specs.SetUp.{SetUp}
use Rattle.script_setup.proofs.Served.{are_served}
use Rattle.law_setup.specs.Lines.{IsInOctets}
use Rattle.law_setup.specs.InactiveNets.{InactiveDoes, MakesInactive, link_of_inactive}
use Rattle.law_setup.proofs.Made.{comes}
use Rattle.law_setup.proofs.MadeInactive.{all_fit, subset_law}
use Rattle.law_told.proofs.Carriers.{IsToldUp, Tells}
use Rattle.law_told.proofs.Notes.{BagTold, GoesTo, UpTold, bag_told, gathered_told, pick_of}
use Rattle.law_told.proofs.Routed.{nsap_octets}
use Rattle.law_told.proofs.Starting.{bag_first}
use Rattle.law_told.proofs.Transports.{NetTells}

module _ (tags : Tags) where
  abbrev pub AreUps : List (Up (List ℕ)) → Type 0
  AreUps ups = AllByRecursion (IsToldUp {A = List ℕ} tags) ups

  pub record NetTold (net : Inactive Bag) : Type 0 where
    pub link : BagTold tags net.link
    pub waiting : AreUps net.waiting

  -- ---- what is read

  between_told : (system : ℕ) (source goal : Option InactiveRow) (octets : List ℕ) → system < length tags.systems → IsToldUp {A = List ℕ} tags (unit_between system source goal octets)
  between_told system None goal octets is = (refl, (is, tt))
  between_told system (Some source) None octets is = (refl, (is, tt))
  between_told system (Some source) (Some goal) octets is = is

  unit_told : (rows : List InactiveRow) (system : ℕ) (from to : Port) (octets : List ℕ) → system < length tags.systems → IsToldUp {A = List ℕ} tags (unit_in rows system from to octets)
  unit_told rows system from to [] is = (refl, (is, tt))
  unit_told rows system from to (first ∷ octets) is = by (first == 0)
    where
      by : (b : Bool) → IsToldUp {A = List ℕ} tags (cond b (unit_between system (row_on rows from) (row_on rows to) octets) (Noted (Alien system)))
      by true = between_told system (row_on rows from) (row_on rows to) octets is
      by false = (refl, (is, tt))

  all_read : (rows : List InactiveRow) (ups : List (Up Port)) → AllByRecursion (IsToldUp {A = Port} tags) ups → AreUps (read_ups rows ups)
  all_read rows [] h = tt
  all_read rows (Noted note ∷ ups) h = (h.0, all_read rows ups h.1)
  all_read rows (Came arrival ∷ ups) h = (unit_told rows arrival.system arrival.unit.from arrival.unit.to arrival.unit.octets h.0, all_read rows ups h.1)

  -- ---- the calls

  brought : (old : Bag) (call : Call Port) (ups : List (Up Port)) (below : Bag) → BagTold tags old → GoesTo tags call → Brings link_of BagStep old call ups below → UpTold tags ups below
  brought old call ups below t goes b = gathered_told tags b.called ups below (bag_told tags old call b.called t goes b.calls) b.gathers

  more : (old : Inactive Bag) (ups : List (Up Port)) → NetTold old → AllByRecursion (IsToldUp {A = Port} tags) ups → AreUps (old.waiting ++ read_ups old.rows ups)
  more old ups t each = all_both (IsToldUp {A = List ℕ} tags) old.waiting (read_ups old.rows ups) t.waiting (all_read old.rows ups each)

  offered : (old new : Inactive Bag) (unit : CarriedUnit (List ℕ)) (answer : Offered) → Stands old → NetTold old → InactiveOffers link_of BagStep old unit answer new → NetTold new
  offered old new unit answer stands t (NoWay none e is) = subst NetTold (sym is) t
  offered old new unit answer stands t (Long way found room e is) = subst NetTold (sym is) t
  offered old new unit answer stands t (Sent way ups below found room brings is) =
      let goal : FitsRow way.goal = found_of FitsRow _ old.rows way.goal stands.rows (ends_of old.rows unit.from unit.to way found).goal in
      let up = brought old.link (Offer (frame_on way unit.octets) plain_wish answer) ups below t.link (λ taken. goal.snpa) brings in
      subst NetTold (sym is) (record { link = up.told; waiting = more old ups t up.each })

  arrived : (old new : Inactive Bag) (call : Call Port) → NetTold old → GoesTo tags call → InactiveArrives link_of BagStep old call new → NetTold new
  arrived old new call t goes a =
      let up = brought old.link call a.ups a.below t.link goes a.brings in
      subst NetTold (sym a.becomes) (record { link = up.told; waiting = more old a.ups t up.each })

  ticked : (old new : Inactive Bag) → NetTold old → InactiveTicks link_of BagStep old new → NetTold new
  ticked old new t k =
      let up = brought old.link Tick k.ups k.below t.link tt k.brings in
      subst NetTold (sym k.becomes) (record { link = up.told; waiting = more old k.ups t up.each })

  rest_told : (answer : Option (Up (List ℕ))) (waiting rest : List (Up (List ℕ))) → waiting ≡ after_first answer rest → AreUps waiting → AreUps rest
  rest_told None waiting rest e h = subst AreUps e h
  rest_told (Some up) waiting rest e h = let all : AreUps (up ∷ rest) = subst AreUps e h in all.1

  taken_up : (old new : Inactive Bag) (answer : Option (Up (List ℕ))) → NetTold old → InactiveTakesUp link_of BagStep old answer new → NetTold new
  taken_up old new answer t u = subst NetTold (sym u.becomes) (record { link = t.link; waiting = rest_told answer old.waiting new.waiting u.waiting t.waiting })

  -- in octets, and told; and the clock has not passed its limit
  pub record SubsetTold (net : Inactive Bag) : Type 0 where
    pub stands : Stands net
    pub told : NetTold net
    pub clock : (link_of_inactive net).clock ≤ 4000000000

  clock_on : (old : Inactive Bag) (call : Call (List ℕ)) (new : Inactive Bag) → SubsetTold old → InactiveDoes old call new → (link_of_inactive new).clock ≤ 4000000000
  clock_on old (Offer unit wish answer) new t step = let kept = (subset_law old (Offer unit wish answer) new step).clock in let low = t.clock in omega (arith, kept, low)
  clock_on old (Choose pick system answer) new t step = let kept = (subset_law old (Choose pick system answer) new step).clock in let low = t.clock in omega (arith, kept, low)
  clock_on old (Inject lan system octets answer) new t step = let kept = (subset_law old (Inject lan system octets answer) new step).clock in let low = t.clock in omega (arith, kept, low)
  clock_on old (NextUp answer) new t step = let kept = (subset_law old (NextUp answer) new step).clock in let low = t.clock in omega (arith, kept, low)
  clock_on old Tick new t step = let kept = (subset_law old Tick new step).clock in let low = step.0.1 in omega (arith, kept, low)

  told_on : (old : Inactive Bag) (call : Call (List ℕ)) (new : Inactive Bag) → SubsetTold old → InactiveDoes old call new → NetTold new
  told_on old (Offer unit wish answer) new t step = offered old new unit answer t.stands t.told step.1
  told_on old (Choose pick system answer) new t step = arrived old new (Choose pick system answer) t.told tt step.1
  told_on old (Inject lan system octets answer) new t step = arrived old new (Inject lan system octets answer) t.told tt step.1
  told_on old (NextUp answer) new t step = taken_up old new answer t.told step.1
  told_on old Tick new t step = ticked old new t.told step.1

  stays_told : (old : Inactive Bag) (call : Call (List ℕ)) (new : Inactive Bag) → SubsetTold old → CanBeAsked is_nsap (link_of_inactive old) (asked_of call) → InactiveDoes old call new → SubsetTold new
  stays_told old call new t may step = record { stands = serves.answers.stays old call new t.stands may step; told = told_on old call new t step; clock = clock_on old call new t step }

  -- what can be taken
  takes_of : (answer : Picked) → is_answer_taken answer ≡ true → answer ≡ WasPicked
  takes_of WasPicked h = refl
  takes_of other h = absurd cc

  picks_told : (net : Inactive Bag) → SubsetTold net → (pick system : ℕ) → IsTrue ((link_of_inactive net).takes pick system) → (pick < 2 ^ 64) × (system < length tags.systems)
  picks_told net t pick system is =
      let p = pick_of tags net.link pick system t.told.link (takes_of (picked_in net.link pick system) is) in
      let few = p.few in
      (omega (arith, few), p.declared)

  subset_tells : Tells tags is_nsap link_of_inactive InactiveDoes SubsetTold
  subset_tells = record {
    serves = record {
      answers = record {
        answered = λ old asked stands may. serves.answers.answered old asked stands.stands may;
        stays = stays_told;
      };
      in_octets = λ old stands. comes (link_of_inactive old).waiting (serves.in_octets old stands.stands);
      least = λ old stands. serves.least old stands.stands;
    };
    waiting = λ old stands. stands.told.waiting;
    picks = picks_told;
    clock = λ old stands. stands.clock;
    addresses = nsap_octets;
  }

-- ---- as it is made

subset_begins : (tags : Tags) (setup : SetUp) (net : Inactive Bag) → length tags.systems ≡ length setup.systems → length tags.lans ≡ length setup.lans → IsWell setup → IsInOctets setup → MakesInactive setup net → SubsetTold tags net
subset_begins tags setup net systems lans w o made = subst (SubsetTold tags) (sym made) (record {
  stands = begins_serving setup.lans setup.ports (inactive_rows setup) (are_served setup w) (all_fit setup w o);
  told = record { link = bag_first tags setup systems lans w; waiting = tt };
  clock = omega arith;
})

pub inactive_tells : NetTells link_of_inactive InactiveDoes MakesInactive SubsetTold
inactive_tells = record { tells = subset_tells; begins = subset_begins }
