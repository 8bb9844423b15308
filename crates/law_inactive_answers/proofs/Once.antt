-- Each call of the network has one answer, where each call of the carrier below has.
use Rattle.std.proofs.Common.{◌≡◌, ℕ, ◌+◌, ◌<◌, ◌≤◌, List, ◌++◌, length, Option, Some, None, refl, sym, ◌∙◌, ap, subst, arith}
use Rattle.std.specs.List.{filter}
use Rattle.nsap.specs.declared.port.Port.{Port}
use Rattle.osi_base.specs.declared.unit.Offered.{Offered}
use Rattle.osi_base.specs.declared.unit.Unit.{Unit as CarriedUnit}
use Rattle.osi_base.specs.declared.unit.Up.{Up}
use Rattle.osi_base.specs.declared.unit.Wish.{Wish}
use Rattle.osi_base.specs.Calls.{Call, Offer, Choose, Inject, NextUp, Tick}
use Rattle.osi_base.specs.Floated.{is_young}
use Rattle.osi_base.specs.Gathering.{Gathers}
use Rattle.osi_base.specs.Link.{Link}
use Rattle.law_carrier_answers.specs.Answers.{OneStep, asked_of}
use Rattle.law_carrier_answers.proofs.Gatherings.{one_gathering}
use Rattle.lan_step.specs.Bag.{BagStep, link_of}
use Rattle.inactive_step.specs.declared.row.Way.{Way}
use Rattle.inactive_step.specs.Frames.{frame_on, read_ups}
use Rattle.inactive_step.specs.Way.{way_from}
use Rattle.inactive_step.specs.Network.{Inactive}
use Rattle.inactive_step.specs.Rows.{longest}
use Rattle.inactive_step.specs.Step.{Brings, InactiveArrives, InactiveOffers, InactiveStep, InactiveTakesUp, InactiveTicks, Long, NoWay, Sent, counted, floated, plain_wish, strays_in}
use Rattle.law_inactive_answers.specs.Laws.{OneNetAnswer}
use Rattle.law_clnp_net.proofs.Bags.{one_bag_answer}
use Rattle.law_clnp_net.proofs.Steps.{one_front, same_choice, same_chosen, same_injected, same_injection, same_offer}

no_way : {A : Type 0} (found : Option A) (one : A) → found ≡ None → found ≡ Some one → ⊥
no_way found one a b = absurd cc

same_way : (found : Option Way) (one other : Way) → found ≡ Some one → found ≡ Some other → one ≡ other
same_way found one other a b = cc

same_answer : {A : Type 0} (one other : CarriedUnit A) (wish more : Wish) (answer offered : Offered) → Offer one wish answer ≡ Offer other more offered → answer ≡ offered
same_answer one other wish more answer offered e = cc e

module _ {C : Type 0} (link : C → Link Port) (steps : C → Call Port → C → Type 0) (once : OneStep steps) where
  -- ---- a call below, and what it brings up

  record AreOne (one other : Call Port) (ups others : List (Up Port)) (below lower : C) : Type 0 where
    call : one ≡ other
    ups_are : ups ≡ others
    below_is : below ≡ lower

  one_bringing : (old : C) (one other : Call Port) (ups others : List (Up Port)) (below lower : C) → asked_of one ≡ asked_of other → Brings link steps old one ups below
      → Brings link steps old other others lower → AreOne one other ups others below lower
  one_bringing old one other ups others below lower asked a b =
      let called = once old one other a.called b.called asked a.calls b.calls in
      let gathers : Gathers link steps b.called ups below = subst (λ (c : C). Gathers link steps c ups below) called.1 a.gathers in
      let all = one_gathering link steps once b.called ups others below lower gathers b.gathers in
      record { call = called.0; ups_are = all.0; below_is = all.1 }

  -- ---- an offer

  too_long : (way other : Way) (octets : List ℕ) → way ≡ other → way.goal.room < length octets + 1 → length octets + 1 ≤ other.goal.room → ⊥
  too_long way other octets same long short = omega (arith, long, short, ap (λ (w : Way). w.goal.room) same)

  one_offer : (old : Inactive C) (unit : CarriedUnit (List ℕ)) (answer other : Offered) (new next : Inactive C) → InactiveOffers link steps old unit answer new
      → InactiveOffers link steps old unit other next → (answer ≡ other) × (new ≡ next)
  one_offer old unit answer other new next (NoWay none is same) (NoWay none' also alike) = (is ∙ sym also, same ∙ sym alike)
  one_offer old unit answer other new next (NoWay none is same) (Long way found long also alike) = absurd (no_way (way_from old.rows unit.from unit.to) way none found)
  one_offer old unit answer other new next (NoWay none is same) (Sent way ups below found short brings becomes) = absurd (no_way (way_from old.rows unit.from unit.to) way none found)
  one_offer old unit answer other new next (Long way found long is same) (NoWay none also alike) = absurd (no_way (way_from old.rows unit.from unit.to) way none found)
  one_offer old unit answer other new next (Long way found long is same) (Long way' found' long' also alike) = (is ∙ sym also, same ∙ sym alike)
  one_offer old unit answer other new next (Long way found long is same) (Sent way' ups below found' short brings becomes) =
      absurd (too_long way way' unit.octets (same_way (way_from old.rows unit.from unit.to) way way' found found') long short)
  one_offer old unit answer other new next (Sent way ups below found short brings becomes) (NoWay none also alike) = absurd (no_way (way_from old.rows unit.from unit.to) way none found)
  one_offer old unit answer other new next (Sent way ups below found short brings becomes) (Long way' found' long also alike) =
      absurd (too_long way' way unit.octets (same_way (way_from old.rows unit.from unit.to) way' way found' found) long short)
  one_offer old unit answer other new next (Sent way ups below found short brings becomes) (Sent way' others lower found' short' brought became) =
      let ways = same_way (way_from old.rows unit.from unit.to) way way' found found' in
      let there : Brings link steps old.link (Offer (frame_on way' unit.octets) plain_wish answer) ups below =
      subst (λ (w : Way). Brings link steps old.link (Offer (frame_on w unit.octets) plain_wish answer) ups below) ways brings in
      let all = one_bringing old.link (Offer (frame_on way' unit.octets) plain_wish answer) (Offer (frame_on way' unit.octets) plain_wish other) ups others below lower refl there brought in
      let answers : answer ≡ other = same_answer (frame_on way' unit.octets) (frame_on way' unit.octets) plain_wish plain_wish answer other all.call in
      let net : C → Offered → List (Up Port) → Inactive C = λ c o us. record old {
        link = c;
        floating = floated old.floating (link old.link).clock unit o;
        waiting = old.waiting ++ read_ups old.rows us;
      } in
      let nets : net below answer ups ≡ net lower other others = λ i. net (all.below_is i) (answers i) (all.ups_are i) in
      (answers, becomes ∙ nets ∙ sym became)

  -- ---- what comes up

  one_coming : (old : Inactive C) (call other : Call Port) (new next : Inactive C) → asked_of call ≡ asked_of other → InactiveArrives link steps old call new
      → InactiveArrives link steps old other next → (call ≡ other) × (new ≡ next)
  one_coming old call other new next asked a b =
      let all = one_bringing old.link call other a.ups b.ups a.below b.below asked a.brings b.brings in
      let net : C → List (Up Port) → Inactive C = λ c us. record old {
        link = c;
        waiting = old.waiting ++ read_ups old.rows us;
        strays = counted (link c).honest old.strays (strays_in old.rows (link old.link).clock old.floating (read_ups old.rows us));
      } in
      let nets : net a.below a.ups ≡ net b.below b.ups = λ i. net (all.below_is i) (all.ups_are i) in
      (all.call, a.becomes ∙ nets ∙ sym b.becomes)

  -- ---- a tick

  one_tick : (old new next : Inactive C) → InactiveTicks link steps old new → InactiveTicks link steps old next → new ≡ next
  one_tick old new next a b =
      let all = one_bringing old.link Tick Tick a.ups b.ups a.below b.below refl a.brings b.brings in
      let net : C → List (Up Port) → Inactive C = λ c us. record old {
        link = c;
        floating = filter (is_young ((link old.link).clock + 1) (longest old.rows)) old.floating;
        waiting = old.waiting ++ read_ups old.rows us;
      } in
      let nets : net a.below a.ups ≡ net b.below b.ups = λ i. net (all.below_is i) (all.ups_are i) in
      a.becomes ∙ nets ∙ sym b.becomes

  -- ---- taking up

  one_taking : (old : Inactive C) (answer other : Option (Up (List ℕ))) (new next : Inactive C) → InactiveTakesUp link steps old answer new → InactiveTakesUp link steps old other next
      → (answer ≡ other) × (new ≡ next)
  one_taking old answer other new next a b =
      let both = one_front answer other old.waiting new.waiting next.waiting a.waiting b.waiting a.none b.none in
      (both.0, a.becomes ∙ ap (λ (ups : List (Up (List ℕ))). let net : Inactive C = record old { waiting = ups } in net) both.1 ∙ sym b.becomes)

  -- ---- all calls

  pub one_answer : OneStep (InactiveStep link steps)
  one_answer old (Offer unit wish answer) (Offer other more offered) new next asked a b =
      let same = same_offer unit other wish more asked in
      let there : InactiveOffers link steps old unit offered next = subst (λ (u : CarriedUnit (List ℕ)). InactiveOffers link steps old u offered next) (sym same.0) b.1 in
      let both = one_offer old unit answer offered new next a.1 there in
      (λ i. Offer (same.0 i) (same.1 i) (both.0 i), both.1)
  one_answer old (Choose pick system answer) (Choose other more picked) new next asked a b =
      let both = one_coming old (Choose pick system answer) (Choose other more picked) new next (same_choice pick system other more asked) a.1 b.1 in
      (same_chosen pick system other more answer picked both.0, both.1)
  one_answer old (Inject lan system octets answer) (Inject other more others injected) new next asked a b =
      let both = one_coming old (Inject lan system octets answer) (Inject other more others injected) new next (same_injection lan system other more octets others asked) a.1 b.1 in
      (same_injected lan system other more octets others answer injected both.0, both.1)
  one_answer old (NextUp answer) (NextUp other) new next asked a b =
      let both = one_taking old answer other new next a.1 b.1 in
      (ap NextUp both.0, both.1)
  one_answer old Tick Tick new next asked a b = (refl, one_tick old new next a.1 b.1)
  one_answer old one other new next asked a b = absurd cc

-- over the LANs
pub one_net_answer : OneNetAnswer
one_net_answer = one_answer link_of BagStep one_bag_answer
