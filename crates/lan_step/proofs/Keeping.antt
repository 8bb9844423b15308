-- Each step of the LANs keeps the link contract.
use Rattle.std.proofs.Common.{◌≡◌, zero, suc, List, [], refl, sym, ◌∙◌, subst, arith, Option, Some, None, slice_get}
use Rattle.osi_base.proofs.Standings.{stands_same}
use Rattle.std.proofs.lemmas.Option.{slice_get_within}
use Rattle.osi_base.specs.declared.unit.Up.{Up}
use Rattle.osi_base.specs.Link.{IsGiven}
use Rattle.osi_base.specs.Calls.{Call, Offer, Choose, Inject, NextUp, Tick, TakesUp, Ticks, Keeps, after_first}
use Rattle.nsap.specs.declared.port.Port.{Port}
use Rattle.lan_step.specs.Bag.{Bag, BagStep, link_of}
use Rattle.lan_step.proofs.Offering.{offers_ok}
use Rattle.lan_step.proofs.Choosing.{chooses_ok}
use Rattle.lan_step.proofs.Injecting.{injects_ok}
use Rattle.lan_step.proofs.Ticking.{ticks}
use Rattle.lan_step.proofs.Places.{takes_some, takes_at}

-- the picks that the LANs gave are the numbers of their frames
pub bag_given : (bag : Bag) → IsGiven (link_of bag)
bag_given bag zero system h = omega arith
bag_given bag (suc k) system h =
    let stands = takes_some bag.clock bag.lans bag.rows (slice_get bag.frames k) system (sym (takes_at bag.clock bag.lans bag.rows bag.frames k system) ∙ h) in
    slice_get_within bag.frames k (Some stands.0) stands.1

-- what waits is taken up

takes_up : (old : Bag) (answer : Option (Up Port)) (rest : List (Up Port)) → old.waiting ≡ after_first answer rest → (answer ≡ None → old.waiting ≡ []) → TakesUp (link_of old) answer (link_of (record old { waiting = rest }))
takes_up old answer rest w n = record {
  same = record { bound = λ to. refl; room = λ to. refl; belongs = λ to system. refl };
  clock = refl;
  honest = refl;
  strays = refl;
  grows = λ entry h. h;
  lost = λ entry h _. h;
  waiting = w;
  none = n;
  takes = (stands_same (link_of old)).takes;
  picks = record { given = (stands_same (link_of old)).picks.given; again = (stands_same (link_of old)).picks.again };
  took = (stands_same (link_of old)).took;
}

pub bag_keeps : (old : Bag) (call : Call Port) (new : Bag) → BagStep old call new → Keeps (link_of old) call (link_of new)
bag_keeps old (Offer unit wish answer) new h = offers_ok old unit answer new h.1
bag_keeps old (Choose pick system answer) new h = chooses_ok old pick system answer new h.0 h.1
bag_keeps old (Inject lan system octets answer) new h = injects_ok old lan system octets answer new h.1
bag_keeps old (NextUp answer) new h = subst (λ (b : Bag). TakesUp (link_of old) answer (link_of b)) (sym h.2) (takes_up old answer new.waiting h.0 h.1)
bag_keeps old Tick new h = subst (λ (b : Bag). Ticks (link_of old) (link_of b)) (sym h) (ticks old)
