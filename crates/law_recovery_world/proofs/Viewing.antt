-- What a sending half knows by an AK that its partner offered stands in its line.
use Rattle.std.proofs.Common.{◌≡◌, ◌≤◌, inl, inr, ℕ, ◌+◌, List, ap, subst, arith, Contains}
use Rattle.osi_base.specs.Link.{Link}
use Rattle.tp4_number.specs.Sender.{Sender}
use Rattle.tp4_number.specs.Traffic.{Answer}
use Rattle.law_recovery_pair.specs.Speaking.{Heard, Knows}
use Rattle.law_recovery_pair.specs.Views.{View, known, view_of}
use Rattle.tp4_conn.specs.declared.halves.Halves.{Halves}
use Rattle.tp4_conn.specs.declared.timers.Timers.{Timers}
use Rattle.law_recovery_ends.proofs.Lines.{beginners_know}
use Rattle.script_journal.specs.Partner.{ArePartners}
use Rattle.script_journal.specs.declared.event.Event.{Event}
use Rattle.law_tp4_history.specs.Ends.{Ak, Body}
use Rattle.law_tp4_history.specs.History.{IsPartner}
use Rattle.law_tp4_history.specs.Tracks.{IsNumbered, Noted, Whole}
use Rattle.law_tp4_history.proofs.Meets.{swap}
use Rattle.law_tp4_history.proofs.Sound.{one_partner}
use Rattle.law_tp4_history.proofs.Tracked.{numbered}
use Rattle.law_tp4_history.proofs.Written.{Kept}
use Rattle.law_tp4_history.specs.Moves.{times_of}
use Rattle.tp4_world.specs.World.{World}
use Rattle.law_tp4_lawful.specs.Numbers.{IsOpenEnd}
use Rattle.law_tp4_lawful.proofs.Known.{IsKnown}
use Rattle.law_tp4_lawful.proofs.Worlds.{Explains}
use Rattle.law_tp4_lawful.proofs.FramesKnown.{keeps}
use Rattle.law_tp4_lawful.proofs.ReferencesHalves.{AreThere, are_there, known_at}
use Rattle.law_tp4_lawful.proofs.ReferencesOwn.{are_partners}
use Rattle.law_tp4_lawful.proofs.WorldOutcomes.{one_unit}
use Rattle.law_recovery_world.specs.Lines.{HasView}
use Rattle.law_recovery_world.specs.Laws.{ViewsAreKnown}

abbrev view_in : Sender → View
view_in s = record { number = s.base; credit = s.credit; subsequence = s.subsequence }

module _ {C : Type 0} (link : C → Link (List ℕ)) (titles : List (List ℕ)) (timers : Timers) (w : Whole) (journal : List Event) (world : World C) (explains : Explains link titles timers w journal world)
    (y z credit : ℕ) (halves : Halves) (open_end : IsOpenEnd world y halves) (partners : ArePartners journal (z + 1) y) where
  kept : Kept (times_of timers) titles w journal
  kept = keeps titles timers w journal world.entities world.ends explains.known

  numbers : IsNumbered (times_of timers) w
  numbers = numbered (times_of timers) w kept.sound kept.tracked

  here : (is : IsKnown w open_end.entity.own open_end.reference open_end.end) × (is.k + 1 ≡ y)
  here = known_at link titles timers w journal world explains y open_end.system open_end.entity open_end.reference open_end.end open_end.is_end

  there : AreThere w here.0.k open_end.end.base halves
  there = are_there link titles timers w journal world explains open_end.entity.own open_end.reference open_end.end here.0 halves open_end.has

  partner : IsPartner w.base here.0.k z
  partner =
      let p = are_partners link titles timers w journal world explains one_unit (z + 1) y here.0.k here.1 partners in
      let same : p.0 ≡ z = omega (arith, p.1) in
      subst (λ (j : ℕ). IsPartner w.base here.0.k j) same p.2

  knows : HasView credit w z halves.sending → credit ≤ (w.track here.0.k).room → Knows (w.track here.0.k).room (w.track here.0.k).line.world
  knows (inl fresh) low = beginners_know (w.track here.0.k).room credit halves.sending (w.track here.0.k).line.world there.halves.sending.numbers low fresh
  knows (inr view) low =
      let n : Noted w.base w.track z view.offer.tick (Ak halves.sending.numbers.base halves.sending.numbers.credit halves.sending.numbers.subsequence) =
      subst (λ (b : Body). Noted w.base w.track z view.offer.tick b) view.is (numbers.noted view.offer z view.offered view.origin) in
      let same : n.0 ≡ here.0.k = one_partner (times_of timers) w.base kept.sound z n.0 here.0.k n.1 (swap w.base here.0.k z partner) in
      let a : Answer = record { number = halves.sending.numbers.base; credit = halves.sending.numbers.credit; subsequence = halves.sending.numbers.subsequence; tick = view.offer.tick } in
      let is : known (w.track here.0.k).line.world ≡ view_of a = ap view_in there.halves.sending.numbers in
      Heard a (subst (λ (j : ℕ). Contains (w.track j).line.world.answers a) same n.3) is

pub views_known : {C : Type 0} (link : C → Link (List ℕ)) → ViewsAreKnown link
views_known link titles timers w journal world explains y z credit halves open_end partners view =
    let h = here link titles timers w journal world explains y z credit halves open_end partners in
    (h.0.k, h.1, λ low. knows link titles timers w journal world explains y z credit halves open_end partners view low)
