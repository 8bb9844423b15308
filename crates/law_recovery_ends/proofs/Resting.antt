-- A direction is at rest, by the law along roads.
use Rattle.std.proofs.Common.{◌≡◌, inl, inr, ◌≤◌, ℕ, ◌+◌, max, ap, arith}
use Rattle.tp4_flow.specs.ReceivingHalf.{Half}
use Rattle.tp4_number.specs.Traffic.{Traffic}
use Rattle.tp4_sending.specs.SendingHalf.{FlowSender}
use Rattle.law_recovery_pair.specs.Recovering.{IsLevel, IsNotDue, Road}
use Rattle.law_recovery_pair.specs.Views.{View}
use Rattle.law_recovery_pair.proofs.Chains.{views_recover}
use Rattle.law_recovery_pair.specs.Riding.{Aside, road_of, rules_by}
use Rattle.law_recovery_ends.specs.Resting.{AreUndue, IsNow, IsPast}
use Rattle.law_recovery_ends.proofs.Due.{numbers_sent}

module _ (life size t1 window now : ℕ) (w : Traffic) (s : FlowSender) (h : Half) (x : Aside) (past : IsPast life size s w) (here : IsNow life size w now s h x)
    (undue : AreUndue t1 window (w.clock + 1) now s x) (late : w.clock + max t1 window ≤ now) where
  abbrev r : Road
  r = road_of now s.numbers h x

  idle : IsNotDue t1 window r.traffic
  idle = record {
    number = λ n low high. numbers_sent (w.clock + 1) t1 now s.numbers.base s.window x.sends undue.tried undue.young (omega (arith, late)) n low (omega (arith, high, here.window));
    spoke = elim undue.spoke [
      | inl old ↦ absurd (omega (arith, old, undue.since, late))
      | inr a ↦ (a.0, a.1, omega (arith, a.2, undue.since))
    ];
  }

  level : IsLevel r.traffic
  level = views_recover (rules_by life s.rules) past.tick past.credit past.places past.room size t1 window past.events w here.goes.moves r past.fit past.credit_low past.room_low past.leads past.views past.fits
      here.goes.are here.no_dts here.no_aks idle late

  pub rest : (s.numbers.next ≡ s.numbers.base) × (s.numbers.base ≡ h.receiver.expected) × (s.numbers.credit ≡ h.receiver.inbox.credit) × (s.numbers.subsequence ≡ h.receiver.inbox.subsequence)
  rest = (level.next, ap (λ (v : View). v.number) level.view, ap (λ (v : View). v.credit) level.view, ap (λ (v : View). v.subsequence) level.view)
