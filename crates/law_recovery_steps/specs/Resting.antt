-- Two Opened ends at a tick at which nothing waits, whatever was before: where nothing is lost from the next tick on, nothing waits again, neither is due, and the longer
-- of T1 and W has passed, nothing is outstanding either way, and each knows what the other says; or one of them has left (X.224, class 4: retransmission, explicit flow control).
use Rattle.std.specs.Prelude.{◌≡◌, ◌⊎◌, ℕ, ◌+◌, ◌<◌, List, [], Contains}
use Rattle.tp4_number.specs.Formats.{most_of}
use Rattle.tp4_number.specs.Expedited.{LeadsUrgently, Ticks, Urgent, UrgentEvent, quiet, urgently}
use Rattle.tp4_number.specs.Traffic.{Answer, Tick, after}
use Rattle.tp4_flow.specs.ReceivingHalf.{Half}
use Rattle.tpdu.specs.declared.service.Options.{Options}
use Rattle.tp4_sending.specs.Kept.{urgent_base}
use Rattle.tp4_sending.specs.SendingHalf.{FlowSender}
use Rattle.tp4_sending.specs.Settled.{IsSettled}
use Rattle.law_recovery_pair.specs.Fitting.{Fits}
use Rattle.law_recovery_pair.specs.Riding.{Aside, road_of, rules_by}
use Rattle.tp4_conn.specs.declared.states.InOpened.{InOpened}
use Rattle.tp4_conn.specs.declared.states.StateData.TheVariants.{Opened}
use Rattle.tp4_conn.specs.Living.{IsInTime}
use Rattle.tp4_conn.specs.Table.{due}
use Rattle.law_recovery_ends.specs.Due.{AreTried}
use Rattle.law_recovery_ends.specs.Resting.{IsPast}
use Rattle.law_tp4_pair.specs.Pair.{IsIdle, Pair}
use Rattle.law_tp4_pair.specs.Flowing.{HasUnit}
use Rattle.law_tp4_pair.specs.Rest.{IsAtRest}
use Rattle.law_tp4_pair.specs.Standing.{IsAgreed, party}
use Rattle.law_recovery_steps.specs.Asking.{IsAskedBy}
use Rattle.law_recovery_steps.specs.Urging.{AreQuiet}
use Rattle.law_recovery_steps.specs.Sending.{IsFed}
use Rattle.law_recovery_steps.specs.Steps.{Since}

-- the EDs and EAs of a direction; the ED that is outstanding was tried by now, or as they say
pub record IsAskedAt (life now : ℕ) (s : FlowSender) (h : Half) : Type 0 where
  pub tick : ℕ
  pub events : List UrgentEvent
  pub urgent : Urgent
  pub leads : LeadsUrgently (rules_by life s.rules) (quiet tick) events urgent
  pub clock : urgent.clock ≡ now
  pub next : urgent.next ≡ s.urgent.next
  pub blocks : urgent.blocks ≡ s.urgent.blocks
  pub expected : urgent.expected ≡ h.receiver.urgent
  pub base_is : urgent_base s.urgent s.urgent.out urgent.base
  pub unit : HasUnit s.urgent.units s.urgent.out
  pub tried : IsAskedBy (now + 1) urgent.base s.urgent.out urgent.sends

-- one direction; each number was tried, and the receiver spoke last at tick `acked`, by now, or as the traffic says
pub record IsBegun (life size now : ℕ) (s : FlowSender) (h : Half) (acked : ℕ) : Type 0 where
  pub aside : Aside
  pub no_dts : aside.dts ≡ []
  pub no_aks : aside.aks ≡ []
  pub past : IsPast life size s (road_of now s.numbers h aside).traffic
  pub format : h.rules.format ≡ s.rules.format
  pub places : size ≡ most_of h.rules.format
  pub fits : Fits h
  pub fed : IsFed s
  pub settled : IsSettled s
  pub tried : AreTried (now + 1) s.numbers.base s.window aside.sends
  pub spoke : (acked < now + 1) ⊎ ((a : Answer) × Contains aside.answers a × (a.tick ≡ acked))
  pub asked : IsAskedAt life now s h

-- its roads from the next tick on
abbrev pub since : ℕ → ℕ → FlowSender → Half → Aside → Urgent → Since
since life now s h x v = record {
  road = record { traffic = after (rules_by life s.rules) (road_of now s.numbers h x).traffic Tick; dts = []; aks = [] };
  urgent = record { urgent = urgently (rules_by life s.rules) v Ticks; eds = []; eas = [] };
  rules = s.rules;
}

pub record AreBegun (life size : ℕ) (p : Pair) (o q : InOpened) : Type 0 where
  pub idle : IsIdle p
  pub calling : p.calling.stage ≡ Opened o
  pub called : p.called.stage ≡ Opened q
  pub options : Options
  pub their_options : Options
  pub ours : IsAgreed options o.halves.sending.rules (party p.calling.base) o.halves
  pub theirs : IsAgreed their_options q.halves.sending.rules (party p.called.base) q.halves
  pub sum : o.halves.sending.rules.sum ≡ q.halves.sending.rules.sum
  pub there : IsBegun life size p.clock o.halves.sending q.halves.receiving q.acked
  pub here : IsBegun life size p.clock q.halves.sending o.halves.receiving o.acked

-- no end is due
abbrev pub AreLater : Pair → Type 0
AreLater p = IsInTime (due p.calling.base p.calling.stage) (p.clock + 1) × IsInTime (due p.called.base p.called.stage) (p.clock + 1)

-- where both ends are Opened, their timers have this W
abbrev pub HaveWindow : ℕ → Pair → Type 0
HaveWindow window p = (o q : InOpened) → p.calling.stage ≡ Opened o → p.called.stage ≡ Opened q → (p.calling.base.timers.window ≡ window) × (p.called.base.timers.window ≡ window)

-- a direction is at rest, and both ends know the same
pub record IsLevel (s : FlowSender) (h : Half) : Type 0 where
  pub base : s.numbers.base ≡ h.receiver.expected
  pub next : s.numbers.next ≡ h.receiver.expected
  pub credit : s.numbers.credit ≡ h.receiver.inbox.credit
  pub subsequence : s.numbers.subsequence ≡ h.receiver.inbox.subsequence
  pub quiet : AreQuiet s h
  pub rest : IsAtRest s h

pub record AreLevel (p : Pair) : Type 0 where
  pub o : InOpened
  pub q : InOpened
  pub calling : p.calling.stage ≡ Opened o
  pub called : p.called.stage ≡ Opened q
  pub there : IsLevel o.halves.sending q.halves.receiving
  pub here : IsLevel q.halves.sending o.halves.receiving
