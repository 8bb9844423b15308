-- EDs of a direction are quiet, by the law along their road.
use Rattle.std.proofs.Common.{◌≡◌, inl, inr, ◌<◌, ◌≤◌, ℕ, ◌+◌, Bool, true, if◌then◌else◌, List, [], Option, Some, None, refl, sym, subst, arith, Contains}
use Rattle.tp4_number.specs.Expedited.{LeadsUrgently, Ticks, Urgent, UrgentEvent, quiet, urgently}
use Rattle.tp4_number.specs.Traffic.{IsFit}
use Rattle.law_recovery_pair.proofs.Answering.{all_urgent}
use Rattle.tp4_flow.specs.ReceivingHalf.{Half}
use Rattle.tp4_sending.specs.SendingHalf.{FlowSender, block_in, due_of, normal_opens, urgent_last, urgent_opens}
use Rattle.tp4_sending.specs.Kept.{urgent_base}
use Rattle.tp4_sending.specs.Pieces.{least_due, sooner}
use Rattle.tp4_sending.specs.declared.tries.Tries.{Tries}
use Rattle.law_recovery_pair.specs.Riding.{rules_by}
use Rattle.tp4_conn.specs.declared.end_record.EndRecord.{EndRecord}
use Rattle.tp4_conn.specs.declared.states.InOpened.{InOpened}
use Rattle.tp4_conn.specs.declared.states.StateData.TheVariants.{Opened}
use Rattle.tp4_conn.specs.Living.{IsInTime}
use Rattle.tp4_conn.specs.Table.{due}
use Rattle.law_recovery_ends.proofs.Due.{parts_in_time}
use Rattle.law_recovery_steps.specs.Asking.{IsAskedBy, urgent_road}
use Rattle.law_recovery_steps.specs.Quieting.{IsYoung}
use Rattle.law_recovery_steps.proofs.Sending.{no_dts}
use Rattle.law_recovery_steps.specs.Urging.{AreQuiet, Urges}

pub eds_young : (now : ℕ) (b : EndRecord) (o : InOpened) → o.halves.sending.is_open ≡ true → IsInTime (due b (Opened o)) (now + 1) → IsYoung o.halves.sending.rules.t1 now o.halves.sending.urgent.out
eds_young now b o is_open h = by s.urgent.out (parts_in_time (urgent_last s s.urgent.out) (sooner (urgent_opens s) (normal_opens s)) (now + 1) all.1).0
  where
    s : FlowSender
    s = o.halves.sending

    first : IsInTime (sooner (Some (o.took + b.timers.inactive)) (Some (o.acked + b.timers.window))) (now + 1) × IsInTime (due_of s) (now + 1)
    first = parts_in_time (sooner (Some (o.took + b.timers.inactive)) (Some (o.acked + b.timers.window))) (due_of s) (now + 1) h

    rest : Option ℕ
    rest = sooner (urgent_last s s.urgent.out) (sooner (urgent_opens s) (normal_opens s))

    all : IsInTime (least_due s.rules.t1 s.window) (now + 1) × IsInTime rest (now + 1)
    all = parts_in_time (least_due s.rules.t1 s.window) rest (now + 1) (subst (λ (c : Bool). IsInTime (if c then sooner (least_due s.rules.t1 s.window) rest else None) (now + 1)) is_open first.1)

    by : (out : Option Tries) → IsInTime (urgent_last o.halves.sending out) (now + 1) → IsYoung o.halves.sending.rules.t1 now out
    by None t = tt
    by (Some tries) t = omega (arith, t)

-- an ED that is outstanding was sent since then
sent_since : (u t1 now base next : ℕ) (out : Option Tries) (sends : List (ℕ × ℕ)) → (s : FlowSender) → s.urgent.next ≡ next → urgent_base s.urgent out base → IsAskedBy u base out sends → IsYoung t1 now out → u + t1 ≤ now + 1 → base < next
    → (t : ℕ) × Contains sends (base, t) × (now < t + t1)
sent_since u t1 now base next None sends s is b asked young late below = absurd (omega (arith, is, b, below))
sent_since u t1 now base next (Some tries) sends s is b asked young late below = elim asked [
  | inl old ↦ absurd (omega (arith, old, young, late))
  | inr there ↦ (tries.last, there, young)
]

none_out : (base : ℕ) (out : Option Tries) (s : FlowSender) → urgent_base s.urgent out base → s.urgent.next ≡ base → out ≡ None
none_out base None s b e = refl
none_out base (Some tries) s b e = absurd (omega (arith, b, e))

pub eds_rest : (life tick t1 now : ℕ) (events : List UrgentEvent) (v : Urgent) (s : FlowSender) (h : Half) → IsFit (rules_by life s.rules) → LeadsUrgently (rules_by life s.rules) (quiet tick) events v
    → Urges life (v.clock + 1) now (record { urgent = urgently (rules_by life s.rules) v Ticks; eds = []; eas = [] }) s h [] [] → IsYoung t1 now s.urgent.out → v.clock + t1 ≤ now → AreQuiet s h
eds_rest life tick t1 now events v s h fit leads r young late =
    let x = all_urgent (rules_by life s.rules) tick t1 events v r.goes.moves (urgent_road now r.base s.urgent h.receiver.urgent r.aside) fit leads r.goes.are
    (no_dts (block_in s) r.aside.eds r.eds_are) (no_dts (block_in s) r.aside.eas r.eas_are)
    (λ below. sent_since (v.clock + 1) t1 now r.base s.urgent.next s.urgent.out r.aside.sends s refl r.base_is r.tried young (omega (arith, late)) below) late in
    record { out = none_out r.base s.urgent.out s r.base_is x.0; next = sym x.1 }
