-- A unit that an end does not refuse is one that its sending half takes; and the tick makes no difference to what is refused.
use Rattle.std.proofs.Common.{◌≡◌, ℕ, Bool, true, false, length, List, Option, Some, None, refl, sym, subst}
use Rattle.tp4_flow.specs.declared.rules.SubmitRefusal.{SubmitRefusal}
use Rattle.tp4_flow.specs.declared.rules.SubmitRefusal.TheVariants.{EmptyUnit, TooLong, QueueFull}
use Rattle.tp4_sending.specs.SendingHalf.{refusal, urgent_refusal}
use Rattle.tp4_conn.specs.declared.end_record.EndRecord.{EndRecord}
use Rattle.tp4_conn.specs.declared.call.UserCall.{UserCall}
use Rattle.tp4_conn.specs.declared.call.UserCall.TheVariants.{Accept, Normal, Urgent}
use Rattle.tp4_conn.specs.declared.halves.Halves.{Halves}
use Rattle.tp4_conn.specs.declared.states.InAkWait.{InAkWait}
use Rattle.tp4_conn.specs.declared.states.InOpened.{InOpened}
use Rattle.tp4_conn.specs.declared.states.StateData.{StateData}
use Rattle.tp4_conn.specs.declared.states.StateData.TheVariants.{AkWait, Opened}
use Rattle.tp4_conn.specs.Calls.{call_refusal, unit_refusal, urgent_unit_refusal}
use Rattle.tp4_conn.specs.Opened.{is_expedited}
use Rattle.tp4_conn.specs.Table.{at}

pub refused_later : (now : ℕ) (b : EndRecord) (stage : StateData) (call : UserCall) → call_refusal b stage call ≡ None → call_refusal (at now b) stage call ≡ None
refused_later now b stage (Accept asked octets) e = e
refused_later now b stage call e = e

taken : (why : Option SubmitRefusal) → unit_refusal why ≡ None → why ≡ None
taken None e = refl
taken (Some EmptyUnit) e = absurd (cc e)
taken (Some TooLong) e = absurd (cc e)
taken (Some QueueFull) e = absurd (cc e)

taken_urgent : (agreed : Bool) (why : Option SubmitRefusal) → urgent_unit_refusal agreed why ≡ None → why ≡ None
taken_urgent agreed None e = refl
taken_urgent agreed (Some EmptyUnit) e = absurd (cc e)
taken_urgent agreed (Some TooLong) e = absurd (cc e)
taken_urgent true (Some QueueFull) e = absurd (cc e)
taken_urgent false (Some QueueFull) e = absurd (cc e)

-- the halves are lent
pub normal_waits : (b : EndRecord) (w : InAkWait) (lent : Halves) (call : UserCall) (unit : List ℕ) → call_refusal b (AkWait w) call ≡ None → call ≡ Normal unit → lent ≡ w.halves
    → refusal lent.sending (length unit) ≡ None
normal_waits b w lent call unit e is same =
    subst (λ (h : Halves). refusal h.sending (length unit) ≡ None) (sym same) (taken _ (subst (λ (c : UserCall). call_refusal b (AkWait w) c ≡ None) is e))

pub urgent_waits : (b : EndRecord) (w : InAkWait) (lent : Halves) (call : UserCall) (unit : List ℕ) → call_refusal b (AkWait w) call ≡ None → call ≡ Urgent unit → lent ≡ w.halves
    → urgent_refusal lent.sending (length unit) ≡ None
urgent_waits b w lent call unit e is same =
    subst (λ (h : Halves). urgent_refusal h.sending (length unit) ≡ None) (sym same)
    (taken_urgent (is_expedited b.agreed) _ (subst (λ (c : UserCall). call_refusal b (AkWait w) c ≡ None) is e))

pub normal_opened : (b : EndRecord) (o : InOpened) (lent : Halves) (call : UserCall) (unit : List ℕ) → call_refusal b (Opened o) call ≡ None → call ≡ Normal unit → lent ≡ o.halves
    → refusal lent.sending (length unit) ≡ None
normal_opened b o lent call unit e is same =
    subst (λ (h : Halves). refusal h.sending (length unit) ≡ None) (sym same) (taken _ (subst (λ (c : UserCall). call_refusal b (Opened o) c ≡ None) is e))

pub urgent_opened : (b : EndRecord) (o : InOpened) (lent : Halves) (call : UserCall) (unit : List ℕ) → call_refusal b (Opened o) call ≡ None → call ≡ Urgent unit → lent ≡ o.halves
    → urgent_refusal lent.sending (length unit) ≡ None
urgent_opened b o lent call unit e is same =
    subst (λ (h : Halves). urgent_refusal h.sending (length unit) ≡ None) (sym same)
    (taken_urgent (is_expedited b.agreed) _ (subst (λ (c : UserCall). call_refusal b (Opened o) c ≡ None) is e))
