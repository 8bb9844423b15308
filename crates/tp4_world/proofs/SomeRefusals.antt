-- Each refusal but want of memory is told, and no call is refused for want of memory.
use Rattle.std.proofs.Common.{◌≡◌, ℕ, ◌+◌, ◌==◌, ◌||◌, nat_lt, nat_le, Bool, true, false, List, length, Option, Some, None, refl, sym, ◌∙◌, ap}
use Rattle.std.specs.List.{sum_by}
use Rattle.std.proofs.lemmas.Option.{none-some}
use Rattle.tp4_number.proofs.Past.{if_kept}
use Rattle.script_journal.specs.declared.cause.Refused.{Refused}
use Rattle.script_journal.specs.declared.cause.Refused.TheVariants as refusals
use Rattle.tp4_flow.specs.declared.rules.SubmitRefusal.{SubmitRefusal}
use Rattle.tp4_flow.specs.declared.rules.SubmitRefusal.TheVariants as submits
use Rattle.tp4_sending.specs.SendingHalf.{FlowSender, refusal, urgent_refusal}
use Rattle.tp4_conn.specs.Calls.{call_refusal, expedited_refusal, is_listed, listed_refusal, normal_refusal, sending_of, too_long, unit_refusal, urgent_unit_refusal}
use Rattle.tp4_conn.specs.End.{End}
use Rattle.tp4_conn.specs.Opened.{is_expedited}
use Rattle.tp4_conn.specs.declared.end_record.EndRecord.{EndRecord}
use Rattle.tp4_conn.specs.declared.call.CallRefusal.{CallRefusal}
use Rattle.tp4_conn.specs.declared.call.UserCall.{UserCall}
use Rattle.tp4_conn.specs.declared.call.UserCall.TheVariants as asks
use Rattle.tp4_conn.specs.declared.states.StateData.{StateData}
use Rattle.tp4_entity.specs.declared.refusal.EntityRefusal.{EntityRefusal}
use Rattle.tp4_entity.specs.declared.refusal.EntityRefusal.TheVariants as entities
use Rattle.tp4_entity.specs.Step.{end_refusal, refused_by}
use Rattle.tp4_world.specs.Telling.{told_call, told_refusal}

abbrev Tells : Option CallRefusal → Type 0
Tells None = Prim.Unit {0}
Tells (Some why) = (word : Refused) × (told_call why ≡ Some word)

long_tells : (most : ℕ) (octets : List ℕ) → Tells (too_long most octets)
long_tells most octets = if_kept Tells (nat_lt most (length octets)) _ _ (λ _. (refusals.TooLong, refl)) (λ _. tt)

unit_tells : (s : FlowSender) (n : ℕ) → Tells (unit_refusal (refusal s n))
unit_tells s n =
    let P = λ (r : Option SubmitRefusal). Tells (unit_refusal r) in
    if_kept P (n == 0) _ _ (λ _. (refusals.EmptyUnit, refl))
    (λ _. if_kept P (nat_lt 16384 n) _ _ (λ _. (refusals.TooLong, refl))
    (λ _. if_kept P (nat_le 64 (length s.queue.units) || nat_lt 131072 (sum_by length s.queue.units + n)) _ _ (λ _. (refusals.QueueFull, refl)) (λ _. tt)))

full_tells : (agreed : Bool) → Tells (urgent_unit_refusal agreed (Some submits.QueueFull))
full_tells true = (refusals.QueueFull, refl)
full_tells false = (refusals.NoExpedited, refl)

none_tells : (agreed : Bool) → Tells (urgent_unit_refusal agreed None)
none_tells true = tt
none_tells false = (refusals.NoExpedited, refl)

urgent_tells : (agreed : Bool) (s : FlowSender) (n : ℕ) → Tells (urgent_unit_refusal agreed (urgent_refusal s n))
urgent_tells agreed s n =
    let P = λ (r : Option SubmitRefusal). Tells (urgent_unit_refusal agreed r) in
    if_kept P (n == 0) _ _ (λ _. (refusals.EmptyUnit, refl))
    (λ _. if_kept P (nat_lt 16 n) _ _ (λ _. (refusals.TooLong, refl))
    (λ _. if_kept P (nat_le 64 (length s.urgent.units)) _ _ (λ _. full_tells agreed) (λ _. none_tells agreed)))

normal_tells : (sending : Option FlowSender) (n : ℕ) → Tells (normal_refusal sending n)
normal_tells None n = tt
normal_tells (Some s) n = unit_tells s n

expedited_tells : (agreed : Bool) (sending : Option FlowSender) (n : ℕ) → Tells (expedited_refusal agreed sending n)
expedited_tells agreed None n = tt
expedited_tells agreed (Some s) n = urgent_tells agreed s n

listed_tells : (b : EndRecord) (stage : StateData) (call : UserCall) → Tells (listed_refusal b stage call)
listed_tells b stage (asks.Accept asked octets) = long_tells 32 octets
listed_tells b stage (asks.Refuse octets) = long_tells 64 octets
listed_tells b stage (asks.Disconnect octets) = long_tells 64 octets
listed_tells b stage (asks.Normal unit) = normal_tells (sending_of stage) (length unit)
listed_tells b stage (asks.Urgent unit) = expedited_tells (is_expedited b.agreed) (sending_of stage) (length unit)
listed_tells b stage (asks.Window credit) = tt

by_tells : (r : Option CallRefusal) (why : EntityRefusal) → Tells r → refused_by r ≡ Some why → (word : Refused) × (told_refusal why ≡ Some word)
by_tells None why h is = absurd (none-some _ is)
by_tells (Some one) why h is = let same : entities.Call one ≡ why = cc is in (h.0, ap told_refusal (sym same) ∙ h.1)

pub is_told : (call : UserCall) (place : Option End) (why : EntityRefusal) → end_refusal call place ≡ Some why → (word : Refused) × (told_refusal why ≡ Some word)
is_told call None why is = let same : entities.NoSuchEnd ≡ why = cc is in (refusals.NoSuchEnd, ap told_refusal (sym same))
is_told call (Some end) why is =
    by_tells (call_refusal end.base end.stage call) why
    (if_kept Tells (is_listed end.stage call) _ _ (λ _. listed_tells end.base end.stage call) (λ _. (_, refl))) is
