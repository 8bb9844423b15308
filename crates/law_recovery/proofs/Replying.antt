-- What an end in UserWait or AkWait sends to its caller: the CC of its user's accept, or a DR with reason 128.
use Rattle.std.proofs.Common.{◌≡◌, ◌⊎◌, inl, inr, ℕ, ◌+◌, ◌/◌, ◌%◌, ◌==◌, Bool, true, false, List, [], ◌∷◌, Option, Some, None, refl, ap, arith}
use Rattle.std.specs.Prelude.{◌&&◌, ◌||◌, if◌then◌else◌, nat_lt, not}
use Rattle.std.proofs.lemmas.Bool.{leb-true, ltb-true}
use Rattle.tpdu.specs.declared.service.GoneCause.TheVariants.{Exhausted}
use Rattle.tpdu.specs.declared.service.Options.{Options}
use Rattle.tp4_number.specs.Number.{whole}
use Rattle.tp4_number.proofs.Past.{if_kept}
use Rattle.tp4_flow.specs.declared.step.Sent.{Sent}
use Rattle.tp4_sending.specs.SendingHalf.{at as sender_at}
use Rattle.tp4_conn.specs.Agreeing.{confirm, confirms_again}
use Rattle.tp4_conn.specs.AkWait.{ak_wait_tick}
use Rattle.tp4_conn.specs.Calls.{call_refusal}
use Rattle.tp4_conn.specs.End.{Moved, gone}
use Rattle.tp4_conn.specs.Matching.{is_called_by}
use Rattle.tp4_conn.specs.Table.{Called, Ticked, at as now_at, stepped}
use Rattle.tp4_conn.specs.UserWait.{refusing, user_wait_accept, user_wait_refuse, user_wait_tick}
use Rattle.tp4_conn.specs.declared.call.UserCall.{UserCall}
use Rattle.tp4_conn.specs.declared.call.UserCall.TheVariants as asks
use Rattle.tp4_conn.specs.declared.end_record.EndRecord.{EndRecord}
use Rattle.tp4_conn.specs.declared.states.InAkWait.{InAkWait}
use Rattle.tp4_conn.specs.declared.states.StateData.TheVariants.{AkWait, UserWait}
use Rattle.tp4_entity.specs.Step.{is_due}
use Rattle.law_tp4_history.proofs.Halves.{shut_submitted, shut_urged}
use Rattle.law_recovery.proofs.HalvesRowing.{for_caller}
use Rattle.law_recovery.proofs.State.{IsReply}

-- a CC has a checksum where it asks for one
summed_so : (expedited sum : Bool) → ((((if expedited then 1 else 0) + (if sum then 0 else 2)) / 2 % 2 == 0) && not (sum || false)) ≡ false
summed_so true true = refl
summed_so true false = refl
summed_so false true = refl
summed_so false false = refl

-- what it sends, and nothing else
pub record Replies (from : List ℕ) (N : Type 0) (own : ℕ) (m : Moved) : Type 0 where
  pub sent : Sent
  pub is : m.tpdus ≡ sent ∷ []
  pub reply : IsReply from N own sent

module _ (b : EndRecord) (from : List ℕ) (N : Type 0) (own : ℕ) (called : is_called_by b from own ≡ true) where
  confirms : (options : Options) (octets : List ℕ) → IsReply from N own (confirm (record b { agreed = Some options }) options octets)
  confirms options octets = record {
    to = (for_caller b from own called).0;
    target = ap (λ (n : ℕ). Some n) (for_caller b from own called).1;
    answer = refl;
    summed = summed_so options.expedited options.sum;
    named = tt;
  }

  declines : (octets : List ℕ) → IsReply from N own (refusing b octets)
  declines octets = record { to = (for_caller b from own called).0; target = ap (λ (n : ℕ). Some n) (for_caller b from own called).1; answer = refl; summed = refl; named = inl refl }

-- by a call of its user
pub call_replies : (now : ℕ) (b : EndRecord) (since : ℕ) (call : UserCall) (from : List ℕ) (N : Type 0) (own : ℕ) → is_called_by b from own ≡ true → call_refusal b (UserWait since) call ≡ None
    → Replies from N own (stepped whole now (record { base = b; stage = UserWait since }) (Called call))
unfolding user_wait_accept user_wait_refuse
call_replies now b since (asks.Accept asked octets) from N own called may = record { sent = _; is = refl; reply = confirms (now_at now b) from N own called _ octets }
call_replies now b since (asks.Refuse octets) from N own called may = record { sent = _; is = refl; reply = declines (now_at now b) from N own called octets }
call_replies now b since other from N own called may = absurd (cc may)

-- as its time is over
pub tick_replies : (now : ℕ) (b : EndRecord) (since : ℕ) (from : List ℕ) (N : Type 0) (own : ℕ) → is_called_by b from own ≡ true → is_due now (Some (record { base = b; stage = UserWait since })) ≡ true
    → Replies from N own (stepped whole now (record { base = b; stage = UserWait since }) Ticked)
unfolding user_wait_tick
tick_replies now b since from N own called due = if_kept (λ (m : Moved). Replies from N own m) (nat_lt now (since + b.timers.inactive)) _ _
    (λ early. absurd (omega (arith, leb-true (since + b.timers.inactive) now due, ltb-true now (since + b.timers.inactive) early)))
    (λ _. record { sent = _; is = refl; reply = declines (now_at now b) from N own called [] })

-- ---- an end in AkWait

-- a call of its user: it waits on, and sends nothing, or parts
pub data IsOnCall (from : List ℕ) (N : Type 0) (own now : ℕ) (b : EndRecord) (w : InAkWait) (m : Moved) : Type 0 where
  Waiting_on : (next : InAkWait) → m.base ≡ now_at now b → m.stage ≡ AkWait next → next.tries ≡ w.tries → m.tpdus ≡ [] → IsOnCall from N own now b w m
  Parting : Replies from N own m → IsOnCall from N own now b w m

pub ak_wait_call : (now : ℕ) (b : EndRecord) (w : InAkWait) (call : UserCall) (from : List ℕ) (N : Type 0) (own : ℕ) → is_called_by b from own ≡ true → w.halves.sending.is_open ≡ false
    → call_refusal b (AkWait w) call ≡ None → IsOnCall from N own now b w (stepped whole now (record { base = b; stage = AkWait w }) (Called call))
ak_wait_call now b w (asks.Normal octets) from N own called shut may = Waiting_on _ refl refl refl (shut_submitted (sender_at now w.halves.sending) octets shut)
ak_wait_call now b w (asks.Urgent octets) from N own called shut may = Waiting_on _ refl refl refl (shut_urged (sender_at now w.halves.sending) octets shut)
ak_wait_call now b w (asks.Disconnect octets) from N own called shut may = Parting (record {
  sent = _;
  is = refl;
  reply = record { to = (for_caller b from own called).0; target = ap (λ (n : ℕ). Some n) (for_caller b from own called).1; answer = refl; summed = refl; named = inl refl };
})
ak_wait_call now b w other from N own called shut may = absurd (cc may)

-- as it is due: its CC again, or its sendings are over
pub ak_wait_due : (now : ℕ) (b : EndRecord) (w : InAkWait) (options : Options) (from : List ℕ) (N : Type 0) (own : ℕ) → is_called_by b from own ≡ true → b.agreed ≡ Some options
    → is_due now (Some (record { base = b; stage = AkWait w })) ≡ true
    → Replies from N own (stepped whole now (record { base = b; stage = AkWait w }) Ticked) ⊎ ((stepped whole now (record { base = b; stage = AkWait w }) Ticked).events ≡ gone (now_at now b) Exhausted [])
unfolding ak_wait_tick
ak_wait_due now b w options from N own called agreed due =
    if_kept (λ (m : Moved). Replies from N own m ⊎ (m.events ≡ gone (now_at now b) Exhausted [])) (nat_lt now (w.tries.last + b.timers.t1)) _ _
    (λ early. absurd (omega (arith, leb-true (w.tries.last + b.timers.t1) now due, ltb-true now (w.tries.last + b.timers.t1) early)))
    (λ _. if_kept (λ (m : Moved). Replies from N own m ⊎ (m.events ≡ gone (now_at now b) Exhausted [])) (nat_lt w.tries.count b.timers.sendings) _ _
    (λ _. inl (record {
      sent = confirm (record (now_at now b) { agreed = Some options }) options w.octets;
      is = ap (λ (o : Option Options). confirms_again (record (now_at now b) { agreed = o }) o w.octets) agreed;
      reply = confirms (now_at now b) from N own called options w.octets;
    })) (λ _. inr refl))
