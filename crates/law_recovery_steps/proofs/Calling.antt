-- The rows of the calling end: what a CC does to it in CrWait and where it is Opened, and that its calls and ticks leave what it knows of the called end.
use Rattle.std.proofs.Common.{◌≡◌, ◌⊎◌, inl, inr, ℕ, ◌+◌, ◌/◌, ◌%◌, ◌==◌, ◌&&◌, nat_le, not, Bool, false, if◌then◌else◌, List, [], ◌∷◌, ◌++◌, Some, refl, sym, ◌∙◌, ap, subst, append-nil}
use Rattle.tpdu.specs.declared.tpdu.Tpdu.{Tpdu}
use Rattle.tpdu.specs.declared.tpdu.Tpdu.TheVariants.{Cc, Cr}
use Rattle.tp4_number.specs.Number.{whole}
use Rattle.tp4_number.proofs.Past.{if_kept}
use Rattle.tp4_flow.specs.ReceivingHalf.{Half, ak, half_granted}
use Rattle.tp4_flow.specs.declared.rules.FlowRules.{FlowRules}
use Rattle.tp4_flow.specs.declared.rules.Life.{Life}
use Rattle.tp4_flow.specs.declared.rules.Life.TheVariants.{Goes, Exhausted}
use Rattle.tpdu.specs.declared.service.Options.{Options}
use Rattle.tpdu.specs.declared.service.GoneCause.TheVariants.{Protocol}
use Rattle.tp4_flow.specs.declared.step.Sent.{Sent}
use Rattle.tp4_sending.specs.SendingHalf.{FlowSender, Sendings, at, life_of, ticked}
use Rattle.law_recovery_pair.specs.Viewing.{IsWithin, KeepsView}
use Rattle.law_recovery_pair.proofs.Viewing.{submit_keep, tick_keep, urge_keep}
use Rattle.tp4_conn.specs.declared.call.UserCall.{UserCall}
use Rattle.tp4_conn.specs.declared.call.UserCall.TheVariants.{Normal, Urgent, Window, Disconnect}
use Rattle.tp4_conn.specs.declared.end_record.EndRecord.{EndRecord}
use Rattle.tp4_conn.specs.declared.states.InAkWait.{InAkWait}
use Rattle.tp4_conn.specs.declared.states.InCrWait.{InCrWait}
use Rattle.tp4_conn.specs.declared.states.InOpened.{InOpened}
use Rattle.tp4_conn.specs.declared.states.StateData.{StateData}
use Rattle.tp4_conn.specs.declared.states.StateData.TheVariants.{AkWait, CrWait, Opened}
use Rattle.tp4_conn.specs.Agreeing.{confirm, extra_of, is_confirmed}
use Rattle.tp4_conn.specs.AkWait.{ak_wait_tpdu}
use Rattle.tp4_conn.specs.CrWait.{confirmed, cr_wait_tpdu}
use Rattle.tp4_conn.proofs.Agreed.{options_back}
use Rattle.tp4_conn.specs.End.{IsSized, Moved, agreed_sum, closing, gone}
use Rattle.tp4_conn.specs.Matching.{wants_sum}
use Rattle.tp4_conn.specs.Opened.{hearing, opened_as, opened_tick, opened_tpdu}
use Rattle.tp4_conn.specs.Table.{at as now_at, on_call, on_tpdu, takes, untaken}
use Rattle.law_tp4_pair.specs.Standing.{HasLeft, Party}
use Rattle.law_tp4_pair.specs.Waiting.{AreData, View, aks_in, dts_in, eas_in, eds_in}
use Rattle.law_tp4_pair.proofs.Handing.{has_sum}
use Rattle.law_tp4_pair.proofs.Opening.{confirm_sum}
use Rattle.law_tp4_pair.proofs.Wires.{aks_then, data_then, dts_then, eas_then, eds_then}
use Rattle.law_recovery_steps.specs.Directions.{Rides}
use Rattle.law_recovery_steps.specs.Steps.{AreRiding, Since}
use Rattle.law_recovery_steps.specs.Urging.{Urges}
use Rattle.law_recovery_steps.proofs.Directions.{repeats_ride}
use Rattle.law_recovery_steps.specs.AkWait.{IsCc, IsCr}

-- ---- a CC

-- an end says what it says, and both ride on
pub says_again : (life size u now : ℕ) (one other : Since) (first second : Party) (o q : InOpened) (took : ℕ) (forth back : List Sent) → AreRiding life size u now one other first second o q forth back
    → AreRiding life size u now one other first second o (record q { took = took; acked = now }) forth (back ++ ak q.halves.receiving ∷ [])
says_again life size u now one other first second o q took forth back both =
    let k : Half = q.halves.receiving in
    let more : List Sent = ak k ∷ [] in
    record {
      options = both.options;
      their_options = both.their_options;
      ours = both.ours;
      theirs = both.theirs;
      sum = both.sum;
      forth_are = both.forth_are;
      back_are = data_then other.rules back more both.back_are (subst (λ (f : FlowRules). AreData f more) both.theirs.receiving (record { to = refl; format = refl; sum = refl; kind = refl }, tt));
      there = subst (λ (l : List View). Rides life size u now one.road o.halves.sending k (dts_in forth) l now) (sym (aks_then back more))
          (repeats_ride life size u one.road o.halves.sending k now (dts_in forth) (aks_in back) q.acked both.there);
      here = subst (λ (l : List ℕ). Rides life size u now other.road q.halves.sending o.halves.receiving l (aks_in forth) o.acked) (sym (dts_then back more ∙ append-nil (dts_in back))) both.here;
      there_eds = subst (λ (l : List ℕ). Urges life u now one.urgent o.halves.sending k (eds_in forth) l) (sym (eas_then back more ∙ append-nil (eas_in back))) both.there_eds;
      here_eds = subst (λ (l : List ℕ). Urges life u now other.urgent q.halves.sending o.halves.receiving l (eas_in forth)) (sym (eds_then back more ∙ append-nil (eds_in back))) both.here_eds;
    }

-- what an Opened end does with a CC
pub record Answers (q : InOpened) (b : EndRecord) (now : ℕ) (m : Moved) : Type 0 where
  pub base : m.base ≡ now_at now b
  pub stage : m.stage ≡ Opened (record q { took = now; acked = now })
  pub tpdus : m.tpdus ≡ ak q.halves.receiving ∷ []

pub cc_answered : (now : ℕ) (b : EndRecord) (q : InOpened) (options : Options) (sent : Sent) → b.agreed ≡ Some options → sent.sum ≡ options.sum → IsCc sent.tpdu → Answers q b now (takes whole now b (Opened q) sent.tpdu sent.sum)
unfolding opened_tpdu
cc_answered now b q options sent agreed sum is =
    subst (λ (wants : Bool). Answers q b now (if wants then untaken b (Opened q) else on_tpdu whole (now_at now b) (Opened q) sent.tpdu)) (sym (has_sum options b.agreed sent.sum agreed sum)) (by sent.tpdu is)
  where
    by : (tpdu : Tpdu) → IsCc tpdu → Answers q b now (opened_tpdu whole (now_at now b) (hearing (now_at now b) q) tpdu)
    by (Cc credit destination source width calling called size preferred extra version classes ack_time text) is_cc = record { base = refl; stage = refl; tpdus = refl }
    by other_kind is_cc = absurd is_cc

-- what an end in CrWait does with the CC of its partner: it is Opened, or it has left
pub cc_confirms : (P : Moved → Type 0) (b c : EndRecord) (r : InCrWait) (options : Options) (octets : List ℕ) (now : ℕ) → c.agreed ≡ Some options → IsSized options → ((m : Moved) → HasLeft m.stage → P m)
    → P (confirmed (record b { partner = c.own; credit = c.timers.credit; agreed = Some options; clock = now }) options octets)
    → P (takes whole now b (CrWait r) (confirm c options octets).tpdu (confirm c options octets).sum)
unfolding cr_wait_tpdu
cc_confirms P b c r options octets now agreed sized leaves opens =
    let sum : agreed_sum c.agreed ≡ options.sum = ap agreed_sum agreed in
    let taken : (wants_sum b (CrWait r) (confirm c options octets).tpdu && not (agreed_sum c.agreed)) ≡ false =
    ap (λ (s : Bool). (extra_of options / 2 % 2 == 0) && not s) sum ∙ confirm_sum options in
    subst (λ (wants : Bool). P (if wants then untaken b (CrWait r) else on_tpdu whole (now_at now b) (CrWait r) (confirm c options octets).tpdu)) (sym taken)
    (subst (λ (o : Options). P (if is_confirmed b.proposed options then confirmed (record b { partner = c.own; credit = c.timers.credit; agreed = Some o; clock = now }) o octets
    else closing (record b { partner = c.own; clock = now }) (gone (now_at now b) Protocol []) 133 [] now)) (sym (options_back options sized))
    (if_kept P (is_confirmed b.proposed options) _ _ (λ _. opens) (λ _. leaves _ tt)))

-- ---- a CR that comes again

-- an end in AkWait leaves it
pub record Leaves (c : EndRecord) (w : InAkWait) (now : ℕ) (m : Moved) : Type 0 where
  pub base : (m.base ≡ c) ⊎ (m.base ≡ now_at now c)
  pub stage : m.stage ≡ AkWait w
  pub tpdus : m.tpdus ≡ []

pub cr_left : (now : ℕ) (c : EndRecord) (w : InAkWait) (sent : Sent) → IsCr sent.tpdu → Leaves c w now (takes whole now c (AkWait w) sent.tpdu sent.sum)
unfolding ak_wait_tpdu
cr_left now c w sent is = if_kept (Leaves c w now) (wants_sum c (AkWait w) sent.tpdu && not sent.sum) _ _ (λ _. record { base = inl refl; stage = refl; tpdus = refl }) (λ _. by sent.tpdu is)
  where
    by : (tpdu : Tpdu) → IsCr tpdu → Leaves c w now (ak_wait_tpdu whole (now_at now c) w tpdu)
    by (Cr credit source width calling called size preferred extra version classes ack_time text) is_cr = record { base = inr refl; stage = refl; tpdus = refl }
    by other_kind is_cr = absurd is_cr

-- ---- what it knows

-- where it stays Opened it knows the same
abbrev pub KeepsOpen : InOpened → StateData → Type 0
KeepsOpen o stage = (after : InOpened) → stage ≡ Opened after → KeepsView o.halves.sending after.halves.sending

opened_is : (o after : InOpened) → Opened o ≡ Opened after → o ≡ after
opened_is o after e = cc e

keeps : (o mid : InOpened) → KeepsView o.halves.sending mid.halves.sending → KeepsOpen o (Opened mid)
keeps o mid k after e = subst (λ (x : InOpened). KeepsView o.halves.sending x.halves.sending) (opened_is mid after e) k

same_keep : (o : InOpened) → IsWithin o.halves.sending → KeepsView o.halves.sending o.halves.sending
same_keep o edge = record { rules = refl; base = refl; credit = refl; subsequence = refl; edge = edge }

-- a later clock is no difference
now_keep : (now : ℕ) (o : InOpened) (t : FlowSender) → KeepsView (at now o.halves.sending) t → KeepsView o.halves.sending t
now_keep now o t k = record { rules = k.rules; base = k.base; credit = k.credit; subsequence = k.subsequence; edge = k.edge }

pub calls_keep : (b : EndRecord) (o : InOpened) (call : UserCall) → IsWithin o.halves.sending → KeepsOpen o (on_call b (Opened o) call).stage
calls_keep b o (Normal unit) edge = keeps o _ (now_keep b.clock o _ (submit_keep (at b.clock o.halves.sending) unit edge))
calls_keep b o (Urgent unit) edge = keeps o _ (now_keep b.clock o _ (urge_keep (at b.clock o.halves.sending) unit edge))
calls_keep b o (Window credit) edge =
    if_kept (λ (m : Moved). KeepsOpen o m.stage) ((half_granted o.halves.receiving credit).receiver.inbox.credit == o.halves.receiving.receiver.inbox.credit) _ _
    (λ _. keeps o _ (same_keep o edge)) (λ _. keeps o _ (same_keep o edge))
calls_keep b o (Disconnect octets) edge = λ after e. absurd (cc e)
calls_keep b o other edge = keeps o o (same_keep o edge)

pub ticks_keep : (b : EndRecord) (o : InOpened) → IsWithin o.halves.sending → KeepsOpen o (opened_tick b o).stage
unfolding opened_tick
ticks_keep b o edge =
    if_kept (λ (m : Moved). KeepsOpen o m.stage) (nat_le (o.took + b.timers.inactive) b.clock) _ _ (λ _ after e. absurd (cc e)) (λ _. by (life_of (at b.clock o.halves.sending)))
  where
    z : Sendings
    z = ticked (at b.clock o.halves.sending)

    by : (life : Life) → KeepsOpen o (opened_as life b o).stage
    by Exhausted = λ after e. absurd (cc e)
    by Goes = if_kept (λ (m : Moved). KeepsOpen o m.stage) (nat_le (o.acked + b.timers.window) b.clock) _ _
        (λ _. keeps o _ (now_keep b.clock o _ (tick_keep (at b.clock o.halves.sending) edge))) (λ _. keeps o _ (now_keep b.clock o _ (tick_keep (at b.clock o.halves.sending) edge)))
