-- By cases on the state and the event: each row keeps what is true of a proper end, and what it sends has octets.
use Rattle.std.proofs.Common.{◌≡◌, ◌≤◌, ℕ, ◌+◌, Bool, true, false, ◌&&◌, ◌==◌, not, nat_lt, nat_le, List, [], ◌∷◌, ◌++◌, length, Option, Some, None, refl, sym, subst, arith, if◌then◌else◌}
use Rattle.std.proofs.lemmas.Bool.{ltb-false, eqb-false}
use Rattle.std.proofs.lemmas.Option.{none-some, same_Some}
use Rattle.tpdu.specs.declared.tpdu.Format.{Format}
use Rattle.tpdu.specs.declared.tpdu.Format.TheVariants.{Normal as Plain, Extended}
use Rattle.tpdu.specs.declared.tpdu.Tpdu.{Tpdu}
use Rattle.tpdu.specs.declared.tpdu.Tpdu.TheVariants.{Cr, Cc, Dr, Dc, Dt, Ed, Ak, Ea, Er}
use Rattle.tpdu.specs.Writing.{IsAllowed, IsCredit, IsNumber}
use Rattle.tp4_number.specs.declared.got.Got.{Got}
use Rattle.tp4_number.specs.declared.got.Got.TheVariants.{TooLarge}
use Rattle.tp4_number.specs.declared.piece.Piece.{Piece}
use Rattle.tp4_number.specs.Receiver.{judged}
use Rattle.tp4_number.specs.Number.{wire, ahead}
use Rattle.tp4_number.proofs.Past.{if_kept}
use Rattle.tp4_flow.specs.ReceivingHalf.{Half, Received, ak, block_in, dt_arrival, half_after, taken_dt, taken_ed, is_next, half_granted}
use Rattle.tp4_flow.specs.declared.rules.Life.{Life as Ends}
use Rattle.tp4_flow.specs.declared.rules.Life.TheVariants.{Goes, Exhausted}
use Rattle.tpdu.specs.declared.service.Options.{Options}
use Rattle.tp4_flow.specs.declared.rules.SubmitRefusal.TheVariants as submits
use Rattle.tp4_flow.specs.declared.step.EndEvent.{EndEvent}
use Rattle.tp4_flow.specs.declared.step.Sent.{Sent}
use Rattle.tp4_sending.specs.SendingHalf.{FlowSender, Sendings, at, life_of, opened, urgent_refusal}
use Rattle.tp4_sending.specs.Settled.{IsSettled}
use Rattle.tp4_sending.proofs.Dues.{later}
use Rattle.tp4_sending.proofs.Settles.{new_settled, taken_settled, done_settled, tick_settled}
use Rattle.tp4_conn.specs.declared.end_record.EndRecord.{EndRecord}
use Rattle.tp4_conn.specs.declared.call.CallRefusal.TheVariants as refused
use Rattle.tp4_conn.specs.declared.call.ConnectCall.{ConnectCall}
use Rattle.tp4_conn.specs.declared.call.UserCall.{UserCall}
use Rattle.tp4_conn.specs.declared.call.UserCall.TheVariants.{Accept, Refuse, Normal, Urgent, Window, Disconnect}
use Rattle.tp4_conn.specs.declared.halves.Halves.{Halves}
use Rattle.tp4_conn.specs.declared.states.InAkWait.{InAkWait}
use Rattle.tp4_conn.specs.declared.states.InOpened.{InOpened}
use Rattle.tp4_conn.specs.declared.states.InWaitBeforeClose.{InWaitBeforeClose}
use Rattle.tp4_conn.specs.declared.states.InClosing.{InClosing}
use Rattle.tp4_conn.specs.declared.states.InCrWait.{InCrWait}
use Rattle.tp4_conn.specs.declared.states.StateData.{StateData}
use Rattle.tp4_conn.specs.declared.states.StateData.TheVariants.{CrWait, WaitBeforeClose, UserWait, AkWait, Opened, Closing, Frozen}
use Rattle.tp4_conn.specs.declared.timers.Timers.{Timers}
use Rattle.tp4_conn.specs.Agreeing.{options_in, proposed_in, is_within, agreed_by, halves_of, request, confirm, confirms_again}
use Rattle.tp4_conn.specs.AkWait.{ak_wait_tpdu, ak_wait_tick, opening, queueing}
use Rattle.tp4_conn.specs.Calls.{IsCall, call_refusal, too_long, urgent_unit_refusal}
use Rattle.tp4_conn.specs.Closing.{closing_tpdu, closing_tick}
use Rattle.tp4_conn.specs.CrWait.{cr_wait_tpdu, cr_wait_tick, confirmed}
use Rattle.tp4_conn.specs.End.{End, Moved, IsTimed, IsProposal, IsSized, agreed_format, send, confirms, led_by, span}
use Rattle.tp4_conn.specs.Living.{Life, Leads, after, sent_by}
use Rattle.tp4_conn.specs.Making.{caller, connected, called_end, on_cr}
use Rattle.tp4_conn.specs.Matching.{wants_sum}
use Rattle.tp4_conn.specs.Opened.{hearing, on_dt, is_expedited, opened_tpdu, opened_tick, opened_as, opened_goes, dt_as, granting, protocol_error, sending, receiving}
use Rattle.tp4_conn.specs.Proper.{AreSendable, IsProperCall, AreProper, AreHalves, AreOpen, HasSize, IsProper, IsProperStage, IsProperRow, IsProperEvent}
use Rattle.tp4_conn.specs.Table.{Event, Called, Took, Ticked, on_tpdu, on_tick, on_call, stepped}
use Rattle.tp4_conn.specs.Table.{at as base_at}
use Rattle.tp4_conn.specs.UserWait.{user_wait_accept, user_wait_refuse, user_wait_tick}
use Rattle.tp4_conn.specs.WaitBeforeClose.{wait_before_close_tpdu, wait_before_close_tick}
use Rattle.tp4_conn.proofs.Sendables.{Sends, Ready, appended, opened_fits, submitted_fits, urged_fits, acknowledged_fits, done_fits, ticked_fits, ak_fits, aks_fit, same_credit, ea_fits, granted_fits}
use Rattle.tp4_conn.proofs.Sizes.{agreed_sized, confirmed_known, known_size, number_known, proposal_by, read_proposal}

-- what an end keeps for good
record Steady (b : EndRecord) : Type 0 where
  timers : IsTimed b.timers
  calling : length b.calling ≤ 32
  called : length b.called ≤ 32
  size : IsProposal b.proposed

steady : (b : EndRecord) (stage : StateData) → IsProper b stage → Steady b
steady b stage p = record { timers = p.timers; calling = p.calling; called = p.called; size = p.size }

-- a row that goes into this state and sends these TPDUs
row : (b : EndRecord) (stage : StateData) (events : List EndEvent) (tpdus : List Sent) → Steady b → IsProperStage b.agreed stage → AreSendable tpdus
    → IsProperRow (record { base = b; stage = stage; events = events; tpdus = tpdus })
row b stage events tpdus s p fits = record { proper = record { timers = s.timers; calling = s.calling; called = s.called; size = s.size; state = p }; tpdus = fits }

-- the TPDUs of an end
cr_fits : (b : EndRecord) (octets : List ℕ) → Steady b → length octets ≤ 32 → AreSendable (request b octets ∷ [])
cr_fits b octets s few =
    let n = number_known b.proposed.options s.size.sized in
    (((n.0, refl, refl, refl), record { few_credits = omega (arith, s.timers.credit); calling_fits = s.calling; called_fits = s.called; size_known = known_size b.proposed.listed s.size.listed; preferred_known = n.1; octets_fit = few }), tt)

cc_fits : (b : EndRecord) (o : Options) (octets : List ℕ) → Steady b → IsSized o → length octets ≤ 32 → AreSendable (confirm b o octets ∷ [])
cc_fits b o octets s size few =
    let n = number_known o size in
    (((n.0, refl, refl, refl), record { few_credits = omega (arith, s.timers.credit); calling_fits = s.calling; called_fits = s.called; size_known = confirmed_known o size; preferred_known = n.1; octets_fit = few }), tt)

confirms_fit : (b : EndRecord) (agreed : Option Options) (octets : List ℕ) → Steady b → HasSize agreed → length octets ≤ 32 → AreSendable (confirms_again b agreed octets)
confirms_fit b None octets s size few = tt
confirms_fit b (Some o) octets s size few = cc_fits b o octets s size few

dr_fits : (b : EndRecord) (source reason : ℕ) (octets : List ℕ) → length octets ≤ 64 → AreSendable (send b (Dr b.partner source reason None octets) ∷ [])
dr_fits b source reason octets few = ((refl, few), tt)

dc_fits : (b : EndRecord) (source : ℕ) → AreSendable (confirms b source)
dc_fits b source = if_kept AreSendable (source == 0) _ _ (λ _. tt) (λ _. ((tt, tt), tt))

-- the halves
credit_low : (format : Format) (credit : ℕ) → credit ≤ 15 → IsCredit format credit
credit_low Plain credit low = omega arith
credit_low Extended credit low = tt

fresh_halves : (b : EndRecord) (o : Options) → IsTimed b.timers → AreHalves (Some o) (halves_of b o)
fresh_halves b o timed = record { t1 = timed.t1_least; expedited = tt; format = refl; credit = credit_low o.format b.timers.credit timed.credit }

ready : (agreed : Option Options) (h : Halves) (now : ℕ) (o : Bool) → AreHalves agreed h → h.sending.is_open ≡ o → Ready o (at now h.sending)
ready agreed h now o p is_open = record { t1 = p.t1; expedited = p.expedited; is_open = is_open }

ready_self : (agreed : Option Options) (h : Halves) (now : ℕ) → AreHalves agreed h → Ready h.sending.is_open (at now h.sending)
ready_self agreed h now p = record { t1 = p.t1; expedited = p.expedited; is_open = refl }

sent_halves : (agreed : Option Options) (h : Halves) (o : Bool) (x : Sendings) → AreHalves agreed h → Sends o x → AreHalves agreed (record h { sending = x.sender })
sent_halves agreed h o x p s = record { t1 = s.t1; expedited = s.expedited; format = p.format; credit = p.credit }

sent_open : (agreed : Option Options) (h : Halves) (x : Sendings) → AreHalves agreed h → Sends true x → IsSettled x.sender → AreOpen agreed (record h { sending = x.sender })
sent_open agreed h x p s settled = record { halves = sent_halves agreed h true x p s; is_open = s.is_open; settled = settled }

got_open : (agreed : Option Options) (h : Halves) (half : Half) → AreOpen agreed h → half.rules.format ≡ agreed_format agreed → IsCredit half.rules.format half.receiver.inbox.credit
    → AreOpen agreed (record h { receiving = half })
got_open agreed h half p format credit = record {
  halves = record { t1 = p.halves.t1; expedited = p.halves.expedited; format = format; credit = credit };
  is_open = p.is_open;
  settled = p.settled;
}

led : (events : List EndEvent) (tpdus : List Sent) (m : Moved) → AreSendable tpdus → IsProperRow m → IsProperRow (led_by events tpdus m)
led events tpdus m first p = record { proper = p.proper; tpdus = appended tpdus m.tpdus first p.tpdus }

-- Opened
protocol_row : (b : EndRecord) → Steady b → IsProperRow (protocol_error b)
protocol_row b s = row b _ _ _ s (omega arith) (dr_fits b b.own 133 [] (omega arith))

arrived_credit : (h : Half) (w : ℕ) (piece : Piece) → (dt_arrival h w piece).inbox.credit ≡ h.receiver.inbox.credit
arrived_credit h w piece =
    same_credit (judged (block_in h) h.receiver.inbox (ahead (block_in h) (wire (block_in h) h.receiver.expected) w)) h.receiver.inbox (ahead (block_in h) (wire (block_in h) h.receiver.expected) w) piece

dt_row : (got : Got) (b : EndRecord) (o : InOpened) (r : Received) → Steady b → AreOpen b.agreed (record o.halves { receiving = r.half }) → AreSendable r.tpdus → IsProperRow (dt_as got b o r)
dt_row TooLarge b o r s p fits = led r.events r.tpdus _ fits (protocol_row b s)
dt_row got b o r s p fits = row b _ _ _ s p fits

on_dt_row : (wrap : ℕ → ℕ → ℕ) (b : EndRecord) (o : InOpened) (w : ℕ) (piece : Piece) → Steady b → AreOpen b.agreed o.halves → IsProperRow (on_dt wrap b o w piece)
on_dt_row wrap b o w piece s p =
    let h = o.halves.receiving in
    let half = half_after wrap h (dt_arrival h w piece) in
    let credit : IsCredit half.rules.format half.receiver.inbox.credit =
    subst (λ (n : ℕ). IsCredit h.rules.format n) (sym (arrived_credit h w piece)) p.halves.credit in
    dt_row (dt_arrival h w piece).got b o (taken_dt wrap h w piece) s (got_open b.agreed o.halves half p p.halves.format credit) (aks_fit (dt_arrival h w piece).got half credit)

on_ed_row : (wrap : ℕ → ℕ → ℕ) (b : EndRecord) (o : InOpened) (w : ℕ) (octets : List ℕ) → Steady b → AreOpen b.agreed o.halves → IsNumber (agreed_format b.agreed) w
    → IsProperRow (receiving b o (taken_ed wrap o.halves.receiving w octets))
on_ed_row wrap b o w octets s p number =
    let h = o.halves.receiving in
    row b _ _ _ s
    (if_kept (λ (half : Half). AreOpen b.agreed (record o.halves { receiving = half })) (is_next h w) _ _
    (λ _. got_open b.agreed o.halves _ p p.halves.format p.halves.credit)
    (λ _. got_open b.agreed o.halves _ p p.halves.format p.halves.credit))
    (ea_fits wrap h w octets (subst (λ (f : Format). IsNumber f w) (sym p.halves.format) number))

sending_row : (b : EndRecord) (o : InOpened) (x : Sendings) → Steady b → AreOpen b.agreed o.halves → Sends true x → IsSettled x.sender → IsProperRow (sending b o x)
sending_row b o x s p sends settled = row b _ _ _ s (sent_open b.agreed o.halves x p.halves sends settled) sends.tpdus

opened_tpdu_row : (wrap : ℕ → ℕ → ℕ) (b : EndRecord) (o : InOpened) (tpdu : Tpdu) → Steady b → AreOpen b.agreed o.halves → IsAllowed (agreed_format b.agreed) tpdu
    → IsProperRow (opened_tpdu wrap b o tpdu)
unfolding opened_tpdu
opened_tpdu_row wrap b o (Cr credit source width calling called size preferred extra version classes ack_time text) s p a = row b _ _ _ s p tt
opened_tpdu_row wrap b o (Cc credit destination source width calling called size preferred extra version classes ack_time text) s p a =
    row b _ _ _ s p (ak_fits o.halves.receiving p.halves.credit)
opened_tpdu_row wrap b o (Dr destination source reason info text) s p a = row b _ _ _ s tt (dc_fits b source)
opened_tpdu_row wrap b o (Dc destination source) s p a = row b _ _ _ s p tt
opened_tpdu_row wrap b o (Er destination cause rejected) s p a = protocol_row b s
opened_tpdu_row wrap b o (Dt destination last number text) s p a = on_dt_row wrap b o number (record { last = last; octets = text }) s p
opened_tpdu_row wrap b o (Ed destination last number text) s p a =
    if_kept IsProperRow (is_expedited b.agreed) _ _ (λ _. on_ed_row wrap b o number text s p a.0) (λ _. protocol_row b s)
opened_tpdu_row wrap b o (Ak destination number credit subsequence confirmation) s p a =
    sending_row b o _ s p (acknowledged_fits true (at b.clock o.halves.sending) number credit subsequence (ready b.agreed o.halves b.clock true p.halves p.is_open))
    (taken_settled (at b.clock o.halves.sending) number credit subsequence p.is_open (later o.halves.sending b.clock p.settled))
opened_tpdu_row wrap b o (Ea destination number) s p a =
    sending_row b o _ s p (done_fits true (at b.clock o.halves.sending) number (ready b.agreed o.halves b.clock true p.halves p.is_open))
    (done_settled (at b.clock o.halves.sending) number p.is_open (later o.halves.sending b.clock p.settled))

goes_row : (b : EndRecord) (o : InOpened) (x : Sendings) → Steady b → AreOpen b.agreed o.halves → Sends true x → IsSettled x.sender → IsProperRow (opened_goes b o x)
goes_row b o x s p sends settled =
    if_kept IsProperRow (nat_le (o.acked + b.timers.window) b.clock) _ _
    (λ _. led x.events x.tpdus _ sends.tpdus (row b _ _ _ s (sent_open b.agreed o.halves x p.halves sends settled) (ak_fits o.halves.receiving p.halves.credit)))
    (λ _. sending_row b o x s p sends settled)

life_row : (life : Ends) (b : EndRecord) (o : InOpened) → Steady b → AreOpen b.agreed o.halves → IsProperRow (opened_as life b o)
life_row Exhausted b o s p = row b _ _ _ s (omega arith) (dr_fits b b.own 128 [] (omega arith))
life_row Goes b o s p =
    goes_row b o _ s p (ticked_fits true (at b.clock o.halves.sending) (ready b.agreed o.halves b.clock true p.halves p.is_open))
    (tick_settled (at b.clock o.halves.sending) p.is_open (later o.halves.sending b.clock p.settled))

opened_tick_row : (b : EndRecord) (o : InOpened) → Steady b → AreOpen b.agreed o.halves → IsProperRow (opened_tick b o)
unfolding opened_tick
opened_tick_row b o s p =
    if_kept IsProperRow (nat_le (o.took + b.timers.inactive) b.clock) _ _
    (λ _. row b _ _ _ s (omega arith) (dr_fits b b.own 128 [] (omega arith)))
    (λ _. life_row (life_of (at b.clock o.halves.sending)) b o s p)

-- a matching TPDU
confirmed_row : (b : EndRecord) (o : Options) (octets : List ℕ) → Steady b → b.agreed ≡ Some o → IsProperRow (confirmed b o octets)
confirmed_row b o octets s agreed =
    let h = halves_of b o in
    let p : AreHalves b.agreed h = subst (λ (a : Option Options). AreHalves a h) (sym agreed) (fresh_halves b o s.timers) in
    let sends : Sends true (opened (at b.clock h.sending)) = opened_fits false (at b.clock h.sending) (ready b.agreed h b.clock false p refl) in
    let settled : IsSettled (opened (at b.clock h.sending)).sender = new_settled (record (at b.clock h.sending) { is_open = true }) refl in
    row b _ _ _ s (sent_open b.agreed h _ p sends settled) (appended (opened (at b.clock h.sending)).tpdus (ak h.receiving ∷ []) sends.tpdus (ak_fits h.receiving p.credit))

partner_known : (b : EndRecord) (partner : ℕ) → Steady b → Steady (record b { partner = partner })
partner_known b partner s = record { timers = s.timers; calling = s.calling; called = s.called; size = s.size }

cr_wait_row : (b : EndRecord) (w : InCrWait) (tpdu : Tpdu) → Steady b → length w.octets ≤ 32 → IsProperRow (cr_wait_tpdu b w tpdu)
unfolding cr_wait_tpdu
cr_wait_row b w (Cc credit destination source width calling called size preferred extra version classes ack_time text) s few =
    if_kept IsProperRow (is_within b.proposed width size preferred extra) _ _
    (λ _. confirmed_row (record b { partner = source; credit = credit; agreed = Some (options_in width size preferred extra) }) (options_in width size preferred extra) text
    (record { timers = s.timers; calling = s.calling; called = s.called; size = s.size }) refl)
    (λ _. row (record b { partner = source }) _ _ _ (partner_known b source s) (omega arith) (dr_fits (record b { partner = source }) b.own 133 [] (omega arith)))
cr_wait_row b w (Dr destination source reason info text) s few = row b _ _ _ s tt (dc_fits b source)
cr_wait_row b w other s few = row b _ _ _ s few tt

wait_row : (b : EndRecord) (w : InWaitBeforeClose) (tpdu : Tpdu) → Steady b → (length w.request.octets ≤ 32) × (length w.octets ≤ 64) → IsProperRow (wait_before_close_tpdu b w tpdu)
unfolding wait_before_close_tpdu
wait_row b w (Cc credit destination source width calling called size preferred extra version classes ack_time text) s few =
    row (record b { partner = source }) _ _ _ (partner_known b source s) few.1 (dr_fits (record b { partner = source }) b.own 128 w.octets few.1)
wait_row b w (Dr destination source reason info text) s few = row b _ _ _ s tt (dc_fits b source)
wait_row b w other s few = row b _ _ _ s few tt

opening_row : (wrap : ℕ → ℕ → ℕ) (b : EndRecord) (h : Halves) (tpdu : Tpdu) → Steady b → AreHalves b.agreed h → IsAllowed (agreed_format b.agreed) tpdu → IsProperRow (opening wrap b h tpdu)
opening_row wrap b h tpdu s p a =
    let x = opened (at b.clock h.sending) in
    let sends : Sends true x = opened_fits h.sending.is_open (at b.clock h.sending) (ready_self b.agreed h b.clock p) in
    let settled : IsSettled x.sender = new_settled (record (at b.clock h.sending) { is_open = true }) refl in
    led x.events x.tpdus _ sends.tpdus
    (opened_tpdu_row wrap b (record { took = b.clock; acked = b.clock; halves = record h { sending = x.sender } }) tpdu s (sent_open b.agreed h x p sends settled) a)

ak_wait_row : (wrap : ℕ → ℕ → ℕ) (b : EndRecord) (w : InAkWait) (tpdu : Tpdu) → Steady b → IsProperStage b.agreed (AkWait w) → IsAllowed (agreed_format b.agreed) tpdu
    → IsProperRow (ak_wait_tpdu wrap b w tpdu)
unfolding ak_wait_tpdu
ak_wait_row wrap b w (Ak destination number credit subsequence confirmation) s p a = opening_row wrap b w.halves (Ak destination number credit subsequence confirmation) s p.2 a
ak_wait_row wrap b w (Dt destination last number text) s p a = opening_row wrap b w.halves (Dt destination last number text) s p.2 a
ak_wait_row wrap b w (Ed destination last number text) s p a = opening_row wrap b w.halves (Ed destination last number text) s p.2 a
ak_wait_row wrap b w (Ea destination number) s p a = opening_row wrap b w.halves (Ea destination number) s p.2 a
ak_wait_row wrap b w (Dr destination source reason info text) s p a = row b _ _ _ s tt (dc_fits b source)
ak_wait_row wrap b w (Er destination cause rejected) s p a = row b _ _ _ s (omega arith) (dr_fits b b.own 133 [] (omega arith))
ak_wait_row wrap b w other s p a = row b _ _ _ s p tt

closing_row : (b : EndRecord) (c : InClosing) (tpdu : Tpdu) → Steady b → length c.octets ≤ 64 → IsProperRow (closing_tpdu b c tpdu)
unfolding closing_tpdu
closing_row b c (Dc destination source) s few = row b _ _ _ s tt tt
closing_row b c (Dr destination source cause info text) s few = row b _ _ _ s tt tt
closing_row b c other s few = row b _ _ _ s few tt

tpdu_row : (wrap : ℕ → ℕ → ℕ) (b : EndRecord) (stage : StateData) (tpdu : Tpdu) → Steady b → IsProperStage b.agreed stage → IsAllowed (agreed_format b.agreed) tpdu
    → IsProperRow (on_tpdu wrap b stage tpdu)
tpdu_row wrap b (CrWait w) tpdu s p a = cr_wait_row b w tpdu s p
tpdu_row wrap b (WaitBeforeClose w) tpdu s p a = wait_row b w tpdu s p
tpdu_row wrap b (UserWait since) tpdu s p a = row b _ _ _ s tt tt
tpdu_row wrap b (AkWait w) tpdu s p a = ak_wait_row wrap b w tpdu s p a
tpdu_row wrap b (Opened o) tpdu s p a = opened_tpdu_row wrap b (hearing b o) tpdu s p a
tpdu_row wrap b (Closing c) tpdu s p a = closing_row b c tpdu s p
tpdu_row wrap b (Frozen when) tpdu s p a = row b _ _ _ s tt tt

-- a tick
tick_row : (b : EndRecord) (stage : StateData) → Steady b → IsProperStage b.agreed stage → IsProperRow (on_tick b stage)
unfolding cr_wait_tick wait_before_close_tick user_wait_tick ak_wait_tick closing_tick
tick_row b (CrWait w) s p =
    if_kept IsProperRow (nat_lt b.clock (w.tries.last + b.timers.t1)) _ _
    (λ _. row b _ _ _ s p tt)
    (λ _. if_kept IsProperRow (nat_lt w.tries.count b.timers.sendings) _ _ (λ _. row b _ _ _ s p (cr_fits b w.octets s p)) (λ _. row b _ _ _ s tt tt))
tick_row b (WaitBeforeClose w) s p =
    if_kept IsProperRow (nat_lt b.clock (w.request.tries.last + b.timers.t1)) _ _
    (λ _. row b _ _ _ s p tt)
    (λ _. if_kept IsProperRow (nat_lt w.request.tries.count b.timers.sendings) _ _ (λ _. row b _ _ _ s p (cr_fits b w.request.octets s p.0)) (λ _. row b _ _ _ s tt tt))
tick_row b (UserWait since) s p =
    if_kept IsProperRow (nat_lt b.clock (since + b.timers.inactive)) _ _ (λ _. row b _ _ _ s tt tt) (λ _. row b _ _ _ s tt (dr_fits b 0 128 [] (omega arith)))
tick_row b (AkWait w) s p =
    if_kept IsProperRow (nat_lt b.clock (w.tries.last + b.timers.t1)) _ _
    (λ _. row b _ _ _ s p tt)
    (λ _. if_kept IsProperRow (nat_lt w.tries.count b.timers.sendings) _ _
    (λ _. row b _ _ _ s p (confirms_fit b b.agreed w.octets s p.1 p.0))
    (λ _. row b _ _ _ s tt tt))
tick_row b (Opened o) s p = opened_tick_row b o s p
tick_row b (Closing c) s p =
    if_kept IsProperRow (nat_le (c.from + span b.timers) b.clock) _ _
    (λ _. row b _ _ _ s tt tt)
    (λ _. if_kept IsProperRow (nat_lt b.clock (c.last + b.timers.t1)) _ _ (λ _. row b _ _ _ s p tt) (λ _. row b _ _ _ s p (dr_fits b b.own c.reason c.octets p)))
tick_row b (Frozen when) s p = row b _ _ _ s tt tt

-- what a call is that is not refused
not_long : (most : ℕ) (octets : List ℕ) → too_long most octets ≡ None → length octets ≤ most
not_long most octets e = by (nat_lt most (length octets)) refl e
  where
    by : (b : Bool) → nat_lt most (length octets) ≡ b → (if b then Some refused.TooLong else None) ≡ None → length octets ≤ most
    by true t k = absurd (none-some _ (sym k))
    by false f k = ltb-false most (length octets) f

record IsUnit (n : ℕ) : Type 0 where
  some : 1 ≤ n
  few : n ≤ 16

urgent_unit : (agreed : Bool) (s : FlowSender) (n : ℕ) → urgent_unit_refusal agreed (urgent_refusal s n) ≡ None → IsUnit n
urgent_unit agreed s n e = by (n == 0) refl (nat_lt 16 n) refl e
  where
    by : (none : Bool) → (n == 0) ≡ none → (long : Bool) → nat_lt 16 n ≡ long
        → urgent_unit_refusal agreed (if none then Some submits.EmptyUnit else if long then Some submits.TooLong else if nat_le 64 (length s.urgent.units) then Some submits.QueueFull else None) ≡ None
        → IsUnit n
    by true z long l k = absurd (none-some _ (sym k))
    by false z true l k = absurd (none-some _ (sym k))
    by false z false l k =
        let low : n ≤ 16 = ltb-false 16 n l in
        let some : 1 ≤ n = omega (arith, eqb-false n 0 z) in record { some = some; few = low }

granting_row : (b : EndRecord) (o : InOpened) (credit : ℕ) → Steady b → AreOpen b.agreed o.halves → IsProperRow (granting b o (half_granted o.halves.receiving credit))
granting_row b o credit s p =
    let new = half_granted o.halves.receiving credit in
    let fits = granted_fits o.halves.receiving credit p.halves.credit in
    let is_open = got_open b.agreed o.halves new p p.halves.format fits in
    if_kept IsProperRow (new.receiver.inbox.credit == o.halves.receiving.receiver.inbox.credit) _ _
    (λ _. row b _ _ _ s is_open tt)
    (λ _. row b _ _ _ s is_open (ak_fits new fits))

at_steady : (now : ℕ) (b : EndRecord) → Steady b → Steady (base_at now b)
at_steady now b s = record { timers = s.timers; calling = s.calling; called = s.called; size = s.size }

accepted_row : (b : EndRecord) (asked : Options) (octets : List ℕ) → Steady b → IsSized asked → length octets ≤ 32 → IsProperRow (user_wait_accept b asked octets)
unfolding user_wait_accept
accepted_row b asked octets s size few =
    let o = agreed_by b.proposed asked in
    let c = record b { agreed = Some o } in
    let steady : Steady c = record { timers = s.timers; calling = s.calling; called = s.called; size = s.size } in
    let agreed : IsSized o = agreed_sized b.proposed asked s.size size in
    row c _ _ _ steady (few, agreed, fresh_halves c o s.timers) (cc_fits c o octets steady agreed few)

refused_row : (b : EndRecord) (octets : List ℕ) → Steady b → length octets ≤ 64 → IsProperRow (user_wait_refuse b octets)
unfolding user_wait_refuse
refused_row b octets s few = row b _ _ _ s tt (dr_fits b 0 128 octets few)

ak_sends : (b : EndRecord) (now : ℕ) (w : InAkWait) (x : Sendings) → Steady b → IsProperStage b.agreed (AkWait w) → Sends w.halves.sending.is_open x
    → IsProperRow (queueing (base_at now b) w x)
ak_sends b now w x s p sends =
    row (base_at now b) _ _ _ (at_steady now b s) (p.0, p.1, sent_halves b.agreed w.halves w.halves.sending.is_open x p.2 sends) sends.tpdus

-- a call of the user that is not refused
call_row : (b : EndRecord) (now : ℕ) (stage : StateData) (call : UserCall) → Steady b → IsProperStage b.agreed stage → call_refusal b stage call ≡ None → IsCall call
    → IsProperRow (on_call (base_at now b) stage call)
call_row b now (CrWait w) (Disconnect octets) s p e c = row (base_at now b) _ _ _ (at_steady now b s) (p, not_long 64 octets e) tt
call_row b now (UserWait since) (Accept asked octets) s p e c = accepted_row (base_at now b) asked octets (at_steady now b s) c (not_long 32 octets e)
call_row b now (UserWait since) (Refuse octets) s p e c = refused_row (base_at now b) octets (at_steady now b s) (not_long 64 octets e)
call_row b now (UserWait since) other s p e c = row (base_at now b) _ _ _ (at_steady now b s) tt tt
call_row b now (AkWait w) (Normal unit) s p e c = ak_sends b now w _ s p (submitted_fits w.halves.sending.is_open (at now w.halves.sending) unit (ready_self b.agreed w.halves now p.2))
call_row b now (AkWait w) (Urgent unit) s p e c =
    let u = urgent_unit (is_expedited b.agreed) w.halves.sending (length unit) e in
    ak_sends b now w _ s p (urged_fits w.halves.sending.is_open (at now w.halves.sending) unit (ready_self b.agreed w.halves now p.2) u.some u.few)
call_row b now (AkWait w) (Disconnect octets) s p e c =
    row (base_at now b) _ _ _ (at_steady now b s) (not_long 64 octets e) (dr_fits (base_at now b) b.own 128 octets (not_long 64 octets e))
call_row b now (Opened o) (Normal unit) s p e c =
    let h = at now o.halves.sending in
    sending_row (base_at now b) o _ (at_steady now b s) p (submitted_fits true h unit (ready b.agreed o.halves now true p.halves p.is_open))
    (new_settled (record h { queue = record h.queue { units = h.queue.units ++ unit ∷ [] } }) p.is_open)
call_row b now (Opened o) (Urgent unit) s p e c =
    let h = at now o.halves.sending in
    let u = urgent_unit (is_expedited b.agreed) o.halves.sending (length unit) e in
    sending_row (base_at now b) o _ (at_steady now b s) p (urged_fits true h unit (ready b.agreed o.halves now true p.halves p.is_open) u.some u.few)
    (new_settled (record h { urgent = record h.urgent { units = h.urgent.units ++ unit ∷ [] } }) p.is_open)
call_row b now (Opened o) (Window credit) s p e c = granting_row (base_at now b) o credit (at_steady now b s) p
call_row b now (Opened o) (Disconnect octets) s p e c =
    row (base_at now b) _ _ _ (at_steady now b s) (not_long 64 octets e) (dr_fits (base_at now b) b.own 128 octets (not_long 64 octets e))
call_row b now (Frozen when) call s p e c = row (base_at now b) _ _ _ (at_steady now b s) tt tt
call_row b now stage call s p e c = row (base_at now b) _ _ _ (at_steady now b s) p tt

-- each event
pub step_row : (wrap : ℕ → ℕ → ℕ) (now : ℕ) (e : End) (event : Event) → IsProper e.base e.stage → IsProperEvent e event → IsProperRow (stepped wrap now e event)
step_row wrap now e (Called call) p may = call_row e.base now e.stage call (steady e.base e.stage p) p.state may.0 may.1
step_row wrap now e (Took tpdu sum) p may =
    if_kept IsProperRow (wants_sum e.base e.stage tpdu && not sum) _ _
    (λ _. row e.base e.stage _ [] (steady e.base e.stage p) p.state tt)
    (λ _. tpdu_row wrap (base_at now e.base) e.stage tpdu (at_steady now e.base (steady e.base e.stage p)) p.state may)
step_row wrap now e Ticked p may = tick_row (base_at now e.base) e.stage (at_steady now e.base (steady e.base e.stage p)) p.state

-- the two ways in which an end is made
pub connected_row : (now : ℕ) (call : ConnectCall) → IsProperCall call → IsProperRow (connected now call)
connected_row now call c =
    let steady : Steady (caller now call) = record { timers = c.timers; calling = c.calling; called = c.called; size = proposal_by call.request.options c.size } in
    row (caller now call) _ _ _ steady c.octets (cr_fits (caller now call) call.request.octets steady c.octets)

pub called_row : (now own : ℕ) (from : List ℕ) (rules : Timers) (tpdu : Tpdu) (m : Moved) → IsTimed rules → IsAllowed Plain tpdu
    → on_cr now own from rules tpdu ≡ Some m → IsProperRow m
called_row now own from rules (Cr credit source width calling called size preferred extra version classes ack_time text) m timed a e =
    subst (λ (x : Moved). IsProperRow x) (same_Some _ _ e)
    (row (called_end now own from rules credit source calling called (proposed_in width size preferred extra)) _ _ [] (record { timers = timed; calling = a.calling_fits; called = a.called_fits; size = read_proposal width size preferred extra a.size_known a.preferred_known }) tt tt)
called_row now own from rules other m timed a e = absurd (none-some _ e)

-- a list of events
pub all_proper : (wrap : ℕ → ℕ → ℕ) (old : Life) (xs : List (ℕ × Event)) (last : Life) → IsProper old.end.base old.end.stage → AreProper wrap old xs → Leads wrap old xs last
    → IsProper last.end.base last.end.stage × AreSendable (sent_by wrap old xs)
all_proper wrap old [] last p may leads = (subst (λ (l : Life). IsProper l.end.base l.end.stage) (sym leads) p, tt)
all_proper wrap old (x ∷ xs) last p may leads =
    let first : IsProperRow (stepped wrap x.0 old.end x.1) = step_row wrap x.0 old.end x.1 p may.0 in
    let rest = all_proper wrap (after wrap old x.0 x.1) xs last first.proper may.1 leads.1 in
    (rest.0, appended (stepped wrap x.0 old.end x.1).tpdus (sent_by wrap (after wrap old x.0 x.1) xs) first.tpdus rest.1)
