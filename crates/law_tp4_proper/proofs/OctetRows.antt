-- By cases on the state and the event: each row keeps an end in octets, and what it sends is.
use Rattle.std.proofs.Common.{◌≡◌, ◌<◌, ℕ, ◌+◌, Bool, true, false, ◌&&◌, ◌==◌, not, nat_lt, nat_le, List, [], ◌∷◌, Option, Some, None, subst, arith, if◌then◌else◌}
use Rattle.std.proofs.lemmas.Option.{none-some, same_Some}
use Rattle.law_carrier_answers.specs.Answers.{AreOctets}
use Rattle.tpdu.specs.declared.tpdu.Tpdu.{Tpdu}
use Rattle.tpdu.specs.declared.tpdu.Tpdu.TheVariants.{Cr, Cc, Dr, Dc, Dt, Ed, Ak, Ea, Er}
use Rattle.tp4_number.specs.declared.got.Got.{Got}
use Rattle.tp4_number.specs.declared.got.Got.TheVariants.{Kept, Old, Outside, TooLarge}
use Rattle.tp4_number.specs.declared.piece.Piece.{Piece}
use Rattle.tp4_number.proofs.Past.{if_kept}
use Rattle.tp4_flow.specs.ReceivingHalf.{Half, Received, ak, dt_arrival, half_granted, taken_dt, taken_ed}
use Rattle.tp4_flow.specs.declared.rules.Life.{Life as Ends}
use Rattle.tp4_flow.specs.declared.rules.Life.TheVariants.{Goes, Exhausted}
use Rattle.tpdu.specs.declared.service.Options.{Options}
use Rattle.tp4_flow.specs.declared.step.EndEvent.{EndEvent}
use Rattle.tp4_flow.specs.declared.step.Sent.{Sent}
use Rattle.tp4_sending.specs.SendingHalf.{Sendings, at, life_of, opened}
use Rattle.tp4_conn.specs.declared.end_record.EndRecord.{EndRecord}
use Rattle.tp4_conn.specs.declared.call.ConnectCall.{ConnectCall}
use Rattle.tp4_conn.specs.declared.call.UserCall.{UserCall}
use Rattle.tp4_conn.specs.declared.call.UserCall.TheVariants.{Accept, Refuse, Normal, Urgent, Window, Disconnect}
use Rattle.tp4_conn.specs.declared.halves.Halves.{Halves}
use Rattle.tp4_conn.specs.declared.states.InAkWait.{InAkWait}
use Rattle.tp4_conn.specs.declared.states.InOpened.{InOpened}
use Rattle.tp4_conn.specs.declared.states.InWaitBeforeClose.{InWaitBeforeClose}
use Rattle.tp4_conn.specs.declared.states.InClosing.{InClosing}
use Rattle.tp4_conn.specs.declared.states.InCrWait.{InCrWait}
use Rattle.tp4_conn.specs.declared.states.StateData.{StateData}
use Rattle.tp4_conn.specs.declared.states.StateData.TheVariants.{CrWait, WaitBeforeClose, UserWait, AkWait, Opened, Closing, Frozen}
use Rattle.tp4_conn.specs.declared.timers.Timers.{Timers}
use Rattle.tp4_conn.specs.Agreeing.{agreed_by, confirm, confirms_again, extra_of, halves_of, is_within, options_in, proposed_in, request}
use Rattle.tp4_conn.specs.AkWait.{ak_wait_tick, ak_wait_tpdu, opening}
use Rattle.tp4_conn.specs.Closing.{closing_tick, closing_tpdu}
use Rattle.tp4_conn.specs.CrWait.{confirmed, cr_wait_tick, cr_wait_tpdu}
use Rattle.tp4_conn.specs.End.{End, IsTimed, Moved, closing, confirms, end_of, frozen, led_by, release, span}
use Rattle.tp4_conn.specs.Making.{caller, called_end, connected, on_cr}
use Rattle.tp4_conn.specs.Matching.{wants_sum}
use Rattle.tp4_conn.specs.Opened.{dt_as, granting, hearing, is_expedited, on_dt, opened_as, opened_goes, opened_tick, opened_tpdu, receiving, sending}
use Rattle.tp4_conn.specs.Table.{Called, Ticked, Took, on_call, on_tick, on_tpdu, stepped}
use Rattle.tp4_conn.specs.Table.{at as base_at}
use Rattle.tp4_conn.specs.UserWait.{refusing, user_wait_accept, user_wait_refuse, user_wait_tick}
use Rattle.tp4_conn.specs.WaitBeforeClose.{wait_before_close_tick, wait_before_close_tpdu}
use Rattle.law_tp4_proper.specs.Octets.{AreAddressed, BaseInOctets, CallInOctets, ConnectInOctets, EndInOctets, HalfInOctets, HalvesInOctets, HasOctets, IsPair, StageInOctets}
use Rattle.law_tp4_proper.proofs.OctetSends.{SendsInOctets, acknowledged_in, after_in, ak_in, appended, clock_in, done_in, dt_in, ed_half_in, ed_in, granted_in, opened_in, submitted_in, ticked_in, urged_in}

extra_low : (o : Options) → extra_of o < 256
extra_low o = by o.expedited o.sum
  where
    by : (expedited sum : Bool) → (if expedited then 1 else 0) + (if sum then 0 else 2) < 256
    by true true = omega arith
    by true false = omega arith
    by false true = omega arith
    by false false = omega arith

module _ (is_address : List ℕ → Bool) where
  pub record RowInOctets (m : Moved) : Type 0 where
    pub end : EndInOctets is_address (end_of m)
    pub tpdus : AreAddressed is_address m.tpdus

  row : (b : EndRecord) (stage : StateData) (events : List EndEvent) (tpdus : List Sent) → BaseInOctets is_address b → StageInOctets is_address stage → AreAddressed is_address tpdus
      → RowInOctets (record { base = b; stage = stage; events = events; tpdus = tpdus })
  row b stage events tpdus i s fits = record { end = record { base = i; stage = s }; tpdus = fits }

  led : (events : List EndEvent) (tpdus : List Sent) (m : Moved) → AreAddressed is_address tpdus → RowInOctets m → RowInOctets (led_by events tpdus m)
  led events tpdus m first r = record { end = record { base = r.end.base; stage = r.end.stage }; tpdus = appended is_address tpdus m.tpdus first r.tpdus }

  -- ---- the TPDUs of an end

  request_in : (b : EndRecord) (octets : List ℕ) → BaseInOctets is_address b → AreOctets octets → AreAddressed is_address (request b octets ∷ [])
  request_in b octets i h = ((i.to, (i.own, i.calling, i.called, extra_low b.proposed.options, h)), tt)

  confirm_in : (b : EndRecord) (o : Options) (octets : List ℕ) → BaseInOctets is_address b → AreOctets octets → AreAddressed is_address (confirm b o octets ∷ [])
  confirm_in b o octets i h = ((i.to, (i.partner, i.own, i.calling, i.called, extra_low o, h)), tt)

  confirms_in : (b : EndRecord) (agreed : Option Options) (octets : List ℕ) → BaseInOctets is_address b → AreOctets octets → AreAddressed is_address (confirms_again b agreed octets)
  confirms_in b None octets i h = tt
  confirms_in b (Some o) octets i h = confirm_in b o octets i h

  release_in : (b : EndRecord) (reason : ℕ) (octets : List ℕ) → BaseInOctets is_address b → reason < 256 → AreOctets octets → AreAddressed is_address (release b reason octets ∷ [])
  release_in b reason octets i low h = ((i.to, (i.partner, i.own, low, h)), tt)

  refusing_in : (b : EndRecord) (octets : List ℕ) → BaseInOctets is_address b → AreOctets octets → AreAddressed is_address (refusing b octets ∷ [])
  refusing_in b octets i h = ((i.to, (i.partner, omega arith, omega arith, h)), tt)

  dc_in : (b : EndRecord) (source : ℕ) → BaseInOctets is_address b → IsPair source → AreAddressed is_address (confirms b source)
  dc_in b source i low = if_kept (AreAddressed is_address) (source == 0) _ _ (λ _. tt) (λ _. ((i.to, (low, i.own)), tt))

  closing_row : (b : EndRecord) (events : List EndEvent) (reason : ℕ) (octets : List ℕ) (from : ℕ) → BaseInOctets is_address b → reason < 256 → AreOctets octets
      → RowInOctets (closing b events reason octets from)
  closing_row b events reason octets from i low h = row b _ events _ i (low, h) (release_in b reason octets i low h)

  frozen_row : (b : EndRecord) (events : List EndEvent) (tpdus : List Sent) → BaseInOctets is_address b → AreAddressed is_address tpdus → RowInOctets (frozen b events tpdus)
  frozen_row b events tpdus i fits = row b _ events tpdus i tt fits

  at_in : (now : ℕ) (b : EndRecord) → BaseInOctets is_address b → BaseInOctets is_address (base_at now b)
  at_in now b i = record { own = i.own; partner = i.partner; to = i.to; calling = i.calling; called = i.called }

  partner_in : (b : EndRecord) (partner : ℕ) → BaseInOctets is_address b → IsPair partner → BaseInOctets is_address (record b { partner = partner })
  partner_in b partner i low = record { own = i.own; partner = low; to = i.to; calling = i.calling; called = i.called }

  fresh_in : (b : EndRecord) (o : Options) → BaseInOctets is_address b → IsTimed b.timers → HalvesInOctets is_address (halves_of b o)
  fresh_in b o i timed = record {
    sending = record { rules = record { to = i.to; partner = i.partner }; units = tt; urgent = tt };
    receiving = record { rules = record { to = i.to; partner = i.partner }; credit = omega (arith, timed.credit); subsequence = omega arith };
  }

  sent_in : (h : Halves) (x : Sendings) → HalvesInOctets is_address h → SendsInOctets is_address x → HalvesInOctets is_address (record h { sending = x.sender })
  sent_in h x i s = record { sending = s.sender; receiving = i.receiving }

  got_in : (h : Halves) (half : Half) → HalvesInOctets is_address h → HalfInOctets is_address half → HalvesInOctets is_address (record h { receiving = half })
  got_in h half i k = record { sending = i.sending; receiving = k }

  -- ---- Opened

  sending_row : (b : EndRecord) (o : InOpened) (x : Sendings) → BaseInOctets is_address b → HalvesInOctets is_address o.halves → SendsInOctets is_address x → RowInOctets (sending b o x)
  sending_row b o x i h s = row b _ _ _ i (sent_in o.halves x h s) s.tpdus

  dt_row : (got : Got) (b : EndRecord) (o : InOpened) (r : Received) → BaseInOctets is_address b → HalvesInOctets is_address (record o.halves { receiving = r.half })
      → AreAddressed is_address r.tpdus → RowInOctets (dt_as got b o r)
  dt_row TooLarge b o r i h fits = led r.events r.tpdus _ fits (closing_row b _ 133 [] b.clock i (omega arith) tt)
  dt_row Kept b o r i h fits = row b _ _ _ i h fits
  dt_row Old b o r i h fits = row b _ _ _ i h fits
  dt_row Outside b o r i h fits = row b _ _ _ i h fits

  on_dt_row : (wrap : ℕ → ℕ → ℕ) (b : EndRecord) (o : InOpened) (w : ℕ) (piece : Piece) → BaseInOctets is_address b → HalvesInOctets is_address o.halves → RowInOctets (on_dt wrap b o w piece)
  on_dt_row wrap b o w piece i h =
      let half = o.halves.receiving in
      dt_row (dt_arrival half w piece).got b o (taken_dt wrap half w piece) i (got_in o.halves _ h (after_in is_address wrap half w piece h.receiving))
      (dt_in is_address wrap half w piece h.receiving)

  on_ed_row : (wrap : ℕ → ℕ → ℕ) (b : EndRecord) (o : InOpened) (w : ℕ) (octets : List ℕ) → BaseInOctets is_address b → HalvesInOctets is_address o.halves
      → RowInOctets (receiving b o (taken_ed wrap o.halves.receiving w octets))
  on_ed_row wrap b o w octets i h =
      row b _ _ _ i (got_in o.halves _ h (ed_half_in is_address wrap o.halves.receiving w octets h.receiving)) (ed_in is_address wrap o.halves.receiving w octets h.receiving)

  opened_tpdu_row : (wrap : ℕ → ℕ → ℕ) (b : EndRecord) (o : InOpened) (tpdu : Tpdu) → BaseInOctets is_address b → HalvesInOctets is_address o.halves → HasOctets tpdu
      → RowInOctets (opened_tpdu wrap b o tpdu)
  unfolding opened_tpdu
  opened_tpdu_row wrap b o (Cr credit source width calling called size preferred extra version classes ack_time text) i h t = row b _ _ _ i h tt
  opened_tpdu_row wrap b o (Cc credit destination source width calling called size preferred extra version classes ack_time text) i h t =
      row b _ _ _ i h (ak_in is_address o.halves.receiving h.receiving)
  opened_tpdu_row wrap b o (Dr destination source reason info text) i h t = frozen_row b _ _ i (dc_in b source i t.1)
  opened_tpdu_row wrap b o (Dc destination source) i h t = row b _ _ _ i h tt
  opened_tpdu_row wrap b o (Er destination cause rejected) i h t = closing_row b _ 133 [] b.clock i (omega arith) tt
  opened_tpdu_row wrap b o (Dt destination last number text) i h t = on_dt_row wrap b o number (record { last = last; octets = text }) i h
  opened_tpdu_row wrap b o (Ed destination last number text) i h t =
      if_kept RowInOctets (is_expedited b.agreed) _ _ (λ _. on_ed_row wrap b o number text i h) (λ _. closing_row b _ 133 [] b.clock i (omega arith) tt)
  opened_tpdu_row wrap b o (Ak destination number credit subsequence confirmation) i h t =
      sending_row b o _ i h (acknowledged_in is_address (at b.clock o.halves.sending) number credit subsequence (clock_in is_address b.clock o.halves.sending h.sending))
  opened_tpdu_row wrap b o (Ea destination number) i h t =
      sending_row b o _ i h (done_in is_address (at b.clock o.halves.sending) number (clock_in is_address b.clock o.halves.sending h.sending))

  goes_row : (b : EndRecord) (o : InOpened) (x : Sendings) → BaseInOctets is_address b → HalvesInOctets is_address o.halves → SendsInOctets is_address x → RowInOctets (opened_goes b o x)
  goes_row b o x i h s =
      if_kept RowInOctets (nat_le (o.acked + b.timers.window) b.clock) _ _
      (λ _. led x.events x.tpdus _ s.tpdus (row b _ _ _ i (sent_in o.halves x h s) (ak_in is_address o.halves.receiving h.receiving)))
      (λ _. sending_row b o x i h s)

  life_row : (life : Ends) (b : EndRecord) (o : InOpened) → BaseInOctets is_address b → HalvesInOctets is_address o.halves → RowInOctets (opened_as life b o)
  life_row Exhausted b o i h = closing_row b _ 128 [] b.clock i (omega arith) tt
  life_row Goes b o i h = goes_row b o _ i h (ticked_in is_address (at b.clock o.halves.sending) (clock_in is_address b.clock o.halves.sending h.sending))

  opened_tick_row : (b : EndRecord) (o : InOpened) → BaseInOctets is_address b → HalvesInOctets is_address o.halves → RowInOctets (opened_tick b o)
  unfolding opened_tick
  opened_tick_row b o i h =
      if_kept RowInOctets (nat_le (o.took + b.timers.inactive) b.clock) _ _
      (λ _. closing_row b _ 128 [] b.clock i (omega arith) tt)
      (λ _. life_row (life_of (at b.clock o.halves.sending)) b o i h)

  -- ---- a TPDU

  confirmed_row : (b : EndRecord) (o : Options) (octets : List ℕ) → BaseInOctets is_address b → IsTimed b.timers → RowInOctets (confirmed b o octets)
  confirmed_row b o octets i timed =
      let h = halves_of b o in
      let fresh = fresh_in b o i timed in
      let s = opened_in is_address (at b.clock h.sending) (clock_in is_address b.clock h.sending fresh.sending) in
      row b _ _ _ i (sent_in h (opened (at b.clock h.sending)) fresh s) (appended is_address (opened (at b.clock h.sending)).tpdus (ak h.receiving ∷ []) s.tpdus (ak_in is_address h.receiving fresh.receiving))

  cr_wait_row : (b : EndRecord) (w : InCrWait) (tpdu : Tpdu) → BaseInOctets is_address b → IsTimed b.timers → AreOctets w.octets → HasOctets tpdu → RowInOctets (cr_wait_tpdu b w tpdu)
  unfolding cr_wait_tpdu
  cr_wait_row b w (Cc credit destination source width calling called size preferred extra version classes ack_time text) i timed h t =
      if_kept RowInOctets (is_within b.proposed width size preferred extra) _ _
      (λ _. confirmed_row (record b { partner = source; credit = credit; agreed = Some (options_in width size preferred extra) }) (options_in width size preferred extra) text
      (record { own = i.own; partner = t.1; to = i.to; calling = i.calling; called = i.called }) timed)
      (λ _. closing_row (record b { partner = source }) _ 133 [] b.clock (partner_in b source i t.1) (omega arith) tt)
  cr_wait_row b w (Dr destination source reason info text) i timed h t = frozen_row b _ _ i (dc_in b source i t.1)
  cr_wait_row b w other i timed h t = row b _ _ _ i h tt

  wait_row : (b : EndRecord) (w : InWaitBeforeClose) (tpdu : Tpdu) → BaseInOctets is_address b → AreOctets w.request.octets × AreOctets w.octets → HasOctets tpdu → RowInOctets (wait_before_close_tpdu b w tpdu)
  unfolding wait_before_close_tpdu
  wait_row b w (Cc credit destination source width calling called size preferred extra version classes ack_time text) i h t =
      closing_row (record b { partner = source }) [] 128 w.octets b.clock (partner_in b source i t.1) (omega arith) h.1
  wait_row b w (Dr destination source reason info text) i h t = frozen_row b _ _ i (dc_in b source i t.1)
  wait_row b w other i h t = row b _ _ _ i h tt

  opening_row : (wrap : ℕ → ℕ → ℕ) (b : EndRecord) (h : Halves) (tpdu : Tpdu) → BaseInOctets is_address b → HalvesInOctets is_address h → HasOctets tpdu → RowInOctets (opening wrap b h tpdu)
  opening_row wrap b h tpdu i k t =
      let x = opened (at b.clock h.sending) in
      let s = opened_in is_address (at b.clock h.sending) (clock_in is_address b.clock h.sending k.sending) in
      led x.events x.tpdus _ s.tpdus
      (opened_tpdu_row wrap b (record { took = b.clock; acked = b.clock; halves = record h { sending = x.sender } }) tpdu i (sent_in h x k s) t)

  ak_wait_row : (wrap : ℕ → ℕ → ℕ) (b : EndRecord) (w : InAkWait) (tpdu : Tpdu) → BaseInOctets is_address b → AreOctets w.octets × HalvesInOctets is_address w.halves → HasOctets tpdu
      → RowInOctets (ak_wait_tpdu wrap b w tpdu)
  unfolding ak_wait_tpdu
  ak_wait_row wrap b w (Ak destination number credit subsequence confirmation) i h t = opening_row wrap b w.halves (Ak destination number credit subsequence confirmation) i h.1 t
  ak_wait_row wrap b w (Dt destination last number text) i h t = opening_row wrap b w.halves (Dt destination last number text) i h.1 t
  ak_wait_row wrap b w (Ed destination last number text) i h t = opening_row wrap b w.halves (Ed destination last number text) i h.1 t
  ak_wait_row wrap b w (Ea destination number) i h t = opening_row wrap b w.halves (Ea destination number) i h.1 t
  ak_wait_row wrap b w (Dr destination source reason info text) i h t = frozen_row b _ _ i (dc_in b source i t.1)
  ak_wait_row wrap b w (Er destination cause rejected) i h t = closing_row b _ 133 [] w.first i (omega arith) tt
  ak_wait_row wrap b w other i h t = row b _ _ _ i h tt

  closing_tpdu_row : (b : EndRecord) (c : InClosing) (tpdu : Tpdu) → BaseInOctets is_address b → (c.reason < 256) × AreOctets c.octets → RowInOctets (closing_tpdu b c tpdu)
  unfolding closing_tpdu
  closing_tpdu_row b c (Dc destination source) i h = frozen_row b _ _ i tt
  closing_tpdu_row b c (Dr destination source cause info text) i h = frozen_row b _ _ i tt
  closing_tpdu_row b c other i h = row b _ _ _ i h tt

  tpdu_row : (wrap : ℕ → ℕ → ℕ) (b : EndRecord) (stage : StateData) (tpdu : Tpdu) → BaseInOctets is_address b → IsTimed b.timers → StageInOctets is_address stage → HasOctets tpdu
      → RowInOctets (on_tpdu wrap b stage tpdu)
  tpdu_row wrap b (CrWait w) tpdu i timed h t = cr_wait_row b w tpdu i timed h t
  tpdu_row wrap b (WaitBeforeClose w) tpdu i timed h t = wait_row b w tpdu i h t
  tpdu_row wrap b (UserWait since) tpdu i timed h t = row b _ _ _ i tt tt
  tpdu_row wrap b (AkWait w) tpdu i timed h t = ak_wait_row wrap b w tpdu i h t
  tpdu_row wrap b (Opened o) tpdu i timed h t = opened_tpdu_row wrap b (hearing b o) tpdu i h t
  tpdu_row wrap b (Closing c) tpdu i timed h t = closing_tpdu_row b c tpdu i h
  tpdu_row wrap b (Frozen when) tpdu i timed h t = row b _ _ _ i tt tt

  -- ---- a tick

  tick_row : (b : EndRecord) (stage : StateData) → BaseInOctets is_address b → StageInOctets is_address stage → RowInOctets (on_tick b stage)
  unfolding cr_wait_tick wait_before_close_tick user_wait_tick ak_wait_tick closing_tick
  tick_row b (CrWait w) i h =
      if_kept RowInOctets (nat_lt b.clock (w.tries.last + b.timers.t1)) _ _
      (λ _. row b _ _ _ i h tt)
      (λ _. if_kept RowInOctets (nat_lt w.tries.count b.timers.sendings) _ _ (λ _. row b _ _ _ i h (request_in b w.octets i h)) (λ _. frozen_row b _ _ i tt))
  tick_row b (WaitBeforeClose w) i h =
      if_kept RowInOctets (nat_lt b.clock (w.request.tries.last + b.timers.t1)) _ _
      (λ _. row b _ _ _ i h tt)
      (λ _. if_kept RowInOctets (nat_lt w.request.tries.count b.timers.sendings) _ _ (λ _. row b _ _ _ i h (request_in b w.request.octets i h.0)) (λ _. frozen_row b _ _ i tt))
  tick_row b (UserWait since) i h =
      if_kept RowInOctets (nat_lt b.clock (since + b.timers.inactive)) _ _ (λ _. row b _ _ _ i tt tt) (λ _. frozen_row b _ _ i (refusing_in b [] i tt))
  tick_row b (AkWait w) i h =
      if_kept RowInOctets (nat_lt b.clock (w.tries.last + b.timers.t1)) _ _
      (λ _. row b _ _ _ i h tt)
      (λ _. if_kept RowInOctets (nat_lt w.tries.count b.timers.sendings) _ _ (λ _. row b _ _ _ i h (confirms_in b b.agreed w.octets i h.0)) (λ _. frozen_row b _ _ i tt))
  tick_row b (Opened o) i h = opened_tick_row b o i h
  tick_row b (Closing c) i h =
      if_kept RowInOctets (nat_le (c.from + span b.timers) b.clock) _ _
      (λ _. frozen_row b _ _ i tt)
      (λ _. if_kept RowInOctets (nat_lt b.clock (c.last + b.timers.t1)) _ _ (λ _. row b _ _ _ i h tt) (λ _. row b _ _ _ i h (release_in b c.reason c.octets i h.0 h.1)))
  tick_row b (Frozen when) i h = row b _ _ _ i tt tt

  -- ---- a call

  accepted_row : (b : EndRecord) (asked : Options) (octets : List ℕ) → BaseInOctets is_address b → IsTimed b.timers → AreOctets octets → RowInOctets (user_wait_accept b asked octets)
  unfolding user_wait_accept
  accepted_row b asked octets i timed h =
      let o = agreed_by b.proposed asked in
      let c = record b { agreed = Some o } in
      let in_octets : BaseInOctets is_address c = record { own = i.own; partner = i.partner; to = i.to; calling = i.calling; called = i.called } in
      row c _ _ _ in_octets (h, fresh_in c o in_octets timed) (confirm_in c o octets in_octets h)

  refused_row : (b : EndRecord) (octets : List ℕ) → BaseInOctets is_address b → AreOctets octets → RowInOctets (user_wait_refuse b octets)
  unfolding user_wait_refuse
  refused_row b octets i h = frozen_row b _ _ i (refusing_in b octets i h)

  granting_row : (b : EndRecord) (o : InOpened) (credit : ℕ) → BaseInOctets is_address b → HalvesInOctets is_address o.halves → RowInOctets (granting b o (half_granted o.halves.receiving credit))
  granting_row b o credit i h =
      let new = half_granted o.halves.receiving credit in
      let g = granted_in is_address o.halves.receiving credit h.receiving in
      if_kept RowInOctets (new.receiver.inbox.credit == o.halves.receiving.receiver.inbox.credit) _ _
      (λ _. row b _ _ _ i (got_in o.halves new h g) tt)
      (λ _. row b _ _ _ i (got_in o.halves new h g) (ak_in is_address new g))

  waiting_row : (b : EndRecord) (w : InAkWait) (x : Sendings) → BaseInOctets is_address b → AreOctets w.octets × HalvesInOctets is_address w.halves → SendsInOctets is_address x
      → RowInOctets (record { base = b; stage = AkWait (record w { halves = record w.halves { sending = x.sender } }); events = x.events; tpdus = x.tpdus })
  waiting_row b w x i h s = row b _ _ _ i (h.0, sent_in w.halves x h.1 s) s.tpdus

  call_row : (b : EndRecord) (stage : StateData) (call : UserCall) → BaseInOctets is_address b → IsTimed b.timers → StageInOctets is_address stage → CallInOctets is_address call
      → RowInOctets (on_call b stage call)
  call_row b (CrWait w) (Disconnect octets) i timed h c = row b _ _ _ i (h, c) tt
  call_row b (CrWait w) other i timed h c = row b _ _ _ i h tt
  call_row b (WaitBeforeClose w) call i timed h c = row b _ _ _ i h tt
  call_row b (UserWait since) (Accept asked octets) i timed h c = accepted_row b asked octets i timed c
  call_row b (UserWait since) (Refuse octets) i timed h c = refused_row b octets i c
  call_row b (UserWait since) other i timed h c = row b _ _ _ i tt tt
  call_row b (AkWait w) (Normal unit) i timed h c =
      waiting_row b w _ i h (submitted_in is_address (at b.clock w.halves.sending) unit (clock_in is_address b.clock w.halves.sending h.1.sending) c)
  call_row b (AkWait w) (Urgent unit) i timed h c =
      waiting_row b w _ i h (urged_in is_address (at b.clock w.halves.sending) unit (clock_in is_address b.clock w.halves.sending h.1.sending) c)
  call_row b (AkWait w) (Disconnect octets) i timed h c = closing_row b [] 128 octets w.first i (omega arith) c
  call_row b (AkWait w) other i timed h c = row b _ _ _ i h tt
  call_row b (Opened o) (Normal unit) i timed h c =
      sending_row b o _ i h (submitted_in is_address (at b.clock o.halves.sending) unit (clock_in is_address b.clock o.halves.sending h.sending) c)
  call_row b (Opened o) (Urgent unit) i timed h c =
      sending_row b o _ i h (urged_in is_address (at b.clock o.halves.sending) unit (clock_in is_address b.clock o.halves.sending h.sending) c)
  call_row b (Opened o) (Window credit) i timed h c = granting_row b o credit i h
  call_row b (Opened o) (Disconnect octets) i timed h c = closing_row b [] 128 octets b.clock i (omega arith) c
  call_row b (Opened o) other i timed h c = row b _ _ _ i h tt
  call_row b (Closing x) call i timed h c = row b _ _ _ i h tt
  call_row b (Frozen when) call i timed h c = row b _ _ _ i tt tt

  -- ---- one end

  pub called_in : (wrap : ℕ → ℕ → ℕ) (now : ℕ) (e : End) (call : UserCall) → EndInOctets is_address e → IsTimed e.base.timers → CallInOctets is_address call
      → RowInOctets (stepped wrap now e (Called call))
  called_in wrap now e call i timed c = call_row (base_at now e.base) e.stage call (at_in now e.base i.base) timed i.stage c

  pub took_in : (wrap : ℕ → ℕ → ℕ) (now : ℕ) (e : End) (tpdu : Tpdu) (sum : Bool) → EndInOctets is_address e → IsTimed e.base.timers → HasOctets tpdu
      → RowInOctets (stepped wrap now e (Took tpdu sum))
  took_in wrap now e tpdu sum i timed t =
      if_kept RowInOctets (wants_sum e.base e.stage tpdu && not sum) _ _
      (λ _. row e.base e.stage _ [] i.base i.stage tt)
      (λ _. tpdu_row wrap (base_at now e.base) e.stage tpdu (at_in now e.base i.base) timed i.stage t)

  pub ticked_end_in : (wrap : ℕ → ℕ → ℕ) (now : ℕ) (e : End) → EndInOctets is_address e → RowInOctets (stepped wrap now e Ticked)
  ticked_end_in wrap now e i = tick_row (base_at now e.base) e.stage (at_in now e.base i.base) i.stage

  -- ---- an end that is made

  pub connected_in : (now : ℕ) (call : ConnectCall) → ConnectInOctets is_address call → RowInOctets (connected now call)
  connected_in now call c =
      let i : BaseInOctets is_address (caller now call) = record { own = c.own; partner = omega arith; to = c.to; calling = c.from_selector; called = c.to_selector } in
      row (caller now call) _ _ _ i c.octets (request_in (caller now call) call.request.octets i c.octets)

  pub indicated_in : (now own : ℕ) (from : List ℕ) (rules : Timers) (tpdu : Tpdu) (m : Moved) → IsPair own → is_address from ≡ true → HasOctets tpdu
      → on_cr now own from rules tpdu ≡ Some m → RowInOctets m
  indicated_in now own from rules (Cr credit source width calling called size preferred extra version classes ack_time text) m low address t e =
      subst RowInOctets (same_Some _ _ e)
      (row (called_end now own from rules credit source calling called (proposed_in width size preferred extra)) _ _ [] (record { own = low; partner = t.0; to = address; calling = t.1; called = t.2 }) tt tt)
  indicated_in now own from rules other m low address t e = absurd (none-some _ e)
