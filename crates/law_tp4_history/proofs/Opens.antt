-- The rows of an open end. A TPDU that it takes may be the one by which it opened; then the new sends of what was queued go first.
use Rattle.std.proofs.Common.{◌≡◌, ◌≢◌, inl, inr, ℕ, ◌+◌, ◌≤◌, Bool, true, false, ◌==◌, nat_le, List, [], ◌∷◌, ◌++◌, None, option_map, refl, sym, ◌∙◌, ap, subst, arith}
use Rattle.tpdu.specs.declared.tpdu.Tpdu.{Tpdu as WireTpdu}
use Rattle.tpdu.specs.declared.tpdu.Tpdu.TheVariants as wires
use Rattle.tp4_number.specs.declared.got.Got.{Got}
use Rattle.tp4_number.specs.declared.got.Got.TheVariants as gots
use Rattle.tp4_number.specs.declared.piece.Piece.{Piece}
use Rattle.tp4_number.proofs.Past.{if_kept}
use Rattle.tp4_flow.specs.ReceivingHalf.{Half, Received, ak, aks, dt_arrival, taken_dt, half_granted}
use Rattle.tpdu.specs.declared.service.Options.{Options}
use Rattle.tp4_flow.specs.declared.rules.Life.{Life}
use Rattle.tp4_flow.specs.declared.rules.Life.TheVariants.{Goes, Exhausted}
use Rattle.tp4_flow.specs.declared.step.EndEvent.{EndEvent}
use Rattle.tp4_flow.specs.declared.step.Sent.{Sent}
use Rattle.tp4_sending.specs.SendingHalf.{Sendings, at, acknowledged, urgent_done, life_of, ticked}
use Rattle.tp4_conn.specs.declared.end_record.EndRecord.{EndRecord}
use Rattle.tp4_conn.specs.declared.halves.Halves.{Halves}
use Rattle.tp4_conn.specs.declared.states.InOpened.{InOpened}
use Rattle.tp4_conn.specs.declared.states.StateData.{StateData}
use Rattle.tp4_conn.specs.declared.states.StateData.TheVariants as stages
use Rattle.tp4_conn.specs.Agreeing.{flow_rules}
use Rattle.tp4_conn.specs.End.{Moved, span, led_by, confirms, closing}
use Rattle.tp4_conn.specs.Opened.{hearing, sending, acking, dt_as, is_expedited, opened_tpdu, opened_normal, opened_urgent, opened_window, opened_disconnect, opened_as, opened_tick, protocol_error}
use Rattle.law_tp4_history.specs.Ends.{Times, Dr, Tpdu, Closing, End, Cause, Alone, Took, took_by, IsOpen}
use Rattle.law_tp4_history.specs.Moves.{AreOwn, Sees, Moves}
use Rattle.law_tp4_history.specs.Seen.{terms_of, seen}
use Rattle.law_tp4_history.proofs.Halves.{AreFlows, flows_appended, Sends, submitted_flows, urged_flows, acknowledged_flows, done_flows, ticked_flows, ak_flow, aks_flow, ea_flows, ed_rules}
use Rattle.law_tp4_history.proofs.Offers.{AreOfferable, offerable_appended, flows_offerable}
use Rattle.law_tp4_history.proofs.Rows.{Hears, alone_hears, took_hears, new_end, by_row, freezes, closes, told, dc_back}

-- the halves after a call
abbrev sent_own : (b : EndRecord) (halves : Halves) (own : AreOwn b halves) (x : Sendings) → x.sender.rules ≡ flow_rules b own.terms → AreOwn b (record halves { sending = x.sender })
sent_own b halves own x e = record { terms = own.terms; agreed = own.agreed; sending = e; receiving = own.receiving }

abbrev got_own : (b : EndRecord) (halves : Halves) (own : AreOwn b halves) (half : Half) → half.rules ≡ flow_rules b own.terms → AreOwn b (record halves { receiving = half })
got_own b halves own half e = record { terms = own.terms; agreed = own.agreed; sending = own.sending; receiving = e }

-- an end that is seen of b, knows its partner and has not parted
module _ (times : Times) (h : End) (b : EndRecord) (stage : StateData) (s : Sees times b.clock h (record { base = b; stage = stage })) (going : h.stop ≡ None) (low : b.clock ≤ h.latest)
    (some : b.partner ≢ 0) (unparted : h.is_parted ≡ false) where
  -- it is open after the row
  goes : (cause : Cause) (to : InOpened) (latest : ℕ) (events : List EndEvent) (tpdus : List Sent) (own : AreOwn b to.halves)
      → (h.birth.is_called ≡ true → IsOpen cause h) → Hears cause h (stages.Opened to) → to.took ≡ took_by cause h.took b.clock
      → latest ≡ took_by cause h.took b.clock + b.timers.inactive + span b.timers → b.clock ≤ to.took + b.timers.inactive → AreFlows (flow_rules b own.terms) tpdus
      → Moves times b.clock cause h (record { base = b; stage = stages.Opened to; events = events; tpdus = tpdus })
  goes cause to latest events tpdus own is_open hears took latest_is soon flows =
      let new = new_end times h b stage s going low cause b.partner b.agreed (stages.Opened to) latest h.is_parted in
      by_row times h b stage s going low cause b.partner b.credit b.agreed (stages.Opened to) latest h.is_parted events tpdus (record {
        known = inl refl;
        agrees = inl refl;
        stops = tt;
        now_low = omega (arith, took, latest_is, soon);
        latest_low = inr (omega (arith, latest_is));
        parted_on = λ e. e;
        parted_in = unparted;
        hears = hears;
        state = record { known = some; halves = own; took_is = took; latest_is = latest_is };
        timely = soon;
        offers = flows_offerable times b.clock cause h new b own.terms s.partner refl some (ap (option_map terms_of) own.agreed) is_open tpdus flows;
      })

  -- it takes a TPDU now, after these sends of the open end o
  module _ (x : Tpdu) (is_open : h.birth.is_called ≡ true → IsOpen (Took x) h) (not_closing : h.phase ≡ Closing → ⊥) (first : List EndEvent) (front : List Sent)
      (o : InOpened) (own : AreOwn b o.halves) (now : o.took ≡ b.clock) (flows : AreFlows (flow_rules b own.terms) front) where
    hears_open : (to : StateData) → x.kind ≢ Dr → Hears (Took x) h to
    hears_open to no_dr = took_hears h x to (λ e. absurd (no_dr e)) (λ _ e. absurd (not_closing e)) (λ called _. is_open called)

    takes : (to : InOpened) (events : List EndEvent) (tpdus : List Sent) (new : AreOwn b to.halves) → x.kind ≢ Dr → to.took ≡ b.clock → new.terms ≡ own.terms → AreFlows (flow_rules b own.terms) tpdus
        → Moves times b.clock (Took x) h (led_by first front (record { base = b; stage = stages.Opened to; events = events; tpdus = tpdus }))
    takes to events tpdus new no_dr took same sent =
        goes (Took x) to (b.clock + b.timers.inactive + span b.timers) (first ++ events) (front ++ tpdus) new is_open (hears_open (stages.Opened to) no_dr) took refl (omega (arith, took))
        (subst (λ (t : Options). AreFlows (flow_rules b t) (front ++ tpdus)) (sym same) (flows_appended (flow_rules b own.terms) front tpdus flows sent))

    front_offerable : (to : StateData) (latest : ℕ) (parted : Bool)
        → AreOfferable times b.clock (Took x) h (new_end times h b stage s going low (Took x) b.partner b.agreed to latest parted) front
    front_offerable to latest parted =
        flows_offerable times b.clock (Took x) h (new_end times h b stage s going low (Took x) b.partner b.agreed to latest parted) b own.terms s.partner refl some
        (ap (option_map terms_of) own.agreed) is_open front flows

    errs : (events : List EndEvent) → x.kind ≢ Dr → Moves times b.clock (Took x) h (led_by first front (led_by events [] (protocol_error b)))
    errs events no_dr =
        closes times h b stage s going low (Took x) b.partner b.clock 133 [] first _ front (inl refl) some (omega arith) (inr (omega arith))
        (λ to _. hears_open to no_dr) (λ to latest. front_offerable to latest true)

    dt_takes : (got : Got) (r : Received) → x.kind ≢ Dr → r.half.rules ≡ flow_rules b own.terms → AreFlows (flow_rules b own.terms) r.tpdus → (got ≡ gots.TooLarge → r.tpdus ≡ [])
        → Moves times b.clock (Took x) h (led_by first front (dt_as got b o r))
    dt_takes gots.TooLarge r no_dr rules sent none =
        told times b.clock (Took x) h _ _ _ (ap (λ (ts : List Sent). front ++ (ts ++ (protocol_error b).tpdus)) (sym (none refl))) (errs r.events no_dr)
    dt_takes other r no_dr rules sent none = takes _ _ _ (got_own b o.halves own r.half rules) no_dr now refl sent

    too_large : (got : Got) (h_ : Half) → got ≡ gots.TooLarge → aks got h_ ≡ []
    too_large got h_ e = subst (λ (g : Got). aks g h_ ≡ []) (sym e) refl

    pub tpdu_takes : (wrap : ℕ → ℕ → ℕ) (n : ℕ) (tpdu : WireTpdu) → x ≡ seen n tpdu → Moves times b.clock (Took x) h (led_by first front (opened_tpdu wrap b o tpdu))
    unfolding opened_tpdu
    tpdu_takes wrap n (wires.Cr credit source width calling called size preferred extra version classes ack_time text) is =
        takes o [] [] own (λ e. absurd (cc (e, ap (λ (t : Tpdu). t.kind) is))) now refl tt
    tpdu_takes wrap n (wires.Cc credit destination source width calling called size preferred extra version classes ack_time text) is =
        takes (acking b o) [] (ak o.halves.receiving ∷ []) own (λ e. absurd (cc (e, ap (λ (t : Tpdu). t.kind) is))) now refl (ak_flow (flow_rules b own.terms) o.halves.receiving own.receiving, tt)
    tpdu_takes wrap n (wires.Dr destination source reason info text) is =
        freezes times h b stage s going low (Took x) _ (front ++ confirms b source)
        (offerable_appended times b.clock (Took x) h _ front (confirms b source) (front_offerable (stages.Frozen b.clock) h.latest h.is_parted)
        (dc_back times b.clock h _ b source x s.partner (ap (λ (t : Tpdu). t.kind) is) (ap (λ (t : Tpdu). t.source) is)))
    tpdu_takes wrap n (wires.Dc destination source) is = takes o [] [] own (λ e. absurd (cc (e, ap (λ (t : Tpdu). t.kind) is))) now refl tt
    tpdu_takes wrap n (wires.Er destination why rejected) is = errs [] (λ e. absurd (cc (e, ap (λ (t : Tpdu). t.kind) is)))
    tpdu_takes wrap n (wires.Dt destination last number text) is =
        let piece : Piece = record { last = last; octets = text } in
        let r = taken_dt wrap o.halves.receiving number piece in
        let got = (dt_arrival o.halves.receiving number piece).got in
        dt_takes got r (λ e. absurd (cc (e, ap (λ (t : Tpdu). t.kind) is))) own.receiving (aks_flow (flow_rules b own.terms) got r.half own.receiving) (too_large got r.half)
    tpdu_takes wrap n (wires.Ed destination last number text) is =
        let rules = flow_rules b own.terms in
        if_kept (λ (m : Moved). Moves times b.clock (Took x) h (led_by first front m)) (is_expedited b.agreed) _ _
        (λ _. takes _ _ _ (got_own b o.halves own _ (ed_rules rules wrap o.halves.receiving number text own.receiving)) (λ e. absurd (cc (e, ap (λ (t : Tpdu). t.kind) is))) now refl
        (ea_flows rules wrap o.halves.receiving number text own.receiving))
        (λ _. errs [] (λ e. absurd (cc (e, ap (λ (t : Tpdu). t.kind) is))))
    tpdu_takes wrap n (wires.Ak destination number credit subsequence confirmation) is =
        let rules = flow_rules b own.terms in
        let y = acknowledged (at b.clock o.halves.sending) number credit subsequence in
        let sends : Sends rules o.halves.sending.is_open y =
        acknowledged_flows rules o.halves.sending.is_open (at b.clock o.halves.sending) number credit subsequence (record { rules_are = own.sending; is_open = refl }) in
        takes _ _ _ (sent_own b o.halves own y sends.ready.rules_are) (λ e. absurd (cc (e, ap (λ (t : Tpdu). t.kind) is))) now refl sends.flows
    tpdu_takes wrap n (wires.Ea destination number) is =
        let rules = flow_rules b own.terms in
        let y = urgent_done (at b.clock o.halves.sending) number in
        let sends : Sends rules o.halves.sending.is_open y = done_flows rules o.halves.sending.is_open (at b.clock o.halves.sending) number (record { rules_are = own.sending; is_open = refl }) in
        takes _ _ _ (sent_own b o.halves own y sends.ready.rules_are) (λ e. absurd (cc (e, ap (λ (t : Tpdu). t.kind) is))) now refl sends.flows

-- an open end
module _ (times : Times) (h : End) (b : EndRecord) (o : InOpened) (s : Sees times b.clock h (record { base = b; stage = stages.Opened o })) (going : h.stop ≡ None) (low : b.clock ≤ h.latest) where
  pub opened_takes : (wrap : ℕ → ℕ → ℕ) (n : ℕ) (tpdu : WireTpdu) → Moves times b.clock (Took (seen n tpdu)) h (opened_tpdu wrap b (hearing b o) tpdu)
  opened_takes wrap n tpdu = tpdu_takes times h b (stages.Opened o) s going low s.state.known s.parted (seen n tpdu) (λ _. inl s.phase) (λ e. absurd (cc (e, s.phase))) [] [] (hearing b o)
      (record { terms = s.state.halves.terms; agreed = s.state.halves.agreed; sending = s.state.halves.sending; receiving = s.state.halves.receiving }) refl tt wrap n tpdu refl

  -- it goes on by itself
  alone : (to : InOpened) (events : List EndEvent) (tpdus : List Sent) (own : AreOwn b to.halves) → to.took ≡ o.took → own.terms ≡ s.state.halves.terms → AreFlows (flow_rules b s.state.halves.terms) tpdus
      → Moves times b.clock Alone h (record { base = b; stage = stages.Opened to; events = events; tpdus = tpdus })
  alone to events tpdus own took same sent =
      goes times h b (stages.Opened o) s going low s.state.known s.parted Alone to h.latest events tpdus own (λ _. inl s.phase) (alone_hears h (stages.Opened to) (λ _. s.phase)) (took ∙ s.state.took_is)
      s.state.latest_is (omega (arith, s.timely, took)) (subst (λ (t : Options). AreFlows (flow_rules b t) tpdus) (sym same) sent)

  sends : (y : Sendings) → Sends (flow_rules b s.state.halves.terms) o.halves.sending.is_open y → Moves times b.clock Alone h (sending b o y)
  sends y f = alone _ _ _ (sent_own b o.halves s.state.halves y f.ready.rules_are) refl refl f.flows

  pub normal_sent : (unit : List ℕ) → Moves times b.clock Alone h (opened_normal b o unit)
  normal_sent unit = sends _ (submitted_flows (flow_rules b s.state.halves.terms) o.halves.sending.is_open (at b.clock o.halves.sending) unit (record { rules_are = s.state.halves.sending; is_open = refl }))

  pub urgent_sent : (unit : List ℕ) → Moves times b.clock Alone h (opened_urgent b o unit)
  urgent_sent unit = sends _ (urged_flows (flow_rules b s.state.halves.terms) o.halves.sending.is_open (at b.clock o.halves.sending) unit (record { rules_are = s.state.halves.sending; is_open = refl }))

  pub credit_granted : (credit : ℕ) → Moves times b.clock Alone h (opened_window b o credit)
  credit_granted credit =
      let new = half_granted o.halves.receiving credit in
      let own = got_own b o.halves s.state.halves new s.state.halves.receiving in
      if_kept (Moves times b.clock Alone h) (new.receiver.inbox.credit == o.halves.receiving.receiver.inbox.credit) _ _
      (λ _. alone _ _ _ own refl refl tt)
      (λ _. alone _ _ _ own refl refl (ak_flow (flow_rules b s.state.halves.terms) new s.state.halves.receiving, tt))

  -- it parts by itself
  ends : (events : List EndEvent) (octets : List ℕ) → Moves times b.clock Alone h (closing b events 128 octets b.clock)
  ends events octets =
      closes times h b (stages.Opened o) s going low Alone b.partner b.clock 128 octets [] events [] (inl refl) s.state.known (omega arith)
      (inl (omega (arith, s.timely, s.state.latest_is, s.state.took_is))) (λ to phase. alone_hears h to (λ e. absurd (cc (e, phase)))) (λ _ _. tt)

  pub opened_parts : (octets : List ℕ) → Moves times b.clock Alone h (opened_disconnect b octets)
  opened_parts octets = ends [] octets

  opened_on : (life : Life) → Moves times b.clock Alone h (opened_as life b o)
  opened_on Exhausted = ends _ []
  opened_on Goes =
      let rules = flow_rules b s.state.halves.terms in
      let y = ticked (at b.clock o.halves.sending) in
      let f : Sends rules o.halves.sending.is_open y = ticked_flows rules o.halves.sending.is_open (at b.clock o.halves.sending) (record { rules_are = s.state.halves.sending; is_open = refl }) in
      if_kept (Moves times b.clock Alone h) (nat_le (o.acked + b.timers.window) b.clock) _ _
      (λ _. alone _ _ _ (sent_own b o.halves s.state.halves y f.ready.rules_are) refl refl
      (flows_appended rules y.tpdus _ f.flows (ak_flow rules o.halves.receiving s.state.halves.receiving, tt)))
      (λ _. sends y f)

  pub opened_ticks : Moves times b.clock Alone h (opened_tick b o)
  unfolding opened_tick
  opened_ticks =
      if_kept (Moves times b.clock Alone h) (nat_le (o.took + b.timers.inactive) b.clock) _ _
      (λ _. ends _ [])
      (λ _. opened_on (life_of (at b.clock o.halves.sending)))
