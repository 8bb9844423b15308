-- The rows of a calling end whose partner has not answered: CrWait and WaitBeforeClose.
use Rattle.std.proofs.Common.{◌≡◌, ◌≢◌, inr, ℕ, ◌+◌, ◌-◌, ◌*◌, ◌≤◌, true, false, nat_lt, List, [], ◌∷◌, ◌++◌, Some, None, refl, sym, ◌∙◌, ap, subst, arith}
use Rattle.std.proofs.Math.Nat.{mul-le-mul_right}
use Rattle.std.proofs.lemmas.Bool.{ltb-true}
use Rattle.tpdu.specs.declared.tpdu.Tpdu.{Tpdu as WireTpdu}
use Rattle.tpdu.specs.declared.tpdu.Tpdu.TheVariants as wires
use Rattle.tp4_flow.specs.ReceivingHalf.{ak}
use Rattle.tpdu.specs.declared.service.Options.{Options}
use Rattle.tp4_number.proofs.Past.{if_kept}
use Rattle.tp4_flow.specs.declared.step.EndEvent.{EndEvent}
use Rattle.tp4_sending.specs.SendingHalf.{at, opened}
use Rattle.tp4_sending.specs.Pieces.{again}
use Rattle.tp4_sending.specs.declared.tries.Tries.{Tries}
use Rattle.tp4_conn.specs.declared.end_record.EndRecord.{EndRecord}
use Rattle.tp4_conn.specs.declared.states.InWaitBeforeClose.{InWaitBeforeClose}
use Rattle.tp4_conn.specs.declared.states.InCrWait.{InCrWait}
use Rattle.tp4_conn.specs.declared.states.StateData.TheVariants as stages
use Rattle.tp4_conn.specs.declared.timers.Timers.{Timers}
use Rattle.tp4_conn.specs.Agreeing.{options_in, is_within, flow_rules, halves_of, request}
use Rattle.tp4_conn.specs.CrWait.{confirmed, cr_wait_tpdu, cr_wait_tick, cr_wait_disconnect}
use Rattle.tp4_conn.specs.End.{span, closing}
use Rattle.tp4_conn.specs.Matching.{is_answer}
use Rattle.tp4_conn.specs.WaitBeforeClose.{wait_before_close_tpdu, wait_before_close_tick, again_parting}
use Rattle.law_tp4_history.specs.Ends.{Times, Cc, Terms, Tpdu, End, Alone, Took, Confirmed}
use Rattle.law_tp4_history.specs.Moves.{times_of, AreTries, Sees, Moves, HasSource}
use Rattle.law_tp4_history.specs.Seen.{terms_of, seen}
use Rattle.law_tp4_history.proofs.Halves.{Sends, flows_appended, ak_flow, opened_flows}
use Rattle.law_tp4_history.proofs.Offers.{cr_offerable, flows_offerable}
use Rattle.law_tp4_history.proofs.Rows.{alone_hears, took_hears, new_end, by_row, goes_to, freezes, closes, rests, once_more, dc_back}

pub never : {A : Type 0} → false ≡ true → A
never e = absurd cc

-- a CR that goes out again is in time
soon_again : (times : Times) (t : Timers) (from now : ℕ) (tries : Tries) → times ≡ times_of t → AreTries t from tries → now ≤ tries.last + t.t1 → tries.count + 1 ≤ t.sendings → now ≤ from + times.most
soon_again times t from now tries e h soon few =
    let all : tries.count * t.t1 ≤ (t.sendings - 1) * t.t1 = mul-le-mul_right t.t1 (omega (arith, few)) in
    subst (λ (x : Times). now ≤ from + x.most) (sym e) (omega (arith, h.runs, soon, all))

module _ (times : Times) (h : End) (b : EndRecord) (w : InCrWait) (s : Sees times b.clock h (record { base = b; stage = stages.CrWait w })) (going : h.stop ≡ None) (low : b.clock ≤ h.latest) where
  -- a CC within what was proposed
  within : (x : Tpdu) (source credit : ℕ) (o : Options) (text : List ℕ) → x.kind ≡ Cc → source ≡ x.source → x.terms ≡ terms_of o → source ≢ 0
      → Moves times b.clock (Took x) h (confirmed (record b { partner = source; credit = credit; agreed = Some o }) o text)
  within x source credit o text kind is terms some =
      let c = record b { partner = source; credit = credit; agreed = Some o } in
      let halves = halves_of c o in
      let y = opened (at b.clock halves.sending) in
      let sends : Sends (flow_rules c o) true y = opened_flows (flow_rules c o) (at b.clock halves.sending) refl in
      let to = stages.Opened (record { took = b.clock; acked = b.clock; halves = record halves { sending = y.sender } }) in
      let latest = b.clock + b.timers.inactive + span b.timers in
      let new = new_end times h b (stages.CrWait w) s going low (Took x) source (Some o) to latest h.is_parted in
      by_row times h b (stages.CrWait w) s going low (Took x) source credit (Some o) to latest h.is_parted _ _ (record {
        known = inr (s.state.unknown, (x, refl, kind, is));
        agrees = inr (s.state.unagreed, Confirmed x refl kind (ap (λ (t : Terms). Some t) (sym terms)));
        stops = tt;
        now_low = omega arith;
        latest_low = inr (omega arith);
        parted_on = λ e. e;
        parted_in = s.parted;
        hears = took_hears h x to (λ e. absurd (cc (e, kind))) (λ e. absurd (cc (e, kind))) (λ e. absurd (cc (e, s.is_called, s.state.calls)));
        state = record { known = some; halves = record { terms = o; agreed = refl; sending = sends.ready.rules_are; receiving = refl }; took_is = refl; latest_is = refl };
        timely = omega arith;
        offers = flows_offerable times b.clock (Took x) h new c o s.partner refl some refl (λ e. absurd (cc (e, s.is_called, s.state.calls))) (y.tpdus ++ ak halves.receiving ∷ [])
            (flows_appended (flow_rules c o) y.tpdus (ak halves.receiving ∷ []) sends.flows (ak_flow (flow_rules c o) halves.receiving refl, tt));
      })

  -- another one
  beyond : (x : Tpdu) (source reason : ℕ) (octets : List ℕ) (events : List EndEvent) → x.kind ≡ Cc → source ≡ x.source → source ≢ 0
      → Moves times b.clock (Took x) h (closing (record b { partner = source }) events reason octets b.clock)
  beyond x source reason octets events kind is some =
      closes times h b (stages.CrWait w) s going low (Took x) source b.clock reason octets [] events [] (inr (s.state.unknown, (x, refl, kind, is))) some (omega arith) (inr (omega arith))
      (λ to phase. took_hears h x to (λ e. absurd (cc (e, kind))) (λ e. absurd (cc (e, kind))) (λ _ e. absurd (cc (e, phase))))
      (λ _ _. tt)

  pub cr_tpdu : (n : ℕ) (tpdu : WireTpdu) → is_answer tpdu ≡ true → HasSource (seen n tpdu) → Moves times b.clock (Took (seen n tpdu)) h (cr_wait_tpdu b w tpdu)
  unfolding cr_wait_tpdu
  cr_tpdu n (wires.Cc credit destination source width calling called size preferred extra version classes ack_time text) fit has =
      let x = seen n (wires.Cc credit destination source width calling called size preferred extra version classes ack_time text) in
      if_kept (Moves times b.clock (Took x) h) (is_within b.proposed width size preferred extra) _ _
      (λ _. within x source credit (options_in width size preferred extra) text refl refl refl (has refl))
      (λ _. beyond x source 133 [] _ refl refl (has refl))
  cr_tpdu n (wires.Dr destination source reason info text) fit has =
      let x = seen n (wires.Dr destination source reason info text) in
      freezes times h b (stages.CrWait w) s going low (Took x) _ _ (dc_back times b.clock h _ b source x s.partner refl refl)
  cr_tpdu n other fit has = never fit

  pub cr_tick : Moves times b.clock Alone h (cr_wait_tick b w)
  unfolding cr_wait_tick
  cr_tick =
      if_kept (Moves times b.clock Alone h) (nat_lt b.clock (w.tries.last + b.timers.t1)) _ _
      (λ _. rests times h b (stages.CrWait w) s going low)
      (λ _. if_kept (Moves times b.clock Alone h) (nat_lt w.tries.count b.timers.sendings) _ _
      (λ t. let few : w.tries.count + 1 ≤ b.timers.sendings = omega (arith, ltb-true _ _ t) in
      let to = stages.CrWait (record w { tries = again b.clock w.tries }) in
      goes_to times h b (stages.CrWait w) s going low Alone to [] (request b w.octets ∷ []) tt s.parted (alone_hears h to (λ e. absurd cc)) (record {
        calls = s.state.calls;
        unknown = s.state.unknown;
        unagreed = s.state.unagreed;
        octets = s.state.octets;
        tries = once_more b.timers h.birth.made b.clock w.tries s.state.tries s.timely few;
        latest_is = s.state.latest_is;
      }) (omega arith) (
        cr_offerable times b.clock Alone h _ b w.octets (s.is_called ∙ s.state.calls) s.partner s.reference s.calling s.called s.state.octets
            (soon_again times b.timers h.birth.made b.clock w.tries s.times_are s.state.tries s.timely few),
        tt,
      ))
      (λ _. freezes times h b (stages.CrWait w) s going low Alone _ [] tt))

  pub cr_parts : (octets : List ℕ) → Moves times b.clock Alone h (cr_wait_disconnect b w octets)
  cr_parts octets =
      let to = stages.WaitBeforeClose (record { request = w; octets = octets }) in
      goes_to times h b (stages.CrWait w) s going low Alone to [] [] tt s.parted (alone_hears h to (λ e. absurd cc)) s.state s.timely tt

module _ (times : Times) (h : End) (b : EndRecord) (w : InWaitBeforeClose) (s : Sees times b.clock h (record { base = b; stage = stages.WaitBeforeClose w })) (going : h.stop ≡ None) (low : b.clock ≤ h.latest) where
  pub wait_tpdu : (n : ℕ) (tpdu : WireTpdu) → is_answer tpdu ≡ true → HasSource (seen n tpdu) → Moves times b.clock (Took (seen n tpdu)) h (wait_before_close_tpdu b w tpdu)
  unfolding wait_before_close_tpdu
  wait_tpdu n (wires.Cc credit destination source width calling called size preferred extra version classes ack_time text) fit has =
      let x = seen n (wires.Cc credit destination source width calling called size preferred extra version classes ack_time text) in
      closes times h b (stages.WaitBeforeClose w) s going low (Took x) source b.clock 128 w.octets [] [] [] (inr (s.state.unknown, (x, refl, refl, refl))) (has refl) (omega arith) (inr (omega arith))
      (λ to phase. took_hears h x to (λ e. absurd cc) (λ e. absurd cc) (λ _ e. absurd (cc (e, phase))))
      (λ _ _. tt)
  wait_tpdu n (wires.Dr destination source reason info text) fit has =
      let x = seen n (wires.Dr destination source reason info text) in
      freezes times h b (stages.WaitBeforeClose w) s going low (Took x) _ _ (dc_back times b.clock h _ b source x s.partner refl refl)
  wait_tpdu n other fit has = never fit

  pub wait_tick : Moves times b.clock Alone h (wait_before_close_tick b w)
  unfolding wait_before_close_tick
  wait_tick =
      if_kept (Moves times b.clock Alone h) (nat_lt b.clock (w.request.tries.last + b.timers.t1)) _ _
      (λ _. rests times h b (stages.WaitBeforeClose w) s going low)
      (λ _. if_kept (Moves times b.clock Alone h) (nat_lt w.request.tries.count b.timers.sendings) _ _
      (λ t. let few : w.request.tries.count + 1 ≤ b.timers.sendings = omega (arith, ltb-true _ _ t) in
      let to = stages.WaitBeforeClose (again_parting b w) in
      goes_to times h b (stages.WaitBeforeClose w) s going low Alone to [] (request b w.request.octets ∷ []) tt s.parted (alone_hears h to (λ e. absurd cc)) (record {
        calls = s.state.calls;
        unknown = s.state.unknown;
        unagreed = s.state.unagreed;
        octets = s.state.octets;
        tries = once_more b.timers h.birth.made b.clock w.request.tries s.state.tries s.timely few;
        latest_is = s.state.latest_is;
      }) (omega arith) (
        cr_offerable times b.clock Alone h _ b w.request.octets (s.is_called ∙ s.state.calls) s.partner s.reference s.calling s.called s.state.octets
            (soon_again times b.timers h.birth.made b.clock w.request.tries s.times_are s.state.tries s.timely few),
        tt,
      ))
      (λ _. freezes times h b (stages.WaitBeforeClose w) s going low Alone _ [] tt))
