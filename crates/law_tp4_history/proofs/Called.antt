-- The rows of a called end until it is open: UserWait and AkWait.
use Rattle.std.proofs.Common.{◌≡◌, ◌≢◌, inl, inr, ℕ, ◌+◌, ◌≤◌, true, false, nat_lt, List, [], ◌∷◌, Option, Some, None, option_map, refl, sym, ◌∙◌, subst, arith}
use Rattle.std.proofs.lemmas.Bool.{ltb-true}
use Rattle.tpdu.specs.declared.tpdu.Tpdu.{Tpdu as WireTpdu}
use Rattle.tpdu.specs.declared.tpdu.Tpdu.TheVariants as wires
use Rattle.tpdu.specs.declared.service.Options.{Options}
use Rattle.tp4_number.proofs.Past.{if_kept}
use Rattle.tp4_flow.specs.declared.step.EndEvent.{EndEvent}
use Rattle.tp4_flow.specs.declared.step.Sent.{Sent}
use Rattle.tp4_sending.specs.SendingHalf.{Sendings, at, opened}
use Rattle.tp4_sending.specs.Pieces.{once, again}
use Rattle.tp4_conn.specs.declared.end_record.EndRecord.{EndRecord}
use Rattle.tp4_conn.specs.declared.states.InAkWait.{InAkWait}
use Rattle.tp4_conn.specs.declared.states.StateData.TheVariants as stages
use Rattle.tp4_conn.specs.Agreeing.{agreed_by, confirms_again, flow_rules, halves_of}
use Rattle.tp4_conn.specs.AkWait.{opening, queueing, ak_wait_tpdu, ak_wait_tick, ak_wait_normal, ak_wait_urgent, ak_wait_disconnect}
use Rattle.tp4_conn.specs.End.{IsProposal, IsSized, span, stays, frozen}
use Rattle.tp4_conn.specs.Proper.{HasSize}
use Rattle.tp4_conn.specs.UserWait.{refusing, user_wait_accept, user_wait_refuse, user_wait_tick}
use Rattle.tp4_conn.proofs.Sizes.{agreed_sized}
use Rattle.law_tp4_history.specs.Ends.{Times, Dr, Flow, Tpdu, End, Alone, Took, Accepts}
use Rattle.law_tp4_history.specs.Moves.{Sees, Moves}
use Rattle.law_tp4_history.specs.Seen.{terms_of, seen}
use Rattle.law_tp4_history.proofs.Halves.{Sends, opened_flows, submitted_flows, urged_flows, shut_submitted, shut_urged}
use Rattle.law_tp4_history.proofs.Offers.{AreOfferable, cc_offerable, refusal_offerable}
use Rattle.law_tp4_history.proofs.Opens.{tpdu_takes}
use Rattle.law_tp4_history.proofs.Rows.{alone_hears, took_hears, new_end, by_row, goes_to, freezes, closes, rests, once_more, dc_back}

module _ (times : Times) (h : End) (b : EndRecord) (since : ℕ) (s : Sees times b.clock h (record { base = b; stage = stages.UserWait since })) (going : h.stop ≡ None) (low : b.clock ≤ h.latest) where
  pub accepts : (asked : Options) (octets : List ℕ) → IsProposal b.proposed → IsSized asked → Moves times b.clock Alone h (user_wait_accept b asked octets)
  unfolding user_wait_accept
  accepts asked octets proposal sized =
      let o = agreed_by b.proposed asked in
      let c : EndRecord = record b { agreed = Some o } in
      let w : InAkWait = record { octets = octets; first = b.clock; tries = once b.clock; halves = halves_of c o } in
      let few = s.timers.sendings_least in
      by_row times h b (stages.UserWait since) s going low Alone b.partner b.credit (Some o) (stages.AkWait w) (b.clock + span b.timers) h.is_parted _ _ (record {
        known = inl refl;
        agrees = inr (s.state.unagreed, Accepts (s.is_called ∙ s.state.called));
        stops = tt;
        now_low = omega arith;
        latest_low = inl (omega (arith, s.timely, s.state.latest_is));
        parted_on = λ e. e;
        parted_in = s.parted;
        hears = alone_hears h (stages.AkWait w) (λ e. absurd cc);
        state = record {
          called = s.state.called;
          known = s.state.known;
          halves = record { terms = o; agreed = refl; sending = refl; receiving = refl };
          shut = refl;
          tries = record { runs = omega arith; few = omega (arith, few) };
          latest_is = refl;
        };
        timely = omega arith;
        offers = (cc_offerable times b.clock Alone h _ c o octets s.partner s.reference refl s.state.known (agreed_sized b.proposed asked proposal sized) refl, tt);
      })

  refuses : (events : List EndEvent) (octets : List ℕ) → Moves times b.clock Alone h (frozen b events (refusing b octets ∷ []))
  refuses events octets = freezes times h b (stages.UserWait since) s going low Alone events _ (refusal_offerable times b.clock Alone h _ b octets s.partner refl s.state.known, tt)

  pub user_refuses : (octets : List ℕ) → Moves times b.clock Alone h (user_wait_refuse b octets)
  unfolding user_wait_refuse
  user_refuses octets = refuses [] octets

  pub user_tick : Moves times b.clock Alone h (user_wait_tick b since)
  unfolding user_wait_tick
  user_tick =
      if_kept (Moves times b.clock Alone h) (nat_lt b.clock (since + b.timers.inactive)) _ _
      (λ _. rests times h b (stages.UserWait since) s going low)
      (λ _. refuses _ [])

module _ (times : Times) (h : End) (b : EndRecord) (w : InAkWait) (s : Sees times b.clock h (record { base = b; stage = stages.AkWait w })) (going : h.stop ≡ None) (low : b.clock ≤ h.latest) where
  -- the first flow TPDU: the end is open, and what was queued goes first
  opens : (wrap : ℕ → ℕ → ℕ) (n : ℕ) (tpdu : WireTpdu) → (seen n tpdu).kind ≡ Flow → Moves times b.clock (Took (seen n tpdu)) h (opening wrap b w.halves tpdu)
  opens wrap n tpdu kind =
      let rules = flow_rules b s.state.halves.terms in
      let y = opened (at b.clock w.halves.sending) in
      let sends : Sends rules true y = opened_flows rules (at b.clock w.halves.sending) s.state.halves.sending in
      tpdu_takes times h b (stages.AkWait w) s going low s.state.known s.parted (seen n tpdu) (λ _. inr (seen n tpdu, refl, kind)) (λ e. absurd (cc (e, s.phase))) y.events y.tpdus
      (record { took = b.clock; acked = b.clock; halves = record w.halves { sending = y.sender } })
      (record { terms = s.state.halves.terms; agreed = s.state.halves.agreed; sending = sends.ready.rules_are; receiving = s.state.halves.receiving }) refl sends.flows wrap n tpdu refl

  -- it waits on, whatever it took
  waits : (x : Tpdu) → x.kind ≢ Dr → Moves times b.clock (Took x) h (stays b (stages.AkWait w))
  waits x no_dr =
      goes_to times h b (stages.AkWait w) s going low (Took x) (stages.AkWait w) [] [] tt s.parted
      (took_hears h x (stages.AkWait w) (λ e. absurd (no_dr e)) (λ _ e. absurd (cc (e, s.phase))) (λ _ e. absurd cc)) s.state s.timely tt

  pub ak_tpdu : (wrap : ℕ → ℕ → ℕ) (n : ℕ) (tpdu : WireTpdu) → Moves times b.clock (Took (seen n tpdu)) h (ak_wait_tpdu wrap b w tpdu)
  unfolding ak_wait_tpdu
  ak_tpdu wrap n (wires.Ak destination number credit subsequence confirmation) = opens wrap n (wires.Ak destination number credit subsequence confirmation) refl
  ak_tpdu wrap n (wires.Dt destination last number text) = opens wrap n (wires.Dt destination last number text) refl
  ak_tpdu wrap n (wires.Ed destination last number text) = opens wrap n (wires.Ed destination last number text) refl
  ak_tpdu wrap n (wires.Ea destination number) = opens wrap n (wires.Ea destination number) refl
  ak_tpdu wrap n (wires.Dr destination source reason info text) =
      let x = seen n (wires.Dr destination source reason info text) in
      freezes times h b (stages.AkWait w) s going low (Took x) _ _ (dc_back times b.clock h _ b source x s.partner refl refl)
  ak_tpdu wrap n (wires.Er destination why rejected) =
      let x = seen n (wires.Er destination why rejected) in
      closes times h b (stages.AkWait w) s going low (Took x) b.partner w.first 133 [] [] _ [] (inl refl) s.state.known (omega (arith, low, s.state.latest_is)) (inl (omega (arith, s.state.latest_is)))
      (λ to phase. took_hears h x to (λ e. absurd cc) (λ e. absurd cc) (λ _ e. absurd (cc (e, phase))))
      (λ _ _. tt)
  ak_tpdu wrap n other = waits (seen n other) (λ e. absurd cc)

  again_offerable : (new : End) (agreed : Option Options) → HasSize agreed → new.known ≡ b.partner → new.agreed ≡ option_map terms_of agreed → AreOfferable times b.clock Alone h new (confirms_again b agreed w.octets)
  again_offerable new None size known is = tt
  again_offerable new (Some o) size known is = (cc_offerable times b.clock Alone h new b o w.octets s.partner s.reference known s.state.known size is, tt)

  pub ak_tick : HasSize b.agreed → Moves times b.clock Alone h (ak_wait_tick b w)
  unfolding ak_wait_tick
  ak_tick size =
      if_kept (Moves times b.clock Alone h) (nat_lt b.clock (w.tries.last + b.timers.t1)) _ _
      (λ _. rests times h b (stages.AkWait w) s going low)
      (λ _. if_kept (Moves times b.clock Alone h) (nat_lt w.tries.count b.timers.sendings) _ _
      (λ t. let few : w.tries.count + 1 ≤ b.timers.sendings = omega (arith, ltb-true _ _ t) in
      let to = stages.AkWait (record w { tries = again b.clock w.tries }) in
      goes_to times h b (stages.AkWait w) s going low Alone to [] (confirms_again b b.agreed w.octets) tt s.parted (alone_hears h to (λ e. absurd cc)) (record {
        called = s.state.called;
        known = s.state.known;
        halves = s.state.halves;
        shut = s.state.shut;
        tries = once_more b.timers w.first b.clock w.tries s.state.tries s.timely few;
        latest_is = s.state.latest_is;
      }) (omega arith) (again_offerable _ b.agreed size refl refl))
      (λ _. freezes times h b (stages.AkWait w) s going low Alone _ [] tt))

  -- what is queued is not sent
  queues : (y : Sendings) → Sends (flow_rules b s.state.halves.terms) false y → y.tpdus ≡ [] → Moves times b.clock Alone h (queueing b w y)
  queues y f none =
      let to = stages.AkWait (record w { halves = record w.halves { sending = y.sender } }) in
      goes_to times h b (stages.AkWait w) s going low Alone to y.events y.tpdus tt s.parted (alone_hears h to (λ e. absurd cc)) (record {
        called = s.state.called;
        known = s.state.known;
        halves = record { terms = s.state.halves.terms; agreed = s.state.halves.agreed; sending = f.ready.rules_are; receiving = s.state.halves.receiving };
        shut = f.ready.is_open;
        tries = s.state.tries;
        latest_is = s.state.latest_is;
      }) s.timely
      (subst (λ (ts : List Sent). AreOfferable times b.clock Alone h (new_end times h b (stages.AkWait w) s going low Alone b.partner b.agreed to h.latest h.is_parted) ts) (sym none) tt)

  pub normal_queued : (unit : List ℕ) → Moves times b.clock Alone h (ak_wait_normal b w unit)
  normal_queued unit = queues _ (submitted_flows (flow_rules b s.state.halves.terms) false (at b.clock w.halves.sending) unit (record { rules_are = s.state.halves.sending; is_open = s.state.shut }))
      (shut_submitted (at b.clock w.halves.sending) unit s.state.shut)

  pub urgent_queued : (unit : List ℕ) → Moves times b.clock Alone h (ak_wait_urgent b w unit)
  urgent_queued unit = queues _ (urged_flows (flow_rules b s.state.halves.terms) false (at b.clock w.halves.sending) unit (record { rules_are = s.state.halves.sending; is_open = s.state.shut }))
      (shut_urged (at b.clock w.halves.sending) unit s.state.shut)

  pub ak_parts : (octets : List ℕ) → Moves times b.clock Alone h (ak_wait_disconnect b w octets)
  ak_parts octets =
      closes times h b (stages.AkWait w) s going low Alone b.partner w.first 128 octets [] [] [] (inl refl) s.state.known (omega (arith, low, s.state.latest_is)) (inl (omega (arith, s.state.latest_is)))
      (λ to phase. alone_hears h to (λ e. absurd (cc (e, phase)))) (λ _ _. tt)
