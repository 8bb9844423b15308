-- The rows of an end that closes.
use Rattle.std.proofs.Common.{◌≡◌, ◌≢◌, ℕ, ◌+◌, ◌≤◌, nat_lt, nat_le, [], ◌∷◌, None, refl}
use Rattle.tpdu.specs.declared.tpdu.Tpdu.{Tpdu as WireTpdu}
use Rattle.tpdu.specs.declared.tpdu.Tpdu.TheVariants as wires
use Rattle.tp4_number.proofs.Past.{if_kept}
use Rattle.tp4_conn.specs.declared.end_record.EndRecord.{EndRecord}
use Rattle.tp4_conn.specs.declared.states.InClosing.{InClosing}
use Rattle.tp4_conn.specs.declared.states.StateData.TheVariants as stages
use Rattle.tp4_conn.specs.Closing.{closing_tpdu, closing_tick}
use Rattle.tp4_conn.specs.End.{span, stays, release}
use Rattle.law_tp4_history.specs.Ends.{Times, Dr, Dc, Tpdu, End, Alone, Took}
use Rattle.law_tp4_history.specs.Moves.{Sees, Moves}
use Rattle.law_tp4_history.specs.Seen.{seen}
use Rattle.law_tp4_history.proofs.Offers.{dr_offerable}
use Rattle.law_tp4_history.proofs.Rows.{alone_hears, took_hears, goes_to, freezes, rests}

module _ (times : Times) (h : End) (b : EndRecord) (c : InClosing) (s : Sees times b.clock h (record { base = b; stage = stages.Closing c })) (going : h.stop ≡ None) (low : b.clock ≤ h.latest) where
  ignores : (x : Tpdu) → x.kind ≢ Dr → x.kind ≢ Dc → Moves times b.clock (Took x) h (stays b (stages.Closing c))
  ignores x no_dr no_dc =
      goes_to times h b (stages.Closing c) s going low (Took x) (stages.Closing c) [] [] tt s.parted
      (took_hears h x (stages.Closing c) (λ e. absurd (no_dr e)) (λ e. absurd (no_dc e)) (λ _ e. absurd cc)) s.state s.timely tt

  pub closing_takes : (n : ℕ) (tpdu : WireTpdu) → Moves times b.clock (Took (seen n tpdu)) h (closing_tpdu b c tpdu)
  unfolding closing_tpdu
  closing_takes n (wires.Dc destination source) = freezes times h b (stages.Closing c) s going low (Took (seen n (wires.Dc destination source))) [] [] tt
  closing_takes n (wires.Dr destination source reason info text) =
      freezes times h b (stages.Closing c) s going low (Took (seen n (wires.Dr destination source reason info text))) [] [] tt
  closing_takes n other = ignores (seen n other) (λ e. absurd cc) (λ e. absurd cc)

  pub closing_ticks : Moves times b.clock Alone h (closing_tick b c)
  unfolding closing_tick
  closing_ticks =
      if_kept (Moves times b.clock Alone h) (nat_le (c.from + span b.timers) b.clock) _ _
      (λ _. freezes times h b (stages.Closing c) s going low Alone [] [] tt)
      (λ _. if_kept (Moves times b.clock Alone h) (nat_lt b.clock (c.last + b.timers.t1)) _ _
      (λ _. rests times h b (stages.Closing c) s going low)
      (λ _. let to = stages.Closing (record c { last = b.clock }) in
      goes_to times h b (stages.Closing c) s going low Alone to [] (release b c.reason c.octets ∷ []) tt s.parted (alone_hears h to (λ e. absurd cc))
      (record { known = s.state.known; latest_is = s.state.latest_is }) s.timely
      (dr_offerable times b.clock Alone h _ b c.reason c.octets s.partner s.reference refl s.state.known s.parted, tt)))
