-- The sendings again of a tick are happenings of the line: each DT that is due, and then the ED.
use Rattle.std.proofs.Common.{◌≡◌, ℕ, ◌+◌, ◌-◌, ◌<◌, ◌≤◌, true, if◌then◌else◌, List, [], ◌∷◌, ◌++◌, length, Option, Some, None, refl, sym, ◌∙◌, arith, append-nil}
use Rattle.std.proofs.lemmas.List.{length-map}
use Rattle.std.proofs.lemmas.List.Elements.{Contains-push}
use Rattle.tp4_number.specs.declared.blocks.Blocks.{Blocks}
use Rattle.tp4_number.specs.Sender.{marked}
use Rattle.tp4_number.specs.Traffic.{Resend}
use Rattle.tp4_number.specs.Expedited.{Resends_ed}
use Rattle.tp4_number.proofs.Past.{if_kept}
use Rattle.tp4_flow.specs.declared.rules.Life.{Life}
use Rattle.tp4_flow.specs.declared.rules.Life.TheVariants.{Goes as Going, Exhausted}
use Rattle.tp4_sending.specs.SendingHalf.{FlowSender, Sendings, then_sends, block_in, dts_of, eds, marked_all, all_dts, due_numbers, resends, retried_urgent, resends_urgent_as, resends_urgent, new_sends, ticked_as, life_of, ticked}
use Rattle.tp4_sending.specs.Kept.{urgent_base}
use Rattle.tp4_sending.specs.Pieces.{is_due, again, due_from}
use Rattle.tp4_sending.specs.declared.tries.Tries.{Tries}
use Rattle.law_tp4_history.specs.Ends.{Offer}
use Rattle.law_tp4_history.specs.Line.{Flows, Expedites}
use Rattle.law_tp4_history.specs.Tracks.{Track}
use Rattle.law_tp4_history.proofs.FlowOut.{Around, line_at, Fits, Goes, goes_nothing, of_urgent, of_window, then_goes}
use Rattle.law_tp4_history.proofs.FlowSends.{piece_of_all, dt_sent_in, ed_sent_in, new_goes}

-- numbers that are not acknowledged
abbrev AreWithin : ℕ → ℕ → List ℕ → Type 0
AreWithin low high [] = Unit {0}
AreWithin low high (n ∷ ns) = (low ≤ n) × (n < high) × AreWithin low high ns

due_within : (t1 now low high n : ℕ) (window : List Tries) → low ≤ n → length window + n ≤ high → AreWithin low high (due_from t1 now n window)
due_within t1 now low high n [] up end = tt
due_within t1 now low high n (tries ∷ window) up end =
    let rest = due_within t1 now low high (n + 1) window (omega (arith, up)) (omega (arith, end)) in
    if_kept (AreWithin low high) (is_due t1 now tries) _ _ (λ _. (up, omega (arith, end), rest)) (λ _. rest)

-- the half with these blocks
abbrev marked_half : FlowSender → Blocks → FlowSender
marked_half s b = record s { numbers = record s.numbers { blocks = b } }

module _ (t : Track) (begun : t.is_begun ≡ true) (life : ℕ) (taken : Option Offer) where
  one_again : (s : FlowSender) (b : Blocks) (a : Around) (n : ℕ) → Fits (marked_half s b) a → s.numbers.base ≤ n → n < s.numbers.next
      → Goes t life taken (marked_half s b) a (record { sender = marked_half s (marked (block_in s) b n s.clock); events = []; tpdus = dts_of s n }) []
  one_again s b a n f low high =
      let c : Around = record a { sends = a.sends ++ (n, s.clock) ∷ []; shown = a.shown ++ [] } in
      record {
        around = c;
        happenings = Flows (Resend n) ∷ [];
        runs = ((low, high), refl);
        fits = f;
        rules = refl;
        clock = refl;
        gave = sym (append-nil a.submitted);
        quiet = refl;
        sent = λ theirs. dt_sent_in t begun life taken s a c (marked_half s (marked (block_in s) b n s.clock)) n theirs (Contains-push a.sends (n, s.clock))
            (piece_of_all (marked_half s b) a n f (omega (arith, low, f.first)));
      }

  all_again : (s : FlowSender) (ns : List ℕ) (b : Blocks) (a : Around) → Fits (marked_half s b) a → AreWithin s.numbers.base s.numbers.next ns
      → Goes t life taken (marked_half s b) a (record { sender = marked_half s (marked_all (block_in s) s.clock b ns); events = []; tpdus = all_dts s ns }) []
  all_again s [] b a f w = goes_nothing t life taken (marked_half s b) a f
  all_again s (n ∷ ns) b a f w =
      let first = marked (block_in s) b n s.clock in
      then_goes t life taken (marked_half s b) a (record { sender = marked_half s first; events = []; tpdus = dts_of s n }) [] []
      (λ _. record { sender = marked_half s (marked_all (block_in s) s.clock first ns); events = []; tpdus = all_dts s ns })
      (one_again s b a n f w.0 w.1)
      (λ c g. all_again s ns first c g w.2)

  resends_go : (s : FlowSender) (a : Around) → Fits s a → Goes t life taken s a (resends s) []
  resends_go s a f =
      let w = due_within s.rules.t1 s.clock s.numbers.base s.numbers.next s.numbers.base s.window (omega arith) (omega (arith, f.window)) in
      let g = all_again s (due_numbers s) s.numbers.blocks a f w in
      record {
        around = g.around;
        happenings = g.happenings;
        runs = g.runs;
        fits = of_window (marked_half s (marked_all (block_in s) s.clock s.numbers.blocks (due_numbers s))) (resends s).sender g.around g.fits
            (omega (arith, length-map s.window (λ tries. if is_due s.rules.t1 s.clock tries then again s.clock tries else tries), f.window));
        rules = refl;
        clock = refl;
        gave = g.gave;
        quiet = refl;
        sent = g.sent;
      }

  -- the ED
  retried_goes : (s : FlowSender) (a : Around) (tries : Tries) → Fits s a → a.base + 1 ≡ s.urgent.next
      → Goes t life taken s a (record { sender = retried_urgent s tries; events = []; tpdus = eds s (s.urgent.next - 1) s.urgent.units }) []
  retried_goes s a tries f is =
      let at : a.base ≡ s.urgent.next - 1 = omega (arith, is) in
      let c : Around = record a { eds = a.eds ++ (s.urgent.next - 1, s.clock) ∷ []; shown = a.shown ++ [] } in
      record {
        around = c;
        happenings = Expedites Resends_ed ∷ [];
        runs = (
          omega (arith, is),
          λ i. record (line_at s c) {
            urgent = record (line_at s c).urgent { blocks = marked (block_in s) s.urgent.blocks (sym at i) s.clock; sends = a.eds ++ (sym at i, s.clock) ∷ [] };
          },
        );
        fits = of_urgent s a (retried_urgent s tries).urgent f is refl f.sent;
        rules = refl;
        clock = refl;
        gave = sym (append-nil a.submitted);
        quiet = refl;
        sent = λ theirs. ed_sent_in t begun life taken s c (retried_urgent s tries) (s.urgent.next - 1) s.urgent.units f.answered theirs (Contains-push a.eds (s.urgent.next - 1, s.clock)) f.expedited (f.answers ∙ at);
      }

  urgent_again : (s : FlowSender) (a : Around) (out : Option Tries) → Fits s a → urgent_base s.urgent out a.base → Goes t life taken s a (resends_urgent_as out s) []
  urgent_again s a None f b = goes_nothing t life taken s a f
  urgent_again s a (Some tries) f b = if_kept (λ (x : Sendings). Goes t life taken s a x []) (is_due s.rules.t1 s.clock tries) _ _
      (λ _. retried_goes s a tries f b)
      (λ _. goes_nothing t life taken s a f)

  ticks : (s : FlowSender) (a : Around) (goes : Life) → Fits s a → Goes t life taken s a (ticked_as goes s) []
  ticks s a Exhausted f = goes_nothing t life taken s a f
  ticks s a Going f =
      then_goes t life taken s a (then_sends (resends s) resends_urgent) [] [] new_sends
      (then_goes t life taken s a (resends s) [] [] resends_urgent (resends_go s a f) (λ b g. urgent_again (resends s).sender b s.urgent.out g g.base))
      (λ b g. new_goes t begun life taken (then_sends (resends s) resends_urgent).sender b g)

  pub tick_goes : (s : FlowSender) (a : Around) → Fits s a → Goes t life taken s a (ticked s) []
  tick_goes s a f = ticks s a (life_of s) f
