-- The calls of a sending half, at the track in which it stands.
use Rattle.std.proofs.Common.{◌≡◌, ℕ, ◌<◌, List, [], ◌∷◌, ◌++◌, length, Option, Some, refl, sym, ◌∙◌, ap, subst}
use Rattle.script_journal.specs.Lawful.{Marked, Normal, Expedited}
use Rattle.tp4_number.specs.Formats.{block_of}
use Rattle.tp4_number.specs.Number.{wire}
use Rattle.tp4_flow.specs.declared.rules.FlowRules.{FlowRules}
use Rattle.tp4_sending.specs.SendingHalf.{FlowSender, Sendings, at, block_in, opened, submitted, urged, acknowledged, urgent_done, ticked}
use Rattle.law_tp4_history.specs.Ends.{Offer, Flow, Ak, Ea}
use Rattle.law_tp4_history.specs.Line.{Line}
use Rattle.law_tp4_history.specs.Tracks.{Track, CanOut, RunsBy, GoesOn}
use Rattle.law_tp4_history.specs.Lines.{IsSendingAt, IsAt, AreSentIn, shown_in}
use Rattle.law_tp4_history.proofs.FlowLines.{at_line}
use Rattle.law_tp4_history.proofs.FlowOut.{Around, line_at, track_at, Fits, Goes}
use Rattle.law_tp4_history.proofs.FlowCalls.{submit_goes, urge_goes, open_goes, ak_goes, ea_goes, credit_opens}
use Rattle.law_tp4_history.proofs.FlowResends.{tick_goes}

-- the call takes the track on, and the half after it stands there
pub record Sends (taken : Option Offer) (now : ℕ) (t : Track) (x : Sendings) (given : List Marked) : Type 0 where
  pub own : Track
  pub goes : GoesOn (CanOut taken) t own
  pub stands : IsSendingAt x.sender own
  pub clocks : IsAt now own
  pub gave : own.line.submitted ≡ t.line.submitted ++ given
  pub quiet : shown_in x.events ≡ []
  pub sent : (theirs : Track) → AreSentIn own theirs now x.tpdus

module _ (taken : Option Offer) (now : ℕ) (t : Track) (s : FlowSender) (h : IsSendingAt s t) (c : IsAt now t) where
  abbrev around : Around
  around = record {
    receiver = t.line.world.receiver;
    sends = t.line.world.sends;
    answers = t.line.world.answers;
    base = t.line.urgent.base;
    eds = t.line.urgent.sends;
    expected = t.line.urgent.expected;
    eas = t.line.urgent.answers;
    submitted = t.line.submitted;
    shown = t.line.shown;
  }

  track_is : track_at t t.rules.life s.rules ≡ t
  track_is = λ i. record t { rules = record { block = sym h.block i; life = t.rules.life; limit = sym h.limit i }; size = sym h.size i }

  line_is : line_at (at now s) around ≡ t.line
  line_is = λ i. record t.line {
    world = record t.line.world { clock = sym c.world i; sender = sym h.numbers i };
    urgent = record t.line.urgent { clock = sym c.urgent i; next = sym h.next i; blocks = sym h.blocks i };
  }

  fits : Fits (at now s) around
  fits = record {
    window = h.window;
    first = h.first;
    acknowledged = h.acknowledged;
    normal = h.normal;
    pieces = h.pieces;
    base = h.base;
    answered = h.answered;
    expedited = h.expedited;
    answers = h.answers;
    sent = h.sent;
  }

  sends : (x : Sendings) (given : List Marked) → Goes t t.rules.life taken (at now s) around x given → Sends taken now t x given
  sends x given g = record {
    own = at_line t (line_at x.sender g.around);
    goes = record {
      begun = h.begun;
      same = refl;
      happenings = g.happenings;
      runs = subst (λ (l : Line). RunsBy (CanOut taken) t l g.happenings (line_at x.sender g.around)) line_is
          (subst (λ (u : Track). RunsBy (CanOut taken) u (line_at (at now s) around) g.happenings (line_at x.sender g.around)) track_is g.runs);
    };
    stands = record {
      begun = h.begun;
      block = h.block ∙ sym (ap (λ (r : FlowRules). block_of r.format) g.rules);
      limit = h.limit ∙ sym (ap (λ (r : FlowRules). r.limit) g.rules);
      size = h.size ∙ sym (ap (λ (r : FlowRules). r.piece) g.rules);
      numbers = refl;
      window = g.fits.window;
      first = g.fits.first;
      acknowledged = g.fits.acknowledged;
      normal = g.fits.normal;
      pieces = g.fits.pieces;
      next = refl;
      blocks = refl;
      base = g.fits.base;
      answered = g.fits.answered;
      expedited = g.fits.expedited;
      answers = g.fits.answers;
      sent = g.fits.sent;
    };
    clocks = record { world = g.clock; urgent = g.clock };
    gave = g.gave;
    quiet = g.quiet;
    sent = λ theirs. subst (λ (u : Track). AreSentIn (at_line u (line_at x.sender g.around)) theirs now x.tpdus) track_is (g.sent theirs);
  }

  pub submit_sends : (unit : List ℕ) → 0 < length unit → Sends taken now t (submitted (at now s) unit) (Normal unit ∷ [])
  submit_sends unit some = sends _ _ (submit_goes t h.begun t.rules.life taken (at now s) around unit fits some)

  pub urge_sends : (unit : List ℕ) → Sends taken now t (urged (at now s) unit) (Expedited unit ∷ [])
  urge_sends unit = sends _ _ (urge_goes t h.begun t.rules.life taken (at now s) around unit fits)

  pub open_sends : Sends taken now t (opened (at now s)) []
  open_sends = sends _ _ (open_goes t h.begun t.rules.life taken (at now s) around fits)

  pub tick_sends : Sends taken now t (ticked (at now s)) []
  tick_sends = sends _ _ (tick_goes t h.begun t.rules.life taken (at now s) around fits)

  pub ak_sends : (m w credit subsequence : ℕ) (o : Offer) → w ≡ wire (block_in s) m → taken ≡ Some o → o.tpdu.kind ≡ Flow → o.tpdu.body ≡ Ak m credit subsequence
      → Sends taken now t (acknowledged (at now s) w credit subsequence) []
  ak_sends m w credit subsequence o e is kind body =
      subst (λ (k : ℕ). Sends taken now t (acknowledged (at now s) k credit subsequence) []) (sym e)
      (sends _ _ (ak_goes t h.begun t.rules.life taken (at now s) around m credit subsequence o fits is kind body))

  pub ea_sends : (m w : ℕ) (o : Offer) → w ≡ wire (block_in s) m → taken ≡ Some o → o.tpdu.kind ≡ Flow → o.tpdu.body ≡ Ea m → Sends taken now t (urgent_done (at now s) w) []
  ea_sends m w o e is kind body =
      subst (λ (k : ℕ). Sends taken now t (urgent_done (at now s) k) []) (sym e)
      (sends _ _ (ea_goes t h.begun t.rules.life taken (at now s) around m o fits is kind body))

  pub credit_sends : (credit : ℕ) → s.numbers.blocks.high ≡ 0 → credit < block_in s → Sends taken now t (opened (record (at now s) { numbers = record s.numbers { credit = credit } })) []
  credit_sends credit none low = sends _ _ (credit_opens t h.begun t.rules.life taken (at now s) around credit fits none low)
