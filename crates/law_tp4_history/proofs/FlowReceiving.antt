-- The calls of a receiving half, at the track in which it stands.
use Rattle.std.proofs.Common.{◌≡◌, ℕ, List, [], ◌∷◌, ◌++◌, get_or, Option, Some, refl, sym, ◌∙◌, ap, subst}
use Rattle.script_journal.specs.Lawful.{expediteds}
use Rattle.tp4_number.specs.declared.piece.Piece.{Piece}
use Rattle.tp4_number.specs.Formats.{block_of}
use Rattle.tp4_number.specs.Number.{whole, wire}
use Rattle.tp4_flow.specs.ReceivingHalf.{Half, Received, block_in, ak, taken_dt, taken_ed, half_granted}
use Rattle.tp4_flow.specs.declared.rules.FlowRules.{FlowRules}
use Rattle.law_tp4_history.specs.Ends.{Offer, Flow, Dt, Ed}
use Rattle.law_tp4_history.specs.Line.{Line}
use Rattle.law_tp4_history.specs.Tracks.{Track, CanIn, RunsBy, GoesOn}
use Rattle.law_tp4_history.specs.Lines.{IsReceivingAt, IsAt, AreSentIn, shown_in}
use Rattle.law_tp4_history.proofs.FlowLines.{at_line}
use Rattle.law_tp4_history.proofs.FlowIn.{Beside, line_in, track_in, Comes, ack_comes, dt_comes, ed_comes, grant_comes, grant_acked}

-- the call takes the track on, and the half after it stands there
pub record Takes (taken : Option Offer) (now : ℕ) (t : Track) (x : Received) : Type 0 where
  pub theirs : Track
  pub goes : GoesOn (CanIn taken) t theirs
  pub stands : IsReceivingAt x.half theirs
  pub clocks : IsAt now theirs
  pub showed : theirs.line.shown ≡ t.line.shown ++ shown_in x.events
  pub sent : (own : Track) → AreSentIn own theirs now x.tpdus

module _ (taken : Option Offer) (now : ℕ) (t : Track) (h : Half) (s : IsReceivingAt h t) (c : IsAt now t) where
  abbrev beside : Beside
  beside = record {
    sender = t.line.world.sender;
    urgent = t.line.world.receiver.urgent;
    sends = t.line.world.sends;
    answers = t.line.world.answers;
    base = t.line.urgent.base;
    next = t.line.urgent.next;
    blocks = t.line.urgent.blocks;
    eds = t.line.urgent.sends;
    eas = t.line.urgent.answers;
    submitted = t.line.submitted;
    shown = t.line.shown;
  }

  track_is : track_in t h.rules ≡ t
  track_is = λ i. record t { rules = record t.rules { block = sym s.block i } }

  line_is : line_in now h beside ≡ t.line
  line_is = λ i. record t.line {
    world = record t.line.world {
      clock = sym c.world i;
      receiver = record t.line.world.receiver { expected = sym s.expected i; inbox = sym s.inbox i };
    };
    urgent = record t.line.urgent { clock = sym c.urgent i; expected = sym s.urgent i };
  }

  takes : (x : Received) → Comes t s.begun taken now h beside x → Takes taken now t x
  takes x g = record {
    theirs = at_line t (line_in now x.half g.beside);
    goes = record {
      begun = s.begun;
      same = refl;
      happenings = g.happenings;
      runs = subst (λ (l : Line). RunsBy (CanIn taken) t l g.happenings (line_in now x.half g.beside)) line_is
          (subst (λ (u : Track). RunsBy (CanIn taken) u (line_in now h beside) g.happenings (line_in now x.half g.beside)) track_is g.runs);
    };
    stands = record {
      begun = s.begun;
      block = s.block ∙ sym (ap (λ (r : FlowRules). block_of r.format) g.rules);
      expected = refl;
      inbox = refl;
      urgent = refl;
    };
    clocks = record { world = refl; urgent = refl };
    showed = g.showed;
    sent = λ own. subst (λ (u : Track). AreSentIn own (at_line u (line_in now x.half g.beside)) now x.tpdus) track_is (g.sent own);
  }

  pub ack_takes : Takes taken now t (record { half = h; events = []; tpdus = ak h ∷ [] })
  ack_takes = takes _ (ack_comes t s.begun taken now h beside)

  pub dt_takes : (n w : ℕ) (piece : Piece) (o : Offer) → w ≡ wire (block_in h) n → taken ≡ Some o → o.tpdu.kind ≡ Flow → o.tpdu.body ≡ Dt n piece → Takes taken now t (taken_dt whole h w piece)
  dt_takes n w piece o e is kind body =
      subst (λ (k : ℕ). Takes taken now t (taken_dt whole h k piece)) (sym e) (takes _ (dt_comes t s.begun taken now h beside n piece o is kind body))

  pub ed_takes : (n w : ℕ) (octets : List ℕ) (o : Offer) → w ≡ wire (block_in h) n → taken ≡ Some o → o.tpdu.kind ≡ Flow → o.tpdu.body ≡ Ed n octets
      → octets ≡ get_or (expediteds t.line.submitted) n [] → Takes taken now t (taken_ed whole h w octets)
  ed_takes n w octets o e is kind body unit =
      subst (λ (k : ℕ). Takes taken now t (taken_ed whole h k octets)) (sym e) (takes _ (ed_comes t s.begun taken now h beside n octets o is kind body unit))

  pub grant_takes : (credit : ℕ) → Takes taken now t (record { half = half_granted h credit; events = []; tpdus = [] })
  grant_takes credit = takes _ (grant_comes t s.begun taken now h beside credit)

  pub grant_acks : (credit : ℕ) → Takes taken now t (record { half = half_granted h credit; events = []; tpdus = ak (half_granted h credit) ∷ [] })
  grant_acks credit = takes _ (grant_acked t s.begun taken now h beside credit)
