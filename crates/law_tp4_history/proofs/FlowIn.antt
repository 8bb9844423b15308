-- A receiving half in a line: what the half has of it stands there, and the rest of the line is `Beside` it. So what comes to the half, the
-- credit that it gives and the AK that it sends are happenings, and the line after them is computed.
use Rattle.std.proofs.Common.{◌≡◌, ℕ, ◌+◌, ◌*◌, ◌<◌, ◌==◌, ◌||◌, Bool, true, false, if◌then◌else◌, List, [], ◌∷◌, ◌++◌, get_or, Option, Some, refl, sym, ◌∙◌, ap, arith, append-nil}
use Rattle.std.proofs.Math.Nat.{mod-add-mod}
use Rattle.std.proofs.lemmas.List.Elements.{Contains-push}
use Rattle.tpdu.specs.declared.tpdu.Format.{Format}
use Rattle.tpdu.specs.declared.tpdu.Format.TheVariants as formats
use Rattle.script_journal.specs.Lawful.{Marked, Expedited, expediteds}
use Rattle.tp4_number.specs.declared.blocks.Blocks.{Blocks}
use Rattle.tp4_number.specs.declared.got.Got.{Got}
use Rattle.tp4_number.specs.declared.got.Got.TheVariants.{TooLarge}
use Rattle.tp4_number.specs.declared.piece.Piece.{Piece}
use Rattle.tp4_number.specs.Formats.{block_of}
use Rattle.tp4_number.specs.Number.{whole, wire}
use Rattle.tp4_number.specs.Sender.{Sender}
use Rattle.tp4_number.specs.Traffic.{Answer, Dt_comes, Grant, Acknowledge}
use Rattle.tp4_number.specs.Expedited.{Urgent, Ed_comes}
use Rattle.tp4_flow.specs.ReceivingHalf.{Half, Received, block_in, ak, aks, ea, dt_arrival, half_after, taken_dt, taken_ed, is_next, is_before, allowed, half_granted}
use Rattle.tp4_flow.specs.Told.{gots}
use Rattle.tp4_flow.specs.declared.rules.FlowRules.{FlowRules}
use Rattle.tp4_flow.specs.declared.step.What.TheVariants as whats
use Rattle.law_tp4_history.specs.Ends.{Offer, Flow, Dt, Ed}
use Rattle.law_tp4_history.specs.Line.{Line, Happening, Flows, Expedites, all_normal}
use Rattle.law_tp4_history.specs.Tracks.{Track, CanIn, RunsBy}
use Rattle.law_tp4_history.specs.Lines.{AreSentIn, shown_in}
use Rattle.law_tp4_history.proofs.FlowLines.{at_line}
use Rattle.tpdu.specs.declared.service.EndTold.TheVariants as tells

-- what of a line is no part of the receiving half
pub record Beside : Type 0 where
  pub sender : Sender
  pub urgent : ℕ
  pub sends : List (ℕ × ℕ)
  pub answers : List Answer
  pub base : ℕ
  pub next : ℕ
  pub blocks : Blocks
  pub eds : List (ℕ × ℕ)
  pub eas : List (ℕ × ℕ)
  pub submitted : List Marked
  pub shown : List Marked

abbrev pub line_in : ℕ → Half → Beside → Line
line_in now h r = record {
  world = record {
    clock = now;
    sender = r.sender;
    receiver = record { expected = h.receiver.expected; urgent = r.urgent; inbox = h.receiver.inbox };
    sends = r.sends;
    answers = r.answers;
  };
  urgent = record {
    clock = now;
    base = r.base;
    next = r.next;
    blocks = r.blocks;
    sends = r.eds;
    expected = h.receiver.urgent;
    answers = r.eas;
  };
  submitted = r.submitted;
  shown = r.shown;
}

-- a track in the format of the half
abbrev pub track_in : Track → FlowRules → Track
track_in t rules = record t { rules = record t.rules { block = block_of rules.format } }

shown_gots : (own : ℕ) (units : List (List ℕ)) → shown_in (gots own units) ≡ all_normal units
shown_gots own [] = refl
shown_gots own (unit ∷ units) = ap (λ (us : List Marked). shown_in (gots own (unit ∷ [])) ++ us) (shown_gots own units)

allowed_low : (format : Format) (credit : ℕ) → allowed format credit < block_of format
allowed_low formats.Normal credit = omega arith
allowed_low formats.Extended credit = omega arith

wire_after : (block n : ℕ) → wire block (n + 1) ≡ wire block (wire block n + 1)
unfolding wire
wire_after block n = sym (mod-add-mod n (4 * block) 1)

module _ (t : Track) (begun : t.is_begun ≡ true) (taken : Option Offer) (now : ℕ) where
  -- a call of the half is a list of happenings
  pub record Comes (h : Half) (r : Beside) (x : Received) : Type 0 where
    pub beside : Beside
    pub happenings : List Happening
    pub runs : RunsBy (CanIn taken) (track_in t h.rules) (line_in now h r) happenings (line_in now x.half beside)
    pub rules : x.half.rules ≡ h.rules
    pub showed : beside.shown ≡ r.shown ++ shown_in x.events
    pub sent : (own : Track) → AreSentIn own (at_line (track_in t h.rules) (line_in now x.half beside)) now x.tpdus

  abbrev acked : Half → Beside → Beside
  acked h r = record r {
    answers = r.answers ++ record { number = h.receiver.expected; credit = h.receiver.inbox.credit; subsequence = h.receiver.inbox.subsequence; tick = now } ∷ [];
    shown = r.shown ++ [];
  }

  ak_sent_in : (h : Half) (r : Beside) (own : Track) → AreSentIn own (at_line (track_in t h.rules) (line_in now h (acked h r))) now (ak h ∷ [])
  ak_sent_in h r own = (record { n = h.receiver.expected; numbered = refl; stands = (begun, Contains-push r.answers _) }, tt)

  pub ack_comes : (h : Half) (r : Beside) → Comes h r (record { half = h; events = []; tpdus = ak h ∷ [] })
  ack_comes h r = record {
    beside = acked h r;
    happenings = Flows Acknowledge ∷ [];
    runs = (record {}, refl);
    rules = refl;
    showed = refl;
    sent = ak_sent_in h r;
  }

  -- a DT
  module _ (h : Half) (r : Beside) (n : ℕ) (piece : Piece) (o : Offer) (is : taken ≡ Some o) (kind : o.tpdu.kind ≡ Flow) (body : o.tpdu.body ≡ Dt n piece) where
    abbrev new : Half
    new = half_after whole h (dt_arrival h (wire (block_in h) n) piece)

    abbrev units : List (List ℕ)
    units = (dt_arrival h (wire (block_in h) n) piece).units

    abbrev came : Beside
    came = record r { shown = r.shown ++ all_normal units }

    showing : r.shown ++ all_normal units ≡ r.shown ++ shown_in (gots h.rules.own units)
    showing = ap (λ (us : List Marked). r.shown ++ us) (sym (shown_gots h.rules.own units))

    answered : Comes h r (record { half = new; events = gots h.rules.own units; tpdus = ak new ∷ [] })
    answered = record {
      beside = acked new came;
      happenings = Flows (Dt_comes n o.tick piece) ∷ Flows Acknowledge ∷ [];
      runs = ((o, is, kind, body, refl), (record {}, refl));
      rules = refl;
      showed = append-nil (r.shown ++ all_normal units) ∙ showing;
      sent = ak_sent_in new came;
    }

    by_answer : (got : Got) → Comes h r (record { half = new; events = gots h.rules.own units; tpdus = aks got new })
    by_answer TooLarge = record {
      beside = came;
      happenings = Flows (Dt_comes n o.tick piece) ∷ [];
      runs = ((o, is, kind, body, refl), refl);
      rules = refl;
      showed = showing;
      sent = λ own. tt;
    }
    by_answer other = answered

    pub dt_comes : Comes h r (taken_dt whole h (wire (block_in h) n) piece)
    dt_comes = by_answer (dt_arrival h (wire (block_in h) n) piece).got

  -- an ED
  module _ (h : Half) (r : Beside) (n : ℕ) (octets : List ℕ) (o : Offer) (is : taken ≡ Some o) (kind : o.tpdu.kind ≡ Flow) (body : o.tpdu.body ≡ Ed n octets)
      (unit : octets ≡ get_or (expediteds r.submitted) n []) where
    abbrev urgent : Urgent
    urgent = (line_in now h r).urgent

    -- by both tests
    abbrev ed_by : Bool → Bool → Received
    ed_by c d = record {
      half = if c then record h { receiver = record h.receiver { urgent = h.receiver.urgent + 1 } } else h;
      events = if c then record { reference = h.rules.own; what = whats.End (tells.Urgent octets) } ∷ [] else [];
      tpdus = if c || d then ea h (wire (block_in h) n) ∷ [] else [];
    }

    abbrev line_by : Bool → Bool → Line
    line_by c d = record (line_in now h r) {
      urgent = if c then record urgent { expected = h.receiver.urgent + 1; answers = r.eas ++ (n, now) ∷ [] }
          else if d then record urgent { answers = r.eas ++ (n, now) ∷ [] } else urgent;
      shown = r.shown ++ (if c then Expedited (get_or (expediteds r.submitted) n []) ∷ [] else []);
    }

    by_tests : (c d : Bool) → (wire (block_in h) n == wire (block_in h) h.receiver.urgent) ≡ c → (wire (block_in h) (n + 1) == wire (block_in h) h.receiver.urgent) ≡ d → Comes h r (ed_by c d)
    by_tests true d e f = record {
      beside = record r { eas = r.eas ++ (n, now) ∷ []; shown = r.shown ++ Expedited (get_or (expediteds r.submitted) n []) ∷ [] };
      happenings = Expedites (Ed_comes n o.tick) ∷ [];
      runs = ((o, is, kind, (octets, body), refl), sym (ap (λ (b : Bool). line_by b (wire (block_in h) (n + 1) == wire (block_in h) h.receiver.urgent)) e));
      rules = refl;
      showed = ap (λ (u : List ℕ). r.shown ++ Expedited u ∷ []) (sym unit);
      sent = λ own. (record { n = n; numbered = refl; stands = (begun, Contains-push r.eas (n, now)) }, tt);
    }
    by_tests false true e f = record {
      beside = record r { eas = r.eas ++ (n, now) ∷ []; shown = r.shown ++ [] };
      happenings = Expedites (Ed_comes n o.tick) ∷ [];
      runs = ((o, is, kind, (octets, body), refl), sym (ap (λ (b : Bool). line_by b (wire (block_in h) (n + 1) == wire (block_in h) h.receiver.urgent)) e ∙ ap (line_by false) f));
      rules = refl;
      showed = refl;
      sent = λ own. (record { n = n; numbered = refl; stands = (begun, Contains-push r.eas (n, now)) }, tt);
    }
    by_tests false false e f = record {
      beside = record r { shown = r.shown ++ [] };
      happenings = Expedites (Ed_comes n o.tick) ∷ [];
      runs = ((o, is, kind, (octets, body), refl), sym (ap (λ (b : Bool). line_by b (wire (block_in h) (n + 1) == wire (block_in h) h.receiver.urgent)) e ∙ ap (line_by false) f));
      rules = refl;
      showed = refl;
      sent = λ own. tt;
    }

    pub ed_comes : Comes h r (taken_ed whole h (wire (block_in h) n) octets)
    ed_comes = by_tests (is_next h (wire (block_in h) n)) (is_before h (wire (block_in h) n)) refl
        (ap (λ (k : ℕ). k == wire (block_in h) h.receiver.urgent) (wire_after (block_in h) n))

  -- a new credit
  pub grant_comes : (h : Half) (r : Beside) (credit : ℕ) → Comes h r (record { half = half_granted h credit; events = []; tpdus = [] })
  grant_comes h r credit = record {
    beside = record r { shown = r.shown ++ [] };
    happenings = Flows (Grant (allowed h.rules.format credit)) ∷ [];
    runs = (allowed_low h.rules.format credit, refl);
    rules = refl;
    showed = refl;
    sent = λ own. tt;
  }

  pub grant_acked : (h : Half) (r : Beside) (credit : ℕ) → Comes h r (record { half = half_granted h credit; events = []; tpdus = ak (half_granted h credit) ∷ [] })
  grant_acked h r credit = record {
    beside = acked (half_granted h credit) (record r { shown = r.shown ++ [] });
    happenings = Flows (Grant (allowed h.rules.format credit)) ∷ Flows Acknowledge ∷ [];
    runs = (allowed_low h.rules.format credit, (record {}, refl));
    rules = refl;
    showed = append-nil (r.shown ++ []);
    sent = ak_sent_in (half_granted h credit) (record r { shown = r.shown ++ [] });
  }
