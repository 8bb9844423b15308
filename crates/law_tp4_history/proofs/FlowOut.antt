-- A sending half in a line: all that the half has of it stands there, and the rest of the line is `Around` it. So each step of the half is a
-- happening, and the line after it is computed.
use Rattle.std.proofs.Common.{◌≡◌, ℕ, ◌+◌, ◌≤◌, List, [], ◌∷◌, ◌++◌, length, Option, refl, sym, ◌∙◌, ap, subst, append_assoc, append-nil}
use Rattle.std.specs.List.{sum_by}
use Rattle.tp4_number.specs.Formats.{block_of}
use Rattle.tp4_number.specs.Receiver.{Receiver}
use Rattle.tp4_number.specs.Traffic.{Answer}
use Rattle.script_journal.specs.Lawful.{Marked, normals, expediteds}
use Rattle.tp4_flow.specs.declared.rules.FlowRules.{FlowRules}
use Rattle.tp4_flow.specs.declared.step.EndEvent.{EndEvent}
use Rattle.tp4_sending.specs.SendingHalf.{FlowSender, Sendings, UrgentSender, nothing, then_sends}
use Rattle.tp4_sending.specs.Kept.{urgent_base}
use Rattle.tp4_sending.specs.Pieces.{Queue, count_in}
use Rattle.tp4_sending.specs.declared.tries.Tries.{Tries}
use Rattle.law_tp4_history.specs.Ends.{Offer}
use Rattle.law_tp4_history.specs.Line.{Line, Happening}
use Rattle.law_tp4_history.specs.Tracks.{Track, CanOut, RunsBy}
use Rattle.law_tp4_history.proofs.Tracked.{grows_none}
use Rattle.law_tp4_history.specs.Lines.{AreSentIn, shown_as, shown_in}
use Rattle.law_tp4_history.proofs.FlowLines.{grows_by, runs_then, at_line, sent_later, sent_both}

-- what of a line is no part of the sending half
pub record Around : Type 0 where
  pub receiver : Receiver
  pub sends : List (ℕ × ℕ)
  pub answers : List Answer
  pub base : ℕ
  pub eds : List (ℕ × ℕ)
  pub expected : ℕ
  pub eas : List (ℕ × ℕ)
  pub submitted : List Marked
  pub shown : List Marked

abbrev pub line_at : FlowSender → Around → Line
line_at s a = record {
  world = record { clock = s.clock; sender = s.numbers; receiver = a.receiver; sends = a.sends; answers = a.answers };
  urgent = record {
    clock = s.clock;
    base = a.base;
    next = s.urgent.next;
    blocks = s.urgent.blocks;
    sends = a.eds;
    expected = a.expected;
    answers = a.eas;
  };
  submitted = a.submitted;
  shown = a.shown;
}

-- a track with the terms of the half
abbrev pub track_at : Track → ℕ → FlowRules → Track
track_at t life rules = record t { rules = record { block = block_of rules.format; life = life; limit = rules.limit }; size = rules.piece }

-- by what it speaks of alone, so that it holds on where that stays
pub record FitsBy (tries : List Tries) (low next piece : ℕ) (queue : Queue) (urgent : UrgentSender) (done : ℕ) (submitted : List Marked) : Type 0 where
  pub window : length tries + low ≡ next
  pub first : queue.first ≤ low
  pub acknowledged : List (List ℕ)
  pub normal : normals submitted ≡ acknowledged ++ queue.units
  pub pieces : queue.first ≡ sum_by (count_in piece) acknowledged
  pub base : urgent_base urgent urgent.out done
  pub answered : List (List ℕ)
  pub expedited : expediteds submitted ≡ answered ++ urgent.units
  pub answers : length answered ≡ done
  pub sent : urgent.next ≤ length (expediteds submitted)

abbrev pub Fits : FlowSender → Around → Type 0
Fits s a = FitsBy s.window s.numbers.base s.numbers.next s.rules.piece s.queue s.urgent a.base a.submitted

-- with another window, or other tries of the ED
pub of_window : (s x : FlowSender) (a : Around) → Fits s a → length x.window + s.numbers.base ≡ x.numbers.next
    → FitsBy x.window s.numbers.base x.numbers.next s.rules.piece s.queue s.urgent a.base a.submitted
of_window s x a f window = record {
  window = window;
  first = f.first;
  acknowledged = f.acknowledged;
  normal = f.normal;
  pieces = f.pieces;
  base = f.base;
  answered = f.answered;
  expedited = f.expedited;
  answers = f.answers;
  sent = f.sent;
}

pub of_urgent : (s : FlowSender) (a : Around) (urgent : UrgentSender) → Fits s a → urgent_base urgent urgent.out a.base → urgent.units ≡ s.urgent.units
    → urgent.next ≤ length (expediteds a.submitted) → Fits (record s { urgent = urgent }) a
of_urgent s a urgent f base units sent = record {
  window = f.window;
  first = f.first;
  acknowledged = f.acknowledged;
  normal = f.normal;
  pieces = f.pieces;
  base = base;
  answered = f.answered;
  expedited = f.expedited ∙ ap (λ (us : List (List ℕ)). f.answered ++ us) (sym units);
  answers = f.answers;
  sent = sent;
}

pub shown-append : (xs ys : List EndEvent) → shown_in (xs ++ ys) ≡ shown_in xs ++ shown_in ys
shown-append [] ys = refl
shown-append (x ∷ xs) ys = ap (λ (us : List Marked). shown_as x.what ++ us) (shown-append xs ys) ∙ sym (append_assoc (shown_as x.what) (shown_in xs) (shown_in ys))

module _ (t : Track) (life : ℕ) (taken : Option Offer) where
  -- a call of the half is a list of happenings
  pub record Goes (s : FlowSender) (a : Around) (x : Sendings) (given : List Marked) : Type 0 where
    pub around : Around
    pub happenings : List Happening
    pub runs : RunsBy (CanOut taken) (track_at t life s.rules) (line_at s a) happenings (line_at x.sender around)
    pub fits : Fits x.sender around
    pub rules : x.sender.rules ≡ s.rules
    pub clock : x.sender.clock ≡ s.clock
    pub gave : around.submitted ≡ a.submitted ++ given
    pub quiet : shown_in x.events ≡ []
    pub sent : (theirs : Track) → AreSentIn (at_line (track_at t life s.rules) (line_at x.sender around)) theirs s.clock x.tpdus

  -- a call that sends nothing
  pub goes_by : (s : FlowSender) (a b : Around) (x : FlowSender) (events : List EndEvent) (happenings : List Happening) (given : List Marked)
      → RunsBy (CanOut taken) (track_at t life s.rules) (line_at s a) happenings (line_at x b) → Fits x b → x.rules ≡ s.rules → x.clock ≡ s.clock
      → b.submitted ≡ a.submitted ++ given → shown_in events ≡ [] → Goes s a (record { sender = x; events = events; tpdus = [] }) given
  goes_by s a b x events happenings given runs f rules clock gave quiet = record {
    around = b;
    happenings = happenings;
    runs = runs;
    fits = f;
    rules = rules;
    clock = clock;
    gave = gave;
    quiet = quiet;
    sent = λ theirs. tt;
  }

  pub goes_nothing : (s : FlowSender) (a : Around) → Fits s a → Goes s a (nothing s) []
  goes_nothing s a f = goes_by s a a s [] [] [] refl f refl refl (sym (append-nil a.submitted)) refl

  pub then_goes : (s : FlowSender) (a : Around) (x : Sendings) (given more : List Marked) (next : FlowSender → Sendings)
      → Goes s a x given → ((b : Around) → Fits x.sender b → Goes x.sender b (next x.sender) more) → Goes s a (then_sends x next) (given ++ more)
  then_goes s a x given more next g rest =
      let y = next x.sender in
      let h = rest g.around g.fits in
      let runs : RunsBy (CanOut taken) (track_at t life s.rules) (line_at x.sender g.around) h.happenings (line_at y.sender h.around) =
      subst (λ (r : FlowRules). RunsBy (CanOut taken) (track_at t life r) (line_at x.sender g.around) h.happenings (line_at y.sender h.around)) g.rules h.runs in
      record {
        around = h.around;
        happenings = g.happenings ++ h.happenings;
        runs = runs_then (CanOut taken) (track_at t life s.rules) (line_at s a) (line_at x.sender g.around) (line_at y.sender h.around) g.happenings h.happenings g.runs runs;
        fits = h.fits;
        rules = h.rules ∙ g.rules;
        clock = h.clock ∙ g.clock;
        gave = h.gave ∙ ap (λ (us : List Marked). us ++ more) g.gave ∙ append_assoc a.submitted given more;
        quiet = shown-append x.events y.events ∙ ap (λ (us : List Marked). us ++ shown_in y.events) g.quiet ∙ h.quiet;
        sent = λ theirs. sent_both (at_line (track_at t life s.rules) (line_at y.sender h.around)) theirs s.clock x.tpdus y.tpdus
            (sent_later (at_line (track_at t life s.rules) (line_at x.sender g.around)) theirs (line_at y.sender h.around) theirs.line s.clock x.tpdus
            (grows_by (CanOut taken) (track_at t life s.rules) (line_at x.sender g.around) (line_at y.sender h.around) h.happenings runs)
            (grows_none theirs.size theirs.line) (g.sent theirs))
            (subst (λ (r : FlowRules). AreSentIn (at_line (track_at t life r) (line_at y.sender h.around)) theirs s.clock y.tpdus) g.rules
            (subst (λ (now : ℕ). AreSentIn (at_line (track_at t life x.sender.rules) (line_at y.sender h.around)) theirs now y.tpdus) g.clock (h.sent theirs)));
      }
