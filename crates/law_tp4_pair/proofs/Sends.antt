-- The new sends: an ED where none is outstanding, then DTs that follow one another up to the edge of the window. All else stays.
use Rattle.std.proofs.Common.{◌≡◌, ℕ, zero, suc, ◌+◌, ◌-◌, ◌<◌, ◌≤◌, ◌==◌, ◌||◌, nat_lt, Bool, true, false, if◌then◌else◌, List, [], ◌∷◌, ◌++◌, length, Option, Some, None, refl, sym, ◌∙◌, ap, subst, arith, append-nil, length-append}
use Rattle.std.specs.Prelude.{not, is_some}
use Rattle.std.proofs.lemmas.Bool.{and_parts, or_parts, ltb-true, not-false}
use Rattle.tpdu.specs.declared.service.HeldKind.TheVariants.{Dt, Ed}
use Rattle.tp4_flow.specs.declared.rules.FlowRules.{FlowRules}
use Rattle.tp4_flow.specs.declared.step.EndEvent.{EndEvent}
use Rattle.tp4_flow.specs.declared.step.Sent.{Sent}
use Rattle.tp4_number.specs.declared.piece.Piece.{Piece}
use Rattle.tp4_number.specs.Formats.{block_of}
use Rattle.tp4_number.specs.Number.{wire}
use Rattle.tp4_number.specs.Sender.{Sender}
use Rattle.tp4_number.proofs.Accounts.{marked_high}
use Rattle.tp4_number.proofs.Past.{if_kept}
use Rattle.tp4_sending.specs.SendingHalf.{FlowSender, UrgentSender, Sendings, nothing, before, then_sends, block_in, rule_allows, dts, dts_of, eds, is_noted, holds, sent_urgent, one_urgent, held_urgent, sent_normal, held_normal, has_next, normals, is_urgent, normals_where, new_sends}
use Rattle.tp4_sending.specs.Pieces.{cut_at, end_of, once}
use Rattle.tp4_sending.specs.declared.tries.Tries.{Tries}
use Rattle.tp4_sending.proofs.Goings.{piece_there}
use Rattle.script_journal.specs.Lawful.{Marked}
use Rattle.law_tp4_history.proofs.FlowOut.{shown-append}
use Rattle.law_tp4_history.specs.Lines.{shown_in}
use Rattle.law_tp4_pair.specs.Waiting.{AreData, View, dts_in, eds_in, aks_in, eas_in, wires}
use Rattle.law_tp4_pair.specs.Flowing.{IsOrdered}
use Rattle.law_tp4_pair.proofs.Wires.{dts_then, eds_then, aks_then, eas_then, data_then}

-- ---- DTs

-- the next number grows, and all else of numbers, terms and units stays
pub record IsOnward (s : FlowSender) (x : Sendings) : Type 0 where
  pub count : ℕ
  pub next : x.sender.numbers.next ≡ s.numbers.next + count
  pub base : x.sender.numbers.base ≡ s.numbers.base
  pub credit : x.sender.numbers.credit ≡ s.numbers.credit
  pub subsequence : x.sender.numbers.subsequence ≡ s.numbers.subsequence
  pub rules : x.sender.rules ≡ s.rules
  pub queue : x.sender.queue ≡ s.queue

-- the DTs that went follow one another; numbers grow, all else stays
pub record SendsDts (s : FlowSender) (x : Sendings) : Type 0 where
  pub onward : IsOnward s x
  pub open onward use *
  pub urgent : x.sender.urgent ≡ s.urgent
  pub ordered : IsOrdered x.sender
  pub dts : dts_in x.tpdus ≡ wires (block_in s) s.numbers.next count
  pub eds : eds_in x.tpdus ≡ []
  pub aks : aks_in x.tpdus ≡ []
  pub eas : eas_in x.tpdus ≡ []
  pub data_are : AreData s.rules x.tpdus
  pub quiet : shown_in x.events ≡ []

-- none goes; that one waits may be noted
dts_quiet : (s : FlowSender) (noted : Option ℕ) (events : List EndEvent) → shown_in events ≡ [] → IsOrdered s → SendsDts s (record { sender = record s { noted = noted }; events = events; tpdus = [] })
dts_quiet s noted events quiet o = record {
  onward = record { count = 0; next = omega arith; base = refl; credit = refl; subsequence = refl; rules = refl; queue = refl };
  urgent = refl;
  ordered = record { is_open = o.is_open; first = o.first; window = o.window; high = o.high; edge = o.edge; unit = o.unit };
  dts = refl;
  eds = refl;
  aks = refl;
  eas = refl;
  data_are = tt;
  quiet = quiet;
}

dts_none : (s : FlowSender) → IsOrdered s → SendsDts s (nothing s)
dts_none s o = dts_quiet s s.noted [] refl o

dts_held : (s : FlowSender) → IsOrdered s → SendsDts s (held_normal s)
dts_held s o = if_kept (SendsDts s) (is_noted s.noted s.numbers.next) _ _ (λ _. dts_none s o) (λ _. dts_quiet s (Some s.numbers.next) (holds s Dt s.numbers.next ∷ []) refl o)

sent_ordered : (s : FlowSender) → IsOrdered s → s.numbers.next < s.numbers.base + s.numbers.credit → IsOrdered (sent_normal s)
sent_ordered s o below = record {
  is_open = o.is_open;
  first = o.first;
  window = omega (arith, o.window, length-append s.window (once s.clock ∷ []));
  high = omega (arith, marked_high (block_in s) s.numbers.blocks s.numbers.next s.clock);
  edge = omega (arith, below);
  unit = o.unit;
}

-- what one DT is, by kind
record IsOneDt (s : FlowSender) (n : ℕ) (tpdus : List Sent) : Type 0 where
  dts : dts_in tpdus ≡ wire (block_in s) n ∷ []
  eds : eds_in tpdus ≡ []
  aks : aks_in tpdus ≡ []
  eas : eas_in tpdus ≡ []
  data_are : AreData s.rules tpdus

one_dt : (s : FlowSender) (n : ℕ) (piece : Option Piece) → is_some piece ≡ true → IsOneDt s n (dts s n piece)
one_dt s n None e = absurd (cc e)
one_dt s n (Some piece) e = record { dts = refl; eds = refl; aks = refl; eas = refl; data_are = (record { to = refl; format = refl; sum = refl; kind = refl }, tt) }

next_dt : (s : FlowSender) → IsOrdered s → s.numbers.next < end_of s.rules.piece s.queue → nat_lt s.numbers.next (end_of s.rules.piece s.queue) ≡ true
    → IsOneDt s s.numbers.next (dts_of s s.numbers.next)
next_dt s o below is =
    let low : s.queue.first ≤ s.numbers.next = omega (arith, o.first, o.window) in
    one_dt s s.numbers.next (cut_at s.rules.piece s.queue.units (s.numbers.next - s.queue.first)) (piece_there s.rules.piece s.queue s.numbers.next low ∙ is)

-- one more DT before
dts_before : (s : FlowSender) (tpdus : List Sent) (x : Sendings) → IsOneDt s s.numbers.next tpdus → SendsDts (sent_normal s) x → SendsDts s (before tpdus x)
dts_before s tpdus x one g = record {
  onward = record { count = suc g.count; next = omega (arith, g.next); base = g.base; credit = g.credit; subsequence = g.subsequence; rules = g.rules; queue = g.queue };
  urgent = g.urgent;
  ordered = g.ordered;
  dts = dts_then tpdus x.tpdus ∙ ap (λ (l : List ℕ). l ++ dts_in x.tpdus) one.dts ∙ ap (λ (l : List ℕ). wire (block_in s) s.numbers.next ∷ l) g.dts;
  eds = eds_then tpdus x.tpdus ∙ ap (λ (l : List ℕ). l ++ eds_in x.tpdus) one.eds ∙ g.eds;
  aks = aks_then tpdus x.tpdus ∙ ap (λ (l : List View). l ++ aks_in x.tpdus) one.aks ∙ g.aks;
  eas = eas_then tpdus x.tpdus ∙ ap (λ (l : List ℕ). l ++ eas_in x.tpdus) one.eas ∙ g.eas;
  data_are = data_then s.rules tpdus x.tpdus one.data_are g.data_are;
  quiet = g.quiet;
}

normals_send : (fuel : ℕ) (s : FlowSender) → IsOrdered s → SendsDts s (normals fuel s)
normals_send zero s o = dts_none s o
normals_send (suc fuel) s o =
    if_kept (SendsDts s) (not (has_next s)) _ _
    (λ _. dts_none s o)
    (λ more.
    let both = and_parts (nat_lt s.numbers.next (s.numbers.base + s.numbers.credit)) (nat_lt s.numbers.next (end_of s.rules.piece s.queue)) (not-false (has_next s) more) in
    if_kept (SendsDts s) (rule_allows s s.numbers.blocks s.numbers.next) _ _
    (λ _. dts_before s (dts_of s s.numbers.next) (normals fuel (sent_normal s)) (next_dt s o (ltb-true _ _ both.1) both.1)
    (normals_send fuel (sent_normal s) (sent_ordered s o (ltb-true _ _ both.0))))
    (λ _. dts_held s o))

pub where_sends : (s : FlowSender) → IsOrdered s → SendsDts s (normals_where s)
where_sends s o = if_kept (SendsDts s) (is_urgent s) _ _ (λ _. dts_none s o) (λ _. normals_send (end_of s.rules.piece s.queue - s.numbers.next) s o)

-- ---- the ED

-- none went, or the next one where none was outstanding
pub data Asks (block : ℕ) (u new : UrgentSender) (eds : List ℕ) : Type 0 where
  Still : new.next ≡ u.next → new.out ≡ u.out → eds ≡ [] → Asks block u new eds
  New : (tries : Tries) → u.out ≡ None → new.next ≡ u.next + 1 → new.out ≡ Some tries → eds ≡ wire block u.next ∷ [] → Asks block u new eds

pub record SendsEd (s : FlowSender) (x : Sendings) : Type 0 where
  pub numbers : x.sender.numbers ≡ s.numbers
  pub rules : x.sender.rules ≡ s.rules
  pub queue : x.sender.queue ≡ s.queue
  pub units : x.sender.urgent.units ≡ s.urgent.units
  pub ordered : IsOrdered x.sender
  pub dts : dts_in x.tpdus ≡ []
  pub asks : Asks (block_in s) s.urgent x.sender.urgent (eds_in x.tpdus)
  pub aks : aks_in x.tpdus ≡ []
  pub eas : eas_in x.tpdus ≡ []
  pub data_are : AreData s.rules x.tpdus
  pub quiet : shown_in x.events ≡ []

-- none goes; that one waits may be noted
ed_quiet : (s : FlowSender) (noted : Option ℕ) (events : List EndEvent) → shown_in events ≡ [] → IsOrdered s → SendsEd s (record { sender = record s { urgent = record s.urgent { noted = noted } }; events = events; tpdus = [] })
ed_quiet s noted events quiet o = record {
  numbers = refl;
  rules = refl;
  queue = refl;
  units = refl;
  ordered = record { is_open = o.is_open; first = o.first; window = o.window; high = o.high; edge = o.edge; unit = o.unit };
  dts = refl;
  asks = Still refl refl refl;
  aks = refl;
  eas = refl;
  data_are = tt;
  quiet = quiet;
}

ed_none : (s : FlowSender) → IsOrdered s → SendsEd s (nothing s)
ed_none s o = ed_quiet s s.urgent.noted [] refl o

ed_held : (s : FlowSender) → IsOrdered s → SendsEd s (held_urgent s)
ed_held s o = if_kept (SendsEd s) (is_noted s.urgent.noted s.urgent.next) _ _ (λ _. ed_none s o) (λ _. ed_quiet s (Some s.urgent.next) (holds s Ed s.urgent.next ∷ []) refl o)

ed_goes : (s : FlowSender) (units : List (List ℕ)) → IsOrdered s → s.urgent.units ≡ units → (length units == 0) ≡ false → s.urgent.out ≡ None
    → SendsEd s (record { sender = sent_urgent s; events = []; tpdus = eds s s.urgent.next units })
ed_goes s [] o is some none = absurd (cc some)
ed_goes s (unit ∷ units) o is some none = record {
  numbers = refl;
  rules = refl;
  queue = refl;
  units = refl;
  ordered = record { is_open = o.is_open; first = o.first; window = o.window; high = o.high; edge = o.edge; unit = let l : length s.urgent.units ≡ suc (length units) = ap length is in omega (arith, l) };
  dts = refl;
  asks = New (once s.clock) none refl refl refl;
  aks = refl;
  eas = refl;
  data_are = (record { to = refl; format = refl; sum = refl; kind = refl }, tt);
  quiet = refl;
}

pub urgent_sends : (s : FlowSender) → IsOrdered s → SendsEd s (one_urgent s)
urgent_sends s o =
    if_kept (SendsEd s) (is_some s.urgent.out || length s.urgent.units == 0) _ _
    (λ _. ed_none s o)
    (λ free.
    let both = or_parts (is_some s.urgent.out) (length s.urgent.units == 0) free in
    if_kept (SendsEd s) (rule_allows s s.urgent.blocks s.urgent.next) _ _
    (λ _. ed_goes s s.urgent.units o refl both.1 (is_none s.urgent.out both.0))
    (λ _. ed_held s o))
  where
    is_none : (out : Option Tries) → is_some out ≡ false → out ≡ None
    is_none None e = refl
    is_none (Some tries) e = absurd (cc e)

-- ---- both

pub record SendsNew (s : FlowSender) (x : Sendings) : Type 0 where
  pub onward : IsOnward s x
  pub open onward use *
  pub units : x.sender.urgent.units ≡ s.urgent.units
  pub ordered : IsOrdered x.sender
  pub dts : dts_in x.tpdus ≡ wires (block_in s) s.numbers.next count
  pub asks : Asks (block_in s) s.urgent x.sender.urgent (eds_in x.tpdus)
  pub aks : aks_in x.tpdus ≡ []
  pub eas : eas_in x.tpdus ≡ []
  pub data_are : AreData s.rules x.tpdus
  pub quiet : shown_in x.events ≡ []

both_send : (s : FlowSender) (x : Sendings) (next : FlowSender → Sendings) → SendsEd s x → SendsDts x.sender (next x.sender) → SendsNew s (then_sends x next)
both_send s x next a b =
    let y : Sendings = next x.sender in
    record {
      onward = record {
        count = b.count;
        next = b.next ∙ ap (λ (n : Sender). n.next + b.count) a.numbers;
        base = b.base ∙ ap (λ (n : Sender). n.base) a.numbers;
        credit = b.credit ∙ ap (λ (n : Sender). n.credit) a.numbers;
        subsequence = b.subsequence ∙ ap (λ (n : Sender). n.subsequence) a.numbers;
        rules = b.rules ∙ a.rules;
        queue = b.queue ∙ a.queue;
      };
      units = ap (λ (u : UrgentSender). u.units) b.urgent ∙ a.units;
      ordered = b.ordered;
      dts = dts_then x.tpdus y.tpdus ∙ ap (λ (l : List ℕ). l ++ dts_in y.tpdus) a.dts ∙ b.dts ∙ same b.count;
      asks = subst (λ (u : UrgentSender). Asks (block_in s) s.urgent u (eds_in (x.tpdus ++ y.tpdus))) (sym b.urgent)
          (subst (Asks (block_in s) s.urgent x.sender.urgent) (sym (eds_then x.tpdus y.tpdus ∙ ap (λ (l : List ℕ). eds_in x.tpdus ++ l) b.eds ∙ append-nil (eds_in x.tpdus))) a.asks);
      aks = aks_then x.tpdus y.tpdus ∙ ap (λ (l : List View). l ++ aks_in y.tpdus) a.aks ∙ b.aks;
      eas = eas_then x.tpdus y.tpdus ∙ ap (λ (l : List ℕ). l ++ eas_in y.tpdus) a.eas ∙ b.eas;
      data_are = data_then s.rules x.tpdus y.tpdus a.data_are (subst (λ (r : FlowRules). AreData r y.tpdus) a.rules b.data_are);
      quiet = shown-append x.events y.events ∙ ap (λ (l : List Marked). l ++ shown_in y.events) a.quiet ∙ b.quiet;
    }
  where
    same : (count : ℕ) → wires (block_in x.sender) x.sender.numbers.next count ≡ wires (block_in s) s.numbers.next count
    same count = λ i. wires (block_of ((a.rules i).format)) ((a.numbers i).next) count

pub sends_new : (s : FlowSender) → IsOrdered s → SendsNew s (new_sends s)
sends_new s o =
    subst (λ (b : Bool). SendsNew s (if b then then_sends (one_urgent s) normals_where else nothing s)) (sym o.is_open)
    (both_send s (one_urgent s) normals_where (urgent_sends s o) (where_sends (one_urgent s).sender (urgent_sends s o).ordered))
