-- The halves of a partner stay where they stand whatever the end does, and so do all halves as the clock moves.
use Rattle.std.proofs.Common.{◌≡◌, ℕ, ◌+◌, ◌≤◌, List, length, Option, Some, sym, ◌∙◌, ap, subst, arith}
use Rattle.std.proofs.lemmas.Option.{none-some, same_Some}
use Rattle.tpdu.specs.declared.tpdu.Format.{Format}
use Rattle.tpdu.specs.declared.tpdu.Format.TheVariants as formats
use Rattle.tpdu.specs.declared.tpdu.Tpdu.{Tpdu}
use Rattle.tpdu.specs.declared.tpdu.Tpdu.TheVariants.{Cr}
use Rattle.tpdu.specs.Writing.{IsAllowed}
use Rattle.script_journal.specs.Lawful.{Marked, normals, expediteds}
use Rattle.tp4_number.specs.Receiver.{Receiver}
use Rattle.tp4_number.specs.Traffic.{Rules}
use Rattle.tp4_flow.specs.ReceivingHalf.{Half}
use Rattle.tp4_sending.specs.SendingHalf.{FlowSender}
use Rattle.tp4_sending.specs.Kept.{urgent_base}
use Rattle.tp4_conn.specs.declared.end_record.EndRecord.{EndRecord}
use Rattle.tp4_conn.specs.declared.halves.Halves.{Halves}
use Rattle.tp4_conn.specs.declared.states.StateData.{StateData}
use Rattle.tp4_conn.specs.declared.states.StateData.TheVariants.{CrWait, UserWait, AkWait, Opened}
use Rattle.tp4_conn.specs.declared.timers.Timers.{Timers}
use Rattle.tp4_conn.specs.End.{Moved}
use Rattle.tp4_conn.specs.Making.{on_cr}
use Rattle.law_tp4_history.specs.Ends.{Terms, Offer}
use Rattle.law_tp4_history.specs.Tracks.{Track, CanOut, CanIn, GoesOn, clocked}
use Rattle.law_tp4_history.specs.Lines.{IsSendingAt, IsReceivingAt, AreHalvesAt, AreUntouched, Stands, IsTimely}
use Rattle.law_tp4_history.proofs.FlowGoes.{begun_on, rules_on, size_on, outs_below, ins_above}

module _ (taken : Option Offer) (old new : Track) where
  sending_kept : (s : FlowSender) → GoesOn (CanIn taken) old new → IsSendingAt s old → IsSendingAt s new
  sending_kept s g h =
      let a = ins_above taken old old.line new.line g.happenings g.runs in
      record {
        begun = begun_on (CanIn taken) old new g;
        block = ap (λ (r : Rules). r.block) (rules_on (CanIn taken) old new g) ∙ h.block;
        limit = ap (λ (r : Rules). r.limit) (rules_on (CanIn taken) old new g) ∙ h.limit;
        size = size_on (CanIn taken) old new g ∙ h.size;
        numbers = a.sender ∙ h.numbers;
        window = h.window;
        first = h.first;
        acknowledged = h.acknowledged;
        normal = ap normals a.submitted ∙ h.normal;
        pieces = h.pieces;
        next = a.next ∙ h.next;
        blocks = a.blocks ∙ h.blocks;
        base = subst (λ (n : ℕ). urgent_base s.urgent s.urgent.out n) (sym a.base) h.base;
        answered = h.answered;
        expedited = ap expediteds a.submitted ∙ h.expedited;
        answers = h.answers ∙ sym a.base;
        sent = omega (arith, h.sent, ap (λ (us : List Marked). length (expediteds us)) a.submitted);
      }

  receiving_kept : (h : Half) → GoesOn (CanOut taken) old new → IsReceivingAt h old → IsReceivingAt h new
  receiving_kept h g r =
      let a = outs_below taken old old.line new.line g.happenings g.runs in
      record {
        begun = begun_on (CanOut taken) old new g;
        block = ap (λ (u : Rules). u.block) (rules_on (CanOut taken) old new g) ∙ r.block;
        expected = ap (λ (x : Receiver). x.expected) a.receiver ∙ r.expected;
        inbox = ap (λ (x : Receiver). x.inbox) a.receiver ∙ r.inbox;
        urgent = a.expected ∙ r.urgent;
      }

-- own and theirs are the lines of the end that moves
module _ (taken : Option Offer) (own theirs own' theirs' : Track) (out : GoesOn (CanOut taken) own own') (back : GoesOn (CanIn taken) theirs theirs') where
  halves_kept : (format : Format) (h : Halves) → AreHalvesAt format h theirs own → AreHalvesAt format h theirs' own'
  halves_kept width h s = record {
    sending = sending_kept taken theirs theirs' h.sending back s.sending;
    receiving = receiving_kept taken own own' h.receiving out s.receiving;
    own_block = ap (λ (r : Rules). r.block) (rules_on (CanIn taken) theirs theirs' back) ∙ s.own_block;
    their_block = ap (λ (r : Rules). r.block) (rules_on (CanOut taken) own own' out) ∙ s.their_block;
  }

  untouched_kept : (terms : Terms) (b : EndRecord) → AreUntouched terms b theirs own → AreUntouched terms b theirs' own'
  untouched_kept terms b u = record {
    options = u.options;
    terms_are = u.terms_are;
    credit = u.credit;
    sending = sending_kept taken theirs theirs' _ back u.sending;
    receiving = receiving_kept taken own own' _ out u.receiving;
  }

  pub partner_stands : (terms : Terms) (b : EndRecord) (stage : StateData) → Stands terms b stage theirs own → Stands terms b stage theirs' own'
  partner_stands terms b (CrWait w) s = λ begun. untouched_kept terms b (s back.begun)
  partner_stands terms b (UserWait since) s = s
  partner_stands terms b (AkWait w) s = halves_kept _ w.halves s
  partner_stands terms b (Opened o) s = halves_kept _ o.halves s
  partner_stands terms b other s = tt

-- a tick of the clock
sending_later : (s : FlowSender) (t : Track) → IsSendingAt s t → IsSendingAt s (clocked t)
sending_later s t h = record {
  begun = h.begun;
  block = h.block;
  limit = h.limit;
  size = h.size;
  numbers = h.numbers;
  window = h.window;
  first = h.first;
  acknowledged = h.acknowledged;
  normal = h.normal;
  pieces = h.pieces;
  next = h.next;
  blocks = h.blocks;
  base = h.base;
  answered = h.answered;
  expedited = h.expedited;
  answers = h.answers;
  sent = h.sent;
}

receiving_later : (h : Half) (t : Track) → IsReceivingAt h t → IsReceivingAt h (clocked t)
receiving_later h t r = record { begun = r.begun; block = r.block; expected = r.expected; inbox = r.inbox; urgent = r.urgent }

halves_later : (format : Format) (h : Halves) (own theirs : Track) → AreHalvesAt format h own theirs → AreHalvesAt format h (clocked own) (clocked theirs)
halves_later width h own theirs s = record {
  sending = sending_later h.sending own s.sending;
  receiving = receiving_later h.receiving theirs s.receiving;
  own_block = s.own_block;
  their_block = s.their_block;
}

untouched_later : (terms : Terms) (b : EndRecord) (own theirs : Track) → AreUntouched terms b own theirs → AreUntouched terms b (clocked own) (clocked theirs)
untouched_later terms b own theirs u = record {
  options = u.options;
  terms_are = u.terms_are;
  credit = u.credit;
  sending = sending_later _ own u.sending;
  receiving = receiving_later _ theirs u.receiving;
}

pub later_stands : (terms : Terms) (b : EndRecord) (stage : StateData) (own theirs : Track) → Stands terms b stage own theirs → Stands terms b stage (clocked own) (clocked theirs)
later_stands terms b (CrWait w) own theirs s = λ begun. untouched_later terms b own theirs (s begun)
later_stands terms b (UserWait since) own theirs s = s
later_stands terms b (AkWait w) own theirs s = halves_later _ w.halves own theirs s
later_stands terms b (Opened o) own theirs s = halves_later _ o.halves own theirs s
later_stands terms b other own theirs s = tt

pub later_timely : (now : ℕ) (t : Track) → IsTimely now t → IsTimely (now + 1) (clocked t)
later_timely now t c begun = let at = c begun in record { world = ap (λ (n : ℕ). n + 1) at.world; urgent = ap (λ (n : ℕ). n + 1) at.urgent }

-- an end that a CR made
pub called_stands : (terms : Terms) (made own : ℕ) (from : List ℕ) (rules : Timers) (cr : Tpdu) (m : Moved) (its theirs : Track) → IsAllowed formats.Normal cr → on_cr made own from rules cr ≡ Some m
    → Stands terms m.base m.stage its theirs
called_stands terms made own from rules (Cr credit source width calling called size preferred extra version classes ack_time text) m its theirs a e =
    let low : credit ≤ 15 = omega (arith, a.few_credits) in
    subst (λ (x : Moved). Stands terms x.base x.stage its theirs) (same_Some _ _ e) low
called_stands terms made own from rules other m its theirs a e = absurd (none-some _ e)
