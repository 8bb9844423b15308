-- What waits first for an Opened end is nothing that it may not take: a DT carries the piece of its number, an ED was submitted.
use Rattle.std.proofs.Common.{◌≡◌, ℕ, ◌<◌, List, [], ◌∷◌, length, refl, sym, ◌∙◌, ap, subst, arith}
use Rattle.tpdu.specs.declared.tpdu.Tpdu.{Tpdu}
use Rattle.tpdu.specs.declared.tpdu.Tpdu.TheVariants as wires
use Rattle.tp4_number.specs.Formats.{block_of}
use Rattle.tp4_number.specs.Number.{ahead, wire}
use Rattle.tp4_number.specs.Receiver.{Inbox, arrived}
use Rattle.tp4_number.specs.declared.got.Got.TheVariants.{TooLarge}
use Rattle.tp4_number.specs.declared.piece.Piece.{Piece}
use Rattle.tp4_flow.specs.ReceivingHalf.{block_in}
use Rattle.tp4_flow.specs.declared.step.Sent.{Sent}
use Rattle.tp4_conn.specs.declared.states.InOpened.{InOpened}
use Rattle.tp4_conn.specs.declared.states.StateData.{StateData}
use Rattle.tp4_conn.specs.declared.states.StateData.TheVariants.{Opened}
use Rattle.tp4_conn.specs.End.{End, agreed_format}
use Rattle.script_journal.specs.Lawful.{Marked, expediteds, normals}
use Rattle.law_tp4_history.specs.Ends.{Terms, Times}
use Rattle.law_tp4_history.specs.Line.{empty}
use Rattle.law_tp4_history.specs.Tracks.{Track}
use Rattle.law_tp4_history.proofs.Lines.{Fine, fine_empty, fine_runs}
use Rattle.law_tp4_history.specs.Lines.{AreHalvesAt, AreSentIn, IsIn, IsReceivingAt, Stands}
use Rattle.law_tp4_history.specs.Seen.{IsNumbered, seen}
use Rattle.law_recovery_steps.specs.Fitting.{AllShort}
use Rattle.law_recovery_steps.specs.Going.{IsWrong}
use Rattle.law_recovery_steps.proofs.Fitting.{dts_fit}
use Rattle.law_recovery_steps.proofs.Acting.{AreInLines}

module _ (times : Times) (terms : Terms) (now : ℕ) (x y : End) (forth back : List Sent) (u v : List Marked) (l : AreInLines times terms now x y forth back u v) (q : InOpened) (is : y.stage ≡ Opened q) where
  abbrev t : Track
  t = l.there

  fine : Fine t.rules t.size t.tick t.credit t.places t.room t.line
  fine =
      fine_runs t.rules l.mine.run.long t.size l.mine.run.some t.tick t.credit t.places t.room l.mine.run.credit_low l.mine.run.room_low (empty t.tick t.credit t.places t.room) t.line l.mine.run.happenings l.mine.run.runs
      (fine_empty t.rules l.mine.run.long t.size l.mine.run.some t.tick t.credit t.places t.room l.mine.run.credit_low l.mine.run.room_low)

  halves : AreHalvesAt (agreed_format y.base.agreed) q.halves l.here l.there
  halves = subst (λ (stage : StateData). Stands terms y.base stage l.here l.there) is l.theirs.stands

  receiving : IsReceivingAt q.halves.receiving t
  receiving = halves.receiving

  small : (n : ℕ) (piece : Piece) → IsIn l.there l.here now (seen n (wires.Dt 0 piece.last 0 piece.octets)).body → (arrived t.rules.block t.line.world.receiver.inbox (ahead t.rules.block (wire t.rules.block t.line.world.receiver.expected) (wire t.rules.block n)) piece).got ≡ TooLarge → ⊥
  small n piece i =
      dts_fit t.rules t.tick t.credit t.places t.room fine.events t.line.world l.mine.run.long l.mine.run.credit_low l.mine.run.room_low fine.leads t.size (normals t.line.submitted)
      (record {
        some = l.mine.run.some;
        full = fine.filled.full;
        short = subst (λ (units : List Marked). AllShort (normals units)) (sym l.mine.submitted) l.mine.short;
        shown = normals t.line.shown;
        complete = fine.filled.complete;
        held = fine.filled.held;
      }) n now piece (i.1, omega (arith, l.mine.run.at.0)) i.2

  large_not : (n number : ℕ) (piece : Piece) → number ≡ wire (block_in q.halves.receiving) n → IsIn l.there l.here now (seen n (wires.Dt 0 piece.last 0 piece.octets)).body
      → (arrived (block_in q.halves.receiving) q.halves.receiving.receiver.inbox (ahead (block_in q.halves.receiving) (wire (block_in q.halves.receiving) q.halves.receiving.receiver.expected) number) piece).got ≡ TooLarge → ⊥
  large_not n number piece w i =
      subst (λ (k : ℕ). (arrived (block_in q.halves.receiving) q.halves.receiving.receiver.inbox (ahead (block_in q.halves.receiving) (wire (block_in q.halves.receiving) q.halves.receiving.receiver.expected) k) piece).got ≡ TooLarge → ⊥) (sym w)
      (subst (λ (inbox : Inbox). (arrived (block_in q.halves.receiving) inbox (ahead (block_in q.halves.receiving) (wire (block_in q.halves.receiving) q.halves.receiving.receiver.expected) (wire (block_in q.halves.receiving) n)) piece).got ≡ TooLarge → ⊥) receiving.inbox
      (subst (λ (e : ℕ). (arrived (block_in q.halves.receiving) t.line.world.receiver.inbox (ahead (block_in q.halves.receiving) (wire (block_in q.halves.receiving) e) (wire (block_in q.halves.receiving) n)) piece).got ≡ TooLarge → ⊥) receiving.expected
      (subst (λ (b : ℕ). (arrived b t.line.world.receiver.inbox (ahead b (wire b t.line.world.receiver.expected) (wire b n)) piece).got ≡ TooLarge → ⊥) receiving.block
      (small n piece i))))

  -- the format of what comes is the one agreed on
  block_same : (f : ℕ) → f ≡ block_of (agreed_format y.base.agreed) → f ≡ block_in q.halves.receiving
  block_same f e = e ∙ sym halves.their_block ∙ receiving.block

  none_in : (units : List (List ℕ)) (n : ℕ) → units ≡ [] → n < length units → ⊥
  none_in units n e low = omega (arith, ap length e, low)

  wrong_not : (tpdu : Tpdu) (n : ℕ) → IsNumbered (block_of (agreed_format y.base.agreed)) n tpdu → IsIn l.there l.here now (seen n tpdu).body → IsWrong y.base q tpdu → ⊥
  wrong_not (wires.Dt destination last number text) n w i wrong =
      large_not n number (record { last = last; octets = text }) (w ∙ ap (λ (b : ℕ). wire b n) (block_same _ refl)) i wrong
  wrong_not (wires.Ed destination last number text) n w i wrong =
      none_in (expediteds t.line.submitted) n (ap expediteds l.mine.submitted ∙ l.mine.urged (l.expedited ∙ wrong)) i.2
  wrong_not other n w i wrong = wrong

  pub first_fits : (sent : Sent) (rest : List Sent) → forth ≡ sent ∷ rest → block_of sent.format ≡ block_of (agreed_format y.base.agreed) → IsWrong y.base q sent.tpdu → ⊥
  first_fits sent rest waits format =
      let s = (subst (AreSentIn l.there l.here now) waits l.forth_in).0 in
      wrong_not sent.tpdu s.n (subst (λ (b : ℕ). IsNumbered b s.n sent.tpdu) format s.numbered) s.stands
