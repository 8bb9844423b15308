-- Whatever happens to two Opened ends in order, they stand in their lines, as long as both are Opened.
use Rattle.std.proofs.Common.{◌≡◌, inl, inr, ℕ, ◌+◌, Bool, List, [], ◌∷◌, ◌++◌, None, refl, sym, ◌∙◌, ap, subst}
use Rattle.tp4_number.specs.Formats.{block_of, most_of}
use Rattle.tp4_number.specs.Number.{whole}
use Rattle.tp4_flow.specs.declared.rules.FlowRules.{FlowRules}
use Rattle.tp4_flow.specs.declared.step.Sent.{Sent}
use Rattle.tp4_conn.specs.declared.end_record.EndRecord.{EndRecord}
use Rattle.tp4_conn.specs.declared.call.UserCall.{UserCall}
use Rattle.tp4_conn.specs.declared.states.InOpened.{InOpened}
use Rattle.tp4_conn.specs.declared.states.StateData.{StateData}
use Rattle.tp4_conn.specs.declared.states.StateData.TheVariants.{Opened}
use Rattle.tp4_conn.specs.Calls.{call_refusal}
use Rattle.tp4_conn.specs.End.{End, Moved, agreed_format, end_of}
use Rattle.tp4_conn.specs.Proper.{AreSendable}
use Rattle.tp4_conn.specs.Table.{Called, Took, stepped}
use Rattle.script_journal.specs.Lawful.{Marked}
use Rattle.law_tp4_history.specs.Ends.{Terms, Times}
use Rattle.law_tp4_history.specs.Tracks.{Track, clocked}
use Rattle.law_tp4_history.specs.Lines.{AreSentIn, Stands}
use Rattle.law_tp4_pair.specs.Pair.{Asks_called, Asks_calling, Clock, Comes_back, Comes_forth, Happening, IsIdle, Leads, May, Pair, comes_back, comes_forth, next, tick_of}
use Rattle.law_tp4_pair.specs.Standing.{HasLeft, party}
use Rattle.law_tp4_pair.specs.Waiting.{AreData}
use Rattle.law_recovery_steps.specs.Beginning.{AreAgreed}
use Rattle.law_recovery_steps.specs.Known.{AreKnown}
use Rattle.law_recovery_steps.specs.Resting.{AreBegun}
use Rattle.law_recovery_steps.specs.Steps.{AreRiding, IsParted, IsRiding, Since}
use Rattle.law_recovery_steps.proofs.Beginning.{pair_begins}
use Rattle.law_recovery_steps.proofs.Pairs.{parted_after, steps_on, turned as ride_turned}
use Rattle.law_recovery_steps.proofs.Resting.{first, one as one_now, other as other_now}
use Rattle.law_recovery_steps.specs.Going.{AreBothOpened, IsWrongFirst}
use Rattle.law_recovery_steps.specs.Lined.{AreLined, IsSide}
use Rattle.law_recovery_steps.proofs.Acting.{AreInLines, Flows, Partners, calls, comes, ticks, turned}
use Rattle.law_recovery_steps.proofs.FirstFits.{first_fits}
use Rattle.law_recovery_steps.proofs.Growing.{run_clocked}

abbrev pub Laters : Type 0
Laters = (terms : Terms) (b : EndRecord) (stage : StateData) (own theirs : Track) → Stands terms b stage own theirs → Stands terms b stage (clocked own) (clocked theirs)

-- a pair in the lines of its connection
abbrev InLines : Times → Terms → Pair → Type 0
InLines times terms p = AreInLines times terms p.clock p.calling p.called p.forth p.back p.calling_gave p.called_gave

opened_stays : (o : InOpened) (stage : StateData) → stage ≡ Opened o → HasLeft stage → ⊥
opened_stays o stage is left = subst HasLeft is left

-- what waits first has the format that the end agreed on, which takes it
module _ (life size u now : ℕ) (one other : Since) (x y : End) (o q : InOpened) (forth back : List Sent) (r : AreRiding life size u now one other (party x.base) (party y.base) o q forth back) (sent : Sent) (rest : List Sent) (waits : forth ≡ sent ∷ rest) where
  data_are : AreData one.rules (sent ∷ rest)
  data_are = subst (AreData one.rules) waits r.forth_are

  format : sent.format ≡ agreed_format y.base.agreed
  format =
      data_are.0.format ∙ ap (λ (f : FlowRules). f.format) (sym r.ours.sending) ∙ sym r.there.format ∙ ap (λ (f : FlowRules). f.format) r.theirs.receiving ∙ r.theirs.format ∙ sym (ap agreed_format r.theirs.agreed_is)

module _ (flows : Flows) (partners : Partners) (laters : Laters) (life size u : ℕ) (one other : Since) (times : Times) (terms : Terms) where
  module _ (p : Pair) (r : IsRiding life size u one other p) (l : InLines times terms p) where
    forth_on : (waits : List Sent) → p.forth ≡ waits → InLines times terms (comes_forth p waits)
    forth_on [] e = l
    forth_on (sent ∷ rest) e =
        comes flows partners times terms p.clock p.calling p.called r.q r.called p.forth p.back p.calling_gave p.called_gave l sent rest e one.rules.partner
        (subst (AreData one.rules) e r.both.forth_are).0.kind (format life size u p.clock one other p.calling p.called r.o r.q p.forth p.back r.both sent rest e)

    flipped : AreInLines times terms p.clock p.called p.calling p.back p.forth p.called_gave p.calling_gave
    flipped = turned times terms p.clock p.calling p.called p.forth p.back p.calling_gave p.called_gave l

    ride_flipped : AreRiding life size u p.clock other one (party p.called.base) (party p.calling.base) r.q r.o p.back p.forth
    ride_flipped = ride_turned life size u p.clock one other (party p.calling.base) (party p.called.base) r.o r.q p.forth p.back r.both

    back_on : (waits : List Sent) → p.back ≡ waits → InLines times terms (comes_back p waits)
    back_on [] e = l
    back_on (sent ∷ rest) e =
        turned times terms p.clock p.called (end_of (stepped whole p.clock p.calling (Took sent.tpdu sent.sum))) rest (p.forth ++ (stepped whole p.clock p.calling (Took sent.tpdu sent.sum)).tpdus) p.called_gave p.calling_gave
        (comes flows partners times terms p.clock p.called p.calling r.o r.calling p.back p.forth p.called_gave p.calling_gave flipped sent rest e other.rules.partner
        (subst (AreData other.rules) e r.both.back_are).0.kind (format life size u p.clock other one p.called p.calling r.q r.o p.back p.forth ride_flipped sent rest e))

    called_on : (call : UserCall) → call_refusal p.called.base p.called.stage call ≡ None → InLines times terms (next p (Asks_called call))
    called_on call may = calls flows partners times terms p.clock p.calling p.called r.q r.called p.forth p.back p.calling_gave p.called_gave l call may

    calling_on : (call : UserCall) → call_refusal p.calling.base p.calling.stage call ≡ None → InLines times terms (next p (Asks_calling call))
    calling_on call may =
        turned times terms p.clock p.called (end_of (stepped whole p.clock p.calling (Called call))) p.back (p.forth ++ (stepped whole p.clock p.calling (Called call)).tpdus) p.called_gave _
        (calls flows partners times terms p.clock p.called p.calling r.o r.calling p.back p.forth p.called_gave p.calling_gave flipped call may)

    -- the clock
    side_clocked : (e : End) (own theirs : Track) (gave : List Marked) → IsSide times terms p.clock e own theirs gave → IsSide times terms (p.clock + 1) e (clocked own) (clocked theirs) gave
    side_clocked e own theirs gave s = record {
      stands = laters terms e.base e.stage own theirs s.stands;
      proper = s.proper;
      life = s.life;
      run = run_clocked times p.clock own s.run;
      submitted = s.submitted;
      short = s.short;
      urged = s.urged;
    }

    later : AreInLines times terms (p.clock + 1) p.called p.calling [] [] p.called_gave p.calling_gave
    later = record {
      there = clocked l.here;
      here = clocked l.there;
      mine = side_clocked p.called l.here l.there p.called_gave l.theirs;
      theirs = side_clocked p.calling l.there l.here p.calling_gave l.mine;
      expedited = sym l.expedited;
      forth_in = tt;
      back_in = tt;
      forth_are = tt;
      back_are = tt;
    }

    clock_on : IsIdle p → (calling called : Bool) → InLines times terms (next p (Clock calling called))
    clock_on idle calling called =
        let m : Moved = tick_of calling (p.clock + 1) p.calling in
        let n : Moved = tick_of called (p.clock + 1) p.called in
        let mid = turned times terms (p.clock + 1) p.called (end_of m) [] m.tpdus p.called_gave p.calling_gave
        (ticks flows partners times terms (p.clock + 1) p.called p.calling r.o r.calling [] [] p.called_gave p.calling_gave later calling) in
        subst (λ (waits : List Sent). AreInLines times terms (p.clock + 1) (end_of m) (end_of n) (waits ++ m.tpdus) (p.back ++ n.tpdus) p.calling_gave p.called_gave) (sym idle.forth)
        (subst (λ (waits : List Sent). AreInLines times terms (p.clock + 1) (end_of m) (end_of n) m.tpdus (waits ++ n.tpdus) p.calling_gave p.called_gave) (sym idle.back)
        (ticks flows partners times terms (p.clock + 1) (end_of m) p.called r.q r.called m.tpdus [] p.calling_gave p.called_gave mid called))

    on : (happening : Happening) → May p happening → InLines times terms (next p happening)
    on Comes_forth may = forth_on p.forth refl
    on Comes_back may = back_on p.back refl
    on (Asks_calling call) may = calling_on call may.1
    on (Asks_called call) may = called_on call may.1
    on (Clock calling called) may = clock_on may calling called

    wrong_not : (o q : InOpened) → p.calling.stage ≡ Opened o → p.called.stage ≡ Opened q → (IsWrongFirst p.called p.forth → ⊥) × (IsWrongFirst p.calling p.back → ⊥)
    wrong_not o q mine theirs = (forth_fits p.forth refl, back_fits p.back refl)
      where
        forth_fits : (waits : List Sent) → p.forth ≡ waits → IsWrongFirst p.called waits → ⊥
        forth_fits [] e wrong = wrong
        forth_fits (sent ∷ rest) e wrong =
            first_fits times terms p.clock p.calling p.called p.forth p.back p.calling_gave p.called_gave l wrong.0 wrong.1 sent rest e
            (ap block_of (format life size u p.clock one other p.calling p.called r.o r.q p.forth p.back r.both sent rest e)) wrong.2

        back_fits : (waits : List Sent) → p.back ≡ waits → IsWrongFirst p.calling waits → ⊥
        back_fits [] e wrong = wrong
        back_fits (sent ∷ rest) e wrong =
            first_fits times terms p.clock p.called p.calling p.back p.forth p.called_gave p.calling_gave flipped wrong.0 wrong.1 sent rest e
            (ap block_of (format life size u p.clock other one p.called p.calling r.q r.o p.back p.forth ride_flipped sent rest e)) wrong.2

  both_open : (p : Pair) → AreBothOpened p → IsParted p → ⊥
  both_open p b (inl left) = opened_stays b.o p.calling.stage b.calling left
  both_open p b (inr left) = opened_stays b.q p.called.stage b.called left

  after : (happenings : List Happening) (p mid : Pair) → IsRiding life size u one other p → InLines times terms p → Leads p happenings mid → AreBothOpened mid
      → (IsWrongFirst mid.called mid.forth → ⊥) × (IsWrongFirst mid.calling mid.back → ⊥)
  after [] p mid r l leads b =
      subst (λ (n : Pair). (IsWrongFirst n.called n.forth → ⊥) × (IsWrongFirst n.calling n.back → ⊥)) (sym leads) (wrong_not p r l r.o r.q r.calling r.called)
  after (happening ∷ happenings) p mid r l leads b = elim (steps_on life size u one other p happening r leads.0) [
    | inl left ↦ absurd (both_open mid b (parted_after (next p happening) mid happenings left leads.1))
    | inr onward ↦ after happenings (next p happening) mid onward (on p r l happening leads.0) leads.1 b
  ]

pub lines_fit : Flows → Partners → Laters → (life : ℕ) (times : Times) (terms : Terms) (p mid : Pair) (o q : InOpened) (happenings : List Happening) → AreKnown life p o q → AreAgreed p o q → AreLined times terms p
    → Leads p happenings mid → AreBothOpened mid → (IsWrongFirst mid.called mid.forth → ⊥) × (IsWrongFirst mid.calling mid.back → ⊥)
lines_fit flows partners laters life times terms p mid o q happenings known agreed lined leads b =
    after flows partners laters life (most_of o.halves.sending.rules.format) (p.clock + 1) (one_now life (most_of o.halves.sending.rules.format) p o q begun) (other_now life (most_of o.halves.sending.rules.format) p o q begun) times terms happenings p mid (first life (most_of o.halves.sending.rules.format) p o q begun) lines leads b
  where
    begun : AreBegun life (most_of o.halves.sending.rules.format) p o q
    begun = pair_begins life p o q known agreed

    lines : InLines times terms p
    lines = record {
      there = lined.there;
      here = lined.here;
      mine = lined.calling;
      theirs = lined.called;
      expedited = lined.expedited;
      forth_in = subst (λ (waits : List Sent). AreSentIn lined.there lined.here p.clock waits) (sym known.idle.forth) tt;
      back_in = subst (λ (waits : List Sent). AreSentIn lined.here lined.there p.clock waits) (sym known.idle.back) tt;
      forth_are = subst AreSendable (sym known.idle.forth) tt;
      back_are = subst AreSendable (sym known.idle.back) tt;
    }
