-- Whatever happens to two Opened ends in order: they ride on, or one has left, why, and the other too.
use Rattle.std.proofs.Common.{◌≡◌, ◌⊎◌, inl, inr, ◌<◌, ◌≤◌, ℕ, ◌+◌, Bool, ◌&&◌, not, List, [], ◌∷◌, ◌++◌, Option, None, refl, sym, ◌∙◌, ap, subst, arith}
use Rattle.tp4_number.specs.Formats.{most_of}
use Rattle.tp4_number.specs.Number.{whole}
use Rattle.tp4_number.specs.Traffic.{Traffic}
use Rattle.tp4_flow.specs.ReceivingHalf.{Half}
use Rattle.tp4_flow.specs.declared.rules.FlowRules.{FlowRules}
use Rattle.tpdu.specs.declared.service.Options.{Options}
use Rattle.tp4_flow.specs.declared.step.Sent.{Sent}
use Rattle.tp4_sending.specs.SendingHalf.{FlowSender, block_in}
use Rattle.tp4_conn.specs.declared.call.UserCall.{UserCall}
use Rattle.tp4_conn.specs.declared.states.InOpened.{InOpened}
use Rattle.tp4_conn.specs.declared.states.StateData.{StateData}
use Rattle.tp4_conn.specs.declared.states.StateData.TheVariants.{Opened}
use Rattle.tp4_conn.specs.declared.timers.Timers.{Timers}
use Rattle.tp4_conn.specs.End.{Moved, agreed_sum, end_of}
use Rattle.tp4_conn.specs.Living.{IsInTime}
use Rattle.tp4_conn.specs.Matching.{sum_agreed}
use Rattle.tp4_conn.specs.Table.{Called, Took, at, due, on_call, stepped, takes}
use Rattle.law_tp4_pair.specs.Pair.{Asks_called, Asks_calling, Clock, Comes_back, Comes_forth, Happening, IsIdle, Leads, May, Pair, asks_called, asks_calling, comes_back, comes_forth, next, tick_of}
use Rattle.law_tp4_pair.specs.Standing.{party}
use Rattle.law_recovery_pair.specs.Riding.{road_of}
use Rattle.law_recovery_ends.specs.Due.{AreYoung}
use Rattle.law_recovery_ends.proofs.Due.{undue}
use Rattle.law_recovery_steps.specs.Beginning.{AreAgreed}
use Rattle.law_recovery_steps.specs.Directions.{Rides}
use Rattle.law_recovery_steps.specs.Known.{AreKnown}
use Rattle.law_recovery_steps.specs.Quieting.{IsYoung}
use Rattle.law_recovery_steps.specs.Resting.{AreBegun, AreLater, IsBegun, since}
use Rattle.law_recovery_steps.specs.Steps.{AreRiding, IsParted, IsRiding, Since}
use Rattle.law_recovery_steps.specs.Urging.{Urges}
use Rattle.law_recovery_steps.proofs.Beginning.{pair_begins}
use Rattle.law_recovery_steps.proofs.Pairs.{back_clock, clock_riding, forth_clock}
use Rattle.law_recovery_steps.proofs.Quieting.{eds_young}
use Rattle.law_recovery_steps.proofs.Sending.{no_aks, no_dts}
use Rattle.law_recovery_steps.proofs.Resting.{begins_again, begins_riding, first, one as one_now, one_since, other as other_now, other_since, past_for, quiet_in}
use Rattle.law_recovery_steps.specs.Going.{AreBothOpened, AreTicked, AreTimes, HasParted, HaveTimers, IsDisconnect, IsWrong, IsWrongFirst, LeavesBy}
use Rattle.law_recovery_steps.proofs.Causes.{IsEarly, begins_early}
use Rattle.law_recovery_steps.proofs.Going.{Acts, AreGoing, ByTick, IsKept, calls_acts, leaves_follow, same_open, sums_agree, takes_acts, tick_row, ticks_act, turned_going, why_ticks}
use Rattle.law_recovery_steps.proofs.Parting.{AreParting, both_left, parting_after}
use Rattle.law_recovery_steps.proofs.PartingRows.{RowDoes, RowLeaves, release_then}
use Rattle.law_recovery_steps.proofs.Spoken.{numbers_end}

-- T1 after t0 nothing is tried any more, where nothing waits
ended_in : (life size t1 clock now : ℕ) (s t : FlowSender) (h k : Half) (acked later : ℕ) (b : IsBegun life size clock s h acked) → t.rules ≡ s.rules
    → Rides life size (clock + 1) now (since life clock s h b.aside b.asked.urgent).road t k [] [] later → Urges life (clock + 1) now (since life clock s h b.aside b.asked.urgent).urgent t k [] []
    → AreYoung t1 now t.window → IsYoung t1 now t.urgent.out → clock + t1 ≤ now → (t.window ≡ []) × (t.urgent.out ≡ None)
ended_in life size t1 clock now s t h k acked later b same r e young young_ed late =
    let w : Traffic = (road_of clock s.numbers h b.aside).traffic in (
      numbers_end life size t1 now w t k r.aside (past_for life size s t w same b.past)
          (record { goes = r.goes; no_dts = no_dts (block_in t) r.aside.dts r.dts_are; no_aks = no_aks (block_in t) r.aside.aks r.aks_are; window = r.fed.window }) r.tried young late,
      (quiet_in life size t1 clock now s t h k acked b same e young_ed late).out,
    )

-- both ends at a tick at which nothing waits have tried nothing longer than T1 ago
abbrev HaveEnded : ℕ → InOpened → InOpened → ℕ → Type 0
HaveEnded limit o q now = limit ≤ now → ((o.halves.sending.window ≡ []) × (o.halves.sending.urgent.out ≡ None)) × ((q.halves.sending.window ≡ []) × (q.halves.sending.urgent.out ≡ None))

-- their halves have T1 and N of the timers
record AreBy (t : Timers) (o q : InOpened) : Type 0 where
  one_t1 : o.halves.sending.rules.t1 ≡ t.t1
  other_t1 : q.halves.sending.rules.t1 ≡ t.t1
  one_sendings : o.halves.sending.rules.sendings ≡ t.sendings
  other_sendings : q.halves.sending.rules.sendings ≡ t.sendings

by_rules : (t : Timers) (o q r k : InOpened) → r.halves.sending.rules ≡ o.halves.sending.rules → k.halves.sending.rules ≡ q.halves.sending.rules → AreBy t o q → AreBy t r k
by_rules t o q r k one other b = record {
  one_t1 = ap (λ (f : FlowRules). f.t1) one ∙ b.one_t1;
  other_t1 = ap (λ (f : FlowRules). f.t1) other ∙ b.other_t1;
  one_sendings = ap (λ (f : FlowRules). f.sendings) one ∙ b.one_sendings;
  other_sendings = ap (λ (f : FlowRules). f.sendings) other ∙ b.other_sendings;
}

module _ (life size t0 : ℕ) (t : Timers) (times : AreTimes t) (was their : InOpened) where
  record IsGoing (one other : Since) (p : Pair) : Type 0 where
    o : InOpened
    q : InOpened
    calling : p.calling.stage ≡ Opened o
    called : p.called.stage ≡ Opened q
    from : t0 ≤ p.clock
    going : AreGoing life size t0 t p.clock was their one other p.calling p.called o q p.forth p.back

  opened : (one other : Since) (p : Pair) → IsGoing one other p → AreBothOpened p
  opened one other p g = record { o = g.o; q = g.q; calling = g.calling; called = g.called }

  -- one left by what happened
  abbrev Leaves : Pair → Type 0 → Type 0
  Leaves new Why = IsParted new × Why × AreParting new

  module _ (one other : Since) (p : Pair) (g : IsGoing one other p) where
    back_going : AreGoing life size t0 t p.clock their was other one p.called p.calling g.q g.o p.back p.forth
    back_going = turned_going life size t0 t p.clock was their one other p.calling p.called g.o g.q p.forth p.back g.going

    -- the called end did something
    called_did : {Why : Type 0} (m : Moved) (rest : List Sent) (new : Pair) → new.clock ≡ p.clock → new.calling ≡ p.calling → new.called ≡ end_of m → new.forth ≡ rest → new.back ≡ p.back ++ m.tpdus
        → Acts life size t0 t p.clock was their one other p.calling p.called g.o Why rest p.back m → IsGoing one other new ⊎ Leaves new Why
    called_did {Why} m rest new clock calling called forth back a = elim a [
      | inl leaves ↦ inr (
        subst IsParted same (inr leaves.left),
        leaves.why,
        subst AreParting same (inr (leaves_follow life size t0 t p.clock was their one other p.calling p.called g.o g.q p.forth p.back m g.going g.calling leaves p.back)),
      )
      | inr on ↦ inl (subst (IsGoing one other) same (record { o = g.o; q = on.0; calling = g.calling; called = on.1; from = g.from; going = on.2 }))
    ]
      where
        same : record new { clock = p.clock; calling = p.calling; called = end_of m; forth = rest; back = p.back ++ m.tpdus } ≡ new
        same = λ i. record new { clock = sym clock i; calling = sym calling i; called = sym called i; forth = sym forth i; back = sym back i }

    -- the calling end did
    calling_did : {Why : Type 0} (m : Moved) (rest : List Sent) (new : Pair) → new.clock ≡ p.clock → new.calling ≡ end_of m → new.called ≡ p.called → new.forth ≡ p.forth ++ m.tpdus → new.back ≡ rest
        → Acts life size t0 t p.clock their was other one p.called p.calling g.q Why rest p.forth m → IsGoing one other new ⊎ Leaves new Why
    calling_did {Why} m rest new clock calling called forth back a = elim a [
      | inl leaves ↦ inr (
        subst IsParted same (inl leaves.left),
        leaves.why,
        subst AreParting same (inl (leaves_follow life size t0 t p.clock their was other one p.called p.calling g.q g.o p.back p.forth m back_going g.called leaves p.forth)),
      )
      | inr on ↦ inl (subst (IsGoing one other) same (record {
        o = on.0;
        q = g.q;
        calling = on.1;
        called = g.called;
        from = g.from;
        going = turned_going life size t0 t p.clock their was other one p.called (end_of m) g.q on.0 rest (p.forth ++ m.tpdus) on.2;
      }))
    ]
      where
        same : record new { clock = p.clock; calling = end_of m; called = p.called; forth = p.forth ++ m.tpdus; back = rest } ≡ new
        same = λ i. record new { clock = sym clock i; calling = sym calling i; called = sym called i; forth = sym forth i; back = sym back i }

    forth_on : (l : List Sent) → p.forth ≡ l → IsGoing one other (comes_forth p l) ⊎ Leaves (comes_forth p l) (IsWrongFirst p.called l)
    forth_on [] e = inl g
    forth_on (sent ∷ rest) e =
        let m : Moved = stepped whole p.clock p.called (Took sent.tpdu sent.sum) in
        let x : Acts life size t0 t p.clock was their one other p.calling p.called g.o (IsWrong p.called.base g.q sent.tpdu) rest p.back m =
        subst (λ (stage : StateData). Acts life size t0 t p.clock was their one other p.calling p.called g.o (IsWrong p.called.base g.q sent.tpdu) rest p.back (takes whole p.clock p.called.base stage sent.tpdu sent.sum)) (sym g.called)
        (takes_acts life size t0 t p.clock was their one other p.calling p.called g.o g.q sent rest p.back g.from
        (subst (λ (l : List Sent). AreGoing life size t0 t p.clock was their one other p.calling p.called g.o g.q l p.back) e g.going)) in
        elim (called_did m rest (comes_forth p (sent ∷ rest)) refl refl refl refl refl x) [
          | inl on ↦ inl on
          | inr left ↦ inr (left.0, (g.q, g.called, left.1), left.2)
        ]

    back_on : (l : List Sent) → p.back ≡ l → IsGoing one other (comes_back p l) ⊎ Leaves (comes_back p l) (IsWrongFirst p.calling l)
    back_on [] e = inl g
    back_on (sent ∷ rest) e =
        let m : Moved = stepped whole p.clock p.calling (Took sent.tpdu sent.sum) in
        let x : Acts life size t0 t p.clock their was other one p.called p.calling g.q (IsWrong p.calling.base g.o sent.tpdu) rest p.forth m =
        subst (λ (stage : StateData). Acts life size t0 t p.clock their was other one p.called p.calling g.q (IsWrong p.calling.base g.o sent.tpdu) rest p.forth (takes whole p.clock p.calling.base stage sent.tpdu sent.sum)) (sym g.calling)
        (takes_acts life size t0 t p.clock their was other one p.called p.calling g.q g.o sent rest p.forth g.from
        (subst (λ (l : List Sent). AreGoing life size t0 t p.clock their was other one p.called p.calling g.q g.o l p.forth) e back_going)) in
        elim (calling_did m rest (comes_back p (sent ∷ rest)) refl refl refl refl refl x) [
          | inl on ↦ inl on
          | inr left ↦ inr (left.0, (g.o, g.calling, left.1), left.2)
        ]

    called_on : (call : UserCall) → IsGoing one other (asks_called p call) ⊎ Leaves (asks_called p call) (IsDisconnect call)
    called_on call =
        let m : Moved = stepped whole p.clock p.called (Called call) in
        called_did m p.forth (asks_called p call) refl refl refl refl refl
        (subst (λ (stage : StateData). Acts life size t0 t p.clock was their one other p.calling p.called g.o (IsDisconnect call) p.forth p.back (on_call (at p.clock p.called.base) stage call)) (sym g.called)
        (calls_acts life size t0 t p.clock was their one other p.calling p.called g.o g.q call p.forth p.back g.from g.going))

    calling_on : (call : UserCall) → IsGoing one other (asks_calling p call) ⊎ Leaves (asks_calling p call) (IsDisconnect call)
    calling_on call =
        let m : Moved = stepped whole p.clock p.calling (Called call) in
        calling_did m p.back (asks_calling p call) refl refl refl refl refl
        (subst (λ (stage : StateData). Acts life size t0 t p.clock their was other one p.called p.calling g.q (IsDisconnect call) p.back p.forth (on_call (at p.clock p.calling.base) stage call)) (sym g.calling)
        (calls_acts life size t0 t p.clock their was other one p.called p.calling g.q g.o call p.back p.forth g.from back_going))

    -- ---- the clock

    module _ (idle : IsIdle p) where
      still : AreGoing life size t0 t p.clock was their one other p.calling p.called g.o g.q [] []
      still = subst (λ (l : List Sent). AreGoing life size t0 t p.clock was their one other p.calling p.called g.o g.q l []) idle.forth
          (subst (λ (l : List Sent). AreGoing life size t0 t p.clock was their one other p.calling p.called g.o g.q p.forth l) idle.back g.going)

      module _ (later : AreLater p) (new_one new_other : Since) (begun : AreRiding life size (t0 + 1) (p.clock + 1) new_one new_other (party p.calling.base) (party p.called.base) g.o g.q [] [])
          (rules : AreBy t g.o g.q) (ended : HaveEnded (t0 + t.t1) g.o g.q p.clock) (calling called : Bool) where
        my_later : IsInTime (due p.calling.base (Opened g.o)) (p.clock + 1)
        my_later = subst (λ (stage : StateData). IsInTime (due p.calling.base stage) (p.clock + 1)) g.calling later.0

        their_later : IsInTime (due p.called.base (Opened g.q)) (p.clock + 1)
        their_later = subst (λ (stage : StateData). IsInTime (due p.called.base stage) (p.clock + 1)) g.called later.1

        kept_on : (o r : InOpened) → IsKept t0 p.clock o r → IsKept t0 (p.clock + 1) o r
        kept_on o r k = record { tried = k.tried; took = k.took; acked = omega (arith, k.acked) }

        fresh : AreGoing life size t0 t (p.clock + 1) was their new_one new_other p.calling p.called g.o g.q [] []
        fresh = record {
          both = begun;
          mine = kept_on was g.o still.mine;
          theirs = kept_on their g.q still.theirs;
          hears = still.hears;
          heard = still.heard;
          my_timers = still.my_timers;
          their_timers = still.their_timers;
        }

        turned_fresh : AreGoing life size t0 t (p.clock + 1) their was new_other new_one p.called p.calling g.q g.o [] []
        turned_fresh = turned_going life size t0 t (p.clock + 1) was their new_one new_other p.calling p.called g.o g.q [] [] fresh

        late : t0 < p.clock + 1
        late = omega (arith, g.from)

        abbrev m : Moved
        m = tick_of calling (p.clock + 1) p.calling

        abbrev n : Moved
        n = tick_of called (p.clock + 1) p.called

        why : LeavesBy t t0 was their p (Clock calling called)
        why = (
          λ left. why_ticks life size t0 t times p.clock g.from their was other one p.called p.calling g.q g.o (turned_going life size t0 t p.clock was their one other p.calling p.called g.o g.q [] [] still)
              their_later my_later rules.one_t1 rules.one_sendings (λ over. (ended over).0) g.calling calling left,
          λ left. why_ticks life size t0 t times p.clock g.from was their one other p.calling p.called g.o g.q still my_later their_later rules.other_t1 rules.other_sendings (λ over. (ended over).1) g.called called left,
        )

        -- the calling end leaves
        calling_leaves : RowLeaves (ByTick calling (p.clock + 1) p.calling g.o) (at (p.clock + 1) p.calling.base) m → AreParting (next p (Clock calling called))
        calling_leaves leaves = inl (
          leaves.left,
          elim row.does [
            | inl gone ↦ inl gone.left
            | inr on ↦ inr (record {
              o = on.after;
              stage = on.stage;
              sum = agreed_sum p.calling.base.agreed;
              fine = ap (λ (a : Option Options). sum_agreed a && not (agreed_sum p.calling.base.agreed)) row.holding.agreed
                  ∙ sums_agree life size t0 t (p.clock + 1) their was new_other new_one p.called p.calling g.q g.o [] [] turned_fresh;
              release = release_then (agreed_sum p.calling.base.agreed) p.forth m.tpdus leaves.release;
            })
          ],
        )
          where
            row : RowDoes (IsEarly t0 their.halves.sending) (ByTick called (p.clock + 1) p.called g.q) (p.clock + 1) g.q.took (at (p.clock + 1) p.called.base) g.q n
            row = tick_row life size t0 t (p.clock + 1) was their new_one new_other p.calling p.called g.o g.q called late g.called

        -- it stays
        calling_stays : (r : InOpened) → m.stage ≡ Opened r → AreGoing life size t0 t (p.clock + 1) their was new_other new_one p.called (end_of m) g.q r [] m.tpdus
            → IsGoing new_one new_other (next p (Clock calling called)) ⊎ Leaves (next p (Clock calling called)) (LeavesBy t t0 was their p (Clock calling called))
        calling_stays r is after =
            let mid = turned_going life size t0 t (p.clock + 1) their was new_other new_one p.called (end_of m) g.q r [] m.tpdus after in
            elim (ticks_act life size t0 t (p.clock + 1) was their new_one new_other (end_of m) p.called r g.q called m.tpdus late g.called mid) [
              | inl leaves ↦ inr (inr leaves.left, why, inr (leaves_follow life size t0 t (p.clock + 1) was their new_one new_other (end_of m) p.called r g.q m.tpdus [] n mid is leaves p.back))
              | inr on ↦ inl (record {
                o = r;
                q = on.0;
                calling = is;
                called = on.1;
                from = omega (arith, g.from);
                going = subst (λ (l : List Sent). AreGoing life size t0 t (p.clock + 1) was their new_one new_other (end_of m) (end_of n) r on.0 (l ++ m.tpdus) (p.back ++ n.tpdus)) (sym idle.forth)
                    (subst (λ (l : List Sent). AreGoing life size t0 t (p.clock + 1) was their new_one new_other (end_of m) (end_of n) r on.0 m.tpdus (l ++ n.tpdus)) (sym idle.back) on.2);
              })
            ]

        clock_on : IsGoing new_one new_other (next p (Clock calling called)) ⊎ Leaves (next p (Clock calling called)) (LeavesBy t t0 was their p (Clock calling called))
        clock_on = elim (ticks_act life size t0 t (p.clock + 1) their was new_other new_one p.called p.calling g.q g.o calling [] late g.calling turned_fresh) [
          | inl leaves ↦ inr (inl leaves.left, why, calling_leaves leaves)
          | inr on ↦ calling_stays on.0 on.1 on.2
        ]

  -- ---- along what happens

  module _ (last : Pair) where
    abbrev Result : Pair → List Happening → Type 0
    Result p happenings = AreBothOpened last ⊎ HasParted t t0 was their p happenings last

    goes_on : (one other new_one new_other : Since) (happening : Happening) (happenings : List Happening) (p : Pair) → IsGoing one other p → May p happening → Leads (next p happening) happenings last
        → IsGoing new_one new_other (next p happening) ⊎ Leaves (next p happening) (LeavesBy t t0 was their p happening)
        → (IsGoing new_one new_other (next p happening) → Result (next p happening) happenings) → Result p (happening ∷ happenings)
    goes_on one other new_one new_other happening happenings p g may leads (inl on) more = elim (more on) [
      | inl opened ↦ inl opened
      | inr h ↦ inr (record {
        before = happening ∷ h.before;
        happening = h.happening;
        after = h.after;
        happenings_are = ap (λ (l : List Happening). happening ∷ l) h.happenings_are;
        mid = h.mid;
        early = (may, h.early);
        late = h.late;
        opened = h.opened;
        parted = h.parted;
        why = h.why;
        other_too = h.other_too;
      })
    ]
    goes_on one other new_one new_other happening happenings p g may leads (inr left) more = inr (record {
      before = [];
      happening = happening;
      after = happenings;
      happenings_are = refl;
      mid = p;
      early = refl;
      late = leads;
      opened = opened one other p g;
      parted = left.0;
      why = left.1;
      other_too = λ idle. both_left last idle (parting_after (next p happening) last happenings left.2 leads);
    })

    ends : (one other : Since) (p : Pair) → IsGoing one other p → last ≡ p → AreBothOpened last
    ends one other p g l = subst AreBothOpened (sym l) (opened one other p g)

    -- from the first tick on
    module _ (begin : Pair) (i k : InOpened) (b : AreBegun life size begin i k) (at_t0 : begin.clock ≡ t0) (rules : AreBy t i k) where
      abbrev one : Since
      one = one_since life size begin i k b

      abbrev other : Since
      other = other_since life size begin i k b

      ended_at : (p : Pair) (g : IsGoing one other p) (idle : IsIdle p) → AreLater p → HaveEnded (t0 + t.t1) g.o g.q p.clock
      ended_at p g idle later over = (
        ended_in life size t.t1 begin.clock p.clock i.halves.sending g.o.halves.sending k.halves.receiving g.q.halves.receiving k.acked g.q.acked b.there both.ours.sending both.there both.there_eds
            (subst (λ (n : ℕ). AreYoung n p.clock g.o.halves.sending.window) by.one_t1 (undue p.clock p.calling.base g.o both.there.fed.is_open mine).young)
            (subst (λ (n : ℕ). IsYoung n p.clock g.o.halves.sending.urgent.out) by.one_t1 (eds_young p.clock p.calling.base g.o both.there.fed.is_open mine)) (omega (arith, over, at_t0)),
        ended_in life size t.t1 begin.clock p.clock k.halves.sending g.q.halves.sending i.halves.receiving g.o.halves.receiving i.acked g.o.acked b.here both.theirs.sending both.here both.here_eds
            (subst (λ (n : ℕ). AreYoung n p.clock g.q.halves.sending.window) by.other_t1 (undue p.clock p.called.base g.q both.here.fed.is_open theirs).young)
            (subst (λ (n : ℕ). IsYoung n p.clock g.q.halves.sending.urgent.out) by.other_t1 (eds_young p.clock p.called.base g.q both.here.fed.is_open theirs)) (omega (arith, over, at_t0)),
      )
        where
          both : AreRiding life size (begin.clock + 1) p.clock one other (party p.calling.base) (party p.called.base) g.o g.q [] []
          both = subst (λ (n : ℕ). AreRiding life size (n + 1) p.clock one other (party p.calling.base) (party p.called.base) g.o g.q [] []) (sym at_t0) (still one other p g idle).both

          by : AreBy t g.o g.q
          by = by_rules t i k g.o g.q both.ours.sending both.theirs.sending rules

          mine : IsInTime (due p.calling.base (Opened g.o)) (p.clock + 1)
          mine = subst (λ (stage : StateData). IsInTime (due p.calling.base stage) (p.clock + 1)) g.calling later.0

          theirs : IsInTime (due p.called.base (Opened g.q)) (p.clock + 1)
          theirs = subst (λ (stage : StateData). IsInTime (due p.called.base stage) (p.clock + 1)) g.called later.1

      later_on : (happenings : List Happening) (p : Pair) → IsGoing one other p → AreTicked p happenings → Leads p happenings last → Result p happenings
      later_on [] p g ticked leads = inl (ends one other p g leads)
      later_on (Comes_forth ∷ happenings) p g ticked leads =
          goes_on one other one other Comes_forth happenings p g leads.0 leads.1 (forth_on one other p g p.forth refl) (λ on. later_on happenings (next p Comes_forth) on ticked leads.1)
      later_on (Comes_back ∷ happenings) p g ticked leads =
          goes_on one other one other Comes_back happenings p g leads.0 leads.1 (back_on one other p g p.back refl) (λ on. later_on happenings (next p Comes_back) on ticked leads.1)
      later_on (Asks_calling call ∷ happenings) p g ticked leads =
          goes_on one other one other (Asks_calling call) happenings p g leads.0 leads.1 (calling_on one other p g call) (λ on. later_on happenings (next p (Asks_calling call)) on ticked leads.1)
      later_on (Asks_called call ∷ happenings) p g ticked leads =
          goes_on one other one other (Asks_called call) happenings p g leads.0 leads.1 (called_on one other p g call) (λ on. later_on happenings (next p (Asks_called call)) on ticked leads.1)
      later_on (Clock calling called ∷ happenings) p g ticked leads =
          goes_on one other one other (Clock calling called) happenings p g leads.0 leads.1
          (clock_on one other p g leads.0 (ticked.0 (opened one other p g)) one other (clock_riding life size (t0 + 1) p.clock one other (party p.calling.base) (party p.called.base) g.o g.q (still one other p g leads.0).both)
          (by_rules t i k g.o g.q g.going.both.ours.sending g.going.both.theirs.sending rules) (ended_at p g leads.0 (ticked.0 (opened one other p g))) calling called) (λ on. later_on happenings (next p (Clock calling called)) on ticked.1 leads.1)

-- ---- from t0 on

module _ (life size : ℕ) (t : Timers) (times : AreTimes t) (p : Pair) (o q : InOpened) (b : AreBegun life size p o q) (rules : AreBy t o q) (last : Pair) where
  abbrev one_first : Since
  one_first = one_now life size p o q b

  abbrev other_first : Since
  other_first = other_now life size p o q b

  abbrev Going : Pair → Type 0
  Going mid = IsGoing life size p.clock t times o q one_first other_first mid

  abbrev Ends : Pair → List Happening → Type 0
  Ends mid happenings = Result life size p.clock t times o q last mid happenings

  -- at the first tick
  tick_on : (calling called : Bool) (happenings : List Happening) (mid : Pair) → Going mid → mid.clock ≡ p.clock → AreTicked mid (Clock calling called ∷ happenings) → Leads mid (Clock calling called ∷ happenings) last
      → Ends mid (Clock calling called ∷ happenings)
  tick_on calling called happenings mid g now ticked leads =
      goes_on life size p.clock t times o q last one_first other_first (one_since life size mid g.o g.q begun) (other_since life size mid g.o g.q begun) (Clock calling called) happenings mid g leads.0 leads.1
      (clock_on life size p.clock t times o q one_first other_first mid g leads.0 (ticked.0 (opened life size p.clock t times o q one_first other_first mid g)) (one_since life size mid g.o g.q begun) (other_since life size mid g.o g.q begun)
      (subst (λ (n : ℕ). AreRiding life size (n + 1) (mid.clock + 1) (one_since life size mid g.o g.q begun) (other_since life size mid g.o g.q begun) (party mid.calling.base) (party mid.called.base) g.o g.q [] []) now
      (begins_riding life size mid g.o g.q begun)) by (λ over. absurd (omega (arith, over, now, times.t1))) calling called)
      (λ on. later_on life size p.clock t times o q last mid g.o g.q begun now by happenings (next mid (Clock calling called)) on ticked.1 leads.1)
    where
      begun : AreBegun life size mid g.o g.q
      begun = begins_again life size p o q b mid (record { o = g.o; q = g.q; calling = g.calling; called = g.called; both = g.going.both }) now leads.0

      by : AreBy t g.o g.q
      by = by_rules t o q g.o g.q g.going.both.ours.sending g.going.both.theirs.sending rules

  before_tick : (happenings : List Happening) (mid : Pair) → Going mid → mid.clock ≡ p.clock → AreTicked mid happenings → Leads mid happenings last → Ends mid happenings
  before_tick [] mid g now ticked leads = inl (ends life size p.clock t times o q last one_first other_first mid g leads)
  before_tick (Comes_forth ∷ happenings) mid g now ticked leads =
      goes_on life size p.clock t times o q last one_first other_first one_first other_first Comes_forth happenings mid g leads.0 leads.1 (forth_on life size p.clock t times o q one_first other_first mid g mid.forth refl)
      (λ on. before_tick happenings (next mid Comes_forth) on (forth_clock mid mid.forth ∙ now) ticked leads.1)
  before_tick (Comes_back ∷ happenings) mid g now ticked leads =
      goes_on life size p.clock t times o q last one_first other_first one_first other_first Comes_back happenings mid g leads.0 leads.1 (back_on life size p.clock t times o q one_first other_first mid g mid.back refl)
      (λ on. before_tick happenings (next mid Comes_back) on (back_clock mid mid.back ∙ now) ticked leads.1)
  before_tick (Asks_calling call ∷ happenings) mid g now ticked leads =
      goes_on life size p.clock t times o q last one_first other_first one_first other_first (Asks_calling call) happenings mid g leads.0 leads.1 (calling_on life size p.clock t times o q one_first other_first mid g call)
      (λ on. before_tick happenings (next mid (Asks_calling call)) on now ticked leads.1)
  before_tick (Asks_called call ∷ happenings) mid g now ticked leads =
      goes_on life size p.clock t times o q last one_first other_first one_first other_first (Asks_called call) happenings mid g leads.0 leads.1 (called_on life size p.clock t times o q one_first other_first mid g call)
      (λ on. before_tick happenings (next mid (Asks_called call)) on now ticked leads.1)
  before_tick (Clock calling called ∷ happenings) mid g now ticked leads = tick_on calling called happenings mid g now ticked leads

pub pairs_part : (life : ℕ) (t : Timers) (p : Pair) (o q : InOpened) (happenings : List Happening) (last : Pair) → AreKnown life p o q → AreAgreed p o q → HaveTimers t p o q → AreTimes t
    → AreTicked p happenings → Leads p happenings last → AreBothOpened last ⊎ HasParted t p.clock o q p happenings last
pairs_part life t p o q happenings last known agreed timed times ticked leads = before_tick life (most_of o.halves.sending.rules.format) t times p o q begun rules last happenings p going refl ticked leads
  where
    begun : AreBegun life (most_of o.halves.sending.rules.format) p o q
    begun = pair_begins life p o q known agreed

    rules : AreBy t o q
    rules = record { one_t1 = timed.calling_t1; other_t1 = timed.called_t1; one_sendings = timed.calling_sendings; other_sendings = timed.called_sendings }

    kept : (x : InOpened) → x.acked ≤ p.clock → IsKept p.clock p.clock x x
    kept x low = record { tried = begins_early p.clock x.halves.sending; took = inl refl; acked = low }

    going : IsGoing life (most_of o.halves.sending.rules.format) p.clock t times o q (one_now life (most_of o.halves.sending.rules.format) p o q begun) (other_now life (most_of o.halves.sending.rules.format) p o q begun) p
    going = record {
      o = o;
      q = q;
      calling = known.calling;
      called = known.called;
      from = omega arith;
      going = record {
        both = both (first life (most_of o.halves.sending.rules.format) p o q begun);
        mine = kept o known.acked.0;
        theirs = kept q known.acked.1;
        hears = inl known.acked.1;
        heard = inl known.acked.0;
        my_timers = timed.calling;
        their_timers = timed.called;
      };
    }
      where
        both : IsRiding life (most_of o.halves.sending.rules.format) (p.clock + 1) (one_now life (most_of o.halves.sending.rules.format) p o q begun) (other_now life (most_of o.halves.sending.rules.format) p o q begun) p
            → AreRiding life (most_of o.halves.sending.rules.format) (p.clock + 1) p.clock (one_now life (most_of o.halves.sending.rules.format) p o q begun) (other_now life (most_of o.halves.sending.rules.format) p o q begun) (party p.calling.base) (party p.called.base) o q p.forth p.back
        both r =
            subst (λ (x : InOpened). AreRiding life (most_of o.halves.sending.rules.format) (p.clock + 1) p.clock (one_now life (most_of o.halves.sending.rules.format) p o q begun) (other_now life (most_of o.halves.sending.rules.format) p o q begun) (party p.calling.base) (party p.called.base) x q p.forth p.back)
            (same_open r.o o (sym r.calling ∙ known.calling))
            (subst (λ (x : InOpened). AreRiding life (most_of o.halves.sending.rules.format) (p.clock + 1) p.clock (one_now life (most_of o.halves.sending.rules.format) p o q begun) (other_now life (most_of o.halves.sending.rules.format) p o q begun) (party p.calling.base) (party p.called.base) r.o x p.forth p.back)
            (same_open r.q q (sym r.called ∙ known.called)) r.both)
