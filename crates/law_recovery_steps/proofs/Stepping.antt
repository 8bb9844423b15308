-- Whatever happens to a pair of which the called end is in AkWait: it is so, or both are Opened, or one of them has left.
use Rattle.std.proofs.Common.{◌≡◌, ◌⊎◌, inl, inr, ℕ, ◌+◌, ◌<◌, Bool, List, [], ◌∷◌, ◌++◌, length, length-append, refl, sym, ◌∙◌, ap, subst, arith, append-nil, append_assoc}
use Rattle.tp4_number.specs.Number.{whole}
use Rattle.tpdu.specs.declared.service.Options.{Options}
use Rattle.tp4_flow.specs.declared.step.Sent.{Sent}
use Rattle.tp4_flow.specs.ReceivingHalf.{ak}
use Rattle.tp4_sending.specs.declared.tries.Tries.{Tries}
use Rattle.tp4_conn.specs.declared.call.UserCall.{UserCall}
use Rattle.tp4_conn.specs.declared.end_record.EndRecord.{EndRecord}
use Rattle.tp4_conn.specs.declared.states.InAkWait.{InAkWait}
use Rattle.tp4_conn.specs.declared.states.InOpened.{InOpened}
use Rattle.tp4_conn.specs.declared.states.StateData.{StateData}
use Rattle.tp4_conn.specs.declared.states.StateData.TheVariants.{AkWait}
use Rattle.tp4_conn.specs.Agreeing.{confirm}
use Rattle.tp4_conn.specs.End.{End, Moved, end_of}
use Rattle.tp4_conn.specs.Table.{Called, Took, at as now_at, on_call, stepped, takes}
use Rattle.law_tp4_history.specs.Lines.{given, shown_in}
use Rattle.law_tp4_pair.specs.Pair.{Asks_called, Asks_calling, Clock, Comes_back, Comes_forth, Happening, IsIdle, Leads, May, Pair, asks_called, asks_calling, clocked, comes_back, comes_forth, next, tick_of}
use Rattle.law_tp4_pair.specs.Standing.{HasLeft, Party, party}
use Rattle.law_recovery_steps.specs.Steps.{AreRiding, IsParted, IsRiding, RidesOnward, Since}
use Rattle.law_recovery_steps.proofs.Pairs.{parted_after, steps_on, turned}
use Rattle.law_recovery_steps.proofs.Steps.{takes_onward}
use Rattle.law_recovery_steps.specs.Opening.{Asks, Calls, Talks, as_opened}
use Rattle.law_recovery_steps.specs.AkWait.{AreCrs, AreOpening, IsCc, IsOpenedBoth, IsOpening}
use Rattle.law_recovery_steps.proofs.Calling.{Answers, Leaves, cc_answered, cr_left, says_again}
use Rattle.law_recovery_steps.proofs.Opening.{data_opens}
use Rattle.law_recovery_steps.proofs.Waiting.{HasConfirmed, HasTicked, StaysWaiting, WaitsOn, called_calls, called_ticks, calling_calls, calling_cc, calling_ticks, clock_opening, sum_of_cc, waits_so}

none_of_both : {X : Type 0} (a b : List X) → [] ≡ a ++ b → (a ≡ []) × (b ≡ [])
none_of_both [] b e = (refl, sym e)
none_of_both (x ∷ a) b e = absurd (cc e)

module _ (life size u t1 : ℕ) (one other : Since) where
  abbrev pub On : Pair → Type 0
  On n = IsParted n ⊎ (IsOpening life size u t1 one other n ⊎ IsOpenedBoth life size u one other n)

  -- ---- both are Opened

  riding_on : (n : Pair) → IsParted n ⊎ IsRiding life size u one other n → On n
  riding_on n (inl left) = inl left
  riding_on n (inr r) = inr (inr (record { o = r.o; q = r.q; calling = r.calling; called = r.called; back = n.back; back_is = inl refl; both = r.both }))

  module _ (p : Pair) (x : IsOpenedBoth life size u one other p) where
    -- where no CC waits
    plain_on : p.back ≡ x.back → (happening : Happening) → May p happening → On (next p happening)
    plain_on is happening may = riding_on (next p happening) (steps_on life size u one other p happening (record {
      o = x.o;
      q = x.q;
      calling = x.calling;
      called = x.called;
      both = subst (λ (l : List Sent). AreRiding life size u p.clock one other (party p.calling.base) (party p.called.base) x.o x.q p.forth l) (sym is) x.both;
    }) may)

    module _ (sent : Sent) (is : p.back ≡ sent ∷ x.back) (is_cc : IsCc sent.tpdu) (sum : sent.sum ≡ other.rules.sum) where
      busy : IsIdle p → ⊥
      busy idle = absurd (some_waits (sym idle.back ∙ is))
        where
          some_waits : [] ≡ sent ∷ x.back → ⊥
          some_waits e = cc e

      forth_by : (l : List Sent) → p.forth ≡ l → On (comes_forth p l)
      forth_by [] e = inr (inr x)
      forth_by (first ∷ rest) e =
          let m : Moved = stepped whole p.clock p.called (Took first.tpdu first.sum) in
          let g : RidesOnward life size u p.clock one other (party p.calling.base) x.o m rest x.back =
          subst (λ (stage : StateData). RidesOnward life size u p.clock one other (party p.calling.base) x.o (takes whole p.clock p.called.base stage first.tpdu first.sum) rest x.back) (sym x.called)
          (takes_onward life size u p.clock one other (party p.calling.base) x.o p.called.base x.q first rest x.back
          (subst (λ (l : List Sent). AreRiding life size u p.clock one other (party p.calling.base) (party p.called.base) x.o x.q l x.back) e x.both)) in
          elim g [
            | inl left ↦ inl (inr left)
            | inr on ↦ inr (inr (record {
              o = x.o;
              q = on.after;
              calling = x.calling;
              called = on.stage;
              back = x.back ++ m.tpdus;
              back_is = inr (sent, ap (λ (l : List Sent). l ++ m.tpdus) is, is_cc, sum);
              both = on.both;
            }))
          ]

      back_by : On (comes_back p (sent ∷ x.back))
      back_by =
          let m : Moved = takes whole p.clock p.calling.base p.calling.stage sent.tpdu sent.sum in
          let a : Answers x.o p.calling.base p.clock m =
          subst (λ (stage : StateData). Answers x.o p.calling.base p.clock (takes whole p.clock p.calling.base stage sent.tpdu sent.sum)) (sym x.calling)
          (cc_answered p.clock p.calling.base x.o x.both.options sent x.both.ours.agreed_is (sum ∙ sym x.both.sum ∙ x.both.ours.sum) is_cc) in
          let after : InOpened = record x.o { took = p.clock; acked = p.clock } in
          let said = turned life size u p.clock other one (party p.called.base) (party p.calling.base) x.q after x.back (p.forth ++ ak x.o.halves.receiving ∷ [])
          (says_again life size u p.clock other one (party p.called.base) (party p.calling.base) x.q x.o p.clock x.back p.forth
          (turned life size u p.clock one other (party p.calling.base) (party p.called.base) x.o x.q p.forth x.back x.both)) in
          inr (inr (record {
            o = after;
            q = x.q;
            calling = a.stage;
            called = x.called;
            back = x.back;
            back_is = inl refl;
            both = subst (λ (b : EndRecord). AreRiding life size u p.clock one other (party b) (party p.called.base) after x.q (p.forth ++ m.tpdus) x.back) (sym a.base)
                (subst (λ (l : List Sent). AreRiding life size u p.clock one other (party p.calling.base) (party p.called.base) after x.q (p.forth ++ l) x.back) (sym a.tpdus) said);
          }))

      behind_on : (happening : Happening) → May p happening → On (next p happening)
      behind_on Comes_forth may = forth_by p.forth refl
      behind_on Comes_back may = subst (λ (l : List Sent). On (comes_back p l)) (sym is) back_by
      behind_on (Clock calling called) may = absurd (busy may)
      behind_on other may = absurd (busy may.0)

    pub both_on : (happening : Happening) → May p happening → On (next p happening)
    both_on happening may = by x.back_is
      where
        by : (p.back ≡ x.back) ⊎ ((sent : Sent) × (p.back ≡ sent ∷ x.back) × IsCc sent.tpdu × (sent.sum ≡ other.rules.sum)) → On (next p happening)
        by (inl is) = plain_on is happening may
        by (inr y) = behind_on y.0 y.1 y.2 y.3 happening may

  -- ---- the called end is in AkWait

  module _ (p : Pair) (x : IsOpening life size u t1 one other p) where
    abbrev c : EndRecord
    c = p.called.base

    abbrev the_cc : Sent
    the_cc = confirm c x.options x.w.octets

    -- the first TPDU that waits for it comes: a CR
    cr_on : (sent : Sent) (more : List Sent) → x.crs ≡ sent ∷ more → On (comes_forth p (sent ∷ (more ++ x.forth)))
    cr_on sent more is =
        let crs_are : AreCrs (sent ∷ more) = subst AreCrs is x.are.crs_are in
        subst (λ (stage : StateData). On (moved (takes whole p.clock c stage sent.tpdu sent.sum))) (sym x.called) (by (takes whole p.clock c (AkWait x.w) sent.tpdu sent.sum) crs_are.1 (cr_left p.clock c x.w sent crs_are.0))
      where
        moved : Moved → Pair
        moved m = record p { called = end_of m; forth = more ++ x.forth; back = p.back ++ m.tpdus; called_showed = p.called_showed ++ shown_in m.events; called_told = p.called_told ++ m.events }

        same_back : (m : Moved) → m.tpdus ≡ [] → p.back ++ m.tpdus ≡ p.back
        same_back m e = ap (λ (l : List Sent). p.back ++ l) e ∙ append-nil p.back

        -- whatever its clock is
        clocked_on : (m : Moved) (k : ℕ) → AreCrs more → m.stage ≡ AkWait x.w → m.tpdus ≡ [] → m.base ≡ record c { clock = k } → On (moved m)
        clocked_on m k crs_are stage tpdus base = inr (inl (record {
          w = x.w;
          called = stage;
          options = x.options;
          crs = more;
          forth = x.forth;
          forth_is = refl;
          are = subst (λ (b : EndRecord). AreOpening life size u t1 p.clock one other p.calling b x.w x.options more x.forth) (sym base) (waits_so life size u t1 one other p.clock k p.calling c x.w x.options x.crs more x.forth x.are crs_are);
          back_is = elim x.back_is [
            | inl e ↦ inl (same_back m tpdus ∙ e)
            | inr e ↦ inr (same_back m tpdus ∙ e ∙ ap (λ (b : EndRecord). confirm b x.options x.w.octets ∷ []) (sym base))
          ];
          answered = elim x.answered [
            | inl e ↦ inl e
            | inr y ↦ elim y [
              | inl e ↦ inr (inl (same_back m tpdus ∙ e ∙ ap (λ (b : EndRecord). confirm b x.options x.w.octets ∷ []) (sym base)))
              | inr e ↦ inr (inr e)
            ]
          ];
        }))

        by : (m : Moved) → AreCrs more → Leaves c x.w p.clock m → On (moved m)
        by m crs_are a = elim a.base [ inl same ↦ clocked_on m c.clock crs_are a.stage a.tpdus same | inr later ↦ clocked_on m p.clock crs_are a.stage a.tpdus later ]

    -- an AK, a DT, an ED or an EA
    data_on : (sent : Sent) (rest : List Sent) → x.forth ≡ sent ∷ rest → On (comes_forth p (sent ∷ rest))
    data_on sent rest is = by x.are.calling
      where
        m : Moved
        m = stepped whole p.clock p.called (Took sent.tpdu sent.sum)

        g : RidesOnward life size u p.clock one other x.are.first x.are.o m rest []
        g = subst (λ (stage : StateData). RidesOnward life size u p.clock one other x.are.first x.are.o (takes whole p.clock c stage sent.tpdu sent.sum) rest []) (sym x.called)
            (data_opens life size u p.clock one other x.are.first x.are.o c x.w sent rest
            (subst (λ (l : List Sent). AreRiding life size u p.clock one other x.are.first (party c) x.are.o (as_opened x.w) l []) is x.are.both) x.are.queued x.are.knows)

        some_waits : [] ≡ sent ∷ rest → ⊥
        some_waits e = cc e

        by : Calls c x.options p.calling x.are.first x.are.o → On (comes_forth p (sent ∷ rest))
        by (Asks r stage first o_is) = absurd (some_waits (sym (x.are.quiet r stage) ∙ is))
        by (Talks stage first) = elim g [
          | inl left ↦ inl (inr left)
          | inr on ↦ inr (inr (record {
            o = x.are.o;
            q = on.after;
            calling = stage;
            called = on.stage;
            back = m.tpdus;
            back_is = elim x.back_is [
              | inl e ↦ inl (ap (λ (l : List Sent). l ++ m.tpdus) e)
              | inr e ↦ inr (the_cc, ap (λ (l : List Sent). l ++ m.tpdus) e, tt, sum_of_cc life size u t1 one other p.clock c x.w x.options p.calling x.crs x.forth x.are)
            ];
            both = subst (λ (f : Party). AreRiding life size u p.clock one other f (party m.base) x.are.o on.after rest m.tpdus) first on.both;
          }))
        ]

    forth_on : On (comes_forth p p.forth)
    forth_on = subst (λ (l : List Sent). On (comes_forth p l)) (sym x.forth_is) (by x.crs refl)
      where
        by_data : (l : List Sent) → x.forth ≡ l → On (comes_forth p l)
        by_data [] e = inr (inl x)
        by_data (sent ∷ rest) e = data_on sent rest e

        by : (l : List Sent) → x.crs ≡ l → On (comes_forth p (l ++ x.forth))
        by [] e = by_data x.forth refl
        by (sent ∷ more) e = cr_on sent more e

    -- the calling end goes on: what it sends waits behind
    calling_on : (n : Pair) (m : Moved) → n.clock ≡ p.clock → n.called ≡ p.called → n.calling ≡ end_of m → n.forth ≡ p.forth ++ m.tpdus → n.back ≡ p.back
        → HasLeft m.stage ⊎ AreOpening life size u t1 p.clock one other (end_of m) c x.w x.options x.crs (x.forth ++ m.tpdus) → On n
    calling_on n m clock called calling forth back (inl left) = inl (inl (subst (λ (e : End). HasLeft e.stage) (sym calling) left))
    calling_on n m clock called calling forth back (inr are) = inr (inl (record {
      w = x.w;
      called = ap (λ (e : End). e.stage) called ∙ x.called;
      options = x.options;
      crs = x.crs;
      forth = x.forth ++ m.tpdus;
      forth_is = forth ∙ ap (λ (l : List Sent). l ++ m.tpdus) x.forth_is ∙ append_assoc x.crs x.forth m.tpdus;
      are = subst (λ (now : ℕ). AreOpening life size u t1 now one other n.calling n.called.base x.w x.options x.crs (x.forth ++ m.tpdus)) (sym clock)
          (subst (λ (e : End). AreOpening life size u t1 p.clock one other e n.called.base x.w x.options x.crs (x.forth ++ m.tpdus)) (sym calling)
          (subst (λ (e : End). AreOpening life size u t1 p.clock one other (end_of m) e.base x.w x.options x.crs (x.forth ++ m.tpdus)) (sym called) are));
      back_is = elim x.back_is [ inl e ↦ inl (back ∙ e) | inr e ↦ inr (back ∙ e ∙ ap (λ (k : End). confirm k.base x.options x.w.octets ∷ []) (sym called)) ];
      answered = elim x.answered [
        | inl e ↦ inl e
        | inr y ↦ elim y [
          | inl e ↦ inr (inl (back ∙ e ∙ ap (λ (k : End). confirm k.base x.options x.w.octets ∷ []) (sym called)))
          | inr e ↦ inr (inr (omega (arith, e, length-append x.forth m.tpdus)))
        ]
      ];
    }))

    -- the CC comes
    cc_on : On (comes_back p (the_cc ∷ []))
    cc_on = by (calling_cc life size u t1 one other p.clock c x.w x.options p.calling x.crs x.forth x.are)
      where
        m : Moved
        m = stepped whole p.clock p.calling (Took the_cc.tpdu the_cc.sum)

        by : HasConfirmed life size u t1 one other p.clock c x.w x.options p.calling x.crs x.forth m → On (comes_back p (the_cc ∷ []))
        by (inl left) = inl (inl left)
        by (inr y) = inr (inl (record {
          w = x.w;
          called = x.called;
          options = x.options;
          crs = x.crs;
          forth = x.forth ++ m.tpdus;
          forth_is = ap (λ (l : List Sent). l ++ m.tpdus) x.forth_is ∙ append_assoc x.crs x.forth m.tpdus;
          are = y.1;
          back_is = inl refl;
          answered = inr (inr (omega (arith, y.0, length-append x.forth m.tpdus)));
        }))

    back_on : On (comes_back p p.back)
    back_on = elim x.back_is [
      | inl e ↦ subst (λ (l : List Sent). On (comes_back p l)) (sym e) (inr (inl x))
      | inr e ↦ subst (λ (l : List Sent). On (comes_back p l)) (sym e) cc_on
    ]

    asks_calling_on : (call : UserCall) → On (asks_calling p call)
    asks_calling_on call = calling_on (asks_calling p call) (stepped whole p.clock p.calling (Called call)) refl refl refl refl refl
        (calling_calls life size u t1 one other p.clock c x.w x.options p.calling x.crs x.forth call x.are)

    asks_called_on : (call : UserCall) → On (asks_called p call)
    asks_called_on call =
        subst (λ (stage : StateData). On (moved (on_call (now_at p.clock c) stage call))) (sym x.called)
        (by (on_call (now_at p.clock c) (AkWait x.w) call) (called_calls life size u t1 one other p.clock p.calling c x.w x.options x.crs x.forth x.are call))
      where
        moved : Moved → Pair
        moved m = record p {
          called = end_of m;
          back = p.back ++ m.tpdus;
          called_gave = p.called_gave ++ given (Called call);
          called_showed = p.called_showed ++ shown_in m.events;
          called_told = p.called_told ++ m.events;
        }

        by : (m : Moved) → HasLeft m.stage ⊎ StaysWaiting life size u t1 one other p.clock p.calling c x.w x.options x.crs x.forth x.are m → On (moved m)
        by m (inl left) = inl (inr left)
        by m (inr g) =
            let same : p.back ++ m.tpdus ≡ p.back = ap (λ (l : List Sent). p.back ++ l) g.tpdus ∙ append-nil p.back in
            let the_same : the_cc ∷ [] ≡ confirm m.base x.options g.v.octets ∷ [] = λ i. confirm (sym g.base i) x.options (sym g.octets i) ∷ [] in
            inr (inl (record {
              w = g.v;
              called = g.stage;
              options = x.options;
              crs = x.crs;
              forth = x.forth;
              forth_is = x.forth_is;
              are = subst (λ (b : EndRecord). AreOpening life size u t1 p.clock one other p.calling b g.v x.options x.crs x.forth) (sym g.base) g.are;
              back_is = elim x.back_is [ inl e ↦ inl (same ∙ e) | inr e ↦ inr (same ∙ e ∙ the_same) ];
              answered = elim x.answered [
                | inl e ↦ inl (omega (arith, e, ap (λ (t : Tries). t.last) g.tries))
                | inr y ↦ elim y [ inl e ↦ inr (inl (same ∙ e ∙ the_same)) | inr e ↦ inr (inr e) ]
              ];
            }))

  -- ---- the clock

  module _ (p : Pair) (w : InAkWait) (stage : p.called.stage ≡ AkWait w) (options : Options) (idle : IsIdle p) (before : w.tries.last < u)
      (are : AreOpening life size u t1 (p.clock + 1) one other p.calling p.called.base w options [] []) (calling called : Bool) where
    abbrev m : Moved
    m = tick_of calling (p.clock + 1) p.calling

    abbrev n : Moved
    n = tick_of called (p.clock + 1) p.called

    pub ticks_on : On (clocked p m n)
    ticks_on = by (calling_ticks life size u t1 one other (p.clock + 1) p.called.base w options p.calling calling are)
      where
        waits_for : (crs forth : List Sent) → m.tpdus ≡ crs ++ forth → (x : AreOpening life size u t1 (p.clock + 1) one other (end_of m) p.called.base w options crs forth)
            → HasLeft n.stage ⊎ WaitsOn life size u t1 one other (p.clock + 1) (end_of m) p.called.base w options crs forth x n → On (clocked p m n)
        waits_for crs forth is x (inl left) = inl (inr left)
        waits_for crs forth is x (inr (inl g)) = inr (inl (record {
          w = w;
          called = g.stage;
          options = options;
          crs = crs;
          forth = forth;
          forth_is = ap (λ (l : List Sent). l ++ m.tpdus) idle.forth ∙ is;
          are = subst (λ (b : EndRecord). AreOpening life size u t1 (p.clock + 1) one other (end_of m) b w options crs forth) (sym g.base) g.are;
          back_is = inl (ap (λ (l : List Sent). l ++ n.tpdus) idle.back ∙ g.tpdus);
          answered = inl before;
        }))
        waits_for crs forth is x (inr (inr g)) =
            let back : p.back ++ n.tpdus ≡ confirm n.base options g.v.octets ∷ [] =
            ap (λ (l : List Sent). l ++ n.tpdus) idle.back ∙ g.tpdus ∙ ap (λ (b : EndRecord). confirm b options g.v.octets ∷ []) (sym g.base) in
            inr (inl (record {
              w = g.v;
              called = g.stage;
              options = options;
              crs = crs;
              forth = forth;
              forth_is = ap (λ (l : List Sent). l ++ m.tpdus) idle.forth ∙ is;
              are = subst (λ (b : EndRecord). AreOpening life size u t1 (p.clock + 1) one other (end_of m) b g.v options crs forth) (sym g.base) g.are;
              back_is = inr back;
              answered = inr (inl back);
            }))

        by : HasTicked life size u t1 one other (p.clock + 1) p.called.base w options m → On (clocked p m n)
        by (inl left) = inl (inl left)
        by (inr y) = waits_for y.0 y.1 y.2 y.3 (called_ticks life size u t1 one other (p.clock + 1) (end_of m) p.called.base w options y.0 y.1 y.3 called p.called refl stage)

  -- where nothing waits it sent its CC before the tick u
  pub idle_before : (p : Pair) (x : IsOpening life size u t1 one other p) → IsIdle p → (x.crs ≡ []) × (x.forth ≡ []) × (x.w.tries.last < u)
  idle_before p x idle =
      let none = none_of_both x.crs x.forth (sym idle.forth ∙ x.forth_is) in (
        none.0,
        none.1,
        elim x.answered [
          | inl e ↦ e
          | inr y ↦ elim y [ inl e ↦ absurd (some_waits (sym idle.back ∙ e)) | inr e ↦ absurd (omega (arith, e, ap (λ (l : List Sent). length l) none.1)) ]
        ],
      )
    where
      some_waits : {sent : Sent} → [] ≡ sent ∷ [] → ⊥
      some_waits e = cc e

  clock_on : (p : Pair) (x : IsOpening life size u t1 one other p) → IsIdle p → (calling called : Bool) → On (next p (Clock calling called))
  clock_on p x idle calling called =
      let none = idle_before p x idle in
      ticks_on p x.w x.called x.options idle none.2 (clock_opening life size u t1 one other p.clock p.calling p.called.base x.w x.options
      (subst (λ (l : List Sent). AreOpening life size u t1 p.clock one other p.calling p.called.base x.w x.options l []) none.0
      (subst (λ (l : List Sent). AreOpening life size u t1 p.clock one other p.calling p.called.base x.w x.options x.crs l) none.1 x.are))) calling called

  -- ---- whatever happens

  opening_on : (p : Pair) (happening : Happening) → IsOpening life size u t1 one other p → May p happening → On (next p happening)
  opening_on p Comes_forth x may = forth_on p x
  opening_on p Comes_back x may = back_on p x
  opening_on p (Asks_calling call) x may = asks_calling_on p x call
  opening_on p (Asks_called call) x may = asks_called_on p x call
  opening_on p (Clock calling called) x may = clock_on p x may calling called

  pub openings_step : (p : Pair) (happening : Happening) → IsOpening life size u t1 one other p ⊎ IsOpenedBoth life size u one other p → May p happening → On (next p happening)
  openings_step p happening (inl x) may = opening_on p happening x may
  openings_step p happening (inr x) may = both_on p x happening may

  pub openings_lead : (p : Pair) (happenings : List Happening) (last : Pair) → On p → Leads p happenings last → On last
  openings_lead p [] last on l = subst On (sym l) on
  openings_lead p (happening ∷ happenings) last (inl left) l = inl (parted_after p last (happening ∷ happenings) left l)
  openings_lead p (happening ∷ happenings) last (inr x) l = openings_lead (next p happening) happenings last (openings_step p happening x l.0) l.1
