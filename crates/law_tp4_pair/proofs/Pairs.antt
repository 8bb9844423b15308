-- Whatever happens to a pair in order, it stands. What comes to the calling end is what comes to the called one, turned.
use Rattle.std.proofs.Common.{◌≡◌, ℕ, ◌+◌, Bool, true, false, List, [], ◌∷◌, ◌++◌, None, refl, sym, ◌∙◌, ap, subst, inl, inr, ◌⊎◌}
use Rattle.tp4_flow.specs.ReceivingHalf.{ak}
use Rattle.tp4_flow.specs.declared.step.Sent.{Sent}
use Rattle.tp4_number.specs.Number.{whole}
use Rattle.tp4_conn.specs.declared.call.UserCall.{UserCall}
use Rattle.tp4_conn.specs.declared.halves.Halves.{Halves}
use Rattle.tp4_conn.specs.declared.states.InAkWait.{InAkWait}
use Rattle.tp4_conn.specs.declared.states.InOpened.{InOpened}
use Rattle.tp4_conn.specs.declared.states.InCrWait.{InCrWait}
use Rattle.tp4_conn.specs.declared.states.StateData.{StateData}
use Rattle.tp4_conn.specs.declared.states.StateData.TheVariants.{CrWait, AkWait, Opened}
use Rattle.tp4_conn.specs.Agreeing.{confirm, halves_of}
use Rattle.tp4_conn.specs.End.{End, Moved, stays}
use Rattle.tp4_conn.specs.Table.{Called, Took, Ticked, at, on_call, on_tick, stepped, takes}
use Rattle.script_journal.specs.Lawful.{Marked}
use Rattle.tp4_conn.specs.Calls.{call_refusal}
use Rattle.law_tp4_history.specs.Lines.{given, shown_in}
use Rattle.law_tp4_pair.specs.Pair.{Account, Asks_called, Asks_calling, Clock, Comes_back, Comes_forth, Happening, IsIdle, IsNew, Leads, May, Pair, asks_called, asks_calling, back_units, clocked, comes_back, comes_forth, forth_units, next, tick_of}
use Rattle.law_tp4_pair.specs.Standing.{HasLeft, AreBoth, IsConfirming, IsFirst, Stands, Left, Confirming, First, Both, party}
use Rattle.law_tp4_pair.proofs.Acting.{Continues, turned}
use Rattle.law_tp4_pair.proofs.Clocking.{Ticks, has_tick, has_none, both_tick}
use Rattle.law_tp4_pair.proofs.Handing.{handed}
use Rattle.law_tp4_pair.proofs.Leaving.{stays_left}
use Rattle.law_tp4_pair.proofs.Opening.{no_units, Opens, Gone, Opened_by, confirmed_opens, first_opens}
use Rattle.law_tp4_pair.proofs.Users.{asked}

-- ---- where one has left

pub tick_left : (ticks : Bool) (now : ℕ) (e : End) → HasLeft e.stage → HasLeft (tick_of ticks now e).stage
tick_left true now e left = stays_left now e Ticked left
tick_left false now e left = left

left_on : (p : Pair) (happening : Happening) → HasLeft p.calling.stage ⊎ HasLeft p.called.stage → Stands (next p happening)
left_on p Comes_forth left = by p.forth left
  where
    by : (l : List Sent) → HasLeft p.calling.stage ⊎ HasLeft p.called.stage → Stands (comes_forth p l)
    by [] any = Left any
    by (sent ∷ rest) (inl here) = Left (inl here)
    by (sent ∷ rest) (inr there) = Left (inr (stays_left p.clock p.called (Took sent.tpdu sent.sum) there))
left_on p Comes_back left = by p.back left
  where
    by : (l : List Sent) → HasLeft p.calling.stage ⊎ HasLeft p.called.stage → Stands (comes_back p l)
    by [] any = Left any
    by (sent ∷ rest) (inl here) = Left (inl (stays_left p.clock p.calling (Took sent.tpdu sent.sum) here))
    by (sent ∷ rest) (inr there) = Left (inr there)
left_on p (Asks_calling call) (inl here) = Left (inl (stays_left p.clock p.calling (Called call) here))
left_on p (Asks_calling call) (inr there) = Left (inr there)
left_on p (Asks_called call) (inl here) = Left (inl here)
left_on p (Asks_called call) (inr there) = Left (inr (stays_left p.clock p.called (Called call) there))
left_on p (Clock calling called) (inl here) = Left (inl (tick_left calling (p.clock + 1) p.calling here))
left_on p (Clock calling called) (inr there) = Left (inr (tick_left called (p.clock + 1) p.called there))

-- ---- both are Opened

module _ (p : Pair) (o q : InOpened) (mine : p.calling.stage ≡ Opened o) (theirs : p.called.stage ≡ Opened q) (both : AreBoth (party p.calling.base) (party p.called.base) o.halves q.halves p.forth p.back (forth_units p) (back_units p)) where
  forth_on : (l : List Sent) → p.forth ≡ l → Stands (comes_forth p l)
  forth_on [] e = Both o q mine theirs both
  forth_on (sent ∷ rest) e =
      let m : Moved = stepped whole p.clock p.called (Took sent.tpdu sent.sum) in
      let r : Continues (party p.calling.base) o.halves m rest p.back (forth_units p) (back_units p) =
      subst (λ (stage : StateData). Continues (party p.calling.base) o.halves (takes whole p.clock p.called.base stage sent.tpdu sent.sum) rest p.back (forth_units p) (back_units p)) (sym theirs)
      (handed (party p.calling.base) o.halves p.called.base q p.clock sent rest p.back (forth_units p) (back_units p)
      (subst (λ (l : List Sent). AreBoth (party p.calling.base) (party p.called.base) o.halves q.halves l p.back (forth_units p) (back_units p)) e both)) in
      elim r [ inl left ↦ Left (inr left) | inr g ↦ Both o g.after mine g.stage g.both ]

  back_on : (l : List Sent) → p.back ≡ l → Stands (comes_back p l)
  back_on [] e = Both o q mine theirs both
  back_on (sent ∷ rest) e =
      let m : Moved = stepped whole p.clock p.calling (Took sent.tpdu sent.sum) in
      let r : Continues (party p.called.base) q.halves m rest p.forth (back_units p) (forth_units p) =
      subst (λ (stage : StateData). Continues (party p.called.base) q.halves (takes whole p.clock p.calling.base stage sent.tpdu sent.sum) rest p.forth (back_units p) (forth_units p)) (sym mine)
      (handed (party p.called.base) q.halves p.calling.base o p.clock sent rest p.forth (back_units p) (forth_units p)
      (subst (λ (l : List Sent). AreBoth (party p.called.base) (party p.calling.base) q.halves o.halves l p.forth (back_units p) (forth_units p)) e (turned _ _ _ _ _ _ _ _ both))) in
      elim r [ inl left ↦ Left (inl left) | inr g ↦ Both g.after q g.stage theirs (turned _ _ _ _ _ _ _ _ g.both) ]

  module _ (idle : IsIdle p) where
    none : AreBoth (party p.calling.base) (party p.called.base) o.halves q.halves [] [] (forth_units p) (back_units p)
    none = subst (λ (l : List Sent). AreBoth (party p.calling.base) (party p.called.base) o.halves q.halves l [] (forth_units p) (back_units p)) idle.forth
        (subst (λ (l : List Sent). AreBoth (party p.calling.base) (party p.called.base) o.halves q.halves p.forth l (forth_units p) (back_units p)) idle.back both)

    called_on : (call : UserCall) → call_refusal p.called.base p.called.stage call ≡ None → Stands (asks_called p call)
    called_on call fits =
        let m : Moved = stepped whole p.clock p.called (Called call) in
        let v : Account = record { gave = p.called_gave ++ given (Called call); showed = p.calling_showed } in
        let u : Account = record { gave = p.calling_gave; showed = p.called_showed ++ shown_in m.events } in
        let r : Continues (party p.calling.base) o.halves m [] [] (forth_units p) v =
        subst (λ (stage : StateData). Continues (party p.calling.base) o.halves (on_call (at p.clock p.called.base) stage call) [] [] (forth_units p) v) (sym theirs)
        (asked (party p.calling.base) o.halves (at p.clock p.called.base) q (forth_units p) (back_units p) none call (subst (λ (stage : StateData). call_refusal p.called.base stage call ≡ None) theirs fits)) in
        elim r [
          | inl left ↦ Left (inr left)
          | inr g ↦ Both o g.after mine g.stage
              (subst (λ (l : List Sent). AreBoth (party p.calling.base) (party m.base) o.halves g.after.halves l (p.back ++ m.tpdus) u v) (sym idle.forth)
              (subst (λ (l : List Sent). AreBoth (party p.calling.base) (party m.base) o.halves g.after.halves [] (l ++ m.tpdus) u v) (sym idle.back) g.both))
        ]

    calling_on : (call : UserCall) → call_refusal p.calling.base p.calling.stage call ≡ None → Stands (asks_calling p call)
    calling_on call fits =
        let m : Moved = stepped whole p.clock p.calling (Called call) in
        let u : Account = record { gave = p.calling_gave ++ given (Called call); showed = p.called_showed } in
        let v : Account = record { gave = p.called_gave; showed = p.calling_showed ++ shown_in m.events } in
        let r : Continues (party p.called.base) q.halves m [] [] (back_units p) u =
        subst (λ (stage : StateData). Continues (party p.called.base) q.halves (on_call (at p.clock p.calling.base) stage call) [] [] (back_units p) u) (sym mine)
        (asked (party p.called.base) q.halves (at p.clock p.calling.base) o (back_units p) (forth_units p) (turned _ _ _ _ _ _ _ _ none) call
        (subst (λ (stage : StateData). call_refusal p.calling.base stage call ≡ None) mine fits)) in
        elim r [
          | inl left ↦ Left (inl left)
          | inr g ↦ Both g.after q g.stage theirs
              (subst (λ (l : List Sent). AreBoth (party m.base) (party p.called.base) g.after.halves q.halves (p.forth ++ m.tpdus) l u v) (sym idle.back)
              (subst (λ (l : List Sent). AreBoth (party m.base) (party p.called.base) g.after.halves q.halves (l ++ m.tpdus) [] u v) (sym idle.forth) (turned _ _ _ _ _ _ _ _ g.both)))
        ]

    -- a tick, or none
    calling_ticks : (ticks : Bool) (now : ℕ) → HasLeft (tick_of ticks now p.calling).stage ⊎ Ticks (at now p.calling.base) o q.halves.receiving (tick_of ticks now p.calling)
    calling_ticks true now = subst (λ (stage : StateData). HasLeft (on_tick (at now p.calling.base) stage).stage ⊎ Ticks (at now p.calling.base) o q.halves.receiving (on_tick (at now p.calling.base) stage)) (sym mine)
        (has_tick (at now p.calling.base) o q.halves.receiving none.there)
    calling_ticks false now = inr (subst (λ (stage : StateData). Ticks (at now p.calling.base) o q.halves.receiving (stays p.calling.base stage)) (sym mine)
        (same (has_none p.calling.base o q.halves.receiving none.there)))
      where
        same : Ticks p.calling.base o q.halves.receiving (stays p.calling.base (Opened o)) → Ticks (at now p.calling.base) o q.halves.receiving (stays p.calling.base (Opened o))
        same t = record { base = refl; after = t.after; stage = t.stage; x = t.x; repeats_it = t.repeats_it; sender = t.sender; half = t.half; tpdus = t.tpdus; calm = t.calm; quiet = t.quiet }

    called_ticks : (ticks : Bool) (now : ℕ) → HasLeft (tick_of ticks now p.called).stage ⊎ Ticks (at now p.called.base) q o.halves.receiving (tick_of ticks now p.called)
    called_ticks true now = subst (λ (stage : StateData). HasLeft (on_tick (at now p.called.base) stage).stage ⊎ Ticks (at now p.called.base) q o.halves.receiving (on_tick (at now p.called.base) stage)) (sym theirs)
        (has_tick (at now p.called.base) q o.halves.receiving none.here)
    called_ticks false now = inr (subst (λ (stage : StateData). Ticks (at now p.called.base) q o.halves.receiving (stays p.called.base stage)) (sym theirs)
        (same (has_none p.called.base q o.halves.receiving none.here)))
      where
        same : Ticks p.called.base q o.halves.receiving (stays p.called.base (Opened q)) → Ticks (at now p.called.base) q o.halves.receiving (stays p.called.base (Opened q))
        same t = record { base = refl; after = t.after; stage = t.stage; x = t.x; repeats_it = t.repeats_it; sender = t.sender; half = t.half; tpdus = t.tpdus; calm = t.calm; quiet = t.quiet }

    clock_on : (calling called : Bool) → Stands (next p (Clock calling called))
    clock_on calling called = by (calling_ticks calling now) (called_ticks called now)
      where
        now : ℕ
        now = p.clock + 1

        u : Account
        u = record { gave = p.calling_gave; showed = p.called_showed ++ shown_in (tick_of called (p.clock + 1) p.called).events }

        v : Account
        v = record { gave = p.called_gave; showed = p.calling_showed ++ shown_in (tick_of calling (p.clock + 1) p.calling).events }

        by : HasLeft (tick_of calling (p.clock + 1) p.calling).stage ⊎ Ticks (at (p.clock + 1) p.calling.base) o q.halves.receiving (tick_of calling (p.clock + 1) p.calling)
            → HasLeft (tick_of called (p.clock + 1) p.called).stage ⊎ Ticks (at (p.clock + 1) p.called.base) q o.halves.receiving (tick_of called (p.clock + 1) p.called)
            → Stands (clocked p (tick_of calling (p.clock + 1) p.calling) (tick_of called (p.clock + 1) p.called))
        by (inl left) any = Left (inl left)
        by (inr t) (inl left) = Left (inr left)
        by (inr t) (inr w) = Both t.after w.after t.stage w.stage
            (subst (λ (l : List Sent). AreBoth (party (tick_of calling (p.clock + 1) p.calling).base) (party (tick_of called (p.clock + 1) p.called).base) t.after.halves w.after.halves
            (l ++ (tick_of calling (p.clock + 1) p.calling).tpdus) (p.back ++ (tick_of called (p.clock + 1) p.called).tpdus) u v) (sym idle.forth)
            (subst (λ (l : List Sent). AreBoth (party (tick_of calling (p.clock + 1) p.calling).base) (party (tick_of called (p.clock + 1) p.called).base) t.after.halves w.after.halves
            (tick_of calling (p.clock + 1) p.calling).tpdus (l ++ (tick_of called (p.clock + 1) p.called).tpdus) u v) (sym idle.back)
            (both_tick (at (p.clock + 1) p.calling.base) (at (p.clock + 1) p.called.base) o q (tick_of calling (p.clock + 1) p.calling) (tick_of called (p.clock + 1) p.called) (forth_units p) (back_units p) none t w)))

-- ---- the CC or the first AK waits

not_idle : (x : Sent) (l : List Sent) → l ≡ x ∷ [] → l ≡ [] → ⊥
not_idle x [] e f = cc e
not_idle x (y ∷ l) e f = cc f

confirming_on : (p : Pair) (happening : Happening) (r : InCrWait) (w : InAkWait) → p.calling.stage ≡ CrWait r → p.called.stage ≡ AkWait w → IsNew p → IsConfirming p.calling.base p.called.base w p.forth p.back → May p happening
    → Stands (next p happening)
confirming_on p Comes_forth r w mine theirs new c may = subst (λ (l : List Sent). Stands (comes_forth p l)) (sym c.forth_is) (Confirming r w mine theirs new c)
confirming_on p Comes_back r w mine theirs new c may =
    subst (λ (l : List Sent). Stands (comes_back p l)) (sym c.back_is) (by (subst (λ (stage : StateData). Opens p.called.base (halves_of p.called.base c.options) (takes whole p.clock p.calling.base stage sent.tpdu sent.sum)) (sym mine)
    (confirmed_opens p.calling.base p.called.base r c.options c.octets p.clock c.agreed c.known c.low c.low_there c.size c.named)))
  where
    sent : Sent
    sent = confirm p.called.base c.options c.octets

    by : Opens p.called.base (halves_of p.called.base c.options) (stepped whole p.clock p.calling (Took (confirm p.called.base c.options c.octets).tpdu (confirm p.called.base c.options c.octets).sum))
        → Stands (comes_back p (confirm p.called.base c.options c.octets ∷ []))
    by (Gone left) = Left (inl left)
    by (Opened_by o is quiet f) = First o w is theirs
        (subst (λ (v : Account). IsFirst m.base p.called.base o.halves w.halves (p.forth ++ m.tpdus) [] (forth_units p) v)
        (λ i. record { gave = sym new.called_gave i; showed = (sym (ap (λ (l : List Marked). l ++ shown_in m.events) new.calling_showed ∙ quiet)) i })
        (subst (λ (u : Account). IsFirst m.base p.called.base o.halves w.halves (p.forth ++ m.tpdus) [] u no_units) (λ i. record { gave = sym new.calling_gave i; showed = sym new.called_showed i })
        (subst (λ (l : List Sent). IsFirst m.base p.called.base o.halves w.halves (l ++ m.tpdus) [] no_units no_units) (sym c.forth_is)
        (subst (λ (k : Halves). IsFirst m.base p.called.base o.halves k m.tpdus [] no_units no_units) (sym c.halves) f))))
      where
        m : Moved
        m = stepped whole p.clock p.calling (Took (confirm p.called.base c.options c.octets).tpdu (confirm p.called.base c.options c.octets).sum)
confirming_on p (Clock calling called) r w mine theirs new c may = absurd (not_idle _ p.back c.back_is may.back)
confirming_on p other r w mine theirs new c may = absurd (not_idle _ p.back c.back_is may.0.back)

first_on : (p : Pair) (happening : Happening) (o : InOpened) (w : InAkWait) → p.calling.stage ≡ Opened o → p.called.stage ≡ AkWait w → IsFirst p.calling.base p.called.base o.halves w.halves p.forth p.back (forth_units p) (back_units p) → May p happening
    → Stands (next p happening)
first_on p Comes_forth o w mine theirs f may =
    subst (λ (l : List Sent). Stands (comes_forth p l)) (sym f.forth_is)
    (by (subst (λ (stage : StateData). Continues (party p.calling.base) o.halves (takes whole p.clock p.called.base stage (ak o.halves.receiving).tpdu (ak o.halves.receiving).sum) [] [] (forth_units p) (back_units p)) (sym theirs)
    (first_opens p.calling.base p.called.base o.halves w p.clock (forth_units p) (back_units p)
    (subst (λ (l : List Sent). IsFirst p.calling.base p.called.base o.halves w.halves (ak o.halves.receiving ∷ []) l (forth_units p) (back_units p)) f.back_is
    (subst (λ (l : List Sent). IsFirst p.calling.base p.called.base o.halves w.halves l p.back (forth_units p) (back_units p)) f.forth_is f)))))
  where
    by : Continues (party p.calling.base) o.halves (stepped whole p.clock p.called (Took (ak o.halves.receiving).tpdu (ak o.halves.receiving).sum)) [] [] (forth_units p) (back_units p) → Stands (comes_forth p (ak o.halves.receiving ∷ []))
    by (inl left) = Left (inr left)
    by (inr g) = Both o g.after mine g.stage
        (subst (λ (l : List Sent). AreBoth (party p.calling.base) (party (stepped whole p.clock p.called (Took (ak o.halves.receiving).tpdu (ak o.halves.receiving).sum)).base) o.halves g.after.halves []
        (l ++ (stepped whole p.clock p.called (Took (ak o.halves.receiving).tpdu (ak o.halves.receiving).sum)).tpdus)
        (record { gave = p.calling_gave; showed = p.called_showed ++ shown_in (stepped whole p.clock p.called (Took (ak o.halves.receiving).tpdu (ak o.halves.receiving).sum)).events }) (back_units p)) (sym f.back_is) g.both)
first_on p Comes_back o w mine theirs f may = subst (λ (l : List Sent). Stands (comes_back p l)) (sym f.back_is) (First o w mine theirs f)
first_on p (Clock calling called) o w mine theirs f may = absurd (not_idle _ p.forth f.forth_is may.forth)
first_on p other o w mine theirs f may = absurd (not_idle _ p.forth f.forth_is may.0.forth)

-- ---- all

both_on : (p : Pair) (happening : Happening) (o q : InOpened) → p.calling.stage ≡ Opened o → p.called.stage ≡ Opened q → AreBoth (party p.calling.base) (party p.called.base) o.halves q.halves p.forth p.back (forth_units p) (back_units p) → May p happening
    → Stands (next p happening)
both_on p Comes_forth o q mine theirs both may = forth_on p o q mine theirs both p.forth refl
both_on p Comes_back o q mine theirs both may = back_on p o q mine theirs both p.back refl
both_on p (Asks_calling call) o q mine theirs both may = calling_on p o q mine theirs both may.0 call may.1
both_on p (Asks_called call) o q mine theirs both may = called_on p o q mine theirs both may.0 call may.1
both_on p (Clock calling called) o q mine theirs both may = clock_on p o q mine theirs both may calling called

pub stands_on : (p : Pair) (happening : Happening) → Stands p → May p happening → Stands (next p happening)
stands_on p happening (Left left) may = left_on p happening left
stands_on p happening (Confirming r w mine theirs new c) may = confirming_on p happening r w mine theirs new c may
stands_on p happening (First o w mine theirs f) may = first_on p happening o w mine theirs f may
stands_on p happening (Both o q mine theirs both) may = both_on p happening o q mine theirs both may

pub stands_after : (old new : Pair) (happenings : List Happening) → Stands old → Leads old happenings new → Stands new
stands_after old new [] s l = subst Stands (sym l) s
stands_after old new (happening ∷ happenings) s l = stands_after (next old happening) new happenings (stands_on old happening s l.0) l.1
