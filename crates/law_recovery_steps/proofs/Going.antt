-- Two Opened ends ride on, with what each tried, took and said since t0; or one leaves, and its partner hears of it.
use Rattle.std.proofs.Common.{◌≡◌, ◌⊎◌, inl, inr, ◌<◌, ◌≤◌, ℕ, ◌+◌, Bool, true, false, ◌&&◌, not, if◌then◌else◌, List, [], ◌∷◌, ◌++◌, length, None, refl, sym, ◌∙◌, ap, subst, arith, length-append}
use Rattle.std.proofs.lemmas.Bool.{cases_lt}
use Rattle.tp4_number.specs.Number.{whole}
use Rattle.tp4_flow.specs.declared.rules.Life.TheVariants.{Exhausted, Goes}
use Rattle.tpdu.specs.declared.service.GoneCause.TheVariants.{Exhausted as Spent, Inactive}
use Rattle.tp4_flow.specs.declared.step.Sent.{Sent}
use Rattle.tp4_sending.specs.Pieces.{once}
use Rattle.tp4_sending.specs.declared.tries.Tries.{Tries}
use Rattle.tp4_conn.specs.declared.call.UserCall.{UserCall}
use Rattle.tp4_conn.specs.declared.end_record.EndRecord.{EndRecord}
use Rattle.tp4_conn.specs.declared.states.InOpened.{InOpened}
use Rattle.tp4_conn.specs.declared.states.StateData.{StateData}
use Rattle.tp4_conn.specs.declared.states.StateData.TheVariants.{Opened}
use Rattle.tp4_conn.specs.declared.timers.Timers.{Timers}
use Rattle.tp4_conn.specs.End.{End, Moved, agreed_sum, end_of}
use Rattle.tp4_conn.specs.Living.{IsInTime}
use Rattle.tp4_conn.specs.Matching.{sum_agreed}
use Rattle.tp4_conn.specs.Table.{Ticked, at, due, on_call, on_tick, on_tpdu, stepped, takes, untaken}
use Rattle.law_tp4_pair.specs.Pair.{tick_of}
use Rattle.law_tp4_pair.specs.Standing.{HasLeft, party}
use Rattle.law_tp4_pair.proofs.Handing.{has_sum}
use Rattle.law_recovery_ends.specs.Due.{IsUndue}
use Rattle.law_recovery_ends.proofs.Due.{undue}
use Rattle.law_recovery_steps.specs.Steps.{AreRiding, RidesOnward, Since}
use Rattle.law_recovery_steps.proofs.Pairs.{turned}
use Rattle.law_recovery_steps.proofs.Quieting.{eds_young}
use Rattle.law_recovery_steps.proofs.Steps.{calls_onward, takes_onward, ticks_onward}
use Rattle.law_recovery_steps.specs.Going.{AreTimes, GoesItself, IsDisconnect, IsWrong}
use Rattle.law_recovery_steps.proofs.Causes.{GivesUp, IsEarly, gives_up, never_spent}
use Rattle.law_recovery_steps.proofs.Parting.{Follows}
use Rattle.law_recovery_steps.proofs.PartingRows.{LeavesByTick, RowDoes, RowLeaves, RowStays, Tried, Waited, call_does, data_does, release_then, tick_does}
use Rattle.law_recovery_steps.proofs.SendingAgain.{HaveTried}

-- an end since t0, at which it stood as `o`
pub record IsKept (t0 now : ℕ) (o r : InOpened) : Type 0 where
  pub tried : HaveTried (IsEarly t0 o.halves.sending) r.halves.sending
  pub took : (r.took ≡ o.took) ⊎ (t0 ≤ r.took)
  pub acked : r.acked ≤ now

-- what an end said last since t0 its partner heard, or something waits for that
abbrev pub Hears : ℕ → InOpened → InOpened → List Sent → Type 0
Hears t0 o q waits = (q.acked ≤ t0) ⊎ ((q.acked ≤ o.took) ⊎ (0 < length waits))

pub record AreGoing (life size t0 : ℕ) (t : Timers) (now : ℕ) (was their : InOpened) (one other : Since) (x y : End) (o q : InOpened) (forth back : List Sent) : Type 0 where
  pub both : AreRiding life size (t0 + 1) now one other (party x.base) (party y.base) o q forth back
  pub mine : IsKept t0 now was o
  pub theirs : IsKept t0 now their q
  pub hears : Hears t0 o q back
  pub heard : Hears t0 q o forth
  pub my_timers : x.base.timers ≡ t
  pub their_timers : y.base.timers ≡ t

pub same_open : (a b : InOpened) → Opened a ≡ Opened b → a ≡ b
same_open a b e = cc e

-- why an end leaves that has a tick, or none
abbrev pub ByTick : Bool → ℕ → End → InOpened → Type 0
ByTick ticks now y q = (ticks ≡ true) × LeavesByTick (at now y.base) q (stepped whole now y Ticked)

by_another : {Why Other : Type 0} (P : Tries → Type 0) (now took : ℕ) (b : EndRecord) (q : InOpened) (m : Moved) → (Why → Other) → RowDoes P Why now took b q m → RowDoes P Other now took b q m
by_another {Why} {Other} P now took b q m f r = record {
  holding = r.holding;
  does = elim r.does [ inl gone ↦ inl (record { left = gone.left; why = f gone.why; release = gone.release }) | inr on ↦ inr on ];
}

module _ (life size t0 : ℕ) (t : Timers) where
  pub turned_going : (now : ℕ) (was their : InOpened) (one other : Since) (x y : End) (o q : InOpened) (forth back : List Sent) → AreGoing life size t0 t now was their one other x y o q forth back
      → AreGoing life size t0 t now their was other one y x q o back forth
  turned_going now was their one other x y o q forth back g = record {
    both = turned life size (t0 + 1) now one other (party x.base) (party y.base) o q forth back g.both;
    mine = g.theirs;
    theirs = g.mine;
    hears = g.heard;
    heard = g.hears;
    my_timers = g.their_timers;
    their_timers = g.my_timers;
  }

  module _ (now : ℕ) (was their : InOpened) (one other : Since) (x y : End) (o : InOpened) where
    abbrev pub Acts : Type 0 → List Sent → List Sent → Moved → Type 0
    Acts Why rest back m = RowLeaves Why (at now y.base) m ⊎ ((r : InOpened) × (m.stage ≡ Opened r) × AreGoing life size t0 t now was their one other x (end_of m) o r rest (back ++ m.tpdus))

    -- the second end does something
    acts : {Why : Type 0} (took : ℕ) (q : InOpened) (forth rest back : List Sent) (m : Moved) → t0 ≤ now → AreGoing life size t0 t now was their one other x y o q forth back
        → RidesOnward life size (t0 + 1) now one other (party x.base) o m rest back → RowDoes (IsEarly t0 their.halves.sending) Why now took (at now y.base) q m
        → (took ≡ now) ⊎ ((took ≡ q.took) × (rest ≡ forth)) → Acts Why rest back m
    acts {Why} took q forth rest back m from g ride row how = elim row.does [ inl leaves ↦ inl leaves | inr stays_so ↦ inr (by stays_so ride) ]
      where
        by : RowStays (IsEarly t0 their.halves.sending) now took q m → RidesOnward life size (t0 + 1) now one other (party x.base) o m rest back
            → (r : InOpened) × (m.stage ≡ Opened r) × AreGoing life size t0 t now was their one other x (end_of m) o r rest (back ++ m.tpdus)
        by k (inl left) = absurd (subst HasLeft k.stage left)
        by k (inr s) = (
          k.after,
          k.stage,
          record {
            both = subst (λ (r : InOpened). AreRiding life size (t0 + 1) now one other (party x.base) (party m.base) o r rest (back ++ m.tpdus)) (same_open s.after k.after (sym s.stage ∙ k.stage)) s.both;
            mine = g.mine;
            theirs = record {
              tried = k.tried g.theirs.tried;
              took = elim how [
                | inl is ↦ inr (omega (arith, k.took_is, is, from))
                | inr kept ↦ elim g.theirs.took [ inl e ↦ inl (k.took_is ∙ kept.0 ∙ e) | inr late ↦ inr (omega (arith, k.took_is, kept.0, late)) ]
              ];
              acked = elim k.acked [ inl e ↦ omega (arith, e, g.theirs.acked) | inr here ↦ omega (arith, here.0) ];
            };
            hears = elim k.acked [
              | inl e ↦ elim g.hears [
                | inl old ↦ inl (omega (arith, e, old))
                | inr later ↦ elim later [
                  | inl heard ↦ inr (inl (omega (arith, e, heard)))
                  | inr waits ↦ inr (inr (omega (arith, waits, length-append back m.tpdus)))
                ]
              ]
              | inr here ↦ inr (inr (omega (arith, here.1, length-append back m.tpdus)))
            ];
            heard = elim how [
              | inl is ↦ inr (inl (omega (arith, g.mine.acked, k.took_is, is)))
              | inr kept ↦ elim g.heard [
                | inl old ↦ inl old
                | inr later ↦ elim later [
                  | inl heard ↦ inr (inl (omega (arith, heard, k.took_is, kept.0)))
                  | inr waits ↦ inr (inr (omega (arith, waits, ap length kept.1)))
                ]
              ]
            ];
            my_timers = g.my_timers;
            their_timers = row.holding.timers ∙ g.their_timers;
          },
        )

    new : (tick : ℕ) → IsEarly t0 their.halves.sending (once tick)
    new tick = inr (inr (omega arith))

    pub takes_acts : (q : InOpened) (sent : Sent) (rest back : List Sent) → t0 ≤ now → AreGoing life size t0 t now was their one other x y o q (sent ∷ rest) back
        → Acts (IsWrong y.base q sent.tpdu) rest back (takes whole now y.base (Opened q) sent.tpdu sent.sum)
    takes_acts q sent rest back from g =
        acts now q (sent ∷ rest) rest back (takes whole now y.base (Opened q) sent.tpdu sent.sum) from g (takes_onward life size (t0 + 1) now one other (party x.base) o y.base q sent rest back g.both)
        (subst (λ (wants : Bool). RowDoes (IsEarly t0 their.halves.sending) (IsWrong y.base q sent.tpdu) now now (at now y.base) q (if wants then untaken y.base (Opened q) else on_tpdu whole (at now y.base) (Opened q) sent.tpdu))
        (sym (has_sum g.both.their_options y.base.agreed sent.sum g.both.theirs.agreed_is (g.both.forth_are.0.sum ∙ g.both.sum ∙ g.both.theirs.sum)))
        (data_does (IsEarly t0 their.halves.sending) new (at now y.base) q one.rules.partner sent.tpdu g.both.forth_are.0.kind)) (inl refl)

    pub calls_acts : (q : InOpened) (call : UserCall) (forth back : List Sent) → t0 ≤ now → AreGoing life size t0 t now was their one other x y o q forth back
        → Acts (IsDisconnect call) forth back (on_call (at now y.base) (Opened q) call)
    calls_acts q call forth back from g =
        acts q.took q forth forth back (on_call (at now y.base) (Opened q) call) from g (calls_onward life size (t0 + 1) now one other (party x.base) o y.base q call forth back g.both)
        (call_does (IsEarly t0 their.halves.sending) new (at now y.base) q call) (inr (refl, refl))

    -- a tick, or none
    pub tick_row : (q : InOpened) (ticks : Bool) → t0 < now → y.stage ≡ Opened q → RowDoes (IsEarly t0 their.halves.sending) (ByTick ticks now y q) now q.took (at now y.base) q (tick_of ticks now y)
    tick_row q true late is =
        by_another (IsEarly t0 their.halves.sending) now q.took (at now y.base) q (stepped whole now y Ticked) (λ why. (refl, why))
        (subst (λ (stage : StateData). RowDoes (IsEarly t0 their.halves.sending) (LeavesByTick (at now y.base) q (on_tick (at now y.base) stage)) now q.took (at now y.base) q (on_tick (at now y.base) stage)) (sym is)
        (tick_does (IsEarly t0 their.halves.sending) new (at now y.base) q (λ tries. inr (inl late))))
    tick_row q false late is = record {
      holding = record { timers = refl; agreed = refl };
      does = inr (record { after = q; stage = is; tried = λ h. h; took_is = refl; acked = inl refl });
    }

    tick_rides : (q : InOpened) (ticks : Bool) (forth : List Sent) → y.stage ≡ Opened q → AreRiding life size (t0 + 1) now one other (party x.base) (party y.base) o q forth []
        → RidesOnward life size (t0 + 1) now one other (party x.base) o (tick_of ticks now y) forth []
    tick_rides q true forth is b = subst (λ (stage : StateData). RidesOnward life size (t0 + 1) now one other (party x.base) o (on_tick (at now y.base) stage) forth []) (sym is)
        (ticks_onward life size (t0 + 1) now one other (party x.base) o y.base q forth [] b)
    tick_rides q false forth is b = inr (record { after = q; stage = is; both = b })

    pub ticks_act : (q : InOpened) (ticks : Bool) (forth : List Sent) → t0 < now → y.stage ≡ Opened q → AreGoing life size t0 t now was their one other x y o q forth []
        → Acts (ByTick ticks now y q) forth [] (tick_of ticks now y)
    ticks_act q ticks forth late is g =
        acts q.took q forth forth [] (tick_of ticks now y) (omega (arith, late)) g (tick_rides q ticks forth is g.both) (tick_row q ticks late is) (inr (refl, refl))

  -- ---- one leaves

  -- its DR is one that the other takes
  pub sums_agree : (now : ℕ) (was their : InOpened) (one other : Since) (x y : End) (o q : InOpened) (forth back : List Sent) → AreGoing life size t0 t now was their one other x y o q forth back
      → (sum_agreed x.base.agreed && not (agreed_sum y.base.agreed)) ≡ false
  sums_agree now was their one other x y o q forth back g =
      has_sum g.both.options x.base.agreed (agreed_sum y.base.agreed) g.both.ours.agreed_is
      (ap agreed_sum g.both.theirs.agreed_is ∙ sym g.both.theirs.sum ∙ sym g.both.sum ∙ g.both.ours.sum)

  -- the second leaves while the first is Opened
  pub leaves_follow : {Why : Type 0} (now : ℕ) (was their : InOpened) (one other : Since) (x y : End) (o q : InOpened) (forth back : List Sent) (m : Moved)
      → AreGoing life size t0 t now was their one other x y o q forth back → x.stage ≡ Opened o → RowLeaves Why (at now y.base) m → (waits : List Sent) → Follows (end_of m) x (waits ++ m.tpdus)
  leaves_follow {Why} now was their one other x y o q forth back m g is leaves waits = (
    leaves.left,
    inr (record {
      o = o;
      stage = is;
      sum = agreed_sum y.base.agreed;
      fine = sums_agree now was their one other x y o q forth back g;
      release = release_then (agreed_sum y.base.agreed) waits m.tpdus leaves.release;
    }),
  )

  -- ---- why an end leaves by a tick

  module _ (times : AreTimes t) (clock : ℕ) (from : t0 ≤ clock) (was their : InOpened) (one other : Since) (x y : End) (o q : InOpened) (g : AreGoing life size t0 t clock was their one other x y o q [] [])
      (my_later : IsInTime (due x.base (Opened o)) (clock + 1)) (later : IsInTime (due y.base (Opened q)) (clock + 1))
      (t1_is : q.halves.sending.rules.t1 ≡ t.t1) (sendings_is : q.halves.sending.rules.sendings ≡ t.sendings)
      (ended : t0 + t.t1 ≤ clock → (q.halves.sending.window ≡ []) × (q.halves.sending.urgent.out ≡ None)) where
    goes_not : Goes ≡ Exhausted → ⊥
    goes_not e = cc e

    by_tick : LeavesByTick (at (clock + 1) y.base) q (stepped whole (clock + 1) y Ticked) → GoesItself t t0 (clock + 1) their y
    by_tick (Waited late is) = record { cause = Inactive; why = (omega (arith, tick_is, took_is), bound); is = is }
      where
        i_undue : IsUndue clock x.base o
        i_undue = undue clock x.base o g.both.there.fed.is_open my_later

        they_undue : IsUndue clock y.base q
        they_undue = undue clock y.base q g.both.here.fed.is_open later

        tick_is : q.took + t.inactive ≡ clock + 1
        tick_is = omega (arith, late, they_undue.heard, ap (λ (k : Timers). k.inactive) g.their_timers)

        bound : clock + 1 ≤ t0 + t.window
        bound = elim g.heard [
          | inl old ↦ omega (arith, old, i_undue.spoke, ap (λ (k : Timers). k.window) g.my_timers)
          | inr since ↦ elim since [
            | inl heard ↦ absurd (omega (arith, heard, i_undue.spoke, ap (λ (k : Timers). k.window) g.my_timers, tick_is, times.window))
            | inr waits ↦ absurd (omega (arith, waits))
          ]
        ]

        took_is : q.took ≡ their.took
        took_is = elim g.theirs.took [ inl e ↦ e | inr since ↦ absurd (omega (arith, since, tick_is, bound, times.window)) ]
    by_tick (Tried spent is) = elim (cases_lt clock (t0 + t.t1)) [
      | inr over ↦ absurd (let e = ended over in goes_not (sym (never_spent t0 clock their.halves.sending q.halves.sending q.halves.sending.window q.halves.sending.urgent.out e.0 e.1) ∙ spent))
      | inl early ↦ given early (gives_up t0 clock their.halves.sending q.halves.sending spent g.theirs.tried (undue clock y.base q g.both.here.fed.is_open later).young (eds_young clock y.base q g.both.here.fed.is_open later))
    ]
      where
        given : clock < t0 + t.t1 → GivesUp t0 (clock + 1) their.halves.sending q.halves.sending → GoesItself t t0 (clock + 1) their y
        given early u = elim u.early [
          | inl of ↦ record { cause = Spent; why = (u.tries, of, omega (arith, u.spent, sendings_is), omega (arith, u.last, t1_is), omega (arith, early)); is = is }
          | inr new_one ↦ elim new_one [
            | inl since ↦ absurd (omega (arith, since, u.last, t1_is, early))
            | inr once_only ↦ absurd (omega (arith, once_only, u.spent, sendings_is, times.sendings))
          ]
        ]

    -- so, if it leaves
    pub why_ticks : y.stage ≡ Opened q → (ticks : Bool) → HasLeft (tick_of ticks (clock + 1) y).stage → (ticks ≡ true) × GoesItself t t0 (clock + 1) their y
    why_ticks is ticks left = elim (tick_row (clock + 1) was their one other x y o q ticks lately is).does [
      | inl leaves ↦ (leaves.why.0, by_tick leaves.why.1)
      | inr on ↦ absurd (subst HasLeft on.stage left)
    ]
      where
        lately : t0 < clock + 1
        lately = omega (arith, from)
