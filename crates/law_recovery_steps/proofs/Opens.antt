-- From a tick on at which nothing waits: where nothing waits again, and the called end is not due, T1 ticks later, it is Opened, since it sent its CC again in between.
use Rattle.std.proofs.Common.{◌≡◌, ◌⊎◌, inl, inr, ℕ, ◌+◌, ◌≤◌, max, Bool, List, [], ◌∷◌, refl, sym, ◌∙◌, subst, arith}
use Rattle.tp4_flow.specs.declared.step.Sent.{Sent}
use Rattle.tp4_conn.specs.declared.states.InAkWait.{InAkWait}
use Rattle.tp4_conn.specs.declared.states.InOpened.{InOpened}
use Rattle.tp4_conn.specs.declared.states.StateData.{StateData}
use Rattle.tp4_conn.specs.declared.states.StateData.TheVariants.{AkWait, Opened}
use Rattle.tp4_conn.specs.Living.{IsInTime}
use Rattle.tp4_conn.specs.Table.{due}
use Rattle.law_tp4_pair.specs.Pair.{Clock, Happening, IsIdle, Leads, Pair, back_units, forth_units, next}
use Rattle.law_tp4_pair.specs.Rest.{AreAtRest}
use Rattle.law_tp4_pair.specs.Standing.{party}
use Rattle.law_recovery_steps.specs.Resting.{AreLater, AreLevel, HaveWindow}
use Rattle.law_recovery_steps.specs.Showing.{AreCarried}
use Rattle.law_recovery_steps.specs.Steps.{AreRiding, IsParted, IsRiding, Since}
use Rattle.law_recovery_steps.proofs.Resting.{begins_riding, one_since, other_since, rides_level}
use Rattle.law_recovery_steps.proofs.Showing.{pairs_show}
use Rattle.law_recovery_steps.specs.Opening.{IsBegunSo, as_if, as_opened}
use Rattle.law_recovery_steps.specs.AkWait.{AreOpening, IsOpenedBoth, IsOpening}
use Rattle.law_recovery_steps.proofs.Stepping.{On, idle_before, openings_lead, ticks_on}

module _ (life size t1 : ℕ) (p : Pair) (o : InOpened) (w : InAkWait) (b : IsBegunSo life size p o w) (timed : p.called.base.timers.t1 ≡ t1) where
  abbrev one : Since
  one = one_since life size (as_if p b.base o w) o (as_opened w) b.begun

  abbrev other : Since
  other = other_since life size (as_if p b.base o w) o (as_opened w) b.begun

  begins : AreOpening life size (p.clock + 1) t1 (p.clock + 1) one other p.calling p.called.base w b.options [] []
  begins = record {
    timed = timed;
    agreed = b.agreed;
    sized = b.sized;
    o = o;
    first = party b.base;
    calling = b.calling;
    queued = b.queued;
    knows = b.knows;
    crs_are = tt;
    quiet = λ _ _. refl;
    both = begins_riding life size (as_if p b.base o w) o (as_opened w) b.begun;
  }

  leads : (calling called : Bool) (happenings : List Happening) (last : Pair) → Leads p (Clock calling called ∷ happenings) last → On life size (p.clock + 1) t1 one other last
  leads calling called happenings last l = openings_lead life size (p.clock + 1) t1 one other (next p (Clock calling called)) happenings last
      (ticks_on life size (p.clock + 1) t1 one other p w b.called b.options b.idle (omega (arith, b.tried)) begins calling called) l.1

  -- long enough after it both ride
  pub rides : (calling called : Bool) (happenings : List Happening) (last : Pair) → Leads p (Clock calling called ∷ happenings) last → IsIdle last → AreLater last → p.clock + t1 ≤ last.clock
      → IsParted last ⊎ IsRiding life size (p.clock + 1) one other last
  rides calling called happenings last l idle later late = by (leads calling called happenings last l)
    where
      -- an end in AkWait would have sent its CC
      never : IsOpening life size (p.clock + 1) t1 one other last → ⊥
      never x =
          let before = (idle_before life size (p.clock + 1) t1 one other last x idle).2 in
          let in_time : IsInTime (due last.called.base (AkWait x.w)) (last.clock + 1) = subst (λ (stage : StateData). IsInTime (due last.called.base stage) (last.clock + 1)) x.called later.1 in
          omega (arith, before, in_time, late, x.are.timed)

      back_none : (back : List Sent) (sent : Sent) → last.back ≡ sent ∷ back → ⊥
      back_none back sent e = some_waits (sym idle.back ∙ e)
        where
          some_waits : [] ≡ sent ∷ back → ⊥
          some_waits f = cc f

      rides_so : (x : IsOpenedBoth life size (p.clock + 1) one other last) → last.back ≡ x.back → IsRiding life size (p.clock + 1) one other last
      rides_so x is = record {
        o = x.o;
        q = x.q;
        calling = x.calling;
        called = x.called;
        both = subst (λ (l : List Sent). AreRiding life size (p.clock + 1) last.clock one other (party last.calling.base) (party last.called.base) x.o x.q last.forth l) (sym is) x.both;
      }

      by : On life size (p.clock + 1) t1 one other last → IsParted last ⊎ IsRiding life size (p.clock + 1) one other last
      by (inl left) = inl left
      by (inr (inl x)) = absurd (never x)
      by (inr (inr x)) = inr (elim x.back_is [ inl is ↦ rides_so x is | inr y ↦ absurd (back_none x.back y.0 y.1) ])

pub pairs_open : (life size t1 : ℕ) (p : Pair) (o : InOpened) (w : InAkWait) (calling called : Bool) (happenings : List Happening) (last : Pair) → IsBegunSo life size p o w
    → p.called.base.timers.t1 ≡ t1 → Leads p (Clock calling called ∷ happenings) last → IsIdle last → AreLater last → p.clock + t1 ≤ last.clock
    → IsParted last ⊎ ((i k : InOpened) × (last.calling.stage ≡ Opened i) × (last.called.stage ≡ Opened k))
pairs_open life size t1 p o w calling called happenings last b timed l idle later late = elim (rides life size t1 p o w b timed calling called happenings last l idle later late) [
  | inl left ↦ inl left
  | inr r ↦ inr (r.o, r.q, r.calling, r.called)
]

pub pairs_open_level : (life size t1 window : ℕ) (p : Pair) (o : InOpened) (w : InAkWait) (calling called : Bool) (happenings : List Happening) (last : Pair) → IsBegunSo life size p o w
    → p.called.base.timers.t1 ≡ t1 → o.halves.sending.rules.t1 ≡ t1 → w.halves.sending.rules.t1 ≡ t1 → HaveWindow window last
    → Leads p (Clock calling called ∷ happenings) last → IsIdle last → AreLater last → p.clock + max t1 window ≤ last.clock
    → IsParted last ⊎ AreLevel last
pairs_open_level life size t1 window p o w calling called happenings last b timed one_t1 other_t1 windows l idle later late =
    elim (rides life size t1 p o w b timed calling called happenings last l idle later (omega (arith, late))) [
      | inl left ↦ inl left
      | inr r ↦ inr (rides_level life size t1 window (as_if p b.base o w) o (as_opened w) last b.begun one_t1 other_t1 windows idle later late r)
    ]

pub pairs_open_rest : (life size t1 window : ℕ) (p : Pair) (o : InOpened) (w : InAkWait) (calling called : Bool) (happenings : List Happening) (last : Pair) → IsBegunSo life size p o w
    → p.called.base.timers.t1 ≡ t1 → o.halves.sending.rules.t1 ≡ t1 → w.halves.sending.rules.t1 ≡ t1 → HaveWindow window last
    → Leads p (Clock calling called ∷ happenings) last → IsIdle last → AreLater last → p.clock + max t1 window ≤ last.clock
    → ((x y : InOpened) → last.calling.stage ≡ Opened x → last.called.stage ≡ Opened y
    → AreCarried x.halves.sending y.halves.receiving (forth_units last) × AreCarried y.halves.sending x.halves.receiving (back_units last))
    → IsParted last ⊎ ((x y : InOpened) × (last.calling.stage ≡ Opened x) × (last.called.stage ≡ Opened y) × AreAtRest last x y)
pairs_open_rest life size t1 window p o w calling called happenings last b timed one_t1 other_t1 windows l idle later late carried =
    elim (pairs_open_level life size t1 window p o w calling called happenings last b timed one_t1 other_t1 windows l idle later late) [
      | inl left ↦ inl left
      | inr level ↦ inr (rests level)
    ]
  where
    rests : (level : AreLevel last) → (x y : InOpened) × (last.calling.stage ≡ Opened x) × (last.called.stage ≡ Opened y) × AreAtRest last x y
    rests level = let c = carried level.o level.q level.calling level.called in (level.o, level.q, level.calling, level.called, pairs_show last level c.0 c.1)
