-- What a phase says of the ends: which of them stand, and whose reference may be given to another end. Where it is, both ends are over, and the association stays over without it.
use Rattle.std.proofs.Common.{◌≡◌, ◌⊎◌, ℕ, ◌+◌, ◌*◌, ◌<◌, ◌≤◌, ◌==◌, nat_lt, Bool, true, false, if◌then◌else◌, List, [], ◌∷◌, Option, Some, None, refl, sym, ◌∙◌, subst, inl, inr, arith}
use Rattle.std.proofs.lemmas.Bool.{eqb-true}
use Rattle.tp4_flow.specs.declared.step.Sent.{Sent}
use Rattle.tp4_conn.specs.declared.states.StateData.TheVariants.{AkWait, Frozen, UserWait}
use Rattle.tp4_conn.specs.declared.timers.Timers.{Timers}
use Rattle.tp4_conn.specs.End.{End, frozen_for, span}
use Rattle.tp4_entity.specs.References.{was_frozen}
use Rattle.law_tp4_associations.specs.Association.{Association, cleared, party, system_of, without}
use Rattle.law_tp4_associations.specs.Phase.{Answered, Asking, IsFrozen, IsInUse, IsOver, Late, Leaving, Over, Paired, Phase, Refused, Rejected, Waiting}
use Rattle.law_tp4_associations.specs.Standing.{IsAssociation}
use Rattle.law_tp4_associations.proofs.Handing.{asking_held, paired_held}
use Rattle.law_tp4_associations.proofs.Holding.{held_so}
use Rattle.law_tp4_associations.proofs.Places.{cleared_got, same_some}

-- where something waits for the called end before it is made, the calling end stands
pub has_caller : (timers : Timers) (here there : List ℕ) (now : ℕ) (a : Association) (sent : Sent) (rest back : List Sent) → Phase timers here there now a (sent ∷ rest) back → (x : End) × (a.calling ≡ Some x)
has_caller timers here there now a sent rest back (Asking x r calling called asks stage forth_is back_is) = (x, calling)
has_caller timers here there now a sent rest back (Rejected x refusal calling called asks forth_is back_is to is) = (x, calling)
has_caller timers here there now a sent rest back (Waiting x y since calling called asks indicated requests back_is) = (x, calling)
has_caller timers here there now a sent rest back (Late x y when since calling called stage unagreed indicated before forth_is back_is) = (x, calling)
has_caller timers here there now a sent rest back (Refused x y first others calling called asks frozen held unagreed requests back_is refusals) = (x, calling)
has_caller timers here there now a sent rest back (Answered x y w calling called asks stage confirming forth_is) = (x, calling)
has_caller timers here there now a sent rest back (Paired p calling called paired) = (p.calling, calling)
has_caller timers here there now a sent rest back (Leaving x y calling called parting held_x held_y) = (x, calling)
has_caller timers here there now a sent rest back (Over calling called forth_is back_is) = absurd (cc forth_is)

pub frozen_called : (o : Option End) (y : End) → o ≡ Some y → IsOver o → IsFrozen y.stage
frozen_called None y e over = absurd (cc e)
frozen_called (Some z) y e over = subst (λ (x : End). IsFrozen x.stage) (same_some z y e) over

-- and where the called end is not frozen
pub caller_stands : (timers : Timers) (here there : List ℕ) (now : ℕ) (a : Association) (forth back : List Sent) (y : End) → a.called ≡ Some y → (IsFrozen y.stage → ⊥) → Phase timers here there now a forth back
    → (x : End) × (a.calling ≡ Some x)
caller_stands timers here there now a forth back z is live (Asking x r calling called asks stage forth_is back_is) = (x, calling)
caller_stands timers here there now a forth back z is live (Rejected x refusal calling called asks forth_is back_is to r) = (x, calling)
caller_stands timers here there now a forth back z is live (Waiting x y since calling called asks indicated requests back_is) = (x, calling)
caller_stands timers here there now a forth back z is live (Late x y when since calling called stage unagreed indicated before forth_is back_is) = (x, calling)
caller_stands timers here there now a forth back z is live (Refused x y first others calling called asks frozen held unagreed requests back_is refusals) = (x, calling)
caller_stands timers here there now a forth back z is live (Answered x y w calling called asks stage confirming forth_is) = (x, calling)
caller_stands timers here there now a forth back z is live (Paired p calling called paired) = (p.calling, calling)
caller_stands timers here there now a forth back z is live (Leaving x y calling called parting held_x held_y) = (x, calling)
caller_stands timers here there now a forth back z is live (Over calling called forth_is back_is) = absurd (live (frozen_called a.called z is called))

-- ---- a free reference

-- the reference of an end is free, and so the association is over
pub record IsEnded (a : Association) (forth back : List Sent) : Type 0 where
  pub calling : IsOver a.calling
  pub called : IsOver a.called
  pub forth_is : forth ≡ []
  pub back_is : back ≡ []

-- an end that gave up since the indication is held as long as the user may answer: it is frozen for longer
pub late_held : (timers : Timers) (now : ℕ) (x : End) (when since : ℕ) → x.stage ≡ Frozen when → x.base.timers ≡ timers → since ≤ when → now < since + timers.inactive → IsInUse now x
late_held timers now x when since stage same before late =
    held_so now x (Frozen when) stage (subst (λ (t : Timers). was_frozen now (frozen_for t) (Frozen when) ≡ false) (sym same) (longer (2 * timers.life) (span timers)))
  where
    longer : (a b : ℕ) → nat_lt (when + (a + timers.inactive + b)) now ≡ false
    longer a b = let low : now ≤ when + (a + timers.inactive + b) = omega (arith, before, late) in grind arith

free_not_held : (now : ℕ) (z x : End) → Some z ≡ Some x → IsInUse now x → was_frozen now (frozen_for z.base.timers) z.stage ≡ true → ⊥
free_not_held now z x same held free = let h : was_frozen now (frozen_for z.base.timers) z.stage ≡ false = subst (IsInUse now) (sym (same_some z x same)) held in cc (h, free)

module _ (timers : Timers) (own : ℕ → List ℕ) (now : ℕ) (a : Association) (forth back : List Sent) (i : IsAssociation timers own now a forth back) (z : End) (free : was_frozen now (frozen_for z.base.timers) z.stage ≡ true) where
  -- an end of the association is held
  held_party : (x : End) (o : Option End) → o ≡ Some z → o ≡ Some x → IsInUse now x → ⊥
  held_party x o is other held = free_not_held now z x (sym is ∙ other) held free

  none_party : (o : Option End) → o ≡ Some z → o ≡ None → ⊥
  none_party o is none = cc (is, none)

  pub over_where_free : (by : Bool) → party a by ≡ Some z → IsEnded a forth back
  over_where_free by is = at i.phase by is
    where
      at : Phase timers (own a.from.system) (own a.to) now a forth back → (by : Bool) → party a by ≡ Some z → IsEnded a forth back
      at (Asking x r calling called asks stage forth_is back_is) true is = absurd (held_party x a.calling is calling (asking_held now x asks.stage))
      at (Asking x r calling called asks stage forth_is back_is) false is = absurd (none_party a.called is called)
      at (Rejected x refusal calling called asks forth_is back_is to r) true is = absurd (held_party x a.calling is calling (asking_held now x asks.stage))
      at (Rejected x refusal calling called asks forth_is back_is to r) false is = absurd (none_party a.called is called)
      at (Waiting x y since calling called asks indicated requests back_is) true is = absurd (held_party x a.calling is calling (asking_held now x asks.stage))
      at (Waiting x y since calling called asks indicated requests back_is) false is = absurd (held_party y a.called is called (held_so now y (UserWait since) indicated.stage refl))
      at (Late x y when since calling called stage unagreed indicated before forth_is back_is) true is =
          absurd (held_party x a.calling is calling (late_held timers now x when since stage (i.caller x calling).timers_are before indicated.in_time))
      at (Late x y when since calling called stage unagreed indicated before forth_is back_is) false is = absurd (held_party y a.called is called (held_so now y (UserWait since) indicated.stage refl))
      at (Refused x y first others calling called asks frozen held unagreed requests back_is refusals) true is = absurd (held_party x a.calling is calling (asking_held now x asks.stage))
      at (Refused x y first others calling called asks frozen held unagreed requests back_is refusals) false is = absurd (held_party y a.called is called held)
      at (Answered x y w calling called asks stage confirming forth_is) true is = absurd (held_party x a.calling is calling (asking_held now x asks.stage))
      at (Answered x y w calling called asks stage confirming forth_is) false is = absurd (held_party y a.called is called (held_so now y (AkWait confirming.answering) confirming.stage refl))
      at (Paired p calling called paired) true is = absurd (held_party p.calling a.calling is calling (paired_held now p.calling (λ l. paired.stays (inl l))))
      at (Paired p calling called paired) false is = absurd (held_party p.called a.called is called (paired_held now p.called (λ l. paired.stays (inr l))))
      at (Leaving x y calling called parting held_x held_y) true is = absurd (held_party x a.calling is calling held_x)
      at (Leaving x y calling called parting held_x held_y) false is = absurd (held_party y a.called is called held_y)
      at (Over calling called forth_is back_is) by is = record { calling = calling; called = called; forth_is = forth_is; back_is = back_is }

-- ---- an association without an end whose reference is given to another one

over_without : (reference : ℕ) (o : Option End) → IsOver o → IsOver (without reference o)
over_without reference None over = tt
over_without reference (Some end) over = by (end.base.own == reference)
  where
    by : (b : Bool) → IsOver (if b then None else Some end)
    by true = tt
    by false = over

over_if : (b : Bool) (reference : ℕ) (o : Option End) → IsOver o → IsOver (if b then without reference o else o)
over_if true reference o over = over_without reference o over
over_if false reference o over = over

-- an end at that place, or none is there
pub data IsGone (system reference : ℕ) (a : Association) (by : Bool) : Type 0 where
  Gone : (z : End) → party a by ≡ Some z → system_of a by ≡ system → z.base.own ≡ reference → IsGone system reference a by
  Stays : party (cleared system reference a) by ≡ party a by → IsGone system reference a by

gone_in : (system reference : ℕ) (at : ℕ) (o : Option End) → ((z : End) × (o ≡ Some z) × (at ≡ system) × (z.base.own ≡ reference)) ⊎ ((if at == system then without reference o else o) ≡ o)
gone_in system reference at o = by (at == system) refl o
  where
    by : (b : Bool) → (at == system) ≡ b → (o : Option End) → ((z : End) × (o ≡ Some z) × (at ≡ system) × (z.base.own ≡ reference)) ⊎ ((if b then without reference o else o) ≡ o)
    by false is o = inr refl
    by true is None = inr refl
    by true is (Some end) = on (end.base.own == reference) refl
      where
        on : (c : Bool) → (end.base.own == reference) ≡ c → ((z : End) × (Some end ≡ Some z) × (at ≡ system) × (z.base.own ≡ reference)) ⊎ ((if c then None else Some end) ≡ Some end)
        on true own_is = inl (end, refl, eqb-true at system is, eqb-true end.base.own reference own_is)
        on false own_is = inr refl

pub gone_or_not : (system reference : ℕ) (a : Association) (by : Bool) → IsGone system reference a by
gone_or_not system reference a true = elim (gone_in system reference a.from.system a.calling) [ inl g ↦ Gone g.0 g.1 g.2 g.3 | inr s ↦ Stays s ]
gone_or_not system reference a false = elim (gone_in system reference a.to a.called) [ inl g ↦ Gone g.0 g.1 g.2 g.3 | inr s ↦ Stays s ]

-- a phase speaks of the two ends alone
phase_of : (timers : Timers) (here there : List ℕ) (now : ℕ) (a : Association) (x y : Option End) (forth back : List Sent) → x ≡ a.calling → y ≡ a.called → Phase timers here there now a forth back
    → Phase timers here there now (record a { calling = x; called = y }) forth back
phase_of timers here there now a x y forth back calling called phase = subst (λ (b : Association). Phase timers here there now b forth back) (λ i. record a { calling = sym calling i; called = sym called i }) phase

-- an end whose reference is free is not kept
pub cleared_on : (timers : Timers) (own : ℕ → List ℕ) (now system reference : ℕ) (a : Association) (forth back : List Sent) → IsAssociation timers own now a forth back
    → ((by : Bool) (z : End) → party a by ≡ Some z → system_of a by ≡ system → z.base.own ≡ reference → was_frozen now (frozen_for z.base.timers) z.stage ≡ true)
    → IsAssociation timers own now (cleared system reference a) forth back
cleared_on timers own now system reference a forth back i free = record {
  phase = by (gone_or_not system reference a true) (gone_or_not system reference a false);
  caller = λ x is. i.caller x (cleared_got system reference a true x is).0;
  called = λ y is. i.called y (cleared_got system reference a false y is).0;
  some = i.some;
}
  where
    over : IsEnded a forth back → Phase timers (own a.from.system) (own a.to) now (cleared system reference a) forth back
    over e = Over (over_if (a.from.system == system) reference a.calling e.calling) (over_if (a.to == system) reference a.called e.called) e.forth_is e.back_is

    by : IsGone system reference a true → IsGone system reference a false → Phase timers (own a.from.system) (own a.to) now (cleared system reference a) forth back
    by (Gone z is at own_is) any = over (over_where_free timers own now a forth back i z (free true z is at own_is) true is)
    by (Stays same) (Gone z is at own_is) = over (over_where_free timers own now a forth back i z (free false z is at own_is) false is)
    by (Stays same) (Stays other) = phase_of timers (own a.from.system) (own a.to) now a _ _ forth back same other i.phase
