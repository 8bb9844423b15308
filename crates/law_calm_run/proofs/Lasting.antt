-- An end that ticks: it was due and is no more, and it is taken out only where its reference is free. Where nothing waits, the called end of a calling one
-- that waits for its answer is not frozen, so it keeps its reference over the next tick.
use Rattle.std.proofs.Common.{◌≡◌, ℕ, ◌+◌, true, false, get_or, List, [], Option, Some, None, refl, sym, ◌∙◌, ap, subst, inr}
use Rattle.std.specs.Prelude.{option_map}
use Rattle.std.specs.List.{position}
use Rattle.std.proofs.lemmas.List.Quantifiers.{position-Some}
use Rattle.std.proofs.lemmas.Option.{slice_get-get_or}
use Rattle.tp4_number.specs.Number.{whole}
use Rattle.tp4_flow.specs.declared.step.Sent.{Sent}
use Rattle.tp4_conn.specs.End.{End, Moved, end_of, frozen_for}
use Rattle.tp4_conn.specs.Proper.{IsProper}
use Rattle.tp4_conn.specs.Table.{Ticked, at as at_tick, due, stepped}
use Rattle.tp4_conn.specs.declared.end_record.EndRecord.{EndRecord}
use Rattle.tp4_conn.specs.declared.states.StateData.{StateData}
use Rattle.tp4_conn.specs.declared.states.StateData.TheVariants.{CrWait, UserWait, Frozen}
use Rattle.tp4_conn.specs.declared.timers.Timers.{Timers}
use Rattle.tp4_entity.specs.Entity.{Entity, end_at, there}
use Rattle.tp4_entity.specs.References.{was_frozen}
use Rattle.tp4_entity.specs.Step.{first_due, is_due, kept_end}
use Rattle.tp4_entity.proofs.PlaceLaws.{end_at_of}
use Rattle.law_tp4_proper.proofs.Ends.{kept_later}
use Rattle.law_tp4_proper.proofs.Rows.{ticked_later}
use Rattle.law_tp4_associations.specs.Association.{Association}
use Rattle.law_tp4_associations.specs.Phase.{Answered, Asking, IsFrozen, IsInUse, IsOver, Late, Leaving, Over, Paired, Phase, Refused, Rejected, Waiting, WillFreeze}
use Rattle.law_tp4_associations.proofs.Handing.{paired_held}
use Rattle.law_tp4_associations.proofs.FrozenReferences.{over as no_due}
use Rattle.law_tp4_rows.proofs.Leaving.{ticks_same}
use Rattle.law_calm_run.proofs.Story.{IsYoung}
use Rattle.law_calm_run.proofs.Continuing.{none_some, some_same}

-- ---- an end that ticks

-- the first end that is due is due
pub due_first : (now : ℕ) (e : Entity) (reference : ℕ) (end : End) → first_due now e ≡ Some reference → end_at e reference ≡ Some end → is_due now (Some end) ≡ true
due_first now e reference end first stands = by_place (position (is_due now) e.ends) refl first
  where
    by_place : (place : Option ℕ) → position (is_due now) e.ends ≡ place → option_map (λ (n : ℕ). n + 1) place ≡ Some reference → is_due now (Some end) ≡ true
    by_place None at is = absurd (none_some reference is)
    by_place (Some place) at is =
        let found = position-Some (is_due now) e.ends place None at in
        let here : end_at e (place + 1) ≡ get_or e.ends place None = end_at_of e (place + 1) place refl ∙ ap there (slice_get-get_or e.ends place None found.0) in
        let same : get_or e.ends place None ≡ Some end = sym here ∙ ap (end_at e) (some_same (place + 1) reference is) ∙ stands in
        ap (is_due now) (sym same) ∙ found.1

-- an end that ticked is due later
pub due_later : (now : ℕ) (end : End) → IsProper end.base end.stage → is_due now (Some (end_of (stepped whole now end Ticked))) ≡ false
due_later now end proper = kept_later now (stepped whole now end Ticked) (Some 0) (ticked_later whole now end proper)

pub kept_is : (m : Moved) (next : Option ℕ) (end : End) → kept_end m next ≡ Some end → end ≡ end_of m
kept_is m None end is = absurd (none_some end is)
kept_is m (Some tick) end is = sym (some_same (end_of m) end is)

kept_none : (m : Moved) (next : Option ℕ) → kept_end m next ≡ None → next ≡ None
kept_none m None is = refl
kept_none m (Some tick) is = absurd (none_some (end_of m) (sym is))

-- an end that has to keep its reference is not taken out
pub kept_held : (now : ℕ) (end : End) → kept_end (stepped whole now end Ticked) (due (stepped whole now end Ticked).base (stepped whole now end Ticked).stage) ≡ None → IsInUse now (end_of (stepped whole now end Ticked)) → ⊥
kept_held now end none held =
    let m : Moved = stepped whole now end Ticked in
    let frozen : was_frozen m.base.clock (frozen_for m.base.timers) m.stage ≡ true = no_due m.base m.stage (kept_none m (due m.base m.stage) none) in
    let clock : m.base.clock ≡ now = ap (λ (b : EndRecord). b.clock) (ticks_same (at_tick now end.base) end.stage) in
    never (sym frozen ∙ ap (λ (n : ℕ). was_frozen n (frozen_for m.base.timers) m.stage) clock ∙ held)
  where
    never : true ≡ false → ⊥
    never e = cc e

-- ---- a called end, where nothing waits

never_frozen : (stage : StateData) → IsYoung stage → IsFrozen stage → ⊥
never_frozen (Frozen when) young frozen = young
never_frozen stage young frozen = frozen

never_parts : (own other : ℕ) (stage theirs : StateData) (into out : List Sent) → IsYoung stage → WillFreeze own other stage theirs into out → ⊥
never_parts own other (CrWait w) theirs into out young freezes = freezes
never_parts own other (UserWait since) theirs into out young freezes = freezes
never_parts own other stage theirs into out young freezes = young

user_held : (now since : ℕ) (y : End) → y.stage ≡ UserWait since → IsInUse now y
user_held now since y is = subst (λ (s : StateData). was_frozen now (frozen_for y.base.timers) s ≡ false) (sym is) refl

module _ (timers : Timers) (here there_address : List ℕ) (now later : ℕ) (a : Association) (x y : End) (calling : a.calling ≡ Some x) (called : a.called ≡ Some y) (young : IsYoung x.stage) where
  same_calling : (z : End) → a.calling ≡ Some z → z ≡ x
  same_calling z is = some_same z x (sym is ∙ calling)

  same_called : (z : End) → a.called ≡ Some z → z ≡ y
  same_called z is = some_same z y (sym is ∙ called)

  none_called : {A : Type 0} → a.called ≡ None → A
  none_called none = absurd (none_some y (sym none ∙ called))

  pub stays_held : Phase timers here there_address now a [] [] → IsInUse later y
  stays_held (Asking z r x_is none asks stage forth_is back_is) = none_called none
  stays_held (Rejected z refusal x_is none asks forth_is back_is to refuses) = none_called none
  stays_held (Waiting z w since x_is y_is asks is copies back_is) = subst (IsInUse later) (same_called w y_is) (user_held later since w is.stage)
  stays_held (Late z w when since x_is y_is stage unagreed is past forth_is back_is) = subst (IsInUse later) (same_called w y_is) (user_held later since w is.stage)
  stays_held (Refused z w first others x_is y_is asks frozen held unagreed copies back_is refusals) = absurd (cc back_is)
  stays_held (Answered z w parting x_is y_is asks stage is forth_is) = absurd (subst IsYoung (ap (λ (e : End). e.stage) (sym (same_calling z x_is)) ∙ stage) young)
  stays_held (Paired p x_is y_is is) = subst (IsInUse later) (same_called p.called y_is) (paired_held later p.called (λ left. is.stays (inr left)))
  stays_held (Leaving z w x_is y_is parts held also) =
      absurd (never_parts z.base.own w.base.own z.stage w.stage [] [] (subst (λ (e : End). IsYoung e.stage) (sym (same_calling z x_is)) young) parts.one.freezes)
  stays_held (Over x_over y_over forth_is back_is) = absurd (never_frozen x.stage young (subst IsOver calling x_over))
