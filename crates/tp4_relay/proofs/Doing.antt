-- What is to be done is done, and what is told of it is noted.
use Rattle.std.proofs.Common.{◌≡◌, ℕ, ◌≤◌, Bool, false, List, [], length, drop, Result, refl, sym, ◌∙◌, ap, subst, arith}
use Rattle.std.specs.List.{AllByRecursion}
use Rattle.std.specs.Result.{IfOk, OnErr}
use Rattle.std.proofs.lemmas.List.{append-nil}
use Rattle.script_journal.specs.declared.event.Event.{Event}
use Rattle.tp4_conn.specs.declared.call.ConnectRequest.{ConnectRequest}
use Rattle.tp4_conn.specs.declared.call.UserCall.{UserCall}
use Rattle.tp4_relay.specs.declared.reaction.Reaction.{Reaction}
use Rattle.tp4_relay.specs.declared.reaction.Reaction.TheVariants.{Nothing}
use Rattle.tp4_relay.specs.Kept.{Kept, kept_after}
use Rattle.tp4_relay.specs.Pump.{Does}
use Rattle.tp4_relay.specs.Service.{IsService, Tells}
use Rattle.tp4_relay.specs.steps.Making.{AreMadeBy, MayDo}
use Rattle.tp4_relay.specs.steps.Serving.{Did, IsIdle}
use Rattle.tp4_relay.specs.steps.Tables.{AreNotable, IsTidy}
use Rattle.tp4_relay.proofs.Begun.{tells, tells_none}
use Rattle.tp4_relay.proofs.Carried.{done_broken, done_notable, done_told}
use Rattle.tp4_relay.proofs.Noted.{on_err_too}
use Rattle.tp4_relay.proofs.Served.{call_bound}

-- a call that tells nothing where it fails
pub idle_err : {E : Type 0} (r : Result Bool E) (before after : List Event) → OnErr r (after ≡ before) → OnErr r (Tells before after (AllByRecursion IsIdle))
idle_err r before after err = on_err_too r (after ≡ before) (Tells before after (AllByRecursion IsIdle)) (λ same. tells_none (AllByRecursion IsIdle) before after same tt) err

module _ {S : Type 0} (connects : S → ℕ → ConnectRequest → Bool → List Event → S → Type 0) (calls : S → ℕ → UserCall → Bool → List Event → S → Type 0) (to_do : Reaction) where
  pub did_nothing : (old : S) (before : List Event) → to_do ≡ Nothing → Tells before before (λ made. Does connects calls old to_do false made old)
  did_nothing old before is =
      subst (λ (d : Reaction). Tells before before (λ made. Does connects calls old d false made old)) (sym is)
      (tells (λ made. Does connects calls old Nothing false made old) before before [] (sym (append-nil before)) (refl, refl, refl))

  pub did_as : {E : Type 0} (r : Result Bool E) (other : Reaction) (old : S) (before after : List Event) (new : S) → to_do ≡ other → IfOk r (λ done. Tells before after (λ made. Does connects calls old other done made new))
      → IfOk r (λ done. Tells before after (λ made. Does connects calls old to_do done made new))
  did_as r other old before after new is ok = subst (λ (d : Reaction). IfOk r (λ done. Tells before after (λ made. Does connects calls old d done made new))) (sym is) ok

module _ {S : Type 0} (has : S → ℕ → Type 0) (ends : S → ℕ) (honest : S → Bool) (connects : S → ℕ → ConnectRequest → Bool → List Event → S → Type 0)
    (calls : S → ℕ → UserCall → Bool → List Event → S → Type 0) (law : IsService has ends honest connects calls)
    (kept : Kept) (to_do : Reaction) (done : Bool) (old : S) (before after : List Event) (new : S) (at : ℕ) (seen : List Event) (at_is : at ≡ length before) (seen_is : seen ≡ after)
    (low : kept.named ≤ ends old) (may : MayDo (has old) kept to_do) (t : Tells before after (λ made. Does connects calls old to_do done made new)) where
  told_part : drop at seen ≡ drop (length before) after
  told_part = ap (λ (n : ℕ). drop n seen) at_is ∙ ap (drop (length before)) seen_is

  pub note_bound : at ≤ length seen
  note_bound =
      let b = call_bound has ends honest connects calls law before after (λ made. Does connects calls old to_do done made new) t in
      let l = ap (λ (es : List Event). length es) seen_is in
      omega (arith, b, at_is, l)

  pub note_notable : IsTidy kept → AreNotable kept (drop at seen)
  note_notable tidy = subst (AreNotable kept) (sym told_part) (done_notable has ends honest connects calls law kept to_do done old before after new tidy low may t)

  pub noted_told : (last : Kept) → last ≡ kept_after kept (drop at seen) → Tells before after (λ made. Did connects calls has ends old kept to_do done made new last)
  noted_told last is = done_told has ends honest connects calls law kept last to_do done old before after new low may t (is ∙ ap (kept_after kept) told_part)

  pub noted_broken : Tells before after (AreMadeBy (ends old) kept)
  noted_broken = done_broken has ends honest connects calls law kept to_do done old before after new low may t
