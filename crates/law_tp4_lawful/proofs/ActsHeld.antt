-- What an end tells as held stands in the journal under the number of the end.
use Rattle.std.proofs.Common.{◌≡◌, inl, inr, ℕ, List, [], ◌∷◌, sym, ◌∙◌, ap, subst, arith, Contains}
use Rattle.std.proofs.lemmas.List.Elements.{Contains-append_left, Contains-append_right, Contains-push}
use Rattle.osi_base.proofs.Members.{contains_cases}
use Rattle.script_journal.specs.declared.event.Event.TheVariants as events
use Rattle.tpdu.specs.declared.service.EndTold.TheVariants as tells
use Rattle.tpdu.specs.declared.service.HeldKind.{HeldKind}
use Rattle.tp4_flow.specs.declared.step.EndEvent.{EndEvent}
use Rattle.tp4_flow.specs.declared.step.What.TheVariants as whats
use Rattle.tp4_world.specs.Telling.{ends_after, events_after}
use Rattle.tp4_world.specs.World.{latest}
use Rattle.tp4_world.specs.declared.place.EndAt.{EndAt}
use Rattle.law_tp4_lawful.proofs.ActsRows.{AreTold, IsTold}
use Rattle.law_tp4_lawful.proofs.ActsTold.{ends_stay}

pub first_there : {A : Type 0} (x : A) (xs : List A) → Contains (x ∷ xs) x
first_there x xs = Contains-append_left (x ∷ []) xs x (Contains-push [] x)

module _ (system : ℕ) (address : List ℕ) (own n : ℕ) where
  held_first : (ends : List EndAt) (reference m : ℕ) (kind : HeldKind) (rest : List EndEvent) → latest ends system own ≡ n → reference ≡ own
      → Contains (events_after ends system address (record { reference = reference; what = whats.End (tells.Held kind m) } ∷ rest)) (events.End n (tells.Held kind m))
  held_first ends reference m kind rest at same =
      subst (λ (k : ℕ). Contains (events.End k (tells.Held kind m) ∷ events_after ends system address rest) (events.End n (tells.Held kind m))) (sym (ap (latest ends system) same ∙ at))
      (first_there (events.End n (tells.Held kind m)) (events_after ends system address rest))

  pub held_in : (told : List EndEvent) (ends : List EndAt) (reference m : ℕ) (kind : HeldKind) → latest ends system own ≡ n → AreTold own told
      → Contains told (record { reference = reference; what = whats.End (tells.Held kind m) }) → Contains (events_after ends system address told) (events.End n (tells.Held kind m))
  held_in [] ends reference m kind at are there = absurd (omega (arith, there.1))
  held_in (first ∷ told) ends reference m kind at are there = elim (contains_cases first told (record { reference = reference; what = whats.End (tells.Held kind m) }) there) [
    | inl same ↦
        subst (λ (e : EndEvent). Contains (events_after ends system address (e ∷ told)) (events.End n (tells.Held kind m))) (sym same)
        (held_first ends reference m kind told at (subst (λ (e : EndEvent). IsTold own e.reference e.what) same are.0))
    | inr rest ↦
        let stays : ends_after ends system (first ∷ []) ≡ ends = ends_stay system address ends own (first ∷ []) (are.0, tt) in
        Contains-append_right (_ ∷ []) (events_after (ends_after ends system (first ∷ [])) system address told) (events.End n (tells.Held kind m))
        (held_in told (ends_after ends system (first ∷ [])) reference m kind (ap (λ (es : List EndAt). latest es system own) stays ∙ at) are.1 rest)
  ]
