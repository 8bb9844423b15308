-- What a network tells of units, frames and deliveries, and a refusal or a fault, tells no unit of an end, and makes none.
use Rattle.std.proofs.Common.{◌≡◌, ℕ, Bool, true, false, if◌then◌else◌, List, [], ◌∷◌, ◌++◌, refl, ◌∙◌, ap}
use Rattle.std.specs.Prelude.{◌==◌}
use Rattle.std.specs.List.{AllByRecursion}
use Rattle.std.proofs.lemmas.List.Elements.{All-from_recursion}
use Rattle.nsap.specs.Address.{selector_of}
use Rattle.osi_base.specs.declared.note.Note.{Note}
use Rattle.osi_base.specs.declared.unit.Offered.{Offered}
use Rattle.osi_base.specs.declared.unit.Offered.TheVariants.{Taken as WasTaken, Dropped}
use Rattle.osi_base.specs.declared.unit.Injected.{Injected}
use Rattle.osi_base.specs.declared.unit.Injected.TheVariants as injects
use Rattle.osi_base.specs.declared.unit.Picked.{Picked}
use Rattle.osi_base.specs.declared.unit.Picked.TheVariants as picks
use Rattle.osi_base.specs.declared.unit.Up.{Up}
use Rattle.osi_base.specs.declared.unit.Up.TheVariants.{Unit as Came, Note as Noted}
use Rattle.script_journal.specs.Lawful.{Marked, shown, submitted}
use Rattle.script_journal.specs.declared.event.Event.{Event}
use Rattle.script_journal.specs.declared.event.Event.TheVariants as events
use Rattle.script_journal.proofs.Showing.{shown_both, submitted_both}
use Rattle.net_world.specs.Told.{picked_event, sent_event, shown_at, told}
use Rattle.law_tp4_history.specs.Journals.{IsAside, makes_end}
use Rattle.tp4_world.specs.Telling.{drop_events, inject_event}

-- the event tells no unit and makes no end
pub record IsQuiet (event : Event) : Type 0 where
  pub submits : (end : ℕ) → submitted end (event ∷ []) ≡ []
  pub shows : (end : ℕ) → shown end (event ∷ []) ≡ []
  pub makes : makes_end event ≡ false

abbrev pub AreQuiet : List Event → Type 0
AreQuiet made = AllByRecursion IsQuiet made

pub quiet_append : (xs ys : List Event) → AreQuiet xs → AreQuiet ys → AreQuiet (xs ++ ys)
quiet_append [] ys p q = q
quiet_append (x ∷ xs) ys p q = (p.0, quiet_append xs ys p.1 q)

no_submitted : (made : List Event) → AreQuiet made → (end : ℕ) → submitted end made ≡ []
no_submitted [] all end = refl
no_submitted (event ∷ made) all end = submitted_both end (event ∷ []) made ∙ ap (λ (us : List Marked). us ++ submitted end made) (all.0.submits end) ∙ no_submitted made all.1 end

no_shown : (made : List Event) → AreQuiet made → (end : ℕ) → shown end made ≡ []
no_shown [] all end = refl
no_shown (event ∷ made) all end = shown_both end (event ∷ []) made ∙ ap (λ (us : List Marked). us ++ shown end made) (all.0.shows end) ∙ no_shown made all.1 end

none_made : (made : List Event) → AreQuiet made → AllByRecursion (λ (event : Event). makes_end event ≡ false) made
none_made [] all = tt
none_made (event ∷ made) all = (all.0.makes, none_made made all.1)

pub are_aside : (made : List Event) → AreQuiet made → IsAside made
are_aside made all = record {
  units = λ end. (no_submitted made all end, no_shown made all end);
  ends = All-from_recursion (λ (event : Event). makes_end event ≡ false) made (none_made made all);
}

-- ---- what the network tells

note_quiet : (note : Note) → IsQuiet (events.Net note)
note_quiet note = record { submits = λ end. refl; shows = λ end. refl; makes = refl }

-- a raw unit
unit_quiet : (raw : Bool) (system : ℕ) (from octets : List ℕ) → AreQuiet (if raw then events.Unit system from octets ∷ [] else [])
unit_quiet true system from octets = (record { submits = λ end. refl; shows = λ end. refl; makes = refl }, tt)
unit_quiet false system from octets = tt

pub told_quiet : (ups : List (Up (List ℕ))) → AreQuiet (told ups)
told_quiet [] = tt
told_quiet (Noted note ∷ ups) = (note_quiet note, told_quiet ups)
told_quiet (Came arrival ∷ ups) =
    quiet_append (shown_at arrival.system arrival.unit) (told ups)
    (unit_quiet (selector_of arrival.unit.to == 2) arrival.system arrival.unit.from arrival.unit.octets) (told_quiet ups)

pub drop_quiet : (system : ℕ) (answer : Offered) → AreQuiet (drop_events system answer)
drop_quiet system WasTaken = tt
drop_quiet system (Dropped cause) = (record { submits = λ end. refl; shows = λ end. refl; makes = refl }, tt)

pub sent_quiet : (system : ℕ) (to octets : List ℕ) (answer : Offered) → IsQuiet (sent_event system to octets answer)
sent_quiet system to octets WasTaken = record { submits = λ end. refl; shows = λ end. refl; makes = refl }
sent_quiet system to octets (Dropped cause) = record { submits = λ end. refl; shows = λ end. refl; makes = refl }

pub picked_quiet : (number system : ℕ) (answer : Picked) → IsQuiet (picked_event number system answer)
picked_quiet number system picks.Taken = record { submits = λ end. refl; shows = λ end. refl; makes = refl }
picked_quiet number system other = record { submits = λ end. refl; shows = λ end. refl; makes = refl }

pub inject_quiet : (system : ℕ) (answer : Injected) → IsQuiet (inject_event system answer)
inject_quiet system injects.Taken = record { submits = λ end. refl; shows = λ end. refl; makes = refl }
inject_quiet system injects.NotThere = record { submits = λ end. refl; shows = λ end. refl; makes = refl }
