-- What holds of a network and of its journal holds at its start and after a raw unit is sent.
use Rattle.std.proofs.Common.{◌≡◌, ℕ, List, [], ◌∷◌, ◌++◌, Some, refl, sym, subst}
use Rattle.std.specs.Prelude.{slice_get}
use Rattle.osi_base.specs.declared.unit.Up.{Up}
use Rattle.osi_base.specs.declared.unit.Wish.{Wish}
use Rattle.osi_base.specs.Link.{Link}
use Rattle.osi_base.specs.Calls.{Call, Offer, Keeps}
use Rattle.osi_base.specs.Gathering.{Gathers}
use Rattle.script_journal.specs.RawLawful.{raw_address}
use Rattle.script_journal.specs.declared.event.Event.{Event}
use Rattle.script_journal.specs.declared.event.Event.TheVariants as events
use Rattle.script_journal.specs.declared.cause.Refused.TheVariants.{EmptyUnit}
use Rattle.net_world.specs.First.{IsFirst}
use Rattle.net_world.specs.Told.{told, sent_event}
use Rattle.net_world.specs.Run.{raw_unit, SendsUnit, Starts}
use Rattle.net_world.proofs.Standing.{Standing, Gathered, offered, refused, started}

module _ {C : Type 0} (link : C → Link (List ℕ)) (steps : C → Call (List ℕ) → C → Type 0) (law : (old : C) (call : Call (List ℕ)) (new : C) → steps old call new → Keeps (link old) call (link new))
    (life : ℕ) (titles : List (List ℕ)) where
  -- between two lines nothing waits
  pub record Rests (state : C) (journal : List Event) : Type 0 where
    pub stands : Standing life titles (link state) journal
    pub quiet : (link state).waiting ≡ []

  gathered : (old new : C) (ups : List (Up (List ℕ))) → Gathers link steps old ups new → Gathered (link old) ups (link new)
  gathered old new ups g = record { waited = g.waited; stands = g.stands; grows = g.grows }

  -- a step with these events
  along : (new : C) (journal made done : List Event) → made ≡ done → Standing life titles (link new) (journal ++ done) → (link new).waiting ≡ [] → Rests new (journal ++ made)
  along new journal made done is stands quiet = record { stands = subst (λ (all : List Event). Standing life titles (link new) (journal ++ all)) (sym is) stands; quiet = quiet }

  pub unit_rests : (old new : C) (journal made : List Event) (system : ℕ) (sender receiver : List ℕ) (wish : Wish) (octets : List ℕ) → Rests old journal
      → slice_get titles system ≡ Some sender → SendsUnit link steps old system sender receiver wish octets made new → Rests new (journal ++ made)
  unit_rests old new journal made system sender receiver wish [] rests sender_is step =
      subst (λ (state : C). Rests state (journal ++ made)) (sym step.1)
      (along old journal made (events.No EmptyUnit ∷ []) step.0 (refused life titles (link old) journal (events.No EmptyUnit) rests.stands tt refl) rests.quiet)
  unit_rests old new journal made system sender receiver wish (octet ∷ octets) rests sender_is step =
      let pass = step.2 in
      let offers = law old (Offer (raw_unit sender receiver (octet ∷ octets)) wish step.0) pass.called pass.steps_to in
      along new journal made (sent_event system (raw_address receiver) (octet ∷ octets) step.0 ∷ told step.1) step.3
      (offered life titles (link old) (link pass.called) (link new) journal system sender receiver (octet ∷ octets) step.0 step.1 rests.stands rests.quiet sender_is offers
      (gathered pass.called new step.1 pass.gathers)) pass.gathers.quiet

  pub first_rests : (made first : C) (begun : List Event) → IsFirst life titles (link made) → Starts link steps made begun first → Rests first begun
  first_rests made first begun is start =
      along first [] begun (events.Tick 0 ∷ told start.0) start.2 (started life titles (link made) (link first) start.0 is (gathered made first start.0 start.1)) start.1.quiet
