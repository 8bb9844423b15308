-- Systems that begin again: nothing is told of the ends that were lost, and for a time none is made (X.224, frozen references).
use Rattle.std.specs.Prelude.{◌≡◌, ℕ, ◌+◌, ◌<◌, List, ◌∷◌, ◌++◌}
use Rattle.script_journal.specs.declared.event.Event.{Event}
use Rattle.script_journal.specs.declared.event.Event.TheVariants as events
use Rattle.script_journal.specs.RawLawful.{tick_after}

-- the event makes an end at a system
abbrev pub MakesAt : ℕ → ℕ → Event → Type 0
MakesAt system end (events.Connect asked) = (asked.system ≡ system) × (asked.end ≡ end)
MakesAt system end (events.Incoming heard) = (heard.system ≡ system) × (heard.end ≡ end)
MakesAt system end event = ⊥

-- the event is one of the end: it makes it, or names it
abbrev pub IsOf : ℕ → Event → Type 0
IsOf end (events.Connect asked) = asked.end ≡ end
IsOf end (events.Incoming heard) = heard.end ≡ end
IsOf end (events.End at what) = at ≡ end
IsOf end (events.Data at octets) = at ≡ end
IsOf end (events.Expedite at octets) = at ≡ end
IsOf end (events.Refuse at octets) = at ≡ end
IsOf end (events.Disconnect at octets) = at ≡ end
IsOf end event = ⊥

-- after a system began again nothing is told of the ends that it had, and for `frozen` ticks it makes none
pub record KeepsSilence (frozen : ℕ) (journal : List Event) : Type 0 where
  pub lost : (front middle rest back : List Event) (making event : Event) (end system : ℕ)
      → journal ≡ front ++ making ∷ (middle ++ events.Restart system ∷ (rest ++ event ∷ back)) → MakesAt system end making → IsOf end event → ⊥
  pub late : (front middle back : List Event) (making : Event) (end system : ℕ) → journal ≡ front ++ events.Restart system ∷ (middle ++ making ∷ back) → MakesAt system end making
      → tick_after front + frozen < tick_after (front ++ events.Restart system ∷ middle)
