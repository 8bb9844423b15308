-- What users ask stands in the journal as they asked it: the events by which a connection is asked for, or a unit is handed over, are those of the
-- lines that ask for it, in order (X.214, T-CONNECT request, T-DATA request, T-EXPEDITED-DATA request).
use Rattle.std.specs.Prelude.{◌≡◌, ◌⊎◌, ℕ, Bool, true, false, if◌then◌else◌, List, [], ◌∷◌, ◌++◌, slice_get, Some}
use Rattle.script_journal.specs.declared.cause.Refused.{Refused}
use Rattle.script_journal.specs.declared.event.Event.{Event}
use Rattle.script_journal.specs.declared.event.Event.TheVariants as events
use Rattle.script_journal.specs.declared.event.Request.{Request}
use Rattle.script_lines.specs.declared.line.Line.{Line}
use Rattle.script_lines.specs.declared.line.Line.TheVariants as lines
use Rattle.tp4_world.specs.Run.{transport_address}

-- a user asks for a connection, or hands over a unit
abbrev pub is_asked : Event → Bool
is_asked (events.Connect asked) = true
is_asked (events.Data end octets) = true
is_asked (events.Expedite end octets) = true
is_asked event = false

-- the events by which users ask, in order
abbrev pub asked_in : List Event → List Event
asked_in [] = []
asked_in (event ∷ journal) = if is_asked event then event ∷ asked_in journal else asked_in journal

-- the request says what the line says
pub record IsRequest (titles : List (List ℕ)) (system to : ℕ) (selector called octets : List ℕ) (asked : Request) : Type 0 where
  pub title : List ℕ
  pub title_is : slice_get titles to ≡ Some title
  pub system_is : asked.system ≡ system
  pub called_is : asked.called ≡ transport_address title
  pub calling_selector : asked.calling_selector ≡ selector
  pub called_selector : asked.called_selector ≡ called
  pub octets_are : asked.octets ≡ octets

-- the line has one such event, which says this; or it is refused, and nothing else comes of it
abbrev pub AsksOne : (Event → Type 0) → List Event → Type 0
AsksOne Says made = ((event : Event) × Says event × (asked_in made ≡ event ∷ [])) ⊎ ((why : Refused) × (made ≡ events.No why ∷ []))

-- a line that asks for a connection, or hands over a unit, has its own event; another line has none
abbrev pub IsAsked : List (List ℕ) → Line → List Event → Type 0
IsAsked titles (lines.Connect system selector to called options octets) made =
    AsksOne (λ event. (asked : Request) × (event ≡ events.Connect asked) × IsRequest titles system to selector called octets asked) made
IsAsked titles (lines.Data end octets) made = AsksOne (λ event. event ≡ events.Data end octets) made
IsAsked titles (lines.Expedite end octets) made = AsksOne (λ event. event ≡ events.Expedite end octets) made
IsAsked titles line made = asked_in made ≡ []

-- the journal is that of the lines, one after another, each with what it asks
abbrev pub AreAsked : List (List ℕ) → List Line → List Event → Type 0
AreAsked titles [] journal = journal ≡ []
AreAsked titles (line ∷ script) journal = (made rest : List Event) × (journal ≡ made ++ rest) × IsAsked titles line made × AreAsked titles script rest
