-- What an end tells and sends, in order.
use Rattle.std.specs.Prelude.{◌≡◌, ℕ, List, [], ◌∷◌, ◌++◌}
use Rattle.tp4_flow.specs.declared.step.EndEvent.{EndEvent}
use Rattle.tp4_flow.specs.declared.step.What.TheVariants as whats
use Rattle.tpdu.specs.declared.service.EndTold.TheVariants.{Got}
use Rattle.tp4_flow.specs.declared.step.Sent.{Sent}

pub record Told : Type 0 where
  pub events : List EndEvent
  pub tpdus : List Sent

-- these came to what was there
abbrev pub Grows : Told → List EndEvent → List Sent → Told → Type 0
Grows was events tpdus new = new ≡ record { events = was.events ++ events; tpdus = was.tpdus ++ tpdus }

-- the events that show these units at the end of a reference
abbrev pub gots : ℕ → List (List ℕ) → List EndEvent
gots own [] = []
gots own (unit ∷ units) = record { reference = own; what = whats.End (Got unit) } ∷ gots own units
