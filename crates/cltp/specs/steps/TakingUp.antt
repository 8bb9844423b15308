-- What is told while all that waits is taken up, and while a network settles.
use Rattle.std.specs.Prelude.{◌≡◌, ℕ, List, [], ◌∷◌, ◌++◌}
use Rattle.osi_base.specs.declared.unit.Up.{Up}
use Rattle.osi_base.specs.declared.unit.Up.TheVariants.{Unit as Came, Note as Noted}
use Rattle.osi_base.specs.Link.{Link}
use Rattle.osi_base.specs.Calls.{Call}
use Rattle.script_journal.specs.declared.cause.Settled.{Settled}
use Rattle.script_journal.specs.declared.event.Event.{Event}
use Rattle.script_journal.specs.declared.event.Event.TheVariants as events
use Rattle.cltp.specs.declared.system.ClSystem.{ClSystem}
use Rattle.cltp.specs.Hearing.{Hears}
use Rattle.cltp.specs.Run.{Settles}
use Rattle.cltp.specs.Systems.{World}

-- what one thing that came up gives
abbrev pub HearsUp : List ClSystem → Up (List ℕ) → List Event → Type 0
HearsUp systems (Noted note) made = made ≡ []
HearsUp systems (Came arrival) made = Hears systems arrival made

-- these deliveries were made, and then it ends so
abbrev pub SettlesSo : {C : Type 0} → (C → Link (List ℕ)) → (C → Call (List ℕ) → C → Type 0) → World C → List Event → Settled → World C → Type 0
SettlesSo link steps old made answer new = Settles link steps 0 old answer (made ++ events.Settle answer ∷ []) new
