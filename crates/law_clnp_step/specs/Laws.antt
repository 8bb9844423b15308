-- The promise of the network layer: over any carrier of frames that keeps the link contract, the network keeps it for units.
use Rattle.std.specs.Prelude.{◌≡◌, ℕ, List, []}
use Rattle.nsap.specs.declared.port.Port.{Port}
use Rattle.osi_base.specs.Link.{Link}
use Rattle.osi_base.specs.Calls.{Call, Keeps}
use Rattle.clnp_system.specs.Node.{Node}
use Rattle.clnp_system.specs.Tables.{Tables}
use Rattle.law_clnp_step.specs.Network.{Network, net_link}
use Rattle.law_clnp_step.specs.Sound.{IsNew, IsPeopled, IsSound, settings_of}
use Rattle.law_clnp_step.specs.Step.{Begins, NetStep}
use Rattle.std.specs.List.{AllByRecursion}

-- each step of the network keeps the link contract, whatever its systems know of each other
abbrev pub CarriesOn : {C : Type 0} → (C → Link Port) → (C → Call Port → C → Type 0) → Type 0 → Type 0
CarriesOn {C} link steps N = (tables : Tables N) (old : Network C N) (call : Call (List ℕ)) (new : Network C N)
    → NetStep link steps tables old call new → Keeps (net_link link old) call (net_link link new)

abbrev pub StaysSound : {C : Type 0} → (C → Link Port) → (C → Call Port → C → Type 0) → Type 0 → Type 0
StaysSound {C} link steps N = (tables : Tables N) (old : Network C N) (call : Call (List ℕ)) (new : Network C N)
    → IsSound link old → NetStep link steps tables old call new → IsSound link new

-- a carrier in which nothing floats or waits, at tick 0, and systems as they are made
abbrev pub BeginsSoundly : {C : Type 0} → (C → Link Port) → (C → Call Port → C → Type 0) → Type 0 → Type 0
BeginsSoundly {C} link steps N = (tables : Tables N) (first : C) (nodes : List (Node N)) (life : ℕ) (new : Network C N)
    → (link first).clock ≡ 0 → (link first).floating ≡ [] → (link first).waiting ≡ [] → IsPeopled (link first).bound life (settings_of nodes)
    → AllByRecursion IsNew nodes → Begins link steps tables first nodes life new → IsSound link new
