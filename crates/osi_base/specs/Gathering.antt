-- All that waits in a carrier is taken up (X.233, connectionless-mode network service).
use Rattle.std.specs.Prelude.{◌≡◌, List, [], ◌∷◌, ◌++◌, Some, None}
use Rattle.osi_base.specs.declared.unit.Up.{Up}
use Rattle.osi_base.specs.Link.{Link}
use Rattle.osi_base.specs.Calls.{Call, NextUp, Chain, IsSameLink, NothingNew, StillTakes, TookAlso, GivesPicks, no_pair}

-- the clock stands, and no pair was taken: what offers, and units that are taken up, leave as it is
pub record Stands {A : Type 0} (old new : Link A) : Type 0 where
  pub same : IsSameLink old new
  pub clock : new.clock ≡ old.clock
  pub honest : new.honest ≡ old.honest
  pub takes : StillTakes old new
  pub picks : GivesPicks old new
  pub took : TookAlso old no_pair new

-- the calls that take up these
abbrev pub takings : {A : Type 0} → List (Up A) → List (Call A)
takings [] = []
takings (up ∷ ups) = NextUp (Some up) ∷ takings ups

-- these waited, and nothing waits now
pub record Gathers {C A : Type 0} (link : C → Link A) (steps : C → Call A → C → Type 0) (old : C) (ups : List (Up A)) (new : C) : Type 0 where
  pub waited : (link old).waiting ≡ ups
  pub quiet : (link new).waiting ≡ []
  pub stands : Stands (link old) (link new)
  pub grows : NothingNew (link old) (link new)
  pub chain : Chain steps old (takings ups ++ NextUp None ∷ []) new
