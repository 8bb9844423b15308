-- What the LANs keep true between two calls.
use Rattle.std.specs.Prelude.{◌≡◌, ℕ, Bool, true, List, Option}
use Rattle.std.specs.List.{All}
use Rattle.lan_step.specs.Rows.{IsLan}
use Rattle.lan_step.specs.Frames.{Frame}
use Rattle.lan_bag.specs.steps.Index.{AreIndexed}
use Rattle.lan_bag.specs.steps.Openings.{IsFreshAt}
use Rattle.lan_bag.specs.steps.Setting.{Setting}
use Rattle.lan_bag.specs.steps.Wheel.{AreDue}

-- there is no stray before an injection, the first open frame is at that place and the pair is its own, and each frame is
-- listed for the ticks that are left to it, and by what it carries once that is wanted
pub record IsStanding (clock : ℕ) (setup : Setting) (frames : List (Option Frame)) (open_at : ℕ) (pair : Option (ℕ × ℕ)) (wheel : List (List ℕ)) (honest : Bool) (count : ℕ) (wanted : Bool) (has : ℕ → Bool) : Type 0 where
  pub lans_fit : All IsLan setup.lans
  pub strays : honest ≡ true → count ≡ 0
  pub fresh : IsFreshAt clock setup.lans setup.rows frames open_at pair
  pub due : AreDue clock setup.lans frames wheel
  pub indexed : wanted ≡ true → AreIndexed has frames
