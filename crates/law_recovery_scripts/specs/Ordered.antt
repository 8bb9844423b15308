-- W and I of a set-up, as the names declared have them, stand in order (X.224, inactivity control, explicit flow control).
use Rattle.std.specs.Prelude.{◌≡◌, ◌<◌, List, [], ◌∷◌}
use Rattle.script_lines.specs.declared.line.Line.{Line}
use Rattle.script_lines.specs.declared.settings.Key.TheVariants as keys
use Rattle.script_lines.specs.Known.{Declared}
use Rattle.script_lines.specs.Settings.{setting_or}
use Rattle.script_setup.specs.SetUp.{SetUp, set_up}

pub record AreOrdered (names : Declared) (setup : SetUp) : Type 0 where
  pub window : setup.limits.window ≡ setting_or names.settings keys.W
  pub inactive : setup.limits.inactive ≡ setting_or names.settings keys.I
  pub order : setup.limits.window < setup.limits.inactive

-- the set-up that these lines lead to
abbrev pub set_up_by : SetUp → List Line → SetUp
set_up_by old [] = old
set_up_by old (line ∷ lines) = set_up_by (set_up old line) lines
