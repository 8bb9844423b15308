-- What the names that the lines of a set-up declare have in common with what these lines said.
use Rattle.std.specs.Prelude.{◌≡◌, ℕ, Bool, List, length, map, slice_get}
use Rattle.lan_step.specs.declared.row.Lan.{Lan}
use Rattle.script_lines.specs.declared.settings.Key.TheVariants as keys
use Rattle.script_lines.specs.declared.system.LanRow.{LanRow}
use Rattle.script_lines.specs.Known.{Declared, KnownSystem, is_among, ports_of, selectors_of}
use Rattle.script_lines.specs.Settings.{setting_or}
use Rattle.tp4_entity.specs.Association.{is_registered}
use Rattle.script_setup.specs.SetUp.{System, SetUp, ports_at, selectors_at}

-- what the names and the set-up both know of a system
pub record Shape : Type 0 where
  pub end : Bool
  pub title : List ℕ
  pub routes : List (List ℕ)

abbrev pub shape_of : System → Shape
shape_of system = record { end = system.end; title = system.title; routes = map (λ row. row.prefix) system.rows }

abbrev pub known_shape : KnownSystem → Shape
known_shape system = record { end = system.is_end; title = system.title; routes = system.routes }

-- the names and the set-up come from the same lines
pub record AreOne (names : Declared) (setup : SetUp) : Type 0 where
  pub lans : length setup.lans ≡ length names.lans
  pub bounds : map (λ (l : Lan). l.bound) setup.lans ≡ map (λ (l : LanRow). l.bound) names.lans
  pub life : setup.life ≡ setting_or names.settings keys.Life
  pub systems : map shape_of setup.systems ≡ map known_shape names.systems
  pub ports : (number : ℕ) → ports_at setup.ports number ≡ ports_of (slice_get names.systems number)
  pub selectors : (number : ℕ) (selector : List ℕ) → is_registered (selectors_at setup.systems number) selector ≡ is_among (selectors_of (slice_get names.systems number)) selector
