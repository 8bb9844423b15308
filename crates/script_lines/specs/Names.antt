-- Which names stand in a line, and that they are declared before it.
use Rattle.std.specs.Prelude.{◌≡◌, ℕ, ◌+◌, ◌<◌, ◌≤◌, true, false, List, [], ◌∷◌, length}
use Rattle.script_lines.specs.declared.line.Line.{Line}
use Rattle.script_lines.specs.declared.line.Line.TheVariants as lines
use Rattle.script_lines.specs.Known.{Declared, is_end}

abbrev pub IsSystem : Declared → ℕ → Type 0
IsSystem names system = system < length names.systems

abbrev pub IsEndSystem : Declared → ℕ → Type 0
IsEndSystem names system = IsSystem names system × (is_end names system ≡ true)

abbrev pub IsIntermediateSystem : Declared → ℕ → Type 0
IsIntermediateSystem names system = IsSystem names system × (is_end names system ≡ false)

abbrev pub AreIntermediateSystems : Declared → List ℕ → Type 0
AreIntermediateSystems names [] = Unit {0}
AreIntermediateSystems names (system ∷ systems) = IsIntermediateSystem names system × AreIntermediateSystems names systems

abbrev pub IsLan : Declared → ℕ → Type 0
IsLan names lan = lan < length names.lans

-- a source route by its number from 1; 0 is none
abbrev pub IsPath : Declared → ℕ → Type 0
IsPath names path = path ≤ length names.paths

-- what a line names is declared before it, and what it declares has the next number
abbrev pub NamesDeclared : Declared → Line → Type 0
NamesDeclared names (lines.Lan name bound room) = name ≡ length names.lans
NamesDeclared names (lines.Es name title) = name ≡ length names.systems
NamesDeclared names (lines.Is name title) = name ≡ length names.systems
NamesDeclared names (lines.Port system lan snpa) = IsSystem names system × IsLan names lan
NamesDeclared names (lines.Route system prefix next lan) = IsSystem names system × IsSystem names next × IsLan names lan
NamesDeclared names (lines.Path name kind systems) = (name ≡ length names.paths + 1) × AreIntermediateSystems names systems
NamesDeclared names (lines.Tsap system selector) = IsEndSystem names system
NamesDeclared names (lines.Relay system selector to called) = IsEndSystem names system × IsEndSystem names to × (to ≡ system → ⊥)
NamesDeclared names (lines.Connect system selector to called options octets) = IsEndSystem names system × IsEndSystem names to
NamesDeclared names (lines.Unit system to wish octets) = IsEndSystem names system × IsEndSystem names to × IsPath names wish.path
NamesDeclared names (lines.Deliver frame system) = IsSystem names system
NamesDeclared names (lines.Inject lan system octets) = IsLan names lan × IsSystem names system
NamesDeclared names (lines.Restart system) = IsEndSystem names system
NamesDeclared names (lines.Send system selector to called octets) = IsEndSystem names system × IsEndSystem names to
NamesDeclared names line = Unit {0}
