-- Scripts in which nothing is injected.
use Rattle.std.specs.Prelude.{List}
use Rattle.std.specs.List.{AllByRecursion}
use Rattle.script_lines.specs.declared.line.Line.{Line}
use Rattle.script_lines.specs.declared.line.Line.TheVariants as lines

-- the line hands no system octets that no system sent
abbrev pub IsNoInjection : Line → Type 0
IsNoInjection (lines.Inject lan system octets) = ⊥
IsNoInjection line = Unit {0}

-- no line of the script is an `inject` line
abbrev pub HasNoInject : List Line → Type 0
HasNoInject script = AllByRecursion IsNoInjection script
