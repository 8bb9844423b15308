-- The command that the words name: one word, and not those of a generated script; and how long a generated script is.
use Rattle.std.specs.Prelude.{ℕ, ◌≤◌, if◌then◌else◌, List, [], ◌∷◌, Option, None, Some, codes}
use Rattle.std.specs.Str.{bytes_eq}
use Rattle.osi_commands.specs.declared.command.Command.{Command}
use Rattle.osi_commands.specs.declared.command.Command.TheVariants as commands
use Rattle.osi_kinds.specs.declared.kinds.Kind.TheVariants as kinds

abbrev pub named : List ℕ → Option Command
named word =
    if bytes_eq word (codes "run") then Some commands.Run
    else if bytes_eq word (codes "frames") then Some commands.Frames
    else if bytes_eq word (codes "decode") then Some commands.Decode
    else if bytes_eq word (codes "datagrams") then Some (commands.Script kinds.Datagrams)
    else if bytes_eq word (codes "inactive") then Some (commands.Script kinds.Inactive)
    else if bytes_eq word (codes "relay") then Some (commands.Script kinds.Relay)
    else None

abbrev pub named_by : List (List ℕ) → Option Command
named_by [] = None
named_by (word ∷ []) = named word
named_by (word ∷ other ∷ words) = None

-- a generated script has at most 20,000 lines after its set-up
abbrev pub IsShort : Command → Type 0
IsShort (commands.Storm storm) = storm.count ≤ 20000
IsShort command = Unit {0}
