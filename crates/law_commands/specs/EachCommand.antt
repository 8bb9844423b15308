-- A call of the program as its clauses see it, and its words as a program would test them: what is said of every command is written out for each
-- in src/laws.rt.
use Rattle.std.specs.Prelude.{ℕ, Bool, false, if◌then◌else◌, List, [], ◌∷◌, Option, None, Some, codes}
use Rattle.std.specs.Str.{bytes_eq}
use Rattle.osi_base.specs.declared.status.Status.{Status}
use Rattle.osi_commands.specs.Commands.{Does, IsCalled}
use Rattle.osi_commands.specs.declared.command.Command.{Command}
use Rattle.osi_kinds.specs.declared.kinds.Kind.{Kind}
use Rattle.osi_kinds.specs.declared.kinds.Kind.TheVariants as kinds

-- the words; what the source had left and has left; what the sink held and holds; how often reads and writes had failed and have failed; how it ended
pub record Call : Type 0 where
  pub words : List (List ℕ)
  pub left : Option (List ℕ)
  pub left_now : Option (List ℕ)
  pub held : Option (List ℕ)
  pub held_now : Option (List ℕ)
  pub reads : ℕ
  pub reads_now : ℕ
  pub writes : ℕ
  pub writes_now : ℕ
  pub status : Status

-- what `osi` says of a call
abbrev pub Serves : Call → Type 0
Serves call = (command : Command) → IsCalled call.words command
    → Does command call.left call.left_now call.held call.held_now call.reads call.reads_now call.writes call.writes_now call.status

-- the words are this one alone
abbrev pub is_word : List ℕ → List (List ℕ) → Bool
is_word name [] = false
is_word name (word ∷ []) = bytes_eq word name
is_word name (word ∷ other ∷ words) = false

abbrev pub is_run : List (List ℕ) → Bool
is_run words = is_word (codes "run") words

abbrev pub is_frames : List (List ℕ) → Bool
is_frames words = is_word (codes "frames") words

abbrev pub is_decode : List (List ℕ) → Bool
is_decode words = is_word (codes "decode") words

abbrev pub kind_named : List ℕ → Option Kind
kind_named word =
    if bytes_eq word (codes "datagrams") then Some kinds.Datagrams
    else if bytes_eq word (codes "inactive") then Some kinds.Inactive
    else if bytes_eq word (codes "relay") then Some kinds.Relay
    else None

-- the words are the one word that is the name of a command
abbrev pub kind_of : List (List ℕ) → Option Kind
kind_of [] = None
kind_of (word ∷ []) = kind_named word
kind_of (word ∷ other ∷ words) = None
