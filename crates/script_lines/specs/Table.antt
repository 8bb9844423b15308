-- The lines of the script as a table: for each line word its text, whether it belongs to the set-up, to version 2 alone and to the front of the
-- script, its fields and what it does. And the words of each command.
use Rattle.std.specs.Prelude.{ℕ, Bool, true, false, List, [], ◌∷◌, Option, codes, find}
use Rattle.script_lines.specs.Field.{is_word}
use Rattle.script_lines.specs.declared.words.Dialect.{Dialect}
use Rattle.script_lines.specs.declared.words.Dialect.TheVariants as dialects
use Rattle.script_lines.specs.declared.words.Word.{Word}
use Rattle.script_lines.specs.declared.words.Word.TheVariants as words
use Rattle.script_lines.specs.declared.words.Effect.{Effect}
use Rattle.script_lines.specs.declared.words.Effect.TheVariants as effects
use Rattle.script_lines.specs.declared.words.FieldKind.{FieldKind}
use Rattle.script_lines.specs.declared.words.FieldKind.TheVariants as forms
use Rattle.script_lines.specs.declared.words.NameKind.{NameKind}
use Rattle.script_lines.specs.declared.words.NameKind.TheVariants as named
use Rattle.script_lines.specs.declared.words.WordKind.TheVariants as plain

pub record LineRow : Type 0 where
  pub text : List ℕ
  pub of_set_up : Bool
  -- of version 2 alone
  pub is_later : Bool
  -- before every other line that does anything
  pub is_first : Bool
  pub fields : List FieldKind
  pub effect : Effect

abbrev pub set_up : List ℕ → List FieldKind → Effect → LineRow
set_up text fields effect = record { text = text; of_set_up = true; is_later = false; is_first = false; fields = fields; effect = effect }

abbrev pub event : List ℕ → List FieldKind → LineRow
event text fields = record { text = text; of_set_up = false; is_later = false; is_first = false; fields = fields; effect = effects.Nothing }

-- an event of version 2 alone
abbrev pub later_event : List ℕ → List FieldKind → LineRow
later_event text fields = record { text = text; of_set_up = false; is_later = true; is_first = false; fields = fields; effect = effects.Nothing }

-- a number of an end or a frame
abbrev pub any_number : FieldKind
any_number = forms.Plain (plain.Number 0 999999999)

abbrev pub name : NameKind → FieldKind
name named = forms.Named named

-- FMT SIZE EXP SUM OCT
abbrev pub agreement : List FieldKind
agreement = forms.Plain plain.Format ∷ forms.Plain plain.Size ∷ forms.Plain plain.Expedited ∷ forms.Plain plain.Sum ∷ forms.Octets ∷ []

abbrev pub row_of : Word → LineRow
row_of words.Version =
    record { text = codes "version"; of_set_up = true; is_later = false; is_first = true; fields = forms.Plain (plain.Number 1 2) ∷ []; effect = effects.Version }
row_of words.Set = set_up (codes "set") (forms.Plain plain.Key ∷ forms.Plain plain.Value ∷ []) effects.Setting
row_of words.Lan = set_up (codes "lan") (forms.NewLan ∷ forms.Plain (plain.Number 1 16) ∷ forms.Plain (plain.Amount 264 1497) ∷ []) effects.Lan
row_of words.Es = set_up (codes "es") (forms.NewSystem ∷ forms.Title ∷ []) effects.EndSystem
row_of words.Is = set_up (codes "is") (forms.NewSystem ∷ forms.Title ∷ []) effects.IntermediateSystem
row_of words.Port = set_up (codes "port") (name named.System ∷ name named.PortLan ∷ forms.Station ∷ []) effects.Port
row_of words.Route = set_up (codes "route") (name named.System ∷ forms.Prefix ∷ name named.Next ∷ name named.RouteLan ∷ []) effects.Route
row_of words.Path = set_up (codes "path") (forms.NewPath ∷ forms.Plain plain.PathKind ∷ forms.Hops ∷ []) effects.Path
row_of words.Tsap = set_up (codes "tsap") (name named.EndSystem ∷ forms.NewSelector ∷ []) effects.Selector
row_of words.Relay = set_up (codes "relay") (name named.EndSystem ∷ forms.NewSelector ∷ name named.Other ∷ forms.Called ∷ []) effects.Selector
row_of words.Start = set_up (codes "start") [] effects.Start
row_of words.Connect = event (codes "connect") (name named.EndSystem ∷ forms.Selector ∷ name named.To ∷ forms.Called ∷ agreement)
row_of words.Accept = event (codes "accept") (any_number ∷ agreement)
row_of words.Refuse = event (codes "refuse") (any_number ∷ forms.Octets ∷ [])
row_of words.Disconnect = event (codes "disconnect") (any_number ∷ forms.Octets ∷ [])
row_of words.Data = event (codes "data") (any_number ∷ forms.Octets ∷ [])
row_of words.Expedite = event (codes "expedite") (any_number ∷ forms.Octets ∷ [])
row_of words.Window = event (codes "window") (any_number ∷ forms.Plain plain.Credit ∷ [])
row_of words.Unit = event (codes "unit") (name named.EndSystem ∷ name named.To ∷ forms.Plain plain.Flags ∷ name named.Path ∷ forms.Octets ∷ [])
row_of words.Tick = event (codes "tick") []
row_of words.Settle = event (codes "settle") []
row_of words.Deliver = event (codes "deliver") (any_number ∷ name named.System ∷ [])
row_of words.Inject = event (codes "inject") (name named.Lan ∷ name named.System ∷ forms.Octets ∷ [])
row_of words.Restart = later_event (codes "restart") (name named.EndSystem ∷ [])
row_of words.Send = event (codes "send") (name named.EndSystem ∷ forms.Selector ∷ name named.To ∷ forms.Called ∷ forms.Octets ∷ [])

-- the words that name a line in the scripts of each command, those of long scripts first
abbrev pub words_of : Dialect → List Word
words_of dialects.Run =
    words.Deliver ∷ words.Data ∷ words.Tick ∷ words.Settle ∷ words.Unit ∷ words.Expedite ∷ words.Window ∷ words.Connect ∷ words.Accept ∷ words.Disconnect
    ∷ words.Refuse ∷ words.Inject ∷ words.Restart ∷ words.Route ∷ words.Port ∷ words.Es ∷ words.Is ∷ words.Tsap ∷ words.Lan ∷ words.Path ∷ words.Set ∷ words.Start ∷ words.Version ∷ []
words_of dialects.Datagrams =
    words.Deliver ∷ words.Send ∷ words.Tick ∷ words.Settle ∷ words.Route ∷ words.Port ∷ words.Es ∷ words.Is ∷ words.Tsap ∷ words.Lan ∷ words.Path ∷ words.Set
    ∷ words.Start ∷ []
words_of dialects.Inactive =
    words.Deliver ∷ words.Data ∷ words.Tick ∷ words.Settle ∷ words.Expedite ∷ words.Window ∷ words.Connect ∷ words.Accept ∷ words.Disconnect ∷ words.Refuse
    ∷ words.Restart ∷ words.Port ∷ words.Es ∷ words.Tsap ∷ words.Lan ∷ words.Set ∷ words.Start ∷ []
words_of dialects.Relay =
    words.Deliver ∷ words.Data ∷ words.Tick ∷ words.Settle ∷ words.Unit ∷ words.Expedite ∷ words.Window ∷ words.Connect ∷ words.Accept ∷ words.Disconnect
    ∷ words.Refuse ∷ words.Route ∷ words.Port ∷ words.Es ∷ words.Is ∷ words.Tsap ∷ words.Relay ∷ words.Lan ∷ words.Path ∷ words.Set ∷ words.Start ∷ []

-- the word that a field is, among those that name a line
abbrev pub word_of : Dialect → List ℕ → Option Word
word_of dialect field = find (λ word. is_word (row_of word).text field) (words_of dialect)
