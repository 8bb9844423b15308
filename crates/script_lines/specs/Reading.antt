-- What a field of each kind gives: its form first, then its bounds, then what is declared.
use Rattle.std.specs.Prelude.{◌==◌, ℕ, ◌+◌, ◌*◌, Bool, true, false, not, ◌&&◌, nat_lt, nat_eq, if◌then◌else◌, List, [], ◌∷◌, length, drop, Option, Some, None}
use Rattle.std.specs.Prelude.{is_some, slice_get, Result, Ok, Err, codes}
use Rattle.std.specs.List.{list_all, list_any, slice_split}
use Rattle.std.specs.Cmp.Lexicographic.{pointwise}
use Rattle.script_lines.specs.declared.cause.LineCause.{LineCause}
use Rattle.script_lines.specs.declared.cause.LineCause.TheVariants as causes
use Rattle.script_lines.specs.declared.field_forms.TpduSize.{TpduSize}
use Rattle.script_lines.specs.declared.words.FieldKind.{FieldKind}
use Rattle.script_lines.specs.declared.words.FieldKind.TheVariants as forms
use Rattle.script_lines.specs.declared.words.NameKind.{NameKind}
use Rattle.script_lines.specs.declared.words.NameKind.TheVariants as named
use Rattle.script_lines.specs.declared.words.WordKind.{WordKind}
use Rattle.script_lines.specs.declared.words.WordKind.TheVariants as plain
use Rattle.script_lines.specs.declared.field_values.FieldValues.{FieldValues}
use Rattle.osi_base.specs.declared.unit.Wish.{Wish}
use Rattle.tpdu.specs.declared.tpdu.Format.{Format}
use Rattle.tpdu.specs.declared.tpdu.Format.TheVariants as formats
use Rattle.tpdu.specs.declared.service.Options.{Options}
use Rattle.script_lines.specs.declared.line.PathKind.{PathKind}
use Rattle.script_lines.specs.declared.line.PathKind.TheVariants as kinds
use Rattle.script_lines.specs.declared.settings.Key.{Key}
use Rattle.script_lines.specs.declared.settings.Settings.{Settings}
use Rattle.script_lines.specs.Gives.{into, then_read}
use Rattle.script_lines.specs.Field.{is_word, is_name, number_of, title_of, station_of, prefix_of, octets_of, within, choice_of}
use Rattle.script_lines.specs.Settings.{key_of, least_of, most_of, setting, keeps_order, with_setting}
use Rattle.script_lines.specs.Known.{Declared, system_at, lan_at, path_at, is_among, is_end, has_port, has_station, routes_of, selectors_of}

-- a value that passes a test, or a cause
abbrev pub passing : {A : Type 0} → Bool → LineCause → A → Result A LineCause
passing true cause value = Ok value
passing false cause value = Err cause

-- what stands there, if it is declared
abbrev pub known : Option ℕ → Result ℕ LineCause
known None = Err causes.Unknown
known (Some number) = Ok number

abbrev pub system_of : Declared → List ℕ → Result ℕ LineCause
system_of names field = if is_name field then known (system_at names.systems field) else Err causes.Syntax

unfoldable pub end_system_of : Declared → List ℕ → Result ℕ LineCause
end_system_of names field = then_read (system_of names field) (λ number. passing (is_end names number) causes.Unknown number)

-- an end system that is not this one
unfoldable pub other_end_of : Declared → ℕ → List ℕ → Result ℕ LineCause
other_end_of names own field = then_read (end_system_of names field) (λ number. passing (not (number == own)) causes.Unknown number)

abbrev pub lan_of : Declared → List ℕ → Result ℕ LineCause
lan_of names field = if is_name field then known (lan_at names.lans field) else Err causes.Syntax

-- a LAN on which the system has no port
unfoldable pub port_lan_of : Declared → ℕ → List ℕ → Result ℕ LineCause
port_lan_of names system field = then_read (lan_of names field) (λ lan. passing (not (has_port names system lan)) causes.Repeat lan)

-- a LAN on which both systems have a port
unfoldable pub route_lan_of : Declared → ℕ → ℕ → List ℕ → Result ℕ LineCause
route_lan_of names system next field =
    then_read (lan_of names field) (λ lan. passing (has_port names system lan && has_port names next lan) causes.Unknown lan)

abbrev pub from_one : Option ℕ → Result ℕ LineCause
from_one None = Err causes.Unknown
from_one (Some place) = Ok (place + 1)

-- the number of a source route, 0 for `-`
unfoldable pub path_of : Declared → List ℕ → Result ℕ LineCause
path_of names field =
    if is_word (codes "-") field then Ok 0
    else if is_name field then from_one (path_at names.paths field)
    else Err causes.Syntax

-- a name that stands nowhere
abbrev pub new_name : Option ℕ → List ℕ → Result (List ℕ) LineCause
new_name found field = if is_name field then passing (not (is_some found)) causes.Repeat field else Err causes.Syntax

abbrev pub unset_key : Settings → Option Key → Result Key LineCause
unset_key settings None = Err causes.Syntax
unset_key settings (Some key) = passing (not (is_some (setting settings key))) causes.Repeat key

unfoldable pub value_of : Settings → Key → List ℕ → Result ℕ LineCause
value_of settings key field =
    then_read (number_of (least_of key) (most_of key) field) (λ value. passing (keeps_order (with_setting settings key value)) causes.Range value)

-- a size of a TPDU
abbrev pub is_size : ℕ → Bool
is_size size = list_any (λ listed. listed == size) (128 ∷ 256 ∷ 512 ∷ 1024 ∷ 2048 ∷ 4096 ∷ 8192 ∷ [])

abbrev pub as_listed : Result ℕ LineCause → Result TpduSize LineCause
as_listed (Ok size) = passing (is_size size) causes.Syntax (record { octets = size; preferred = false })
as_listed (Err cause) = Err causes.Syntax

-- a preferred size, by how many times 128 octets
abbrev pub as_preferred : Result ℕ LineCause → Result TpduSize LineCause
as_preferred (Ok number) = Ok (record { octets = 128 * number; preferred = true })
as_preferred (Err cause) = Err cause

-- it begins with `p`
abbrev pub is_preferred : List ℕ → Bool
is_preferred [] = false
is_preferred (octet ∷ octets) = octet == 112

-- a listed size; in version 2 also `p` and how many times 128 octets, 1 to 128
unfoldable pub size_of : Bool → List ℕ → Result TpduSize LineCause
size_of second field = if second && is_preferred field then as_preferred (number_of 1 128 (drop 1 field)) else as_listed (number_of 0 999999999 field)

-- FLAGS: `-` or letters of `s` (cut), `e` (report) and `r` (record) in this order
abbrev pub wish : Bool → Bool → Bool → Wish
wish cut report trace = record { cut = cut; report = report; trace = trace; path = 0 }

unfoldable pub flags_of : List ℕ → Result Wish LineCause
flags_of field =
    if is_word (codes "-") field then Ok (wish false false false)
    else if is_word (codes "s") field then Ok (wish true false false)
    else if is_word (codes "e") field then Ok (wish false true false)
    else if is_word (codes "r") field then Ok (wish false false true)
    else if is_word (codes "se") field then Ok (wish true true false)
    else if is_word (codes "sr") field then Ok (wish true false true)
    else if is_word (codes "er") field then Ok (wish false true true)
    else if is_word (codes "ser") field then Ok (wish true true true)
    else Err causes.Syntax

abbrev pub format_of : List ℕ → Result Format LineCause
format_of field =
    if is_word (codes "extended") field then Ok formats.Extended
    else if is_word (codes "normal") field then Ok formats.Normal
    else Err causes.Syntax

abbrev pub path_kind_of : List ℕ → Result PathKind LineCause
path_kind_of field =
    if is_word (codes "complete") field then Ok kinds.Complete
    else if is_word (codes "partial") field then Ok kinds.Partial
    else Err causes.Syntax

unfoldable pub new_title : Declared → List ℕ → Result (List ℕ) LineCause
new_title names field =
    then_read (title_of field) (λ title. passing (not (list_any (λ system. pointwise nat_eq system.title title) names.systems)) causes.Repeat title)

unfoldable pub new_station : Declared → List ℕ → Result (List ℕ) LineCause
new_station names field = then_read (station_of field) (λ snpa. passing (not (has_station names snpa)) causes.Repeat snpa)

unfoldable pub new_prefix : Declared → ℕ → List ℕ → Result (List ℕ) LineCause
new_prefix names system field =
    then_read (prefix_of field) (λ prefix. passing (not (is_among (routes_of (slice_get names.systems system)) prefix)) causes.Repeat prefix)

-- a selector of 1 to 32 octets
unfoldable pub selector_of : List ℕ → Result (List ℕ) LineCause
selector_of field = then_read (octets_of field) (within 1 32)

unfoldable pub new_selector : Declared → ℕ → List ℕ → Result (List ℕ) LineCause
new_selector names system field =
    then_read (selector_of field) (λ selector. passing (not (is_among (selectors_of (slice_get names.systems system)) selector)) causes.Repeat selector)

-- the names of a list that are parted by commas
unfoldable pub listed_names : List ℕ → List (List ℕ)
listed_names text = slice_split (λ octet. octet == 44) text

abbrev pub intermediate : Declared → Option ℕ → Result ℕ LineCause
intermediate names None = Err causes.Unknown
intermediate names (Some number) = passing (not (is_end names number)) causes.Unknown number

-- the numbers of intermediate systems
abbrev pub each_intermediate : Declared → List (List ℕ) → Result (List ℕ) LineCause
each_intermediate names [] = Ok []
each_intermediate names (name ∷ others) =
    then_read (intermediate names (system_at names.systems name)) (λ number. into (each_intermediate names others) (λ numbers. number ∷ numbers))

-- one to four intermediate systems
unfoldable pub hops_of : Declared → List ℕ → Result (List ℕ) LineCause
hops_of names field =
    if not (list_all is_name (listed_names field)) then Err causes.Syntax
    else if nat_lt 4 (length (listed_names field)) then Err causes.Range
    else each_intermediate names (listed_names field)

-- what a name gives
abbrev pub named_read : Declared → FieldValues → NameKind → List ℕ → Result FieldValues LineCause
named_read names parts named.System field = into (system_of names field) (λ system. record parts { system = system })
named_read names parts named.EndSystem field = into (end_system_of names field) (λ system. record parts { system = system })
named_read names parts named.To field = into (end_system_of names field) (λ system. record parts { other = system })
named_read names parts named.Other field = into (other_end_of names parts.system field) (λ system. record parts { other = system })
named_read names parts named.Next field = into (system_of names field) (λ system. record parts { other = system })
named_read names parts named.Lan field = into (lan_of names field) (λ lan. record parts { lan = lan })
named_read names parts named.PortLan field = into (port_lan_of names parts.system field) (λ lan. record parts { lan = lan })
named_read names parts named.RouteLan field = into (route_lan_of names parts.system parts.other field) (λ lan. record parts { lan = lan })
named_read names parts named.Path field = into (path_of names field) (λ path. record parts { wish = record parts.wish { path = path } })

abbrev pub with_size : Options → TpduSize → Options
with_size options size = record options { size = size.octets; preferred = size.preferred }

-- what a word or a number gives
abbrev pub plain_read : Declared → FieldValues → WordKind → List ℕ → Result FieldValues LineCause
plain_read names parts plain.Key field = into (unset_key names.settings (key_of field)) (λ key. record parts { key = key })
plain_read names parts plain.Value field = into (value_of names.settings parts.key field) (λ value. record parts { number = value })
plain_read names parts (plain.Number least most) field = into (number_of least most field) (λ number. record parts { number = number })
plain_read names parts (plain.Amount least most) field = into (number_of least most field) (λ amount. record parts { amount = amount })
plain_read names parts plain.Credit field = into (number_of 0 255 field) (λ credit. record parts { credit = credit })
plain_read names parts plain.PathKind field = into (path_kind_of field) (λ kind. record parts { kind = kind })
plain_read names parts plain.Format field =
    into (format_of field) (λ format. record parts { options = record parts.options { format = format } })
plain_read names parts plain.Size field = into (size_of names.second field) (λ size. record parts { options = with_size parts.options size })
plain_read names parts plain.Expedited field =
    into (choice_of (codes "exp") (codes "noexp") field) (λ expedited. record parts { options = record parts.options { expedited = expedited } })
plain_read names parts plain.Sum field =
    into (choice_of (codes "sum") (codes "nosum") field) (λ sum. record parts { options = record parts.options { sum = sum } })
plain_read names parts plain.Flags field = into (flags_of field) (λ wish. record parts { wish = wish })

-- what a field gives, after the parts that the fields before it gave
abbrev pub field_read : Declared → FieldValues → FieldKind → List ℕ → Result FieldValues LineCause
field_read names parts (forms.Named form) field = named_read names parts form field
field_read names parts (forms.Plain form) field = plain_read names parts form field
field_read names parts forms.NewLan field = into (new_name (lan_at names.lans field) field) (λ name. record parts { name = name })
field_read names parts forms.NewSystem field = into (new_name (system_at names.systems field) field) (λ name. record parts { name = name })
field_read names parts forms.NewPath field = into (new_name (path_at names.paths field) field) (λ name. record parts { name = name })
field_read names parts forms.Title field = into (new_title names field) (λ title. record parts { title = Some title })
field_read names parts forms.Station field = into (new_station names field) (λ station. record parts { station = Some station })
field_read names parts forms.Prefix field = into (new_prefix names parts.system field) (λ prefix. record parts { prefix = Some prefix })
field_read names parts forms.Hops field = into (hops_of names field) (λ hops. record parts { hops = hops })
field_read names parts forms.NewSelector field = into (new_selector names parts.system field) (λ selector. record parts { selector = selector })
field_read names parts forms.Selector field = into (selector_of field) (λ selector. record parts { selector = selector })
field_read names parts forms.Called field = into (selector_of field) (λ selector. record parts { called = selector })
field_read names parts forms.Octets field = into (octets_of field) (λ octets. record parts { octets = octets })
