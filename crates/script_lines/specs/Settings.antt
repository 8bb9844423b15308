-- The settings of a run: nine keys, each with its bounds and its default.
use Rattle.std.specs.Prelude.{ℕ, Bool, ◌&&◌, not, is_some, nat_lt, List, if◌then◌else◌, Option, Some, None, codes}
use Rattle.script_lines.specs.Field.{is_word}
use Rattle.script_lines.specs.declared.settings.Key.{Key}
use Rattle.script_lines.specs.declared.settings.Key.TheVariants as keys
use Rattle.script_lines.specs.declared.settings.Settings.{Settings}

-- the key with this word
abbrev pub key_of : List ℕ → Option Key
key_of word =
    if is_word (codes "life") word then Some keys.Life
    else if is_word (codes "t1") word then Some keys.T1
    else if is_word (codes "w") word then Some keys.W
    else if is_word (codes "i") word then Some keys.I
    else if is_word (codes "n") word then Some keys.N
    else if is_word (codes "refs") word then Some keys.Refs
    else if is_word (codes "credit") word then Some keys.Credit
    else if is_word (codes "ct") word then Some keys.Ct
    else if is_word (codes "hold") word then Some keys.Hold
    else None

abbrev pub least_of : Key → ℕ
least_of keys.Life = 1
least_of keys.T1 = 1
least_of keys.W = 1
least_of keys.I = 1
least_of keys.N = 2
least_of keys.Refs = 1
least_of keys.Credit = 0
least_of keys.Ct = 0
least_of keys.Hold = 1

abbrev pub most_of : Key → ℕ
most_of keys.Life = 255
most_of keys.T1 = 255
most_of keys.W = 255
most_of keys.I = 255
most_of keys.N = 16
most_of keys.Refs = 64
most_of keys.Credit = 15
most_of keys.Ct = 255
most_of keys.Hold = 255

abbrev pub default_of : Key → ℕ
default_of keys.Life = 32
default_of keys.T1 = 8
default_of keys.W = 20
default_of keys.I = 60
default_of keys.N = 4
default_of keys.Refs = 64
default_of keys.Credit = 8
default_of keys.Ct = 0
default_of keys.Hold = 20

-- the value that was set for a key
abbrev pub setting : Settings → Key → Option ℕ
setting settings keys.Life = settings.life
setting settings keys.T1 = settings.t1
setting settings keys.W = settings.w
setting settings keys.I = settings.i
setting settings keys.N = settings.n
setting settings keys.Refs = settings.refs
setting settings keys.Credit = settings.credit
setting settings keys.Ct = settings.ct
setting settings keys.Hold = settings.hold

abbrev pub or_default : Option ℕ → ℕ → ℕ
or_default (Some value) default = value
or_default None default = default

-- the value of a key, set or not
abbrev pub setting_or : Settings → Key → ℕ
setting_or settings key = or_default (setting settings key) (default_of key)

-- no key is set
abbrev pub is_unset : Settings → Bool
is_unset s =
    not (is_some s.life) && (not (is_some s.t1) && (not (is_some s.w) && (not (is_some s.i) && (not (is_some s.n)
    && (not (is_some s.refs) && (not (is_some s.credit) && (not (is_some s.ct) && not (is_some s.hold))))))))

-- with this value for a key
abbrev pub with_setting : Settings → Key → ℕ → Settings
with_setting settings keys.Life value = record settings { life = Some value }
with_setting settings keys.T1 value = record settings { t1 = Some value }
with_setting settings keys.W value = record settings { w = Some value }
with_setting settings keys.I value = record settings { i = Some value }
with_setting settings keys.N value = record settings { n = Some value }
with_setting settings keys.Refs value = record settings { refs = Some value }
with_setting settings keys.Credit value = record settings { credit = Some value }
with_setting settings keys.Ct value = record settings { ct = Some value }
with_setting settings keys.Hold value = record settings { hold = Some value }

-- i stays above w
abbrev pub keeps_order : Settings → Bool
keeps_order settings = nat_lt (setting_or settings keys.W) (setting_or settings keys.I)
