-- What the lines so far declare, and what the fields of a line give.
use Rattle.std.specs.Prelude.{ℕ, ◌==◌, ◌&&◌, not, Bool, true, false, nat_eq, List, [], ◌∷◌, length, Option, Some, None, slice_get, slice_set, position}
use Rattle.std.specs.List.{list_any}
use Rattle.std.specs.Option.{unwrap_or}
use Rattle.std.specs.BTreeSet.{insert_key}
use Rattle.std.specs.Cmp.Lexicographic.{pointwise, slice_cmp}
use Rattle.std.specs.Ordering.{nat_cmp}
use Rattle.nsap.specs.declared.port.Port.{Port}
use Rattle.script_lines.specs.declared.settings.Settings.{Settings}
use Rattle.script_lines.specs.declared.settings.Key.TheVariants as keys
use Rattle.script_lines.specs.declared.words.Dialect.{Dialect}
use Rattle.script_lines.specs.declared.words.Dialect.TheVariants as dialects
use Rattle.script_lines.specs.Settings.{is_unset}
use Rattle.tpdu.specs.declared.tpdu.Format.TheVariants as formats
use Rattle.script_lines.specs.declared.line.PathKind.TheVariants as kinds
use Rattle.script_lines.specs.declared.field_values.FieldValues.{FieldValues}
use Rattle.script_lines.specs.declared.system.LanRow.{LanRow}

-- a system with its ports, routes and selectors; the selectors stand in ascending order
pub record KnownSystem : Type 0 where
  pub name : List ℕ
  pub is_end : Bool
  pub title : List ℕ
  pub ports : List Port
  pub routes : List (List ℕ)
  pub selectors : List (List ℕ)

-- one selector more
abbrev pub with : List (List ℕ) → List ℕ → List (List ℕ)
with selectors selector = insert_key (slice_cmp nat_cmp) selectors selector

-- what the lines so far declare, and the command that reads them
pub record Declared : Type 0 where
  pub dialect : Dialect
  pub settings : Settings
  pub lans : List LanRow
  pub systems : List KnownSystem
  pub paths : List (List ℕ)
  pub started : Bool
  -- the lines are those of version 2
  pub second : Bool
  -- a line named the version
  pub versioned : Bool

-- the lines are those of version 2 from the first on
abbrev pub is_second : Dialect → Bool
is_second dialects.Run = false
is_second dialects.Datagrams = false
is_second dialects.Inactive = true
is_second dialects.Relay = true

abbrev pub nothing_declared : Dialect → Declared
nothing_declared dialect = record {
  dialect = dialect;
  settings = record { life = None; t1 = None; w = None; i = None; n = None; refs = None; credit = None; ct = None; hold = None };
  lans = [];
  systems = [];
  paths = [];
  started = false;
  second = is_second dialect;
  versioned = false;
}

-- no line that does anything was read before `start`: each declares a LAN or a system, sets a key, names the version, or needs one of these
abbrev pub is_untouched : Declared → Bool
is_untouched names =
    not names.versioned && (not names.started && (length names.lans == 0 && (length names.systems == 0 && is_unset names.settings)))

-- the fields of a line before the first
abbrev pub no_parts : FieldValues
no_parts = record {
  name = [];
  key = keys.Life;
  number = 0;
  amount = 0;
  credit = 0;
  system = 0;
  other = 0;
  lan = 0;
  title = None;
  station = None;
  prefix = None;
  kind = kinds.Partial;
  hops = [];
  selector = [];
  called = [];
  options = record { format = formats.Normal; size = 0; preferred = false; expedited = false; sum = false };
  wish = record { cut = false; report = false; trace = false; path = 0 };
  octets = [];
}

-- the addresses that the fields gave; no line reads one that no field gave
abbrev pub given_title : FieldValues → List ℕ
given_title parts = unwrap_or parts.title (0 ∷ [])

abbrev pub given_station : FieldValues → List ℕ
given_station parts = unwrap_or parts.station (0 ∷ 0 ∷ 0 ∷ 0 ∷ 0 ∷ 0 ∷ [])

abbrev pub given_prefix : FieldValues → List ℕ
given_prefix parts = unwrap_or parts.prefix []

-- the number of the first with this name
abbrev pub system_at : List KnownSystem → List ℕ → Option ℕ
system_at systems name = position (λ system. pointwise nat_eq system.name name) systems

abbrev pub lan_at : List LanRow → List ℕ → Option ℕ
lan_at lans name = position (λ lan. pointwise nat_eq lan.name name) lans

abbrev pub path_at : List (List ℕ) → List ℕ → Option ℕ
path_at paths name = position (λ path. pointwise nat_eq path name) paths

-- one of the lists is this one
abbrev pub is_among : List (List ℕ) → List ℕ → Bool
is_among lists octets = list_any (λ other. pointwise nat_eq octets other) lists

abbrev pub end_of : Option KnownSystem → Bool
end_of None = false
end_of (Some system) = system.is_end

abbrev pub ports_of : Option KnownSystem → List Port
ports_of None = []
ports_of (Some system) = system.ports

abbrev pub routes_of : Option KnownSystem → List (List ℕ)
routes_of None = []
routes_of (Some system) = system.routes

abbrev pub selectors_of : Option KnownSystem → List (List ℕ)
selectors_of None = []
selectors_of (Some system) = system.selectors

-- the system has a port with the SNPA
abbrev pub has_snpa : KnownSystem → List ℕ → Bool
has_snpa system snpa = list_any (λ port. pointwise nat_eq port.snpa snpa) system.ports

-- the system of this number is an end system
abbrev pub is_end : Declared → ℕ → Bool
is_end names system = end_of (slice_get names.systems system)

-- the system has a port on the LAN
abbrev pub has_port : Declared → ℕ → ℕ → Bool
has_port names system lan = list_any (λ port. port.lan == lan) (ports_of (slice_get names.systems system))

-- a port of any system has this SNPA
abbrev pub has_station : Declared → List ℕ → Bool
has_station names snpa = list_any (λ system. has_snpa system snpa) names.systems

abbrev pub with_changed : List KnownSystem → ℕ → (KnownSystem → KnownSystem) → Option KnownSystem → List KnownSystem
with_changed systems at change None = systems
with_changed systems at change (Some system) = slice_set systems at (change system)

-- the system of this number is changed
abbrev pub changed : List KnownSystem → ℕ → (KnownSystem → KnownSystem) → List KnownSystem
changed systems at change = with_changed systems at change (slice_get systems at)
