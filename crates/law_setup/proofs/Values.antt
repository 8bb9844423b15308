-- What the fields of a set-up line give that was read: numbers within their bounds, titles of systems, SNPAs of one system.
use Rattle.std.proofs.Common.{◌≡◌, ◌==◌, ◌&&◌, ℕ, ◌<◌, ◌≤◌, Bool, true, false, List, [], ◌∷◌, length, Some, None, Result, Ok, Err, refl, sym, ◌∙◌, ap, subst, arith}
use Rattle.std.specs.Prelude.{◌%◌, if◌then◌else◌, not, nat_le, nat_lt, nat_eq, slice_get, slice_index}
use Rattle.std.specs.List.{list_all, list_any}
use Rattle.std.specs.Cmp.Lexicographic.{pointwise}
use Rattle.std.specs.Str.Parse.{digits_value}
use Rattle.std.proofs.lemmas.Bool.Decides.{nat_tests}
use Rattle.std.proofs.lemmas.List.Splits.{length-slice_split}
use Rattle.nsap.specs.Address.{selector_of}
use Rattle.nsap.specs.Text.{address_of_text, snpa_of_text}
use Rattle.nsap.specs.declared.text.NsapFault.{NsapFault}
use Rattle.clnp_system.specs.Setting.{is_group}
use Rattle.lan_step.specs.Rows.{IsLan}
use Rattle.script_lines.specs.declared.cause.LineCause.{LineCause}
use Rattle.script_lines.specs.declared.cause.LineCause.TheVariants as causes
use Rattle.script_lines.specs.declared.cause.LineFault.{LineFault}
use Rattle.script_lines.specs.declared.words.FieldKind.TheVariants as forms
use Rattle.script_lines.specs.declared.words.NameKind.TheVariants as named
use Rattle.script_lines.specs.declared.words.WordKind.TheVariants as plain
use Rattle.script_lines.specs.declared.field_values.FieldValues.{FieldValues}
use Rattle.script_lines.specs.declared.settings.Key.{Key}
use Rattle.script_lines.specs.Field.{is_name, is_number, number_of, as_title, title_of, as_station, station_of, prefix_of}
use Rattle.script_lines.specs.Gives.{into, then_read}
use Rattle.script_lines.specs.Grammar.{next_column, count_fault, at_column, fields_read, many_from}
use Rattle.script_lines.specs.Known.{Declared, no_parts, given_title, given_station, given_prefix, system_at, lan_at, path_at, has_port, has_station, is_among, routes_of, selectors_of}
use Rattle.script_lines.specs.Reading.{passing, system_of, lan_of, port_lan_of, route_lan_of, end_system_of, new_name, new_selector, selector_of as given_selector, unset_key, value_of, path_kind_of, new_title, new_station, new_prefix, listed_names, intermediate, each_intermediate, hops_of}
use Rattle.script_lines.specs.Settings.{key_of, least_of, most_of, keeps_order, with_setting}
use Rattle.script_lines.proofs.Places.{both as both_true}
use Rattle.law_clnp_net.specs.Standing.{IsNsap, IsSnpa}
use Rattle.script_setup.specs.Fitting.{IsTitle}
use Rattle.law_setup.proofs.InOctets.{station_octets, title_octets}

-- ---- one field after another

pub record Step {A : Type 0} (read : Result A LineCause) (put : A → FieldValues) (next : FieldValues → Result FieldValues LineFault) (out : FieldValues) : Type 0 where
  pub value : A
  pub read_is : read ≡ Ok value
  pub rest : next (put value) ≡ Ok out

pub step : {A : Type 0} (column : ℕ) (read : Result A LineCause) (put : A → FieldValues) (next : FieldValues → Result FieldValues LineFault) (out : FieldValues)
    → at_column column (into read put) next ≡ Ok out → Step read put next out
step column (Ok value) put next out is = record { value = value; read_is = refl; rest = is }
step column (Err cause) put next out is = absurd (cc)

abbrev pub done : FieldValues → Result FieldValues LineFault
done parts = Ok parts

pub same_parts : (first second : FieldValues) → done first ≡ done second → first ≡ second
same_parts first second is = cc

passed : {A : Type 0} (test : Bool) (cause : LineCause) (value other : A) → passing test cause value ≡ Ok other → (test ≡ true) × (value ≡ other)
passed true cause value other is = (refl, cc)
passed false cause value other is = absurd (cc)

-- the reading, and what it passes
pub record Then {A : Type 0} (read : Result A LineCause) (test : A → Bool) (value : A) : Type 0 where
  pub read_is : read ≡ Ok value
  pub passes : test value ≡ true

pub then_by : {A : Type 0} (read : Result A LineCause) (test : A → Bool) (cause : LineCause) (value : A) → then_read read (λ v. passing (test v) cause v) ≡ Ok value → Then read test value
then_by {A} (Ok first) test cause value is =
    let p = passed (test first) cause first value is in
    record { read_is = ap {B = Result A LineCause} (λ (v : A). Ok v) p.1; passes = ap test (sym p.1) ∙ p.0 }
then_by (Err other) test cause value is = absurd (cc)

-- ---- numbers

pub record IsWithin (least most n : ℕ) : Type 0 where
  pub least_is : least ≤ n
  pub most_is : n ≤ most

within : (least most n m : ℕ) (b : Bool) → (nat_le least n && nat_le n most) ≡ b → (if b then Ok n else Err causes.Range) ≡ Ok m → IsWithin least most m
within least most n m true fits is =
    let same : n ≡ m = cc in subst (IsWithin least most) same (record { least_is = grind (arith, nat_tests); most_is = grind (arith, nat_tests) })
within least most n m false fits is = absurd (cc)

number_by : (least most n m : ℕ) (b : Bool) → (if b then (if nat_le least n && nat_le n most then Ok n else Err causes.Range) else Err causes.Syntax) ≡ Ok m → IsWithin least most m
number_by least most n m true is = within least most n m (nat_le least n && nat_le n most) refl is
number_by least most n m false is = absurd (cc)

pub number_within : (least most : ℕ) (text : List ℕ) (m : ℕ) → number_of least most text ≡ Ok m → IsWithin least most m
unfolding number_of
number_within least most text m is = number_by least most (digits_value 10 text) m (is_number text) is

value_within : (names : Declared) (key : Key) (field : List ℕ) (value : ℕ) → value_of names.settings key field ≡ Ok value → IsWithin (least_of key) (most_of key) value
unfolding value_of
value_within names key field value is =
    number_within (least_of key) (most_of key) field value (then_by (number_of (least_of key) (most_of key) field) (λ v. keeps_order (with_setting names.settings key v)) causes.Range value is).read_is

pub set_values : (names : Declared) (past column : ℕ) (fields : List (List ℕ)) (out : FieldValues) → count_fault past column (forms.Plain plain.Key ∷ forms.Plain plain.Value ∷ []) fields ≡ None
    → fields_read names no_parts column (forms.Plain plain.Key ∷ forms.Plain plain.Value ∷ []) fields ≡ Ok out → IsWithin (least_of out.key) (most_of out.key) out.number
set_values names past column [] out count is = absurd (cc)
set_values names past column (first ∷ []) out count is = absurd (cc)
set_values names past column (first ∷ second ∷ third ∷ others) out count is = absurd (cc)
set_values names past column (first ∷ second ∷ []) out count is =
    let a = step column (unset_key names.settings (key_of first)) (λ key. record no_parts { key = key })
    (λ more. fields_read names more (next_column column first) (forms.Plain plain.Value ∷ []) (second ∷ [])) out is in
    let b = step (next_column column first) (value_of names.settings a.value second) (λ value. record no_parts { key = a.value; number = value }) (λ more. Ok more) out a.rest in
    subst (λ (p : FieldValues). IsWithin (least_of p.key) (most_of p.key) p.number) (same_parts _ out b.rest) (value_within names a.value second b.value b.read_is)

pub lan_values : (names : Declared) (past column : ℕ) (fields : List (List ℕ)) (out : FieldValues)
    → count_fault past column (forms.NewLan ∷ forms.Plain (plain.Number 1 16) ∷ forms.Plain (plain.Amount 264 1497) ∷ []) fields ≡ None
    → fields_read names no_parts column (forms.NewLan ∷ forms.Plain (plain.Number 1 16) ∷ forms.Plain (plain.Amount 264 1497) ∷ []) fields ≡ Ok out
    → IsLan (record { bound = out.number; room = out.amount })
lan_values names past column [] out count is = absurd (cc)
lan_values names past column (first ∷ []) out count is = absurd (cc)
lan_values names past column (first ∷ second ∷ []) out count is = absurd (cc)
lan_values names past column (first ∷ second ∷ third ∷ fourth ∷ others) out count is = absurd (cc)
lan_values names past column (first ∷ second ∷ third ∷ []) out count is =
    let a = step column (new_name (lan_at names.lans first) first) (λ name. record no_parts { name = name })
    (λ more. fields_read names more (next_column column first) (forms.Plain (plain.Number 1 16) ∷ forms.Plain (plain.Amount 264 1497) ∷ []) (second ∷ third ∷ [])) out is in
    let b = step (next_column column first) (number_of 1 16 second) (λ number. record no_parts { name = a.value; number = number })
    (λ more. fields_read names more (next_column (next_column column first) second) (forms.Plain (plain.Amount 264 1497) ∷ []) (third ∷ [])) out a.rest in
    let c = step (next_column (next_column column first) second) (number_of 264 1497 third) (λ amount. record no_parts { name = a.value; number = b.value; amount = amount }) (λ more. Ok more) out b.rest in
    let bound = number_within 1 16 second b.value b.read_is in
    let room = number_within 264 1497 third c.value c.read_is in
    subst (λ (p : FieldValues). IsLan (record { bound = p.number; room = p.amount })) (same_parts _ out c.rest) (bound.least_is, bound.most_is, room.least_is, room.most_is)

-- ---- titles

title_by : (test : Bool) (octets title : List ℕ) → (nat_lt 1 (length octets) && (selector_of octets == 0)) ≡ test → (if test then Ok octets else Err causes.Range) ≡ Ok title → IsTitle title
title_by true octets title fits is =
    let same : octets ≡ title = cc in subst IsTitle same (record { some = grind (arith, nat_tests); entity = grind (arith, nat_tests) })
title_by false octets title fits is = absurd (cc)

title_from : (read : Result (List ℕ) NsapFault) (title : List ℕ) → as_title read ≡ Ok title → IsTitle title
title_from (Ok octets) title is = title_by (nat_lt 1 (length octets) && (selector_of octets == 0)) octets title refl is
title_from (Err fault) title is = absurd (cc)

is_title : (text title : List ℕ) → title_of text ≡ Ok title → IsTitle title
unfolding title_of
is_title text title is = title_from (address_of_text text) title is

pub record TitleRead (names : Declared) (title : List ℕ) : Type 0 where
  pub fits : IsTitle title
  pub octets : IsNsap title
  pub fresh : list_any (λ system. pointwise nat_eq system.title title) names.systems ≡ false

pub not_true : (b : Bool) → not b ≡ true → b ≡ false
not_true true is = absurd (cc)
not_true false is = refl

title_read : (names : Declared) (field title : List ℕ) → new_title names field ≡ Ok title → TitleRead names title
unfolding new_title
title_read names field title is =
    let both = then_by (title_of field) (λ t. not (list_any (λ system. pointwise nat_eq system.title t) names.systems)) causes.Repeat title is in
    let fits = is_title field title both.read_is in
    record { fits = fits; octets = title_octets field title fits.some both.read_is; fresh = not_true (list_any (λ system. pointwise nat_eq system.title title) names.systems) both.passes }

pub title_values : (names : Declared) (past column : ℕ) (fields : List (List ℕ)) (out : FieldValues) → count_fault past column (forms.NewSystem ∷ forms.Title ∷ []) fields ≡ None
    → fields_read names no_parts column (forms.NewSystem ∷ forms.Title ∷ []) fields ≡ Ok out → TitleRead names (given_title out)
title_values names past column [] out count is = absurd (cc)
title_values names past column (first ∷ []) out count is = absurd (cc)
title_values names past column (first ∷ second ∷ third ∷ others) out count is = absurd (cc)
title_values names past column (first ∷ second ∷ []) out count is =
    let a = step column (new_name (system_at names.systems first) first) (λ name. record no_parts { name = name })
    (λ more. fields_read names more (next_column column first) (forms.Title ∷ []) (second ∷ [])) out is in
    let b = step (next_column column first) (new_title names second) (λ title. record no_parts { name = a.value; title = Some title }) (λ more. Ok more) out a.rest in
    subst (λ (p : FieldValues). TitleRead names (given_title p)) (same_parts _ out b.rest) (title_read names second b.value b.read_is)

-- ---- ports

station_by : (test : Bool) (octets snpa : List ℕ) → (slice_index octets 0 % 2 == 1) ≡ test → (if test then Err causes.Range else Ok octets) ≡ Ok snpa → is_group snpa ≡ false
station_by true octets snpa group is = absurd (cc)
station_by false octets snpa group is = let same : octets ≡ snpa = cc in subst (λ (s : List ℕ). is_group s ≡ false) same group

station_from : (read : Result (List ℕ) NsapFault) (snpa : List ℕ) → as_station read ≡ Ok snpa → is_group snpa ≡ false
station_from (Ok octets) snpa is = station_by (slice_index octets 0 % 2 == 1) octets snpa refl is
station_from (Err fault) snpa is = absurd (cc)

is_single : (text snpa : List ℕ) → station_of text ≡ Ok snpa → is_group snpa ≡ false
unfolding station_of
is_single text snpa is = station_from (snpa_of_text text) snpa is

pub record PortRead (names : Declared) (system lan : ℕ) (snpa : List ℕ) : Type 0 where
  pub single : is_group snpa ≡ false
  pub octets : IsSnpa snpa
  pub fresh : has_station names snpa ≡ false
  pub lan_fresh : has_port names system lan ≡ false

station_read : (names : Declared) (field snpa : List ℕ) → new_station names field ≡ Ok snpa → (is_group snpa ≡ false) × (has_station names snpa ≡ false) × IsSnpa snpa
unfolding new_station
station_read names field snpa is =
    let both = then_by (station_of field) (λ s. not (has_station names s)) causes.Repeat snpa is in
    (is_single field snpa both.read_is, not_true (has_station names snpa) both.passes, station_octets field snpa both.read_is)

port_lan_read : (names : Declared) (system : ℕ) (field : List ℕ) (lan : ℕ) → port_lan_of names system field ≡ Ok lan → has_port names system lan ≡ false
unfolding port_lan_of
port_lan_read names system field lan is = not_true (has_port names system lan) (then_by (lan_of names field) (λ l. not (has_port names system l)) causes.Repeat lan is).passes

pub port_values : (names : Declared) (past column : ℕ) (fields : List (List ℕ)) (out : FieldValues)
    → count_fault past column (forms.Named named.System ∷ forms.Named named.PortLan ∷ forms.Station ∷ []) fields ≡ None
    → fields_read names no_parts column (forms.Named named.System ∷ forms.Named named.PortLan ∷ forms.Station ∷ []) fields ≡ Ok out → PortRead names out.system out.lan (given_station out)
port_values names past column [] out count is = absurd (cc)
port_values names past column (first ∷ []) out count is = absurd (cc)
port_values names past column (first ∷ second ∷ []) out count is = absurd (cc)
port_values names past column (first ∷ second ∷ third ∷ fourth ∷ others) out count is = absurd (cc)
port_values names past column (first ∷ second ∷ third ∷ []) out count is =
    let a = step column (system_of names first) (λ system. record no_parts { system = system })
    (λ more. fields_read names more (next_column column first) (forms.Named named.PortLan ∷ forms.Station ∷ []) (second ∷ third ∷ [])) out is in
    let b = step (next_column column first) (port_lan_of names a.value second) (λ lan. record no_parts { system = a.value; lan = lan })
    (λ more. fields_read names more (next_column (next_column column first) second) (forms.Station ∷ []) (third ∷ [])) out a.rest in
    let c = step (next_column (next_column column first) second) (new_station names third) (λ station. record no_parts { system = a.value; lan = b.value; station = Some station }) (λ more. Ok more) out b.rest in
    let station = station_read names third c.value c.read_is in
    subst (λ (p : FieldValues). PortRead names p.system p.lan (given_station p)) (same_parts _ out c.rest)
    (record { single = station.0; octets = station.2; fresh = station.1; lan_fresh = port_lan_read names a.value second b.value b.read_is })

-- ---- routes

pub record RouteRead (names : Declared) (system : ℕ) (prefix : List ℕ) (next lan : ℕ) : Type 0 where
  pub fresh : is_among (routes_of (slice_get names.systems system)) prefix ≡ false
  pub here : has_port names system lan ≡ true
  pub there : has_port names next lan ≡ true

prefix_read : (names : Declared) (system : ℕ) (field prefix : List ℕ) → new_prefix names system field ≡ Ok prefix → is_among (routes_of (slice_get names.systems system)) prefix ≡ false
unfolding new_prefix
prefix_read names system field prefix is =
    not_true (is_among (routes_of (slice_get names.systems system)) prefix)
    (then_by (prefix_of field) (λ p. not (is_among (routes_of (slice_get names.systems system)) p)) causes.Repeat prefix is).passes

route_lan_read : (names : Declared) (system next : ℕ) (field : List ℕ) (lan : ℕ) → route_lan_of names system next field ≡ Ok lan → (has_port names system lan ≡ true) × (has_port names next lan ≡ true)
unfolding route_lan_of
route_lan_read names system next field lan is =
    both_true (has_port names system lan) (has_port names next lan) (then_by (lan_of names field) (λ l. has_port names system l && has_port names next l) causes.Unknown lan is).passes

pub route_values : (names : Declared) (past column : ℕ) (fields : List (List ℕ)) (out : FieldValues)
    → count_fault past column (forms.Named named.System ∷ forms.Prefix ∷ forms.Named named.Next ∷ forms.Named named.RouteLan ∷ []) fields ≡ None
    → fields_read names no_parts column (forms.Named named.System ∷ forms.Prefix ∷ forms.Named named.Next ∷ forms.Named named.RouteLan ∷ []) fields ≡ Ok out
    → RouteRead names out.system (given_prefix out) out.other out.lan
route_values names past column [] out count is = absurd (cc)
route_values names past column (first ∷ []) out count is = absurd (cc)
route_values names past column (first ∷ second ∷ []) out count is = absurd (cc)
route_values names past column (first ∷ second ∷ third ∷ []) out count is = absurd (cc)
route_values names past column (first ∷ second ∷ third ∷ fourth ∷ fifth ∷ others) out count is = absurd (cc)
route_values names past column (first ∷ second ∷ third ∷ fourth ∷ []) out count is =
    let a = step column (system_of names first) (λ system. record no_parts { system = system })
    (λ more. fields_read names more (next_column column first) (forms.Prefix ∷ forms.Named named.Next ∷ forms.Named named.RouteLan ∷ []) (second ∷ third ∷ fourth ∷ [])) out is in
    let b = step (next_column column first) (new_prefix names a.value second) (λ prefix. record no_parts { system = a.value; prefix = Some prefix })
    (λ more. fields_read names more (next_column (next_column column first) second) (forms.Named named.Next ∷ forms.Named named.RouteLan ∷ []) (third ∷ fourth ∷ [])) out a.rest in
    let c = step (next_column (next_column column first) second) (system_of names third) (λ system. record no_parts { system = a.value; prefix = Some b.value; other = system })
    (λ more. fields_read names more (next_column (next_column (next_column column first) second) third) (forms.Named named.RouteLan ∷ []) (fourth ∷ [])) out b.rest in
    let d = step (next_column (next_column (next_column column first) second) third) (route_lan_of names a.value c.value fourth)
    (λ lan. record no_parts { system = a.value; prefix = Some b.value; other = c.value; lan = lan }) (λ more. Ok more) out c.rest in
    let lan = route_lan_read names a.value c.value fourth d.value d.read_is in
    subst (λ (p : FieldValues). RouteRead names p.system (given_prefix p) p.other p.lan) (same_parts _ out d.rest)
    (record { fresh = prefix_read names a.value second b.value b.read_is; here = lan.0; there = lan.1 })

-- ---- source routes

each_as_many : (names : Declared) (fields : List (List ℕ)) (hops : List ℕ) → each_intermediate names fields ≡ Ok hops → length hops ≡ length fields
each_as_many names [] [] is = refl
each_as_many names [] (hop ∷ hops) is = absurd (cc)
each_as_many names (field ∷ fields) hops is = by (each_as_many names fields) (intermediate names (system_at names.systems field)) (each_intermediate names fields) refl hops is
  where
    by : ((more : List ℕ) → each_intermediate names fields ≡ Ok more → length more ≡ length fields)
        → (first : Result ℕ LineCause) (others : Result (List ℕ) LineCause) → each_intermediate names fields ≡ others
        → (all : List ℕ) → then_read first (λ number. into others (λ numbers. number ∷ numbers)) ≡ Ok all → length all ≡ length (field ∷ fields)
    by each (Err cause) others is_others all i = absurd (cc)
    by each (Ok n) (Err cause) is_others all i = absurd (cc)
    by each (Ok n) (Ok more) is_others all i =
        let here : n ∷ more ≡ all = cc in
        let count = each more is_others in
        subst (λ (hops : List ℕ). length hops ≡ length (field ∷ fields)) here (omega arith)

hops_by : (names : Declared) (fields : List (List ℕ)) (hops : List ℕ) (a b : Bool) → nat_lt 4 (length fields) ≡ b
    → (if a then Err causes.Syntax else if b then Err causes.Range else each_intermediate names fields) ≡ Ok hops → (length hops ≡ length fields) × (length fields ≤ 4)
hops_by names fields hops true b few is = absurd (cc)
hops_by names fields hops false true few is = absurd (cc)
hops_by names fields hops false false few is = (each_as_many names fields hops is, grind (arith, nat_tests))

some_listed : (field : List ℕ) → 1 ≤ length (listed_names field)
unfolding listed_names
some_listed field = omega (arith, length-slice_split (λ octet. octet == 44) field)

hops_read : (names : Declared) (field : List ℕ) (hops : List ℕ) → hops_of names field ≡ Ok hops → IsWithin 1 4 (length hops)
unfolding hops_of
hops_read names field hops is =
    let by = hops_by names (listed_names field) hops (not (list_all is_name (listed_names field))) (nat_lt 4 (length (listed_names field))) refl is in
    let some = some_listed field in
    record { least_is = omega (arith, by.0); most_is = omega (arith, by.0, by.1) }

pub path_values : (names : Declared) (past column : ℕ) (fields : List (List ℕ)) (out : FieldValues)
    → count_fault past column (forms.NewPath ∷ forms.Plain plain.PathKind ∷ forms.Hops ∷ []) fields ≡ None
    → fields_read names no_parts column (forms.NewPath ∷ forms.Plain plain.PathKind ∷ forms.Hops ∷ []) fields ≡ Ok out → IsWithin 1 4 (length out.hops)
path_values names past column [] out count is = absurd (cc)
path_values names past column (first ∷ []) out count is = absurd (cc)
path_values names past column (first ∷ second ∷ []) out count is = absurd (cc)
path_values names past column (first ∷ second ∷ third ∷ fourth ∷ others) out count is = absurd (cc)
path_values names past column (first ∷ second ∷ third ∷ []) out count is =
    let a = step column (new_name (path_at names.paths first) first) (λ name. record no_parts { name = name })
    (λ more. fields_read names more (next_column column first) (forms.Plain plain.PathKind ∷ forms.Hops ∷ []) (second ∷ third ∷ [])) out is in
    let b = step (next_column column first) (path_kind_of second) (λ kind. record no_parts { name = a.value; kind = kind })
    (λ more. fields_read names more (next_column (next_column column first) second) (forms.Hops ∷ []) (third ∷ [])) out a.rest in
    let c = step (next_column (next_column column first) second) (hops_of names third) (λ hops. record no_parts { name = a.value; kind = b.value; hops = hops }) (λ more. Ok more) out b.rest in
    subst (λ (p : FieldValues). IsWithin 1 4 (length p.hops)) (same_parts _ out c.rest) (hops_read names third c.value c.read_is)

-- ---- selectors

selector_read : (names : Declared) (system : ℕ) (field selector : List ℕ) → new_selector names system field ≡ Ok selector → is_among (selectors_of (slice_get names.systems system)) selector ≡ false
unfolding new_selector
selector_read names system field selector is =
    not_true (is_among (selectors_of (slice_get names.systems system)) selector)
    (then_by (given_selector field) (λ s. not (is_among (selectors_of (slice_get names.systems system)) s)) causes.Repeat selector is).passes

pub selector_values : (names : Declared) (past column : ℕ) (fields : List (List ℕ)) (out : FieldValues)
    → count_fault past column (forms.Named named.EndSystem ∷ forms.NewSelector ∷ []) fields ≡ None
    → fields_read names no_parts column (forms.Named named.EndSystem ∷ forms.NewSelector ∷ []) fields ≡ Ok out → is_among (selectors_of (slice_get names.systems out.system)) out.selector ≡ false
selector_values names past column [] out count is = absurd (cc)
selector_values names past column (first ∷ []) out count is = absurd (cc)
selector_values names past column (first ∷ second ∷ third ∷ others) out count is = absurd (cc)
selector_values names past column (first ∷ second ∷ []) out count is =
    let a = step column (end_system_of names first) (λ system. record no_parts { system = system })
    (λ more. fields_read names more (next_column column first) (forms.NewSelector ∷ []) (second ∷ [])) out is in
    let b = step (next_column column first) (new_selector names a.value second) (λ selector. record no_parts { system = a.value; selector = selector }) (λ more. Ok more) out a.rest in
    subst (λ (p : FieldValues). is_among (selectors_of (slice_get names.systems p.system)) p.selector ≡ false) (same_parts _ out b.rest) (selector_read names a.value second b.value b.read_is)

-- ---- limits

pub many_left : (limit count : ℕ) → many_from limit count ≡ None → count < limit
many_left limit count is = by (nat_lt count limit) refl is
  where
    by : (b : Bool) → nat_lt count limit ≡ b → (if b then None else Some causes.Many) ≡ None → count < limit
    by true lt i = grind (arith, nat_tests)
    by false lt i = absurd (cc)
