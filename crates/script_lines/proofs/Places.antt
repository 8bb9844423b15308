-- The places that the forms of a row fill, and what each form says of its place.
use Rattle.std.proofs.Common.{◌≡◌, ℕ, Bool, true, false, List, [], refl, sym, ◌∙◌, ap, subst}
use Rattle.std.specs.Prelude.{◌==◌, ◌&&◌, not, None}
use Rattle.script_lines.specs.declared.words.FieldKind.{FieldKind}
use Rattle.script_lines.specs.declared.words.FieldKind.TheVariants as forms
use Rattle.script_lines.specs.declared.words.NameKind.TheVariants as named
use Rattle.script_lines.specs.declared.words.WordKind.TheVariants as plain
use Rattle.script_lines.specs.declared.field_values.FieldValues.{FieldValues}
use Rattle.script_lines.specs.Field.{is_name}
use Rattle.script_lines.specs.Known.{Declared, system_at, lan_at}
use Rattle.script_lines.specs.Names.{IsSystem, IsEndSystem, IsLan, IsPath, AreIntermediateSystems}

pub data Place : Type 0 where
  AtSystem : Place
  AtOther : Place
  AtLan : Place
  AtWish : Place
  AtHops : Place
  AtName : Place
  Elsewhere : Place
  Nowhere : Place

abbrev pub number : Place → ℕ
number AtSystem = 0
number AtOther = 1
number AtLan = 2
number AtWish = 3
number AtHops = 4
number AtName = 5
number Elsewhere = 6
number Nowhere = 7

abbrev pub apart : Place → Place → Bool
apart first second = not (number first == number second)

pub data Fact : Type 0 where
  ASystem : Fact
  AnEnd : Fact
  ToEnd : Fact
  AnOther : Fact
  ANext : Fact
  ALan : Fact
  APath : Fact
  AllHops : Fact
  FreshLan : Fact
  FreshSystem : Fact
  NoFact : Fact

-- a fact speaks of no such place
abbrev pub spares : Place → Fact → Bool
spares place ASystem = apart place AtSystem
spares place AnEnd = apart place AtSystem
spares place ToEnd = apart place AtOther
spares place AnOther = apart place AtOther && apart place AtSystem
spares place ANext = apart place AtOther
spares place ALan = apart place AtLan
spares place APath = apart place AtWish
spares place AllHops = apart place AtHops
spares place FreshLan = apart place AtName
spares place FreshSystem = apart place AtName
spares place NoFact = true

-- a name that no LAN, no system has
abbrev pub IsFreshLan : Declared → List ℕ → Type 0
IsFreshLan names name = (is_name name ≡ true) × (lan_at names.lans name ≡ None)

abbrev pub IsFreshSystem : Declared → List ℕ → Type 0
IsFreshSystem names name = (is_name name ≡ true) × (system_at names.systems name ≡ None)

-- an end system that is not this one
abbrev pub IsOtherEnd : Declared → ℕ → ℕ → Type 0
IsOtherEnd names own system = IsEndSystem names system × (system ≡ own → ⊥)

abbrev pub Good : Declared → Fact → FieldValues → Type 0
Good names ASystem parts = IsSystem names parts.system
Good names AnEnd parts = IsEndSystem names parts.system
Good names ToEnd parts = IsEndSystem names parts.other
Good names AnOther parts = IsOtherEnd names parts.system parts.other
Good names ANext parts = IsSystem names parts.other
Good names ALan parts = IsLan names parts.lan
Good names APath parts = IsPath names parts.wish.path
Good names AllHops parts = AreIntermediateSystems names parts.hops
Good names FreshLan parts = IsFreshLan names parts.name
Good names FreshSystem parts = IsFreshSystem names parts.name
Good names NoFact parts = Unit {0}

abbrev pub fact_of : FieldKind → Fact
fact_of (forms.Named named.System) = ASystem
fact_of (forms.Named named.EndSystem) = AnEnd
fact_of (forms.Named named.To) = ToEnd
fact_of (forms.Named named.Other) = AnOther
fact_of (forms.Named named.Next) = ANext
fact_of (forms.Named named.Lan) = ALan
fact_of (forms.Named named.PortLan) = ALan
fact_of (forms.Named named.RouteLan) = ALan
fact_of (forms.Named named.Path) = APath
fact_of forms.NewLan = FreshLan
fact_of forms.NewSystem = FreshSystem
fact_of forms.Hops = AllHops
fact_of kind = NoFact

abbrev pub place_of : FieldKind → Place
place_of (forms.Named named.System) = AtSystem
place_of (forms.Named named.EndSystem) = AtSystem
place_of (forms.Named named.To) = AtOther
place_of (forms.Named named.Other) = AtOther
place_of (forms.Named named.Next) = AtOther
place_of (forms.Named named.Lan) = AtLan
place_of (forms.Named named.PortLan) = AtLan
place_of (forms.Named named.RouteLan) = AtLan
place_of (forms.Named named.Path) = AtWish
place_of (forms.Plain plain.Flags) = AtWish
place_of forms.NewLan = AtName
place_of forms.NewSystem = AtName
place_of forms.NewPath = AtName
place_of forms.Hops = AtHops
place_of kind = Elsewhere

pub record Six : Type 0 where
  pub system : ℕ
  pub other : ℕ
  pub lan : ℕ
  pub path : ℕ
  pub hops : List ℕ
  pub name : List ℕ

-- the six places but one
abbrev pub rest_of : Place → FieldValues → Six
rest_of AtSystem parts = record { system = 0; other = parts.other; lan = parts.lan; path = parts.wish.path; hops = parts.hops; name = parts.name }
rest_of AtOther parts = record { system = parts.system; other = 0; lan = parts.lan; path = parts.wish.path; hops = parts.hops; name = parts.name }
rest_of AtLan parts = record { system = parts.system; other = parts.other; lan = 0; path = parts.wish.path; hops = parts.hops; name = parts.name }
rest_of AtWish parts = record { system = parts.system; other = parts.other; lan = parts.lan; path = 0; hops = parts.hops; name = parts.name }
rest_of AtHops parts = record { system = parts.system; other = parts.other; lan = parts.lan; path = parts.wish.path; hops = []; name = parts.name }
rest_of AtName parts = record { system = parts.system; other = parts.other; lan = parts.lan; path = parts.wish.path; hops = parts.hops; name = [] }
rest_of Elsewhere parts = record { system = parts.system; other = parts.other; lan = parts.lan; path = parts.wish.path; hops = parts.hops; name = parts.name }
rest_of Nowhere parts = record { system = parts.system; other = parts.other; lan = parts.lan; path = parts.wish.path; hops = parts.hops; name = parts.name }

same_system : (place : Place) (old new : FieldValues) → apart place AtSystem ≡ true → rest_of place new ≡ rest_of place old → new.system ≡ old.system
same_system AtSystem old new far is = absurd (cc)
same_system place old new far is = ap (λ (six : Six). six.system) is

same_other : (place : Place) (old new : FieldValues) → apart place AtOther ≡ true → rest_of place new ≡ rest_of place old → new.other ≡ old.other
same_other AtOther old new far is = absurd (cc)
same_other place old new far is = ap (λ (six : Six). six.other) is

same_lan : (place : Place) (old new : FieldValues) → apart place AtLan ≡ true → rest_of place new ≡ rest_of place old → new.lan ≡ old.lan
same_lan AtLan old new far is = absurd (cc)
same_lan place old new far is = ap (λ (six : Six). six.lan) is

same_path : (place : Place) (old new : FieldValues) → apart place AtWish ≡ true → rest_of place new ≡ rest_of place old → new.wish.path ≡ old.wish.path
same_path AtWish old new far is = absurd (cc)
same_path place old new far is = ap (λ (six : Six). six.path) is

same_hops : (place : Place) (old new : FieldValues) → apart place AtHops ≡ true → rest_of place new ≡ rest_of place old → new.hops ≡ old.hops
same_hops AtHops old new far is = absurd (cc)
same_hops place old new far is = ap (λ (six : Six). six.hops) is

same_name : (place : Place) (old new : FieldValues) → apart place AtName ≡ true → rest_of place new ≡ rest_of place old → new.name ≡ old.name
same_name AtName old new far is = absurd (cc)
same_name place old new far is = ap (λ (six : Six). six.name) is

pub both : (a b : Bool) → a && b ≡ true → (a ≡ true) × (b ≡ true)
both true true is = (refl, refl)
both true false is = absurd (cc)
both false b is = absurd (cc)

other_kept : (names : Declared) (old new : FieldValues) → new.other ≡ old.other → new.system ≡ old.system → IsOtherEnd names old.system old.other → IsOtherEnd names new.system new.other
other_kept names old new other system good =
    (subst (IsEndSystem names) (sym other) good.0, λ same. good.1 (sym other ∙ same ∙ system))

-- what holds of a place holds after another place is filled
pub moved : (names : Declared) (fact : Fact) (place : Place) (old new : FieldValues) → spares place fact ≡ true → rest_of place new ≡ rest_of place old → Good names fact old → Good names fact new
moved names ASystem place old new far is good = subst (IsSystem names) (sym (same_system place old new far is)) good
moved names AnEnd place old new far is good = subst (IsEndSystem names) (sym (same_system place old new far is)) good
moved names ToEnd place old new far is good = subst (IsEndSystem names) (sym (same_other place old new far is)) good
moved names AnOther place old new far is good =
    let fars = both (apart place AtOther) (apart place AtSystem) far in
    other_kept names old new (same_other place old new fars.0 is) (same_system place old new fars.1 is) good
moved names ANext place old new far is good = subst (IsSystem names) (sym (same_other place old new far is)) good
moved names ALan place old new far is good = subst (IsLan names) (sym (same_lan place old new far is)) good
moved names APath place old new far is good = subst (IsPath names) (sym (same_path place old new far is)) good
moved names AllHops place old new far is good = subst (AreIntermediateSystems names) (sym (same_hops place old new far is)) good
moved names FreshLan place old new far is good = subst (IsFreshLan names) (sym (same_name place old new far is)) good
moved names FreshSystem place old new far is good = subst (IsFreshSystem names) (sym (same_name place old new far is)) good
moved names NoFact place old new far is good = tt
