-- What the fields of a line name is declared: each form says so of the place that it fills, and no form of a row fills the
-- place of another.
use Rattle.std.proofs.Common.{◌≡◌, ℕ, ◌+◌, ◌<◌, Bool, true, false, List, [], ◌∷◌, length, Some, None, refl, sym, ◌∙◌, ap, subst, arith}
use Rattle.std.specs.Prelude.{◌==◌, ◌&&◌, not, Option, Result, Ok, Err, is_some, position, if◌then◌else◌, codes}
use Rattle.std.proofs.lemmas.Bool.Decides.{nat_tests}
use Rattle.std.proofs.lemmas.List.Quantifiers.{position-Some}
use Rattle.script_lines.specs.declared.cause.LineCause.{LineCause}
use Rattle.script_lines.specs.declared.cause.LineCause.TheVariants as causes
use Rattle.script_lines.specs.declared.words.FieldKind.{FieldKind}
use Rattle.script_lines.specs.declared.words.FieldKind.TheVariants as forms
use Rattle.script_lines.specs.declared.words.NameKind.TheVariants as named
use Rattle.script_lines.specs.declared.words.WordKind.TheVariants as plain
use Rattle.script_lines.specs.declared.field_values.FieldValues.{FieldValues}
use Rattle.script_lines.specs.Field.{is_word, is_name}
use Rattle.script_lines.specs.Gives.{into, then_read}
use Rattle.script_lines.specs.Known.{Declared, system_at, lan_at, path_at, is_end}
use Rattle.script_lines.specs.Reading.{field_read, passing, known, from_one, system_of, end_system_of, other_end_of, lan_of, port_lan_of, route_lan_of, path_of, intermediate, each_intermediate, hops_of, new_name}
use Rattle.script_lines.specs.Grammar.{next_column, count_fault, at_column, fields_read}
use Rattle.script_lines.specs.Names.{IsSystem, IsEndSystem, IsLan, IsPath, AreIntermediateSystems}
use Rattle.script_lines.proofs.Places.{Place, Fact, AtSystem, AtOther, AtLan, AtWish, AtHops, AtName, Elsewhere, spares, both, Good, IsFreshLan, IsFreshSystem, IsOtherEnd, fact_of, place_of, rest_of, moved}

-- ---- what a name gives

through : {A B : Type 0} (read : Result A LineCause) (put : A → FieldValues) (see : FieldValues → B) (seen : B) (more : FieldValues) → ((value : A) → see (put value) ≡ seen) → into read put ≡ Ok more → see more ≡ seen
through (Ok value) put see seen more all is = (let here : put value ≡ more = cc in ap see (sym here)) ∙ all value
through (Err cause) put see seen more all is = absurd (cc)

given : {A : Type 0} (P : A → Type 0) (see : FieldValues → A) (read : Result A LineCause) (put : A → FieldValues) (more : FieldValues)
    → ((value : A) → see (put value) ≡ value) → ((value : A) → read ≡ Ok value → P value) → into read put ≡ Ok more → P (see more)
given P see (Ok value) put more back each is =
    let here : put value ≡ more = cc in subst P (sym (back value) ∙ ap see here) (each value refl)
given P see (Err cause) put more back each is = absurd (cc)

there : {A : Type 0} (p : A → Bool) (xs : List A) (n : ℕ) → position p xs ≡ Some n → n < length xs
there p [] n is = absurd (cc)
there p (x ∷ xs) n is = (position-Some p (x ∷ xs) n x is).0

known_there : (found : Option ℕ) (n : ℕ) → known found ≡ Ok n → found ≡ Some n
known_there None n is = absurd (cc)
known_there (Some m) n is = cc

only_by : (test : ℕ → Bool) (cause : LineCause) (m n : ℕ) (b : Bool) → test m ≡ b → passing b cause m ≡ Ok n → (m ≡ n) × (test m ≡ true)
only_by test cause m n true passes is = (cc, passes)
only_by test cause m n false passes is = absurd (cc)

then_there : (read : Result ℕ LineCause) (test : ℕ → Bool) (cause : LineCause) (n : ℕ) → then_read read (λ m. passing (test m) cause m) ≡ Ok n → (read ≡ Ok n) × (test n ≡ true)
then_there (Err other) test cause n is = absurd (cc)
then_there (Ok m) test cause n is = let found = only_by test cause m n (test m) refl is in (ap Ok found.0, ap test (sym found.0) ∙ found.1)

named_ok : (b : Bool) (read : Result ℕ LineCause) (cause : LineCause) (n : ℕ) → (if b then read else Err cause) ≡ Ok n → read ≡ Ok n
named_ok true read cause n is = is
named_ok false read cause n is = absurd (cc)

system_there : (names : Declared) (field : List ℕ) (n : ℕ) → system_of names field ≡ Ok n → IsSystem names n
system_there names field n is =
    there _ names.systems n (known_there (system_at names.systems field) n (named_ok (is_name field) _ causes.Syntax n is))

lan_there : (names : Declared) (field : List ℕ) (n : ℕ) → lan_of names field ≡ Ok n → IsLan names n
lan_there names field n is = there _ names.lans n (known_there (lan_at names.lans field) n (named_ok (is_name field) _ causes.Syntax n is))

end_there : (names : Declared) (field : List ℕ) (n : ℕ) → end_system_of names field ≡ Ok n → IsEndSystem names n
unfolding end_system_of
end_there names field n is =
    let both = then_there (system_of names field) (is_end names) _ n is in (system_there names field n both.0, both.1)

differ : (m n : ℕ) → not (m == n) ≡ true → m ≡ n → ⊥
differ m n is same = let here : (m == n) ≡ true = grind (arith, nat_tests) in absurd (cc)

other_there : (names : Declared) (own : ℕ) (field : List ℕ) (n : ℕ) → other_end_of names own field ≡ Ok n → IsOtherEnd names own n
unfolding other_end_of
other_there names own field n is =
    let both = then_there (end_system_of names field) (λ m. not (m == own)) _ n is in (end_there names field n both.0, differ n own both.1)

port_lan_there : (names : Declared) (system : ℕ) (field : List ℕ) (n : ℕ) → port_lan_of names system field ≡ Ok n → IsLan names n
unfolding port_lan_of
port_lan_there names system field n is = lan_there names field n (then_there (lan_of names field) _ _ n is).0

route_lan_there : (names : Declared) (system next : ℕ) (field : List ℕ) (n : ℕ) → route_lan_of names system next field ≡ Ok n → IsLan names n
unfolding route_lan_of
route_lan_there names system next field n is = lan_there names field n (then_there (lan_of names field) _ _ n is).0

from_one_there : (names : Declared) (found : Option ℕ) (n : ℕ) → ((place : ℕ) → found ≡ Some place → place < length names.paths) → from_one found ≡ Ok n → IsPath names n
from_one_there names None n each is = absurd (cc)
from_one_there names (Some place) n each is = let here : place + 1 ≡ n = cc in let lt = each place refl in omega arith

path_by : (names : Declared) (field : List ℕ) (n : ℕ) (dash named : Bool) → (if dash then Ok 0 else if named then from_one (path_at names.paths field) else Err causes.Syntax) ≡ Ok n → IsPath names n
path_by names field n true named is = let here : 0 ≡ n = cc in omega arith
path_by names field n false true is = from_one_there names (path_at names.paths field) n (λ place found. there _ names.paths place found) is
path_by names field n false false is = absurd (cc)

path_there : (names : Declared) (field : List ℕ) (n : ℕ) → path_of names field ≡ Ok n → IsPath names n
unfolding path_of
path_there names field n is = path_by names field n (is_word (codes "-") field) (is_name field) is

hop_by : (names : Declared) (m n : ℕ) (b : Bool) → is_end names m ≡ b → passing (not b) causes.Unknown m ≡ Ok n → (m ≡ n) × (is_end names m ≡ false)
hop_by names m n true kind is = absurd (cc)
hop_by names m n false kind is = (cc, kind)

hop_there : (names : Declared) (found : Option ℕ) (n : ℕ) → intermediate names found ≡ Ok n → (found ≡ Some n) × (is_end names n ≡ false)
hop_there names None n is = absurd (cc)
hop_there names (Some m) n is = let hop = hop_by names m n (is_end names m) refl is in (ap Some hop.0, ap (is_end names) (sym hop.0) ∙ hop.1)

hops_each : (names : Declared) (fields : List (List ℕ)) (hops : List ℕ) → each_intermediate names fields ≡ Ok hops → AreIntermediateSystems names hops
hops_each names [] [] is = tt
hops_each names [] (hop ∷ hops) is = absurd (cc)
hops_each names (field ∷ fields) hops is = by (hops_each names fields) (intermediate names (system_at names.systems field)) refl (each_intermediate names fields) refl hops is
  where
    by : ((more : List ℕ) → each_intermediate names fields ≡ Ok more → AreIntermediateSystems names more)
        → (first : Result ℕ LineCause) → intermediate names (system_at names.systems field) ≡ first
        → (others : Result (List ℕ) LineCause) → each_intermediate names fields ≡ others
        → (all : List ℕ) → then_read first (λ number. into others (λ numbers. number ∷ numbers)) ≡ Ok all → AreIntermediateSystems names all
    by each (Err cause) is_first others is_others all i = absurd (cc)
    by each (Ok n) is_first (Err cause) is_others all i = absurd (cc)
    by each (Ok n) is_first (Ok more) is_others all i =
        let here : n ∷ more ≡ all = cc in
        let hop = hop_there names (system_at names.systems field) n is_first in
        subst (AreIntermediateSystems names) here ((there _ names.systems n hop.0, hop.1), each more is_others)

hops_by : (names : Declared) (fields : List (List ℕ)) (hops : List ℕ) (a b : Bool) → (if a then Err causes.Syntax else if b then Err causes.Range else each_intermediate names fields) ≡ Ok hops → AreIntermediateSystems names hops
hops_by names fields hops true b is = absurd (cc)
hops_by names fields hops false true is = absurd (cc)
hops_by names fields hops false false is = hops_each names fields hops is

hops_there : (names : Declared) (field : List ℕ) (hops : List ℕ) → hops_of names field ≡ Ok hops → AreIntermediateSystems names hops
unfolding hops_of
hops_there names field hops is = hops_by names _ hops _ _ is

fresh_by : (found : Option ℕ) (field name : List ℕ) → passing (not (is_some found)) causes.Repeat field ≡ Ok name → (field ≡ name) × (found ≡ None)
fresh_by None field name is = (cc, refl)
fresh_by (Some n) field name is = absurd (cc)

fresh_named : (named : Bool) (found : Option ℕ) (field name : List ℕ) → (if named then passing (not (is_some found)) causes.Repeat field else Err causes.Syntax) ≡ Ok name
    → (named ≡ true) × (field ≡ name) × (found ≡ None)
fresh_named true found field name is = let fresh = fresh_by found field name is in (refl, fresh.0, fresh.1)
fresh_named false found field name is = absurd (cc)

-- a name that is read is one, and was not found
fresh_there : (find : List ℕ → Option ℕ) (field name : List ℕ) → new_name (find field) field ≡ Ok name → (is_name name ≡ true) × (find name ≡ None)
fresh_there find field name is =
    let fresh = fresh_named (is_name field) (find field) field name is in
    (ap is_name (sym fresh.1) ∙ fresh.0, ap find (sym fresh.1) ∙ fresh.2)

-- ---- a field, and all fields

record Fills (names : Declared) (fact : Fact) (place : Place) (old new : FieldValues) : Type 0 where
  good : Good names fact new
  keeps : rest_of place new ≡ rest_of place old

fills : (names : Declared) (old : FieldValues) (form : FieldKind) (field : List ℕ) (new : FieldValues) → field_read names old form field ≡ Ok new → Fills names (fact_of form) (place_of form) old new
fills names old (forms.Named named.System) field new is = record { good = given (IsSystem names) (λ parts. parts.system) _ _ new (λ v. refl) (system_there names field) is; keeps = through _ _ (rest_of AtSystem) _ new (λ v. refl) is }
fills names old (forms.Named named.EndSystem) field new is = record { good = given (IsEndSystem names) (λ parts. parts.system) _ _ new (λ v. refl) (end_there names field) is; keeps = through _ _ (rest_of AtSystem) _ new (λ v. refl) is }
fills names old (forms.Named named.To) field new is = record { good = given (IsEndSystem names) (λ parts. parts.other) _ _ new (λ v. refl) (end_there names field) is; keeps = through _ _ (rest_of AtOther) _ new (λ v. refl) is }
fills names old (forms.Named named.Other) field new is = record {
  good = subst (λ (own : ℕ). IsOtherEnd names own new.other) (sym (through _ _ (λ (parts : FieldValues). parts.system) _ new (λ v. refl) is))
      (given (IsOtherEnd names old.system) (λ parts. parts.other) _ _ new (λ v. refl) (other_there names old.system field) is);
  keeps = through _ _ (rest_of AtOther) _ new (λ v. refl) is;
}
fills names old (forms.Named named.Next) field new is = record { good = given (IsSystem names) (λ parts. parts.other) _ _ new (λ v. refl) (system_there names field) is; keeps = through _ _ (rest_of AtOther) _ new (λ v. refl) is }
fills names old (forms.Named named.Lan) field new is = record { good = given (IsLan names) (λ parts. parts.lan) _ _ new (λ v. refl) (lan_there names field) is; keeps = through _ _ (rest_of AtLan) _ new (λ v. refl) is }
fills names old (forms.Named named.PortLan) field new is = record { good = given (IsLan names) (λ parts. parts.lan) _ _ new (λ v. refl) (port_lan_there names old.system field) is; keeps = through _ _ (rest_of AtLan) _ new (λ v. refl) is }
fills names old (forms.Named named.RouteLan) field new is = record { good = given (IsLan names) (λ parts. parts.lan) _ _ new (λ v. refl) (route_lan_there names old.system old.other field) is; keeps = through _ _ (rest_of AtLan) _ new (λ v. refl) is }
fills names old (forms.Named named.Path) field new is = record { good = given (IsPath names) (λ parts. parts.wish.path) _ _ new (λ v. refl) (path_there names field) is; keeps = through _ _ (rest_of AtWish) _ new (λ v. refl) is }
fills names old (forms.Plain plain.Flags) field new is = record { good = tt; keeps = through _ _ (rest_of AtWish) _ new (λ v. refl) is }
fills names old forms.NewLan field new is = record { good = given (IsFreshLan names) (λ parts. parts.name) _ _ new (λ v. refl) (fresh_there (lan_at names.lans) field) is; keeps = through _ _ (rest_of AtName) _ new (λ v. refl) is }
fills names old forms.NewSystem field new is = record { good = given (IsFreshSystem names) (λ parts. parts.name) _ _ new (λ v. refl) (fresh_there (system_at names.systems) field) is; keeps = through _ _ (rest_of AtName) _ new (λ v. refl) is }
fills names old forms.NewPath field new is = record { good = tt; keeps = through _ _ (rest_of AtName) _ new (λ v. refl) is }
fills names old forms.Hops field new is = record { good = given (AreIntermediateSystems names) (λ parts. parts.hops) _ _ new (λ v. refl) (hops_there names field) is; keeps = through _ _ (rest_of AtHops) _ new (λ v. refl) is }
fills names old form field new is = record { good = tt; keeps = through _ _ (rest_of Elsewhere) _ new (λ v. refl) is }

abbrev pub AllGood : Declared → List FieldKind → FieldValues → Type 0
AllGood names [] parts = Unit {0}
AllGood names (form ∷ forms) parts = Good names (fact_of form) parts × AllGood names forms parts

abbrev pub clear_of : FieldKind → List FieldKind → Bool
clear_of form [] = true
clear_of form (other ∷ done) = spares (place_of form) (fact_of other) && clear_of form done

abbrev pub are_clear : List FieldKind → List FieldKind → Bool
are_clear done [] = true
are_clear done (form ∷ forms) = clear_of form done && are_clear (form ∷ done) forms

abbrev pub onto : List FieldKind → List FieldKind → List FieldKind
onto [] done = done
onto (form ∷ forms) done = onto forms (form ∷ done)

all_moved : (names : Declared) (done : List FieldKind) (form : FieldKind) (old new : FieldValues) → clear_of form done ≡ true → rest_of (place_of form) new ≡ rest_of (place_of form) old → AllGood names done old → AllGood names done new
all_moved names [] form old new clear is good = tt
all_moved names (other ∷ done) form old new clear is good =
    let parts = both (spares (place_of form) (fact_of other)) (clear_of form done) clear in
    (moved names (fact_of other) (place_of form) old new parts.0 is good.0, all_moved names done form old new parts.1 is good.1)

pub all_good : (names : Declared) (parts out : FieldValues) (past column : ℕ) (done forms : List FieldKind) (fields : List (List ℕ))
    → are_clear done forms ≡ true → AllGood names done parts → count_fault past column forms fields ≡ None → fields_read names parts column forms fields ≡ Ok out
    → AllGood names (onto forms done) out
all_good names parts out past column done [] fields clear good count is = let same : parts ≡ out = cc in subst (AllGood names done) same good
all_good names parts out past column done (form ∷ forms) [] clear good count is = absurd (cc)
all_good names parts out past column done (form ∷ forms) (field ∷ fields) clear good count is =
    by (λ more. all_good names more out past (next_column column field) (form ∷ done) forms fields) (field_read names parts form field) refl is
  where
    by : ((more : FieldValues) → are_clear (form ∷ done) forms ≡ true → AllGood names (form ∷ done) more → count_fault past (next_column column field) forms fields ≡ None
        → fields_read names more (next_column column field) forms fields ≡ Ok out → AllGood names (onto forms (form ∷ done)) out)
        → (read : Result FieldValues LineCause) → field_read names parts form field ≡ read
        → at_column column read (λ more. fields_read names more (next_column column field) forms fields) ≡ Ok out
        → AllGood names (onto forms (form ∷ done)) out
    by next (Err cause) is_read i = absurd (cc)
    by next (Ok more) is_read i =
        let cut = both (clear_of form done) (are_clear (form ∷ done) forms) clear in
        let fill = fills names parts form field more is_read in
        next more cut.1 (fill.good, all_moved names done form parts more cut.0 fill.keeps good) count i
