-- The ports of one system among those of all: they stand in the order of all, and what holds of all holds of them.
use Rattle.std.proofs.Common.{◌≡◌, ◌≢◌, ◌==◌, ℕ, ◌<◌, ◌≤◌, Bool, true, false, List, [], ◌∷◌, ◌++◌, refl, sym, ◌∙◌, ap, arith}
use Rattle.std.specs.Prelude.{if◌then◌else◌}
use Rattle.std.specs.List.{AllByRecursion}
use Rattle.std.proofs.lemmas.Bool.Decides.{nat_tests}
use Rattle.std.proofs.lemmas.List.Elements.{All-from_recursion, recursion_from_All}
use Rattle.nsap.specs.declared.port.Port.{Port}
use Rattle.lan_step.specs.declared.row.PortRow.{PortRow}
use Rattle.lan_step.specs.Rows.{AreApart, AreAllApart}
use Rattle.clnp_system.specs.Setting.{AreApart as AreOnDifferentLans}
use Rattle.script_setup.specs.SetUp.{ports_at}
use Rattle.script_setup.proofs.Elements.{push}

pub same_number : (n : ℕ) → (n == n) ≡ true
same_number n = grind (arith, nat_tests)

pub number_is : (m n : ℕ) → (m == n) ≡ true → m ≡ n
number_is m n is = grind (arith, nat_tests)

pub numbers_differ : (m n : ℕ) → (m == n) ≡ false → m ≡ n → ⊥
numbers_differ m n is same = grind (arith, nat_tests)

-- ---- one port more

-- the port of a row, where it is of that system
abbrev pub own_port : PortRow → ℕ → List Port
own_port row number = if row.system == number then row.port ∷ [] else []

pub ports_push : (rows : List PortRow) (row : PortRow) (number : ℕ) → ports_at (rows ++ row ∷ []) number ≡ ports_at rows number ++ own_port row number
ports_push [] row number = by (row.system == number)
  where
    by : (b : Bool) → (if b then row.port ∷ [] else []) ≡ (if b then row.port ∷ [] else [])
    by b = refl
ports_push (first ∷ rows) row number = by (ports_push rows row number) (first.system == number)
  where
    by : ports_at (rows ++ row ∷ []) number ≡ ports_at rows number ++ own_port row number → (b : Bool) → (if b then first.port ∷ ports_at (rows ++ row ∷ []) number else ports_at (rows ++ row ∷ []) number)
        ≡ (if b then first.port ∷ ports_at rows number else ports_at rows number) ++ own_port row number
    by rest true = ap (λ (ports : List Port). first.port ∷ ports) rest
    by rest false = rest

pub own_is : (row : PortRow) (number : ℕ) → row.system ≡ number → own_port row number ≡ row.port ∷ []
own_is row number same = by (row.system == number) refl
  where
    by : (b : Bool) → (row.system == number) ≡ b → (if b then row.port ∷ [] else []) ≡ row.port ∷ []
    by true is = refl
    by false is = absurd (numbers_differ row.system number is same)

pub own_none : (row : PortRow) (number : ℕ) → (row.system ≡ number → ⊥) → own_port row number ≡ []
own_none row number differ = by (row.system == number) refl
  where
    by : (b : Bool) → (row.system == number) ≡ b → (if b then row.port ∷ [] else []) ≡ []
    by true is = absurd (differ (number_is row.system number is))
    by false is = refl

-- no port is of a system that is not there
pub none_at : (rows : List PortRow) (count number : ℕ) → AllByRecursion (λ row. row.system < count) rows → count ≤ number → ports_at rows number ≡ []
none_at [] count number all past = refl
none_at (row ∷ rows) count number all past = by (none_at rows count number all.1 past) (row.system == number) refl
  where
    by : ports_at rows number ≡ [] → (b : Bool) → (row.system == number) ≡ b → (if b then row.port ∷ ports_at rows number else ports_at rows number) ≡ []
    by rest true is = let same = number_is row.system number is in let here = all.0 in absurd (omega arith)
    by rest false is = rest

-- ---- what holds of each

-- of all rows, so of the ports of one system
pub at_one : (P : Port → Type 0) (rows : List PortRow) (number : ℕ) → AllByRecursion (λ row. row.system ≡ number → P row.port) rows → AllByRecursion P (ports_at rows number)
at_one P [] number all = tt
at_one P (row ∷ rows) number all = by (at_one P rows number all.1) (row.system == number) refl
  where
    by : AllByRecursion P (ports_at rows number) → (b : Bool) → (row.system == number) ≡ b → AllByRecursion P (if b then row.port ∷ ports_at rows number else ports_at rows number)
    by rest true is = (all.0 (number_is row.system number is), rest)
    by rest false is = rest

-- of the ports of one system, so of all rows of it
pub of_one : (P : Port → Type 0) (rows : List PortRow) (number : ℕ) → AllByRecursion P (ports_at rows number) → AllByRecursion (λ row. row.system ≡ number → P row.port) rows
of_one P [] number all = tt
of_one P (row ∷ rows) number all = by (of_one P rows number) (row.system == number) refl all
  where
    by : (AllByRecursion P (ports_at rows number) → AllByRecursion (λ other. other.system ≡ number → P other.port) rows) → (b : Bool) → (row.system == number) ≡ b → AllByRecursion P (if b then row.port ∷ ports_at rows number else ports_at rows number)
        → AllByRecursion (λ other. other.system ≡ number → P other.port) (row ∷ rows)
    by rest true is all = (λ same. all.0, rest all.1)
    by rest false is all = (λ same. absurd (numbers_differ row.system number is same), rest all)

-- of the ports of each system, so of all rows
pub of_each : (P : Port → Type 0) (rows : List PortRow) → ((number : ℕ) → AllByRecursion P (ports_at rows number)) → AllByRecursion (λ row. P row.port) rows
of_each P [] all = tt
of_each P (row ∷ rows) all = ((of_one P (row ∷ rows) row.system (all row.system)).0 refl, of_each P rows (λ number. rest number (row.system == number) (all number)))
  where
    rest : (number : ℕ) (b : Bool) → AllByRecursion P (if b then row.port ∷ ports_at rows number else ports_at rows number) → AllByRecursion P (ports_at rows number)
    rest number true all = all.1
    rest number false all = all

-- ---- rows that fit each other

pub rows_push : (rows : List PortRow) (row : PortRow) → AreAllApart rows → AllByRecursion (λ other. AreApart other row) rows → AreAllApart (rows ++ row ∷ [])
rows_push [] row apart all = (All-from_recursion (AreApart row) [] tt, tt)
rows_push (first ∷ rows) row apart all =
    (All-from_recursion (AreApart first) (rows ++ row ∷ []) (push (AreApart first) rows row (recursion_from_All (AreApart first) rows apart.0) all.0), rows_push rows row apart.1 all.1)

-- the ports of one system are on different LANs
pub lans_differ : (rows : List PortRow) (number : ℕ) → AreAllApart rows → AreOnDifferentLans (ports_at rows number)
lans_differ [] number apart = tt
lans_differ (row ∷ rows) number apart = by (lans_differ rows number apart.1) (row.system == number) refl
  where
    others : (rest : List PortRow) → AllByRecursion (AreApart row) rest → row.system ≡ number → AllByRecursion (λ other. other.system ≡ number → other.port.lan ≢ row.port.lan) rest
    others [] all same = tt
    others (other ∷ rest) all same = (λ its. λ is. (all.0.1 (same ∙ sym its)).0 (sym is), others rest all.1 same)

    by : AreOnDifferentLans (ports_at rows number) → (b : Bool) → (row.system == number) ≡ b → AreOnDifferentLans (if b then row.port ∷ ports_at rows number else ports_at rows number)
    by rest true is =
        (at_one (λ port. port.lan ≢ row.port.lan) rows number (others rows (recursion_from_All (AreApart row) rows apart.0) (number_is row.system number is)), rest)
    by rest false is = rest
