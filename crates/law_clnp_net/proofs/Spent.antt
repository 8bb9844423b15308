-- Frames that no system can take any more, or that one system alone can take. A frame that goes to one system is spent once that one took it, one that
-- goes nowhere is spent as it is sent, and what is spent stays so at a tick.
use Rattle.std.proofs.Common.{◌≡◌, ℕ, zero, suc, ◌+◌, Bool, true, false, not, ◌&&◌, ◌||◌, ◌==◌, if◌then◌else◌, List, [], ◌∷◌, ◌++◌, length, map, refl, ◌∙◌, ap, arith, Option, Some, None}
use Rattle.std.specs.List.{AllByRecursion, list_any}
use Rattle.std.proofs.lemmas.Bool.Decides.{nat_tests}
use Rattle.osi_base.specs.declared.unit.Unit.{Unit as CarriedUnit}
use Rattle.nsap.specs.declared.port.Port.{Port}
use Rattle.lan_step.specs.declared.row.Lan.{Lan}
use Rattle.lan_step.specs.declared.row.PortRow.{PortRow}
use Rattle.lan_step.specs.Frames.{Frame, is_live, is_taken, kept_at, marked, picked_of}
use Rattle.lan_bag.specs.steps.Openings.{IsClosedTo, is_open, is_open_to}
use Rattle.lan_bag.proofs.Openings.{any_less, less_sooner}
use Rattle.lan_step.proofs.Places.{marked_by}
use Rattle.law_clnp_net.specs.Frames.{GoesNowhere, GoesOnlyTo, IsSpent, sent_at}

-- ---- spent frames

-- a test that no member passes
pub any_never : {X : Type 0} (test : X → Bool) → ((x : X) → test x ≡ false) → (xs : List X) → list_any test xs ≡ false
any_never test never [] = refl
any_never test never (x ∷ xs) = ap (λ (b : Bool). b || list_any test xs) (never x) ∙ any_never test never xs

spent_ticked : (clock : ℕ) (lans : List Lan) (rows : List PortRow) (slot : Option Frame) → IsSpent clock lans rows slot → IsSpent (clock + 1) lans rows (kept_at (clock + 1) lans slot)
spent_ticked clock lans rows None h = refl
spent_ticked clock lans rows (Some frame) h = by_live (is_live (clock + 1) lans frame)
  where
    by_live : (b : Bool) → is_open (clock + 1) lans rows (if b then Some frame else None) ≡ false
    by_live true =
        any_less (λ (row : PortRow). is_open_to clock lans rows frame row.system) (λ (row : PortRow). is_open_to (clock + 1) lans rows frame row.system)
        (λ row e. less_sooner clock lans rows frame row.system e) rows h
    by_live false = refl

pub all_ticked : (clock : ℕ) (lans : List Lan) (rows : List PortRow) (slots : List (Option Frame)) → AllByRecursion (IsSpent clock lans rows) slots
    → AllByRecursion (IsSpent (clock + 1) lans rows) (map (kept_at (clock + 1) lans) slots)
all_ticked clock lans rows [] h = tt
all_ticked clock lans rows (slot ∷ slots) h = (spent_ticked clock lans rows slot h.0, all_ticked clock lans rows slots h.1)

-- nothing before what waits can be taken by a system that has not taken it
pub closed_before : (clock : ℕ) (lans : List Lan) (rows : List PortRow) (spent rest : List (Option Frame)) → AllByRecursion (IsSpent clock lans rows) spent
    → IsClosedTo clock lans rows (spent ++ rest) (length spent)
closed_before clock lans rows [] rest h k lt = absurd (omega (arith, lt))
closed_before clock lans rows (slot ∷ spent) rest h zero lt = h.0
closed_before clock lans rows (slot ∷ spent) rest h (suc k) lt = closed_before clock lans rows spent rest h.1 k (omega (arith, lt))

-- ---- a frame that goes to one system

open_is : (live picked : Bool) → live ≡ true → (live && picked && not false) ≡ picked
open_is true true h = refl
open_is true false h = refl
open_is false picked h = absurd cc

live_now : (clock : ℕ) (lans : List Lan) (unit : CarriedUnit Port) (taken : List ℕ) → is_live clock lans (record { tick = clock; unit = unit; taken = taken }) ≡ true
live_now clock lans unit taken = grind (arith, nat_tests)

-- it is open to its receiver alone
pub open_to_one : (clock : ℕ) (lans : List Lan) (rows : List PortRow) (unit : CarriedUnit Port) (receiver : ℕ) → GoesOnlyTo rows unit receiver
    → (system : ℕ) → is_open_to clock lans rows (record { tick = clock; unit = unit; taken = [] }) system ≡ (system == receiver)
open_to_one clock lans rows unit receiver goes system =
    let frame : Frame = record { tick = clock; unit = unit; taken = [] } in
    open_is (is_live clock lans frame) (is_taken (picked_of rows system frame)) (live_now clock lans unit []) ∙ goes.picks system frame refl

pub open_now : (clock : ℕ) (lans : List Lan) (rows : List PortRow) (unit : CarriedUnit Port) (receiver : ℕ) → GoesOnlyTo rows unit receiver
    → is_open clock lans rows (sent_at clock unit) ≡ true
open_now clock lans rows unit receiver goes =
    (λ i. list_any (λ (row : PortRow). open_to_one clock lans rows unit receiver goes row.system i) rows) ∙ goes.there

no_and_not : (live same : Bool) → (live && same && not same) ≡ false
no_and_not true true = refl
no_and_not true false = refl
no_and_not false same = refl

-- and to none once its receiver has taken it
pub shut_once_taken : (clock : ℕ) (lans : List Lan) (rows : List PortRow) (unit : CarriedUnit Port) (receiver : ℕ) → GoesOnlyTo rows unit receiver
    → IsSpent clock lans rows (Some (marked (record { tick = clock; unit = unit; taken = [] }) receiver))
shut_once_taken clock lans rows unit receiver goes = any_never (λ (row : PortRow). is_open_to clock lans rows after row.system) (λ row. shut row.system) rows
  where
    first : Frame
    first = record { tick = clock; unit = unit; taken = [] }

    after : Frame
    after = marked first receiver

    shut : (system : ℕ) → is_open_to clock lans rows after system ≡ false
    shut system =
        (λ i. is_live clock lans after && goes.picks system after refl i && not (marked_by first receiver system i))
        ∙ no_and_not (is_live clock lans after) (system == receiver)

no_and : (live : Bool) → (live && false && true) ≡ false
no_and true = refl
no_and false = refl

-- one that goes nowhere is spent as it is sent
pub spent_at_once : (clock : ℕ) (lans : List Lan) (rows : List PortRow) (unit : CarriedUnit Port) → GoesNowhere rows unit → IsSpent clock lans rows (sent_at clock unit)
spent_at_once clock lans rows unit nowhere = any_never (λ (row : PortRow). is_open_to clock lans rows frame row.system) (λ row. shut row.system) rows
  where
    frame : Frame
    frame = record { tick = clock; unit = unit; taken = [] }

    shut : (system : ℕ) → is_open_to clock lans rows frame system ≡ false
    shut system =
        (λ i. is_live clock lans frame && nowhere system frame refl i && true) ∙ no_and (is_live clock lans frame)
