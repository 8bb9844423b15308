-- What is looked for among the ports on a LAN is found among any ports that have the same ones on the LAN.
use Rattle.std.proofs.Common.{◌≡◌, ℕ, ◌<◌, ◌≤◌, ◌++◌, length, get_or, length-append, Bool, true, false, not, ◌&&◌, ◌||◌, ◌==◌, if◌then◌else◌, List, [], ◌∷◌, Option, Some, None, refl, sym, ◌∙◌, ap, subst, inl, inr, arith, All}
use Rattle.std.specs.List.{list_any}
use Rattle.std.proofs.Math.ListN.{get_or-append}
use Rattle.std.proofs.Math.Seq.{get_or-append_seam}
use Rattle.std.proofs.lemmas.Bool.{cases_Bool, cases_lt, eq-eqb}
use Rattle.std.proofs.lemmas.List.{get_or_default}
use Rattle.std.proofs.lemmas.List.Elements.{All-nil, All-cons, All-head, All-tail, All-filter}
use Rattle.std.proofs.lemmas.Map.Views.{any-filter_same}
use Rattle.osi_base.specs.declared.unit.Picked.TheVariants.{Taken as WasPicked, NotThere, NotOurs}
use Rattle.nsap.specs.declared.port.Port.{Port}
use Rattle.lan_step.specs.declared.row.PortRow.{PortRow}
use Rattle.lan_step.specs.declared.row.Lan.{Lan}
use Rattle.lan_step.specs.Rows.{same_port, same_snpa, sender_of, is_on, has_sent}
use Rattle.lan_step.specs.Receivers.{goes_to, is_one_of, is_named_by}
use Rattle.lan_step.specs.Frames.{Frame, has_taken, is_live, is_taken}
use Rattle.lan_bag.specs.steps.Openings.{is_free_to, is_open_to, is_open_at, IsLeastAt}
use Rattle.lan_bag.proofs.Openings.{IsLeastAmong, any_less, none_each, open_nowhere}
use Rattle.lan_bag.specs.steps.Setting.{AreOfLans, rows_on}
use Rattle.lan_bag.proofs.Indices.{and_first as first, and_second as second}

pub any_on : (test : PortRow → Bool) (lan : ℕ) → ((row : PortRow) → test row ≡ true → (row.port.lan == lan) ≡ true) → (some all : List PortRow) → rows_on some lan ≡ rows_on all lan → list_any test some ≡ list_any test all
any_on test lan only some all same =
    sym (any-filter_same test (λ row. row.port.lan == lan) true only some)
    ∙ (ap (list_any test) same ∙ any-filter_same test (λ row. row.port.lan == lan) true only all)

-- the ports on a LAN among the ports on it
pub on_twice : (rows : List PortRow) (lan : ℕ) → rows_on (rows_on rows lan) lan ≡ rows_on rows lan
on_twice [] lan = refl
on_twice (row ∷ rows) lan =
    elim (cases_Bool (row.port.lan == lan)) [
      | inl same ↦ rw same (rw same (ap (λ (rest : List PortRow). row ∷ rest) (on_twice rows lan)))
      | inr other ↦ rw other (on_twice rows lan)
    ]

-- the port that comes first among those on its LAN is the first
first_on : (rows : List PortRow) (port : Port) → sender_of (rows_on rows port.lan) port ≡ sender_of rows port
first_on [] port = refl
first_on (row ∷ rows) port =
    elim (cases_Bool (row.port.lan == port.lan)) [
      | inl same ↦ rw same (rw same (ap (λ (rest : Option ℕ). if same_snpa row.port.snpa port.snpa then Some row.system else rest) (first_on rows port)))
      | inr other ↦ rw other (first_on rows port)
    ]

pub sender_on : (port : Port) (some all : List PortRow) → rows_on some port.lan ≡ rows_on all port.lan → sender_of some port ≡ sender_of all port
sender_on port some all same = sym (first_on some port) ∙ (ap (λ (rows : List PortRow). sender_of rows port) same ∙ first_on all port)

all_from_on : (P : PortRow → Type 0) (lan : ℕ) (rows : List PortRow) → All P (rows_on rows lan) → All (λ (row : PortRow). (row.port.lan == lan) ≡ true → P row) rows
all_from_on P lan [] h = All-nil (λ (row : PortRow). (row.port.lan == lan) ≡ true → P row)
all_from_on P lan (row ∷ rows) h =
    elim (cases_Bool (row.port.lan == lan)) [
      | inl same ↦
          let both : All P (row ∷ rows_on rows lan) = rw same at h in
          All-cons (λ (r : PortRow). (r.port.lan == lan) ≡ true → P r) row rows (λ _. All-head P row (rows_on rows lan) both) (all_from_on P lan rows (All-tail P row (rows_on rows lan) both))
      | inr other ↦
          let rest : All P (rows_on rows lan) = rw other at h in
          All-cons (λ (r : PortRow). (r.port.lan == lan) ≡ true → P r) row rows (λ yes. cc) (all_from_on P lan rows rest)
    ]

pub all_on : (P : PortRow → Type 0) (lan : ℕ) (some all : List PortRow) → rows_on some lan ≡ rows_on all lan → All P some → All (λ (row : PortRow). (row.port.lan == lan) ≡ true → P row) all
all_on P lan some all same h =
    all_from_on P lan all (subst (All P) same (All-filter (λ (row : PortRow). row.port.lan == lan) P some h))

both : (a b c : Bool) → (a && (b && c)) ≡ true → b ≡ true
both true true c h = refl
both true false c h = cc
both false b c h = cc

pub second_shut : (a b : Bool) → b ≡ false → (a && b) ≡ false
second_shut true b h = h
second_shut false b h = refl

pub first_shut : (a b : Bool) → a ≡ false → (a && b) ≡ false
first_shut true b h = cc
first_shut false b h = refl

pub on_alike : (system lan : ℕ) (some all : List PortRow) → rows_on some lan ≡ rows_on all lan → is_on some system lan ≡ is_on all system lan
on_alike system lan some all same = any_on (λ row. row.system == system && row.port.lan == lan) lan (λ row h. second (row.system == system) (row.port.lan == lan) h) some all same

pub sent_alike : (system : ℕ) (from : Port) (some all : List PortRow) → rows_on some from.lan ≡ rows_on all from.lan → has_sent some system from ≡ has_sent all system from
sent_alike system from some all same =
    any_on (λ row. row.system == system && same_port row.port from) from.lan (λ row h. both (row.system == system) (row.port.lan == from.lan) (same_snpa row.port.snpa from.snpa) h) some all same

pub goes_alike : (system : ℕ) (to : Port) (some all : List PortRow) → rows_on some to.lan ≡ rows_on all to.lan → goes_to some to system ≡ goes_to all to system
goes_alike system to some all same =
    any_on (λ row. row.system == system && is_one_of to row) to.lan (λ row h. both (row.system == system) (row.port.lan == to.lan) (is_named_by row to.snpa) h) some all same

on_lan : (clock : ℕ) (lans : List Lan) (rows : List PortRow) (frame : Frame) (row : PortRow) → is_open_at clock lans rows frame row ≡ true → (row.port.lan == frame.unit.to.lan) ≡ true
on_lan clock lans rows frame row h =
    first (row.port.lan == frame.unit.to.lan) (is_named_by row frame.unit.to.snpa) (first (is_one_of frame.unit.to row) (is_open_to clock lans rows frame row.system) h)

-- a list that stands among the lists
pub rows_listed : (lists : List (List PortRow)) (rows : List PortRow) (lan : ℕ) (found : List PortRow) → lan < length lists → found ≡ get_or lists lan found → AreOfLans lists rows → rows_on found lan ≡ rows_on rows lan
rows_listed lists rows lan found lt at listed =
    let here : found ≡ rows_on rows lan = at ∙ (get_or_default lists lan found [] lt ∙ listed lan lt) in
    ap (λ (r : List PortRow). rows_on r lan) here ∙ on_twice rows lan

-- one list more
pub listed_more : (lists : List (List PortRow)) (rows : List PortRow) (found : List PortRow) → found ≡ rows_on rows (length lists) → AreOfLans lists rows → AreOfLans (lists ++ found ∷ []) rows
listed_more lists rows found is listed lan lt =
    elim (cases_lt lan (length lists)) [
      | inl before ↦ get_or-append lists (found ∷ []) [] lan before ∙ listed lan before
      | inr after ↦
          let last : lan ≡ length lists = omega (arith, length-append lists (found ∷ []), lt) in
          ap (λ (k : ℕ). get_or (lists ++ found ∷ []) k []) last
          ∙ (get_or-append_seam lists found [] [] ∙ (is ∙ ap (rows_on rows) (sym last)))
    ]

-- where no port is named among those on its LAN, none at all is one of a destination
pub none_named : (to : Port) (some all : List PortRow) → rows_on some to.lan ≡ rows_on all to.lan → list_any (λ row. is_named_by row to.snpa) some ≡ false → list_any (is_one_of to) all ≡ false
none_named to some all same none =
    sym (any_on (is_one_of to) to.lan (λ row h. first (row.port.lan == to.lan) (is_named_by row to.snpa) h) some all same)
    ∙ any_less (λ (row : PortRow). is_named_by row to.snpa) (is_one_of to) (λ row e. second_shut (row.port.lan == to.lan) (is_named_by row to.snpa) e) some none

-- what holds at a place of a list holds at some
any_at : (test : PortRow → Bool) (rows : List PortRow) (k : ℕ) (d : PortRow) → k < length rows → test (get_or rows k d) ≡ true → list_any test rows ≡ true
any_at test rows k d lt h =
    elim (cases_Bool (list_any test rows)) [
      | inl some ↦ some
      | inr none ↦ let shut : test (get_or rows k d) ≡ false = none_each test rows none k d lt in cc
    ]

-- one of a destination is there, and gets what goes to it
free_open : (live there one sent took : Bool) → live ≡ true → there ≡ true → one ≡ true → (live && is_taken (if not there then NotThere else if sent || not one then NotOurs else WasPicked) && not took) ≡ (not took && not sent)
free_open true true true true true l t o = refl
free_open true true true true false l t o = refl
free_open true true true false true l t o = refl
free_open true true true false false l t o = refl
free_open true true false sent took l t o = cc
free_open true false one sent took l t o = cc
free_open false there one sent took l t o = cc

-- a live frame that goes to a port on its LAN is open there exactly where its system is free to take it
pub open_free : (clock : ℕ) (lans : List Lan) (rows : List PortRow) (frame : Frame) (some : List PortRow) (k : ℕ) (row : PortRow) → rows_on some frame.unit.to.lan ≡ rows_on rows frame.unit.to.lan → k < length some → row ≡ get_or some k row → is_live clock lans frame ≡ true → is_one_of frame.unit.to row ≡ true → is_open_at clock lans rows frame row ≡ is_free_to rows frame row.system
open_free clock lans rows frame some k row same lt at live one =
    ap (λ (b : Bool). b && is_open_to clock lans rows frame row.system) one
    ∙ free_open (is_live clock lans frame) (is_on rows row.system frame.unit.to.lan) (goes_to rows frame.unit.to row.system) (has_sent rows row.system frame.unit.from) (has_taken frame row.system) live
    (sym (on_alike row.system frame.unit.to.lan some rows same) ∙ any_at (λ r. r.system == row.system && r.port.lan == frame.unit.to.lan) some k row lt (here (λ r. r.port.lan == frame.unit.to.lan) (first (row.port.lan == frame.unit.to.lan) (is_named_by row frame.unit.to.snpa) one)))
    (sym (goes_alike row.system frame.unit.to some rows same) ∙ any_at (λ r. r.system == row.system && is_one_of frame.unit.to r) some k row lt (here (is_one_of frame.unit.to) one))
  where
    here : (test : PortRow → Bool) → test row ≡ true → ((get_or some k row).system == row.system && test (get_or some k row)) ≡ true
    here test h =
        subst (λ (r : PortRow). (r.system == row.system && test r) ≡ true) at (ap (λ (b : Bool). b && test row) (eq-eqb row.system row.system refl) ∙ h)

-- where no port is one of its destination, a frame is open at none
pub none_reached : (clock : ℕ) (lans : List Lan) (rows all : List PortRow) (frame : Frame) → list_any (is_one_of frame.unit.to) all ≡ false → list_any (is_open_at clock lans rows frame) all ≡ false
none_reached clock lans rows all frame none =
    any_less (is_one_of frame.unit.to) (is_open_at clock lans rows frame) (λ row e. first_shut (is_one_of frame.unit.to row) (is_open_to clock lans rows frame row.system) e) all none

-- a frame for a destination that is no port's is open to no system
pub none_to : (clock : ℕ) (lans : List Lan) (rows : List PortRow) (slot : Option Frame) (to : Port) → list_any (is_one_of to) rows ≡ false → ((frame : Frame) → slot ≡ Some frame → frame.unit.to ≡ to) → IsLeastAt clock lans rows slot None
none_to clock lans rows None to none goes = refl
none_to clock lans rows (Some frame) to none goes =
    open_nowhere clock lans rows frame
    (none_reached clock lans rows rows frame (subst (λ (p : Port). list_any (is_one_of p) rows ≡ false) (sym (goes frame refl)) none))

-- the least at the ports on its LAN is the least at all
pub least_on : (clock : ℕ) (lans : List Lan) (rows : List PortRow) (frame : Frame) (some : List PortRow) (least : Option ℕ) → rows_on some frame.unit.to.lan ≡ rows_on rows frame.unit.to.lan → IsLeastAmong clock lans rows frame some least → IsLeastAmong clock lans rows frame rows least
least_on clock lans rows frame some None same h =
    λ k d lt. elim (cases_Bool (is_open_at clock lans rows frame (get_or rows k d))) [
      | inl opens ↦ all_on (λ (row : PortRow). is_open_at clock lans rows frame row ≡ false) frame.unit.to.lan some rows same h k d lt (on_lan clock lans rows frame (get_or rows k d) opens)
      | inr closed ↦ closed
    ]
least_on clock lans rows frame some (Some least) same h = (
  h.0,
  λ k d lt opens.
      all_on (λ (row : PortRow). is_open_at clock lans rows frame row ≡ true → least ≤ row.system) frame.unit.to.lan some rows same h.1 k d lt (on_lan clock lans rows frame (get_or rows k d) opens) opens,
)
