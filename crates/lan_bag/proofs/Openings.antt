-- The first frame that a system can take and has not taken: what changes do to it, and the least fresh pair.
use Rattle.std.proofs.Common.{◌≡◌, ◌≢◌, ◌⊎◌, inl, inr, get_or, ℕ, zero, suc, ◌+◌, ◌<◌, ◌≤◌, Bool, true, false, not, ◌&&◌, ◌||◌, ◌==◌, nat_lt, IsTrue, if◌then◌else◌, List, [], ◌∷◌, ◌++◌, length, length-append, map, take, set, refl, sym, ◌∙◌, ap, subst, arith, Option, Some, None, slice_get, All}
use Rattle.std.specs.Prelude.{IsSome}
use Rattle.std.specs.List.{list_any}
use Rattle.std.proofs.lemmas.Bool.{cases_Bool, cases_lt}
use Rattle.std.proofs.lemmas.Bool.Decides.{nat_tests, eqb_tells}
use Rattle.std.proofs.lemmas.List.{length-map, length-set}
use Rattle.std.proofs.lemmas.List.Elements.{All-nil, All-cons, All-head, All-tail, All-more}
use Rattle.osi_base.specs.declared.unit.Picked.TheVariants.{Late}
use Rattle.nsap.specs.declared.port.Port.{Port}
use Rattle.lan_step.specs.declared.row.Lan.{Lan}
use Rattle.lan_step.specs.declared.row.PortRow.{PortRow}
use Rattle.lan_step.specs.Receivers.{is_one_of, goes_to}
use Rattle.lan_step.specs.Frames.{Frame, kept, frame_of, has_taken, is_live, is_taken, picked_of, kept_at, marked, marked_at, marked_frame}
use Rattle.lan_bag.specs.steps.Openings.{is_open_to, is_open_at, is_open, IsClosedTo, IsFirstOpen, IsFreshAt, IsLeastAt, IsLeastOpen, IsPairAt, lesser_of}
use Rattle.lan_bag.proofs.Indices.{and_second as opens}
use Rattle.lan_step.proofs.Places.{push_last, set_same, set_other, kept_places, marked_by, takes_in, takes_at}
use Rattle.lan_step.specs.Bag.{Bag, link_of, took_by}
use Rattle.osi_base.specs.Link.{is_fresh, IsUpTo, IsLeastFresh}

-- the least of the systems that can take a frame, and have not, at the ports of the first rows
abbrev pub IsLeastAmong : ℕ → List Lan → List PortRow → Frame → List PortRow → Option ℕ → Type 0
IsLeastAmong clock lans rows frame some_rows None = All (λ row. is_open_at clock lans rows frame row ≡ false) some_rows
IsLeastAmong clock lans rows frame some_rows (Some least) =
    (is_open_to clock lans rows frame least ≡ true)
    × All (λ row. is_open_at clock lans rows frame row ≡ true → least ≤ row.system) some_rows

-- the systems of a destination are those of its ports
on_port : (P : ℕ → Type 0) (rows : List PortRow) (to : Port) (system : ℕ) → goes_to rows to system ≡ true → All (λ (row : PortRow). is_one_of to row ≡ true → P row.system) rows → P system
on_port P [] to system h all = cc
on_port P (row ∷ rows) to system h all =
    here_or (λ (e : goes_to rows to system ≡ true). on_port P rows to system e (All-tail (λ (r : PortRow). is_one_of to r ≡ true → P r.system) row rows all))
    (eqb_tells row.system system) (cases_Bool (is_one_of to row)) h
  where
    here_or : (goes_to rows to system ≡ true → P system) → ((row.system == system) ≡ true) × (row.system ≡ system) ⊎ ((row.system == system) ≡ false) × (row.system ≢ system) → (is_one_of to row ≡ true) ⊎ (is_one_of to row ≡ false) → ((row.system == system && is_one_of to row) || goes_to rows to system) ≡ true → P system
    here_or others (inl same) (inl one) e = subst P same.1 (All-head (λ (r : PortRow). is_one_of to r ≡ true → P r.system) row rows all one)
    here_or others (inl same) (inr none) e = others (sym (ap (λ (b : Bool). b || goes_to rows to system) (ap (λ (b : Bool). b && is_one_of to row) same.0 ∙ none)) ∙ e)
    here_or others (inr other) port e = others (sym (ap (λ (b : Bool). (b && is_one_of to row) || goes_to rows to system) other.0) ∙ e)

open_goes : (clock : ℕ) (lans : List Lan) (rows : List PortRow) (frame : Frame) (system : ℕ) → is_open_to clock lans rows frame system ≡ true → goes_to rows frame.unit.to system ≡ true
open_goes clock lans rows frame system h = grind (arith, nat_tests)

and_open : (a b : Bool) → a ≡ true → (a && b) ≡ b
and_open true b h = refl
and_open false b h = cc

-- what is open at no port is open to no system
none_at : (clock : ℕ) (lans : List Lan) (rows : List PortRow) (frame : Frame) → All (λ (row : PortRow). is_open_at clock lans rows frame row ≡ false) rows → (system : ℕ) → is_open_to clock lans rows frame system ≡ false
none_at clock lans rows frame h system =
    elim (cases_Bool (is_open_to clock lans rows frame system)) [
      | inl open_to ↦
          on_port (λ (s : ℕ). is_open_to clock lans rows frame s ≡ false) rows frame.unit.to system (open_goes clock lans rows frame system open_to)
          (λ k d lt one. sym (and_open (is_one_of frame.unit.to (get_or rows k d)) (is_open_to clock lans rows frame (get_or rows k d).system) one) ∙ h k d lt)
      | inr closed ↦ closed
    ]

-- the least at all ports is the least of all systems
pub least_open : (clock : ℕ) (lans : List Lan) (rows : List PortRow) (frame : Frame) (least : Option ℕ) → IsLeastAmong clock lans rows frame rows least → IsLeastOpen clock lans rows frame least
least_open clock lans rows frame None h = none_at clock lans rows frame h
least_open clock lans rows frame (Some least) h = (
  h.0,
  λ system open_to.
      on_port (λ (s : ℕ). is_open_to clock lans rows frame s ≡ true → least ≤ s) rows frame.unit.to system (open_goes clock lans rows frame system open_to)
      (λ k d lt one opens. h.1 k d lt (and_open (is_one_of frame.unit.to (get_or rows k d)) (is_open_to clock lans rows frame (get_or rows k d).system) one ∙ opens))
      open_to,
)

or_parts : (a b : Bool) → (a || b) ≡ false → (a ≡ false) × (b ≡ false)
or_parts true b e = cc
or_parts false b e = (refl, e)

-- what was closed to all stays closed to all
pub any_less : {X : Type 0} (p q : X → Bool) → ((x : X) → p x ≡ false → q x ≡ false) → (xs : List X) → list_any p xs ≡ false → list_any q xs ≡ false
any_less p q less [] h = refl
any_less p q less (x ∷ xs) h =
    let parts = or_parts (p x) (list_any p xs) h in
    ap (λ (c : Bool). c || list_any q xs) (less x parts.0) ∙ any_less p q less xs parts.1

push_kept : {X : Type 0} (xs : List X) (y : X) (k : ℕ) → k < length xs → slice_get (xs ++ y ∷ []) k ≡ slice_get xs k
push_kept [] y k h = absurd (omega arith)
push_kept (x ∷ xs) y zero h = refl
push_kept (x ∷ xs) y (suc k) h = push_kept xs y k (omega arith)

pub closed_pushed : (clock : ℕ) (lans : List Lan) (rows : List PortRow) (frames : List (Option Frame)) (place : ℕ) (slot : Option Frame) → IsFirstOpen clock lans rows frames place → IsClosedTo clock lans rows (frames ++ slot ∷ []) place
closed_pushed clock lans rows frames place slot f k lt =
    ap (λ (o : Option (Option Frame)). is_open clock lans rows (kept o)) (push_kept frames slot k (omega (arith, f.within))) ∙ f.before k lt

and_less : (a b c d : Bool) → (a && b && not c) ≡ false → (a && b && not (c || d)) ≡ false
and_less true true true d h = refl
and_less true true false d h = cc
and_less true false c d h = refl
and_less false b c d h = refl

mark_closes : (clock : ℕ) (lans : List Lan) (rows : List PortRow) (frame : Frame) (marker : ℕ) → is_open clock lans rows (Some frame) ≡ false → is_open clock lans rows (Some (marked frame marker)) ≡ false
mark_closes clock lans rows frame marker h =
    any_less (λ (row : PortRow). is_open_to clock lans rows frame row.system) (λ (row : PortRow). is_open_to clock lans rows (marked frame marker) row.system)
    (λ row e.
    ap (λ (b : Bool). is_live clock lans frame && is_taken (picked_of rows row.system frame) && not b) (marked_by frame marker row.system)
    ∙ and_less (is_live clock lans frame) (is_taken (picked_of rows row.system frame)) (has_taken frame row.system) (row.system == marker) e)
    rows h

marked_closed : (clock : ℕ) (lans : List Lan) (rows : List PortRow) (frames : List (Option Frame)) (i system k : ℕ) (o : Option (Option Frame)) → slice_get frames i ≡ o → is_open clock lans rows (kept (slice_get frames k)) ≡ false → is_open clock lans rows (kept (slice_get (marked_frame frames i system (kept o)) k)) ≡ false
marked_closed clock lans rows frames i system k None at h = h
marked_closed clock lans rows frames i system k (Some None) at h = h
marked_closed clock lans rows frames i system k (Some (Some frame)) at h =
    elim (eqb_tells k i) [
      | inl same ↦
          ap (λ (j : ℕ). is_open clock lans rows (kept (slice_get (set frames i (Some (marked frame system))) j))) same.1
          ∙ (ap (λ (o : Option (Option Frame)). is_open clock lans rows (kept o)) (set_same frames (Some (marked frame system)) (Some frame) i at)
          ∙ mark_closes clock lans rows frame system
          (ap (λ (o : Option (Option Frame)). is_open clock lans rows (kept o)) (sym at) ∙ (ap (λ (j : ℕ). is_open clock lans rows (kept (slice_get frames j))) (sym same.1) ∙ h)))
      | inr other ↦ ap (λ (o : Option (Option Frame)). is_open clock lans rows (kept o)) (set_other frames (Some (marked frame system)) i k other.1) ∙ h
    ]

pub closed_marked : (clock : ℕ) (lans : List Lan) (rows : List PortRow) (frames : List (Option Frame)) (place number system : ℕ) → IsFirstOpen clock lans rows frames place → IsClosedTo clock lans rows (marked_at frames number system) place
closed_marked clock lans rows frames place zero system f k lt = f.before k lt
closed_marked clock lans rows frames place (suc i) system f k lt = marked_closed clock lans rows frames i system k (slice_get frames i) refl (f.before k lt)

pub less_sooner : (clock : ℕ) (lans : List Lan) (rows : List PortRow) (frame : Frame) (system : ℕ) → is_open_to clock lans rows frame system ≡ false → is_open_to (clock + 1) lans rows frame system ≡ false
less_sooner clock lans rows frame system h = grind (arith, nat_tests)

tick_closes : (clock : ℕ) (lans : List Lan) (rows : List PortRow) (slot : Option Frame) → is_open clock lans rows slot ≡ false → is_open (clock + 1) lans rows (kept_at (clock + 1) lans slot) ≡ false
tick_closes clock lans rows None h = refl
tick_closes clock lans rows (Some frame) h = by_live (is_live (clock + 1) lans frame)
  where
    by_live : (b : Bool) → is_open (clock + 1) lans rows (if b then Some frame else None) ≡ false
    by_live true =
        any_less (λ (row : PortRow). is_open_to clock lans rows frame row.system) (λ (row : PortRow). is_open_to (clock + 1) lans rows frame row.system)
        (λ row e. less_sooner clock lans rows frame row.system e) rows h
    by_live false = refl

pub closed_ticked : (clock : ℕ) (lans : List Lan) (rows : List PortRow) (frames : List (Option Frame)) (place : ℕ) → IsFirstOpen clock lans rows frames place → IsClosedTo (clock + 1) lans rows (map (kept_at (clock + 1) lans) frames) place
closed_ticked clock lans rows frames place f k lt =
    ap (is_open (clock + 1) lans rows) (kept_places (clock + 1) lans frames k) ∙ tick_closes clock lans rows (kept (slice_get frames k)) (f.before k lt)

-- the first open frame stays the first where another changes, and where it is not late after a tick

first_pushed : (clock : ℕ) (lans : List Lan) (rows : List PortRow) (frames : List (Option Frame)) (place number : ℕ) (slot : Option Frame) → IsFirstOpen clock lans rows frames place → place + 1 ≢ number → number ≡ length frames + 1 → IsFirstOpen clock lans rows (frames ++ slot ∷ []) place
first_pushed clock lans rows frames place number slot f other is =
    let inside : place < length frames = omega (arith, f.within) in
    record {
      within = omega (arith, length-append frames (slot ∷ []));
      before = closed_pushed clock lans rows frames place slot f;
      here = λ _. ap (λ (o : Option (Option Frame)). is_open clock lans rows (kept o)) (push_kept frames slot place inside) ∙ f.here inside;
    }

marked_first : (clock : ℕ) (lans : List Lan) (rows : List PortRow) (frames : List (Option Frame)) (place i system : ℕ) (o : Option Frame) → IsFirstOpen clock lans rows frames place → place ≢ i → IsClosedTo clock lans rows (marked_frame frames i system o) place → IsFirstOpen clock lans rows (marked_frame frames i system o) place
marked_first clock lans rows frames place i system None f other closed = f
marked_first clock lans rows frames place i system (Some frame) f other closed = record {
  within = omega (arith, f.within, length-set frames i (Some (marked frame system)));
  before = closed;
  here = λ lt.
      ap (λ (o : Option (Option Frame)). is_open clock lans rows (kept o)) (set_other frames (Some (marked frame system)) i place other)
      ∙ f.here (omega (arith, lt, length-set frames i (Some (marked frame system))));
}

first_marked : (clock : ℕ) (lans : List Lan) (rows : List PortRow) (frames : List (Option Frame)) (place number system : ℕ) → IsFirstOpen clock lans rows frames place → place + 1 ≢ number → IsFirstOpen clock lans rows (marked_at frames number system) place
first_marked clock lans rows frames place zero system f other = f
first_marked clock lans rows frames place (suc i) system f other =
    marked_first clock lans rows frames place i system (kept (slice_get frames i)) f (λ same. other (omega (arith, same)))
    (closed_marked clock lans rows frames place (suc i) system f)

-- what is open to some system is open while it is live
any_more : {X : Type 0} (p q : X → Bool) → ((x : X) → p x ≡ true → q x ≡ true) → (xs : List X) → list_any p xs ≡ true → list_any q xs ≡ true
any_more p q more xs h =
    elim (cases_Bool (list_any q xs)) [
      | inl some ↦ some
      | inr none ↦ let closed = any_less q p (λ x no_q. not_more (p x) (q x) (more x) no_q) xs none in cc
    ]
  where
    not_more : (a b : Bool) → (a ≡ true → b ≡ true) → b ≡ false → a ≡ false
    not_more true b m e = let t = m refl in cc
    not_more false b m e = refl

stays_open_to : (clock : ℕ) (lans : List Lan) (rows : List PortRow) (frame : Frame) (system : ℕ) → is_live (clock + 1) lans frame ≡ true → is_open_to clock lans rows frame system ≡ true → is_open_to (clock + 1) lans rows frame system ≡ true
stays_open_to clock lans rows frame system live h = grind (arith, nat_tests)

stays_open : (clock : ℕ) (lans : List Lan) (rows : List PortRow) (slot : Option Frame) → is_open clock lans rows slot ≡ true → IsSome (kept_at (clock + 1) lans slot) → is_open (clock + 1) lans rows (kept_at (clock + 1) lans slot) ≡ true
stays_open clock lans rows None h kept = cc
stays_open clock lans rows (Some frame) h kept = by_live (is_live (clock + 1) lans frame) refl kept
  where
    by_live : (b : Bool) → is_live (clock + 1) lans frame ≡ b → IsSome (if b then Some frame else None) → is_open (clock + 1) lans rows (if b then Some frame else None) ≡ true
    by_live true live some =
        any_more (λ (row : PortRow). is_open_to clock lans rows frame row.system) (λ (row : PortRow). is_open_to (clock + 1) lans rows frame row.system)
        (λ row e. stays_open_to clock lans rows frame row.system live e) rows h
    by_live false live some = cc

first_ticked : (clock : ℕ) (lans : List Lan) (rows : List PortRow) (frames : List (Option Frame)) (place : ℕ) → IsFirstOpen clock lans rows frames place → IsSome (kept (slice_get (map (kept_at (clock + 1) lans) frames) place)) → IsFirstOpen (clock + 1) lans rows (map (kept_at (clock + 1) lans) frames) place
first_ticked clock lans rows frames place f some = record {
  within = omega (arith, f.within, length-map frames (kept_at (clock + 1) lans));
  before = closed_ticked clock lans rows frames place f;
  here = λ lt.
      ap (is_open (clock + 1) lans rows) (kept_places (clock + 1) lans frames place)
      ∙ stays_open clock lans rows (kept (slice_get frames place)) (f.here (omega (arith, lt, length-map frames (kept_at (clock + 1) lans))))
      (subst IsSome (kept_places (clock + 1) lans frames place) some);
}

-- the system may take what stands there, and has not
abbrev open_in : ℕ → List Lan → List PortRow → Option Frame → ℕ → Bool
open_in clock lans rows None system = false
open_in clock lans rows (Some frame) system = is_open_to clock lans rows frame system

open_slot : (clock : ℕ) (lans : List Lan) (rows : List PortRow) (slot : Option Frame) (system : ℕ) → (takes_in clock lans rows slot system && not (took_by slot system)) ≡ open_in clock lans rows slot system
open_slot clock lans rows None system = refl
open_slot clock lans rows (Some frame) system = by_live (is_live clock lans frame)
  where
    by_live : (b : Bool) → (is_taken (if not b then Late else picked_of rows system frame) && not (has_taken frame system)) ≡ (b && is_taken (picked_of rows system frame) && not (has_taken frame system))
    by_live true = refl
    by_live false = refl

fresh_at : (bag : Bag) (k system : ℕ) → is_fresh (link_of bag) (suc k) system ≡ open_in bag.clock bag.lans bag.rows (kept (slice_get bag.frames k)) system
fresh_at bag k system =
    ap (λ (b : Bool). b && not (took_by (kept (slice_get bag.frames k)) system)) (takes_at bag.clock bag.lans bag.rows bag.frames k system)
    ∙ open_slot bag.clock bag.lans bag.rows (kept (slice_get bag.frames k)) system

shut_at : (a b : Bool) → b ≡ false → (a && b) ≡ false
shut_at true b h = h
shut_at false b h = refl

pub none_each : {X : Type 0} (p : X → Bool) (xs : List X) → list_any p xs ≡ false → All (λ (x : X). p x ≡ false) xs
none_each p [] h = All-nil (λ x. p x ≡ false)
none_each p (x ∷ xs) h =
    let both = or_parts (p x) (list_any p xs) h in
    All-cons (λ y. p y ≡ false) x xs both.0 (none_each p xs both.1)

closed_to : (clock : ℕ) (lans : List Lan) (rows : List PortRow) (slot : Option Frame) (system : ℕ) → is_open clock lans rows slot ≡ false → open_in clock lans rows slot system ≡ false
closed_to clock lans rows None system h = refl
closed_to clock lans rows (Some frame) system h =
    none_at clock lans rows frame
    (λ k d lt. shut_at (is_one_of frame.unit.to (get_or rows k d)) (is_open_to clock lans rows frame (get_or rows k d).system) (none_each (λ (row : PortRow). is_open_to clock lans rows frame row.system) rows h k d lt))
    system

none_open : (clock : ℕ) (lans : List Lan) (rows : List PortRow) (frame : Frame) → ((system : ℕ) → is_open_to clock lans rows frame system ≡ false) → (some_rows : List PortRow) → list_any (λ (row : PortRow). is_open_to clock lans rows frame row.system) some_rows ≡ false
none_open clock lans rows frame h [] = refl
none_open clock lans rows frame h (row ∷ some_rows) =
    ap (λ (b : Bool). b || list_any (λ (r : PortRow). is_open_to clock lans rows frame r.system) some_rows) (h row.system) ∙ none_open clock lans rows frame h some_rows

open_within : (clock : ℕ) (lans : List Lan) (rows : List PortRow) (frames : List (Option Frame)) (k system : ℕ) → open_in clock lans rows (kept (slice_get frames k)) system ≡ true → k < length frames
open_within clock lans rows [] k system h = cc
open_within clock lans rows (frame ∷ frames) zero system h = omega arith
open_within clock lans rows (frame ∷ frames) (suc k) system h = omega (arith, open_within clock lans rows frames k system h)

-- where nothing is at the first open place, no pair is fresh
pub none_fresh : (bag : Bag) (place : ℕ) → IsFirstOpen bag.clock bag.lans bag.rows bag.frames place → is_open bag.clock bag.lans bag.rows (kept (slice_get bag.frames place)) ≡ false → IsLeastFresh (link_of bag) None
none_fresh bag place f shut zero system = refl
none_fresh bag place f shut (suc k) system =
    elim (cases_Bool (is_fresh (link_of bag) (suc k) system)) [
      | inl fresh ↦
          let lt = open_within bag.clock bag.lans bag.rows bag.frames k system (sym (fresh_at bag k system) ∙ fresh) in
          elim (cases_lt place (length bag.frames)) [
            | inl inside ↦ let yes = f.here inside in cc
            | inr past ↦ fresh_at bag k system ∙ closed_to bag.clock bag.lans bag.rows (kept (slice_get bag.frames k)) system (f.before k (omega (arith, lt)))
          ]
      | inr stale ↦ stale
    ]

-- the first open frame, and the least system that it is open to, are the least fresh pair
pub least_fresh : (bag : Bag) (place : ℕ) (frame : Frame) (least : ℕ) → IsFirstOpen bag.clock bag.lans bag.rows bag.frames place → kept (slice_get bag.frames place) ≡ Some frame → IsLeastOpen bag.clock bag.lans bag.rows frame (Some least) → IsLeastFresh (link_of bag) (Some (place + 1, least))
least_fresh bag place frame least f at l = (one_fresh, upward)
  where
    one : suc place ≡ place + 1
    one = omega arith

    one_fresh : IsTrue (is_fresh (link_of bag) (place + 1) least)
    one_fresh =
        ap (λ (pick : ℕ). is_fresh (link_of bag) pick least) (sym one)
        ∙ (fresh_at bag place least ∙ (ap (λ (slot : Option Frame). open_in bag.clock bag.lans bag.rows slot least) at ∙ l.0))

    upward : (pick system : ℕ) → IsTrue (is_fresh (link_of bag) pick system) → IsUpTo (place + 1, least) pick system
    upward zero system h = cc
    upward (suc k) system h =
        let opened = sym (fresh_at bag k system) ∙ h in
        elim (cases_lt k place) [
          | inl before ↦ let shut = closed_to bag.clock bag.lans bag.rows (kept (slice_get bag.frames k)) system (f.before k before) in cc
          | inr after ↦ elim (eqb_tells k place) [
            | inl same ↦
                inr (
                  omega (arith, same.1),
                  l.1 system (ap (λ (slot : Option Frame). open_in bag.clock bag.lans bag.rows slot system) (sym at) ∙ (ap (λ (i : ℕ). open_in bag.clock bag.lans bag.rows (kept (slice_get bag.frames i)) system) (sym same.1) ∙ opened)),
                )
            | inr other ↦ let ne : k ≢ place = other.1 in inl (omega (arith, after))
          ]
        ]

-- a frame that is open to no system is no open one
pub shut : (clock : ℕ) (lans : List Lan) (rows : List PortRow) (frame : Frame) → IsLeastOpen clock lans rows frame None → is_open clock lans rows (Some frame) ≡ false
shut clock lans rows frame h = none_open clock lans rows frame h rows

-- one row more among those that were looked at
pub among_more : (clock : ℕ) (lans : List Lan) (all : List PortRow) (frame : Frame) (rows : List PortRow) (i : ℕ) (row : PortRow) (least : Option ℕ) → i < length rows → row ≡ get_or rows i row → IsLeastAmong clock lans all frame (take i rows) least → is_open_at clock lans all frame row ≡ true → IsLeastAmong clock lans all frame (take (i + 1) rows) (Some (lesser_of least row.system))
among_more clock lans all frame rows i row None lt is h open_at = (
  opens (is_one_of frame.unit.to row) (is_open_to clock lans all frame row.system) open_at,
  All-more (λ (r : PortRow). is_open_at clock lans all frame r ≡ true → row.system ≤ r.system) rows i row lt
      (λ k d l e. let shut_here = h k d l in cc)
      (λ e. omega (arith, ap (λ (r : PortRow). r.system) is)),
)
among_more clock lans all frame rows i row (Some found) lt is h open_at = by_test (nat_lt found row.system) refl
  where
    by_test : (b : Bool) → nat_lt found row.system ≡ b → IsLeastAmong clock lans all frame (take (i + 1) rows) (Some (if b then found else row.system))
    by_test true e = (
      h.0,
      All-more (λ (r : PortRow). is_open_at clock lans all frame r ≡ true → found ≤ r.system) rows i row lt h.1
          (λ _. let less : found < row.system = grind (arith, nat_tests) in omega (arith, less, ap (λ (r : PortRow). r.system) is)),
    )
    by_test false e = (
      opens (is_one_of frame.unit.to row) (is_open_to clock lans all frame row.system) open_at,
      All-more (λ (r : PortRow). is_open_at clock lans all frame r ≡ true → row.system ≤ r.system) rows i row lt
          (λ k d l o. let less : row.system ≤ found = grind (arith, nat_tests) in omega (arith, less, h.1 k d l o))
          (λ _. omega (arith, ap (λ (r : PortRow). r.system) is)),
    )

pub among_same : (clock : ℕ) (lans : List Lan) (all : List PortRow) (frame : Frame) (rows : List PortRow) (i : ℕ) (row : PortRow) (least : Option ℕ) → i < length rows → row ≡ get_or rows i row → IsLeastAmong clock lans all frame (take i rows) least → is_open_at clock lans all frame row ≡ false → IsLeastAmong clock lans all frame (take (i + 1) rows) least
among_same clock lans all frame rows i row None lt is h closed =
    All-more (λ (r : PortRow). is_open_at clock lans all frame r ≡ false) rows i row lt h
    (sym (ap (λ (r : PortRow). is_open_at clock lans all frame r) is) ∙ closed)
among_same clock lans all frame rows i row (Some found) lt is h closed = (
  h.0,
  All-more (λ (r : PortRow). is_open_at clock lans all frame r ≡ true → found ≤ r.system) rows i row lt h.1
      (λ o. let e = ap (λ (r : PortRow). is_open_at clock lans all frame r) is in cc),
)

pub take_rows : (rows : List PortRow) (i : ℕ) → length rows ≤ i → take i rows ≡ rows
take_rows [] zero h = refl
take_rows [] (suc i) h = refl
take_rows (row ∷ rows) zero h = absurd (omega arith)
take_rows (row ∷ rows) (suc i) h = ap (λ (rs : List PortRow). row ∷ rs) (take_rows rows i (omega arith))

-- closed at equal frames
pub closed_same : (clock : ℕ) (lans : List Lan) (rows : List PortRow) (frames other : List (Option Frame)) (place : ℕ) → IsClosedTo clock lans rows frames place → other ≡ frames → IsClosedTo clock lans rows other place
closed_same clock lans rows frames other place h e = subst (λ (fs : List (Option Frame)). IsClosedTo clock lans rows fs place) (sym e) h

-- a frame that is open at no port is open to no system
pub open_nowhere : (clock : ℕ) (lans : List Lan) (rows : List PortRow) (frame : Frame) → list_any (is_open_at clock lans rows frame) rows ≡ false → IsLeastOpen clock lans rows frame None
open_nowhere clock lans rows frame h = none_at clock lans rows frame (none_each (λ (row : PortRow). is_open_at clock lans rows frame row) rows h)

-- the first frame that is open, as it is looked for

shut_slot : (clock : ℕ) (lans : List Lan) (rows : List PortRow) (slot : Option Frame) → IsLeastAt clock lans rows slot None → is_open clock lans rows slot ≡ false
shut_slot clock lans rows None h = refl
shut_slot clock lans rows (Some frame) h = shut clock lans rows frame h

open_slot_to : (clock : ℕ) (lans : List Lan) (rows : List PortRow) (slot : Option Frame) (least : ℕ) → IsLeastAt clock lans rows slot (Some least) → open_in clock lans rows slot least ≡ true
open_slot_to clock lans rows None least h = cc
open_slot_to clock lans rows (Some frame) least h = h.0

open_some : (clock : ℕ) (lans : List Lan) (rows : List PortRow) (slot : Option Frame) (least : ℕ) → IsLeastAt clock lans rows slot (Some least) → is_open clock lans rows slot ≡ true
open_some clock lans rows slot least h =
    elim (cases_Bool (is_open clock lans rows slot)) [
      | inl opened ↦ opened
      | inr closed ↦ let no = closed_to clock lans rows slot least closed in let yes = open_slot_to clock lans rows slot least h in cc
    ]

pub closed_more : (clock : ℕ) (lans : List Lan) (rows : List PortRow) (frames : List (Option Frame)) (place : ℕ) → IsClosedTo clock lans rows frames place → IsLeastAt clock lans rows (kept (slice_get frames place)) None → IsClosedTo clock lans rows frames (place + 1)
closed_more clock lans rows frames place closed h k lt =
    elim (eqb_tells k place) [
      | inl same ↦ ap (λ (j : ℕ). is_open clock lans rows (kept (slice_get frames j))) same.1 ∙ shut_slot clock lans rows (kept (slice_get frames place)) h
      | inr other ↦ let ne : k ≢ place = other.1 in closed k (omega (arith, lt))
    ]

pub fresh_here : (clock : ℕ) (lans : List Lan) (rows : List PortRow) (frames : List (Option Frame)) (place least : ℕ) → place < length frames → IsClosedTo clock lans rows frames place → IsLeastAt clock lans rows (kept (slice_get frames place)) (Some least) → IsFreshAt clock lans rows frames place (Some (place + 1, least))
fresh_here clock lans rows frames place least lt closed h = record {
  first = record { within = omega (arith, lt); before = closed; here = λ _. open_some clock lans rows (kept (slice_get frames place)) least h };
  pair = (refl, h);
}

nothing_past : {X : Type 0} (xs : List X) (k : ℕ) → length xs ≤ k → slice_get xs k ≡ None
nothing_past [] k h = refl
nothing_past (x ∷ xs) zero h = absurd (omega arith)
nothing_past (x ∷ xs) (suc k) h = nothing_past xs k (omega arith)

pub fresh_nowhere : (clock : ℕ) (lans : List Lan) (rows : List PortRow) (frames : List (Option Frame)) (place : ℕ) → place ≤ length frames → length frames ≤ place → IsClosedTo clock lans rows frames place → IsFreshAt clock lans rows frames place None
fresh_nowhere clock lans rows frames place within past closed = record {
  first = record { within = within; before = closed; here = λ lt. absurd (omega (arith, lt, past)) };
  pair = subst (λ (slot : Option (Option Frame)). IsPairAt clock lans rows place (kept slot) None) (sym (nothing_past frames place past)) refl;
}

-- where the frame behind the closed ones is the last and open to no system, no frame is open
pub fresh_last : (clock : ℕ) (lans : List Lan) (rows : List PortRow) (frames : List (Option Frame)) (place number : ℕ) → place + 1 ≡ number → length frames ≡ number → IsClosedTo clock lans rows frames place → IsLeastAt clock lans rows (frame_of frames number) None → IsFreshAt clock lans rows frames number None
fresh_last clock lans rows frames place number next last closed least =
    let at : number ≡ suc place = omega (arith, next) in
    let here : IsLeastAt clock lans rows (kept (slice_get frames place)) None = subst (λ (n : ℕ). IsLeastAt clock lans rows (frame_of frames n) None) at least in
    fresh_nowhere clock lans rows frames number (omega (arith, last)) (omega (arith, last))
    (subst (λ (n : ℕ). IsClosedTo clock lans rows frames n) next (closed_more clock lans rows frames place closed here))

-- what changes do to the first frame that is open, with its pair

-- the frame that was put behind the others has the last number
pub pushed_is : (frames after : List (Option Frame)) (sent : Frame) (number : ℕ) → after ≡ frames ++ Some sent ∷ [] → number ≡ length frames + 1 → (frame : Frame) → frame_of after number ≡ Some frame → frame ≡ sent
pushed_is frames after sent number pushed is frame at =
    let next : number ≡ suc (length frames) = omega (arith, is) in
    let same : Some sent ≡ Some frame =
    sym (ap kept (push_last frames (Some sent)))
    ∙ (ap (λ (fs : List (Option Frame)). frame_of fs (suc (length frames))) (sym pushed) ∙ (ap (λ (n : ℕ). frame_of after n) (sym next) ∙ at)) in
    let e : sent ≡ frame = cc in
    sym e

pub fresh_pushed : (clock : ℕ) (lans : List Lan) (rows : List PortRow) (frames : List (Option Frame)) (place number : ℕ) (next : Option (ℕ × ℕ)) (slot : Option Frame) → IsFreshAt clock lans rows frames place next → place + 1 ≢ number → number ≡ length frames + 1 → IsFreshAt clock lans rows (frames ++ slot ∷ []) place next
fresh_pushed clock lans rows frames place number next slot f other is =
    let inside : place < length frames = omega (arith, f.first.within) in
    record {
      first = first_pushed clock lans rows frames place number slot f.first other is;
      pair = subst (λ (o : Option (Option Frame)). IsPairAt clock lans rows place (kept o) next) (sym (push_kept frames slot place inside)) f.pair;
    }

other_marked : (frames : List (Option Frame)) (place i system : ℕ) (o : Option Frame) → place ≢ i → slice_get (marked_frame frames i system o) place ≡ slice_get frames place
other_marked frames place i system None other = refl
other_marked frames place i system (Some frame) other = set_other frames (Some (marked frame system)) i place other

other_still : (frames : List (Option Frame)) (place number system : ℕ) → place + 1 ≢ number → slice_get (marked_at frames number system) place ≡ slice_get frames place
other_still frames place zero system other = refl
other_still frames place (suc i) system other = other_marked frames place i system (kept (slice_get frames i)) (λ same. other (omega (arith, same)))

pub fresh_marked : (clock : ℕ) (lans : List Lan) (rows : List PortRow) (frames : List (Option Frame)) (place number system : ℕ) (next : Option (ℕ × ℕ)) → IsFreshAt clock lans rows frames place next → place + 1 ≢ number → IsFreshAt clock lans rows (marked_at frames number system) place next
fresh_marked clock lans rows frames place number system next f other = record {
  first = first_marked clock lans rows frames place number system f.first other;
  pair = subst (λ (o : Option (Option Frame)). IsPairAt clock lans rows place (kept o) next) (sym (other_still frames place number system other)) f.pair;
}

-- while a frame is live, its systems stay the same
same_open_to : (clock : ℕ) (lans : List Lan) (rows : List PortRow) (frame : Frame) (system : ℕ) → is_live (clock + 1) lans frame ≡ true → is_open_to (clock + 1) lans rows frame system ≡ is_open_to clock lans rows frame system
same_open_to clock lans rows frame system live =
    elim (cases_Bool (is_open_to clock lans rows frame system)) [
      | inl opened ↦ stays_open_to clock lans rows frame system live opened ∙ sym opened
      | inr closed ↦ less_sooner clock lans rows frame system closed ∙ sym closed
    ]

least_ticked : (clock : ℕ) (lans : List Lan) (rows : List PortRow) (frame : Frame) (least : Option ℕ) → is_live (clock + 1) lans frame ≡ true → IsLeastOpen clock lans rows frame least → IsLeastOpen (clock + 1) lans rows frame least
least_ticked clock lans rows frame None live h = λ system. same_open_to clock lans rows frame system live ∙ h system
least_ticked clock lans rows frame (Some least) live h = (
  same_open_to clock lans rows frame least live ∙ h.0,
  λ system opened. h.1 system (sym (same_open_to clock lans rows frame system live) ∙ opened),
)

least_kept : (clock : ℕ) (lans : List Lan) (rows : List PortRow) (slot : Option Frame) (least : Option ℕ) → IsSome (kept_at (clock + 1) lans slot) → IsLeastAt clock lans rows slot least → IsLeastAt (clock + 1) lans rows (kept_at (clock + 1) lans slot) least
least_kept clock lans rows None least some h = cc
least_kept clock lans rows (Some frame) least some h = by_live (is_live (clock + 1) lans frame) refl some
  where
    by_live : (b : Bool) → is_live (clock + 1) lans frame ≡ b → IsSome (if b then Some frame else None) → IsLeastAt (clock + 1) lans rows (if b then Some frame else None) least
    by_live true live some_frame = least_ticked clock lans rows frame least live h
    by_live false late some_frame = cc

pair_kept : (clock : ℕ) (lans : List Lan) (rows : List PortRow) (place : ℕ) (slot : Option Frame) (next : Option (ℕ × ℕ)) → IsSome (kept_at (clock + 1) lans slot) → IsPairAt clock lans rows place slot next → IsPairAt (clock + 1) lans rows place (kept_at (clock + 1) lans slot) next
pair_kept clock lans rows place slot None some h = least_kept clock lans rows slot None some h
pair_kept clock lans rows place slot (Some pair) some h = (h.0, least_kept clock lans rows slot (Some pair.1) some h.1)

pub fresh_ticked : (clock : ℕ) (lans : List Lan) (rows : List PortRow) (frames : List (Option Frame)) (place : ℕ) (next : Option (ℕ × ℕ)) → IsFreshAt clock lans rows frames place next → IsSome (kept (slice_get (map (kept_at (clock + 1) lans) frames) place)) → IsFreshAt (clock + 1) lans rows (map (kept_at (clock + 1) lans) frames) place next
fresh_ticked clock lans rows frames place next f some = record {
  first = first_ticked clock lans rows frames place f.first some;
  pair = subst (λ (slot : Option Frame). IsPairAt (clock + 1) lans rows place slot next) (sym (kept_places (clock + 1) lans frames place))
      (pair_kept clock lans rows place (kept (slice_get frames place)) next (subst IsSome (kept_places (clock + 1) lans frames place) some) f.pair);
}

-- the same at equal frames
pub fresh_same : (clock : ℕ) (lans : List Lan) (rows : List PortRow) (frames other : List (Option Frame)) (place : ℕ) (next : Option (ℕ × ℕ)) → IsFreshAt clock lans rows frames place next → other ≡ frames → IsFreshAt clock lans rows other place next
fresh_same clock lans rows frames other place next h e = subst (λ (fs : List (Option Frame)). IsFreshAt clock lans rows fs place next) (sym e) h

-- the pair is the least fresh one
pub pair_fresh : (bag : Bag) (place : ℕ) (next : Option (ℕ × ℕ)) → IsFreshAt bag.clock bag.lans bag.rows bag.frames place next → IsLeastFresh (link_of bag) next
pair_fresh bag place None f = none_fresh bag place f.first (shut_slot bag.clock bag.lans bag.rows (kept (slice_get bag.frames place)) f.pair)
pair_fresh bag place (Some pair) f =
    subst (λ (number : ℕ). IsLeastFresh (link_of bag) (Some (number, pair.1))) (sym f.pair.0) (at_slot (kept (slice_get bag.frames place)) refl f.pair.1)
  where
    at_slot : (slot : Option Frame) → kept (slice_get bag.frames place) ≡ slot → IsLeastAt bag.clock bag.lans bag.rows slot (Some pair.1) → IsLeastFresh (link_of bag) (Some (place + 1, pair.1))
    at_slot None at h = cc
    at_slot (Some frame) at h = least_fresh bag place frame pair.1 f.first at h
