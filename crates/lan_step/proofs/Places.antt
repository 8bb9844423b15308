-- What stands at each place of a list of frames after each change, and which pairs and units that means.
use Rattle.std.proofs.Common.{◌≡◌, ◌⊎◌, inl, inr, get_or, ℕ, zero, suc, ◌+◌, ◌<◌, Bool, true, false, not, ◌||◌, ◌==◌, IsTrue, is_some, if◌then◌else◌, List, [], ◌∷◌, ◌++◌, length, map, set, refl, sym, ◌∙◌, ap, subst, arith, Option, Some, None, slice_get, flat_map, Contains}
use Rattle.std.specs.List.{list_any}
use Rattle.std.proofs.Math.Bool.{or-false}
use Rattle.std.proofs.lemmas.Bool.Decides.{nat_tests, eqb_tells}
use Rattle.std.proofs.lemmas.List.Folds.{list_any-append}
use Rattle.std.proofs.lemmas.List.Elements.{Contains-append_right}
use Rattle.osi_base.specs.declared.unit.Unit.{Unit as CarriedUnit}
use Rattle.osi_base.specs.declared.unit.Picked.TheVariants.{NoSuch}
use Rattle.nsap.specs.declared.port.Port.{Port}
use Rattle.lan_step.specs.declared.row.Lan.{Lan}
use Rattle.lan_step.specs.declared.row.PortRow.{PortRow}
use Rattle.lan_step.specs.Frames.{Frame, kept, has_taken, marked, is_live, is_taken, picked, picked_late, kept_at}
use Rattle.lan_step.specs.Bag.{entry_of}

-- a place behind one more element is as before, or is that of the new one
pub push_cases : {X : Type 0} (xs : List X) (y : X) (k : ℕ) → (slice_get (xs ++ y ∷ []) k ≡ slice_get xs k) ⊎ ((slice_get xs k ≡ None) × (slice_get (xs ++ y ∷ []) k ≡ Some y))
push_cases [] y zero = inr (refl, refl)
push_cases [] y (suc k) = inl refl
push_cases (x ∷ xs) y zero = inl refl
push_cases (x ∷ xs) y (suc k) = push_cases xs y k

-- what stood at a place stands there behind one more element
pub push_before : {X : Type 0} (xs : List X) (y x : X) (k : ℕ) → slice_get xs k ≡ Some x → slice_get (xs ++ y ∷ []) k ≡ Some x
push_before [] y x k h = cc
push_before (z ∷ xs) y x zero h = h
push_before (z ∷ xs) y x (suc k) h = push_before xs y x k h

pub push_last : {X : Type 0} (xs : List X) (y : X) → slice_get (xs ++ y ∷ []) (length xs) ≡ Some y
push_last [] y = refl
push_last (x ∷ xs) y = push_last xs y

pub set_same : {X : Type 0} (xs : List X) (y x : X) (k : ℕ) → slice_get xs k ≡ Some x → slice_get (set xs k y) k ≡ Some y
set_same [] y x k h = cc
set_same (z ∷ xs) y x zero h = refl
set_same (z ∷ xs) y x (suc k) h = set_same xs y x k h

pub set_other : {X : Type 0} (xs : List X) (y : X) (i k : ℕ) → (k ≡ i → ⊥) → slice_get (set xs i y) k ≡ slice_get xs k
set_other [] y i k h = refl
set_other (x ∷ xs) y zero zero h = absurd (h refl)
set_other (x ∷ xs) y zero (suc k) h = refl
set_other (x ∷ xs) y (suc i) zero h = refl
set_other (x ∷ xs) y (suc i) (suc k) h = set_other xs y i k (λ e. h (ap suc e))

-- what is kept of the frames is kept of the one at each place
pub kept_places : (clock : ℕ) (lans : List Lan) (frames : List (Option Frame)) (k : ℕ) → kept (slice_get (map (kept_at clock lans) frames) k) ≡ kept_at clock lans (kept (slice_get frames k))
kept_places clock lans [] k = refl
kept_places clock lans (frame ∷ frames) zero = refl
kept_places clock lans (frame ∷ frames) (suc k) = kept_places clock lans frames k

-- a system may take the frame
abbrev pub takes_in : ℕ → List Lan → List PortRow → Option Frame → ℕ → Bool
takes_in clock lans rows frame system = is_taken (picked_late clock lans rows system frame)

-- whether a choice would be taken depends on what stands at the place alone
pub takes_at : (clock : ℕ) (lans : List Lan) (rows : List PortRow) (frames : List (Option Frame)) (k system : ℕ) → is_taken (picked clock lans rows frames (suc k) system) ≡ takes_in clock lans rows (kept (slice_get frames k)) system
takes_at clock lans rows frames k system = takes_slot clock lans rows (slice_get frames k) system
  where
    takes_slot : (clock : ℕ) (lans : List Lan) (rows : List PortRow) (slot : Option (Option Frame)) (system : ℕ) → is_taken (if not (is_some slot) then NoSuch else picked_late clock lans rows system (kept slot)) ≡ takes_in clock lans rows (kept slot) system
    takes_slot clock lans rows None system = refl
    takes_slot clock lans rows (Some frame) system = refl

-- a frame that a system may take is live
pub takes_live : (clock : ℕ) (lans : List Lan) (rows : List PortRow) (frame : Frame) (system : ℕ) → IsTrue (takes_in clock lans rows (Some frame) system) → is_live clock lans frame ≡ true
takes_live clock lans rows frame system h = grind (arith, nat_tests)

-- a frame that may be taken at the next tick may be taken now
pub takes_sooner : (clock : ℕ) (lans : List Lan) (rows : List PortRow) (frame : Frame) (system : ℕ) → IsTrue (takes_in (clock + 1) lans rows (Some frame) system) → IsTrue (takes_in clock lans rows (Some frame) system)
takes_sooner clock lans rows frame system h = grind (arith, nat_tests)

turned : (m n : ℕ) → (m == n) ≡ (n == m)
turned m n = grind (arith, nat_tests)

marked_again : (takers : List ℕ) (marker system : ℕ) → list_any (λ taker. taker == marker) takers ≡ true → list_any (λ taker. taker == system) takers ≡ (list_any (λ taker. taker == system) takers || system == marker)
marked_again takers marker system h =
    elim (eqb_tells system marker) [
      | inl same ↦
          rw same.0 (subst (λ (s : ℕ). list_any (λ taker. taker == s) takers ≡ (list_any (λ taker. taker == s) takers || true)) (sym same.1) (rw h refl))
      | inr other ↦ rw other.0 (sym (or-false (list_any (λ taker. taker == system) takers)))
    ]

marked_more : (takers : List ℕ) (marker system : ℕ) → list_any (λ taker. taker == system) (takers ++ marker ∷ []) ≡ (list_any (λ taker. taker == system) takers || system == marker)
marked_more takers marker system =
    list_any-append (λ taker. taker == system) takers (marker ∷ [])
    ∙ ap (λ (b : Bool). list_any (λ taker. taker == system) takers || b) (or-false (marker == system) ∙ turned marker system)

marked_list : (takers : List ℕ) (marker system : ℕ) (b : Bool) → list_any (λ taker. taker == marker) takers ≡ b → list_any (λ taker. taker == system) (if b then takers else takers ++ marker ∷ []) ≡ (list_any (λ taker. taker == system) takers || system == marker)
marked_list takers marker system true h = marked_again takers marker system h
marked_list takers marker system false h = marked_more takers marker system

-- a system has taken a marked frame where it had, or is the one that marked it
pub marked_by : (frame : Frame) (marker system : ℕ) → has_taken (marked frame marker) system ≡ (has_taken frame system || system == marker)
marked_by frame marker system = marked_list frame.taken marker system (has_taken frame marker) refl

-- the unit of a frame that stands somewhere
pub record Floats (frames : List (Option Frame)) (entry : ℕ × CarriedUnit Port) : Type 0 where
  pub place : ℕ
  pub frame : Frame
  pub at : kept (slice_get frames place) ≡ Some frame
  pub is : entry ≡ (frame.tick, frame.unit)

floats_at : (frames : List (Option Frame)) (entry : ℕ × CarriedUnit Port) (k : ℕ) → k < length (flat_map entry_of frames) → get_or (flat_map entry_of frames) k entry ≡ entry → Floats frames entry
floats_at [] entry k l e = absurd (omega arith)
floats_at (None ∷ frames) entry k l e =
    let rest = floats_at frames entry k l e in
    record { place = suc rest.place; frame = rest.frame; at = rest.at; is = rest.is }
floats_at (Some frame ∷ frames) entry zero l e = record { place = zero; frame = frame; at = refl; is = sym e }
floats_at (Some frame ∷ frames) entry (suc k) l e =
    let rest = floats_at frames entry k (omega arith) e in
    record { place = suc rest.place; frame = rest.frame; at = rest.at; is = rest.is }

pub floats : (frames : List (Option Frame)) (entry : ℕ × CarriedUnit Port) → Contains (flat_map entry_of frames) entry → Floats frames entry
floats frames entry h = floats_at frames entry h.0 h.1 h.2

first_in : (other frame : Frame) (rest : List (ℕ × CarriedUnit Port)) → other ≡ frame → Contains ((other.tick, other.unit) ∷ rest) (frame.tick, frame.unit)
first_in other frame rest e = (0, omega arith, ap (λ (f : Frame). (f.tick, f.unit)) e)

pub in_floating : (frames : List (Option Frame)) (k : ℕ) (frame : Frame) → kept (slice_get frames k) ≡ Some frame → Contains (flat_map entry_of frames) (frame.tick, frame.unit)
in_floating [] k frame h = cc
in_floating (None ∷ frames) zero frame h = cc
in_floating (Some other ∷ frames) zero frame h = first_in other frame (flat_map entry_of frames) (let e : other ≡ frame = cc in e)
in_floating (None ∷ frames) (suc k) frame h = in_floating frames k frame h
in_floating (Some other ∷ frames) (suc k) frame h =
    Contains-append_right ((other.tick, other.unit) ∷ []) (flat_map entry_of frames) (frame.tick, frame.unit) (in_floating frames k frame h)

-- what is kept was there
pub kept_was : (clock : ℕ) (lans : List Lan) (slot : Option Frame) (frame : Frame) → kept_at clock lans slot ≡ Some frame → slot ≡ Some frame
kept_was clock lans None frame h = cc
kept_was clock lans (Some other) frame h = if_kept (is_live clock lans other) other frame h
  where
    if_kept : (b : Bool) (other frame : Frame) → (if b then Some other else None) ≡ Some frame → Some other ≡ Some frame
    if_kept true other frame h = h
    if_kept false other frame h = cc

-- what is live is kept
pub live_kept : (clock : ℕ) (lans : List Lan) (frame : Frame) → is_live clock lans frame ≡ true → kept_at clock lans (Some frame) ≡ Some frame
live_kept clock lans frame h = ap (λ (b : Bool). if b then Some frame else None) h

-- where a pair can be taken, a frame stands
pub takes_some : (clock : ℕ) (lans : List Lan) (rows : List PortRow) (slot : Option (Option Frame)) (system : ℕ) → takes_in clock lans rows (kept slot) system ≡ true → (frame : Frame) × (slot ≡ Some (Some frame))
takes_some clock lans rows None system h = cc
takes_some clock lans rows (Some None) system h = cc
takes_some clock lans rows (Some (Some frame)) system h = (frame, refl)

-- an entry of the list before is one of the list after, where a frame with its tick and unit stands
pub entry_stands : (new : List (Option Frame)) (entry : ℕ × CarriedUnit Port) (k : ℕ) (frame other : Frame) → entry ≡ (frame.tick, frame.unit) → kept (slice_get new k) ≡ Some other → other.tick ≡ frame.tick → other.unit ≡ frame.unit → Contains (flat_map entry_of new) entry
entry_stands new entry k frame other is at t u =
    subst (λ (e : ℕ × CarriedUnit Port). Contains (flat_map entry_of new) e) (pair_is other.tick frame.tick other.unit frame.unit t u ∙ sym is) (in_floating new k other at)
  where
    pair_is : (a b : ℕ) (u v : CarriedUnit Port) → a ≡ b → u ≡ v → ◌≡◌ {A = ℕ × CarriedUnit Port} (a, u) (b, v)
    pair_is a b u v p q = λ i. (p i, q i)
