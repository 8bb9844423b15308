-- The wheel through each change: a frame keeps its place in a list for the ticks that are left to it, so the frames that the
-- next tick makes late stand in the first list. To give up the late ones among these places is to give up all that are late.
use Rattle.std.proofs.Common.{◌≡◌, ◌≢◌, inl, inr, get_or, ℕ, zero, suc, ◌+◌, ◌<◌, Bool, true, false, nat_le, if◌then◌else◌, List, [], ◌∷◌, ◌++◌, length, map, drop, set, refl, sym, ◌∙◌, ap, subst, arith, Option, Some, None, slice_get, Contains, Result, Ok, Err, OnErr}
use Rattle.std.proofs.lemmas.Bool.{false≢true, cases_Bool}
use Rattle.std.proofs.lemmas.Bool.Decides.{nat_tests, eqb_tells}
use Rattle.std.proofs.lemmas.List.{get_or-set_same, drop_more}
use Rattle.std.proofs.lemmas.List.Elements.{Contains-push, Contains-append_left}
use Rattle.osi_base.specs.declared.unit.Unit.{Unit as CarriedUnit}
use Rattle.nsap.specs.declared.port.Port.{Port}
use Rattle.lan_step.specs.declared.row.Lan.{Lan}
use Rattle.lan_step.specs.Rows.{bound_on}
use Rattle.lan_step.specs.Frames.{Frame, kept, kept_at, is_live, marked, marked_frame, marked_at}
use Rattle.lan_step.proofs.Places.{push_cases, set_same, set_other, kept_places, kept_was, live_kept}
use Rattle.lan_bag.specs.steps.Wheel.{list_at, listed, turned, IsDue, AreDue, AreLateAmong, given_up_at}

pub on_err : {T E P : Type 0} (r : Result T E) → P → OnErr r P
on_err (Ok x) p = tt
on_err (Err e) p = p

pub stands : {X : Type 0} (xs : List X) (i : ℕ) → i < length xs → None ≡ slice_get xs i → ⊥
stands [] i lt h = absurd (omega (arith, lt))
stands (x ∷ xs) zero lt h = cc
stands (x ∷ xs) (suc i) lt h = stands xs i (omega (arith, lt)) h

nothing : {X : Type 0} {x : X} → Contains [] x → ⊥
nothing h = absurd (omega (arith, h.1))

behind_first : (first : ℕ) (places : List ℕ) (place : ℕ) → place ≢ first → Contains (first ∷ places) place → Contains places place
behind_first first places place other (zero, lt, is) = absurd (other (sym is))
behind_first first places place other (suc k, lt, is) = (k, omega (arith, lt), is)

-- what is left to a frame at the next tick

late_now : (clock last : ℕ) → clock + 0 ≡ last → nat_le (clock + 1) last ≡ false
late_now clock last e = grind (arith, nat_tests)

live_now : (clock ticks last : ℕ) → clock + suc ticks ≡ last → nat_le (clock + 1) last ≡ true
live_now clock ticks last e = grind (arith, nat_tests)

-- what is kept is live
pub kept_live : (clock : ℕ) (lans : List Lan) (slot : Option Frame) (frame : Frame) → kept_at clock lans slot ≡ Some frame → is_live clock lans frame ≡ true
kept_live clock lans None frame h = cc
kept_live clock lans (Some other) frame h = if_live (is_live clock lans other) refl h
  where
    if_live : (b : Bool) → is_live clock lans other ≡ b → (if b then Some other else None) ≡ Some frame → is_live clock lans frame ≡ true
    if_live true live e = let same : other ≡ frame = cc in ap (is_live clock lans) (sym same) ∙ live
    if_live false late e = cc

kept_twice : (clock : ℕ) (lans : List Lan) (slot : Option Frame) → kept_at clock lans (kept_at clock lans slot) ≡ kept_at clock lans slot
kept_twice clock lans None = refl
kept_twice clock lans (Some frame) = if_live (is_live clock lans frame) refl
  where
    if_live : (b : Bool) → is_live clock lans frame ≡ b → kept_at clock lans (if b then Some frame else None) ≡ (if b then Some frame else None)
    if_live true live = live_kept clock lans frame live
    if_live false late = refl

-- a place in a list

pub listed_here : (wheel : List (List ℕ)) (ticks place : ℕ) → ticks < length wheel → Contains (list_at (listed wheel ticks place) ticks) place
listed_here wheel ticks place lt =
    subst (λ (places : List ℕ). Contains places place) (sym (get_or-set_same wheel ticks (list_at wheel ticks ++ place ∷ []) [] lt)) (Contains-push (list_at wheel ticks) place)

-- a list that is exchanged for one that has all its places
set_more : (wheel : List (List ℕ)) (i k place : ℕ) (list : List ℕ) → (Contains (list_at wheel i) place → Contains list place) → Contains (list_at wheel k) place → Contains (list_at (set wheel i list) k) place
set_more [] i k place list more h = h
set_more (first ∷ wheel) zero zero place list more h = more h
set_more (first ∷ wheel) zero (suc k) place list more h = h
set_more (first ∷ wheel) (suc i) zero place list more h = h
set_more (first ∷ wheel) (suc i) (suc k) place list more h = set_more wheel i k place list more h

pub listed_still : (wheel : List (List ℕ)) (ticks k place more : ℕ) → Contains (list_at wheel k) place → Contains (list_at (listed wheel ticks more) k) place
listed_still wheel ticks k place more h =
    set_more wheel ticks k place (list_at wheel ticks ++ more ∷ []) (λ c. Contains-append_left (list_at wheel ticks) (more ∷ []) place c) h

behind : (wheel : List (List ℕ)) (k place : ℕ) → Contains (list_at wheel k) place → Contains (list_at (wheel ++ [] ∷ []) k) place
behind [] k place h = absurd (omega (arith, h.1))
behind (first ∷ wheel) zero place h = h
behind (first ∷ wheel) (suc k) place h = behind wheel k place h

pub turned_still : (wheel : List (List ℕ)) (k place : ℕ) → Contains (list_at wheel (suc k)) place → Contains (list_at (turned wheel) k) place
turned_still [] k place h = absurd (omega (arith, h.1))
turned_still (first ∷ wheel) k place h = behind wheel k place h

-- each change

pub past_last : {X : Type 0} (xs : List X) (y : X) (k : ℕ) → slice_get xs k ≡ None → slice_get (xs ++ y ∷ []) k ≡ Some y → k ≡ length xs
past_last [] y zero n h = refl
past_last [] y (suc k) n h = cc
past_last (x ∷ xs) y zero n h = cc
past_last (x ∷ xs) y (suc k) n h = ap suc (past_last xs y k n h)

pub due_pushed : (clock : ℕ) (lans : List Lan) (frames : List (Option Frame)) (wheel : List (List ℕ)) (frame : Frame) → AreDue clock lans frames wheel → frame.tick ≡ clock → bound_on lans frame.unit.to.lan < length wheel → AreDue clock lans (frames ++ Some frame ∷ []) (listed wheel (bound_on lans frame.unit.to.lan) (length frames))
due_pushed clock lans frames wheel frame due sent lt place other at =
    let bound : ℕ = bound_on lans frame.unit.to.lan in
    elim (push_cases frames (Some frame) place) [
      | inl same ↦
          let before = due place other (ap kept (sym same) ∙ at) in
          record { ticks = before.ticks; left = before.left; listed = listed_still wheel bound before.ticks place (length frames) before.listed }
      | inr last ↦
          let is : frame ≡ other = cc (ap kept last.1, at) in
          subst (λ (f : Frame). IsDue clock lans (listed wheel bound (length frames)) place f) is
          (subst (λ (k : ℕ). IsDue clock lans (listed wheel bound (length frames)) k frame) (sym (past_last frames (Some frame) place last.0 last.1))
          (record { ticks = bound; left = ap (λ (t : ℕ). t + bound) (sym sent); listed = listed_here wheel bound (length frames) lt }))
    ]

due_marked_at : (clock : ℕ) (lans : List Lan) (frames : List (Option Frame)) (wheel : List (List ℕ)) (i system : ℕ) (o : Option (Option Frame)) → slice_get frames i ≡ o → AreDue clock lans frames wheel → AreDue clock lans (marked_frame frames i system (kept o)) wheel
due_marked_at clock lans frames wheel i system None stands due = due
due_marked_at clock lans frames wheel i system (Some None) stands due = due
due_marked_at clock lans frames wheel i system (Some (Some marks)) stands due = λ place frame at.
    elim (eqb_tells place i) [
      | inl same ↦
          let here : kept (slice_get (set frames i (Some (marked marks system))) i) ≡ Some frame = ap (λ (k : ℕ). kept (slice_get (set frames i (Some (marked marks system))) k)) (sym same.1) ∙ at in
          let is : marked marks system ≡ frame = cc (ap kept (set_same frames (Some (marked marks system)) (Some marks) i stands), here) in
          let before = due i marks (ap kept stands) in
          subst (λ (f : Frame). IsDue clock lans wheel place f) is
          (subst (λ (k : ℕ). IsDue clock lans wheel k (marked marks system)) (sym same.1)
          (record { ticks = before.ticks; left = before.left; listed = before.listed }))
      | inr other ↦ due place frame (ap kept (sym (set_other frames (Some (marked marks system)) i place other.1)) ∙ at)
    ]

pub due_listed : (clock : ℕ) (lans : List Lan) (frames : List (Option Frame)) (wheel : List (List ℕ)) (ticks more : ℕ) → AreDue clock lans frames wheel → AreDue clock lans frames (listed wheel ticks more)
due_listed clock lans frames wheel ticks more due place frame at =
    let before = due place frame at in
    record { ticks = before.ticks; left = before.left; listed = listed_still wheel ticks before.ticks place more before.listed }

pub due_marked : (clock : ℕ) (lans : List Lan) (frames : List (Option Frame)) (wheel : List (List ℕ)) (number system : ℕ) → AreDue clock lans frames wheel → AreDue clock lans (marked_at frames number system) wheel
due_marked clock lans frames wheel zero system due = due
due_marked clock lans frames wheel (suc i) system due = due_marked_at clock lans frames wheel i system (slice_get frames i) refl due

pub due_ticked : (clock : ℕ) (lans : List Lan) (frames : List (Option Frame)) (wheel : List (List ℕ)) → AreDue clock lans frames wheel → AreDue (clock + 1) lans (map (kept_at (clock + 1) lans) frames) (turned wheel)
due_ticked clock lans frames wheel due place frame at =
    let stands : kept_at (clock + 1) lans (kept (slice_get frames place)) ≡ Some frame = sym (kept_places (clock + 1) lans frames place) ∙ at in
    let before = due place frame (kept_was (clock + 1) lans (kept (slice_get frames place)) frame stands) in
    one_less before.ticks before.left before.listed (kept_live (clock + 1) lans (kept (slice_get frames place)) frame stands)
  where
    one_less : (ticks : ℕ) → clock + ticks ≡ frame.tick + bound_on lans frame.unit.to.lan → Contains (list_at wheel ticks) place → is_live (clock + 1) lans frame ≡ true → IsDue (clock + 1) lans (turned wheel) place frame
    one_less zero left here live = absurd (false≢true (sym (late_now clock (frame.tick + bound_on lans frame.unit.to.lan) left) ∙ live))
    one_less (suc ticks) left here live = record { ticks = ticks; left = omega (arith, left); listed = turned_still wheel ticks place here }

pub late_listed : (clock : ℕ) (lans : List Lan) (frames : List (Option Frame)) (wheel : List (List ℕ)) → AreDue clock lans frames wheel → AreLateAmong (clock + 1) lans (list_at wheel 0) frames
late_listed clock lans frames wheel due place frame at late =
    let here = due place frame at in
    in_first here.ticks here.left here.listed
  where
    in_first : (ticks : ℕ) → clock + ticks ≡ frame.tick + bound_on lans frame.unit.to.lan → Contains (list_at wheel ticks) place → Contains (list_at wheel 0) place
    in_first zero left here = here
    in_first (suc ticks) left here = absurd (false≢true (sym late ∙ live_now clock ticks (frame.tick + bound_on lans frame.unit.to.lan) left))

-- the late frames among these places are given up

pub given_up_same : (clock : ℕ) (lans : List Lan) (frames : List (Option Frame)) (place : ℕ) → map (kept_at clock lans) (given_up_at clock lans frames place) ≡ map (kept_at clock lans) frames
given_up_same clock lans [] place = refl
given_up_same clock lans (frame ∷ frames) zero = ap (λ (slot : Option Frame). slot ∷ map (kept_at clock lans) frames) (kept_twice clock lans frame)
given_up_same clock lans (frame ∷ frames) (suc place) = ap (λ (slots : List (Option Frame)). kept_at clock lans frame ∷ slots) (given_up_same clock lans frames place)

given_up_here : (clock : ℕ) (lans : List Lan) (frames : List (Option Frame)) (place : ℕ) → kept (slice_get (given_up_at clock lans frames place) place) ≡ kept_at clock lans (kept (slice_get frames place))
given_up_here clock lans [] place = refl
given_up_here clock lans (frame ∷ frames) zero = refl
given_up_here clock lans (frame ∷ frames) (suc place) = given_up_here clock lans frames place

pub late_among_rest : (clock : ℕ) (lans : List Lan) (first : ℕ) (places : List ℕ) (frames : List (Option Frame)) → AreLateAmong clock lans (first ∷ places) frames → AreLateAmong clock lans places (given_up_at clock lans frames first)
late_among_rest clock lans first places frames among place frame at late =
    elim (eqb_tells place first) [
      | inl same ↦
          let here : kept_at clock lans (kept (slice_get frames first)) ≡ Some frame =
          sym (given_up_here clock lans frames first) ∙ (ap (λ (k : ℕ). kept (slice_get (given_up_at clock lans frames first) k)) (sym same.1) ∙ at) in
          absurd (false≢true (sym late ∙ kept_live clock lans (kept (slice_get frames first)) frame here))
      | inr other ↦
          behind_first first places place other.1
          (among place frame (ap kept (sym (set_other frames (kept_at clock lans (kept (slice_get frames first))) first place other.1)) ∙ at) late)
    ]

none_is_late : (clock : ℕ) (lans : List Lan) (frames : List (Option Frame)) → ((place : ℕ) (frame : Frame) → kept (slice_get frames place) ≡ Some frame → is_live clock lans frame ≡ false → ⊥) → map (kept_at clock lans) frames ≡ frames
none_is_late clock lans [] none = refl
none_is_late clock lans (None ∷ frames) none =
    ap (λ (slots : List (Option Frame)). None ∷ slots) (none_is_late clock lans frames (λ place frame at late. none (suc place) frame at late))
none_is_late clock lans (Some frame ∷ frames) none =
    let live : is_live clock lans frame ≡ true = elim (cases_Bool (is_live clock lans frame)) [ inl lives ↦ lives | inr late ↦ absurd (none zero frame refl late) ] in
    ap (λ (slots : List (Option Frame)). kept_at clock lans (Some frame) ∷ slots) (none_is_late clock lans frames (λ place other at late. none (suc place) other at late))
    ∙ ap (λ (slot : Option Frame). slot ∷ frames) (live_kept clock lans frame live)

pub none_late : (clock : ℕ) (lans : List Lan) (frames : List (Option Frame)) → AreLateAmong clock lans [] frames → map (kept_at clock lans) frames ≡ frames
none_late clock lans frames among = none_is_late clock lans frames (λ place frame at late. nothing (among place frame at late))

-- one turn of the loop over the places
pub one_given_up : (clock : ℕ) (lans : List Lan) (initial frames after : List (Option Frame)) (places : List ℕ) (i : ℕ) → i < length places → after ≡ given_up_at clock lans frames (get_or places i 0) → AreLateAmong clock lans (drop i places) frames → map (kept_at clock lans) frames ≡ map (kept_at clock lans) initial
    → AreLateAmong clock lans (drop (i + 1) places) after × (map (kept_at clock lans) after ≡ map (kept_at clock lans) initial)
one_given_up clock lans initial frames after places i lt is among same =
    let first : ℕ = get_or places i 0 in (
      subst (λ (fs : List (Option Frame)). AreLateAmong clock lans (drop (i + 1) places) fs) (sym is)
          (late_among_rest clock lans first (drop (i + 1) places) frames (subst (λ (ps : List ℕ). AreLateAmong clock lans ps frames) (drop_more places i 0 lt) among)),
      ap (map (kept_at clock lans)) is ∙ (given_up_same clock lans frames first ∙ same),
    )

-- the same, as the calls tell it

pub late_same : (clock : ℕ) (lans : List Lan) (places other : List ℕ) (frames : List (Option Frame)) → AreLateAmong clock lans places frames → other ≡ places → AreLateAmong clock lans other frames
late_same clock lans places other frames among e = subst (λ (ps : List ℕ). AreLateAmong clock lans ps frames) (sym e) among

pub due_same : (clock : ℕ) (lans : List Lan) (frames other_frames : List (Option Frame)) (wheel other_wheel : List (List ℕ)) → AreDue clock lans frames wheel → other_frames ≡ frames → other_wheel ≡ wheel → AreDue clock lans other_frames other_wheel
due_same clock lans frames other_frames wheel other_wheel due f w =
    subst (λ (fs : List (Option Frame)). AreDue clock lans fs other_wheel) (sym f)
    (subst (λ (ws : List (List ℕ)). AreDue clock lans frames ws) (sym w) due)

-- an offer that is taken
pub due_offered : (clock : ℕ) (lans : List Lan) (frames after : List (Option Frame)) (wheel fuller : List (List ℕ)) (frame : Frame) (unit : CarriedUnit Port) (ticks place : ℕ) → AreDue clock lans frames wheel → frame ≡ record { tick = clock; unit = unit; taken = [] } → ticks ≡ bound_on lans unit.to.lan → place ≡ length frames → ticks < 17 → length wheel ≡ 17 → fuller ≡ listed wheel ticks place → after ≡ frames ++ Some frame ∷ [] → AreDue clock lans after fuller
due_offered clock lans frames after wheel fuller frame unit ticks place due is t p lt long w a =
    let same_bound : ticks ≡ bound_on lans frame.unit.to.lan = t ∙ ap (λ (f : Frame). bound_on lans f.unit.to.lan) (sym is) in
    let fits : bound_on lans frame.unit.to.lan < length wheel = omega (arith, same_bound, lt, long) in
    let sent : frame.tick ≡ clock = ap (λ (f : Frame). f.tick) is in
    due_same clock lans (frames ++ Some frame ∷ []) after (listed wheel (bound_on lans frame.unit.to.lan) (length frames)) fuller
    (due_pushed clock lans frames wheel frame due sent fits) a (w ∙ (ap (λ (b : ℕ). listed wheel b place) same_bound ∙ ap (λ (k : ℕ). listed wheel (bound_on lans frame.unit.to.lan) k) p))

-- the wheel as lists

module _ {X : Type 0} (f : X → List ℕ) where
  pub set_unchanged : (lists : List X) (i : ℕ) (old new : X) → slice_get lists i ≡ Some old → f new ≡ f old → map f (set lists i new) ≡ map f lists
  set_unchanged [] i old new h e = cc
  set_unchanged (first ∷ lists) zero old new h e = let is : first ≡ old = cc in ap (λ (list : List ℕ). list ∷ map f lists) (e ∙ ap f (sym is))
  set_unchanged (first ∷ lists) (suc i) old new h e = ap (λ (wheel : List (List ℕ)). f first ∷ wheel) (set_unchanged lists i old new h e)

  pub set_listed : (lists : List X) (i place : ℕ) (old new : X) → slice_get lists i ≡ Some old → f new ≡ f old ++ place ∷ [] → map f (set lists i new) ≡ listed (map f lists) i place
  set_listed [] i place old new h e = cc
  set_listed (first ∷ lists) zero place old new h e = let is : first ≡ old = cc in ap (λ (list : List ℕ). list ∷ map f lists) (e ∙ ap (λ (x : X). f x ++ place ∷ []) (sym is))
  set_listed (first ∷ lists) (suc i) place old new h e = ap (λ (wheel : List (List ℕ)). f first ∷ wheel) (set_listed lists i place old new h e)
