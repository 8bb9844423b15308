-- Each frame is found through the index, and stays in it until it is late.
use Rattle.std.proofs.Common.{◌≡◌, ◌∙◌, inl, inr, ℕ, zero, suc, ◌+◌, ◌*◌, ◌%◌, ◌<◌, ◌≤◌, Bool, true, false, List, [], ◌∷◌, ◌++◌, length, length-append, map, slice_get, Option, Some, None, set, refl, sym, ap, subst, arith}
use Rattle.std.specs.Prelude.{◌&&◌, ◌||◌, ◌==◌, nat_eq}
use Rattle.std.specs.BTreeSet.{BTreeSet, UpdatesBy, contains, keys_between}
use Rattle.std.specs.BTreeMap.Range.{range_contains}
use Rattle.std.specs.Cmp.Lexicographic.{pointwise}
use Rattle.std.specs.List.{list_any}
use Rattle.std.specs.Ordering.{nat_cmp, is_eq}
use Rattle.std.specs.declared.ops.Bound.TheVariants.{Included}
use Rattle.std.proofs.lemmas.Bool.Decides.{nat_tests, eqb_tells}
use Rattle.std.proofs.lemmas.Option.{slice_get_within}
use Rattle.std.proofs.lemmas.Map.Views.{any-filter_same}
use Rattle.osi_base.specs.declared.unit.Unit.{Unit as CarriedUnit}
use Rattle.osi_base.proofs.Searches.{at_code, same_bool}
use Rattle.nsap.specs.declared.port.Port.{Port}
use Rattle.lan_step.specs.declared.row.Lan.{Lan}
use Rattle.lan_step.specs.Rows.{same_port}
use Rattle.lan_step.specs.Frames.{Frame, kept, kept_at, is_live, is_of, carries_live, marked, marked_frame, marked_at}
use Rattle.lan_step.proofs.Places.{push_cases, set_same, set_other, kept_places, kept_was}
use Rattle.lan_step.proofs.Offering.{some_kept}
use Rattle.lan_bag.specs.steps.Index.{AreIndexed, AreIndexedTo, carries_at, code_of, key_of, sum_from}
use Rattle.lan_bag.proofs.Wheels.{kept_live, past_last}

-- ---- tests over lists

record Passing {A : Type 0} (p : A → Bool) (xs : List A) : Type 0 where
  pub place : ℕ
  pub one : A
  pub at : slice_get xs place ≡ Some one
  pub passes : p one ≡ true
  pub within : place < length xs

any_at : {A : Type 0} (p : A → Bool) (xs : List A) → list_any p xs ≡ true → Passing p xs
any_at p [] h = absurd cc
any_at {A} p (x ∷ xs) h = by_first (p x) refl h (any_at p xs)
  where
    by_first : (b : Bool) → p x ≡ b → (b || list_any p xs) ≡ true → (list_any p xs ≡ true → Passing p xs) → Passing p (x ∷ xs)
    by_first true is k later = record { place = 0; one = x; at = refl; passes = is; within = omega arith }
    by_first false is k later = let r = later k in let w = r.within in record { place = suc r.place; one = r.one; at = r.at; passes = r.passes; within = omega (arith, w) }

at_any : {A : Type 0} (p : A → Bool) (xs : List A) (place : ℕ) (one : A) → slice_get xs place ≡ Some one → p one ≡ true → list_any p xs ≡ true
at_any p [] place one at h = absurd cc
at_any {A} p (x ∷ xs) zero one at h = ap (λ (b : Bool). b || list_any p xs) (ap p (some_same x one at) ∙ h)
  where
    some_same : (x y : A) → Some x ≡ Some y → x ≡ y
    some_same x y same = cc same
at_any p (x ∷ xs) (suc place) one at h = or_true (p x) (list_any p xs) (at_any p xs place one at h)
  where
    or_true : (a b : Bool) → b ≡ true → (a || b) ≡ true
    or_true true b h = refl
    or_true false b h = h

any_weaker : {A : Type 0} (p q : A → Bool) (xs : List A) → ((x : A) → p x ≡ true → q x ≡ true) → list_any p xs ≡ true → list_any q xs ≡ true
any_weaker p q xs weaker h = let r = any_at p xs h in at_any q xs r.place r.one r.at (weaker r.one r.passes)

pub and_first : (a b : Bool) → (a && b) ≡ true → a ≡ true
and_first true b h = refl
and_first false b h = absurd cc

pub and_second : (a b : Bool) → (a && b) ≡ true → b ≡ true
and_second true b h = h
and_second false b h = absurd cc

same_list : (xs ys : List ℕ) → pointwise nat_eq xs ys ≡ true → xs ≡ ys
same_list [] [] h = refl
same_list [] (y ∷ ys) h = absurd cc
same_list (x ∷ xs) [] h = absurd cc
same_list (x ∷ xs) (y ∷ ys) h =
    let first : x ≡ y = same_nat (and_first (nat_eq x y) (pointwise nat_eq xs ys) h) in
    ap (λ (n : ℕ). n ∷ xs) first ∙ ap (λ (l : List ℕ). y ∷ l) (same_list xs ys (and_second (nat_eq x y) (pointwise nat_eq xs ys) h))
  where
    same_nat : nat_eq x y ≡ true → x ≡ y
    same_nat k = grind (arith, nat_tests, k)

same_snpas : (one other : Port) → same_port one other ≡ true → one.snpa ≡ other.snpa
same_snpas one other h = same_list one.snpa other.snpa (and_second (one.lan == other.lan) (pointwise nat_eq one.snpa other.snpa) h)

-- equal units have one key
same_key : (unit : CarriedUnit Port) (frame : Frame) → is_of unit frame ≡ true → key_of frame.unit ≡ key_of unit
same_key unit frame h =
    let f = same_port frame.unit.from unit.from in
    let t = same_port frame.unit.to unit.to in
    let o = pointwise nat_eq frame.unit.octets unit.octets in
    let from : frame.unit.from.snpa ≡ unit.from.snpa = same_snpas frame.unit.from unit.from (firsts f t o h) in
    let to : frame.unit.to.snpa ≡ unit.to.snpa = same_snpas frame.unit.to unit.to (seconds f t o h) in
    let octets : frame.unit.octets ≡ unit.octets = same_list frame.unit.octets unit.octets (thirds f t o h) in
    λ i. sum_from (sum_from (sum_from 0 (from i)) (to i)) (octets i)
  where
    firsts : (a b c : Bool) → (a && b && c) ≡ true → a ≡ true
    firsts true b c h = refl
    firsts false b c h = absurd cc

    seconds : (a b c : Bool) → (a && b && c) ≡ true → b ≡ true
    seconds true true c h = refl
    seconds true false c h = absurd cc
    seconds false b c h = absurd cc

    thirds : (a b c : Bool) → (a && b && c) ≡ true → c ≡ true
    thirds true true c h = h
    thirds true false c h = absurd cc
    thirds false b c h = absurd cc

-- ---- the search

in_range : (low high k : ℕ) → low ≤ k → k ≤ high → range_contains nat_cmp (Included low) (Included high) k ≡ true
in_range low high k from to = grind (arith, nat_tests, from, to)

place_of : (key place : ℕ) → place < 4294967296 → (key * 4294967296 + place) % 4294967296 ≡ place
place_of key place low = omega (arith, low)

pub searched : (s : BTreeSet ℕ) (clock : ℕ) (lans : List Lan) (frames : List (Option Frame)) (unit : CarriedUnit Port) → length frames ≤ 4294967295 → AreIndexed (contains nat_cmp s) frames
    → list_any (carries_at clock lans unit frames) (keys_between nat_cmp (Included (key_of unit * 4294967296)) (Included (key_of unit * 4294967296 + 4294967295)) s) ≡ list_any (carries_live clock lans unit) frames
searched s clock lans frames unit few h = same_bool _ _ sound complete
  where
    run : List ℕ
    run = keys_between nat_cmp (Included (key_of unit * 4294967296)) (Included (key_of unit * 4294967296 + 4294967295)) s

    there_any : (place : ℕ) (there : Option (Option Frame)) → slice_get frames place ≡ there → carries_live clock lans unit (kept there) ≡ true → list_any (carries_live clock lans unit) frames ≡ true
    there_any place None is k = absurd cc
    there_any place (Some slot) is k = at_any (carries_live clock lans unit) frames place slot is k

    sound : list_any (carries_at clock lans unit frames) run ≡ true → list_any (carries_live clock lans unit) frames ≡ true
    sound k = let r = any_at (carries_at clock lans unit frames) run k in there_any (r.one % 4294967296) (slice_get frames (r.one % 4294967296)) refl r.passes

    from_slot : (place : ℕ) (slot : Option Frame) → slice_get frames place ≡ Some slot → carries_live clock lans unit slot ≡ true → place < length frames → list_any (carries_at clock lans unit frames) run ≡ true
    from_slot place None at passes within = absurd cc
    from_slot place (Some frame) at passes within =
        let code : ℕ = code_of (key_of unit) place in
        let own : key_of frame.unit ≡ key_of unit = same_key unit frame (and_second (is_live clock lans frame) (is_of unit frame) passes) in
        let here : contains nat_cmp s code ≡ true = subst (λ (n : ℕ). contains nat_cmp s (code_of n place) ≡ true) own (h.at place frame (ap kept at)) in
        let small : place < 4294967296 = omega (arith, within, few) in
        let inside : list_any (λ x. is_eq (nat_cmp code x)) run ≡ true =
        any-filter_same (λ x. is_eq (nat_cmp code x)) (range_contains nat_cmp (Included (key_of unit * 4294967296)) (Included (key_of unit * 4294967296 + 4294967295))) true
        (λ x is. let same = at_code code x is in in_range (key_of unit * 4294967296) (key_of unit * 4294967296 + 4294967295) x (omega (arith, same)) (omega (arith, same, small))) s.keys ∙ here in
        any_weaker (λ x. is_eq (nat_cmp code x)) (carries_at clock lans unit frames) run (λ x is. at_place x (at_code code x is) small) inside
      where
        at_place : (x : ℕ) → x ≡ code_of (key_of unit) place → place < 4294967296 → carries_at clock lans unit frames x ≡ true
        at_place x same small =
            let where_is : x % 4294967296 ≡ place = ap (λ (n : ℕ). n % 4294967296) same ∙ place_of (key_of unit) place small in
            ap (λ (n : ℕ). carries_live clock lans unit (kept (slice_get frames n))) where_is ∙ (ap (λ (slot : Option (Option Frame)). carries_live clock lans unit (kept slot)) at ∙ passes)

    complete : list_any (carries_live clock lans unit) frames ≡ true → list_any (carries_at clock lans unit frames) run ≡ true
    complete k = let r = any_at (carries_live clock lans unit) frames k in from_slot r.place r.one r.at r.passes r.within

-- ---- what is listed

pub indexed_same : (has : ℕ → Bool) (frames others : List (Option Frame)) → others ≡ frames → AreIndexed has frames → AreIndexed has others
indexed_same has frames others same h = subst (λ (fs : List (Option Frame)). AreIndexed has fs) (sym same) h

-- one frame more: each before it has its code
pub indexed_below : (has : ℕ → Bool) (frames after : List (Option Frame)) (frame : Frame) (place : ℕ) → place ≡ length frames → after ≡ frames ++ Some frame ∷ []
    → AreIndexed has frames → AreIndexedTo has place after
indexed_below has frames after frame place last is h =
    subst (λ (fs : List (Option Frame)). AreIndexedTo has place fs) (sym is) (record { at = each })
  where
    each : (k : ℕ) (other : Frame) → k < place → kept (slice_get (frames ++ Some frame ∷ []) k) ≡ Some other → has (code_of (key_of other.unit) k) ≡ true
    each k other low here =
        elim (push_cases frames (Some frame) k) [
          | inl same ↦ h.at k other (ap kept (sym same) ∙ here)
          | inr new ↦ absurd (let there : k ≡ place = past_last frames (Some frame) k new.0 new.1 ∙ sym last in omega (arith, low, there))
        ]

-- and where it has its own too, each has
pub indexed_pushed : (has : ℕ → Bool) (frames after : List (Option Frame)) (frame : Frame) (place : ℕ) → place ≡ length frames → after ≡ frames ++ Some frame ∷ []
    → AreIndexedTo has (place + 1) after → AreIndexed has after
indexed_pushed has frames after frame place last is h = record { at = λ k other here. h.at k other (low k other here) here }
  where
    count : length after ≡ place + 1
    count = ap length is ∙ (length-append frames (Some frame ∷ []) ∙ ap (λ (n : ℕ). n + 1) (sym last))

    low : (k : ℕ) (other : Frame) → kept (slice_get after k) ≡ Some other → k < place + 1
    low k other here = let within = slice_get_within after k (Some other) (some_kept (slice_get after k) other here) in omega (arith, within, count)

-- a frame that was taken
indexed_marked_at : (has : ℕ → Bool) (frames : List (Option Frame)) (i system : ℕ) (o : Option (Option Frame)) → slice_get frames i ≡ o → AreIndexed has frames → AreIndexed has (marked_frame frames i system (kept o))
indexed_marked_at has frames i system None stands h = h
indexed_marked_at has frames i system (Some None) stands h = h
indexed_marked_at has frames i system (Some (Some marks)) stands h = record { at = each }
  where
    each : (k : ℕ) (frame : Frame) → kept (slice_get (set frames i (Some (marked marks system))) k) ≡ Some frame → has (code_of (key_of frame.unit) k) ≡ true
    each k frame here =
        elim (eqb_tells k i) [
          | inl same ↦
              let there : kept (slice_get (set frames i (Some (marked marks system))) i) ≡ Some frame = ap (λ (p : ℕ). kept (slice_get (set frames i (Some (marked marks system))) p)) (sym same.1) ∙ here in
              let is : marked marks system ≡ frame = cc (ap kept (set_same frames (Some (marked marks system)) (Some marks) i stands), there) in
              subst (λ (f : Frame). has (code_of (key_of f.unit) k) ≡ true) is
              (subst (λ (p : ℕ). has (code_of (key_of marks.unit) p) ≡ true) (sym same.1) (h.at i marks (ap kept stands)))
          | inr other ↦ h.at k frame (ap kept (sym (set_other frames (Some (marked marks system)) i k other.1)) ∙ here)
        ]

pub indexed_marked : (has : ℕ → Bool) (frames : List (Option Frame)) (number system : ℕ) → AreIndexed has frames → AreIndexed has (marked_at frames number system)
indexed_marked has frames zero system h = h
indexed_marked has frames (suc i) system h = indexed_marked_at has frames i system (slice_get frames i) refl h

-- the late ones are given up
pub indexed_ticked : (has : ℕ → Bool) (clock : ℕ) (lans : List Lan) (frames : List (Option Frame)) → AreIndexed has frames → AreIndexed has (map (kept_at clock lans) frames)
indexed_ticked has clock lans frames h = record {
  at = λ place frame here. h.at place frame (kept_was clock lans (kept (slice_get frames place)) frame (sym (kept_places clock lans frames place) ∙ here));
}

-- and the code of one of them is removed
pub indexed_without : (s n : BTreeSet ℕ) (clock : ℕ) (lans : List Lan) (frames : List (Option Frame)) (late : Frame) (place : ℕ) → length frames ≤ 4294967295 → kept (slice_get frames place) ≡ Some late → is_live clock lans late ≡ false
    → UpdatesBy nat_cmp (nat_cmp (code_of (key_of late.unit) place)) s n false → AreIndexed (contains nat_cmp s) (map (kept_at clock lans) frames) → AreIndexed (contains nat_cmp n) (map (kept_at clock lans) frames)
indexed_without s n clock lans frames late place few at gone updates h = record { at = each }
  where
    not_true : (b : Bool) → (b ≡ true → ⊥) → b ≡ false
    not_true true never = absurd (never refl)
    not_true false never = refl

    within : (k : ℕ) (frame : Frame) → kept (slice_get frames k) ≡ Some frame → k < length frames
    within k frame here = slice_get_within frames k (Some frame) (some_kept (slice_get frames k) frame here)

    apart : (k key other : ℕ) → k < 4294967296 → place < 4294967296 → code_of key k ≡ code_of other place → k ≡ place
    apart k key other low small same = sym (place_of key k low) ∙ (ap (λ (n : ℕ). n % 4294967296) same ∙ place_of other place small)

    each : (k : ℕ) (frame : Frame) → kept (slice_get (map (kept_at clock lans) frames) k) ≡ Some frame → contains nat_cmp n (code_of (key_of frame.unit) k) ≡ true
    each k frame here =
        let stands : kept_at clock lans (kept (slice_get frames k)) ≡ Some frame = sym (kept_places clock lans frames k) ∙ here in
        let was : kept (slice_get frames k) ≡ Some frame = kept_was clock lans (kept (slice_get frames k)) frame stands in
        let live : is_live clock lans frame ≡ true = kept_live clock lans (kept (slice_get frames k)) frame stands in
        let low = within k frame was in
        let small = within place late at in
        let never : is_eq (nat_cmp (code_of (key_of late.unit) place) (code_of (key_of frame.unit) k)) ≡ true → ⊥ =
        λ is. both k frame was live (apart k (key_of frame.unit) (key_of late.unit) (omega (arith, low, few)) (omega (arith, small, few)) (at_code (code_of (key_of late.unit) place) (code_of (key_of frame.unit) k) is)) in
        updates.2 (code_of (key_of frame.unit) k) (not_true (is_eq (nat_cmp (code_of (key_of late.unit) place) (code_of (key_of frame.unit) k))) never) ∙ h.at k frame here
      where
        both : (k : ℕ) (frame : Frame) → kept (slice_get frames k) ≡ Some frame → is_live clock lans frame ≡ true → k ≡ place → ⊥
        both k frame was live same =
            let is : late ≡ frame = cc (sym at ∙ (ap (λ (p : ℕ). kept (slice_get frames p)) (sym same) ∙ was)) in
            let live_late : is_live clock lans late ≡ true = ap (is_live clock lans) is ∙ live in
            cc (sym gone ∙ live_late)
