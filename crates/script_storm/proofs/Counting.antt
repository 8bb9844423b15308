-- A journal with one event more: each count is what it was, or one more.
use Rattle.std.proofs.Common.{◌≡◌, ℕ, ◌+◌, ◌<◌, ◌≤◌, min, Bool, cond, if◌then◌else◌, List, [], ◌∷◌, ◌++◌, length, refl, ap, sym, ◌∙◌, arith, zero-add}
use Rattle.std.specs.List.{count_by}
use Rattle.std.proofs.lemmas.List.Sums.{sum_by-append, count_by-le-length}
use Rattle.script_journal.specs.declared.event.Event.{Event}
use Rattle.script_journal.specs.RawLawful.{clock_after, clock_from}

pub clock_next : (now : ℕ) (journal : List Event) (event : Event) → clock_from now (journal ++ event ∷ []) ≡ clock_after (clock_from now journal) event
clock_next now [] event = refl
clock_next now (first ∷ journal) event = clock_next (clock_after now first) journal event

pub count_next : (is : Event → Bool) (journal : List Event) (event : Event) → count_by is (journal ++ event ∷ []) ≡ count_by is journal + (if is event then 1 else 0)
count_next is journal event = rw (sum_by-append (λ x. cond (is x) 1 0) journal (event ∷ []), zero-add) refl

-- a count of fewer events than it has room for does not stand still
pub counted : (is : Event → Bool) (journal : List Event) (event : Event) (old new : ℕ) (more : Bool) → length journal < 4294967295
    → old ≡ count_by is journal → more ≡ is event → new ≡ min (old + (if more then 1 else 0)) 4294967295 → new ≡ count_by is (journal ++ event ∷ [])
counted is journal event old new more room was says now =
    let within : count_by is journal ≤ length journal = count_by-le-length is journal in
    let one : old + (if more then 1 else 0) ≡ count_by is journal + (if is event then 1 else 0) = λ i. was i + (if says i then 1 else 0) in
    now ∙ ap (λ n. min n 4294967295) one ∙ unbounded (count_by is journal) (is event) within room ∙ sym (count_next is journal event)
  where
    unbounded : (count : ℕ) (more : Bool) → count ≤ length journal → length journal < 4294967295 → min (count + (if more then 1 else 0)) 4294967295 ≡ count + (if more then 1 else 0)
    unbounded count more within room = grind arith
