-- A list is gone through from the front: what follows from what is left follows for the whole.
use Rattle.std.proofs.Common.{◌≡◌, ℕ, ◌+◌, ◌<◌, List, [], ◌∷◌, ◌++◌, drop, get_or, length, slice_get, Some, suc, sym, ◌∙◌, ap, subst, append_assoc, add-one}
use Rattle.std.proofs.lemmas.List.{append-nil}
use Rattle.std.proofs.Math.Seq.{drop-cons}
use Rattle.std.proofs.lemmas.Option.{get_or_from_slice_get, slice_get_within}
use Rattle.script_journal.specs.declared.event.Event.{Event}
use Rattle.tp4_world.specs.steps.Parts.{Tells}

-- so far these were told, and of the whole these are left
pub record Going {S X : Type 0} (All : S → List X → List Event → S → Type 0) (old : S) (all : List X) (before : List Event) (mid : S) (events : List Event) (left : List X) : Type 0 where
  pub made : List Event
  pub added : events ≡ before ++ made
  pub leads : (rest : List Event) (new : S) → All mid left rest new → All old all (made ++ rest) new

pub going_first : {S X : Type 0} (All : S → List X → List Event → S → Type 0) (old : S) (all : List X) (before : List Event) → Going All old all before old before all
going_first All old all before = record { made = []; added = sym (append-nil before); leads = λ rest new h. h }

pub going_next : {S X : Type 0} (All : S → List X → List Event → S → Type 0) (old : S) (all : List X) (before : List Event) (mid : S) (events : List Event) (left : List X)
    (new : S) (after here : List Event) (others : List X) → Going All old all before mid events left → after ≡ events ++ here
    → ((rest : List Event) (last : S) → All new others rest last → All mid left (here ++ rest) last) → Going All old all before new after others
going_next All old all before mid events left new after here others g e step = record {
  made = g.made ++ here;
  added = e ∙ ap (λ (xs : List Event). xs ++ here) g.added ∙ append_assoc before g.made here;
  leads = λ rest last h. subst (λ (xs : List Event). All old all xs last) (sym (append_assoc g.made here rest)) (g.leads (here ++ rest) last (step rest last h));
}

pub going_last : {S X : Type 0} (All : S → List X → List Event → S → Type 0) (old : S) (all : List X) (before : List Event) (mid : S) (events : List Event) (left : List X)
    (new : S) (after rest : List Event) → Going All old all before mid events left → after ≡ events ++ rest → All mid left rest new → Tells before after (λ made. All old all made new)
going_last All old all before mid events left new after rest g e h = record {
  made = g.made ++ rest;
  added = e ∙ ap (λ (xs : List Event). xs ++ rest) g.added ∙ append_assoc before g.made rest;
  are = g.leads rest new h;
}

-- nothing is left
pub going_over : {S X : Type 0} (All : S → List X → List Event → S → Type 0) (old : S) (all : List X) (before : List Event) (mid : S) (events : List Event) (left : List X)
    → Going All old all before mid events left → left ≡ [] → All mid [] [] mid → Tells before events (λ made. All old all made mid)
going_over All old all before mid events left g e h =
    going_last All old all before mid events left mid events [] g (sym (append-nil events)) (subst (λ (xs : List _). All mid xs [] mid) (sym e) h)

-- the member of an index is in front of those behind it
pub drop_item : {X : Type 0} (xs : List X) (i : ℕ) (x : X) → i < length xs → x ≡ get_or xs i x → drop i xs ≡ x ∷ drop (i + 1) xs
drop_item xs i x low is = drop-cons xs i x low ∙ ap (λ (y : _). y ∷ drop (suc i) xs) (sym is) ∙ ap (λ (n : ℕ). x ∷ drop n xs) (sym (add-one i))

pub drop_got : {X : Type 0} (xs : List X) (i : ℕ) (x : X) → slice_get xs i ≡ Some x → drop i xs ≡ x ∷ drop (i + 1) xs
drop_got xs i x is = drop_item xs i x (slice_get_within xs i x is) (sym (get_or_from_slice_get xs i x x is))
