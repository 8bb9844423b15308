-- Partners in a journal that goes on: an indication keeps the request that is its partner; a new one has the latest request so far with its address
-- and reference; and a request is the latest one until another has both of them.
use Rattle.std.proofs.Common.{◌≡◌, ◌⊎◌, ℕ, zero, suc, ◌+◌, ◌-◌, ◌<◌, ◌≤◌, true, false, List, ◌∷◌, ◌++◌, length, slice_get, Some, refl, sym, ◌∙◌, ap, subst, inl, inr, arith, length-append}
use Rattle.std.proofs.lemmas.Bool.{cases_lt}
use Rattle.script_journal.specs.declared.event.Event.{Event}
use Rattle.script_journal.specs.declared.event.Event.TheVariants as events
use Rattle.script_journal.specs.declared.event.Indication.{Indication}
use Rattle.script_journal.specs.declared.event.Request.{Request}
use Rattle.script_journal.specs.Partner.{IsLatest, Partner}
use Rattle.law_tp4_history.specs.Journals.{MakesNone}
use Rattle.law_tp4_history.proofs.Places.{get_left, get_right, none_made}

-- ---- places

-- the place is one of the second list
record IsBehind (xs ys : List Event) (i : ℕ) (event : Event) : Type 0 where
  place : ℕ
  at : i ≡ length xs + place
  is : slice_get ys place ≡ Some event

front_or_back : (xs ys : List Event) (i : ℕ) (event : Event) → slice_get (xs ++ ys) i ≡ Some event → (i < length xs) ⊎ IsBehind xs ys i event
front_or_back xs ys i event is = elim (cases_lt i (length xs)) [
  | inl low ↦ inl low
  | inr high ↦
      let at : i ≡ length xs + (i - length xs) = omega (arith, high) in
      inr (record { place = i - length xs; at = at; is = sym (get_right xs ys i (i - length xs) at) ∙ is })
]

-- ---- events that are none of a kind

-- none is an indication
abbrev pub NoneHeard : List Event → Type 0
NoneHeard made = (k : ℕ) (heard : Indication) → slice_get made k ≡ Some (events.Incoming heard) → ⊥

-- none is a request with this address and reference
abbrev pub NoneAsked : List ℕ → ℕ → List Event → Type 0
NoneAsked calling reference made = (k : ℕ) (asked : Request) → slice_get made k ≡ Some (events.Connect asked) → asked.calling ≡ calling → asked.reference ≡ reference → ⊥

pub none_heard : (made : List Event) → MakesNone made → NoneHeard made
none_heard made none k heard is = let e : true ≡ false = none_made made k (events.Incoming heard) none is in absurd cc

pub none_asked : (calling : List ℕ) (reference : ℕ) (made : List Event) → MakesNone made → NoneAsked calling reference made
none_asked calling reference made none k asked is from by = let e : true ≡ false = none_made made k (events.Connect asked) none is in absurd cc

-- a request, and then events that make no end, has no indication
none_heard_after : (request : Request) (rest : List Event) → MakesNone rest → NoneHeard (events.Connect request ∷ rest)
none_heard_after request rest none zero heard is = absurd (differ request heard is)
  where
    differ : (request : Request) (heard : Indication) → Some (events.Connect request) ≡ Some (events.Incoming heard) → ⊥
    differ request heard e = cc e
none_heard_after request rest none (suc k) heard is = none_heard rest none k heard is

-- an indication, and then events that make no end, has no request
pub none_asked_after : (calling : List ℕ) (reference : ℕ) (indication : Indication) (rest : List Event) → MakesNone rest → NoneAsked calling reference (events.Incoming indication ∷ rest)
none_asked_after calling reference indication rest none zero asked is from by = absurd (differ indication asked is)
  where
    differ : (indication : Indication) (asked : Request) → Some (events.Incoming indication) ≡ Some (events.Connect asked) → ⊥
    differ indication asked e = cc e
none_asked_after calling reference indication rest none (suc k) asked is from by = none_asked calling reference rest none k asked is from by

-- ---- the latest request

-- at a place of the first list it is the latest there
latest_there : (journal made : List Event) (p q : ℕ) (calling : List ℕ) (reference : ℕ) (asked : Request) → p ≤ length journal → IsLatest (journal ++ made) p q calling reference asked
    → IsLatest journal p q calling reference asked
latest_there journal made p q calling reference asked low l = record {
  is = sym (get_left journal made q (omega (arith, low, l.before))) ∙ l.is;
  before = l.before;
  from = l.from;
  by = l.by;
  last = λ r other up below is. l.last r other up below (get_left journal made r (omega (arith, low, below)) ∙ is);
}

-- it stays the latest while no other request has this address and reference
pub latest_kept : (journal made : List Event) (q : ℕ) (calling : List ℕ) (reference : ℕ) (asked : Request) → NoneAsked calling reference made
    → IsLatest journal (length journal) q calling reference asked → IsLatest (journal ++ made) (length (journal ++ made)) q calling reference asked
latest_kept journal made q calling reference asked none l = record {
  is = get_left journal made q l.before ∙ l.is;
  before = omega (arith, l.before, length-append journal made);
  from = l.from;
  by = l.by;
  last = λ r other up below is from by. later r other up is from by (front_or_back journal made r (events.Connect other) is);
}
  where
    later : (r : ℕ) (other : Request) → q < r → slice_get (journal ++ made) r ≡ Some (events.Connect other) → other.calling ≡ calling → other.reference ≡ reference
        → (r < length journal) ⊎ IsBehind journal made r (events.Connect other) → ⊥
    later r other up is from by (inl low) = l.last r other up low (sym (get_left journal made r low) ∙ is) from by
    later r other up is from by (inr behind) = none behind.place other behind.is from by

-- events that make no end, an indication with such, and a request of another address or reference with such leave it the latest
pub latest_more : (journal made : List Event) (q : ℕ) (calling : List ℕ) (reference : ℕ) (asked : Request) → MakesNone made → IsLatest journal (length journal) q calling reference asked
    → IsLatest (journal ++ made) (length (journal ++ made)) q calling reference asked
latest_more journal made q calling reference asked none l = latest_kept journal made q calling reference asked (none_asked calling reference made none) l

pub latest_heard : (journal rest : List Event) (indication : Indication) (q : ℕ) (calling : List ℕ) (reference : ℕ) (asked : Request) → MakesNone rest
    → IsLatest journal (length journal) q calling reference asked
    → IsLatest (journal ++ events.Incoming indication ∷ rest) (length (journal ++ events.Incoming indication ∷ rest)) q calling reference asked
latest_heard journal rest indication q calling reference asked none l =
    latest_kept journal (events.Incoming indication ∷ rest) q calling reference asked (none_asked_after calling reference indication rest none) l

pub latest_connect : (journal rest : List Event) (request : Request) (q : ℕ) (calling : List ℕ) (reference : ℕ) (asked : Request) → MakesNone rest
    → (request.calling ≡ calling → request.reference ≡ reference → ⊥) → IsLatest journal (length journal) q calling reference asked
    → IsLatest (journal ++ events.Connect request ∷ rest) (length (journal ++ events.Connect request ∷ rest)) q calling reference asked
latest_connect journal rest request q calling reference asked none apart l = latest_kept journal (events.Connect request ∷ rest) q calling reference asked other l
  where
    same : (one two : Request) → Some (events.Connect one) ≡ Some (events.Connect two) → one ≡ two
    same one two e = cc

    other : NoneAsked calling reference (events.Connect request ∷ rest)
    other zero found is from by =
        let e : request ≡ found = same request found is in
        apart (ap (λ (r : Request). r.calling) e ∙ from) (ap (λ (r : Request). r.reference) e ∙ by)
    other (suc k) found is from by = none_asked calling reference rest none k found is from by

-- a new request is the latest of its address and reference
pub latest_new : (journal rest : List Event) (request : Request) → MakesNone rest
    → IsLatest (journal ++ events.Connect request ∷ rest) (length (journal ++ events.Connect request ∷ rest)) (length journal) request.calling request.reference request
latest_new journal rest request none = record {
  is = get_right journal (events.Connect request ∷ rest) (length journal) 0 (omega arith);
  before = omega (arith, length-append journal (events.Connect request ∷ rest));
  from = refl;
  by = refl;
  last = λ r other up below is from by. later r other up from by (front_or_back journal (events.Connect request ∷ rest) r (events.Connect other) is);
}
  where
    behind_first : (k : ℕ) (other : Request) → 0 < k → slice_get (events.Connect request ∷ rest) k ≡ Some (events.Connect other) → other.calling ≡ request.calling → other.reference ≡ request.reference → ⊥
    behind_first zero other some is from by = absurd (omega (arith, some))
    behind_first (suc k) other some is from by = none_asked request.calling request.reference rest none k other is from by

    later : (r : ℕ) (other : Request) → length journal < r → other.calling ≡ request.calling → other.reference ≡ request.reference
        → (r < length journal) ⊎ IsBehind journal (events.Connect request ∷ rest) r (events.Connect other) → ⊥
    later r other up from by (inl low) = omega (arith, up, low)
    later r other up from by (inr behind) = behind_first behind.place other (omega (arith, behind.at, up)) behind.is from by

-- there is one latest request
pub one_latest_place : (journal : List Event) (p q s : ℕ) (calling : List ℕ) (reference : ℕ) (asked other : Request) → IsLatest journal p q calling reference asked
    → IsLatest journal p s calling reference other → q ≡ s
one_latest_place journal p q s calling reference asked other l k = elim (cases_lt q s) [
  | inl low ↦ absurd (l.last s other low k.before k.is k.from k.by)
  | inr high ↦ elim (cases_lt s q) [ inl low ↦ absurd (k.last q asked low l.before l.is l.from l.by) | inr same ↦ omega (arith, high, same) ]
]

pub one_latest : (journal : List Event) (p q s : ℕ) (calling : List ℕ) (reference : ℕ) (asked other : Request) → IsLatest journal p q calling reference asked
    → IsLatest journal p s calling reference other → asked ≡ other
one_latest journal p q s calling reference asked other l k =
    same asked other (sym l.is ∙ ap (λ (n : ℕ). slice_get journal n) (one_latest_place journal p q s calling reference asked other l k) ∙ k.is)
  where
    same : (one two : Request) → Some (events.Connect one) ≡ Some (events.Connect two) → one ≡ two
    same one two e = cc

-- ---- partners

partner_in : (journal made : List Event) (p q : ℕ) (heard : Indication) (asked : Request) → p < length journal → Partner (journal ++ made) p q heard asked → Partner journal p q heard asked
partner_in journal made p q heard asked low h =
    record { is = sym (get_left journal made p low) ∙ h.is; latest = latest_there journal made p q heard.calling heard.partner asked (omega (arith, low)) h.latest }

partner_before : (journal made : List Event) (p q : ℕ) (heard : Indication) (asked : Request) → NoneHeard made → Partner (journal ++ made) p q heard asked → Partner journal p q heard asked
partner_before journal made p q heard asked none h = elim (front_or_back journal made p (events.Incoming heard) h.is) [
  | inl low ↦ partner_in journal made p q heard asked low h
  | inr behind ↦ absurd (none behind.place heard behind.is)
]

-- events that make no end, and a request with such, make no partners
pub partner_back : (journal made : List Event) → MakesNone made → (p q : ℕ) (heard : Indication) (asked : Request) → Partner (journal ++ made) p q heard asked → Partner journal p q heard asked
partner_back journal made none p q heard asked h = partner_before journal made p q heard asked (none_heard made none) h

pub partner_connect : (journal rest : List Event) (request : Request) → MakesNone rest → (p q : ℕ) (heard : Indication) (asked : Request)
    → Partner (journal ++ events.Connect request ∷ rest) p q heard asked → Partner journal p q heard asked
partner_connect journal rest request none p q heard asked h =
    partner_before journal (events.Connect request ∷ rest) p q heard asked (none_heard_after request rest none) h

-- an indication has the latest request of its address and reference
pub partner_new : (journal rest : List Event) (indication : Indication) → MakesNone rest → (p q : ℕ) (heard : Indication) (asked : Request)
    → Partner (journal ++ events.Incoming indication ∷ rest) p q heard asked
    → Partner journal p q heard asked ⊎ ((heard ≡ indication) × IsLatest journal (length journal) q indication.calling indication.partner asked)
partner_new journal rest indication none p q heard asked h = by (front_or_back journal (events.Incoming indication ∷ rest) p (events.Incoming heard) h.is)
  where
    same : (one two : Indication) → Some (events.Incoming one) ≡ Some (events.Incoming two) → one ≡ two
    same one two e = cc

    at_first : (k : ℕ) → slice_get (events.Incoming indication ∷ rest) k ≡ Some (events.Incoming heard) → (k ≡ 0) × (heard ≡ indication)
    at_first zero is = (refl, sym (same indication heard is))
    at_first (suc k) is = absurd (none_heard rest none k heard is)

    by : (p < length journal) ⊎ IsBehind journal (events.Incoming indication ∷ rest) p (events.Incoming heard)
        → Partner journal p q heard asked ⊎ ((heard ≡ indication) × IsLatest journal (length journal) q indication.calling indication.partner asked)
    by (inl low) = inl (partner_in journal (events.Incoming indication ∷ rest) p q heard asked low h)
    by (inr behind) =
        let first = at_first behind.place behind.is in
        let end : p ≡ length journal = omega (arith, behind.at, first.0) in
        let latest = latest_there journal (events.Incoming indication ∷ rest) p q heard.calling heard.partner asked (omega (arith, end)) h.latest in
        inr (
          first.1,
          subst (λ (x : Indication). IsLatest journal (length journal) q x.calling x.partner asked) first.1
              (subst (λ (n : ℕ). IsLatest journal n q heard.calling heard.partner asked) end latest),
        )
