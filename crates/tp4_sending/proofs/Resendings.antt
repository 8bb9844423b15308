-- The DTs of the window are sent again one place after another: what was done up to a place is `resends` of the window up to there.
use Rattle.std.proofs.Common.{◌≡◌, ℕ, ◌+◌, ◌<◌, ◌≤◌, Bool, true, false, if◌then◌else◌, List, [], ◌∷◌, ◌++◌, length, map, take, drop, get_or, append_assoc, append-nil, add-one, inl, inr, refl, sym, ◌∙◌, ap, subst, arith}
use Rattle.std.specs.Prelude.{slice_set}
use Rattle.std.specs.List.{list_any}
use Rattle.std.proofs.Math.Seq.{take-suc, drop-cons, get_or-append_seam, set-append_seam}
use Rattle.std.proofs.lemmas.List.{map-append, take_all, drop_all, length-map, length-take-le, get_or_default}
use Rattle.std.proofs.lemmas.List.Folds.{list_any-from_Any}
use Rattle.std.proofs.lemmas.Bool.{false_from_ne_true, true≢false, and_cases, leb-false}
use Rattle.tp4_number.specs.declared.blocks.Blocks.{Blocks}
use Rattle.tp4_number.specs.Sender.{marked}
use Rattle.tp4_flow.specs.declared.step.EndEvent.{EndEvent}
use Rattle.tp4_flow.specs.declared.step.Sent.{Sent}
use Rattle.tp4_flow.specs.Told.{Told}
use Rattle.tp4_sending.specs.declared.tries.Tries.{Tries}
use Rattle.tp4_sending.specs.SendingHalf.{FlowSender, Sendings, Sends, nothing, block_in, dts_of, marked_all, all_dts, resends}
use Rattle.tp4_sending.specs.Pieces.{is_due, is_spent, once, again, resent, due_from}
use Rattle.tp4_sending.specs.steps.Again.{retried, resend_as, resend_at}

-- the places in `done` were looked at
abbrev done_of : FlowSender → List Tries → List Tries → Sendings
done_of s done rest = record {
  sender = record s {
    numbers = record s.numbers { blocks = marked_all (block_in s) s.clock s.numbers.blocks (due_from s.rules.t1 s.clock s.numbers.base done) };
    window = resent s.rules.t1 s.clock done ++ rest;
  };
  events = [];
  tpdus = all_dts s (due_from s.rules.t1 s.clock s.numbers.base done);
}

abbrev pub done_to : FlowSender → ℕ → Sendings
done_to s k = done_of s (take k s.window) (drop k s.window)

due_push : (t1 now n : ℕ) (xs : List Tries) (x : Tries) → due_from t1 now n (xs ++ x ∷ []) ≡ due_from t1 now n xs ++ (if is_due t1 now x then (n + length xs) ∷ [] else [])
due_push t1 now n [] x = by (is_due t1 now x)
  where
    same : n ≡ n + 0
    same = omega arith

    by : (b : Bool) → (if b then n ∷ [] else []) ≡ (if b then (n + 0) ∷ [] else [])
    by true = ap (λ (k : ℕ). k ∷ []) same
    by false = refl
due_push t1 now n (y ∷ ys) x = by (is_due t1 now y) (due_push t1 now (n + 1) ys x)
  where
    tail : ℕ → List ℕ
    tail k = if is_due t1 now x then k ∷ [] else []

    at : n + 1 + length ys ≡ n + length (y ∷ ys)
    at = omega arith

    by : (b : Bool) → due_from t1 now (n + 1) (ys ++ x ∷ []) ≡ due_from t1 now (n + 1) ys ++ (if is_due t1 now x then (n + 1 + length ys) ∷ [] else [])
        → (if b then n ∷ due_from t1 now (n + 1) (ys ++ x ∷ []) else due_from t1 now (n + 1) (ys ++ x ∷ []))
        ≡ (if b then n ∷ due_from t1 now (n + 1) ys else due_from t1 now (n + 1) ys) ++ (if is_due t1 now x then (n + length (y ∷ ys)) ∷ [] else [])
    by true e = ap (λ (l : List ℕ). n ∷ l) (e ∙ ap (λ (k : ℕ). due_from t1 now (n + 1) ys ++ (if is_due t1 now x then k ∷ [] else [])) at)
    by false e = e ∙ ap (λ (k : ℕ). due_from t1 now (n + 1) ys ++ (if is_due t1 now x then k ∷ [] else [])) at

marked_append : (block now : ℕ) (b : Blocks) (ns ms : List ℕ) → marked_all block now b (ns ++ ms) ≡ marked_all block now (marked_all block now b ns) ms
marked_append block now b [] ms = refl
marked_append block now b (n ∷ ns) ms = marked_append block now (marked block b n now) ns ms

dts_append : (s : FlowSender) (ns ms : List ℕ) → all_dts s (ns ++ ms) ≡ all_dts s ns ++ all_dts s ms
dts_append s [] ms = refl
dts_append s (n ∷ ns) ms = ap (λ (l : List Sent). dts_of s n ++ l) (dts_append s ns ms) ∙ sym (append_assoc (dts_of s n) (all_dts s ns) (all_dts s ms))

-- one place more
abbrev after : FlowSender → ℕ → Tries → Bool → Sendings
after s at x b = if b then record { sender = retried s at x; events = []; tpdus = dts_of s (s.numbers.base + at) } else nothing s

abbrev looked : FlowSender → Tries → Tries
looked s tries = if is_due s.rules.t1 s.clock tries then again s.clock tries else tries

record More (s : FlowSender) (done : List Tries) (x : Tries) (rest : List Tries) (b : Bool) : Type 0 where
  sender : (done_of s (done ++ x ∷ []) rest).sender ≡ (after (done_of s done (x ∷ rest)).sender (length done) x b).sender
  events : (after (done_of s done (x ∷ rest)).sender (length done) x b).events ≡ []
  tpdus : (done_of s (done ++ x ∷ []) rest).tpdus ≡ (done_of s done (x ∷ rest)).tpdus ++ (after (done_of s done (x ∷ rest)).sender (length done) x b).tpdus

one_more : (s : FlowSender) (done : List Tries) (x : Tries) (rest : List Tries) (b : Bool) → is_due s.rules.t1 s.clock x ≡ b → More s done x rest b
one_more s done x rest b e = by b dues window
  where
    dues : due_from s.rules.t1 s.clock s.numbers.base (done ++ x ∷ []) ≡ due_from s.rules.t1 s.clock s.numbers.base done ++ (if b then (s.numbers.base + length done) ∷ [] else [])
    dues = due_push s.rules.t1 s.clock s.numbers.base done x ∙ ap (λ (c : Bool). due_from s.rules.t1 s.clock s.numbers.base done ++ (if c then (s.numbers.base + length done) ∷ [] else [])) e

    window : resent s.rules.t1 s.clock (done ++ x ∷ []) ++ rest ≡ resent s.rules.t1 s.clock done ++ ((if b then again s.clock x else x) ∷ rest)
    window =
        ap (λ (l : List Tries). l ++ rest) (map-append (looked s) done (x ∷ []))
        ∙ append_assoc (map (looked s) done) (looked s x ∷ []) rest
        ∙ ap (λ (c : Bool). map (looked s) done ++ ((if c then again s.clock x else x) ∷ rest)) e

    put : slice_set (resent s.rules.t1 s.clock done ++ x ∷ rest) (length done) (again s.clock x) ≡ resent s.rules.t1 s.clock done ++ again s.clock x ∷ rest
    put = ap (λ (k : ℕ). slice_set (resent s.rules.t1 s.clock done ++ x ∷ rest) k (again s.clock x)) (sym (length-map done (looked s))) ∙ set-append_seam (resent s.rules.t1 s.clock done) x rest (again s.clock x)

    by : (c : Bool)
        → due_from s.rules.t1 s.clock s.numbers.base (done ++ x ∷ []) ≡ due_from s.rules.t1 s.clock s.numbers.base done ++ (if c then (s.numbers.base + length done) ∷ [] else [])
        → resent s.rules.t1 s.clock (done ++ x ∷ []) ++ rest ≡ resent s.rules.t1 s.clock done ++ ((if c then again s.clock x else x) ∷ rest) → More s done x rest c
    by true d w =
        let blocks = ap (marked_all (block_in s) s.clock s.numbers.blocks) d
        ∙ marked_append (block_in s) s.clock s.numbers.blocks (due_from s.rules.t1 s.clock s.numbers.base done) ((s.numbers.base + length done) ∷ []) in
        record {
          sender = λ i. record s { numbers = record s.numbers { blocks = blocks i }; window = (w ∙ sym put) i };
          events = refl;
          tpdus = ap (all_dts s) d
              ∙ dts_append s (due_from s.rules.t1 s.clock s.numbers.base done) ((s.numbers.base + length done) ∷ [])
              ∙ ap (λ (l : List Sent). all_dts s (due_from s.rules.t1 s.clock s.numbers.base done) ++ l) (append-nil (dts_of s (s.numbers.base + length done)));
        }
    by false d w =
        let same = d ∙ append-nil (due_from s.rules.t1 s.clock s.numbers.base done) in
        record {
          sender = λ i. record s { numbers = record s.numbers { blocks = marked_all (block_in s) s.clock s.numbers.blocks (same i) }; window = w i };
          events = refl;
          tpdus = ap (all_dts s) same ∙ sym (append-nil (all_dts s (due_from s.rules.t1 s.clock s.numbers.base done)));
        }

length_take : (k : ℕ) (xs : List Tries) → k < length xs → length (take k xs) ≡ k
length_take k xs h = length-take-le k xs (omega (arith, h))

front_is : (s : FlowSender) (k : ℕ) → k < length s.window → take (k + 1) s.window ≡ take k s.window ++ get_or s.window k (once 0) ∷ []
front_is s k h = rw add-one (take-suc s.window k (once 0) h)

back_is : (s : FlowSender) (k : ℕ) → k < length s.window → drop k s.window ≡ get_or s.window k (once 0) ∷ drop (k + 1) s.window
back_is s k h = rw add-one (drop-cons s.window k (once 0) h)

-- what a place that was not looked at has
pub place_at : (s : FlowSender) (k : ℕ) → k < length s.window → get_or (done_to s k).sender.window k (once 0) ≡ get_or s.window k (once 0)
place_at s k h =
    let done = resent s.rules.t1 s.clock (take k s.window) in
    let at : length done ≡ k = length-map (take k s.window) (looked s) ∙ length_take k s.window h in
    ap (λ (l : List Tries). get_or (done ++ l) k (once 0)) (back_is s k h)
    ∙ ap (λ (j : ℕ). get_or (done ++ get_or s.window k (once 0) ∷ drop (k + 1) s.window) j (once 0)) (sym at)
    ∙ get_or-append_seam done (get_or s.window k (once 0)) (drop (k + 1) s.window) (once 0)

pub resend_on : (old : FlowSender) (was : Told) (k : ℕ) (s : FlowSender) (is : Told) (new : FlowSender) (told : Told)
    → Sends (done_to old k) s was is → k < length old.window → Sends (resend_at s k) new is told → Sends (done_to old (k + 1)) new was told
resend_on old was k s is new told before h step =
    let done = take k old.window in
    let x = get_or old.window k (once 0) in
    let rest = drop (k + 1) old.window in
    let m : FlowSender = (done_of old done (x ∷ rest)).sender in
    let more = one_more old done x rest (is_due old.rules.t1 old.clock x) refl in
    let at : length done ≡ k = length_take k old.window h in
    let back : drop k old.window ≡ x ∷ rest = back_is old k h in
    let stood : s ≡ m = before.sender_is ∙ ap (λ (l : List Tries). (done_of old done l).sender) back in
    let place : get_or m.window k (once 0) ≡ x = ap (λ (l : List Tries). get_or (resent old.rules.t1 old.clock done ++ l) k (once 0)) (sym back) ∙ place_at old k h in
    let one : resend_at s k ≡ after m (length done) x (is_due old.rules.t1 old.clock x) =
    ap (λ (f : FlowSender). resend_at f k) stood ∙ ap (resend_as m k) place ∙ ap (λ (j : ℕ). resend_as m j x) (sym at) in
    let whole : done_to old (k + 1) ≡ done_of old (done ++ x ∷ []) rest = ap (λ (l : List Tries). done_of old l rest) (front_is old k h) in
    record {
      sender_is = step.sender_is ∙ ap (λ (y : Sendings). y.sender) one ∙ sym more.sender ∙ ap (λ (y : Sendings). y.sender) (sym whole);
      told = step.told ∙ (λ i. record {
        events = (ap (λ (y : Sendings). is.events ++ y.events) one ∙ ap (λ (l : List EndEvent). is.events ++ l) more.events ∙ append-nil is.events ∙ ap (λ (w : Told). w.events) before.told) i;
        tpdus = (ap (λ (y : Sendings). is.tpdus ++ y.tpdus) one
            ∙ ap (λ (w : Told). w.tpdus ++ (after m (length done) x (is_due old.rules.t1 old.clock x)).tpdus) before.told
            ∙ append_assoc was.tpdus (all_dts old (due_from old.rules.t1 old.clock old.numbers.base done)) (after m (length done) x (is_due old.rules.t1 old.clock x)).tpdus
            ∙ ap (λ (l : List Sent). was.tpdus ++ l) (sym more.tpdus)
            ∙ ap (λ (y : Sendings). was.tpdus ++ y.tpdus) (sym whole)) i;
      });
    }

pub resend_none : (s : FlowSender) (was : Told) → Sends (done_to s 0) s was was
resend_none s was = record { sender_is = refl; told = λ i. record { events = sym (append-nil was.events) i; tpdus = sym (append-nil was.tpdus) i } }

pub resend_all : (s : FlowSender) (was : Told) (k : ℕ) (new : FlowSender) (is : Told) → k ≡ length s.window → Sends (done_to s k) new was is → Sends (resends s) new was is
resend_all s was k new is all done = subst (λ (x : Sendings). Sends x new was is) whole done
  where
    front : take k s.window ≡ s.window
    front = take_all k s.window (omega (arith, all))

    back : drop k s.window ≡ []
    back = drop_all k s.window (omega (arith, all))

    window : resent s.rules.t1 s.clock (take k s.window) ++ drop k s.window ≡ resent s.rules.t1 s.clock s.window
    window = ap (λ (l : List Tries). resent s.rules.t1 s.clock (take k s.window) ++ l) back ∙ append-nil _ ∙ ap (resent s.rules.t1 s.clock) front

    whole : done_to s k ≡ resends s
    whole = λ i. record {
      sender = record s { numbers = record s.numbers { blocks = marked_all (block_in s) s.clock s.numbers.blocks (due_from s.rules.t1 s.clock s.numbers.base (front i)) }; window = window i };
      events = [];
      tpdus = all_dts s (due_from s.rules.t1 s.clock s.numbers.base (front i));
    }

pub not_spent : (t1 most now k : ℕ) (window : List Tries) → list_any (is_spent t1 most now) window ≡ false → k < length window → is_spent t1 most now (get_or window k (once 0)) ≡ false
not_spent t1 most now k window none h =
    false_from_ne_true _ (λ spent. true≢false (sym (list_any-from_Any (is_spent t1 most now) window (k, get_or window k (once 0), h, get_or_default window k (get_or window k (once 0)) (once 0) h, spent)) ∙ none))

-- what is due, and not sent in vain as often as it may be, was sent fewer times
pub few_left : (t1 most now : ℕ) (tries : Tries) → is_due t1 now tries ≡ true → is_spent t1 most now tries ≡ false → most ≤ 16 → tries.count < 16
few_left t1 most now tries due more low = elim (and_cases (is_due t1 now tries) _ more) [
  | inl not_due ↦ absurd (true≢false (sym due ∙ not_due))
  | inr fewer ↦ let less : tries.count < most = leb-false _ _ fewer in omega (arith, less, low)
]
