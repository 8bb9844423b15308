-- A tick does something exactly where a DT or the ED is due, or where the next one goes or is told as held.
use Rattle.std.proofs.Common.{◌≡◌, ℕ, zero, suc, ◌+◌, ◌-◌, ◌<◌, ◌≤◌, ◌⊎◌, ◌↔◌, Bool, true, false, ◌||◌, ◌==◌, nat_lt, nat_le, if◌then◌else◌, List, [], ◌∷◌, ◌++◌, length, length-append, Option, Some, None, refl, sym, ◌∙◌, ap, subst, arith, inl, inr}
use Rattle.std.specs.Prelude.{not, is_some}
use Rattle.std.specs.List.{list_any}
use Rattle.std.proofs.lemmas.Bool.{lt-leb, lt-ltb, and_left, or_from, cases_Bool, true≢false, false≢true, false_from_ne_true, cases_lt, leb-true, ltb-true, not-false, or_right}
use Rattle.tp4_flow.specs.declared.rules.Life.{Life}
use Rattle.tp4_flow.specs.declared.rules.Life.TheVariants.{Goes, Exhausted}
use Rattle.tp4_flow.specs.declared.step.EndEvent.{EndEvent}
use Rattle.tpdu.specs.declared.service.HeldKind.TheVariants.{Ed}
use Rattle.tp4_number.specs.declared.blocks.Blocks.{Blocks}
use Rattle.tp4_number.specs.Sender.{opens_at}
use Rattle.tp4_sending.specs.declared.tries.Tries.{Tries}
use Rattle.tp4_sending.specs.SendingHalf.{FlowSender, Sendings, nothing, at, block_in, rule_allows, is_noted, holds, is_urgent, has_next, eds, all_dts, marked_all, normals, all_normals, normals_where, sent_urgent, held_urgent, one_urgent, resends, resends_urgent, resends_urgent_as, retried_urgent, new_sends, then_sends, ticked, ticked_as, life_of, is_urgent_spent, urgent_last, urgent_opens, normal_opens, urgent_tried, normal_tried, tried_at, due_of}
use Rattle.tp4_sending.specs.Pieces.{end_of, again, is_due, is_spent, resent, due_from, least_due, sooner}
use Rattle.tp4_sending.specs.Settled.{IsDue, IsHeld, IsSettled, Acts, waits_urgent}
use Rattle.tp4_sending.proofs.Goings.{stop}
use Rattle.tp4_sending.proofs.Settles.{rule_waits}
use Rattle.tp4_sending.proofs.Weights.{weight, by_tests, resends_more, urgent_more, one_urgent_more, one_urgent_told, where_more, where_goes, where_told}

-- the earlier of two is due exactly where one of them is
pub either_due : (a b : Option ℕ) (now : ℕ) → IsDue (sooner a b) now → IsDue a now ⊎ IsDue b now
either_due None b now h = inr h
either_due (Some n) None now h = inl h
either_due (Some n) (Some m) now h = elim (cases_lt m n) [ inl less ↦ inr (omega (arith, h, less)) | inr more ↦ inl (omega (arith, h, more)) ]

pub first_due : (a b : Option ℕ) (now : ℕ) → IsDue a now → IsDue (sooner a b) now
first_due None b now h = absurd h
first_due (Some n) None now h = h
first_due (Some n) (Some m) now h = omega (arith, h)

pub second_due : (a b : Option ℕ) (now : ℕ) → IsDue b now → IsDue (sooner a b) now
second_due None b now h = h
second_due (Some n) None now h = absurd h
second_due (Some n) (Some m) now h = omega (arith, h)

-- it is due or it is not
or_not : (a : Option ℕ) (now : ℕ) → IsDue a now ⊎ (IsDue a now → ⊥)
or_not None now = inr (λ h. h)
or_not (Some n) now = elim (cases_lt now n) [ inl less ↦ inr (λ h. absurd (omega (arith, h, less))) | inr more ↦ inl more ]

-- no DT of the window is due
record Quiet (t1 most now n : ℕ) (window : List Tries) : Type 0 where
  spent : list_any (is_spent t1 most now) window ≡ false
  due : due_from t1 now n window ≡ []
  same : resent t1 now window ≡ window

quiet : (t1 most now n : ℕ) (window : List Tries) → (IsDue (least_due t1 window) now → ⊥) → Quiet t1 most now n window
quiet t1 most now n [] h = record { spent = refl; due = refl; same = refl }
quiet t1 most now n (x ∷ window) h =
    let here : is_due t1 now x ≡ false = lt-leb _ _ (above (x.last + t1) (λ k. h (first_due (Some (x.last + t1)) (least_due t1 window) now k))) in
    let rest = quiet t1 most now (n + 1) window (λ k. h (second_due (Some (x.last + t1)) (least_due t1 window) now k)) in
    record {
      spent = or_from _ _ (and_left (is_due t1 now x) (nat_le most x.count) here) rest.spent;
      due = ap (λ (b : Bool). if b then n ∷ due_from t1 now (n + 1) window else due_from t1 now (n + 1) window) here ∙ rest.due;
      same = ap (λ (b : Bool). (if b then again now x else x) ∷ resent t1 now window) here ∙ ap (λ (l : List Tries). x ∷ l) rest.same;
    }
  where
    above : (m : ℕ) → (m ≤ now → ⊥) → now < m
    above m k = elim (cases_lt now m) [ inl less ↦ less | inr more ↦ absurd (k more) ]

no_resends : (s : FlowSender) → (IsDue (least_due s.rules.t1 s.window) s.clock → ⊥) → resends s ≡ nothing s
no_resends s h =
    let q = quiet s.rules.t1 s.rules.sendings s.clock s.numbers.base s.window h in
    λ i. record {
      sender = record s { numbers = record s.numbers { blocks = marked_all (block_in s) s.clock s.numbers.blocks (q.due i) }; window = q.same i };
      events = [];
      tpdus = all_dts s (q.due i);
    }

no_urgent_again : (s : FlowSender) (out : Option Tries) → (IsDue (urgent_last s out) s.clock → ⊥) → (resends_urgent_as out s ≡ nothing s) × (is_urgent_spent s out ≡ false)
no_urgent_again s None h = (refl, refl)
no_urgent_again s (Some tries) h =
    let late : is_due s.rules.t1 s.clock tries ≡ false = false_from_ne_true _ (λ e. h (leb-true _ _ e)) in (
      ap (λ (b : Bool). if b then record { sender = retried_urgent s tries; events = []; tpdus = eds s (s.urgent.next - 1) s.urgent.units } else nothing s) late,
      and_left (is_due s.rules.t1 s.clock tries) (nat_le s.rules.sendings tries.count) late,
    )

-- what the rule lets go at its tick and not before
opened_at : (s : FlowSender) (blocks : Blocks) (n : ℕ) → is_some (opens_at (block_in s) s.rules.limit blocks n) ≡ true
    → (IsDue (opens_at (block_in s) s.rules.limit blocks n) s.clock → rule_allows s blocks n ≡ true) × ((IsDue (opens_at (block_in s) s.rules.limit blocks n) s.clock → ⊥) → rule_allows s blocks n ≡ false)
opened_at s blocks n there = by (nat_lt n (blocks.first + block_in s) || nat_le blocks.first (block_in s)) there
  where
    by : (b : Bool) → is_some (if b then None else Some (blocks.third + s.rules.limit + 1)) ≡ true
        → (IsDue (if b then None else Some (blocks.third + s.rules.limit + 1)) s.clock → (b || nat_lt (blocks.third + s.rules.limit) s.clock) ≡ true)
        × ((IsDue (if b then None else Some (blocks.third + s.rules.limit + 1)) s.clock → ⊥) → (b || nat_lt (blocks.third + s.rules.limit) s.clock) ≡ false)
    by true e = absurd (false≢true e)
    by false e = (λ h. lt-ltb _ _ (omega (arith, h)), λ h. false_from_ne_true _ (λ t. h (let past : blocks.third + s.rules.limit < s.clock = ltb-true _ _ t in omega (arith, past))))

-- a number that is not tried now is held back, and was told
is_held : (s : FlowSender) (blocks : Blocks) (n : ℕ) (noted : Option ℕ) → (tried_at (is_noted noted n) (opens_at (block_in s) s.rules.limit blocks n) ≤ s.clock → ⊥)
    → IsHeld (block_in s) s.rules.limit blocks n noted × (IsDue (opens_at (block_in s) s.rules.limit blocks n) s.clock → ⊥)
is_held s blocks n noted h = by (is_noted noted n) refl (opens_at (block_in s) s.rules.limit blocks n) refl h
  where
    by : (told : Bool) → is_noted noted n ≡ told → (opens : Option ℕ) → opens_at (block_in s) s.rules.limit blocks n ≡ opens → (tried_at told opens ≤ s.clock → ⊥)
        → IsHeld (block_in s) s.rules.limit blocks n noted × (IsDue (opens_at (block_in s) s.rules.limit blocks n) s.clock → ⊥)
    by false t opens o k = absurd (k (omega arith))
    by true t None o k = absurd (k (omega arith))
    by true t (Some tick) o k = (record { rule = ap is_some o; told = t }, λ due. k (subst (λ (x : Option ℕ). IsDue x s.clock) o due))

-- a number that is tried now and held back was not told
untold : (s : FlowSender) (blocks : Blocks) (n : ℕ) (noted : Option ℕ) → rule_allows s blocks n ≡ false
    → tried_at (is_noted noted n) (opens_at (block_in s) s.rules.limit blocks n) ≤ s.clock → is_noted noted n ≡ false
untold s blocks n noted rule h = by (is_noted noted n) refl (opens_at (block_in s) s.rules.limit blocks n) refl h
  where
    by : (told : Bool) → is_noted noted n ≡ told → (opens : Option ℕ) → opens_at (block_in s) s.rules.limit blocks n ≡ opens → tried_at told opens ≤ s.clock → is_noted noted n ≡ false
    by false t opens o k = t
    by true t None o k = absurd (true≢false (sym (rule_waits s blocks n rule) ∙ ap is_some o))
    by true t (Some tick) o k =
        let due : IsDue (opens_at (block_in s) s.rules.limit blocks n) s.clock = subst (λ (x : Option ℕ). IsDue x s.clock) (sym o) k in
        absurd (true≢false (sym ((opened_at s blocks n (ap is_some o)).0 due) ∙ rule))

abbrev tests : FlowSender → Bool → Bool → Sendings
tests s allowed noted =
    if allowed then record { sender = sent_urgent s; events = []; tpdus = eds s s.urgent.next s.urgent.units }
    else if noted then nothing s
    else record { sender = record s { urgent = record s.urgent { noted = Some s.urgent.next } }; events = holds s Ed s.urgent.next ∷ []; tpdus = [] }

no_one_urgent : (s : FlowSender) → (IsDue (urgent_opens s) s.clock → ⊥) → one_urgent s ≡ nothing s
no_one_urgent s h = by (is_some s.urgent.out || length s.urgent.units == 0) h
  where
    by : (b : Bool) → (IsDue (if b then None else Some (urgent_tried s)) s.clock → ⊥)
        → (if b then nothing s else tests s (rule_allows s s.urgent.blocks s.urgent.next) (is_noted s.urgent.noted s.urgent.next)) ≡ nothing s
    by true d = refl
    by false d =
        let held = is_held s s.urgent.blocks s.urgent.next s.urgent.noted d in
        ap (λ (a : Bool). tests s a (is_noted s.urgent.noted s.urgent.next)) ((opened_at s s.urgent.blocks s.urgent.next held.0.rule).1 held.1) ∙ ap (tests s false) held.0.told

normals_held : (fuel : ℕ) (s : FlowSender) → has_next s ≡ true → rule_allows s s.numbers.blocks s.numbers.next ≡ false → is_noted s.noted s.numbers.next ≡ true → normals fuel s ≡ nothing s
normals_held zero s more rule told = refl
normals_held (suc fuel) s more rule told =
    ap (λ (b : Bool). by_tests fuel s b (rule_allows s s.numbers.blocks s.numbers.next) (is_noted s.noted s.numbers.next)) more
    ∙ ap (λ (b : Bool). by_tests fuel s true b (is_noted s.noted s.numbers.next)) rule
    ∙ ap (λ (b : Bool). by_tests fuel s true false b) told

no_normals : (s : FlowSender) → (IsDue (normal_opens s) s.clock → ⊥) → normals_where s ≡ nothing s
no_normals s h = by (is_urgent s) (has_next s) refl h
  where
    by : (urgent more : Bool) → has_next s ≡ more → (IsDue (if urgent || not more then None else Some (normal_tried s)) s.clock → ⊥)
        → (if urgent then nothing s else all_normals s) ≡ nothing s
    by true more e d = refl
    by false false e d = stop (end_of s.rules.piece s.queue - s.numbers.next) s e
    by false true e d =
        let held = is_held s s.numbers.blocks s.numbers.next s.noted d in
        normals_held (end_of s.rules.piece s.queue - s.numbers.next) s e ((opened_at s s.numbers.blocks s.numbers.next held.0.rule).1 held.1) held.0.told

no_new : (s : FlowSender) → s.is_open ≡ true → one_urgent s ≡ nothing s → normals_where s ≡ nothing s → new_sends s ≡ nothing s
no_new s o u n =
    ap (λ (b : Bool). if b then then_sends (one_urgent s) normals_where else nothing s) o
    ∙ ap (λ (x : Sendings). then_sends x normals_where) u
    ∙ ap (λ (y : Sendings). record { sender = y.sender; events = [] ++ y.events; tpdus = [] ++ y.tpdus }) n

then_nothing : (s : FlowSender) (x : Sendings) (next : FlowSender → Sendings) → x ≡ nothing s → next s ≡ nothing s → then_sends x next ≡ nothing s
then_nothing s x next e n =
    ap (λ (y : Sendings). then_sends y next) e ∙ ap (λ (y : Sendings). record { sender = y.sender; events = [] ++ y.events; tpdus = [] ++ y.tpdus }) n

abbrev pub urgent_part : FlowSender → Option ℕ
urgent_part s = sooner (urgent_last s s.urgent.out) (sooner (urgent_opens s) (normal_opens s))

abbrev pub all_parts : FlowSender → Option ℕ
all_parts s = sooner (least_due s.rules.t1 s.window) (urgent_part s)

-- nothing is due: the tick does nothing
calm : (s : FlowSender) → s.is_open ≡ true → (IsDue (all_parts s) s.clock → ⊥) → (life_of s ≡ Goes) × (ticked s ≡ nothing s)
calm s o h =
    let window : IsDue (least_due s.rules.t1 s.window) s.clock → ⊥ = λ k. h (first_due (least_due s.rules.t1 s.window) (urgent_part s) s.clock k) in
    let rest : IsDue (urgent_part s) s.clock → ⊥ = λ k. h (second_due (least_due s.rules.t1 s.window) (urgent_part s) s.clock k) in
    let last : IsDue (urgent_last s s.urgent.out) s.clock → ⊥ = λ k. rest (first_due (urgent_last s s.urgent.out) (sooner (urgent_opens s) (normal_opens s)) s.clock k) in
    let opens : IsDue (sooner (urgent_opens s) (normal_opens s)) s.clock → ⊥ = λ k. rest (second_due (urgent_last s s.urgent.out) (sooner (urgent_opens s) (normal_opens s)) s.clock k) in
    let again = no_urgent_again s s.urgent.out last in
    let goes : life_of s ≡ Goes = ap (λ (b : Bool). if b then Exhausted else Goes) (or_from _ _ (quiet s.rules.t1 s.rules.sendings s.clock 0 s.window window).spent again.1) in
    let one = no_one_urgent s (λ k. opens (first_due (urgent_opens s) (normal_opens s) s.clock k)) in
    let normals_none = no_normals s (λ k. opens (second_due (urgent_opens s) (normal_opens s) s.clock k)) in (
      goes,
      ap (λ (l : Life). ticked_as l s) goes
          ∙ then_nothing s (then_sends (resends s) resends_urgent) new_sends (then_nothing s (resends s) resends_urgent (no_resends s window) again.0) (no_new s o one normals_none),
    )

-- a tick that goes on weighs no less
new_more : (s : FlowSender) → weight s ≤ weight (new_sends s).sender
new_more s = by s.is_open
  where
    by : (b : Bool) → weight s ≤ weight (if b then then_sends (one_urgent s) normals_where else nothing s).sender
    by true = omega (arith, (one_urgent_more s).0, where_more (one_urgent s).sender)
    by false = omega arith

new_goes : (s : FlowSender) → s.is_open ≡ true → weight s < weight (normals_where (one_urgent s).sender).sender → weight s < weight (new_sends s).sender
new_goes s o less = subst (λ (b : Bool). weight s < weight (if b then then_sends (one_urgent s) normals_where else nothing s).sender) (sym o) less

-- more than nothing: the half weighs more, or something is told
abbrev Stirred : FlowSender → Sendings → Type 0
Stirred s x = (weight s < weight x.sender) ⊎ (0 < length x.events)

front_told : (xs ys : List EndEvent) → 0 < length xs → 0 < length (xs ++ ys)
front_told xs ys some = omega (arith, some, length-append xs ys)

back_told : (xs ys : List EndEvent) → 0 < length ys → 0 < length (xs ++ ys)
back_told xs ys some = omega (arith, some, length-append xs ys)

first_told : (s : FlowSender) → s.is_open ≡ true → 0 < length (one_urgent s).events → 0 < length (new_sends s).events
first_told s o some = subst (λ (b : Bool). 0 < length (if b then then_sends (one_urgent s) normals_where else nothing s).events) (sym o)
    (front_told (one_urgent s).events (normals_where (one_urgent s).sender).events some)

later_told : (s : FlowSender) → s.is_open ≡ true → 0 < length (normals_where (one_urgent s).sender).events → 0 < length (new_sends s).events
later_told s o some = subst (λ (b : Bool). 0 < length (if b then then_sends (one_urgent s) normals_where else nothing s).events) (sym o)
    (back_told (one_urgent s).events (normals_where (one_urgent s).sender).events some)

-- what the new sends do, the tick does
tick_stirred : (s : FlowSender) → Stirred s (new_sends (resends_urgent (resends s).sender).sender) → Stirred s (ticked_as Goes s)
tick_stirred s (inl less) = inl less
tick_stirred s (inr some) = inr (back_told (then_sends (resends s) resends_urgent).events (new_sends (resends_urgent (resends s).sender).sender).events some)

-- something is due: the tick weighs more, or tells something
stirs : (s : FlowSender) → s.is_open ≡ true → IsDue (all_parts s) s.clock → Stirred s (ticked_as Goes s)
stirs s o h = elim (or_not (least_due s.rules.t1 s.window) s.clock) [
  | inl window ↦ inl (omega (arith, (resends_more s).1 window, (urgent_more (resends s).sender (resends s).sender.urgent.out refl).0, new_more (resends_urgent (resends s).sender).sender))
  | inr no_window ↦
      let same : (resends s).sender ≡ s = ap (λ (x : Sendings). x.sender) (no_resends s no_window) in
      tick_stirred s (subst (λ (m : FlowSender). Stirred s (new_sends (resends_urgent m).sender)) (sym same)
      (after_window (elim (either_due (least_due s.rules.t1 s.window) (urgent_part s) s.clock h) [ inl k ↦ absurd (no_window k) | inr k ↦ k ])))
]
  where
    last_goes : (out : Option Tries) → s.urgent.out ≡ out → IsDue (urgent_last s out) s.clock → weight s < weight (resends_urgent_as out s).sender
    last_goes None e k = absurd k
    last_goes (Some tries) e k = (urgent_more s (Some tries) e).1 tries refl k

    urgent_goes : (b : Bool) → (is_some s.urgent.out || length s.urgent.units == 0) ≡ b → IsDue (if b then None else Some (urgent_tried s)) s.clock → Stirred s (new_sends s)
    urgent_goes true e k = absurd k
    urgent_goes false e k =
        let waits : waits_urgent s ≡ true = ap not e in
        elim (cases_Bool (rule_allows s s.urgent.blocks s.urgent.next)) [
          | inl allowed ↦
              (let less : weight s < weight (one_urgent s).sender = (one_urgent_more s).1 waits allowed in
              inl (new_goes s o (omega (arith, less, where_more (one_urgent s).sender))))
          | inr held ↦ inr (first_told s o (one_urgent_told s waits held (untold s s.urgent.blocks s.urgent.next s.urgent.noted held k)))
        ]

    normal_goes : (urgent more : Bool) → is_urgent s ≡ urgent → has_next s ≡ more → IsDue (if urgent || not more then None else Some (normal_tried s)) s.clock → Stirred s (new_sends s)
    normal_goes true more u e k = absurd k
    normal_goes false false u e k = absurd k
    normal_goes false true u e k =
        let empty : (length s.urgent.units == 0) ≡ true = not-false _ u in
        let none : one_urgent s ≡ nothing s = ap (λ (b : Bool). if b then nothing s else if rule_allows s s.urgent.blocks s.urgent.next then record { sender = sent_urgent s; events = []; tpdus = eds s s.urgent.next s.urgent.units } else held_urgent s) (or_right _ _ empty) in
        elim (cases_Bool (rule_allows s s.numbers.blocks s.numbers.next)) [
          | inl allowed ↦
              (let less : weight s < weight (normals_where s).sender = where_goes s u e allowed in
              inl (new_goes s o (subst (λ (x : Sendings). weight s < weight (normals_where x.sender).sender) (sym none) less)))
          | inr held ↦
              (let some : 0 < length (normals_where s).events = where_told s u e held (untold s s.numbers.blocks s.numbers.next s.noted held k) in
              inr (later_told s o (subst (λ (x : Sendings). 0 < length (normals_where x.sender).events) (sym none) some)))
        ]

    after_urgent : (IsDue (urgent_last s s.urgent.out) s.clock → ⊥) → IsDue (sooner (urgent_opens s) (normal_opens s)) s.clock → Stirred s (new_sends (resends_urgent s).sender)
    after_urgent no_last k =
        let same : (resends_urgent s).sender ≡ s = ap (λ (x : Sendings). x.sender) (no_urgent_again s s.urgent.out no_last).0 in
        subst (λ (m : FlowSender). Stirred s (new_sends m)) (sym same) (elim (either_due (urgent_opens s) (normal_opens s) s.clock k) [
          | inl one ↦ urgent_goes (is_some s.urgent.out || length s.urgent.units == 0) refl one
          | inr other ↦ normal_goes (is_urgent s) (has_next s) refl refl other
        ])

    after_window : IsDue (urgent_part s) s.clock → Stirred s (new_sends (resends_urgent s).sender)
    after_window k = elim (or_not (urgent_last s s.urgent.out) s.clock) [
      | inl last ↦ inl (omega (arith, last_goes s.urgent.out refl last, new_more (resends_urgent s).sender))
      | inr no_last ↦ after_urgent no_last (elim (either_due (urgent_last s s.urgent.out) (sooner (urgent_opens s) (normal_opens s)) s.clock k) [ inl l ↦ absurd (no_last l) | inr l ↦ l ])
    ]

pub due_is : (s : FlowSender) → s.is_open ≡ true → due_of s ≡ all_parts s
due_is s o = ap (λ (b : Bool). if b then all_parts s else None) o

no_act : (s : FlowSender) → (life_of s ≡ Goes) × (ticked s ≡ nothing s) → Acts s → ⊥
no_act s c (inl gone) = absurd (cc (sym gone ∙ c.0))
no_act s c (inr other) = other c.1

acts : (s : FlowSender) → s.is_open ≡ true → IsDue (all_parts s) s.clock → (life : Life) → life_of s ≡ life → Acts s
acts s o h Exhausted e = inl e
acts s o h Goes e = inr (λ same.
    let whole : ticked_as Goes s ≡ nothing s = ap (λ (l : Life). ticked_as l s) (sym e) ∙ same in
    elim (stirs s o h) [
      | inl less ↦ absurd (omega (arith, less, ap (λ (x : Sendings). weight x.sender) whole))
      | inr some ↦ (let none : length (ticked_as Goes s).events ≡ 0 = ap (λ (x : Sendings). length x.events) whole in absurd (omega (arith, some, none)))
    ])

pub later : (s : FlowSender) (now : ℕ) → IsSettled s → IsSettled (at now s)
later s now h = record { urgent = h.urgent; normal = h.normal }

pub least : (s : FlowSender) (now : ℕ) → s.is_open ≡ true → Acts (at now s) ↔ IsDue (due_of s) now
least s now o = (forth, back)
  where
    forth : Acts (at now s) → IsDue (due_of s) now
    forth a = subst (λ (d : Option ℕ). IsDue d now) (sym (due_is s o)) (elim (or_not (all_parts s) now) [
      | inl due ↦ due
      | inr not_due ↦ absurd (no_act (at now s) (calm (at now s) o not_due) a)
    ])

    back : IsDue (due_of s) now → Acts (at now s)
    back due = acts (at now s) o (subst (λ (d : Option ℕ). IsDue d now) (due_is s o) due) (life_of (at now s)) refl

-- before it is due a tick goes on and does nothing
pub before_due : (s : FlowSender) (now : ℕ) → s.is_open ≡ true → (IsDue (due_of s) now → ⊥) → (life_of (at now s) ≡ Goes) × (ticked (at now s) ≡ nothing (at now s))
before_due s now o early = calm (at now s) o (λ due. early (subst (λ (d : Option ℕ). IsDue d now) (sym (due_is s o)) due))
