-- A half that sends grows: the sendings of its window and of its ED, and its next number, taken together, never fall, and rise
-- with each sending.
use Rattle.std.proofs.Common.{◌≡◌, ℕ, zero, suc, ◌+◌, ◌-◌, ◌<◌, ◌≤◌, Bool, true, false, ◌||◌, ◌==◌, nat_lt, if◌then◌else◌, List, [], ◌∷◌, length, Option, Some, None, ◌⊎◌, inl, inr, refl, sym, ◌∙◌, ap, subst, arith}
use Rattle.std.specs.Prelude.{not, is_some}
use Rattle.std.specs.List.{sum_by}
use Rattle.std.proofs.lemmas.Bool.{le-leb, and_parts, ltb-true, true≢false, cases_lt}
use Rattle.std.proofs.lemmas.List.Sums.{sum_by-cons, sum_by-append}
use Rattle.tpdu.specs.declared.service.HeldKind.TheVariants.{Dt, Ed}
use Rattle.tp4_sending.specs.declared.tries.Tries.{Tries}
use Rattle.tp4_sending.specs.SendingHalf.{FlowSender, Sendings, nothing, before, rule_allows, is_noted, holds, is_urgent, has_next, dts_of, eds, sent_normal, normals, all_normals, normals_where, sent_urgent, one_urgent, resends, resends_urgent_as, retried_urgent}
use Rattle.tp4_sending.specs.Pieces.{end_of, is_due, once, again, resent, least_due, sooner}
use Rattle.tp4_sending.specs.Settled.{IsDue, waits_urgent}

abbrev counts : List Tries → ℕ
counts window = sum_by (λ (t : Tries). t.count) window

abbrev out_count : Option Tries → ℕ
out_count None = 0
out_count (Some tries) = tries.count

abbrev pub weight : FlowSender → ℕ
weight s = counts s.window + out_count s.urgent.out + s.numbers.next

-- the window is sent again
resent_more : (t1 now : ℕ) (window : List Tries) → counts window ≤ counts (resent t1 now window) × (IsDue (least_due t1 window) now → counts window < counts (resent t1 now window))
resent_more t1 now [] = (omega arith, λ h. absurd h)
resent_more t1 now (x ∷ window) = by (is_due t1 now x) refl (resent_more t1 now window)
  where
    first : IsDue (sooner (Some (x.last + t1)) (least_due t1 window)) now → (x.last + t1 ≤ now) ⊎ IsDue (least_due t1 window) now
    first h = which (least_due t1 window) h
      where
        which : (o : Option ℕ) → IsDue (sooner (Some (x.last + t1)) o) now → (x.last + t1 ≤ now) ⊎ IsDue o now
        which None k = inl k
        which (Some n) k = elim (cases_lt n (x.last + t1)) [ inl less ↦ inr (omega (arith, k, less)) | inr more ↦ inl (omega (arith, k, more)) ]

    by : (b : Bool) → is_due t1 now x ≡ b → counts window ≤ counts (resent t1 now window) × (IsDue (least_due t1 window) now → counts window < counts (resent t1 now window))
        → counts (x ∷ window) ≤ counts ((if b then again now x else x) ∷ resent t1 now window)
        × (IsDue (least_due t1 (x ∷ window)) now → counts (x ∷ window) < counts ((if b then again now x else x) ∷ resent t1 now window))
    by true e rest =
        let old = sum_by-cons (λ (t : Tries). t.count) x window in
        let new = sum_by-cons (λ (t : Tries). t.count) (again now x) (resent t1 now window) in
        (omega (arith, rest.0, old, new), λ _. omega (arith, rest.0, old, new))
    by false e rest =
        let old = sum_by-cons (λ (t : Tries). t.count) x window in
        let new = sum_by-cons (λ (t : Tries). t.count) x (resent t1 now window) in (
          omega (arith, rest.0, old, new),
          λ h. elim (first h) [
            | inl here ↦ absurd (true≢false (sym (le-leb _ _ here) ∙ e))
            | inr there ↦ let less : counts window < counts (resent t1 now window) = rest.1 there in omega (arith, less, old, new)
          ],
        )

pub resends_more : (s : FlowSender) → weight s ≤ weight (resends s).sender × (IsDue (least_due s.rules.t1 s.window) s.clock → weight s < weight (resends s).sender)
resends_more s =
    let more = resent_more s.rules.t1 s.clock s.window in
    (omega (arith, more.0), λ h. let less : counts s.window < counts (resent s.rules.t1 s.clock s.window) = more.1 h in omega (arith, less))

-- the ED is sent again
pub urgent_more : (s : FlowSender) (out : Option Tries) → s.urgent.out ≡ out
    → weight s ≤ weight (resends_urgent_as out s).sender × ((tries : Tries) → out ≡ Some tries → tries.last + s.rules.t1 ≤ s.clock → weight s < weight (resends_urgent_as out s).sender)
urgent_more s None e = (omega arith, λ tries is h. absurd (cc is))
urgent_more s (Some tries) e = by (is_due s.rules.t1 s.clock tries) refl
  where
    was : out_count s.urgent.out ≡ tries.count
    was = ap out_count e

    by : (b : Bool) → is_due s.rules.t1 s.clock tries ≡ b
        → weight s ≤ weight (if b then record { sender = retried_urgent s tries; events = []; tpdus = eds s (s.urgent.next - 1) s.urgent.units } else nothing s).sender
        × ((t : Tries) → Some tries ≡ Some t → t.last + s.rules.t1 ≤ s.clock
        → weight s < weight (if b then record { sender = retried_urgent s tries; events = []; tpdus = eds s (s.urgent.next - 1) s.urgent.units } else nothing s).sender)
    by true d = (omega (arith, was), λ t is h. omega (arith, was))
    by false d = (
      omega arith,
      λ t is h.
          let same : tries ≡ t = cc is in
          absurd (true≢false (sym (le-leb _ _ h) ∙ ap (is_due s.rules.t1 s.clock) (sym same) ∙ d)),
    )

abbrev after : FlowSender → Bool → Bool → Bool → Bool → Sendings
after s out empty allowed noted =
    if out || empty then nothing s
    else if allowed then record { sender = sent_urgent s; events = []; tpdus = eds s s.urgent.next s.urgent.units }
    else if noted then nothing s
    else record { sender = record s { urgent = record s.urgent { noted = Some s.urgent.next } }; events = holds s Ed s.urgent.next ∷ []; tpdus = [] }

-- the next ED goes
pub one_urgent_more : (s : FlowSender) → weight s ≤ weight (one_urgent s).sender
    × (waits_urgent s ≡ true → rule_allows s s.urgent.blocks s.urgent.next ≡ true → weight s < weight (one_urgent s).sender)
one_urgent_more s = by (is_some s.urgent.out) refl (length s.urgent.units == 0) (rule_allows s s.urgent.blocks s.urgent.next) refl (is_noted s.urgent.noted s.urgent.next)
  where
    none : (out : Option Tries) → is_some out ≡ false → out_count out ≡ 0
    none None e = refl
    none (Some tries) e = absurd (true≢false e)

    by : (out : Bool) → is_some s.urgent.out ≡ out → (empty allowed : Bool) → rule_allows s s.urgent.blocks s.urgent.next ≡ allowed → (noted : Bool)
        → weight s ≤ weight (after s out empty allowed noted).sender × (not (out || empty) ≡ true → allowed ≡ true → weight s < weight (after s out empty allowed noted).sender)
    by true e empty allowed r noted = (omega arith, λ w a. absurd (cc w))
    by false e true allowed r noted = (omega arith, λ w a. absurd (cc w))
    by false e false true r noted = (omega (arith, none s.urgent.out e), λ w a. omega (arith, none s.urgent.out e))
    by false e false false r true = (omega arith, λ w a. absurd (cc a))
    by false e false false r false = (omega arith, λ w a. absurd (cc a))

-- its number is told as held
pub one_urgent_told : (s : FlowSender) → waits_urgent s ≡ true → rule_allows s s.urgent.blocks s.urgent.next ≡ false → is_noted s.urgent.noted s.urgent.next ≡ false
    → 0 < length (one_urgent s).events
one_urgent_told s waits rule told = by (is_some s.urgent.out) (length s.urgent.units == 0) (rule_allows s s.urgent.blocks s.urgent.next) (is_noted s.urgent.noted s.urgent.next) waits rule told
  where
    by : (out empty allowed noted : Bool) → not (out || empty) ≡ true → allowed ≡ false → noted ≡ false → 0 < length (after s out empty allowed noted).events
    by true empty allowed noted w a n = absurd (cc w)
    by false true allowed noted w a n = absurd (cc w)
    by false false true noted w a n = absurd (cc a)
    by false false false true w a n = absurd (cc n)
    by false false false false w a n = omega arith

-- the next DTs go
abbrev pub by_tests : ℕ → FlowSender → Bool → Bool → Bool → Sendings
by_tests fuel s more allowed noted =
    if not more then nothing s
    else if allowed then before (dts_of s s.numbers.next) (normals fuel (sent_normal s))
    else if noted then nothing s
    else record { sender = record s { noted = Some s.numbers.next }; events = holds s Dt s.numbers.next ∷ []; tpdus = [] }

sent_more : (s : FlowSender) → weight s < weight (sent_normal s)
sent_more s = omega (arith, sum_by-append (λ (t : Tries). t.count) s.window (once s.clock ∷ []))

normals_more : (fuel : ℕ) (s : FlowSender) → weight s ≤ weight (normals fuel s).sender
normals_more zero s = omega arith
normals_more (suc fuel) s = by (has_next s) (rule_allows s s.numbers.blocks s.numbers.next) (is_noted s.noted s.numbers.next) (normals_more fuel (sent_normal s)) (sent_more s)
  where
    by : (more allowed noted : Bool) → weight (sent_normal s) ≤ weight (normals fuel (sent_normal s)).sender → weight s < weight (sent_normal s)
        → weight s ≤ weight (by_tests fuel s more allowed noted).sender
    by false allowed noted rest less = omega arith
    by true true noted rest less = omega (arith, rest, less)
    by true false true rest less = omega arith
    by true false false rest less = omega arith

pub where_more : (s : FlowSender) → weight s ≤ weight (normals_where s).sender
where_more s = by (is_urgent s)
  where
    by : (b : Bool) → weight s ≤ weight (if b then nothing s else all_normals s).sender
    by true = omega arith
    by false = normals_more (end_of s.rules.piece s.queue - s.numbers.next) s

pub where_goes : (s : FlowSender) → is_urgent s ≡ false → has_next s ≡ true → rule_allows s s.numbers.blocks s.numbers.next ≡ true → weight s < weight (normals_where s).sender
where_goes s calm more rule =
    let left : ℕ = end_of s.rules.piece s.queue - (s.numbers.next + 1) in
    let below : s.numbers.next < end_of s.rules.piece s.queue = ltb-true s.numbers.next (end_of s.rules.piece s.queue) (and_parts (nat_lt s.numbers.next (s.numbers.base + s.numbers.credit)) (nat_lt s.numbers.next (end_of s.rules.piece s.queue)) more).1 in
    let fuel : end_of s.rules.piece s.queue - s.numbers.next ≡ suc left = omega (arith, below) in
    let same : normals_where s ≡ before (dts_of s s.numbers.next) (normals left (sent_normal s)) =
    ap (λ (b : Bool). if b then nothing s else all_normals s) calm
    ∙ ap (λ (k : ℕ). normals k s) fuel
    ∙ ap (λ (b : Bool). by_tests left s b (rule_allows s s.numbers.blocks s.numbers.next) (is_noted s.noted s.numbers.next)) more
    ∙ ap (λ (b : Bool). by_tests left s true b (is_noted s.noted s.numbers.next)) rule in
    let rest = normals_more left (sent_normal s) in
    let less = sent_more s in
    let whole : weight s < weight (normals left (sent_normal s)).sender = omega (arith, rest, less) in
    subst (λ (x : Sendings). weight s < weight x.sender) (sym same) whole

-- the number of the next DT is told as held
pub where_told : (s : FlowSender) → is_urgent s ≡ false → has_next s ≡ true → rule_allows s s.numbers.blocks s.numbers.next ≡ false → is_noted s.noted s.numbers.next ≡ false
    → 0 < length (normals_where s).events
where_told s calm more rule told =
    let left : ℕ = end_of s.rules.piece s.queue - (s.numbers.next + 1) in
    let below : s.numbers.next < end_of s.rules.piece s.queue = ltb-true s.numbers.next (end_of s.rules.piece s.queue) (and_parts (nat_lt s.numbers.next (s.numbers.base + s.numbers.credit)) (nat_lt s.numbers.next (end_of s.rules.piece s.queue)) more).1 in
    let fuel : end_of s.rules.piece s.queue - s.numbers.next ≡ suc left = omega (arith, below) in
    let same : normals_where s ≡ by_tests left s true false false =
    ap (λ (b : Bool). if b then nothing s else all_normals s) calm
    ∙ ap (λ (k : ℕ). normals k s) fuel
    ∙ ap (λ (b : Bool). by_tests left s b (rule_allows s s.numbers.blocks s.numbers.next) (is_noted s.noted s.numbers.next)) more
    ∙ ap (λ (b : Bool). by_tests left s true b (is_noted s.noted s.numbers.next)) rule
    ∙ ap (λ (b : Bool). by_tests left s true false b) told in
    subst (λ (x : Sendings). 0 < length x.events) (sym same) (omega arith)
