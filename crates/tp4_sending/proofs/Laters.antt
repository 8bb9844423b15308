-- After a tick that goes on nothing is due: a DT or an ED that was due was sent now, the others wait, and what is next was tried
-- against the number rule. So it is after new sends, by a tick that is not after now, where nothing that was sent was due by it.
use Rattle.std.proofs.Common.{◌≡◌, ℕ, zero, suc, ◌+◌, ◌-◌, ◌<◌, ◌≤◌, Bool, true, false, ◌||◌, ◌==◌, nat_lt, nat_le, if◌then◌else◌, List, [], ◌∷◌, ◌++◌, length, Option, Some, None, refl, sym, ◌∙◌, ap, subst, arith, inl, inr}
use Rattle.std.specs.Prelude.{not, is_some}
use Rattle.std.proofs.lemmas.Bool.{or_parts, and_parts, and_right, le-ltb, lt-ltb, leb-false, ltb-true, true≢false, false≢true}
use Rattle.tp4_flow.specs.declared.rules.Life.{Life}
use Rattle.tp4_flow.specs.declared.rules.Life.TheVariants.{Goes}
use Rattle.tpdu.specs.declared.service.HeldKind.TheVariants.{Dt, Ed}
use Rattle.tp4_number.specs.declared.blocks.Blocks.{Blocks}
use Rattle.tp4_number.specs.Sender.{opens_at}
use Rattle.tp4_sending.specs.declared.tries.Tries.{Tries}
use Rattle.tp4_sending.specs.SendingHalf.{FlowSender, nothing, before, then_sends, block_in, rule_allows, is_noted, holds, is_urgent, has_next, eds, dts_of, sent_normal, normals, all_normals, normals_where, sent_urgent, one_urgent, resends, resends_urgent, resends_urgent_as, retried_urgent, new_sends, ticked, ticked_as, life_of, urgent_last, urgent_opens, normal_opens, urgent_tried, normal_tried, tried_at, due_of}
use Rattle.tp4_sending.specs.Pieces.{end_of, once, again, is_due, resent, least_due, sooner}
use Rattle.tp4_sending.specs.Settled.{IsDue}
use Rattle.tp4_sending.proofs.Dues.{either_due, first_due, second_due, due_is, urgent_part}
use Rattle.tp4_sending.proofs.Settles.{itself, rule_waits}

-- what is sent now is due later
resent_late : (t1 now : ℕ) (window : List Tries) → 0 < t1 → IsDue (least_due t1 (resent t1 now window)) now → ⊥
resent_late t1 now [] some k = k
resent_late t1 now (x ∷ window) some k =
    elim (either_due (Some ((if is_due t1 now x then again now x else x).last + t1)) (least_due t1 (resent t1 now window)) now k) [
      | inl first ↦ head (is_due t1 now x) refl first
      | inr rest ↦ resent_late t1 now window some rest
    ]
  where
    head : (b : Bool) → is_due t1 now x ≡ b → (if b then again now x else x).last + t1 ≤ now → ⊥
    head true e h = absurd (omega (arith, some, h))
    head false e h = let low : now < x.last + t1 = leb-false (x.last + t1) now e in absurd (omega (arith, low, h))

added_late : (t1 tick now : ℕ) (window : List Tries) → now < tick + t1 → (IsDue (least_due t1 window) now → ⊥) → IsDue (least_due t1 (window ++ once tick ∷ [])) now → ⊥
added_late t1 tick now [] soon h k = absurd (omega (arith, soon, k))
added_late t1 tick now (x ∷ window) soon h k =
    elim (either_due (Some (x.last + t1)) (least_due t1 (window ++ once tick ∷ [])) now k) [
      | inl first ↦ h (first_due (Some (x.last + t1)) (least_due t1 window) now first)
      | inr rest ↦ added_late t1 tick now window soon (λ r. h (second_due (Some (x.last + t1)) (least_due t1 window) now r)) rest
    ]

-- the window waits, by a tick that is not after now
pub record Early (b now : ℕ) (s : FlowSender) : Type 0 where
  pub is_open : s.is_open ≡ true
  pub clock : s.clock ≡ now
  pub some : 0 < s.rules.t1
  pub bound : b ≤ now
  pub window : IsDue (least_due s.rules.t1 s.window) b → ⊥

-- the ED that is outstanding waits too
pub record Late (b now : ℕ) (s : FlowSender) : Type 0 where
  pub early : Early b now s
  pub last : IsDue (urgent_last s s.urgent.out) b → ⊥

-- and the next ED
pub record Waits (b now : ℕ) (s : FlowSender) : Type 0 where
  pub late : Late b now s
  pub opens : IsDue (urgent_opens s) now → ⊥

-- and the next DT
pub record Rests (b now : ℕ) (s : FlowSender) : Type 0 where
  pub waits : Waits b now s
  pub opens : IsDue (normal_opens s) now → ⊥

-- an ED that was due is sent now
again_late : (b now : ℕ) (s : FlowSender) (out : Option Tries) → s.urgent.out ≡ out → Early b now s → Late b now (resends_urgent_as out s).sender
again_late b now s None e h = record { early = h; last = λ k. subst (λ (o : Option Tries). IsDue (urgent_last s o) b) e k }
again_late b now s (Some tries) e h = by (is_due s.rules.t1 s.clock tries) refl
  where
    by : (due : Bool) → is_due s.rules.t1 s.clock tries ≡ due
        → Late b now (if due then record { sender = retried_urgent s tries; events = []; tpdus = eds s (s.urgent.next - 1) s.urgent.units } else nothing s).sender
    by true t = record {
      early = record { is_open = h.is_open; clock = h.clock; some = h.some; bound = h.bound; window = h.window };
      last = λ k. absurd (omega (arith, h.clock, h.some, h.bound, k));
    }
    by false t = record {
      early = h;
      last = λ k.
          let past : tries.last + s.rules.t1 ≤ b = subst (λ (o : Option Tries). IsDue (urgent_last s o) b) e k in
          let low : s.clock < tries.last + s.rules.t1 = leb-false (tries.last + s.rules.t1) s.clock t in absurd (omega (arith, past, low, h.clock, h.bound));
    }

-- what the rule holds back now it holds back later too
rule_late : (s : FlowSender) (blocks : Blocks) (n now : ℕ) → s.clock ≡ now → rule_allows s blocks n ≡ false → IsDue (opens_at (block_in s) s.rules.limit blocks n) now → ⊥
rule_late s blocks n now e r = by (nat_lt n (blocks.first + block_in s) || nat_le blocks.first (block_in s)) r
  where
    by : (b : Bool) → (b || nat_lt (blocks.third + s.rules.limit) s.clock) ≡ false → IsDue (if b then None else Some (blocks.third + s.rules.limit + 1)) now → ⊥
    by true f k = k
    by false f k = absurd (true≢false (sym (lt-ltb (blocks.third + s.rules.limit) s.clock (omega (arith, k, e))) ∙ f))

-- so a number that was told is not tried now
tried_late : (told : Bool) (opens : Option ℕ) (now : ℕ) → told ≡ true → is_some opens ≡ true → (IsDue opens now → ⊥) → tried_at told opens ≤ now → ⊥
tried_late false opens now t some late k = absurd (false≢true t)
tried_late true None now t some late k = absurd (false≢true some)
tried_late true (Some tick) now t some late k = late k

told_late : (s : FlowSender) (blocks : Blocks) (n now : ℕ) (told : Bool) → s.clock ≡ now → rule_allows s blocks n ≡ false → told ≡ true
    → tried_at told (opens_at (block_in s) s.rules.limit blocks n) ≤ now → ⊥
told_late s blocks n now told e r t = tried_late told (opens_at (block_in s) s.rules.limit blocks n) now t (rule_waits s blocks n r) (rule_late s blocks n now e r)

unless_due : (b : Bool) (next : Option ℕ) (now : ℕ) → (b ≡ false → IsDue next now → ⊥) → IsDue (if b then None else next) now → ⊥
unless_due true next now h k = k
unless_due false next now h k = h refl k

urgent_waits : (b now : ℕ) (s : FlowSender) → Late b now s → Waits b now (one_urgent s).sender
urgent_waits b now s h =
    by (is_some s.urgent.out || length s.urgent.units == 0) refl (rule_allows s s.urgent.blocks s.urgent.next) refl (is_noted s.urgent.noted s.urgent.next) refl
  where
    held : (told : Bool) → rule_allows s s.urgent.blocks s.urgent.next ≡ false → told ≡ true
        → IsDue (if is_some s.urgent.out || length s.urgent.units == 0 then None else Some (tried_at told (opens_at (block_in s) s.rules.limit s.urgent.blocks s.urgent.next))) now → ⊥
    held told r t = unless_due (is_some s.urgent.out || length s.urgent.units == 0) (Some (tried_at told (opens_at (block_in s) s.rules.limit s.urgent.blocks s.urgent.next))) now
        (λ _. told_late s s.urgent.blocks s.urgent.next now told h.early.clock r t)

    by : (busy : Bool) → (is_some s.urgent.out || length s.urgent.units == 0) ≡ busy → (allowed : Bool) → rule_allows s s.urgent.blocks s.urgent.next ≡ allowed
        → (noted : Bool) → is_noted s.urgent.noted s.urgent.next ≡ noted
        → Waits b now (if busy then nothing s
        else if allowed then record { sender = sent_urgent s; events = []; tpdus = eds s s.urgent.next s.urgent.units }
        else if noted then nothing s
        else record { sender = record s { urgent = record s.urgent { noted = Some s.urgent.next } }; events = holds s Ed s.urgent.next ∷ []; tpdus = [] }).sender
    by true e allowed r noted n = record {
      late = h;
      opens = unless_due (is_some s.urgent.out || length s.urgent.units == 0) (Some (urgent_tried s)) now (λ f. absurd (true≢false (sym e ∙ f)));
    }
    by false e true r noted n = record {
      late = record {
        early = record { is_open = h.early.is_open; clock = h.early.clock; some = h.early.some; bound = h.early.bound; window = h.early.window };
        last = λ k. absurd (omega (arith, h.early.clock, h.early.some, h.early.bound, k));
      };
      opens = λ k. k;
    }
    by false e false r true n = record { late = h; opens = held (is_noted s.urgent.noted s.urgent.next) r n }
    by false e false r false n = record {
      late = record { early = record { is_open = h.early.is_open; clock = h.early.clock; some = h.early.some; bound = h.early.bound; window = h.early.window }; last = h.last };
      opens = held (s.urgent.next == s.urgent.next) r (itself s.urgent.next);
    }

no_more : (now : ℕ) (s : FlowSender) → has_next s ≡ false → IsDue (normal_opens s) now → ⊥
no_more now s e = unless_due (is_urgent s || not (has_next s)) (Some (normal_tried s)) now
    (λ f. absurd (true≢false (ap not (sym e) ∙ (or_parts (is_urgent s) (not (has_next s)) f).1)))

held_back : (now : ℕ) (s : FlowSender) (told : Bool) → s.clock ≡ now → rule_allows s s.numbers.blocks s.numbers.next ≡ false → told ≡ true
    → IsDue (if is_urgent s || not (has_next s) then None else Some (tried_at told (opens_at (block_in s) s.rules.limit s.numbers.blocks s.numbers.next))) now → ⊥
held_back now s told c r t = unless_due (is_urgent s || not (has_next s)) (Some (tried_at told (opens_at (block_in s) s.rules.limit s.numbers.blocks s.numbers.next))) now
    (λ _. told_late s s.numbers.blocks s.numbers.next now told c r t)

sent_waits : (b now : ℕ) (s : FlowSender) → Waits b now s → Waits b now (sent_normal s)
sent_waits b now s h = record {
  late = record {
    early = record {
      is_open = h.late.early.is_open;
      clock = h.late.early.clock;
      some = h.late.early.some;
      bound = h.late.early.bound;
      window = added_late s.rules.t1 s.clock b s.window (omega (arith, h.late.early.clock, h.late.early.some, h.late.early.bound)) h.late.early.window;
    };
    last = h.late.last;
  };
  opens = h.opens;
}

normals_rest : (fuel b now : ℕ) (s : FlowSender) → Waits b now s → end_of s.rules.piece s.queue - s.numbers.next ≤ fuel → Rests b now (normals fuel s).sender
normals_rest zero b now s h f =
    let out : nat_lt s.numbers.next (end_of s.rules.piece s.queue) ≡ false = le-ltb _ _ (omega (arith, f)) in
    record { waits = h; opens = no_more now s (and_right _ _ out) }
normals_rest (suc fuel) b now s h f =
    by (has_next s) refl (rule_allows s s.numbers.blocks s.numbers.next) refl (is_noted s.noted s.numbers.next) refl
    (λ (more : has_next s ≡ true). normals_rest fuel b now (sent_normal s) (sent_waits b now s h) (let below : s.numbers.next < end_of s.rules.piece s.queue = ltb-true s.numbers.next (end_of s.rules.piece s.queue) (and_parts (nat_lt s.numbers.next (s.numbers.base + s.numbers.credit)) (nat_lt s.numbers.next (end_of s.rules.piece s.queue)) more).1 in omega (arith, below, f)))
  where
    by : (more : Bool) → has_next s ≡ more → (allowed : Bool) → rule_allows s s.numbers.blocks s.numbers.next ≡ allowed → (noted : Bool) → is_noted s.noted s.numbers.next ≡ noted
        → (has_next s ≡ true → Rests b now (normals fuel (sent_normal s)).sender)
        → Rests b now (if not more then nothing s
        else if allowed then before (dts_of s s.numbers.next) (normals fuel (sent_normal s))
        else if noted then nothing s
        else record { sender = record s { noted = Some s.numbers.next }; events = holds s Dt s.numbers.next ∷ []; tpdus = [] }).sender
    by false e allowed r noted n rest = record { waits = h; opens = no_more now s e }
    by true e true r noted n rest = rest e
    by true e false r true n rest = record { waits = h; opens = held_back now s (is_noted s.noted s.numbers.next) h.late.early.clock r n }
    by true e false r false n rest = record {
      waits = record {
        late = record {
          early = record { is_open = h.late.early.is_open; clock = h.late.early.clock; some = h.late.early.some; bound = h.late.early.bound; window = h.late.early.window };
          last = h.late.last;
        };
        opens = h.opens;
      };
      opens = held_back now s (s.numbers.next == s.numbers.next) h.late.early.clock r (itself s.numbers.next);
    }

where_rests : (b now : ℕ) (s : FlowSender) → Waits b now s → Rests b now (normals_where s).sender
where_rests b now s h = by (is_urgent s) refl
  where
    by : (t : Bool) → is_urgent s ≡ t → Rests b now (if t then nothing s else all_normals s).sender
    by true e = record {
      waits = h;
      opens = unless_due (is_urgent s || not (has_next s)) (Some (normal_tried s)) now
          (λ f. absurd (true≢false (sym e ∙ (or_parts (is_urgent s) (not (has_next s)) f).0)));
    }
    by false e = normals_rest (end_of s.rules.piece s.queue - s.numbers.next) b now s h (omega arith)

sooner_due : (due : Option ℕ) (b now : ℕ) → b ≤ now → IsDue due b → IsDue due now
sooner_due None b now h k = k
sooner_due (Some tick) b now h k = omega (arith, h, k)

pub not_due : (b now : ℕ) (s : FlowSender) → Rests b now s → IsDue (due_of s) b → ⊥
not_due b now s h due =
    elim (either_due (least_due s.rules.t1 s.window) (urgent_part s) b (subst (λ (d : Option ℕ). IsDue d b) (due_is s h.waits.late.early.is_open) due)) [
      | inl window ↦ h.waits.late.early.window window
      | inr rest ↦ elim (either_due (urgent_last s s.urgent.out) (sooner (urgent_opens s) (normal_opens s)) b rest) [
        | inl last ↦ h.waits.late.last last
        | inr opens ↦ elim (either_due (urgent_opens s) (normal_opens s) b opens) [
          | inl one ↦ h.waits.opens (sooner_due (urgent_opens s) b now h.waits.late.early.bound one)
          | inr other ↦ h.opens (sooner_due (normal_opens s) b now h.waits.late.early.bound other)
        ]
      ]
    ]

pub new_rests : (b : ℕ) (s : FlowSender) → s.is_open ≡ true → 0 < s.rules.t1 → b ≤ s.clock → (IsDue (least_due s.rules.t1 s.window) b → ⊥) → (IsDue (urgent_last s s.urgent.out) b → ⊥)
    → Rests b s.clock (new_sends s).sender
new_rests b s o some bound window last =
    let late : Late b s.clock s = record { early = record { is_open = o; clock = refl; some = some; bound = bound; window = window }; last = last } in
    subst (λ (t : Bool). Rests b s.clock (if t then then_sends (one_urgent s) normals_where else nothing s).sender) (sym o)
    (where_rests b s.clock (one_urgent s).sender (urgent_waits b s.clock s late))

goes_later : (s : FlowSender) → s.is_open ≡ true → 0 < s.rules.t1 → IsDue (due_of (ticked_as Goes s).sender) s.clock → ⊥
goes_later s o some =
    let m = (resends_urgent (resends s).sender).sender in
    let late : Late s.clock s.clock m = again_late s.clock s.clock (resends s).sender (resends s).sender.urgent.out refl
    (record { is_open = o; clock = refl; some = some; bound = omega arith; window = resent_late s.rules.t1 s.clock s.window some }) in
    not_due s.clock s.clock (new_sends m).sender
    (subst (λ (b : Bool). Rests s.clock s.clock (if b then then_sends (one_urgent m) normals_where else nothing m).sender) (sym late.early.is_open)
    (where_rests s.clock s.clock (one_urgent m).sender (urgent_waits s.clock s.clock m late)))

pub tick_later : (s : FlowSender) → s.is_open ≡ true → 0 < s.rules.t1 → life_of s ≡ Goes → IsDue (due_of (ticked s).sender) s.clock → ⊥
tick_later s o some goes due = goes_later s o some (subst (λ (l : Life). IsDue (due_of (ticked_as l s).sender) s.clock) goes due)
