-- Numbers stand in order and grow no faster than ticks, also after one more sending: for the first time, or again.
use Rattle.std.proofs.Common.{◌≡◌, ℕ, ◌+◌, ◌-◌, ◌*◌, ◌<◌, ◌≤◌, true, false, nat_lt, nat_le, ◌||◌, List, [], ◌∷◌, ◌++◌, length, length-append, max, ◌⊎◌, inl, inr, refl, sym, subst, arith, Option, Some, None, All}
use Rattle.std.specs.Prelude.{slice_set}
use Rattle.std.specs.List.{sum_by}
use Rattle.std.proofs.Math.Nat.{mul-le-mul_left}
use Rattle.std.proofs.Math.ListN.{length-set}
use Rattle.std.proofs.lemmas.Bool.{ltb-true, ltb-false, leb-true, or_cases, or_parts, and_parts}
use Rattle.std.proofs.lemmas.List.Elements.{All-push, All-set, All-weaker}
use Rattle.tp4_number.specs.declared.blocks.Blocks.{Blocks}
use Rattle.tp4_number.specs.Formats.{block_of}
use Rattle.tp4_number.specs.Sender.{may_send, marked}
use Rattle.tp4_number.proofs.Past.{if_kept}
use Rattle.tpdu.specs.declared.tpdu.Format.{Format}
use Rattle.tpdu.specs.declared.tpdu.Format.TheVariants.{Normal, Extended}
use Rattle.tp4_sending.specs.declared.tries.Tries.{Tries}
use Rattle.tp4_sending.specs.SendingHalf as sender
use Rattle.tp4_sending.specs.SendingHalf.{FlowSender, UrgentSender, at, block_in, rule_allows, has_next, sent_normal, sent_urgent}
use Rattle.tp4_sending.specs.Kept.{IsCounted, IsSending, IsTried, IsGone, IsUpTo, urgent_base, most_granted}
use Rattle.tp4_sending.specs.Pieces.{again, once}
use Rattle.tp4_sending.specs.steps.Again as again_at

-- a number from base on is sent: one of the window again, or the next one; the numbers below `to` are then sent
pub record Goes (block clock base next n to : ℕ) (b : Blocks) : Type 0 where
  pub low : base ≤ n
  pub high : n ≤ next
  pub within : n + 1 < base + block
  pub from : base ≤ to
  pub end : to ≤ next ⊎ (to ≡ n + 1)
  pub rule : b.first + block ≤ n → (b.first ≤ block) ⊎ (b.third < clock)

counted_high : (block clock base next n to : ℕ) (b : Blocks) → IsCounted block clock base next b → Goes block clock base next n to b → (to ≤ max b.high (n + 1)) × (max b.high (n + 1) < base + block)
counted_high block clock base next n to b h g = elim g.end [
  | inl within ↦ (omega (arith, within), omega arith)
  | inr one ↦ (omega (arith, one), omega arith)
]

grown_on : (block clock first third : ℕ) → first ≤ 3 * (block * third) + 4 * block → (first ≤ block) ⊎ (third < clock) → first + block ≤ 3 * (block * clock) + 2 * block
grown_on block clock first third h r = elim r [
  | inl low ↦ omega (arith, low)
  | inr past ↦ let more : block * (third + 1) ≤ block * clock = mul-le-mul_left block (omega (arith, past)) in omega (arith, more)
]

-- numbers are counted where they, the blocks, the ticks of the three newest blocks and their growth are in bounds
counted_in : (block clock base to : ℕ) (b : Blocks) → base ≤ to → (to ≤ b.high) × (b.high < base + block) → (b.first ≤ b.high) × (b.high ≤ b.first + block)
    → (b.newest ≤ clock) × (b.second ≤ clock) × (b.third ≤ clock)
    → (b.first ≤ 3 * (block * b.newest) + 2 * block) × (b.first ≤ 3 * (block * b.second) + 3 * block) × (b.first ≤ 3 * (block * b.third) + 4 * block) → IsCounted block clock base to b
counted_in block clock base to b from top first ticks grown = record {
  next_from = from;
  next_to = top.0;
  high_low = top.1;
  first_low = first.0;
  first_to = first.1;
  newest = ticks.0;
  second = ticks.1;
  third = ticks.2;
  grown = grown.0;
  grown2 = grown.1;
  grown3 = grown.2;
}

counted_marked : (block clock base next n to : ℕ) (b : Blocks) → IsCounted block clock base next b → Goes block clock base next n to b → IsCounted block clock base to (marked block b n clock)
counted_marked block clock base next n to b h g =
    let newer : block * b.newest ≤ block * clock = mul-le-mul_left block h.newest in
    let later : block * b.second ≤ block * clock = mul-le-mul_left block h.second in
    let top = counted_high block clock base next n to b h g in
    if_kept (IsCounted block clock base to) (nat_lt n b.first) _ _
    (λ e. let below : n < b.first = ltb-true _ _ e in
    counted_in block clock base to _ g.from top (omega arith, omega arith) (h.newest, omega arith, h.third) (h.grown, omega (arith, later, h.grown2), h.grown3))
    (λ _. if_kept (IsCounted block clock base to) (nat_lt n (b.first + block)) _ _
    (λ e. let below : n < b.first + block = ltb-true _ _ e in
    counted_in block clock base to _ g.from top (omega arith, omega arith) (omega arith, h.second, h.third) (omega (arith, newer, h.grown), h.grown2, h.grown3))
    (λ e. let begins : b.first + block ≤ n = ltb-false _ _ e in
    counted_in block clock base to _ g.from top (omega arith, omega arith) (omega arith, h.newest, h.second)
    (grown_on block clock b.first b.third h.grown3 (g.rule begins), omega (arith, h.grown), omega (arith, h.grown2))))

-- high never falls
marked_high : (block : ℕ) (b : Blocks) (n now : ℕ) → b.high ≤ (marked block b n now).high
marked_high block b n now =
    if_kept (λ (to : Blocks). b.high ≤ to.high) (nat_lt n b.first) _ _ (λ _. omega arith)
    (λ _. if_kept (λ (to : Blocks). b.high ≤ to.high) (nat_lt n (b.first + block)) _ _ (λ _. omega arith) (λ _. omega arith))

up_on : (noted : Option ℕ) (high to : ℕ) → IsUpTo noted high → high ≤ to → IsUpTo noted to
up_on None high to h l = tt
up_on (Some n) high to h l = omega (arith, h, l)

-- what the number rule says of the next number
ruled : (block limit clock n : ℕ) (b : Blocks) → may_send block limit b n clock ≡ true → b.first + block ≤ n → (b.first ≤ block) ⊎ (b.third < clock)
ruled block limit clock n b r begins = elim (or_cases (nat_lt n (b.first + block) || nat_le b.first block) _ r) [
  | inl early ↦ elim (or_cases (nat_lt n (b.first + block)) _ early) [
    | inl within ↦ absurd (omega (arith, begins, ltb-true _ _ within))
    | inr low ↦ inl (leb-true _ _ low)
  ]
  | inr past ↦ let gone : b.third + limit < clock = ltb-true _ _ past in inr (omega (arith, gone))
]

some_block : (format : Format) → 1 < block_of format
some_block Normal = omega arith
some_block Extended = omega arith

credit_low : (format : Format) (credit : ℕ) → credit ≤ most_granted format → credit < block_of format
credit_low Normal credit h = omega (arith, h)
credit_low Extended credit h = omega (arith, h)

tried_once : (clock : ℕ) → IsTried clock (once clock)
tried_once clock = (omega arith, omega arith)

-- the next number, the blocks and the window are others
with_window : (s : FlowSender) (next : ℕ) (blocks : Blocks) (window : List Tries) → IsSending s → IsCounted (block_in s) s.clock s.numbers.base next blocks → length window + s.numbers.base ≡ next
    → All (IsTried s.clock) window → s.numbers.blocks.high ≤ blocks.high → IsSending (record s { numbers = record s.numbers { next = next; blocks = blocks }; window = window })
with_window s next blocks window h counted size tries high = record {
  rules = h.rules;
  clock = h.clock;
  credit = h.credit;
  normal = counted;
  window = size;
  tries = tries;
  first = h.first;
  units = h.units;
  octets = h.octets;
  urgent = h.urgent;
  out = h.out;
  expedited = h.expedited;
  noted = up_on s.noted s.numbers.blocks.high blocks.high h.noted high;
  urged = h.urged;
}

-- the units and the EDs are others
pub with_units : (s : FlowSender) (units : List (List ℕ)) (u : UrgentSender) → IsSending s → length units ≤ 64 → sum_by length units ≤ 131072
    → ((base : ℕ) × urgent_base u u.out base × IsCounted (block_in s) s.clock base u.next u.blocks) → IsGone s.clock u.out → length u.units ≤ 64 → IsUpTo u.noted u.blocks.high
    → IsSending (record s { queue = record s.queue { units = units }; urgent = u })
with_units s units u h few low counted gone expedited urged = record {
  rules = h.rules;
  clock = h.clock;
  credit = h.credit;
  normal = h.normal;
  window = h.window;
  tries = h.tries;
  first = h.first;
  units = few;
  octets = low;
  urgent = counted;
  out = gone;
  expedited = expedited;
  noted = h.noted;
  urged = urged;
}

-- the next DT
pub sent_first : (s : FlowSender) → IsSending s → has_next s ≡ true → rule_allows s s.numbers.blocks s.numbers.next ≡ true → IsSending (sent_normal s)
sent_first s h more rule =
    let within : s.numbers.next < s.numbers.base + s.numbers.credit = ltb-true _ _ (and_parts _ _ more).0 in
    let low : s.numbers.credit < block_in s = credit_low s.rules.format s.numbers.credit h.credit in
    with_window s (s.numbers.next + 1) (marked (block_in s) s.numbers.blocks s.numbers.next s.clock) (s.window ++ once s.clock ∷ []) h
    (counted_marked (block_in s) s.clock s.numbers.base s.numbers.next s.numbers.next (s.numbers.next + 1) s.numbers.blocks h.normal (record {
      low = h.normal.next_from;
      high = omega arith;
      within = omega (arith, within, low);
      from = omega (arith, h.normal.next_from);
      end = inr refl;
      rule = ruled (block_in s) s.rules.limit s.clock s.numbers.next s.numbers.blocks rule;
    }))
    (omega (arith, length-append s.window (once s.clock ∷ []), h.window)) (All-push (IsTried s.clock) s.window (once s.clock) h.tries (tried_once s.clock))
    (marked_high (block_in s) s.numbers.blocks s.numbers.next s.clock)

pub sent_first_as : (s : FlowSender) (blocks : Blocks) (window : List Tries) → blocks ≡ marked (block_in s) s.numbers.blocks s.numbers.next s.clock → window ≡ s.window ++ once s.clock ∷ []
    → IsSending s → has_next s ≡ true → rule_allows s s.numbers.blocks s.numbers.next ≡ true
    → IsSending (record s { numbers = record s.numbers { next = s.numbers.next + 1; blocks = blocks }; window = window })
sent_first_as s blocks window b w h more rule =
    subst (λ (f : FlowSender). IsSending f) (λ i. record s { numbers = record s.numbers { next = s.numbers.next + 1; blocks = sym b i }; window = sym w i }) (sent_first s h more rule)

-- the next ED
pub sent_first_urgent : (s : FlowSender) → IsSending s → s.urgent.out ≡ None → rule_allows s s.urgent.blocks s.urgent.next ≡ true → IsSending (sent_urgent s)
sent_first_urgent s h none rule =
    let counted : IsCounted (block_in s) s.clock s.urgent.next s.urgent.next s.urgent.blocks = alone s.urgent.out none h.urgent in
    with_units s s.queue.units (sent_urgent s).urgent h h.units h.octets (
      s.urgent.next,
      refl,
      counted_marked (block_in s) s.clock s.urgent.next s.urgent.next s.urgent.next (s.urgent.next + 1) s.urgent.blocks counted (record {
        low = omega arith;
        high = omega arith;
        within = omega (arith, some_block s.rules.format);
        from = omega arith;
        end = inr refl;
        rule = ruled (block_in s) s.rules.limit s.clock s.urgent.next s.urgent.blocks rule;
      }),
    )
    (tried_once s.clock) h.expedited (up_on s.urgent.noted s.urgent.blocks.high _ h.urged (marked_high (block_in s) s.urgent.blocks s.urgent.next s.clock))
  where
    alone : (out : Option Tries) → out ≡ None → ((base : ℕ) × urgent_base s.urgent out base × IsCounted (block_in s) s.clock base s.urgent.next s.urgent.blocks)
        → IsCounted (block_in s) s.clock s.urgent.next s.urgent.next s.urgent.blocks
    alone None e u = subst (λ (base : ℕ). IsCounted (block_in s) s.clock base s.urgent.next s.urgent.blocks) u.1 u.2
    alone (Some tries) e u = absurd (cc e)

-- a DT of the window again
pub retried : (s : FlowSender) (k : ℕ) (tries : Tries) → IsSending s → k < length s.window → tries.count < 16 → IsSending (again_at.retried s k tries)
retried s k tries h within few =
    let normal = h.normal in
    let size : length (slice_set s.window k (again s.clock tries)) ≡ length s.window = length-set s.window k (again s.clock tries) in
    let low : s.numbers.next ≤ s.numbers.blocks.high = normal.next_to in
    with_window s s.numbers.next (marked (block_in s) s.numbers.blocks (s.numbers.base + k) s.clock) (slice_set s.window k (again s.clock tries)) h
    (counted_marked (block_in s) s.clock s.numbers.base s.numbers.next (s.numbers.base + k) s.numbers.next s.numbers.blocks h.normal (record {
      low = omega arith;
      high = omega (arith, within, h.window);
      within = omega (arith, within, h.window, normal.high_low, low);
      from = normal.next_from;
      end = inl (omega arith);
      rule = λ begins. absurd (omega (arith, begins, within, h.window, low, normal.first_to));
    }))
    (omega (arith, size, h.window)) (All-set (IsTried s.clock) s.window k (again s.clock tries) (omega arith, omega (arith, few)) h.tries)
    (marked_high (block_in s) s.numbers.blocks (s.numbers.base + k) s.clock)

pub retried_put : (s : FlowSender) (k : ℕ) (tries : Tries) (blocks : Blocks) (window : List Tries) → blocks ≡ marked (block_in s) s.numbers.blocks (s.numbers.base + k) s.clock
    → window ≡ slice_set s.window k (again s.clock tries) → IsSending s → k < length s.window → tries.count < 16
    → IsSending (record s { numbers = record s.numbers { blocks = blocks }; window = window })
retried_put s k tries blocks window b w h within few =
    subst (λ (f : FlowSender). IsSending f) (λ i. record s { numbers = record s.numbers { blocks = sym b i }; window = sym w i }) (retried s k tries h within few)

-- the ED that is outstanding again
pub retried_urgent : (s : FlowSender) (tries : Tries) → IsSending s → s.urgent.out ≡ Some tries → tries.count < 16 → IsSending (sender.retried_urgent s tries)
retried_urgent s tries h is few =
    let u = outstanding s.urgent.out is h.urgent in
    with_units s s.queue.units (sender.retried_urgent s tries).urgent h h.units h.octets (
      u.0,
      u.1,
      counted_marked (block_in s) s.clock u.0 s.urgent.next (s.urgent.next - 1) s.urgent.next s.urgent.blocks u.2 (record {
        low = omega (arith, u.1);
        high = omega arith;
        within = omega (arith, u.1, some_block s.rules.format);
        from = omega (arith, u.1);
        end = inl (omega arith);
        rule = λ begins. absurd (omega (arith, begins, u.1, u.2.next_to, u.2.first_to));
      }),
    )
    (omega arith, omega (arith, few)) h.expedited (up_on s.urgent.noted s.urgent.blocks.high _ h.urged (marked_high (block_in s) s.urgent.blocks (s.urgent.next - 1) s.clock))
  where
    outstanding : (out : Option Tries) → out ≡ Some tries → ((base : ℕ) × urgent_base s.urgent out base × IsCounted (block_in s) s.clock base s.urgent.next s.urgent.blocks)
        → (base : ℕ) × (base + 1 ≡ s.urgent.next) × IsCounted (block_in s) s.clock base s.urgent.next s.urgent.blocks
    outstanding None e u = absurd (cc e)
    outstanding (Some t) e u = u

-- a later tick
pub ticked_on : (s : FlowSender) (now : ℕ) → IsSending s → s.clock ≤ now → now ≤ 4000000000 → IsSending (at now s)
ticked_on s now h later low = record {
  rules = h.rules;
  clock = low;
  credit = h.credit;
  normal = counted_on (block_in s) s.clock now s.numbers.base s.numbers.next s.numbers.blocks h.normal later;
  window = h.window;
  tries = All-weaker (IsTried s.clock) (IsTried now) tried_on s.window h.tries;
  first = h.first;
  units = h.units;
  octets = h.octets;
  urgent = (h.urgent.0, h.urgent.1, counted_on (block_in s) s.clock now h.urgent.0 s.urgent.next s.urgent.blocks h.urgent.2 later);
  out = gone_on s.urgent.out h.out;
  expedited = h.expedited;
  noted = h.noted;
  urged = h.urged;
}
  where
    counted_on : (block clock now base next : ℕ) (b : Blocks) → IsCounted block clock base next b → clock ≤ now → IsCounted block now base next b
    counted_on block clock now base next b c l = record {
      next_from = c.next_from;
      next_to = c.next_to;
      high_low = c.high_low;
      first_low = c.first_low;
      first_to = c.first_to;
      newest = omega (arith, c.newest, l);
      second = omega (arith, c.second, l);
      third = omega (arith, c.third, l);
      grown = c.grown;
      grown2 = c.grown2;
      grown3 = c.grown3;
    }

    tried_on : (t : Tries) → IsTried s.clock t → IsTried now t
    tried_on t k = (omega (arith, k.0, later), k.1)

    gone_on : (out : Option Tries) → IsGone s.clock out → IsGone now out
    gone_on None k = tt
    gone_on (Some t) k = tried_on t k

-- what the number rule holds back was never sent, and no number told as held before is above it
beyond : (block limit clock base next : ℕ) (b : Blocks) (noted : Option ℕ) → IsCounted block clock base next b → IsUpTo noted b.high → may_send block limit b next clock ≡ false → IsUpTo noted next
beyond block limit clock base next b noted h low rule =
    let far : b.first + block ≤ next = ltb-false _ _ (or_parts (nat_lt next (b.first + block)) _ (or_parts (nat_lt next (b.first + block) || nat_le b.first block) _ rule).0).0 in
    up_on noted b.high next low (omega (arith, far, h.first_to))

pub held_normal_last : (s : FlowSender) → IsSending s → rule_allows s s.numbers.blocks s.numbers.next ≡ false → IsUpTo s.noted s.numbers.next
held_normal_last s h rule = beyond (block_in s) s.rules.limit s.clock s.numbers.base s.numbers.next s.numbers.blocks s.noted h.normal h.noted rule

pub held_urgent_last : (s : FlowSender) → IsSending s → rule_allows s s.urgent.blocks s.urgent.next ≡ false → IsUpTo s.urgent.noted s.urgent.next
held_urgent_last s h rule = beyond (block_in s) s.rules.limit s.clock h.urgent.0 s.urgent.next s.urgent.blocks s.urgent.noted h.urgent.2 h.urged rule
