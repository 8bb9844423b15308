-- What the sender's words on its blocks say of all that was sent, and that each sending keeps it.
use Rattle.std.proofs.Common.{List, ◌≡◌, ℕ, ◌+◌, ◌*◌, ◌<◌, ◌≤◌, ◌⊎◌, inl, inr, true, max, [], ◌∷◌, ◌++◌, ◌||◌, nat_lt, nat_le, refl, subst, arith, Contains}
use Rattle.std.proofs.Math.Nat.{mul-le-mul_left}
use Rattle.std.proofs.lemmas.Bool.{ltb-true, ltb-false, cases_lt}
use Rattle.std.proofs.lemmas.Bool.Decides.{nat_tests}
use Rattle.std.proofs.lemmas.List.Elements.{Contains-push_cases, Contains-append_left, Contains-push}
use Rattle.tp4_number.specs.Sender.{no_blocks, marked}
use Rattle.tp4_number.specs.declared.blocks.Blocks.{Blocks}
use Rattle.tp4_number.specs.Traffic.{Rules}
use Rattle.tp4_number.proofs.Past.{if_kept}

pub times : (block a b : ℕ) → a ≤ b → block * a ≤ block * b
times block a b h = mul-le-mul_left block h

pub opens : (next first block third limit now : ℕ) → first + block ≤ next → (nat_lt next (first + block) || nat_le first block || nat_lt (third + limit) now) ≡ true
    → (first ≤ block) ⊎ (third + limit < now)
opens next first block third limit now h t = grind (arith, nat_tests)

pub none : {X : Type 0} (x : X) → Contains [] x → ⊥
none x h = absurd (omega (arith, h.1))

-- the blocks, and how they grow with the ticks
pub record IsGrown (block clock : ℕ) (b : Blocks) : Type 0 where
  pub low : b.first ≤ b.high
  pub to : b.high ≤ b.first + block
  pub newest_low : b.newest ≤ clock
  pub second_low : b.second ≤ clock
  pub whole : (k : ℕ) × (b.first ≡ k * block)
  pub grown : b.first ≤ 3 * (block * b.newest) + 2 * block
  pub grown2 : b.first ≤ 3 * (block * b.second) + 3 * block
  pub grown3 : b.first ≤ 3 * (block * b.third) + 4 * block

-- a number n was sent at that tick
pub record IsMarked (block limit clock : ℕ) (b : Blocks) (n tick : ℕ) : Type 0 where
  pub below : n < b.high
  pub past : tick ≤ clock
  pub newest : b.first ≤ n → tick ≤ b.newest
  pub second : n < b.first → b.first ≤ n + block → tick ≤ b.second
  pub third : n + block < b.first → b.first ≤ n + 2 * block → tick ≤ b.third
  pub in_use : clock ≤ tick + limit → b.first ≤ n + 2 * block

-- the words account for all that was sent
pub record Accounts (rules : Rules) (clock : ℕ) (b : Blocks) (sends : List (ℕ × ℕ)) : Type 0 where
  pub blocks : IsGrown rules.block clock b
  pub marks : (n tick : ℕ) → Contains sends (n, tick) → IsMarked rules.block rules.limit clock b n tick
  -- each tick is that of a sending in its block
  pub in_newest : b.first < b.high → (m : ℕ) × Contains sends (m, b.newest) × (b.first ≤ m)
  pub in_second : 0 < b.first → (m : ℕ) × Contains sends (m, b.second) × (m < b.first) × (b.first ≤ m + rules.block)
  pub in_third : rules.block < b.first → (m : ℕ) × Contains sends (m, b.third) × (m + rules.block < b.first) × (b.first ≤ m + 2 * rules.block)

pub accounts_start : (rules : Rules) (clock : ℕ) → Accounts rules clock no_blocks []
accounts_start rules clock = record {
  blocks = record { low = omega arith; to = omega arith; newest_low = omega arith; second_low = omega arith; whole = (0, omega arith); grown = omega arith; grown2 = omega arith; grown3 = omega arith };
  marks = λ n tick h. absurd (none _ h);
  in_newest = λ h. absurd (omega arith);
  in_second = λ h. absurd (omega arith);
  in_third = λ h. absurd (omega arith);
}

pub accounts_tick : (rules : Rules) (clock : ℕ) (b : Blocks) (sends : List (ℕ × ℕ)) → Accounts rules clock b sends → Accounts rules (clock + 1) b sends
accounts_tick rules clock b sends a = let i = a.blocks in record {
  blocks = record { low = i.low; to = i.to; newest_low = omega (arith, i.newest_low); second_low = omega (arith, i.second_low); whole = i.whole; grown = i.grown; grown2 = i.grown2; grown3 = i.grown3 };
  marks = λ n tick c. let k = a.marks n tick c in record { below = k.below; past = omega (arith, k.past); newest = k.newest; second = k.second; third = k.third; in_use = λ live. k.in_use (omega arith) };
  in_newest = a.in_newest;
  in_second = a.in_second;
  in_third = a.in_third;
}

module _ (rules : Rules) (clock : ℕ) (b : Blocks) (sends : List (ℕ × ℕ)) (some : 0 < rules.block) (a : Accounts rules clock b sends) where
  more : (m n tick : ℕ) → Contains sends (n, tick) → Contains (sends ++ (m, clock) ∷ []) (n, tick)
  more m n tick c = Contains-append_left sends _ _ c

  all : (m : ℕ) (to : Blocks) → IsMarked rules.block rules.limit clock to m clock → ((n tick : ℕ) → Contains sends (n, tick) → IsMarked rules.block rules.limit clock to n tick)
      → (n tick : ℕ) → Contains (sends ++ (m, clock) ∷ []) (n, tick) → IsMarked rules.block rules.limit clock to n tick
  all m to this old n tick c =
      elim (Contains-push_cases sends (m, clock) (n, tick) c) [ inl before ↦ old n tick before | inr new ↦ subst (λ (p : ℕ × ℕ). IsMarked rules.block rules.limit clock to p.0 p.1) new this ]

  -- m is sent now
  pub accounts_send : (m : ℕ) → m ≤ b.high → b.high ≤ m + rules.block → (b.first + rules.block ≤ m → (b.first ≤ rules.block) ⊎ (b.third + rules.limit < clock))
      → Accounts rules clock (marked rules.block b m clock) (sends ++ (m, clock) ∷ [])
  accounts_send m top near rule =
      let i = a.blocks in
      let here = Contains-push sends (m, clock) in
      let P = λ (to : Blocks). Accounts rules clock to (sends ++ (m, clock) ∷ []) in
      if_kept P (nat_lt m b.first) _ _
      (λ t.
      let t = ltb-true _ _ t in
      let g = times rules.block b.second clock i.second_low in
      record {
        blocks = record { low = omega (arith, i.low); to = omega (arith, i.to); newest_low = i.newest_low; second_low = omega arith; whole = i.whole; grown = i.grown; grown2 = omega (arith, i.grown2); grown3 = i.grown3 };
        marks = all m _
            (record { below = omega arith; past = omega arith; newest = λ h. absurd (omega arith); second = λ _ _. omega arith; third = λ h _. absurd (omega (arith, i.low)); in_use = λ _. omega (arith, i.low) })
            (λ n tick c. let k = a.marks n tick c in record { below = omega (arith, k.below); past = k.past; newest = k.newest; second = λ _ _. k.past; third = k.third; in_use = k.in_use });
        in_newest = λ h. let q = a.in_newest (omega arith) in (q.0, more m q.0 b.newest q.1, q.2);
        in_second = λ h. (m, here, t, omega (arith, i.low));
        in_third = λ h. let q = a.in_third h in (q.0, more m q.0 b.third q.1, q.2, q.3);
      })
      (λ f. if_kept P (nat_lt m (b.first + rules.block)) _ _
      (λ t.
      let f = ltb-false _ _ f in
      let t = ltb-true _ _ t in
      let g = times rules.block b.newest clock i.newest_low in
      record {
        blocks = record { low = omega (arith, i.low); to = omega (arith, i.to); newest_low = omega arith; second_low = i.second_low; whole = i.whole; grown = omega (arith, i.grown); grown2 = i.grown2; grown3 = i.grown3 };
        marks = all m _
            (record { below = omega arith; past = omega arith; newest = λ _. omega arith; second = λ h _. absurd (omega arith); third = λ h _. absurd (omega arith); in_use = λ _. omega arith })
            (λ n tick c. let k = a.marks n tick c in record { below = omega (arith, k.below); past = k.past; newest = λ _. k.past; second = k.second; third = k.third; in_use = k.in_use });
        in_newest = λ h. (m, here, f);
        in_second = λ h. let q = a.in_second h in (q.0, more m q.0 b.second q.1, q.2, q.3);
        in_third = λ h. let q = a.in_third h in (q.0, more m q.0 b.third q.1, q.2, q.3);
      })
      (λ f.
      let f = ltb-false _ _ f in
      let r = rule f in
      let q : b.first + rules.block ≤ 3 * (rules.block * clock) + 2 * rules.block = elim r [
        | inl early ↦ omega arith
        | inr late ↦ omega (arith, times rules.block (b.third + 1) clock (omega arith), i.grown3)
      ] in
      record {
        blocks = record { low = omega (arith, i.low); to = omega (arith, i.to); newest_low = omega arith; second_low = i.newest_low; whole = (i.whole.0 + 1, omega (arith, i.whole.1)); grown = q; grown2 = omega (arith, i.grown); grown3 = omega (arith, i.grown2) };
        marks = all m _
            (record { below = omega arith; past = omega arith; newest = λ _. omega arith; second = λ h _. absurd (omega arith); third = λ h _. absurd (omega arith); in_use = λ _. omega arith })
            (λ n tick c. let k = a.marks n tick c in
            record {
              below = omega (arith, k.below);
              past = k.past;
              newest = λ h. absurd (omega (arith, k.below, i.to));
              second = λ h j. k.newest (omega arith);
              third = λ h j. k.second (omega arith) (omega arith);
              in_use = λ live. elim (cases_lt (n + rules.block) b.first) [
                | inl old ↦ absurd (elim r [ inl early ↦ omega arith | inr late ↦ omega (arith, k.third old (k.in_use live)) ])
                | inr young ↦ omega arith
              ];
            });
        in_newest = λ h. (m, here, omega arith);
        in_second = λ h. let q = a.in_newest (omega (arith, some)) in (q.0, more m q.0 b.newest q.1, omega (arith, (a.marks q.0 b.newest q.1).below, i.to), omega (arith, q.2));
        in_third = λ h. let q = a.in_second (omega arith) in (q.0, more m q.0 b.second q.1, omega (arith, q.2), omega (arith, q.3));
      }))

-- what is sent never makes high fall, and makes it rise by one at most
pub marked_high : (block : ℕ) (b : Blocks) (m now : ℕ) → (marked block b m now).high ≡ max b.high (m + 1)
marked_high block b m now =
    if_kept (λ (to : Blocks). to.high ≡ max b.high (m + 1)) (nat_lt m b.first) _ _ (λ _. refl)
    (λ _. if_kept (λ (to : Blocks). to.high ≡ max b.high (m + 1)) (nat_lt m (b.first + block)) _ _ (λ _. refl) (λ _. refl))
