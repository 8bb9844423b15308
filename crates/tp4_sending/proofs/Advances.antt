-- An AK is taken: the numbers from its number on stay, as far as the new credit reaches, and the half stands as before.
use Rattle.std.proofs.Common.{◌≡◌, ℕ, ◌+◌, ◌-◌, ◌<◌, ◌≤◌, Bool, true, false, nat_lt, nat_le, if◌then◌else◌, ◌&&◌, ◌||◌, ◌==◌, List, length, take, drop, length-drop, min, max, ◌⊎◌, inl, inr, sym, ◌∙◌, ap, subst, arith}
use Rattle.std.proofs.lemmas.Bool.{and_parts, or_cases, leb-true, ltb-true, eqb-true, le-ltb, cases_lt}
use Rattle.std.proofs.lemmas.List.{length-take, drop_all}
use Rattle.std.proofs.lemmas.List.Elements.{All-take, All-drop}
use Rattle.tp4_number.specs.Sender.{Sender, told, is_newer}
use Rattle.tp4_sending.specs.declared.tries.Tries.{Tries}
use Rattle.tp4_sending.specs.SendingHalf.{FlowSender, is_taken, acknowledged_to}
use Rattle.tp4_sending.specs.Kept.{IsSending, IsTried, most_granted}
use Rattle.tp4_sending.specs.Pieces.{Queue, freed}
use Rattle.tp4_sending.proofs.Frees.{freed_left}

abbrev moved : FlowSender → ℕ → ℕ → ℕ → Sender
moved s n credit subsequence = record s.numbers { base = n; credit = credit; subsequence = subsequence; next = max n (min s.numbers.next (n + credit)) }

abbrev pub advanced : FlowSender → ℕ → ℕ → ℕ → FlowSender
advanced s n credit subsequence = record s {
  numbers = moved s n credit subsequence;
  window = take (max n (min s.numbers.next (n + credit)) - n) (drop (n - s.numbers.base) s.window);
  queue = freed s.rules.piece n s.queue;
}

told_taken : (s : FlowSender) (n credit subsequence : ℕ) → is_taken s n credit subsequence ≡ true → told s.numbers n credit subsequence ≡ moved s n credit subsequence
told_taken s n credit subsequence t =
    let both = and_parts (nat_le n s.numbers.blocks.high) (is_newer s.numbers n credit subsequence) t in
    let within : nat_lt s.numbers.blocks.high n ≡ false = le-ltb _ _ (leb-true _ _ both.0) in
    ap (λ (c : Bool). if c then s.numbers else if is_newer s.numbers n credit subsequence then moved s n credit subsequence else s.numbers) within
    ∙ ap (λ (c : Bool). if c then moved s n credit subsequence else s.numbers) both.1

pub advanced_is : (s : FlowSender) (n credit subsequence : ℕ) → is_taken s n credit subsequence ≡ true → advanced s n credit subsequence ≡ acknowledged_to s n credit subsequence
advanced_is s n credit subsequence t =
    let same = sym (told_taken s n credit subsequence t) in
    λ i. record s {
      numbers = same i;
      window = take ((same i).next - n) (drop (n - s.numbers.base) s.window);
      queue = freed s.rules.piece n s.queue;
    }

-- the number of an AK that is taken lies from base on up to high
pub taken_from : (s : FlowSender) (n credit subsequence : ℕ) → is_taken s n credit subsequence ≡ true → (s.numbers.base ≤ n) × (n ≤ s.numbers.blocks.high)
taken_from s n credit subsequence t =
    let both = and_parts (nat_le n s.numbers.blocks.high) (is_newer s.numbers n credit subsequence) t in
    (newer (or_cases (nat_lt s.numbers.base n) _ both.1), leb-true _ _ both.0)
  where
    newer : (nat_lt s.numbers.base n ≡ true) ⊎ ((n == s.numbers.base && (nat_lt s.numbers.subsequence subsequence || subsequence == s.numbers.subsequence && nat_lt s.numbers.credit credit)) ≡ true) → s.numbers.base ≤ n
    newer (inl above) = let more : s.numbers.base < n = ltb-true _ _ above in omega (arith, more)
    newer (inr same) = let at : n ≡ s.numbers.base = eqb-true _ _ (and_parts _ _ same).0 in omega (arith, at)

pub dropped : (window : List Tries) (gone kept : ℕ) → kept ≡ length window - gone → drop (length window - kept) window ≡ drop gone window
dropped window gone kept e = elim (cases_lt (length window) gone) [
  | inl past ↦ drop_all (length window - kept) window (omega (arith, e, past)) ∙ sym (drop_all gone window (omega (arith, past)))
  | inr within ↦ let at : length window - kept ≡ gone = omega (arith, e, within) in ap (λ (k : ℕ). drop k window) at
]

pub advanced_kept : (s : FlowSender) (n credit subsequence : ℕ) → IsSending s → (s.numbers.base ≤ n) × (n ≤ s.numbers.blocks.high) → credit ≤ most_granted s.rules.format
    → IsSending (advanced s n credit subsequence)
advanced_kept s n credit subsequence h low granted =
    let left = freed_left s.rules.piece n s.queue.first s.queue.units (omega (arith, h.first, low.0)) in
    let window = drop (n - s.numbers.base) s.window in
    let size : length window ≡ length s.window - (n - s.numbers.base) = length-drop (n - s.numbers.base) s.window in
    let normal = h.normal in
    record {
      rules = h.rules;
      clock = h.clock;
      credit = granted;
      normal = record {
        next_from = omega arith;
        next_to = omega (arith, normal.next_to, low.1);
        high_low = omega (arith, normal.high_low, low.0);
        first_low = normal.first_low;
        first_to = normal.first_to;
        newest = normal.newest;
        second = normal.second;
        third = normal.third;
        grown = normal.grown;
        grown2 = normal.grown2;
        grown3 = normal.grown3;
      };
      window = omega (arith, length-take (max n (min s.numbers.next (n + credit)) - n) window, size, h.window, low.0);
      tries = All-take (IsTried s.clock) (max n (min s.numbers.next (n + credit)) - n) window (All-drop (IsTried s.clock) (n - s.numbers.base) s.window h.tries);
      first = left.first;
      units = omega (arith, left.units, h.units);
      octets = omega (arith, left.octets, h.octets);
      urgent = h.urgent;
      out = h.out;
      expedited = h.expedited;
      noted = h.noted;
      urged = h.urged;
    }

-- the half that was put together from its parts
pub advance_done : (s : FlowSender) (n credit subsequence next : ℕ) (window : List Tries) (queue : Queue)
    → next ≡ max n (min s.numbers.next (n + credit)) → window ≡ take (next - n) (drop (n - s.numbers.base) s.window) → queue ≡ freed s.rules.piece n s.queue
    → IsSending s → is_taken s n credit subsequence ≡ true → credit ≤ most_granted s.rules.format
    → (record s { numbers = record s.numbers { base = n; credit = credit; subsequence = subsequence; next = next }; window = window; queue = queue } ≡ acknowledged_to s n credit subsequence)
    × IsSending (record s { numbers = record s.numbers { base = n; credit = credit; subsequence = subsequence; next = next }; window = window; queue = queue })
advance_done s n credit subsequence next window queue e w q h taken granted =
    let all : window ≡ take (max n (min s.numbers.next (n + credit)) - n) (drop (n - s.numbers.base) s.window) = w ∙ ap (λ (k : ℕ). take (k - n) (drop (n - s.numbers.base) s.window)) e in
    let whole : record s { numbers = record s.numbers { base = n; credit = credit; subsequence = subsequence; next = next }; window = window; queue = queue } ≡ advanced s n credit subsequence =
    λ i. record s { numbers = record s.numbers { base = n; credit = credit; subsequence = subsequence; next = e i }; window = all i; queue = q i } in
    (whole ∙ advanced_is s n credit subsequence taken, subst IsSending (sym whole) (advanced_kept s n credit subsequence h (taken_from s n credit subsequence taken) granted))
