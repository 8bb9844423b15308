-- A DT that is afloat is read for what it is: it is held, or was passed or held before, or lies outside what the receiver says now.
use Rattle.std.proofs.Common.{◌≡◌, ℕ, ◌+◌, ◌-◌, ◌<◌, ◌≤◌, ◌⊎◌, ◌||◌, ◌==◌, inl, inr, Bool, true, false, nat_le, length, set, Some, refl, sym, ◌∙◌, subst, arith, add-zero, if◌then◌else◌}
use Rattle.std.proofs.lemmas.List.{length-set}
use Rattle.std.proofs.lemmas.Bool.{cases_lt}
use Rattle.std.proofs.lemmas.Bool.Decides.{nat_tests}
use Rattle.tp4_number.specs.Number.{whole, wire, ahead}
use Rattle.tp4_number.specs.Window.{Joined, is_held, placed}
use Rattle.tp4_number.specs.Receiver.{Receiver, judged, in_order, arrived_as, after_dt}
use Rattle.tp4_number.specs.declared.piece.Piece.{Piece}
use Rattle.tp4_number.specs.declared.got.Got.{Got}
use Rattle.tp4_number.specs.declared.got.Got.TheVariants.{Kept, Old, Outside, TooLarge}
use Rattle.tp4_number.specs.Traffic.{Rules, IsFit, Traffic, Dt_comes, May, after}
use Rattle.tp4_number.proofs.Past.{there, in_order_there, kept_low}
use Rattle.tp4_number.proofs.Sound.{Sound, reads}
use Rattle.law_recovery_pair.specs.Views.{View, IsNoOlder, Further, Wider}
use Rattle.law_recovery_pair.proofs.Older.{same_view}
use Rattle.law_recovery_pair.proofs.Holding.{there_low, put_there, slid_on, slid_size}

-- the receiver has gone past the number, or holds it
pub data IsHad (r : Receiver) (n : ℕ) : Type 0 where
  Past : n < r.expected → IsHad r n
  Kept_at : (d : ℕ) → r.expected + d ≡ n → is_held r.inbox.held d ≡ true → IsHad r n

abbrev pub says : Receiver → View
says r = record { number = r.expected; credit = r.inbox.credit; subsequence = r.inbox.subsequence }

pub record IsReceived (size : ℕ) (r new : Receiver) (n : ℕ) : Type 0 where
  pub risen : IsNoOlder (says r) (says new)
  pub had : (m : ℕ) → IsHad r m → IsHad new m
  pub this : IsHad new n ⊎ (new.expected + new.inbox.credit ≤ n)
  pub places : length new.inbox.held.places ≡ size
  pub credit : new.inbox.credit ≡ r.inbox.credit

module _ (rules : Rules) (fit : IsFit rules) (w : Traffic) (s : Sound rules w) (size : ℕ) (places : length w.receiver.inbox.held.places ≡ size) (room : w.receiver.inbox.credit ≤ size) where
  abbrev pub r : Receiver
  r = w.receiver

  unmoved : (n : ℕ) → IsHad r n ⊎ (r.expected + r.inbox.credit ≤ n) → IsReceived size r (record r { expected = r.expected + 0 }) n
  unmoved n this = subst (λ (k : ℕ). IsReceived size r (record r { expected = k }) n) (sym (add-zero r.expected))
      (record { risen = same_view (says r); had = λ m h. h; this = this; places = places; credit = refl })

  kept : (n d : ℕ) (piece : Piece) → r.expected + d ≡ n → d < r.inbox.credit → IsReceived size r (after_dt (whole rules.block) r (arrived_as Kept r.inbox d piece)) n
  kept n d piece is low = record {
    risen = rises j.count refl;
    had = λ m h. stays m h;
    this = inl (lies n d is (put_there r.inbox.held.places d d piece within (inl refl)));
    places = slid_size (set r.inbox.held.places d (Some piece)) j.count few ∙ length-set r.inbox.held.places d (Some piece) ∙ places;
    credit = refl;
  }
    where
      j : Joined
      j = in_order (placed r.inbox.held d piece) d

      new : Receiver
      new = after_dt (whole rules.block) r (arrived_as Kept r.inbox d piece)

      within : d < length r.inbox.held.places
      within = omega (arith, low, room, places)

      few : j.count ≤ length (set r.inbox.held.places d (Some piece))
      few = elim (cases_lt 0 j.count) [
        | inl some ↦
            (let e : j.count - 1 < j.count = omega arith in
            omega (arith, there_low (set r.inbox.held.places d (Some piece)) (j.count - 1) (in_order_there (placed r.inbox.held d piece) d (j.count - 1) e)))
        | inr none ↦ omega arith
      ]

      rises : (k : ℕ) → j.count ≡ k → IsNoOlder (says r) (says new)
      rises k e = elim (cases_lt 0 j.count) [
        | inl some ↦ Further (omega arith)
        | inr none ↦
            (let zero_is : j.count ≡ 0 = omega arith in
            subst (λ (c : ℕ). IsNoOlder (says r) (record { number = r.expected + c; credit = r.inbox.credit; subsequence = if c == 0 then r.inbox.subsequence else 0 })) (sym zero_is) (Wider (omega arith) refl (omega arith)))
      ]

      -- what stands at that place after the DT
      lies : (m e : ℕ) → r.expected + e ≡ m → there (set r.inbox.held.places d (Some piece)) e ≡ true → IsHad new m
      lies m e at h = elim (cases_lt e j.count) [
        | inl gone ↦ Past (omega (arith, at, gone))
        | inr left ↦
            (let split : e ≡ j.count + (e - j.count) = omega arith in
            Kept_at (e - j.count) (omega (arith, at, left)) (slid_on (set r.inbox.held.places d (Some piece)) j.count (e - j.count) (subst (λ (k : ℕ). there (set r.inbox.held.places d (Some piece)) k ≡ true) split h)))
      ]

      stays : (m : ℕ) → IsHad r m → IsHad new m
      stays m (Past low) = Past (omega (arith, low))
      stays m (Kept_at e at h) = lies m e at (put_there r.inbox.held.places d e piece within (inr h))

  pub receives : (n tick : ℕ) (piece : Piece) → May rules w (Dt_comes n tick piece) → IsReceived size r (after rules w (Dt_comes n tick piece)).receiver n
  receives n tick piece may = by (judged rules.block r.inbox d) refl
    where
      d : ℕ
      d = ahead rules.block (wire rules.block r.expected) (wire rules.block n)

      -- a number that was not passed lies at its distance, below a block
      at : r.expected ≤ n → r.expected + d ≡ n
      at up = (reads rules w fit s).new_dt n tick may.0 may.1 up

      low : r.expected ≤ n → d < rules.block
      low up = omega (arith, at up, (s.account.marks n tick may.0).below, s.order.high_low, s.order.base_low)

      up_where : d < rules.block → r.expected ≤ n
      up_where short = elim (cases_lt n r.expected) [
        | inl old ↦ absurd (omega (arith, short, (reads rules w fit s).old_dt n tick may.0 may.1 old))
        | inr new ↦ new
      ]

      old_had : (a b : Bool) → is_held r.inbox.held d ≡ a → nat_le rules.block d ≡ b → (if a || b then Old else if nat_le r.inbox.credit d then Outside else Kept) ≡ Old → IsHad r n
      old_had a b p q e = elim (cases_lt n r.expected) [
        | inl old ↦ Past old
        | inr new ↦ Kept_at d (at new) (held a b p q e new)
      ]
        where
          held : (a b : Bool) → is_held r.inbox.held d ≡ a → nat_le rules.block d ≡ b → (if a || b then Old else if nat_le r.inbox.credit d then Outside else Kept) ≡ Old → r.expected ≤ n → is_held r.inbox.held d ≡ true
          held true b p q e up = p
          held false true p q e up = absurd (let x : d < rules.block = low up in grind (arith, nat_tests))
          held false false p q e up = absurd (not_old (nat_le r.inbox.credit d) e)
            where
              not_old : (c : Bool) → (if c then Outside else Kept) ≡ Old → ⊥
              not_old true e = cc
              not_old false e = cc

      out_where : (a b c : Bool) → nat_le rules.block d ≡ b → nat_le r.inbox.credit d ≡ c → (if a || b then Old else if c then Outside else Kept) ≡ Outside → r.expected + r.inbox.credit ≤ n
      out_where true b c p q e = absurd (cc e)
      out_where false true c p q e = absurd (cc e)
      out_where false false false p q e = absurd (cc e)
      out_where false false true p q e =
          let short : d < rules.block = grind (arith, nat_tests) in
          let far : r.inbox.credit ≤ d = grind (arith, nat_tests) in
          omega (arith, far, at (up_where short))

      by : (g : Got) → judged rules.block r.inbox d ≡ g → IsReceived size r (after_dt (whole rules.block) r (arrived_as g r.inbox d piece)) n
      by Kept e =
          let near_by : d < r.inbox.credit = kept_low rules.block r.inbox d e in
          kept n d piece (at (up_where (omega (arith, near_by, s.order.room_low)))) near_by
      by Old e = unmoved n (inl (old_had (is_held r.inbox.held d) (nat_le rules.block d) refl refl e))
      by Outside e = unmoved n (inr (out_where (is_held r.inbox.held d) (nat_le rules.block d) (nat_le r.inbox.credit d) refl refl e))
      by TooLarge e = absurd (not_large (is_held r.inbox.held d || nat_le rules.block d) (nat_le r.inbox.credit d) e)
        where
          not_large : (a c : Bool) → (if a then Old else if c then Outside else Kept) ≡ TooLarge → ⊥
          not_large true c e = cc
          not_large false true e = cc
          not_large false false e = cc
