-- A receiving half keeps its places, and the first one is free.
use Rattle.std.proofs.Common.{◌≡◌, ℕ, ◌-◌, ◌<◌, ◌≤◌, inl, inr, Bool, true, false, length, set, Some, None, refl, sym, ◌∙◌, ap, subst, arith, if◌then◌else◌}
use Rattle.std.proofs.lemmas.List.{length-replicate, length-set}
use Rattle.std.proofs.lemmas.Bool.{cases_lt, cases_eq}
use Rattle.tpdu.specs.declared.tpdu.Format.{Format}
use Rattle.tpdu.specs.declared.tpdu.Format.TheVariants as formats
use Rattle.tp4_flow.specs.ReceivingHalf.{Half, allowed, block_in, dt_arrival, empty, half_granted, taken_dt}
use Rattle.tp4_flow.specs.declared.rules.FlowRules.{FlowRules}
use Rattle.tp4_number.specs.declared.got.Got.{Got}
use Rattle.tp4_number.specs.declared.got.Got.TheVariants.{Kept, TooLarge}
use Rattle.tp4_number.specs.declared.piece.Piece.{Piece}
use Rattle.tp4_number.specs.Formats.{most_of}
use Rattle.tp4_number.specs.Number.{ahead, whole, wire}
use Rattle.tp4_number.specs.Receiver.{Receiver, after_dt, arrived_as, in_order, judged}
use Rattle.tp4_number.specs.Window.{Held, Joined, is_held, placed}
use Rattle.tp4_number.proofs.Past.{blank, in_order_there}
use Rattle.law_recovery_pair.specs.Recovering.{IsFitted}
use Rattle.law_recovery_pair.proofs.Free.{free_after}
use Rattle.law_recovery_pair.proofs.Holding.{slid_size, there_low}
use Rattle.law_recovery_pair.proofs.Rising.{gives}
use Rattle.law_recovery_pair.specs.Fitting.{Fits}

most_there : (format : Format) (credit : ℕ) → credit ≤ 15 → credit ≤ most_of format
most_there formats.Normal credit low = low
most_there formats.Extended credit low = omega arith

allowed_there : (format : Format) (credit : ℕ) → allowed format credit ≤ most_of format
allowed_there formats.Normal credit = omega arith
allowed_there formats.Extended credit = omega arith

pub empty_fits : (rules : FlowRules) (credit : ℕ) → credit ≤ 15 → Fits (empty rules credit)
empty_fits rules credit low = record { places = length-replicate (most_of rules.format) None; room = most_there rules.format credit low; free = blank (most_of rules.format) 0 }

pub grant_fits : (h : Half) (credit : ℕ) → Fits h → Fits (half_granted h credit)
grant_fits h credit f =
    let g = gives h.receiver (most_of h.rules.format) (allowed h.rules.format credit) (allowed_there h.rules.format credit) in
    record {
      places = ap (λ (x : Held). length x.places) g.held ∙ f.places;
      room = g.room f.room;
      free = subst (λ (x : Held). is_held x 0 ≡ false) (sym g.held) f.free;
    }

-- a piece that is put at a distance, and no unit is too large
kept_fits : (size : ℕ) (r : Receiver) (d : ℕ) (piece : Piece) → ((arrived_as Kept r.inbox d piece).got ≡ TooLarge → ⊥) → IsFitted size r → IsFitted size (after_dt (λ (n : ℕ). n) r (arrived_as Kept r.inbox d piece))
kept_fits size r d piece small f = record {
  places = slid_size (set r.inbox.held.places d (Some piece)) j.count few ∙ length-set r.inbox.held.places d (Some piece) ∙ f.places;
  room = f.room;
  free = free_after r.inbox d piece (cases_eq d 0) (not_large j.is_large small) f.free;
}
  where
    j : Joined
    j = in_order (placed r.inbox.held d piece) d

    not_large : (b : Bool) → ((if b then TooLarge else Kept) ≡ TooLarge → ⊥) → b ≡ false
    not_large true h = absurd (h refl)
    not_large false h = refl

    few : j.count ≤ length (set r.inbox.held.places d (Some piece))
    few = elim (cases_lt 0 j.count) [
      | inl some ↦
          (let e : j.count - 1 < j.count = omega arith in
          omega (arith, there_low (set r.inbox.held.places d (Some piece)) (j.count - 1) (in_order_there (placed r.inbox.held d piece) d (j.count - 1) e)))
      | inr none ↦ omega arith
    ]

pub dt_fits : (h : Half) (n : ℕ) (piece : Piece) → ((dt_arrival h n piece).got ≡ TooLarge → ⊥) → Fits h → Fits (taken_dt whole h n piece).half
dt_fits h n piece small f = by (judged (block_in h) h.receiver.inbox d) small
  where
    d : ℕ
    d = ahead (block_in h) (wire (block_in h) h.receiver.expected) n

    by : (g : Got) → ((arrived_as g h.receiver.inbox d piece).got ≡ TooLarge → ⊥) → IsFitted (most_of h.rules.format) (after_dt (λ (k : ℕ). k) h.receiver (arrived_as g h.receiver.inbox d piece))
    by Kept small = kept_fits (most_of h.rules.format) h.receiver d piece small f
    by other small = record { places = f.places; room = f.room; free = f.free }
