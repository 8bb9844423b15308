-- A unit that is not refused fits into its queue.
use Rattle.std.proofs.Common.{◌≡◌, ℕ, ◌+◌, ◌<◌, ◌≤◌, ◌==◌, ◌||◌, Bool, false, nat_lt, nat_le, if◌then◌else◌, List, [], ◌∷◌, ◌++◌, length, length-append, Some, None, refl, arith}
use Rattle.std.specs.List.{sum_by}
use Rattle.std.proofs.lemmas.Bool.{or_parts, ltb-false, leb-false}
use Rattle.std.proofs.lemmas.List.Sums.{sum_by-append, sum_by-cons}
use Rattle.tp4_flow.specs.declared.rules.SubmitRefusal.TheVariants.{EmptyUnit, TooLong, QueueFull}
use Rattle.tp4_sending.specs.SendingHalf.{FlowSender, refusal, urgent_refusal}
use Rattle.tp4_sending.specs.Kept.{IsSending}
use Rattle.tp4_sending.proofs.Counts.{with_units}

not_full : (empty long full : Bool) → (if empty then Some EmptyUnit else if long then Some TooLong else if full then Some QueueFull else None) ≡ None → full ≡ false
not_full false false false e = refl
not_full empty long full e = absurd (cc e)

pub queued : (s : FlowSender) (unit : List ℕ) → IsSending s → refusal s (length unit) ≡ None → IsSending (record s { queue = record s.queue { units = s.queue.units ++ unit ∷ [] } })
queued s unit h fits =
    let room = or_parts _ _ (not_full (length unit == 0) (nat_lt 16384 (length unit)) (nat_le 64 (length s.queue.units) || nat_lt 131072 (sum_by length s.queue.units + length unit)) fits) in
    let few : length s.queue.units < 64 = leb-false _ _ room.0 in
    let low : sum_by length s.queue.units + length unit ≤ 131072 = ltb-false _ _ room.1 in
    with_units s (s.queue.units ++ unit ∷ []) s.urgent h (omega (arith, few, length-append s.queue.units (unit ∷ [])))
    (omega (arith, low, sum_by-append length s.queue.units (unit ∷ []), sum_by-cons length unit [])) h.urgent h.out h.expedited h.urged

pub queued_urgent : (s : FlowSender) (unit : List ℕ) → IsSending s → urgent_refusal s (length unit) ≡ None → IsSending (record s { urgent = record s.urgent { units = s.urgent.units ++ unit ∷ [] } })
queued_urgent s unit h fits =
    let few : length s.urgent.units < 64 = leb-false _ _ (not_full (length unit == 0) (nat_lt 16 (length unit)) (nat_le 64 (length s.urgent.units)) fits) in
    with_units s s.queue.units (record s.urgent { units = s.urgent.units ++ unit ∷ [] }) h h.units h.octets h.urgent h.out (omega (arith, few, length-append s.urgent.units (unit ∷ []))) h.urged
