-- What the sender of a line knows it began with, or an AK of the line said it.
use Rattle.std.proofs.Common.{◌≡◌, inl, inr, ◌≤◌, ℕ, sym, ◌∙◌, ap, arith}
use Rattle.std.proofs.lemmas.Bool.{cases_lt}
use Rattle.tp4_number.specs.Number.{near, wire}
use Rattle.tp4_number.specs.Sender.{Sender}
use Rattle.tp4_number.specs.Traffic.{Answer, ReadsRightly, Rules, Traffic}
use Rattle.tp4_sending.specs.SendingHalf.{FlowSender, block_in}
use Rattle.tp4_conn.specs.Table.{Event}
use Rattle.law_recovery_pair.specs.Speaking.{Began, Heard, Knows}
use Rattle.law_recovery_pair.specs.Views.{known, view_of}
use Rattle.law_recovery_pair.specs.Viewing.{KeepsView}
use Rattle.law_recovery_ends.specs.Knowing.{HasHeard, IsFreshView}
use Rattle.law_recovery_ends.specs.Lines.{AreIn, WasSaid}

pub beginners_know : (room credit : ℕ) (t : FlowSender) (new : Traffic) → new.sender ≡ t.numbers → credit ≤ room → IsFreshView credit t → Knows room new
beginners_know room credit t new is low f =
    Began (ap (λ (n : Sender). n.base) is ∙ f.base) (ap (λ (n : Sender). n.subsequence) is ∙ f.subsequence) (omega (arith, low, f.credit_is, ap (λ (n : Sender). n.credit) is))

pub keepers_know : (room : ℕ) (s t : FlowSender) (old new : Traffic) → AreIn s t old new → KeepsView s t → Knows room old → Knows room new
keepers_know room s t old new in_it k knows = by knows
  where
    base : new.sender.base ≡ old.sender.base
    base = ap (λ (n : Sender). n.base) in_it.is ∙ k.base ∙ sym (ap (λ (n : Sender). n.base) in_it.was)

    credit : new.sender.credit ≡ old.sender.credit
    credit = ap (λ (n : Sender). n.credit) in_it.is ∙ k.credit ∙ sym (ap (λ (n : Sender). n.credit) in_it.was)

    subsequence : new.sender.subsequence ≡ old.sender.subsequence
    subsequence = ap (λ (n : Sender). n.subsequence) in_it.is ∙ k.subsequence ∙ sym (ap (λ (n : Sender). n.subsequence) in_it.was)

    same : known new ≡ known old
    same = λ i. record { number = base i; credit = credit i; subsequence = subsequence i }

    by : Knows room old → Knows room new
    by (Began zero none low) = Began (base ∙ zero) (subsequence ∙ none) (omega (arith, credit, low))
    by (Heard a there is) = Heard a (in_it.grows a there) (same ∙ is)

pub hearers_know : (rules : Rules) (room : ℕ) (s t : FlowSender) (event : Event) (old new : Traffic) → AreIn s t old new → rules.block ≡ block_in s → ReadsRightly rules old
    → WasSaid rules old event → HasHeard s event t → Knows room new
hearers_know rules room s t event old new in_it block reads said h = Heard a (in_it.grows a said.there) same
  where
    a : Answer
    a = said.a

    is : (h.w ≡ wire rules.block a.number) × (h.credit ≡ a.credit) × (h.subsequence ≡ a.subsequence)
    is = said.is h.w h.credit h.subsequence h.says

    was_base : old.sender.base ≡ s.numbers.base
    was_base = ap (λ (n : Sender). n.base) in_it.was

    -- it was read in the line as the half read it
    alike : near (block_in s) s.numbers.base h.w ≡ near rules.block old.sender.base (wire rules.block a.number)
    alike = λ i. near (sym block i) (sym was_base i) (is.0 i)

    read : near rules.block old.sender.base (wire rules.block a.number) ≡ a.number
    read = elim (cases_lt a.number old.sender.base) [
      | inr up ↦ reads.new_ak a said.there said.live up
      | inl older ↦ elim h.low [
        | inl low ↦ absurd (omega (arith, reads.old_ak a said.there said.live older, low, alike, ap (λ (n : Sender). n.blocks.high) in_it.was))
        | inr none ↦ absurd (omega (arith, older, none, was_base))
      ]
    ]

    base : new.sender.base ≡ a.number
    base = ap (λ (n : Sender). n.base) in_it.is ∙ h.base ∙ alike ∙ read

    credit : new.sender.credit ≡ a.credit
    credit = ap (λ (n : Sender). n.credit) in_it.is ∙ h.credit_is ∙ is.1

    subsequence : new.sender.subsequence ≡ a.subsequence
    subsequence = ap (λ (n : Sender). n.subsequence) in_it.is ∙ h.subsequence_is ∙ is.2

    same : known new ≡ view_of a
    same = λ i. record { number = base i; credit = credit i; subsequence = subsequence i }
