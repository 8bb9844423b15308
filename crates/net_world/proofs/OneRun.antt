-- A call has one list of events and leads to one state: it is asked alike, so it is answered alike and leads to one state, and
-- what waits there is taken up in one way.
use Rattle.std.proofs.Common.{◌≡◌, ◌⊎◌, inl, inr, ℕ, ◌<◌, ◌≤◌, true, false, List, [], ◌∷◌, Some, None, refl, sym, ◌∙◌, ap, subst, arith}
use Rattle.osi_base.specs.declared.unit.Up.{Up}
use Rattle.osi_base.specs.declared.unit.Wish.{Wish}
use Rattle.osi_base.specs.declared.unit.Offered.{Offered}
use Rattle.osi_base.specs.Link.{Link, IsLeastFresh, is_fresh}
use Rattle.osi_base.specs.Calls.{Call, Offer}
use Rattle.osi_base.specs.Gathering.{Gathers}
use Rattle.script_journal.specs.RawLawful.{raw_address}
use Rattle.script_journal.specs.declared.event.Event.{Event}
use Rattle.law_carrier_answers.specs.Answers.{OneStep, OneGathering, asked_of}
use Rattle.net_world.specs.Told.{told, sent_event}
use Rattle.net_world.specs.Run.{raw_unit, Passes, SendsUnit}

-- ---- the least pair that was not taken

-- one pair comes before another, or is that one
least_same : (one other : ℕ × ℕ) → ((one.0 < other.0) ⊎ ((one.0 ≡ other.0) × (one.1 ≤ other.1))) → ((other.0 < one.0) ⊎ ((other.0 ≡ one.0) × (other.1 ≤ one.1))) → one ≡ other
least_same one other up down =
    let first : one.0 ≡ other.0 = elim up [ inl low ↦ elim down [ inl high ↦ absurd (omega (arith, low, high)) | inr same ↦ sym same.0 ] | inr same ↦ same.0 ] in
    let second : one.1 ≡ other.1 = elim up [
      | inl low ↦ absurd (omega (arith, low, first))
      | inr same ↦ elim down [ inl high ↦ absurd (omega (arith, high, first)) | inr back ↦ omega (arith, same.1, back.1) ]
    ] in
    λ i. (first i, second i)

pub least_one : {A : Type 0} (link : Link A) (one other : ℕ × ℕ) → IsLeastFresh link (Some one) → IsLeastFresh link (Some other) → one ≡ other
least_one link one other a b = least_same one other (a.1 other.0 other.1 b.0) (b.1 one.0 one.1 a.0)

pub least_none : {A : Type 0} (link : Link A) (pair : ℕ × ℕ) → IsLeastFresh link None → IsLeastFresh link (Some pair) → ⊥
least_none link pair a b =
    let none : is_fresh link pair.0 pair.1 ≡ false = a pair.0 pair.1 in
    let some : is_fresh link pair.0 pair.1 ≡ true = b.0 in
    let apart : false ≡ true = sym none ∙ some in
    absurd cc

-- ---- calls

-- two runs that have the same events and lead to the same state
pub record Same {C : Type 0} (made other : List Event) (new next : C) : Type 0 where
  pub events : made ≡ other
  pub state : new ≡ next

module _ {C : Type 0} (link : C → Link (List ℕ)) (steps : C → Call (List ℕ) → C → Type 0) (once : OneStep steps) (gathers : OneGathering link steps) where
  -- two calls that are asked alike
  pub record SamePass (call other : Call (List ℕ)) (ups others : List (Up (List ℕ))) (new next : C) : Type 0 where
    pub calls : call ≡ other
    pub ups_are : ups ≡ others
    pub state : new ≡ next

  pub one_pass : (old : C) (call other : Call (List ℕ)) (ups others : List (Up (List ℕ))) (new next : C) → asked_of call ≡ asked_of other
      → Passes link steps old call ups new → Passes link steps old other others next → SamePass call other ups others new next
  one_pass old call other ups others new next asked p q =
      let same = once old call other p.called q.called asked p.steps_to q.steps_to in
      let there : Gathers link steps q.called ups new = subst (λ (c : C). Gathers link steps c ups new) same.1 p.gathers in
      let up = gathers q.called ups others new next there q.gathers in
      record { calls = same.0; ups_are = up.0; state = up.1 }

  pub one_unit : (old : C) (system : ℕ) (sender receiver : List ℕ) (wish : Wish) (octets : List ℕ) (made other : List Event) (new next : C)
      → SendsUnit link steps old system sender receiver wish octets made new → SendsUnit link steps old system sender receiver wish octets other next → Same made other new next
  one_unit old system sender receiver wish [] made other new next a b = record { events = a.0 ∙ sym b.0; state = a.1 ∙ sym b.1 }
  one_unit old system sender receiver wish (octet ∷ octets) made other new next a b =
      let same = one_pass old (Offer (raw_unit sender receiver (octet ∷ octets)) wish a.0) (Offer (raw_unit sender receiver (octet ∷ octets)) wish b.0) a.1 b.1 new next refl a.2 b.2 in
      let calls = same.calls in
      let answer : a.0 ≡ b.0 = cc in
      record {
        events = a.3
            ∙ (ap (λ (o : Offered). sent_event system (raw_address receiver) (octet ∷ octets) o ∷ told a.1) answer
            ∙ ap (λ (us : List (Up (List ℕ))). sent_event system (raw_address receiver) (octet ∷ octets) b.0 ∷ told us) same.ups_are) ∙ sym b.3;
        state = same.state;
      }
