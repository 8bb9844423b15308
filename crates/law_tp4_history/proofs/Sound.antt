-- What holds of every history of ends, as facts of one end, of one offer and of one pair. Each speaks of all that was ever offered, so that nothing
-- has to be looked at again when the clock moves.
use Rattle.std.proofs.Common.{◌≡◌, ◌≢◌, ◌⊎◌, inl, inr, ℕ, ◌+◌, ◌<◌, ◌≤◌, true, false, ◌==◌, List, Option, Some, None, sym, subst, Contains}
use Rattle.std.proofs.lemmas.Bool.{eqb-true, eqb-false}
use Rattle.tp4_number.proofs.Past.{if_kept}
use Rattle.law_tp4_history.specs.Ends.{Times, frozen, Cr, Cc, Dr, Dc, Sent, Answer, Offer, Closing, End, IsRequest}
use Rattle.law_tp4_history.specs.History.{History, set_end, IsCaller, IsPartner}

pub at_end : (P : ℕ → End → Type 0) (f : ℕ → End) (y : ℕ) (e : End) (k : ℕ) → P y e → ((k ≡ y → ⊥) → P k (f k)) → P k (set_end f y e k)
at_end P f y e k here there = if_kept (P k) (k == y) e (f k) (λ t. subst (λ (j : ℕ). P j e) (sym (eqb-true k y t)) here) (λ t. there (eqb-false k y t))

-- v is at most c after the stop
abbrev pub Until : Option ℕ → ℕ → ℕ → Type 0
Until stop v c = (t : ℕ) → stop ≡ Some t → v ≤ t + c

-- an end that is out froze long ago, or was lost
abbrev pub IsGone : Times → History → List ℕ → ℕ → Type 0
IsGone times h address t = (t + frozen times < h.clock) ⊎ ((r : ℕ) × Contains h.restarts (address, r) × (t ≤ r))

-- of one end: its ticks, and what it knows
pub record OwnFacts (times : Times) (h : History) (k : ℕ) (e : End) : Type 0 where
  pub some : 0 < e.birth.reference
  pub made_low : e.birth.made ≤ e.took
  pub took_low : e.took ≤ h.clock
  pub stopped : (t : ℕ) → e.stop ≡ Some t → (t ≤ h.clock) × (e.took ≤ t) × (t ≤ e.took + times.idle + times.span)
  pub now_low : e.stop ≡ None → h.clock ≤ e.latest
  pub latest_low : e.stop ≡ None → e.latest ≤ e.took + times.idle + times.span
  pub parted : e.is_parted ≡ true → e.stop ≡ None → e.phase ≡ Closing
  pub gone : e.is_out ≡ true → (t : ℕ) × (e.stop ≡ Some t) × IsGone times h e.birth.address t
  pub known : e.known ≢ 0 → (x : ℕ) × IsPartner h k x × (e.known ≡ (h.end x).birth.reference)

-- b is called by a
pub record PairFacts (times : Times) (h : History) (a b : ℕ) : Type 0 where
  pub calls : (h.end a).birth.is_called ≡ false
  pub there : (h.end b).birth.partner ≡ (h.end a).birth.address
  pub back : (h.end a).birth.partner ≡ (h.end b).birth.address
  pub knows : (h.end b).known ≡ (h.end a).birth.reference
  pub before : (h.end a).birth.made ≤ (h.end b).birth.made
  pub asked : Until (h.end a).stop (h.end b).birth.made times.life
  pub words : (h.end b).birth.words ≡ (h.end a).birth.words

-- an offer of x that is no CR is for its partner
pub record AimedFacts (times : Times) (h : History) (o : Offer) (x : ℕ) : Type 0 where
  pub y : ℕ
  pub partner : IsPartner h x y
  pub to : o.to ≡ (h.end y).birth.address
  pub target : o.tpdu.target ≡ (h.end y).birth.reference
  pub made : (h.end y).birth.made ≤ o.tick
  pub outlived : Until (h.end y).stop o.tick (times.life + times.idle + times.span)
  pub parted : o.tpdu.kind ≡ Dc → (h.end y).is_parted ≡ true

pub record SentFacts (times : Times) (h : History) (o : Offer) (x : ℕ) : Type 0 where
  pub x_low : x < h.count
  pub from : o.from ≡ (h.end x).birth.address
  pub made : (h.end x).birth.made ≤ o.tick
  pub soon : o.tick ≤ (h.end x).took + times.idle + times.span
  pub stopped : Until (h.end x).stop o.tick 0
  pub request : o.tpdu.kind ≡ Cr → IsRequest times o.tick (h.end x).birth o
  pub aimed : o.tpdu.kind ≢ Cr → AimedFacts times h o x
  pub confirm : o.tpdu.kind ≡ Cc → o.tpdu.source ≡ (h.end x).birth.reference
  pub parting : o.tpdu.kind ≡ Dr → o.tpdu.source ≢ 0 → (o.tpdu.source ≡ (h.end x).birth.reference) × ((h.end x).is_parted ≡ true)

-- an answer to what z offered at the tick since
pub record AnswerFacts (times : Times) (h : History) (o : Offer) (z since : ℕ) : Type 0 where
  pub z_low : z < h.count
  pub to : o.to ≡ (h.end z).birth.address
  pub target : o.tpdu.target ≡ (h.end z).birth.reference
  pub made : (h.end z).birth.made ≤ since
  pub after : since ≤ o.tick
  pub soon : o.tick ≤ since + times.life
  pub stopped : Until (h.end z).stop since 0
  pub kind : ((o.tpdu.kind ≡ Dr) × (o.tpdu.source ≡ 0)) ⊎ (o.tpdu.kind ≡ Dc)
  pub parted : o.tpdu.kind ≡ Dc → (h.end z).is_parted ≡ true

pub record OfferFacts (times : Times) (h : History) (o : Offer) : Type 0 where
  pub past : o.tick ≤ h.clock
  pub sent : (x : ℕ) → o.origin ≡ Sent x → SentFacts times h o x
  pub answers : (z since : ℕ) → o.origin ≡ Answer z since → AnswerFacts times h o z since

-- of two ends with one address and reference the earlier is out since long
abbrev pub IsBooked : Times → History → ℕ → ℕ → Type 0
IsBooked times h i j = (h.end i).birth.address ≡ (h.end j).birth.address → (h.end i).birth.reference ≡ (h.end j).birth.reference
    → (t : ℕ) × ((h.end i).stop ≡ Some t) × (t + frozen times < (h.end j).birth.made) × ((h.end i).is_out ≡ true)

pub record Sound (times : Times) (h : History) : Type 0 where
  pub own : (k : ℕ) → k < h.count → OwnFacts times h k (h.end k)
  pub offers : (o : Offer) → Contains h.offers o → OfferFacts times h o
  pub caller_low : (b : ℕ) → b < h.count → (h.end b).birth.is_called ≡ true → (h.end b).birth.caller < h.count
  pub pairs : (a b : ℕ) → IsCaller h a b → PairFacts times h a b
  pub one : (a b c : ℕ) → IsCaller h a b → IsCaller h a c → b ≡ c
  pub outlived : (x z : ℕ) → IsPartner h x z → (h.end x).stop ≡ None → Until (h.end z).stop (h.end x).took times.life
  pub booked : (i j : ℕ) → i < j → j < h.count → IsBooked times h i j

-- what a partner is to an end
module _ (times : Times) (h : History) (s : Sound times h) where
  pub partner_low : (x z : ℕ) → IsPartner h x z → (x < h.count) × (z < h.count)
  partner_low x z (inl p) = (p.a_low, p.b_low)
  partner_low x z (inr p) = (p.b_low, p.a_low)

  pub partner_address : (x z : ℕ) → IsPartner h x z → (h.end x).birth.partner ≡ (h.end z).birth.address
  partner_address x z (inl p) = (s.pairs x z p).back
  partner_address x z (inr p) = (s.pairs z x p).there

  pub one_partner : (x y z : ℕ) → IsPartner h x y → IsPartner h x z → y ≡ z
  one_partner x y z (inl p) (inl q) = s.one x y z p q
  one_partner x y z (inl p) (inr q) = absurd (cc ((s.pairs x y p).calls, q.called))
  one_partner x y z (inr p) (inl q) = absurd (cc ((s.pairs x z q).calls, p.called))
  one_partner x y z (inr p) (inr q) = cc (p.is, q.is)
