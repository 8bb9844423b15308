-- The histories that steps lead to, and what is claimed of them (X.224, frozen references; class 4 procedures).
use Rattle.std.specs.Prelude.{◌≡◌, ◌≢◌, ◌⊎◌, ℕ, ◌+◌, ◌<◌, ◌≤◌, false, List, Some, None, Contains}
use Rattle.law_tp4_history.specs.Ends.{Times, frozen, Cr, Dr, Dc, Flow, Terms, Offer, Sent, Answer, End}
use Rattle.law_tp4_history.specs.History.{History, nothing, Step, Leads, IsFresh, IsPartner, IsCaller}

-- steps lead to it from nothing
abbrev pub Reached : Times → History → Type 0
Reached times h = (end : ℕ → End) × (steps : List Step) × Leads times (nothing end) steps h

-- the offer is for end y
pub data IsFor (h : History) (o : Offer) (y : ℕ) : Type 0 where
  From_partner : (x : ℕ) → o.origin ≡ Sent x → IsPartner h x y → o.from ≡ (h.end x).birth.address → IsFor h o y
  Answering : (since : ℕ) → o.origin ≡ Answer y since → (o.tpdu.kind ≡ Dr) × (o.tpdu.source ≡ 0) ⊎ (o.tpdu.kind ≡ Dc) → IsFor h o y

-- what is afloat and goes to an end was offered after that end was made, by its partner or as an answer to it
abbrev pub MeetsOwn : Times → History → Type 0
MeetsOwn times h = (y : ℕ) (o : Offer) → y < h.count → (h.end y).is_out ≡ false → Contains h.offers o → IsFresh times h o → o.tpdu.kind ≢ Cr
    → o.to ≡ (h.end y).birth.address → o.tpdu.target ≡ (h.end y).birth.reference → ((h.end y).birth.made ≤ o.tick) × IsFor h o y

-- Law of one request: a CR is sent for the last time (N - 1) * T1 after its request at the latest, and is afloat for a lifetime then. A request that made a
-- called end was made by then: so its last CR is gone N * T1 and a lifetime after that end stopped, or, of an end of before, after a restart of its entity
pub record OneRequest (times : Times) (h : History) (a : ℕ) (o : Offer) : Type 0 where
  pub made : h.clock ≤ (h.end a).birth.made + times.most + times.life
  pub called : (y : ℕ) → IsCaller h a y → h.clock ≤ (h.end y).birth.made + times.most + times.life
  pub stopped : (y t : ℕ) → IsCaller h a y → (h.end y).stop ≡ Some t → h.clock ≤ t + times.span + times.life
  pub restarted : (y r : ℕ) → IsCaller h a y → Contains h.restarts ((h.end y).birth.address, r) → (h.end y).birth.made ≤ r → h.clock ≤ r + times.span + times.life

-- of every CR that is afloat
abbrev pub EachRequest : Times → History → Type 0
EachRequest times h = (a : ℕ) (o : Offer) → Contains h.offers o → o.tpdu.kind ≡ Cr → o.origin ≡ Sent a → IsFresh times h o → OneRequest times h a o

-- nothing is afloat for an end or from it, nor the CR that made it
pub record IsQuiet (times : Times) (h : History) (y : ℕ) : Type 0 where
  pub to : (o : Offer) → Contains h.offers o → IsFor h o y → IsFresh times h o → ⊥
  pub from : (o : Offer) → Contains h.offers o → o.origin ≡ Sent y → IsFresh times h o → ⊥
  pub request : (a : ℕ) (o : Offer) → IsCaller h a y → Contains h.offers o → o.tpdu.kind ≡ Cr → o.origin ≡ Sent a → IsFresh times h o → ⊥

-- once the reference of an end may be given again, that end is quiet
abbrev pub FreeIsQuiet : Times → History → Type 0
FreeIsQuiet times h = (y t : ℕ) → y < h.count → (h.end y).stop ≡ Some t → t + frozen times < h.clock → IsQuiet times h y

-- a DT, ED, AK or EA afloat for an end is in the format on which that end agreed
abbrev pub FlowInFormat : Times → History → Type 0
FlowInFormat times h = (y : ℕ) (o : Offer) → y < h.count → (h.end y).is_out ≡ false → Contains h.offers o → IsFresh times h o → o.tpdu.kind ≡ Flow
    → o.to ≡ (h.end y).birth.address → o.tpdu.target ≡ (h.end y).birth.reference → (terms : Terms) × ((h.end y).agreed ≡ Some terms) × (o.is_extended ≡ terms.is_extended)

-- law of one end: it stops in time after the last TPDU that it took, whatever the cause, and offers nothing after its stop
pub record OneEnd (times : Times) (h : History) (k : ℕ) : Type 0 where
  pub going : (h.end k).stop ≡ None → h.clock ≤ (h.end k).took + times.idle + times.span
  pub stopped : (t : ℕ) → (h.end k).stop ≡ Some t → ((h.end k).took ≤ t) × (t ≤ (h.end k).took + times.idle + times.span)
  pub offers : (o : Offer) → Contains h.offers o → o.origin ≡ Sent k → ((h.end k).birth.made ≤ o.tick) × (o.tick ≤ (h.end k).took + times.idle + times.span)
  pub no_more : (o : Offer) (t : ℕ) → Contains h.offers o → o.origin ≡ Sent k → (h.end k).stop ≡ Some t → o.tick ≤ t

-- law of one answer: what answers a TPDU of an end that stopped is afloat for two lifetimes at most
abbrev pub OneAnswer : Times → History → Type 0
OneAnswer times h = (o : Offer) (z since t : ℕ) → Contains h.offers o → o.origin ≡ Answer z since → (h.end z).stop ≡ Some t → IsFresh times h o → h.clock ≤ t + times.life + times.life

-- both laws, of all ends
abbrev pub EachEnd : Times → History → Type 0
EachEnd times h = ((k : ℕ) → k < h.count → OneEnd times h k) × OneAnswer times h
