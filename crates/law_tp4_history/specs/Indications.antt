-- Which connect request of a history is the partner of which connect indication, read from its events alone (X.214, queue model).
use Rattle.std.specs.Prelude.{◌≡◌, ℕ, ◌<◌, List, ◌++◌, length, get_or}
use Rattle.law_tp4_history.specs.Ends.{Words}
use Rattle.law_tp4_history.specs.History.{Event, Connected, Indicated, Other}

-- the request at the place q is the latest before p from that address with that reference
pub record IsLatest (events : List Event) (p q : ℕ) (from : List ℕ) (source : ℕ) (to : List ℕ) (words : Words) : Type 0 where
  pub is : get_or events q Other ≡ Connected from source to words
  pub before : q < p
  pub last : (r : ℕ) (other : List ℕ) (said : Words) → q < r → r < p → get_or events r Other ≡ Connected from source other said → ⊥

-- the request at the place q is the partner of the indication at p
pub record IsPartnerOf (events : List Event) (p q : ℕ) : Type 0 where
  pub own : List ℕ
  pub reference : ℕ
  pub from : List ℕ
  pub source : ℕ
  pub words : Words
  pub to : List ℕ
  pub said : Words
  pub p_low : p < length events
  pub is : get_or events p Other ≡ Indicated own reference from source words
  pub latest : IsLatest events p q from source to said

-- no request is the partner of two indications, and each indication has a partner that names its address, with the same selectors and octets
pub record AreIndications (events : List Event) : Type 0 where
  pub one : (p other q : ℕ) → IsPartnerOf events p q → IsPartnerOf events other q → p ≡ other
  pub some : (p : ℕ) (own : List ℕ) (reference : ℕ) (from : List ℕ) (source : ℕ) (words : Words) → p < length events → get_or events p Other ≡ Indicated own reference from source words
      → (q : ℕ) × IsLatest events p q from source own words

-- in each front of the events
abbrev pub IndicatesEach : List Event → Type 0
IndicatesEach events = (front back : List Event) → events ≡ front ++ back → AreIndications front
