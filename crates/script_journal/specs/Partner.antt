-- The partner ends of a connection: which connect request an indication is of.
use Rattle.std.specs.Prelude.{◌≡◌, ◌⊎◌, ℕ, ◌<◌, List, slice_get, Some}
use Rattle.script_journal.specs.declared.event.Event.{Event}
use Rattle.script_journal.specs.declared.event.Event.TheVariants as events
use Rattle.script_journal.specs.declared.event.Indication.{Indication}
use Rattle.script_journal.specs.declared.event.Request.{Request}

-- at the place q stands the latest connect request before p that has this address and reference
pub record IsLatest (journal : List Event) (p q : ℕ) (calling : List ℕ) (reference : ℕ) (asked : Request) : Type 0 where
  pub is : slice_get journal q ≡ Some (events.Connect asked)
  pub before : q < p
  pub from : asked.calling ≡ calling
  pub by : asked.reference ≡ reference
  pub last : (r : ℕ) (other : Request) → q < r → r < p → slice_get journal r ≡ Some (events.Connect other) → other.calling ≡ calling → other.reference ≡ reference → ⊥

-- the request at the place q is the partner of the indication at p
pub record Partner (journal : List Event) (p q : ℕ) (heard : Indication) (asked : Request) : Type 0 where
  pub is : slice_get journal p ≡ Some (events.Incoming heard)
  pub latest : IsLatest journal p q heard.calling heard.partner asked

-- the two ends of a connection: the one asked for it, and the other was asked
pub record AreEnds (journal : List Event) (calling called : ℕ) : Type 0 where
  pub p : ℕ
  pub q : ℕ
  pub heard : Indication
  pub asked : Request
  pub partner : Partner journal p q heard asked
  pub calling_is : asked.end ≡ calling
  pub called_is : heard.end ≡ called

-- the two are the ends of one connection
abbrev pub ArePartners : List Event → ℕ → ℕ → Type 0
ArePartners journal end other = AreEnds journal end other ⊎ AreEnds journal other end
