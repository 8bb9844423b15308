-- As which number an end reads a TPDU that comes to it: the number that it was sent with, or one that is ignored (X.224, class 4: sequencing, explicit
-- flow control, expedited data). All numbers are whole; on the wire they stand modulo four blocks.
use Rattle.std.specs.Prelude.{◌≡◌, ◌<◌, ◌≤◌, ℕ, ◌+◌, List, length, take, Some}
use Rattle.std.specs.List.{sum_by}
use Rattle.osi_base.specs.Link.{Link}
use Rattle.script_journal.specs.Lawful.{Marked, expediteds, normals, shown, submitted}
use Rattle.script_journal.specs.Partner.{ArePartners}
use Rattle.script_journal.specs.declared.event.Event.{Event}
use Rattle.tpdu.specs.declared.tpdu.Tpdu.{Tpdu}
use Rattle.tpdu.specs.declared.tpdu.Tpdu.TheVariants.{Dt, Ed, Ak, Ea}
use Rattle.tp4_number.specs.Formats.{block_of}
use Rattle.tp4_number.specs.Number.{near, wire}
use Rattle.tp4_sending.specs.Pieces.{count_in}
use Rattle.tp4_sending.specs.declared.tries.Tries.{Tries}
use Rattle.tp4_conn.specs.declared.halves.Halves.{Halves}
use Rattle.tp4_conn.specs.End.{End, agreed_format}
use Rattle.tp4_entity.specs.Entity.{Entity}
use Rattle.tp4_world.specs.World.{World}
use Rattle.law_tp4_lawful.specs.References.{AreSizes, Carries, ComesTo, IsEnd, halves_at}

-- DT n, where `expected` is the next one: it is read as n, or, where it came before, as a number so far ahead that it is old
pub record IsReadAsDt (block expected n : ℕ) : Type 0 where
  pub new : expected ≤ n → near block expected (wire block n) ≡ n
  pub old : n < expected → expected + block ≤ near block expected (wire block n)

-- AK n, where `base` is the first number that is not acknowledged, and `high` one past the greatest that was sent: it is read as n, or, where it is older, as
-- a number above `high`, and is ignored
pub record IsReadAsAk (block base high n : ℕ) : Type 0 where
  pub low : n ≤ high
  pub new : base ≤ n → near block base (wire block n) ≡ n
  pub old : n < base → high < near block base (wire block n)

-- ED n, where `expected` is the next one: none but the next one and the one before it have their wire numbers
pub record IsReadAsEd (block expected n : ℕ) : Type 0 where
  pub next : wire block n ≡ wire block expected → n ≡ expected
  pub before : wire block (n + 1) ≡ wire block expected → n + 1 ≡ expected

-- an end with these halves reads the TPDU of number n
abbrev pub IsReadAsNumber : ℕ → Halves → ℕ → Tpdu → Type 0
IsReadAsNumber block h n (Dt destination last number text) = IsReadAsDt block h.receiving.receiver.expected n
IsReadAsNumber block h n (Ed destination last number text) = IsReadAsEd block h.receiving.receiver.urgent n
IsReadAsNumber block h n (Ak destination number credit subsequence confirmation) = (number ≡ wire block n) × IsReadAsAk block h.sending.numbers.base h.sending.numbers.blocks.high n
IsReadAsNumber block h n (Ea destination number) = (number ≡ wire block n)
    -- where an ED is outstanding, none but its EA has its wire number
    × ((out : ℕ) (tries : Tries) → h.sending.urgent.out ≡ Some tries → out + 1 ≡ h.sending.urgent.next → number ≡ wire block out → n ≡ out)
IsReadAsNumber block h n other = Unit {0}

-- an end with these halves has sent the TPDU of number n: it went that far with DTs and EDs; an AK tells no number above the one that it expects, and an
-- EA that of an ED that it took
abbrev pub IsSentBy : Halves → ℕ → Tpdu → Type 0
IsSentBy h n (Dt destination last number text) = n < h.sending.numbers.blocks.high
IsSentBy h n (Ed destination last number text) = n < h.sending.urgent.next
IsSentBy h n (Ak destination number credit subsequence confirmation) = n ≤ h.receiving.receiver.expected
IsSentBy h n (Ea destination number) = n < h.receiving.receiver.urgent
IsSentBy h n other = Unit {0}

-- What AK n or EA n acknowledges was shown: of the normal units given, as many from the front as have all their pieces below n; and the expedited unit n.
-- An end was asked to send `given`, in pieces of that size, and its partner showed `got`
abbrev pub AcknowledgesShown : ℕ → List Marked → List Marked → ℕ → Tpdu → Type 0
AcknowledgesShown size given got n (Ak destination number credit subsequence confirmation) =
    (count : ℕ) → count ≤ length (normals given) → sum_by (count_in size) (take count (normals given)) ≤ n → count ≤ length (normals got)
AcknowledgesShown size given got n (Ea destination number) = n < length (expediteds got)
AcknowledgesShown size given got n other = Unit {0}

-- the end of the number x is open, with these halves
pub record IsOpenEnd {C : Type 0} (last : World C) (x : ℕ) (halves : Halves) : Type 0 where
  pub system : ℕ
  pub reference : ℕ
  pub entity : Entity
  pub end : End
  pub is_end : IsEnd last x system entity reference end
  pub has : halves_at end.stage ≡ Some halves

-- what comes to an open end y has a number n: it carries what its partner x was asked to send, or acknowledges what x has shown, whatever became of x; it is
-- what x sent, where x is open; and y reads it as n, or ignores it
pub record IsNumber {C : Type 0} (journal : List Event) (last : World C) (size : ℕ → ℕ) (x y block : ℕ) (halves : Halves) (tpdu : Tpdu) : Type 0 where
  pub n : ℕ
  pub carries : Carries (size x) block (submitted x journal) n tpdu
  pub acknowledges : AcknowledgesShown (size y) (submitted y journal) (shown x journal) n tpdu
  pub sent : (theirs : Halves) → IsOpenEnd last x theirs → IsSentBy theirs n tpdu
  pub read : IsReadAsNumber block halves n tpdu

pub record AreRead {C : Type 0} (link : C → Link (List ℕ)) (journal : List Event) (last : World C) : Type 0 where
  pub size : ℕ → ℕ
  pub sizes : AreSizes journal last size
  pub each : (x y : ℕ) (tpdu : Tpdu) (comes : ComesTo link last y tpdu) (halves : Halves) → ArePartners journal x y → halves_at comes.end.stage ≡ Some halves
      → IsNumber journal last size x y (block_of (agreed_format comes.end.base.agreed)) halves tpdu
