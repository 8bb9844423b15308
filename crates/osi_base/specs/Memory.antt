-- Sources and sinks in memory, as data.
use Rattle.std.specs.Prelude.{◌≡◌, ◌==◌, ℕ, ◌+◌, min, max, Bool, true, false, List, ◌++◌, length, drop, slice_get, Option, Some, None, Result, Ok, Err, if◌then◌else◌}
use Rattle.std.specs.List.{list_any}
use Rattle.osi_base.specs.declared.refusal.Failed.{Failed}
use Rattle.osi_base.specs.declared.refusal.WriteRefusal.{WriteRefusal}
use Rattle.osi_base.specs.declared.refusal.WriteRefusal.TheVariants.{Failed as WriteFailed, NoMemory as WriteNoMemory}

-- a source: what is left, the most that each call gives, the numbers of the calls that fail, the calls
-- and the faults so far, and the most octets that a call has asked for
pub record Input : Type 0 where
  pub left : List ℕ
  pub cuts : List ℕ
  pub fails : List ℕ
  pub calls : ℕ
  pub faults : ℕ
  pub asked : ℕ

-- a source that never fails: what is left, and the most octets that a call has asked for
pub record Unread : Type 0 where
  pub left : List ℕ
  pub asked : ℕ

-- a sink: what was written, the numbers of the calls that fail, the calls and the faults so far
pub record Output : Type 0 where
  pub held : List ℕ
  pub fails : List ℕ
  pub calls : ℕ
  pub faults : ℕ

-- a count rises by one, and stands still at its last value
abbrev pub next_count : ℕ → ℕ
next_count count = min (count + 1) 18446744073709551615

-- the call of this number is one that fails
abbrev pub is_failing : List ℕ → ℕ → Bool
is_failing fails call = list_any (λ number. number == call) fails

-- the most that a call may give with room for so many: its cut, where 0 counts as 1, or all
abbrev pub share : ℕ → Option ℕ → ℕ
share room None = room
share room (Some cut) = min room (max cut 1)

abbrev pub read_count : Input → ℕ → ℕ
read_count input room = min (share room (slice_get input.cuts input.calls)) (length input.left)

-- what a call of `read` with room for so many octets does
pub record Reads (old : Input) (room : ℕ) (result : Result ℕ Failed) (new : Input) : Type 0 where
  pub answer : result ≡ (if is_failing old.fails (next_count old.calls) then Err (record {}) else Ok (read_count old room))
  pub after : new ≡ (if is_failing old.fails (next_count old.calls)
      then record old { calls = next_count old.calls; faults = next_count old.faults; asked = max old.asked room }
      else record old { calls = next_count old.calls; left = drop (read_count old room) old.left; asked = max old.asked room })

-- what a call of `write` does: it fails by its number, or takes the piece whole, or memory ran out
abbrev pub Writes : Output → List ℕ → Result ℕ WriteRefusal → Output → Type 0
Writes old piece (Ok count) new =
    (is_failing old.fails (next_count old.calls) ≡ false) × (count ≡ length piece)
    × (new ≡ record old { calls = next_count old.calls; held = old.held ++ piece })
Writes old piece (Err WriteFailed) new =
    (is_failing old.fails (next_count old.calls) ≡ true)
    × (new ≡ record old { calls = next_count old.calls; faults = next_count old.faults })
Writes old piece (Err WriteNoMemory) new =
    (is_failing old.fails (next_count old.calls) ≡ false) × (new ≡ record old { calls = next_count old.calls })
