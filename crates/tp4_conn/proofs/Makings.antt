-- The clock of an end that a CR made.
use Rattle.std.proofs.Common.{◌≡◌, ℕ, List, Some, refl, ap}
use Rattle.tpdu.specs.declared.kind.Kind.TheVariants as kinds
use Rattle.tpdu.specs.declared.tpdu.Tpdu.{Tpdu}
use Rattle.tpdu.specs.declared.tpdu.Tpdu.TheVariants.{Cr, Cc}
use Rattle.tpdu.specs.Writing.{kind_for}
use Rattle.tp4_flow.specs.Told.{Told}
use Rattle.tp4_conn.specs.declared.end_record.EndRecord.{EndRecord}
use Rattle.tp4_conn.specs.declared.states.StateData.{StateData}
use Rattle.tp4_conn.specs.declared.timers.Timers.{Timers}
use Rattle.tp4_conn.specs.End.{Moved, Does}
use Rattle.tp4_conn.specs.Making.{on_cr}

pub called_now : (now own : ℕ) (from : List ℕ) (rules : Timers) (tpdu : Tpdu) (b : EndRecord) (stage : StateData) (was new : Told) → kind_for tpdu ≡ kinds.Cr
    → ((m : Moved) → on_cr now own from rules tpdu ≡ Some m → Does m b stage was new) → b.clock ≡ now
called_now now own from rules (Cr credit source width calling called size preferred extra version classes ack_time text) b stage was new kind h =
    ap (λ (c : EndRecord). c.clock) (h _ refl).base_is
called_now now own from rules (Cc _ _ _ _ _ _ _ _ _ _ _ _ _) b stage was new kind h = absurd cc
called_now now own from rules tpdu b stage was new kind h = absurd cc
