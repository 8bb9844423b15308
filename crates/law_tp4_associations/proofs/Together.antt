-- All laws of associations together: each step of a network in which nothing is lost leaves its associations standing.
use Rattle.std.proofs.Common.{ℕ, List}
use Rattle.tp4_conn.specs.declared.timers.Timers.{Timers}
use Rattle.law_tp4_associations.proofs.AllLaws.{Laws}
use Rattle.law_tp4_associations.specs.Ticking.{IsTicking}
use Rattle.law_tp4_associations.proofs.Called.{calls}
use Rattle.law_tp4_associations.proofs.Connecting.{connects}
use Rattle.law_tp4_associations.proofs.Handed.{handed}
use Rattle.law_tp4_associations.proofs.Ticking.{ticks_so}
use Rattle.law_tp4_associations.proofs.Waiting.{accepts, addressed, answerable, formatted}

pub all_laws : (timers : Timers) (own : ℕ → List ℕ) → Laws timers own (IsTicking timers own)
all_laws timers own = record {
  handed = handed timers own;
  addressed = addressed timers own;
  formatted = formatted timers own;
  connects = connects timers own;
  calls = calls timers own;
  ticks = ticks_so timers own;
  answerable = answerable timers own;
  accepts = accepts timers own;
}
