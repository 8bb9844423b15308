-- Two ends of a pair in the lines of their connection: what either sends stands in its own line, with what its user submitted (X.224, class 4: segmentation and
-- reassembling, expedited data; X.214, queue model).
use Rattle.std.specs.Prelude.{◌≡◌, ℕ, false, List, []}
use Rattle.tp4_conn.specs.End.{End}
use Rattle.tp4_conn.specs.Opened.{is_expedited}
use Rattle.tp4_conn.specs.Proper.{IsProper}
use Rattle.script_journal.specs.Lawful.{Marked, expediteds, normals}
use Rattle.law_tp4_history.specs.Ends.{Terms, Times}
use Rattle.law_tp4_history.specs.Tracks.{IsRun, Track}
use Rattle.law_tp4_history.specs.Lines.{Stands}
use Rattle.law_tp4_pair.specs.Pair.{Pair}
use Rattle.law_recovery_steps.specs.Fitting.{AllShort}

-- one end: its halves stand in its line and in that of its partner. Each normal unit that its user submitted has at most 16,384 octets, and no expedited one was submitted where
-- expedited data is not agreed
pub record IsSide (times : Times) (terms : Terms) (now : ℕ) (e : End) (own theirs : Track) (gave : List Marked) : Type 0 where
  pub stands : Stands terms e.base e.stage own theirs
  pub proper : IsProper e.base e.stage
  pub life : times.life ≡ e.base.timers.life
  pub run : IsRun times now own
  pub submitted : own.line.submitted ≡ gave
  pub short : AllShort (normals gave)
  pub urged : is_expedited e.base.agreed ≡ false → expediteds gave ≡ []

-- both, which agreed on the same
pub record AreLined (times : Times) (terms : Terms) (p : Pair) : Type 0 where
  pub there : Track
  pub here : Track
  pub calling : IsSide times terms p.clock p.calling there here p.calling_gave
  pub called : IsSide times terms p.clock p.called here there p.called_gave
  pub expedited : is_expedited p.calling.base.agreed ≡ is_expedited p.called.base.agreed
