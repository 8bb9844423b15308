-- What the ends of a script's network come to once nothing is lost any more (X.214, service primitives; queue model of the transport service): those that were open recover; each that waited for
-- an answer has one, or waits for its called user alone, or went; and none is left beside a partner that has left.
use Rattle.std.specs.Prelude.{List}
use Rattle.script_journal.specs.declared.event.Event.{Event}
use Rattle.tp4_conn.specs.declared.timers.Timers.{Timers}
use Rattle.law_recovery_run.specs.Asked.{HaveAsked}
use Rattle.law_recovery_run.specs.Halves.{HalvesFollow, IndicationsEnd}
use Rattle.law_recovery_run.specs.Recovered.{Recovered}
use Rattle.law_run.specs.World.{TransportNet, link_of_net}

-- by the lines since a `settle` from which on nothing is lost: the ends that were Opened there (`recovered`); those that were in CrWait there, from T1 after it on (`asked`); those whose partner had
-- left by then (`followed`); and those whose user has not answered an indication (`indications`)
pub record ServesAgain (t : Timers) (at_t0 last : TransportNet) (early late : List Event) : Type 0 where
  pub recovered : Recovered link_of_net t at_t0 last early late
  pub asked : HaveAsked link_of_net t at_t0 last early late
  pub followed : HalvesFollow t (link_of_net at_t0.carrier).clock (link_of_net last.carrier).clock early at_t0 last
  pub indications : IndicationsEnd t (link_of_net last.carrier).clock last
