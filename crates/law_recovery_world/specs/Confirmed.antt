-- Two partner ends of a network of which the calling one took the CC and is Opened, and the called one is in AkWait, since its first AK was lost or has not come, as a pair in
-- which nothing waits (X.224, class 4: connection establishment).
use Rattle.std.specs.Prelude.{◌≡◌, ℕ, List}
use Rattle.osi_base.specs.Link.{Link}
use Rattle.tp4_number.specs.Formats.{most_of}
use Rattle.tp4_conn.specs.declared.states.InAkWait.{InAkWait}
use Rattle.tp4_conn.specs.declared.states.InOpened.{InOpened}
use Rattle.tp4_conn.specs.declared.states.StateData.TheVariants.{AkWait}
use Rattle.tp4_conn.specs.declared.timers.Timers.{Timers}
use Rattle.script_journal.specs.Partner.{ArePartners}
use Rattle.script_journal.specs.declared.event.Event.{Event}
use Rattle.law_tp4_pair.specs.Pair.{IsIdle, Pair}
use Rattle.law_recovery_steps.specs.Opening.{IsBegunSo}
use Rattle.tp4_world.specs.World.{World}
use Rattle.law_recovery_world.specs.Asking.{IsEndOf}
use Rattle.law_recovery_world.specs.Partners.{IsOpenedEnd}

-- the pair has these two partners, of which the one is confirmed and the other accepted, at the clock of the network; nothing waits
pub record IsConfirmedPairOf {C : Type 0} (link : C → Link (List ℕ)) (journal : List Event) (last : World C) (x y : ℕ) (p : Pair) (o : InOpened) (w : InAkWait) : Type 0 where
  pub partners : ArePartners journal x y
  pub calling : IsOpenedEnd last x p.calling o
  pub called : IsEndOf last y p.called
  pub accepted : p.called.stage ≡ AkWait w
  pub clock : p.clock ≡ (link last.carrier).clock
  pub idle : IsIdle p

-- all is known of it that such a pair begins with, and its timers are those of the network
pub record IsKnownConfirmed (timers : Timers) (p : Pair) (o : InOpened) (w : InAkWait) : Type 0 where
  pub begun : IsBegunSo timers.life (most_of w.halves.sending.rules.format) p o w
  pub calling : p.calling.base.timers ≡ timers
  pub called : p.called.base.timers ≡ timers
  pub calling_t1 : o.halves.sending.rules.t1 ≡ timers.t1
  pub called_t1 : w.halves.sending.rules.t1 ≡ timers.t1
