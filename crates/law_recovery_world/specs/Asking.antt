-- Two partner ends of a network of which the calling one is in CrWait and the called one in AkWait, as a pair in which nothing waits (X.224, class 4: connection establishment).
use Rattle.std.specs.Prelude.{◌≡◌, ℕ, List}
use Rattle.osi_base.specs.Link.{Link}
use Rattle.tp4_conn.specs.End.{End}
use Rattle.tp4_conn.specs.declared.states.InAkWait.{InAkWait}
use Rattle.tp4_conn.specs.declared.states.InCrWait.{InCrWait}
use Rattle.tp4_conn.specs.declared.states.StateData.TheVariants.{AkWait, CrWait}
use Rattle.tp4_conn.specs.declared.timers.Timers.{Timers}
use Rattle.tp4_entity.specs.Entity.{Entity}
use Rattle.script_journal.specs.Partner.{ArePartners}
use Rattle.script_journal.specs.declared.event.Event.{Event}
use Rattle.law_tp4_pair.specs.Pair.{IsIdle, Pair}
use Rattle.law_recovery_steps.specs.Opening.{AreAsking}
use Rattle.tpdu.specs.declared.service.Options.{Options}
use Rattle.tp4_world.specs.World.{World}
use Rattle.law_tp4_lawful.specs.References.{IsEnd}

-- the end of the number x
pub record IsEndOf {C : Type 0} (last : World C) (x : ℕ) (end : End) : Type 0 where
  pub system : ℕ
  pub reference : ℕ
  pub entity : Entity
  pub is_end : IsEnd last x system entity reference end

-- the pair has these two partners, of which the one asks and the other accepted, at the clock of the network; nothing waits
pub record IsAskingPairOf {C : Type 0} (link : C → Link (List ℕ)) (journal : List Event) (last : World C) (x y : ℕ) (p : Pair) (r : InCrWait) (w : InAkWait) : Type 0 where
  pub partners : ArePartners journal x y
  pub calling : IsEndOf last x p.calling
  pub called : IsEndOf last y p.called
  pub asks : p.calling.stage ≡ CrWait r
  pub accepted : p.called.stage ≡ AkWait w
  pub clock : p.clock ≡ (link last.carrier).clock
  pub idle : IsIdle p

-- all is known of it that such a pair begins with, and its timers are those of the network
pub record IsKnownToAsk (timers : Timers) (p : Pair) (r : InCrWait) (w : InAkWait) : Type 0 where
  pub options : Options
  pub asking : AreAsking timers.life p r w options
  pub calling : p.calling.base.timers ≡ timers
  pub called : p.called.base.timers ≡ timers
