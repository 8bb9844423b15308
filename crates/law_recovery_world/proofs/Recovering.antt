-- Two partners of a network recover, by what is known of them before and after.
use Rattle.std.proofs.Common.{◌≡◌, ℕ, List, ap}
use Rattle.osi_base.specs.Calls.{Call}
use Rattle.osi_base.specs.Link.{Link}
use Rattle.script_journal.specs.declared.event.Event.{Event}
use Rattle.tp4_number.specs.Number.{whole}
use Rattle.tp4_conn.specs.declared.states.InOpened.{InOpened}
use Rattle.tp4_conn.specs.declared.states.StateData.TheVariants.{Opened}
use Rattle.tp4_conn.specs.declared.timers.Timers.{Timers}
use Rattle.law_tp4_pair.specs.Pair.{Pair, back_units, forth_units}
use Rattle.law_recovery_steps.specs.Laws.{PairsRecover}
use Rattle.law_recovery_steps.specs.Resting.{HaveWindow}
use Rattle.law_recovery_steps.specs.Showing.{AreCarried}
use Rattle.tp4_world.specs.World.{World}
use Rattle.law_tp4_lawful.specs.Called.{AreHonestCalls}
use Rattle.law_recovery_world.specs.Partners.{IsPairOf}
use Rattle.law_recovery_world.specs.Laws.{KnownAreCarried, PartnersAreKnown, PartnersRecover}

-- two partners after some calls, where they are Opened
module _ {C : Type 0} (link : C → Link (List ℕ)) (steps : C → Call (List ℕ) → C → Type 0) (known : PartnersAreKnown link steps) (titles : List (List ℕ)) (timers : Timers) (journal : List Event) (world : World C)
    (honest : AreHonestCalls link steps whole titles timers journal world) (x y : ℕ) (p : Pair)
    (stands : (i k : InOpened) → p.calling.stage ≡ Opened i → p.called.stage ≡ Opened k → IsPairOf link journal world x y p i k) where
  pub windows : HaveWindow timers.window p
  windows i k mine theirs =
      let there = known titles timers journal world honest x y p i k (stands i k mine theirs) in
      (ap (λ (t : Timers). t.window) there.2.calling, ap (λ (t : Timers). t.window) there.2.called)

  pub units : KnownAreCarried → (i k : InOpened) → p.calling.stage ≡ Opened i → p.called.stage ≡ Opened k
      → AreCarried i.halves.sending k.halves.receiving (forth_units p) × AreCarried k.halves.sending i.halves.receiving (back_units p)
  units carried i k mine theirs =
      let there = (known titles timers journal world honest x y p i k (stands i k mine theirs)).0 in (
        carried timers.life p.clock i.halves.sending k.halves.receiving (forth_units p) there.there,
        carried timers.life p.clock k.halves.sending i.halves.receiving (back_units p) there.here,
      )

pub partners_recover : {C : Type 0} (link : C → Link (List ℕ)) (steps : C → Call (List ℕ) → C → Type 0) → PartnersAreKnown link steps → KnownAreCarried → PairsRecover → PartnersRecover link steps
partners_recover link steps known carried recover titles timers journal later first second one two x y p last o q happenings pair stands leads idle undue late =
    let begin = known titles timers journal first one x y p o q pair in
    recover timers.life timers.t1 timers.window p o q happenings last begin.0 begin.1 begin.2.calling_t1 begin.2.called_t1 (windows link steps known titles timers later second two x y last stands) one.timed.t1_least leads idle undue late
    (units link steps known titles timers later second two x y last stands carried)
