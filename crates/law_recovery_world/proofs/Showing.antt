-- Two partners of a network have shown what was submitted, by the journal, in which stands what either told.
use Rattle.std.proofs.Common.{◌≡◌, ◌⊎◌, inl, inr, ℕ, List, subst}
use Rattle.osi_base.specs.Calls.{Call}
use Rattle.osi_base.specs.Link.{Link}
use Rattle.script_journal.specs.declared.event.Event.{Event}
use Rattle.tp4_number.specs.Number.{whole}
use Rattle.tp4_conn.specs.End.{End}
use Rattle.tp4_conn.specs.declared.states.InOpened.{InOpened}
use Rattle.tp4_conn.specs.declared.states.StateData.{StateData}
use Rattle.tp4_conn.specs.declared.states.StateData.TheVariants.{Opened}
use Rattle.tp4_conn.specs.declared.timers.Timers.{Timers}
use Rattle.law_tp4_pair.specs.Claim.{HasShown}
use Rattle.law_tp4_pair.specs.Pair.{Pair, back_units, forth_units}
use Rattle.law_tp4_pair.specs.Telling.{Tells}
use Rattle.law_tp4_pair.specs.Rest.{AreAtRest}
use Rattle.law_tp4_pair.proofs.ShownIn.{end_quiet, shows_in}
use Rattle.law_recovery_steps.specs.Resting.{AreLater}
use Rattle.law_recovery_steps.specs.Steps.{IsParted}
use Rattle.tp4_world.specs.World.{World}
use Rattle.law_tp4_lawful.specs.Called.{AreHonestCalls}
use Rattle.law_recovery_world.specs.Laws.{CallsTell, PartnersRecover, PartnersShow}
use Rattle.law_recovery_world.specs.Steady.{StageTells}
use Rattle.law_recovery_world.specs.Partners.{IsOpenedEnd, IsPairOf}

-- at rest, not due, and told
pub rest_shows : {C : Type 0} (link : C → Link (List ℕ)) (journal : List Event) (w : World C) (x y : ℕ) (p : Pair) (o q : InOpened) → IsPairOf link journal w x y p o q
    → StageTells journal x p.calling.stage → StageTells journal y p.called.stage → AreLater p → AreAtRest p o q
    → HasShown p.clock journal x y o.halves.sending q.halves.receiving × HasShown p.clock journal y x q.halves.sending o.halves.receiving
rest_shows {C} link journal w x y p o q pair mine theirs later rest = (
  shows_in p.clock journal x y o.halves.sending q.halves.receiving (forth_units p) mine.told (end_quiet p.clock p.calling o pair.calling.stage later.0) rest.shown_there
      (subst (λ (stage : StateData). Tells stage mine.told) pair.calling.stage mine.tells) mine.stands pair.calling_gave pair.called_showed,
  shows_in p.clock journal y x q.halves.sending o.halves.receiving (back_units p) theirs.told (end_quiet p.clock p.called q pair.called.stage later.1) rest.shown_here
      (subst (λ (stage : StateData). Tells stage theirs.told) pair.called.stage theirs.tells) theirs.stands pair.called_gave pair.calling_showed,
)

-- so where both rest in the network after some calls
pub rests_show : {C : Type 0} (link : C → Link (List ℕ)) (steps : C → Call (List ℕ) → C → Type 0) → CallsTell link steps → (titles : List (List ℕ)) (timers : Timers) (later : List Event) (second : World C)
    → AreHonestCalls link steps whole titles timers later second → (x y : ℕ) (last : Pair)
    → ((i k : InOpened) → last.calling.stage ≡ Opened i → last.called.stage ≡ Opened k → IsPairOf link later second x y last i k) → AreLater last
    → IsParted last ⊎ ((i k : InOpened) × (last.calling.stage ≡ Opened i) × (last.called.stage ≡ Opened k) × AreAtRest last i k)
    → IsParted last ⊎ ((i k : InOpened) × (last.calling.stage ≡ Opened i) × (last.called.stage ≡ Opened k) × HasShown last.clock later x y i.halves.sending k.halves.receiving
    × HasShown last.clock later y x k.halves.sending i.halves.receiving)
rests_show {C} link steps tell titles timers later second two x y last stands undue rests =
    elim rests [
      | inl left ↦ inl left
      | inr r ↦ inr (
          let there = stands r.0 r.1 r.2 r.3 in
          let shown = rest_shows link later second x y last r.0 r.1 there (told x last.calling r.0 there.calling) (told y last.called r.1 there.called) undue r.4 in
          (r.0, r.1, r.2, r.3, shown.0, shown.1))
    ]
  where
    told : (n : ℕ) (e : End) (i : InOpened) → IsOpenedEnd second n e i → StageTells later n e.stage
    told n e i c = tell titles timers later second two n c.system c.reference c.entity e c.is_end

pub partners_show : {C : Type 0} (link : C → Link (List ℕ)) (steps : C → Call (List ℕ) → C → Type 0) → PartnersRecover link steps → CallsTell link steps → PartnersShow link steps
partners_show link steps recover tell titles timers journal later first second one two x y p last o q happenings pair stands leads idle undue late =
    rests_show link steps tell titles timers later second two x y last stands undue (recover titles timers journal later first second one two x y p last o q happenings pair stands leads idle undue late)
