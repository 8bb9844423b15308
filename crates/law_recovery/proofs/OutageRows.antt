-- A row of an Opened end that is up to date leaves it so, where it may not leave by it.
use Rattle.std.proofs.Common.{◌≡◌, inl, inr, ◌≤◌, ℕ, List, ◌∙◌, ap, subst}
use Rattle.tp4_number.specs.Number.{whole}
use Rattle.tp4_flow.specs.declared.rules.FlowRules.{FlowRules}
use Rattle.tp4_conn.specs.End.{IsTimed, end_of}
use Rattle.tp4_conn.specs.Table.{Event, stepped}
use Rattle.tp4_conn.specs.declared.timers.Timers.{Timers}
use Rattle.script_journal.specs.declared.event.Event.{Event as Told}
use Rattle.law_tp4_history.specs.Tracks.{Whole}
use Rattle.law_tp4_history.specs.Moves.{AreOwn}
use Rattle.tp4_world.specs.declared.place.EndAt.{EndAt}
use Rattle.tp4_world.specs.declared.place.Placed.{Placed}
use Rattle.law_tp4_lawful.specs.References.{halves_at}
use Rattle.law_tp4_lawful.proofs.Known.{IsKnown, IsThere, Known}
use Rattle.law_tp4_lawful.proofs.ReferencesHalves.{own_in}
use Rattle.law_recovery_steps.specs.Since.{MayLeave}
use Rattle.law_recovery_steps.proofs.Keeping.{rows_keep_up}
use Rattle.law_recovery.proofs.Placing.{IsAt, IsUp}

module _ (titles : List (List ℕ)) (timers : Timers) (timed : IsTimed timers) (w : Whole) (journal : List Told) (entities : List Placed) (ends : List EndAt) (known : Known titles timers w journal entities ends)
    (s : ℕ) (since : s ≤ w.base.clock) (n system reference : ℕ) (here : IsAt timers s entities ends n system reference) where
  timers_are : here.e.base.timers ≡ timers
  timers_are = (known.holds system here.entity here.there).theirs reference here.e here.stands

  kn : IsKnown w here.entity.own reference here.e
  kn = subst (IsThere w here.entity.own reference) here.stands ((known.holds system here.entity here.there).there reference)

  own : AreOwn here.e.base here.up.o.halves
  own = (own_in (w.base.end kn.k).birth (w.base.end kn.k).took (w.base.end kn.k).latest here.e.base here.e.stage here.up.o.halves (ap halves_at here.up.stage) kn.sees.state).0

  pub keeps_up : (event : Event) → (MayLeave timers s w.base.clock here.e.base here.up.o event → ⊥) → IsUp timers s (end_of (stepped whole w.base.clock here.e event))
  keeps_up event stays =
      elim (rows_keep_up timers s w.base.clock here.e here.up.o event here.up.stage timers_are
      (ap (λ (r : FlowRules). r.t1) own.sending ∙ ap (λ (t : Timers). t.t1) timers_are) (ap (λ (r : FlowRules). r.sendings) own.sending ∙ ap (λ (t : Timers). t.sendings) timers_are)
      since timed.window_least here.up.since) [
        | inl leaves ↦ absurd (stays leaves)
        | inr kept ↦ record { o = kept.after; stage = kept.stage; since = kept.since }
      ]
