-- The line of an open end knows what the end sees.
use Rattle.std.proofs.Common.{◌≡◌, inl, inr, ℕ, ◌+◌, List, Some, subst}
use Rattle.std.proofs.lemmas.Option.{none-some}
use Rattle.osi_base.specs.Link.{Link}
use Rattle.tp4_conn.specs.declared.halves.Halves.{Halves}
use Rattle.tp4_conn.specs.declared.states.StateData.{StateData}
use Rattle.tp4_conn.specs.declared.states.StateData.TheVariants.{AkWait, Opened}
use Rattle.tp4_conn.specs.declared.timers.Timers.{Timers}
use Rattle.law_recovery_ends.specs.Knowing.{IsFreshView, StageKnows}
use Rattle.law_recovery_ends.proofs.Lines.{beginners_know}
use Rattle.script_journal.specs.declared.event.Event.{Event}
use Rattle.law_tp4_history.specs.Tracks.{Whole}
use Rattle.tp4_world.specs.World.{World}
use Rattle.law_tp4_lawful.specs.Numbers.{IsOpenEnd}
use Rattle.law_tp4_lawful.specs.References.{halves_at}
use Rattle.law_tp4_lawful.proofs.Known.{IsKnown}
use Rattle.law_tp4_lawful.proofs.Worlds.{Explains}
use Rattle.law_tp4_lawful.proofs.ReferencesHalves.{AreThere, are_there, known_at}
use Rattle.law_tp4_lawful.proofs.WorldPlaces.{some_same}
use Rattle.law_recovery_world.specs.Lines.{IsOfferedView, KnowsLine}
use Rattle.law_recovery_world.proofs.Known.{StageSees}
use Rattle.law_recovery_world.proofs.Viewing.{views_known}

module _ {C : Type 0} (link : C → Link (List ℕ)) (titles : List (List ℕ)) (timers : Timers) (w : Whole) (journal : List Event) (world : World C) (explains : Explains link titles timers w journal world)
    (y credit : ℕ) (halves : Halves) (open_end : IsOpenEnd world y halves) where
  here : (is : IsKnown w open_end.entity.own open_end.reference open_end.end) × (is.k + 1 ≡ y)
  here = known_at link titles timers w journal world explains y open_end.system open_end.entity open_end.reference open_end.end open_end.is_end

  there : AreThere w here.0.k open_end.end.base halves
  there = are_there link titles timers w journal world explains open_end.entity.own open_end.reference open_end.end here.0 halves open_end.has

  fresh_line : IsFreshView credit halves.sending → KnowsLine w y credit
  fresh_line fresh = record {
    k = here.0.k;
    number_is = here.1;
    knows = λ low. beginners_know (w.track here.0.k).room credit halves.sending (w.track here.0.k).line.world there.halves.sending.numbers low fresh;
  }

  seen_line : (z : ℕ) (o : Halves) → o ≡ halves → IsFreshView credit o.sending → KnowsLine w y credit
  seen_line z o same fresh = fresh_line (subst (λ (h : Halves). IsFreshView credit h.sending) same fresh)

  pub by_stage : (stage : StateData) → halves_at stage ≡ Some halves → StageKnows credit stage → StageSees credit w journal y stage → KnowsLine w y credit
  by_stage (AkWait a) has knows sees = seen_line 0 a.halves (some_same a.halves halves has) knows
  by_stage (Opened o) has knows (inl fresh) = seen_line 0 o.halves (some_same o.halves halves has) fresh
  by_stage (Opened o) has knows (inr v) =
      let k = views_known link titles timers w journal world explains y v.0 credit halves open_end v.1 (inr (subst (λ (h : Halves). IsOfferedView w v.0 h.sending) (some_same o.halves halves has) v.2)) in
      record { k = k.0; number_is = k.1; knows = k.2 }
  by_stage other has knows sees = absurd (none-some _ has)
