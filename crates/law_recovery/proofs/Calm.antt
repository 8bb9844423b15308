-- After a calm run nothing is outstanding between two Opened partners, and each took something less than W ticks ago: a pair went from its accept to them, neither is due, and each heard what the
-- other said last.
use Rattle.std.proofs.Common.{◌≡◌, inl, inr, ◌≤◌, ℕ, ◌+◌, List, ◌++◌, length, Some, None, Contains, refl, sym, ◌∙◌, ap, subst, arith}
use Rattle.std.proofs.lemmas.Option.{none-some}
use Rattle.osi_base.specs.Calls.{Call}
use Rattle.osi_base.specs.Link.{Link, IsLeastFresh}
use Rattle.osi_base.specs.declared.unit.Unit.{Unit as CarriedUnit}
use Rattle.script_journal.specs.Partner.{AreEnds}
use Rattle.script_journal.specs.declared.event.Event.{Event}
use Rattle.script_lines.specs.declared.line.Line.{Line}
use Rattle.tp4_number.specs.Number.{whole}
use Rattle.tp4_sending.specs.SendingHalf.{FlowSender}
use Rattle.tp4_sending.specs.declared.tries.Tries.{Tries}
use Rattle.tp4_conn.specs.End.{End}
use Rattle.tp4_conn.specs.Living.{IsInTime}
use Rattle.tp4_conn.specs.Table.{due}
use Rattle.tp4_conn.specs.declared.call.UserCall.TheVariants.{Accept}
use Rattle.tp4_conn.specs.declared.states.InAkWait.{InAkWait}
use Rattle.tp4_conn.specs.declared.states.InCrWait.{InCrWait}
use Rattle.tp4_conn.specs.declared.states.InOpened.{InOpened}
use Rattle.tp4_conn.specs.declared.states.StateData.{StateData}
use Rattle.tp4_conn.specs.declared.states.StateData.TheVariants.{AkWait, CrWait, Opened}
use Rattle.tp4_conn.specs.declared.timers.Timers.{Timers}
use Rattle.law_tp4_proper.proofs.Ends.{waits}
use Rattle.law_tp4_pair.specs.Pair.{Asks_called, Pair, next}
use Rattle.law_tp4_pair.specs.Flowing.{IsOrdered}
use Rattle.law_tp4_pair.specs.Pairs.{IsPairOf}
use Rattle.law_tp4_pair.specs.Rest.{AreAtRest}
use Rattle.law_tp4_pair.specs.Standing.{Both, Confirming, First, HasLeft, Left, Stands}
use Rattle.law_tp4_pair.proofs.Pairs.{stands_after}
use Rattle.law_tp4_pair.proofs.Resting.{accepts_stands, pair_rests}
use Rattle.tp4_world.specs.World.{World}
use Rattle.law_tp4_lawful.specs.Called.{AreHonestCalls}
use Rattle.law_calm_run.specs.Service.{end_at_number}
use Rattle.law_calm_run.proofs.Hall.{AreWaiting}
use Rattle.law_calm_run.proofs.Keeping.{has_story}
use Rattle.law_calm_run.proofs.Partnering.{story_has_pairs}
use Rattle.law_calm_run.proofs.Placing.{where_it_stands}
use Rattle.law_calm_run.proofs.Story.{Story, address_of}
use Rattle.law_recovery_ends.specs.Due.{IsUndue}
use Rattle.law_recovery_ends.proofs.Due.{undue}
use Rattle.law_recovery_steps.specs.Causes.{IsTryOf}
use Rattle.law_recovery_steps.proofs.Going.{same_open}
use Rattle.law_recovery_world.specs.Laws.{PartnersAreKnown}
use Rattle.law_recovery_world.specs.Partners.{AreTimed, IsOpenedEnd}
use Rattle.law_recovery_run.specs.Ordered.{HasGone, RunsInOrder}
use Rattle.law_recovery_run.specs.Laws.{EndsHaveNumbers, LinesAreCalls, RunsAreReady}
use Rattle.law_recovery_run.specs.Ready.{HasStarted, pair_at}
use Rattle.law_recovery_run.proofs.Readiness.{settled_none, start_called}
use Rattle.law_recovery_steps.specs.Since.{IsUpToDate}
use Rattle.law_recovery.specs.Laws.{CalmAreUpToDate}
use Rattle.law_recovery.specs.Outage.{AreOrdered}
use Rattle.law_recovery.proofs.OutageHearing.{idle_heard}
use Rattle.law_recovery.proofs.OutageStarting.{Whatever, begun_aside, is_ready, is_start}

-- ---- nothing is outstanding

left_not : (stage : StateData) (o : InOpened) → HasLeft stage → stage ≡ Opened o → ⊥
left_not stage o left is = subst HasLeft is left

request_not : (r : InCrWait) (o : InOpened) → CrWait r ≡ Opened o → ⊥
request_not r o e = cc e

waits_not : (w : InAkWait) (o : InOpened) → AkWait w ≡ Opened o → ⊥
waits_not w o e = cc e

ordered_in : (p : Pair) (o q : InOpened) → Stands p → p.calling.stage ≡ Opened o → p.called.stage ≡ Opened q → IsOrdered o.halves.sending × IsOrdered q.halves.sending
ordered_in p o q (Left left) is other = absurd (elim left [ inl mine ↦ left_not p.calling.stage o mine is | inr theirs ↦ left_not p.called.stage q theirs other ])
ordered_in p o q (Confirming r w asks answers new c) is other = absurd (request_not r o (sym asks ∙ is))
ordered_in p o q (First i w opened answers f) is other = absurd (waits_not w q (sym answers ∙ other))
ordered_in p o q (Both i j one two b) is other = (
  subst (λ (x : InOpened). IsOrdered x.halves.sending) (same_open i o (sym one ∙ is)) b.there.flows.ordered,
  subst (λ (x : InOpened). IsOrdered x.halves.sending) (same_open j q (sym two ∙ other)) b.here.flows.ordered,
)

none_in : (window : List Tries) (tries : Tries) → length window ≡ 0 → Contains window tries → ⊥
none_in window tries none there = omega (arith, none, there.1)

none_tried : (s : FlowSender) (size : ℕ) → length s.window + s.numbers.base ≡ s.numbers.next → s.numbers.base ≡ size → s.numbers.next ≡ size → s.urgent.out ≡ None → (tries : Tries) → IsTryOf s tries → ⊥
none_tried s size window base next out tries (inl there) = none_in s.window tries (omega (arith, window, base, next)) there
none_tried s size window base next out tries (inr is) = none-some tries (sym out ∙ is)

module _ {C : Type 0} (link : C → Link (List ℕ)) (steps : C → Call (List ℕ) → C → Type 0) (ready_of : RunsAreReady link steps) (lines_of : LinesAreCalls link steps whole) (numbers_of : EndsHaveNumbers link steps)
    (known_of : PartnersAreKnown link steps) where
  module _ (titles : List (List ℕ)) (timers : Timers) (begun early : List Event) (first at_s : World C) (front : List Line)
      (s : HasStarted link steps titles timers begun first) (ordered : AreOrdered link steps titles first.carrier) (none : IsLeastFresh (link first.carrier) None)
      (run : RunsInOrder link steps titles first front early at_s)
      (calling called : ℕ) (x y : End) (o q : InOpened) (ends : AreEnds (begun ++ early) calling called) (x_is : end_at_number at_s calling ≡ Some x) (y_is : end_at_number at_s called ≡ Some y)
      (x_open : x.stage ≡ Opened o) (y_open : y.stage ≡ Opened q) where
    gone : HasGone link titles (λ (state : C) (queue : List (CarriedUnit (List ℕ))). Prim.Unit {0}) first early at_s
    gone = ordered first at_s front early (is_ready link steps titles timers begun first s ready_of none) run

    story : Story timers (address_of titles) gone.hall (begun ++ early)
    story = has_story titles timers (Whatever link steps titles timers begun first s) first (is_start link steps titles timers begun first s) (link first.carrier).clock begun early gone.hall
        (begun_aside link steps titles timers begun first s) gone.goes

    pair : IsPairOf (begun ++ early) calling called x y
    pair = story_has_pairs timers (address_of titles) gone.hall (begun ++ early) at_s story gone.none gone.shows.entities gone.shows.ends calling called x y o q ends x_is y_is x_open y_open

    mine : pair.last.calling.stage ≡ Opened o
    mine = ap (λ (e : End). e.stage) pair.calling_is ∙ x_open

    theirs : pair.last.called.stage ≡ Opened q
    theirs = ap (λ (e : End). e.stage) pair.called_is ∙ y_open

    abbrev accepted : Pair
    accepted = next pair.first (Asks_called (Accept pair.asked pair.octets))

    stands : Stands pair.last
    stands = stands_after accepted pair.last pair.happenings (accepts_stands pair.first pair.asked pair.octets pair.accepts) pair.leads

    rest : AreAtRest pair.last o q
    rest = pair_rests pair.last o q stands pair.idle mine theirs

    in_order : IsOrdered o.halves.sending × IsOrdered q.halves.sending
    in_order = ordered_in pair.last o q stands mine theirs

    heard : (q.acked ≤ o.took) × (o.acked ≤ q.took)
    heard = idle_heard pair.first pair.last pair.asked pair.octets pair.happenings o q pair.accepts pair.leads pair.idle mine theirs

    -- ---- neither is due

    abbrev now : ℕ
    now = (link at_s.carrier).clock

    none_due : AreWaiting now at_s.entities
    none_due = subst (λ (n : ℕ). AreWaiting n at_s.entities) (sym gone.shows.clock) (subst (AreWaiting gone.hall.clock) (sym gone.shows.entities) gone.rest)

    later : (number : ℕ) (e : End) (i : InOpened) → end_at_number at_s number ≡ Some e → e.stage ≡ Opened i → IsInTime (due e.base (Opened i)) (now + 1)
    later number e i is opened =
        let w = where_it_stands at_s number e is in
        subst (λ (stage : StateData). IsInTime (due e.base stage) (now + 1)) opened ((waits now w.stands.0 (none_due w.place.system w.stands.0 w.stands.1)).1 w.place.reference e w.stands.2)

    my_undue : IsUndue now x.base o
    my_undue = undue now x.base o in_order.0.is_open (later calling x o x_is x_open)

    their_undue : IsUndue now y.base q
    their_undue = undue now y.base q in_order.1.is_open (later called y q y_is y_open)

    -- ---- their timers

    calls : AreHonestCalls link steps whole titles timers (begun ++ early) at_s
    calls = lines_of titles timers begun early first at_s front (start_called link steps whole titles timers begun first s) run.proper (settled_none front run.settled) run.runs

    opened : (number : ℕ) (e : End) (i : InOpened) → end_at_number at_s number ≡ Some e → e.stage ≡ Opened i → IsOpenedEnd at_s number e i
    opened number e i is stage =
        let at = (numbers_of titles timers (begun ++ early) at_s calls number e).1 is in
        record { system = at.system; reference = at.reference; entity = at.entity; is_end = at.is_end; stage = stage }

    timed : AreTimed timers (pair_at now (begun ++ early) calling called x y) o q
    timed = (known_of titles timers (begun ++ early) at_s calls calling called (pair_at now (begun ++ early) calling called x y) o q
        (record {
          partners = inl ends;
          calling = opened calling x o x_is x_open;
          called = opened called y q y_is y_open;
          clock = refl;
          idle = record { forth = refl; back = refl };
          calling_gave = refl;
          called_gave = refl;
          calling_showed = refl;
          called_showed = refl;
        })).2

    up : IsUpToDate timers now o × IsUpToDate timers now q
    up = (
      record {
        tried = λ tries is. absurd (none_tried o.halves.sending q.halves.receiving.receiver.expected in_order.0.window rest.there.base rest.there.next rest.there.out tries is);
        heard = omega (arith, heard.0, their_undue.spoke, ap (λ (t : Timers). t.window) timed.called);
      },
      record {
        tried = λ tries is. absurd (none_tried q.halves.sending o.halves.receiving.receiver.expected in_order.1.window rest.here.base rest.here.next rest.here.out tries is);
        heard = omega (arith, heard.1, my_undue.spoke, ap (λ (t : Timers). t.window) timed.calling);
      },
    )

  pub calm_up : CalmAreUpToDate link steps
  calm_up titles timers begun early first at_s front s ordered none run calling called x y o q ends x_is y_is x_open y_open =
      up titles timers begun early first at_s front s ordered none run calling called x y o q ends x_is y_is x_open y_open
