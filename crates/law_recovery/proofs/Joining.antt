-- A run with a short outage: two partners that were Opened and up to date at tick s are so at tick t0, so both are back from there on; neither goes, since no cause of t0 or before is left.
use Rattle.std.proofs.Common.{◌≡◌, inl, inr, ◌<◌, ◌≤◌, ℕ, ◌*◌, ◌==◌, Bool, true, false, if◌then◌else◌, List, ◌∷◌, ◌++◌, Option, Some, None, refl, sym, ◌∙◌, ap, subst, arith, append_assoc}
use Rattle.std.specs.Prelude.{option_and_then}
use Rattle.std.specs.List.{AllByRecursion}
use Rattle.std.proofs.Math.Nat.{mul-le-mul_right}
use Rattle.std.proofs.lemmas.Bool.{eqb-true}
use Rattle.std.proofs.lemmas.Option.{none-some}
use Rattle.std.proofs.lemmas.List.Elements.{Contains-append_right}
use Rattle.osi_base.specs.Calls.{Call}
use Rattle.osi_base.specs.Link.{Link, IsLeastFresh}
use Rattle.osi_base.specs.declared.unit.Unit.{Unit as CarriedUnit}
use Rattle.script_journal.specs.Partner.{AreEnds, ArePartners}
use Rattle.script_journal.specs.declared.event.Event.{Event}
use Rattle.script_journal.specs.declared.event.Event.TheVariants as events
use Rattle.script_lines.specs.Injecting.{IsNoInjection}
use Rattle.script_lines.specs.declared.line.Line.{Line}
use Rattle.script_lines.specs.declared.line.Line.TheVariants as lines
use Rattle.tpdu.specs.declared.service.GoneCause.{GoneCause}
use Rattle.tpdu.specs.declared.service.GoneCause.TheVariants.{Exhausted, Inactive}
use Rattle.tp4_number.specs.Number.{whole}
use Rattle.tp4_conn.specs.End.{End, IsTimed}
use Rattle.tp4_conn.specs.declared.states.InOpened.{InOpened}
use Rattle.tp4_conn.specs.declared.states.StateData.TheVariants.{Opened}
use Rattle.tp4_conn.specs.declared.timers.Timers.{Timers}
use Rattle.tp4_entity.specs.Entity.{Entity, end_at}
use Rattle.law_tp4_pair.specs.CalmScript.{IsSettledScript}
use Rattle.tp4_world.specs.First.{IsFirst}
use Rattle.tp4_world.specs.Run.{Starts}
use Rattle.tp4_world.specs.World.{World, end_numbered, entity_at, latest}
use Rattle.tp4_world.specs.declared.place.EndAt.{EndAt}
use Rattle.tp4_world.specs.declared.place.Placed.{Placed}
use Rattle.law_tp4_lawful.specs.Called.{AreHonestCalls}
use Rattle.law_tp4_lawful.specs.First.{AreDistinct, IsUntouched}
use Rattle.law_tp4_lawful.specs.Limits.{IsProperLine}
use Rattle.law_tp4_lawful.proofs.ReferencesLater.{partners_on}
use Rattle.law_calm_run.specs.Run.{HaveEntities, IsUnrouted}
use Rattle.law_calm_run.specs.Service.{end_at_number, end_placed}
use Rattle.law_calm_run.proofs.Queueing.{all_parts}
use Rattle.law_recovery_steps.specs.Causes.{IsCause}
use Rattle.law_recovery_run.specs.Run.{RunsOn}
use Rattle.law_recovery_run.specs.Losses.{IsKept}
use Rattle.law_recovery_run.specs.Ordered.{HasGone, IsReady, RunsInOrder}
use Rattle.law_recovery_run.specs.Laws.{EndsHaveNumbers, LinesAreCalls, RunsAreCalls}
use Rattle.law_recovery_run.specs.Ready.{HasStarted}
use Rattle.law_recovery_run.proofs.Readiness.{start_called}
use Rattle.law_recovery_run.proofs.Calls.{HaveCalls, both_called, line_called, lines_called}
use Rattle.law_recovery_run.specs.Recovered.{AreBack, By_itself, By_user, Goes, Recovered}
use Rattle.law_recovery_run.specs.Service.{RecoversFrom}
use Rattle.law_recovery_steps.specs.Since.{IsUpToDate}
use Rattle.law_recovery.specs.Laws.{PartnersStay, CalmAreUpToDate, RecoveringIsKept}
use Rattle.law_recovery.specs.Staying.{IsLeftAlone, IsOpenedSince}
use Rattle.law_recovery.specs.Outage.{AreKept, AreKeptCalm, AreOrdered, IsShort, RunsThrough}
use Rattle.law_recovery.proofs.OutageLines.{lines_joined}
use Rattle.law_recovery.proofs.Following.{front_alone}

-- ---- the end of a number, where it was made

pub record IsMade {C : Type 0} (world : World C) (number : ℕ) (place : EndAt) (e : End) : Type 0 where
  pub entity : Entity
  pub there : entity_at world.entities place.system ≡ Some entity
  pub stands : end_at entity place.reference ≡ Some e
  pub number_is : latest world.ends place.system place.reference ≡ number

made_at : {C : Type 0} (world : World C) (number : ℕ) (place : EndAt) (e : End) → end_numbered world.ends number ≡ Some place → end_at_number world number ≡ Some e → IsMade world number place e
made_at {C} world number place e numbered is = by_latest (latest world.ends place.system place.reference == number) refl (subst (λ (o : Option EndAt). end_placed world number o ≡ Some e) numbered is)
  where
    by_entity : (same : latest world.ends place.system place.reference ≡ number) (o : Option Entity) → entity_at world.entities place.system ≡ o
        → option_and_then (λ (x : Entity). end_at x place.reference) o ≡ Some e → IsMade world number place e
    by_entity same None there at = absurd (none-some e at)
    by_entity same (Some x) there at = record { entity = x; there = there; stands = at; number_is = same }

    by_latest : (same : Bool) → (latest world.ends place.system place.reference == number) ≡ same
        → (if same then option_and_then (λ (x : Entity). end_at x place.reference) (entity_at world.entities place.system) else None) ≡ Some e → IsMade world number place e
    by_latest true same at = by_entity (eqb-true (latest world.ends place.system place.reference) number same) (entity_at world.entities place.system) refl at
    by_latest false same at = absurd (none-some e at)

-- ---- neither goes

module _ (t : Timers) (s t0 : ℕ) (short : IsShort t s t0) where
  cause_not : (tick : ℕ) (o : InOpened) (cause : GoneCause) → IsUpToDate t s o → IsCause t t0 tick o cause → ⊥
  cause_not tick o Exhausted up (tries, is, spent, last, soon) =
      let all : t.sendings * t.t1 ≤ tries.count * t.t1 = mul-le-mul_right t.t1 spent in
      omega (arith, up.tried tries is, all, last, soon, short.tries)
  cause_not tick o Inactive up (took, soon) = omega (arith, up.heard, took, soon, short.idle)
  cause_not tick o other up c = absurd c

  goes_not : (early lost late : List Event) (end system : ℕ) (o : InOpened) → IsLeftAlone end system (lost ++ late) → IsUpToDate t s o → Goes t t0 early late end o → ⊥
  goes_not early lost late end system o alone up (By_user octets there) = alone.user octets (Contains-append_right lost late (events.Disconnect end octets) there)
  goes_not early lost late end system o alone up (By_itself tick cause why at) = cause_not tick o cause up why

-- what both are the other way round
turned : {C : Type 0} (t : Timers) (t0 now : ℕ) (journal : List Event) (last : World C) (calling called : ℕ) → AreBack t t0 now journal last calling called → AreBack t t0 now journal last called calling
turned t t0 now journal last calling called b = record {
  x = b.y;
  y = b.x;
  o = b.q;
  q = b.o;
  calling_is = b.called_is;
  called_is = b.calling_is;
  calling_open = b.called_open;
  called_open = b.calling_open;
  there = b.here;
  here = b.there;
}

module _ {C : Type 0} (link : C → Link (List ℕ)) (steps : C → Call (List ℕ) → C → Type 0) (lines_of : LinesAreCalls link steps whole) (calls_of : RunsAreCalls link steps whole)
    (numbers_of : EndsHaveNumbers link steps) (stay : PartnersStay link steps) where
  module _ (titles : List (List ℕ)) (begins : C) (recovers : RecoversFrom link steps whole titles begins)
      (timers : Timers) (made : C) (placed : List Placed) (begun early lost late : List Event) (script : List Line) (first at_s at_t0 last : World C) (begins_is : first.carrier ≡ begins)
      (timed : IsTimed timers) (low : timers.window < timers.inactive) (distinct : AreDistinct titles) (have : HaveEntities titles placed)
      (is_first : IsFirst timers.life titles (link made) placed) (untouched : AllByRecursion (IsUntouched timers) placed) (starts : Starts link steps made placed begun first)
      (run : RunsThrough link steps whole titles first at_s at_t0 last script early lost late) where
    started : HasStarted link steps titles timers begun first
    started = record { made = made; placed = placed; timed = timed; distinct = distinct; have = have; is_first = is_first; untouched = untouched; starts = starts }

    on : RunsOn link steps whole titles first at_t0 last script (early ++ lost) late
    on = record {
      recovers = record { before = run.front ++ run.between; after = run.after; script_is = run.script_is; no_inject = run.no_inject; settled = run.settled };
      old = run.old;
      front = early ++ run.made;
      here = run.here;
      early_is = ap (λ (es : List Event). early ++ es) run.lost_is ∙ sym (append_assoc early run.made run.here);
      early_run = lines_joined link steps whole titles run.front run.between first at_s run.old early run.made run.front_run run.between_run;
      settle_run = run.settle_run;
      none_left = run.none_left;
      late_run = run.late_run;
      kept = run.kept;
      proper = run.proper;
      unrouted = run.unrouted;
    }

    recovered : Recovered link timers at_t0 last (begun ++ (early ++ lost)) late
    recovered = recovers timers made placed begun (early ++ lost) late script first at_t0 last begins_is timed low distinct have is_first untouched starts on

    -- ---- the lines

    front_parts : (P : Line → Type 0) → AllByRecursion P script → (AllByRecursion P run.front × AllByRecursion P run.between) × AllByRecursion P (lines.Settle ∷ run.after)
    front_parts P all =
        let parts = all_parts P (run.front ++ run.between) (lines.Settle ∷ run.after) (subst (λ (ls : List Line). AllByRecursion P ls) run.script_is all) in
        (all_parts P run.front run.between parts.0, parts.1)

    front_calls : AreHonestCalls link steps whole titles timers (begun ++ early) at_s
    front_calls =
        lines_of titles timers begun early first at_s run.front (start_called link steps whole titles timers begun first started) (front_parts IsProperLine run.proper).0.0
        (all_parts IsNoInjection run.front run.between run.no_inject).0 run.front_run

    t0_calls : AreHonestCalls link steps whole titles timers (begun ++ (early ++ lost)) at_t0
    t0_calls = (calls_of titles timers begun (early ++ lost) late first at_t0 last script started on).0

    lost_calls : HaveCalls link steps whole titles at_s lost at_t0
    lost_calls = subst (λ (es : List Event). HaveCalls link steps whole titles at_s es at_t0) (sym run.lost_is)
        (both_called link steps whole titles at_s run.old at_t0 run.made run.here
        (lines_called link steps whole titles run.between at_s run.old run.made (front_parts IsProperLine run.proper).0.1 run.between_run)
        (line_called link steps whole titles lines.Settle run.old at_t0 run.here tt run.settle_run))

    abbrev s : ℕ
    s = (link at_s.carrier).clock

    abbrev t0 : ℕ
    t0 = (link at_t0.carrier).clock

    abbrev now : ℕ
    now = (link last.carrier).clock

    journal_is : (begun ++ early) ++ lost ≡ begun ++ (early ++ lost)
    journal_is = append_assoc begun early lost

    -- ---- two partners

    abbrev since : (number : ℕ) (place : EndAt) (e : End) (o : InOpened) → end_numbered at_s.ends number ≡ Some place → end_at_number at_s number ≡ Some e → e.stage ≡ Opened o → IsUpToDate timers s o
        → IsOpenedSince timers s at_s number
    since number place e o numbered is stage up = let m = made_at at_s number place e numbered is in record {
      system = place.system;
      reference = place.reference;
      entity = m.entity;
      end = e;
      is_end = record { there = m.there; stands = m.stands; number = m.number_is };
      o = o;
      stage = stage;
      since = up;
    }

    -- at t0
    stands_then : (number : ℕ) (i : IsOpenedSince timers s at_t0 number) → end_at_number at_t0 number ≡ Some i.end
    stands_then number i = (numbers_of titles timers (begun ++ (early ++ lost)) at_t0 t0_calls number i.end).0 (record { system = i.system; reference = i.reference; entity = i.entity; is_end = i.is_end })

    module _ (short : IsShort timers s t0) where
      -- so both are back
      one_way : (calling called one other : ℕ) (x : IsOpenedSince timers s at_t0 calling) (y : IsOpenedSince timers s at_t0 called) → AreEnds (begun ++ (early ++ lost)) calling called
          → IsLeftAlone calling one (lost ++ late) → IsLeftAlone called other (lost ++ late) → AreBack timers t0 now ((begun ++ (early ++ lost)) ++ late) last calling called
      one_way calling called one other x y ends alone other_alone =
          elim (recovered calling called x.end y.end x.o y.o ends (stands_then calling x) (stands_then called y) x.stage y.stage) [
            | inl back ↦ back
            | inr gone ↦ absurd (elim gone.first [
              | inl goes ↦ goes_not timers s t0 short (begun ++ (early ++ lost)) lost late calling one x.o alone x.since goes
              | inr goes ↦ goes_not timers s t0 short (begun ++ (early ++ lost)) lost late called other y.o other_alone y.since goes
            ])
          ]

      both_ways : (calling called one other : ℕ) (x : IsOpenedSince timers s at_t0 calling) (y : IsOpenedSince timers s at_t0 called) → ArePartners (begun ++ (early ++ lost)) calling called
          → IsLeftAlone calling one (lost ++ late) → IsLeftAlone called other (lost ++ late) → AreBack timers t0 now ((begun ++ (early ++ lost)) ++ late) last calling called
      both_ways calling called one other x y (inl ends) alone other_alone = one_way calling called one other x y ends alone other_alone
      both_ways calling called one other x y (inr ends) alone other_alone =
          turned timers t0 now ((begun ++ (early ++ lost)) ++ late) last called calling (one_way called calling other one y x ends other_alone alone)

    kept_through : AreKept link timers at_s at_t0 last (begun ++ early) lost late
    kept_through calling called x y o q here there ends x_is y_is x_open y_open x_up y_up short x_at y_at alone other_alone =
        let both = stay titles timers (begun ++ early) lost at_s at_t0 lost_calls.calls front_calls lost_calls.limits lost_calls.did t0_calls.honest s calling called (inl ends) (omega arith)
        (since calling here x o x_at x_is x_open x_up) (since called there y q y_at y_is y_open y_up)
        (front_alone calling here.system lost late alone) (front_alone called there.system lost late other_alone)
        (omega (arith, short.tries)) (omega (arith, short.idle)) in
        let partners : ArePartners (begun ++ (early ++ lost)) calling called =
        subst (λ (es : List Event). ArePartners es calling called) journal_is (partners_on (begun ++ early) lost calling called (inl ends)) in
        subst (λ (es : List Event). AreBack timers t0 now (es ++ late) last calling called) (sym journal_is)
        (both_ways short calling called here.system there.system both.0 both.1 partners alone other_alone)

    -- ---- calm up to s

    module _ (calm_of : CalmAreUpToDate link steps) (ordered : AreOrdered link steps titles begins) (none : IsLeastFresh (link begins) None)
        (settled : IsSettledScript run.front) (kept : AllByRecursion IsKept early) where
      in_order : RunsInOrder link steps titles first run.front early at_s
      in_order = record {
        settled = settled;
        proper = (front_parts IsProperLine run.proper).0.0;
        unrouted = (front_parts IsUnrouted run.unrouted).0.0;
        kept = kept;
        runs = run.front_run;
      }

      kept_calm : AreKeptCalm link timers at_s at_t0 last (begun ++ early) lost late
      kept_calm calling called x y o q here there ends x_is y_is x_open y_open short x_at y_at alone other_alone =
          let up = calm_of titles timers begun early first at_s run.front started (subst (AreOrdered link steps titles) (sym begins_is) ordered)
          (subst (λ (state : C). IsLeastFresh (link state) None) (sym begins_is) none) in_order calling called x y o q ends x_is y_is x_open y_open in
          kept_through calling called x y o q here there ends x_is y_is x_open y_open up.0 up.1 short x_at y_at alone other_alone

  pub all_kept : CalmAreUpToDate link steps → RecoveringIsKept link steps
  all_kept calm_of titles begins recovers = (
    λ timers made placed begun early lost late script first at_s at_t0 last begins_is timed low distinct have is_first untouched starts run.
        kept_through titles begins recovers timers made placed begun early lost late script first at_s at_t0 last begins_is timed low distinct have is_first untouched starts run,
    λ ordered timers made placed begun early lost late script first at_s at_t0 last begins_is timed low distinct have is_first untouched starts run none settled kept.
        kept_calm titles begins recovers timers made placed begun early lost late script first at_s at_t0 last begins_is timed low distinct have is_first untouched starts run calm_of ordered none settled kept,
  )

module _ {C : Type 0} (link : C → Link (List ℕ)) (steps : C → Call (List ℕ) → C → Type 0) (titles : List (List ℕ)) (begins : C) (Waits : C → List (CarriedUnit (List ℕ)) → Type 0) where
  -- where a relation tells what waits
  pub are_ordered : ((old last : World C) (script : List Line) (late : List Event) → IsReady link steps titles begins old → RunsInOrder link steps titles old script late last
      → HasGone link titles Waits old late last) → AreOrdered link steps titles begins
  are_ordered goes old last script late ready run =
      let g = goes old last script late ready run in
      record {
        hall = g.hall;
        goes = g.goes;
        shows = record { clock = g.shows.clock; entities = g.shows.entities; ends = g.shows.ends; waits = tt; units = g.shows.units };
        none = g.none;
        kept = g.kept;
        have = g.have;
        rest = g.rest;
        none_left = g.none_left;
      }
