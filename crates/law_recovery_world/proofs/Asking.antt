-- Two partners of which the one is in CrWait and the other in AkWait: what each keeps along the calls is what such a pair begins with.
use Rattle.std.proofs.Common.{◌≡◌, ◌≤◌, ℕ, List, sym, ◌∙◌, ap, subst}
use Rattle.osi_base.specs.Calls.{Call}
use Rattle.osi_base.specs.Link.{Link}
use Rattle.tp4_number.specs.Formats.{most_of}
use Rattle.tp4_conn.specs.End.{End, IsSized, IsTimed}
use Rattle.tp4_conn.specs.Proper.{HasSize, IsProperStage}
use Rattle.tp4_conn.specs.declared.halves.Halves.{Halves}
use Rattle.tp4_conn.specs.declared.states.InAkWait.{InAkWait}
use Rattle.tp4_conn.specs.declared.states.InCrWait.{InCrWait}
use Rattle.tp4_conn.specs.declared.states.StateData.TheVariants.{AkWait}
use Rattle.tp4_conn.specs.declared.timers.Timers.{Timers}
use Rattle.law_tp4_rows.specs.Giving.{KnowsCredit}
use Rattle.script_journal.specs.declared.event.Event.{Event}
use Rattle.law_tp4_history.specs.Tracks.{Whole}
use Rattle.law_tp4_pair.specs.Pair.{Pair}
use Rattle.law_recovery_steps.specs.Laws.{AsksBegin, PairsOpen, PairsOpenRest}
use Rattle.law_recovery_steps.specs.Opening.{as_confirmed}
use Rattle.tp4_world.specs.World.{World}
use Rattle.law_tp4_lawful.proofs.Worlds.{Explains}
use Rattle.law_tp4_lawful.proofs.ReferencesHalves.{known_at}
use Rattle.law_recovery_world.specs.Laws.{CallsTell, AskersAreKnown, AskersOpen, AskersShow, KnownAreCarried, PartnersAreKnown}
use Rattle.law_recovery_world.specs.Steady.{AreSteady, IsSteady, StageMade}
use Rattle.law_recovery_world.specs.Asking.{IsAskingPairOf, IsEndOf, IsKnownToAsk}
use Rattle.law_recovery_world.proofs.Recovering.{units, windows}
use Rattle.law_recovery_world.proofs.Showing.{rests_show}

module _ {C : Type 0} (link : C → Link (List ℕ)) (titles : List (List ℕ)) (timers : Timers) (w : Whole) (journal : List Event) (last : World C) (explains : Explains link titles timers w journal last)
    (timed : IsTimed timers) (steady : AreSteady timers.credit (link last.carrier).clock last.entities) (x y : ℕ) (p : Pair) (r : InCrWait) (m : InAkWait) (pair : IsAskingPairOf link journal last x y p r m) where
  ends : (n : ℕ) (e : End) (a : IsEndOf last n e) → IsSteady timers.credit (link last.carrier).clock e.base e.stage
  ends n e a = steady a.system a.entity a.is_end.there a.reference e a.is_end.stands

  timers_of : (n : ℕ) (e : End) (a : IsEndOf last n e) → e.base.timers ≡ timers
  timers_of n e a = (explains.known.holds a.system a.entity a.is_end.there).theirs a.reference e a.is_end.stands

  low : (n : ℕ) (e : End) (a : IsEndOf last n e) → e.base.timers.credit ≤ 15
  low n e a = subst (λ (t : Timers). t.credit ≤ 15) (sym (timers_of n e a)) timed.credit

  life : (n : ℕ) (e : End) (a : IsEndOf last n e) → e.base.timers.life ≡ timers.life
  life n e a = ap (λ (t : Timers). t.life) (timers_of n e a)

  abbrev there : IsSteady timers.credit (link last.carrier).clock p.called.base p.called.stage
  there = ends y p.called pair.called

  made : StageMade (link last.carrier).clock p.called.base (AkWait m)
  made = subst (StageMade (link last.carrier).clock p.called.base) pair.accepted there.made

  sized : IsSized made.1.options
  sized =
      let known = known_at link titles timers w journal last explains y pair.called.system pair.called.entity pair.called.reference p.called pair.called.is_end in
      let state : IsProperStage p.called.base.agreed (AkWait m) = subst (IsProperStage p.called.base.agreed) pair.accepted known.0.proper.state in
      subst HasSize made.1.agreed state.1

  pub askers_known : IsKnownToAsk timers p r m
  askers_known = record {
    options = made.1.options;
    asking = record {
      idle = pair.idle;
      calling = pair.asks;
      called = pair.accepted;
      agreed = made.1.agreed;
      sized = sized;
      known = subst (KnowsCredit timers.credit p.called.base) pair.accepted there.gives.knows ∙ sym (ends x p.calling pair.calling).gives.timers;
      low = low x p.calling pair.calling;
      low_there = low y p.called pair.called;
      life_is = life x p.calling pair.calling;
      life_there = life y p.called pair.called;
      tried = subst (λ (now : ℕ). m.tries.last ≤ now) (sym pair.clock) made.0;
      clock = made.1.clock;
      units = made.1.units;
      expedited = made.1.expedited;
      halves = made.1.halves;
    };
    calling = timers_of x p.calling pair.calling;
    called = timers_of y p.called pair.called;
  }

pub askers_open : {C : Type 0} (link : C → Link (List ℕ)) (steps : C → Call (List ℕ) → C → Type 0) → AskersAreKnown link steps → AsksBegin → PairsOpen → AskersOpen link steps
askers_open {C} link steps known begin opens titles timers journal first one x y p last r w calling called happenings pair leads idle undue late =
    let k = known titles timers journal first one x y p r w pair in
    opens timers.life (most_of k.options.format) timers.t1 p (as_confirmed p.calling.base p.called.base k.options) w calling called happenings last
    (begin timers.life p r w k.options k.asking) (ap (λ (t : Timers). t.t1) k.called) leads idle undue late

pub askers_show : {C : Type 0} (link : C → Link (List ℕ)) (steps : C → Call (List ℕ) → C → Type 0) → AskersAreKnown link steps → AsksBegin → PairsOpenRest → PartnersAreKnown link steps → KnownAreCarried
    → CallsTell link steps → AskersShow link steps
askers_show link steps known begin rest opened carried tell titles timers journal later first second one two x y p last r w calling called happenings pair stands leads idle undue late =
    let k = known titles timers journal first one x y p r w pair in
    rests_show link steps tell titles timers later second two x y last stands undue
    (rest timers.life (most_of k.options.format) timers.t1 timers.window p (as_confirmed p.calling.base p.called.base k.options) w calling called happenings last
    (begin timers.life p r w k.options k.asking) (ap (λ (t : Timers). t.t1) k.called) (ap (λ (t : Timers). t.t1) k.calling)
    (ap (λ (h : Halves). h.sending.rules.t1) k.asking.halves ∙ ap (λ (t : Timers). t.t1) k.called) (windows link steps opened titles timers later second two x y last stands) leads idle undue late
    (units link steps opened titles timers later second two x y last stands carried))
