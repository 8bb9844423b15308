-- Two partners that are Opened stand in the lines of their connection, with what their users submitted.
use Rattle.std.specs.List.{AllByRecursion}
use Rattle.std.proofs.Common.{◌≡◌, ◌≤◌, ◌+◌, ℕ, List, [], ◌∷◌, ◌++◌, length, refl, sym, ◌∙◌, ap, subst}
use Rattle.osi_base.specs.Link.{Link}
use Rattle.tp4_sending.specs.SendingHalf.{UrgentSender, no_urgent}
use Rattle.tp4_sending.specs.Kept.{urgent_base}
use Rattle.tp4_conn.specs.declared.states.InOpened.{InOpened}
use Rattle.tp4_conn.specs.declared.states.StateData.{StateData}
use Rattle.tp4_conn.specs.declared.timers.Timers.{Timers}
use Rattle.tp4_conn.specs.End.{End, agreed_format}
use Rattle.tp4_conn.specs.Opened.{is_expedited}
use Rattle.script_journal.specs.Lawful.{Marked, expediteds, normals, submitted}
use Rattle.script_journal.specs.declared.event.Event.{Event}
use Rattle.law_tp4_history.specs.Ends.{Terms}
use Rattle.law_tp4_history.specs.History.{IsPartner}
use Rattle.law_tp4_history.specs.Tracks.{IsRun, Whole}
use Rattle.law_tp4_history.proofs.Meets.{swap}
use Rattle.law_tp4_history.proofs.Sound.{one_partner}
use Rattle.law_tp4_history.proofs.Written.{Kept}
use Rattle.law_tp4_history.specs.Lines.{AreHalvesAt, IsSendingAt, Stands}
use Rattle.law_tp4_history.specs.Moves.{times_of}
use Rattle.law_tp4_history.specs.Seen.{no_terms}
use Rattle.law_tp4_pair.specs.Pair.{Pair}
use Rattle.law_recovery_steps.specs.Fitting.{AllShort}
use Rattle.law_recovery_steps.specs.Lined.{AreLined, IsSide}
use Rattle.tp4_world.specs.World.{World}
use Rattle.law_tp4_lawful.specs.References.{halves_at}
use Rattle.law_tp4_lawful.proofs.Known.{IsKnown}
use Rattle.law_tp4_lawful.proofs.Worlds.{Explains}
use Rattle.law_tp4_lawful.proofs.FramesKnown.{keeps}
use Rattle.law_tp4_lawful.proofs.ReferencesHalves.{AreThere, are_there}
use Rattle.law_recovery_world.specs.Steady.{AreShort, AreSteady, StageUrges}
use Rattle.law_recovery_world.specs.Partners.{IsOpenedEnd, IsPairOf}
use Rattle.law_recovery_world.proofs.Directions.{far, here, opened_is, partner, terms_same, there, there_far}

pub all_short : (units : List (List ℕ)) → AllByRecursion (λ (unit : List ℕ). length unit ≤ 16384) units → AllShort units
all_short [] s = tt
all_short (unit ∷ units) s = (s.0, all_short units s.1)

pub none_of : (units : List (List ℕ)) → length units ≡ 0 → units ≡ []
none_of [] e = refl
none_of (unit ∷ units) e = absurd (cc e)

module _ {C : Type 0} (link : C → Link (List ℕ)) (titles : List (List ℕ)) (timers : Timers) (w : Whole) (journal : List Event) (world : World C) (explains : Explains link titles timers w journal world) where
  kept : Kept (times_of timers) titles w journal
  kept = keeps titles timers w journal world.entities world.ends explains.known

  -- an Opened end, with the line of its partner
  module _ (x : ℕ) (e : End) (o : InOpened) (a : IsOpenedEnd world x e o) (known : IsKnown w a.entity.own a.reference e) (number : known.k + 1 ≡ x) (other : ℕ) (partners : IsPartner w.base known.k other) where
    own : AreThere w known.k e.base o.halves
    own = are_there link titles timers w journal world explains a.entity.own a.reference e known o.halves (ap halves_at a.stage)

    halves : AreHalvesAt (agreed_format e.base.agreed) o.halves (w.track known.k) (w.track other)
    halves = subst (λ (z : ℕ). AreHalvesAt (agreed_format e.base.agreed) o.halves (w.track known.k) (w.track z)) (one_partner (times_of timers) w.base kept.sound known.k own.z other own.partner partners) own.halves

    sending : IsSendingAt o.halves.sending (w.track known.k)
    sending = halves.sending

    gave : (w.track known.k).line.submitted ≡ submitted x journal
    gave = sym (kept.telling.gave known.k sending.begun) ∙ ap (λ (j : ℕ). submitted j journal) number

    none_urged : o.halves.sending.urgent ≡ no_urgent → expediteds (w.track known.k).line.submitted ≡ []
    none_urged none =
        let base : (w.track known.k).line.urgent.base ≡ 0 = subst (λ (v : UrgentSender). urgent_base v v.out (w.track known.k).line.urgent.base) none sending.base in
        sending.expedited ∙ (λ i. none_of sending.answered (sending.answers ∙ base) i ++ (none i).units)

    side : (now : ℕ) → w.base.clock ≡ now → StageUrges e.base.agreed e.stage → AreShort journal → (units : List Marked) → units ≡ submitted x journal
        → IsSide (times_of timers) no_terms now e (w.track known.k) (w.track other) units
    side now now_is urges short units units_are = record {
      stands = subst (λ (stage : StateData). Stands no_terms e.base stage (w.track known.k) (w.track other)) (sym a.stage) halves;
      proper = known.proper;
      life = ap (λ (t : Timers). t.life) (sym ((explains.known.holds a.system a.entity a.is_end.there).theirs a.reference e a.is_end.stands));
      run = subst (λ (n : ℕ). IsRun (times_of timers) n (w.track known.k)) now_is (kept.tracked.run known.k sending.begun);
      submitted = gave ∙ sym units_are;
      short = subst (λ (us : List Marked). AllShort (normals us)) (sym units_are) (all_short (normals (submitted x journal)) (short x));
      urged = λ none. ap expediteds (units_are ∙ sym gave) ∙ none_urged (subst (StageUrges e.base.agreed) a.stage urges none);
    }

  -- both
  module _ (steady : AreSteady timers.credit (link world.carrier).clock world.entities) (short : AreShort journal) (x y : ℕ) (p : Pair) (o q : InOpened) (pair : IsPairOf link journal world x y p o q) where
    abbrev a : IsOpenedEnd world x p.calling o
    a = pair.calling

    abbrev b : IsOpenedEnd world y p.called q
    b = pair.called

    abbrev mine : (is : IsKnown w a.entity.own a.reference p.calling) × (is.k + 1 ≡ x)
    mine = here link titles timers w journal world explains x y pair.partners o.halves q.halves (opened_is world x p.calling o a) (opened_is world y p.called q b)

    abbrev theirs : (is : IsKnown w b.entity.own b.reference p.called) × (is.k + 1 ≡ y)
    theirs = far link titles timers w journal world explains x y pair.partners o.halves q.halves (opened_is world x p.calling o a) (opened_is world y p.called q b)

    both : IsPartner w.base mine.0.k theirs.0.k
    both = partner link titles timers w journal world explains x y pair.partners o.halves q.halves (opened_is world x p.calling o a) (opened_is world y p.called q b)

    now_is : w.base.clock ≡ p.clock
    now_is = sym explains.carries.clock ∙ sym pair.clock

    urges : (n : ℕ) (e : End) (i : InOpened) (c : IsOpenedEnd world n e i) → StageUrges e.base.agreed e.stage
    urges n e i c = (steady c.system c.entity c.is_end.there c.reference e c.is_end.stands).urges

    pub partners_lined : AreLined (times_of timers) no_terms p
    partners_lined = record {
      there = w.track mine.0.k;
      here = w.track theirs.0.k;
      calling = side x p.calling o a mine.0 mine.1 theirs.0.k both p.clock now_is (urges x p.calling o a) short p.calling_gave pair.calling_gave;
      called = side y p.called q b theirs.0 theirs.1 mine.0.k (swap w.base mine.0.k theirs.0.k both) p.clock now_is (urges y p.called q b) short p.called_gave pair.called_gave;
      expedited =
          ap is_expedited (there link titles timers w journal world explains x y pair.partners o.halves q.halves (opened_is world x p.calling o a) (opened_is world y p.called q b)).own.agreed
          ∙ ap (λ (t : Terms). t.has_expedited) (terms_same link titles timers w journal world explains x y pair.partners o.halves q.halves (opened_is world x p.calling o a) (opened_is world y p.called q b))
          ∙ sym (ap is_expedited (there_far link titles timers w journal world explains x y pair.partners o.halves q.halves (opened_is world x p.calling o a) (opened_is world y p.called q b)).own.agreed);
    }
