-- After any calls of a network its ends are steady, and each CR and CC afloat gives the credit of the timers.
use Rattle.std.specs.List.{AllByRecursion}
use Rattle.std.proofs.Common.{◌≡◌, ℕ, List, [], ◌∷◌, ◌++◌, refl, sym, ◌∙◌, ap, subst, inl, inr, arith, Contains}
use Rattle.std.proofs.lemmas.List.Elements.{Contains-push_cases}
use Rattle.std.proofs.lemmas.Option.{none-some}
use Rattle.osi_base.specs.declared.unit.Unit.{Unit as CarriedUnit}
use Rattle.osi_base.specs.Link.{Link}
use Rattle.osi_base.specs.Calls.{Call, Keeps}
use Rattle.tpdu.specs.Values.{TpduAndSum}
use Rattle.tp4_number.specs.Number.{whole}
use Rattle.tp4_flow.specs.declared.step.EndEvent.{EndEvent}
use Rattle.tp4_conn.specs.End.{End}
use Rattle.tp4_conn.specs.declared.timers.Timers.{Timers}
use Rattle.tp4_conn.specs.declared.halves.Halves.{Halves}
use Rattle.law_tp4_rows.specs.Giving.{GivesCredit}
use Rattle.tp4_entity.specs.Entity.{Entity}
use Rattle.tp4_entity.specs.Unit.{EndsWith, Separates}
use Rattle.law_tp4_proper.specs.Rest.{AreInTime, AreProper}
use Rattle.script_journal.specs.Partner.{ArePartners}
use Rattle.script_journal.specs.declared.event.Event.{Event}
use Rattle.script_journal.specs.declared.event.Event.TheVariants as events
use Rattle.net_world.specs.Told.{told}
use Rattle.law_tp4_history.specs.Ends.{Times}
use Rattle.law_tp4_history.specs.Journals.{Written}
use Rattle.law_tp4_history.specs.Tracks.{IsNothing, Whole}
use Rattle.tp4_world.specs.First.{HasNoEnd}
use Rattle.tp4_world.specs.World.{World}
use Rattle.tp4_world.specs.declared.place.Placed.{Placed}
use Rattle.tp4_world.specs.declared.place.EndAt.{EndAt}
use Rattle.law_tp4_lawful.specs.Called.{AreCalls, AreHonestCalls, OnCalls}
use Rattle.law_tp4_lawful.proofs.Worlds as worlds
use Rattle.law_tp4_lawful.specs.Numbers.{IsOpenEnd}
use Rattle.law_tp4_lawful.specs.References.{IsEnd}
use Rattle.law_tp4_lawful.proofs.ActsLines.{Flowing}
use Rattle.law_tp4_lawful.proofs.CalledStarts.{followed_by}
use Rattle.law_tp4_lawful.proofs.MeetsOthers.{KnowsTaken}
use Rattle.law_tp4_lawful.proofs.WorldOutcomes.{one_unit, outcomes}
use Rattle.law_tp4_lawful.proofs.WorldStarts.{found, no_end_at, no_ends, started}
use Rattle.law_tp4_lawful.proofs.WorldAsides.{are_aside, told_quiet}
use Rattle.law_tp4_lawful.proofs.WorldCalls.{calls_hold}
use Rattle.law_tp4_lawful.proofs.WorldFloats.{start_goes}
use Rattle.law_recovery_world.specs.Laws.{CallsAreShort, CallsGive, CallsTell, CallsHaveViews, CallsKeepSteady, CallsKnow, EndsKeep}
use Rattle.law_recovery_world.specs.Steady.{AreShort, AreSteady, StageTells, EndsAreSteady, FloatsGive, HasSteadyEnds}
use Rattle.law_recovery_world.specs.Lines.{HasKnowingHistory, HasViews, KnowsLine}
use Rattle.law_recovery_world.proofs.Known.{AreSeeing, IsOffered, Known, StageSees}
use Rattle.law_recovery_world.proofs.Worlds.{Carries, Followed, IsBacked, Rests}
use Rattle.law_recovery_world.proofs.Knowing.{by_stage}
use Rattle.law_recovery_world.proofs.After.{aside_short, followed, read_gives}
use Rattle.law_recovery_world.proofs.Views.{roomy_of, views_by}
use Rattle.law_recovery_world.proofs.WorldKnown.{late_grows, late_kept}

-- ends that are not there
none_steady : (credit now : ℕ) (entities : List Placed) → AllByRecursion (λ (one : Placed). HasNoEnd one.entity) entities → AreSteady credit now entities
none_steady credit now entities none system entity is reference e there =
    let f = found (λ (one : Placed). HasNoEnd one.entity) entities system entity none is in
    absurd (none-some e (sym (no_end_at entity (subst HasNoEnd f.entity_is f.holds) reference) ∙ there))

none_seeing : (credit : ℕ) (w : Whole) (journal : List Event) (entities : List Placed) (ends : List EndAt) → AllByRecursion (λ (one : Placed). HasNoEnd one.entity) entities
    → AreSeeing credit w journal entities ends
none_seeing credit w journal entities ends none system entity is reference e there =
    let f = found (λ (one : Placed). HasNoEnd one.entity) entities system entity none is in
    absurd (none-some e (sym (no_end_at entity (subst HasNoEnd f.entity_is f.holds) reference) ∙ there))

-- what is read in a unit that is one TPDU
one_gives : (timers : Timers) (w : Whole) (tick : ℕ) (unit : CarriedUnit (List ℕ)) → IsBacked timers w.base tick unit
    → (extended rest : List ℕ) (tpdus : List TpduAndSum) (told : List EndEvent) → Separates extended unit.octets tpdus rest → EndsWith extended rest told
    → (tpdu : TpduAndSum) → Contains tpdus tpdu → GivesCredit timers.credit tpdu.0
one_gives timers w tick unit b extended rest tpdus told separates ends tpdu there =
    elim (one_unit extended unit.octets rest b.sent tpdus told b.offered.plain.sendable b.written separates ends) [
      | inl read ↦
          let here : Contains (read.0 ∷ []) tpdu = subst (λ (ts : List TpduAndSum). Contains ts tpdu) read.1 there in
          subst (λ (t : TpduAndSum). GivesCredit timers.credit t.0) (only read.0 tpdu here) (read_gives timers.credit read.0.0 b.sent.tpdu read.3 read.5 b.offered.gives)
      | inr fault ↦ absurd (nothing tpdu (subst (λ (ts : List TpduAndSum). Contains ts tpdu) fault.2 there))
    ]
  where
    nothing : (t : TpduAndSum) → Contains [] t → ⊥
    nothing t c = omega (arith, c.1)

    only : (one t : TpduAndSum) → Contains (one ∷ []) t → one ≡ t
    only one t c = elim (Contains-push_cases [] one t c) [
      | inl none ↦ absurd (nothing t none)
      | inr is ↦ is
    ]

module _ {C : Type 0} (link : C → Link (List ℕ)) (steps : C → Call (List ℕ) → C → Type 0) (law : (old : C) (call : Call (List ℕ)) (new : C) → steps old call new → Keeps (link old) call (link new))
    (flowing : Flowing) (knows : KnowsTaken) (begins : (times : Times) (titles : List (List ℕ)) (w : Whole) → IsNothing w → Written times titles w []) where
  module _ (titles : List (List ℕ)) (timers : Timers) (journal : List Event) (last : World C) (a : AreHonestCalls link steps whole titles timers journal last) where
    abbrev r : AreCalls link steps whole titles timers journal last
    r = a.run

    plain : worlds.Followed titles timers
    plain = followed_by flowing knows titles timers

    here : Followed titles timers
    here = followed titles timers a.timed plain

    pub begun : worlds.Rests link AreProper titles timers r.begun r.first
    begun = started titles timers a.timed a.timed.inactive_least a.distinct r.placed r.is_first.entities r.untouched begins link steps law plain AreProper AreInTime outcomes r.made r.begun
        r.first r.is_first r.starts

    entities_are : r.first.entities ≡ r.placed
    entities_are = ap (λ (x : World C). x.entities) r.starts.becomes

    pub carrier_is : r.first.carrier ≡ r.starts.below
    carrier_is = ap (λ (x : World C). x.carrier) r.starts.becomes

    pub at_zero : begun.w.base.clock ≡ 0
    at_zero = sym begun.explains.carries.clock ∙ ap (λ (c : C). (link c).clock) carrier_is ∙ r.starts.gathers.stands.clock ∙ r.is_first.carrier_is.clock

    no_end : AllByRecursion (λ (one : Placed). HasNoEnd one.entity) r.first.entities
    no_end = subst (λ (es : List Placed). AllByRecursion (λ (one : Placed). HasNoEnd one.entity) es) (sym entities_are) (no_ends titles r.placed r.is_first.entities)

    pub first_known : Known titles timers begun.w r.begun r.first.entities r.first.ends
    first_known = record {
      plain = begun.explains.known;
      steady = none_steady timers.credit begun.w.base.clock r.first.entities no_end;
      seeing = none_seeing timers.credit begun.w r.begun r.first.entities r.first.ends no_end;
      short = subst AreShort (sym r.starts.made_is)
          (aside_short [] (events.Tick 0 ∷ told r.starts.ups) (λ end. tt) (are_aside (events.Tick 0 ∷ told r.starts.ups) (record { submits = λ end. refl; shows = λ end. refl; makes = refl }, told_quiet r.starts.ups)));
    }

    first_rests : Rests link AreProper titles timers r.begun r.first
    first_rests = record {
      w = begun.w;
      explains = record {
        known = first_known;
        carries = subst (λ (c : C). Carries timers begun.w.base (link c)) (sym carrier_is)
            (start_goes (IsOffered timers) (late_grows timers) timers.life link steps law begun.w.base titles r.made r.starts.below r.starts.ups r.is_first.carrier_is at_zero r.starts.gathers);
      };
      rest = begun.rest;
    }

    last_rests : Rests link AreProper titles timers (r.begun ++ r.later) last
    last_rests = calls_hold titles timers (Known titles timers) (IsOffered timers) (late_kept titles timers) a.timed link steps law here one_unit AreProper AreInTime outcomes r.calls r.first last r.begun r.later a.honest a.limits first_rests r.did

    ends_steady : EndsAreSteady link timers last
    ends_steady = subst (λ (now : ℕ). AreSteady timers.credit now last.entities) (sym last_rests.explains.carries.clock) last_rests.explains.known.steady

    journal_short : AreShort journal
    journal_short = subst AreShort (sym r.journal_is) last_rests.explains.known.short

    each_tells : (y system reference : ℕ) (entity : Entity) (e : End) → IsEnd last y system entity reference e → StageTells journal y e.stage
    each_tells y system reference entity e is =
        subst (λ (xs : List Event). StageTells xs y e.stage) (sym r.journal_is)
        (subst (λ (n : ℕ). StageTells (r.begun ++ r.later) n e.stage) is.number (last_rests.explains.known.seeing system entity is.there reference e is.stands).1)

    floats_give : FloatsGive timers.credit (link last.carrier).floating
    floats_give entry there transport = one_gives timers last_rests.w entry.0 entry.1 (last_rests.explains.carries.backed entry there transport)

    plain_backed : (tick : ℕ) (unit : CarriedUnit (List ℕ)) → IsBacked timers last_rests.w.base tick unit → worlds.IsBacked last_rests.w.base tick unit
    plain_backed tick unit b = record { sent = b.sent; offered = b.offered.plain; to_is = b.to_is; written = b.written }

    explains : worlds.Explains link titles timers last_rests.w (r.begun ++ r.later) last
    explains = record {
      known = last_rests.explains.known.plain;
      carries = record {
        clock = last_rests.explains.carries.clock;
        quiet = last_rests.explains.carries.quiet;
        honest = last_rests.explains.carries.honest;
        bounds = last_rests.explains.carries.bounds;
        backed = λ entry there transport. plain_backed entry.0 entry.1 (last_rests.explains.carries.backed entry there transport);
      };
    }

    each_knows : (y : ℕ) (halves : Halves) → IsOpenEnd last y halves → KnowsLine last_rests.w y timers.credit
    each_knows y halves o =
        by_stage link titles timers last_rests.w (r.begun ++ r.later) last explains y timers.credit halves o o.end.stage o.has
        (last_rests.explains.known.steady o.system o.entity o.is_end.there o.reference o.end o.is_end.stands).knows
        (subst (λ (n : ℕ). StageSees timers.credit last_rests.w (r.begun ++ r.later) n o.end.stage) o.is_end.number
        (last_rests.explains.known.seeing o.system o.entity o.is_end.there o.reference o.end o.is_end.stands).0)

    each_views : (x y : ℕ) (theirs halves : Halves) → ArePartners journal x y → IsOpenEnd last x theirs → IsOpenEnd last y halves → HasViews last_rests.w y halves theirs
    each_views x y theirs halves partners far o =
        views_by link titles timers last_rests.w (r.begun ++ r.later) last explains x y timers.credit theirs halves (subst (λ (xs : List Event). ArePartners xs x y) r.journal_is partners) far o o.end.stage o.has
        (last_rests.explains.known.steady o.system o.entity o.is_end.there o.reference o.end o.is_end.stands).knows
        (subst (λ (n : ℕ). StageSees timers.credit last_rests.w (r.begun ++ r.later) n o.end.stage) o.is_end.number
        (last_rests.explains.known.seeing o.system o.entity o.is_end.there o.reference o.end o.is_end.stands).0)
        (roomy_of timers.credit last_rests.w.base.clock far.end.stage theirs far.has
        (last_rests.explains.known.steady far.system far.entity far.is_end.there far.reference far.end far.is_end.stands).late)

    all_views : (w : Whole) × worlds.Explains link titles timers w journal last
        × ((x y : ℕ) (theirs halves : Halves) → ArePartners journal x y → IsOpenEnd last x theirs → IsOpenEnd last y halves → HasViews w y halves theirs)
    all_views = (last_rests.w, subst (λ (xs : List Event). worlds.Explains link titles timers last_rests.w xs last) (sym r.journal_is) explains, each_views)

    all_know : (w : Whole) × worlds.Explains link titles timers w journal last × ((y : ℕ) (halves : Halves) → IsOpenEnd last y halves → KnowsLine w y timers.credit)
    all_know = (last_rests.w, subst (λ (xs : List Event). worlds.Explains link titles timers last_rests.w xs last) (sym r.journal_is) explains, each_knows)

    all_see : HasKnowingHistory link journal last
    all_see = record {
      titles = titles;
      timers = timers;
      w = last_rests.w;
      explains = subst (λ (xs : List Event). worlds.Explains link titles timers last_rests.w xs last) (sym r.journal_is) explains;
      knows = each_knows;
      views = each_views;
    }

    ends_keep : EndsKeep link journal last
    ends_keep system entity is =
        let same : entity.timers.credit ≡ timers.credit = ap (λ (t : Timers). t.credit) (last_rests.explains.known.plain.holds system entity is).timers_are in (
          subst (λ (credit : ℕ). HasSteadyEnds credit (link last.carrier).clock entity) (sym same) (ends_steady system entity is),
          subst (λ (credit : ℕ). FloatsGive credit (link last.carrier).floating) (sym same) floats_give,
        )

  pub keep_ends : OnCalls link steps whole (EndsKeep link)
  keep_ends titles timers journal last a = ends_keep titles timers journal last a

  pub calls_see : OnCalls link steps whole (HasKnowingHistory link)
  calls_see titles timers journal last a = all_see titles timers journal last a

  pub calls_view : CallsHaveViews link steps
  calls_view titles timers journal last a = all_views titles timers journal last a

  pub calls_know : CallsKnow link steps
  calls_know titles timers journal last a = all_know titles timers journal last a

  pub keep_steady : CallsKeepSteady link steps
  keep_steady titles timers journal last a = ends_steady titles timers journal last a

  pub calls_short : CallsAreShort link steps
  calls_short titles timers journal last a = journal_short titles timers journal last a

  pub calls_tell : CallsTell link steps
  calls_tell titles timers journal last a = each_tells titles timers journal last a

  pub calls_give : CallsGive link steps
  calls_give titles timers journal last a = floats_give titles timers journal last a
