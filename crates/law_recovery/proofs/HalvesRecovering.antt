-- Of a run that recovers: an end that is in CrWait at its recovering `settle` is followed along its lines. None that it called was answered, since each is its partner; and it sent its CR last no
-- later than at that tick. Or its partner is in AkWait: that is the one that it called, and sent its CC last no later than at that tick.
use Rattle.std.proofs.Common.{◌++◌, ◌+◌, ◌∙◌, ◌≡◌, ◌≤◌, ◌⊎◌, List, None, Option, Some, ℕ, ap, arith, false, inl, inr, refl, subst, sym, true}
use Rattle.std.specs.Prelude.{◌&&◌, nat_eq}
use Rattle.std.specs.Cmp.Lexicographic.{bytes_decides, pointwise}
use Rattle.std.proofs.lemmas.Bool.{eq-eqb}
use Rattle.osi_base.specs.Calls.{Call}
use Rattle.osi_base.specs.Link.{Link}
use Rattle.script_journal.specs.Partner.{ArePartners}
use Rattle.script_journal.specs.declared.event.Event.{Event}
use Rattle.script_lines.specs.declared.line.Line.{Line}
use Rattle.tp4_number.specs.Number.{whole}
use Rattle.tp4_conn.specs.End.{End}
use Rattle.tp4_conn.specs.Matching.{is_called_by}
use Rattle.tp4_conn.specs.declared.states.InAkWait.{InAkWait}
use Rattle.tp4_conn.specs.declared.states.InCrWait.{InCrWait}
use Rattle.tp4_conn.specs.declared.states.StateData.{StateData}
use Rattle.tp4_conn.specs.declared.states.StateData.TheVariants.{AkWait, CrWait}
use Rattle.tp4_conn.specs.declared.timers.Timers.{Timers}
use Rattle.law_tp4_history.specs.History.{IsCaller, IsPartner}
use Rattle.law_tp4_history.specs.Tracks.{Whole}
use Rattle.law_tp4_history.proofs.Sound.{PairFacts}
use Rattle.law_tp4_history.specs.Moves.{stop_of, times_of}
use Rattle.tp4_world.specs.World.{World, latest}
use Rattle.law_tp4_lawful.specs.Called.{AreHonestCalls}
use Rattle.law_tp4_lawful.proofs.Known.{IsKnown}
use Rattle.law_tp4_lawful.proofs.ReferencesHalves.{known_at}
use Rattle.law_tp4_lawful.proofs.ReferencesOwn.{are_partners}
use Rattle.law_tp4_lawful.proofs.WorldOutcomes.{one_unit}
use Rattle.law_tp4_lawful.proofs.Worlds.{Explains}
use Rattle.law_calm_run.specs.Service.{end_at_number}
use Rattle.law_recovery_run.specs.Laws.{PartnersAreAlone, EndsHaveNumbers, RunsAreCalls, RunsAreReady, RunsGoOn}
use Rattle.law_recovery_run.specs.Ordered.{IsReady, RunsInOrder}
use Rattle.law_recovery_run.specs.Rivals.{IsFor, IsGoing}
use Rattle.law_recovery_run.specs.Run.{RunsOn}
use Rattle.law_recovery_run.proofs.Rivals.{sound}
use Rattle.law_recovery_run.specs.Following.{Stands}
use Rattle.law_recovery_run.specs.Ready.{HasStarted}
use Rattle.law_recovery_run.specs.Requesting.{AreUnanswered, IsUnanswered, in_cr_wait}
use Rattle.law_recovery_world.specs.Laws.{CallsHaveViews, CallsKeepSteady}
use Rattle.law_recovery_world.specs.Steady.{IsSteady, StageMade}
use Rattle.law_recovery_run.specs.Asked.{IsExhausted, IsIndicatedNow, IsOpenStill, IsTold, IsUnregistered}
use Rattle.law_recovery.specs.AskingAlong.{AcceptsAlong, AsksAlong, HasIndicated}
use Rattle.law_recovery.specs.Laws.{AlongRunsAsk, TriesArePast}
use Rattle.law_recovery.proofs.HalvesRowing.{for_caller}
use Rattle.law_recovery.proofs.TickRows.{frozen_of}
use Rattle.law_recovery.proofs.Following.{swapped as turned}

module _ {C : Type 0} (link : C → Link (List ℕ)) (steps : C → Call (List ℕ) → C → Type 0) (calls_of : RunsAreCalls link steps whole) (ready_of : RunsAreReady link steps) (goes_of : RunsGoOn link steps)
    (numbers_of : EndsHaveNumbers link steps) (alone_of : PartnersAreAlone link steps) (views_of : CallsHaveViews link steps) (steady_of : CallsKeepSteady link steps) (past_of : TriesArePast link steps) where
  module _ (titles : List (List ℕ)) (begins : C) (timers : Timers) (begun early late : List Event) (script : List Line) (first at_t0 last : World C) (begins_is : first.carrier ≡ begins)
      (started : HasStarted link steps titles timers begun first) (run : RunsOn link steps whole titles first at_t0 last script early late) where
    abbrev journal : List Event
    journal = begun ++ early

    calls : AreHonestCalls link steps whole titles timers journal at_t0 × AreHonestCalls link steps whole titles timers (journal ++ late) last
    calls = calls_of titles timers begun early late first at_t0 last script started run

    ready : IsReady link steps titles begins at_t0
    ready = subst (λ (state : C). IsReady link steps titles state at_t0) begins_is (ready_of titles timers begun early late first at_t0 last script started run)

    goes_on : RunsInOrder link steps titles at_t0 run.recovers.after late last
    goes_on = goes_of titles early late first at_t0 last script run

    views : (w : Whole) × Explains link titles timers w journal at_t0
    views = let all = views_of titles timers journal at_t0 calls.0 in (all.0, all.1)

    -- an end has the timers of the network
    timers_of : (n : ℕ) (e : End) (d : Stands at_t0 n e) → e.base.timers ≡ timers
    timers_of n e d = (views.1.known.holds d.system d.entity d.is_end.there).theirs d.reference e d.is_end.stands

    known_of : (n : ℕ) (e : End) (d : Stands at_t0 n e) → (is : IsKnown views.0 d.entity.own d.reference e) × (is.k + 1 ≡ n)
    known_of n e d = known_at link titles timers views.0 journal at_t0 views.1 n d.system d.entity d.reference e d.is_end

    module _ (x : ℕ) (e : End) (w : InCrWait) (e_is : end_at_number at_t0 x ≡ Some e) (e_asks : e.stage ≡ CrWait w) (past : (link at_t0.carrier).clock + timers.t1 ≤ (link last.carrier).clock) where
      e_same : e ≡ in_cr_wait e.base w
      e_same = ap (λ (z : StateData). record { base = e.base; stage = z }) e_asks

      c : Stands at_t0 x (in_cr_wait e.base w)
      c = subst (Stands at_t0 x) e_same ((numbers_of titles timers journal at_t0 calls.0 x e).1 e_is)

      -- ---- none that it called was answered

      -- each that it called is its partner
      unanswered : IsOpenStill link journal at_t0 x e → AreUnanswered at_t0 e.base.to c.entity.own c.reference
      unanswered still system own entity f there own_is stands called = by (stop_of f.stage) refl
        where
          number : ℕ
          number = latest at_t0.ends system own

          here : Stands at_t0 number f
          here = record { system = system; reference = own; entity = entity; is_end = record { there = there; stands = stands; number = refl } }

          going : IsGoing at_t0 x
          going = record { system = c.system; reference = c.reference; entity = c.entity; end = in_cr_wait e.base w; is_end = c.is_end; goes = refl }

          by : (stop : Option ℕ) → stop_of f.stage ≡ stop → IsUnanswered f.stage
          by None goes =
              let rival : IsFor at_t0 number c.entity.own c.reference = record {
                going = record { system = system; reference = own; entity = entity; end = f; is_end = here.is_end; goes = goes };
                to_is = (for_caller f.base c.entity.own c.reference called).0;
                partner_is = (for_caller f.base c.entity.own c.reference called).1;
              } in
              still.unanswered number f (turned journal number x (alone_of titles timers journal at_t0 calls.0 number x going rival)) ((numbers_of titles timers journal at_t0 calls.0 number f).0 here)
          by (Some when) is = subst IsUnanswered (sym (frozen_of f.stage when is)) tt

      since : w.tries.last + e.base.timers.t1 ≤ (link last.carrier).clock
      since =
          let tried : w.tries.last ≤ (link at_t0.carrier).clock = past_of titles timers journal at_t0 calls.0 c.system c.reference c.entity (in_cr_wait e.base w) w c.is_end.there c.is_end.stands refl in
          let t1 : e.base.timers.t1 ≡ timers.t1 = ap (λ (t : Timers). t.t1) (timers_of x (in_cr_wait e.base w) c) in
          omega (arith, tried, t1, past)

      indicated : HasIndicated (journal ++ late) last x → IsIndicatedNow (journal ++ late) last x
      indicated i = record {
        e = in_cr_wait i.0 i.1;
        w = i.1;
        calling = (numbers_of titles timers (journal ++ late) last calls.1 x (in_cr_wait i.0 i.1)).0 i.2.calling;
        asks = refl;
        y = i.2.number;
        f = i.2.end;
        since = i.2.since;
        partners = i.2.partners;
        called = (numbers_of titles timers (journal ++ late) last calls.1 i.2.number i.2.end).0 i.2.called;
        waits = i.2.stage;
      }

      asked : AsksAlong link steps titles begins → IsOpenStill link journal at_t0 x e → IsIndicatedNow (journal ++ late) last x ⊎ IsTold (IsUnregistered at_t0 e.base.to e.base.called) late x
      asked along still = elim (along timers journal late at_t0 last run.recovers.after x e.base w calls.0 ready c (unanswered still) still.listening goes_on since) [
        | inl i ↦ inl (indicated i)
        | inr told ↦ inr told
      ]

      -- ---- the user of the end that it called had accepted

      module _ (y : ℕ) (f : End) (v : InAkWait) (partners : ArePartners journal x y) (f_is : end_at_number at_t0 y ≡ Some f) (f_accepted : f.stage ≡ AkWait v) where
        d : Stands at_t0 y f
        d = (numbers_of titles timers journal at_t0 calls.0 y f).1 f_is

        abbrev kx : IsKnown views.0 c.entity.own c.reference (in_cr_wait e.base w)
        kx = (known_of x (in_cr_wait e.base w) c).0

        abbrev ky : IsKnown views.0 d.entity.own d.reference f
        ky = (known_of y f d).0

        abbrev two : (z : ℕ) × (z + 1 ≡ y) × IsPartner views.0.base kx.k z
        two = are_partners link titles timers views.0 journal at_t0 views.1 one_unit y x kx.k (known_of x (in_cr_wait e.base w) c).1 (turned journal x y partners)

        partner : IsPartner views.0.base kx.k ky.k
        partner =
            let one = two.1 in
            let other = (known_of y f d).1 in
            let same : two.0 ≡ ky.k = omega (arith, one, other) in
            subst (λ (z : ℕ). IsPartner views.0.base kx.k z) same two.2

        calls_it : IsCaller views.0.base kx.k ky.k
        calls_it = by partner
          where
            differ : false ≡ true → ⊥
            differ is = cc is

            by : IsPartner views.0.base kx.k ky.k → IsCaller views.0.base kx.k ky.k
            by (inl q) = q
            by (inr q) = absurd (differ (sym kx.sees.state.calls ∙ sym kx.sees.is_called ∙ q.called))

        abbrev pair : PairFacts (times_of timers) views.0.base kx.k ky.k
        pair = (sound link titles timers views.0 journal at_t0 views.1).pairs kx.k ky.k calls_it

        address : d.entity.own ≡ e.base.to
        address = sym ky.at.address ∙ sym pair.back ∙ kx.sees.partner

        called : is_called_by f.base c.entity.own c.reference ≡ true
        called =
            let is_called : f.base.is_called ≡ true = sym ky.sees.is_called ∙ calls_it.called in
            let to : f.base.to ≡ c.entity.own = sym ky.sees.partner ∙ pair.there ∙ kx.at.address in
            let partner_is : f.base.partner ≡ c.reference = sym ky.sees.known ∙ pair.knows ∙ kx.at.reference_is in
            let to_true : pointwise nat_eq f.base.to c.entity.own ≡ true = (bytes_decides f.base.to c.entity.own).1 to in
            λ i. is_called i && (to_true i && eq-eqb f.base.partner c.reference partner_is i)

        accepted_since : v.tries.last + f.base.timers.t1 ≤ (link last.carrier).clock
        accepted_since =
            let steady : IsSteady timers.credit (link at_t0.carrier).clock f.base f.stage = steady_of titles timers journal at_t0 calls.0 d.system d.entity d.is_end.there d.reference f d.is_end.stands in
            let made : StageMade (link at_t0.carrier).clock f.base (AkWait v) = subst (StageMade (link at_t0.carrier).clock f.base) f_accepted steady.made in
            let tried : v.tries.last ≤ (link at_t0.carrier).clock = made.0 in
            let t1 : f.base.timers.t1 ≡ timers.t1 = ap (λ (t : Timers). t.t1) (timers_of y f d) in
            omega (arith, tried, t1, past)

        accepted : AcceptsAlong link steps titles begins → IsTold (IsUnregistered at_t0 e.base.to e.base.called) late x ⊎ IsExhausted late y
        accepted along = along timers journal late at_t0 last run.recovers.after x y e.base w f v calls.0 ready c d f_accepted address called goes_on accepted_since

  pub along_asks : AlongRunsAsk link steps
  along_asks titles begins asks accepts timers made placed begun early late script first at_t0 last begins_is timed distinct have is_first untouched starts run = record {
    asked = λ x e w e_is e_asks still past. asked titles begins timers begun early late script first at_t0 last begins_is started run x e w e_is e_asks past asks still;
    accepted =
        λ x y e f w v partners e_is f_is e_asks f_accepted past.
        accepted titles begins timers begun early late script first at_t0 last begins_is started run x e w e_is e_asks past y f v partners f_is f_accepted accepts;
  }
    where
      started : HasStarted link steps titles timers begun first
      started = record { made = made; placed = placed; timed = timed; distinct = distinct; have = have; is_first = is_first; untouched = untouched; starts = starts }
