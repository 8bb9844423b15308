-- Of a run that recovers: two partners that are Opened at its recovering `settle` are followed as a pair along its lines. Where these come to two ends that are Opened still, both are back; else
-- one of them went, as the lines tell, and neither is Opened any more.
use Rattle.std.proofs.Common.{inl, inr, ℕ, List, [], ◌++◌, subst}
use Rattle.osi_base.specs.Calls.{Call}
use Rattle.osi_base.specs.Link.{Link}
use Rattle.tp4_number.specs.Number.{whole}
use Rattle.law_tp4_pair.specs.Pair.{Pair}
use Rattle.law_tp4_lawful.specs.Called.{AreHonestCalls}
use Rattle.law_recovery_run.specs.Ordered.{IsReady}
use Rattle.law_recovery_run.specs.Following.{IsFollowed}
use Rattle.law_recovery_run.specs.Laws.{EndsHaveNumbers, OpenedAreFollowed, RunsAreCalls, RunsAreReady, RunsGoOn}
use Rattle.law_recovery_run.specs.Ready.{HasStarted, pair_at}
use Rattle.law_recovery_run.specs.Service.{AreBack}
use Rattle.law_recovery.specs.Laws.{FollowedAreBack, FollowedArePairs, WalkedTell, WalkedRecover}
use Rattle.law_recovery.specs.Outcome.{AreOpenStill, HaveComeTo}

module _ {C : Type 0} (link : C → Link (List ℕ)) (steps : C → Call (List ℕ) → C → Type 0) (calls_of : RunsAreCalls link steps whole) (ready_of : RunsAreReady link steps) (goes_of : RunsGoOn link steps)
    (opened_of : OpenedAreFollowed link steps) (numbers_of : EndsHaveNumbers link steps) (pairs_of : FollowedArePairs link steps) (back_of : FollowedAreBack link steps) (tell_of : WalkedTell link steps) where
  pub walked_recover : WalkedRecover link steps
  walked_recover titles begins walked timers made placed begun early late script first at_t0 last begins_is timed low distinct have is_first untouched starts run calling called x y o q ends x_is y_is x_open y_open =
      elim come.outcome [ inl still ↦ inl (back still) | inr gone ↦ inr gone ]
    where
      started : HasStarted link steps titles timers begun first
      started = record { made = made; placed = placed; timed = timed; distinct = distinct; have = have; is_first = is_first; untouched = untouched; starts = starts }

      calls : AreHonestCalls link steps whole titles timers (begun ++ early) at_t0 × AreHonestCalls link steps whole titles timers ((begun ++ early) ++ late) last
      calls = calls_of titles timers begun early late first at_t0 last script started run

      ready : IsReady link steps titles begins at_t0
      ready = subst (λ (state : C). IsReady link steps titles state at_t0) begins_is (ready_of titles timers begun early late first at_t0 last script started run)

      two : Pair
      two = pair_at (link at_t0.carrier).clock (begun ++ early) calling called x y

      followed : IsFollowed link (begun ++ early) at_t0 [] calling called two
      followed = opened_of titles timers (begun ++ early) at_t0 calls.0 calling called x y o q ends x_is y_is x_open y_open

      come : HaveComeTo link timers (link at_t0.carrier).clock (begun ++ early) late last calling called two o q
      come = tell_of titles begins walked timers (begun ++ early) late at_t0 last run.recovers.after calling called two o q calls.0 low ready
          ((pairs_of titles timers (begun ++ early) at_t0 calls.0 calling called two o q).1 followed x_open y_open) (goes_of titles early late first at_t0 last script run)

      back : AreOpenStill link ((begun ++ early) ++ late) last calling called come.next → AreBack timers (link at_t0.carrier).clock (link last.carrier).clock ((begun ++ early) ++ late) last calling called
      back still =
          elim (back_of titles timers (begun ++ early) ((begun ++ early) ++ late) at_t0 last calls.0 calls.1 low calling called two come.next o q come.happenings followed x_open y_open still.followed come.ticked come.leads) [
            | inl both ↦ both
            | inr parted ↦ absurd (parted.calling_over come.next.calling still.opened.o
                ((numbers_of titles timers ((begun ++ early) ++ late) last calls.1 calling come.next.calling).0 still.followed.calling) still.opened.calling)
          ]
