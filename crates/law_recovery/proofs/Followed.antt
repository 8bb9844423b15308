-- A pair that is followed through a network, where nothing waits, is one of which all is known; so what is shown of such pairs holds of it.
use Rattle.std.proofs.Common.{◌≡◌, ◌⊎◌, inl, inr, ℕ, ◌+◌, ◌≤◌, List, sym, subst}
use Rattle.std.specs.Prelude.{max}
use Rattle.osi_base.specs.Calls.{Call}
use Rattle.osi_base.specs.Link.{Link}
use Rattle.script_journal.specs.declared.event.Event.{Event}
use Rattle.tp4_conn.specs.End.{End}
use Rattle.tp4_conn.specs.Living.{IsInTime}
use Rattle.tp4_conn.specs.Table.{due}
use Rattle.tp4_conn.specs.declared.states.InOpened.{InOpened}
use Rattle.tp4_conn.specs.declared.states.StateData.TheVariants.{Opened}
use Rattle.law_tp4_pair.specs.Claim.{HasShown}
use Rattle.law_tp4_pair.specs.Pair.{IsIdle, Pair}
use Rattle.law_tp4_proper.proofs.Ends.{waits}
use Rattle.law_recovery_steps.specs.Resting.{AreLater}
use Rattle.law_recovery_steps.specs.Going.{AreBothOpened, HasParted}
use Rattle.tp4_world.specs.World.{World}
use Rattle.law_calm_run.proofs.Hall.{AreWaiting}
use Rattle.law_recovery_world.specs.Laws.{PartnersPart, PartnersShow}
use Rattle.law_recovery_world.specs.Partners.{IsArrival, IsPairOf}
use Rattle.law_recovery_run.specs.Following.{Stands}
use Rattle.law_recovery_run.specs.Laws.{PartnersAreFollowed, CallsRest, EndsHaveNumbers}
use Rattle.law_recovery_run.specs.Settling.{AreAtHand}
use Rattle.law_recovery.specs.Laws.{FollowedArePairs, FollowedPart, FollowedShow}

-- ---- field by field

module _ {C : Type 0} (link : C → Link (List ℕ)) (journal : List Event) (world : World C) (x y : ℕ) (p : Pair) (o q : InOpened) where
  pub of_pair : IsPairOf link journal world x y p o q → AreAtHand link journal world x y p o q
  of_pair h = record {
    partners = h.partners;
    calling = record { system = h.calling.system; reference = h.calling.reference; entity = h.calling.entity; is_end = h.calling.is_end };
    called = record { system = h.called.system; reference = h.called.reference; entity = h.called.entity; is_end = h.called.is_end };
    calling_open = h.calling.stage;
    called_open = h.called.stage;
    clock = h.clock;
    idle = h.idle;
    calling_gave = h.calling_gave;
    called_gave = h.called_gave;
    calling_showed = h.calling_showed;
    called_showed = h.called_showed;
  }

  pub to_pair : AreAtHand link journal world x y p o q → IsPairOf link journal world x y p o q
  to_pair h = record {
    partners = h.partners;
    calling = record { system = h.calling.system; reference = h.calling.reference; entity = h.calling.entity; is_end = h.calling.is_end; stage = h.calling_open };
    called = record { system = h.called.system; reference = h.called.reference; entity = h.called.entity; is_end = h.called.is_end; stage = h.called_open };
    clock = h.clock;
    idle = h.idle;
    calling_gave = h.calling_gave;
    called_gave = h.called_gave;
    calling_showed = h.calling_showed;
    called_showed = h.called_showed;
  }

module _ {C : Type 0} (link : C → Link (List ℕ)) (steps : C → Call (List ℕ) → C → Type 0) where
  pub followed_pairs : PartnersAreFollowed link steps → FollowedArePairs link steps
  followed_pairs follow titles timers journal last a x y p o q =
      let both = follow titles timers journal last a x y p o q in
      (λ pair. both.0 (of_pair link journal last x y p o q pair), λ f one other. to_pair link journal last x y p o q (both.1 f one other))

  -- ---- at a later tick

  -- an end of an entity of which none is due
  in_time : (last : World C) (now : ℕ) → AreWaiting now last.entities → (n : ℕ) (e : End) → Stands last n e → IsInTime (due e.base e.stage) (now + 1)
  in_time last now rest n e s = (waits now s.entity (rest s.system s.entity s.is_end.there)).1 s.reference e s.is_end.stands

  pub followed_show : CallsRest link steps → FollowedArePairs link steps → EndsHaveNumbers link steps → PartnersShow link steps → FollowedShow link steps
  followed_show rests pairs numbers show titles timers early later first second one two x y p last o q happenings f is_open is_open_there g leads late =
      elim (show titles timers early later first second one two x y p last o q happenings begins stands leads idle undue past) [
        | inl left ↦ inl left
        | inr r ↦ inr (record {
          o = r.0;
          q = r.1;
          calling_is = (numbers titles timers later second two x last.calling).0 g.calling;
          called_is = (numbers titles timers later second two y last.called).0 g.called;
          calling_open = r.2;
          called_open = r.3;
          there = subst (λ (n : ℕ). HasShown n later x y r.0.halves.sending r.1.halves.receiving) g.clock r.4;
          here = subst (λ (n : ℕ). HasShown n later y x r.1.halves.sending r.0.halves.receiving) g.clock r.5;
        })
      ]
    where
      begins : IsPairOf link early first x y p o q
      begins = (pairs titles timers early first one x y p o q).1 f is_open is_open_there

      stands : (i k : InOpened) → last.calling.stage ≡ Opened i → last.called.stage ≡ Opened k → IsPairOf link later second x y last i k
      stands i k mine theirs = (pairs titles timers later second two x y last i k).1 g mine theirs

      idle : IsIdle last
      idle = record { forth = g.forth.waits_are; back = g.back.waits_are }

      rest : AreWaiting (link second.carrier).clock second.entities
      rest = rests titles timers later second two

      undue : AreLater last
      undue =
          subst (λ (n : ℕ). IsInTime (due last.calling.base last.calling.stage) (n + 1) × IsInTime (due last.called.base last.called.stage) (n + 1)) (sym g.clock)
          (in_time second (link second.carrier).clock rest x last.calling g.calling, in_time second (link second.carrier).clock rest y last.called g.called)

      past : p.clock + max timers.t1 timers.window ≤ last.clock
      past = subst (λ (n : ℕ). p.clock + max timers.t1 timers.window ≤ n) (sym g.clock)
          (subst (λ (n : ℕ). n + max timers.t1 timers.window ≤ (link second.carrier).clock) (sym f.clock) late)

  pub followed_part : FollowedArePairs link steps → PartnersPart link steps → FollowedPart link steps
  followed_part pairs part titles timers early first one low x y p last o q happenings f is_open is_open_there ticked leads =
      subst (λ (n : ℕ). AreBothOpened last ⊎ ((h : HasParted timers n o q p happenings last) × (IsArrival h.happening → ⊥))) f.clock
      (part titles timers early first one low x y p last o q happenings ((pairs titles timers early first one x y p o q).1 f is_open is_open_there) ticked leads)
