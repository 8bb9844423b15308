-- A tick of the ends of an association where nothing waits: an end without an answer to its CR asks again or gives up, one whose user has not answered waits or refuses, a pair
-- stays or parts, a frozen end stays so or is taken out. So the association is in one of its phases again.
use Rattle.std.proofs.Common.{◌≡◌, ◌⊎◌, ℕ, ◌+◌, ◌*◌, ◌<◌, ◌≤◌, min, nat_lt, Bool, true, false, if◌then◌else◌, List, [], ◌∷◌, ◌++◌, Option, Some, None, refl, sym, ◌∙◌, ap, subst, inl, inr, arith}
use Rattle.std.proofs.lemmas.Bool.{leb-false, ltb-true}
use Rattle.tp4_flow.specs.declared.rules.FlowRules.{FlowRules}
use Rattle.tpdu.specs.declared.service.Options.{Options}
use Rattle.tp4_flow.specs.declared.step.EndEvent.{EndEvent}
use Rattle.tpdu.specs.declared.service.GoneCause.TheVariants.{AnswerTime, Exhausted}
use Rattle.tp4_flow.specs.declared.step.Sent.{Sent}
use Rattle.tp4_number.proofs.Past.{if_kept}
use Rattle.tp4_number.specs.Number.{whole}
use Rattle.tp4_sending.specs.SendingHalf.{due_of}
use Rattle.tp4_sending.specs.Pieces.{sooner}
use Rattle.tp4_conn.specs.declared.end_record.EndRecord.{EndRecord}
use Rattle.tp4_conn.specs.declared.states.InOpened.{InOpened}
use Rattle.tp4_conn.specs.declared.states.InWaitBeforeClose.{InWaitBeforeClose}
use Rattle.tp4_conn.specs.declared.states.InCrWait.{InCrWait}
use Rattle.tp4_conn.specs.declared.states.StateData.{StateData}
use Rattle.tp4_conn.specs.declared.states.StateData.TheVariants.{CrWait, WaitBeforeClose, UserWait, AkWait, Opened, Closing, Frozen}
use Rattle.tp4_conn.specs.declared.timers.Timers.{Timers}
use Rattle.tp4_conn.specs.CrWait.{cr_wait_tick}
use Rattle.tp4_conn.specs.End.{End, Moved, end_of, frozen, frozen_for, gone, span}
use Rattle.tp4_conn.specs.Matching.{sum_agreed}
use Rattle.tp4_conn.specs.Table.{Ticked, at, due, on_tick, stepped}
use Rattle.tp4_conn.specs.UserWait.{refusing, user_wait_tick}
use Rattle.tp4_conn.specs.WaitBeforeClose.{wait_before_close_tick}
use Rattle.tp4_entity.specs.References.{was_frozen}
use Rattle.tp4_entity.specs.Step.{is_due, kept_end}
use Rattle.law_tp4_pair.specs.Pair.{Clock, IsIdle, Pair, back_units, forth_units, next, tick_of}
use Rattle.law_tp4_pair.specs.Standing.{Both, Confirming, First, HasLeft, Left, Stands}
use Rattle.law_tp4_pair.proofs.Pairs.{stands_on}
use Rattle.tp4_world.specs.declared.place.EndAt.{EndAt}
use Rattle.law_tp4_associations.specs.Association.{Association, party as party_of}
use Rattle.law_tp4_associations.specs.Phase.{AreAll, AreParting, Asks, IsRefusal, IsAsking, IsFrozen, IsInUse, IsIndicated, IsOver, IsPaired, IsRequest, Answered, Asking, Late, Leaving, Over, Paired, Phase, Refused, Rejected, Waiting, WillFreeze}
use Rattle.law_tp4_associations.specs.Standing.{IsAssociation, IsCalled, IsCaller}
use Rattle.law_tp4_associations.specs.Ticking.{ticked_end, ticked_tpdus}
use Rattle.law_tp4_associations.proofs.Holding.{not_late}
use Rattle.law_tp4_rows.proofs.Leaving.{ticks_same}
use Rattle.law_tp4_associations.proofs.Pairing.{left_or_not, left_parts}
use Rattle.law_tp4_associations.proofs.Places.{none_not, same_some}
use Rattle.law_tp4_associations.proofs.Writing.{AreBy, Closes, Open_on, Stays, either, ticks}

-- ---- which ends are kept

some_sooner : (tick : ℕ) (other : Option ℕ) → (least : ℕ) × (sooner (Some tick) other ≡ Some least)
some_sooner tick None = (tick, refl)
some_sooner tick (Some other) = (min tick other, refl)

has_due : (b : EndRecord) (stage : StateData) → (IsFrozen stage → ⊥) → (tick : ℕ) × (due b stage ≡ Some tick)
has_due b (Opened o) live = some_sooner _ (due_of o.halves.sending)
has_due b (Frozen when) live = absurd (live tt)
has_due b other live = (_, refl)

kept_live : (m : Moved) → (IsFrozen m.stage → ⊥) → kept_end m (due m.base m.stage) ≡ Some (end_of m)
kept_live m live = ap (kept_end m) (has_due m.base m.stage live).1

-- one that has just frozen is kept too
kept_now : (b : EndRecord) (events : List EndEvent) (tpdus : List Sent) → let m = frozen b events tpdus in kept_end m (due m.base m.stage) ≡ Some (end_of m)
kept_now b events tpdus = ap (λ (late : Bool). kept_end (frozen b events tpdus) (if late then None else Some (b.clock + frozen_for b.timers + 1))) (not_late b.clock (frozen_for b.timers))

held_live : (now : ℕ) (end : End) → (IsFrozen end.stage → ⊥) → IsInUse now end
held_live now end live = by end.stage live
  where
    by : (stage : StateData) → (IsFrozen stage → ⊥) → was_frozen now (frozen_for end.base.timers) stage ≡ false
    by (Frozen when) live = absurd (live tt)
    by stage live = refl

-- a tick changes the clock of an end's base alone
pub record IsFrom (old : Option End) (end : End) : Type 0 where
  pub was : End
  pub is : old ≡ Some was
  pub clock : ℕ
  pub base : end.base ≡ record was.base { clock = clock }

pub ticked_from : (ticked : Bool) (now : ℕ) (old : Option End) (end : End) → ticked_end ticked now old ≡ Some end → IsFrom old end
ticked_from ticked now None end is = none_not end is
ticked_from false now (Some was) end is = record { was = was; is = refl; clock = was.base.clock; base = ap (λ (e : End). e.base) (sym (same_some was end is)) }
ticked_from true now (Some was) end is = by (due (stepped whole now was Ticked).base (stepped whole now was Ticked).stage) is
  where
    by : (tick : Option ℕ) → kept_end (stepped whole now was Ticked) tick ≡ Some end → IsFrom (Some was) end
    by None e = none_not end e
    by (Some tick) e = record { was = was; is = refl; clock = now; base = ap (λ (z : End). z.base) (sym (same_some (end_of (stepped whole now was Ticked)) end e)) ∙ ticks_same (at now was.base) was.stage }

-- ---- an end without an answer to its CR

data AsksTick (b : EndRecord) (now : ℕ) (after : Option End) (tpdus : List Sent) : Type 0 where
  Asks_on : (clock : ℕ) (stage : StateData) → IsAsking stage → after ≡ Some (record { base = record b { clock = clock }; stage = stage }) → AreAll (IsRequest b.own) b.to tpdus → AsksTick b now after tpdus
  Gives_up : after ≡ Some (record { base = at now b; stage = Frozen now }) → tpdus ≡ [] → AsksTick b now after tpdus

abbrev AsksMoved : EndRecord → ℕ → Moved → Type 0
AsksMoved b now m = AsksTick b now (kept_end m (due m.base m.stage)) m.tpdus

asks_again : (b : EndRecord) (now : ℕ) (w : InCrWait) → AsksMoved b now (cr_wait_tick (at now b) w)
unfolding cr_wait_tick
asks_again b now w =
    either (AsksMoved b now) (nat_lt now (w.tries.last + b.timers.t1)) _ _ (Asks_on now (CrWait w) tt refl tt)
    (either (AsksMoved b now) (nat_lt w.tries.count b.timers.sendings) _ _ (Asks_on now _ tt refl (refl, refl, tt)) (Gives_up (kept_now (at now b) (gone (at now b) Exhausted []) []) refl))

parts_again : (b : EndRecord) (now : ℕ) (w : InWaitBeforeClose) → AsksMoved b now (wait_before_close_tick (at now b) w)
unfolding wait_before_close_tick
parts_again b now w =
    either (AsksMoved b now) (nat_lt now (w.request.tries.last + b.timers.t1)) _ _ (Asks_on now (WaitBeforeClose w) tt refl tt)
    (either (AsksMoved b now) (nat_lt w.request.tries.count b.timers.sendings) _ _ (Asks_on now _ tt refl (refl, refl, tt)) (Gives_up (kept_now (at now b) [] []) refl))

asks_ticked : (ticked : Bool) (now : ℕ) (b : EndRecord) (stage : StateData) → IsAsking stage
    → AsksTick b now (ticked_end ticked now (Some (record { base = b; stage = stage }))) (ticked_tpdus ticked now (Some (record { base = b; stage = stage })))
asks_ticked false now b stage asking = Asks_on b.clock stage asking refl tt
asks_ticked true now b (CrWait w) asking = asks_again b now w
asks_ticked true now b (WaitBeforeClose w) asking = parts_again b now w
asks_ticked true now b stage asking = absurd asking

-- ---- one whose user has not answered

data UserTick (b : EndRecord) (since now : ℕ) (after : Option End) (tpdus : List Sent) : Type 0 where
  Waits_on : (clock : ℕ) → now < since + b.timers.inactive → after ≡ Some (record { base = record b { clock = clock }; stage = UserWait since }) → tpdus ≡ [] → UserTick b since now after tpdus
  Refuses : after ≡ Some (record { base = at now b; stage = Frozen now }) → tpdus ≡ refusing (at now b) [] ∷ [] → UserTick b since now after tpdus

abbrev UserMoved : EndRecord → ℕ → ℕ → Moved → Type 0
UserMoved b since now m = UserTick b since now (kept_end m (due m.base m.stage)) m.tpdus

user_waits : (b : EndRecord) (since now : ℕ) → UserMoved b since now (user_wait_tick (at now b) since)
unfolding user_wait_tick
user_waits b since now =
    if_kept (UserMoved b since now) (nat_lt now (since + b.timers.inactive)) _ _ (λ early. Waits_on now (ltb-true now (since + b.timers.inactive) early) refl refl)
    (λ _. Refuses (kept_now (at now b) (gone (at now b) AnswerTime []) (refusing (at now b) [] ∷ [])) refl)

-- where it is not due then, it has waited, or refused
user_ticked : (ticked : Bool) (now : ℕ) (b : EndRecord) (since : ℕ) → ((z : End) → ticked_end ticked now (Some (record { base = b; stage = UserWait since })) ≡ Some z → is_due now (Some z) ≡ false)
    → UserTick b since now (ticked_end ticked now (Some (record { base = b; stage = UserWait since }))) (ticked_tpdus ticked now (Some (record { base = b; stage = UserWait since })))
user_ticked false now b since quiet = Waits_on b.clock (leb-false (since + b.timers.inactive) now (quiet _ refl)) refl refl
user_ticked true now b since quiet = user_waits b since now

-- ---- frozen ends

kept_over : (m : Moved) (tick : Option ℕ) → IsFrozen m.stage → IsOver (kept_end m tick)
kept_over m None frozen_is = tt
kept_over m (Some tick) frozen_is = frozen_is

over_ticked : (ticked : Bool) (now : ℕ) (old : Option End) → IsOver old → IsOver (ticked_end ticked now old)
over_ticked ticked now None over = tt
over_ticked false now (Some end) over = over
over_ticked true now (Some end) over = by end.stage over
  where
    by : (stage : StateData) → IsFrozen stage → let m = on_tick (at now end.base) stage in IsOver (kept_end m (due m.base m.stage))
    by (Frozen when) f = kept_over (on_tick (at now end.base) (Frozen when)) (due (at now end.base) (Frozen when)) tt
    by other f = absurd f

over_silent : (ticked : Bool) (now : ℕ) (old : Option End) → IsOver old → ticked_tpdus ticked now old ≡ []
over_silent ticked now None over = refl
over_silent false now (Some end) over = refl
over_silent true now (Some end) over = by end.stage over
  where
    by : (stage : StateData) → IsFrozen stage → (on_tick (at now end.base) stage).tpdus ≡ []
    by (Frozen when) f = refl
    by other f = absurd f

-- one that is held stays
record IsFrozenOn (b : EndRecord) (when : ℕ) (after : Option End) (tpdus : List Sent) : Type 0 where
  clock : ℕ
  after_is : after ≡ Some (record { base = record b { clock = clock }; stage = Frozen when })
  none : tpdus ≡ []

frozen_ticked : (ticked : Bool) (now : ℕ) (b : EndRecord) (when : ℕ) → IsInUse now (record { base = b; stage = Frozen when })
    → IsFrozenOn b when (ticked_end ticked now (Some (record { base = b; stage = Frozen when }))) (ticked_tpdus ticked now (Some (record { base = b; stage = Frozen when })))
frozen_ticked false now b when held = record { clock = b.clock; after_is = refl; none = refl }
frozen_ticked true now b when held = record {
  clock = now;
  after_is = ap (λ (late : Bool). kept_end (on_tick (at now b) (Frozen when)) (if late then None else Some (when + frozen_for b.timers + 1))) held;
  none = refl;
}

-- ---- two ends that have just frozen or were frozen, the user of one of which had not answered

pub not_agreed : (agreed : Option Options) → agreed ≡ None → sum_agreed agreed ≡ true → ⊥
not_agreed None e is = cc is
not_agreed (Some o) e is = cc e

two_frozen : (b c : EndRecord) (when now : ℕ) (here there : List ℕ) → b.to ≡ there → c.to ≡ here → b.agreed ≡ None → c.agreed ≡ None → c.partner ≡ b.own
    → AreParting (record { base = b; stage = Frozen when }) (record { base = at now c; stage = Frozen now }) here there (refusing (at now c) [] ∷ []) []
two_frozen b c when now here there to to_back unagreed none partner = record {
  one = record {
    into_are = (record { kind = (partner, inr refl); to = to_back; summed = λ is. absurd (not_agreed b.agreed unagreed is); formatted = λ e. absurd (cc e) }, tt);
    knows = record { partner = inl tt; to = to; sum = λ is. absurd (not_agreed c.agreed none is); writes = tt };
    freezes = tt;
  };
  next = record {
    into_are = tt;
    knows = record { partner = inl tt; to = to_back; sum = λ is. absurd (not_agreed b.agreed unagreed is); writes = tt };
    freezes = tt;
  };
}

-- where nothing waits, two ends of which one has left are frozen
both_over : (one other : ℕ) (u v : StateData) → WillFreeze one other u v [] [] → WillFreeze other one v u [] [] → IsFrozen u × IsFrozen v
both_over one other (Frozen s) (Frozen t) f g = (tt, tt)
both_over one other (Frozen s) (Opened o) f g = absurd g
both_over one other (Frozen s) (AkWait a) f g = absurd (elim g [ inl h ↦ h | inr h ↦ elim h [ inl k ↦ k | inr k ↦ k ] ])
both_over one other (Frozen s) (Closing c) f g = absurd (elim g [ inl h ↦ h | inr h ↦ elim h [ inl k ↦ k | inr k ↦ k ] ])
both_over one other (Frozen s) v f g = absurd g
both_over one other (Opened o) (Closing c) f g = absurd f
both_over one other (Opened o) (Frozen t) f g = absurd f
both_over one other (AkWait a) (Closing c) f g = absurd f
both_over one other (AkWait a) (Frozen t) f g = absurd (elim f [ inl h ↦ h | inr h ↦ elim h [ inl k ↦ k | inr k ↦ k ] ])
both_over one other (Closing c) (Closing d) f g = absurd f
both_over one other (Closing c) (Frozen t) f g = absurd (elim f [ inl h ↦ h | inr h ↦ elim h [ inl k ↦ k | inr k ↦ k ] ])
both_over one other (Closing c) (Opened o) f g = absurd g
both_over one other (Closing c) (AkWait a) f g = absurd g
both_over one other u v f g = absurd f

-- ---- a pair

-- the clock of an end that has a tick, or has none
abbrev clocked_by : Bool → ℕ → EndRecord → EndRecord
clocked_by ticked now b = record b { clock = if ticked then now else b.clock }

ticked_live : (ticked : Bool) (now : ℕ) (end : End) → (IsFrozen (tick_of ticked now end).stage → ⊥) → ticked_end ticked now (Some end) ≡ Some (end_of (tick_of ticked now end))
ticked_live true now end live = kept_live (stepped whole now end Ticked) live
ticked_live false now end live = refl

ticked_sent : (ticked : Bool) (now : ℕ) (end : End) → ticked_tpdus ticked now (Some end) ≡ (tick_of ticked now end).tpdus
ticked_sent true now end = refl
ticked_sent false now end = refl

stays_tick : (rules : FlowRules) (b : EndRecord) (o : InOpened) (stage : StateData) → stage ≡ Opened o → AreBy rules o.halves → (ticked : Bool) (now : ℕ) → Stays rules (clocked_by ticked now b) (tick_of ticked now (record { base = b; stage = stage }))
stays_tick rules b o stage is h true now = subst (λ (s : StateData). Stays rules (at now b) (on_tick (at now b) s)) (sym is) (ticks rules (at now b) o h)
stays_tick rules b o stage is h false now = Open_on o refl is h.sending_by h.receiving_by tt

stays_live : (rules : FlowRules) (b : EndRecord) (m : Moved) → Stays rules b m → IsFrozen m.stage → ⊥
stays_live rules b m (Open_on o base stage s r d) f = subst IsFrozen stage f
stays_live rules b m (Closes c before reason octets base stage d tpdus) f = subst IsFrozen stage f

stays_past : (rules : FlowRules) (b : EndRecord) (m : Moved) (r : InCrWait) → Stays rules b m → m.stage ≡ CrWait r → ⊥
stays_past rules b m r (Open_on o base stage s t d) is = cc (stage, is)
stays_past rules b m r (Closes c before reason octets base stage d tpdus) is = cc (stage, is)

not_empty : (x : Sent) (l : List Sent) → l ≡ x ∷ [] → l ≡ [] → ⊥
not_empty x l e f = cc (e, f)

module _ (timers : Timers) (here there : List ℕ) (from : EndAt) (to : ℕ) (p : Pair) (to_there : p.calling.base.to ≡ there) (to_here : p.called.base.to ≡ here) (c d : Bool) (i : IsPaired p.clock p [] []) where
  abbrev now : ℕ
  now = p.clock + 1

  abbrev m : Moved
  m = tick_of c now p.calling

  abbrev n : Moved
  n = tick_of d now p.called

  idle : IsIdle p
  idle = record { forth = i.forth_is; back = i.back_is }

  abbrev Goes : Type 0
  Goes = Phase timers here there now (record { from = from; to = to; calling = ticked_end c now (Some p.calling); called = ticked_end d now (Some p.called) }) (ticked_tpdus c now (Some p.calling)) (ticked_tpdus d now (Some p.called))

  pair_ticks : Goes
  pair_ticks = by i.stands
    where
      by : Stands p → Goes
      by (Left left) = absurd (i.stays left)
      by (Confirming r w mine theirs new k) = absurd (not_empty _ p.back k.back_is i.back_is)
      by (First o w mine theirs f) = absurd (not_empty _ p.forth f.forth_is i.forth_is)
      by (Both o q mine theirs both) = on (left_or_not m.stage) (left_or_not n.stage)
        where
          row : Stays both.one_rules (clocked_by c now p.calling.base) m
          row = stays_tick both.one_rules p.calling.base o p.calling.stage mine (record { sending_by = both.one.sending; receiving_by = both.one.receiving }) c now

          other : Stays both.other_rules (clocked_by d now p.called.base) n
          other = stays_tick both.other_rules p.called.base q p.called.stage theirs (record { sending_by = both.other.sending; receiving_by = both.other.receiving }) d now

          calling_is : ticked_end c now (Some p.calling) ≡ Some (end_of m)
          calling_is = ticked_live c now p.calling (stays_live both.one_rules (clocked_by c now p.calling.base) m row)

          called_is : ticked_end d now (Some p.called) ≡ Some (end_of n)
          called_is = ticked_live d now p.called (stays_live both.other_rules (clocked_by d now p.called.base) n other)

          parts : HasLeft m.stage ⊎ HasLeft n.stage → Goes
          parts left =
              Leaving (end_of m) (end_of n) calling_is called_is
              (subst (λ (l : List Sent). AreParting (end_of m) (end_of n) here there l (ticked_tpdus c now (Some p.calling))) (sym (ticked_sent d now p.called))
              (subst (λ (l : List Sent). AreParting (end_of m) (end_of n) here there n.tpdus l) (sym (ticked_sent c now p.calling))
              (left_parts (clocked_by c now p.calling.base) (clocked_by d now p.called.base) o.halves q.halves p.forth p.back (forth_units p) (back_units p) both here there to_there to_here m n [] [] tt tt row other left)))
              (held_live now (end_of m) (stays_live both.one_rules (clocked_by c now p.calling.base) m row))
              (held_live now (end_of n) (stays_live both.other_rules (clocked_by d now p.called.base) n other))

          on : HasLeft m.stage ⊎ (HasLeft m.stage → ⊥) → HasLeft n.stage ⊎ (HasLeft n.stage → ⊥) → Goes
          on (inl left) any = parts (inl left)
          on (inr stay) (inl left) = parts (inr left)
          on (inr stay) (inr stays) =
              Paired (next p (Clock c d)) calling_is called_is (record {
                clock = refl;
                forth_is = ap (λ (l : List Sent). l ++ m.tpdus) i.forth_is ∙ sym (ticked_sent c now p.calling);
                back_is = ap (λ (l : List Sent). l ++ n.tpdus) i.back_is ∙ sym (ticked_sent d now p.called);
                stands = stands_on p (Clock c d) i.stands idle;
                within = λ r options was agreed. absurd (stays_past both.one_rules (clocked_by c now p.calling.base) m r row was);
                stays = λ any. elim any [ inl left ↦ stay left | inr left ↦ stays left ];
              })

-- ---- the association

abbrev pub after_tick : (Bool → Bool) → ℕ → Association → Association
after_tick ticked now a = record { from = a.from; to = a.to; calling = ticked_end (ticked true) now a.calling; called = ticked_end (ticked false) now a.called }

clocked_caller : (timers : Timers) (reference : ℕ) (address : List ℕ) (old end : End) (clock : ℕ) → end.base ≡ record old.base { clock = clock } → IsCaller timers reference address old → IsCaller timers reference address end
clocked_caller timers reference address old end clock is c =
    subst (λ (b : EndRecord). IsCaller timers reference address (record { base = b; stage = end.stage })) (sym is) (record { own_is = c.own_is; to = c.to; is_called = c.is_called; timers_are = c.timers_are; size = c.size; proposed = c.proposed })

clocked_called : (timers : Timers) (reference : ℕ) (address : List ℕ) (old end : End) (clock : ℕ) → end.base ≡ record old.base { clock = clock } → IsCalled timers reference address old → IsCalled timers reference address end
clocked_called timers reference address old end clock is c =
    subst (λ (b : EndRecord). IsCalled timers reference address (record { base = b; stage = end.stage })) (sym is) (record { partner = c.partner; to = c.to; is_called = c.is_called; timers_are = c.timers_are })

module _ (timers : Timers) (own : ℕ → List ℕ) (now : ℕ) (a : Association) (i : IsAssociation timers own now a [] []) (ticked : Bool → Bool)
    (quiet : (by : Bool) (z : End) → ticked_end (ticked by) (now + 1) (party_of a by) ≡ Some z → is_due (now + 1) (Some z) ≡ false) where
  abbrev here : List ℕ
  here = own a.from.system

  abbrev there : List ℕ
  there = own a.to

  -- after it the ends are these, and so much waits
  abbrev After : Option End → Option End → List Sent → List Sent → Type 0
  After calling called forth back = Phase timers here there (now + 1) (record { from = a.from; to = a.to; calling = calling; called = called }) forth back

  in_time : (y : End) (since : ℕ) → a.called ≡ Some y → now + 1 < since + y.base.timers.inactive → now + 1 < since + timers.inactive
  in_time y since called early = subst (λ (t : Timers). now + 1 < since + t.inactive) (i.called y called).timers_are early

  -- the CR was indicated
  waiting_ticks : (x y : End) (since : ℕ) → a.calling ≡ Some x → a.called ≡ Some y → Asks x → IsIndicated timers now x y since → (calling called : Option End) (forth back : List Sent)
      → AsksTick x.base (now + 1) calling forth → UserTick y.base since (now + 1) called back → After calling called forth back
  waiting_ticks x y since calling_is called_is asks indicated calling called forth back (Asks_on clock stage asking is requests) (Waits_on late early same none) =
      Waiting (record { base = record x.base { clock = clock }; stage = stage }) (record { base = record y.base { clock = late }; stage = UserWait since }) since is same (record { stage = asking; unagreed = asks.unagreed })
      (record { stage = refl; past = omega (arith, indicated.past); in_time = in_time y since called_is early; proposed = indicated.proposed; credit = indicated.credit; unagreed = indicated.unagreed })
      (subst (λ (l : List ℕ). AreAll (IsRequest x.base.own) l forth) (i.caller x calling_is).to requests) none
  waiting_ticks x y since calling_is called_is asks indicated calling called forth back (Asks_on clock stage asking is requests) (Refuses same sent) =
      let c = i.caller x calling_is in
      let d = i.called y called_is in
      Refused (record { base = record x.base { clock = clock }; stage = stage }) (record { base = at (now + 1) y.base; stage = Frozen (now + 1) }) (refusing (at (now + 1) y.base) []) [] is same
      (record { stage = asking; unagreed = asks.unagreed }) tt (not_late (now + 1) (frozen_for y.base.timers)) indicated.unagreed
      (subst (λ (l : List ℕ). AreAll (IsRequest x.base.own) l forth) c.to requests) sent (subst (AreAll (IsRefusal x.base.own) here) (sym sent) (d.to, (d.partner ∙ sym c.own_is, refl), tt))
  waiting_ticks x y since calling_is called_is asks indicated calling called forth back (Gives_up is sent) (Waits_on late early same none) =
      Late (record { base = at (now + 1) x.base; stage = Frozen (now + 1) }) (record { base = record y.base { clock = late }; stage = UserWait since }) (now + 1) since is same refl asks.unagreed
      (record { stage = refl; past = omega (arith, indicated.past); in_time = in_time y since called_is early; proposed = indicated.proposed; credit = indicated.credit; unagreed = indicated.unagreed })
      (omega (arith, indicated.past)) sent none
  waiting_ticks x y since calling_is called_is asks indicated calling called forth back (Gives_up is none) (Refuses same sent) =
      let c = i.caller x calling_is in
      let d = i.called y called_is in
      Leaving (record { base = at (now + 1) x.base; stage = Frozen (now + 1) }) (record { base = at (now + 1) y.base; stage = Frozen (now + 1) }) is same
      (subst (λ (l : List Sent). AreParting (record { base = at (now + 1) x.base; stage = Frozen (now + 1) }) (record { base = at (now + 1) y.base; stage = Frozen (now + 1) }) here there back l) (sym none)
      (subst (λ (l : List Sent). AreParting (record { base = at (now + 1) x.base; stage = Frozen (now + 1) }) (record { base = at (now + 1) y.base; stage = Frozen (now + 1) }) here there l []) (sym sent)
      (two_frozen (at (now + 1) x.base) y.base (now + 1) (now + 1) here there c.to d.to asks.unagreed indicated.unagreed (d.partner ∙ sym c.own_is))))
      (not_late (now + 1) (frozen_for x.base.timers)) (not_late (now + 1) (frozen_for y.base.timers))

  -- and the calling end gave up before
  late_ticks : (x y : End) (when since : ℕ) → a.calling ≡ Some x → a.called ≡ Some y → x.base.agreed ≡ None → IsIndicated timers now x y since → since ≤ when → (calling called : Option End) (forth back : List Sent)
      → IsFrozenOn x.base when calling forth → was_frozen (now + 1) (frozen_for x.base.timers) (Frozen when) ≡ false → UserTick y.base since (now + 1) called back → After calling called forth back
  late_ticks x y when since calling_is called_is unagreed indicated before calling called forth back on held (Waits_on late early same none) =
      Late (record { base = record x.base { clock = on.clock }; stage = Frozen when }) (record { base = record y.base { clock = late }; stage = UserWait since }) when since on.after_is same refl unagreed
      (record { stage = refl; past = omega (arith, indicated.past); in_time = in_time y since called_is early; proposed = indicated.proposed; credit = indicated.credit; unagreed = indicated.unagreed })
      before on.none none
  late_ticks x y when since calling_is called_is unagreed indicated before calling called forth back on held (Refuses same sent) =
      let c = i.caller x calling_is in
      let d = i.called y called_is in
      let z : End = record { base = record x.base { clock = on.clock }; stage = Frozen when } in
      Leaving z (record { base = at (now + 1) y.base; stage = Frozen (now + 1) }) on.after_is same
      (subst (λ (l : List Sent). AreParting z (record { base = at (now + 1) y.base; stage = Frozen (now + 1) }) here there back l) (sym on.none)
      (subst (λ (l : List Sent). AreParting z (record { base = at (now + 1) y.base; stage = Frozen (now + 1) }) here there l []) (sym sent)
      (two_frozen (record x.base { clock = on.clock }) y.base when (now + 1) here there c.to d.to unagreed indicated.unagreed (d.partner ∙ sym c.own_is))))
      held (not_late (now + 1) (frozen_for y.base.timers))

  abbrev Ticked_on : Option End → Option End → Type 0
  Ticked_on calling called = After (ticked_end (ticked true) (now + 1) calling) (ticked_end (ticked false) (now + 1) called) (ticked_tpdus (ticked true) (now + 1) calling) (ticked_tpdus (ticked false) (now + 1) called)

  -- both ends are over
  over_ticks : (calling called : Option End) → IsOver calling → IsOver called → Ticked_on calling called
  over_ticks calling called over other =
      Over (over_ticked (ticked true) (now + 1) calling over) (over_ticked (ticked false) (now + 1) called other) (over_silent (ticked true) (now + 1) calling over) (over_silent (ticked false) (now + 1) called other)

  -- the user's end is not due
  user_quiet : (y : End) (since : ℕ) → a.called ≡ Some y → y.stage ≡ UserWait since
      → UserTick y.base since (now + 1) (ticked_end (ticked false) (now + 1) (Some y)) (ticked_tpdus (ticked false) (now + 1) (Some y))
  user_quiet y since called stage =
      subst (λ (s : StateData). UserTick y.base since (now + 1) (ticked_end (ticked false) (now + 1) (Some (record { base = y.base; stage = s }))) (ticked_tpdus (ticked false) (now + 1) (Some (record { base = y.base; stage = s })))) (sym stage)
      (user_ticked (ticked false) (now + 1) y.base since (λ z is. quiet false z (ap (ticked_end (ticked false) (now + 1)) (called ∙ ap (λ (s : StateData). Some (record { base = y.base; stage = s })) stage) ∙ is)))

  phase_ticks : Phase timers here there now a [] [] → Ticked_on a.calling a.called
  phase_ticks (Asking x r calling called asks stage forth_is back_is) = absurd (cc forth_is)
  phase_ticks (Rejected x refusal calling called asks forth_is back_is to is) = absurd (cc back_is)
  phase_ticks (Waiting x y since calling called asks indicated requests back_is) =
      subst (λ (o : Option End). Ticked_on o a.called) (sym calling) (subst (Ticked_on (Some x)) (sym called)
      (waiting_ticks x y since calling called asks indicated _ _ _ _ (asks_ticked (ticked true) (now + 1) x.base x.stage asks.stage) (user_quiet y since called indicated.stage)))
  phase_ticks (Late x y when since calling called stage unagreed indicated before forth_is back_is) =
      let c = i.caller x calling in
      let held : was_frozen (now + 1) (frozen_for x.base.timers) (Frozen when) ≡ false = subst (λ (t : Timers). was_frozen (now + 1) (frozen_for t) (Frozen when) ≡ false) (sym c.timers_are) (held_later when since before indicated.in_time) in
      subst (λ (o : Option End). Ticked_on o a.called) (sym calling) (subst (Ticked_on (Some x)) (sym called)
      (late_ticks x y when since calling called unagreed indicated before _ _ _ _
      (subst (λ (s : StateData). IsFrozenOn x.base when (ticked_end (ticked true) (now + 1) (Some (record { base = x.base; stage = s }))) (ticked_tpdus (ticked true) (now + 1) (Some (record { base = x.base; stage = s })))) (sym stage)
      (frozen_ticked (ticked true) (now + 1) x.base when held)) held (user_quiet y since called indicated.stage)))
    where
      longer : (when since n m : ℕ) → since ≤ when → now < since + timers.inactive → nat_lt (when + (n + timers.inactive + m)) (now + 1) ≡ false
      longer when since n m before late = let low : now + 1 ≤ when + (n + timers.inactive + m) = omega (arith, before, late) in grind arith

      held_later : (when since : ℕ) → since ≤ when → now < since + timers.inactive → was_frozen (now + 1) (frozen_for timers) (Frozen when) ≡ false
      held_later when since before late = longer when since (2 * timers.life) (span timers) before late
  phase_ticks (Refused x y first others calling called asks frozen held unagreed requests back_is refusals) = absurd (cc back_is)
  phase_ticks (Answered x y w calling called asks stage confirming forth_is) = absurd (cc confirming.back_is)
  phase_ticks (Paired p calling called paired) =
      subst (λ (o : Option End). Ticked_on o a.called) (sym calling) (subst (Ticked_on (Some p.calling)) (sym called)
      (subst (λ (n : ℕ). Phase timers here there (n + 1) (record { from = a.from; to = a.to; calling = ticked_end (ticked true) (n + 1) (Some p.calling); called = ticked_end (ticked false) (n + 1) (Some p.called) })
      (ticked_tpdus (ticked true) (n + 1) (Some p.calling)) (ticked_tpdus (ticked false) (n + 1) (Some p.called))) paired.clock
      (pair_ticks timers here there a.from a.to p (i.caller p.calling calling).to (i.called p.called called).to (ticked true) (ticked false)
      (record { clock = refl; forth_is = paired.forth_is; back_is = paired.back_is; stands = paired.stands; within = paired.within; stays = paired.stays }))))
  phase_ticks (Leaving x y calling called parting held_x held_y) =
      let f = both_over x.base.own y.base.own x.stage y.stage parting.one.freezes parting.next.freezes in
      over_ticks a.calling a.called (subst IsOver (sym calling) f.0) (subst IsOver (sym called) f.1)
  phase_ticks (Over calling called forth_is back_is) = over_ticks a.calling a.called calling called

  pub association_ticks : IsAssociation timers own (now + 1) (after_tick ticked (now + 1) a) (ticked_tpdus (ticked true) (now + 1) a.calling) (ticked_tpdus (ticked false) (now + 1) a.called)
  association_ticks = record {
    phase = phase_ticks i.phase;
    caller = λ x is. let f = ticked_from (ticked true) (now + 1) a.calling x is in clocked_caller timers a.from.reference there f.was x f.clock f.base (i.caller f.was f.is);
    called = λ y is. let f = ticked_from (ticked false) (now + 1) a.called y is in clocked_called timers a.from.reference here f.was y f.clock f.base (i.called f.was f.is);
    some = i.some;
  }
