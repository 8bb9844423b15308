-- Whatever happens to a pair in order, it rides on, or one of the ends has left.
use Rattle.std.proofs.Common.{◌≡◌, ◌⊎◌, inl, inr, ℕ, ◌+◌, Bool, true, false, List, [], ◌∷◌, ◌++◌, refl, sym, subst}
use Rattle.tp4_number.specs.Number.{whole}
use Rattle.tp4_flow.specs.declared.step.Sent.{Sent}
use Rattle.tp4_conn.specs.declared.call.UserCall.{UserCall}
use Rattle.tp4_conn.specs.declared.states.InOpened.{InOpened}
use Rattle.tp4_conn.specs.declared.states.StateData.{StateData}
use Rattle.tp4_conn.specs.declared.states.StateData.TheVariants.{Opened}
use Rattle.tp4_conn.specs.End.{End, Moved}
use Rattle.tp4_conn.specs.Table.{Called, Took, at, on_call, on_tick, stepped, takes}
use Rattle.law_tp4_pair.specs.Pair.{Asks_called, Asks_calling, Clock, Comes_back, Comes_forth, Happening, IsIdle, Leads, May, Pair, asks_called, asks_calling, clocked, comes_back, comes_forth, next, tick_of}
use Rattle.law_tp4_pair.specs.Standing.{Party, party}
use Rattle.law_tp4_pair.proofs.Leaving.{stays_left}
use Rattle.law_tp4_pair.proofs.Pairs.{tick_left}
use Rattle.law_recovery_steps.specs.Steps.{AreRiding, IsParted, IsRiding, RidesOnward, Since, StaysOpen}
use Rattle.law_recovery_steps.proofs.Directions.{clocks_ride}
use Rattle.law_recovery_steps.proofs.Urging.{clocks_urge}
use Rattle.law_recovery_steps.proofs.Steps.{calls_onward, takes_onward, ticks_onward}

-- ---- the clock of a pair, as a TPDU comes

pub forth_clock : (p : Pair) (l : List Sent) → (comes_forth p l).clock ≡ p.clock
forth_clock p [] = refl
forth_clock p (sent ∷ rest) = refl

pub back_clock : (p : Pair) (l : List Sent) → (comes_back p l).clock ≡ p.clock
back_clock p [] = refl
back_clock p (sent ∷ rest) = refl

-- ---- where one has left

left_on : (p : Pair) (happening : Happening) → IsParted p → IsParted (next p happening)
left_on p Comes_forth left = by p.forth left
  where
    by : (l : List Sent) → IsParted p → IsParted (comes_forth p l)
    by [] any = any
    by (sent ∷ rest) (inl here) = inl here
    by (sent ∷ rest) (inr there) = inr (stays_left p.clock p.called (Took sent.tpdu sent.sum) there)
left_on p Comes_back left = by p.back left
  where
    by : (l : List Sent) → IsParted p → IsParted (comes_back p l)
    by [] any = any
    by (sent ∷ rest) (inl here) = inl (stays_left p.clock p.calling (Took sent.tpdu sent.sum) here)
    by (sent ∷ rest) (inr there) = inr there
left_on p (Asks_calling call) (inl here) = inl (stays_left p.clock p.calling (Called call) here)
left_on p (Asks_calling call) (inr there) = inr there
left_on p (Asks_called call) (inl here) = inl here
left_on p (Asks_called call) (inr there) = inr (stays_left p.clock p.called (Called call) there)
left_on p (Clock calling called) (inl here) = inl (tick_left calling (p.clock + 1) p.calling here)
left_on p (Clock calling called) (inr there) = inr (tick_left called (p.clock + 1) p.called there)

pub parted_after : (old new : Pair) (happenings : List Happening) → IsParted old → Leads old happenings new → IsParted new
parted_after old new [] left l = subst IsParted (sym l) left
parted_after old new (happening ∷ happenings) left l = parted_after (next old happening) new happenings (left_on old happening left) l.1

module _ (life size u : ℕ) where
  -- the same, seen from the other end
  pub turned : (now : ℕ) (one other : Since) (first second : Party) (o q : InOpened) (forth back : List Sent) → AreRiding life size u now one other first second o q forth back
      → AreRiding life size u now other one second first q o back forth
  turned now one other first second o q forth back b = record {
    options = b.their_options;
    their_options = b.options;
    ours = b.theirs;
    theirs = b.ours;
    sum = sym b.sum;
    forth_are = b.back_are;
    back_are = b.forth_are;
    there = b.here;
    here = b.there;
    there_eds = b.here_eds;
    here_eds = b.there_eds;
  }

  -- the clock goes on
  pub clock_riding : (now : ℕ) (one other : Since) (first second : Party) (o q : InOpened) → AreRiding life size u now one other first second o q [] [] → AreRiding life size u (now + 1) one other first second o q [] []
  clock_riding now one other first second o q b = record {
    options = b.options;
    their_options = b.their_options;
    ours = b.ours;
    theirs = b.theirs;
    sum = b.sum;
    forth_are = b.forth_are;
    back_are = b.back_are;
    there = clocks_ride life size u one.road o.halves.sending q.halves.receiving now q.acked b.there;
    here = clocks_ride life size u other.road q.halves.sending o.halves.receiving now o.acked b.here;
    there_eds = clocks_urge life u one.urgent o.halves.sending q.halves.receiving now b.there_eds;
    here_eds = clocks_urge life u other.urgent q.halves.sending o.halves.receiving now b.here_eds;
  }

  -- the second end has a tick, or none
  has_tick : (ticks : Bool) (now : ℕ) (one other : Since) (first : Party) (o : InOpened) (e : End) (q : InOpened) (forth : List Sent) → e.stage ≡ Opened q
      → AreRiding life size u now one other first (party e.base) o q forth [] → RidesOnward life size u now one other first o (tick_of ticks now e) forth []
  has_tick true now one other first o e q forth is b =
      subst (λ (stage : StateData). RidesOnward life size u now one other first o (on_tick (at now e.base) stage) forth []) (sym is)
      (ticks_onward life size u now one other first o e.base q forth [] b)
  has_tick false now one other first o e q forth is b = inr (record { after = q; stage = is; both = b })

  -- where nothing waits, and the clock went on
  pub clock_by : (one other : Since) (p : Pair) (o q : InOpened) → p.calling.stage ≡ Opened o → p.called.stage ≡ Opened q → IsIdle p
      → AreRiding life size u (p.clock + 1) one other (party p.calling.base) (party p.called.base) o q [] [] → (calling called : Bool)
      → IsParted (next p (Clock calling called)) ⊎ IsRiding life size u one other (next p (Clock calling called))
  clock_by one other p o q mine theirs idle both calling called = by (has_tick calling (p.clock + 1) other one (party p.called.base) q p.calling o [] mine (turned _ _ _ _ _ _ _ _ _ both))
    where
      m : Moved
      m = tick_of calling (p.clock + 1) p.calling

      n : Moved
      n = tick_of called (p.clock + 1) p.called

      then_called : (g : StaysOpen life size u (p.clock + 1) other one (party p.called.base) q m [] []) → RidesOnward life size u (p.clock + 1) one other (party m.base) g.after n m.tpdus []
          → IsParted (clocked p m n) ⊎ IsRiding life size u one other (clocked p m n)
      then_called g (inl left) = inl (inr left)
      then_called g (inr k) = inr (record {
        o = g.after;
        q = k.after;
        calling = g.stage;
        called = k.stage;
        both = subst (λ (l : List Sent). AreRiding life size u (p.clock + 1) one other (party m.base) (party n.base) g.after k.after (l ++ m.tpdus) (p.back ++ n.tpdus)) (sym idle.forth)
            (subst (λ (l : List Sent). AreRiding life size u (p.clock + 1) one other (party m.base) (party n.base) g.after k.after m.tpdus (l ++ n.tpdus)) (sym idle.back) k.both);
      })

      by : RidesOnward life size u (p.clock + 1) other one (party p.called.base) q m [] [] → IsParted (clocked p m n) ⊎ IsRiding life size u one other (clocked p m n)
      by (inl left) = inl (inl left)
      by (inr g) = then_called g (has_tick called (p.clock + 1) one other (party m.base) g.after p.called q m.tpdus theirs (turned _ _ _ _ _ _ _ _ _ g.both))

  module _ (one other : Since) (p : Pair) (r : IsRiding life size u one other p) where
    abbrev On : Pair → Type 0
    On n = IsParted n ⊎ IsRiding life size u one other n

    forth_on : (l : List Sent) → p.forth ≡ l → On (comes_forth p l)
    forth_on [] e = inr r
    forth_on (sent ∷ rest) e =
        let m : Moved = stepped whole p.clock p.called (Took sent.tpdu sent.sum) in
        let x : RidesOnward life size u p.clock one other (party p.calling.base) r.o m rest p.back =
        subst (λ (stage : StateData). RidesOnward life size u p.clock one other (party p.calling.base) r.o (takes whole p.clock p.called.base stage sent.tpdu sent.sum) rest p.back) (sym r.called)
        (takes_onward life size u p.clock one other (party p.calling.base) r.o p.called.base r.q sent rest p.back
        (subst (λ (l : List Sent). AreRiding life size u p.clock one other (party p.calling.base) (party p.called.base) r.o r.q l p.back) e r.both)) in
        elim x [ inl left ↦ inl (inr left) | inr g ↦ inr (record { o = r.o; q = g.after; calling = r.calling; called = g.stage; both = g.both }) ]

    back_on : (l : List Sent) → p.back ≡ l → On (comes_back p l)
    back_on [] e = inr r
    back_on (sent ∷ rest) e =
        let m : Moved = stepped whole p.clock p.calling (Took sent.tpdu sent.sum) in
        let x : RidesOnward life size u p.clock other one (party p.called.base) r.q m rest p.forth =
        subst (λ (stage : StateData). RidesOnward life size u p.clock other one (party p.called.base) r.q (takes whole p.clock p.calling.base stage sent.tpdu sent.sum) rest p.forth) (sym r.calling)
        (takes_onward life size u p.clock other one (party p.called.base) r.q p.calling.base r.o sent rest p.forth
        (subst (λ (l : List Sent). AreRiding life size u p.clock other one (party p.called.base) (party p.calling.base) r.q r.o l p.forth) e (turned _ _ _ _ _ _ _ _ _ r.both))) in
        elim x [ inl left ↦ inl (inl left) | inr g ↦ inr (record { o = g.after; q = r.q; calling = g.stage; called = r.called; both = turned _ _ _ _ _ _ _ _ _ g.both }) ]

    called_on : (call : UserCall) → On (asks_called p call)
    called_on call =
        let m : Moved = stepped whole p.clock p.called (Called call) in
        let x : RidesOnward life size u p.clock one other (party p.calling.base) r.o m p.forth p.back =
        subst (λ (stage : StateData). RidesOnward life size u p.clock one other (party p.calling.base) r.o (on_call (at p.clock p.called.base) stage call) p.forth p.back) (sym r.called)
        (calls_onward life size u p.clock one other (party p.calling.base) r.o p.called.base r.q call p.forth p.back r.both) in
        elim x [ inl left ↦ inl (inr left) | inr g ↦ inr (record { o = r.o; q = g.after; calling = r.calling; called = g.stage; both = g.both }) ]

    calling_on : (call : UserCall) → On (asks_calling p call)
    calling_on call =
        let m : Moved = stepped whole p.clock p.calling (Called call) in
        let x : RidesOnward life size u p.clock other one (party p.called.base) r.q m p.back p.forth =
        subst (λ (stage : StateData). RidesOnward life size u p.clock other one (party p.called.base) r.q (on_call (at p.clock p.calling.base) stage call) p.back p.forth) (sym r.calling)
        (calls_onward life size u p.clock other one (party p.called.base) r.q p.calling.base r.o call p.back p.forth (turned _ _ _ _ _ _ _ _ _ r.both)) in
        elim x [ inl left ↦ inl (inl left) | inr g ↦ inr (record { o = g.after; q = r.q; calling = g.stage; called = r.called; both = turned _ _ _ _ _ _ _ _ _ g.both }) ]

    clock_on : IsIdle p → (calling called : Bool) → On (next p (Clock calling called))
    clock_on idle calling called = clock_by one other p r.o r.q r.calling r.called idle (clock_riding p.clock one other (party p.calling.base) (party p.called.base) r.o r.q none) calling called
      where
        none : AreRiding life size u p.clock one other (party p.calling.base) (party p.called.base) r.o r.q [] []
        none = subst (λ (l : List Sent). AreRiding life size u p.clock one other (party p.calling.base) (party p.called.base) r.o r.q l []) idle.forth
            (subst (λ (l : List Sent). AreRiding life size u p.clock one other (party p.calling.base) (party p.called.base) r.o r.q p.forth l) idle.back r.both)

  pub steps_on : (one other : Since) (p : Pair) (happening : Happening) → IsRiding life size u one other p → May p happening → IsParted (next p happening) ⊎ IsRiding life size u one other (next p happening)
  steps_on one other p Comes_forth r may = forth_on one other p r p.forth refl
  steps_on one other p Comes_back r may = back_on one other p r p.back refl
  steps_on one other p (Asks_calling call) r may = calling_on one other p r call
  steps_on one other p (Asks_called call) r may = called_on one other p r call
  steps_on one other p (Clock calling called) r may = clock_on one other p r may calling called

  pub leads_on : (one other : Since) (p : Pair) (happenings : List Happening) (last : Pair) → IsRiding life size u one other p → Leads p happenings last → IsParted last ⊎ IsRiding life size u one other last
  leads_on one other p [] last r l = inr (subst (IsRiding life size u one other) (sym l) r)
  leads_on one other p (happening ∷ happenings) last r l = elim (steps_on one other p happening r l.0) [
    | inl left ↦ inl (parted_after (next p happening) last happenings left l.1)
    | inr on ↦ leads_on one other (next p happening) happenings last on l.1
  ]
