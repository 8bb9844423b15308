-- A pair rides from a tick at which nothing waits to one at which nothing waits again, and rests there.
use Rattle.std.proofs.Common.{◌≡◌, ◌⊎◌, inl, inr, ℕ, ◌+◌, ◌<◌, ◌≤◌, max, Bool, List, [], ◌∷◌, refl, sym, ◌∙◌, ap, subst, arith, Contains, ◌++◌}
use Rattle.tp4_number.specs.Traffic.{IsFit, Rules, Tick, Traffic, after}
use Rattle.law_recovery_pair.specs.Recovering.{Move, Moves, Road, moved}
use Rattle.law_recovery_pair.proofs.Chains.{Stands, stands_on}
use Rattle.tp4_flow.specs.ReceivingHalf.{Half}
use Rattle.tp4_flow.specs.declared.rules.FlowRules.{FlowRules}
use Rattle.tp4_flow.specs.declared.step.Sent.{Sent}
use Rattle.tp4_sending.specs.SendingHalf.{FlowSender, block_in}
use Rattle.law_recovery_pair.specs.Riding.{Aside, road_of, rules_by}
use Rattle.tp4_conn.specs.declared.states.InOpened.{InOpened}
use Rattle.tp4_conn.specs.declared.states.StateData.{StateData}
use Rattle.tp4_conn.specs.Living.{IsInTime}
use Rattle.tp4_conn.specs.Table.{due}
use Rattle.law_recovery_ends.specs.Due.{AreYoung, IsUndue}
use Rattle.law_recovery_ends.specs.Resting.{AreUndue, IsNow, IsPast, WasReached}
use Rattle.law_recovery_ends.proofs.Due.{undue}
use Rattle.law_recovery_ends.proofs.Resting.{rest}
use Rattle.law_tp4_pair.specs.Pair.{Asks_called, Asks_calling, Clock, Comes_back, Comes_forth, Happening, IsIdle, Leads, May, Pair, next}
use Rattle.law_tp4_pair.specs.Standing.{IsAgreed, party}
use Rattle.law_tp4_pair.proofs.Resting.{level_rests}
use Rattle.law_recovery_steps.specs.Directions.{Rides}
use Rattle.tp4_number.specs.Expedited.{Ea_comes, Ed_comes, LeadsUrgently, Resends_ed, Sends_ed, Ticks, Urgent, UrgentEvent, quiet, urgently}
use Rattle.law_tp4_history.proofs.Outstanding.{urgently_more}
use Rattle.law_recovery_pair.specs.Urgent.{Asks, Asks_again, Ea_arrives, Ed_arrives, GoOn, Late_ea, Late_ed, Passes, UrgentMove, UrgentRoad, gone_on}
use Rattle.law_recovery_steps.specs.Asking.{urgent_road}
use Rattle.law_recovery_steps.specs.Quieting.{IsYoung}
use Rattle.law_recovery_steps.specs.Urging.{AreQuiet, Urges}
use Rattle.law_recovery_steps.proofs.Sending.{no_aks, no_dts, none_in}
use Rattle.law_recovery_steps.proofs.Quieting.{eds_rest, eds_young}
use Rattle.law_recovery_steps.specs.Resting.{AreBegun, AreLater, HaveWindow, AreLevel, IsBegun, IsLevel, since, IsAskedAt}
use Rattle.law_recovery_steps.specs.Sending.{aks_on, dts_on}
use Rattle.law_recovery_steps.specs.Steps.{AreRiding, IsParted, IsRiding, Since}
use Rattle.law_recovery_steps.proofs.Pairs.{back_clock, clock_by, forth_clock, leads_on, parted_after, steps_on}

-- ---- it begins

none_there : {X : Type 0} (l : List X) (x : X) → l ≡ [] → Contains l x → ⊥
none_there {X} l x e c =
    let there : Contains [] x = subst (λ (m : List X). Contains m x) e c in
    omega (arith, there.1)

-- a direction rides from the road that it stands on
rides_from : (life size now tick : ℕ) (s : FlowSender) (h : Half) (acked : ℕ) (b : IsBegun life size now s h acked) (old : Road) → road_of tick s.numbers h b.aside ≡ old → Rides life size (now + 1) tick old s h [] [] acked
rides_from life size now tick s h acked b old same = record {
  aside = b.aside;
  goes = record { moves = []; are = same };
  format = b.format;
  places = b.places;
  fits = b.fits;
  fed = b.fed;
  settled = b.settled;
  tried = b.tried;
  dts_are = ap (dts_on (block_in s)) (sym b.no_dts);
  aks_are = ap (aks_on (block_in s)) (sym b.no_aks);
  dts_now = λ e c. absurd (none_there b.aside.dts e b.no_dts c);
  aks_now = λ a c. absurd (none_there b.aside.aks a b.no_aks c);
  spoke = b.spoke;
}

begins : (life size now : ℕ) (s : FlowSender) (h : Half) (acked : ℕ) (b : IsBegun life size now s h acked) → Rides life size (now + 1) (now + 1) (since life now s h b.aside b.asked.urgent).road s h [] [] acked
begins life size now s h acked b =
    rides_from life size now (now + 1) s h acked b (since life now s h b.aside b.asked.urgent).road (λ i. record { traffic = (road_of (now + 1) s.numbers h b.aside).traffic; dts = b.no_dts i; aks = b.no_aks i })

-- with its EDs, whose clock is now or later
urges_from : (life size now : ℕ) (s : FlowSender) (h : Half) (acked : ℕ) (b : IsBegun life size now s h acked) (clock : ℕ → ℕ)
    → Urges life (now + 1) (clock now) (record { urgent = record b.asked.urgent { clock = clock b.asked.urgent.clock }; eds = []; eas = [] }) s h [] []
urges_from life size now s h acked b clock =
    let a : IsAskedAt life now s h = b.asked in
    record {
      aside = record { sends = a.urgent.sends; answers = a.urgent.answers; eds = []; eas = [] };
      base = a.urgent.base;
      goes = record {
        moves = [];
        are = λ i. record {
          urgent = record { clock = clock (sym a.clock i); base = a.urgent.base; next = sym a.next i; blocks = sym a.blocks i; sends = a.urgent.sends; expected = sym a.expected i; answers = a.urgent.answers };
          eds = [];
          eas = [];
        };
      };
      base_is = a.base_is;
      unit = a.unit;
      format = b.format;
      eds_are = refl;
      eas_are = refl;
      eds_now = λ e c. absurd (none_in e c);
      eas_now = λ e c. absurd (none_in e c);
      tried = a.tried;
    }

-- so do both directions
module _ (life size : ℕ) (p : Pair) (o q : InOpened) (b : AreBegun life size p o q) where
  abbrev pub one_since : Since
  one_since = since life p.clock o.halves.sending q.halves.receiving b.there.aside b.there.asked.urgent

  abbrev pub other_since : Since
  other_since = since life p.clock q.halves.sending o.halves.receiving b.here.aside b.here.asked.urgent

  -- both ride from those roads
  riding_from : (tick : ℕ) (one other : Since) → Rides life size (p.clock + 1) tick one.road o.halves.sending q.halves.receiving [] [] q.acked
      → Rides life size (p.clock + 1) tick other.road q.halves.sending o.halves.receiving [] [] o.acked
      → Urges life (p.clock + 1) tick one.urgent o.halves.sending q.halves.receiving [] [] → Urges life (p.clock + 1) tick other.urgent q.halves.sending o.halves.receiving [] []
      → AreRiding life size (p.clock + 1) tick (record one { rules = o.halves.sending.rules }) (record other { rules = q.halves.sending.rules }) (party p.calling.base) (party p.called.base) o q [] []
  riding_from tick one other there here there_eds here_eds = record {
    options = b.options;
    their_options = b.their_options;
    ours = b.ours;
    theirs = b.theirs;
    sum = b.sum;
    forth_are = tt;
    back_are = tt;
    there = there;
    here = here;
    there_eds = there_eds;
    here_eds = here_eds;
  }

  pub begins_riding : AreRiding life size (p.clock + 1) (p.clock + 1) one_since other_since (party p.calling.base) (party p.called.base) o q [] []
  begins_riding = riding_from (p.clock + 1) one_since other_since (begins life size p.clock o.halves.sending q.halves.receiving q.acked b.there) (begins life size p.clock q.halves.sending o.halves.receiving o.acked b.here)
      (urges_from life size p.clock o.halves.sending q.halves.receiving q.acked b.there (λ n. n + 1)) (urges_from life size p.clock q.halves.sending o.halves.receiving o.acked b.here (λ n. n + 1))

-- ---- it rests

pub past_for : (life size : ℕ) (s t : FlowSender) (w : Traffic) → t.rules ≡ s.rules → IsPast life size s w → IsPast life size t w
past_for life size s t w e p = record { reached = subst (λ (f : FlowRules). WasReached (rules_by life f) w) (sym e) p.reached; fits = p.fits }

level_in : (life size t1 window now acked : ℕ) (w : Traffic) (s : FlowSender) (h : Half) → IsPast life size s w
    → Rides life size (w.clock + 1) now (record { traffic = after (rules_by life s.rules) w Tick; dts = []; aks = [] }) s h [] [] acked
    → AreYoung t1 now s.window → now < acked + window → w.clock + max t1 window ≤ now → AreQuiet s h → IsLevel s h
level_in life size t1 window now acked w s h past r young spoke late quiet =
    let here : IsNow life size w now s h r.aside = record { goes = r.goes; no_dts = no_dts (block_in s) r.aside.dts r.dts_are; no_aks = no_aks (block_in s) r.aside.aks r.aks_are; window = r.fed.window } in
    let later : AreUndue t1 window (w.clock + 1) now s r.aside = record { tried = r.tried; young = young; acked = acked; spoke = r.spoke; since = spoke } in
    let l = rest life size t1 window now w s h r.aside past here later late in
    let next : s.numbers.next ≡ h.receiver.expected = l.0 ∙ l.1 in
    record {
      base = l.1;
      next = next;
      credit = l.2;
      subsequence = l.3;
      quiet = quiet;
      rest = level_rests s h r.fed.is_open r.settled l.1 next l.2 quiet.out quiet.next;
    }

-- its EDs are quiet
pub quiet_in : (life size t1 p_clock now : ℕ) (s t : FlowSender) (h k : Half) (acked : ℕ) (b : IsBegun life size p_clock s h acked) → t.rules ≡ s.rules → Urges life (p_clock + 1) now (since life p_clock s h b.aside b.asked.urgent).urgent t k [] []
    → IsYoung t1 now t.urgent.out → p_clock + t1 ≤ now → AreQuiet t k
quiet_in life size t1 p_clock now s t h k acked b same r young late =
    let a : IsAskedAt life p_clock s h = b.asked in
    eds_rest life a.tick t1 now a.events a.urgent t k (subst (λ (f : FlowRules). IsFit (rules_by life f)) (sym same) b.past.fit)
    (subst (λ (f : FlowRules). LeadsUrgently (rules_by life f) (quiet a.tick) a.events a.urgent) (sym same) a.leads)
    (subst (λ (n : ℕ). Urges life (n + 1) now (record { urgent = urgently (rules_by life t.rules) a.urgent Ticks; eds = []; eas = [] }) t k [] []) (sym a.clock) r) young (omega (arith, a.clock, late))

-- long enough after it, a pair that rode since then is level
pub rides_level : (life size t1 window : ℕ) (p : Pair) (o q : InOpened) (last : Pair) (b : AreBegun life size p o q) → o.halves.sending.rules.t1 ≡ t1 → q.halves.sending.rules.t1 ≡ t1 → HaveWindow window last
    → IsIdle last → AreLater last → p.clock + max t1 window ≤ last.clock → IsRiding life size (p.clock + 1) (one_since life size p o q b) (other_since life size p o q b) last → AreLevel last
rides_level life size t1 window p o q last b one_t1 other_t1 windows idle later late r =
    let one : Since = one_since life size p o q b in
    let other : Since = other_since life size p o q b in
    let both : AreRiding life size (p.clock + 1) last.clock one other (party last.calling.base) (party last.called.base) r.o r.q [] [] =
    subst (λ (l : List Sent). AreRiding life size (p.clock + 1) last.clock one other (party last.calling.base) (party last.called.base) r.o r.q l []) idle.forth
    (subst (λ (l : List Sent). AreRiding life size (p.clock + 1) last.clock one other (party last.calling.base) (party last.called.base) r.o r.q last.forth l) idle.back r.both) in
    let mine : IsUndue last.clock last.calling.base r.o =
    undue last.clock last.calling.base r.o both.there.fed.is_open (subst (λ (stage : StateData). IsInTime (due last.calling.base stage) (last.clock + 1)) r.calling later.0) in
    let theirs : IsUndue last.clock last.called.base r.q =
    undue last.clock last.called.base r.q both.here.fed.is_open (subst (λ (stage : StateData). IsInTime (due last.called.base stage) (last.clock + 1)) r.called later.1) in
    let mine_t1 : r.o.halves.sending.rules.t1 ≡ t1 = ap (λ (f : FlowRules). f.t1) both.ours.sending ∙ one_t1 in
    let theirs_t1 : r.q.halves.sending.rules.t1 ≡ t1 = ap (λ (f : FlowRules). f.t1) both.theirs.sending ∙ other_t1 in
    let mine_young : IsYoung t1 last.clock r.o.halves.sending.urgent.out =
    subst (λ (t : ℕ). IsYoung t last.clock r.o.halves.sending.urgent.out) mine_t1
    (eds_young last.clock last.calling.base r.o both.there.fed.is_open (subst (λ (stage : StateData). IsInTime (due last.calling.base stage) (last.clock + 1)) r.calling later.0)) in
    let their_young : IsYoung t1 last.clock r.q.halves.sending.urgent.out =
    subst (λ (t : ℕ). IsYoung t last.clock r.q.halves.sending.urgent.out) theirs_t1
    (eds_young last.clock last.called.base r.q both.here.fed.is_open (subst (λ (stage : StateData). IsInTime (due last.called.base stage) (last.clock + 1)) r.called later.1)) in
    record {
      o = r.o;
      q = r.q;
      calling = r.calling;
      called = r.called;
      there = level_in life size t1 window last.clock r.q.acked (road_of p.clock o.halves.sending.numbers q.halves.receiving b.there.aside).traffic r.o.halves.sending r.q.halves.receiving
          (past_for life size o.halves.sending r.o.halves.sending (road_of p.clock o.halves.sending.numbers q.halves.receiving b.there.aside).traffic both.ours.sending b.there.past) both.there
          (subst (λ (t : ℕ). AreYoung t last.clock r.o.halves.sending.window) mine_t1 mine.young) (omega (arith, theirs.spoke, (windows r.o r.q r.calling r.called).1)) late
          (quiet_in life size t1 p.clock last.clock o.halves.sending r.o.halves.sending q.halves.receiving r.q.halves.receiving q.acked b.there both.ours.sending both.there_eds mine_young (omega (arith, late)));
      here = level_in life size t1 window last.clock r.o.acked (road_of p.clock q.halves.sending.numbers o.halves.receiving b.here.aside).traffic r.q.halves.sending r.o.halves.receiving
          (past_for life size q.halves.sending r.q.halves.sending (road_of p.clock q.halves.sending.numbers o.halves.receiving b.here.aside).traffic both.theirs.sending b.here.past) both.here
          (subst (λ (t : ℕ). AreYoung t last.clock r.q.halves.sending.window) theirs_t1 theirs.young) (omega (arith, mine.spoke, (windows r.o r.q r.calling r.called).0)) late
          (quiet_in life size t1 p.clock last.clock q.halves.sending r.q.halves.sending o.halves.receiving r.o.halves.receiving o.acked b.here both.theirs.sending both.here_eds their_young (omega (arith, late)));
    }

-- from the next tick on
ticks_rest : (life size t1 window : ℕ) (p : Pair) (o q : InOpened) (calling called : Bool) (happenings : List Happening) (last : Pair) → AreBegun life size p o q
    → o.halves.sending.rules.t1 ≡ t1 → q.halves.sending.rules.t1 ≡ t1 → HaveWindow window last
    → Leads p (Clock calling called ∷ happenings) last → IsIdle last → AreLater last → p.clock + max t1 window ≤ last.clock
    → IsParted last ⊎ AreLevel last
ticks_rest life size t1 window p o q calling called happenings last b one_t1 other_t1 windows leads idle later late =
    let one : Since = one_since life size p o q b in
    let other : Since = other_since life size p o q b in
    elim (clock_by life size (p.clock + 1) one other p o q b.calling b.called b.idle (begins_riding life size p o q b) calling called) [
      | inl left ↦ inl (parted_after (next p (Clock calling called)) last happenings left leads.1)
      | inr on ↦ elim (leads_on life size (p.clock + 1) one other (next p (Clock calling called)) happenings last on leads.1) [
        | inl left ↦ inl left
        | inr r ↦ inr (rides_level life size t1 window p o q last b one_t1 other_t1 windows idle later late r)
      ]
    ]

-- ---- before the next tick

-- a direction from now on
abbrev from_now : ℕ → FlowSender → Half → Aside → Urgent → Since
from_now now s h x v = record { road = road_of now s.numbers h x; urgent = record { urgent = v; eds = []; eas = [] }; rules = s.rules }

-- what happens on the road are events of its EDs and EAs
urgent_after : (rules : Rules) (tick u : ℕ) (old new : UrgentRoad) (moves : List UrgentMove) → GoOn rules u old moves new → (events : List UrgentEvent) → LeadsUrgently rules (quiet tick) events old.urgent
    → (more : List UrgentEvent) × LeadsUrgently rules (quiet tick) more new.urgent
urgent_after rules tick u old new [] go events leads = (events, subst (λ (r : UrgentRoad). LeadsUrgently rules (quiet tick) events r.urgent) (sym go) leads)
urgent_after rules tick u old new (Passes ∷ moves) go events leads =
    urgent_after rules tick u (gone_on rules old Passes) new moves go.1 (events ++ Ticks ∷ []) (urgently_more rules events (quiet tick) old.urgent Ticks leads tt)
urgent_after rules tick u old new (Asks ∷ moves) go events leads =
    urgent_after rules tick u (gone_on rules old Asks) new moves go.1 (events ++ Sends_ed ∷ []) (urgently_more rules events (quiet tick) old.urgent Sends_ed leads go.0)
urgent_after rules tick u old new (Asks_again ∷ moves) go events leads =
    urgent_after rules tick u (gone_on rules old Asks_again) new moves go.1 (events ++ Resends_ed ∷ []) (urgently_more rules events (quiet tick) old.urgent Resends_ed leads go.0)
urgent_after rules tick u old new (Ed_arrives n t rest ∷ moves) go events leads =
    urgent_after rules tick u (gone_on rules old (Ed_arrives n t rest)) new moves go.1 (events ++ Ed_comes n t ∷ []) (urgently_more rules events (quiet tick) old.urgent (Ed_comes n t) leads go.0.1)
urgent_after rules tick u old new (Ea_arrives n t rest ∷ moves) go events leads =
    urgent_after rules tick u (gone_on rules old (Ea_arrives n t rest)) new moves go.1 (events ++ Ea_comes n t ∷ []) (urgently_more rules events (quiet tick) old.urgent (Ea_comes n t) leads go.0.1)
urgent_after rules tick u old new (Late_ed n t ∷ moves) go events leads =
    urgent_after rules tick u (gone_on rules old (Late_ed n t)) new moves go.1 (events ++ Ed_comes n t ∷ []) (urgently_more rules events (quiet tick) old.urgent (Ed_comes n t) leads go.0.1)
urgent_after rules tick u old new (Late_ea n t ∷ moves) go events leads =
    urgent_after rules tick u (gone_on rules old (Late_ea n t)) new moves go.1 (events ++ Ea_comes n t ∷ []) (urgently_more rules events (quiet tick) old.urgent (Ea_comes n t) leads go.0.1)

again_eds : (life now : ℕ) (s t : FlowSender) (h k : Half) (a : IsAskedAt life now s h) → t.rules ≡ s.rules → Urges life (now + 1) now (record { urgent = a.urgent; eds = []; eas = [] }) t k [] [] → IsAskedAt life now t k
again_eds life now s t h k a same r =
    let more = urgent_after (rules_by life t.rules) a.tick (now + 1) (record { urgent = a.urgent; eds = []; eas = [] }) (urgent_road now r.base t.urgent k.receiver.urgent r.aside) r.goes.moves r.goes.are a.events
    (subst (λ (f : FlowRules). LeadsUrgently (rules_by life f) (quiet a.tick) a.events a.urgent) (sym same) a.leads) in
    record {
      tick = a.tick;
      events = more.0;
      urgent = (urgent_road now r.base t.urgent k.receiver.urgent r.aside).urgent;
      leads = more.1;
      clock = refl;
      next = refl;
      blocks = refl;
      expected = refl;
      base_is = r.base_is;
      unit = r.unit;
      tried = r.tried;
    }

stands_after : (rules : Rules) (fit : IsFit rules) (size u : ℕ) (old new : Road) (moves : List Move) → Stands rules old.traffic → Moves rules size u old moves new → Stands rules new.traffic
stands_after rules fit size u old new [] st h = subst (λ (r : Road). Stands rules r.traffic) (sym h) st
stands_after rules fit size u old new (move ∷ moves) st h = stands_after rules fit size u (moved rules old move) new moves (stands_on rules fit size u old move st h.0) h.1

-- where nothing waits it is known again
again : (life size now acked : ℕ) (s t : FlowSender) (h k : Half) (x : Aside) → IsPast life size s (road_of now s.numbers h x).traffic → t.rules ≡ s.rules
    → Rides life size (now + 1) now (road_of now s.numbers h x) t k [] [] acked → IsAskedAt life now t k → IsBegun life size now t k acked
again life size now acked s t h k x before e r asked =
    let p : IsPast life size t (road_of now s.numbers h x).traffic = past_for life size s t (road_of now s.numbers h x).traffic e before in
    let st : Stands (rules_by life t.rules) (road_of now t.numbers k r.aside).traffic =
    stands_after (rules_by life t.rules) p.fit size (now + 1) (road_of now s.numbers h x) (road_of now t.numbers k r.aside) r.goes.moves (record {
      reached = record { tick = p.tick; credit = p.credit; size = p.places; room = p.room; events = p.events; credit_low = p.credit_low; room_low = p.room_low; leads = p.leads };
      views = p.views;
    }) r.goes.are in
    record {
      aside = r.aside;
      no_dts = no_dts (block_in t) r.aside.dts r.dts_are;
      no_aks = no_aks (block_in t) r.aside.aks r.aks_are;
      past = record {
        reached = record {
          fit = p.fit;
          tick = st.reached.tick;
          credit = st.reached.credit;
          places = st.reached.size;
          room = st.reached.room;
          credit_low = st.reached.credit_low;
          room_low = st.reached.room_low;
          events = st.reached.events;
          leads = st.reached.leads;
          views = st.views;
        };
        fits = record { places = r.fits.places ∙ sym r.places; room = omega (arith, r.fits.room, r.places); free = r.fits.free };
      };
      format = r.format;
      places = r.places;
      fits = r.fits;
      fed = r.fed;
      settled = r.settled;
      tried = r.tried;
      spoke = r.spoke;
      asked = asked;
    }

module _ (life size : ℕ) (p : Pair) (o q : InOpened) (b : AreBegun life size p o q) where
  abbrev pub one : Since
  one = from_now p.clock o.halves.sending q.halves.receiving b.there.aside b.there.asked.urgent

  abbrev pub other : Since
  other = from_now p.clock q.halves.sending o.halves.receiving b.here.aside b.here.asked.urgent

  abbrev pub Holds : Pair → Type 0
  Holds mid = IsRiding life size (p.clock + 1) one other mid

  pub first : Holds p
  first = record {
    o = o;
    q = q;
    calling = b.calling;
    called = b.called;
    both = subst (λ (l : List Sent). AreRiding life size (p.clock + 1) p.clock one other (party p.calling.base) (party p.called.base) o q l p.back) (sym b.idle.forth)
        (subst (λ (l : List Sent). AreRiding life size (p.clock + 1) p.clock one other (party p.calling.base) (party p.called.base) o q [] l) (sym b.idle.back)
        (riding_from life size p o q b p.clock one other (rides_from life size p.clock p.clock o.halves.sending q.halves.receiving q.acked b.there one.road refl)
        (rides_from life size p.clock p.clock q.halves.sending o.halves.receiving o.acked b.here other.road refl) (urges_from life size p.clock o.halves.sending q.halves.receiving q.acked b.there (λ n. n))
        (urges_from life size p.clock q.halves.sending o.halves.receiving o.acked b.here (λ n. n))));
  }

  -- where nothing waits all is known again
  pub begins_again : (mid : Pair) (r : Holds mid) → mid.clock ≡ p.clock → IsIdle mid → AreBegun life size mid r.o r.q
  begins_again mid r now idle =
      record {
        idle = idle;
        calling = r.calling;
        called = r.called;
        options = both.options;
        their_options = both.their_options;
        sum = ap (λ (f : FlowRules). f.sum) both.ours.sending ∙ both.sum ∙ sym (ap (λ (f : FlowRules). f.sum) both.theirs.sending);
        ours = subst (λ (f : FlowRules). IsAgreed both.options f (party mid.calling.base) r.o.halves) (sym both.ours.sending) both.ours;
        theirs = subst (λ (f : FlowRules). IsAgreed both.their_options f (party mid.called.base) r.q.halves) (sym both.theirs.sending) both.theirs;
        there = subst (λ (n : ℕ). IsBegun life size n r.o.halves.sending r.q.halves.receiving r.q.acked) (sym now)
            (again life size p.clock r.q.acked o.halves.sending r.o.halves.sending q.halves.receiving r.q.halves.receiving b.there.aside b.there.past both.ours.sending both.there
            (again_eds life p.clock o.halves.sending r.o.halves.sending q.halves.receiving r.q.halves.receiving b.there.asked both.ours.sending both.there_eds));
        here = subst (λ (n : ℕ). IsBegun life size n r.q.halves.sending r.o.halves.receiving r.o.acked) (sym now)
            (again life size p.clock r.o.acked q.halves.sending r.q.halves.sending o.halves.receiving r.o.halves.receiving b.here.aside b.here.past both.theirs.sending both.here
            (again_eds life p.clock q.halves.sending r.q.halves.sending o.halves.receiving r.o.halves.receiving b.here.asked both.theirs.sending both.here_eds));
      }
    where
      both : AreRiding life size (p.clock + 1) p.clock one other (party mid.calling.base) (party mid.called.base) r.o r.q [] []
      both = subst (λ (n : ℕ). AreRiding life size (p.clock + 1) n one other (party mid.calling.base) (party mid.called.base) r.o r.q [] []) now
          (subst (λ (l : List Sent). AreRiding life size (p.clock + 1) mid.clock one other (party mid.calling.base) (party mid.called.base) r.o r.q l []) idle.forth
          (subst (λ (l : List Sent). AreRiding life size (p.clock + 1) mid.clock one other (party mid.calling.base) (party mid.called.base) r.o r.q mid.forth l) idle.back r.both))

  pub same_rules : (mid : Pair) (r : Holds mid) → (r.o.halves.sending.rules ≡ o.halves.sending.rules) × (r.q.halves.sending.rules ≡ q.halves.sending.rules)
  same_rules mid r = (r.both.ours.sending, r.both.theirs.sending)

module _ (life size t1 window : ℕ) (p : Pair) (o q : InOpened) (b : AreBegun life size p o q) (one_t1 : o.halves.sending.rules.t1 ≡ t1) (other_t1 : q.halves.sending.rules.t1 ≡ t1) (some : 0 < t1)
    (last : Pair) (windows : HaveWindow window last) (idle : IsIdle last) (later : AreLater last)
    (late : p.clock + max t1 window ≤ last.clock) where
  abbrev Holding : Pair → Type 0
  Holding mid = Holds life size p o q b mid

  -- at the first tick all is known again
  tick_rests : (mid : Pair) (calling called : Bool) (happenings : List Happening) → Holding mid → mid.clock ≡ p.clock → Leads mid (Clock calling called ∷ happenings) last → IsParted last ⊎ AreLevel last
  tick_rests mid calling called happenings r now leads =
      let same = same_rules life size p o q b mid r in
      ticks_rest life size t1 window mid r.o r.q calling called happenings last (begins_again life size p o q b mid r now leads.0)
      (ap (λ (f : FlowRules). f.t1) same.0 ∙ one_t1) (ap (λ (f : FlowRules). f.t1) same.1 ∙ other_t1) windows leads idle later
      (subst (λ (n : ℕ). n + max t1 window ≤ last.clock) (sym now) late)

  goes_on : (happening : Happening) (happenings : List Happening) (mid : Pair) → Holding mid → May mid happening → Leads (next mid happening) happenings last
      → (Holding (next mid happening) → IsParted last ⊎ AreLevel last) → IsParted last ⊎ AreLevel last
  goes_on happening happenings mid r may leads more = elim (steps_on life size (p.clock + 1) (one life size p o q b) (other life size p o q b) mid happening r may) [
    | inl left ↦ inl (parted_after (next mid happening) last happenings left leads)
    | inr on ↦ more on
  ]

  walk : (happenings : List Happening) (mid : Pair) → Holding mid → mid.clock ≡ p.clock → Leads mid happenings last → IsParted last ⊎ AreLevel last
  walk [] mid r now leads = absurd (omega (arith, late, some, ap (λ (n : Pair). n.clock) leads, now))
  walk (Comes_forth ∷ happenings) mid r now leads = goes_on Comes_forth happenings mid r leads.0 leads.1 (λ on. walk happenings (next mid Comes_forth) on (forth_clock mid mid.forth ∙ now) leads.1)
  walk (Comes_back ∷ happenings) mid r now leads = goes_on Comes_back happenings mid r leads.0 leads.1 (λ on. walk happenings (next mid Comes_back) on (back_clock mid mid.back ∙ now) leads.1)
  walk (Asks_calling call ∷ happenings) mid r now leads = goes_on (Asks_calling call) happenings mid r leads.0 leads.1 (λ on. walk happenings (next mid (Asks_calling call)) on now leads.1)
  walk (Asks_called call ∷ happenings) mid r now leads = goes_on (Asks_called call) happenings mid r leads.0 leads.1 (λ on. walk happenings (next mid (Asks_called call)) on now leads.1)
  walk (Clock calling called ∷ happenings) mid r now leads = tick_rests mid calling called happenings r now leads

pub pairs_rest : (life size t1 window : ℕ) (p : Pair) (o q : InOpened) (happenings : List Happening) (last : Pair) → AreBegun life size p o q
    → o.halves.sending.rules.t1 ≡ t1 → q.halves.sending.rules.t1 ≡ t1 → HaveWindow window last → 0 < t1
    → Leads p happenings last → IsIdle last → AreLater last → p.clock + max t1 window ≤ last.clock
    → IsParted last ⊎ AreLevel last
pairs_rest life size t1 window p o q happenings last b one_t1 other_t1 windows some leads idle later late =
    walk life size t1 window p o q b one_t1 other_t1 some last windows idle later late happenings p (first life size p o q b) refl leads
