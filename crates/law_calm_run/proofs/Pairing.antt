-- The pair of two ends of an association goes on as they do: what waits first is taken, a user calls, the clock ticks; and its units and what it told are
-- those of the journal.
use Rattle.std.proofs.Common.{◌≡◌, ◌≢◌, ℕ, ◌+◌, Bool, true, false, List, [], ◌∷◌, ◌++◌, Some, Contains, refl, sym, ◌∙◌, ap, subst, inl, inr, append-nil, arith}
use Rattle.std.specs.Prelude.{None}
use Rattle.std.proofs.lemmas.List.Elements.{Contains-append_left, Contains-append_right, Contains-append_cases}
use Rattle.script_journal.specs.Lawful.{Marked, shown, submitted}
use Rattle.script_journal.specs.declared.event.Event.{Event as JournalEvent}
use Rattle.script_journal.proofs.Showing.{shown_both, submitted_both}
use Rattle.tp4_number.specs.Number.{whole}
use Rattle.tpdu.specs.declared.service.Options.{Options}
use Rattle.tp4_flow.specs.declared.step.EndEvent.{EndEvent}
use Rattle.tp4_flow.specs.declared.step.Sent.{Sent}
use Rattle.tp4_conn.specs.Calls.{call_refusal}
use Rattle.tp4_conn.specs.End.{End, Moved, end_of}
use Rattle.tp4_conn.specs.Table.{Called, Ticked, Took, stepped}
use Rattle.tp4_conn.specs.declared.call.UserCall.{UserCall}
use Rattle.tp4_conn.specs.declared.call.UserCall.TheVariants.{Accept}
use Rattle.tp4_entity.specs.Step.{is_due}
use Rattle.law_tp4_history.specs.Lines.{given, shown_in}
use Rattle.law_tp4_pair.specs.Pairs.{IsToldIn}
use Rattle.law_tp4_pair.specs.Pair.{Accepts, Asks_called, Asks_calling, Clock, Comes_back, Comes_forth, Happening, Leads, May, Pair, next, tick_of}
use Rattle.law_calm_run.proofs.Story.{HasNoUnits, HasRun, HasTicked, IsClocking, IsRunning, pair_of}
use Rattle.law_calm_run.proofs.Telling.{ActsIn}

-- ---- runs

leads_more : (old mid : Pair) (happenings : List Happening) (happening : Happening) → Leads old happenings mid → May mid happening → Leads old (happenings ++ happening ∷ []) (next mid happening)
leads_more old mid [] happening l may = (subst (λ (p : Pair). May p happening) l may, ap (λ (p : Pair). next p happening) l)
leads_more old mid (first ∷ happenings) happening l may = (l.0, leads_more (next old first) mid happenings happening l.1 may)

pub run_more : (p : Pair) (happening : Happening) → HasRun p → May p happening → HasRun (next p happening)
run_more p happening r may = record {
  first = r.first;
  asked = r.asked;
  octets = r.octets;
  happenings = r.happenings ++ happening ∷ [];
  accepts = r.accepts;
  leads = leads_more (next r.first (Asks_called (Accept r.asked r.octets))) p r.happenings happening r.leads may;
}

-- ---- journals

told_more : (journal made : List JournalEvent) (n : ℕ) (told : List EndEvent) → IsToldIn journal n told → IsToldIn (journal ++ made) n told
told_more journal made n told t = record {
  urgent = λ reference m there. Contains-append_left journal made _ (t.urgent reference m there);
  normal = λ reference m there. Contains-append_left journal made _ (t.normal reference m there);
}

told_both : (journal made : List JournalEvent) (n : ℕ) (told new : List EndEvent) → IsToldIn journal n told → IsToldIn made n new → IsToldIn (journal ++ made) n (told ++ new)
told_both journal made n told new t u = record {
  urgent = λ reference m there. elim (Contains-append_cases told new _ there) [
    | inl before ↦ Contains-append_left journal made _ (t.urgent reference m before)
    | inr here ↦ Contains-append_right journal made _ (u.urgent reference m here)
  ];
  normal = λ reference m there. elim (Contains-append_cases told new _ there) [
    | inl before ↦ Contains-append_left journal made _ (t.normal reference m before)
    | inr here ↦ Contains-append_right journal made _ (u.normal reference m here)
  ];
}

gave_more : (journal made : List JournalEvent) (n : ℕ) (us : List Marked) → submitted n made ≡ us → submitted n (journal ++ made) ≡ submitted n journal ++ us
gave_more journal made n us is = submitted_both n journal made ∙ ap (λ (vs : List Marked). submitted n journal ++ vs) is

showed_more : (journal made : List JournalEvent) (n : ℕ) (us : List Marked) → shown n made ≡ us → shown n (journal ++ made) ≡ shown n journal ++ us
showed_more journal made n us is = shown_both n journal made ∙ ap (λ (vs : List Marked). shown n journal ++ vs) is

pub gave_none : (journal made : List JournalEvent) (n : ℕ) → submitted n made ≡ [] → submitted n (journal ++ made) ≡ submitted n journal
gave_none journal made n is = gave_more journal made n [] is ∙ append-nil (submitted n journal)

pub showed_none : (journal made : List JournalEvent) (n : ℕ) → shown n made ≡ [] → shown n (journal ++ made) ≡ shown n journal
showed_none journal made n is = showed_more journal made n [] is ∙ append-nil (shown n journal)

-- a pair with these units
abbrev with_units : Pair → (gave theirs showed shows : List Marked) → Pair
with_units p gave theirs showed shows = record p { calling_gave = gave; called_gave = theirs; calling_showed = showed; called_showed = shows }

units_same : (p : Pair) (gave theirs showed shows : List Marked) → gave ≡ p.calling_gave → theirs ≡ p.called_gave → showed ≡ p.calling_showed → shows ≡ p.called_showed → p ≡ with_units p gave theirs showed shows
units_same p gave theirs showed shows a b c d = λ i. record p { calling_gave = sym a i; called_gave = sym b i; calling_showed = sym c i; called_showed = sym d i }

-- ---- between ticks

module _ (journal made : List JournalEvent) (now c d : ℕ) (x y : End) where
  -- what is told is of neither end
  pub running_stays : (forth back : List Sent) → IsRunning journal now c d x y forth back → HasNoUnits made c → HasNoUnits made d → IsRunning (journal ++ made) now c d x y forth back
  running_stays forth back r one other = record {
    told = r.told;
    theirs = r.theirs;
    run = subst HasRun
        (units_same (pair_of journal now c d x y forth back r.told r.theirs) (submitted c (journal ++ made)) (submitted d (journal ++ made)) (shown c (journal ++ made)) (shown d (journal ++ made))
        (gave_none journal made c one.gave) (gave_none journal made d other.gave) (showed_none journal made c one.showed) (showed_none journal made d other.showed)) r.run;
    told_in = told_more journal made c r.told r.told_in;
    theirs_in = told_more journal made d r.theirs r.theirs_in;
  }

  -- the called end takes what waits first
  pub running_forth : (sent : Sent) (rest back : List Sent) → c ≢ d → IsRunning journal now c d x y (sent ∷ rest) back
      → let m = stepped whole now y (Took sent.tpdu sent.sum) in ActsIn d made [] (shown_in m.events) m.events → IsRunning (journal ++ made) now c d x (end_of m) rest (back ++ m.tpdus)
  running_forth sent rest back apart r a =
      let m : Moved = stepped whole now y (Took sent.tpdu sent.sum) in
      let p : Pair = pair_of journal now c d x y (sent ∷ rest) back r.told r.theirs in
      record {
        told = r.told;
        theirs = r.theirs ++ m.events;
        run = subst HasRun
            (units_same (next p Comes_forth) (submitted c (journal ++ made)) (submitted d (journal ++ made)) (shown c (journal ++ made)) (shown d (journal ++ made))
            (gave_none journal made c (a.other_gave c apart)) (gave_none journal made d a.own_gave) (showed_none journal made c (a.other_showed c apart)) (showed_more journal made d (shown_in m.events) a.own_showed))
            (run_more p Comes_forth r.run tt);
        told_in = told_more journal made c r.told r.told_in;
        theirs_in = told_both journal made d r.theirs m.events r.theirs_in a.told_in;
      }

  -- so does the calling end
  pub running_back : (sent : Sent) (rest forth : List Sent) → d ≢ c → IsRunning journal now c d x y forth (sent ∷ rest)
      → let m = stepped whole now x (Took sent.tpdu sent.sum) in ActsIn c made [] (shown_in m.events) m.events → IsRunning (journal ++ made) now c d (end_of m) y (forth ++ m.tpdus) rest
  running_back sent rest forth apart r a =
      let m : Moved = stepped whole now x (Took sent.tpdu sent.sum) in
      let p : Pair = pair_of journal now c d x y forth (sent ∷ rest) r.told r.theirs in
      record {
        told = r.told ++ m.events;
        theirs = r.theirs;
        run = subst HasRun
            (units_same (next p Comes_back) (submitted c (journal ++ made)) (submitted d (journal ++ made)) (shown c (journal ++ made)) (shown d (journal ++ made))
            (gave_none journal made c a.own_gave) (gave_none journal made d (a.other_gave d apart)) (showed_more journal made c (shown_in m.events) a.own_showed) (showed_none journal made d (a.other_showed d apart)))
            (run_more p Comes_back r.run tt);
        told_in = told_both journal made c r.told m.events r.told_in a.told_in;
        theirs_in = told_more journal made d r.theirs r.theirs_in;
      }

  -- the user of the calling end calls, where nothing waits
  pub running_calling : (call : UserCall) → d ≢ c → IsRunning journal now c d x y [] [] → call_refusal x.base x.stage call ≡ None
      → let m = stepped whole now x (Called call) in ActsIn c made (given (Called call)) (shown_in m.events) m.events → IsRunning (journal ++ made) now c d (end_of m) y m.tpdus []
  running_calling call apart r may a =
      let m : Moved = stepped whole now x (Called call) in
      let p : Pair = pair_of journal now c d x y [] [] r.told r.theirs in
      record {
        told = r.told ++ m.events;
        theirs = r.theirs;
        run = subst HasRun
            (units_same (next p (Asks_calling call)) (submitted c (journal ++ made)) (submitted d (journal ++ made)) (shown c (journal ++ made)) (shown d (journal ++ made))
            (gave_more journal made c (given (Called call)) a.own_gave) (gave_none journal made d (a.other_gave d apart)) (showed_more journal made c (shown_in m.events) a.own_showed)
            (showed_none journal made d (a.other_showed d apart)))
            (run_more p (Asks_calling call) r.run (record { forth = refl; back = refl }, may));
        told_in = told_both journal made c r.told m.events r.told_in a.told_in;
        theirs_in = told_more journal made d r.theirs r.theirs_in;
      }

  pub running_called : (call : UserCall) → c ≢ d → IsRunning journal now c d x y [] [] → call_refusal y.base y.stage call ≡ None
      → let m = stepped whole now y (Called call) in ActsIn d made (given (Called call)) (shown_in m.events) m.events → IsRunning (journal ++ made) now c d x (end_of m) [] m.tpdus
  running_called call apart r may a =
      let m : Moved = stepped whole now y (Called call) in
      let p : Pair = pair_of journal now c d x y [] [] r.told r.theirs in
      record {
        told = r.told;
        theirs = r.theirs ++ m.events;
        run = subst HasRun
            (units_same (next p (Asks_called call)) (submitted c (journal ++ made)) (submitted d (journal ++ made)) (shown c (journal ++ made)) (shown d (journal ++ made))
            (gave_none journal made c (a.other_gave c apart)) (gave_more journal made d (given (Called call)) a.own_gave) (showed_none journal made c (a.other_showed c apart))
            (showed_more journal made d (shown_in m.events) a.own_showed))
            (run_more p (Asks_called call) r.run (record { forth = refl; back = refl }, may));
        told_in = told_more journal made c r.told r.told_in;
        theirs_in = told_both journal made d r.theirs m.events r.theirs_in a.told_in;
      }

  -- the user of the called end accepts: so the pair begins
  pub running_begins : (asked : Options) (octets : List ℕ) → c ≢ d → HasNoUnits journal c → HasNoUnits journal d
      → Accepts (record { clock = now; calling = x; called = y; forth = []; back = []; calling_gave = []; called_gave = []; calling_showed = []; called_showed = []; calling_told = []; called_told = [] }) asked
      → let m = stepped whole now y (Called (Accept asked octets)) in ActsIn d made [] (shown_in m.events) m.events → IsRunning (journal ++ made) now c d x (end_of m) [] m.tpdus
  running_begins asked octets apart one other accepts a =
      let m : Moved = stepped whole now y (Called (Accept asked octets)) in
      let p : Pair = record { clock = now; calling = x; called = y; forth = []; back = []; calling_gave = []; called_gave = []; calling_showed = []; called_showed = []; calling_told = []; called_told = [] } in
      record {
        told = [];
        theirs = m.events;
        run = subst HasRun
            (units_same (next p (Asks_called (Accept asked octets))) (submitted c (journal ++ made)) (submitted d (journal ++ made)) (shown c (journal ++ made)) (shown d (journal ++ made))
            (gave_none journal made c (a.other_gave c apart) ∙ one.gave) (gave_none journal made d a.own_gave ∙ other.gave) (showed_none journal made c (a.other_showed c apart) ∙ one.showed)
            (showed_more journal made d (shown_in m.events) a.own_showed ∙ ap (λ (us : List Marked). us ++ shown_in m.events) other.showed))
            (record { first = p; asked = asked; octets = octets; happenings = []; accepts = accepts; leads = refl });
        told_in = record { urgent = λ reference m there. absurd (nothing _ there); normal = λ reference m there. absurd (nothing _ there) };
        theirs_in = record { urgent = λ reference n there. Contains-append_right journal made _ (a.told_in.urgent reference n there); normal = λ reference n there. Contains-append_right journal made _ (a.told_in.normal reference n there) };
      }
    where
      nothing : (e : EndEvent) → Contains [] e → ⊥
      nothing e there = omega (arith, there.1)

-- ---- within a tick

-- the clock goes on, and no end has ticked yet
pub clocking_begins : (journal made : List JournalEvent) (now c d : ℕ) (x y : End) → IsRunning journal now c d x y [] [] → HasNoUnits made c → HasNoUnits made d
    → IsClocking (journal ++ made) (now + 1) c d x y [] []
clocking_begins journal made now c d x y r one other = record {
  earlier = journal;
  before = now;
  calling = x;
  called = y;
  told = r.told;
  theirs = r.theirs;
  run = r.run;
  clock = refl;
  calling_did = yet c x r.told one r.told_in;
  called_did = yet d y r.theirs other r.theirs_in;
}
  where
    yet : (n : ℕ) (e : End) (told : List EndEvent) → HasNoUnits made n → IsToldIn journal n told → HasTicked journal (journal ++ made) (now + 1) n e e told []
    yet n e told none t = record {
      ticked = false;
      is_now = refl;
      sent_is = refl;
      gave = gave_none journal made n none.gave;
      showed = showed_none journal made n none.showed ∙ sym (append-nil (shown n journal));
      told_in = subst (IsToldIn (journal ++ made) n) (sym (append-nil told)) (told_more journal made n told t);
      once = λ is. absurd (never is);
    }
      where
        never : false ≡ true → ⊥
        never is = cc is

module _ (earlier journal made : List JournalEvent) (now n : ℕ) (was is : End) (told : List EndEvent) where
  -- another end ticked
  pub ticked_stays : (sent : List Sent) → HasTicked earlier journal now n was is told sent → HasNoUnits made n → HasTicked earlier (journal ++ made) now n was is told sent
  ticked_stays sent t none = record {
    ticked = t.ticked;
    is_now = t.is_now;
    sent_is = t.sent_is;
    gave = gave_none journal made n none.gave ∙ t.gave;
    showed = showed_none journal made n none.showed ∙ t.showed;
    told_in = told_more journal made n _ t.told_in;
    once = t.once;
  }

  -- this one did, which had not yet
  pub ticked_now : (sent : List Sent) → HasTicked earlier journal now n was is told sent → is_due now (Some is) ≡ true
      → let m = stepped whole now is Ticked in ActsIn n made [] (shown_in m.events) m.events → is_due now (Some (end_of m)) ≡ false
      → HasTicked earlier (journal ++ made) now n was (end_of m) told (sent ++ m.tpdus)
  ticked_now sent t due a over = by t.ticked refl
    where
      conflict : (b : Bool) → b ≡ true → b ≡ false → ⊥
      conflict b p q = cc (sym p ∙ q)

      m : Moved
      m = stepped whole now is Ticked

      by : (b : Bool) → t.ticked ≡ b → HasTicked earlier (journal ++ made) now n was (end_of (stepped whole now is Ticked)) told (sent ++ (stepped whole now is Ticked).tpdus)
      by true went = absurd (conflict (is_due now (Some is)) due (t.once went))
      by false still =
          let same : is ≡ was = t.is_now ∙ ap (λ (b : Bool). end_of (tick_of b now was)) still in
          let events_is : (tick_of t.ticked now was).events ≡ [] = ap (λ (b : Bool). (tick_of b now was).events) still in
          let sent_none : sent ≡ [] = t.sent_is ∙ ap (λ (b : Bool). (tick_of b now was).tpdus) still in
          let row : stepped whole now is Ticked ≡ stepped whole now was Ticked = ap (λ (e : End). stepped whole now e Ticked) same in
          record {
            ticked = true;
            is_now = ap end_of row;
            sent_is = ap (λ (l : List Sent). l ++ (stepped whole now is Ticked).tpdus) sent_none ∙ ap (λ (w : Moved). w.tpdus) row;
            gave = gave_none journal made n a.own_gave ∙ t.gave;
            showed = showed_more journal made n _ a.own_showed
                ∙ ap (λ (us : List Marked). us ++ shown_in (stepped whole now is Ticked).events) (t.showed ∙ ap (λ (es : List EndEvent). shown n earlier ++ shown_in es) events_is ∙ append-nil (shown n earlier))
                ∙ ap (λ (w : Moved). shown n earlier ++ shown_in w.events) row;
            told_in = subst (λ (w : Moved). IsToldIn (journal ++ made) n (told ++ w.events)) row
                (told_both journal made n told (stepped whole now is Ticked).events
                (subst (IsToldIn journal n) (ap (λ (es : List EndEvent). told ++ es) events_is ∙ append-nil told) t.told_in) a.told_in);
            once = λ yes. over;
          }

-- the tick is over
pub clocking_ends : (journal : List JournalEvent) (now c d : ℕ) (x y : End) (forth back : List Sent) → IsClocking journal now c d x y forth back → IsRunning journal now c d x y forth back
clocking_ends journal now c d x y forth back k =
    let p : Pair = pair_of k.earlier k.before c d k.calling k.called [] [] k.told k.theirs in
    let one = k.calling_did in
    let other = k.called_did in
    record {
      told = k.told ++ (tick_of one.ticked now k.calling).events;
      theirs = k.theirs ++ (tick_of other.ticked now k.called).events;
      run = subst HasRun there (run_more p (Clock one.ticked other.ticked) k.run (record { forth = refl; back = refl }));
      told_in = one.told_in;
      theirs_in = other.told_in;
    }
  where
    there : next (pair_of k.earlier k.before c d k.calling k.called [] [] k.told k.theirs) (Clock k.calling_did.ticked k.called_did.ticked)
        ≡ pair_of journal now c d x y forth back (k.told ++ (tick_of k.calling_did.ticked now k.calling).events) (k.theirs ++ (tick_of k.called_did.ticked now k.called).events)
    there =
        ap (λ (n : ℕ). record {
          clock = n;
          calling = end_of (tick_of k.calling_did.ticked n k.calling);
          called = end_of (tick_of k.called_did.ticked n k.called);
          forth = (tick_of k.calling_did.ticked n k.calling).tpdus;
          back = (tick_of k.called_did.ticked n k.called).tpdus;
          calling_gave = submitted c k.earlier;
          called_gave = submitted d k.earlier;
          calling_showed = shown c k.earlier ++ shown_in (tick_of k.calling_did.ticked n k.calling).events;
          called_showed = shown d k.earlier ++ shown_in (tick_of k.called_did.ticked n k.called).events;
          calling_told = k.told ++ (tick_of k.calling_did.ticked n k.calling).events;
          called_told = k.theirs ++ (tick_of k.called_did.ticked n k.called).events;
        }) (sym k.clock)
        ∙ (λ i. record {
          clock = now;
          calling = sym k.calling_did.is_now i;
          called = sym k.called_did.is_now i;
          forth = sym k.calling_did.sent_is i;
          back = sym k.called_did.sent_is i;
          calling_gave = sym k.calling_did.gave i;
          called_gave = sym k.called_did.gave i;
          calling_showed = sym k.calling_did.showed i;
          called_showed = sym k.called_did.showed i;
          calling_told = k.told ++ (tick_of k.calling_did.ticked now k.calling).events;
          called_told = k.theirs ++ (tick_of k.called_did.ticked now k.called).events;
        })
