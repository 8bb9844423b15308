-- One of two Opened ends does something: both stand in their lines after it, which have grown.
use Rattle.std.proofs.Common.{◌≡◌, ◌≤◌, ℕ, ◌+◌, ◌&&◌, not, min, nat_lt, ◌==◌, Bool, true, false, List, [], ◌∷◌, ◌++◌, length, Option, Some, None, refl, sym, ◌∙◌, ap, subst, arith, append-nil}
use Rattle.std.proofs.lemmas.Bool.{ltb-false}
use Rattle.std.proofs.lemmas.Option.{none-some, same_Some}
use Rattle.tpdu.specs.declared.tpdu.Format.{Format}
use Rattle.tpdu.specs.declared.tpdu.Format.TheVariants as formats
use Rattle.tpdu.specs.declared.tpdu.Tpdu.{Tpdu}
use Rattle.tpdu.specs.declared.tpdu.Tpdu.TheVariants as wires
use Rattle.tpdu.specs.Writing.{IsAllowed}
use Rattle.tp4_number.specs.Formats.{block_of, most_of}
use Rattle.tp4_number.specs.Number.{whole}
use Rattle.tp4_number.proofs.Past.{if_kept}
use Rattle.tp4_number.specs.Receiver.{granted}
use Rattle.tp4_flow.specs.declared.rules.SubmitRefusal.{SubmitRefusal}
use Rattle.tp4_flow.specs.declared.rules.SubmitRefusal.TheVariants as submits
use Rattle.tp4_flow.specs.declared.step.Sent.{Sent}
use Rattle.tp4_sending.specs.SendingHalf.{FlowSender, refusal, urgent_refusal}
use Rattle.tp4_sending.specs.declared.tries.Tries.{Tries}
use Rattle.tp4_conn.specs.declared.call.UserCall.{UserCall}
use Rattle.tp4_conn.specs.declared.call.UserCall.TheVariants.{Accept, Disconnect, Normal as Sends, Refuse, Urgent as Urges, Window}
use Rattle.tp4_conn.specs.declared.end_record.EndRecord.{EndRecord}
use Rattle.tp4_conn.specs.declared.states.InOpened.{InOpened}
use Rattle.tp4_conn.specs.declared.states.StateData.{StateData}
use Rattle.tp4_conn.specs.declared.states.StateData.TheVariants.{Opened, UserWait}
use Rattle.tp4_conn.specs.declared.timers.Timers.{Timers}
use Rattle.tp4_conn.specs.Calls.{IsCall, call_refusal, unit_refusal, urgent_unit_refusal}
use Rattle.tp4_conn.specs.End.{End, Moved, agreed_format, end_of}
use Rattle.tp4_conn.specs.Matching.{sum_agreed}
use Rattle.tp4_conn.specs.Opened.{granting, is_expedited}
use Rattle.tp4_conn.specs.Proper.{AreSendable, IsProper, IsProperEvent}
use Rattle.tp4_conn.specs.Table.{Called, Event, Ticked, Took, at, on_call, on_tick, on_tpdu, stepped, takes, untaken}
use Rattle.tp4_conn.proofs.Propers.{step_row}
use Rattle.tp4_conn.proofs.Sendables.{appended}
use Rattle.script_journal.specs.Lawful.{Marked, expediteds, normals}
use Rattle.law_tp4_history.specs.Ends.{Ak, Body, Dt, Ea, Ed, Offer, Sent as SentBy, Terms, Times}
use Rattle.law_tp4_history.specs.Tracks.{CanIn, CanOut, GoesOn, IsRun, Track}
use Rattle.law_tp4_history.proofs.Marks.{expediteds-append, normals-append}
use Rattle.law_tp4_history.proofs.Tracked.{GrowsTrack, Hears, HearsIn, grows_same, run_with, runs_in, runs_out, with_line}
use Rattle.law_tp4_history.specs.Lines.{AreSentIn, Begun, CarriesItsUnit, Flowed, Going, IsIn, IsKnownEvent, IsKnownTpdu, IsSentIn, IsTimely, LinesGoOn, LinesStay, Stands, Still, given}
use Rattle.law_tp4_history.specs.Seen.{IsNumbered, seen}
use Rattle.law_tp4_pair.specs.Pair.{tick_of}
use Rattle.law_tp4_pair.specs.Waiting.{IsDataFor}
use Rattle.law_recovery_steps.specs.Fitting.{AllShort}
use Rattle.law_recovery_steps.proofs.PartingRows.{IsHolding, call_does, data_does, tick_does}
use Rattle.law_recovery_steps.specs.Lined.{IsSide}
use Rattle.law_recovery_steps.proofs.Growing.{plain_in, sent_on, sent_then, submitted_in}

-- what the rows do to the lines
abbrev pub Flows : Type 0
Flows = (times : Times) (terms : Terms) (now : ℕ) (taken : Option Offer) (own theirs : Track) (old : End) (event : Event) → times.life ≡ old.base.timers.life
    → IsProper old.base old.stage → IsProperEvent old event → Stands terms old.base old.stage own theirs → IsKnownEvent terms old.base old.stage taken event own theirs
    → IsTimely now own → IsTimely now theirs → Flowed times terms now taken old.stage event (stepped whole now old event) own theirs

abbrev pub Partners : Type 0
Partners = (taken : Option Offer) (own theirs new_own new_theirs : Track) → GoesOn (CanOut taken) own new_own → GoesOn (CanIn taken) theirs new_theirs
    → (terms : Terms) (b : EndRecord) (stage : StateData) → Stands terms b stage theirs own → Stands terms b stage new_theirs new_own

pub short_then : (a b : List (List ℕ)) → AllShort a → AllShort b → AllShort (a ++ b)
short_then [] b s t = t
short_then (unit ∷ a) b s t = (s.0, short_then a b s.1 t)

-- both ends, and what waits between them
pub record AreInLines (times : Times) (terms : Terms) (now : ℕ) (x y : End) (forth back : List Sent) (u v : List Marked) : Type 0 where
  pub there : Track
  pub here : Track
  pub mine : IsSide times terms now x there here u
  pub theirs : IsSide times terms now y here there v
  pub expedited : is_expedited x.base.agreed ≡ is_expedited y.base.agreed
  pub forth_in : AreSentIn there here now forth
  pub back_in : AreSentIn here there now back
  pub forth_are : AreSendable forth
  pub back_are : AreSendable back

pub turned : (times : Times) (terms : Terms) (now : ℕ) (x y : End) (forth back : List Sent) (u v : List Marked) → AreInLines times terms now x y forth back u v → AreInLines times terms now y x back forth v u
turned times terms now x y forth back u v l = record {
  there = l.here;
  here = l.there;
  mine = l.theirs;
  theirs = l.mine;
  expedited = sym l.expedited;
  forth_in = l.back_in;
  back_in = l.forth_in;
  forth_are = l.back_are;
  back_are = l.forth_are;
}

opened_not : (o : InOpened) (since : ℕ) (stage : StateData) → stage ≡ Opened o → stage ≡ UserWait since → ⊥
opened_not o since stage a b = cc (sym a ∙ b)

module _ (flows : Flows) (partners : Partners) (times : Times) (terms : Terms) (now : ℕ) (x y : End) (q : InOpened) (is : y.stage ≡ Opened q) (forth back : List Sent) (u v : List Marked)
    (l : AreInLines times terms now x y forth back u v) where
  -- the second does something, and the rest waits for it
  module _ (event : Event) (rest : List Sent) (holds : IsHolding y.base (stepped whole now y event)) (proper : IsProperEvent y event) (taken : Option Offer) (known : IsKnownEvent terms y.base y.stage taken event l.here l.there)
      (hears : Hears taken l.here.rules.life l.here.size now l.here.line) (hears_in : HearsIn taken l.there.rules.life l.there.size now l.there.line)
      (rest_in : AreSentIn l.there l.here now rest) (rest_are : AreSendable rest) (short : AllShort (normals (given event))) (urged : is_expedited y.base.agreed ≡ false → expediteds (given event) ≡ []) where
    abbrev m : Moved
    m = stepped whole now y event

    side : (own theirs : Track) → Stands terms m.base m.stage own theirs → IsRun times now own → own.line.submitted ≡ v ++ given event → IsSide times terms now (end_of m) own theirs (v ++ given event)
    side own theirs stands run submitted = record {
      stands = stands;
      proper = (step_row whole now y event l.theirs.proper proper).proper;
      life = l.theirs.life ∙ ap (λ (t : Timers). t.life) (sym holds.timers);
      run = run;
      submitted = submitted;
      short = subst AllShort (sym (normals-append v (given event))) (short_then (normals v) (normals (given event)) l.theirs.short short);
      urged = λ none. let same : is_expedited y.base.agreed ≡ false = ap is_expedited (sym holds.agreed) ∙ none in
          expediteds-append v (given event) ∙ (λ i. l.theirs.urged same i ++ urged same i);
    }

    all : (there here : Track) → GrowsTrack l.there there → GrowsTrack l.here here → IsSide times terms now x there here u → IsSide times terms now (end_of m) here there (v ++ given event) → AreSentIn here there now m.tpdus
        → AreInLines times terms now x (end_of m) rest (back ++ m.tpdus) u (v ++ given event)
    all there here g k mine theirs sent = record {
      there = there;
      here = here;
      mine = mine;
      theirs = theirs;
      expedited = l.expedited ∙ ap is_expedited (sym holds.agreed);
      forth_in = sent_on l.there l.here there here now g k rest rest_in;
      back_in = sent_then here there now back m.tpdus (sent_on l.here l.there here there now k g back l.back_in) sent;
      forth_are = rest_are;
      back_are = appended back m.tpdus l.back_are (step_row whole now y event l.theirs.proper proper).tpdus;
    }

    goes : LinesGoOn terms now taken event m l.here l.there → AreInLines times terms now x (end_of m) rest (back ++ m.tpdus) u (v ++ given event)
    goes g =
        let out = runs_out taken now l.here l.here.line g.own_goes.happenings g.own.line l.theirs.run.at hears g.own_goes.runs in
        let into = runs_in taken now l.there l.there.line g.they_go.happenings g.theirs.line l.mine.run.at hears_in g.they_go.runs in
        all g.theirs g.own (with_line l.there g.theirs g.they_go.same into.1) (with_line l.here g.own g.own_goes.same out.1)
        (record {
          stands = partners taken l.here l.there g.own g.theirs g.own_goes g.they_go terms x.base x.stage l.mine.stands;
          proper = l.mine.proper;
          life = l.mine.life;
          run = run_with times now l.there g.theirs g.they_go.happenings g.they_go.same l.mine.run into.0 now into.2;
          submitted = submitted_in taken l.there l.there.line g.theirs.line g.they_go.happenings g.they_go.runs ∙ l.mine.submitted;
          short = l.mine.short;
          urged = l.mine.urged;
        })
        (side g.own g.theirs g.stands (run_with times now l.here g.own g.own_goes.happenings g.own_goes.same l.theirs.run out.0 now out.2) (g.gave ∙ ap (λ (l : List Marked). l ++ given event) l.theirs.submitted)) g.sent

    stays_so : LinesStay terms event m l.here l.there → AreInLines times terms now x (end_of m) rest (back ++ m.tpdus) u (v ++ given event)
    stays_so s =
        all l.there l.here (grows_same l.there) (grows_same l.here) l.mine
        (side l.here l.there s.stands l.theirs.run (l.theirs.submitted ∙ sym (append-nil v) ∙ ap (λ (units : List Marked). v ++ units) (sym s.gave))) (plain_in l.here l.there now m.tpdus s.plain)

    pub acts : AreInLines times terms now x (end_of m) rest (back ++ m.tpdus) u (v ++ given event)
    acts = by (flows times terms now taken l.here l.there y event l.theirs.life l.theirs.proper proper l.theirs.stands known (λ _. record { world = l.theirs.run.at.0; urgent = l.theirs.run.at.1 })
        (λ _. record { world = l.mine.run.at.0; urgent = l.mine.run.at.1 }))
      where
        by : Flowed times terms now taken y.stage event (stepped whole now y event) l.here l.there → AreInLines times terms now x (end_of m) rest (back ++ m.tpdus) u (v ++ given event)
        by (Still s) = stays_so s
        by (Begun b) = absurd (opened_not q b.since y.stage is b.waited)
        by (Going g) = goes g

  -- ---- nothing comes

  hears_none : Hears None l.here.rules.life l.here.size now l.here.line
  hears_none = record { fresh = λ o none. absurd (none-some _ none); ak = λ o n c s none. absurd (none-some _ none); ea = λ o n none. absurd (none-some _ none) }

  hears_none_in : HearsIn None l.there.rules.life l.there.size now l.there.line
  hears_none_in = record { fresh = λ o none. absurd (none-some _ none); dt = λ o n p none. absurd (none-some _ none); ed = λ o n os none. absurd (none-some _ none) }

  -- a tick
  tick_holds : IsHolding y.base (stepped whole now y Ticked)
  tick_holds = let h = subst (λ (stage : StateData). IsHolding (at now y.base) (on_tick (at now y.base) stage)) (sym is) (tick_does (λ (tries : Tries). Prim.Unit {0}) (λ tick. tt) (at now y.base) q (λ tries. tt)).holding in
      record { timers = h.timers; agreed = h.agreed }

  pub ticks : (tick : Bool) → AreInLines times terms now x (end_of (tick_of tick now y)) forth (back ++ (tick_of tick now y).tpdus) u v
  ticks true =
      subst (AreInLines times terms now x (end_of (stepped whole now y Ticked)) forth (back ++ (stepped whole now y Ticked).tpdus) u) (append-nil v)
      (acts Ticked forth tick_holds tt None tt hears_none hears_none_in l.forth_in l.forth_are tt (λ none. refl))
  ticks false = subst (λ (b : List Sent). AreInLines times terms now x y forth b u v) (sym (append-nil back)) l

  -- ---- a call of its user

  call_holds : (call : UserCall) → IsHolding y.base (stepped whole now y (Called call))
  call_holds call = let h = subst (λ (stage : StateData). IsHolding (at now y.base) (on_call (at now y.base) stage call)) (sym is) (call_does (λ (tries : Tries). Prim.Unit {0}) (λ tick. tt) (at now y.base) q call).holding in
      record { timers = h.timers; agreed = h.agreed }

  called : (call : UserCall) → call_refusal y.base y.stage call ≡ None → IsCall call → AllShort (normals (given (Called call))) → (is_expedited y.base.agreed ≡ false → expediteds (given (Called call)) ≡ [])
      → AreInLines times terms now x (end_of (stepped whole now y (Called call))) forth (back ++ (stepped whole now y (Called call)).tpdus) u (v ++ given (Called call))
  called call allowed fits short urged = acts (Called call) forth (call_holds call) (allowed, fits) None tt hears_none hears_none_in l.forth_in l.forth_are short urged

  refused_in : (call : UserCall) → call_refusal y.base y.stage call ≡ None → call_refusal y.base (Opened q) call ≡ None
  refused_in call e = subst (λ (stage : StateData). call_refusal y.base stage call ≡ None) is e

  short_unit : (s : FlowSender) (unit : List ℕ) → unit_refusal (refusal s (length unit)) ≡ None → length unit ≤ 16384
  short_unit s unit =
      let P = λ (r : Option SubmitRefusal). unit_refusal r ≡ None → length unit ≤ 16384 in
      if_kept P (length unit == 0) _ _ (λ _ e. absurd (cc e))
      (λ _. if_kept P (nat_lt 16384 (length unit)) _ _ (λ _ e. absurd (cc e)) (λ low e. ltb-false _ _ low))

  urgent_allowed : (agreed : Bool) (r : Option SubmitRefusal) → urgent_unit_refusal agreed r ≡ None → agreed ≡ true
  urgent_allowed true r e = refl
  urgent_allowed false None e = absurd (cc e)
  urgent_allowed false (Some submits.EmptyUnit) e = absurd (cc e)
  urgent_allowed false (Some submits.TooLong) e = absurd (cc e)
  urgent_allowed false (Some submits.QueueFull) e = absurd (cc e)

  never_both : (b : Bool) → b ≡ true → b ≡ false → ⊥
  never_both b a c = cc (sym a ∙ c)

  -- a credit above all that a format has is taken for the most that it has
  limited : (format : Format) (credit : ℕ) → min (min credit 255) (most_of format) ≡ min credit (most_of format)
  limited formats.Normal credit = omega arith
  limited formats.Extended credit = omega arith

  window_same : (credit : ℕ) → stepped whole now y (Called (Window (min credit 255))) ≡ stepped whole now y (Called (Window credit))
  window_same credit =
      subst (λ (stage : StateData). on_call (at now y.base) stage (Window (min credit 255)) ≡ on_call (at now y.base) stage (Window credit)) (sym is)
      (ap (λ (n : ℕ). granting (at now y.base) q (record q.halves.receiving { receiver = record q.halves.receiving.receiver { inbox = granted q.halves.receiving.receiver.inbox n } })) (limited q.halves.receiving.rules.format credit))

  pub calls : (call : UserCall) → call_refusal y.base y.stage call ≡ None
      → AreInLines times terms now x (end_of (stepped whole now y (Called call))) forth (back ++ (stepped whole now y (Called call)).tpdus) u (v ++ given (Called call))
  calls (Sends unit) e = called (Sends unit) e tt (short_unit q.halves.sending unit (refused_in (Sends unit) e), tt) (λ none. refl)
  calls (Urges unit) e = called (Urges unit) e tt tt (λ none. absurd (never_both _ (urgent_allowed (is_expedited y.base.agreed) (urgent_refusal q.halves.sending (length unit)) (refused_in (Urges unit) e)) none))
  calls (Window credit) e =
      subst (λ (n : Moved). AreInLines times terms now x (end_of n) forth (back ++ n.tpdus) u (v ++ [])) (window_same credit)
      (called (Window (min credit 255)) (subst (λ (stage : StateData). call_refusal y.base stage (Window (min credit 255)) ≡ None) (sym is) refl) (omega arith) tt (λ none. refl))
  calls (Disconnect octets) e = called (Disconnect octets) e tt tt (λ none. refl)
  calls (Accept options octets) e = absurd (cc (refused_in (Accept options octets) e))
  calls (Refuse octets) e = absurd (cc (refused_in (Refuse octets) e))

  -- ---- what waits first comes

  module _ (sent : Sent) (rest : List Sent) (waits : forth ≡ sent ∷ rest) (partner : ℕ) (kind : IsDataFor partner sent.tpdu) (format : sent.format ≡ agreed_format y.base.agreed) where
    first_in : IsSentIn l.there l.here now sent × AreSentIn l.there l.here now rest
    first_in = subst (AreSentIn l.there l.here now) waits l.forth_in

    first_are : AreSendable (sent ∷ rest)
    first_are = subst AreSendable waits l.forth_are

    abbrev s : IsSentIn l.there l.here now sent
    s = first_in.0

    abbrev offer : Offer
    offer = record { tick = now; from = []; to = []; tpdu = seen s.n sent.tpdu; is_extended = false; origin = SentBy 0 }

    numbered : IsNumbered (block_of (agreed_format y.base.agreed)) s.n sent.tpdu
    numbered = subst (λ (f : Format). IsNumbered (block_of f) s.n sent.tpdu) format s.numbered

    unit_of : (tpdu : Tpdu) (n : ℕ) → IsIn l.there l.here now (seen n tpdu).body → CarriesItsUnit n tpdu l.there
    unit_of (wires.Ed destination last number text) n i = i.3
    unit_of other n i = tt

    known : IsKnownTpdu terms y.base y.stage (Some offer) sent.tpdu l.here l.there
    known = subst (λ (stage : StateData). IsKnownTpdu terms y.base stage (Some offer) sent.tpdu l.here l.there) (sym is)
        (record { n = s.n; numbered = numbered; offer = offer; is = refl; seen_as = refl; unit = unit_of sent.tpdu s.n s.stands })

    same_offer : (o : Offer) → Some offer ≡ Some o → offer ≡ o
    same_offer o e = same_Some _ _ e

    body_in : (o : Offer) (body : Body) → Some offer ≡ Some o → o.tpdu.body ≡ body → IsIn l.there l.here o.tick body
    body_in o body e b = subst (IsIn l.there l.here o.tick) b (subst (λ (p : Offer). IsIn l.there l.here p.tick p.tpdu.body) (same_offer o e) s.stands)

    fresh_by : (life : ℕ) (o : Offer) → Some offer ≡ Some o → now ≤ o.tick + life
    fresh_by life o e = let tick : now ≡ o.tick = ap (λ (p : Offer). p.tick) (same_offer o e) in omega (arith, tick)

    hears : Hears (Some offer) l.here.rules.life l.here.size now l.here.line
    hears = record {
      fresh = λ o e. fresh_by l.here.rules.life o e;
      ak = λ o n credit subsequence e flow body. (body_in o (Ak n credit subsequence) e body).1;
      ea = λ o n e flow body. (body_in o (Ea n) e body).1;
    }

    hears_in : HearsIn (Some offer) l.there.rules.life l.there.size now l.there.line
    hears_in = record {
      fresh = λ o e. fresh_by l.there.rules.life o e;
      dt = λ o n piece e flow body. let i = body_in o (Dt n piece) e body in (i.1, i.2);
      ed = λ o n octets e flow body. (body_in o (Ed n octets) e body).1;
    }

    allowed : IsAllowed (agreed_format y.base.agreed) sent.tpdu
    allowed = subst (λ (f : Format). IsAllowed f sent.tpdu) format first_are.0.1

    take_holds : IsHolding y.base (stepped whole now y (Took sent.tpdu sent.sum))
    take_holds =
        let h = subst (λ (stage : StateData). IsHolding (at now y.base) (takes whole now y.base stage sent.tpdu sent.sum)) (sym is)
        (if_kept (IsHolding (at now y.base)) (sum_agreed y.base.agreed && not sent.sum) (untaken y.base (Opened q)) (on_tpdu whole (at now y.base) (Opened q) sent.tpdu) (λ _. record { timers = refl; agreed = refl })
        (λ _. (data_does (λ (tries : Tries). Prim.Unit {0}) (λ tick. tt) (at now y.base) q partner sent.tpdu kind).holding)) in
        record { timers = h.timers; agreed = h.agreed }

    pub comes : AreInLines times terms now x (end_of (stepped whole now y (Took sent.tpdu sent.sum))) rest (back ++ (stepped whole now y (Took sent.tpdu sent.sum)).tpdus) u v
    comes =
        subst (AreInLines times terms now x (end_of (stepped whole now y (Took sent.tpdu sent.sum))) rest (back ++ (stepped whole now y (Took sent.tpdu sent.sum)).tpdus) u) (append-nil v)
        (acts (Took sent.tpdu sent.sum) rest take_holds allowed (Some offer) known hears hears_in first_in.1 first_are.1 tt (λ none. refl))
