-- Two partners of which the calling one is Opened and the called one in AkWait. What the calling one knows is what the CC said: nothing that it knows is newer than what the
-- called one says now, which is what that began with, and nothing older.
use Rattle.std.proofs.Common.{◌≡◌, ◌≤◌, inl, inr, ℕ, List, refl, sym, ◌∙◌, ap, subst, arith}
use Rattle.osi_base.specs.Calls.{Call}
use Rattle.osi_base.specs.Link.{Link}
use Rattle.tp4_number.specs.Formats.{most_of}
use Rattle.tp4_number.specs.Sender.{Sender}
use Rattle.tpdu.specs.declared.tpdu.Format.{Format}
use Rattle.law_recovery_pair.specs.Views.{IsNoOlder, View, known, said}
use Rattle.law_recovery_pair.proofs.Older.{older_both}
use Rattle.tp4_flow.specs.declared.rules.FlowRules.{FlowRules}
use Rattle.tp4_conn.specs.End.{IsSized}
use Rattle.tp4_conn.specs.Proper.{AreOpen, HasSize, IsProperStage}
use Rattle.tp4_conn.specs.declared.halves.Halves.{Halves}
use Rattle.tp4_conn.specs.declared.states.InAkWait.{InAkWait}
use Rattle.tp4_conn.specs.declared.states.InOpened.{InOpened}
use Rattle.tp4_conn.specs.declared.states.StateData.TheVariants.{AkWait}
use Rattle.tp4_conn.specs.declared.timers.Timers.{Timers}
use Rattle.script_journal.specs.Lawful.{shown, submitted}
use Rattle.script_journal.specs.Partner.{ArePartners}
use Rattle.script_journal.specs.declared.event.Event.{Event}
use Rattle.law_tp4_history.specs.Tracks.{Whole}
use Rattle.law_tp4_history.specs.Moves.{AreOwn}
use Rattle.law_tp4_pair.specs.Pair.{Pair}
use Rattle.law_recovery_ends.specs.Knowing.{StageKnows}
use Rattle.law_recovery_steps.specs.Resting.{AreBegun, IsBegun}
use Rattle.law_recovery_steps.proofs.Beginning.{direction_begins}
use Rattle.law_recovery_steps.specs.Laws.{PairsOpen, PairsOpenRest}
use Rattle.law_recovery_steps.specs.Opening.{IsQueued, KnowsCc, Talks, as_if, as_opened, unsent}
use Rattle.tp4_world.specs.World.{World}
use Rattle.law_tp4_lawful.specs.Numbers.{IsOpenEnd}
use Rattle.law_tp4_lawful.specs.References.{halves_at}
use Rattle.law_tp4_lawful.proofs.Worlds.{Explains}
use Rattle.law_recovery_world.specs.Laws.{CallsTell, ConfirmedAreKnown, ConfirmedOpen, ConfirmedShow, KnownAreCarried, PartnersAreKnown}
use Rattle.law_recovery_world.specs.Lines.{HasViews}
use Rattle.law_recovery_world.specs.Steady.{AreLate, AreSteady, IsSteady, StageLate, StageMade, StageRises, knows_of, says_of}
use Rattle.law_recovery_world.specs.Confirmed.{IsConfirmedPairOf, IsKnownConfirmed}
use Rattle.law_recovery_world.proofs.Directions.{far, format_same, full, here, known_direction, opened_is, sum_same, there, there_far, unsent_begins}
use Rattle.law_recovery_world.proofs.Partners.{works_as}
use Rattle.law_recovery_world.proofs.Recovering.{units, windows}
use Rattle.law_recovery_world.proofs.Showing.{rests_show}

module _ {C : Type 0} (link : C → Link (List ℕ)) (titles : List (List ℕ)) (timers : Timers) (w : Whole) (journal : List Event) (last : World C) (explains : Explains link titles timers w journal last)
    (views : (x y : ℕ) (theirs halves : Halves) → ArePartners journal x y → IsOpenEnd last x theirs → IsOpenEnd last y halves → HasViews w y halves theirs)
    (steady : AreSteady timers.credit (link last.carrier).clock last.entities) (x y : ℕ) (p : Pair) (o : InOpened) (m : InAkWait) (pair : IsConfirmedPairOf link journal last x y p o m) where
  abbrev open_a : IsOpenEnd last x o.halves
  open_a = opened_is last x p.calling o pair.calling

  abbrev open_b : IsOpenEnd last y m.halves
  open_b = record { system = pair.called.system; reference = pair.called.reference; entity = pair.called.entity; end = p.called; is_end = pair.called.is_end; has = ap halves_at pair.accepted }

  back : ArePartners journal y x
  back = elim pair.partners [ inl l ↦ inr l | inr l ↦ inl l ]

  now_is : w.base.clock ≡ p.clock
  now_is = sym explains.carries.clock ∙ sym pair.clock

  mine : IsSteady timers.credit (link last.carrier).clock p.calling.base p.calling.stage
  mine = steady pair.calling.system pair.calling.entity pair.calling.is_end.there pair.calling.reference p.calling pair.calling.is_end.stands

  theirs : IsSteady timers.credit (link last.carrier).clock p.called.base p.called.stage
  theirs = steady pair.called.system pair.called.entity pair.called.is_end.there pair.called.reference p.called pair.called.is_end.stands

  timers_here : p.calling.base.timers ≡ timers
  timers_here = (explains.known.holds pair.calling.system pair.calling.entity pair.calling.is_end.there).theirs pair.calling.reference p.calling pair.calling.is_end.stands

  timers_there : p.called.base.timers ≡ timers
  timers_there = (explains.known.holds pair.called.system pair.called.entity pair.called.is_end.there).theirs pair.called.reference p.called pair.called.is_end.stands

  late_here : (o.took ≤ p.clock) × (o.acked ≤ p.clock) × AreLate timers.credit p.clock o.halves
  late_here =
      subst (λ (k : ℕ). (o.took ≤ k) × (o.acked ≤ k) × AreLate timers.credit k o.halves) (sym pair.clock) (subst (StageLate timers.credit (link last.carrier).clock) pair.calling.stage mine.late)

  late_there : AreLate timers.credit p.clock m.halves
  late_there = subst (λ (k : ℕ). AreLate timers.credit k m.halves) (sym pair.clock) (subst (StageLate timers.credit (link last.carrier).clock) pair.accepted theirs.late)

  made : StageMade (link last.carrier).clock p.called.base (AkWait m)
  made = subst (StageMade (link last.carrier).clock p.called.base) pair.accepted theirs.made

  sized : IsSized made.1.options
  sized =
      let state : IsProperStage p.called.base.agreed (AkWait m) =
      subst (IsProperStage p.called.base.agreed) pair.accepted (far link titles timers w journal last explains x y pair.partners o.halves m.halves open_a open_b).0.proper.state in
      subst HasSize made.1.agreed state.1

  proper : AreOpen p.calling.base.agreed o.halves
  proper = subst (IsProperStage p.calling.base.agreed) pair.calling.stage (here link titles timers w journal last explains x y pair.partners o.halves m.halves open_a open_b).0.proper.state

  waits : IsQueued m.halves.sending
  waits = subst IsQueued (sym (ap (λ (h : Halves). h.sending) made.1.halves)) (record { credit = p.called.base.credit; is = refl })

  -- ---- what the calling end knows

  abbrev first : View
  first = record { number = 0; credit = timers.credit; subsequence = 0 }

  view : HasViews w x o.halves m.halves
  view = views y x m.halves o.halves back open_b open_a

  says_first : says_of m.halves.receiving ≡ first
  says_first = ap (λ (h : Halves). says_of h.receiving) made.1.halves ∙ ap (λ (t : Timers). record { number = 0; credit = t.credit; subsequence = 0 }) timers_there

  no_newer : IsNoOlder (knows_of o.halves.sending) first
  no_newer =
      let knows_is : known (w.track view.k).line.world ≡ knows_of o.halves.sending = ap (λ (s : Sender). record { number = s.base; credit = s.credit; subsequence = s.subsequence }) view.sender in
      subst (λ (v : View). IsNoOlder (knows_of o.halves.sending) v) (view.says ∙ says_first)
      (subst (λ (v : View). IsNoOlder v (said (w.track view.k).line.world)) knows_is view.views.knows)

  no_older : IsNoOlder first (knows_of o.halves.sending)
  no_older = subst (StageRises timers.credit) pair.calling.stage mine.rises

  same : knows_of o.halves.sending ≡ says_of m.halves.receiving
  same = older_both (knows_of o.halves.sending) first no_newer no_older ∙ sym says_first

  knows_cc : KnowsCc o m
  knows_cc = record {
    number = ap (λ (v : View). v.number) same;
    credit = ap (λ (v : View). v.credit) same;
    subsequence = ap (λ (v : View). v.subsequence) same;
    edge = subst (StageKnows timers.credit) pair.calling.stage mine.knows;
  }

  -- ---- both directions

  own_here : AreOwn p.calling.base o.halves
  own_here = (there link titles timers w journal last explains x y pair.partners o.halves m.halves open_a open_b).own

  own_far : AreOwn p.called.base m.halves
  own_far = (there_far link titles timers w journal last explains x y pair.partners o.halves m.halves open_a open_b).own

  formats : o.halves.sending.rules.format ≡ m.halves.sending.rules.format
  formats = format_same link titles timers w journal last explains x y pair.partners o.halves m.halves open_a open_b

  abbrev size : ℕ
  size = most_of m.halves.sending.rules.format

  forth : IsBegun timers.life size p.clock o.halves.sending m.halves.receiving 0
  forth =
      let known = known_direction link titles timers w journal last explains x y pair.partners o.halves m.halves open_a open_b p.clock now_is view proper late_here.2 late_there
      (record { gave = submitted x journal; showed = shown y journal }) refl refl in
      subst (λ (f : Format). IsBegun timers.life (most_of f) p.clock o.halves.sending m.halves.receiving 0) formats
      (direction_begins timers.life p.clock 0 o.halves.sending m.halves.receiving (record { gave = submitted x journal; showed = shown y journal }) known
      (full link titles timers w journal last explains x y pair.partners o.halves m.halves open_a open_b) (omega arith))

  backward : IsBegun timers.life size p.clock (unsent m.halves.sending) o.halves.receiving o.acked
  backward = unsent_begins link titles timers w journal last explains y x back m.halves o.halves open_b open_a p.clock now_is (views x y o.halves m.halves pair.partners open_a open_b) late_here.2 waits o.acked late_here.1

  begun : AreBegun timers.life size (as_if p p.calling.base o m) o (as_opened m)
  begun =
      let works = works_as p.called.base m.halves own_far in
      record {
        idle = record { forth = pair.idle.forth; back = pair.idle.back };
        calling = refl;
        called = refl;
        options = own_here.terms;
        their_options = own_far.terms;
        ours = works_as p.calling.base o.halves own_here;
        theirs = record { agreed_is = works.agreed_is; sending = refl; receiving = works.receiving; sum = works.sum; format = works.format; to = works.to; partner = works.partner };
        sum = sum_same link titles timers w journal last explains x y pair.partners o.halves m.halves open_a open_b;
        there = forth;
        here = backward;
      }

  pub confirmed_known : IsKnownConfirmed timers p o m
  confirmed_known = record {
    begun = record {
      idle = pair.idle;
      called = pair.accepted;
      options = made.1.options;
      agreed = made.1.agreed;
      sized = sized;
      base = p.calling.base;
      calling = Talks pair.calling.stage refl;
      queued = waits;
      tried = subst (λ (now : ℕ). m.tries.last ≤ now) (sym pair.clock) made.0;
      knows = knows_cc;
      begun = begun;
    };
    calling = timers_here;
    called = timers_there;
    calling_t1 = ap (λ (r : FlowRules). r.t1) own_here.sending ∙ ap (λ (t : Timers). t.t1) timers_here;
    called_t1 = ap (λ (r : FlowRules). r.t1) own_far.sending ∙ ap (λ (t : Timers). t.t1) timers_there;
  }

pub confirmed_open : {C : Type 0} (link : C → Link (List ℕ)) (steps : C → Call (List ℕ) → C → Type 0) → ConfirmedAreKnown link steps → PairsOpen → ConfirmedOpen link steps
confirmed_open {C} link steps known opens titles timers journal first one x y p last o w calling called happenings pair leads idle undue late =
    let k = known titles timers journal first one x y p o w pair in
    opens timers.life (most_of w.halves.sending.rules.format) timers.t1 p o w calling called happenings last k.begun (ap (λ (t : Timers). t.t1) k.called) leads idle undue late

pub confirmed_show : {C : Type 0} (link : C → Link (List ℕ)) (steps : C → Call (List ℕ) → C → Type 0) → ConfirmedAreKnown link steps → PairsOpenRest → PartnersAreKnown link steps → KnownAreCarried
    → CallsTell link steps → ConfirmedShow link steps
confirmed_show link steps known rest opened carried tell titles timers journal later first second one two x y p last o w calling called happenings pair stands leads idle undue late =
    let k = known titles timers journal first one x y p o w pair in
    rests_show link steps tell titles timers later second two x y last stands undue
    (rest timers.life (most_of w.halves.sending.rules.format) timers.t1 timers.window p o w calling called happenings last k.begun (ap (λ (t : Timers). t.t1) k.called) k.calling_t1 k.called_t1
    (windows link steps opened titles timers later second two x y last stands) leads idle undue late (units link steps opened titles timers later second two x y last stands carried))
