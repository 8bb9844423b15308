-- Two partners that are Opened are known both ways, and agreed.
use Rattle.std.proofs.Common.{◌≡◌, ◌≤◌, inl, inr, ℕ, List, refl, sym, ◌∙◌, ap, subst}
use Rattle.osi_base.specs.Link.{Link}
use Rattle.tp4_flow.specs.declared.rules.FlowRules.{FlowRules}
use Rattle.tp4_conn.specs.declared.end_record.EndRecord.{EndRecord}
use Rattle.tp4_conn.specs.declared.halves.Halves.{Halves}
use Rattle.tp4_conn.specs.declared.states.InOpened.{InOpened}
use Rattle.tp4_conn.specs.declared.timers.Timers.{Timers}
use Rattle.tp4_conn.specs.End.{End}
use Rattle.tp4_conn.specs.Proper.{AreOpen, IsProperStage}
use Rattle.script_journal.specs.Partner.{ArePartners}
use Rattle.script_journal.specs.declared.event.Event.{Event}
use Rattle.law_tp4_history.specs.Tracks.{Whole}
use Rattle.law_tp4_history.specs.Moves.{AreOwn}
use Rattle.law_tp4_pair.specs.Pair.{Pair, back_units, forth_units}
use Rattle.law_tp4_pair.specs.Standing.{IsAgreed, party}
use Rattle.law_recovery_steps.specs.Beginning.{AreAgreed}
use Rattle.law_recovery_steps.specs.Known.{AreKnown}
use Rattle.tp4_world.specs.World.{World}
use Rattle.law_tp4_lawful.specs.Numbers.{IsOpenEnd}
use Rattle.law_tp4_lawful.proofs.Worlds.{Explains}
use Rattle.law_recovery_world.specs.Lines.{HasViews}
use Rattle.law_recovery_world.specs.Steady.{AreLate, AreSteady, StageLate}
use Rattle.law_recovery_world.specs.Partners.{AreTimed, IsOpenedEnd, IsPairOf}
use Rattle.law_recovery_world.proofs.Directions.{far, format_same, full, here, known_direction, named, opened_is, sum_same, there, there_far}

-- the halves work as the end agreed
pub works_as : (b : EndRecord) (h : Halves) (own : AreOwn b h) → IsAgreed own.terms h.sending.rules (party b) h
works_as b h own = record {
  agreed_is = own.agreed;
  sending = refl;
  receiving = own.receiving ∙ sym own.sending;
  sum = ap (λ (r : FlowRules). r.sum) own.sending;
  format = ap (λ (r : FlowRules). r.format) own.sending;
  to = ap (λ (r : FlowRules). r.to) own.sending;
  partner = ap (λ (r : FlowRules). r.partner) own.sending;
}

module _ {C : Type 0} (link : C → Link (List ℕ)) (titles : List (List ℕ)) (timers : Timers) (w : Whole) (journal : List Event) (last : World C) (explains : Explains link titles timers w journal last)
    (views : (x y : ℕ) (theirs halves : Halves) → ArePartners journal x y → IsOpenEnd last x theirs → IsOpenEnd last y halves → HasViews w y halves theirs)
    (steady : AreSteady timers.credit (link last.carrier).clock last.entities) (x y : ℕ) (p : Pair) (o q : InOpened) (pair : IsPairOf link journal last x y p o q) where
  abbrev a : IsOpenedEnd last x p.calling o
  a = pair.calling

  abbrev b : IsOpenedEnd last y p.called q
  b = pair.called

  abbrev open_a : IsOpenEnd last x o.halves
  open_a = opened_is last x p.calling o a

  abbrev open_b : IsOpenEnd last y q.halves
  open_b = opened_is last y p.called q b

  back : ArePartners journal y x
  back = elim pair.partners [ inl m ↦ inr m | inr m ↦ inl m ]

  now_is : w.base.clock ≡ p.clock
  now_is = sym explains.carries.clock ∙ sym pair.clock

  -- an end at this tick
  late : (n : ℕ) (e : End) (i : InOpened) (c : IsOpenedEnd last n e i) → (i.took ≤ p.clock) × (i.acked ≤ p.clock) × AreLate timers.credit p.clock i.halves
  late n e i c =
      subst (λ (k : ℕ). (i.took ≤ k) × (i.acked ≤ k) × AreLate timers.credit k i.halves) (sym pair.clock)
      (subst (StageLate timers.credit (link last.carrier).clock) c.stage (steady c.system c.entity c.is_end.there c.reference e c.is_end.stands).late)

  proper_here : AreOpen p.calling.base.agreed o.halves
  proper_here = subst (IsProperStage p.calling.base.agreed) a.stage (here link titles timers w journal last explains x y pair.partners o.halves q.halves open_a open_b).0.proper.state

  proper_far : AreOpen p.called.base.agreed q.halves
  proper_far = subst (IsProperStage p.called.base.agreed) b.stage (far link titles timers w journal last explains x y pair.partners o.halves q.halves open_a open_b).0.proper.state

  pub partners_known : AreKnown timers.life p o q
  partners_known = record {
    idle = pair.idle;
    calling = a.stage;
    called = b.stage;
    acked = ((late x p.calling o a).1, (late y p.called q b).1);
    took = ((late x p.calling o a).0, (late y p.called q b).0);
    named = (
      named link titles timers w journal last explains x y pair.partners o.halves q.halves open_a open_b,
      named link titles timers w journal last explains y x back q.halves o.halves open_b open_a,
    );
    there = known_direction link titles timers w journal last explains x y pair.partners o.halves q.halves open_a open_b p.clock now_is
        (views y x q.halves o.halves back open_b open_a) proper_here (late x p.calling o a).2 (late y p.called q b).2 (forth_units p) pair.calling_gave pair.called_showed;
    here = known_direction link titles timers w journal last explains y x back q.halves o.halves open_b open_a p.clock now_is
        (views x y o.halves q.halves pair.partners open_a open_b) proper_far (late y p.called q b).2 (late x p.calling o a).2 (back_units p) pair.called_gave pair.calling_showed;
  }

  own_here : AreOwn p.calling.base o.halves
  own_here = (there link titles timers w journal last explains x y pair.partners o.halves q.halves open_a open_b).own

  own_far : AreOwn p.called.base q.halves
  own_far = (there_far link titles timers w journal last explains x y pair.partners o.halves q.halves open_a open_b).own

  pub partners_agreed : AreAgreed p o q
  partners_agreed = record {
    options = own_here.terms;
    their_options = own_far.terms;
    ours = works_as p.calling.base o.halves own_here;
    theirs = works_as p.called.base q.halves own_far;
    format = format_same link titles timers w journal last explains x y pair.partners o.halves q.halves open_a open_b;
    sum = sum_same link titles timers w journal last explains x y pair.partners o.halves q.halves open_a open_b;
    full = full link titles timers w journal last explains x y pair.partners o.halves q.halves open_a open_b;
    full_there = full link titles timers w journal last explains y x back q.halves o.halves open_b open_a;
  }

  timers_of : (n : ℕ) (e : End) (i : InOpened) (c : IsOpenedEnd last n e i) → e.base.timers ≡ timers
  timers_of n e i c = (explains.known.holds c.system c.entity c.is_end.there).theirs c.reference e c.is_end.stands

  pub partners_timed : AreTimed timers p o q
  partners_timed = record {
    calling = timers_of x p.calling o a;
    called = timers_of y p.called q b;
    calling_t1 = ap (λ (r : FlowRules). r.t1) own_here.sending ∙ ap (λ (t : Timers). t.t1) (timers_of x p.calling o a);
    called_t1 = ap (λ (r : FlowRules). r.t1) own_far.sending ∙ ap (λ (t : Timers). t.t1) (timers_of y p.called q b);
    calling_sendings = ap (λ (r : FlowRules). r.sendings) own_here.sending ∙ ap (λ (t : Timers). t.sendings) (timers_of x p.calling o a);
    called_sendings = ap (λ (r : FlowRules). r.sendings) own_far.sending ∙ ap (λ (t : Timers). t.sendings) (timers_of y p.called q b);
  }

  -- by the timers of the calling end
  pub known_by_timers : AreKnown p.calling.base.timers.life p o q × AreAgreed p o q × AreTimed p.calling.base.timers p o q
  known_by_timers =
      subst (λ (t : Timers). AreKnown t.life p o q × AreAgreed p o q × AreTimed t p o q) (sym (timers_of x p.calling o a)) (partners_known, partners_agreed, partners_timed)
