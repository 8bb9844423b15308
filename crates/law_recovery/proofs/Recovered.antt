-- Ends recover over the numbers of the wire where they do over whole numbers: an end has the same state there, but for the numbers that it expects. So it has the same sending half, what it took
-- last and the same credit, and neither why an end goes nor what it has shown asks for more.
use Rattle.std.proofs.Common.{◌≡◌, ◌⊎◌, ℕ, List, ◌++◌, Some, inl, inr, sym, ◌∙◌, ap, subst}
use Rattle.std.specs.Prelude.{option_map}
use Rattle.osi_base.specs.Link.{Link}
use Rattle.script_journal.specs.declared.event.Event.{Event}
use Rattle.tpdu.specs.declared.service.GoneCause.{GoneCause}
use Rattle.tpdu.specs.declared.service.GoneCause.TheVariants.{Exhausted, Inactive}
use Rattle.tp4_conn.specs.End.{End}
use Rattle.tp4_conn.specs.Wire.{end_on_wire, halves_on_wire, stage_on_wire}
use Rattle.tp4_conn.specs.declared.states.InOpened.{InOpened}
use Rattle.tp4_conn.specs.declared.timers.Timers.{Timers}
use Rattle.tp4_world.specs.Wire.{world_on_wire}
use Rattle.tp4_world.specs.World.{World, end_numbered}
use Rattle.law_calm_run.specs.Service.{end_at_number}
use Rattle.law_calm_run.proofs.WiredEnds.{placed_on, upper_end, upper_open}
use Rattle.law_recovery_steps.specs.Causes.{IsCause}
use Rattle.law_recovery_run.specs.Recovered.{AreBack, By_itself, By_user, Goes, HaveGone, IsOver, Recovered}

-- the state of an end that is Opened, over the numbers of the wire
abbrev pub opened_on_wire : InOpened → InOpened
opened_on_wire o = record o { halves = halves_on_wire o.halves }

-- ---- one end

lower_end : {C : Type 0} (world : World C) (number : ℕ) (end : End) → end_at_number world number ≡ Some end → end_at_number (world_on_wire world) number ≡ Some (end_on_wire end)
lower_end world number end is = placed_on world number (end_numbered world.ends number) ∙ ap (option_map end_on_wire) is

over_on_wire : {C : Type 0} (last : World C) (number : ℕ) → IsOver last number → IsOver (world_on_wire last) number
over_on_wire last number over e o stands opened =
    let upper = upper_end last number e stands in
    let there = upper_open upper.end.stage o (sym (ap (λ (x : End). x.stage) upper.is) ∙ opened) in
    over upper.end there.opened upper.stands there.stage_is

cause_on_wire : (t : Timers) (t0 tick : ℕ) (o : InOpened) (cause : GoneCause) → IsCause t t0 tick o cause → IsCause t t0 tick (opened_on_wire o) cause
cause_on_wire t t0 tick o Exhausted why = why
cause_on_wire t t0 tick o Inactive why = why
cause_on_wire t t0 tick o other why = absurd why

goes_on_wire : (t : Timers) (t0 : ℕ) (early late : List Event) (end : ℕ) (o : InOpened) → Goes t t0 early late end o → Goes t t0 early late end (opened_on_wire o)
goes_on_wire t t0 early late end o (By_user octets stands) = By_user octets stands
goes_on_wire t t0 early late end o (By_itself tick cause why at) = By_itself tick cause (cause_on_wire t t0 tick o cause why) at

-- ---- the two

first_on_wire : (t : Timers) (t0 : ℕ) (early late : List Event) (calling called : ℕ) (o q : InOpened) → Goes t t0 early late calling o ⊎ Goes t t0 early late called q
    → Goes t t0 early late calling (opened_on_wire o) ⊎ Goes t t0 early late called (opened_on_wire q)
first_on_wire t t0 early late calling called o q (inl goes) = inl (goes_on_wire t t0 early late calling o goes)
first_on_wire t t0 early late calling called o q (inr goes) = inr (goes_on_wire t t0 early late called q goes)

gone_on_wire : {C : Type 0} (t : Timers) (t0 : ℕ) (early late : List Event) (last : World C) (calling called : ℕ) (o q : InOpened) → HaveGone t t0 early late last calling called o q
    → HaveGone t t0 early late (world_on_wire last) calling called (opened_on_wire o) (opened_on_wire q)
gone_on_wire t t0 early late last calling called o q h = record {
  first = first_on_wire t t0 early late calling called o q h.first;
  calling_over = over_on_wire last calling h.calling_over;
  called_over = over_on_wire last called h.called_over;
}

-- ends that are back
pub back_on_wire : {C : Type 0} (t : Timers) (t0 now : ℕ) (journal : List Event) (last : World C) (calling called : ℕ) → AreBack t t0 now journal last calling called
    → AreBack t t0 now journal (world_on_wire last) calling called
back_on_wire t t0 now journal last calling called b = record {
  x = end_on_wire b.x;
  y = end_on_wire b.y;
  o = opened_on_wire b.o;
  q = opened_on_wire b.q;
  calling_is = lower_end last calling b.x b.calling_is;
  called_is = lower_end last called b.y b.called_is;
  calling_open = ap stage_on_wire b.calling_open;
  called_open = ap stage_on_wire b.called_open;
  there = λ past. record { expedited = (b.there past).expedited; normal = (b.there past).normal };
  here = λ past. record { expedited = (b.here past).expedited; normal = (b.here past).normal };
}

abbrev Comes : {C : Type 0} → (C → Link (List ℕ)) → Timers → World C → World C → List Event → List Event → ℕ → ℕ → InOpened → InOpened → Type 0
Comes link t at_t0 last early late calling called o q =
    AreBack t (link at_t0.carrier).clock (link last.carrier).clock (early ++ late) last calling called ⊎ HaveGone t (link at_t0.carrier).clock early late last calling called o q

either_on_wire : {C : Type 0} (link : C → Link (List ℕ)) (t : Timers) (at_t0 last : World C) (early late : List Event) (calling called : ℕ) (o q : InOpened) → Comes link t at_t0 last early late calling called o q
    → Comes link t (world_on_wire at_t0) (world_on_wire last) early late calling called (opened_on_wire o) (opened_on_wire q)
either_on_wire link t at_t0 last early late calling called o q (inl back) =
    inl (back_on_wire t (link at_t0.carrier).clock (link last.carrier).clock (early ++ late) last calling called back)
either_on_wire link t at_t0 last early late calling called o q (inr gone) = inr (gone_on_wire t (link at_t0.carrier).clock early late last calling called o q gone)

pub recovered_on_wire : {C : Type 0} (link : C → Link (List ℕ)) (t : Timers) (at_t0 last : World C) (early late : List Event) → Recovered link t at_t0 last early late
    → Recovered link t (world_on_wire at_t0) (world_on_wire last) early late
recovered_on_wire {C} link t at_t0 last early late recovered calling called x y o q are x_at y_at x_open y_open =
    let one = upper_end at_t0 calling x x_at in
    let other = upper_end at_t0 called y y_at in
    let first = upper_open one.end.stage o (sym (ap (λ (e : End). e.stage) one.is) ∙ x_open) in
    let second = upper_open other.end.stage q (sym (ap (λ (e : End). e.stage) other.is) ∙ y_open) in
    let P : InOpened → InOpened → Type 0 = λ a b. Comes link t (world_on_wire at_t0) (world_on_wire last) early late calling called a b in
    subst (λ (a : InOpened). P a q) (sym first.is)
    (subst (λ (b : InOpened). P (opened_on_wire first.opened) b) (sym second.is)
    (either_on_wire link t at_t0 last early late calling called first.opened second.opened
    (recovered calling called one.end other.end first.opened second.opened are one.stands other.stands first.stage_is second.stage_is)))
