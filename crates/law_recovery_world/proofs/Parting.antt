-- Two partners of a network part, by what is known of them; and not by what comes, since that fits.
use Rattle.std.proofs.Common.{inl, inr, ℕ, List}
use Rattle.osi_base.specs.Calls.{Call}
use Rattle.osi_base.specs.Link.{Link}
use Rattle.tp4_conn.specs.declared.states.InOpened.{InOpened}
use Rattle.tp4_conn.specs.declared.timers.Timers.{Timers}
use Rattle.law_tp4_history.specs.Ends.{Terms, Times}
use Rattle.law_tp4_pair.specs.Pair.{Comes_back, Comes_forth, Happening, Pair}
use Rattle.law_recovery_steps.specs.Beginning.{AreAgreed}
use Rattle.law_recovery_steps.specs.Known.{AreKnown}
use Rattle.law_recovery_steps.specs.Going.{HasParted, IsWrongFirst, LeavesBy}
use Rattle.law_recovery_steps.specs.Laws.{PairsPart, LinesFit}
use Rattle.law_recovery_steps.specs.Lined.{AreLined}
use Rattle.law_recovery_world.specs.Laws.{PartnersAreKnown, PartnersAreLined, PartnersPart}
use Rattle.law_recovery_world.specs.Partners.{AreTimed, IsArrival}

-- what comes is not why an end leaves
not_arrival : (t : Timers) (t0 : ℕ) (o q : InOpened) (mid : Pair) (happening : Happening) → (IsWrongFirst mid.called mid.forth → ⊥) × (IsWrongFirst mid.calling mid.back → ⊥)
    → LeavesBy t t0 o q mid happening → IsArrival happening → ⊥
not_arrival t t0 o q mid Comes_forth fits why arrival = fits.0 why
not_arrival t t0 o q mid Comes_back fits why arrival = fits.1 why
not_arrival t t0 o q mid other fits why arrival = arrival

pub partners_part : {C : Type 0} (link : C → Link (List ℕ)) (steps : C → Call (List ℕ) → C → Type 0) → PartnersAreKnown link steps → PartnersAreLined link steps → PairsPart → LinesFit → PartnersPart link steps
partners_part {C} link steps known lined part fit titles timers journal first one low x y p last o q happenings pair ticked leads =
    elim (part timers.life timers p o q happenings last begin.0 begin.1 (record {
      calling = begin.2.calling;
      called = begin.2.called;
      calling_t1 = begin.2.calling_t1;
      called_t1 = begin.2.called_t1;
      calling_sendings = begin.2.calling_sendings;
      called_sendings = begin.2.called_sendings;
    }) (record { t1 = one.timed.t1_least; sendings = one.timed.sendings_least; window = low }) ticked leads) [
      | inl opened ↦ inl opened
      | inr h ↦ inr (h, not_arrival timers p.clock o q h.mid h.happening (fits h) h.why)
    ]
  where
    begin : AreKnown timers.life p o q × AreAgreed p o q × AreTimed timers p o q
    begin = known titles timers journal first one x y p o q pair

    lines : (times : Times) × (terms : Terms) × AreLined times terms p
    lines = lined titles timers journal first one x y p o q pair

    fits : (h : HasParted timers p.clock o q p happenings last) → (IsWrongFirst h.mid.called h.mid.forth → ⊥) × (IsWrongFirst h.mid.calling h.mid.back → ⊥)
    fits h = fit timers.life lines.0 lines.1 p h.mid o q h.before begin.0 begin.1 lines.2 h.early h.opened
