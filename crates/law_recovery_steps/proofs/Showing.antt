-- What is shown where a direction is at rest.
use Rattle.std.proofs.Common.{◌≡◌, ℕ, List, [], ◌∷◌, ◌++◌, length, take, Option, refl, sym, ◌∙◌, ap, subst}
use Rattle.tp4_flow.specs.ReceivingHalf.{Half}
use Rattle.tp4_sending.specs.SendingHalf.{FlowSender}
use Rattle.tp4_sending.specs.declared.tries.Tries.{Tries}
use Rattle.script_journal.specs.Lawful.{expediteds}
use Rattle.law_tp4_pair.specs.Pair.{Account, Pair, back_units, forth_units}
use Rattle.law_tp4_pair.specs.Carrying.{AreLeft, Carries}
use Rattle.law_tp4_pair.specs.Rest.{AreAtRest, IsAtRest, IsShown}
use Rattle.law_tp4_pair.proofs.Resting.{shows}
use Rattle.law_recovery_steps.specs.Resting.{AreLevel, IsLevel}
use Rattle.law_recovery_steps.specs.Showing.{AreCarried}
use Rattle.law_recovery_steps.specs.Urging.{AreQuiet}

taken_front : (a b : List (List ℕ)) → take (length a) (a ++ b) ≡ a
taken_front [] b = refl
taken_front (unit ∷ a) b = ap (λ (l : List (List ℕ)). unit ∷ l) (taken_front a b)

carried : (s : FlowSender) (h : Half) (u : Account) → AreQuiet s h → AreCarried s h u → Carries s h [] [] u.gave u.showed
carried s h u q c =
    let count : h.receiver.urgent ≡ length c.answered = sym q.next ∙ sym (c.answers q.out) in
    let showed : expediteds u.showed ≡ c.answered = c.urged ∙ ap (λ (n : ℕ). take n (expediteds u.gave)) count ∙ ap (take (length c.answered)) c.expedited ∙ taken_front c.answered s.urgent.units in
    record {
      some = c.some;
      full = c.full;
      acknowledged = c.acknowledged;
      normal = c.normal;
      first = c.first;
      pieces_are = tt;
      complete = c.complete;
      left = s.urgent.units;
      expedited = c.expedited ∙ ap (λ (l : List (List ℕ)). l ++ s.urgent.units) (sym showed);
      left_are = subst (λ (out : Option Tries). AreLeft out [] s.urgent.units s.urgent.units) (sym q.out) refl;
    }

pub levels_show : (s : FlowSender) (h : Half) (u : Account) → IsLevel s h → AreCarried s h u → IsAtRest s h × IsShown s h u
levels_show s h u l c = (l.rest, shows s h u l.rest (carried s h u l.quiet c))

pub pairs_show : (p : Pair) (l : AreLevel p) → AreCarried l.o.halves.sending l.q.halves.receiving (forth_units p) → AreCarried l.q.halves.sending l.o.halves.receiving (back_units p) → AreAtRest p l.o l.q
pairs_show p l c d =
    let there = levels_show l.o.halves.sending l.q.halves.receiving (forth_units p) l.there c in
    let here = levels_show l.q.halves.sending l.o.halves.receiving (back_units p) l.here d in
    record { there = there.0; here = here.0; shown_there = there.1; shown_here = here.1 }
