-- A pair begins, comes to rest, and has shown what was submitted.
use Rattle.std.proofs.Common.{◌≡◌, ◌⊎◌, inl, inr, ◌<◌, ◌≤◌, ℕ, ◌+◌, max, List}
use Rattle.tp4_number.specs.Formats.{most_of}
use Rattle.tp4_conn.specs.declared.states.InOpened.{InOpened}
use Rattle.tp4_conn.specs.declared.states.StateData.TheVariants.{Opened}
use Rattle.law_tp4_pair.specs.Pair.{Happening, IsIdle, Leads, Pair, back_units, forth_units}
use Rattle.law_tp4_pair.specs.Rest.{AreAtRest}
use Rattle.law_recovery_steps.specs.Beginning.{AreAgreed}
use Rattle.law_recovery_steps.specs.Known.{AreKnown}
use Rattle.law_recovery_steps.specs.Resting.{AreLater, AreLevel, HaveWindow}
use Rattle.law_recovery_steps.specs.Showing.{AreCarried}
use Rattle.law_recovery_steps.specs.Steps.{IsParted}
use Rattle.law_recovery_steps.proofs.Beginning.{pair_begins}
use Rattle.law_recovery_steps.proofs.Resting.{pairs_rest}
use Rattle.law_recovery_steps.proofs.Showing.{pairs_show}

pub pairs_recover : (life t1 window : ℕ) (p : Pair) (o q : InOpened) (happenings : List Happening) (last : Pair) → AreKnown life p o q → AreAgreed p o q
    → o.halves.sending.rules.t1 ≡ t1 → q.halves.sending.rules.t1 ≡ t1 → HaveWindow window last → 0 < t1
    → Leads p happenings last → IsIdle last → AreLater last → p.clock + max t1 window ≤ last.clock
    → ((x y : InOpened) → last.calling.stage ≡ Opened x → last.called.stage ≡ Opened y
    → AreCarried x.halves.sending y.halves.receiving (forth_units last) × AreCarried y.halves.sending x.halves.receiving (back_units last))
    → IsParted last ⊎ ((x y : InOpened) × (last.calling.stage ≡ Opened x) × (last.called.stage ≡ Opened y) × AreAtRest last x y)
pairs_recover life t1 window p o q happenings last known agreed one_t1 other_t1 windows some leads idle later late carried =
    elim (pairs_rest life (most_of o.halves.sending.rules.format) t1 window p o q happenings last (pair_begins life p o q known agreed) one_t1 other_t1 windows some leads idle later late) [
      | inl left ↦ inl left
      | inr l ↦ inr (rests l)
    ]
  where
    rests : (l : AreLevel last) → (x y : InOpened) × (last.calling.stage ≡ Opened x) × (last.called.stage ≡ Opened y) × AreAtRest last x y
    rests l = let c = carried l.o l.q l.calling l.called in (l.o, l.q, l.calling, l.called, pairs_show last l c.0 c.1)
