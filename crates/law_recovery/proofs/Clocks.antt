-- Ticks among what happens to a pair.
use Rattle.std.proofs.Common.{◌≡◌, ◌+◌, ◌≤◌, List, [], ◌∷◌, ◌++◌, ap, subst, arith}
use Rattle.law_tp4_pair.specs.Pair.{Asks_called, Asks_calling, Clock, Comes_back, Comes_forth, Happening, Leads, Pair, next as next_pair}
use Rattle.law_recovery_steps.specs.Going.{AreTicked}
use Rattle.law_recovery_steps.proofs.Pairs.{back_clock, forth_clock}

rises : (happenings : List Happening) (p last : Pair) → Leads p happenings last → p.clock ≤ last.clock
rises [] p last leads = let same : last.clock ≡ p.clock = ap (λ (q : Pair). q.clock) leads in omega (arith, same)
rises (Comes_forth ∷ happenings) p last leads = omega (arith, rises happenings (next_pair p Comes_forth) last leads.1, forth_clock p p.forth)
rises (Comes_back ∷ happenings) p last leads = omega (arith, rises happenings (next_pair p Comes_back) last leads.1, back_clock p p.back)
rises (Asks_calling call ∷ happenings) p last leads = rises happenings (next_pair p (Asks_calling call)) last leads.1
rises (Asks_called call ∷ happenings) p last leads = rises happenings (next_pair p (Asks_called call)) last leads.1
rises (Clock calling called ∷ happenings) p last leads = let more : p.clock + 1 ≤ last.clock = rises happenings (next_pair p (Clock calling called)) last leads.1 in omega (arith, more)

-- while the clock stands no end ticks
pub none_ticks : (happenings : List Happening) (p last : Pair) → Leads p happenings last → last.clock ≤ p.clock → AreTicked p happenings
none_ticks [] p last leads low = tt
none_ticks (Comes_forth ∷ happenings) p last leads low = none_ticks happenings (next_pair p Comes_forth) last leads.1 (omega (arith, low, forth_clock p p.forth))
none_ticks (Comes_back ∷ happenings) p last leads low = none_ticks happenings (next_pair p Comes_back) last leads.1 (omega (arith, low, back_clock p p.back))
none_ticks (Asks_calling call ∷ happenings) p last leads low = none_ticks happenings (next_pair p (Asks_calling call)) last leads.1 low
none_ticks (Asks_called call ∷ happenings) p last leads low = none_ticks happenings (next_pair p (Asks_called call)) last leads.1 low
none_ticks (Clock calling called ∷ happenings) p last leads low =
    let more : p.clock + 1 ≤ last.clock = rises happenings (next_pair p (Clock calling called)) last leads.1 in absurd (omega (arith, more, low))

pub ticked_then : (first more : List Happening) (p mid : Pair) → Leads p first mid → AreTicked p first → AreTicked mid more → AreTicked p (first ++ more)
ticked_then [] more p mid leads one two = subst (λ (q : Pair). AreTicked q more) leads two
ticked_then (Comes_forth ∷ first) more p mid leads one two = ticked_then first more (next_pair p Comes_forth) mid leads.1 one two
ticked_then (Comes_back ∷ first) more p mid leads one two = ticked_then first more (next_pair p Comes_back) mid leads.1 one two
ticked_then (Asks_calling call ∷ first) more p mid leads one two = ticked_then first more (next_pair p (Asks_calling call)) mid leads.1 one two
ticked_then (Asks_called call ∷ first) more p mid leads one two = ticked_then first more (next_pair p (Asks_called call)) mid leads.1 one two
ticked_then (Clock calling called ∷ first) more p mid leads one two = (one.0, ticked_then first more (next_pair p (Clock calling called)) mid leads.1 one.1 two)
