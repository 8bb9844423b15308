-- An end that leaves by itself does so in time.
use Rattle.std.proofs.Common.{◌≡◌, inl, inr, ◌≤◌, ℕ, ◌+◌, max, Bool, List, arith}
use Rattle.tpdu.specs.declared.service.GoneCause.{GoneCause}
use Rattle.tpdu.specs.declared.service.GoneCause.TheVariants.{Exhausted, Inactive}
use Rattle.tp4_conn.specs.declared.states.InOpened.{InOpened}
use Rattle.tp4_conn.specs.declared.timers.Timers.{Timers}
use Rattle.law_tp4_pair.specs.Pair.{Clock, Comes_forth, Happening, Pair, next}
use Rattle.law_recovery_steps.specs.Steps.{IsParted}
use Rattle.law_recovery_steps.specs.Going.{HasParted, IsCause, LeavesBy}

cause_low : (t : Timers) (t0 tick : ℕ) (o : InOpened) (cause : GoneCause) → IsCause t t0 tick o cause → tick ≤ t0 + max t.t1 t.window
cause_low t t0 tick o Exhausted c = omega (arith, c.4)
cause_low t t0 tick o Inactive c = omega (arith, c.1)
cause_low t t0 tick o other c = absurd c

leaves_low : (t : Timers) (t0 : ℕ) (o q : InOpened) (p : Pair) (happening : Happening) → IsParted (next p happening) → LeavesBy t t0 o q p happening → (calling called : Bool) → happening ≡ Clock calling called
    → p.clock + 1 ≤ t0 + max t.t1 t.window
leaves_low t t0 o q p (Clock one other) (inl left) why calling called e = let g = (why.0 left).1 in cause_low t t0 (p.clock + 1) o g.cause g.why
leaves_low t t0 o q p (Clock one other) (inr left) why calling called e = let g = (why.1 left).1 in cause_low t t0 (p.clock + 1) q g.cause g.why
leaves_low t t0 o q p Comes_forth parted why calling called e = absurd (cc e)
leaves_low t t0 o q p other parted why calling called e = absurd (cc e)

pub parted_in_time : (t : Timers) (t0 : ℕ) (o q : InOpened) (first : Pair) (happenings : List Happening) (last : Pair) (h : HasParted t t0 o q first happenings last) (calling called : Bool)
    → h.happening ≡ Clock calling called → h.mid.clock + 1 ≤ t0 + max t.t1 t.window
parted_in_time t t0 o q first happenings last h calling called e = leaves_low t t0 o q h.mid h.happening h.parted h.why calling called e
