use Rattle.std.proofs.Common.{sym, arith}
use Rattle.std.proofs.lemmas.Bool.{eqb-true, eqb-false}
use Rattle.clnp_options.proofs.Entries.{title_fronts, whole_next, whole_not, whole_end}
use Rattle.clnp_options.proofs.titles.are_whole.Goals as goal

pub returns-in_default : goal.returns-in_default
returns-in_default c =
    let some = eqb-false _ 0 (sym c.loop-rest-test.ensures) in
    whole_not c.loop-rest.rest.now _ c.in_default.ensures (omega (arith, some)) c.loop-rest.invariant

pub loop-rest-preserved : goal.loop-rest-preserved
loop-rest-preserved c =
    whole_next c.loop-rest.rest.now c.in-Some.field-0-0 c.in-Some.after.now _ c.in-Some.ensures c.loop-rest.invariant

pub loop-rest-smaller : goal.loop-rest-smaller
loop-rest-smaller c =
    let front = title_fronts c.loop-rest.rest.now c.in-Some.field-0-0 c.in-Some.after.now c.in-Some.ensures in
    omega (arith, front.shorter)

pub returns : goal.returns
returns c = whole_end c.loop-rest.rest.now _ (eqb-true _ 0 (sym c.loop-rest-test.ensures)) c.loop-rest.invariant
