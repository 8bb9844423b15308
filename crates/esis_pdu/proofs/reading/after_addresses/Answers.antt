-- Each turn drops the address at the front.
use Rattle.std.proofs.Common.{arith, sym, ◌∙◌}
use Rattle.esis_pdu.proofs.Addresses.{after_done, after_goes_on, after_none}
use Rattle.esis_pdu.proofs.reading.after_addresses.Goals as goal

pub returns-in_default : goal.returns-in_default
returns-in_default c = sym (after_none _ _ (omega arith) (sym c.in_default.ensures)) ∙ c.loop.invariant

pub loop-preserved : goal.loop-preserved
loop-preserved c = after_goes_on _ _ _ _ _ c.loop-test.true (sym c.in-Some.ensures) ∙ c.loop.invariant

pub returns : goal.returns
returns c = sym (after_done _ _ _ c.loop-test.false) ∙ c.loop.invariant
