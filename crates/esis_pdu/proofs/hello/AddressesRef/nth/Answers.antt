-- Each turn passes the address at the front.
use Rattle.std.proofs.Common.{arith, sym, ◌∙◌}
use Rattle.esis_pdu.proofs.Addresses.{nth_goes_on, nth_last, nth_none, past_count}
use Rattle.esis_pdu.proofs.hello.AddressesRef.nth.Goals as goal

pub returns-then-index-from-clause-value : goal.returns-then-index-from-clause-value
returns-then-index-from-clause-value c = sym (past_count _ _ _ (omega arith))

pub returns-in_default-clause-value : goal.returns-in_default-clause-value
returns-in_default-clause-value c = sym (nth_none _ _ _ (sym c.in_default.ensures)) ∙ c.loop.invariant

pub loop-preserved : goal.loop-preserved
loop-preserved c = nth_goes_on _ _ _ _ _ _ c.loop-test.true (omega arith) (sym c.in-Some.ensures) ∙ c.loop.invariant

pub returns-clause-value : goal.returns-clause-value
returns-clause-value c = c.first_address.ensures ∙ sym (nth_last _ _ _ _ c.loop-test.false (omega arith) (omega arith)) ∙ c.loop.invariant
