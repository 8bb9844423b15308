-- What was dropped is what is listed.
use Rattle.std.proofs.Common.{sym}
use Rattle.esis_pdu.proofs.Fields.{after_fits, listed_found}
use Rattle.esis_pdu.proofs.reading.addresses_at.Goals as goal

pub overflow_sub-used : goal.overflow_sub-used
overflow_sub-used c = after_fits _ _ _ (sym c.in_ok-after.ensures)

pub returns : goal.returns
returns c = sym (listed_found _ _ _ _ c.in-len1-up.len_at_least (sym c.in_ok-after.ensures) c.of.ensures.count c.of.ensures.octets)
