-- A text without a fault is one of digits.
use Rattle.std.proofs.Common.{sym, ◌∙◌}
use Rattle.nsap.proofs.TextLemmas.{IsDigits-text_fault}
use Rattle.nsap.proofs.text.check.Goals as goal

pub returns-in-None-clause-digits : goal.returns-in-None-clause-digits
returns-in-None-clause-digits c = IsDigits-text_fault _ _ _ (sym c.fault_of.ensures ∙ c.in-None.is)
