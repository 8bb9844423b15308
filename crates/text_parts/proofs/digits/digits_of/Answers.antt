use Rattle.std.proofs.Common.{◌*◌, ◌+◌, ℕ, ap, ◌∙◌, arith, slice_index}
use Rattle.text_parts.specs.declared.digits.TheConstants.{PAIRS}
use Rattle.text_parts.proofs.Pairs.{pairs_at}
use Rattle.text_parts.proofs.digits.digits_of.Goals as goal

pub returns-clause-high : goal.returns-clause-high
returns-clause-high c =
    ap (λ (n : ℕ). slice_index PAIRS (2 * n)) c.from-pair.ensures ∙ (pairs_at c.args.octet (omega (arith, c.ranges.octet.fits))).0

pub returns-clause-low : goal.returns-clause-low
returns-clause-low c =
    ap (λ (n : ℕ). slice_index PAIRS (2 * n + 1)) c.from-pair.ensures ∙ (pairs_at c.args.octet (omega (arith, c.ranges.octet.fits))).1
