use Rattle.std.proofs.Common.{◌==◌, not, ℕ, ◌++◌, get_or, take, drop, ap, subst}
use Rattle.clnp_header.specs.steps.Lowering.{lower_fourth}
use Rattle.clnp_header.specs.Writing.{SealsIf}
use Rattle.clnp_header.proofs.lifetime.lower.Goals as goal

pub returns : goal.returns
returns c =
    let old = c.args.octets.now in
    let low = lower_fourth old c.args.by in
    record {
      header = c.seal.new.header;
      sealed = subst (λ (n : ℕ). SealsIf (not (get_or old 7 0 == 0)) (take n low) c.seal.new.header) c.from-header.ensures c.seal.ensures;
      parts = ap (λ (n : ℕ). c.seal.new.header ++ drop n low) c.from-header.ensures;
    }
