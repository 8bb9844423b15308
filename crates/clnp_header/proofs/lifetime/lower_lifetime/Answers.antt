use Rattle.clnp_header.proofs.LifetimeLowered.{fits_from, is_kept, is_lowered}
use Rattle.clnp_header.proofs.lifetime.lower_lifetime.Goals as goal

pub lower-requires : goal.lower-requires
lower-requires c =
    let fits = fits_from c.args.octets.now c.args.by c.requires in
    record { least = fits.least; inside = fits.inside; enough = fits.enough }

pub returns-clause-lowered : goal.returns-clause-lowered
returns-clause-lowered c = is_lowered c.args.octets.now c.args.by c.lower.new.octets c.lower.ensures

pub returns-clause-kept : goal.returns-clause-kept
returns-clause-kept c = is_kept c.args.octets.now c.args.by c.lower.new.octets (fits_from c.args.octets.now c.args.by c.requires) c.lower.ensures
