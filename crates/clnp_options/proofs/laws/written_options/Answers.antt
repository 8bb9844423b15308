use Rattle.clnp_options.proofs.Written.{written_read, written_kept}
use Rattle.clnp_options.proofs.laws.written_options.Goals as goal

pub returns-clause-read : goal.returns-clause-read
returns-clause-read c = λ kind old new position options allowed written le. written_read kind old new position options allowed written le

pub returns-clause-kept : goal.returns-clause-kept
returns-clause-kept c = λ old new position options written le. written_kept old new position options written le
