use Rattle.std.proofs.Common.{◌∙◌, sym}
use Rattle.clnp_options.proofs.FirstFault.{first_from_fault, fault_from_first}
use Rattle.clnp_options.proofs.Tables.{walk_agrees}
use Rattle.clnp_options.proofs.laws.first_fault.Goals as goal

pub returns : goal.returns
returns c = λ kind first octets fault. (
  λ why. first_from_fault kind first octets fault (sym (walk_agrees kind first octets) ∙ why),
  λ is. walk_agrees kind first octets ∙ fault_from_first kind first octets fault is,
)
