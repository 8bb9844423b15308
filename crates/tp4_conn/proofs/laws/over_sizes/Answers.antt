use Rattle.tp4_conn.proofs.Agreed.{agreed_lesser, agreed_within, options_back, request_back}
use Rattle.tp4_conn.proofs.Sizes.{agreed_sized, proposal_by}
use Rattle.tp4_conn.proofs.laws.over_sizes.Goals as goal

pub returns : goal.returns
returns c = record {
  proposed = proposal_by;
  request = request_back;
  agreed = agreed_sized;
  lesser = agreed_lesser;
  confirm = options_back;
  within = agreed_within;
}
