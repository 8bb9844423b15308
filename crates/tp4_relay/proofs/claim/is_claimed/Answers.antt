use Rattle.std.proofs.Common.{◌∙◌}
use Rattle.tp4_relay.proofs.Placed.{is_claimed_by}
use Rattle.tp4_relay.proofs.claim.is_claimed.Goals as goal

pub returns : goal.returns
returns c = c.is_some.ensures ∙ is_claimed_by c.args.claims.now c.args.end c.claim_place.result c.claim_place.ensures.some c.claim_place.ensures.none
