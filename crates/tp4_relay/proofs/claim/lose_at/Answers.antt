use Rattle.std.proofs.Common.{false}
use Rattle.tp4_relay.specs.declared.claim.Claim.{Claim}
use Rattle.tp4_relay.proofs.Placed.{missed_lost, set_lost}
use Rattle.tp4_relay.proofs.claim.lose_at.Goals as goal

pub returns-in-Some : goal.returns-in-Some
returns-in-Some c =
    let d : Claim = record { end = 0; gone = false } in
    set_lost c.args.claims.now c.args.end c.in-Some.place c.requires c.in-Some.ensures.some d

pub returns-in_default : goal.returns-in_default
returns-in_default c = missed_lost c.args.claims.now c.args.end c.in_default.ensures.none
