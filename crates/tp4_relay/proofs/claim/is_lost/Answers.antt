use Rattle.std.proofs.Common.{false, sym}
use Rattle.tp4_relay.specs.declared.claim.Claim.{Claim}
use Rattle.tp4_relay.proofs.Placed.{loss_at, no_loss}
use Rattle.tp4_relay.proofs.claim.is_lost.Goals as goal

pub returns-in-Some : goal.returns-in-Some
returns-in-Some c =
    let d : Claim = record { end = 0; gone = false } in
    let place = c.in-Some.ensures.some in
    sym (loss_at c.args.end c.args.claims.now c.in-Some.place d c.requires place.bound (place.is d))

pub returns-in-None : goal.returns-in-None
returns-in-None c = sym (no_loss c.args.end c.args.claims.now c.in-None.ensures.none)
