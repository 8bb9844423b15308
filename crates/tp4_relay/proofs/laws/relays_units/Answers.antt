use Rattle.std.proofs.Common.{[]}
use Rattle.tp4_relay.specs.Kept.{kept_after, nothing_kept}
use Rattle.tp4_relay.proofs.Journals.{front_allowed, nothing_stands, relays_units, stands_after}
use Rattle.tp4_relay.proofs.laws.relays_units.Goals as goal

pub returns : goal.returns
returns c = λ rows rules front back all.
    relays_units front (kept_after (nothing_kept rows rules) front)
    (stands_after [] (nothing_kept rows rules) front (nothing_stands rows rules) (front_allowed (nothing_kept rows rules) front back all))
