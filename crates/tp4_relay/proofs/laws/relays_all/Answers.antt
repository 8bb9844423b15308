use Rattle.std.proofs.Common.{[]}
use Rattle.tp4_relay.specs.Kept.{nothing_kept, relay_after}
use Rattle.tp4_relay.proofs.Journals.{nothing_stands, stands_after}
use Rattle.tp4_relay.proofs.Leaving.{all_but_waiting}
use Rattle.tp4_relay.proofs.laws.relays_all.Goals as goal

pub returns : goal.returns
returns c = λ rows rules journal all.
    all_but_waiting journal (relay_after rows rules journal).pairs (stands_after [] (nothing_kept rows rules) journal (nothing_stands rows rules) all).held
