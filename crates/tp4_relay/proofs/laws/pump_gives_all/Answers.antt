use Rattle.std.proofs.Common.{[], sym, subst}
use Rattle.std.specs.List.{AllByRecursion}
use Rattle.tp4_relay.specs.Kept.{Kept, nothing_kept}
use Rattle.tp4_relay.proofs.Journals.{nothing_stands, stands_after}
use Rattle.tp4_relay.proofs.Leaving.{all_given}
use Rattle.tp4_relay.proofs.PairsHold.{PairHolds}
use Rattle.tp4_relay.proofs.laws.pump_gives_all.Goals as goal

pub returns : goal.returns
returns g c = λ rows rules journal old kept line done made new last allowed is all.
    all_given g.S.Service.connects g.S.Service.calls journal old kept line done made new last all.step
    (subst (λ (k : Kept). AllByRecursion (PairHolds journal) k.pairs) (sym is) (stands_after [] (nothing_kept rows rules) journal (nothing_stands rows rules) allowed).held) all.served
