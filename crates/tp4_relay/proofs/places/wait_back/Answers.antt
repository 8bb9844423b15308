use Rattle.std.proofs.Common.{get_or, set, ◌∙◌, ap}
use Rattle.std.proofs.lemmas.List.{set-get_or}
use Rattle.tp4_relay.specs.declared.pair.Heading.TheVariants.{Back}
use Rattle.tp4_relay.specs.declared.unit.MarkedUnit.{MarkedUnit}
use Rattle.tp4_relay.specs.Pairs.{Waits, changed}
use Rattle.tp4_relay.specs.steps.Marks.{unit_of}
use Rattle.tp4_relay.proofs.Placed.{missed_outbound, on_err, set_outbound}
use Rattle.tp4_relay.proofs.places.wait_back.Goals as goal

pub returns-in_ok-wait-clause-ok : goal.returns-in_ok-wait-clause-ok
returns-in_ok-wait-clause-ok c =
    ap (set c.args.pairs.now c.in-Some.place) c.in_ok-wait.ensures.ok
    ∙ ap (λ (u : MarkedUnit). set c.args.pairs.now c.in-Some.place (changed (get_or c.args.pairs.now c.in-Some.place c.index-pairs-place.result) (Waits Back u))) c.in_ok-unit.ensures
    ∙ set_outbound c.args.pairs.now c.args.end c.in-Some.place (Waits Back (unit_of c.args.mark c.args.octets.now)) c.requires c.in-Some.ensures.some c.index-pairs-place.result

pub returns-in_err-wait-clause-err : goal.returns-in_err-wait-clause-err
returns-in_err-wait-clause-err c =
    on_err _ _ (ap (set c.args.pairs.now c.in-Some.place) c.in_err-wait.ensures.err ∙ set-get_or c.args.pairs.now c.in-Some.place c.index-pairs-place.result)

pub returns-in_default-clause-ok : goal.returns-in_default-clause-ok
returns-in_default-clause-ok c = missed_outbound c.args.pairs.now c.args.end (Waits Back (unit_of c.args.mark c.args.octets.now)) c.in_default.ensures.none
