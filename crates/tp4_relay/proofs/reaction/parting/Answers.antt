use Rattle.std.proofs.Common.{Some, sym, ◌∙◌, ap}
use Rattle.tp4_relay.specs.declared.pair.Pair.{Pair}
use Rattle.tp4_relay.specs.Reaction.{goes, inbound_goes, outbound_goes}
use Rattle.tp4_relay.proofs.Placed.{inbound_missing, inbound_there, outbound_missing, outbound_there}
use Rattle.tp4_relay.proofs.reaction.parting.Goals as goal

pub returns-in-Some : goal.returns-in-Some
returns-in-Some c =
    c.after_inbound.ensures ∙ ap inbound_goes c.index-pairs-place.is
    ∙ sym (ap (goes c.args.pairs.now c.args.end) (inbound_there c.args.pairs.now c.args.end c.in-Some.place c.index-pairs-place.result c.requires.inbound c.in-Some.ensures.some))

pub returns-in-Some-outbound_place : goal.returns-in-Some-outbound_place
returns-in-Some-outbound_place c =
    c.after_outbound.ensures ∙ ap (λ (p : Pair). outbound_goes (Some p)) c.index-pairs-place-in-Some-outbound_place.is
    ∙ sym (ap (goes c.args.pairs.now c.args.end) (inbound_missing c.args.pairs.now c.args.end c.in_default.ensures.none)
    ∙ ap outbound_goes (outbound_there c.args.pairs.now c.args.end c.in-Some-outbound_place.place c.index-pairs-place-in-Some-outbound_place.result c.requires.outbound c.in-Some-outbound_place.ensures.some))

pub returns : goal.returns
returns c =
    sym (ap (goes c.args.pairs.now c.args.end) (inbound_missing c.args.pairs.now c.args.end c.in_default.ensures.none)
    ∙ ap outbound_goes (outbound_missing c.args.pairs.now c.args.end c.in_default-outbound_place.ensures.none))
