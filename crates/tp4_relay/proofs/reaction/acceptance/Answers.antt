use Rattle.std.proofs.Common.{List, ℕ, get_or, sym, ◌∙◌, ap}
use Rattle.tp4_conn.specs.declared.call.UserCall.TheVariants as asks
use Rattle.tp4_relay.specs.declared.pair.Pair.{Pair}
use Rattle.tp4_relay.specs.declared.reaction.Reaction.TheVariants.{Ask}
use Rattle.tp4_relay.specs.Pairs.{is_closed}
use Rattle.tp4_relay.specs.Reaction.{confirms}
use Rattle.tp4_relay.proofs.OpenPlaces.{any_default}
use Rattle.tp4_relay.proofs.Placed.{confirms_closed, confirms_open, outbound_missing}
use Rattle.tp4_relay.proofs.reaction.acceptance.Goals as goal

pub returns-in_default : goal.returns-in_default
returns-in_default c = sym (ap (confirms c.args.options c.args.octets.now) (outbound_missing c.args.pairs.now c.args.end c.in_default.ensures.none))

pub returns-then-is_closed : goal.returns-then-is_closed
returns-then-is_closed c =
    confirms_closed c.args.options c.args.octets.now c.args.pairs.now c.args.end c.in-Some.place c.index-pairs-place.result c.requires c.in-Some.ensures.some
    (ap (λ (p : Pair). is_closed p.phase) (sym c.index-pairs-place.is) ∙ sym c.is_closed.ensures ∙ c.if-is_closed.true)

pub returns : goal.returns
returns c =
    let place = c.in-Some.ensures.some in
    ap (λ (p : Pair). Ask p.inbound (asks.Accept c.args.options c.in_ok-octets.octets)) (any_default c.args.pairs.now c.in-Some.place c.index-pairs-place-2.result c.index-pairs-place.result place.bound)
    ∙ ap (λ (x : List ℕ). Ask (get_or c.args.pairs.now c.in-Some.place c.index-pairs-place.result).inbound (asks.Accept c.args.options x)) (c.in_ok-octets.ensures ∙ c.as_slice.ensures)
    ∙ confirms_open c.args.options c.args.octets.now c.args.pairs.now c.args.end c.in-Some.place c.index-pairs-place.result c.requires place
    (ap (λ (p : Pair). is_closed p.phase) (sym c.index-pairs-place.is) ∙ sym c.is_closed.ensures ∙ c.if-is_closed.false)
