use Rattle.std.proofs.Common.{ℕ, List, ap, ◌∙◌, option_map}
use Rattle.clnp_options.proofs.Moves.{hop_is, way_iff}
use Rattle.clnp_options.proofs.source_route.next_source_hop.Goals as goal

pub returns-in-Some-clause-title : goal.returns-in-Some-clause-title
returns-in-Some-clause-title c = λ route is.
    ap (option_map (λ (x : List ℕ × List ℕ). x.0)) c.in-Some.ensures ∙ hop_is c.args.value.now c.ahead.result.now route c.ahead.ensures is

pub returns-in-Some-clause-way : goal.returns-in-Some-clause-way
returns-in-Some-clause-way c =
    way_iff c.args.value.now _ c.requires (λ route is.
    ap (option_map (λ (x : List ℕ × List ℕ). x.0)) c.in-Some.ensures ∙ hop_is c.args.value.now c.ahead.result.now route c.ahead.ensures is)

pub returns-in-None-clause-title : goal.returns-in-None-clause-title
returns-in-None-clause-title c = λ route is.
    ap (option_map (λ (x : List ℕ × List ℕ). x.0)) c.in-None.ensures ∙ hop_is c.args.value.now c.ahead.result.now route c.ahead.ensures is

pub returns-in-None-clause-way : goal.returns-in-None-clause-way
returns-in-None-clause-way c =
    way_iff c.args.value.now _ c.requires (λ route is.
    ap (option_map (λ (x : List ℕ × List ℕ). x.0)) c.in-None.ensures ∙ hop_is c.args.value.now c.ahead.result.now route c.ahead.ensures is)
