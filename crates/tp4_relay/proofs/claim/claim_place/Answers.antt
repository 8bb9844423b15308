use Rattle.std.proofs.Common.{rules}
use Rattle.std.proofs.lemmas.List.Sorted.{answers_always}
use Rattle.tp4_relay.specs.steps.Rising.{claim_of}
use Rattle.tp4_relay.proofs.Columns.{found, not_found}
use Rattle.tp4_relay.proofs.claim.claim_place.Goals as goal

pub returns-in-Ok-clause-some : goal.returns-in-Ok-clause-some
returns-in-Ok-clause-some c =
    let by_key = c.in-Ok.ensures.position claim_of (answers_always _ _ _ (λ f a r g called. search rules)) in
    found claim_of c.args.claims.now c.args.end c.requires c.in-Ok.place c.in-Ok.ensures.bound by_key

pub returns-in-Err-clause-none : goal.returns-in-Err-clause-none
returns-in-Err-clause-none c =
    let by_key = c.in-Err.ensures.position claim_of (answers_always _ _ _ (λ f a r g called. search rules)) in
    not_found claim_of c.args.claims.now c.args.end c.requires c.in-Err.field-0 by_key
