use Rattle.std.proofs.Common.{◌∙◌, ◌+◌, ◌-◌, ap, arith, length, set}
use Rattle.clnp_options.specs.Recording.{recording_octets, with_title}
use Rattle.clnp_options.proofs.Moves.{ends_valid, recorded_is, recorded_valid}
use Rattle.clnp_options.proofs.recording.record_here.Goals as goal

pub returns-then-end-value-clause-valid : goal.returns-then-end-value-clause-valid
returns-then-end-value-clause-valid c = ends_valid c.args.value.now c.requires

pub returns-clause-written : goal.returns-clause-written
returns-clause-written c = λ recording is fits.
    let title = c.octets-octets.result.now in
    let position = c.from-at.result - 1 in
    ap (λ xs. set xs 1 (position + (length title + 1) + 1)) c.put_title.ensures
    ∙ recorded_is c.args.value.now title position recording is (ap (λ n. n - 1) c.from-at.ensures)
    ∙ ap (λ t. recording_octets (with_title recording t)) c.octets-octets.ensures.value

pub returns-clause-valid : goal.returns-clause-valid
returns-clause-valid c =
    let title = c.octets-octets.result.now in
    let position = c.from-at.result - 1 in
    let len = ap length c.octets-octets.ensures.value in
    rw c.put_title.ensures
    (recorded_valid c.args.value.now title position c.requires c.if-offset.false
    (omega (arith, len, c.octets-octets.ensures.least)) (omega (arith, len, c.octets-octets.ensures.most))
    (ap (λ n. n - 1) c.from-at.ensures) c.if-end-value.false)
