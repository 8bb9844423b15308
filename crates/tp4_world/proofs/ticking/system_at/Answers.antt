use Rattle.std.proofs.Common.{◌∙◌, ap, sym, Some}
use Rattle.std.proofs.lemmas.Option.{slice_get-get_or}
use Rattle.tp4_world.specs.declared.place.Placed.{Placed}
use Rattle.tp4_world.proofs.Entities.{system_read}
use Rattle.tp4_world.proofs.ticking.system_at.Goals as goal

pub returns : goal.returns
returns c =
    sym (system_read c.args.transport.now.entities.items c.deref.result.now c.args.place (Some c.in-Some.one.now) c.deref.ensures.value
    (ap (λ (p : Placed). Some p) (c.in-Some.ensures.lookup.3.1 c.in-Some.one.now) ∙ sym (slice_get-get_or c.deref.result.now c.args.place c.in-Some.one.now c.in-Some.ensures.lookup.3.0)))
