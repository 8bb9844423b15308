use Rattle.std.proofs.Common.{◌∙◌, sym}
use Rattle.std.proofs.lemmas.Result.{on_ok_weaker}
use Rattle.tp4_entity.proofs.Hearings.{ignores}
use Rattle.tp4_entity.proofs.entity.TpEntity.on_unit.Goals as goal

pub returns-then-is_silent-clause-takes : goal.returns-then-is_silent-clause-takes
returns-then-is_silent-clause-takes g c =
    on_ok_weaker c.ignore.result
    (λ told. ignores c.args.now c.args.self.now c.set_clock.new.self c.args.from c.args.octets.now c.args.out.now c.ignore.new.out (sym c.is_silent.ensures ∙ c.if-is_silent.true) c.set_clock.ensures told)
    c.ignore.ensures
