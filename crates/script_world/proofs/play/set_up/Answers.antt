use Rattle.std.proofs.Common.{rules}
use Rattle.script_world.specs.steps.Staged.{start_step}
use Rattle.script_world.proofs.play.set_up.Goals as goal

pub returns : goal.returns
returns g c =
    start_step g.P.Play.play c.args.world.now c.in-SettingUp.setup c.replace-setup.result c.args.line c.start.new.events.items c.in_ok-world-in-SettingUp.field-0 (search rules) c.replace-setup.ensures.value (search rules)
    c.in_ok-world-in-SettingUp.ensures
