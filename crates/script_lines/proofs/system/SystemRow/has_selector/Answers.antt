use Rattle.script_lines.proofs.Keys.{key_there}
use Rattle.std.proofs.Common.{◌∙◌}
use Rattle.script_lines.proofs.system.SystemRow.has_selector.Goals as goal

pub returns : goal.returns
returns c = rw (← c.self.view_is) (c.contains.ensures ∙ key_there (λ key. key.items) c.args.selector.now c.self.inside.selectors.keys)
