use Rattle.std.proofs.Common.{◌∙◌, ap, map, ℕ, List}
use Rattle.script_lines.specs.Known.{KnownSystem}
use Rattle.script_lines.proofs.Keys.{key_added}
use Rattle.script_lines.proofs.system.SystemRow.add_selector.Goals as goal

with_selectors : KnownSystem → List (List ℕ) → KnownSystem
with_selectors system selectors = record system { selectors = selectors }

pub returns-clause-ok : goal.returns-clause-ok
unfolding with_selectors
returns-clause-ok c =
    rw (← c.self.view_is)
    (ap (with_selectors (record { name = c.self.inside.name; is_end = c.self.inside.is_end; title = c.self.inside.title; ports = c.self.inside.ports.items; routes = c.self.inside.routes.items; selectors = map (λ key. key.items) c.self.inside.selectors.keys }))
    (ap (map (λ key. key.items)) c.in_ok-insert.ensures.keys ∙ key_added (λ key. key.items) c.self.inside.selectors.keys c.args.selector))
