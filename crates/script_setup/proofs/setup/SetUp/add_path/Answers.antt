use Rattle.std.proofs.Common.{subst, sym, ◌∙◌, ap, map}
use Rattle.script_setup.specs.SetUp.{SetUp, title_at}
use Rattle.script_setup.specs.Fitting.{IsNewPath}
use Rattle.script_setup.proofs.Adding.{path_added}
use Rattle.script_setup.proofs.setup.SetUp.add_path.Goals as goal

pub invariant_of-self : goal.invariant_of-self
invariant_of-self c =
    path_added c.add_path.result c.self.inside.shared c.add_path.new.self c.self.inside.systems.items c.is_complete-complete.result c.in_ok-titles.titles c.args.systems.now c.self.invariant
    (subst (λ (s : SetUp). IsNewPath s c.args.systems.now) (sym c.self.view_is) c.requires)
    (c.in_ok-titles.ensures ∙ ap (λ (s : SetUp). map (title_at s.systems) c.args.systems.now) (sym c.self.view_is))
    c.add_path.ensures.ok c.add_path.ensures.err
