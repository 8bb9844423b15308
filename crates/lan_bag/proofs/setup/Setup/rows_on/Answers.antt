use Rattle.std.proofs.Common.{◌≡◌, ◌<◌, ◌∙◌, ap, arith, get_or, length, List}
use Rattle.lan_step.specs.declared.row.PortRow.{PortRow}
use Rattle.lan_bag.specs.steps.Setting.{Setting, rows_on}
use Rattle.lan_bag.proofs.LanLists.{rows_listed}
use Rattle.lan_bag.proofs.setup.Setup.rows_on.Goals as goal

pub returns-in-Some : goal.returns-in-Some
returns-in-Some c =
    let lists : c.deref.result.now ≡ c.self.inside.lists.items = c.deref.ensures.value in
    let lt : c.args.lan < length c.self.inside.lists.items = omega (arith, c.in-Some.ensures.lookup.3.0, ap length lists, c.from.ensures) in
    let at : c.in-Some.list.now ≡ get_or c.self.inside.lists.items c.args.lan c.in-Some.list.now = cc c.in-Some.ensures.lookup.1 in
    ap (λ (rows : List PortRow). rows_on rows c.args.lan) c.rows.ensures
    ∙ (rows_listed c.self.inside.lists.items c.self.inside.rows.items c.args.lan c.in-Some.list.now lt at c.self.invariant
    ∙ ap (λ (s : Setting). rows_on s.rows c.args.lan) c.self.view_is)
