use Rattle.std.proofs.Common.{◌≡◌, ◌<◌, ◌∙◌, ap, sym, arith, get_or, length}
use Rattle.std.specs.List.{list_any}
use Rattle.lan_step.specs.Receivers.{is_one_of}
use Rattle.lan_bag.specs.steps.Setting.{Setting}
use Rattle.lan_bag.proofs.LanLists.{none_named, rows_listed}
use Rattle.lan_bag.proofs.setup.Setup.may_reach.Goals as goal

pub returns-in-Some : goal.returns-in-Some
returns-in-Some c shut =
    let lists : c.deref.result.now ≡ c.self.inside.lists.items = c.deref.ensures.value in
    let lt : c.args.to.now.lan < length c.self.inside.lists.items = omega (arith, c.in-Some.ensures.lookup.3.0, ap length lists, c.from.ensures) in
    let at : c.in-Some.list.now ≡ get_or c.self.inside.lists.items c.args.to.now.lan c.in-Some.list.now = cc c.in-Some.ensures.lookup.1 in
    sym (ap (λ (s : Setting). list_any (is_one_of c.args.to.now) s.rows) c.self.view_is)
    ∙ none_named c.args.to.now c.in-Some.list.now c.self.inside.rows.items
    (rows_listed c.self.inside.lists.items c.self.inside.rows.items c.args.to.now.lan c.in-Some.list.now lt at c.self.invariant)
    (c.may_name.ensures shut)
