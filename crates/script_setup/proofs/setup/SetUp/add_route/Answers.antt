use Rattle.std.proofs.Common.{◌≡◌, ◌∙◌, ap, length, refl, subst, sym, Some, ℕ}
use Rattle.std.specs.Prelude.{slice_get}
use Rattle.std.proofs.lemmas.Option.{slice_get_read}
use Rattle.script_setup.specs.SetUp.{SetUp, hop_to}
use Rattle.script_setup.specs.Fitting.{IsNewRoute}
use Rattle.script_setup.proofs.Adding.{no_way, route_added}
use Rattle.script_setup.proofs.setup.SetUp.add_route.Goals as goal

pub unreachable-requires : goal.unreachable-requires
unreachable-requires c = no_way c.args.self.now c.args.next c.args.lan (sym c.hop_to.ensures ∙ c.in_default.is) c.requires.there

pub invariant_of-self : goal.invariant_of-self
invariant_of-self c =
    let setup : SetUp = record c.self.inside.shared { systems = c.self.inside.systems.items } in
    let fits : IsNewRoute setup c.from.result c.args.prefix c.args.next c.args.lan =
    subst (λ (n : ℕ). IsNewRoute setup n c.args.prefix c.args.next c.args.lan) (sym c.from.ensures)
    (subst (λ (s : SetUp). IsNewRoute s c.args.system c.args.prefix c.args.next c.args.lan) (sym c.self.view_is) c.requires) in
    let is : slice_get c.self.inside.systems.items c.from.result ≡ Some c.index_mut-system.result.now =
    slice_get_read c.self.inside.systems.items (length c.self.inside.systems.items) c.from.result c.index_mut-system.result.now refl fits.known c.index_mut-system.ensures.value in
    route_added c.add_route.result setup c.from.result c.index_mut-system.result.now c.add_route.new.self c.args.prefix c.in-Some.hop c.args.next c.args.lan c.self.invariant is fits
    (ap (λ (s : SetUp). hop_to s c.args.next c.args.lan) c.self.view_is ∙ sym c.in-Some.ensures) c.add_route.ensures.ok c.add_route.ensures.err
