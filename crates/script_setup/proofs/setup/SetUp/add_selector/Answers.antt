use Rattle.std.proofs.Common.{◌≡◌, length, refl, subst, sym, Some, ℕ}
use Rattle.std.specs.Prelude.{slice_get}
use Rattle.std.proofs.lemmas.Option.{slice_get_read}
use Rattle.script_setup.specs.SetUp.{SetUp}
use Rattle.script_setup.specs.Fitting.{IsNewSelector}
use Rattle.script_setup.proofs.Adding.{selector_added, selector_set}
use Rattle.script_setup.proofs.setup.SetUp.add_selector.Goals as goal

pub invariant_of-self : goal.invariant_of-self
invariant_of-self c =
    let setup : SetUp = record c.self.inside.shared { systems = c.self.inside.systems.items } in
    let fits : IsNewSelector setup c.from.result c.args.selector =
    subst (λ (n : ℕ). IsNewSelector setup n c.args.selector) (sym c.from.ensures) (subst (λ (s : SetUp). IsNewSelector s c.args.system c.args.selector) (sym c.self.view_is) c.requires) in
    let is : slice_get c.self.inside.systems.items c.from.result ≡ Some c.index_mut-system.result.now =
    slice_get_read c.self.inside.systems.items (length c.self.inside.systems.items) c.from.result c.index_mut-system.result.now refl fits.known c.index_mut-system.ensures.value in
    selector_added c.add_selector.result setup c.from.result c.index_mut-system.result.now c.add_selector.new.self c.args.selector c.self.invariant is fits
    c.add_selector.ensures.ok c.add_selector.ensures.err

pub returns : goal.returns
returns c =
    let setup : SetUp = record c.self.inside.shared { systems = c.self.inside.systems.items } in
    let fits : IsNewSelector setup c.from.result c.args.selector =
    subst (λ (n : ℕ). IsNewSelector setup n c.args.selector) (sym c.from.ensures) (subst (λ (s : SetUp). IsNewSelector s c.args.system c.args.selector) (sym c.self.view_is) c.requires) in
    let is : slice_get c.self.inside.systems.items c.from.result ≡ Some c.index_mut-system.result.now =
    slice_get_read c.self.inside.systems.items (length c.self.inside.systems.items) c.from.result c.index_mut-system.result.now refl fits.known c.index_mut-system.ensures.value in
    selector_set c.add_selector.result setup c.args.self.now c.from.result c.args.system c.index_mut-system.result.now c.add_selector.new.self c.args.selector c.from.ensures is c.self.view_is
    c.add_selector.ensures.ok
