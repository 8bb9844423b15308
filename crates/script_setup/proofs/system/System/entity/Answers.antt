use Rattle.std.proofs.Common.{◌≡◌, ◌∙◌, [], List, take, false, ap, subst, sym, ℕ}
use Rattle.tp4_entity.specs.Association.{is_registered}
use Rattle.tp4_entity.specs.Entity.{Entity}
use Rattle.script_setup.specs.Fitting.{AreSelectorsApart}
use Rattle.script_setup.specs.SetUp.{System}
use Rattle.script_setup.proofs.Entities.{fresh_here}
use Rattle.script_setup.proofs.system.System.entity.Goals as goal

pub register-requires : goal.register-requires
register-requires c =
    let all : c.deref-selector-items.result.now ≡ c.args.self.now.selectors = c.deref-selector-items.ensures.value ∙ ap (λ (s : System). s.selectors) c.self.view_is in
    let here : is_registered (take c.loop-selector.selector-index c.deref-selector-items.result.now) c.selector-item.result ≡ false =
    fresh_here c.deref-selector-items.result.now c.loop-selector.selector-index c.selector-item.result
    (subst (AreSelectorsApart []) (sym all) c.requires.apart) c.loop-selector-test.true c.selector-item.is in
    let so_far : c.loop-selector.entity.selectors ≡ take c.loop-selector.selector-index c.deref-selector-items.result.now =
    ap (λ (e : Entity). e.selectors) c.loop-selector.invariant ∙ ap (λ (s : List (List ℕ)). take c.loop-selector.selector-index s) (sym all) in
    subst (λ (s : List ℕ). is_registered c.loop-selector.entity.selectors s ≡ false) (sym c.as_slice.ensures)
    (subst (λ (r : List (List ℕ)). is_registered r c.selector-item.result ≡ false) (sym so_far) here)
