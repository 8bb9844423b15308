use Rattle.std.proofs.Common.{◌≡◌, length, List, ℕ, sym, ◌∙◌, ap, subst}
use Rattle.clnp_system.specs.Forwarding.{IsOptionOnward}
use Rattle.clnp_system.proofs.Passing.{written_over}
use Rattle.clnp_system.proofs.setup.SystemSetup.onward_option.Goals as goal

pub returns : goal.returns
returns c =
    let was : c.deref_mut.result.now ≡ c.args.option.now.value.now = c.deref_mut.ensures.value ∙ c.in_ok-value.ensures.items in
    let old = c.in_ok-value.value.items in
    let new = c.change.new.value in
    let value : c.of.result ≡ new = c.of.ensures ∙ written_over c.in_ok-value.value.len new old
    (c.change.auto.value ∙ ap (λ (xs : List ℕ). length xs) c.deref_mut.ensures.value) (sym c.deref_mut.ensures.len ∙ ap (λ (xs : List ℕ). length xs) c.deref_mut.ensures.value) in
    subst (λ (xs : List ℕ). IsOptionOnward c.args.self.now (record { code = c.args.option.now.code; value = c.args.option.now.value.now }) (record { code = c.args.option.now.code; value = xs })) (sym value)
    (subst (λ (xs : List ℕ). IsOptionOnward c.args.self.now (record { code = c.args.option.now.code; value = xs }) (record { code = c.args.option.now.code; value = new })) was c.change.ensures)
