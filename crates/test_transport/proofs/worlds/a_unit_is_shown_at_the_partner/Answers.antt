use Rattle.std.proofs.Common.{ℕ, refl, subst, sym, ◌∙◌}
use Rattle.tp4_conn.proofs.Sizes.{size_known}
use Rattle.tp4_world.specs.steps.Parts.{AreBehind, AreLaterAll}
use Rattle.test_transport.proofs.worlds.a_unit_is_shown_at_the_partner.Goals as goal

pub talk-requires-clause-behind : goal.talk-requires-clause-behind
talk-requires-clause-behind g c =
    subst (λ (n : ℕ). AreBehind n c.in_ok-systems.systems.items) (sym (sym c.now.ensures ∙ c.if-now-ne0.false)) c.in_ok-systems.ensures.behind

pub talk-requires-clause-later : goal.talk-requires-clause-later
talk-requires-clause-later g c =
    subst (λ (n : ℕ). AreLaterAll n c.in_ok-systems.systems.items) (sym (sym c.now.ensures ∙ c.if-now-ne0.false)) c.in_ok-systems.ensures.later

pub talk-requires-clause-agreed : goal.talk-requires-clause-agreed
talk-requires-clause-agreed g c = size_known 128 refl
