use Rattle.std.proofs.Common.{◌∙◌, ◌<◌, ℕ, sym, ap, subst}
use Rattle.esis_tables.specs.Rows.{Rows}
use Rattle.osi_base.specs.Floated.{is_young}
use Rattle.std.specs.List.{filter}
use Rattle.law_clnp_step.specs.Network.{Network}
use Rattle.clnp_system.specs.Tables.{rows_tables}
use Rattle.law_clnp_step.proofs.Passed.{tick_soundly}
use Rattle.clnp_net.proofs.Parts.{network_of, ticked_whole}
use Rattle.clnp_net.proofs.net.ClnpNet.tick_once.Goals as goal

pub invariant_of-self-2 : goal.invariant_of-self-2
invariant_of-self-2 g c = λ _.
    tick_soundly g.C.Carrier.link g.C.Carrier.steps g.met.C.Carrier.keeps rows_tables
    (network_of c.self.inside.link c.self.inside.systems c.self.inside.floating c.self.inside.waiting.items c.self.inside.strays c.self.inside.life) _ (c.self.invariant c.in_ok-go_on.ensures) (subst (λ (n : Network _ Rows). (g.C.Carrier.link n.link).clock < 4000000000) (sym c.self.view_is) c.requires)
    (ticked_whole g.C.Carrier.link g.C.Carrier.steps
    (network_of c.self.inside.link c.self.inside.systems c.self.inside.floating c.self.inside.waiting.items c.self.inside.strays c.self.inside.life) c.now-now.result c.tick.new.self c.pass_notes.new.link c.tick_all.new.link
    c.tick_all.new.systems c.drop_older.new.self c.pass_notes.new.waiting.items c.tick_all.new.waiting.items (c.now-now.ensures ∙ c.in_ok-tick.ensures.link.clock) c.in_ok-tick.ensures.steps c.in_ok-pass_notes.ensures c.in_ok-tick_all.ensures
    c.drop_older.ensures.limit (c.drop_older.ensures.entries ∙ ap (λ (n : ℕ). filter (is_young c.now-now.result n) c.self.inside.floating.entries) c.from.ensures))

pub returns : goal.returns
returns g c = rw (← c.self.view_is) (
  (c.self.invariant c.in_ok-go_on.ensures, subst (λ (n : Network _ Rows). (g.C.Carrier.link n.link).clock < 4000000000) (sym c.self.view_is) c.requires),
  ticked_whole g.C.Carrier.link g.C.Carrier.steps
      (network_of c.self.inside.link c.self.inside.systems c.self.inside.floating c.self.inside.waiting.items c.self.inside.strays c.self.inside.life) c.now-now.result c.tick.new.self c.pass_notes.new.link c.tick_all.new.link
      c.tick_all.new.systems c.drop_older.new.self c.pass_notes.new.waiting.items c.tick_all.new.waiting.items (c.now-now.ensures ∙ c.in_ok-tick.ensures.link.clock) c.in_ok-tick.ensures.steps c.in_ok-pass_notes.ensures c.in_ok-tick_all.ensures
      c.drop_older.ensures.limit (c.drop_older.ensures.entries ∙ ap (λ (n : ℕ). filter (is_young c.now-now.result n) c.self.inside.floating.entries) c.from.ensures),
)
