use Rattle.std.proofs.Common.{◌≡◌, ℕ, ◌≤◌, ◌∙◌, List, map, arith, subst, sym}
use Rattle.std.specs.List.{AllByRecursion}
use Rattle.tp4_world.specs.Run.{Starts}
use Rattle.tp4_world.specs.declared.place.Placed.{Placed}
use Rattle.tp4_world.specs.steps.Parts.{AreLaterAll}
use Rattle.law_setup.proofs.Peopled.{entities_behind, entities_later}
use Rattle.tp4_conn.specs.declared.timers.Timers.{Timers}
use Rattle.script_setup.specs.declared.relay.RelayLine.{RelayLine}
use Rattle.tp4_relay.specs.declared.row.RelayRow.{RelayRow}
use Rattle.tp4_relay.specs.Kept.{nothing_kept}
use Rattle.law_relay.specs.Rows.{row_of}
use Rattle.law_relay.proofs.Begun.{first_order}
use Rattle.script_relays.proofs.play.RelayPlayPlay.start.Goals as goal

pub start-requires-clause-low : goal.start-requires-clause-low
start-requires-clause-low g c =
    let zero_is = g.met.N.Network.laws.clock c.args.setup c.in_ok-make.field-0 c.in_ok-make.ensures in
    omega arith

pub start-requires-clause-behind : goal.start-requires-clause-behind
start-requires-clause-behind g c =
    subst (λ (placed : List Placed). AllByRecursion (λ (one : Placed). one.entity.clock ≤ (g.N.Carrier.link c.in_ok-make.field-0).clock) placed) (sym c.in_ok-entities.ensures)
    (entities_behind c.args.setup (g.N.Carrier.link c.in_ok-make.field-0).clock)

pub start-requires-clause-later : goal.start-requires-clause-later
start-requires-clause-later g c =
    subst (λ (placed : List Placed). AreLaterAll (g.N.Carrier.link c.in_ok-make.field-0).clock placed) (sym c.in_ok-entities.ensures)
    (entities_later c.args.setup (g.N.Carrier.link c.in_ok-make.field-0).clock)

pub new-requires : goal.new-requires
new-requires g c =
    first_order g.N.Carrier.link g.N.Carrier.steps c.args.setup c.in_ok-make.field-0 c.in_ok-ends.ends c.start.new.events.items
    (subst (λ (placed : List Placed). Starts g.N.Carrier.link g.N.Carrier.steps c.in_ok-make.field-0 placed c.start.new.events.items c.in_ok-ends.ends) c.in_ok-entities.ensures c.in_ok-ends.ensures)

-- the rows of the same lines by the same titles, and what is kept of the same rows and rules
rows_alike : (titles said : List (List ℕ)) (lines relays : List RelayLine) → titles ≡ said → lines ≡ relays → map (row_of titles) lines ≡ map (row_of said) relays
rows_alike titles said lines relays t l = λ i. map (row_of (t i)) (l i)

kept_alike : (rows said : List RelayRow) (rules timers : Timers) → rows ≡ said → rules ≡ timers → nothing_kept rows rules ≡ nothing_kept said timers
kept_alike rows said rules timers r t = λ i. nothing_kept (r i) (t i)

pub returns : goal.returns
returns g c =
    let relay = c.new-relay.ensures ∙ kept_alike _ _ _ _ (c.in_ok-rows.ensures ∙ rows_alike _ _ _ _ (c.as_slice.ensures ∙ c.in_ok-titles.ensures) c.relays.ensures.relays) c.timers.ensures in (
      c.in_ok-make.field-0,
      c.in_ok-ends.ends,
      c.in_ok-make.ensures,
      subst (λ (placed : List Placed). Starts g.N.Carrier.link g.N.Carrier.steps c.in_ok-make.field-0 placed c.start.new.events.items c.in_ok-ends.ends) c.in_ok-entities.ensures c.in_ok-ends.ensures,
      λ i. record { titles = c.in_ok-titles.ensures i; ends = c.new.ensures i; relay = relay i },
    )
