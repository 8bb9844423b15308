-- The network of two end systems on one LAN is fifo, and it begins with nothing on its way: of older units nothing is held, so no segment is ever refused for want of room, and no
-- error report is ever sent.
use Rattle.std.proofs.Common.{◌≡◌, ℕ, ◌+◌, false, List, [], ◌++◌, inr, refl, sym, ◌∙◌, ap, subst}
use Rattle.nsap.specs.declared.port.Port.{Port}
use Rattle.osi_base.specs.declared.unit.Picked.TheVariants.{Taken as WasPicked}
use Rattle.osi_base.specs.declared.unit.Unit.{Unit as CarriedUnit}
use Rattle.osi_base.specs.declared.unit.Up.{Up}
use Rattle.osi_base.specs.Calls.{Choose, Offer, Tick}
use Rattle.lan_step.specs.Bag.{Bag, BagStep, link_of, new_bag}
use Rattle.lan_step.specs.declared.row.Lan.{Lan}
use Rattle.lan_step.specs.declared.row.PortRow.{PortRow}
use Rattle.esis_tables.specs.Rows.{Rows}
use Rattle.clnp_segment.specs.Store.{Partial}
use Rattle.clnp_system.specs.Node.{Node}
use Rattle.clnp_system.specs.Setting.{Setting}
use Rattle.clnp_system.specs.Tables.{rows_tables}
use Rattle.law_clnp_step.specs.Handling.{TicksAll, notes_of}
use Rattle.law_clnp_step.specs.Step.{NetTicks}
use Rattle.net_world.specs.Fifo.{NoneDropped, arrivals}
use Rattle.law_clnp_net.specs.Beginning.{first_node}
use Rattle.law_clnp_net.specs.Calm.{IsCalmNet, titles_of}
use Rattle.law_clnp_net.specs.Frames.{HasWaiting}
use Rattle.law_clnp_net.specs.Laws.{BeginsEmpty, IsFifoNet}
use Rattle.law_clnp_net.specs.Reached.{KnowsNobody, Reached}
use Rattle.law_clnp_net.specs.Waiting.{AreLeft, NoneLeft, ToFirst, ToSecond, WaitsIn}
use Rattle.law_clnp_net.proofs.Both.{BothTicked, both_tick}
use Rattle.law_clnp_net.proofs.Gathered.{Net, net_gathered}
use Rattle.law_clnp_net.proofs.Lans.{none_after_tick}
use Rattle.law_clnp_net.proofs.Nodes.{IsCalmNode}
use Rattle.law_clnp_net.proofs.Ticked.{IsEmptyStore}
use Rattle.law_clnp_net.proofs.reached.Begun.{begins_reached}
use Rattle.law_clnp_net.proofs.reached.Steps.{reached_net}
use Rattle.law_clnp_net.proofs.waiting.Chosen.{chosen_net, none_net}
use Rattle.law_clnp_net.proofs.waiting.Offered.{offered_net, waits_on}
use Rattle.law_clnp_net.proofs.waiting.Queues.{Firsts, Front, Nobodys, Seconds, TellsFirst, TellsSecond, front}

module _ (rows : List PortRow) (first second : Setting) (here there : Port) (calm : IsCalmNet rows first second here there) where
  abbrev InNet : Net → List (CarriedUnit (List ℕ)) → Type 0
  InNet = WaitsIn rows first second here there

  -- where no unit waits, nothing is held, and no frame can be taken
  record IsAtRest (net : Net) (waits : InNet net []) : Type 0 where
    one : waits.reached.nodes.one.store.held ≡ []
    two : waits.reached.nodes.two.store.held ≡ []
    none : HasWaiting net.link []

  at_rest : (net : Net) (waits : InNet net []) → IsAtRest net waits
  at_rest net waits = by waits.left
    where
      one_held : List Partial
      one_held = waits.reached.nodes.one.store.held

      two_held : List Partial
      two_held = waits.reached.nodes.two.store.held

      by_front : one_held ≡ [] → two_held ≡ [] → Front rows first second here there calm false net.link [] [] one_held two_held [] → IsAtRest net waits
      by_front one_is two_is (Nobodys queue_is waiting) = record { one = one_is; two = two_is; none = waiting }
      by_front one_is two_is (TellsSecond frame rest parts may report one_same two_same are waiting) = absurd cc
      by_front one_is two_is (TellsFirst frame rest parts may report one_same two_same are waiting) = absurd cc
      by_front one_is two_is (Seconds unit units frame left rest parts one_same goes are queue_is waiting) = absurd cc
      by_front one_is two_is (Firsts unit units frame left rest parts two_same goes are queue_is waiting) = absurd cc

      by : AreLeft false (titles_of first second) first second here there [] [] one_held two_held [] waits.frames → IsAtRest net waits
      by (NoneLeft parts one_is two_is are) =
          by_front one_is two_is (front rows first second here there calm false net.link waits.reached.ports [] [] one_held two_held [] waits.frames waits.left waits.waiting)
      by (ToSecond unit units left rest parts one_is goes are queue_is frames_is) = absurd cc
      by (ToFirst unit units left rest parts two_is goes are queue_is frames_is) = absurd cc

  calm_node : (setting : Setting) (node : Node Rows) → node.setup ≡ setting → KnowsNobody (titles_of first second) node → IsCalmNode setting node
  calm_node setting node setup knows = record { setup = setup; neighbours = knows.neighbours; redirects = knows.redirects }

  empty_store : (node : Node Rows) → KnowsNobody (titles_of first second) node → node.store.held ≡ [] → IsEmptyStore node.store
  empty_store node knows none = record { held = none; units = knows.room.units; octets = knows.room.octets }

  -- both systems ticked, over LANs where no frame waits
  after_both : (old below : Bag) (new : Net) (after : List (Node Rows)) (told : List (Up (List ℕ))) → BothTicked rows first second here there calm old below after told → Reached rows first second new
      → new.link ≡ below → new.nodes ≡ after → InNet new []
  after_both old below new after told both reached link nodes =
      waits_on rows first second here there calm false [] [] new [] reached both.one both.two [] (nodes ∙ both.nodes) (subst (λ (b : Bag). HasWaiting b []) (sym link) both.offered.waits)
      (NoneLeft [] both.one_empty.held both.two_empty.held (refl, refl))

  ticked_net : (old called new : Net) (ups : List (Up (List ℕ))) → InNet old [] → NetTicks link_of BagStep rows_tables old called
      → new ≡ record called { waiting = [] } → ups ≡ called.waiting → NoneDropped ups → Reached rows first second new → (arrivals ups ≡ []) × InNet new []
  ticked_net old called new ups waits t new_is ups_is none reached =
      let was = waits.reached in
      let held = at_rest old waits in
      let lans = none_after_tick old.link t.ticked t.risen t.ups held.none t.ticks t.gathers in
      let told_is : ups ≡ t.told =
      ups_is
      ∙ (ap (λ (n : Net). n.waiting) t.becomes ∙ (λ i. was.quiet i ++ (notes_of (lans.0 i) ++ t.told))) in
      let all = subst (λ (ns : List (Node Rows)). TicksAll link_of BagStep rows_tables ((link_of old.link).clock + 1) t.risen ns t.below t.nodes t.told) was.nodes.are t.all in
      let both =
      both_tick rows first second here there calm ((link_of old.link).clock + 1) t.risen t.below was.nodes.one was.nodes.two t.nodes t.told (lans.2.rows ∙ was.ports) lans.1
      (calm_node first was.nodes.one was.nodes.one_is was.nodes.one_knows) (calm_node second was.nodes.two was.nodes.two_is was.nodes.two_knows)
      (empty_store was.nodes.one was.nodes.one_knows held.one) (empty_store was.nodes.two was.nodes.two_knows held.two) all (subst NoneDropped told_is none) in (
        ap arrivals told_is ∙ both.offered.no_units,
        after_both t.risen t.below new t.nodes t.told both reached (ap (λ (n : Net). n.link) new_is ∙ ap (λ (n : Net). n.link) t.becomes)
            (ap (λ (n : Net). n.nodes) new_is ∙ ap (λ (n : Net). n.nodes) t.becomes),
      )

-- ---- all calls

pub is_fifo : IsFifoNet
is_fifo rows first second here there calm = record {
  offered = λ old new queue unit wish answer ups waits between plain passes none.
      offered_net rows first second here there calm false [] [] old passes.called new queue waits unit wish answer ups between plain (net_gathered passes.called new ups passes.gathers)
      (sym passes.gathers.waited) none (reached_net rows first second here there calm old new (Offer unit wish answer) ups waits.reached (between, plain) passes) passes.steps_to.0 passes.steps_to.1;
  chosen = λ old new queue pair ups waits least passes none.
      chosen_net rows first second here there calm false [] [] old passes.called new queue waits pair ups least passes.steps_to.1 (net_gathered passes.called new ups passes.gathers)
      (sym passes.gathers.waited) (inr (refl, refl)) (reached_net rows first second here there calm old new (Choose pair.0 pair.1 WasPicked) ups waits.reached tt passes);
  none = none_net rows first second here there calm false [] [];
  ticked = λ old new ups waits passes none.
      ticked_net rows first second here there calm old passes.called new ups waits passes.steps_to.1 (net_gathered passes.called new ups passes.gathers) (sym passes.gathers.waited) none
      (reached_net rows first second here there calm old new Tick ups waits.reached tt passes);
}

-- ---- the beginning

new_is_calm : (setting : Setting) → IsCalmNode setting (first_node setting)
new_is_calm setting = record { setup = refl; neighbours = refl; redirects = refl }

new_is_empty : (setting : Setting) → IsEmptyStore (first_node setting).store
new_is_empty setting = record { held = refl; units = refl; octets = refl }

none_at_first : (lans : List Lan) (rows : List PortRow) → HasWaiting (new_bag lans rows) []
none_at_first lans rows = record { spent = []; stands = refl; are_spent = tt; quiet = refl }

pub begins_empty : BeginsEmpty
begins_empty lans rows first second here there life begun new ups calm begins g none =
    let waiting_is : ups ≡ begins.told = sym g.waited ∙ ap (λ (n : Net). n.waiting) begins.becomes in
    let new_is = net_gathered begun new ups g in
    let link_is : new.link ≡ begins.below = ap (λ (n : Net). n.link) new_is ∙ ap (λ (n : Net). n.link) begins.becomes in
    let both =
    both_tick rows first second here there calm 0 (new_bag lans rows) begins.below (first_node first) (first_node second) begins.after begins.told refl (none_at_first lans rows)
    (new_is_calm first) (new_is_calm second) (new_is_empty first) (new_is_empty second) begins.all (subst NoneDropped waiting_is none) in (
      ap arrivals waiting_is ∙ both.offered.no_units,
      after_both rows first second here there calm (new_bag lans rows) begins.below new begins.after begins.told both
          (begins_reached lans rows first second here there life begun new ups calm begins g) link_is (ap (λ (n : Net). n.nodes) new_is ∙ ap (λ (n : Net). n.nodes) begins.becomes),
    )
