-- A tick, where no pair is fresh: what expires is told, error reports and hellos wait then, and no unit.
use Rattle.std.proofs.Common.{◌≡◌, ℕ, ◌+◌, List, [], ◌∷◌, ◌++◌, map, None, refl, sym, ◌∙◌, ap, subst, true}
use Rattle.std.specs.List.{AllByRecursion}
use Rattle.nsap.specs.declared.port.Port.{Port}
use Rattle.osi_base.specs.declared.unit.Unit.{Unit as CarriedUnit}
use Rattle.osi_base.specs.declared.unit.Up.{Up}
use Rattle.osi_base.specs.Link.{IsLeastFresh}
use Rattle.lan_step.specs.Bag.{Bag, BagStep, link_of}
use Rattle.lan_step.specs.declared.row.PortRow.{PortRow}
use Rattle.esis_tables.specs.Rows.{Rows}
use Rattle.clnp_system.specs.Node.{Frame, Node}
use Rattle.clnp_system.specs.Setting.{Setting}
use Rattle.clnp_system.specs.Tables.{rows_tables}
use Rattle.law_clnp_step.specs.Handling.{TicksAll, notes_of}
use Rattle.law_clnp_step.specs.Network.{net_link}
use Rattle.law_clnp_step.specs.Step.{NetTicks}
use Rattle.law_clnp_step.proofs.Lists.{all_both}
use Rattle.net_world.specs.Fifo.{NoneDropped, arrivals}
use Rattle.law_clnp_net.specs.Calm.{IsCalmNet, titles_of}
use Rattle.law_clnp_net.specs.Frames.{HasWaiting}
use Rattle.law_clnp_net.proofs.Gathered.{Net}
use Rattle.law_clnp_net.proofs.Lans.{none_after_tick}
use Rattle.law_clnp_net.proofs.Offered.{offered_each}
use Rattle.law_clnp_net.proofs.Told.{none_before, none_behind, none_in_both}
use Rattle.law_clnp_net.specs.Reached.{Reached}
use Rattle.law_clnp_net.specs.Waiting.{IsIdle, Idle, NoneLeft, Waits}
use Rattle.law_clnp_net.proofs.waiting.Offered.{waits_on}
use Rattle.law_clnp_net.proofs.waiting.Queues.{all_idle}
use Rattle.law_clnp_net.proofs.waiting.Reported.{first_ticks, second_ticks}
use Rattle.law_clnp_net.proofs.waiting.Unopened.{none_waits_then}

module _ (rows : List PortRow) (first second : Setting) (here there : Port) (calm : IsCalmNet rows first second here there) where
  abbrev titles : List (List ℕ)
  titles = titles_of first second

  abbrev InNet : Net → List (CarriedUnit (List ℕ)) → Type 0
  InNet = Waits rows first second here there

  abbrev Passes : Frame → Type 0
  Passes = IsIdle true titles first second here there

  -- what a tick of both leaves
  record BothTicked (new : Bag) (after : List (Node Rows)) (told : List (Up (List ℕ))) : Type 0 where
    units : arrivals told ≡ []
    one : Node Rows
    two : Node Rows
    nodes : after ≡ one ∷ two ∷ []
    frames : List Frame
    idle : AllByRecursion Passes frames
    waits : HasWaiting new frames

  module _ (old : Net) (reached : Reached rows first second old) (now : ℕ) (risen below : Bag) (after : List (Node Rows)) (told : List (Up (List ℕ))) (waits : HasWaiting risen [])
      (t : TicksAll link_of BagStep rows_tables now risen (reached.nodes.one ∷ reached.nodes.two ∷ []) below after told) (none : NoneDropped told) where
    both_tick : BothTicked below after told
    both_tick =
        let u = t.8 in
        let one = first_ticks rows first second here there calm reached.nodes.one now t.0 t.2 reached.nodes.one_knows t.6 reached.nodes.one_is in
        let two = second_ticks rows first second here there calm reached.nodes.two now u.0 u.2 reached.nodes.two_knows u.6 reached.nodes.two_is in
        let drops : NoneDropped (t.4 ++ t.5) = none_behind t.0.ups (t.4 ++ t.5) (subst NoneDropped t.10 none) in
        let drops_two : NoneDropped (u.4 ++ u.5) = none_behind u.0.ups (u.4 ++ u.5) (subst NoneDropped u.10 (none_behind t.4 t.5 drops)) in
        let offered_one = offered_each t.0.frames risen t.1 reached.nodes.one.setup.system [] t.4 waits t.7 (none_before t.4 t.5 drops) in
        let offered_two = offered_each u.0.frames t.1 u.1 reached.nodes.two.setup.system t.0.frames u.4 offered_one.waits u.7 (none_before u.4 u.5 drops_two) in
        let units_two : arrivals t.5 ≡ [] =
        ap arrivals u.10 ∙ none_in_both u.0.ups (u.4 ++ u.5) two.units (none_in_both u.4 u.5 offered_two.no_units (ap arrivals u.8.2)) in
        record {
          units = ap arrivals t.10 ∙ none_in_both t.0.ups (t.4 ++ t.5) one.units (none_in_both t.4 t.5 offered_one.no_units units_two);
          one = t.2;
          two = u.2;
          nodes = t.9 ∙ ap (λ (nodes : List (Node Rows)). t.2 ∷ nodes) (u.9 ∙ ap (λ (nodes : List (Node Rows)). u.2 ∷ nodes) u.8.1);
          frames = t.0.frames ++ u.0.frames;
          idle = all_both Passes t.0.frames u.0.frames one.frames two.frames;
          waits = subst (λ (b : Bag). HasWaiting b (t.0.frames ++ u.0.frames)) (sym u.8.0) offered_two.waits;
        }

  pub ticked_net : (old called new : Net) (ups : List (Up (List ℕ))) → Reached rows first second old → IsLeastFresh (net_link link_of old) None → NetTicks link_of BagStep rows_tables old called
      → new ≡ record called { waiting = [] } → ups ≡ called.waiting → NoneDropped ups → Reached rows first second new → (arrivals ups ≡ []) × InNet new []
  ticked_net old called new ups was fresh t new_is ups_is none reached =
      let lans = none_after_tick old.link t.ticked t.risen t.ups (none_waits_then old.link was.below fresh) t.ticks t.gathers in
      let told_is : ups ≡ t.told =
      ups_is
      ∙ (ap (λ (n : Net). n.waiting) t.becomes ∙ (λ i. was.quiet i ++ (notes_of (lans.0 i) ++ t.told))) in
      let all = subst (λ (ns : List (Node Rows)). TicksAll link_of BagStep rows_tables ((link_of old.link).clock + 1) t.risen ns t.below t.nodes t.told) was.nodes.are t.all in
      let both = both_tick old was ((link_of old.link).clock + 1) t.risen t.below t.nodes t.told lans.1 all (subst NoneDropped told_is none) in (
        ap arrivals told_is ∙ both.units,
        (
          both.one.store.held,
          both.two.store.held,
          waits_on rows first second here there calm true both.one.store.held both.two.store.held new [] reached both.one both.two both.frames
              (ap (λ (n : Net). n.nodes) new_is ∙ (ap (λ (n : Net). n.nodes) t.becomes ∙ both.nodes))
              (subst (λ (b : Bag). HasWaiting b both.frames) (sym (ap (λ (n : Net). n.link) new_is ∙ ap (λ (n : Net). n.link) t.becomes)) both.waits)
              (NoneLeft (map Idle both.frames) refl refl (all_idle rows first second here there calm true both.one.store.held both.two.store.held both.frames both.idle)),
        ),
      )
