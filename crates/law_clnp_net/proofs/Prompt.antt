-- The network of two end systems on one LAN is prompt: from the lemmas on each call.
use Rattle.std.proofs.Common.{ℕ, true, List, [], inl, refl, sym}
use Rattle.osi_base.specs.Calls.{Choose, Offer, Tick}
use Rattle.osi_base.specs.declared.unit.Picked.TheVariants.{Taken as WasPicked}
use Rattle.osi_base.specs.declared.unit.Unit.{Unit as CarriedUnit}
use Rattle.osi_base.specs.declared.unit.Up.{Up}
use Rattle.net_world.specs.Fifo.{First, Hands, Nothing}
use Rattle.law_clnp_net.specs.Calm.{titles_of}
use Rattle.law_clnp_net.specs.Laws.{IsPromptNet}
use Rattle.law_clnp_net.specs.Waiting.{NoneLeft, Waits, WaitsBeside}
use Rattle.law_clnp_net.proofs.Gathered.{net_gathered}
use Rattle.law_clnp_net.proofs.reached.Steps.{reached_net}
use Rattle.law_clnp_net.proofs.waiting.Chosen.{chosen_net, none_net}
use Rattle.law_clnp_net.proofs.waiting.Offered.{offered_net}
use Rattle.law_clnp_net.proofs.waiting.Ticked.{ticked_net}
use Rattle.law_clnp_net.proofs.waiting.Told.{undropped}
use Rattle.law_clnp_net.proofs.waiting.Unopened.{none_waits_then}

-- whatever is held of older units
hands_so : {C : Type 0} (titles : List (List ℕ)) (Waits Others : C → List (CarriedUnit (List ℕ)) → Type 0) (queue : List (CarriedUnit (List ℕ))) (ups : List (Up (List ℕ))) (new : C)
    → ((left : List (CarriedUnit (List ℕ))) → Waits new left → Others new left) → Hands titles Waits queue ups new → Hands titles Others queue ups new
hands_so titles Waits Others queue ups new more (Nothing none waits) = Nothing none (more queue waits)
hands_so titles Waits Others queue ups new more (First unit rest system queue_is comes user waits) = First unit rest system queue_is comes user (more rest waits)

pub is_prompt : IsPromptNet
is_prompt rows first second here there calm = record {
  reached = reached_net rows first second here there calm;
  begins = λ old reached none. (
    reached.nodes.one.store.held,
    reached.nodes.two.store.held,
    record { reached = reached; frames = []; waiting = none_waits_then old.link reached.below none; left = NoneLeft [] refl refl (refl, refl) },
  );
  offered = λ old new queue unit wish answer ups waits between plain passes none.
      let done = offered_net rows first second here there calm true waits.0 waits.1 old passes.called new queue waits.2 unit wish answer ups between plain (net_gathered passes.called new ups passes.gathers)
      (sym passes.gathers.waited) (undropped ups none) (reached_net rows first second here there calm old new (Offer unit wish answer) ups waits.2.reached (between, plain) passes)
      passes.steps_to.0 passes.steps_to.1 in
      (done.0, (waits.0, waits.1, done.1));
  chosen = λ old new queue pair ups waits least passes none.
      hands_so (titles_of first second) (WaitsBeside true (titles_of first second) first second here there rows waits.0 waits.1) (Waits rows first second here there) queue ups new
      (λ left there_wait. (waits.0, waits.1, there_wait))
      (chosen_net rows first second here there calm true waits.0 waits.1 old passes.called new queue waits.2 pair ups least passes.steps_to.1 (net_gathered passes.called new ups passes.gathers)
      (sym passes.gathers.waited) (inl none) (reached_net rows first second here there calm old new (Choose pair.0 pair.1 WasPicked) ups waits.2.reached tt passes));
  none = λ old queue waits. none_net rows first second here there calm true waits.0 waits.1 old queue waits.2;
  ticked = λ old new ups waits fresh passes none.
      ticked_net rows first second here there calm old passes.called new ups waits.2.reached fresh passes.steps_to.1 (net_gathered passes.called new ups passes.gathers) (sym passes.gathers.waited)
      (undropped ups none) (reached_net rows first second here there calm old new Tick ups waits.2.reached tt passes);
}
