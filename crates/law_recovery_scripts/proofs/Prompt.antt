-- A network of two end systems on one LAN is prompt in each state to which calls without an injection lead from its start on: such calls keep what is known of those states. So what is claimed
-- over each carrier that serves again once nothing is lost is claimed of it.
use Rattle.std.proofs.Common.{ℕ, List, [], ◌∷◌, ◌++◌, refl, sym, subst}
use Rattle.osi_base.specs.Calls.{Call}
use Rattle.osi_base.specs.Link.{Link}
use Rattle.osi_base.specs.declared.unit.Unit.{Unit as CarriedUnit}
use Rattle.osi_base.specs.declared.unit.Up.{Up}
use Rattle.net_world.specs.Prompt.{IsPrompt, IsUsual}
use Rattle.net_world.specs.Run.{Passes}
use Rattle.law_clnp_net.specs.Calm.{titles_of}
use Rattle.law_clnp_net.specs.Reached.{Reached}
use Rattle.law_clnp_net.specs.Waiting.{Waits}
use Rattle.law_clnp_net.proofs.Prompt.{is_prompt}
use Rattle.law_recovery_run.specs.Ordered.{LeadsOn, ReachedFrom}
use Rattle.law_run.specs.World.{Net, NetDoes, link_of_net}
use Rattle.law_recovery_scripts.specs.Laws.{NetsArePrompt}
use Rattle.law_recovery_scripts.specs.Nets.{OnNets}

module _ {C : Type 0} (link : C → Link (List ℕ)) (steps : C → Call (List ℕ) → C → Type 0) (titles : List (List ℕ)) where
  -- one call more
  leads_more : (calls : List (Call (List ℕ))) (old mid new : C) (call : Call (List ℕ)) (ups : List (Up (List ℕ))) → LeadsOn link steps titles old calls mid → IsUsual titles call
      → Passes link steps mid call ups new → LeadsOn link steps titles old (calls ++ call ∷ []) new
  leads_more [] old mid new call ups leads usual passes = (usual, (new, ups, subst (λ (state : C). Passes link steps state call ups new) leads passes, refl))
  leads_more (one ∷ calls) old mid new call ups leads usual passes = (leads.0, (leads.1.0, leads.1.1, leads.1.2, leads_more calls leads.1.0 mid new call ups leads.1.3 usual passes))

  module _ (Known : C → Type 0) (Waiting : C → List (CarriedUnit (List ℕ)) → Type 0) (prompt : IsPrompt link steps titles Known Waiting) where
    still_known : (calls : List (Call (List ℕ))) (old new : C) → Known old → LeadsOn link steps titles old calls new → Known new
    still_known [] old new known leads = subst Known (sym leads) known
    still_known (call ∷ calls) old new known leads = still_known calls leads.1.0 new (prompt.reached old leads.1.0 call leads.1.1 known leads.0 leads.1.2) leads.1.3

    prompt_from : (begins : C) → Known begins → IsPrompt link steps titles (ReachedFrom link steps titles begins) Waiting
    prompt_from begins known = record {
      reached = λ old new call ups reached usual passes. (reached.0 ++ call ∷ [], leads_more reached.0 begins old new call ups reached.1 usual passes);
      begins = λ old reached none. prompt.begins old (still_known reached.0 begins old known reached.1) none;
      offered = prompt.offered;
      chosen = prompt.chosen;
      none = prompt.none;
      ticked = prompt.ticked;
    }

pub nets_prompt : NetsArePrompt
nets_prompt rows first second here there begins calm reached =
    prompt_from link_of_net NetDoes (titles_of first second) (Reached rows first second) (Waits rows first second here there) (is_prompt rows first second here there calm) begins reached

-- what holds from a state of each carrier on that serves again from there, whatever relation tells what waits in it, holds of these networks
pub on_nets : (Holds : List (List ℕ) → Net → Type 0) → ((titles : List (List ℕ)) (begins : Net) (Waiting : Net → List (CarriedUnit (List ℕ)) → Type 0)
    → IsPrompt link_of_net NetDoes titles (ReachedFrom link_of_net NetDoes titles begins) Waiting → Holds titles begins) → OnNets Holds
on_nets Holds holds rows first second here there begins calm reached =
    holds (titles_of first second) begins (Waits rows first second here there) (nets_prompt rows first second here there begins calm reached)
