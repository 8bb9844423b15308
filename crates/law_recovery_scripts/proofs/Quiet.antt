-- At the start of a network of two end systems on one LAN nothing is left to deliver: the first hellos go to no system, and nothing else was sent.
use Rattle.std.proofs.Common.{◌≡◌, ℕ, List, [], ◌∷◌, length, Option, None, refl, sym, ◌∙◌, ap, subst, arith}
use Rattle.std.specs.List.{AllByRecursion}
use Rattle.std.proofs.lemmas.List.{append-nil}
use Rattle.nsap.specs.declared.port.Port.{Port}
use Rattle.osi_base.specs.Gathering.{Gathers}
use Rattle.osi_base.specs.Link.{IsLeastFresh}
use Rattle.osi_base.specs.declared.unit.Up.{Up}
use Rattle.lan_step.specs.Bag.{Bag, BagStep, link_of, new_bag}
use Rattle.lan_step.specs.Frames.{Frame, kept}
use Rattle.lan_step.specs.declared.row.Lan.{Lan}
use Rattle.lan_step.specs.declared.row.PortRow.{PortRow}
use Rattle.lan_bag.specs.steps.Openings.{IsClosedTo, is_open}
use Rattle.lan_bag.proofs.Openings.{none_fresh}
use Rattle.clnp_system.specs.Setting.{Setting}
use Rattle.clnp_system.specs.Tables.{rows_tables}
use Rattle.law_clnp_net.specs.Beginning.{first_node}
use Rattle.law_clnp_step.specs.Step.{Begins}
use Rattle.net_world.specs.Fifo.{NoneDropped}
use Rattle.law_clnp_net.specs.Calm.{IsCalmNet}
use Rattle.law_clnp_net.specs.Frames.{HasWaiting, IsSpent}
use Rattle.law_clnp_net.proofs.Both.{both_tick}
use Rattle.law_clnp_net.proofs.Gathered.{net_gathered}
use Rattle.law_clnp_net.proofs.Spent.{closed_before}
use Rattle.law_clnp_net.proofs.Lans.{beyond}
use Rattle.law_run.specs.World.{Net, NetDoes, link_of_net}

-- where no frame waits, no pair is fresh
none_left : (bag : Bag) → HasWaiting bag [] → IsLeastFresh (link_of bag) None
none_left bag waits =
    let spent : AllByRecursion (IsSpent bag.clock bag.lans bag.rows) bag.frames =
    subst (AllByRecursion (IsSpent bag.clock bag.lans bag.rows)) (sym (waits.stands ∙ append-nil waits.spent)) waits.are_spent in
    none_fresh bag (length bag.frames)
    (record {
      within = omega arith;
      before = subst (λ (slots : List (Option Frame)). IsClosedTo bag.clock bag.lans bag.rows slots (length bag.frames)) (append-nil bag.frames)
          (closed_before bag.clock bag.lans bag.rows bag.frames [] spent);
      here = λ inside. absurd (omega (arith, inside));
    })
    (ap (λ (slot : Option (Option Frame)). is_open bag.clock bag.lans bag.rows (kept slot)) (beyond bag.frames))

pub begins_quiet : (lans : List Lan) (rows : List PortRow) (first second : Setting) (here there : Port) (life : ℕ) (begun new : Net) (ups : List (Up (List ℕ)))
    → IsCalmNet rows first second here there → Begins link_of BagStep rows_tables (new_bag lans rows) (first_node first ∷ first_node second ∷ []) life begun
    → Gathers link_of_net NetDoes begun ups new → NoneDropped ups → IsLeastFresh (link_of_net new) None
begins_quiet lans rows first second here there life begun new ups calm begins gathers none =
    let told_is : ups ≡ begins.told = sym gathers.waited ∙ ap (λ (n : Net). n.waiting) begins.becomes in
    let link_is : new.link ≡ begins.below = ap (λ (n : Net). n.link) (net_gathered begun new ups gathers) ∙ ap (λ (n : Net). n.link) begins.becomes in
    let both =
    both_tick rows first second here there calm 0 (new_bag lans rows) begins.below (first_node first) (first_node second) begins.after begins.told refl
    (record { spent = []; stands = refl; are_spent = tt; quiet = refl }) (record { setup = refl; neighbours = refl; redirects = refl }) (record { setup = refl; neighbours = refl; redirects = refl })
    (record { held = refl; units = refl; octets = refl }) (record { held = refl; units = refl; octets = refl }) begins.all (subst NoneDropped told_is none) in
    subst (λ (bag : Bag). IsLeastFresh (link_of bag) None) (sym link_is) (none_left begins.below both.offered.waits)
