-- Such a network begins so.
use Rattle.std.proofs.Common.{◌≡◌, inl, inr, ℕ, List, [], ◌∷◌, refl, sym, ◌∙◌, ap, subst, arith}
use Rattle.std.specs.List.{Contains}
use Rattle.lan_step.specs.Bag.{Bag, BagStep, link_of, new_bag}
use Rattle.lan_step.proofs.Keeping.{bag_keeps}
use Rattle.esis_tables.specs.Rows.{Rows}
use Rattle.clnp_system.specs.Node.{Frame, Node}
use Rattle.clnp_system.specs.Setting.{Setting}
use Rattle.clnp_system.specs.Tables.{rows_tables}
use Rattle.law_clnp_step.proofs.Handled.{AreTicked, ticks_kept}
use Rattle.law_clnp_step.proofs.Passed.{always}
use Rattle.law_clnp_net.specs.Beginning.{first_node}
use Rattle.law_clnp_net.specs.Calm.{titles_of}
use Rattle.law_clnp_net.proofs.Gathered.{Net, net_gathered}
use Rattle.law_clnp_net.specs.Laws.{BeginsReached}
use Rattle.law_clnp_net.specs.Reached.{AreTwo, IsHarmless, KnowsNobody}
use Rattle.law_clnp_net.proofs.reached.Rows.{ticks_rows}
use Rattle.law_clnp_net.proofs.reached.Steps.{are_two}
use Rattle.law_clnp_net.proofs.reached.Ticked.{ticks_leaves}

none_afloat : {A : Type 0} (entry : A) → Contains [] entry → ⊥
none_afloat entry h = absurd (omega (arith, h.1))

knows_nothing : (titles : List (List ℕ)) (setting : Setting) → KnowsNobody titles (first_node setting)
knows_nothing titles setting = record { neighbours = refl; redirects = refl; held = tt; room = record { units = refl; octets = refl } }

pub begins_reached : BeginsReached
begins_reached lans rows first second here there life begun new ups calm begins g =
    let titles = titles_of first second in
    let nodes : List (Node Rows) = first_node first ∷ first_node second ∷ [] in
    let ticked : AreTicked link_of BagStep bag_keeps (λ entry. IsHarmless titles entry.1) (λ up. Prim.Unit {0}) 0 (λ note. tt) rows_tables (first ∷ second ∷ []) (KnowsNobody titles)
    (new_bag lans rows) begins.below nodes begins.after begins.told =
    ticks_kept link_of BagStep bag_keeps (λ entry. IsHarmless titles entry.1) (λ up. Prim.Unit {0}) 0 (λ note. tt) rows_tables (first ∷ second ∷ []) (KnowsNobody titles) (KnowsNobody titles)
    (λ node reaction after there_is knows tick.
    let l = ticks_leaves rows first second here there calm node 0 reaction after there_is knows tick in
    (l.knows, l.setup, always reaction.ups, l.frames))
    (new_bag lans rows) nodes begins.below begins.after begins.told refl (λ entry h. absurd (none_afloat entry h)) (inl refl, (inr (inl refl), tt))
    (knows_nothing titles first, (knows_nothing titles second, tt)) begins.all in
    let new_is : new ≡ record begun { waiting = [] } = net_gathered begun new ups g in
    let link_is : new.link ≡ begins.below = ap (λ (n : Net). n.link) new_is ∙ ap (λ (n : Net). n.link) begins.becomes in
    let nodes_are : new.nodes ≡ begins.after = ap (λ (n : Net). n.nodes) new_is ∙ ap (λ (n : Net). n.nodes) begins.becomes in
    let two : AreTwo titles first second begins.after = are_two rows first second here there calm begins.after ticked.known ticked.setups in
    record {
      quiet = ap (λ (n : Net). n.waiting) new_is;
      below = ap (λ (b : Bag). b.waiting) link_is ∙ ticked.below.quiet refl;
      honest = ap (λ (b : Bag). b.honest) link_is ∙ ticked.below.stands.honest;
      ports = ap (λ (b : Bag). b.rows) link_is ∙ ticks_rows 0 nodes (new_bag lans rows) begins.below begins.after begins.told begins.all;
      nodes = subst (AreTwo titles first second) (sym nodes_are) two;
      frames = subst (λ (b : Bag). (entry : ℕ × Frame) → Contains (link_of b).floating entry → IsHarmless titles entry.1) (sym link_is) ticked.below.good;
    }
