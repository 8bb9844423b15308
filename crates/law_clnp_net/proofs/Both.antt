-- A tick of both systems: only hellos go out, which no system can take.
use Rattle.std.proofs.Common.{◌≡◌, ◌⊎◌, inl, inr, ℕ, List, [], ◌∷◌, ◌++◌, refl, sym, ◌∙◌, ap, subst}
use Rattle.std.specs.List.{AllByRecursion}
use Rattle.std.proofs.lemmas.List.{append-nil}
use Rattle.nsap.specs.declared.port.Port.{Port}
use Rattle.osi_base.specs.declared.unit.Up.{Up}
use Rattle.lan_step.specs.Bag.{Bag, BagStep, link_of}
use Rattle.lan_step.specs.declared.row.PortRow.{PortRow}
use Rattle.esis_tables.specs.Rows.{Rows}
use Rattle.clnp_system.specs.Node.{Frame, Node, Reaction}
use Rattle.clnp_system.specs.Setting.{Setting}
use Rattle.clnp_system.specs.Tables.{rows_tables}
use Rattle.law_clnp_step.specs.Handling.{OffersFrames, TicksAll}
use Rattle.net_world.specs.Fifo.{NoneDropped}
use Rattle.law_clnp_net.specs.Calm.{IsCalmNet, end_row}
use Rattle.law_clnp_net.proofs.Ticked.{IsEmptyStore, IsToGroup, ticks_calmly}
use Rattle.law_clnp_net.specs.Frames.{GoesNowhere, HasWaiting}
use Rattle.law_clnp_net.proofs.Nodes.{IsCalmNode}
use Rattle.law_clnp_net.proofs.Offered.{AreOffered, both_parts, offered_nowhere}
use Rattle.law_clnp_net.proofs.Ports.{goes_nowhere}
use Rattle.law_clnp_net.proofs.Told.{none_before, none_behind}

module _ (rows : List PortRow) (first second : Setting) (here there : Port) (calm : IsCalmNet rows first second here there) where
  -- a frame to all intermediate systems goes to neither
  pub group_goes_nowhere : (frame : Frame) → IsToGroup frame → GoesNowhere rows frame
  group_goes_nowhere frame group = by calm.ports
    where
      by : (rows ≡ end_row 0 here ∷ end_row 1 there ∷ []) ⊎ (rows ≡ end_row 1 there ∷ end_row 0 here ∷ []) → GoesNowhere rows frame
      by (inl is) =
          subst (λ (rs : List PortRow). GoesNowhere rs frame) (sym is)
          (goes_nowhere (end_row 0 here) (end_row 1 there) (refl, refl) calm.first_at.single calm.second_at.single frame group)
      by (inr is) =
          subst (λ (rs : List PortRow). GoesNowhere rs frame) (sym is)
          (goes_nowhere (end_row 1 there) (end_row 0 here) (refl, refl) calm.second_at.single calm.first_at.single frame group)

  pub groups_go_nowhere : (frames : List Frame) → AllByRecursion IsToGroup frames → AllByRecursion (GoesNowhere rows) frames
  groups_go_nowhere [] group = tt
  groups_go_nowhere (frame ∷ frames) group = (group_goes_nowhere frame group.0, groups_go_nowhere frames group.1)

  -- a system's frames to that group
  group_offered : (frames : List Frame) (old new : Bag) (system : ℕ) (told : List (Up (List ℕ))) → old.rows ≡ rows → HasWaiting old [] → AllByRecursion IsToGroup frames
      → OffersFrames link_of BagStep old system frames new told → NoneDropped told → AreOffered old new told []
  group_offered frames old new system told same waits group offers none =
      offered_nowhere frames old new system told waits
      (subst (λ (rs : List PortRow). AllByRecursion (GoesNowhere rs) frames) (sym same) (groups_go_nowhere frames group)) offers none

  -- what a tick of both leaves
  pub record BothTicked (old new : Bag) (after : List (Node Rows)) (told : List (Up (List ℕ))) : Type 0 where
    pub offered : AreOffered old new told []
    pub one : Node Rows
    pub two : Node Rows
    pub nodes : after ≡ one ∷ two ∷ []
    pub one_is : IsCalmNode first one
    pub two_is : IsCalmNode second two
    pub one_empty : IsEmptyStore one.store
    pub two_empty : IsEmptyStore two.store

  -- a system that ticks says nothing but by its frames
  told_by_frames : (reaction : Reaction) (own rest told : List (Up (List ℕ))) → reaction.ups ≡ [] → told ≡ reaction.ups ++ (own ++ rest) → told ≡ own ++ rest
  told_by_frames reaction own rest told silent is = is ∙ ap (λ (ups : List (Up (List ℕ))). ups ++ (own ++ rest)) silent

  second_tick : (now : ℕ) (old new : Bag) (two : Node Rows) (after : List (Node Rows)) (told : List (Up (List ℕ))) → old.rows ≡ rows → HasWaiting old [] → IsCalmNode second two
      → IsEmptyStore two.store → TicksAll link_of BagStep rows_tables now old (two ∷ []) new after told → NoneDropped told
      → (node : Node Rows) × (after ≡ node ∷ []) × IsCalmNode second node × IsEmptyStore node.store × AreOffered old new told []
  second_tick now old new two after told same waits is empty t none =
      let calmly = ticks_calmly second two now t.0 t.2 calm.second_at.end is empty t.6 in
      let told_is : told ≡ t.4 = told_by_frames t.0 t.4 t.5 told calmly.silent t.10 ∙ (ap (λ (ups : List (Up (List ℕ))). t.4 ++ ups) t.8.2 ∙ append-nil t.4) in
      let offered = group_offered t.0.frames old t.1 two.setup.system t.4 same waits calmly.hellos t.7 (subst NoneDropped told_is none) in
      let moved : AreOffered old new t.4 [] = subst (λ (b : Bag). AreOffered old b t.4 []) (sym t.8.0) offered in (
        t.2,
        t.9 ∙ ap (λ (nodes : List (Node Rows)). t.2 ∷ nodes) t.8.1,
        calmly.calm,
        calmly.empty,
        subst (λ (ups : List (Up (List ℕ))). AreOffered old new ups []) (sym told_is) moved,
      )

  pub both_tick : (now : ℕ) (old new : Bag) (one two : Node Rows) (after : List (Node Rows)) (told : List (Up (List ℕ))) → old.rows ≡ rows → HasWaiting old []
      → IsCalmNode first one → IsCalmNode second two → IsEmptyStore one.store → IsEmptyStore two.store → TicksAll link_of BagStep rows_tables now old (one ∷ two ∷ []) new after told
      → NoneDropped told → BothTicked old new after told
  both_tick now old new one two after told same waits one_is two_is one_empty two_empty t none =
      let calmly = ticks_calmly first one now t.0 t.2 calm.first_at.end one_is one_empty t.6 in
      let told_is : told ≡ t.4 ++ t.5 = told_by_frames t.0 t.4 t.5 told calmly.silent t.10 in
      let drops : NoneDropped (t.4 ++ t.5) = subst NoneDropped told_is none in
      let offered = group_offered t.0.frames old t.1 one.setup.system t.4 same waits calmly.hellos t.7 (none_before t.4 t.5 drops) in
      let others = second_tick now t.1 new two t.3 t.5 (offered.at.rows ∙ same) offered.waits two_is two_empty t.8 (none_behind t.4 t.5 drops) in
      record {
        offered = both_parts old t.1 new t.4 t.5 told [] [] offered others.4 told_is;
        one = t.2;
        two = others.0;
        nodes = t.9 ∙ ap (λ (nodes : List (Node Rows)). t.2 ∷ nodes) others.1;
        one_is = calmly.calm;
        two_is = others.2;
        one_empty = calmly.empty;
        two_empty = others.3;
      }
