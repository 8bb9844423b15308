-- Any call without an injection leaves such a network: whatever was offered, chosen in any order, dropped or refused.
use Rattle.std.proofs.Common.{◌≡◌, ◌⊎◌, inl, inr, ℕ, ◌+◌, Bool, true, false, ◌&&◌, ◌||◌, ◌==◌, List, [], ◌∷◌, ◌++◌, refl, sym, ◌∙◌, ap, subst}
use Rattle.std.specs.Prelude.{IsTrue}
use Rattle.std.specs.List.{AllByRecursion, Contains}
use Rattle.nsap.specs.declared.port.Port.{Port}
use Rattle.osi_base.specs.declared.unit.Offered.{Offered}
use Rattle.osi_base.specs.declared.unit.Picked.{Picked}
use Rattle.osi_base.specs.declared.unit.Unit.{Unit as CarriedUnit}
use Rattle.osi_base.specs.declared.unit.Up.{Up}
use Rattle.osi_base.specs.declared.unit.Up.TheVariants.{Unit as Came, Note as Noted}
use Rattle.osi_base.specs.declared.unit.Wish.{Wish}
use Rattle.osi_base.specs.Calls.{Call, Offer, Choose, Tick, Chooses, Ticks}
use Rattle.osi_base.specs.Link.{IsLawful}
use Rattle.lan_step.specs.Bag.{Bag, BagStep, link_of}
use Rattle.lan_step.specs.Receivers.{goes_to, is_one_of}
use Rattle.lan_step.specs.declared.row.PortRow.{PortRow}
use Rattle.lan_step.proofs.Keeping.{bag_keeps}
use Rattle.esis_tables.specs.Rows.{Rows}
use Rattle.clnp_system.specs.Node.{Frame, Node}
use Rattle.clnp_system.specs.Setting.{Setting, all_intermediates}
use Rattle.clnp_system.specs.Tables.{rows_tables}
use Rattle.law_clnp_step.specs.Handling.{Changes}
use Rattle.law_clnp_step.specs.Network.{net_link}
use Rattle.law_clnp_step.specs.Sound.{IsAmong, settings_of}
use Rattle.law_clnp_step.specs.Step.{Arrives, IsDropped, IsFull, IsNobodys, IsTaken, NetOffers, NetStep, NetTicks, is_source}
use Rattle.law_clnp_step.proofs.Arrived.{IsRaised, raised_choice}
use Rattle.law_clnp_step.proofs.Handled.{AreHandled, AreTicked, ComesIf, IsKept, change_among, change_at, change_kept, change_setups, handles_kept, offers_kept, ticks_kept}
use Rattle.law_clnp_step.proofs.Lists.{among_map}
use Rattle.law_clnp_step.proofs.Passed.{always, own_settings}
use Rattle.net_world.specs.Fifo.{IsBetween}
use Rattle.net_world.specs.Run.{Passes}
use Rattle.law_clnp_net.specs.Calm.{IsCalmNet, end_row, titles_of}
use Rattle.law_clnp_net.proofs.Gathered.{Net, net_gathered}
use Rattle.law_clnp_net.proofs.Ports.{not_one_of}
use Rattle.net_world.specs.Prompt.{IsUsual}
use Rattle.law_clnp_net.specs.Reached.{AreTwo, HasOwnPdu, IsHarmless, KnowsNobody, OfUsers, Reached, ToRouters}
use Rattle.law_clnp_net.proofs.reached.Received.{receives_leaves}
use Rattle.law_clnp_net.proofs.reached.Rows.{gathers_rows, handles_rows, offers_rows, step_rows, ticks_rows}
use Rattle.law_clnp_net.proofs.reached.Sent.{refuses_leaves, sends_leaves}
use Rattle.law_clnp_net.proofs.reached.Ticked.{ticks_leaves}

-- ---- a frame to all intermediate systems

no_two : (a b : Bool) → ((a && false) || ((b && false) || false)) ≡ false
no_two true true = refl
no_two true false = refl
no_two false true = refl
no_two false false = refl

module _ (rows : List PortRow) (first second : Setting) (here there : Port) (calm : IsCalmNet rows first second here there) where
  abbrev titles : List (List ℕ)
  titles = titles_of first second

  abbrev settings : List Setting
  settings = first ∷ second ∷ []

  abbrev InNet : Net → Type 0
  InNet = Reached rows first second

  goes_to_none : (to : Port) (system : ℕ) → to.snpa ≡ all_intermediates → goes_to rows to system ≡ false
  goes_to_none to system group = by calm.ports
    where
      x : PortRow
      x = end_row 0 here

      y : PortRow
      y = end_row 1 there

      x_not : is_one_of to x ≡ false
      x_not = not_one_of x y (refl, refl) calm.first_at.single calm.second_at.single x to refl calm.first_at.single group

      y_not : is_one_of to y ≡ false
      y_not = not_one_of x y (refl, refl) calm.first_at.single calm.second_at.single y to refl calm.second_at.single group

      by : (rows ≡ x ∷ y ∷ []) ⊎ (rows ≡ y ∷ x ∷ []) → goes_to rows to system ≡ false
      by (inl is) =
          ap (λ (rs : List PortRow). goes_to rs to system) is
          ∙ ((λ i. (0 == system && x_not i) || ((1 == system && y_not i) || false)) ∙ no_two (0 == system) (1 == system))
      by (inr is) =
          ap (λ (rs : List PortRow). goes_to rs to system) is
          ∙ ((λ i. (1 == system && y_not i) || ((0 == system && x_not i) || false)) ∙ no_two (1 == system) (0 == system))

  -- ---- the two systems

  all_know : (nodes : List (Node Rows)) → AreTwo titles first second nodes → AllByRecursion (KnowsNobody titles) nodes
  all_know nodes two = subst (AllByRecursion (KnowsNobody titles)) (sym two.are) (two.one_knows, (two.two_knows, tt))

  setups_are : (nodes : List (Node Rows)) → AreTwo titles first second nodes → settings_of nodes ≡ settings
  setups_are nodes two = ap settings_of two.are ∙ (λ i. two.one_is i ∷ two.two_is i ∷ [])

  pub are_two : (nodes : List (Node Rows)) → AllByRecursion (KnowsNobody titles) nodes → settings_of nodes ≡ settings → AreTwo titles first second nodes
  are_two [] know setups = absurd cc
  are_two (one ∷ []) know setups = absurd cc
  are_two (one ∷ two ∷ []) know setups = record { one = one; two = two; are = refl; one_is = cc; two_is = cc; one_knows = know.0; two_knows = know.1.0 }
  are_two (one ∷ two ∷ other ∷ nodes) know setups = absurd cc

  -- ---- what a network must be

  abbrev AllHarmless : Bag → Type 0
  AllHarmless bag = (entry : ℕ × Frame) → Contains (link_of bag).floating entry → IsHarmless titles entry.1

  made : (new : Net) (below : Bag) (nodes : List (Node Rows)) → new.waiting ≡ [] → new.link ≡ below → new.nodes ≡ nodes → below.waiting ≡ [] → below.honest ≡ true → below.rows ≡ rows
      → AreTwo titles first second nodes → AllHarmless below → InNet new
  made new below nodes quiet link_is nodes_are low honest ports two frames = record {
    quiet = quiet;
    below = ap (λ (b : Bag). b.waiting) link_is ∙ low;
    honest = ap (λ (b : Bag). b.honest) link_is ∙ honest;
    ports = ap (λ (b : Bag). b.rows) link_is ∙ ports;
    nodes = subst (AreTwo titles first second) (sym nodes_are) two;
    frames = subst AllHarmless (sym link_is) frames;
  }

  -- ---- a choice

  module _ (old called new : Net) (reached : InNet old) (new_is : new ≡ record called { waiting = [] }) where
    abbrev now : ℕ
    now = (link_of old.link).clock

    module _ (pick system : ℕ) (answer : Picked) (a : Arrives link_of BagStep rows_tables old (Choose pick system answer) called) where
      chooses : Chooses (link_of old.link) pick system answer (link_of a.called)
      chooses = bag_keeps old.link (Choose pick system answer) a.called a.calls

      raised : IsRaised (link_of old.link) (link_of a.called)
      raised = raised_choice (link_of old.link) pick system answer (link_of a.called) chooses

      ups_are : a.ups ≡ raised.ups
      ups_are = sym a.gathers.waited ∙ raised.waiting ∙ ap (λ (xs : List (Up Port)). xs ++ raised.ups) reached.below

      goes_there : (unit : CarriedUnit Port) (at : ℕ) → IsTrue (goes_to old.link.rows unit.to at) → IsHarmless titles unit → HasOwnPdu titles unit
      goes_there unit at goes (ToRouters group) =
          let none : goes_to old.link.rows unit.to at ≡ false = ap (λ (rs : List PortRow). goes_to rs unit.to at) reached.ports ∙ goes_to_none unit.to at group in
          absurd cc
      goes_there unit at goes (OfUsers own) = own

      drawn : (ups : List (Up Port)) → AllByRecursion (IsLawful (link_of old.link)) ups → AllByRecursion (ComesIf (λ arrival. HasOwnPdu titles arrival.unit)) ups
      drawn [] h = tt
      drawn (Noted note ∷ ups) h = (tt, drawn ups h.1)
      drawn (Came arrival ∷ ups) h =
          (goes_there arrival.unit arrival.system h.0.1 (reached.frames (h.0.0.tick, arrival.unit) h.0.0.taken), drawn ups h.1)

      handled : AreHandled link_of BagStep bag_keeps (λ entry. IsHarmless titles entry.1) (λ up. Prim.Unit {0}) now (λ note. tt) rows_tables settings (KnowsNobody titles) a.risen a.below a.nodes a.told
      handled =
          handles_kept link_of BagStep bag_keeps (λ entry. IsHarmless titles entry.1) (λ up. Prim.Unit {0}) now (λ note. tt) rows_tables settings (KnowsNobody titles)
          (λ arrival. HasOwnPdu titles arrival.unit)
          (λ arrival own node reaction after there_is knows receives.
          let l = receives_leaves rows first second here there calm node now arrival.unit there_is knows own reaction after receives in
          (l.knows, l.setup, always reaction.ups, l.frames))
          a.risen old.nodes a.ups a.below a.nodes a.told (a.gathers.stands.clock ∙ raised.clock) (λ entry h. reached.frames entry (raised.grows entry (a.gathers.grows entry h)))
          (setups_are old.nodes reached.nodes) (all_know old.nodes reached.nodes)
          (subst (AllByRecursion (ComesIf (λ arrival. HasOwnPdu titles arrival.unit))) (sym ups_are) (drawn raised.ups (raised.lawful (chooses.honest ∙ reached.honest))))
          a.handles

      pub reached_choice : InNet new
      reached_choice =
          made new a.below a.nodes (ap (λ (n : Net). n.waiting) new_is) (ap (λ (n : Net). n.link) new_is ∙ ap (λ (n : Net). n.link) a.becomes)
          (ap (λ (n : Net). n.nodes) new_is ∙ ap (λ (n : Net). n.nodes) a.becomes) (handled.below.quiet a.gathers.quiet)
          (handled.below.stands.honest ∙ (a.gathers.stands.honest ∙ (chooses.honest ∙ reached.honest)))
          (handles_rows now a.ups a.risen a.below old.nodes a.nodes a.told a.handles
          ∙ (gathers_rows a.called a.risen a.ups a.gathers ∙ (step_rows old.link (Choose pick system answer) a.called a.calls ∙ reached.ports)))
          (are_two a.nodes handled.nodes handled.setups) handled.below.good

    -- ---- a tick

    module _ (t : NetTicks link_of BagStep rows_tables old called) where
      ticks : Ticks (link_of old.link) (link_of t.ticked)
      ticks = bag_keeps old.link Tick t.ticked t.ticks

      ticked : AreTicked link_of BagStep bag_keeps (λ entry. IsHarmless titles entry.1) (λ up. Prim.Unit {0}) (now + 1) (λ note. tt) rows_tables settings (KnowsNobody titles) t.risen t.below old.nodes t.nodes t.told
      ticked =
          ticks_kept link_of BagStep bag_keeps (λ entry. IsHarmless titles entry.1) (λ up. Prim.Unit {0}) (now + 1) (λ note. tt) rows_tables settings (KnowsNobody titles) (KnowsNobody titles)
          (λ node reaction after there_is knows tick.
          let l = ticks_leaves rows first second here there calm node (now + 1) reaction after there_is knows tick in
          (l.knows, l.setup, always reaction.ups, l.frames))
          t.risen old.nodes t.below t.nodes t.told (t.gathers.stands.clock ∙ ticks.clock) (λ entry h. reached.frames entry (ticks.grows entry (t.gathers.grows entry h)))
          (subst (λ (all : List Setting). AllByRecursion (λ node. IsAmong node.setup all) old.nodes) (setups_are old.nodes reached.nodes) (own_settings old.nodes))
          (all_know old.nodes reached.nodes) t.all

      pub reached_tick : InNet new
      reached_tick =
          made new t.below t.nodes (ap (λ (n : Net). n.waiting) new_is) (ap (λ (n : Net). n.link) new_is ∙ ap (λ (n : Net). n.link) t.becomes)
          (ap (λ (n : Net). n.nodes) new_is ∙ ap (λ (n : Net). n.nodes) t.becomes) (ticked.below.quiet t.gathers.quiet)
          (ticked.below.stands.honest ∙ (t.gathers.stands.honest ∙ (ticks.honest ∙ reached.honest)))
          (ticks_rows (now + 1) old.nodes t.risen t.below t.nodes t.told t.all ∙ (gathers_rows t.ticked t.risen t.ups t.gathers ∙ (step_rows old.link Tick t.ticked t.ticks ∙ reached.ports)))
          (are_two t.nodes ticked.known (ticked.setups ∙ setups_are old.nodes reached.nodes)) ticked.below.good

    -- ---- an offer

    module _ (unit : CarriedUnit (List ℕ)) (wish : Wish) (answer : Offered) (between : IsBetween titles unit) (plain : wish.path ≡ 0) where
      same_net : called ≡ old → InNet new
      same_net is =
          made new old.link old.nodes (ap (λ (n : Net). n.waiting) new_is) (ap (λ (n : Net). n.link) new_is ∙ ap (λ (n : Net). n.link) is)
          (ap (λ (n : Net). n.nodes) new_is ∙ ap (λ (n : Net). n.nodes) is) reached.below reached.honest reached.ports reached.nodes reached.frames

      module _ (node after : Node Rows) (nodes : List (Node Rows)) (changes : Changes (is_source unit.from) old.nodes node after nodes) where
        there_is : IsAmong node.setup settings
        there_is =
            subst (IsAmong node.setup) (setups_are old.nodes reached.nodes)
            (among_map (λ (n : Node Rows). n.setup) node old.nodes (change_among (is_source unit.from) old.nodes node after nodes changes))

        knows : KnowsNobody titles node
        knows = change_at (is_source unit.from) (KnowsNobody titles) old.nodes node after nodes changes (all_know old.nodes reached.nodes)

        now_two : KnowsNobody titles after → after.setup ≡ node.setup → AreTwo titles first second nodes
        now_two knows_after setup =
            are_two nodes (change_kept (is_source unit.from) (KnowsNobody titles) old.nodes node after nodes changes (all_know old.nodes reached.nodes) knows_after)
            (change_setups (is_source unit.from) old.nodes node after nodes changes setup ∙ setups_are old.nodes reached.nodes)

      pub reached_offer : NetOffers link_of BagStep rows_tables old unit wish answer called → InNet new
      reached_offer (IsFull full answer_is is) = same_net is
      reached_offer (IsNobodys room nobody answer_is is) = same_net is
      reached_offer (IsDropped node after nodes cause room changes sends answer_is is) =
          let l = refuses_leaves rows first second here there calm node now unit wish cause after (knows node after nodes changes) sends in
          made new old.link nodes (ap (λ (n : Net). n.waiting) new_is) (ap (λ (n : Net). n.link) new_is ∙ ap (λ (n : Net). n.link) is)
          (ap (λ (n : Net). n.nodes) new_is ∙ ap (λ (n : Net). n.nodes) is) reached.below reached.honest reached.ports (now_two node after nodes changes l.knows l.setup) reached.frames
      reached_offer (IsTaken node after nodes frames below told room changes sends offers answer_is is) =
          let l =
          sends_leaves rows first second here there calm node now unit wish frames after (there_is node after nodes changes) (knows node after nodes changes) (between.sender, between.from)
          (between.receiver, between.to) plain sends in
          let kept : IsKept link_of BagStep bag_keeps (λ entry. IsHarmless titles entry.1) (λ up. Prim.Unit {0}) now (λ note. tt) old.link below =
          (offers_kept link_of BagStep bag_keeps (λ entry. IsHarmless titles entry.1) (λ up. Prim.Unit {0}) now (λ note. tt) old.link node.setup.system frames below told refl reached.frames l.1 offers).0 in
          made new below nodes (ap (λ (n : Net). n.waiting) new_is) (ap (λ (n : Net). n.link) new_is ∙ ap (λ (n : Net). n.link) is)
          (ap (λ (n : Net). n.nodes) new_is ∙ ap (λ (n : Net). n.nodes) is) (kept.quiet reached.below) (kept.stands.honest ∙ reached.honest)
          (offers_rows frames old.link below node.setup.system told offers ∙ reached.ports) (now_two node after nodes changes l.0.knows l.0.setup) kept.good

  -- ---- any usual call

  pub reached_net : (old new : Net) (call : Call (List ℕ)) (ups : List (Up (List ℕ))) → InNet old → IsUsual titles call
      → Passes (net_link link_of) (NetStep link_of BagStep rows_tables) old call ups new → InNet new
  reached_net old new (Offer unit wish answer) ups reached usual passes =
      reached_offer old passes.called new reached (net_gathered passes.called new ups passes.gathers) unit wish answer usual.0 usual.1 passes.steps_to.1
  reached_net old new (Choose pick system answer) ups reached usual passes =
      reached_choice old passes.called new reached (net_gathered passes.called new ups passes.gathers) pick system answer passes.steps_to.1
  reached_net old new Tick ups reached usual passes = reached_tick old passes.called new reached (net_gathered passes.called new ups passes.gathers) passes.steps_to.1
  reached_net old new other ups reached usual passes = absurd usual
