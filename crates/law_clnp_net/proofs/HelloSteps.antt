-- A network by the hellos that its systems heard: each step over rows is one over hellos, system by system, and what was read of a network
-- for the step does not look at what its systems know of others.
use Rattle.std.proofs.Common.{◌≡◌, ℕ, ◌+◌, ◌<◌, Bool, List, [], ◌∷◌, ◌++◌, map, Ok, Err, refl, sym, ◌∙◌, ap, subst, arith}
use Rattle.std.specs.Prelude.{◌||◌}
use Rattle.std.specs.List.{AllByRecursion, list_any}
use Rattle.nsap.specs.declared.port.Port.{Port}
use Rattle.osi_base.specs.declared.unit.Arrival.{Arrival}
use Rattle.osi_base.specs.declared.unit.Offered.{Offered}
use Rattle.osi_base.specs.declared.unit.Unit.{Unit as CarriedUnit}
use Rattle.osi_base.specs.declared.unit.Up.{Up}
use Rattle.osi_base.specs.declared.unit.Up.TheVariants.{Unit as Came, Note as Noted}
use Rattle.osi_base.specs.declared.unit.Wish.{Wish}
use Rattle.osi_base.specs.Calls.{Call, Offer, Choose, Inject, NextUp, Tick, Keeps}
use Rattle.osi_base.specs.Link.{Link, IsGiven}
use Rattle.esis_tables.specs.Told.{Told}
use Rattle.esis_tables.specs.Rows.{Rows, no_rows, swept_table}
use Rattle.clnp_system.specs.Node.{Node, Reaction, fresh_node}
use Rattle.clnp_system.specs.Setting.{Setting}
use Rattle.clnp_system.specs.Tables.{rows_tables}
use Rattle.law_clnp_step.specs.Handling.{Changes, Handles, IsReceived, Nobody, Somebody, TicksAll, is_system}
use Rattle.law_clnp_step.specs.Network.{Network}
use Rattle.law_clnp_step.specs.Sound.{IsNumberedBy, IsPeopled, IsSound, IsTimely, Knows, Origin, settings_of}
use Rattle.law_clnp_step.specs.Step.{Arrives, IsDropped, IsFull, IsNobodys, IsTaken, NetOffers, NetTicks, is_source}
use Rattle.law_clnp_step.proofs.Kept.{net_keeps}
use Rattle.law_clnp_step.proofs.Lists.{all_weaker}
use Rattle.law_clnp_step.proofs.Passed.{all_ticked}
use Rattle.law_clnp_net.specs.Hellos.{AreByHellos, IsByHellos, StandFor, by_hellos, hello_tables, with_nodes}
use Rattle.law_clnp_net.specs.Laws.{BeginsByHellos, StepsByHellos}
use Rattle.law_clnp_net.proofs.Hellos.{none_sweeps, receives_same, sends_same, sweeps, ticks_same}

-- ---- lists of systems

-- a test of systems that looks at the set-up alone
abbrev IsAlike : (Node Rows → Bool) → (Node (List Told) → Bool) → Type 0
IsAlike test again = (node : Node Rows) (neighbours redirects : List Told) → test node ≡ again (by_hellos node neighbours redirects)

module _ (now : ℕ) where
  any_same : (test : Node Rows → Bool) (again : Node (List Told) → Bool) → IsAlike test again → (nodes : List (Node Rows)) (others : List (Node (List Told)))
      → AreByHellos now nodes others → list_any test nodes ≡ list_any again others
  any_same test again alike [] [] h = refl
  any_same test again alike [] (other ∷ others) h = absurd h
  any_same test again alike (node ∷ nodes) [] h = absurd h
  any_same test again alike (node ∷ nodes) (other ∷ others) h =
      let here : test node ≡ again other = alike node h.0.neighbours h.0.redirects ∙ ap again (sym h.0.same) in
      let there = any_same test again alike nodes others h.1 in
      λ i. here i || there i

  joined : (before : List (Node Rows)) (node : Node Rows) (behind : List (Node Rows)) (others : List (Node (List Told))) (other : Node (List Told)) (rest : List (Node (List Told)))
      → AreByHellos now before others → IsByHellos now node other → AreByHellos now behind rest → AreByHellos now (before ++ node ∷ behind) (others ++ other ∷ rest)
  joined [] node behind [] other rest h here there = (here, there)
  joined [] node behind (first ∷ others) other rest h here there = absurd h
  joined (first ∷ before) node behind [] other rest h here there = absurd h
  joined (first ∷ before) node behind (second ∷ others) other rest h here there = (h.0, joined before node behind others other rest h.1 here there)

  -- where one of the systems stands
  record Place (before : List (Node Rows)) (node : Node Rows) (behind : List (Node Rows)) (others : List (Node (List Told))) : Type 0 where
    pub front : List (Node (List Told))
    pub neighbours : List Told
    pub redirects : List Told
    pub rest : List (Node (List Told))
    pub is : others ≡ front ++ by_hellos node neighbours redirects ∷ rest
    pub by_front : AreByHellos now before front
    pub by_neighbours : StandFor now node.neighbours neighbours
    pub by_redirects : StandFor now node.redirects redirects
    pub by_rest : AreByHellos now behind rest

  place : (before : List (Node Rows)) (node : Node Rows) (behind : List (Node Rows)) (others : List (Node (List Told))) → AreByHellos now (before ++ node ∷ behind) others
      → Place before node behind others
  place [] node behind [] h = absurd h
  place [] node behind (other ∷ others) h = record {
    front = [];
    neighbours = h.0.neighbours;
    redirects = h.0.redirects;
    rest = others;
    is = ap (λ (o : Node (List Told)). o ∷ others) h.0.same;
    by_front = tt;
    by_neighbours = h.0.by_neighbours;
    by_redirects = h.0.by_redirects;
    by_rest = h.1;
  }
  place (first ∷ before) node behind [] h = absurd h
  place (first ∷ before) node behind (other ∷ others) h =
      let p = place before node behind others h.1 in
      record {
        front = other ∷ p.front;
        neighbours = p.neighbours;
        redirects = p.redirects;
        rest = p.rest;
        is = ap (λ (os : List (Node (List Told))). other ∷ os) p.is;
        by_front = (h.0, p.by_front);
        by_neighbours = p.by_neighbours;
        by_redirects = p.by_redirects;
        by_rest = p.by_rest;
      }

  -- the system that changes, by the hellos that it heard, and the list with it
  record Site (again : Node (List Told) → Bool) (node after : Node Rows) (changed : List (Node Rows)) (others : List (Node (List Told))) : Type 0 where
    pub neighbours : List Told
    pub redirects : List Told
    pub by_neighbours : StandFor now node.neighbours neighbours
    pub by_redirects : StandFor now node.redirects redirects
    pub becomes : (next : Node (List Told)) → IsByHellos now after next
        → (all : List (Node (List Told))) × Changes again others (by_hellos node neighbours redirects) next all × AreByHellos now changed all

  changes_same : (test : Node Rows → Bool) (again : Node (List Told) → Bool) → IsAlike test again → (nodes : List (Node Rows)) (others : List (Node (List Told)))
      → AreByHellos now nodes others → (node after : Node Rows) (changed : List (Node Rows)) → Changes test nodes node after changed → Site again node after changed others
  changes_same test again alike nodes others h node after changed c =
      let p = place c.before node c.behind others (subst (λ (ns : List (Node Rows)). AreByHellos now ns others) c.stands h) in
      record {
        neighbours = p.neighbours;
        redirects = p.redirects;
        by_neighbours = p.by_neighbours;
        by_redirects = p.by_redirects;
        becomes = λ next by. (
          p.front ++ next ∷ p.rest,
          record {
            before = p.front;
            behind = p.rest;
            stands = p.is;
            none_before = sym (any_same test again alike c.before p.front p.by_front) ∙ c.none_before;
            passes = sym (alike node p.neighbours p.redirects) ∙ c.passes;
            becomes = refl;
          },
          subst (λ (ns : List (Node Rows)). AreByHellos now ns (p.front ++ next ∷ p.rest)) (sym c.becomes)
              (joined c.before after c.behind p.front next p.rest p.by_front by p.by_rest),
        );
      }

  -- ---- an arrival
  arrival_same : (nodes : List (Node Rows)) (others : List (Node (List Told))) → AreByHellos now nodes others → (arrival : Arrival Port) (reaction : Reaction) (changed : List (Node Rows))
      → IsReceived rows_tables now nodes arrival reaction changed
      → (next : List (Node (List Told))) × IsReceived hello_tables now others arrival reaction next × AreByHellos now changed next
  arrival_same nodes others h arrival reaction changed (Nobody none is same) = (
    others,
    Nobody (sym (any_same (is_system arrival.system) (is_system arrival.system) (λ node neighbours redirects. refl) nodes others h) ∙ none) is refl,
    subst (λ (ns : List (Node Rows)). AreByHellos now ns others) (sym same) h,
  )
  arrival_same nodes others h arrival reaction changed (Somebody node after change receives) =
      let site = changes_same (is_system arrival.system) (is_system arrival.system) (λ n neighbours redirects. refl) nodes others h node after changed change in
      let done = receives_same node site.neighbours site.redirects now site.by_neighbours site.by_redirects arrival.unit reaction after receives in
      let all = site.becomes done.0 done.2 in
      (all.0, Somebody (by_hellos node site.neighbours site.redirects) done.0 all.1 done.1, all.2)

module _ {C : Type 0} (link : C → Link Port) (steps : C → Call Port → C → Type 0) where
  handles_same : (now : ℕ) (old : C) (nodes : List (Node Rows)) (others : List (Node (List Told))) → AreByHellos now nodes others → (ups : List (Up Port)) (new : C)
      (after : List (Node Rows)) (told : List (Up (List ℕ))) → Handles link steps rows_tables now old nodes ups new after told
      → (next : List (Node (List Told))) × Handles link steps hello_tables now old others ups new next told × AreByHellos now after next
  handles_same now old nodes others by [] new after told h =
      (others, (h.0, refl, h.2), subst (λ (ns : List (Node Rows)). AreByHellos now ns others) (sym h.1) by)
  handles_same now old nodes others by (Noted note ∷ ups) new after told h =
      let r = handles_same now old nodes others by ups new after h.0 h.1 in
      (r.0, (h.0, r.1, h.2), r.2)
  handles_same now old nodes others by (Came arrival ∷ ups) new after told h =
      let a = arrival_same now nodes others by arrival h.0 h.2 h.5 in
      let r = handles_same now h.1 h.2 a.0 a.2 ups new after h.4 h.7 in
      (r.0, (h.0, h.1, a.0, h.3, h.4, a.1, h.6, r.1, h.8), r.2)

  -- each system's rows stand for its hellos once they are swept
  abbrev WillBe : ℕ → List (Node Rows) → List (Node (List Told)) → Type 0
  WillBe now [] [] = Prim.Unit {0}
  WillBe now [] (other ∷ others) = ⊥
  WillBe now (node ∷ nodes) [] = ⊥
  WillBe now (node ∷ nodes) (other ∷ others) =
      ((neighbours redirects : List Told) × (other ≡ by_hellos node neighbours redirects) × StandFor now (swept_table node.neighbours now) neighbours
      × StandFor now (swept_table node.redirects now) redirects)
      × WillBe now nodes others

  will_be : (since now : ℕ) → since < now → (nodes : List (Node Rows)) (others : List (Node (List Told))) → AreByHellos since nodes others → WillBe now nodes others
  will_be since now later [] [] h = tt
  will_be since now later [] (other ∷ others) h = absurd h
  will_be since now later (node ∷ nodes) [] h = absurd h
  will_be since now later (node ∷ nodes) (other ∷ others) h = (
    (
      h.0.neighbours,
      h.0.redirects,
      h.0.same,
      sweeps since now node.neighbours h.0.neighbours later h.0.by_neighbours,
      sweeps since now node.redirects h.0.redirects later h.0.by_redirects,
    ),
    will_be since now later nodes others h.1,
  )

  ticks_all_same : (now : ℕ) (old : C) (nodes : List (Node Rows)) (others : List (Node (List Told))) → WillBe now nodes others → (new : C) (after : List (Node Rows))
      (told : List (Up (List ℕ))) → TicksAll link steps rows_tables now old nodes new after told
      → (next : List (Node (List Told))) × TicksAll link steps hello_tables now old others new next told × AreByHellos now after next
  ticks_all_same now old [] [] by new after told h = ([], (h.0, refl, h.2), subst (λ (ns : List (Node Rows)). AreByHellos now ns []) (sym h.1) tt)
  ticks_all_same now old [] (other ∷ others) by new after told h = absurd by
  ticks_all_same now old (node ∷ nodes) [] by new after told h = absurd by
  ticks_all_same now old (node ∷ nodes) (other ∷ others) by new after told h =
      let neighbours = by.0.0 in
      let redirects = by.0.1 in
      let t = ticks_same node neighbours redirects now by.0.3 by.0.4 h.0 h.2 h.6 in
      let r = ticks_all_same now h.1 nodes others by.1 new h.3 h.5 h.8 in
      let next : List (Node (List Told)) = by_hellos h.2 neighbours redirects ∷ r.0 in (
        next,
        subst (λ (o : Node (List Told)). TicksAll link steps hello_tables now old (o ∷ others) new next told) (sym by.0.2)
            (h.0, h.1, by_hellos h.2 neighbours redirects, r.0, h.4, h.5, t.0, h.7, r.1, refl, h.10),
        subst (λ (ns : List (Node Rows)). AreByHellos now ns next) (sym h.9) (t.1, r.2),
      )

  -- ---- an offer
  offers_same : (old : Network C Rows) (unit : CarriedUnit (List ℕ)) (wish : Wish) (answer : Offered) (new : Network C Rows) (nodes : List (Node (List Told)))
      → AreByHellos (link old.link).clock old.nodes nodes → NetOffers link steps rows_tables old unit wish answer new
      → (after : List (Node (List Told))) × NetOffers link steps hello_tables (with_nodes old nodes) unit wish answer (with_nodes new after)
      × AreByHellos (link old.link).clock new.nodes after
  offers_same old unit wish answer new nodes by (IsFull full is same) =
      (nodes, IsFull full is (ap (λ (n : Network C Rows). with_nodes n nodes) same), subst (λ (n : Network C Rows). AreByHellos (link old.link).clock n.nodes nodes) (sym same) by)
  offers_same old unit wish answer new nodes by (IsNobodys room none is same) = (
    nodes,
    IsNobodys room (sym (any_same (link old.link).clock (is_source unit.from) (is_source unit.from) (λ node neighbours redirects. refl) old.nodes nodes by) ∙ none) is
        (ap (λ (n : Network C Rows). with_nodes n nodes) same),
    subst (λ (n : Network C Rows). AreByHellos (link old.link).clock n.nodes nodes) (sym same) by,
  )
  offers_same old unit wish answer new nodes by (IsDropped node after changed cause room change sends is becomes) =
      let now = (link old.link).clock in
      let site = changes_same now (is_source unit.from) (is_source unit.from) (λ n neighbours redirects. refl) old.nodes nodes by node after changed change in
      let sent = sends_same node site.neighbours site.redirects now site.by_neighbours site.by_redirects unit wish (Err cause) after sends in
      let next = by_hellos after site.neighbours site.redirects in
      let all = site.becomes next sent.1 in (
        all.0,
        IsDropped (by_hellos node site.neighbours site.redirects) next all.0 cause room all.1 sent.0 is (ap (λ (n : Network C Rows). with_nodes n all.0) becomes),
        subst (λ (n : Network C Rows). AreByHellos now n.nodes all.0) (sym becomes) all.2,
      )
  offers_same old unit wish answer new nodes by (IsTaken node after changed frames below told room change sends offers is becomes) =
      let now = (link old.link).clock in
      let site = changes_same now (is_source unit.from) (is_source unit.from) (λ n neighbours redirects. refl) old.nodes nodes by node after changed change in
      let sent = sends_same node site.neighbours site.redirects now site.by_neighbours site.by_redirects unit wish (Ok frames) after sends in
      let next = by_hellos after site.neighbours site.redirects in
      let all = site.becomes next sent.1 in (
        all.0,
        IsTaken (by_hellos node site.neighbours site.redirects) next all.0 frames below told room all.1 sent.0 offers is (ap (λ (n : Network C Rows). with_nodes n all.0) becomes),
        subst (λ (n : Network C Rows). AreByHellos now n.nodes all.0) (sym becomes) all.2,
      )

  -- ---- what comes up
  arrives_same : (old : Network C Rows) (call : Call Port) (new : Network C Rows) (nodes : List (Node (List Told))) → AreByHellos (link old.link).clock old.nodes nodes
      → Arrives link steps rows_tables old call new
      → (after : List (Node (List Told))) × Arrives link steps hello_tables (with_nodes old nodes) call (with_nodes new after) × AreByHellos (link old.link).clock new.nodes after
  arrives_same old call new nodes by a =
      let r = handles_same (link old.link).clock a.risen old.nodes nodes by a.ups a.below a.nodes a.told a.handles in (
        r.0,
        record {
          called = a.called;
          ups = a.ups;
          risen = a.risen;
          below = a.below;
          nodes = r.0;
          told = a.told;
          calls = a.calls;
          gathers = a.gathers;
          handles = r.1;
          becomes = ap (λ (n : Network C Rows). with_nodes n r.0) a.becomes;
        },
        subst (λ (n : Network C Rows). AreByHellos (link old.link).clock n.nodes r.0) (sym a.becomes) r.2,
      )

  -- ---- a tick
  tick_same : (old new : Network C Rows) (nodes : List (Node (List Told))) → AreByHellos (link old.link).clock old.nodes nodes → NetTicks link steps rows_tables old new
      → (after : List (Node (List Told))) × NetTicks link steps hello_tables (with_nodes old nodes) (with_nodes new after) × AreByHellos ((link old.link).clock + 1) new.nodes after
  tick_same old new nodes by t =
      let now = (link old.link).clock + 1 in
      let r = ticks_all_same now t.risen old.nodes nodes (will_be (link old.link).clock now (omega arith) old.nodes nodes by) t.below t.nodes t.told t.all in (
        r.0,
        record {
          ticked = t.ticked;
          ups = t.ups;
          risen = t.risen;
          below = t.below;
          nodes = r.0;
          told = t.told;
          ticks = t.ticks;
          gathers = t.gathers;
          all = r.1;
          becomes = ap (λ (n : Network C Rows). with_nodes n r.0) t.becomes;
        },
        subst (λ (n : Network C Rows). AreByHellos now n.nodes r.0) (sym t.becomes) r.2,
      )

  -- ---- what holds between two calls
  settings_same : (now : ℕ) (nodes : List (Node Rows)) (others : List (Node (List Told))) → AreByHellos now nodes others → settings_of nodes ≡ settings_of others
  settings_same now [] [] h = refl
  settings_same now [] (other ∷ others) h = absurd h
  settings_same now (node ∷ nodes) [] h = absurd h
  settings_same now (node ∷ nodes) (other ∷ others) h =
      let here : node.setup ≡ other.setup = sym (ap (λ (n : Node (List Told)). n.setup) h.0.same) in
      let there = settings_same now nodes others h.1 in
      λ i. here i ∷ there i

  all_same : (now : ℕ) (P : Node Rows → Type 0) (Q : Node (List Told) → Type 0) → ((node : Node Rows) (neighbours redirects : List Told) → P node → Q (by_hellos node neighbours redirects))
      → (nodes : List (Node Rows)) (others : List (Node (List Told))) → AreByHellos now nodes others → AllByRecursion P nodes → AllByRecursion Q others
  all_same now P Q f [] [] h all = tt
  all_same now P Q f [] (other ∷ others) h all = absurd h
  all_same now P Q f (node ∷ nodes) [] h all = absurd h
  all_same now P Q f (node ∷ nodes) (other ∷ others) h all =
      (subst Q (sym h.0.same) (f node h.0.neighbours h.0.redirects all.0), all_same now P Q f nodes others h.1 all.1)

  knows_same : (origins : List Origin) (life : ℕ) (node : Node Rows) (neighbours redirects : List Told) → Knows origins life node
      → Knows origins life (by_hellos node neighbours redirects)
  knows_same origins life node neighbours redirects k = record {
    next_fits = k.next_fits;
    numbered = all_weaker (IsNumberedBy node) (IsNumberedBy (by_hellos node neighbours redirects)) origins
        (λ origin h own id is. let n = h own id is in record { fits = n.fits; since = n.since; given = n.given; sooner = n.sooner; below = n.below }) k.numbered;
    held = k.held;
  }

  sound_same : (net : Network C Rows) (nodes : List (Node (List Told))) (now : ℕ) → AreByHellos now net.nodes nodes → IsSound link net → IsSound link (with_nodes net nodes)
  sound_same net nodes now by sound = record {
    steady = record {
      quiet = sound.steady.quiet;
      low = sound.steady.low;
      limit = sound.steady.limit;
      peopled = subst (IsPeopled (link net.link).bound net.life) (settings_same now net.nodes nodes by) sound.steady.peopled;
      timely = all_same now (IsTimely (link net.link).clock) (IsTimely (link net.link).clock)
          (λ node neighbours redirects t. record { clock_is = t.clock_is; held = t.held }) net.nodes nodes by sound.steady.timely;
      past = sound.steady.past;
      young = sound.steady.young;
      none = sound.steady.none;
    };
    traced = λ honest.
        let t = sound.traced honest in (
          t.0,
          record {
            entries = t.1.entries;
            carried = t.1.carried;
            tellable = t.1.tellable;
            known = all_same now (Knows t.0 net.life) (Knows t.0 net.life) (knows_same t.0 net.life) net.nodes nodes by t.1.known;
          },
        );
  }

  module _ (law : (old : C) (call : Call Port) (new : C) → steps old call new → Keeps (link old) call (link new)) (given : (carrier : C) → IsGiven (link carrier)) where
    pub steps_by_hellos : StepsByHellos link steps
    steps_by_hellos old new (Offer unit wish answer) nodes by s =
        let clock = (net_keeps link steps law given rows_tables old (Offer unit wish answer) new s).clock in
        let r = offers_same old unit wish answer new nodes by s.1 in
        (r.0, (sound_same old nodes (link old.link).clock by s.0, r.1), subst (λ (n : ℕ). AreByHellos n new.nodes r.0) (sym clock) r.2)
    steps_by_hellos old new (Choose pick system answer) nodes by s =
        let clock = (net_keeps link steps law given rows_tables old (Choose pick system answer) new s).clock in
        let r = arrives_same old (Choose pick system answer) new nodes by s.1 in
        (r.0, (sound_same old nodes (link old.link).clock by s.0, r.1), subst (λ (n : ℕ). AreByHellos n new.nodes r.0) (sym clock) r.2)
    steps_by_hellos old new (Inject lan system octets answer) nodes by s =
        let clock = (net_keeps link steps law given rows_tables old (Inject lan system octets answer) new s).clock in
        let r = arrives_same old (Inject lan system octets answer) new nodes by s.1 in
        (r.0, (sound_same old nodes (link old.link).clock by s.0, r.1), subst (λ (n : ℕ). AreByHellos n new.nodes r.0) (sym clock) r.2)
    steps_by_hellos old new (NextUp answer) nodes by s = (
      nodes,
      (s.0, record { waiting = s.1.waiting; none = s.1.none; becomes = ap (λ (n : Network C Rows). with_nodes n nodes) s.1.becomes }),
      subst (λ (n : Network C Rows). AreByHellos (link n.link).clock n.nodes nodes) (sym s.1.becomes) by,
    )
    steps_by_hellos old new Tick nodes by s =
        let clock = (net_keeps link steps law given rows_tables old Tick new s).clock in
        let r = tick_same old new nodes by s.1 in
        (r.0, ((sound_same old nodes (link old.link).clock by s.0.0, s.0.1), r.1), subst (λ (n : ℕ). AreByHellos n new.nodes r.0) (sym clock) r.2)

    first_will_be : (settings : List Setting) → WillBe 0 (map (λ setting. fresh_node setting no_rows) settings) (map (λ setting. fresh_node setting []) settings)
    first_will_be [] = tt
    first_will_be (setting ∷ settings) = (([], [], refl, none_sweeps 0, none_sweeps 0), first_will_be settings)

    pub begins_by_hellos : BeginsByHellos link steps
    begins_by_hellos first settings life new clock b =
        let nodes : List (Node Rows) = map (λ setting. fresh_node setting no_rows) settings in
        let r = ticks_all_same 0 first nodes (map (λ setting. fresh_node setting []) settings) (first_will_be settings) b.below b.after b.told b.all in
        let at : (link b.below).clock ≡ 0 = (all_ticked link steps law rows_tables 0 first nodes b.below b.after b.told clock b.all).below.stands.clock ∙ clock in (
          r.0,
          record { below = b.below; after = r.0; told = b.told; all = r.1; becomes = ap (λ (n : Network C Rows). with_nodes n r.0) b.becomes },
          subst (λ (n : Network C Rows). AreByHellos (link n.link).clock n.nodes r.0) (sym b.becomes) (subst (λ (n : ℕ). AreByHellos n b.after r.0) (sym at) r.2),
        )
