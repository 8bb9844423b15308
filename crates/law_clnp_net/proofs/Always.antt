-- Each call that may be asked of a network over the LANs is answered, where the network stands, and then it still does. Since a call has
-- one answer, what holds of the answer that is made here holds of each.
use Rattle.std.proofs.Common.{◌≡◌, ◌⊎◌, ℕ, ◌+◌, ◌<◌, ◌≤◌, false, List, [], ◌∷◌, ◌++◌, length, map, Some, None, Result, Ok, Err, refl, sym, ap, subst, arith, inl, inr}
use Rattle.std.specs.List.{AllByRecursion, filter, list_any}
use Rattle.std.proofs.lemmas.Bool.{cases_lt}
use Rattle.osi_base.specs.declared.unit.DropCause.{DropCause}
use Rattle.osi_base.specs.declared.unit.DropCause.TheVariants as causes
use Rattle.osi_base.specs.declared.unit.Offered.TheVariants.{Taken as WasTaken, Dropped}
use Rattle.osi_base.specs.declared.unit.Unit.{Unit as CarriedUnit}
use Rattle.osi_base.specs.declared.unit.Up.{Up}
use Rattle.osi_base.specs.declared.unit.Wish.{Wish}
use Rattle.nsap.specs.declared.port.Port.{Port}
use Rattle.osi_base.specs.Calls.{Call, Offer, Choose, Inject, NextUp, Tick}
use Rattle.osi_base.specs.Floated.{is_young}
use Rattle.law_carrier_answers.specs.Answers.{AlwaysAnswers, SomeGathering, Asked, CanBeAsked, Offering, Choosing, Injecting, TakingUp, Ticking, asked_of}
use Rattle.law_carrier_answers.proofs.Gatherings.{some_gathering}
use Rattle.lan_step.specs.Bag.{Bag, BagStep, link_of, new_bag}
use Rattle.lan_step.specs.declared.row.Lan.{Lan}
use Rattle.lan_step.specs.declared.row.PortRow.{PortRow}
use Rattle.lan_step.proofs.Keeping.{bag_given, bag_keeps}
use Rattle.esis_tables.specs.Rows.{Rows}
use Rattle.clnp_system.specs.Node.{Frame, Node}
use Rattle.clnp_system.specs.Sending.{Sends}
use Rattle.clnp_system.specs.Setting.{Setting}
use Rattle.clnp_system.specs.Tables.{rows_tables}
use Rattle.law_clnp_step.specs.Handling.{notes_of}
use Rattle.law_clnp_step.specs.Network.{Network, net_link}
use Rattle.law_clnp_step.specs.Sound.{IsNew, IsPeopled, IsSound, settings_of}
use Rattle.law_clnp_step.specs.Step.{Arrives, IsDropped, IsFull, IsNobodys, IsTaken, NetStep, counted, is_source, strays_in}
use Rattle.law_clnp_step.proofs.Kept.{begins_soundly, net_keeps, stays_sound}
use Rattle.law_clnp_net.specs.Beginning.{BeginsAs, MayBegin, first_node}
use Rattle.law_clnp_net.specs.Laws.{BeginsServing, BeginsStanding, NetServes}
use Rattle.law_clnp_net.specs.Serving.{StandsInOctets, WaitsInOctets}
use Rattle.law_clnp_net.specs.Standing.{FitsBag, FitsNode, IsSetUp, Stands, is_nsap}
use Rattle.law_clnp_net.proofs.Bags.{one_bag_answer}
use Rattle.law_clnp_net.proofs.answered.Carrying.{chosen, gathered, injected, nsap_of, passed}
use Rattle.law_clnp_net.proofs.answered.Departing.{AllFit, IsUnit, departed}
use Rattle.law_clnp_net.proofs.answered.Least.{least_pair}
use Rattle.law_clnp_net.proofs.answered.Moving.{changed, changed_fit, first_fits, handled, notes_fit, offered_all, ticked_all, waits_both}
use Rattle.law_clnp_net.proofs.Steps.{one_answer, one_beginning}
use Rattle.law_clnp_net.proofs.answered.Storing.{FirstOf, first_of}

-- an answer, in octets
record Answered (old : Network Bag Rows) (asked : Asked (List ℕ)) : Type 0 where
  call : Call (List ℕ)
  new : Network Bag Rows
  is_asked : asked_of call ≡ asked
  steps : NetStep link_of BagStep rows_tables old call new
  link : FitsBag new.link
  nodes : AllByRecursion FitsNode new.nodes
  waiting : WaitsInOctets old.waiting → WaitsInOctets new.waiting

-- ---- an offer

module _ (old : Network Bag Rows) (stands : Stands old) (unit : CarriedUnit (List ℕ)) (wish : Wish) (is : IsUnit unit) where
  full : old.floating.limit ≤ length old.floating.entries → Answered old (Offering unit wish)
  full h = record {
    call = Offer unit wish (Dropped causes.Full);
    new = old;
    is_asked = refl;
    steps = (stands.sound, IsFull h refl refl);
    link = stands.link;
    nodes = stands.nodes;
    waiting = λ h. h;
  }

  nobodys : length old.floating.entries < old.floating.limit → list_any (is_source unit.from) old.nodes ≡ false → Answered old (Offering unit wish)
  nobodys h none = record {
    call = Offer unit wish (Dropped causes.NoRoute);
    new = old;
    is_asked = refl;
    steps = (stands.sound, IsNobodys h none refl refl);
    link = stands.link;
    nodes = stands.nodes;
    waiting = λ h. h;
  }

  sent_by : length old.floating.entries < old.floating.limit → (f : FirstOf (is_source unit.from) old.nodes) → (sent : Result (List Frame) DropCause) (new : Node Rows)
      → Sends rows_tables f.one (link_of old.link).clock unit wish sent new → FitsNode new → AllFit f.one (first_fits (is_source unit.from) old.nodes f stands.nodes) sent → Answered old (Offering unit wish)
  sent_by h f (Err cause) new sends fits frames = record {
    call = Offer unit wish (Dropped cause);
    new = record old { nodes = f.before ++ new ∷ f.rest };
    is_asked = refl;
    steps = (stands.sound, IsDropped f.one new (f.before ++ new ∷ f.rest) cause h (changed (is_source unit.from) old.nodes f new) sends refl refl);
    link = stands.link;
    nodes = changed_fit (is_source unit.from) old.nodes f new stands.nodes fits;
    waiting = λ h. h;
  }
  sent_by h f (Ok made) new sends fits frames =
      let out = offered_all old.link f.one.setup.system made stands.link frames in
      let after : List (Node Rows) = f.before ++ new ∷ f.rest in
      record {
        call = Offer unit wish WasTaken;
        new = record old {
          link = out.new;
          nodes = after;
          floating = record old.floating { entries = old.floating.entries ++ ((link_of old.link).clock, unit) ∷ [] };
          waiting = old.waiting ++ out.told;
        };
        is_asked = refl;
        steps = (stands.sound, IsTaken f.one new after made out.new out.told h (changed (is_source unit.from) old.nodes f new) sends out.offers refl refl);
        link = out.fits;
        nodes = changed_fit (is_source unit.from) old.nodes f new stands.nodes fits;
        waiting = λ h. waits_both old.waiting out.told h out.told_fit;
      }

  offered : Answered old (Offering unit wish)
  offered = by (cases_lt (length old.floating.entries) old.floating.limit) (first_of (is_source unit.from) old.nodes)
    where
      by : (length old.floating.entries < old.floating.limit) ⊎ (old.floating.limit ≤ length old.floating.entries)
          → (list_any (is_source unit.from) old.nodes ≡ false) ⊎ FirstOf (is_source unit.from) old.nodes → Answered old (Offering unit wish)
      by (inr over) source = full over
      by (inl room) (inl none) = nobodys room none
      by (inl room) (inr f) =
          let d = departed f.one (first_fits (is_source unit.from) old.nodes f stands.nodes) (link_of old.link).clock unit wish is in
          sent_by room f d.sent d.new d.sends d.stands d.fit

-- ---- what comes up

record Risen (old : Network Bag Rows) (call : Call Port) : Type 0 where
  new : Network Bag Rows
  arrives : Arrives link_of BagStep rows_tables old call new
  link : FitsBag new.link
  nodes : AllByRecursion FitsNode new.nodes
  waiting : WaitsInOctets old.waiting → WaitsInOctets new.waiting

risen : (old : Network Bag Rows) (call : Call Port) (called : Bag) → Stands old → BagStep old.link call called → FitsBag called → Risen old call
risen old call called stands calls fits =
    let ups = gathered called fits in
    let h = handled ups.ups ups.new (link_of old.link).clock old.nodes ups.fits stands.nodes ups.each in
    record {
      new = record old {
        link = h.new;
        nodes = h.after;
        waiting = old.waiting ++ h.told;
        strays = counted (link_of h.new).honest old.strays (strays_in old.floating.entries h.told);
      };
      arrives = record {
        called = called;
        ups = ups.ups;
        risen = ups.new;
        below = h.new;
        nodes = h.after;
        told = h.told;
        calls = calls;
        gathers = ups.gathers;
        handles = h.handles;
        becomes = refl;
      };
      link = h.fits;
      nodes = h.fit;
      waiting = λ k. waits_both old.waiting h.told k h.told_fit;
    }

-- ---- taking up

no_up : (up : Up (List ℕ)) → Some up ≡ None → ⊥
no_up up none = absurd cc

taken_up : (old : Network Bag Rows) (waiting : List (Up (List ℕ))) → Stands old → old.waiting ≡ waiting → Answered old TakingUp
taken_up old [] stands e = record {
  call = NextUp None;
  new = record old { waiting = [] };
  is_asked = refl;
  steps = (tt, record { waiting = e; none = λ none. e; becomes = refl });
  link = stands.link;
  nodes = stands.nodes;
  waiting = λ h. tt;
}
taken_up old (up ∷ ups) stands e = record {
  call = NextUp (Some up);
  new = record old { waiting = ups };
  is_asked = refl;
  steps = (tt, record { waiting = e; none = λ none. absurd (no_up up none); becomes = refl });
  link = stands.link;
  nodes = stands.nodes;
  waiting = λ h. let all : WaitsInOctets (up ∷ ups) = subst WaitsInOctets e h in all.1;
}

-- ---- a tick

ticked : (old : Network Bag Rows) → Stands old → (link_of old.link).clock < 4000000000 → Answered old Ticking
ticked old stands low =
    let t = passed old.link stands.link in
    let ups = gathered t.0 t.2 in
    let now : ℕ = (link_of old.link).clock + 1 in
    let all = ticked_all old.nodes ups.new now ups.fits stands.nodes in
    record {
      call = Tick;
      new = record old {
        link = all.new;
        nodes = all.after;
        floating = record old.floating { entries = filter (is_young now old.life) old.floating.entries };
        waiting = old.waiting ++ (notes_of ups.ups ++ all.told);
      };
      is_asked = refl;
      steps = (
        (stands.sound, low),
        record {
          ticked = t.0;
          ups = ups.ups;
          risen = ups.new;
          below = all.new;
          nodes = all.after;
          told = all.told;
          ticks = t.1;
          gathers = ups.gathers;
          all = all.ticks;
          becomes = refl;
        },
      );
      link = all.fits;
      nodes = all.fit;
      waiting = λ h. waits_both old.waiting (notes_of ups.ups ++ all.told) h (waits_both (notes_of ups.ups) all.told (notes_fit ups.ups) all.told_fit);
    }

-- ---- all calls

answered : (old : Network Bag Rows) (asked : Asked (List ℕ)) → Stands old → CanBeAsked is_nsap (net_link link_of old) asked → Answered old asked
answered old (Offering unit wish) stands may =
    offered old stands unit wish (record { from = nsap_of unit.from may.from; to = nsap_of unit.to may.to; octets = may.octets })
answered old (Choosing pick system) stands may =
    let c = chosen old.link pick system stands.link in
    let r = risen old (Choose pick system c.0) c.1 stands c.2 c.3 in
    record { call = Choose pick system c.0; new = r.new; is_asked = refl; steps = (stands.sound, r.arrives); link = r.link; nodes = r.nodes; waiting = r.waiting }
answered old (Injecting lan system octets) stands may =
    let c = injected old.link lan system octets stands.link may in
    let r = risen old (Inject lan system octets c.0) c.1 stands c.2 c.3 in
    record { call = Inject lan system octets c.0; new = r.new; is_asked = refl; steps = (stands.sound, r.arrives); link = r.link; nodes = r.nodes; waiting = r.waiting }
answered old TakingUp stands may = taken_up old old.waiting stands refl
answered old Ticking stands may = ticked old stands may

sound_on : (old : Network Bag Rows) (call : Call (List ℕ)) (new : Network Bag Rows) → IsSound link_of old → NetStep link_of BagStep rows_tables old call new → IsSound link_of new
sound_on = stays_sound link_of BagStep bag_keeps bag_given rows_tables

stays : (old : Network Bag Rows) (call : Call (List ℕ)) (new : Network Bag Rows) → Stands old → CanBeAsked is_nsap (net_link link_of old) (asked_of call)
    → NetStep link_of BagStep rows_tables old call new → Stands new
stays old call new stands may step =
    let a = answered old (asked_of call) stands may in
    let same = one_answer link_of BagStep one_bag_answer rows_tables old a.call call a.new new a.is_asked a.steps step in
    record {
      sound = sound_on old call new stands.sound step;
      link = subst (λ (net : Network Bag Rows). FitsBag net.link) same.1 a.link;
      nodes = subst (λ (net : Network Bag Rows). AllByRecursion FitsNode net.nodes) same.1 a.nodes;
    }

pub always_answers : AlwaysAnswers is_nsap (net_link link_of) (NetStep link_of BagStep rows_tables) Stands
always_answers = record {
  answered = λ old asked stands may.
      let a = answered old asked stands may in
      record { call = a.call; new = a.new; is_asked = a.is_asked; steps_to = a.steps };
  stays = stays;
}

-- ---- what waits

in_octets : (old : Network Bag Rows) (call : Call (List ℕ)) (new : Network Bag Rows) → StandsInOctets old → CanBeAsked is_nsap (net_link link_of old) (asked_of call)
    → NetStep link_of BagStep rows_tables old call new → StandsInOctets new
in_octets old call new stands may step =
    let a = answered old (asked_of call) stands.stands may in
    let same = one_answer link_of BagStep one_bag_answer rows_tables old a.call call a.new new a.is_asked a.steps step in
    record {
      stands = stays old call new stands.stands may step;
      waiting = subst (λ (net : Network Bag Rows). WaitsInOctets net.waiting) same.1 (a.waiting stands.waiting);
    }

pub serves : NetServes
serves = record {
  answers = record { answered = λ old asked stands may. always_answers.answered old asked stands.stands may; stays = in_octets };
  in_octets = λ old stands. stands.waiting;
  least = λ old stands. least_pair old.link;
}

pub always_gathered : SomeGathering (net_link link_of) (NetStep link_of BagStep rows_tables) Stands
always_gathered =
    some_gathering (net_link link_of) (NetStep link_of BagStep rows_tables) (net_keeps link_of BagStep bag_keeps bag_given rows_tables) is_nsap Stands always_answers

-- ---- a network begins

first_nodes_fit : (settings : List Setting) → AllByRecursion IsSetUp settings → AllByRecursion FitsNode (map first_node settings)
first_nodes_fit [] h = tt
first_nodes_fit (setting ∷ settings) h = (record { setup = h.0; next_id = omega arith; held = tt; neighbours = tt; redirects = tt }, first_nodes_fit settings h.1)

first_nodes_new : (settings : List Setting) → AllByRecursion IsNew (map first_node settings)
first_nodes_new [] = tt
first_nodes_new (setting ∷ settings) = (record { clock = refl; next_id = refl; held = refl }, first_nodes_new settings)

first_settings : (settings : List Setting) → settings_of (map first_node settings) ≡ settings
first_settings [] = refl
first_settings (setting ∷ settings) = ap (λ (others : List Setting). setting ∷ others) (first_settings settings)

record Begun (lans : List Lan) (rows : List PortRow) (settings : List Setting) (life : ℕ) : Type 0 where
  new : Network Bag Rows
  begins : BeginsAs lans rows settings life new
  stands : Stands new
  waiting : WaitsInOctets new.waiting

begun : (lans : List Lan) (rows : List PortRow) (settings : List Setting) (life : ℕ) → MayBegin lans rows settings life → Begun lans rows settings life
begun lans rows settings life may =
    let first : Bag = new_bag lans rows in
    let nodes : List (Node Rows) = map first_node settings in
    let all = ticked_all nodes first 0 (record { frames = tt; waiting = tt }) (first_nodes_fit settings may.set) in
    let new : Network Bag Rows = record { link = all.new; nodes = all.after; floating = record { limit = 40000; entries = [] }; waiting = all.told; strays = 0; life = life } in
    let begins : BeginsAs lans rows settings life new = record { below = all.new; after = all.after; told = all.told; all = all.ticks; becomes = refl } in
    let peopled : IsPeopled (link_of first).bound life (settings_of nodes) = subst (IsPeopled (link_of first).bound life) (sym (first_settings settings)) may.peopled in
    record {
      new = new;
      begins = begins;
      stands = record {
        sound = begins_soundly link_of BagStep bag_keeps bag_given rows_tables first nodes life new refl refl refl peopled (first_nodes_new settings) begins;
        link = all.fits;
        nodes = all.fit;
      };
      waiting = all.told_fit;
    }

pub begins_standing : BeginsStanding
begins_standing = record {
  begins = λ lans rows settings life may. let b = begun lans rows settings life may in (b.new, b.begins);
  stands = λ lans rows settings life new may begins.
      let b = begun lans rows settings life may in
      subst Stands (one_beginning link_of BagStep one_bag_answer rows_tables (new_bag lans rows) (map first_node settings) life b.new new b.begins begins) b.stands;
}

pub begins_serving : BeginsServing
begins_serving lans rows settings life new may begins =
    let b = begun lans rows settings life may in
    let same = one_beginning link_of BagStep one_bag_answer rows_tables (new_bag lans rows) (map first_node settings) life b.new new b.begins begins in
    record { stands = subst Stands same b.stands; waiting = subst (λ (net : Network Bag Rows). WaitsInOctets net.waiting) same b.waiting }
