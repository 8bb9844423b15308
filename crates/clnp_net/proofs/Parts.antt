-- Parts of a call are put together: one frame more, one arrival more, one system more.
use Rattle.std.proofs.Common.{◌≡◌, inl, inr, ℕ, ◌+◌, ◌<◌, ◌≤◌, Bool, true, false, List, [], ◌∷◌, ◌++◌, length, take, drop, slice_get, slice_index_or, slice_set, refl, sym, ◌∙◌, ap, subst, append_assoc, arith, Some, None, length-append, length-drop, zero, suc}
use Rattle.std.specs.Prelude.{◌&&◌, ◌↔◌, IsTrue, Result, Ok, Err, cond, min, nat_eq}
use Rattle.std.specs.Cmp.Lexicographic.{pointwise}
use Rattle.std.specs.List.{All, AllByRecursion, filter, list_any, position}
use Rattle.std.proofs.lemmas.Bool.Decides.{nat_tests}
use Rattle.std.proofs.lemmas.List.Elements.{All-from_recursion}
use Rattle.std.proofs.lemmas.List.{append-nil}
use Rattle.std.proofs.lemmas.List.Quantifiers.{position-Some}
use Rattle.std.proofs.lemmas.Option.{slice_get-get_or}
use Rattle.nsap.specs.declared.port.Port.{Port}
use Rattle.osi_base.specs.declared.unit.Arrival.{Arrival}
use Rattle.osi_base.specs.declared.unit.Unit.{Unit as CarriedUnit}
use Rattle.osi_base.specs.declared.unit.Up.{Up}
use Rattle.osi_base.specs.declared.unit.Up.TheVariants.{Unit as Came, Note as Noted}
use Rattle.osi_base.specs.declared.unit.Wish.{Wish}
use Rattle.osi_base.specs.declared.unit.DropCause.{DropCause}
use Rattle.osi_base.specs.declared.unit.Offered.{Offered}
use Rattle.osi_base.specs.declared.unit.Offered.TheVariants.{Taken as WasTaken, Dropped}
use Rattle.osi_base.specs.Link.{Link}
use Rattle.osi_base.specs.Calls.{Call, Tick}
use Rattle.osi_base.specs.Floated.{Floated, is_unit_of, is_young}
use Rattle.osi_base.specs.Gathering.{Gathers}
use Rattle.osi_base.proofs.Firsts.{first_at, none_there}
use Rattle.esis_tables.specs.Rows.{Rows}
use Rattle.clnp_system.specs.Node.{Frame, Node, Reaction}
use Rattle.clnp_system.specs.Tables.{Tables, rows_tables}
use Rattle.clnp_system.specs.Ticking.{NodeTicks}
use Rattle.clnp_system.proofs.Arriving.{stored_is}
use Rattle.law_clnp_step.specs.Handling.{Changes, Handles, IsReceived, Nobody, OffersFrame, OffersFrames, Somebody, TicksAll, is_system, notes_of}
use Rattle.law_clnp_step.specs.Network.{Network}
use Rattle.law_clnp_step.specs.Sound.{IsTimely}
use Rattle.law_clnp_step.specs.Step.{Arrives, Begins, IsDropped, IsNobodys, IsTaken, NetOffers, NetTicks, counted, is_source, strays_in}
use Rattle.law_clnp_step.proofs.Lists.{all_back, all_both, all_front, all_weaker}
use Rattle.clnp_net.specs.steps.Telling.{AreBehind, DropsUnit, HandsOut, IsSourceAt, Passes, Reacts, ReceivesAt, SendsAt, SendsFrom, Tells, TicksAt}
use Rattle.clnp_net.proofs.Places.{parts}

-- ---- what is told

-- nothing yet
pub tells_none : (waiting : List (Up (List ℕ))) (Told : List (Up (List ℕ)) → Type 0) → Told [] → Tells waiting waiting Told
tells_none waiting Told h = record { told = []; added = sym (append-nil waiting); are = h }

-- one part behind another
pub tells_on : (before mid after : List (Up (List ℕ))) (First Second Both : List (Up (List ℕ)) → Type 0) → Tells before mid First → Tells mid after Second
    → ((one two : List (Up (List ℕ))) → First one → Second two → Both (one ++ two)) → Tells before after Both
tells_on before mid after First Second Both h k f = record {
  told = h.told ++ k.told;
  added = k.added ∙ ap (λ (xs : List (Up (List ℕ))). xs ++ k.told) h.added ∙ append_assoc before h.told k.told;
  are = f h.told k.told h.are k.are;
}

pub tells_as : (before after : List (Up (List ℕ))) (First Second : List (Up (List ℕ)) → Type 0) → Tells before after First → ((told : List (Up (List ℕ))) → First told → Second told) → Tells before after Second
tells_as before after First Second h f = record { told = h.told; added = h.added; are = f h.told h.are }

-- ---- frames

module _ {C : Type 0} (link : C → Link Port) (steps : C → Call Port → C → Type 0) where
  pub offers_more : (old : C) (system : ℕ) (frames : List Frame) (mid : C) (told : List (Up (List ℕ))) (frame : Frame) (new : C) (more : List (Up (List ℕ)))
      → OffersFrames link steps old system frames mid told → OffersFrame link steps mid system frame new more → OffersFrames link steps old system (frames ++ frame ∷ []) new (told ++ more)
  offers_more old system [] mid told frame new more h k = (
    new,
    more,
    [],
    subst (λ (c : C). OffersFrame link steps c system frame new more) h.0 k,
    (refl, refl),
    ap (λ (xs : List (Up (List ℕ))). xs ++ more) h.1 ∙ sym (append-nil more),
  )
  offers_more old system (first ∷ frames) mid told frame new more h k = (
    h.0,
    h.1,
    h.2 ++ more,
    h.3,
    offers_more h.0 system frames mid h.2 frame new more h.4 k,
    ap (λ (xs : List (Up (List ℕ))). xs ++ more) h.5 ∙ append_assoc h.1 h.2 more,
  )

  -- ---- what came up

  module _ {N : Type 0} (tables : Tables N) (now : ℕ) where
    pub handles_more : (old : C) (nodes : List (Node N)) (ups : List (Up Port)) (mid : C) (between : List (Node N)) (told : List (Up (List ℕ))) (up : Up Port) (new : C) (after : List (Node N)) (more : List (Up (List ℕ)))
        → Handles link steps tables now old nodes ups mid between told → Handles link steps tables now mid between (up ∷ []) new after more
        → Handles link steps tables now old nodes (ups ++ up ∷ []) new after (told ++ more)
    handles_more old nodes [] mid between told up new after more h k =
        subst (Handles link steps tables now old nodes (up ∷ []) new after) (sym (ap (λ (xs : List (Up (List ℕ))). xs ++ more) h.2))
        (subst (λ (c : C). Handles link steps tables now c nodes (up ∷ []) new after more) h.0
        (subst (λ (ns : List (Node N)). Handles link steps tables now mid ns (up ∷ []) new after more) h.1 k))
    handles_more old nodes (Noted note ∷ ups) mid between told up new after more h k = (
      h.0 ++ more,
      handles_more old nodes ups mid between h.0 up new after more h.1 k,
      ap (λ (xs : List (Up (List ℕ))). xs ++ more) h.2,
    )
    handles_more old nodes (Came arrival ∷ ups) mid between told up new after more h k = (
      h.0,
      h.1,
      h.2,
      h.3,
      h.4 ++ more,
      h.5,
      h.6,
      handles_more h.1 h.2 ups mid between h.4 up new after more h.7 k,
      ap (λ (xs : List (Up (List ℕ))). xs ++ more) h.8 ∙ append_assoc h.0.ups (h.3 ++ h.4) more ∙ ap (λ (xs : List (Up (List ℕ))). h.0.ups ++ xs) (append_assoc h.3 h.4 more),
    )

    pub handles_one : (old : C) (nodes : List (Node N)) (arrival : Arrival Port) (reaction : Reaction) (changed : List (Node N)) (new : C) (told : List (Up (List ℕ)))
        → IsReceived tables now nodes arrival reaction changed → Reacts link steps old arrival.system reaction new told → Handles link steps tables now old nodes (Came arrival ∷ []) new changed told
    handles_one old nodes arrival reaction changed new told h k = (
      reaction,
      new,
      changed,
      k.here,
      [],
      h,
      k.offers,
      (refl, refl, refl),
      k.told_is ∙ ap (λ (xs : List (Up (List ℕ))). reaction.ups ++ xs) (sym (append-nil k.here)),
    )

    pub handles_note : (old : C) (nodes : List (Node N)) (note : Rattle.osi_base.specs.declared.note.Note.Note) → Handles link steps tables now old nodes (Noted note ∷ []) old nodes (Noted note ∷ [])
    handles_note old nodes note = ([], (refl, refl, refl), refl)

    -- ---- ticks

    pub ticks_more : (old : C) (nodes : List (Node N)) (mid : C) (done : List (Node N)) (told : List (Up (List ℕ))) (node : Node N) (reaction : Reaction) (ticked : Node N) (new : C) (more : List (Up (List ℕ)))
        → TicksAll link steps tables now old nodes mid done told → NodeTicks tables node now reaction ticked → Reacts link steps mid node.setup.system reaction new more
        → TicksAll link steps tables now old (nodes ++ node ∷ []) new (done ++ ticked ∷ []) (told ++ more)
    ticks_more old [] mid done told node reaction ticked new more h t k = (
      reaction,
      new,
      ticked,
      [],
      k.here,
      [],
      t,
      subst (λ (c : C). OffersFrames link steps c node.setup.system reaction.frames new k.here) h.0 k.offers,
      (refl, refl, refl),
      ap (λ (ns : List (Node N)). ns ++ ticked ∷ []) h.1,
      ap (λ (xs : List (Up (List ℕ))). xs ++ more) h.2 ∙ k.told_is ∙ ap (λ (xs : List (Up (List ℕ))). reaction.ups ++ xs) (sym (append-nil k.here)),
    )
    ticks_more old (first ∷ nodes) mid done told node reaction ticked new more h t k = (
      h.0,
      h.1,
      h.2,
      h.3 ++ ticked ∷ [],
      h.4,
      h.5 ++ more,
      h.6,
      h.7,
      ticks_more h.1 nodes mid h.3 h.5 node reaction ticked new more h.8 t k,
      ap (λ (ns : List (Node N)). ns ++ ticked ∷ []) h.9,
      ap (λ (xs : List (Up (List ℕ))). xs ++ more) h.10 ∙ append_assoc h.0.ups (h.4 ++ h.5) more ∙ ap (λ (xs : List (Up (List ℕ))). h.0.ups ++ xs) (append_assoc h.4 h.5 more),
    )

-- ---- one of the systems

pub change_is : {N : Type 0} (test : Node N → Bool) (nodes : List (Node N)) (place : ℕ) (node after : Node N) (changed : List (Node N)) → position test nodes ≡ Some place → slice_get nodes place ≡ Some node
    → changed ≡ slice_set nodes place after → Changes test nodes node after changed
change_is test nodes place node after changed found at becomes =
    let p = parts nodes place node at in
    let f = first_at test nodes place node found at in record {
      before = p.before;
      behind = p.rest;
      stands = p.whole;
      none_before = ap (list_any test) (sym p.front) ∙ f.before;
      passes = f.passes;
      becomes = becomes ∙ p.change after;
    }

pub received_at : (now place : ℕ) (nodes : List (Node Rows)) (arrival : Arrival Port) (reaction : Reaction) (changed : List (Node Rows)) → position (is_system arrival.system) nodes ≡ Some place
    → ReceivesAt now place nodes arrival reaction changed → IsReceived rows_tables now nodes arrival reaction changed
received_at now place nodes arrival reaction changed found r =
    Somebody r.node r.after (change_is (is_system arrival.system) nodes place r.node r.after changed found r.at r.becomes) r.receives

pub received_none : (now : ℕ) (nodes : List (Node Rows)) (arrival : Arrival Port) → position (is_system arrival.system) nodes ≡ None
    → IsReceived rows_tables now nodes arrival (record { ups = []; frames = [] }) nodes
received_none now nodes arrival none = Nobody (none_there (is_system arrival.system) nodes none) refl refl

-- a system that took a frame has the clock of the call
pub received_behind : (now place : ℕ) (nodes : List (Node Rows)) (arrival : Arrival Port) (reaction : Reaction) (changed : List (Node Rows)) → AreBehind now nodes → ReceivesAt now place nodes arrival reaction changed
    → AreBehind now changed
received_behind now place nodes arrival reaction changed behind r =
    let p = parts nodes place r.node r.at in
    let clock = (stored_is rows_tables r.node now arrival.unit reaction r.after r.receives).1.clock in
    let all : AreBehind now (p.before ++ r.node ∷ p.rest) = subst (AreBehind now) p.whole behind in
    subst (AreBehind now) (sym (r.becomes ∙ p.change r.after))
    (all_both (λ n. n.clock ≤ now) p.before (r.after ∷ p.rest) (all_front (λ n. n.clock ≤ now) p.before (r.node ∷ p.rest) all)
    (omega (arith, clock), (all_back (λ n. n.clock ≤ now) p.before (r.node ∷ p.rest) all).1))

pub source_at : (from : List ℕ) (place : ℕ) (nodes : List (Node Rows)) → position (is_source from) nodes ≡ Some place → IsSourceAt from place nodes
source_at from place nodes found = λ node at. (first_at (is_source from) nodes place node found at).passes

pub sent_at : (now : ℕ) (unit : CarriedUnit (List ℕ)) (wish : Wish) (place system : ℕ) (nodes : List (Node Rows)) (sent : Result (List Frame) DropCause) (changed : List (Node Rows))
    → position (is_source unit.from) nodes ≡ Some place → SendsAt now unit wish place system nodes sent changed → SendsFrom now unit wish nodes system sent changed
sent_at now unit wish place system nodes sent changed found s = record {
  node = s.node;
  after = s.after;
  change = change_is (is_source unit.from) nodes place s.node s.after changed found s.at s.becomes;
  sends = s.sends;
  system_is = s.system_is;
}

pub sent_none : (from : List ℕ) (nodes : List (Node Rows)) → position (is_source from) nodes ≡ None → list_any (is_source from) nodes ≡ false
sent_none from nodes none = none_there (is_source from) nodes none

-- ---- the systems tick one after another

pub record Ticking {C : Type 0} (link : C → Link Port) (steps : C → Call Port → C → Type 0) (now place : ℕ) (old : C) (nodes : List (Node Rows)) (before : List (Up (List ℕ))) (mid : C) (between : List (Node Rows))
    (so_far : List (Up (List ℕ))) : Type 0 where
  pub done : List (Node Rows)
  pub count : length done ≡ place
  pub are : between ≡ done ++ drop place nodes
  pub told : Tells before so_far (λ told. TicksAll link steps rows_tables now old (take place nodes) mid done told)
  pub behind : AreBehind now between

pub ticking_none : {C : Type 0} (link : C → Link Port) (steps : C → Call Port → C → Type 0) (now : ℕ) (old : C) (nodes : List (Node Rows)) (before : List (Up (List ℕ))) → AreBehind now nodes
    → Ticking link steps now 0 old nodes before old nodes before
ticking_none link steps now old nodes before behind = record {
  done = [];
  count = refl;
  are = refl;
  told = tells_none before (λ told. TicksAll link steps rows_tables now old [] old [] told) (refl, refl, refl);
  behind = behind;
}

get_behind : {A : Type 0} (xs ys : List A) (place : ℕ) (one : A) → length xs ≡ place → slice_get (xs ++ ys) place ≡ Some one → slice_get ys 0 ≡ Some one
get_behind [] ys place one e h = subst (λ (n : ℕ). slice_get ys n ≡ Some one) (sym e) h
get_behind (x ∷ xs) ys zero one e h = absurd (omega (arith, e))
get_behind (x ∷ xs) ys (suc place) one e h = get_behind xs ys place one (omega (arith, e)) h

first_of : {A : Type 0} (place : ℕ) (xs : List A) (one : A) → slice_get (drop place xs) 0 ≡ Some one → slice_get xs place ≡ Some one
first_of zero xs one h = h
first_of (suc place) [] one h = h
first_of (suc place) (x ∷ xs) one h = first_of place xs one h

set_behind : {A : Type 0} (xs : List A) (y : A) (ys : List A) (place : ℕ) (one : A) → length xs ≡ place → slice_set (xs ++ y ∷ ys) place one ≡ xs ++ one ∷ ys
set_behind [] y ys place one e = ap (λ (n : ℕ). slice_set (y ∷ ys) n one) (sym e)
set_behind (x ∷ xs) y ys zero one e = absurd (omega (arith, e))
set_behind {A} (x ∷ xs) y ys (suc place) one e = ap (λ (l : List A). x ∷ l) (set_behind xs y ys place one (omega (arith, e)))

pub ticking_next : {C : Type 0} (link : C → Link Port) (steps : C → Call Port → C → Type 0) (now place system : ℕ) (old : C) (nodes : List (Node Rows)) (before : List (Up (List ℕ))) (mid : C) (between : List (Node Rows))
    (so_far : List (Up (List ℕ))) (reaction : Reaction) (changed : List (Node Rows)) (new : C) (after : List (Up (List ℕ)))
    → Ticking link steps now place old nodes before mid between so_far → TicksAt now place system between reaction changed → AreBehind now changed
    → Tells so_far after (λ told. Reacts link steps mid system reaction new told) → Ticking link steps now (place + 1) old nodes before new changed after
ticking_next {C} link steps now place system old nodes before mid between so_far reaction changed new after h t behind r =
    let here : slice_get (drop place nodes) 0 ≡ Some t.node =
    get_behind h.done (drop place nodes) place t.node h.count (subst (λ (ns : List (Node Rows)). slice_get ns place ≡ Some t.node) h.are t.at) in
    let p = parts nodes place t.node (first_of place nodes t.node here) in
    let were : between ≡ h.done ++ t.node ∷ p.rest = h.are ∙ ap (λ (ns : List (Node Rows)). h.done ++ ns) p.here in
    let take_is : take (place + 1) nodes ≡ take place nodes ++ t.node ∷ [] = p.next ∙ ap (λ (ns : List (Node Rows)). ns ++ t.node ∷ []) (sym p.front) in record {
      done = h.done ++ t.after ∷ [];
      count = length-append h.done (t.after ∷ []) ∙ ap (λ (n : ℕ). n + 1) h.count;
      are = t.becomes ∙ ap (λ (ns : List (Node Rows)). slice_set ns place t.after) were ∙ set_behind h.done t.node p.rest place t.after h.count
          ∙ sym (append_assoc h.done (t.after ∷ []) p.rest) ∙ ap (λ (ns : List (Node Rows)). (h.done ++ t.after ∷ []) ++ ns) (sym p.back);
      told = tells_on before so_far after (λ told. TicksAll link steps rows_tables now old (take place nodes) mid h.done told) (λ told. Reacts link steps mid system reaction new told)
          (λ told. TicksAll link steps rows_tables now old (take (place + 1) nodes) new (h.done ++ t.after ∷ []) told) h.told r
          (λ one two a b. subst (λ (ns : List (Node Rows)). TicksAll link steps rows_tables now old ns new (h.done ++ t.after ∷ []) (one ++ two)) (sym take_is)
          (ticks_more link steps rows_tables now old (take place nodes) mid h.done one t.node reaction t.after new two a t.ticks
          (subst (λ (n : ℕ). Reacts link steps mid n reaction new two) t.system_is b)));
      behind = behind;
    }

take_whole : {A : Type 0} (xs : List A) → take (length xs) xs ≡ xs
take_whole [] = refl
take_whole {A} (x ∷ xs) = ap (λ (l : List A). x ∷ l) (take_whole xs)

drop_whole : {A : Type 0} (xs : List A) → drop (length xs) xs ≡ []
drop_whole [] = refl
drop_whole (x ∷ xs) = drop_whole xs

pub all_ticked : {C : Type 0} (link : C → Link Port) (steps : C → Call Port → C → Type 0) (now place : ℕ) (old : C) (nodes : List (Node Rows)) (before : List (Up (List ℕ))) (mid : C) (between : List (Node Rows)) (so_far : List (Up (List ℕ)))
    → place ≡ length nodes → Ticking link steps now place old nodes before mid between so_far → Tells before so_far (λ told. TicksAll link steps rows_tables now old nodes mid between told)
all_ticked {C} link steps now place old nodes before mid between so_far all h =
    let dones : between ≡ h.done = h.are ∙ ap (λ (n : ℕ). h.done ++ drop n nodes) all ∙ ap (λ (ns : List (Node Rows)). h.done ++ ns) (drop_whole nodes) ∙ append-nil h.done in
    tells_as before so_far (λ told. TicksAll link steps rows_tables now old (take place nodes) mid h.done told) (λ told. TicksAll link steps rows_tables now old nodes mid between told) h.told
    (λ told a. subst (λ (ns : List (Node Rows)). TicksAll link steps rows_tables now old nodes mid ns told) (sym dones)
    (subst (λ (ns : List (Node Rows)). TicksAll link steps rows_tables now old ns mid h.done told) (ap (λ (n : ℕ). take n nodes) all ∙ take_whole nodes) a))

pub ticking_within : {C : Type 0} (link : C → Link Port) (steps : C → Call Port → C → Type 0) (now place : ℕ) (old : C) (nodes : List (Node Rows)) (before : List (Up (List ℕ))) (mid : C) (between : List (Node Rows)) (so_far : List (Up (List ℕ)))
    → place < length nodes → Ticking link steps now place old nodes before mid between so_far → place < length between
ticking_within link steps now place old nodes before mid between so_far within h =
    let l : length between ≡ length h.done + length (drop place nodes) = ap length h.are ∙ length-append h.done (drop place nodes) in
    omega (arith, l, h.count, length-drop place nodes, within)

-- ---- what came up, one after another

pub record Handling {C : Type 0} (link : C → Link Port) (steps : C → Call Port → C → Type 0) (now : ℕ) (old : C) (nodes : List (Node Rows)) (ups : List (Up Port)) (before : List (Up (List ℕ)))
    (mid : C) (between : List (Node Rows)) (left : List (Up Port)) (so_far : List (Up (List ℕ))) : Type 0 where
  pub done : List (Up Port)
  pub whole : ups ≡ done ++ left
  pub told : Tells before so_far (λ told. Handles link steps rows_tables now old nodes done mid between told)
  pub behind : AreBehind now between

pub handling_none : {C : Type 0} (link : C → Link Port) (steps : C → Call Port → C → Type 0) (now : ℕ) (old : C) (nodes : List (Node Rows)) (ups : List (Up Port)) (before : List (Up (List ℕ))) → AreBehind now nodes
    → Handling link steps now old nodes ups before old nodes ups before
handling_none link steps now old nodes ups before behind = record {
  done = [];
  whole = refl;
  told = tells_none before (λ told. Handles link steps rows_tables now old nodes [] old nodes told) (refl, refl, refl);
  behind = behind;
}

pub handling_next : {C : Type 0} (link : C → Link Port) (steps : C → Call Port → C → Type 0) (now : ℕ) (old : C) (nodes : List (Node Rows)) (ups : List (Up Port)) (before : List (Up (List ℕ)))
    (mid : C) (between : List (Node Rows)) (all left : List (Up Port)) (so_far : List (Up (List ℕ))) (up : Up Port) (new : C) (changed : List (Node Rows)) (after : List (Up (List ℕ)))
    → Handling link steps now old nodes ups before mid between all so_far → all ≡ up ∷ left
    → Tells so_far after (λ told. Handles link steps rows_tables now mid between (up ∷ []) new changed told) → AreBehind now changed
    → Handling link steps now old nodes ups before new changed left after
handling_next link steps now old nodes ups before mid between all left so_far up new changed after h is t behind = record {
  done = h.done ++ up ∷ [];
  whole = h.whole ∙ ap (λ (xs : List (Up Port)). h.done ++ xs) is ∙ sym (append_assoc h.done (up ∷ []) left);
  told = tells_on before so_far after (λ told. Handles link steps rows_tables now old nodes h.done mid between told) (λ told. Handles link steps rows_tables now mid between (up ∷ []) new changed told)
      (λ told. Handles link steps rows_tables now old nodes (h.done ++ up ∷ []) new changed told) h.told t
      (λ one two a b. handles_more link steps rows_tables now old nodes h.done mid between one up new changed two a b);
  behind = behind;
}

pub all_handled : {C : Type 0} (link : C → Link Port) (steps : C → Call Port → C → Type 0) (now : ℕ) (old : C) (nodes : List (Node Rows)) (ups : List (Up Port)) (before : List (Up (List ℕ)))
    (mid : C) (between : List (Node Rows)) (left : List (Up Port)) (so_far : List (Up (List ℕ))) → Handling link steps now old nodes ups before mid between left so_far → left ≡ []
    → Tells before so_far (λ told. Handles link steps rows_tables now old nodes ups mid between told)
all_handled link steps now old nodes ups before mid between left so_far h none =
    let dones : ups ≡ h.done = h.whole ∙ ap (λ (xs : List (Up Port)). h.done ++ xs) none ∙ append-nil h.done in
    tells_as before so_far (λ told. Handles link steps rows_tables now old nodes h.done mid between told) (λ told. Handles link steps rows_tables now old nodes ups mid between told) h.told
    (λ told a. subst (λ (us : List (Up Port)). Handles link steps rows_tables now old nodes us mid between told) (sym dones) a)

-- what a system tells stands before what is told of its frames
pub reacts_of : {C : Type 0} (link : C → Link Port) (steps : C → Call Port → C → Type 0) (old : C) (system : ℕ) (reaction : Reaction) (new : C) (before mid after : List (Up (List ℕ))) → mid ≡ before ++ reaction.ups
    → Tells mid after (λ told. OffersFrames link steps old system reaction.frames new told) → Tells before after (λ told. Reacts link steps old system reaction new told)
reacts_of link steps old system reaction new before mid after is t = record {
  told = reaction.ups ++ t.told;
  added = t.added ∙ ap (λ (xs : List (Up (List ℕ))). xs ++ t.told) is ∙ append_assoc before reaction.ups t.told;
  are = record { here = t.told; offers = t.are; told_is = refl };
}

pub met : {C : Type 0} (link : C → Link Port) (steps : C → Call Port → C → Type 0) (now : ℕ) (old : C) (nodes : List (Node Rows)) (arrival : Arrival Port) (reaction : Reaction) (changed : List (Node Rows)) (new : C)
    (before after : List (Up (List ℕ))) → IsReceived rows_tables now nodes arrival reaction changed → Tells before after (λ told. Reacts link steps old arrival.system reaction new told)
    → Tells before after (λ told. Handles link steps rows_tables now old nodes (Came arrival ∷ []) new changed told)
met link steps now old nodes arrival reaction changed new before after r t =
    tells_as before after (λ told. Reacts link steps old arrival.system reaction new told) (λ told. Handles link steps rows_tables now old nodes (Came arrival ∷ []) new changed told) t
    (λ told k. handles_one link steps rows_tables now old nodes arrival reaction changed new told r k)

-- ---- small facts of the code

abbrev pub nothing : Reaction
nothing = record { ups = []; frames = [] }

pub nothing_is : (ups : List (Up (List ℕ))) (frames : List Frame) → ups ≡ [] → frames ≡ [] → nothing ≡ record { ups = ups; frames = frames }
nothing_is ups frames none no_frames = λ i. record { ups = sym none i; frames = sym no_frames i }

pub end_of : (from : List ℕ) (node : Node Rows) → is_source from node ≡ true → node.setup.end ≡ true
end_of from node h = first node.setup.end _ h
  where
    first : (a b : Bool) → (a && b) ≡ true → a ≡ true
    first true b h = refl
    first false b h = absurd cc

pub own_of : (from : List ℕ) (node : Node Rows) → is_source from node ≡ true → Rattle.nsap.specs.Address.is_same_system from node.setup.title ≡ true
own_of from node h = last node.setup.end _ h
  where
    last : (a b : Bool) → (a && b) ≡ true → b ≡ true
    last true b h = h
    last false b h = absurd cc

pub got_at : {A : Type 0} (items now : List A) (place : ℕ) (one : A) → items ≡ now → place < length now → one ≡ slice_index_or items place one → slice_get now place ≡ Some one
got_at items now place one same within is =
    slice_get-get_or now place one within ∙ ap (λ (xs : List _). Some (slice_index_or xs place one)) (sym same) ∙ ap Some (sym is)

pub within_at : {A : Type 0} (test : A → Bool) (xs : List A) (place : ℕ) → position test xs ≡ Some place → place < length xs
within_at test [] place h = absurd (none_found place h)
  where
    none_found : (place : ℕ) → position test [] ≡ Some place → ⊥
    none_found place h = cc
within_at test (x ∷ xs) place h = (position-Some test (x ∷ xs) place x h).0

-- ---- strays

pub strays_on : (entries : List (ℕ × CarriedUnit (List ℕ))) (xs ys : List (Up (List ℕ))) → strays_in entries (xs ++ ys) ≡ strays_in entries xs + strays_in entries ys
strays_on entries [] ys = omega arith
strays_on entries (Noted note ∷ xs) ys = strays_on entries xs ys
strays_on entries (Came arrival ∷ xs) ys = by_test (list_any (is_unit_of (pointwise nat_eq) arrival.unit) entries) (strays_on entries xs ys)
  where
    by_test : (b : Bool) → strays_in entries (xs ++ ys) ≡ strays_in entries xs + strays_in entries ys
        → cond b (strays_in entries (xs ++ ys)) (strays_in entries (xs ++ ys) + 1) ≡ cond b (strays_in entries xs) (strays_in entries xs + 1) + strays_in entries ys
    by_test true e = e
    by_test false e = omega (arith, e)

pub drop_front : {A : Type 0} (xs ys : List A) → drop (length xs) (xs ++ ys) ≡ ys
drop_front [] ys = refl
drop_front (x ∷ xs) ys = drop_front xs ys

-- ---- whole calls

pub not_full : (limit n : ℕ) (full : Bool) → full ≡ false → (IsTrue full ↔ (limit ≤ n)) → n < limit
not_full limit n full h k = grind (arith, nat_tests)

pub past_all : (entries : List (ℕ × CarriedUnit (List ℕ))) (clock now : ℕ) → now ≡ clock → AllByRecursion (λ entry. entry.0 ≤ clock) entries → All (λ (entry : ℕ × CarriedUnit (List ℕ)). entry.0 ≤ now) entries
past_all entries clock now same h =
    All-from_recursion (λ (entry : ℕ × CarriedUnit (List ℕ)). entry.0 ≤ now) entries (subst (λ (n : ℕ). AllByRecursion (λ (entry : ℕ × CarriedUnit (List ℕ)). entry.0 ≤ n) entries) (sym same) h)

pub behind_all : (nodes : List (Node Rows)) (clock now : ℕ) → clock ≤ now → AllByRecursion (IsTimely clock) nodes → AreBehind now nodes
behind_all nodes clock now same h = all_weaker (IsTimely clock) (λ node. node.clock ≤ now) nodes (λ node t. let c = t.clock_is in omega (arith, c, same)) h

abbrev pub network_of : {C : Type 0} → C → List (Node Rows) → Floated (List ℕ) → List (Up (List ℕ)) → ℕ → ℕ → Network C Rows
network_of below nodes floating waiting strays life = record { link = below; nodes = nodes; floating = floating; waiting = waiting; strays = strays; life = life }

module _ {C : Type 0} (link : C → Link Port) (steps : C → Call Port → C → Type 0) where
  pub offer_taken : (old : Network C Rows) (unit : CarriedUnit (List ℕ)) (wish : Wish) (now : ℕ) (below : C) (nodes : List (Node Rows)) (floating : Floated (List ℕ)) (waiting : List (Up (List ℕ)))
      → length old.floating.entries < old.floating.limit → now ≡ (link old.link).clock → HandsOut link steps now unit wish old.link old.nodes old.waiting WasTaken below nodes waiting
      → floating.limit ≡ old.floating.limit → floating.entries ≡ old.floating.entries ++ (now, unit) ∷ []
      → NetOffers link steps rows_tables old unit wish WasTaken (record { link = below; nodes = nodes; floating = floating; waiting = waiting; strays = old.strays; life = old.life })
  offer_taken old unit wish now below nodes floating waiting room at h limit entries =
      let s : SendsFrom (link old.link).clock unit wish old.nodes h.are.system (Ok h.are.frames) nodes = subst (λ (n : ℕ). SendsFrom n unit wish old.nodes h.are.system (Ok h.are.frames) nodes) at h.are.sends in
      IsTaken s.node s.after nodes h.are.frames below h.told room s.change s.sends
      (subst (λ (n : ℕ). OffersFrames link steps old.link n h.are.frames below h.told) s.system_is h.are.offers) refl
      (λ i. record {
        link = below;
        nodes = nodes;
        floating = record { limit = limit i; entries = (entries ∙ ap (λ (n : ℕ). old.floating.entries ++ (n, unit) ∷ []) at) i };
        waiting = h.added i;
        strays = old.strays;
        life = old.life;
      })

  pub offer_dropped : (old : Network C Rows) (unit : CarriedUnit (List ℕ)) (wish : Wish) (now : ℕ) (cause : DropCause) (below : C) (nodes : List (Node Rows)) (waiting : List (Up (List ℕ)))
      → length old.floating.entries < old.floating.limit → now ≡ (link old.link).clock → HandsOut link steps now unit wish old.link old.nodes old.waiting (Dropped cause) below nodes waiting
      → NetOffers link steps rows_tables old unit wish (Dropped cause) (record { link = below; nodes = nodes; floating = old.floating; waiting = waiting; strays = old.strays; life = old.life })
  offer_dropped old unit wish now cause below nodes waiting room at h = by_drop h.0
    where
      same : (changed : List (Node Rows)) → nodes ≡ changed → network_of below nodes old.floating waiting old.strays old.life ≡ record old { nodes = changed }
      same changed e = λ i. record { link = h.1 i; nodes = e i; floating = old.floating; waiting = h.2 i; strays = old.strays; life = old.life }

      by_drop : DropsUnit now unit wish old.nodes cause nodes
          → NetOffers link steps rows_tables old unit wish (Dropped cause) (record { link = below; nodes = nodes; floating = old.floating; waiting = waiting; strays = old.strays; life = old.life })
      by_drop (inl none) = IsNobodys room none.0 (ap Dropped none.1) (same old.nodes none.2)
      by_drop (inr sends) =
          let s : SendsFrom (link old.link).clock unit wish old.nodes sends.0 (Err cause) nodes = subst (λ (n : ℕ). SendsFrom n unit wish old.nodes sends.0 (Err cause) nodes) at sends.1 in
          IsDropped s.node s.after nodes cause room s.change s.sends refl (same nodes refl)

  pub arrived : (old : Network C Rows) (call : Call Port) (now strays : ℕ) (called : C) (ups : List (Up Port)) (risen below : C) (nodes : List (Node Rows)) (waiting : List (Up (List ℕ))) (from : ℕ)
      → now ≡ (link old.link).clock → from ≡ length old.waiting → steps old.link call called → Gathers link steps called ups risen
      → Tells old.waiting waiting (λ told. Handles link steps rows_tables now risen old.nodes ups below nodes told)
      → strays ≡ counted (link below).honest old.strays (strays_in old.floating.entries (drop from waiting))
      → Arrives link steps rows_tables old call (record { link = below; nodes = nodes; floating = old.floating; waiting = waiting; strays = strays; life = old.life })
  arrived old call now strays called ups risen below nodes waiting from at place calls gathers h counts =
      let told_is : drop from waiting ≡ h.told = ap (λ (n : ℕ). drop n waiting) place ∙ ap (drop (length old.waiting)) h.added ∙ drop_front old.waiting h.told in
      let strays_are : strays ≡ counted (link below).honest old.strays (strays_in old.floating.entries h.told) = counts ∙ ap (λ (us : List (Up (List ℕ))). counted (link below).honest old.strays (strays_in old.floating.entries us)) told_is in record {
        called = called;
        ups = ups;
        risen = risen;
        below = below;
        nodes = nodes;
        told = h.told;
        calls = calls;
        gathers = gathers;
        handles = subst (λ (n : ℕ). Handles link steps rows_tables n risen old.nodes ups below nodes h.told) at h.are;
        becomes = λ i. record { link = below; nodes = nodes; floating = old.floating; waiting = h.added i; strays = strays_are i; life = old.life };
      }

  pub ticked_whole : (old : Network C Rows) (now : ℕ) (ticked risen below : C) (nodes : List (Node Rows)) (floating : Floated (List ℕ)) (passed waiting : List (Up (List ℕ)))
      → now ≡ (link old.link).clock + 1 → steps old.link Tick ticked → Passes link steps ticked old.waiting risen passed
      → Tells passed waiting (λ told. TicksAll link steps rows_tables now risen old.nodes below nodes told)
      → floating.limit ≡ old.floating.limit → floating.entries ≡ filter (is_young now old.life) old.floating.entries
      → NetTicks link steps rows_tables old (record { link = below; nodes = nodes; floating = floating; waiting = waiting; strays = old.strays; life = old.life })
  ticked_whole old now ticked risen below nodes floating passed waiting at ticks p h limit entries = record {
    ticked = ticked;
    ups = p.ups;
    risen = risen;
    below = below;
    nodes = nodes;
    told = h.told;
    ticks = ticks;
    gathers = p.gathers;
    all = subst (λ (n : ℕ). TicksAll link steps rows_tables n risen old.nodes below nodes h.told) at h.are;
    becomes = λ i. record {
      link = below;
      nodes = nodes;
      floating = record { limit = limit i; entries = (entries ∙ ap (λ (n : ℕ). filter (is_young n old.life) old.floating.entries) at) i };
      waiting = (h.added ∙ ap (λ (us : List (Up (List ℕ))). us ++ h.told) p.added ∙ append_assoc old.waiting (notes_of p.ups) h.told) i;
      strays = old.strays;
      life = old.life;
    };
  }

  pub begun : (first : C) (given : List (Node Rows)) (life : ℕ) (below : C) (nodes : List (Node Rows)) (floating : Floated (List ℕ)) (waiting : List (Up (List ℕ)))
      → Tells [] waiting (λ told. TicksAll link steps rows_tables 0 first given below nodes told) → floating.limit ≡ 40000 → floating.entries ≡ []
      → Begins link steps rows_tables first given life (record { link = below; nodes = nodes; floating = floating; waiting = waiting; strays = 0; life = life })
  begun first given life below nodes floating waiting h limit entries = record {
    below = below;
    after = nodes;
    told = h.told;
    all = h.are;
    becomes = λ i. record { link = below; nodes = nodes; floating = record { limit = limit i; entries = entries i }; waiting = h.added i; strays = 0; life = life };
  }

pub handed : {C : Type 0} (link : C → Link Port) (steps : C → Call Port → C → Type 0) (now : ℕ) (unit : CarriedUnit (List ℕ)) (wish : Wish) (old : C) (nodes : List (Node Rows)) (before : List (Up (List ℕ)))
    (answer is : Offered) (new : C) (changed : List (Node Rows)) (after : List (Up (List ℕ))) → answer ≡ is → HandsOut link steps now unit wish old nodes before answer new changed after
    → HandsOut link steps now unit wish old nodes before is new changed after
handed link steps now unit wish old nodes before answer is new changed after same h = subst (λ (a : Offered). HandsOut link steps now unit wish old nodes before a new changed after) same h

-- the strays among what stands from a place on, up to another
pub record Counting (strays from place count : ℕ) (entries : List (ℕ × CarriedUnit (List ℕ))) (ups : List (Up (List ℕ))) : Type 0 where
  pub more : ℕ
  pub are : strays_in entries (take from ups) + more ≡ strays_in entries (take place ups)
  pub count_is : count ≡ min (strays + more) 4294967295

pub counting_none : (strays from : ℕ) (entries : List (ℕ × CarriedUnit (List ℕ))) (ups : List (Up (List ℕ))) → strays ≤ 4294967295 → Counting strays from from strays entries ups
counting_none strays from entries ups fits = record { more = 0; are = omega arith; count_is = grind (arith, fits) }

pub counting_next : (strays from place count one all : ℕ) (entries : List (ℕ × CarriedUnit (List ℕ))) (ups : List (Up (List ℕ))) → place < length ups → Counting strays from place count entries ups
    → ((up : Up (List ℕ)) → slice_get ups place ≡ Some up → one ≡ strays_in entries (up ∷ [])) → all ≡ min (count + one) 4294967295 → Counting strays from (place + 1) all entries ups
counting_next strays from place count one all entries ups within h is sum =
    let up = got ups place within in
    let p = parts ups place up.0 up.1 in
    let e : strays_in entries (take (place + 1) ups) ≡ strays_in entries (take place ups) + one =
    ap (strays_in entries) (p.next ∙ ap (λ (us : List (Up (List ℕ))). us ++ up.0 ∷ []) (sym p.front)) ∙ strays_on entries (take place ups) (up.0 ∷ [])
    ∙ ap (λ (n : ℕ). strays_in entries (take place ups) + n) (sym (is up.0 up.1)) in
    record {
      more = h.more + one;
      are = omega (arith, h.are, e);
      count_is = total h.count_is sum;
    }
  where
    got : (xs : List (Up (List ℕ))) (at : ℕ) → at < length xs → (x : Up (List ℕ)) × (slice_get xs at ≡ Some x)
    got [] at h = absurd (omega (arith, h))
    got (x ∷ xs) zero h = (x, refl)
    got (x ∷ xs) (suc at) h = got xs at (omega (arith, h))

    total : count ≡ min (strays + h.more) 4294967295 → all ≡ min (count + one) 4294967295 → all ≡ min (strays + (h.more + one)) 4294967295
    total a b = grind (arith, a, b)

take_past : {A : Type 0} (n : ℕ) (xs : List A) → length xs ≤ n → take n xs ≡ xs
take_past zero [] h = refl
take_past (suc n) [] h = refl
take_past zero (x ∷ xs) h = absurd (omega (arith, h))
take_past {A} (suc n) (x ∷ xs) h = ap (λ (l : List A). x ∷ l) (take_past n xs (omega (arith, h)))

pub counted_whole : (strays from place count : ℕ) (honest : Bool) (entries : List (ℕ × CarriedUnit (List ℕ))) (ups : List (Up (List ℕ))) → honest ≡ false → length ups ≤ place → Counting strays from place count entries ups
    → count ≡ counted honest strays (strays_in entries (drop from ups))
counted_whole strays from place count honest entries ups not_honest past h =
    let all : strays_in entries ups ≡ strays_in entries (take from ups) + strays_in entries (drop from ups) =
    ap (strays_in entries) (sym (take_drop from ups)) ∙ strays_on entries (take from ups) (drop from ups) in
    let whole : strays_in entries (take place ups) ≡ strays_in entries ups = ap (strays_in entries) (take_past place ups past) in
    let more : h.more ≡ strays_in entries (drop from ups) = omega (arith, h.are, all, whole) in
    h.count_is ∙ ap (λ (n : ℕ). min (strays + n) 4294967295) more ∙ sym (ap (λ (b : Bool). counted b strays (strays_in entries (drop from ups))) not_honest)
  where
    take_drop : {A : Type 0} (n : ℕ) (xs : List A) → take n xs ++ drop n xs ≡ xs
    take_drop zero xs = refl
    take_drop (suc n) [] = refl
    take_drop {A} (suc n) (x ∷ xs) = ap (λ (l : List A). x ∷ l) (take_drop n xs)

pub begun_all : {C : Type 0} (link : C → Link Port) (steps : C → Call Port → C → Type 0) (first : C) (systems given : List (Node Rows)) (below : C) (nodes : List (Node Rows)) (before waiting : List (Up (List ℕ)))
    → systems ≡ given → before ≡ [] → Tells before waiting (λ told. TicksAll link steps rows_tables 0 first systems below nodes told) → Tells [] waiting (λ told. TicksAll link steps rows_tables 0 first given below nodes told)
begun_all link steps first systems given below nodes before waiting same none h = record {
  told = h.told;
  added = h.added ∙ ap (λ (us : List (Up (List ℕ))). us ++ h.told) none;
  are = subst (λ (ns : List (Node Rows)). TicksAll link steps rows_tables 0 first ns below nodes h.told) same h.are;
}
