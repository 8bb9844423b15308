-- What comes up from the LANs is handled, and all systems tick: each frame of a system is offered, and what is told of it taken up.
use Rattle.std.proofs.Common.{◌≡◌, ◌⊎◌, ℕ, Bool, false, List, [], ◌∷◌, ◌++◌, refl, subst, inl, inr}
use Rattle.std.specs.List.{AllByRecursion, list_any}
use Rattle.nsap.specs.declared.port.Port.{Port}
use Rattle.osi_base.specs.declared.unit.Arrival.{Arrival}
use Rattle.osi_base.specs.declared.unit.Offered.{Offered as OfferAnswer}
use Rattle.osi_base.specs.declared.unit.Offered.TheVariants.{Taken as WasTaken, Dropped}
use Rattle.osi_base.specs.declared.unit.Unit.{Unit as CarriedUnit}
use Rattle.osi_base.specs.declared.unit.Up.{Up}
use Rattle.osi_base.specs.declared.unit.Up.TheVariants.{Unit as Came, Note as Noted}
use Rattle.lan_step.specs.Bag.{Bag, BagStep, link_of}
use Rattle.esis_tables.specs.Rows.{Rows}
use Rattle.clnp_system.specs.Node.{Node, Reaction}
use Rattle.clnp_system.specs.Tables.{rows_tables}
use Rattle.law_clnp_step.specs.Handling.{Changes, Handles, IsReceived, Nobody, OffersFrames, Somebody, TicksAll, drop_note, is_system, notes_of, plain_wish}
use Rattle.law_clnp_net.specs.Serving.{ComesInOctets, WaitsInOctets}
use Rattle.law_clnp_net.specs.Standing.{FitsBag, FitsNode, FitsUp, IsFrame, is_nsap}
use Rattle.law_clnp_net.proofs.answered.Carrying.{gathered, offers_one}
use Rattle.law_clnp_step.proofs.Lists.{all_back, all_both, all_front}
use Rattle.law_clnp_net.proofs.answered.Reacting.{received}
use Rattle.law_clnp_net.proofs.answered.Storing.{FirstOf, first_of}
use Rattle.law_clnp_net.proofs.answered.Ticking.{ticked}

-- ---- notes are no units

pub notes_fit : (ups : List (Up Port)) → WaitsInOctets (notes_of ups)
notes_fit [] = tt
notes_fit (Noted note ∷ ups) = (tt, notes_fit ups)
notes_fit (Came arrival ∷ ups) = notes_fit ups

drop_fits : (system : ℕ) (answer : OfferAnswer) → WaitsInOctets (drop_note system answer)
drop_fits system WasTaken = tt
drop_fits system (Dropped cause) = (tt, tt)

pub waits_both : (ups others : List (Up (List ℕ))) → WaitsInOctets ups → WaitsInOctets others → WaitsInOctets (ups ++ others)
waits_both ups others h k = all_both (ComesInOctets is_nsap) ups others h k

-- ---- frames

pub record Offered (old : Bag) (system : ℕ) (frames : List (CarriedUnit Port)) : Type 0 where
  pub new : Bag
  pub told : List (Up (List ℕ))
  pub offers : OffersFrames link_of BagStep old system frames new told
  pub fits : FitsBag new
  pub told_fit : WaitsInOctets told

pub offered_all : (old : Bag) (system : ℕ) (frames : List (CarriedUnit Port)) → FitsBag old → AllByRecursion IsFrame frames → Offered old system frames
offered_all old system [] h are = record { new = old; told = []; offers = (refl, refl); fits = h; told_fit = tt }
offered_all old system (frame ∷ frames) h are =
    let one = offers_one old frame plain_wish h are.0 in
    let ups = gathered one.new one.fits in
    let here : List (Up (List ℕ)) = notes_of ups.ups ++ drop_note system one.answer in
    let rest = offered_all ups.new system frames ups.fits are.1 in
    record {
      new = rest.new;
      told = here ++ rest.told;
      offers = (
        ups.new,
        here,
        rest.told,
        record { answer = one.answer; offered = one.new; notes = ups.ups; offers = one.offers; gathers = ups.gathers; told_is = refl },
        rest.offers,
        refl,
      );
      fits = rest.fits;
      told_fit = waits_both here rest.told (waits_both (notes_of ups.ups) (drop_note system one.answer) (notes_fit ups.ups) (drop_fits system one.answer)) rest.told_fit;
    }

-- ---- the first node that passes a test

pub changed : (test : Node Rows → Bool) (nodes : List (Node Rows)) (f : FirstOf test nodes) (after : Node Rows) → Changes test nodes f.one after (f.before ++ after ∷ f.rest)
changed test nodes f after = record { before = f.before; behind = f.rest; stands = f.stands; none_before = f.none_before; passes = f.passes; becomes = refl }

pub first_fits : (test : Node Rows → Bool) (nodes : List (Node Rows)) (f : FirstOf test nodes) → AllByRecursion FitsNode nodes → FitsNode f.one
first_fits test nodes f all = (all_back FitsNode f.before (f.one ∷ f.rest) (subst (AllByRecursion FitsNode) f.stands all)).0

pub changed_fit : (test : Node Rows → Bool) (nodes : List (Node Rows)) (f : FirstOf test nodes) (after : Node Rows) → AllByRecursion FitsNode nodes → FitsNode after
    → AllByRecursion FitsNode (f.before ++ after ∷ f.rest)
changed_fit test nodes f after all h =
    let parts : AllByRecursion FitsNode (f.before ++ f.one ∷ f.rest) = subst (AllByRecursion FitsNode) f.stands all in
    all_both FitsNode f.before (after ∷ f.rest) (all_front FitsNode f.before (f.one ∷ f.rest) parts) (h, (all_back FitsNode f.before (f.one ∷ f.rest) parts).1)

-- ---- an arrival

record Arrived (now : ℕ) (nodes : List (Node Rows)) (arrival : Arrival Port) : Type 0 where
  reaction : Reaction
  after : List (Node Rows)
  is : IsReceived rows_tables now nodes arrival reaction after
  fit : AllByRecursion FitsNode after
  frames : AllByRecursion IsFrame reaction.frames
  ups_fit : WaitsInOctets reaction.ups

arrived : (now : ℕ) (nodes : List (Node Rows)) (arrival : Arrival Port) → AllByRecursion FitsNode nodes → IsFrame arrival.unit → Arrived now nodes arrival
arrived now nodes arrival all in_octets = by (first_of (is_system arrival.system) nodes)
  where
    by : (list_any (is_system arrival.system) nodes ≡ false) ⊎ FirstOf (is_system arrival.system) nodes → Arrived now nodes arrival
    by (inl none) = record { reaction = record { ups = []; frames = [] }; after = nodes; is = Nobody none refl refl; fit = all; frames = tt; ups_fit = tt }
    by (inr f) =
        let r = received f.one (first_fits (is_system arrival.system) nodes f all) now arrival.unit in_octets in
        record {
          reaction = r.reaction;
          after = f.before ++ r.new ∷ f.rest;
          is = Somebody f.one r.new (changed (is_system arrival.system) nodes f r.new) r.gives;
          fit = changed_fit (is_system arrival.system) nodes f r.new all r.stands;
          frames = r.fit;
          ups_fit = r.ups_fit;
        }

-- ---- all that came up

pub record Handled (old : Bag) (now : ℕ) (nodes : List (Node Rows)) (ups : List (Up Port)) : Type 0 where
  pub new : Bag
  pub after : List (Node Rows)
  pub told : List (Up (List ℕ))
  pub handles : Handles link_of BagStep rows_tables now old nodes ups new after told
  pub fits : FitsBag new
  pub fit : AllByRecursion FitsNode after
  pub told_fit : WaitsInOctets told

pub handled : (ups : List (Up Port)) (old : Bag) (now : ℕ) (nodes : List (Node Rows)) → FitsBag old → AllByRecursion FitsNode nodes → AllByRecursion FitsUp ups → Handled old now nodes ups
handled [] old now nodes h all are = record { new = old; after = nodes; told = []; handles = (refl, refl, refl); fits = h; fit = all; told_fit = tt }
handled (Noted note ∷ ups) old now nodes h all are =
    let rest = handled ups old now nodes h all are.1 in
    record { new = rest.new; after = rest.after; told = Noted note ∷ rest.told; handles = (rest.told, rest.handles, refl); fits = rest.fits; fit = rest.fit; told_fit = (tt, rest.told_fit) }
handled (Came arrival ∷ ups) old now nodes h all are =
    let a = arrived now nodes arrival all are.0 in
    let out = offered_all old arrival.system a.reaction.frames h a.frames in
    let rest = handled ups out.new now a.after out.fits a.fit are.1 in
    record {
      new = rest.new;
      after = rest.after;
      told = a.reaction.ups ++ (out.told ++ rest.told);
      handles = (a.reaction, out.new, a.after, out.told, rest.told, a.is, out.offers, rest.handles, refl);
      fits = rest.fits;
      fit = rest.fit;
      told_fit = waits_both a.reaction.ups (out.told ++ rest.told) a.ups_fit (waits_both out.told rest.told out.told_fit rest.told_fit);
    }

-- ---- a tick of each system

pub record TickedAll (old : Bag) (now : ℕ) (nodes : List (Node Rows)) : Type 0 where
  pub new : Bag
  pub after : List (Node Rows)
  pub told : List (Up (List ℕ))
  pub ticks : TicksAll link_of BagStep rows_tables now old nodes new after told
  pub fits : FitsBag new
  pub fit : AllByRecursion FitsNode after
  pub told_fit : WaitsInOctets told

pub ticked_all : (nodes : List (Node Rows)) (old : Bag) (now : ℕ) → FitsBag old → AllByRecursion FitsNode nodes → TickedAll old now nodes
ticked_all [] old now h all = record { new = old; after = []; told = []; ticks = (refl, refl, refl); fits = h; fit = tt; told_fit = tt }
ticked_all (node ∷ nodes) old now h all =
    let t = ticked node now all.0 in
    let out = offered_all old node.setup.system t.reaction.frames h t.fit in
    let rest = ticked_all nodes out.new now out.fits all.1 in
    record {
      new = rest.new;
      after = t.new ∷ rest.after;
      told = t.reaction.ups ++ (out.told ++ rest.told);
      ticks = (t.reaction, out.new, t.new, rest.after, out.told, rest.told, t.ticks, out.offers, rest.ticks, refl, refl);
      fits = rest.fits;
      fit = (t.stands, rest.fit);
      told_fit = waits_both t.reaction.ups (out.told ++ rest.told) t.ups_fit (waits_both out.told rest.told out.told_fit rest.told_fit);
    }
