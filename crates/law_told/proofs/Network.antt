-- The network over the LANs tells notes of declared systems alone: what waits below is told, each system tells of itself, and a frame whose sending is told
-- is one of those that the LANs keep at the end of the call, which are in octets.
use Rattle.std.proofs.Common.{◌≡◌, ◌<◌, ◌∙◌, ◌^◌, ℕ, ◌+◌, Bool, true, false, List, [], ◌∷◌, ◌++◌, length, Option, Some, None, Result, Ok, Err, refl, sym, ap, subst, arith}
use Rattle.std.specs.Prelude.{IsTrue}
use Rattle.std.specs.List.{AllByRecursion}
use Rattle.nsap.specs.declared.port.Port.{Port}
use Rattle.osi_base.specs.declared.unit.Arrival.{Arrival}
use Rattle.osi_base.specs.declared.unit.DropCause.{DropCause}
use Rattle.osi_base.specs.declared.unit.Offered.{Offered}
use Rattle.osi_base.specs.declared.unit.Offered.TheVariants.{Taken as WasTaken, Dropped}
use Rattle.osi_base.specs.declared.unit.Picked.{Picked}
use Rattle.osi_base.specs.declared.unit.Picked.TheVariants.{Taken as WasPicked}
use Rattle.osi_base.specs.declared.unit.Unit.{Unit as CarriedUnit}
use Rattle.osi_base.specs.declared.unit.Up.{Up}
use Rattle.osi_base.specs.declared.unit.Up.TheVariants.{Unit as Came, Note as Noted}
use Rattle.osi_base.specs.declared.unit.Wish.{Wish}
use Rattle.osi_base.specs.Calls.{Call, Choose, Inject, NextUp, Offer, Tick, after_first}
use Rattle.lan_step.specs.Bag.{Bag, BagStep, after_offer, link_of, picked_in}
use Rattle.lan_step.specs.Frames.{is_taken as is_answer_taken}
use Rattle.law_carrier_answers.specs.Answers.{CanBeAsked, asked_of}
use Rattle.esis_tables.specs.Rows.{Rows}
use Rattle.clnp_system.specs.Node.{Frame, Node, Reaction, at_tick}
use Rattle.clnp_system.specs.Sending.{IsDropped as SendsNone, IsSent, Sends, numbered_if}
use Rattle.clnp_system.specs.Tables.{rows_tables}
use Rattle.law_clnp_step.specs.Handling.{Changes, Handles, IsReceived, Nobody, OffersFrame, OffersFrames, Somebody, TicksAll, drop_note, is_system, notes_of, plain_wish}
use Rattle.law_clnp_step.specs.Network.{Network, net_link}
use Rattle.law_clnp_step.specs.Step.{Arrives, Begins, IsDropped, IsFull, IsNobodys, IsTaken, NetOffers, NetStep, NetTakesUp, NetTicks, is_source}
use Rattle.script_lines.specs.Tags.{Tags}
use Rattle.law_clnp_net.specs.Serving.{StandsInOctets}
use Rattle.law_clnp_net.specs.Standing.{FitsBag, FitsKept, FitsUp, IsFrame, is_nsap, is_port}
use Rattle.law_clnp_net.proofs.Always.{serves}
use Rattle.law_clnp_net.proofs.answered.Carrying.{bag_answers}
use Rattle.law_clnp_step.proofs.Lists.{all_back, all_both, all_front}
use Rattle.law_told.proofs.Carriers.{IsToldUp}
use Rattle.law_told.proofs.Notes.{BagTold, GoesTo, bag_told, gathered_told, pick_of, same_frames}
use Rattle.law_told.proofs.Reactions.{receives_told, ticks_told}

module _ (tags : Tags) where
  abbrev pub IsDeclaredSystem : ℕ → Type 0
  IsDeclaredSystem system = system < length tags.systems

  abbrev pub AreUps : List (Up (List ℕ)) → Type 0
  AreUps ups = AllByRecursion (IsToldUp {A = List ℕ} tags) ups

  -- the systems are declared
  abbrev pub AreNodes : List (Node Rows) → Type 0
  AreNodes nodes = AllByRecursion (λ node. IsDeclaredSystem node.setup.system) nodes

  pub record NetTold (net : Network Bag Rows) : Type 0 where
    pub link : BagTold tags net.link
    pub nodes : AreNodes net.nodes
    pub waiting : AreUps net.waiting

  ups_both : (xs ys : List (Up (List ℕ))) → AreUps xs → AreUps ys → AreUps (xs ++ ys)
  ups_both xs ys h k = all_both (IsToldUp {A = List ℕ} tags) xs ys h k

  notes_told : (ups : List (Up Port)) → AllByRecursion (IsToldUp {A = Port} tags) ups → AreUps (notes_of ups)
  notes_told [] h = tt
  notes_told (Noted note ∷ ups) h = (h.0, notes_told ups h.1)
  notes_told (Came arrival ∷ ups) h = notes_told ups h.1

  -- ---- frames

  drop_told : (system : ℕ) (answer : Offered) → IsDeclaredSystem system → AreUps (drop_note system answer)
  drop_told system WasTaken is = tt
  drop_told system (Dropped cause) is = ((refl, (refl, (is, tt))), tt)

  -- a frame that was taken is kept
  taken_fits : (bag : Bag) (frame : CarriedUnit Port) (answer : Offered) → AllByRecursion FitsKept (after_offer bag frame answer).frames
      → (answer ≡ WasTaken → IsFrame frame) × AllByRecursion FitsKept bag.frames
  taken_fits bag frame WasTaken h =
      let own = Some (record { tick = bag.clock; unit = frame; taken = [] }) ∷ [] in
      ((λ e. (all_back FitsKept bag.frames own h).0), all_front FitsKept bag.frames own h)
  taken_fits bag frame (Dropped cause) h = ((λ e. absurd (cc e)), h)

  kept_one : (old new : Bag) (system : ℕ) (frame : CarriedUnit Port) (told : List (Up (List ℕ))) → AllByRecursion FitsKept new.frames → (o : OffersFrame link_of BagStep old system frame new told)
      → (o.answer ≡ WasTaken → IsFrame frame) × AllByRecursion FitsKept old.frames
  kept_one old new system frame told fits o =
      let frames : new.frames ≡ o.offered.frames = same_frames o.offered o.notes new o.gathers in
      let there : AllByRecursion FitsKept o.offered.frames = subst (AllByRecursion FitsKept) frames fits in
      taken_fits old frame o.answer (subst (λ (b : Bag). AllByRecursion FitsKept b.frames) o.offers.1 there)

  kept_all : (frames : List (CarriedUnit Port)) (old new : Bag) (system : ℕ) (told : List (Up (List ℕ))) → AllByRecursion FitsKept new.frames → OffersFrames link_of BagStep old system frames new told
      → AllByRecursion FitsKept old.frames
  kept_all [] old new system told fits o = subst (λ (b : Bag). AllByRecursion FitsKept b.frames) o.0 fits
  kept_all (frame ∷ frames) old new system told fits o = (kept_one old o.0 system frame o.1 (kept_all frames o.0 new system o.2 fits o.4) o.3).1

  record FramesTold (new : Bag) (told : List (Up (List ℕ))) : Type 0 where
    link : BagTold tags new
    ups : AreUps told

  offers_one : (old new : Bag) (system : ℕ) (frame : CarriedUnit Port) (told : List (Up (List ℕ))) → BagTold tags old → IsDeclaredSystem system → AllByRecursion FitsKept new.frames
      → OffersFrame link_of BagStep old system frame new told → FramesTold new told
  offers_one old new system frame told t is fits o =
      let kept = kept_one old new system frame told fits o in
      let offered = bag_told tags old (Offer frame plain_wish o.answer) o.offered t (λ e. (kept.0 e).to) o.offers in
      let up = gathered_told tags o.offered o.notes new offered o.gathers in
      record {
        link = up.told;
        ups = subst AreUps (sym o.told_is) (ups_both (notes_of o.notes) (drop_note system o.answer) (notes_told o.notes up.each) (drop_told system o.answer is));
      }

  offers_all : (frames : List (CarriedUnit Port)) (old new : Bag) (system : ℕ) (told : List (Up (List ℕ))) → BagTold tags old → IsDeclaredSystem system → AllByRecursion FitsKept new.frames
      → OffersFrames link_of BagStep old system frames new told → FramesTold new told
  offers_all [] old new system told t is fits o = record { link = subst (BagTold tags) (sym o.0) t; ups = subst AreUps (sym o.1) tt }
  offers_all (frame ∷ frames) old new system told t is fits o =
      let first = offers_one old o.0 system frame o.1 t is (kept_all frames o.0 new system o.2 fits o.4) o.3 in
      let rest = offers_all frames o.0 new system o.2 first.link is fits o.4 in
      record { link = rest.link; ups = subst AreUps (sym o.5) (ups_both o.1 o.2 first.ups rest.ups) }

  -- ---- systems

  node_at : (test : Node Rows → Bool) (nodes : List (Node Rows)) (node after : Node Rows) (changed : List (Node Rows)) → Changes test nodes node after changed → AreNodes nodes
      → IsDeclaredSystem node.setup.system
  node_at test nodes node after changed c h =
      (all_back (λ (n : Node Rows). IsDeclaredSystem n.setup.system) c.before (node ∷ c.behind) (subst AreNodes c.stands h)).0

  nodes_changed : (test : Node Rows → Bool) (nodes : List (Node Rows)) (node after : Node Rows) (changed : List (Node Rows)) → Changes test nodes node after changed → after.setup ≡ node.setup → AreNodes nodes
      → AreNodes changed
  nodes_changed test nodes node after changed c same h =
      let P : Node Rows → Type 0 = λ n. IsDeclaredSystem n.setup.system in
      let all : AreNodes (c.before ++ node ∷ c.behind) = subst AreNodes c.stands h in
      let behind = all_back P c.before (node ∷ c.behind) all in
      subst AreNodes (sym c.becomes)
      (all_both P c.before (after ∷ c.behind) (all_front P c.before (node ∷ c.behind) all) (subst (λ (s : _). IsDeclaredSystem s.system) (sym same) behind.0, behind.1))

  record Handled (new : Bag) (after : List (Node Rows)) (told : List (Up (List ℕ))) : Type 0 where
    link : BagTold tags new
    nodes : AreNodes after
    ups : AreUps told

  record ReactionTold (reaction : Reaction) (changed : List (Node Rows)) : Type 0 where
    ups : AreUps reaction.ups
    nodes : AreNodes changed

  received : (now : ℕ) (nodes : List (Node Rows)) (arrival : Arrival Port) (reaction : Reaction) (changed : List (Node Rows)) → AreNodes nodes → IsFrame arrival.unit
      → IsReceived rows_tables now nodes arrival reaction changed → ReactionTold reaction changed
  received now nodes arrival reaction changed h fits (Nobody none e same) = record { ups = subst (λ (r : Reaction). AreUps r.ups) (sym e) tt; nodes = subst AreNodes (sym same) h }
  received now nodes arrival reaction changed h fits (Somebody node after c r) =
      let is = node_at (is_system arrival.system) nodes node after changed c h in
      let told = receives_told tags node now arrival.unit is reaction after fits r in
      record { ups = told.ups; nodes = nodes_changed (is_system arrival.system) nodes node after changed c told.setup h }

  kept_before : (ups : List (Up Port)) (now : ℕ) (old new : Bag) (nodes after : List (Node Rows)) (told : List (Up (List ℕ))) → AllByRecursion FitsKept new.frames
      → Handles link_of BagStep rows_tables now old nodes ups new after told → AllByRecursion FitsKept old.frames
  kept_before [] now old new nodes after told fits h = subst (λ (b : Bag). AllByRecursion FitsKept b.frames) h.0 fits
  kept_before (Noted note ∷ ups) now old new nodes after told fits h = kept_before ups now old new nodes after h.0 fits h.1
  kept_before (Came arrival ∷ ups) now old new nodes after told fits h =
      kept_all h.0.frames old h.1 arrival.system h.3 (kept_before ups now h.1 new h.2 after h.4 fits h.7) h.6

  handled : (ups : List (Up Port)) (now : ℕ) (old new : Bag) (nodes after : List (Node Rows)) (told : List (Up (List ℕ))) → BagTold tags old → AreNodes nodes → AllByRecursion (IsToldUp {A = Port} tags) ups
      → AllByRecursion FitsUp ups → AllByRecursion FitsKept new.frames → Handles link_of BagStep rows_tables now old nodes ups new after told → Handled new after told
  handled [] now old new nodes after told t n ts fs fits h = record { link = subst (BagTold tags) (sym h.0) t; nodes = subst AreNodes (sym h.1) n; ups = subst AreUps (sym h.2) tt }
  handled (Noted note ∷ ups) now old new nodes after told t n ts fs fits h =
      let rest = handled ups now old new nodes after h.0 t n ts.1 fs.1 fits h.1 in
      record { link = rest.link; nodes = rest.nodes; ups = subst AreUps (sym h.2) (ts.0, rest.ups) }
  handled (Came arrival ∷ ups) now old new nodes after told t n ts fs fits h =
      let r = received now nodes arrival h.0 h.2 n fs.0 h.5 in
      let out = offers_all h.0.frames old h.1 arrival.system h.3 t ts.0 (kept_before ups now h.1 new h.2 after h.4 fits h.7) h.6 in
      let rest = handled ups now h.1 new h.2 after h.4 out.link r.nodes ts.1 fs.1 fits h.7 in
      record { link = rest.link; nodes = rest.nodes; ups = subst AreUps (sym h.8) (ups_both h.0.ups (h.3 ++ h.4) r.ups (ups_both h.3 h.4 out.ups rest.ups)) }

  -- ---- a tick of each system

  kept_ticks : (nodes : List (Node Rows)) (now : ℕ) (old new : Bag) (after : List (Node Rows)) (told : List (Up (List ℕ))) → AllByRecursion FitsKept new.frames
      → TicksAll link_of BagStep rows_tables now old nodes new after told → AllByRecursion FitsKept old.frames
  kept_ticks [] now old new after told fits h = subst (λ (b : Bag). AllByRecursion FitsKept b.frames) h.0 fits
  kept_ticks (node ∷ nodes) now old new after told fits h =
      kept_all h.0.frames old h.1 node.setup.system h.4 (kept_ticks nodes now h.1 new h.3 h.5 fits h.8) h.7

  ticked_all : (nodes : List (Node Rows)) (now : ℕ) (old new : Bag) (after : List (Node Rows)) (told : List (Up (List ℕ))) → BagTold tags old → AreNodes nodes → AllByRecursion FitsKept new.frames
      → TicksAll link_of BagStep rows_tables now old nodes new after told → Handled new after told
  ticked_all [] now old new after told t n fits h = record { link = subst (BagTold tags) (sym h.0) t; nodes = subst AreNodes (sym h.1) tt; ups = subst AreUps (sym h.2) tt }
  ticked_all (node ∷ nodes) now old new after told t n fits h =
      let own = ticks_told tags node now h.0 h.2 n.0 h.6 in
      let out = offers_all h.0.frames old h.1 node.setup.system h.4 t n.0 (kept_ticks nodes now h.1 new h.3 h.5 fits h.8) h.7 in
      let rest = ticked_all nodes now h.1 new h.3 h.5 out.link n.1 fits h.8 in
      record {
        link = rest.link;
        nodes = subst AreNodes (sym h.9) (subst (λ (s : _). IsDeclaredSystem s.system) (sym own.setup) n.0, rest.nodes);
        ups = subst AreUps (sym h.10) (ups_both h.0.ups (h.4 ++ h.5) own.ups (ups_both h.4 h.5 out.ups rest.ups));
      }

  -- ---- the calls

  sent_setup : (node after : Node Rows) (now : ℕ) (unit : CarriedUnit (List ℕ)) (wish : Wish) (sent : Result (List Frame) DropCause) → Sends rows_tables node now unit wish sent after → after.setup ≡ node.setup
  sent_setup node after now unit wish sent (SendsNone cause why e is) = ap (λ (n : Node Rows). n.setup) is
  sent_setup node after now unit wish sent (IsSent hop frames why cut e is) = ap (λ (n : Node Rows). n.setup) is ∙ by wish.cut
    where
      by : (b : Bool) → (numbered_if b (at_tick now node) now).setup ≡ node.setup
      by true = refl
      by false = refl

  offered : (old new : Network Bag Rows) (unit : CarriedUnit (List ℕ)) (wish : Wish) (answer : Offered) → NetTold old → FitsBag new.link → NetOffers link_of BagStep rows_tables old unit wish answer new → NetTold new
  offered old new unit wish answer t fits (IsFull full e is) = subst NetTold (sym is) t
  offered old new unit wish answer t fits (IsNobodys room none e is) = subst NetTold (sym is) t
  offered old new unit wish answer t fits (IsDropped node after nodes cause room c s e is) =
      subst NetTold (sym is) (record {
        link = t.link;
        nodes = nodes_changed (is_source unit.from) old.nodes node after nodes c (sent_setup node after (link_of old.link).clock unit wish (Err cause) s) t.nodes;
        waiting = t.waiting;
      })
  offered old new unit wish answer t fits (IsTaken node after nodes frames below told room c s o e is) =
      let there : AllByRecursion FitsKept below.frames = subst (λ (net : Network Bag Rows). AllByRecursion FitsKept net.link.frames) is fits.frames in
      let system = node_at (is_source unit.from) old.nodes node after nodes c t.nodes in
      let out = offers_all frames old.link below node.setup.system told t.link system there o in
      subst NetTold (sym is) (record {
        link = out.link;
        nodes = nodes_changed (is_source unit.from) old.nodes node after nodes c (sent_setup node after (link_of old.link).clock unit wish (Ok frames) s) t.nodes;
        waiting = ups_both old.waiting told t.waiting out.ups;
      })

  arrived : (old new : Network Bag Rows) (call : Call Port) → NetTold old → FitsBag old.link → CanBeAsked is_port (link_of old.link) (asked_of call) → GoesTo tags call → FitsBag new.link
      → Arrives link_of BagStep rows_tables old call new → NetTold new
  arrived old new call t was may goes fits a =
      let called = bag_told tags old.link call a.called t.link goes a.calls in
      let called_fits : FitsBag a.called = bag_answers.stays old.link call a.called was may a.calls in
      let up = gathered_told tags a.called a.ups a.risen called a.gathers in
      let there : AllByRecursion FitsKept a.below.frames = subst (λ (net : Network Bag Rows). AllByRecursion FitsKept net.link.frames) a.becomes fits.frames in
      let ups_fit : AllByRecursion FitsUp a.ups = subst (AllByRecursion FitsUp) a.gathers.waited called_fits.waiting in
      let h = handled a.ups (link_of old.link).clock a.risen a.below old.nodes a.nodes a.told up.told t.nodes up.each ups_fit there a.handles in
      subst NetTold (sym a.becomes) (record { link = h.link; nodes = h.nodes; waiting = ups_both old.waiting a.told t.waiting h.ups })

  rest_told : (answer : Option (Up (List ℕ))) (waiting rest : List (Up (List ℕ))) → waiting ≡ after_first answer rest → AreUps waiting → AreUps rest
  rest_told None waiting rest e h = subst AreUps e h
  rest_told (Some up) waiting rest e h = let all : AreUps (up ∷ rest) = subst AreUps e h in all.1

  taken_up : (old new : Network Bag Rows) (answer : Option (Up (List ℕ))) → NetTold old → NetTakesUp link_of BagStep rows_tables old answer new → NetTold new
  taken_up old new answer t u = subst NetTold (sym u.becomes) (record { link = t.link; nodes = t.nodes; waiting = rest_told answer old.waiting new.waiting u.waiting t.waiting })

  net_ticked : (old new : Network Bag Rows) → NetTold old → FitsBag new.link → NetTicks link_of BagStep rows_tables old new → NetTold new
  net_ticked old new t fits k =
      let ticked = bag_told tags old.link Tick k.ticked t.link tt k.ticks in
      let up = gathered_told tags k.ticked k.ups k.risen ticked k.gathers in
      let there : AllByRecursion FitsKept k.below.frames = subst (λ (net : Network Bag Rows). AllByRecursion FitsKept net.link.frames) k.becomes fits.frames in
      let h = ticked_all old.nodes ((link_of old.link).clock + 1) k.risen k.below k.nodes k.told up.told t.nodes there k.all in
      subst NetTold (sym k.becomes) (record {
        link = h.link;
        nodes = h.nodes;
        waiting = ups_both old.waiting (notes_of k.ups ++ k.told) t.waiting (ups_both (notes_of k.ups) k.told (notes_told k.ups up.each) h.ups);
      })

  -- in octets, and told
  pub record StandsTold (net : Network Bag Rows) : Type 0 where
    pub stands : StandsInOctets net
    pub told : NetTold net

  told_on : (old : Network Bag Rows) (call : Call (List ℕ)) (new : Network Bag Rows) → StandsTold old → StandsInOctets new → CanBeAsked is_nsap (net_link link_of old) (asked_of call)
      → NetStep link_of BagStep rows_tables old call new → NetTold new
  told_on old (Offer unit wish answer) new t s may step = offered old new unit wish answer t.told s.stands.link step.1
  told_on old (Choose pick system answer) new t s may step = arrived old new (Choose pick system answer) t.told t.stands.stands.link tt tt s.stands.link step.1
  told_on old (Inject lan system octets answer) new t s may step = arrived old new (Inject lan system octets answer) t.told t.stands.stands.link may tt s.stands.link step.1
  told_on old (NextUp answer) new t s may step = taken_up old new answer t.told step.1
  told_on old Tick new t s may step = net_ticked old new t.told s.stands.link step.1

  pub stays_told : (old : Network Bag Rows) (call : Call (List ℕ)) (new : Network Bag Rows) → StandsTold old → CanBeAsked is_nsap (net_link link_of old) (asked_of call)
      → NetStep link_of BagStep rows_tables old call new → StandsTold new
  stays_told old call new t may step =
      let s = serves.answers.stays old call new t.stands may step in record { stands = s; told = told_on old call new t s may step }

  -- so it begins
  pub begins_told : (first : Bag) (nodes : List (Node Rows)) (life : ℕ) (new : Network Bag Rows) → BagTold tags first → AreNodes nodes → StandsInOctets new
      → Begins link_of BagStep rows_tables first nodes life new → StandsTold new
  begins_told first nodes life new t n s b =
      let there : AllByRecursion FitsKept b.below.frames = subst (λ (net : Network Bag Rows). AllByRecursion FitsKept net.link.frames) b.becomes s.stands.link.frames in
      let h = ticked_all nodes 0 first b.below b.after b.told t n there b.all in
      record { stands = s; told = subst NetTold (sym b.becomes) (record { link = h.link; nodes = h.nodes; waiting = h.ups }) }

  -- what can be taken
  takes_of : (answer : Picked) → is_answer_taken answer ≡ true → answer ≡ WasPicked
  takes_of WasPicked h = refl
  takes_of other h = absurd cc

  pub picks_told : (net : Network Bag Rows) → StandsTold net → (pick system : ℕ) → IsTrue ((net_link link_of net).takes pick system) → (pick < 2 ^ 64) × IsDeclaredSystem system
  picks_told net t pick system is =
      let p = pick_of tags net.link pick system t.told.link (takes_of (picked_in net.link pick system) is) in
      let few = p.few in
      (omega (arith, few), p.declared)
