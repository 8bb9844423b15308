-- A system answers each frame.
use Rattle.std.proofs.Common.{◌≡◌, ◌≢◌, ℕ, ◌+◌, ◌<◌, ◌≤◌, Bool, true, false, List, [], ◌∷◌, ◌++◌, length, Option, Some, None, refl, sym, ◌∙◌, ap, subst, arith, inl, inr, length-append}
use Rattle.std.specs.Prelude.{◌&&◌, not, nat_le, nat_lt, IfSome, IsSome, if◌then◌else◌, slice_index}
use Rattle.std.specs.List.{AllByRecursion}
use Rattle.std.proofs.lemmas.Bool.{cases_eq}
use Rattle.std.proofs.lemmas.List.{length-take}
use Rattle.nsap.specs.declared.port.Port.{Port}
use Rattle.nsap.specs.declared.port.Hop.{Hop}
use Rattle.osi_base.specs.declared.unit.Up.TheVariants.{Note as Noted}
use Rattle.osi_base.specs.declared.note.Note.TheVariants as notes
use Rattle.osi_base.specs.declared.note.HelloKind.{HelloKind}
use Rattle.osi_base.specs.declared.note.HelloKind.TheVariants as kinds
use Rattle.pdu_parts.specs.Front.{BeginsWith}
use Rattle.clnp_options.specs.Options.{value_of}
use Rattle.clnp_options.specs.SourceRoute.{SourceRoute}
use Rattle.clnp_options.specs.declared.reason.Fault.{Fault}
use Rattle.clnp_options.specs.declared.reason.PduKind.{PduKind}
use Rattle.clnp_options.specs.declared.reason.PduKind.TheVariants.{Dt, Er}
use Rattle.clnp_options.specs.declared.reason.Reason.{Reason}
use Rattle.clnp_options.specs.declared.reason.Reason.TheVariants.{Congestion, DestinationUnknown, DestinationUnreachable, LifetimeExpiredInTransit, PathNotAcceptable, ReassemblyInterference, SegmentationNeeded}
use Rattle.clnp_options.proofs.Found.{found_known, known_route}
use Rattle.clnp_header.specs.declared.pdu.Pdu.{Pdu}
use Rattle.clnp_header.specs.declared.pdu.SegmentPart.{SegmentPart}
use Rattle.clnp_header.specs.Faults.{IsPduFault}
use Rattle.clnp_header.specs.Grammar.{IsPdu, IsPlaced, MayBeSegment}
use Rattle.clnp_header.specs.Values.{parameters}
use Rattle.clnp_header.specs.Writing.{header_length}
use Rattle.clnp_header.proofs.Answered.{front_or_fault}
use Rattle.clnp_header.proofs.Parts.{length-header}
use Rattle.clnp_segment.specs.declared.store.Joined.{Joined}
use Rattle.clnp_segment.specs.declared.store.Joined.TheVariants as joined
use Rattle.esis_pdu.specs.declared.fault.EsisFault.{EsisFault}
use Rattle.esis_pdu.specs.declared.hello.Hello.{Hello}
use Rattle.esis_pdu.specs.declared.hello.Hello.TheVariants.{Esh, Ish, Rd}
use Rattle.esis_pdu.specs.Faults.{IsEsisFault}
use Rattle.esis_pdu.specs.Hellos.{Esis, IsEsis}
use Rattle.esis_pdu.proofs.Grammar.{front_or_fault as hello_or_fault}
use Rattle.esis_tables.specs.Rows.{Rows, heard_table}
use Rattle.esis_tables.specs.Room.{count_with}
use Rattle.esis_tables.specs.Told.{Told, on_lan, told_of}
use Rattle.clnp_system.specs.declared.source_routing.Aim.{Aim}
use Rattle.clnp_system.specs.declared.source_routing.Aim.TheVariants.{Free, Entry, Forbidden}
use Rattle.clnp_system.specs.declared.verdict.Verdict.{Verdict}
use Rattle.clnp_system.specs.declared.verdict.Verdict.TheVariants.{Discard, Tell, Take, Join, Onward}
use Rattle.clnp_system.specs.Forwarding as forwarding
use Rattle.clnp_system.specs.Hearing.{HeardBy, Hears, HeedsIf, RedirectedBy, cause_of, only_note}
use Rattle.clnp_system.specs.Hellos.{sender}
use Rattle.clnp_system.specs.Hops.{hop_of, hop_to}
use Rattle.clnp_system.specs.Node.{Frame, Node, Reaction, at_tick}
use Rattle.clnp_system.specs.Receiving.{Alien, BadHello, Does, Elsewhere, Faulty, HearsHello, JoinGives, Joins, Reads, Receives, came, coming, told_reason}
use Rattle.clnp_system.specs.Reporting.{discarded_octets, discarded_pdu}
use Rattle.clnp_system.specs.Setting.{Setting, bound_of, is_own_system, port_on}
use Rattle.clnp_system.specs.Tables.{heard_rows, rows_tables}
use Rattle.clnp_system.specs.Verdicts.{by_aim, for_this, is_titled, to_destination, to_entry, verdict, whole_or_part}
use Rattle.clnp_system.specs.SourceRouting.{IsRoute, aim_of}
use Rattle.clnp_system.specs.Written.{HasPdu, header_in}
use Rattle.law_carrier_answers.specs.Answers.{AreOctets}
use Rattle.law_clnp_net.specs.Serving.{WaitsInOctets}
use Rattle.law_clnp_net.specs.Standing.{FitsNode, FitsRows, IsFrame, IsHop, IsSnpa}
use Rattle.law_clnp_net.proofs.written.Fitting.{FitsDiscarded, FitsOctets}
use Rattle.law_clnp_net.proofs.written.Discarding.{lost}
use Rattle.law_clnp_net.proofs.written.Faults.{fault_fits}
use Rattle.law_clnp_net.proofs.written.Greeting.{group_answered, redirected}
use Rattle.clnp_system.proofs.Hops.{heard_are}
use Rattle.clnp_system.proofs.Initial.{all_of}
use Rattle.law_clnp_step.proofs.Lists.{all_both}
use Rattle.law_clnp_net.proofs.written.Octets.{octets_take}
use Rattle.law_clnp_net.proofs.written.Onward.{goes_on}
use Rattle.law_clnp_net.proofs.written.Pieces.{sent_cut}
use Rattle.law_clnp_net.proofs.written.Reading.{front_fits, front_hello_fits}
use Rattle.law_clnp_net.proofs.answered.Carrying.{nsap_passes}
use Rattle.law_clnp_net.proofs.answered.Storing.{MayJoin, WholeFits, answered}
use Rattle.law_clnp_net.proofs.written.Ways.{of_good, to_good}
use Rattle.law_clnp_net.proofs.written.Writes.{FitsHello}

-- ---- a verdict

-- what holds of what is to be done with a PDU
abbrev Fits : Setting → Pdu → Verdict → Type 0
Fits setting pdu (Discard reason place) = place < 256
Fits setting pdu Join = IsSome pdu.segment
Fits setting pdu (Onward hop) = IsHop setting hop
Fits setting pdu other = Prim.Unit {0}

reason_fits : (system : ℕ) (value : Option (List ℕ)) → WaitsInOctets (told_reason system value ∷ [])
reason_fits system None = (tt, tt)
reason_fits system (Some value) = (tt, tt)

module _ (node : Node Rows) (fits : FitsNode node) where
  if_fits : (pdu : Pdu) (test : Bool) (one other : Verdict) → Fits node.setup pdu one → Fits node.setup pdu other → Fits node.setup pdu (if test then one else other)
  if_fits pdu true one other h k = h
  if_fits pdu false one other h k = k

  part_fits : (pdu : Pdu) (segment : Option SegmentPart) → pdu.segment ≡ segment → Fits node.setup pdu (whole_or_part segment)
  part_fits pdu None e = tt
  part_fits pdu (Some part) e = subst (λ (s : Option SegmentPart). IsSome s) (sym e) refl

  this_fits : (pdu : Pdu) (kind : PduKind) → Fits node.setup pdu (for_this node.setup pdu kind)
  this_fits pdu Er = tt
  this_fits pdu Dt = if_fits pdu _ (Discard DestinationUnknown 0) (whole_or_part pdu.segment) (omega arith) (part_fits pdu pdu.segment refl)

  destination_fits : (pdu : Pdu) (hop : Option Hop) → IfSome hop (IsHop node.setup) → Fits node.setup pdu (to_destination hop)
  destination_fits pdu None h = omega arith
  destination_fits pdu (Some hop) h = h

  entry_fits : (pdu : Pdu) (complete : Bool) (title : List ℕ) (hop : Option Hop) → IfSome hop (IsHop node.setup) → Fits node.setup pdu (to_entry complete title hop)
  entry_fits pdu complete title None h = omega arith
  entry_fits pdu complete title (Some hop) h = if_fits pdu (complete && not (is_titled hop.title title)) (Discard PathNotAcceptable 0) (Onward hop) (omega arith) h

  aim_fits : (now : ℕ) (pdu : Pdu) (aim : Aim) → Fits node.setup pdu (by_aim rows_tables node now pdu.destination aim)
  aim_fits now pdu Free = destination_fits pdu (hop_of rows_tables node now pdu.destination) (of_good node fits now pdu.destination)
  aim_fits now pdu (Entry title complete) = entry_fits pdu complete title (hop_to rows_tables node now title) (to_good node fits now title)
  aim_fits now pdu Forbidden = omega arith

  verdict_fits : (now bound : ℕ) (pdu : Pdu) (route : Option SourceRoute) → Fits node.setup pdu (verdict rows_tables node now bound pdu route)
  verdict_fits now bound pdu route =
      let onward : Verdict = by_aim rows_tables node now pdu.destination (aim_of node.setup route) in
      let in_time : Verdict = if nat_le pdu.lifetime bound then Discard LifetimeExpiredInTransit 4 else onward in
      let past : Verdict = if node.setup.end then Discard DestinationUnreachable 0 else in_time in
      if_fits pdu (is_own_system node.setup pdu.destination) (if nat_lt pdu.lifetime bound then Discard LifetimeExpiredInTransit 4 else for_this node.setup pdu pdu.kind) past
      (if_fits pdu (nat_lt pdu.lifetime bound) (Discard LifetimeExpiredInTransit 4) (for_this node.setup pdu pdu.kind) (omega arith) (this_fits pdu pdu.kind))
      (if_fits pdu node.setup.end (Discard DestinationUnreachable 0) in_time (omega arith)
      (if_fits pdu (nat_le pdu.lifetime bound) (Discard LifetimeExpiredInTransit 4) onward (omega arith) (aim_fits now pdu (aim_of node.setup route))))

  -- ---- what comes of it

  -- a reaction, and what the system is then
  pub record Reacted (Gives : Reaction → Node Rows → Type 0) : Type 0 where
    pub reaction : Reaction
    pub new : Node Rows
    pub gives : Gives reaction new
    pub stands : FitsNode new
    pub setup : new.setup ≡ node.setup
    pub fit : AllByRecursion IsFrame reaction.frames
    pub ups_fit : WaitsInOctets reaction.ups

  at_tick_fits : (now : ℕ) → FitsNode (at_tick now node)
  at_tick_fits now = record { setup = fits.setup; next_id = fits.next_id; held = fits.held; neighbours = fits.neighbours; redirects = fits.redirects }

  -- ---- hellos
  heard_fits : (table : Rows) (told : Told) → IsHop node.setup told.hop → FitsRows node.setup table.rows → IfSome (heard_rows table told) (λ (heard : Rows). FitsRows node.setup heard.rows)
  heard_fits table told good h = by (nat_lt 256 (count_with table.rows told))
    where
      by : (full : Bool) → IfSome (if full then None else Some (heard_table table told)) (λ (heard : Rows). FitsRows node.setup heard.rows)
      by true = tt
      by false = heard_are (IsHop node.setup) table told good h

  heard_by : (now : ℕ) (kind : HelloKind) (snpa : List ℕ) (table : Option Rows) → IfSome table (λ (heard : Rows). FitsRows node.setup heard.rows)
      → Reacted (HeardBy node now kind snpa table)
  heard_by now kind snpa None h =
      record { reaction = only_note (Noted (notes.HelloFull node.setup.system)); new = at_tick now node; gives = (refl, refl); stands = at_tick_fits now; setup = refl; fit = tt; ups_fit = (tt, tt) }
  heard_by now kind snpa (Some table) h = record {
    reaction = only_note (Noted (notes.Hello node.setup.system kind snpa));
    new = record node { clock = now; neighbours = table };
    gives = (refl, refl);
    stands = record { setup = fits.setup; next_id = fits.next_id; held = fits.held; neighbours = h; redirects = fits.redirects };
    setup = refl;
    fit = tt;
    ups_fit = (tt, tt);
  }

  redirected_by : (now : ℕ) (address snpa : List ℕ) (table : Option Rows) → IfSome table (λ (heard : Rows). FitsRows node.setup heard.rows) → Reacted (RedirectedBy node now address snpa table)
  redirected_by now address snpa None h =
      record { reaction = only_note (Noted (notes.HelloFull node.setup.system)); new = at_tick now node; gives = (refl, refl); stands = at_tick_fits now; setup = refl; fit = tt; ups_fit = (tt, tt) }
  redirected_by now address snpa (Some table) h = record {
    reaction = only_note (Noted (notes.Redirect node.setup.system address snpa));
    new = record node { clock = now; redirects = table };
    gives = (refl, refl);
    stands = record { setup = fits.setup; next_id = fits.next_id; held = fits.held; neighbours = fits.neighbours; redirects = h };
    setup = refl;
    fit = tt;
    ups_fit = (tt, tt);
  }

  heeded : (end : Bool) (now : ℕ) (from : Port) (told : Told) (address snpa : List ℕ) → IsHop node.setup told.hop → Reacted (HeedsIf end rows_tables node now from told address snpa)
  heeded true now from told address snpa good =
      let r = redirected_by now address snpa (heard_rows node.redirects told) (heard_fits node.redirects told good fits.redirects) in
      record { reaction = r.reaction; new = r.new; gives = r.gives; stands = r.stands; setup = r.setup; fit = r.fit; ups_fit = r.ups_fit }
  heeded false now from told address snpa good =
      record { reaction = only_note (Noted (notes.Hello node.setup.system kinds.Rd from.snpa)); new = at_tick now node; gives = (refl, refl); stands = at_tick_fits now; setup = refl; fit = tt; ups_fit = (tt, tt) }

  hearing : (now : ℕ) (from : Port) (hello : Hello) → IsSome (port_on node.setup from.lan) → IsSnpa from.snpa → FitsHello hello → Reacted (Hears rows_tables node now from hello)
  hearing now from (Esh hold addresses) near snpa h =
      let told : Told = told_of now from (Esh hold addresses) in
      let r = heard_by now kinds.Esh from.snpa (heard_rows node.neighbours told) (heard_fits node.neighbours told (record { near = near; snpa = snpa; title = tt }) fits.neighbours) in
      record { reaction = r.reaction; new = r.new; gives = r.gives; stands = r.stands; setup = r.setup; fit = r.fit; ups_fit = r.ups_fit }
  hearing now from (Ish hold title) near snpa h =
      let told : Told = told_of now from (Ish hold title) in
      let r = heard_by now kinds.Ish from.snpa (heard_rows node.neighbours told) (heard_fits node.neighbours told (record { near = near; snpa = snpa; title = h }) fits.neighbours) in
      record { reaction = r.reaction; new = r.new; gives = r.gives; stands = r.stands; setup = r.setup; fit = r.fit; ups_fit = r.ups_fit }
  hearing now from (Rd hold address snpa title) near from_snpa h =
      let told : Told = told_of now (on_lan from.lan) (Rd hold address snpa title) in
      let r = heeded node.setup.end now from told address snpa (record { near = near; snpa = h.1; title = h.2 }) in
      record { reaction = r.reaction; new = r.new; gives = r.gives; stands = r.stands; setup = r.setup; fit = r.fit; ups_fit = r.ups_fit }

  -- ---- a PDU
  module _ (now : ℕ) (frame : Frame) (in_octets : IsFrame frame) (near : IsSome (port_on node.setup frame.to.lan)) where
    module _ (pdu : Pdu) (has : HasPdu frame.octets pdu) where
      pdu_fits : FitsOctets pdu
      pdu_fits = front_fits frame.octets pdu in_octets.octets has

      header_fits : AreOctets (header_in frame.octets pdu)
      header_fits = octets_take (header_length pdu) frame.octets in_octets.octets

      discarded_fits : (reason : Reason) (place : ℕ) → place < 256 → FitsDiscarded (discarded_pdu frame pdu reason place)
      discarded_fits reason place low = record { source = λ wanted. pdu_fits.source; place = λ wanted. low; header = header_fits }

      placed_most : (more : Bool) (end total : ℕ) → IsPlaced more end total → end ≤ total
      placed_most true end total h = omega (arith, h)
      placed_most false end total h = omega (arith, h)

      may_join : (part : SegmentPart) → pdu.segment ≡ Some part → MayJoin (coming frame (bound_of node.setup frame.to.lan) pdu part)
      may_join part e =
          let begins = has.1 in
          let is : IsPdu begins.front pdu = begins.stands in
          let placed = subst (λ (s : Option SegmentPart). MayBeSegment s (length begins.front) (length pdu.body)) e is.segment in
          let end : part.offset + length begins.front ≤ part.total = placed_most part.more _ part.total placed.placed in
          let size : length begins.front ≡ header_length pdu + length pdu.body = ap length is.whole ∙ length-append is.header pdu.body ∙ omega (arith, length-header begins.front pdu is) in
          record {
            source = pdu_fits.source;
            destination = pdu_fits.destination;
            ends = omega (arith, end, size, length-take (header_length pdu) frame.octets);
            octets = pdu_fits.body;
            header = header_fits;
          }

      -- what the store's answer gives
      record Given (answer : Joined) : Type 0 where
        reaction : Reaction
        gives : JoinGives rows_tables node now frame pdu answer reaction
        fit : AllByRecursion IsFrame reaction.frames
        ups_fit : WaitsInOctets reaction.ups

      came_fits : (octets : List ℕ) → AreOctets octets → WaitsInOctets (came node pdu octets)
      came_fits octets h = (record { from = nsap_passes pdu.source pdu_fits.source; to = nsap_passes pdu.destination pdu_fits.destination; octets = h }, tt)

      given : (answer : Joined) → WholeFits answer → Given answer
      given joined.Interference whole =
          let l = lost node fits now (discarded_pdu frame pdu ReassemblyInterference 0) (discarded_fits ReassemblyInterference 0 (omega arith)) in
          record { reaction = l.reaction; gives = l.discards; fit = l.fit; ups_fit = l.ups_fit }
      given joined.Full whole =
          let l = lost node fits now (discarded_pdu frame pdu Congestion 0) (discarded_fits Congestion 0 (omega arith)) in
          record { reaction = l.reaction; gives = l.discards; fit = l.fit; ups_fit = l.ups_fit }
      given (joined.Whole octets) whole =
          let sent = group_answered node.setup fits.setup frame.from frame.to near in_octets.from in
          record { reaction = record { ups = came node pdu octets; frames = sent.frames }; gives = (refl, sent.are); fit = sent.fit; ups_fit = came_fits octets whole }
      given joined.Held whole =
          let sent = group_answered node.setup fits.setup frame.from frame.to near in_octets.from in
          record { reaction = record { ups = []; frames = sent.frames }; gives = (refl, sent.are); fit = sent.fit; ups_fit = tt }

      joining : (segment : Option SegmentPart) → pdu.segment ≡ segment → IsSome segment → Reacted (Joins rows_tables node now frame pdu)
      joining None e some = absurd cc
      joining (Some part) e some =
          let a = answered node.store now (coming frame (bound_of node.setup frame.to.lan) pdu part) (may_join part e) fits.held in
          let g = given a.answer a.whole in
          record {
            reaction = g.reaction;
            new = record node { clock = now; store = a.after };
            gives = record { part = part; is = e; answer = a.answer; store = a.after; takes = a.takes; gives = g.gives; after = refl };
            stands = record { setup = fits.setup; next_id = fits.next_id; held = a.held; neighbours = fits.neighbours; redirects = fits.redirects };
            setup = refl;
            fit = g.fit;
            ups_fit = g.ups_fit;
          }

      onward : (hop : Hop) → IsHop node.setup hop → Reacted (λ reaction new. Does rows_tables node now frame pdu (Onward hop) reaction new)
      onward hop good =
          let bound : ℕ = bound_of node.setup frame.to.lan in
          let on = goes_on node.setup bound frame.octets pdu fits.setup.title has pdu_fits in
          let redirect = redirected node.setup fits.setup frame.from frame.to pdu.destination hop near in_octets.from pdu_fits.destination good in
          elim (sent_cut node.setup fits.setup hop.port on.new good.near good.snpa on.may on.fits) [
            | inl sent ↦
                let frames : List Frame = sent.frames ++ redirect.frames in
                record {
                  reaction = record { ups = []; frames = frames };
                  new = at_tick now node;
                  gives = (forwarding.Sent frames (on.new, sent.frames, redirect.frames, on.is, sent.are, redirect.are, refl) refl, refl);
                  stands = at_tick_fits now;
                  setup = refl;
                  fit = all_both IsFrame sent.frames redirect.frames sent.fit redirect.fit;
                  ups_fit = tt;
                }
            | inr none ↦
                let l = lost node fits now (discarded_pdu frame pdu SegmentationNeeded 0) (discarded_fits SegmentationNeeded 0 (omega arith)) in
                record {
                  reaction = l.reaction;
                  new = at_tick now node;
                  gives = (forwarding.TooLong (on.new, on.is, none) l.discards, refl);
                  stands = at_tick_fits now;
                  setup = refl;
                  fit = l.fit;
                  ups_fit = l.ups_fit;
                }
          ]

      done : (said : Verdict) → Fits node.setup pdu said → Reacted (Does rows_tables node now frame pdu said)
      done (Discard reason place) h =
          let l = lost node fits now (discarded_pdu frame pdu reason place) (discarded_fits reason place h) in
          record { reaction = l.reaction; new = at_tick now node; gives = (l.discards, refl); stands = at_tick_fits now; setup = refl; fit = l.fit; ups_fit = l.ups_fit }
      done Tell h = record {
        reaction = only_note (told_reason node.setup.system (value_of 0xc1 (parameters pdu.options)));
        new = at_tick now node;
        gives = (refl, refl);
        stands = at_tick_fits now;
        setup = refl;
        fit = tt;
        ups_fit = reason_fits node.setup.system (value_of 0xc1 (parameters pdu.options));
      }
      done Take h =
          let sent = group_answered node.setup fits.setup frame.from frame.to near in_octets.from in
          record {
            reaction = record { ups = came node pdu pdu.body; frames = sent.frames };
            new = at_tick now node;
            gives = (refl, sent.are, refl);
            stands = at_tick_fits now;
            setup = refl;
            fit = sent.fit;
            ups_fit = came_fits pdu.body pdu_fits.body;
          }
      done Join h =
          let r = joining pdu.segment refl h in
          record { reaction = r.reaction; new = r.new; gives = r.gives; stands = r.stands; setup = r.setup; fit = r.fit; ups_fit = r.ups_fit }
      done (Onward hop) h =
          let r = onward hop h in
          record { reaction = r.reaction; new = r.new; gives = r.gives; stands = r.stands; setup = r.setup; fit = r.fit; ups_fit = r.ups_fit }

      route_at : (value : Option (List ℕ)) → value_of 0xc8 (parameters pdu.options) ≡ value → (route : Option SourceRoute) × IsRoute value route
      route_at None e = (None, tt)
      route_at (Some value) e =
          let known = found_known pdu.kind (parameters pdu.options) 0xc8 value has.1.stands.options_part.allowed.known e in
          let route = known_route pdu.kind value known in
          (Some route.0, route.1)

    -- ---- a frame
    read : (own : Port) → port_on node.setup frame.to.lan ≡ Some own → (pdu : Pdu) → HasPdu frame.octets pdu → Reacted (Receives rows_tables node now frame)
    read own there pdu has =
        let route = route_at pdu has (value_of 0xc8 (parameters pdu.options)) refl in
        let bound : ℕ = bound_of node.setup frame.to.lan in
        let r = done pdu has (verdict rows_tables node now bound pdu route.0) (verdict_fits now bound pdu route.0) in
        record { reaction = r.reaction; new = r.new; gives = Reads own pdu route.0 there has route.1 r.gives; stands = r.stands; setup = r.setup; fit = r.fit; ups_fit = r.ups_fit }

    faulty : (own : Port) → port_on node.setup frame.to.lan ≡ Some own → slice_index frame.octets 0 ≡ 0x81 → (fault : Fault) → IsPduFault frame.octets fault → Reacted (Receives rows_tables node now frame)
    faulty own there first fault is =
        let l = lost node fits now (discarded_octets frame fault) (fault_fits frame fault in_octets.octets is) in
        record { reaction = l.reaction; new = at_tick now node; gives = Faulty own fault there first is l.discards refl; stands = at_tick_fits now; setup = refl; fit = l.fit; ups_fit = l.ups_fit }

    heard : (own : Port) → port_on node.setup frame.to.lan ≡ Some own → (told : Esis) (rest : List ℕ) → BeginsWith IsEsis frame.octets told rest → Reacted (Receives rows_tables node now frame)
    heard own there told rest begins =
        let r = hearing now (sender frame.from frame.to) told.hello near in_octets.from (front_hello_fits frame.octets told rest in_octets.octets begins) in
        record { reaction = r.reaction; new = r.new; gives = HearsHello own told rest there begins r.gives; stands = r.stands; setup = r.setup; fit = r.fit; ups_fit = r.ups_fit }

    bad : (own : Port) → port_on node.setup frame.to.lan ≡ Some own → slice_index frame.octets 0 ≡ 0x82 → (fault : EsisFault) → IsEsisFault frame.octets fault → Reacted (Receives rows_tables node now frame)
    bad own there first fault is = record {
      reaction = only_note (Noted (notes.BadHello node.setup.system (cause_of fault)));
      new = at_tick now node;
      gives = BadHello own fault there first is refl refl;
      stands = at_tick_fits now;
      setup = refl;
      fit = tt;
      ups_fit = (tt, tt);
    }

    alien : (own : Port) → port_on node.setup frame.to.lan ≡ Some own → slice_index frame.octets 0 ≢ 0x81 → slice_index frame.octets 0 ≢ 0x82 → Reacted (Receives rows_tables node now frame)
    alien own there no_pdu no_hello = record {
      reaction = only_note (Noted (notes.Alien node.setup.system));
      new = at_tick now node;
      gives = Alien own there no_pdu no_hello refl refl;
      stands = at_tick_fits now;
      setup = refl;
      fit = tt;
      ups_fit = (tt, tt);
    }

    at_port : (own : Port) → port_on node.setup frame.to.lan ≡ Some own → Reacted (Receives rows_tables node now frame)
    at_port own there = elim (cases_eq (slice_index frame.octets 0) 0x81) [
      | inl pdu ↦ elim (front_or_fault frame.octets (all_of (λ octet. octet < 256) frame.octets in_octets.octets)) [
        | inl stands ↦ read own there stands.0 (stands.1, stands.2)
        | inr fails ↦ faulty own there pdu fails.0 fails.1
      ]
      | inr no_pdu ↦ elim (cases_eq (slice_index frame.octets 0) 0x82) [
        | inl hello ↦ elim (hello_or_fault frame.octets (all_of (λ octet. octet < 256) frame.octets in_octets.octets)) [
          | inl stands ↦ heard own there stands.0 stands.1 stands.2
          | inr fails ↦ bad own there hello fails.0 fails.1
        ]
        | inr no_hello ↦ alien own there no_pdu no_hello
      ]
    ]

  pub received : (now : ℕ) (frame : Frame) → IsFrame frame → Reacted (Receives rows_tables node now frame)
  received now frame in_octets = by (port_on node.setup frame.to.lan) refl
    where
      by : (port : Option Port) → port_on node.setup frame.to.lan ≡ port → Reacted (Receives rows_tables node now frame)
      by None e = record { reaction = record { ups = []; frames = [] }; new = at_tick now node; gives = Elsewhere e refl refl; stands = at_tick_fits now; setup = refl; fit = tt; ups_fit = tt }
      by (Some own) e = at_port now frame in_octets (subst (λ (port : Option Port). IsSome port) (sym e) refl) own e
