-- What a system tells of a frame, and at a tick, can be read back: it names the system, and what it tells of the frame was read from octets.
use Rattle.std.proofs.Common.{◌≡◌, ◌<◌, ℕ, Bool, true, false, ◌==◌, ◌&&◌, List, [], ◌∷◌, length, map, Option, Some, None, refl, sym, ap, subst, arith, if◌then◌else◌}
use Rattle.std.specs.Prelude.{IfSome, not, slice_index, find, option_map, cond, nat_lt, nat_le}
use Rattle.std.specs.List.{AllByRecursion}
use Rattle.hex.specs.Hex.{IsBytes}
use Rattle.nsap.specs.declared.port.Hop.{Hop}
use Rattle.nsap.specs.declared.port.Port.{Port}
use Rattle.osi_base.specs.declared.note.HelloCause.{HelloCause}
use Rattle.osi_base.specs.declared.note.HelloCause.TheVariants as hello_causes
use Rattle.osi_base.specs.declared.note.HelloKind.{HelloKind}
use Rattle.osi_base.specs.declared.note.HelloKind.TheVariants as hellos
use Rattle.osi_base.specs.declared.note.Note.TheVariants as notes
use Rattle.osi_base.specs.declared.unit.Up.{Up}
use Rattle.osi_base.specs.declared.unit.Up.TheVariants.{Note as Noted}
use Rattle.pdu_parts.specs.Parameter.{Parameter}
use Rattle.clnp_options.specs.Options.{value_of}
use Rattle.clnp_options.specs.Reasons.{code_of}
use Rattle.clnp_options.specs.SourceRoute.{SourceRoute}
use Rattle.clnp_options.specs.declared.reason.PduKind.{PduKind}
use Rattle.clnp_options.specs.declared.reason.PduKind.TheVariants.{Dt, Er}
use Rattle.clnp_options.specs.declared.reason.Reason.TheVariants as reasons
use Rattle.clnp_header.specs.declared.pdu.OwnOpt.{OwnOpt}
use Rattle.clnp_header.specs.declared.pdu.Pdu.{Pdu}
use Rattle.clnp_header.specs.declared.pdu.SegmentPart.{SegmentPart}
use Rattle.clnp_header.specs.Values.{parameter, parameters}
use Rattle.clnp_segment.specs.declared.store.Expired.{Expired}
use Rattle.clnp_segment.specs.declared.store.Joined.{Joined}
use Rattle.clnp_segment.specs.declared.store.Joined.TheVariants as joined
use Rattle.esis_pdu.specs.declared.hello.Hello.{Hello}
use Rattle.esis_pdu.specs.declared.hello.Hello.TheVariants.{Esh, Ish, Rd}
use Rattle.esis_tables.specs.Rows.{Rows}
use Rattle.esis_tables.specs.Told.{Told, on_lan, told_of}
use Rattle.clnp_system.specs.Forwarding as forwarding
use Rattle.clnp_system.specs.Forwarding.{GoesOnward}
use Rattle.clnp_system.specs.Hearing.{HeardBy, Hears, HeedsIf, RedirectedBy, cause_of, only_note}
use Rattle.clnp_system.specs.Hellos.{sender}
use Rattle.clnp_system.specs.Hops.{hop_of, hop_to}
use Rattle.clnp_system.specs.Node.{Frame, Node, Reaction, at_tick}
use Rattle.clnp_system.specs.Receiving.{Alien, BadHello, Does, Elsewhere, Faulty, HearsHello, JoinGives, Reads, Receives, told_reason}
use Rattle.clnp_system.specs.Reporting.{Discarded, Discards, discarded_octets, discarded_pdu}
use Rattle.clnp_system.specs.Setting.{Setting, bound_of, is_own_system}
use Rattle.clnp_system.specs.Tables.{rows_tables}
use Rattle.clnp_system.specs.Ticking.{NodeTicks, expiry_note}
use Rattle.clnp_system.specs.Verdicts.{by_aim, for_this, is_titled, to_destination, to_entry, verdict, whole_or_part}
use Rattle.clnp_system.specs.SourceRouting.{aim_of}
use Rattle.clnp_system.specs.declared.source_routing.Aim.{Aim}
use Rattle.clnp_system.specs.declared.source_routing.Aim.TheVariants.{Free, Entry, Forbidden}
use Rattle.clnp_system.specs.declared.verdict.Verdict.{Verdict}
use Rattle.clnp_system.specs.declared.verdict.Verdict.TheVariants.{Discard, Tell, Take, Join, Onward}
use Rattle.law_carrier_answers.specs.Answers.{AreOctets}
use Rattle.script_lines.specs.Tags.{Tags}
use Rattle.script_journal.specs.Injective.{plain}
use Rattle.script_journal.specs.CauseWords.{hello_cause_text, hello_text}
use Rattle.law_clnp_net.specs.Standing.{IsFrame, IsSnpa}
use Rattle.law_clnp_net.proofs.written.Discarding.{code_fits}
use Rattle.law_clnp_net.proofs.written.Fitting.{FitsOption}
use Rattle.law_clnp_net.proofs.written.Reading.{front_fits, front_hello_fits}
use Rattle.law_clnp_net.proofs.written.Writes.{FitsHello}
use Rattle.law_tp4_proper.proofs.Octets.{octet_at}
use Rattle.law_told.proofs.Carriers.{IsToldUp}
use Rattle.law_told.proofs.PduFaults.{pdu_fault_low}
use Rattle.law_told.proofs.Notes.{bytes_of, snpa_told}

-- ---- words and numbers

cause_plain : (cause : HelloCause) → plain (hello_cause_text cause) ≡ true
cause_plain hello_causes.Short = refl
cause_plain other = refl

kind_plain : (kind : HelloKind) → plain (hello_text kind) ≡ true
kind_plain hellos.Esh = refl
kind_plain other = refl

one_octet : (octet : ℕ) → octet < 256 → IsBytes (octet ∷ []) × (0 < length (octet ∷ []))
one_octet octet low = (bytes_of (octet ∷ []) (low, tt), omega arith)

-- the value of an option that was read
value_octets : (code : ℕ) (options : List OwnOpt) → AllByRecursion FitsOption options → IfSome (value_of code (parameters options)) AreOctets
value_octets code [] h = tt
value_octets code (option ∷ options) h = by (option.code == code) (value_octets code options h.1)
  where
    by : (b : Bool) → IfSome (value_of code (parameters options)) AreOctets
        → IfSome (option_map (λ (p : Parameter). p.value) (cond b (Some (parameter option)) (find (λ (p : Parameter). p.code == code) (parameters options)))) AreOctets
    by true rest = h.0.value
    by false rest = rest

module _ (tags : Tags) where
  abbrev AreToldUps : List (Up (List ℕ)) → Type 0
  AreToldUps ups = AllByRecursion (IsToldUp {A = List ℕ} tags) ups

  abbrev IsSystem : ℕ → Type 0
  IsSystem system = system < length tags.systems

  -- what a system told, and that it is the same one
  pub record NodeTold (node : Node Rows) (reaction : Reaction) (new : Node Rows) : Type 0 where
    pub ups : AreToldUps reaction.ups
    pub setup : new.setup ≡ node.setup

  note_by : (node new : Node Rows) (reaction : Reaction) (note : Up (List ℕ)) → IsToldUp {A = List ℕ} tags note → reaction ≡ only_note note → new.setup ≡ node.setup → NodeTold node reaction new
  note_by node new reaction note told is same = record { ups = subst (λ (r : Reaction). AreToldUps r.ups) (sym is) (told, tt); setup = same }

  setup_of : (one other : Node Rows) → one ≡ other → one.setup ≡ other.setup
  setup_of one other e = ap (λ (n : Node Rows). n.setup) e

  -- ---- hellos

  heard_by : (node new : Node Rows) (now : ℕ) (kind : HelloKind) (snpa : List ℕ) (table : Option Rows) (reaction : Reaction) → IsSystem node.setup.system → IsSnpa snpa
      → HeardBy node now kind snpa table reaction new → NodeTold node reaction new
  heard_by node new now kind snpa None reaction is snpa_is h = note_by node new reaction (Noted (notes.HelloFull node.setup.system)) (refl, (is, tt)) h.0 (setup_of new (at_tick now node) h.1)
  heard_by node new now kind snpa (Some table) reaction is snpa_is h =
      note_by node new reaction (Noted (notes.Hello node.setup.system kind snpa)) (refl, (is, (kind_plain kind, (snpa_told snpa snpa_is, tt)))) h.0 (setup_of new (record node { clock = now; neighbours = table }) h.1)

  redirected_by : (node new : Node Rows) (now : ℕ) (address snpa : List ℕ) (table : Option Rows) (reaction : Reaction) → IsSystem node.setup.system → AreOctets address → 0 < length address → IsSnpa snpa
      → RedirectedBy node now address snpa table reaction new → NodeTold node reaction new
  redirected_by node new now address snpa None reaction is octets some snpa_is h =
      note_by node new reaction (Noted (notes.HelloFull node.setup.system)) (refl, (is, tt)) h.0 (setup_of new (at_tick now node) h.1)
  redirected_by node new now address snpa (Some table) reaction is octets some snpa_is h =
      note_by node new reaction (Noted (notes.Redirect node.setup.system address snpa)) (refl, (is, ((bytes_of address octets, some), (snpa_told snpa snpa_is, tt)))) h.0
      (setup_of new (record node { clock = now; redirects = table }) h.1)

  heeds : (end : Bool) (node new : Node Rows) (now : ℕ) (from : Port) (heard : Told) (address snpa : List ℕ) (reaction : Reaction) → IsSystem node.setup.system → AreOctets address → 0 < length address
      → IsSnpa snpa → IsSnpa from.snpa → HeedsIf end rows_tables node now from heard address snpa reaction new → NodeTold node reaction new
  heeds true node new now from heard address snpa reaction is octets some snpa_is from_is h =
      redirected_by node new now address snpa (rows_tables.hear node.redirects heard) reaction is octets some snpa_is h
  heeds false node new now from heard address snpa reaction is octets some snpa_is from_is h =
      note_by node new reaction (Noted (notes.Hello node.setup.system hellos.Rd from.snpa)) (refl, (is, (refl, (snpa_told from.snpa from_is, tt)))) h.0 (setup_of new (at_tick now node) h.1)

  hears : (node new : Node Rows) (now : ℕ) (from : Port) (hello : Hello) (reaction : Reaction) → IsSystem node.setup.system → IsSnpa from.snpa → FitsHello hello
      → Hears rows_tables node now from hello reaction new → NodeTold node reaction new
  hears node new now from (Esh hold addresses) reaction is from_is fits h = heard_by node new now hellos.Esh from.snpa (rows_tables.hear node.neighbours (told_of now from (Esh hold addresses))) reaction is from_is h
  hears node new now from (Ish hold title) reaction is from_is fits h = heard_by node new now hellos.Ish from.snpa (rows_tables.hear node.neighbours (told_of now from (Ish hold title))) reaction is from_is h
  hears node new now from (Rd hold address snpa title) reaction is from_is fits h =
      let some = fits.0.is.some in
      heeds node.setup.end node new now from (told_of now (on_lan from.lan) (Rd hold address snpa title)) address snpa reaction is fits.0.octets (omega (arith, some)) fits.1 from_is h

  -- ---- a PDU

  abbrev Low : Verdict → Type 0
  Low (Discard reason place) = place < 256
  Low other = Prim.Unit {0}

  if_low : (test : Bool) (one other : Verdict) → Low one → Low other → Low (if test then one else other)
  if_low true one other h k = h
  if_low false one other h k = k

  part_low : (segment : Option SegmentPart) → Low (whole_or_part segment)
  part_low None = tt
  part_low (Some part) = tt

  this_low : (setting : Setting) (pdu : Pdu) (kind : PduKind) → Low (for_this setting pdu kind)
  this_low setting pdu Er = tt
  this_low setting pdu Dt = if_low _ (Discard reasons.DestinationUnknown 0) (whole_or_part pdu.segment) (omega arith) (part_low pdu.segment)

  destination_low : (hop : Option Hop) → Low (to_destination hop)
  destination_low None = omega arith
  destination_low (Some hop) = tt

  entry_low : (complete : Bool) (title : List ℕ) (hop : Option Hop) → Low (to_entry complete title hop)
  entry_low complete title None = omega arith
  entry_low complete title (Some hop) = if_low (complete && not (is_titled hop.title title)) (Discard reasons.PathNotAcceptable 0) (Onward hop) (omega arith) tt

  aim_low : (node : Node Rows) (now : ℕ) (pdu : Pdu) (aim : Aim) → Low (by_aim rows_tables node now pdu.destination aim)
  aim_low node now pdu Free = destination_low (hop_of rows_tables node now pdu.destination)
  aim_low node now pdu (Entry title complete) = entry_low complete title (hop_to rows_tables node now title)
  aim_low node now pdu Forbidden = omega arith

  verdict_low : (node : Node Rows) (now bound : ℕ) (pdu : Pdu) (route : Option SourceRoute) → Low (verdict rows_tables node now bound pdu route)
  verdict_low node now bound pdu route =
      let onward : Verdict = by_aim rows_tables node now pdu.destination (aim_of node.setup route) in
      let in_time : Verdict = if nat_le pdu.lifetime bound then Discard reasons.LifetimeExpiredInTransit 4 else onward in
      let past : Verdict = if node.setup.end then Discard reasons.DestinationUnreachable 0 else in_time in
      if_low (is_own_system node.setup pdu.destination) (if nat_lt pdu.lifetime bound then Discard reasons.LifetimeExpiredInTransit 4 else for_this node.setup pdu pdu.kind) past
      (if_low (nat_lt pdu.lifetime bound) (Discard reasons.LifetimeExpiredInTransit 4) (for_this node.setup pdu pdu.kind) (omega arith) (this_low node.setup pdu pdu.kind))
      (if_low node.setup.end (Discard reasons.DestinationUnreachable 0) in_time (omega arith)
      (if_low (nat_le pdu.lifetime bound) (Discard reasons.LifetimeExpiredInTransit 4) onward (omega arith) (aim_low node now pdu (aim_of node.setup route))))

  discards : (node new : Node Rows) (now : ℕ) (discarded : Discarded) (reaction : Reaction) → IsSystem node.setup.system → discarded.place < 2048 → new.setup ≡ node.setup
      → Discards rows_tables node now discarded reaction → NodeTold node reaction new
  discards node new now discarded reaction is low same h = record {
    ups = subst AreToldUps (sym h.told) ((refl, (is, (one_octet (code_of discarded.reason) (code_fits discarded.reason), (omega (arith, low), tt)))), tt);
    setup = same;
  }

  reason_told : (system : ℕ) (value : Option (List ℕ)) → IsSystem system → IfSome value AreOctets → IsToldUp {A = List ℕ} tags (told_reason system value)
  reason_told system None is h = (refl, (is, (one_octet 0 (omega arith), (omega arith, tt))))
  reason_told system (Some value) is h =
      let place = octet_at value 1 h in (refl, (is, (one_octet (slice_index value 0) (octet_at value 0 h), (omega (arith, place), tt))))

  module _ (node : Node Rows) (now : ℕ) (frame : Frame) (is : IsSystem node.setup.system) where
    none_came : (reaction : Reaction) (new : Node Rows) → reaction.ups ≡ [] → new.setup ≡ node.setup → NodeTold node reaction new
    none_came reaction new none same = record { ups = subst AreToldUps (sym none) tt; setup = same }

    unit_came : (reaction : Reaction) (new : Node Rows) (unit : Up (List ℕ)) → IsToldUp {A = List ℕ} tags unit → reaction.ups ≡ unit ∷ [] → new.setup ≡ node.setup → NodeTold node reaction new
    unit_came reaction new unit told one same = record { ups = subst AreToldUps (sym one) (told, tt); setup = same }

    joins_by : (pdu : Pdu) (answer : Joined) (reaction : Reaction) (new : Node Rows) → JoinGives rows_tables node now frame pdu answer reaction → new.setup ≡ node.setup → NodeTold node reaction new
    joins_by pdu joined.Interference reaction new h same = discards node new now (discarded_pdu frame pdu reasons.ReassemblyInterference 0) reaction is (omega arith) same h
    joins_by pdu joined.Full reaction new h same = discards node new now (discarded_pdu frame pdu reasons.Congestion 0) reaction is (omega arith) same h
    joins_by pdu (joined.Whole octets) reaction new h same = unit_came reaction new _ is h.0 same
    joins_by pdu joined.Held reaction new h same = none_came reaction new h.0 same

    onward_by : (pdu : Pdu) (hop : Hop) (reaction : Reaction) (new : Node Rows) → GoesOnward rows_tables node now frame pdu hop (discarded_pdu frame pdu reasons.SegmentationNeeded 0) reaction → new.setup ≡ node.setup
        → NodeTold node reaction new
    onward_by pdu hop reaction new (forwarding.Sent frames goes e) same = none_came reaction new (ap (λ (r : Reaction). r.ups) e) same
    onward_by pdu hop reaction new (forwarding.TooLong goes h) same = discards node new now (discarded_pdu frame pdu reasons.SegmentationNeeded 0) reaction is (omega arith) same h

    does : (pdu : Pdu) (v : Verdict) (reaction : Reaction) (new : Node Rows) → Low v → AllByRecursion FitsOption pdu.options → Does rows_tables node now frame pdu v reaction new → NodeTold node reaction new
    does pdu (Discard reason place) reaction new low fits h = discards node new now (discarded_pdu frame pdu reason place) reaction is (omega (arith, low)) (setup_of new (at_tick now node) h.1) h.0
    does pdu Tell reaction new low fits h =
        note_by node new reaction (told_reason node.setup.system (value_of 0xc1 (parameters pdu.options))) (reason_told node.setup.system (value_of 0xc1 (parameters pdu.options)) is (value_octets 0xc1 pdu.options fits)) h.0
        (setup_of new (at_tick now node) h.1)
    does pdu Take reaction new low fits h = unit_came reaction new _ is h.0 (setup_of new (at_tick now node) h.2)
    does pdu Join reaction new low fits h = joins_by pdu h.answer reaction new h.gives (setup_of new (record node { clock = now; store = h.store }) h.after)
    does pdu (Onward hop) reaction new low fits h = onward_by pdu hop reaction new h.0 (setup_of new (at_tick now node) h.1)

    pub receives_told : (reaction : Reaction) (new : Node Rows) → IsFrame frame → Receives rows_tables node now frame reaction new → NodeTold node reaction new
    receives_told reaction new fits (Elsewhere there e after) = none_came reaction new (ap (λ (r : Reaction). r.ups) e) (setup_of new (at_tick now node) after)
    receives_told reaction new fits (Alien own there no_pdu no_hello e after) = note_by node new reaction (Noted (notes.Alien node.setup.system)) (refl, (is, tt)) e (setup_of new (at_tick now node) after)
    receives_told reaction new fits (Faulty own fault there first why h after) =
        discards node new now (discarded_octets frame fault) reaction is (pdu_fault_low frame.octets fault fits.octets why) (setup_of new (at_tick now node) after) h
    receives_told reaction new fits (Reads own pdu route there has way h) =
        does pdu (verdict rows_tables node now (bound_of node.setup frame.to.lan) pdu route) reaction new (verdict_low node now (bound_of node.setup frame.to.lan) pdu route) (front_fits frame.octets pdu fits.octets has).options h
    receives_told reaction new fits (BadHello own fault there first why e after) =
        note_by node new reaction (Noted (notes.BadHello node.setup.system (cause_of fault))) (refl, (is, (cause_plain (cause_of fault), tt))) e (setup_of new (at_tick now node) after)
    receives_told reaction new fits (HearsHello own heard rest there begins h) =
        hears node new now (sender frame.from frame.to) heard.hello reaction is fits.from (front_hello_fits frame.octets heard rest fits.octets begins) h

  -- ---- a tick

  expired_told : (system : ℕ) (list : List Expired) → IsSystem system → AreToldUps (map (expiry_note system) list)
  expired_told system [] is = tt
  expired_told system (expired ∷ list) is = ((refl, (is, (one_octet (code_of reasons.LifetimeExpiredInReassembly) (omega arith), (omega arith, tt)))), expired_told system list is)

  pub ticks_told : (node : Node Rows) (now : ℕ) (reaction : Reaction) (new : Node Rows) → IsSystem node.setup.system → NodeTicks rows_tables node now reaction new → NodeTold node reaction new
  ticks_told node now reaction new is t = record {
    ups = subst AreToldUps (sym t.told) (expired_told node.setup.system t.expired is);
    setup = ap (λ (n : Node Rows). n.setup) t.after;
  }
