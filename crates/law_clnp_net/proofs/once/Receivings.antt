-- A frame that comes has one outcome: its octets begin with one PDU or one hello at most, or have one fault, and the first octet tells
-- which.
use Rattle.std.proofs.Common.{◌≡◌, ℕ, Bool, true, false, List, ◌++◌, Option, Some, None, sym, ◌∙◌, ap, subst, arith}
use Rattle.std.specs.Prelude.{slice_index}
use Rattle.nsap.specs.declared.port.Port.{Port}
use Rattle.osi_base.specs.declared.unit.Up.TheVariants.{Note as Noted}
use Rattle.osi_base.specs.declared.note.Note.TheVariants as notes
use Rattle.osi_base.specs.declared.note.HelloKind.{HelloKind}
use Rattle.pdu_parts.specs.Front.{BeginsWith}
use Rattle.clnp_options.specs.SourceRoute.{SourceRoute}
use Rattle.clnp_options.specs.declared.reason.Fault.{Fault}
use Rattle.clnp_options.specs.declared.reason.Reason.TheVariants.{Congestion, ReassemblyInterference, SegmentationNeeded}
use Rattle.clnp_header.specs.declared.pdu.Pdu.{Pdu}
use Rattle.clnp_header.specs.declared.pdu.SegmentPart.{SegmentPart}
use Rattle.clnp_header.proofs.Answered.{apart, one_front}
use Rattle.clnp_segment.specs.Store.{Holding, Takes as TakesSegment}
use Rattle.clnp_segment.specs.declared.store.Joined.{Joined}
use Rattle.clnp_segment.specs.declared.store.Joined.TheVariants as joined
use Rattle.esis_pdu.specs.declared.fault.EsisFault.{EsisFault}
use Rattle.esis_pdu.specs.declared.hello.Hello.{Hello}
use Rattle.esis_pdu.specs.declared.hello.Hello.TheVariants.{Esh, Ish, Rd}
use Rattle.esis_pdu.specs.Hellos.{Esis, IsEsis}
use Rattle.esis_pdu.proofs.Grammar.{apart as hellos_apart, one_front as one_front_hello}
use Rattle.esis_tables.specs.Told.{Told, on_lan, told_of}
use Rattle.clnp_system.specs.declared.verdict.Verdict.{Verdict}
use Rattle.clnp_system.specs.declared.verdict.Verdict.TheVariants.{Discard, Tell, Take, Join, Onward}
use Rattle.clnp_system.specs.Hearing.{HeardBy, Hears, HeedsIf, RedirectedBy, cause_of, only_note}
use Rattle.clnp_system.specs.Hellos.{sender}
use Rattle.clnp_system.specs.Node.{Frame, Node, Reaction}
use Rattle.clnp_system.specs.Receiving.{Alien, BadHello, Does, Elsewhere, Faulty, HearsHello, JoinGives, Joins, Reads, Receives, coming}
use Rattle.clnp_system.specs.Reporting.{Discards, discarded_octets, discarded_pdu}
use Rattle.clnp_system.specs.Setting.{bound_of, port_on}
use Rattle.clnp_system.specs.Tables.{Tables}
use Rattle.clnp_system.specs.Verdicts.{verdict}
use Rattle.clnp_system.specs.SourceRouting.{IsRouteOf}
use Rattle.clnp_system.specs.Written.{HasPdu}
use Rattle.law_clnp_net.proofs.once.Frames.{one_group_answer}
use Rattle.clnp_segment.proofs.Lists.{same_some}
use Rattle.law_clnp_net.proofs.once.Options.{one_route_of}
use Rattle.law_clnp_net.proofs.once.Reports.{one_discard, one_going_onward, one_reaction}
use Rattle.clnp_segment.proofs.Determined.{one_answer}

-- ---- the first octet

pub pdu_first : (octets : List ℕ) (pdu : Pdu) → HasPdu octets pdu → slice_index octets 0 ≡ 0x81
pdu_first octets pdu has =
    let begins = has.1 in
    let header : begins.stands.header ++ pdu.body ≡ begins.front = sym begins.stands.whole in
    ap (λ (xs : List ℕ). slice_index xs 0) (begins.whole ∙ ap (λ (xs : List ℕ). xs ++ has.0) (begins.stands.whole ∙ ap (λ (xs : List ℕ). xs ++ pdu.body) begins.stands.parts))

pub hello_first : (octets : List ℕ) (heard : Esis) (rest : List ℕ) → BeginsWith IsEsis octets heard rest → slice_index octets 0 ≡ 0x82
hello_first octets heard rest begins =
    ap (λ (xs : List ℕ). slice_index xs 0) (begins.whole ∙ ap (λ (xs : List ℕ). xs ++ rest) begins.stands.written)

two_octets : (octet : ℕ) → octet ≡ 0x81 → octet ≡ 0x82 → ⊥
two_octets octet a b = omega (arith, a, b)

no_port : (port : Option Port) (own : Port) → port ≡ None → port ≡ Some own → ⊥
no_port port own a b = absurd cc

-- ---- hellos

one_heard : {N : Type 0} (old : Node N) (now : ℕ) (kind : HelloKind) (snpa : List ℕ) (table : Option N) (reaction other : Reaction) (new more : Node N)
    → HeardBy old now kind snpa table reaction new → HeardBy old now kind snpa table other more → (reaction ≡ other) × (new ≡ more)
one_heard old now kind snpa None reaction other new more a b = (a.0 ∙ sym b.0, a.1 ∙ sym b.1)
one_heard old now kind snpa (Some table) reaction other new more a b = (a.0 ∙ sym b.0, a.1 ∙ sym b.1)

one_redirected : {N : Type 0} (old : Node N) (now : ℕ) (address snpa : List ℕ) (table : Option N) (reaction other : Reaction) (new more : Node N)
    → RedirectedBy old now address snpa table reaction new → RedirectedBy old now address snpa table other more → (reaction ≡ other) × (new ≡ more)
one_redirected old now address snpa None reaction other new more a b = (a.0 ∙ sym b.0, a.1 ∙ sym b.1)
one_redirected old now address snpa (Some table) reaction other new more a b = (a.0 ∙ sym b.0, a.1 ∙ sym b.1)

one_heeding : {N : Type 0} (end : Bool) (tables : Tables N) (old : Node N) (now : ℕ) (from : Port) (heard : Told) (address snpa : List ℕ) (reaction other : Reaction) (new more : Node N)
    → HeedsIf end tables old now from heard address snpa reaction new → HeedsIf end tables old now from heard address snpa other more → (reaction ≡ other) × (new ≡ more)
one_heeding true tables old now from heard address snpa reaction other new more a b =
    one_redirected old now address snpa (tables.hear old.redirects heard) reaction other new more a b
one_heeding false tables old now from heard address snpa reaction other new more a b = (a.0 ∙ sym b.0, a.1 ∙ sym b.1)

one_hearing : {N : Type 0} (tables : Tables N) (old : Node N) (now : ℕ) (from : Port) (hello : Hello) (reaction other : Reaction) (new more : Node N)
    → Hears tables old now from hello reaction new → Hears tables old now from hello other more → (reaction ≡ other) × (new ≡ more)
one_hearing tables old now from (Esh hold addresses) reaction other new more a b =
    one_heard old now _ from.snpa (tables.hear old.neighbours (told_of now from (Esh hold addresses))) reaction other new more a b
one_hearing tables old now from (Ish hold title) reaction other new more a b =
    one_heard old now _ from.snpa (tables.hear old.neighbours (told_of now from (Ish hold title))) reaction other new more a b
one_hearing tables old now from (Rd hold address snpa title) reaction other new more a b =
    one_heeding old.setup.end tables old now from (told_of now (on_lan from.lan) (Rd hold address snpa title)) address snpa reaction other new more a b

-- ---- a verdict

one_join_gift : {N : Type 0} (tables : Tables N) (node : Node N) (now : ℕ) (frame : Frame) (pdu : Pdu) (answer : Joined) (reaction other : Reaction)
    → JoinGives tables node now frame pdu answer reaction → JoinGives tables node now frame pdu answer other → reaction ≡ other
one_join_gift tables node now frame pdu joined.Interference reaction other a b =
    one_discard tables node now (discarded_pdu frame pdu ReassemblyInterference 0) reaction other a b
one_join_gift tables node now frame pdu joined.Full reaction other a b = one_discard tables node now (discarded_pdu frame pdu Congestion 0) reaction other a b
one_join_gift tables node now frame pdu (joined.Whole octets) reaction other a b =
    one_reaction reaction other (a.0 ∙ sym b.0) (one_group_answer node.setup frame.from frame.to reaction.frames other.frames a.1 b.1)
one_join_gift tables node now frame pdu joined.Held reaction other a b =
    one_reaction reaction other (a.0 ∙ sym b.0) (one_group_answer node.setup frame.from frame.to reaction.frames other.frames a.1 b.1)

one_joining : {N : Type 0} (tables : Tables N) (old : Node N) (now : ℕ) (frame : Frame) (pdu : Pdu) (reaction other : Reaction) (new more : Node N)
    → Joins tables old now frame pdu reaction new → Joins tables old now frame pdu other more → (reaction ≡ other) × (new ≡ more)
one_joining {N} tables old now frame pdu reaction other new more a b =
    let parts : a.part ≡ b.part = same_some a.part b.part (sym a.is ∙ b.is) in
    let bound = bound_of old.setup frame.to.lan in
    let takes = subst (λ (part : SegmentPart). TakesSegment old.store now (coming frame bound pdu part) a.answer a.store) parts a.takes in
    let one = one_answer old.store now (coming frame bound pdu b.part) a.answer b.answer a.store b.store takes b.takes in
    let gives = subst (λ (answer : Joined). JoinGives tables old now frame pdu answer reaction) one.0 a.gives in
    let stores : new ≡ more = a.after ∙ ap (λ (store : Holding). let node : Node N = record old { clock = now; store = store } in node) one.1 ∙ sym b.after in
    (one_join_gift tables old now frame pdu b.answer reaction other gives b.gives, stores)

pub one_deed : {N : Type 0} (tables : Tables N) (old : Node N) (now : ℕ) (frame : Frame) (pdu : Pdu) (said : Verdict) (reaction other : Reaction) (new more : Node N)
    → Does tables old now frame pdu said reaction new → Does tables old now frame pdu said other more → (reaction ≡ other) × (new ≡ more)
one_deed tables old now frame pdu (Discard reason place) reaction other new more a b =
    (one_discard tables old now (discarded_pdu frame pdu reason place) reaction other a.0 b.0, a.1 ∙ sym b.1)
one_deed tables old now frame pdu Tell reaction other new more a b = (a.0 ∙ sym b.0, a.1 ∙ sym b.1)
one_deed tables old now frame pdu Take reaction other new more a b =
    (one_reaction reaction other (a.0 ∙ sym b.0) (one_group_answer old.setup frame.from frame.to reaction.frames other.frames a.1 b.1), a.2 ∙ sym b.2)
one_deed tables old now frame pdu Join reaction other new more a b = one_joining tables old now frame pdu reaction other new more a b
one_deed tables old now frame pdu (Onward hop) reaction other new more a b =
    (one_going_onward tables old now frame pdu hop (discarded_pdu frame pdu SegmentationNeeded 0) reaction other a.0 b.0, a.1 ∙ sym b.1)

-- ---- a frame

pub one_receiving : {N : Type 0} (tables : Tables N) (old : Node N) (now : ℕ) (frame : Frame) (reaction other : Reaction) (new more : Node N)
    → Receives tables old now frame reaction new → Receives tables old now frame other more → (reaction ≡ other) × (new ≡ more)
one_receiving tables old now frame reaction other new more (Elsewhere none reaction_is new_is) (Elsewhere absent other_is more_is) = (reaction_is ∙ sym other_is, new_is ∙ sym more_is)
one_receiving tables old now frame reaction other new more (Elsewhere none reaction_is new_is) (Alien second here not_pdu not_hello other_is more_is) =
    absurd (no_port (port_on old.setup frame.to.lan) second none here)
one_receiving tables old now frame reaction other new more (Elsewhere none reaction_is new_is) (Faulty second wrong here octet failed discarded more_is) =
    absurd (no_port (port_on old.setup frame.to.lan) second none here)
one_receiving tables old now frame reaction other new more (Elsewhere none reaction_is new_is) (Reads second found way here found_there is_way did) =
    absurd (no_port (port_on old.setup frame.to.lan) second none here)
one_receiving tables old now frame reaction other new more (Elsewhere none reaction_is new_is) (BadHello second wrong here octet failed other_is more_is) =
    absurd (no_port (port_on old.setup frame.to.lan) second none here)
one_receiving tables old now frame reaction other new more (Elsewhere none reaction_is new_is) (HearsHello second told left here told_there heard_it) =
    absurd (no_port (port_on old.setup frame.to.lan) second none here)
one_receiving tables old now frame reaction other new more (Alien own there no_pdu no_hello reaction_is new_is) (Elsewhere absent other_is more_is) =
    absurd (no_port (port_on old.setup frame.to.lan) own absent there)
one_receiving tables old now frame reaction other new more (Alien own there no_pdu no_hello reaction_is new_is) (Alien second here not_pdu not_hello other_is more_is) = (reaction_is ∙ sym other_is, new_is ∙ sym more_is)
one_receiving tables old now frame reaction other new more (Alien own there no_pdu no_hello reaction_is new_is) (Faulty second wrong here octet failed discarded more_is) =
    absurd (no_pdu octet)
one_receiving tables old now frame reaction other new more (Alien own there no_pdu no_hello reaction_is new_is) (Reads second found way here found_there is_way did) =
    absurd (no_pdu (pdu_first frame.octets found found_there))
one_receiving tables old now frame reaction other new more (Alien own there no_pdu no_hello reaction_is new_is) (BadHello second wrong here octet failed other_is more_is) =
    absurd (no_hello octet)
one_receiving tables old now frame reaction other new more (Alien own there no_pdu no_hello reaction_is new_is) (HearsHello second told left here told_there heard_it) =
    absurd (no_hello (hello_first frame.octets told left told_there))
one_receiving tables old now frame reaction other new more (Faulty own fault there first fails discards new_is) (Elsewhere absent other_is more_is) =
    absurd (no_port (port_on old.setup frame.to.lan) own absent there)
one_receiving tables old now frame reaction other new more (Faulty own fault there first fails discards new_is) (Alien second here not_pdu not_hello other_is more_is) =
    absurd (not_pdu first)
one_receiving tables old now frame reaction other new more (Faulty own fault there first fails discards new_is) (Faulty second wrong here octet failed discarded more_is) =
    let same = same_some fault wrong (sym fails ∙ failed) in
    let said = subst (λ (x : Fault). Discards tables old now (discarded_octets frame x) reaction) same discards in
    (one_discard tables old now (discarded_octets frame wrong) reaction other said discarded, new_is ∙ sym more_is)
one_receiving tables old now frame reaction other new more (Faulty own fault there first fails discards new_is) (Reads second found way here found_there is_way did) =
    absurd (apart frame.octets found_there.0 found fault found_there.1 fails)
one_receiving tables old now frame reaction other new more (Faulty own fault there first fails discards new_is) (BadHello second wrong here octet failed other_is more_is) =
    absurd (two_octets (slice_index frame.octets 0) first octet)
one_receiving tables old now frame reaction other new more (Faulty own fault there first fails discards new_is) (HearsHello second told left here told_there heard_it) =
    absurd (two_octets (slice_index frame.octets 0) first (hello_first frame.octets told left told_there))
one_receiving tables old now frame reaction other new more (Reads own pdu route there stands is_route does) (Elsewhere absent other_is more_is) =
    absurd (no_port (port_on old.setup frame.to.lan) own absent there)
one_receiving tables old now frame reaction other new more (Reads own pdu route there stands is_route does) (Alien second here not_pdu not_hello other_is more_is) =
    absurd (not_pdu (pdu_first frame.octets pdu stands))
one_receiving tables old now frame reaction other new more (Reads own pdu route there stands is_route does) (Faulty second wrong here octet failed discarded more_is) =
    absurd (apart frame.octets stands.0 pdu wrong stands.1 failed)
one_receiving tables old now frame reaction other new more (Reads own pdu route there stands is_route does) (Reads second found way here found_there is_way did) =
    let same : pdu ≡ found = (one_front frame.octets pdu found stands.0 found_there.0 stands.1 found_there.1).0 in
    let routed : IsRouteOf found route = subst (λ (x : Pdu). IsRouteOf x route) same is_route in
    let routes : route ≡ way = one_route_of found route way routed is_way in
    let P : Pdu → Option SourceRoute → Type 0 = λ x r. Does tables old now frame x (verdict tables old now (bound_of old.setup frame.to.lan) x r) reaction new in
    let done : P found way = subst (λ (r : Option SourceRoute). P found r) routes (subst (λ (x : Pdu). P x route) same does) in
    one_deed tables old now frame found (verdict tables old now (bound_of old.setup frame.to.lan) found way) reaction other new more done did
one_receiving tables old now frame reaction other new more (Reads own pdu route there stands is_route does) (BadHello second wrong here octet failed other_is more_is) =
    absurd (two_octets (slice_index frame.octets 0) (pdu_first frame.octets pdu stands) octet)
one_receiving tables old now frame reaction other new more (Reads own pdu route there stands is_route does) (HearsHello second told left here told_there heard_it) =
    absurd (two_octets (slice_index frame.octets 0) (pdu_first frame.octets pdu stands) (hello_first frame.octets told left told_there))
one_receiving tables old now frame reaction other new more (BadHello own fault there first fails reaction_is new_is) (Elsewhere absent other_is more_is) =
    absurd (no_port (port_on old.setup frame.to.lan) own absent there)
one_receiving tables old now frame reaction other new more (BadHello own fault there first fails reaction_is new_is) (Alien second here not_pdu not_hello other_is more_is) =
    absurd (not_hello first)
one_receiving tables old now frame reaction other new more (BadHello own fault there first fails reaction_is new_is) (Faulty second wrong here octet failed discarded more_is) =
    absurd (two_octets (slice_index frame.octets 0) octet first)
one_receiving tables old now frame reaction other new more (BadHello own fault there first fails reaction_is new_is) (Reads second found way here found_there is_way did) =
    absurd (two_octets (slice_index frame.octets 0) (pdu_first frame.octets found found_there) first)
one_receiving tables old now frame reaction other new more (BadHello own fault there first fails reaction_is new_is) (BadHello second wrong here octet failed other_is more_is) =
    let same = same_some fault wrong (sym fails ∙ failed) in
    let notes_are : only_note (Noted (notes.BadHello old.setup.system (cause_of fault))) ≡ only_note (Noted (notes.BadHello old.setup.system (cause_of wrong))) =
    ap (λ (x : EsisFault). only_note (Noted (notes.BadHello old.setup.system (cause_of x)))) same in
    (reaction_is ∙ notes_are ∙ sym other_is, new_is ∙ sym more_is)
one_receiving tables old now frame reaction other new more (BadHello own fault there first fails reaction_is new_is) (HearsHello second told left here told_there heard_it) =
    absurd (hellos_apart frame.octets left told fault told_there fails)
one_receiving tables old now frame reaction other new more (HearsHello own heard rest there stands hears) (Elsewhere absent other_is more_is) =
    absurd (no_port (port_on old.setup frame.to.lan) own absent there)
one_receiving tables old now frame reaction other new more (HearsHello own heard rest there stands hears) (Alien second here not_pdu not_hello other_is more_is) =
    absurd (not_hello (hello_first frame.octets heard rest stands))
one_receiving tables old now frame reaction other new more (HearsHello own heard rest there stands hears) (Faulty second wrong here octet failed discarded more_is) =
    absurd (two_octets (slice_index frame.octets 0) octet (hello_first frame.octets heard rest stands))
one_receiving tables old now frame reaction other new more (HearsHello own heard rest there stands hears) (Reads second found way here found_there is_way did) =
    absurd (two_octets (slice_index frame.octets 0) (pdu_first frame.octets found found_there) (hello_first frame.octets heard rest stands))
one_receiving tables old now frame reaction other new more (HearsHello own heard rest there stands hears) (BadHello second wrong here octet failed other_is more_is) =
    absurd (hellos_apart frame.octets rest heard wrong stands failed)
one_receiving tables old now frame reaction other new more (HearsHello own heard rest there stands hears) (HearsHello second told left here told_there heard_it) =
    let same : heard ≡ told = (one_front_hello frame.octets heard told rest left stands told_there).0 in
    let hearing : Hears tables old now (sender frame.from frame.to) told.hello reaction new =
    subst (λ (x : Esis). Hears tables old now (sender frame.from frame.to) x.hello reaction new) same hears in
    one_hearing tables old now (sender frame.from frame.to) told.hello reaction other new more hearing heard_it
