-- One system by the hellos that it heard: it finds the same hops, for what its rows know is what the hellos make known; so it does the
-- same, and what it hears both know then.
use Rattle.std.proofs.Common.{◌≡◌, ℕ, ◌<◌, ◌≤◌, Bool, true, false, List, [], ◌∷◌, ◌++◌, Option, Some, None, Result, Err, refl, sym, ◌∙◌, ap, subst, arith}
use Rattle.std.specs.Prelude.{nat_eq, nat_le, nat_lt, not, ◌||◌, if◌then◌else◌, length}
use Rattle.std.specs.Cmp.Lexicographic.{pointwise, same_text, nat_list_cmp_total, nat_list_eq_equiv, slice_cmp}
use Rattle.std.specs.Ordering.{is_gt, nat_cmp, ordering_reverse}
use Rattle.std.specs.declared.cmp.Ordering.{Ordering}
use Rattle.std.specs.declared.cmp.Ordering.TheVariants.{Greater}
use Rattle.std.proofs.lemmas.Bool.{or_parts}
use Rattle.std.proofs.lemmas.Bool.Decides.{nat_tests}
use Rattle.std.proofs.lemmas.Cmp.{tied_itself}
use Rattle.nsap.specs.declared.port.Hop.{Hop}
use Rattle.nsap.specs.declared.port.Port.{Port}
use Rattle.osi_base.specs.declared.note.HelloKind.{HelloKind}
use Rattle.osi_base.specs.declared.note.HelloKind.TheVariants as kinds
use Rattle.osi_base.specs.declared.unit.DropCause.{DropCause}
use Rattle.osi_base.specs.declared.unit.DropCause.TheVariants as causes
use Rattle.osi_base.specs.declared.unit.Unit.{Unit as CarriedUnit}
use Rattle.osi_base.specs.declared.unit.Wish.{Wish}
use Rattle.pdu_parts.specs.FirstFault.{or_else}
use Rattle.clnp_options.specs.SourceRoute.{SourceRoute}
use Rattle.clnp_options.specs.declared.reason.Reason.TheVariants.{Congestion, DestinationUnreachable, LifetimeExpiredInTransit, ReassemblyInterference, SegmentationNeeded}
use Rattle.clnp_header.specs.declared.pdu.Pdu.{Pdu}
use Rattle.clnp_route.specs.Routes.{next_hop}
use Rattle.clnp_segment.specs.declared.store.Expired.{Expired}
use Rattle.clnp_segment.specs.declared.store.Joined.{Joined}
use Rattle.clnp_segment.specs.declared.store.Joined.TheVariants as joined
use Rattle.esis_pdu.specs.declared.hello.Hello.{Hello}
use Rattle.esis_pdu.specs.declared.hello.Hello.TheVariants.{Esh, Ish, Rd}
use Rattle.esis_tables.specs.Told.{IsKnownRouter, IsRouter, Told, is_among, is_upto, known_hop, known_of, latest, on_lan, or_this, told_of}
use Rattle.esis_tables.specs.Rows.{Rows, find_row, heard_table, no_rows, router_in, swept_table}
use Rattle.esis_tables.specs.Room.{count_with}
use Rattle.esis_tables.specs.Swept.{names_in}
use Rattle.esis_tables.proofs.Names.{is_among-append}
use Rattle.esis_tables.proofs.Standing.{same_routers}
use Rattle.esis_tables.proofs.Swept.{count_is_told, finds_what_is_told, stays_swept, stays_table}
use Rattle.esis_tables.proofs.Routers.{upto_upto}
use Rattle.clnp_system.specs.declared.source_routing.Aim.{Aim}
use Rattle.clnp_system.specs.declared.source_routing.Aim.TheVariants.{Free, Entry, Forbidden}
use Rattle.clnp_system.specs.declared.setup.Path.{Path}
use Rattle.clnp_system.specs.declared.verdict.Verdict.{Verdict}
use Rattle.clnp_system.specs.declared.verdict.Verdict.TheVariants.{Discard, Tell, Take, Join, Onward}
use Rattle.clnp_system.specs.Forwarding.{GoesOnward, Sent, TooLong}
use Rattle.clnp_system.specs.Hearing.{HeardBy, Hears, HeedsIf, RedirectedBy}
use Rattle.clnp_system.specs.Hops.{found_hop, group_hop, hop_of, hop_to, is_alone}
use Rattle.clnp_system.specs.Node.{Frame, Node, Reaction, at_tick}
use Rattle.clnp_system.specs.Receiving.{Alien, BadHello, Does, Elsewhere, Faulty, HearsHello, JoinGives, Reads, Receives}
use Rattle.clnp_system.specs.Reporting.{Discarded, Discards, GoesBy, ReportsIf, discarded_octets, discarded_pdu, report_pdu}
use Rattle.clnp_system.specs.Sending.{IsDropped, IsSent, Sends, by_hop, first_hop, hop_by, numbered_if, sending, way}
use Rattle.clnp_system.specs.Setting.{bound_of, is_own_system, path_of}
use Rattle.clnp_system.specs.Tables.{heard_rows, rows_tables}
use Rattle.clnp_system.specs.Ticking.{NodeTicks, ReportsEach, discarded_unit}
use Rattle.clnp_system.specs.Verdicts.{by_aim, for_this, is_titled, to_destination, to_entry, verdict}
use Rattle.clnp_system.specs.SourceRouting.{aim_of}
use Rattle.law_clnp_net.specs.Hellos.{IsByHellos, StandFor, by_hellos, heard_hellos, hello_tables, hop_by_title, is_router_title, known_router, least_title, lesser, tells_title}
use Rattle.law_clnp_net.specs.Laws.{RouterIsTold}

-- ---- the router of least title

clash : {b : Bool} → b ≡ true → b ≡ false → ⊥
clash h k = let e : true ≡ false = sym h ∙ k in absurd cc

upto_itself : (title : List ℕ) → is_upto title title ≡ true
upto_itself title = ap (λ (o : Ordering). not (is_gt o)) (tied_itself nat_list_cmp_total title)

turned : (o : Ordering) → not (is_gt o) ≡ false → not (is_gt (ordering_reverse o)) ≡ true
turned Greater is = refl
turned other is = absurd cc

other_upto : (first second : List ℕ) → is_upto first second ≡ false → is_upto second first ≡ true
other_upto first second is = ap (λ (o : Ordering). not (is_gt o)) (nat_list_cmp_total.antisymm second first) ∙ turned (slice_cmp nat_cmp first second) is

module _ (hellos : List Told) (now : ℕ) where
  -- the title comes before all routers' titles among the names
  abbrev IsFirst : List ℕ → List (List ℕ) → Type 0
  IsFirst title names = (name : List ℕ) → is_among names name ≡ true → is_router_title hellos now name ≡ true → is_upto title name ≡ true

  abbrev IsLeast : List (List ℕ) → Option (List ℕ) → Type 0
  IsLeast names None = (name : List ℕ) → is_among names name ≡ true → is_router_title hellos now name ≡ true → ⊥
  IsLeast names (Some title) = (is_router_title hellos now title ≡ true) × IsFirst title names

  first_more : (title name : List ℕ) (names : List (List ℕ)) → is_upto title name ≡ true → IsFirst title names → IsFirst title (name ∷ names)
  first_more title name names upto_name h other there is = by (pointwise nat_eq name other) refl
    where
      by : (b : Bool) → pointwise nat_eq name other ≡ b → is_upto title other ≡ true
      by true same = subst (λ (x : List ℕ). is_upto title x ≡ true) (same_text name other (sym same)) upto_name
      by false not_same = h other (sym (ap (λ (b : Bool). b || is_among names other) not_same) ∙ there) is

  more_least : (name : List ℕ) (names : List (List ℕ)) (found : Option (List ℕ)) → is_router_title hellos now name ≡ true → IsLeast names found
      → IsLeast (name ∷ names) (Some (lesser name found))
  more_least name names None is h = (is, first_more name name names (upto_itself name) (λ other there also. absurd (h other there also)))
  more_least name names (Some title) is h = by (is_upto name title) refl
    where
      by : (b : Bool) → is_upto name title ≡ b → IsLeast (name ∷ names) (Some (if b then name else title))
      by true before = (is, first_more name name names (upto_itself name) (λ other there also. upto_upto name title other before (h.1 other there also)))
      by false behind = (h.0, first_more title name names (other_upto name title behind) h.1)

  no_more : (name : List ℕ) (names : List (List ℕ)) (found : Option (List ℕ)) → is_router_title hellos now name ≡ false → IsLeast names found → IsLeast (name ∷ names) found
  no_more name names None none h = λ other there is. by other there is (pointwise nat_eq name other) refl
    where
      by : (other : List ℕ) → is_among (name ∷ names) other ≡ true → is_router_title hellos now other ≡ true → (b : Bool) → pointwise nat_eq name other ≡ b → ⊥
      by other there is true same = clash is (subst (λ (x : List ℕ). is_router_title hellos now x ≡ false) (same_text name other (sym same)) none)
      by other there is false not_same = h other (sym (ap (λ (b : Bool). b || is_among names other) not_same) ∙ there) is
  no_more name names (Some title) none h = (h.0, λ other there is. by other there is (pointwise nat_eq name other) refl)
    where
      by : (other : List ℕ) → is_among (name ∷ names) other ≡ true → is_router_title hellos now other ≡ true → (b : Bool) → pointwise nat_eq name other ≡ b
          → is_upto title other ≡ true
      by other there is true same = absurd (clash is (subst (λ (x : List ℕ). is_router_title hellos now x ≡ false) (same_text name other (sym same)) none))
      by other there is false not_same = h.1 other (sym (ap (λ (b : Bool). b || is_among names other) not_same) ∙ there) is

  least_is : (names : List (List ℕ)) → IsLeast names (least_title hellos now names)
  least_is [] = λ name there is. absurd (clash there refl)
  least_is (name ∷ names) = by (is_router_title hellos now name) refl (least_is names)
    where
      by : (b : Bool) → is_router_title hellos now name ≡ b → IsLeast names (least_title hellos now names)
          → IsLeast (name ∷ names) (if b then Some (lesser name (least_title hellos now names)) else least_title hellos now names)
      by true is h = more_least name names (least_title hellos now names) is h
      by false none h = no_more name names (least_title hellos now names) none h

named_there : (hellos : List Told) (address : List ℕ) → is_among (names_in hellos) address ≡ false → latest hellos address ≡ None
named_there [] address none = refl
named_there (x ∷ hellos) address none =
    let parts : (is_among x.names address ≡ false) × (is_among (names_in hellos) address ≡ false) =
    or_parts (is_among x.names address) (is_among (names_in hellos) address) (sym (is_among-append x.names (names_in hellos) address) ∙ none) in
    ap (λ (found : Option Told). or_this found x address) (named_there hellos address parts.1) ∙ ap (λ (b : Bool). if b then Some x else None) parts.0

titled : (found : Option (List ℕ)) (title : List ℕ) → is_titled found title ≡ true → found ≡ Some title
titled None title is = absurd (clash is refl)
titled (Some other) title is = ap Some (same_text other title (sym is))

titled_back : (title : List ℕ) → is_titled (Some title) title ≡ true
titled_back title = nat_list_eq_equiv.refl title

record Router (hellos : List Told) (now : ℕ) (title : List ℕ) (found : Option Hop) : Type 0 where
  pub hop : Hop
  pub is : found ≡ Some hop
  pub known : IsKnownRouter hellos now title hop

router_told : (hellos : List Told) (now : ℕ) (title : List ℕ) (found : Option Hop) → known_hop hellos now title ≡ found → tells_title found title ≡ true
    → Router hellos now title found
router_told hellos now title None at is = absurd (clash is refl)
router_told hellos now title (Some hop) at is = record { hop = hop; is = refl; known = (at, titled hop.title title is) }

known_named : (hellos : List Told) (now : ℕ) (title : List ℕ) (hop : Hop) → known_hop hellos now title ≡ Some hop → is_among (names_in hellos) title ≡ true
known_named hellos now title hop is = by (is_among (names_in hellos) title) refl
  where
    by : (b : Bool) → is_among (names_in hellos) title ≡ b → b ≡ true
    by true there = refl
    by false none = let e : None ≡ Some hop = sym (ap (known_of now) (named_there hellos title none)) ∙ is in absurd cc

router_title : (hellos : List Told) (now : ℕ) (title : List ℕ) (hop : Hop) → IsKnownRouter hellos now title hop → is_router_title hellos now title ≡ true
router_title hellos now title hop h =
    ap (λ (found : Option Hop). tells_title found title) h.0 ∙ ap (λ (found : Option (List ℕ)). is_titled found title) h.1 ∙ titled_back title

pub router_is_told : RouterIsTold
router_is_told hellos now = by (least_title hellos now (names_in hellos)) (least_is hellos now (names_in hellos))
  where
    by : (found : Option (List ℕ)) → IsLeast hellos now (names_in hellos) found → IsRouter hellos now (hop_by_title hellos now found)
    by None h = λ title hop is. h title (known_named hellos now title hop is.0) (router_title hellos now title hop is)
    by (Some title) h =
        let told = router_told hellos now title (known_hop hellos now title) refl h.0 in
        subst (IsRouter hellos now) (sym told.is)
        (title, told.known, λ other another is. h.1 other (known_named hellos now other another is.0) (router_title hellos now other another is))

-- ---- rows that stand for hellos

finds : (now : ℕ) (rows : Rows) (hellos : List Told) → StandFor now rows hellos → (address : List ℕ) → find_row rows.rows now address ≡ known_hop hellos now address
finds now rows hellos h address = (finds_what_is_told rows hellos now now (omega arith) h.is_table h.swept.stands).0 address

routes : (now : ℕ) (rows : Rows) (hellos : List Told) → StandFor now rows hellos → router_in rows.rows now ≡ known_router hellos now
routes now rows hellos h = same_routers hellos now (router_in rows.rows now) (known_router hellos now)
    (finds_what_is_told rows hellos now now (omega arith) h.is_table h.swept.stands).1 (router_is_told hellos now)

-- both are full, or both heard
abbrev BothHeard : ℕ → Option Rows → Option (List Told) → Type 0
BothHeard now None None = Unit {0}
BothHeard now None (Some hellos) = ⊥
BothHeard now (Some rows) None = ⊥
BothHeard now (Some rows) (Some hellos) = StandFor now rows hellos

within : (n : ℕ) → nat_lt 256 n ≡ false → n ≤ 256
within n is = grind (arith, nat_tests)

both_hear : (rows : Rows) (hellos : List Told) (told : Told) → StandFor told.tick rows hellos → BothHeard told.tick (heard_rows rows told) (heard_hellos hellos told)
both_hear rows hellos told h =
    subst (λ (n : ℕ). BothHeard told.tick (heard_rows rows told) (if nat_lt 256 n then None else Some (hellos ++ told ∷ [])))
    (count_is_told rows hellos told.tick told h.is_table h.swept) (by (nat_lt 256 (count_with rows.rows told)) refl)
  where
    by : (b : Bool) → nat_lt 256 (count_with rows.rows told) ≡ b
        → BothHeard told.tick (if b then None else Some (heard_table rows told)) (if b then None else Some (hellos ++ told ∷ []))
    by true full = tt
    by false room = record {
      is_table = stays_table.heard rows told h.is_table (within (count_with rows.rows told) room);
      swept = stays_swept.heard rows hellos told h.swept;
    }

pub sweeps : (since now : ℕ) (rows : Rows) (hellos : List Told) → since < now → StandFor since rows hellos → StandFor now (swept_table rows now) hellos
sweeps since now rows hellos later h =
    record { is_table = stays_table.ticked rows now h.is_table; swept = stays_swept.ticked rows hellos since now later h.swept }

pub none_sweeps : (now : ℕ) → StandFor now (swept_table no_rows now) []
none_sweeps now = record { is_table = record { distinct = tt; few = omega arith }; swept = stays_swept.none now }

-- ---- one system

module _ (node : Node Rows) (neighbours redirects : List Told) (now : ℕ) (by_neighbours : StandFor now node.neighbours neighbours)
    (by_redirects : StandFor now node.redirects redirects)
  where
    abbrev other : Node (List Told)
    other = by_hellos node neighbours redirects

    abbrev keep : Node Rows → Node (List Told)
    keep new = by_hellos new neighbours redirects

    kept : (new : Node Rows) → new.neighbours ≡ node.neighbours → new.redirects ≡ node.redirects → IsByHellos now new (by_hellos new neighbours redirects)
    kept new neighbours_are redirects_are = record {
      neighbours = neighbours;
      redirects = redirects;
      same = refl;
      by_neighbours = subst (λ (rows : Rows). StandFor now rows neighbours) (sym neighbours_are) by_neighbours;
      by_redirects = subst (λ (rows : Rows). StandFor now rows redirects) (sym redirects_are) by_redirects;
    }

    -- the same hops
    found_same : (address : List ℕ) → found_hop rows_tables node now address ≡ found_hop hello_tables other now address
    found_same address = λ i.
        if node.setup.end
        then or_else (finds now node.redirects redirects by_redirects address i) (or_else (finds now node.neighbours neighbours by_neighbours address i)
        (or_else (next_hop node.setup.rows address) (routes now node.neighbours neighbours by_neighbours i)))
        else or_else (finds now node.neighbours neighbours by_neighbours address i) (next_hop node.setup.rows address)

    to_same : (address : List ℕ) → hop_to rows_tables node now address ≡ hop_to hello_tables other now address
    to_same address = ap (λ (hop : Option Hop). if is_alone node.setup || is_own_system node.setup address then None else hop) (found_same address)

    of_same : (address : List ℕ) → hop_of rows_tables node now address ≡ hop_of hello_tables other now address
    of_same address = ap (λ (hop : Option Hop). if is_alone node.setup || is_own_system node.setup address then None
        else or_else hop (if node.setup.end then group_hop node.setup.ports else None)) (found_same address)

    -- ---- a unit is sent
    first_same : (titles : List (List ℕ)) → first_hop rows_tables node now titles ≡ first_hop hello_tables other now titles
    first_same [] = refl
    first_same (title ∷ titles) = to_same title

    hop_by_same : (address : List ℕ) (path : Option Path) → hop_by rows_tables node now address path ≡ hop_by hello_tables other now address path
    hop_by_same address None = of_same address
    hop_by_same address (Some path) = first_same path.titles

    way_same : (address : List ℕ) (path : ℕ) → way rows_tables node now address path ≡ way hello_tables other now address path
    way_same address path = ap (λ (hop : Option Hop). if is_own_system node.setup address then None else hop) (hop_by_same address (path_of node.setup path))

    by_hop_same : (unit : CarriedUnit (List ℕ)) (wish : Wish) (hop : Option Hop) → by_hop node now unit wish hop ≡ by_hop other now unit wish hop
    by_hop_same unit wish None = refl
    by_hop_same unit wish (Some hop) = refl

    sending_same : (unit : CarriedUnit (List ℕ)) (wish : Wish) → sending rows_tables node now unit wish ≡ sending hello_tables other now unit wish
    sending_same unit wish = ap (λ (sent : Result Hop DropCause). if nat_lt 16384 (length unit.octets) then Err causes.TooLong else sent)
        (ap (by_hop node now unit wish) (way_same unit.to wish.path) ∙ by_hop_same unit wish (way hello_tables other now unit.to wish.path))

    numbered_same : (cut : Bool) → keep (numbered_if cut (at_tick now node) now) ≡ numbered_if cut (at_tick now other) now
    numbered_same true = refl
    numbered_same false = refl

    numbered_keeps : (cut : Bool) → ((numbered_if cut (at_tick now node) now).neighbours ≡ node.neighbours) × ((numbered_if cut (at_tick now node) now).redirects ≡ node.redirects)
    numbered_keeps true = (refl, refl)
    numbered_keeps false = (refl, refl)

    pub sends_same : (unit : CarriedUnit (List ℕ)) (wish : Wish) (sent : Result (List Frame) DropCause) (new : Node Rows)
        → Sends rows_tables node now unit wish sent new → Sends hello_tables other now unit wish sent (keep new) × IsByHellos now new (keep new)
    sends_same unit wish sent new (IsDropped cause by is after) = (
      IsDropped cause (sym (sending_same unit wish) ∙ by) is (ap keep after),
      kept new (ap (λ (n : Node Rows). n.neighbours) after) (ap (λ (n : Node Rows). n.redirects) after),
    )
    sends_same unit wish sent new (IsSent hop frames by cut is after) = (
      IsSent hop frames (sym (sending_same unit wish) ∙ by) cut is (ap keep after ∙ numbered_same wish.cut),
      kept new (ap (λ (n : Node Rows). n.neighbours) after ∙ (numbered_keeps wish.cut).0) (ap (λ (n : Node Rows). n.redirects) after ∙ (numbered_keeps wish.cut).1),
    )

    -- ---- a PDU is discarded
    reports_same : (wanted : Bool) (discarded : Discarded) (frames : List Frame) → ReportsIf wanted rows_tables node now discarded frames
        → ReportsIf wanted hello_tables other now discarded frames
    reports_same false discarded frames h = h
    reports_same true discarded frames h = subst (λ (hop : Option Hop). GoesBy node.setup hop (report_pdu node.setup discarded) frames) (of_same discarded.source) h

    reports_all : (expired : List Expired) (frames : List Frame) → ReportsEach rows_tables node now expired frames → ReportsEach hello_tables other now expired frames
    reports_all [] frames h = h
    reports_all (unit ∷ units) frames h =
        (h.0, h.1, reports_same (discarded_unit unit).report (discarded_unit unit) h.0 h.2, reports_all units h.1 h.3, h.4)

    discards_same : (discarded : Discarded) (reaction : Reaction) → Discards rows_tables node now discarded reaction → Discards hello_tables other now discarded reaction
    discards_same discarded reaction h = record { told = h.told; reports = reports_same discarded.report discarded reaction.frames h.reports }

    -- ---- a frame comes
    gives_same : (frame : Frame) (pdu : Pdu) (answer : Joined) (reaction : Reaction) → JoinGives rows_tables node now frame pdu answer reaction
        → JoinGives hello_tables other now frame pdu answer reaction
    gives_same frame pdu joined.Interference reaction h = discards_same (discarded_pdu frame pdu ReassemblyInterference 0) reaction h
    gives_same frame pdu joined.Full reaction h = discards_same (discarded_pdu frame pdu Congestion 0) reaction h
    gives_same frame pdu other reaction h = h

    onward_same : (frame : Frame) (pdu : Pdu) (hop : Hop) (discarded : Discarded) (reaction : Reaction) → GoesOnward rows_tables node now frame pdu hop discarded reaction
        → GoesOnward hello_tables other now frame pdu hop discarded reaction
    onward_same frame pdu hop discarded reaction (Sent frames forwards is) = Sent frames forwards is
    onward_same frame pdu hop discarded reaction (TooLong forwards discards) = TooLong forwards (discards_same discarded reaction discards)

    aim_same : (destination : List ℕ) (aim : Aim) → by_aim rows_tables node now destination aim ≡ by_aim hello_tables other now destination aim
    aim_same destination Free = ap to_destination (of_same destination)
    aim_same destination (Entry title complete) = ap (to_entry complete title) (to_same title)
    aim_same destination Forbidden = refl

    verdict_same : (bound : ℕ) (pdu : Pdu) (route : Option SourceRoute) → verdict rows_tables node now bound pdu route ≡ verdict hello_tables other now bound pdu route
    verdict_same bound pdu route = ap (λ (aimed : Verdict). if is_own_system node.setup pdu.destination
        then (if nat_lt pdu.lifetime bound then Discard LifetimeExpiredInTransit 4 else for_this node.setup pdu pdu.kind)
        else if node.setup.end then Discard DestinationUnreachable 0
        else if nat_le pdu.lifetime bound then Discard LifetimeExpiredInTransit 4
        else aimed) (aim_same pdu.destination (aim_of node.setup route))

    -- what comes of it, and the system after it
    abbrev Gives : (Node (List Told) → Type 0) → Node Rows → Type 0
    Gives Is new = (next : Node (List Told)) × Is next × IsByHellos now new next

    gives_tick : (Is : Node (List Told) → Type 0) (new : Node Rows) → new ≡ at_tick now node → (keep new ≡ at_tick now other → Is (keep new)) → Gives Is new
    gives_tick Is new after is = (keep new, is (ap keep after), kept new (ap (λ (n : Node Rows). n.neighbours) after) (ap (λ (n : Node Rows). n.redirects) after))

    does_same : (frame : Frame) (pdu : Pdu) (what : Verdict) (reaction : Reaction) (new : Node Rows) → Does rows_tables node now frame pdu what reaction new
        → Gives (Does hello_tables other now frame pdu what reaction) new
    does_same frame pdu (Discard reason place) reaction new h =
        gives_tick (Does hello_tables other now frame pdu (Discard reason place) reaction) new h.1 (λ after. (discards_same (discarded_pdu frame pdu reason place) reaction h.0, after))
    does_same frame pdu Tell reaction new h = gives_tick (Does hello_tables other now frame pdu Tell reaction) new h.1 (λ after. (h.0, after))
    does_same frame pdu Take reaction new h = gives_tick (Does hello_tables other now frame pdu Take reaction) new h.2 (λ after. (h.0, h.1, after))
    does_same frame pdu Join reaction new h = (
      keep new,
      record {
        part = h.part;
        is = h.is;
        answer = h.answer;
        store = h.store;
        takes = h.takes;
        gives = gives_same frame pdu h.answer reaction h.gives;
        after = ap keep h.after;
      },
      kept new (ap (λ (n : Node Rows). n.neighbours) h.after) (ap (λ (n : Node Rows). n.redirects) h.after),
    )
    does_same frame pdu (Onward hop) reaction new h =
        gives_tick (Does hello_tables other now frame pdu (Onward hop) reaction) new h.1
        (λ after. (onward_same frame pdu hop (discarded_pdu frame pdu SegmentationNeeded 0) reaction h.0, after))

    -- ---- a hello is heard
    heard_same : (kind : HelloKind) (snpa : List ℕ) (rows : Option Rows) (hellos : Option (List Told)) → BothHeard now rows hellos → (reaction : Reaction) (new : Node Rows)
        → HeardBy node now kind snpa rows reaction new → Gives (HeardBy other now kind snpa hellos reaction) new
    heard_same kind snpa None None both reaction new h = gives_tick (HeardBy other now kind snpa None reaction) new h.1 (λ after. (h.0, after))
    heard_same kind snpa None (Some hellos) both reaction new h = absurd both
    heard_same kind snpa (Some rows) None both reaction new h = absurd both
    heard_same kind snpa (Some rows) (Some hellos) both reaction new h = (
      by_hellos new hellos redirects,
      (h.0, ap (λ (n : Node Rows). by_hellos n hellos redirects) h.1),
      record {
        neighbours = hellos;
        redirects = redirects;
        same = refl;
        by_neighbours = subst (λ (table : Rows). StandFor now table hellos) (sym (ap (λ (n : Node Rows). n.neighbours) h.1)) both;
        by_redirects = subst (λ (table : Rows). StandFor now table redirects) (sym (ap (λ (n : Node Rows). n.redirects) h.1)) by_redirects;
      },
    )

    redirected_same : (address snpa : List ℕ) (rows : Option Rows) (hellos : Option (List Told)) → BothHeard now rows hellos → (reaction : Reaction) (new : Node Rows)
        → RedirectedBy node now address snpa rows reaction new → Gives (RedirectedBy other now address snpa hellos reaction) new
    redirected_same address snpa None None both reaction new h = gives_tick (RedirectedBy other now address snpa None reaction) new h.1 (λ after. (h.0, after))
    redirected_same address snpa None (Some hellos) both reaction new h = absurd both
    redirected_same address snpa (Some rows) None both reaction new h = absurd both
    redirected_same address snpa (Some rows) (Some hellos) both reaction new h = (
      by_hellos new neighbours hellos,
      (h.0, ap (λ (n : Node Rows). by_hellos n neighbours hellos) h.1),
      record {
        neighbours = neighbours;
        redirects = hellos;
        same = refl;
        by_neighbours = subst (λ (table : Rows). StandFor now table neighbours) (sym (ap (λ (n : Node Rows). n.neighbours) h.1)) by_neighbours;
        by_redirects = subst (λ (table : Rows). StandFor now table hellos) (sym (ap (λ (n : Node Rows). n.redirects) h.1)) both;
      },
    )

    heeds_same : (end : Bool) (from : Port) (told : Told) (address snpa : List ℕ) → BothHeard now (heard_rows node.redirects told) (heard_hellos redirects told)
        → (reaction : Reaction) (new : Node Rows) → HeedsIf end rows_tables node now from told address snpa reaction new
        → Gives (HeedsIf end hello_tables other now from told address snpa reaction) new
    heeds_same true from told address snpa both reaction new h =
        redirected_same address snpa (heard_rows node.redirects told) (heard_hellos redirects told) both reaction new h
    heeds_same false from told address snpa both reaction new h =
        gives_tick (HeedsIf false hello_tables other now from told address snpa reaction) new h.1 (λ after. (h.0, after))

    hears_same : (from : Port) (hello : Hello) (reaction : Reaction) (new : Node Rows) → Hears rows_tables node now from hello reaction new
        → Gives (Hears hello_tables other now from hello reaction) new
    hears_same from (Esh hold addresses) reaction new h =
        let told = told_of now from (Esh hold addresses) in
        heard_same kinds.Esh from.snpa (heard_rows node.neighbours told) (heard_hellos neighbours told) (both_hear node.neighbours neighbours told by_neighbours) reaction new h
    hears_same from (Ish hold title) reaction new h =
        let told = told_of now from (Ish hold title) in
        heard_same kinds.Ish from.snpa (heard_rows node.neighbours told) (heard_hellos neighbours told) (both_hear node.neighbours neighbours told by_neighbours) reaction new h
    hears_same from (Rd hold address snpa title) reaction new h =
        let told = told_of now (on_lan from.lan) (Rd hold address snpa title) in
        heeds_same node.setup.end from told address snpa (both_hear node.redirects redirects told by_redirects) reaction new h

    pub receives_same : (frame : Frame) (reaction : Reaction) (new : Node Rows) → Receives rows_tables node now frame reaction new
        → Gives (Receives hello_tables other now frame reaction) new
    receives_same frame reaction new (Elsewhere none is after) = gives_tick (Receives hello_tables other now frame reaction) new after (λ a. Elsewhere none is a)
    receives_same frame reaction new (Alien own at one two is after) = gives_tick (Receives hello_tables other now frame reaction) new after (λ a. Alien own at one two is a)
    receives_same frame reaction new (Faulty own fault at code is discards after) =
        gives_tick (Receives hello_tables other now frame reaction) new after (λ a. Faulty own fault at code is (discards_same (discarded_octets frame fault) reaction discards) a)
    receives_same frame reaction new (Reads own pdu route at has is does) =
        let what = verdict rows_tables node now (bound_of node.setup frame.to.lan) pdu route in
        let done = does_same frame pdu what reaction new does in (
          done.0,
          Reads own pdu route at has is (subst (λ (v : Verdict). Does hello_tables other now frame pdu v reaction done.0)
              (verdict_same (bound_of node.setup frame.to.lan) pdu route) done.1),
          done.2,
        )
    receives_same frame reaction new (BadHello own fault at code is told after) = gives_tick (Receives hello_tables other now frame reaction) new after (λ a. BadHello own fault at code is told a)
    receives_same frame reaction new (HearsHello own heard rest at begins hears) =
        let done = hears_same (record { lan = frame.to.lan; snpa = frame.from.snpa }) heard.hello reaction new hears in
        (done.0, HearsHello own heard rest at begins done.1, done.2)

-- a tick of a system, where its rows stand for the hellos once they are swept
pub ticks_same : (node : Node Rows) (neighbours redirects : List Told) (now : ℕ) → StandFor now (swept_table node.neighbours now) neighbours
    → StandFor now (swept_table node.redirects now) redirects → (reaction : Reaction) (new : Node Rows) → NodeTicks rows_tables node now reaction new
    → NodeTicks hello_tables (by_hellos node neighbours redirects) now reaction (by_hellos new neighbours redirects) × IsByHellos now new (by_hellos new neighbours redirects)
ticks_same node neighbours redirects now by_neighbours by_redirects reaction new t =
    let beside : StandFor now new.neighbours neighbours = subst (λ (rows : Rows). StandFor now rows neighbours) (sym (ap (λ (n : Node Rows). n.neighbours) t.after)) by_neighbours in
    let by_redirect : StandFor now new.redirects redirects = subst (λ (rows : Rows). StandFor now rows redirects) (sym (ap (λ (n : Node Rows). n.redirects) t.after)) by_redirects in (
      record {
        expired = t.expired;
        store = t.store;
        expires = t.expires;
        after = ap (λ (n : Node Rows). by_hellos n neighbours redirects) t.after;
        told = t.told;
        reports = t.reports;
        hellos = t.hellos;
        are_reports = reports_all new neighbours redirects now beside by_redirect t.expired t.reports t.are_reports;
        are_hellos = t.are_hellos;
        frames = t.frames;
      },
      record { neighbours = neighbours; redirects = redirects; same = refl; by_neighbours = beside; by_redirects = by_redirect },
    )
