-- What comes to an Opened end whose partner is Opened is no DR and no ER, no DT that makes a unit too large, and no ED where expedited data is not agreed, whatever was lost and reordered.
use Rattle.std.proofs.Common.{◌≡◌, ◌≢◌, inl, inr, ℕ, ◌+◌, ◌≤◌, ◌&&◌, Bool, true, false, List, [], ◌++◌, length, Option, Some, Contains, refl, sym, ◌∙◌, ap, subst, arith}
use Rattle.std.proofs.lemmas.Bool.{eqb-true}
use Rattle.osi_base.specs.Link.{Link}
use Rattle.tpdu.specs.Kinds.{has_number}
use Rattle.tpdu.specs.Values.{destination_of}
use Rattle.tpdu.specs.Writing.{kind_for}
use Rattle.tpdu.specs.declared.tpdu.Tpdu.{Tpdu as WireTpdu}
use Rattle.tpdu.specs.declared.tpdu.Tpdu.TheVariants as wires
use Rattle.tp4_number.specs.Formats.{block_of}
use Rattle.tp4_number.specs.Number.{ahead, wire}
use Rattle.tp4_number.specs.Receiver.{Inbox, arrived}
use Rattle.tp4_number.specs.declared.got.Got.TheVariants.{TooLarge}
use Rattle.tp4_number.specs.declared.piece.Piece.{Piece}
use Rattle.tp4_flow.specs.ReceivingHalf.{block_in}
use Rattle.tp4_flow.specs.declared.step.Sent.{Sent}
use Rattle.tp4_sending.specs.SendingHalf.{UrgentSender, no_urgent}
use Rattle.tp4_sending.specs.Kept.{urgent_base}
use Rattle.tp4_sending.specs.Pieces.{cut_at}
use Rattle.tp4_conn.specs.declared.states.InOpened.{InOpened}
use Rattle.tp4_conn.specs.declared.states.StateData.{StateData}
use Rattle.tp4_conn.specs.declared.states.StateData.TheVariants.{Opened}
use Rattle.tp4_conn.specs.declared.timers.Timers.{Timers}
use Rattle.tp4_conn.specs.End.{End, agreed_format}
use Rattle.tp4_conn.specs.Matching.{fits, is_match}
use Rattle.tp4_conn.specs.Opened.{is_expedited}
use Rattle.tp4_entity.specs.Entity.{Entity, end_at}
use Rattle.script_journal.specs.Lawful.{Marked, expediteds, normals, submitted}
use Rattle.script_journal.specs.Partner.{ArePartners}
use Rattle.script_journal.specs.declared.event.Event.{Event}
use Rattle.law_tp4_history.specs.Ends.{Body, Dr, Flow, Terms, Tpdu}
use Rattle.law_tp4_history.specs.History.{IsPartner}
use Rattle.law_tp4_history.specs.Line.{empty}
use Rattle.law_tp4_history.specs.Tracks.{IsNumbered as AreNumbered, IsRun, Noted, Track, Whole}
use Rattle.law_tp4_history.proofs.Lines.{Fine, fine_empty, fine_runs}
use Rattle.law_tp4_history.proofs.Meets.{Meets, Of_entity, Of_partner, meets, swap}
use Rattle.law_tp4_history.proofs.Sound.{one_partner}
use Rattle.law_tp4_history.proofs.Taken.{taken_noted}
use Rattle.law_tp4_history.proofs.Tracked.{numbered}
use Rattle.law_tp4_history.proofs.Written.{Kept}
use Rattle.law_tp4_history.specs.Lines.{IsReceivingAt, IsSendingAt}
use Rattle.law_tp4_history.specs.Moves.{IsPartedIn, times_of}
use Rattle.law_tp4_history.specs.Seen.{IsNumbered, seen}
use Rattle.tp4_world.specs.World.{World, entity_at, latest}
use Rattle.tp4_world.specs.declared.place.EndAt.{EndAt}
use Rattle.tp4_world.specs.declared.place.Placed.{Placed}
use Rattle.law_tp4_lawful.specs.Numbers.{IsOpenEnd}
use Rattle.law_tp4_lawful.specs.References.{halves_at}
use Rattle.law_tp4_lawful.proofs.FramesKnown.{keeps, number_at}
use Rattle.law_tp4_lawful.proofs.Known.{IsKnown, IsOffered, IsReadAs, IsThere as IsThereKnown}
use Rattle.law_tp4_lawful.proofs.MeetsOthers.{is as read_is, number, taken}
use Rattle.law_tp4_lawful.proofs.ReferencesHalves.{AreThere, are_there, own_in}
use Rattle.law_tp4_lawful.proofs.ReferencesMet.{IsMet}
use Rattle.law_tp4_lawful.proofs.Worlds.{Explains}
use Rattle.law_recovery_steps.specs.Fitting.{AllShort}
use Rattle.law_recovery_steps.specs.Going.{IsWrong}
use Rattle.law_recovery_steps.proofs.Fitting.{dts_fit}
use Rattle.law_recovery_world.specs.Steady.{StageUrges}
use Rattle.law_recovery_world.proofs.Known.{Known}
use Rattle.law_recovery_world.proofs.Directions.{far, here as near, partner as partner_of, terms_same, there, there_far}
use Rattle.law_recovery_world.proofs.Lined.{all_short, none_of}
use Rattle.law_recovery_steps.specs.Ers.{IsNoEr}
use Rattle.law_recovery_steps.specs.Since.{EndsIt}
use Rattle.law_recovery.proofs.Still.{seen_of, still, still_explains}

second : (a b : Bool) → (a && b) ≡ true → b ≡ true
second true b h = h
second false b h = absurd (cc h)

-- the end of that number stands there, and is Opened
pub record IsThere (entities : List Placed) (ends : List EndAt) (x system reference : ℕ) (e : End) (o : InOpened) : Type 0 where
  pub entity : Entity
  pub there : entity_at entities system ≡ Some entity
  pub stands : end_at entity reference ≡ Some e
  pub number : latest ends system reference ≡ x
  pub stage : e.stage ≡ Opened o

module _ (titles : List (List ℕ)) (timers : Timers) (w : Whole) (journal : List Event) (entities : List Placed) (ends : List EndAt) (known : Known titles timers w journal entities ends)
    (x y system reference their_system their_reference : ℕ) (e f : End) (o q : InOpened) (partners : ArePartners journal x y)
    (here : IsThere entities ends x system reference e o) (beyond : IsThere entities ends y their_system their_reference f q) where
  kept : Kept (times_of timers) titles w journal
  kept = keeps titles timers w journal entities ends known.plain

  numbers : AreNumbered (times_of timers) w
  numbers = numbered (times_of timers) w kept.sound kept.tracked

  abbrev world : World (Link (List ℕ))
  world = still w.base.clock entities ends

  abbrev open_of : (n at_system at_reference : ℕ) (end : End) (i : InOpened) → IsThere entities ends n at_system at_reference end i → IsOpenEnd world n i.halves
  open_of n at_system at_reference end i t = record {
    system = at_system;
    reference = at_reference;
    entity = t.entity;
    end = end;
    is_end = record { there = t.there; stands = t.stands; number = t.number };
    has = ap halves_at t.stage;
  }

  abbrev mine : IsOpenEnd world x o.halves
  mine = open_of x system reference e o here

  abbrev theirs : IsOpenEnd world y q.halves
  theirs = open_of y their_system their_reference f q beyond

  explained : Explains seen_of titles timers w journal world
  explained = still_explains titles timers w journal entities ends known.plain

  -- ---- a TPDU comes

  module _ (tick : ℕ) (from : List ℕ) (sent : Sent) (io : IsOffered w.base tick from sent) (none : IsNoEr sent.tpdu) (to : sent.to ≡ here.entity.own) (soon : w.base.clock ≤ tick + timers.life)
      (t : WireTpdu) (sum : Bool) (reading : IsReadAs here.entity sent (t, sum)) (destination : destination_of t ≡ Some reference) (match : is_match e.base e.stage from t ≡ true) where
    standing : IsKnown w here.entity.own reference e
    standing = subst (IsThereKnown w here.entity.own reference) here.stands ((known.plain.holds system here.entity here.there).there reference)

    abbrev m : IsMet timers w (latest ends system reference) here.entity.own reference e tick from t
    m = record {
      known = standing;
      number = sym (number_at titles timers w journal entities ends known.plain system here.entity reference standing.k here.there standing.at);
      offer = io.offer;
      n = io.n;
      is = read_is titles timers w journal entities ends known.plain system here.entity here.there tick from sent io to soon t sum reading reference e destination standing here.stands match;
      taken = taken titles timers w journal entities ends known.plain system here.entity here.there tick from sent io to soon t sum reading reference e destination standing here.stands match;
      numbered = number titles timers w journal entities ends known.plain system here.entity here.there tick from sent io to soon t sum reading reference e destination standing here.stands match;
      tick_is = io.tick_is;
      from_is = io.from_is;
    }

    abbrev k : ℕ
    k = m.known.k

    -- both halves, and the partner
    own : AreThere w k e.base o.halves
    own = are_there seen_of titles timers w journal world explained here.entity.own reference e m.known o.halves (ap halves_at here.stage)

    all : (u : WireTpdu) → t ≡ u → m.offer.tpdu ≡ seen m.n u
    all u is = m.is ∙ ap (seen m.n) is

    kind_of : (u : WireTpdu) → t ≡ u → m.offer.tpdu.kind ≡ (seen m.n u).kind
    kind_of u is = ap (λ (v : Tpdu). v.kind) (all u is)

    noted_as : (u : WireTpdu) → t ≡ u → (seen m.n u).kind ≡ Flow → Noted w.base w.track own.z m.offer.tick (seen m.n u).body
    noted_as u is flow =
        subst (λ (b : Body). Noted w.base w.track own.z m.offer.tick b) (ap (λ (v : Tpdu). v.body) (all u is))
        (taken_noted (times_of timers) w kept.sound kept.tracked k m.offer (seen m.n t) m.taken (kind_of u is ∙ flow) own.z own.partner)

    number_as : (u : WireTpdu) → t ≡ u → (seen m.n u).kind ≡ Flow → IsNumbered (block_of (agreed_format e.base.agreed)) m.n u
    number_as u is flow = subst (λ (v : WireTpdu). IsNumbered (block_of (agreed_format e.base.agreed)) m.n v) is (m.numbered (kind_of u is ∙ flow))

    -- ---- a DT

    abbrev line : Track
    line = w.track own.z

    receiving : IsReceivingAt o.halves.receiving line
    receiving = own.halves.receiving

    run : IsRun (times_of timers) w.base.clock line
    run = kept.tracked.run own.z receiving.begun

    fine : Fine line.rules line.size line.tick line.credit line.places line.room line.line
    fine =
        fine_runs line.rules run.long line.size run.some line.tick line.credit line.places line.room run.credit_low run.room_low (empty line.tick line.credit line.places line.room) line.line run.happenings run.runs
        (fine_empty line.rules run.long line.size run.some line.tick line.credit line.places line.room run.credit_low run.room_low)

    gave : line.line.submitted ≡ submitted (own.z + 1) journal
    gave = sym (kept.telling.gave own.z receiving.begun)

    short : AllShort (normals line.line.submitted)
    short = subst (λ (units : List Marked). AllShort (normals units)) (sym gave) (all_short (normals (submitted (own.z + 1) journal)) (known.short (own.z + 1)))

    small : (n sent_at : ℕ) (piece : Piece) → Contains line.line.world.sends (n, sent_at) → w.base.clock ≤ sent_at + timers.life → cut_at line.size (normals line.line.submitted) n ≡ Some piece
        → (arrived line.rules.block line.line.world.receiver.inbox (ahead line.rules.block (wire line.rules.block line.line.world.receiver.expected) (wire line.rules.block n)) piece).got ≡ TooLarge → ⊥
    small n sent_at piece stands fresh cut =
        let clock = numbers.clock own.z receiving.begun in
        dts_fit line.rules line.tick line.credit line.places line.room fine.events line.line.world run.long run.credit_low run.room_low fine.leads line.size (normals line.line.submitted)
        (record {
          some = run.some;
          full = fine.filled.full;
          short = short;
          shown = normals line.line.shown;
          complete = fine.filled.complete;
          held = fine.filled.held;
        }) n sent_at piece (stands, omega (arith, fresh, clock.0, clock.2)) cut

    large_not : (n number sent_at : ℕ) (piece : Piece) → number ≡ wire (block_in o.halves.receiving) n → Contains line.line.world.sends (n, sent_at) → w.base.clock ≤ sent_at + timers.life
        → cut_at line.size (normals line.line.submitted) n ≡ Some piece
        → (arrived (block_in o.halves.receiving) o.halves.receiving.receiver.inbox (ahead (block_in o.halves.receiving) (wire (block_in o.halves.receiving) o.halves.receiving.receiver.expected) number) piece).got ≡ TooLarge → ⊥
    large_not n number sent_at piece is stands fresh cut =
        subst (λ (k : ℕ). (arrived (block_in o.halves.receiving) o.halves.receiving.receiver.inbox (ahead (block_in o.halves.receiving) (wire (block_in o.halves.receiving) o.halves.receiving.receiver.expected) k) piece).got ≡ TooLarge → ⊥) (sym is)
        (subst (λ (inbox : Inbox). (arrived (block_in o.halves.receiving) inbox (ahead (block_in o.halves.receiving) (wire (block_in o.halves.receiving) o.halves.receiving.receiver.expected) (wire (block_in o.halves.receiving) n)) piece).got ≡ TooLarge → ⊥) receiving.inbox
        (subst (λ (next : ℕ). (arrived (block_in o.halves.receiving) line.line.world.receiver.inbox (ahead (block_in o.halves.receiving) (wire (block_in o.halves.receiving) next) (wire (block_in o.halves.receiving) n)) piece).got ≡ TooLarge → ⊥) receiving.expected
        (subst (λ (b : ℕ). (arrived b line.line.world.receiver.inbox (ahead b (wire b line.line.world.receiver.expected) (wire b n)) piece).got ≡ TooLarge → ⊥) receiving.block
        (small n sent_at piece stands fresh cut))))

    block_same : block_of (agreed_format e.base.agreed) ≡ block_in o.halves.receiving
    block_same = sym own.halves.their_block ∙ receiving.block

    dt_fits : (destination number : ℕ) (last : Bool) (text : List ℕ) → t ≡ wires.Dt destination last number text → IsWrong e.base o (wires.Dt destination last number text) → ⊥
    dt_fits destination number last text is wrong =
        let u : WireTpdu = wires.Dt destination last number text in
        let n = noted_as u is refl in
        large_not m.n number m.offer.tick (record { last = last; octets = text }) (number_as u is refl ∙ ap (λ (b : ℕ). wire b m.n) block_same) n.1 m.taken.fresh n.2 wrong

    -- ---- the partner

    abbrev my_known : (is : IsKnown w here.entity.own reference e) × (is.k + 1 ≡ x)
    my_known = near seen_of titles timers w journal world explained x y partners o.halves q.halves mine theirs

    abbrev their_known : (is : IsKnown w beyond.entity.own their_reference f) × (is.k + 1 ≡ y)
    their_known = far seen_of titles timers w journal world explained x y partners o.halves q.halves mine theirs

    abbrev my_own : AreThere w my_known.0.k e.base o.halves
    my_own = there seen_of titles timers w journal world explained x y partners o.halves q.halves mine theirs

    abbrev their_own : AreThere w their_known.0.k f.base q.halves
    their_own = there_far seen_of titles timers w journal world explained x y partners o.halves q.halves mine theirs

    same_end : my_known.0.k ≡ k
    same_end = omega (arith, my_known.1, m.number, here.number)

    are : IsPartner w.base k their_known.0.k
    are = subst (λ (j : ℕ). IsPartner w.base j their_known.0.k) same_end (partner_of seen_of titles timers w journal world explained x y partners o.halves q.halves mine theirs)

    z_is : own.z ≡ their_known.0.k
    z_is = one_partner (times_of timers) w.base kept.sound k own.z their_known.0.k own.partner are

    -- ---- an ED

    same_expedited : is_expedited e.base.agreed ≡ is_expedited f.base.agreed
    same_expedited =
        ap is_expedited my_own.own.agreed
        ∙ ap (λ (terms : Terms). terms.has_expedited) (terms_same seen_of titles timers w journal world explained x y partners o.halves q.halves mine theirs)
        ∙ sym (ap is_expedited their_own.own.agreed)

    their_sending : IsSendingAt q.halves.sending (w.track their_known.0.k)
    their_sending = their_own.halves.sending

    none_urged : q.halves.sending.urgent ≡ no_urgent → expediteds (w.track their_known.0.k).line.submitted ≡ []
    none_urged none_there =
        let base : (w.track their_known.0.k).line.urgent.base ≡ 0 = subst (λ (v : UrgentSender). urgent_base v v.out (w.track their_known.0.k).line.urgent.base) none_there their_sending.base in
        their_sending.expedited ∙ (λ i. none_of their_sending.answered (their_sending.answers ∙ base) i ++ (none_there i).units)

    urges : is_expedited f.base.agreed ≡ false → q.halves.sending.urgent ≡ no_urgent
    urges = subst (StageUrges f.base.agreed) beyond.stage (known.steady their_system beyond.entity beyond.there their_reference f beyond.stands).urges

    ed_fits : (destination number : ℕ) (last : Bool) (text : List ℕ) → t ≡ wires.Ed destination last number text → is_expedited e.base.agreed ≡ false → ⊥
    ed_fits destination number last text is wrong =
        let n = noted_as (wires.Ed destination last number text) is refl in
        let nothing : expediteds line.line.submitted ≡ [] =
        subst (λ (j : ℕ). expediteds (w.track j).line.submitted ≡ []) (sym z_is) (none_urged (urges (sym same_expedited ∙ wrong))) in
        omega (arith, n.2, ap length nothing)

    -- ---- a DR

    partner_some : e.base.partner ≢ 0
    partner_some = (own_in (w.base.end k).birth (w.base.end k).took (w.base.end k).latest e.base e.stage o.halves (ap halves_at here.stage) m.known.sees.state).1

    unparted : (w.base.end their_known.0.k).is_parted ≡ false
    unparted = subst (λ (stage : StateData). IsPartedIn stage (w.base.end their_known.0.k).is_parted) beyond.stage their_known.0.sees.parted

    both_ways : (b : Bool) → b ≡ true → b ≡ false → ⊥
    both_ways b sure none_of_it = cc (sym sure ∙ none_of_it)

    dr_by : Meets (times_of timers) w.base kept.sound m.offer k → m.offer.tpdu.kind ≡ Dr → (m.offer.tpdu.source ≡ 0 → ⊥) → ⊥
    dr_by (Of_partner i is facts aims same) dr some =
        let one : i ≡ their_known.0.k = one_partner (times_of timers) w.base kept.sound k i their_known.0.k
        (swap w.base i k (subst (λ (j : ℕ). IsPartner w.base i j) same aims.partner)) are in
        both_ways (w.base.end their_known.0.k).is_parted (subst (λ (j : ℕ). (w.base.end j).is_parted ≡ true) one (facts.parting dr some).1) unparted
    dr_by (Of_entity since is facts) dr some = elim facts.kind [ inl refused ↦ some refused.1 | inr dc ↦ cc (sym dr ∙ dc) ]

    dr_fits : (destination source reason : ℕ) (info : Option (List ℕ)) (text : List ℕ) → t ≡ wires.Dr destination source reason info text → ⊥
    dr_fits destination source reason info text is =
        let u : WireTpdu = wires.Dr destination source reason info text in
        let fit : fits e.base (Opened o) u ≡ true = sym (λ i. fits e.base (here.stage i) (is i)) ∙ second _ (fits e.base e.stage t) match in
        let source_is : source ≡ e.base.partner = eqb-true source e.base.partner fit in
        let offered : m.offer.tpdu.source ≡ source = ap (λ (v : Tpdu). v.source) (all u is) in
        dr_by (meets (times_of timers) w.base kept.sound k m.offer m.taken.y_low m.taken.is_held m.taken.offered m.taken.fresh m.taken.no_request m.taken.address (sym m.taken.reading.target ∙ m.taken.target))
        (kind_of u is) (λ zero_is. partner_some (sym source_is ∙ sym offered ∙ zero_is))

    -- ---- an ER

    er_fits : (destination cause : ℕ) (rejected : Option (List ℕ)) → t ≡ wires.Er destination cause rejected → ⊥
    er_fits destination cause rejected is =
        let same : t ≡ sent.tpdu = reading.control (ap has_number (sym reading.kind) ∙ ap (λ (v : WireTpdu). has_number (kind_for v)) is) in
        subst IsNoEr (sym same ∙ is) none

    -- ---- all

    by_kind : (u : WireTpdu) → t ≡ u → EndsIt e.base o u → ⊥
    by_kind (wires.Dr destination source reason info text) is ends_it = dr_fits destination source reason info text is
    by_kind (wires.Er destination cause rejected) is ends_it = er_fits destination cause rejected is
    by_kind (wires.Dt destination last number text) is ends_it = dt_fits destination number last text is ends_it
    by_kind (wires.Ed destination last number text) is ends_it = ed_fits destination number last text is ends_it
    by_kind other is ends_it = ends_it

    pub ends_not : EndsIt e.base o t → ⊥
    ends_not ends_it = by_kind t refl ends_it
