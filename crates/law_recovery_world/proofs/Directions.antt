-- One direction between two partners that are open: the line of its sender is a run, in which both halves stand. Where the sender is Opened, all is known of it; and where
-- it is in AkWait, what is known of one that has sent nothing.
use Rattle.std.specs.Prelude.{option_map}
use Rattle.std.specs.List.{sum_by}
use Rattle.std.proofs.Common.{◌≡◌, ◌≢◌, inl, inr, ℕ, ◌+◌, ◌<◌, ◌≤◌, List, [], ◌++◌, length, length-append, get_or, take, true, Option, Some, None, refl, sym, ◌∙◌, ap, subst, arith}
use Rattle.std.proofs.lemmas.List.Sums.{sum_by-append}
use Rattle.std.proofs.lemmas.Option.{same_Some}
use Rattle.osi_base.specs.Link.{Link}
use Rattle.tp4_number.specs.declared.piece.Piece.{Piece}
use Rattle.tp4_number.specs.Formats.{most_of}
use Rattle.tp4_number.specs.Expedited.{LeadsUrgently, quiet}
use Rattle.tp4_number.specs.Receiver.{Inbox}
use Rattle.tp4_number.specs.Sender.{Sender}
use Rattle.tp4_number.specs.Traffic.{IsFit, Leads, Rules, Traffic, start}
use Rattle.tp4_number.proofs.Sound.{Sound}
use Rattle.law_recovery_pair.specs.Views.{AreViews}
use Rattle.tp4_flow.specs.ReceivingHalf.{Half}
use Rattle.tp4_flow.specs.declared.rules.FlowRules.{FlowRules}
use Rattle.tpdu.specs.declared.service.Options.{Options}
use Rattle.tp4_sending.specs.SendingHalf.{FlowSender, fresh}
use Rattle.tp4_sending.proofs.Settles.{new_settled}
use Rattle.tp4_sending.specs.Kept.{urgent_base}
use Rattle.tp4_sending.specs.Pieces.{count_in, cut_at}
use Rattle.tp4_sending.specs.declared.tries.Tries.{Tries}
use Rattle.law_recovery_pair.specs.Riding.{Aside, road_of, rules_by}
use Rattle.tp4_conn.specs.declared.halves.Halves.{Halves}
use Rattle.tp4_conn.specs.declared.states.InOpened.{InOpened}
use Rattle.tp4_conn.specs.declared.timers.Timers.{Timers}
use Rattle.tp4_conn.specs.End.{End}
use Rattle.tp4_conn.specs.Proper.{AreOpen}
use Rattle.script_journal.specs.Lawful.{expediteds, normals, shown, submitted}
use Rattle.script_journal.specs.Partner.{ArePartners}
use Rattle.script_journal.specs.declared.event.Event.{Event}
use Rattle.law_tp4_history.specs.Ends.{Terms}
use Rattle.law_tp4_history.specs.History.{IsPartner}
use Rattle.law_tp4_history.specs.Line.{empty}
use Rattle.law_tp4_history.specs.Tracks.{IsRun, Track, Whole}
use Rattle.law_tp4_history.specs.Complete.{Complete}
use Rattle.law_tp4_history.proofs.Lines.{Fine, fine_empty, fine_runs, line_sound}
use Rattle.law_tp4_history.proofs.Meets.{swap}
use Rattle.law_tp4_history.proofs.Sound.{one_partner}
use Rattle.law_tp4_history.proofs.Written.{Kept}
use Rattle.law_tp4_history.specs.Lines.{IsReceivingAt, IsSendingAt}
use Rattle.law_tp4_history.specs.Moves.{times_of}
use Rattle.law_tp4_history.specs.Seen.{terms_of}
use Rattle.law_tp4_history.proofs.FlowRows.{same_format}
use Rattle.law_tp4_pair.specs.Pair.{Account}
use Rattle.law_tp4_pair.specs.Flowing.{HasUnit}
use Rattle.law_recovery_ends.specs.Resting.{WasReached}
use Rattle.law_recovery_steps.specs.Beginning.{IsFull}
use Rattle.law_recovery_steps.specs.Known.{IsKnownAt}
use Rattle.law_recovery_steps.specs.Resting.{IsBegun}
use Rattle.law_recovery_steps.specs.Opening.{IsQueued, unsent}
use Rattle.tp4_world.specs.World.{World}
use Rattle.law_tp4_lawful.specs.Numbers.{IsOpenEnd}
use Rattle.law_tp4_lawful.specs.References.{halves_at}
use Rattle.law_tp4_lawful.proofs.Known.{IsKnown}
use Rattle.law_tp4_lawful.proofs.Worlds.{Explains}
use Rattle.law_tp4_lawful.proofs.FramesKnown.{keeps}
use Rattle.law_tp4_lawful.proofs.ReferencesHalves.{AreThere, are_there, known_at, own_in}
use Rattle.law_tp4_lawful.proofs.ReferencesOwn.{are_partners}
use Rattle.law_tp4_lawful.proofs.WorldOutcomes.{one_unit}
use Rattle.law_recovery_world.specs.Lines.{HasViews}
use Rattle.law_recovery_world.specs.Steady.{AreLate}
use Rattle.law_recovery_world.specs.Partners.{IsOpenedEnd}
use Rattle.law_recovery_world.proofs.Totals.{pieces_reach}

-- the same terms have the same format and the same checksum
pub formats_same : (one other : Options) → terms_of one ≡ terms_of other → one.format ≡ other.format
formats_same one other is = same_format one.format other.format (ap (λ (t : Terms). t.is_extended) is)

pub sums_same : (one other : Options) → terms_of one ≡ terms_of other → one.sum ≡ other.sum
sums_same one other is = ap (λ (t : Terms). t.is_summed) is

-- an ED that is outstanding has its unit
has_unit : (s : FlowSender) (all answered : List (List ℕ)) (base : ℕ) (out : Option Tries) → urgent_base s.urgent out base → all ≡ answered ++ s.urgent.units → length answered ≡ base
    → s.urgent.next ≤ length all → HasUnit s.urgent.units out
has_unit s all answered base None b is count sent = tt
has_unit s all answered base (Some tries) b is count sent = omega (arith, b, ap length is, length-append answered s.urgent.units, count, sent)

-- what a receiver holds and shows, by its piece size and its numbers
abbrev Holds : List (List ℕ) → ℕ → ℕ → Inbox → Type 0
Holds units size expected inbox = (d : ℕ) (piece : Piece) → get_or inbox.held.places d None ≡ Some piece → cut_at size units (expected + d) ≡ Some piece

abbrev Shows : List (List ℕ) → List (List ℕ) → ℕ → ℕ → Inbox → Type 0
Shows units out size expected inbox = Complete size units expected out inbox.held.begun

-- an Opened end is open
abbrev pub opened_is : {C : Type 0} (last : World C) (x : ℕ) (e : End) (o : InOpened) → IsOpenedEnd last x e o → IsOpenEnd last x o.halves
opened_is last x e o a = record { system = a.system; reference = a.reference; entity = a.entity; end = e; is_end = a.is_end; has = ap halves_at a.stage }

module _ {C : Type 0} (link : C → Link (List ℕ)) (titles : List (List ℕ)) (timers : Timers) (w : Whole) (journal : List Event) (world : World C) (explains : Explains link titles timers w journal world)
    (x y : ℕ) (partners : ArePartners journal x y) (mine theirs : Halves) (a : IsOpenEnd world x mine) (b : IsOpenEnd world y theirs) where
  abbrev e : End
  e = a.end

  abbrev f : End
  f = b.end

  kept : Kept (times_of timers) titles w journal
  kept = keeps titles timers w journal world.entities world.ends explains.known

  pub here : (is : IsKnown w a.entity.own a.reference e) × (is.k + 1 ≡ x)
  here = known_at link titles timers w journal world explains x a.system a.entity a.reference e a.is_end

  pub far : (is : IsKnown w b.entity.own b.reference f) × (is.k + 1 ≡ y)
  far = known_at link titles timers w journal world explains y b.system b.entity b.reference f b.is_end

  pub there : AreThere w here.0.k e.base mine
  there = are_there link titles timers w journal world explains a.entity.own a.reference e here.0 mine a.has

  pub there_far : AreThere w far.0.k f.base theirs
  there_far = are_there link titles timers w journal world explains b.entity.own b.reference f far.0 theirs b.has

  back : ArePartners journal y x
  back = elim partners [ inl p ↦ inr p | inr p ↦ inl p ]

  pub partner : IsPartner w.base here.0.k far.0.k
  partner =
      let p = are_partners link titles timers w journal world explains one_unit y x here.0.k here.1 back in
      let same : p.0 ≡ far.0.k = omega (arith, p.1, far.1) in
      subst (λ (j : ℕ). IsPartner w.base here.0.k j) same p.2

  -- ---- on what they agreed

  agreed_here : (w.base.end here.0.k).agreed ≡ Some (terms_of there.own.terms)
  agreed_here = here.0.sees.agreed ∙ ap (option_map terms_of) there.own.agreed

  agreed_far : (w.base.end far.0.k).agreed ≡ Some (terms_of there_far.own.terms)
  agreed_far = far.0.sees.agreed ∙ ap (option_map terms_of) there_far.own.agreed

  pub terms_same : terms_of there.own.terms ≡ terms_of there_far.own.terms
  terms_same = elim partner [
    | inl p ↦ same_Some _ _ (sym (kept.agreed.both here.0.k far.0.k (terms_of there.own.terms) p agreed_here) ∙ agreed_far)
    | inr p ↦ same_Some _ _ (sym agreed_here ∙ kept.agreed.both far.0.k here.0.k (terms_of there_far.own.terms) p agreed_far)
  ]

  pub format_same : mine.sending.rules.format ≡ theirs.sending.rules.format
  format_same =
      ap (λ (r : FlowRules). r.format) there.own.sending ∙ formats_same there.own.terms there_far.own.terms terms_same ∙ sym (ap (λ (r : FlowRules). r.format) there_far.own.sending)

  pub sum_same : mine.sending.rules.sum ≡ theirs.sending.rules.sum
  sum_same = ap (λ (r : FlowRules). r.sum) there.own.sending ∙ sums_same there.own.terms there_far.own.terms terms_same ∙ sym (ap (λ (r : FlowRules). r.sum) there_far.own.sending)

  -- each knows the reference of the other
  knows_one : e.base.partner ≢ 0
  knows_one = (own_in (w.base.end here.0.k).birth (w.base.end here.0.k).took (w.base.end here.0.k).latest e.base e.stage mine a.has here.0.sees.state).1

  pub named : e.base.partner ≡ f.base.own
  named =
      let p = (kept.sound.own here.0.k here.0.at.low).known (λ none. knows_one (sym here.0.sees.known ∙ none)) in
      let same : p.0 ≡ far.0.k = one_partner (times_of timers) w.base kept.sound here.0.k p.0 far.0.k p.1 partner in
      sym here.0.sees.known ∙ p.2 ∙ ap (λ (j : ℕ). (w.base.end j).birth.reference) same ∙ far.0.sees.reference

  -- ---- the line from x to y

  abbrev t : Track
  t = w.track here.0.k

  abbrev s : FlowSender
  s = mine.sending

  abbrev h : Half
  h = theirs.receiving

  sending : IsSendingAt s t
  sending = there.halves.sending

  receiving : IsReceivingAt h t
  receiving =
      subst (λ (j : ℕ). IsReceivingAt h (w.track j))
      (one_partner (times_of timers) w.base kept.sound far.0.k there_far.z here.0.k there_far.partner (swap w.base here.0.k far.0.k partner)) there_far.halves.receiving

  run : IsRun (times_of timers) w.base.clock t
  run = kept.tracked.run here.0.k sending.begun

  fine : Fine t.rules t.size t.tick t.credit t.places t.room t.line
  fine =
      fine_runs t.rules run.long t.size run.some t.tick t.credit t.places t.room run.credit_low run.room_low (empty t.tick t.credit t.places t.room) t.line run.happenings run.runs
      (fine_empty t.rules run.long t.size run.some t.tick t.credit t.places t.room run.credit_low run.room_low)

  sound : Sound t.rules t.line.world
  sound = line_sound t.rules run.long t.size run.some t.tick t.credit t.places t.room run.credit_low run.room_low run.happenings t.line run.runs

  rules_are : t.rules ≡ rules_by timers.life s.rules
  rules_are = λ i. record { block = sending.block i; life = run.life i; limit = sending.limit i }

  gave : t.line.submitted ≡ submitted x journal
  gave = sym (kept.telling.gave here.0.k sending.begun) ∙ ap (λ (j : ℕ). submitted j journal) here.1

  showed : t.line.shown ≡ shown y journal
  showed = sym (kept.telling.showed here.0.k far.0.k partner sending.begun) ∙ ap (λ (j : ℕ). shown j journal) far.1

  -- each number that was ever sent has a piece
  pub full : IsFull s
  full =
      let units : List (List ℕ) = normals t.line.submitted in
      let all : t.line.world.sender.blocks.high ≤ sum_by (count_in t.size) units = pieces_reach t.size units t.line.world.sender.blocks.high fine.filled.sent in
      let high : t.line.world.sender.blocks.high ≡ s.numbers.blocks.high = ap (λ (n : Sender). n.blocks.high) sending.numbers in
      let sized : sum_by (count_in t.size) units ≡ sum_by (count_in s.rules.piece) units = ap (λ (n : ℕ). sum_by (count_in n) units) sending.size in
      let parts : sum_by (count_in s.rules.piece) units ≡ sum_by (count_in s.rules.piece) sending.acknowledged + sum_by (count_in s.rules.piece) s.queue.units =
      ap (sum_by (count_in s.rules.piece)) sending.normal ∙ sum_by-append (count_in s.rules.piece) sending.acknowledged s.queue.units in
      omega (arith, all, high, sized, parts, sending.pieces)

  module _ (now : ℕ) (now_is : w.base.clock ≡ now) (views : HasViews w x mine theirs) where
    abbrev aside : Aside
    aside = record { urgent = t.line.world.receiver.urgent; sends = t.line.world.sends; answers = t.line.world.answers; dts = []; aks = [] }

    world_is : t.line.world ≡ (road_of now s.numbers h aside).traffic
    world_is = λ i. record {
      clock = (run.at.0 ∙ now_is) i;
      sender = sending.numbers i;
      receiver = record { expected = receiving.expected i; urgent = t.line.world.receiver.urgent; inbox = receiving.inbox i };
      sends = t.line.world.sends;
      answers = t.line.world.answers;
    }

    views_here : AreViews t.line.world
    views_here = let same : views.k ≡ here.0.k = omega (arith, views.number_is, here.1) in subst (λ (j : ℕ). AreViews (w.track j).line.world) same views.views

    leads : Leads (rules_by timers.life s.rules) (start t.tick t.credit t.places t.room) fine.events (road_of now s.numbers h aside).traffic
    leads =
        subst (λ (r : Rules). Leads r (start t.tick t.credit t.places t.room) fine.events (road_of now s.numbers h aside).traffic) rules_are
        (subst (λ (v : Traffic). Leads t.rules (start t.tick t.credit t.places t.room) fine.events v) world_is fine.leads)

    abbrev reached : WasReached (rules_by timers.life s.rules) (road_of now s.numbers h aside).traffic
    reached = record {
      fit = subst IsFit rules_are run.long;
      tick = t.tick;
      credit = t.credit;
      places = t.places;
      room = t.room;
      credit_low = subst (λ (r : Rules). t.credit < r.block) rules_are run.credit_low;
      room_low = subst (λ (r : Rules). t.room < r.block) rules_are run.room_low;
      events = fine.events;
      leads = leads;
      views = subst AreViews world_is views_here;
    }

    format_there : h.rules.format ≡ s.rules.format
    format_there = ap (λ (r : FlowRules). r.format) there_far.own.receiving ∙ sym (ap (λ (r : FlowRules). r.format) there_far.own.sending) ∙ sym format_same

    urgent_leads : LeadsUrgently (rules_by timers.life s.rules) (quiet t.tick) fine.expedites t.line.urgent
    urgent_leads = subst (λ (r : Rules). LeadsUrgently r (quiet t.tick) fine.expedites t.line.urgent) rules_are fine.expedites_lead

    -- an Opened sender
    module _ (proper : AreOpen e.base.agreed mine) (late : AreLate timers.credit now mine) (late_far : AreLate timers.credit now theirs) where
      edge : s.numbers.next ≤ s.numbers.base + s.numbers.credit
      edge = subst (λ (n : Sender). n.next ≤ n.base + n.credit) sending.numbers views_here.edge

      high : s.numbers.next ≤ s.numbers.blocks.high
      high = subst (λ (n : Sender). n.next ≤ n.blocks.high) sending.numbers sound.order.next_to

      by_receiver : (P : ℕ → ℕ → Inbox → Type 0) → P t.size t.line.world.receiver.expected t.line.world.receiver.inbox → P s.rules.piece h.receiver.expected h.receiver.inbox
      by_receiver P p =
          subst (λ (i : Inbox). P s.rules.piece h.receiver.expected i) receiving.inbox
          (subst (λ (n : ℕ). P s.rules.piece n t.line.world.receiver.inbox) receiving.expected
          (subst (λ (n : ℕ). P n t.line.world.receiver.expected t.line.world.receiver.inbox) sending.size p))

      on_line : IsKnownAt timers.life now s h (record { gave = t.line.submitted; showed = t.line.shown })
      on_line = record {
        aside = aside;
        no_dts = refl;
        no_aks = refl;
        format = format_there;
        reached = reached;
        fits = late_far.fits;
        ordered = record {
          is_open = proper.is_open;
          first = sending.first;
          window = sending.window;
          high = high;
          edge = edge;
          unit = has_unit s (expediteds t.line.submitted) sending.answered t.line.urgent.base s.urgent.out sending.base sending.expedited sending.answers sending.sent;
        };
        settled = proper.settled;
        tried = late.tried.window;
        expedites = fine.expedites;
        urgent = t.line.urgent;
        urgent_leads = urgent_leads;
        urgent_clock = run.at.1 ∙ now_is;
        urgent_next = sending.next;
        urgent_blocks = sending.blocks;
        urgent_expected = receiving.urgent;
        urgent_base_is = sending.base;
        urgent_tried = late.tried.urgent;
        some = subst (λ (n : ℕ). 0 < n) sending.size run.some;
        full = fine.filled.full;
        acknowledged = sending.acknowledged;
        normal = sending.normal;
        first = sending.pieces;
        answered = sending.answered;
        expedited = sending.expedited;
        answers = sending.answers;
        complete = by_receiver (Shows (normals t.line.submitted) (normals t.line.shown)) fine.filled.complete;
        held = by_receiver (Holds (normals t.line.submitted)) fine.filled.held;
        urged = fine.urged ∙ ap (λ (n : ℕ). take n (expediteds t.line.submitted)) receiving.urgent;
      }

      pub known_direction : (units : Account) → units.gave ≡ submitted x journal → units.showed ≡ shown y journal → IsKnownAt timers.life now s h units
      known_direction units gave_is showed_is =
          let same : record { gave = t.line.submitted; showed = t.line.shown } ≡ units = λ i. record { gave = (gave ∙ sym gave_is) i; showed = (showed ∙ sym showed_is) i } in
          subst (λ (u : Account). IsKnownAt timers.life now s h u) same on_line

    -- a sender in AkWait, as if it were open without what waits
    module _ (late_far : AreLate timers.credit now theirs) (waits : IsQueued s) where
      abbrev v : FlowSender
      v = record (fresh s.rules waits.credit) { is_open = true }

      numbers_are : s.numbers ≡ v.numbers
      numbers_are = ap (λ (z : FlowSender). z.numbers) waits.is

      most : most_of s.rules.format ≡ most_of h.rules.format
      most = ap most_of (sym format_there)

      fresh_begins : (acked : ℕ) → acked ≤ now → IsBegun timers.life (most_of s.rules.format) now v h acked
      fresh_begins acked spoke = record {
        aside = aside;
        no_dts = refl;
        no_aks = refl;
        past = record {
          reached = subst (λ (n : Sender). WasReached (rules_by timers.life s.rules) (road_of now n h aside).traffic) numbers_are reached;
          fits = record { places = late_far.fits.places ∙ sym most; room = omega (arith, late_far.fits.room, most); free = late_far.fits.free };
        };
        format = format_there;
        places = most;
        fits = late_far.fits;
        fed = record { is_open = refl; first = omega arith; window = refl; high = omega arith; reach = omega arith };
        settled = new_settled v refl;
        tried = tt;
        spoke = inl (omega (arith, spoke));
        asked = record {
          tick = t.tick;
          events = fine.expedites;
          urgent = t.line.urgent;
          leads = urgent_leads;
          clock = run.at.1 ∙ now_is;
          next = sending.next ∙ ap (λ (z : FlowSender). z.urgent.next) waits.is;
          blocks = sending.blocks ∙ ap (λ (z : FlowSender). z.urgent.blocks) waits.is;
          expected = receiving.urgent;
          base_is = subst (λ (z : FlowSender). urgent_base z.urgent z.urgent.out t.line.urgent.base) waits.is sending.base;
          unit = tt;
          tried = tt;
        };
      }

      pub unsent_begins : (acked : ℕ) → acked ≤ now → IsBegun timers.life (most_of s.rules.format) now (unsent s) h acked
      unsent_begins acked spoke = subst (λ (z : FlowSender). IsBegun timers.life (most_of s.rules.format) now z h acked) (sym (ap unsent waits.is)) (fresh_begins acked spoke)
