-- What comes to an open end stands in the lines of its connection with its number; the laws of numbers say there as what it is read.
use Rattle.std.proofs.Common.{◌≡◌, [], ◌∷◌, ◌++◌, ℕ, ◌+◌, ◌-◌, ◌<◌, ◌≤◌, true, List, length, take, Option, Some, refl, sym, ap, subst, ◌∙◌, arith, Contains}
use Rattle.std.specs.List.{sum_by}
use Rattle.osi_base.specs.Link.{Link}
use Rattle.script_journal.specs.Lawful.{Marked, expediteds, normals, shown, submitted}
use Rattle.script_journal.specs.Partner.{ArePartners}
use Rattle.script_journal.specs.declared.event.Event.{Event}
use Rattle.tpdu.specs.declared.tpdu.Format.{Format}
use Rattle.tpdu.specs.declared.tpdu.Tpdu.{Tpdu as WireTpdu}
use Rattle.tpdu.specs.declared.tpdu.Tpdu.TheVariants as wires
use Rattle.tp4_number.specs.Expedited.{LeadsUrgently, Ticks, UrgentEvent, quiet}
use Rattle.tp4_number.specs.Formats.{block_of}
use Rattle.tp4_number.proofs.Expedited.{all_alone}
use Rattle.tp4_number.specs.Number.{wire}
use Rattle.tp4_number.specs.Sender.{Sender}
use Rattle.tp4_number.specs.Traffic.{Answer, IsFit, Rules}
use Rattle.tp4_sending.specs.declared.tries.Tries.{Tries}
use Rattle.tp4_sending.specs.SendingHalf.{UrgentSender}
use Rattle.tp4_sending.specs.Pieces.{count_in}
use Rattle.tp4_sending.specs.Kept.{urgent_base}
use Rattle.tp4_conn.specs.declared.halves.Halves.{Halves}
use Rattle.tp4_conn.specs.declared.timers.Timers.{Timers}
use Rattle.tp4_conn.specs.End.{agreed_format}
use Rattle.law_tp4_history.specs.Ends.{Ak, Body, Ea, Flow, Tpdu}
use Rattle.law_tp4_history.specs.History.{IsPartner}
use Rattle.law_tp4_history.specs.Line.{Clock, Expedites, Flows, Happening, Line, Submit, Runs, empty, next}
use Rattle.law_tp4_history.proofs.Outstanding.{IsOutstanding, outstanding_event, outstanding_quiet, urgently_more}
use Rattle.law_tp4_history.specs.Tracks.{IsNumbered, IsRun, Noted, Track, Whole}
use Rattle.law_tp4_history.proofs.Lines.{line_sound, line_urged, line_whole}
use Rattle.law_tp4_history.proofs.Meets.{swap}
use Rattle.law_tp4_history.proofs.Sound.{one_partner}
use Rattle.law_tp4_history.proofs.Tracked.{numbered}
use Rattle.law_tp4_history.proofs.Written.{Kept}
use Rattle.law_tp4_history.specs.Lines.{AreHalvesAt}
use Rattle.law_tp4_history.specs.Moves.{times_of}
use Rattle.law_tp4_history.specs.Seen.{IsNumbered as HasNumber, seen}
use Rattle.tp4_world.specs.World.{World}
use Rattle.law_tp4_lawful.specs.Numbers.{AcknowledgesShown, AreRead, IsNumber, IsOpenEnd, IsReadAsNumber, IsReadAsAk, IsReadAsDt, IsReadAsEd, IsSentBy}
use Rattle.law_tp4_lawful.specs.References.{ComesTo, halves_at}
use Rattle.law_tp4_lawful.proofs.Worlds.{Explains, OneInUnit}
use Rattle.law_tp4_lawful.proofs.FramesKnown.{keeps}
use Rattle.law_tp4_lawful.proofs.ReferencesHalves.{are_there, known_at}
use Rattle.law_tp4_lawful.proofs.ReferencesMet.{IsMet}
use Rattle.law_tp4_lawful.proofs.ReferencesOwn.{carried, m, noted, partner, x_is, z}
use Rattle.law_tp4_lawful.proofs.ReferencesSizes.{sizes}

-- ---- lines

module _ (timers : Timers) (w : Whole) (n : IsNumbered (times_of timers) w) where
  -- a DT that stands in the line of x is read for its number
  dt_read : (x m tick block expected : ℕ) → (w.track x).is_begun ≡ true → Contains (w.track x).line.world.sends (m, tick) → w.base.clock ≤ tick + timers.life
      → (w.track x).rules.block ≡ block → (w.track x).line.world.receiver.expected ≡ expected → IsReadAsDt block expected m
  dt_read x m tick block expected begun there live block_is expected_is =
      let young : (w.track x).line.world.clock ≤ tick + (w.track x).rules.life = omega (arith, live, (n.clock x begun).0, (n.clock x begun).2) in
      let at : IsReadAsDt (w.track x).rules.block (w.track x).line.world.receiver.expected m =
      record { new = (n.read x begun).new_dt m tick there young; old = (n.read x begun).old_dt m tick there young } in
      subst (λ (b : ℕ). IsReadAsDt b expected m) block_is (subst (λ (e : ℕ). IsReadAsDt (w.track x).rules.block e m) expected_is at)

  ed_read : (x m tick block expected : ℕ) → (w.track x).is_begun ≡ true → Contains (w.track x).line.urgent.sends (m, tick) → w.base.clock ≤ tick + timers.life
      → (w.track x).rules.block ≡ block → (w.track x).line.urgent.expected ≡ expected → IsReadAsEd block expected m
  ed_read x m tick block expected begun there live block_is expected_is =
      let young : (w.track x).line.urgent.clock ≤ tick + (w.track x).rules.life = omega (arith, live, (n.clock x begun).1, (n.clock x begun).2) in
      let at : IsReadAsEd (w.track x).rules.block (w.track x).line.urgent.expected m =
      record { next = (n.alone x begun).ed m tick there young; before = (n.alone x begun).before m tick there young } in
      subst (λ (b : ℕ). IsReadAsEd b expected m) block_is (subst (λ (e : ℕ). IsReadAsEd (w.track x).rules.block e m) expected_is at)

  ak_read : (y : ℕ) (a : Answer) (block : ℕ) (numbers : Sender) → (w.track y).is_begun ≡ true → Contains (w.track y).line.world.answers a → w.base.clock ≤ a.tick + timers.life
      → a.number ≤ (w.track y).line.world.receiver.expected → (w.track y).rules.block ≡ block → (w.track y).line.world.sender ≡ numbers → IsReadAsAk block numbers.base numbers.blocks.high a.number
  ak_read y a block numbers begun there live low block_is numbers_are =
      let young : (w.track y).line.world.clock ≤ a.tick + (w.track y).rules.life = omega (arith, live, (n.clock y begun).0, (n.clock y begun).2) in
      let at : IsReadAsAk (w.track y).rules.block (w.track y).line.world.sender.base (w.track y).line.world.sender.blocks.high a.number =
      record { low = omega (arith, low, (n.kept y begun).expected_low); new = (n.read y begun).new_ak a there young; old = (n.read y begun).old_ak a there young } in
      subst (λ (b : ℕ). IsReadAsAk b numbers.base numbers.blocks.high a.number) block_is
      (subst (λ (s : Sender). IsReadAsAk (w.track y).rules.block s.base s.blocks.high a.number) numbers_are at)

  ea_read : (y m tick block number : ℕ) (urgent : UrgentSender) → (w.track y).is_begun ≡ true → Contains (w.track y).line.urgent.answers (m, tick) → w.base.clock ≤ tick + timers.life
      → (w.track y).rules.block ≡ block → (w.track y).line.urgent.next ≡ urgent.next → urgent_base urgent urgent.out (w.track y).line.urgent.base → number ≡ wire block m
      → (out : ℕ) (tries : Tries) → urgent.out ≡ Some tries → out + 1 ≡ urgent.next → number ≡ wire block out → m ≡ out
  ea_read y m tick block number urgent begun there live block_is next_is base is out tries tried out_is same =
      let young : (w.track y).line.urgent.clock ≤ tick + (w.track y).rules.life = omega (arith, live, (n.clock y begun).1, (n.clock y begun).2) in
      let at : (w.track y).line.urgent.base + 1 ≡ urgent.next = subst (λ (o : Option Tries). urgent_base urgent o (w.track y).line.urgent.base) tried base in
      let base_is : (w.track y).line.urgent.base ≡ out = omega (arith, at, out_is) in
      let below : (w.track y).line.urgent.base < (w.track y).line.urgent.next = omega (arith, at, next_is) in
      let wires_same : wire (w.track y).rules.block m ≡ wire (w.track y).rules.block (w.track y).line.urgent.base =
      subst (λ (b : ℕ). wire b m ≡ wire b (w.track y).line.urgent.base) (sym block_is) (sym is ∙ same ∙ ap (wire block) (sym base_is)) in
      (n.alone y begun).ea m tick there young below wires_same ∙ base_is

-- what is outstanding along a line
urged_runs : (rules : Rules) (fit : IsFit rules) (size tick : ℕ) (happenings : List Happening) (old l : Line) → Runs rules size old happenings l → (events : List UrgentEvent)
    → LeadsUrgently rules (quiet tick) events old.urgent → IsOutstanding old.urgent → IsOutstanding l.urgent
urged_runs rules fit size tick [] old l r events lead o = subst (λ (x : Line). IsOutstanding x.urgent) (sym r) o
urged_runs rules fit size tick (Submit unit ∷ happenings) old l r events lead o = urged_runs rules fit size tick happenings (next rules old (Submit unit)) l r.1 events lead o
urged_runs rules fit size tick (Clock ∷ happenings) old l r events lead o =
    urged_runs rules fit size tick happenings (next rules old Clock) l r.1 (events ++ Ticks ∷ []) (urgently_more rules events (quiet tick) old.urgent Ticks lead tt)
    (outstanding_event rules old.urgent (all_alone rules tick events old.urgent fit lead) o Ticks tt)
urged_runs rules fit size tick (Flows event ∷ happenings) old l r events lead o = urged_runs rules fit size tick happenings (next rules old (Flows event)) l r.1 events lead o
urged_runs rules fit size tick (Expedites event ∷ happenings) old l r events lead o =
    urged_runs rules fit size tick happenings (next rules old (Expedites event)) l r.1 (events ++ event ∷ []) (urgently_more rules events (quiet tick) old.urgent event lead r.0.0)
    (outstanding_event rules old.urgent (all_alone rules tick events old.urgent fit lead) o event r.0.0)

urged : (timers : Timers) (clock : ℕ) (t : Track) → IsRun (times_of timers) clock t → IsOutstanding t.line.urgent
urged timers clock t r = urged_runs t.rules r.long t.size t.tick r.happenings (empty t.tick t.credit t.places t.room) t.line r.runs [] refl (outstanding_quiet t.tick)

-- an AK tells no number above the one expected
said_low : (timers : Timers) (clock : ℕ) (t : Track) (r : IsRun (times_of timers) clock t) (a : Answer) → Contains t.line.world.answers a → a.number ≤ t.line.world.receiver.expected
said_low timers clock t r a there =
    ((line_sound t.rules r.long t.size r.some t.tick t.credit t.places t.room r.credit_low r.room_low r.happenings t.line r.runs).said a there).low

-- what is below the numbers expected was shown
whole_shown : (timers : Timers) (clock : ℕ) (t : Track) → IsRun (times_of timers) clock t
    → (count : ℕ) → count ≤ length (normals t.line.submitted) → sum_by (count_in t.size) (take count (normals t.line.submitted)) ≤ t.line.world.receiver.expected
    → count ≤ length (normals t.line.shown)
whole_shown timers clock t r = line_whole t.rules r.long t.size r.some t.tick t.credit t.places t.room r.credit_low r.room_low r.happenings t.line r.runs

urged_shown : (timers : Timers) (clock : ℕ) (t : Track) → IsRun (times_of timers) clock t
    → (length (expediteds t.line.shown) ≡ t.line.urgent.expected) × ((n at : ℕ) → Contains t.line.urgent.answers (n, at) → n < t.line.urgent.expected)
urged_shown timers clock t r = line_urged t.rules r.long t.size r.some t.tick t.credit t.places t.room r.credit_low r.room_low r.happenings t.line r.runs

module _ {C : Type 0} (link : C → Link (List ℕ)) (titles : List (List ℕ)) (timers : Timers) (w : Whole) (journal : List Event) (world : World C) (explains : Explains link titles timers w journal world)
    (one : OneInUnit) where
  kept : Kept (times_of timers) titles w journal
  kept = keeps titles timers w journal world.entities world.ends explains.known

  numbers : IsNumbered (times_of timers) w
  numbers = numbered (times_of timers) w kept.sound kept.tracked

  module _ (x y : ℕ) (t : WireTpdu) (c : ComesTo link world y t) (halves : Halves) (partners : ArePartners journal x y) (has : halves_at c.end.stage ≡ Some halves) where
    abbrev met : IsMet timers w y c.entity.own c.reference c.end c.tick c.unit.from t
    met = m link titles timers w journal world explains one y t c

    abbrev k : ℕ
    k = met.known.k

    abbrev other : ℕ
    other = z link titles timers w journal world explains one y t c x partners

    are : IsPartner w.base k other
    are = partner link titles timers w journal world explains one y t c x partners

    other_is : other + 1 ≡ x
    other_is = x_is link titles timers w journal world explains one y t c x partners

    -- both halves of y
    own : AreHalvesAt (agreed_format c.end.base.agreed) halves (w.track k) (w.track other)
    own =
        let there = are_there link titles timers w journal world explains c.entity.own c.reference c.end met.known halves has in
        subst (λ (j : ℕ). AreHalvesAt (agreed_format c.end.base.agreed) halves (w.track k) (w.track j)) (one_partner (times_of timers) w.base kept.sound k there.z other there.partner are) there.halves

    -- both halves of x, where it is open
    theirs_at : (theirs : Halves) → IsOpenEnd world x theirs → (format : Format) × AreHalvesAt format theirs (w.track other) (w.track k)
    theirs_at theirs is =
        let kn = known_at link titles timers w journal world explains x is.system is.entity is.reference is.end is.is_end in
        let there = are_there link titles timers w journal world explains is.entity.own is.reference is.end kn.0 theirs is.has in
        let same : kn.0.k ≡ other = omega (arith, kn.1, other_is) in
        let back : IsPartner w.base kn.0.k k = subst (λ (j : ℕ). IsPartner w.base j k) (sym same) (swap w.base k other are) in
        let z_is : there.z ≡ k = one_partner (times_of timers) w.base kept.sound kn.0.k there.z k there.partner back in (
          agreed_format is.end.base.agreed,
          subst (λ (j : ℕ). AreHalvesAt (agreed_format is.end.base.agreed) theirs (w.track j) (w.track k)) same
              (subst (λ (j : ℕ). AreHalvesAt (agreed_format is.end.base.agreed) theirs (w.track kn.0.k) (w.track j)) z_is there.halves),
        )

    noted_as : (u : WireTpdu) → t ≡ u → (seen met.n u).kind ≡ Flow → Noted w.base w.track other met.offer.tick (seen met.n u).body
    noted_as u is flow =
        let all : met.offer.tpdu ≡ seen met.n u = met.is ∙ ap (seen met.n) is in
        subst (λ (b : Body). Noted w.base w.track other met.offer.tick b) (ap (λ (v : Tpdu). v.body) all)
        (noted link titles timers w journal world explains one y t c x partners (ap (λ (v : Tpdu). v.kind) all ∙ flow))

    number_as : (u : WireTpdu) → t ≡ u → (seen met.n u).kind ≡ Flow → HasNumber (block_of (agreed_format c.end.base.agreed)) met.n u
    number_as u is flow =
        subst (λ (v : WireTpdu). HasNumber (block_of (agreed_format c.end.base.agreed)) met.n v) is
        (met.numbered (ap (λ (v : Tpdu). v.kind) (met.is ∙ ap (seen met.n) is) ∙ flow))

    -- what answers y stands in the line of y
    answer_in : (credit subsequence : ℕ) → Noted w.base w.track other met.offer.tick (Ak met.n credit subsequence)
        → ((w.track k).is_begun ≡ true) × Contains (w.track k).line.world.answers (record { number = met.n; credit = credit; subsequence = subsequence; tick = met.offer.tick })
    answer_in credit subsequence n =
        let same : n.0 ≡ k = one_partner (times_of timers) w.base kept.sound other n.0 k n.1 (swap w.base k other are) in (
          ap (λ (j : ℕ). (w.track j).is_begun) (sym same) ∙ n.2,
          subst (λ (j : ℕ). Contains (w.track j).line.world.answers (record { number = met.n; credit = credit; subsequence = subsequence; tick = met.offer.tick })) same n.3,
        )

    ea_in : Noted w.base w.track other met.offer.tick (Ea met.n) → ((w.track k).is_begun ≡ true) × Contains (w.track k).line.urgent.answers (met.n, met.offer.tick)
    ea_in n =
        let same : n.0 ≡ k = one_partner (times_of timers) w.base kept.sound other n.0 k n.1 (swap w.base k other are) in
        (ap (λ (j : ℕ). (w.track j).is_begun) (sym same) ∙ n.2, subst (λ (j : ℕ). Contains (w.track j).line.urgent.answers (met.n, met.offer.tick)) same n.3)

    live : w.base.clock ≤ met.offer.tick + timers.life
    live = met.taken.fresh

    read_by : (u : WireTpdu) → t ≡ u → IsReadAsNumber (block_of (agreed_format c.end.base.agreed)) halves met.n u
    read_by (wires.Dt destination last number text) is =
        let n = noted_as (wires.Dt destination last number text) is refl in
        dt_read timers w numbers other met.n met.offer.tick _ _ n.0 n.1 live own.their_block own.receiving.expected
    read_by (wires.Ed destination last number text) is =
        let n = noted_as (wires.Ed destination last number text) is refl in
        ed_read timers w numbers other met.n met.offer.tick _ _ n.0 n.1 live own.their_block own.receiving.urgent
    read_by (wires.Ak destination number credit subsequence confirmation) is =
        let n = answer_in credit subsequence (noted_as (wires.Ak destination number credit subsequence confirmation) is refl) in
        let a : Answer = record { number = met.n; credit = credit; subsequence = subsequence; tick = met.offer.tick } in (
          number_as (wires.Ak destination number credit subsequence confirmation) is refl,
          ak_read timers w numbers k a _ halves.sending.numbers n.0 n.1 live (said_low timers w.base.clock (w.track k) (kept.tracked.run k n.0) a n.1) own.own_block own.sending.numbers,
        )
    read_by (wires.Ea destination number) is =
        let n = ea_in (noted_as (wires.Ea destination number) is refl) in
        let number_is : number ≡ wire (block_of (agreed_format c.end.base.agreed)) met.n = number_as (wires.Ea destination number) is refl in
        (number_is, ea_read timers w numbers k met.n met.offer.tick _ number halves.sending.urgent n.0 n.1 live own.own_block own.sending.next own.sending.base number_is)
    read_by other_kind is = tt

    sent_by : (theirs : Halves) → IsOpenEnd world x theirs → (u : WireTpdu) → t ≡ u → IsSentBy theirs met.n u
    sent_by theirs open_ (wires.Dt destination last number text) is =
        let n = noted_as (wires.Dt destination last number text) is refl in
        subst (λ (s : Sender). met.n < s.blocks.high) (theirs_at theirs open_).1.sending.numbers ((numbers.kept other n.0).sent met.n met.offer.tick n.1)
    sent_by theirs open_ (wires.Ak destination number credit subsequence confirmation) is =
        let n = answer_in credit subsequence (noted_as (wires.Ak destination number credit subsequence confirmation) is refl) in
        let a : Answer = record { number = met.n; credit = credit; subsequence = subsequence; tick = met.offer.tick } in
        subst (λ (e : ℕ). met.n ≤ e) (theirs_at theirs open_).1.receiving.expected (said_low timers w.base.clock (w.track k) (kept.tracked.run k n.0) a n.1)
    sent_by theirs open_ (wires.Ed destination last number text) is =
        let n = noted_as (wires.Ed destination last number text) is refl in
        subst (λ (m : ℕ). met.n < m) (theirs_at theirs open_).1.sending.next ((urged timers w.base.clock (w.track other) (kept.tracked.run other n.0)).sent met.n met.offer.tick n.1)
    sent_by theirs open_ (wires.Ea destination number) is =
        let n = ea_in (noted_as (wires.Ea destination number) is refl) in
        subst (λ (m : ℕ). met.n < m) (theirs_at theirs open_).1.receiving.urgent ((urged timers w.base.clock (w.track k) (kept.tracked.run k n.0)).said met.n met.offer.tick n.1)
    sent_by theirs open_ other_kind is = tt

    -- the units of y, and those of y that x showed
    given_is : (w.track k).is_begun ≡ true → submitted y journal ≡ (w.track k).line.submitted
    given_is begun = ap (λ (j : ℕ). submitted j journal) (sym met.number) ∙ kept.telling.gave k begun

    shown_is : (w.track k).is_begun ≡ true → shown x journal ≡ (w.track k).line.shown
    shown_is begun = ap (λ (j : ℕ). shown j journal) (sym other_is) ∙ kept.telling.showed k other are begun

    size_is : (w.track k).size ≡ (w.track (y - 1)).size
    size_is = let same : k ≡ y - 1 = omega (arith, met.number) in ap (λ (j : ℕ). (w.track j).size) same

    acknowledged : (u : WireTpdu) → t ≡ u → AcknowledgesShown (w.track (y - 1)).size (submitted y journal) (shown x journal) met.n u
    acknowledged (wires.Ak destination number credit subsequence confirmation) is =
        let n = answer_in credit subsequence (noted_as (wires.Ak destination number credit subsequence confirmation) is refl) in
        let a : Answer = record { number = met.n; credit = credit; subsequence = subsequence; tick = met.offer.tick } in
        let low = said_low timers w.base.clock (w.track k) (kept.tracked.run k n.0) a n.1 in
        subst (λ (s : ℕ). AcknowledgesShown s (submitted y journal) (shown x journal) met.n (wires.Ak destination number credit subsequence confirmation)) size_is
        (subst (λ (units : List Marked). AcknowledgesShown (w.track k).size units (shown x journal) met.n (wires.Ak destination number credit subsequence confirmation)) (sym (given_is n.0))
        (subst (λ (units : List Marked). AcknowledgesShown (w.track k).size (w.track k).line.submitted units met.n (wires.Ak destination number credit subsequence confirmation)) (sym (shown_is n.0))
        (λ count there below. whole_shown timers w.base.clock (w.track k) (kept.tracked.run k n.0) count there (omega (arith, below, low)))))
    acknowledged (wires.Ea destination number) is =
        let n = ea_in (noted_as (wires.Ea destination number) is refl) in
        let u = urged_shown timers w.base.clock (w.track k) (kept.tracked.run k n.0) in
        subst (λ (units : List Marked). met.n < length (expediteds units)) (sym (shown_is n.0)) (omega (arith, u.0, u.1 met.n met.offer.tick n.1))
    acknowledged other_kind is = tt

    pub number : IsNumber journal world (λ j. (w.track (j - 1)).size) x y (block_of (agreed_format c.end.base.agreed)) halves t
    number = record {
      n = met.n;
      carries = carried link titles timers w journal world explains one y t c x partners;
      acknowledges = acknowledged t refl;
      sent = λ theirs is. sent_by theirs is t refl;
      read = read_by t refl;
    }

  pub all_read : AreRead link journal world
  all_read = record {
    size = λ j. (w.track (j - 1)).size;
    sizes = sizes link titles timers w journal world explains one;
    each = λ x y t c halves partners has. number x y t c halves partners has;
  }
