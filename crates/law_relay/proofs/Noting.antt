-- The places of a journal, and those of its events without the notes.
use Rattle.std.proofs.Common.{◌≡◌, ◌⊎◌, inl, inr, ℕ, zero, suc, ◌+◌, ◌<◌, ◌≤◌, Bool, true, false, List, [], ◌∷◌, ◌++◌, Some, None, refl, sym, ◌∙◌, ap, subst, arith}
use Rattle.std.specs.Prelude.{if◌then◌else◌, slice_get}
use Rattle.std.proofs.lemmas.Bool.{cases_order, false≢true}
use Rattle.script_journal.specs.declared.cause.Refused.TheVariants as refused
use Rattle.script_journal.specs.declared.event.Event.{Event}
use Rattle.script_journal.specs.declared.event.Event.TheVariants as events
use Rattle.script_journal.specs.declared.event.Event.TheVariants.{Connect, Incoming}
use Rattle.script_journal.specs.declared.event.Indication.{Indication}
use Rattle.script_journal.specs.declared.event.Request.{Request}
use Rattle.script_journal.specs.Lawful.{AreQueues, HasPartner, IsLawful, IsQueue, Lawful, Makes, Marked, Normal, Expedited, shown, submitted}
use Rattle.script_journal.specs.Partner.{AreEnds, IsLatest, Partner}
use Rattle.script_journal.specs.Silence.{IsOf, KeepsSilence, MakesAt}
use Rattle.script_journal.specs.RawLawful.{RawLawful, clock_after, clock_from, tick_after}
use Rattle.law_relay.specs.Notes.{is_note, plain}
use Rattle.tpdu.specs.declared.service.EndTold.TheVariants as tells

-- ---- units

submitted_plain : (end : ℕ) (journal : List Event) → submitted end (plain journal) ≡ submitted end journal
submitted_plain end [] = refl
submitted_plain end (events.Data at octets ∷ journal) = rw (submitted_plain end journal) refl
submitted_plain end (events.Expedite at octets ∷ journal) = rw (submitted_plain end journal) refl
submitted_plain end (events.No refused.Relayed ∷ journal) = submitted_plain end journal
submitted_plain end (event ∷ journal) = submitted_plain end journal

shown_plain : (end : ℕ) (journal : List Event) → shown end (plain journal) ≡ shown end journal
shown_plain end [] = refl
shown_plain end (events.End at (tells.Got octets) ∷ journal) = rw (shown_plain end journal) refl
shown_plain end (events.End at (tells.Urgent octets) ∷ journal) = rw (shown_plain end journal) refl
shown_plain end (events.No refused.Relayed ∷ journal) = shown_plain end journal
shown_plain end (event ∷ journal) = shown_plain end journal

-- ---- places

-- how many events but notes stand before a place
abbrev down_by : Bool → ℕ → ℕ
down_by true n = n
down_by false n = suc n

abbrev down : List Event → ℕ → ℕ
down [] place = place
down (event ∷ journal) zero = 0
down (event ∷ journal) (suc place) = down_by (is_note event) (down journal place)

-- where such an event stands among all
abbrev up_by : Bool → (ℕ → ℕ) → ℕ → ℕ
up_by true up k = suc (up k)
up_by false up zero = 0
up_by false up (suc k) = suc (up k)

abbrev up : List Event → ℕ → ℕ
up [] k = k
up (event ∷ journal) k = up_by (is_note event) (up journal) k

abbrev joined_by : Bool → Event → List Event → List Event
joined_by b event rest = if b then rest else event ∷ rest

get_down : (journal : List Event) (p : ℕ) (event : Event) → slice_get journal p ≡ Some event → is_note event ≡ false → slice_get (plain journal) (down journal p) ≡ Some event
get_down [] p event is some = absurd (cc)
get_down (first ∷ journal) zero event is some =
    let same : first ≡ event = cc in
    let here : is_note first ≡ false = ap is_note same ∙ some in
    subst (λ (b : Bool). slice_get (joined_by b first (plain journal)) 0 ≡ Some event) (sym here) is
get_down (first ∷ journal) (suc p) event is some = by (is_note first) (get_down journal p event is some)
  where
    by : (b : Bool) → slice_get (plain journal) (down journal p) ≡ Some event → slice_get (joined_by b first (plain journal)) (down_by b (down journal p)) ≡ Some event
    by true rest = rest
    by false rest = rest

down_rises : (journal : List Event) (p q : ℕ) (event : Event) → slice_get journal p ≡ Some event → is_note event ≡ false → p < q → down journal p < down journal q
down_rises [] p q event is some low = low
down_rises (first ∷ journal) p zero event is some low = absurd (omega (arith, low))
down_rises (first ∷ journal) zero (suc q) event is some low =
    let same : first ≡ event = cc in
    let here : is_note first ≡ false = ap is_note same ∙ some in
    subst (λ (b : Bool). 0 < down_by b (down journal q)) (sym here) (omega arith)
down_rises (first ∷ journal) (suc p) (suc q) event is some low = by (is_note first) (down_rises journal p q event is some (omega (arith, low)))
  where
    by : (b : Bool) → down journal p < down journal q → down_by b (down journal p) < down_by b (down journal q)
    by true rest = rest
    by false rest = omega (arith, rest)

up_rises : (journal : List Event) (k m : ℕ) → k < m → up journal k < up journal m
up_rises [] k m low = low
up_rises (first ∷ journal) k m low = by (λ a b l. up_rises journal a b l) (is_note first) k m low
  where
    by : ((a b : ℕ) → a < b → up journal a < up journal b) → (b : Bool) (k m : ℕ) → k < m → up_by b (up journal) k < up_by b (up journal) m
    by rest true k m l = let r = rest k m l in omega (arith, r)
    by rest false k zero l = absurd (omega (arith, l))
    by rest false zero (suc m) l = omega arith
    by rest false (suc k) (suc m) l = let r = rest k m (omega (arith, l)) in omega (arith, r)

get_up : (journal : List Event) (k : ℕ) (event : Event) → slice_get (plain journal) k ≡ Some event → slice_get journal (up journal k) ≡ Some event
get_up [] k event is = absurd (cc)
get_up (first ∷ journal) k event is = by (λ n there. get_up journal n event there) (is_note first) k is
  where
    by : ((n : ℕ) → slice_get (plain journal) n ≡ Some event → slice_get journal (up journal n) ≡ Some event) → (b : Bool) (k : ℕ) → slice_get (joined_by b first (plain journal)) k ≡ Some event → slice_get (first ∷ journal) (up_by b (up journal) k) ≡ Some event
    by rest true k is = rest k is
    by rest false zero is = is
    by rest false (suc k) is = rest k is

down_up : (journal : List Event) (k : ℕ) (event : Event) → slice_get (plain journal) k ≡ Some event → down journal (up journal k) ≡ k
down_up [] k event is = refl
down_up (first ∷ journal) k event is = by (λ n there. down_up journal n event there) (is_note first) refl k is
  where
    by : ((n : ℕ) → slice_get (plain journal) n ≡ Some event → down journal (up journal n) ≡ n) → (b : Bool) → is_note first ≡ b → (k : ℕ) → slice_get (joined_by b first (plain journal)) k ≡ Some event → down (first ∷ journal) (up_by b (up journal) k) ≡ k
    by rest true note k is = ap (λ (b : Bool). down_by b (down journal (up journal k))) note ∙ rest k is
    by rest false note zero is = refl
    by rest false note (suc k) is = ap (λ (b : Bool). down_by b (down journal (up journal k))) note ∙ ap suc (rest k is)

-- an event that makes an end is no note
made_no_note : (end : ℕ) (event : Event) → Makes end event → is_note event ≡ false
made_no_note end (events.Connect asked) makes = refl
made_no_note end (events.Incoming heard) makes = refl
made_no_note end event makes = absurd makes

-- ---- partners

module _ (journal : List Event) where
  partner_down : (p q : ℕ) (heard : Indication) (asked : Request) → Partner journal p q heard asked → Partner (plain journal) (down journal p) (down journal q) heard asked
  partner_down p q heard asked x = record {
    is = get_down journal p (Incoming heard) x.is refl;
    latest = record {
      is = get_down journal q (Connect asked) x.latest.is refl;
      before = down_rises journal q p (Connect asked) x.latest.is refl x.latest.before;
      from = x.latest.from;
      by = x.latest.by;
      last = λ r other above below is from by.
          (let at : down journal (up journal r) ≡ r = down_up journal r (Connect other) is in
          let there = get_up journal r (Connect other) is in
          x.latest.last (up journal r) other
          (higher q (up journal r) (Connect other) there refl (subst (λ (n : ℕ). down journal q < n) (sym at) above))
          (higher (up journal r) p (Incoming heard) x.is refl (subst (λ (n : ℕ). n < down journal p) (sym at) below))
          there from by);
    };
  }
    where
      -- a place with such an event below another
      higher : (a b : ℕ) (event : Event) → slice_get journal b ≡ Some event → is_note event ≡ false → down journal a < down journal b → a < b
      higher a b event is some low = elim (cases_order a b) [
        | inl same ↦ absurd (let e = ap (λ (n : ℕ). down journal n) same in omega (arith, e, low))
        | inr (inl less) ↦ less
        | inr (inr more) ↦ absurd (let e = down_rises journal b a event is some more in omega (arith, e, low))
      ]

  partner_up : (p q : ℕ) (heard : Indication) (asked : Request) → Partner (plain journal) p q heard asked → Partner journal (up journal p) (up journal q) heard asked
  partner_up p q heard asked x =
      let p_is : down journal (up journal p) ≡ p = down_up journal p (Incoming heard) x.is in
      let q_is : down journal (up journal q) ≡ q = down_up journal q (Connect asked) x.latest.is in
      let asked_at = get_up journal q (Connect asked) x.latest.is in
      record {
        is = get_up journal p (Incoming heard) x.is;
        latest = record {
          is = asked_at;
          before = up_rises journal q p x.latest.before;
          from = x.latest.from;
          by = x.latest.by;
          last = λ r other above below is from by.
              x.latest.last (down journal r) other
              (subst (λ (n : ℕ). n < down journal r) q_is (down_rises journal (up journal q) r (Connect asked) asked_at refl above))
              (subst (λ (n : ℕ). down journal r < n) p_is (down_rises journal r (up journal p) (Connect other) is refl below))
              (get_down journal r (Connect other) is refl) from by;
        };
      }

  ends_down : (calling called : ℕ) → AreEnds journal calling called → AreEnds (plain journal) calling called
  ends_down calling called x = record {
    p = down journal x.p;
    q = down journal x.q;
    heard = x.heard;
    asked = x.asked;
    partner = partner_down x.p x.q x.heard x.asked x.partner;
    calling_is = x.calling_is;
    called_is = x.called_is;
  }

  ends_up : (calling called : ℕ) → AreEnds (plain journal) calling called → AreEnds journal calling called
  ends_up calling called x = record {
    p = up journal x.p;
    q = up journal x.q;
    heard = x.heard;
    asked = x.asked;
    partner = partner_up x.p x.q x.heard x.asked x.partner;
    calling_is = x.calling_is;
    called_is = x.called_is;
  }

  -- the place of an event that is no note is the one that stands above its place among the plain events
  event_back : (p : ℕ) (event : Event) → slice_get journal p ≡ Some event → is_note event ≡ false → up journal (down journal p) ≡ p
  event_back p event is some =
      let low = get_down journal p event is some in
      let same : down journal (up journal (down journal p)) ≡ down journal p = down_up journal (down journal p) event low in
      let there = get_up journal (down journal p) event low in
      elim (cases_order (up journal (down journal p)) p) [
        | inl equal ↦ equal
        | inr (inl less) ↦ absurd (let e = down_rises journal (up journal (down journal p)) p event there some less in omega (arith, e, same))
        | inr (inr more) ↦ absurd (let e = down_rises journal p (up journal (down journal p)) event is some more in omega (arith, e, same))
      ]

  place_back : (p : ℕ) (heard : Indication) → slice_get journal p ≡ Some (Incoming heard) → up journal (down journal p) ≡ p
  place_back p heard is = event_back p (Incoming heard) is refl

  queue_on : (given got : ℕ) → IsQueue (submitted given (plain journal)) (shown got (plain journal)) → IsQueue (submitted given journal) (shown got journal)
  queue_on given got q =
      subst (λ (us : List Marked). IsQueue us (shown got journal)) (submitted_plain given journal)
      (subst (λ (us : List Marked). IsQueue (submitted given (plain journal)) us) (shown_plain got journal) q)

  queues_on : (titles : List (List ℕ)) → AreQueues titles (plain journal) → AreQueues titles journal
  queues_on titles l = record {
    made = λ p again end event other is was makes remakes.
        (let some = made_no_note end event makes in
        let none = made_no_note end other remakes in
        let same = l.made (down journal p) (down journal again) end event other (get_down journal p event is some) (get_down journal again other was none) makes remakes in
        sym (event_back p event is some) ∙ ap (λ (n : ℕ). up journal n) same ∙ event_back again other was none);
    one = λ p other q heard again asked a b.
        (let same = l.one (down journal p) (down journal other) (down journal q) heard again asked (partner_down p q heard asked a) (partner_down other q again asked b) in
        sym (place_back p heard a.is) ∙ ap (λ (n : ℕ). up journal n) same ∙ place_back other again b.is);
    some = λ p heard is.
        (let has = l.some (down journal p) heard (get_down journal p (Incoming heard) is refl) in
        record {
          q = up journal has.q;
          asked = has.asked;
          matched = has.matched;
          partner = subst (λ (n : ℕ). Partner journal n (up journal has.q) heard has.asked) (place_back p heard is) (partner_up (down journal p) has.q heard has.asked has.partner);
        });
    there = λ calling called ends. queue_on calling called (l.there calling called (ends_down calling called ends));
    back = λ calling called ends. queue_on called calling (l.back calling called (ends_down calling called ends));
    none = λ end calls called.
        sym (shown_plain end journal) ∙ l.none end (λ other ends. calls other (ends_up end other ends)) (λ other ends. called other (ends_up other end ends));
  }

-- ---- fronts

pub plain_more : (front back : List Event) → plain (front ++ back) ≡ plain front ++ plain back
plain_more [] back = refl
plain_more (event ∷ front) back = by (is_note event) (plain_more front back)
  where
    by : (b : Bool) → plain (front ++ back) ≡ plain front ++ plain back → joined_by b event (plain (front ++ back)) ≡ joined_by b event (plain front) ++ plain back
    by true rest = rest
    by false rest = ap (λ (j : List Event). event ∷ j) rest

-- what is no note stays
plain_kept : (event : Event) (back : List Event) → is_note event ≡ false → plain (event ∷ back) ≡ event ∷ plain back
plain_kept event back is = ap (λ (b : Bool). joined_by b event (plain back)) is

-- ---- systems that begin again

-- an event that makes an end, or is one of an end, is no note
makes_no_note : (system end : ℕ) (event : Event) → MakesAt system end event → is_note event ≡ false
makes_no_note system end (events.Connect asked) makes = refl
makes_no_note system end (events.Incoming heard) makes = refl
makes_no_note system end event makes = absurd makes

of_no_note : (end : ℕ) (event : Event) → IsOf end event → is_note event ≡ false
of_no_note end (events.Joined inbound outbound) is = absurd is
of_no_note end (events.No cause) is = absurd is
of_no_note end event is = refl

-- no note is a tick
clock_plain : (now : ℕ) (journal : List Event) → clock_from now (plain journal) ≡ clock_from now journal
clock_plain now [] = refl
clock_plain now (events.Tick tick ∷ journal) = clock_plain tick journal
clock_plain now (events.No refused.Relayed ∷ journal) = clock_plain now journal
clock_plain now (event ∷ journal) = clock_plain now journal

tick_plain : (journal : List Event) → tick_after (plain journal) ≡ tick_after journal
tick_plain journal = clock_plain 0 journal

silence_on : (frozen : ℕ) (journal : List Event) → KeepsSilence frozen (plain journal) → KeepsSilence frozen journal
silence_on frozen journal k = record {
  lost = λ front middle rest back making event end system is makes of.
      (let inner : plain (rest ++ event ∷ back) ≡ plain rest ++ event ∷ plain back =
      plain_more rest (event ∷ back) ∙ ap (λ (j : List Event). plain rest ++ j) (plain_kept event back (of_no_note end event of)) in
      let second : plain (middle ++ events.Restart system ∷ (rest ++ event ∷ back)) ≡ plain middle ++ events.Restart system ∷ (plain rest ++ event ∷ plain back) =
      plain_more middle (events.Restart system ∷ (rest ++ event ∷ back)) ∙ ap (λ (j : List Event). plain middle ++ events.Restart system ∷ j) inner in
      let whole : plain journal ≡ plain front ++ making ∷ (plain middle ++ events.Restart system ∷ (plain rest ++ event ∷ plain back)) =
      ap plain is ∙ plain_more front (making ∷ (middle ++ events.Restart system ∷ (rest ++ event ∷ back)))
      ∙ ap (λ (j : List Event). plain front ++ j) (plain_kept making (middle ++ events.Restart system ∷ (rest ++ event ∷ back)) (makes_no_note system end making makes)
      ∙ ap (λ (j : List Event). making ∷ j) second) in
      k.lost (plain front) (plain middle) (plain rest) (plain back) making event end system whole makes of);
  late = λ front middle back making end system is makes.
      (let inner : plain (middle ++ making ∷ back) ≡ plain middle ++ making ∷ plain back =
      plain_more middle (making ∷ back) ∙ ap (λ (j : List Event). plain middle ++ j) (plain_kept making back (makes_no_note system end making makes)) in
      let whole : plain journal ≡ plain front ++ events.Restart system ∷ (plain middle ++ making ∷ plain back) =
      ap plain is ∙ plain_more front (events.Restart system ∷ (middle ++ making ∷ back)) ∙ ap (λ (j : List Event). plain front ++ events.Restart system ∷ j) inner in
      let before : tick_after (plain front) ≡ tick_after front = tick_plain front in
      let after : tick_after (plain front ++ events.Restart system ∷ plain middle) ≡ tick_after (front ++ events.Restart system ∷ middle) =
      ap tick_after (sym (plain_more front (events.Restart system ∷ middle))) ∙ tick_plain (front ++ events.Restart system ∷ middle) in
      let low = k.late (plain front) (plain middle) (plain back) making end system whole makes in
      omega (arith, low, before, after));
}

pub noted : (frozen : ℕ) (titles : List (List ℕ)) (journal : List Event) → Lawful frozen titles (plain journal) → Lawful frozen titles journal
noted frozen titles journal lawful = λ front back is.
    (let l = lawful (plain front) (plain back) (ap plain is ∙ plain_more front back) in
    record { queues = queues_on front titles l.queues; silence = silence_on frozen front l.silence })

-- ---- raw units

-- the events up to one that is no note stand among all, up to that one
record StandsIn (journal : List Event) (earlier : List Event) (event : Event) : Type 0 where
  front : List Event
  back : List Event
  is : journal ≡ front ++ event ∷ back
  plain_is : plain front ≡ earlier

stands_in : (journal earlier later : List Event) (event : Event) → plain journal ≡ earlier ++ event ∷ later → StandsIn journal earlier event
stands_in [] earlier later event is = absurd (nowhere earlier is)
  where
    nowhere : (earlier : List Event) → [] ≡ earlier ++ event ∷ later → ⊥
    nowhere [] none = cc
    nowhere (other ∷ earlier) none = cc
stands_in (first ∷ journal) earlier later event is = by (λ front there. stands_in journal front later event there) (is_note first) refl earlier is
  where
    by : ((front : List Event) → plain journal ≡ front ++ event ∷ later → StandsIn journal front event) → (b : Bool) → is_note first ≡ b → (earlier : List Event) → joined_by b first (plain journal) ≡ earlier ++ event ∷ later
        → StandsIn (first ∷ journal) earlier event
    by others true note earlier there =
        let rest = others earlier there in
        record {
          front = first ∷ rest.front;
          back = rest.back;
          is = ap (λ (j : List Event). first ∷ j) rest.is;
          plain_is = ap (λ (b : Bool). joined_by b first (plain rest.front)) note ∙ rest.plain_is;
        }
    by others false some [] there =
        let same : first ≡ event = cc in
        record { front = []; back = journal; is = ap (λ (e : Event). e ∷ journal) same; plain_is = refl }
    by others false some (other ∷ earlier) there =
        let same : first ≡ other = cc in
        let tail : plain journal ≡ earlier ++ event ∷ later = cc in
        let rest = others earlier tail in
        record {
          front = first ∷ rest.front;
          back = rest.back;
          is = ap (λ (j : List Event). first ∷ j) rest.is;
          plain_is = ap (λ (b : Bool). joined_by b first (plain rest.front)) some ∙ ap (λ (j : List Event). first ∷ j) rest.plain_is ∙ ap (λ (e : Event). e ∷ earlier) same;
        }

-- a raw unit that was sent by a plain event was sent, as long before
pub raw_noted : (life : ℕ) (titles : List (List ℕ)) (journal : List Event) → RawLawful life titles (plain journal) → RawLawful life titles journal
raw_noted life titles journal lawful before after system from octets is =
    let sent = lawful (plain before) (plain after) system from octets (ap plain is ∙ plain_more before (events.Unit system from octets ∷ after)) in
    let there = stands_in before sent.earlier sent.later _ sent.sent in
    let now : tick_after (plain before) ≡ tick_after before = tick_plain before in
    let past : tick_after sent.earlier ≡ tick_after there.front = ap tick_after (sym there.plain_is) ∙ tick_plain there.front in
    let low = sent.recent in
    record {
      sender = sent.sender;
      sender_title = sent.sender_title;
      own_title = sent.own_title;
      earlier = there.front;
      later = there.back;
      sender_is = sent.sender_is;
      from_is = sent.from_is;
      own_is = sent.own_is;
      sent = there.is;
      recent = omega (arith, low, now, past);
    }
