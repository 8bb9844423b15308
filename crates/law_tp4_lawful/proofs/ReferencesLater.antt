-- A unit that floats before an end is made is for an end that was made before: the call that makes the new end keeps all offers, and there the older end
-- is long gone. So what comes to an end was offered at the tick of its event, or later.
use Rattle.std.proofs.Common.{◌≡◌, ◌≢◌, inl, inr, true, ℕ, zero, suc, ◌+◌, ◌<◌, ◌≤◌, List, [], ◌∷◌, ◌++◌, length, slice_get, Some, refl, sym, ◌∙◌, ap, subst, arith, append_assoc, length-append, Contains}
use Rattle.std.specs.List.{AllByRecursion}
use Rattle.std.proofs.lemmas.Bool.{cases_Bool, cases_lt}
use Rattle.std.proofs.lemmas.Option.{none-some, slice_get_within}
use Rattle.osi_base.specs.Link.{Link}
use Rattle.osi_base.specs.Calls.{Call, Keeps}
use Rattle.script_journal.specs.Lawful.{Makes}
use Rattle.script_journal.specs.Partner.{AreEnds, ArePartners, IsLatest}
use Rattle.script_journal.specs.RawLawful.{clock_after, clock_from, tick_after}
use Rattle.script_journal.specs.declared.event.Event.{Event}
use Rattle.script_journal.specs.declared.event.Event.TheVariants as events
use Rattle.script_journal.specs.declared.event.Request.{Request}
use Rattle.tpdu.specs.Values.{TpduAndSum, destination_of}
use Rattle.tpdu.specs.declared.tpdu.Tpdu.{Tpdu as WireTpdu}
use Rattle.tp4_number.specs.Number.{whole}
use Rattle.tp4_conn.specs.End.{IsTimed}
use Rattle.tp4_conn.specs.declared.timers.Timers.{Timers}
use Rattle.tp4_entity.specs.Entity.{Entity}
use Rattle.tp4_entity.specs.Unit.{extended_of}
use Rattle.law_tp4_history.specs.Ends.{Answer, Cr, Offer, Origin, Sent as SentBy, Times, Tpdu, frozen}
use Rattle.law_tp4_history.specs.History.{IsPartner}
use Rattle.law_tp4_history.specs.Journals.{Written}
use Rattle.law_tp4_history.specs.Tracks.{IsNothing, Whole}
use Rattle.law_tp4_history.proofs.Meets.{aimed_bound, answer_bound}
use Rattle.law_tp4_history.proofs.Places.{asking, incoming, get_left}
use Rattle.law_tp4_history.proofs.Sound.{Until, one_partner, partner_low}
use Rattle.law_tp4_history.proofs.Written.{Kept}
use Rattle.law_tp4_history.specs.Moves.{times_of}
use Rattle.tp4_world.proofs.Lined.{all_did_back}
use Rattle.tp4_world.specs.Called.{Did, DidAll, KeepsLimits, WorldCall}
use Rattle.tp4_world.specs.World.{World}
use Rattle.law_tp4_lawful.specs.Called.{OnCalls}
use Rattle.law_tp4_lawful.specs.References.{ComesTo, IsMadeBy, IsNotBefore}
use Rattle.law_tp4_lawful.proofs.Known.{IsOffered as WasOffered, Known}
use Rattle.law_tp4_lawful.proofs.Worlds.{Explains, Followed, IsBacked, OneInUnit, Outcomes, Rests}
use Rattle.law_tp4_proper.specs.Rest.{AreInTime, AreProper}
use Rattle.law_tp4_lawful.proofs.ActsLines.{Flowing}
use Rattle.law_tp4_lawful.proofs.FramesKnown.{keeps}
use Rattle.law_tp4_lawful.proofs.MeetsOthers.{KnowsTaken}
use Rattle.law_tp4_lawful.proofs.ReferencesMet.{IsMet, met, no_request, none, only, target_of}
use Rattle.law_tp4_lawful.proofs.ReferencesOwn.{are_partners, partners_are}
use Rattle.law_tp4_lawful.proofs.ReferencesSince.{AreUpTo, CallGoes, SinceBy, calls_go, did_goes, told_up, up_append, up_more}
use Rattle.law_tp4_lawful.proofs.CalledStarts.{followed_by}
use Rattle.law_tp4_lawful.proofs.ReferencesStays.{did_stays}
use Rattle.law_tp4_lawful.proofs.WorldCalls.{calls_hold, did_holds}
use Rattle.law_tp4_lawful.proofs.WorldStarts.{started}
use Rattle.law_tp4_lawful.proofs.WorldOutcomes.{one_unit, outcomes}
use Rattle.law_tp4_lawful.proofs.WorldKnown.{plain_kept}

-- ---- lists

get_at : (xs ys : List Event) (event : Event) → slice_get (xs ++ event ∷ ys) (length xs) ≡ Some event
get_at [] ys event = refl
get_at (x ∷ xs) ys event = get_at xs ys event

-- an event within the first of two lists
split_within : (xs ys front back : List Event) (event : Event) → xs ++ ys ≡ front ++ event ∷ back → length front < length xs → (rest : List Event) × (xs ≡ front ++ event ∷ rest)
split_within [] ys front back event is low = absurd (omega (arith, low))
split_within (x ∷ xs) ys [] back event is low = let head : x ≡ event = cc is in (xs, ap (λ (e : Event). e ∷ xs) head)
split_within (x ∷ xs) ys (y ∷ front) back event is low =
    let head : x ≡ y = cc is in
    let tail : xs ++ ys ≡ front ++ event ∷ back = cc is in
    let rest = split_within xs ys front back event tail (omega (arith, low)) in
    (rest.0, cc (head, rest.1))

-- what stands at a place
split_at : (xs : List Event) (p : ℕ) (event : Event) → slice_get xs p ≡ Some event → (front back : List Event) × (xs ≡ front ++ event ∷ back)
split_at [] p event is = absurd (none-some _ is)
split_at (x ∷ xs) zero event is = let same : x ≡ event = cc is in ([], xs, ap (λ (e : Event). e ∷ xs) same)
split_at (x ∷ xs) (suc p) event is = let rest = split_at xs p event is in (x ∷ rest.0, rest.1, ap (λ (es : List Event). x ∷ es) rest.2)

-- the tick of an event is not past the clock
front_up : (c now : ℕ) (front back : List Event) → now ≤ c → AreUpTo c (front ++ back) → clock_from now front ≤ c
front_up c now [] back low up = low
front_up c now (event ∷ front) back low up = front_up c (clock_after now event) front back (up.0 now low) up.1

-- ---- the ends of a journal

latest_on : (journal made : List Event) (p q : ℕ) (calling : List ℕ) (reference : ℕ) (asked : Request) → p < length journal → IsLatest journal p q calling reference asked
    → IsLatest (journal ++ made) p q calling reference asked
latest_on journal made p q calling reference asked low l = record {
  is = get_left journal made q (omega (arith, low, l.before)) ∙ l.is;
  before = l.before;
  from = l.from;
  by = l.by;
  last = λ r other up below is. l.last r other up below (sym (get_left journal made r (omega (arith, low, below))) ∙ is);
}

ends_on : (journal made : List Event) (calling called : ℕ) → AreEnds journal calling called → AreEnds (journal ++ made) calling called
ends_on journal made calling called e =
    let low = slice_get_within journal e.p (events.Incoming e.heard) e.partner.is in
    record {
      p = e.p;
      q = e.q;
      heard = e.heard;
      asked = e.asked;
      partner = record { is = get_left journal made e.p low ∙ e.partner.is; latest = latest_on journal made e.p e.q e.heard.calling e.heard.partner e.asked low e.partner.latest };
      calling_is = e.calling_is;
      called_is = e.called_is;
    }

pub partners_on : (journal made : List Event) (x y : ℕ) → ArePartners journal x y → ArePartners (journal ++ made) x y
partners_on journal made x y (inl e) = inl (ends_on journal made x y e)
partners_on journal made x y (inr e) = inr (ends_on journal made y x e)

-- the address and the reference at which an event makes an end
abbrev address_in : Event → List ℕ
address_in (events.Connect asked) = asked.calling
address_in (events.Incoming heard) = heard.called
address_in event = []

abbrev reference_in : Event → ℕ
reference_in (events.Connect asked) = asked.reference
reference_in (events.Incoming heard) = heard.reference
reference_in event = 0

module _ (titles : List (List ℕ)) (timers : Timers) (w : Whole) (journal : List Event) (kept : Kept (times_of timers) titles w journal) where
  -- at the place p stands the event of end y
  record IsMadeAt (p y : ℕ) (event : Event) : Type 0 where
    k : ℕ
    number : k + 1 ≡ y
    low : k < w.base.count
    at : kept.placed.at k ≡ p
    address : address_in event ≡ (w.base.end k).birth.address
    reference : reference_in event ≡ (w.base.end k).birth.reference

  made_at : (p y : ℕ) (event : Event) → slice_get journal p ≡ Some event → Makes y event → IsMadeAt p y event
  made_at p y (events.Connect asked) is makes =
      let i = asking (times_of timers) titles w.base kept.sound kept.listed journal kept.placed p asked is in
      record { k = i.k; number = sym i.asks.end ∙ makes; low = i.low; at = i.at; address = i.asks.calling; reference = i.asks.reference }
  made_at p y (events.Incoming heard) is makes =
      let i = incoming (times_of timers) titles w.base kept.sound kept.listed journal kept.placed p heard is in
      record { k = i.b; number = sym i.hears.end ∙ makes; low = i.caller.b_low; at = i.at; address = i.hears.called; reference = i.hears.reference }
  made_at p y other is makes = absurd makes

  -- the event of an end
  event_of : (k : ℕ) → k < w.base.count → (event : Event) × (slice_get journal (kept.placed.at k) ≡ Some event) × Makes (k + 1) event
  event_of k low = elim (cases_Bool (w.base.end k).birth.is_called) [
    | inl called ↦ (let i = kept.placed.called k low called in (events.Incoming i.heard, i.is, i.hears.end))
    | inr calls ↦ (let i = kept.placed.calling k low calls in (events.Connect i.asked, i.is, i.asks.end))
  ]

-- ---- a call that makes an end

module _ {C : Type 0} (link : C → Link (List ℕ)) (titles : List (List ℕ)) (timers : Timers) (w next : Whole) (journal made : List Event) (old new : World C)
    (before : Explains link titles timers w journal old) (after : Explains link titles timers next (journal ++ made) new) (one : OneInUnit) where
  kept : Kept (times_of timers) titles w journal
  kept = keeps titles timers w journal old.entities old.ends before.known

  kept_after : Kept (times_of timers) titles next (journal ++ made)
  kept_after = keeps titles timers next (journal ++ made) new.entities new.ends after.known

  -- its end is none of those before
  is_new : (p y : ℕ) (event : Event) (m : IsMadeAt titles timers next (journal ++ made) kept_after p y event) → length journal ≤ p → w.base.count ≤ m.k
  is_new p y event m past = elim (cases_lt m.k w.base.count) [
    | inl low ↦
        (let e = event_of titles timers w journal kept m.k low in
        let q = kept.placed.at m.k in
        let within = slice_get_within journal q e.0 e.1 in
        let again = made_at titles timers next (journal ++ made) kept_after q (m.k + 1) e.0 (get_left journal made q within ∙ e.1) e.2 in
        let same : again.k ≡ m.k = omega (arith, again.number) in
        absurd (omega (arith, again.at, m.at, ap kept_after.placed.at same, within, past)))
    | inr up ↦ up
  ]

  -- no older end there has something afloat for it
  late : (p y z : ℕ) (event : Event) (o : Offer) (m : IsMadeAt titles timers next (journal ++ made) kept_after p y event) → length journal ≤ p → z < w.base.count → z < next.base.count
      → o.to ≡ (next.base.end z).birth.address → o.tpdu.target ≡ (next.base.end z).birth.reference → address_in event ≡ o.to → reference_in event ≡ o.tpdu.target
      → Until (next.base.end z).stop next.base.clock (frozen (times_of timers)) → ⊥
  late p y z event o m past low low_after to target own reference bound =
      let up = is_new p y event m past in
      let b = kept_after.sound.booked z m.k (omega (arith, low, up)) m.low (sym to ∙ sym own ∙ m.address) (sym target ∙ sym reference ∙ m.reference) in
      let s = kept_after.sound.own m.k m.low in
      omega (arith, bound b.0 b.1, b.2, s.made_low, s.took_low)

  made_late : (p y : ℕ) (event : Event) (o : Offer) (m : IsMadeAt titles timers next (journal ++ made) kept_after p y event) → length journal ≤ p → Contains w.base.offers o → Contains next.base.offers o
      → o.tpdu.kind ≢ Cr → next.base.clock ≤ o.tick + timers.life → address_in event ≡ o.to → reference_in event ≡ o.tpdu.target → ⊥
  made_late p y event o m past there stays other fresh own reference = by o.origin refl
    where
      by : (g : Origin) → o.origin ≡ g → ⊥
      by (SentBy x) is =
          let a = ((kept.sound.offers o there).sent x is).aimed other in
          let a_after = ((kept_after.sound.offers o stays).sent x is).aimed other in
          let low = (partner_low (times_of timers) w.base kept.sound x a.y a.partner).1 in
          let partners = partners_on journal made (a.y + 1) (x + 1) (swapped journal (x + 1) (a.y + 1) (partners_are link titles timers w journal old before one x a.y a.partner)) in
          let p_after = are_partners link titles timers next (journal ++ made) new after one (a.y + 1) (x + 1) x refl partners in
          let z_is : p_after.0 ≡ a.y = omega (arith, p_after.1) in
          let same : a_after.y ≡ a.y = one_partner (times_of timers) next.base kept_after.sound x a_after.y a.y a_after.partner (subst (λ (j : ℕ). IsPartner next.base x j) z_is p_after.2) in
          let low_after = (partner_low (times_of timers) next.base kept_after.sound x a_after.y a_after.partner).1 in
          late p y a_after.y event o m past (omega (arith, low, same)) low_after a_after.to a_after.target own reference (aimed_bound (times_of timers) next.base kept_after.sound o x a_after fresh)
        where
          swapped : (xs : List Event) (one other : ℕ) → ArePartners xs one other → ArePartners xs other one
          swapped xs one other (inl e) = inr e
          swapped xs one other (inr e) = inl e
      by (Answer z since) is =
          let a = (kept.sound.offers o there).answers z since is in
          let a_after = (kept_after.sound.offers o stays).answers z since is in
          late p y z event o m past a.z_low a_after.z_low a_after.to a_after.target own reference (answer_bound (times_of timers) next.base kept_after.sound o z since a_after fresh)

-- ---- a run

module _ (titles : List (List ℕ)) (timers : Timers) (timed : IsTimed timers) {C : Type 0} (link : C → Link (List ℕ)) (steps : C → Call (List ℕ) → C → Type 0)
    (law : (old : C) (call : Call (List ℕ)) (new : C) → steps old call new → Keeps (link old) call (link new))
    (followed : Followed titles timers) (one : OneInUnit) (Sound : Entity → Type 0) (InTime : ℕ → Entity → Type 0) (outcomes : Outcomes Sound InTime)
    (last : World C) (y : ℕ) (t : WireTpdu) (c : ComesTo link last y t) (live : (link last.carrier).clock ≤ c.tick + timers.life) where
  -- where the unit floats it was offered, to the reference that its TPDU names
  record IsOffered (w : Whole) : Type 0 where
    offer : Offer
    there : Contains w.base.offers offer
    tick_is : offer.tick ≡ c.tick
    to : offer.to ≡ c.unit.to
    target : offer.tpdu.target ≡ c.reference
    other : offer.tpdu.kind ≢ Cr

  offered : (w : Whole) (journal : List Event) (world : World C) → Explains link titles timers w journal world → Contains (link world.carrier).floating (c.tick, c.unit) → IsOffered w
  offered w journal world e floats =
      let b : IsBacked w.base c.tick c.unit = e.carries.backed (c.tick, c.unit) floats c.transport in
      let target : destination_of b.sent.tpdu ≡ Some c.reference = elim (one (extended_of c.entity) c.unit.octets c.rest b.sent c.tpdus c.told b.offered.sendable b.written c.separates c.ends) [
        | inl r ↦ sym r.4 ∙ ap (λ (x : TpduAndSum). destination_of x.0) (only c.tpdus r.0 (t, c.sum) r.1 c.among) ∙ c.destination
        | inr bad ↦ absurd (none c.tpdus (t, c.sum) bad.2 c.among)
      ] in
      record {
        offer = b.offered.offer;
        there = b.offered.offered;
        tick_is = b.offered.tick_is;
        to = b.offered.to_is ∙ b.to_is;
        target = ap (λ (x : Tpdu). x.target) b.offered.seen_as ∙ target_of b.sent.tpdu b.offered.n c.reference target;
        other = λ request. no_request b.sent.tpdu b.offered.n c.reference target (sym (ap (λ (x : Tpdu). x.kind) b.offered.seen_as) ∙ request);
      }

  up_after : (first mid : World C) (journal made : List Event) → AreUpTo (link first.carrier).clock journal → CallGoes link steps law first made mid → AreUpTo (link mid.carrier).clock (journal ++ made)
  up_after first mid journal made up goes =
      up_append (link mid.carrier).clock journal made (up_more (link first.carrier).clock (link mid.carrier).clock journal (omega (arith, goes.since.clock)) up) goes.since.ticks

  -- of an event of the next call
  in_call : (call : WorldCall) (calls : List WorldCall) (first mid : World C) (journal made rest : List Event) → (link mid.carrier).honest ≡ true → KeepsLimits call
      → Rests link Sound titles timers journal first → AreUpTo (link first.carrier).clock journal → Did link steps whole first call made mid → DidAll link steps whole mid calls rest last
      → (front back : List Event) (event : Event) → journal ++ made ≡ front ++ event ∷ back → length journal ≤ length front → Makes y event → address_in event ≡ c.unit.to → reference_in event ≡ c.reference
      → tick_after front ≤ c.tick
  in_call call calls first mid journal made rest honest limits h up step run front back event is past makes own reference =
      elim (cases_lt c.tick (link mid.carrier).clock) [ inl early ↦ absurd (impossible early) | inr on_time ↦ omega (arith, bound, on_time) ]
    where
      goes : CallGoes link steps law first made mid
      goes = did_goes link steps law whole call first mid made step

      bound : tick_after front ≤ (link mid.carrier).clock
      bound = front_up (link mid.carrier).clock 0 front (event ∷ back) (omega arith) (subst (AreUpTo (link mid.carrier).clock) is (up_after first mid journal made up goes))

      on : (by : ℕ) × SinceBy link steps law by mid.carrier rest last.carrier
      on = calls_go link steps law whole calls mid last rest run

      impossible : c.tick < (link mid.carrier).clock → ⊥
      impossible early =
          let at_mid : Contains (link mid.carrier).floating (c.tick, c.unit) = elim (on.1.grows (c.tick, c.unit) c.floats) [ inl before ↦ before | inr now ↦ absurd (omega (arith, now, early)) ] in
          let at_first : Contains (link first.carrier).floating (c.tick, c.unit) = goes.late (c.tick, c.unit) at_mid early in
          let o = offered h.w journal first h.explains at_first in
          let s = did_stays titles timers timed link steps law followed one Sound InTime outcomes call h.w first mid journal made limits honest h.explains h.rest step in
          let kept = kept_after link titles timers h.w s.next journal made first mid h.explains s.explains one in
          let m = made_at titles timers s.next (journal ++ made) kept (length front) y event (ap (λ (xs : List Event). slice_get xs (length front)) is ∙ get_at front back event) makes in
          made_late link titles timers h.w s.next journal made first mid h.explains s.explains one (length front) y event o.offer m past o.there (s.keeps o.offer o.there) o.other
          (omega (arith, s.explains.carries.clock, on.1.clock, live, o.tick_is)) (own ∙ sym o.to) (reference ∙ sym o.target)

  -- of an event of the calls that are left
  pub later_in : (calls : List WorldCall) (first : World C) (journal rest : List Event) → (link last.carrier).honest ≡ true → AllByRecursion KeepsLimits calls → Rests link Sound titles timers journal first
      → AreUpTo (link first.carrier).clock journal → DidAll link steps whole first calls rest last → (front back : List Event) (event : Event) → journal ++ rest ≡ front ++ event ∷ back
      → length journal ≤ length front → Makes y event → address_in event ≡ c.unit.to → reference_in event ≡ c.reference → tick_after front ≤ c.tick
  later_in [] first journal rest honest limits h up run front back event is past makes own reference =
      absurd (omega (arith, past, ap length is, length-append journal rest, length-append front (event ∷ back), ap length run.0))
  later_in (call ∷ calls) first journal rest honest limits h up run front back event is past makes own reference =
      let made : List Event = run.1 in
      let honest_then : (link run.0.carrier).honest ≡ true = all_did_back link steps law whole calls run.0 last run.2 run.5 honest in
      let all : (journal ++ made) ++ run.2 ≡ front ++ event ∷ back = append_assoc journal made run.2 ∙ ap (λ (xs : List Event). journal ++ xs) (sym run.4) ∙ is in
      elim (cases_lt (length front) (length (journal ++ made))) [
        | inl within ↦
            (let split = split_within (journal ++ made) run.2 front back event all within in
            in_call call calls first run.0 journal made run.2 honest_then limits.0 h up run.3 run.5 front split.0 event split.1 past makes own reference)
        | inr beyond ↦
            later_in calls run.0 (journal ++ made) run.2 honest limits.1
            (did_holds titles timers (Known titles timers) WasOffered (plain_kept titles timers) timed link steps law followed one Sound InTime outcomes call first run.0 journal made limits.0 honest_then h run.3)
            (up_after first run.0 journal made up (did_goes link steps law whole call first run.0 made run.3)) run.5 front back event all beyond makes own reference
      ]

  -- and of every event, where no end was made before the calls
  pub made_by : (calls : List WorldCall) (first : World C) (journal rest : List Event) (w : Whole) → (link last.carrier).honest ≡ true → AllByRecursion KeepsLimits calls → Rests link Sound titles timers journal first
      → first.ends ≡ [] → AreUpTo (link first.carrier).clock journal → DidAll link steps whole first calls rest last → Explains link titles timers w (journal ++ rest) last → IsMadeBy (journal ++ rest) y c.tick
  made_by calls first journal rest w honest limits h no_ends up run e =
      let m : IsMet timers w y c.entity.own c.reference c.end c.tick c.unit.from t = met link titles timers w (journal ++ rest) last e one y t c in
      let kept : Kept (times_of timers) titles w (journal ++ rest) = keeps titles timers w (journal ++ rest) last.entities last.ends e.known in
      let made = event_of titles timers w (journal ++ rest) kept m.known.k m.known.at.low in
      let at = split_at (journal ++ rest) (kept.placed.at m.known.k) made.0 made.1 in
      record {
        before = at.0;
        event = made.0;
        after = at.1;
        is = at.2;
        makes = subst (λ (n : ℕ). Makes n made.0) m.number made.2;
        later = λ front back other is makes.
            (let i = made_at titles timers w (journal ++ rest) kept (length front) y other (ap (λ (xs : List Event). slice_get xs (length front)) is ∙ get_at front back other) makes in
            let same : i.k ≡ m.known.k = omega (arith, i.number, m.number) in
            later_in calls first journal rest honest limits h up run front back other is (past front back other is makes) makes
            (i.address ∙ ap (λ (k : ℕ). (w.base.end k).birth.address) same ∙ m.known.at.address ∙ sym c.to)
            (i.reference ∙ ap (λ (k : ℕ). (w.base.end k).birth.reference) same ∙ m.known.at.reference_is));
      }
    where
      past : (front back : List Event) (other : Event) → journal ++ rest ≡ front ++ other ∷ back → Makes y other → length journal ≤ length front
      past front back other is makes = elim (cases_lt (length front) (length journal)) [
        | inl within ↦
            (let split = split_within journal rest front back other is within in
            let kept_first : Kept (times_of timers) titles h.w journal = keeps titles timers h.w journal first.entities first.ends h.explains.known in
            let i = made_at titles timers h.w journal kept_first (length front) y other (ap (λ (xs : List Event). slice_get xs (length front)) split.1 ∙ get_at front split.0 other) makes in
            absurd (omega (arith, i.low, h.explains.known.count, ap length no_ends)))
        | inr beyond ↦ beyond
      ]

-- over whole numbers
pub not_before : {C : Type 0} (link : C → Link (List ℕ)) (steps : C → Call (List ℕ) → C → Type 0) (law : (old : C) (call : Call (List ℕ)) (new : C) → steps old call new → Keeps (link old) call (link new))
    (flowing : Flowing) (knows : KnowsTaken) (begins : (times : Times) (titles : List (List ℕ)) (w : Whole) → IsNothing w → Written times titles w [])
    → OnCalls link steps whole (IsNotBefore link)
not_before {C} link steps law flowing knows begins titles timers journal last a y t c =
    let r = a.run in
    let followed : Followed titles timers = followed_by flowing knows titles timers in
    let rests : Rests link AreProper titles timers r.begun r.first =
    started titles timers a.timed a.timed.inactive_least a.distinct r.placed r.is_first.entities r.untouched begins link steps law followed AreProper AreInTime outcomes r.made r.begun r.first r.is_first r.starts in
    let all : Rests link AreProper titles timers (r.begun ++ r.later) last =
    calls_hold titles timers (Known titles timers) WasOffered (plain_kept titles timers) a.timed link steps law followed one_unit AreProper AreInTime outcomes r.calls r.first last r.begun r.later a.honest a.limits rests r.did in
    let live : (link last.carrier).clock ≤ c.tick + timers.life = omega (arith, c.live, all.explains.carries.bounds c.unit.to) in
    let up : AreUpTo (link r.first.carrier).clock r.begun =
    subst (AreUpTo (link r.first.carrier).clock) (sym r.starts.made_is) (λ now low. omega arith, told_up (link r.first.carrier).clock r.starts.ups) in
    subst (λ (xs : List Event). IsMadeBy xs y c.tick) (sym r.journal_is)
    (made_by titles timers a.timed link steps law followed one_unit AreProper AreInTime outcomes last y t c live r.calls r.first r.begun r.later all.w a.honest a.limits rests
    (ap (λ (x : World C). x.ends) r.starts.becomes) up r.did all.explains)
