-- An input asks for one status and one text: what it is has one answer, and what is shown of its records is one text.
use Rattle.std.proofs.Common.{◌≡◌, ◌≢◌, ◌⊎◌, ◌+◌, ◌≤◌, ℕ, List, [], ◌∷◌, ◌++◌, length, inl, inr, refl, sym, ◌∙◌, ap, subst, arith, Option, Some}
use Rattle.std.proofs.lemmas.List.{append-nil, length-append}
use Rattle.octet_loop.specs.Limits.{most_octets, most_read}
use Rattle.octet_loop.specs.Outcome.{IsStopped, IsEnded, IsOver, IsClosed, Asks, AsksFor, AsksOne, IsFailure, Outcome}
use Rattle.octet_loop.proofs.Exact.{ran_asks}
use Rattle.osi_base.specs.Ends.{Took, Put, IsAtEnd}
use Rattle.osi_base.specs.declared.status.Status.{Status}
use Rattle.osi_base.specs.declared.status.Status.TheVariants.{Done, RefusedLine, RefusedWords, ReadFault, WriteFault, NoMemory, RefusedCapture, TooMuch}
use Rattle.capture_decode.specs.Capture.{Record}
use Rattle.capture_decode.specs.Course.{Refuses, Finishes, Overruns, capture_course, IsAccepted, IsRefused, IsPast}
use Rattle.capture_decode.specs.Faults.{IsFaultAfter, IsLasting}
use Rattle.capture_decode.specs.Show.{ShowsOctets, ShowsRecord, ShowsFrom, Shows, head_text, done_line, refused_line, toomuch_line}
use Rattle.capture_decode.specs.declared.cause.Cause.{Cause}
use Rattle.capture_decode.specs.declared.cause.Cause.TheVariants.{Short}
use Rattle.capture_decode.proofs.Exclusion.{split_same, one_capture, capture_not_fault, one_fault, one_begun, begun_not_fault, fault_more}
use Rattle.capture_show.specs.declared.ends.End.{End}
use Rattle.capture_show.specs.Shown.{ShowsFrame}

-- of a frame one text is shown
abbrev pub OneShow : Type 0
OneShow = (octets text other : List ℕ) (ends after more : List End) → ShowsFrame octets ends text after → ShowsFrame octets ends other more → (text ≡ other) × (after ≡ more)

-- a front of the same octets that is not longer
pub longer_front : (f x g y : List ℕ) → length f ≤ length g → f ++ x ≡ g ++ y → (rest : List ℕ) × (g ≡ f ++ rest)
longer_front [] x g y le h = (g, refl)
longer_front (a ∷ f) x [] y le h = absurd (omega arith)
longer_front (a ∷ f) x (b ∷ g) y le h =
    let head : a ≡ b = cc in
    let tail : f ++ x ≡ g ++ y = cc in
    let rest = longer_front f x g y (omega arith) tail in
    (rest.0, ap (λ (o : ℕ). o ∷ g) (sym head) ∙ ap (λ (t : List ℕ). a ∷ t) rest.1)

module _ (one_show : OneShow) where
  one_octets : (one : Record) (ends : List End) (text other : List ℕ) (after more : List End) → ShowsOctets one ends text after → ShowsOctets one ends other more → (text ≡ other) × (after ≡ more)
  one_octets one ends text other after more (inl h) (inl k) = (h.1 ∙ sym k.1, h.2 ∙ sym k.2)
  one_octets one ends text other after more (inl h) (inr k) = absurd (omega (arith, h.0, k.0))
  one_octets one ends text other after more (inr h) (inl k) = absurd (omega (arith, h.0, k.0))
  one_octets one ends text other after more (inr h) (inr k) = one_show one.octets text other ends after more h.1 k.1

  one_line : (number : ℕ) (one : Record) (ends : List End) (text other : List ℕ) (after more : List End) → ShowsRecord number one ends text after → ShowsRecord number one ends other more → (text ≡ other) × (after ≡ more)
  one_line number one ends text other after more h k =
      let same = one_octets one ends h.shown k.shown after more h.shows k.shows in
      (h.text_is ∙ ap (λ (t : List ℕ). head_text number one ++ t) same.0 ∙ sym k.text_is, same.1)

  one_from : (number : ℕ) (records : List Record) (ends : List End) (text other : List ℕ) (after more : List End) → ShowsFrom number records ends text after → ShowsFrom number records ends other more
      → (text ≡ other) × (after ≡ more)
  one_from number [] ends text other after more h k = (h.0 ∙ sym k.0, h.1 ∙ sym k.1)
  one_from number (one ∷ records) ends text other after more h k =
      let line = one_line number one ends h.0 k.0 h.1 k.1 h.3 k.3 in
      let rest = one_from (number + 1) records k.1 h.2 k.2 after more (subst (λ (e : List End). ShowsFrom (number + 1) records e h.2 after) line.1 h.4) k.4 in
      (h.5 ∙ ap (λ (t : List ℕ). t ++ h.2) line.0 ∙ ap (λ (t : List ℕ). k.0 ++ t) rest.0 ∙ sym k.5, rest.1)

  one_shows : (records others : List Record) (text other : List ℕ) → records ≡ others → Shows records text → Shows others other → text ≡ other
  one_shows records others text other same h k =
      (one_from 1 others [] text other h.0 k.0 (subst (λ (rs : List Record). ShowsFrom 1 rs [] text h.0) same h.1) k.1).0

  one_finish : (octets text other : List ℕ) → Finishes octets text → Finishes octets other → text ≡ other
  one_finish octets text other h k =
      h.text_is ∙ ap (λ (t : List ℕ). t ++ done_line) (one_shows h.records k.records h.shown k.shown (one_capture octets h.records k.records h.capture k.capture) h.shows k.shows) ∙ sym k.text_is

  one_refusal : (octets text other : List ℕ) (offset place : ℕ) (cause next : Cause) → Refuses octets text offset cause → Refuses octets other place next → text ≡ other
  one_refusal octets text other offset place cause next h k =
      let same = one_fault octets h.records k.records offset place cause next h.fault k.fault in
      h.text_is ∙ ap (λ (t : List ℕ). t ++ refused_line offset cause) (one_shows h.records k.records h.shown k.shown same.0 h.shows k.shows)
      ∙ ap (λ (n : ℕ). k.shown ++ refused_line n cause) same.1 ∙ ap (λ (c : Cause). k.shown ++ refused_line place c) same.2 ∙ sym k.text_is

  one_over : (octets text other : List ℕ) → Overruns octets text → Overruns octets other → text ≡ other
  one_over octets text other h k =
      h.text_is ∙ ap (λ (t : List ℕ). t ++ toomuch_line)
      (one_shows h.reads.records k.reads.records h.shown k.shown (one_begun octets h.reads.records k.reads.records h.reads.begun k.reads.begun) h.reads.shows k.reads.shows) ∙ sym k.text_is

  -- ---- what an input asks for

  -- a fault that shows within the limit
  abbrev IsWithin : List ℕ → ℕ → Cause → Type 0
  IsWithin all offset cause = (length all ≤ most_octets)
      ⊎ ((front : List ℕ) × (more : List ℕ) × (all ≡ front ++ more) × (length front ≤ most_octets) × IsLasting cause × (records : List Record) × IsFaultAfter front records offset cause)

  data View (all text : List ℕ) (status : Status) : Type 0 where
    finished : status ≡ Done → length all ≤ most_octets → Finishes all text → View all text status
    refused : status ≡ RefusedCapture → (offset : ℕ) (cause : Cause) → Refuses all text offset cause → IsWithin all offset cause → View all text status
    over : status ≡ TooMuch → IsOver capture_course all text → View all text status

  refuses_more : (front more text : List ℕ) (offset : ℕ) (cause : Cause) → IsLasting cause → Refuses front text offset cause → Refuses (front ++ more) text offset cause
  refuses_more front more text offset cause lasting r = record {
    records = r.records;
    fault = fault_more front more r.records offset cause lasting r.fault;
    shown = r.shown;
    shows = r.shows;
    text_is = r.text_is;
  }

  view_stopped : (all text : List ℕ) (status : Status) → IsStopped capture_course all text status → View all text status
  view_stopped all text status s =
      let offset : ℕ = s.stops.1.0 in
      let cause : Cause = s.stops.1.1 in
      let r : Refuses s.front text offset cause = s.stops.1.3 in
      refused s.stops.0 offset cause (subst (λ (xs : List ℕ). Refuses xs text offset cause) (sym s.place) (refuses_more s.front s.more text offset cause s.stops.1.2 r))
      (inr (s.front, s.more, s.place, s.within, s.stops.1.2, r.records, r.fault))

  view_ended : (all text : List ℕ) (status : Status) → IsEnded capture_course all text status → View all text status
  view_ended all text status e = elim e.ends [
    | inl done ↦ finished done.0 e.within done.1
    | inr short ↦ refused short.0 short.1.0 Short short.1.1 (inl e.within)
  ]

  view_closed : (all text : List ℕ) (status : Status) → IsClosed capture_course (Unit {0}) all text status → View all text status
  view_closed all text status (inl stopped) = view_stopped all text status stopped
  view_closed all text status (inr ended) = view_ended all text status ended.1

  view : (all text : List ℕ) (status : Status) → status ≢ ReadFault → Asks capture_course (Unit {0}) all text status → View all text status
  view all text Done never h = view_ended all text Done h.1
  view all text RefusedLine never h = view_closed all text RefusedLine h
  view all text RefusedCapture never h = view_closed all text RefusedCapture h
  view all text TooMuch never h = elim h [ inl closed ↦ view_closed all text TooMuch closed | inr passed ↦ over refl passed ]
  view all text ReadFault never h = absurd (never refl)
  view all text WriteFault never h = absurd h
  view all text NoMemory never h = absurd h
  view all text RefusedWords never h = absurd h

  past_limit : (all text : List ℕ) → IsOver capture_course all text → length all ≤ most_octets → ⊥
  past_limit all text o within = omega (arith, within, ap length o.place, length-append o.front (o.octet ∷ o.more), o.full)

  refused_or_over : (all text other : List ℕ) (offset : ℕ) (cause : Cause) → IsWithin all offset cause → IsOver capture_course all other → ⊥
  refused_or_over all text other offset cause (inl within) o = past_limit all other o within
  refused_or_over all text other offset cause (inr h) o =
      let longer = longer_front h.0 h.1 o.front (o.octet ∷ o.more) (omega (arith, h.3, o.full)) (sym h.2 ∙ o.place) in
      begun_not_fault o.front o.over.reads.records h.5 offset cause o.over.reads.begun h.4
      (subst (λ (xs : List ℕ). IsFaultAfter xs h.5 offset cause) (sym longer.1) (fault_more h.0 longer.0 h.5 offset cause h.4 h.6))

  both_over : (all text other : List ℕ) → IsOver capture_course all text → IsOver capture_course all other → text ≡ other
  both_over all text other h k =
      let same = split_same h.front (h.octet ∷ h.more) k.front (k.octet ∷ k.more) (h.full ∙ sym k.full) (sym h.place ∙ k.place) in
      one_over k.front text other (subst (λ (xs : List ℕ). Overruns xs text) same.0 h.over) k.over

  one_view : (all text other : List ℕ) (status next : Status) → View all text status → View all other next → (status ≡ next) × (text ≡ other)
  one_view all text other status next (finished s w h) (finished t v k) = (s ∙ sym t, one_finish all text other h k)
  one_view all text other status next (finished s w h) (refused t offset cause k v) = absurd (capture_not_fault all h.records k.records offset cause h.capture k.fault)
  one_view all text other status next (finished s w h) (over t k) = absurd (past_limit all other k w)
  one_view all text other status next (refused s offset cause h w) (finished t v k) = absurd (capture_not_fault all k.records h.records offset cause k.capture h.fault)
  one_view all text other status next (refused s offset cause h w) (refused t place reason k v) = (s ∙ sym t, one_refusal all text other offset place cause reason h k)
  one_view all text other status next (refused s offset cause h w) (over t k) = absurd (refused_or_over all text other offset cause w k)
  one_view all text other status next (over s h) (finished t v k) = absurd (past_limit all text h v)
  one_view all text other status next (over s h) (refused t offset cause k v) = absurd (refused_or_over all other text offset cause v h)
  one_view all text other status next (over s h) (over t k) = (s ∙ sym t, both_over all text other h k)

  pub asks_once : AsksOne capture_course
  asks_once all text other status next h k = one_view all text other status next (view all text status h.0 h.1) (view all other next k.0 k.1)

  -- an input with no fault asks for Done alone
  accepted : (all text : List ℕ) (status : Status) → IsAccepted all → View all text status → (status ≡ Done) × Finishes all text
  accepted all text status a (finished s w h) = (s, h)
  accepted all text status a (refused s offset cause h w) = absurd (a.faultless offset cause (h.records, h.fault))
  accepted all text status a (over s h) = absurd (past_limit all text h a.within)

  whole_fault : (all : List ℕ) (offset : ℕ) (cause : Cause) (r : IsRefused all offset cause) → IsFaultAfter all r.fault.0 offset cause
  whole_fault all offset cause r = subst (λ (xs : List ℕ). IsFaultAfter xs r.fault.0 offset cause) (sym r.place) (elim r.shows [
    | inl lasting ↦ fault_more r.front r.more r.fault.0 offset cause lasting r.fault.1
    | inr none ↦ subst (λ (xs : List ℕ). IsFaultAfter xs r.fault.0 offset cause) (sym (ap (λ (t : List ℕ). r.front ++ t) none ∙ append-nil r.front)) r.fault.1
  ])

  within_of : (all : List ℕ) (offset : ℕ) (cause : Cause) → IsRefused all offset cause → IsWithin all offset cause
  within_of all offset cause r = elim r.shows [
    | inl lasting ↦ inr (r.front, r.more, r.place, r.within, lasting, r.fault.0, r.fault.1)
    | inr none ↦ inl (omega (arith, r.within, ap length r.place, length-append r.front r.more, ap length none))
  ]

  -- an input in which a fault shows asks for RefusedCapture alone
  refusal : (all text : List ℕ) (status : Status) (offset : ℕ) (cause : Cause) → IsRefused all offset cause → View all text status → (status ≡ RefusedCapture) × Refuses all text offset cause
  refusal all text status offset cause r (finished s w h) = absurd (capture_not_fault all h.records r.fault.0 offset cause h.capture (whole_fault all offset cause r))
  refusal all text status offset cause r (refused s place reason h w) =
      let same = one_fault all h.records r.fault.0 place offset reason cause h.fault (whole_fault all offset cause r) in
      (s, subst (λ (c : Cause). Refuses all text offset c) same.2 (subst (λ (n : ℕ). Refuses all text n reason) same.1 h))
  refusal all text status offset cause r (over s h) = absurd (refused_or_over all text text offset cause (within_of all offset cause r) h)

  begun_or_within : (all : List ℕ) (offset : ℕ) (cause : Cause) → IsPast all → IsWithin all offset cause → ⊥
  begun_or_within all offset cause p (inl within) = omega (arith, within, ap length p.place, length-append p.front (p.octet ∷ p.more), p.full)
  begun_or_within all offset cause p (inr h) =
      let longer = longer_front h.0 h.1 p.front (p.octet ∷ p.more) (omega (arith, h.3, p.full)) (sym h.2 ∙ p.place) in
      begun_not_fault p.front p.records h.5 offset cause p.begun h.4
      (subst (λ (xs : List ℕ). IsFaultAfter xs h.5 offset cause) (sym longer.1) (fault_more h.0 longer.0 h.5 offset cause h.4 h.6))

  -- an input that passes the limit before a fault shows asks for TooMuch alone
  passing : (all text : List ℕ) (status : Status) → IsPast all → View all text status → (status ≡ TooMuch) × IsOver capture_course all text
  passing all text status p (finished s w h) = absurd (omega (arith, w, ap length p.place, length-append p.front (p.octet ∷ p.more), p.full))
  passing all text status p (refused s offset cause h w) = absurd (begun_or_within all offset cause p w)
  passing all text status p (over s h) = (s, h)

  -- a run over a source that tells comes to what its octets ask for, or fails
  ran_as : {S K : Type 0} (left : S → Option (List ℕ)) (held : K → Option (List ℕ)) (source : S) (sink : K) (now_source : S) (now_sink : K) (status : Status)
      → ((read written : List ℕ) × Took (left source) read (left now_source) × Put (held sink) written (held now_sink) × Outcome capture_course (IsAtEnd (left now_source)) read written status × (length read ≤ most_octets + most_read))
      → (all : List ℕ) → left source ≡ Some all → (end : Status) (P : List ℕ → Type 0) → ((text : List ℕ) (other : Status) → View all text other → (other ≡ end) × P text)
      → ((status ≡ end) × (text : List ℕ) × P text × Put (held sink) text (held now_sink)) ⊎ IsFailure status
  ran_as left held source sink now_source now_sink status r all tells end P comes =
      elim (ran_asks capture_course left held source sink now_source now_sink status r all tells) [
        | inl here ↦ let k = comes here.0 status (view all here.0 status here.1.0 here.1.1) in inl (k.0, here.0, k.1, here.2)
        | inr fails ↦ inr fails
      ]

  pub ran_accepted : {S K : Type 0} (left : S → Option (List ℕ)) (held : K → Option (List ℕ)) (source : S) (sink : K) (now_source : S) (now_sink : K) (status : Status)
      → ((read written : List ℕ) × Took (left source) read (left now_source) × Put (held sink) written (held now_sink) × Outcome capture_course (IsAtEnd (left now_source)) read written status × (length read ≤ most_octets + most_read))
      → (all : List ℕ) → left source ≡ Some all → IsAccepted all → ((status ≡ Done) × (text : List ℕ) × Finishes all text × Put (held sink) text (held now_sink)) ⊎ IsFailure status
  ran_accepted left held source sink now_source now_sink status r all tells a =
      ran_as left held source sink now_source now_sink status r all tells Done (Finishes all) (λ text other v. accepted all text other a v)

  pub ran_refused : {S K : Type 0} (left : S → Option (List ℕ)) (held : K → Option (List ℕ)) (source : S) (sink : K) (now_source : S) (now_sink : K) (status : Status)
      → ((read written : List ℕ) × Took (left source) read (left now_source) × Put (held sink) written (held now_sink) × Outcome capture_course (IsAtEnd (left now_source)) read written status × (length read ≤ most_octets + most_read))
      → (all : List ℕ) (offset : ℕ) (cause : Cause) → left source ≡ Some all → IsRefused all offset cause
      → ((status ≡ RefusedCapture) × (text : List ℕ) × Refuses all text offset cause × Put (held sink) text (held now_sink)) ⊎ IsFailure status
  ran_refused left held source sink now_source now_sink status r all offset cause tells fault =
      ran_as left held source sink now_source now_sink status r all tells RefusedCapture (λ text. Refuses all text offset cause) (λ text other v. refusal all text other offset cause fault v)

  pub ran_past : {S K : Type 0} (left : S → Option (List ℕ)) (held : K → Option (List ℕ)) (source : S) (sink : K) (now_source : S) (now_sink : K) (status : Status)
      → ((read written : List ℕ) × Took (left source) read (left now_source) × Put (held sink) written (held now_sink) × Outcome capture_course (IsAtEnd (left now_source)) read written status × (length read ≤ most_octets + most_read))
      → (all : List ℕ) → left source ≡ Some all → IsPast all → ((status ≡ TooMuch) × (text : List ℕ) × IsOver capture_course all text × Put (held sink) text (held now_sink)) ⊎ IsFailure status
  ran_past left held source sink now_source now_sink status r all tells past =
      ran_as left held source sink now_source now_sink status r all tells TooMuch (IsOver capture_course all) (λ text other v. passing all text other past v)
