-- Whether an end has a partner in a lawful journal is found by a search: for the event that makes it, and, where that is a request, for an indication whose
-- request it is. With a partner the units that are shown, this one last, are a front of those that were submitted; and without one nothing would be shown.
use Rattle.std.proofs.Common.{◌≡◌, ◌⊎◌, inl, inr, ◌∙◌, ◌<◌, ℕ, zero, suc, ◌==◌, Bool, true, false, List, [], ◌∷◌, ◌++◌, length, slice_get, Option, Some, None, refl, sym, ap, subst, arith, append_assoc, if◌then◌else◌}
use Rattle.std.proofs.lemmas.Bool.{cases_eq, eq-eqb}
use Rattle.std.proofs.lemmas.Option.{slice_get_within}
use Rattle.script_journal.specs.declared.event.Event.{Event}
use Rattle.script_journal.specs.declared.event.Event.TheVariants as events
use Rattle.script_journal.specs.declared.event.Indication.{Indication}
use Rattle.script_journal.specs.declared.event.Request.{Request}
use Rattle.script_journal.specs.Lawful.{AreQueues, Expedited, HasPartner, IsFront, Lawful, IsQueue, Makes, Marked, Normal, expediteds, normals, shown, submitted}
use Rattle.script_journal.specs.Partner.{AreEnds, ArePartners, IsLatest, Partner}
use Rattle.script_journal.specs.Showing.{EachTellsRightly, IsNextUnit, IsRequested, TellsRightly}
use Rattle.script_journal.proofs.Partners.{one_latest}
use Rattle.tpdu.specs.declared.service.EndTold.TheVariants as tells

-- ---- places of a journal with one event more

get_front : (journal : List Event) (last : Event) (p : ℕ) (event : Event) → slice_get journal p ≡ Some event → slice_get (journal ++ last ∷ []) p ≡ Some event
get_front [] last p event is = absurd cc
get_front (first ∷ journal) last zero event is = is
get_front (first ∷ journal) last (suc p) event is = get_front journal last p event is

get_back : (journal : List Event) (last : Event) (p : ℕ) (event : Event) → slice_get (journal ++ last ∷ []) p ≡ Some event → (slice_get journal p ≡ Some event) ⊎ ((p ≡ length journal) × (event ≡ last))
get_back [] last zero event is = inr (refl, cc is)
get_back [] last (suc p) event is = absurd cc
get_back (first ∷ journal) last zero event is = inl is
get_back (first ∷ journal) last (suc p) event is = elim (get_back journal last p event is) [ inl there ↦ inl there | inr end ↦ inr (ap suc end.0, end.1) ]

-- a place before the last one
front_at : (journal : List Event) (last : Event) (p : ℕ) (event : Event) → p < length journal → slice_get (journal ++ last ∷ []) p ≡ Some event → slice_get journal p ≡ Some event
front_at journal last p event low is = elim (get_back journal last p event is) [ inl there ↦ there | inr end ↦ absurd (let place = end.0 in omega (arith, low, place)) ]

-- an event that makes no end
abbrev MakesNone : Event → Type 0
MakesNone event = (end : ℕ) → Makes end event → ⊥

-- the two ends of a connection stay such where the requests and the indications stay in their places
ends_moved : (old new : List Event) → ((p : ℕ) (asked : Request) → slice_get old p ≡ Some (events.Connect asked) → slice_get new p ≡ Some (events.Connect asked))
    → ((p : ℕ) (asked : Request) → slice_get new p ≡ Some (events.Connect asked) → slice_get old p ≡ Some (events.Connect asked))
    → ((p : ℕ) (heard : Indication) → slice_get old p ≡ Some (events.Incoming heard) → slice_get new p ≡ Some (events.Incoming heard))
    → (calling called : ℕ) → AreEnds old calling called → AreEnds new calling called
ends_moved old new connects connected indicates calling called a =
    let l = a.partner.latest in
    record {
      p = a.p;
      q = a.q;
      heard = a.heard;
      asked = a.asked;
      partner = record {
        is = indicates a.p a.heard a.partner.is;
        latest = record {
          is = connects a.q a.asked l.is;
          before = l.before;
          from = l.from;
          by = l.by;
          last = λ r other above below is from by. l.last r other above below (connected r other is) from by;
        };
      };
      calling_is = a.calling_is;
      called_is = a.called_is;
    }

module _ (journal : List Event) (last : Event) (none : MakesNone last) where
  abbrev all : List Event
  all = journal ++ last ∷ []

  get_connect : (p : ℕ) (asked : Request) → slice_get all p ≡ Some (events.Connect asked) → slice_get journal p ≡ Some (events.Connect asked)
  get_connect p asked is = elim (get_back journal last p (events.Connect asked) is) [
    | inl there ↦ there
    | inr end ↦ absurd (none asked.end (subst (Makes asked.end) end.1 refl))
  ]

  get_incoming : (p : ℕ) (heard : Indication) → slice_get all p ≡ Some (events.Incoming heard) → slice_get journal p ≡ Some (events.Incoming heard)
  get_incoming p heard is = elim (get_back journal last p (events.Incoming heard) is) [
    | inl there ↦ there
    | inr end ↦ absurd (none heard.end (subst (Makes heard.end) end.1 refl))
  ]

  ends_later : (calling called : ℕ) → AreEnds journal calling called → AreEnds all calling called
  ends_later =
      ends_moved journal all (λ p asked is. get_front journal last p (events.Connect asked) is) get_connect (λ p heard is. get_front journal last p (events.Incoming heard) is)

  ends_before : (calling called : ℕ) → AreEnds all calling called → AreEnds journal calling called
  ends_before = ends_moved all journal get_connect (λ p asked is. get_front journal last p (events.Connect asked) is) get_incoming

-- ---- whether an end has a partner

-- the event that makes an end, and none
abbrev Maker : List Event → ℕ → Type 0
Maker journal end = ((p : ℕ) × (event : Event) × (slice_get journal p ≡ Some event) × Makes end event) ⊎ ((p : ℕ) (event : Event) → slice_get journal p ≡ Some event → Makes end event → ⊥)

same_event : (one other : Event) → Some one ≡ Some other → one ≡ other
same_event one other e = cc e

maker_next : (first : Event) (journal : List Event) (end : ℕ) → (Makes end first) ⊎ (Makes end first → ⊥) → Maker journal end → Maker (first ∷ journal) end
maker_next first journal end (inl makes) rest = inl (0, first, refl, makes)
maker_next first journal end (inr not) (inl found) = inl (suc found.0, found.1, found.2, found.3)
maker_next first journal end (inr not) (inr none) = inr by
  where
    by : (p : ℕ) (event : Event) → slice_get (first ∷ journal) p ≡ Some event → Makes end event → ⊥
    by zero event is makes = not (subst (Makes end) (sym (same_event first event is)) makes)
    by (suc p) event is makes = none p event is makes

makes_or : (end : ℕ) (event : Event) → (Makes end event) ⊎ (Makes end event → ⊥)
makes_or end (events.Connect asked) = cases_eq asked.end end
makes_or end (events.Incoming heard) = cases_eq heard.end end
makes_or end event = inr (λ no. no)

maker : (journal : List Event) (end : ℕ) → Maker journal end
maker [] end = inr (λ p event is makes. absurd cc)
maker (first ∷ journal) end = maker_next first journal end (makes_or end first) (maker journal end)

same_heard : (one other : Indication) → Some (events.Incoming one) ≡ Some (events.Incoming other) → one ≡ other
same_heard one other e = cc e

same_asked : (one other : Request) → Some (events.Connect one) ≡ Some (events.Connect other) → one ≡ other
same_asked one other e = cc e

not_both : (heard : Indication) (asked : Request) → Some (events.Incoming heard) ≡ Some (events.Connect asked) → ⊥
not_both heard asked e = cc e

incoming_or : (found : Option Event) → ((heard : Indication) × (found ≡ Some (events.Incoming heard))) ⊎ ((heard : Indication) → found ≡ Some (events.Incoming heard) → ⊥)
incoming_or None = inr (λ heard e. absurd cc)
incoming_or (Some (events.Incoming heard)) = inl (heard, refl)
incoming_or (Some event) = inr (λ heard e. absurd cc)

-- a partner, or none
abbrev Decided : List Event → ℕ → Type 0
Decided journal end = ((other : ℕ) × ArePartners journal end other) ⊎ (((other : ℕ) → AreEnds journal end other → ⊥) × ((other : ℕ) → AreEnds journal other end → ⊥))

module _ (titles : List (List ℕ)) (journal : List Event) (queues : AreQueues titles journal) where
  -- an indication below that place whose request stands at q, or none
  abbrev Called : ℕ → ℕ → Type 0
  Called q k = ((p : ℕ) × (heard : Indication) × (asked : Request) × Partner journal p q heard asked) ⊎ ((p : ℕ) (heard : Indication) (asked : Request) → p < k → Partner journal p q heard asked → ⊥)

  called_here : (q k : ℕ) (heard : Indication) → slice_get journal k ≡ Some (events.Incoming heard) → ((p : ℕ) (heard : Indication) (asked : Request) → p < k → Partner journal p q heard asked → ⊥) → HasPartner titles journal k heard
      → Called q (suc k)
  called_here q k heard is none has = elim (cases_eq has.q q) [
    | inl same ↦ inl (k, heard, has.asked, subst (λ (n : ℕ). Partner journal k n heard has.asked) same has.partner)
    | inr apart ↦ inr (λ p other asked low partner. elim (cases_eq p k) [
      | inl here ↦ (let there : Partner journal k q other asked = subst (λ (n : ℕ). Partner journal n q other asked) here partner in
          let heard_is : heard ≡ other = same_heard heard other (sym is ∙ there.is) in
          let latest : IsLatest journal k q heard.calling heard.partner asked = subst (λ (h : Indication). IsLatest journal k q h.calling h.partner asked) (sym heard_is) there.latest in
          apart (one_latest titles journal queues k has.q q heard.calling heard.partner has.asked asked has.partner.latest latest))
      | inr elsewhere ↦ none p other asked (omega (arith, low, elsewhere)) partner
    ])
  ]

  called_at : (q k : ℕ) → ((heard : Indication) × (slice_get journal k ≡ Some (events.Incoming heard))) ⊎ ((heard : Indication) → slice_get journal k ≡ Some (events.Incoming heard) → ⊥) → Called q k → Called q (suc k)
  called_at q k found (inl there) = inl there
  called_at q k (inl found) (inr none) = called_here q k found.0 found.1 none (queues.some k found.0 found.1)
  called_at q k (inr other) (inr none) = inr (λ p heard asked low partner. elim (cases_eq p k) [
    | inl here ↦ other heard (subst (λ (n : ℕ). slice_get journal n ≡ Some (events.Incoming heard)) here partner.is)
    | inr elsewhere ↦ none p heard asked (omega (arith, low, elsewhere)) partner
  ])

  called_below : (q k : ℕ) → Called q k
  called_below q zero = inr (λ p heard asked low partner. absurd (omega (arith, low)))
  called_below q (suc k) = called_at q k (incoming_or (slice_get journal k)) (called_below q k)

  called_end : (end q : ℕ) (asked : Request) → slice_get journal q ≡ Some (events.Connect asked) → asked.end ≡ end → Called q (length journal) → Decided journal end
  called_end end q asked is makes (inl there) =
      let partner : Partner journal there.0 q there.1 there.2 = there.3 in
      let same : there.2 ≡ asked = same_asked there.2 asked (sym partner.latest.is ∙ is) in
      inl (there.1.end, inl (record { p = there.0; q = q; heard = there.1; asked = there.2; partner = partner; calling_is = ap (λ (r : Request). r.end) same ∙ makes; called_is = refl }))
  called_end end q asked is makes (inr none) = inr (
    λ other a.
        let place : a.q ≡ q = queues.made a.q q end (events.Connect a.asked) (events.Connect asked) a.partner.latest.is is a.calling_is makes in
        none a.p a.heard a.asked (slice_get_within journal a.p (events.Incoming a.heard) a.partner.is) (subst (λ (n : ℕ). Partner journal a.p n a.heard a.asked) place a.partner),
    λ other a.
        let place : a.p ≡ q = queues.made a.p q end (events.Incoming a.heard) (events.Connect asked) a.partner.is is a.called_is makes in
        not_both a.heard asked (sym a.partner.is ∙ (ap (slice_get journal) place ∙ is)),
  )

  decided_by : (end p : ℕ) (event : Event) → slice_get journal p ≡ Some event → Makes end event → Decided journal end
  decided_by end p (events.Connect asked) is makes = called_end end p asked is makes (called_below p (length journal))
  decided_by end p (events.Incoming heard) is makes =
      let has = queues.some p heard is in
      inl (has.asked.end, inr (record { p = p; q = has.q; heard = heard; asked = has.asked; partner = has.partner; calling_is = refl; called_is = makes }))
  decided_by end p event is makes = absurd makes

  decided : (end : ℕ) → Decided journal end
  decided end = elim (maker journal end) [
    | inl found ↦ decided_by end found.0 found.1 found.2 found.3
    | inr none ↦ inr (
      λ other a. none a.q (events.Connect a.asked) a.partner.latest.is a.calling_is,
      λ other a. none a.p (events.Incoming a.heard) a.partner.is a.called_is,
    )
  ]

-- ---- units

pub more : (test : Bool) (unit : Marked) (xs ys zs : List Marked) → zs ≡ xs ++ ys → (if test then unit ∷ zs else zs) ≡ (if test then unit ∷ xs else xs) ++ ys
more true unit xs ys zs e = ap (λ (l : List Marked). unit ∷ l) e
more false unit xs ys zs e = e

append_nil : (xs : List Marked) → xs ++ [] ≡ xs
append_nil [] = refl
append_nil (x ∷ xs) = ap (λ (l : List Marked). x ∷ l) (append_nil xs)

some_shown : (front : List Marked) (unit : Marked) → front ++ unit ∷ [] ≡ [] → ⊥
some_shown [] unit e = cc e
some_shown (first ∷ front) unit e = cc e

own : (end : ℕ) (unit : Marked) → (if end == end then unit ∷ [] else []) ≡ unit ∷ []
own end unit = ap (λ (b : Bool). if b then unit ∷ [] else []) (eq-eqb end end refl)

pub submitted_both : (end : ℕ) (xs ys : List Event) → submitted end (xs ++ ys) ≡ submitted end xs ++ submitted end ys
submitted_both end [] ys = refl
submitted_both end (events.Data at octets ∷ xs) ys = more (at == end) (Normal octets) (submitted end xs) (submitted end ys) (submitted end (xs ++ ys)) (submitted_both end xs ys)
submitted_both end (events.Expedite at octets ∷ xs) ys = more (at == end) (Expedited octets) (submitted end xs) (submitted end ys) (submitted end (xs ++ ys)) (submitted_both end xs ys)
submitted_both end (event ∷ xs) ys = submitted_both end xs ys

pub shown_both : (end : ℕ) (xs ys : List Event) → shown end (xs ++ ys) ≡ shown end xs ++ shown end ys
shown_both end [] ys = refl
shown_both end (events.End at (tells.Got octets) ∷ xs) ys = more (at == end) (Normal octets) (shown end xs) (shown end ys) (shown end (xs ++ ys)) (shown_both end xs ys)
shown_both end (events.End at (tells.Urgent octets) ∷ xs) ys = more (at == end) (Expedited octets) (shown end xs) (shown end ys) (shown end (xs ++ ys)) (shown_both end xs ys)
shown_both end (event ∷ xs) ys = shown_both end xs ys

-- the units of one mark go with the lists
abbrev Goes : (List Marked → List (List ℕ)) → Type 0
Goes marked = (xs ys : List Marked) → marked (xs ++ ys) ≡ marked xs ++ marked ys

normals_go : Goes normals
normals_go [] ys = refl
normals_go (Normal octets ∷ xs) ys = ap (λ (l : List (List ℕ)). octets ∷ l) (normals_go xs ys)
normals_go (Expedited octets ∷ xs) ys = normals_go xs ys

expediteds_go : Goes expediteds
expediteds_go [] ys = refl
expediteds_go (Normal octets ∷ xs) ys = expediteds_go xs ys
expediteds_go (Expedited octets ∷ xs) ys = ap (λ (l : List (List ℕ)). octets ∷ l) (expediteds_go xs ys)

next_of : (front : List (List ℕ)) (octets : List ℕ) (rest whole : List (List ℕ)) → whole ≡ (front ++ octets ∷ []) ++ rest → slice_get whole (length front) ≡ Some octets
next_of front octets rest whole is = ap (λ (l : List (List ℕ)). slice_get l (length front)) (is ∙ append_assoc front (octets ∷ []) rest) ∙ at_end front
  where
    at_end : (front : List (List ℕ)) → slice_get (front ++ octets ∷ rest) (length front) ≡ Some octets
    at_end [] = refl
    at_end (first ∷ front) = at_end front

-- ---- what is shown

module _ (titles : List (List ℕ)) (before : List Event) (event : Event) (end : ℕ) (octets : List ℕ) (unit : Marked) (marked : List Marked → List (List ℕ)) (goes : Goes marked)
    (fronts : (given got : List Marked) → IsQueue given got → IsFront (marked got) (marked given)) (none : MakesNone event) (shows : shown end (event ∷ []) ≡ unit ∷ []) (one : marked (unit ∷ []) ≡ octets ∷ [])
    (submits : (other : ℕ) → submitted other (event ∷ []) ≡ []) (was : AreQueues titles before) (now : AreQueues titles (before ++ event ∷ [])) where
  shown_now : shown end (before ++ event ∷ []) ≡ shown end before ++ unit ∷ []
  shown_now = shown_both end before (event ∷ []) ∙ ap (λ (l : List Marked). shown end before ++ l) shows

  submitted_now : (other : ℕ) → submitted other (before ++ event ∷ []) ≡ submitted other before
  submitted_now other = submitted_both other before (event ∷ []) ∙ (ap (λ (l : List Marked). submitted other before ++ l) (submits other) ∙ append_nil (submitted other before))

  in_queue : (other : ℕ) → ArePartners before end other → IsQueue (submitted other (before ++ event ∷ [])) (shown end (before ++ event ∷ []))
  in_queue other (inl ends) = now.back end other (ends_later before event none end other ends)
  in_queue other (inr ends) = now.there other end (ends_later before event none other end ends)

  next_unit : (other : ℕ) → ArePartners before end other → IsNextUnit marked before end octets
  next_unit other partners =
      let front = fronts _ _ (in_queue other partners) in
      let got : marked (shown end (before ++ event ∷ [])) ≡ marked (shown end before) ++ octets ∷ [] = ap marked shown_now ∙ (goes (shown end before) (unit ∷ []) ∙ ap (λ (l : List (List ℕ)). marked (shown end before) ++ l) one) in
      let given : marked (submitted other before) ≡ (marked (shown end before) ++ octets ∷ []) ++ front.0 =
      ap marked (sym (submitted_now other)) ∙ (front.1 ∙ ap (λ (l : List (List ℕ)). l ++ front.0) got) in
      record { other = other; partners = partners; next = next_of (marked (shown end before)) octets front.0 (marked (submitted other before)) given }

  nothing_shown : ((other : ℕ) → AreEnds before end other → ⊥) → ((other : ℕ) → AreEnds before other end → ⊥) → ⊥
  nothing_shown calls called =
      let empty = now.none end (λ other a. calls other (ends_before before event none end other a)) (λ other a. called other (ends_before before event none other end a)) in
      some_shown (shown end before) unit (sym shown_now ∙ empty)

  next_shown : IsNextUnit marked before end octets
  next_shown = elim (decided titles before was end) [
    | inl found ↦ next_unit found.0 found.1
    | inr not ↦ absurd (nothing_shown not.0 not.1)
  ]

-- ---- each event

requested : (titles : List (List ℕ)) (before : List Event) (heard : Indication) → AreQueues titles (before ++ events.Incoming heard ∷ []) → IsRequested titles before heard
requested titles before heard now =
    let has = now.some (length before) heard (last_at before) in
    let l = has.partner.latest in
    record {
      q = has.q;
      asked = has.asked;
      latest = record {
        is = front_at before (events.Incoming heard) has.q (events.Connect has.asked) l.before l.is;
        before = l.before;
        from = l.from;
        by = l.by;
        last = λ r other above below is from by. l.last r other above below (get_front before (events.Incoming heard) r (events.Connect other) is) from by;
      };
      matched = has.matched;
    }
  where
    last_at : (before : List Event) → slice_get (before ++ events.Incoming heard ∷ []) (length before) ≡ Some (events.Incoming heard)
    last_at [] = refl
    last_at (first ∷ before) = last_at before

told : (titles : List (List ℕ)) (before : List Event) (event : Event) → AreQueues titles before → AreQueues titles (before ++ event ∷ []) → TellsRightly titles before event
told titles before (events.End end (tells.Got octets)) was now =
    next_shown titles before (events.End end (tells.Got octets)) end octets (Normal octets) normals normals_go (λ given got queue. queue.normal) (λ other no. no) (own end (Normal octets)) refl (λ other. refl) was now
told titles before (events.End end (tells.Urgent octets)) was now =
    next_shown titles before (events.End end (tells.Urgent octets)) end octets (Expedited octets) expediteds expediteds_go (λ given got queue. queue.expedited) (λ other no. no) (own end (Expedited octets)) refl (λ other. refl) was now
told titles before (events.Incoming heard) was now = requested titles before heard now
told titles before event was now = tt

pub each_told : (frozen : ℕ) (titles : List (List ℕ)) (journal : List Event) → Lawful frozen titles journal → EachTellsRightly titles journal
each_told frozen titles journal lawful before after event is =
    told titles before event (lawful before (event ∷ after) is).queues (lawful (before ++ event ∷ []) after (is ∙ sym (append_assoc before (event ∷ []) after))).queues
