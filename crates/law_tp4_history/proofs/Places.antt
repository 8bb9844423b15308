-- The events of a journal that make ends stand in the order of the ends, and each says what its end began with. Of them the partner of an
-- indication is the request of the caller: a later one from that address with that reference would be of an end between the two.
use Rattle.std.proofs.Common.{◌≡◌, ◌⊎◌, inl, inr, ℕ, zero, suc, ◌+◌, ◌-◌, ◌<◌, ◌==◌, true, false, if◌then◌else◌, List, [], ◌∷◌, ◌++◌, length, slice_get, Some, refl, sym, ◌∙◌, ap, subst, arith}
use Rattle.std.proofs.lemmas.Option.{slice_get_within, get_or_from_slice_get}
use Rattle.std.proofs.lemmas.Bool.{cases_lt, cases_order, cases_Bool, eqb-true, eqb-false}
use Rattle.script_journal.specs.Lawful.{HasPartner, Makes}
use Rattle.script_journal.specs.Partner.{IsLatest, Partner, AreEnds}
use Rattle.script_journal.specs.declared.event.Event.{Event}
use Rattle.script_journal.specs.declared.event.Event.TheVariants as events
use Rattle.script_journal.specs.declared.event.Indication.{Indication}
use Rattle.script_journal.specs.declared.event.Request.{Request}
use Rattle.tp4_number.proofs.Past.{if_kept}
use Rattle.law_tp4_history.specs.Ends.{Times, Birth, Words, End}
use Rattle.law_tp4_history.specs.History.{History, IsCaller}
use Rattle.law_tp4_history.specs.Journals.{makes_end, MakesNone, Asks, Hears}
use Rattle.law_tp4_history.proofs.Later.{IsLater}
use Rattle.law_tp4_history.proofs.Listed.{Listed, called_knows}
use Rattle.law_tp4_history.proofs.Sound.{Sound}

-- at the place p stands the request that made end k
pub record IsAsked (journal : List Event) (p k : ℕ) (e : End) : Type 0 where
  pub asked : Request
  pub is : slice_get journal p ≡ Some (events.Connect asked)
  pub asks : Asks k e asked

-- at the place p stands the indication that made end k
pub record IsHeard (titles : List (List ℕ)) (journal : List Event) (p k : ℕ) (e : End) : Type 0 where
  pub heard : Indication
  pub is : slice_get journal p ≡ Some (events.Incoming heard)
  pub hears : Hears titles k e heard

pub record Placed (titles : List (List ℕ)) (h : History) (journal : List Event) : Type 0 where
  pub at : ℕ → ℕ
  pub calling : (k : ℕ) → k < h.count → (h.end k).birth.is_called ≡ false → IsAsked journal (at k) k (h.end k)
  pub called : (k : ℕ) → k < h.count → (h.end k).birth.is_called ≡ true → IsHeard titles journal (at k) k (h.end k)
  pub all : (p : ℕ) (event : Event) → slice_get journal p ≡ Some event → makes_end event ≡ true → (k : ℕ) × (k < h.count) × (at k ≡ p)
  pub order : (i j : ℕ) → i < j → j < h.count → at i < at j

asks_on : (k : ℕ) (e new : End) (asked : Request) → new.birth ≡ e.birth → Asks k e asked → Asks k new asked
asks_on k e new asked born a = record {
  end = a.end;
  reference = a.reference ∙ sym (ap (λ (b : Birth). b.reference) born);
  calling = a.calling ∙ sym (ap (λ (b : Birth). b.address) born);
  called = a.called ∙ sym (ap (λ (b : Birth). b.partner) born);
  calling_selector = a.calling_selector ∙ sym (ap (λ (b : Birth). b.words.calling) born);
  called_selector = a.called_selector ∙ sym (ap (λ (b : Birth). b.words.called) born);
  octets = a.octets ∙ sym (ap (λ (b : Birth). b.words.octets) born);
}

hears_on : (titles : List (List ℕ)) (k : ℕ) (e new : End) (heard : Indication) → new.birth ≡ e.birth → new.known ≡ e.known → Hears titles k e heard → Hears titles k new heard
hears_on titles k e new heard born known f = record {
  end = f.end;
  reference = f.reference ∙ sym (ap (λ (b : Birth). b.reference) born);
  calling = f.calling ∙ sym (ap (λ (b : Birth). b.partner) born);
  partner = f.partner ∙ sym known;
  called = f.called ∙ sym (ap (λ (b : Birth). b.address) born);
  calling_selector = f.calling_selector ∙ sym (ap (λ (b : Birth). b.words.calling) born);
  called_selector = f.called_selector ∙ sym (ap (λ (b : Birth). b.words.called) born);
  octets = f.octets ∙ sym (ap (λ (b : Birth). b.words.octets) born);
  title = f.title;
  title_is = f.title_is;
  same = f.same;
}

pub get_left : (xs ys : List Event) (p : ℕ) → p < length xs → slice_get (xs ++ ys) p ≡ slice_get xs p
get_left [] ys p low = absurd (omega (arith, low))
get_left (x ∷ xs) ys zero low = refl
get_left (x ∷ xs) ys (suc p) low = get_left xs ys p (omega (arith, low))

pub get_right : (xs ys : List Event) (p i : ℕ) → p ≡ length xs + i → slice_get (xs ++ ys) p ≡ slice_get ys i
get_right [] ys p i at = ap (slice_get ys) (omega (arith, at))
get_right (x ∷ xs) ys zero i at = absurd (omega (arith, at))
get_right (x ∷ xs) ys (suc p) i at = get_right xs ys p i (omega (arith, at))

get_last : (xs : List Event) (event : Event) → slice_get (xs ++ event ∷ []) (length xs) ≡ Some event
get_last xs event = get_right xs (event ∷ []) (length xs) 0 (omega arith)

get_more : (journal more : List Event) (p : ℕ) (event : Event) → slice_get journal p ≡ Some event → slice_get (journal ++ more) p ≡ Some event
get_more journal more p event is = get_left journal more p (slice_get_within journal p event is) ∙ is

-- an event of two lists is of the first or of the second
get_either : (journal more : List Event) (p : ℕ) (event : Event) → slice_get (journal ++ more) p ≡ Some event
    → (slice_get journal p ≡ Some event) ⊎ ((i : ℕ) × (p ≡ length journal + i) × (slice_get more i ≡ Some event))
get_either journal more p event is = elim (cases_lt p (length journal)) [
  | inl within ↦ inl (sym (get_left journal more p within) ∙ is)
  | inr past ↦
      (let at : p ≡ length journal + (p - length journal) = omega (arith, past) in
      inr (p - length journal, at, sym (get_right journal more p (p - length journal) at) ∙ is))
]

pub none_made : (made : List Event) (i : ℕ) (event : Event) → MakesNone made → slice_get made i ≡ Some event → makes_end event ≡ false
none_made made i event none is = subst (λ (e : Event). makes_end e ≡ false) (get_or_from_slice_get made i event event is) (none i event (slice_get_within made i event is))

-- other events follow
pub placed_aside : (titles : List (List ℕ)) (h : History) (journal made : List Event) → MakesNone made → Placed titles h journal → Placed titles h (journal ++ made)
placed_aside titles h journal made none f = record {
  at = f.at;
  calling = λ k low calls. (let i = f.calling k low calls in record { asked = i.asked; is = get_more journal made (f.at k) (events.Connect i.asked) i.is; asks = i.asks });
  called = λ k low is. (let i = f.called k low is in record { heard = i.heard; is = get_more journal made (f.at k) (events.Incoming i.heard) i.is; hears = i.hears });
  all = λ p event is makes. elim (get_either journal made p event is) [ inl old ↦ f.all p event old makes | inr new ↦ absurd (cc (makes, none_made made new.0 event none new.2)) ];
  order = f.order;
}

module _ (times : Times) (titles : List (List ℕ)) (h : History) (s : Sound times h) (journal : List Event) (f : Placed titles h journal) (new : History) (l : IsLater h new) where
  asked_on : (k : ℕ) → k < h.count → (new.end k).birth.is_called ≡ false → IsAsked journal (f.at k) k (new.end k)
  asked_on k low calls =
      let born = (l.end k low).birth in
      let i = f.calling k low (sym (ap (λ (b : Birth). b.is_called) born) ∙ calls) in
      record { asked = i.asked; is = i.is; asks = asks_on k (h.end k) (new.end k) i.asked born i.asks }

  heard_on : (k : ℕ) → k < h.count → (new.end k).birth.is_called ≡ true → IsHeard titles journal (f.at k) k (new.end k)
  heard_on k low called =
      let born = (l.end k low).birth in
      let was : (h.end k).birth.is_called ≡ true = sym (ap (λ (b : Birth). b.is_called) born) ∙ called in
      let i = f.called k low was in
      record { heard = i.heard; is = i.is; hears = hears_on titles k (h.end k) (new.end k) i.heard born ((l.end k low).known (called_knows times h s k low was)) i.hears }

  -- no end is made
  pub placed_on : new.count ≡ h.count → Placed titles new journal
  placed_on count = record {
    at = f.at;
    calling = λ k low. asked_on k (omega (arith, low, count));
    called = λ k low. heard_on k (omega (arith, low, count));
    all = λ p event is makes. (let k = f.all p event is makes in (k.0, omega (arith, k.1, count), k.2));
    order = λ i j up low. f.order i j up (omega (arith, low, count));
  }

  abbrev at_new : ℕ → ℕ
  at_new k = if k == h.count then length journal else f.at k

  at_last : (P : ℕ → ℕ → Type 0) (k : ℕ) → (k ≡ h.count → P k (length journal)) → ((k ≡ h.count → ⊥) → P k (f.at k)) → P k (at_new k)
  at_last P k here there = if_kept (P k) (k == h.count) (length journal) (f.at k) (λ t. here (eqb-true k h.count t)) (λ t. there (eqb-false k h.count t))

  place_low : (k : ℕ) → k < h.count → f.at k < length journal
  place_low k low = elim (cases_Bool (h.end k).birth.is_called) [
    | inl called ↦ (let i = f.called k low called in slice_get_within journal (f.at k) (events.Incoming i.heard) i.is)
    | inr calls ↦ (let i = f.calling k low calls in slice_get_within journal (f.at k) (events.Connect i.asked) i.is)
  ]

  -- an end is made by the event
  pub placed_new : (event : Event) → new.count ≡ h.count + 1
      → ((new.end h.count).birth.is_called ≡ false → (asked : Request) × (event ≡ events.Connect asked) × Asks h.count (new.end h.count) asked)
      → ((new.end h.count).birth.is_called ≡ true → (heard : Indication) × (event ≡ events.Incoming heard) × Hears titles h.count (new.end h.count) heard)
      → Placed titles new (journal ++ event ∷ [])
  placed_new event count asks hears = record {
    at = at_new;
    calling = λ k low calls. at_last (λ (j p : ℕ). j < new.count → (new.end j).birth.is_called ≡ false → IsAsked (journal ++ event ∷ []) p j (new.end j)) k
        (λ last _ now. (let a = asks (ap (λ (j : ℕ). (new.end j).birth.is_called) (sym last) ∙ now) in
        record { asked = a.0; is = get_last journal event ∙ ap Some a.1; asks = subst (λ (j : ℕ). Asks j (new.end j) a.0) (sym last) a.2 }))
        (λ other below now. (let i = asked_on k (omega (arith, other, below, count)) now in record { asked = i.asked; is = get_more journal (event ∷ []) (f.at k) (events.Connect i.asked) i.is; asks = i.asks }))
        low calls;
    called = λ k low called. at_last (λ (j p : ℕ). j < new.count → (new.end j).birth.is_called ≡ true → IsHeard titles (journal ++ event ∷ []) p j (new.end j)) k
        (λ last _ now. (let a = hears (ap (λ (j : ℕ). (new.end j).birth.is_called) (sym last) ∙ now) in
        record { heard = a.0; is = get_last journal event ∙ ap Some a.1; hears = subst (λ (j : ℕ). Hears titles j (new.end j) a.0) (sym last) a.2 }))
        (λ other below now. (let i = heard_on k (omega (arith, other, below, count)) now in record { heard = i.heard; is = get_more journal (event ∷ []) (f.at k) (events.Incoming i.heard) i.is; hears = i.hears }))
        low called;
    all = λ p one is makes. elim (get_either journal (event ∷ []) p one is) [
      | inl old ↦
          (let k = f.all p one old makes in
          (k.0, omega (arith, k.1, count), at_last (λ (j q : ℕ). j < h.count → f.at j ≡ p → q ≡ p) k.0 (λ last low _. absurd (omega (arith, last, low))) (λ _ _ same. same) k.1 k.2))
      | inr now ↦
          (let inside = slice_get_within (event ∷ []) now.0 one now.2 in
          (h.count, omega (arith, count), at_last (λ (j q : ℕ). j ≡ h.count → q ≡ p) h.count (λ _ _. omega (arith, now.1, inside)) (λ other same. absurd (other same)) refl))
    ];
    order = λ i j up low. at_last (λ (k p : ℕ). i < k → k < new.count → at_new i < p) j
        (λ last before _. at_last (λ (k p : ℕ). k < h.count → p < length journal) i (λ same below. absurd (omega (arith, same, below))) (λ _ below. place_low i below) (omega (arith, last, before)))
        (λ other before below. at_last (λ (k p : ℕ). k < h.count → p < f.at j) i (λ same low_i. absurd (omega (arith, same, low_i)))
        (λ _ _. f.order i j before (omega (arith, other, below, count))) (omega (arith, other, before, below, count)))
        up low;
  }

-- the journal, by the ends
module _ (times : Times) (titles : List (List ℕ)) (h : History) (s : Sound times h) (ends : Listed h) (journal : List Event) (f : Placed titles h journal) where
  -- the indication at p made b, which a called
  pub record IsIncoming (p : ℕ) (heard : Indication) : Type 0 where
    pub a : ℕ
    pub b : ℕ
    pub caller : IsCaller h a b
    pub at : f.at b ≡ p
    pub hears : Hears titles b (h.end b) heard

  pub incoming : (p : ℕ) (heard : Indication) → slice_get journal p ≡ Some (events.Incoming heard) → IsIncoming p heard
  incoming p heard is = by (f.all p (events.Incoming heard) is refl)
    where
      by : (k : ℕ) × (k < h.count) × (f.at k ≡ p) → IsIncoming p heard
      by k = elim (cases_Bool (h.end k.0).birth.is_called) [
        | inl called ↦
            (let i = f.called k.0 k.1 called in
            let same : i.heard ≡ heard = cc (i.is, is, k.2) in
            record {
              a = (h.end k.0).birth.caller;
              b = k.0;
              caller = record { a_low = s.caller_low k.0 k.1 called; b_low = k.1; called = called; is = refl };
              at = k.2;
              hears = subst (Hears titles k.0 (h.end k.0)) same i.hears;
            })
        | inr calls ↦ (let i = f.calling k.0 k.1 calls in absurd (cc (i.is, is, k.2)))
      ]

  -- the request at q made k
  pub record IsAsking (q : ℕ) (asked : Request) : Type 0 where
    pub k : ℕ
    pub low : k < h.count
    pub at : f.at k ≡ q
    pub asks : Asks k (h.end k) asked

  pub asking : (q : ℕ) (asked : Request) → slice_get journal q ≡ Some (events.Connect asked) → IsAsking q asked
  asking q asked is = by (f.all q (events.Connect asked) is refl)
    where
      by : (k : ℕ) × (k < h.count) × (f.at k ≡ q) → IsAsking q asked
      by k = elim (cases_Bool (h.end k.0).birth.is_called) [
        | inl called ↦ (let i = f.called k.0 k.1 called in absurd (cc (i.is, is, k.2)))
        | inr calls ↦
            (let i = f.calling k.0 k.1 calls in
            let same : i.asked ≡ asked = cc (i.is, is, k.2) in
            record { k = k.0; low = k.1; at = k.2; asks = subst (Asks k.0 (h.end k.0)) same i.asks })
      ]

  -- the event at p made the end of that number
  numbered : (p end : ℕ) (event : Event) → slice_get journal p ≡ Some event → Makes end event → (k : ℕ) × (f.at k ≡ p) × (k + 1 ≡ end)
  numbered p end (events.Connect asked) is makes = let k = asking p asked is in (k.k, k.at, sym k.asks.end ∙ makes)
  numbered p end (events.Incoming heard) is makes = let i = incoming p heard is in (i.b, i.at, sym i.hears.end ∙ makes)
  numbered p end event is makes = absurd makes

  -- one event makes an end
  pub one_making : (p again end : ℕ) (event other : Event) → slice_get journal p ≡ Some event → slice_get journal again ≡ Some other → Makes end event → Makes end other → p ≡ again
  one_making p again end event other is was makes remakes =
      let i = numbered p end event is makes in
      let j = numbered again end other was remakes in
      sym i.1 ∙ ap f.at (omega (arith, i.2, j.2)) ∙ j.1

  order_back : (i j : ℕ) → i < h.count → j < h.count → f.at i < f.at j → i < j
  order_back i j ilow jlow up = elim (cases_order i j) [
    | inl same ↦ absurd (omega (arith, up, ap f.at same))
    | inr (inl below) ↦ below
    | inr (inr above) ↦ absurd (omega (arith, up, f.order j i above ilow))
  ]

  one_place : (i j : ℕ) → i < h.count → j < h.count → f.at i ≡ f.at j → i ≡ j
  one_place i j ilow jlow same = elim (cases_order i j) [
    | inl is ↦ is
    | inr (inl below) ↦ absurd (omega (arith, same, f.order i j below jlow))
    | inr (inr above) ↦ absurd (omega (arith, same, f.order j i above ilow))
  ]

  -- the request of the caller
  request : (a b : ℕ) → IsCaller h a b → IsAsked journal (f.at a) a (h.end a)
  request a b p = f.calling a p.a_low (s.pairs a b p).calls

  latest_is : (p : ℕ) (heard : Indication) (i : IsIncoming p heard) → IsLatest journal p (f.at i.a) heard.calling heard.partner (request i.a i.b i.caller).asked
  latest_is p heard i =
      let r = request i.a i.b i.caller in
      let q = s.pairs i.a i.b i.caller in
      record {
        is = r.is;
        before = omega (arith, f.order i.a i.b (ends.before i.a i.b i.caller) i.caller.b_low, i.at);
        from = r.asks.calling ∙ sym q.there ∙ sym i.hears.calling;
        by = r.asks.reference ∙ sym q.knows ∙ sym i.hears.partner;
        last = λ place other up below is from by.
            (let k = asking place other is in
            ends.latest i.a i.b k.k i.caller (order_back i.a k.k i.caller.a_low k.low (omega (arith, up, k.at))) (order_back k.k i.b k.low i.caller.b_low (omega (arith, below, k.at, i.at)))
            (sym k.asks.calling ∙ from ∙ i.hears.calling ∙ q.there) (sym k.asks.reference ∙ by ∙ i.hears.partner ∙ q.knows));
      }

  one_latest : (p q other : ℕ) (calling : List ℕ) (reference : ℕ) (asked again : Request) → IsLatest journal p q calling reference asked → IsLatest journal p other calling reference again → q ≡ other
  one_latest p q other calling reference asked again a b = elim (cases_order q other) [
    | inl same ↦ same
    | inr (inl below) ↦ absurd (a.last other again below b.before b.is b.from b.by)
    | inr (inr above) ↦ absurd (b.last q asked above a.before a.is a.from a.by)
  ]

  -- the request at q, the partner of the indication at p, made the caller of the end of p
  pub record IsPair (p q : ℕ) (heard : Indication) (asked : Request) : Type 0 where
    pub i : IsIncoming p heard
    pub at : f.at i.a ≡ q
    pub asks : Asks i.a (h.end i.a) asked

  pub pair : (p q : ℕ) (heard : Indication) (asked : Request) → Partner journal p q heard asked → IsPair p q heard asked
  pair p q heard asked x =
      let i = incoming p heard x.is in
      let r = request i.a i.b i.caller in
      let at : f.at i.a ≡ q = one_latest p (f.at i.a) q heard.calling heard.partner r.asked asked (latest_is p heard i) x.latest in
      let same : r.asked ≡ asked = cc (r.is, x.latest.is, at) in
      record { i = i; at = at; asks = subst (Asks i.a (h.end i.a)) same r.asks }

  pub one_incoming : (p other q : ℕ) (heard again : Indication) (asked : Request) → Partner journal p q heard asked → Partner journal other q again asked → p ≡ other
  one_incoming p other q heard again asked x y =
      let i = pair p q heard asked x in
      let j = pair other q again asked y in
      let callers : i.i.a ≡ j.i.a = one_place i.i.a j.i.a i.i.caller.a_low j.i.caller.a_low (i.at ∙ sym j.at) in
      let called : i.i.b ≡ j.i.b = s.one j.i.a i.i.b j.i.b (subst (λ (k : ℕ). IsCaller h k i.i.b) callers i.i.caller) j.i.caller in
      sym i.i.at ∙ ap f.at called ∙ j.i.at

  pub has_partner : (p : ℕ) (heard : Indication) → slice_get journal p ≡ Some (events.Incoming heard) → HasPartner titles journal p heard
  has_partner p heard is =
      let i = incoming p heard is in
      let r = request i.a i.b i.caller in
      let q = s.pairs i.a i.b i.caller in
      record {
        q = f.at i.a;
        asked = r.asked;
        partner = record { is = is; latest = latest_is p heard i };
        matched = record {
          called = i.hears.called ∙ sym q.back ∙ sym r.asks.called;
          calling_selector = i.hears.calling_selector ∙ ap (λ (w : Words). w.calling) q.words ∙ sym r.asks.calling_selector;
          called_selector = i.hears.called_selector ∙ ap (λ (w : Words). w.called) q.words ∙ sym r.asks.called_selector;
          octets = i.hears.octets ∙ ap (λ (w : Words). w.octets) q.words ∙ sym r.asks.octets;
          title = i.hears.title;
          title_is = i.hears.title_is;
          same = i.hears.same;
        };
      }

  -- the ends of a connection in the journal are partners
  pub record AreCalled (calling called : ℕ) : Type 0 where
    pub a : ℕ
    pub b : ℕ
    pub caller : IsCaller h a b
    pub calling_is : a + 1 ≡ calling
    pub called_is : b + 1 ≡ called

  pub are_called : (calling called : ℕ) → AreEnds journal calling called → AreCalled calling called
  are_called calling called e =
      let i = pair e.p e.q e.heard e.asked e.partner in
      record { a = i.i.a; b = i.i.b; caller = i.i.caller; calling_is = sym i.asks.end ∙ e.calling_is; called_is = sym i.i.hears.end ∙ e.called_is }

  -- and partners are the ends of a connection there
  pub are_ends : (a b : ℕ) → IsCaller h a b → AreEnds journal (a + 1) (b + 1)
  are_ends a b p =
      let y = f.called b p.b_low p.called in
      let i = incoming (f.at b) y.heard y.is in
      let same : i.b ≡ b = one_place i.b b i.caller.b_low p.b_low i.at in
      let caller : i.a ≡ a = sym i.caller.is ∙ ap (λ (k : ℕ). (h.end k).birth.caller) same ∙ p.is in
      let r = request i.a i.b i.caller in
      record {
        p = f.at b;
        q = f.at i.a;
        heard = y.heard;
        asked = r.asked;
        partner = record { is = y.is; latest = latest_is (f.at b) y.heard i };
        calling_is = r.asks.end ∙ ap (λ (k : ℕ). k + 1) caller;
        called_is = y.hears.end;
      }
