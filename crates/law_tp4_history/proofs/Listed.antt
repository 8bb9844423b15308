-- The events of a history that make ends stand in the order of the ends, and the partner by the events is the caller: between the two no end has
-- the address and reference of the caller, as its CR was afloat when the called end was made.
use Rattle.std.proofs.Common.{◌≡◌, ◌≢◌, ◌⊎◌, inl, inr, ℕ, ◌+◌, ◌-◌, ◌<◌, true, false, List, [], ◌∷◌, ◌++◌, length, get_or, refl, sym, ◌∙◌, ap, subst, arith, append-nil, length-append}
use Rattle.std.proofs.Math.ListN.{get_or-append}
use Rattle.std.proofs.Math.Seq.{get_or-append_seam, get_or-append_right}
use Rattle.std.proofs.lemmas.Bool.{cases_eq, cases_lt, cases_order, cases_Bool, cond-true, cond-false}
use Rattle.law_tp4_history.specs.Ends.{Times, IsFit, Offer, Birth, Words, End}
use Rattle.law_tp4_history.specs.History.{Event, Connected, Indicated, Other, event_by, event_of, History, nothing, IsCaller, IsIndicated, IsNew, Step, Tick, Connect, Indicate, Reply, Take, Act, Release, Restart, Note, May, next, Leads}
use Rattle.law_tp4_history.specs.Reached.{Reached}
use Rattle.law_tp4_history.specs.Indications.{IsLatest, IsPartnerOf, AreIndications, IndicatesEach}
use Rattle.law_tp4_history.proofs.Sound.{SentFacts, Sound}
use Rattle.law_tp4_history.proofs.Later.{IsLater, caller_back}
use Rattle.law_tp4_history.proofs.Begun.{with_new, new_later, here}
use Rattle.law_tp4_history.proofs.Steps.{sound_step, step_later, sound_start, all_sound}

pub record Listed (h : History) : Type 0 where
  pub place : (k : ℕ) → k < h.count → (h.end k).birth.event < length h.events
  pub is : (k : ℕ) → k < h.count → get_or h.events (h.end k).birth.event Other ≡ event_of (h.end k)
  pub all : (p : ℕ) → p < length h.events → (get_or h.events p Other ≡ Other) ⊎ ((k : ℕ) × (k < h.count) × ((h.end k).birth.event ≡ p))
  pub order : (i j : ℕ) → i < j → j < h.count → (h.end i).birth.event < (h.end j).birth.event
  pub before : (a b : ℕ) → IsCaller h a b → a < b
  -- between a caller and the end that it calls, no end has its address and reference
  pub latest : (a b k : ℕ) → IsCaller h a b → a < k → k < b → (h.end k).birth.address ≡ (h.end a).birth.address → (h.end k).birth.reference ≡ (h.end a).birth.reference → ⊥

-- of a calling end the known reference is not in its event
event_same : (birth : Birth) (m n : ℕ) → (birth.is_called ≡ true → m ≡ n) → event_by birth m ≡ event_by birth n
event_same birth m n same = elim (cases_Bool birth.is_called) [
  | inl called ↦ ap (event_by birth) (same called)
  | inr calls ↦ cond-false _ _ _ calls ∙ sym (cond-false _ _ _ calls)
]

module _ (times : Times) (h : History) (s : Sound times h) where
  pub called_knows : (k : ℕ) → k < h.count → (h.end k).birth.is_called ≡ true → (h.end k).known ≢ 0
  called_knows k low called none =
      let p : IsCaller h (h.end k).birth.caller k = record { a_low = s.caller_low k low called; b_low = low; called = called; is = refl } in
      let f = s.pairs (h.end k).birth.caller k p in
      omega (arith, none, f.knows, (s.own (h.end k).birth.caller p.a_low).some)

  event_on : (new : History) (l : IsLater h new) (k : ℕ) → k < h.count → event_of (new.end k) ≡ event_of (h.end k)
  event_on new l k low =
      let e = l.end k low in
      ap (λ (b : Birth). event_by b (new.end k).known) e.birth ∙ event_same (h.end k).birth (new.end k).known (h.end k).known (λ called. e.known (called_knows k low called))

  module _ (new : History) (l : IsLater h new) where
    born : (k : ℕ) → k < h.count → (new.end k).birth.event ≡ (h.end k).birth.event
    born k low = ap (λ (b : Birth). b.event) (l.end k low).birth

    latest_on : (f : Listed h) (a b k : ℕ) → a < h.count → b < h.count → IsCaller new a b → a < k → k < b → (new.end k).birth.address ≡ (new.end a).birth.address
        → (new.end k).birth.reference ≡ (new.end a).birth.reference → ⊥
    latest_on f a b k alow blow p up below same ref =
        let klow : k < h.count = omega (arith, below, blow) in
        let ka = (l.end k klow).birth in
        let aa = (l.end a alow).birth in
        f.latest a b k (caller_back times h new l a b alow blow p) up below
        (sym (ap (λ (x : Birth). x.address) ka) ∙ same ∙ ap (λ (x : Birth). x.address) aa)
        (sym (ap (λ (x : Birth). x.reference) ka) ∙ ref ∙ ap (λ (x : Birth). x.reference) aa)

    -- no end is made
    listed_on : (more : List Event) → new.count ≡ h.count → new.events ≡ h.events ++ more → ((p : ℕ) → get_or more p Other ≡ Other) → Listed h → Listed new
    listed_on more count events others f = record {
      place = λ k low. (let was : k < h.count = omega (arith, low, count) in omega (arith, born k was, f.place k was, ap length events, length-append h.events more));
      is = λ k low.
          (let was : k < h.count = omega (arith, low, count) in
          let place = f.place k was in
          ap (λ (p : ℕ). get_or new.events p Other) (born k was) ∙ ap (λ (j : List Event). get_or j (h.end k).birth.event Other) events
          ∙ get_or-append h.events more Other (h.end k).birth.event place ∙ f.is k was ∙ sym (event_on new l k was));
      all = λ p low. elim (cases_lt p (length h.events)) [
        | inl within ↦ elim (f.all p within) [
          | inl other ↦ inl (ap (λ (j : List Event). get_or j p Other) events ∙ get_or-append h.events more Other p within ∙ other)
          | inr k ↦ inr (k.0, omega (arith, k.1, count), born k.0 k.1 ∙ k.2)
        ]
        | inr past ↦ inl (ap (λ (j : List Event). get_or j p Other) events ∙ get_or-append_right h.events more p Other past ∙ others (p - length h.events))
      ];
      order = λ i j up low. (let jlow : j < h.count = omega (arith, low, count) in let ilow : i < h.count = omega (arith, up, jlow) in omega (arith, f.order i j up jlow, born i ilow, born j jlow));
      before = λ a b p. f.before a b (caller_back times h new l a b (omega (arith, p.a_low, count)) (omega (arith, p.b_low, count)) p);
      latest = λ a b k p. latest_on f a b k (omega (arith, p.a_low, count)) (omega (arith, p.b_low, count)) p;
    }

-- an end is made
module _ (times : Times) (h : History) (s : Sound times h) (e : End) (n : IsNew times h e) (offers : List Offer) (f : Listed h) where
  abbrev new : History
  new = with_new h e offers (h.events ++ event_of e ∷ [])

  l : IsLater h (with_new h e offers (h.events ++ event_of e ∷ []))
  l = new_later times h s e n offers (h.events ++ event_of e ∷ [])

  at : (with_new h e offers (h.events ++ event_of e ∷ [])).end h.count ≡ e
  at = here times h s e n offers (h.events ++ event_of e ∷ [])

  one_more : length (h.events ++ event_of e ∷ []) ≡ length h.events + 1
  one_more = length-append h.events (event_of e ∷ [])

  event_at : (new.end h.count).birth.event ≡ length h.events
  event_at = ap (λ (x : End). x.birth.event) at ∙ n.event

  was : (k : ℕ) → k < h.count → (new.end k).birth.event ≡ (h.end k).birth.event
  was k low = ap (λ (b : Birth). b.event) (l.end k low).birth

  place_new : (k : ℕ) → k < h.count + 1 → (new.end k).birth.event < length h.events + 1
  place_new k low = elim (cases_eq k h.count) [
    | inl same ↦ omega (arith, ap (λ (j : ℕ). (new.end j).birth.event) same, event_at)
    | inr other ↦ (let up : k < h.count = omega (arith, other, low) in omega (arith, was k up, f.place k up))
  ]

  is_new : (k : ℕ) → k < h.count + 1 → get_or (h.events ++ event_of e ∷ []) (new.end k).birth.event Other ≡ event_of (new.end k)
  is_new k low = elim (cases_eq k h.count) [
    | inl same ↦ ap (λ (j : ℕ). get_or (h.events ++ event_of e ∷ []) (new.end j).birth.event Other) same ∙ ap (λ (p : ℕ). get_or (h.events ++ event_of e ∷ []) p Other) event_at
        ∙ get_or-append_seam h.events (event_of e) [] Other ∙ sym (ap event_of at) ∙ sym (ap (λ (j : ℕ). event_of (new.end j)) same)
    | inr other ↦
        (let up : k < h.count = omega (arith, other, low) in
        ap (λ (p : ℕ). get_or (h.events ++ event_of e ∷ []) p Other) (was k up) ∙ get_or-append h.events (event_of e ∷ []) Other (h.end k).birth.event (f.place k up) ∙ f.is k up
        ∙ sym (event_on times h s new l k up))
  ]

  listed_new : (e.birth.is_called ≡ true → e.birth.caller < h.count) → ((a k : ℕ) → IsCaller (with_new h e offers (h.events ++ event_of e ∷ [])) a h.count → a < k → k < h.count → (h.end k).birth.address ≡ (h.end a).birth.address
      → (h.end k).birth.reference ≡ (h.end a).birth.reference → ⊥) → Listed (with_new h e offers (h.events ++ event_of e ∷ []))
  listed_new caller none = record {
    place = λ k low. omega (arith, place_new k low, one_more);
    is = is_new;
    all = λ p low. elim (cases_lt p (length h.events)) [
      | inl within ↦ elim (f.all p within) [
        | inl other ↦ inl (get_or-append h.events (event_of e ∷ []) Other p within ∙ other)
        | inr k ↦ inr (k.0, omega (arith, k.1), was k.0 k.1 ∙ k.2)
      ]
      | inr past ↦ inr (h.count, omega arith, omega (arith, event_at, past, low, one_more))
    ];
    order = λ i j up low. elim (cases_eq j h.count) [
      | inl same ↦ (let ilow : i < h.count = omega (arith, up, same) in omega (arith, ap (λ (k : ℕ). (new.end k).birth.event) same, event_at, was i ilow, f.place i ilow))
      | inr other ↦ (let jlow : j < h.count = omega (arith, other, low) in let ilow : i < h.count = omega (arith, up, jlow) in omega (arith, f.order i j up jlow, was i ilow, was j jlow))
    ];
    before = λ a b p. elim (cases_eq b h.count) [
      | inl last ↦ omega (arith, last, up_to a b p last)
      | inr other ↦
          (let blow : b < h.count = omega (arith, p.b_low, other) in
          let caller : (h.end b).birth.caller ≡ a = sym (ap (λ (x : Birth). x.caller) (l.end b blow).birth) ∙ p.is in
          let called : (h.end b).birth.is_called ≡ true = sym (ap (λ (x : Birth). x.is_called) (l.end b blow).birth) ∙ p.called in
          f.before a b (record { a_low = omega (arith, s.caller_low b blow called, caller); b_low = blow; called = called; is = caller }))
    ];
    latest = λ a b k p up below same ref. elim (cases_eq b h.count) [
      | inl last ↦
          (let klow : k < h.count = omega (arith, below, last) in
          let alow : a < h.count = omega (arith, up, klow) in
          none a k (subst (λ (j : ℕ). IsCaller (with_new h e offers (h.events ++ event_of e ∷ [])) a j) last p) up klow
          (sym (ap (λ (x : Birth). x.address) (l.end k klow).birth) ∙ same ∙ ap (λ (x : Birth). x.address) (l.end a alow).birth)
          (sym (ap (λ (x : Birth). x.reference) (l.end k klow).birth) ∙ ref ∙ ap (λ (x : Birth). x.reference) (l.end a alow).birth))
      | inr other ↦ (let blow : b < h.count = omega (arith, p.b_low, other) in let alow : a < h.count = omega (arith, up, below, blow) in latest_on times h s new l f a b k alow blow p up below same ref)
    ];
  }
    where
      up_to : (a b : ℕ) → IsCaller (with_new h e offers (h.events ++ event_of e ∷ [])) a b → b ≡ h.count → a < h.count
      up_to a b p last =
          let is : (new.end b).birth ≡ e.birth = ap (λ (j : ℕ). (new.end j).birth) last ∙ ap (λ (x : End). x.birth) at in
          let called : e.birth.is_called ≡ true = sym (ap (λ (x : Birth). x.is_called) is) ∙ p.called in
          omega (arith, caller called, ap (λ (x : Birth). x.caller) is, p.is)

-- no end takes the reference of one whose CR is afloat
indicated_latest : (times : Times) (h : History) (s : Sound times h) (o : Offer) (e : End) (i : IsIndicated times h o e) (a k : ℕ)
    → IsCaller (with_new h e h.offers (h.events ++ event_of e ∷ [])) a h.count → a < k → k < h.count → (h.end k).birth.address ≡ (h.end a).birth.address
    → (h.end k).birth.reference ≡ (h.end a).birth.reference → ⊥
indicated_latest times h s o e i a k p up low same ref =
    let caller : e.birth.caller ≡ a = sym (ap (λ (x : End). x.birth.caller) (here times h s e i.new h.offers (h.events ++ event_of e ∷ []))) ∙ p.is in
    let b = s.booked a k up low (sym same) (sym ref) in
    let sent = subst (SentFacts times h o) caller ((s.offers o i.offered).sent e.birth.caller i.caller) in
    let own = s.own k low in
    omega (arith, sent.stopped b.0 b.1, i.fresh, b.2, own.made_low, own.took_low)

no_more : (p : ℕ) → get_or (Other ∷ []) p Other ≡ Other
no_more p = elim (cases_eq p 0) [ inl none ↦ ap (λ (k : ℕ). get_or (Other ∷ []) k Other) none | inr some ↦ get_or-append_right (Other ∷ []) [] p Other (omega (arith, some)) ]

pub listed_step : (times : Times) (fit : IsFit times) (h : History) (step : Step) → May times h step → Sound times h → Listed h → Listed (next times h step)
listed_step times fit h Tick may s f = listed_on times h s (next times h Tick) (step_later times fit h Tick may s) (Other ∷ []) refl refl no_more f
listed_step times fit h (Connect e offered) may s f = listed_new times h s e may.0.new (h.offers ++ offered) f (λ called. absurd (cc (called, may.0.calls)))
    (λ a k p. absurd (cc (p.called, ap (λ (x : End). x.birth.is_called) (here times h s e may.0.new (h.offers ++ offered) (h.events ++ event_of e ∷ [])), may.0.calls)))
listed_step times fit h (Indicate o e) may s f = listed_new times h s e may.new h.offers f (λ _. ((s.offers o may.offered).sent e.birth.caller may.caller).x_low) (indicated_latest times h s o e may)
listed_step times fit h (Reply o answer) may s f = listed_on times h s (next times h (Reply o answer)) (step_later times fit h (Reply o answer) may s) [] refl (sym (append-nil h.events)) (λ p. refl) f
listed_step times fit h (Take y o tpdu new offered) may s f =
    listed_on times h s (next times h (Take y o tpdu new offered)) (step_later times fit h (Take y o tpdu new offered) may s) [] refl (sym (append-nil h.events)) (λ p. refl) f
listed_step times fit h (Act y new offered) may s f = listed_on times h s (next times h (Act y new offered)) (step_later times fit h (Act y new offered) may s) [] refl (sym (append-nil h.events)) (λ p. refl) f
listed_step times fit h (Release y) may s f = listed_on times h s (next times h (Release y)) (step_later times fit h (Release y) may s) [] refl (sym (append-nil h.events)) (λ p. refl) f
listed_step times fit h (Restart address) may s f = listed_on times h s (next times h (Restart address)) (step_later times fit h (Restart address) may s) [] refl (sym (append-nil h.events)) (λ p. refl) f
listed_step times fit h Note may s f = listed_on times h s (next times h Note) (step_later times fit h Note may s) (Other ∷ []) refl refl no_more f

pub listed_start : (end : ℕ → End) → Listed (nothing end)
listed_start end = record {
  place = λ k low. absurd (omega (arith, low));
  is = λ k low. absurd (omega (arith, low));
  all = λ p low. absurd (omega (arith, low));
  order = λ i j up low. absurd (omega (arith, low));
  before = λ a b p. absurd (omega (arith, p.a_low));
  latest = λ a b k p. absurd (omega (arith, p.a_low));
}

listed_leads : (times : Times) (fit : IsFit times) (old last : History) (steps : List Step) → Leads times old steps last → Sound times old → Listed old → Listed last
listed_leads times fit old last [] l s f = subst Listed (sym l) f
listed_leads times fit old last (step ∷ steps) l s f = listed_leads times fit (next times old step) last steps l.1 (sound_step times fit old step l.0 s) (listed_step times fit old step l.0 s f)

pub all_listed : (times : Times) (h : History) → IsFit times → Reached times h → Listed h
all_listed times h fit r = listed_leads times fit (nothing r.0) h r.1 r.2 (sound_start times r.0) (listed_start r.0)

-- the events, by the ends
module _ (times : Times) (h : History) (s : Sound times h) (f : Listed h) where
  called_at : (k : ℕ) (own : List ℕ) (reference : ℕ) (from : List ℕ) (source : ℕ) (words : Words) → k < h.count → event_of (h.end k) ≡ Indicated own reference from source words
      → ((h.end k).birth.is_called ≡ true) × ((h.end k).birth.address ≡ own) × ((h.end k).birth.partner ≡ from) × ((h.end k).known ≡ source) × ((h.end k).birth.words ≡ words)
  called_at k own reference from source words low is = elim (cases_Bool (h.end k).birth.is_called) [
    | inl called ↦ (let e = sym (cond-true _ _ _ called) ∙ is in (called, cc e, cc e, cc e, cc e))
    | inr calls ↦ absurd (let e = sym (cond-false _ _ _ calls) ∙ is in cc e)
  ]

  calling_at : (k : ℕ) (from : List ℕ) (source : ℕ) (to : List ℕ) (words : Words) → k < h.count → event_of (h.end k) ≡ Connected from source to words
      → ((h.end k).birth.is_called ≡ false) × ((h.end k).birth.address ≡ from) × ((h.end k).birth.reference ≡ source)
  calling_at k from source to words low is = elim (cases_Bool (h.end k).birth.is_called) [
    | inl called ↦ absurd (let e = sym (cond-true _ _ _ called) ∙ is in cc e)
    | inr calls ↦ (let e = sym (cond-false _ _ _ calls) ∙ is in (calls, cc e, cc e))
  ]

  -- the incoming event at p is that of b, called by a
  pub record IsIncoming (p : ℕ) (own from : List ℕ) (source : ℕ) (words : Words) : Type 0 where
    pub a : ℕ
    pub b : ℕ
    pub caller : IsCaller h a b
    pub at : (h.end b).birth.event ≡ p
    pub from_is : (h.end a).birth.address ≡ from
    pub source_is : (h.end a).birth.reference ≡ source
    pub own_is : (h.end a).birth.partner ≡ own
    pub words_is : (h.end a).birth.words ≡ words

  incoming : (p : ℕ) (own : List ℕ) (reference : ℕ) (from : List ℕ) (source : ℕ) (words : Words) → p < length h.events → get_or h.events p Other ≡ Indicated own reference from source words → IsIncoming p own from source words
  incoming p own reference from source words low is = elim (f.all p low) [
    | inl other ↦ absurd (cc (other, is))
    | inr k ↦
        (let e = sym (f.is k.0 k.1) ∙ ap (λ (i : ℕ). get_or h.events i Other) k.2 ∙ is in
        let c = called_at k.0 own reference from source words k.1 e in
        let caller : IsCaller h (h.end k.0).birth.caller k.0 = record { a_low = s.caller_low k.0 k.1 c.0; b_low = k.1; called = c.0; is = refl } in
        let q = s.pairs (h.end k.0).birth.caller k.0 caller in
        record {
          a = (h.end k.0).birth.caller;
          b = k.0;
          caller = caller;
          at = k.2;
          from_is = sym q.there ∙ c.2;
          source_is = sym q.knows ∙ c.3;
          own_is = q.back ∙ c.1;
          words_is = sym q.words ∙ c.4;
        })
  ]

  event_calls : (a b : ℕ) → IsCaller h a b → get_or h.events (h.end a).birth.event Other ≡ Connected (h.end a).birth.address (h.end a).birth.reference (h.end a).birth.partner (h.end a).birth.words
  event_calls a b p = f.is a p.a_low ∙ cond-false _ _ _ (s.pairs a b p).calls

  order_back : (i j : ℕ) → i < h.count → j < h.count → (h.end i).birth.event < (h.end j).birth.event → i < j
  order_back i j ilow jlow up = elim (cases_order i j) [
    | inl same ↦ absurd (omega (arith, up, ap (λ (k : ℕ). (h.end k).birth.event) same))
    | inr (inl below) ↦ below
    | inr (inr above) ↦ absurd (omega (arith, up, f.order j i above ilow))
  ]

  one_event : (i j : ℕ) → i < h.count → j < h.count → (h.end i).birth.event ≡ (h.end j).birth.event → i ≡ j
  one_event i j ilow jlow same = elim (cases_order i j) [
    | inl is ↦ is
    | inr (inl below) ↦ absurd (omega (arith, same, f.order i j below jlow))
    | inr (inr above) ↦ absurd (omega (arith, same, f.order j i above ilow))
  ]

  latest_is : (p : ℕ) (own from : List ℕ) (source : ℕ) (words : Words) (i : IsIncoming p own from source words) → IsLatest h.events p (h.end i.a).birth.event from source own words
  latest_is p own from source words i = record {
    is = cc (event_calls i.a i.b i.caller, i.from_is, i.source_is, i.own_is, i.words_is);
    before = omega (arith, f.order i.a i.b (f.before i.a i.b i.caller) i.caller.b_low, i.at);
    last = λ r other said up below is. elim (f.all r (omega (arith, below, i.at, f.place i.b i.caller.b_low))) [
      | inl none ↦ cc (none, is)
      | inr k ↦
          (let e = sym (f.is k.0 k.1) ∙ ap (λ (n : ℕ). get_or h.events n Other) k.2 ∙ is in
          let c = calling_at k.0 from source other said k.1 e in
          f.latest i.a i.b k.0 i.caller (order_back i.a k.0 i.caller.a_low k.1 (omega (arith, up, k.2))) (order_back k.0 i.b k.1 i.caller.b_low (omega (arith, below, k.2, i.at)))
          (c.1 ∙ sym i.from_is) (c.2 ∙ sym i.source_is))
    ];
  }

  one_latest : (events : List Event) (p q other : ℕ) (from : List ℕ) (source : ℕ) (to too : List ℕ) (words said : Words) → IsLatest events p q from source to words → IsLatest events p other from source too said → q ≡ other
  one_latest events p q other from source to too words said a b = elim (cases_order q other) [
    | inl same ↦ same
    | inr (inl below) ↦ absurd (a.last other too said below b.before b.is)
    | inr (inr above) ↦ absurd (b.last q to words above a.before a.is)
  ]

  one_incoming : (p other q : ℕ) → IsPartnerOf h.events p q → IsPartnerOf h.events other q → p ≡ other
  one_incoming p other q x y =
      let i = incoming p x.own x.reference x.from x.source x.words x.p_low x.is in
      let j = incoming other y.own y.reference y.from y.source y.words y.p_low y.is in
      let qi : q ≡ (h.end i.a).birth.event = one_latest h.events p q (h.end i.a).birth.event x.from x.source x.to x.own x.said x.words x.latest (latest_is p x.own x.from x.source x.words i) in
      let qj : q ≡ (h.end j.a).birth.event = one_latest h.events other q (h.end j.a).birth.event y.from y.source y.to y.own y.said y.words y.latest (latest_is other y.own y.from y.source y.words j) in
      let callers : i.a ≡ j.a = one_event i.a j.a i.caller.a_low j.caller.a_low (sym qi ∙ qj) in
      let called : i.b ≡ j.b = s.one j.a i.b j.b (subst (λ (k : ℕ). IsCaller h k i.b) callers i.caller) j.caller in
      sym i.at ∙ ap (λ (k : ℕ). (h.end k).birth.event) called ∙ j.at

  pub indications : AreIndications h.events
  indications = record {
    one = one_incoming;
    some = λ p own reference from source words low is. (let i = incoming p own reference from source words low is in ((h.end i.a).birth.event, latest_is p own from source words i));
  }

-- a front knows the partners of its own indications
latest_to : (j k : List Event) (n : ℕ) → ((r : ℕ) → r < n → get_or j r Other ≡ get_or k r Other) → (p q : ℕ) (from : List ℕ) (source : ℕ) (to : List ℕ) (words : Words) → p < n
    → IsLatest j p q from source to words → IsLatest k p q from source to words
latest_to j k n same p q from source to words low l = record {
  is = sym (same q (omega (arith, low, l.before))) ∙ l.is;
  before = l.before;
  last = λ r other said up below is. l.last r other said up below (same r (omega (arith, low, below)) ∙ is);
}

pub prefix_indicates : (front back : List Event) → AreIndications (front ++ back) → AreIndications front
prefix_indicates front back a = record {
  one = λ p other q x y. a.one p other q (whole p q x) (whole other q y);
  some = λ p own reference from source words low is.
      (let q = a.some p own reference from source words (omega (arith, low, length-append front back)) (same p low ∙ is) in
      (q.0, latest_to (front ++ back) front (length front) same p q.0 from source own words low q.1));
}
  where
    same : (r : ℕ) → r < length front → get_or (front ++ back) r Other ≡ get_or front r Other
    same r low = get_or-append front back Other r low

    whole : (p q : ℕ) → IsPartnerOf front p q → IsPartnerOf (front ++ back) p q
    whole p q x = record {
      own = x.own;
      reference = x.reference;
      from = x.from;
      source = x.source;
      words = x.words;
      to = x.to;
      said = x.said;
      p_low = omega (arith, x.p_low, length-append front back);
      is = same p x.p_low ∙ x.is;
      latest = latest_to front (front ++ back) (length front) (λ r low. sym (same r low)) p q x.from x.source x.to x.said x.p_low x.latest;
    }

pub each_indicates : (times : Times) (h : History) → IsFit times → Reached times h → IndicatesEach h.events
each_indicates times h fit r front back is = prefix_indicates front back (subst AreIndications is (indications times h (all_sound times h fit r) (all_listed times h fit r)))
