-- What was sound of an old offer, pair or end stays so in every later history, in which each end keeps what never changes, and its stop stays or
-- is set now. So a step owes only what is new.
use Rattle.std.proofs.Common.{◌≡◌, ◌≢◌, ◌⊎◌, inl, inr, ℕ, ◌+◌, ◌<◌, ◌≤◌, true, List, Option, Some, None, refl, sym, ◌∙◌, ap, subst, arith, Contains}
use Rattle.law_tp4_history.specs.Ends.{Times, Offer, Birth, End, IsRequest}
use Rattle.law_tp4_history.specs.History.{History, IsCaller, IsPartner}
use Rattle.law_tp4_history.proofs.Sound.{Until, IsGone, OwnFacts, PairFacts, AimedFacts, SentFacts, AnswerFacts, OfferFacts, IsBooked, Sound, partner_low}

-- an end stays as it is, or stops now
abbrev pub Stops : ℕ → Option ℕ → Option ℕ → Type 0
Stops clock old new = (new ≡ old) ⊎ ((old ≡ None) × (new ≡ Some clock))

pub record EndLater (clock : ℕ) (old new : End) : Type 0 where
  pub birth : new.birth ≡ old.birth
  pub stop : Stops clock old.stop new.stop
  pub took : old.took ≤ new.took
  pub parted : old.is_parted ≡ true → new.is_parted ≡ true
  pub known : old.known ≢ 0 → new.known ≡ old.known
  pub out : old.is_out ≡ true → new.is_out ≡ true

pub record IsLater (h new : History) : Type 0 where
  pub clock : h.clock ≤ new.clock
  pub count : h.count ≤ new.count
  pub end : (k : ℕ) → k < h.count → EndLater h.clock (h.end k) (new.end k)
  pub restarts : (address : List ℕ) (r : ℕ) → Contains h.restarts (address, r) → Contains new.restarts (address, r)

pub end_same : (clock : ℕ) (e : End) → EndLater clock e e
end_same clock e = record { birth = refl; stop = inl refl; took = omega arith; parted = λ h. h; known = λ h. refl; out = λ h. h }

pub until_on : (old new : Option ℕ) (clock v c : ℕ) → Stops clock old new → v ≤ clock + c → Until old v c → Until new v c
until_on old new clock v c (inl e) low u t is = u t (sym e ∙ is)
until_on old new clock v c (inr e) low u t is = let same : clock ≡ t = cc (e.1, is) in omega (arith, low, same)

pub stop_on : (old new : Option ℕ) (clock t : ℕ) → Stops clock old new → old ≡ Some t → new ≡ Some t
stop_on old new clock t (inl e) is = e ∙ is
stop_on old new clock t (inr e) is = absurd (cc (e.0, is))

module _ (times : Times) (h new : History) (l : IsLater h new) where
  address_on : (k : ℕ) → k < h.count → (new.end k).birth.address ≡ (h.end k).birth.address
  address_on k low = ap (λ (b : Birth). b.address) (l.end k low).birth

  reference_on : (k : ℕ) → k < h.count → (new.end k).birth.reference ≡ (h.end k).birth.reference
  reference_on k low = ap (λ (b : Birth). b.reference) (l.end k low).birth

  made_on : (k : ℕ) → k < h.count → (new.end k).birth.made ≡ (h.end k).birth.made
  made_on k low = ap (λ (b : Birth). b.made) (l.end k low).birth

  until_end : (k v c : ℕ) → k < h.count → v ≤ h.clock + c → Until (h.end k).stop v c → Until (new.end k).stop v c
  until_end k v c low bound u = until_on (h.end k).stop (new.end k).stop h.clock v c (l.end k low).stop bound u

  pub caller_on : (a b : ℕ) → IsCaller h a b → IsCaller new a b
  caller_on a b p = record {
    a_low = omega (arith, p.a_low, l.count);
    b_low = omega (arith, p.b_low, l.count);
    called = ap (λ (b : Birth). b.is_called) (l.end b p.b_low).birth ∙ p.called;
    is = ap (λ (b : Birth). b.caller) (l.end b p.b_low).birth ∙ p.is;
  }

  pub partner_on : (x z : ℕ) → IsPartner h x z → IsPartner new x z
  partner_on x z (inl p) = inl (caller_on x z p)
  partner_on x z (inr p) = inr (caller_on z x p)

  pub caller_back : (a b : ℕ) → a < h.count → b < h.count → IsCaller new a b → IsCaller h a b
  caller_back a b low high p = record {
    a_low = low;
    b_low = high;
    called = sym (ap (λ (b : Birth). b.is_called) (l.end b high).birth) ∙ p.called;
    is = sym (ap (λ (b : Birth). b.caller) (l.end b high).birth) ∙ p.is;
  }

  pub gone_on : (address : List ℕ) (t : ℕ) → IsGone times h address t → IsGone times new address t
  gone_on address t (inl past) = inl (omega (arith, past, l.clock))
  gone_on address t (inr g) = inr (g.0, l.restarts address g.0 g.1, g.2)

  module _ (s : Sound times h) where
    known_on : (k : ℕ) (e : End) → (e.known ≢ 0 → (x : ℕ) × IsPartner h k x × (e.known ≡ (h.end x).birth.reference))
        → e.known ≢ 0 → (x : ℕ) × IsPartner new k x × (e.known ≡ (new.end x).birth.reference)
    known_on k e f some = let p = f some in (p.0, partner_on k p.0 p.1, p.2 ∙ sym (reference_on p.0 (partner_low times h s k p.0 p.1).1))

    pub own_on : (k : ℕ) (e : End) → (e.stop ≡ None → new.clock ≤ e.latest) → OwnFacts times h k e → OwnFacts times new k e
    own_on k e now f = record {
      some = f.some;
      made_low = f.made_low;
      took_low = omega (arith, f.took_low, l.clock);
      stopped = λ t is. (omega (arith, f.stopped t is, l.clock), (f.stopped t is).1, (f.stopped t is).2);
      now_low = now;
      latest_low = f.latest_low;
      parted = f.parted;
      gone = λ out. let g = f.gone out in (g.0, g.1, gone_on e.birth.address g.0 g.2);
      known = known_on k e f.known;
    }

    pub pair_on : (a b : ℕ) → IsCaller h a b → PairFacts times new a b
    pair_on a b p =
        let f = s.pairs a b p in
        let oa = (s.own a p.a_low) in
        let ob = (s.own b p.b_low) in
        let ba = (l.end a p.a_low).birth in
        let bb = (l.end b p.b_low).birth in
        record {
          calls = ap (λ (x : Birth). x.is_called) ba ∙ f.calls;
          there = ap (λ (x : Birth). x.partner) bb ∙ f.there ∙ sym (ap (λ (x : Birth). x.address) ba);
          back = ap (λ (x : Birth). x.partner) ba ∙ f.back ∙ sym (ap (λ (x : Birth). x.address) bb);
          knows = (l.end b p.b_low).known (λ none. absurd (omega (arith, none, f.knows, oa.some))) ∙ f.knows ∙ sym (ap (λ (x : Birth). x.reference) ba);
          before = omega (arith, made_on a p.a_low, made_on b p.b_low, f.before);
          asked = subst (λ (m : ℕ). Until (new.end a).stop m times.life) (sym (made_on b p.b_low)) (until_end a (h.end b).birth.made times.life p.a_low (omega (arith, ob.made_low, ob.took_low)) f.asked);
          words = ap (λ (x : Birth). x.words) bb ∙ f.words ∙ sym (ap (λ (x : Birth). x.words) ba);
        }

    aimed_on : (o : Offer) (x : ℕ) → o.tick ≤ h.clock → AimedFacts times h o x → AimedFacts times new o x
    aimed_on o x past f =
        let low = (partner_low times h s x f.y f.partner).1 in
        record {
          y = f.y;
          partner = partner_on x f.y f.partner;
          to = f.to ∙ sym (address_on f.y low);
          target = f.target ∙ sym (reference_on f.y low);
          made = omega (arith, f.made, made_on f.y low);
          outlived = until_end f.y o.tick (times.life + times.idle + times.span) low (omega (arith, past)) f.outlived;
          parted = λ is. (l.end f.y low).parted (f.parted is);
        }

    sent_on : (o : Offer) (x : ℕ) → o.tick ≤ h.clock → SentFacts times h o x → SentFacts times new o x
    sent_on o x past f = record {
      x_low = omega (arith, f.x_low, l.count);
      from = f.from ∙ sym (address_on x f.x_low);
      made = omega (arith, f.made, made_on x f.x_low);
      soon = omega (arith, f.soon, (l.end x f.x_low).took);
      stopped = until_end x o.tick 0 f.x_low (omega (arith, past)) f.stopped;
      request = λ is. subst (λ (b : Birth). IsRequest times o.tick b o) (sym (l.end x f.x_low).birth) (f.request is);
      aimed = λ no. aimed_on o x past (f.aimed no);
      confirm = λ is. f.confirm is ∙ sym (reference_on x f.x_low);
      parting = λ is some. let p = f.parting is some in (p.0 ∙ sym (reference_on x f.x_low), (l.end x f.x_low).parted p.1);
    }

    answer_on : (o : Offer) (z since : ℕ) → o.tick ≤ h.clock → AnswerFacts times h o z since → AnswerFacts times new o z since
    answer_on o z since past f = record {
      z_low = omega (arith, f.z_low, l.count);
      to = f.to ∙ sym (address_on z f.z_low);
      target = f.target ∙ sym (reference_on z f.z_low);
      made = omega (arith, f.made, made_on z f.z_low);
      after = f.after;
      soon = f.soon;
      stopped = until_end z since 0 f.z_low (omega (arith, past, f.after)) f.stopped;
      kind = f.kind;
      parted = λ is. (l.end z f.z_low).parted (f.parted is);
    }

    pub offer_on : (o : Offer) → OfferFacts times h o → OfferFacts times new o
    offer_on o f = record {
      past = omega (arith, f.past, l.clock);
      sent = λ x is. sent_on o x f.past (f.sent x is);
      answers = λ z since is. answer_on o z since f.past (f.answers z since is);
    }

    booked_on : (i j : ℕ) → i < j → j < h.count → IsBooked times new i j
    booked_on i j low high there ref =
        let up : i < h.count = omega (arith, low, high) in
        let b = s.booked i j low high (sym (address_on i up) ∙ there ∙ address_on j high) (sym (reference_on i up) ∙ ref ∙ reference_on j high) in
        (b.0, stop_on (h.end i).stop (new.end i).stop h.clock b.0 (l.end i up).stop b.1, omega (arith, b.2, made_on j high), (l.end i up).out b.3)

    -- a new end is called by an old one, and by it alone
    abbrev pub Joins : ℕ → ℕ → Type 0
    Joins a b = PairFacts times new a b × ((c : ℕ) → IsCaller new a c → b ≡ c)

    pub sound_on : ((k : ℕ) → k < new.count → OwnFacts times new k (new.end k))
        → ((o : Offer) → Contains new.offers o → Contains h.offers o ⊎ OfferFacts times new o)
        → ((b : ℕ) → b < new.count → (new.end b).birth.is_called ≡ true → (new.end b).birth.caller < new.count)
        → ((a b : ℕ) → IsCaller new a b → IsCaller h a b ⊎ (PairFacts times new a b × ((c : ℕ) → IsCaller new a c → b ≡ c)))
        → ((x z : ℕ) → IsPartner new x z → (new.end x).stop ≡ None → Until (new.end z).stop (new.end x).took times.life)
        → ((i j : ℕ) → i < j → j < new.count → (j < h.count) ⊎ IsBooked times new i j)
        → Sound times new
    sound_on own offers low pairs outlived booked = record {
      own = own;
      offers = λ o c. elim (offers o c) [ inl old ↦ offer_on o (s.offers o old) | inr f ↦ f ];
      caller_low = low;
      pairs = λ a b p. elim (pairs a b p) [ inl old ↦ pair_on a b old | inr f ↦ f.0 ];
      one = λ a b c p q. elim (pairs a b p) [
        | inl old ↦ elim (pairs a c q) [ inl also ↦ s.one a b c old also | inr f ↦ sym (f.1 b p) ]
        | inr f ↦ f.1 c q
      ];
      outlived = outlived;
      booked = λ i j up high. elim (booked i j up high) [ inl old ↦ booked_on i j up old | inr f ↦ f ];
    }
