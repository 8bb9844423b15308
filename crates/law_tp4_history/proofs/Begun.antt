-- A new end keeps what is sound. Its reference is free, so an earlier end with it stopped long ago; and a CR that is still afloat is of an end
-- that has no called end yet, since one that had would be held there or out, and then nothing of its caller would be afloat.
use Rattle.std.proofs.Common.{◌≡◌, ◌≢◌, ◌⊎◌, inl, inr, ℕ, ◌+◌, ◌<◌, ◌≤◌, true, List, ◌++◌, None, refl, sym, ◌∙◌, ap, subst, arith, Contains}
use Rattle.std.proofs.lemmas.List.Elements.{Contains-append_cases}
use Rattle.std.proofs.lemmas.Bool.{cases_eq}
use Rattle.law_tp4_history.specs.Ends.{Times, IsFit, frozen, Cr, Offer, Birth, End, Alone, IsRequest, IsOffered}
use Rattle.law_tp4_history.proofs.Sound.{at_end, Until, IsGone, OwnFacts, PairFacts, SentFacts, OfferFacts, IsBooked, Sound, partner_low}
use Rattle.law_tp4_history.proofs.Later.{EndLater, end_same, IsLater, until_on, own_on, caller_back, sound_on}
use Rattle.law_tp4_history.specs.History.{Event, History, set_end, IsCaller, IsPartner, IsNotSilent, IsNew, IsBegun, IsIndicated}

abbrev pub with_new : History → End → List Offer → List Event → History
with_new h e offers events = record h { count = h.count + 1; end = set_end h.end h.count e; offers = offers; events = events }

ended_past : (times : Times) (h : History) (address : List ℕ) (t : ℕ) → IsGone times h address t → IsNotSilent times h address → t + frozen times < h.clock
ended_past times h address t (inl past) awake = past
ended_past times h address t (inr g) awake = omega (arith, awake g.0 g.1, g.2)

module _ (times : Times) (h : History) (s : Sound times h) (e : End) (n : IsNew times h e) (offers : List Offer) (events : List Event) where
  pub new_later : IsLater h (with_new h e offers events)
  new_later = record {
    clock = omega arith;
    count = omega arith;
    end = λ k low. at_end (λ (j : ℕ) (to : End). j < h.count → EndLater h.clock (h.end j) to) h.end h.count e k (λ out. absurd (omega (arith, out))) (λ _ _. end_same h.clock (h.end k)) low;
    restarts = λ address r c. c;
  }

  pub here : (with_new h e offers events).end h.count ≡ e
  here = at_end (λ (j : ℕ) (to : End). j ≡ h.count → to ≡ e) h.end h.count e h.count (λ _. refl) (λ different. absurd (different refl)) refl

  pub there : (k : ℕ) → (k ≡ h.count → ⊥) → (with_new h e offers events).end k ≡ h.end k
  there k other = at_end (λ (j : ℕ) (to : End). (j ≡ h.count → ⊥) → to ≡ h.end j) h.end h.count e k (λ different. absurd (different refl)) (λ _ _. refl) other

  pub new_own : (e.known ≢ 0 → (x : ℕ) × IsPartner (with_new h e offers events) h.count x × (e.known ≡ ((with_new h e offers events).end x).birth.reference))
      → OwnFacts times (with_new h e offers events) h.count e
  new_own known = record {
    some = n.some;
    made_low = omega (arith, n.made, n.took);
    took_low = omega (arith, n.took);
    stopped = λ t is. absurd (cc (is, n.going));
    now_low = λ _. n.now_low;
    latest_low = λ _. omega (arith, n.latest_low, n.took);
    parted = λ is _. absurd (cc (is, n.parted));
    gone = λ is. absurd (cc (is, n.is_held));
    known = known;
  }

  -- no earlier end with its address and reference stands, and each is gone for long
  clear : (i : ℕ) → i < h.count → IsBooked times (with_new h e offers events) i h.count
  clear i low same ref =
      let was = there i (λ is. omega (arith, low, is)) in
      let born = ap (λ (x : End). x.birth) was in
      let at : (h.end i).birth.address ≡ e.birth.address = sym (ap (λ (b : Birth). b.address) born) ∙ same ∙ ap (λ (x : End). x.birth.address) here in
      let by : (h.end i).birth.reference ≡ e.birth.reference = sym (ap (λ (b : Birth). b.reference) born) ∙ ref ∙ ap (λ (x : End). x.birth.reference) here in
      let out = n.free i low at by in
      let g = (s.own i low).gone out in
      let past : g.0 + frozen times < h.clock = ended_past times h (h.end i).birth.address g.0 g.2 (subst (IsNotSilent times h) (sym at) n.not_silent) in
      (g.0, ap (λ (x : End). x.stop) was ∙ g.1, omega (arith, past, n.made, ap (λ (x : End). x.birth.made) here), ap (λ (x : End). x.is_out) was ∙ out)

  -- no end is called by the new one
  pub calls_none : (z : ℕ) → IsCaller (with_new h e offers events) h.count z → (z ≡ h.count → ⊥) → ⊥
  calls_none z p other =
      let low : z < h.count = omega (arith, p.b_low, other) in
      let born = ap (λ (x : End). x.birth) (there z other) in
      let caller : (h.end z).birth.caller < h.count = s.caller_low z low (sym (ap (λ (b : Birth). b.is_called) born) ∙ p.called) in
      omega (arith, caller, p.is, ap (λ (b : Birth). b.caller) born)

  pub new_sound : (e.known ≢ 0 → (x : ℕ) × IsPartner (with_new h e offers events) h.count x × (e.known ≡ ((with_new h e offers events).end x).birth.reference))
      → ((o : Offer) → Contains offers o → Contains h.offers o ⊎ OfferFacts times (with_new h e offers events) o)
      → (e.birth.is_called ≡ true → e.birth.caller < h.count)
      → ((a : ℕ) → IsCaller (with_new h e offers events) a h.count → PairFacts times (with_new h e offers events) a h.count × ((c : ℕ) → IsCaller (with_new h e offers events) a c → h.count ≡ c))
      → ((z : ℕ) → z < h.count → IsCaller (with_new h e offers events) z h.count → Until (h.end z).stop h.clock times.life)
      → Sound times (with_new h e offers events)
  new_sound known news caller pair heard = sound_on times h new new_later s
      (λ k low. at_end (λ (j : ℕ) (to : End). j < h.count + 1 → OwnFacts times new j to) h.end h.count e k
      (λ _. new_own known)
      (λ other klow. let up : k < h.count = omega (arith, other, klow) in own_on times h new new_later s k (h.end k) (s.own k up).now_low (s.own k up))
      low)
      news
      (λ b low. at_end (λ (j : ℕ) (to : End). j < h.count + 1 → to.birth.is_called ≡ true → to.birth.caller < h.count + 1) h.end h.count e b
      (λ _ called. omega (arith, caller called))
      (λ other blow called. omega (arith, s.caller_low b (omega (arith, other, blow)) called))
      low)
      (λ a b p. elim (cases_eq b h.count) [
        | inl same ↦ inr (joined a b p same)
        | inr other ↦ inl (old_caller a b p other)
      ])
      outlives
      (λ i j up low. elim (cases_eq j h.count) [
        | inl same ↦ inr (subst (λ (k : ℕ). IsBooked times new i k) (sym same) (clear i (omega (arith, up, same))))
        | inr other ↦ inl (omega (arith, other, low))
      ])
    where
      new : History
      new = with_new h e offers events

      joined : (a b : ℕ) → IsCaller (with_new h e offers events) a b → b ≡ h.count → PairFacts times (with_new h e offers events) a b × ((c : ℕ) → IsCaller (with_new h e offers events) a c → b ≡ c)
      joined a b p same = subst (λ (k : ℕ). PairFacts times (with_new h e offers events) a k × ((c : ℕ) → IsCaller (with_new h e offers events) a c → k ≡ c)) (sym same)
          (pair a (subst (λ (k : ℕ). IsCaller (with_new h e offers events) a k) same p))

      old_caller : (a b : ℕ) → IsCaller (with_new h e offers events) a b → (b ≡ h.count → ⊥) → IsCaller h a b
      old_caller a b p other =
          let low : b < h.count = omega (arith, p.b_low, other) in
          let born = ap (λ (x : End). x.birth) (there b other) in
          let caller : (h.end b).birth.caller < h.count = s.caller_low b low (sym (ap (λ (x : Birth). x.is_called) born) ∙ p.called) in
          let up : a < h.count = omega (arith, caller, p.is, ap (λ (x : Birth). x.caller) born) in
          caller_back times h new new_later a b up low p

      going : (z : ℕ) → z ≡ h.count → (new.end z).stop ≡ None
      going z same = ap (λ (k : ℕ). (new.end k).stop) same ∙ ap (λ (x : End). x.stop) here ∙ n.going

      kept : (z v : ℕ) → z < h.count → v ≤ h.clock → Until (h.end z).stop v times.life → Until (new.end z).stop v times.life
      kept z v low past u = until_on (h.end z).stop (new.end z).stop h.clock v times.life (new_later.end z low).stop (omega (arith, past)) u

      by_old : (x z : ℕ) → IsPartner h x z → (new.end x).stop ≡ None → Until (new.end z).stop (new.end x).took times.life
      by_old x z p stop =
          let low = partner_low times h s x z p in
          let was = there x (λ is. omega (arith, low.0, is)) in
          let u : Until (h.end z).stop (h.end x).took times.life = s.outlived x z p (sym (ap (λ (y : End). y.stop) was) ∙ stop) in
          subst (λ (v : ℕ). Until (new.end z).stop v times.life) (sym (ap (λ (y : End). y.took) was)) (kept z (h.end x).took low.1 (s.own x low.0).took_low u)

      outlives : (x z : ℕ) → IsPartner (with_new h e offers events) x z → (new.end x).stop ≡ None → Until (new.end z).stop (new.end x).took times.life
      outlives x z (inl p) stop = elim (cases_eq z h.count) [
        | inl same ↦ (λ t is. absurd (cc (is, going z same)))
        | inr other ↦ by_old x z (inl (old_caller x z p other)) stop
      ]
      outlives x z (inr p) stop = elim (cases_eq x h.count) [
        | inl same ↦ elim (cases_eq z h.count) [
          | inl also ↦ (λ t is. absurd (cc (is, going z also)))
          | inr other ↦
              (let low : z < h.count = omega (arith, p.a_low, other) in
              let took : (new.end x).took ≡ h.clock = ap (λ (k : ℕ). (new.end k).took) same ∙ ap (λ (y : End). y.took) here ∙ n.took in
              subst (λ (v : ℕ). Until (new.end z).stop v times.life) (sym took) (kept z h.clock low (omega arith) (heard z low (subst (λ (k : ℕ). IsCaller (with_new h e offers events) z k) same p))))
        ]
        | inr other ↦ by_old x z (inr (old_caller z x p other)) stop
      ]

module _ (times : Times) (h : History) (s : Sound times h) (e : End) (b : IsBegun times h e) (offered : List Offer)
    (fits : (o : Offer) → Contains offered o → (o.tpdu.kind ≡ Cr) × IsOffered times h.clock h.count Alone e e o) (events : List Event) where
  by_new : (o : Offer) → (o.tpdu.kind ≡ Cr) × IsOffered times h.clock h.count Alone e e o → OfferFacts times (with_new h e (h.offers ++ offered) events) o
  by_new o f =
      let is = f.1 in
      let at : (with_new h e (h.offers ++ offered) events).end h.count ≡ e = here times h s e b.new (h.offers ++ offered) events in
      record {
        past = omega (arith, is.tick);
        sent = λ x by. (let same : h.count ≡ x = cc (is.origin, by) in subst (λ (k : ℕ). SentFacts times (with_new h e (h.offers ++ offered) events) o k) same (record {
          x_low = omega arith;
          from = is.from ∙ sym (ap (λ (y : End). y.birth.address) at);
          made = omega (arith, ap (λ (y : End). y.birth.made) at, b.new.made, is.tick);
          soon = omega (arith, is.tick, ap (λ (y : End). y.took) at, b.new.took);
          stopped = λ t stop. absurd (cc (stop, ap (λ (y : End). y.stop) at, b.new.going));
          request = λ cr. subst (λ (y : Birth). IsRequest times o.tick y o) (sym (ap (λ (y : End). y.birth) at)) (subst (λ (t : ℕ). IsRequest times t e.birth o) (sym is.tick) (is.request cr));
          aimed = λ other. absurd (other f.0);
          confirm = λ is_cc. absurd (cc (is_cc, f.0));
          parting = λ dr. absurd (cc (dr, f.0));
        }));
        answers = λ z since by. absurd (cc (is.origin, by));
      }

  pub begun : Sound times (with_new h e (h.offers ++ offered) events)
  begun =
      let at : (with_new h e (h.offers ++ offered) events).end h.count ≡ e = here times h s e b.new (h.offers ++ offered) events in
      new_sound times h s e b.new (h.offers ++ offered) events
      (λ some. absurd (some b.known))
      (λ o c. elim (Contains-append_cases h.offers offered o c) [ inl old ↦ inl old | inr is ↦ inr (by_new o (fits o is)) ])
      (λ called. absurd (cc (called, b.calls)))
      (λ a p. absurd (cc (p.called, ap (λ (y : End). y.birth.is_called) at, b.calls)))
      (λ z low p. absurd (cc (p.called, ap (λ (y : End). y.birth.is_called) at, b.calls)))

module _ (times : Times) (fit : IsFit times) (h : History) (s : Sound times h) (o : Offer) (e : End) (i : IsIndicated times h o e) (events : List Event) where
  abbrev new : History
  new = with_new h e h.offers events

  sent : SentFacts times h o e.birth.caller
  sent = (s.offers o i.offered).sent e.birth.caller i.caller

  at : (with_new h e h.offers events).end h.count ≡ e
  at = here times h s e i.new h.offers events

  later : IsLater h (with_new h e h.offers events)
  later = new_later times h s e i.new h.offers events

  caller_is : (a : ℕ) → IsCaller (with_new h e h.offers events) a h.count → e.birth.caller ≡ a
  caller_is a p = sym (ap (λ (y : End). y.birth.caller) at) ∙ p.is

  -- no other end is called by the same
  pub alone : (c : ℕ) → IsCaller h e.birth.caller c → ⊥
  alone c p =
      let q = sent.request i.request in
      let f = s.pairs e.birth.caller c p in
      let own = s.own c p.b_low in
      let to : (h.end c).birth.address ≡ o.to = sym f.back ∙ sym q.to in
      let out = i.alone c p.b_low p.called to (f.there ∙ sym sent.from) (f.knows ∙ sym q.source) in
      let g = own.gone out in
      let past : g.0 + frozen times < h.clock = ended_past times h (h.end c).birth.address g.0 g.2 (subst (IsNotSilent times h) (sym (to ∙ sym i.address)) i.new.not_silent) in
      omega (arith, past, i.fresh, q.soon, f.before, own.made_low, own.stopped g.0 g.1, fit)

  pair : (a : ℕ) → e.birth.caller ≡ a → PairFacts times (with_new h e h.offers events) a h.count
  pair a is = subst (λ (k : ℕ). PairFacts times (with_new h e h.offers events) k h.count) is
      (let q = sent.request i.request in
      let born = (later.end e.birth.caller sent.x_low).birth in
      record {
        calls = ap (λ (x : Birth). x.is_called) born ∙ q.calls;
        there = ap (λ (y : End). y.birth.partner) at ∙ i.partner ∙ sent.from ∙ sym (ap (λ (x : Birth). x.address) born);
        back = ap (λ (x : Birth). x.partner) born ∙ sym q.to ∙ sym i.address ∙ sym (ap (λ (y : End). y.birth.address) at);
        knows = ap (λ (y : End). y.known) at ∙ i.knows ∙ q.source ∙ sym (ap (λ (x : Birth). x.reference) born);
        before = omega (arith, ap (λ (x : Birth). x.made) born, ap (λ (y : End). y.birth.made) at, i.new.made, sent.made, (s.offers o i.offered).past);
        asked = until_on (h.end e.birth.caller).stop (new.end e.birth.caller).stop h.clock (new.end h.count).birth.made times.life (later.end e.birth.caller sent.x_low).stop
            (omega (arith, ap (λ (y : End). y.birth.made) at, i.new.made))
            (λ t stop. omega (arith, ap (λ (y : End). y.birth.made) at, i.new.made, i.fresh, sent.stopped t stop));
        words = ap (λ (y : End). y.birth.words) at ∙ i.words ∙ q.words ∙ sym (ap (λ (x : Birth). x.words) born);
      })

  one : (a c : ℕ) → e.birth.caller ≡ a → IsCaller (with_new h e h.offers events) a c → h.count ≡ c
  one a c is p = elim (cases_eq c h.count) [
    | inl same ↦ sym same
    | inr other ↦
        (let low : c < h.count = omega (arith, p.b_low, other) in
        let up : a < h.count = omega (arith, is, sent.x_low) in
        absurd (alone c (subst (λ (k : ℕ). IsCaller h k c) (sym is) (caller_back times h new later a c up low p))))
  ]

  pub indicates : Sound times (with_new h e h.offers events)
  indicates = new_sound times h s e i.new h.offers events
      (λ some. (
        e.birth.caller,
        inr (record {
          a_low = omega (arith, sent.x_low);
          b_low = omega arith;
          called = ap (λ (y : End). y.birth.is_called) at ∙ i.called;
          is = ap (λ (y : End). y.birth.caller) at;
        }),
        i.knows ∙ (sent.request i.request).source ∙ sym (ap (λ (x : Birth). x.reference) (later.end e.birth.caller sent.x_low).birth),
      ))
      (λ other c. inl c)
      (λ _. sent.x_low)
      (λ a p. (pair a (caller_is a p), λ c q. one a c (caller_is a p) q))
      (λ z low p. subst (λ (k : ℕ). Until (h.end k).stop h.clock times.life) (caller_is z p) (λ t is. omega (arith, i.fresh, sent.stopped t is)))
