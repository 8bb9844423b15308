-- A move of an end keeps what is sound. What it offers goes to its partner, as the reference that it knows is that of its partner; and it lasts no
-- longer than its last TPDU allows.
use Rattle.std.proofs.Common.{◌≡◌, ◌≢◌, ◌⊎◌, inl, inr, ℕ, ◌+◌, ◌<◌, ◌≤◌, true, List, ◌++◌, Option, Some, None, refl, sym, ◌∙◌, ap, subst, arith, Contains}
use Rattle.std.proofs.lemmas.List.Elements.{Contains-append_cases}
use Rattle.law_tp4_history.specs.Ends.{Times, Cc, Dr, Dc, Tpdu, Offer, Phase, Closing, Frozen, Birth, End, Cause, Alone, Took, took_by, IsRequest, Goes, To_known, Back, IsOffered, IsMove}
use Rattle.law_tp4_history.specs.History.{History, set_end, IsPartner, IsTaken}
use Rattle.law_tp4_history.proofs.Sound.{at_end, Until, OwnFacts, AimedFacts, SentFacts, AnswerFacts, OfferFacts, Sound, partner_low, partner_address, one_partner}
use Rattle.law_tp4_history.proofs.Later.{Stops, EndLater, end_same, IsLater, until_on, own_on, partner_on, caller_back, sound_on}
use Rattle.law_tp4_history.proofs.Meets.{swap, Meets, Of_partner, Of_entity, meets}

-- end y changes, and no end is made
abbrev pub with_end : History → ℕ → End → List Offer → History
with_end h y e offers = record h { end = set_end h.end y e; offers = offers }

module _ (times : Times) (h : History) (s : Sound times h) (y : ℕ) (low : y < h.count) (e : End) (offers : List Offer) (l : EndLater h.clock (h.end y) e) where
  pub later : IsLater h (with_end h y e offers)
  later = record {
    clock = omega arith;
    count = omega arith;
    end = λ k _. at_end (λ (j : ℕ) (to : End). EndLater h.clock (h.end j) to) h.end y e k l (λ _. end_same h.clock (h.end k));
    restarts = λ address r c. c;
  }

  pub changed : OwnFacts times (with_end h y e offers) y e
      → (e.stop ≡ None → (z : ℕ) → IsPartner h y z → Until (h.end z).stop e.took times.life)
      → ((o : Offer) → Contains offers o → Contains h.offers o ⊎ OfferFacts times (with_end h y e offers) o)
      → Sound times (with_end h y e offers)
  changed own heard news = sound_on times h new later s
      (λ k klow. at_end (λ (j : ℕ) (to : End). OwnFacts times new j to) h.end y e k own (λ _. own_on times h new later s k (h.end k) (s.own k klow).now_low (s.own k klow)))
      news
      (λ b blow called. subst (λ (c : ℕ). c < h.count) (sym (ap (λ (x : Birth). x.caller) (later.end b blow).birth)) (s.caller_low b blow (sym (ap (λ (x : Birth). x.is_called) (later.end b blow).birth) ∙ called)))
      (λ a b p. inl (caller_back times h new later a b p.a_low p.b_low p))
      (λ x z p.
      let q = back x z p in
      let on : Stops h.clock (h.end z).stop (new.end z).stop = (later.end z (partner_low times h s x z q).1).stop in
      at_end (λ (j : ℕ) (to : End). IsPartner h j z → to.stop ≡ None → Until (new.end z).stop to.took times.life) h.end y e x
      (λ r going. until_on (h.end z).stop (new.end z).stop h.clock e.took times.life on (omega (arith, own.took_low)) (heard going z r))
      (λ _ r going. until_on (h.end z).stop (new.end z).stop h.clock (h.end x).took times.life on (omega (arith, (s.own x (partner_low times h s x z r).0).took_low)) (s.outlived x z r going))
      q)
      (λ i j up high. inl high)
    where
      new : History
      new = with_end h y e offers

      back : (x z : ℕ) → IsPartner new x z → IsPartner h x z
      back x z (inl p) = inl (caller_back times h new later x z p.a_low p.b_low p)
      back x z (inr p) = inr (caller_back times h new later z x p.a_low p.b_low p)

took_in : (cause : Cause) (old clock : ℕ) → old ≤ clock → (old ≤ took_by cause old clock) × (took_by cause old clock ≤ clock)
took_in Alone old clock low = (omega arith, low)
took_in (Took tpdu) old clock low = (low, omega arith)

latest_in : (new old took before idle span : ℕ) → (new ≤ old) ⊎ (new ≤ took + idle + span) → old ≤ before + idle + span → before ≤ took → new ≤ took + idle + span
latest_in new old took before idle span (inl a) b c = omega (arith, a, b, c)
latest_in new old took before idle span (inr a) b c = a

stops_at : (new : Option ℕ) (clock t : ℕ) → (new ≡ None) ⊎ (new ≡ Some clock) → new ≡ Some t → clock ≡ t
stops_at new clock t (inl e) is = absurd (cc (e, is))
stops_at new clock t (inr e) is = cc (e, is)

closes : (phase : Phase) (stop : Option ℕ) (clock : ℕ) → (phase ≡ Closing) ⊎ (phase ≡ Frozen) → (phase ≡ Frozen → stop ≡ Some clock) → stop ≡ None → phase ≡ Closing
closes phase stop clock (inl e) f going = e
closes phase stop clock (inr e) f going = absurd (cc (f e, going))

stays : (old new : Option ℕ) (clock : ℕ) → old ≡ None → (new ≡ None) ⊎ (new ≡ Some clock) → Stops clock old new
stays old new clock was (inl e) = inl (e ∙ sym was)
stays old new clock was (inr e) = inr (was, e)

-- a partner of y in h, whose reference this is
abbrev pub Knows : History → ℕ → ℕ → Type 0
Knows h y reference = (z : ℕ) × IsPartner h y z × (reference ≡ (h.end z).birth.reference)

module _ (times : Times) (h : History) (s : Sound times h) (y : ℕ) (low : y < h.count) (cause : Cause) (new : End) (offered : List Offer)
    (m : IsMove times h.clock y cause (h.end y) new offered) where
  pub move_later : EndLater h.clock (h.end y) new
  move_later = record {
    birth = m.same;
    stop = stays (h.end y).stop new.stop h.clock m.was_going m.stops;
    took = (subst (λ (t : ℕ). ((h.end y).took ≤ t) × (t ≤ h.clock)) (sym m.took) (took_in cause (h.end y).took h.clock (s.own y low).took_low)).0;
    parted = m.parted;
    known = λ some. elim m.known [ inl e ↦ e | inr e ↦ absurd (some e.0) ];
    out = λ is. absurd (cc (((s.own y low).gone is).1, m.was_going));
  }

  to : History
  to = with_end h y new (h.offers ++ offered)

  l : IsLater h (with_end h y new (h.offers ++ offered))
  l = later times h s y low new (h.offers ++ offered) move_later

  moved : (new.known ≢ 0 → Knows h y new.known)
      → (new.stop ≡ None → (z : ℕ) → IsPartner h y z → Until (h.end z).stop new.took times.life)
      → ((dr : Tpdu) → cause ≡ Took dr → dr.kind ≡ Dr → dr.source ≢ 0 → (z : ℕ) × IsPartner h y z × (dr.source ≡ (h.end z).birth.reference) × ((h.end z).is_parted ≡ true))
      → Sound times (with_end h y new (h.offers ++ offered))
  moved knows heard back = changed times h s y low new (h.offers ++ offered) move_later own heard (λ o c. elim (Contains-append_cases h.offers offered o c) [ inl old ↦ inl old | inr is ↦ inr (news o is) ])
    where
      f : OwnFacts times h y (h.end y)
      f = s.own y low

      then : History
      then = with_end h y new (h.offers ++ offered)

      made : new.birth.made ≡ (h.end y).birth.made
      made = ap (λ (b : Birth). b.made) m.same

      took : ((h.end y).took ≤ new.took) × (new.took ≤ h.clock)
      took = subst (λ (t : ℕ). ((h.end y).took ≤ t) × (t ≤ h.clock)) (sym m.took) (took_in cause (h.end y).took h.clock f.took_low)

      at_partner : (z : ℕ) → IsPartner h y z → (then.end z).birth ≡ (h.end z).birth
      at_partner z p = (l.end z (partner_low times h s y z p).1).birth

      own : OwnFacts times (with_end h y new (h.offers ++ offered)) y new
      own = record {
        some = subst (λ (b : Birth). 0 < b.reference) (sym m.same) f.some;
        made_low = omega (arith, made, f.made_low, took.0);
        took_low = took.1;
        stopped = λ t is. let e : h.clock ≡ t = stops_at new.stop h.clock t m.stops is in (omega (arith, e), omega (arith, e, took.1), omega (arith, e, took.0, f.now_low m.was_going, f.latest_low m.was_going));
        now_low = m.now_low;
        latest_low = λ going. latest_in new.latest (h.end y).latest new.took (h.end y).took times.idle times.span m.latest_low (f.latest_low m.was_going) took.0;
        parted = λ is going. closes new.phase new.stop h.clock (m.parts is) m.frozen going;
        gone = λ is. absurd (cc (is, m.is_held));
        known = λ some. let p = knows some in (p.0, partner_on times h then l y p.0 p.1, p.2 ∙ sym (ap (λ (b : Birth). b.reference) (at_partner p.0 p.1)));
      }

      -- what it offers now, to the partner z
      aimed : (o : Offer) (z : ℕ) → IsPartner h y z → o.tick ≡ h.clock → o.to ≡ (h.end y).birth.partner → o.tpdu.target ≡ (h.end z).birth.reference
          → (o.tpdu.kind ≡ Dc → (h.end z).is_parted ≡ true) → AimedFacts times (with_end h y new (h.offers ++ offered)) o y
      aimed o z p tick goes target parted =
          let zlow = (partner_low times h s y z p).1 in
          let born = at_partner z p in
          let oz = s.own z zlow in
          record {
            y = z;
            partner = partner_on times h then l y z p;
            to = goes ∙ partner_address times h s y z p ∙ sym (ap (λ (b : Birth). b.address) born);
            target = target ∙ sym (ap (λ (b : Birth). b.reference) born);
            made = omega (arith, ap (λ (b : Birth). b.made) born, oz.made_low, oz.took_low, tick);
            outlived = until_on (h.end z).stop (then.end z).stop h.clock o.tick (times.life + times.idle + times.span) (l.end z zlow).stop (omega (arith, tick))
                (λ t is. omega (arith, tick, f.now_low m.was_going, f.latest_low m.was_going, s.outlived y z p m.was_going t is));
            parted = λ is. (l.end z zlow).parted (parted is);
          }

      goes_to : (o : Offer) → o.tick ≡ h.clock → o.to ≡ (h.end y).birth.partner → Goes cause new o → AimedFacts times (with_end h y new (h.offers ++ offered)) o y
      goes_to o tick goes (To_known no_dc some target) = let p = knows some in aimed o p.0 p.1 tick goes (target ∙ p.2) (λ is. absurd (no_dc is))
      goes_to o tick goes (Back dr is kind some target) = let p = back dr is kind some in aimed o p.0 p.1 tick goes (target ∙ p.2) (λ _. p.3)

      by_y : (o : Offer) → IsOffered times h.clock y cause (h.end y) new o → SentFacts times (with_end h y new (h.offers ++ offered)) o y
      by_y o is =
          let born = (l.end y low).birth in
          let here : (then.end y).is_parted ≡ new.is_parted = at_end (λ (j : ℕ) (x : End). j ≡ y → x.is_parted ≡ new.is_parted) h.end y new y (λ _. refl) (λ different. absurd (different refl)) refl in
          record {
            x_low = low;
            from = is.from ∙ sym (ap (λ (b : Birth). b.address) born);
            made = omega (arith, ap (λ (b : Birth). b.made) born, f.made_low, f.took_low, is.tick);
            soon = omega (arith, is.tick, f.now_low m.was_going, f.latest_low m.was_going, (l.end y low).took);
            stopped = until_on (h.end y).stop (then.end y).stop h.clock o.tick 0 (l.end y low).stop (omega (arith, is.tick)) (λ t stop. absurd (cc (stop, m.was_going)));
            request = λ cr. subst (λ (b : Birth). IsRequest times o.tick b o) (sym born) (subst (λ (t : ℕ). IsRequest times t (h.end y).birth o) (sym is.tick) (is.request cr));
            aimed = λ other. goes_to o is.tick (is.to other) (is.goes other);
            confirm = λ cc_. is.confirm cc_ ∙ sym (ap (λ (b : Birth). b.reference) born);
            parting = λ dr some. let p = is.parting dr some in (p.0 ∙ sym (ap (λ (b : Birth). b.reference) born), here ∙ p.1);
          }

      news : (o : Offer) → Contains offered o → OfferFacts times (with_end h y new (h.offers ++ offered)) o
      news o c =
          let is = m.offers o c in
          record {
            past = omega (arith, is.tick);
            sent = λ x by. (let same : y ≡ x = cc (is.origin, by) in subst (λ (k : ℕ). SentFacts times (with_end h y new (h.offers ++ offered)) o k) same (by_y o is));
            answers = λ z since by. absurd (cc (is.origin, by));
          }

  known_by : ((tpdu : Tpdu) → cause ≡ Took tpdu → tpdu.kind ≡ Cc → Knows h y tpdu.source) → new.known ≢ 0 → Knows h y new.known
  known_by confirm some = elim m.known [
    | inl same ↦ (let p = (s.own y low).known (λ none. some (same ∙ none)) in (p.0, p.1, same ∙ p.2))
    | inr took ↦ (let p = confirm took.1.0 took.1.1 took.1.2 in (p.0, p.1, took.1.3 ∙ p.2))
  ]

-- by its user or its timers
module _ (times : Times) (h : History) (s : Sound times h) (y : ℕ) (low : y < h.count) (new : End) (offered : List Offer)
    (m : IsMove times h.clock y Alone (h.end y) new offered) where
  pub acted : Sound times (with_end h y new (h.offers ++ offered))
  acted = moved times h s y low Alone new offered m
      (known_by times h s y low Alone new offered m (λ tpdu is. absurd (cc is)))
      (λ _ z p. subst (λ (t : ℕ). Until (h.end z).stop t times.life) (sym m.took) (s.outlived y z p m.was_going))
      (λ dr is. absurd (cc is))

took_same : (tpdu dr : Tpdu) → Took tpdu ≡ Took dr → tpdu ≡ dr
took_same tpdu dr e = cc e

-- by what came to it
module _ (times : Times) (h : History) (s : Sound times h) (y : ℕ) (o : Offer) (tpdu : Tpdu) (new : End) (offered : List Offer)
    (taken : IsTaken times h y o tpdu) (m : IsMove times h.clock y (Took tpdu) (h.end y) new offered) where
  by_partner : (x : ℕ) → SentFacts times h o x → IsPartner h y x → Sound times (with_end h y new (h.offers ++ offered))
  by_partner x f p = moved times h s y taken.y_low (Took tpdu) new offered m
      (known_by times h s y taken.y_low (Took tpdu) new offered m (λ t is kind.
      let same : tpdu ≡ t = took_same tpdu t is in
      let was : o.tpdu.kind ≡ Cc = sym taken.reading.kind ∙ ap (λ (u : Tpdu). u.kind) same ∙ kind in
      let all : tpdu ≡ o.tpdu = taken.reading.control (λ flow. absurd (cc (flow, was))) in
      (x, p, ap (λ (u : Tpdu). u.source) (sym same ∙ all) ∙ f.confirm was)))
      (λ _ z q. let one : x ≡ z = one_partner times h s y x z p q in
      subst (λ (k : ℕ). Until (h.end k).stop new.took times.life) one (λ t is. omega (arith, m.took, taken.fresh, f.stopped t is)))
      (λ dr is kind some.
      let same : tpdu ≡ dr = took_same tpdu dr is in
      let was : o.tpdu.kind ≡ Dr = sym taken.reading.kind ∙ ap (λ (u : Tpdu). u.kind) same ∙ kind in
      let all : tpdu ≡ o.tpdu = taken.reading.control (λ flow. absurd (cc (flow, was))) in
      let from : dr.source ≡ o.tpdu.source = ap (λ (u : Tpdu). u.source) (sym same ∙ all) in
      let parts = f.parting was (λ none. some (from ∙ none)) in
      (x, p, from ∙ parts.0, parts.1))

  -- an answer ends it
  ends_it : (since : ℕ) → AnswerFacts times h o y since → new.phase ≡ Frozen
  ends_it since f = elim f.kind [
    | inl dr ↦ m.refused tpdu refl (taken.reading.kind ∙ dr.0)
    | inr dc ↦ m.closed tpdu refl (taken.reading.kind ∙ dc) ((s.own y taken.y_low).parted (f.parted dc) m.was_going)
  ]

  by_entity : (since : ℕ) → AnswerFacts times h o y since → Sound times (with_end h y new (h.offers ++ offered))
  by_entity since f = moved times h s y taken.y_low (Took tpdu) new offered m
      (known_by times h s y taken.y_low (Took tpdu) new offered m (λ t is kind.
      let was : o.tpdu.kind ≡ Cc = sym taken.reading.kind ∙ ap (λ (u : Tpdu). u.kind) (took_same tpdu t is) ∙ kind in
      absurd (elim f.kind [ inl dr ↦ cc (dr.0, was) | inr dc ↦ cc (dc, was) ])))
      (λ going. absurd (cc (m.frozen (ends_it since f), going)))
      (λ dr is kind some.
      let same : tpdu ≡ dr = took_same tpdu dr is in
      let was : o.tpdu.kind ≡ Dr = sym taken.reading.kind ∙ ap (λ (u : Tpdu). u.kind) same ∙ kind in
      let all : tpdu ≡ o.tpdu = taken.reading.control (λ flow. absurd (cc (flow, was))) in
      absurd (elim f.kind [ inl none ↦ some (ap (λ (u : Tpdu). u.source) (sym same ∙ all) ∙ none.1) | inr dc ↦ cc (dc, was) ]))

  pub took_sound : Sound times (with_end h y new (h.offers ++ offered))
  took_sound = by (meets times h s y o taken.y_low taken.is_held taken.offered taken.fresh taken.no_request taken.address (sym taken.reading.target ∙ taken.target))
    where
      by : Meets times h s o y → Sound times (with_end h y new (h.offers ++ offered))
      by (Of_partner x is f a same) = by_partner x f (swap h x y (subst (λ (k : ℕ). IsPartner h x k) same a.partner))
      by (Of_entity since is f) = by_entity since f
