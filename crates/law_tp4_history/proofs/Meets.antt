-- The law of two ends: an end hears of its partner for at most a lifetime after that has stopped, so once its reference is free nothing is afloat for
-- it. So what is afloat and goes to an end is of its partner or answers it: nothing old meets a new end.
use Rattle.std.proofs.Common.{◌≡◌, ◌≢◌, ◌⊎◌, inl, inr, ℕ, ◌+◌, ◌<◌, ◌≤◌, false, Some, refl, sym, ◌∙◌, ap, subst, arith, Contains}
use Rattle.std.proofs.lemmas.Bool.{cases_order}
use Rattle.law_tp4_history.specs.Ends.{Times, IsFit, frozen, Kind, Cr, Origin, Sent, Answer, Offer}
use Rattle.law_tp4_history.specs.History.{History, IsCaller, IsPartner, IsFresh}
use Rattle.law_tp4_history.specs.Reached.{IsFor, MeetsOwn, OneRequest, EachRequest, IsQuiet, FreeIsQuiet, EachEnd, From_partner, Answering}
use Rattle.law_tp4_history.proofs.Sound.{Until, AimedFacts, SentFacts, AnswerFacts, OfferFacts, Sound, partner_low, one_partner}

pub swap : (h : History) (x y : ℕ) → IsPartner h x y → IsPartner h y x
swap h x y (inl p) = inr p
swap h x y (inr p) = inl p

module _ (times : Times) (h : History) (s : Sound times h) where
  -- law of two ends: what is aimed at y is not fresh after its stop by F
  pub aimed_bound : (o : Offer) (x : ℕ) (f : AimedFacts times h o x) → IsFresh times h o → Until (h.end f.y).stop h.clock (frozen times)
  aimed_bound o x f fresh t is = omega (arith, f.outlived t is, fresh)

  pub answer_bound : (o : Offer) (z since : ℕ) (f : AnswerFacts times h o z since) → IsFresh times h o → Until (h.end z).stop h.clock (frozen times)
  answer_bound o z since f fresh t is = omega (arith, f.stopped t is, f.soon, fresh)

  -- two ends with one address and reference are one, if one stands and the other is not long gone
  pub one_end : (y z : ℕ) → y < h.count → z < h.count → (h.end y).birth.address ≡ (h.end z).birth.address → (h.end y).birth.reference ≡ (h.end z).birth.reference
      → (h.end z).is_out ≡ false → Until (h.end y).stop h.clock (frozen times) → y ≡ z
  one_end y z ylow zlow there ref held bound = elim (cases_order y z) [
    | inl same ↦ same
    | inr (inl below) ↦ (let b = s.booked y z below zlow there ref in let o = s.own z zlow in absurd (omega (arith, bound b.0 b.1, b.2, o.made_low, o.took_low)))
    | inr (inr above) ↦ (let b = s.booked z y above ylow (sym there) (sym ref) in absurd (cc (b.3, held)))
  ]

  -- what comes to an end that stands is of its partner, or answers it
  pub data Meets (o : Offer) (z : ℕ) : Type 0 where
    Of_partner : (x : ℕ) → o.origin ≡ Sent x → SentFacts times h o x → (f : AimedFacts times h o x) → f.y ≡ z → Meets o z
    Of_entity : (since : ℕ) → o.origin ≡ Answer z since → AnswerFacts times h o z since → Meets o z

  pub meets : (z : ℕ) (o : Offer) → z < h.count → (h.end z).is_out ≡ false → Contains h.offers o → IsFresh times h o → o.tpdu.kind ≢ Cr
      → o.to ≡ (h.end z).birth.address → o.tpdu.target ≡ (h.end z).birth.reference → Meets o z
  meets z o zlow held c fresh other to target = by o.origin refl
    where
      facts : OfferFacts times h o
      facts = s.offers o c

      by : (g : Origin) → o.origin ≡ g → Meets o z
      by (Sent x) is =
          let f = facts.sent x is in
          let a = f.aimed other in
          Of_partner x is f a (one_end a.y z (partner_low times h s x a.y a.partner).1 zlow (sym a.to ∙ to) (sym a.target ∙ target) held (aimed_bound o x a fresh))
      by (Answer y since) is =
          let f = facts.answers y since is in
          let same : y ≡ z = one_end y z f.z_low zlow (sym f.to ∙ to) (sym f.target ∙ target) held (answer_bound o y since f fresh) in
          Of_entity since (is ∙ ap (λ (k : ℕ). Answer k since) same) (subst (λ (k : ℕ). AnswerFacts times h o k since) same f)

  own_of : (z : ℕ) (o : Offer) → Meets o z → ((h.end z).birth.made ≤ o.tick) × IsFor h o z
  own_of z o (Of_partner x is f a same) = (
    subst (λ (k : ℕ). (h.end k).birth.made ≤ o.tick) same a.made,
    From_partner x is (subst (λ (k : ℕ). IsPartner h x k) same a.partner) f.from,
  )
  own_of z o (Of_entity since is f) = (omega (arith, f.made, f.after), Answering since is f.kind)

  pub meets_own : MeetsOwn times h
  meets_own z o zlow held c fresh other to target = own_of z o (meets z o zlow held c fresh other to target)

  is_request : (k : Kind) → (k ≡ Cr) ⊎ (k ≢ Cr)
  is_request Cr = inl refl
  is_request other = inr (λ e. cc e)

  -- how long a CR is afloat
  module _ (fit : IsFit times) (a : ℕ) (o : Offer) (c : Contains h.offers o) (is : o.tpdu.kind ≡ Cr) (by : o.origin ≡ Sent a) (fresh : IsFresh times h o) where
    since_made : h.clock ≤ (h.end a).birth.made + times.most + times.life
    since_made = let soon = (((s.offers o c).sent a by).request is).soon in omega (arith, soon, fresh)

    since_called : (y : ℕ) → IsCaller h a y → h.clock ≤ (h.end y).birth.made + times.most + times.life
    since_called y p = let before = (s.pairs a y p).before in omega (arith, since_made, before)

    since_stop : (y t : ℕ) → IsCaller h a y → (h.end y).stop ≡ Some t → h.clock ≤ t + times.span + times.life
    since_stop y t p stop =
        let own = s.own y p.b_low in
        let made = own.made_low in
        let took = (own.stopped t stop).1 in
        omega (arith, since_called y p, made, took, fit)

    since_restart : (y r : ℕ) → IsCaller h a y → Contains h.restarts ((h.end y).birth.address, r) → (h.end y).birth.made ≤ r → h.clock ≤ r + times.span + times.life
    since_restart y r p began low = omega (arith, since_called y p, low, fit)

    one_request : OneRequest times h a o
    one_request = record { made = since_made; called = since_called; stopped = since_stop; restarted = since_restart }

  pub each_request : IsFit times → EachRequest times h
  each_request fit a o c is by fresh = one_request fit a o c is by fresh

  module _ (fit : IsFit times) (y t : ℕ) (ylow : y < h.count) (stop : (h.end y).stop ≡ Some t) (past : t + frozen times < h.clock) where
    -- no CR of its caller, by the law of one request
    request_late : (a : ℕ) (o : Offer) → IsCaller h a y → Contains h.offers o → o.tpdu.kind ≡ Cr → o.origin ≡ Sent a → IsFresh times h o → ⊥
    request_late a o p c is by fresh =
        let r = each_request fit a o c is by fresh in
        omega (arith, r.stopped y t p stop, past)

    for_late : (o : Offer) → Contains h.offers o → IsFor h o y → IsFresh times h o → ⊥
    for_late o c (From_partner x is p from) fresh = elim (is_request o.tpdu.kind) [
      | inl request ↦ by_caller p request
      | inr other ↦
          (let a = ((s.offers o c).sent x is).aimed other in
          let same : a.y ≡ y = one_partner times h s x a.y y a.partner p in
          omega (arith, aimed_bound o x a fresh t (subst (λ (k : ℕ). (h.end k).stop ≡ Some t) (sym same) stop), past))
    ]
      where
        by_caller : IsPartner h x y → o.tpdu.kind ≡ Cr → ⊥
        by_caller (inl q) request = request_late x o q c request is fresh
        by_caller (inr q) request = absurd (cc ((((s.offers o c).sent x is).request request).calls, q.called))
    for_late o c (Answering since is kind) fresh = omega (arith, answer_bound o y since ((s.offers o c).answers y since is) fresh t stop, past)

    from_late : (o : Offer) → Contains h.offers o → o.origin ≡ Sent y → IsFresh times h o → ⊥
    from_late o c by fresh = omega (arith, ((s.offers o c).sent y by).stopped t stop, past, fresh)

    pub quiet : IsQuiet times h y
    quiet = record { to = for_late; from = from_late; request = request_late }

  pub free_is_quiet : IsFit times → FreeIsQuiet times h
  free_is_quiet fit y t ylow stop past = quiet fit y t ylow stop past

  pub each_end : EachEnd times h
  each_end = (
    λ k low. (let f = s.own k low in record {
      going = λ is. omega (arith, f.now_low is, f.latest_low is);
      stopped = λ t is. ((f.stopped t is).1, (f.stopped t is).2);
      offers = λ o c by. (let g = (s.offers o c).sent k by in (g.made, g.soon));
      no_more = λ o t c by is. omega (arith, ((s.offers o c).sent k by).stopped t is);
    }),
    λ o z since t c by is fresh. (let f = (s.offers o c).answers z since by in omega (arith, f.stopped t is, f.soon, fresh)),
  )
