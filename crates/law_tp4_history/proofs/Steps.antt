-- Each step keeps what is sound, and nothing is forgotten in it. So each history that is reached is sound.
use Rattle.std.proofs.Common.{◌≡◌, ◌⊎◌, inl, inr, ℕ, ◌+◌, ◌<◌, ◌≤◌, true, List, [], ◌∷◌, ◌++◌, Option, Some, None, refl, sym, ◌∙◌, ap, subst, arith, Contains}
use Rattle.std.proofs.lemmas.List.Elements.{Contains-append_left, Contains-push, Contains-push_cases}
use Rattle.std.specs.Prelude.{nat_eq}
use Rattle.std.specs.Cmp.Lexicographic.{pointwise}
use Rattle.std.proofs.lemmas.Bool.Decides.{Decides-eqb}
use Rattle.std.proofs.lemmas.Slice.Eq.{slice_eq-Decides}
use Rattle.tp4_number.proofs.Past.{if_kept}
use Rattle.tp4_number.proofs.Accounts.{none}
use Rattle.law_tp4_history.specs.Ends.{Times, IsFit, frozen, Dr, Dc, Origin, Sent, Answer, Offer, Birth, End, Alone, Took}
use Rattle.law_tp4_history.proofs.Sound.{Until, OwnFacts, SentFacts, AnswerFacts, OfferFacts, Sound, partner_low}
use Rattle.law_tp4_history.proofs.Later.{Stops, EndLater, end_same, IsLater, until_on, own_on, caller_back, sound_on}
use Rattle.law_tp4_history.specs.History.{Event, Other, History, nothing, IsPartner, IsAnswer, answers_to, ended, lost, Step, Tick, Connect, Indicate, Reply, Take, Act, Release, Restart, Note, May, next, Leads, event_of}
use Rattle.law_tp4_history.specs.Reached.{Reached}
use Rattle.law_tp4_history.proofs.Moves.{with_end, later, changed, move_later, acted, took_sound}
use Rattle.law_tp4_history.proofs.Begun.{new_later, begun, indicates}

-- the ends stay as they are
abbrev pub with_rest : History → ℕ → List Offer → List Event → History
with_rest h clock offers events = record h { clock = clock; offers = offers; events = events }

pub rest_later : (h : History) (clock : ℕ) (offers : List Offer) (events : List Event) → h.clock ≤ clock → IsLater h (with_rest h clock offers events)
rest_later h clock offers events up = record {
  clock = up;
  count = omega arith;
  end = λ k _. end_same h.clock (h.end k);
  restarts = λ address r c. c;
}

module _ (times : Times) (h : History) (s : Sound times h) (clock : ℕ) (offers : List Offer) (events : List Event) where
  pub rest : h.clock ≤ clock → ((k : ℕ) → k < h.count → (h.end k).stop ≡ None → clock ≤ (h.end k).latest)
      → ((o : Offer) → Contains offers o → Contains h.offers o ⊎ OfferFacts times (with_rest h clock offers events) o)
      → Sound times (with_rest h clock offers events)
  rest up now news = sound_on times h new later s
      (λ k low. own_on times h new later s k (h.end k) (now k low) (s.own k low))
      news
      s.caller_low
      (λ a b p. inl (caller_back times h new later a b p.a_low p.b_low p))
      (λ x z p going. s.outlived x z (back x z p) going)
      (λ i j low high. inl high)
    where
      new : History
      new = with_rest h clock offers events

      later : IsLater h (with_rest h clock offers events)
      later = rest_later h clock offers events up

      back : (x z : ℕ) → IsPartner (with_rest h clock offers events) x z → IsPartner h x z
      back x z (inl p) = inl (caller_back times h new later x z p.a_low p.b_low p)
      back x z (inr p) = inr (caller_back times h new later z x p.a_low p.b_low p)

-- an answer is for the sender of what it answers
module _ (times : Times) (h : History) (s : Sound times h) (o answer : Offer) (a : IsAnswer times h o answer) where
  to : History
  to = with_rest h h.clock (h.offers ++ answer ∷ []) h.events

  source_of : (z : ℕ) → SentFacts times h o z → o.tpdu.source ≡ (h.end z).birth.reference
  source_of z f = elim a.kind [
    | inl cr ↦ (f.request cr).source
    | inr (inl confirm) ↦ f.confirm confirm
    | inr (inr dr) ↦ (f.parting dr.0 dr.1).0
  ]

  parted_of : (z : ℕ) → SentFacts times h o z → answer.tpdu.kind ≡ Dc → (h.end z).is_parted ≡ true
  parted_of z f dc = elim a.answers [
    | inl dr ↦ absurd (cc (dr.0, dc))
    | inr back ↦ elim a.kind [
      | inl cr ↦ absurd (cc (cr, back.1))
      | inr (inl confirm) ↦ absurd (cc (confirm, back.1))
      | inr (inr dr) ↦ (f.parting dr.0 dr.1).1
    ]
  ]

  kind_of : ((answer.tpdu.kind ≡ Dr) × (answer.tpdu.source ≡ 0)) ⊎ (answer.tpdu.kind ≡ Dc)
  kind_of = elim a.answers [ inl dr ↦ inl dr | inr back ↦ inr back.0 ]

  answered : (z : ℕ) → SentFacts times h o z → AnswerFacts times (with_rest h h.clock (h.offers ++ answer ∷ []) h.events) answer z o.tick
  answered z f = record {
    z_low = f.x_low;
    to = a.to ∙ f.from;
    target = a.target ∙ source_of z f;
    made = f.made;
    after = omega (arith, (s.offers o a.offered).past, a.tick);
    soon = omega (arith, a.fresh, a.tick);
    stopped = f.stopped;
    kind = kind_of;
    parted = parted_of z f;
  }

  no_answer : (z since : ℕ) → AnswerFacts times h o z since → ⊥
  no_answer z since f = elim f.kind [
    | inl dr ↦ elim a.kind [
      | inl cr ↦ cc (cr, dr.0)
      | inr (inl confirm) ↦ cc (confirm, dr.0)
      | inr (inr other) ↦ other.1 dr.1
    ]
    | inr dc ↦ elim a.kind [
      | inl cr ↦ cc (cr, dc)
      | inr (inl confirm) ↦ cc (confirm, dc)
      | inr (inr other) ↦ cc (other.0, dc)
    ]
  ]

  news : OfferFacts times (with_rest h h.clock (h.offers ++ answer ∷ []) h.events) answer
  news = by o.origin refl
    where
      by : (g : Origin) → o.origin ≡ g → OfferFacts times (with_rest h h.clock (h.offers ++ answer ∷ []) h.events) answer
      by (Sent y) is =
          let from : answer.origin ≡ Answer y o.tick = a.origin ∙ ap (answers_to o) is in
          record {
            past = omega (arith, a.tick);
            sent = λ x other. absurd (cc (from, other));
            answers = λ z since other.
                (let z_is : y ≡ z = cc (from, other) in
                let since_is : o.tick ≡ since = cc (from, other) in
                subst (λ (t : ℕ). AnswerFacts times (with_rest h h.clock (h.offers ++ answer ∷ []) h.events) answer z t) since_is
                (subst (λ (k : ℕ). AnswerFacts times (with_rest h h.clock (h.offers ++ answer ∷ []) h.events) answer k o.tick) z_is (answered y ((s.offers o a.offered).sent y is))));
          }
      by (Answer y t) is = absurd (no_answer y t ((s.offers o a.offered).answers y t is))

  pub replied : Sound times (with_rest h h.clock (h.offers ++ answer ∷ []) h.events)
  replied = rest times h s h.clock (h.offers ++ answer ∷ []) h.events (omega arith) (λ k low. (s.own k low).now_low)
      (λ other c. elim (Contains-push_cases h.offers answer other c) [ inl old ↦ inl old | inr same ↦ inr (subst (OfferFacts times (with_rest h h.clock (h.offers ++ answer ∷ []) h.events)) same news) ])

-- an end is taken out
module _ (times : Times) (h : History) (s : Sound times h) (y t : ℕ) (low : y < h.count) (stop : (h.end y).stop ≡ Some t) (past : t + frozen times < h.clock) where
  pub released : Sound times (with_end h y (record (h.end y) { is_out = true }) h.offers)
  released =
      let f = s.own y low in
      let out : EndLater h.clock (h.end y) (record (h.end y) { is_out = true }) = record { birth = refl; stop = inl refl; took = omega arith; parted = λ x. x; known = λ x. refl; out = λ x. refl } in
      let l = later times h s y low (record (h.end y) { is_out = true }) h.offers out in
      let g = own_on times h (with_end h y (record (h.end y) { is_out = true }) h.offers) l s y (h.end y) f.now_low f in
      changed times h s y low (record (h.end y) { is_out = true }) h.offers out
      (record {
        some = f.some;
        made_low = f.made_low;
        took_low = f.took_low;
        stopped = f.stopped;
        now_low = f.now_low;
        latest_low = f.latest_low;
        parted = f.parted;
        gone = λ _. (t, stop, inl past);
        known = g.known;
      })
      (λ going. absurd (cc (going, stop)))
      (λ o c. inl c)

same_address : (one other : List ℕ) → pointwise nat_eq one other ≡ true → one ≡ other
same_address one other is = (slice_eq-Decides {E = nat_eq} Decides-eqb one other (pointwise nat_eq one other) refl).0 is

-- all ends of an address are lost
abbrev pub with_lost : History → List ℕ → History
with_lost h address = record h { end = (λ k. lost h.clock address (h.end k)); restarts = h.restarts ++ (address, h.clock) ∷ [] }

ended_is : (clock : ℕ) (stop : Option ℕ) → (t : ℕ) × (ended clock stop ≡ Some t) × (((t ≡ clock) × (stop ≡ None)) ⊎ (stop ≡ Some t))
ended_is clock None = (clock, refl, inl (refl, refl))
ended_is clock (Some t) = (t, refl, inr refl)

ended_stops : (clock : ℕ) (stop : Option ℕ) → Stops clock stop (ended clock stop)
ended_stops clock None = inr (refl, refl)
ended_stops clock (Some t) = inl refl

module _ (times : Times) (h : History) (s : Sound times h) (address : List ℕ) where
  pub lost_later : IsLater h (with_lost h address)
  lost_later = record {
    clock = omega arith;
    count = omega arith;
    end = λ k low. if_kept (EndLater h.clock (h.end k)) (pointwise nat_eq (h.end k).birth.address address) _ _
        (λ _. record { birth = refl; stop = ended_stops h.clock (h.end k).stop; took = omega arith; parted = λ x. x; known = λ x. refl; out = λ x. refl })
        (λ _. end_same h.clock (h.end k));
    restarts = λ a r c. Contains-append_left h.restarts _ _ c;
  }

  lost_own : (k : ℕ) → k < h.count → (h.end k).birth.address ≡ address → OwnFacts times (with_lost h address) k (record (h.end k) { stop = ended h.clock (h.end k).stop; is_out = true })
  lost_own k low at =
      let f = s.own k low in
      let g = own_on times h (with_lost h address) lost_later s k (h.end k) f.now_low f in
      let e = ended_is h.clock (h.end k).stop in
      let past : (e.0 ≤ h.clock) × ((h.end k).took ≤ e.0) × (e.0 ≤ (h.end k).took + times.idle + times.span) = elim e.2 [
        | inl now ↦ (omega (arith, now.0), omega (arith, now.0, f.took_low), omega (arith, now.0, f.now_low now.1, f.latest_low now.1))
        | inr was ↦ f.stopped e.0 was
      ] in
      record {
        some = f.some;
        made_low = f.made_low;
        took_low = f.took_low;
        stopped = λ t is. (let same : e.0 ≡ t = cc (e.1, is) in (omega (arith, past.0, same), omega (arith, past.1, same), omega (arith, past.2, same)));
        now_low = λ going. absurd (cc (going, e.1));
        latest_low = λ going. absurd (cc (going, e.1));
        parted = λ _ going. absurd (cc (going, e.1));
        gone = λ _. (e.0, e.1, inr (h.clock, subst (λ (a : List ℕ). Contains (h.restarts ++ (address, h.clock) ∷ []) (a, h.clock)) (sym at) (Contains-push h.restarts (address, h.clock)), past.0));
        known = g.known;
      }

  pub restarted : Sound times (with_lost h address)
  restarted = sound_on times h (with_lost h address) lost_later s
      (λ k low. if_kept (OwnFacts times (with_lost h address) k) (pointwise nat_eq (h.end k).birth.address address) _ _
      (λ is. lost_own k low (same_address (h.end k).birth.address address is))
      (λ _. own_on times h (with_lost h address) lost_later s k (h.end k) (s.own k low).now_low (s.own k low)))
      (λ o c. inl c)
      (λ b low called. subst (λ (c : ℕ). c < h.count) (sym (ap (λ (x : Birth). x.caller) (lost_later.end b low).birth)) (s.caller_low b low (sym (ap (λ (x : Birth). x.is_called) (lost_later.end b low).birth) ∙ called)))
      (λ a b p. inl (caller_back times h (with_lost h address) lost_later a b p.a_low p.b_low p))
      (λ x z p.
      let q = back x z p in
      let plow = partner_low times h s x z q in
      if_kept (λ (to : End). to.stop ≡ None → Until ((with_lost h address).end z).stop to.took times.life) (pointwise nat_eq (h.end x).birth.address address) _ _
      (λ _ going. absurd (cc ((ended_is h.clock (h.end x).stop).1, going)))
      (λ _ going. until_on (h.end z).stop ((with_lost h address).end z).stop h.clock (h.end x).took times.life (lost_later.end z plow.1).stop (omega (arith, (s.own x plow.0).took_low)) (s.outlived x z q going)))
      (λ i j low high. inl high)
    where
      back : (x z : ℕ) → IsPartner (with_lost h address) x z → IsPartner h x z
      back x z (inl p) = inl (caller_back times h (with_lost h address) lost_later x z p.a_low p.b_low p)
      back x z (inr p) = inr (caller_back times h (with_lost h address) lost_later z x p.a_low p.b_low p)

pub out_later : (clock : ℕ) (e : End) → EndLater clock e (record e { is_out = true })
out_later clock e = record { birth = refl; stop = inl refl; took = omega arith; parted = λ x. x; known = λ x. refl; out = λ x. refl }

-- nothing is forgotten
pub step_later : (times : Times) (fit : IsFit times) (h : History) (step : Step) → May times h step → Sound times h → IsLater h (next times h step)
step_later times fit h Tick may s = rest_later h (h.clock + 1) h.offers (h.events ++ Other ∷ []) (omega arith)
step_later times fit h (Connect e offered) may s = new_later times h s e may.0.new (h.offers ++ offered) (h.events ++ event_of e ∷ [])
step_later times fit h (Indicate o e) may s = new_later times h s e may.new h.offers (h.events ++ event_of e ∷ [])
step_later times fit h (Reply o answer) may s = rest_later h h.clock (h.offers ++ answer ∷ []) h.events (omega arith)
step_later times fit h (Take y o tpdu new offered) may s = later times h s y may.0.y_low new (h.offers ++ offered) (move_later times h s y may.0.y_low (Took tpdu) new offered may.1)
step_later times fit h (Act y new offered) may s = later times h s y may.0 new (h.offers ++ offered) (move_later times h s y may.0 Alone new offered may.2)
step_later times fit h (Release y) may s = later times h s y may.0 (record (h.end y) { is_out = true }) h.offers (out_later h.clock (h.end y))
step_later times fit h (Restart address) may s = lost_later times h s address
step_later times fit h Note may s = rest_later h h.clock h.offers (h.events ++ Other ∷ []) (omega arith)

pub sound_step : (times : Times) (fit : IsFit times) (h : History) (step : Step) → May times h step → Sound times h → Sound times (next times h step)
sound_step times fit h Tick may s = rest times h s (h.clock + 1) h.offers (h.events ++ Other ∷ []) (omega arith) (λ k low going. omega (arith, may k low going)) (λ o c. inl c)
sound_step times fit h (Connect e offered) may s = begun times h s e may.0 offered may.1 (h.events ++ event_of e ∷ [])
sound_step times fit h (Indicate o e) may s = indicates times fit h s o e may (h.events ++ event_of e ∷ [])
sound_step times fit h (Reply o answer) may s = replied times h s o answer may
sound_step times fit h (Take y o tpdu new offered) may s = took_sound times h s y o tpdu new offered may.0 may.1
sound_step times fit h (Act y new offered) may s = acted times h s y may.0 new offered may.2
sound_step times fit h (Release y) may s = released times h s y may.1.0 may.0 may.1.1 may.1.2
sound_step times fit h (Restart address) may s = restarted times h s address
sound_step times fit h Note may s = rest times h s h.clock h.offers (h.events ++ Other ∷ []) (omega arith) (λ k low. (s.own k low).now_low) (λ o c. inl c)

pub sound_start : (times : Times) (end : ℕ → End) → Sound times (nothing end)
sound_start times end = record {
  own = λ k low. absurd (omega (arith, low));
  offers = λ o c. absurd (none o c);
  caller_low = λ b low. absurd (omega (arith, low));
  pairs = λ a b p. absurd (omega (arith, p.a_low));
  one = λ a b c p. absurd (omega (arith, p.a_low));
  outlived = λ x z p. absurd (below x z p);
  booked = λ i j up low. absurd (omega (arith, low));
}
  where
    below : (x z : ℕ) → IsPartner (nothing end) x z → ⊥
    below x z (inl p) = omega (arith, p.a_low)
    below x z (inr p) = omega (arith, p.a_low)

pub sound_leads : (times : Times) (fit : IsFit times) (old new : History) (steps : List Step) → Leads times old steps new → Sound times old → Sound times new
sound_leads times fit old new [] l s = subst (Sound times) (sym l) s
sound_leads times fit old new (step ∷ steps) l s = sound_leads times fit (next times old step) new steps l.1 (sound_step times fit old step l.0 s)

pub all_sound : (times : Times) (h : History) → IsFit times → Reached times h → Sound times h
all_sound times h fit r = sound_leads times fit (nothing r.0) h r.1 r.2 (sound_start times r.0)
