-- A calling end that knows the reference of its partner took a CC of it, so its partner has agreed: it does not wait for its user any more.
use Rattle.std.proofs.Common.{◌≡◌, ◌≢◌, ◌⊎◌, inl, inr, ℕ, ◌<◌, true, false, List, [], ◌∷◌, ◌++◌, Some, refl, sym, ◌∙◌, ap, subst, arith}
use Rattle.std.specs.Prelude.{nat_eq}
use Rattle.std.specs.Cmp.Lexicographic.{pointwise}
use Rattle.std.proofs.lemmas.Bool.{cases_eq}
use Rattle.tp4_number.proofs.Past.{if_kept}
use Rattle.law_tp4_history.specs.Ends.{Alone, Birth, Cause, Cc, End, IsFit, IsMove, Offer, Terms, Times, Took, Tpdu}
use Rattle.law_tp4_history.specs.History.{Act, Connect, Event, History, Indicate, IsCaller, IsIndicated, IsNew, IsPartner, IsTaken, Leads, May, Note, Release, Reply, Restart, Step, Take, Tick, event_of, next, nothing, set_end}
use Rattle.law_tp4_history.specs.Reached.{Reached}
use Rattle.law_tp4_history.proofs.Agreed.{Agreed, agreed_start, agreed_step, step_stay}
use Rattle.law_tp4_history.proofs.Begun.{alone, here, new_later, there, with_new}
use Rattle.law_tp4_history.proofs.Later.{IsLater, caller_back}
use Rattle.law_tp4_history.proofs.Meets.{Meets, Of_entity, Of_partner, meets}
use Rattle.law_tp4_history.proofs.Sound.{Sound, at_end}
use Rattle.law_tp4_history.proofs.Steps.{sound_start, sound_step, step_later}

-- the partner of each calling end that knows it has agreed
abbrev pub AreAnswered : History → Type 0
AreAnswered h = (a b : ℕ) → IsCaller h a b → (h.end a).known ≢ 0 → (terms : Terms) × ((h.end b).agreed ≡ Some terms)

module _ (times : Times) (fit : IsFit times) (h : History) (s : Sound times h) (a : Agreed h) (was : AreAnswered h) where
  -- it knew that before; or the called end has agreed
  abbrev Before : ℕ → ℕ → Type 0
  Before x b = (IsCaller h x b × ((h.end x).known ≢ 0)) ⊎ (IsCaller h x b × ((terms : Terms) × ((h.end b).agreed ≡ Some terms)))

  answered_on : (step : Step) → May times h step → ((x b : ℕ) → IsCaller (next times h step) x b → ((next times h step).end x).known ≢ 0 → Before x b) → AreAnswered (next times h step)
  answered_on step may before x b p some = elim (before x b p some) [
    | inl old ↦ let t = was x b old.0 old.1 in (t.0, step_stay times fit h s a step may b t.0 old.0.b_low t.1)
    | inr now ↦ (now.1.0, step_stay times fit h s a step may b now.1.0 now.0.b_low now.1.1)
  ]

  -- no end is made, and each knows what it knew
  same_known : (step : Step) → May times h step → (next times h step).count ≡ h.count → ((k : ℕ) → ((next times h step).end k).known ≡ (h.end k).known) → AreAnswered (next times h step)
  same_known step may count known = answered_on step may (λ x b p some.
      inl (caller_back times h (next times h step) (step_later times fit h step may s) x b (omega (arith, p.a_low, count)) (omega (arith, p.b_low, count)) p, λ none. some (known x ∙ none)))

  -- an end is made
  module _ (e : End) (fresh : IsNew times h e) (offers : List Offer) (events : List Event) where
    later : IsLater h (with_new h e offers events)
    later = new_later times h s e fresh offers events

    old_caller : (x b : ℕ) → IsCaller (with_new h e offers events) x b → (b ≡ h.count → ⊥) → IsCaller h x b
    old_caller x b p other =
        let low : b < h.count = omega (arith, p.b_low, other) in
        let born = ap (λ (y : End). y.birth) (there times h s e fresh offers events b other) in
        let caller_low : (h.end b).birth.caller < h.count = s.caller_low b low (sym (ap (λ (y : Birth). y.is_called) born) ∙ p.called) in
        caller_back times h (with_new h e offers events) later x b (omega (arith, caller_low, p.is, ap (λ (y : Birth). y.caller) born)) low p

    old_known : (x : ℕ) → x < h.count → ((with_new h e offers events).end x).known ≢ 0 → (h.end x).known ≢ 0
    old_known x low some none = some (ap (λ (y : End). y.known) (there times h s e fresh offers events x (λ same. omega (arith, low, same))) ∙ none)

    -- none that knows its partner calls the new one
    made_before : ((x : ℕ) → IsCaller (with_new h e offers events) x h.count → ((with_new h e offers events).end x).known ≢ 0 → ⊥) → (x b : ℕ) → IsCaller (with_new h e offers events) x b
        → ((with_new h e offers events).end x).known ≢ 0 → Before x b
    made_before none x b p some = elim (cases_eq b h.count) [
      | inl same ↦ absurd (none x (subst (λ (k : ℕ). IsCaller (with_new h e offers events) x k) same p) some)
      | inr other ↦ let q = old_caller x b p other in inl (q, old_known x q.a_low some)
    ]

  -- an end moves, where a CC that it took was of an end that agreed
  module _ (y : ℕ) (cause : Cause) (e : End) (offered : List Offer) (m : IsMove times h.clock y cause (h.end y) e offered)
      (confirmed : (tpdu : Tpdu) → cause ≡ Took tpdu → tpdu.kind ≡ Cc → (b : ℕ) → IsCaller h y b → (terms : Terms) × ((h.end b).agreed ≡ Some terms)) where
    moved_before : (x b : ℕ) → IsCaller h x b → (set_end h.end y e x).known ≢ 0 → Before x b
    moved_before x b p some =
        at_end (λ (j : ℕ) (to : End). to.known ≢ 0 → IsCaller h j b → Before j b) h.end y e x
        (λ known q. elim m.known [
          | inl same ↦ inl (q, λ none. known (same ∙ none))
          | inr c ↦ inr (q, confirmed c.1.0 c.1.1 c.1.2 b q)
        ]) (λ _ known q. inl (q, known)) some p

  module _ (y : ℕ) (o : Offer) (tpdu : Tpdu) (taken : IsTaken times h y o tpdu) where
    confirmed_by : Meets times h s o y → (confirm : Tpdu) → Took tpdu ≡ Took confirm → confirm.kind ≡ Cc → (b : ℕ) → IsCaller h y b → (terms : Terms) × ((h.end b).agreed ≡ Some terms)
    confirmed_by (Of_partner x is f g to) confirm took kind b q =
        let same : tpdu ≡ confirm = cc took in
        let cc_is : o.tpdu.kind ≡ Cc = sym taken.reading.kind ∙ ap (λ (u : Tpdu). u.kind) same ∙ kind in
        elim (subst (λ (k : ℕ). IsPartner h x k) to g.partner) [
          | inl p ↦ absurd (cc (p.called, (s.pairs y b q).calls))
          | inr p ↦ (o.tpdu.terms, subst (λ (k : ℕ). (h.end k).agreed ≡ Some o.tpdu.terms) (s.one y x b p q) (a.confirms o x taken.offered is cc_is))
        ]
    confirmed_by (Of_entity since is f) confirm took kind b q =
        let same : tpdu ≡ confirm = cc took in
        let cc_is : o.tpdu.kind ≡ Cc = sym taken.reading.kind ∙ ap (λ (u : Tpdu). u.kind) same ∙ kind in
        absurd (elim f.kind [ inl dr ↦ cc (dr.0, cc_is) | inr dc ↦ cc (dc, cc_is) ])

  -- a calling end that is called anew knows no partner
  indicated_none : (o : Offer) (e : End) (i : IsIndicated times h o e) (x : ℕ) → IsCaller (next times h (Indicate o e)) x h.count → ((next times h (Indicate o e)).end x).known ≢ 0 → ⊥
  indicated_none o e i x p some =
      let events = h.events ++ event_of e ∷ [] in
      let is : e.birth.caller ≡ x = sym (ap (λ (y : End). y.birth.caller) (here times h s e i.new h.offers events)) ∙ p.is in
      let sent = (s.offers o i.offered).sent e.birth.caller i.caller in
      let low : x < h.count = omega (arith, is, sent.x_low) in
      let calls = subst (λ (k : ℕ). (h.end k).birth.is_called ≡ false) is (sent.request i.request).calls in
      let partner = (s.own x low).known (old_known e i.new h.offers events x low some) in
      elim partner.1 [
        | inl q ↦ alone times fit h s o e i events partner.0 (subst (λ (k : ℕ). IsCaller h k partner.0) (sym is) q)
        | inr q ↦ cc (q.called, calls)
      ]

  answered_step : (step : Step) → May times h step → AreAnswered (next times h step)
  answered_step Tick may = same_known Tick may refl (λ k. refl)
  answered_step (Connect e offered) may =
      answered_on (Connect e offered) may (made_before e may.0.new (h.offers ++ offered) (h.events ++ event_of e ∷ [])
      (λ x p some. cc (p.called, ap (λ (z : End). z.birth.is_called) (here times h s e may.0.new (h.offers ++ offered) (h.events ++ event_of e ∷ [])), may.0.calls)))
  answered_step (Indicate o e) may = answered_on (Indicate o e) may (made_before e may.new h.offers (h.events ++ event_of e ∷ []) (indicated_none o e may))
  answered_step (Reply o answer) may = same_known (Reply o answer) may refl (λ k. refl)
  answered_step (Take y o tpdu e offered) may =
      let from = meets times h s y o may.0.y_low may.0.is_held may.0.offered may.0.fresh may.0.no_request may.0.address (sym may.0.reading.target ∙ may.0.target) in
      answered_on (Take y o tpdu e offered) may (λ x b p some.
      moved_before y (Took tpdu) e offered may.1 (confirmed_by y o tpdu may.0 from) x b
      (caller_back times h (next times h (Take y o tpdu e offered)) (step_later times fit h (Take y o tpdu e offered) may s) x b p.a_low p.b_low p) some)
  answered_step (Act y e offered) may =
      answered_on (Act y e offered) may (λ x b p some.
      moved_before y Alone e offered may.2 (λ tpdu is. absurd (cc is)) x b (caller_back times h (next times h (Act y e offered)) (step_later times fit h (Act y e offered) may s) x b p.a_low p.b_low p) some)
  answered_step (Release y) may =
      same_known (Release y) may refl (λ k. at_end (λ (j : ℕ) (to : End). to.known ≡ (h.end j).known) h.end y (record (h.end y) { is_out = true }) k refl (λ _. refl))
  answered_step (Restart address) may = same_known (Restart address) may refl (λ k. if_kept (λ (to : End). to.known ≡ (h.end k).known) (pointwise nat_eq (h.end k).birth.address address) _ _ (λ _. refl) (λ _. refl))
  answered_step Note may = same_known Note may refl (λ k. refl)

answered_leads : (times : Times) (fit : IsFit times) (old new : History) (steps : List Step) → Leads times old steps new → Sound times old → Agreed old → AreAnswered old → AreAnswered new
answered_leads times fit old new [] l s a was = subst AreAnswered (sym l) was
answered_leads times fit old new (step ∷ steps) l s a was =
    answered_leads times fit (next times old step) new steps l.1 (sound_step times fit old step l.0 s) (agreed_step times fit old s a step l.0) (answered_step times fit old s a was step l.0)

pub all_answered : (times : Times) (h : History) → IsFit times → Reached times h → AreAnswered h
all_answered times h fit r = answered_leads times fit (nothing r.0) h r.1 r.2 (sound_start times r.0) (agreed_start r.0) (λ x b p. absurd (omega (arith, p.a_low)))
