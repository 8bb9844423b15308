-- Partners that both agreed have agreed on the same, and each flow TPDU is in its format: a called end agrees first, a calling one by the CC,
-- which has the terms of its sender; and neither offers a flow TPDU before it has agreed.
use Rattle.std.proofs.Common.{◌≡◌, ◌≢◌, ◌⊎◌, inl, inr, ℕ, ◌<◌, ◌≤◌, true, false, List, [], ◌∷◌, ◌++◌, Option, Some, None, refl, sym, ◌∙◌, ap, subst, arith, Contains}
use Rattle.std.specs.Prelude.{nat_eq}
use Rattle.std.specs.Cmp.Lexicographic.{pointwise}
use Rattle.std.proofs.lemmas.List.Elements.{Contains-append_cases, Contains-push_cases}
use Rattle.std.proofs.lemmas.Bool.{cases_eq}
use Rattle.tp4_number.proofs.Past.{if_kept}
use Rattle.tp4_number.proofs.Accounts.{none}
use Rattle.law_tp4_history.specs.Ends.{Times, IsFit, Cc, Flow, Terms, Tpdu, Origin, Sent, Answer, Offer, Opened, Birth, End, Cause, Alone, Took, Agrees, Accepts, Confirmed, IsOpen, IsMove}
use Rattle.law_tp4_history.specs.History.{Event, event_of, History, nothing, set_end, IsCaller, IsPartner, IsNew, IsIndicated, IsTaken, answers_to, Step, Tick, Connect, Indicate, Reply, Take, Act, Release, Restart, Note, May, next, Leads}
use Rattle.law_tp4_history.specs.Reached.{Reached, FlowInFormat}
use Rattle.law_tp4_history.proofs.Sound.{at_end, Sound, one_partner}
use Rattle.law_tp4_history.proofs.Later.{IsLater, caller_back, caller_on}
use Rattle.law_tp4_history.proofs.Meets.{swap, Meets, Of_partner, Of_entity, meets}
use Rattle.law_tp4_history.proofs.Begun.{with_new, new_later, here, there, alone}
use Rattle.law_tp4_history.proofs.Steps.{sound_step, step_later, sound_start}

-- a flow TPDU of x
pub record FlowFacts (h : History) (o : Offer) (x : ℕ) : Type 0 where
  pub terms : Terms
  pub own : (h.end x).agreed ≡ Some terms
  pub format : o.is_extended ≡ terms.is_extended
  pub partner : (z : ℕ) → IsPartner h x z → (h.end z).agreed ≡ Some terms

pub record Agreed (h : History) : Type 0 where
  pub both : (a b : ℕ) (terms : Terms) → IsCaller h a b → (h.end a).agreed ≡ Some terms → (h.end b).agreed ≡ Some terms
  pub has : (a : ℕ) (terms : Terms) → a < h.count → (h.end a).birth.is_called ≡ false → (h.end a).agreed ≡ Some terms → (b : ℕ) × IsCaller h a b
  pub opened : (a b : ℕ) → IsCaller h a b → (h.end b).phase ≡ Opened → (terms : Terms) × ((h.end a).agreed ≡ Some terms)
  pub confirms : (o : Offer) (x : ℕ) → Contains h.offers o → o.origin ≡ Sent x → o.tpdu.kind ≡ Cc → (h.end x).agreed ≡ Some o.tpdu.terms
  pub flows : (o : Offer) (x : ℕ) → Contains h.offers o → o.origin ≡ Sent x → o.tpdu.kind ≡ Flow → FlowFacts h o x

-- what was agreed stays
abbrev pub Stay : History → History → Type 0
Stay h new = (k : ℕ) (terms : Terms) → k < h.count → (h.end k).agreed ≡ Some terms → (new.end k).agreed ≡ Some terms

module _ (times : Times) (h new : History) (s : Sound times h) (n : Sound times new) (l : IsLater h new) (a : Agreed h) (stay : Stay h new) where
  -- who calls is old, or the one called is new and its caller has not agreed
  pub agreed_on : ((x b : ℕ) → IsCaller new x b → IsCaller h x b ⊎ ((h.count ≤ b) × ((new.end x).agreed ≡ None) × ((new.end b).phase ≢ Opened)))
      → ((x : ℕ) (terms : Terms) → x < new.count → (new.end x).birth.is_called ≡ false → (new.end x).agreed ≡ Some terms
      → ((x < h.count) × ((h.end x).agreed ≡ Some terms)) ⊎ ((b : ℕ) × IsCaller h x b × ((h.end b).agreed ≡ Some terms)))
      → ((x b : ℕ) → IsCaller h x b → (new.end b).phase ≡ Opened → ((h.end b).phase ≡ Opened) ⊎ ((terms : Terms) × ((h.end x).agreed ≡ Some terms)))
      → ((o : Offer) (x : ℕ) → Contains new.offers o → o.origin ≡ Sent x → Contains h.offers o ⊎ ((o.tpdu.kind ≡ Cc → (new.end x).agreed ≡ Some o.tpdu.terms) × (o.tpdu.kind ≡ Flow
      → (x < h.count) × ((terms : Terms) × ((new.end x).agreed ≡ Some terms) × (o.is_extended ≡ terms.is_extended)) × ((z : ℕ) → IsCaller h z x → (terms : Terms) × ((h.end z).agreed ≡ Some terms)))))
      → Agreed new
  agreed_on calls agrees opens offers = record { both = both; has = has; opened = opened; confirms = confirms; flows = flows }
    where
      both : (x b : ℕ) (terms : Terms) → IsCaller new x b → (new.end x).agreed ≡ Some terms → (new.end b).agreed ≡ Some terms
      both x b terms p is = elim (calls x b p) [
        | inl old ↦ elim (agrees x terms p.a_low (n.pairs x b p).calls is) [
          | inl was ↦ stay b terms old.b_low (a.both x b terms old was.1)
          | inr c ↦ (let same : c.0 ≡ b = s.one x c.0 b c.1 old in stay b terms old.b_low (subst (λ (k : ℕ). (h.end k).agreed ≡ Some terms) same c.2))
        ]
        | inr fresh ↦ absurd (cc (fresh.1, is))
      ]

      has : (x : ℕ) (terms : Terms) → x < new.count → (new.end x).birth.is_called ≡ false → (new.end x).agreed ≡ Some terms → (b : ℕ) × IsCaller new x b
      has x terms low calling is = elim (agrees x terms low calling is) [
        | inl was ↦ (let b = a.has x terms was.0 (sym (ap (λ (y : Birth). y.is_called) (l.end x was.0).birth) ∙ calling) was.1 in (b.0, caller_on times h new l x b.0 b.1))
        | inr c ↦ (c.0, caller_on times h new l x c.0 c.1)
      ]

      opened : (x b : ℕ) → IsCaller new x b → (new.end b).phase ≡ Opened → (terms : Terms) × ((new.end x).agreed ≡ Some terms)
      opened x b p is = elim (calls x b p) [
        | inl old ↦ elim (opens x b old is) [
          | inl was ↦ (let t = a.opened x b old was in (t.0, stay x t.0 old.a_low t.1))
          | inr t ↦ (t.0, stay x t.0 old.a_low t.1)
        ]
        | inr fresh ↦ absurd (fresh.2 is)
      ]

      confirms : (o : Offer) (x : ℕ) → Contains new.offers o → o.origin ≡ Sent x → o.tpdu.kind ≡ Cc → (new.end x).agreed ≡ Some o.tpdu.terms
      confirms o x c by is = elim (offers o x c by) [
        | inl old ↦ stay x o.tpdu.terms ((s.offers o old).sent x by).x_low (a.confirms o x old by is)
        | inr f ↦ f.0 is
      ]

      -- a pair of which the caller agreed
      same_terms : (z x : ℕ) (own terms : Terms) → IsCaller new z x → (new.end x).agreed ≡ Some own → (new.end z).agreed ≡ Some terms → (new.end z).agreed ≡ Some own
      same_terms z x own terms p is it = let same : terms ≡ own = cc (both z x terms p it, is) in it ∙ ap (λ (t : Terms). Some t) same

      flows : (o : Offer) (x : ℕ) → Contains new.offers o → o.origin ≡ Sent x → o.tpdu.kind ≡ Flow → FlowFacts new o x
      flows o x c by is = elim (offers o x c by) [
        | inl old ↦
            (let f = a.flows o x old by is in
            let low = ((s.offers o old).sent x by).x_low in
            let own = stay x f.terms low f.own in
            record {
              terms = f.terms;
              own = own;
              format = f.format;
              partner = λ z p. elim p [
                | inl q ↦ both x z f.terms q own
                | inr q ↦ elim (calls z x q) [
                  | inl before ↦ stay z f.terms before.a_low (f.partner z (inr before))
                  | inr fresh ↦ absurd (omega (arith, fresh.0, low))
                ]
              ];
            })
        | inr f ↦
            (let g = f.1 is in
            record {
              terms = g.1.0;
              own = g.1.1;
              format = g.1.2;
              partner = λ z p. elim p [
                | inl q ↦ both x z g.1.0 q g.1.1
                | inr q ↦ elim (calls z x q) [
                  | inl before ↦ (let t = g.2 z before in same_terms z x g.1.0 t.0 q g.1.1 (stay z t.0 before.a_low t.1))
                  | inr fresh ↦ absurd (omega (arith, fresh.0, g.0))
                ]
              ];
            })
      ]

-- no end is made, and what they agreed and whether they are open stays
module _ (times : Times) (h new : History) (s : Sound times h) (n : Sound times new) (l : IsLater h new) (a : Agreed h) (count : new.count ≡ h.count)
    (same : (k : ℕ) → k < h.count → ((new.end k).agreed ≡ (h.end k).agreed) × ((new.end k).phase ≡ (h.end k).phase)) where
  pub agreed_same : ((o : Offer) (x : ℕ) → Contains new.offers o → o.origin ≡ Sent x → Contains h.offers o) → Agreed new
  agreed_same offers = agreed_on times h new s n l a
      (λ k terms low is. (same k low).0 ∙ is)
      (λ x b p. inl (back x b p))
      (λ x terms low calling is. (let up : x < h.count = omega (arith, low, count) in inl (up, sym (same x up).0 ∙ is)))
      (λ x b p is. inl (sym (same b p.b_low).1 ∙ is))
      (λ o x c by. inl (offers o x c by))
    where
      back : (x b : ℕ) → IsCaller new x b → IsCaller h x b
      back x b p = caller_back times h new l x b (omega (arith, p.a_low, count)) (omega (arith, p.b_low, count)) p

-- an end is made
module _ (times : Times) (h : History) (s : Sound times h) (e : End) (fresh : IsNew times h e) (offers : List Offer) (events : List Event) (n : Sound times (with_new h e offers events)) (a : Agreed h) where
  abbrev made : History
  made = with_new h e offers events

  l : IsLater h (with_new h e offers events)
  l = new_later times h s e fresh offers events

  is_here : (with_new h e offers events).end h.count ≡ e
  is_here = here times h s e fresh offers events

  is_there : (k : ℕ) → k < h.count → (with_new h e offers events).end k ≡ h.end k
  is_there k low = there times h s e fresh offers events k (λ is. omega (arith, low, is))

  agreed_new : ((x : ℕ) → IsCaller (with_new h e offers events) x h.count → (made.end x).agreed ≡ None)
      → ((o : Offer) (x : ℕ) → Contains offers o → o.origin ≡ Sent x → Contains h.offers o ⊎ ((o.tpdu.kind ≡ Cc → ⊥) × (o.tpdu.kind ≡ Flow → ⊥)))
      → Agreed (with_new h e offers events)
  agreed_new caller news = agreed_on times h made s n l a
      (λ k terms low is. ap (λ (x : End). x.agreed) (is_there k low) ∙ is)
      (λ x b p. elim (cases_eq b h.count) [
        | inl same ↦ inr (omega (arith, same), caller x (subst (λ (k : ℕ). IsCaller (with_new h e offers events) x k) same p), waits b same)
        | inr other ↦ inl (old x b p other)
      ])
      (λ x terms low calling is. elim (cases_eq x h.count) [
        | inl same ↦ absurd (cc (sym is, ap (λ (k : ℕ). (made.end k).agreed) same ∙ ap (λ (y : End). y.agreed) is_here ∙ fresh.agreed))
        | inr other ↦ (let up : x < h.count = omega (arith, low, other) in inl (up, sym (ap (λ (y : End). y.agreed) (is_there x up)) ∙ is))
      ])
      (λ x b p is. inl (sym (ap (λ (y : End). y.phase) (is_there b p.b_low)) ∙ is))
      (λ o x c by. elim (news o x c by) [ inl before ↦ inl before | inr f ↦ inr (λ is. absurd (f.0 is), λ is. absurd (f.1 is)) ])
    where
      waits : (b : ℕ) → b ≡ h.count → (made.end b).phase ≢ Opened
      waits b same is = let e_is : e.phase ≡ Opened = sym (ap (λ (k : ℕ). (made.end k).phase) same ∙ ap (λ (y : End). y.phase) is_here) ∙ is in elim fresh.waits [ inl w ↦ cc (w, e_is) | inr w ↦ cc (w, e_is) ]

      old : (x b : ℕ) → IsCaller (with_new h e offers events) x b → (b ≡ h.count → ⊥) → IsCaller h x b
      old x b p other =
          let low : b < h.count = omega (arith, p.b_low, other) in
          let born = ap (λ (y : End). y.birth) (is_there b low) in
          let caller_low : (h.end b).birth.caller < h.count = s.caller_low b low (sym (ap (λ (y : Birth). y.is_called) born) ∙ p.called) in
          caller_back times h made l x b (omega (arith, caller_low, p.is, ap (λ (y : Birth). y.caller) born)) low p

-- a move
module _ (times : Times) (h new : History) (s : Sound times h) (n : Sound times new) (l : IsLater h new) (a : Agreed h) (y : ℕ) (low : y < h.count) (cause : Cause) (e : End) (offered : List Offer)
    (m : IsMove times h.clock y cause (h.end y) e offered) (ends : new.end ≡ set_end h.end y e) (count : new.count ≡ h.count) (offers : new.offers ≡ h.offers ++ offered) where
  at_y : (P : ℕ → End → Type 0) (k : ℕ) → P y e → ((k ≡ y → ⊥) → P k (h.end k)) → P k (new.end k)
  at_y P k mine others = subst (λ (f : ℕ → End). P k (f k)) (sym ends) (at_end P h.end y e k mine others)

  here_y : new.end y ≡ e
  here_y = at_y (λ (j : ℕ) (to : End). j ≡ y → to ≡ e) y (λ _. refl) (λ different. absurd (different refl)) refl

  pub stay : Stay h new
  stay k terms klow = at_y (λ (j : ℕ) (to : End). (h.end j).agreed ≡ Some terms → to.agreed ≡ Some terms) k
      (λ is. elim m.agreed [ inl same ↦ same ∙ is | inr none_ ↦ absurd (cc (none_.0, is)) ])
      (λ _ is. is)

  back : (x b : ℕ) → IsCaller new x b → IsCaller h x b
  back x b p = caller_back times h new l x b (omega (arith, p.a_low, count)) (omega (arith, p.b_low, count)) p

  -- what a TPDU that was taken tells
  agreed_move : ((confirm : Tpdu) → cause ≡ Took confirm → confirm.kind ≡ Cc → (h.end y).birth.is_called ≡ false → (b : ℕ) × IsCaller h y b × ((h.end b).agreed ≡ Some confirm.terms))
      → ((tpdu : Tpdu) → cause ≡ Took tpdu → tpdu.kind ≡ Flow → (x : ℕ) → IsCaller h x y → (terms : Terms) × ((h.end x).agreed ≡ Some terms))
      → Agreed new
  agreed_move confirmed flow = agreed_on times h new s n l a stay
      (λ x b p. inl (back x b p))
      (λ x terms xlow calling is. (let up : x < h.count = omega (arith, xlow, count) in
      at_y (λ (j : ℕ) (to : End). j < h.count → (h.end j).birth.is_called ≡ false → to.agreed ≡ Some terms → ((j < h.count) × ((h.end j).agreed ≡ Some terms)) ⊎ ((b : ℕ) × IsCaller h j b × ((h.end b).agreed ≡ Some terms))) x
      (λ jlow calls it. elim m.agreed [ inl same ↦ inl (jlow, sym same ∙ it) | inr g ↦ inr (agrees terms calls it g.1) ])
      (λ _ jlow calls it. inl (jlow, it))
      up (sym (ap (λ (z : Birth). z.is_called) (l.end x up).birth) ∙ calling) is))
      (λ x b p is. at_y (λ (j : ℕ) (to : End). IsCaller h x j → to.phase ≡ Opened → ((h.end j).phase ≡ Opened) ⊎ ((terms : Terms) × ((h.end x).agreed ≡ Some terms))) b
      (λ q it. elim (m.opens q.called it) [ inl was ↦ inl was | inr t ↦ inr (flow t.0 t.1 t.2 x q) ])
      (λ _ q it. inl it)
      p is)
      (λ o x c by. elim (Contains-append_cases h.offers offered o (subst (λ (os : List Offer). Contains os o) offers c)) [
        | inl old ↦ inl old
        | inr mine ↦ inr (subst (λ (k : ℕ). (o.tpdu.kind ≡ Cc → (new.end k).agreed ≡ Some o.tpdu.terms) × (o.tpdu.kind ≡ Flow
            → (k < h.count) × ((terms : Terms) × ((new.end k).agreed ≡ Some terms) × (o.is_extended ≡ terms.is_extended)) × ((z : ℕ) → IsCaller h z k → (terms : Terms) × ((h.end z).agreed ≡ Some terms))))
            (by_y o x mine by) (news o mine))
      ])
    where
      agrees : (terms : Terms) → (h.end y).birth.is_called ≡ false → e.agreed ≡ Some terms → Agrees cause (h.end y) e → (b : ℕ) × IsCaller h y b × ((h.end b).agreed ≡ Some terms)
      agrees terms calls it (Accepts called) = absurd (cc (called, calls))
      agrees terms calls it (Confirmed confirm is kind to) =
          let b = confirmed confirm is kind calls in
          let same : confirm.terms ≡ terms = cc (to, it) in
          (b.0, b.1, b.2 ∙ ap (λ (t : Terms). Some t) same)

      by_y : (o : Offer) (x : ℕ) → Contains offered o → o.origin ≡ Sent x → y ≡ x
      by_y o x mine by = cc ((m.offers o mine).origin, by)

      agreed_here : e.agreed ≡ (new.end y).agreed
      agreed_here = sym (ap (λ (z : End). z.agreed) here_y)

      open_by : IsOpen cause (h.end y) → (z : ℕ) → IsCaller h z y → (terms : Terms) × ((h.end z).agreed ≡ Some terms)
      open_by (inl was) z p = a.opened z y p was
      open_by (inr t) z p = flow t.0 t.1 t.2 z p

      news : (o : Offer) → Contains offered o → (o.tpdu.kind ≡ Cc → (new.end y).agreed ≡ Some o.tpdu.terms) × (o.tpdu.kind ≡ Flow
          → (y < h.count) × ((terms : Terms) × ((new.end y).agreed ≡ Some terms) × (o.is_extended ≡ terms.is_extended)) × ((z : ℕ) → IsCaller h z y → (terms : Terms) × ((h.end z).agreed ≡ Some terms)))
      news o mine =
          let f = m.offers o mine in (
            λ is. sym agreed_here ∙ f.terms is,
            λ is. (let t = f.flow is in (low, (t.0, sym agreed_here ∙ t.1, t.2), λ z p. open_by (f.opened is p.called) z p)),
          )

pub no_sender : (o : Offer) (g : Origin) (x : ℕ) → answers_to o g ≡ Sent x → ⊥
no_sender o (Sent by) x e = cc e
no_sender o (Answer to since) x e = cc e

not_agreed : (agreed : Option Terms) → ((terms : Terms) → agreed ≡ Some terms → ⊥) → agreed ≡ None
not_agreed None f = refl
not_agreed (Some terms) f = absurd (f terms refl)

module _ (times : Times) (fit : IsFit times) (h : History) (s : Sound times h) (a : Agreed h) where
  indicated_caller : (o : Offer) (e : End) (i : IsIndicated times h o e) (x : ℕ) → IsCaller (next times h (Indicate o e)) x h.count → ((next times h (Indicate o e)).end x).agreed ≡ None
  indicated_caller o e i x p =
      let events = h.events ++ event_of e ∷ [] in
      let is : e.birth.caller ≡ x = sym (ap (λ (y : End). y.birth.caller) (here times h s e i.new h.offers events)) ∙ p.is in
      let sent = (s.offers o i.offered).sent e.birth.caller i.caller in
      let low : x < h.count = omega (arith, is, sent.x_low) in
      let calling : (h.end x).birth.is_called ≡ false = subst (λ (k : ℕ). (h.end k).birth.is_called ≡ false) is (sent.request i.request).calls in
      let was = there times h s e i.new h.offers events x (λ same. omega (arith, low, same)) in
      ap (λ (y : End). y.agreed) was ∙ not_agreed (h.end x).agreed
      (λ terms agreed. (let b = a.has x terms low calling agreed in alone times fit h s o e i events b.0 (subst (λ (k : ℕ). IsCaller h k b.0) (sym is) b.1)))

  module _ (y : ℕ) (o : Offer) (tpdu : Tpdu) (e : End) (offered : List Offer) (taken : IsTaken times h y o tpdu) (m : IsMove times h.clock y (Took tpdu) (h.end y) e offered) where
    from : Meets times h s o y
    from = meets times h s y o taken.y_low taken.is_held taken.offered taken.fresh taken.no_request taken.address (sym taken.reading.target ∙ taken.target)

    took_same : (other : Tpdu) → Took tpdu ≡ Took other → tpdu ≡ other
    took_same other e_ = cc e_

    confirmed : Meets times h s o y → (confirm : Tpdu) → Took tpdu ≡ Took confirm → confirm.kind ≡ Cc → (h.end y).birth.is_called ≡ false → (b : ℕ) × IsCaller h y b × ((h.end b).agreed ≡ Some confirm.terms)
    confirmed (Of_partner x is f g to) confirm took kind calling =
        let same : tpdu ≡ confirm = took_same confirm took in
        let was : o.tpdu.kind ≡ Cc = sym taken.reading.kind ∙ ap (λ (u : Tpdu). u.kind) same ∙ kind in
        let all : tpdu ≡ o.tpdu = taken.reading.control (λ flow. absurd (cc (flow, was))) in
        let terms : o.tpdu.terms ≡ confirm.terms = ap (λ (u : Tpdu). u.terms) (sym all ∙ same) in
        let agreed : (h.end x).agreed ≡ Some confirm.terms = a.confirms o x taken.offered is was ∙ ap (λ (t : Terms). Some t) terms in
        elim (subst (λ (k : ℕ). IsPartner h x k) to g.partner) [
          | inl p ↦ absurd (cc (p.called, calling))
          | inr p ↦ (x, p, agreed)
        ]
    confirmed (Of_entity since is f) confirm took kind calling =
        let was : o.tpdu.kind ≡ Cc = sym taken.reading.kind ∙ ap (λ (u : Tpdu). u.kind) (took_same confirm took) ∙ kind in
        absurd (elim f.kind [ inl dr ↦ cc (dr.0, was) | inr dc ↦ cc (dc, was) ])

    flowed : Meets times h s o y → (flow : Tpdu) → Took tpdu ≡ Took flow → flow.kind ≡ Flow → (x : ℕ) → IsCaller h x y → (terms : Terms) × ((h.end x).agreed ≡ Some terms)
    flowed (Of_partner x is f g to) flow took kind z p =
        let was : o.tpdu.kind ≡ Flow = sym taken.reading.kind ∙ ap (λ (u : Tpdu). u.kind) (took_same flow took) ∙ kind in
        let facts = a.flows o x taken.offered is was in
        let same : x ≡ z = one_partner times h s y x z (swap h x y (subst (λ (k : ℕ). IsPartner h x k) to g.partner)) (inr p) in
        (facts.terms, subst (λ (k : ℕ). (h.end k).agreed ≡ Some facts.terms) same facts.own)
    flowed (Of_entity since is f) flow took kind z p =
        let was : o.tpdu.kind ≡ Flow = sym taken.reading.kind ∙ ap (λ (u : Tpdu). u.kind) (took_same flow took) ∙ kind in
        absurd (elim f.kind [ inl dr ↦ cc (dr.0, was) | inr dc ↦ cc (dc, was) ])

  pub agreed_step : (step : Step) → May times h step → Agreed (next times h step)
  agreed_step Tick may = agreed_same times h (next times h Tick) s (sound_step times fit h Tick may s) (step_later times fit h Tick may s) a refl (λ k low. (refl, refl)) (λ o x c by. c)
  agreed_step (Connect e offered) may = agreed_new times h s e may.0.new (h.offers ++ offered) (h.events ++ event_of e ∷ []) (sound_step times fit h (Connect e offered) may s) a
      (λ x p. absurd (cc (p.called, ap (λ (z : End). z.birth.is_called) (here times h s e may.0.new (h.offers ++ offered) (h.events ++ event_of e ∷ [])), may.0.calls)))
      (λ o x c by. elim (Contains-append_cases h.offers offered o c) [ inl old ↦ inl old | inr mine ↦ inr (λ is. cc (is, (may.1 o mine).0), λ is. cc (is, (may.1 o mine).0)) ])
  agreed_step (Indicate o e) may = agreed_new times h s e may.new h.offers (h.events ++ event_of e ∷ []) (sound_step times fit h (Indicate o e) may s) a (indicated_caller o e may) (λ other x c by. inl c)
  agreed_step (Reply o answer) may = agreed_same times h (next times h (Reply o answer)) s (sound_step times fit h (Reply o answer) may s) (step_later times fit h (Reply o answer) may s) a refl (λ k low. (refl, refl))
      (λ other x c by. elim (Contains-push_cases h.offers answer other c) [ inl old ↦ old | inr same ↦ absurd (no_sender o o.origin x (sym may.origin ∙ ap (λ (p : Offer). p.origin) same ∙ by)) ])
  agreed_step (Take y o tpdu e offered) may =
      agreed_move times h (next times h (Take y o tpdu e offered)) s (sound_step times fit h (Take y o tpdu e offered) may s) (step_later times fit h (Take y o tpdu e offered) may s) a y may.0.y_low (Took tpdu) e offered may.1 refl refl refl
      (confirmed y o tpdu e offered may.0 may.1 (from y o tpdu e offered may.0 may.1))
      (flowed y o tpdu e offered may.0 may.1 (from y o tpdu e offered may.0 may.1))
  agreed_step (Act y e offered) may =
      agreed_move times h (next times h (Act y e offered)) s (sound_step times fit h (Act y e offered) may s) (step_later times fit h (Act y e offered) may s) a y may.0 Alone e offered may.2 refl refl refl
      (λ confirm is. absurd (cc is)) (λ flow is. absurd (cc is))
  agreed_step (Release y) may = agreed_same times h (next times h (Release y)) s (sound_step times fit h (Release y) may s) (step_later times fit h (Release y) may s) a refl
      (λ k low. at_end (λ (j : ℕ) (to : End). (to.agreed ≡ (h.end j).agreed) × (to.phase ≡ (h.end j).phase)) h.end y (record (h.end y) { is_out = true }) k (refl, refl) (λ _. (refl, refl)))
      (λ o x c by. c)
  agreed_step (Restart address) may = agreed_same times h (next times h (Restart address)) s (sound_step times fit h (Restart address) may s) (step_later times fit h (Restart address) may s) a refl
      (λ k low. if_kept (λ (to : End). (to.agreed ≡ (h.end k).agreed) × (to.phase ≡ (h.end k).phase)) (pointwise nat_eq (h.end k).birth.address address) _ _ (λ _. (refl, refl)) (λ _. (refl, refl)))
      (λ o x c by. c)
  agreed_step Note may = agreed_same times h (next times h Note) s (sound_step times fit h Note may s) (step_later times fit h Note may s) a refl (λ k low. (refl, refl)) (λ o x c by. c)

-- what was agreed stays
pub step_stay : (times : Times) (fit : IsFit times) (h : History) (s : Sound times h) (a : Agreed h) (step : Step) → May times h step → Stay h (next times h step)
step_stay times fit h s a (Connect e offered) may k terms low is = ap (λ (x : End). x.agreed) (there times h s e may.0.new (h.offers ++ offered) (h.events ++ event_of e ∷ []) k (λ same. omega (arith, low, same))) ∙ is
step_stay times fit h s a (Indicate o e) may k terms low is = ap (λ (x : End). x.agreed) (there times h s e may.new h.offers (h.events ++ event_of e ∷ []) k (λ same. omega (arith, low, same))) ∙ is
step_stay times fit h s a (Take y o tpdu e offered) may k terms low is =
    stay times h (next times h (Take y o tpdu e offered)) s (sound_step times fit h (Take y o tpdu e offered) may s) (step_later times fit h (Take y o tpdu e offered) may s) a y may.0.y_low (Took tpdu) e offered may.1 refl refl refl k terms low is
step_stay times fit h s a (Act y e offered) may k terms low is =
    stay times h (next times h (Act y e offered)) s (sound_step times fit h (Act y e offered) may s) (step_later times fit h (Act y e offered) may s) a y may.0 Alone e offered may.2 refl refl refl k terms low is
step_stay times fit h s a (Release y) may k terms low is = at_end (λ (j : ℕ) (to : End). to.agreed ≡ (h.end j).agreed) h.end y (record (h.end y) { is_out = true }) k refl (λ _. refl) ∙ is
step_stay times fit h s a (Restart address) may k terms low is = if_kept (λ (to : End). to.agreed ≡ (h.end k).agreed) (pointwise nat_eq (h.end k).birth.address address) _ _ (λ _. refl) (λ _. refl) ∙ is
step_stay times fit h s a other may k terms low is = is

pub agreed_start : (end : ℕ → End) → Agreed (nothing end)
agreed_start end = record {
  both = λ x b terms p. absurd (omega (arith, p.a_low));
  has = λ x terms low. absurd (omega (arith, low));
  opened = λ x b p. absurd (omega (arith, p.a_low));
  confirms = λ o x c. absurd (none o c);
  flows = λ o x c. absurd (none o c);
}

pub agreed_leads : (times : Times) (fit : IsFit times) (old new : History) (steps : List Step) → Leads times old steps new → Sound times old → Agreed old → Agreed new
agreed_leads times fit old new [] l s a = subst Agreed (sym l) a
agreed_leads times fit old new (step ∷ steps) l s a = agreed_leads times fit (next times old step) new steps l.1 (sound_step times fit old step l.0 s) (agreed_step times fit old s a step l.0)

pub all_agreed : (times : Times) (h : History) → IsFit times → Reached times h → Agreed h
all_agreed times h fit r = agreed_leads times fit (nothing r.0) h r.1 r.2 (sound_start times r.0) (agreed_start r.0)

pub in_format : (times : Times) (h : History) → Sound times h → Agreed h → FlowInFormat times h
in_format times h s a y o low held c fresh kind to target = by (meets times h s y o low held c fresh (λ cr. cc (cr, kind)) to target)
  where
    by : Meets times h s o y → (terms : Terms) × ((h.end y).agreed ≡ Some terms) × (o.is_extended ≡ terms.is_extended)
    by (Of_partner x is f g same) = let t = a.flows o x c is kind in (t.terms, t.partner y (subst (λ (k : ℕ). IsPartner h x k) same g.partner), t.format)
    by (Of_entity since is f) = absurd (elim f.kind [ inl dr ↦ cc (dr.0, kind) | inr dc ↦ cc (dc, kind) ])
