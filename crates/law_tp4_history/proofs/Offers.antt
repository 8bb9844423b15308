-- What an end sends may be offered, kind by kind: a CR, a CC, a DR with its reference or with source 0, the DC to a DR, and what the halves
-- send.
use Rattle.std.proofs.Common.{◌≡◌, ◌≢◌, inl, inr, ℕ, ◌+◌, ◌≤◌, true, false, List, [], ◌∷◌, ◌++◌, Some, Contains, refl, sym, ◌∙◌, ap, subst, arith}
use Rattle.std.proofs.lemmas.List.Elements.{Contains-append_cases, Contains-push_cases}
use Rattle.tpdu.specs.declared.tpdu.Format.{Format}
use Rattle.tpdu.specs.declared.tpdu.Tpdu.TheVariants as wires
use Rattle.tpdu.specs.declared.service.Options.{Options}
use Rattle.tp4_flow.specs.declared.step.Sent.{Sent}
use Rattle.tp4_conn.specs.declared.end_record.EndRecord.{EndRecord}
use Rattle.tp4_conn.specs.Agreeing.{is_extended, flow_rules, request, confirm}
use Rattle.tp4_conn.specs.End.{IsSized, send, release}
use Rattle.tp4_conn.proofs.Agreed.{options_back}
use Rattle.tp4_conn.specs.UserWait.{refusing}
use Rattle.law_tp4_history.specs.Ends.{Times, Dr, Dc, Terms, Tpdu, Offer, Sent as SentBy, End, Cause, Took, Goes, To_known, Back, IsOpen, IsOffered}
use Rattle.law_tp4_history.proofs.Offered.{cr_offered, control_offered, flow_offered}
use Rattle.law_tp4_history.specs.Seen.{terms_of, seen, IsOfferOf, AreOffersOf}
use Rattle.law_tp4_history.proofs.Halves.{IsFlow, AreFlows}

none : {A : Type 0} (x : A) → Contains [] x → ⊥
none x c = let low = c.1 in absurd (omega (arith, low))

-- what holds of each offer of what is sent
abbrev pub Each : (Offer → Type 0) → ℕ → ℕ → List ℕ → List Sent → Type 0
Each P now number own [] = Unit {0}
Each P now number own (sent ∷ tpdus) = ((o : Offer) → IsOfferOf now number own sent o → P o) × Each P now number own tpdus

pub each_offer : (P : Offer → Type 0) (now number : ℕ) (own : List ℕ) (tpdus : List Sent) (offered : List Offer) → AreOffersOf now number own tpdus offered → Each P now number own tpdus
    → (o : Offer) → Contains offered o → P o
each_offer P now number own [] offered e f o c = absurd (none o (subst (λ (xs : List Offer). Contains xs o) e c))
each_offer P now number own (sent ∷ tpdus) [] e f o c = absurd e
each_offer P now number own (sent ∷ tpdus) (x ∷ offered) e f o c = elim (Contains-append_cases (x ∷ []) offered o c) [
  | inl here ↦ elim (Contains-push_cases [] x o here) [ inl nowhere ↦ absurd (none o nowhere) | inr is ↦ subst P is (f.0 x e.0) ]
  | inr there ↦ each_offer P now number own tpdus offered e.1 f.1 o there
]

module _ (times : Times) (now : ℕ) (cause : Cause) (h new : End) where
  -- it may be offered, whatever the number of the end and the number of the TPDU
  abbrev pub IsOfferable : Sent → Type 0
  IsOfferable sent = (number : ℕ) (o : Offer) → IsOfferOf now number h.birth.address sent o → IsOffered times now number cause h new o

  abbrev pub AreOfferable : List Sent → Type 0
  AreOfferable [] = Unit {0}
  AreOfferable (sent ∷ tpdus) = IsOfferable sent × AreOfferable tpdus

  pub offerable_appended : (xs ys : List Sent) → AreOfferable xs → AreOfferable ys → AreOfferable (xs ++ ys)
  offerable_appended [] ys first second = second
  offerable_appended (x ∷ xs) ys first second = (first.0, offerable_appended xs ys first.1 second)

  each_of : (number : ℕ) (tpdus : List Sent) → AreOfferable tpdus → Each (λ (o : Offer). IsOffered times now number cause h new o) now number h.birth.address tpdus
  each_of number [] f = tt
  each_of number (sent ∷ tpdus) f = (f.0 number, each_of number tpdus f.1)

  pub all_offered : (number : ℕ) (tpdus : List Sent) (offered : List Offer) → AreOffersOf now number h.birth.address tpdus offered → AreOfferable tpdus
      → (o : Offer) → Contains offered o → IsOffered times now number cause h new o
  all_offered number tpdus offered e f =
      each_offer (λ (o : Offer). IsOffered times now number cause h new o) now number h.birth.address tpdus offered e (each_of number tpdus f)

  -- the offer of a number
  abbrev offer_of : ℕ → ℕ → Sent → Offer
  offer_of number n sent = record { tick = now; from = h.birth.address; to = sent.to; tpdu = seen n sent.tpdu; is_extended = is_extended sent.format; origin = SentBy number }

  at_offer : (sent : Sent) → ((number n : ℕ) → IsOffered times now number cause h new (offer_of number n sent)) → IsOfferable sent
  at_offer sent f number o i = subst (λ (p : Offer). IsOffered times now number cause h new p) (sym i.is) (f number i.n)

  pub cr_offerable : (b : EndRecord) (octets : List ℕ) → h.birth.is_called ≡ false → h.birth.partner ≡ b.to → h.birth.reference ≡ b.own
      → h.birth.words.calling ≡ b.calling → h.birth.words.called ≡ b.called → h.birth.words.octets ≡ octets → now ≤ h.birth.made + times.most → IsOfferable (request b octets)
  cr_offerable b octets calls to own calling called is soon = at_offer (request b octets) (λ number n. cr_offered times now number cause h new (offer_of number n (request b octets)) refl refl refl refl refl
      (record { calls = calls; to = sym to; source = sym own; words = λ i. record { calling = sym calling i; called = sym called i; octets = sym is i }; soon = soon }))

  -- a TPDU to the reference that the end knows
  named : (c : EndRecord) (o : Offer) → o.tpdu.kind ≢ Dc → new.known ≡ c.partner → c.partner ≢ 0 → o.tpdu.target ≡ c.partner → Goes cause new o
  named c o other known some target = To_known other (λ e. some (sym known ∙ e)) (target ∙ sym known)

  pub cc_offerable : (c : EndRecord) (o : Options) (octets : List ℕ) → h.birth.partner ≡ c.to → h.birth.reference ≡ c.own → new.known ≡ c.partner → c.partner ≢ 0
      → IsSized o → new.agreed ≡ Some (terms_of o) → IsOfferable (confirm c o octets)
  cc_offerable c o octets to own known some sized agreed = at_offer (confirm c o octets) (λ number n. let x = offer_of number n (confirm c o octets) in
      control_offered times now number cause h new x refl refl refl (λ e. cc) (λ e. cc) refl (sym to) (named c x (λ e. cc) known some refl)
      (λ _. (sym own, agreed ∙ ap (λ (t : Terms). Some t) (sym (ap terms_of (options_back o sized))))) (λ e. absurd cc))

  pub dr_offerable : (c : EndRecord) (reason : ℕ) (octets : List ℕ) → h.birth.partner ≡ c.to → h.birth.reference ≡ c.own → new.known ≡ c.partner → c.partner ≢ 0
      → new.is_parted ≡ true → IsOfferable (release c reason octets)
  dr_offerable c reason octets to own known some parted = at_offer (release c reason octets) (λ number n. let x = offer_of number n (release c reason octets) in
      control_offered times now number cause h new x refl refl refl (λ e. cc) (λ e. cc) refl (sym to) (named c x (λ e. cc) known some refl) (λ e. absurd cc) (λ _ _. (sym own, parted)))

  pub refusal_offerable : (c : EndRecord) (octets : List ℕ) → h.birth.partner ≡ c.to → new.known ≡ c.partner → c.partner ≢ 0 → IsOfferable (refusing c octets)
  refusal_offerable c octets to known some = at_offer (refusing c octets) (λ number n. let x = offer_of number n (refusing c octets) in
      control_offered times now number cause h new x refl refl refl (λ e. cc) (λ e. cc) refl (sym to) (named c x (λ e. cc) known some refl) (λ e. absurd cc) (λ _ other. absurd (other refl)))

  pub dc_offerable : (c : EndRecord) (source : ℕ) (dr : Tpdu) → h.birth.partner ≡ c.to → cause ≡ Took dr → dr.kind ≡ Dr → dr.source ≡ source → source ≢ 0
      → IsOfferable (send c (wires.Dc source c.own))
  dc_offerable c source dr to took kind is some = at_offer (send c (wires.Dc source c.own)) (λ number n. control_offered times now number cause h new (offer_of number n (send c (wires.Dc source c.own))) refl refl refl
      (λ e. cc) (λ e. cc) refl (sym to) (Back dr took kind (λ e. some (sym is ∙ e)) (sym is)) (λ e. absurd cc) (λ e. absurd cc))

  -- what the halves send, and when a called end has any
  module _ (c : EndRecord) (o : Options) (to : h.birth.partner ≡ c.to) (known : new.known ≡ c.partner) (some : c.partner ≢ 0) (agreed : new.agreed ≡ Some (terms_of o))
      (is_open : h.birth.is_called ≡ true → IsOpen cause h) where
    pub flow_offerable : (sent : Sent) → IsFlow (flow_rules c o) sent → IsOfferable sent
    flow_offerable sent f = at_offer sent (λ number n. flow_offered times now number cause h new (offer_of number n sent) refl refl refl (f.kind n) (f.to ∙ sym to) (λ e. some (sym known ∙ e)) (f.target n ∙ sym known)
        (terms_of o, agreed, ap (λ (g : Format). is_extended g) f.format) is_open)

    pub flows_offerable : (tpdus : List Sent) → AreFlows (flow_rules c o) tpdus → AreOfferable tpdus
    flows_offerable [] f = tt
    flows_offerable (sent ∷ tpdus) f = (flow_offerable sent f.0, flows_offerable tpdus f.1)
