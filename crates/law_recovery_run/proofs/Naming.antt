-- What an end sends by any row, as a move of the end of a history: to the partner that it knows, or to the end that a TPDU names that it took; and in no other name than its own.
use Rattle.std.proofs.Common.{◌≡◌, ◌≢◌, ◌⊎◌, inl, inr, ℕ, ◌<◌, List, [], ◌∷◌, None, refl, sym, ◌∙◌, ap, arith, Contains}
use Rattle.std.specs.Prelude.{◌&&◌, not}
use Rattle.std.specs.List.{AllByRecursion}
use Rattle.std.proofs.lemmas.List.Elements.{Contains-append_left, Contains-append_right, Contains-push}
use Rattle.tpdu.specs.declared.tpdu.Tpdu.{Tpdu as WireTpdu}
use Rattle.tpdu.specs.declared.tpdu.Tpdu.TheVariants as wires
use Rattle.tp4_number.specs.Number.{whole}
use Rattle.tp4_flow.specs.declared.step.Sent.{Sent}
use Rattle.tp4_conn.specs.End.{End, Moved}
use Rattle.tp4_conn.specs.Living.{IsFit}
use Rattle.tp4_conn.specs.Matching.{wants_sum}
use Rattle.tp4_conn.specs.Proper.{IsProper, IsProperEvent}
use Rattle.tp4_conn.specs.Table.{Event, Took, stepped}
use Rattle.tp4_conn.proofs.Propers.{step_row}
use Rattle.law_tp4_history.specs.Ends.{Back, Cause, Cc, Cr, Dr, End as HistoryEnd, Goes, IsMove, IsOffered, Offer, Times, To_known, Took as TookIn, Tpdu}
use Rattle.law_tp4_history.specs.Moves.{HasSource, IsSourced, Moves, Sees, cause_of}
use Rattle.law_tp4_history.specs.Seen.{AreOffersOf, IsOfferOf, seen}
use Rattle.law_tp4_lawful.proofs.ReferencesMet.{no_request, target_of}
use Rattle.law_recovery_run.specs.Aside.{IsSentTo, Names}
use Rattle.law_recovery_run.proofs.Aiming.{Going, cause_took, named_cc, named_dr, offers_of}

-- the TPDU that is taken names an end of that reference
abbrev pub NamedBy : Event → ℕ → Type 0
NamedBy (Took t sum) r = Names r t
NamedBy event r = ⊥

named_by : (e : End) (event : Event) (tpdu : Tpdu) (r : ℕ) → cause_of e 0 event ≡ TookIn tpdu → ((t : WireTpdu) → seen 0 t ≡ tpdu → Names r t) → NamedBy event r
named_by e (Took t sum) tpdu r is f = f t (cause_took (wants_sum e.base e.stage t && not sum) (seen 0 t) tpdu is)
named_by e other tpdu r is f = absurd (cc is)

-- a CR, a CC or a DR of an end of that reference
abbrev IsNaming : ℕ → Tpdu → Type 0
IsNaming r tpdu = ((tpdu.kind ≡ Cr) ⊎ ((tpdu.kind ≡ Cc) ⊎ (tpdu.kind ≡ Dr))) × (tpdu.source ≡ r)

naming : (t : WireTpdu) (n r : ℕ) → Names r t → IsNaming r (seen n t)
naming (wires.Cr credit source width calling called size preferred extra version classes ack_time text) n r is = (inl refl, is)
naming (wires.Cc credit destination source width calling called size preferred extra version classes ack_time text) n r is = (inr (inl refl), is)
naming (wires.Dr destination source reason info text) n r is = (inr (inr refl), is)
naming other n r is = absurd is

-- the source and the kind of what is seen do not depend on its number
source_same : (t : WireTpdu) (n : ℕ) → HasSource (seen n t) → HasSource (seen 0 t)
source_same (wires.Cc credit destination source width calling called size preferred extra version classes ack_time text) n has = λ kind. has refl
source_same other n has = λ kind. absurd (cc kind)

first_there : {A : Type 0} (x : A) (xs : List A) → Contains (x ∷ xs) x
first_there x xs = Contains-append_left (x ∷ []) xs x (Contains-push [] x)

module _ (going : Going) (now : ℕ) (times : Times) (h : HistoryEnd) (e : End) (event : Event) (sees : Sees times now h e) (goes_on : h.stop ≡ None) (fit : IsFit e event)
    (sourced : IsSourced 0 event) (proper : IsProper e.base e.stage) (may : IsProperEvent e event) where
  abbrev m : Moved
  m = stepped whole now e event

  abbrev cause : Cause
  cause = cause_of e 0 event

  moves : Moves times now cause h m
  moves = going whole times now 0 h e event sees goes_on fit sourced proper may

  offers : (offered : List Offer) × AreOffersOf now 0 h.birth.address m.tpdus offered
  offers = offers_of now h.birth.address m.tpdus (step_row whole now e event proper may).tpdus

  move : IsMove times now 0 cause h moves.new offers.0
  move = moves.move 0 offers.0 offers.1

  -- each TPDU that it sends is an offer of the move
  record IsSaid (sent : Sent) : Type 0 where
    offer : Offer
    is : IsOfferOf now 0 h.birth.address sent offer
    offered : IsOffered times now 0 cause h moves.new offer

  each : (P : Sent → Type 0) → ((sent : Sent) → IsSaid sent → P sent) → (tpdus : List Sent) (some : List Offer) → AreOffersOf now 0 h.birth.address tpdus some
      → ((o : Offer) → Contains some o → Contains offers.0 o) → AllByRecursion P tpdus
  each P holds [] some are among = tt
  each P holds (sent ∷ tpdus) [] are among = absurd are
  each P holds (sent ∷ tpdus) (o ∷ some) are among = (
    holds sent (record { offer = o; is = are.0; offered = move.offers o (among o (first_there o some)) }),
    each P holds tpdus some are.1 (λ p there. among p (Contains-append_right (o ∷ []) some p there)),
  )

  all_said : (P : Sent → Type 0) → ((sent : Sent) → IsSaid sent → P sent) → AllByRecursion P m.tpdus
  all_said P holds = each P holds m.tpdus offers.0 offers.1 (λ o there. there)

  tpdu_is : (sent : Sent) (s : IsSaid sent) → s.offer.tpdu ≡ seen s.is.n sent.tpdu
  tpdu_is sent s = ap (λ (p : Offer). p.tpdu) s.is.is

  -- whom it is for
  module _ (to : List ℕ) (r : ℕ) (bad : e.base.to ≡ to → (e.base.partner ≡ r) ⊎ NamedBy event r → ⊥) where
    one_aims : (sent : Sent) → IsSaid sent → IsSentTo to r sent → ⊥
    one_aims sent s there = by (s.offered.goes not_cr)
      where
        not_cr : s.offer.tpdu.kind ≢ Cr
        not_cr kind = no_request sent.tpdu s.is.n r there.target (sym (ap (λ (p : Tpdu). p.kind) (tpdu_is sent s)) ∙ kind)

        to_is : e.base.to ≡ to
        to_is = sym sees.partner ∙ sym (s.offered.to not_cr) ∙ ap (λ (p : Offer). p.to) s.is.is ∙ there.address

        target : s.offer.tpdu.target ≡ r
        target = ap (λ (p : Tpdu). p.target) (tpdu_is sent s) ∙ target_of sent.tpdu s.is.n r there.target

        by : Goes cause moves.new s.offer → ⊥
        by (To_known other some is) = elim move.known [
          | inl same ↦ bad to_is (inl (sym sees.known ∙ sym same ∙ sym is ∙ target))
          | inr c ↦ bad to_is (inr (named_by e event c.1.0 r c.1.1
              (λ t same. named_cc t r (ap (λ (p : Tpdu). p.kind) same ∙ c.1.2) (ap (λ (p : Tpdu). p.source) same ∙ sym c.1.3 ∙ sym is ∙ target))))
        ]
        by (Back dr cause_is kind some is) =
            bad to_is (inr (named_by e event dr r cause_is
            (λ t same. named_dr t r (ap (λ (p : Tpdu). p.kind) same ∙ kind) (ap (λ (p : Tpdu). p.source) same ∙ sym is ∙ target))))

    pub row_aims : AllByRecursion (λ (sent : Sent). IsSentTo to r sent → ⊥) m.tpdus
    row_aims = all_said (λ (sent : Sent). IsSentTo to r sent → ⊥) one_aims

  -- in whose name it is
  module _ (r : ℕ) (some : r ≢ 0) (apart : h.birth.reference ≢ r) where
    one_named : (sent : Sent) → IsSaid sent → Names r sent.tpdu → ⊥
    one_named sent s names =
        let n = naming sent.tpdu s.is.n r names in
        let source : s.offer.tpdu.source ≡ r = ap (λ (p : Tpdu). p.source) (tpdu_is sent s) ∙ n.1 in
        let kind = ap (λ (p : Tpdu). p.kind) (tpdu_is sent s) in
        elim n.0 [
          | inl cr ↦ apart (sym (s.offered.request (kind ∙ cr)).source ∙ source)
          | inr more ↦ elim more [
            | inl confirm ↦ apart (sym (s.offered.confirm (kind ∙ confirm)) ∙ source)
            | inr dr ↦ apart (sym (s.offered.parting (kind ∙ dr) (λ none. some (sym source ∙ none))).0 ∙ source)
          ]
        ]

    pub row_named : AllByRecursion (λ (sent : Sent). Names r sent.tpdu → ⊥) m.tpdus
    row_named = all_said (λ (sent : Sent). Names r sent.tpdu → ⊥) one_named

  -- a CC has a source
  pub row_sourced : 0 < h.birth.reference → AllByRecursion (λ (sent : Sent). HasSource (seen 0 sent.tpdu)) m.tpdus
  row_sourced some = all_said (λ (sent : Sent). HasSource (seen 0 sent.tpdu)) (λ sent s. source_same sent.tpdu s.is.n (λ kind none.
      let confirm = s.offered.confirm (ap (λ (p : Tpdu). p.kind) (tpdu_is sent s) ∙ kind) in
      let source : h.birth.reference ≡ 0 = sym confirm ∙ ap (λ (p : Tpdu). p.source) (tpdu_is sent s) ∙ none in
      omega (arith, some, source)))
