-- What an end sends as it takes a TPDU goes to the partner that it knows, or to the end that the TPDU names.
use Rattle.std.proofs.Common.{◌≡◌, ◌≢◌, ◌⊎◌, inl, inr, ℕ, ◌*◌, ◌<◌, Bool, true, false, List, [], ◌∷◌, None, refl, sym, ◌∙◌, ap, arith, Contains}
use Rattle.std.specs.Prelude.{◌&&◌, not, if◌then◌else◌}
use Rattle.std.specs.List.{AllByRecursion}
use Rattle.std.proofs.Math.Nat.{mod-eq_of_lt}
use Rattle.std.proofs.lemmas.List.Elements.{Contains-append_left, Contains-append_right, Contains-push}
use Rattle.tpdu.specs.declared.tpdu.Format.{Format}
use Rattle.tpdu.specs.declared.tpdu.Format.TheVariants as formats
use Rattle.tpdu.specs.declared.tpdu.Tpdu.{Tpdu as WireTpdu}
use Rattle.tpdu.specs.declared.tpdu.Tpdu.TheVariants as wires
use Rattle.tpdu.specs.Writing.{IsAllowed, IsNumber}
use Rattle.tp4_number.specs.Formats.{block_of}
use Rattle.tp4_number.specs.Number.{whole, wire}
use Rattle.tp4_flow.specs.declared.step.Sent.{Sent}
use Rattle.tp4_conn.specs.End.{End, agreed_format}
use Rattle.tp4_conn.specs.Living.{IsFit}
use Rattle.tp4_conn.specs.Matching.{fits, wants_sum}
use Rattle.tp4_conn.specs.Proper.{AreSendable, IsProper, IsProperEvent}
use Rattle.tp4_conn.specs.Table.{Event, Took, stepped}
use Rattle.tp4_conn.proofs.Propers.{step_row}
use Rattle.law_tp4_history.specs.Ends.{Alone, Back, Cause, Cc, Cr, Dr, End as HistoryEnd, Goes, IsMove, IsOffered, Offer, Times, To_known, Took as TookIn, Tpdu}
use Rattle.law_tp4_history.specs.Moves.{IsSourced, Moves, Sees, cause_of}
use Rattle.law_tp4_history.specs.Seen.{AreOffersOf, IsNumbered, IsOfferOf, seen}
use Rattle.law_tp4_lawful.proofs.ReferencesMet.{no_request, target_of}
use Rattle.law_recovery_run.specs.Aside.{IsSentTo, Names}

-- ---- numbers

small : (block n : ℕ) → n < 4 * block → n ≡ wire block n
unfolding wire
small block n low = sym (mod-eq_of_lt low)

in_block : (f : Format) (n : ℕ) → IsNumber f n → n ≡ wire (block_of f) n
in_block formats.Normal n low = small 32 n (omega (arith, low))
in_block formats.Extended n low = small 536870912 n (omega (arith, low))

abbrev number_in : WireTpdu → ℕ
number_in (wires.Dt destination last number text) = number
number_in (wires.Ed destination last number text) = number
number_in (wires.Ak destination number credit subsequence confirmation) = number
number_in (wires.Ea destination number) = number
number_in other = 0

numbered : (f : Format) (t : WireTpdu) → IsAllowed f t → IsNumbered (block_of f) (number_in t) t
numbered f (wires.Dt destination last number text) a = in_block f number a
numbered f (wires.Ed destination last number text) a = in_block f number a.0
numbered f (wires.Ak destination number credit subsequence confirmation) a = in_block f number a.0
numbered f (wires.Ea destination number) a = in_block f number a
numbered f other a = tt

pub offers_of : (now : ℕ) (own : List ℕ) (tpdus : List Sent) → AreSendable tpdus → (offered : List Offer) × AreOffersOf now 0 own tpdus offered
offers_of now own [] s = ([], refl)
offers_of now own (sent ∷ tpdus) s =
    let rest = offers_of now own tpdus s.1 in
    (_ ∷ rest.0, (record { n = number_in sent.tpdu; numbered = numbered sent.format sent.tpdu s.0.1; is = refl }, rest.1))

-- ---- names

pub named_cc : (t : WireTpdu) (r : ℕ) → (seen 0 t).kind ≡ Cc → (seen 0 t).source ≡ r → Names r t
named_cc (wires.Cc credit destination source width calling called size preferred extra version classes ack_time text) r kind is = is
named_cc (wires.Cr credit source width calling called size preferred extra version classes ack_time text) r kind is = is
named_cc (wires.Dr destination source reason info text) r kind is = is
named_cc other r kind is = absurd (cc kind)

pub named_dr : (t : WireTpdu) (r : ℕ) → (seen 0 t).kind ≡ Dr → (seen 0 t).source ≡ r → Names r t
named_dr (wires.Cc credit destination source width calling called size preferred extra version classes ack_time text) r kind is = is
named_dr (wires.Cr credit source width calling called size preferred extra version classes ack_time text) r kind is = is
named_dr (wires.Dr destination source reason info text) r kind is = is
named_dr other r kind is = absurd (cc kind)

pub cause_took : (b : Bool) (one other : Tpdu) → (if b then Alone else TookIn one) ≡ TookIn other → one ≡ other
cause_took true one other is = absurd (cc is)
cause_took false one other is = cc is

first_of : {A : Type 0} (x : A) (xs : List A) → Contains (x ∷ xs) x
first_of x xs = Contains-append_left (x ∷ []) xs x (Contains-push [] x)

-- ---- rows

-- what a row does is a move
abbrev pub Going : Type 0
Going = (wrap : ℕ → ℕ → ℕ) (times : Times) (now n : ℕ) (h : HistoryEnd) (e : End) (event : Event) → Sees times now h e → h.stop ≡ None
    → IsFit e event → IsSourced n event → IsProper e.base e.stage → IsProperEvent e event → Moves times now (cause_of e n event) h (stepped wrap now e event)

module _ (going : Going) (now : ℕ) (times : Times) (h : HistoryEnd) (e : End) (t : WireTpdu) (sum : Bool) (sees : Sees times now h e) (goes_on : h.stop ≡ None) (fit : fits e.base e.stage t ≡ true)
    (sourced : IsSourced 0 (Took t sum)) (proper : IsProper e.base e.stage) (allowed : IsAllowed (agreed_format e.base.agreed) t)
    (to : List ℕ) (r : ℕ) (bad : e.base.to ≡ to → (e.base.partner ≡ r) ⊎ Names r t → ⊥) where
  abbrev cause : Cause
  cause = cause_of e 0 (Took t sum)

  moves : Moves times now cause h (stepped whole now e (Took t sum))
  moves = going whole times now 0 h e (Took t sum) sees goes_on fit sourced proper allowed

  took_is : (tpdu : Tpdu) → cause ≡ TookIn tpdu → seen 0 t ≡ tpdu
  took_is tpdu is = cause_took (wants_sum e.base e.stage t && not sum) (seen 0 t) tpdu is

  one : (sent : Sent) (o : Offer) (offered : List Offer) → IsMove times now 0 cause h moves.new offered → IsOfferOf now 0 h.birth.address sent o → Contains offered o → IsSentTo to r sent → ⊥
  one sent o offered move i among s = by (f.goes not_cr)
    where
      f : IsOffered times now 0 cause h moves.new o
      f = move.offers o among

      tpdu_is : o.tpdu ≡ seen i.n sent.tpdu
      tpdu_is = ap (λ (p : Offer). p.tpdu) i.is

      not_cr : o.tpdu.kind ≢ Cr
      not_cr kind = no_request sent.tpdu i.n r s.target (sym (ap (λ (p : Tpdu). p.kind) tpdu_is) ∙ kind)

      to_is : e.base.to ≡ to
      to_is = sym sees.partner ∙ sym (f.to not_cr) ∙ ap (λ (p : Offer). p.to) i.is ∙ s.address

      target : o.tpdu.target ≡ r
      target = ap (λ (p : Tpdu). p.target) tpdu_is ∙ target_of sent.tpdu i.n r s.target

      by : Goes cause moves.new o → ⊥
      by (To_known other some is) = elim move.known [
        | inl same ↦ bad to_is (inl (sym sees.known ∙ sym same ∙ sym is ∙ target))
        | inr c ↦
            let same = took_is c.1.0 c.1.1 in
            bad to_is (inr (named_cc t r (ap (λ (p : Tpdu). p.kind) same ∙ c.1.2) (ap (λ (p : Tpdu). p.source) same ∙ sym c.1.3 ∙ sym is ∙ target)))
      ]
      by (Back dr cause_is kind some is) =
          let same = took_is dr cause_is in
          bad to_is (inr (named_dr t r (ap (λ (p : Tpdu). p.kind) same ∙ kind) (ap (λ (p : Tpdu). p.source) same ∙ sym is ∙ target)))

  each : (tpdus : List Sent) (some offered : List Offer) → IsMove times now 0 cause h moves.new offered → AreOffersOf now 0 h.birth.address tpdus some → ((o : Offer) → Contains some o → Contains offered o)
      → AllByRecursion (λ (sent : Sent). IsSentTo to r sent → ⊥) tpdus
  each [] some offered move are among = tt
  each (sent ∷ tpdus) [] offered move are among = absurd are
  each (sent ∷ tpdus) (o ∷ some) offered move are among =
      (one sent o offered move are.0 (among o (first_of o some)), each tpdus some offered move are.1 (λ p there. among p (Contains-append_right (o ∷ []) some p there)))

  pub row_aims : AllByRecursion (λ (sent : Sent). IsSentTo to r sent → ⊥) (stepped whole now e (Took t sum)).tpdus
  row_aims =
      let m = stepped whole now e (Took t sum) in
      let offers = offers_of now h.birth.address m.tpdus (step_row whole now e (Took t sum) proper allowed).tpdus in
      each m.tpdus offers.0 offers.0 (moves.move 0 offers.0 offers.1) offers.1 (λ o there. there)
