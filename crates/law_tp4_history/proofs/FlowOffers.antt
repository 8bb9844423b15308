-- What stands in the lines is offered, and noted in the history.
use Rattle.std.proofs.Common.{◌≡◌, ◌≢◌, ℕ, Bool, if◌then◌else◌, List, [], ◌∷◌, refl, sym, ◌∙◌, ap, subst, inl, inr, Contains}
use Rattle.std.proofs.lemmas.List.Elements.{Contains-append_cases, Contains-push_cases}
use Rattle.std.proofs.lemmas.Bool.{eq-eqb, ne_eqb}
use Rattle.tpdu.specs.declared.tpdu.Tpdu.{Tpdu as WireTpdu}
use Rattle.tpdu.specs.declared.tpdu.Tpdu.TheVariants as wires
use Rattle.tp4_number.specs.Formats.{block_of}
use Rattle.tp4_number.proofs.Accounts.{none}
use Rattle.tp4_flow.specs.declared.step.Sent.{Sent}
use Rattle.tp4_conn.specs.Agreeing.{is_extended}
use Rattle.law_tp4_history.specs.Ends.{Body, Plain, Dt, Ed, Ak, Ea, Offer, Sent as SentBy}
use Rattle.law_tp4_history.specs.History.{History, IsPartner}
use Rattle.law_tp4_history.specs.Tracks.{Track, set_track, Go, done, Noted}
use Rattle.law_tp4_history.specs.Seen.{seen, IsNumbered}
use Rattle.law_tp4_history.specs.Lines.{IsIn, AreSentIn, ArePlain, AreOffered}

abbrev offer_of : ℕ → ℕ → List ℕ → Sent → ℕ → Offer
offer_of clock number own sent n = record { tick = clock; from = own; to = sent.to; tpdu = seen n sent.tpdu; is_extended = is_extended sent.format; origin = SentBy number }

the_one : (one o : Offer) → Contains (one ∷ []) o → one ≡ o
the_one one o c = elim (Contains-push_cases [] one o c) [ inl before ↦ absurd (none o before) | inr is ↦ is ]

-- one offer, and then others
one_offered : (clock number : ℕ) (own : List ℕ) (sent : Sent) (tpdus : List Sent) (holds : Body → Type 0) (n : ℕ) → IsNumbered (block_of sent.format) n sent.tpdu → holds (seen n sent.tpdu).body
    → AreOffered clock number own tpdus holds → AreOffered clock number own (sent ∷ tpdus) holds
one_offered clock number own sent tpdus holds n numbered is rest = record {
  offers = offer_of clock number own sent n ∷ rest.offers;
  are = (record { n = n; numbered = numbered; is = refl }, rest.are);
  each = λ o c. elim (Contains-append_cases (offer_of clock number own sent n ∷ []) rest.offers o c) [
    | inl here ↦ subst (λ (p : Offer). holds p.tpdu.body) (the_one (offer_of clock number own sent n) o here) is
    | inr there ↦ rest.each o there
  ];
}

pub sent_offered : (own theirs : Track) (clock number : ℕ) (address : List ℕ) (tpdus : List Sent) → AreSentIn own theirs clock tpdus → AreOffered clock number address tpdus (IsIn own theirs clock)
sent_offered own theirs clock number address [] are = record { offers = []; are = refl; each = λ o c. absurd (none o c) }
sent_offered own theirs clock number address (sent ∷ tpdus) are =
    one_offered clock number address sent tpdus (IsIn own theirs clock) are.0.n are.0.numbered are.0.stands (sent_offered own theirs clock number address tpdus are.1)

-- what has no number
plain_number : (block : ℕ) (tpdu : WireTpdu) → (seen 0 tpdu).body ≡ Plain → IsNumbered block 0 tpdu
plain_number block (wires.Dt destination last number text) e = absurd (cc e)
plain_number block (wires.Ed destination last number text) e = absurd (cc e)
plain_number block (wires.Ak destination number credit subsequence confirmation) e = absurd (cc e)
plain_number block (wires.Ea destination number) e = absurd (cc e)
plain_number block other e = tt

pub plain_offered : (clock number : ℕ) (address : List ℕ) (tpdus : List Sent) → ArePlain tpdus → AreOffered clock number address tpdus (λ body. body ≡ Plain)
plain_offered clock number address [] are = record { offers = []; are = refl; each = λ o c. absurd (none o c) }
plain_offered clock number address (sent ∷ tpdus) are =
    one_offered clock number address sent tpdus (λ body. body ≡ Plain) 0 (plain_number (block_of sent.format) sent.tpdu (are.0 0)) (are.0 0) (plain_offered clock number address tpdus are.1)

-- in the history in which these are the lines of y and of its partner
module _ (h : History) (track : ℕ → Track) (y z : ℕ) (own theirs : Track) (p : IsPartner h y z) (other : y ≢ z) where
  own_is : set_track (set_track track y own) z theirs y ≡ own
  own_is =
      ap (λ (b : Bool). if b then theirs else set_track track y own y) (ne_eqb y z other)
      ∙ ap (λ (b : Bool). if b then own else track y) (eq-eqb y y refl)

  theirs_is : set_track (set_track track y own) z theirs z ≡ theirs
  theirs_is = ap (λ (b : Bool). if b then theirs else set_track track y own z) (eq-eqb z z refl)

  noted_at : (tracks : ℕ → Track) (tick : ℕ) (body : Body) → tracks y ≡ own → tracks z ≡ theirs → IsIn own theirs tick body → Noted h tracks y tick body
  noted_at tracks tick Plain o t is = record {}
  noted_at tracks tick (Dt n piece) o t is = subst (λ (u : Track). IsIn u theirs tick (Dt n piece)) (sym o) is
  noted_at tracks tick (Ed n octets) o t is = subst (λ (u : Track). IsIn u theirs tick (Ed n octets)) (sym o) is
  noted_at tracks tick (Ak n credit subsequence) o t is = let at = subst (λ (u : Track). IsIn own u tick (Ak n credit subsequence)) (sym t) is in (z, p, at.0, at.1)
  noted_at tracks tick (Ea n) o t is = let at = subst (λ (u : Track). IsIn own u tick (Ea n)) (sym t) is in (z, p, at.0, at.1)

  pub is_noted : (tick : ℕ) (body : Body) → IsIn own theirs tick body → Noted h (done track y (Go z own theirs)) y tick body
  is_noted tick body is = noted_at (set_track (set_track track y own) z theirs) tick body own_is theirs_is is
