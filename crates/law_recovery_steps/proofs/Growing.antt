-- What stands in lines stays there as they grow.
use Rattle.std.proofs.Common.{◌≡◌, ℕ, ◌+◌, List, [], ◌∷◌, ◌++◌, Option, Some, refl, sym, ◌∙◌, ap, subst}
use Rattle.tpdu.specs.declared.tpdu.Tpdu.{Tpdu}
use Rattle.tpdu.specs.declared.tpdu.Tpdu.TheVariants as wires
use Rattle.tp4_number.specs.Formats.{block_of}
use Rattle.tp4_flow.specs.declared.step.Sent.{Sent}
use Rattle.tp4_sending.specs.Pieces.{cut_at}
use Rattle.script_journal.specs.Lawful.{normals}
use Rattle.law_tp4_history.specs.Ends.{Ak, Body, Dt, Ea, Ed, Offer, Plain, Times}
use Rattle.law_tp4_history.specs.Line.{Clock, Expedites, Flows, Happening, Line, Submit, next as next_line}
use Rattle.law_tp4_history.specs.Tracks.{CanIn, IsRun, RunsBy, Track, clocked}
use Rattle.law_tp4_history.proofs.Tracked.{GrowsTrack, run_with}
use Rattle.law_tp4_history.specs.Lines.{ArePlain, AreSentIn, IsIn}
use Rattle.law_tp4_history.specs.Seen.{IsNumbered, seen}

-- a tick
pub run_clocked : (times : Times) (clock : ℕ) (t : Track) → IsRun times clock t → IsRun times (clock + 1) (clocked t)
run_clocked times clock t r =
    run_with times clock t (clocked t) (Clock ∷ []) refl r (record {}, refl) (clock + 1) (ap (λ (n : ℕ). n + 1) r.at.0, ap (λ (n : ℕ). n + 1) r.at.1)

-- the partner submits nothing
pub submitted_in : (taken : Option Offer) (t : Track) (old new : Line) (happenings : List Happening) → RunsBy (CanIn taken) t old happenings new → new.submitted ≡ old.submitted
submitted_in taken t old new [] r = ap (λ (l : Line). l.submitted) r
submitted_in taken t old new (Submit unit ∷ happenings) r = absurd r.0
submitted_in taken t old new (Clock ∷ happenings) r = absurd r.0
submitted_in taken t old new (Flows event ∷ happenings) r = submitted_in taken t (next_line t.rules old (Flows event)) new happenings r.1
submitted_in taken t old new (Expedites event ∷ happenings) r = submitted_in taken t (next_line t.rules old (Expedites event)) new happenings r.1

-- ---- what was sent

module _ (own theirs new_own new_theirs : Track) (tick : ℕ) (g : GrowsTrack own new_own) (k : GrowsTrack theirs new_theirs) where
  in_on : (body : Body) → IsIn own theirs tick body → IsIn new_own new_theirs tick body
  in_on Plain i = tt
  in_on (Dt n piece) i =
      let f = g.line i.0 in
      (g.begun i.0, f.sends (n, tick) i.1, subst (λ (size : ℕ). cut_at size (normals new_own.line.submitted) n ≡ Some piece) (sym (g.size i.0)) (f.pieces n piece i.2))
  in_on (Ed n octets) i =
      let f = g.line i.0 in
      let u = f.units n i.2 in
      (g.begun i.0, f.eds (n, tick) i.1, u.0, i.3 ∙ sym u.1)
  in_on (Ak n credit subsequence) i = (k.begun i.0, (k.line i.0).answers _ i.1)
  in_on (Ea n) i = (k.begun i.0, (k.line i.0).eas (n, tick) i.1)

  pub sent_on : (l : List Sent) → AreSentIn own theirs tick l → AreSentIn new_own new_theirs tick l
  sent_on [] s = tt
  sent_on (sent ∷ l) s = (record { n = s.0.n; numbered = s.0.numbered; stands = in_on (seen s.0.n sent.tpdu).body s.0.stands }, sent_on l s.1)

module _ (own theirs : Track) (tick : ℕ) where
  pub sent_then : (a b : List Sent) → AreSentIn own theirs tick a → AreSentIn own theirs tick b → AreSentIn own theirs tick (a ++ b)
  sent_then [] b s t = t
  sent_then (sent ∷ a) b s t = (s.0, sent_then a b s.1 t)

  plain_number : (block : ℕ) (tpdu : Tpdu) → (seen 0 tpdu).body ≡ Plain → IsNumbered block 0 tpdu
  plain_number block (wires.Dt destination last number text) e = absurd (cc e)
  plain_number block (wires.Ed destination last number text) e = absurd (cc e)
  plain_number block (wires.Ak destination number credit subsequence confirmation) e = absurd (cc e)
  plain_number block (wires.Ea destination number) e = absurd (cc e)
  plain_number block other e = tt

  pub plain_in : (l : List Sent) → ArePlain l → AreSentIn own theirs tick l
  plain_in [] p = tt
  plain_in (sent ∷ l) p =
      (record { n = 0; numbered = plain_number (block_of sent.format) sent.tpdu (p.0 0); stands = subst (IsIn own theirs tick) (sym (p.0 0)) tt }, plain_in l p.1)
