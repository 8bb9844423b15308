-- What has to be known of a TPDU that was taken follows from what holds of histories: an offered ED carries the unit of its number.
use Rattle.std.proofs.Common.{◌≡◌, ℕ, true, Some, refl, sym, ◌∙◌, ap, Contains}
use Rattle.tpdu.specs.declared.tpdu.Format.{Format}
use Rattle.tpdu.specs.declared.tpdu.Tpdu.{Tpdu as WireTpdu}
use Rattle.tpdu.specs.declared.tpdu.Tpdu.TheVariants as wires
use Rattle.tp4_number.specs.Formats.{block_of}
use Rattle.tp4_conn.specs.declared.end_record.EndRecord.{EndRecord}
use Rattle.tp4_conn.specs.declared.states.StateData.{StateData}
use Rattle.tp4_conn.specs.declared.states.StateData.TheVariants.{CrWait, AkWait, Opened}
use Rattle.tp4_conn.specs.End.{agreed_format}
use Rattle.law_tp4_history.specs.Ends.{Times, Terms, Tpdu, Cc, Flow, Offer, Sent}
use Rattle.law_tp4_history.specs.Tracks.{Track, Whole, IsTold}
use Rattle.law_tp4_history.specs.Seen.{seen, IsNumbered}
use Rattle.law_tp4_history.specs.Lines.{CarriesItsUnit, IsHeard, Confirms, IsKnownTpdu}

module _ (times : Times) (w : Whole) (told : IsTold times w) (x n : ℕ) (o : Offer) (offered : Contains w.base.offers o) where
  carries : (tpdu : WireTpdu) → o.tpdu ≡ seen n tpdu → (o.tpdu.kind ≡ Flow → o.origin ≡ Sent x) → CarriesItsUnit n tpdu (w.track x)
  carries (wires.Ed destination last number text) e flow = told.ed x n text o offered (flow (ap (λ (t : Tpdu). t.kind) e)) (ap (λ (t : Tpdu). t.body) e)
  carries other e flow = tt

  numbered : (block : ℕ) (tpdu : WireTpdu) → o.tpdu ≡ seen n tpdu → (o.tpdu.kind ≡ Flow → IsNumbered block n tpdu) → IsNumbered block n tpdu
  numbered block (wires.Dt destination last number text) e flow = flow (ap (λ (t : Tpdu). t.kind) e)
  numbered block (wires.Ed destination last number text) e flow = flow (ap (λ (t : Tpdu). t.kind) e)
  numbered block (wires.Ak destination number credit subsequence confirmation) e flow = flow (ap (λ (t : Tpdu). t.kind) e)
  numbered block (wires.Ea destination number) e flow = flow (ap (λ (t : Tpdu). t.kind) e)
  numbered block other e flow = tt

  confirms : (terms : Terms) (tpdu : WireTpdu) (own : Track) → o.tpdu ≡ seen n tpdu → (o.tpdu.kind ≡ Cc → (own.is_begun ≡ true) × (o.tpdu.terms ≡ terms)) → Confirms terms tpdu own
  confirms terms (wires.Cc credit destination source width calling called size preferred extra version classes ack_time text) own e cc_says =
      let says = cc_says (ap (λ (t : Tpdu). t.kind) e) in
      (says.0, sym (ap (λ (t : Tpdu). t.terms) e) ∙ says.1)
  confirms terms other own e cc_says = tt

  heard : (format : Format) (tpdu : WireTpdu) → o.tpdu ≡ seen n tpdu → (o.tpdu.kind ≡ Flow → IsNumbered (block_of format) n tpdu) → (o.tpdu.kind ≡ Flow → o.origin ≡ Sent x)
      → IsHeard format (Some o) tpdu (w.track x)
  heard width tpdu e number from = record {
    n = n;
    numbered = numbered (block_of width) tpdu e number;
    offer = o;
    is = refl;
    seen_as = e;
    unit = carries tpdu e from;
  }

  pub known : (terms : Terms) (b : EndRecord) (stage : StateData) (tpdu : WireTpdu) (own : Track) → o.tpdu ≡ seen n tpdu → (o.tpdu.kind ≡ Flow → IsNumbered (block_of (agreed_format b.agreed)) n tpdu) → (o.tpdu.kind ≡ Flow → o.origin ≡ Sent x)
      → (o.tpdu.kind ≡ Cc → (own.is_begun ≡ true) × (o.tpdu.terms ≡ terms)) → IsKnownTpdu terms b stage (Some o) tpdu own (w.track x)
  known terms b (CrWait c) tpdu own e number from says = confirms terms tpdu own e says
  known terms b (AkWait a) tpdu own e number from says = heard (agreed_format b.agreed) tpdu e number from
  known terms b (Opened a) tpdu own e number from says = heard (agreed_format b.agreed) tpdu e number from
  known terms b other tpdu own e number from says = tt
