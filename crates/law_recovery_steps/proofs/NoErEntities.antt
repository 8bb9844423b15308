-- No step of an entity sends an ER: no row of its ends does, and it answers by a DR or a DC.
use Rattle.std.specs.List.{list_any}
use Rattle.std.specs.Prelude.{not}
use Rattle.std.proofs.Common.{◌≡◌, ◌==◌, ℕ, true, false, List, Option, Some, None, refl}
use Rattle.tpdu.specs.Values.{TpduAndSum}
use Rattle.tpdu.specs.declared.tpdu.Tpdu.{Tpdu}
use Rattle.tpdu.specs.declared.tpdu.Tpdu.TheVariants.{Cr, Cc, Dr, Dc, Dt, Ed, Ak, Ea, Er}
use Rattle.tp4_number.specs.Number.{whole}
use Rattle.tp4_number.proofs.Past.{if_kept}
use Rattle.tp4_conn.specs.End.{End, Moved}
use Rattle.tp4_conn.specs.Making.{on_cr}
use Rattle.tp4_conn.specs.Matching.{is_match}
use Rattle.tp4_conn.specs.Table.{Called, Ticked, Took}
use Rattle.tp4_conn.specs.declared.call.UserCall.{UserCall}
use Rattle.tp4_entity.specs.Association.{calls, is_called, is_registered, met, met_by, new_end, requested, stateless, unmatched}
use Rattle.tp4_entity.specs.Entity.{Acted, Entity, at, end_at}
use Rattle.tp4_entity.specs.References.{least_free}
use Rattle.tp4_entity.specs.Step.{calling, calling_end, first_due, ticking_at, ticking_end}
use Rattle.law_recovery_steps.specs.Ers.{HasNoEr}
use Rattle.law_recovery_steps.specs.Laws.{NoneSendsEr}
use Rattle.law_recovery_steps.proofs.NoErRows.{indicated_none, row_none}

abbrev None_of : Acted → Type 0
None_of acted = HasNoEr acted.tpdus

module _ (now : ℕ) (e : Entity) where
  called_none : (reference : ℕ) (call : UserCall) (place : Option End) → None_of (calling_end whole now (at now e) reference call place)
  called_none reference call None = tt
  called_none reference call (Some end) = row_none whole now end (Called call)

  ticked_end : (reference : ℕ) (place : Option End) → None_of (ticking_end whole now (at now e) reference place)
  ticked_end reference None = tt
  ticked_end reference (Some end) = row_none whole now end Ticked

  ticked_none : (found : Option ℕ) → None_of (ticking_at whole now (at now e) found)
  ticked_none None = tt
  ticked_none (Some reference) = ticked_end reference (end_at (at now e) reference)

  stateless_none : (from : List ℕ) (tpdu : Tpdu) → HasNoEr (stateless from tpdu)
  stateless_none from (Cc given destination source width calling called size preferred extra version classes ack_time text) = (tt, tt)
  stateless_none from (Dr destination source reason info text) = if_kept HasNoEr (source == 0) _ _ (λ _. tt) (λ _. (tt, tt))
  stateless_none from other = tt

  by_place : (from : List ℕ) (tpdu : TpduAndSum) (reference : ℕ) (place : Option End) → None_of (met_by whole now e from tpdu reference place)
  by_place from tpdu reference None = stateless_none from tpdu.0
  by_place from tpdu reference (Some end) =
      if_kept None_of (is_match end.base end.stage from tpdu.0) _ (unmatched e from tpdu.0) (λ _. row_none whole now end (Took tpdu.0 tpdu.1)) (λ _. stateless_none from tpdu.0)

  made_none : (reference : ℕ) (from : List ℕ) (cr : Tpdu) (made : Option Moved) → on_cr now reference from e.timers cr ≡ made → None_of (calls e reference made)
  made_none reference from cr None is = tt
  made_none reference from cr (Some m) is = indicated_none now reference from e.timers cr m is

  new_none : (from : List ℕ) (source : ℕ) (cr : Tpdu) (found : Option ℕ) → None_of (new_end now e from source cr found)
  new_none from source cr None = (tt, tt)
  new_none from source cr (Some reference) = made_none reference from cr (on_cr now reference from e.timers cr) refl

  requested_none : (from : List ℕ) (source : ℕ) (called : List ℕ) (cr : Tpdu) → None_of (requested now e from source called cr)
  requested_none from source called cr =
      if_kept None_of (list_any (is_called false from source) e.ends) _ _ (λ _. tt)
      (λ _. if_kept None_of (list_any (is_called true from source) e.ends) _ _ (λ _. (tt, tt))
      (λ _. if_kept None_of (not (is_registered e.selectors called)) _ _ (λ _. (tt, tt)) (λ _. new_none from source cr (least_free now e))))

  met_none : (from : List ℕ) (tpdu : TpduAndSum) → None_of (met whole now e from tpdu)
  met_none from (Cr given source width calling called size preferred extra version classes ack_time text, sum) =
      requested_none from source called (Cr given source width calling called size preferred extra version classes ack_time text)
  met_none from (Cc given destination source width calling called size preferred extra version classes ack_time text, sum) =
      by_place from (Cc given destination source width calling called size preferred extra version classes ack_time text, sum) destination (end_at e destination)
  met_none from (Dr destination source reason info text, sum) = by_place from (Dr destination source reason info text, sum) destination (end_at e destination)
  met_none from (Dc destination source, sum) = by_place from (Dc destination source, sum) destination (end_at e destination)
  met_none from (Dt destination last number text, sum) = by_place from (Dt destination last number text, sum) destination (end_at e destination)
  met_none from (Ed destination last number text, sum) = by_place from (Ed destination last number text, sum) destination (end_at e destination)
  met_none from (Ak destination number given subsequence confirmation, sum) = by_place from (Ak destination number given subsequence confirmation, sum) destination (end_at e destination)
  met_none from (Ea destination number, sum) = by_place from (Ea destination number, sum) destination (end_at e destination)
  met_none from (Er destination cause rejected, sum) = by_place from (Er destination cause rejected, sum) destination (end_at e destination)

pub none_sends_er : NoneSendsEr
none_sends_er now e = record {
  connects = λ reference request. (tt, tt);
  calls = λ reference call. called_none now e reference call (end_at e reference);
  ticks = ticked_none now e (first_due now e);
  meets = met_none now e;
}
