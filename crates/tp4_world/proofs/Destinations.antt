-- Where the TPDUs of an entity go: each goes to the address of the partner of an end, or back to where the unit came from that it answers.
-- So where the addresses of all partners are of some kind, and units are taken from such addresses alone, all TPDUs go to such addresses.
use Rattle.std.proofs.Common.{◌≡◌, ℕ, zero, suc, ◌-◌, Bool, true, false, not, ◌==◌, List, [], ◌∷◌, slice_get, slice_set, Option, Some, None, refl, sym, ◌∙◌, ap, subst}
use Rattle.std.specs.List.{AllByRecursion, list_any}
use Rattle.osi_base.proofs.Members.{all_both}
use Rattle.tpdu.specs.Values.{TpduAndSum}
use Rattle.tpdu.specs.declared.tpdu.Tpdu.{Tpdu}
use Rattle.tpdu.specs.declared.tpdu.Tpdu.TheVariants.{Cr, Cc, Dr, Dc, Dt, Ed, Ak, Ea, Er}
use Rattle.tp4_flow.specs.declared.step.Sent.{Sent}
use Rattle.tp4_conn.specs.declared.call.ConnectRequest.{ConnectRequest}
use Rattle.tp4_conn.specs.declared.call.UserCall.{UserCall}
use Rattle.tp4_conn.specs.End.{End, Moved, end_of}
use Rattle.tp4_conn.specs.Making.{connected}
use Rattle.tp4_conn.specs.Matching.{is_match}
use Rattle.tp4_conn.specs.Table.{Called, Ticked, Took, due, stepped}
use Rattle.tp4_entity.specs.Association.{answer, is_called, is_registered, met, met_at, met_by, new_end, requested, stateless, unmatched}
use Rattle.tp4_entity.specs.Entity.{Acted, Entity, at, end_at, moved, there, with_end}
use Rattle.tp4_entity.specs.References.{least_free}
use Rattle.tp4_entity.specs.Silence.{is_silent}
use Rattle.tp4_entity.specs.Step.{call_of, calling, calling_end, connecting, first_due, kept_end, ticking, ticking_at, ticking_end}
use Rattle.tp4_entity.specs.Unit.{HearsUnit, all_met, TakesBy, TakesUnit}
use Rattle.tp4_world.proofs.Addressees.{AllTo, MovesTo, PointsTo, either, row_to}

module _ (Fine : List ℕ → Type 0) where
  -- an end whose partner's address is of that kind
  abbrev pub EndFine : Option End → Type 0
  EndFine None = Unit {0}
  EndFine (Some end) = (to : List ℕ) × PointsTo to end × Fine to

  abbrev pub EndsFine : List (Option End) → Type 0
  EndsFine ends = AllByRecursion EndFine ends

  abbrev pub SentFine : List Sent → Type 0
  SentFine tpdus = AllByRecursion (λ sent. Fine sent.to) tpdus

  -- what an entity of that address did
  pub record ActsFine (own : List ℕ) (acted : Acted) : Type 0 where
    pub own_is : acted.entity.own ≡ own
    pub ends : EndsFine acted.entity.ends
    pub tpdus : SentFine acted.tpdus

  sent_fine : (to : List ℕ) (tpdus : List Sent) → AllTo to tpdus → Fine to → SentFine tpdus
  sent_fine to [] all fine = tt
  sent_fine to (sent ∷ tpdus) all fine = (subst Fine (sym all.0) fine, sent_fine to tpdus all.1 fine)

  set_fine : (ends : List (Option End)) (place : ℕ) (end : Option End) → EndsFine ends → EndFine end → EndsFine (slice_set ends place end)
  set_fine [] place end all fine = tt
  set_fine (one ∷ ends) zero end all fine = (fine, all.1)
  set_fine (one ∷ ends) (suc place) end all fine = (all.0, set_fine ends place end all.1 fine)

  got_fine : (ends : List (Option End)) (place : ℕ) → EndsFine ends → EndFine (there (slice_get ends place))
  got_fine [] place all = tt
  got_fine (one ∷ ends) zero all = all.0
  got_fine (one ∷ ends) (suc place) all = got_fine ends place all.1

  at_fine : (e : Entity) (reference : ℕ) → EndsFine e.ends → EndFine (end_at e reference)
  at_fine e reference all = either EndFine (reference == 0) None (there (slice_get e.ends (reference - 1))) tt (got_fine e.ends (reference - 1) all)

  placed_fine : (e : Entity) (reference : ℕ) (place : Option End) (m : Moved) (to : List ℕ) → EndsFine e.ends → EndFine place → MovesTo to m → Fine to
      → ActsFine e.own (record { entity = with_end e reference place; events = m.events; tpdus = m.tpdus })
  placed_fine e reference place m to all at_place moves fine = record { own_is = refl; ends = set_fine e.ends (reference - 1) place all at_place; tpdus = sent_fine to m.tpdus moves.tpdus fine }

  after_fine : (m : Moved) (to : List ℕ) → MovesTo to m → Fine to → EndFine (Some (end_of m))
  after_fine m to moves fine = (to, record { base = moves.base; stage = moves.stage }, fine)

  moved_fine : (e : Entity) (reference : ℕ) (m : Moved) (to : List ℕ) → EndsFine e.ends → MovesTo to m → Fine to → ActsFine e.own (moved e reference m)
  moved_fine e reference m to all moves fine = placed_fine e reference (Some (end_of m)) m to all (after_fine m to moves fine) moves fine

  -- nothing but these answers
  answers_fine : (e : Entity) (acted : Acted) → EndsFine e.ends → acted.entity ≡ e → SentFine acted.tpdus → ActsFine e.own acted
  answers_fine e acted all same fine = record { own_is = ap (λ (x : Entity). x.own) same; ends = subst (λ (x : Entity). EndsFine x.ends) (sym same) all; tpdus = fine }

  -- ---- calls and ticks

  pub connecting_fine : (now : ℕ) (e : Entity) (reference : ℕ) (request : ConnectRequest) → EndsFine e.ends → Fine request.to → ActsFine e.own (connecting now e reference request)
  connecting_fine now e reference request all fine =
      moved_fine (at now e) reference (connected now (call_of e reference request)) request.to all (record { base = refl; stage = tt; tpdus = (refl, tt) }) fine

  end_called : (wrap : ℕ → ℕ → ℕ) (now : ℕ) (e : Entity) (reference : ℕ) (call : UserCall) (place : Option End) → EndsFine e.ends → EndFine place
      → ActsFine e.own (calling_end wrap now e reference call place)
  end_called wrap now e reference call None all at_place = record { own_is = refl; ends = all; tpdus = tt }
  end_called wrap now e reference call (Some end) all at_place =
      moved_fine e reference (stepped wrap now end (Called call)) at_place.0 all (row_to at_place.0 wrap now end (Called call) at_place.1) at_place.2

  pub calling_fine : (wrap : ℕ → ℕ → ℕ) (now : ℕ) (e : Entity) (reference : ℕ) (call : UserCall) → EndsFine e.ends → ActsFine e.own (calling wrap now e reference call)
  calling_fine wrap now e reference call all = end_called wrap now (at now e) reference call (end_at e reference) all (at_fine e reference all)

  kept_fine : (m : Moved) (next : Option ℕ) (to : List ℕ) → MovesTo to m → Fine to → EndFine (kept_end m next)
  kept_fine m None to moves fine = tt
  kept_fine m (Some tick) to moves fine = after_fine m to moves fine

  end_ticked : (wrap : ℕ → ℕ → ℕ) (now : ℕ) (e : Entity) (reference : ℕ) (place : Option End) → EndsFine e.ends → EndFine place → ActsFine e.own (ticking_end wrap now e reference place)
  end_ticked wrap now e reference None all at_place = record { own_is = refl; ends = all; tpdus = tt }
  end_ticked wrap now e reference (Some end) all at_place =
      let m = stepped wrap now end Ticked in
      let moves = row_to at_place.0 wrap now end Ticked at_place.1 in
      placed_fine e reference (kept_end m (due m.base m.stage)) m at_place.0 all (kept_fine m (due m.base m.stage) at_place.0 moves at_place.2) moves at_place.2

  ticked_at : (wrap : ℕ → ℕ → ℕ) (now : ℕ) (e : Entity) (found : Option ℕ) → EndsFine e.ends → ActsFine e.own (ticking_at wrap now e found)
  ticked_at wrap now e None all = record { own_is = refl; ends = all; tpdus = tt }
  ticked_at wrap now e (Some reference) all = end_ticked wrap now e reference (end_at e reference) all (at_fine e reference all)

  pub ticking_fine : (wrap : ℕ → ℕ → ℕ) (now : ℕ) (e : Entity) → EndsFine e.ends → ActsFine e.own (ticking wrap now e)
  ticking_fine wrap now e all = ticked_at wrap now (at now e) (first_due now e) all

  -- ---- TPDUs from an address of that kind

  module _ (from : List ℕ) (fine : Fine from) where
    stateless_fine : (tpdu : Tpdu) → SentFine (stateless from tpdu)
    stateless_fine (Cc credit destination source width calling called size preferred extra version classes ack_time text) = (fine, tt)
    stateless_fine (Dr destination source reason info text) = either SentFine (source == 0) [] (answer from (Dc source destination) ∷ []) tt (fine, tt)
    stateless_fine tpdu = tt

    unmatched_fine : (e : Entity) (tpdu : Tpdu) → EndsFine e.ends → ActsFine e.own (unmatched e from tpdu)
    unmatched_fine e tpdu all = record { own_is = refl; ends = all; tpdus = stateless_fine tpdu }

    by_end : (wrap : ℕ → ℕ → ℕ) (now : ℕ) (e : Entity) (tpdu : TpduAndSum) (reference : ℕ) (place : Option End) → EndsFine e.ends → EndFine place → ActsFine e.own (met_by wrap now e from tpdu reference place)
    by_end wrap now e tpdu reference None all at_place = unmatched_fine e tpdu.0 all
    by_end wrap now e tpdu reference (Some end) all at_place =
        either (ActsFine e.own) (is_match end.base end.stage from tpdu.0) _ _
        (moved_fine e reference (stepped wrap now end (Took tpdu.0 tpdu.1)) at_place.0 all (row_to at_place.0 wrap now end (Took tpdu.0 tpdu.1) at_place.1) at_place.2)
        (unmatched_fine e tpdu.0 all)

    by_reference : (wrap : ℕ → ℕ → ℕ) (now : ℕ) (e : Entity) (tpdu : TpduAndSum) (reference : Option ℕ) → EndsFine e.ends → ActsFine e.own (met_at wrap now e from tpdu reference)
    by_reference wrap now e tpdu None all = unmatched_fine e tpdu.0 all
    by_reference wrap now e tpdu (Some reference) all = by_end wrap now e tpdu reference (end_at e reference) all (at_fine e reference all)

    made_fine : (now : ℕ) (e : Entity) (source : ℕ) (cr : Tpdu) (found : Option ℕ) → EndsFine e.ends → ActsFine e.own (new_end now e from source cr found)
    made_fine now e source cr None all = record { own_is = refl; ends = all; tpdus = (fine, tt) }
    made_fine now e source (Cr credit reference width calling called size preferred extra version classes ack_time text) (Some own) all =
        moved_fine e own _ from all (record { base = refl; stage = tt; tpdus = tt }) fine
    made_fine now e source cr (Some own) all = record { own_is = refl; ends = all; tpdus = tt }

    requested_fine : (now : ℕ) (e : Entity) (source : ℕ) (called : List ℕ) (cr : Tpdu) → EndsFine e.ends → ActsFine e.own (requested now e from source called cr)
    requested_fine now e source called cr all =
        either (ActsFine e.own) (list_any (is_called false from source) e.ends) _ _ (record { own_is = refl; ends = all; tpdus = tt })
        (either (ActsFine e.own) (list_any (is_called true from source) e.ends) _ _ (record { own_is = refl; ends = all; tpdus = (fine, tt) })
        (either (ActsFine e.own) (not (is_registered e.selectors called)) _ _ (record { own_is = refl; ends = all; tpdus = (fine, tt) })
        (made_fine now e source cr (least_free now e) all)))

    met_fine : (wrap : ℕ → ℕ → ℕ) (now : ℕ) (e : Entity) (tpdu : TpduAndSum) → EndsFine e.ends → ActsFine e.own (met wrap now e from tpdu)
    met_fine wrap now e (Cr credit source width calling called size preferred extra version classes ack_time text, sum) all =
        requested_fine now e source called (Cr credit source width calling called size preferred extra version classes ack_time text) all
    met_fine wrap now e (Cc credit destination source width calling called size preferred extra version classes ack_time text, sum) all =
        by_reference wrap now e (Cc credit destination source width calling called size preferred extra version classes ack_time text, sum) (Some destination) all
    met_fine wrap now e (Dr destination source reason info text, sum) all = by_reference wrap now e (Dr destination source reason info text, sum) (Some destination) all
    met_fine wrap now e (Dc destination source, sum) all = by_reference wrap now e (Dc destination source, sum) (Some destination) all
    met_fine wrap now e (Dt destination last number text, sum) all = by_reference wrap now e (Dt destination last number text, sum) (Some destination) all
    met_fine wrap now e (Ed destination last number text, sum) all = by_reference wrap now e (Ed destination last number text, sum) (Some destination) all
    met_fine wrap now e (Ak destination number credit subsequence confirmation, sum) all =
        by_reference wrap now e (Ak destination number credit subsequence confirmation, sum) (Some destination) all
    met_fine wrap now e (Ea destination number, sum) all = by_reference wrap now e (Ea destination number, sum) (Some destination) all
    met_fine wrap now e (Er destination cause rejected, sum) all = by_reference wrap now e (Er destination cause rejected, sum) (Some destination) all

    all_fine : (wrap : ℕ → ℕ → ℕ) (now : ℕ) (tpdus : List TpduAndSum) (e : Entity) → EndsFine e.ends → ActsFine e.own (all_met wrap now e from tpdus)
    all_fine wrap now [] e all = record { own_is = refl; ends = all; tpdus = tt }
    all_fine wrap now (tpdu ∷ tpdus) e all =
        let first = met_fine wrap now e tpdu all in
        let rest = all_fine wrap now tpdus (met wrap now e from tpdu).entity first.ends in
        record {
          own_is = rest.own_is ∙ first.own_is;
          ends = rest.ends;
          tpdus = all_both (λ sent. Fine sent.to) (met wrap now e from tpdu).tpdus (all_met wrap now (met wrap now e from tpdu).entity from tpdus).tpdus first.tpdus rest.tpdus;
        }

    pub hearing_fine : (wrap : ℕ → ℕ → ℕ) (now : ℕ) (e : Entity) (octets : List ℕ) (acted : Acted) → EndsFine e.ends → HearsUnit wrap now e from octets acted → ActsFine e.own acted
    hearing_fine wrap now e octets acted all h =
        let did = all_fine wrap now h.tpdus (at now e) all in
        record {
          own_is = ap (λ (x : Entity). x.own) h.entity ∙ did.own_is;
          ends = subst (λ (x : Entity). EndsFine x.ends) (sym h.entity) did.ends;
          tpdus = subst SentFine (sym h.tpdus_are) did.tpdus;
        }

    pub taking_fine : (wrap : ℕ → ℕ → ℕ) (now : ℕ) (e : Entity) (octets : List ℕ) (acted : Acted) → EndsFine e.ends → TakesUnit wrap now e from octets acted → ActsFine e.own acted
    taking_fine wrap now e octets acted all t = by (is_silent now e) t
      where
        by : (silent : Bool) → TakesBy silent wrap now e from octets acted → ActsFine e.own acted
        by true is = subst (ActsFine e.own) (sym is) (record { own_is = refl; ends = all; tpdus = tt })
        by false heard = hearing_fine wrap now e octets acted all heard
