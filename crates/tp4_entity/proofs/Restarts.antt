-- An entity that began again has no end. No other step changes when it did.
use Rattle.std.proofs.Common.{◌≡◌, ℕ, zero, suc, ◌-◌, ◌==◌, Bool, true, false, not, if◌then◌else◌, List, [], ◌∷◌, length, replicate, slice_get, Option, Some, None, refl, ap, ◌∙◌}
use Rattle.std.specs.List.{list_any}
use Rattle.std.specs.Prelude.{is_none, option_map}
use Rattle.tp4_conn.specs.Calls.{state_of}
use Rattle.tpdu.specs.Values.{TpduAndSum}
use Rattle.tpdu.specs.declared.tpdu.Tpdu.{Tpdu}
use Rattle.tpdu.specs.declared.tpdu.Tpdu.TheVariants as wires
use Rattle.tp4_conn.specs.End.{End, Moved}
use Rattle.tp4_conn.specs.Making.{on_cr}
use Rattle.tp4_conn.specs.Matching.{is_match}
use Rattle.tp4_conn.specs.declared.call.ConnectRequest.{ConnectRequest}
use Rattle.tp4_conn.specs.declared.call.UserCall.{UserCall}
use Rattle.tp4_entity.specs.Association.{calls, is_called, is_registered, met, met_at, met_by, new_end, requested}
use Rattle.tp4_entity.specs.Entity.{Acted, Entity, at, end_at, there}
use Rattle.tp4_entity.specs.References.{least_free}
use Rattle.tp4_entity.specs.Unit.{HearsUnit, all_met}
use Rattle.tp4_entity.specs.Step.{calling, calling_end, connecting, first_due, restarted, state_at, ticking, ticking_at, ticking_end}

none_at : (count place : ℕ) → there (slice_get (replicate count (let none : Option End = None in none)) place) ≡ None
none_at zero place = refl
none_at (suc count) zero = refl
none_at (suc count) (suc place) = none_at count place

pub none_stands : (now reference : ℕ) (e : Entity) → end_at (restarted now e) reference ≡ None
none_stands now reference e = by (reference == 0)
  where
    by : (b : Bool) → (if b then None else there (slice_get (replicate (length e.ends) None) (reference - 1))) ≡ None
    by true = refl
    by false = none_at (length e.ends) (reference - 1)

-- no state is told exactly where no end stands
pub no_state : (e : Entity) (reference : ℕ) → is_none (state_at e reference) ≡ is_none (end_at e reference)
no_state e reference = by (end_at e reference)
  where
    by : (place : Option End) → is_none (option_map (λ end. state_of end.stage) place) ≡ is_none place
    by None = refl
    by (Some end) = refl

abbrev pub Same : Entity → Acted → Type 0
Same e acted = acted.entity.restarted ≡ e.restarted

either : (e : Entity) (b : Bool) (one other : Acted) → Same e one → Same e other → Same e (if b then one else other)
either e true one other h k = h
either e false one other h k = k

pub connecting_same : (now reference : ℕ) (e : Entity) (request : ConnectRequest) → Same e (connecting now e reference request)
connecting_same now reference e request = refl

pub calling_same : (wrap : ℕ → ℕ → ℕ) (now reference : ℕ) (e : Entity) (call : UserCall) → Same e (calling wrap now e reference call)
calling_same wrap now reference e call = by (end_at e reference)
  where
    by : (place : Option End) → Same e (calling_end wrap now (at now e) reference call place)
    by None = refl
    by (Some end) = refl

pub ticking_same : (wrap : ℕ → ℕ → ℕ) (now : ℕ) (e : Entity) → Same e (ticking wrap now e)
ticking_same wrap now e = by (first_due now e)
  where
    end_by : (reference : ℕ) (place : Option End) → Same e (ticking_end wrap now (at now e) reference place)
    end_by reference None = refl
    end_by reference (Some end) = refl

    by : (due : Option ℕ) → Same e (ticking_at wrap now (at now e) due)
    by None = refl
    by (Some reference) = end_by reference (end_at e reference)

new_same : (now : ℕ) (e : Entity) (from : List ℕ) (source : ℕ) (cr : Tpdu) (place : Option ℕ) → Same e (new_end now e from source cr place)
new_same now e from source cr None = refl
new_same now e from source cr (Some reference) = by (on_cr now reference from e.timers cr)
  where
    by : (made : Option Moved) → Same e (calls e reference made)
    by None = refl
    by (Some m) = refl

requested_same : (now : ℕ) (e : Entity) (from : List ℕ) (source : ℕ) (called : List ℕ) (cr : Tpdu) → Same e (requested now e from source called cr)
requested_same now e from source called cr =
    either e (list_any (is_called false from source) e.ends) _ _ refl
    (either e (list_any (is_called true from source) e.ends) _ _ refl (either e (not (is_registered e.selectors called)) _ _ refl (new_same now e from source cr (least_free now e))))

met_at_same : (wrap : ℕ → ℕ → ℕ) (now : ℕ) (e : Entity) (from : List ℕ) (tpdu : TpduAndSum) (destination : Option ℕ) → Same e (met_at wrap now e from tpdu destination)
met_at_same wrap now e from tpdu None = refl
met_at_same wrap now e from tpdu (Some reference) = by (end_at e reference)
  where
    by : (place : Option End) → Same e (met_by wrap now e from tpdu reference place)
    by None = refl
    by (Some end) = either e (is_match end.base end.stage from tpdu.0) _ _ refl refl

pub met_same : (wrap : ℕ → ℕ → ℕ) (now : ℕ) (e : Entity) (from : List ℕ) (tpdu : TpduAndSum) → Same e (met wrap now e from tpdu)
met_same wrap now e from (wires.Cr credit source width calling called size preferred extra version classes ack_time text, sum) =
    requested_same now e from source called (wires.Cr credit source width calling called size preferred extra version classes ack_time text)
met_same wrap now e from (wires.Cc credit destination source width calling called size preferred extra version classes ack_time text, sum) = met_at_same wrap now e from (wires.Cc credit destination source width calling called size preferred extra version classes ack_time text, sum) (Some destination)
met_same wrap now e from (wires.Dr destination source reason info text, sum) = met_at_same wrap now e from (wires.Dr destination source reason info text, sum) (Some destination)
met_same wrap now e from (wires.Dc destination source, sum) = met_at_same wrap now e from (wires.Dc destination source, sum) (Some destination)
met_same wrap now e from (wires.Dt destination last number text, sum) = met_at_same wrap now e from (wires.Dt destination last number text, sum) (Some destination)
met_same wrap now e from (wires.Ed destination last number text, sum) = met_at_same wrap now e from (wires.Ed destination last number text, sum) (Some destination)
met_same wrap now e from (wires.Ak destination number credit subsequence confirmation, sum) = met_at_same wrap now e from (wires.Ak destination number credit subsequence confirmation, sum) (Some destination)
met_same wrap now e from (wires.Ea destination number, sum) = met_at_same wrap now e from (wires.Ea destination number, sum) (Some destination)
met_same wrap now e from (wires.Er destination cause rejected, sum) = met_at_same wrap now e from (wires.Er destination cause rejected, sum) (Some destination)

all_same : (wrap : ℕ → ℕ → ℕ) (now : ℕ) (e : Entity) (from : List ℕ) (tpdus : List TpduAndSum) → Same e (all_met wrap now e from tpdus)
all_same wrap now e from [] = refl
all_same wrap now e from (tpdu ∷ tpdus) = all_same wrap now (met wrap now e from tpdu).entity from tpdus ∙ met_same wrap now e from tpdu

pub hearing_same : (wrap : ℕ → ℕ → ℕ) (now : ℕ) (e : Entity) (from octets : List ℕ) (acted : Acted) → HearsUnit wrap now e from octets acted → Same e acted
hearing_same wrap now e from octets acted h = ap (λ (x : Entity). x.restarted) h.entity ∙ all_same wrap now (at now e) from h.tpdus
