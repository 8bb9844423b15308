-- What an entity does with a TPDU that it reads: nothing, or it answers it, or an end takes it, or a CR makes one. So what holds of each of these holds of it.
use Rattle.std.proofs.Common.{◌≡◌, ◌≢◌, ℕ, ◌==◌, Bool, true, false, List, [], ◌∷◌, Option, Some, None, refl, sym, subst}
use Rattle.std.specs.Prelude.{if◌then◌else◌, not}
use Rattle.std.specs.List.{list_any}
use Rattle.script_journal.specs.Lawful.{shown}
use Rattle.tpdu.specs.Values.{destination_of}
use Rattle.tpdu.specs.Writing.{kind_for}
use Rattle.tpdu.specs.declared.tpdu.Tpdu.{Tpdu as WireTpdu}
use Rattle.tpdu.specs.declared.tpdu.Tpdu.TheVariants as wires
use Rattle.tp4_number.specs.Number.{whole}
use Rattle.tp4_flow.specs.declared.step.EndEvent.{EndEvent}
use Rattle.tp4_flow.specs.declared.step.Sent.{Sent}
use Rattle.tp4_flow.specs.declared.step.What.TheVariants.{Unknown}
use Rattle.tp4_conn.specs.Agreeing.{proposed_in}
use Rattle.tp4_conn.specs.End.{End}
use Rattle.tp4_conn.specs.Making.{called_end, indicated}
use Rattle.tp4_conn.specs.Matching.{is_match}
use Rattle.tp4_conn.specs.Table.{Took, stepped}
use Rattle.tp4_conn.specs.declared.end_record.EndRecord.{EndRecord}
use Rattle.tp4_entity.specs.Association.{answer, is_called, is_registered, met, met_at, met_by, new_end, refusal, requested, unmatched}
use Rattle.tp4_entity.specs.Entity.{Acted, Entity, end_at, moved}
use Rattle.tp4_entity.specs.References.{least_free}
use Rattle.tp4_entity.proofs.Standings.{Free, free_least}
use Rattle.law_tp4_history.specs.Moves.{HasSource}
use Rattle.law_tp4_history.specs.Seen.{seen}
use Rattle.tp4_world.specs.Telling.{ends_after, events_after}
use Rattle.tp4_world.specs.declared.place.EndAt.{EndAt}
use Rattle.law_recovery_run.specs.Aside.{Names}

pub either : (P : Acted → Type 0) (b : Bool) (one other : Acted) → P one → P other → P (if b then one else other)
either P true one other p q = p
either P false one other p q = q

-- these events make no end, and show nothing
pub record TellNone (events : List EndEvent) : Type 0 where
  pub ends : (ends : List EndAt) (system : ℕ) → ends_after ends system events ≡ ends
  pub showed : (ends : List EndAt) (system : ℕ) (own : List ℕ) (x : ℕ) → shown x (events_after ends system own events) ≡ []

-- the TPDU answers another one: it goes back to the end that is named there, in no name
pub record IsAnswer (from : List ℕ) (t : WireTpdu) (sent : Sent) : Type 0 where
  pub source : ℕ
  pub names : Names source t
  pub to : sent.to ≡ from
  pub target : destination_of sent.tpdu ≡ Some source
  pub unnamed : (reference : ℕ) → reference ≢ 0 → Names reference sent.tpdu → ⊥
  pub sourced : HasSource (seen 0 sent.tpdu)

module _ (now : ℕ) (e : Entity) (from : List ℕ) (t : WireTpdu) (sum : Bool) (P : Acted → Type 0) (nothing : (events : List EndEvent) → TellNone events → P (record { entity = e; events = events; tpdus = [] }))
    (answered : (events : List EndEvent) (sent : Sent) → TellNone events → IsAnswer from t sent → P (record { entity = e; events = events; tpdus = sent ∷ [] }))
    (taken : (reference : ℕ) (o : End) → destination_of t ≡ Some reference → end_at e reference ≡ Some o → is_match o.base o.stage from t ≡ true → P (moved e reference (stepped whole now o (Took t sum))))
    (makes : (reference : ℕ) (base : EndRecord) (octets : List ℕ) → Free now reference e → base.own ≡ reference → P (moved e reference (indicated base octets))) where
  none_told : TellNone []
  none_told = record { ends = λ ends system. refl; showed = λ ends system own x. refl }

  unknown : (u : WireTpdu) → TellNone (record { reference = 0; what = Unknown (kind_for u) } ∷ [])
  unknown u = record { ends = λ ends system. refl; showed = λ ends system own x. refl }

  refused : (source reason : ℕ) → Names source t → IsAnswer from t (refusal from source reason)
  refused source reason names = record { to = refl; source = source; target = refl; names = names; unnamed = λ reference some is. some (sym is); sourced = λ kind. absurd (cc kind) }

  done : (destination source : ℕ) → Names source t → IsAnswer from t (answer from (wires.Dc source destination))
  done destination source names = record { to = refl; source = source; target = refl; names = names; unnamed = λ reference some is. is; sourced = λ kind. absurd (cc kind) }

  -- ---- no end takes it

  by_source : (events : List EndEvent) (destination source : ℕ) (b : Bool) → TellNone events → Names source t → P (record { entity = e; events = events; tpdus = if b then [] else answer from (wires.Dc source destination) ∷ [] })
  by_source events destination source true none names = nothing events none
  by_source events destination source false none names = answered events (answer from (wires.Dc source destination)) none (done destination source names)

  aside_of : (u : WireTpdu) → u ≡ t → P (unmatched e from u)
  aside_of (wires.Cc credit destination source width calling called size preferred extra version classes ack_time text) is =
      answered _ (refusal from source 132) (unknown (wires.Cc credit destination source width calling called size preferred extra version classes ack_time text)) (refused source 132 (subst (Names source) is refl))
  aside_of (wires.Dr destination source reason info text) is = by_source _ destination source (source == 0) (unknown (wires.Dr destination source reason info text)) (subst (Names source) is refl)
  aside_of other is = nothing _ (unknown other)

  -- ---- the end at its destination

  by_match : (reference : ℕ) (o : End) (b : Bool) → destination_of t ≡ Some reference → end_at e reference ≡ Some o → is_match o.base o.stage from t ≡ b
      → P (if b then moved e reference (stepped whole now o (Took t sum)) else unmatched e from t)
  by_match reference o true target stands match = taken reference o target stands match
  by_match reference o false target stands match = aside_of t refl

  by_place : (reference : ℕ) (place : Option End) → destination_of t ≡ Some reference → end_at e reference ≡ place → P (met_by whole now e from (t, sum) reference place)
  by_place reference None target stands = aside_of t refl
  by_place reference (Some o) target stands = by_match reference o (is_match o.base o.stage from t) target stands refl

  by_destination : (target : Option ℕ) → destination_of t ≡ target → P (met_at whole now e from (t, sum) target)
  by_destination None is = aside_of t refl
  by_destination (Some reference) is = by_place reference (end_at e reference) is refl

  -- ---- a CR

  made : (source : ℕ) (u : WireTpdu) (free : Option ℕ) → least_free now e ≡ free → Names source t → P (new_end now e from source u free)
  made source u None is names = answered [] (refusal from source 129) none_told (refused source 129 names)
  made source (wires.Cr credit from_reference width calling called size preferred extra version classes ack_time text) (Some reference) is names =
      makes reference (called_end now reference from e.timers credit from_reference calling called (proposed_in width size preferred extra)) text (free_least now reference e is) refl
  made source u (Some reference) is names = nothing [] none_told

  asked : (source : ℕ) (called : List ℕ) (u : WireTpdu) → Names source t → P (requested now e from source called u)
  asked source called u names =
      either P (list_any (is_called false from source) e.ends) _ _ (nothing [] none_told)
      (either P (list_any (is_called true from source) e.ends) _ _ (answered [] (refusal from source 131) none_told (refused source 131 names))
      (either P (not (is_registered e.selectors called)) _ _ (answered [] (refusal from source 3) none_told (refused source 3 names)) (made source u (least_free now e) refl names)))

  by_kind : (u : WireTpdu) → u ≡ t → P (met whole now e from (u, sum))
  by_kind (wires.Cr credit source width calling called size preferred extra version classes ack_time text) is =
      asked source called (wires.Cr credit source width calling called size preferred extra version classes ack_time text) (subst (Names source) is refl)
  by_kind u is = subst (λ (u : WireTpdu). P (met_at whole now e from (u, sum) (destination_of u))) (sym is) (by_destination (destination_of t) refl)

  pub met_cases : P (met whole now e from (t, sum))
  met_cases = by_kind t refl
