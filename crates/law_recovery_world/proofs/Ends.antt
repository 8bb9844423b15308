-- Each step of an entity leaves its ends steady, and each CR and CC that it sends gives the credit of the timers.
use Rattle.std.specs.List.{list_any}
use Rattle.std.specs.Option.{unwrap_or}
use Rattle.std.proofs.Common.{◌≡◌, inl, inr, ◌≤◌, ◌==◌, ℕ, Bool, true, false, not, List, [], ◌∷◌, Option, Some, None, refl, sym, ap, subst}
use Rattle.std.proofs.lemmas.Option.{none-some}
use Rattle.tpdu.specs.Values.{TpduAndSum}
use Rattle.tpdu.specs.declared.tpdu.Tpdu.{Tpdu}
use Rattle.tpdu.specs.declared.tpdu.Tpdu.TheVariants.{Cr, Cc, Dr, Dc, Dt, Ed, Ak, Ea, Er}
use Rattle.tp4_number.specs.Number.{whole}
use Rattle.tp4_number.proofs.Past.{if_kept}
use Rattle.tp4_flow.specs.declared.step.Sent.{Sent}
use Rattle.tp4_sending.specs.SendingHalf.{FlowSender}
use Rattle.law_recovery_pair.specs.Viewing.{IsWithin}
use Rattle.tp4_conn.specs.Calls.{call_refusal}
use Rattle.tp4_conn.specs.End.{End, Moved, end_of}
use Rattle.tp4_conn.specs.Making.{connected, on_cr}
use Rattle.tp4_conn.specs.Matching.{is_match}
use Rattle.tp4_conn.specs.Table.{Event, Called, Took, Ticked, due, stepped}
use Rattle.tp4_conn.specs.declared.call.ConnectRequest.{ConnectRequest}
use Rattle.tp4_conn.specs.declared.call.UserCall.{UserCall}
use Rattle.tp4_conn.specs.declared.states.StateData.{StateData}
use Rattle.tp4_conn.specs.declared.states.StateData.TheVariants.{CrWait, AkWait, Opened}
use Rattle.tp4_conn.specs.declared.timers.Timers.{Timers}
use Rattle.law_tp4_rows.specs.Giving.{AllGive, EventGives, GivesCredit, GivesRow}
use Rattle.law_tp4_rows.proofs.GivingRows.{connect_gives, indicated_gives, row_gives}
use Rattle.law_recovery_ends.specs.Knowing.{RowKnows, StageKnows, ViewIn}
use Rattle.law_recovery_ends.proofs.Knowing.{row_knows}
use Rattle.tp4_entity.specs.Association.{answers, calls, is_called, is_registered, met, met_by, new_end, refusal, requested, stateless, unmatched}
use Rattle.tp4_entity.specs.Entity.{Acted, Entity, at, end_at, moved, with_end}
use Rattle.tp4_entity.specs.References.{least_free}
use Rattle.tp4_entity.specs.Step.{call_of, calling, calling_end, connecting, first_due, kept_end, ticking, ticking_at, ticking_end}
use Rattle.law_tp4_proper.proofs.Ends.{same_end, set_ends}
use Rattle.law_recovery_world.specs.Steady.{HasSteadyEnds, IsSteady, StageLate, StageMade, StageRises, StageUrges}
use Rattle.law_recovery_world.proofs.LateRows.{row_late}
use Rattle.law_recovery_world.proofs.Making.{row_made}
use Rattle.law_recovery_world.proofs.Rising.{row_rises}
use Rattle.law_recovery_world.proofs.Urging.{IsUnrefused, row_urges}

-- ---- an end

module _ (credit : ℕ) where
  within : (old : StateData) (event : Event) (t : FlowSender) → ViewIn credit old event t → IsWithin t
  within (AkWait w) event t (inl fresh) = fresh.edge
  within (AkWait w) event t (inr heard) = heard.edge
  within (Opened o) event t (inl keeps) = keeps.edge
  within (Opened o) event t (inr heard) = heard.edge
  within (CrWait w) event t fresh = fresh.edge
  within other event t fresh = fresh.edge

  stage_knows : (old : StateData) (event : Event) (new : StateData) → RowKnows credit old event new → StageKnows credit new
  stage_knows old event (AkWait w) row = row
  stage_knows old event (Opened o) row = within old event o.halves.sending row
  stage_knows old event other row = tt

module _ (credit now : ℕ) (low : credit ≤ 15) where
  abbrev Steady : End → Type 0
  Steady e = IsSteady credit now e.base e.stage

  -- an end did this
  record Does (m : Moved) : Type 0 where
    steady : Steady (end_of m)
    gives : AllGive credit m.tpdus

  row_does : (e : End) (event : Event) → IsUnrefused e event → Steady e → EventGives credit event → Does (stepped whole now e event)
  row_does e event allowed s is =
      let g : GivesRow credit (stepped whole now e event) = row_gives credit whole now e event s.gives is in
      let knew : RowKnows credit e.stage event (stepped whole now e event).stage = row_knows credit whole now e event s.gives is s.knows in
      record {
        steady = record {
          gives = g.gives;
          knows = stage_knows credit e.stage event (stepped whole now e event).stage knew;
          late = row_late credit now e event (subst (λ (n : ℕ). n ≤ 15) (sym s.gives.timers) low) s.gives.timers s.late;
          urges = row_urges now e event allowed s.urges;
          made = row_made now e event s.made;
          rises = row_rises credit now e event s.knows s.rises knew;
        };
        gives = g.tpdus;
      }

  -- ---- an entity

  -- it did this
  pub record Steps (acted : Acted) : Type 0 where
    pub ends : HasSteadyEnds credit now acted.entity
    pub gives : AllGive credit acted.tpdus

  moves : (e : Entity) (reference : ℕ) (m : Moved) → HasSteadyEnds credit now e → Does m → Steps (moved e reference m)
  moves e reference m all d = record {
    ends = set_ends Steady e reference (Some (end_of m)) all (λ end is. same_end Steady (end_of m) end d.steady is);
    gives = d.gives;
  }

  stays : (e : Entity) (tpdus : List Sent) → HasSteadyEnds credit now e → AllGive credit tpdus → Steps (answers e tpdus)
  stays e tpdus all give = record { ends = all; gives = give }

  pub connecting_steps : (reference : ℕ) (e : Entity) (request : ConnectRequest) → e.timers.credit ≡ credit → HasSteadyEnds credit now e → Steps (connecting now e reference request)
  connecting_steps reference e request is all =
      let g : GivesRow credit (connected now (call_of e reference request)) = connect_gives credit now (call_of e reference request) is in
      moves (at now e) reference (connected now (call_of e reference request)) all (record { steady = record { gives = g.gives; knows = tt; late = tt; urges = tt; made = tt; rises = tt }; gives = g.tpdus })

  -- the call is not refused
  abbrev pub IsAllowed : Entity → ℕ → UserCall → Type 0
  IsAllowed e reference call = (end : End) → end_at e reference ≡ Some end → call_refusal end.base end.stage call ≡ None

  called_end : (reference : ℕ) (e : Entity) (call : UserCall) (place : Option End) → IsAllowed e reference call → end_at e reference ≡ place → HasSteadyEnds credit now e
      → Steps (calling_end whole now e reference call place)
  called_end reference e call None allowed is all = record { ends = all; gives = tt }
  called_end reference e call (Some end) allowed is all = moves e reference (stepped whole now end (Called call)) all (row_does end (Called call) (allowed end is) (all reference end is) tt)

  pub calling_steps : (reference : ℕ) (e : Entity) (call : UserCall) → IsAllowed e reference call → HasSteadyEnds credit now e → Steps (calling whole now e reference call)
  calling_steps reference e call allowed all = called_end reference (at now e) call (end_at e reference) allowed refl all

  -- ---- a tick

  ticked_place : (e : Entity) (reference : ℕ) (m : Moved) (next : Option ℕ) → HasSteadyEnds credit now e → Does m
      → Steps (record { entity = with_end e reference (kept_end m next); events = m.events; tpdus = m.tpdus })
  ticked_place e reference m None all d = record { ends = set_ends Steady e reference None all (λ end is. absurd (none-some end is)); gives = d.gives }
  ticked_place e reference m (Some tick) all d = moves e reference m all d

  ticked_end : (e : Entity) (reference : ℕ) (place : Option End) → end_at e reference ≡ place → HasSteadyEnds credit now e → Steps (ticking_end whole now e reference place)
  ticked_end e reference None is all = record { ends = all; gives = tt }
  ticked_end e reference (Some end) is all =
      let m : Moved = stepped whole now end Ticked in
      ticked_place e reference m (due m.base m.stage) all (row_does end Ticked tt (all reference end is) tt)

  ticked_at : (e : Entity) (found : Option ℕ) → HasSteadyEnds credit now e → Steps (ticking_at whole now e found)
  ticked_at e None all = record { ends = all; gives = tt }
  ticked_at e (Some reference) all = ticked_end e reference (end_at e reference) refl all

  pub ticking_steps : (e : Entity) → HasSteadyEnds credit now e → Steps (ticking whole now e)
  ticking_steps e all = ticked_at (at now e) (first_due now e) all

  -- ---- a TPDU

  stateless_gives : (from : List ℕ) (tpdu : Tpdu) → AllGive credit (stateless from tpdu)
  stateless_gives from (Cc given destination source width calling called size preferred extra version classes ack_time text) = (tt, tt)
  stateless_gives from (Dr destination source reason info text) = if_kept (AllGive credit) (source == 0) _ _ (λ _. tt) (λ _. (tt, tt))
  stateless_gives from other = tt

  unmatched_steps : (e : Entity) (from : List ℕ) (tpdu : Tpdu) → HasSteadyEnds credit now e → Steps (unmatched e from tpdu)
  unmatched_steps e from tpdu all = record { ends = all; gives = stateless_gives from tpdu }

  met_end : (e : Entity) (from : List ℕ) (tpdu : Tpdu) (sum : Bool) (reference : ℕ) (place : Option End) → end_at e reference ≡ place → HasSteadyEnds credit now e → GivesCredit credit tpdu
      → Steps (met_by whole now e from (tpdu, sum) reference place)
  met_end e from tpdu sum reference None is all give = unmatched_steps e from tpdu all
  met_end e from tpdu sum reference (Some end) is all give =
      if_kept Steps (is_match end.base end.stage from tpdu) (moved e reference (stepped whole now end (Took tpdu sum))) (unmatched e from tpdu)
      (λ _. moves e reference (stepped whole now end (Took tpdu sum)) all (row_does end (Took tpdu sum) tt (all reference end is) give))
      (λ _. unmatched_steps e from tpdu all)

  some_same : (a b : Moved) → Some a ≡ Some b → a ≡ b
  some_same a b e = ap (λ (x : Option Moved). unwrap_or x a) e

  -- an end that a CR makes waits for its user
  waiting : (own : ℕ) (from : List ℕ) (rules : Timers) (cr : Tpdu) (m : Moved) → on_cr now own from rules cr ≡ Some m → StageKnows credit m.stage × StageLate credit now m.stage × StageUrges m.base.agreed m.stage × StageMade now m.base m.stage × StageRises credit m.stage
  waiting own from rules (Cr given source width calling called size preferred extra version classes ack_time text) m e =
      subst (λ (x : Moved). StageKnows credit x.stage × StageLate credit now x.stage × StageUrges x.base.agreed x.stage × StageMade now x.base x.stage × StageRises credit x.stage) (some_same _ m e) (tt, tt, tt, tt, tt)
  waiting own from rules other m e = absurd (none-some _ e)

  made_steps : (e : Entity) (reference : ℕ) (from : List ℕ) (cr : Tpdu) (made : Option Moved) → on_cr now reference from e.timers cr ≡ made → e.timers.credit ≡ credit → HasSteadyEnds credit now e
      → GivesCredit credit cr → Steps (calls e reference made)
  made_steps e reference from cr None is same all give = stays e [] all tt
  made_steps e reference from cr (Some m) is same all give =
      let g : GivesRow credit m = indicated_gives credit now reference from e.timers cr m same give is in
      let waits = waiting reference from e.timers cr m is in
      moves e reference m all (record { steady = record { gives = g.gives; knows = waits.0; late = waits.1; urges = waits.2; made = waits.3; rises = waits.4 }; gives = g.tpdus })

  new_steps : (e : Entity) (from : List ℕ) (source : ℕ) (cr : Tpdu) (found : Option ℕ) → e.timers.credit ≡ credit → HasSteadyEnds credit now e → GivesCredit credit cr
      → Steps (new_end now e from source cr found)
  new_steps e from source cr None same all give = stays e (refusal from source 129 ∷ []) all (tt, tt)
  new_steps e from source cr (Some reference) same all give = made_steps e reference from cr (on_cr now reference from e.timers cr) refl same all give

  requested_steps : (e : Entity) (from : List ℕ) (source : ℕ) (called : List ℕ) (cr : Tpdu) → e.timers.credit ≡ credit → HasSteadyEnds credit now e → GivesCredit credit cr
      → Steps (requested now e from source called cr)
  requested_steps e from source called cr same all give =
      if_kept Steps (list_any (is_called false from source) e.ends) _ _
      (λ _. stays e [] all tt)
      (λ _. if_kept Steps (list_any (is_called true from source) e.ends) _ _
      (λ _. stays e (refusal from source 131 ∷ []) all (tt, tt))
      (λ _. if_kept Steps (not (is_registered e.selectors called)) _ _
      (λ _. stays e (refusal from source 3 ∷ []) all (tt, tt))
      (λ _. new_steps e from source cr (least_free now e) same all give)))

  pub met_steps : (e : Entity) (from : List ℕ) (tpdu : TpduAndSum) → e.timers.credit ≡ credit → HasSteadyEnds credit now e → GivesCredit credit tpdu.0 → Steps (met whole now e from tpdu)
  met_steps e from (Cr given source width calling called size preferred extra version classes ack_time text, sum) same all give =
      requested_steps e from source called (Cr given source width calling called size preferred extra version classes ack_time text) same all give
  met_steps e from (Cc given destination source width calling called size preferred extra version classes ack_time text, sum) same all give =
      met_end e from (Cc given destination source width calling called size preferred extra version classes ack_time text) sum destination (end_at e destination) refl all give
  met_steps e from (Dr destination source reason info text, sum) same all give = met_end e from (Dr destination source reason info text) sum destination (end_at e destination) refl all tt
  met_steps e from (Dc destination source, sum) same all give = met_end e from (Dc destination source) sum destination (end_at e destination) refl all tt
  met_steps e from (Dt destination last number text, sum) same all give = met_end e from (Dt destination last number text) sum destination (end_at e destination) refl all tt
  met_steps e from (Ed destination last number text, sum) same all give = met_end e from (Ed destination last number text) sum destination (end_at e destination) refl all tt
  met_steps e from (Ak destination number given subsequence confirmation, sum) same all give =
      met_end e from (Ak destination number given subsequence confirmation) sum destination (end_at e destination) refl all tt
  met_steps e from (Ea destination number, sum) same all give = met_end e from (Ea destination number) sum destination (end_at e destination) refl all tt
  met_steps e from (Er destination cause rejected, sum) same all give = met_end e from (Er destination cause rejected) sum destination (end_at e destination) refl all tt
