-- What holds of the associations of a network in which nothing is lost, and all is handed over in order before a user or the clock acts (X.224,
-- class 4: association of TPDUs with connections; class 4 state tables).
use Rattle.std.specs.Prelude.{◌≡◌, ◌⊎◌, ℕ, ◌+◌, Bool, true, not, List, [], ◌∷◌, ◌++◌, length, map, slice_get, slice_set, Some, None, ◌↔◌}
use Rattle.tpdu.specs.Kinds.{has_number}
use Rattle.tpdu.specs.Writing.{kind_for}
use Rattle.tp4_number.specs.Number.{whole}
use Rattle.tpdu.specs.declared.service.Options.{Options}
use Rattle.tp4_conn.specs.Calls.{IsCall}
use Rattle.tp4_conn.specs.End.{End, IsSized, end_of}
use Rattle.tp4_conn.specs.Proper.{IsProperCall}
use Rattle.tp4_conn.specs.Table.{Called, Ticked, due, stepped}
use Rattle.tp4_conn.specs.declared.call.ConnectRequest.{ConnectRequest}
use Rattle.tp4_conn.specs.declared.call.UserCall.{UserCall}
use Rattle.tp4_conn.specs.declared.states.InCrWait.{InCrWait}
use Rattle.tp4_conn.specs.declared.states.StateData.TheVariants.{CrWait, UserWait}
use Rattle.tp4_conn.specs.declared.timers.Timers.{Timers}
use Rattle.tp4_entity.specs.Association.{met}
use Rattle.tp4_entity.specs.Entity.{Entity, at, end_at}
use Rattle.tp4_entity.specs.References.{least_free}
use Rattle.tp4_entity.specs.Step.{call_of, calling, connecting, first_due, kept_end, ticking, user_refusal}
use Rattle.law_tp4_pair.specs.Pair.{Accepts}
use Rattle.law_tp4_pair.specs.Standing.{HasLeft}
use Rattle.tp4_world.specs.World.{entity_at, with_entity, World, end_numbered}
use Rattle.tp4_world.specs.declared.place.Placed.{Placed}
use Rattle.law_tp4_associations.specs.Association.{Association, Posted, cleared, post, system_of, with_party}
use Rattle.law_tp4_associations.specs.Standing.{IsParty, Standing}
use Rattle.law_tp4_associations.specs.Handing.{AreProperEnds, Hands, IsFormatted, requested_by}
use Rattle.osi_base.specs.Link.{Link}
use Rattle.osi_base.specs.Calls.{Call}
use Rattle.script_journal.specs.declared.cause.Refused.TheVariants as refusals
use Rattle.script_journal.specs.declared.event.Event.{Event}
use Rattle.script_journal.specs.declared.event.Event.TheVariants as events
use Rattle.script_lines.specs.declared.line.Line.{Line}
use Rattle.script_lines.specs.declared.line.Line.TheVariants as lines
use Rattle.tp4_world.specs.Called.{Did, DidAll, WorldCall}
use Rattle.tp4_world.specs.Called as requests
use Rattle.tp4_world.specs.Run.{RunsLine, RunsLines, clock_of}
use Rattle.tp4_world.specs.Ended.{has_ended}
use Rattle.tp4_world.specs.declared.place.EndAt.{EndAt}
use Rattle.law_tp4_associations.specs.Ended.{EndedSince, HasNoEnds, end_called}

module _ (timers : Timers) (own : ℕ → List ℕ) where
  -- what waits first is handed over
  abbrev pub Handed : Type 0
  Handed = (now : ℕ) (entities : List Placed) (all : List Association) (posted : Posted) (rest : List Posted) (e : Entity) (a : Association)
      → Standing timers own now entities all (posted ∷ rest) → AreProperEnds entities → slice_get all posted.of ≡ Some a → entity_at entities (system_of a (not posted.by)) ≡ Some e
      → Hands timers own now entities all posted rest e a (met whole now (at now e) (own (system_of a posted.by)) (posted.sent.tpdu, posted.sent.sum))

  -- it goes to the other side's system
  abbrev pub Addressed : Type 0
  Addressed = (now : ℕ) (entities : List Placed) (all : List Association) (posted : Posted) (rest : List Posted) (a : Association)
      → Standing timers own now entities all (posted ∷ rest) → slice_get all posted.of ≡ Some a → posted.sent.to ≡ own (system_of a (not posted.by))

  abbrev pub Formatted : Type 0
  Formatted = (now : ℕ) (entities : List Placed) (all : List Association) (posted : Posted) (rest : List Posted) (e : Entity) (a : Association)
      → Standing timers own now entities all (posted ∷ rest) → slice_get all posted.of ≡ Some a → entity_at entities (system_of a (not posted.by)) ≡ Some e
      → has_number (kind_for posted.sent.tpdu) ≡ true → IsFormatted timers own e posted

  -- a connect request, where nothing waits
  abbrev pub Connected : Type 0
  Connected = (now : ℕ) (entities : List Placed) (all : List Association) (system : ℕ) (e : Entity) (reference : ℕ) (request : ConnectRequest) (to : ℕ) (f : Entity)
      → Standing timers own now entities all [] → AreProperEnds entities → entity_at entities system ≡ Some e → least_free now e ≡ Some reference → IsProperCall (call_of e reference request)
      → request.to ≡ own to → entity_at entities to ≡ Some f
      → Standing timers own now (with_entity entities system (connecting now e reference request).entity) (map (cleared system reference) all ++ requested_by timers own now e system reference request to ∷ [])
      (post (length all) true (connecting now e reference request).tpdus)

  -- a call on an end, where nothing waits
  abbrev pub WasCalled : Type 0
  WasCalled = (now : ℕ) (entities : List Placed) (all : List Association) (k : ℕ) (by : Bool) (system reference : ℕ) (end : End) (p : IsParty all k by system reference end) (e : Entity) (call : UserCall)
      → Standing timers own now entities all [] → AreProperEnds entities → entity_at entities system ≡ Some e → end_at e reference ≡ Some end → user_refusal e reference call ≡ None → IsCall call
      → let m = stepped whole now end (Called call) in
      Standing timers own now (with_entity entities system (calling whole now e reference call).entity) (slice_set all k (with_party p.a by (Some (end_of m)))) (post k by m.tpdus)

  -- a tick, where nothing waits: `IsTicking now entities before all queue`, where some ends ticked at now + 1
  pub record Ticks (IsTicking : ℕ → List Placed → List Association → List Association → List Posted → Type 0) : Type 0 where
    pub begins : (now : ℕ) (entities : List Placed) (all : List Association) → Standing timers own now entities all [] → AreProperEnds entities → IsTicking now entities all all []
    pub one : (now : ℕ) (entities : List Placed) (before all : List Association) (queue : List Posted) (system : ℕ) (e : Entity) (reference : ℕ) → IsTicking now entities before all queue → AreProperEnds entities
        → entity_at entities system ≡ Some e → first_due (now + 1) e ≡ Some reference
        → (k : ℕ) × (by : Bool) × (end : End) × (end_at e reference ≡ Some end) × (p : IsParty all k by system reference end)
        × (let m = stepped whole (now + 1) end Ticked in
        IsTicking now (with_entity entities system (ticking whole (now + 1) e).entity) before (slice_set all k (with_party p.a by (kept_end m (due m.base m.stage)))) (queue ++ post k by m.tpdus))
    pub clock : (now clock : ℕ) (entities : List Placed) (before all : List Association) (queue : List Posted) (system : ℕ) (e : Entity) → IsTicking now entities before all queue
        → entity_at entities system ≡ Some e → IsTicking now (with_entity entities system (at clock e)) before all queue
    pub ends : (now : ℕ) (entities : List Placed) (before all : List Association) (queue : List Posted) → IsTicking now entities before all queue
        → ((system : ℕ) (e : Entity) → entity_at entities system ≡ Some e → first_due (now + 1) e ≡ None) → Standing timers own (now + 1) entities all queue

  -- where nothing waits, a called end whose user has not answered has a calling end that waits for the answer, or has left
  abbrev pub Answerable : Type 0
  Answerable = (now : ℕ) (entities : List Placed) (all : List Association) (k : ℕ) (a : Association) (x y : End) (since : ℕ) → Standing timers own now entities all [] → slice_get all k ≡ Some a
      → a.calling ≡ Some x → a.called ≡ Some y → y.stage ≡ UserWait since → HasLeft x.stage ⊎ ((r : InCrWait) × (x.stage ≡ CrWait r))

  abbrev pub MayAccept : Type 0
  MayAccept = (now : ℕ) (entities : List Placed) (all : List Association) (k : ℕ) (a : Association) (x y : End) (since : ℕ) (r : InCrWait) (asked : Options) → Standing timers own now entities all []
      → AreProperEnds entities → slice_get all k ≡ Some a → a.calling ≡ Some x → a.called ≡ Some y → y.stage ≡ UserWait since → x.stage ≡ CrWait r → IsSized asked
      → Accepts (record { clock = now; calling = x; called = y; forth = []; back = []; calling_gave = []; called_gave = []; calling_showed = []; called_showed = []; calling_told = []; called_told = [] }) asked

-- ---- a call is refused as `wrongstate ended` exactly where its end has ended, by the run so far (X.224, frozen references)

-- ---- over lines

-- Over any carrier, whatever it loses, repeats, delays and reorders, and whatever is injected: after lines of a network that began without an end,
-- an end counts as ended exactly where its reference was free once since it was made, or its system began again since. `wrap` is what a receiving
-- half keeps of a number, by its block
abbrev pub TellsWhatEnded : {C : Type 0} → (C → Link (List ℕ)) → (C → Call (List ℕ) → C → Type 0) → Type 0
TellsWhatEnded {C} link steps =
    (wrap : ℕ → ℕ → ℕ) (titles : List (List ℕ)) (first : World C) (script : List Line) (journal : List Event) (last : World C) (number : ℕ) (place : EndAt) (entity : Entity)
    → HasNoEnds first → RunsLines link steps wrap titles first script journal last
    → end_numbered last.ends number ≡ Some place → entity_at last.entities place.system ≡ Some entity
    → (has_ended (clock_of link steps last) last.ends number place entity ≡ true) ↔ EndedSince link steps (RunsLines link steps wrap titles) lines.Restart first script journal last number place

-- so a line that calls it next is answered by `wrongstate ended` then, and only then
abbrev pub AnswersEnded : {C : Type 0} → (C → Link (List ℕ)) → (C → Call (List ℕ) → C → Type 0) → Type 0
AnswersEnded {C} link steps =
    (wrap : ℕ → ℕ → ℕ) (titles : List (List ℕ)) (first : World C) (script : List Line) (journal : List Event) (last : World C) (number : ℕ) (place : EndAt)
    (line : Line) (made : List Event) (new : World C)
    → HasNoEnds first → RunsLines link steps wrap titles first script journal last → end_numbered last.ends number ≡ Some place
    → end_called line ≡ Some number → RunsLine link steps wrap titles last line made new
    → (made ≡ events.No refusals.Ended ∷ []) ↔ EndedSince link steps (RunsLines link steps wrap titles) lines.Restart first script journal last number place

-- ---- over calls

-- the same after any calls of such a network
abbrev pub CallsTellWhatEnded : {C : Type 0} → (C → Link (List ℕ)) → (C → Call (List ℕ) → C → Type 0) → Type 0
CallsTellWhatEnded {C} link steps =
    (wrap : ℕ → ℕ → ℕ) (first : World C) (calls : List WorldCall) (journal : List Event) (last : World C) (number : ℕ) (place : EndAt) (entity : Entity)
    → HasNoEnds first → DidAll link steps wrap first calls journal last
    → end_numbered last.ends number ≡ Some place → entity_at last.entities place.system ≡ Some entity
    → (has_ended (clock_of link steps last) last.ends number place entity ≡ true) ↔ EndedSince link steps (DidAll link steps wrap) requests.Restart first calls journal last number place

-- so a user who calls it next is answered by `wrongstate ended` then, and only then
abbrev pub CallsAnswerEnded : {C : Type 0} → (C → Link (List ℕ)) → (C → Call (List ℕ) → C → Type 0) → Type 0
CallsAnswerEnded {C} link steps =
    (wrap : ℕ → ℕ → ℕ) (first : World C) (calls : List WorldCall) (journal : List Event) (last : World C) (number : ℕ) (place : EndAt)
    (call : UserCall) (made : List Event) (new : World C)
    → HasNoEnds first → DidAll link steps wrap first calls journal last → end_numbered last.ends number ≡ Some place
    → Did link steps wrap last (requests.Ask number call) made new
    → (made ≡ events.No refusals.Ended ∷ []) ↔ EndedSince link steps (DidAll link steps wrap) requests.Restart first calls journal last number place
