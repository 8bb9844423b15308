-- What users ask: a refusal alone, or what the entity does.
use Rattle.std.proofs.Common.{◌≡◌, ℕ, ◌+◌, Bool, true, false, List, [], ◌∷◌, ◌++◌, length, slice_get, slice_set, Option, Some, None, sym, ◌∙◌, ap, subst}
use Rattle.std.specs.Prelude.{◌≢◌}
use Rattle.std.specs.List.{position}
use Rattle.osi_base.specs.Link.{Link}
use Rattle.osi_base.specs.Calls.{Call}
use Rattle.script_journal.specs.declared.cause.Refused.{Refused}
use Rattle.script_journal.specs.declared.cause.Refused.TheVariants as refusals
use Rattle.script_journal.specs.declared.event.Event.{Event}
use Rattle.script_journal.specs.declared.event.Event.TheVariants as events
use Rattle.tp4_flow.specs.Told.{Told}
use Rattle.tp4_conn.specs.declared.call.ConnectRequest.{ConnectRequest}
use Rattle.tp4_conn.specs.declared.call.UserCall.{UserCall}
use Rattle.tp4_entity.specs.declared.refusal.ConnectRefusal.{ConnectRefusal}
use Rattle.tp4_entity.specs.declared.refusal.EntityRefusal.{EntityRefusal}
use Rattle.tp4_conn.specs.declared.call.CallRefusal.TheVariants as calls
use Rattle.tp4_entity.specs.declared.refusal.ConnectRefusal.TheVariants as connects
use Rattle.tp4_entity.specs.declared.refusal.EntityRefusal.TheVariants as entities
use Rattle.tp4_entity.specs.Entity.{Entity}
use Rattle.tp4_entity.specs.References.{least_free}
use Rattle.tp4_entity.specs.Step.{DoesSo, calling, connect_refusal, connecting, restarted, user_refusal}
use Rattle.tp4_world.proofs.Acting.{acts, nothing}
use Rattle.tp4_world.proofs.Entities.{changed_there, entity_there}
use Rattle.tp4_world.proofs.Places.{some_same}
use Rattle.tp4_world.specs.Run.{Acts, BeginsAt, Calls, CallsAt, CallsBy, CallsEnd, Connects, ConnectsBy, IsRefused, clock_of}
use Rattle.tp4_world.specs.Ended.{has_ended}
use Rattle.tp4_world.specs.Telling.{call_events, connect_event, told_connect, told_refusal}
use Rattle.tp4_world.specs.World.{World, end_numbered, entity_at, is_of, with_entity}
use Rattle.tp4_world.specs.declared.place.EndAt.{EndAt}
use Rattle.tp4_world.specs.declared.place.Placed.{Placed}
use Rattle.tp4_world.specs.steps.Parts.{ChangesAt, Follows, Tells, world_of}

-- want of memory is told by no line
pub connect_memory : (why : ConnectRefusal) (cause : Refused) → told_connect why ≡ Some cause → why ≢ connects.NoMemory
connect_memory why cause is e = let h : None ≡ Some cause = subst (λ (w : ConnectRefusal). told_connect w ≡ Some cause) e is in cc

pub call_memory : (why : EntityRefusal) (cause : Refused) → told_refusal why ≡ Some cause → why ≢ entities.Call calls.NoMemory
call_memory why cause is e = let h : None ≡ Some cause = subst (λ (w : EntityRefusal). told_refusal w ≡ Some cause) e is in cc

-- the entity at the place of a system begins again
pub restarts_there : (placed changed : List Placed) (system place now : ℕ) → position (is_of system) placed ≡ Some place → ChangesAt place placed changed (λ before after. after ≡ restarted now before)
    → (entity : Entity) × (entity_at placed system ≡ Some entity) × (changed ≡ with_entity placed system (restarted now entity))
restarts_there placed changed system place now found change =
    let one = change.one in (
      one.entity,
      entity_there placed system place one found change.at,
      change.becomes ∙ ap (λ (e : Entity). slice_set placed place (record one { entity = e })) change.does ∙ sym (changed_there placed system place one (restarted now one.entity) found change.at),
    )

module _ {C : Type 0} (link : C → Link (List ℕ)) (steps : C → Call (List ℕ) → C → Type 0) where
  -- the network of an entity that begins again
  pub restarted_world : (carrier : C) (placed changed : List Placed) (ends after : List EndAt) (system now : ℕ) (entity : Entity) → (link carrier).clock ≡ now
      → changed ≡ with_entity placed system (restarted now entity) → after ≡ ends
      → world_of carrier changed after ≡ record (world_of carrier placed ends) { entities = with_entity placed system (restarted (link carrier).clock entity) }
  restarted_world carrier placed changed ends after system now entity clock is same =
      λ i. record { carrier = carrier; entities = (is ∙ ap (λ (n : ℕ). with_entity placed system (restarted n entity)) (sym clock)) i; ends = same i }

  refused_as : (old new : World C) (why : Option Refused) (cause : Refused) (made : List Event) → why ≡ Some cause → made ≡ events.No cause ∷ [] → new ≡ old → IsRefused link steps old why made new
  refused_as old new why cause made is told same = subst (λ (w : Option Refused). IsRefused link steps old w made new) (sym is) (told, same)

  pub connect_refused : (carrier : C) (placed changed : List Placed) (ends : List EndAt) (system place now : ℕ) (request : ConnectRequest) (one : Placed) (why : ConnectRefusal) (cause : Refused) (made : List Event)
      → position (is_of system) placed ≡ Some place → slice_get placed place ≡ Some one → (link carrier).clock ≡ now → connect_refusal now one.entity request.octets ≡ Some why → changed ≡ placed
      → told_connect why ≡ Some cause → made ≡ events.No cause ∷ [] → Connects link steps (world_of carrier placed ends) system request made (world_of carrier changed ends)
  connect_refused carrier placed changed ends system place now request one why cause made found at clock refusal same told is = (
    one.entity,
    entity_there placed system place one found at,
    subst (λ (w : Option ConnectRefusal). ConnectsBy link steps (world_of carrier placed ends) system one.entity request w made (world_of carrier changed ends))
        (sym (subst (λ (n : ℕ). connect_refusal n one.entity request.octets ≡ Some why) (sym clock) refusal))
        (refused_as (world_of carrier placed ends) (world_of carrier changed ends) (told_connect why) cause made told is (ap (λ (ps : List Placed). world_of carrier ps ends) same)),
  )

  pub connect_begun : (carrier new : C) (placed changed : List Placed) (ends with_end after : List EndAt) (system place now reference number : ℕ) (own : List ℕ) (request : ConnectRequest) (was told : Told) (asked : Event)
      (mid made : List Event) → position (is_of system) placed ≡ Some place → ((one : Placed) → slice_get placed place ≡ Some one → own ≡ one.entity.own) → (link carrier).clock ≡ now → was ≡ nothing
      → ChangesAt place placed changed (λ entity next. (connect_refusal now entity request.octets ≡ None) × (least_free now entity ≡ Some reference) × DoesSo (connecting now entity reference request) next was told)
      → with_end ≡ ends ++ record { system = system; reference = reference } ∷ [] → number ≡ length ends + 1 → asked ≡ connect_event number system reference own request → mid ≡ asked ∷ []
      → Tells mid made (λ later. Follows link steps carrier with_end system own told later new after)
      → Connects link steps (world_of carrier placed ends) system request made (world_of new changed after)
  connect_begun carrier new placed changed ends with_end after system place now reference number own request was told asked mid made found owns clock start change added numbered is first tells =
      let one = change.one in
      let owned : own ≡ one.entity.own = owns one change.at in
      let did : Acts link steps (world_of carrier placed with_end) system one.entity.own (connecting now one.entity reference request) tells.made (world_of new changed after) =
      acts link steps carrier new placed changed with_end after system place own (connecting now one.entity reference request) one change.after was told tells.made found change.at change.becomes owned start change.does.2 tells.are in
      let line : made ≡ connect_event (length ends + 1) system reference one.entity.own request ∷ tells.made =
      tells.added ∙ ap (λ (xs : List Event). xs ++ tells.made) first
      ∙ ap (λ (e : Event). e ∷ tells.made) (is ∙ ap (λ (n : ℕ). connect_event n system reference own request) numbered ∙ ap (λ (o : List ℕ). connect_event (length ends + 1) system reference o request) owned) in (
        one.entity,
        entity_there placed system place one found change.at,
        subst (λ (w : Option ConnectRefusal). ConnectsBy link steps (world_of carrier placed ends) system one.entity request w made (world_of new changed after))
            (sym (subst (λ (n : ℕ). connect_refusal n one.entity request.octets ≡ None) (sym clock) change.does.0))
            (subst (λ (r : Option ℕ). BeginsAt link steps (world_of carrier placed ends) system one.entity request r made (world_of new changed after))
            (sym (subst (λ (n : ℕ). least_free n one.entity ≡ Some reference) (sym clock) change.does.1)) (
              tells.made,
              subst (λ (n : ℕ). Acts link steps (world_of carrier placed (ends ++ record { system = system; reference = reference } ∷ [])) system one.entity.own (connecting n one.entity reference request) tells.made (world_of new changed after)) (sym clock)
                  (subst (λ (es : List EndAt). Acts link steps (world_of carrier placed es) system one.entity.own (connecting now one.entity reference request) tells.made (world_of new changed after)) added did),
              line,
            )),
      )

  module _ (wrap : ℕ → ℕ → ℕ) where
    -- what a call of an end does by its entity
    abbrev pub CallsThere : World C → ℕ → EndAt → UserCall → List Event → World C → Type 0
    CallsThere old number end call made new =
        (entity : Entity) × (entity_at old.entities end.system ≡ Some entity) × CallsBy link steps wrap old number end entity call (user_refusal entity end.reference call) made new

    pub call_refused : (carrier : C) (placed changed : List Placed) (ends : List EndAt) (place number : ℕ) (end : EndAt) (call : UserCall) (one : Placed) (why : EntityRefusal) (cause : Refused) (made : List Event)
        → position (is_of end.system) placed ≡ Some place → slice_get placed place ≡ Some one → user_refusal one.entity end.reference call ≡ Some why → changed ≡ placed
        → told_refusal why ≡ Some cause → made ≡ events.No cause ∷ [] → CallsThere (world_of carrier placed ends) number end call made (world_of carrier changed ends)
    call_refused carrier placed changed ends place number end call one why cause made found at refusal same told is = (
      one.entity,
      entity_there placed end.system place one found at,
      subst (λ (w : Option EntityRefusal). CallsBy link steps wrap (world_of carrier placed ends) number end one.entity call w made (world_of carrier changed ends)) (sym refusal)
          (refused_as (world_of carrier placed ends) (world_of carrier changed ends) (told_refusal why) cause made told is (ap (λ (ps : List Placed). world_of carrier ps ends) same)),
    )

    pub call_done : (carrier new : C) (placed changed : List Placed) (ends after : List EndAt) (place now number : ℕ) (end : EndAt) (own : List ℕ) (call : UserCall) (was told : Told) (mid made : List Event)
        → position (is_of end.system) placed ≡ Some place → ((one : Placed) → slice_get placed place ≡ Some one → own ≡ one.entity.own) → (link carrier).clock ≡ now → was ≡ nothing
        → ChangesAt place placed changed (λ entity next. (user_refusal entity end.reference call ≡ None) × DoesSo (calling wrap now entity end.reference call) next was told)
        → mid ≡ call_events number call → Tells mid made (λ later. Follows link steps carrier ends end.system own told later new after)
        → CallsThere (world_of carrier placed ends) number end call made (world_of new changed after)
    call_done carrier new placed changed ends after place now number end own call was told mid made found owns clock start change first tells =
        let one = change.one in
        let did : Acts link steps (world_of carrier placed ends) end.system one.entity.own (calling wrap now one.entity end.reference call) tells.made (world_of new changed after) =
        acts link steps carrier new placed changed ends after end.system place own (calling wrap now one.entity end.reference call) one change.after was told tells.made found change.at change.becomes
        (owns one change.at) start change.does.1 tells.are in (
          one.entity,
          entity_there placed end.system place one found change.at,
          subst (λ (w : Option EntityRefusal). CallsBy link steps wrap (world_of carrier placed ends) number end one.entity call w made (world_of new changed after)) (sym change.does.0) (
            tells.made,
            subst (λ (n : ℕ). Acts link steps (world_of carrier placed ends) end.system one.entity.own (calling wrap n one.entity end.reference call) tells.made (world_of new changed after)) (sym clock) did,
            tells.added ∙ ap (λ (xs : List Event). xs ++ tells.made) first,
          ),
        )

    pub called_end : (old new : World C) (number : ℕ) (end : EndAt) (call : UserCall) (entity : Entity) (ended : Bool) (made : List Event) → end_numbered old.ends number ≡ Some end
        → entity_at old.entities end.system ≡ Some entity → has_ended (clock_of link steps old) old.ends number end entity ≡ ended → CallsEnd link steps wrap old number end entity call ended made new
        → Calls link steps wrap old number call made new
    called_end old new number end call entity ended made is there over h =
        subst (λ (e : Option EndAt). CallsAt link steps wrap old number call e made new) (sym is)
        (entity, there, subst (λ (b : Bool). CallsEnd link steps wrap old number end entity call b made new) (sym over) h)

    pub ended_refused : (carrier : C) (placed changed : List Placed) (ends : List EndAt) (place now number : ℕ) (end : EndAt) (call : UserCall) (one : Placed) (cause : Refused) (made : List Event)
        → end_numbered ends number ≡ Some end → position (is_of end.system) placed ≡ Some place → slice_get placed place ≡ Some one → (link carrier).clock ≡ now → has_ended now ends number end one.entity ≡ true
        → changed ≡ placed → Some refusals.Ended ≡ Some cause → made ≡ events.No cause ∷ [] → Calls link steps wrap (world_of carrier placed ends) number call made (world_of carrier changed ends)
    ended_refused carrier placed changed ends place now number end call one cause made is found at clock ended left same told =
        called_end (world_of carrier placed ends) (world_of carrier changed ends) number end call one.entity true made is (entity_there placed end.system place one found at)
        (subst (λ (n : ℕ). has_ended n ends number end one.entity ≡ true) (sym clock) ended)
        (told ∙ ap (λ (r : Refused). events.No r ∷ []) (sym (some_same refusals.Ended cause same)), ap (λ (ps : List Placed). world_of carrier ps ends) left)

    pub called_there : (carrier new : C) (placed changed : List Placed) (ends after : List EndAt) (place now number : ℕ) (end : EndAt) (call : UserCall) (one : Placed) (made : List Event)
        → end_numbered ends number ≡ Some end → position (is_of end.system) placed ≡ Some place → slice_get placed place ≡ Some one → (link carrier).clock ≡ now → has_ended now ends number end one.entity ≡ false
        → CallsThere (world_of carrier placed ends) number end call made (world_of new changed after) → Calls link steps wrap (world_of carrier placed ends) number call made (world_of new changed after)
    called_there carrier new placed changed ends after place now number end call one made is found at clock going h =
        let same : one.entity ≡ h.0 = some_same one.entity h.0 (sym (entity_there placed end.system place one found at) ∙ h.1) in
        called_end (world_of carrier placed ends) (world_of new changed after) number end call h.0 false made is h.1
        (subst (λ (n : ℕ). has_ended n ends number end h.0 ≡ false) (sym clock) (subst (λ (e : Entity). has_ended now ends number end e ≡ false) same going)) h.2
