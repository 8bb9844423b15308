-- The place of one end, which is Opened and up to date, after each step of an entity: it is there still, unless the step is one of that end and leaves it otherwise.
use Rattle.std.specs.List.{list_any}
use Rattle.std.specs.Option.{unwrap_or}
use Rattle.std.proofs.Common.{◌≡◌, inl, inr, ℕ, ◌+◌, ◌≤◌, not, Bool, true, false, List, [], ◌∷◌, ◌++◌, Option, Some, None, refl, sym, ◌∙◌, ap, subst, arith}
use Rattle.std.proofs.lemmas.Bool.{cases_eq}
use Rattle.std.proofs.lemmas.Option.{none-some}
use Rattle.tpdu.specs.Values.{TpduAndSum, destination_of}
use Rattle.tpdu.specs.declared.tpdu.Tpdu.{Tpdu}
use Rattle.tpdu.specs.declared.tpdu.Tpdu.TheVariants.{Cr, Cc, Dr, Dc, Dt, Ed, Ak, Ea, Er}
use Rattle.tp4_number.specs.Number.{whole}
use Rattle.tp4_number.proofs.Past.{if_kept}
use Rattle.tp4_flow.specs.declared.step.EndEvent.{EndEvent}
use Rattle.tp4_flow.specs.declared.step.What.{What}
use Rattle.tp4_flow.specs.declared.step.What.TheVariants as whats
use Rattle.tp4_sending.specs.SendingHalf.{due_of}
use Rattle.tp4_sending.specs.Pieces.{sooner}
use Rattle.tp4_conn.specs.End.{End, Moved, end_of, frozen_for}
use Rattle.tp4_conn.specs.Making.{connected, on_cr}
use Rattle.tp4_conn.specs.Matching.{is_match}
use Rattle.tp4_conn.specs.Table.{Event, Called, Took, Ticked, due, stepped}
use Rattle.tp4_conn.specs.declared.call.ConnectRequest.{ConnectRequest}
use Rattle.tp4_conn.specs.declared.call.UserCall.{UserCall}
use Rattle.tp4_conn.specs.declared.end_record.EndRecord.{EndRecord}
use Rattle.tp4_conn.specs.declared.states.InOpened.{InOpened}
use Rattle.tp4_conn.specs.declared.states.StateData.{StateData}
use Rattle.tp4_conn.specs.declared.states.StateData.TheVariants.{Opened}
use Rattle.tp4_conn.specs.declared.timers.Timers.{Timers}
use Rattle.tp4_entity.specs.Association.{calls, is_called, is_registered, met, met_by, new_end, requested, unmatched}
use Rattle.tp4_entity.specs.Entity.{Acted, Entity, at, end_at, moved, with_end}
use Rattle.tp4_entity.specs.References.{is_free_place, least_free, was_frozen}
use Rattle.tp4_entity.specs.Step.{call_of, calling, calling_end, connecting, first_due, kept_end, ticking, ticking_at, ticking_end}
use Rattle.tp4_entity.proofs.Standings.{free_least}
use Rattle.script_journal.specs.declared.event.Event.{Event as Told}
use Rattle.law_tp4_history.specs.Tracks.{Whole}
use Rattle.tp4_world.specs.Telling.{ends_after, ends_with}
use Rattle.tp4_world.specs.World.{entity_at, latest, with_entity}
use Rattle.tp4_world.specs.declared.place.EndAt.{EndAt}
use Rattle.tp4_world.specs.declared.place.Placed.{Placed}
use Rattle.tp4_world.proofs.Entities.{with_found}
use Rattle.law_tp4_lawful.proofs.Acting.{IsLike}
use Rattle.law_tp4_lawful.proofs.Acts.{stage_of}
use Rattle.law_tp4_lawful.proofs.ActsRows.{AreTold, row_of}
use Rattle.law_tp4_lawful.proofs.ActsTold.{ends_stay}
use Rattle.law_tp4_lawful.proofs.Frames.{entity_other, place_other, place_there, same_ends}
use Rattle.law_tp4_lawful.proofs.Known.{IsKnown, IsThere, Known}
use Rattle.law_tp4_lawful.proofs.MakesPlaces.{at_other}
use Rattle.law_tp4_lawful.proofs.WorldPlaces.{some_same}
use Rattle.law_recovery_world.proofs.Seeing.{latest_other}
use Rattle.law_recovery_steps.specs.Since.{IsUpToDate}

-- ---- the latest end

one_apart : (ends : List EndAt) (system other reference : ℕ) (told : EndEvent) (what : What) → (other ≡ system → ⊥) → latest (ends_with ends system told what) other reference ≡ latest ends other reference
one_apart ends system other reference told (whats.Incoming from partner calling called options octets) apart = latest_other ends system told.reference other reference (λ same also. apart (sym same))
one_apart ends system other reference told what apart = refl

-- the ends of another system
latest_apart : (ends : List EndAt) (system other reference : ℕ) (events : List EndEvent) → (other ≡ system → ⊥) → latest (ends_after ends system events) other reference ≡ latest ends other reference
latest_apart ends system other reference [] apart = refl
latest_apart ends system other reference (told ∷ events) apart =
    latest_apart (ends_with ends system told told.what) system other reference events apart ∙ one_apart ends system other reference told told.what apart

-- ---- one end

pub record IsUp (timers : Timers) (s : ℕ) (e : End) : Type 0 where
  pub o : InOpened
  pub stage : e.stage ≡ Opened o
  pub since : IsUpToDate timers s o

-- the end of that number stands there, is Opened, and up to date since tick s
pub record IsAt (timers : Timers) (s : ℕ) (entities : List Placed) (ends : List EndAt) (n system reference : ℕ) : Type 0 where
  pub entity : Entity
  pub there : entity_at entities system ≡ Some entity
  pub e : End
  pub stands : end_at entity reference ≡ Some e
  pub number : latest ends system reference ≡ n
  pub up : IsUp timers s e

open_unfrozen : (stage : StateData) (o : InOpened) (now ticks : ℕ) → stage ≡ Opened o → was_frozen now ticks stage ≡ false
open_unfrozen stage o now ticks is = ap (was_frozen now ticks) is

-- an Opened end has its next tick
some_due : (a b : ℕ) (c : Option ℕ) → (tick : ℕ) × (sooner (sooner (Some a) (Some b)) c ≡ Some tick)
some_due a b None = (_, refl)
some_due a b (Some tick) = (_, refl)

due_there : (b : EndRecord) (stage : StateData) (o : InOpened) → stage ≡ Opened o → (tick : ℕ) × (due b stage ≡ Some tick)
due_there b stage o is =
    let found = some_due (o.took + b.timers.inactive) (o.acked + b.timers.window) (due_of o.halves.sending) in
    (found.0, ap (due b) is ∙ found.1)

module _ (titles : List (List ℕ)) (timers : Timers) (w : Whole) (journal : List Told) (entities : List Placed) (ends : List EndAt) (known : Known titles timers w journal entities ends)
    (system : ℕ) (entity : Entity) (is : entity_at entities system ≡ Some entity) (s n place_system place : ℕ) (here : IsAt timers s entities ends n place_system place) where
  abbrev pub After : Entity → List EndAt → Type 0
  After new after = IsAt timers s (with_entity entities system new) after n place_system place

  entity_is : place_system ≡ system → here.entity ≡ entity
  entity_is same = some_same here.entity entity (sym here.there ∙ ap (entity_at entities) same ∙ is)

  pub stands_here : place_system ≡ system → end_at entity place ≡ Some here.e
  stands_here same = ap (λ (x : Entity). end_at x place) (sym (entity_is same)) ∙ here.stands

  elsewhere : (new : Entity) (after : List EndAt) → (place_system ≡ system → ⊥) → latest after place_system place ≡ latest ends place_system place → After new after
  elsewhere new after apart same = record {
    entity = here.entity;
    there = entity_other entities system place_system new apart ∙ here.there;
    e = here.e;
    stands = here.stands;
    number = same ∙ here.number;
    up = here.up;
  }

  at_place : (new : Entity) (after : List EndAt) (e : End) → place_system ≡ system → end_at new place ≡ Some e → latest after system place ≡ latest ends system place → IsUp timers s e → After new after
  at_place new after e same stands number up = record {
    entity = new;
    there = ap (entity_at (with_entity entities system new)) same ∙ with_found entities system entity new is;
    e = e;
    stands = stands;
    number = ap (λ (k : ℕ). latest after k place) same ∙ number ∙ ap (λ (k : ℕ). latest ends k place) (sym same) ∙ here.number;
    up = up;
  }

  -- nothing moved
  pub none_after : (new : Entity) (after : List EndAt) → new.ends ≡ entity.ends → after ≡ ends → After new after
  none_after new after same after_is = elim (cases_eq place_system system) [
    | inl at_it ↦ at_place new after here.e at_it (same_ends entity new same place ∙ stands_here at_it) (ap (λ (xs : List EndAt). latest xs system place) after_is) here.up
    | inr apart ↦ elsewhere new after apart (ap (λ (xs : List EndAt). latest xs place_system place) after_is)
  ]

  -- a row of an end
  module _ (reference : ℕ) (e : End) (stands : end_at entity reference ≡ Some e) (event : Event) where
    abbrev m : Moved
    m = stepped whole w.base.clock e event

    kn : IsKnown w entity.own reference e
    kn = subst (IsThere w entity.own reference) stands ((known.holds system entity is).there reference)

    told : AreTold reference m.events
    told = subst (λ (r : ℕ). AreTold r m.events) (sym kn.sees.reference ∙ kn.at.reference_is)
        (row_of whole w.base.clock e.base.own e event (refl, stage_of (w.base.end kn.k).birth (w.base.end kn.k).took (w.base.end kn.k).latest e.base e.stage kn.sees.state)).told

    ends_same : ends_after ends system m.events ≡ ends
    ends_same = ends_stay system entity.own ends reference m.events told

    -- if it is that end, it is so still
    abbrev pub Keeps : Option End → Type 0
    Keeps next = place_system ≡ system → place ≡ reference → IsUp timers s e → (next ≡ Some (end_of m)) × IsUp timers s (end_of m)

    pub row_after : (b : Entity) → IsLike w.base.clock entity b → (next : Option End) → Keeps next → After (with_end b reference next) (ends_after ends system m.events)
    row_after b like next keeps = elim (cases_eq place_system system) [
      | inl at_it ↦ elim (cases_eq place reference) [
        | inl same ↦
            (let e_is : here.e ≡ e = some_same here.e e (sym (stands_here at_it) ∙ ap (end_at entity) same ∙ stands) in
            let kept = keeps at_it same (subst (IsUp timers s) e_is here.up) in
            at_place (with_end b reference next) (ends_after ends system m.events) (end_of m) at_it
            (ap (end_at (with_end b reference next)) same ∙ place_there w.base.clock entity b like reference e stands next ∙ kept.0)
            (ap (λ (xs : List EndAt). latest xs system place) ends_same) kept.1)
        | inr apart ↦
            at_place (with_end b reference next) (ends_after ends system m.events) here.e at_it
            (place_other w.base.clock entity b like reference e stands next place apart ∙ stands_here at_it) (ap (λ (xs : List EndAt). latest xs system place) ends_same) here.up
      ]
      | inr apart ↦ elsewhere (with_end b reference next) (ends_after ends system m.events) apart (ap (λ (xs : List EndAt). latest xs place_system place) ends_same)
    ]

  -- a new end, at a free reference
  pub new_after : (b : Entity) (reference : ℕ) (x : End) → b.ends ≡ entity.ends → 1 ≤ reference → is_free_place w.base.clock (end_at b reference) ≡ true
      → After (with_end b reference (Some x)) (ends ++ record { system = system; reference = reference } ∷ [])
  new_after b reference x same least free = elim (cases_eq place_system system) [
    | inl at_it ↦ elim (cases_eq place reference) [
      | inl one ↦ absurd (taken at_it one)
      | inr apart ↦
          at_place (with_end b reference (Some x)) (ends ++ record { system = system; reference = reference } ∷ []) here.e at_it
          (at_other b reference place (Some x) least apart ∙ same_ends entity b same place ∙ stands_here at_it) (latest_other ends system reference system place (λ also other. apart (sym other))) here.up
    ]
    | inr apart ↦ elsewhere (with_end b reference (Some x)) (ends ++ record { system = system; reference = reference } ∷ []) apart (latest_other ends system reference place_system place (λ also other. apart (sym also)))
  ]
    where
      never : (b : Bool) → b ≡ true → b ≡ false → ⊥
      never b sure none = cc (sym sure ∙ none)

      taken : place_system ≡ system → place ≡ reference → ⊥
      taken at_it one =
          let there : end_at b reference ≡ Some here.e = ap (end_at b) (sym one) ∙ same_ends entity b same place ∙ stands_here at_it in
          never (is_free_place w.base.clock (end_at b reference)) free
          (ap (is_free_place w.base.clock) there ∙ open_unfrozen here.e.stage here.up.o w.base.clock (frozen_for here.e.base.timers) here.up.stage)

  -- ---- what entities do

  abbrev pub AfterIt : Acted → Type 0
  AfterIt acted = After acted.entity (ends_after ends system acted.events)

  abbrev now_here : Entity
  now_here = at w.base.clock entity

  like_here : IsLike w.base.clock entity now_here
  like_here = record { own = refl; timers = refl; ends = refl; restarted = refl; clock = omega arith }

  like_same : IsLike w.base.clock entity entity
  like_same = record { own = refl; timers = refl; ends = refl; restarted = refl; clock = (known.holds system entity is).clock }

  -- what the row of that end does
  abbrev pub KeepsRow : Event → Type 0
  KeepsRow event = IsUp timers s (end_of (stepped whole w.base.clock here.e event))

  row_keeps : (reference : ℕ) (e : End) (stands : end_at entity reference ≡ Some e) (event : Event) → (place_system ≡ system → place ≡ reference → KeepsRow event) → place_system ≡ system → place ≡ reference
      → IsUp timers s (end_of (stepped whole w.base.clock e event))
  row_keeps reference e stands event keeps at_it same =
      let e_is : here.e ≡ e = some_same here.e e (sym (stands_here at_it) ∙ ap (end_at entity) same ∙ stands) in
      subst (λ (x : End). IsUp timers s (end_of (stepped whole w.base.clock x event))) e_is (keeps at_it same)

  called_place : (reference : ℕ) (call : UserCall) (found : Option End) → end_at entity reference ≡ found → (place_system ≡ system → place ≡ reference → KeepsRow (Called call))
      → AfterIt (calling_end whole w.base.clock now_here reference call found)
  called_place reference call None stands keeps = none_after now_here ends refl refl
  called_place reference call (Some e) stands keeps =
      row_after reference e stands (Called call) now_here like_here (Some (end_of (stepped whole w.base.clock e (Called call)))) (λ at_it same up. (refl, row_keeps reference e stands (Called call) keeps at_it same))

  pub calling_after : (reference : ℕ) (call : UserCall) → (place_system ≡ system → place ≡ reference → KeepsRow (Called call)) → AfterIt (calling whole w.base.clock entity reference call)
  calling_after reference call keeps = called_place reference call (end_at entity reference) refl keeps

  kept_there : (m : Moved) (next : Option ℕ) → (tick : ℕ) × (next ≡ Some tick) → kept_end m next ≡ Some (end_of m)
  kept_there m next found = ap (kept_end m) found.1

  ticked_place : (reference : ℕ) (found : Option End) → end_at entity reference ≡ found → KeepsRow Ticked → AfterIt (ticking_end whole w.base.clock now_here reference found)
  ticked_place reference None stands keeps = none_after now_here ends refl refl
  ticked_place reference (Some e) stands keeps =
      let m : Moved = stepped whole w.base.clock e Ticked in
      row_after reference e stands Ticked now_here like_here (kept_end m (due m.base m.stage))
      (λ at_it same up.
      let kept : IsUp timers s (end_of m) = row_keeps reference e stands Ticked (λ one two. keeps) at_it same in
      (kept_there m (due m.base m.stage) (due_there m.base m.stage kept.o kept.stage), kept))

  ticked_at : (found : Option ℕ) → KeepsRow Ticked → AfterIt (ticking_at whole w.base.clock now_here found)
  ticked_at None keeps = none_after now_here ends refl refl
  ticked_at (Some reference) keeps = ticked_place reference (end_at now_here reference) refl keeps

  pub ticking_after : KeepsRow Ticked → AfterIt (ticking whole w.base.clock entity)
  ticking_after keeps = ticked_at (first_due w.base.clock entity) keeps

  -- ---- a TPDU

  -- if it comes to that end
  abbrev pub KeepsTaken : List ℕ → TpduAndSum → Type 0
  KeepsTaken from tpdu = place_system ≡ system → destination_of tpdu.0 ≡ Some place → is_match here.e.base here.e.stage from tpdu.0 ≡ true → KeepsRow (Took tpdu.0 tpdu.1)

  met_place : (from : List ℕ) (tpdu : Tpdu) (sum : Bool) (reference : ℕ) (found : Option End) → destination_of tpdu ≡ Some reference → end_at entity reference ≡ found → KeepsTaken from (tpdu, sum)
      → AfterIt (met_by whole w.base.clock entity from (tpdu, sum) reference found)
  met_place from tpdu sum reference None goes stands keeps = none_after entity ends refl refl
  met_place from tpdu sum reference (Some e) goes stands keeps =
      if_kept AfterIt (is_match e.base e.stage from tpdu) (moved entity reference (stepped whole w.base.clock e (Took tpdu sum))) (unmatched entity from tpdu)
      (λ match. row_after reference e stands (Took tpdu sum) entity like_same (Some (end_of (stepped whole w.base.clock e (Took tpdu sum))))
      (λ at_it same up. (refl, row_keeps reference e stands (Took tpdu sum) (λ one two. keeps one (goes ∙ ap (λ (r : ℕ). Some r) (sym two)) (matched one two match)) at_it same)))
      (λ _. none_after entity ends refl refl)
    where
      matched : place_system ≡ system → place ≡ reference → is_match e.base e.stage from tpdu ≡ true → is_match here.e.base here.e.stage from tpdu ≡ true
      matched at_it same match =
          let e_is : here.e ≡ e = some_same here.e e (sym (stands_here at_it) ∙ ap (end_at entity) same ∙ stands) in
          ap (λ (x : End). is_match x.base x.stage from tpdu) e_is ∙ match

  made_ends : (own : ℕ) (from : List ℕ) (rules : Timers) (cr : Tpdu) (m : Moved) → on_cr w.base.clock own from rules cr ≡ Some m → ends_after ends system m.events ≡ ends ++ record { system = system; reference = own } ∷ []
  made_ends own from rules (Cr given source width calling called size preferred extra version classes ack_time text) m e =
      subst (λ (x : Moved). ends_after ends system x.events ≡ ends ++ record { system = system; reference = own } ∷ []) (some_moved _ m e) refl
    where
      some_moved : (a b : Moved) → Some a ≡ Some b → a ≡ b
      some_moved a b is_same = ap (λ (x : Option Moved). unwrap_or x a) is_same
  made_ends own from rules other m e = absurd (none-some _ e)

  made_after : (reference : ℕ) (from : List ℕ) (cr : Tpdu) (made : Option Moved) → on_cr w.base.clock reference from entity.timers cr ≡ made → 1 ≤ reference
      → is_free_place w.base.clock (end_at entity reference) ≡ true → AfterIt (calls entity reference made)
  made_after reference from cr None e least free = none_after entity ends refl refl
  made_after reference from cr (Some m) e least free =
      subst (λ (xs : List EndAt). After (with_end entity reference (Some (end_of m))) xs) (sym (made_ends reference from entity.timers cr m e)) (new_after entity reference (end_of m) refl least free)

  new_end_after : (from : List ℕ) (source : ℕ) (cr : Tpdu) (found : Option ℕ) → least_free w.base.clock entity ≡ found → AfterIt (new_end w.base.clock entity from source cr found)
  new_end_after from source cr None least = none_after entity ends refl refl
  new_end_after from source cr (Some reference) least =
      let f = free_least w.base.clock reference entity least in
      made_after reference from cr (on_cr w.base.clock reference from entity.timers cr) refl f.least f.free

  requested_after : (from : List ℕ) (source : ℕ) (called : List ℕ) (cr : Tpdu) → AfterIt (requested w.base.clock entity from source called cr)
  requested_after from source called cr =
      if_kept AfterIt (list_any (is_called false from source) entity.ends) _ _
      (λ _. none_after entity ends refl refl)
      (λ _. if_kept AfterIt (list_any (is_called true from source) entity.ends) _ _
      (λ _. none_after entity ends refl refl)
      (λ _. if_kept AfterIt (not (is_registered entity.selectors called)) _ _
      (λ _. none_after entity ends refl refl)
      (λ _. new_end_after from source cr (least_free w.base.clock entity) refl)))

  pub meeting_after : (from : List ℕ) (tpdu : TpduAndSum) → KeepsTaken from tpdu → AfterIt (met whole w.base.clock entity from tpdu)
  meeting_after from (Cr given source width calling called size preferred extra version classes ack_time text, sum) keeps =
      requested_after from source called (Cr given source width calling called size preferred extra version classes ack_time text)
  meeting_after from (Cc given destination source width calling called size preferred extra version classes ack_time text, sum) keeps =
      met_place from (Cc given destination source width calling called size preferred extra version classes ack_time text) sum destination (end_at entity destination) refl refl keeps
  meeting_after from (Dr destination source reason info text, sum) keeps = met_place from (Dr destination source reason info text) sum destination (end_at entity destination) refl refl keeps
  meeting_after from (Dc destination source, sum) keeps = met_place from (Dc destination source) sum destination (end_at entity destination) refl refl keeps
  meeting_after from (Dt destination last number text, sum) keeps = met_place from (Dt destination last number text) sum destination (end_at entity destination) refl refl keeps
  meeting_after from (Ed destination last number text, sum) keeps = met_place from (Ed destination last number text) sum destination (end_at entity destination) refl refl keeps
  meeting_after from (Ak destination number given subsequence confirmation, sum) keeps =
      met_place from (Ak destination number given subsequence confirmation) sum destination (end_at entity destination) refl refl keeps
  meeting_after from (Ea destination number, sum) keeps = met_place from (Ea destination number) sum destination (end_at entity destination) refl refl keeps
  meeting_after from (Er destination cause rejected, sum) keeps = met_place from (Er destination cause rejected) sum destination (end_at entity destination) refl refl keeps

  -- ---- a request

  pub connecting_after : (reference : ℕ) (request : ConnectRequest) → least_free w.base.clock entity ≡ Some reference
      → After (connecting w.base.clock entity reference request).entity (ends ++ record { system = system; reference = reference } ∷ [])
  connecting_after reference request least =
      let f = free_least w.base.clock reference entity least in
      new_after now_here reference (end_of (connected w.base.clock (call_of entity reference request))) refl f.least f.free
