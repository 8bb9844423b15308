-- Each step of an entity, as all ends see it.
use Rattle.std.specs.List.{list_any}
use Rattle.std.proofs.Common.{◌≡◌, ℕ, ◌+◌, ◌≤◌, Bool, true, false, not, List, [], ◌∷◌, ◌++◌, length, Option, Some, None, refl, sym, subst, arith, Contains}
use Rattle.std.proofs.lemmas.Option.{none-some}
use Rattle.tpdu.specs.Values.{TpduAndSum, destination_of}
use Rattle.tpdu.specs.declared.tpdu.Tpdu.{Tpdu}
use Rattle.tpdu.specs.declared.tpdu.Tpdu.TheVariants.{Cr, Cc, Dr, Dc, Dt, Ed, Ak, Ea, Er}
use Rattle.tp4_number.specs.Number.{whole}
use Rattle.tp4_number.proofs.Past.{if_kept}
use Rattle.tp4_sending.specs.SendingHalf.{FlowSender}
use Rattle.tp4_conn.specs.End.{End, Moved, end_of}
use Rattle.tp4_conn.specs.Making.{connected, on_cr}
use Rattle.tp4_conn.specs.Matching.{is_match}
use Rattle.tp4_conn.specs.Table.{Event, Called, Took, Ticked, due, stepped}
use Rattle.tp4_conn.specs.declared.call.ConnectRequest.{ConnectRequest}
use Rattle.tp4_conn.specs.declared.call.UserCall.{UserCall}
use Rattle.tp4_conn.specs.declared.halves.Halves.{Halves}
use Rattle.tp4_conn.specs.declared.timers.Timers.{Timers}
use Rattle.law_tp4_rows.specs.Giving.{EventGives, GivesCredit}
use Rattle.law_recovery_ends.specs.Knowing.{HasHeard}
use Rattle.tp4_entity.specs.Association.{answers, calls, is_called, is_registered, met, met_by, new_end, refusal, requested, unmatched}
use Rattle.tp4_entity.specs.Entity.{Acted, Entity, at, end_at, moved, with_end}
use Rattle.tp4_entity.specs.References.{least_free}
use Rattle.tp4_entity.specs.Step.{call_of, calling, calling_end, connecting, first_due, kept_end, ticking, ticking_at, ticking_end}
use Rattle.tp4_entity.proofs.Standings.{free_least}
use Rattle.script_journal.specs.Partner.{ArePartners}
use Rattle.script_journal.specs.declared.event.Event.{Event as Told}
use Rattle.law_tp4_history.specs.Ends.{Offer}
use Rattle.law_tp4_history.specs.Tracks.{Whole}
use Rattle.tp4_world.specs.Telling.{ends_after, events_after}
use Rattle.tp4_world.specs.World.{entity_at, latest, with_entity}
use Rattle.tp4_world.specs.declared.place.EndAt.{EndAt}
use Rattle.tp4_world.specs.declared.place.Placed.{Placed}
use Rattle.law_tp4_lawful.specs.References.{halves_at}
use Rattle.law_tp4_lawful.proofs.Acting.{IsLike}
use Rattle.law_tp4_lawful.proofs.WorldPlaces.{some_same}
use Rattle.law_recovery_world.specs.Lines.{IsOfferedView}
use Rattle.law_recovery_world.proofs.Known.{AreSeeing, Known, StageHas}
use Rattle.law_recovery_world.proofs.SeeRows.{HearsIn, has_on, lift}
use Rattle.law_recovery_world.proofs.Seeing.{More, all_see, ends_same, new_step, none_step, row_step, told}
use Rattle.law_recovery_world.proofs.Telling.{none_told, row_told}

pub kept_at : (m : Moved) (next : Option ℕ) (x : End) → kept_end m next ≡ Some x → x ≡ end_of m
kept_at m None x is = absurd (none-some x is)
kept_at m (Some tick) x is = sym (some_same (end_of m) x is)

module _ (titles : List (List ℕ)) (timers : Timers) (w : Whole) (journal : List Told) (entities : List Placed) (ends : List EndAt) (known : Known titles timers w journal entities ends)
    (system : ℕ) (entity : Entity) (is : entity_at entities system ≡ Some entity) (new : Whole) (keeps : (offer : Offer) → Contains w.base.offers offer → Contains new.base.offers offer) where
  abbrev later : List Told → Acted → List Told
  later first acted = (journal ++ first) ++ events_after ends system entity.own acted.events

  abbrev Sees : List Told → Acted → Type 0
  Sees first acted = AreSeeing timers.credit new ((journal ++ first) ++ events_after ends system entity.own acted.events) (with_entity entities system acted.entity) (ends_after ends system acted.events)

  more : (first rest : List Told) → More titles timers w journal entities ends known system entity is new keeps ((journal ++ first) ++ rest)
  more first rest y stage has = has_on timers.credit new new (journal ++ first) rest y stage (λ offer there. there) (has_on timers.credit w new journal first y stage keeps has)

  abbrev here : Entity
  here = at w.base.clock entity

  like_here : IsLike w.base.clock entity here
  like_here = record { own = refl; timers = refl; ends = refl; restarted = refl; clock = omega arith }

  like_same : IsLike w.base.clock entity entity
  like_same = record { own = refl; timers = refl; ends = refl; restarted = refl; clock = (known.plain.holds system entity is).clock }

  none_sees : (first : List Told) (acted : Acted) → acted.entity.ends ≡ entity.ends → ends_after ends system acted.events ≡ ends → Sees first acted
  none_sees first acted same after_is =
      subst (λ (es : List EndAt). AreSeeing timers.credit new (later first acted) (with_entity entities system acted.entity) es) (sym after_is)
      (all_see titles timers w journal entities ends known system entity is new keeps (later first acted) ends acted.entity (more first (events_after ends system entity.own acted.events))
      (none_step titles timers w journal entities ends known system entity is new keeps (later first acted) acted.entity same))

  row_all : (first : List Told) (reference : ℕ) (e : End) (stands : end_at entity reference ≡ Some e) (event : Event) → EventGives timers.credit event → (b : Entity) → IsLike w.base.clock entity b
      → ((rest : List Told) → HearsIn timers.credit new ((journal ++ first) ++ rest) (latest ends system reference) event e.stage)
      → (place : Option End) → ((x : End) → place ≡ Some x → x ≡ end_of (stepped whole w.base.clock e event))
      → Sees first (record { entity = with_end b reference place; events = (stepped whole w.base.clock e event).events; tpdus = (stepped whole w.base.clock e event).tpdus })
  row_all first reference e stands event gives b like hears place kept =
      let rest : List Told = events_after ends system entity.own (stepped whole w.base.clock e event).events in
      subst (λ (es : List EndAt). AreSeeing timers.credit new ((journal ++ first) ++ rest) (with_entity entities system (with_end b reference place)) es)
      (sym (ends_same titles timers w journal entities ends known system entity is new keeps reference e stands event gives))
      (all_see titles timers w journal entities ends known system entity is new keeps ((journal ++ first) ++ rest) ends (with_end b reference place) (more first rest)
      (row_step titles timers w journal entities ends known system entity is new keeps reference e stands event gives ((journal ++ first) ++ rest) b like (more first rest) (hears rest)
      (row_told system entity.own reference (latest ends system reference) w.base.clock ends e event journal first refl
      (told titles timers w journal entities ends known system entity is new keeps reference e stands event gives) (known.seeing system entity is reference e stands).1) place kept))

  -- ---- a call and a tick

  called_place : (first : List Told) (reference : ℕ) (call : UserCall) (place : Option End) → end_at entity reference ≡ place → Sees first (calling_end whole w.base.clock here reference call place)
  called_place first reference call None stands = none_sees first (record { entity = here; events = []; tpdus = [] }) refl refl
  called_place first reference call (Some e) stands =
      row_all first reference e stands (Called call) tt here like_here (λ rest halves has t h. absurd h.says) (Some (end_of (stepped whole w.base.clock e (Called call)))) (λ x at. sym (some_same _ x at))

  pub calling_sees : (first : List Told) (reference : ℕ) (call : UserCall) → Sees first (calling whole w.base.clock entity reference call)
  calling_sees first reference call = called_place first reference call (end_at entity reference) refl

  ticked_place : (reference : ℕ) (place : Option End) → end_at entity reference ≡ place → Sees [] (ticking_end whole w.base.clock here reference place)
  ticked_place reference None stands = none_sees [] (record { entity = here; events = []; tpdus = [] }) refl refl
  ticked_place reference (Some e) stands =
      let m : Moved = stepped whole w.base.clock e Ticked in
      row_all [] reference e stands Ticked tt here like_here (λ rest halves has t h. absurd h.says) (kept_end m (due m.base m.stage)) (kept_at m (due m.base m.stage))

  ticked_at : (found : Option ℕ) → Sees [] (ticking_at whole w.base.clock here found)
  ticked_at None = none_sees [] (record { entity = here; events = []; tpdus = [] }) refl refl
  ticked_at (Some reference) = ticked_place reference (end_at here reference) refl

  pub ticking_sees : Sees [] (ticking whole w.base.clock entity)
  ticking_sees = ticked_at (first_due w.base.clock entity)

  -- ---- a TPDU

  abbrev Hears : List ℕ → TpduAndSum → Type 0
  Hears from tpdu = (reference : ℕ) (e : End) → end_at entity reference ≡ Some e → destination_of tpdu.0 ≡ Some reference → is_match e.base e.stage from tpdu.0 ≡ true → (h : Halves) → halves_at e.stage ≡ Some h
      → (t : FlowSender) → HasHeard h.sending (Took tpdu.0 tpdu.1) t → (z : ℕ) × ArePartners journal (z + 1) (latest ends system reference) × IsOfferedView w z t

  met_place : (from : List ℕ) (tpdu : Tpdu) (sum : Bool) (reference : ℕ) (place : Option End) → destination_of tpdu ≡ Some reference → end_at entity reference ≡ place → GivesCredit timers.credit tpdu
      → Hears from (tpdu, sum) → Sees [] (met_by whole w.base.clock entity from (tpdu, sum) reference place)
  met_place from tpdu sum reference None goes stands give hears = none_sees [] (unmatched entity from tpdu) refl refl
  met_place from tpdu sum reference (Some e) goes stands give hears =
      if_kept (Sees []) (is_match e.base e.stage from tpdu) (moved entity reference (stepped whole w.base.clock e (Took tpdu sum))) (unmatched entity from tpdu)
      (λ match. row_all [] reference e stands (Took tpdu sum) give entity like_same
      (λ rest halves has t h. lift new new (journal ++ []) rest (latest ends system reference) t (λ offer there. there)
      (lift w new journal [] (latest ends system reference) t keeps (hears reference e stands goes match halves has t h)))
      (Some (end_of (stepped whole w.base.clock e (Took tpdu sum)))) (λ x at. sym (some_same _ x at)))
      (λ _. none_sees [] (unmatched entity from tpdu) refl refl)

  -- an end that a CR makes waits for its user
  waiting : (own : ℕ) (from : List ℕ) (rules : Timers) (cr : Tpdu) (m : Moved) → on_cr w.base.clock own from rules cr ≡ Some m
      → (ends_after ends system m.events ≡ ends ++ record { system = system; reference = own } ∷ []) × ((made : List Told) (y : ℕ) → StageHas timers.credit new made y m.stage)
  waiting own from rules (Cr given source width calling called size preferred extra version classes ack_time text) m e =
      subst (λ (x : Moved). (ends_after ends system x.events ≡ ends ++ record { system = system; reference = own } ∷ []) × ((made : List Told) (y : ℕ) → StageHas timers.credit new made y x.stage))
      (some_same _ m e) (refl, λ made y. (tt, none_told made y _ tt))
  waiting own from rules other m e = absurd (none-some _ e)

  made_sees : (reference : ℕ) (from : List ℕ) (cr : Tpdu) (made : Option Moved) → on_cr w.base.clock reference from entity.timers cr ≡ made → 1 ≤ reference → reference ≤ length entity.ends
      → Sees [] (calls entity reference made)
  made_sees reference from cr None e least most = none_sees [] (answers entity []) refl refl
  made_sees reference from cr (Some m) e least most =
      let rest : List Told = events_after ends system entity.own m.events in
      let waits = waiting reference from entity.timers cr m e in
      subst (λ (es : List EndAt). AreSeeing timers.credit new ((journal ++ []) ++ rest) (with_entity entities system (with_end entity reference (Some (end_of m)))) es) (sym waits.0)
      (all_see titles timers w journal entities ends known system entity is new keeps ((journal ++ []) ++ rest) (ends ++ record { system = system; reference = reference } ∷ []) (with_end entity reference (Some (end_of m)))
      (more [] rest)
      (new_step titles timers w journal entities ends known system entity is new keeps ((journal ++ []) ++ rest) entity reference (end_of m) refl least most (λ y. waits.1 ((journal ++ []) ++ rest) y)))

  new_sees : (from : List ℕ) (source : ℕ) (cr : Tpdu) (found : Option ℕ) → least_free w.base.clock entity ≡ found → Sees [] (new_end w.base.clock entity from source cr found)
  new_sees from source cr None free = none_sees [] (answers entity (refusal from source 129 ∷ [])) refl refl
  new_sees from source cr (Some reference) free =
      let f = free_least w.base.clock reference entity free in
      made_sees reference from cr (on_cr w.base.clock reference from entity.timers cr) refl f.least f.most

  requested_sees : (from : List ℕ) (source : ℕ) (called : List ℕ) (cr : Tpdu) → Sees [] (requested w.base.clock entity from source called cr)
  requested_sees from source called cr =
      if_kept (Sees []) (list_any (is_called false from source) entity.ends) _ _
      (λ _. none_sees [] (answers entity []) refl refl)
      (λ _. if_kept (Sees []) (list_any (is_called true from source) entity.ends) _ _
      (λ _. none_sees [] (answers entity (refusal from source 131 ∷ [])) refl refl)
      (λ _. if_kept (Sees []) (not (is_registered entity.selectors called)) _ _
      (λ _. none_sees [] (answers entity (refusal from source 3 ∷ [])) refl refl)
      (λ _. new_sees from source cr (least_free w.base.clock entity) refl)))

  pub met_sees : (from : List ℕ) (tpdu : TpduAndSum) → GivesCredit timers.credit tpdu.0 → Hears from tpdu → Sees [] (met whole w.base.clock entity from tpdu)
  met_sees from (Cr given source width calling called size preferred extra version classes ack_time text, sum) give hears =
      requested_sees from source called (Cr given source width calling called size preferred extra version classes ack_time text)
  met_sees from (Cc given destination source width calling called size preferred extra version classes ack_time text, sum) give hears =
      met_place from (Cc given destination source width calling called size preferred extra version classes ack_time text) sum destination (end_at entity destination) refl refl give hears
  met_sees from (Dr destination source reason info text, sum) give hears = met_place from (Dr destination source reason info text) sum destination (end_at entity destination) refl refl tt hears
  met_sees from (Dc destination source, sum) give hears = met_place from (Dc destination source) sum destination (end_at entity destination) refl refl tt hears
  met_sees from (Dt destination last number text, sum) give hears = met_place from (Dt destination last number text) sum destination (end_at entity destination) refl refl tt hears
  met_sees from (Ed destination last number text, sum) give hears = met_place from (Ed destination last number text) sum destination (end_at entity destination) refl refl tt hears
  met_sees from (Ak destination number given subsequence confirmation, sum) give hears =
      met_place from (Ak destination number given subsequence confirmation) sum destination (end_at entity destination) refl refl tt hears
  met_sees from (Ea destination number, sum) give hears = met_place from (Ea destination number) sum destination (end_at entity destination) refl refl tt hears
  met_sees from (Er destination cause rejected, sum) give hears = met_place from (Er destination cause rejected) sum destination (end_at entity destination) refl refl tt hears

  -- ---- a request

  pub connecting_sees : (first : List Told) (reference : ℕ) (request : ConnectRequest) → least_free w.base.clock entity ≡ Some reference
      → AreSeeing timers.credit new ((journal ++ first) ++ []) (with_entity entities system (connecting w.base.clock entity reference request).entity) (ends ++ record { system = system; reference = reference } ∷ [])
  connecting_sees first reference request free =
      let f = free_least w.base.clock reference entity free in
      all_see titles timers w journal entities ends known system entity is new keeps ((journal ++ first) ++ []) (ends ++ record { system = system; reference = reference } ∷ [])
      (connecting w.base.clock entity reference request).entity (more first [])
      (new_step titles timers w journal entities ends known system entity is new keeps ((journal ++ first) ++ []) here reference (end_of (connected w.base.clock (call_of entity reference request))) refl f.least f.most (λ y. (tt, none_told ((journal ++ first) ++ []) y _ tt)))
