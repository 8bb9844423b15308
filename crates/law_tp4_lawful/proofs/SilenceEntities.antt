-- What an entity does, in small steps: what its ends tell is told of ends that stand, and an end is made only where the entity is not silent.
use Rattle.std.proofs.Common.{◌≡◌, ◌⊎◌, inl, inr, ℕ, zero, suc, ◌+◌, ◌-◌, ◌≤◌, ◌==◌, not, Bool, true, false, if◌then◌else◌, List, [], ◌∷◌, ◌++◌, length, slice_get, slice_set, Option, Some, None, refl, sym, ◌∙◌, ap, subst, arith, append_assoc}
use Rattle.std.specs.List.{list_any}
use Rattle.std.proofs.lemmas.Bool.{cases_eq, leb-false}
use Rattle.script_journal.specs.declared.event.Event.{Event as Told}
use Rattle.tpdu.specs.Values.{TpduAndSum}
use Rattle.tpdu.specs.Writing.{kind_for}
use Rattle.tpdu.specs.declared.tpdu.Tpdu.{Tpdu}
use Rattle.tpdu.specs.declared.tpdu.Tpdu.TheVariants as wires
use Rattle.tp4_number.proofs.Past.{if_kept}
use Rattle.tp4_flow.specs.declared.step.EndEvent.{EndEvent}
use Rattle.tp4_flow.specs.declared.step.What.{What}
use Rattle.tp4_flow.specs.declared.step.What.TheVariants as whats
use Rattle.tp4_conn.specs.declared.end_record.EndRecord.{EndRecord}
use Rattle.tp4_conn.specs.declared.call.ConnectRequest.{ConnectRequest}
use Rattle.tp4_conn.specs.declared.call.UserCall.{UserCall}
use Rattle.tp4_conn.specs.Agreeing.{proposed_in}
use Rattle.tp4_conn.specs.End.{End, Moved, end_of, frozen_for}
use Rattle.tp4_conn.specs.Making.{called_end, connected, indicated}
use Rattle.tp4_conn.specs.Matching.{is_match}
use Rattle.tp4_conn.specs.Table.{Called, Ticked, Took, due, stepped}
use Rattle.tp4_entity.specs.Association.{is_called, is_registered, met, met_at, met_by, new_end, requested, unmatched}
use Rattle.tp4_entity.specs.Entity.{Acted, Entity, at, end_at, moved, there, with_end}
use Rattle.tp4_entity.specs.References.{least_free}
use Rattle.tp4_entity.specs.Silence.{is_silent, is_within}
use Rattle.tp4_entity.specs.Step.{call_of, calling, calling_end, connecting, first_due, kept_end, ticking, ticking_at, ticking_end}
use Rattle.tp4_entity.specs.Unit.{EndsWith, Faulty, HearsUnit, TakesBy, TakesUnit, Whole, all_met, ignored}
use Rattle.tp4_entity.proofs.PlaceLaws.{end_at_of}
use Rattle.tp4_entity.proofs.Standings.{free_least, within}
use Rattle.tp4_world.specs.Telling.{ends_after, ends_with, event_for, events_after}
use Rattle.tp4_world.specs.World.{entity_at, latest, with_entity}
use Rattle.tp4_world.specs.declared.place.EndAt.{EndAt}
use Rattle.tp4_world.specs.declared.place.Placed.{Placed}
use Rattle.tp4_world.proofs.Having.{with_any}
use Rattle.tp4_world.proofs.Entities.{with_found}
use Rattle.law_tp4_lawful.proofs.Silence.{BeginsEnd, Goes, IsLongAgo, IsStanding, Kind, Makes, Making, Noting, Of, Other, Quietly, Runs, Seen, Stays, Step, Stops, Telling, kind_of, kinds_of, last_restart, told_by}
use Rattle.law_tp4_lawful.proofs.ActsRows.{AreTold, IsRowOf, IsTold, row_of}
use Rattle.law_tp4_lawful.specs.Own.{IsEndOf}
use Rattle.law_tp4_lawful.proofs.ActsTold.{ends_stay}
use Rattle.law_tp4_lawful.proofs.Frames.{entity_other}
use Rattle.law_tp4_lawful.proofs.MakesPlaces.{latest_last}
use Rattle.law_tp4_lawful.proofs.SilenceSteps.{map_append}
use Rattle.law_tp4_lawful.proofs.WorldPlaces.{with_again}

-- ---- one place of an entity

set_or : (places : List (Option End)) (k j : ℕ) (place : Option End) (end : End) → there (slice_get (slice_set places k place) j) ≡ Some end
    → ((j ≡ k) × (place ≡ Some end)) ⊎ (there (slice_get places j) ≡ Some end)
set_or [] k j place end h = inr h
set_or (one ∷ places) zero zero place end h = inl (refl, h)
set_or (one ∷ places) zero (suc j) place end h = inr h
set_or (one ∷ places) (suc k) zero place end h = inr h
set_or (one ∷ places) (suc k) (suc j) place end h = elim (set_or places k j place end h) [
  | inl here ↦ inl (ap suc here.0, here.1)
  | inr before ↦ inr before
]

-- an end that stands then was put there, or stood before
pub placed_or : (e : Entity) (reference : ℕ) (place : Option End) (r : ℕ) (end : End) → 1 ≤ reference → end_at (with_end e reference place) r ≡ Some end
    → ((r ≡ reference) × (place ≡ Some end)) ⊎ (end_at e r ≡ Some end)
placed_or e zero place r end least h = absurd (omega (arith, least))
placed_or e (suc k) place zero end least h = absurd (cc h)
placed_or e (suc k) place (suc j) end least h =
    let back : suc k - 1 ≡ k = omega arith in
    let here : there (slice_get (slice_set e.ends k place) j) ≡ Some end =
    ap (λ (n : ℕ). there (slice_get (slice_set e.ends n place) j)) (sym back) ∙ sym (end_at_of (with_end e (suc k) place) (suc j) j (omega arith)) ∙ h in
    elim (set_or e.ends k j place end here) [
      | inl now ↦ inl (ap suc now.0, now.1)
      | inr before ↦ inr (end_at_of e (suc j) j (omega arith) ∙ before)
    ]

-- each end is of the reference at which it stands
abbrev pub AreOf : Entity → Type 0
AreOf e = (r : ℕ) (end : End) → end_at e r ≡ Some end → IsEndOf r end

pub placed_of : (e : Entity) (reference : ℕ) (place : Option End) → 1 ≤ reference → AreOf e → ((end : End) → place ≡ Some end → IsEndOf reference end) → AreOf (with_end e reference place)
placed_of e reference place least all here r end h = elim (placed_or e reference place r end least h) [
  | inl now ↦ subst (λ (n : ℕ). IsEndOf n end) (sym now.0) (here end now.1)
  | inr before ↦ all r end before
]

pub only_end : (reference : ℕ) (one end : End) → IsEndOf reference one → Some one ≡ Some end → IsEndOf reference end
only_end reference one end is h = let same : one ≡ end = cc h in subst (IsEndOf reference) same is

row_end : (reference : ℕ) (m : Moved) → IsRowOf reference m → (end : End) → Some (end_of m) ≡ Some end → IsEndOf reference end
row_end reference m row end h = only_end reference (end_of m) end (row.base, row.stage) h

pub kept_row : (reference : ℕ) (m : Moved) (next : Option ℕ) → IsRowOf reference m → (end : End) → kept_end m next ≡ Some end → IsEndOf reference end
kept_row reference m None row end h = absurd (cc h)
kept_row reference m (Some tick) row end h = row_end reference m row end h

-- an entity that is not silent began again long ago, if it did
long_by : (now frozen : ℕ) (restarted : Option ℕ) → is_within now frozen restarted ≡ false → IsLongAgo frozen now restarted
long_by now frozen None is = tt
long_by now frozen (Some tick) is = let past = leb-false now (tick + frozen) is in omega (arith, past)

pub past_by : (now frozen : ℕ) (e : Entity) → frozen ≡ frozen_for e.timers → is_silent now e ≡ false → IsLongAgo frozen now e.restarted
past_by now frozen e fits is = long_by now frozen e.restarted (ap (λ (n : ℕ). is_within now n e.restarted) fits ∙ is)

-- ---- runs

pub runs_then : (frozen : ℕ) (old mid new : Seen) (xs ys : List Kind) → Runs frozen old xs mid → Runs frozen mid ys new → Runs frozen old (xs ++ ys) new
runs_then frozen old mid new xs ys (Stops s) two = two
runs_then frozen old mid new xs ys (Goes a b c told kinds step rest) two =
    subst (λ (ks : List Kind). Runs frozen a ks new) (sym (append_assoc (told_by told) kinds ys)) (Goes a b new told (kinds ++ ys) step (runs_then frozen b mid new kinds ys rest two))

-- and then something of which nothing is told
runs_quietly : (frozen : ℕ) (old mid new : Seen) (xs : List Kind) → Runs frozen old xs mid → Step frozen mid None new → Runs frozen old xs new
runs_quietly frozen old mid new xs (Stops s) step = Goes s new new None [] step (Stops new)
runs_quietly frozen old mid new xs (Goes a b c told kinds first rest) step = Goes a b new told kinds first (runs_quietly frozen b mid new kinds rest step)

pub stays_same : (s : Seen) → Stays s s
stays_same s = record { ends = refl; stood = λ system reference is. is; restarted = λ system. refl }

-- ---- what is told

pub events_append : (ends : List EndAt) (system : ℕ) (address : List ℕ) (xs ys : List EndEvent)
    → events_after ends system address (xs ++ ys) ≡ events_after ends system address xs ++ events_after (ends_after ends system xs) system address ys
events_append ends system address [] ys = refl
events_append ends system address (x ∷ xs) ys =
    ap (λ (told : List Told). event_for system address (latest (ends_with ends system x x.what) system x.reference) x.reference x.what ∷ told) (events_append (ends_with ends system x x.what) system address xs ys)

pub ends_append : (ends : List EndAt) (system : ℕ) (xs ys : List EndEvent) → ends_after ends system (xs ++ ys) ≡ ends_after (ends_after ends system xs) system ys
ends_append ends system [] ys = refl
ends_append ends system (x ∷ xs) ys = ends_append (ends_with ends system x x.what) system xs ys

module _ (frozen : ℕ) (system : ℕ) (address : List ℕ) where
  -- all that an end that stands tells
  module _ (s : Seen) (own : ℕ) (is : IsStanding s system own) where
    names : (reference : ℕ) (rest : List Kind) → reference ≡ own → Runs frozen s rest s → Runs frozen s (Of (latest s.ends system reference) ∷ rest) s
    names reference rest same runs =
        subst (λ (r : ℕ). Runs frozen s (Of (latest s.ends system r) ∷ rest) s) (sym same)
        (Goes s s s (Some (Of (latest s.ends system own))) rest (Telling system own s is (stays_same s) refl) runs)

    one_told : (told : EndEvent) (what : What) (others : List EndEvent) → IsTold own told.reference what → Runs frozen s (kinds_of (events_after s.ends system address others)) s
        → Runs frozen s (kind_of (event_for system address (latest (ends_with s.ends system told what) system told.reference) told.reference what)
        ∷ kinds_of (events_after (ends_with s.ends system told what) system address others)) s
    one_told told (whats.Incoming from partner calling called options octets) others one rest = absurd one
    one_told told (whats.End what) others one rest = names told.reference _ one rest
    one_told told other others one rest = Goes s s s (Some Other) _ (Noting s (stays_same s) refl) rest

    all_told : (told : List EndEvent) → AreTold own told → Runs frozen s (kinds_of (events_after s.ends system address told)) s
    all_told [] are = Stops s
    all_told (one ∷ others) are = one_told one one.what others are.0 (all_told others are.1)

  -- ---- an entity changes

  module _ (now : ℕ) where
    -- it is another now: each end that stands stood before, or is the one that was made
    module _ (entities : List Placed) (e new : Entity) (is : entity_at entities system ≡ Some e) (began : new.restarted ≡ e.restarted) where
      restart_same : (other : ℕ) → last_restart (entity_at (with_entity entities system new) other) ≡ last_restart (entity_at entities other)
      restart_same other = elim (cases_eq other system) [
        | inl same ↦
            (let first : entity_at (with_entity entities system new) other ≡ Some new = ap (entity_at (with_entity entities system new)) same ∙ with_found entities system e new is in
            let was : entity_at entities other ≡ Some e = ap (entity_at entities) same ∙ is in
            ap last_restart first ∙ began ∙ sym (ap last_restart was))
        | inr apart ↦ ap last_restart (entity_other entities system other new apart)
      ]

      pub stays_by : (ends : List EndAt) → ((r : ℕ) (end : End) → end_at new r ≡ Some end → (was : End) × (end_at e r ≡ Some was))
          → Stays (record { clock = now; entities = entities; ends = ends }) (record { clock = now; entities = with_entity entities system new; ends = ends })
      stays_by ends before = record {
        ends = refl;
        stood = λ other r at. elim (with_any entities system other new at.entity at.there) [
          | inl here ↦
              (let was = before r at.end (ap (λ (x : Entity). end_at x r) (sym here.1) ∙ at.stands) in
              record { entity = e; end = was.0; there = ap (entity_at entities) here.0 ∙ is; stands = was.1 })
          | inr old ↦ record { entity = at.entity; end = at.end; there = old; stands = at.stands }
        ];
        restarted = restart_same;
      }

      pub begins_by : (ends : List EndAt) (reference : ℕ) → IsLongAgo frozen now e.restarted
          → ((r : ℕ) (end : End) → end_at new r ≡ Some end → (r ≡ reference) ⊎ ((was : End) × (end_at e r ≡ Some was)))
          → BeginsEnd frozen system reference (record { clock = now; entities = entities; ends = ends })
          (record { clock = now; entities = with_entity entities system new; ends = ends ++ record { system = system; reference = reference } ∷ [] })
      begins_by ends reference past before = record {
        audible = subst (IsLongAgo frozen now) (sym (ap last_restart is)) past;
        ends = refl;
        stood = λ other r at. elim (with_any entities system other new at.entity at.there) [
          | inl here ↦ elim (before r at.end (ap (λ (x : Entity). end_at x r) (sym here.1) ∙ at.stands)) [
            | inl this ↦ inr (here.0, this)
            | inr was ↦ inl (record { entity = e; end = was.0; there = ap (entity_at entities) here.0 ∙ is; stands = was.1 })
          ]
          | inr old ↦ inl (record { entity = at.entity; end = at.end; there = old; stands = at.stands })
        ];
        restarted = restart_same;
      }

    -- what an entity did, with what it tells
    pub record Did (e new : Entity) (told : List EndEvent) : Type 0 where
      pub of : AreOf new
      pub timers : new.timers ≡ e.timers
      pub restarted : new.restarted ≡ e.restarted
      pub runs : (entities : List Placed) (ends : List EndAt) → entity_at entities system ≡ Some e
          → Runs frozen (record { clock = now; entities = entities; ends = ends }) (kinds_of (events_after ends system address told))
          (record { clock = now; entities = with_entity entities system new; ends = ends_after ends system told })

    -- the same ends, and nothing is told
    did_nothing : (e new : Entity) → AreOf e → new.ends ≡ e.ends → new.timers ≡ e.timers → new.restarted ≡ e.restarted → Did e new []
    did_nothing e new all ends timers began =
        let same : (r : ℕ) → end_at e r ≡ end_at new r = λ r. ap (λ (places : List (Option End)). if r == 0 then None else there (slice_get places (r - 1))) (sym ends) in
        record {
          of = λ r end h. all r end (same r ∙ h);
          timers = timers;
          restarted = began;
          runs = λ entities es is.
              Goes (record { clock = now; entities = entities; ends = es }) _ _ None [] (Quietly _ (stays_by entities e new is began es (λ r end h. (end, same r ∙ h))) refl) (Stops _);
        }

    -- one thing after another
    did_then : (e mid new : Entity) (xs ys : List EndEvent) → Did e mid xs → Did mid new ys → Did e new (xs ++ ys)
    did_then e mid new xs ys one two = record {
      of = two.of;
      timers = two.timers ∙ one.timers;
      restarted = two.restarted ∙ one.restarted;
      runs = λ entities ends is.
          (let first : Seen = record { clock = now; entities = entities; ends = ends } in
          let middle : Seen = record { clock = now; entities = with_entity entities system mid; ends = ends_after ends system xs } in
          let last : Seen = record { clock = now; entities = with_entity entities system new; ends = ends_after ends system (xs ++ ys) } in
          let here : List Told = events_after ends system address xs in
          let rest : List Told = events_after (ends_after ends system xs) system address ys in
          let after : Runs frozen middle (kinds_of rest) last =
          subst (λ (es : List EndAt). Runs frozen middle (kinds_of rest) (record { clock = now; entities = with_entity entities system new; ends = es })) (sym (ends_append ends system xs ys))
          (subst (λ (ps : List Placed). Runs frozen middle (kinds_of rest) (record { clock = now; entities = ps; ends = ends_after (ends_after ends system xs) system ys })) (with_again entities system mid new)
          (two.runs (with_entity entities system mid) (ends_after ends system xs) (with_found entities system e mid is))) in
          subst (λ (ks : List Kind). Runs frozen first ks last) (sym (ap kinds_of (events_append ends system address xs ys) ∙ map_append here rest))
          (runs_then frozen first middle last (kinds_of here) (kinds_of rest) (one.runs entities ends is) after));
    }

    -- an end that stands did its row; it stays, or is taken out
    did_row : (e : Entity) (reference : ℕ) (end : End) (place : Option End) (m : Moved) → AreOf e → end_at e reference ≡ Some end → IsRowOf reference m
        → ((new : End) → place ≡ Some new → IsEndOf reference new) → Did e (with_end e reference place) m.events
    did_row e reference end place m all at row here =
        let least : 1 ≤ reference = (within e reference end at).least in
        record {
          of = placed_of e reference place least all here;
          timers = refl;
          restarted = refl;
          runs = λ entities ends is.
              (let first : Seen = record { clock = now; entities = entities; ends = ends } in
              let last : Seen = record { clock = now; entities = with_entity entities system (with_end e reference place); ends = ends } in
              let standing : IsStanding first system reference = record { entity = e; end = end; there = is; stands = at } in
              subst (λ (es : List EndAt). Runs frozen first (kinds_of (events_after ends system address m.events)) (record { clock = now; entities = with_entity entities system (with_end e reference place); ends = es }))
              (sym (ends_stay system address ends reference m.events row.told))
              (runs_quietly frozen first first last _ (all_told first reference standing m.events row.told)
              (Quietly last (stays_by entities e (with_end e reference place) is refl ends (λ r one h. elim (placed_or e reference place r one least h) [
                | inl now_there ↦ (end, ap (end_at e) now_there.0 ∙ at)
                | inr before ↦ (one, before)
              ])) refl)));
        }

    -- what is told of no end
    did_noted : (e : Entity) (what : What) → AreOf e → ((ends : List EndAt) → ends_with ends system (record { reference = 0; what = what }) what ≡ ends)
        → ((n : ℕ) → kind_of (event_for system address n 0 what) ≡ Other) → Did e e (record { reference = 0; what = what } ∷ [])
    did_noted e what all same other = record {
      of = all;
      timers = refl;
      restarted = refl;
      runs = λ entities ends is.
          (let first : Seen = record { clock = now; entities = entities; ends = ends } in
          let last : Seen = record { clock = now; entities = with_entity entities system e; ends = ends } in
          let next : List EndAt = ends_with ends system (record { reference = 0; what = what }) what in
          subst (λ (es : List EndAt). Runs frozen first (kind_of (event_for system address (latest next system 0) 0 what) ∷ []) (record { clock = now; entities = with_entity entities system e; ends = es })) (sym (same ends))
          (subst (λ (kind : Kind). Runs frozen first (kind ∷ []) last) (sym (other (latest next system 0)))
          (Goes first last last (Some Other) [] (Noting last (stays_by entities e e is refl ends (λ r end h. (end, h))) refl) (Stops last))));
    }

    -- an indication makes an end
    did_indicate : (e : Entity) (b : EndRecord) (text : List ℕ) → AreOf e → 1 ≤ b.own → IsLongAgo frozen now e.restarted → Did e (moved e b.own (indicated b text)).entity (indicated b text).events
    did_indicate e b text all least past =
        let m : Moved = indicated b text in
        let new : Entity = with_end e b.own (Some (end_of m)) in
        record {
          of = placed_of e b.own (Some (end_of m)) least all (λ end h. only_end b.own (end_of m) end (refl, tt) h);
          timers = refl;
          restarted = refl;
          runs = λ entities ends is.
              (let first : Seen = record { clock = now; entities = entities; ends = ends } in
              let last : Seen = record { clock = now; entities = with_entity entities system new; ends = ends ++ record { system = system; reference = b.own } ∷ [] } in
              subst (λ (n : ℕ). Runs frozen first (Makes n system ∷ []) last) (sym (latest_last ends system b.own))
              (Goes first last last (Some (Makes (length ends + 1) system)) [] (Making system b.own last (begins_by entities e new is refl ends b.own past (λ r one h. elim (placed_or e b.own (Some (end_of m)) r one least h) [
                | inl now_there ↦ inl now_there.0
                | inr before ↦ inr (one, before)
              ])) refl) (Stops last)));
        }

    -- ---- a user asks

    -- for a connection
    pub record Connected (e : Entity) (reference : ℕ) (request : ConnectRequest) : Type 0 where
      pub of : AreOf (connecting now e reference request).entity
      pub runs : (entities : List Placed) (ends : List EndAt) → entity_at entities system ≡ Some e
          → Runs frozen (record { clock = now; entities = entities; ends = ends }) (Makes (length ends + 1) system ∷ [])
          (record { clock = now; entities = with_entity entities system (connecting now e reference request).entity; ends = ends ++ record { system = system; reference = reference } ∷ [] })

    pub did_connect : (e : Entity) (reference : ℕ) (request : ConnectRequest) → AreOf e → 1 ≤ reference → IsLongAgo frozen now e.restarted → Connected e reference request
    did_connect e reference request all least past =
        let m : Moved = connected now (call_of e reference request) in
        let new : Entity = with_end (at now e) reference (Some (end_of m)) in
        record {
          of = placed_of (at now e) reference (Some (end_of m)) least all (λ end h. only_end reference (end_of m) end (refl, tt) h);
          runs = λ entities ends is.
              (let first : Seen = record { clock = now; entities = entities; ends = ends } in
              let last : Seen = record { clock = now; entities = with_entity entities system new; ends = ends ++ record { system = system; reference = reference } ∷ [] } in
              Goes first last last (Some (Makes (length ends + 1) system)) [] (Making system reference last (begins_by entities e new is refl ends reference past (λ r one h. elim (placed_or (at now e) reference (Some (end_of m)) r one least h) [
                | inl now_there ↦ inl now_there.0
                | inr before ↦ inr (one, before)
              ])) refl) (Stops last));
        }

    abbrev Does : Entity → Acted → Type 0
    Does e acted = Did e acted.entity acted.events

    does_nothing : (e : Entity) → AreOf e → Did e e []
    does_nothing e all = did_nothing e e all refl refl refl

    -- now
    from_now : (e : Entity) (acted : Acted) → AreOf e → Does (at now e) acted → Does e acted
    from_now e acted all did = did_then e (at now e) acted.entity [] acted.events (did_nothing e (at now e) all refl refl refl) did

    module _ (wrap : ℕ → ℕ → ℕ) where
      end_called : (e : Entity) (reference : ℕ) (call : UserCall) (place : Option End) → AreOf e → end_at e reference ≡ place → Does e (calling_end wrap now e reference call place)
      end_called e reference call None all is = does_nothing e all
      end_called e reference call (Some end) all is =
          let m : Moved = stepped wrap now end (Called call) in
          let row : IsRowOf reference m = row_of wrap now reference end (Called call) (all reference end is) in
          did_row e reference end (Some (end_of m)) m all is row (row_end reference m row)

      pub did_call : (e : Entity) (reference : ℕ) (call : UserCall) → AreOf e → Does e (calling wrap now e reference call)
      did_call e reference call all = from_now e (calling wrap now e reference call) all (end_called (at now e) reference call (end_at e reference) all refl)

      -- ---- a tick

      end_ticked : (e : Entity) (reference : ℕ) (place : Option End) → AreOf e → end_at e reference ≡ place → Does e (ticking_end wrap now e reference place)
      end_ticked e reference None all is = does_nothing e all
      end_ticked e reference (Some end) all is =
          let m : Moved = stepped wrap now end Ticked in
          let row : IsRowOf reference m = row_of wrap now reference end Ticked (all reference end is) in
          did_row e reference end (kept_end m (due m.base m.stage)) m all is row (kept_row reference m (due m.base m.stage) row)

      ticked_at : (e : Entity) (found : Option ℕ) → AreOf e → Does e (ticking_at wrap now e found)
      ticked_at e None all = does_nothing e all
      ticked_at e (Some reference) all = end_ticked e reference (end_at e reference) all refl

      pub did_tick : (e : Entity) → AreOf e → Does e (ticking wrap now e)
      did_tick e all = from_now e (ticking wrap now e) all (ticked_at (at now e) (first_due now e) all)

      -- ---- a unit comes

      module _ (from : List ℕ) where
        is_unmatched : (e : Entity) (tpdu : Tpdu) → AreOf e → Does e (unmatched e from tpdu)
        is_unmatched e tpdu all = did_noted e (whats.Unknown (kind_for tpdu)) all (λ ends. refl) (λ n. refl)

        by_end : (e : Entity) (tpdu : TpduAndSum) (reference : ℕ) (place : Option End) → AreOf e → end_at e reference ≡ place → Does e (met_by wrap now e from tpdu reference place)
        by_end e tpdu reference None all is = is_unmatched e tpdu.0 all
        by_end e tpdu reference (Some end) all is =
            let m : Moved = stepped wrap now end (Took tpdu.0 tpdu.1) in
            let row : IsRowOf reference m = row_of wrap now reference end (Took tpdu.0 tpdu.1) (all reference end is) in
            if_kept (Does e) (is_match end.base end.stage from tpdu.0) _ _ (λ _. did_row e reference end (Some (end_of m)) m all is row (row_end reference m row)) (λ _. is_unmatched e tpdu.0 all)

        by_reference : (e : Entity) (tpdu : TpduAndSum) (reference : Option ℕ) → AreOf e → Does e (met_at wrap now e from tpdu reference)
        by_reference e tpdu None all = is_unmatched e tpdu.0 all
        by_reference e tpdu (Some reference) all = by_end e tpdu reference (end_at e reference) all refl

        is_made : (e : Entity) (source : ℕ) (cr : Tpdu) (found : Option ℕ) → AreOf e → IsLongAgo frozen now e.restarted → least_free now e ≡ found → Does e (new_end now e from source cr found)
        is_made e source cr None all past is = does_nothing e all
        is_made e source (wires.Cr credit other width calling called size preferred extra version classes ack_time text) (Some reference) all past is =
            did_indicate e (called_end now reference from e.timers credit other calling called (proposed_in width size preferred extra)) text all (free_least now reference e is).least past
        is_made e source other (Some reference) all past is = does_nothing e all

        is_requested : (e : Entity) (source : ℕ) (called : List ℕ) (cr : Tpdu) → AreOf e → IsLongAgo frozen now e.restarted → Does e (requested now e from source called cr)
        is_requested e source called cr all past =
            if_kept (Does e) (list_any (is_called false from source) e.ends) _ _ (λ _. does_nothing e all)
            (λ _. if_kept (Does e) (list_any (is_called true from source) e.ends) _ _ (λ _. does_nothing e all)
            (λ _. if_kept (Does e) (not (is_registered e.selectors called)) _ _ (λ _. does_nothing e all) (λ _. is_made e source cr (least_free now e) all past refl)))

        is_met : (e : Entity) (tpdu : TpduAndSum) → AreOf e → IsLongAgo frozen now e.restarted → Does e (met wrap now e from tpdu)
        is_met e (wires.Cr credit source width calling called size preferred extra version classes ack_time text, sum) all past =
            is_requested e source called (wires.Cr credit source width calling called size preferred extra version classes ack_time text) all past
        is_met e (wires.Cc credit destination source width calling called size preferred extra version classes ack_time text, sum) all past =
            by_reference e (wires.Cc credit destination source width calling called size preferred extra version classes ack_time text, sum) (Some destination) all
        is_met e (wires.Dr destination source reason info text, sum) all past = by_reference e (wires.Dr destination source reason info text, sum) (Some destination) all
        is_met e (wires.Dc destination source, sum) all past = by_reference e (wires.Dc destination source, sum) (Some destination) all
        is_met e (wires.Dt destination last number text, sum) all past = by_reference e (wires.Dt destination last number text, sum) (Some destination) all
        is_met e (wires.Ed destination last number text, sum) all past = by_reference e (wires.Ed destination last number text, sum) (Some destination) all
        is_met e (wires.Ak destination number credit subsequence confirmation, sum) all past =
            by_reference e (wires.Ak destination number credit subsequence confirmation, sum) (Some destination) all
        is_met e (wires.Ea destination number, sum) all past = by_reference e (wires.Ea destination number, sum) (Some destination) all
        is_met e (wires.Er destination cause rejected, sum) all past = by_reference e (wires.Er destination cause rejected, sum) (Some destination) all

        are_met : (tpdus : List TpduAndSum) (e : Entity) → AreOf e → IsLongAgo frozen now e.restarted → Does e (all_met wrap now e from tpdus)
        are_met [] e all past = does_nothing e all
        are_met (tpdu ∷ tpdus) e all past =
            let first : Acted = met wrap now e from tpdu in
            let one : Does e first = is_met e tpdu all past in
            let rest : Acted = all_met wrap now first.entity from tpdus in
            did_then e first.entity rest.entity first.events rest.events one (are_met tpdus first.entity one.of (subst (IsLongAgo frozen now) (sym one.restarted) past))

        -- nothing is left, or a fault is told
        is_ended : (e : Entity) (extended rest : List ℕ) (told : List EndEvent) → AreOf e → EndsWith extended rest told → Did e e told
        is_ended e extended rest told all (Whole none is) = subst (Did e e) (sym is) (does_nothing e all)
        is_ended e extended rest told all (Faulty fault some is told_is) = subst (Did e e) (sym told_is) (did_noted e (whats.BadTpdu fault.cause fault.place) all (λ ends. refl) (λ n. refl))

        is_heard : (e : Entity) (octets : List ℕ) (acted : Acted) → AreOf e → IsLongAgo frozen now e.restarted → HearsUnit wrap now e from octets acted → Does e acted
        is_heard e octets acted all past h =
            let met_all : Acted = all_met wrap now (at now e) from h.tpdus in
            let did : Does (at now e) met_all = are_met h.tpdus (at now e) all past in
            let both : Did (at now e) met_all.entity (met_all.events ++ h.told) =
            did_then (at now e) met_all.entity met_all.entity met_all.events h.told did (is_ended met_all.entity _ h.rest h.told did.of h.ends) in
            subst (λ (x : Entity). Did e x acted.events) (sym h.entity)
            (subst (λ (told : List EndEvent). Did e met_all.entity told) (sym h.events)
            (did_then e (at now e) met_all.entity [] (met_all.events ++ h.told) (did_nothing e (at now e) all refl refl refl) both))

        -- a silent entity does nothing but tell it
        pub did_take : (e : Entity) (octets : List ℕ) (acted : Acted) → AreOf e → frozen ≡ frozen_for e.timers → TakesUnit wrap now e from octets acted → Does e acted
        did_take e octets acted all fits t = by (is_silent now e) refl t
          where
            by : (silent : Bool) → is_silent now e ≡ silent → TakesBy silent wrap now e from octets acted → Does e acted
            by true is ignores =
                subst (Does e) (sym ignores) (from_now e (ignored now e) all (did_noted (at now e) whats.Silent all (λ ends. refl) (λ n. refl)))
            by false is heard = is_heard e octets acted all (past_by now frozen e fits is) heard
