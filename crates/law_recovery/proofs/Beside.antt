-- An end that stands half-open beside a partner that has left, through all that happens: it stands so still, and takes nothing but a DR; or it has left.
use Rattle.std.proofs.Common.{◌≡◌, ◌⊎◌, inl, inr, ℕ, ◌≤◌, Bool, true, List, [], ◌∷◌, ◌++◌, Option, Some, None, refl, sym, ◌∙◌, ap, subst}
use Rattle.std.specs.Prelude.{nat_eq}
use Rattle.std.specs.List.{AllByRecursion}
use Rattle.std.specs.Cmp.Lexicographic.{pointwise}
use Rattle.std.proofs.lemmas.Bool.{cases_eq}
use Rattle.std.proofs.lemmas.Option.{none-some, same_Some}
use Rattle.osi_base.specs.Link.{Link}
use Rattle.osi_base.proofs.Members.{all_both}
use Rattle.script_journal.specs.declared.event.Event.{Event as JournalEvent}
use Rattle.tpdu.specs.Values.{destination_of}
use Rattle.tpdu.specs.declared.service.Options.{Options}
use Rattle.tpdu.specs.declared.tpdu.Tpdu.{Tpdu as WireTpdu}
use Rattle.tpdu.specs.declared.tpdu.Tpdu.TheVariants as wires
use Rattle.tp4_number.specs.Number.{whole}
use Rattle.tp4_flow.specs.declared.step.Sent.{Sent}
use Rattle.tp4_conn.specs.Agreeing.{confirm, confirms_again}
use Rattle.tp4_conn.specs.End.{End, Moved, end_of, frozen_for}
use Rattle.tp4_conn.specs.Making.{connected}
use Rattle.tp4_conn.specs.Matching.{fits, is_match}
use Rattle.tp4_conn.specs.Table.{Called, Event, Ticked, Took, at as base_at, stepped}
use Rattle.tp4_conn.specs.declared.end_record.EndRecord.{EndRecord}
use Rattle.tp4_conn.specs.declared.states.InAkWait.{InAkWait}
use Rattle.tp4_conn.specs.declared.states.InOpened.{InOpened}
use Rattle.tp4_conn.specs.declared.states.StateData.{StateData}
use Rattle.tp4_conn.specs.declared.states.StateData.TheVariants as stages
use Rattle.tp4_conn.specs.declared.timers.Timers.{Timers}
use Rattle.tp4_entity.specs.Entity.{Acted, Entity, at, end_at, moved, with_end}
use Rattle.tp4_entity.specs.References.{is_free_place}
use Rattle.tp4_entity.specs.Step.{call_of, connecting}
use Rattle.tp4_entity.proofs.Standings.{free_least, within}
use Rattle.law_tp4_history.specs.Tracks.{Whole}
use Rattle.law_tp4_history.specs.Moves.{AreOwn, HasSource, IsAnswering, IsOpened, IsSeenIn, stop_of}
use Rattle.law_tp4_history.specs.Seen.{seen}
use Rattle.law_tp4_pair.specs.Standing.{HasLeft}
use Rattle.tp4_world.specs.Telling.{ends_after}
use Rattle.tp4_world.specs.World.{World, end_numbered, entity_at, latest, with_entity}
use Rattle.tp4_world.specs.declared.place.EndAt.{EndAt}
use Rattle.tp4_world.specs.declared.place.Placed.{Placed}
use Rattle.tp4_world.proofs.Entities.{with_found}
use Rattle.law_tp4_lawful.proofs.Known.{IsReadAs}
use Rattle.law_tp4_lawful.proofs.Frames.{entity_other}
use Rattle.law_tp4_lawful.proofs.MakesPlaces.{at_other, at_same}
use Rattle.law_tp4_lawful.proofs.ReferencesLater.{partners_on}
use Rattle.law_tp4_lawful.proofs.Worlds.{Explains}
use Rattle.law_calm_run.proofs.Hall.{Post, posted}
use Rattle.law_recovery_run.specs.Aside.{IsSentTo, Names}
use Rattle.law_recovery_run.proofs.Aiming.{Going}
use Rattle.law_recovery_run.proofs.Aside.{both_are, kept_place}
use Rattle.law_recovery_run.specs.Following.{IsFromPartner, IsSpoken, Speaks}
use Rattle.law_recovery_run.proofs.Beside.{latest_elsewhere}
use Rattle.law_recovery_run.proofs.Delivering.{HasActed}
use Rattle.law_recovery_run.proofs.Speaking.{row_speaks}
use Rattle.law_recovery_run.proofs.Waiting.{posted_each}
use Rattle.law_recovery_run.proofs.RequestComes.{met_so}
use Rattle.law_recovery_run.proofs.Places.{IsMet, Makes, Stays, Takes}
use Rattle.law_recovery_run.specs.Over.{HasLeftEnd, KeepsLeft}
use Rattle.law_recovery.proofs.Asking.{at_place}
use Rattle.law_recovery.proofs.Outlasting.{end_keeps, made_so, row_stays}
use Rattle.law_recovery.proofs.Deeds.{AreSame, Begins, HearsFirst}
use Rattle.law_recovery.proofs.HalvesDeeds.{Deed, DoesRow, Heard, IsKept, New, Over, Row}
use Rattle.law_recovery.proofs.Partner.{IsHalf, IsQuiet, IsStill, Parties, known, partner_stands, still_goes}
use Rattle.law_recovery.proofs.Quiet.{Apart, all_quiet, answers_quiet, dr_plain, from_is, other_quiet, row_quiet, sources, taking_quiet}
use Rattle.law_recovery.proofs.Rows.{AreFlow, HasAccepted, IsAlone, IsDr, IsFlow, IsParting, StaysAccepted, StaysAsked, StaysOpened, accepted_alone, asked_alone, dr_row, left_alone, opened_alone}
use Rattle.law_recovery_run.specs.Halves.{KnowsPartner}
use Rattle.law_recovery_run.proofs.Doing.{each_all}
use Rattle.law_recovery_run.proofs.Keeping.{both_of}
use Rattle.law_recovery.proofs.Rowing.{frozen_of}
use Rattle.law_recovery.proofs.Staying.{begins_keeps, heard_keeps, over_keeps, row_keeps, same_keeps}

-- it has left, or stands so
abbrev pub Holds : {C : Type 0} → ℕ → Parties → List JournalEvent → World C → List Post → Type 0
Holds t0 p journal world posts = HasLeftEnd world p.x ⊎ IsHalf t0 p journal world posts

-- ---- what changes

pub still_half : (t0 : ℕ) (stage : StateData) → IsStill t0 stage → KnowsPartner stage
still_half t0 (stages.Opened o) still = tt
still_half t0 (stages.UserWait since) still = tt
still_half t0 (stages.AkWait w) still = tt
still_half t0 stage still = absurd still

flow_names : (t : WireTpdu) (r : ℕ) → IsFlow t → Names r t → ⊥
flow_names (wires.Cr credit source width calling called size preferred extra version classes ack_time text) r flow names = flow
flow_names (wires.Cc credit destination source width calling called size preferred extra version classes ack_time text) r flow names = flow
flow_names (wires.Dr destination source reason info text) r flow names = flow
flow_names other r flow names = names

-- a frozen end does nothing by its user or its timers
frozen_alone : (now : ℕ) (e : End) (event : Event) (when : ℕ) → e.stage ≡ stages.Frozen when → IsAlone event → (stepped whole now e event).tpdus ≡ []
frozen_alone now e event when is alone = subst (λ (s : StateData). (stepped whole now (record { base = e.base; stage = s }) event).tpdus ≡ []) (sym is) (by event alone)
  where
    by : (event : Event) → IsAlone event → (stepped whole now (record { base = e.base; stage = stages.Frozen when }) event).tpdus ≡ []
    by (Called call) alone = refl
    by (Took tpdu sum) alone = absurd alone
    by Ticked alone = refl

-- one entity of a network has become another, at the same address
module _ {C : Type 0} (old new : World C) (system : ℕ) (was is : Entity) (there : entity_at old.entities system ≡ Some was) (entities : new.entities ≡ with_entity old.entities system is) (own : is.own ≡ was.own) where
  -- the entity of a system then
  pub record Becomes (s : ℕ) (z : Entity) : Type 0 where
    pub entity : Entity
    pub placed : entity_at new.entities s ≡ Some entity
    pub own_is : entity.own ≡ z.own
    pub which : ((s ≡ system) × (z ≡ was) × (entity ≡ is)) ⊎ ((s ≡ system → ⊥) × (entity ≡ z))

  pub becomes : (s : ℕ) (z : Entity) → entity_at old.entities s ≡ Some z → Becomes s z
  becomes s z at_s = elim (cases_eq s system) [
    | inl same ↦
        let z_is : z ≡ was = same_Some z was (sym at_s ∙ ap (entity_at old.entities) same ∙ there) in
        record {
          entity = is;
          placed = ap (entity_at new.entities) same ∙ ap (λ (ps : List Placed). entity_at ps system) entities ∙ with_found old.entities system was is there;
          own_is = own ∙ ap (λ (e : Entity). e.own) (sym z_is);
          which = inl (same, z_is, refl);
        }
    | inr apart ↦ record {
      entity = z;
      placed = ap (λ (ps : List Placed). entity_at ps s) entities ∙ entity_other old.entities system s is apart ∙ at_s;
      own_is = refl;
      which = inr (apart, refl);
    }
  ]

  -- an end that stands as it stood
  pub stands_on : (s : ℕ) (z : Entity) (b : Becomes s z) (reference : ℕ) (e : End) → end_at z reference ≡ Some e → (s ≡ system → end_at is reference ≡ end_at was reference) → end_at b.entity reference ≡ Some e
  stands_on s z b reference e stands same = elim b.which [
    | inl here ↦ ap (λ (i : Entity). end_at i reference) here.2 ∙ same here.0 ∙ ap (λ (i : Entity). end_at i reference) (sym here.1) ∙ stands
    | inr apart ↦ ap (λ (i : Entity). end_at i reference) apart.1 ∙ stands
  ]

module _ {C : Type 0} (link : C → Link (List ℕ)) (names : List (List ℕ)) (timers : Timers) (going : Going) (t0 : ℕ) (p : Parties) where
  -- ---- no entity acts

  pub half_still : (journal made : List JournalEvent) (old new : World C) (posts : List Post) → AreSame old new → IsHalf t0 p journal old posts → IsHalf t0 p (journal ++ made) new posts
  half_still journal made old new posts same h = record {
    partners = partners_on journal made p.y p.x h.partners;
    entity = h.entity;
    placed = ap (λ (ps : List Placed). entity_at ps p.system) same.entities ∙ h.placed;
    own_is = h.own_is;
    end = h.end;
    stands = h.stands;
    number = ap (λ (es : List EndAt). latest es p.system p.reference) same.ends ∙ h.number;
    to_is = h.to_is;
    partner_is = h.partner_is;
    still = h.still;
    far = h.far;
    far_placed = ap (λ (ps : List Placed). entity_at ps p.far_system) same.entities ∙ h.far_placed;
    far_own = h.far_own;
    left = same_keeps old new same p.y p.far_system p.far_reference h.left;
    apart = h.apart;
    quiet = h.quiet;
  }

  pub end_still : (old new : World C) → AreSame old new → HasLeftEnd old p.x → HasLeftEnd new p.x
  end_still old new same h = end_keeps old new p.x (same_keeps old new same) h

  holds_still : (journal made : List JournalEvent) (old new : World C) (posts : List Post) → AreSame old new → Holds t0 p journal old posts → Holds t0 p (journal ++ made) new posts
  holds_still journal made old new posts same (inl left) = inl (end_still old new same left)
  holds_still journal made old new posts same (inr h) = inr (half_still journal made old new posts same h)

  -- ---- an entity acts

  module _ (w : Whole) (journal made : List JournalEvent) (old new : World C) (posts later : List Post) (explains : Explains link names timers w journal old) where
    abbrev now : ℕ
    now = (link old.carrier).clock

    -- an end that had left has left
    pub deed_keeps : Deed link old new made posts later → KeepsLeft old new
    deed_keeps (Row d) = row_keeps link names timers w journal old explains new d.system d.entity d.there d.reference d.end d.event d.place d.stands d.place_is d.entities d.ends
    deed_keeps (New d) = begins_keeps link old new made posts later d
    deed_keeps (Heard d) = heard_keeps link names timers w journal old explains new d.post made d.acts
    deed_keeps (Over d) = over_keeps link old new made posts later d

    module _ (h : IsHalf t0 p journal old posts) (keeps : KeepsLeft old new) where
      -- the number of the end, and that it was made
      made_here : end_numbered old.ends p.x ≡ Some (record { system = p.system; reference = p.reference })
      made_here = made_so link names timers w journal old explains p.x h.end (record { system = p.system; reference = p.reference; entity = h.entity; is_end = record { there = h.placed; stands = h.stands; number = h.number } })

      -- it has left by this
      leaves : (entity : Entity) (e : End) → new.ends ≡ old.ends → entity_at new.entities p.system ≡ Some entity → end_at entity p.reference ≡ Some e → HasLeft e.stage → HasLeftEnd new p.x
      leaves entity e ends placed stands left = record {
        system = p.system;
        reference = p.reference;
        at = record {
          made = ap (λ (es : List EndAt). end_numbered es p.x) ends ∙ made_here;
          left = λ other v there at number.
              let owner : other ≡ entity = same_Some other entity (sym there ∙ placed) in
              let it : v ≡ e = same_Some v e (sym at ∙ ap (λ (z : Entity). end_at z p.reference) owner ∙ stands) in
              subst (λ (z : End). HasLeft z.stage) (sym it) left;
        };
      }

      module _ (system : ℕ) (was is : Entity) (there : entity_at old.entities system ≡ Some was) (entities : new.entities ≡ with_entity old.entities system is) (own : is.own ≡ was.own) where
        abbrev B : ℕ → Entity → Type 0
        B s z = Becomes old new system was is there entities own s z

        abbrev near : B p.system h.entity
        near = becomes old new system was is there entities own p.system h.entity h.placed

        abbrev away : B p.far_system h.far
        away = becomes old new system was is there entities own p.far_system h.far h.far_placed

        -- it stands so, as this end
        stands_now : (e : End) → end_at near.entity p.reference ≡ Some e → latest new.ends p.system p.reference ≡ p.x → e.base.to ≡ h.end.base.to → e.base.partner ≡ h.end.base.partner → IsStill t0 e.stage
            → AllByRecursion (IsQuiet p) later → IsHalf t0 p (journal ++ made) new later
        stands_now e stands number to partner_is still quiet = record {
          partners = partners_on journal made p.y p.x h.partners;
          entity = near.entity;
          placed = near.placed;
          own_is = near.own_is ∙ h.own_is;
          end = e;
          stands = stands;
          number = number;
          to_is = to ∙ h.to_is;
          partner_is = partner_is ∙ h.partner_is;
          still = still;
          far = away.entity;
          far_placed = away.placed;
          far_own = away.own_is ∙ h.far_own;
          left = keeps p.y p.far_system p.far_reference h.left;
          apart = h.apart;
          quiet = quiet;
        }

        -- it stands as it stood
        stands_same : (p.system ≡ system → end_at is p.reference ≡ end_at was p.reference) → latest new.ends p.system p.reference ≡ p.x → AllByRecursion (IsQuiet p) later → IsHalf t0 p (journal ++ made) new later
        stands_same same number quiet = stands_now h.end (stands_on old new system was is there entities own p.system h.entity near p.reference h.end h.stands same) number refl refl h.still quiet

      -- ---- a row by a user or a timer

      module _ (d : DoesRow link old new made posts later) where
        abbrev m : Moved
        m = stepped whole (link old.carrier).clock d.end d.event

        abbrev changed : Entity
        changed = with_end (at (link old.carrier).clock d.entity) d.reference d.place

        inside : (1 ≤ d.reference)
        inside = (within d.entity d.reference d.end d.stands).least

        ends_same : new.ends ≡ old.ends
        ends_same = d.ends ∙ row_stays link names timers w journal old explains d.system d.entity d.there d.reference d.end d.event d.stands

        number_same : latest new.ends p.system p.reference ≡ p.x
        number_same = ap (λ (es : List EndAt). latest es p.system p.reference) ends_same ∙ h.number

        later_quiet : AllByRecursion (Apart link names timers w journal old explains going t0 p posts h d.system) m.tpdus → AllByRecursion (IsQuiet p) later
        later_quiet all = subst (AllByRecursion (IsQuiet p)) (sym d.later_is) (all_both (IsQuiet p) posts (posted d.system m.tpdus) h.quiet (posted_each (IsQuiet p) d.system m.tpdus all))

        -- another end does it
        module _ (apart : d.system ≡ p.system → d.reference ≡ p.reference → ⊥) where
          no_tpdus : m.tpdus ≡ [] → AllByRecursion (Apart link names timers w journal old explains going t0 p posts h d.system) m.tpdus
          no_tpdus none = subst (AllByRecursion (Apart link names timers w journal old explains going t0 p posts h d.system)) (sym none) tt

          sends_quiet : AllByRecursion (Apart link names timers w journal old explains going t0 p posts h d.system) m.tpdus
          sends_quiet = by (stop_of d.end.stage) refl
            where
              by : (stop : Option ℕ) → stop_of d.end.stage ≡ stop → AllByRecursion (Apart link names timers w journal old explains going t0 p posts h d.system) m.tpdus
              by (Some when) is = no_tpdus (frozen_alone (link old.carrier).clock d.end d.event when (frozen_of d.end.stage when is) d.alone)
              by None goes = elim (at_place d.system d.reference p.far_system p.far_reference) [
                | inl here ↦
                    let far_is : d.entity ≡ h.far = same_Some d.entity h.far (sym d.there ∙ ap (entity_at old.entities) here.0 ∙ h.far_placed) in
                    let left : HasLeft d.end.stage = partner_stands link names timers w journal old explains t0 p posts h d.end ((λ i. end_at (sym far_is i) (sym here.1 i)) ∙ d.stands) in
                    row_quiet link names timers w journal old explains going t0 p posts h d.system d.entity d.there d.reference d.end d.stands d.event goes d.fit d.sourced d.may apart
                    (each_all IsParting (λ (sent : Sent). d.system ≡ p.far_system → IsSentTo p.here p.reference sent → IsDr sent.tpdu) m.tpdus
                    (λ sent parting at_it to_it. elim parting [ inl dr ↦ dr | inr none ↦ absurd (none-some p.reference (sym none ∙ to_it.target)) ])
                    (left_alone (link old.carrier).clock d.end d.event d.alone left))
                | inr not_partner ↦
                    other_quiet link names timers w journal old explains going t0 p posts h d.system d.entity d.there d.reference d.end d.stands d.event goes d.fit d.sourced d.may apart not_partner
                    (λ to named. d.unnamed p.reference named)
              ]

          row_beside : IsHalf t0 p (journal ++ made) new later
          row_beside = stands_same d.system d.entity changed d.there d.entities refl (λ here. at_other (at (link old.carrier).clock d.entity) d.reference p.reference d.place inside (λ same. apart (sym here) (sym same)))
              number_same (later_quiet sends_quiet)

        -- the end itself does it
        module _ (here : d.system ≡ p.system) (same : d.reference ≡ p.reference) where
          owner : d.entity ≡ h.entity
          owner = same_Some d.entity h.entity (sym d.there ∙ ap (entity_at old.entities) here ∙ h.placed)

          it : d.end ≡ h.end
          it = same_Some d.end h.end (sym d.stands ∙ (λ i. end_at (owner i) (same i)) ∙ h.stands)

          abbrev near_now : Becomes old new d.system d.entity changed d.there d.entities refl p.system h.entity
          near_now = becomes old new d.system d.entity changed d.there d.entities refl p.system h.entity h.placed

          near_is : near_now.entity ≡ changed
          near_is = elim near_now.which [ inl on ↦ on.2 | inr off ↦ absurd (off.0 (sym here)) ]

          -- the end after it
          stands_after : (e : Option End) → d.place ≡ e → end_at near_now.entity p.reference ≡ e
          stands_after e place =
              let w = within d.entity d.reference d.end d.stands in
              ap (λ (z : Entity). end_at z p.reference) near_is ∙ ap (end_at changed) (sym same) ∙ at_same (at (link old.carrier).clock d.entity) d.reference d.place w.least w.most ∙ place

          row_leaves : HasLeft m.stage → HasLeftEnd new p.x
          row_leaves left = by d.place refl
            where
              gone : d.place ≡ None → HasLeftEnd new p.x
              gone none = record {
                system = p.system;
                reference = p.reference;
                at = record {
                  made = ap (λ (es : List EndAt). end_numbered es p.x) ends_same ∙ made_here;
                  left = λ other v there at number.
                      let owner : other ≡ near_now.entity = same_Some other near_now.entity (sym there ∙ near_now.placed) in
                      absurd (none-some v (sym (stands_after None none) ∙ ap (λ (z : Entity). end_at z p.reference) (sym owner) ∙ at));
                };
              }

              by : (place : Option End) → d.place ≡ place → HasLeftEnd new p.x
              by None is = gone is
              by (Some e) is = leaves near_now.entity e ends_same near_now.placed (stands_after (Some e) is) (subst (λ (z : End). HasLeft z.stage) (sym (d.place_is e is)) left)

          row_stands : IsStill t0 m.stage → m.base.to ≡ h.end.base.to → m.base.partner ≡ h.end.base.partner
              → AllByRecursion (Apart link names timers w journal old explains going t0 p posts h d.system) m.tpdus → IsHalf t0 p (journal ++ made) new later
          row_stands still to partner_is all =
              stands_now d.system d.entity changed d.there d.entities refl (end_of m) (stands_after (Some (end_of m)) (d.stays (still_goes t0 m.stage still))) number_same to partner_is still (later_quiet all)

          -- what it sends to its partner does not come to itself
          not_back : (sent : Sent) → sent.to ≡ p.there → destination_of sent.tpdu ≡ Some p.far_reference → IsSentTo p.here p.reference sent → ⊥
          not_back sent to target back = h.apart (sym back.address ∙ to) (same_Some p.reference p.far_reference (sym back.target ∙ target))

          goes_here : stop_of d.end.stage ≡ None
          goes_here = ap (λ (z : End). stop_of z.stage) it ∙ still_goes t0 h.end.stage h.still

          sourced_here : AllByRecursion (λ (sent : Sent). HasSource (seen 0 sent.tpdu)) m.tpdus
          sourced_here = sources link names timers w journal old explains going t0 p posts h d.system d.entity d.there d.reference d.end d.stands d.event goes_here d.fit d.sourced d.may

          abbrev state : IsSeenIn (w.base.end (known link names timers w journal old explains t0 p posts h).0.k).birth (w.base.end (known link names timers w journal old explains t0 p posts h).0.k).took
              (w.base.end (known link names timers w journal old explains t0 p posts h).0.k).latest h.end.base h.end.stage
          state = (known link names timers w journal old explains t0 p posts h).0.sees.state

          by_opened : (o : InOpened) → h.end.stage ≡ stages.Opened o → HasLeftEnd new p.x ⊎ IsHalf t0 p (journal ++ made) new later
          by_opened o is = by (opened_alone (link old.carrier).clock d.end.base o d.event d.alone)
            where
              stage_is : d.end.stage ≡ stages.Opened o
              stage_is = ap (λ (z : End). z.stage) it ∙ is

              end_is : d.end ≡ record { base = d.end.base; stage = stages.Opened o }
              end_is = λ i. record { base = d.end.base; stage = stage_is i }

              row_is : m ≡ stepped whole (link old.carrier).clock (record { base = d.end.base; stage = stages.Opened o }) d.event
              row_is = ap (λ (z : End). stepped whole (link old.carrier).clock z d.event) end_is

              seen_so : IsOpened (w.base.end (known link names timers w journal old explains t0 p posts h).0.k).took (w.base.end (known link names timers w journal old explains t0 p posts h).0.k).latest h.end.base o
              seen_so = subst (IsSeenIn (w.base.end (known link names timers w journal old explains t0 p posts h).0.k).birth (w.base.end (known link names timers w journal old explains t0 p posts h).0.k).took
                  (w.base.end (known link names timers w journal old explains t0 p posts h).0.k).latest h.end.base) is state

              own : AreOwn d.end.base o.halves
              own = subst (λ (z : End). AreOwn z.base o.halves) (sym it) seen_so.halves

              speaks : Speaks d.end.base m
              speaks = subst (Speaks d.end.base) (sym row_is) (row_speaks (link old.carrier).clock (record { base = d.end.base; stage = stages.Opened o }) d.event tt own (from_alone d.event d.alone))
                where
                  from_alone : (event : Event) → IsAlone event → IsFromPartner d.end.base event
                  from_alone (Called call) alone = tt
                  from_alone (Took tpdu sum) alone = absurd alone
                  from_alone Ticked alone = tt

              to_is : d.end.base.to ≡ p.there
              to_is = ap (λ (z : End). z.base.to) it ∙ h.to_is

              partner_is : d.end.base.partner ≡ p.far_reference
              partner_is = ap (λ (z : End). z.base.partner) it ∙ h.partner_is

              quiet : AreFlow m.tpdus → AllByRecursion (Apart link names timers w journal old explains going t0 p posts h d.system) m.tpdus
              quiet flow =
                  both_of (IsSpoken d.end.base) (λ (sent : Sent). IsFlow sent.tpdu × HasSource (seen 0 sent.tpdu)) (Apart link names timers w journal old explains going t0 p posts h d.system) m.tpdus
                  (λ sent said more. record {
                    parting = λ at_it back. absurd (not_back sent (said.to ∙ to_is) (said.target ∙ ap (λ (n : ℕ). Some n) partner_is) back);
                    named = λ at_it named. absurd (flow_names sent.tpdu p.reference more.0 named);
                    sourced = more.1;
                  }) speaks.tpdus
                  (both_of (λ (sent : Sent). IsFlow sent.tpdu) (λ (sent : Sent). HasSource (seen 0 sent.tpdu)) (λ (sent : Sent). IsFlow sent.tpdu × HasSource (seen 0 sent.tpdu)) m.tpdus (λ sent one other. (one, other)) flow
                  sourced_here)

              by : HasLeft (stepped whole (link old.carrier).clock (record { base = d.end.base; stage = stages.Opened o }) d.event).stage
                  ⊎ StaysOpened (base_at (link old.carrier).clock d.end.base) o (stepped whole (link old.carrier).clock (record { base = d.end.base; stage = stages.Opened o }) d.event)
                  → HasLeftEnd new p.x ⊎ IsHalf t0 p (journal ++ made) new later
              by (inl left) = inl (row_leaves (subst (λ (z : Moved). HasLeft z.stage) (sym row_is) left))
              by (inr on) =
                  inr (row_stands (subst (IsStill t0) (sym (ap (λ (z : Moved). z.stage) row_is ∙ on.stage)) (subst (λ (n : ℕ). n ≤ t0) (sym on.took) (subst (IsStill t0) is h.still)))
                  (ap (λ (z : Moved). z.base.to) row_is ∙ ap (λ (b : EndRecord). b.to) on.base ∙ ap (λ (z : End). z.base.to) it)
                  (ap (λ (z : Moved). z.base.partner) row_is ∙ ap (λ (b : EndRecord). b.partner) on.base ∙ ap (λ (z : End). z.base.partner) it)
                  (quiet (subst (λ (z : Moved). AreFlow z.tpdus) (sym row_is) on.tpdus)))

          by_accepted : (v : InAkWait) → h.end.stage ≡ stages.AkWait v → HasLeftEnd new p.x ⊎ IsHalf t0 p (journal ++ made) new later
          by_accepted v is = by (accepted_alone (link old.carrier).clock d.end.base v d.event d.alone seen_so.shut)
            where
              end_is : d.end ≡ record { base = d.end.base; stage = stages.AkWait v }
              end_is = λ i. record { base = d.end.base; stage = (ap (λ (z : End). z.stage) it ∙ is) i }

              row_is : m ≡ stepped whole (link old.carrier).clock (record { base = d.end.base; stage = stages.AkWait v }) d.event
              row_is = ap (λ (z : End). stepped whole (link old.carrier).clock z d.event) end_is

              seen_so : IsAnswering (w.base.end (known link names timers w journal old explains t0 p posts h).0.k).latest h.end.base v
              seen_so = subst (IsSeenIn (w.base.end (known link names timers w journal old explains t0 p posts h).0.k).birth (w.base.end (known link names timers w journal old explains t0 p posts h).0.k).took
                  (w.base.end (known link names timers w journal old explains t0 p posts h).0.k).latest h.end.base) is state

              agreed : d.end.base.agreed ≡ Some seen_so.halves.terms
              agreed = ap (λ (z : End). z.base.agreed) it ∙ seen_so.halves.agreed

              to_is : d.end.base.to ≡ p.there
              to_is = ap (λ (z : End). z.base.to) it ∙ h.to_is

              partner_is : d.end.base.partner ≡ p.far_reference
              partner_is = ap (λ (z : End). z.base.partner) it ∙ h.partner_is

              quiet_none : m.tpdus ≡ [] → AllByRecursion (Apart link names timers w journal old explains going t0 p posts h d.system) m.tpdus
              quiet_none none = subst (AllByRecursion (Apart link names timers w journal old explains going t0 p posts h d.system)) (sym none) tt

              quiet_confirm : m.tpdus ≡ confirms_again (base_at (link old.carrier).clock d.end.base) d.end.base.agreed v.octets
                  → AllByRecursion (Apart link names timers w journal old explains going t0 p posts h d.system) m.tpdus
              quiet_confirm tpdus =
                  let b : EndRecord = base_at (link old.carrier).clock d.end.base in
                  let sent : Sent = confirm b seen_so.halves.terms v.octets in
                  let is_one : m.tpdus ≡ sent ∷ [] = tpdus ∙ ap (λ (o : Option Options). confirms_again b o v.octets) agreed in
                  let sourced : HasSource (seen 0 sent.tpdu) = (subst (AllByRecursion (λ (s : Sent). HasSource (seen 0 s.tpdu))) is_one sourced_here).0 in
                  subst (AllByRecursion (Apart link names timers w journal old explains going t0 p posts h d.system)) (sym is_one) (
                    record {
                      parting = λ at_it back. absurd (not_back sent to_is (ap (λ (n : ℕ). Some n) partner_is) back);
                      named = λ at_it named. (record { address = to_is; target = ap (λ (n : ℕ). Some n) partner_is }, tt);
                      sourced = sourced;
                    },
                    tt,
                  )

              by : HasLeft (stepped whole (link old.carrier).clock (record { base = d.end.base; stage = stages.AkWait v }) d.event).stage
                  ⊎ StaysAccepted (link old.carrier).clock (base_at (link old.carrier).clock d.end.base) v (stepped whole (link old.carrier).clock (record { base = d.end.base; stage = stages.AkWait v }) d.event)
                  → HasLeftEnd new p.x ⊎ IsHalf t0 p (journal ++ made) new later
              by (inl left) = inl (row_leaves (subst (λ (z : Moved). HasLeft z.stage) (sym row_is) left))
              by (inr on) =
                  inr (row_stands (subst (IsStill t0) (sym (ap (λ (z : Moved). z.stage) row_is ∙ on.stage)) tt)
                  (ap (λ (z : Moved). z.base.to) row_is ∙ ap (λ (b : EndRecord). b.to) on.base ∙ ap (λ (z : End). z.base.to) it)
                  (ap (λ (z : Moved). z.base.partner) row_is ∙ ap (λ (b : EndRecord). b.partner) on.base ∙ ap (λ (z : End). z.base.partner) it)
                  (elim on.does [
                    | inl none ↦ quiet_none (ap (λ (z : Moved). z.tpdus) row_is ∙ none.1)
                    | inr sent ↦ quiet_confirm (ap (λ (z : Moved). z.tpdus) row_is ∙ sent.tpdus)
                  ]))

          by_asked : (since : ℕ) → h.end.stage ≡ stages.UserWait since → HasLeftEnd new p.x ⊎ IsHalf t0 p (journal ++ made) new later
          by_asked since is = by (asked_alone (link old.carrier).clock d.end.base since d.event d.alone)
            where
              end_is : d.end ≡ record { base = d.end.base; stage = stages.UserWait since }
              end_is = λ i. record { base = d.end.base; stage = (ap (λ (z : End). z.stage) it ∙ is) i }

              row_is : m ≡ stepped whole (link old.carrier).clock (record { base = d.end.base; stage = stages.UserWait since }) d.event
              row_is = ap (λ (z : End). stepped whole (link old.carrier).clock z d.event) end_is

              to_is : d.end.base.to ≡ p.there
              to_is = ap (λ (z : End). z.base.to) it ∙ h.to_is

              partner_is : d.end.base.partner ≡ p.far_reference
              partner_is = ap (λ (z : End). z.base.partner) it ∙ h.partner_is

              quiet_accept : (options : Options) (octets : List ℕ) → m.tpdus ≡ confirm (record (base_at (link old.carrier).clock d.end.base) { agreed = Some options }) options octets ∷ []
                  → AllByRecursion (Apart link names timers w journal old explains going t0 p posts h d.system) m.tpdus
              quiet_accept options octets one =
                  let sent : Sent = confirm (record (base_at (link old.carrier).clock d.end.base) { agreed = Some options }) options octets in
                  let sourced : HasSource (seen 0 sent.tpdu) = (subst (AllByRecursion (λ (s : Sent). HasSource (seen 0 s.tpdu))) one sourced_here).0 in
                  subst (AllByRecursion (Apart link names timers w journal old explains going t0 p posts h d.system)) (sym one) (
                    record {
                      parting = λ at_it back. absurd (not_back sent to_is (ap (λ (n : ℕ). Some n) partner_is) back);
                      named = λ at_it named. (record { address = to_is; target = ap (λ (n : ℕ). Some n) partner_is }, tt);
                      sourced = sourced;
                    },
                    tt,
                  )

              by : HasLeft (stepped whole (link old.carrier).clock (record { base = d.end.base; stage = stages.UserWait since }) d.event).stage
                  ⊎ (StaysAsked (base_at (link old.carrier).clock d.end.base) since (stepped whole (link old.carrier).clock (record { base = d.end.base; stage = stages.UserWait since }) d.event)
                  ⊎ HasAccepted (base_at (link old.carrier).clock d.end.base) (stepped whole (link old.carrier).clock (record { base = d.end.base; stage = stages.UserWait since }) d.event))
                  → HasLeftEnd new p.x ⊎ IsHalf t0 p (journal ++ made) new later
              by (inl left) = inl (row_leaves (subst (λ (z : Moved). HasLeft z.stage) (sym row_is) left))
              by (inr (inl on)) =
                  inr (row_stands (subst (IsStill t0) (sym (ap (λ (z : Moved). z.stage) row_is ∙ on.stage)) tt)
                  (ap (λ (z : Moved). z.base.to) row_is ∙ ap (λ (b : EndRecord). b.to) on.base ∙ ap (λ (z : End). z.base.to) it)
                  (ap (λ (z : Moved). z.base.partner) row_is ∙ ap (λ (b : EndRecord). b.partner) on.base ∙ ap (λ (z : End). z.base.partner) it)
                  (subst (AllByRecursion (Apart link names timers w journal old explains going t0 p posts h d.system)) (sym (ap (λ (z : Moved). z.tpdus) row_is ∙ on.none)) tt))
              by (inr (inr on)) =
                  inr (row_stands (subst (IsStill t0) (sym (ap (λ (z : Moved). z.stage) row_is ∙ on.stage)) tt)
                  (ap (λ (z : Moved). z.base.to) row_is ∙ ap (λ (b : EndRecord). b.to) on.base ∙ ap (λ (z : End). z.base.to) it)
                  (ap (λ (z : Moved). z.base.partner) row_is ∙ ap (λ (b : EndRecord). b.partner) on.base ∙ ap (λ (z : End). z.base.partner) it)
                  (quiet_accept on.options on.octets (ap (λ (z : Moved). z.tpdus) row_is ∙ on.tpdus)))

          row_here : HasLeftEnd new p.x ⊎ IsHalf t0 p (journal ++ made) new later
          row_here = by h.end.stage refl
            where
              by : (stage : StateData) → h.end.stage ≡ stage → HasLeftEnd new p.x ⊎ IsHalf t0 p (journal ++ made) new later
              by (stages.Opened o) is = by_opened o is
              by (stages.AkWait v) is = by_accepted v is
              by (stages.UserWait since) is = by_asked since is
              by stage is = absurd (subst (IsStill t0) is h.still)

        row_on : Holds t0 p (journal ++ made) new later
        row_on = elim (at_place d.system d.reference p.system p.reference) [
          | inl here ↦ row_here here.0 here.1
          | inr apart ↦ inr (row_beside apart)
        ]

      -- ---- a new end

      begins_on : Begins link old new made posts later → Holds t0 p (journal ++ made) new later
      begins_on d =
          let f = free_least (link old.carrier).clock d.reference d.entity d.free in
          let A : Acted = connecting (link old.carrier).clock d.entity d.reference d.request in
          let apart : d.system ≡ p.system → d.reference ≡ p.reference → ⊥ = (λ here same.
          let owner : d.entity ≡ h.entity = same_Some d.entity h.entity (sym d.there ∙ ap (entity_at old.entities) here ∙ h.placed) in
          kept_place (link old.carrier).clock (frozen_for h.end.base.timers) h.end.stage (still_goes t0 h.end.stage h.still)
          (ap (is_free_place (link old.carrier).clock) (sym h.stands ∙ (λ i. end_at (sym owner i) (sym same i))) ∙ f.free)) in
          inr (stands_same d.system d.entity A.entity d.there d.entities refl
          (λ here. at_other (at (link old.carrier).clock d.entity) d.reference p.reference (Some (end_of (connected (link old.carrier).clock (call_of d.entity d.reference d.request)))) f.least
          (λ same. apart (sym here) (sym same)))
          (ap (λ (es : List EndAt). latest es p.system p.reference) d.ends
          ∙ latest_elsewhere old.ends (record { system = d.system; reference = d.reference }) p.system p.reference (λ here same. apart (sym here) (sym same)) ∙ h.number)
          (subst (AllByRecursion (IsQuiet p)) (sym d.later_is) (all_both (IsQuiet p) posts (posted d.system A.tpdus) h.quiet
          (posted_each (IsQuiet p) d.system A.tpdus (
            record {
              parting = λ at_it to_it. absurd (none-some p.reference to_it.target);
              named = λ at_it named. absurd (apart at_it named);
              sourced = λ kind. absurd (cc kind);
            },
            tt,
          )))))

      -- ---- what comes

      module _ (d : HearsFirst link old new made posts later) where
        abbrev a : HasActed link old new d.post made
        a = d.acts

        abbrev R : WireTpdu → Bool → Type 0
        R t sum = IsReadAs d.acts.entity d.post.sent (t, sum)

        came : IsMet R (link old.carrier).clock (at (link old.carrier).clock d.acts.entity) d.acts.sender.own d.acts.acted
        came = met_so link names timers w journal old explains new d.post d.rest made d.acts

        all : AllByRecursion (IsQuiet p) (d.post ∷ d.rest)
        all = all_quiet link names timers w journal old explains going t0 p posts h new d.post d.rest made d.posts_are d.acts

        heard_quiet : AllByRecursion (Apart link names timers w journal old explains going t0 p posts h d.acts.system) d.acts.acted.tpdus → AllByRecursion (IsQuiet p) later
        heard_quiet sends =
            subst (AllByRecursion (IsQuiet p)) (sym d.later_is) (all_both (IsQuiet p) d.rest (posted d.acts.system d.acts.acted.tpdus) all.1 (posted_each (IsQuiet p) d.acts.system d.acts.acted.tpdus sends))

        stands_heard : (p.system ≡ d.acts.system → end_at d.acts.acted.entity p.reference ≡ end_at d.acts.entity p.reference) → latest new.ends p.system p.reference ≡ p.x
            → AllByRecursion (Apart link names timers w journal old explains going t0 p posts h d.acts.system) d.acts.acted.tpdus → IsHalf t0 p (journal ++ made) new later
        stands_heard same number sends = stands_same d.acts.system d.acts.entity d.acts.acted.entity d.acts.there d.acts.entities d.acts.kept same number (heard_quiet sends)

        -- an end takes it
        module _ (t : WireTpdu) (sum : Bool) (reference : ℕ) (o : End) (read : R t sum) (target : destination_of t ≡ Some reference) (stands : end_at d.acts.entity reference ≡ Some o)
            (match : is_match o.base o.stage d.acts.sender.own t ≡ true)
            (is : d.acts.acted ≡ moved (at (link old.carrier).clock d.acts.entity) reference (stepped whole (link old.carrier).clock o (Took t sum))) where
          abbrev n : Moved
          n = stepped whole (link old.carrier).clock o (Took t sum)

          ends_took : new.ends ≡ old.ends
          ends_took = d.acts.ends ∙ ap (λ (z : Acted). ends_after old.ends d.acts.system z.events) is
              ∙ row_stays link names timers w journal old explains d.acts.system d.acts.entity d.acts.there reference o (Took t sum) stands

          number_took : latest new.ends p.system p.reference ≡ p.x
          number_took = ap (λ (es : List EndAt). latest es p.system p.reference) ends_took ∙ h.number

          took_beside : (d.acts.system ≡ p.system → reference ≡ p.reference → ⊥) → IsHalf t0 p (journal ++ made) new later
          took_beside apart =
              stands_heard
              (λ here. ap (λ (z : Acted). end_at z.entity p.reference) is
              ∙ at_other (at (link old.carrier).clock d.acts.entity) reference p.reference (Some (end_of n)) (within d.acts.entity reference o stands).least (λ same. apart (sym here) (sym same)))
              number_took
              (subst (AllByRecursion (Apart link names timers w journal old explains going t0 p posts h d.acts.system)) (sym (ap (λ (z : Acted). z.tpdus) is))
              (taking_quiet link names timers w journal old explains going t0 p posts h new d.post d.rest made d.posts_are d.acts t sum reference o read target stands match apart))

          module _ (here : d.acts.system ≡ p.system) (same : reference ≡ p.reference) where
            owner_here : d.acts.entity ≡ h.entity
            owner_here = same_Some d.acts.entity h.entity (sym d.acts.there ∙ ap (entity_at old.entities) here ∙ h.placed)

            it_is : o ≡ h.end
            it_is = same_Some o h.end (sym stands ∙ (λ i. end_at (owner_here i) (same i)) ∙ h.stands)

            sender_far : d.post.system ≡ p.far_system
            sender_far = explains.known.apart d.post.system p.far_system d.acts.sender h.far d.acts.sender_there h.far_placed
                (sym (from_is link names timers w journal old explains going t0 p posts h new d.post d.rest made d.posts_are d.acts t sum reference o read target stands match)
                ∙ ap (λ (z : End). z.base.to) it_is ∙ h.to_is ∙ sym h.far_own)

            sent_here : IsSentTo p.here p.reference d.post.sent
            sent_here = record {
              address = sym d.acts.own_is ∙ ap (λ (z : Entity). z.own) owner_here ∙ h.own_is;
              target = sym read.target ∙ target ∙ ap (λ (i : ℕ). Some i) same;
            }

            dr_came : IsDr d.post.sent.tpdu
            dr_came = all.0.parting sender_far sent_here

            pub dr_read : IsDr t
            dr_read = subst IsDr (sym (read.control (dr_plain d.post.sent.tpdu dr_came))) dr_came

            fit_o : fits o.base o.stage t ≡ true
            fit_o = (both_are (pointwise nat_eq o.base.to d.acts.sender.own) (fits o.base o.stage t) match).1

            abbrev near_then : Becomes old new d.acts.system d.acts.entity d.acts.acted.entity d.acts.there d.acts.entities d.acts.kept p.system h.entity
            near_then = becomes old new d.acts.system d.acts.entity d.acts.acted.entity d.acts.there d.acts.entities d.acts.kept p.system h.entity h.placed

            near_acts : near_then.entity ≡ d.acts.acted.entity
            near_acts = elim near_then.which [ inl on ↦ on.2 | inr off ↦ absurd (off.0 (sym here)) ]

            stands_then : end_at near_then.entity p.reference ≡ Some (end_of n)
            stands_then =
                let i = within d.acts.entity reference o stands in
                ap (λ (z : Entity). end_at z p.reference) near_acts ∙ ap (end_at d.acts.acted.entity) (sym same) ∙ ap (λ (z : Acted). end_at z.entity reference) is
                ∙ at_same (at (link old.carrier).clock d.acts.entity) reference (Some (end_of n)) i.least i.most

            took_here : HasLeftEnd new p.x ⊎ IsHalf t0 p (journal ++ made) new later
            took_here = elim (dr_row (link old.carrier).clock o.base o.stage t sum (subst (λ (z : End). KnowsPartner z.stage) (sym it_is) (still_half t0 h.end.stage h.still)) dr_read fit_o) [
              | inl unmoved ↦
                  let end_is : end_of n ≡ h.end = unmoved.end_is ∙ it_is in
                  inr (stands_now d.acts.system d.acts.entity d.acts.acted.entity d.acts.there d.acts.entities d.acts.kept h.end (stands_then ∙ ap (λ (z : End). Some z) end_is) number_took refl refl h.still
                  (heard_quiet (subst (AllByRecursion (Apart link names timers w journal old explains going t0 p posts h d.acts.system)) (sym (ap (λ (z : Acted). z.tpdus) is ∙ unmoved.none)) tt)))
              | inr left ↦ inl (leaves near_then.entity (end_of n) ends_took near_then.placed stands_then left)
            ]

        heard_by : IsMet R (link old.carrier).clock (at (link old.carrier).clock d.acts.entity) d.acts.sender.own d.acts.acted → Holds t0 p (journal ++ made) new later
        heard_by (Stays same none answers) =
            inr (stands_heard (λ here. ap (λ (z : Entity). end_at z p.reference) same)
            (ap (λ (es : List EndAt). latest es p.system p.reference) (d.acts.ends ∙ none old.ends d.acts.system) ∙ h.number)
            (answers_quiet link names timers w journal old explains going t0 p posts h new d.post d.rest made d.posts_are d.acts answers))
        heard_by (Takes t sum reference o read target stands match is) = elim (at_place d.acts.system reference p.system p.reference) [
          | inl here ↦ took_here t sum reference o read target stands match is here.0 here.1
          | inr apart ↦ inr (took_beside t sum reference o read target stands match is apart)
        ]
        heard_by (Makes reference base octets free own is) =
            let apart : d.acts.system ≡ p.system → reference ≡ p.reference → ⊥ = (λ here same.
            let owner : d.acts.entity ≡ h.entity = same_Some d.acts.entity h.entity (sym d.acts.there ∙ ap (entity_at old.entities) here ∙ h.placed) in
            kept_place (link old.carrier).clock (frozen_for h.end.base.timers) h.end.stage (still_goes t0 h.end.stage h.still)
            (ap (is_free_place (link old.carrier).clock) (sym h.stands ∙ (λ i. end_at (sym owner i) (sym same i))) ∙ free.free)) in
            inr (stands_heard
            (λ here. ap (λ (z : Acted). end_at z.entity p.reference) is ∙ at_other (at (link old.carrier).clock d.acts.entity) reference p.reference _ free.least (λ same. apart (sym here) (sym same)))
            (ap (λ (es : List EndAt). latest es p.system p.reference) (d.acts.ends ∙ ap (λ (z : Acted). ends_after old.ends d.acts.system z.events) is)
            ∙ latest_elsewhere old.ends (record { system = d.acts.system; reference = base.own }) p.system p.reference (λ here same. apart (sym here) (sym (same ∙ own))) ∙ h.number)
            (subst (AllByRecursion (Apart link names timers w journal old explains going t0 p posts h d.acts.system)) (sym (ap (λ (z : Acted). z.tpdus) is)) tt))

        heard_on : Holds t0 p (journal ++ made) new later
        heard_on = heard_by came

      pub half_on : Deed link old new made posts later → Holds t0 p (journal ++ made) new later
      half_on (Row d) = row_on d
      half_on (New d) = begins_on d
      half_on (Heard d) = heard_on d
      half_on (Over d) =
          inr (stands_same d.system d.entity (at (link old.carrier).clock d.entity) d.there d.entities refl (λ here. refl) (ap (λ (es : List EndAt). latest es p.system p.reference) d.ends ∙ h.number)
          (subst (AllByRecursion (IsQuiet p)) (sym d.later_is) h.quiet))

    holds_on : Deed link old new made posts later → Holds t0 p journal old posts → Holds t0 p (journal ++ made) new later
    holds_on deed (inl left) = inl (end_keeps old new p.x (deed_keeps deed) left)
    holds_on deed (inr h) = half_on h (deed_keeps deed) deed

  pub kept : IsKept link names timers (Holds t0 p)
  kept = record {
    still = λ journal made old new posts same clock holds. holds_still journal made old new posts same holds;
    clocks = λ journal made old new same clock waiting holds. holds_still journal made old new [] same holds;
    deed = λ w journal made old new posts later explains deed holds. holds_on w journal made old new posts later explains deed holds;
  }
