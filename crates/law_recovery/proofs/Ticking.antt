-- A tick where nothing waits, as a step of two ends that know each other: the clock goes on, and then each end that is due ticks once.
use Rattle.std.proofs.Common.{◌≡◌, ◌≢◌, ◌⊎◌, inl, inr, ℕ, ◌+◌, Bool, true, false, List, [], ◌∷◌, ◌++◌, Option, Some, None, refl, sym, ◌∙◌, ap, subst, append-nil, append_assoc}
use Rattle.std.specs.List.{AllByRecursion}
use Rattle.std.proofs.lemmas.Option.{same_Some}
use Rattle.osi_base.specs.Link.{Link}
use Rattle.script_journal.specs.Lawful.{Marked, shown, submitted}
use Rattle.script_journal.specs.declared.event.Event.{Event as JournalEvent}
use Rattle.script_journal.specs.declared.event.Event.TheVariants as events
use Rattle.script_journal.proofs.Showing.{shown_both, submitted_both}
use Rattle.tpdu.specs.declared.service.EndTold.TheVariants.{Gone}
use Rattle.tpdu.specs.declared.service.GoneCause.{GoneCause}
use Rattle.tp4_flow.specs.declared.step.EndEvent.{EndEvent}
use Rattle.tp4_number.specs.Number.{whole}
use Rattle.tp4_sending.specs.SendingHalf.{due_of}
use Rattle.tp4_sending.specs.Pieces.{sooner}
use Rattle.tp4_conn.specs.End.{End, Moved, end_of, gone}
use Rattle.tp4_conn.specs.Living.{IsInTime}
use Rattle.tp4_conn.specs.Proper.{IsProper}
use Rattle.tp4_conn.specs.Table.{Ticked, at as base_at, due, stepped}
use Rattle.tp4_conn.specs.declared.end_record.EndRecord.{EndRecord}
use Rattle.tp4_conn.specs.declared.states.StateData.{StateData}
use Rattle.tp4_conn.specs.declared.states.StateData.TheVariants as stages
use Rattle.tp4_conn.specs.declared.timers.Timers.{Timers}
use Rattle.tp4_entity.specs.Entity.{Acted, Entity, at, end_at}
use Rattle.tp4_entity.specs.Step.{is_due, kept_end, ticked_to}
use Rattle.tp4_entity.proofs.Standings.{within}
use Rattle.law_tp4_history.specs.Journals.{IsAside}
use Rattle.law_tp4_history.specs.Tracks.{Whole}
use Rattle.law_tp4_history.specs.Lines.{shown_in}
use Rattle.law_tp4_history.specs.Moves.{stop_of}
use Rattle.law_tp4_proper.proofs.Ends.{kept_later, waits}
use Rattle.law_tp4_proper.proofs.Rows.{ticked_later}
use Rattle.law_tp4_pair.specs.Pair.{Clock, Pair, next}
use Rattle.tp4_world.specs.Telling.{ends_after, events_after}
use Rattle.tp4_world.specs.World.{World, entity_at, latest, with_entity}
use Rattle.tp4_world.specs.declared.place.EndAt.{EndAt}
use Rattle.tp4_world.specs.declared.place.Placed.{Placed}
use Rattle.law_tp4_lawful.proofs.Known.{IsKnown, IsThere}
use Rattle.law_tp4_lawful.proofs.MakesPlaces.{at_same}
use Rattle.law_tp4_lawful.proofs.Worlds.{Explains}
use Rattle.law_calm_run.proofs.Hall.{AreWaiting, Post, posted}
use Rattle.law_recovery_run.specs.Aside.{AreFacing}
use Rattle.law_recovery_run.proofs.Aiming.{Going}
use Rattle.law_recovery_steps.specs.Resting.{AreLater}
use Rattle.law_recovery_run.specs.Following.{IsFollowed, IsLive, IsSpoken, Stands}
use Rattle.law_recovery_run.specs.Settling.{IsEnded}
use Rattle.law_recovery_run.proofs.Leaving.{Leaves, nothing_leaves}
use Rattle.law_recovery_run.proofs.Settling.{live_or}
use Rattle.law_recovery_run.specs.Over.{HaveLeft, KeepsLeft}
use Rattle.law_recovery.proofs.Outlasting.{Same, end_keeps, left_end, left_on}
use Rattle.law_recovery.proofs.Releasing.{frozen_left}
use Rattle.law_recovery_steps.specs.Going.{AreBothLeft}
use Rattle.law_recovery_world.proofs.SeeSteps.{kept_at}
use Rattle.law_recovery.proofs.Asking.{at_place}
use Rattle.law_recovery_run.proofs.Doing.{HasDone, at_two, beside, calling_did, calling_does, facing_called, facing_calling, lines_gave, lines_showed, live_goes, turn, turned}
use Rattle.law_recovery.proofs.Rowing.{tick_leaves}
use Rattle.law_recovery.proofs.Staying.{both_keep, row_keeps}

-- ---- an end that is due

sooner_kept : (m : Moved) (tick : ℕ) (other : Option ℕ) → kept_end m (sooner (Some tick) other) ≡ Some (end_of m)
sooner_kept m tick None = refl
sooner_kept m tick (Some later) = refl

-- an end that is not frozen is not taken out
pub going_kept : (m : Moved) (b : EndRecord) (stage : StateData) → stop_of stage ≡ None → kept_end m (due b stage) ≡ Some (end_of m)
going_kept m b (stages.Opened o) goes = sooner_kept m _ (due_of o.halves.sending)
going_kept m b (stages.Frozen when) goes = absurd (cc goes)
going_kept m b stage goes = refl

-- ---- a pair within a tick

-- of the pair these ends have ticked, which are due no more
pub record IsInTick {C : Type 0} (link : C → Link (List ℕ)) (journal : List JournalEvent) (world : World C) (posts : List Post) (x y : ℕ) (p : Pair) (calling called : Bool) : Type 0 where
  pub followed : IsFollowed link journal world posts x y (next p (Clock calling called))
  pub live : IsLive (next p (Clock calling called)).calling.stage
  pub live_there : IsLive (next p (Clock calling called)).called.stage
  pub calling_over : calling ≡ true → is_due (p.clock + 1) (Some (next p (Clock calling called)).calling) ≡ false
  pub called_over : called ≡ true → is_due (p.clock + 1) (Some (next p (Clock calling called)).called) ≡ false

abbrev turned_tick : {C : Type 0} (link : C → Link (List ℕ)) (journal : List JournalEvent) (world : World C) (posts : List Post) (x y : ℕ) (p : Pair) (calling called : Bool)
    → IsInTick link journal world posts x y p calling called → IsInTick link journal world posts y x (turn p) called calling
turned_tick {C} link journal world posts x y p calling called t = record {
  followed = turned link journal world posts x y (next p (Clock calling called)) t.followed;
  live = t.live_there;
  live_there = t.live;
  calling_over = t.called_over;
  called_over = t.calling_over;
}

-- the event stands in the journal, behind these lines
pub record IsBehind (early journal : List JournalEvent) (event : JournalEvent) : Type 0 where
  pub before : List JournalEvent
  pub after : List JournalEvent
  pub journal_is : journal ≡ early ++ (before ++ event ∷ after)

-- where its tick makes an end gone, that stands behind these lines
abbrev pub IsToldGone : (early journal : List JournalEvent) → (tick number : ℕ) → End → Type 0
IsToldGone early journal tick number e = (cause : GoneCause) → (stepped whole tick e Ticked).events ≡ gone (base_at tick e.base) cause [] → IsBehind early journal (events.End number (Gone cause []))

pub told_still : (early journal made : List JournalEvent) (tick number : ℕ) (e : End) → IsToldGone early journal tick number e → IsToldGone early (journal ++ made) tick number e
told_still early journal made tick number e told cause is = let b = told cause is in record {
  before = b.before;
  after = b.after ++ made;
  journal_is =
      ap (λ (es : List JournalEvent). es ++ made) b.journal_is ∙ append_assoc early (b.before ++ events.End number (Gone cause []) ∷ b.after) made
      ∙ ap (λ (es : List JournalEvent). early ++ es) (append_assoc b.before (events.End number (Gone cause []) ∷ b.after) made);
}

-- Some of the two have ticked, and are told gone behind these lines where they are; or one of them is frozen, and if both had left, the two ends have left in the network
pub record HasTicked {C : Type 0} (link : C → Link (List ℕ)) (early journal : List JournalEvent) (world : World C) (posts : List Post) (x y : ℕ) (p : Pair) : Type 0 where
  pub calling : Bool
  pub called : Bool
  pub told : calling ≡ true → IsToldGone early journal (p.clock + 1) x p.calling
  pub told_there : called ≡ true → IsToldGone early journal (p.clock + 1) y p.called
  pub goes : IsInTick link journal world posts x y p calling called ⊎ (IsEnded (next p (Clock calling called)) × (AreBothLeft (next p (Clock calling called)) → HaveLeft world x y))

-- an end that had no tick has one
once : (p : Pair) (called : Bool) → calling_does (next p (Clock false called)) (stepped whole (p.clock + 1) p.calling Ticked) [] ≡ next p (Clock true called)
once p called =
    let m : Moved = stepped whole (p.clock + 1) p.calling Ticked in
    λ i. record (next p (Clock true called)) {
      forth = append-nil p.forth i ++ m.tpdus;
      calling_gave = append-nil p.calling_gave i;
      calling_showed = append-nil p.calling_showed i ++ shown_in m.events;
      calling_told = append-nil p.calling_told i ++ m.events;
    }

differ : false ≡ true → ⊥
differ is = cc is

-- ---- an end ticks

module _ {C : Type 0} (link : C → Link (List ℕ)) (titles : List (List ℕ)) (timers : Timers) (w : Whole) (journal : List JournalEvent) (old : World C) (explains : Explains link titles timers w journal old)
    (going : Going) (new : World C) (made : List JournalEvent) (system : ℕ) (entity : Entity) (reference : ℕ) (there_it : entity_at old.entities system ≡ Some entity) (o : End)
    (stands : end_at entity reference ≡ Some o) (is_due_now : is_due (link old.carrier).clock (Some o) ≡ true) (proper : IsProper o.base o.stage) (aside : List JournalEvent) (is_aside : IsAside aside)
    (entities : new.entities ≡ with_entity old.entities system (ticked_to (at (link old.carrier).clock entity) reference (stepped whole (link old.carrier).clock o Ticked)).entity)
    (ends : new.ends ≡ ends_after old.ends system (stepped whole (link old.carrier).clock o Ticked).events) (clock : (link new.carrier).clock ≡ (link old.carrier).clock)
    (made_is : made ≡ events_after old.ends system entity.own (stepped whole (link old.carrier).clock o Ticked).events ++ aside) (early late : List JournalEvent) (since : journal ≡ early ++ late) where
  abbrev now : ℕ
  now = (link old.carrier).clock

  abbrev m : Moved
  m = stepped whole now o Ticked

  abbrev place : Option End
  place = kept_end m (due m.base m.stage)

  abbrev acted : Acted
  acted = ticked_to (at now entity) reference m

  abbrev done : HasDone link old new made
  done = record {
    system = system;
    entity = entity;
    there = there_it;
    acted = acted;
    kept = refl;
    entities = entities;
    ends = ends;
    clock = clock;
    showed = lines_showed old.ends system entity.own 0 Ticked m.events aside made is_aside made_is;
  }

  none_of : (n : ℕ) → submitted n made ≡ []
  none_of = lines_gave old.ends system entity.own 0 Ticked m.events aside made is_aside made_is

  leaves_other : (x y : ℕ) (f : AreFacing old x y) → (system ≡ f.own.system → reference ≢ f.own.reference) → Leaves old x y f system entity acted
  leaves_other x y f apart = tick_leaves link titles timers w journal old explains going x y f system entity there_it reference o stands apart place

  ticked_keeps : KeepsLeft old new
  ticked_keeps = row_keeps link titles timers w journal old explains new system entity there_it reference o Ticked place stands (kept_at m (due m.base m.stage)) entities ends

  abbrev posts_on : List Post → List Post
  posts_on posts = posts ++ posted system m.tpdus

  module _ (posts : List Post) (x y : ℕ) (q : Pair) (f : IsFollowed link journal old posts x y q) (at_it : system ≡ f.calling.system) (at_reference : reference ≡ f.calling.reference) where
    owner : entity ≡ f.calling.entity
    owner = same_Some entity f.calling.entity (sym there_it ∙ ap (entity_at old.entities) at_it ∙ f.calling.is_end.there)

    end_is : o ≡ q.calling
    end_is = same_Some o q.calling (sym stands ∙ (λ i. end_at (owner i) (at_reference i)) ∙ f.calling.is_end.stands)

    row_is : m ≡ stepped whole now q.calling Ticked
    row_is = ap (λ (z : End). stepped whole now z Ticked) end_is

    calling_row : (live : IsLive q.calling.stage) (live_there : IsLive q.called.stage) → IsLive m.stage
        → IsFollowed link (journal ++ made) new (posts_on posts) x y (calling_does q (stepped whole now q.calling Ticked) [])
    calling_row live live_there after =
        let inside = within entity reference o stands in
        calling_did link journal old new made done posts x y q f live live_there titles timers w explains Ticked tt at_it
        (ap (end_at acted.entity) (sym at_reference) ∙ at_same (at now entity) reference place inside.least inside.most ∙ going_kept m m.base m.stage (live_goes m.stage after) ∙ ap (λ (z : Moved). Some (end_of z)) row_is)
        (ap (λ (z : Moved). z.events) row_is) (ap (λ (z : Moved). z.tpdus) row_is)
        (leaves_other y x (facing_called link journal old new made done posts x y q f live live_there)
        (λ s r. at_two old x y system reference q.calling q.called f.calling f.called f.apart at_it at_reference s r)) [] (none_of x) (none_of y)

  calling_ticks : (posts : List Post) (x y : ℕ) (p : Pair) (calling called : Bool) (t : IsInTick link journal old posts x y p calling called) → system ≡ t.followed.calling.system
      → reference ≡ t.followed.calling.reference
      → IsInTick link (journal ++ made) new (posts_on posts) x y p true called ⊎ (IsEnded (next p (Clock true called)) × (AreBothLeft (next p (Clock true called)) → HaveLeft new x y))
  calling_ticks posts x y p true called t at_it at_reference =
      absurd (differ (sym (t.calling_over refl) ∙ (λ i. is_due (t.followed.clock i) (Some (sym (end_is posts x y (next p (Clock true called)) t.followed at_it at_reference) i))) ∙ is_due_now))
  calling_ticks posts x y p false called t at_it at_reference = elim (live_or M.stage) [
    | inl after ↦ inl (record {
      followed = subst (IsFollowed link (journal ++ made) new (posts_on posts) x y) (once p called)
          (subst (λ (n : ℕ). IsFollowed link (journal ++ made) new (posts_on posts) x y (calling_does (next p (Clock false called)) (stepped whole n p.calling Ticked) [])) (sym t.followed.clock)
          (calling_row posts x y (next p (Clock false called)) t.followed at_it at_reference t.live t.live_there (subst (λ (z : Moved). IsLive z.stage) (sym m_is) after)));
      live = after;
      live_there = t.live_there;
      calling_over = λ _. kept_later (p.clock + 1) M (Some 0) (ticked_later whole (p.clock + 1) p.calling (subst (λ (z : End). IsProper z.base z.stage) is proper));
      called_over = t.called_over;
    })
    | inr ended ↦ inr (
      λ one other. ended one,
      λ both. (
        end_keeps old new x ticked_keeps (left_end link titles timers w journal old explains x (next p (Clock false called)).calling t.followed.calling (frozen_left (p.clock + 1) p.calling t.live ended)),
        end_keeps old new y ticked_keeps (left_end link titles timers w journal old explains y (next p (Clock false called)).called t.followed.called both.1),
      ),
    )
  ]
    where
      M : Moved
      M = stepped whole (p.clock + 1) p.calling Ticked

      is : o ≡ p.calling
      is = end_is posts x y (next p (Clock false called)) t.followed at_it at_reference

      m_is : m ≡ M
      m_is = λ i. stepped whole (sym t.followed.clock i) (is i) Ticked

  own_is : o.base.own ≡ reference
  own_is =
      let known : IsKnown w entity.own reference o = subst (IsThere w entity.own reference) stands ((explains.known.holds system entity there_it).there reference) in
      sym known.sees.reference ∙ known.at.reference_is

  -- the calling end had no tick, and is gone by this one
  told_here : (posts : List Post) (x y : ℕ) (p : Pair) (called : Bool) (f : IsFollowed link journal old posts x y (next p (Clock false called))) → system ≡ f.calling.system → reference ≡ f.calling.reference
      → IsToldGone early (journal ++ made) (p.clock + 1) x p.calling
  told_here posts x y p called f at_it at_reference cause is = record {
    before = late;
    after = aside;
    journal_is = ap (λ (es : List JournalEvent). es ++ made) since ∙ append_assoc early late made ∙ ap (λ (es : List JournalEvent). early ++ (late ++ es)) made_here;
  }
    where
      same : o ≡ p.calling
      same = end_is posts x y (next p (Clock false called)) f at_it at_reference

      events_are : m.events ≡ gone (base_at (p.clock + 1) p.calling.base) cause []
      events_are = (λ i. (stepped whole (sym f.clock i) (same i) Ticked).events) ∙ is

      number_is : latest old.ends system p.calling.base.own ≡ x
      number_is = (λ i. latest old.ends (at_it i) ((ap (λ (z : End). z.base.own) (sym same) ∙ own_is ∙ at_reference) i)) ∙ f.calling.is_end.number

      made_here : made ≡ events.End x (Gone cause []) ∷ aside
      made_here =
          made_is ∙ ap (λ (es : List EndEvent). events_after old.ends system entity.own es ++ aside) events_are ∙ ap (λ (n : ℕ). events.End n (Gone cause []) ∷ aside) number_is

  told_now : (posts : List Post) (x y : ℕ) (p : Pair) (calling called : Bool) (t : IsInTick link journal old posts x y p calling called) → system ≡ t.followed.calling.system → reference ≡ t.followed.calling.reference
      → (calling ≡ true → IsToldGone early journal (p.clock + 1) x p.calling) → IsToldGone early (journal ++ made) (p.clock + 1) x p.calling
  told_now posts x y p true called t at_it at_reference before = told_still early journal made (p.clock + 1) x p.calling (before refl)
  told_now posts x y p false called t at_it at_reference before = told_here posts x y p called t.followed at_it at_reference

  -- whichever it is
  pub end_ticks : (posts : List Post) (x y : ℕ) (p : Pair) (calling called : Bool) → IsInTick link journal old posts x y p calling called → (calling ≡ true → IsToldGone early journal (p.clock + 1) x p.calling)
      → (called ≡ true → IsToldGone early journal (p.clock + 1) y p.called) → HasTicked link early (journal ++ made) new (posts_on posts) x y p
  end_ticks posts x y p calling called t told told_there = elim (at_place system reference t.followed.calling.system t.followed.calling.reference) [
    | inl here ↦ record {
      calling = true;
      called = called;
      told = λ _. told_now posts x y p calling called t here.0 here.1 told;
      told_there = λ is. told_still early journal made (p.clock + 1) y p.called (told_there is);
      goes = calling_ticks posts x y p calling called t here.0 here.1;
    }
    | inr not_calling ↦ elim (at_place system reference t.followed.called.system t.followed.called.reference) [
      | inl on_it ↦ record {
        calling = calling;
        called = true;
        told = λ is. told_still early journal made (p.clock + 1) x p.calling (told is);
        told_there = λ _. told_now posts y x (turn p) called calling (turned_tick link journal old posts x y p calling called t) on_it.0 on_it.1 told_there;
        goes = elim (calling_ticks posts y x (turn p) called calling (turned_tick link journal old posts x y p calling called t) on_it.0 on_it.1) [
          | inl on ↦ inl (turned_tick link (journal ++ made) new (posts_on posts) y x (turn p) true calling on)
          | inr ended ↦ inr (λ one other. ended.0 other one, λ both. let left = ended.1 (both.1, both.0) in (left.1, left.0))
        ];
      }
      | inr not_called ↦ record {
        calling = calling;
        called = called;
        told = λ is. told_still early journal made (p.clock + 1) x p.calling (told is);
        told_there = λ is. told_still early journal made (p.clock + 1) y p.called (told_there is);
        goes = inl (record {
          followed = beside link journal old new made done posts x y (next p (Clock calling called)) t.followed t.live t.live_there
              (leaves_other x y (facing_calling link journal old new made done posts x y (next p (Clock calling called)) t.followed t.live t.live_there) not_calling)
              (leaves_other y x (facing_called link journal old new made done posts x y (next p (Clock calling called)) t.followed t.live t.live_there) not_called) (none_of x) (none_of y);
          live = t.live;
          live_there = t.live_there;
          calling_over = t.calling_over;
          called_over = t.called_over;
        });
      }
    ]
  ]

-- ---- no end of an entity is due

module _ {C : Type 0} (link : C → Link (List ℕ)) (titles : List (List ℕ)) (timers : Timers) (w : Whole) (journal : List JournalEvent) (old : World C) (explains : Explains link titles timers w journal old)
    (going : Going) (new : World C) (made : List JournalEvent) (system : ℕ) (entity : Entity) (there_it : entity_at old.entities system ≡ Some entity)
    (entities : new.entities ≡ with_entity old.entities system (at (link old.carrier).clock entity)) (ends : new.ends ≡ old.ends) (clock : (link new.carrier).clock ≡ (link old.carrier).clock) (made_is : made ≡ []) where
  abbrev still : HasDone link old new made
  still = record {
    system = system;
    entity = entity;
    there = there_it;
    acted = record { entity = at (link old.carrier).clock entity; events = []; tpdus = [] };
    kept = refl;
    entities = entities;
    ends = ends;
    clock = clock;
    showed = λ n. ap (shown n) made_is;
  }

  pub none_ticks : (early : List JournalEvent) (posts : List Post) (x y : ℕ) (p : Pair) → HasTicked link early journal old posts x y p → HasTicked link early (journal ++ made) new posts x y p
  none_ticks early posts x y p h = record {
    calling = h.calling;
    called = h.called;
    told = λ is. told_still early journal made (p.clock + 1) x p.calling (h.told is);
    told_there = λ is. told_still early journal made (p.clock + 1) y p.called (h.told_there is);
    goes = elim h.goes [ inl t ↦ inl (on t) | inr ended ↦ inr (ended.0, λ both. kept (ended.1 both)) ];
  }
    where
      kept : HaveLeft old x y → HaveLeft new x y
      kept left = both_keep old new x y (left_on old new (link old.carrier).clock system entity (at (link old.carrier).clock entity) there_it entities (Same refl ends)) left

      on : IsInTick link journal old posts x y p h.calling h.called → IsInTick link (journal ++ made) new posts x y p h.calling h.called
      on t =
          record {
            followed = subst (λ (ps : List Post). IsFollowed link (journal ++ made) new ps x y (next p (Clock h.calling h.called))) (append-nil posts)
                (beside link journal old new made still posts x y (next p (Clock h.calling h.called)) t.followed t.live t.live_there
                (nothing_leaves link titles timers w journal old explains going x y (facing_calling link journal old new made still posts x y (next p (Clock h.calling h.called)) t.followed t.live t.live_there) system entity
                there_it [] refl refl)
                (nothing_leaves link titles timers w journal old explains going y x (facing_called link journal old new made still posts x y (next p (Clock h.calling h.called)) t.followed t.live t.live_there) system entity
                there_it [] refl refl) (ap (submitted x) made_is) (ap (submitted y) made_is));
            live = t.live;
            live_there = t.live_there;
            calling_over = t.calling_over;
            called_over = t.called_over;
          }

-- ---- the clock

module _ {C : Type 0} (old mid : World C) (entities : mid.entities ≡ old.entities) (ends : mid.ends ≡ old.ends) where
  abbrev stands_then : (n : ℕ) (e : End) → Stands old n e → Stands mid n e
  stands_then n e s = record {
    system = s.system;
    reference = s.reference;
    entity = s.entity;
    is_end = record {
      there = ap (λ (ps : List Placed). entity_at ps s.system) entities ∙ s.is_end.there;
      stands = s.is_end.stands;
      number = ap (λ (es : List EndAt). latest es s.system s.reference) ends ∙ s.is_end.number;
    };
  }

module _ {C : Type 0} (link : C → Link (List ℕ)) where
  -- no end is due before the next tick
  pub later_of : (journal : List JournalEvent) (world : World C) (x y : ℕ) (p : Pair) → AreWaiting (link world.carrier).clock world.entities → IsFollowed link journal world [] x y p → AreLater p
  later_of journal world x y p waiting f = (one x p.calling f.calling, one y p.called f.called)
    where
      one : (n : ℕ) (e : End) (here : Stands world n e) → IsInTime (due e.base e.stage) (p.clock + 1)
      one n e here = subst (λ (k : ℕ). IsInTime (due e.base e.stage) (k + 1)) (sym f.clock)
          ((waits (link world.carrier).clock here.entity (waiting here.system here.entity here.is_end.there)).1 here.reference e here.is_end.stands)

  -- the clock went on, and no end has ticked
  pub begins : (journal front : List JournalEvent) (old mid : World C) → mid.entities ≡ old.entities → mid.ends ≡ old.ends → (link mid.carrier).clock ≡ (link old.carrier).clock + 1 → IsAside front
      → (x y : ℕ) (p : Pair) → IsFollowed link journal old [] x y p → IsFollowed link (journal ++ front) mid [] x y (next p (Clock false false))
  begins journal front old mid entities ends clock aside x y p f = record {
    calling = stands_then old mid entities ends x p.calling f.calling;
    called = stands_then old mid entities ends y p.called f.called;
    forth = record {
      to_is = f.forth.to_is;
      partner_is = f.forth.partner_is;
      waits_are = append-nil p.forth ∙ f.forth.waits_are;
      spoken = subst (AllByRecursion (IsSpoken p.calling.base)) (sym (append-nil p.forth)) f.forth.spoken;
      named = tt;
      gave_is = gave x p.calling_gave f.forth.gave_is;
      showed_is = append-nil p.calling_showed ∙ showed x p.calling_showed f.forth.showed_is;
    };
    back = record {
      to_is = f.back.to_is;
      partner_is = f.back.partner_is;
      waits_are = append-nil p.back ∙ f.back.waits_are;
      spoken = subst (AllByRecursion (IsSpoken p.called.base)) (sym (append-nil p.back)) f.back.spoken;
      named = tt;
      gave_is = gave y p.called_gave f.back.gave_is;
      showed_is = append-nil p.called_showed ∙ showed y p.called_showed f.back.showed_is;
    };
    apart = f.apart;
    format = f.format;
    clock = ap (λ (n : ℕ). n + 1) f.clock ∙ sym clock;
    sourced = tt;
  }
    where
      gave : (n : ℕ) (units : List Marked) → units ≡ submitted n journal → units ≡ submitted n (journal ++ front)
      gave n units is =
          is ∙ sym (append-nil (submitted n journal)) ∙ ap (λ (us : List Marked). submitted n journal ++ us) (sym (aside.units n).0) ∙ sym (submitted_both n journal front)

      showed : (n : ℕ) (units : List Marked) → units ≡ shown n journal → units ≡ shown n (journal ++ front)
      showed n units is = is ∙ sym (append-nil (shown n journal)) ∙ ap (λ (us : List Marked). shown n journal ++ us) (sym (aside.units n).1) ∙ sym (shown_both n journal front)
