-- The clock goes on, where nothing waits; then the due end of least reference of an entity ticks, again and again, until none is due. So the associations
-- are at the next tick, and what their ends sent waits.
use Rattle.std.proofs.Common.{◌≡◌, ℕ, ◌+◌, Bool, true, false, List, [], ◌++◌, slice_get, slice_set, Option, Some, None, refl, sym, ◌∙◌, ap, subst, append-nil, append_assoc}
use Rattle.script_journal.specs.declared.event.Event.{Event as JournalEvent}
use Rattle.tp4_number.specs.Number.{whole}
use Rattle.tp4_conn.specs.End.{End, Moved}
use Rattle.tp4_conn.specs.Table.{Ticked, due, stepped}
use Rattle.tp4_conn.specs.declared.timers.Timers.{Timers}
use Rattle.tp4_entity.specs.Entity.{Acted, Entity, at, end_at}
use Rattle.tp4_entity.specs.Step.{first_due, is_due, kept_end, ticked_to, ticking, ticking_at, ticking_end}
use Rattle.law_tp4_history.specs.Lines.{shown_in}
use Rattle.tp4_world.specs.Telling.{events_after}
use Rattle.tp4_world.specs.World.{entity_at, latest, with_entity}
use Rattle.tp4_world.specs.declared.place.EndAt.{EndAt}
use Rattle.tp4_world.specs.declared.place.Placed.{Placed}
use Rattle.law_tp4_associations.specs.Association.{Association, Posted, post, with_party}
use Rattle.law_tp4_associations.specs.Laws.{Ticks as TickLaws}
use Rattle.law_tp4_associations.specs.Phase.{IsInUse}
use Rattle.law_tp4_associations.specs.Standing.{IsParty, Standing}
use Rattle.law_calm_run.proofs.Hall.{AreAllProper, Clocks, Hall, IsOver, Over, Post, TickGoes, TickStep, Ticking, Ticks, TicksDone, TicksMore, after, posted}
use Rattle.law_calm_run.proofs.Story.{ArePosts, IsClocking, IsYoung, Story, Tells, TickStory}
use Rattle.law_calm_run.proofs.Acting.{acts_of, ends_same}
use Rattle.law_calm_run.proofs.Clocking.{tells_called_tick, tells_calling_tick, tells_clock, tells_over}
use Rattle.law_calm_run.proofs.Lasting.{due_first, due_later, kept_held, kept_is, stays_held}
use Rattle.law_calm_run.proofs.Queued.{IsIdle, is_idle, party_systems, posts_behind, posts_of, posts_still, proper_ends, set_still}
use Rattle.law_calm_run.proofs.Telling.{ActsIn}

module _ (timers : Timers) (own : ℕ → List ℕ) (IsTicking : ℕ → List Placed → List Association → List Association → List Posted → Type 0) (laws : TickLaws timers own IsTicking) (now : ℕ) where
  abbrev Holds : Hall → List JournalEvent → Type 0
  Holds hall journal = TickStory IsTicking own now hall journal

  -- ---- an end ticks

  module _ (entities : List Placed) (ends : List EndAt) (posts : List Post) (journal made : List JournalEvent) (new : Hall) (proper : AreAllProper entities)
      (t : TickStory IsTicking own now (record { clock = now + 1; entities = entities; ends = ends; posts = posts }) journal)
      (c : Ticks (record { clock = now + 1; entities = entities; ends = ends; posts = posts }) made new) where
    abbrev old : Hall
    old = record { clock = now + 1; entities = entities; ends = ends; posts = posts }

    module _ (k : ℕ) (by : Bool) (end : End) (stands : end_at c.entity c.reference ≡ Some end) (p : IsParty t.all k by c.system c.reference end) where
      abbrev M : Moved
      M = stepped whole (now + 1) end Ticked

      abbrev place : Option End
      place = kept_end M (due M.base M.stage)

      abbrev all : List Association
      all = slice_set t.all k (with_party p.a by place)

      abbrev acted : Acted
      acted = ticked_to (at (now + 1) c.entity) c.reference M

      abbrev lines : List JournalEvent
      lines = events_after ends c.system c.entity.own M.events ++ c.does.aside

      acted_is : ticking whole (now + 1) c.entity ≡ acted
      acted_is = ap (ticking_at whole (now + 1) (at (now + 1) c.entity)) c.due ∙ ap (ticking_end whole (now + 1) (at (now + 1) c.entity) c.reference) stands

      is_due_now : is_due (now + 1) (Some end) ≡ true
      is_due_now = due_first (now + 1) c.entity c.reference end c.due stands

      number_is : t.number k by ≡ Some (latest ends c.system end.base.own)
      number_is = t.tells.numbered.party_is k p.a by end p.is p.end_is ∙ ap (λ (n : ℕ). Some (latest ends n end.base.own)) p.system_is

      acts : ActsIn (latest ends c.system end.base.own) lines [] (shown_in M.events) M.events
      acts =
          acts_of (now + 1) end Ticked (t.tells.owns k p.a by end p.is p.end_is) ends c.system c.entity.own (latest ends c.system end.base.own) c.does.aside lines refl c.does.is_aside refl

      posts_are : ArePosts all (t.queue ++ post k by M.tpdus) (posts ++ posted c.system M.tpdus)
      posts_are =
          let still = set_still t.all k p.a (with_party p.a by place) p.is (party_systems p.a by place) in
          let here = still k p.a p.is in
          posts_behind all t.queue (post k by M.tpdus) posts (posted c.system M.tpdus) (posts_still t.all all t.queue posts still t.posts) (posts_of all k by c.system here.now M.tpdus here.is (here.systems by ∙ p.system_is))

    tells_ticked : (k : ℕ) (by : Bool) (end : End) (stands : end_at c.entity c.reference ≡ Some end) (p : IsParty t.all k by c.system c.reference end)
        → Tells IsClocking own (now + 1) ends (all k by end stands p) (t.queue ++ post k by (M k by end stands p).tpdus) t.number (journal ++ lines k by end stands p)
    tells_ticked k true end stands p =
        tells_calling_tick own (now + 1) ends t.all t.queue t.number journal (lines k true end stands p) k p.a end (latest ends c.system end.base.own) p.is t.tells (is_due_now k true end stands p)
        (place k true end stands p) p.end_is (number_is k true end stands p) (kept_is (M k true end stands p) (due (M k true end stands p).base (M k true end stands p).stage))
        (due_later (now + 1) end (proper_ends entities proper c.system c.reference end (c.entity, c.there, stands))) (acts k true end stands p)
    tells_ticked k false end stands p =
        tells_called_tick own (now + 1) ends t.all t.queue t.number journal (lines k false end stands p) k p.a end (latest ends c.system end.base.own) p.is t.tells (is_due_now k false end stands p)
        (place k false end stands p) p.end_is (number_is k false end stands p) (kept_is (M k false end stands p) (due (M k false end stands p).base (M k false end stands p).stage))
        (due_later (now + 1) end (proper_ends entities proper c.system c.reference end (c.entity, c.there, stands))) (λ r stage. t.tells.uncalling k p.a end r p.is p.end_is stage) (kept_held (now + 1) end)
        (acts k false end stands p)

    ticked_there : (k : ℕ) (by : Bool) (end : End) (stands : end_at c.entity c.reference ≡ Some end) (p : IsParty t.all k by c.system c.reference end)
        → IsTicking now (with_entity entities c.system (ticking whole (now + 1) c.entity).entity) t.before (all k by end stands p) (t.queue ++ post k by (M k by end stands p).tpdus)
        → Holds (after old c.system (acted k by end stands p)) (journal ++ lines k by end stands p)
    ticked_there k by end stands p ticks = record {
      clock = refl;
      before = t.before;
      all = all k by end stands p;
      queue = t.queue ++ post k by (M k by end stands p).tpdus;
      number = t.number;
      ticking =
          subst (λ (a : Acted). IsTicking now (with_entity entities c.system a.entity) t.before (all k by end stands p) (t.queue ++ post k by (M k by end stands p).tpdus)) (acted_is k by end stands p) ticks;
      posts = posts_are k by end stands p;
      tells = subst (λ (es : List EndAt). Tells IsClocking own (now + 1) es (all k by end stands p) (t.queue ++ post k by (M k by end stands p).tpdus) t.number (journal ++ lines k by end stands p))
          (sym (ends_same (now + 1) end Ticked (t.tells.owns k p.a by end p.is p.end_is) ends c.system c.entity.own)) (tells_ticked k by end stands p);
    }

    one_ticks : Holds new (journal ++ made)
    one_ticks =
        let r = laws.one now entities t.before t.all t.queue c.system c.entity c.reference t.ticking (proper_ends entities proper) c.there c.due in
        let made_is : made ≡ lines r.0 r.1 r.2 r.3 r.4 =
        c.does.made_is ∙ ap (λ (a : Acted). events_after ends c.system c.entity.own a.events ++ c.does.aside) (acted_is r.0 r.1 r.2 r.3 r.4) in
        subst (λ (h : Hall). Holds h (journal ++ made)) (sym (c.does.becomes ∙ ap (after old c.system) (acted_is r.0 r.1 r.2 r.3 r.4)))
        (subst (λ (events : List JournalEvent). Holds (after old c.system (acted r.0 r.1 r.2 r.3 r.4)) (journal ++ events)) (sym made_is) (ticked_there r.0 r.1 r.2 r.3 r.4 r.5))

  -- ---- no end of an entity is due

  none_ticks : (old new : Hall) (journal made : List JournalEvent) → Holds old journal → IsOver old made new → Holds new (journal ++ made)
  none_ticks old new journal made t o =
      subst (λ (h : Hall). Holds h (journal ++ made)) (sym o.becomes)
      (subst (Holds (record old { entities = with_entity old.entities o.system (at old.clock o.entity) })) (sym (append-nil journal) ∙ ap (λ (es : List JournalEvent). journal ++ es) (sym o.made_is))
      (record {
        clock = t.clock;
        before = t.before;
        all = t.all;
        queue = t.queue;
        number = t.number;
        ticking = laws.clock now old.clock old.entities t.before t.all t.queue o.system o.entity t.ticking o.there;
        posts = t.posts;
        tells = t.tells;
      }))

  -- ---- until none is due

  step_keeps : (old new : Hall) (journal made : List JournalEvent) → AreAllProper old.entities → Holds old journal → TickStep old made new → Holds new (journal ++ made)
  step_keeps old new journal made proper t (Over o) = none_ticks old new journal made t o
  step_keeps old new journal made proper t (Ticking c) =
      subst (λ (n : ℕ). Holds (as_of n) journal → Ticks (as_of n) made new → Holds new (journal ++ made)) (sym t.clock) (λ at_tick ticks. one_ticks old.entities old.ends old.posts journal made new proper at_tick ticks) t c
    where
      as_of : ℕ → Hall
      as_of n = record { clock = n; entities = old.entities; ends = old.ends; posts = old.posts }

  pub ticks_keep : (old : Hall) (made : List JournalEvent) (new : Hall) → TickGoes old made new → (journal : List JournalEvent) → Holds old journal → Holds new (journal ++ made)
  ticks_keep old made new (TicksDone o m n none same) journal t =
      subst (λ (h : Hall). Holds h (journal ++ made)) (sym same) (subst (Holds old) (sym (append-nil journal) ∙ ap (λ (es : List JournalEvent). journal ++ es) (sym none)) t)
  ticks_keep old made new (TicksMore o m n mid here rest proper step goes all) journal t =
      subst (Holds new) (append_assoc journal here rest ∙ ap (λ (es : List JournalEvent). journal ++ es) (sym all))
      (ticks_keep mid rest new goes (journal ++ here) (step_keeps old mid journal here proper t step))

-- ---- a tick

module _ (timers : Timers) (own : ℕ → List ℕ) (IsTicking : ℕ → List Placed → List Association → List Association → List Posted → Type 0) (laws : TickLaws timers own IsTicking)
    (old new : Hall) (journal made : List JournalEvent) (proper : AreAllProper old.entities) (s : Story timers own old journal) (c : Clocks old made new) where
  idle : IsIdle timers own old journal s
  idle = is_idle timers own old journal s c.idle

  held_on : (k : ℕ) (a : Association) (x y : End) → slice_get s.all k ≡ Some a → a.calling ≡ Some x → a.called ≡ Some y → IsYoung x.stage → IsInUse (old.clock + 1) y
  held_on k a x y is x_is y_is young = stays_held timers (own a.from.system) (own a.to) old.clock (old.clock + 1) a x y x_is y_is young (idle.standing.each k a is).phase

  begins : TickStory IsTicking own old.clock (record old { clock = old.clock + 1 }) (journal ++ c.front)
  begins = record {
    clock = refl;
    before = s.all;
    all = s.all;
    queue = [];
    number = s.number;
    ticking = laws.begins old.clock old.entities s.all idle.standing (proper_ends old.entities proper);
    posts = c.idle;
    tells =
        tells_clock own old.clock old.ends s.all s.number journal c.front idle.tells c.aside.ends (λ n. record { gave = (c.aside.units n).0; showed = (c.aside.units n).1 }) held_on;
  }

  -- the clock keeps what stands beside the network
  pub clocks_keep : Story timers own new (journal ++ made)
  clocks_keep =
      let t = ticks_keep timers own IsTicking laws old.clock (record old { clock = old.clock + 1 }) c.later new c.ticks (journal ++ c.front) begins in
      let over : (system : ℕ) (e : Entity) → entity_at new.entities system ≡ Some e → first_due (old.clock + 1) e ≡ None = λ system e there. subst (λ (n : ℕ). first_due n e ≡ None) t.clock (c.over system e there) in
      subst (Story timers own new) (append_assoc journal c.front c.later ∙ ap (λ (es : List JournalEvent). journal ++ es) (sym c.made_is))
      (record {
        all = t.all;
        queue = t.queue;
        number = t.number;
        standing = subst (λ (n : ℕ). Standing timers own n new.entities t.all t.queue) (sym t.clock) (laws.ends old.clock new.entities t.before t.all t.queue t.ticking over);
        posts = t.posts;
        tells = tells_over own new.clock new.ends t.all t.queue t.number ((journal ++ c.front) ++ c.later) t.tells;
      })
