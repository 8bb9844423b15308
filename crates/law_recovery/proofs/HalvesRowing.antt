-- A row of an end, by its user or its timers: it is the end that asked, or one that it called and that was not answered, or neither sees anything of it.
use Rattle.std.proofs.Common.{◌≡◌, ◌⊎◌, inl, inr, ℕ, ◌==◌, Bool, true, false, List, [], ◌∷◌, ◌++◌, Option, Some, None, refl, sym, ◌∙◌, ap, subst}
use Rattle.std.specs.Prelude.{◌&&◌, nat_eq}
use Rattle.std.specs.Cmp.Lexicographic.{bytes_decides, pointwise}
use Rattle.std.proofs.lemmas.Bool.{eqb-true}
use Rattle.std.proofs.lemmas.Option.{same_Some}
use Rattle.osi_base.specs.Link.{Link}
use Rattle.script_journal.specs.declared.event.Event.{Event as JournalEvent}
use Rattle.tp4_number.specs.Number.{whole}
use Rattle.tp4_flow.specs.declared.step.Sent.{Sent}
use Rattle.tp4_conn.specs.End.{End, Moved, end_of}
use Rattle.tp4_conn.specs.Living.{IsFit}
use Rattle.tp4_conn.specs.Matching.{is_called_by}
use Rattle.tp4_conn.specs.Proper.{IsProperEvent}
use Rattle.tp4_conn.specs.Table.{Event, stepped}
use Rattle.tp4_conn.specs.declared.end_record.EndRecord.{EndRecord}
use Rattle.tp4_conn.specs.declared.states.InCrWait.{InCrWait}
use Rattle.tp4_conn.specs.declared.states.StateData.{StateData}
use Rattle.tp4_conn.specs.declared.states.StateData.TheVariants as stages
use Rattle.tp4_conn.specs.declared.timers.Timers.{Timers}
use Rattle.tp4_entity.specs.Entity.{Entity, at, end_at, with_end}
use Rattle.tp4_entity.proofs.Standings.{within}
use Rattle.law_tp4_associations.specs.Phase.{IsAsking}
use Rattle.law_tp4_associations.proofs.Keeping.{IsSame, row_keeps, row_partner}
use Rattle.law_tp4_history.specs.Tracks.{Whole}
use Rattle.law_tp4_history.specs.Moves.{IsSourced, stop_of}
use Rattle.tp4_world.specs.Telling.{ends_after}
use Rattle.tp4_world.specs.World.{World, entity_at, latest, with_entity}
use Rattle.tp4_world.specs.declared.place.EndAt.{EndAt}
use Rattle.law_tp4_lawful.proofs.Known.{IsKnown, IsThere}
use Rattle.law_tp4_lawful.proofs.MakesPlaces.{at_other, at_same}
use Rattle.law_tp4_lawful.proofs.Worlds.{Explains}
use Rattle.law_calm_run.proofs.Hall.{Post, posted}
use Rattle.law_recovery_run.proofs.Aiming.{Going}
use Rattle.law_recovery_run.proofs.Aside.{both_are}
use Rattle.law_recovery_run.proofs.Naming.{NamedBy}
use Rattle.law_recovery_run.proofs.Waiting.{posted_each}
use Rattle.law_recovery_run.specs.Requesting.{IsUnanswered, in_cr_wait}
use Rattle.law_recovery_run.proofs.RequestComes.{IsHere, IsPending, IsWaiting, seen_calls}
use Rattle.law_recovery_run.proofs.Keeping.{IsKeptApart, asking_known, row_apart}
pub use Rattle.law_recovery_run.proofs.Keeping.{both_of, where_so}
use Rattle.law_recovery.proofs.Outlasting.{row_stays}
use Rattle.law_recovery.proofs.Elsewhere.{Changes, bare_on, changed_there, here_on, replied_on, still_pending}
use Rattle.law_recovery.proofs.State.{AreApart, IsBare, IsReplied, IsReply}

-- what an end is for a caller no row changes, unless it is a caller itself
called_still : (now : ℕ) (o : End) (event : Event) (from : List ℕ) (own : ℕ) → (IsAsking o.stage → o.base.is_called ≡ false) → is_called_by (stepped whole now o event).base from own ≡ true
    → is_called_by o.base from own ≡ true
called_still now o event from own calls called = by o.stage refl
  where
    m : Moved
    m = stepped whole now o event

    s : IsSame o.base m.base
    s = row_keeps now o event

    two : false ≡ true → ⊥
    two e = cc e

    asked : IsAsking o.stage → is_called_by o.base from own ≡ true
    asked a = absurd (two (sym (calls a) ∙ sym s.is_called ∙ (both_are m.base.is_called (pointwise nat_eq m.base.to from && m.base.partner == own) called).0))

    before : (IsAsking o.stage → ⊥) → is_called_by o.base from own ≡ true
    before never =
        let partner : m.base.partner ≡ o.base.partner = row_partner now o event never in
        (λ i. sym s.is_called i && (pointwise nat_eq (sym s.to i) from && sym partner i == own)) ∙ called

    by : (stage : StateData) → o.stage ≡ stage → is_called_by o.base from own ≡ true
    by (stages.CrWait w) is = asked (subst IsAsking (sym is) tt)
    by (stages.WaitBeforeClose w) is = asked (subst IsAsking (sym is) tt)
    by (stages.UserWait since) is = before (λ a. subst IsAsking is a)
    by (stages.AkWait w) is = before (λ a. subst IsAsking is a)
    by (stages.Opened w) is = before (λ a. subst IsAsking is a)
    by (stages.Closing c) is = before (λ a. subst IsAsking is a)
    by (stages.Frozen when) is = before (λ a. subst IsAsking is a)

-- whom a called end is for
pub for_caller : (b : EndRecord) (from : List ℕ) (own : ℕ) → is_called_by b from own ≡ true → (b.to ≡ from) × (b.partner ≡ own)
for_caller b from own called =
    let parts = both_are (pointwise nat_eq b.to from) (b.partner == own) (both_are b.is_called (pointwise nat_eq b.to from && b.partner == own) called).1 in
    ((bytes_decides b.to from).0 parts.0, eqb-true b.partner own parts.1)

module _ {C : Type 0} (link : C → Link (List ℕ)) (titles : List (List ℕ)) (timers : Timers) (w : Whole) (journal : List JournalEvent) (old : World C) (explains : Explains link titles timers w journal old)
    (going : Going) (new : World C) (s : ℕ) (entity : Entity) (there : entity_at old.entities s ≡ Some entity) (reference : ℕ) (o : End) (stands : end_at entity reference ≡ Some o) (event : Event)
    (place : Option End) (place_is : (e : End) → place ≡ Some e → e ≡ end_of (stepped whole (link old.carrier).clock o event))
    (entities : new.entities ≡ with_entity old.entities s (with_end (at (link old.carrier).clock entity) reference place))
    (ends : new.ends ≡ ends_after old.ends s (stepped whole (link old.carrier).clock o event).events) (clock : (link new.carrier).clock ≡ (link old.carrier).clock) where
  abbrev now : ℕ
  now = (link old.carrier).clock

  abbrev m : Moved
  m = stepped whole now o event

  abbrev changed : Entity
  changed = with_end (at now entity) reference place

  pub placed : end_at changed reference ≡ place
  placed = let inside = within entity reference o stands in at_same (at now entity) reference place inside.least inside.most

  abbrev pub changes : Changes link old new
  changes = record {
    system = s;
    entity = entity;
    changed = changed;
    reference = reference;
    there = there;
    entities = entities;
    own = refl;
    silent = λ n. refl;
    selectors = refl;
    others = λ other apart. at_other (at now entity) reference other place (within entity reference o stands).least apart;
    numbers = λ at_system other apart. ap (λ (es : List EndAt). latest es at_system other) (ends ∙ row_stays link titles timers w journal old explains s entity there reference o event stands);
    clock = clock;
  }

  pub numbers_same : (at_system other : ℕ) → latest new.ends at_system other ≡ latest old.ends at_system other
  numbers_same at_system other = ap (λ (es : List EndAt). latest es at_system other) (ends ∙ row_stays link titles timers w journal old explains s entity there reference o event stands)

  pub known : IsKnown w entity.own reference o
  known = subst (IsThere w entity.own reference) stands ((explains.known.holds s entity there).there reference)

  calls_of : IsAsking o.stage → o.base.is_called ≡ false
  calls_of = seen_calls (w.base.end known.k).birth (w.base.end known.k).took (w.base.end known.k).latest o.base o.stage known.sees.state

  -- ---- the end that asked

  module _ (x system : ℕ) (from : List ℕ) (N : Type 0) (b : EndRecord) (r : InCrWait) (h : IsHere system x from N b r old) where
    pub calls : b.is_called ≡ false
    calls = (asking_known link titles timers w journal old explains going system x from N b r h).0.sees.state.calls

    -- it is the one
    pub is_it : s ≡ system → reference ≡ b.own → o ≡ in_cr_wait b r
    is_it at_it same =
        let owner : entity ≡ h.entity = same_Some entity h.entity (sym there ∙ ap (entity_at old.entities) at_it ∙ h.there) in
        same_Some o (in_cr_wait b r) (sym stands ∙ (λ i. end_at (owner i) (same i)) ∙ h.stands)

    -- it called the end, or not
    abbrev pub IsCalled : Type 0
    IsCalled = (entity.own ≡ b.to) × (is_called_by o.base from b.own ≡ true)

    pub called_or : IsCalled ⊎ (IsCalled → ⊥)
    called_or = by (pointwise nat_eq entity.own b.to) (is_called_by o.base from b.own) refl refl
      where
        by : (one other : Bool) → pointwise nat_eq entity.own b.to ≡ one → is_called_by o.base from b.own ≡ other → IsCalled ⊎ (IsCalled → ⊥)
        by true true to called = inl ((bytes_decides entity.own b.to).0 to, called)
        by true false to called = inr (λ both. absurd (cc (called, both.1)))
        by false other to called = inr (λ both. let yes = (bytes_decides entity.own b.to).1 both.0 in absurd (cc (to, yes)))

    -- ---- another end that it did not call

    module _ (apart : s ≡ system → reference ≡ b.own → ⊥) (other : IsCalled → ⊥) where
      pub none_new : (p : End) → end_at changed reference ≡ Some p → entity.own ≡ b.to → is_called_by p.base from b.own ≡ true → IsUnanswered p.stage
      none_new p at_it to called =
          let is : p ≡ end_of m = place_is p (sym placed ∙ at_it) in
          absurd (other (to, called_still now o event from b.own calls_of (subst (λ (z : End). is_called_by z.base from b.own ≡ true) is called)))

      -- its called end is another one
      pub not_waiting : (d : IsWaiting system x from N b r old) → d.at_system ≡ s → d.own ≡ reference → ⊥
      not_waiting d at_it same =
          let owner : d.entity ≡ entity = same_Some d.entity entity (sym d.there ∙ ap (entity_at old.entities) at_it ∙ there) in
          let is : d.end ≡ o = same_Some d.end o (sym d.stands ∙ (λ i. end_at (owner i) (same i)) ∙ stands) in
          other (sym (ap (λ (z : Entity). z.own) owner) ∙ d.own_is, subst (λ (z : End). is_called_by z.base from b.own ≡ true) is d.called)

      -- what it sends is not for that end, nor in its name
      pub apart_posts : stop_of o.stage ≡ None → IsFit o event → IsSourced 0 event → IsProperEvent o event → (NamedBy event b.own → ⊥) → AreApart system from N b r (posted s m.tpdus)
      apart_posts goes fit sourced may unnamed = posted_each (IsKeptApart system from N b r) s m.tpdus
          (row_apart link titles timers w journal old explains going system x from N b r h s entity there reference o stands event apart other goes fit sourced may (λ to. unnamed))

      -- it sees nothing of it
      pub row_bare : (posts : List Post) → AreApart system from N b r (posted s m.tpdus) → IsBare link x system from N b r old posts → IsBare link x system from N b r new (posts ++ posted s m.tpdus)
      row_bare posts aside bare = bare_on link old new changes x system from N b r posts (posted s m.tpdus) bare (λ at_it same. apart (sym at_it) (sym same)) none_new aside

      pub row_pending : (posts : List Post) → IsPending system x from N b r old posts → IsPending system x from N b r new (posts ++ posted s m.tpdus)
      row_pending posts p = still_pending link old new changes x system from N b r posts (posted s m.tpdus) p not_waiting

    -- ---- an end that it called sends it a reply

    pub row_replies : (apart : s ≡ system → reference ≡ b.own → ⊥) (posts : List Post) (sent : Sent) → IsCalled → m.tpdus ≡ sent ∷ [] → IsReply from N b.own sent → AreApart system from N b r posts
        → IsReplied link x system from N b r new (posts ++ posted s m.tpdus)
    row_replies apart posts sent called is reply quiet = record {
      here = here_on link old new changes x system from N b r h (λ at_it same. apart (sym at_it) (sym same));
      front = posts;
      answer = record { system = s; sent = sent };
      back = [];
      posts_are = ap (λ (tpdus : List Sent). posts ++ posted s tpdus) is;
      entity = changed;
      there = changed_there link old new changes;
      own_is = called.0;
      apart = quiet;
      reply = reply;
    }

    pub row_replied : (apart : s ≡ system → reference ≡ b.own → ⊥) (posts : List Post) → IsReplied link x system from N b r old posts → IsReplied link x system from N b r new (posts ++ posted s m.tpdus)
    row_replied apart posts k = replied_on link old new changes x system from N b r posts (posted s m.tpdus) k (λ at_it same. apart (sym at_it) (sym same))
