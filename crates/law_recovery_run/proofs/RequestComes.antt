-- What waits first comes to an entity: an end in CrWait stays as it is or takes an answer, the end that it calls stays in UserWait, and its CR makes that end where there is none, or a DR
-- goes back.
use Rattle.std.proofs.Common.{◌≡◌, ◌⊎◌, inl, inr, ℕ, ◌<◌, ◌==◌, Bool, true, false, List, [], ◌∷◌, ◌++◌, Some, None, refl, sym, ◌∙◌, ap, subst, arith}
use Rattle.std.specs.Prelude.{◌&&◌, if◌then◌else◌}
use Rattle.std.specs.List.{Contains}
use Rattle.std.specs.Cmp.Lexicographic.{bytes_decides}
use Rattle.std.proofs.lemmas.Bool.{eqb-false, eqb-true}
use Rattle.std.proofs.lemmas.List.Elements.{Contains-append_cases, Contains-append_left, Contains-append_right, Contains-push, Contains-push_cases}
use Rattle.std.proofs.lemmas.Option.{same_Some}
use Rattle.osi_base.specs.Link.{Link}
use Rattle.script_journal.specs.declared.event.Event.{Event as JournalEvent}
use Rattle.tpdu.specs.Kinds.{has_number}
use Rattle.tpdu.specs.Values.{destination_of}
use Rattle.tpdu.specs.Writing.{is_summed, kind_for}
use Rattle.tpdu.specs.declared.tpdu.Tpdu.{Tpdu as WireTpdu}
use Rattle.tp4_number.specs.Number.{whole}
use Rattle.tp4_flow.specs.declared.step.Sent.{Sent}
use Rattle.tp4_conn.specs.Agreeing.{request}
use Rattle.tp4_conn.specs.End.{End, Moved, end_of, frozen_for}
use Rattle.tp4_conn.specs.Making.{indicated}
use Rattle.tp4_conn.specs.Matching.{is_called_by, is_match}
use Rattle.tp4_conn.specs.Table.{Took, at as now_at, stepped, takes}
use Rattle.tp4_conn.specs.declared.end_record.EndRecord.{EndRecord}
use Rattle.tp4_conn.specs.declared.states.InCrWait.{InCrWait}
use Rattle.tp4_conn.specs.declared.states.StateData.{StateData}
use Rattle.tp4_conn.specs.declared.states.StateData.TheVariants as stages
use Rattle.tp4_conn.specs.declared.timers.Timers.{Timers}
use Rattle.tp4_entity.specs.Association.{is_registered, met, met_by, refusal, unmatched}
use Rattle.tp4_entity.specs.Entity.{Acted, Entity, at, end_at, moved}
use Rattle.tp4_entity.specs.References.{is_free_place}
use Rattle.tp4_entity.specs.Silence.{is_silent}
use Rattle.tp4_entity.proofs.Standings.{within}
use Rattle.law_tp4_associations.specs.Phase.{IsAsking}
use Rattle.law_tp4_history.specs.Ends.{Birth}
use Rattle.law_tp4_history.specs.Tracks.{Whole}
use Rattle.law_tp4_history.specs.Moves.{IsSeenIn, stop_of}
use Rattle.tp4_world.specs.Telling.{ends_after}
use Rattle.tp4_world.specs.World.{World, entity_at, latest}
use Rattle.tp4_world.specs.declared.place.EndAt.{EndAt}
use Rattle.tp4_world.specs.declared.place.Placed.{Placed}
use Rattle.tp4_world.proofs.Having.{with_any}
use Rattle.tp4_world.proofs.Entities.{with_found}
use Rattle.law_tp4_lawful.proofs.Acts.{stage_of}
use Rattle.law_tp4_lawful.proofs.ActsRows.{AreTold, row_of}
use Rattle.law_tp4_lawful.proofs.ActsTold.{ends_stay}
use Rattle.law_tp4_lawful.proofs.Known.{IsKnown, IsReadAs, IsThere}
use Rattle.law_tp4_lawful.proofs.Frames.{entity_other}
use Rattle.law_tp4_lawful.proofs.MakesPlaces.{at_same}
use Rattle.law_tp4_lawful.proofs.Worlds.{Explains}
use Rattle.law_tp4_associations.proofs.Entities.{did_take}
use Rattle.law_tp4_associations.proofs.HeldPlaces.{silent_like}
use Rattle.law_tp4_associations.proofs.EndedWorlds.{IsFitWorld}
use Rattle.law_calm_run.proofs.Hall.{Post, posted}
use Rattle.law_calm_run.proofs.Newest.{latest_elsewhere}
use Rattle.law_recovery_run.proofs.Aside.{kept_place}
use Rattle.law_recovery_run.specs.Following.{Stands}
use Rattle.law_recovery_run.proofs.Delivering.{HasActed}
use Rattle.law_recovery_run.specs.Requesting.{AreListening, AreUnanswered, HasTaken, IsPast, IsRefusal, IsUnanswered, cr_from, in_cr_wait}
use Rattle.law_recovery_run.proofs.Places.{ComesFrom, IsAsked, IsFound, IsMet, IsReasonOf, Made, Makes, New, Refused, Stays, Takes, There, Was, Went, answer_row, asks, comes_from, cr_wait_row, found, goes_on, met_is, reason_as, reason_of, unanswered_row, user_waits, waits_on}

-- ---- lists

pub none_there : {A : Type 0} (x : A) → Contains [] x → ⊥
none_there {A} x c = let low : c.0 < 0 = c.1 in omega (arith, low)

-- an element is the first or one of the rest
pub first_or_rest : {A : Type 0} (one x : A) (others : List A) → Contains (one ∷ others) x → (one ≡ x) ⊎ Contains others x
first_or_rest {A} one x others among = elim (Contains-append_cases (one ∷ []) others x among) [
  | inl first ↦ elim (Contains-push_cases [] one x first) [ inl none ↦ absurd (none_there x none) | inr same ↦ inl same ]
  | inr more ↦ inr more
]

-- a calling end is no called one
pub seen_calls : (birth : Birth) (took last : ℕ) (b : EndRecord) (stage : StateData) → IsSeenIn birth took last b stage → IsAsking stage → b.is_called ≡ false
seen_calls birth took last b (stages.CrWait w) seen asking = seen.calls
seen_calls birth took last b (stages.WaitBeforeClose w) seen asking = seen.calls
seen_calls birth took last b stage seen asking = absurd asking

-- ---- an end in CrWait, and the end that it calls

-- where that selector is not registered at an entity at that address, that is known
abbrev pub AreRegistered : {C : Type 0} → Type 0 → World C → List ℕ → List ℕ → Type 0
AreRegistered N world to called = (system : ℕ) (entity : Entity) → entity_at world.entities system ≡ Some entity → entity.own ≡ to → is_registered entity.selectors called ≡ false → N

-- the TPDU is a DR by which a CR is refused
pub record IsRefusalOf (from : List ℕ) (N : Type 0) (own : ℕ) (tpdu : WireTpdu) : Type 0 where
  pub reason : ℕ
  pub is_reason : IsReasonOf N reason
  pub is : tpdu ≡ (refusal from own reason).tpdu

pub refusal_of : (from : List ℕ) (N : Type 0) (own : ℕ) (tpdu : WireTpdu) → IsRefusalOf from N own tpdu → IsRefusal from own tpdu
refusal_of from N own tpdu f = record { reason = f.reason; is_reason = reason_of N f.reason f.is_reason; is = f.is }

module _ {C : Type 0} (system x : ℕ) (from : List ℕ) (N : Type 0) (b : EndRecord) (r : InCrWait) where
  -- it stands
  pub record IsHere (world : World C) : Type 0 where
    pub entity : Entity
    pub there : entity_at world.entities system ≡ Some entity
    pub own_is : entity.own ≡ from
    pub stands : end_at entity b.own ≡ Some (in_cr_wait b r)
    pub number : latest world.ends system b.own ≡ x

  -- its called end stands in UserWait
  pub record IsWaiting (world : World C) : Type 0 where
    pub at_system : ℕ
    pub own : ℕ
    pub entity : Entity
    pub end : End
    pub since : ℕ
    pub there : entity_at world.entities at_system ≡ Some entity
    pub own_is : entity.own ≡ b.to
    pub stands : end_at entity own ≡ Some end
    pub stage : end.stage ≡ stages.UserWait since
    pub called : is_called_by end.base from b.own ≡ true

  -- a DR waits for it, from the system that it calls
  pub record IsRefused (world : World C) (posts : List Post) : Type 0 where
    pub at_system : ℕ
    pub entity : Entity
    pub there : entity_at world.entities at_system ≡ Some entity
    pub own_is : entity.own ≡ b.to
    pub reason : ℕ
    pub is_reason : IsReasonOf N reason
    pub waits : Contains posts (record { system = at_system; sent = refusal from b.own reason })

  -- its CR waits, or the DR, or its called end is there
  pub data IsPending (world : World C) (posts : List Post) : Type 0 where
    Asking : Contains posts (cr_from system b r) → IsPending world posts
    Refusing : IsRefused world posts → IsPending world posts
    Waiting : IsWaiting world → IsPending world posts

  pub record IsUnsettled (world : World C) (posts : List Post) : Type 0 where
    pub here : IsHere world
    pub unanswered : AreUnanswered world b.to from b.own
    pub pending : IsPending world posts

  -- they stand so where no entity changed
  module _ (old new : World C) (entities : new.entities ≡ old.entities) where
    pub here_same : new.ends ≡ old.ends → IsHere old → IsHere new
    here_same ends h = record {
      entity = h.entity;
      there = ap (λ (ps : List Placed). entity_at ps system) entities ∙ h.there;
      own_is = h.own_is;
      stands = h.stands;
      number = ap (λ (es : List EndAt). latest es system b.own) ends ∙ h.number;
    }

    pub waiting_same : IsWaiting old → IsWaiting new
    waiting_same d = record {
      at_system = d.at_system;
      own = d.own;
      entity = d.entity;
      end = d.end;
      since = d.since;
      there = ap (λ (ps : List Placed). entity_at ps d.at_system) entities ∙ d.there;
      own_is = d.own_is;
      stands = d.stands;
      stage = d.stage;
      called = d.called;
    }

module _ {C : Type 0} (link : C → Link (List ℕ)) (titles : List (List ℕ)) (timers : Timers) (w : Whole) (journal : List JournalEvent) (old : World C) (explains : Explains link titles timers w journal old)
    (new : World C) (post : Post) (rest : List Post) (made : List JournalEvent) (a : HasActed link old new post made) where
  abbrev now : ℕ
  now = (link old.carrier).clock

  abbrev e : Entity
  e = at now a.entity

  -- it is read so
  abbrev pub Read : WireTpdu → Bool → Type 0
  Read t sum = IsReadAs a.entity post.sent (t, sum)

  pub met_so : IsMet Read now e a.sender.own a.acted
  met_so = elim a.heard.any [
    | inl h ↦ subst (IsMet Read now e a.sender.own) (sym h.2) (met_is Read now e a.sender.own h.0 h.1 h.3)
    | inr (inl bad) ↦ subst (IsMet Read now e a.sender.own) (sym bad.2) (Stays refl (λ ends system. refl) tt)
    | inr (inr silent) ↦ subst (IsMet Read now e a.sender.own) (sym silent) (Stays refl (λ ends system. refl) tt)
  ]

  known_of : (reference : ℕ) (o : End) → end_at a.entity reference ≡ Some o → IsKnown w a.entity.own reference o
  known_of reference o stands = subst (IsThere w a.entity.own reference) stands ((explains.known.holds a.system a.entity a.there).there reference)

  calls_of : (reference : ℕ) (o : End) → end_at a.entity reference ≡ Some o → IsAsking o.stage → o.base.is_called ≡ false
  calls_of reference o stands asking =
      let k = known_of reference o stands in
      seen_calls (w.base.end k.k).birth (w.base.end k.k).took (w.base.end k.k).latest o.base o.stage k.sees.state asking

  -- ---- the systems

  new_there : entity_at new.entities a.system ≡ Some a.acted.entity
  new_there = ap (λ (ps : List Placed). entity_at ps a.system) a.entities ∙ with_found old.entities a.system a.entity a.acted.entity a.there

  -- the entity of a system acted, or is as it was
  abbrev pub IsPlaced : ℕ → Entity → Type 0
  IsPlaced s z = ((s ≡ a.system) × (z ≡ a.entity) × (entity_at new.entities s ≡ Some a.acted.entity)) ⊎ (entity_at new.entities s ≡ Some z)

  pub placed : (s : ℕ) (z : Entity) → entity_at old.entities s ≡ Some z → IsPlaced s z
  placed s z there = by (s == a.system) refl
    where
      by : (c : Bool) → (s == a.system) ≡ c → IsPlaced s z
      by true same =
          let at_it : s ≡ a.system = eqb-true s a.system same in
          inl (at_it, same_Some z a.entity (sym there ∙ ap (entity_at old.entities) at_it ∙ a.there), ap (entity_at new.entities) at_it ∙ new_there)
      by false apart = inr (ap (λ (ps : List Placed). entity_at ps s) a.entities ∙ entity_other old.entities a.system s a.acted.entity (eqb-false s a.system apart) ∙ there)

  -- an end that stands and is not frozen has its number still
  pub number_on : (s reference n : ℕ) (z : Entity) (o : End) → entity_at old.entities s ≡ Some z → end_at z reference ≡ Some o → stop_of o.stage ≡ None → latest old.ends s reference ≡ n
      → latest new.ends s reference ≡ n
  number_on s reference n z o there stands goes number = ap (λ (es : List EndAt). latest es s reference) a.ends ∙ by met_so
    where
      by : IsMet Read now e a.sender.own a.acted → latest (ends_after old.ends a.system a.acted.events) s reference ≡ n
      by (Stays same none answers) = ap (λ (es : List EndAt). latest es s reference) (none old.ends a.system) ∙ number
      by (Takes t sum own p read target at_it match is) =
          ap (λ (m : Acted). latest (ends_after old.ends a.system m.events) s reference) is ∙ ap (λ (es : List EndAt). latest es s reference) (ends_stay a.system a.entity.own old.ends own m.events told) ∙ number
        where
          m : Moved
          m = stepped whole now p (Took t sum)

          k : IsKnown w a.entity.own own p
          k = known_of own p at_it

          own_is : p.base.own ≡ own
          own_is = sym k.sees.reference ∙ k.at.reference_is

          told : AreTold own m.events
          told = subst (λ (i : ℕ). AreTold i m.events) own_is
              (row_of whole now p.base.own p (Took t sum) (refl, stage_of (w.base.end k.k).birth (w.base.end k.k).took (w.base.end k.k).latest p.base p.stage k.sees.state)).told
      by (Makes own base octets free own_is is) =
          ap (λ (m : Acted). latest (ends_after old.ends a.system m.events) s reference) is
          ∙ latest_elsewhere old.ends (record { system = a.system; reference = base.own }) s reference (λ at_it same.
          let owner : z ≡ a.entity = same_Some z a.entity (sym there ∙ ap (entity_at old.entities) at_it ∙ a.there) in
          kept_place now (frozen_for o.base.timers) o.stage goes (ap (is_free_place now) (sym stands ∙ (λ i. end_at (owner i) ((same ∙ own_is) i))) ∙ free.free))
          ∙ number

  -- what came, where it has no number and the entity is not silent
  pub came_as : (other : Sent) (address : List ℕ) → post.sent ≡ other → a.sender.own ≡ address → has_number (kind_for other.tpdu) ≡ false → is_silent now a.entity ≡ false
      → a.acted ≡ met whole now e address (other.tpdu, is_summed other.sum other.tpdu)
  came_as other address is from_is plain awake =
      a.heard.as_sent awake (inl (ap (λ (s : Sent). has_number (kind_for s.tpdu)) is ∙ plain))
      ∙ (λ i. met whole now e (from_is i) ((is i).tpdu, is_summed (is i).sum (is i).tpdu))

  -- ---- the two ends

  module _ (system x : ℕ) (from : List ℕ) (N : Type 0) (b : EndRecord) (r : InCrWait) where
    abbrev pub asking : End
    asking = in_cr_wait b r

    number_here : IsHere system x from N b r old → latest new.ends system b.own ≡ x
    number_here h = number_on system b.own x h.entity asking h.there h.stands refl h.number

    taken_at : (t : WireTpdu) (sum : Bool) (entity : Entity) → entity_at new.entities system ≡ Some entity → end_at entity b.own ≡ Some (end_of (takes whole now b (stages.CrWait r) t sum)) → IsHere system x from N b r old
        → Stands new x (end_of (takes whole (link new.carrier).clock b (stages.CrWait r) t sum))
    taken_at t sum entity there stands h =
        subst (λ (n : ℕ). Stands new x (end_of (takes whole n b (stages.CrWait r) t sum))) (sym a.clock)
        (record { system = system; reference = b.own; entity = entity; is_end = record { there = there; stands = stands; number = number_here h } })

    -- it took what came, by its row; and that is a DR as a CR is refused by, or it came for it
    pub record IsTakenHere : Type 0 where
      pub has : HasTaken link new x b r
      pub at_it : a.system ≡ system
      pub row : a.acted ≡ moved e b.own (stepped whole now asking (Took has.tpdu has.sum))
      pub whence : IsRefusalOf from N b.own has.tpdu ⊎ ((sum : Bool) × Read has.tpdu sum × (destination_of has.tpdu ≡ Some b.own) × (a.system ≡ system))

    -- the calling end
    pub here_on : IsHere system x from N b r old → IsHere system x from N b r new ⊎ IsTakenHere
    here_on h = elim (placed system h.entity h.there) [
      | inl acts ↦
          let own : a.acted.entity.own ≡ from = a.kept ∙ ap (λ (z : Entity). z.own) (sym acts.1) ∙ h.own_is in
          elim (goes_on Read now e a.sender.own a.acted met_so b.own asking (ap (λ (z : Entity). end_at z b.own) (sym acts.1) ∙ h.stands) refl) [
            | inl same ↦ inl (record { entity = a.acted.entity; there = acts.2; own_is = own; stands = same; number = number_here h })
            | inr took ↦ elim (cr_wait_row now b r took.t took.sum took.fit) [
              | inl same ↦
                  inl (record { entity = a.acted.entity; there = acts.2; own_is = own; stands = took.stands ∙ ap (λ (z : End). Some z) same; number = number_here h })
              | inr past ↦ inr (record {
                has = record {
                  tpdu = took.t;
                  sum = took.sum;
                  answer = took.fit;
                  taken = taken_at took.t took.sum a.acted.entity acts.2 took.stands h;
                  past = subst (λ (n : ℕ). IsPast (takes whole n b (stages.CrWait r) took.t took.sum).stage) (sym a.clock) past;
                };
                at_it = sym acts.0;
                row = took.is;
                whence = inr (took.sum, took.read, took.target, sym acts.0);
              })
            ]
          ]
      | inr still ↦ inl (record { entity = h.entity; there = still; own_is = h.own_is; stands = h.stands; number = number_here h })
    ]

    -- no called end of it was answered
    pub unanswered_on : AreUnanswered old b.to from b.own → AreUnanswered new b.to from b.own
    unanswered_on was s own z f there own_is stands called = elim (with_any old.entities a.system s a.acted.entity z (ap (λ (ps : List Placed). entity_at ps s) (sym a.entities) ∙ there)) [
      | inl here ↦ by (sym a.kept ∙ ap (λ (i : Entity). i.own) (sym here.1) ∙ own_is) (comes_from Read now e a.sender.own a.acted met_so own f (ap (λ (i : Entity). end_at i own) (sym here.1) ∙ stands))
      | inr before ↦ was s own z f before own_is stands called
    ]
      where
        by : a.entity.own ≡ b.to → ComesFrom Read now e a.sender.own a.acted own f → IsUnanswered f.stage
        by to_is (Was at_it) = was a.system own a.entity f a.there to_is at_it called
        by to_is (Went p t sum at_it fit is) =
            absurd (unanswered_row now p t sum from b.own (calls_of own p at_it) (λ c. was a.system own a.entity p a.there to_is at_it c) fit
            (subst (λ (i : End). is_called_by i.base from b.own ≡ true) is called))
        by to_is (New base octets is) = subst (λ (i : End). IsUnanswered i.stage) (sym is) tt

    -- the entities there listen still
    pub listens_on : IsFitWorld link old → AreListening now old b.to → AreListening (link new.carrier).clock new b.to
    listens_on fit was s z there own_is =
        subst (λ (n : ℕ). is_silent n z ≡ false) (sym a.clock)
        (elim (with_any old.entities a.system s a.acted.entity z (ap (λ (ps : List Placed). entity_at ps s) (sym a.entities) ∙ there)) [
          | inl here ↦
              ap (is_silent now) here.1 ∙ silent_like now a.entity a.acted.entity (did_take a.system now whole a.sender.own a.entity a.octets a.acted (fit a.system a.entity a.there) a.takes).like
              ∙ was a.system a.entity a.there (sym a.kept ∙ ap (λ (i : Entity). i.own) (sym here.1) ∙ own_is)
          | inr before ↦ was s z before own_is
        ])

    -- its called end
    waiting_on : IsWaiting system x from N b r old → IsWaiting system x from N b r new
    waiting_on d = elim (placed d.at_system d.entity d.there) [
      | inl acts ↦
          elim (goes_on Read now e a.sender.own a.acted met_so d.own d.end (ap (λ (z : Entity). end_at z d.own) (sym acts.1) ∙ d.stands) (ap stop_of d.stage)) [
            | inl same ↦ record {
              at_system = d.at_system;
              own = d.own;
              entity = a.acted.entity;
              end = d.end;
              since = d.since;
              there = acts.2;
              own_is = a.kept ∙ ap (λ (z : Entity). z.own) (sym acts.1) ∙ d.own_is;
              stands = same;
              stage = d.stage;
              called = d.called;
            }
            | inr took ↦ absurd (waits_on d.end.base d.end.stage d.since took.t d.stage took.fit)
          ]
      | inr still ↦ record {
        at_system = d.at_system;
        own = d.own;
        entity = d.entity;
        end = d.end;
        since = d.since;
        there = still;
        own_is = d.own_is;
        stands = d.stands;
        stage = d.stage;
        called = d.called;
      }
    ]

    abbrev posts_now : List Post
    posts_now = rest ++ posted a.system a.acted.tpdus

    -- a DR that waits behind the first
    refused_on : (d : IsRefused system x from N b r old (post ∷ rest)) → Contains rest (record { system = d.at_system; sent = refusal from b.own d.reason }) → IsRefused system x from N b r new posts_now
    refused_on d waits = elim (placed d.at_system d.entity d.there) [
      | inl acts ↦ record {
        at_system = d.at_system;
        entity = a.acted.entity;
        there = acts.2;
        own_is = a.kept ∙ ap (λ (z : Entity). z.own) (sym acts.1) ∙ d.own_is;
        reason = d.reason;
        is_reason = d.is_reason;
        waits = Contains-append_left rest (posted a.system a.acted.tpdus) _ waits;
      }
      | inr still ↦ record {
        at_system = d.at_system;
        entity = d.entity;
        there = still;
        own_is = d.own_is;
        reason = d.reason;
        is_reason = d.is_reason;
        waits = Contains-append_left rest (posted a.system a.acted.tpdus) _ waits;
      }
    ]

    -- the CR comes
    cr_comes : IsHere system x from N b r old → AreUnanswered old b.to from b.own → AreListening now old b.to → AreRegistered N old b.to b.called → post ≡ cr_from system b r → IsPending system x from N b r new posts_now
    cr_comes h was listens selects is = by (subst (IsAsked now e from b.own b.called) (sym acted_is) (asks now e from b r.octets (is_summed sent.sum sent.tpdu)))
      where
        sent : Sent
        sent = request b r.octets

        sent_is : post.sent ≡ sent
        sent_is = ap (λ (p : Post). p.sent) is

        sender_is : a.sender ≡ h.entity
        sender_is = same_Some a.sender h.entity (sym a.sender_there ∙ ap (λ (p : Post). entity_at old.entities p.system) is ∙ h.there)

        to_is : a.entity.own ≡ b.to
        to_is = a.own_is ∙ ap (λ (s : Sent). s.to) sent_is

        acted_is : a.acted ≡ met whole now e from (sent.tpdu, is_summed sent.sum sent.tpdu)
        acted_is = came_as sent from sent_is (ap (λ (z : Entity). z.own) sender_is ∙ h.own_is) refl (listens a.system a.entity a.there to_is)

        by : IsAsked now e from b.own b.called a.acted → IsPending system x from N b r new posts_now
        by (There any acted) =
            let f : IsFound e from b.own = found e from b.own any in
            let waits = user_waits f.end.stage (was a.system f.own a.entity f.end a.there to_is f.stands f.called) f.held in
            Waiting (record {
              at_system = a.system;
              own = f.own;
              entity = a.acted.entity;
              end = f.end;
              since = waits.0;
              there = new_there;
              own_is = a.kept ∙ to_is;
              stands = ap (λ (z : Acted). end_at z.entity f.own) acted ∙ f.stands;
              stage = waits.1;
              called = f.called;
            })
        by (Made own base octets free called acted) = Waiting (record {
          at_system = a.system;
          own = own;
          entity = a.acted.entity;
          end = end_of (indicated base octets);
          since = base.clock;
          there = new_there;
          own_is = a.kept ∙ to_is;
          stands = ap (λ (z : Acted). end_at z.entity own) acted ∙ at_same e own (Some (end_of (indicated base octets))) free.least free.most;
          stage = refl;
          called = called;
        })
        by (Refused reason is_reason acted) = Refusing (record {
          at_system = a.system;
          entity = a.acted.entity;
          there = new_there;
          own_is = a.kept ∙ to_is;
          reason = reason;
          is_reason = reason_as (is_registered a.entity.selectors b.called ≡ false) N reason (selects a.system a.entity a.there to_is) is_reason;
          waits = Contains-append_right rest (posted a.system a.acted.tpdus) _
              (subst (λ (l : List Sent). Contains (posted a.system l) (record { system = a.system; sent = refusal from b.own reason })) (sym (ap (λ (z : Acted). z.tpdus) acted))
              (Contains-push [] (record { system = a.system; sent = refusal from b.own reason })));
        })

    -- the DR comes
    dr_comes : IsFitWorld link old → IsHere system x from N b r old → (d : IsRefused system x from N b r old (post ∷ rest)) → post ≡ record { system = d.at_system; sent = refusal from b.own d.reason } → IsTakenHere
    dr_comes fit h d is = record {
      has = record {
        tpdu = dr;
        sum = sum;
        answer = refl;
        taken = taken_at dr sum a.acted.entity (ap (entity_at new.entities) (sym at_it) ∙ new_there) stands_now h;
        past = answer_row (now_at (link new.carrier).clock b) r dr refl;
      };
      at_it = at_it;
      row = moved_is;
      whence = inl (record { reason = d.reason; is_reason = d.is_reason; is = refl });
    }
      where
        sent : Sent
        sent = refusal from b.own d.reason

        dr : WireTpdu
        dr = sent.tpdu

        sum : Bool
        sum = is_summed sent.sum dr

        sent_is : post.sent ≡ sent
        sent_is = ap (λ (p : Post). p.sent) is

        sender_is : a.sender ≡ d.entity
        sender_is = same_Some a.sender d.entity (sym a.sender_there ∙ ap (λ (p : Post). entity_at old.entities p.system) is ∙ d.there)

        at_it : a.system ≡ system
        at_it = explains.known.apart a.system system a.entity h.entity a.there h.there (a.own_is ∙ ap (λ (s : Sent). s.to) sent_is ∙ sym h.own_is)

        entity_is : a.entity ≡ h.entity
        entity_is = same_Some a.entity h.entity (sym a.there ∙ ap (entity_at old.entities) at_it ∙ h.there)

        stands : end_at a.entity b.own ≡ Some asking
        stands = ap (λ (z : Entity). end_at z b.own) entity_is ∙ h.stands

        acted_is : a.acted ≡ met whole now e b.to (dr, sum)
        acted_is = came_as sent b.to sent_is (ap (λ (z : Entity). z.own) sender_is ∙ d.own_is) refl ((fit a.system a.entity a.there).audible b.own asking stands)

        m : Moved
        m = stepped whole now asking (Took dr sum)

        match : is_match b (stages.CrWait r) b.to dr ≡ true
        match = ap (λ (c : Bool). c && true) ((bytes_decides b.to b.to).1 refl)

        moved_is : a.acted ≡ moved e b.own m
        moved_is =
            acted_is ∙ ap (met_by whole now e b.to (dr, sum) b.own) stands ∙ ap (λ (c : Bool). if c then moved e b.own m else unmatched e b.to dr) match

        stands_now : end_at a.acted.entity b.own ≡ Some (end_of m)
        stands_now =
            let inside = within a.entity b.own asking stands in
            ap (λ (z : Acted). end_at z.entity b.own) moved_is ∙ at_same e b.own (Some (end_of m)) inside.least inside.most

    -- one delivery
    pub unsettled_on : IsFitWorld link old → AreListening now old b.to → AreRegistered N old b.to b.called → IsUnsettled system x from N b r old (post ∷ rest) → IsUnsettled system x from N b r new posts_now ⊎ IsTakenHere
    unsettled_on fit listens selects o = by o.pending
      where
        stays : IsPending system x from N b r new posts_now → IsUnsettled system x from N b r new posts_now ⊎ IsTakenHere
        stays pending = elim (here_on o.here) [
          | inl here ↦ inl (record { here = here; unanswered = unanswered_on o.unanswered; pending = pending })
          | inr taken ↦ inr taken
        ]

        by : IsPending system x from N b r old (post ∷ rest) → IsUnsettled system x from N b r new posts_now ⊎ IsTakenHere
        by (Asking waits) = elim (first_or_rest post (cr_from system b r) rest waits) [
          | inl first ↦ stays (cr_comes o.here o.unanswered listens selects first)
          | inr later ↦ stays (Asking (Contains-append_left rest (posted a.system a.acted.tpdus) _ later))
        ]
        by (Refusing d) = elim (first_or_rest post (record { system = d.at_system; sent = refusal from b.own d.reason }) rest d.waits) [
          | inl first ↦ inr (dr_comes fit o.here d first)
          | inr later ↦ stays (Refusing (refused_on d later))
        ]
        by (Waiting d) = stays (Waiting (waiting_on d))
