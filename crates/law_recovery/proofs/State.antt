-- An end that was in CrWait, since when nothing is lost: what waits for it, and what is known of the end that it calls.
use Rattle.std.proofs.Common.{◌≡◌, ℕ, ◌+◌, ◌≤◌, true, false, List, [], ◌∷◌, ◌++◌, Some}
use Rattle.std.specs.Prelude.{◌&&◌, not}
use Rattle.std.specs.List.{AllByRecursion}
use Rattle.std.proofs.lemmas.List.Elements.{Contains-append_left}
use Rattle.osi_base.specs.Link.{Link}
use Rattle.script_journal.specs.declared.event.Event.{Event as JournalEvent}
use Rattle.tpdu.specs.Values.{destination_of}
use Rattle.tpdu.specs.Writing.{is_summed}
use Rattle.tp4_sending.specs.declared.tries.Tries.{Tries}
use Rattle.tp4_flow.specs.declared.step.Sent.{Sent}
use Rattle.tp4_conn.specs.End.{End}
use Rattle.tp4_conn.specs.Matching.{is_answer, is_called_by, is_summed_confirm}
use Rattle.tp4_conn.specs.Table.{at as now_at}
use Rattle.tp4_conn.specs.declared.end_record.EndRecord.{EndRecord}
use Rattle.tp4_conn.specs.declared.states.InAkWait.{InAkWait}
use Rattle.tp4_conn.specs.declared.states.InCrWait.{InCrWait}
use Rattle.tp4_conn.specs.declared.states.StateData.TheVariants.{AkWait}
use Rattle.tp4_entity.specs.Entity.{Entity, end_at}
use Rattle.tp4_world.specs.World.{World, entity_at, latest}
use Rattle.law_calm_run.proofs.Hall.{Post}
use Rattle.law_recovery_run.specs.Aside.{IsSentTo, Names}
use Rattle.law_recovery_run.specs.Requesting.{AreListening, AreUnanswered, cr_from}
use Rattle.law_recovery_run.proofs.RequestComes.{AreRegistered, Asking, IsHere, IsPending, IsWaiting, Refusing, Waiting}
use Rattle.law_recovery_run.proofs.Keeping.{IsKeptApart}
use Rattle.law_recovery_run.specs.Asked.{IsExhausted, IsTold}
use Rattle.law_recovery.proofs.HalvesTelling.{IsNamedTpdu}

-- ---- what waits

-- a CC or a DR for the end of that reference, that it takes
pub record IsReply (from : List ℕ) (N : Type 0) (own : ℕ) (sent : Sent) : Type 0 where
  pub to : sent.to ≡ from
  pub target : destination_of sent.tpdu ≡ Some own
  pub answer : is_answer sent.tpdu ≡ true
  pub summed : (is_summed_confirm sent.tpdu && not (is_summed sent.sum sent.tpdu)) ≡ false
  pub named : IsNamedTpdu N sent.tpdu

abbrev pub AreApart : (system : ℕ) (from : List ℕ) (N : Type 0) (b : EndRecord) (r : InCrWait) → List Post → Type 0
AreApart system from N b r posts = AllByRecursion (IsKeptApart system from N b r) posts

-- where the end sent its CR another time
pub apart_as : (system : ℕ) (from : List ℕ) (N : Type 0) (b : EndRecord) (r : InCrWait) (now : ℕ) (tries : Tries) (posts : List Post) → AreApart system from N b r posts → AreApart system from N (now_at now b) (record r { tries = tries }) posts
apart_as system from N b r now tries [] all = tt
apart_as system from N b r now tries (post ∷ posts) all =
    (record { refused = all.0.refused; named = all.0.named; sourced = all.0.sourced }, apart_as system from N b r now tries posts all.1)

module _ {C : Type 0} (link : C → Link (List ℕ)) (x system : ℕ) (from : List ℕ) (N : Type 0) where
  -- it is in CrWait, and none that it called was answered; what waits for it is a DR as its CR is refused by
  pub record IsBare (b : EndRecord) (r : InCrWait) (world : World C) (posts : List Post) : Type 0 where
    pub here : IsHere system x from N b r world
    pub unanswered : AreUnanswered world b.to from b.own
    pub listens : AreListening (link world.carrier).clock world b.to
    pub selects : AreRegistered N world b.to b.called
    pub apart : AreApart system from N b r posts

  -- it is in CrWait, and a reply waits for it from a system that it calls, behind what is no other
  pub record IsReplied (b : EndRecord) (r : InCrWait) (world : World C) (posts : List Post) : Type 0 where
    pub here : IsHere system x from N b r world
    pub front : List Post
    pub answer : Post
    pub back : List Post
    pub posts_are : posts ≡ front ++ (answer ∷ back)
    pub entity : Entity
    pub there : entity_at world.entities answer.system ≡ Some entity
    pub own_is : entity.own ≡ b.to
    pub apart : AreApart system from N b r front
    pub reply : IsReply from N b.own answer.sent

  -- What waits is not from its system for the end of the reference `own` of another one, nor in the name of that end
  pub record IsQuiet (to : List ℕ) (at_system own : ℕ) (post : Post) : Type 0 where
    pub none : post.system ≡ system → IsSentTo to own post.sent → ⊥
    pub unnamed : post.system ≡ at_system → Names own post.sent.tpdu → ⊥

  -- It is in CrWait, and the end y that it called is in AkWait, and sent its CC T1 before that tick at the latest; none waits for it, or for y from it
  pub record IsAccepted (y limit : ℕ) (b : EndRecord) (r : InCrWait) (world : World C) (posts : List Post) : Type 0 where
    pub here : IsHere system x from N b r world
    pub listens : AreListening (link world.carrier).clock world b.to
    pub selects : AreRegistered N world b.to b.called
    pub apart : AreApart system from N b r posts
    pub at_system : ℕ
    pub own : ℕ
    pub entity : Entity
    pub there : entity_at world.entities at_system ≡ Some entity
    pub own_is : entity.own ≡ b.to
    pub end : End
    pub w : InAkWait
    pub stands : end_at entity own ≡ Some end
    pub stage : end.stage ≡ AkWait w
    pub called : is_called_by end.base from b.own ≡ true
    pub number : latest world.ends at_system own ≡ y
    pub past : w.tries.last + end.base.timers.t1 ≤ limit
    pub quiet : AllByRecursion (IsQuiet b.to at_system own) posts

  -- Of an end that was so at t0: it sent nothing since; or its CR waits, or its called end is there; or that was accepted before; or a reply waits; or these lines tell what became of it, or that
  -- the end y is exhausted
  pub data IsOn (F : Type 0) (y limit : ℕ) (first : EndRecord) (asked : InCrWait) (late : List JournalEvent) (world : World C) (posts : List Post) : Type 0 where
    Early : (F → ⊥) → IsBare first asked world posts → IsOn F y limit first asked late world posts
    Asked : (F → ⊥) → (b : EndRecord) (r : InCrWait) → IsBare b r world posts → IsPending system x from N b r world posts → IsOn F y limit first asked late world posts
    Accepted : F → (b : EndRecord) (r : InCrWait) → IsAccepted y limit b r world posts → IsOn F y limit first asked late world posts
    Replied : (b : EndRecord) (r : InCrWait) → IsReplied b r world posts → IsOn F y limit first asked late world posts
    Told : IsTold N late x → IsOn F y limit first asked late world posts
    Over : F → IsExhausted late y → IsOn F y limit first asked late world posts

-- ---- with more that waits

module _ {C : Type 0} (x system : ℕ) (from : List ℕ) (N : Type 0) (b : EndRecord) (r : InCrWait) where
  -- in another state of the network that has those of its systems
  pub pending_on : (old new : World C) (posts more : List Post) → IsPending system x from N b r old posts
      → ((s : ℕ) (e : Entity) → entity_at old.entities s ≡ Some e → e.own ≡ b.to → (z : Entity) × (entity_at new.entities s ≡ Some z) × (z.own ≡ b.to)) → (IsWaiting system x from N b r old → IsWaiting system x from N b r new)
      → IsPending system x from N b r new (posts ++ more)
  pending_on old new posts more (Asking waits) placed waiting = Asking (Contains-append_left posts more (cr_from system b r) waits)
  pending_on old new posts more (Refusing d) placed waiting =
      let z = placed d.at_system d.entity d.there d.own_is in
      Refusing (record {
        at_system = d.at_system;
        entity = z.0;
        there = z.1;
        own_is = z.2;
        reason = d.reason;
        is_reason = d.is_reason;
        waits = Contains-append_left posts more _ d.waits;
      })
  pending_on old new posts more (Waiting d) placed waiting = Waiting (waiting d)
