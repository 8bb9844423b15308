-- An entity did something at one of its references, or at none: what stands at another place of the network stands there still.
use Rattle.std.proofs.Common.{◌≡◌, ◌≢◌, inl, inr, ℕ, ◌==◌, Bool, true, false, List, ◌∷◌, ◌++◌, Some, refl, sym, ◌∙◌, ap, subst, append_assoc}
use Rattle.std.specs.List.{AllByRecursion}
use Rattle.std.proofs.lemmas.Bool.{cases_eq, eqb-false, eqb-true}
use Rattle.std.proofs.lemmas.Option.{same_Some}
use Rattle.osi_base.specs.Link.{Link}
use Rattle.osi_base.proofs.Members.{all_both}
use Rattle.tp4_conn.specs.End.{End}
use Rattle.tp4_conn.specs.Matching.{is_called_by}
use Rattle.tp4_conn.specs.declared.end_record.EndRecord.{EndRecord}
use Rattle.tp4_conn.specs.declared.states.InCrWait.{InCrWait}
use Rattle.tp4_entity.specs.Association.{is_registered}
use Rattle.tp4_entity.specs.Entity.{Entity, end_at}
use Rattle.tp4_entity.specs.Silence.{is_silent}
use Rattle.tp4_world.specs.World.{World, entity_at, latest, with_entity}
use Rattle.tp4_world.specs.declared.place.Placed.{Placed}
use Rattle.tp4_world.proofs.Having.{with_any}
use Rattle.tp4_world.proofs.Entities.{with_found}
use Rattle.law_tp4_lawful.proofs.Frames.{entity_other}
use Rattle.law_calm_run.proofs.Hall.{Post}
use Rattle.law_recovery_run.specs.Requesting.{AreListening, AreUnanswered, IsUnanswered}
use Rattle.law_recovery_run.proofs.RequestComes.{AreRegistered, IsHere, IsPending, IsWaiting}
use Rattle.law_recovery_run.proofs.Keeping.{IsKeptApart}
use Rattle.law_recovery.proofs.State.{AreApart, IsAccepted, IsBare, IsQuiet, IsReplied, pending_on}

-- an entity is another one now, but for one reference
pub record Changes {C : Type 0} (link : C → Link (List ℕ)) (old new : World C) : Type 0 where
  pub system : ℕ
  pub entity : Entity
  pub changed : Entity
  pub reference : ℕ
  pub there : entity_at old.entities system ≡ Some entity
  pub entities : new.entities ≡ with_entity old.entities system changed
  pub own : changed.own ≡ entity.own
  pub silent : (now : ℕ) → is_silent now changed ≡ is_silent now entity
  pub selectors : changed.selectors ≡ entity.selectors
  pub others : (other : ℕ) → other ≢ reference → end_at changed other ≡ end_at entity other
  pub numbers : (place other : ℕ) → (place ≡ system → other ≡ reference → ⊥) → latest new.ends place other ≡ latest old.ends place other
  pub clock : (link new.carrier).clock ≡ (link old.carrier).clock

module _ {C : Type 0} (link : C → Link (List ℕ)) (old new : World C) (a : Changes link old new) where
  pub changed_there : entity_at new.entities a.system ≡ Some a.changed
  changed_there = ap (λ (ps : List Placed). entity_at ps a.system) a.entities ∙ with_found old.entities a.system a.entity a.changed a.there

  -- the entity of a system as it is now
  pub record IsNow (place : ℕ) (was : Entity) : Type 0 where
    pub entity : Entity
    pub there : entity_at new.entities place ≡ Some entity
    pub own : entity.own ≡ was.own
    pub same : (other : ℕ) → (place ≡ a.system → other ≡ a.reference → ⊥) → end_at entity other ≡ end_at was other

  pub now_at : (place : ℕ) (was : Entity) → entity_at old.entities place ≡ Some was → IsNow place was
  now_at place was there = by (place == a.system) refl
    where
      by : (c : Bool) → (place == a.system) ≡ c → IsNow place was
      by true same =
          let at_it : place ≡ a.system = eqb-true place a.system same in
          let owner : a.entity ≡ was = same_Some a.entity was (sym a.there ∙ ap (entity_at old.entities) (sym at_it) ∙ there) in
          record {
            entity = a.changed;
            there = ap (entity_at new.entities) at_it ∙ changed_there;
            own = a.own ∙ ap (λ (z : Entity). z.own) owner;
            same = λ other apart. a.others other (λ is. apart at_it is) ∙ ap (λ (z : Entity). end_at z other) owner;
          }
      by false apart = record {
        entity = was;
        there = ap (λ (ps : List Placed). entity_at ps place) a.entities ∙ entity_other old.entities a.system place a.changed (eqb-false place a.system apart) ∙ there;
        own = refl;
        same = λ other _. refl;
      }

  pub listens_on : (to : List ℕ) → AreListening (link old.carrier).clock old to → AreListening (link new.carrier).clock new to
  listens_on to was place z there own =
      subst (λ (n : ℕ). is_silent n z ≡ false) (sym a.clock) (elim (with_any old.entities a.system place a.changed z (ap (λ (ps : List Placed). entity_at ps place) (sym a.entities) ∙ there)) [
        | inl here ↦ ap (is_silent (link old.carrier).clock) here.1 ∙ a.silent (link old.carrier).clock ∙ was a.system a.entity a.there (sym a.own ∙ ap (λ (e : Entity). e.own) (sym here.1) ∙ own)
        | inr before ↦ was place z before own
      ])

  pub selects_on : (N : Type 0) (to called : List ℕ) → AreRegistered N old to called → AreRegistered N new to called
  selects_on N to called was place z there own none = elim (with_any old.entities a.system place a.changed z (ap (λ (ps : List Placed). entity_at ps place) (sym a.entities) ∙ there)) [
    | inl here ↦ was a.system a.entity a.there (sym a.own ∙ ap (λ (e : Entity). e.own) (sym here.1) ∙ own)
        (ap (λ (l : List (List ℕ)). is_registered l called) (sym a.selectors ∙ ap (λ (e : Entity). e.selectors) (sym here.1)) ∙ none)
    | inr before ↦ was place z before own none
  ]

  module _ (x system : ℕ) (from : List ℕ) (N : Type 0) (b : EndRecord) (r : InCrWait) where
    pub here_on : (h : IsHere system x from N b r old) → (system ≡ a.system → b.own ≡ a.reference → ⊥) → IsHere system x from N b r new
    here_on h apart = let n : IsNow system h.entity = now_at system h.entity h.there in
        record { entity = n.entity; there = n.there; own_is = n.own ∙ h.own_is; stands = n.same b.own apart ∙ h.stands; number = a.numbers system b.own apart ∙ h.number }

    waiting_on : (d : IsWaiting system x from N b r old) → (d.at_system ≡ a.system → d.own ≡ a.reference → ⊥) → IsWaiting system x from N b r new
    waiting_on d apart = let n : IsNow d.at_system d.entity = now_at d.at_system d.entity d.there in record {
      at_system = d.at_system;
      own = d.own;
      entity = n.entity;
      end = d.end;
      since = d.since;
      there = n.there;
      own_is = n.own ∙ d.own_is;
      stands = n.same d.own apart ∙ d.stands;
      stage = d.stage;
      called = d.called;
    }

    pub unanswered_on : AreUnanswered old b.to from b.own
        → ((p : End) → end_at a.changed a.reference ≡ Some p → a.entity.own ≡ b.to → is_called_by p.base from b.own ≡ true → IsUnanswered p.stage) → AreUnanswered new b.to from b.own
    unanswered_on was one place other z f there own stands called = elim (with_any old.entities a.system place a.changed z (ap (λ (ps : List Placed). entity_at ps place) (sym a.entities) ∙ there)) [
      | inl here ↦
          let to : a.entity.own ≡ b.to = sym a.own ∙ ap (λ (e : Entity). e.own) (sym here.1) ∙ own in
          let at_it : end_at a.changed other ≡ Some f = ap (λ (e : Entity). end_at e other) (sym here.1) ∙ stands in
          elim (cases_eq other a.reference) [
            | inl same ↦ one f (ap (end_at a.changed) (sym same) ∙ at_it) to called
            | inr apart ↦ was a.system other a.entity f a.there to (sym (a.others other apart) ∙ at_it) called
          ]
      | inr before ↦ was place other z f before own stands called
    ]

    -- it stays so, with what waits then
    pub bare_on : (posts more : List Post) → IsBare link x system from N b r old posts → (system ≡ a.system → b.own ≡ a.reference → ⊥)
        → ((p : End) → end_at a.changed a.reference ≡ Some p → a.entity.own ≡ b.to → is_called_by p.base from b.own ≡ true → IsUnanswered p.stage) → AreApart system from N b r more
        → IsBare link x system from N b r new (posts ++ more)
    bare_on posts more k apart one aside = record {
      here = here_on k.here apart;
      unanswered = unanswered_on k.unanswered one;
      listens = listens_on b.to k.listens;
      selects = selects_on N b.to b.called k.selects;
      apart = all_both (IsKeptApart system from N b r) posts more k.apart aside;
    }

    pub still_pending : (posts more : List Post) → IsPending system x from N b r old posts → ((d : IsWaiting system x from N b r old) → d.at_system ≡ a.system → d.own ≡ a.reference → ⊥)
        → IsPending system x from N b r new (posts ++ more)
    still_pending posts more p apart =
        pending_on x system from N b r old new posts more p (λ s e there own. let n : IsNow s e = now_at s e there in (n.entity, n.there, n.own ∙ own)) (λ d. waiting_on d (apart d))

    -- it is so with its called end, which was accepted
    pub accepted_on : (y limit : ℕ) (posts more : List Post) (k : IsAccepted link x system from N y limit b r old posts) → (system ≡ a.system → b.own ≡ a.reference → ⊥)
        → (k.at_system ≡ a.system → k.own ≡ a.reference → ⊥) → AreApart system from N b r more → AllByRecursion (IsQuiet link x system from N b.to k.at_system k.own) more
        → IsAccepted link x system from N y limit b r new (posts ++ more)
    accepted_on y limit posts more k apart apart_there aside quiet = let n : IsNow k.at_system k.entity = now_at k.at_system k.entity k.there in record {
      here = here_on k.here apart;
      listens = listens_on b.to k.listens;
      selects = selects_on N b.to b.called k.selects;
      apart = all_both (IsKeptApart system from N b r) posts more k.apart aside;
      at_system = k.at_system;
      own = k.own;
      entity = n.entity;
      there = n.there;
      own_is = n.own ∙ k.own_is;
      end = k.end;
      w = k.w;
      stands = n.same k.own apart_there ∙ k.stands;
      stage = k.stage;
      called = k.called;
      number = a.numbers k.at_system k.own apart_there ∙ k.number;
      past = k.past;
      quiet = all_both (IsQuiet link x system from N b.to k.at_system k.own) posts more k.quiet quiet;
    }

    pub replied_on : (posts more : List Post) (k : IsReplied link x system from N b r old posts) → (system ≡ a.system → b.own ≡ a.reference → ⊥) → IsReplied link x system from N b r new (posts ++ more)
    replied_on posts more k apart = let n : IsNow k.answer.system k.entity = now_at k.answer.system k.entity k.there in record {
      here = here_on k.here apart;
      front = k.front;
      answer = k.answer;
      back = k.back ++ more;
      posts_are = behind posts more k.front k.answer k.back k.posts_are;
      entity = n.entity;
      there = n.there;
      own_is = n.own ∙ k.own_is;
      apart = k.apart;
      reply = k.reply;
    }
      where
        behind : (posts more front : List Post) (answer : Post) (back : List Post) → posts ≡ front ++ (answer ∷ back) → posts ++ more ≡ front ++ (answer ∷ (back ++ more))
        behind posts more front answer back is = ap (λ (ps : List Post). ps ++ more) is ∙ append_assoc front (answer ∷ back) more
