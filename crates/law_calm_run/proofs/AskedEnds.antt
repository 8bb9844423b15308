-- A user's call on an end, where nothing waits: the end of that number is one of an association, and what comes of the call is what the associations have
-- to hand over.
use Rattle.std.proofs.Common.{◌≡◌, ◌⊎◌, ℕ, ◌==◌, Bool, true, false, not, ◌||◌, List, ◌++◌, slice_set, Option, Some, None, refl, sym, ◌∙◌, ap, subst, inl, inr, arith}
use Rattle.script_journal.specs.declared.event.Event.{Event as JournalEvent}
use Rattle.tp4_number.specs.Number.{whole}
use Rattle.tpdu.specs.declared.service.Options.{Options}
use Rattle.tp4_conn.specs.Calls.{IsCall, call_refusal}
use Rattle.tp4_conn.specs.End.{End, IsSized, Moved, end_of}
use Rattle.tp4_conn.specs.Table.{Called, stepped}
use Rattle.tp4_conn.specs.declared.call.CallRefusal.{CallRefusal}
use Rattle.tp4_conn.specs.declared.call.UserCall.{UserCall}
use Rattle.tp4_conn.specs.declared.call.UserCall.TheVariants.{Accept}
use Rattle.tp4_conn.specs.declared.states.InCrWait.{InCrWait}
use Rattle.tp4_conn.specs.declared.states.StateData.TheVariants.{CrWait, UserWait}
use Rattle.tp4_conn.specs.declared.timers.Timers.{Timers}
use Rattle.tp4_entity.specs.Entity.{Acted, Entity, at, end_at, moved}
use Rattle.tp4_entity.specs.References.{is_free}
use Rattle.tp4_entity.specs.Step.{calling, calling_end, end_refusal, refused_by, user_refusal}
use Rattle.law_tp4_pair.specs.Standing.{HasLeft}
use Rattle.law_tp4_history.specs.Lines.{given, shown_in}
use Rattle.tp4_world.specs.Ended.{has_ended}
use Rattle.tp4_world.specs.Telling.{call_events, events_after}
use Rattle.tp4_world.specs.World.{latest, with_entity}
use Rattle.tp4_world.specs.declared.place.EndAt.{EndAt}
use Rattle.law_tp4_associations.specs.Association.{Association, post, with_party}
use Rattle.law_tp4_associations.specs.Laws.{Answerable, MayAccept, WasCalled}
use Rattle.law_tp4_associations.specs.Standing.{IsParty, Standing}
use Rattle.law_calm_run.proofs.Hall.{AreAllProper, Calls, Hall, Post, after, posted}
use Rattle.law_calm_run.proofs.Story.{ArePosts, IsRunning, IsYoung, Story, Tells}
use Rattle.law_calm_run.proofs.Acting.{acts_of, ends_same}
use Rattle.law_calm_run.proofs.Calling.{MayBegin, tells_called, tells_calling}
use Rattle.law_calm_run.proofs.Queued.{IsIdle, is_idle, party_systems, posts_of, proper_ends, set_still}
use Rattle.law_calm_run.proofs.Telling.{ActsIn}
use Rattle.std.specs.Prelude.{is_none}

-- ---- the end that is called

-- it stands, and does not refuse the call
pub record IsAsked (e : Entity) (reference : ℕ) (call : UserCall) : Type 0 where
  pub end : End
  pub stands : end_at e reference ≡ Some end
  pub may : call_refusal end.base end.stage call ≡ None

asked_end : (e : Entity) (reference : ℕ) (call : UserCall) → user_refusal e reference call ≡ None → IsAsked e reference call
asked_end e reference call none = by_end (end_at e reference) refl none
  where
    by_call : (why : Option CallRefusal) → refused_by why ≡ None → why ≡ None
    by_call None is = refl
    by_call (Some why) is = absurd (cc is)

    by_end : (place : Option End) → end_at e reference ≡ place → end_refusal call place ≡ None → IsAsked e reference call
    by_end None at is = absurd (cc is)
    by_end (Some end) at is = record { end = end; stands = at; may = by_call (call_refusal end.base end.stage call) is }

-- the number is that of the latest end there
latest_number : (now : ℕ) (ends : List EndAt) (number : ℕ) (end : EndAt) (e : Entity) → has_ended now ends number end e ≡ false → latest ends end.system end.reference ≡ number
latest_number now ends number end e is = by_same (latest ends end.system end.reference == number) refl is
  where
    same_numbers : (m n : ℕ) → (m == n) ≡ true → m ≡ n
    same_numbers m n e = grind arith

    by_same : (same : Bool) → (latest ends end.system end.reference == number) ≡ same → (not same || (is_none (end_at e end.reference) || is_free now e end.reference)) ≡ false → latest ends end.system end.reference ≡ number
    by_same true at is = same_numbers (latest ends end.system end.reference) number at
    by_same false at is = absurd (cc is)

accept_size : (call : UserCall) (asked : Options) (octets : List ℕ) → call ≡ Accept asked octets → IsCall call → IsSized asked
accept_size call asked octets is proper = subst IsCall is proper

module _ (timers : Timers) (own : ℕ → List ℕ) (called : WasCalled timers own) (answerable : Answerable timers own) (may_accept : MayAccept timers own) (old new : Hall) (journal made : List JournalEvent)
    (proper : AreAllProper old.entities) (s : Story timers own old journal) (c : Calls old made new) where
  asked : IsAsked c.entity c.end.reference c.call
  asked = asked_end c.entity c.end.reference c.call c.allowed

  abbrev event : Moved
  event = stepped whole old.clock asked.end (Called c.call)

  idle : IsIdle timers own old journal s
  idle = is_idle timers own old journal s c.idle

  -- what the entity does
  acted_is : calling whole old.clock c.entity c.end.reference c.call ≡ moved (at old.clock c.entity) c.end.reference event
  acted_is = ap (calling_end whole old.clock (at old.clock c.entity) c.end.reference c.call) asked.stands

  module _ (k : ℕ) (by : Bool) (p : IsParty s.all k by c.end.system c.end.reference asked.end) where
    abbrev all : List Association
    all = slice_set s.all k (with_party p.a by (Some (end_of event)))

    abbrev acted : Acted
    acted = moved (at old.clock c.entity) c.end.reference event

    abbrev lines : List JournalEvent
    lines = call_events c.number c.call ++ (events_after old.ends c.end.system c.entity.own event.events ++ c.does.aside)

    standing : Standing timers own old.clock (with_entity old.entities c.end.system acted.entity) all (post k by event.tpdus)
    standing =
        subst (λ (a : Acted). Standing timers own old.clock (with_entity old.entities c.end.system a.entity) all (post k by event.tpdus)) acted_is
        (called old.clock old.entities s.all k by c.end.system c.end.reference asked.end p c.entity c.call idle.standing (proper_ends old.entities proper) c.there asked.stands c.allowed c.proper)

    posts_are : ArePosts all (post k by event.tpdus) (old.posts ++ posted c.end.system event.tpdus)
    posts_are =
        let still = set_still s.all k p.a (with_party p.a by (Some (end_of event))) p.is (party_systems p.a by (Some (end_of event))) k p.a p.is in
        subst (λ (before : List Post). ArePosts all (post k by event.tpdus) (before ++ posted c.end.system event.tpdus)) (sym c.idle)
        (posts_of all k by c.end.system still.now event.tpdus still.is (still.systems by ∙ p.system_is))

    latest_is : latest old.ends c.end.system asked.end.base.own ≡ c.number
    latest_is = ap (latest old.ends c.end.system) p.reference_is ∙ latest_number old.clock old.ends c.number c.end c.entity c.stands

    number_is : s.number k by ≡ Some c.number
    number_is =
        idle.tells.numbered.party_is k p.a by asked.end p.is p.end_is
        ∙ ap (λ (n : ℕ). Some (latest old.ends n asked.end.base.own)) p.system_is ∙ ap (λ (n : ℕ). Some n) latest_is

    acts : ActsIn c.number lines (given (Called c.call)) (shown_in event.events) event.events
    acts =
        acts_of old.clock asked.end (Called c.call) (idle.tells.owns k p.a by asked.end p.is p.end_is) old.ends c.end.system c.entity.own c.number c.does.aside lines latest_is c.does.is_aside refl

  -- at an accept the calling end waits for it, or has left
  begins : (k : ℕ) (p : IsParty s.all k false c.end.system c.end.reference asked.end) (x : End) (since : ℕ) (options : Options) (octets : List ℕ) → p.a.calling ≡ Some x → (HasLeft x.stage → ⊥)
      → asked.end.stage ≡ UserWait since → c.call ≡ Accept options octets → MayBegin old.clock x asked.end options
  begins k p x since options octets x_is stays stage call_is = by_calling (answerable old.clock old.entities s.all k p.a x asked.end since idle.standing p.is x_is p.end_is stage)
    where
      by_calling : HasLeft x.stage ⊎ ((r : InCrWait) × (x.stage ≡ CrWait r)) → MayBegin old.clock x asked.end options
      by_calling (inl left) = absurd (stays left)
      by_calling (inr waits) = (
        subst IsYoung (sym waits.1) tt,
        may_accept old.clock old.entities s.all k p.a x asked.end since waits.0 options idle.standing (proper_ends old.entities proper) p.is x_is p.end_is stage waits.1 (accept_size c.call options octets call_is c.proper),
      )

  tells_then : (k : ℕ) (by : Bool) (p : IsParty s.all k by c.end.system c.end.reference asked.end)
      → Tells IsRunning own old.clock old.ends (all k by p) (post k by event.tpdus) s.number (journal ++ lines k by p)
  tells_then k true p =
      tells_calling own old.clock old.ends s.all s.number journal (lines k true p) k c.call p.a asked.end c.number p.is asked.may idle.tells p.end_is (number_is k true p) (acts k true p)
  tells_then k false p =
      tells_called own old.clock old.ends s.all s.number journal (lines k false p) k c.call p.a asked.end c.number p.is asked.may idle.tells p.end_is (number_is k false p) (acts k false p)
      (λ r stage. idle.tells.uncalling k p.a asked.end r p.is p.end_is stage) (begins k p)

  abbrev next : Acted → Hall
  next acted = after old c.end.system acted

  story_then : (k : ℕ) (by : Bool) (p : IsParty s.all k by c.end.system c.end.reference asked.end) → Story timers own (next (acted k by p)) (journal ++ lines k by p)
  story_then k by p = record {
    all = all k by p;
    queue = post k by event.tpdus;
    number = s.number;
    standing = standing k by p;
    posts = posts_are k by p;
    tells = subst (λ (es : List EndAt). Tells IsRunning own old.clock es (all k by p) (post k by event.tpdus) s.number (journal ++ lines k by p))
        (sym (ends_same old.clock asked.end (Called c.call) (idle.tells.owns k p.a by asked.end p.is p.end_is) old.ends c.end.system c.entity.own)) (tells_then k by p);
  }

  -- a call keeps what stands beside the network
  pub calls_keeps : Story timers own new (journal ++ made)
  calls_keeps =
      let known = idle.standing.known c.end.system c.end.reference asked.end (c.entity, c.there, asked.stands) in
      let made_is : made ≡ lines known.0 known.1 known.2 =
      c.made_is
      ∙ ap (λ (later : List JournalEvent). call_events c.number c.call ++ later)
      (c.does.made_is ∙ ap (λ (a : Acted). events_after old.ends c.end.system c.entity.own a.events ++ c.does.aside) acted_is) in
      subst (λ (h : Hall). Story timers own h (journal ++ made)) (sym (c.does.becomes ∙ ap next acted_is))
      (subst (λ (events : List JournalEvent). Story timers own (next (acted known.0 known.1 known.2)) (journal ++ events)) (sym made_is) (story_then known.0 known.1 known.2))
