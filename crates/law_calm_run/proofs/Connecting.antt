-- A connect, where nothing waits: the network stands with one association more, whose CR waits.
use Rattle.std.proofs.Common.{◌≡◌, ◌<◌, ℕ, ◌+◌, ◌==◌, Bool, true, false, List, [], ◌∷◌, ◌++◌, length, map, slice_get, Option, Some, refl, sym, ◌∙◌, ap, subst, arith}
use Rattle.std.specs.Prelude.{unwrap_or}
use Rattle.script_journal.specs.declared.event.Event.{Event}
use Rattle.script_journal.specs.declared.event.Event.TheVariants as events
use Rattle.script_journal.specs.declared.event.Request.{Request}
use Rattle.tp4_flow.specs.declared.step.Sent.{Sent}
use Rattle.tp4_conn.specs.End.{End, end_of}
use Rattle.tp4_conn.specs.Making.{connected as connected_by}
use Rattle.tp4_conn.specs.declared.timers.Timers.{Timers}
use Rattle.tp4_entity.specs.Entity.{Entity}
use Rattle.tp4_entity.specs.Step.{call_of, connecting}
use Rattle.tp4_world.specs.Run.{transport_address}
use Rattle.tp4_world.specs.World.{entity_at}
use Rattle.law_tp4_associations.specs.Association.{Association, cleared, post, waiting}
use Rattle.law_tp4_associations.specs.Handing.{requested_by}
use Rattle.law_tp4_associations.specs.Laws.{Connected}
use Rattle.law_calm_run.proofs.Hall.{AreAllProper, Connects, Hall, Post, after, posted, with_new}
use Rattle.law_calm_run.proofs.Story.{ArePosts, IsRunning, Story, address_of}
use Rattle.law_calm_run.proofs.Continuing.{length_map}
use Rattle.law_calm_run.proofs.Freeing.{is_freed}
use Rattle.law_calm_run.proofs.Making.{tells_connected}
use Rattle.law_calm_run.proofs.Numbering.{with_caller}
use Rattle.law_calm_run.proofs.Pairing.{running_stays}
use Rattle.law_calm_run.proofs.Queued.{IsIdle, is_idle, posts_of, proper_ends}

last_one : {A : Type 0} (xs : List A) (x : A) → slice_get (xs ++ x ∷ []) (length xs) ≡ Some x
last_one [] x = refl
last_one (y ∷ xs) x = last_one xs x

-- it waits for no other association
none_elsewhere : (j k : ℕ) (by : Bool) (tpdus : List Sent) → j < k → waiting j by (post k true tpdus) ≡ []
none_elsewhere j k by [] low = refl
none_elsewhere j k by (sent ∷ tpdus) low =
    let apart : (k == j) ≡ false = grind (arith, low) in
    rw apart (none_elsewhere j k by tpdus low)

module _ (titles : List (List ℕ)) (timers : Timers) (connected : Connected timers (address_of titles)) (old new : Hall) (journal made : List Event) (proper : AreAllProper old.entities)
    (have : (system : ℕ) (title : List ℕ) → slice_get titles system ≡ Some title → (f : Entity) × (entity_at old.entities system ≡ Some f)) (s : Story timers (address_of titles) old journal)
    (c : Connects titles old made new) where
  abbrev own : ℕ → List ℕ
  own = address_of titles

  abbrev request : Request
  request = record {
    end = length old.ends + 1;
    system = c.system;
    reference = c.reference;
    calling = c.entity.own;
    calling_selector = c.request.from_selector;
    called = c.request.to;
    called_selector = c.request.to_selector;
    octets = c.request.octets;
  }

  abbrev first : Event
  first = events.Connect request

  abbrev made_end : End
  made_end = end_of (connected_by old.clock (call_of c.entity c.reference c.request))

  abbrev joined : Hall
  joined = after (with_new old c.system c.reference) c.system (connecting old.clock c.entity c.reference c.request)

  abbrev a : Association
  a = requested_by timers own old.clock c.entity c.system c.reference c.request c.address.system

  abbrev all : List Association
  all = map (cleared c.system c.reference) s.all ++ a ∷ []

  abbrev tpdus : List Sent
  tpdus = (connecting old.clock c.entity c.reference c.request).tpdus

  idle : IsIdle timers own old journal s
  idle = is_idle timers own old journal s c.idle

  to_is : c.request.to ≡ own c.address.system
  to_is = c.address.address_is ∙ ap (λ (o : Option (List ℕ)). transport_address (unwrap_or o [])) (sym c.address.title_is)

  others : (k : ℕ) (b : Association) (y : End) → slice_get s.all k ≡ Some b → b.calling ≡ Some y → own b.from.system ≡ own c.system → b.from.reference ≡ c.reference
      → (b.from.system ≡ c.system) × (y.base.own ≡ c.reference)
  others k b y at is same reference =
      let e = idle.standing.there k b true at in
      (idle.standing.systems.apart b.from.system c.system e.0 c.entity e.1 c.there same, ((idle.standing.each k b at).caller y is).own_is ∙ reference)

  there_is : slice_get all (length s.all) ≡ Some a
  there_is = ap (slice_get all) (sym (length_map (cleared c.system c.reference) s.all)) ∙ last_one (map (cleared c.system c.reference) s.all) a

  story : Story timers own joined (journal ++ first ∷ c.does.aside)
  story = record {
    all = all;
    queue = post (length s.all) true tpdus;
    number = with_caller s.number (length s.all) (length old.ends + 1);
    standing =
        connected old.clock old.entities s.all c.system c.entity c.reference c.request c.address.system (have c.address.system c.address.title c.address.title_is).0 idle.standing (proper_ends old.entities proper) c.there c.free c.proper to_is
        (have c.address.system c.address.title c.address.title_is).1;
    posts = subst (λ (before : List Post). ArePosts all (post (length s.all) true tpdus) (before ++ posted c.system tpdus)) (sym c.idle) (posts_of all (length s.all) true c.system a tpdus there_is refl);
    tells =
        tells_connected IsRunning (λ j m now one two x y forth back. running_stays j m now one two x y forth back) own old.clock old.ends s.all [] s.number journal idle.tells c.system c.reference a
        made_end refl refl refl refl tt c.does.aside request c.does.is_aside.ends (λ m. record { gave = (c.does.is_aside.units m).0; showed = (c.does.is_aside.units m).1 })
        (idle.standing.systems.own_is c.system c.entity c.there) refl refl others (post (length s.all) true tpdus) (λ k by low. none_elsewhere k (length s.all) by tpdus low)
        (is_freed old.clock old.entities c.system c.entity c.there c.reference c.free timers own s.all [] idle.standing);
  }

  -- a connect keeps what stands beside the network
  pub connects_keeps : Story timers own new (journal ++ made)
  connects_keeps =
      subst (λ (h : Hall). Story timers own h (journal ++ made)) (sym c.does.becomes)
      (subst (λ (lines : List Event). Story timers own joined (journal ++ lines)) (sym (c.made_is ∙ ap (λ (lines : List Event). first ∷ lines) c.does.made_is)) story)
