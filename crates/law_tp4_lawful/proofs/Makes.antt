-- A user asks for a connection: the reference is released where an end was frozen there, and an end begins by the request.
use Rattle.std.proofs.Common.{◌≡◌, inl, inr, ℕ, ◌+◌, List, [], ◌∷◌, ◌++◌, length, Some, refl, sym, ap, subst, arith, append-nil, Contains, false, Option}
use Rattle.std.proofs.lemmas.Bool.{cases_eq, leb-false}
use Rattle.std.proofs.lemmas.List.Elements.{Contains-append_left, Contains-append_right}
use Rattle.script_journal.specs.declared.event.Event.{Event}
use Rattle.tp4_flow.specs.declared.step.Sent.{Sent}
use Rattle.tp4_conn.specs.declared.call.ConnectCall.{ConnectCall}
use Rattle.tp4_conn.specs.declared.call.ConnectRequest.{ConnectRequest}
use Rattle.tp4_conn.specs.declared.timers.Timers.{Timers}
use Rattle.tp4_conn.specs.Agreeing.{is_extended, request as cr_of}
use Rattle.tp4_conn.specs.End.{end_of, frozen_for}
use Rattle.tp4_conn.specs.Making.{caller, connected}
use Rattle.tp4_conn.specs.Proper.{IsProperCall}
use Rattle.tp4_conn.proofs.Propers.{connected_row}
use Rattle.tp4_entity.specs.Entity.{Entity, at, end_at, with_end}
use Rattle.tp4_entity.specs.Step.{call_of, connecting}
use Rattle.tp4_entity.proofs.Standings.{Free, free_at, free_least}
use Rattle.law_tp4_history.specs.Ends.{Offer, Sent as SentBy, End as Seen}
use Rattle.law_tp4_history.specs.History.{History, Connect, IsNotSilent, IsPartner, May, event_of}
use Rattle.law_tp4_history.specs.Journals.{MayFollow, Written}
use Rattle.law_tp4_history.specs.Tracks.{Whole, Moment, Nothing, onward}
use Rattle.law_tp4_history.proofs.Begun.{calls_none, here as here_is}
use Rattle.law_tp4_history.proofs.Sound.{Sound}
use Rattle.law_tp4_history.proofs.Written.{written_kept, written_more}
use Rattle.law_tp4_history.specs.Begins.{begun}
use Rattle.law_tp4_history.specs.Moves.{Sees, times_of}
use Rattle.law_tp4_history.specs.Seen.{seen}
use Rattle.law_tp4_history.proofs.Beginnings.{begins, begun_seen, fit_times, frozen_is}
use Rattle.tp4_world.specs.Telling.{connect_event}
use Rattle.tp4_world.specs.World.{entity_at, with_entity}
use Rattle.tp4_world.specs.declared.place.EndAt.{EndAt}
use Rattle.tp4_world.specs.declared.place.Placed.{Placed}
use Rattle.law_tp4_lawful.proofs.Known.{Known, AreBegan}
use Rattle.law_tp4_lawful.proofs.Worlds.{AfterConnect, Follows}
use Rattle.law_tp4_lawful.proofs.MakesEnds.{made_known}
use Rattle.law_tp4_lawful.proofs.MakesFree.{Freed, freed, no_events}
use Rattle.tp4_entity.specs.Silence.{is_silent, is_within}

-- an entity that is not silent is not in a history either
pub not_silent : (h : History) (entity : Entity) → AreBegan h.clock h.restarts entity → is_silent h.clock entity ≡ false → IsNotSilent (times_of entity.timers) h entity.own
not_silent h entity began quiet r there =
    let b = began r there in
    let past = leb-false h.clock (b.tick + frozen_for entity.timers) (subst (λ (o : Option ℕ). is_within h.clock (frozen_for entity.timers) o ≡ false) b.began quiet) in
    omega (arith, past, b.since, frozen_is entity.timers)

-- where a reference was released, too
pub freed_audible : (titles : List (List ℕ)) (timers : Timers) (w : Whole) (journal : List Event) (entities : List Placed) (ends : List EndAt) (system reference : ℕ) (entity : Entity)
    → Known titles timers w journal entities ends → entity_at entities system ≡ Some entity → is_silent w.base.clock entity ≡ false
    → (f : Freed titles timers w journal entities ends system reference entity.own) → IsNotSilent (times_of entity.timers) f.new.base entity.own
freed_audible titles timers w journal entities ends system reference entity known there quiet f =
    not_silent f.new.base entity
    (subst (λ (rs : List (List ℕ × ℕ)). AreBegan f.new.base.clock rs entity) (sym f.restarts) (subst (λ (n : ℕ). AreBegan n w.base.restarts entity) (sym f.clock) (known.restarts system entity there)))
    (subst (λ (n : ℕ). is_silent n entity ≡ false) (sym f.clock) quiet)

module _ (titles : List (List ℕ)) (timers : Timers) (w : Whole) (journal : List Event) (entities : List Placed) (ends : List EndAt) (system : ℕ) (entity : Entity) (request : ConnectRequest) (reference : ℕ)
    (known : Known titles timers w journal entities ends) (there : entity_at entities system ≡ Some entity) (quiet : is_silent w.base.clock entity ≡ false) (proper : IsProperCall (call_of entity reference request))
    (free : Free w.base.clock reference entity) (f : Freed titles timers w journal entities ends system reference entity.own) where
  abbrev h : History
  h = f.new.base

  abbrev set : ConnectCall
  set = call_of entity reference request

  abbrev e : Seen
  e = begun h entity.own set

  abbrev cr : Sent
  cr = cr_of (caller h.clock set) request.octets

  abbrev offer : Offer
  offer = record { tick = h.clock; from = entity.own; to = request.to; tpdu = seen 0 cr.tpdu; is_extended = is_extended cr.format; origin = SentBy h.count }

  abbrev made : List Event
  made = connect_event (length ends + 1) system reference entity.own request ∷ []

  abbrev moment : Moment
  moment = record { step = Connect e (offer ∷ []); doing = Nothing }

  timers_are : entity.timers ≡ timers
  timers_are = (known.holds system entity there).timers_are

  may : May (times_of timers) h (Connect e (offer ∷ []))
  may =
      subst (λ (t : Timers). May (times_of t) h (Connect e (offer ∷ []))) timers_are
      (begins h entity.own set (offer ∷ []) (omega (arith, free.least)) f.free (freed_audible titles timers w journal entities ends system reference entity known there quiet f) (record { n = 0; numbered = tt; is = refl }, refl))

  follows : MayFollow (times_of timers) titles f.new moment made
  follows = record {
    may = may;
    lines = record {};
    makes = record {
      asked = record {
        end = length ends + 1;
        system = system;
        reference = reference;
        calling = entity.own;
        calling_selector = request.from_selector;
        called = request.to;
        called_selector = request.to_selector;
        octets = request.octets;
      };
      rest = [];
      is = refl;
      asks = record { end = ap (λ (k : ℕ). k + 1) f.count; reference = refl; calling = refl; called = refl; calling_selector = refl; called_selector = refl; octets = refl };
      aside = no_events;
    };
  }

  written : Written (times_of timers) titles (onward (times_of timers) f.new moment) (journal ++ made)
  written = written_more (times_of timers) titles f.new journal moment made f.written follows

  sees : Sees (times_of timers) h.clock e (end_of (connected w.base.clock set))
  sees =
      subst (λ (t : Timers). Sees (times_of t) h.clock e (end_of (connected w.base.clock set))) timers_are
      (subst (λ (now : ℕ). Sees (times_of entity.timers) h.clock e (end_of (connected now set))) f.clock (begun_seen h entity.own set proper.timers))

  sound : Sound (times_of timers) h
  sound = (written_kept (times_of timers) titles f.new journal (fit_times timers) f.written).sound

  abbrev after : Whole
  after = onward (times_of timers) f.new moment

  here : after.base.end h.count ≡ e
  here = here_is (times_of timers) h sound e may.0.new (h.offers ++ offer ∷ []) (h.events ++ event_of e ∷ [])

  alone : (z : ℕ) → IsPartner after.base h.count z → ⊥
  alone z (inl q) = elim (cases_eq z h.count) [
    | inl same ↦ cc (q.called, ap (λ (i : ℕ). (after.base.end i).birth.is_called) same, ap (λ (x : Seen). x.birth.is_called) here)
    | inr different ↦ calls_none (times_of timers) h sound e may.0.new (h.offers ++ offer ∷ []) (h.events ++ event_of e ∷ []) z q different
  ]
  alone z (inr q) = cc (q.called, ap (λ (x : Seen). x.birth.is_called) here)

  known_base : Known titles timers (record { base = after.base; track = f.new.track }) (journal ++ made) (with_entity entities system (with_end (at w.base.clock entity) reference (Some (end_of (connected w.base.clock set)))))
      (ends ++ record { system = system; reference = reference } ∷ [])
  known_base =
      made_known titles timers w journal entities ends known system reference entity (at w.base.clock entity) there f (record { own = refl; timers = refl; ends = refl; restarted = refl; clock = omega arith }) free.least free.most
      (connected w.base.clock set) (connected_row w.base.clock set proper).proper timers_are e may.0.new refl refl sees (h.offers ++ offer ∷ []) (h.events ++ event_of e ∷ []) made written
      (λ z terms p. absurd (alone z p))

  known_after : Known titles timers after (journal ++ made) (with_entity entities system (with_end (at w.base.clock entity) reference (Some (end_of (connected w.base.clock set)))))
      (ends ++ record { system = system; reference = reference } ∷ [])
  known_after = known_base

  connects : Follows titles timers w journal entities (ends ++ record { system = system; reference = reference } ∷ []) system entity.own made (connecting w.base.clock entity reference request)
  connects = record {
    new = onward (times_of timers) f.new moment;
    goes_on = record { clock = f.clock; offers = λ o c. Contains-append_left h.offers (offer ∷ []) o (subst (λ (os : List Offer). Contains os o) (sym f.offers) c) };
    known =
        subst (λ (told : List Event). Known titles timers after told (with_entity entities system (with_end (at w.base.clock entity) reference (Some (end_of (connected w.base.clock set)))))
        (ends ++ record { system = system; reference = reference } ∷ [])) (sym (append-nil (journal ++ made))) known_after;
    offered = (
      record {
        offer = offer;
        n = 0;
        offered = Contains-append_right h.offers (offer ∷ []) offer (0, omega arith, refl);
        tick_is = f.clock;
        from_is = refl;
        to_is = refl;
        seen_as = refl;
        numbered = tt;
        format = refl;
        sendable = (connected_row w.base.clock set proper).tpdus.0;
      },
      tt,
    );
  }

pub after_connect : (titles : List (List ℕ)) (timers : Timers) → AfterConnect titles timers
after_connect titles timers w journal entities ends system entity request reference known there quiet proper least =
    let free = free_least w.base.clock reference entity least in
    connects titles timers w journal entities ends system entity request reference known there quiet proper free
    (freed titles timers w journal entities ends known system reference entity there (free_at w.base.clock (end_at entity reference) free.free))
