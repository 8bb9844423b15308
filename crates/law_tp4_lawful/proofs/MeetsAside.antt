-- What leaves all ends as they are: the history notes it, or answers an offer.
use Rattle.std.proofs.Common.{◌≡◌, inl, inr, ℕ, Bool, true, false, cond, List, [], ◌∷◌, ◌++◌, Option, Some, None, refl, sym, ap, subst, arith, append-nil}
use Rattle.std.specs.Prelude.{if◌then◌else◌, option_map, find}
use Rattle.std.proofs.lemmas.List.Elements.{Contains-append_left, Contains-append_right}
use Rattle.std.proofs.lemmas.Option.{same_Some}
use Rattle.script_journal.specs.declared.event.Event.{Event}
use Rattle.tp4_flow.specs.declared.step.EndEvent.{EndEvent}
use Rattle.tp4_flow.specs.declared.step.Sent.{Sent}
use Rattle.tp4_conn.specs.Agreeing.{is_extended}
use Rattle.tp4_conn.specs.End.{End}
use Rattle.tp4_conn.specs.Proper.{IsSendable}
use Rattle.tp4_conn.specs.declared.timers.Timers.{Timers}
use Rattle.tp4_number.specs.Formats.{block_of}
use Rattle.tp4_entity.specs.Entity.{Entity, end_at}
use Rattle.law_tp4_history.specs.Ends.{Offer}
use Rattle.law_tp4_history.specs.History.{Event as Kept, IsAnswer, IsCaller, IsPartner, Note, Other, Reply}
use Rattle.law_tp4_history.specs.Journals.{IsAside, Written}
use Rattle.law_tp4_history.specs.Tracks.{Nothing, Whole, onward}
use Rattle.law_tp4_history.proofs.Written.{written_more}
use Rattle.law_tp4_history.specs.Moves.{times_of}
use Rattle.law_tp4_history.specs.Seen.{IsNumbered, seen}
use Rattle.tp4_world.specs.Telling.{ends_after, events_after}
use Rattle.tp4_world.specs.World.{entity_at, is_of, with_entity}
use Rattle.tp4_world.specs.declared.place.EndAt.{EndAt}
use Rattle.tp4_world.specs.declared.place.Placed.{Placed}
use Rattle.law_tp4_lawful.proofs.Known.{IsKnown, IsThere, Known}
use Rattle.law_tp4_lawful.proofs.Worlds.{Follows}

-- an entity stays as it is
stay_or : (b : Bool) (one : Placed) (placed others : List Placed) (entity : Entity) (system : ℕ) → option_map (λ (x : Placed). x.entity) (cond b (Some one) (find (is_of system) placed)) ≡ Some entity
    → (entity_at placed system ≡ Some entity → others ≡ placed) → (if b then record one { entity = entity } ∷ placed else one ∷ others) ≡ one ∷ placed
stay_or true one placed others entity system h later = let same : one.entity ≡ entity = same_Some _ _ h in ap (λ (x : Entity). record one { entity = x } ∷ placed) (sym same)
stay_or false one placed others entity system h later = ap (λ (xs : List Placed). one ∷ xs) (later h)

pub same_entities : (placed : List Placed) (system : ℕ) (entity : Entity) → entity_at placed system ≡ Some entity → with_entity placed system entity ≡ placed
same_entities [] system entity h = refl
same_entities (one ∷ placed) system entity h = stay_or (is_of system one) one placed (with_entity placed system entity) entity system h (same_entities placed system entity)

-- the ends of a history are as they were
module _ (w : Whole) (offers : List Offer) (events : List Kept) where
  abbrev after : Whole
  after = record { base = record w.base { offers = offers; events = events }; track = w.track }

  caller_back : (a b : ℕ) → IsCaller after.base a b → IsCaller w.base a b
  caller_back a b p = record { a_low = p.a_low; b_low = p.b_low; called = p.called; is = p.is }

  partner_back : (a b : ℕ) → IsPartner after.base a b → IsPartner w.base a b
  partner_back a b (inl p) = inl (caller_back a b p)
  partner_back a b (inr p) = inr (caller_back b a p)

  known_still : (own : List ℕ) (r : ℕ) (e : End) → IsKnown w own r e → IsKnown after own r e
  known_still own r e is = record {
    k = is.k;
    at = record { low = is.at.low; address = is.at.address; reference_is = is.at.reference_is; held = is.at.held; only = is.at.only };
    sees = is.sees;
    proper = is.proper;
    stands = λ z terms p t. is.stands z terms (partner_back is.k z p) (record { own = t.own; theirs = t.theirs });
  }

  there_still : (own : List ℕ) (r : ℕ) (place : Option End) → IsThere w own r place → IsThere after own r place
  there_still own r None free = free
  there_still own r (Some e) is = known_still own r e is

  pub all_still : (titles : List (List ℕ)) (timers : Timers) (journal told : List Event) (entities : List Placed) (ends : List EndAt) → Known titles timers w journal entities ends
      → Written (times_of timers) titles after told → Known titles timers after told entities ends
  all_still titles timers journal told entities ends known written = record {
    written = written;
    restarts = known.restarts;
    count = known.count;
    listed = λ k end is. (let l = known.listed k end is in record { entity = l.entity; entity_is = l.entity_is; address = l.address; reference = l.reference });
    holds = λ one x has.
        (let holds = known.holds one x has in
        record { timers_are = holds.timers_are; clock = holds.clock; there = λ r. there_still x.own r (end_at x r) (holds.there r); theirs = holds.theirs });
    apart = known.apart;
    titled = known.titled;
    begun = λ a b terms p is. (let was = known.begun a b terms (caller_back a b p) is in record { own = was.own; theirs = was.theirs });
  }

module _ (titles : List (List ℕ)) (timers : Timers) (w : Whole) (journal : List Event) (entities : List Placed) (ends : List EndAt) (known : Known titles timers w journal entities ends)
    (system : ℕ) (entity : Entity) (at : entity_at entities system ≡ Some entity) (told : List EndEvent)
    (aside : IsAside (events_after ends system entity.own told)) (stay : ends_after ends system told ≡ ends) where
  abbrev made : List Event
  made = events_after ends system entity.own told

  -- nothing is sent
  pub noted : Follows titles timers w journal entities ends system entity.own [] (record { entity = entity; events = told; tpdus = [] })
  noted = record {
    new = onward (times_of timers) w (record { step = Note; doing = Nothing });
    goes_on = record { clock = refl; offers = λ o c. c };
    known =
        subst (λ (xs : List Event). Known titles timers (onward (times_of timers) w (record { step = Note; doing = Nothing })) (xs ++ made) (with_entity entities system entity) (ends_after ends system told)) (sym (append-nil journal))
        (subst (λ (xs : List Placed). Known titles timers (onward (times_of timers) w (record { step = Note; doing = Nothing })) (journal ++ made) xs (ends_after ends system told)) (sym (same_entities entities system entity at))
        (subst (λ (xs : List EndAt). Known titles timers (onward (times_of timers) w (record { step = Note; doing = Nothing })) (journal ++ made) entities xs) (sym stay)
        (all_still w w.base.offers (w.base.events ++ Other ∷ []) titles timers journal (journal ++ made) entities ends known
        (written_more (times_of timers) titles w journal (record { step = Note; doing = Nothing }) made known.written (record { may = tt; lines = record {}; makes = aside })))));
    offered = tt;
  }

  -- an answer of the entity
  module _ (o : Offer) (sent : Sent) (answer : Offer) (may : IsAnswer (times_of timers) w.base o answer) (from : answer.from ≡ entity.own) (to : answer.to ≡ sent.to) (is : answer.tpdu ≡ seen 0 sent.tpdu)
      (numbered : IsNumbered (block_of sent.format) 0 sent.tpdu) (format : answer.is_extended ≡ is_extended sent.format) (sendable : IsSendable sent) where
    pub replied : Follows titles timers w journal entities ends system entity.own [] (record { entity = entity; events = told; tpdus = sent ∷ [] })
    replied = record {
      new = onward (times_of timers) w (record { step = Reply o answer; doing = Nothing });
      goes_on = record { clock = refl; offers = λ p c. Contains-append_left w.base.offers (answer ∷ []) p c };
      known =
          subst (λ (xs : List Event). Known titles timers (onward (times_of timers) w (record { step = Reply o answer; doing = Nothing })) (xs ++ made) (with_entity entities system entity) (ends_after ends system told)) (sym (append-nil journal))
          (subst (λ (xs : List Placed). Known titles timers (onward (times_of timers) w (record { step = Reply o answer; doing = Nothing })) (journal ++ made) xs (ends_after ends system told)) (sym (same_entities entities system entity at))
          (subst (λ (xs : List EndAt). Known titles timers (onward (times_of timers) w (record { step = Reply o answer; doing = Nothing })) (journal ++ made) entities xs) (sym stay)
          (all_still w (w.base.offers ++ answer ∷ []) w.base.events titles timers journal (journal ++ made) entities ends known
          (written_more (times_of timers) titles w journal (record { step = Reply o answer; doing = Nothing }) made known.written (record { may = may; lines = record {}; makes = aside })))));
      offered = (
        record {
          offer = answer;
          n = 0;
          offered = Contains-append_right w.base.offers (answer ∷ []) answer (0, omega arith, refl);
          tick_is = may.tick;
          from_is = from;
          to_is = to;
          seen_as = is;
          numbered = numbered;
          format = format;
          sendable = sendable;
        },
        tt,
      );
    }
