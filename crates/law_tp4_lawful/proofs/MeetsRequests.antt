-- A CR comes: it is ignored, refused by the entity, or makes an end that waits for its user.
use Rattle.std.proofs.Common.{◌≡◌, ◌≢◌, ◌==◌, ◌&&◌, ◌||◌, not, inl, inr, ℕ, zero, suc, ◌+◌, ◌≤◌, Bool, true, false, List, [], ◌∷◌, ◌++◌, slice_get, Option, Some, None, refl, sym, ap, subst, ◌∙◌, arith, append-nil, Contains}
use Rattle.std.specs.Prelude.{if◌then◌else◌, nat_eq}
use Rattle.std.specs.List.{list_any}
use Rattle.std.specs.Cmp.Lexicographic.{pointwise}
use Rattle.std.proofs.lemmas.Bool.{cases_eq, eq-eqb}
use Rattle.std.proofs.lemmas.Option.{none-some, same_Some}
use Rattle.script_journal.specs.declared.event.Event.{Event}
use Rattle.tpdu.specs.declared.tpdu.Format.{Format}
use Rattle.tpdu.specs.declared.tpdu.Tpdu.{Tpdu as WireTpdu}
use Rattle.tpdu.specs.declared.tpdu.Tpdu.TheVariants as wires
use Rattle.tpdu.specs.Kinds.{has_number}
use Rattle.tpdu.specs.Writing.{IsConnect}
use Rattle.tp4_flow.specs.declared.step.Sent.{Sent}
use Rattle.tp4_conn.specs.declared.timers.Timers.{Timers}
use Rattle.tp4_conn.specs.Agreeing.{options_in, proposed_in}
use Rattle.tp4_conn.specs.End.{End, IsTimed, Moved, end_of}
use Rattle.tp4_conn.specs.Making.{called_end, indicated, on_cr}
use Rattle.tp4_conn.specs.Matching.{is_called_by}
use Rattle.tp4_conn.proofs.Propers.{called_row}
use Rattle.tp4_entity.specs.Association.{answers, is_called, is_frozen, is_registered, new_end, refusal, requested}
use Rattle.tp4_entity.specs.Entity.{Entity, end_at, moved, there, with_end}
use Rattle.tp4_entity.specs.References.{least_free}
use Rattle.tp4_entity.specs.Silence.{is_silent}
use Rattle.tp4_entity.proofs.PlaceLaws.{end_at_of}
use Rattle.tp4_entity.proofs.Standings.{Free, free_at, free_least}
use Rattle.law_tp4_history.specs.Ends.{Cr, Tpdu, Offer, Origin, Sent as SentBy, Answer, End as Seen}
use Rattle.law_tp4_history.specs.History.{History, Indicate, IsAnswer, IsFree, May, answers_to, event_of, IsNotSilent}
use Rattle.law_tp4_history.specs.Journals.{MayFollow, Written}
use Rattle.law_tp4_history.specs.Tracks.{Moment, Nothing, Whole, onward}
use Rattle.law_tp4_history.proofs.Sound.{Sound}
use Rattle.law_tp4_history.proofs.Tracked.{reached_base}
use Rattle.law_tp4_history.proofs.Written.{written_kept, written_more, written_reached}
use Rattle.law_tp4_history.specs.Begins.{HasNoEnd, indicated_by}
use Rattle.law_tp4_history.specs.Moves.{Sees, times_of}
use Rattle.law_tp4_history.specs.Seen.{seen}
use Rattle.law_tp4_history.proofs.Beginnings.{fit_times, indicates}
use Rattle.law_tp4_history.proofs.Sources.{requests_sourced}
use Rattle.tp4_world.specs.Telling.{events_after}
use Rattle.tp4_world.specs.World.{entity_at, latest, with_entity}
use Rattle.tp4_world.specs.declared.place.EndAt.{EndAt}
use Rattle.tp4_world.specs.declared.place.Placed.{Placed}
use Rattle.law_tp4_lawful.proofs.Known.{IsOffered, IsReadAs, IsThere, Known}
use Rattle.law_tp4_lawful.proofs.Worlds.{Follows}
use Rattle.law_tp4_lawful.proofs.Makes.{freed_audible}
use Rattle.law_tp4_lawful.proofs.MakesEnds.{made_known}
use Rattle.law_tp4_lawful.proofs.MakesFree.{Freed, cases_out, freed, no_events, same_address}
use Rattle.law_tp4_lawful.proofs.MakesPlaces.{latest_last}
use Rattle.law_tp4_lawful.proofs.MeetsAside.{noted, replied}

-- ---- a called end that stands is found among the ends of its entity

any_or : (b : Bool) → (b || true) ≡ true
any_or true = refl
any_or false = refl

any_at : (test : Option End → Bool) (places : List (Option End)) (at : ℕ) (place : Option End) → slice_get places at ≡ Some place → test place ≡ true → list_any test places ≡ true
any_at test [] at place h passes = absurd (none-some _ h)
any_at test (one ∷ places) zero place h passes = ap (λ (b : Bool). b || list_any test places) (ap test (same_Some _ _ h) ∙ passes)
any_at test (one ∷ places) (suc at) place h passes = ap (λ (b : Bool). test one || b) (any_at test places at place h passes) ∙ any_or (test one)

there_at : (found : Option (Option End)) (e : End) → there found ≡ Some e → found ≡ Some (Some e)
there_at None e h = absurd (none-some _ h)
there_at (Some place) e h = ap (λ (p : Option End). Some p) h

any_end : (test : Option End → Bool) (entity : Entity) (r : ℕ) (e : End) → end_at entity r ≡ Some e → test (Some e) ≡ true → list_any test entity.ends ≡ true
any_end test entity zero e h passes = absurd (none-some _ h)
any_end test entity (suc k) e h passes =
    any_at test entity.ends k (Some e) (there_at (slice_get entity.ends k) e (sym (end_at_of entity (suc k) k (omega arith)) ∙ h)) passes

called_by : (from : List ℕ) (source : ℕ) (e : End) → e.base.is_called ≡ true → e.base.to ≡ from → e.base.partner ≡ source → is_called_by e.base from source ≡ true
called_by from source e called to partner =
    ap (λ (b : Bool). b && (pointwise nat_eq e.base.to from && e.base.partner == source)) called
    ∙ ap (λ (b : Bool). b && e.base.partner == source) (ap (λ (xs : List ℕ). pointwise nat_eq xs from) to ∙ same_address from)
    ∙ eq-eqb e.base.partner source partner

-- it is frozen, or not
found_one : (entity : Entity) (from : List ℕ) (source r : ℕ) (e : End) → end_at entity r ≡ Some e → is_called_by e.base from source ≡ true
    → list_any (is_called false from source) entity.ends ≡ false → list_any (is_called true from source) entity.ends ≡ false → ⊥
found_one entity from source r e h called none none_frozen = by (is_frozen e.stage) refl
  where
    by : (b : Bool) → is_frozen e.stage ≡ b → ⊥
    by true is =
        cc (any_end (is_called true from source) entity r e h (ap (λ (b : Bool). b && is_frozen e.stage) called ∙ is), none_frozen)
    by false is =
        cc (any_end (is_called false from source) entity r e h (ap (λ (b : Bool). b && not (is_frozen e.stage)) called ∙ ap not is), none)

module _ (titles : List (List ℕ)) (timers : Timers) (w : Whole) (journal : List Event) (entities : List Placed) (ends : List EndAt) (known : Known titles timers w journal entities ends)
    (timed : IsTimed timers) (system : ℕ) (entity : Entity) (at : entity_at entities system ≡ Some entity) (quiet : is_silent w.base.clock entity ≡ false)
    (tick : ℕ) (from : List ℕ) (sent : Sent) (io : IsOffered w.base tick from sent) (to : sent.to ≡ entity.own) (soon : w.base.clock ≤ tick + timers.life)
    (credit source : ℕ) (width : Format) (calling called : List ℕ) (size preferred : Option ℕ) (extra : ℕ) (version : Option ℕ) (classes : Option (List ℕ)) (ack_time : Option ℕ) (text : List ℕ) (sum : Bool)
    (reading : IsReadAs entity sent (wires.Cr credit source width calling called size preferred extra version classes ack_time text, sum)) where
  abbrev cr : WireTpdu
  cr = wires.Cr credit source width calling called size preferred extra version classes ack_time text

  abbrev o : Offer
  o = io.offer

  same : cr ≡ sent.tpdu
  same = reading.control (ap has_number (sym reading.kind))

  is : o.tpdu ≡ seen io.n cr
  is = io.seen_as ∙ ap (seen io.n) (sym same)

  kind : o.tpdu.kind ≡ Cr
  kind = ap (λ (t : Tpdu). t.kind) is

  source_is : o.tpdu.source ≡ source
  source_is = ap (λ (t : Tpdu). t.source) is

  to_own : o.to ≡ entity.own
  to_own = io.to_is ∙ to

  timers_are : entity.timers ≡ timers
  timers_are = (known.holds system entity at).timers_are

  allowed : IsConnect credit calling called size preferred text
  allowed = reading.allowed

  sound : Sound (times_of timers) w.base
  sound = (written_kept (times_of timers) titles w journal (fit_times timers) known.written).sound

  -- the entity refuses it
  abbrev answer : ℕ → Offer
  answer reason = record {
    tick = w.base.clock;
    from = entity.own;
    to = from;
    tpdu = seen 0 (wires.Dr source 0 reason None []);
    is_extended = false;
    origin = answers_to o o.origin;
  }

  may_answer : (reason : ℕ) → IsAnswer (times_of timers) w.base o (answer reason)
  may_answer reason = record {
    offered = io.offered;
    fresh = omega (arith, soon, io.tick_is);
    kind = inl kind;
    tick = refl;
    to = sym io.from_is;
    target = sym source_is;
    origin = refl;
    answers = inl (refl, refl);
  }

  refuses : (reason : ℕ) → Follows titles timers w journal entities ends system entity.own [] (answers entity (refusal from source reason ∷ []))
  refuses reason =
      replied titles timers w journal entities ends known system entity at [] no_events refl o (refusal from source reason) (answer reason) (may_answer reason) refl refl refl tt refl (refl, omega arith)

  ignores : Follows titles timers w journal entities ends system entity.own [] (answers entity [])
  ignores = noted titles timers w journal entities ends known system entity at [] no_events refl

  -- the end that sent it
  sender : (origin : Origin) → o.origin ≡ origin → (x : ℕ) × (o.origin ≡ SentBy x)
  sender (SentBy x) h = (x, h)
  sender (Answer z since) h = elim ((sound.offers o io.offered).answers z since h).kind [ inl dr ↦ absurd (cc (dr.0, kind)) | inr dc ↦ absurd (cc (dc, kind)) ]

  has_source : o.tpdu.source ≢ 0
  has_source = requests_sourced (times_of timers) w.base o (fit_times timers) (reached_base (times_of timers) w (written_reached (times_of timers) titles w journal known.written)) io.offered kind

  -- a new end
  module _ (reference : ℕ) (free : Free w.base.clock reference entity) (f : Freed titles timers w journal entities ends system reference entity.own)
      (none : list_any (is_called false from source) entity.ends ≡ false) (none_frozen : list_any (is_called true from source) entity.ends ≡ false) where
    abbrev h : History
    h = f.new.base

    abbrev m : Moved
    m = indicated (called_end w.base.clock reference from entity.timers credit source calling called (proposed_in width size preferred extra)) text

    abbrev caller : ℕ
    caller = (sender o.origin refl).0

    abbrev e : Seen
    e = indicated_by h reference timers caller o

    -- no called end stands there for it
    has_no_end : HasNoEnd h o
    has_no_end k low is_it there_is from_there knows = elim (cases_out (h.end k).is_out) [
      | inl out ↦ out
      | inr held ↦ absurd (elim (cases_eq (h.end k).birth.reference reference) [
        | inl same_reference ↦ cc (f.free k low (there_is ∙ to_own) same_reference, held)
        | inr different ↦
            by_place held (end_at entity (h.end k).birth.reference) refl (f.there system (h.end k).birth.reference entity at (λ _ same_reference. different same_reference))
      ])
    ]
      where
        by_place : (h.end k).is_out ≡ false → (place : Option End) → end_at entity (h.end k).birth.reference ≡ place → IsThere f.new entity.own (h.end k).birth.reference place → ⊥
        by_place held None at_it no_end = cc (no_end k low (there_is ∙ to_own) refl, held)
        by_place held (Some end) at_it is_known =
            let one : k ≡ is_known.k = is_known.at.only k low (there_is ∙ to_own) refl held in
            let s = subst (λ (i : ℕ). Sees (times_of end.base.timers) h.clock (h.end i) end) (sym one) is_known.sees in
            found_one entity from source (h.end k).birth.reference end at_it
            (called_by from source end (sym s.is_called ∙ is_it) (sym s.partner ∙ from_there ∙ io.from_is) (sym s.known ∙ knows ∙ source_is)) none none_frozen

    made_by : on_cr h.clock reference o.from timers cr ≡ Some m
    made_by =
        ap (λ (now : ℕ). on_cr now reference o.from timers cr) f.clock ∙ ap (λ (xs : List ℕ). on_cr w.base.clock reference xs timers cr) io.from_is
        ∙ ap (λ (t : Timers). on_cr w.base.clock reference from t cr) (sym timers_are)

    begins : Sees (times_of timers) h.clock e (end_of m) × May (times_of timers) h (Indicate o e)
    begins =
        indicates h reference caller io.n timers cr o m timed (omega (arith, free.least)) has_source made_by
        (subst (λ (os : List Offer). Contains os o) (sym f.offers) io.offered) (omega (arith, soon, f.clock, io.tick_is))
        (record { kind = sym (ap (λ (t : Tpdu). t.kind) is); target = sym (ap (λ (t : Tpdu). t.target) is); control = λ _. sym is })
        (sender o.origin refl).1 (subst (λ (xs : List ℕ). IsFree h xs reference) (sym to_own) f.free)
        (subst (λ (xs : List ℕ). IsNotSilent (times_of timers) h xs) (sym to_own)
        (subst (λ (t : Timers). IsNotSilent (times_of t) h entity.own) timers_are (freed_audible titles timers w journal entities ends system reference entity known at quiet f))) has_no_end

    abbrev made : List Event
    made = events_after ends system entity.own m.events

    abbrev moment : Moment
    moment = record { step = Indicate o e; doing = Nothing }

    abbrev after : Whole
    after = onward (times_of timers) f.new moment

    follows : MayFollow (times_of timers) titles f.new moment made
    follows =
        let title = known.titled system entity at in
        record {
          may = begins.1;
          lines = record {};
          makes = record {
            heard = record {
              end = latest (ends ++ record { system = system; reference = reference } ∷ []) system reference;
              system = system;
              reference = reference;
              calling = from;
              partner = source;
              calling_selector = calling;
              called = entity.own;
              called_selector = called;
              options = (options_in width size preferred extra);
              octets = text;
            };
            rest = [];
            is = refl;
            hears = record {
              end = latest_last ends system reference ∙ ap (λ (k : ℕ). k + 1) f.count;
              reference = refl;
              calling = sym io.from_is;
              partner = sym source_is;
              called = sym to_own;
              calling_selector = sym (ap (λ (t : Tpdu). t.words.calling) is);
              called_selector = sym (ap (λ (t : Tpdu). t.words.called) is);
              octets = sym (ap (λ (t : Tpdu). t.words.octets) is);
              title = title.0;
              title_is = title.1;
              same = title.2;
            };
            aside = no_events;
          };
        }

    written : Written (times_of timers) titles after (journal ++ made)
    written = written_more (times_of timers) titles f.new journal moment made f.written follows

    known_after : Known titles timers after (journal ++ made) (with_entity entities system (with_end entity reference (Some (end_of m)))) (ends ++ record { system = system; reference = reference } ∷ [])
    known_after =
        made_known titles timers w journal entities ends known system reference entity entity at f (record { own = refl; timers = refl; ends = refl; restarted = refl; clock = (known.holds system entity at).clock }) free.least free.most
        m (called_row w.base.clock reference from entity.timers cr m (subst IsTimed (sym timers_are) timed) allowed refl).proper timers_are e begins.1.new to_own refl begins.0 h.offers (h.events ++ event_of e ∷ []) made written
        (λ z terms p. omega (arith, allowed.few_credits))

    indicates_one : Follows titles timers w journal entities ends system entity.own [] (moved entity reference m)
    indicates_one = record {
      new = after;
      goes_on = record { clock = f.clock; offers = λ p c. subst (λ (os : List Offer). Contains os p) (sym f.offers) c };
      known =
          subst (λ (xs : List Event). Known titles timers after (xs ++ made) (with_entity entities system (with_end entity reference (Some (end_of m)))) (ends ++ record { system = system; reference = reference } ∷ []))
          (sym (append-nil journal)) known_after;
      offered = tt;
    }

  by_tests : (there_now there_frozen unknown : Bool) (least : Option ℕ) → list_any (is_called false from source) entity.ends ≡ there_now → list_any (is_called true from source) entity.ends ≡ there_frozen
      → least_free w.base.clock entity ≡ least
      → Follows titles timers w journal entities ends system entity.own []
      (if there_now then answers entity []
      else if there_frozen then answers entity (refusal from source 131 ∷ [])
      else if unknown then answers entity (refusal from source 3 ∷ [])
      else new_end w.base.clock entity from source cr least)
  by_tests true there_frozen unknown least a b c = ignores
  by_tests false true unknown least a b c = refuses 131
  by_tests false false true least a b c = refuses 3
  by_tests false false false None a b c = refuses 129
  by_tests false false false (Some reference) a b c =
      let free = free_least w.base.clock reference entity c in
      indicates_one reference free (freed titles timers w journal entities ends known system reference entity at (free_at w.base.clock (end_at entity reference) free.free)) a b

  pub after_request : Follows titles timers w journal entities ends system entity.own [] (requested w.base.clock entity from source called cr)
  after_request =
      by_tests (list_any (is_called false from source) entity.ends) (list_any (is_called true from source) entity.ends) (not (is_registered entity.selectors called)) (least_free w.base.clock entity) refl refl refl
