-- A network before its first call is explained by a history in which nothing ever was.
use Rattle.std.proofs.Common.{◌≡◌, ℕ, zero, suc, ◌-◌, ◌≤◌, ◌==◌, Bool, true, false, if◌then◌else◌, cond, List, [], ◌∷◌, ◌++◌, length, replicate, Option, Some, None, refl, sym, ◌∙◌, ap, subst, arith, append_assoc}
use Rattle.std.proofs.lemmas.Bool.{eqb-true}
use Rattle.std.specs.Prelude.{option_map, slice_get}
use Rattle.std.specs.List.{AllByRecursion, find}
use Rattle.nsap.specs.Address.{is_same_system, system_part}
use Rattle.nsap.proofs.AddressLemmas.{is_same_system-Decides, system_part-append}
use Rattle.osi_base.specs.Link.{Link}
use Rattle.osi_base.specs.Calls.{Call, Keeps}
use Rattle.script_journal.specs.Silence.{KeepsSilence}
use Rattle.script_journal.specs.declared.event.Event.{Event}
use Rattle.script_journal.specs.declared.event.Event.TheVariants as events
use Rattle.net_world.specs.Told.{told}
use Rattle.tp4_conn.specs.End.{End, IsTimed}
use Rattle.tp4_conn.specs.declared.timers.Timers.{Timers}
use Rattle.tp4_entity.specs.Entity.{Entity, end_at, there}
use Rattle.law_tp4_history.specs.Ends.{CrWait, End as HistoryEnd, Times}
use Rattle.law_tp4_history.specs.History.{nothing}
use Rattle.law_tp4_history.specs.Journals.{Written}
use Rattle.law_tp4_history.specs.Line.{empty}
use Rattle.law_tp4_history.specs.Tracks.{IsNothing, Track, Whole}
use Rattle.law_tp4_history.specs.Moves.{times_of}
use Rattle.tp4_world.specs.First.{HasNoEnd, IsFirst, IsNew}
use Rattle.tp4_world.specs.Run.{Starts, transport_address}
use Rattle.tp4_world.specs.World.{World, entity_at, is_of}
use Rattle.tp4_world.specs.declared.place.Placed.{Placed}
use Rattle.law_tp4_lawful.specs.First.{AreDistinct, IsUntouched}
use Rattle.law_tp4_lawful.proofs.Known.{Holds, IsOffered, IsThere, Known}
use Rattle.law_tp4_lawful.proofs.Along.{AreAtRest}
use Rattle.law_tp4_lawful.proofs.Worlds.{Followed, Outcomes, Rests}
use Rattle.law_tp4_lawful.proofs.WorldActs.{Went, went_aside}
use Rattle.law_tp4_lawful.proofs.WorldAsides.{told_quiet}
use Rattle.law_tp4_lawful.proofs.WorldFloats.{start_goes}
use Rattle.law_tp4_lawful.proofs.WorldPlaces.{none_some, some_same}
use Rattle.law_tp4_lawful.proofs.WorldKnown.{plain_kept, plain_grows}

-- ---- nothing

no_end : HistoryEnd
no_end = record {
  birth = record { address = []; reference = 0; is_called = false; caller = 0; partner = []; words = record { calling = []; called = []; octets = [] }; made = 0; event = 0 };
  phase = CrWait;
  took = 0;
  latest = 0;
  is_parted = false;
  known = 0;
  agreed = None;
  stop = None;
  is_out = false;
}

abbrev no_track : Track
no_track = record { is_begun = false; rules = record { block = 0; life = 0; limit = 0 }; size = 0; tick = 0; credit = 0; places = 0; room = 0; line = empty 0 0 0 0 }

abbrev no_history : Whole
no_history = record { base = nothing (λ k. no_end); track = λ k. no_track }

nothing_yet : IsNothing no_history
nothing_yet = record { end = λ k. no_end; base = refl; none = λ k. refl }

-- ---- the entities

-- what holds of each entity that was placed
pub record IsOne (P : Placed → Type 0) (system : ℕ) (e : Entity) : Type 0 where
  pub one : Placed
  pub system_is : one.system ≡ system
  pub entity_is : one.entity ≡ e
  pub holds : P one

pub found : (P : Placed → Type 0) (placed : List Placed) (system : ℕ) (e : Entity) → AllByRecursion P placed → entity_at placed system ≡ Some e → IsOne P system e
found P [] system e all is = absurd (none_some e is)
found P (one ∷ placed) system e all is = by_first (is_of system one) refl is (found P placed system e all.1)
  where
    by_first : (here : Bool) → is_of system one ≡ here → option_map (λ (x : Placed). x.entity) (cond here (Some one) (find (is_of system) placed)) ≡ Some e
        → (entity_at placed system ≡ Some e → IsOne P system e) → IsOne P system e
    by_first true at is rest = record { one = one; system_is = eqb-true one.system system at; entity_is = some_same one.entity e is; holds = all.0 }
    by_first false at is rest = rest is

pub none_there : (ends : List (Option End)) → AllByRecursion (λ place. place ≡ None) ends → (n : ℕ) → there (slice_get ends n) ≡ None
none_there [] none n = refl
none_there (place ∷ ends) none zero = ap (λ (p : Option End). there (Some p)) none.0
none_there (place ∷ ends) none (suc n) = none_there ends none.1 n

pub no_end_at : (e : Entity) → HasNoEnd e → (reference : ℕ) → end_at e reference ≡ None
no_end_at e none reference = by_zero (reference == 0)
  where
    by_zero : (z : Bool) → (if z then None else there (slice_get e.ends (reference - 1))) ≡ None
    by_zero true = refl
    by_zero false = none_there e.ends none (reference - 1)

pub all_none : (ends : List (Option End)) → AllByRecursion (λ place. place ≡ None) ends → ends ≡ replicate (length ends) None
all_none [] none = refl
all_none (place ∷ ends) none = ap (λ (p : Option End). p ∷ ends) none.0 ∙ ap (λ (ps : List (Option End)). None ∷ ps) (all_none ends none.1)

pub no_ends : (titles : List (List ℕ)) (placed : List Placed) → AllByRecursion (IsNew titles) placed → AllByRecursion (λ (one : Placed). HasNoEnd one.entity) placed
no_ends titles [] all = tt
no_ends titles (one ∷ placed) all = (all.0.none, no_ends titles placed all.1)

-- the title of a system, where an entity is
record HasTitle (titles : List (List ℕ)) (system : ℕ) (e : Entity) : Type 0 where
  title : List ℕ
  title_is : slice_get titles system ≡ Some title
  own : e.own ≡ transport_address title
  none : HasNoEnd e

module _ (titles : List (List ℕ)) (timers : Timers) (timed : IsTimed timers) (inactive : 1 ≤ timers.inactive) (distinct : AreDistinct titles)
    (placed : List Placed) (entities : AllByRecursion (IsNew titles) placed) (untouched : AllByRecursion (IsUntouched timers) placed)
    (begins : (times : Times) (titles : List (List ℕ)) (w : Whole) → IsNothing w → Written times titles w []) where
  titled : (system : ℕ) (e : Entity) → entity_at placed system ≡ Some e → HasTitle titles system e
  titled system e is =
      let f = found (IsNew titles) placed system e entities is in
      record {
        title = f.holds.title;
        title_is = ap (slice_get titles) (sym f.system_is) ∙ f.holds.title_is;
        own = ap (λ (x : Entity). x.own) (sym f.entity_is) ∙ f.holds.own;
        none = subst HasNoEnd f.entity_is f.holds.none;
      }

  same_system : (title own : List ℕ) → own ≡ transport_address title → is_same_system title own ≡ true
  same_system title own is = grind (arith, is_same_system-Decides title own, is, system_part-append (system_part title) 1)

  first_holds : (system : ℕ) (e : Entity) → entity_at placed system ≡ Some e → Holds timers no_history e
  first_holds system e is =
      let f = found (IsUntouched timers) placed system e untouched is in
      let t = titled system e is in
      record {
        timers_are = ap (λ (x : Entity). x.timers) (sym f.entity_is) ∙ f.holds.timers_are;
        clock = low e.clock (ap (λ (x : Entity). x.clock) (sym f.entity_is) ∙ f.holds.clock);
        there = λ reference. subst (IsThere no_history e.own reference) (sym (no_end_at e t.none reference)) (λ k below address at. absurd (omega (arith, below)));
        theirs = λ reference end at. absurd (none_some end (sym (no_end_at e t.none reference) ∙ at));
      }
    where
      low : (n : ℕ) → n ≡ 0 → n ≤ 0
      low n is = omega (arith, is)

  first_known : Known titles timers no_history [] placed []
  first_known = record {
    written = begins (times_of timers) titles no_history nothing_yet;
    restarts = λ system e is r there. absurd (omega (arith, there.1));
    count = refl;
    listed = λ k end at. absurd (none_some end at);
    holds = first_holds;
    apart = λ one other x y at_one at_other own.
        let first = titled one x at_one in
        let second = titled other y at_other in
        let parts : system_part first.title ≡ system_part second.title =
        sym (system_part-append (system_part first.title) 1) ∙ ap system_part (sym first.own ∙ own ∙ second.own) ∙ system_part-append (system_part second.title) 1 in
        distinct one other first.title second.title first.title_is second.title_is parts;
    titled = λ system e is.
        let t = titled system e is in
        (t.title, t.title_is, same_system t.title e.own t.own);
    begun = λ a b terms caller agreed. absurd (omega (arith, caller.a_low));
  }

  first_rest : (Sound : Entity → Type 0) (InTime : ℕ → Entity → Type 0) → Outcomes Sound InTime → (now : ℕ) → AreAtRest Sound now placed
  first_rest Sound InTime outcomes now system e is =
      let f = found (IsUntouched timers) placed system e untouched is in
      let timers_are : e.timers ≡ timers = ap (λ (x : Entity). x.timers) (sym f.entity_is) ∙ f.holds.timers_are in
      outcomes.new now (length e.ends) e (all_none e.ends (titled system e is).none) (subst IsTimed (sym timers_are) timed) (subst (λ (t : Timers). 1 ≤ t.inactive) (sym timers_are) inactive)

  -- the network as it starts
  pub started : {C : Type 0} (link : C → Link (List ℕ)) (steps : C → Call (List ℕ) → C → Type 0) (law : (old : C) (call : Call (List ℕ)) (new : C) → steps old call new → Keeps (link old) call (link new))
      → Followed titles timers → (Sound : Entity → Type 0) (InTime : ℕ → Entity → Type 0) → Outcomes Sound InTime → (made : C) (begun : List Event) (first : World C)
      → IsFirst timers.life titles (link made) placed → Starts link steps made placed begun first → Rests link Sound titles timers begun first
  started {C} link steps law followed Sound InTime outcomes made begun first is start =
      let front : List Event = events.Tick 0 ∷ told start.ups in
      let new : World C = record { carrier = start.below; entities = placed; ends = [] } in
      let carries = start_goes IsOffered plain_grows timers.life link steps law no_history.base titles made start.below start.ups is.carrier_is refl start.gathers in
      let went : Went titles timers (Known titles timers) IsOffered (plain_kept titles timers) link steps law followed.aside no_history front new =
      went_aside titles timers (Known titles timers) IsOffered (plain_kept titles timers) link steps law followed.aside no_history [] front new new first_known carries
      (record { submits = λ end. refl; shows = λ end. refl; makes = refl }, told_quiet start.ups) refl in
      subst (λ (x : World C). Rests link Sound titles timers begun x) (sym start.becomes)
      (subst (λ (xs : List Event). Rests link Sound titles timers xs new) (sym start.made_is)
      (record { w = went.next; explains = went.explains; rest = first_rest Sound InTime outcomes went.next.base.clock }))

-- a front of a journal that keeps silence keeps it
pub front_silent : (frozen : ℕ) (front back : List Event) → KeepsSilence frozen (front ++ back) → KeepsSilence frozen front
front_silent frozen front back s = record {
  lost = λ first middle rest last making event end system is.
      s.lost first middle rest (last ++ back) making event end system
      (ap (λ (xs : List Event). xs ++ back) is ∙ append_assoc first (making ∷ (middle ++ events.Restart system ∷ (rest ++ event ∷ last))) back
      ∙ ap (λ (xs : List Event). first ++ making ∷ xs) (append_assoc middle (events.Restart system ∷ (rest ++ event ∷ last)) back
      ∙ ap (λ (xs : List Event). middle ++ events.Restart system ∷ xs) (append_assoc rest (event ∷ last) back)));
  late = λ first middle last making end system is.
      s.late first middle (last ++ back) making end system
      (ap (λ (xs : List Event). xs ++ back) is ∙ append_assoc first (events.Restart system ∷ (middle ++ making ∷ last)) back
      ∙ ap (λ (xs : List Event). first ++ events.Restart system ∷ xs) (append_assoc middle (making ∷ last) back));
}
