-- A tick at which no end is due is one of the history, which explains the same network: each end that goes on is before its latest tick.
use Rattle.std.proofs.Common.{◌≡◌, ℕ, ◌+◌, ◌<◌, Bool, true, false, List, ◌++◌, slice_get, get_or, Option, Some, None, refl, sym, ◌∙◌, subst, arith}
use Rattle.std.proofs.lemmas.Option.{slice_get-get_or}
use Rattle.script_journal.specs.declared.event.Event.{Event}
use Rattle.tp4_conn.specs.Dues.{IsBefore}
use Rattle.tp4_conn.specs.End.{End as ConnEnd}
use Rattle.tp4_conn.specs.Living.{IsInTime}
use Rattle.tp4_conn.specs.Table.{due}
use Rattle.tp4_conn.specs.declared.end_record.EndRecord.{EndRecord}
use Rattle.tp4_conn.specs.declared.states.StateData.{StateData}
use Rattle.tp4_conn.specs.declared.timers.Timers.{Timers}
use Rattle.tp4_entity.specs.Entity.{Entity, end_at}
use Rattle.law_tp4_history.specs.Ends.{Terms}
use Rattle.law_tp4_history.specs.History.{IsCaller, Tick}
use Rattle.law_tp4_history.specs.Journals.{Written}
use Rattle.law_tp4_history.specs.Tracks.{Nothing, Track, Whole, clocked, onward}
use Rattle.law_tp4_history.proofs.Later.{end_same}
use Rattle.law_tp4_history.proofs.Written.{written_more}
use Rattle.law_tp4_history.specs.Lines.{Stands}
use Rattle.law_tp4_history.specs.Moves.{Sees, times_of}
use Rattle.law_tp4_history.proofs.StepMoves.{before_latest, passed}
use Rattle.law_tp4_proper.proofs.Ends.{waits}
use Rattle.tp4_world.specs.World.{entity_at}
use Rattle.tp4_world.specs.declared.place.EndAt.{EndAt}
use Rattle.tp4_world.specs.declared.place.Placed.{Placed}
use Rattle.law_tp4_lawful.proofs.Known.{AreIdle, HaveBegun, Holds, IsThere, Known}
use Rattle.law_tp4_lawful.proofs.Worlds.{AfterClock}
use Rattle.law_tp4_lawful.proofs.Frames.{owners_same}
use Rattle.law_tp4_lawful.proofs.FramesKnown.{Frames, at_on, calls_back, free_on, keeps, known_on, pair_low, partner_back, terms_back}
use Rattle.law_tp4_lawful.proofs.WorldPlaces.{none_some}

-- ---- a tick

is_before : (next : Option ℕ) (now : ℕ) → IsInTime next (now + 1) → IsBefore next now
is_before None now soon = tt
is_before (Some tick) now soon = omega (arith, soon)

true_false : true ≡ false → ⊥
true_false is = absurd cc

module _ (titles : List (List ℕ)) (timers : Timers) (w : Whole) (journal : List Event) (entities : List Placed) (ends : List EndAt) (known : Known titles timers w journal entities ends)
    (idle : AreIdle w.base.clock entities) where
  not_due : (system : ℕ) (entity : Entity) (reference : ℕ) (e : ConnEnd) → entity_at entities system ≡ Some entity → end_at entity reference ≡ Some e → IsBefore (due e.base e.stage) w.base.clock
  not_due system entity reference e is at = is_before (due e.base e.stage) w.base.clock ((waits w.base.clock entity (idle system entity is)).1 reference e at)

  -- an end that goes on stands at its entity
  is_held : (k : ℕ) → k < w.base.count → (w.base.end k).stop ≡ None → (w.base.end k).is_out ≡ false
  is_held k low going = by_out (w.base.end k).is_out refl
    where
      by_out : (out : Bool) → (w.base.end k).is_out ≡ out → out ≡ false
      by_out true is = let gone = ((keeps titles timers w journal entities ends known).sound.own k low).gone is in absurd (none_some gone.0 (sym going ∙ gone.1))
      by_out false is = refl

  before_its_latest : (k : ℕ) → k < w.base.count → (w.base.end k).stop ≡ None → w.base.clock < (w.base.end k).latest
  before_its_latest k low going =
      let nowhere : EndAt = record { system = 0; reference = 0 } in
      let end : EndAt = get_or ends k nowhere in
      let there : slice_get ends k ≡ Some end = slice_get-get_or ends k nowhere (omega (arith, low, known.count)) in
      let l = known.listed k end there in
      by_end end l.entity l.entity_is l.address l.reference (end_at l.entity end.reference) refl ((known.holds end.system l.entity l.entity_is).there end.reference)
    where
      by_end : (end : EndAt) (entity : Entity) → entity_at entities end.system ≡ Some entity → (w.base.end k).birth.address ≡ entity.own → (w.base.end k).birth.reference ≡ end.reference
          → (at : Option ConnEnd) → end_at entity end.reference ≡ at → IsThere w entity.own end.reference at → w.base.clock < (w.base.end k).latest
      by_end end entity is address reference None at free = absurd (true_false (sym (free k low address reference) ∙ is_held k low going))
      by_end end entity is address reference (Some e) at one =
          let same : k ≡ one.k = one.at.only k low address reference (is_held k low going) in
          let sees : Sees (times_of e.base.timers) w.base.clock (w.base.end k) e = subst (λ (j : ℕ). Sees (times_of e.base.timers) w.base.clock (w.base.end j) e) (sym same) one.sees in
          before_latest (times_of e.base.timers) w.base.clock (w.base.end k) e sees going (not_due end.system entity end.reference e is at)

-- halves that stand in lines stand there a tick later
abbrev pub StandLater : Type 0
StandLater = (terms : Terms) (b : EndRecord) (stage : StateData) (own theirs : Track) → Stands terms b stage own theirs → Stands terms b stage (clocked own) (clocked theirs)

pub after_clock : StandLater → (titles : List (List ℕ)) (timers : Timers) → AfterClock titles timers
after_clock later titles timers w journal made entities ends known idle aside =
    known_on titles timers w journal entities ends known new made written frames entities (owners_same entities) (λ system entity is. holds system entity is (known.holds system entity is)) begun
  where
    new : Whole
    new = onward (times_of timers) w (record { step = Tick; doing = Nothing })

    written : Written (times_of timers) titles new (journal ++ made)
    written =
        written_more (times_of timers) titles w journal (record { step = Tick; doing = Nothing }) made known.written
        (record { may = before_its_latest titles timers w journal entities ends known idle; lines = record {}; makes = aside })

    frames : Frames w.base new.base
    frames = record {
      later = record { clock = omega arith; count = omega arith; end = λ k low. end_same w.base.clock (w.base.end k); restarts = λ address r there. there };
      count = refl;
      stay = λ k terms low is. is;
      restarts = refl;
    }

    is_there : (own : List ℕ) (reference : ℕ) (at : Option ConnEnd) → ((e : ConnEnd) → at ≡ Some e → IsBefore (due e.base e.stage) w.base.clock) → IsThere w own reference at → IsThere new own reference at
    is_there own reference None soon free = free_on w.base new.base frames own reference free
    is_there own reference (Some e) soon one = record {
      k = one.k;
      at = at_on w.base new.base frames own reference one.k one.at.held one.at;
      sees = passed (times_of e.base.timers) w.base.clock (w.base.end one.k) e one.sees (soon e refl);
      proper = one.proper;
      stands = λ z terms p are.
          let old = partner_back w.base new.base frames one.k z p in
          let low = pair_low w.base one.k z old in
          later terms e.base e.stage (w.track one.k) (w.track z) (one.stands z terms old (terms_back w.base new.base frames one.k z terms low.0 low.1 are));
    }

    holds : (system : ℕ) (entity : Entity) → entity_at entities system ≡ Some entity → Holds timers w entity → Holds timers new entity
    holds system entity is h = record {
      timers_are = h.timers_are;
      clock = omega (arith, h.clock);
      there = λ reference.
          is_there entity.own reference (end_at entity reference) (λ e at. not_due titles timers w journal entities ends known idle system entity reference e is at) (h.there reference);
      theirs = h.theirs;
    }

    begun : (a b : ℕ) (terms : Terms) → IsCaller new.base a b → (new.base.end b).agreed ≡ Some terms → HaveBegun new a b terms
    begun a b terms calls agreed = let h = known.begun a b terms (calls_back w.base new.base frames a b calls) agreed in record {
      own = record { begun = h.own.begun; size = h.own.size };
      theirs = record { begun = h.theirs.begun; size = h.theirs.size };
    }
