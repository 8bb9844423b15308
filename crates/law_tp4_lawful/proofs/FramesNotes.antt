-- A step of the history in which nothing happens but an event that is told.
use Rattle.std.proofs.Common.{◌≡◌, ℕ, List, ◌++◌, Some, refl, arith}
use Rattle.script_journal.specs.declared.event.Event.{Event}
use Rattle.tp4_conn.specs.End.{End as ConnEnd}
use Rattle.tp4_conn.specs.declared.timers.Timers.{Timers}
use Rattle.law_tp4_history.specs.Ends.{Terms, Times}
use Rattle.law_tp4_history.specs.History.{IsCaller, Note}
use Rattle.law_tp4_history.specs.Journals.{IsAside, Written}
use Rattle.law_tp4_history.specs.Tracks.{Nothing, Whole, onward}
use Rattle.law_tp4_history.proofs.Agreed.{step_stay}
use Rattle.law_tp4_history.proofs.Steps.{step_later}
use Rattle.law_tp4_history.proofs.Written.{Kept, written_more}
use Rattle.law_tp4_history.specs.Moves.{times_of}
use Rattle.law_tp4_history.proofs.Beginnings.{fit_times}
use Rattle.tp4_world.specs.declared.place.EndAt.{EndAt}
use Rattle.tp4_world.specs.declared.place.Placed.{Placed}
use Rattle.law_tp4_lawful.proofs.Known.{HaveBegun, IsKnown, Known}
use Rattle.law_tp4_lawful.proofs.Worlds.{AfterAside}
use Rattle.law_tp4_lawful.proofs.Frames.{owners_same}
use Rattle.law_tp4_lawful.proofs.FramesKnown.{Frames, calls_back, holds_all, keeps, known_on, known_stays, pair_low, partner_back, terms_back}

abbrev pub note : Times → Whole → Whole
note times w = onward times w (record { step = Note; doing = Nothing })

module _ (titles : List (List ℕ)) (timers : Timers) (w : Whole) (journal : List Event) (entities : List Placed) (ends : List EndAt) (known : Known titles timers w journal entities ends) where
  all : Kept (times_of timers) titles w journal
  all = keeps titles timers w journal entities ends known

  pub note_frames : Frames w.base (note (times_of timers) w).base
  note_frames = record {
    later = step_later (times_of timers) (fit_times timers) w.base Note tt all.sound;
    count = refl;
    stay = step_stay (times_of timers) (fit_times timers) w.base all.sound all.agreed Note tt;
    restarts = refl;
  }

  pub note_known : (own : List ℕ) (r : ℕ) (one : ConnEnd) → IsKnown w own r one → IsKnown (note (times_of timers) w) own r one
  note_known own r one o = known_stays w (note (times_of timers) w) note_frames own r one o refl refl (λ z terms p are.
      let q = partner_back w.base (note (times_of timers) w).base note_frames o.k z p in
      o.stands z terms q (terms_back w.base (note (times_of timers) w).base note_frames o.k z terms o.at.low (pair_low w.base o.k z q).1 are))

  pub note_begun : (a b : ℕ) (terms : Terms) → IsCaller (note (times_of timers) w).base a b → ((note (times_of timers) w).base.end b).agreed ≡ Some terms → HaveBegun (note (times_of timers) w) a b terms
  note_begun a b terms p agreed = let h = known.begun a b terms (calls_back w.base (note (times_of timers) w).base note_frames a b p) agreed in record { own = h.own; theirs = h.theirs }

  pub note_written : (made : List Event) → IsAside made → Written (times_of timers) titles (note (times_of timers) w) (journal ++ made)
  note_written made aside = written_more (times_of timers) titles w journal (record { step = Note; doing = Nothing }) made known.written (record { may = tt; lines = record {}; makes = aside })

pub after_aside : (titles : List (List ℕ)) (timers : Timers) → AfterAside titles timers
after_aside titles timers w journal made entities ends known aside =
    known_on titles timers w journal entities ends known (note (times_of timers) w) made (note_written titles timers w journal entities ends known made aside) (note_frames titles timers w journal entities ends known)
    entities (owners_same entities)
    (holds_all titles timers w journal entities ends known (note (times_of timers) w) (note_frames titles timers w journal entities ends known) (omega arith) (λ system entity r one is at o. note_known titles timers w journal entities ends known entity.own r one o))
    (note_begun titles timers w journal entities ends known)
