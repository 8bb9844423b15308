-- The units that the events of a history tell: what its ends were asked to send, and what they show (X.214, queue model). End k has the number k + 1.
use Rattle.std.specs.Prelude.{◌≡◌, ◌≢◌, ℕ, ◌+◌, true, List, [], ◌∷◌, ◌++◌}
use Rattle.script_journal.specs.Lawful.{submitted, shown, IsQueue}
use Rattle.script_journal.specs.declared.event.Event.{Event}
use Rattle.law_tp4_history.specs.Ends.{Times}
use Rattle.law_tp4_history.specs.History.{IsPartner, Step, Tick, Connect, Indicate, Reply, Take, Act, Release, Restart, Note, May}
use Rattle.law_tp4_history.specs.Tracks.{Whole, Track, Doing, Nothing, Start, Go, Moment, MayAll, onward, IsNothing}

-- these events tell no unit
abbrev pub TellsNone : List Event → Type 0
TellsNone made = (end : ℕ) → (submitted end made ≡ []) × (shown end made ≡ [])

-- the events of a step of y tell what its line was given more, and what the line of its partner showed more, and no other unit
pub record Tells (y : ℕ) (made : List Event) (own new theirs after : Track) : Type 0 where
  pub others : (end : ℕ) → end ≢ y + 1 → (submitted end made ≡ []) × (shown end made ≡ [])
  pub gave : new.line.submitted ≡ own.line.submitted ++ submitted (y + 1) made
  pub showed : after.line.shown ≡ theirs.line.shown ++ shown (y + 1) made

-- the units that a step of y tells, by what lines do in it
abbrev pub MayTell : Whole → ℕ → Doing → List Event → Type 0
MayTell w y Nothing made = TellsNone made
MayTell w y (Start z own theirs) made = TellsNone made
MayTell w y (Go z own theirs) made = Tells y made (w.track y) own (w.track z) theirs

-- the units that a step tells
abbrev pub MayTellAll : Whole → Step → Doing → List Event → Type 0
MayTellAll w Tick doing made = TellsNone made
MayTellAll w (Connect e offered) doing made = TellsNone made
MayTellAll w (Indicate o e) doing made = TellsNone made
MayTellAll w (Reply o answer) doing made = TellsNone made
MayTellAll w (Take y o tpdu new offered) doing made = MayTell w y doing made
MayTellAll w (Act y new offered) doing made = MayTell w y doing made
MayTellAll w (Release y) doing made = TellsNone made
MayTellAll w (Restart address) doing made = TellsNone made
MayTellAll w Note doing made = TellsNone made

-- a moment, with its events
pub record Saying : Type 0 where
  pub moment : Moment
  pub made : List Event

-- these moments can follow one another; they lead from one history to the other, and from the journal before to the one after
abbrev pub Says : Times → Whole → List Event → List Saying → Whole → List Event → Type 0
Says times old before [] new after = (new ≡ old) × (after ≡ before)
Says times old before (m ∷ ms) new after =
    (May times old.base m.moment.step × MayAll times old m.moment.step m.moment.doing × MayTellAll old m.moment.step m.moment.doing m.made) × Says times (onward times old m.moment) (before ++ m.made) ms new after

-- the journal is told from nothing on
abbrev pub Spoken : Times → Whole → List Event → Type 0
Spoken times w journal = (old : Whole) × IsNothing old × (sayings : List Saying) × Says times old [] sayings w journal

-- what y shows is what its one partner was asked to send, and nothing without a partner
pub record TellsTrue (w : Whole) (journal : List Event) : Type 0 where
  pub lawful : (x y : ℕ) → IsPartner w.base x y → (w.track x).is_begun ≡ true → IsQueue (submitted (x + 1) journal) (shown (y + 1) journal)
  pub none : (y : ℕ) → ((x : ℕ) → IsPartner w.base x y → (w.track x).is_begun ≡ true → ⊥) → shown (y + 1) journal ≡ []
