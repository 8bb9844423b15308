-- The journal of a history: the events of its steps, one after another (X.214, model of the transport service). End k has the number k + 1.
use Rattle.std.specs.Prelude.{◌≡◌, ℕ, ◌+◌, Bool, true, false, List, [], ◌∷◌, ◌++◌, slice_get, Some, All}
use Rattle.nsap.specs.Address.{is_same_system}
use Rattle.script_journal.specs.declared.event.Event.{Event}
use Rattle.script_journal.specs.declared.event.Event.TheVariants as events
use Rattle.script_journal.specs.declared.event.Indication.{Indication}
use Rattle.script_journal.specs.declared.event.Request.{Request}
use Rattle.law_tp4_history.specs.Ends.{Times, End}
use Rattle.law_tp4_history.specs.History.{Step, Tick, Connect, Indicate, Reply, Take, Act, Release, Restart, Note, May}
use Rattle.law_tp4_history.specs.Tracks.{Whole, Doing, Moment, MayAll, onward, IsNothing}
use Rattle.law_tp4_history.specs.Units.{TellsNone, MayTell, Saying}

-- the event makes an end
abbrev pub makes_end : Event → Bool
makes_end (events.Connect asked) = true
makes_end (events.Incoming heard) = true
makes_end event = false

-- none of these events makes an end
abbrev pub MakesNone : List Event → Type 0
MakesNone made = All (λ (event : Event). makes_end event ≡ false) made

-- these events tell no unit, and make no end
pub record IsAside (made : List Event) : Type 0 where
  pub units : TellsNone made
  pub ends : MakesNone made

-- the connect request of end k, as it begins
pub record Asks (k : ℕ) (e : End) (asked : Request) : Type 0 where
  pub end : asked.end ≡ k + 1
  pub reference : asked.reference ≡ e.birth.reference
  pub calling : asked.calling ≡ e.birth.address
  pub called : asked.called ≡ e.birth.partner
  pub calling_selector : asked.calling_selector ≡ e.birth.words.calling
  pub called_selector : asked.called_selector ≡ e.birth.words.called
  pub octets : asked.octets ≡ e.birth.words.octets

-- the connect indication of the called end k, as it begins; it is in the system of the called address
pub record Hears (titles : List (List ℕ)) (k : ℕ) (e : End) (heard : Indication) : Type 0 where
  pub end : heard.end ≡ k + 1
  pub reference : heard.reference ≡ e.birth.reference
  pub calling : heard.calling ≡ e.birth.partner
  pub partner : heard.partner ≡ e.known
  pub called : heard.called ≡ e.birth.address
  pub calling_selector : heard.calling_selector ≡ e.birth.words.calling
  pub called_selector : heard.called_selector ≡ e.birth.words.called
  pub octets : heard.octets ≡ e.birth.words.octets
  pub title : List ℕ
  pub title_is : slice_get titles heard.system ≡ Some title
  pub same : is_same_system title heard.called ≡ true

-- a connect request, and then events that do neither
pub record MakesCalling (k : ℕ) (e : End) (made : List Event) : Type 0 where
  pub asked : Request
  pub rest : List Event
  pub is : made ≡ events.Connect asked ∷ rest
  pub asks : Asks k e asked
  pub aside : IsAside rest

-- a connect indication, and then events that do neither
pub record MakesCalled (titles : List (List ℕ)) (k : ℕ) (e : End) (made : List Event) : Type 0 where
  pub heard : Indication
  pub rest : List Event
  pub is : made ≡ events.Incoming heard ∷ rest
  pub hears : Hears titles k e heard
  pub aside : IsAside rest

-- the events that a step makes
abbrev pub MayMake : List (List ℕ) → Whole → Step → Doing → List Event → Type 0
MayMake titles w Tick doing made = IsAside made
MayMake titles w (Connect e offered) doing made = MakesCalling w.base.count e made
MayMake titles w (Indicate o e) doing made = MakesCalled titles w.base.count e made
MayMake titles w (Reply o answer) doing made = IsAside made
MayMake titles w (Take y o tpdu new offered) doing made = MayTell w y doing made × MakesNone made
MayMake titles w (Act y new offered) doing made = MayTell w y doing made × MakesNone made
MayMake titles w (Release y) doing made = IsAside made
MayMake titles w (Restart address) doing made = IsAside made
MayMake titles w Note doing made = IsAside made

-- the moment may follow, with these events
pub record MayFollow (times : Times) (titles : List (List ℕ)) (w : Whole) (m : Moment) (made : List Event) : Type 0 where
  pub may : May times w.base m.step
  pub lines : MayAll times w m.step m.doing
  pub makes : MayMake titles w m.step m.doing made

-- these moments can follow one another; they lead from one history to the other, and from the journal before to the one after
abbrev pub Writes : Times → List (List ℕ) → Whole → List Event → List Saying → Whole → List Event → Type 0
Writes times titles old before [] new after = (new ≡ old) × (after ≡ before)
Writes times titles old before (m ∷ ms) new after = MayFollow times titles old m.moment m.made × Writes times titles (onward times old m.moment) (before ++ m.made) ms new after

-- the journal is written from nothing on; the titles are those of the systems, by number
abbrev pub Written : Times → List (List ℕ) → Whole → List Event → Type 0
Written times titles w journal = (old : Whole) × IsNothing old × (sayings : List Saying) × Writes times titles old [] sayings w journal
