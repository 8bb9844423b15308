-- What each call of a transport service tells (X.214, service primitives).
use Rattle.std.specs.Prelude.{◌≡◌, ℕ, ◌+◌, Bool, true, false, List, [], ◌∷◌, ◌++◌}
use Rattle.std.specs.List.{AllByRecursion}
use Rattle.tpdu.specs.declared.service.Options.{Options}
use Rattle.script_journal.specs.declared.cause.Refused.{Refused}
use Rattle.script_journal.specs.declared.event.Event.{Event}
use Rattle.script_journal.specs.declared.event.Event.TheVariants as events
use Rattle.script_journal.specs.declared.event.Request.{Request}
use Rattle.tp4_conn.specs.declared.call.ConnectRequest.{ConnectRequest}
use Rattle.tp4_conn.specs.declared.call.UserCall.{UserCall}
use Rattle.tp4_conn.specs.declared.call.UserCall.TheVariants as asks
use Rattle.tpdu.specs.declared.service.EndTold.TheVariants as tells

-- what was told is followed by what was made
abbrev pub Tells : List Event → List Event → (List Event → Type 0) → Type 0
Tells old new Made = (made : List Event) × (new ≡ old ++ made) × Made made

-- the event is that of a call on the end; what an accept agrees on and which credit is in force may differ from what was asked
abbrev pub IsOwn : ℕ → UserCall → Event → Type 0
IsOwn end (asks.Accept asked octets) event = (agreed : Options) × (event ≡ events.End end (tells.Accept agreed octets))
IsOwn end (asks.Refuse octets) event = event ≡ events.Refuse end octets
IsOwn end (asks.Normal octets) event = event ≡ events.Data end octets
IsOwn end (asks.Urgent octets) event = event ≡ events.Expedite end octets
IsOwn end (asks.Window credit) event = (granted : ℕ) × (event ≡ events.End end (tells.Window granted))
IsOwn end (asks.Disconnect octets) event = event ≡ events.Disconnect end octets

-- the event is told beside a call: a number that is held back, a unit that the network does not take, and what the network tells of frames
abbrev pub IsAside : Event → Type 0
IsAside (events.End end (tells.Held kind number)) = Unit {0}
IsAside (events.Dropped system cause) = Unit {0}
IsAside (events.Net note) = Unit {0}
IsAside event = ⊥

-- nothing but a refusal
abbrev pub IsRefusal : List Event → Type 0
IsRefusal made = (cause : Refused) × (made ≡ events.No cause ∷ [])

-- a call that is done tells its own event first, and beside it only what `IsAside` says; one that is not done tells a refusal
abbrev pub ToldBy : ℕ → UserCall → Bool → List Event → Type 0
ToldBy end call true made = (own : Event) × (rest : List Event) × (made ≡ own ∷ rest) × IsOwn end call own × AllByRecursion IsAside rest
ToldBy end call false made = IsRefusal made

-- a request that is done makes the next end
abbrev pub ConnectedBy : ℕ → Bool → List Event → Type 0
ConnectedBy end true made = (asked : Request) × (rest : List Event) × (made ≡ events.Connect asked ∷ rest) × (asked.end ≡ end) × AllByRecursion IsAside rest
ConnectedBy end false made = IsRefusal made

-- how many ends there are after a request
abbrev pub ends_more : ℕ → Bool → ℕ
ends_more ends true = ends + 1
ends_more ends false = ends

module _ {S : Type 0} (has : S → ℕ → Type 0) (ends : S → ℕ) (honest : S → Bool) (connects : S → ℕ → ConnectRequest → Bool → List Event → S → Type 0)
    (calls : S → ℕ → UserCall → Bool → List Event → S → Type 0) where
  pub record IsService : Type 0 where
    pub connected : (old : S) (system : ℕ) (request : ConnectRequest) (done : Bool) (made : List Event) (new : S) → connects old system request done made new → ConnectedBy (ends old + 1) done made
    pub counted : (old : S) (system : ℕ) (request : ConnectRequest) (done : Bool) (made : List Event) (new : S) → connects old system request done made new → ends new ≡ ends_more (ends old) done
    pub connect_has : (old : S) (system : ℕ) (request : ConnectRequest) (done : Bool) (made : List Event) (new : S) → connects old system request done made new → (other : ℕ) → has old other → has new other
    pub connect_honest : (old : S) (system : ℕ) (request : ConnectRequest) (done : Bool) (made : List Event) (new : S) → connects old system request done made new → honest new ≡ honest old
    pub told : (old : S) (end : ℕ) (call : UserCall) (done : Bool) (made : List Event) (new : S) → calls old end call done made new → ToldBy end call done made
    pub call_ends : (old : S) (end : ℕ) (call : UserCall) (done : Bool) (made : List Event) (new : S) → calls old end call done made new → ends new ≡ ends old
    pub call_has : (old : S) (end : ℕ) (call : UserCall) (done : Bool) (made : List Event) (new : S) → calls old end call done made new → (other : ℕ) → has old other → has new other
    pub call_honest : (old : S) (end : ℕ) (call : UserCall) (done : Bool) (made : List Event) (new : S) → calls old end call done made new → honest new ≡ honest old
