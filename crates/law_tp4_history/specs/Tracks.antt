-- A history with the line of each end towards its partner: the units, and both halves between them (X.224, class 4: data transfer).
use Rattle.std.specs.Prelude.{◌≡◌, ℕ, ◌<◌, Bool, true, false, ◌==◌, if◌then◌else◌, List, [], ◌∷◌, length, get_or, Option, Some, None, Contains}
use Rattle.tp4_number.specs.declared.piece.Piece.{Piece}
use Rattle.tp4_number.specs.Traffic.{Rules, IsFit as IsLong, Event, Tick as Ticks_on, Open, Send, Resend, Dt_comes, Grant, Acknowledge, Ak_comes, May as MayFlow, ReadsRightly, KeepsRule}
use Rattle.tp4_number.specs.Expedited.{UrgentEvent, Ticks, Sends_ed, Resends_ed, Ed_comes, Ea_comes, MayUrgent, IsAlone, ObeysRule}
use Rattle.tp4_sending.specs.Pieces.{cut_at}
use Rattle.script_journal.specs.Lawful.{normals, expediteds, IsQueue}
use Rattle.law_tp4_history.specs.Ends.{Times, Terms, Flow, Body, Plain, Dt, Ed, Ak, Ea, Sent, Offer, End}
use Rattle.law_tp4_history.specs.History.{History, nothing, IsPartner, Step, Tick, Connect, Indicate, Reply, Take, Act, Release, Restart, Note, May, next}
use Rattle.law_tp4_history.specs.Line.{Line, Happening, Submit, Clock, Flows, Expedites, IsUnit, CarriesPiece, CarriesUnit, Runs, next as next_line, empty}

-- the line of an end towards its partner, with what it began with: the rules of numbers, the most octets of a piece, and what `empty` takes
pub record Track : Type 0 where
  pub is_begun : Bool
  pub rules : Rules
  pub size : ℕ
  pub tick : ℕ
  pub credit : ℕ
  pub places : ℕ
  pub room : ℕ
  pub line : Line

-- it begins as the called end agrees
pub record Starts (times : Times) (clock : ℕ) (t : Track) : Type 0 where
  pub begun : t.is_begun ≡ true
  pub long : IsLong t.rules
  pub life : t.rules.life ≡ times.life
  pub some : 0 < t.size
  pub credit_low : t.credit < t.rules.block
  pub room_low : t.room < t.rules.block
  pub tick : t.tick ≡ clock
  pub line : t.line ≡ empty t.tick t.credit t.places t.room

-- the clocks of a line, of its DTs and of its EDs
abbrev pub IsAt : ℕ → Line → Type 0
IsAt clock l = (l.world.clock ≡ clock) × (l.urgent.clock ≡ clock)

-- a line that has begun came from its start by what may happen in it, and its clocks are those of the network
pub record IsRun (times : Times) (clock : ℕ) (t : Track) : Type 0 where
  pub long : IsLong t.rules
  pub life : t.rules.life ≡ times.life
  pub some : 0 < t.size
  pub credit_low : t.credit < t.rules.block
  pub room_low : t.room < t.rules.block
  pub happenings : List Happening
  pub runs : Runs t.rules t.size (empty t.tick t.credit t.places t.room) happenings t.line
  pub at : IsAt clock t.line

-- what an end may do to its own line: it takes an AK or an EA only as it comes
abbrev pub CanFlowOut : Option Offer → Track → Line → Event → Type 0
CanFlowOut taken t l Ticks_on = ⊥
CanFlowOut taken t l (Open credit) = MayFlow t.rules l.world (Open credit)
CanFlowOut taken t l Send = MayFlow t.rules l.world Send × CarriesPiece t.size l Send
CanFlowOut taken t l (Resend n) = MayFlow t.rules l.world (Resend n)
CanFlowOut taken t l (Dt_comes n tick piece) = ⊥
CanFlowOut taken t l (Grant credit) = ⊥
CanFlowOut taken t l Acknowledge = ⊥
CanFlowOut taken t l (Ak_comes a) = (o : Offer) × (taken ≡ Some o) × (o.tpdu.kind ≡ Flow) × (o.tpdu.body ≡ Ak a.number a.credit a.subsequence) × (o.tick ≡ a.tick)

-- and to its EDs and EAs
abbrev pub CanExpediteOut : Option Offer → Track → Line → UrgentEvent → Type 0
CanExpediteOut taken t l Ticks = ⊥
CanExpediteOut taken t l Sends_ed = MayUrgent t.rules l.urgent Sends_ed × CarriesUnit l Sends_ed
CanExpediteOut taken t l Resends_ed = MayUrgent t.rules l.urgent Resends_ed
CanExpediteOut taken t l (Ed_comes n tick) = ⊥
CanExpediteOut taken t l (Ea_comes n tick) = (o : Offer) × (taken ≡ Some o) × (o.tpdu.kind ≡ Flow) × (o.tpdu.body ≡ Ea n) × (o.tick ≡ tick)

-- and all in all
abbrev pub CanOut : Option Offer → Track → Line → Happening → Type 0
CanOut taken t l (Submit unit) = IsUnit unit
CanOut taken t l Clock = ⊥
CanOut taken t l (Flows event) = CanFlowOut taken t l event
CanOut taken t l (Expedites event) = CanExpediteOut taken t l event

-- what an end may do to the line of its partner: it takes a DT or an ED only as it comes
abbrev pub CanFlowIn : Option Offer → Track → Line → Event → Type 0
CanFlowIn taken t l Ticks_on = ⊥
CanFlowIn taken t l (Open credit) = ⊥
CanFlowIn taken t l Send = ⊥
CanFlowIn taken t l (Resend n) = ⊥
CanFlowIn taken t l (Dt_comes n tick piece) = (o : Offer) × (taken ≡ Some o) × (o.tpdu.kind ≡ Flow) × (o.tpdu.body ≡ Dt n piece) × (o.tick ≡ tick)
CanFlowIn taken t l (Grant credit) = MayFlow t.rules l.world (Grant credit)
CanFlowIn taken t l Acknowledge = record {}
CanFlowIn taken t l (Ak_comes a) = ⊥

-- and to the EDs and EAs of it
abbrev pub CanExpediteIn : Option Offer → Track → Line → UrgentEvent → Type 0
CanExpediteIn taken t l Ticks = ⊥
CanExpediteIn taken t l Sends_ed = ⊥
CanExpediteIn taken t l Resends_ed = ⊥
CanExpediteIn taken t l (Ed_comes n tick) = (o : Offer) × (taken ≡ Some o) × (o.tpdu.kind ≡ Flow) × ((octets : List ℕ) × (o.tpdu.body ≡ Ed n octets)) × (o.tick ≡ tick)
CanExpediteIn taken t l (Ea_comes n tick) = ⊥

-- and all in all
abbrev pub CanIn : Option Offer → Track → Line → Happening → Type 0
CanIn taken t l (Submit unit) = ⊥
CanIn taken t l Clock = ⊥
CanIn taken t l (Flows event) = CanFlowIn taken t l event
CanIn taken t l (Expedites event) = CanExpediteIn taken t l event

-- what can be done in this order leads from one line to the other
abbrev pub RunsBy : (Track → Line → Happening → Type 0) → Track → Line → List Happening → Line → Type 0
RunsBy can t old [] new = new ≡ old
RunsBy can t old (happening ∷ happenings) new = can t old happening × RunsBy can t (next_line t.rules old happening) happenings new

-- a line goes on by what can be done to it
pub record GoesOn (can : Track → Line → Happening → Type 0) (old new : Track) : Type 0 where
  pub begun : old.is_begun ≡ true
  pub same : new ≡ record old { line = new.line }
  pub happenings : List Happening
  pub runs : RunsBy can old old.line happenings new.line

-- a history, and the lines of its ends
pub record Whole : Type 0 where
  pub base : History
  pub track : ℕ → Track

-- the line of y is another one
abbrev pub set_track : (ℕ → Track) → ℕ → Track → ℕ → Track
set_track track y new k = if k == y then new else track k

-- what lines do in a step of an end: nothing; those of the end and of its caller begin; those of the end and of its partner go on
pub data Doing : Type 0 where
  Nothing : Doing
  Start : (caller : ℕ) → (own theirs : Track) → Doing
  Go : (partner : ℕ) → (own theirs : Track) → Doing

-- the lines after it
abbrev pub done : (ℕ → Track) → ℕ → Doing → ℕ → Track
done track y Nothing = track
done track y (Start z own theirs) = set_track (set_track track y own) z theirs
done track y (Go z own theirs) = set_track (set_track track y own) z theirs

-- a called end agrees now
pub record Accepted (old new : End) : Type 0 where
  pub called : old.birth.is_called ≡ true
  pub before : old.agreed ≡ None
  pub terms : Terms
  pub now : new.agreed ≡ Some terms

-- when lines may do so in a step of y, which leads to `new` and takes that offer or none
abbrev pub MayDo : Times → Whole → ℕ → End → Option Offer → Doing → Type 0
MayDo times w y new taken Nothing = record {}
MayDo times w y new taken (Start z own theirs) =
    IsPartner w.base y z × Accepted (w.base.end y) new × Starts times w.base.clock own × Starts times w.base.clock theirs
MayDo times w y new taken (Go z own theirs) = IsPartner w.base y z × GoesOn (CanOut taken) (w.track y) own × GoesOn (CanIn taken) (w.track z) theirs

-- an offer of x with that body stands in the lines
abbrev pub Noted : History → (ℕ → Track) → ℕ → ℕ → Body → Type 0
Noted h track x tick Plain = record {}
Noted h track x tick (Dt n piece) = ((track x).is_begun ≡ true) × Contains (track x).line.world.sends (n, tick) × (cut_at (track x).size (normals (track x).line.submitted) n ≡ Some piece)
Noted h track x tick (Ed n octets) = ((track x).is_begun ≡ true) × Contains (track x).line.urgent.sends (n, tick) × (n < length (expediteds (track x).line.submitted)) × (octets ≡ get_or (expediteds (track x).line.submitted) n [])
Noted h track x tick (Ak n credit subsequence) = (z : ℕ) × IsPartner h x z × ((track z).is_begun ≡ true) × Contains (track z).line.world.answers (record { number = n; credit = credit; subsequence = subsequence; tick = tick })
Noted h track x tick (Ea n) = (z : ℕ) × IsPartner h x z × ((track z).is_begun ≡ true) × Contains (track z).line.urgent.answers (n, tick)

-- the clock of a line moves
abbrev pub clocked : Track → Track
clocked t = record t { line = next_line t.rules t.line Clock }

-- a step, with what lines do in it
pub record Moment : Type 0 where
  pub step : Step
  pub doing : Doing

-- the lines after a step
abbrev pub tracks : Whole → Step → Doing → ℕ → Track
tracks w Tick doing k = clocked (w.track k)
tracks w (Connect e offered) doing k = w.track k
tracks w (Indicate o e) doing k = w.track k
tracks w (Reply o answer) doing k = w.track k
tracks w (Take y o tpdu new offered) doing k = done w.track y doing k
tracks w (Act y new offered) doing k = done w.track y doing k
tracks w (Release y) doing k = w.track k
tracks w (Restart address) doing k = w.track k
tracks w Note doing k = w.track k

-- when lines may do so in a step; each offer of the step then stands in the lines
abbrev pub MayAll : Times → Whole → Step → Doing → Type 0
MayAll times w Tick doing = record {}
MayAll times w (Connect e offered) doing = record {}
MayAll times w (Indicate o e) doing = record {}
MayAll times w (Reply o answer) doing = record {}
MayAll times w (Take y o tpdu new offered) doing = MayDo times w y new (Some o) doing × ((p : Offer) → Contains offered p → Noted w.base (done w.track y doing) y w.base.clock p.tpdu.body)
MayAll times w (Act y new offered) doing = MayDo times w y new None doing × ((p : Offer) → Contains offered p → Noted w.base (done w.track y doing) y w.base.clock p.tpdu.body)
MayAll times w (Release y) doing = record {}
MayAll times w (Restart address) doing = record {}
MayAll times w Note doing = record {}

-- the history and the lines after a moment
abbrev pub onward : Times → Whole → Moment → Whole
onward times w m = record { base = next times w.base m.step; track = tracks w m.step m.doing }

-- these moments can follow one another, and lead from one to the other
abbrev pub LeadsAll : Times → Whole → List Moment → Whole → Type 0
LeadsAll times old [] new = new ≡ old
LeadsAll times old (m ∷ ms) new = (May times old.base m.step × MayAll times old m.step m.doing) × LeadsAll times (onward times old m) ms new

-- nothing ever was, and no line has begun
pub record IsNothing (w : Whole) : Type 0 where
  pub end : ℕ → End
  pub base : w.base ≡ nothing end
  pub none : (k : ℕ) → (w.track k).is_begun ≡ false

-- moments lead to it from nothing
abbrev pub ReachedAll : Times → Whole → Type 0
ReachedAll times w = (old : Whole) × IsNothing old × (moments : List Moment) × LeadsAll times old moments w

-- what an end shows is what its partner submitted, and a DT or an ED that an end offered carries what its number says
pub record IsTold (times : Times) (w : Whole) : Type 0 where
  pub lawful : (x : ℕ) → (w.track x).is_begun ≡ true → IsQueue (w.track x).line.submitted (w.track x).line.shown
  pub dt : (x n : ℕ) (piece : Piece) (o : Offer) → Contains w.base.offers o → o.origin ≡ Sent x → o.tpdu.body ≡ Dt n piece → cut_at (w.track x).size (normals (w.track x).line.submitted) n ≡ Some piece
  pub ed : (x n : ℕ) (octets : List ℕ) (o : Offer) → Contains w.base.offers o → o.origin ≡ Sent x → o.tpdu.body ≡ Ed n octets → octets ≡ get_or (expediteds (w.track x).line.submitted) n []

-- of each line: it has the clock of the history; each DT, AK, ED and EA afloat is read for the number that it was sent with; what the sender keeps of
-- blocks, of DTs and of EDs, says what the number rule says. And each flow TPDU that an end offered stands in the lines
pub record IsNumbered (times : Times) (w : Whole) : Type 0 where
  pub clock : (x : ℕ) → (w.track x).is_begun ≡ true → ((w.track x).line.world.clock ≡ w.base.clock) × ((w.track x).line.urgent.clock ≡ w.base.clock) × ((w.track x).rules.life ≡ times.life)
  pub read : (x : ℕ) → (w.track x).is_begun ≡ true → ReadsRightly (w.track x).rules (w.track x).line.world
  pub kept : (x : ℕ) → (w.track x).is_begun ≡ true → KeepsRule (w.track x).rules (w.track x).line.world
  pub alone : (x : ℕ) → (w.track x).is_begun ≡ true → IsAlone (w.track x).rules (w.track x).line.urgent
  pub obeys : (x : ℕ) → (w.track x).is_begun ≡ true → ObeysRule (w.track x).rules (w.track x).line.urgent
  pub noted : (o : Offer) (x : ℕ) → Contains w.base.offers o → o.origin ≡ Sent x → Noted w.base w.track x o.tick o.tpdu.body
