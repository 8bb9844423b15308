-- Both halves of an end in the lines of its connection: its sending half in its own line, its receiving half in that of its partner
-- (X.224, class 4: retention until acknowledgement, sequencing, expedited data; X.214, queue model).
use Rattle.std.specs.Prelude.{◌≡◌, ℕ, ◌+◌, ◌<◌, ◌≤◌, true, List, [], ◌∷◌, ◌++◌, length, get_or, Option, Some, Contains}
use Rattle.std.specs.List.{sum_by}
use Rattle.tpdu.specs.declared.tpdu.Format.{Format}
use Rattle.tpdu.specs.declared.tpdu.Tpdu.{Tpdu as WireTpdu}
use Rattle.tpdu.specs.declared.tpdu.Tpdu.TheVariants as wires
use Rattle.script_journal.specs.Lawful.{Marked, Normal, Expedited, normals, expediteds}
use Rattle.tp4_number.specs.Formats.{block_of}
use Rattle.tp4_flow.specs.ReceivingHalf.{Half, empty, block_in as block_there}
use Rattle.tpdu.specs.declared.service.Options.{Options}
use Rattle.tp4_flow.specs.declared.step.EndEvent.{EndEvent}
use Rattle.tp4_flow.specs.declared.step.Sent.{Sent}
use Rattle.tp4_flow.specs.declared.step.What.{What}
use Rattle.tp4_flow.specs.declared.step.What.TheVariants as whats
use Rattle.tp4_sending.specs.SendingHalf.{FlowSender, fresh, block_in}
use Rattle.tp4_sending.specs.Kept.{urgent_base}
use Rattle.tp4_sending.specs.Pieces.{count_in, cut_at}
use Rattle.tp4_conn.specs.declared.end_record.EndRecord.{EndRecord}
use Rattle.tp4_conn.specs.declared.call.UserCall.TheVariants as calls
use Rattle.tp4_conn.specs.declared.halves.Halves.{Halves}
use Rattle.tp4_conn.specs.declared.states.StateData.{StateData}
use Rattle.tp4_conn.specs.declared.states.StateData.TheVariants.{CrWait, UserWait, AkWait, Opened}
use Rattle.tp4_conn.specs.Agreeing.{flow_rules, options_in}
use Rattle.tp4_conn.specs.End.{Moved, agreed_format}
use Rattle.tp4_conn.specs.Table.{Event, Called, Took, Ticked}
use Rattle.law_tp4_history.specs.Ends.{Times, Terms, Body, Plain, Dt, Ed, Ak, Ea, Offer}
use Rattle.law_tp4_history.specs.Tracks.{Track, Starts, CanOut, CanIn, GoesOn}
use Rattle.law_tp4_history.specs.Seen.{terms_of, seen, IsNumbered, AreOffersOf}
use Rattle.tpdu.specs.declared.service.EndTold.TheVariants as tells

-- ---- where halves stand

-- the line has this sending half: its numbers; and of the units submitted the half keeps those that are not wholly acknowledged
pub record IsSendingAt (s : FlowSender) (t : Track) : Type 0 where
  pub begun : t.is_begun ≡ true
  pub block : t.rules.block ≡ block_in s
  pub limit : t.rules.limit ≡ s.rules.limit
  pub size : t.size ≡ s.rules.piece
  pub numbers : t.line.world.sender ≡ s.numbers
  pub window : length s.window + s.numbers.base ≡ s.numbers.next
  pub first : s.queue.first ≤ s.numbers.base
  pub acknowledged : List (List ℕ)
  pub normal : normals t.line.submitted ≡ acknowledged ++ s.queue.units
  pub pieces : s.queue.first ≡ sum_by (count_in s.rules.piece) acknowledged
  pub next : t.line.urgent.next ≡ s.urgent.next
  pub blocks : t.line.urgent.blocks ≡ s.urgent.blocks
  pub base : urgent_base s.urgent s.urgent.out t.line.urgent.base
  pub answered : List (List ℕ)
  pub expedited : expediteds t.line.submitted ≡ answered ++ s.urgent.units
  pub answers : length answered ≡ t.line.urgent.base
  pub sent : s.urgent.next ≤ length (expediteds t.line.submitted)

-- the line has this receiving half
pub record IsReceivingAt (h : Half) (t : Track) : Type 0 where
  pub begun : t.is_begun ≡ true
  pub block : t.rules.block ≡ block_there h
  pub expected : t.line.world.receiver.expected ≡ h.receiver.expected
  pub inbox : t.line.world.receiver.inbox ≡ h.receiver.inbox
  pub urgent : t.line.urgent.expected ≡ h.receiver.urgent

-- the halves of an end that agreed on this format
pub record AreHalvesAt (format : Format) (h : Halves) (own theirs : Track) : Type 0 where
  pub sending : IsSendingAt h.sending own
  pub receiving : IsReceivingAt h.receiving theirs
  pub own_block : own.rules.block ≡ block_of format
  pub their_block : theirs.rules.block ≡ block_of format

-- the halves that a calling end will have, on the terms of the called end
pub record AreUntouched (terms : Terms) (b : EndRecord) (own theirs : Track) : Type 0 where
  pub options : Options
  pub terms_are : terms_of options ≡ terms
  pub credit : ℕ
  pub sending : IsSendingAt (fresh (flow_rules b options) credit) own
  pub receiving : IsReceivingAt (empty (flow_rules b options) b.timers.credit) theirs

-- An end by its state. Both lines begin as the called end accepts, on these terms
abbrev pub Stands : Terms → EndRecord → StateData → Track → Track → Type 0
Stands terms b (CrWait w) own theirs = own.is_begun ≡ true → AreUntouched terms b own theirs
Stands terms b (UserWait since) own theirs = b.credit ≤ 15
Stands terms b (AkWait w) own theirs = AreHalvesAt (agreed_format b.agreed) w.halves own theirs
Stands terms b (Opened o) own theirs = AreHalvesAt (agreed_format b.agreed) o.halves own theirs
Stands terms b stage own theirs = Unit {0}

-- both clocks of a line are at this tick
pub record IsAt (now : ℕ) (t : Track) : Type 0 where
  pub world : t.line.world.clock ≡ now
  pub urgent : t.line.urgent.clock ≡ now

-- once it has begun
abbrev pub IsTimely : ℕ → Track → Type 0
IsTimely now t = t.is_begun ≡ true → IsAt now t

-- ---- what comes

-- an ED carries the unit of its number
abbrev pub CarriesItsUnit : ℕ → WireTpdu → Track → Type 0
CarriesItsUnit n (wires.Ed destination last number text) theirs = text ≡ get_or (expediteds theirs.line.submitted) n []
CarriesItsUnit n other theirs = Unit {0}

-- the offer that was taken is read as this TPDU
pub record IsHeard (format : Format) (taken : Option Offer) (tpdu : WireTpdu) (theirs : Track) : Type 0 where
  pub n : ℕ
  pub numbered : IsNumbered (block_of format) n tpdu
  pub offer : Offer
  pub is : taken ≡ Some offer
  pub seen_as : offer.tpdu ≡ seen n tpdu
  pub unit : CarriesItsUnit n tpdu theirs

-- a CC says on what the called end agreed
abbrev pub Confirms : Terms → WireTpdu → Track → Type 0
Confirms terms (wires.Cc credit destination source width calling called size preferred extra version classes ack_time text) own =
    (own.is_begun ≡ true) × (terms_of (options_in width size preferred extra) ≡ terms)
Confirms terms other own = Unit {0}

-- what has to be known of a TPDU, by the state
abbrev pub IsKnownTpdu : Terms → EndRecord → StateData → Option Offer → WireTpdu → Track → Track → Type 0
IsKnownTpdu terms b (CrWait w) taken tpdu own theirs = Confirms terms tpdu own
IsKnownTpdu terms b (AkWait w) taken tpdu own theirs = IsHeard (agreed_format b.agreed) taken tpdu theirs
IsKnownTpdu terms b (Opened o) taken tpdu own theirs = IsHeard (agreed_format b.agreed) taken tpdu theirs
IsKnownTpdu terms b stage taken tpdu own theirs = Unit {0}

-- and of an event
abbrev pub IsKnownEvent : Terms → EndRecord → StateData → Option Offer → Event → Track → Track → Type 0
IsKnownEvent terms b stage taken (Called call) own theirs = Unit {0}
IsKnownEvent terms b stage taken (Took tpdu sum) own theirs = IsKnownTpdu terms b stage taken tpdu own theirs
IsKnownEvent terms b stage taken Ticked own theirs = Unit {0}

-- ---- what is submitted, shown and sent

-- the unit that a call submits
abbrev pub given : Event → List Marked
given (Called (calls.Normal unit)) = Normal unit ∷ []
given (Called (calls.Urgent unit)) = Expedited unit ∷ []
given other = []

-- the units that events show
abbrev pub shown_as : What → List Marked
shown_as (whats.End (tells.Got unit)) = Normal unit ∷ []
shown_as (whats.End (tells.Urgent unit)) = Expedited unit ∷ []
shown_as other = []

abbrev pub shown_in : List EndEvent → List Marked
shown_in [] = []
shown_in (event ∷ events) = shown_as event.what ++ shown_in events

-- what is sent at a tick stands in the lines: a DT and an ED with what they carry in the own one, an AK and an EA in that of the partner
abbrev pub IsIn : Track → Track → ℕ → Body → Type 0
IsIn own theirs tick Plain = Unit {0}
IsIn own theirs tick (Dt n piece) =
    (own.is_begun ≡ true) × Contains own.line.world.sends (n, tick) × (cut_at own.size (normals own.line.submitted) n ≡ Some piece)
IsIn own theirs tick (Ed n octets) =
    (own.is_begun ≡ true) × Contains own.line.urgent.sends (n, tick) × (n < length (expediteds own.line.submitted)) × (octets ≡ get_or (expediteds own.line.submitted) n [])
IsIn own theirs tick (Ak n credit subsequence) =
    (theirs.is_begun ≡ true) × Contains theirs.line.world.answers (record { number = n; credit = credit; subsequence = subsequence; tick = tick })
IsIn own theirs tick (Ea n) = (theirs.is_begun ≡ true) × Contains theirs.line.urgent.answers (n, tick)

-- so does a TPDU, with its number
pub record IsSentIn (own theirs : Track) (tick : ℕ) (sent : Sent) : Type 0 where
  pub n : ℕ
  pub numbered : IsNumbered (block_of sent.format) n sent.tpdu
  pub stands : IsIn own theirs tick (seen n sent.tpdu).body

abbrev pub AreSentIn : Track → Track → ℕ → List Sent → Type 0
AreSentIn own theirs tick [] = Unit {0}
AreSentIn own theirs tick (sent ∷ tpdus) = IsSentIn own theirs tick sent × AreSentIn own theirs tick tpdus

-- no DT, ED, AK or EA
abbrev pub ArePlain : List Sent → Type 0
ArePlain [] = Unit {0}
ArePlain (sent ∷ tpdus) = ((n : ℕ) → (seen n sent.tpdu).body ≡ Plain) × ArePlain tpdus

-- there are offers of these TPDUs, and of what each carries this holds
pub record AreOffered (clock number : ℕ) (own : List ℕ) (tpdus : List Sent) (holds : Body → Type 0) : Type 0 where
  pub offers : List Offer
  pub are : AreOffersOf clock number own tpdus offers
  pub each : (o : Offer) → Contains offers o → holds o.tpdu.body

-- ---- what a row does to the lines

-- nothing: no unit is submitted, shown or sent
pub record LinesStay (terms : Terms) (event : Event) (m : Moved) (own theirs : Track) : Type 0 where
  pub stands : Stands terms m.base m.stage own theirs
  pub gave : given event ≡ []
  pub showed : shown_in m.events ≡ []
  pub plain : ArePlain m.tpdus

-- both begin as a called end is accepted, and the calling end can agree on the same
pub record LinesBegin (times : Times) (terms : Terms) (now : ℕ) (old : StateData) (event : Event) (m : Moved) : Type 0 where
  pub since : ℕ
  pub waited : old ≡ UserWait since
  pub own : Track
  pub theirs : Track
  pub own_starts : Starts times now own
  pub they_start : Starts times now theirs
  pub stands : Stands terms m.base m.stage own theirs
  pub options : Options
  pub agreed : m.base.agreed ≡ Some options
  pub untouched : (b : EndRecord) → b.timers ≡ m.base.timers → AreUntouched (terms_of options) b theirs own
  pub own_clocks : IsAt now own
  pub their_clocks : IsAt now theirs
  pub gave : given event ≡ []
  pub showed : shown_in m.events ≡ []
  pub plain : ArePlain m.tpdus

-- both go on: the own one has what the user submits, the other one what the end shows
pub record LinesGoOn (terms : Terms) (now : ℕ) (taken : Option Offer) (event : Event) (m : Moved) (old_own old_theirs : Track) : Type 0 where
  pub own : Track
  pub theirs : Track
  pub own_goes : GoesOn (CanOut taken) old_own own
  pub they_go : GoesOn (CanIn taken) old_theirs theirs
  pub stands : Stands terms m.base m.stage own theirs
  pub own_clocks : IsAt now own
  pub their_clocks : IsAt now theirs
  pub gave : own.line.submitted ≡ old_own.line.submitted ++ given event
  pub showed : theirs.line.shown ≡ old_theirs.line.shown ++ shown_in m.events
  pub sent : AreSentIn own theirs now m.tpdus

-- one of these
pub data Flowed (times : Times) (terms : Terms) (now : ℕ) (taken : Option Offer) (old : StateData) (event : Event) (m : Moved) (own theirs : Track) : Type 0 where
  Still : LinesStay terms event m own theirs → Flowed times terms now taken old event m own theirs
  Begun : LinesBegin times terms now old event m → Flowed times terms now taken old event m own theirs
  Going : LinesGoOn terms now taken event m own theirs → Flowed times terms now taken old event m own theirs
