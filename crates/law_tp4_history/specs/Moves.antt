-- How an end of a connection is seen in a history, and that its steps are moves there (X.224, class 4 state tables; frozen references).
use Rattle.std.specs.Prelude.{◌≡◌, ◌≢◌, ◌≤◌, ℕ, ◌+◌, ◌-◌, ◌*◌, Bool, true, false, ◌&&◌, not, List, Option, Some, None, option_map, if◌then◌else◌}
use Rattle.tpdu.specs.declared.service.Options.{Options}
use Rattle.tp4_sending.specs.declared.tries.Tries.{Tries}
use Rattle.tp4_conn.specs.declared.end_record.EndRecord.{EndRecord}
use Rattle.tp4_conn.specs.declared.halves.Halves.{Halves}
use Rattle.tp4_conn.specs.declared.states.InAkWait.{InAkWait}
use Rattle.tp4_conn.specs.declared.states.InOpened.{InOpened}
use Rattle.tp4_conn.specs.declared.states.InClosing.{InClosing}
use Rattle.tp4_conn.specs.declared.states.InCrWait.{InCrWait}
use Rattle.tp4_conn.specs.declared.states.StateData.{StateData}
use Rattle.tp4_conn.specs.declared.states.StateData.TheVariants as stages
use Rattle.tp4_conn.specs.declared.timers.Timers.{Timers}
use Rattle.tp4_conn.specs.Agreeing.{flow_rules}
use Rattle.tp4_conn.specs.End.{End as ConnEnd, Moved, IsTimed, end_of, span}
use Rattle.tp4_conn.specs.Living.{IsInTime}
use Rattle.tp4_conn.specs.Matching.{wants_sum}
use Rattle.tp4_conn.specs.Table.{Event, Called, Took as Heard, Ticked}
use Rattle.law_tp4_history.specs.Ends.{Times, Cc, Tpdu, Offer, Phase, CrWait, WaitBeforeClose, UserWait, AkWait, Opened, Closing, Frozen, Birth, End, Cause, Alone, Took, IsMove}
use Rattle.law_tp4_history.specs.Seen.{terms_of, seen, AreOffersOf}

-- the times of these timers
abbrev pub times_of : Timers → Times
times_of t = record { life = t.life; idle = t.inactive; span = span t; most = (t.sendings - 1) * t.t1 }

-- the state of an end
abbrev pub phase_of : StateData → Phase
phase_of (stages.CrWait w) = CrWait
phase_of (stages.WaitBeforeClose w) = WaitBeforeClose
phase_of (stages.UserWait since) = UserWait
phase_of (stages.AkWait w) = AkWait
phase_of (stages.Opened o) = Opened
phase_of (stages.Closing c) = Closing
phase_of (stages.Frozen when) = Frozen

-- the tick at which it froze
abbrev pub stop_of : StateData → Option ℕ
stop_of (stages.CrWait w) = None
stop_of (stages.WaitBeforeClose w) = None
stop_of (stages.UserWait since) = None
stop_of (stages.AkWait w) = None
stop_of (stages.Opened o) = None
stop_of (stages.Closing c) = None
stop_of (stages.Frozen when) = Some when

-- it has offered a DR with its reference in Closing, and where it froze there
abbrev pub IsPartedIn : StateData → Bool → Type 0
IsPartedIn (stages.CrWait w) parted = parted ≡ false
IsPartedIn (stages.WaitBeforeClose w) parted = parted ≡ false
IsPartedIn (stages.UserWait since) parted = parted ≡ false
IsPartedIn (stages.AkWait w) parted = parted ≡ false
IsPartedIn (stages.Opened o) parted = parted ≡ false
IsPartedIn (stages.Closing c) parted = parted ≡ true
IsPartedIn (stages.Frozen when) parted = Unit {0}

-- so many sendings, T1 apart at most, from that tick on
pub record AreTries (t : Timers) (from : ℕ) (tries : Tries) : Type 0 where
  pub runs : tries.last + t.t1 ≤ from + tries.count * t.t1
  pub few : tries.count ≤ t.sendings

-- both halves are those of the end and its partner, on what was agreed
pub record AreOwn (b : EndRecord) (halves : Halves) : Type 0 where
  pub terms : Options
  pub agreed : b.agreed ≡ Some terms
  pub sending : halves.sending.rules ≡ flow_rules b terms
  pub receiving : halves.receiving.rules ≡ flow_rules b terms

-- a calling end whose partner has not answered: N T1 from its first CR on
pub record IsRequesting (birth : Birth) (latest : ℕ) (b : EndRecord) (w : InCrWait) : Type 0 where
  pub calls : b.is_called ≡ false
  pub unknown : b.partner ≡ 0
  pub unagreed : b.agreed ≡ None
  pub octets : birth.words.octets ≡ w.octets
  pub tries : AreTries b.timers birth.made w.tries
  pub latest_is : latest ≡ birth.made + span b.timers

-- a called end whose user has not answered: for an answer I from the indication on, and N T1 after it
pub record IsAsked (birth : Birth) (latest : ℕ) (b : EndRecord) (since : ℕ) : Type 0 where
  pub called : b.is_called ≡ true
  pub known : b.partner ≢ 0
  pub unagreed : b.agreed ≡ None
  pub made : birth.made ≡ since
  pub latest_is : latest ≡ since + b.timers.inactive + span b.timers

-- a called end that sent a CC: N T1 from the first CC on
pub record IsAnswering (latest : ℕ) (b : EndRecord) (w : InAkWait) : Type 0 where
  pub called : b.is_called ≡ true
  pub known : b.partner ≢ 0
  pub halves : AreOwn b w.halves
  pub shut : w.halves.sending.is_open ≡ false
  pub tries : AreTries b.timers w.first w.tries
  pub latest_is : latest ≡ w.first + span b.timers

-- an open end: I from the last TPDU on, and N T1 after it
pub record IsOpened (took latest : ℕ) (b : EndRecord) (o : InOpened) : Type 0 where
  pub known : b.partner ≢ 0
  pub halves : AreOwn b o.halves
  pub took_is : o.took ≡ took
  pub latest_is : latest ≡ took + b.timers.inactive + span b.timers

-- an end that sent a DR: N T1 from where its time counts
pub record IsClosing (latest : ℕ) (b : EndRecord) (c : InClosing) : Type 0 where
  pub known : b.partner ≢ 0
  pub latest_is : latest ≡ c.from + span b.timers

-- what is seen of an end in its state, and by when it is frozen
abbrev pub IsSeenIn : Birth → ℕ → ℕ → EndRecord → StateData → Type 0
IsSeenIn birth took latest b (stages.CrWait w) = IsRequesting birth latest b w
IsSeenIn birth took latest b (stages.WaitBeforeClose w) = IsRequesting birth latest b w.request
IsSeenIn birth took latest b (stages.UserWait since) = IsAsked birth latest b since
IsSeenIn birth took latest b (stages.AkWait w) = IsAnswering latest b w
IsSeenIn birth took latest b (stages.Opened o) = IsOpened took latest b o
IsSeenIn birth took latest b (stages.Closing c) = IsClosing latest b c
IsSeenIn birth took latest b (stages.Frozen when) = Unit {0}

-- the tick by which an end acts in its state: it sends again, gives up its partner or its user, or freezes. Its halves may act earlier
abbrev pub acts_by : EndRecord → StateData → Option ℕ
acts_by b (stages.CrWait w) = Some (w.tries.last + b.timers.t1)
acts_by b (stages.WaitBeforeClose w) = Some (w.request.tries.last + b.timers.t1)
acts_by b (stages.UserWait since) = Some (since + b.timers.inactive)
acts_by b (stages.AkWait w) = Some (w.tries.last + b.timers.t1)
acts_by b (stages.Opened o) = Some (o.took + b.timers.inactive)
acts_by b (stages.Closing c) = Some (c.from + span b.timers)
acts_by b (stages.Frozen when) = None

-- at the tick now the end h of a history is what is seen of the end e
pub record Sees (times : Times) (now : ℕ) (h : End) (e : ConnEnd) : Type 0 where
  pub timers : IsTimed e.base.timers
  pub times_are : times ≡ times_of e.base.timers
  pub reference : h.birth.reference ≡ e.base.own
  pub partner : h.birth.partner ≡ e.base.to
  pub is_called : h.birth.is_called ≡ e.base.is_called
  pub calling : h.birth.words.calling ≡ e.base.calling
  pub called : h.birth.words.called ≡ e.base.called
  pub phase : h.phase ≡ phase_of e.stage
  pub stop : h.stop ≡ stop_of e.stage
  pub is_held : h.is_out ≡ false
  pub known : h.known ≡ e.base.partner
  pub agreed : h.agreed ≡ option_map terms_of e.base.agreed
  pub parted : IsPartedIn e.stage h.is_parted
  pub state : IsSeenIn h.birth h.took h.latest e.base e.stage
  pub timely : IsInTime (acts_by e.base e.stage) now

-- a CC has a source reference: 0 is none
abbrev pub HasSource : Tpdu → Type 0
HasSource tpdu = tpdu.kind ≡ Cc → tpdu.source ≢ 0

-- a CC that comes has one. The number of a TPDU that has one is n
abbrev pub IsSourced : ℕ → Event → Type 0
IsSourced n (Called call) = Unit {0}
IsSourced n (Heard tpdu sum) = HasSource (seen n tpdu)
IsSourced n Ticked = Unit {0}

-- what makes an end move, as it is seen: a TPDU that lacks its checksum is not taken. The number of a TPDU that has one is n
abbrev pub cause_of : ConnEnd → ℕ → Event → Cause
cause_of e n (Called call) = Alone
cause_of e n (Heard tpdu sum) = if wants_sum e.base e.stage tpdu && not sum then Alone else Took (seen n tpdu)
cause_of e n Ticked = Alone

-- what a row does is a move of the end h at the tick now, whatever its number in the history and the numbers of what it offers
pub record Moves (times : Times) (now : ℕ) (cause : Cause) (h : End) (m : Moved) : Type 0 where
  pub new : End
  pub sees : Sees times now new (end_of m)
  pub move : (number : ℕ) (offered : List Offer) → AreOffersOf now number h.birth.address m.tpdus offered → IsMove times now number cause h new offered
