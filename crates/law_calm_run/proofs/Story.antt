-- What stands beside a calm network: the associations of its ends, the numbers of these ends, and for each two ends of an association of which none has left
-- a pair that went from the accept to them (X.214, queue model; X.224, class 4: association of TPDUs with connections).
use Rattle.std.specs.Prelude.{◌≡◌, ◌≤◌, ◌<◌, ℕ, ◌+◌, Bool, true, false, List, [], ◌∷◌, ◌++◌, length, slice_get, Option, Some, None, unwrap_or}
use Rattle.script_journal.specs.Lawful.{shown, submitted}
use Rattle.script_journal.specs.Partner.{IsLatest, Partner}
use Rattle.script_journal.specs.declared.event.Event.{Event}
use Rattle.script_journal.specs.declared.event.Indication.{Indication}
use Rattle.script_journal.specs.declared.event.Request.{Request}
use Rattle.tpdu.specs.declared.service.Options.{Options}
use Rattle.tp4_flow.specs.declared.step.EndEvent.{EndEvent}
use Rattle.tp4_flow.specs.declared.step.Sent.{Sent}
use Rattle.tp4_conn.specs.End.{End, end_of}
use Rattle.tp4_conn.specs.declared.end_record.EndRecord.{EndRecord}
use Rattle.tp4_conn.specs.declared.call.UserCall.TheVariants.{Accept}
use Rattle.tp4_conn.specs.declared.states.InCrWait.{InCrWait}
use Rattle.tp4_conn.specs.declared.states.StateData.{StateData}
use Rattle.tp4_conn.specs.declared.states.StateData.TheVariants.{AkWait, CrWait, Opened, UserWait}
use Rattle.law_tp4_pair.specs.Pairs.{IsToldIn}
use Rattle.tp4_entity.specs.Step.{is_due}
use Rattle.law_tp4_history.specs.Lines.{shown_in}
use Rattle.law_tp4_pair.specs.Pair.{Accepts, Asks_called, Happening, Leads, Pair, next, tick_of}
use Rattle.law_tp4_pair.specs.Standing.{HasLeft}
use Rattle.tp4_world.specs.Run.{transport_address}
use Rattle.tp4_world.specs.World.{latest}
use Rattle.tp4_world.specs.declared.place.EndAt.{EndAt}
use Rattle.tp4_conn.specs.declared.timers.Timers.{Timers}
use Rattle.tp4_world.specs.declared.place.Placed.{Placed}
use Rattle.law_tp4_associations.specs.Standing.{Standing}
use Rattle.law_tp4_associations.specs.Association.{Association, Posted, party, system_of, waiting}
use Rattle.law_tp4_associations.specs.Phase.{IsInUse}
use Rattle.law_tp4_history.specs.Journals.{IsAside}
use Rattle.law_calm_run.proofs.Hall.{Goes, Hall, Post}

-- ---- what waits

-- the TPDUs that wait are those of the associations
abbrev pub ArePosts : List Association → List Posted → List Post → Type 0
ArePosts all [] posts = posts ≡ []
ArePosts all (posted ∷ queue) posts =
    (a : Association) × (rest : List Post) × (slice_get all posted.of ≡ Some a) × (posts ≡ record { system = system_of a posted.by; sent = posted.sent } ∷ rest) × ArePosts all queue rest

-- ---- numbers of ends

-- the number of the calling end (true) and of the called end of an association
abbrev pub Numbers : Type 0
Numbers = ℕ → Bool → Option ℕ

-- each association has its own numbers; that of an end that stands is the latest at its place
pub record AreNumbered (ends : List EndAt) (all : List Association) (number : Numbers) : Type 0 where
  pub caller : (k : ℕ) → k < length all → (n : ℕ) × (number k true ≡ Some n)
  pub party_is : (k : ℕ) (a : Association) (by : Bool) (end : End) → slice_get all k ≡ Some a → party a by ≡ Some end → number k by ≡ Some (latest ends (system_of a by) end.base.own)
  pub low : (k : ℕ) (by : Bool) (n : ℕ) → k < length all → number k by ≡ Some n → n ≤ length ends
  pub one : (k j : ℕ) (by other : Bool) (n : ℕ) → k < length all → j < length all → number k by ≡ Some n → number j other ≡ Some n → (k ≡ j) × (by ≡ other)

-- the latest request of that address and reference is that of this end
pub record IsLatestOf (journal : List Event) (address : List ℕ) (reference : ℕ) (number : Option ℕ) : Type 0 where
  pub place : ℕ
  pub asked : Request
  pub latest_is : IsLatest journal (length journal) place address reference asked
  pub number_is : number ≡ Some asked.end

-- two ends that are partners by the journal are those of one association
pub record AreLinked (own : ℕ → List ℕ) (journal : List Event) (all : List Association) (number : Numbers) : Type 0 where
  pub partners : (p q : ℕ) (heard : Indication) (asked : Request) → Partner journal p q heard asked
      → (k : ℕ) × (k < length all) × (number k true ≡ Some asked.end) × (number k false ≡ Some heard.end)
  pub latest_is : (k : ℕ) (a : Association) (x : End) → slice_get all k ≡ Some a → a.calling ≡ Some x → IsLatestOf journal (own a.from.system) a.from.reference (number k true)

-- ---- units

-- an end that has no halves yet: it waits for the answer, or for its user
abbrev pub IsYoung : StateData → Type 0
IsYoung (CrWait w) = Prim.Unit {0}
IsYoung (UserWait since) = Prim.Unit {0}
IsYoung stage = ⊥

-- the end of that number submitted and showed nothing
pub record HasNoUnits (journal : List Event) (n : ℕ) : Type 0 where
  pub gave : submitted n journal ≡ []
  pub showed : shown n journal ≡ []

-- two ends at that tick, what waits for them, what they told, and their units by the journal
abbrev pub pair_of : List Event → (now c d : ℕ) → (x y : End) → (forth back : List Sent) → (told theirs : List EndEvent) → Pair
pair_of journal now c d x y forth back told theirs = record {
  clock = now;
  calling = x;
  called = y;
  forth = forth;
  back = back;
  calling_gave = submitted c journal;
  called_gave = submitted d journal;
  calling_showed = shown c journal;
  called_showed = shown d journal;
  calling_told = told;
  called_told = theirs;
}

-- a pair went so far from its accept
pub record HasRun (last : Pair) : Type 0 where
  pub first : Pair
  pub asked : Options
  pub octets : List ℕ
  pub happenings : List Happening
  pub accepts : Accepts first asked
  pub leads : Leads (next first (Asks_called (Accept asked octets))) happenings last

-- a kind of pair of two ends, whose numbers are c and d
abbrev pub Runs : Type 1
Runs = List Event → (now c d : ℕ) → (x y : End) → (forth back : List Sent) → Type 0

-- the pair of the two ends went from its accept to this
pub record IsRunning (journal : List Event) (now c d : ℕ) (x y : End) (forth back : List Sent) : Type 0 where
  pub told : List EndEvent
  pub theirs : List EndEvent
  pub run : HasRun (pair_of journal now c d x y forth back told theirs)
  pub told_in : IsToldIn journal c told
  pub theirs_in : IsToldIn journal d theirs

-- what an end of a pair did within a tick: it ticked, or not yet
pub record HasTicked (earlier journal : List Event) (now n : ℕ) (was is : End) (told : List EndEvent) (sent : List Sent) : Type 0 where
  pub ticked : Bool
  pub is_now : is ≡ end_of (tick_of ticked now was)
  pub sent_is : sent ≡ (tick_of ticked now was).tpdus
  pub gave : submitted n journal ≡ submitted n earlier
  pub showed : shown n journal ≡ shown n earlier ++ shown_in (tick_of ticked now was).events
  pub told_in : IsToldIn journal n (told ++ (tick_of ticked now was).events)
  pub once : ticked ≡ true → is_due now (Some is) ≡ false

-- within a tick: the pair went from its accept to where the clock went on, and then each end ticked, or not yet
pub record IsClocking (journal : List Event) (now c d : ℕ) (x y : End) (forth back : List Sent) : Type 0 where
  pub earlier : List Event
  pub before : ℕ
  pub calling : End
  pub called : End
  pub told : List EndEvent
  pub theirs : List EndEvent
  pub run : HasRun (pair_of earlier before c d calling called [] [] told theirs)
  pub clock : now ≡ before + 1
  pub calling_did : HasTicked earlier journal now c calling x told forth
  pub called_did : HasTicked earlier journal now d called y theirs back

-- no end has left, and the called one's user has answered
pub record AreOpening (x y : End) : Type 0 where
  pub calling : HasLeft x.stage → ⊥
  pub called : HasLeft y.stage → ⊥
  pub answered : IsYoung y.stage → ⊥

-- the halves of an end, where it has them, are of that end's reference
abbrev pub AreOwnIn : EndRecord → StateData → Type 0
AreOwnIn b (AkWait w) = (w.halves.sending.rules.own ≡ b.own) × (w.halves.receiving.rules.own ≡ b.own)
AreOwnIn b (Opened o) = (o.halves.sending.rules.own ≡ b.own) × (o.halves.receiving.rules.own ≡ b.own)
AreOwnIn b stage = Prim.Unit {0}

abbrev pub AreOwn : End → Type 0
AreOwn end = AreOwnIn end.base end.stage

-- ---- all

-- all but how the associations stand
pub record Tells (Running : Runs) (own : ℕ → List ℕ) (now : ℕ) (ends : List EndAt) (all : List Association) (queue : List Posted) (number : Numbers) (journal : List Event) : Type 0 where
  pub numbered : AreNumbered ends all number
  pub linked : AreLinked own journal all number
  pub owns : (k : ℕ) (a : Association) (by : Bool) (end : End) → slice_get all k ≡ Some a → party a by ≡ Some end → AreOwn end
  pub young : (k : ℕ) (a : Association) (by : Bool) (end : End) (n : ℕ) → slice_get all k ≡ Some a → party a by ≡ Some end → IsYoung end.stage → number k by ≡ Some n → HasNoUnits journal n
  pub pairs : (k : ℕ) (a : Association) (x y : End) (c d : ℕ) → slice_get all k ≡ Some a → a.calling ≡ Some x → a.called ≡ Some y → number k true ≡ Some c → number k false ≡ Some d → AreOpening x y
      → Running journal now c d x y (waiting k true queue) (waiting k false queue)
  -- a number that no end has yet has no units
  pub unused : (n : ℕ) → length ends < n → HasNoUnits journal n
  -- while the calling end waits for its answer: a called end that does not stand was not made yet, and the reference of one that stands is not free
  pub uncalled : (k : ℕ) (a : Association) (x : End) → slice_get all k ≡ Some a → a.calling ≡ Some x → a.called ≡ None → IsYoung x.stage → number k false ≡ None
  pub held : (k : ℕ) (a : Association) (x y : End) → slice_get all k ≡ Some a → a.calling ≡ Some x → a.called ≡ Some y → IsYoung x.stage → IsInUse now y
  -- a called end waits for no answer to a CR
  pub uncalling : (k : ℕ) (a : Association) (y : End) (r : InCrWait) → slice_get all k ≡ Some a → a.called ≡ Some y → y.stage ≡ CrWait r → ⊥

-- a network between its steps: what waits is of its associations
pub record Story (timers : Timers) (own : ℕ → List ℕ) (hall : Hall) (journal : List Event) : Type 0 where
  pub all : List Association
  pub queue : List Posted
  pub number : Numbers
  pub standing : Standing timers own hall.clock hall.entities all queue
  pub posts : ArePosts all queue hall.posts
  pub tells : Tells IsRunning own hall.clock hall.ends all queue number journal

-- within a tick
pub record TickStory (IsTicking : ℕ → List Placed → List Association → List Association → List Posted → Type 0) (own : ℕ → List ℕ) (now : ℕ) (hall : Hall) (journal : List Event) : Type 0 where
  pub clock : hall.clock ≡ now + 1
  pub before : List Association
  pub all : List Association
  pub queue : List Posted
  pub number : Numbers
  pub ticking : IsTicking now hall.entities before all queue
  pub posts : ArePosts all queue hall.posts
  pub tells : Tells IsClocking own hall.clock hall.ends all queue number journal

-- the address of the transport users of a system
abbrev pub address_of : List (List ℕ) → ℕ → List ℕ
address_of titles system = transport_address (unwrap_or (slice_get titles system) [])

-- beside each network to which steps lead from these entities, before which nothing waits, such a story stands
abbrev pub HasStory : ℕ → Timers → List (List ℕ) → List Placed → List EndAt → Type 0
HasStory now timers titles placed ends = (begun made : List Event) (new : Hall) → IsAside begun → Goes titles (record { clock = now; entities = placed; ends = ends; posts = [] }) made new
    → Story timers (address_of titles) new (begun ++ made)
