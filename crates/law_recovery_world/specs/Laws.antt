-- What the ends of a network keep along its calls, over any carrier, whatever it loses, repeats, delays and reorders; and what each CR and CC that is afloat says (X.224,
-- class 4 procedures).
use Rattle.std.specs.Prelude.{◌≡◌, ℕ, List, Some, ◌≤◌, ◌+◌, Bool, true, ◌⊎◌, ◌<◌, max, ◌∷◌}
use Rattle.osi_base.specs.Link.{Link}
use Rattle.osi_base.specs.Calls.{Call}
use Rattle.tpdu.specs.declared.tpdu.Tpdu.{Tpdu}
use Rattle.tp4_number.specs.Number.{whole}
use Rattle.law_recovery_pair.specs.Speaking.{Knows, Speaks}
use Rattle.tp4_sending.specs.SendingHalf.{FlowSender}
use Rattle.tp4_conn.specs.End.{End}
use Rattle.tp4_conn.specs.Table.{Event as Happens, Took, stepped}
use Rattle.tp4_conn.specs.declared.halves.Halves.{Halves}
use Rattle.tp4_conn.specs.declared.timers.Timers.{Timers}
use Rattle.law_tp4_rows.specs.Giving.{EventGives, Gives}
use Rattle.law_recovery_ends.specs.Knowing.{HasHeard, StageKnows}
use Rattle.tp4_entity.specs.Entity.{Entity}
use Rattle.script_journal.specs.declared.event.Event.{Event}
use Rattle.script_journal.specs.Partner.{ArePartners}
use Rattle.law_tp4_history.specs.Tracks.{Whole, ReachedAll, Starts, Track}
use Rattle.tp4_world.specs.World.{World, entity_at}
use Rattle.law_tp4_lawful.specs.Called.{AreHonestCalls}
use Rattle.law_tp4_lawful.specs.Numbers.{IsOpenEnd}
use Rattle.law_tp4_lawful.specs.References.{ComesTo, IsEnd, halves_at}
use Rattle.law_tp4_lawful.proofs.Worlds.{Explains}
use Rattle.law_recovery_world.specs.Steady.{AfterCalls, AreShort, EndsAreSteady, FloatsGive, HasSteadyEnds, StageTells}
use Rattle.law_recovery_world.specs.Lines.{IsAk, IsSaid, IsOfferedView, HasView, StageView, KnowsLine, HasViews}
use Rattle.law_tp4_history.specs.Ends.{IsFit, Times, Terms}
use Rattle.law_recovery_pair.specs.Views.{AreViews}
use Rattle.law_recovery_world.specs.Reached.{IsReachedLine}
use Rattle.tpdu.specs.declared.service.Options.{Options}
use Rattle.tp4_conn.specs.declared.end_record.EndRecord.{EndRecord}
use Rattle.tp4_conn.specs.UserWait.{user_wait_accept}
use Rattle.law_tp4_history.specs.Lines.{AreUntouched, Stands}
use Rattle.tp4_flow.specs.ReceivingHalf.{Half}
use Rattle.tp4_conn.specs.declared.states.InAkWait.{InAkWait}
use Rattle.tp4_conn.specs.declared.states.InCrWait.{InCrWait}
use Rattle.tp4_conn.specs.declared.states.InOpened.{InOpened}
use Rattle.tp4_conn.specs.declared.states.StateData.TheVariants.{Opened}
use Rattle.law_tp4_pair.specs.Claim.{HasShown}
use Rattle.law_tp4_pair.specs.Pair.{Account, Clock, Happening, IsIdle, Leads, Pair}
use Rattle.law_tp4_pair.specs.Rest.{AreAtRest}
use Rattle.law_recovery_steps.specs.Beginning.{AreAgreed}
use Rattle.law_recovery_steps.specs.Known.{AreKnown, IsKnownAt}
use Rattle.law_recovery_steps.specs.Resting.{AreLater}
use Rattle.law_recovery_steps.specs.Showing.{AreCarried}
use Rattle.law_recovery_steps.specs.Steps.{IsParted}
use Rattle.law_recovery_steps.specs.Going.{AreBothOpened, AreTicked, HasParted}
use Rattle.law_recovery_steps.specs.Lined.{AreLined}
use Rattle.law_recovery_world.specs.Asking.{IsAskingPairOf, IsKnownToAsk}
use Rattle.law_recovery_world.specs.Confirmed.{IsConfirmedPairOf, IsKnownConfirmed}
use Rattle.law_recovery_world.specs.Partners.{AreTimed, IsArrival, IsPairOf}

-- each end keeps what it began with, what it knows, its places and its ticks
abbrev pub CallsKeepSteady : {C : Type 0} → (C → Link (List ℕ)) → (C → Call (List ℕ) → C → Type 0) → Type 0
CallsKeepSteady link steps = AfterCalls link steps (EndsAreSteady link)

-- each normal unit that was submitted has at most 16,384 octets
abbrev pub CallsAreShort : {C : Type 0} → (C → Link (List ℕ)) → (C → Call (List ℕ) → C → Type 0) → Type 0
CallsAreShort {C} link steps = (titles : List (List ℕ)) (timers : Timers) (journal : List Event) (last : World C) → AreHonestCalls link steps whole titles timers journal last → AreShort journal

-- each number that an end noted as held stands in the journal, under the number of the end
abbrev pub CallsTell : {C : Type 0} → (C → Link (List ℕ)) → (C → Call (List ℕ) → C → Type 0) → Type 0
CallsTell {C} link steps = (titles : List (List ℕ)) (timers : Timers) (journal : List Event) (last : World C) → AreHonestCalls link steps whole titles timers journal last
    → (y system reference : ℕ) (entity : Entity) (e : End) → IsEnd last y system entity reference e → StageTells journal y e.stage

-- and each CR and CC that floats gives the credit of the timers
abbrev pub CallsGive : {C : Type 0} → (C → Link (List ℕ)) → (C → Call (List ℕ) → C → Type 0) → Type 0
CallsGive link steps = AfterCalls link steps (λ timers last. FloatsGive timers.credit (link last.carrier).floating)

-- the same by the timers of each entity itself, so that it comes down to the numbers of the wire
abbrev pub EndsKeep : {C : Type 0} → (C → Link (List ℕ)) → List Event → World C → Type 0
EndsKeep link journal last = (system : ℕ) (entity : Entity) → entity_at last.entities system ≡ Some entity
    → HasSteadyEnds entity.timers.credit (link last.carrier).clock entity × FloatsGive entity.timers.credit (link last.carrier).floating

-- an AK that comes to an open end was said in its line, wherever a history explains the network
abbrev pub AksWereSaid : {C : Type 0} → (C → Link (List ℕ)) → Type 0
AksWereSaid {C} link = (titles : List (List ℕ)) (timers : Timers) (w : Whole) (journal : List Event) (world : World C) → Explains link titles timers w journal world
    → (y : ℕ) (tpdu : Tpdu) (comes : ComesTo link world y tpdu) (halves : Halves) (sum : Bool) → halves_at comes.end.stage ≡ Some halves → IsAk tpdu → IsSaid w y halves tpdu sum

-- over each row: what comes was offered by the partner, where it is an AK that is heard
abbrev pub RowsKeepViews : Type 0
RowsKeepViews = (credit z : ℕ) (w : Whole) (wrap : ℕ → ℕ → ℕ) (now : ℕ) (e : End) (event : Happens) → Gives credit e.base e.stage → EventGives credit event → StageKnows credit e.stage
    → StageView credit w z e.stage
    → ((halves : Halves) → halves_at e.stage ≡ Some halves → (t : FlowSender) → HasHeard halves.sending event t → IsOfferedView w z t)
    → StageView credit w z (stepped wrap now e event).stage

-- and so it is of each TPDU that comes to an open end, wherever a history explains the network
abbrev pub AksAreOffered : {C : Type 0} → (C → Link (List ℕ)) → Type 0
AksAreOffered {C} link = (titles : List (List ℕ)) (timers : Timers) (w : Whole) (journal : List Event) (world : World C) → Explains link titles timers w journal world
    → (y : ℕ) (tpdu : Tpdu) (comes : ComesTo link world y tpdu) (halves : Halves) (sum : Bool) → halves_at comes.end.stage ≡ Some halves
    → (t : FlowSender) → HasHeard halves.sending (Took tpdu sum) t → (z : ℕ) × ArePartners journal (z + 1) y × IsOfferedView w z t

-- so the line of an open end knows it, wherever a history explains the network
abbrev pub ViewsAreKnown : {C : Type 0} → (C → Link (List ℕ)) → Type 0
ViewsAreKnown {C} link = (titles : List (List ℕ)) (timers : Timers) (w : Whole) (journal : List Event) (world : World C) → Explains link titles timers w journal world
    → (y z credit : ℕ) (halves : Halves) → IsOpenEnd world y halves → ArePartners journal (z + 1) y → HasView credit w z halves.sending
    → (k : ℕ) × (k + 1 ≡ y) × (credit ≤ (w.track k).room → Knows (w.track k).room (w.track k).line.world)

-- after any calls after which the carrier is honest, over whole numbers: some history explains the network, in which each open end knows so
abbrev pub CallsKnow : {C : Type 0} → (C → Link (List ℕ)) → (C → Call (List ℕ) → C → Type 0) → Type 0
CallsKnow {C} link steps = (titles : List (List ℕ)) (timers : Timers) (journal : List Event) (last : World C) → AreHonestCalls link steps whole titles timers journal last
    → (w : Whole) × Explains link titles timers w journal last × ((y : ℕ) (halves : Halves) → IsOpenEnd last y halves → KnowsLine w y timers.credit)

-- so it is between each two partners that are open
abbrev pub CallsHaveViews : {C : Type 0} → (C → Link (List ℕ)) → (C → Call (List ℕ) → C → Type 0) → Type 0
CallsHaveViews {C} link steps = (titles : List (List ℕ)) (timers : Timers) (journal : List Event) (last : World C) → AreHonestCalls link steps whole titles timers journal last
    → (w : Whole) × Explains link titles timers w journal last
    × ((x y : ℕ) (theirs halves : Halves) → ArePartners journal x y → IsOpenEnd last x theirs → IsOpenEnd last y halves → HasViews w y halves theirs)

-- ---- what is said and known in the line of an end, whatever was lost (X.224, class 4: explicit flow control)

-- of each line of a history that was reached
abbrev pub LinesAreReached : Type 0
LinesAreReached = (times : Times) (w : Whole) (x : ℕ) → IsFit times → ReachedAll times w → (w.track x).is_begun ≡ true → IsReachedLine (w.track x)

-- so what is said in it only rises, from the room that its receiver began with on
abbrev pub LinesSpeak : Type 0
LinesSpeak = (times : Times) (w : Whole) (x : ℕ) → IsFit times → ReachedAll times w → (w.track x).is_begun ≡ true → Speaks (w.track x).room (w.track x).line.world

-- and where its sender began with no more than that room, or knows what an AK said, its views are in order
abbrev pub LinesHaveViews : Type 0
LinesHaveViews = (times : Times) (w : Whole) (x : ℕ) → IsFit times → ReachedAll times w → (w.track x).is_begun ≡ true → Knows (w.track x).room (w.track x).line.world
    → (w.track x).line.world.sender.next ≤ (w.track x).line.world.sender.base + (w.track x).line.world.sender.credit → AreViews (w.track x).line.world

-- as a called end is accepted
abbrev pub LinesHaveRoom : Type 0
LinesHaveRoom = (times : Times) (terms agreed : Terms) (now credit : ℕ) (b : EndRecord) (asked : Options) (octets : List ℕ) (own theirs : Track) → b.timers.credit ≡ credit
    → Starts times now own → Starts times now theirs → Stands terms (user_wait_accept b asked octets).base (user_wait_accept b asked octets).stage own theirs → AreUntouched agreed b theirs own
    → (own.room ≡ credit) × (theirs.room ≡ credit)

-- ---- what is known of two partner ends of a network where nothing waits between them, whatever was lost before, at any tick (X.224, class 4 procedures; X.214, queue model)

-- after any calls after which the carrier is honest, over whole numbers: of each pair of partners all is known, they agreed, and their timers are those of the network
abbrev pub PartnersAreKnown : {C : Type 0} → (C → Link (List ℕ)) → (C → Call (List ℕ) → C → Type 0) → Type 0
PartnersAreKnown {C} link steps = (titles : List (List ℕ)) (timers : Timers) (journal : List Event) (last : World C) → AreHonestCalls link steps whole titles timers journal last
    → (x y : ℕ) (p : Pair) (o q : InOpened) → IsPairOf link journal last x y p o q → AreKnown timers.life p o q × AreAgreed p o q × AreTimed timers p o q

-- and they stand in the lines of their connection, with what was submitted
abbrev pub PartnersAreLined : {C : Type 0} → (C → Link (List ℕ)) → (C → Call (List ℕ) → C → Type 0) → Type 0
PartnersAreLined {C} link steps = (titles : List (List ℕ)) (timers : Timers) (journal : List Event) (last : World C) → AreHonestCalls link steps whole titles timers journal last
    → (x y : ℕ) (p : Pair) (o q : InOpened) → IsPairOf link journal last x y p o q → (times : Times) × (terms : Terms) × AreLined times terms p

-- of one direction
abbrev pub KnownAreCarried : Type 0
KnownAreCarried = (life now : ℕ) (s : FlowSender) (h : Half) (units : Account) → IsKnownAt life now s h units → AreCarried s h units

-- So of two partners that are Opened after some calls, whatever happens to the two in order from there on: where nothing waits, no end is due, and the longer of T1 and W has passed, and
-- they stand so, if both are Opened still, in the network after some calls, both are at rest, with all shown but for want of credit or by the number rule; or one of them has left
abbrev pub PartnersRecover : {C : Type 0} → (C → Link (List ℕ)) → (C → Call (List ℕ) → C → Type 0) → Type 0
PartnersRecover {C} link steps = (titles : List (List ℕ)) (timers : Timers) (journal later : List Event) (first second : World C) → AreHonestCalls link steps whole titles timers journal first
    → AreHonestCalls link steps whole titles timers later second → (x y : ℕ) (p last : Pair) (o q : InOpened) (happenings : List Happening) → IsPairOf link journal first x y p o q
    → ((i k : InOpened) → last.calling.stage ≡ Opened i → last.called.stage ≡ Opened k → IsPairOf link later second x y last i k)
    → Leads p happenings last → IsIdle last → AreLater last → p.clock + max timers.t1 timers.window ≤ last.clock
    → IsParted last ⊎ ((i k : InOpened) × (last.calling.stage ≡ Opened i) × (last.called.stage ≡ Opened k) × AreAtRest last i k)

-- and by the journal each has shown there what the other submitted, but for want of credit or by the number rule, which is asked at that tick, and of which the journal tells
abbrev pub PartnersShow : {C : Type 0} → (C → Link (List ℕ)) → (C → Call (List ℕ) → C → Type 0) → Type 0
PartnersShow {C} link steps = (titles : List (List ℕ)) (timers : Timers) (journal later : List Event) (first second : World C) → AreHonestCalls link steps whole titles timers journal first
    → AreHonestCalls link steps whole titles timers later second → (x y : ℕ) (p last : Pair) (o q : InOpened) (happenings : List Happening) → IsPairOf link journal first x y p o q
    → ((i k : InOpened) → last.calling.stage ≡ Opened i → last.called.stage ≡ Opened k → IsPairOf link later second x y last i k)
    → Leads p happenings last → IsIdle last → AreLater last → p.clock + max timers.t1 timers.window ≤ last.clock
    → IsParted last ⊎ ((i k : InOpened) × (last.calling.stage ≡ Opened i) × (last.called.stage ≡ Opened k) × HasShown last.clock later x y i.halves.sending k.halves.receiving
    × HasShown last.clock later y x k.halves.sending i.halves.receiving)

-- Of two partners that are Opened after some calls, whatever happens to the two in order from there on, with a tick of each where it is due: both are Opened, or the first that left did so
-- for a cause that is of that tick or before, and not for what came, and its partner follows. W is less than I
abbrev pub PartnersPart : {C : Type 0} → (C → Link (List ℕ)) → (C → Call (List ℕ) → C → Type 0) → Type 0
PartnersPart {C} link steps = (titles : List (List ℕ)) (timers : Timers) (journal : List Event) (first : World C) → AreHonestCalls link steps whole titles timers journal first
    → timers.window < timers.inactive → (x y : ℕ) (p last : Pair) (o q : InOpened) (happenings : List Happening) → IsPairOf link journal first x y p o q
    → AreTicked p happenings → Leads p happenings last → AreBothOpened last ⊎ ((h : HasParted timers p.clock o q p happenings last) × (IsArrival h.happening → ⊥))

-- ---- one in CrWait, and one in AkWait

-- after any calls after which the carrier is honest: of each two such partners is known what such a pair begins with
abbrev pub AskersAreKnown : {C : Type 0} → (C → Link (List ℕ)) → (C → Call (List ℕ) → C → Type 0) → Type 0
AskersAreKnown {C} link steps = (titles : List (List ℕ)) (timers : Timers) (journal : List Event) (last : World C) → AreHonestCalls link steps whole titles timers journal last
    → (x y : ℕ) (p : Pair) (r : InCrWait) (w : InAkWait) → IsAskingPairOf link journal last x y p r w → IsKnownToAsk timers p r w

-- So whatever happens to the two in order from there on, first of all a tick: where nothing waits, no end is due, and T1 has passed, the called end is Opened, and the calling one confirmed; or
-- one of them has left
abbrev pub AskersOpen : {C : Type 0} → (C → Link (List ℕ)) → (C → Call (List ℕ) → C → Type 0) → Type 0
AskersOpen {C} link steps = (titles : List (List ℕ)) (timers : Timers) (journal : List Event) (first : World C) → AreHonestCalls link steps whole titles timers journal first
    → (x y : ℕ) (p last : Pair) (r : InCrWait) (w : InAkWait) (calling called : Bool) (happenings : List Happening) → IsAskingPairOf link journal first x y p r w
    → Leads p (Clock calling called ∷ happenings) last → IsIdle last → AreLater last → p.clock + timers.t1 ≤ last.clock
    → IsParted last ⊎ ((i k : InOpened) × (last.calling.stage ≡ Opened i) × (last.called.stage ≡ Opened k))

-- and where the longer of T1 and W has passed, each has shown what the other submitted, as `PartnersShow` has it of two that were Opened
abbrev pub AskersShow : {C : Type 0} → (C → Link (List ℕ)) → (C → Call (List ℕ) → C → Type 0) → Type 0
AskersShow {C} link steps = (titles : List (List ℕ)) (timers : Timers) (journal later : List Event) (first second : World C) → AreHonestCalls link steps whole titles timers journal first
    → AreHonestCalls link steps whole titles timers later second
    → (x y : ℕ) (p last : Pair) (r : InCrWait) (w : InAkWait) (calling called : Bool) (happenings : List Happening) → IsAskingPairOf link journal first x y p r w
    → ((i k : InOpened) → last.calling.stage ≡ Opened i → last.called.stage ≡ Opened k → IsPairOf link later second x y last i k)
    → Leads p (Clock calling called ∷ happenings) last → IsIdle last → AreLater last → p.clock + max timers.t1 timers.window ≤ last.clock
    → IsParted last ⊎ ((i k : InOpened) × (last.calling.stage ≡ Opened i) × (last.called.stage ≡ Opened k) × HasShown last.clock later x y i.halves.sending k.halves.receiving
    × HasShown last.clock later y x k.halves.sending i.halves.receiving)

-- ---- one that is Opened, and one in AkWait

-- after any calls after which the carrier is honest: of each two such partners is known what such a pair begins with
abbrev pub ConfirmedAreKnown : {C : Type 0} → (C → Link (List ℕ)) → (C → Call (List ℕ) → C → Type 0) → Type 0
ConfirmedAreKnown {C} link steps = (titles : List (List ℕ)) (timers : Timers) (journal : List Event) (last : World C) → AreHonestCalls link steps whole titles timers journal last
    → (x y : ℕ) (p : Pair) (o : InOpened) (w : InAkWait) → IsConfirmedPairOf link journal last x y p o w → IsKnownConfirmed timers p o w

-- So whatever happens to the two in order from there on, first of all a tick: where nothing waits, no end is due, and T1 has passed, both are Opened; or one of them has left
abbrev pub ConfirmedOpen : {C : Type 0} → (C → Link (List ℕ)) → (C → Call (List ℕ) → C → Type 0) → Type 0
ConfirmedOpen {C} link steps = (titles : List (List ℕ)) (timers : Timers) (journal : List Event) (first : World C) → AreHonestCalls link steps whole titles timers journal first
    → (x y : ℕ) (p last : Pair) (o : InOpened) (w : InAkWait) (calling called : Bool) (happenings : List Happening) → IsConfirmedPairOf link journal first x y p o w
    → Leads p (Clock calling called ∷ happenings) last → IsIdle last → AreLater last → p.clock + timers.t1 ≤ last.clock
    → IsParted last ⊎ ((i k : InOpened) × (last.calling.stage ≡ Opened i) × (last.called.stage ≡ Opened k))

-- and where the longer of T1 and W has passed, each has shown what the other submitted, as `PartnersShow` has it of two that were Opened
abbrev pub ConfirmedShow : {C : Type 0} → (C → Link (List ℕ)) → (C → Call (List ℕ) → C → Type 0) → Type 0
ConfirmedShow {C} link steps = (titles : List (List ℕ)) (timers : Timers) (journal later : List Event) (first second : World C) → AreHonestCalls link steps whole titles timers journal first
    → AreHonestCalls link steps whole titles timers later second
    → (x y : ℕ) (p last : Pair) (o : InOpened) (w : InAkWait) (calling called : Bool) (happenings : List Happening) → IsConfirmedPairOf link journal first x y p o w
    → ((i k : InOpened) → last.calling.stage ≡ Opened i → last.called.stage ≡ Opened k → IsPairOf link later second x y last i k)
    → Leads p (Clock calling called ∷ happenings) last → IsIdle last → AreLater last → p.clock + max timers.t1 timers.window ≤ last.clock
    → IsParted last ⊎ ((i k : InOpened) × (last.calling.stage ≡ Opened i) × (last.called.stage ≡ Opened k) × HasShown last.clock later x y i.halves.sending k.halves.receiving
    × HasShown last.clock later y x k.halves.sending i.halves.receiving)
