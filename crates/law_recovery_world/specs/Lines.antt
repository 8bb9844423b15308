-- What the lines of a network know: each AK that comes to an open end was said in the line of that end; and what the sender of the line of an open end knows it began with,
-- or an AK of the line said it (X.224, class 4: explicit flow control).
use Rattle.std.specs.Prelude.{◌≡◌, ◌⊎◌, ◌≤◌, ℕ, ◌+◌, Bool, Contains, List}
use Rattle.osi_base.specs.Link.{Link}
use Rattle.tpdu.specs.declared.tpdu.Tpdu.{Tpdu}
use Rattle.tpdu.specs.declared.tpdu.Tpdu.TheVariants.{Ak}
use Rattle.tp4_number.specs.Traffic.{ReadsRightly}
use Rattle.law_recovery_pair.specs.Speaking.{Knows}
use Rattle.law_recovery_pair.specs.Views.{AreViews, said}
use Rattle.tp4_sending.specs.SendingHalf.{FlowSender, block_in}
use Rattle.tp4_conn.specs.Table.{Took}
use Rattle.tp4_conn.specs.declared.states.StateData.{StateData}
use Rattle.tp4_conn.specs.declared.states.StateData.TheVariants.{Opened}
use Rattle.tp4_conn.specs.declared.halves.Halves.{Halves}
use Rattle.tp4_conn.specs.declared.timers.Timers.{Timers}
use Rattle.law_recovery_ends.specs.Knowing.{IsFreshView}
use Rattle.law_recovery_ends.specs.Lines.{WasSaid}
use Rattle.script_journal.specs.Partner.{ArePartners}
use Rattle.script_journal.specs.declared.event.Event.{Event}
use Rattle.law_tp4_history.specs.Ends.{Ak as Said, Offer, Sent}
use Rattle.law_tp4_history.specs.Tracks.{Whole}
use Rattle.tp4_world.specs.World.{World}
use Rattle.law_tp4_lawful.specs.Numbers.{IsOpenEnd}
use Rattle.law_tp4_lawful.proofs.Worlds.{Explains}
use Rattle.law_recovery_world.specs.Steady.{says_of}

abbrev pub IsAk : Tpdu → Type 0
IsAk (Ak destination number credit subsequence confirmation) = Unit {0}
IsAk other = ⊥

-- the AK that comes was said in the line of the end y, whose sender its sending half is; and that line reads what is afloat for what it is
pub record IsSaid (w : Whole) (y : ℕ) (halves : Halves) (tpdu : Tpdu) (sum : Bool) : Type 0 where
  pub k : ℕ
  pub number_is : k + 1 ≡ y
  pub block : (w.track k).rules.block ≡ block_in halves.sending
  pub sender : (w.track k).line.world.sender ≡ halves.sending.numbers
  pub reads : ReadsRightly (w.track k).rules (w.track k).line.world
  pub said : WasSaid (w.track k).rules (w.track k).line.world (Took tpdu sum)

-- the partner z offered an AK that says what the sending half knows
pub record IsOfferedView (w : Whole) (z : ℕ) (s : FlowSender) : Type 0 where
  pub offer : Offer
  pub offered : Contains w.base.offers offer
  pub origin : offer.origin ≡ Sent z
  pub is : offer.tpdu.body ≡ Said s.numbers.base s.numbers.credit s.numbers.subsequence

-- what a sending half knows, as it stays along calls: no offer is ever taken away
abbrev pub HasView : ℕ → Whole → ℕ → FlowSender → Type 0
HasView credit w z s = IsFreshView credit s ⊎ IsOfferedView w z s

-- an end by its state
abbrev pub StageView : ℕ → Whole → ℕ → StateData → Type 0
StageView credit w z (Opened o) = HasView credit w z o.halves.sending
StageView credit w z stage = Unit {0}

-- the sender of the line of the end y began with no more than its room, where that credit is no more, or knows what an AK said
pub record KnowsLine (w : Whole) (y credit : ℕ) : Type 0 where
  pub k : ℕ
  pub number_is : k + 1 ≡ y
  pub knows : credit ≤ (w.track k).room → Knows (w.track k).room (w.track k).line.world

-- in the line from the end y to its partner, with these halves, the views are in order
pub record HasViews (w : Whole) (y : ℕ) (halves theirs : Halves) : Type 0 where
  pub k : ℕ
  pub number_is : k + 1 ≡ y
  pub sender : (w.track k).line.world.sender ≡ halves.sending.numbers
  pub says : said (w.track k).line.world ≡ says_of theirs.receiving
  pub views : AreViews (w.track k).line.world

-- some history explains the network, in which the line of each open end knows so, and between each two open partners the views are in order
pub record HasKnowingHistory {C : Type 0} (link : C → Link (List ℕ)) (journal : List Event) (last : World C) : Type 0 where
  pub titles : List (List ℕ)
  pub timers : Timers
  pub w : Whole
  pub explains : Explains link titles timers w journal last
  pub knows : (y : ℕ) (halves : Halves) → IsOpenEnd last y halves → KnowsLine w y timers.credit
  pub views : (x y : ℕ) (theirs halves : Halves) → ArePartners journal x y → IsOpenEnd last x theirs → IsOpenEnd last y halves → HasViews w y halves theirs
