-- A sending half: numbers, what was sent and is not acknowledged, units, expedited units (X.224, class 4: flow control,
-- retention until acknowledgement, retransmission on time-out, expedited data). Each call is a function of the half, whose
-- clock is the tick of the call.
use Rattle.std.specs.Prelude.{◌≡◌, ℕ, zero, suc, ◌+◌, ◌-◌, Bool, true, false, ◌&&◌, ◌||◌, ◌==◌, not, nat_lt, nat_le, List, [], ◌∷◌, ◌++◌, length, take, drop, Option, Some, None, is_some, unwrap_or, if◌then◌else◌}
use Rattle.std.specs.List.{list_any, sum_by}
use Rattle.tpdu.specs.declared.tpdu.Tpdu.TheVariants as tpdus
use Rattle.tp4_flow.specs.declared.rules.FlowRules.{FlowRules}
use Rattle.tp4_flow.specs.declared.rules.Life.{Life}
use Rattle.tp4_flow.specs.declared.rules.Life.TheVariants.{Goes, Exhausted}
use Rattle.tp4_flow.specs.declared.rules.SubmitRefusal.{SubmitRefusal}
use Rattle.tp4_flow.specs.declared.rules.SubmitRefusal.TheVariants.{EmptyUnit, TooLong, QueueFull}
use Rattle.tp4_number.specs.declared.piece.Piece.{Piece}
use Rattle.tp4_sending.specs.declared.tries.Tries.{Tries}
use Rattle.tp4_flow.specs.declared.step.EndEvent.{EndEvent}
use Rattle.tpdu.specs.declared.service.HeldKind.{HeldKind}
use Rattle.tpdu.specs.declared.service.HeldKind.TheVariants.{Dt, Ed}
use Rattle.tp4_flow.specs.declared.step.Sent.{Sent}
use Rattle.tp4_flow.specs.declared.step.What.TheVariants as whats
use Rattle.tpdu.specs.declared.service.EndTold.TheVariants.{Held}
use Rattle.tp4_number.specs.Formats.{block_of}
use Rattle.tp4_flow.specs.Told.{Told, Grows}
use Rattle.tp4_number.specs.Number.{wire, near}
use Rattle.tp4_number.specs.declared.blocks.Blocks.{Blocks}
use Rattle.tp4_number.specs.Sender.{Sender, no_blocks, may_send, opens_at, marked, sent_next, told, is_newer}
use Rattle.tp4_sending.specs.Pieces.{is_due, is_spent, once, again, resent, due_from, sooner, least_due, cut_at, Queue, end_of, freed}

pub record UrgentSender : Type 0 where
  pub next : ℕ
  pub blocks : Blocks
  pub units : List (List ℕ)  -- the first is outstanding where `out` is there
  pub out : Option Tries
  pub noted : Option ℕ  -- the last number that was told as held

pub record FlowSender : Type 0 where
  pub rules : FlowRules
  pub clock : ℕ
  pub is_open : Bool
  pub numbers : Sender
  pub window : List Tries  -- of the numbers from base on up to next
  pub queue : Queue
  pub noted : Option ℕ
  pub urgent : UrgentSender

-- what a call does
pub record Sendings : Type 0 where
  pub sender : FlowSender
  pub events : List EndEvent
  pub tpdus : List Sent

-- a call did this
pub record Sends (x : Sendings) (new : FlowSender) (was is : Told) : Type 0 where
  pub sender_is : new ≡ x.sender
  pub told : Grows was x.events x.tpdus is

-- what each call keeps, also where memory runs out
pub record Keeps (old new : FlowSender) (now : ℕ) : Type 0 where
  pub rules : new.rules ≡ old.rules
  pub is_open : new.is_open ≡ old.is_open
  pub clock : new.clock ≡ now

abbrev pub no_urgent : UrgentSender
no_urgent = record { next = 0; blocks = no_blocks; units = []; out = None; noted = None }

-- nothing was submitted, and this credit is there
abbrev pub fresh : FlowRules → ℕ → FlowSender
fresh rules credit = record {
  rules = rules;
  clock = 0;
  is_open = false;
  numbers = record { base = 0; credit = credit; subsequence = 0; next = 0; blocks = no_blocks };
  window = [];
  queue = record { units = []; first = 0 };
  noted = None;
  urgent = no_urgent;
}

-- the tick is now
abbrev pub at : ℕ → FlowSender → FlowSender
at now s = record s { clock = now }

abbrev pub nothing : FlowSender → Sendings
nothing s = record { sender = s; events = []; tpdus = [] }

abbrev pub before : List Sent → Sendings → Sendings
before tpdus x = record x { tpdus = tpdus ++ x.tpdus }

abbrev pub then_sends : Sendings → (FlowSender → Sendings) → Sendings
then_sends x next = let y = next x.sender in record { sender = y.sender; events = x.events ++ y.events; tpdus = x.tpdus ++ y.tpdus }

abbrev pub block_in : FlowSender → ℕ
block_in s = block_of s.rules.format

abbrev pub rule_allows : FlowSender → Blocks → ℕ → Bool
rule_allows s blocks n = may_send (block_in s) s.rules.limit blocks n s.clock

-- the DT and the ED of a number
abbrev pub dt_sent : FlowRules → ℕ → Bool → List ℕ → Sent
dt_sent rules n last octets = record {
  to = rules.to;
  tpdu = tpdus.Dt rules.partner last (wire (block_of rules.format) n) octets;
  format = rules.format;
  sum = rules.sum;
}

abbrev pub ed_sent : FlowRules → ℕ → List ℕ → Sent
ed_sent rules n octets = record {
  to = rules.to;
  tpdu = tpdus.Ed rules.partner true (wire (block_of rules.format) n) octets;
  format = rules.format;
  sum = rules.sum;
}

abbrev pub dts : FlowSender → ℕ → Option Piece → List Sent
dts s n None = []
dts s n (Some piece) = dt_sent s.rules n piece.last piece.octets ∷ []

abbrev pub dts_of : FlowSender → ℕ → List Sent
dts_of s n = dts s n (cut_at s.rules.piece s.queue.units (n - s.queue.first))

abbrev pub eds : FlowSender → ℕ → List (List ℕ) → List Sent
eds s n [] = []
eds s n (unit ∷ units) = ed_sent s.rules n unit ∷ []

-- a number that the rule alone holds back is told once
abbrev pub is_noted : Option ℕ → ℕ → Bool
is_noted None n = false
is_noted (Some noted) n = noted == n

abbrev pub holds : FlowSender → HeldKind → ℕ → EndEvent
holds s kind n = record { reference = s.rules.own; what = whats.End (Held kind n) }

-- the next ED
abbrev pub sent_urgent : FlowSender → FlowSender
sent_urgent s = record s {
  urgent = record s.urgent { next = s.urgent.next + 1; blocks = marked (block_in s) s.urgent.blocks s.urgent.next s.clock; out = Some (once s.clock) };
}

abbrev pub held_urgent : FlowSender → Sendings
held_urgent s =
    if is_noted s.urgent.noted s.urgent.next then nothing s
    else record { sender = record s { urgent = record s.urgent { noted = Some s.urgent.next } }; events = holds s Ed s.urgent.next ∷ []; tpdus = [] }

abbrev pub one_urgent : FlowSender → Sendings
one_urgent s =
    if is_some s.urgent.out || length s.urgent.units == 0 then nothing s
    else if rule_allows s s.urgent.blocks s.urgent.next
    then record { sender = sent_urgent s; events = []; tpdus = eds s s.urgent.next s.urgent.units }
    else held_urgent s

-- the next DTs, as many as may go
abbrev pub sent_normal : FlowSender → FlowSender
sent_normal s = record s { numbers = sent_next (block_in s) s.numbers s.clock; window = s.window ++ once s.clock ∷ [] }

-- the next DT
abbrev pub one_normal : FlowSender → Sendings
one_normal s = record { sender = sent_normal s; events = []; tpdus = dts_of s s.numbers.next }

abbrev pub held_normal : FlowSender → Sendings
held_normal s =
    if is_noted s.noted s.numbers.next then nothing s
    else record { sender = record s { noted = Some s.numbers.next }; events = holds s Dt s.numbers.next ∷ []; tpdus = [] }

abbrev pub has_next : FlowSender → Bool
has_next s = nat_lt s.numbers.next (s.numbers.base + s.numbers.credit) && nat_lt s.numbers.next (end_of s.rules.piece s.queue)

abbrev pub normals : ℕ → FlowSender → Sendings
normals zero s = nothing s
normals (suc fuel) s =
    if not (has_next s) then nothing s
    else if rule_allows s s.numbers.blocks s.numbers.next then before (dts_of s s.numbers.next) (normals fuel (sent_normal s))
    else held_normal s

-- an ED is queued or outstanding
abbrev pub is_urgent : FlowSender → Bool
is_urgent s = not (length s.urgent.units == 0)

abbrev pub all_normals : FlowSender → Sendings
all_normals s = normals (end_of s.rules.piece s.queue - s.numbers.next) s

abbrev pub normals_where : FlowSender → Sendings
normals_where s = if is_urgent s then nothing s else all_normals s

-- all that may go now: an ED, then DTs
abbrev pub new_sends : FlowSender → Sendings
new_sends s = if s.is_open then then_sends (one_urgent s) normals_where else nothing s

abbrev pub opened : FlowSender → Sendings
opened s = new_sends (record s { is_open = true })

-- units of users
abbrev pub refusal : FlowSender → ℕ → Option SubmitRefusal
refusal s octets =
    if octets == 0 then Some EmptyUnit
    else if nat_lt 16384 octets then Some TooLong
    else if nat_le 64 (length s.queue.units) || nat_lt 131072 (sum_by length s.queue.units + octets) then Some QueueFull
    else None

abbrev pub urgent_refusal : FlowSender → ℕ → Option SubmitRefusal
urgent_refusal s octets =
    if octets == 0 then Some EmptyUnit
    else if nat_lt 16 octets then Some TooLong
    else if nat_le 64 (length s.urgent.units) then Some QueueFull
    else None

abbrev pub submitted : FlowSender → List ℕ → Sendings
submitted s unit = new_sends (record s { queue = record s.queue { units = s.queue.units ++ unit ∷ [] } })

abbrev pub urged : FlowSender → List ℕ → Sendings
urged s unit = new_sends (record s { urgent = record s.urgent { units = s.urgent.units ++ unit ∷ [] } })

-- an AK with this wire number
abbrev pub is_taken : FlowSender → ℕ → ℕ → ℕ → Bool
is_taken s n credit subsequence = nat_le n s.numbers.blocks.high && is_newer s.numbers n credit subsequence

abbrev pub acknowledged_to : FlowSender → ℕ → ℕ → ℕ → FlowSender
acknowledged_to s n credit subsequence = let numbers = told s.numbers n credit subsequence in record s {
  numbers = numbers;
  window = take (numbers.next - n) (drop (n - s.numbers.base) s.window);
  queue = freed s.rules.piece n s.queue;
}

abbrev pub acknowledged : FlowSender → ℕ → ℕ → ℕ → Sendings
acknowledged s w credit subsequence = let n = near (block_in s) s.numbers.base w in
    if is_taken s n credit subsequence then new_sends (acknowledged_to s n credit subsequence) else nothing s

-- an EA with this wire number
abbrev pub is_outstanding : FlowSender → ℕ → Bool
is_outstanding s w = is_some s.urgent.out && wire (block_in s) (s.urgent.next - 1) == w

abbrev pub urgent_done : FlowSender → ℕ → Sendings
urgent_done s w =
    if is_outstanding s w then new_sends (record s { urgent = record s.urgent { units = drop 1 s.urgent.units; out = None } }) else nothing s

-- the tick
abbrev pub is_urgent_spent : FlowSender → Option Tries → Bool
is_urgent_spent s None = false
is_urgent_spent s (Some tries) = is_spent s.rules.t1 s.rules.sendings s.clock tries

abbrev pub is_window_spent : FlowSender → Bool
is_window_spent s = list_any (is_spent s.rules.t1 s.rules.sendings s.clock) s.window

abbrev pub life_of : FlowSender → Life
life_of s = if is_window_spent s || is_urgent_spent s s.urgent.out then Exhausted else Goes

abbrev pub marked_all : ℕ → ℕ → Blocks → List ℕ → Blocks
marked_all block now blocks [] = blocks
marked_all block now blocks (n ∷ ns) = marked_all block now (marked block blocks n now) ns

abbrev pub all_dts : FlowSender → List ℕ → List Sent
all_dts s [] = []
all_dts s (n ∷ ns) = dts_of s n ++ all_dts s ns

-- each DT whose T1 has passed, by number
abbrev pub due_numbers : FlowSender → List ℕ
due_numbers s = due_from s.rules.t1 s.clock s.numbers.base s.window

abbrev pub resends : FlowSender → Sendings
resends s = record {
  sender = record s {
    numbers = record s.numbers { blocks = marked_all (block_in s) s.clock s.numbers.blocks (due_numbers s) };
    window = resent s.rules.t1 s.clock s.window;
  };
  events = [];
  tpdus = all_dts s (due_numbers s);
}

-- then the ED
abbrev pub retried_urgent : FlowSender → Tries → FlowSender
retried_urgent s tries = record s {
  urgent = record s.urgent { blocks = marked (block_in s) s.urgent.blocks (s.urgent.next - 1) s.clock; out = Some (again s.clock tries) };
}

abbrev pub resends_urgent_as : Option Tries → FlowSender → Sendings
resends_urgent_as None s = nothing s
resends_urgent_as (Some tries) s =
    if is_due s.rules.t1 s.clock tries
    then record { sender = retried_urgent s tries; events = []; tpdus = eds s (s.urgent.next - 1) s.urgent.units }
    else nothing s

abbrev pub resends_urgent : FlowSender → Sendings
resends_urgent s = resends_urgent_as s.urgent.out s

abbrev pub ticked_as : Life → FlowSender → Sendings
ticked_as Exhausted s = nothing s
ticked_as Goes s = then_sends (then_sends (resends s) resends_urgent) new_sends

abbrev pub ticked : FlowSender → Sendings
ticked s = ticked_as (life_of s) s

-- the least tick at which `ticked` changes more than the clock, or the half is exhausted
abbrev pub urgent_last : FlowSender → Option Tries → Option ℕ
urgent_last s None = None
urgent_last s (Some tries) = Some (tries.last + s.rules.t1)

-- a number that is next goes, or is told as held, at once; once it was told it goes when the number rule lets it
abbrev pub tried_at : Bool → Option ℕ → ℕ
tried_at told opens = if told then unwrap_or opens 0 else 0

abbrev pub urgent_tried : FlowSender → ℕ
urgent_tried s = tried_at (is_noted s.urgent.noted s.urgent.next) (opens_at (block_in s) s.rules.limit s.urgent.blocks s.urgent.next)

abbrev pub normal_tried : FlowSender → ℕ
normal_tried s = tried_at (is_noted s.noted s.numbers.next) (opens_at (block_in s) s.rules.limit s.numbers.blocks s.numbers.next)

abbrev pub urgent_opens : FlowSender → Option ℕ
urgent_opens s = if is_some s.urgent.out || length s.urgent.units == 0 then None else Some (urgent_tried s)

abbrev pub normal_opens : FlowSender → Option ℕ
normal_opens s = if is_urgent s || not (has_next s) then None else Some (normal_tried s)

abbrev pub due_of : FlowSender → Option ℕ
due_of s =
    if s.is_open
    then sooner (least_due s.rules.t1 s.window) (sooner (urgent_last s s.urgent.out) (sooner (urgent_opens s) (normal_opens s)))
    else None
