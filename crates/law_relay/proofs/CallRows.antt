-- What a call of a user on an end tells that is not refused: its own event first, and then numbers that are held back (X.224, class 4 state tables).
use Rattle.std.proofs.Common.{◌≡◌, ℕ, ◌==◌, Bool, true, false, if◌then◌else◌, List, [], ◌∷◌, ◌++◌, Option, Some, None, refl}
use Rattle.std.proofs.lemmas.Bool.{false≢true}
use Rattle.tp4_number.proofs.Past.{if_kept}
use Rattle.tp4_flow.specs.ReceivingHalf.{Half, half_granted}
use Rattle.tpdu.specs.declared.service.Options.{Options}
use Rattle.tp4_flow.specs.declared.step.EndEvent.{EndEvent}
use Rattle.tp4_flow.specs.declared.step.What.TheVariants as whats
use Rattle.tp4_sending.specs.SendingHalf.{FlowSender, at, submitted, urged}
use Rattle.tp4_conn.specs.declared.end_record.EndRecord.{EndRecord}
use Rattle.tp4_conn.specs.declared.call.CallRefusal.{CallRefusal}
use Rattle.tp4_conn.specs.declared.call.CallRefusal.TheVariants as refused
use Rattle.tp4_conn.specs.declared.call.UserCall.{UserCall}
use Rattle.tp4_conn.specs.declared.call.UserCall.TheVariants as asks
use Rattle.tp4_conn.specs.declared.states.InOpened.{InOpened}
use Rattle.tp4_conn.specs.declared.states.StateData.{StateData}
use Rattle.tp4_conn.specs.declared.states.StateData.TheVariants as stages
use Rattle.tp4_conn.specs.Calls.{call_refusal, is_listed, listed_refusal, state_of}
use Rattle.tp4_conn.specs.End.{End, Moved}
use Rattle.tp4_conn.specs.Opened.{granting}
use Rattle.tp4_conn.specs.Table.{Called, at as at_tick, on_call, stepped}
use Rattle.tp4_conn.specs.UserWait.{user_wait_accept, user_wait_refuse}
use Rattle.law_relay.proofs.StageRows.{AllTold, TellsHeld, MayFollow, new_held}
use Rattle.tpdu.specs.declared.service.EndTold.TheVariants as tells

-- an accept and a credit are told with what is agreed on and what is in force; of other calls only numbers that are held back are told
abbrev pub CallTells : UserCall → Moved → Type 0
CallTells (asks.Accept asked octets) m =
    (agreed : Options) × (rest : List EndEvent) × (m.events ≡ record { reference = m.base.own; what = whats.End (tells.Accept agreed octets) } ∷ rest) × AllTold TellsHeld rest
CallTells (asks.Window credit) m =
    (granted : ℕ) × (rest : List EndEvent) × (m.events ≡ record { reference = m.base.own; what = whats.End (tells.Window granted) } ∷ rest) × AllTold TellsHeld rest
CallTells call m = AllTold TellsHeld m.events

-- the call is no accept
abbrev pub IsNoAccept : UserCall → Type 0
IsNoAccept (asks.Accept asked octets) = ⊥
IsNoAccept call = Prim.Unit {0}

-- what a call does, by the state before it
pub record CallDoes (stage : StateData) (call : UserCall) (m : Moved) : Type 0 where
  pub listed : is_listed stage call ≡ true
  pub told : CallTells call m
  pub after : IsNoAccept call → MayFollow stage m.stage

none_refused : (listed : Bool) (why : Option CallRefusal) (stage : StateData) → (if listed then why else Some (refused.WrongState (state_of stage))) ≡ None → listed ≡ true
none_refused true why stage is = refl
none_refused false why stage is = absurd (cc is)

window_tells : (b : EndRecord) (o : InOpened) (credit : ℕ) (new : Half) → CallTells (asks.Window credit) (granting b o new)
window_tells b o credit new =
    if_kept (CallTells (asks.Window credit)) (new.receiver.inbox.credit == o.halves.receiving.receiver.inbox.credit) _ _
    (λ _. (new.receiver.inbox.credit, [], refl, tt)) (λ _. (new.receiver.inbox.credit, [], refl, tt))

accept_tells : (b : EndRecord) (asked : Options) (octets : List ℕ) → CallTells (asks.Accept asked octets) (user_wait_accept b asked octets)
unfolding user_wait_accept
accept_tells b asked octets = (_, [], refl, tt)

refuse_does : (b : EndRecord) (since : ℕ) (octets : List ℕ) → is_listed (stages.UserWait since) (asks.Refuse octets) ≡ true → CallDoes (stages.UserWait since) (asks.Refuse octets) (user_wait_refuse b octets)
unfolding user_wait_refuse
refuse_does b since octets is = record { listed = is; told = tt; after = λ is_none. tt }

pub submitted_held : (s : FlowSender) (unit : List ℕ) → AllTold TellsHeld (submitted s unit).events
submitted_held s unit = new_held (record s { queue = record s.queue { units = s.queue.units ++ unit ∷ [] } })

pub urged_held : (s : FlowSender) (unit : List ℕ) → AllTold TellsHeld (urged s unit).events
urged_held s unit = new_held (record s { urgent = record s.urgent { units = s.urgent.units ++ unit ∷ [] } })

listed_does : (b : EndRecord) (stage : StateData) (call : UserCall) → is_listed stage call ≡ true → CallDoes stage call (on_call b stage call)
listed_does b (stages.CrWait w) (asks.Disconnect octets) is = record { listed = is; told = tt; after = λ is_none. tt }
listed_does b (stages.UserWait since) (asks.Accept asked octets) is = record { listed = is; told = accept_tells b asked octets; after = λ is_none. absurd is_none }
listed_does b (stages.UserWait since) (asks.Refuse octets) is = refuse_does b since octets is
listed_does b (stages.AkWait w) (asks.Normal unit) is = record { listed = is; told = submitted_held (at b.clock w.halves.sending) unit; after = λ is_none. tt }
listed_does b (stages.AkWait w) (asks.Urgent unit) is = record { listed = is; told = urged_held (at b.clock w.halves.sending) unit; after = λ is_none. tt }
listed_does b (stages.AkWait w) (asks.Disconnect octets) is = record { listed = is; told = tt; after = λ is_none. tt }
listed_does b (stages.Opened o) (asks.Normal unit) is = record { listed = is; told = submitted_held (at b.clock o.halves.sending) unit; after = λ is_none. tt }
listed_does b (stages.Opened o) (asks.Urgent unit) is = record { listed = is; told = urged_held (at b.clock o.halves.sending) unit; after = λ is_none. tt }
listed_does b (stages.Opened o) (asks.Window credit) is = record { listed = is; told = window_tells b o credit (half_granted o.halves.receiving credit); after = λ is_none. tt }
listed_does b (stages.Opened o) (asks.Disconnect octets) is = record { listed = is; told = tt; after = λ is_none. tt }
listed_does b stage call is = absurd (false≢true is)

pub call_does : (wrap : ℕ → ℕ → ℕ) (now : ℕ) (e : End) (call : UserCall) → call_refusal e.base e.stage call ≡ None → CallDoes e.stage call (stepped wrap now e (Called call))
call_does wrap now e call none = listed_does (at_tick now e.base) e.stage call (none_refused (is_listed e.stage call) (listed_refusal e.base e.stage call) e.stage none)
