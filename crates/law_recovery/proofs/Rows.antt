-- What an end does that knows its partner and takes nothing but a DR, and what one does that has left, row by row.
use Rattle.std.proofs.Common.{◌≡◌, ◌⊎◌, inl, inr, ℕ, ◌+◌, ◌<◌, Bool, true, false, ◌&&◌, not, nat_le, nat_lt, ◌==◌, List, [], ◌∷◌, ◌++◌, Some, None, refl, arith}
use Rattle.std.specs.List.{AllByRecursion}
use Rattle.std.proofs.lemmas.Bool.{ltb-true}
use Rattle.osi_base.proofs.Members.{all_both}
use Rattle.tpdu.specs.Values.{destination_of}
use Rattle.tpdu.specs.declared.service.Options.{Options}
use Rattle.tpdu.specs.declared.tpdu.Tpdu.{Tpdu}
use Rattle.tpdu.specs.declared.tpdu.Tpdu.TheVariants.{Cc, Cr, Dc, Dr}
use Rattle.tp4_number.specs.Number.{whole}
use Rattle.tp4_number.proofs.Past.{if_kept}
use Rattle.tp4_flow.specs.ReceivingHalf.{Half, half_granted}
use Rattle.tp4_flow.specs.declared.rules.FlowRules.{FlowRules}
use Rattle.tp4_flow.specs.declared.rules.Life.{Life}
use Rattle.tp4_flow.specs.declared.rules.Life.TheVariants.{Goes, Exhausted as Spent}
use Rattle.tp4_flow.specs.declared.step.Sent.{Sent}
use Rattle.tp4_sending.specs.SendingHalf.{FlowSender, Sendings, at, life_of, new_sends, ticked}
use Rattle.tp4_sending.specs.Pieces.{again}
use Rattle.tp4_conn.specs.Agreeing.{confirm, confirms_again}
use Rattle.tp4_conn.specs.AkWait.{ak_wait_tick, ak_wait_tpdu}
use Rattle.tp4_conn.specs.Closing.{closing_tick, closing_tpdu}
use Rattle.tp4_conn.specs.End.{End, Moved, end_of, span}
use Rattle.tp4_conn.specs.Matching.{fits, wants_sum}
use Rattle.tp4_conn.specs.Opened.{granting, opened_as, opened_goes, opened_tick, opened_tpdu}
use Rattle.tp4_conn.specs.Table.{Called, Event, Ticked, Took, at as now_at, on_call, stepped, takes}
use Rattle.tp4_conn.specs.UserWait.{user_wait_accept, user_wait_refuse, user_wait_tick}
use Rattle.tp4_conn.specs.WaitBeforeClose.{wait_before_close_tick, wait_before_close_tpdu}
use Rattle.tp4_conn.specs.declared.call.UserCall.{UserCall}
use Rattle.tp4_conn.specs.declared.call.UserCall.TheVariants as calls
use Rattle.tp4_conn.specs.declared.end_record.EndRecord.{EndRecord}
use Rattle.tp4_conn.specs.declared.states.InAkWait.{InAkWait}
use Rattle.tp4_conn.specs.declared.states.InClosing.{InClosing}
use Rattle.tp4_conn.specs.declared.states.InOpened.{InOpened}
use Rattle.tp4_conn.specs.declared.states.InWaitBeforeClose.{InWaitBeforeClose}
use Rattle.tp4_conn.specs.declared.states.StateData.{StateData}
use Rattle.tp4_conn.specs.declared.states.StateData.TheVariants as stages
use Rattle.law_tp4_pair.specs.Standing.{HasLeft}
use Rattle.tp4_world.proofs.Addressees.{either}
use Rattle.law_recovery_run.specs.Aside.{Names}
use Rattle.law_recovery_run.specs.Following.{IsBy}
use Rattle.law_recovery_run.proofs.Speaking.{HalvesSay, Sends, ak_said, submitted_sent, ticked_sent, urged_sent}
use Rattle.law_recovery_run.specs.Halves.{KnowsPartner}

-- ---- kinds

abbrev pub IsDr : Tpdu → Type 0
IsDr (Dr destination source reason info text) = Prim.Unit {0}
IsDr other = ⊥

abbrev pub IsCc : Tpdu → Type 0
IsCc (Cc credit destination source width calling called size preferred extra version classes ack_time text) = Prim.Unit {0}
IsCc other = ⊥

-- no CR, CC, DR and no DC
abbrev pub IsFlow : Tpdu → Type 0
IsFlow (Cr credit source width calling called size preferred extra version classes ack_time text) = ⊥
IsFlow (Cc credit destination source width calling called size preferred extra version classes ack_time text) = ⊥
IsFlow (Dr destination source reason info text) = ⊥
IsFlow (Dc destination source) = ⊥
IsFlow other = Prim.Unit {0}

abbrev pub AreFlow : List Sent → Type 0
AreFlow sents = AllByRecursion (λ (s : Sent). IsFlow s.tpdu) sents

-- it is of its user or its timers, and of no TPDU
abbrev pub IsAlone : Event → Type 0
IsAlone (Called call) = Prim.Unit {0}
IsAlone (Took tpdu sum) = ⊥
IsAlone Ticked = Prim.Unit {0}

-- ---- an end takes a DR

pub record IsUnmoved (b : EndRecord) (stage : StateData) (m : Moved) : Type 0 where
  pub end_is : end_of m ≡ record { base = b; stage = stage }
  pub none : m.tpdus ≡ []

pub dr_row : (now : ℕ) (b : EndRecord) (stage : StateData) (t : Tpdu) (sum : Bool) → KnowsPartner stage → IsDr t → fits b stage t ≡ true → IsUnmoved b stage (takes whole now b stage t sum) ⊎ HasLeft (takes whole now b stage t sum).stage
unfolding opened_tpdu ak_wait_tpdu
dr_row now b (stages.Opened o) (Dr destination source reason info text) sum half dr fit =
    if_kept (λ (m : Moved). IsUnmoved b (stages.Opened o) m ⊎ HasLeft m.stage) (wants_sum b (stages.Opened o) (Dr destination source reason info text) && not sum) _ _
    (λ _. inl (record { end_is = refl; none = refl })) (λ _. inr tt)
dr_row now b (stages.AkWait w) (Dr destination source reason info text) sum half dr fit =
    if_kept (λ (m : Moved). IsUnmoved b (stages.AkWait w) m ⊎ HasLeft m.stage) (wants_sum b (stages.AkWait w) (Dr destination source reason info text) && not sum) _ _
    (λ _. inl (record { end_is = refl; none = refl })) (λ _. inr tt)
dr_row now b (stages.UserWait since) t sum half dr fit = absurd (cc fit)
dr_row now b (stages.Opened o) t sum half dr fit = absurd dr
dr_row now b (stages.AkWait w) t sum half dr fit = absurd dr
dr_row now b stage t sum half dr fit = absurd half

-- ---- an Opened end, by its user or its timers

-- it is Opened still, and took nothing
pub record StaysOpened (b : EndRecord) (o : InOpened) (m : Moved) : Type 0 where
  pub base : m.base ≡ b
  pub now_in : InOpened
  pub stage : m.stage ≡ stages.Opened now_in
  pub took : now_in.took ≡ o.took
  pub tpdus : AreFlow m.tpdus

flow_by : (t : Tpdu) → ((own : ℕ) → IsBy own t) → ((r : ℕ) → destination_of t ≡ Some r → IsFlow t)
flow_by (Cc credit destination source width calling called size preferred extra version classes ack_time text) by r to = let none : source ≡ 0 = by 0 in let one : source ≡ 1 = by 1 in absurd (omega (arith, none, one))
flow_by (Dr destination source reason info text) by r to = let none : source ≡ 0 = by 0 in let one : source ≡ 1 = by 1 in absurd (omega (arith, none, one))
flow_by (Dc destination source) by r to = let none : source ≡ 0 = by 0 in let one : source ≡ 1 = by 1 in absurd (omega (arith, none, one))
flow_by (Cr credit source width calling called size preferred extra version classes ack_time text) by r to = absurd (cc to)
flow_by other by r to = tt

abbrev Q : Sent → Type 0
Q s = IsFlow s.tpdu

say : (rules : FlowRules) → HalvesSay Q rules
say rules = record { speaks = λ sent to target by format. flow_by sent.tpdu by rules.partner target }

module _ (b : EndRecord) (o : InOpened) where
  abbrev Goes_on : Moved → Type 0
  Goes_on m = HasLeft m.stage ⊎ StaysOpened b o m

  abbrev sender_rules : FlowRules
  sender_rules = o.halves.sending.rules

  abbrev receiver_rules : FlowRules
  receiver_rules = o.halves.receiving.rules

  grant_row : (new : Half) → new.rules ≡ receiver_rules → Goes_on (granting b o new)
  grant_row new is =
      either Goes_on (new.receiver.inbox.credit == o.halves.receiving.receiver.inbox.credit) _ _ (inr (record { base = refl; now_in = _; stage = refl; took = refl; tpdus = tt }))
      (inr (record { base = refl; now_in = _; stage = refl; took = refl; tpdus = (ak_said Q receiver_rules (say receiver_rules) new is, tt) }))

  call_row : (call : UserCall) → Goes_on (on_call b (stages.Opened o) call)
  call_row (calls.Normal unit) =
      inr (record { base = refl; now_in = _; stage = refl; took = refl; tpdus = (submitted_sent Q sender_rules (say sender_rules) (at b.clock o.halves.sending) unit refl).tpdus })
  call_row (calls.Urgent unit) = inr (record { base = refl; now_in = _; stage = refl; took = refl; tpdus = (urged_sent Q sender_rules (say sender_rules) (at b.clock o.halves.sending) unit refl).tpdus })
  call_row (calls.Window credit) = grant_row (half_granted o.halves.receiving credit) refl
  call_row (calls.Disconnect octets) = inl tt
  call_row (calls.Accept options octets) = inr (record { base = refl; now_in = _; stage = refl; took = refl; tpdus = tt })
  call_row (calls.Refuse octets) = inr (record { base = refl; now_in = _; stage = refl; took = refl; tpdus = tt })

  goes_row : (s : Sendings) → Sends Q sender_rules (say sender_rules) s → Goes_on (opened_goes b o s)
  goes_row s h =
      either Goes_on (nat_le (o.acked + b.timers.window) b.clock) _ _
      (inr (record { base = refl; now_in = _; stage = refl; took = refl; tpdus = all_both Q s.tpdus _ h.tpdus (ak_said Q receiver_rules (say receiver_rules) o.halves.receiving refl, tt) }))
      (inr (record { base = refl; now_in = _; stage = refl; took = refl; tpdus = h.tpdus }))

  as_row : (life : Life) → Goes_on (opened_as life b o)
  as_row Spent = inl tt
  as_row Goes = goes_row (ticked (at b.clock o.halves.sending)) (ticked_sent Q sender_rules (say sender_rules) (at b.clock o.halves.sending) (life_of (at b.clock o.halves.sending)) refl)

  tick_row : Goes_on (opened_tick b o)
  unfolding opened_tick
  tick_row = either Goes_on (nat_le (o.took + b.timers.inactive) b.clock) _ _ (inl tt) (as_row (life_of (at b.clock o.halves.sending)))

pub opened_alone : (now : ℕ) (b : EndRecord) (o : InOpened) (event : Event) → IsAlone event
    → HasLeft (stepped whole now (record { base = b; stage = stages.Opened o }) event).stage ⊎ StaysOpened (now_at now b) o (stepped whole now (record { base = b; stage = stages.Opened o }) event)
opened_alone now b o (Called call) alone = call_row (now_at now b) o call
opened_alone now b o (Took tpdu sum) alone = absurd alone
opened_alone now b o Ticked alone = tick_row (now_at now b) o

-- ---- an end in AkWait, by its user or its timers

-- it sent its CC again at that tick
pub record HasConfirmed (now : ℕ) (b : EndRecord) (w next : InAkWait) (m : Moved) : Type 0 where
  pub tries : next.tries ≡ again now w.tries
  pub few : w.tries.count < b.timers.sendings
  pub tpdus : m.tpdus ≡ confirms_again b b.agreed w.octets

-- it is in AkWait still, and sent nothing, or its CC again
pub record StaysAccepted (now : ℕ) (b : EndRecord) (w : InAkWait) (m : Moved) : Type 0 where
  pub base : m.base ≡ b
  pub next : InAkWait
  pub stage : m.stage ≡ stages.AkWait next
  pub first : next.first ≡ w.first
  pub does : ((next.tries ≡ w.tries) × (m.tpdus ≡ [])) ⊎ HasConfirmed now b w next m

shut_sends : (s : FlowSender) → s.is_open ≡ false → (new_sends s).tpdus ≡ []
shut_sends s shut = if_kept (λ (x : Sendings). x.tpdus ≡ []) s.is_open _ _ (λ is_open. absurd (cc (is_open, shut))) (λ _. refl)

module _ (b : EndRecord) (w : InAkWait) where
  abbrev Waits_on : Moved → Type 0
  Waits_on m = HasLeft m.stage ⊎ StaysAccepted b.clock b w m

  asked_row : w.halves.sending.is_open ≡ false → (call : UserCall) → Waits_on (on_call b (stages.AkWait w) call)
  asked_row shut (calls.Normal unit) = inr (record {
    base = refl;
    next = _;
    stage = refl;
    first = refl;
    does = inl (refl, shut_sends (let s = at b.clock w.halves.sending in record s { queue = record s.queue { units = s.queue.units ++ unit ∷ [] } }) shut);
  })
  asked_row shut (calls.Urgent unit) = inr (record {
    base = refl;
    next = _;
    stage = refl;
    first = refl;
    does = inl (refl, shut_sends (let s = at b.clock w.halves.sending in record s { urgent = record s.urgent { units = s.urgent.units ++ unit ∷ [] } }) shut);
  })
  asked_row shut (calls.Disconnect octets) = inl tt
  asked_row shut other = inr (record { base = refl; next = w; stage = refl; first = refl; does = inl (refl, refl) })

  waited_row : Waits_on (ak_wait_tick b w)
  unfolding ak_wait_tick
  waited_row =
      if_kept Waits_on (nat_lt b.clock (w.tries.last + b.timers.t1)) _ _ (λ _. inr (record { base = refl; next = w; stage = refl; first = refl; does = inl (refl, refl) }))
      (λ _. if_kept Waits_on (nat_lt w.tries.count b.timers.sendings) _ _
      (λ few. inr (record { base = refl; next = _; stage = refl; first = refl; does = inr (record { tries = refl; few = ltb-true w.tries.count b.timers.sendings few; tpdus = refl }) })) (λ _. inl tt))

pub accepted_alone : (now : ℕ) (b : EndRecord) (w : InAkWait) (event : Event) → IsAlone event → w.halves.sending.is_open ≡ false
    → HasLeft (stepped whole now (record { base = b; stage = stages.AkWait w }) event).stage ⊎ StaysAccepted now (now_at now b) w (stepped whole now (record { base = b; stage = stages.AkWait w }) event)
accepted_alone now b w (Called call) alone shut = asked_row (now_at now b) w shut call
accepted_alone now b w (Took tpdu sum) alone shut = absurd alone
accepted_alone now b w Ticked alone shut = waited_row (now_at now b) w

-- ---- an end in UserWait, by its user or its timers

-- its user has not answered still
pub record StaysAsked (b : EndRecord) (since : ℕ) (m : Moved) : Type 0 where
  pub base : m.base ≡ b
  pub stage : m.stage ≡ stages.UserWait since
  pub none : m.tpdus ≡ []

-- its user accepts, and it sends its CC
pub record HasAccepted (b : EndRecord) (m : Moved) : Type 0 where
  pub options : Options
  pub base : m.base ≡ record b { agreed = Some options }
  pub next : InAkWait
  pub stage : m.stage ≡ stages.AkWait next
  pub last : next.tries.last ≡ b.clock
  pub octets : List ℕ
  pub tpdus : m.tpdus ≡ confirm (record b { agreed = Some options }) options octets ∷ []

module _ (b : EndRecord) (since : ℕ) where
  abbrev Answers_or : Moved → Type 0
  Answers_or m = HasLeft m.stage ⊎ (StaysAsked b since m ⊎ HasAccepted b m)

  answer_row : (call : UserCall) → Answers_or (on_call b (stages.UserWait since) call)
  unfolding user_wait_accept user_wait_refuse
  answer_row (calls.Accept options octets) = inr (inr (record { options = _; base = refl; next = _; stage = refl; last = refl; octets = octets; tpdus = refl }))
  answer_row (calls.Refuse octets) = inl tt
  answer_row other = inr (inl (record { base = refl; stage = refl; none = refl }))

  late_row : Answers_or (user_wait_tick b since)
  unfolding user_wait_tick
  late_row = either Answers_or (nat_lt b.clock (since + b.timers.inactive)) _ _ (inr (inl (record { base = refl; stage = refl; none = refl }))) (inl tt)

pub asked_alone : (now : ℕ) (b : EndRecord) (since : ℕ) (event : Event) → IsAlone event
    → HasLeft (stepped whole now (record { base = b; stage = stages.UserWait since }) event).stage
    ⊎ (StaysAsked (now_at now b) since (stepped whole now (record { base = b; stage = stages.UserWait since }) event) ⊎ HasAccepted (now_at now b) (stepped whole now (record { base = b; stage = stages.UserWait since }) event))
asked_alone now b since (Called call) alone = answer_row (now_at now b) since call
asked_alone now b since (Took tpdu sum) alone = absurd alone
asked_alone now b since Ticked alone = late_row (now_at now b) since

-- ---- an end that has left

-- a DR, or a TPDU without a destination reference
abbrev pub IsParting : Sent → Type 0
IsParting sent = IsDr sent.tpdu ⊎ (destination_of sent.tpdu ≡ None)

closing_ticks : (b : EndRecord) (c : InClosing) → AllByRecursion IsParting (closing_tick b c).tpdus
unfolding closing_tick
closing_ticks b c =
    either (λ (m : Moved). AllByRecursion IsParting m.tpdus) (nat_le (c.from + span b.timers) b.clock) _ _ tt
    (either (λ (m : Moved). AllByRecursion IsParting m.tpdus) (nat_lt b.clock (c.last + b.timers.t1)) _ _ tt (inl tt, tt))

waiting_ticks : (b : EndRecord) (w : InWaitBeforeClose) → AllByRecursion IsParting (wait_before_close_tick b w).tpdus
unfolding wait_before_close_tick
waiting_ticks b w =
    either (λ (m : Moved). AllByRecursion IsParting m.tpdus) (nat_lt b.clock (w.request.tries.last + b.timers.t1)) _ _ tt
    (either (λ (m : Moved). AllByRecursion IsParting m.tpdus) (nat_lt w.request.tries.count b.timers.sendings) _ _ (inr refl, tt) tt)

pub left_alone : (now : ℕ) (e : End) (event : Event) → IsAlone event → HasLeft e.stage → AllByRecursion IsParting (stepped whole now e event).tpdus
left_alone now e event alone left = by e.stage event alone left
  where
    by : (stage : StateData) (event : Event) → IsAlone event → HasLeft stage → AllByRecursion IsParting (stepped whole now (record { base = e.base; stage = stage }) event).tpdus
    by (stages.Closing c) (Called call) alone left = tt
    by (stages.Closing c) Ticked alone left = closing_ticks (now_at now e.base) c
    by (stages.WaitBeforeClose w) (Called call) alone left = tt
    by (stages.WaitBeforeClose w) Ticked alone left = waiting_ticks (now_at now e.base) w
    by (stages.Frozen when) (Called call) alone left = tt
    by (stages.Frozen when) Ticked alone left = tt
    by stage (Took tpdu sum) alone left = absurd alone
    by stage event alone left = absurd left

-- it goes back to the end of whose DR it is the DC
pub record IsBack (b : EndRecord) (t : Tpdu) (sent : Sent) : Type 0 where
  pub source : ℕ
  pub target : destination_of sent.tpdu ≡ Some source
  pub to : sent.to ≡ b.to
  pub dr : IsDr t
  pub names : Names source t

-- a DR, or such a DC
abbrev pub IsPartingFor : EndRecord → Tpdu → Sent → Type 0
IsPartingFor b t sent = IsDr sent.tpdu ⊎ IsBack b t sent

closing_takes : (b : EndRecord) (c : InClosing) (t : Tpdu) → AllByRecursion (IsPartingFor b t) (closing_tpdu b c t).tpdus
unfolding closing_tpdu
closing_takes b c (Dc destination source) = tt
closing_takes b c other = tt

waiting_takes : (b : EndRecord) (w : InWaitBeforeClose) (t : Tpdu) → AllByRecursion (IsPartingFor b t) (wait_before_close_tpdu b w t).tpdus
unfolding wait_before_close_tpdu
waiting_takes b w (Cc credit destination source width calling called size preferred extra version classes ack_time text) = (inl tt, tt)
waiting_takes b w (Dr destination source reason info text) =
    either (AllByRecursion (IsPartingFor b (Dr destination source reason info text))) (source == 0) _ _ tt (inr (record { source = source; target = refl; to = refl; dr = tt; names = refl }), tt)
waiting_takes b w other = tt

back_at : (now : ℕ) (b : EndRecord) (t : Tpdu) (sents : List Sent) → AllByRecursion (IsPartingFor (now_at now b) t) sents → AllByRecursion (IsPartingFor b t) sents
back_at now b t [] all = tt
back_at now b t (sent ∷ sents) all = (
  elim all.0 [ inl dr ↦ inl dr | inr back ↦ inr (record { source = back.source; target = back.target; to = back.to; dr = back.dr; names = back.names }) ],
  back_at now b t sents all.1,
)

pub left_takes : (now : ℕ) (b : EndRecord) (stage : StateData) (t : Tpdu) (sum : Bool) → HasLeft stage → AllByRecursion (IsPartingFor b t) (takes whole now b stage t sum).tpdus
left_takes now b (stages.Closing c) t sum left =
    either (λ (m : Moved). AllByRecursion (IsPartingFor b t) m.tpdus) (wants_sum b (stages.Closing c) t && not sum) _ _ tt (back_at now b t _ (closing_takes (now_at now b) c t))
left_takes now b (stages.WaitBeforeClose w) t sum left =
    either (λ (m : Moved). AllByRecursion (IsPartingFor b t) m.tpdus) (wants_sum b (stages.WaitBeforeClose w) t && not sum) _ _ tt (back_at now b t _ (waiting_takes (now_at now b) w t))
left_takes now b (stages.Frozen when) t sum left =
    either (λ (m : Moved). AllByRecursion (IsPartingFor b t) m.tpdus) (wants_sum b (stages.Frozen when) t && not sum) _ _ tt tt
left_takes now b stage t sum left = absurd left
