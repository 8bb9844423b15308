-- What an end tells in a row that is no call, by the state before it: only an open end shows units, an end that asks is confirmed, and no other end
-- comes to be open (X.224, class 4 state tables).
use Rattle.std.proofs.Common.{◌≡◌, ◌⊎◌, inl, inr, ℕ, zero, suc, ◌+◌, ◌-◌, ◌||◌, ◌&&◌, ◌==◌, not, is_some, nat_lt, nat_le, Bool, true, List, [], ◌∷◌, ◌++◌, length, drop, Option, Some, None, refl}
use Rattle.std.specs.List.{AllByRecursion}
use Rattle.tpdu.specs.Writing.{IsAllowed}
use Rattle.tpdu.specs.declared.fault.TpduCause.TheVariants.{Checksum}
use Rattle.tpdu.specs.declared.tpdu.Format.{Format}
use Rattle.tpdu.specs.declared.tpdu.Tpdu.{Tpdu}
use Rattle.tpdu.specs.declared.tpdu.Tpdu.TheVariants as wires
use Rattle.tp4_number.specs.Number.{near}
use Rattle.tp4_number.specs.declared.got.Got.{Got}
use Rattle.tp4_number.specs.declared.got.Got.TheVariants.{TooLarge}
use Rattle.tp4_number.specs.declared.piece.Piece.{Piece}
use Rattle.tp4_number.proofs.Past.{if_kept}
use Rattle.tp4_flow.specs.ReceivingHalf.{dt_arrival, is_next, taken_dt}
use Rattle.tp4_flow.specs.Told.{gots}
use Rattle.tp4_flow.specs.declared.rules.Life.{Life}
use Rattle.tp4_flow.specs.declared.rules.Life.TheVariants.{Goes, Exhausted}
use Rattle.tpdu.specs.declared.service.Options.{Options}
use Rattle.tp4_flow.specs.declared.step.EndEvent.{EndEvent}
use Rattle.tp4_flow.specs.declared.step.What.{What}
use Rattle.tp4_flow.specs.declared.step.What.TheVariants as whats
use Rattle.tp4_sending.specs.SendingHalf.{FlowSender, Sendings, acknowledged, acknowledged_to, at, block_in, has_next, is_noted, is_outstanding, is_taken, is_urgent, life_of, new_sends, normals, normals_where, one_urgent, opened, resends, resends_urgent, resends_urgent_as, rule_allows, sent_normal, then_sends, ticked, ticked_as, urgent_done}
use Rattle.tp4_sending.specs.Pieces.{end_of as end_in, is_due}
use Rattle.tp4_sending.specs.declared.tries.Tries.{Tries}
use Rattle.tp4_conn.specs.declared.end_record.EndRecord.{EndRecord}
use Rattle.tp4_conn.specs.declared.halves.Halves.{Halves}
use Rattle.tp4_conn.specs.declared.states.InAkWait.{InAkWait}
use Rattle.tp4_conn.specs.declared.states.InOpened.{InOpened}
use Rattle.tp4_conn.specs.declared.states.InWaitBeforeClose.{InWaitBeforeClose}
use Rattle.tp4_conn.specs.declared.states.InClosing.{InClosing}
use Rattle.tp4_conn.specs.declared.states.InCrWait.{InCrWait}
use Rattle.tp4_conn.specs.declared.states.StateData.{StateData}
use Rattle.tp4_conn.specs.declared.states.StateData.TheVariants as stages
use Rattle.tp4_conn.specs.Agreeing.{halves_of, is_within, options_in}
use Rattle.tp4_conn.specs.AkWait.{ak_wait_tick, ak_wait_tpdu, opening}
use Rattle.tp4_conn.specs.Closing.{closing_tick, closing_tpdu}
use Rattle.tp4_conn.specs.CrWait.{cr_wait_tick, cr_wait_tpdu}
use Rattle.tp4_conn.specs.End.{End, IsSized, Moved, span}
use Rattle.tp4_conn.specs.Matching.{wants_sum}
use Rattle.tp4_conn.specs.Opened.{dt_as, hearing, is_expedited, opened_as, opened_goes, opened_tick, opened_tpdu, sending}
use Rattle.tp4_conn.specs.Table.{Ticked, Took, at as at_tick, on_tick, on_tpdu, stepped}
use Rattle.tp4_conn.specs.UserWait.{user_wait_tick}
use Rattle.tp4_conn.specs.WaitBeforeClose.{wait_before_close_tick, wait_before_close_tpdu}
use Rattle.tp4_conn.proofs.Sizes.{read_sized}
use Rattle.tpdu.specs.declared.service.EndTold.TheVariants as tells

-- ---- what is told

-- a number is held back
abbrev pub TellsHeld : What → Type 0
TellsHeld (whats.End (tells.Held kind number)) = Prim.Unit {0}
TellsHeld what = ⊥

-- of the units of an open end, and that it goes
abbrev pub IsFlow : What → Type 0
IsFlow (whats.End (tells.Got octets)) = Prim.Unit {0}
IsFlow (whats.End (tells.Urgent octets)) = Prim.Unit {0}
IsFlow (whats.End (tells.Held kind number)) = Prim.Unit {0}
IsFlow (whats.End (tells.Gone cause octets)) = Prim.Unit {0}
IsFlow (whats.BadTpdu cause place) = Prim.Unit {0}
IsFlow what = ⊥

-- that an end goes, and no more
abbrev pub IsParting : What → Type 0
IsParting (whats.End (tells.Gone cause octets)) = Prim.Unit {0}
IsParting (whats.BadTpdu cause place) = Prim.Unit {0}
IsParting what = ⊥

abbrev pub AllTold : (What → Type 0) → List EndEvent → Type 0
AllTold P told = AllByRecursion (λ (e : EndEvent). P e.what) told

-- ---- states

-- an end that was called, and did not accept
abbrev pub IsCalledWait : StateData → Type 0
IsCalledWait (stages.UserWait since) = Prim.Unit {0}
IsCalledWait (stages.Closing c) = Prim.Unit {0}
IsCalledWait (stages.Frozen when) = Prim.Unit {0}
IsCalledWait stage = ⊥

-- an end that calls, and was not confirmed
abbrev pub IsCallingWait : StateData → Type 0
IsCallingWait (stages.CrWait w) = Prim.Unit {0}
IsCallingWait (stages.WaitBeforeClose w) = Prim.Unit {0}
IsCallingWait (stages.Closing c) = Prim.Unit {0}
IsCallingWait (stages.Frozen when) = Prim.Unit {0}
IsCallingWait stage = ⊥

-- what an end tells in a state
abbrev pub MayTell : StateData → What → Type 0
MayTell (stages.AkWait w) what = IsFlow what
MayTell (stages.Opened o) what = IsFlow what
MayTell stage what = IsParting what

-- the state that may follow, where nothing is confirmed
abbrev pub MayFollow : StateData → StateData → Type 0
MayFollow (stages.UserWait since) new = IsCalledWait new
MayFollow (stages.Closing c) new = IsCalledWait new × IsCallingWait new
MayFollow (stages.Frozen when) new = IsCalledWait new × IsCallingWait new
MayFollow (stages.AkWait w) new = Prim.Unit {0}
MayFollow (stages.Opened o) new = Prim.Unit {0}
MayFollow other new = IsCallingWait new

pub record TellsSo (stage : StateData) (m : Moved) : Type 0 where
  pub told : AllTold (MayTell stage) m.events
  pub after : MayFollow stage m.stage

-- the end asked, and is confirmed
pub record ConfirmsSo (stage : StateData) (m : Moved) : Type 0 where
  pub w : InCrWait
  pub stage_is : stage ≡ stages.CrWait w
  pub options : Options
  pub octets : List ℕ
  pub rest : List EndEvent
  pub events_are : m.events ≡ record { reference = m.base.own; what = whats.End (tells.Confirm options octets) } ∷ rest
  pub held : AllTold TellsHeld rest
  pub sized : IsSized options

abbrev pub Tells : StateData → Moved → Type 0
Tells stage m = TellsSo stage m ⊎ ConfirmsSo stage m

-- ---- numbers that are held back

pub all_appended : (P : What → Type 0) (xs ys : List EndEvent) → AllTold P xs → AllTold P ys → AllTold P (xs ++ ys)
all_appended P [] ys first second = second
all_appended P (x ∷ xs) ys first second = (first.0, all_appended P xs ys first.1 second)

abbrev pub OnlyHeld : Sendings → Type 0
OnlyHeld x = AllTold TellsHeld x.events

one_held : (s : FlowSender) → OnlyHeld (one_urgent s)
one_held s =
    if_kept OnlyHeld (is_some s.urgent.out || length s.urgent.units == 0) _ _ (λ _. tt)
    (λ _. if_kept OnlyHeld (rule_allows s s.urgent.blocks s.urgent.next) _ _ (λ _. tt) (λ _. if_kept OnlyHeld (is_noted s.urgent.noted s.urgent.next) _ _ (λ _. tt) (λ _. (tt, tt))))

normals_held : (fuel : ℕ) (s : FlowSender) → OnlyHeld (normals fuel s)
normals_held zero s = tt
normals_held (suc fuel) s =
    if_kept OnlyHeld (not (has_next s)) _ _ (λ _. tt)
    (λ _. if_kept OnlyHeld (rule_allows s s.numbers.blocks s.numbers.next) _ _ (λ _. normals_held fuel (sent_normal s))
    (λ _. if_kept OnlyHeld (is_noted s.noted s.numbers.next) _ _ (λ _. tt) (λ _. (tt, tt))))

then_held : (x : Sendings) (next : FlowSender → Sendings) → OnlyHeld x → ((s : FlowSender) → OnlyHeld (next s)) → OnlyHeld (then_sends x next)
then_held x next first rest = all_appended TellsHeld x.events (next x.sender).events first (rest x.sender)

pub new_held : (s : FlowSender) → OnlyHeld (new_sends s)
new_held s =
    if_kept OnlyHeld s.is_open _ _
    (λ _. then_held (one_urgent s) normals_where (one_held s) (λ m. if_kept OnlyHeld (is_urgent m) _ _ (λ _. tt) (λ _. normals_held (end_in m.rules.piece m.queue - m.numbers.next) m)))
    (λ _. tt)

pub acknowledged_held : (s : FlowSender) (w credit subsequence : ℕ) → OnlyHeld (acknowledged s w credit subsequence)
acknowledged_held s w credit subsequence =
    if_kept OnlyHeld (is_taken s (near (block_in s) s.numbers.base w) credit subsequence) _ _ (λ _. new_held (acknowledged_to s (near (block_in s) s.numbers.base w) credit subsequence)) (λ _. tt)

pub done_held : (s : FlowSender) (w : ℕ) → OnlyHeld (urgent_done s w)
done_held s w = if_kept OnlyHeld (is_outstanding s w) _ _ (λ _. new_held (record s { urgent = record s.urgent { units = drop 1 s.urgent.units; out = None } })) (λ _. tt)

again_held : (s : FlowSender) (out : Option Tries) → OnlyHeld (resends_urgent_as out s)
again_held s None = tt
again_held s (Some tries) = if_kept OnlyHeld (is_due s.rules.t1 s.clock tries) _ _ (λ _. tt) (λ _. tt)

pub ticked_held : (life : Life) (s : FlowSender) → OnlyHeld (ticked_as life s)
ticked_held Exhausted s = tt
ticked_held Goes s = then_held (then_sends (resends s) resends_urgent) new_sends (then_held (resends s) resends_urgent tt (λ m. again_held m m.urgent.out)) new_held

held_flow : (what : What) → TellsHeld what → IsFlow what
held_flow (whats.End (tells.Held kind number)) is = tt
held_flow other is = absurd is

flows : (xs : List EndEvent) → AllTold TellsHeld xs → AllTold IsFlow xs
flows [] all = tt
flows (x ∷ xs) all = (held_flow x.what all.0, flows xs all.1)

gots_flow : (k : ℕ) (units : List (List ℕ)) → AllTold IsFlow (gots k units)
gots_flow k [] = tt
gots_flow k (unit ∷ units) = (tt, gots_flow k units)

-- ---- an open end

abbrev Flows : Moved → Type 0
Flows m = AllTold IsFlow m.events

module _ (wrap : ℕ → ℕ → ℕ) (b : EndRecord) where
  dt_flow : (got : Got) (o : InOpened) (w : ℕ) (piece : Piece) → Flows (dt_as got b o (taken_dt wrap o.halves.receiving w piece))
  dt_flow TooLarge o w piece = all_appended IsFlow (taken_dt wrap o.halves.receiving w piece).events _ (gots_flow _ (dt_arrival o.halves.receiving w piece).units) (tt, tt)
  dt_flow other o w piece = gots_flow _ _

  opened_flow : (o : InOpened) (tpdu : Tpdu) → Flows (opened_tpdu wrap b o tpdu)
  unfolding opened_tpdu
  opened_flow o (wires.Dr destination source reason info text) = (tt, tt)
  opened_flow o (wires.Er destination cause rejected) = (tt, tt)
  opened_flow o (wires.Dt destination last number text) =
      dt_flow (dt_arrival o.halves.receiving number (record { last = last; octets = text })).got o number (record { last = last; octets = text })
  opened_flow o (wires.Ed destination last number text) =
      if_kept Flows (is_expedited b.agreed) _ _ (λ _. if_kept (AllTold IsFlow) (is_next o.halves.receiving number) _ _ (λ _. (tt, tt)) (λ _. tt)) (λ _. (tt, tt))
  opened_flow o (wires.Ak destination number credit subsequence confirmation) =
      flows (acknowledged (at b.clock o.halves.sending) number credit subsequence).events (acknowledged_held (at b.clock o.halves.sending) number credit subsequence)
  opened_flow o (wires.Ea destination number) = flows (urgent_done (at b.clock o.halves.sending) number).events (done_held (at b.clock o.halves.sending) number)
  opened_flow o other = tt

  opens_flow : (h : Halves) (tpdu : Tpdu) → Flows (opening wrap b h tpdu)
  opens_flow h tpdu =
      all_appended IsFlow (opened (at b.clock h.sending)).events _ (flows (opened (at b.clock h.sending)).events (new_held (record (at b.clock h.sending) { is_open = true })))
      (opened_flow (record { took = b.clock; acked = b.clock; halves = record h { sending = (opened (at b.clock h.sending)).sender } }) tpdu)

  ak_flow : (w : InAkWait) (tpdu : Tpdu) → Flows (ak_wait_tpdu wrap b w tpdu)
  unfolding ak_wait_tpdu
  ak_flow w (wires.Ak destination number credit subsequence confirmation) = opens_flow w.halves (wires.Ak destination number credit subsequence confirmation)
  ak_flow w (wires.Dt destination last number text) = opens_flow w.halves (wires.Dt destination last number text)
  ak_flow w (wires.Ed destination last number text) = opens_flow w.halves (wires.Ed destination last number text)
  ak_flow w (wires.Ea destination number) = opens_flow w.halves (wires.Ea destination number)
  ak_flow w (wires.Dr destination source reason info text) = (tt, tt)
  ak_flow w (wires.Er destination cause rejected) = (tt, tt)
  ak_flow w other = tt

  goes_flow : (o : InOpened) (x : Sendings) → OnlyHeld x → Flows (opened_goes b o x)
  goes_flow o x h =
      if_kept Flows (nat_le (o.acked + b.timers.window) b.clock) _ _ (λ _. all_appended IsFlow x.events [] (flows x.events h) tt) (λ _. flows x.events h)

  as_flow : (life : Life) (o : InOpened) → Flows (opened_as life b o)
  as_flow Exhausted o = (tt, tt)
  as_flow Goes o = goes_flow o (ticked (at b.clock o.halves.sending)) (ticked_held (life_of (at b.clock o.halves.sending)) (at b.clock o.halves.sending))

  opened_tick_flow : (o : InOpened) → Flows (opened_tick b o)
  unfolding opened_tick
  opened_tick_flow o = if_kept Flows (nat_le (o.took + b.timers.inactive) b.clock) _ _ (λ _. (tt, tt)) (λ _. as_flow (life_of (at b.clock o.halves.sending)) o)

  ak_tick_flow : (w : InAkWait) → Flows (ak_wait_tick b w)
  unfolding ak_wait_tick
  ak_tick_flow w =
      if_kept Flows (nat_lt b.clock (w.tries.last + b.timers.t1)) _ _ (λ _. tt) (λ _. if_kept Flows (nat_lt w.tries.count b.timers.sendings) _ _ (λ _. tt) (λ _. (tt, tt)))

  -- ---- other ends

  so : (stage : StateData) (m : Moved) → AllTold (MayTell stage) m.events → MayFollow stage m.stage → Tells stage m
  so stage m told after = inl (record { told = told; after = after })

  -- the sending half of a confirmed end
  abbrev opening_half : EndRecord → Options → FlowSender
  opening_half c o = record (at c.clock (halves_of c o).sending) { is_open = true }

  cr_tells : (w : InCrWait) (width : Format) (tpdu : Tpdu) → IsAllowed width tpdu → Tells (stages.CrWait w) (cr_wait_tpdu b w tpdu)
  unfolding cr_wait_tpdu
  cr_tells w width (wires.Cc credit destination source given calling called size preferred extra version classes ack_time text) a =
      if_kept (Tells (stages.CrWait w)) (is_within b.proposed given size preferred extra) _ _
      (λ _. inr (record {
        w = w;
        stage_is = refl;
        options = options_in given size preferred extra;
        octets = text;
        rest = _;
        events_are = refl;
        held = new_held (opening_half (record b { partner = source; credit = credit; agreed = Some (options_in given size preferred extra) }) (options_in given size preferred extra));
        sized = read_sized given size preferred extra a.size_known a.preferred_known;
      }))
      (λ _. so (stages.CrWait w) _ (tt, tt) tt)
  cr_tells w width (wires.Dr destination source reason info text) a = so (stages.CrWait w) _ (tt, tt) tt
  cr_tells w width other a = so (stages.CrWait w) _ tt tt

  wait_tells : (w : InWaitBeforeClose) (tpdu : Tpdu) → Tells (stages.WaitBeforeClose w) (wait_before_close_tpdu b w tpdu)
  unfolding wait_before_close_tpdu
  wait_tells w (wires.Cc credit destination source width calling called size preferred extra version classes ack_time text) = so (stages.WaitBeforeClose w) _ tt tt
  wait_tells w other = so (stages.WaitBeforeClose w) _ tt tt

  closing_tells : (c : InClosing) (tpdu : Tpdu) → Tells (stages.Closing c) (closing_tpdu b c tpdu)
  unfolding closing_tpdu
  closing_tells c (wires.Dc destination source) = so (stages.Closing c) _ tt (tt, tt)
  closing_tells c other = so (stages.Closing c) _ tt (tt, tt)

  tpdu_tells : (stage : StateData) (width : Format) (tpdu : Tpdu) → IsAllowed width tpdu → Tells stage (on_tpdu wrap b stage tpdu)
  tpdu_tells (stages.CrWait w) width tpdu a = cr_tells w width tpdu a
  tpdu_tells (stages.WaitBeforeClose w) width tpdu a = wait_tells w tpdu
  tpdu_tells (stages.UserWait since) width tpdu a = so (stages.UserWait since) _ tt tt
  tpdu_tells (stages.AkWait w) width tpdu a = so (stages.AkWait w) _ (ak_flow w tpdu) tt
  tpdu_tells (stages.Opened o) width tpdu a = so (stages.Opened o) _ (opened_flow (hearing b o) tpdu) tt
  tpdu_tells (stages.Closing c) width tpdu a = closing_tells c tpdu
  tpdu_tells (stages.Frozen when) width tpdu a = so (stages.Frozen when) _ tt (tt, tt)

  cr_tick_tells : (w : InCrWait) → Tells (stages.CrWait w) (cr_wait_tick b w)
  unfolding cr_wait_tick
  cr_tick_tells w =
      if_kept (Tells (stages.CrWait w)) (nat_lt b.clock (w.tries.last + b.timers.t1)) _ _ (λ _. so (stages.CrWait w) _ tt tt)
      (λ _. if_kept (Tells (stages.CrWait w)) (nat_lt w.tries.count b.timers.sendings) _ _ (λ _. so (stages.CrWait w) _ tt tt) (λ _. so (stages.CrWait w) _ (tt, tt) tt))

  wait_tick_tells : (w : InWaitBeforeClose) → Tells (stages.WaitBeforeClose w) (wait_before_close_tick b w)
  unfolding wait_before_close_tick
  wait_tick_tells w =
      if_kept (Tells (stages.WaitBeforeClose w)) (nat_lt b.clock (w.request.tries.last + b.timers.t1)) _ _ (λ _. so (stages.WaitBeforeClose w) _ tt tt)
      (λ _. if_kept (Tells (stages.WaitBeforeClose w)) (nat_lt w.request.tries.count b.timers.sendings) _ _ (λ _. so (stages.WaitBeforeClose w) _ tt tt) (λ _. so (stages.WaitBeforeClose w) _ tt tt))

  user_tick_tells : (since : ℕ) → Tells (stages.UserWait since) (user_wait_tick b since)
  unfolding user_wait_tick
  user_tick_tells since =
      if_kept (Tells (stages.UserWait since)) (nat_lt b.clock (since + b.timers.inactive)) _ _ (λ _. so (stages.UserWait since) _ tt tt) (λ _. so (stages.UserWait since) _ (tt, tt) tt)

  closing_tick_tells : (c : InClosing) → Tells (stages.Closing c) (closing_tick b c)
  unfolding closing_tick
  closing_tick_tells c =
      if_kept (Tells (stages.Closing c)) (nat_le (c.from + span b.timers) b.clock) _ _ (λ _. so (stages.Closing c) _ tt (tt, tt))
      (λ _. if_kept (Tells (stages.Closing c)) (nat_lt b.clock (c.last + b.timers.t1)) _ _ (λ _. so (stages.Closing c) _ tt (tt, tt)) (λ _. so (stages.Closing c) _ tt (tt, tt)))

  tick_tells : (stage : StateData) → Tells stage (on_tick b stage)
  tick_tells (stages.CrWait w) = cr_tick_tells w
  tick_tells (stages.WaitBeforeClose w) = wait_tick_tells w
  tick_tells (stages.UserWait since) = user_tick_tells since
  tick_tells (stages.AkWait w) = so (stages.AkWait w) _ (ak_tick_flow w) tt
  tick_tells (stages.Opened o) = so (stages.Opened o) _ (opened_tick_flow o) tt
  tick_tells (stages.Closing c) = closing_tick_tells c
  tick_tells (stages.Frozen when) = so (stages.Frozen when) _ tt (tt, tt)

-- ---- a row

pub parting_flow : (what : What) → IsParting what → IsFlow what
parting_flow (whats.End (tells.Gone cause octets)) h = tt
parting_flow (whats.BadTpdu cause place) h = tt
parting_flow other h = absurd h

-- an end tells of a fault alone what it may tell in every state, and stays as it is
fault_tells : (stage : StateData) (event : EndEvent) → IsParting event.what → AllTold (MayTell stage) (event ∷ []) × MayFollow stage stage
fault_tells (stages.AkWait w) event is = ((parting_flow event.what is, tt), tt)
fault_tells (stages.Opened o) event is = ((parting_flow event.what is, tt), tt)
fault_tells (stages.Closing c) event is = ((is, tt), (tt, tt))
fault_tells (stages.Frozen when) event is = ((is, tt), (tt, tt))
fault_tells other event is = ((is, tt), tt)

pub taking_tells : (wrap : ℕ → ℕ → ℕ) (now : ℕ) (e : End) (width : Format) (tpdu : Tpdu) (sum : Bool) → IsAllowed width tpdu → Tells e.stage (stepped wrap now e (Took tpdu sum))
taking_tells wrap now e width tpdu sum a =
    if_kept (Tells e.stage) (wants_sum e.base e.stage tpdu && not sum) _ _
    (λ _. let f = fault_tells e.stage (record { reference = 0; what = whats.BadTpdu Checksum 0 }) tt in inl (record { told = f.0; after = f.1 }))
    (λ _. tpdu_tells wrap (at_tick now e.base) e.stage width tpdu a)

pub ticking_tells : (wrap : ℕ → ℕ → ℕ) (now : ℕ) (e : End) → Tells e.stage (stepped wrap now e Ticked)
ticking_tells wrap now e = tick_tells wrap (at_tick now e.base) e.stage
