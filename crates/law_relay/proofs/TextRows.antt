-- What an end shows, and what it tells of a connection, is made of the texts that came to it (X.224, class 4 state tables; segmentation and reassembling): of what
-- holds of no octets, and of two texts one after another.
use Rattle.std.proofs.Common.{ℕ, zero, suc, ◌+◌, ◌==◌, ◌&&◌, not, nat_lt, nat_le, replicate, drop, slice_set, true, List, [], ◌∷◌, ◌++◌, Option, Some, None}
use Rattle.std.specs.List.{AllByRecursion}
use Rattle.tpdu.specs.declared.tpdu.Tpdu.{Tpdu}
use Rattle.tpdu.specs.declared.tpdu.Tpdu.TheVariants as wires
use Rattle.tp4_number.specs.Number.{ahead, wire}
use Rattle.tp4_number.specs.Receiver.{Arrived, Inbox, arrived_as, in_order, judged, kept}
use Rattle.tp4_number.specs.Window.{Held, Joined, begun_by, is_larger, joined, joined_by, placed}
use Rattle.tp4_number.specs.Formats.{most_of}
use Rattle.tp4_number.specs.declared.got.Got.{Got}
use Rattle.tp4_number.specs.declared.got.Got.TheVariants.{Kept, TooLarge}
use Rattle.tp4_number.specs.declared.piece.Piece.{Piece}
use Rattle.tp4_number.proofs.Past.{if_kept}
use Rattle.tp4_flow.specs.ReceivingHalf.{Half, Received, allowed, block_in, dt_arrival, empty, half_granted, is_next, taken_dt, taken_ed}
use Rattle.tp4_flow.specs.Told.{gots}
use Rattle.tp4_flow.specs.declared.rules.FlowRules.{FlowRules}
use Rattle.tp4_flow.specs.declared.rules.Life.{Life}
use Rattle.tp4_flow.specs.declared.rules.Life.TheVariants.{Goes, Exhausted}
use Rattle.tpdu.specs.declared.service.Options.{Options}
use Rattle.tp4_flow.specs.declared.step.EndEvent.{EndEvent}
use Rattle.tp4_flow.specs.declared.step.Sent.{Sent}
use Rattle.tp4_flow.specs.declared.step.What.{What}
use Rattle.tp4_flow.specs.declared.step.What.TheVariants as whats
use Rattle.tp4_sending.specs.SendingHalf.{FlowSender, Sendings, acknowledged, at, life_of, opened, submitted, ticked, urged, urgent_done}
use Rattle.tp4_conn.specs.declared.end_record.EndRecord.{EndRecord}
use Rattle.tp4_conn.specs.declared.call.UserCall.{UserCall}
use Rattle.tp4_conn.specs.declared.call.UserCall.TheVariants as asks
use Rattle.tp4_conn.specs.declared.halves.Halves.{Halves}
use Rattle.tp4_conn.specs.declared.states.InAkWait.{InAkWait}
use Rattle.tp4_conn.specs.declared.states.InOpened.{InOpened}
use Rattle.tp4_conn.specs.declared.states.InWaitBeforeClose.{InWaitBeforeClose}
use Rattle.tp4_conn.specs.declared.states.InClosing.{InClosing}
use Rattle.tp4_conn.specs.declared.states.InCrWait.{InCrWait}
use Rattle.tp4_conn.specs.declared.states.StateData.{StateData}
use Rattle.tp4_conn.specs.declared.states.StateData.TheVariants as stages
use Rattle.tp4_conn.specs.Agreeing.{agreed_by, flow_rules, halves_of, is_within, options_in}
use Rattle.tp4_conn.specs.AkWait.{ak_wait_tick, ak_wait_tpdu, opening}
use Rattle.tp4_conn.specs.Closing.{closing_tick, closing_tpdu}
use Rattle.tp4_conn.specs.CrWait.{cr_wait_tick, cr_wait_tpdu}
use Rattle.tp4_conn.specs.End.{End, Moved, led_by, span}
use Rattle.tp4_conn.specs.Matching.{wants_sum}
use Rattle.tp4_conn.specs.Opened.{acking, dt_as, granting, hearing, is_expedited, opened_as, opened_goes, opened_tick, opened_tpdu, receiving, sending}
use Rattle.tp4_conn.specs.Table.{Called, Event, Ticked, Took, at as at_tick, on_call, on_tick, on_tpdu, stepped}
use Rattle.tp4_conn.specs.UserWait.{user_wait_accept, user_wait_refuse, user_wait_tick}
use Rattle.tp4_conn.specs.WaitBeforeClose.{wait_before_close_tick, wait_before_close_tpdu}
use Rattle.law_relay.proofs.CallRows.{submitted_held, urged_held}
use Rattle.law_relay.proofs.StageRows.{AllTold, TellsHeld, OnlyHeld, acknowledged_held, all_appended, done_held, new_held, ticked_held}
use Rattle.tpdu.specs.declared.service.EndTold.TheVariants as tells

module _ (P : List ℕ → Type 0) (none : P []) (both : (xs ys : List ℕ) → P xs → P ys → P (xs ++ ys)) where
  -- ---- pieces

  abbrev pub IsPlaceOf : Option Piece → Type 0
  IsPlaceOf None = Prim.Unit {0}
  IsPlaceOf (Some piece) = P piece.octets

  abbrev ArePlaces : List (Option Piece) → Type 0
  ArePlaces places = AllByRecursion IsPlaceOf places

  abbrev AreTexts : List (List ℕ) → Type 0
  AreTexts units = AllByRecursion P units

  pub record IsHeldOf (held : Held) : Type 0 where
    pub places : ArePlaces held.places
    pub begun : P held.begun

  record IsJoined (j : Joined) : Type 0 where
    units : AreTexts j.units
    begun : P j.begun

  record IsArrived (a : Arrived) : Type 0 where
    units : AreTexts a.units
    held : IsHeldOf a.inbox.held

  set_place : (places : List (Option Piece)) (d : ℕ) (piece : Piece) → ArePlaces places → P piece.octets → ArePlaces (slice_set places d (Some piece))
  set_place [] d piece all p = tt
  set_place (place ∷ places) zero piece all p = (p, all.1)
  set_place (place ∷ places) (suc d) piece all p = (all.0, set_place places d piece all.1 p)

  drop_places : (count : ℕ) (places : List (Option Piece)) → ArePlaces places → ArePlaces (drop count places)
  drop_places zero places all = all
  drop_places (suc count) [] all = tt
  drop_places (suc count) (place ∷ places) all = drop_places count places all.1

  no_places : (count : ℕ) → ArePlaces (replicate count None)
  no_places zero = tt
  no_places (suc count) = (tt, no_places count)

  both_places : (xs ys : List (Option Piece)) → ArePlaces xs → ArePlaces ys → ArePlaces (xs ++ ys)
  both_places [] ys first rest = rest
  both_places (x ∷ xs) ys first rest = (first.0, both_places xs ys first.1 rest)

  last_is : (piece : Piece) (octets : List ℕ) (rest : Joined) → P octets → IsJoined rest → IsJoined (joined_by piece octets rest)
  last_is piece octets rest p j = record { units = if_kept AreTexts piece.last _ _ (λ _. (p, j.units)) (λ _. j.units); begun = j.begun }

  begun_is : (piece : Piece) (octets : List ℕ) → P octets → P (begun_by piece octets)
  begun_is piece octets p = if_kept P piece.last _ _ (λ _. none) (λ _. p)

  joined_is : (places : List (Option Piece)) (begun : List ℕ) → P begun → ArePlaces places → IsJoined (joined begun places)
  joined_is [] begun p all = record { units = tt; begun = p }
  joined_is (None ∷ places) begun p all = record { units = tt; begun = p }
  joined_is (Some piece ∷ places) begun p all =
      let more : P (begun ++ piece.octets) = both begun piece.octets p all.0 in
      if_kept IsJoined (is_larger begun piece) _ _ (λ _. record { units = tt; begun = p })
      (λ _. last_is piece (begun ++ piece.octets) (joined (begun_by piece (begun ++ piece.octets)) places) more
      (joined_is places (begun_by piece (begun ++ piece.octets)) (begun_is piece (begun ++ piece.octets) more) all.1))

  in_order_is : (held : Held) (d : ℕ) → IsHeldOf held → IsJoined (in_order held d)
  in_order_is held d h = if_kept IsJoined (d == 0) _ _ (λ _. joined_is held.places held.begun h.begun h.places) (λ _. record { units = tt; begun = h.begun })

  kept_is : (inbox : Inbox) (held : Held) (j : Joined) → IsHeldOf held → IsJoined j → IsArrived (kept inbox held j)
  kept_is inbox held j h is = record {
    units = is.units;
    held = record { places = both_places (drop j.count held.places) (replicate j.count None) (drop_places j.count held.places h.places) (no_places j.count); begun = is.begun };
  }

  arrived_is : (got : Got) (inbox : Inbox) (d : ℕ) (piece : Piece) → IsHeldOf inbox.held → P piece.octets → IsArrived (arrived_as got inbox d piece)
  arrived_is Kept inbox d piece h p =
      let put : IsHeldOf (placed inbox.held d piece) = record { places = set_place inbox.held.places d piece h.places p; begun = h.begun } in
      kept_is inbox (placed inbox.held d piece) (in_order (placed inbox.held d piece) d) put (in_order_is (placed inbox.held d piece) d put)
  arrived_is other inbox d piece h p = record { units = tt; held = h }

  -- ---- a receiving half

  abbrev pub IsHalfOf : Half → Type 0
  IsHalfOf h = IsHeldOf h.receiver.inbox.held

  dt_is : (h : Half) (w : ℕ) (piece : Piece) → IsHalfOf h → P piece.octets → IsArrived (dt_arrival h w piece)
  dt_is h w piece is p =
      let block : ℕ = block_in h in
      let d : ℕ = ahead block (wire block h.receiver.expected) w in
      arrived_is (judged block h.receiver.inbox d) h.receiver.inbox d piece is p

  empty_is : (rules : FlowRules) (credit : ℕ) → IsHalfOf (empty rules credit)
  empty_is rules credit = record { places = no_places (most_of rules.format); begun = none }

  granted_is : (h : Half) (credit : ℕ) → IsHalfOf h → IsHalfOf (half_granted h credit)
  granted_is h credit is =
      let inbox : Inbox = h.receiver.inbox in
      let most : ℕ = allowed h.rules.format credit in
      if_kept (λ (i : Inbox). IsHeldOf i.held) (nat_lt most inbox.credit) _ _ (λ _. if_kept (λ (i : Inbox). IsHeldOf i.held) (inbox.subsequence == 65535) _ _ (λ _. is) (λ _. is)) (λ _. is)

  -- ---- what is told, and the states

  abbrev pub IsTextOf : What → Type 0
  IsTextOf (whats.End (tells.Got octets)) = P octets
  IsTextOf (whats.End (tells.Urgent octets)) = P octets
  IsTextOf (whats.End (tells.Confirm options octets)) = P octets
  IsTextOf (whats.Incoming from partner calling called options octets) = P octets
  IsTextOf what = Prim.Unit {0}

  abbrev pub HasText : Tpdu → Type 0
  HasText (wires.Cr credit source width calling called size preferred extra version classes ack_time text) = P text
  HasText (wires.Cc credit destination source width calling called size preferred extra version classes ack_time text) = P text
  HasText (wires.Dt destination last number text) = P text
  HasText (wires.Ed destination last number text) = P text
  HasText other = Prim.Unit {0}

  abbrev pub IsStageOf : StateData → Type 0
  IsStageOf (stages.AkWait w) = IsHalfOf w.halves.receiving
  IsStageOf (stages.Opened o) = IsHalfOf o.halves.receiving
  IsStageOf stage = Prim.Unit {0}

  pub record IsRowOfTexts (m : Moved) : Type 0 where
    pub stage : IsStageOf m.stage
    pub told : AllTold IsTextOf m.events

  held_is : (what : What) → TellsHeld what → IsTextOf what
  held_is (whats.End (tells.Held kind number)) is = tt
  held_is other is = absurd is

  helds : (xs : List EndEvent) → AllTold TellsHeld xs → AllTold IsTextOf xs
  helds [] all = tt
  helds (x ∷ xs) all = (held_is x.what all.0, helds xs all.1)

  gots_are : (own : ℕ) (units : List (List ℕ)) → AreTexts units → AllTold IsTextOf (gots own units)
  gots_are own [] all = tt
  gots_are own (unit ∷ units) all = (all.0, gots_are own units all.1)

  led_is : (events : List EndEvent) (tpdus : List Sent) (m : Moved) → AllTold IsTextOf events → IsRowOfTexts m → IsRowOfTexts (led_by events tpdus m)
  led_is events tpdus m first row = record { stage = row.stage; told = all_appended IsTextOf events m.events first row.told }

  -- ---- an open end

  module _ (wrap : ℕ → ℕ → ℕ) (b : EndRecord) where
    sending_is : (o : InOpened) (x : Sendings) → IsHalfOf o.halves.receiving → OnlyHeld x → IsRowOfTexts (sending b o x)
    sending_is o x h held = record { stage = h; told = helds x.events held }

    receiving_is : (o : InOpened) (r : Received) → IsHalfOf r.half → AllTold IsTextOf r.events → IsRowOfTexts (receiving b o r)
    receiving_is o r h told = record { stage = h; told = told }

    dt_row : (got : Got) (o : InOpened) (r : Received) → IsHalfOf r.half → AllTold IsTextOf r.events → IsRowOfTexts (dt_as got b o r)
    dt_row TooLarge o r h told = record { stage = tt; told = all_appended IsTextOf r.events _ told (tt, tt) }
    dt_row other o r h told = receiving_is (acking b o) r h told

    ed_row : (o : InOpened) (w : ℕ) (octets : List ℕ) → IsHalfOf o.halves.receiving → P octets → IsRowOfTexts (receiving b o (taken_ed wrap o.halves.receiving w octets))
    ed_row o w octets h p =
        receiving_is o (taken_ed wrap o.halves.receiving w octets) (if_kept IsHalfOf (is_next o.halves.receiving w) _ _ (λ _. h) (λ _. h))
        (if_kept (AllTold IsTextOf) (is_next o.halves.receiving w) _ _ (λ _. (p, tt)) (λ _. tt))

    opened_is : (o : InOpened) (tpdu : Tpdu) → IsHalfOf o.halves.receiving → HasText tpdu → IsRowOfTexts (opened_tpdu wrap b o tpdu)
    unfolding opened_tpdu
    opened_is o (wires.Dr destination source reason info text) h p = record { stage = tt; told = (tt, tt) }
    opened_is o (wires.Er destination cause rejected) h p = record { stage = tt; told = (tt, tt) }
    opened_is o (wires.Dt destination last number text) h p =
        let piece : Piece = record { last = last; octets = text } in
        let a = dt_is o.halves.receiving number piece h p in
        dt_row (dt_arrival o.halves.receiving number piece).got o (taken_dt wrap o.halves.receiving number piece) a.held
        (gots_are o.halves.receiving.rules.own (dt_arrival o.halves.receiving number piece).units a.units)
    opened_is o (wires.Ed destination last number text) h p =
        if_kept IsRowOfTexts (is_expedited b.agreed) _ _ (λ _. ed_row o number text h p) (λ _. record { stage = tt; told = (tt, tt) })
    opened_is o (wires.Ak destination number credit subsequence confirmation) h p =
        sending_is o (acknowledged (at b.clock o.halves.sending) number credit subsequence) h (acknowledged_held (at b.clock o.halves.sending) number credit subsequence)
    opened_is o (wires.Ea destination number) h p = sending_is o (urgent_done (at b.clock o.halves.sending) number) h (done_held (at b.clock o.halves.sending) number)
    opened_is o other h p = record { stage = h; told = tt }

    opens_is : (h : Halves) (tpdu : Tpdu) → IsHalfOf h.receiving → HasText tpdu → IsRowOfTexts (opening wrap b h tpdu)
    opens_is h tpdu is p =
        led_is (opened (at b.clock h.sending)).events (opened (at b.clock h.sending)).tpdus _
        (helds (opened (at b.clock h.sending)).events (new_held (record (at b.clock h.sending) { is_open = true })))
        (opened_is (record { took = b.clock; acked = b.clock; halves = record h { sending = (opened (at b.clock h.sending)).sender } }) tpdu is p)

    ak_is : (w : InAkWait) (tpdu : Tpdu) → IsHalfOf w.halves.receiving → HasText tpdu → IsRowOfTexts (ak_wait_tpdu wrap b w tpdu)
    unfolding ak_wait_tpdu
    ak_is w (wires.Ak destination number credit subsequence confirmation) h p = opens_is w.halves (wires.Ak destination number credit subsequence confirmation) h p
    ak_is w (wires.Dt destination last number text) h p = opens_is w.halves (wires.Dt destination last number text) h p
    ak_is w (wires.Ed destination last number text) h p = opens_is w.halves (wires.Ed destination last number text) h p
    ak_is w (wires.Ea destination number) h p = opens_is w.halves (wires.Ea destination number) h p
    ak_is w (wires.Dr destination source reason info text) h p = record { stage = tt; told = (tt, tt) }
    ak_is w (wires.Er destination cause rejected) h p = record { stage = tt; told = (tt, tt) }
    ak_is w other h p = record { stage = h; told = tt }

    goes_is : (o : InOpened) (x : Sendings) → IsHalfOf o.halves.receiving → OnlyHeld x → IsRowOfTexts (opened_goes b o x)
    goes_is o x h held =
        if_kept IsRowOfTexts (nat_le (o.acked + b.timers.window) b.clock) _ _ (λ _. record { stage = h; told = all_appended IsTextOf x.events [] (helds x.events held) tt })
        (λ _. sending_is o x h held)

    as_is : (life : Life) (o : InOpened) → IsHalfOf o.halves.receiving → IsRowOfTexts (opened_as life b o)
    as_is Exhausted o h = record { stage = tt; told = (tt, tt) }
    as_is Goes o h = goes_is o (ticked (at b.clock o.halves.sending)) h (ticked_held (life_of (at b.clock o.halves.sending)) (at b.clock o.halves.sending))

    opened_tick_is : (o : InOpened) → IsHalfOf o.halves.receiving → IsRowOfTexts (opened_tick b o)
    unfolding opened_tick
    opened_tick_is o h =
        if_kept IsRowOfTexts (nat_le (o.took + b.timers.inactive) b.clock) _ _ (λ _. record { stage = tt; told = (tt, tt) }) (λ _. as_is (life_of (at b.clock o.halves.sending)) o h)

    ak_tick_is : (w : InAkWait) → IsHalfOf w.halves.receiving → IsRowOfTexts (ak_wait_tick b w)
    unfolding ak_wait_tick
    ak_tick_is w h =
        if_kept IsRowOfTexts (nat_lt b.clock (w.tries.last + b.timers.t1)) _ _ (λ _. record { stage = h; told = tt })
        (λ _. if_kept IsRowOfTexts (nat_lt w.tries.count b.timers.sendings) _ _ (λ _. record { stage = h; told = tt }) (λ _. record { stage = tt; told = (tt, tt) }))

    -- ---- other ends

    cr_is : (w : InCrWait) (tpdu : Tpdu) → HasText tpdu → IsRowOfTexts (cr_wait_tpdu b w tpdu)
    unfolding cr_wait_tpdu
    cr_is w (wires.Cc credit destination source given calling called size preferred extra version classes ack_time text) p =
        let o : Options = options_in given size preferred extra in
        let c : EndRecord = record b { partner = source; credit = credit; agreed = Some o } in
        let s : FlowSender = at c.clock (halves_of c o).sending in
        if_kept IsRowOfTexts (is_within b.proposed given size preferred extra) _ _
        (λ _. record { stage = empty_is (flow_rules c o) c.timers.credit; told = (p, helds (opened s).events (new_held (record s { is_open = true }))) })
        (λ _. record { stage = tt; told = (tt, tt) })
    cr_is w (wires.Dr destination source reason info text) p = record { stage = tt; told = (tt, tt) }
    cr_is w other p = record { stage = tt; told = tt }

    wait_is : (w : InWaitBeforeClose) (tpdu : Tpdu) → IsRowOfTexts (wait_before_close_tpdu b w tpdu)
    unfolding wait_before_close_tpdu
    wait_is w (wires.Cc credit destination source width calling called size preferred extra version classes ack_time text) = record { stage = tt; told = tt }
    wait_is w other = record { stage = tt; told = tt }

    closing_is : (c : InClosing) (tpdu : Tpdu) → IsRowOfTexts (closing_tpdu b c tpdu)
    unfolding closing_tpdu
    closing_is c (wires.Dc destination source) = record { stage = tt; told = tt }
    closing_is c other = record { stage = tt; told = tt }

    tpdu_is : (stage : StateData) (tpdu : Tpdu) → IsStageOf stage → HasText tpdu → IsRowOfTexts (on_tpdu wrap b stage tpdu)
    tpdu_is (stages.CrWait w) tpdu h p = cr_is w tpdu p
    tpdu_is (stages.WaitBeforeClose w) tpdu h p = wait_is w tpdu
    tpdu_is (stages.AkWait w) tpdu h p = ak_is w tpdu h p
    tpdu_is (stages.Opened o) tpdu h p = opened_is (hearing b o) tpdu h p
    tpdu_is (stages.Closing c) tpdu h p = closing_is c tpdu
    tpdu_is other tpdu h p = record { stage = tt; told = tt }

    cr_tick_is : (w : InCrWait) → IsRowOfTexts (cr_wait_tick b w)
    unfolding cr_wait_tick
    cr_tick_is w =
        if_kept IsRowOfTexts (nat_lt b.clock (w.tries.last + b.timers.t1)) _ _ (λ _. record { stage = tt; told = tt })
        (λ _. if_kept IsRowOfTexts (nat_lt w.tries.count b.timers.sendings) _ _ (λ _. record { stage = tt; told = tt }) (λ _. record { stage = tt; told = (tt, tt) }))

    wait_tick_is : (w : InWaitBeforeClose) → IsRowOfTexts (wait_before_close_tick b w)
    unfolding wait_before_close_tick
    wait_tick_is w =
        if_kept IsRowOfTexts (nat_lt b.clock (w.request.tries.last + b.timers.t1)) _ _ (λ _. record { stage = tt; told = tt })
        (λ _. if_kept IsRowOfTexts (nat_lt w.request.tries.count b.timers.sendings) _ _ (λ _. record { stage = tt; told = tt }) (λ _. record { stage = tt; told = tt }))

    user_tick_is : (since : ℕ) → IsRowOfTexts (user_wait_tick b since)
    unfolding user_wait_tick
    user_tick_is since = if_kept IsRowOfTexts (nat_lt b.clock (since + b.timers.inactive)) _ _ (λ _. record { stage = tt; told = tt }) (λ _. record { stage = tt; told = (tt, tt) })

    closing_tick_is : (c : InClosing) → IsRowOfTexts (closing_tick b c)
    unfolding closing_tick
    closing_tick_is c =
        if_kept IsRowOfTexts (nat_le (c.from + span b.timers) b.clock) _ _ (λ _. record { stage = tt; told = tt })
        (λ _. if_kept IsRowOfTexts (nat_lt b.clock (c.last + b.timers.t1)) _ _ (λ _. record { stage = tt; told = tt }) (λ _. record { stage = tt; told = tt }))

    tick_is : (stage : StateData) → IsStageOf stage → IsRowOfTexts (on_tick b stage)
    tick_is (stages.CrWait w) h = cr_tick_is w
    tick_is (stages.WaitBeforeClose w) h = wait_tick_is w
    tick_is (stages.UserWait since) h = user_tick_is since
    tick_is (stages.AkWait w) h = ak_tick_is w h
    tick_is (stages.Opened o) h = opened_tick_is o h
    tick_is (stages.Closing c) h = closing_tick_is c
    tick_is (stages.Frozen when) h = record { stage = tt; told = tt }

    -- ---- calls

    accept_is : (asked : Options) (octets : List ℕ) → IsRowOfTexts (user_wait_accept b asked octets)
    unfolding user_wait_accept
    accept_is asked octets =
        let o : Options = agreed_by b.proposed asked in
        let c : EndRecord = record b { agreed = Some o } in
        record { stage = empty_is (flow_rules c o) c.timers.credit; told = (tt, tt) }

    refuse_is : (octets : List ℕ) → IsRowOfTexts (user_wait_refuse b octets)
    unfolding user_wait_refuse
    refuse_is octets = record { stage = tt; told = tt }

    granting_is : (o : InOpened) (new : Half) → IsHalfOf new → IsRowOfTexts (granting b o new)
    granting_is o new h =
        if_kept IsRowOfTexts (new.receiver.inbox.credit == o.halves.receiving.receiver.inbox.credit) _ _ (λ _. record { stage = h; told = (tt, tt) }) (λ _. record { stage = h; told = (tt, tt) })

    call_is : (stage : StateData) (call : UserCall) → IsStageOf stage → IsRowOfTexts (on_call b stage call)
    call_is (stages.CrWait w) (asks.Disconnect octets) h = record { stage = tt; told = tt }
    call_is (stages.UserWait since) (asks.Accept asked octets) h = accept_is asked octets
    call_is (stages.UserWait since) (asks.Refuse octets) h = refuse_is octets
    call_is (stages.AkWait w) (asks.Normal unit) h = record { stage = h; told = helds _ (submitted_held (at b.clock w.halves.sending) unit) }
    call_is (stages.AkWait w) (asks.Urgent unit) h = record { stage = h; told = helds _ (urged_held (at b.clock w.halves.sending) unit) }
    call_is (stages.AkWait w) (asks.Disconnect octets) h = record { stage = tt; told = tt }
    call_is (stages.Opened o) (asks.Normal unit) h = sending_is o (submitted (at b.clock o.halves.sending) unit) h (submitted_held (at b.clock o.halves.sending) unit)
    call_is (stages.Opened o) (asks.Urgent unit) h = sending_is o (urged (at b.clock o.halves.sending) unit) h (urged_held (at b.clock o.halves.sending) unit)
    call_is (stages.Opened o) (asks.Window credit) h = granting_is o (half_granted o.halves.receiving credit) (granted_is o.halves.receiving credit h)
    call_is (stages.Opened o) (asks.Disconnect octets) h = record { stage = tt; told = tt }
    call_is stage call h = record { stage = h; told = tt }

  -- ---- a row

  abbrev pub IsEventOf : Event → Type 0
  IsEventOf (Took tpdu sum) = HasText tpdu
  IsEventOf other = Prim.Unit {0}

  pub row_is : (wrap : ℕ → ℕ → ℕ) (now : ℕ) (e : End) (event : Event) → IsStageOf e.stage → IsEventOf event → IsRowOfTexts (stepped wrap now e event)
  row_is wrap now e (Called call) h p = call_is wrap (at_tick now e.base) e.stage call h
  row_is wrap now e (Took tpdu sum) h p =
      if_kept IsRowOfTexts (wants_sum e.base e.stage tpdu && not sum) _ _ (λ _. record { stage = h; told = (tt, tt) }) (λ _. tpdu_is wrap (at_tick now e.base) e.stage tpdu h p)
  row_is wrap now e Ticked h p = tick_is wrap (at_tick now e.base) e.stage h
