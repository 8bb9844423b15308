-- Each row of an Opened end: it stays Opened, with what it tried and took before or now; or it leaves, by a cause that the row shows, and tells its partner by a DR.
use Rattle.std.proofs.Common.{◌≡◌, ◌⊎◌, inl, inr, ◌<◌, ◌≤◌, ℕ, ◌+◌, ◌==◌, nat_le, Bool, true, false, if◌then◌else◌, List, [], ◌∷◌, ◌++◌, length, refl, ap, arith, length-append}
use Rattle.std.proofs.lemmas.Bool.{leb-true}
use Rattle.tpdu.specs.declared.tpdu.Tpdu.{Tpdu}
use Rattle.tpdu.specs.declared.tpdu.Tpdu.TheVariants.{Ak, Dr, Dt, Ea, Ed}
use Rattle.tp4_number.specs.declared.got.Got.{Got}
use Rattle.tp4_number.specs.declared.got.Got.TheVariants.{Kept, Old, Outside, TooLarge}
use Rattle.tp4_number.specs.declared.piece.Piece.{Piece}
use Rattle.tp4_number.specs.Number.{whole}
use Rattle.tp4_number.proofs.Past.{if_kept}
use Rattle.tp4_flow.specs.ReceivingHalf.{Half, Received, aks, ak, dt_arrival, half_after, half_granted, taken_dt, taken_ed}
use Rattle.tp4_flow.specs.declared.rules.Life.{Life}
use Rattle.tp4_flow.specs.declared.rules.Life.TheVariants.{Goes, Exhausted}
use Rattle.tpdu.specs.declared.service.GoneCause.TheVariants.{Exhausted as Spent, Inactive}
use Rattle.tp4_flow.specs.declared.step.Sent.{Sent}
use Rattle.tp4_sending.specs.SendingHalf.{Sendings, acknowledged, at, life_of, submitted, ticked, urged, urgent_done}
use Rattle.tp4_sending.specs.Pieces.{again, once}
use Rattle.tp4_sending.specs.declared.tries.Tries.{Tries}
use Rattle.tp4_conn.specs.declared.call.UserCall.{UserCall}
use Rattle.tp4_conn.specs.declared.call.UserCall.TheVariants.{Disconnect, Normal, Urgent, Window}
use Rattle.tp4_conn.specs.declared.end_record.EndRecord.{EndRecord}
use Rattle.tp4_conn.specs.declared.states.InOpened.{InOpened}
use Rattle.tp4_conn.specs.declared.states.StateData.TheVariants.{Opened}
use Rattle.tp4_conn.specs.End.{Moved, agreed_sum, closing, gone}
use Rattle.tp4_conn.specs.Opened.{acking, dt_as, granting, hearing, is_expedited, opened_as, opened_goes, opened_tick, opened_tpdu, protocol_error, receiving, sending}
use Rattle.tp4_conn.specs.Table.{on_call}
use Rattle.law_tp4_pair.specs.Standing.{HasLeft}
use Rattle.law_tp4_pair.specs.Waiting.{IsDataFor}
use Rattle.law_recovery_steps.specs.Going.{IsDisconnect, IsWrong}
use Rattle.law_recovery_steps.proofs.SendingAgain.{HaveTried, IsTrying, acknowledged_tried, done_tried, submitted_tried, ticked_tried, urged_tried}

-- a DR with this checksum or without is among them
abbrev pub IsRelease : Bool → Tpdu → Bool → Type 0
IsRelease sum (Dr destination source reason info text) is = is ≡ sum
IsRelease sum other is = ⊥

abbrev pub HasRelease : Bool → List Sent → Type 0
HasRelease sum [] = ⊥
HasRelease sum (sent ∷ rest) = IsRelease sum sent.tpdu sent.sum ⊎ HasRelease sum rest

pub release_then : (sum : Bool) (before rest : List Sent) → HasRelease sum rest → HasRelease sum (before ++ rest)
release_then sum [] rest h = h
release_then sum (sent ∷ before) rest h = inr (release_then sum before rest h)

-- an end after a row keeps its timers and what was agreed
pub record IsHolding (b : EndRecord) (m : Moved) : Type 0 where
  pub timers : m.base.timers ≡ b.timers
  pub agreed : m.base.agreed ≡ b.agreed

-- it stays Opened; a tick at which it acknowledges it sends something
pub record RowStays (P : Tries → Type 0) (now took : ℕ) (q : InOpened) (m : Moved) : Type 0 where
  pub after : InOpened
  pub stage : m.stage ≡ Opened after
  pub tried : HaveTried P q.halves.sending → HaveTried P after.halves.sending
  pub took_is : after.took ≡ took
  pub acked : (after.acked ≡ q.acked) ⊎ ((after.acked ≡ now) × (0 < length m.tpdus))

pub record RowLeaves (Why : Type 0) (b : EndRecord) (m : Moved) : Type 0 where
  pub left : HasLeft m.stage
  pub why : Why
  pub release : HasRelease (agreed_sum b.agreed) m.tpdus

pub record RowDoes (P : Tries → Type 0) (Why : Type 0) (now took : ℕ) (b : EndRecord) (q : InOpened) (m : Moved) : Type 0 where
  pub holding : IsHolding b m
  pub does : RowLeaves Why b m ⊎ RowStays P now took q m

-- why an end leaves by a tick
pub data LeavesByTick (b : EndRecord) (q : InOpened) (m : Moved) : Type 0 where
  Waited : q.took + b.timers.inactive ≤ b.clock → m ≡ closing b (gone b Inactive []) 128 [] b.clock → LeavesByTick b q m
  Tried : life_of (at b.clock q.halves.sending) ≡ Exhausted → m ≡ closing b (gone b Spent []) 128 [] b.clock → LeavesByTick b q m

module _ (P : Tries → Type 0) (new : (tick : ℕ) → P (once tick)) (b : EndRecord) (q : InOpened) where
  trying : HaveTried P q.halves.sending → IsTrying P (at b.clock q.halves.sending)
  trying h = record { tried = record { window = h.window; out = h.out }; new = new b.clock }

  -- the sending half goes on
  sends : {Why : Type 0} (took : ℕ) (z : Sendings) → (HaveTried P q.halves.sending → HaveTried P z.sender) → RowDoes P Why b.clock took b q (sending b (record q { took = took }) z)
  sends {Why} took z kept = record {
    holding = record { timers = refl; agreed = refl };
    does = inr (record { after = record q { took = took; halves = record q.halves { sending = z.sender } }; stage = refl; tried = kept; took_is = refl; acked = inl refl });
  }

  -- the receiving half goes on, and the end acknowledges
  acks : {Why : Type 0} (took : ℕ) (r : Received) → 0 < length r.tpdus → RowDoes P Why b.clock took b q (receiving b (acking b (record q { took = took })) r)
  acks {Why} took r some = record {
    holding = record { timers = refl; agreed = refl };
    does = inr (record {
      after = record q { took = took; acked = b.clock; halves = record q.halves { receiving = r.half } };
      stage = refl;
      tried = λ h. record { window = h.window; out = h.out };
      took_is = refl;
      acked = inr (refl, some);
    });
  }

  -- or does not
  receives : {Why : Type 0} (took : ℕ) (r : Received) → RowDoes P Why b.clock took b q (receiving b (record q { took = took }) r)
  receives {Why} took r = record {
    holding = record { timers = refl; agreed = refl };
    does = inr (record {
      after = record q { took = took; halves = record q.halves { receiving = r.half } };
      stage = refl;
      tried = λ h. record { window = h.window; out = h.out };
      took_is = refl;
      acked = inl refl;
    });
  }

  -- one AK is sent
  answered : (got : Got) (one : (h : Half) → length (aks got h) ≡ 1) (w : ℕ) (piece : Piece) → (dt_arrival q.halves.receiving w piece).got ≡ got → 0 < length (taken_dt whole q.halves.receiving w piece).tpdus
  answered got one w piece e =
      let half : Half = half_after whole q.halves.receiving (dt_arrival q.halves.receiving w piece) in
      omega (arith, ap (λ (g : Got). length (aks g half)) e, one half)

  dt_does : (got : Got) (destination : ℕ) (last : Bool) (w : ℕ) (text : List ℕ) → (dt_arrival q.halves.receiving w (record { last = last; octets = text })).got ≡ got
      → RowDoes P (IsWrong b q (Dt destination last w text)) b.clock b.clock b q (dt_as got b (hearing b q) (taken_dt whole q.halves.receiving w (record { last = last; octets = text })))
  dt_does TooLarge destination last w text e = record {
    holding = record { timers = refl; agreed = refl };
    does = inl (record {
      left = tt;
      why = e;
      release = release_then (agreed_sum b.agreed) (taken_dt whole q.halves.receiving w (record { last = last; octets = text })).tpdus (protocol_error b).tpdus (inl refl);
    });
  }
  dt_does Kept destination last w text e = acks b.clock (taken_dt whole q.halves.receiving w (record { last = last; octets = text })) (answered Kept (λ h. refl) w (record { last = last; octets = text }) e)
  dt_does Old destination last w text e = acks b.clock (taken_dt whole q.halves.receiving w (record { last = last; octets = text })) (answered Old (λ h. refl) w (record { last = last; octets = text }) e)
  dt_does Outside destination last w text e = acks b.clock (taken_dt whole q.halves.receiving w (record { last = last; octets = text })) (answered Outside (λ h. refl) w (record { last = last; octets = text }) e)

  ed_does : (expedited : Bool) (destination : ℕ) (last : Bool) (w : ℕ) (text : List ℕ) → is_expedited b.agreed ≡ expedited
      → RowDoes P (IsWrong b q (Ed destination last w text)) b.clock b.clock b q (if expedited then receiving b (hearing b q) (taken_ed whole q.halves.receiving w text) else protocol_error b)
  ed_does true destination last w text e = receives b.clock (taken_ed whole q.halves.receiving w text)
  ed_does false destination last w text e = record { holding = record { timers = refl; agreed = refl }; does = inl (record { left = tt; why = e; release = inl refl }) }

  pub data_does : (partner : ℕ) (tpdu : Tpdu) → IsDataFor partner tpdu → RowDoes P (IsWrong b q tpdu) b.clock b.clock b q (opened_tpdu whole b (hearing b q) tpdu)
  unfolding opened_tpdu
  data_does partner (Dt destination last w text) kind = dt_does (dt_arrival q.halves.receiving w (record { last = last; octets = text })).got destination last w text refl
  data_does partner (Ed destination last w text) kind = ed_does (is_expedited b.agreed) destination last w text refl
  data_does partner (Ak destination w credit subsequence confirmation) kind =
      sends b.clock (acknowledged (at b.clock q.halves.sending) w credit subsequence) (λ h. acknowledged_tried P (at b.clock q.halves.sending) w credit subsequence (trying h))
  data_does partner (Ea destination w) kind = sends b.clock (urgent_done (at b.clock q.halves.sending) w) (λ h. done_tried P (at b.clock q.halves.sending) w (trying h))
  data_does partner other kind = absurd kind

  -- ---- a call of its user

  grant_does : (credit : ℕ) → RowDoes P ⊥ b.clock q.took b q (granting b q (half_granted q.halves.receiving credit))
  grant_does credit =
      if_kept (RowDoes P ⊥ b.clock q.took b q) ((half_granted q.halves.receiving credit).receiver.inbox.credit == q.halves.receiving.receiver.inbox.credit) _ _
      (λ _. receives q.took _) (λ _. acks q.took _ (omega arith))

  same : {Why : Type 0} → RowDoes P Why b.clock q.took b q (record { base = b; stage = Opened q; events = []; tpdus = [] })
  same {Why} = record { holding = record { timers = refl; agreed = refl }; does = inr (record { after = q; stage = refl; tried = λ h. h; took_is = refl; acked = inl refl }) }

  pub call_does : (call : UserCall) → RowDoes P (IsDisconnect call) b.clock q.took b q (on_call b (Opened q) call)
  call_does (Normal unit) = sends q.took (submitted (at b.clock q.halves.sending) unit) (λ h. submitted_tried P (at b.clock q.halves.sending) unit (trying h))
  call_does (Urgent unit) = sends q.took (urged (at b.clock q.halves.sending) unit) (λ h. urged_tried P (at b.clock q.halves.sending) unit (trying h))
  call_does (Window credit) = grant_does credit
  call_does (Disconnect octets) = record { holding = record { timers = refl; agreed = refl }; does = inl (record { left = tt; why = tt; release = inl refl }) }
  call_does other = same

  -- ---- a tick

  module _ (more : (tries : Tries) → P (again b.clock tries)) where
    abbrev Does : Moved → Type 0
    Does m = RowDoes P (LeavesByTick b q m) b.clock q.took b q m

    goes_does : (z : Sendings) → (HaveTried P q.halves.sending → HaveTried P z.sender) → Does (opened_goes b q z)
    goes_does z kept =
        if_kept Does (nat_le (q.acked + b.timers.window) b.clock) _ _
        (λ _. record {
          holding = record { timers = refl; agreed = refl };
          does = inr (record {
            after = record q { acked = b.clock; halves = record q.halves { sending = z.sender } };
            stage = refl;
            tried = kept;
            took_is = refl;
            acked = inr (refl, omega (arith, length-append z.tpdus (ak q.halves.receiving ∷ [])));
          });
        })
        (λ _. sends q.took z kept)

    lives_does : (life_is : Life) → life_of (at b.clock q.halves.sending) ≡ life_is → Does (opened_as life_is b q)
    lives_does Exhausted e = record { holding = record { timers = refl; agreed = refl }; does = inl (record { left = tt; why = Tried e refl; release = inl refl }) }
    lives_does Goes e = goes_does (ticked (at b.clock q.halves.sending)) (λ h. ticked_tried P (at b.clock q.halves.sending) (λ tries due is. more tries) (trying h))

    pub tick_does : Does (opened_tick b q)
    unfolding opened_tick
    tick_does =
        if_kept Does (nat_le (q.took + b.timers.inactive) b.clock) _ _
        (λ late. record { holding = record { timers = refl; agreed = refl }; does = inl (record { left = tt; why = Waited (leb-true _ _ late) refl; release = inl refl }) })
        (λ _. lives_does (life_of (at b.clock q.halves.sending)) refl)
