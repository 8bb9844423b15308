-- Two Opened ends since when nothing is lost between them: why the first of them leaves that does, and when (X.224, class 4 state tables; retransmission on time-out, inactivity
-- control).
use Rattle.std.specs.Prelude.{◌≡◌, ◌<◌, ◌≤◌, ℕ, ◌+◌, true, false, List, [], ◌∷◌, ◌++◌}
use Rattle.tpdu.specs.declared.tpdu.Tpdu.{Tpdu}
use Rattle.tpdu.specs.declared.tpdu.Tpdu.TheVariants.{Dt, Ed}
use Rattle.tp4_number.specs.Number.{whole}
use Rattle.tp4_number.specs.declared.got.Got.TheVariants.{TooLarge}
use Rattle.tp4_flow.specs.ReceivingHalf.{dt_arrival}
use Rattle.tpdu.specs.declared.service.GoneCause.{GoneCause}
use Rattle.tp4_flow.specs.declared.step.Sent.{Sent}
use Rattle.tp4_conn.specs.declared.call.UserCall.{UserCall}
use Rattle.tp4_conn.specs.declared.call.UserCall.TheVariants.{Disconnect}
use Rattle.tp4_conn.specs.declared.end_record.EndRecord.{EndRecord}
use Rattle.tp4_conn.specs.declared.states.InOpened.{InOpened}
use Rattle.tp4_conn.specs.declared.states.StateData.TheVariants.{Opened}
use Rattle.tp4_conn.specs.declared.timers.Timers.{Timers}
use Rattle.tp4_conn.specs.End.{End, closing, gone}
use Rattle.tp4_conn.specs.Opened.{is_expedited}
use Rattle.tp4_conn.specs.Table.{Ticked, at, stepped}
use Rattle.law_tp4_pair.specs.Pair.{Asks_called, Asks_calling, Clock, Comes_back, Comes_forth, Happening, IsIdle, Leads, Pair, next}
use Rattle.law_tp4_pair.specs.Standing.{HasLeft}
use Rattle.law_recovery_steps.specs.Resting.{AreLater}
use Rattle.law_recovery_steps.specs.Steps.{IsParted}
pub use Rattle.law_recovery_steps.specs.Causes.{IsCause, IsTryOf}

-- both ends have these timers, and their halves the T1 and the N of them
pub record HaveTimers (t : Timers) (p : Pair) (o q : InOpened) : Type 0 where
  pub calling : p.calling.base.timers ≡ t
  pub called : p.called.base.timers ≡ t
  pub calling_t1 : o.halves.sending.rules.t1 ≡ t.t1
  pub called_t1 : q.halves.sending.rules.t1 ≡ t.t1
  pub calling_sendings : o.halves.sending.rules.sendings ≡ t.sendings
  pub called_sendings : q.halves.sending.rules.sendings ≡ t.sendings

-- each time passes, a TPDU is sent more than once, and I is more than W
pub record AreTimes (t : Timers) : Type 0 where
  pub t1 : 1 ≤ t.t1
  pub sendings : 2 ≤ t.sendings
  pub window : t.window < t.inactive

-- both ends are Opened
pub record AreBothOpened (p : Pair) : Type 0 where
  pub o : InOpened
  pub q : InOpened
  pub calling : p.calling.stage ≡ Opened o
  pub called : p.called.stage ≡ Opened q

-- no end is due at a tick that has passed, as long as both are Opened
abbrev pub AreTicked : Pair → List Happening → Type 0
AreTicked p [] = Unit {0}
AreTicked p (Clock calling called ∷ happenings) = (AreBothOpened p → AreLater p) × AreTicked (next p (Clock calling called)) happenings
AreTicked p (happening ∷ happenings) = AreTicked (next p happening) happenings

-- by its tick the end goes for such a cause: gone with that cause, DR 128, Closing
pub record GoesItself (t : Timers) (t0 tick : ℕ) (o : InOpened) (e : End) : Type 0 where
  pub cause : GoneCause
  pub why : IsCause t t0 tick o cause
  pub is : stepped whole tick e Ticked ≡ closing (at tick e.base) (gone (at tick e.base) cause []) 128 [] tick

-- a DT that makes a unit too large, or an ED where expedited data is not agreed
abbrev pub IsWrong : EndRecord → InOpened → Tpdu → Type 0
IsWrong b o (Dt destination last number text) = (dt_arrival o.halves.receiving number (record { last = last; octets = text })).got ≡ TooLarge
IsWrong b o (Ed destination last number text) = is_expedited b.agreed ≡ false
IsWrong b o other = ⊥

abbrev pub IsWrongFirst : End → List Sent → Type 0
IsWrongFirst e [] = ⊥
IsWrongFirst e (sent ∷ rest) = (o : InOpened) × (e.stage ≡ Opened o) × IsWrong e.base o sent.tpdu

abbrev pub IsDisconnect : UserCall → Type 0
IsDisconnect (Disconnect octets) = Unit {0}
IsDisconnect other = ⊥

-- two Opened ends that stood as `o` and `q` at tick t0, of which one leaves by what happens: by its user, by itself (both may, at one tick), or for what came
abbrev pub LeavesBy : Timers → ℕ → InOpened → InOpened → Pair → Happening → Type 0
LeavesBy t t0 o q p (Asks_calling call) = IsDisconnect call
LeavesBy t t0 o q p (Asks_called call) = IsDisconnect call
LeavesBy t t0 o q p (Clock calling called) =
    (HasLeft (next p (Clock calling called)).calling.stage → (calling ≡ true) × GoesItself t t0 (p.clock + 1) o p.calling)
    × (HasLeft (next p (Clock calling called)).called.stage → (called ≡ true) × GoesItself t t0 (p.clock + 1) q p.called)
LeavesBy t t0 o q p Comes_forth = IsWrongFirst p.called p.forth
LeavesBy t t0 o q p Comes_back = IsWrongFirst p.calling p.back

-- both have left
abbrev pub AreBothLeft : Pair → Type 0
AreBothLeft p = HasLeft p.calling.stage × HasLeft p.called.stage

-- The first that left did so by this, up to which both were Opened; and where nothing waits, both have left
pub record HasParted (t : Timers) (t0 : ℕ) (o q : InOpened) (first : Pair) (happenings : List Happening) (last : Pair) : Type 0 where
  pub before : List Happening
  pub happening : Happening
  pub after : List Happening
  pub happenings_are : happenings ≡ before ++ happening ∷ after
  pub mid : Pair
  pub early : Leads first before mid
  pub late : Leads (next mid happening) after last
  pub opened : AreBothOpened mid
  pub parted : IsParted (next mid happening)
  pub why : LeavesBy t t0 o q mid happening
  pub other_too : IsIdle last → AreBothLeft last
