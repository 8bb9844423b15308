-- An end of a connection whose partner has left, since when nothing is lost any more (X.224, class 4: retransmission on time-out, inactivity control).
use Rattle.std.specs.Prelude.{◌≡◌, ◌<◌, ◌≤◌, ℕ, ◌+◌, ◌*◌, true, List, Some}
use Rattle.script_journal.specs.Partner.{ArePartners}
use Rattle.script_journal.specs.declared.event.Event.{Event}
use Rattle.tp4_conn.specs.End.{End}
use Rattle.tp4_conn.specs.declared.states.InAkWait.{InAkWait}
use Rattle.tp4_conn.specs.declared.states.StateData.{StateData}
use Rattle.tp4_conn.specs.declared.states.StateData.TheVariants.{AkWait, Opened, UserWait}
use Rattle.tp4_conn.specs.declared.timers.Timers.{Timers}
use Rattle.tp4_entity.specs.Association.{is_frozen}
use Rattle.tp4_world.specs.World.{World}
use Rattle.law_calm_run.specs.Service.{end_at_number}
use Rattle.law_recovery_run.specs.Unanswered.{AreListening}
use Rattle.law_recovery_run.specs.Over.{HasLeftEnd}
use Rattle.law_recovery_run.specs.Recovered.{IsOver}

-- the end knows its partner, and has not left: its user was asked, or has accepted, or it is Opened
abbrev pub KnowsPartner : StateData → Type 0
KnowsPartner (UserWait since) = Prim.Unit {0}
KnowsPartner (AkWait w) = Prim.Unit {0}
KnowsPartner (Opened o) = Prim.Unit {0}
KnowsPartner stage = ⊥

-- the end of a number is not in AkWait
abbrev pub IsNotAccepted : {C : Type 0} → World C → ℕ → Type 0
IsNotAccepted last number = (e : End) (w : InAkWait) → end_at_number last number ≡ Some e → e.stage ≡ AkWait w → ⊥

-- the end of a number is frozen, or stands no more
abbrev pub IsFrozenOrGone : {C : Type 0} → World C → ℕ → Type 0
IsFrozenOrGone last number = (e : End) → end_at_number last number ≡ Some e → is_frozen e.stage ≡ true

-- An end that stood at tick t0 beside a partner that had left, and what it has come to at the tick now: from t0 + I on it is not Opened. From t0 + T1 on it is not in AkWait, where the partner was
-- frozen or gone, and the system of the partner was not silent, as one is for a time that began again. From t0 + 2 T1 on it is not in AkWait, however the partner had left, where that system was
-- not silent
pub record HasFollowed {C : Type 0} (t : Timers) (t0 now : ℕ) (at_t0 last : World C) (x y : ℕ) (to : List ℕ) : Type 0 where
  pub opened : t0 + t.inactive ≤ now → IsOver last x
  pub accepted : IsFrozenOrGone at_t0 y → AreListening t0 at_t0 to → t0 + t.t1 ≤ now → IsNotAccepted last x
  pub closing : AreListening t0 at_t0 to → t0 + 2 * t.t1 ≤ now → IsNotAccepted last x

-- each end that knew its partner at t0 and had not left, where that had left by then: it was frozen or gone, or Closing, or waited to close
abbrev pub HalvesFollow : {C : Type 0} → Timers → (t0 now : ℕ) → List Event → World C → World C → Type 0
HalvesFollow t t0 now early at_t0 last = (x y : ℕ) (e : End) → ArePartners early x y → end_at_number at_t0 x ≡ Some e → KnowsPartner e.stage → HasLeftEnd at_t0 y
    → HasFollowed t t0 now at_t0 last x y e.base.to

-- ---- an indication

-- an end in UserWait, whose user has not answered, is there for less than I ticks since its indication
abbrev pub IndicationsEnd : {C : Type 0} → Timers → (now : ℕ) → World C → Type 0
IndicationsEnd t now last = (x since : ℕ) (e : End) → end_at_number last x ≡ Some e → e.stage ≡ UserWait since → (since ≤ now) × (now < since + t.inactive)
