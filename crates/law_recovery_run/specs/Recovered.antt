-- What the users of a network may rely on once nothing is lost any more. Whatever was lost, repeated, delayed and reordered before: each two ends that were Opened then are so still, and
-- have shown all that the other submitted from as many ticks on as the longer of T1 and W; or one of them went, by its user or by a cause of that tick or before, and neither is Opened
-- any more (X.214, queue model of the transport service; X.224, class 4: retransmission on time-out, explicit flow control, inactivity control).
use Rattle.std.specs.Prelude.{◌≡◌, ◌⊎◌, ◌≤◌, ℕ, ◌+◌, max, List, [], ◌∷◌, ◌++◌, Some, Contains}
use Rattle.osi_base.specs.Link.{Link}
use Rattle.script_journal.specs.Partner.{AreEnds}
use Rattle.script_journal.specs.RawLawful.{tick_after}
use Rattle.script_journal.specs.declared.event.Event.{Event}
use Rattle.script_journal.specs.declared.event.Event.TheVariants as events
use Rattle.tpdu.specs.declared.service.EndTold.TheVariants as tells
use Rattle.tpdu.specs.declared.service.GoneCause.{GoneCause}
use Rattle.tp4_conn.specs.End.{End}
use Rattle.tp4_conn.specs.declared.states.InOpened.{InOpened}
use Rattle.tp4_conn.specs.declared.states.StateData.TheVariants.{Opened}
use Rattle.tp4_conn.specs.declared.timers.Timers.{Timers}
use Rattle.law_tp4_pair.specs.Claim.{HasShown}
use Rattle.law_recovery_steps.specs.Causes.{IsCause}
use Rattle.tp4_world.specs.World.{World}
use Rattle.law_calm_run.specs.Service.{end_at_number}

-- the event stands at that tick, in a journal that goes on from there
pub record HappensAt (early late : List Event) (tick : ℕ) (event : Event) : Type 0 where
  pub before : List Event
  pub after : List Event
  pub late_is : late ≡ before ++ event ∷ after
  pub tick_is : tick_after (early ++ before) ≡ tick

-- The end, which was Opened as `o` at tick t0, went: its user disconnected, or it told that it is gone, exhausted by what it had tried N times by then, or inactive since before then
pub data Goes (t : Timers) (t0 : ℕ) (early late : List Event) (end : ℕ) (o : InOpened) : Type 0 where
  By_user : (octets : List ℕ) → Contains late (events.Disconnect end octets) → Goes t t0 early late end o
  By_itself : (tick : ℕ) (cause : GoneCause) → IsCause t t0 tick o cause → HappensAt early late tick (events.End end (tells.Gone cause [])) → Goes t t0 early late end o

-- the end of a number is not Opened any more
abbrev pub IsOver : {C : Type 0} → World C → ℕ → Type 0
IsOver last number = (e : End) (o : InOpened) → end_at_number last number ≡ Some e → e.stage ≡ Opened o → ⊥

-- one of two ends went, and neither is Opened any more
pub record HaveGone {C : Type 0} (t : Timers) (t0 : ℕ) (early late : List Event) (last : World C) (calling called : ℕ) (o q : InOpened) : Type 0 where
  pub first : Goes t t0 early late calling o ⊎ Goes t t0 early late called q
  pub calling_over : IsOver last calling
  pub called_over : IsOver last called

-- both are Opened still; and from so many ticks on each has shown what the other submitted, but for want of credit or for a number that the number rule holds back at this tick
pub record AreBack {C : Type 0} (t : Timers) (t0 now : ℕ) (journal : List Event) (last : World C) (calling called : ℕ) : Type 0 where
  pub x : End
  pub y : End
  pub o : InOpened
  pub q : InOpened
  pub calling_is : end_at_number last calling ≡ Some x
  pub called_is : end_at_number last called ≡ Some y
  pub calling_open : x.stage ≡ Opened o
  pub called_open : y.stage ≡ Opened q
  pub there : t0 + max t.t1 t.window ≤ now → HasShown now journal calling called o.halves.sending q.halves.receiving
  pub here : t0 + max t.t1 t.window ≤ now → HasShown now journal called calling q.halves.sending o.halves.receiving

-- each two partners that were Opened at t0
abbrev pub Recovered : {C : Type 0} → (C → Link (List ℕ)) → Timers → World C → World C → List Event → List Event → Type 0
Recovered link t at_t0 last early late =
    (calling called : ℕ) (x y : End) (o q : InOpened) → AreEnds early calling called → end_at_number at_t0 calling ≡ Some x → end_at_number at_t0 called ≡ Some y
    → x.stage ≡ Opened o → y.stage ≡ Opened q
    → AreBack t (link at_t0.carrier).clock (link last.carrier).clock (early ++ late) last calling called
    ⊎ HaveGone t (link at_t0.carrier).clock early late last calling called o q
