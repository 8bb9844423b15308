-- What ends come to over whole numbers they come to over the numbers of the wire: an end has the same state there, but for the numbers that it expects.
use Rattle.std.proofs.Common.{◌≡◌, ℕ, List, ◌++◌, sym, ◌∙◌, ap, subst}
use Rattle.osi_base.specs.Link.{Link}
use Rattle.script_journal.specs.declared.event.Event.{Event}
use Rattle.tp4_conn.specs.End.{End}
use Rattle.tp4_conn.specs.declared.states.InOpened.{InOpened}
use Rattle.tp4_conn.specs.declared.timers.Timers.{Timers}
use Rattle.tp4_world.specs.Wire.{world_on_wire}
use Rattle.tp4_world.specs.World.{World}
use Rattle.law_calm_run.proofs.WiredEnds.{upper_end, upper_open}
use Rattle.law_recovery_steps.specs.Since.{IsUpToDate}
use Rattle.law_recovery.proofs.Recovered.{back_on_wire, opened_on_wire}
use Rattle.law_recovery.specs.Outage.{AreKept, AreKeptCalm}

up_from_wire : (t : Timers) (s : ℕ) (o lower : InOpened) → lower ≡ opened_on_wire o → IsUpToDate t s lower → IsUpToDate t s o
up_from_wire t s o lower is up = let there : IsUpToDate t s (opened_on_wire o) = subst (IsUpToDate t s) is up in record { tried = there.tried; heard = there.heard }

module _ {C : Type 0} (link : C → Link (List ℕ)) (t : Timers) (at_s at_t0 last : World C) (early lost late : List Event) where
  pub kept_on_wire : AreKept link t at_s at_t0 last early lost late → AreKept link t (world_on_wire at_s) (world_on_wire at_t0) (world_on_wire last) early lost late
  kept_on_wire kept calling called x y o q here there ends x_is y_is x_open y_open x_up y_up short x_at y_at alone other_alone =
      let one = upper_end at_s calling x x_is in
      let other = upper_end at_s called y y_is in
      let first = upper_open one.end.stage o (sym (ap (λ (e : End). e.stage) one.is) ∙ x_open) in
      let second = upper_open other.end.stage q (sym (ap (λ (e : End). e.stage) other.is) ∙ y_open) in
      back_on_wire t (link at_t0.carrier).clock (link last.carrier).clock ((early ++ lost) ++ late) last calling called
      (kept calling called one.end other.end first.opened second.opened here there ends one.stands other.stands first.stage_is second.stage_is
      (up_from_wire t (link at_s.carrier).clock first.opened o first.is x_up) (up_from_wire t (link at_s.carrier).clock second.opened q second.is y_up) short x_at y_at alone other_alone)

  pub calm_on_wire : AreKeptCalm link t at_s at_t0 last early lost late → AreKeptCalm link t (world_on_wire at_s) (world_on_wire at_t0) (world_on_wire last) early lost late
  calm_on_wire kept calling called x y o q here there ends x_is y_is x_open y_open short x_at y_at alone other_alone =
      let one = upper_end at_s calling x x_is in
      let other = upper_end at_s called y y_is in
      let first = upper_open one.end.stage o (sym (ap (λ (e : End). e.stage) one.is) ∙ x_open) in
      let second = upper_open other.end.stage q (sym (ap (λ (e : End). e.stage) other.is) ∙ y_open) in
      back_on_wire t (link at_t0.carrier).clock (link last.carrier).clock ((early ++ lost) ++ late) last calling called
      (kept calling called one.end other.end first.opened second.opened here there ends one.stands other.stands first.stage_is second.stage_is short x_at y_at alone other_alone)
