-- Each line, by its kind, and the start.
use Rattle.std.proofs.Common.{◌≡◌, ℕ, Bool, List, [], ◌∷◌, slice_get, Some, refl, sym, subst, inl, inr, length, true}
use Rattle.osi_base.specs.declared.unit.Wish.{Wish}
use Rattle.osi_base.specs.Link.{Link}
use Rattle.osi_base.specs.Calls.{Call, Keeps}
use Rattle.law_carrier_answers.specs.Answers.{MayBeOffered}
use Rattle.law_carrier_answers.proofs.Gatherings.{some_gathering}
use Rattle.script_journal.specs.RawLawful.{raw_address}
use Rattle.script_journal.specs.declared.event.Event.{Event}
use Rattle.script_journal.specs.declared.event.Event.TheVariants as events
use Rattle.script_journal.specs.declared.cause.Refused.TheVariants as refusals
use Rattle.script_lines.specs.declared.line.Line.{Line}
use Rattle.script_lines.specs.declared.line.Line.TheVariants as lines
use Rattle.net_world.specs.Run.{raw_unit}
use Rattle.net_world.specs.Told.{sent_event, told}
use Rattle.tp4_conn.specs.Calls.{IsCall}
use Rattle.tp4_conn.specs.declared.call.UserCall.{UserCall}
use Rattle.tp4_conn.specs.declared.call.UserCall.TheVariants as asks
use Rattle.law_tp4_proper.specs.Octets.{CallInOctets}
use Rattle.tp4_world.specs.Run.{Calls, RunsLine}
use Rattle.tp4_world.specs.Total.{AreReady, CanRun, HasRun, HasStart, IsReady, IsReadyEntity, Serves}
use Rattle.tp4_world.specs.World.{World, entity_at, with_entity}
use Rattle.tp4_world.specs.declared.place.Placed.{Placed}
use Rattle.tp4_world.proofs.SomeRun.{Carrier, Ready, Runs, ends_stay, now_of, taken}
use Rattle.tp4_world.proofs.SomeCalls.{calls, connect_runs}
use Rattle.tp4_world.proofs.SomeHears.{delivered, inject_runs, settles}
use Rattle.tp4_world.proofs.SomeTicks.{tick_runs}
use Rattle.tp4_entity.specs.Step.{restarted}
use Rattle.tp4_entity.specs.Entity.{Entity}
use Rattle.law_tp4_proper.proofs.Ends.{new_rests}
use Rattle.law_tp4_proper.proofs.Heards.{restarting_in}
use Rattle.tp4_world.proofs.Having.{found, with_any}
use Rattle.std.specs.Prelude.{is_some}

module _ {C : Type 0} (base : Carrier C) (wrap : ℕ → ℕ → ℕ) where
  open base use {link, steps, is_address}

  -- ---- a raw unit

  unit_runs : (titles : List (List ℕ)) (old : World C) (system to : ℕ) (sender receiver : List ℕ) (wish : Wish) (octets : List ℕ) → Ready base old
      → slice_get titles system ≡ Some sender → slice_get titles to ≡ Some receiver → MayBeOffered is_address (raw_unit sender receiver octets) → Runs base wrap titles old (lines.Unit system to wish octets)
  unit_runs titles old system to sender receiver wish [] r from_is to_is may =
      record { made = events.No refusals.EmptyUnit ∷ []; new = old; runs = (sender, receiver, from_is, to_is, (old.carrier, (refl, refl), refl)); ready = r }
  unit_runs titles old system to sender receiver wish (octet ∷ octets) r from_is to_is may =
      let t = taken base old.carrier (raw_unit sender receiver (octet ∷ octets)) wish r.carrier may in
      record {
        made = sent_event system (raw_address receiver) (octet ∷ octets) t.answer ∷ told t.ups;
        new = record old { carrier = t.new };
        runs = (sender, receiver, from_is, to_is, (t.new, (t.answer, t.ups, t.passes, refl), refl));
        ready = record {
          carrier = t.stands;
          entities = λ system e is. subst (λ (now : ℕ). IsReadyEntity is_address now e) (sym t.clock) (r.entities system e is);
          ends = r.ends;
        };
      }

  -- ---- each line

  restart_runs : (titles : List (List ℕ)) (old : World C) (system : ℕ) → Ready base old → is_some (entity_at old.entities system) ≡ true → Runs base wrap titles old (lines.Restart system)
  restart_runs titles old system r may =
      let e = found (entity_at old.entities system) may in
      let was = r.entities system e.0 e.1 in
      let next : Entity = restarted (now_of base old) e.0 in
      let ready : IsReadyEntity is_address (now_of base old) next = record {
        rest = new_rests (now_of base old) (length e.0.ends) next refl was.rest.proper.timers was.rest.proper.inactive;
        octets = restarting_in is_address (now_of base old) e.0 was.octets;
      } in
      record {
        made = events.Restart system ∷ [];
        new = record old { entities = with_entity old.entities system next };
        runs = (e.0, e.1, refl, refl);
        ready = record {
          carrier = r.carrier;
          entities = λ other x there. elim (with_any old.entities system other next x there) [
            | inl here ↦ subst (λ (y : Entity). IsReadyEntity is_address (now_of base old) y) (sym here.1) ready
            | inr before ↦ r.entities other x before
          ];
          ends = ends_stay old.entities system next old.ends r.ends;
        };
      }

  call_runs : (titles : List (List ℕ)) (old : World C) (line : Line) (number : ℕ) (call : UserCall) → ((made : List Event) (new : World C) → Calls link steps wrap old number call made new → RunsLine link steps wrap titles old line made new)
      → Ready base old → IsCall call → CallInOctets is_address call → Runs base wrap titles old line
  call_runs titles old line number call is r c octets = let m = calls base wrap old number call r c octets in record { made = m.made; new = m.new; runs = is m.made m.new m.runs; ready = m.ready }

module _ {C : Type 0} (link : C → Link (List ℕ)) (steps : C → Call (List ℕ) → C → Type 0) (keeps : (old : C) (call : Call (List ℕ)) (new : C) → steps old call new → Keeps (link old) call (link new))
    (is_address : List ℕ → Bool) (Stands : C → Type 0) (serves : Serves is_address link steps Stands) (wrap : ℕ → ℕ → ℕ) where
  abbrev base : Carrier C
  base = record { link = link; steps = steps; keeps = keeps; is_address = is_address; Stands = Stands; serves = serves }

  pub some_line : (titles : List (List ℕ)) (old : World C) (line : Line) → IsReady is_address link Stands old → CanRun is_address titles link old line
      → HasRun is_address link steps Stands wrap titles old line
  some_line titles old lines.Nothing r may = record { made = []; new = old; runs = (refl, refl); ready = r }
  some_line titles old (lines.Connect system selector to called options octets) r may = connect_runs base wrap titles old system selector to called options octets r may
  some_line titles old (lines.Accept end options octets) r may =
      call_runs base wrap titles old (lines.Accept end options octets) end (asks.Accept options octets) (λ made new runs. runs) r may.0 may.1
  some_line titles old (lines.Refuse end octets) r may = call_runs base wrap titles old (lines.Refuse end octets) end (asks.Refuse octets) (λ made new runs. runs) r tt may
  some_line titles old (lines.Disconnect end octets) r may = call_runs base wrap titles old (lines.Disconnect end octets) end (asks.Disconnect octets) (λ made new runs. runs) r tt may
  some_line titles old (lines.Data end octets) r may = call_runs base wrap titles old (lines.Data end octets) end (asks.Normal octets) (λ made new runs. runs) r tt may
  some_line titles old (lines.Expedite end octets) r may = call_runs base wrap titles old (lines.Expedite end octets) end (asks.Urgent octets) (λ made new runs. runs) r tt may
  some_line titles old (lines.Window end credit) r may = call_runs base wrap titles old (lines.Window end credit) end (asks.Window credit) (λ made new runs. runs) r may tt
  some_line titles old (lines.Unit system to wish octets) r may = unit_runs base wrap titles old system to may.0 may.1 wish octets r may.2 may.3 may.4
  some_line titles old (lines.Deliver number system) r may =
      let d = delivered base wrap old number system r in record { made = d.made.made; new = d.made.new; runs = (d.answer, d.made.runs); ready = d.made.ready }
  some_line titles old lines.Settle r may = let m = settles base wrap 65536 0 old refl r in record { made = m.made; new = m.new; runs = m.runs; ready = m.ready }
  some_line titles old (lines.Inject lan system octets) r may = inject_runs base wrap titles old lan system octets r may
  some_line titles old (lines.Restart system) r may = restart_runs base wrap titles old system r may
  some_line titles old lines.Tick r may = tick_runs base wrap titles old r may
  some_line titles old line r may = absurd may

  pub some_begin : (first : C) (placed : List Placed) → Stands first → AreReady is_address (link first).clock placed → HasStart is_address link steps Stands first placed
  some_begin first placed stands ready =
      let up = some_gathering link steps keeps is_address Stands serves.answers first stands in record {
        made = events.Tick 0 ∷ told up.0;
        new = record { carrier = up.1; entities = placed; ends = [] };
        starts = record { ups = up.0; below = up.1; gathers = up.2; made_is = refl; becomes = refl };
        ready = record {
          carrier = up.3;
          entities = λ system e is. subst (λ (now : ℕ). IsReadyEntity is_address now e) (sym up.2.stands.clock) (ready system e is);
          ends = tt;
        };
      }
