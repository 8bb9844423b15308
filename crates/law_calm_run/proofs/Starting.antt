-- A network before its first line is one in which all is as it has to be: its entities stand at the addresses of their systems, and have no end.
use Rattle.std.proofs.Common.{◌≡◌, ◌≤◌, ℕ, List, [], ◌∷◌, length, slice_get, Option, Some, None, refl, sym, ◌∙◌, ap, subst, inl}
use Rattle.std.specs.List.{AllByRecursion}
use Rattle.osi_base.specs.Calls.{Call, Keeps}
use Rattle.osi_base.specs.Link.{Link}
use Rattle.osi_base.specs.declared.unit.Unit.{Unit as CarriedUnit}
use Rattle.script_journal.specs.declared.event.Event.{Event}
use Rattle.script_lines.specs.declared.line.Line.{Line}
use Rattle.net_world.specs.Fifo.{IsFifo}
use Rattle.tp4_number.specs.Number.{whole}
use Rattle.tp4_conn.specs.End.{End, IsTimed}
use Rattle.tp4_conn.specs.declared.timers.Timers.{Timers}
use Rattle.tp4_entity.specs.Entity.{Entity}
use Rattle.law_tp4_proper.specs.Rest.{IsAtRest}
use Rattle.law_tp4_proper.proofs.Ends.{new_rests}
use Rattle.tp4_world.specs.First.{HasNoEnd, IsNew}
use Rattle.tp4_world.specs.World.{World, entity_at}
use Rattle.tp4_world.proofs.Destinations.{EndsFine}
use Rattle.law_tp4_lawful.specs.First.{IsUntouched}
use Rattle.law_tp4_lawful.proofs.WorldPlaces.{none_some}
use Rattle.law_tp4_lawful.proofs.WorldStarts.{all_none, found}
use Rattle.law_calm_run.specs.Run.{IsCalmRun, IsStart}
use Rattle.law_calm_run.proofs.Hall.{Hall, IsAddress}
use Rattle.law_calm_run.proofs.Posting.{IsKept}
use Rattle.law_calm_run.proofs.Going.{HasSettled, Stands}
use Rattle.law_calm_run.proofs.Lines.{lines_go}
use Rattle.law_calm_run.proofs.Never.{AreNever}

pub none_fine : (Fine : List ℕ → Type 0) (ends : List (Option End)) → AllByRecursion (λ place. place ≡ None) ends → EndsFine Fine ends
none_fine Fine [] none = tt
none_fine Fine (None ∷ ends) none = (tt, none_fine Fine ends none.1)
none_fine Fine (Some end ∷ ends) none = absurd (none_some end (sym none.0))

module _ {C : Type 0} (titles : List (List ℕ)) (timers : Timers) (Waits : C → List (CarriedUnit (List ℕ)) → Type 0) (first : World C) (start : IsStart titles timers Waits first) where
  rests : (now system : ℕ) (e : Entity) → entity_at first.entities system ≡ Some e → IsAtRest now e
  rests now system e is =
      let new = found (IsNew titles) first.entities system e start.entities is in
      let untouched = found (IsUntouched timers) first.entities system e start.untouched is in
      let timers_are : e.timers ≡ timers = ap (λ (x : Entity). x.timers) (sym untouched.entity_is) ∙ untouched.holds.timers_are in
      let none : HasNoEnd e = subst HasNoEnd new.entity_is new.holds.none in
      new_rests now (length e.ends) e (all_none e.ends none) (subst IsTimed (sym timers_are) start.timed) (subst (λ (t : Timers). 1 ≤ t.inactive) (sym timers_are) start.inactive)

  kept : (system : ℕ) (e : Entity) → entity_at first.entities system ≡ Some e → IsKept titles system e
  kept system e is =
      let new = found (IsNew titles) first.entities system e start.entities is in
      let none : HasNoEnd e = subst HasNoEnd new.entity_is new.holds.none in
      record {
        title = new.holds.title;
        title_is = ap (slice_get titles) (sym new.system_is) ∙ new.holds.title_is;
        own = ap (λ (x : Entity). x.own) (sym new.entity_is) ∙ new.holds.own;
        proper = (rests 0 system e is).proper;
        ends = none_fine (IsAddress titles) e.ends none;
      }

  -- none of its entities ever began again
  pub first_never : AreNever first.entities
  first_never system e is = let new = found (IsNew titles) first.entities system e start.entities is in ap (λ (x : Entity). x.restarted) (sym new.entity_is) ∙ new.holds.never

  module _ (link : C → Link (List ℕ)) (steps : C → Call (List ℕ) → C → Type 0)
      (law : (old : C) (call : Call (List ℕ)) (new : C) → steps old call new → Keeps (link old) call (link new)) (fifo : IsFifo link steps titles Waits) where
    abbrev pub first_hall : Hall
    first_hall = record { clock = (link first.carrier).clock; entities = first.entities; ends = first.ends; posts = [] }

    pub first_stands : Stands link steps law titles Waits fifo first first_hall []
    first_stands = record {
      shows = record { clock = refl; entities = refl; ends = refl; waits = start.waits; units = refl };
      kept = kept;
      have = start.have;
      rest = λ system e is. (rests (link first.carrier).clock system e is).idle;
    }

    -- after the lines nothing waits
    pub run_settles : (script : List Line) (journal : List Event) (last : World C) → IsCalmRun link steps whole titles first script journal last → HasSettled link steps law titles Waits fifo first_hall journal last
    run_settles script journal last run = lines_go link steps law titles Waits fifo script first last first_hall [] journal first_stands (inl refl) run.settled run.proper run.unrouted run.undropped run.runs
