-- What an end notes as held it tells, and so it stands in the journal under the number of the end.
use Rattle.std.proofs.Common.{◌≡◌, inl, inr, ℕ, List, [], ◌++◌, arith}
use Rattle.std.proofs.lemmas.List.Elements.{Contains-append_cases, Contains-append_left, Contains-append_right}
use Rattle.tp4_number.specs.Number.{whole}
use Rattle.tpdu.specs.declared.service.HeldKind.TheVariants.{Dt, Ed}
use Rattle.tp4_conn.specs.End.{End}
use Rattle.tp4_conn.specs.Table.{Event, stepped}
use Rattle.tp4_conn.specs.declared.states.StateData.{StateData}
use Rattle.script_journal.specs.declared.event.Event.{Event as JournalEvent}
use Rattle.law_tp4_pair.specs.Telling.{Tells}
use Rattle.law_tp4_pair.proofs.ToldRows.{row_tells}
use Rattle.tp4_world.specs.Telling.{events_after}
use Rattle.tp4_world.specs.World.{latest}
use Rattle.tp4_world.specs.declared.place.EndAt.{EndAt}
use Rattle.law_tp4_lawful.proofs.ActsHeld.{held_in}
use Rattle.law_tp4_lawful.proofs.ActsRows.{AreTold}
use Rattle.law_recovery_world.specs.Steady.{StageTells}

-- a longer journal
pub tells_on : (journal made : List JournalEvent) (y : ℕ) (stage : StateData) → StageTells journal y stage → StageTells (journal ++ made) y stage
tells_on journal made y stage s = record {
  told = s.told;
  tells = s.tells;
  stands = record {
    urgent = λ reference n there. Contains-append_left journal made _ (s.stands.urgent reference n there);
    normal = λ reference n there. Contains-append_left journal made _ (s.stands.normal reference n there);
  };
}

-- an end that noted nothing
pub none_told : (journal : List JournalEvent) (y : ℕ) (stage : StateData) → Tells stage [] → StageTells journal y stage
none_told journal y stage tells = record {
  told = [];
  tells = tells;
  stands = record { urgent = λ reference n there. absurd (omega (arith, there.1)); normal = λ reference n there. absurd (omega (arith, there.1)) };
}

-- a row
pub row_told : (system : ℕ) (address : List ℕ) (own y now : ℕ) (ends : List EndAt) (e : End) (event : Event) (journal first : List JournalEvent) → latest ends system own ≡ y
    → AreTold own (stepped whole now e event).events → StageTells journal y e.stage
    → StageTells ((journal ++ first) ++ events_after ends system address (stepped whole now e event).events) y (stepped whole now e event).stage
row_told system address own y now ends e event journal first at are s = record {
  told = s.told ++ (stepped whole now e event).events;
  tells = row_tells now e event s.told s.tells;
  stands = record {
    urgent = λ reference m there. elim (Contains-append_cases s.told (stepped whole now e event).events _ there) [
      | inl old ↦ Contains-append_left (journal ++ first) rest _ (Contains-append_left journal first _ (s.stands.urgent reference m old))
      | inr new ↦ Contains-append_right (journal ++ first) rest _ (held_in system address own y (stepped whole now e event).events ends reference m Ed at are new)
    ];
    normal = λ reference m there. elim (Contains-append_cases s.told (stepped whole now e event).events _ there) [
      | inl old ↦ Contains-append_left (journal ++ first) rest _ (Contains-append_left journal first _ (s.stands.normal reference m old))
      | inr new ↦ Contains-append_right (journal ++ first) rest _ (held_in system address own y (stepped whole now e event).events ends reference m Dt at are new)
    ];
  };
}
  where
    rest : List JournalEvent
    rest = events_after ends system address (stepped whole now e event).events
