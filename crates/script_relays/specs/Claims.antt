-- What a user of a script with relays may see: each connection is two queues, and so are the two connections of a pair together (X.214, model of the
-- transport service).
use Rattle.std.specs.Prelude.{◌≡◌, ℕ, List, ◌++◌}
use Rattle.law_relay.specs.Through.{IsThrough, RelaysUnits}
use Rattle.script_journal.specs.Lawful.{Lawful}
use Rattle.script_journal.specs.RawLawful.{RawLawful}
use Rattle.script_journal.specs.declared.event.Event.{Event}
use Rattle.script_lines.specs.declared.line.Line.{Line}
use Rattle.script_setup.specs.SetUp.{timers_of, titles_of as titles_said}
use Rattle.script_world.specs.declared.play.World.{World}
use Rattle.script_world.specs.declared.play.World.TheVariants.{Running, SettingUp}
use Rattle.tp4_conn.specs.End.{frozen_for}
use Rattle.law_relay.specs.Relays.{RelayRun}

-- the titles of the systems by their numbers, the lifetime of their PDUs in ticks, and for how many ticks a reference is frozen
abbrev pub titles_of : {N : Type 0} → World (RelayRun N) → List (List ℕ)
titles_of (SettingUp setup) = titles_said setup
titles_of (Running run) = run.titles

abbrev pub life_of : {N : Type 0} → World (RelayRun N) → ℕ
life_of (SettingUp setup) = setup.life
life_of (Running run) = run.relay.rules.life

abbrev pub frozen_of : {N : Type 0} → World (RelayRun N) → ℕ
frozen_of (SettingUp setup) = frozen_for (timers_of setup.life setup.limits)
frozen_of (Running run) = frozen_for run.relay.rules

-- the journal is lawful; and at each of its fronts what a relay submitted at one end of a pair is a front of what the other end showed, and of the partners
-- of the two ends each shows, in order, a front of what the other submitted, and nothing where one is missing; and each raw unit that is shown was sent
pub record IsRelayed (life frozen : ℕ) (titles : List (List ℕ)) (journal : List Event) : Type 0 where
  pub lawful : Lawful frozen titles journal
  pub raw : RawLawful life titles journal
  pub units : (front back : List Event) → journal ≡ front ++ back → RelaysUnits front
  pub through : (front back : List Event) → journal ≡ front ++ back → IsThrough front

-- so it is of a script and its journal
abbrev pub RelaysLawfully : {N : Type 0} → List Line → List Event → World (RelayRun N) → Type 0
RelaysLawfully script journal last = IsRelayed (life_of last) (frozen_of last) (titles_of last) journal
