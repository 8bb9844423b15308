-- What is shown behind a relay (X.214, two queues for each connection).
use Rattle.std.specs.Prelude.{◌≡◌, ℕ, List, []}
use Rattle.std.specs.List.{Contains}
use Rattle.script_journal.specs.Lawful.{IsQueue, shown, submitted}
use Rattle.script_journal.specs.Partner.{AreEnds}
use Rattle.script_journal.specs.declared.event.Event.{Event}
use Rattle.script_journal.specs.declared.event.Event.TheVariants as events
pub use Rattle.tp4_relay.specs.Relaying.{AreJoinedOnce, IsCalled, IsMarkedFront, Relays, RelaysUnits}

-- for each pair, of the partners of its two ends: what the one shows is what the other submitted, as for partners; and nothing where one is missing
pub record IsThrough (journal : List Event) : Type 0 where
  pub once : AreJoinedOnce journal
  pub on : (i o a b : ℕ) → Contains journal (events.Joined i o) → AreEnds journal a i → AreEnds journal o b → IsQueue (submitted a journal) (shown b journal)
  pub back : (i o a b : ℕ) → Contains journal (events.Joined i o) → AreEnds journal a i → AreEnds journal o b → IsQueue (submitted b journal) (shown a journal)
  pub none_on : (i o b : ℕ) → Contains journal (events.Joined i o) → ((a : ℕ) → AreEnds journal a i → ⊥) → AreEnds journal o b → shown b journal ≡ []
  pub none_back : (i o a : ℕ) → Contains journal (events.Joined i o) → AreEnds journal a i → ((b : ℕ) → AreEnds journal o b → ⊥) → shown a journal ≡ []
