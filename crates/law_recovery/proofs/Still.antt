-- What a history says of entities and ends it says of a network in which nothing floats.
use Rattle.std.proofs.Common.{ℕ, false, true, List, [], refl, arith}
use Rattle.osi_base.specs.Link.{Link}
use Rattle.script_journal.specs.declared.event.Event.{Event}
use Rattle.tp4_conn.specs.declared.timers.Timers.{Timers}
use Rattle.law_tp4_history.specs.Tracks.{Whole}
use Rattle.tp4_world.specs.World.{World}
use Rattle.tp4_world.specs.declared.place.EndAt.{EndAt}
use Rattle.tp4_world.specs.declared.place.Placed.{Placed}
use Rattle.law_tp4_lawful.proofs.Known.{Known}
use Rattle.law_tp4_lawful.proofs.Worlds.{Explains}

-- the carrier is what is seen of it
abbrev pub seen_of : Link (List ℕ) → Link (List ℕ)
seen_of link = link

-- one in which nothing floats
abbrev pub empty_at : ℕ → Link (List ℕ)
empty_at clock = record {
  clock = clock;
  floating = [];
  waiting = [];
  honest = true;
  strays = 0;
  bound = λ to. 0;
  room = λ to. 0;
  belongs = λ to system. false;
  given = 0;
  takes = λ pick system. false;
  took = λ pick system. false;
}

abbrev pub still : ℕ → List Placed → List EndAt → World (Link (List ℕ))
still clock entities ends = record { carrier = empty_at clock; entities = entities; ends = ends }

pub still_explains : (titles : List (List ℕ)) (timers : Timers) (w : Whole) (journal : List Event) (entities : List Placed) (ends : List EndAt) → Known titles timers w journal entities ends
    → Explains seen_of titles timers w journal (still w.base.clock entities ends)
still_explains titles timers w journal entities ends known = record {
  known = known;
  carries = record { clock = refl; quiet = refl; honest = refl; bounds = λ to. omega arith; backed = λ entry there transport. absurd (omega (arith, there.1)) };
}
