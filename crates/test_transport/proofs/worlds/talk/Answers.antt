-- The calls of `talk` inject nothing, so the carrier is as honest after them as it was before the first; and each keeps its limits. So what they tell is
-- lawful, by `over_calls`.
use Rattle.std.proofs.Common.{ℕ, List, [], ◌∷◌, ◌++◌, refl, sym, ◌∙◌}
use Rattle.std.specs.List.{AllByRecursion}
use Rattle.std.proofs.lemmas.List.{append-nil}
use Rattle.osi_base.specs.Link.{Link}
use Rattle.osi_base.specs.Calls.{Call}
use Rattle.script_journal.specs.Lawful.{Lawful}
use Rattle.script_journal.specs.declared.event.Event.{Event}
use Rattle.tp4_number.specs.Number.{wire}
use Rattle.tp4_conn.specs.End.{IsTimed, frozen_for}
use Rattle.tp4_conn.specs.declared.call.UserCall.TheVariants as asks
use Rattle.tp4_conn.specs.declared.timers.Timers.{Timers}
use Rattle.tp4_world.specs.Called as requests
use Rattle.tp4_world.specs.Laws.{CallsStayHonest}
use Rattle.tp4_world.specs.Called.{DidAll, InjectsNothing, KeepsLimits, WorldCall}
use Rattle.tp4_world.specs.First.{IsFirst}
use Rattle.tp4_world.specs.Run.{Starts}
use Rattle.tp4_world.specs.World.{World}
use Rattle.tp4_world.specs.declared.place.Placed.{Placed}
use Rattle.tp4_world.proofs.Shown.{first_honest}
use Rattle.law_tp4_lawful.specs.Laws.{CallsAreLawful}
use Rattle.law_tp4_lawful.specs.First.{AreDistinct, IsUntouched}
use Rattle.test_transport.proofs.worlds.talk.Goals as goal

-- what calls tell is lawful, where none of them injects
lawful_calls : {C : Type 0} (link : C → Link (List ℕ)) (steps : C → Call (List ℕ) → C → Type 0) → CallsAreLawful link steps → CallsStayHonest link steps
    → (titles : List (List ℕ)) (timers : Timers) (made : C) (placed : List Placed) (begun later : List Event) (calls : List WorldCall) (first last : World C)
    → IsTimed timers → AreDistinct titles → IsFirst timers.life titles (link made) placed → AllByRecursion (IsUntouched timers) placed → Starts link steps made placed begun first
    → AllByRecursion KeepsLimits calls → AllByRecursion InjectsNothing calls → DidAll link steps wire first calls later last → Lawful (frozen_for timers) titles (begun ++ later)
lawful_calls link steps law honest titles timers made placed begun later calls first last timed distinct is untouched starts limits none did =
    law titles timers (begun ++ later) last (record {
      run = record {
        made = made;
        placed = placed;
        begun = begun;
        first = first;
        calls = calls;
        later = later;
        is_first = is;
        untouched = untouched;
        starts = starts;
        did = did;
        journal_is = refl;
      };
      timed = timed;
      distinct = distinct;
      limits = limits;
      honest = honest.alike wire calls first last later none did ∙ first_honest link steps timers.life titles made placed begun first is starts;
    })

pub returns : goal.returns
returns g c = λ titles timers timed distinct is untouched calling called.
    lawful_calls g.C.Carrier.link g.C.Carrier.steps c.over_calls.ensures.lawful c.calls_stay_honest.ensures titles timers c.args.carrier c.args.systems.items c.start.new.events.items _
    (requests.Connect 1 c.args.request ∷ requests.Settle ∷ requests.Ask 2 (asks.Accept c.args.options _) ∷ requests.Settle ∷ requests.Ask 1 (asks.Normal c.args.unit) ∷ requests.Settle ∷ [])
    c.in_ok-world.world c.settle-3.new.self timed distinct is untouched c.in_ok-world.ensures
    ((c.requires.asked, calling, called), (tt, (c.requires.agreed, (tt, (tt, (tt, tt))))))
    (tt, (tt, (tt, (tt, (tt, (tt, tt)))))) (
      c.connect.new.self,
      c.connect.new.events.items,
      _,
      c.in_ok-connect.ensures,
      refl,
      (
        c.settle.new.self,
        c.settle.new.events.items,
        _,
        c.in_ok-settle.ensures,
        refl,
        (
          c.call.new.self,
          c.call.new.events.items,
          _,
          c.in_ok-call.ensures,
          refl,
          (
            c.settle-2.new.self,
            c.settle-2.new.events.items,
            _,
            c.in_ok-settle-2.ensures,
            refl,
            (
              c.call-2.new.self,
              c.call-2.new.events.items,
              _,
              c.in_ok-call-2.ensures,
              refl,
              (c.settle-3.new.self, c.settle-3.new.events.items, [], c.in_ok-settle-3.ensures, sym (append-nil c.settle-3.new.events.items), (refl, refl)),
            ),
          ),
        ),
      ),
    )

pub connect-requires-clause-listed : goal.connect-requires-clause-listed
connect-requires-clause-listed g c = rw c.in_ok-world.ensures.becomes c.requires.listed
