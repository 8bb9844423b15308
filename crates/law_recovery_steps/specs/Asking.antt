-- What a call of a sending half puts behind what waits, of EDs, is what their road gets by its moves (X.224, class 4: expedited data, retransmission on time-out).
use Rattle.std.specs.Prelude.{◌≡◌, ◌⊎◌, ◌<◌, ℕ, List, ◌++◌, Option, Some, None, Contains}
use Rattle.tp4_number.specs.Traffic.{Rules}
use Rattle.law_recovery_pair.specs.Urgent.{GoOn, UrgentMove, UrgentRoad}
use Rattle.tp4_sending.specs.declared.tries.Tries.{Tries}
use Rattle.tp4_sending.specs.SendingHalf.{FlowSender, Sendings, block_in, UrgentSender}
use Rattle.tp4_sending.specs.Kept.{urgent_base}
use Rattle.law_recovery_pair.specs.Riding.{rules_by}
use Rattle.law_tp4_pair.specs.Flowing.{HasUnit}
use Rattle.law_tp4_pair.specs.Waiting.{eds_in}
use Rattle.law_recovery_steps.specs.Sending.{dts_on}

-- what of the road is in neither half, but for the first ED without its EA
pub record UrgentAside : Type 0 where
  pub sends : List (ℕ × ℕ)
  pub answers : List (ℕ × ℕ)
  pub eds : List (ℕ × ℕ)
  pub eas : List (ℕ × ℕ)

abbrev pub urgent_road : ℕ → ℕ → UrgentSender → ℕ → UrgentAside → UrgentRoad
urgent_road now base v expected x = record {
  urgent = record { clock = now; base = base; next = v.next; blocks = v.blocks; sends = x.sends; expected = expected; answers = x.answers };
  eds = x.eds;
  eas = x.eas;
}

pub record GoesUrgently (rules : Rules) (u : ℕ) (old new : UrgentRoad) : Type 0 where
  pub moves : List UrgentMove
  pub are : GoOn rules u old moves new

-- these EDs were sent
abbrev pub asked_aside : UrgentAside → List (ℕ × ℕ) → UrgentAside
asked_aside x more = record x { sends = x.sends ++ more; eds = x.eds ++ more }

-- the ED that is outstanding was tried last before that tick, or stands among the sendings
abbrev pub IsAskedBy : ℕ → ℕ → Option Tries → List (ℕ × ℕ) → Type 0
IsAskedBy u base None sends = Unit {0}
IsAskedBy u base (Some tries) sends = (tries.last < u) ⊎ Contains sends (base, tries.last)

-- a half goes on from s, beside which y stands after what came: its EDs are those of the road
pub record AsksOut (life u : ℕ) (s : FlowSender) (base expected : ℕ) (x y : UrgentAside) (z : Sendings) : Type 0 where
  pub after : ℕ
  pub more : List (ℕ × ℕ)
  pub goes : GoesUrgently (rules_by life s.rules) u (urgent_road s.clock base s.urgent expected x) (urgent_road s.clock after z.sender.urgent expected (asked_aside y more))
  pub base_is : urgent_base z.sender.urgent z.sender.urgent.out after
  pub unit : HasUnit z.sender.urgent.units z.sender.urgent.out
  pub rules : z.sender.rules ≡ s.rules
  pub clock : z.sender.clock ≡ s.clock
  pub eds : eds_in z.tpdus ≡ dts_on (block_in s) more
  pub more_now : (e : ℕ × ℕ) → Contains more e → e.1 ≡ s.clock
  pub tried : (sends : List (ℕ × ℕ)) → IsAskedBy u base s.urgent.out sends → IsAskedBy u after z.sender.urgent.out (sends ++ more)
