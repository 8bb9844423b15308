-- What an end told of the numbers that the number rule holds back (X.224, frozen references and numbers).
use Rattle.std.specs.Prelude.{◌≡◌, ℕ, true, List, Contains}
use Rattle.tp4_flow.specs.declared.step.EndEvent.{EndEvent}
use Rattle.tpdu.specs.declared.service.HeldKind.TheVariants.{Dt, Ed}
use Rattle.tp4_sending.specs.SendingHalf.{FlowSender, holds, is_noted}
use Rattle.tp4_conn.specs.declared.states.StateData.{StateData}
use Rattle.tp4_conn.specs.declared.states.StateData.TheVariants.{AkWait, Opened}
use Rattle.law_tp4_pair.specs.Pair.{Pair}

-- each number that is noted as held was told
pub record HasTold (s : FlowSender) (told : List EndEvent) : Type 0 where
  pub normal : (n : ℕ) → is_noted s.noted n ≡ true → Contains told (holds s Dt n)
  pub urgent : (n : ℕ) → is_noted s.urgent.noted n ≡ true → Contains told (holds s Ed n)

-- of an end that has a sending half
abbrev pub Tells : StateData → List EndEvent → Type 0
Tells (AkWait w) told = HasTold w.halves.sending told
Tells (Opened o) told = HasTold o.halves.sending told
Tells stage told = Unit {0}

-- of both ends of a pair
pub record AreTold (p : Pair) : Type 0 where
  pub calling : Tells p.calling.stage p.calling_told
  pub called : Tells p.called.stage p.called_told
