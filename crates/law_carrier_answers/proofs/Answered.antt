-- What is asked is answered by a call of its kind.
use Rattle.std.proofs.Common.{Option, subst}
use Rattle.osi_base.specs.declared.unit.Injected.{Injected}
use Rattle.osi_base.specs.declared.unit.Offered.{Offered}
use Rattle.osi_base.specs.declared.unit.Picked.{Picked}
use Rattle.osi_base.specs.declared.unit.Up.{Up}
use Rattle.osi_base.specs.Calls.{Call, Offer, Choose, Inject, NextUp, Tick}
use Rattle.law_carrier_answers.specs.Answers.{Asked, IsAnswered, Offering, Choosing, Injecting, TakingUp, Ticking, asked_of}

-- a step of that kind, with its answer
abbrev pub Answers : {C A : Type 0} → (C → Call A → C → Type 0) → C → Asked A → C → Type 0
Answers steps old (Offering unit wish) new = (answer : Offered) × steps old (Offer unit wish answer) new
Answers steps old (Choosing pick system) new = (answer : Picked) × steps old (Choose pick system answer) new
Answers steps old (Injecting lan system octets) new = (answer : Injected) × steps old (Inject lan system octets answer) new
Answers {C} {A} steps old TakingUp new = (answer : Option (Up A)) × steps old (NextUp answer) new
Answers steps old Ticking new = steps old Tick new

step_answers : {C A : Type 0} (steps : C → Call A → C → Type 0) (old : C) (call : Call A) (new : C) → steps old call new → Answers steps old (asked_of call) new
step_answers steps old (Offer unit wish answer) new s = (answer, s)
step_answers steps old (Choose pick system answer) new s = (answer, s)
step_answers steps old (Inject lan system octets answer) new s = (answer, s)
step_answers steps old (NextUp answer) new s = (answer, s)
step_answers steps old Tick new s = s

pub answered_by : {C A : Type 0} (steps : C → Call A → C → Type 0) (old : C) (asked : Asked A) (a : IsAnswered steps old asked) → Answers steps old asked a.new
answered_by {C} {A} steps old asked a = subst (λ (x : Asked A). Answers steps old x a.new) a.is_asked (step_answers steps old a.call a.new a.steps_to)
