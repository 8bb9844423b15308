-- The largest set of states in which a carrier serves is one in which it does.
use Rattle.std.proofs.Common.{ℕ, Bool, List, [], ◌∷◌, refl, sym, subst}
use Rattle.osi_base.specs.Link.{Link}
use Rattle.osi_base.specs.Calls.{Call, Keeps}
use Rattle.law_carrier_answers.specs.Answers.{GoesThrough}
use Rattle.tp4_world.specs.Total.{Serves, ServesOn}
use Rattle.tp4_world.specs.Laws.{SomeRun, SomeStart}
use Rattle.tp4_world.proofs.SomeLines.{some_begin, some_line}

pub serves_on : {C : Type 0} (is_address : List ℕ → Bool) (link : C → Link (List ℕ)) (steps : C → Call (List ℕ) → C → Type 0) → Serves is_address link steps (ServesOn is_address link steps)
serves_on is_address link steps = record {
  answers = record {
    answered = λ old asked stands may. (stands [] old refl).answered asked may;
    stays = λ old call new stands may step. λ calls last course. stands (call ∷ calls) last (may, (new, step, course));
  };
  in_octets = λ old stands. (stands [] old refl).in_octets;
  least = λ old stands. (stands [] old refl).least;
}

-- the states of any such set are in it
course_stands : {C : Type 0} (is_address : List ℕ → Bool) (link : C → Link (List ℕ)) (steps : C → Call (List ℕ) → C → Type 0) (Stands : C → Type 0) → Serves is_address link steps Stands
    → (calls : List (Call (List ℕ))) (old new : C) → Stands old → GoesThrough is_address link steps old calls new → Stands new
course_stands is_address link steps Stands serves [] old new stands course = subst Stands (sym course) stands
course_stands is_address link steps Stands serves (call ∷ calls) old new stands course =
    course_stands is_address link steps Stands serves calls course.1.0 new (serves.answers.stays old call course.1.0 stands course.0 course.1.1) course.1.2

pub serves_within : {C : Type 0} (is_address : List ℕ → Bool) (link : C → Link (List ℕ)) (steps : C → Call (List ℕ) → C → Type 0) (Stands : C → Type 0) → Serves is_address link steps Stands
    → (old : C) → Stands old → ServesOn is_address link steps old
serves_within is_address link steps Stands serves old stands calls new course =
    let there = course_stands is_address link steps Stands serves calls old new stands course in record {
      answered = λ asked may. serves.answers.answered new asked there may;
      in_octets = serves.in_octets new there;
      least = serves.least new there;
    }

pub some_run : {C : Type 0} (link : C → Link (List ℕ)) (steps : C → Call (List ℕ) → C → Type 0) → ((old : C) (call : Call (List ℕ)) (new : C) → steps old call new → Keeps (link old) call (link new))
    → SomeRun link steps
some_run link steps keeps is_address wrap titles old line ready may =
    some_line link steps keeps is_address (ServesOn is_address link steps) (serves_on is_address link steps) wrap titles old line ready may

pub some_start : {C : Type 0} (link : C → Link (List ℕ)) (steps : C → Call (List ℕ) → C → Type 0) → ((old : C) (call : Call (List ℕ)) (new : C) → steps old call new → Keeps (link old) call (link new))
    → SomeStart link steps
some_start link steps keeps is_address first placed stands ready =
    some_begin link steps keeps is_address (ServesOn is_address link steps) (serves_on is_address link steps) (λ block number. number) first placed stands ready
