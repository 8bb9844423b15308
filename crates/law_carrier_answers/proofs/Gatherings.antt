-- What waits is taken up call by call: each of the calls is asked alike, so each leads to one state; and what waits is known before,
-- so the answers are those.
use Rattle.std.proofs.Common.{◌≡◌, Bool, List, [], ◌∷◌, ◌++◌, Some, None, Option, refl, sym, ◌∙◌, subst}
use Rattle.osi_base.specs.declared.unit.Up.{Up}
use Rattle.osi_base.specs.Link.{Link}
use Rattle.osi_base.specs.Calls.{Call, NextUp, Chain, Keeps, TakesUp}
use Rattle.osi_base.specs.Gathering.{Gathers, takings}
use Rattle.osi_base.proofs.Gatherings.{Gathering, gathered, gathering_next}
use Rattle.osi_base.proofs.Standings.{stands_same}
use Rattle.law_carrier_answers.specs.Answers.{AlwaysAnswers, AnswersOn, GoesThrough, TakingUp, OneGathering, OneStep, SomeGathering}
use Rattle.law_carrier_answers.proofs.Answered.{Answers, answered_by}

-- ---- one way

pub one_chain : {C A : Type 0} (steps : C → Call A → C → Type 0) → OneStep steps → (calls : List (Call A)) (old new next : C)
    → Chain steps old calls new → Chain steps old calls next → new ≡ next
one_chain steps once [] old new next a b = a ∙ sym b
one_chain steps once (call ∷ calls) old new next a b =
    let same = (once old call call a.0 b.0 refl a.1 b.1).1 in
    one_chain steps once calls b.0 new next (subst (λ (c : _). Chain steps c calls new) same a.2) b.2

pub one_gathering : {C A : Type 0} (link : C → Link A) (steps : C → Call A → C → Type 0) → OneStep steps → OneGathering link steps
one_gathering {C} {A} link steps once old ups others new next a b =
    let same : ups ≡ others = sym a.waited ∙ b.waited in
    let there : Chain steps old (takings others ++ NextUp None ∷ []) new =
    subst (λ (us : List (Up A)). Chain steps old (takings us ++ NextUp None ∷ []) new) same a.chain in
    (same, one_chain steps once (takings others ++ NextUp None ∷ []) old new next there b.chain)

-- ---- some way

module _ {C A : Type 0} (link : C → Link A) (steps : C → Call A → C → Type 0) (keeps : (old : C) (call : Call A) (new : C) → steps old call new → Keeps (link old) call (link new))
    (is_address : A → Bool) (Stands : C → Type 0) (answers : AlwaysAnswers is_address link steps Stands) where
  -- the rest of what waits, once these were taken up
  abbrev Rest : C → Type 0
  Rest old = (ups : List (Up A)) × (new : C) × Gathers link steps old ups new × Stands new

  -- what is answered to taking up
  took : (mid : C) → Stands mid → (new : C) × Answers steps mid TakingUp new
  took mid stands = let a = answers.answered mid TakingUp stands tt in (a.new, answered_by steps mid TakingUp a)

  -- nothing is left
  last : (old : C) (ups : List (Up A)) (mid : C) → Stands mid → Gathering link steps old ups mid → (link mid).waiting ≡ [] → (answer : Option (Up A)) (new : C)
      → steps mid (NextUp answer) new → Rest old
  last old ups mid stands so_far none None new s =
      (ups, new, gathered link steps old ups mid new so_far s (keeps mid (NextUp None) new s), answers.stays mid (NextUp None) new stands tt s)
  last old ups mid stands so_far none (Some up) new s =
      let t : TakesUp (link mid) (Some up) (link new) = keeps mid (NextUp (Some up)) new s in
      let e : [] ≡ up ∷ (link new).waiting = sym none ∙ t.waiting in
      absurd cc

  abbrev Goes : List (Up A) → Type 0
  Goes left = (old : C) (ups : List (Up A)) (mid : C) → Stands mid → Gathering link steps old ups mid → (link mid).waiting ≡ left → Rest old

  -- the next is taken up
  more : (left : List (Up A)) (next : Up A) → Goes left → (old : C) (ups : List (Up A)) (mid : C) → Stands mid → Gathering link steps old ups mid
      → (link mid).waiting ≡ next ∷ left → (answer : Option (Up A)) (new : C) → steps mid (NextUp answer) new → Rest old
  more left next goes old ups mid stands so_far waits None new s =
      let t : TakesUp (link mid) None (link new) = keeps mid (NextUp None) new s in
      let e : next ∷ left ≡ [] = sym waits ∙ t.none refl in
      absurd cc
  more left next goes old ups mid stands so_far waits (Some up) new s =
      let t : TakesUp (link mid) (Some up) (link new) = keeps mid (NextUp (Some up)) new s in
      let e : up ∷ (link new).waiting ≡ next ∷ left = sym t.waiting ∙ waits in
      goes old (ups ++ up ∷ []) new (answers.stays mid (NextUp (Some up)) new stands tt s) (gathering_next link steps old ups mid new up so_far s t) cc

  rest : (left : List (Up A)) → Goes left
  rest [] old ups mid stands so_far waits =
      let t = took mid stands in
      last old ups mid stands so_far waits t.1.0 t.0 t.1.1
  rest (next ∷ left) old ups mid stands so_far waits =
      let t = took mid stands in
      more left next (rest left) old ups mid stands so_far waits t.1.0 t.0 t.1.1

  pub some_gathering : SomeGathering link steps Stands
  some_gathering old stands =
      rest (link old).waiting old [] old stands
      (record { waited = refl; stands = stands_same (link old); grows = λ entry there. there; chain = refl }) refl

-- ---- the largest set

pub answers_on : {C A : Type 0} (is_address : A → Bool) (link : C → Link A) (steps : C → Call A → C → Type 0)
    → AlwaysAnswers is_address link steps (AnswersOn is_address link steps)
answers_on is_address link steps = record {
  answered = λ old asked stands may. stands [] old asked refl may;
  stays = λ old call new stands may step. λ calls last asked course. stands (call ∷ calls) last asked (may, (new, step, course));
}

pub some_gathering_on : {C A : Type 0} (link : C → Link A) (steps : C → Call A → C → Type 0) (keeps : (old : C) (call : Call A) (new : C) → steps old call new → Keeps (link old) call (link new))
    (is_address : A → Bool) → SomeGathering link steps (AnswersOn is_address link steps)
some_gathering_on link steps keeps is_address = some_gathering link steps keeps is_address (AnswersOn is_address link steps) (answers_on is_address link steps)

-- the states of any such set are in it
course_stands : {C A : Type 0} (is_address : A → Bool) (link : C → Link A) (steps : C → Call A → C → Type 0) (Stands : C → Type 0) → AlwaysAnswers is_address link steps Stands
    → (calls : List (Call A)) (old new : C) → Stands old → GoesThrough is_address link steps old calls new → Stands new
course_stands is_address link steps Stands answers [] old new stands course = subst Stands (sym course) stands
course_stands is_address link steps Stands answers (call ∷ calls) old new stands course =
    course_stands is_address link steps Stands answers calls course.1.0 new (answers.stays old call course.1.0 stands course.0 course.1.1) course.1.2

pub stands_within : {C A : Type 0} (is_address : A → Bool) (link : C → Link A) (steps : C → Call A → C → Type 0) (Stands : C → Type 0) → AlwaysAnswers is_address link steps Stands
    → (old : C) → Stands old → AnswersOn is_address link steps old
stands_within is_address link steps Stands answers old stands calls new asked course may =
    answers.answered new asked (course_stands is_address link steps Stands answers calls old new stands course) may
