-- What waits from one end for another, in a queue in which the TPDUs of others stand too.
use Rattle.std.proofs.Common.{◌≡◌, ℕ, ◌==◌, Bool, true, false, List, [], ◌∷◌, ◌++◌, Option, Some, None, refl, ◌∙◌, ap}
use Rattle.std.specs.Prelude.{◌&&◌, nat_eq, if◌then◌else◌}
use Rattle.std.specs.List.{AllByRecursion}
use Rattle.std.specs.Cmp.Lexicographic.{bytes_decides, pointwise}
use Rattle.std.proofs.lemmas.Bool.{eq-eqb, eqb-true}
use Rattle.tpdu.specs.Values.{destination_of}
use Rattle.tp4_flow.specs.declared.step.Sent.{Sent}
use Rattle.law_calm_run.proofs.Hall.{Post, posted}
use Rattle.law_recovery_run.specs.Aside.{IsSentTo}
use Rattle.law_recovery_run.specs.Following.{is_sent_to, is_target, sent_to}

pub both_parts : (a b : Bool) → (a && b) ≡ true → (a ≡ true) × (b ≡ true)
both_parts true b is = (refl, is)
both_parts false b is = absurd cc

target_is : (reference : ℕ) (target : Option ℕ) → target ≡ Some reference → is_target reference target ≡ true
target_is reference None is = absurd cc
target_is reference (Some n) is = let same : n ≡ reference = cc is in eq-eqb n reference same

target_of : (reference : ℕ) (target : Option ℕ) → is_target reference target ≡ true → target ≡ Some reference
target_of reference None is = absurd cc
target_of reference (Some n) is = ap (λ (m : ℕ). Some m) (eqb-true n reference is)

pub sent_there : (to : List ℕ) (reference : ℕ) (sent : Sent) → IsSentTo to reference sent → is_sent_to to reference sent ≡ true
sent_there to reference sent s =
    ap (λ (b : Bool). b && is_target reference (destination_of sent.tpdu)) ((bytes_decides sent.to to).1 s.address) ∙ target_is reference (destination_of sent.tpdu) s.target

pub there_sent : (to : List ℕ) (reference : ℕ) (sent : Sent) → is_sent_to to reference sent ≡ true → IsSentTo to reference sent
there_sent to reference sent is =
    let both = both_parts (pointwise nat_eq sent.to to) (is_target reference (destination_of sent.tpdu)) is in
    record { address = (bytes_decides sent.to to).0 both.0; target = target_of reference (destination_of sent.tpdu) both.1 }

module _ (system : ℕ) (to : List ℕ) (reference : ℕ) where
  abbrev pub is_of : Post → Bool
  is_of post = post.system == system && is_sent_to to reference post.sent

  abbrev waits : List Post → List Sent
  waits posts = sent_to system to reference posts

  abbrev pick : Bool → Sent → List Sent → List Sent
  pick b sent rest = if b then sent ∷ rest else rest

  pub waits_append : (posts more : List Post) → sent_to system to reference (posts ++ more) ≡ sent_to system to reference posts ++ sent_to system to reference more
  waits_append [] more = refl
  waits_append (post ∷ posts) more = step (is_of post) (waits_append posts more)
    where
      step : (b : Bool) → waits (posts ++ more) ≡ waits posts ++ waits more → pick b post.sent (waits (posts ++ more)) ≡ pick b post.sent (waits posts) ++ waits more
      step true rest = ap (λ (l : List Sent). post.sent ∷ l) rest
      step false rest = rest

  -- one post
  pub first_is : (post : Post) (rest : List Post) → post.system ≡ system → IsSentTo to reference post.sent → sent_to system to reference (post ∷ rest) ≡ post.sent ∷ sent_to system to reference rest
  first_is post rest at sent =
      ap (λ (b : Bool). pick b post.sent (waits rest)) (ap (λ (b : Bool). b && is_sent_to to reference post.sent) (eq-eqb post.system system at) ∙ sent_there to reference post.sent sent)

  pub first_other : (post : Post) (rest : List Post) → (post.system ≡ system → IsSentTo to reference post.sent → ⊥) → sent_to system to reference (post ∷ rest) ≡ sent_to system to reference rest
  first_other post rest apart = by (is_of post) refl
    where
      by : (b : Bool) → is_of post ≡ b → pick b post.sent (waits rest) ≡ waits rest
      by true is = let both = both_parts (post.system == system) (is_sent_to to reference post.sent) is in absurd (apart (eqb-true post.system system both.0) (there_sent to reference post.sent both.1))
      by false is = refl

  -- what an entity sent
  pub posted_all : (tpdus : List Sent) → AllByRecursion (IsSentTo to reference) tpdus → sent_to system to reference (posted system tpdus) ≡ tpdus
  posted_all [] all = refl
  posted_all (sent ∷ tpdus) all = first_is (record { system = system; sent = sent }) (posted system tpdus) refl all.0 ∙ ap (λ (l : List Sent). sent ∷ l) (posted_all tpdus all.1)

  pub posted_none : (tpdus : List Sent) → AllByRecursion (λ (sent : Sent). IsSentTo to reference sent → ⊥) tpdus → sent_to system to reference (posted system tpdus) ≡ []
  posted_none [] all = refl
  posted_none (sent ∷ tpdus) all = first_other (record { system = system; sent = sent }) (posted system tpdus) (λ at there. all.0 there) ∙ posted_none tpdus all.1

  pub posted_elsewhere : (other : ℕ) (tpdus : List Sent) → (other ≡ system → ⊥) → sent_to system to reference (posted other tpdus) ≡ []
  posted_elsewhere other [] apart = refl
  posted_elsewhere other (sent ∷ tpdus) apart = first_other (record { system = other; sent = sent }) (posted other tpdus) (λ at there. apart at) ∙ posted_elsewhere other tpdus apart

-- what holds of each TPDU holds of each post
pub posted_each : (P : Post → Type 0) (system : ℕ) (tpdus : List Sent) → AllByRecursion (λ (sent : Sent). P (record { system = system; sent = sent })) tpdus → AllByRecursion P (posted system tpdus)
posted_each P system [] all = tt
posted_each P system (sent ∷ tpdus) all = (all.0, posted_each P system tpdus all.1)
