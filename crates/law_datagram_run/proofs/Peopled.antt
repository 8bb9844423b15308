-- The users of a set-up: each end system has its own, at the address of its title for transport.
use Rattle.std.proofs.Common.{◌≡◌, ◌==◌, ℕ, zero, suc, ◌+◌, ◌<◌, Bool, true, false, List, [], ◌∷◌, ◌++◌, map, Some, refl, ◌∙◌, ap, subst, arith}
use Rattle.std.specs.Prelude.{if◌then◌else◌, slice_get}
use Rattle.std.proofs.lemmas.Bool.Decides.{nat_tests}
use Rattle.cltp.specs.Systems.{system_at}
use Rattle.cltp.specs.declared.system.ClSystem.{ClSystem}
use Rattle.script_setup.specs.SetUp.{System, SetUp, end_at, titles_of}
use Rattle.tp4_world.specs.Run.{transport_address}
use Rattle.law_datagram_run.specs.Users.{users_at, users_from, users_of}

-- the users of an end system
pub record HasUsers (titles : List (List ℕ)) (users : List ClSystem) (place system : ℕ) : Type 0 where
  pub own : ClSystem
  pub own_is : system_at users system ≡ Some own
  pub title : List ℕ
  pub title_is : slice_get titles place ≡ Some title
  pub address_is : own.own ≡ transport_address title

titles : List System → List (List ℕ)
titles systems = map (λ (s : System). s.title) systems

user : ℕ → System → ClSystem
user number system = record { system = number; own = transport_address system.title; selectors = system.selectors }

-- the first of them, or one further on
first_is : (number system : ℕ) (first : System) (rest : List ClSystem) → number ≡ system → first.end ≡ true
    → system_at (users_at number first ++ rest) system ≡ Some (user number first)
unfolding user
first_is number system first rest same end = let here : (number == system) ≡ true = grind (arith, nat_tests) in rw (end, here) refl

others_are : (number system : ℕ) (first : System) (rest : List ClSystem) → number < system → system_at (users_at number first ++ rest) system ≡ system_at rest system
unfolding user
others_are number system first rest low = by first.end
  where
    here : (number == system) ≡ false
    here = grind (arith, nat_tests)

    by : (b : Bool) → system_at ((if b then user number first ∷ [] else []) ++ rest) system ≡ system_at rest system
    by true = rw here refl
    by false = refl

users_there : (number : ℕ) (systems : List System) (place : ℕ) → end_at systems place ≡ true → HasUsers (titles systems) (users_from number systems) place (number + place)
unfolding titles user
users_there number [] place is = absurd (cc)
users_there number (first ∷ systems) zero is = record {
  own = user number first;
  own_is = first_is number (number + 0) first (users_from (number + 1) systems) (omega arith) is;
  title = first.title;
  title_is = refl;
  address_is = refl;
}
users_there number (first ∷ systems) (suc place) is =
    let there = users_there (number + 1) systems place is in
    let next : number + suc place ≡ number + 1 + place = omega arith in
    record {
      own = there.own;
      own_is = others_are number (number + suc place) first (users_from (number + 1) systems) (omega arith) ∙ ap (system_at (users_from (number + 1) systems)) next ∙ there.own_is;
      title = there.title;
      title_is = there.title_is;
      address_is = there.address_is;
    }

pub has_users : (setup : SetUp) (system : ℕ) → end_at setup.systems system ≡ true → HasUsers (titles_of setup) (users_of setup) system system
unfolding titles
has_users setup system is = subst (λ (n : ℕ). HasUsers (titles_of setup) (users_of setup) system n) (omega arith) (users_there 0 setup.systems system is)
