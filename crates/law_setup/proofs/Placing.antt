-- The transport entities of a network that starts: each is ready, and each end system has one.
use Rattle.std.proofs.Common.{◌≡◌, ◌==◌, ℕ, zero, suc, ◌+◌, Bool, true, false, List, [], ◌∷◌, ◌++◌, length, map, Option, Some, None, refl, sym, ◌∙◌, ap, subst, arith}
use Rattle.std.specs.Prelude.{◌-◌, find, if◌then◌else◌, option_map, replicate, slice_get, IsSome}
use Rattle.std.specs.List.{AllByRecursion}
use Rattle.std.proofs.lemmas.Bool.Decides.{nat_tests}
use Rattle.std.proofs.lemmas.Option.{none-some}
use Rattle.law_clnp_net.specs.Standing.{IsNsap, is_nsap}
use Rattle.law_clnp_net.proofs.answered.Carrying.{nsap_passes}
use Rattle.tp4_conn.specs.End.{End}
use Rattle.tp4_entity.specs.Entity.{Entity, there}
use Rattle.law_tp4_proper.specs.Octets.{EndInOctets}
use Rattle.law_tp4_proper.proofs.Ends.{new_rests}
use Rattle.tp4_world.specs.Run.{transport_address}
use Rattle.tp4_world.specs.Total.{AreReady, IsReadyEntity}
use Rattle.tp4_world.specs.World.{entity_at, is_of}
use Rattle.tp4_world.specs.declared.place.Placed.{Placed}
use Rattle.script_setup.specs.declared.transport.Limits.{Limits}
use Rattle.script_setup.specs.Fitting.{IsTitle, IsWell}
use Rattle.script_setup.specs.SetUp.{System, SetUp, end_at as ends_at, entity_with, timers_of, titles_of}
use Rattle.law_setup.specs.Entities.{entities_from, entities_of}
use Rattle.script_setup.proofs.Elements.{at, find_all}
use Rattle.script_setup.proofs.Entities.{are_timed}
use Rattle.law_setup.proofs.Peopled.{of_systems, title_there}
use Rattle.law_setup.proofs.InOctets.{address_octets}

-- a title of a system, in octets
pub record IsOwn (title : List ℕ) : Type 0 where
  pub fits : IsTitle title
  pub octets : IsNsap title

pub titles_own : (titles : List (List ℕ)) → AllByRecursion IsTitle titles → AllByRecursion IsNsap titles → AllByRecursion IsOwn titles
titles_own [] fits octets = tt
titles_own (title ∷ titles) fits octets = (record { fits = fits.0; octets = octets.0 }, titles_own titles fits.1 octets.1)

-- ---- each is ready

no_place : (count k : ℕ) → there (slice_get (replicate count None) k) ≡ None
no_place zero k = refl
no_place (suc count) zero = refl
no_place (suc count) (suc k) = no_place count k

no_end : (count reference : ℕ) (end : End) → (if reference == 0 then None else there (slice_get (replicate count None) (reference - 1))) ≡ Some end → EndInOctets is_nsap end
no_end count reference end is = by (reference == 0) is
  where
    by : (b : Bool) → (if b then None else there (slice_get (replicate count None) (reference - 1))) ≡ Some end → EndInOctets is_nsap end
    by true i = absurd (cc)
    by false i = absurd (none-some end (sym (no_place count (reference - 1)) ∙ i))

abbrev places : ℕ → List (Option End)
places count = replicate count None

length_places : (count : ℕ) → length (places count) ≡ count
length_places zero = refl
length_places (suc count) = let others = length_places count in omega (arith, others)

ready : (setup : SetUp) (now : ℕ) (system : System) → IsWell setup → IsOwn system.title → IsReadyEntity is_nsap now (entity_with setup.limits.references (timers_of setup.life setup.limits) system)
ready setup now system w own =
    let some = own.fits.some in
    let few = w.limits.most_references in
    let count = length_places setup.limits.references in
    record {
      rest = new_rests now setup.limits.references (entity_with setup.limits.references (timers_of setup.life setup.limits) system) refl (are_timed setup.life setup.limits w.limits w.times.most_life) w.limits.least_inactive;
      octets = record {
        own = nsap_passes (transport_address system.title) (address_octets system.title 1 (omega arith) some own.octets);
        few = omega (arith, count, few);
        ends = λ reference end is. no_end setup.limits.references reference end is;
      };
    }

entity_ready : (now system : ℕ) (e : Entity) (found : Option Placed) → ((one : Placed) → found ≡ Some one → IsReadyEntity is_nsap now one.entity) → option_map (λ (one : Placed). one.entity) found ≡ Some e → IsReadyEntity is_nsap now e
entity_ready now system e None are is = absurd (cc)
entity_ready now system e (Some one) are is = let same : one.entity ≡ e = cc in subst (IsReadyEntity is_nsap now) same (are one refl)

pub entities_ready : (setup : SetUp) (now : ℕ) → IsWell setup → AllByRecursion IsOwn (titles_of setup) → AreReady is_nsap now (entities_of setup)
entities_ready setup now w own system e is =
    let all : AllByRecursion (λ (one : Placed). IsReadyEntity is_nsap now one.entity) (entities_of setup) =
    of_systems (λ (one : Placed). IsReadyEntity is_nsap now one.entity) setup.life setup.limits 0 setup.systems
    (λ place there is. ready setup now there w (at IsOwn (titles_of setup) place there.title own (title_there setup.systems place there is))) in
    entity_ready now system e (find (is_of system) (entities_of setup))
    (λ one found. find_all (λ (one : Placed). IsReadyEntity is_nsap now one.entity) (is_of system) (entities_of setup) one all found) is

-- ---- each end system has one

-- the entity of one system is found, or the search goes on
there_by : (system number : ℕ) (entity : Entity) (rest : List Placed) → number ≡ system → IsSome (entity_at (record { system = number; entity = entity } ∷ rest) system)
there_by system number entity rest same = let here : (number == system) ≡ true = grind (arith, nat_tests) in rw here refl

others_by : (system number : ℕ) (entity : Entity) (rest : List Placed) → IsSome (entity_at rest system) → IsSome (entity_at (record { system = number; entity = entity } ∷ rest) system)
others_by system number entity rest is = by (number == system)
  where
    by : (b : Bool) → IsSome (option_map (λ (one : Placed). one.entity) (if b then Some (record { system = number; entity = entity }) else find (is_of system) rest))
    by true = refl
    by false = is

pub present_from : (life : ℕ) (limits : Limits) (number : ℕ) (systems : List System) (place : ℕ) → ends_at systems place ≡ true → IsSome (entity_at (entities_from life limits number systems) (number + place))
present_from life limits number [] place is = absurd (cc)
present_from life limits number (system ∷ systems) zero is =
    rw is (there_by (number + 0) number (entity_with limits.references (timers_of life limits) system) (entities_from life limits (number + 1) systems) (omega arith))
present_from life limits number (system ∷ systems) (suc place) is =
    by system.end (subst (λ (n : ℕ). IsSome (entity_at (entities_from life limits (number + 1) systems) n)) (omega arith) (present_from life limits (number + 1) systems place is))
  where
    by : (b : Bool) → IsSome (entity_at (entities_from life limits (number + 1) systems) (number + suc place))
        → IsSome (entity_at ((if b then record { system = number; entity = entity_with limits.references (timers_of life limits) system } ∷ [] else []) ++ entities_from life limits (number + 1) systems) (number + suc place))
    by true rest = others_by (number + suc place) number (entity_with limits.references (timers_of life limits) system) (entities_from life limits (number + 1) systems) rest
    by false rest = rest

pub present : (setup : SetUp) (system : ℕ) → ends_at setup.systems system ≡ true → IsSome (entity_at (entities_of setup) system)
present setup system is = subst (λ (n : ℕ). IsSome (entity_at (entities_of setup) n)) (omega arith) (present_from setup.life setup.limits 0 setup.systems system is)

-- ---- a line leaves it

-- a system has an entity where it stands among those that have one
pub among : (before after : List Placed) (system : ℕ) → map (λ (one : Placed). one.system) after ≡ map (λ (one : Placed). one.system) before → IsSome (entity_at before system) → IsSome (entity_at after system)
among [] [] system same is = is
among [] (y ∷ ys) system same is = absurd (cc)
among (x ∷ xs) [] system same is = absurd (cc)
among (x ∷ xs) (y ∷ ys) system same is =
    let here : y.system ≡ x.system = cc in
    let others : map (λ (one : Placed). one.system) ys ≡ map (λ (one : Placed). one.system) xs = cc in
    by (among xs ys system others) (x.system == system) (y.system == system) (ap (λ (n : ℕ). n == system) here) is
  where
    by : (IsSome (entity_at xs system) → IsSome (entity_at ys system)) → (a b : Bool) → b ≡ a → IsSome (option_map (λ (one : Placed). one.entity) (if a then Some x else find (is_of system) xs))
        → IsSome (option_map (λ (one : Placed). one.entity) (if b then Some y else find (is_of system) ys))
    by rest true true same i = refl
    by rest false false same i = rest i
    by rest true false same i = absurd (cc)
    by rest false true same i = absurd (cc)
