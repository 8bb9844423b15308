-- What waits of the associations stays what it was where each association keeps its systems, and what an end sends comes behind it.
use Rattle.std.proofs.Common.{◌≡◌, ℕ, Bool, true, false, List, [], ◌∷◌, ◌++◌, map, slice_get, slice_set, Option, Some, refl, sym, ◌∙◌, ap, subst, inl, inr}
use Rattle.std.proofs.lemmas.Bool.{cases_eq}
use Rattle.script_journal.specs.declared.event.Event.{Event}
use Rattle.tp4_flow.specs.declared.step.Sent.{Sent}
use Rattle.tp4_conn.specs.End.{End}
use Rattle.tp4_conn.specs.declared.timers.Timers.{Timers}
use Rattle.tp4_world.specs.declared.place.Placed.{Placed}
use Rattle.law_tp4_associations.specs.Association.{Association, Posted, cleared, post, system_of, with_party}
use Rattle.law_tp4_associations.specs.Handing.{AreProperEnds}
use Rattle.law_tp4_associations.specs.Standing.{Standing}
use Rattle.law_calm_run.proofs.Hall.{AreAllProper, Hall, Post, posted}
use Rattle.law_calm_run.proofs.Story.{ArePosts, IsRunning, Story, Tells}
use Rattle.law_calm_run.proofs.Continuing.{get_set_other, get_set_same, map_get, some_same, system_same, with_from, with_to}

-- ---- associations that keep their systems

pub record IsStill (new : List Association) (k : ℕ) (a : Association) : Type 0 where
  pub now : Association
  pub is : slice_get new k ≡ Some now
  pub systems : (by : Bool) → system_of now by ≡ system_of a by

abbrev pub AreStill : List Association → List Association → Type 0
AreStill old new = (k : ℕ) (a : Association) → slice_get old k ≡ Some a → IsStill new k a

-- an end of an association is another one
pub party_systems : (a : Association) (by : Bool) (place : Option End) (other : Bool) → system_of (with_party a by place) other ≡ system_of a other
party_systems a by place other = system_same a (with_party a by place) (with_from a by place) (with_to a by place) other

pub set_still : (all : List Association) (k : ℕ) (a b : Association) → slice_get all k ≡ Some a → ((by : Bool) → system_of b by ≡ system_of a by) → AreStill all (slice_set all k b)
set_still all k a b is systems j c at = elim (cases_eq j k) [
  | inl same ↦
      let c_is : c ≡ a = some_same c a (sym at ∙ ap (slice_get all) same ∙ is) in
      record { now = b; is = ap (slice_get (slice_set all k b)) same ∙ get_set_same all k b a is; systems = λ by. systems by ∙ ap (λ (x : Association). system_of x by) (sym c_is) }
  | inr apart ↦ record { now = c; is = get_set_other all k j b apart ∙ at; systems = λ by. refl }
]

pub cleared_still : (all : List Association) (system reference : ℕ) → AreStill all (map (cleared system reference) all)
cleared_still all system reference k a at =
    record { now = cleared system reference a; is = map_get (cleared system reference) all k a at; systems = same a }
  where
    same : (a : Association) (by : Bool) → system_of (cleared system reference a) by ≡ system_of a by
    same a true = refl
    same a false = refl

pub still_then : (old mid new : List Association) → AreStill old mid → AreStill mid new → AreStill old new
still_then old mid new first second k a at =
    let one = first k a at in
    let other = second k one.now one.is in
    record { now = other.now; is = other.is; systems = λ by. other.systems by ∙ one.systems by }

-- ---- what waits

pub posts_still : (old new : List Association) (queue : List Posted) (posts : List Post) → AreStill old new → ArePosts old queue posts → ArePosts new queue posts
posts_still old new [] posts still are = are
posts_still old new (posted ∷ queue) posts still are =
    let s = still posted.of are.0 are.2 in
    (s.now, are.1, s.is, are.3 ∙ ap (λ (n : ℕ). record { system = n; sent = posted.sent } ∷ are.1) (sym (s.systems posted.by)), posts_still old new queue are.1 still are.4)

pub posts_behind : (all : List Association) (queue more : List Posted) (posts others : List Post) → ArePosts all queue posts → ArePosts all more others → ArePosts all (queue ++ more) (posts ++ others)
posts_behind all [] more posts others are rest = subst (λ (front : List Post). ArePosts all more (front ++ others)) (sym are) rest
posts_behind all (posted ∷ queue) more posts others are rest =
    (are.0, are.1 ++ others, are.2, ap (λ (front : List Post). front ++ others) are.3, posts_behind all queue more are.1 others are.4 rest)

-- what an end of association k sent
pub posts_of : (all : List Association) (k : ℕ) (by : Bool) (system : ℕ) (a : Association) (tpdus : List Sent) → slice_get all k ≡ Some a → system_of a by ≡ system → ArePosts all (post k by tpdus) (posted system tpdus)
posts_of all k by system a [] at from = refl
posts_of all k by system a (sent ∷ tpdus) at from =
    (a, posted system tpdus, at, ap (λ (s : ℕ). record { system = s; sent = sent } ∷ posted system tpdus) (sym from), posts_of all k by system a tpdus at from)

-- where no TPDU waits, none does of the associations
pub none_posted : (all : List Association) (queue : List Posted) (posts : List Post) → ArePosts all queue posts → posts ≡ [] → queue ≡ []
none_posted all [] posts are none = refl
none_posted all (one ∷ queue) posts are none = let e : [] ≡ _ = sym none ∙ are.3 in absurd cc

-- so what stands beside the network stands with an empty queue
pub record IsIdle (timers : Timers) (own : ℕ → List ℕ) (hall : Hall) (journal : List Event) (s : Story timers own hall journal) : Type 0 where
  pub standing : Standing timers own hall.clock hall.entities s.all []
  pub tells : Tells IsRunning own hall.clock hall.ends s.all [] s.number journal

pub is_idle : (timers : Timers) (own : ℕ → List ℕ) (hall : Hall) (journal : List Event) (s : Story timers own hall journal) → hall.posts ≡ [] → IsIdle timers own hall journal s
is_idle timers own hall journal s none =
    let queue_is : s.queue ≡ [] = none_posted s.all s.queue hall.posts s.posts none in
    record {
      standing = subst (Standing timers own hall.clock hall.entities s.all) queue_is s.standing;
      tells = subst (λ (queue : List Posted). Tells IsRunning own hall.clock hall.ends s.all queue s.number journal) queue_is s.tells;
    }

-- the ends of entities that are proper are
pub proper_ends : (placed : List Placed) → AreAllProper placed → AreProperEnds placed
proper_ends placed all system reference end stands = ((all system stands.0 stands.1).ends reference end stands.2).proper

-- the TPDU that waits first is of an association
pub record IsFirst (all : List Association) (queue : List Posted) (post : Post) (rest : List Post) : Type 0 where
  pub first : Posted
  pub others : List Posted
  pub a : Association
  pub at : slice_get all first.of ≡ Some a
  pub queue_is : queue ≡ first ∷ others
  pub system_is : post.system ≡ system_of a first.by
  pub sent_is : post.sent ≡ first.sent
  pub rest_are : ArePosts all others rest

pub first_posted : (all : List Association) (queue : List Posted) (posts : List Post) (post : Post) (rest : List Post) → ArePosts all queue posts → posts ≡ post ∷ rest → IsFirst all queue post rest
first_posted all [] posts post rest are is = let e : [] ≡ _ = sym are ∙ is in absurd cc
first_posted all (one ∷ queue) posts post rest are is =
    let same : _ ∷ are.1 ≡ post ∷ rest = sym are.3 ∙ is in
    let head = first_same _ post are.1 rest same in
    record {
      first = one;
      others = queue;
      a = are.0;
      at = are.2;
      queue_is = refl;
      system_is = ap (λ (p : Post). p.system) (sym head);
      sent_is = ap (λ (p : Post). p.sent) (sym head);
      rest_are = subst (ArePosts all queue) (rest_same _ post are.1 rest same) are.4;
    }
  where
    first_same : (x y : Post) (xs ys : List Post) → x ∷ xs ≡ y ∷ ys → x ≡ y
    first_same x y xs ys e = cc e

    rest_same : (x y : Post) (xs ys : List Post) → x ∷ xs ≡ y ∷ ys → xs ≡ ys
    rest_same x y xs ys e = cc e
