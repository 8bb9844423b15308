-- How far a walk through a bucket is from the rank that it looks for.
use Rattle.std.proofs.Common.{◌≡◌, ◌-◌, ◌<◌, ℕ, ◌+◌, List, Option, Some, None, ap, subst, ◌∙◌, arith}
use Rattle.due_links.specs.declared.bucket.Node.{Node}
use Rattle.due_links.specs.steps.Links.{Follows, IsBelow, IsIn, IsLinked, behind, bucket_of, next_of, node_at, rank_of}
use Rattle.due_links.proofs.Keys.{below_at, in_at, node_below}
use Rattle.due_links.proofs.Cuts.{one_node}

abbrev node_left : ℕ → Option Node → ℕ
node_left most None = 0
node_left most (Some n) = most + 1 - rank_of n

abbrev pub left : (ℕ → Option Node) → ℕ → Option ℕ → ℕ
left at most None = 0
left at most (Some key) = node_left most (at key)

-- a node that was reached
pub reached : (at : ℕ → Option Node) (heads : List (Option ℕ)) (bucket : ℕ) (prev next : Option ℕ) (key : ℕ) → IsLinked at heads → bucket < 64 → IsIn at bucket prev
    → behind at heads bucket prev ≡ next → next ≡ Some key → Follows at bucket prev key
reached at heads bucket prev next key linked low within is h = linked.on bucket prev key low within (is ∙ h)

pub reached_in : (at : ℕ → Option Node) (bucket : ℕ) (prev : Option ℕ) (key : ℕ) (n : Node) → Follows at bucket prev key → at key ≡ Some n → IsIn at bucket (Some key)
reached_in at bucket prev key n f stands = in_at at bucket key n stands (ap (λ (m : Node). bucket_of m.at) (one_node at key n f.node stands f.stands) ∙ f.bucket_is)

-- the one behind it is nearer to the rank
pub nearer : (at : ℕ → Option Node) (heads : List (Option ℕ)) (bucket most key : ℕ) (n : Node) (next : Option ℕ) → IsLinked at heads → bucket < 64 → IsIn at bucket (Some key)
    → at key ≡ Some n → rank_of n < most → n.next ≡ next → left at most next < left at most (Some key)
nearer at heads bucket most key n None linked low within stands below is =
    let now : left at most (Some key) ≡ most + 1 - rank_of n = ap (node_left most) stands in
    omega (arith, now, below)
nearer at heads bucket most key n (Some other) linked low within stands below is =
    let f = linked.on bucket (Some key) other low within (ap next_of stands ∙ is) in
    let found = node_below at (rank_of f.node) key f.rises in
    let rises : rank_of n < rank_of f.node = subst (λ (m : Node). rank_of m < rank_of f.node) (one_node at key found.0 n found.1 stands) found.2 in
    let now : left at most (Some key) ≡ most + 1 - rank_of n = ap (node_left most) stands in
    let then : left at most (Some other) ≡ most + 1 - rank_of f.node = ap (node_left most) f.stands in
    omega (arith, now, then, rises, below)

-- ---- a hint that is a node of the bucket, and of lower rank

pub hint_in : (at : ℕ → Option Node) (bucket : ℕ) (hint : Option ℕ) (n : Node) → node_at at hint ≡ Some n → bucket_of n.at ≡ bucket → IsIn at bucket hint
hint_in at bucket None n h is = absurd cc
hint_in at bucket (Some key) n h is = in_at at bucket key n h is

pub hint_below : (at : ℕ → Option Node) (most : ℕ) (hint : Option ℕ) (n : Node) → node_at at hint ≡ Some n → rank_of n < most → IsBelow at most hint
hint_below at most None n h is = absurd cc
hint_below at most (Some key) n h is = below_at at most key n h is

pub hint_next : (at : ℕ → Option Node) (heads : List (Option ℕ)) (bucket : ℕ) (hint : Option ℕ) (n : Node) → node_at at hint ≡ Some n → behind at heads bucket hint ≡ n.next
hint_next at heads bucket None n h = absurd cc
hint_next at heads bucket (Some key) n h = ap next_of h
