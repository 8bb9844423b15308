use Rattle.std.proofs.Common.{◌≡◌, ◌≢◌, ◌+◌, ◌<◌, ◌∙◌, ℕ, List, Option, None, Some, get_or, length, subst, sym, ap, arith}
use Rattle.std.proofs.lemmas.List.{get_or_read}
use Rattle.std.proofs.lemmas.Option.{same_Some}
use Rattle.slab.specs.Slab.{Slab, get}
use Rattle.due_links.specs.declared.bucket.Node.{Node}
use Rattle.due_links.specs.steps.Kept.{AreFrom, IsFirstNode, IsKept, ticks_of}
use Rattle.due_links.specs.steps.Links.{bucket_of, node_at}
use Rattle.due_links.proofs.Firsts.{head_first, head_later}
use Rattle.due_links.proofs.due.Due.first_at.Goals as goal

-- what stands at the head of the bucket of the tick
at_head : (nodes : ℕ → Option Node) (heads : List (Option ℕ)) (bucket at : ℕ) (head : Option ℕ) (found is_node : Option Node) → bucket ≡ bucket_of at → bucket < length heads
    → head ≡ get_or heads bucket head → found ≡ node_at nodes head → found ≡ is_node → node_at nodes (get_or heads (bucket_of at) None) ≡ is_node
at_head nodes heads bucket at head found is_node is low read found_is node_is =
    ap (λ (b : ℕ). node_at nodes (get_or heads b None)) (sym is)
    ∙ ap (node_at nodes) (sym (get_or_read heads bucket head low read None))
    ∙ sym found_is
    ∙ node_is

within : (bucket long : ℕ) → bucket < 64 → long ≡ 64 → bucket < long
within bucket long low is = omega (arith, low, is)

-- of the map that they stand for
later_there : (nodes : Slab Node) (places heads : List (Option ℕ)) → IsKept nodes places heads → (at : ℕ) (head : Option Node) (ticks : List (Option ℕ)) → ticks_of (get nodes) places ≡ ticks → AreFrom at ticks
    → node_at (get nodes) (get_or heads (bucket_of at) None) ≡ head → ((n : Node) → head ≡ Some n → n.at ≢ at) → AreFrom (at + 1) ticks
later_there nodes places heads kept at head ticks is from stands apart =
    subst (λ (xs : List (Option ℕ)). AreFrom (at + 1) xs) is (head_later nodes places heads kept at head (subst (λ (xs : List (Option ℕ)). AreFrom at xs) (sym is) from) stands apart)

first_there : (nodes : Slab Node) (places heads : List (Option ℕ)) → IsKept nodes places heads → (at : ℕ) (n : Node) (ticks : List (Option ℕ)) → ticks_of (get nodes) places ≡ ticks → AreFrom at ticks
    → node_at (get nodes) (get_or heads (bucket_of at) None) ≡ Some n → n.at ≡ at → IsFirstNode ticks (Some n)
first_there nodes places heads kept at n ticks is from stands same =
    subst (λ (xs : List (Option ℕ)). IsFirstNode xs (Some n)) is (head_first nodes places heads kept at n (subst (λ (xs : List (Option ℕ)). AreFrom at xs) (sym is) from) stands same)

pub returns-in_default : goal.returns-in_default
returns-in_default c =
    let heads = c.self.inside.heads.items in
    let low = within c.bucket_of.result (length heads) c.bucket_of.ensures.within c.self.invariant.0.links.long in
    let stands = at_head (get c.self.inside.nodes) heads c.bucket_of.result c.args.at c.index.result.now c.node_at.result None c.bucket_of.ensures.value low c.index.ensures c.node_at.ensures c.in_default.is in
    later_there c.self.inside.nodes c.self.inside.places.items heads c.self.invariant.0 c.args.at None c.args.self.now c.self.view_is c.requires stands (λ n e. absurd cc)

pub returns-then-node-at : goal.returns-then-node-at
returns-then-node-at c =
    let heads = c.self.inside.heads.items in
    let low = within c.bucket_of.result (length heads) c.bucket_of.ensures.within c.self.invariant.0.links.long in
    let stands = at_head (get c.self.inside.nodes) heads c.bucket_of.result c.args.at c.index.result.now c.node_at.result (Some c.in-Some.node) c.bucket_of.ensures.value low c.index.ensures c.node_at.ensures c.in-Some.is in (
      first_there c.self.inside.nodes c.self.inside.places.items heads c.self.invariant.0 c.args.at c.in-Some.node c.args.self.now c.self.view_is c.requires stands c.if-node-at.true,
      c.if-node-at.true,
    )

pub returns-else-node-at : goal.returns-else-node-at
returns-else-node-at c =
    let heads = c.self.inside.heads.items in
    let low = within c.bucket_of.result (length heads) c.bucket_of.ensures.within c.self.invariant.0.links.long in
    let stands = at_head (get c.self.inside.nodes) heads c.bucket_of.result c.args.at c.index.result.now c.node_at.result (Some c.in-Some.node) c.bucket_of.ensures.value low c.index.ensures c.node_at.ensures c.in-Some.is in
    later_there c.self.inside.nodes c.self.inside.places.items heads c.self.invariant.0 c.args.at (Some c.in-Some.node) c.args.self.now c.self.view_is c.requires stands
    (λ n e same. c.if-node-at.false (ap (λ (m : Node). m.at) (same_Some c.in-Some.node n e) ∙ same))
