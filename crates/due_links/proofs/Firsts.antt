-- The head of a bucket comes before each node of it, so the first of the heads is the first node of all.
use Rattle.std.proofs.Common.{◌≡◌, ◌≢◌, ◌⊎◌, ℕ, zero, suc, ◌+◌, ◌<◌, ◌≤◌, List, length, get_or, Option, Some, None, inl, inr, refl, sym, ap, subst, ◌∙◌, arith}
use Rattle.std.proofs.lemmas.Option.{same_Some}
use Rattle.std.proofs.lemmas.Bool.{cases_order}
use Rattle.slab.specs.Slab.{Slab, get}
use Rattle.due_links.specs.Ticks.{tick_at}
use Rattle.due_links.specs.declared.bucket.Node.{Node}
use Rattle.due_links.specs.steps.Kept.{AreFrom, IsFirstNode, IsKept, tick_of, tick_there, ticks_of}
use Rattle.due_links.specs.steps.Links.{IsIn, IsLeastOf, IsLinked, IsNoLater, behind, bucket_of, node_at, rank, rank_of}
use Rattle.due_links.proofs.Cuts.{one_node}
use Rattle.due_links.proofs.Keys.{node_below, node_in}
use Rattle.due_links.proofs.Maps.{slot_within, tick_at_place, ticks_long}

-- the head of the bucket of a node, which is no later
record HeadOf (at : ℕ → Option Node) (heads : List (Option ℕ)) (n : Node) : Type 0 where
  head : Node
  stands : node_at at (get_or heads (bucket_of n.at) None) ≡ Some head
  first : rank_of head ≤ rank_of n

head_of : (at : ℕ → Option Node) (heads : List (Option ℕ)) → IsLinked at heads → (fuel key : ℕ) (n : Node) → rank_of n < fuel → at key ≡ Some n → HeadOf at heads n
head_of at heads linked zero key n low stands = absurd (omega (arith, low))
head_of at heads linked (suc fuel) key n low stands = by (λ k m below there. head_of at heads linked fuel k m below there) n.prev refl
  where
    old : IsIn at (bucket_of n.at) n.prev × (behind at heads (bucket_of n.at) n.prev ≡ Some key)
    old = linked.back key n stands

    by : ((k : ℕ) (m : Node) → rank_of m < fuel → at k ≡ Some m → HeadOf at heads m) → (p : Option ℕ) → n.prev ≡ p → HeadOf at heads n
    by again None e =
        let front : get_or heads (bucket_of n.at) None ≡ Some key = sym (ap (behind at heads (bucket_of n.at)) e) ∙ old.1 in
        record { head = n; stands = ap (node_at at) front ∙ stands; first = omega arith }
    by again (Some before) e =
        let in_it = subst (λ (p : Option ℕ). IsIn at (bucket_of n.at) p) e old.0 in
        let on : behind at heads (bucket_of n.at) (Some before) ≡ Some key = sym (ap (behind at heads (bucket_of n.at)) e) ∙ old.1 in
        let f = linked.on (bucket_of n.at) (Some before) key (omega arith) in_it on in
        let found = node_below at (rank_of f.node) before f.rises in
        let placed = node_in at (bucket_of n.at) before in_it in
        let below : rank_of found.0 < rank_of n = subst (λ (m : Node). rank_of found.0 < rank_of m) (one_node at key f.node n f.stands stands) found.2 in
        let bucket_is : bucket_of found.0.at ≡ bucket_of n.at = ap (λ (m : Node). bucket_of m.at) (one_node at before found.0 placed.0 found.1 placed.1) ∙ placed.2 in
        let h = again before found.0 (omega (arith, below, low)) found.1 in
        record {
          head = h.head;
          stands = subst (λ (b : ℕ). node_at at (get_or heads b None) ≡ Some h.head) bucket_is h.stands;
          first = omega (arith, h.first, below);
        }

-- a node that may be there, and is
no_later : (at : ℕ → Option Node) (n m : Node) (o : Option Node) → IsNoLater n o → o ≡ Some m → rank_of n ≤ rank_of m
no_later at n m o is h = subst (λ (x : Option Node). IsNoLater n x) h is

-- the place of the id of a tick
placed : (nodes : Slab Node) (places heads : List (Option ℕ)) → IsKept nodes places heads → (id at : ℕ) → tick_at (ticks_of (get nodes) places) id ≡ Some at
    → (key : ℕ) × (n : Node) × (get_or places id None ≡ Some key) × (get nodes key ≡ Some n) × (n.id ≡ id) × (n.at ≡ at)
placed nodes places heads kept id at h = by (get_or places id None) refl
  where
    tick : tick_there (get nodes) (get_or places id None) ≡ Some at
    tick = sym (tick_at_place (get nodes) places id) ∙ h

    by : (o : Option ℕ) → get_or places id None ≡ o
        → (key : ℕ) × (n : Node) × (get_or places id None ≡ Some key) × (get nodes key ≡ Some n) × (n.id ≡ id) × (n.at ≡ at)
    by None e = let none : None ≡ Some at = sym (ap (tick_there (get nodes)) e) ∙ tick in absurd cc
    by (Some key) e =
        let f = kept.placed.node_of id key e in
        let at_is : f.node.at ≡ at = same_Some f.node.at at (sym (ap tick_of f.stands) ∙ sym (ap (tick_there (get nodes)) e) ∙ tick) in
        (key, f.node, e, f.stands, f.id_is, at_is)

module _ (nodes : Slab Node) (places heads : List (Option ℕ)) (kept : IsKept nodes places heads) where
  pub first_node : (found : Option Node) → IsLeastOf (get nodes) heads (length heads) found → IsFirstNode (ticks_of (get nodes) places) found
  first_node None none = λ id. by id (tick_at (ticks_of (get nodes) places) id) refl
    where
      by : (id : ℕ) (o : Option ℕ) → tick_at (ticks_of (get nodes) places) id ≡ o → tick_at (ticks_of (get nodes) places) id ≡ None
      by id None e = e
      by id (Some at) e =
          let p = placed nodes places heads kept id at e in
          let h = head_of (get nodes) heads kept.links (rank_of p.1 + 1) p.0 p.1 (omega arith) p.3 in
          let gone = none (bucket_of p.1.at) (omega (arith, kept.links.long)) in
          let there = h.stands in
          absurd cc
  first_node (Some n) least =
      let from = least.1 in
      let at_head : node_at (get nodes) (get_or heads from None) ≡ Some n = least.3 in
      let key = key_of (get_or heads from None) n at_head in
      let place : get_or places n.id None ≡ Some key.0 = kept.placed.place_of key.0 n key.1 in (
        omega (arith, slot_within places n.id key.0 place, ticks_long (get nodes) places),
        record {
          set = tick_at_place (get nodes) places n.id ∙ ap (tick_there (get nodes)) place ∙ ap tick_of key.1;
          least = λ other later h. (
              let p = placed nodes places heads kept other later h in
              let top = head_of (get nodes) heads kept.links (rank_of p.1 + 1) p.0 p.1 (omega arith) p.3 in
              let short : bucket_of p.1.at < length heads = omega (arith, kept.links.long) in
              let low = no_later (get nodes) n top.head (node_at (get nodes) (get_or heads (bucket_of p.1.at) None)) (least.0 (bucket_of p.1.at) short) top.stands in
              let small = slot_within places other p.0 p.2 in
              ordered n.id n.at other later (omega (arith, low, top.first, p.4, p.5)) (omega (arith, small, kept.few)));
        },
      )
    where
      key_of : (place : Option ℕ) (m : Node) → node_at (get nodes) place ≡ Some m → (key : ℕ) × (get nodes key ≡ Some m)
      key_of None m h = absurd cc
      key_of (Some key) m h = (key, h)

      ordered : (id at other later : ℕ) → rank id at ≤ rank other later → other < 4294967296 → (at < later) ⊎ ((at ≡ later) × (id ≤ other))
      ordered id at other later low small = elim (cases_order at later) [
        | inl same ↦ inr (same, omega (arith, low, same))
        | inr apart ↦ elim apart [
          | inl sooner ↦ inl sooner
          | inr after ↦ absurd (omega (arith, low, small, after))
        ]
      ]

  -- ---- the head of the bucket of a tick before which no id is due

  tick_in : (key : ℕ) (n : Node) → get nodes key ≡ Some n → tick_at (ticks_of (get nodes) places) n.id ≡ Some n.at
  tick_in key n stands = tick_at_place (get nodes) places n.id ∙ ap (tick_there (get nodes)) (kept.placed.place_of key n stands) ∙ ap tick_of stands

  key_at : (place : Option ℕ) (n : Node) → node_at (get nodes) place ≡ Some n → (key : ℕ) × (get nodes key ≡ Some n)
  key_at None n h = absurd cc
  key_at (Some key) n h = (key, h)

  -- a node of that tick stands behind a head that is no later
  head_there : (at id : ℕ) → tick_at (ticks_of (get nodes) places) id ≡ Some at
      → (head : Node) × (node_at (get nodes) (get_or heads (bucket_of at) None) ≡ Some head) × (rank_of head ≤ rank id at) × (id < length places)
  head_there at id h =
      let p = placed nodes places heads kept id at h in
      let top = head_of (get nodes) heads kept.links (rank_of p.1 + 1) p.0 p.1 (omega arith) p.3 in
      let low : rank_of top.head ≤ rank id at = omega (arith, top.first, p.4, p.5) in
      (top.head, subst (λ (tick : ℕ). node_at (get nodes) (get_or heads (bucket_of tick) None) ≡ Some top.head) p.5 top.stands, low, slot_within places id p.0 p.2)

  pub head_first : (at : ℕ) (n : Node) → AreFrom at (ticks_of (get nodes) places) → node_at (get nodes) (get_or heads (bucket_of at) None) ≡ Some n → n.at ≡ at
      → IsFirstNode (ticks_of (get nodes) places) (Some n)
  head_first at n from stands same =
      let key = key_at (get_or heads (bucket_of at) None) n stands in
      let place : get_or places n.id None ≡ Some key.0 = kept.placed.place_of key.0 n key.1 in (
        omega (arith, slot_within places n.id key.0 place, ticks_long (get nodes) places),
        record {
          set = tick_in key.0 n key.1;
          least = λ other later h. elim (cases_order at later) [
            | inl e ↦
                let top = head_there at other (h ∙ ap Some (sym e)) in
                let one : n ≡ top.0 = same_Some n top.0 (sym stands ∙ top.1) in
                let low : rank_of n ≤ rank other at = subst (λ (m : Node). rank_of m ≤ rank other at) (sym one) top.2 in
                inr (same ∙ e, omega (arith, low, same))
            | inr apart ↦ elim apart [
              | inl sooner ↦ inl (omega (arith, same, sooner))
              | inr before ↦ let low = from other later h in absurd (omega (arith, before, low))
            ]
          ];
        },
      )

  pub head_later : (at : ℕ) (head : Option Node) → AreFrom at (ticks_of (get nodes) places) → node_at (get nodes) (get_or heads (bucket_of at) None) ≡ head
      → ((n : Node) → head ≡ Some n → n.at ≢ at) → AreFrom (at + 1) (ticks_of (get nodes) places)
  head_later at head from stands apart id later h = elim (cases_order at later) [
    | inl e ↦
        let top = head_there at id (h ∙ ap Some (sym e)) in
        let there : head ≡ Some top.0 = sym stands ∙ top.1 in
        let key = key_at (get_or heads (bucket_of at) None) top.0 top.1 in
        let above : at ≤ top.0.at = from top.0.id top.0.at (tick_in key.0 top.0 key.1) in
        absurd (apart top.0 there (omega (arith, above, top.2, top.3, kept.few)))
    | inr far ↦ elim far [
      | inl sooner ↦ omega (arith, sooner)
      | inr before ↦ let low = from id later h in absurd (omega (arith, before, low))
    ]
  ]
