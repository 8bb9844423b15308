-- All that waits is taken up, in the LANs and in the network over them, and nothing else changes.
use Rattle.std.proofs.Common.{◌≡◌, ℕ, List, [], ◌∷◌, ◌++◌, Option, Some, None, refl, sym, ◌∙◌, ap, subst}
use Rattle.nsap.specs.declared.port.Port.{Port}
use Rattle.osi_base.specs.declared.unit.Up.{Up}
use Rattle.osi_base.specs.Calls.{Call, Chain, NextUp}
use Rattle.osi_base.specs.Gathering.{Gathers, takings}
use Rattle.osi_base.specs.Link.{Link}
use Rattle.lan_step.specs.Bag.{Bag, BagStep, link_of}
use Rattle.esis_tables.specs.Rows.{Rows}
use Rattle.clnp_system.specs.Tables.{rows_tables}
use Rattle.law_clnp_step.specs.Network.{Network, net_link}
use Rattle.law_clnp_step.specs.Step.{NetStep}

-- where taking up changes what waits alone, what is left when all was taken up is the same but for that
module _ {C A : Type 0} (link : C → Link A) (steps : C → Call A → C → Type 0) (put : C → List (Up A) → C)
    (again : (c : C) (first second : List (Up A)) → put (put c first) second ≡ put c second)
    (one : (old new : C) (answer : Option (Up A)) → steps old (NextUp answer) new → new ≡ put old (link new).waiting) where
  chain_puts : (ups : List (Up A)) (old new : C) → Chain steps old (takings ups ++ NextUp None ∷ []) new → new ≡ put old (link new).waiting
  chain_puts [] old new chain = subst (λ (c : C). c ≡ put old (link c).waiting) (sym chain.2) (one old chain.0 None chain.1)
  chain_puts (up ∷ ups) old new chain =
      let first = one old chain.0 (Some up) chain.1 in
      let rest = chain_puts ups chain.0 new chain.2 in
      rest ∙ ap (λ (c : C). put c (link new).waiting) first ∙ again old (link chain.0).waiting (link new).waiting

  pub gathered_puts : (old new : C) (ups : List (Up A)) → Gathers link steps old ups new → new ≡ put old []
  gathered_puts old new ups g = chain_puts ups old new g.chain ∙ ap (put old) g.quiet

abbrev bag_waits : Bag → List (Up Port) → Bag
bag_waits bag ups = record bag { waiting = ups }

pub bag_gathered : (old new : Bag) (ups : List (Up Port)) → Gathers link_of BagStep old ups new → new ≡ record old { waiting = [] }
bag_gathered = gathered_puts link_of BagStep bag_waits (λ bag first second. refl) (λ old new answer steps. steps.2)

-- ---- the network

abbrev pub Net : Type 0
Net = Network Bag Rows

abbrev net_waits : Net → List (Up (List ℕ)) → Net
net_waits net ups = record net { waiting = ups }

pub net_gathered : (old new : Net) (ups : List (Up (List ℕ))) → Gathers (net_link link_of) (NetStep link_of BagStep rows_tables) old ups new → new ≡ record old { waiting = [] }
net_gathered =
    gathered_puts (net_link link_of) (NetStep link_of BagStep rows_tables) net_waits (λ net one other. refl) (λ old new answer steps. steps.1.becomes)
