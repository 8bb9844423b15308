-- All that waits below is taken up and handled: the first of it, and the others behind it.
use Rattle.std.proofs.Common.{ℕ, List, [], ◌∷◌, ◌++◌, refl, sym, ◌∙◌, ap, subst, append_assoc, Some, None}
use Rattle.nsap.specs.declared.port.Port.{Port}
use Rattle.osi_base.specs.declared.unit.Up.{Up}
use Rattle.osi_base.specs.declared.unit.Up.TheVariants.{Unit as Came, Note as Noted}
use Rattle.osi_base.specs.Link.{Link}
use Rattle.osi_base.specs.Calls.{Call, NextUp, TakesUp}
use Rattle.osi_base.specs.Gathering.{Gathers}
use Rattle.osi_base.proofs.Standings.{stands_next, stands_on}
use Rattle.esis_tables.specs.Rows.{Rows}
use Rattle.clnp_system.specs.Node.{Node}
use Rattle.clnp_system.specs.Tables.{rows_tables}
use Rattle.law_clnp_step.specs.Handling.{Handles}
use Rattle.clnp_net.specs.steps.Telling.{HandlesWaiting, Tells}
use Rattle.clnp_net.proofs.Parts.{tells_none, tells_on}

module _ {C : Type 0} (link : C → Link Port) (steps : C → Call Port → C → Type 0) where
  gathers_none : (old new : C) → steps old (NextUp None) new → TakesUp (link old) None (link new) → Gathers link steps old [] new
  gathers_none old new s t = record {
    waited = t.none refl;
    quiet = sym t.waiting ∙ t.none refl;
    stands = stands_next (link old) None (link new) t;
    grows = t.grows;
    chain = (new, s, refl);
  }

  gathers_first : (old mid new : C) (up : Up Port) (ups : List (Up Port)) → steps old (NextUp (Some up)) mid → TakesUp (link old) (Some up) (link mid) → Gathers link steps mid ups new
      → Gathers link steps old (up ∷ ups) new
  gathers_first old mid new up ups s t g = record {
    waited = t.waiting ∙ ap (λ (rest : List (Up Port)). up ∷ rest) g.waited;
    quiet = g.quiet;
    stands = stands_on (link old) (link mid) (link new) (stands_next (link old) (Some up) (link mid) t) g.stands;
    grows = λ entry h. t.grows entry (g.grows entry h);
    chain = (mid, s, g.chain);
  }

  module _ (now : ℕ) where
    handles_first : (old : C) (nodes : List (Node Rows)) (up : Up Port) (mid : C) (between : List (Node Rows)) (here : List (Up (List ℕ))) (ups : List (Up Port)) (new : C) (after : List (Node Rows)) (rest : List (Up (List ℕ)))
        → Handles link steps rows_tables now old nodes (up ∷ []) mid between here → Handles link steps rows_tables now mid between ups new after rest
        → Handles link steps rows_tables now old nodes (up ∷ ups) new after (here ++ rest)
    handles_first old nodes (Noted note) mid between here ups new after rest h k = (
      rest,
      subst (λ (c : C). Handles link steps rows_tables now c nodes ups new after rest) h.1.0
          (subst (λ (ns : List (Node Rows)). Handles link steps rows_tables now mid ns ups new after rest) h.1.1 k),
      ap (λ (xs : List (Up (List ℕ))). xs ++ rest) (h.2 ∙ ap (λ (xs : List (Up (List ℕ))). Noted note ∷ xs) h.1.2),
    )
    handles_first old nodes (Came arrival) mid between here ups new after rest h k = (
      h.0,
      h.1,
      h.2,
      h.3,
      rest,
      h.5,
      h.6,
      subst (λ (c : C). Handles link steps rows_tables now c h.2 ups new after rest) h.7.0
          (subst (λ (ns : List (Node Rows)). Handles link steps rows_tables now mid ns ups new after rest) h.7.1 k),
      ap (λ (xs : List (Up (List ℕ))). xs ++ rest) (h.8 ∙ ap (λ (xs : List (Up (List ℕ))). h.0.ups ++ (h.3 ++ xs)) h.7.2)
          ∙ append_assoc h.0.ups (h.3 ++ []) rest ∙ ap (λ (xs : List (Up (List ℕ))). h.0.ups ++ xs) (append_assoc h.3 [] rest),
    )

    pub none_waits : (old new : C) (nodes : List (Node Rows)) (before : List (Up (List ℕ))) → steps old (NextUp None) new → TakesUp (link old) None (link new)
        → HandlesWaiting link steps now old nodes before new nodes before
    none_waits old new nodes before s t = record {
      ups = [];
      mid = new;
      gathers = gathers_none old new s t;
      handles = tells_none before (λ told. Handles link steps rows_tables now new nodes [] new nodes told) (refl, refl, refl);
    }

    pub some_wait : (old taken mid : C) (nodes : List (Node Rows)) (before : List (Up (List ℕ))) (up : Up Port) (ups : List (Up Port)) (first : C) (between : List (Node Rows)) (told : List (Up (List ℕ)))
        (new : C) (changed : List (Node Rows)) (after : List (Up (List ℕ)))
        → steps old (NextUp (Some up)) taken → TakesUp (link old) (Some up) (link taken) → Gathers link steps taken ups mid
        → Tells before told (λ here. Handles link steps rows_tables now mid nodes (up ∷ []) first between here)
        → Tells told after (λ rest. Handles link steps rows_tables now first between ups new changed rest)
        → HandlesWaiting link steps now old nodes before new changed after
    some_wait old taken mid nodes before up ups first between told new changed after s t g h k = record {
      ups = up ∷ ups;
      mid = mid;
      gathers = gathers_first old taken mid up ups s t g;
      handles = tells_on before told after
          (λ here. Handles link steps rows_tables now mid nodes (up ∷ []) first between here)
          (λ rest. Handles link steps rows_tables now first between ups new changed rest)
          (λ both. Handles link steps rows_tables now mid nodes (up ∷ ups) new changed both)
          h k (λ one two p q. handles_first mid nodes up first between one ups new changed two p q);
    }
