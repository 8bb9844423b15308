-- Lines that run may be joined.
use Rattle.std.proofs.Common.{ℕ, List, [], ◌∷◌, ◌++◌, sym, ◌∙◌, ap, subst, append_assoc}
use Rattle.osi_base.specs.Calls.{Call}
use Rattle.osi_base.specs.Link.{Link}
use Rattle.script_journal.specs.declared.event.Event.{Event}
use Rattle.script_lines.specs.declared.line.Line.{Line}
use Rattle.tp4_world.specs.Run.{RunsLines}
use Rattle.tp4_world.specs.World.{World}

module _ {C : Type 0} (link : C → Link (List ℕ)) (steps : C → Call (List ℕ) → C → Type 0) (wrap : ℕ → ℕ → ℕ) (titles : List (List ℕ)) where
  -- lines behind others
  pub lines_joined : (front more : List Line) (first mid last : World C) (here rest : List Event) → RunsLines link steps wrap titles first front here mid → RunsLines link steps wrap titles mid more rest last
      → RunsLines link steps wrap titles first (front ++ more) (here ++ rest) last
  lines_joined [] more first mid last here rest a b =
      subst (λ (w : World C). RunsLines link steps wrap titles w more (here ++ rest) last) a.1 (subst (λ (es : List Event). RunsLines link steps wrap titles mid more (es ++ rest) last) (sym a.0) b)
  lines_joined (line ∷ front) more first mid last here rest a b = (
    a.0,
    a.1,
    a.2 ++ rest,
    a.3,
    ap (λ (es : List Event). es ++ rest) a.4 ∙ append_assoc a.1 a.2 rest,
    lines_joined front more a.0 mid last a.2 rest a.5 b,
  )
