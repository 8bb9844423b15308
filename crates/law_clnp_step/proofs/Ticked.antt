-- One system ticks: it sends no DT PDU and shows no unit, and what it still holds is of units that stay afloat.
use Rattle.std.proofs.Common.{◌≡◌, ℕ, List, [], ◌∷◌, refl, sym, ap, subst, arith}
use Rattle.std.specs.List.{AllByRecursion, filter}
use Rattle.osi_base.specs.declared.unit.Up.{Up}
use Rattle.osi_base.specs.declared.unit.Up.TheVariants.{Unit as Came, Note as Noted}
use Rattle.osi_base.specs.declared.note.Note.{Note}
use Rattle.osi_base.specs.Link.{IsNote}
use Rattle.clnp_system.specs.Deriving.{Carries}
use Rattle.clnp_system.specs.Node.{Node, Reaction}
use Rattle.clnp_system.specs.Tables.{Tables}
use Rattle.clnp_system.specs.Ticking.{NodeTicks}
use Rattle.clnp_system.proofs.Outgoing.{quiet_tick_is as quiet_tick}
use Rattle.law_clnp_step.specs.Sound.{IsCarried, IsNumberedBy, IsTimely, Knows, Origin}
use Rattle.law_clnp_step.proofs.Carrying.{stays}
use Rattle.law_clnp_step.proofs.Joined.{expires_known, expires_timely}
use Rattle.law_clnp_step.proofs.Lists.{all_filter, all_weaker}
use Rattle.law_clnp_step.proofs.Received.{all_numbered_same}

pub notes_all : (Fine : Up (List ℕ) → Type 0) → ((note : Note) → Fine (Noted note)) → (ups : List (Up (List ℕ))) → AllByRecursion IsNote ups → AllByRecursion Fine ups
notes_all Fine fine [] h = tt
notes_all Fine fine (Noted note ∷ ups) h = (fine note, notes_all Fine fine ups h.1)
notes_all Fine fine (Came arrival ∷ ups) h = absurd h.0

module _ {N : Type 0} (tables : Tables N) (now : ℕ) (node : Node N) (reaction : Reaction) (after : Node N) (t : NodeTicks tables node now reaction after) where
  pub ticked_setup : after.setup ≡ node.setup
  ticked_setup = ap (λ (n : Node N). n.setup) t.after

  pub ticked_timely : IsTimely now after
  ticked_timely = subst (IsTimely now) (sym t.after) (record { clock_is = omega arith; held = expires_timely node.store now t.expired t.store t.expires })

  pub ticked_quiet : (origins : List Origin) (life : ℕ) → AllByRecursion (λ frame. IsCarried origins life now (now, frame)) reaction.frames
  ticked_quiet origins life = all_weaker (λ frame. Carries frame (λ pdu. ⊥)) (λ frame. IsCarried origins life now (now, frame)) reaction.frames
      (λ frame none pdu there kind lives. absurd (none pdu there kind)) (quiet_tick tables node now reaction after t).0

  pub ticked_notes : AllByRecursion IsNote reaction.ups
  ticked_notes = (quiet_tick tables node now reaction after t).1

  pub ticked_knows : (origins : List Origin) (life : ℕ) → Knows origins life node → Knows (filter (stays now life) origins) life after
  ticked_knows origins life h = subst (Knows (filter (stays now life) origins) life) (sym t.after) (record {
    next_fits = h.next_fits;
    numbered =
        all_filter (IsNumberedBy {N = N} (record node { clock = now; store = t.store; neighbours = tables.sweep node.neighbours now; redirects = tables.sweep node.redirects now })) (stays now life) origins
        (all_numbered_same node (record node { clock = now; store = t.store; neighbours = tables.sweep node.neighbours now; redirects = tables.sweep node.redirects now }) origins refl refl refl refl h.numbered);
    held = expires_known origins life node.store now t.expired t.store h.held t.expires;
  })
