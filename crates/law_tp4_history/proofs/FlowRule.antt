-- The line of a half keeps its words on blocks and all that it sent, so that the law of numbers speaks of the half.
use Rattle.std.proofs.Common.{◌≡◌, ◌↔◌, ℕ, true, List, subst}
use Rattle.tp4_number.specs.declared.blocks.Blocks.{Blocks}
use Rattle.tp4_number.specs.Number.{MaySend}
use Rattle.tp4_number.specs.Sender.{may_send}
use Rattle.tp4_sending.specs.SendingHalf.{FlowSender, block_in}
use Rattle.law_tp4_history.specs.Ends.{Times, IsFit}
use Rattle.law_tp4_history.specs.Tracks.{Whole, ReachedAll}
use Rattle.law_tp4_history.proofs.Tracked.{all_numbered}
use Rattle.law_tp4_history.specs.Lines.{IsSendingAt}

-- the words on these numbers say what the rule says
abbrev SaysRule : ℕ → ℕ → Blocks → List (ℕ × ℕ) → ℕ → ℕ → Type 0
SaysRule block limit blocks sends next now = (may_send block limit blocks next now ≡ true) ↔ MaySend block limit sends next now

-- under other names for the same
renamed : (block limit now other_block other_limit other_now next other_next : ℕ) (blocks others : Blocks) (sends : List (ℕ × ℕ)) → block ≡ other_block → limit ≡ other_limit → now ≡ other_now
    → next ≡ other_next → blocks ≡ others → SaysRule block limit blocks sends next now → SaysRule other_block other_limit others sends other_next other_now
renamed block limit now other_block other_limit other_now next other_next blocks others sends b l n e w h =
    subst (λ (x : ℕ). SaysRule x other_limit others sends other_next other_now) b
    (subst (λ (x : ℕ). SaysRule block x others sends other_next other_now) l
    (subst (λ (x : ℕ). SaysRule block limit others sends other_next x) n
    (subst (λ (x : ℕ). SaysRule block limit others sends x now) e
    (subst (λ (x : Blocks). SaysRule block limit x sends next now) w h))))

module _ (times : Times) (w : Whole) (x : ℕ) (s : FlowSender) (fit : IsFit times) (reached : ReachedAll times w) (h : IsSendingAt s (w.track x)) where
  pub dt_rule : SaysRule (block_in s) s.rules.limit s.numbers.blocks (w.track x).line.world.sends s.numbers.next w.base.clock
  dt_rule =
      let n = all_numbered times w fit reached in
      renamed _ _ _ (block_in s) s.rules.limit w.base.clock _ s.numbers.next _ s.numbers.blocks (w.track x).line.world.sends h.block h.limit (n.clock x h.begun).0
      (λ i. (h.numbers i).next) (λ i. (h.numbers i).blocks) (n.kept x h.begun).rule

  -- and of EDs
  pub ed_rule : SaysRule (block_in s) s.rules.limit s.urgent.blocks (w.track x).line.urgent.sends s.urgent.next w.base.clock
  ed_rule =
      let n = all_numbered times w fit reached in
      renamed _ _ _ (block_in s) s.rules.limit w.base.clock _ s.urgent.next _ s.urgent.blocks (w.track x).line.urgent.sends h.block h.limit (n.clock x h.begun).1 h.next h.blocks (n.obeys x h.begun).rule
