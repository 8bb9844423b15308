-- Which of the two systems sends a unit: the one whose user its source is; and a unit to the own system, or one that is refused, changes nothing else.
use Rattle.std.proofs.Common.{◌≡◌, ◌⊎◌, inl, inr, ℕ, zero, suc, Bool, true, false, ◌&&◌, nat_lt, if◌then◌else◌, List, [], ◌∷◌, ◌++◌, length, slice_get, Some, None, Result, Ok, Err, refl, sym, ◌∙◌, subst}
use Rattle.nsap.specs.Address.{is_same_system, system_part}
use Rattle.nsap.specs.declared.port.Hop.{Hop}
use Rattle.nsap.specs.declared.port.Port.{Port}
use Rattle.osi_base.specs.declared.unit.DropCause.{DropCause}
use Rattle.osi_base.specs.declared.unit.DropCause.TheVariants as causes
use Rattle.osi_base.specs.declared.unit.Unit.{Unit as CarriedUnit}
use Rattle.osi_base.specs.declared.unit.Wish.{Wish}
use Rattle.lan_step.specs.declared.row.PortRow.{PortRow}
use Rattle.esis_tables.specs.Rows.{Rows}
use Rattle.clnp_system.specs.Node.{Frame, Node, at_tick}
use Rattle.clnp_system.specs.Sending.{IsDropped as IsRefused, IsSent, Sends, by_hop, hop_by, sending}
use Rattle.clnp_system.specs.Setting.{Setting, is_own_system, path_of}
use Rattle.clnp_system.specs.Tables.{rows_tables}
use Rattle.law_clnp_step.specs.Step.{is_source}
use Rattle.clnp_segment.proofs.Lists.{same_some}
use Rattle.law_clnp_net.specs.Calm.{IsCalmNet}
use Rattle.law_clnp_net.specs.Cutting.{KeepsAll}
use Rattle.law_clnp_net.proofs.Nodes.{IsCalmNode}
use Rattle.law_clnp_net.proofs.Addresses.{made_of, own_title, titles_turned}

pub user_of : (a b title : List ℕ) (system : ℕ) → slice_get (a ∷ b ∷ []) system ≡ Some title → ((system ≡ 0) × (title ≡ a)) ⊎ ((system ≡ 1) × (title ≡ b))
user_of a b title zero e = inl (refl, sym (same_some a title e))
user_of a b title (suc zero) e = inr (refl, sym (same_some b title e))
user_of a b title (suc (suc system)) e = absurd cc

-- ---- what stays of a system

pub tick_keeps : (old new : Node Rows) (now : ℕ) → new ≡ at_tick now old → KeepsAll old now new
tick_keeps old new now is =
    subst (KeepsAll old now) (sym is) (record { setup = refl; clock = refl; store = refl; neighbours = refl; redirects = refl })

-- ---- a unit to the own system is refused

either_refused : (long : Bool) (hop : Hop) → ◌≡◌ {A = Result Hop DropCause} (if long then Err causes.TooLong else Err causes.NoRoute) (Ok hop) → ⊥
either_refused true hop e = absurd cc
either_refused false hop e = absurd cc

pub never_to_itself : (node : Node Rows) (now : ℕ) (unit : CarriedUnit (List ℕ)) (wish : Wish) (frames : List Frame) (after : Node Rows) → is_own_system node.setup unit.to ≡ true
    → Sends rows_tables node now unit wish (Ok frames) after → ⊥
never_to_itself node now unit wish frames after own (IsRefused cause e sent_is after_is) = absurd cc
never_to_itself node now unit wish frames after own (IsSent hop made e cut sent_is after_is) = either_refused (nat_lt 16384 (length unit.octets)) hop (sym refused ∙ e)
  where
    refused : sending rows_tables node now unit wish ≡ (if nat_lt 16384 (length unit.octets) then Err causes.TooLong else Err causes.NoRoute)
    refused =
        λ i.
        if nat_lt 16384 (length unit.octets) then Err causes.TooLong
        else by_hop node now unit wish (if own i then None else hop_by rows_tables node now unit.to (path_of node.setup wish.path))

module _ (rows : List PortRow) (first second : Setting) (here there : Port) (calm : IsCalmNet rows first second here there) where
  -- which system sends
  pub first_sends : (unit : CarriedUnit (List ℕ)) (one : Node Rows) (selector : ℕ) → IsCalmNode first one → unit.from ≡ system_part first.title ++ selector ∷ [] → is_source unit.from one ≡ true
  first_sends unit one selector is from =
      (λ i. (is.setup i).end && is_same_system (from i) (is.setup i).title)
      ∙ (λ i. calm.first_at.end i && (made_of first.title first.title selector ∙ own_title first.title) i)

  pub second_sends : (unit : CarriedUnit (List ℕ)) (two : Node Rows) (selector : ℕ) → IsCalmNode second two → unit.from ≡ system_part second.title ++ selector ∷ [] → is_source unit.from two ≡ true
  second_sends unit two selector is from =
      (λ i. (is.setup i).end && is_same_system (from i) (is.setup i).title)
      ∙ (λ i. calm.second_at.end i && (made_of second.title second.title selector ∙ own_title second.title) i)

  pub apart_back : is_same_system second.title first.title ≡ false
  apart_back = titles_turned second.title first.title ∙ calm.apart

  pub first_sends_not : (unit : CarriedUnit (List ℕ)) (one : Node Rows) (selector : ℕ) → IsCalmNode first one → unit.from ≡ system_part second.title ++ selector ∷ [] → is_source unit.from one ≡ false
  first_sends_not unit one selector is from =
      (λ i. (is.setup i).end && is_same_system (from i) (is.setup i).title)
      ∙ (λ i. calm.first_at.end i && (made_of second.title first.title selector ∙ apart_back) i)

  -- ---- refused

  pub refused_keeps : (node after : Node Rows) (now : ℕ) (unit : CarriedUnit (List ℕ)) (wish : Wish) (cause : DropCause) → Sends rows_tables node now unit wish (Err cause) after
      → KeepsAll node now after
  refused_keeps node after now unit wish cause (IsRefused other e sent_is after_is) = tick_keeps node after now after_is
  refused_keeps node after now unit wish cause (IsSent hop frames e cut sent_is after_is) = absurd cc
