-- The identifier of a unit that is taken is new: nothing that any system holds has its key, so nothing of an older unit is ever joined with it (X.233, data unit identifier).
use Rattle.std.proofs.Common.{◌≡◌, ◌⊎◌, inl, inr, ℕ, ◌+◌, ◌≤◌, Bool, true, false, ◌||◌, nat_lt, List, [], ◌∷◌, length, Ok, refl, sym, ◌∙◌, ap, subst}
use Rattle.std.specs.List.{AllByRecursion, list_any}
use Rattle.nsap.specs.Address.{is_same_system}
use Rattle.osi_base.specs.declared.unit.DropCause.TheVariants as causes
use Rattle.osi_base.specs.declared.unit.Unit.{Unit as CarriedUnit}
use Rattle.osi_base.specs.declared.unit.Wish.{Wish}
use Rattle.lan_step.specs.Bag.{link_of}
use Rattle.lan_bag.proofs.Indices.{and_second}
use Rattle.esis_tables.specs.Rows.{Rows}
use Rattle.clnp_segment.specs.Store.{Key, Partial, has_key, key_of}
use Rattle.clnp_segment.proofs.Units.{key_there}
use Rattle.clnp_system.specs.Identifiers.{is_spent}
use Rattle.clnp_system.specs.Node.{Frame, Node}
use Rattle.clnp_system.specs.Sending.{IsDropped as IsRefused, IsSent, Sends, way}
use Rattle.clnp_system.specs.Setting.{is_own_system}
use Rattle.clnp_system.specs.Tables.{rows_tables}
use Rattle.law_clnp_step.specs.Handling.{Changes}
use Rattle.law_clnp_step.specs.Sound.{IsHeldFor, IsNumbered, IsNumberedBy, IsSound, IsTraced, Knows, Origin, entry_of}
use Rattle.law_clnp_step.specs.Step.{is_source}
use Rattle.law_clnp_step.proofs.Handled.{change_at}
use Rattle.law_clnp_step.proofs.Lists.{all_from_map, all_two, all_weaker, among_all}
use Rattle.law_clnp_step.proofs.Numbered.{fresh_id}
use Rattle.law_clnp_step.proofs.Offered.{hop_unspent}
use Rattle.law_clnp_net.proofs.Gathered.{Net}
use Rattle.law_clnp_net.proofs.joining.Sent.{not_first}
use Rattle.law_clnp_net.specs.Joining.{HasNone, unit_key}

cases : (b : Bool) → (b ≡ true) ⊎ (b ≡ false)
cases true = inl refl
cases false = inr refl

unspent : (node after : Node Rows) (now : ℕ) (unit : CarriedUnit (List ℕ)) (wish : Wish) (frames : List Frame) → Sends rows_tables node now unit wish (Ok frames) after → wish.cut ≡ true
    → is_spent node now ≡ false
unspent node after now unit wish frames (IsRefused cause is sent_is after_is) cut = absurd cc
unspent node after now unit wish frames (IsSent hop found is frames_are sent_is after_is) cut =
    hop_unspent node now unit wish (way rows_tables node now unit.to wish.path) hop (not_first (nat_lt 16384 (length unit.octets)) causes.TooLong _ hop is).1 cut

-- none of what is held has a key that nothing of it has
none_has : (P : Partial → Type 0) (key : Key) (held : List Partial) → ((partial : Partial) → P partial → has_key key partial ≡ true → ⊥) → AllByRecursion P held → HasNone key held
none_has P key [] never all = refl
none_has P key (partial ∷ held) never all = by (none_has P key held never all.1) (cases (has_key key partial))
  where
    by : list_any (has_key key) held ≡ false → (has_key key partial ≡ true) ⊎ (has_key key partial ≡ false) → (has_key key partial || list_any (has_key key) held) ≡ false
    by rest (inl has) = absurd (never partial all.0 has)
    by rest (inr lacks) = ap (λ (b : Bool). b || list_any (has_key key) held) lacks ∙ rest

module _ (old : Net) (unit : CarriedUnit (List ℕ)) (wish : Wish) (node after : Node Rows) (nodes : List (Node Rows)) (frames : List Frame) (sound : IsSound link_of old)
    (honest : old.link.honest ≡ true) (changes : Changes (is_source unit.from) old.nodes node after nodes)
    (sends : Sends rows_tables node (link_of old.link).clock unit wish (Ok frames) after) (cut : wish.cut ≡ true) where
  abbrev now : ℕ
  now = (link_of old.link).clock

  own : is_own_system node.setup unit.from ≡ true
  own = and_second node.setup.end (is_own_system node.setup unit.from) changes.passes

  lives : node.setup.life ≡ old.life
  lives =
      change_at (is_source unit.from) (λ (n : Node Rows). n.setup.life ≡ old.life) old.nodes node after nodes changes
      (all_from_map (λ (n : Node Rows). n.setup) (λ setting. setting.life ≡ old.life) old.nodes sound.steady.peopled.lives)

  module _ (origins : List Origin) (t : IsTraced link_of old origins) where
    ages : AllByRecursion (λ origin. (now ≤ origin.tick + old.life) × (origin.tick ≤ now)) origins
    ages = all_two (λ origin. now ≤ origin.tick + old.life) (λ origin. origin.tick ≤ now) (λ origin. (now ≤ origin.tick + old.life) × (origin.tick ≤ now)) origins (λ origin a b. (a, b))
        (all_from_map entry_of (λ entry. now ≤ entry.0 + old.life) origins (subst (AllByRecursion (λ entry. now ≤ entry.0 + old.life)) t.entries sound.steady.young))
        (all_from_map entry_of (λ entry. entry.0 ≤ now) origins (subst (AllByRecursion (λ entry. entry.0 ≤ now)) t.entries sound.steady.past))

    node_knows : Knows origins old.life node
    node_knows = change_at (is_source unit.from) (Knows origins old.life) old.nodes node after nodes changes t.known

    never : (partial : Partial) → IsHeldFor origins old.life partial → has_key (unit_key unit node.next_id) partial ≡ true → ⊥
    never partial h has =
        let key : key_of partial ≡ unit_key unit node.next_id = key_there (unit_key unit node.next_id) partial has in
        let source : h.origin.unit.from ≡ unit.from = sym h.source ∙ ap (λ (k : Key). k.source) key in
        let id : partial.id ≡ node.next_id = ap (λ (k : Key). k.id) key in
        let its_own : is_own_system node.setup h.origin.unit.from ≡ true = ap (λ (address : List ℕ). is_same_system address node.setup.title) source ∙ own in
        let numbered : IsNumbered node h.origin.tick partial.id = among_all (IsNumberedBy node) h.origin origins h.there node_knows.numbered its_own partial.id h.id in
        let age = among_all (λ origin. (now ≤ origin.tick + old.life) × (origin.tick ≤ now)) h.origin origins h.there ages in
        fresh_id node now (unspent node after now unit wish frames sends cut) h.origin.tick partial.id numbered
        (record { young = subst (λ (l : ℕ). now ≤ h.origin.tick + l) (sym lives) age.0; past = age.1 }) id

    none_of : AllByRecursion (λ (n : Node Rows). HasNone (unit_key unit node.next_id) n.store.held) old.nodes
    none_of =
        all_weaker (Knows origins old.life) (λ (n : Node Rows). HasNone (unit_key unit node.next_id) n.store.held) old.nodes
        (λ n knows. none_has (IsHeldFor origins old.life) (unit_key unit node.next_id) n.store.held never knows.held) t.known

  -- no system holds anything with the key of the unit
  pub is_new : AllByRecursion (λ (n : Node Rows). HasNone (unit_key unit node.next_id) n.store.held) old.nodes
  is_new = let t = sound.traced honest in none_of t.0 t.1
