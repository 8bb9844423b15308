-- A unit that starts is sent where it fits the LAN of the hop or may be cut: a unit that may be cut is never too long for a LAN, and one that
-- may not be cut needs no identifier.
use Rattle.std.proofs.Common.{◌≡◌, ℕ, Bool, true, false, List, Option, Some, None, refl, sym, ap, ◌∙◌, subst}
use Rattle.std.specs.Prelude.{◌&&◌, not, nat_lt, if◌then◌else◌, length, Result, Ok, Err}
use Rattle.std.proofs.lemmas.Bool.{le-ltb, lt-ltb}
use Rattle.nsap.specs.declared.port.Hop.{Hop}
use Rattle.osi_base.specs.declared.unit.DropCause.{DropCause}
use Rattle.osi_base.specs.declared.unit.DropCause.TheVariants as causes
use Rattle.osi_base.specs.declared.unit.Unit.{Unit as CarriedUnit}
use Rattle.osi_base.specs.declared.unit.Wish.{Wish}
use Rattle.esis_tables.specs.Rows.{Rows}
use Rattle.clnp_system.specs.Identifiers.{is_spent}
use Rattle.clnp_system.specs.Node.{Frame, Node, at_tick}
use Rattle.clnp_system.specs.Sending.{IsDropped, IsSent, Sends, by_hop, first_length, first_pdu, numbered_if, way}
use Rattle.clnp_system.specs.Setting.{room_of}
use Rattle.clnp_system.specs.Written.{CutFrames}
use Rattle.clnp_system.specs.Tables.{rows_tables}
use Rattle.clnp_entity.specs.steps.Starting.{identified, starting}

-- the tests: above the most octets, may be cut, too long for the LAN, the identifier is spent
abbrev chosen : Bool → Bool → Bool → Hop → Result Hop DropCause
chosen cut over spent hop = if not cut && over then Err causes.TooLong else if cut && spent then Err causes.IdsSpent else Ok hop

abbrev begun : Bool → Bool → Hop → Result Hop DropCause
begun cut spent hop = if cut && spent then Err causes.IdsSpent else Ok hop

dropped_hop : (cut over spent : Bool) (hop : Hop) (cause : DropCause) → begun cut spent hop ≡ Err cause → chosen cut over spent hop ≡ Err cause
dropped_hop false over spent hop cause e = absurd cc
dropped_hop true over true hop cause e = e
dropped_hop true over false hop cause e = absurd cc

sent_hop : (cut over spent : Bool) (hop found : Hop) → begun cut spent hop ≡ Ok found → (not cut && over) ≡ false → chosen cut over spent hop ≡ Ok found
sent_hop false true spent hop found e fits = absurd cc
sent_hop false false spent hop found e fits = e
sent_hop true over true hop found e fits = absurd cc
sent_hop true over false hop found e fits = e

long_hop : (cut over spent : Bool) (hop found : Hop) → begun cut spent hop ≡ Ok found → (not cut && over) ≡ true → chosen cut over spent hop ≡ Err causes.TooLong
long_hop cut over spent hop found e long = ap (λ (b : Bool). if b then Err causes.TooLong else (if cut && spent then Err causes.IdsSpent else Ok hop)) long

-- whatever the way is
module _ (node : Node Rows) (now : ℕ) (unit : CarriedUnit (List ℕ)) (wish : Wish) where
  abbrev pub over : Hop → Bool
  over hop = not wish.cut && nat_lt (room_of node.setup hop.port.lan) (first_length node.setup unit wish)

  dropped_by : (way : Option Hop) (cause : DropCause) → identified node now wish way ≡ Err cause → by_hop node now unit wish way ≡ Err cause
  dropped_by None cause e = e
  dropped_by (Some hop) cause e =
      dropped_hop wish.cut (nat_lt (room_of node.setup hop.port.lan) (first_length node.setup unit wish)) (is_spent node now) hop cause e

  same_hop : (cut spent : Bool) (hop found : Hop) → begun cut spent hop ≡ Ok found → hop ≡ found
  same_hop true true hop found e = absurd cc
  same_hop true false hop found e = cc
  same_hop false true hop found e = cc
  same_hop false false hop found e = cc

  sent_by : (way : Option Hop) (found : Hop) → identified node now wish way ≡ Ok found → over found ≡ false → by_hop node now unit wish way ≡ Ok found
  sent_by None found e fits = absurd cc
  sent_by (Some hop) found e fits =
      sent_hop wish.cut (nat_lt (room_of node.setup hop.port.lan) (first_length node.setup unit wish)) (is_spent node now) hop found e
      (ap over (same_hop wish.cut (is_spent node now) hop found e) ∙ fits)

  long_by : (way : Option Hop) (found : Hop) → identified node now wish way ≡ Ok found → over found ≡ true → by_hop node now unit wish way ≡ Err causes.TooLong
  long_by None found e long = absurd cc
  long_by (Some hop) found e long =
      long_hop wish.cut (nat_lt (room_of node.setup hop.port.lan) (first_length node.setup unit wish)) (is_spent node now) hop found e
      (ap over (same_hop wish.cut (is_spent node now) hop found e) ∙ long)

  bounded : (most : Bool) (way : Option Hop) (cause : DropCause) → (if most then Err causes.TooLong else identified node now wish way) ≡ Err cause
      → (if most then Err causes.TooLong else by_hop node now unit wish way) ≡ Err cause
  bounded true way cause e = e
  bounded false way cause e = dropped_by way cause e

  bounded_sent : (most : Bool) (way : Option Hop) (found : Hop) → (if most then Err causes.TooLong else identified node now wish way) ≡ Ok found → over found ≡ false
      → (if most then Err causes.TooLong else by_hop node now unit wish way) ≡ Ok found
  bounded_sent true way found e fits = absurd cc
  bounded_sent false way found e fits = sent_by way found e fits

  bounded_long : (most : Bool) (way : Option Hop) (found : Hop) → (if most then Err causes.TooLong else identified node now wish way) ≡ Ok found → over found ≡ true
      → (if most then Err causes.TooLong else by_hop node now unit wish way) ≡ Err causes.TooLong
  bounded_long true way found e long = absurd cc
  bounded_long false way found e long = long_by way found e long

-- what goes out fits or may be cut, what does not is too long and may not be cut
goes_some : (node : Node Rows) (unit : CarriedUnit (List ℕ)) (cut report trace : Bool) (path id : ℕ) (hop : Hop) (frames : List Frame)
    → CutFrames node.setup hop.port (first_pdu node.setup unit (record { cut = cut; report = report; trace = trace; path = path }) id) (Some frames)
    → over node 0 unit (record { cut = cut; report = report; trace = trace; path = path }) hop ≡ false
goes_some node unit true report trace path id hop frames goes = refl
goes_some node unit false report trace path id hop frames goes = le-ltb _ _ goes.1.0

goes_none : (node : Node Rows) (unit : CarriedUnit (List ℕ)) (cut report trace : Bool) (path id : ℕ) (hop : Hop)
    → CutFrames node.setup hop.port (first_pdu node.setup unit (record { cut = cut; report = report; trace = trace; path = path }) id) None
    → over node 0 unit (record { cut = cut; report = report; trace = trace; path = path }) hop ≡ true
goes_none node unit true report trace path id hop goes = absurd goes
goes_none node unit false report trace path id hop goes = lt-ltb _ _ goes

-- a unit is dropped before it starts
pub drops : (old new : Node Rows) (now : ℕ) (unit : CarriedUnit (List ℕ)) (wish : Wish) (cause : DropCause) → Err cause ≡ starting rows_tables old now unit wish
    → new ≡ at_tick now old → Sends rows_tables old now unit wish (Err cause) new
drops old new now unit wish cause is after =
    IsDropped cause (bounded old now unit wish (nat_lt 16384 (length unit.octets)) (way rows_tables old now unit.to wish.path) cause (sym is)) refl after

-- it is too long for the LAN of its hop
pub drops_long : (inside old new : Node Rows) (now : ℕ) (unit : CarriedUnit (List ℕ)) (wish : Wish) (hop : Hop) → inside ≡ old
    → starting rows_tables old now unit wish ≡ Ok hop → CutFrames inside.setup hop.port (first_pdu inside.setup unit wish inside.next_id) None → new ≡ at_tick now old
    → Sends rows_tables old now unit wish (Err causes.TooLong) new
drops_long inside old new now unit wish hop same is goes after = IsDropped causes.TooLong
    (bounded_long old now unit wish (nat_lt 16384 (length unit.octets)) (way rows_tables old now unit.to wish.path) hop is
    (goes_none old unit wish.cut wish.report wish.trace wish.path old.next_id hop
    (subst (λ (node : Node Rows). CutFrames node.setup hop.port (first_pdu node.setup unit wish node.next_id) None) same goes))) refl after

-- it is sent
pub goes_out : (inside old mid new : Node Rows) (now : ℕ) (unit : CarriedUnit (List ℕ)) (wish : Wish) (hop : Hop) (frames : List Frame) → inside ≡ old
    → starting rows_tables old now unit wish ≡ Ok hop → CutFrames inside.setup hop.port (first_pdu inside.setup unit wish inside.next_id) (Some frames) → mid ≡ at_tick now old
    → new ≡ numbered_if wish.cut mid now → Sends rows_tables old now unit wish (Ok frames) new
goes_out inside old mid new now unit wish hop frames same is out at after =
    let goes = subst (λ (node : Node Rows). CutFrames node.setup hop.port (first_pdu node.setup unit wish node.next_id) (Some frames)) same out in IsSent hop frames
    (bounded_sent old now unit wish (nat_lt 16384 (length unit.octets)) (way rows_tables old now unit.to wish.path) hop is
    (goes_some old unit wish.cut wish.report wish.trace wish.path old.next_id hop frames goes)) goes refl
    (after ∙ ap (λ (node : Node Rows). numbered_if wish.cut node now) at)
