-- Where frames go between two ports of one LAN: one from the first to the second goes to the system of the second alone, and one to all
-- intermediate systems goes to none, since both are ports of end systems.
use Rattle.std.proofs.Common.{◌≡◌, ◌≢◌, ◌⊎◌, inl, inr, ℕ, ◌%◌, Bool, true, false, not, ◌&&◌, ◌||◌, ◌==◌, nat_eq, if◌then◌else◌, List, [], ◌∷◌, refl, sym, ◌∙◌, ap, subst, arith, rules, slice_index}
use Rattle.std.specs.Cmp.Lexicographic.{pointwise}
use Rattle.std.proofs.lemmas.Bool.Decides.{nat_tests, eqb_tells}
use Rattle.osi_base.specs.declared.unit.Picked.{Picked}
use Rattle.osi_base.specs.declared.unit.Picked.TheVariants.{Taken as WasPicked, NotOurs, NotThere}
use Rattle.osi_base.specs.declared.unit.Unit.{Unit as CarriedUnit}
use Rattle.nsap.specs.declared.port.Port.{Port}
use Rattle.lan_step.specs.declared.row.PortRow.{PortRow}
use Rattle.lan_step.specs.Frames.{Frame, is_taken, picked_of}
use Rattle.lan_step.specs.Rows.{same_port, same_snpa}
use Rattle.lan_step.specs.Receivers.{group_of_kind, is_one_of}
use Rattle.law_clnp_step.proofs.Joined.{same_numbers}
use Rattle.law_clnp_net.specs.Calm.{end_row}
use Rattle.law_clnp_net.specs.Frames.{GoesNowhere, GoesOnlyTo}
use Rattle.law_clnp_net.proofs.Addresses.{turned}

-- ---- SNPAs

-- an SNPA that is no group's is none that begins with 9
pub no_group : (snpa rest : List ℕ) → (slice_index snpa 0 % 2 == 1) ≡ false → same_snpa (9 ∷ rest) snpa ≡ false
no_group [] rest single = refl
no_group (octet ∷ snpa) rest single = by (eqb_tells 9 octet)
  where
    by : ((9 == octet) ≡ true) × (9 ≡ octet) ⊎ ((9 == octet) ≡ false) × (9 ≢ octet) → (nat_eq 9 octet && pointwise nat_eq rest snpa) ≡ false
    by (inl same) = let odd : (9 % 2 == 1) ≡ false = subst (λ (n : ℕ). (n % 2 == 1) ≡ false) (sym same.1) single in absurd cc
    by (inr other) = ap (λ (b : Bool). b && pointwise nat_eq rest snpa) other.0

pub its_own : (number : ℕ) → (number == number) ≡ true
its_own number = grind (arith, nat_tests)

number_turned : (m n : ℕ) → (m == n) ≡ (n == m)
number_turned m n = grind (arith, nat_tests)

-- ---- two rows

-- the answer to a choice where two systems have a port: by whether it is one of them, whether each has a port on that LAN, whether it sent the frame, and
-- whether the frame goes there
abbrev answer : (a b on_a on_b sent_a sent_b to_a to_b : Bool) → Picked
answer a b on_a on_b sent_a sent_b to_a to_b =
    if not ((a && on_a) || ((b && on_b) || false)) then NotThere
    else if ((a && sent_a) || ((b && sent_b) || false)) || not ((a && to_a) || ((b && to_b) || false)) then NotOurs
    else WasPicked

-- one that goes to no port is not taken
taken_by_none : (a b on_a on_b sent_a sent_b : Bool) → is_taken (answer a b on_a on_b sent_a sent_b false false) ≡ false
taken_by_none true b on_a on_b sent_a sent_b = search rules
taken_by_none false b on_a on_b sent_a sent_b = search rules

-- one that the first sent, and that goes to the second, is taken by the second
taken_by_second : (a b : Bool) → (a && b) ≡ false → is_taken (answer a b true true true false false true) ≡ b
taken_by_second true true h = absurd cc
taken_by_second true false h = refl
taken_by_second false true h = refl
taken_by_second false false h = refl

taken_by_first : (a b : Bool) → (a && b) ≡ false → is_taken (answer b a true true false true true false) ≡ b
taken_by_first true true h = absurd cc
taken_by_first true false h = refl
taken_by_first false true h = refl
taken_by_first false false h = refl

-- two ports on one LAN, of two systems, that are no groups
pub record AreTwo (first second : ℕ) (here there : Port) : Type 0 where
  pub systems : (first == second) ≡ false
  pub lan : here.lan ≡ there.lan
  pub snpas : same_snpa here.snpa there.snpa ≡ false
  pub single : (slice_index there.snpa 0 % 2 == 1) ≡ false

not_both : (first second system : ℕ) → (first == second) ≡ false → (first == system && second == system) ≡ false
not_both first second system apart = by (eqb_tells first system) (eqb_tells second system)
  where
    by : ((first == system) ≡ true) × (first ≡ system) ⊎ ((first == system) ≡ false) × (first ≢ system)
        → ((second == system) ≡ true) × (second ≡ system) ⊎ ((second == system) ≡ false) × (second ≢ system) → (first == system && second == system) ≡ false
    by (inl one) (inl other) =
        let same : first ≡ second = one.1 ∙ sym other.1 in
        let here : (first == second) ≡ true = ap (λ (n : ℕ). first == n) (sym same) ∙ its_own first in
        absurd cc
    by (inl one) (inr other) = ap (λ (b : Bool). first == system && b) other.0 ∙ and_false (first == system)
      where
        and_false : (b : Bool) → (b && false) ≡ false
        and_false true = refl
        and_false false = refl
    by (inr one) other = ap (λ (b : Bool). b && second == system) one.0

module _ (first second : ℕ) (here there : Port) (two : AreTwo first second here there) where
  abbrev x : PortRow
  x = end_row first here

  abbrev y : PortRow
  y = end_row second there

  lan_here : (here.lan == there.lan) ≡ true
  lan_here = ap (λ (n : ℕ). n == there.lan) two.lan ∙ its_own there.lan

  port_here : same_port here here ≡ true
  port_here = (λ i. its_own here.lan i && same_numbers here.snpa i)

  and_false : (b : Bool) → (b && false) ≡ false
  and_false true = refl
  and_false false = refl

  port_there : same_port there here ≡ false
  port_there = ap (λ (b : Bool). there.lan == here.lan && b) (turned there.snpa here.snpa ∙ two.snpas) ∙ and_false (there.lan == here.lan)

  not_named : is_one_of there x ≡ false
  not_named =
      (λ i. here.lan == there.lan && (two.snpas i || no_group there.snpa (0 ∷ 43 ∷ 0 ∷ 0 ∷ 4 ∷ []) two.single i)) ∙ and_false (here.lan == there.lan)

  named : is_one_of there y ≡ true
  named = (λ i. its_own there.lan i && (same_numbers there.snpa i || same_snpa (9 ∷ 0 ∷ 43 ∷ 0 ∷ 0 ∷ 4 ∷ []) there.snpa))

  module _ (unit : CarriedUnit Port) (from : unit.from ≡ here) (to : unit.to ≡ there) where
    picks_first : (system : ℕ) (frame : Frame) → frame.unit ≡ unit → is_taken (picked_of (x ∷ y ∷ []) system frame) ≡ (system == second)
    picks_first system frame is =
        let from_is : frame.unit.from ≡ here = ap (λ (u : CarriedUnit Port). u.from) is ∙ from in
        let to_is : frame.unit.to ≡ there = ap (λ (u : CarriedUnit Port). u.to) is ∙ to in
        (λ i.
        is_taken (answer (first == system) (second == system) (here.lan == (to_is i).lan) (there.lan == (to_is i).lan) (same_port here (from_is i)) (same_port there (from_is i))
        (is_one_of (to_is i) x) (is_one_of (to_is i) y)))
        ∙ ((λ i. is_taken (answer (first == system) (second == system) (lan_here i) (its_own there.lan i) (port_here i) (port_there i) (not_named i) (named i)))
        ∙ (taken_by_second (first == system) (second == system) (not_both first second system two.systems) ∙ number_turned second system))

    picks_second : (system : ℕ) (frame : Frame) → frame.unit ≡ unit → is_taken (picked_of (y ∷ x ∷ []) system frame) ≡ (system == second)
    picks_second system frame is =
        let from_is : frame.unit.from ≡ here = ap (λ (u : CarriedUnit Port). u.from) is ∙ from in
        let to_is : frame.unit.to ≡ there = ap (λ (u : CarriedUnit Port). u.to) is ∙ to in
        (λ i.
        is_taken (answer (second == system) (first == system) (there.lan == (to_is i).lan) (here.lan == (to_is i).lan) (same_port there (from_is i)) (same_port here (from_is i))
        (is_one_of (to_is i) y) (is_one_of (to_is i) x)))
        ∙ ((λ i. is_taken (answer (second == system) (first == system) (its_own there.lan i) (lan_here i) (port_there i) (port_here i) (named i) (not_named i)))
        ∙ (taken_by_first (first == system) (second == system) (not_both first second system two.systems) ∙ number_turned second system))

    -- a frame from the one port to the other goes to the system of that alone
    pub goes_to_second : (rows : List PortRow) → (rows ≡ x ∷ y ∷ []) ⊎ (rows ≡ y ∷ x ∷ []) → GoesOnlyTo rows unit second
    goes_to_second rows (inl is) = subst (λ (rs : List PortRow). GoesOnlyTo rs unit second) (sym is) (record {
      picks = picks_first;
      there = (λ i. first == second || (its_own second i || false)) ∙ or_true (first == second);
    })
      where
        or_true : (b : Bool) → (b || true) ≡ true
        or_true true = refl
        or_true false = refl
    goes_to_second rows (inr is) = subst (λ (rs : List PortRow). GoesOnlyTo rs unit second) (sym is) (record {
      picks = picks_second;
      there = (λ i. its_own second i || (first == second || false));
    })

-- a frame to all intermediate systems goes to none
module _ (x y : PortRow) (ends : (x.end ≡ true) × (y.end ≡ true)) (single_x : (slice_index x.port.snpa 0 % 2 == 1) ≡ false)
    (single_y : (slice_index y.port.snpa 0 % 2 == 1) ≡ false) where
  abbrev all_intermediates : List ℕ
  all_intermediates = 9 ∷ 0 ∷ 43 ∷ 0 ∷ 0 ∷ 5 ∷ []

  pub not_one_of : (row : PortRow) (to : Port) → row.end ≡ true → (slice_index row.port.snpa 0 % 2 == 1) ≡ false → to.snpa ≡ all_intermediates → is_one_of to row ≡ false
  not_one_of row to is_end single group =
      (λ i. row.port.lan == to.lan && (same_snpa row.port.snpa (group i) || same_snpa (group_of_kind (is_end i)) (group i)))
      ∙ ((λ i. row.port.lan == to.lan && ((turned row.port.snpa all_intermediates ∙ no_group row.port.snpa (0 ∷ 43 ∷ 0 ∷ 0 ∷ 5 ∷ []) single) i || false))
      ∙ and_no (row.port.lan == to.lan))
    where
      and_no : (b : Bool) → (b && false) ≡ false
      and_no true = refl
      and_no false = refl

  pub goes_nowhere : (unit : CarriedUnit Port) → unit.to.snpa ≡ all_intermediates → GoesNowhere (x ∷ y ∷ []) unit
  goes_nowhere unit group system frame is =
      let to_group : frame.unit.to.snpa ≡ all_intermediates = ap (λ (u : CarriedUnit Port). u.to.snpa) is ∙ group in
      (λ i.
      is_taken (answer (x.system == system) (y.system == system) (x.port.lan == frame.unit.to.lan) (y.port.lan == frame.unit.to.lan) (same_port x.port frame.unit.from) (same_port y.port frame.unit.from)
      (not_one_of x frame.unit.to ends.0 single_x to_group i) (not_one_of y frame.unit.to ends.1 single_y to_group i)))
      ∙ taken_by_none (x.system == system) (y.system == system) (x.port.lan == frame.unit.to.lan) (y.port.lan == frame.unit.to.lan) (same_port x.port frame.unit.from) (same_port y.port frame.unit.from)
