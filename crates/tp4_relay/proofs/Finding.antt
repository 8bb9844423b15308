-- The row of an indication, sought in order.
use Rattle.std.proofs.Common.{◌≡◌, ◌≢◌, ℕ, zero, suc, ◌+◌, ◌<◌, Bool, true, false, nat_eq, List, [], ◌∷◌, length, get_or, drop, Some, sym, ◌∙◌, ap, arith, ◌&&◌}
use Rattle.std.specs.Prelude.{if◌then◌else◌}
use Rattle.std.specs.Cmp.Lexicographic.{pointwise}
use Rattle.std.proofs.lemmas.Bool.{eq-eqb, ne_eqb}
use Rattle.script_journal.specs.declared.event.Indication.{Indication}
use Rattle.tp4_relay.specs.declared.row.RelayRow.{RelayRow}
use Rattle.tp4_relay.specs.Kept.{is_at, row_for}

pub dropped : {X : Type 0} (xs : List X) (i : ℕ) (x : X) → i < length xs → x ≡ get_or xs i x → drop i xs ≡ x ∷ drop (i + 1) xs
dropped [] i x low is = absurd (omega (arith, low))
dropped (y ∷ xs) zero x low is = λ i. sym is i ∷ xs
dropped (y ∷ xs) (suc i) x low is = let s : suc i + 1 ≡ suc (i + 1) = omega arith in dropped xs i x (omega (arith, low)) is ∙ ap (λ (n : ℕ). x ∷ drop n (y ∷ xs)) (sym s)

module _ (rows : List RelayRow) (heard : Indication) (i : ℕ) (row : RelayRow) (low : i < length rows) (is : row ≡ get_or rows i row) (so_far : row_for rows heard ≡ row_for (drop i rows) heard) where
  split : row_for rows heard ≡ row_for (row ∷ drop (i + 1) rows) heard
  split = so_far ∙ ap (λ (rs : List RelayRow). row_for rs heard) (dropped rows i row low is)

  pub row_here : (same : Bool) → row.system ≡ heard.system → same ≡ pointwise nat_eq row.selector heard.called_selector → same ≡ true → Some row ≡ row_for rows heard
  row_here same system selector yes_it =
      sym (split ∙ ap (λ (b : Bool). if b && pointwise nat_eq row.selector heard.called_selector then Some row else row_for (drop (i + 1) rows) heard) (eq-eqb row.system heard.system system)
      ∙ ap (λ (b : Bool). if b then Some row else row_for (drop (i + 1) rows) heard) (sym selector ∙ yes_it))

  past : is_at heard row ≡ false → row_for rows heard ≡ row_for (drop (i + 1) rows) heard
  past other = split ∙ ap (λ (b : Bool). if b then Some row else row_for (drop (i + 1) rows) heard) other

  pub other_system : row.system ≢ heard.system → row_for rows heard ≡ row_for (drop (i + 1) rows) heard
  other_system differs = past (ap (λ (b : Bool). b && pointwise nat_eq row.selector heard.called_selector) (ne_eqb row.system heard.system differs))

  pub other_selector : (same : Bool) → row.system ≡ heard.system → same ≡ pointwise nat_eq row.selector heard.called_selector → same ≡ false → row_for rows heard ≡ row_for (drop (i + 1) rows) heard
  other_selector same system selector not_it =
      past (ap (λ (b : Bool). b && pointwise nat_eq row.selector heard.called_selector) (eq-eqb row.system heard.system system) ∙ sym selector ∙ not_it)
