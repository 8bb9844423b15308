-- The row that is found for an address has it; by its port the same row is found, since no other has that port.
use Rattle.std.proofs.Common.{◌≡◌, ℕ, ◌≤◌, ◌==◌, Bool, true, false, cond, List, [], ◌∷◌, Some, refl, sym, ◌∙◌, ap, subst, arith}
use Rattle.std.specs.Prelude.{◌&&◌, find, max, nat_eq}
use Rattle.std.specs.Cmp.Lexicographic.{pointwise, same_text}
use Rattle.std.specs.List.{AllByRecursion}
use Rattle.std.proofs.lemmas.Bool.{and_from, eq-eqb}
use Rattle.std.proofs.lemmas.Cmp.{nat_list_eq_equiv}
use Rattle.nsap.specs.declared.port.Port.{Port}
use Rattle.inactive_step.specs.declared.row.InactiveRow.{InactiveRow}
use Rattle.inactive_step.specs.Rows.{AreAllApart, AreApart, bound_in, longest, row_at, row_on, same_port}

-- ---- equal lists

pub same_numbers : (xs ys : List ℕ) → pointwise nat_eq xs ys ≡ true → xs ≡ ys
same_numbers xs ys h = same_text xs ys (sym h)

pub equal_numbers : (xs : List ℕ) → pointwise nat_eq xs xs ≡ true
equal_numbers xs = nat_list_eq_equiv.refl xs

own_port : (port : Port) → same_port port port ≡ true
own_port port = and_from _ _ (eq-eqb port.lan port.lan refl) (equal_numbers port.snpa)

-- ---- what is found

pub found_of : {A : Type 0} (P : A → Type 0) (test : A → Bool) (xs : List A) (x : A) → AllByRecursion P xs → find test xs ≡ Some x → P x
found_of P test [] x h is = absurd cc
found_of {A} P test (y ∷ ys) x h is = by (test y) (found_of P test ys x h.1) is
  where
    by : (b : Bool) → (find test ys ≡ Some x → P x) → cond b (Some y) (find test ys) ≡ Some x → P x
    by true rest i = let e : y ≡ x = cc in subst P e h.0
    by false rest i = rest i

pub found_passes : {A : Type 0} (test : A → Bool) (xs : List A) (x : A) → find test xs ≡ Some x → test x ≡ true
found_passes test [] x is = absurd cc
found_passes {A} test (y ∷ ys) x is = by (test y) refl (found_passes test ys x) is
  where
    by : (b : Bool) → test y ≡ b → (find test ys ≡ Some x → test x ≡ true) → cond b (Some y) (find test ys) ≡ Some x → test x ≡ true
    by true e rest i = let s : y ≡ x = cc in sym (ap test s) ∙ e
    by false e rest i = rest i

pub found_address : (rows : List InactiveRow) (to : List ℕ) (row : InactiveRow) → row_at rows to ≡ Some row → row.address ≡ to
found_address rows to row is = same_numbers row.address to (found_passes (λ (r : InactiveRow). pointwise nat_eq r.address to) rows row is)

pub found_port : (rows : List InactiveRow) (to : List ℕ) (row : InactiveRow) → AreAllApart rows → row_at rows to ≡ Some row → row_on rows row.port ≡ Some row
found_port [] to row apart is = absurd cc
found_port (one ∷ rows) to row apart is = by (pointwise nat_eq one.address to) (found_port rows to row apart.1) is
  where
    by : (b : Bool) → (row_at rows to ≡ Some row → row_on rows row.port ≡ Some row) → cond b (Some one) (row_at rows to) ≡ Some row → row_on (one ∷ rows) row.port ≡ Some row
    by true rest i =
        let e : one ≡ row = cc in
        subst (λ (r : InactiveRow). row_on (one ∷ rows) r.port ≡ Some r) e
        (ap (λ (b : Bool). cond b (Some one) (row_on rows one.port)) (own_port one.port))
    by false rest i =
        let other : AreApart one row = found_of (AreApart one) (λ (r : InactiveRow). pointwise nat_eq r.address to) rows row apart.0 i in
        ap (λ (b : Bool). cond b (Some one) (row_on rows row.port)) other.ports ∙ rest i

-- ---- bounds

pub bound_most : (rows : List InactiveRow) (to : List ℕ) → bound_in (row_at rows to) ≤ longest rows
bound_most [] to = omega arith
bound_most (one ∷ rows) to = by (pointwise nat_eq one.address to) (bound_most rows to)
  where
    by : (b : Bool) → bound_in (row_at rows to) ≤ longest rows → bound_in (cond b (Some one) (row_at rows to)) ≤ max one.bound (longest rows)
    by true h = grind arith
    by false h = grind (arith, h)
