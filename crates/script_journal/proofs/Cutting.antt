-- A line feed ends a line, and a blank a field: where no field has either, lines that are alike have the same fields.
use Rattle.std.proofs.Common.{◌≡◌, ℕ, zero, suc, ◌<◌, Bool, true, false, List, [], ◌∷◌, ◌++◌, length, get_or, refl, sym, ◌∙◌, ap, arith, append_assoc}
use Rattle.std.specs.Prelude.{nat_lt, if◌then◌else◌}
use Rattle.std.proofs.lemmas.Bool.Decides.{nat_tests}
use Rattle.script_journal.specs.Cells.{line}
use Rattle.script_journal.specs.Injective.{plain}

abbrev pub IsPlain : List ℕ → Type 0
IsPlain text = plain text ≡ true

abbrev pub ArePlain : List (List ℕ) → Type 0
ArePlain [] = Unit {0}
ArePlain (text ∷ texts) = IsPlain text × ArePlain texts

plain_step : (c : ℕ) (cs : List ℕ) (b : Bool) → nat_lt 32 c ≡ b → (if b then plain cs else false) ≡ true → (b ≡ true) × (plain cs ≡ true)
plain_step c cs true is p = (refl, p)
plain_step c cs false is p = absurd (cc)

pub plain_tail : (c : ℕ) (cs : List ℕ) → IsPlain (c ∷ cs) → IsPlain cs
plain_tail c cs p = (plain_step c cs (nat_lt 32 c) refl p).1

no_end : (c : ℕ) (cs : List ℕ) → nat_lt 32 c ≡ false → IsPlain (c ∷ cs) → ⊥
no_end c cs is p = let h = (plain_step c cs (nat_lt 32 c) refl p).0 in cc

pub record IsCut (a b r s : List ℕ) (x y : ℕ) : Type 0 where
  pub first : a ≡ b
  pub end : x ≡ y
  pub rest : r ≡ s

-- what stands before an end, the end and what stands behind it
pub cut_same : (a b r s : List ℕ) (x y : ℕ) → nat_lt 32 x ≡ false → nat_lt 32 y ≡ false → IsPlain a → IsPlain b → a ++ x ∷ r ≡ b ++ y ∷ s → IsCut a b r s x y
cut_same [] [] r s x y ex ey pa pb is = record { first = refl; end = cc; rest = cc }
cut_same [] (c ∷ b) r s x y ex ey pa pb is = let h : x ≡ c = cc in absurd (no_end c b (ap (nat_lt 32) (sym h) ∙ ex) pb)
cut_same (c ∷ a) [] r s x y ex ey pa pb is = let h : c ≡ y = cc in absurd (no_end c a (ap (nat_lt 32) h ∙ ey) pa)
cut_same (c ∷ a) (d ∷ b) r s x y ex ey pa pb is =
    let h : c ≡ d = cc in
    let tail : a ++ x ∷ r ≡ b ++ y ∷ s = cc in
    let more = cut_same a b r s x y ex ey (plain_tail c a pa) (plain_tail d b pb) tail in
    record { first = (let f = more.first in cc); end = more.end; rest = more.rest }

pub record AreSame (fs gs : List (List ℕ)) (r s : List ℕ) : Type 0 where
  pub fields : fs ≡ gs
  pub rest : r ≡ s

feed_blank : (feed blank : ℕ) → feed ≡ 10 → blank ≡ 32 → feed ≡ blank → ⊥
feed_blank feed blank f b is = absurd (omega arith)

one_field : (f r : List ℕ) → line (f ∷ []) ++ r ≡ f ++ 10 ∷ r
one_field f r = append_assoc f (10 ∷ []) r

more_fields : (f g : List ℕ) (fs : List (List ℕ)) (r : List ℕ) → line (f ∷ g ∷ fs) ++ r ≡ f ++ 32 ∷ (line (g ∷ fs) ++ r)
more_fields f g fs r = append_assoc f (32 ∷ line (g ∷ fs)) r

-- lines of fields, before anything
pub line_same : (f : List ℕ) (fs : List (List ℕ)) (g : List ℕ) (gs : List (List ℕ)) (r s : List ℕ) → ArePlain (f ∷ fs) → ArePlain (g ∷ gs)
    → line (f ∷ fs) ++ r ≡ line (g ∷ gs) ++ s → AreSame (f ∷ fs) (g ∷ gs) r s
line_same f [] g [] r s pf pg is =
    let cut = cut_same f g r s 10 10 refl refl pf.0 pg.0 (sym (one_field f r) ∙ is ∙ one_field g s) in
    record { fields = ap (λ (x : List ℕ). x ∷ []) cut.first; rest = cut.rest }
line_same f [] g (h ∷ gs) r s pf pg is =
    absurd (feed_blank 10 32 refl refl (cut_same f g r _ 10 32 refl refl pf.0 pg.0 (sym (one_field f r) ∙ is ∙ more_fields g h gs s)).end)
line_same f (e ∷ fs) g [] r s pf pg is =
    absurd (feed_blank 10 32 refl refl (sym (cut_same f g _ s 32 10 refl refl pf.0 pg.0 (sym (more_fields f e fs r) ∙ is ∙ one_field g s)).end))
line_same f (e ∷ fs) g (h ∷ gs) r s pf pg is =
    let cut = cut_same f g _ _ 32 32 refl refl pf.0 pg.0 (sym (more_fields f e fs r) ∙ is ∙ more_fields g h gs s) in
    let more = line_same e fs h gs r s pf.1 pg.1 cut.rest in
    record { fields = (let a = cut.first in let b = more.fields in cc); rest = more.rest }

-- octets that are above the blank by their places
pub plain_from : (text : List ℕ) → ((i : ℕ) → i < length text → 32 < get_or text i 0) → IsPlain text
plain_from [] each = refl
plain_from (c ∷ cs) each =
    let here : 32 < c = each 0 (omega arith) in
    let test : nat_lt 32 c ≡ true = grind (arith, nat_tests) in
    rw test (plain_from cs (λ i lt. each (suc i) (omega arith)))

-- and the places of such octets
pub plain_at : (text : List ℕ) (i : ℕ) → IsPlain text → i < length text → 32 < get_or text i 0
plain_at [] i p lt = absurd (omega arith)
plain_at (c ∷ cs) zero p lt = let h = (plain_step c cs (nat_lt 32 c) refl p).0 in grind (arith, nat_tests)
plain_at (c ∷ cs) (suc i) p lt = plain_at cs i (plain_tail c cs p) (omega arith)

pub plain_more : (c : ℕ) (cs : List ℕ) → 32 < c → IsPlain cs → IsPlain (c ∷ cs)
plain_more c cs lt p = let test : nat_lt 32 c ≡ true = grind (arith, nat_tests) in rw test p
