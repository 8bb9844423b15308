-- Places that have a piece, and facts about a test.
use Rattle.std.proofs.Common.{◌≡◌, ℕ, zero, suc, ◌+◌, ◌-◌, ◌<◌, ◌⊎◌, inl, inr, Bool, true, false, nat_le, ◌||◌, ◌==◌, List, [], ◌∷◌, ◌++◌, length, get_or, set, drop, replicate, if◌then◌else◌, refl, sym, ◌∙◌, ap, arith, Option, Some, None}
use Rattle.std.specs.Prelude.{is_some}
use Rattle.std.proofs.Math.ListN.{get_or-append}
use Rattle.std.proofs.lemmas.List.{get_or-append_right, get_or-drop, get_or-set_other}
use Rattle.std.proofs.lemmas.Bool.{cases_lt, cases_eq, eqb-true}
use Rattle.std.proofs.lemmas.Bool.Decides.{nat_tests}
use Rattle.tp4_number.specs.declared.piece.Piece.{Piece}
use Rattle.tp4_number.specs.declared.got.Got.TheVariants.{Kept, Old, Outside}
use Rattle.tp4_number.specs.Window.{Held, joined, joined_by, begun_by, is_larger, is_held, slid}
use Rattle.tp4_number.specs.Receiver.{Inbox, judged, in_order}

pub if_kept : {A : Type 0} (P : A → Type 0) (b : Bool) (x y : A) → (b ≡ true → P x) → (b ≡ false → P y) → P (if b then x else y)
if_kept P true x y t f = t refl
if_kept P false x y t f = f refl

pub if_both : {A B : Type 0} (P : A → B → Type 0) (b : Bool) (x y : A) (u v : B) → (b ≡ true → P x u) → (b ≡ false → P y v) → P (if b then x else y) (if b then u else v)
if_both P true x y u v t f = t refl
if_both P false x y u v t f = f refl

-- the place has a piece
abbrev pub there : List (Option Piece) → ℕ → Bool
there places d = is_some (get_or places d None)

pub blank : (k i : ℕ) → there (replicate k None) i ≡ false
blank zero i = refl
blank (suc k) zero = refl
blank (suc k) (suc i) = blank k i

pub slid_there : (places : List (Option Piece)) (k j : ℕ) → there (slid places k) j ≡ true → there places (k + j) ≡ true
slid_there places k j h = elim (cases_lt j (length (drop k places))) [
  | inl within ↦ ap is_some (sym (get_or-append (drop k places) (replicate k None) None j within ∙ get_or-drop k places j None)) ∙ h
  | inr out ↦ absurd (cc (ap is_some (get_or-append_right (drop k places) (replicate k None) (length (drop k places)) j None refl out), blank k (j - length (drop k places))))
]

pub set_there : (places : List (Option Piece)) (d j : ℕ) (piece : Piece) → there (set places d (Some piece)) j ≡ true → (j ≡ d) ⊎ (there places j ≡ true)
set_there places d j piece h = elim (cases_eq j d) [ inl same ↦ inl same | inr other ↦ inr (ap is_some (sym (get_or-set_other places d j (Some piece) None other)) ∙ h) ]

-- each piece that was joined was there
pub joined_there : (begun : List ℕ) (places : List (Option Piece)) (k : ℕ) → k < (joined begun places).count → there places k ≡ true
joined_there begun [] k h = absurd (omega arith)
joined_there begun (None ∷ places) k h = absurd (omega arith)
joined_there begun (Some piece ∷ places) zero h = refl
joined_there begun (Some piece ∷ places) (suc k) h = by (is_larger begun piece) (joined_there (begun_by piece (begun ++ piece.octets)) places k) h
  where
    by : (b : Bool) → (k < (joined (begun_by piece (begun ++ piece.octets)) places).count → there places k ≡ true) → suc k < (if b then record { count = 0; units = []; begun = begun; is_large = true } else joined_by piece (begun ++ piece.octets) (joined (begun_by piece (begun ++ piece.octets)) places)).count → there places k ≡ true
    by true rest l = absurd (omega (arith, l))
    by false rest l = rest (omega (arith, l))

-- what comes in order begins with the number expected
pub in_order_first : (held : Held) (d : ℕ) → 0 < (in_order held d).count → d ≡ 0
in_order_first held d h = by (d == 0) refl h
  where
    by : (b : Bool) → (d == 0) ≡ b → 0 < (if b then joined held.begun held.places else record { count = 0; units = []; begun = held.begun; is_large = false }).count → d ≡ 0
    by true e l = eqb-true _ _ e
    by false e l = absurd (omega (arith, l))

pub in_order_there : (held : Held) (d k : ℕ) → k < (in_order held d).count → there held.places k ≡ true
in_order_there held d k h = by (d == 0) h
  where
    by : (b : Bool) → k < (if b then joined held.begun held.places else record { count = 0; units = []; begun = held.begun; is_large = false }).count → there held.places k ≡ true
    by true l = joined_there held.begun held.places k l
    by false l = absurd (omega (arith, l))

-- what is kept lies within the credit
pub kept_low : (block : ℕ) (inbox : Inbox) (d : ℕ) → judged block inbox d ≡ Kept → d < inbox.credit
kept_low block inbox d e = by (is_held inbox.held d || nat_le block d) (nat_le inbox.credit d) refl e
  where
    by : (a b : Bool) → nat_le inbox.credit d ≡ b → (if a then Old else if b then Outside else Kept) ≡ Kept → d < inbox.credit
    by true b f h = cc
    by false true f h = cc
    by false false f h = grind (arith, nat_tests)
