-- How the whole lines and the open line go on with more octets: a line feed ends the open line, and octets without
-- one lengthen it. By induction over the octets before.
use Rattle.std.proofs.Common.{◌≡◌, ◌≢◌, ◌⊎◌, ℕ, Bool, List, [], ◌∷◌, ◌++◌, inl, inr, refl, sym, ◌∙◌, ap, subst, if◌then◌else◌}
use Rattle.std.proofs.lemmas.Bool.{ne_eqb}
use Rattle.std.proofs.lemmas.Bool.Decides.{eqb_tells}
use Rattle.line_loop.specs.Lines.{whole_lines, open_line, joins_first, joins_open}
use Rattle.line_loop.specs.steps.Joined.{HasNoFeed}

pub feed_or_other : (octet : ℕ) → (octet ≡ 10) ⊎ (octet ≢ 10)
feed_or_other octet = elim (eqb_tells octet 10) [ inl is ↦ inl is.1 | inr other ↦ inr other.1 ]

whole_other : (octet : ℕ) (octets : List ℕ) → octet ≢ 10 → whole_lines (octet ∷ octets) ≡ joins_first octet (whole_lines octets)
whole_other octet octets other = ap (λ (b : Bool). if b then [] ∷ whole_lines octets else joins_first octet (whole_lines octets)) (ne_eqb octet 10 other)

open_other : (octet : ℕ) (octets : List ℕ) → octet ≢ 10 → open_line (octet ∷ octets) ≡ joins_open octet (whole_lines octets) (open_line octets)
open_other octet octets other = ap (λ (b : Bool). if b then open_line octets else joins_open octet (whole_lines octets) (open_line octets)) (ne_eqb octet 10 other)

joins_append : (octet : ℕ) (lines more : List (List ℕ)) (line : List ℕ) → joins_first octet (lines ++ line ∷ more) ≡ joins_first octet lines ++ joins_open octet lines line ∷ more
joins_append octet [] more line = refl
joins_append octet (first ∷ lines) more line = refl

joins_past : (octet : ℕ) (lines more : List (List ℕ)) (line rest : List ℕ) → joins_open octet (lines ++ line ∷ more) rest ≡ rest
joins_past octet [] more line rest = refl
joins_past octet (first ∷ lines) more line rest = refl

joins_longer : (octet : ℕ) (lines : List (List ℕ)) (rest part : List ℕ) → joins_open octet lines (rest ++ part) ≡ joins_open octet lines rest ++ part
joins_longer octet [] rest part = refl
joins_longer octet (first ∷ lines) rest part = refl

-- a line feed ends the open line
pub whole_feed : (read more : List ℕ) → whole_lines (read ++ 10 ∷ more) ≡ whole_lines read ++ open_line read ∷ whole_lines more
whole_feed [] more = refl
whole_feed (octet ∷ read) more = elim (feed_or_other octet) [
  | inl is ↦ subst (λ (o : ℕ). whole_lines (o ∷ (read ++ 10 ∷ more)) ≡ whole_lines (o ∷ read) ++ open_line (o ∷ read) ∷ whole_lines more) (sym is)
      (ap (λ (lines : List (List ℕ)). [] ∷ lines) (whole_feed read more))
  | inr other ↦
      let all : whole_lines (octet ∷ (read ++ 10 ∷ more)) ≡ joins_first octet (whole_lines read ++ open_line read ∷ whole_lines more) =
      whole_other octet (read ++ 10 ∷ more) other ∙ ap (joins_first octet) (whole_feed read more) in
      let both : whole_lines (octet ∷ read) ++ open_line (octet ∷ read) ∷ whole_lines more ≡ joins_first octet (whole_lines read) ++ joins_open octet (whole_lines read) (open_line read) ∷ whole_lines more =
      ap (λ (lines : List (List ℕ)). lines ++ open_line (octet ∷ read) ∷ whole_lines more) (whole_other octet read other)
      ∙ ap (λ (line : List ℕ). joins_first octet (whole_lines read) ++ line ∷ whole_lines more) (open_other octet read other) in
      all ∙ joins_append octet (whole_lines read) (whole_lines more) (open_line read) ∙ sym both
]

pub open_feed : (read more : List ℕ) → open_line (read ++ 10 ∷ more) ≡ open_line more
open_feed [] more = refl
open_feed (octet ∷ read) more = elim (feed_or_other octet) [
  | inl is ↦ subst (λ (o : ℕ). open_line (o ∷ (read ++ 10 ∷ more)) ≡ open_line more) (sym is) (open_feed read more)
  | inr other ↦ open_other octet (read ++ 10 ∷ more) other
      ∙ ap (λ (lines : List (List ℕ)). joins_open octet lines (open_line (read ++ 10 ∷ more))) (whole_feed read more)
      ∙ joins_past octet (whole_lines read) (whole_lines more) (open_line read) (open_line (read ++ 10 ∷ more))
      ∙ open_feed read more
]

-- octets without a line feed
pub whole_none : (part : List ℕ) → HasNoFeed part → whole_lines part ≡ []
whole_none [] none = refl
whole_none (octet ∷ part) none = whole_other octet part none.0 ∙ ap (joins_first octet) (whole_none part none.1)

pub open_none : (part : List ℕ) → HasNoFeed part → open_line part ≡ part
open_none [] none = refl
open_none (octet ∷ part) none = open_other octet part none.0
    ∙ ap (λ (lines : List (List ℕ)). joins_open octet lines (open_line part)) (whole_none part none.1)
    ∙ ap (λ (line : List ℕ). octet ∷ line) (open_none part none.1)

pub whole_part : (read part : List ℕ) → HasNoFeed part → whole_lines (read ++ part) ≡ whole_lines read
whole_part [] part none = whole_none part none
whole_part (octet ∷ read) part none = elim (feed_or_other octet) [
  | inl is ↦ subst (λ (o : ℕ). whole_lines (o ∷ (read ++ part)) ≡ whole_lines (o ∷ read)) (sym is)
      (ap (λ (lines : List (List ℕ)). [] ∷ lines) (whole_part read part none))
  | inr other ↦ whole_other octet (read ++ part) other ∙ ap (joins_first octet) (whole_part read part none) ∙ sym (whole_other octet read other)
]

pub open_part : (read part : List ℕ) → HasNoFeed part → open_line (read ++ part) ≡ open_line read ++ part
open_part [] part none = open_none part none
open_part (octet ∷ read) part none = elim (feed_or_other octet) [
  | inl is ↦ subst (λ (o : ℕ). open_line (o ∷ (read ++ part)) ≡ open_line (o ∷ read) ++ part) (sym is) (open_part read part none)
  | inr other ↦ open_other octet (read ++ part) other
      ∙ ap (λ (lines : List (List ℕ)). joins_open octet lines (open_line (read ++ part))) (whole_part read part none)
      ∙ ap (joins_open octet (whole_lines read)) (open_part read part none)
      ∙ joins_longer octet (whole_lines read) (open_line read) part
      ∙ ap (λ (line : List ℕ). line ++ part) (sym (open_other octet read other))
]
