-- The three words of a generated script, as a slice has them.
use Rattle.std.proofs.Common.{◌≡◌, ℕ, ◌<◌, ◌≤◌, true, List, [], ◌∷◌, length, map, Option, None, Some, sym, ◌∙◌, ap, arith}
use Rattle.std.specs.Prelude.{IfSome, codes, get_or}
use Rattle.std.specs.Str.{bytes_eq}
use Rattle.std.proofs.lemmas.Slice.Eq.{bytes_eq-Decides}
use Rattle.script_storm.specs.Request.{Asks}
use Rattle.script_storm.specs.declared.request.Storm.{Storm}
use Rattle.osi_commands.specs.Commands.{IsStorm}

three : {A : Type 0} (f : A → List ℕ) (words : List A) (a b d : A) → 3 ≤ length words → length words < 4 → a ≡ get_or words 0 a → b ≡ get_or words 1 b → d ≡ get_or words 2 d
    → map f words ≡ f a ∷ f b ∷ f d ∷ []
three f (x ∷ y ∷ z ∷ []) a b d least most p q r = λ i. f (sym p i) ∷ f (sym q i) ∷ f (sym r i) ∷ []
three f [] a b d least most p q r = absurd (omega arith)
three f (x ∷ []) a b d least most p q r = absurd (omega arith)
three f (x ∷ y ∷ []) a b d least most p q r = absurd (omega arith)
three f (x ∷ y ∷ z ∷ w ∷ words) a b d least most p q r = absurd (omega arith)

pub storm_words : {A : Type 0} (f : A → List ℕ) (words : List A) (a b d : A) (word seed count : List ℕ) (read : Option Storm) → 3 ≤ length words → length words < 4
    → a ≡ get_or words 0 a → b ≡ get_or words 1 b → d ≡ get_or words 2 d → word ≡ f a → bytes_eq word (codes "storm") ≡ true → seed ≡ f b → count ≡ f d
    → IfSome read (λ storm. Asks seed count storm) → IfSome read (λ storm. IsStorm (map f words) storm)
storm_words f words a b d word seed count None least most p q r word-is is seed-is count-is asks = tt
storm_words f words a b d word seed count (Some storm) least most p q r word-is is seed-is count-is asks =
    let named : f a ≡ codes "storm" = sym word-is ∙ (bytes_eq-Decides word (codes "storm")).0 is in
    record {
      seed = seed;
      count = count;
      words_are = three f words a b d least most p q r ∙ ap (λ (w : List ℕ). w ∷ f b ∷ f d ∷ []) named ∙ (λ i. codes "storm" ∷ sym seed-is i ∷ sym count-is i ∷ []);
      asks = asks;
    }
