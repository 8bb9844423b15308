-- Five parts that are added one after another are the whole that is added.
use Rattle.std.proofs.Common.{◌≡◌, ℕ, List, ◌++◌, ◌∙◌, ap, append_assoc}

pub appended : (was a b c d e one two three four new : List ℕ) → one ≡ was ++ a → two ≡ one ++ b → three ≡ two ++ c → four ≡ three ++ d → new ≡ four ++ e
    → new ≡ was ++ (a ++ (b ++ (c ++ (d ++ e))))
appended was a b c d e one two three four new p q r s t =
    t ∙ ap (λ (l : List ℕ). l ++ e) (s ∙ ap (λ (l : List ℕ). l ++ d) (r ∙ ap (λ (l : List ℕ). l ++ c) (q ∙ ap (λ (l : List ℕ). l ++ b) p)))
    ∙ append_assoc (((was ++ a) ++ b) ++ c) d e
    ∙ append_assoc ((was ++ a) ++ b) c (d ++ e)
    ∙ append_assoc (was ++ a) b (c ++ (d ++ e))
    ∙ append_assoc was a (b ++ (c ++ (d ++ e)))
