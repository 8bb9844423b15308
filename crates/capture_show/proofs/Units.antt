-- A unit line by line: what stands, with any lines that show what is left, shows the whole.
use Rattle.std.proofs.Common.{◌≡◌, ℕ, Bool, true, Bor, List, [], ◌∷◌, ◌++◌, length, Option, Some, None, refl, sym, ◌∙◌, ap, subst, append_assoc, inl, inr}
use Rattle.std.proofs.lemmas.List.{append-nil}
use Rattle.std.specs.Prelude.{option_map, ◌==◌}
use Rattle.tpdu.proofs.Parts.{some_left}
use Rattle.capture_show.specs.declared.ends.End.{End}
use Rattle.capture_show.specs.Shown.{ShowsUnit, lines_text}
use Rattle.capture_show.specs.steps.Units.{WritesNext, WritesTpdu, WritesFault, WritesUnit, Writing}

lines_last : (lines : List (List ℕ)) (line : List ℕ) → lines_text (lines ++ line ∷ []) ≡ lines_text lines ++ line
lines_last [] line = append-nil line
lines_last (first ∷ lines) line = ap (λ (xs : List ℕ). first ++ xs) (lines_last lines line) ∙ sym (append_assoc first (lines_text lines) line)

longer : (before out new : List ℕ) (done : List (List ℕ)) (line : List ℕ) → out ≡ before ++ lines_text done → new ≡ out ++ line
    → new ≡ before ++ lines_text (done ++ line ∷ [])
longer before out new done line e n =
    n ∙ ap (λ (xs : List ℕ). xs ++ line) e ∙ append_assoc before (lines_text done) line ∙ ap (λ (xs : List ℕ). before ++ xs) (sym (lines_last done line))

pub begin : (to from : List ℕ) (ends : List End) (all out : List ℕ) → Writing to from ends all out ends all out
begin to from ends all out = record { done = []; appended = sym (append-nil out); whole = λ lines after h. h }

goes_on_by : (to from : List ℕ) (first : List End) (all before : List ℕ) (ends : List End) (left out rest : List ℕ) (after : List End) (new : List ℕ)
    → Writing to from first all before ends left out → WritesTpdu to from ends left out rest after new → Writing to from first all before after rest new
goes_on_by to from first all before ends left out rest after new w n = record {
  done = w.done ++ n.line ∷ [];
  appended = longer before out new w.done n.line w.appended n.appended;
  whole = λ lines last h.
      subst (λ (xs : List (List ℕ)). ShowsUnit to from first all xs last) (sym (append_assoc w.done (n.line ∷ []) lines))
      (w.whole (n.line ∷ lines) last (inr (rest, after, n.shows, h)));
}

pub goes_on : (to from : List ℕ) (first : List End) (all before : List ℕ) (ends : List End) (left out : List ℕ) (found : Option (Bor (List ℕ))) (rest : Bor (List ℕ)) (after : List End) (new : List ℕ)
    → Writing to from first all before ends left out → WritesNext to from ends left out (option_map (λ r. r.now) found) after new → found ≡ Some rest
    → Writing to from first all before after rest.now new
goes_on to from first all before ends left out found rest after new w n e =
    goes_on_by to from first all before ends left out rest.now after new w
    (subst (λ (o : Option (Bor (List ℕ))). WritesNext to from ends left out (option_map (λ r. r.now) o) after new) e n)

pub ends_well : (to from : List ℕ) (first : List End) (all before : List ℕ) (ends : List End) (left out : List ℕ)
    → Writing to from first all before ends left out → left ≡ [] → WritesUnit to from first all before ends out
ends_well to from first all before ends left out w nil = record {
  lines = w.done ++ [];
  shows = w.whole [] ends (nil, refl);
  appended = w.appended ∙ ap (λ (xs : List (List ℕ)). before ++ lines_text xs) (sym (append-nil w.done));
}

fails_by : (to from : List ℕ) (first : List End) (all before : List ℕ) (ends : List End) (left out : List ℕ) (after : List End) (new : List ℕ)
    → Writing to from first all before ends left out → WritesFault to ends left out after new → WritesUnit to from first all before after new
fails_by to from first all before ends left out after new w n = record {
  lines = w.done ++ n.line ∷ [];
  shows = w.whole (n.line ∷ []) after (inl (n.shows, refl, n.same));
  appended = longer before out new w.done n.line w.appended n.appended;
}

pub fails : (to from : List ℕ) (first : List End) (all before : List ℕ) (ends : List End) (left out : List ℕ) (found : Option (Bor (List ℕ))) (after : List End) (new : List ℕ)
    → Writing to from first all before ends left out → WritesNext to from ends left out (option_map (λ r. r.now) found) after new → found ≡ None
    → WritesUnit to from first all before after new
fails to from first all before ends left out found after new w n e =
    fails_by to from first all before ends left out after new w
    (subst (λ (o : Option (Bor (List ℕ))). WritesNext to from ends left out (option_map (λ r. r.now) o) after new) e n)

pub nothing_left : (octets : List ℕ) (b : Bool) → b ≡ (length octets == 0) → b ≡ true → octets ≡ []
nothing_left [] b e t = refl
nothing_left (octet ∷ octets) b e t = absurd (let h = sym t ∙ e ∙ some_left octet octets in cc)
