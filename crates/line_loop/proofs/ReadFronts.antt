-- A front of octets that were read was read too, and lines have one run.
use Rattle.std.proofs.Common.{◌≡◌, ◌≢◌, ℕ, ◌≤◌, List, [], ◌∷◌, ◌++◌, length, map, inl, inr, refl, sym, ◌∙◌, ap, subst, append_assoc, arith}
use Rattle.std.specs.List.{AllByRecursion}
use Rattle.std.proofs.lemmas.List.{append-nil, map-append, length-append, length_push}
use Rattle.line_loop.specs.Lines.{most_in_line, whole_lines, open_line, last_line, without_return}
use Rattle.line_loop.specs.steps.Joined.{HasNoFeed}
use Rattle.line_loop.specs.Meaning.{Meaning, Laws}
use Rattle.line_loop.specs.Course.{Runs, IsRead}
use Rattle.line_loop.proofs.Lines.{feed_or_other, whole_feed, whole_part, open_part}
use Rattle.line_loop.proofs.Reading.{all_front, last_line-le, runs_split, one_step_of}

pub last_line-push : (line : List ℕ) (octet : ℕ) → length (last_line (line ++ octet ∷ [])) ≡ 1
last_line-push [] octet = refl
last_line-push (first ∷ line) octet = refl

module _ {M E R : Type 0} (meaning : Meaning M E R) (laws : Laws meaning) where
  pub one_run : (first : M) (lines : List (List ℕ)) (journal other : List E) (last state : M) → Runs meaning first lines journal last → Runs meaning first lines other state → (journal ≡ other) × (last ≡ state)
  one_run first [] journal other last state h k = (h.0 ∙ sym k.0, h.1 ∙ sym k.1)
  one_run first (line ∷ lines) journal other last state h k =
      let here = laws.one_step first line h.0 k.0 h.1 k.1 h.3 k.3 in
      let rest = one_run k.1 lines h.2 k.2 last state (subst (λ (m : M). Runs meaning m lines h.2 last) here.1 h.5) k.5 in
      (h.4 ∙ ap (λ (e : List E). e ++ h.2) here.0 ∙ ap (λ (e : List E). k.0 ++ e) rest.0 ∙ sym k.4, rest.1)

  pub one_read : (first : M) (read : List ℕ) (journal other : List E) (last state : M) → IsRead meaning first read journal last → IsRead meaning first read other state → (journal ≡ other) × (last ≡ state)
  one_read first read journal other last state h k = one_run first (map without_return (whole_lines read)) journal other last state h.runs k.runs

  -- what was read before one more octet
  abbrev pub AnyRead : M → List ℕ → Type 0
  AnyRead first read = (journal : List E) × (last : M) × IsRead meaning first read journal last

  -- the last of the whole lines ran from the state before it
  pub runs_front : (first : M) (read : List ℕ) (journal : List E) (last : M) → IsRead meaning first (read ++ 10 ∷ []) journal last
      → (before : List E) × (middle : M) × (events : List E) × Runs meaning first (map without_return (whole_lines read)) before middle × meaning.step middle (without_return (open_line read)) events last
  runs_front first read journal last r =
      let whole : map without_return (whole_lines (read ++ 10 ∷ [])) ≡ map without_return (whole_lines read) ++ without_return (open_line read) ∷ [] =
      ap (map without_return) (whole_feed read []) ∙ map-append without_return (whole_lines read) (open_line read ∷ []) in
      let parts = runs_split meaning first (map without_return (whole_lines read)) (without_return (open_line read) ∷ []) journal last (subst (λ (ls : List (List ℕ)). Runs meaning first ls journal last) whole r.runs) in
      (parts.0, parts.1, parts.2, parts.3, one_step_of meaning parts.1 (without_return (open_line read)) parts.2 last parts.4)

  before_feed : (first : M) (read : List ℕ) (journal : List E) (last : M) → IsRead meaning first (read ++ 10 ∷ []) journal last → AnyRead first read
  before_feed first read journal last r =
      let whole : whole_lines (read ++ 10 ∷ []) ≡ whole_lines read ++ open_line read ∷ [] = whole_feed read [] in
      let each = all_front (λ line. length line ≤ most_in_line) (whole_lines read) (open_line read) (subst (λ (ls : List (List ℕ)). AllByRecursion (λ line. length line ≤ most_in_line) ls) whole r.fits.each) in
      let parts = runs_front first read journal last r in (
        parts.0,
        parts.1,
        record {
          fits = record {
            in_all = omega (arith, r.fits.in_all, length-append read (10 ∷ []));
            lines = omega (arith, r.fits.lines, ap length whole, length_push (whole_lines read) (open_line read), last_line-le (open_line read));
            each = each.0;
            last = each.1;
          };
          runs = parts.3;
        },
      )

  before_other : (first : M) (read : List ℕ) (octet : ℕ) (journal : List E) (last : M) → octet ≢ 10 → IsRead meaning first (read ++ octet ∷ []) journal last → AnyRead first read
  before_other first read octet journal last other r =
      let none : HasNoFeed (octet ∷ []) = (other, tt) in
      let whole : whole_lines (read ++ octet ∷ []) ≡ whole_lines read = whole_part read (octet ∷ []) none in
      let line : open_line (read ++ octet ∷ []) ≡ open_line read ++ octet ∷ [] = open_part read (octet ∷ []) none in (
        journal,
        last,
        record {
          fits = record {
            in_all = omega (arith, r.fits.in_all, length-append read (octet ∷ []));
            lines = omega (arith, r.fits.lines, ap length whole, ap (λ (l : List ℕ). length (last_line l)) line, last_line-push (open_line read) octet, last_line-le (open_line read));
            each = subst (λ (ls : List (List ℕ)). AllByRecursion (λ line. length line ≤ most_in_line) ls) whole r.fits.each;
            last = omega (arith, r.fits.last, ap length line, length-append (open_line read) (octet ∷ []));
          };
          runs = subst (λ (ls : List (List ℕ)). Runs meaning first (map without_return ls) journal last) whole r.runs;
        },
      )

  before_octet : (first : M) (read : List ℕ) (octet : ℕ) → AnyRead first (read ++ octet ∷ []) → AnyRead first read
  before_octet first read octet r = elim (feed_or_other octet) [
    | inl is ↦ before_feed first read r.0 r.1 (subst (λ (o : ℕ). IsRead meaning first (read ++ o ∷ []) r.0 r.1) is r.2)
    | inr other ↦ before_other first read octet r.0 r.1 other r.2
  ]

  pub front_read : (first : M) (read more : List ℕ) → AnyRead first (read ++ more) → AnyRead first read
  front_read first read [] r = subst (λ (xs : List ℕ). AnyRead first xs) (append-nil read) r
  front_read first read (octet ∷ more) r =
      before_octet first read octet (front_read first (read ++ octet ∷ []) more (subst (λ (xs : List ℕ). AnyRead first xs) (sym (append_assoc read (octet ∷ []) more)) r))
