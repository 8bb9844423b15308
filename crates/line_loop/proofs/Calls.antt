-- How a feed goes on by what the calls of the code ensure: the views of the code's values are those of `Feeding`.
use Rattle.std.proofs.lemmas.Bool.Decides.{nat_tests}
use Rattle.std.specs.Prelude.{Result, Ok, Err, OnOk}
use Rattle.std.proofs.Common.{◌≡◌, ◌≢◌, ◌==◌, true, false, ℕ, ◌+◌, ◌<◌, ◌≤◌, List, [], ◌∷◌, ◌++◌, length, inr, refl, sym, ◌∙◌, ap, subst, append_assoc, arith}
use Rattle.std.proofs.lemmas.List.{length-append}
use Rattle.line_loop.specs.Limits.{most_octets}
use Rattle.line_loop.specs.Lines.{most_lines, most_in_line, without_return}
use Rattle.line_loop.specs.Meaning.{Meaning, Laws, HasRun, HasRefused, HasFilled}
use Rattle.line_loop.specs.Course.{IsWhole, IsTooMuch, IsRefusedAt}
use Rattle.line_loop.specs.steps.Feeding.{Held, Feeds, Stops, StopsAtLine, EndsAtLine, EndsFull}
use Rattle.line_loop.specs.steps.Joined.{HasNoFeed}
use Rattle.line_loop.proofs.Feeding.{feeds_none, feeds_on, feeds_stop, feeds_part, feeds_line, refused_stays, too_much_stays, stops_line, stops_filled, stops_long, stops_full, ends_empty, ends_line, ends_refused, ends_filled}

pub on_ok : {T E : Type 0} {P Q : Type 0} (result : Result T E) → (P → Q) → OnOk result P → OnOk result Q
on_ok (Ok value) f h = f h
on_ok (Err error) f h = h

module _ {M E R : Type 0} (meaning : Meaning M E R) where
  -- the same, by what the calls of the code ensure
  pub none_held : (part : List ℕ) (old : Held M) (out : List ℕ) → true ≡ (length part == 0) → Feeds meaning part old out old out
  none_held [] old out none = feeds_none meaning old out
  none_held (octet ∷ part) old out none = absurd (grind (arith, nat_tests, none))

  pub part_held : (part : List ℕ) (old inner : Held M) (line : List ℕ) (out : List ℕ) → inner ≡ old → line ≡ inner.line ++ part → HasNoFeed part
      → (old.lines < most_lines) × (length old.line + length part ≤ most_in_line) → old.octets + length part ≤ most_octets
      → Feeds meaning part old out (record inner { line = line; octets = inner.octets + length part }) out
  part_held part old inner line out same longer none room octets =
      subst (λ (line : List ℕ). Feeds meaning part old out (record inner { line = line; octets = inner.octets + length part }) out) (sym longer)
      (subst (λ (h : Held M). Feeds meaning part old out (record h { line = h.line ++ part; octets = h.octets + length part }) out) (sym same) (feeds_part meaning part old out none room.0 room.1 octets))

  pub part_full : (part : List ℕ) (old : Held M) (out : List ℕ) → false ≡ (length part == 0) → old.lines ≡ most_lines → Stops meaning (IsTooMuch meaning) part old out old.machine out
  part_full [] old out some full = absurd (cc)
  part_full (octet ∷ part) old out some full = stops_full meaning octet part old out (inr full)

  pub end_full : (part : List ℕ) (old : Held M) (out : List ℕ) → old.lines ≡ most_lines → Stops meaning (IsTooMuch meaning) (part ++ 10 ∷ []) old out old.machine out
  end_full [] old out full = stops_full meaning 10 [] old out (inr full)
  end_full (octet ∷ part) old out full = stops_full meaning octet (part ++ 10 ∷ []) old out (inr full)

  pub end_long : (number : ℕ) (said : R) (part : List ℕ) (old : Held M) (out : List ℕ) → number ≡ old.lines + 1 → HasNoFeed part
      → (old.lines < most_lines) × (most_in_line < length old.line + length part) × (said ≡ meaning.too_long old.machine) → old.octets + length part < most_octets
      → StopsAtLine meaning number said (part ++ 10 ∷ []) old out old.machine out
  end_long number said part old out is none past octets =
      refused_stays meaning number said part (10 ∷ []) old out old.machine out (stops_long meaning number said part old out is none past.0 past.1 past.2 (omega arith))

  pub end_refused : (number : ℕ) (said : R) (part : List ℕ) (old inner : Held M) (out : List ℕ) (last : M) (after : List ℕ) → inner ≡ old → number ≡ inner.lines + 1 → HasNoFeed part
      → (old.lines < most_lines) × (length old.line + length part ≤ most_in_line) → old.octets + length part < most_octets
      → HasRefused meaning inner.machine (without_return (inner.line ++ part)) said out last after
      → StopsAtLine meaning number said (part ++ 10 ∷ []) old out last after
  end_refused number said part old inner out last after same is none room octets h =
      subst (λ (m : M). StopsAtLine meaning number said (part ++ 10 ∷ []) old out m after) (sym (h.same ∙ ap (λ (x : Held M). x.machine) same))
      (subst (λ (t : List ℕ). StopsAtLine meaning number said (part ++ 10 ∷ []) old out old.machine t) (sym h.kept)
      (stops_line meaning number said part old out (is ∙ ap (λ (x : Held M). x.lines + 1) same) none room.0 room.1 octets
      (subst (λ (x : Held M). meaning.refuses x.machine (without_return (x.line ++ part)) said) same h.refuses)))

  pub end_filled : Laws meaning → (part : List ℕ) (old inner : Held M) (out : List ℕ) (last : M) (after : List ℕ) → inner ≡ old → HasNoFeed part
      → (old.lines < most_lines) × (length old.line + length part ≤ most_in_line) → old.octets + length part < most_octets
      → HasFilled meaning inner.machine (without_return (inner.line ++ part)) out last after
      → Stops meaning (IsTooMuch meaning) (part ++ 10 ∷ []) old out last after
  end_filled laws part old inner out last after same none room octets h =
      stops_filled meaning laws part old out last after none room.0 room.1 octets
      (subst (λ (x : Held M). HasFilled meaning x.machine (without_return (x.line ++ part)) out last after) same h)

  pub line_ended : Laws meaning → (part : List ℕ) (old inner : Held M) (before : List ℕ) (new : M) (line after : List ℕ) → inner ≡ old → line ≡ [] → HasNoFeed part
      → (old.lines < most_lines) × (length old.line + length part ≤ most_in_line) → old.octets + length part < most_octets
      → HasRun meaning inner.machine (without_return (inner.line ++ part)) before new after
      → Feeds meaning (part ++ 10 ∷ []) old before (record { machine = new; line = line; lines = inner.lines + 1; octets = inner.octets + (length part + 1) }) after
  line_ended laws part old inner before new line after same none_left none room octets r =
      subst (λ (line : List ℕ). Feeds meaning (part ++ 10 ∷ []) old before (record { machine = new; line = line; lines = inner.lines + 1; octets = inner.octets + (length part + 1) }) after) (sym none_left)
      (subst (λ (h : Held M). Feeds meaning (part ++ 10 ∷ []) old before (record { machine = new; line = []; lines = h.lines + 1; octets = h.octets + (length part + 1) }) after) (sym same)
      (subst (λ (n : ℕ). Feeds meaning (part ++ 10 ∷ []) old before (record { machine = new; line = []; lines = old.lines + 1; octets = n }) after) (omega arith)
      (feeds_line meaning laws part old before new after none room.0 room.1 octets (subst (λ (h : Held M). HasRun meaning h.machine (without_return (h.line ++ part)) before new after) same r))))

  pub lines_counted : Laws meaning → (old inner : Held M) (part before : List ℕ) (new : M) (after : List ℕ) → inner ≡ old → meaning.lines old.machine ≡ old.lines
      → HasRun meaning inner.machine (without_return (inner.line ++ part)) before new after → meaning.lines new ≡ inner.lines + 1
  lines_counted laws old inner part before new after same counted r =
      laws.counted inner.machine (without_return (inner.line ++ part)) r.events new r.steps ∙ ap (λ (h : Held M). meaning.lines h.machine + 1) same ∙ ap (λ (n : ℕ). n + 1) counted ∙ ap (λ (h : Held M). h.lines + 1) (sym same)

  no_line : (line shown : List ℕ) → shown ≡ line → true ≡ (length shown == 0) → line ≡ []
  no_line [] shown same none = refl
  no_line (octet ∷ line) shown same none = absurd (grind (arith, nat_tests, none, ap length same))

  some_line : (line shown : List ℕ) → shown ≡ line → false ≡ (length shown == 0) → line ≢ []
  some_line line shown same some none = absurd (grind (arith, nat_tests, some, ap length same, ap length none))

  pub finish_empty : (old inner : Held M) (shown out : List ℕ) → inner ≡ old → shown ≡ inner.line → true ≡ (length shown == 0) → Stops meaning (IsWhole meaning) [] old out old.machine out
  finish_empty old inner shown out same is none = ends_empty meaning old out (ap (λ (h : Held M). h.line) (sym same) ∙ no_line inner.line shown is none)

  pub finish_line : Laws meaning → (old inner : Held M) (shown line before : List ℕ) (new : M) (after : List ℕ) → inner ≡ old → shown ≡ inner.line → false ≡ (length shown == 0) → line ≡ inner.line
      → HasRun meaning inner.machine line before new after → Stops meaning (IsWhole meaning) [] old before new after
  finish_line laws old inner shown line before new after same is some whole r =
      ends_line meaning laws old before after r.events new (λ e. some_line inner.line shown is some (ap (λ (h : Held M). h.line) same ∙ e))
      (subst (λ (h : Held M). meaning.step h.machine h.line r.events new) same (subst (λ (l : List ℕ). meaning.step inner.machine l r.events new) whole r.steps)) r.told

  pub finish_refused : (number : ℕ) (said : R) (old inner : Held M) (shown line out : List ℕ) (last : M) (after : List ℕ) → inner ≡ old → number ≡ inner.lines + 1
      → shown ≡ inner.line → false ≡ (length shown == 0) → line ≡ inner.line
      → HasRefused meaning inner.machine line said out last after → EndsAtLine meaning number said old out last after
  finish_refused number said old inner shown line out last after same is here some whole h =
      subst (λ (m : M). EndsAtLine meaning number said old out m after) (sym (h.same ∙ ap (λ (x : Held M). x.machine) same))
      (subst (λ (t : List ℕ). EndsAtLine meaning number said old out old.machine t) (sym h.kept)
      (ends_refused meaning number said old out (is ∙ ap (λ (x : Held M). x.lines + 1) same) (λ e. some_line inner.line shown here some (ap (λ (x : Held M). x.line) same ∙ e))
      (subst (λ (x : Held M). meaning.refuses x.machine x.line said) same (subst (λ (l : List ℕ). meaning.refuses inner.machine l said) whole h.refuses))))

  pub finish_filled : Laws meaning → (old inner : Held M) (shown line before : List ℕ) (last : M) (after : List ℕ) → inner ≡ old
      → shown ≡ inner.line → false ≡ (length shown == 0) → line ≡ inner.line
      → HasFilled meaning inner.machine line before last after → EndsFull meaning old before last after
  finish_filled laws old inner shown line before last after same here some whole h =
      ends_filled meaning laws old before after last (λ e. some_line inner.line shown here some (ap (λ (x : Held M). x.line) same ∙ e))
      (subst (λ (x : Held M). HasFilled meaning x.machine x.line before last after) same (subst (λ (l : List ℕ). HasFilled meaning inner.machine l before last after) whole h))

  -- of these octets the rest is still to be fed
  pub record Within (octets rest : List ℕ) (old : Held M) (before : List ℕ) (new : Held M) (after : List ℕ) : Type 0 where
    pub done : List ℕ
    pub parts : octets ≡ done ++ rest
    pub feeds : Feeds meaning done old before new after

  pub within_start : (octets : List ℕ) (old : Held M) (out : List ℕ) → Within octets octets old out old out
  within_start octets old out = record { done = []; parts = refl; feeds = feeds_none meaning old out }

  pub within_line : (octets rest part left : List ℕ) (old : Held M) (before : List ℕ) (mid : Held M) (between : List ℕ) (new : Held M) (after : List ℕ) → Within octets rest old before mid between
      → rest ≡ part ++ 10 ∷ left → Feeds meaning (part ++ 10 ∷ []) mid between new after → Within octets left old before new after
  within_line octets rest part left old before mid between new after w parts f = record {
    done = w.done ++ (part ++ 10 ∷ []);
    parts = w.parts ∙ ap (λ (xs : List ℕ). w.done ++ xs) (parts ∙ sym (append_assoc part (10 ∷ []) left)) ∙ sym (append_assoc w.done (part ++ 10 ∷ []) left);
    feeds = feeds_on meaning w.done (part ++ 10 ∷ []) old before mid between new after w.feeds f;
  }

  pub within_end : (octets rest : List ℕ) (old : Held M) (before : List ℕ) (mid : Held M) (between : List ℕ) (new : Held M) (after : List ℕ) → Within octets rest old before mid between
      → Feeds meaning rest mid between new after → Feeds meaning octets old before new after
  within_end octets rest old before mid between new after w f =
      subst (λ (xs : List ℕ). Feeds meaning xs old before new after) (sym w.parts) (feeds_on meaning w.done rest old before mid between new after w.feeds f)

  within_stop : (S : M → List ℕ → List E → M → Type 0) (octets rest : List ℕ) (old : Held M) (before : List ℕ) (mid : Held M) (between : List ℕ) (last : M) (after : List ℕ) → Within octets rest old before mid between
      → Stops meaning S rest mid between last after → Stops meaning S octets old before last after
  within_stop S octets rest old before mid between last after w h =
      subst (λ (xs : List ℕ). Stops meaning S xs old before last after) (sym w.parts) (feeds_stop meaning S w.done rest old before mid between last after w.feeds h)

  pub within_refused : (number : ℕ) (said : R) (octets rest : List ℕ) (old : Held M) (before : List ℕ) (mid : Held M) (between : List ℕ) (last : M) (after : List ℕ) → Within octets rest old before mid between
      → StopsAtLine meaning number said rest mid between last after → StopsAtLine meaning number said octets old before last after
  within_refused number said octets rest old before mid between last after w h =
      within_stop (λ first read journal last. IsRefusedAt meaning first read number said journal last) octets rest old before mid between last after w h

  pub within_too_much : (octets rest : List ℕ) (old : Held M) (before : List ℕ) (mid : Held M) (between : List ℕ) (last : M) (after : List ℕ) → Within octets rest old before mid between
      → Stops meaning (IsTooMuch meaning) rest mid between last after → Stops meaning (IsTooMuch meaning) octets old before last after
  within_too_much octets rest old before mid between last after w h = within_stop (IsTooMuch meaning) octets rest old before mid between last after w h

  -- the line that ends in these octets stops the run
  pub line_refused : (number : ℕ) (said : R) (octets rest part left : List ℕ) (old : Held M) (before : List ℕ) (mid : Held M) (between : List ℕ) (last : M) (after : List ℕ)
      → Within octets rest old before mid between → rest ≡ part ++ 10 ∷ left
      → StopsAtLine meaning number said (part ++ 10 ∷ []) mid between last after → StopsAtLine meaning number said octets old before last after
  line_refused number said octets rest part left old before mid between last after w parts h =
      within_refused number said octets rest old before mid between last after w
      (subst (λ (xs : List ℕ). StopsAtLine meaning number said xs mid between last after) (append_assoc part (10 ∷ []) left ∙ sym parts)
      (refused_stays meaning number said (part ++ 10 ∷ []) left mid between last after h))

  pub line_too_much : (octets rest part left : List ℕ) (old : Held M) (before : List ℕ) (mid : Held M) (between : List ℕ) (last : M) (after : List ℕ)
      → Within octets rest old before mid between → rest ≡ part ++ 10 ∷ left
      → Stops meaning (IsTooMuch meaning) (part ++ 10 ∷ []) mid between last after → Stops meaning (IsTooMuch meaning) octets old before last after
  line_too_much octets rest part left old before mid between last after w parts h =
      within_too_much octets rest old before mid between last after w
      (subst (λ (xs : List ℕ). Stops meaning (IsTooMuch meaning) xs mid between last after) (append_assoc part (10 ∷ []) left ∙ sym parts)
      (too_much_stays meaning (part ++ 10 ∷ []) left mid between last after h))

pub count_left : (rest part left : List ℕ) (before now all : ℕ) → rest ≡ part ++ 10 ∷ left → now ≡ before + length part + 1 → before + length rest ≡ all → now + length left ≡ all
count_left rest part left before now all parts count sum = omega (arith, ap length parts, length-append part (10 ∷ left))
