-- A text of events tells them: its lines tell their texts, the texts tell what kinds of cells there are, each text its cell,
-- and the cells their event.
use Rattle.std.proofs.Common.{◌≡◌, ℕ, suc, ◌/◌, ◌%◌, ◌<◌, ◌^◌, true, List, [], ◌∷◌, ◌++◌, map, refl, sym, ◌∙◌, ap, Some, arith, append_assoc}
use Rattle.std.specs.Prelude.{slice_index}
use Rattle.std.specs.Fmt.{decimal}
use Rattle.std.specs.List.{list_all}
use Rattle.std.specs.Str.Parse.{AllDigits}
use Rattle.std.proofs.lemmas.Bool.Decides.{nat_tests}
use Rattle.std.proofs.lemmas.Fmt.{digits_decimal, decimal_injective}
use Rattle.std.proofs.lemmas.Str.Parse.{numerals_by_value, tells_digits, digit_at}
use Rattle.hex.specs.Hex.{IsBytes, encode_lower, encode_with, lower_digits, decode_of}
use Rattle.hex.proofs.HexLemmas.{decode_of-encode_lower}
use Rattle.script_lines.specs.Field.{is_name, is_lower_letter, is_letter_or_digit}
use Rattle.script_lines.specs.Tags.{Tags, AreNames}
use Rattle.script_lines.proofs.Places.{both}
use Rattle.script_journal.specs.declared.event.Event.{Event}
use Rattle.script_journal.specs.Told.{cells_of, texts_of, journal_text}
use Rattle.script_journal.specs.Cells.{Cell, Word, Number, Preferred, System, Lan, Digits, Octets, cell_text, octets_text, line}
use Rattle.script_journal.specs.Injective.{IsTold, AreTold, EachTold}
use Rattle.script_journal.proofs.Cutting.{IsPlain, ArePlain, plain_from, plain_at, plain_more, line_same}
use Rattle.script_journal.proofs.CellKinds.{kind, shape_of, shaped}
use Rattle.script_journal.proofs.ToldBack.{event_of, told_back, nothing_made}

-- ---- texts

decimal_plain : (n : ℕ) → n < 2 ^ 64 → IsPlain (decimal n)
decimal_plain n fits =
    let digits = digits_decimal (numerals_by_value (AllDigits 10) tells_digits) n fits in
    plain_from (decimal n) (λ i lt. let range = digit_at (decimal n) i digits lt in omega (arith, range.0))

lower_above : (c : ℕ) → is_lower_letter c ≡ true → 32 < c
lower_above c is = grind (arith, nat_tests)

letter_above : (c : ℕ) → is_letter_or_digit c ≡ true → 32 < c
letter_above c is = grind (arith, nat_tests)

letters_plain : (cs : List ℕ) → list_all is_letter_or_digit cs ≡ true → IsPlain cs
letters_plain [] all = refl
letters_plain (c ∷ cs) all = let parts = both (is_letter_or_digit c) (list_all is_letter_or_digit cs) all in plain_more c cs (letter_above c parts.0) (letters_plain cs parts.1)

name_plain : (name : List ℕ) → is_name name ≡ true → IsPlain name
unfolding is_name
name_plain [] named = absurd (cc)
name_plain (first ∷ others) named =
    let a = (both _ _ named).0 in
    let b = (both _ _ a).0 in
    let c = both _ _ b in
    plain_more first others (lower_above first c.0) (letters_plain others c.1)

digits_plain : (octets : List ℕ) → IsBytes octets → IsPlain (encode_lower octets)
unfolding encode_with
digits_plain [] bytes = refl
digits_plain (octet ∷ octets) bytes =
    let byte : octet < 256 = bytes 0 in
    plain_more _ (slice_index lower_digits (octet % 16) ∷ encode_lower octets) (plain_at lower_digits (octet / 16) refl (omega arith)) (plain_more _ (encode_lower octets) (plain_at lower_digits (octet % 16) refl (omega arith)) (digits_plain octets (λ i. bytes (suc i))))

octets_plain : (octets : List ℕ) → IsBytes octets → IsPlain (octets_text octets)
octets_plain [] bytes = refl
octets_plain (octet ∷ octets) bytes = digits_plain (octet ∷ octets) bytes

-- ---- cells

digits_same : (a b : List ℕ) → IsBytes a → IsBytes b → encode_lower a ≡ encode_lower b → a ≡ b
digits_same a b ba bb is =
    let h : decode_of (encode_lower a) ≡ decode_of (encode_lower b) = ap decode_of is in
    let k = decode_of-encode_lower a ba in
    let m = decode_of-encode_lower b bb in
    cc

octets_same : (a b : List ℕ) → IsBytes a → IsBytes b → octets_text a ≡ octets_text b → a ≡ b
unfolding encode_with
octets_same [] [] ba bb is = refl
octets_same [] (b ∷ bs) ba bb is = absurd (cc)
octets_same (a ∷ as_) [] ba bb is = absurd (cc)
octets_same (a ∷ as_) (b ∷ bs) ba bb is = digits_same (a ∷ as_) (b ∷ bs) ba bb is

cell_same : (tags : Tags) (c d : Cell) → AreNames tags.systems → AreNames tags.lans → IsTold tags c → IsTold tags d → kind c ≡ kind d → cell_text tags c ≡ cell_text tags d → c ≡ d
cell_same tags (Word a) (Word b) systems lans tc td k is = ap Word is
cell_same tags (Number a) (Number b) systems lans tc td k is = ap Number (decimal_injective a b tc td is)
cell_same tags (Preferred a) (Preferred b) systems lans tc td k is =
    let one : a / 128 < 2 ^ 64 = omega (arith, tc.1, tc.2) in
    let other : b / 128 < 2 ^ 64 = omega (arith, td.1, td.2) in
    let text : decimal (a / 128) ≡ decimal (b / 128) = cc in
    let same = decimal_injective (a / 128) (b / 128) one other text in
    ap Preferred (let size : a ≡ b = omega (arith, tc.1, td.1, same) in size)
cell_same tags (System a) (System b) systems lans tc td k is = ap System (systems.one a b tc td is)
cell_same tags (Lan a) (Lan b) systems lans tc td k is = ap Lan (lans.one a b tc td is)
cell_same tags (Digits a) (Digits b) systems lans tc td k is = ap Digits (digits_same a b tc.0 td.0 is)
cell_same tags (Octets a) (Octets b) systems lans tc td k is = ap Octets (octets_same a b tc td is)
cell_same tags _ _ systems lans tc td k is = absurd (cc)

cells_same : (tags : Tags) (cs ds : List Cell) → AreNames tags.systems → AreNames tags.lans → AreTold tags cs → AreTold tags ds
    → map kind cs ≡ map kind ds → map (cell_text tags) cs ≡ map (cell_text tags) ds → cs ≡ ds
cells_same tags [] [] systems lans tc td k is = refl
cells_same tags [] (d ∷ ds) systems lans tc td k is = absurd (cc)
cells_same tags (c ∷ cs) [] systems lans tc td k is = absurd (cc)
cells_same tags (c ∷ cs) (d ∷ ds) systems lans tc td k is =
    let first = cell_same tags c d systems lans tc.0 td.0 (cc) (cc) in
    let rest = cells_same tags cs ds systems lans tc.1 td.1 (cc) (cc) in
    cc

-- events with one line are one
pub event_same : (tags : Tags) (first second : Event) → AreNames tags.systems → AreNames tags.lans → AreTold tags (cells_of first) → AreTold tags (cells_of second)
    → texts_of tags first ≡ texts_of tags second → first ≡ second
event_same tags first second systems lans tf ts is =
    let kinds : map kind (cells_of first) ≡ map kind (cells_of second) = sym (shaped tags first systems tf) ∙ ap shape_of is ∙ shaped tags second systems ts in
    let cells = cells_same tags (cells_of first) (cells_of second) systems lans tf ts kinds is in
    let told : Some first ≡ Some second = sym (told_back first) ∙ ap event_of cells ∙ told_back second in
    cc

-- ---- lines

cell_plain : (tags : Tags) (c : Cell) → AreNames tags.systems → AreNames tags.lans → IsTold tags c → IsPlain (cell_text tags c)
cell_plain tags (Word text) systems lans told = told
cell_plain tags (Number n) systems lans told = decimal_plain n told
cell_plain tags (Preferred size) systems lans told =
    let fits : size / 128 < 2 ^ 64 = omega (arith, told.1, told.2) in
    plain_more 112 (decimal (size / 128)) (omega arith) (decimal_plain (size / 128) fits)
cell_plain tags (System s) systems lans told = name_plain _ (systems.named s told)
cell_plain tags (Lan l) systems lans told = name_plain _ (lans.named l told)
cell_plain tags (Digits octets) systems lans told = digits_plain octets told.0
cell_plain tags (Octets octets) systems lans told = octets_plain octets told

cells_plain : (tags : Tags) (cs : List Cell) → AreNames tags.systems → AreNames tags.lans → AreTold tags cs → ArePlain (map (cell_text tags) cs)
cells_plain tags [] systems lans told = tt
cells_plain tags (c ∷ cs) systems lans told = (cell_plain tags c systems lans told.0, cells_plain tags cs systems lans told.1)

record IsFront (tags : Tags) (cs ds : List Cell) (r s : List ℕ) : Type 0 where
  texts : map (cell_text tags) cs ≡ map (cell_text tags) ds
  rest : r ≡ s

front_same : (tags : Tags) (first second : Event) (cs ds : List Cell) (r s : List ℕ) → AreNames tags.systems → AreNames tags.lans → event_of cs ≡ Some first → event_of ds ≡ Some second
    → AreTold tags cs → AreTold tags ds → line (map (cell_text tags) cs) ++ r ≡ line (map (cell_text tags) ds) ++ s → IsFront tags cs ds r s
front_same tags first second [] ds r s systems lans ec ed tc td is = absurd (nothing_made first ec)
front_same tags first second (c ∷ cs) [] r s systems lans ec ed tc td is = absurd (nothing_made second ed)
front_same tags first second (c ∷ cs) (d ∷ ds) r s systems lans ec ed tc td is =
    let same = line_same (cell_text tags c) (map (cell_text tags) cs) (cell_text tags d) (map (cell_text tags) ds) r s
    (cells_plain tags (c ∷ cs) systems lans tc) (cells_plain tags (d ∷ ds) systems lans td) is in
    record { texts = same.fields; rest = same.rest }

nothing_first : (a r : List ℕ) (x : ℕ) → [] ≡ a ++ x ∷ r → ⊥
nothing_first [] r x is = absurd (cc)
nothing_first (c ∷ a) r x is = absurd (cc)

line_stands : (fs : List (List ℕ)) (r : List ℕ) → [] ≡ line fs ++ r → ⊥
line_stands [] r is = absurd (cc)
line_stands (f ∷ []) r is = nothing_first f r 10 (is ∙ append_assoc f (10 ∷ []) r)
line_stands (f ∷ g ∷ fs) r is = nothing_first f (line (g ∷ fs) ++ r) 32 (is ∙ append_assoc f (32 ∷ line (g ∷ fs)) r)

-- for given names no two lists of events have one text
pub journal_same : (tags : Tags) (first second : List Event) → AreNames tags.systems → AreNames tags.lans → EachTold tags first → EachTold tags second
    → journal_text tags first ≡ journal_text tags second → first ≡ second
journal_same tags [] [] systems lans tf ts is = refl
journal_same tags [] (e ∷ second) systems lans tf ts is = absurd (line_stands (texts_of tags e) (journal_text tags second) is)
journal_same tags (e ∷ first) [] systems lans tf ts is = absurd (line_stands (texts_of tags e) (journal_text tags first) (sym is))
journal_same tags (e ∷ first) (f ∷ second) systems lans tf ts is =
    let front = front_same tags e f (cells_of e) (cells_of f) (journal_text tags first) (journal_text tags second) systems lans (told_back e) (told_back f) tf.0 ts.0 is in
    let here = event_same tags e f systems lans tf.0 ts.0 front.texts in
    let rest = journal_same tags first second systems lans tf.1 ts.1 front.rest in
    cc
