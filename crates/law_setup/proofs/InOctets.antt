-- What a script says is in octets: its titles, its SNPAs and its units; so a network that it starts stands, and answers.
use Rattle.std.proofs.Common.{◌≡◌, ◌==◌, ◌&&◌, ℕ, zero, suc, ◌+◌, ◌-◌, ◌*◌, ◌/◌, ◌<◌, ◌≤◌, Bool, true, false, List, [], ◌∷◌, ◌++◌, length, take, Option, Some, None, Result, Ok, Err, refl, sym, ◌∙◌, ap, subst, arith, length-append}
use Rattle.std.specs.Prelude.{◌%◌, if◌then◌else◌, nat_le, nat_lt, slice_index, unwrap_or, codes}
use Rattle.std.proofs.lemmas.Bool.Decides.{nat_tests}
use Rattle.std.proofs.lemmas.List.{length-take-le}
use Rattle.hex.specs.Hex.{decode_of, hex_digit_value}
use Rattle.hex.proofs.HexLemmas.{decode_of-ok}
use Rattle.hex.specs.declared.error.FromHexError.{FromHexError}
use Rattle.nsap.specs.Address.{selector_of, system_part}
use Rattle.nsap.specs.Text.{hex_octets, octets_or_fault, text_fault}
use Rattle.nsap.specs.declared.text.NsapFault.{NsapFault}
use Rattle.nsap.specs.steps.Digits.{IsDigits}
use Rattle.nsap.proofs.TextLemmas.{length-hex_octets, IsDigits-text_fault}
use Rattle.law_carrier_answers.specs.Answers.{AreOctets}
use Rattle.law_clnp_net.specs.Standing.{IsNsap, IsSnpa}
use Rattle.script_lines.specs.declared.cause.LineCause.TheVariants as causes
use Rattle.script_lines.specs.Field.{as_octets, as_station, as_title, is_word, octets_of, station_of, title_of}

-- ---- hexadecimal digits

digit_by : (c : ℕ) (a b d : Bool) → (nat_le 65 c && nat_le c 70) ≡ a → (nat_le 97 c && nat_le c 102) ≡ b → (nat_le 48 c && nat_le c 57) ≡ d
    → unwrap_or (if a then Some (c - 55) else if b then Some (c - 87) else if d then Some (c - 48) else None) 0 < 16
digit_by c true b d upper lower digit = grind (arith, nat_tests)
digit_by c false true d upper lower digit = grind (arith, nat_tests)
digit_by c false false true upper lower digit = grind (arith, nat_tests)
digit_by c false false false upper lower digit = omega arith

digit_small : (c : ℕ) → unwrap_or (hex_digit_value c) 0 < 16
digit_small c = digit_by c (nat_le 65 c && nat_le c 70) (nat_le 97 c && nat_le c 102) (nat_le 48 c && nat_le c 57) refl refl refl

sum_small : (h l : ℕ) → h < 16 → l < 16 → h * 16 + l < 256
sum_small h l high low = omega arith

hex_small : (text : List ℕ) → AreOctets (hex_octets text)
unfolding hex_octets
hex_small [] = tt
hex_small (digit ∷ []) = tt
hex_small (high ∷ low ∷ rest) = (sum_small (unwrap_or (hex_digit_value high) 0) (unwrap_or (hex_digit_value low) 0) (digit_small high) (digit_small low), hex_small rest)

bytes_small : (xs : List ℕ) → ((i : ℕ) → slice_index xs i < 256) → AreOctets xs
bytes_small [] all = tt
bytes_small (x ∷ xs) all = (all 0, bytes_small xs (λ i. all (suc i)))

-- ---- titles and SNPAs

picked : {A : Type 0} (test : Bool) (octets other : A) → (if test then Ok octets else Err causes.Range) ≡ Ok other → octets ≡ other
picked true octets other is = cc
picked false octets other is = absurd (cc)

single : (test : Bool) (octets other : List ℕ) → (if test then Err causes.Range else Ok octets) ≡ Ok other → octets ≡ other
single true octets other is = absurd (cc)
single false octets other is = cc

title_by : (text title : List ℕ) (found : Option NsapFault) → text_fault 0 40 text ≡ found → as_title (octets_or_fault (hex_octets text) found) ≡ Ok title → (title ≡ hex_octets text) × (length title ≤ 20)
title_by text title (Some fault) faulty is = absurd (cc)
title_by text title None none is =
    let digits : IsDigits 0 40 text = IsDigits-text_fault 0 40 text none in
    let same : hex_octets text ≡ title = picked (nat_lt 1 (length (hex_octets text)) && (selector_of (hex_octets text) == 0)) (hex_octets text) title is in
    let count : length title ≡ length text / 2 = ap (λ (t : List ℕ). length t) (sym same) ∙ length-hex_octets text in
    (sym same, omega (arith, count, digits.fits))

title_from : (text title : List ℕ) → title_of text ≡ Ok title → (title ≡ hex_octets text) × (length title ≤ 20)
unfolding title_of
title_from text title is = title_by text title (text_fault 0 40 text) refl is

pub title_octets : (text title : List ℕ) → 1 < length title → title_of text ≡ Ok title → IsNsap title
title_octets text title some is =
    let t = title_from text title is in
    record { is = record { some = omega arith; most = t.1 }; octets = subst AreOctets (sym t.0) (hex_small text) }

station_by : (text snpa : List ℕ) (found : Option NsapFault) → text_fault 12 12 text ≡ found → as_station (octets_or_fault (hex_octets text) found) ≡ Ok snpa → IsSnpa snpa
station_by text snpa (Some fault) faulty is = absurd (cc)
station_by text snpa None none is =
    let digits : IsDigits 12 12 text = IsDigits-text_fault 12 12 text none in
    let same : hex_octets text ≡ snpa = single (slice_index (hex_octets text) 0 % 2 == 1) (hex_octets text) snpa is in
    let count : length snpa ≡ length text / 2 = ap (λ (t : List ℕ). length t) (sym same) ∙ length-hex_octets text in
    record { six = omega (arith, count, digits.fits, digits.enough); octets = subst AreOctets same (hex_small text) }

pub station_octets : (text snpa : List ℕ) → station_of text ≡ Ok snpa → IsSnpa snpa
unfolding station_of
station_octets text snpa is = station_by text snpa (text_fault 12 12 text) refl is

-- the address of a title with a selector
pub address_octets : (title : List ℕ) (selector : ℕ) → selector < 256 → 1 < length title → IsNsap title → IsNsap (system_part title ++ selector ∷ [])
address_octets title selector small some nsap =
    let most = nsap.is.most in
    let count : length (system_part title ++ selector ∷ []) ≡ length (take (length title - 1) title) + 1 = length-append (take (length title - 1) title) (selector ∷ []) in
    record {
      is = record { some = omega (arith, count, length-take-le (length title - 1) title (omega arith)); most = omega (arith, count, length-take-le (length title - 1) title (omega arith)) };
      octets = both (take (length title - 1) title) (selector ∷ []) (front (length title - 1) title nsap.octets) (small, tt);
    }
  where
    front : (n : ℕ) (xs : List ℕ) → AreOctets xs → AreOctets (take n xs)
    front zero xs all = tt
    front (suc n) [] all = tt
    front (suc n) (x ∷ xs) all = (all.0, front n xs all.1)

    both : (xs ys : List ℕ) → AreOctets xs → AreOctets ys → AreOctets (xs ++ ys)
    both [] ys all others = others
    both (x ∷ xs) ys all others = (all.0, both xs ys all.1 others)

-- ---- units

decoded : (read : Result (List ℕ) FromHexError) (text octets : List ℕ) → decode_of text ≡ read → as_octets read ≡ Ok octets → AreOctets octets
decoded (Ok bytes) text octets at is =
    let same : bytes ≡ octets = cc in
    subst AreOctets same (bytes_small bytes (decode_of-ok text bytes at).3)
decoded (Err error) text octets at is = absurd (cc)

octets_by : (text octets : List ℕ) (dash none : Bool) → (if dash then Ok [] else if none then Err causes.Syntax else as_octets (decode_of text)) ≡ Ok octets → AreOctets octets
octets_by text octets true none is = let same : [] ≡ octets = cc in subst AreOctets same tt
octets_by text octets false true is = absurd (cc)
octets_by text octets false false is = decoded (decode_of text) text octets refl is

pub unit_octets : (text octets : List ℕ) → octets_of text ≡ Ok octets → AreOctets octets
unfolding octets_of
unit_octets text octets is = octets_by text octets (is_word (codes "-") text) (length text == 0) is
