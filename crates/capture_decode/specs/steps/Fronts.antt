-- More octets behind a front change nothing of its numbers and records.
use Rattle.std.proofs.Common.{◌≡◌, ◌+◌, ◌≤◌, ℕ, List, ◌++◌, length, drop, ap, ◌∙◌, append_assoc, arith, length-drop}
use Rattle.std.proofs.lemmas.List.{drop-append-le}
use Rattle.byteorder.specs.Numbers.{big_from-append, little_from-append}
use Rattle.capture_decode.specs.Capture.{number, number_at, Record, Begins}
use Rattle.capture_decode.specs.declared.order.Order.{Order}
use Rattle.capture_decode.specs.declared.order.Order.TheVariants.{Big, Little}

number_front : (order : Order) (width : ℕ) (xs ys : List ℕ) → width ≤ length xs → number order width (xs ++ ys) ≡ number order width xs
number_front Big width xs ys h = big_from-append width xs ys h
number_front Little width xs ys h = little_from-append width xs ys h

pub number_at_front : (order : Order) (at width : ℕ) (xs ys : List ℕ) → at + width ≤ length xs
    → number_at order at width (xs ++ ys) ≡ number_at order at width xs
number_at_front order at width xs ys h =
    ap (number order width) (drop-append-le at xs ys (omega arith)) ∙ number_front order width (drop at xs) ys (omega (arith, length-drop at xs))

pub begins_more : (xs ys : List ℕ) (order : Order) (records : List Record) (rest : List ℕ) → Begins xs order records rest
    → Begins (xs ++ ys) order records (rest ++ ys)
begins_more xs ys order records rest b = record {
  header = b.header;
  body = b.body;
  place = ap (λ (t : List ℕ). t ++ ys) b.place ∙ append_assoc b.header (b.body ++ rest) ys ∙ ap (λ (t : List ℕ). b.header ++ t) (append_assoc b.body rest ys);
  is_header = b.is_header;
  are_records = b.are_records;
}
