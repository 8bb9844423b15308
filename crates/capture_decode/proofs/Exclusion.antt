-- What octets are is one. The order of their numbers is one, as no number reads as a magic number both ways; and whole records
-- are the same ones where no whole record stands at the front of what is behind them. So a capture, a fault and octets that may
-- go on exclude each other, and each has its records.
use Rattle.std.proofs.Common.{◌≡◌, ◌⊎◌, ◌+◌, ◌*◌, ◌<◌, ◌≤◌, ℕ, List, [], ◌∷◌, ◌++◌, length, slice_index, inl, inr, refl, sym, ◌∙◌, ap, subst, append_assoc, arith}
use Rattle.std.proofs.lemmas.List.{length-append}
use Rattle.byteorder.specs.Endian.{big_number, little_number}
use Rattle.capture_decode.specs.Capture.{number_at, IsMagic, IsVersion, IsHeader, Record, IsRecord, AreRecords, Begins, IsCapture}
use Rattle.capture_decode.specs.Faults.{HasMagic, IsHeaderFault, IsOpen, IsRecordFault, IsFaultAfter, IsLasting, IsBegun}
use Rattle.capture_decode.specs.declared.cause.Cause.{Cause}
use Rattle.capture_decode.specs.declared.cause.Cause.TheVariants.{Short, Magic, Version, Link, Length}
use Rattle.capture_decode.specs.declared.order.Order.{Order}
use Rattle.capture_decode.specs.declared.order.Order.TheVariants.{Big, Little}
use Rattle.capture_decode.specs.steps.Fronts.{number_at_front, begins_more}

same_head : (x y : ℕ) (xs ys : List ℕ) → x ∷ xs ≡ y ∷ ys → x ≡ y
same_head x y xs ys h = cc

same_tail : (x y : ℕ) (xs ys : List ℕ) → x ∷ xs ≡ y ∷ ys → xs ≡ ys
same_tail x y xs ys h = cc

-- two fronts of one length
pub split_same : (f x g y : List ℕ) → length f ≡ length g → f ++ x ≡ g ++ y → (f ≡ g) × (x ≡ y)
split_same [] x [] y same h = (refl, h)
split_same [] x (b ∷ g) y same h = absurd (omega arith)
split_same (a ∷ f) x [] y same h = absurd (omega arith)
split_same (a ∷ f) x (b ∷ g) y same h =
    let rest = split_same f x g y (omega arith) (same_tail a b (f ++ x) (g ++ y) h) in
    (ap (λ (o : ℕ). o ∷ f) (same_head a b (f ++ x) (g ++ y) h) ∙ ap (λ (t : List ℕ). b ∷ t) rest.0, rest.1)

-- ---- the order of numbers

both_ways : (octets : List ℕ) → big_number 4 octets + little_number 4 octets
    ≡ 257 * (65281 * (slice_index octets 0 + slice_index octets 3) + 256 * (slice_index octets 1 + slice_index octets 2))
both_ways octets = omega arith

not_both : (big little parts : ℕ) → big + little ≡ 257 * parts → (big ≡ 0xa1b2c3d4) ⊎ (big ≡ 0xa1b23c4d) → (little ≡ 0xa1b2c3d4) ⊎ (little ≡ 0xa1b23c4d) → ⊥
not_both big little parts is (inl b) (inl l) = omega arith
not_both big little parts is (inl b) (inr l) = omega arith
not_both big little parts is (inr b) (inl l) = omega arith
not_both big little parts is (inr b) (inr l) = omega arith

never_both : (octets : List ℕ) → IsMagic Big octets → IsMagic Little octets → ⊥
never_both octets b l =
    not_both (big_number 4 octets) (little_number 4 octets) (65281 * (slice_index octets 0 + slice_index octets 3) + 256 * (slice_index octets 1 + slice_index octets 2)) (both_ways octets) b l

one_order : (octets : List ℕ) (order other : Order) → IsMagic order octets → IsMagic other octets → order ≡ other
one_order octets Big Big h k = refl
one_order octets Big Little h k = absurd (never_both octets h k)
one_order octets Little Big h k = absurd (never_both octets k h)
one_order octets Little Little h k = refl

-- ---- headers

-- a header stands in front
record Stands (order : Order) (octets : List ℕ) : Type 0 where
  pub magic : HasMagic order octets
  pub version : IsVersion order octets
  pub link : number_at order 20 4 octets ≡ 1

magic_front : (order : Order) (xs ys : List ℕ) → 24 ≤ length xs → IsMagic order xs → IsMagic order (xs ++ ys)
magic_front order xs ys h (inl is) = inl (number_at_front order 0 4 xs ys (omega arith) ∙ is)
magic_front order xs ys h (inr is) = inr (number_at_front order 0 4 xs ys (omega arith) ∙ is)

pub magic_back : (order : Order) (xs ys : List ℕ) → 24 ≤ length xs → IsMagic order (xs ++ ys) → IsMagic order xs
magic_back order xs ys h (inl is) = inl (sym (number_at_front order 0 4 xs ys (omega arith)) ∙ is)
magic_back order xs ys h (inr is) = inr (sym (number_at_front order 0 4 xs ys (omega arith)) ∙ is)

has_magic_front : (order : Order) (xs ys : List ℕ) → HasMagic order xs → HasMagic order (xs ++ ys)
has_magic_front order xs ys h = (omega (arith, h.0, length-append xs ys), magic_front order xs ys h.0 h.1)

version_front : (order : Order) (xs ys : List ℕ) → 24 ≤ length xs → IsVersion order xs → IsVersion order (xs ++ ys)
version_front order xs ys h v = (number_at_front order 4 2 xs ys (omega arith) ∙ v.0, number_at_front order 6 2 xs ys (omega arith) ∙ v.1)

pub version_back : (order : Order) (xs ys : List ℕ) → 24 ≤ length xs → IsVersion order (xs ++ ys) → IsVersion order xs
version_back order xs ys h v = (sym (number_at_front order 4 2 xs ys (omega arith)) ∙ v.0, sym (number_at_front order 6 2 xs ys (omega arith)) ∙ v.1)

stands_header : (order : Order) (header rest : List ℕ) → IsHeader order header → Stands order (header ++ rest)
stands_header order header rest h = record {
  magic = has_magic_front order header rest (omega (arith, h.whole), h.magic);
  version = version_front order header rest (omega (arith, h.whole)) h.version;
  link = number_at_front order 20 4 header rest (omega (arith, h.whole)) ∙ h.link;
}

stands : (octets : List ℕ) (order : Order) (records : List Record) (rest : List ℕ) → Begins octets order records rest → Stands order octets
stands octets order records rest b = subst (λ (xs : List ℕ). Stands order xs) (sym b.place) (stands_header order b.header (b.body ++ rest) b.is_header)

header_or_fault : (order : Order) (octets : List ℕ) (offset : ℕ) (cause : Cause) → Stands order octets → IsHeaderFault octets offset cause → ⊥
header_or_fault order octets offset Short s f = omega (arith, f.0, s.magic.0)
header_or_fault order octets offset Magic s f = f.1 order s.magic.1
header_or_fault order octets offset Version s f =
    f.2 (subst (λ (o : Order). IsVersion o octets) (one_order octets order f.0 s.magic.1 f.1.1) s.version)
header_or_fault order octets offset Link s f =
    f.3 (subst (λ (o : Order). number_at o 20 4 octets ≡ 1) (one_order octets order f.0 s.magic.1 f.1.1) s.link)
header_or_fault order octets offset Length s f = f

one_header_fault : (octets : List ℕ) (offset place : ℕ) (cause other : Cause) → IsHeaderFault octets offset cause → IsHeaderFault octets place other → (offset ≡ place) × (cause ≡ other)
one_header_fault octets offset place Short Short h k = (h.1 ∙ sym k.1, refl)
one_header_fault octets offset place Short Magic h k = absurd (omega (arith, h.0, k.0))
one_header_fault octets offset place Short Version h k = absurd (omega (arith, h.0, k.1.0))
one_header_fault octets offset place Short Link h k = absurd (omega (arith, h.0, k.1.0))
one_header_fault octets offset place Magic Short h k = absurd (omega (arith, h.0, k.0))
one_header_fault octets offset place Magic Magic h k = (h.2 ∙ sym k.2, refl)
one_header_fault octets offset place Magic Version h k = absurd (h.1 k.0 k.1.1)
one_header_fault octets offset place Magic Link h k = absurd (h.1 k.0 k.1.1)
one_header_fault octets offset place Version Short h k = absurd (omega (arith, h.1.0, k.0))
one_header_fault octets offset place Version Magic h k = absurd (k.1 h.0 h.1.1)
one_header_fault octets offset place Version Version h k = (h.3 ∙ sym k.3, refl)
one_header_fault octets offset place Version Link h k = absurd (h.2 (subst (λ (o : Order). IsVersion o octets) (one_order octets k.0 h.0 k.1.1 h.1.1) k.2))
one_header_fault octets offset place Link Short h k = absurd (omega (arith, h.1.0, k.0))
one_header_fault octets offset place Link Magic h k = absurd (k.1 h.0 h.1.1)
one_header_fault octets offset place Link Version h k = absurd (k.2 (subst (λ (o : Order). IsVersion o octets) (one_order octets h.0 k.0 h.1.1 k.1.1) h.2))
one_header_fault octets offset place Link Link h k = (h.4 ∙ sym k.4, refl)
one_header_fault octets offset place Length other h k = absurd h
one_header_fault octets offset place cause Length h k = absurd k

-- ---- records

-- no whole record stands in front
abbrev Blocks : Order → List ℕ → Type 0
Blocks order rest = (front more : List ℕ) (one : Record) → rest ≡ front ++ more → IsRecord order front one → ⊥

captured_at : (order : Order) (rest front more : List ℕ) (one : Record) → rest ≡ front ++ more → IsRecord order front one → number_at order 8 4 rest ≡ length one.octets
captured_at order rest front more one is r = ap (number_at order 8 4) is ∙ number_at_front order 8 4 front more (omega (arith, r.whole)) ∙ sym r.captured

original_at : (order : Order) (rest front more : List ℕ) (one : Record) → rest ≡ front ++ more → IsRecord order front one → number_at order 12 4 rest ≡ one.original
original_at order rest front more one is r = ap (number_at order 12 4) is ∙ number_at_front order 12 4 front more (omega (arith, r.whole)) ∙ sym r.original

open_blocks : (order : Order) (rest : List ℕ) → IsOpen order rest → Blocks order rest
open_blocks order rest (inl few) front more one is r = omega (arith, few, ap length is, length-append front more, r.whole)
open_blocks order rest (inr lengths) front more one is r =
    omega (arith, lengths.1, captured_at order rest front more one is r, ap length is, length-append front more, r.whole)

fault_blocks : (order : Order) (rest : List ℕ) (cause : Cause) → IsRecordFault order rest cause → Blocks order rest
fault_blocks order rest Short f front more one is r = open_blocks order rest f.1 front more one is r
fault_blocks order rest Length f front more one is r = elim f.1 [
  | inl big ↦ omega (arith, big, captured_at order rest front more one is r, r.most)
  | inr past ↦ omega (arith, past, captured_at order rest front more one is r, original_at order rest front more one is r, r.within)
]
fault_blocks order rest Magic f front more one is r = f
fault_blocks order rest Version f front more one is r = f
fault_blocks order rest Link f front more one is r = f

none_open : (order : Order) → IsOpen order []
none_open order = inl (omega arith)

same_record : (order : Order) (octets : List ℕ) (one other : Record) → IsRecord order octets one → IsRecord order octets other → one ≡ other
same_record order octets one other h k =
    let seconds : one.seconds ≡ other.seconds = h.seconds ∙ sym k.seconds in
    let fraction : one.fraction ≡ other.fraction = h.fraction ∙ sym k.fraction in
    let original : one.original ≡ other.original = h.original ∙ sym k.original in
    let octets_same : one.octets ≡ other.octets = h.rest ∙ sym k.rest in
    λ i. record { seconds = seconds i; fraction = fraction i; original = original i; octets = octets_same i }

same_front : (order : Order) (f x g y : List ℕ) (one other : Record) → f ++ x ≡ g ++ y → IsRecord order f one → IsRecord order g other → (one ≡ other) × (x ≡ y)
same_front order f x g y one other is h k =
    let captured : length one.octets ≡ length other.octets = sym (captured_at order (f ++ x) f x one refl h) ∙ captured_at order (f ++ x) g y other is k in
    let parts = split_same f x g y (omega (arith, captured, h.whole, k.whole)) is in
    (same_record order g one other (subst (λ (xs : List ℕ). IsRecord order xs one) parts.0 h) k, parts.1)

one_split : (order : Order) (xs ys : List ℕ) (records others : List Record) (x y : List ℕ) → AreRecords order xs records → AreRecords order ys others → xs ++ x ≡ ys ++ y → Blocks order x → Blocks order y
    → (records ≡ others) × (x ≡ y)
one_split order xs ys [] [] x y h k is bx by = (refl, ap (λ (t : List ℕ). t ++ x) (sym h) ∙ is ∙ ap (λ (t : List ℕ). t ++ y) k)
one_split order xs ys [] (other ∷ others) x y h k is bx by =
    absurd (bx k.0 (k.1 ++ y) other (ap (λ (t : List ℕ). t ++ x) (sym h) ∙ is ∙ ap (λ (t : List ℕ). t ++ y) k.2 ∙ append_assoc k.0 k.1 y) k.3)
one_split order xs ys (one ∷ records) [] x y h k is bx by =
    absurd (by h.0 (h.1 ++ x) one (ap (λ (t : List ℕ). t ++ y) (sym k) ∙ sym is ∙ ap (λ (t : List ℕ). t ++ x) h.2 ∙ append_assoc h.0 h.1 x) h.3)
one_split order xs ys (one ∷ records) (other ∷ others) x y h k is bx by =
    let both : h.0 ++ (h.1 ++ x) ≡ k.0 ++ (k.1 ++ y) = sym (ap (λ (t : List ℕ). t ++ x) h.2 ∙ append_assoc h.0 h.1 x) ∙ is ∙ ap (λ (t : List ℕ). t ++ y) k.2 ∙ append_assoc k.0 k.1 y in
    let here = same_front order h.0 (h.1 ++ x) k.0 (k.1 ++ y) one other both h.3 k.3 in
    let rest = one_split order h.1 k.1 records others x y h.4 k.4 here.1 bx by in
    (ap (λ (r : Record). r ∷ records) here.0 ∙ ap (λ (rs : List Record). other ∷ rs) rest.0, rest.1)

one_begins : (octets : List ℕ) (order other : Order) (records others : List Record) (x y : List ℕ) → Begins octets order records x → Begins octets other others y → Blocks order x → Blocks other y
    → (order ≡ other) × (records ≡ others) × (x ≡ y)
one_begins octets order other records others x y b c bx by =
    let same : other ≡ order = one_order octets other order (stands octets other others y c).magic.1 (stands octets order records x b).magic.1 in
    let parts = split_same b.header (b.body ++ x) c.header (c.body ++ y) (b.is_header.whole ∙ sym c.is_header.whole) (sym b.place ∙ c.place) in
    let rest = one_split order b.body c.body records others x y b.are_records (subst (λ (o : Order). AreRecords o c.body others) same c.are_records) parts.1 bx (subst (λ (o : Order). Blocks o y) same by) in
    (sym same, rest.0, rest.1)

-- ---- a capture, a fault, and octets that may go on

open_or_length : (order : Order) (rest : List ℕ) → IsOpen order rest → IsRecordFault order rest Length → ⊥
open_or_length order rest (inl few) f = omega (arith, few, f.0)
open_or_length order rest (inr lengths) f = elim f.1 [
  | inl big ↦ omega (arith, big, lengths.0.most)
  | inr past ↦ omega (arith, past, lengths.0.within)
]

one_record_fault : (order : Order) (rest : List ℕ) (cause other : Cause) → IsRecordFault order rest cause → IsRecordFault order rest other → cause ≡ other
one_record_fault order rest Short Short h k = refl
one_record_fault order rest Short Length h k = absurd (open_or_length order rest h.1 k)
one_record_fault order rest Length Short h k = absurd (open_or_length order rest k.1 h)
one_record_fault order rest Length Length h k = refl
one_record_fault order rest Magic other h k = absurd h
one_record_fault order rest Version other h k = absurd h
one_record_fault order rest Link other h k = absurd h
one_record_fault order rest cause Magic h k = absurd k
one_record_fault order rest cause Version h k = absurd k
one_record_fault order rest cause Link h k = absurd k

pub one_capture : (octets : List ℕ) (records others : List Record) → IsCapture octets records → IsCapture octets others → records ≡ others
one_capture octets records others h k =
    (one_begins octets h.0 k.0 records others [] [] h.1 k.1 (open_blocks h.0 [] (none_open h.0)) (open_blocks k.0 [] (none_open k.0))).1

no_fault : (order : Order) (cause : Cause) → IsRecordFault order [] cause → ⊥
no_fault order Short f = omega (arith, f.0)
no_fault order Length f = omega (arith, f.0)
no_fault order Magic f = f
no_fault order Version f = f
no_fault order Link f = f

pub capture_not_fault : (octets : List ℕ) (records others : List Record) (offset : ℕ) (cause : Cause) → IsCapture octets records → IsFaultAfter octets others offset cause → ⊥
capture_not_fault octets records others offset cause h (inl f) = header_or_fault h.0 octets offset cause (stands octets h.0 records [] h.1) f.1
capture_not_fault octets records others offset cause h (inr f) =
    let same = one_begins octets f.order h.0 others records f.rest [] f.begins h.1 (fault_blocks f.order f.rest cause f.fault) (open_blocks h.0 [] (none_open h.0)) in
    no_fault f.order cause (subst (λ (xs : List ℕ). IsRecordFault f.order xs cause) same.2 f.fault)

pub one_fault : (octets : List ℕ) (records others : List Record) (offset place : ℕ) (cause other : Cause) → IsFaultAfter octets records offset cause → IsFaultAfter octets others place other
    → (records ≡ others) × (offset ≡ place) × (cause ≡ other)
one_fault octets records others offset place cause other (inl h) (inl k) = let one = one_header_fault octets offset place cause other h.1 k.1 in (h.0 ∙ sym k.0, one.0, one.1)
one_fault octets records others offset place cause other (inl h) (inr k) = absurd (header_or_fault k.order octets offset cause (stands octets k.order others k.rest k.begins) h.1)
one_fault octets records others offset place cause other (inr h) (inl k) = absurd (header_or_fault h.order octets place other (stands octets h.order records h.rest h.begins) k.1)
one_fault octets records others offset place cause other (inr h) (inr k) =
    let same = one_begins octets h.order k.order records others h.rest k.rest h.begins k.begins (fault_blocks h.order h.rest cause h.fault) (fault_blocks k.order k.rest other k.fault) in
    let there : IsRecordFault h.order h.rest other = subst (λ (o : Order). IsRecordFault o h.rest other) (sym same.0) (subst (λ (xs : List ℕ). IsRecordFault k.order xs other) (sym same.2) k.fault) in
    (same.1, omega (arith, h.place, k.place, ap length same.2), one_record_fault h.order h.rest cause other h.fault there)

pub one_begun : (octets : List ℕ) (records others : List Record) → IsBegun octets records → IsBegun octets others → records ≡ others
one_begun octets records others (inl h) (inl k) = h.0 ∙ sym k.0
one_begun octets records others (inl h) (inr k) = absurd (omega (arith, h.1, (stands octets k.0 others k.1 k.2).magic.0))
one_begun octets records others (inr h) (inl k) = absurd (omega (arith, k.1, (stands octets h.0 records h.1 h.2).magic.0))
one_begun octets records others (inr h) (inr k) = (one_begins octets h.0 k.0 records others h.1 k.1 h.2 k.2 (open_blocks h.0 h.1 h.3) (open_blocks k.0 k.1 k.3)).1

lasting_whole : (octets : List ℕ) (offset : ℕ) (cause : Cause) → IsLasting cause → IsHeaderFault octets offset cause → 24 ≤ length octets
lasting_whole octets offset Short never f = absurd never
lasting_whole octets offset Magic never f = f.0
lasting_whole octets offset Version never f = f.1.0
lasting_whole octets offset Link never f = f.1.0
lasting_whole octets offset Length never f = absurd f

lasting_length : (order : Order) (rest : List ℕ) (cause : Cause) → IsLasting cause → IsRecordFault order rest cause → IsRecordFault order rest Length
lasting_length order rest Short never f = absurd never
lasting_length order rest Length never f = f
lasting_length order rest Magic never f = absurd f
lasting_length order rest Version never f = absurd f
lasting_length order rest Link never f = absurd f

pub begun_not_fault : (octets : List ℕ) (records others : List Record) (offset : ℕ) (cause : Cause) → IsBegun octets records → IsLasting cause → IsFaultAfter octets others offset cause → ⊥
begun_not_fault octets records others offset cause (inl h) lasting (inl k) = omega (arith, h.1, lasting_whole octets offset cause lasting k.1)
begun_not_fault octets records others offset cause (inl h) lasting (inr k) = omega (arith, h.1, (stands octets k.order others k.rest k.begins).magic.0)
begun_not_fault octets records others offset cause (inr h) lasting (inl k) = header_or_fault h.0 octets offset cause (stands octets h.0 records h.1 h.2) k.1
begun_not_fault octets records others offset cause (inr h) lasting (inr k) =
    let same = one_begins octets h.0 k.order records others h.1 k.rest h.2 k.begins (open_blocks h.0 h.1 h.3) (fault_blocks k.order k.rest cause k.fault) in
    let there : IsRecordFault h.0 h.1 cause = subst (λ (o : Order). IsRecordFault o h.1 cause) (sym same.0) (subst (λ (xs : List ℕ). IsRecordFault k.order xs cause) (sym same.2) k.fault) in
    open_or_length h.0 h.1 h.3 (lasting_length h.0 h.1 cause lasting there)

-- ---- what comes behind a fault changes nothing

header_fault_more : (xs ys : List ℕ) (offset : ℕ) (cause : Cause) → IsLasting cause → IsHeaderFault xs offset cause → IsHeaderFault (xs ++ ys) offset cause
header_fault_more xs ys offset Short never f = absurd never
header_fault_more xs ys offset Magic never f = (omega (arith, f.0, length-append xs ys), (λ order is. f.1 order (magic_back order xs ys f.0 is)), f.2)
header_fault_more xs ys offset Version never f = (f.0, has_magic_front f.0 xs ys f.1, (λ is. f.2 (version_back f.0 xs ys f.1.0 is)), f.3)
header_fault_more xs ys offset Link never f =
    (f.0, has_magic_front f.0 xs ys f.1, version_front f.0 xs ys f.1.0 f.2, (λ is. f.3 (sym (number_at_front f.0 20 4 xs ys (omega (arith, f.1.0))) ∙ is)), f.4)
header_fault_more xs ys offset Length never f = absurd f

length_more : (order : Order) (rest ys : List ℕ) → IsRecordFault order rest Length → IsRecordFault order (rest ++ ys) Length
length_more order rest ys f =
    let captured : number_at order 8 4 (rest ++ ys) ≡ number_at order 8 4 rest = number_at_front order 8 4 rest ys (omega (arith, f.0)) in
    let original : number_at order 12 4 (rest ++ ys) ≡ number_at order 12 4 rest = number_at_front order 12 4 rest ys (omega (arith, f.0)) in (
      omega (arith, f.0, length-append rest ys),
      elim f.1 [
        | inl big ↦ inl (subst (λ (c : ℕ). 65535 < c) (sym captured) big)
        | inr past ↦ inr (subst (λ (c : ℕ). number_at order 12 4 (rest ++ ys) < c) (sym captured) (subst (λ (o : ℕ). o < number_at order 8 4 rest) (sym original) past))
      ],
    )

record_fault_more : (order : Order) (rest ys : List ℕ) (cause : Cause) → IsLasting cause → IsRecordFault order rest cause → IsRecordFault order (rest ++ ys) cause
record_fault_more order rest ys Short never f = absurd never
record_fault_more order rest ys Length never f = length_more order rest ys f
record_fault_more order rest ys Magic never f = absurd f
record_fault_more order rest ys Version never f = absurd f
record_fault_more order rest ys Link never f = absurd f

pub fault_more : (xs ys : List ℕ) (records : List Record) (offset : ℕ) (cause : Cause) → IsLasting cause → IsFaultAfter xs records offset cause → IsFaultAfter (xs ++ ys) records offset cause
fault_more xs ys records offset cause lasting (inl f) = inl (f.0, header_fault_more xs ys offset cause lasting f.1)
fault_more xs ys records offset cause lasting (inr f) = inr (record {
  order = f.order;
  rest = f.rest ++ ys;
  begins = begins_more xs ys f.order records f.rest f.begins;
  fault = record_fault_more f.order f.rest ys cause lasting f.fault;
  place = omega (arith, f.place, length-append f.rest ys, length-append xs ys);
})
