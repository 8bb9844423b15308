-- Octets are a capture or have a fault: record by record, what is left is none, begins with a whole record, or has a fault.
use Rattle.std.proofs.Common.{◌≡◌, ◌≢◌, ◌⊎◌, ◌+◌, ◌<◌, ◌≤◌, ℕ, zero, suc, List, [], ◌∷◌, ◌++◌, length, take, drop, inl, inr, refl, sym, ◌∙◌, ap, subst, append_assoc, arith, length-drop}
use Rattle.std.proofs.lemmas.Bool.{cases_lt}
use Rattle.std.proofs.lemmas.List.{length-append, length-take-le, take-append-drop}
use Rattle.capture_decode.specs.Capture.{number_at, IsMagic, IsVersion, IsHeader, Record, IsRecord, AreRecords, Begins, IsCapture}
use Rattle.capture_decode.specs.Faults.{IsHeaderFault, IsRecordFault, CaptureFault}
use Rattle.capture_decode.specs.declared.cause.Cause.{Cause}
use Rattle.capture_decode.specs.declared.cause.Cause.TheVariants.{Short, Magic, Version, Link, Length}
use Rattle.capture_decode.specs.declared.order.Order.{Order}
use Rattle.capture_decode.specs.declared.order.Order.TheVariants.{Big, Little}
use Rattle.capture_decode.specs.steps.Fronts.{number_at_front}
use Rattle.capture_decode.proofs.Exclusion.{magic_back, version_back}

nat_or : (a b : ℕ) → (a ≡ b) ⊎ (a ≢ b)
nat_or a b = elim (cases_lt a b) [
  | inl less ↦ inr (λ is. omega (arith, less, is))
  | inr more ↦ elim (cases_lt b a) [ inl less ↦ inr (λ is. omega (arith, less, is)) | inr most ↦ inl (omega (arith, more, most)) ]
]

magic_in : (order : Order) (octets : List ℕ) → IsMagic order octets ⊎ (¬ IsMagic order octets)
magic_in order octets = elim (nat_or (number_at order 0 4 octets) 0xa1b2c3d4) [
  | inl is ↦ inl (inl is)
  | inr other ↦ elim (nat_or (number_at order 0 4 octets) 0xa1b23c4d) [ inl is ↦ inl (inr is) | inr never ↦ inr (λ m. elim m [ inl is ↦ other is | inr is ↦ never is ]) ]
]

none_in : (octets : List ℕ) → ¬ IsMagic Big octets → ¬ IsMagic Little octets → (order : Order) → ¬ IsMagic order octets
none_in octets other never Big is = other is
none_in octets other never Little is = never is

magic_or : (octets : List ℕ) → IsMagic Big octets ⊎ (IsMagic Little octets ⊎ ((order : Order) → ¬ IsMagic order octets))
magic_or octets = elim (magic_in Big octets) [
  | inl big ↦ inl big
  | inr other ↦ elim (magic_in Little octets) [ inl little ↦ inr (inl little) | inr never ↦ inr (inr (none_in octets other never)) ]
]

-- the first 24 octets are a header
stands_taken : (octets : List ℕ) (order : Order) → 24 ≤ length octets → IsMagic order octets → IsVersion order octets → number_at order 20 4 octets ≡ 1 → IsHeader order (take 24 octets)
stands_taken octets order whole magic version link =
    let taken : length (take 24 octets) ≡ 24 = length-take-le 24 octets whole in
    let back : take 24 octets ++ drop 24 octets ≡ octets = take-append-drop 24 octets in
    record {
      whole = taken;
      magic = magic_back order (take 24 octets) (drop 24 octets) (omega (arith, taken)) (subst (IsMagic order) (sym back) magic);
      version = version_back order (take 24 octets) (drop 24 octets) (omega (arith, taken)) (subst (IsVersion order) (sym back) version);
      link = sym (number_at_front order 20 4 (take 24 octets) (drop 24 octets) (omega (arith, taken))) ∙ ap (number_at order 20 4) back ∙ link;
    }

first_record : (order : Order) (rest : List ℕ) → 16 ≤ length rest → number_at order 8 4 rest ≤ 65535 → number_at order 8 4 rest ≤ number_at order 12 4 rest → 16 + number_at order 8 4 rest ≤ length rest
    → (one : Record) × IsRecord order (take (16 + number_at order 8 4 rest) rest) one
first_record order rest there most within whole =
    let n : ℕ = 16 + number_at order 8 4 rest in
    let front : List ℕ = take n rest in
    let taken : length front ≡ n = length-take-le n rest whole in
    let back : rest ≡ front ++ drop n rest = sym (take-append-drop n rest) in
    let captured : number_at order 8 4 rest ≡ number_at order 8 4 front = ap (number_at order 8 4) back ∙ number_at_front order 8 4 front (drop n rest) (omega (arith, taken)) in
    let original : number_at order 12 4 rest ≡ number_at order 12 4 front = ap (number_at order 12 4) back ∙ number_at_front order 12 4 front (drop n rest) (omega (arith, taken)) in
    let octets_are : length (drop 16 front) ≡ number_at order 8 4 rest = omega (arith, length-drop 16 front, taken) in (
      record { seconds = number_at order 0 4 front; fraction = number_at order 4 4 front; original = number_at order 12 4 front; octets = drop 16 front },
      record {
        seconds = refl;
        fraction = refl;
        captured = octets_are ∙ captured;
        original = refl;
        whole = omega (arith, taken, octets_are);
        rest = refl;
        most = omega (arith, octets_are, most);
        within = omega (arith, octets_are, within, original);
      },
    )

-- whole records, and then nothing or a fault
record Splits (order : Order) (octets : List ℕ) : Type 0 where
  pub records : List Record
  pub body : List ℕ
  pub rest : List ℕ
  pub is : octets ≡ body ++ rest
  pub are_records : AreRecords order body records
  pub ends : (rest ≡ []) ⊎ ((cause : Cause) × IsRecordFault order rest cause)

faulty : (order : Order) (octets : List ℕ) (cause : Cause) → IsRecordFault order octets cause → Splits order octets
faulty order octets cause f = record { records = []; body = []; rest = octets; is = refl; are_records = refl; ends = inr (cause, f) }

behind_record : (order : Order) (octets front more : List ℕ) (one : Record) → octets ≡ front ++ more → IsRecord order front one → Splits order more → Splits order octets
behind_record order octets front more one is r s = record {
  records = one ∷ s.records;
  body = front ++ s.body;
  rest = s.rest;
  is = is ∙ ap (λ (t : List ℕ). front ++ t) s.is ∙ sym (append_assoc front s.body s.rest);
  are_records = (front, s.body, refl, r, s.are_records);
  ends = s.ends;
}

splits : (most : ℕ) (order : Order) (octets : List ℕ) → length octets ≤ most → Splits order octets
splits most order [] le = record { records = []; body = []; rest = []; is = refl; are_records = refl; ends = inl refl }
splits zero order (octet ∷ octets) le = absurd (omega arith)
splits (suc most) order (octet ∷ octets) le =
    let all : List ℕ = octet ∷ octets in
    let some : 0 < length all = omega arith in
    elim (cases_lt (length all) 16) [
      | inl few ↦ faulty order all Short (some, inl few)
      | inr there ↦ elim (cases_lt 65535 (number_at order 8 4 all)) [
        | inl big ↦ faulty order all Length (there, inl big)
        | inr most_is ↦ elim (cases_lt (number_at order 12 4 all) (number_at order 8 4 all)) [
          | inl past ↦ faulty order all Length (there, inr past)
          | inr within ↦ elim (cases_lt (length all) (16 + number_at order 8 4 all)) [
            | inl few ↦ faulty order all Short (some, inr (record { there = there; most = most_is; within = within }, few))
            | inr whole ↦
                let n : ℕ = 16 + number_at order 8 4 all in
                let one = first_record order all there most_is within whole in
                behind_record order all (take n all) (drop n all) one.0 (sym (take-append-drop n all)) one.1
                (splits most order (drop n all) (omega (arith, length-drop n all, le)))
          ]
        ]
      ]
    ]

behind_header : (octets : List ℕ) (order : Order) → IsHeader order (take 24 octets) → Splits order (drop 24 octets)
    → ((records : List Record) × IsCapture octets records) ⊎ ((offset : ℕ) × (cause : Cause) × CaptureFault octets offset cause)
behind_header octets order h s =
    let b : Begins octets order s.records s.rest = record {
      header = take 24 octets;
      body = s.body;
      place = sym (take-append-drop 24 octets) ∙ ap (λ (t : List ℕ). take 24 octets ++ t) s.is;
      is_header = h;
      are_records = s.are_records;
    } in
    elim s.ends [
      | inl none ↦ inl (s.records, (order, subst (λ (t : List ℕ). Begins octets order s.records t) none b))
      | inr fault ↦ inr (
        24 + length s.body,
        fault.0,
        (
          s.records,
          inr (record {
            order = order;
            rest = s.rest;
            begins = b;
            fault = fault.1;
            place = omega (arith, ap length b.place, length-append (take 24 octets) (s.body ++ s.rest), length-append s.body s.rest, h.whole);
          }),
        ),
      )
    ]

header_fault : (octets : List ℕ) (offset : ℕ) (cause : Cause) → IsHeaderFault octets offset cause
    → ((records : List Record) × IsCapture octets records) ⊎ ((offset : ℕ) × (cause : Cause) × CaptureFault octets offset cause)
header_fault octets offset cause f = inr (offset, cause, ([], inl (refl, f)))

with_magic : (octets : List ℕ) (order : Order) → 24 ≤ length octets → IsMagic order octets
    → ((records : List Record) × IsCapture octets records) ⊎ ((offset : ℕ) × (cause : Cause) × CaptureFault octets offset cause)
with_magic octets order whole magic = elim (nat_or (number_at order 4 2 octets) 2) [
  | inr other ↦ header_fault octets 4 Version (order, (whole, magic), (λ v. other v.0), refl)
  | inl major ↦ elim (nat_or (number_at order 6 2 octets) 4) [
    | inr other ↦ header_fault octets 4 Version (order, (whole, magic), (λ v. other v.1), refl)
    | inl minor ↦ elim (nat_or (number_at order 20 4 octets) 1) [
      | inr other ↦ header_fault octets 20 Link (order, (whole, magic), (major, minor), other, refl)
      | inl link ↦
          behind_header octets order (stands_taken octets order whole magic (major, minor) link) (splits (length octets) order (drop 24 octets) (omega (arith, length-drop 24 octets)))
    ]
  ]
]

pub capture_or_fault : (octets : List ℕ) → ((records : List Record) × IsCapture octets records) ⊎ ((offset : ℕ) × (cause : Cause) × CaptureFault octets offset cause)
capture_or_fault octets = elim (cases_lt (length octets) 24) [
  | inl few ↦ header_fault octets 0 Short (few, refl)
  | inr whole ↦ elim (magic_or octets) [
    | inl big ↦ with_magic octets Big whole big
    | inr (inl little) ↦ with_magic octets Little whole little
    | inr (inr none) ↦ header_fault octets 0 Magic (whole, none, refl)
  ]
]
