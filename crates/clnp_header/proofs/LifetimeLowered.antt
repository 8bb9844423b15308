-- A PDU whose fourth octet was lowered and whose checksum was mended is the PDU with a shorter lifetime.
use Rattle.std.proofs.Common.{◌≡◌, ◌≢◌, ◌==◌, not, ℕ, zero, suc, ◌+◌, ◌-◌, ◌<◌, ◌≤◌, Bool, true, false, List, ◌∷◌, ◌++◌, length, get_or, set, take, drop, refl, sym, ap, subst, ◌∙◌, append_assoc, arith, length-append, length-set, length-take-le, get_or-set_other, inl, inr}
use Rattle.std.proofs.lemmas.Bool.{cases_lt}
use Rattle.std.proofs.lemmas.List.{get_or-append_right, get_or_append_left, set-append_left, take_at, drop_at, take-append-drop}
use Rattle.clnp_header.specs.declared.pdu.Pdu.{Pdu}
use Rattle.clnp_header.specs.Grammar.{IsPdu, MayBeSegment, fixed_part, variable_part}
use Rattle.pdu_parts.specs.Checksum.{IsChecksum}
use Rattle.clnp_header.specs.Lifetime.{HasLifetime, lowered}
use Rattle.pdu_parts.specs.Front.{BeginsWith}
use Rattle.clnp_header.specs.steps.Lowering.{Lowers, lower_fourth}
use Rattle.clnp_header.specs.Writing.{SealsIf}
use Rattle.clnp_header.proofs.Parts.{fields_of, first_nine, length-variable}
use Rattle.clnp_header.proofs.Written.{HasChecksum, checksum_written}

-- ---- what lowering needs

pub record Fits (octets : List ℕ) (by : ℕ) : Type 0 where
  pub least : 13 ≤ get_or octets 1 0
  pub inside : get_or octets 1 0 ≤ length octets
  pub enough : by ≤ get_or octets 3 0

pub fits_from : (octets : List ℕ) (by : ℕ) → HasLifetime octets by → Fits octets by
fits_from octets by l =
    let pdu = l.0 in
    let rest = l.1 in
    let h = l.2.stands in
    let fields = fields_of h.header pdu h.flags (length h.header) (length l.2.front) h.first h.second h.options refl h.parts in
    let variable = length-variable pdu h.options in
    let len : length h.header ≡ 9 + length (variable_part pdu h.options) = ap length h.parts ∙ omega arith in
    let parts : octets ≡ h.header ++ (pdu.body ++ rest) = l.2.whole ∙ ap (λ (xs : List ℕ). xs ++ rest) h.whole ∙ append_assoc h.header pdu.body rest in
    let least : 13 ≤ length h.header = omega (arith, h.destination.some, h.source.some) in
    let indicator : get_or octets 1 0 ≡ length h.header = ap (λ (xs : List ℕ). get_or xs 1 0) parts ∙ get_or_append_left h.header (pdu.body ++ rest) 0 1 (omega arith) ∙ fields.indicator in
    let lifetime : get_or octets 3 0 ≡ pdu.lifetime = ap (λ (xs : List ℕ). get_or xs 3 0) parts ∙ get_or_append_left h.header (pdu.body ++ rest) 0 3 (omega arith) ∙ fields.lifetime in
    record {
      least = omega arith;
      inside = omega (arith, ap length parts, length-append h.header (pdu.body ++ rest));
      enough = omega (arith, l.3);
    }

-- ---- what it does

used_is : (used : Bool) (first second : ℕ) (header : List ℕ) → IsChecksum used first second header → not (first == 0) ≡ used
used_is false first second header h = rw h.0 refl
used_is true first second header h = let lt = h.0 in grind arith

zeros_unless : (used : Bool) (first second : ℕ) (header : List ℕ) → IsChecksum used first second header → used ≡ false → (first ≡ 0) × (second ≡ 0)
zeros_unless false first second header h unused = h
zeros_unless true first second header h unused = absurd cc

-- a header with the lifetime that is shorter makes the PDU with that lifetime
lowered_is_pdu : (front : List ℕ) (pdu : Pdu) (by : ℕ) (h : IsPdu front pdu) (header : List ℕ)
    → HasChecksum pdu.checksum_used (lowered by pdu) h.flags (length h.header) (length front) h.options header → IsPdu (header ++ pdu.body) (lowered by pdu)
lowered_is_pdu front pdu by h header c =
    let len : length h.header ≡ 9 + length (variable_part pdu h.options) = ap length h.parts ∙ omega arith in
    let length_is : length header ≡ length h.header = ap length c.parts ∙ omega arith in
    let whole_is : length (header ++ pdu.body) ≡ length front = length-append header pdu.body ∙ omega (arith, ap length h.whole, length-append h.header pdu.body) in
    let P : ℕ → Type 0 = λ n. MayBeSegment pdu.segment n (length pdu.body) in
    record {
      header = header;
      options = h.options;
      flags = h.flags;
      first = c.first;
      second = c.second;
      whole = refl;
      parts = c.parts ∙ rw (length_is, whole_is) refl;
      flags_part = h.flags_part;
      checksum = c.checksum;
      destination = h.destination;
      source = h.source;
      segment = subst P (sym whole_is) h.segment;
      options_part = h.options_part;
      header_fits = omega (arith, h.header_fits);
      pdu_fits = omega (arith, h.pdu_fits);
    }

pub is_lowered : (old : List ℕ) (by : ℕ) (new : List ℕ) → Lowers old by new → (pdu : Pdu) (rest : List ℕ) → BeginsWith IsPdu old pdu rest → BeginsWith IsPdu new (lowered by pdu) rest
is_lowered old by new l pdu rest begins =
    let front = begins.front in
    let e = begins.whole in
    let h = begins.stands in
    let header = h.header in
    let n = length header in
    let m = length front in
    let later = lowered by pdu in
    let variable = length-variable pdu h.options in
    let len : n ≡ 9 + length (variable_part pdu h.options) = ap length h.parts ∙ omega arith in
    let fields = fields_of header pdu h.flags n m h.first h.second h.options refl h.parts in
    let behind = pdu.body ++ rest in
    let parts : old ≡ header ++ behind = e ∙ ap (λ (xs : List ℕ). xs ++ rest) h.whole ∙ append_assoc header pdu.body rest in
    let at : (i : ℕ) → i < 9 → get_or old i 0 ≡ get_or header i 0 =
    λ i lt. ap (λ (xs : List ℕ). get_or xs i 0) parts ∙ get_or_append_left header behind 0 i (omega arith) in
    let indicator : get_or old 1 0 ≡ n = at 1 (omega arith) ∙ fields.indicator in
    let lifetime : get_or old 3 0 ≡ pdu.lifetime = at 3 (omega arith) ∙ fields.lifetime in
    let first : get_or old 7 0 ≡ h.first = at 7 (omega arith) ∙ fields.first_is in
    let used : not (get_or old 7 0 == 0) ≡ pdu.checksum_used = ap (λ (k : ℕ). not (k == 0)) first ∙ used_is pdu.checksum_used h.first h.second header h.checksum in
    let plain = set header 3 (pdu.lifetime - by) in
    let lower_is : lower_fourth old by ≡ plain ++ behind =
    ap (λ (k : ℕ). set old 3 (k - by)) lifetime ∙ ap (λ (xs : List ℕ). set xs 3 (pdu.lifetime - by)) parts ∙ set-append_left header behind 3 (pdu.lifetime - by) (omega arith) in
    let front_is : take (get_or old 1 0) (lower_fourth old by) ≡ plain =
    ap (λ (k : ℕ). take k (lower_fourth old by)) indicator ∙ ap (take n) lower_is ∙ take_at plain behind n (length-set header 3 (pdu.lifetime - by)) in
    let behind_is : drop (get_or old 1 0) (lower_fourth old by) ≡ behind =
    ap (λ (k : ℕ). drop k (lower_fourth old by)) indicator ∙ ap (drop n) lower_is ∙ drop_at plain behind n (length-set header 3 (pdu.lifetime - by)) in
    let plain_is : plain ≡ fixed_part n later.lifetime h.flags m h.first h.second ++ variable_part later h.options =
    ap (λ (xs : List ℕ). set xs 3 (pdu.lifetime - by)) h.parts in
    let P : Bool → List ℕ → Type 0 = λ b xs. SealsIf b xs l.header in
    let sealed : SealsIf pdu.checksum_used plain l.header = subst (λ (b : Bool). P b plain) used (subst (λ (xs : List ℕ). P (not (get_or old 7 0 == 0)) xs) front_is l.sealed) in
    let c = checksum_written pdu.checksum_used later h.flags n m h.options plain l.header h.first h.second plain_is (zeros_unless pdu.checksum_used h.first h.second header h.checksum) sealed in
    record {
      front = l.header ++ pdu.body;
      whole = l.parts ∙ ap (λ (xs : List ℕ). l.header ++ xs) behind_is ∙ sym (append_assoc l.header pdu.body rest);
      stands = lowered_is_pdu front pdu by h l.header c;
    }

-- ---- what stays

-- two octets at 7 that are written leave the others
nine_kept : (a b c d e f g h i x y : ℕ) (rest : List ℕ) (at : ℕ) → at ≢ 7 → at ≢ 8
    → get_or (a ∷ b ∷ c ∷ d ∷ e ∷ f ∷ g ∷ x ∷ y ∷ rest) at 0 ≡ get_or (a ∷ b ∷ c ∷ d ∷ e ∷ f ∷ g ∷ h ∷ i ∷ rest) at 0
nine_kept a b c d e f g h i x y rest zero first second = refl
nine_kept a b c d e f g h i x y rest (suc zero) first second = refl
nine_kept a b c d e f g h i x y rest (suc (suc zero)) first second = refl
nine_kept a b c d e f g h i x y rest (suc (suc (suc zero))) first second = refl
nine_kept a b c d e f g h i x y rest (suc (suc (suc (suc zero)))) first second = refl
nine_kept a b c d e f g h i x y rest (suc (suc (suc (suc (suc zero))))) first second = refl
nine_kept a b c d e f g h i x y rest (suc (suc (suc (suc (suc (suc zero)))))) first second = refl
nine_kept a b c d e f g h i x y rest (suc (suc (suc (suc (suc (suc (suc zero))))))) first second = absurd (first refl)
nine_kept a b c d e f g h i x y rest (suc (suc (suc (suc (suc (suc (suc (suc zero)))))))) first second = absurd (second refl)
nine_kept a b c d e f g h i x y rest (suc (suc (suc (suc (suc (suc (suc (suc (suc at))))))))) first second = refl

pair_kept : (xs : List ℕ) (x y at : ℕ) → 9 ≤ length xs → at ≢ 7 → at ≢ 8 → get_or (take 7 xs ++ x ∷ y ∷ drop 9 xs) at 0 ≡ get_or xs at 0
pair_kept xs x y at le first second =
    let nine = first_nine xs le in
    ap (λ (ys : List ℕ). get_or (take 7 ys ++ x ∷ y ∷ drop 9 ys) at 0) nine
    ∙ nine_kept (get_or xs 0 0) (get_or xs 1 0) (get_or xs 2 0) (get_or xs 3 0) (get_or xs 4 0) (get_or xs 5 0) (get_or xs 6 0) (get_or xs 7 0) (get_or xs 8 0) x y (drop 9 xs) at first second
    ∙ ap (λ (ys : List ℕ). get_or ys at 0) (sym nine)

seal_kept : (used : Bool) (plain header : List ℕ) (at : ℕ) → SealsIf used plain header → 9 ≤ length plain → at ≢ 7 → at ≢ 8 → get_or header at 0 ≡ get_or plain at 0
seal_kept false plain header at h le first second = ap (λ (ys : List ℕ). get_or ys at 0) h
seal_kept true plain header at h le first second = ap (λ (ys : List ℕ). get_or ys at 0) h.written ∙ pair_kept plain h.first h.second at le first second

length-seal : (used : Bool) (plain header : List ℕ) → SealsIf used plain header → 9 ≤ length plain → length header ≡ length plain
length-seal false plain header h le = ap length h
length-seal true plain header h le =
    let nine = first_nine plain le in
    ap length h.written ∙ ap (λ (ys : List ℕ). length (take 7 ys ++ h.first ∷ h.second ∷ drop 9 ys)) nine ∙ ap length (sym nine)

same_front : (front after behind : List ℕ) (at : ℕ) → length front ≡ length after → (at < length after → get_or front at 0 ≡ get_or after at 0) → get_or (front ++ behind) at 0 ≡ get_or (after ++ behind) at 0
same_front front after behind at len same =
    elim (cases_lt at (length after)) [
      | inl lt ↦ get_or_append_left front behind 0 at (omega arith) ∙ same lt ∙ sym (get_or_append_left after behind 0 at lt)
      | inr le ↦
          get_or-append_right front behind (length after) at 0 len le ∙ sym (get_or-append_right after behind (length after) at 0 refl le)
    ]

pub is_kept : (old : List ℕ) (by : ℕ) (new : List ℕ) → Fits old by → Lowers old by new → (at : ℕ) → at ≢ 3 → at ≢ 7 → at ≢ 8 → get_or new at 0 ≡ get_or old at 0
is_kept old by new fits l at third first second =
    let low = lower_fourth old by in
    let n = get_or old 1 0 in
    let plain = take n low in
    let length-low : length low ≡ length old = length-set old 3 (get_or old 3 0 - by) in
    let length-plain : length plain ≡ n = length-take-le n low (omega (arith, fits.inside)) in
    let nine : 9 ≤ length plain = omega (arith, fits.least) in
    let front = same_front l.header plain (drop n low) at (length-seal (not (get_or old 7 0 == 0)) plain l.header l.sealed nine) (λ lt. seal_kept (not (get_or old 7 0 == 0)) plain l.header at l.sealed nine first second) in
    ap (λ (ys : List ℕ). get_or ys at 0) l.parts ∙ front ∙ ap (λ (ys : List ℕ). get_or ys at 0) (take-append-drop n low) ∙ get_or-set_other old 3 at (get_or old 3 0 - by) 0 third
