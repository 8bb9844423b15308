-- The parts of a header, one after another, and where each stands.
use Rattle.std.proofs.Common.{◌≡◌, ℕ, ◌+◌, ◌/◌, ◌%◌, ◌<◌, ◌≤◌, List, [], ◌∷◌, ◌++◌, length, get_or, take, drop, refl, ap, ◌∙◌, arith, length-append, length-take, get_or-take, inl, inr}
use Rattle.std.proofs.lemmas.Bool.{cases_lt}
use Rattle.std.proofs.lemmas.List.{get_or_past}
use Rattle.pdu_parts.specs.Parameter.{spelled}
use Rattle.clnp_header.specs.declared.pdu.Pdu.{Pdu}
use Rattle.clnp_header.specs.Grammar.{IsPdu, fixed_part, segment_part, variable_part}
use Rattle.pdu_parts.specs.Field.{field}
use Rattle.clnp_header.specs.Writing.{header_length}
use Rattle.clnp_header.specs.Values.{parameters}

-- each octet is one
abbrev pub AreOctets : List ℕ → Type 0
AreOctets octets = (i : ℕ) → get_or octets i 0 < 256

pub AreOctets-take : (n : ℕ) (octets : List ℕ) → AreOctets octets → AreOctets (take n octets)
AreOctets-take n octets h i =
    elim (cases_lt i n) [
      | inl lt ↦ rw (get_or-take n octets i 0 lt) (h i)
      | inr le ↦ rw (get_or_past (take n octets) i 0 (omega (arith, length-take n octets))) (omega arith)
    ]

-- a list of at least nine members by its first nine
pub first_nine : (xs : List ℕ) → 9 ≤ length xs
    → xs ≡ get_or xs 0 0 ∷ get_or xs 1 0 ∷ get_or xs 2 0 ∷ get_or xs 3 0 ∷ get_or xs 4 0 ∷ get_or xs 5 0 ∷ get_or xs 6 0 ∷ get_or xs 7 0 ∷ get_or xs 8 0 ∷ drop 9 xs
first_nine [] le = absurd (omega arith)
first_nine (a ∷ []) le = absurd (omega arith)
first_nine (a ∷ b ∷ []) le = absurd (omega arith)
first_nine (a ∷ b ∷ c ∷ []) le = absurd (omega arith)
first_nine (a ∷ b ∷ c ∷ d ∷ []) le = absurd (omega arith)
first_nine (a ∷ b ∷ c ∷ d ∷ e ∷ []) le = absurd (omega arith)
first_nine (a ∷ b ∷ c ∷ d ∷ e ∷ f ∷ []) le = absurd (omega arith)
first_nine (a ∷ b ∷ c ∷ d ∷ e ∷ f ∷ g ∷ []) le = absurd (omega arith)
first_nine (a ∷ b ∷ c ∷ d ∷ e ∷ f ∷ g ∷ h ∷ []) le = absurd (omega arith)
first_nine (a ∷ b ∷ c ∷ d ∷ e ∷ f ∷ g ∷ h ∷ i ∷ xs) le = refl

-- the header of a PDU, by its fields
pub record HasFields (header : List ℕ) (pdu : Pdu) (flags pdu_length first second : ℕ) (options : List ℕ) : Type 0 where
  pub identifier : get_or header 0 0 ≡ 0x81
  pub indicator : get_or header 1 0 ≡ length header
  pub version : get_or header 2 0 ≡ 1
  pub lifetime : get_or header 3 0 ≡ pdu.lifetime
  pub flags_is : get_or header 4 0 ≡ flags
  pub higher : get_or header 5 0 ≡ pdu_length / 256
  pub lower : get_or header 6 0 ≡ pdu_length % 256
  pub first_is : get_or header 7 0 ≡ first
  pub second_is : get_or header 8 0 ≡ second
  pub variable : drop 9 header ≡ variable_part pdu options

pub fields_of : (header : List ℕ) (pdu : Pdu) (flags indicator pdu_length first second : ℕ) (options : List ℕ) → indicator ≡ length header
    → header ≡ fixed_part indicator pdu.lifetime flags pdu_length first second ++ variable_part pdu options
    → HasFields header pdu flags pdu_length first second options
fields_of header pdu flags indicator pdu_length first second options indicator-is parts = record {
  identifier = rw parts refl;
  indicator = ap (λ (h : List ℕ). get_or h 1 0) parts ∙ indicator-is;
  version = rw parts refl;
  lifetime = rw parts refl;
  flags_is = rw parts refl;
  higher = rw parts refl;
  lower = rw parts refl;
  first_is = rw parts refl;
  second_is = rw parts refl;
  variable = rw parts refl;
}

pub parts_of : (header : List ℕ) (pdu : Pdu) (flags pdu_length first second : ℕ) (options : List ℕ) → 9 ≤ length header
    → HasFields header pdu flags pdu_length first second options
    → header ≡ fixed_part (length header) pdu.lifetime flags pdu_length first second ++ variable_part pdu options
parts_of header pdu flags pdu_length first second options le h =
    first_nine header le ∙ rw (h.identifier, h.indicator, h.version, h.lifetime, h.flags_is, h.higher, h.lower, h.first_is, h.second_is, h.variable) refl

-- how long the variable part is
pub length-variable : (pdu : Pdu) (options : List ℕ)
    → length (variable_part pdu options) ≡ 2 + length pdu.destination + length pdu.source + length (segment_part pdu.segment) + length options
length-variable pdu options =
    let behind : length (segment_part pdu.segment ++ options) ≡ length (segment_part pdu.segment) + length options = length-append (segment_part pdu.segment) options in
    let source : length (field pdu.source ++ (segment_part pdu.segment ++ options)) ≡ 1 + length pdu.source + length (segment_part pdu.segment ++ options) =
    length-append (field pdu.source) (segment_part pdu.segment ++ options) ∙ omega arith in
    length-append (field pdu.destination) (field pdu.source ++ (segment_part pdu.segment ++ options)) ∙ omega arith

-- the header of a PDU has its length
pub length-header : (octets : List ℕ) (pdu : Pdu) (h : IsPdu octets pdu) → length h.header ≡ header_length pdu
length-header octets pdu h =
    let variable = length-variable pdu h.options in
    let options : length h.options ≡ length (spelled (parameters pdu.options)) = ap length h.options_part.parts in
    let whole : length h.header ≡ 9 + length (variable_part pdu h.options) = ap length h.parts ∙ omega arith in
    omega arith
