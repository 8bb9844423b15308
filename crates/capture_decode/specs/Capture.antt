-- A capture (libpcap file format 2.4): a header, and records one after another.
use Rattle.std.specs.Prelude.{◌≡◌, ◌⊎◌, ◌+◌, ◌≤◌, ℕ, List, [], ◌∷◌, ◌++◌, length, drop}
use Rattle.byteorder.specs.Endian.{big_number, little_number}
use Rattle.capture_decode.specs.declared.order.Order.{Order}
use Rattle.capture_decode.specs.declared.order.Order.TheVariants.{Big, Little}

-- the number in the first octets, as many as its width, the highest first or the lowest first
abbrev pub number : Order → ℕ → List ℕ → ℕ
number Big width octets = big_number width octets
number Little width octets = little_number width octets

-- the number that stands at a place
abbrev pub number_at : Order → ℕ → ℕ → List ℕ → ℕ
number_at order at width octets = number order width (drop at octets)

-- fractions of a second are microseconds by the first magic number, and nanoseconds by the second
abbrev pub IsMagicNumber : ℕ → Type 0
IsMagicNumber value = (value ≡ 0xa1b2c3d4) ⊎ (value ≡ 0xa1b23c4d)

-- the first four octets are a magic number, read in this order
abbrev pub IsMagic : Order → List ℕ → Type 0
IsMagic order octets = IsMagicNumber (number_at order 0 4 octets)

-- version 2.4
abbrev pub IsVersion : Order → List ℕ → Type 0
IsVersion order octets = (number_at order 4 2 octets ≡ 2) × (number_at order 6 2 octets ≡ 4)

-- 24 octets: the magic number, which says the order of octets, the version, twelve octets that may be any, and link type 1
pub record IsHeader (order : Order) (octets : List ℕ) : Type 0 where
  pub whole : length octets ≡ 24
  pub magic : IsMagic order octets
  pub version : IsVersion order octets
  pub link : number_at order 20 4 octets ≡ 1

-- one captured frame: when, how many octets it had, and those that were captured
pub record Record : Type 0 where
  pub seconds : ℕ
  pub fraction : ℕ
  pub original : ℕ
  pub octets : List ℕ

-- four numbers of four octets, and then the captured octets: at most 65,535, and no more than the frame had
pub record IsRecord (order : Order) (octets : List ℕ) (one : Record) : Type 0 where
  pub seconds : one.seconds ≡ number_at order 0 4 octets
  pub fraction : one.fraction ≡ number_at order 4 4 octets
  pub captured : length one.octets ≡ number_at order 8 4 octets
  pub original : one.original ≡ number_at order 12 4 octets
  pub whole : length octets ≡ 16 + length one.octets
  pub rest : one.octets ≡ drop 16 octets
  pub most : length one.octets ≤ 65535
  pub within : length one.octets ≤ one.original

-- records one after another, and nothing else
abbrev pub AreRecords : Order → List ℕ → List Record → Type 0
AreRecords order octets [] = octets ≡ []
AreRecords order octets (one ∷ more) = (front : List ℕ) × (rest : List ℕ) × (octets ≡ front ++ rest) × IsRecord order front one × AreRecords order rest more

-- a header, whole records, and then a rest
pub record Begins (octets : List ℕ) (order : Order) (records : List Record) (rest : List ℕ) : Type 0 where
  pub header : List ℕ
  pub body : List ℕ
  pub place : octets ≡ header ++ (body ++ rest)
  pub is_header : IsHeader order header
  pub are_records : AreRecords order body records

-- the octets are a capture of these records
abbrev pub IsCapture : List ℕ → List Record → Type 0
IsCapture octets records = (order : Order) × Begins octets order records []
