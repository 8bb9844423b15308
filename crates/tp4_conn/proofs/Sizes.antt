-- The sizes of TPDUs: a size that has a code is between the least and the greatest, and the lesser of two has one.
use Rattle.std.proofs.Common.{◌≡◌, ◌≤◌, ℕ, ◌/◌, Bool, true, false, ◌&&◌, ◌==◌, nat_le, List, [], ◌∷◌, Option, Some, None, min, refl, subst, arith, inl, inr, if◌then◌else◌}
use Rattle.std.specs.Prelude.{IsSome, unwrap_or}
use Rattle.std.proofs.lemmas.Bool.{cases_lt, eqb-true, false≢true}
use Rattle.tpdu.specs.Parameters.{Size, sizes}
use Rattle.tpdu.specs.Writing.{IsKnownSize, IsOctet, IsPreferred, code_in}
use Rattle.tpdu.specs.declared.tpdu.Format.{Format}
use Rattle.tp4_number.proofs.Past.{if_kept}
use Rattle.tpdu.specs.declared.service.Options.{Options}
use Rattle.tp4_conn.specs.declared.proposed.Proposed.{Proposed}
use Rattle.tp4_conn.specs.Agreeing.{agreed_by, confirmed_size, greatest, listed_of, number_of, options_in, proposed_by, proposed_in}
use Rattle.tp4_conn.specs.End.{IsProposal, IsSize, IsSized, IsSizedBy}

-- within these bounds
record IsWithin (n : ℕ) : Type 0 where
  least : 128 ≤ n
  most : n ≤ 8192

AreWithin : List Size → Type 0
AreWithin [] = Unit {0}
AreWithin (size ∷ list) = IsWithin size.octets × AreWithin list

one_within : (size : Size) (list : List Size) (n : ℕ) (b : Bool) → (size.octets == n) ≡ b → IsWithin size.octets → (IsSome (code_in list n) → IsWithin n)
    → IsSome (if b then Some size.code else code_in list n) → IsWithin n
one_within size list n true e first rest known = subst (λ (m : ℕ). IsWithin m) (eqb-true size.octets n e) first
one_within size list n false e first rest known = rest known

known_within : (list : List Size) → AreWithin list → (n : ℕ) → IsSome (code_in list n) → IsWithin n
unfolding AreWithin
known_within [] all n known = absurd (false≢true known)
known_within (size ∷ list) all n known = one_within size list n (size.octets == n) refl all.0 (known_within list all.1 n) known

all_within : AreWithin sizes
unfolding AreWithin
all_within =
    let w : (n : ℕ) → 128 ≤ n → n ≤ 8192 → IsWithin n = λ n low high. record { least = low; most = high } in
    (w 128 (omega arith) (omega arith), (w 256 (omega arith) (omega arith), (w 512 (omega arith) (omega arith), (w 1024 (omega arith) (omega arith), (w 2048 (omega arith) (omega arith), (w 4096 (omega arith) (omega arith), (w 8192 (omega arith) (omega arith), tt)))))))

pub size_least : (n : ℕ) → IsSize n → 128 ≤ n
unfolding IsSize
size_least n known = (known_within sizes all_within n known).least

pub size_most : (n : ℕ) → IsSize n → n ≤ 8192
unfolding IsSize
size_most n known = (known_within sizes all_within n known).most

pub size_known : (n : ℕ) → IsSome (code_in sizes n) → IsSize n
unfolding IsSize
size_known n known = known

pub known_size : (n : ℕ) → IsSize n → IsSome (code_in sizes n)
unfolding IsSize
known_size n known = known

pub size_lesser : (n m : ℕ) → IsSize n → IsSize m → IsSize (min n m)
size_lesser n m one other = elim (cases_lt n m) [
  | inl less ↦ subst (λ (k : ℕ). IsSize k) (let is : n ≡ min n m = omega (arith, less) in is) one
  | inr more ↦ subst (λ (k : ℕ). IsSize k) (let is : m ≡ min n m = omega (arith, more) in is) other
]

-- ---- preferred sizes

pub greatest_is : (size : ℕ) → IsSize (greatest size)
unfolding IsSize
greatest_is size =
    if_kept IsListed (nat_le 8192 size) _ _ (λ _. refl)
    (λ _. if_kept IsListed (nat_le 4096 size) _ _ (λ _. refl)
    (λ _. if_kept IsListed (nat_le 2048 size) _ _ (λ _. refl)
    (λ _. if_kept IsListed (nat_le 1024 size) _ _ (λ _. refl)
    (λ _. if_kept IsListed (nat_le 512 size) _ _ (λ _. refl) (λ _. if_kept IsListed (nat_le 256 size) _ _ (λ _. refl) (λ _. refl))))))
  where
    IsListed : ℕ → Type 0
    IsListed n = IsSome (code_in sizes n)

sized_by : (preferred : Bool) (size : ℕ) → IsSizedBy preferred size → (128 ≤ size) × (size ≤ 16384)
sized_by false size known = (size_least size known, let most = size_most size known in omega (arith, most))
sized_by true size known = (omega (arith, known.1, known.2), omega (arith, known.1, known.3))

pub sized_least : (o : Options) → IsSized o → 128 ≤ o.size
sized_least o sized = (sized_by o.preferred o.size sized).0

pub sized_most : (o : Options) → IsSized o → o.size ≤ 16384
sized_most o sized = (sized_by o.preferred o.size sized).1

listed_is : (o : Options) → IsSized o → IsSize (listed_of o)
listed_is o sized = by o.preferred o.size sized
  where
    by : (preferred : Bool) (size : ℕ) → IsSizedBy preferred size → IsSize (if preferred then greatest size else size)
    by true size s = greatest_is size
    by false size s = s

-- an end that calls proposes so
pub proposal_by : (o : Options) → IsSized o → IsProposal (proposed_by o)
proposal_by o sized = record { sized = sized; listed = listed_is o sized }

pub both_preferred : (a b : Bool) → (a && b) ≡ true → (a ≡ true) × (b ≡ true)
both_preferred true b is = (refl, is)
both_preferred false b is = absurd cc

-- what is agreed is a size
pub agreed_sized : (p : Proposed) (asked : Options) → IsProposal p → IsSized asked → IsSized (agreed_by p asked)
agreed_sized p asked proposal sized = by (p.options.preferred && asked.preferred) refl
  where
    lesser : (n m : ℕ) → IsSizedBy true n → IsSizedBy true m → IsSizedBy true (min n m)
    lesser n m one other = elim (cases_lt n m) [
      | inl less ↦ subst (IsSizedBy true) (let is : n ≡ min n m = omega (arith, less) in is) one
      | inr more ↦ subst (IsSizedBy true) (let is : m ≡ min n m = omega (arith, more) in is) other
    ]

    by : (b : Bool) → (p.options.preferred && asked.preferred) ≡ b → IsSizedBy b (if b then min p.options.size asked.size else min p.listed (listed_of asked))
    by true is =
        let are = both_preferred p.options.preferred asked.preferred is in
        lesser p.options.size asked.size (subst (λ (b : Bool). IsSizedBy b p.options.size) are.0 proposal.sized) (subst (λ (b : Bool). IsSizedBy b asked.size) are.1 sized)
    by false is = size_lesser p.listed (listed_of asked) proposal.listed (listed_is asked sized)

-- what is read is a size, and a proposal
named_is : (size : Option ℕ) → IsKnownSize size → IsSize (unwrap_or size 128)
unfolding IsSize
named_is None known = refl
named_is (Some size) known = known

pub read_sized : (width : Format) (size preferred : Option ℕ) (extra : ℕ) → IsKnownSize size → IsPreferred preferred → IsSized (options_in width size preferred extra)
read_sized width size None extra known some = named_is size known
read_sized width size (Some n) extra known some = (min n 128, refl, omega (arith, some), omega arith)

pub read_proposal : (width : Format) (size preferred : Option ℕ) (extra : ℕ) → IsKnownSize size → IsPreferred preferred → IsProposal (proposed_in width size preferred extra)
read_proposal width size preferred extra known some = record { sized = read_sized width size preferred extra known some; listed = named_is size known }

-- what is written is plain, and allowed
pub number_known : (o : Options) → IsSized o → IsOctet (number_of o) × IsPreferred (number_of o)
number_known o sized = by o.preferred o.size sized
  where
    by : (preferred : Bool) (size : ℕ) → IsSizedBy preferred size
        → IsOctet (if preferred then Some (size / 128) else None) × IsPreferred (if preferred then Some (size / 128) else None)
    by true size s = (omega (arith, s.1, s.3), omega (arith, s.1, s.2))
    by false size s = (tt, tt)

pub confirmed_known : (o : Options) → IsSized o → IsKnownSize (confirmed_size o)
confirmed_known o sized = by o.preferred o.size sized
  where
    by : (preferred : Bool) (size : ℕ) → IsSizedBy preferred size → IsKnownSize (if preferred then None else Some size)
    by true size s = tt
    by false size s = known_size size s
