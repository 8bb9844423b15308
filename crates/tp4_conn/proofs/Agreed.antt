-- What a CR proposes is read back from it, and what is agreed from its CC: the size of either is one of the listed ones, or so many times 128 octets.
-- A CC is within what was proposed since each of its parts is the lesser of two.
use Rattle.std.proofs.Common.{◌≡◌, ◌≤◌, ℕ, ◌+◌, ◌*◌, ◌/◌, ◌%◌, Bool, true, false, ◌&&◌, ◌||◌, ◌==◌, not, nat_le, min, Some, None, refl, ◌∙◌, ap, arith, if◌then◌else◌}
use Rattle.std.specs.Prelude.{is_some}
use Rattle.std.proofs.lemmas.Bool.{leb-true, le-leb}
use Rattle.tpdu.specs.declared.tpdu.Format.{Format}
use Rattle.tpdu.specs.declared.tpdu.Format.TheVariants.{Normal, Extended}
use Rattle.tp4_number.proofs.Past.{if_kept}
use Rattle.tpdu.specs.declared.service.Options.{Options}
use Rattle.tp4_conn.specs.declared.proposed.Proposed.{Proposed}
use Rattle.tp4_conn.specs.Agreeing.{agreed_by, confirmed_size, extra_of, format_of_both, greatest, is_confirmed, is_extended, listed_of, number_of, options_in, proposed_by, proposed_in, size_in, within_by}
use Rattle.tp4_conn.specs.End.{IsProposal, IsSized, IsSizedBy}
use Rattle.tp4_conn.proofs.Sizes.{agreed_sized, both_preferred}

-- ---- the additional options octet

pub expedited_back : (expedited sum : Bool) → (((if expedited then 1 else 0) + (if sum then 0 else 2)) % 2 == 1) ≡ expedited
expedited_back true true = refl
expedited_back false true = refl
expedited_back expedited sum = refl

pub sum_back : (expedited sum : Bool) → (((if expedited then 1 else 0) + (if sum then 0 else 2)) / 2 % 2 == 0) ≡ sum
sum_back true true = refl
sum_back false true = refl
sum_back expedited sum = refl

-- ---- the sizes

preferred_back : (preferred : Bool) (n : ℕ) → is_some (if preferred then Some n else None) ≡ preferred
preferred_back true n = refl
preferred_back false n = refl

units_back : (size : ℕ) → IsSizedBy true size → 128 * min (size / 128) 128 ≡ size
units_back size sized = omega (arith, sized.1, sized.3)

pub confirmed_back : (preferred : Bool) (size : ℕ) → IsSizedBy preferred size → size_in (if preferred then None else Some size) (if preferred then Some (size / 128) else None) ≡ size
confirmed_back true size sized = units_back size sized
confirmed_back false size sized = refl

requested_back : (preferred : Bool) (size : ℕ) → IsSizedBy preferred size
    → size_in (Some (if preferred then greatest size else size)) (if preferred then Some (size / 128) else None) ≡ size
requested_back true size sized = units_back size sized
requested_back false size sized = refl

-- a CC says what was agreed
pub options_back : (o : Options) → IsSized o → options_in o.format (confirmed_size o) (number_of o) (extra_of o) ≡ o
options_back o sized = λ i. record {
  format = o.format;
  size = confirmed_back o.preferred o.size sized i;
  expedited = expedited_back o.expedited o.sum i;
  sum = sum_back o.expedited o.sum i;
  preferred = preferred_back o.preferred (o.size / 128) i;
}

-- a CR says what its user asks for
pub request_back : (o : Options) → IsSized o → proposed_in o.format (Some (listed_of o)) (number_of o) (extra_of o) ≡ proposed_by o
request_back o sized = λ i. record {
  options = record {
    format = o.format;
    size = requested_back o.preferred o.size sized i;
    expedited = expedited_back o.expedited o.sum i;
    sum = sum_back o.expedited o.sum i;
    preferred = preferred_back o.preferred (o.size / 128) i;
  };
  listed = listed_of o;
}

-- ---- what is agreed

greatest_low : (size : ℕ) → 128 ≤ size → greatest size ≤ size
greatest_low size least =
    if_kept IsLow (nat_le 8192 size) _ _ (leb-true 8192 size)
    (λ _. if_kept IsLow (nat_le 4096 size) _ _ (leb-true 4096 size)
    (λ _. if_kept IsLow (nat_le 2048 size) _ _ (leb-true 2048 size)
    (λ _. if_kept IsLow (nat_le 1024 size) _ _ (leb-true 1024 size)
    (λ _. if_kept IsLow (nat_le 512 size) _ _ (leb-true 512 size) (λ _. if_kept IsLow (nat_le 256 size) _ _ (leb-true 256 size) (λ _. least))))))
  where
    IsLow : ℕ → Type 0
    IsLow n = n ≤ size

listed_low : (preferred : Bool) (size : ℕ) → IsSizedBy preferred size → (if preferred then greatest size else size) ≤ size
listed_low true size sized = greatest_low size (omega (arith, sized.1, sized.2))
listed_low false size sized = omega arith

pub agreed_lesser : (proposed : Proposed) (asked : Options) → IsSized asked → (agreed_by proposed asked).size ≤ asked.size
agreed_lesser proposed asked sized = by (proposed.options.preferred && asked.preferred)
  where
    by : (both : Bool) → (if both then min proposed.options.size asked.size else min proposed.listed (listed_of asked)) ≤ asked.size
    by true = omega arith
    by false = let low : listed_of asked ≤ asked.size = listed_low asked.preferred asked.size sized in omega (arith, low)

-- the sizes of its CC are within what was proposed
sizes_within : (proposed : Proposed) (asked : Options) → IsProposal proposed → IsSized asked
    → let o = agreed_by proposed asked in within_by proposed (confirmed_size o) (number_of o) ≡ true
sizes_within proposed asked proposal sized = by (proposed.options.preferred && asked.preferred) refl (agreed_sized proposed asked proposal sized)
  where
    by : (both : Bool) → (proposed.options.preferred && asked.preferred) ≡ both → IsSizedBy both (if both then min proposed.options.size asked.size else min proposed.listed (listed_of asked))
        → within_by proposed (if both then None else Some (if both then min proposed.options.size asked.size else min proposed.listed (listed_of asked)))
        (if both then Some ((if both then min proposed.options.size asked.size else min proposed.listed (listed_of asked)) / 128) else None) ≡ true
    by true is s =
        let are = both_preferred proposed.options.preferred asked.preferred is in
        let fits : 128 * (min proposed.options.size asked.size / 128) ≤ proposed.options.size = omega (arith, s.1) in
        ap (λ (b : Bool). b && nat_le (128 * (min proposed.options.size asked.size / 128)) proposed.options.size) are.0 ∙ le-leb _ _ fits
    by false is s = le-leb _ _ (omega arith)

pub agreed_within : (proposed : Proposed) (asked : Options) → IsProposal proposed → IsSized asked → is_confirmed proposed (agreed_by proposed asked) ≡ true
agreed_within proposed asked proposal sized =
    let o : Options = agreed_by proposed asked in
    ap (λ (q : Options). (not (is_extended q.format) || is_extended proposed.options.format) && ((not q.expedited || proposed.options.expedited)
    && ((q.sum || not proposed.options.sum) && within_by proposed (confirmed_size o) (number_of o)))) (options_back o (agreed_sized proposed asked proposal sized))
    ∙ (λ i. by_format proposed.options.format asked.format i && (by_expedited proposed.options.expedited asked.expedited i
    && (by_sum proposed.options.sum asked.sum i && sizes_within proposed asked proposal sized i)))
  where
    by_format : (p a : Format) → (not (is_extended (format_of_both p a)) || is_extended p) ≡ true
    by_format Extended Normal = refl
    by_format p a = refl

    by_expedited : (p a : Bool) → (not (p && a) || p) ≡ true
    by_expedited true true = refl
    by_expedited p a = refl

    by_sum : (p a : Bool) → ((p || a) || not p) ≡ true
    by_sum false true = refl
    by_sum p a = refl
