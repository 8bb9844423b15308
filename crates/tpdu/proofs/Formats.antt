-- What has no number does not depend on the format; what is allowed is short.
use Rattle.std.proofs.Common.{◌≡◌, ◌==◌, ℕ, ◌+◌, ◌≤◌, if◌then◌else◌, Bool, true, false, List, [], ◌∷◌, ◌++◌, length, Option, Some, None, refl, sym, ◌∙◌, ap, arith, length-append}
use Rattle.tpdu.specs.declared.kind.Kind.{Kind}
use Rattle.tpdu.specs.declared.kind.Kind.TheVariants.{Cr, Dt, Ed, Ak, Ea}
use Rattle.tpdu.specs.declared.tpdu.Format.{Format}
use Rattle.tpdu.specs.declared.tpdu.Tpdu.{Tpdu}
use Rattle.tpdu.specs.Kinds.{has_number, fixed_count}
use Rattle.pdu_parts.specs.Number.{two_octets}
use Rattle.pdu_parts.specs.Parameter.{Parameter, spelled}
use Rattle.tpdu.specs.Values.{TpduAndSum, Parts, value_of, fields}
use Rattle.tpdu.specs.Grammar.{Spells, IsTpdu}
use Rattle.tpdu.specs.declared.tpdu.Tpdu.TheVariants as tpdus
use Rattle.tpdu.specs.Writing.{size_count, size_parameters, preferred_parameters, kind_for, IsAllowed, header_count, is_summed, parameters_for, connect_parameters, ack_parameters, parameter}
use Rattle.tpdu.proofs.ReadLaws.{fixed_count-bounds}
use Rattle.tpdu.proofs.Spellings.{count_for-is, sum_count}

kind-fields : (kind : Kind) (format : Format) (code : ℕ) (fixed : List ℕ) (ps : List Parameter) (body : List ℕ) → kind_for (fields kind format code fixed ps body) ≡ kind
kind-fields Cr width code fixed ps body = refl
kind-fields _ width code fixed ps body = refl

pub kind-value : (parts : Parts) → kind_for (value_of parts) ≡ parts.kind
unfolding value_of
kind-value parts = kind-fields parts.kind parts.format parts.code parts.fixed parts.parameters parts.body

same-fields : (kind : Kind) (one other : Format) (code : ℕ) (fixed : List ℕ) (ps : List Parameter) (body : List ℕ) → has_number kind ≡ false → fields kind other code fixed ps body ≡ fields kind one code fixed ps body
same-fields Dt one other code fixed ps body h = absurd cc
same-fields Ed one other code fixed ps body h = absurd cc
same-fields Ak one other code fixed ps body h = absurd cc
same-fields Ea one other code fixed ps body h = absurd cc
same-fields _ one other code fixed ps body h = refl

same-count : (kind : Kind) (one other : Format) → has_number kind ≡ false → fixed_count kind one ≡ fixed_count kind other
same-count Dt one other h = absurd cc
same-count Ed one other h = absurd cc
same-count Ak one other h = absurd cc
same-count Ea one other h = absurd cc
same-count _ one other h = refl

pub either : (one other : Format) (octets : List ℕ) (tpdu : TpduAndSum) → has_number (kind_for tpdu.0) ≡ false → IsTpdu one octets tpdu → IsTpdu other octets tpdu
unfolding value_of
either one other octets tpdu h t =
    let p : Parts = t.parts in
    let s : Spells p octets = t.spells in
    let kind : kind_for tpdu.0 ≡ p.kind = ap kind_for (sym t.value_is) ∙ kind-fields p.kind p.format p.code p.fixed p.parameters p.body in
    let none : has_number p.kind ≡ false = ap has_number (sym kind) ∙ h in
    record {
      parts = record p { format = other };
      spells = record {
        all = s.all;
        header = s.header;
        code = s.code;
        fixed = s.fixed ∙ same-count p.kind p.format other none;
        class = s.class;
        parameters = s.parameters;
        sealed = s.sealed;
        summed = s.summed;
        body = s.body;
      };
      format_is = refl;
      value_is = same-fields p.kind p.format other p.code p.fixed p.parameters p.body none ∙ t.value_is;
      sum_is = t.sum_is;
    }

few-sums : (summed : Bool) → sum_count summed ≤ 4
few-sums true = omega arith
few-sums false = omega arith

sizes_length : (size preferred : Option ℕ) (extra : ℕ) → length (spelled (size_parameters size ++ preferred_parameters preferred ++ parameter 0xC6 (extra ∷ []) ∷ [])) ≡ 3 + (size_count size + size_count preferred)
sizes_length None None extra = refl
sizes_length (Some size) None extra = refl
sizes_length size preferred extra = refl

pub connect_length : (calling called : List ℕ) (size preferred : Option ℕ) (extra : ℕ) → length (spelled (connect_parameters calling called size preferred extra)) ≡ length calling + length called + (7 + (size_count size + size_count preferred))
connect_length calling called size preferred extra =
    let rest : List Parameter = size_parameters size ++ preferred_parameters preferred ++ parameter 0xC6 (extra ∷ []) ∷ [] in
    omega (arith, length-append calling (spelled (parameter 0xC2 called ∷ rest)), length-append called (spelled rest), sizes_length size preferred extra)

few_sizes : (size : Option ℕ) → size_count size ≤ 3
few_sizes None = omega arith
few_sizes (Some size) = omega arith

ack-length : (subsequence : ℕ) → length (spelled (ack_parameters subsequence)) ≤ 4
ack-length subsequence = by (subsequence == 0)
  where
    by : (b : Bool) → length (spelled (if b then [] else parameter 0x8A (two_octets subsequence) ∷ [])) ≤ 4
    by true = omega arith
    by false = omega arith

few-parameters : (format : Format) (tpdu : Tpdu) → IsAllowed format tpdu → length (spelled (parameters_for tpdu)) ≤ 80
few-parameters _ (tpdus.Cr credit source width calling called size preferred extra version classes ack_time octets) a =
    omega (arith, connect_length calling called size preferred extra, few_sizes size, few_sizes preferred, a.calling_fits, a.called_fits)
few-parameters _ (tpdus.Cc credit destination source width calling called size preferred extra version classes ack_time octets) a =
    omega (arith, connect_length calling called size preferred extra, few_sizes size, few_sizes preferred, a.calling_fits, a.called_fits)
few-parameters _ (tpdus.Ak destination number credit subsequence confirmation) a = omega (arith, ack-length subsequence)
few-parameters _ _ a = omega arith

pub fits : (format : Format) (sum : Bool) (tpdu : Tpdu) → IsAllowed format tpdu → header_count format sum tpdu ≤ 254
fits format sum tpdu a =
    omega (arith, count_for-is format (is_summed sum tpdu) tpdu, (fixed_count-bounds (kind_for tpdu) format).1, few-sums (is_summed sum tpdu), few-parameters format tpdu a)
