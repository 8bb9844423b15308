-- What is written for a plain value that is allowed stands in the grammar with that value.
use Rattle.std.proofs.Common.{◌≡◌, ℕ, Bool, true, false, ◌||◌, List, refl, sym, ap, subst, ◌∙◌, arith}
use Rattle.tpdu.specs.declared.kind.Kind.TheVariants.{Cr}
use Rattle.tpdu.specs.declared.tpdu.Format.{Format}
use Rattle.tpdu.specs.declared.tpdu.Tpdu.{Tpdu}
use Rattle.tpdu.specs.Kinds.{is_request}
use Rattle.tpdu.specs.Grammar.{Spells, IsTpdu}
use Rattle.tpdu.specs.Writing.{kind_for, sums_for, parts_for, is_summed, IsSpelled, IsPlain, IsAllowed}
use Rattle.tpdu.proofs.Spellings.{length-fixed_for, length-header, count_for-is}
use Rattle.tpdu.proofs.Written.{fine}

pub or_true : (a b : Bool) → b ≡ true → (a || b) ≡ true
or_true true b e = refl
or_true false b e = e

request_summed : (sum : Bool) (tpdu : Tpdu) → kind_for tpdu ≡ Cr → is_summed sum tpdu ≡ true
request_summed sum tpdu e = or_true sum (is_request (kind_for tpdu)) (ap is_request e)

pub spelled_is : (width : Format) (sum : Bool) (tpdu : Tpdu) (octets : List ℕ) → IsSpelled width (is_summed sum tpdu) tpdu octets
    → IsPlain tpdu → IsAllowed width tpdu → IsTpdu width octets (tpdu, is_summed sum tpdu)
spelled_is width sum tpdu octets s plain allowed =
    let summed = is_summed sum tpdu in
    let parts = parts_for width tpdu (sums_for summed s.first s.second) in
    let f = fine width summed tpdu s.first s.second plain allowed in
    let spells : Spells parts octets = record {
      all = s.all;
      header = omega (arith, s.short, length-header width summed tpdu s.first s.second, count_for-is width summed tpdu);
      code = f.code;
      fixed = length-fixed_for width tpdu;
      class = f.class;
      parameters = f.parameters;
      sealed = λ h. s.sealed (sym f.has ∙ h);
      summed = λ e. f.has ∙ request_summed sum tpdu e;
      body = f.body;
    } in
    record { parts = parts; spells = spells; format_is = refl; value_is = f.value; sum_is = f.has }

pub write_ok : (width : Format) (sum : Bool) (tpdu : Tpdu) (octets : List ℕ) (summed : Bool) → summed ≡ is_summed sum tpdu → IsSpelled width summed tpdu octets
    → IsPlain tpdu → IsAllowed width tpdu → IsTpdu width octets (tpdu, is_summed sum tpdu)
write_ok width sum tpdu octets summed e s =
    spelled_is width sum tpdu octets (subst (λ (b : Bool). IsSpelled width b tpdu octets) e s)
